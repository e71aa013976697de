-- What lets an out leave, and what became of those of a step.
use Rattle.std.specs.Prelude.{ℕ, List, [], ◌∷◌, ◌++◌, ◌+◌, ◌-◌, ◌^◌, ◌≡◌, ◌≤◌, ◌<◌, ◌⊎◌, Option, Some, None, option_map}
use Rattle.std.specs.List.{AllByRecursion}
use Rattle.at_base.specs.Numbers.{Numbers}
use Rattle.at_base.specs.declared.outs.Out.{Out}
use Rattle.decision_log.specs.declared.ready.Leave.TheVariants.{Free, Echo}
use Rattle.decision_log.specs.KeptState.{IsAmong}
use Rattle.decision_log.specs.KeptRecords.{Known, tokens_of}
use Rattle.decision_log.specs.OutConditions.{IsTold, Matches, leave_of}
use Rattle.decision_log.specs.Tokens.{Token}
use Rattle.site_model.specs.Told.{Told, Made, Apart, Between, Elapses, Within, done, failed}
use Rattle.node_at.specs.Texts.{Leaving}

-- the token of the record that the step appended, and those of the live ones before it
abbrev pub given : Option Token → Known → List Token
given None k = tokens_of k.live
given (Some t) k = t ∷ tokens_of k.live

-- the record that the out waits for stands
abbrev pub IsBacked : List Token → Out → Type 0
IsBacked ts o = (t : Token) × IsAmong t ts × Matches o t

-- An out leaves where nothing need stand in the journal, where it says that nothing is known, behind the record that it
-- waits for, and where it tells an outcome that is kept.
abbrev pub MayLeave : List Token → List Numbers → Out → Type 0
MayLeave ts ids o = (leave_of o ≡ Free) ⊎ ((leave_of o ≡ Echo) ⊎ (IsBacked ts o ⊎ IsTold o ids))

abbrev pub AllMayLeave : List Token → List Numbers → List Leaving → Type 0
AllMayLeave ts ids xs = AllByRecursion (λ x. MayLeave ts ids x.out) xs

-- Of these outs, each of which may leave, in order, those calls were made, and that many failed: an out was sent, or its call
-- failed. A call that failed is among the calls as failed, or wasn't made at all.
pub data Tried (ts : List Token) (ids : List Numbers) : List Leaving → List Made → ℕ → Type 0 where
  none : Tried ts ids [] [] 0
  went : {xs all : List Leaving} {made more : List Made} {lost : ℕ} (x : Leaving) → Tried ts ids xs made lost → MayLeave ts ids x.out
      → all ≡ xs ++ x ∷ [] → more ≡ made ++ done x.call ∷ [] → Tried ts ids all more lost
  was_lost : {xs all : List Leaving} {made more : List Made} {lost total : ℕ} (x : Leaving) → Tried ts ids xs made lost → MayLeave ts ids x.out
      → all ≡ xs ++ x ∷ [] → (more ≡ made ++ failed x.call ∷ []) ⊎ (more ≡ made) → total ≡ lost + 1 → Tried ts ids all more total

-- each failure is counted, up to where the count ends
abbrev pub Counts : ℕ → ℕ → ℕ → Type 0
Counts lost before now = now < 2 ^ 64 - 1 → before + lost ≤ now

-- the outs were tried one after the other, and nothing else was done
pub record Sends (ts : List Token) (ids : List Numbers) (xs : List Leaving) (old new : Told) : Type 0 where
  pub made : List Made
  pub lost : ℕ
  pub tried : Tried ts ids xs made lost
  pub calls : new.calls ≡ option_map (λ l. l ++ made) old.calls
  pub files : new.files ≡ old.files
  pub images : Within old.images new.images
  pub time : Elapses old new (λ l c. Between old new l × old.images c)
  pub apart : Apart old new
  pub later : old.counts.link ≤ new.counts.link
  pub counted : Counts lost old.counts.link new.counts.link
  pub others : new.counts ≡ record old.counts { link = new.counts.link }
