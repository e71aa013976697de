-- The calls that are kept of an event that stops, and what stands behind them.
use Rattle.std.specs.Prelude.{ℕ, List, [], ◌∷◌, ◌++◌, ◌+◌, ◌≡◌, ◌≤◌, ◌⊎◌, Bool, true, false, length, map, take, zero, suc}
use Rattle.std.specs.List.{AllByRecursion}
use Rattle.std.proofs.Common.{refl, sym, ap, ◌∙◌, arith}
use Rattle.std.proofs.lemmas.List.{take-append-le}
use Rattle.std.proofs.Math.Seq.{take-append-add}
use Rattle.at_base.specs.declared.record.Record.{Record}
use Rattle.journal_at.specs.declared.journal.Journal.{Journal}
use Rattle.journal_at.specs.declared.version.Version.TheVariants.{Two}
use Rattle.mirrored_nets.specs.Fates.{is_disk}
use Rattle.mirrored_nets.proofs.CallRows.{AreOnDisk, AreParts, AreSendings}
use Rattle.node_at.specs.Doings.{Doing, deeds_of}
use Rattle.node_at.specs.Moments.{sent_of as sent_in}
use Rattle.node_at.specs.TurnText.{TurnStep}
use Rattle.node_events.specs.NodeEvents.{all_made}
use Rattle.node_worlds.specs.Crashes.{IsNoPost}
use Rattle.node_worlds.specs.SentPosts.{recorded}
use Rattle.node_worlds.proofs.Rows.{sent_append}
use Rattle.record_bytes.specs.Bytes.{bytes_of}
use Rattle.record_bytes.specs.Versions.{IsRecord}
use Rattle.site_model.specs.Told.{Call, Made, done, sent_by, sent_if}
use Rattle.torn_appends.specs.TornAppends.{TouchesNone, append_calls, up_to}
use Rattle.torn_appends.specs.TornAppends.{IsSending as TouchesNoFile}

-- The record of steps that all stand: there is none, or all calls of its append were done.
abbrev pub HasRecord : Journal → List Made → List TurnStep → Type 0
HasRecord j disk steps =
    ((disk ≡ []) × (recorded steps ≡ [])) ⊎ ((r : Record) × IsRecord Two r (bytes_of r) × (disk ≡ map done (append_calls j (bytes_of r))) × (recorded steps ≡ r ∷ []))

-- The calls of steps that all stand, behind those of a line, which post nothing: those of their record, their answers and posts, and then the
-- journal may be written anew.
pub record AreCallsOf (j : Journal) (lines : ℕ) (made : List Made) (steps : List TurnStep) (doings : List Doing) : Type 0 where
  pub line : List Made
  pub disk : List Made
  pub anew : List Made
  pub are : made ≡ line ++ (disk ++ (all_made doings ++ anew))
  pub long : length line ≡ lines
  pub said : AreSendings line
  pub no_posts : AllByRecursion IsNoPost (sent_by line)
  pub parts : AreParts disk (all_made doings) anew
  pub record_is : HasRecord j disk steps

-- answers and posts touch no file
touches_none : (c : Call) → is_disk c ≡ false → TouchesNone c
touches_none (Call.Write file place bytes) e = absurd cc
touches_none (Call.Sync file) e = absurd cc
touches_none (Call.Send bytes) e = tt
touches_none (Call.Post host port bytes) e = tt

pub touch_none : (ms : List Made) → AreSendings ms → AllByRecursion TouchesNoFile ms
touch_none [] h = tt
touch_none (m ∷ ms) (h, more) = (touches_none m.call h, touch_none ms more)

pub all_take : {A : Type 0} (P : A → Type 0) (k : ℕ) (xs : List A) → AllByRecursion P xs → AllByRecursion P (take k xs)
all_take P zero xs h = tt
all_take P (suc k) [] h = tt
all_take P (suc k) (x ∷ xs) (h, more) = (h, all_take P k xs more)

pub all_both : {A : Type 0} (P : A → Type 0) (xs ys : List A) → AllByRecursion P xs → AllByRecursion P ys → AllByRecursion P (xs ++ ys)
all_both P [] ys h k = k
all_both P (x ∷ xs) ys (h, more) k = (h, all_both P xs ys more k)

-- calls of the disk send nothing
none_sent : (b : Bool) (c : Call) → is_disk c ≡ true → sent_if b c ≡ []
none_sent false c e = refl
none_sent true (Call.Write file place bytes) e = refl
none_sent true (Call.Sync file) e = refl
none_sent true (Call.Send bytes) e = absurd cc
none_sent true (Call.Post host port bytes) e = absurd cc

pub silent : (ms : List Made) → AreOnDisk ms → sent_by ms ≡ []
silent [] h = refl
silent (m ∷ ms) (h, more) = λ i. none_sent m.done m.call h i ++ silent ms more i

-- what was sent of such a beginning
pub taken_sent : (line front back : List Made) → AreOnDisk front → sent_by (line ++ (front ++ back)) ≡ sent_by line ++ sent_by back
taken_sent line front back h = sent_append line (front ++ back) ∙ ap (λ z. sent_by line ++ z) (sent_append front back ∙ ap (λ z. z ++ sent_by back) (silent front h))

pub sent_all : (ds : List Doing) → sent_in (deeds_of ds) ≡ sent_by (all_made ds)
sent_all [] = refl
sent_all (d ∷ ds) = ap (λ z. sent_by d.made ++ z) (sent_all ds) ∙ sym (sent_append d.made (all_made ds))

-- the first of a row's calls, all of which were done
pub take_up_to : (k : ℕ) (cs : List Call) (rest : List Made) → k ≤ length cs → take k (map done cs ++ rest) ≡ up_to k true cs
take_up_to zero cs rest most = refl
take_up_to (suc k) [] rest most = absurd (omega (arith, most))
take_up_to (suc zero) (c ∷ cs) rest most = refl
take_up_to (suc (suc k)) (c ∷ cs) rest most = ap (λ z. done c ∷ z) (take_up_to (suc k) cs rest (omega (arith, most)))

-- calls that begin behind some others
pub take_behind : {A : Type 0} (k l n : ℕ) (xs ys : List A) → length xs ≡ l → n ≡ l + k → take n (xs ++ ys) ≡ xs ++ take k ys
take_behind k l n xs ys long e = ap (λ z. take z (xs ++ ys)) (e ∙ ap (λ z. z + k) (sym long)) ∙ take-append-add xs ys k

module _ (j : Journal) (lines : ℕ) (made : List Made) (steps : List TurnStep) (doings : List Doing) (C : AreCallsOf j lines made steps doings) where
  -- so many are kept behind the line
  pub taken : (k kept : ℕ) → kept ≡ lines + k → take kept made ≡ C.line ++ take k (C.disk ++ (all_made doings ++ C.anew))
  taken k kept e = ap (take kept) C.are ∙ take_behind k lines kept C.line (C.disk ++ (all_made doings ++ C.anew)) C.long e

  -- in the line
  pub taken_line : (kept : ℕ) → kept ≤ lines → take kept made ≡ take kept C.line
  taken_line kept most = ap (take kept) C.are ∙ take-append-le kept C.line (C.disk ++ (all_made doings ++ C.anew)) (let l = C.long in omega (arith, most, l))

  -- in an append
  pub taken_append : (r : Record) → C.disk ≡ map done (append_calls j (bytes_of r)) → (k kept : ℕ) → k ≤ 4 → kept ≡ lines + k → take kept made ≡ C.line ++ up_to k true (append_calls j (bytes_of r))
  taken_append r is k kept most e =
      taken k kept e
      ∙ ap (λ z. C.line ++ z) (ap (λ z. take k (z ++ (all_made doings ++ C.anew))) is ∙ take_up_to k (append_calls j (bytes_of r)) (all_made doings ++ C.anew) most)

  -- behind it
  pub taken_behind : (r : Record) → C.disk ≡ map done (append_calls j (bytes_of r)) → (k kept : ℕ) → k ≤ length (all_made doings) → kept ≡ lines + (4 + k)
      → take kept made ≡ C.line ++ (map done (append_calls j (bytes_of r)) ++ take k (all_made doings))
  taken_behind r is k kept most e =
      taken (4 + k) kept e
      ∙ ap (λ z. C.line ++ z) (ap (λ z. take (4 + k) (z ++ (all_made doings ++ C.anew))) is
      ∙ take_behind k 4 (4 + k) (map done (append_calls j (bytes_of r))) (all_made doings ++ C.anew) refl refl
      ∙ ap (λ z. map done (append_calls j (bytes_of r)) ++ z) (take-append-le k (all_made doings) C.anew most))

  -- where there is no record
  pub taken_outs : C.disk ≡ [] → (k kept : ℕ) → k ≤ length (all_made doings) → kept ≡ lines + k → take kept made ≡ C.line ++ take k (all_made doings)
  taken_outs none k kept most e =
      taken k kept e ∙ ap (λ z. C.line ++ z) (ap (λ z. take k (z ++ (all_made doings ++ C.anew))) none ∙ take-append-le k (all_made doings) C.anew most)
