-- What leaves in a step of a node may leave.
use Rattle.std.proofs.Common.{ℕ, List, [], ◌∷◌, ◌++◌, ◌≡◌, inl, Bool, true, false, Option, Some, None, refl, sym, ◌∙◌, ap, subst, option_map}
use Rattle.std.specs.List.{AllByRecursion}
use Rattle.at_base.specs.Numbers.{Numbers}
use Rattle.at_base.specs.declared.event.Event.{Event}
use Rattle.at_base.specs.declared.outs.Out.{Out}
use Rattle.at_base.specs.declared.record.Record.{Record}
use Rattle.at_model.specs.Book.{Book}
use Rattle.at_model.specs.Step.{plan}
use Rattle.decision_log.specs.KeptRecords.{Known}
use Rattle.decision_log.specs.Tokens.{Token, token_of}
use Rattle.interposition.specs.declared.plan.Plan.{Plan}
use Rattle.interposition.specs.PlanResults.{recorded, sent}
use Rattle.interposition.specs.ModelSteps.{IsStep}
use Rattle.node_at.specs.PromiseLaws.{OutsMayLeave}
use Rattle.node_at.specs.Promises.{PromisesStand}
use Rattle.node_at.specs.Sends.{AllMayLeave, MayLeave, given}
use Rattle.node_at.specs.Steps.{if_landed}
use Rattle.node_at.specs.Texts.{AreLeaving, Leaving}
use Rattle.node_at.specs.Texts.AreLeaving.{none, leaves, stays}
use Rattle.node_at.specs.TurnText.{answered}
use Rattle.node_at.proofs.IdFacts.{all_join}

all_front : {A : Type 0} (P : A → Type 0) (xs : List A) (y : A) → AllByRecursion P (xs ++ y ∷ []) → AllByRecursion P xs × P y
all_front P [] y (h, k) = (tt, h)
all_front P (x ∷ xs) y (h, hs) = let (i, j) = all_front P xs y hs in ((h, i), j)

abbrev IsOutOf : (Out → Type 0) → Leaving → Type 0
IsOutOf P x = P x.out

those_leaving : {os : List Out} {xs : List Leaving} (P : Out → Type 0) → AreLeaving os xs → AllByRecursion P os → AllByRecursion (IsOutOf P) xs
those_leaving P none h = tt
those_leaving P (leaves {os = os} {xs = xs} x are call e f) h =
    let (front, last) = all_front P os x.out (subst (AllByRecursion P) e h) in
    subst (AllByRecursion (IsOutOf P)) (sym f) (all_join (IsOutOf P) xs (x ∷ []) (those_leaving P are front) (last, tt))
those_leaving P (stays {os = os} o are call e) h = those_leaving P are (all_front P os o (subst (AllByRecursion P) e h)).0

abbrev tokens : Bool → Option Record → Known → List Token
tokens landed entry k = given (option_map token_of (if_landed landed entry)) k

module _ (may : OutsMayLeave) (b : Book) (k : Known) (e : Event) (now : ℕ) (h : PromisesStand b k) where
  step_may : (landed : Bool) (p : Plan) (entry : Option Record) (xs : List Leaving) → IsStep p b e now → recorded p ≡ entry → AreLeaving (sent p landed).outs xs
      → AllMayLeave (tokens landed entry k) k.done xs
  step_may landed p entry xs is re are =
      those_leaving (MayLeave (tokens landed entry k) k.done) are
      (subst (λ z. AllByRecursion (MayLeave (tokens landed z k) k.done) (sent p landed).outs) (sym is.entry ∙ re)
      (subst (AllByRecursion (MayLeave (tokens landed (plan b e now).entry k) k.done)) (sym (is.outs landed)) (may b k e now landed h.ready h.promised)))

  pub plain_may : (l : Known) (p : Plan) (xs : List Leaving) → l ≡ k → IsStep p b e now → recorded p ≡ None → AreLeaving (sent p true).outs xs → AllMayLeave (given None l) l.done xs
  plain_may l p xs same is re are = subst (λ z. AllMayLeave (given None z) z.done xs) (sym same) (step_may true p None xs is re are)

  pub landed_may : (l : Known) (p : Plan) (r : Record) (xs : List Leaving) → l ≡ k → IsStep p b e now → recorded p ≡ Some r → AreLeaving (sent p true).outs xs
      → AllMayLeave (given (Some (token_of r)) l) l.done xs
  landed_may l p r xs same is re are = subst (λ z. AllMayLeave (given (Some (token_of r)) z) z.done xs) (sym same) (step_may true p (Some r) xs is re are)

  pub absent_may : (l : Known) (p : Plan) (r : Record) (xs : List Leaving) → l ≡ k → IsStep p b e now → recorded p ≡ Some r → AreLeaving (sent p false).outs xs
      → AllMayLeave (given None l) l.done xs
  absent_may l p r xs same is re are = subst (λ z. AllMayLeave (given None z) z.done xs) (sym same) (step_may false p (Some r) xs is re are)

-- the token that was given is that of the record
pub given_as : (t : Token) (q r : Record) (k : Known) (xs : List Leaving) → t ≡ token_of q → q ≡ r → AllMayLeave (given (Some (token_of r)) k) k.done xs → AllMayLeave (given (Some t) k) k.done xs
given_as t q r k xs te re h = subst (λ z. AllMayLeave (given (Some z) k) k.done xs) (sym (te ∙ ap token_of re)) h

-- the answer of a refusal waits for nothing
pub answer_may : (ts : List Token) (ids : List Numbers) (status : ℕ) (text : Option (List ℕ)) (xs : List Leaving) → xs ≡ answered status text ∷ [] → AllMayLeave ts ids xs
answer_may ts ids status text xs e = subst (AllMayLeave ts ids) (sym e) (inl refl, tt)
