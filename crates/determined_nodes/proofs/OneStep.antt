-- What a step is where its record's fate is known: the outs that leave, the book behind it, and what came.
use Rattle.std.specs.Prelude.{ℕ, List, [], ◌∷◌, ◌≡◌, Bool, true, false, None}
use Rattle.std.proofs.Common.{ap, append-nil, inl, inr, refl, subst, sym, ◌∙◌}
use Rattle.at_base.specs.declared.event.Event.{Event}
use Rattle.at_model.specs.Book.{Book}
use Rattle.at_model.specs.Step.{Outcome, Plan, branch, plan, step}
use Rattle.node_at.specs.Meanings.{Meaning}
use Rattle.node_at.specs.Meanings.Meaning.{Lost, Refused, Steps, Unread}
use Rattle.node_at.specs.Steps.{status_in}
use Rattle.node_at.specs.TurnText.{AreDue, DueSteps, IsFirst, IsOutcome, IsStep, TurnStep}
use Rattle.determined_nodes.specs.Outs.{LeaveOneWay}
use Rattle.determined_nodes.proofs.RecordCalls.{AsLanded}

-- a plan without a record comes to the same where it stands and where it doesn't
abbrev pub PlansArePlain : Type 0
PlansArePlain = (b : Book) (e : Event) (now : ℕ) (s : TurnStep) → IsStep b e now s → (plan b e now).entry ≡ None → (plan b e now).absent ≡ (plan b e now).landed

-- two steps that did the same
pub record DoSame (s t : TurnStep) : Type 0 where
  pub leaving : s.leaving ≡ t.leaving
  pub behind : s.behind ≡ t.behind
  pub came : s.came ≡ t.came

-- the first steps of one meaning, of whose records the same became
pub record FirstsSame (s t : TurnStep) (status other : ℕ) : Type 0 where
  pub same : DoSame s t
  pub answers : status ≡ other

step_same : (s t : TurnStep) → s.entry ≡ t.entry → s.landed ≡ t.landed → DoSame s t → s ≡ t
step_same s t e l d = λ i. record { entry = e i; landed = l i; leaving = d.leaving i; behind = d.behind i; came = d.came i }

pub first_entry : (b : Book) (now : ℕ) (meaning : Meaning) (s t : TurnStep) (status other : ℕ) → IsFirst b now meaning s status → IsFirst b now meaning t other → s.entry ≡ t.entry
first_entry b now (Refused answer text) s t status other (e, f) (g, h) = ap (λ (z : TurnStep). z.entry) (e ∙ sym g)
first_entry b now (Steps e) s t status other (is, f) (are, h) = is.entry ∙ sym are.entry
first_entry b now Lost s t status other h k = absurd h
first_entry b now Unread s t status other h k = absurd h

module _ (one : LeaveOneWay) where
  pub outcomes_same : (o p : Outcome) (s t : TurnStep) → o ≡ p → IsOutcome o s → IsOutcome p t → DoSame s t
  outcomes_same o p s t e h k = record {
    leaving = one p.outs s.leaving t.leaving (subst (λ (z : Outcome). IsOutcome z s) e h).leaving k.leaving;
    behind = h.behind ∙ ap (λ (z : Outcome). z.book) e ∙ sym k.behind;
    came = h.came ∙ ap (λ (z : Outcome). z.effects) e ∙ sym k.came;
  }

  pub due_same : (os : List Outcome) (ss ts : List TurnStep) → AreDue os ss → AreDue os ts → ss ≡ ts
  due_same [] [] [] h k = refl
  due_same [] [] (t ∷ ts) h k = absurd k
  due_same [] (s ∷ ss) ts h k = absurd h
  due_same (o ∷ os) [] ts h k = absurd h
  due_same (o ∷ os) (s ∷ ss) [] h k = absurd k
  due_same (o ∷ os) (s ∷ ss) (t ∷ ts) (e, l, is, more) (f, m, are, rest) =
      let first = step_same s t (e ∙ sym f) (l ∙ sym m) (outcomes_same o o s t refl is are) in
      λ i. first i ∷ due_same os ss ts more rest i

  -- all that are due
  pub all_due_same : (now : ℕ) (b c : Book) (ss ts : List TurnStep) → b ≡ c → DueSteps now b [] ss → DueSteps now c [] ts → ss ≡ ts
  all_due_same now b c ss ts same d e =
      let f = subst (λ z. DueSteps now z [] ss) same d in
      due_same e.done ss ts (subst (λ z. AreDue z ss) (sym (append-nil f.done) ∙ f.all ∙ sym e.all ∙ append-nil e.done) f.are) e.are

  module _ (plain : PlansArePlain) where
    branches : (p : Plan) (landed other : Bool) → (p.entry ≡ None → p.absent ≡ p.landed) → AsLanded p.entry landed other → branch p landed ≡ branch p other
    branches p landed other is_plain (inr e) = ap (branch p) e
    branches p true true is_plain (inl none) = refl
    branches p true false is_plain (inl none) = sym (is_plain none)
    branches p false true is_plain (inl none) = is_plain none
    branches p false false is_plain (inl none) = refl

    pub steps_same : (b : Book) (e : Event) (now : ℕ) (s t : TurnStep) → IsStep b e now s → IsStep b e now t → AsLanded s.entry s.landed t.landed → step b e now s.landed ≡ step b e now t.landed
    steps_same b e now s t is are so = branches (plan b e now) s.landed t.landed (plain b e now s is) (subst (λ o. AsLanded o s.landed t.landed) is.entry so)

    pub firsts_same : (b : Book) (now : ℕ) (meaning : Meaning) (s t : TurnStep) (status other : ℕ) → IsFirst b now meaning s status → IsFirst b now meaning t other → AsLanded s.entry s.landed t.landed
        → FirstsSame s t status other
    firsts_same b now (Refused answer text) s t status other (e, f) (g, h) so =
        let same : s ≡ t = e ∙ sym g in
        record { same = record { leaving = ap (λ (z : TurnStep). z.leaving) same; behind = ap (λ (z : TurnStep). z.behind) same; came = ap (λ (z : TurnStep). z.came) same }; answers = f ∙ sym h }
    firsts_same b now (Steps e) s t status other (is, f) (are, h) so =
        let o = steps_same b e now s t is are so in
        record { same = outcomes_same (step b e now s.landed) (step b e now t.landed) s t o is.outcome are.outcome; answers = f ∙ ap (λ (z : Outcome). status_in z.outs) o ∙ sym h }
    firsts_same b now Lost s t status other h k so = absurd h
    firsts_same b now Unread s t status other h k so = absurd h
