-- Asking the items that are due, one after the other.
use Rattle.std.proofs.Common.{ℕ, List, [], ◌∷◌, ◌++◌, ◌≡◌, ◌≤◌, inl, Bool, true, false, Option, Some, None, refl, sym, ◌∙◌, ap, subst, arith}
use Rattle.std.proofs.lemmas.List.{append_assoc}
use Rattle.at_base.specs.declared.event.Event.{Event}
use Rattle.at_base.specs.declared.event.Event.TheVariants as events
use Rattle.at_base.specs.declared.event.Item.{Item}
use Rattle.at_base.specs.declared.record.Record.{Record}
use Rattle.at_model.specs.Step.{Outcome, plan, step}
use Rattle.interposition.specs.Due.{FindsTheDue, WalksTheDue, due_outcome, due_outcomes, items_behind, next_item}
use Rattle.model_laws.specs.Order.{IsRising}
use Rattle.model_laws.specs.BookBounds.{IsSound, IsSoundEvent, RecordsAreWellFormed}
use Rattle.at_base.specs.WellFormed.{IsWellFormed}
use Rattle.decision_log.specs.KeptRecords.{IsKept, KeepsOn, Known}
use Rattle.site_model.specs.Told.{Told}
use Rattle.node_at.specs.PromiseLaws.{PromisesStay}
use Rattle.node_at.specs.declared.due.DueEnd.TheVariants as ends
use Rattle.node_at.specs.declared.step.Stepped.{Stepped}
use Rattle.node_at.specs.declared.step.Stepped.TheVariants as stepped
use Rattle.node_at.specs.Doings.{Ran}
use Rattle.node_at.specs.Dues.{DueOne, DueRun, IsDueStep, SoFar, is_some_step}
use Rattle.node_at.specs.Promises.{PromisesStand}
use Rattle.node_at.specs.State.{IsNode, State}
use Rattle.node_at.specs.Steps.{IsFate, Keeping, Steps, if_landed, kept_by}
use Rattle.node_at.specs.TurnText.{AreDue, IsOutcome, TurnStep}
use Rattle.node_at.proofs.Rows.{no_less_same, ran_on, ran_one, ran_still}

-- A node stays one.
kept_after : (landed : Bool) (entry : Option Record) (k : Known) → KeepsOn → IsKept k → ((r : Record) → entry ≡ Some r → IsWellFormed r) → IsKept (kept_by (if_landed landed entry) k)
kept_after true (Some r) k on h formed = on k r h (formed r refl)
kept_after false (Some r) k on h formed = h
kept_after true None k on h formed = h
kept_after false None k on h formed = h

pub node_after : (result : Stepped) (n m : State) (e : Event) (now : ℕ) (old new : Told) → KeepsOn → PromisesStay → RecordsAreWellFormed → IsSoundEvent e → IsNode n → Steps result n m e now old new
    → IsSound m.book → n.journal.end ≤ m.journal.end → IsNode m
node_after (stepped.Done status) n m e now old new on stay formed event h w sound later = record {
  sound = sound;
  kept = subst IsKept (sym w.went.kept) (kept_after w.landed (plan n.book e now).entry n.kept on h.kept (λ r is. formed.entry n.book e now r h.sound event is));
  promises = subst (λ z. PromisesStand z m.kept) (sym w.went.book)
      (subst (PromisesStand (step n.book e now w.landed).book) (sym w.went.kept) (stay.steps n.book n.kept e now w.landed h.promises));
  sure = w.went.sure ∙ sym w.went.runs;
  begun = omega (arith, h.begun, later);
}
node_after stepped.NoRoom n m e now old new on stay formed event h w sound later = subst IsNode (sym w) h
node_after stepped.Halted n m e now old new on stay formed event h w sound later = record {
  sound = sound;
  kept = subst IsKept (sym (ap (λ (z : State). z.kept) w.stopped.same)) h.kept;
  promises = subst (λ (z : State). PromisesStand z.book z.kept) (sym w.stopped.same) h.promises;
  sure = w.stopped.unsure ∙ sym (ap (λ (z : State). z.halted) w.stopped.same);
  begun = omega (arith, h.begun, later);
}

-- one step of an item that is due
pub due_done : (status now : ℕ) (item : Item) (n m : State) (old new : Told) → WalksTheDue → IsNode n → n.halted ≡ false → Steps (stepped.Done status) n m (events.Due item) now old new
    → Keeping old new → IsDueStep true now item n m old new
due_done status now item n m old new walks node runs w k =
    let none : (plan n.book (events.Due item) now).entry ≡ None = walks.unrecorded n.book now item in
    let fate = subst (λ z. IsFate w.landed z n.journal w.went.first old new) none w.went.fate in
    let s : TurnStep = record {
      entry = (plan n.book (events.Due item) now).entry;
      landed = w.landed;
      leaving = w.leaving;
      behind = (step n.book (events.Due item) now w.landed).book;
      came = (step n.book (events.Due item) now w.landed).effects;
    } in
    record {
      step = s;
      entry = none;
      landed = fate.1;
      outcome = subst (λ z. IsOutcome (step n.book (events.Due item) now z) s) fate.1 (record { leaving = w.are; behind = refl; came = refl });
      one = ran_one s n m old new w.went k (node.sure ∙ runs) runs;
      book = w.went.book ∙ ap (λ z. (step n.book (events.Due item) now z).book) fate.1;
    }

pub due_not : (now : ℕ) (item : Item) (n m : State) (old new : Told) → Steps stepped.NoRoom n m (events.Due item) now old new → IsDueStep false now item n m old new
due_not now item n m old new w = w

abbrev IsSome : Option Record → Type 0
IsSome None = ⊥
IsSome (Some r) = Unit {0}

-- it never halts
pub due_never : {P : Type 0} (now : ℕ) (item : Item) (n m : State) (old new : Told) → WalksTheDue → Steps stepped.Halted n m (events.Due item) now old new → P
due_never now item n m old new walks w = absurd (subst IsSome (sym w.is ∙ walks.unrecorded n.book now item) tt)

-- The way so far.
pub far_begin : (now : ℕ) (n : State) (old : Told) → FindsTheDue → SoFar now None false n n old old
far_begin now n old finds = record {
  steps = [];
  doings = [];
  done = [];
  are = tt;
  all = ap (λ z. due_outcomes now z n.book) (finds.all n.book);
  ran = ran_still n old old (record { files = refl; images = λ c now. now; calls = refl; time = record { adds = λ l c past. inl past; keeps = λ l c past. past } }) (no_less_same old.counts old.counts refl);
  some = refl;
}

due_append : (os ps : List Outcome) (xs ys : List TurnStep) → AreDue os xs → AreDue ps ys → AreDue (os ++ ps) (xs ++ ys)
due_append [] ps [] ys h k = k
due_append [] ps (x ∷ xs) ys h k = absurd h
due_append (o ∷ os) ps [] ys h k = absurd h
due_append (o ∷ os) ps (x ∷ xs) ys (e, l, i, h) k = (e, l, i, due_append os ps xs ys h k)

some_append : (xs : List TurnStep) (s : TurnStep) → true ≡ is_some_step (xs ++ s ∷ [])
some_append [] s = refl
some_append (x ∷ xs) s = refl

pub far_more : (now : ℕ) (after : Option Item) (came : Bool) (item : Item) (n k l m : State) (old mid new : Told) → WalksTheDue → IsRising k.book → next_item k.book now after ≡ Some item
    → SoFar now after came n k old mid → l ≡ k → DueOne now item l m mid new → SoFar now (Some item) true n m old new
far_more now after came item n k l m old mid new walks rising found h same step =
    let one : DueOne now item k m mid new = subst (λ z. DueOne now item z m mid new) same step in
    let o : Outcome = due_outcome k.book now item in
    let next = walks.next k.book now after item rising found in
    record {
      steps = h.steps ++ one.step ∷ [];
      doings = h.doings ++ one.one.doing ∷ [];
      done = h.done ++ o ∷ [];
      are = due_append h.done (o ∷ []) h.steps (one.step ∷ []) h.are (one.entry, one.landed, one.outcome, tt);
      all = append_assoc h.done (o ∷ []) (due_outcomes now (items_behind m.book (Some item)) m.book)
          ∙ ap (λ z. h.done ++ o ∷ due_outcomes now (items_behind z (Some item)) z) one.book
          ∙ ap (λ z. h.done ++ z) (sym next) ∙ h.all;
      ran = ran_on [] n k m old mid new h.steps (one.step ∷ []) h.doings (one.one.doing ∷ []) h.ran one.one.ran;
      some = some_append h.steps one.step;
    }

pub far_all : (now : ℕ) (after : Option Item) (came : Bool) (n m : State) (old new : Told) → WalksTheDue → IsRising m.book → next_item m.book now after ≡ None
    → SoFar now after came n m old new → DueRun ends.All now n m old new
far_all now after came n m old new walks rising none h = record {
  steps = h.steps;
  doings = h.doings;
  left = [];
  due = record { done = h.done; are = h.are; all = ap (λ z. h.done ++ z) (sym (walks.over m.book now after rising none)) ∙ h.all };
  ran = h.ran;
  ends = refl;
}

abbrev IsNil : List Outcome → Type 0
IsNil [] = Unit {0}
IsNil (o ∷ os) = ⊥

pub far_cut : (now : ℕ) (after : Option Item) (came : Bool) (item : Item) (n k m : State) (old new : Told) → WalksTheDue → IsRising k.book → next_item k.book now after ≡ Some item
    → SoFar now after came n k old new → m ≡ k → DueRun (ends.NoRoom came) now n m old new
far_cut now after came item n k m old new walks rising found h same =
    let next = walks.next k.book now after item rising found in
    record {
      steps = h.steps;
      doings = h.doings;
      left = due_outcomes now (items_behind k.book after) k.book;
      due = record { done = h.done; are = h.are; all = h.all };
      ran = subst (λ z. Ran [] h.steps h.doings n z old new) (sym same) h.ran;
      ends = (λ e. subst IsNil (sym e ∙ next) tt, h.some);
    }
