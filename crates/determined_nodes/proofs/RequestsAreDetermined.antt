-- Two requests of nodes that are alike do the same.
use Rattle.std.specs.Prelude.{ℕ, List, [], ◌++◌, ◌≡◌, false, Option, Some, None, length}
use Rattle.std.proofs.Common.{ap, refl, subst, sym, ◌∙◌}
use Rattle.at_base.specs.Numbers.{Numbers}
use Rattle.at_base.specs.declared.event.Event.TheVariants as events
use Rattle.at_base.specs.declared.event.Local.{Local}
use Rattle.at_model.specs.Activities.{Refusal as Reason}
use Rattle.at_model.specs.Step.{refuses}
use Rattle.completion_at.specs.Names.{refusal_of}
use Rattle.completion_at.specs.declared.requests.Refusal.{Refusal}
use Rattle.completion_at.specs.declared.requests.Refusal.TheVariants as refusals
use Rattle.node_at.specs.Locals.{answered_id, cleared}
use Rattle.node_at.specs.Meanings.Meaning.{Steps}
use Rattle.node_at.specs.State.{State, seen}
use Rattle.node_at.specs.declared.local.Locally.{Locally}
use Rattle.node_at.specs.declared.local.Locally.TheVariants as answers
use Rattle.node_events.proofs.PlannedSteps.{step_of}
use Rattle.record_bytes.specs.Versions.{AreBodies as RecordsAreBodies}
use Rattle.site_memory.specs.Devices.{calls_in}
use Rattle.site_memory.specs.ToldCalls.{CallsFailAsTold, LinksHold}
use Rattle.site_model.specs.Told.{Made}
use Rattle.determined_nodes.specs.Outs.{LeaveOneWay}
use Rattle.determined_nodes.specs.RequestsAreDetermined.{RequestsAreDetermined}
use Rattle.determined_nodes.specs.SameNodes.{IsSameBehind, IsSameJournal, IsSameNode}
use Rattle.determined_nodes.proofs.DidRequests.{AskedSo, DidAsk, did_ask}
use Rattle.determined_nodes.proofs.DidRequests.AskedSo.{has_halted, was_done, was_refused}
use Rattle.determined_nodes.proofs.Leavings.{OneText, leave_one_way}
use Rattle.determined_nodes.proofs.OneStep.{PlansArePlain}
use Rattle.determined_nodes.proofs.StepsBehind.{LeftBy, behind_same}
use Rattle.determined_nodes.proofs.TwoHalts.{HaltedAt, SameHalts, not_halted, same_halts, turned_back}
use Rattle.determined_nodes.proofs.TwoRuns.{DidSteps, StepsSame, entries, steps_same_two}

pub record SameAsks (r s : Locally) (m q : State) (made also : List Made) : Type 0 where
  pub answer : r ≡ s
  pub calls : made ≡ also
  pub node : IsSameBehind m q

some_id : (a b : Numbers) → Some a ≡ Some b → a ≡ b
some_id a b e = cc

some_reason : (a b : Reason) → Some a ≡ Some b → a ≡ b
some_reason a b e = cc

no_reason : (a : Reason) → None ≡ Some a → ⊥
no_reason a e = cc

reasons_apart : (a b : Refusal) → refusal_of a ≡ refusal_of b → a ≡ b
reasons_apart refusals.Stale refusals.Stale e = refl
reasons_apart refusals.Full refusals.Full e = refl
reasons_apart refusals.Spent refusals.Spent e = refl
reasons_apart refusals.Stale refusals.Full e = absurd cc
reasons_apart refusals.Stale refusals.Spent e = absurd cc
reasons_apart refusals.Full refusals.Stale e = absurd cc
reasons_apart refusals.Full refusals.Spent e = absurd cc
reasons_apart refusals.Spent refusals.Stale e = absurd cc
reasons_apart refusals.Spent refusals.Full e = absurd cc

module _ (one : LeaveOneWay) (plain : PlansArePlain) (since fails now then : ℕ) (request : Local) (r s : Locally) (n m p q : State) (made also : List Made) (same : IsSameNode n p) (runs : n.halted ≡ false) (times : now ≡ then) where
  j : IsSameJournal n.journal p.journal
  j = same.journal runs

  calmed : IsSameBehind (cleared n) (cleared p)
  calmed = record { same = record { book = same.book; kept = same.kept; halted = same.halted; journal = same.journal }; effects = refl }

  refuses_so : (o : Option Reason) → refuses p.book request ≡ o → refuses n.book request ≡ o
  refuses_so o e = ap (λ b. refuses b request) same.book ∙ e

  both_done : (a b : Numbers) → r ≡ answers.Done a → s ≡ answers.Done b → answered_id n.book request ≡ Some a → answered_id p.book request ≡ Some b
      → (X : DidSteps false since fails now (Steps (events.Local request)) (cleared n) [] made) → LeftBy false since fails now (Steps (events.Local request)) (cleared n) m [] made X → X.anew ≡ []
      → (Y : DidSteps false since fails then (Steps (events.Local request)) (cleared p) [] also) → LeftBy false since fails then (Steps (events.Local request)) (cleared p) q [] also Y → Y.anew ≡ [] → SameAsks r s m q made also
  both_done a b e f named too X L none Y M empty =
      let S : StepsSame X.first Y.first X.rest Y.rest X.status Y.status X.d Y.d X.ds Y.ds =
      steps_same_two one plain false since fails now then (Steps (events.Local request)) (Steps (events.Local request)) (cleared n) (cleared p) [] made [] also X Y same.book j refl times refl in
      record {
        answer = e ∙ ap (λ z. answers.Done z) (some_id a b (sym named ∙ ap (λ z. answered_id z request) same.book ∙ too)) ∙ sym f;
        calls = X.are ∙ (λ i. S.calls i ++ (none ∙ sym empty) i) ∙ sym Y.are;
        node = behind_same false since fails now then (Steps (events.Local request)) (Steps (events.Local request)) (cleared n) (cleared p) m q [] made [] also X Y L M calmed runs S
            (entries one plain false since fails now then (Steps (events.Local request)) (Steps (events.Local request)) (cleared n) (cleared p) [] made [] also X Y same.book j refl times refl);
      }

  both_refused : (a b : Refusal) → r ≡ answers.Refused a → s ≡ answers.Refused b → refuses n.book request ≡ Some (refusal_of a) → refuses p.book request ≡ Some (refusal_of b) → m ≡ cleared n → q ≡ cleared p
      → made ≡ [] → also ≡ [] → SameAsks r s m q made also
  both_refused a b e f is too x y none empty = record {
    answer = e ∙ ap (λ z. answers.Refused z) (reasons_apart a b (some_reason (refusal_of a) (refusal_of b) (sym is ∙ refuses_so (Some (refusal_of b)) too))) ∙ sym f;
    calls = none ∙ sym empty;
    node = subst (λ z. IsSameBehind z q) (sym x) (subst (IsSameBehind (cleared n)) (sym y) calmed);
  }

  both_halted : r ≡ answers.Halted → s ≡ answers.Halted → HaltedAt since fails now (Steps (events.Local request)) (cleared n) m [] made → HaltedAt since fails then (Steps (events.Local request)) (cleared p) q [] also
      → SameAsks r s m q made also
  both_halted e f X Y =
      let S : SameHalts m q made also = same_halts since fails now then (Steps (events.Local request)) (Steps (events.Local request)) (cleared n) (cleared p) m q [] [] made also calmed j times refl refl X Y in
      record { answer = e ∙ sym f; calls = S.calls; node = S.node }

  never : DidSteps false since fails now (Steps (events.Local request)) (cleared n) [] made → HaltedAt since fails then (Steps (events.Local request)) (cleared p) q [] also → ⊥
  never X Y = not_halted false since fails now then (Steps (events.Local request)) (Steps (events.Local request)) (cleared n) (cleared p) q [] [] made also same.book j times refl refl X Y

  apart : (a : Reason) → refuses n.book request ≡ None → refuses p.book request ≡ Some a → ⊥
  apart a e f = no_reason a (sym e ∙ refuses_so (Some a) f)

  apart_too : (a : Reason) → refuses n.book request ≡ Some a → refuses p.book request ≡ None → ⊥
  apart_too a e f = no_reason a (sym (refuses_so None f) ∙ e)

same_asks : LeaveOneWay → PlansArePlain → (since fails now then : ℕ) (request : Local) (r s : Locally) (n m p q : State) (made also : List Made) → IsSameNode n p → n.halted ≡ false → now ≡ then
    → AskedSo since fails now request r n m made → AskedSo since fails then request s p q also → SameAsks r s m q made also
same_asks one plain since fails now then request r s n m p q made also same runs times (was_done a e taken named X L none) (was_done b f too id Y M empty) =
    both_done one plain since fails now then request r s n m p q made also same runs times a b e f named id X L none Y M empty
same_asks one plain since fails now then request r s n m p q made also same runs times (was_done a e taken named X L none) (was_refused b f is y empty) =
    absurd (apart one plain since fails now then request r s n m p q made also same runs times (refusal_of b) taken is)
same_asks one plain since fails now then request r s n m p q made also same runs times (was_done a e taken named X L none) (has_halted f too Y) =
    absurd (never one plain since fails now then request r s n m p q made also same runs times X Y)
same_asks one plain since fails now then request r s n m p q made also same runs times (was_refused a e is x none) (was_done b f too id Y M empty) =
    absurd (apart_too one plain since fails now then request r s n m p q made also same runs times (refusal_of a) is too)
same_asks one plain since fails now then request r s n m p q made also same runs times (was_refused a e is x none) (was_refused b f too y empty) =
    both_refused one plain since fails now then request r s n m p q made also same runs times a b e f is too x y none empty
same_asks one plain since fails now then request r s n m p q made also same runs times (was_refused a e is x none) (has_halted f too Y) =
    absurd (apart_too one plain since fails now then request r s n m p q made also same runs times (refusal_of a) is too)
same_asks one plain since fails now then request r s n m p q made also same runs times (has_halted e taken X) (was_done b f too id Y M empty) =
    absurd (never one plain since fails then now request s r p q n m also made (turned_back same) (sym same.halted ∙ runs) (sym times) Y X)
same_asks one plain since fails now then request r s n m p q made also same runs times (has_halted e taken X) (was_refused b f is y empty) =
    absurd (apart one plain since fails now then request r s n m p q made also same runs times (refusal_of b) taken is)
same_asks one plain since fails now then request r s n m p q made also same runs times (has_halted e taken X) (has_halted f too Y) =
    both_halted one plain since fails now then request r s n m p q made also same runs times e f X Y

pub requests_are_determined : OneText → LinksHold → CallsFailAsTold → RecordsAreBodies → RequestsAreDetermined
requests_are_determined one hold fail law request fails r s n m p q old new here there made also same machine times H K =
    let X : DidAsk (length (calls_in old.device)) fails request r (seen n) (seen m) old new made = did_ask hold fail law request fails n m old new made r H in
    let Y : DidAsk (length (calls_in here.device)) fails request s (seen p) (seen q) here there also = did_ask hold fail law request fails p q here there also s K in
    let Z : DidAsk (length (calls_in old.device)) fails request s (seen p) (seen q) here there also = subst (λ l. DidAsk (length l) fails request s (seen p) (seen q) here there also) (sym machine.calls) Y in
    let S : SameAsks r s (seen m) (seen q) made also =
    same_asks (leave_one_way one) (λ b e now t is. (step_of b e now t is).is_plain) (length (calls_in old.device)) fails X.now Z.now request r s (seen n) (seen m) (seen p) (seen q) made also same H.goes.runs
    (X.time ∙ times ∙ sym Z.time) X.went Z.went in (
      S.answer,
      record {
        machines = record {
          calls = S.calls;
          machine = record { opening = X.opening ∙ machine.opening ∙ sym Y.opening; calls = X.grown ∙ (λ i. machine.calls i ++ S.calls i) ∙ sym Y.grown };
          arming = X.arming ∙ H.goes.told ∙ (λ i. Some (record { since = length (machine.calls i); fails = fails })) ∙ sym K.goes.told ∙ sym Y.arming;
        };
        node = S.node;
      },
    )
