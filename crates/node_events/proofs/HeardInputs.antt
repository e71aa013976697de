-- What a node heard as the input of an event: the plan of the model, and the walk of the event.
use Rattle.std.specs.Prelude.{ℕ, List, [], ◌+◌, ◌≡◌, Bool, Option, None, Some, true, if◌then◌else◌, refl}
use Rattle.std.proofs.Common.{sym, subst, ap, ◌∙◌}
use Rattle.std.proofs.lemmas.Bool.{eq-eqb}
use Rattle.at_base.specs.declared.event.Event.TheVariants as events
use Rattle.at_base.specs.declared.outs.Post.{Post}
use Rattle.at_model.specs.Book.{Book}
use Rattle.at_model.specs.Step.{Plan, plan}
use Rattle.at_model.specs.World.{Deliver, Input, Node, Posted, Raw, Tick, Traced, World, answer_plan, arrival_plan, decoded, deliver, delivery_trace, is_receiver, later, nth, take_turn, ticked, turn, turn_from, turn_trace, walked}
use Rattle.model_laws.proofs.Addresses.{HaveBases}
use Rattle.model_laws.proofs.Nodes.{bases_put, same_bases}
use Rattle.node_at.specs.Meanings.{Meaning}
use Rattle.node_at.specs.Meanings.Meaning.{Lost, Refused, Steps}
use Rattle.node_at.specs.Steps.{status_in}
use Rattle.node_at.specs.TurnText.{IsFirst, TurnStep}
use Rattle.node_events.specs.NodeEvents.{Brings, IsInput, arrives, draws}
use Rattle.node_events.proofs.PlannedSteps.{IsStepOf, outcome_by, refusal_of, step_of}
use Rattle.world_laws.specs.Firsts.{delivery_plan, input_plan}
use Rattle.world_laws.specs.Moves.{arrival_move, delivery_move, input_move, quiet, turn_move}
use Rattle.world_laws.specs.Walks.{Luck}

-- whether the world knows what is answered
abbrev pub IsTold : Input → Type 0
IsTold (Deliver k) = Unit {0}
IsTold (Tick ms) = Unit {0}
IsTold Raw = ⊥

-- the status that the step of this plan answers
abbrev pub IsStatusOf : Plan → TurnStep → ℕ → Type 0
IsStatusOf p s status = status ≡ status_in (outcome_by p s.landed).outs

-- The plan of an input, the walk that it begins, the world in which its turn begins, and the step that a node does for it, with what that
-- answers.
pub record Heard (w : World) (i : ℕ) (x : Node) (b : Book) (input : Input) (meaning : Meaning) (now : ℕ) : Type 0 where
  pub begun : Plan
  pub is : input_plan i input w.posted x (Some b) ≡ Some begun
  pub moves : (l : Luck) → input_move i input l w.posted x (Some b) ≡ turn_move now x b begun l
  pub start : World
  pub accepted : start.accepted ≡ w.accepted
  pub bases : nth i w.nodes ≡ Some x → HaveBases start.nodes w.nodes
  pub begins : (fates : List Bool) (until : Option ℕ) → turn i input fates until x b w ≡ take_turn i now begun (turn_from start b fates until)
  pub traces : (fates : List Bool) (until : Option ℕ) → turn_trace i input fates until x b w ≡ (walked i now begun (turn_from start b fates until)).trace
  pub first : (s : TurnStep) (status : ℕ) → IsFirst b now meaning s status → IsStepOf begun s
  pub answers : IsTold input → (s : TurnStep) (status : ℕ) → IsFirst b now meaning s status → IsStatusOf begun s status
  pub told : meaning ≡ Lost → ⊥

receives : (i : ℕ) (o : Option ℕ) → o ≡ Some i → is_receiver i o ≡ true
receives i o e = ap (is_receiver i) e ∙ eq-eqb i i refl

-- a message
taken_first : (base : List ℕ) (p : Post) (b : Book) (now clock : ℕ) (meaning : Meaning) → Brings base p meaning → now ≡ clock → (s : TurnStep) (status : ℕ) → IsFirst b now meaning s status
    → IsStepOf (arrival_plan b clock (decoded base p)) s
taken_first base p b now clock meaning (arrives a e) same s status (is, answers) =
    subst (λ d. IsStepOf (arrival_plan b clock d) s) (sym e) (subst (λ t. IsStepOf (plan b (events.Arrived a) t) s) same (step_of b (events.Arrived a) now s is))
taken_first base p b now clock meaning (draws text e) same s status (is, answers) =
    subst (λ d. IsStepOf (arrival_plan b clock d) s) (sym e) (refusal_of b 500 500 text s is)

taken_status : (base : List ℕ) (p : Post) (b : Book) (now clock : ℕ) (meaning : Meaning) → Brings base p meaning → now ≡ clock → (s : TurnStep) (status : ℕ) → IsFirst b now meaning s status
    → IsStatusOf (arrival_plan b clock (decoded base p)) s status
taken_status base p b now clock meaning (arrives a e) same s status (is, answers) =
    subst (λ d. IsStatusOf (arrival_plan b clock d) s status) (sym e) (subst (λ t. IsStatusOf (plan b (events.Arrived a) t) s status) same answers)
taken_status base p b now clock meaning (draws text e) same s status (is, answers) =
    subst (λ d. IsStatusOf (arrival_plan b clock d) s status) (sym e) (answers ∙ ap (λ l. status_in (outcome_by (answer_plan b 500) l).outs) (sym (ap (λ (t : TurnStep). t.landed) is)))

taken_told : (base : List ℕ) (p : Post) (meaning : Meaning) → Brings base p meaning → meaning ≡ Lost → ⊥
taken_told base p meaning (arrives a e) f = absurd cc
taken_told base p meaning (draws text e) f = absurd cc

delivery_heard : (i : ℕ) (x : Node) (b : Book) (now : ℕ) (found : Option Posted) (p : Posted) → found ≡ Some p → p.receiver ≡ Some i → now ≡ x.clock
    → (delivery_plan i found x (Some b) ≡ Some (arrival_plan b x.clock (decoded x.base p.content)))
    × ((l : Luck) → delivery_move i found l x (Some b) ≡ turn_move now x b (arrival_plan b x.clock (decoded x.base p.content)) l)
delivery_heard i x b now found p e to same = (
  ap (λ o. delivery_plan i o x (Some b)) e ∙ ap (λ t. if t then Some d else None) here,
  λ l. ap (λ o. delivery_move i o l x (Some b)) e ∙ ap (λ t. if t then arrival_move (decoded x.base p.content) l x (Some b) else quiet x) here ∙ ap (λ t. turn_move t x b d l) (sym same),
)
  where
    d : Plan
    d = arrival_plan b x.clock (decoded x.base p.content)

    here : is_receiver i p.receiver ≡ true
    here = receives i p.receiver to

delivery_begins : (w : World) (i : ℕ) (x : Node) (b : Book) (now : ℕ) (found : Option Posted) (p : Posted) → found ≡ Some p → p.receiver ≡ Some i → now ≡ x.clock
    → (fates : List Bool) (until : Option ℕ)
    → (deliver i x b fates until found w ≡ take_turn i now (arrival_plan b x.clock (decoded x.base p.content)) (turn_from w b fates until))
    × (delivery_trace i x b fates until found w ≡ (walked i now (arrival_plan b x.clock (decoded x.base p.content)) (turn_from w b fates until)).trace)
delivery_begins w i x b now found p e to same fates until = (
  ap (λ o. deliver i x b fates until o w) e ∙ ap (λ t. if t then take_turn i x.clock d (turn_from w b fates until) else w) here
      ∙ ap (λ t. take_turn i t d (turn_from w b fates until)) (sym same),
  ap (λ o. delivery_trace i x b fates until o w) e ∙ ap (λ t. if t then (walked i x.clock d (turn_from w b fates until)).trace else none) here
      ∙ ap (λ t. (walked i t d (turn_from w b fates until)).trace) (sym same),
)
  where
    d : Plan
    d = arrival_plan b x.clock (decoded x.base p.content)

    none : List Traced
    none = []

    here : is_receiver i p.receiver ≡ true
    here = receives i p.receiver to

-- a tick, and bytes that are refused
tick_first : (b : Book) (now clock : ℕ) (meaning : Meaning) → meaning ≡ Steps events.Tick → now ≡ clock → (s : TurnStep) (status : ℕ) → IsFirst b now meaning s status
    → IsStepOf (plan b events.Tick clock) s
tick_first b now clock meaning e same s status is =
    let first : IsFirst b now (Steps events.Tick) s status = subst (λ z. IsFirst b now z s status) e is in
    subst (λ t. IsStepOf (plan b events.Tick t) s) same (step_of b events.Tick now s first.0)

tick_status : (b : Book) (now clock : ℕ) (meaning : Meaning) → meaning ≡ Steps events.Tick → now ≡ clock → (s : TurnStep) (status : ℕ) → IsFirst b now meaning s status
    → IsStatusOf (plan b events.Tick clock) s status
tick_status b now clock meaning e same s status is =
    let first : IsFirst b now (Steps events.Tick) s status = subst (λ z. IsFirst b now z s status) e is in
    subst (λ t. IsStatusOf (plan b events.Tick t) s status) same first.1

raw_first : (b : Book) (now answer : ℕ) (text : Option (List ℕ)) (meaning : Meaning) → meaning ≡ Refused answer text → (s : TurnStep) (status : ℕ) → IsFirst b now meaning s status
    → IsStepOf (answer_plan b 400) s
raw_first b now answer text meaning e s status is =
    let first : IsFirst b now (Refused answer text) s status = subst (λ z. IsFirst b now z s status) e is in
    refusal_of b 400 answer text s first.0

not_lost : (meaning other : Meaning) → meaning ≡ other → (other ≡ Lost → ⊥) → meaning ≡ Lost → ⊥
not_lost meaning other e h f = h (sym e ∙ f)

steps_told : Steps events.Tick ≡ Lost → ⊥
steps_told e = absurd cc

refused_told : (answer : ℕ) (text : Option (List ℕ)) → Refused answer text ≡ Lost → ⊥
refused_told answer text e = absurd cc

pub heard : (w : World) (i : ℕ) (x : Node) (b : Book) (input : Input) (meaning : Meaning) (now : ℕ) → IsInput w i x input meaning now → Heard w i x b input meaning now
heard w i x b (Deliver k) meaning now (p, found, to, brings, same) =
    let (is, moves) = delivery_heard i x b now (nth k w.posted) p found to same in
    record {
      begun = arrival_plan b x.clock (decoded x.base p.content);
      is = is;
      moves = moves;
      start = w;
      accepted = refl;
      bases = λ here. same_bases w.nodes;
      begins = λ fates until. (delivery_begins w i x b now (nth k w.posted) p found to same fates until).0;
      traces = λ fates until. (delivery_begins w i x b now (nth k w.posted) p found to same fates until).1;
      first = taken_first x.base p.content b now x.clock meaning brings same;
      answers = λ _. taken_status x.base p.content b now x.clock meaning brings same;
      told = taken_told x.base p.content meaning brings;
    }
heard w i x b (Tick ms) meaning now (says, same) = record {
  begun = plan b events.Tick (x.clock + ms);
  is = refl;
  moves = λ l. ap (λ t. turn_move t x b (plan b events.Tick (x.clock + ms)) l) (sym same);
  start = ticked i (later ms x) w;
  accepted = refl;
  bases = λ here. bases_put w.nodes w.nodes i x (later ms x) here refl (same_bases w.nodes);
  begins = λ fates until. ap (λ t. take_turn i t (plan b events.Tick (x.clock + ms)) (turn_from (ticked i (later ms x) w) b fates until)) (sym same);
  traces = λ fates until. ap (λ t. (walked i t (plan b events.Tick (x.clock + ms)) (turn_from (ticked i (later ms x) w) b fates until)).trace) (sym same);
  first = tick_first b now (x.clock + ms) meaning says same;
  answers = λ _. tick_status b now (x.clock + ms) meaning says same;
  told = not_lost meaning (Steps events.Tick) says steps_told;
}
heard w i x b Raw meaning now (answer, text, says, same) = record {
  begun = answer_plan b 400;
  is = refl;
  moves = λ l. ap (λ t. turn_move t x b (answer_plan b 400) l) (sym same);
  start = w;
  accepted = refl;
  bases = λ here. same_bases w.nodes;
  begins = λ fates until. ap (λ t. take_turn i t (answer_plan b 400) (turn_from w b fates until)) (sym same);
  traces = λ fates until. ap (λ t. (walked i t (answer_plan b 400) (turn_from w b fates until)).trace) (sym same);
  first = raw_first b now answer text meaning says;
  answers = λ untold. absurd untold;
  told = not_lost meaning (Refused answer text) says (refused_told answer text);
}
