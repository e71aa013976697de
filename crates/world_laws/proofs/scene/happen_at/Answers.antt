use Rattle.std.proofs.Common.{◌≡◌, None, ap, arith, length, ◌-◌, ◌<◌, inl, inr}
use Rattle.std.proofs.lemmas.Option.{slice_get_cases}
use Rattle.std.proofs.lemmas.Result.{on_ok_weaker}
use Rattle.at_model.specs.World.{nth}
use Rattle.world_laws.specs.Events.{event_of}
use Rattle.world_laws.specs.Runs.{IsReady}
use Rattle.world_laws.proofs.RunNodes.{all_at}
use Rattle.world_laws.proofs.NumberedItems.{nth_none}
use Rattle.world_laws.proofs.Runs.{none_moves, no_steps, nth_past, ok_more, one_moves, one_steps}
use Rattle.world_laws.proofs.scene.happen_at.Goals as goal
use Rattle.world_laws.proofs.scene.happen_at.Goals.{then-number-eq0-via-then-number-eq0, then-number-eq0-via-else-number-eq0+then-as_slice-number}

gone : (c : goal.After-nothing) → nth c.args.number c.args.nodes.now.items ≡ None
gone c = elim c.then-number-eq0.branch [
  | then-number-eq0-via-then-number-eq0 w ↦ rw w.if-number-eq0.true (nth_none c.args.nodes.now.items)
  | then-number-eq0-via-else-number-eq0+then-as_slice-number w ↦
      nth_past c.args.number c.args.nodes.now.items
      (let few = w.if-as_slice-number.true in let same = ap length w.as_slice.ensures.value in omega (arith, few, same))
]

pub returns-then-number-eq0-clause-nodes : goal.returns-then-number-eq0-clause-nodes
returns-then-number-eq0-clause-nodes c =
    none_moves (event_of c.args.event.now) c.args.posted.now c.args.number c.args.nodes.now.items (gone c)

pub returns-then-number-eq0-clause-moved : goal.returns-then-number-eq0-clause-moved
returns-then-number-eq0-clause-moved c =
    no_steps (event_of c.args.event.now) c.args.posted.now c.args.number c.args.nodes.now.items c.nothing.result (gone c) c.nothing.ensures

pub happen_in-requires-clause-ready : goal.happen_in-requires-clause-ready
happen_in-requires-clause-ready c = λ x e. all_at IsReady c.args.nodes.now.items (c.args.number - 1) x c.requires.ready e

inside : (c : goal.After-happen_in) → c.args.number - 1 < length c.args.nodes.now.items
inside c =
    let enough = c.if-as_slice-number.false in let same = ap length c.as_slice.ensures.value in
    let some : c.args.number ≡ 0 → ⊥ = c.if-number-eq0.false in grind (arith, enough, same, some)

pub returns-clause-nodes : goal.returns-clause-nodes
returns-clause-nodes c = elim (slice_get_cases c.args.nodes.now.items (c.args.number - 1)).1 [
  | inl p ↦ on_ok_weaker c.happen_in.result
      (λ h. one_moves (event_of c.args.event.now) c.args.posted.now c.args.number c.args.nodes.now.items c.happen_in.new.nodes.items p.0
      c.requires.number c.if-number-eq0.false p.2 h)
      (c.happen_in.ensures.nodes p.0 p.2)
  | inr p ↦ let within = inside c in let past = p.0 in absurd (omega (arith, within, past))
]

pub returns-clause-moved : goal.returns-clause-moved
returns-clause-moved c = elim (slice_get_cases c.args.nodes.now.items (c.args.number - 1)).1 [
  | inl p ↦ ok_more _ _ c.happen_in.result
      (λ m h. one_steps (event_of c.args.event.now) c.args.posted.now c.args.number c.args.nodes.now.items p.0 m
      c.if-number-eq0.false p.2 h)
      (c.happen_in.ensures.moved p.0 p.2)
  | inr p ↦ let within = inside c in let past = p.0 in absurd (omega (arith, within, past))
]
