use Rattle.std.proofs.Common.{◌≡◌, arith, length, ◌-◌, ◌<◌, inl, inr}
use Rattle.std.proofs.lemmas.Option.{slice_get_cases}
use Rattle.world_laws.specs.Events.{event_of}
use Rattle.world_laws.specs.Runs.{IsReady}
use Rattle.world_laws.proofs.RunNodes.{all_at}
use Rattle.world_laws.proofs.NumberedItems.{nth_none}
use Rattle.world_laws.proofs.Runs.{no_record, nth_past, ok_more, one_record}
use Rattle.world_laws.proofs.scene.records_at.Goals as goal
use Rattle.world_laws.proofs.scene.records_at.Goals.{then-number-eq0-via-then-number-eq0, then-number-eq0-via-else-number-eq0+then-nodes-number}

pub returns-then-number-eq0 : goal.returns-then-number-eq0
returns-then-number-eq0 c =
    no_record (event_of c.args.event.now) c.args.posted.now c.args.number c.args.nodes.now
    (elim c.then-number-eq0.branch [
      | then-number-eq0-via-then-number-eq0 w ↦ rw w.if-number-eq0.true (nth_none c.args.nodes.now)
      | then-number-eq0-via-else-number-eq0+then-nodes-number w ↦
          nth_past c.args.number c.args.nodes.now
          (let few = w.if-nodes-number.true in omega (arith, few))
    ])

pub records_in-requires-clause-ready : goal.records_in-requires-clause-ready
records_in-requires-clause-ready c = λ x e. all_at IsReady c.args.nodes.now (c.args.number - 1) x c.requires e

inside : (c : goal.After-records_in) → c.args.number - 1 < length c.args.nodes.now
inside c =
    let enough = c.if-nodes-number.false in let some : c.args.number ≡ 0 → ⊥ = c.if-number-eq0.false in grind (arith, enough, some)

pub returns : goal.returns
returns c = elim (slice_get_cases c.args.nodes.now (c.args.number - 1)).1 [
  | inl p ↦ ok_more _ _ c.records_in.result
      (λ m h. one_record (event_of c.args.event.now) c.args.posted.now c.args.number c.args.nodes.now p.0 m
      c.if-number-eq0.false p.2 h)
      (c.records_in.ensures p.0 p.2)
  | inr p ↦ let within = inside c in let past = p.0 in absurd (omega (arith, within, past))
]
