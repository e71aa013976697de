use Rattle.std.specs.Prelude.{ℕ, ◌≡◌, ◌<◌, ◌+◌, IfErr, length, map}
use Rattle.std.proofs.Common.{ap, rules, subst, sym, ◌∙◌}
use Rattle.model_laws.specs.Settlement.{Settling, all_also, ticks}
use Rattle.settling.specs.Drains.{Delivers}
use Rattle.world_laws.specs.Events.{event_of}
use Rattle.settlement.proofs.EventGrowth.{ticks_of_many}
use Rattle.settlement.specs.Ways.{Way}
use Rattle.settlement.specs.declared.run_error.RunError.TheVariants.{TooManyEvents}
use Rattle.settlement.proofs.settling_world.Settling.round.Goals as goal

abbrev way : ℕ → Settling → Way
way past settling = record { past = past; settling = settling }

pub returns-in_err-ticked-clause-many : goal.returns-in_err-ticked-clause-many
returns-in_err-ticked-clause-many c = λ last d.
    let self = c.args.self in
    let each : map event_of c.as_slice.result.now ≡ ticks 1 self.settling.world.nodes = search rules in
    let many = λ (is : c.in_err-ticked.field-0.0 ≡ TooManyEvents).
    ticks_of_many last (all_also (ticks 1 self.settling.world.nodes) self.settling) (length self.settling.world.posted) self.past d
    (subst (λ es. 4294967295 < self.past + length (all_also es self.settling).events) each (c.in_err-ticked.ensures.many is)) in
    search rules

pub returns-clause-many : goal.returns-clause-many
returns-clause-many c = λ last d.
    let self = c.args.self in
    let each : map event_of c.as_slice.result.now ≡ ticks 1 self.settling.world.nodes = search rules in
    let passed : c.messages-passed.result ≡ length self.settling.world.posted = search rules in
    let ticked : Way = record { past = self.past; settling = all_also (ticks 1 self.settling.world.nodes) self.settling } in
    let is : c.in_ok-ticked.ticked ≡ ticked =
    c.in_ok-ticked.ensures.is ∙ ap (λ es. way self.past (all_also es self.settling)) each in
    subst (λ (w : Way). IfErr c.deliver_all.result (λ e. e ≡ TooManyEvents → 4294967295 < w.past + length last.events)) is
    (c.deliver_all.ensures.many last
    (subst (λ (w : Way). Delivers last c.messages-passed.result w.settling) (sym is)
    (subst (λ n. Delivers last n ticked.settling) (sym passed) d)))
