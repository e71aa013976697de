use Rattle.std.proofs.Common.{ap, refl, subst, sym, ◌-◌, ◌∙◌, length}
use Rattle.std.specs.Prelude.{Err, Ok}
use Rattle.site_memory.specs.declared.arm.Choice.TheVariants.{Keep}
use Rattle.site_memory.specs.declared.machine.MemSite.{MemSite}
use Rattle.torn_appends.specs.TornAppends.{stands_behind}
use Rattle.mirrored_nets.specs.Took.{FellBack}
use Rattle.asked_nets.proofs.StartCalls.{did_fall, did_halt, did_so, did_up, read_fall, read_halt, read_so, read_up}
use Rattle.asked_nets.proofs.starts.start.Goals as goal

pub returns-then-not-may_fail-clause-begins : goal.returns-then-not-may_fail-clause-begins
returns-then-not-may_fail-clause-begins c = λ can. c.wanting.ensures (c.starts_fail_for_want.ensures c.args.base.now c.in-Err.fault c.args.site c.begin-begun.new.site can c.in-Err.ensures.begins)

pub returns-in-None-clause-did : goal.returns-in-None-clause-did
returns-in-None-clause-did c = did_up c.args.base.now (Ok c.in-Ok.node) c.args.site c.begin-begun.new.site c.of.result c.counts_of-counts.result.calls (length c.in_ok-calls.calls.now) c.in_ok-calls.calls.now c.in-Ok.ensures.begins c.counts_of-counts.ensures.calls (c.in_ok-calls.ensures.adds c.args.site c.counts_of-counts.ensures) refl c.args.armed c.in-Ok.node refl c.in-Ok.ensures.serving c.of.ensures.0 c.of.ensures.1

pub returns-in-None-clause-read : goal.returns-in-None-clause-read
returns-in-None-clause-read c = λ last K told. read_up c.args.base.now (Ok c.in-Ok.node) c.args.site c.begin-begun.new.site c.of.result c.counts_of-counts.result.calls (length c.in_ok-calls.calls.now) c.in_ok-calls.calls.now c.in-Ok.ensures.begins c.counts_of-counts.ensures.calls (c.in_ok-calls.ensures.adds c.args.site c.counts_of-counts.ensures) refl c.args.armed c.in-Ok.node refl c.in-Ok.ensures.serving c.of.ensures.0 c.of.ensures.1 (sym c.stop_in-stop.ensures ∙ c.in-None.is)

pub returns-in-None-clause-whole : goal.returns-in-None-clause-whole
returns-in-None-clause-whole c = λ nothing. read_up c.args.base.now (Ok c.in-Ok.node) c.args.site c.begin-begun.new.site c.of.result c.counts_of-counts.result.calls (length c.in_ok-calls.calls.now) c.in_ok-calls.calls.now c.in-Ok.ensures.begins c.counts_of-counts.ensures.calls (c.in_ok-calls.ensures.adds c.args.site c.counts_of-counts.ensures) refl c.args.armed c.in-Ok.node refl c.in-Ok.ensures.serving c.of.ensures.0 c.of.ensures.1 (sym c.stop_in-stop.ensures ∙ c.in-None.is)

pub returns-in_ok-left-in-Some-clause-did : goal.returns-in_ok-left-in-Some-clause-did
returns-in_ok-left-in-Some-clause-did c =
    did_so c.args.base.now c.args.site c.down.result.host (length c.in_ok-calls.calls.now) c.down.result.calls c.down.ensures.calls (did_fall c.args.base.now (Ok c.in-Ok.node) c.args.site c.begin-begun.new.site c.down.result.host c.counts_of-counts.result.calls (length c.in_ok-calls.calls.now) c.in_ok-calls.calls.now c.in-Ok.ensures.begins c.counts_of-counts.ensures.calls (c.in_ok-calls.ensures.adds c.args.site c.counts_of-counts.ensures) refl c.args.armed c.in-Ok.node refl c.in-Some.kept c.in-Some.choice c.down.ensures.node (λ z e. subst (λ (s : MemSite). FellBack z c.begin-begun.new.site c.in-Some.kept c.in-Some.choice s) (sym c.down.ensures.site) (c.in_ok-left-in-Some.ensures.fell z e)))

pub returns-in_ok-left-in-Some-clause-read : goal.returns-in_ok-left-in-Some-clause-read
returns-in_ok-left-in-Some-clause-read c = λ last K told.
    read_so c.args.armed c.args.base.now c.args.site c.down.result.host c.down.result.landed (stands_behind (c.in-Some.kept - 2) c.in-Some.choice) c.down.result.stop (length c.in_ok-calls.calls.now) c.down.result.calls
    (c.down.ensures.landed ∙ c.stands_behind.ensures ∙ ap (λ k. stands_behind k c.in-Some.choice) c.saturating_sub.ensures) c.down.ensures.stop c.down.ensures.calls
    (read_fall c.args.base.now (Ok c.in-Ok.node) c.args.site c.begin-begun.new.site c.down.result.host c.counts_of-counts.result.calls (length c.in_ok-calls.calls.now) c.in_ok-calls.calls.now c.in-Ok.ensures.begins c.counts_of-counts.ensures.calls (c.in_ok-calls.ensures.adds c.args.site c.counts_of-counts.ensures) refl c.args.armed c.in-Ok.node refl c.in-Some.kept c.in-Some.choice c.down.ensures.node (λ z e. subst (λ (s : MemSite). FellBack z c.begin-begun.new.site c.in-Some.kept c.in-Some.choice s) (sym c.down.ensures.site) (c.in_ok-left-in-Some.ensures.fell z e)) (sym c.stop_in-stop.ensures ∙ c.in-Some.is) c.tried_are_read.ensures last K told)

pub returns-in_ok-left-in-Err-clause-did : goal.returns-in_ok-left-in-Err-clause-did
returns-in_ok-left-in-Err-clause-did c =
    did_so c.args.base.now c.args.site c.down-in-Err.result.host (length c.in_ok-calls.calls.now) c.down-in-Err.result.calls c.down-in-Err.ensures.calls (did_halt c.args.base.now (Err c.in-Err.fault) c.args.site c.begin-begun.new.site c.down-in-Err.result.host c.counts_of-counts.result.calls (length c.in_ok-calls.calls.now) c.in_ok-calls.calls.now c.in-Err.ensures.begins c.counts_of-counts.ensures.calls (c.in_ok-calls.ensures.adds c.args.site c.counts_of-counts.ensures) refl c.args.armed c.in-Err.fault refl (sym c.may_fail.ensures ∙ c.if-not-may_fail.false) c.down-in-Err.ensures.node (λ z e. subst (λ (s : MemSite). FellBack z c.begin-begun.new.site (length c.in_ok-calls.calls.now) Keep s) (sym c.down-in-Err.ensures.site) (c.in_ok-left-in-Err.ensures.fell z e)))

pub returns-in_ok-left-in-Err-clause-read : goal.returns-in_ok-left-in-Err-clause-read
returns-in_ok-left-in-Err-clause-read c = λ last K told.
    read_so c.args.armed c.args.base.now c.args.site c.down-in-Err.result.host c.down-in-Err.result.landed c.down-in-Err.result.landed c.down-in-Err.result.stop (length c.in_ok-calls.calls.now) c.down-in-Err.result.calls
    refl c.down-in-Err.ensures.stop c.down-in-Err.ensures.calls (read_halt c.args.base.now (Err c.in-Err.fault) c.args.site c.begin-begun.new.site c.down-in-Err.result.host c.counts_of-counts.result.calls (length c.in_ok-calls.calls.now) c.in_ok-calls.calls.now c.in-Err.ensures.begins c.counts_of-counts.ensures.calls (c.in_ok-calls.ensures.adds c.args.site c.counts_of-counts.ensures) refl c.args.armed c.in-Err.fault refl (sym c.may_fail.ensures ∙ c.if-not-may_fail.false) c.down-in-Err.ensures.node (λ z e. subst (λ (s : MemSite). FellBack z c.begin-begun.new.site (length c.in_ok-calls.calls.now) Keep s) (sym c.down-in-Err.ensures.site) (c.in_ok-left-in-Err.ensures.fell z e)) c.down-in-Err.result.landed c.down-in-Err.ensures.landed c.tried_are_read.ensures last K told)
