use Rattle.std.proofs.Common.{option_copied}
use Rattle.decision_log.specs.KeptState.{known}
use Rattle.node_at.specs.Sends.{MayLeave, given}
use Rattle.node_at.specs.Texts.{Leaving, call_of}
use Rattle.node_at.proofs.Sends.{may_as, same_out, sends_given}
use Rattle.node_at.proofs.StandingTokens.{ruled_no, ruled_yes}
use Rattle.node_at.proofs.send.send.Goals as goal

pub returns-in-Some : goal.returns-in-Some
returns-in-Some g c =
    let ts = given (option_copied c.args.fresh) (known c.args.kept.now) in
    let ids = (known c.args.kept.now).done in
    let x : Leaving = record { out = c.encoded.inside.out; call = call_of c.encoded.inside.sending } in
    same_out c.encoded.view_is (sends_given ts ids x c.give.result _ _ (ruled_yes (MayLeave ts ids x.out) c.ready.result _ c.in-Some.is c.ready.ensures.rule) c.give.ensures)

pub returns : goal.returns
returns g c =
    let ts = given (option_copied c.args.fresh) (known c.args.kept.now) in
    let ids = (known c.args.kept.now).done in
    let x : Leaving = record { out = c.encoded.inside.out; call = call_of c.encoded.inside.sending } in
    absurd (ruled_no (MayLeave ts ids x.out) c.ready.result c.in-None.is c.ready.ensures.rule (may_as ts ids c.encoded.view_is c.requires))
