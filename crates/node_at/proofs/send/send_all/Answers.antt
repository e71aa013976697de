use Rattle.std.proofs.Common.{[], ◌∷◌, option_copied}
use Rattle.decision_log.specs.KeptState.{known}
use Rattle.node_at.specs.Sends.{given}
use Rattle.node_at.proofs.Sends.{first_may, sends_then}
use Rattle.node_at.proofs.send.send_all.Goals as goal

pub send-requires : goal.send-requires
send-requires g c =
    let ts = given (option_copied c.args.fresh) (known c.args.kept.now) in
    let ids = (known c.args.kept.now).done in
    (first_may ts ids c.loop-encoded.encoded-iterator c.next.new.self c.next.result c.in-Some.encoded c.in-Some.is c.next.ensures.steps c.loop-encoded.invariant.1).0

pub loop-encoded-preserved : goal.loop-encoded-preserved
loop-encoded-preserved g c =
    let ts = given (option_copied c.args.fresh) (known c.args.kept.now) in
    let ids = (known c.args.kept.now).done in (
      sends_then ts ids c.loop-encoded.yielded (c.in-Some.encoded ∷ []) _ _ _ c.loop-encoded.invariant.0 c.send.ensures,
      (first_may ts ids c.loop-encoded.encoded-iterator c.next.new.self c.next.result c.in-Some.encoded c.in-Some.is c.next.ensures.steps c.loop-encoded.invariant.1).1,
    )
