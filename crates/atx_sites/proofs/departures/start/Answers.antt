use Rattle.std.proofs.Common.{◌∙◌, inl, inr, refl, sym}
use Rattle.atx_sites.proofs.DepartureLists.{went}
use Rattle.atx_sites.proofs.Pushes.{closed, not_pushed, pushed}
use Rattle.atx_sites.proofs.departures.start.Goals as goal

pub returns-then-is_over : goal.returns-then-is_over
returns-then-is_over g c = (
  c.go.new.outgoing,
  went g.S.Stream.AsRawFd.raw_fd c.args.now c.args.outgoing c.go.new.outgoing _ _ c.go.ensures.calls c.go.ensures.same c.go.ensures.time,
  inr (refl, closed c.if_out.result c.is_out-is_out.result _ _ c.if_out.ensures c.is_out-is_out.ensures),
)

pub returns-then-is_err : goal.returns-then-is_err
returns-then-is_err g c = (
  c.go.new.outgoing,
  went g.S.Stream.AsRawFd.raw_fd c.args.now c.args.outgoing c.go.new.outgoing _ _ c.go.ensures.calls c.go.ensures.same c.go.ensures.time,
  inr (not_pushed c.push.result _ _ _ (sym c.is_err.ensures.value ∙ c.if-is_err.true) c.push.ensures.items, closed c.if_out-then-is_err.result c.is_out-is_out.result _ _ c.if_out-then-is_err.ensures c.is_out-is_out.ensures),
)

pub returns : goal.returns
returns g c = (
  c.go.new.outgoing,
  went g.S.Stream.AsRawFd.raw_fd c.args.now c.args.outgoing c.go.new.outgoing _ _ c.go.ensures.calls c.go.ensures.same c.go.ensures.time,
  inl (refl, sym c.is_over.ensures ∙ c.if-is_over.false, pushed c.push.result _ _ _ (sym c.is_err.ensures.value ∙ c.if-is_err.false) c.push.ensures.items),
)
