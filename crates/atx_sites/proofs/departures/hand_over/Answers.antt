use Rattle.std.proofs.Common.{◌≡◌, ap, arith, inl, inr, length, refl, rules}
use Rattle.atx_sites.specs.Departures.{weight}
use Rattle.atx_sites.proofs.DepartureBounds.{no_host, within_part, within_started}
use Rattle.atx_sites.proofs.Changing.{read_clock}
use Rattle.atx_sites.proofs.DepartureLists.{whole}
use Rattle.atx_sites.proofs.Pushes.{closed_of}
use Rattle.atx_sites.proofs.departures.hand_over.Goals as goal

pub returns-in_default-clause-answers : goal.returns-in_default-clause-answers
returns-in_default-clause-answers g c =
    (c.args.departures.now.leaving.items, whole _, _, (_, c.monotonic.ensures), inl (refl, refl, closed_of c.if_out.result c.is_taken-is_out.result _ _ _ c.deref.ensures.value c.if_out.ensures c.is_taken-is_out.ensures))

pub returns-then-not-has_room-clause-answers : goal.returns-then-not-has_room-clause-answers
returns-then-not-has_room-clause-answers g c = (
  c.has_room.new.leaving.items,
  c.has_room.ensures.part _ (whole _),
  _,
  (_, c.monotonic.ensures),
  inl (refl, refl, closed_of c.if_out-then-not-has_room.result c.is_taken-is_out.result _ _ _ c.deref.ensures.value c.if_out-then-not-has_room.ensures c.is_taken-is_out.ensures),
)

pub returns-clause-answers : goal.returns-clause-answers
returns-clause-answers g c = (
  c.has_room.new.leaving.items,
  c.has_room.ensures.part _ (whole _),
  _,
  (_, c.monotonic.ensures),
  inr (c.in-Ok.now, read_clock c.in-Ok.now c.monotonic.result _ _ c.monotonic.ensures c.in-Ok.is, c.answer-outgoing.result, c.answer-outgoing.ensures.0, c.answer-outgoing.ensures.1, c.answer-outgoing.ensures.2, c.answer-outgoing.ensures.4, c.start.ensures),
)

pub returns-then-not-has_room-clause-within : goal.returns-then-not-has_room-clause-within
returns-then-not-has_room-clause-within g c = λ h. within_part _ _ (c.has_room.ensures.part _ (whole _)) h

pub returns-clause-within : goal.returns-clause-within
returns-clause-within g c = λ h.
    let room = c.has_room.ensures.room c.if-not-has_room.false in
    let n : c.len.result ≡ length c.args.bytes.items = search rules in
    let w : weight c.answer-outgoing.result ≡ length c.args.bytes.items = ap (λ b. length b.items) c.answer-outgoing.ensures.1 in
    within_started g.S.Stream.AsRawFd.raw_fd c.in-Ok.now c.answer-outgoing.result _ c.start.result _ _ _ c.start.ensures room.0 (omega (arith, room.1, n, w))
    (λ host test is only. no_host c.answer-outgoing.result host c.answer-outgoing.ensures.3 is) (within_part _ _ (c.has_room.ensures.part _ (whole _)) h)
