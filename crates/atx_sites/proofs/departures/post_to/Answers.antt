use Rattle.std.proofs.Common.{◌≡◌, ◌∙◌, ap, arith, inl, inr, length, refl, rules, sym}
use Rattle.std.specs.Prelude.{slice_get}
use Rattle.atx_sites.specs.Departures.{host_of, weight}
use Rattle.atx_sites.proofs.DepartureBounds.{within_part, within_started}
use Rattle.atx_sites.proofs.DepartureLists.{whole}
use Rattle.atx_sites.proofs.Leavings.{untried}
use Rattle.atx_sites.proofs.departures.post_to.Goals as goal

pub returns-then-not-has_room_to-clause-posts : goal.returns-then-not-has_room_to-clause-posts
returns-then-not-has_room_to-clause-posts g c = λ clock. (c.has_room_to.new.leaving.items, c.has_room_to.ensures.part _ (whole _), inl (refl, refl, untried _ _))

pub returns-in-Some-clause-posts : goal.returns-in-Some-clause-posts
returns-in-Some-clause-posts g c = λ clock. (c.has_room_to.new.leaving.items, c.has_room_to.ensures.part _ (whole _), inr (c.args.now, clock, c.in-Some.outgoing, _, c.in-Some.ensures, c.start.ensures))

pub returns-in-None-clause-posts : goal.returns-in-None-clause-posts
returns-in-None-clause-posts g c = λ clock. (c.has_room_to.new.leaving.items, c.has_room_to.ensures.part _ (whole _), inl (refl, refl, c.in-None.ensures))

pub returns-then-not-has_room_to-clause-within : goal.returns-then-not-has_room_to-clause-within
returns-then-not-has_room_to-clause-within g c = λ h. within_part _ _ (c.has_room_to.ensures.part _ (whole _)) h

pub returns-in-None-clause-within : goal.returns-in-None-clause-within
returns-in-None-clause-within g c = λ h. within_part _ _ (c.has_room_to.ensures.part _ (whole _)) h

pub returns-in-Some-clause-within : goal.returns-in-Some-clause-within
returns-in-Some-clause-within g c = λ h.
    let room = c.has_room_to.ensures.room c.if-not-has_room_to.false in
    let share = c.has_room_to.ensures.share c.if-not-has_room_to.false in
    let n : c.len.result ≡ length c.args.bytes.items = search rules in
    let w : weight c.in-Some.outgoing ≡ length c.args.bytes.items = ap length c.in-Some.ensures.2 in
    let first : slice_get c.args.addresses.items 0 ≡ c.copied.result = sym (c.copied.ensures ∙ c.first.ensures.value ∙ ap (λ l. slice_get l 0) c.deref.ensures.value) in
    let hosts : host_of c.in-Some.outgoing ≡ c.copied.result = ap (λ l. slice_get l 0) c.in-Some.ensures.1 ∙ first in
    within_started g.S.Stream.AsRawFd.raw_fd c.args.now c.in-Some.outgoing _ c.start.result _ _ _ c.start.ensures room.0 (omega (arith, room.1, n, w))
    (λ host test is only. share test (λ k p. only k p ∙ sym is ∙ hosts)) (within_part _ _ (c.has_room_to.ensures.part _ (whole _)) h)
