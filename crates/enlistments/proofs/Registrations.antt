-- A Register gives a seat, names one that there is, or is refused.
use Rattle.std.specs.Prelude.{Option, Some, None, Bool, true, false, not, ◌&&◌, if◌then◌else◌, bytes_eq, find, option_map, ◌≡◌, refl}
use Rattle.std.proofs.Common.{sym}
use Rattle.std.proofs.lemmas.Slice.Eq.{bytes_eq-Decides}
use Rattle.at_base.specs.declared.fault.Fault.TheVariants.{CannotRegisterParticipant, InvalidParameters, InvalidProtocol}
use Rattle.at_base.specs.declared.epr.Epr.{Epr}
use Rattle.at_base.specs.declared.notice.Kind.{Kind}
use Rattle.at_base.specs.declared.message.Register.{Register}
use Rattle.at_base.specs.declared.event.Arrived.{Arrived}
use Rattle.at_base.specs.declared.event.Moment.{Moment}
use Rattle.at_base.specs.Names.{is_kind}
use Rattle.at_model.specs.Book.{Completion, Enlistment, Transaction, is_epr}
use Rattle.at_model.specs.Register.{accept, completion_endpoint, held_seat, may_register, on_register, protocol_named, register_again, register_new, registered_reply, seat_endpoint, seat_for}
use Rattle.model_laws.proofs.DecisionLaws.{either_of, same_kind}
use Rattle.enlistments.specs.Registrations.{Enrolls, has_completion, has_seat, refuses, takes_completion, takes_seat}
use Rattle.enlistments.proofs.Searches.{both_true, found_by}

same_epr : (a b : Epr) → is_epr a b ≡ true → a ≡ b
same_epr a b e =
    let (f, g) = both_true (bytes_eq a.address b.address) (bytes_eq a.params b.params) e in
    let address : a.address ≡ b.address = (bytes_eq-Decides a.address b.address).0 f in
    let params : a.params ≡ b.params = (bytes_eq-Decides a.params b.params).0 g in
    λ i. record { address = address i; params = params i }

accept_enrolls : (m : Moment) (a : Arrived) (r : Register) (t : Transaction) (kind : Option Kind) → protocol_named r.protocol ≡ Some kind → may_register t kind ≡ true
    → Enrolls m a r t (accept m a t r.participant kind)
unfolding accept
accept_enrolls m a r t (Some kind) f h = takes_seat kind f h refl
accept_enrolls m a r t None f h = takes_completion f h refl

new_enrolls : (m : Moment) (a : Arrived) (r : Register) (t : Transaction) (kind : Option (Option Kind)) → protocol_named r.protocol ≡ kind → Enrolls m a r t (register_new m a r t kind)
unfolding register_new
new_enrolls m a r t None f = refuses InvalidProtocol refl
new_enrolls m a r t (Some kind) f =
    either_of (Enrolls m a r t) (not a.postable) _ _ (λ e. refuses InvalidParameters refl)
    (λ e. either_of (Enrolls m a r t) (may_register t kind) _ _ (λ h. accept_enrolls m a r t kind f h) (λ h. refuses CannotRegisterParticipant refl))

-- the seat that it has
seat_held : (m : Moment) (a : Arrived) (r : Register) (t : Transaction) (kind : Kind) (o : Option Enlistment) (c : Epr) → protocol_named r.protocol ≡ Some (Some kind)
    → find (λ s. is_kind s.kind kind && is_epr s.participant r.participant) t.seats ≡ o → option_map (seat_endpoint m.base t.id) o ≡ Some c
    → Enrolls m a r t (record { transaction = t; outs = registered_reply a c })
seat_held m a r t kind None c f g h = absurd cc
seat_held m a r t kind (Some s) c f g h =
    let (test, i) = found_by (λ (x : Enlistment). is_kind x.kind kind && is_epr x.participant r.participant) t.seats s g in
    let (k, e) = both_true (is_kind s.kind kind) (is_epr s.participant r.participant) test in
    let same : seat_endpoint m.base t.id s ≡ c = cc in
    has_seat kind s f i (same_kind s.kind kind k) (same_epr s.participant r.participant e) (λ j. record { transaction = t; outs = registered_reply a (sym same j) })

completion_held : (m : Moment) (a : Arrived) (r : Register) (t : Transaction) (o : Option Completion) (c : Epr) → protocol_named r.protocol ≡ Some None → t.completion ≡ o
    → seat_for m.base t.id r.participant None t.seats o ≡ Some c → Enrolls m a r t (record { transaction = t; outs = registered_reply a c })
completion_held m a r t None c f g h = absurd cc
completion_held m a r t (Some x) c f g h = by_test (is_epr x.initiator r.participant) refl h
  where
    by_test : (b : Bool) → is_epr x.initiator r.participant ≡ b → (if b then Some (completion_endpoint m.base t.id) else None) ≡ Some c
        → Enrolls m a r t (record { transaction = t; outs = registered_reply a c })
    by_test true e h =
        let same : completion_endpoint m.base t.id ≡ c = cc in
        has_completion x f g (same_epr x.initiator r.participant e) (λ j. record { transaction = t; outs = registered_reply a (sym same j) })
    by_test false e h = absurd cc

held_enrolls : (m : Moment) (a : Arrived) (r : Register) (t : Transaction) (kind : Option (Option Kind)) (c : Epr) → protocol_named r.protocol ≡ kind → held_seat m r t kind ≡ Some c
    → Enrolls m a r t (record { transaction = t; outs = registered_reply a c })
held_enrolls m a r t None c f h = absurd cc
held_enrolls m a r t (Some None) c f h = completion_held m a r t t.completion c f refl h
held_enrolls m a r t (Some (Some kind)) c f h = seat_held m a r t kind _ c f refl h

again_enrolls : (m : Moment) (a : Arrived) (r : Register) (t : Transaction) (kind : Option (Option Kind)) (held : Option Epr) → protocol_named r.protocol ≡ kind
    → held_seat m r t kind ≡ held → Enrolls m a r t (register_again m a r t kind held)
unfolding register_again
again_enrolls m a r t kind (Some c) f h = held_enrolls m a r t kind c f h
again_enrolls m a r t kind None f h = new_enrolls m a r t kind f

pub register_enrolls : (m : Moment) (a : Arrived) (r : Register) (t : Transaction) → Enrolls m a r t (on_register m a r t)
unfolding on_register
register_enrolls m a r t = again_enrolls m a r t (protocol_named r.protocol) (held_seat m r t (protocol_named r.protocol)) refl refl
