-- What registers, and what is created, has what the message had, and so have the answers.
use Rattle.std.specs.Prelude.{ℕ, List, [], ◌∷◌, Option, Some, None, Bool, true, false, not, IfSome, ◌&&◌, ◌+◌, ◌^◌, if◌then◌else◌, bytes_eq, nat_lt, length, find, option_map, ◌≡◌, ◌<◌}
use Rattle.std.specs.List.{AllByRecursion}
use Rattle.std.proofs.Common.{arith, subst}
use Rattle.std.proofs.lemmas.Bool.{ltb-true}
use Rattle.at_base.specs.Numbers.{Numbers}
use Rattle.at_base.specs.IdText.{IsId}
use Rattle.at_base.specs.Names.{is_kind}
use Rattle.at_base.specs.declared.epr.Epr.{Epr}
use Rattle.at_base.specs.declared.epr.Reply.{Reply}
use Rattle.at_base.specs.declared.epr.Reply.TheVariants as replies
use Rattle.at_base.specs.declared.event.Arrived.{Arrived}
use Rattle.at_base.specs.declared.event.Moment.{Moment}
use Rattle.at_base.specs.declared.fault.Fault.TheVariants.{CannotCreateContext, CannotRegisterParticipant, InvalidParameters, InvalidProtocol}
use Rattle.at_base.specs.declared.limits.TheConstants.{MOST_ITEMS, MOST_SEATS}
use Rattle.at_base.specs.declared.message.Context.{Context}
use Rattle.at_base.specs.declared.message.Create.{Create}
use Rattle.at_base.specs.declared.message.Message.TheVariants as messages
use Rattle.at_base.specs.declared.message.Register.{Register}
use Rattle.at_base.specs.declared.notice.Kind.{Kind}
use Rattle.at_base.specs.declared.notice.Kind.TheVariants as kinds
use Rattle.at_base.specs.declared.notice.Notice.TheVariants as notices
use Rattle.at_base.specs.declared.outs.Out.TheVariants as outs
use Rattle.at_base.specs.declared.target.Target.TheVariants as targets
use Rattle.endpoints.specs.Addresses.{atomic, or_else, protocol_of}
use Rattle.at_model.specs.Book.{Completion, Enlistment, Transaction, is_epr}
use Rattle.at_model.specs.Posts.{notice_post}
use Rattle.at_model.specs.Seats.{seat_target}
use Rattle.at_model.specs.Arrivals.{context_of}
use Rattle.at_model.specs.Create.{Creation, create_in, create_under, identifier_of, new_root, on_create, refuse_create}
use Rattle.at_model.specs.Register.{Registration, accept, completion_endpoint, held_seat, is_late, late_prepare, may_register, new_seat, on_register, protocol_named, register_again, register_new, register_unknown, registered_reply, seat_endpoint, seat_for}
use Rattle.model_laws.proofs.DecisionLaws.{all_if, all_join, either_of}
use Rattle.model_laws.proofs.PhaseAnswers.{then_room}
use Rattle.provenance.specs.Forms.{AreOuts, Forms, HaveOwn, IsArrived, IsHeard, IsOut, IsReply, IsSeat, IsTransaction}
use Rattle.provenance.proofs.TransactionPosts.{faulted_have, notice_has, registering_has, replied_have}

abbrev Registers : Forms → Registration → Type 0
Registers F r = IsTransaction F r.transaction × AreOuts F r.outs

abbrev Creates : Forms → Creation → Type 0
Creates F c = IfSome c.transaction (IsTransaction F) × AreOuts F c.outs

-- what is found in a list
found_first : {A : Type 0} (P : A → Type 0) (b : Bool) (x : A) (o : Option A) → P x → IfSome o P → IfSome (if b then Some x else o) P
found_first P true x o h k = h
found_first P false x o h k = k

find_has : {A : Type 0} (P : A → Type 0) (test : A → Bool) (xs : List A) → AllByRecursion P xs → IfSome (find test xs) P
find_has P test [] h = tt
find_has P test (x ∷ xs) (h, k) = found_first P (test x) x (find test xs) h (find_has P test xs k)

map_has : {A B : Type 0} (P : A → Type 0) (Q : B → Type 0) (f : A → B) (o : Option A) → ((x : A) → P x → Q (f x)) → IfSome o P → IfSome (option_map f o) Q
map_has P Q f None h k = tt
map_has P Q f (Some x) h k = h x k

-- the number of a new seat
room_below : (n : ℕ) → nat_lt n MOST_SEATS ≡ true → n + 1 < 2 ^ 16
room_below n e = omega (arith, ltb-true n MOST_SEATS e)

module _ (F : Forms) (m : Moment) (own : HaveOwn F m.base) (a : Arrived) (came : IsArrived F a) where
  registered_has : (coordinator : Epr) → F.endpoint coordinator → AreOuts F (registered_reply a coordinator)
  registered_has coordinator h = replied_have F a.reply a.id (messages.RegisterResponse coordinator) came.reply came.id h (λ p. tt)

  new_seat_has : (t : Transaction) (participant : Epr) (kind : Kind) → F.endpoint participant → nat_lt (length t.seats) MOST_SEATS ≡ true → IsId t.id
      → IsSeat F t.id (new_seat t participant kind)
  new_seat_has t participant kind h e is = record { number = (is, omega arith, room_below (length t.seats) e); participant = h }

  late_has : (id : Numbers) (late : Bool) (s : Enlistment) → IsSeat F id s → AreOuts F (late_prepare m id late s)
  late_has id late s h =
      all_if (IsOut F) late (outs.Post (notice_post m.base (seat_target id s) s.participant notices.Prepare) ∷ []) []
      (notice_has F m.base own (seat_target id s) s.participant notices.Prepare h.number h.participant, tt) tt

  accept_has : (t : Transaction) (participant : Epr) (kind : Option Kind) → F.endpoint participant → may_register t kind ≡ true → IsTransaction F t
      → Registers F (accept m a t participant kind)
  unfolding accept
  accept_has t participant (Some kind) k e h =
      let s : Enlistment = new_seat t participant kind in
      let n : IsSeat F t.id s = new_seat_has t participant kind k (then_room t (Some kind) e) h.id in
      let late : Bool = is_late t.phase s.kind in (
        record { id = h.id; superior = h.superior; seats = all_join (IsSeat F t.id) t.seats (s ∷ []) h.seats (n, tt); completion = h.completion },
        all_join (IsOut F) (registered_reply a (seat_endpoint m.base t.id s)) (late_prepare m t.id late s)
            (registered_has (seat_endpoint m.base t.id s) (own.endpoints (seat_target t.id s) n.number)) (late_has t.id late s n),
      )
  accept_has t participant None k e h = (
    record { id = h.id; superior = h.superior; seats = h.seats; completion = k },
    registered_has (completion_endpoint m.base t.id) (own.endpoints (targets.Completion t.id) h.id),
  )

  register_new_has : (r : Register) (t : Transaction) (kind : Option (Option Kind)) → F.endpoint r.participant → IsTransaction F t → Registers F (register_new m a r t kind)
  unfolding register_new
  register_new_has r t None k h = (h, faulted_have F a.fault a.id InvalidProtocol came.fault came.id)
  register_new_has r t (Some kind) k h =
      either_of (Registers F) (not a.postable) _ _ (λ e. (h, faulted_have F a.fault a.id InvalidParameters came.fault came.id))
      (λ e. either_of (Registers F) (may_register t kind) _ _ (λ f. accept_has t r.participant kind k f h)
      (λ f. (h, faulted_have F a.fault a.id CannotRegisterParticipant came.fault came.id)))

  register_again_has : (r : Register) (t : Transaction) (kind : Option (Option Kind)) (held : Option Epr) → F.endpoint r.participant → IfSome held F.endpoint → IsTransaction F t
      → Registers F (register_again m a r t kind held)
  unfolding register_again
  register_again_has r t kind (Some coordinator) k l h = (h, registered_has coordinator l)
  register_again_has r t kind None k l h = register_new_has r t kind k h

  seat_for_has : (t : Transaction) (participant : Epr) (kind : Option Kind) (c : Option Completion) → IsTransaction F t → IfSome (seat_for m.base t.id participant kind t.seats c) F.endpoint
  seat_for_has t participant (Some kind) c h =
      let test : Enlistment → Bool = λ s. is_kind s.kind kind && is_epr s.participant participant in
      map_has (IsSeat F t.id) F.endpoint (seat_endpoint m.base t.id) (find test t.seats) (λ s k. own.endpoints (seat_target t.id s) k.number) (find_has (IsSeat F t.id) test t.seats h.seats)
  seat_for_has t participant None None h = tt
  seat_for_has t participant None (Some c) h =
      either_of (λ o. IfSome o F.endpoint) (is_epr c.initiator participant) (Some (completion_endpoint m.base t.id)) None
      (λ e. own.endpoints (targets.Completion t.id) h.id) (λ e. tt)

  held_has : (r : Register) (t : Transaction) (kind : Option (Option Kind)) → IsTransaction F t → IfSome (held_seat m r t kind) F.endpoint
  held_has r t None h = tt
  held_has r t (Some kind) h = seat_for_has t r.participant kind t.completion h

  on_register_has : (r : Register) (t : Transaction) → F.endpoint r.participant → IsTransaction F t → Registers F (on_register m a r t)
  unfolding on_register
  on_register_has r t k h = register_again_has r t (protocol_named r.protocol) (held_seat m r t (protocol_named r.protocol)) k (held_has r t (protocol_named r.protocol) h) h

  -- what is made
  refused_has : Creates F (refuse_create a)
  refused_has = (tt, faulted_have F a.fault a.id CannotCreateContext came.fault came.id)

  root_has : (id : Numbers) (c : Create) → IsId id → F.span c.expires → Creates F (create_in m id a c None)
  unfolding create_in
  root_has id c is h = (
    record { id = is; superior = tt; seats = tt; completion = tt },
    replied_have F a.reply a.id (messages.CreateResponse (context_of m.base (new_root m id c) c.expires)) came.reply came.id
        (own.contexts (identifier_of m.base id) c.expires id (own.identifiers id is) h is) (λ p. tt),
  )

  expires_has : (first second : Option ℕ) → F.span first → F.span second → F.span (or_else first second)
  expires_has (Some n) second h k = h
  expires_has None second h k = k

  under_has : (id : Numbers) (c : Create) (current : Context) (r : Reply) → IsId id → F.span c.expires → F.context current → IsReply F r → Creates F (create_under m id a c current r)
  unfolding create_under
  under_has id c current (replies.At reply) is h k l =
      let (named, lasting, endpoint) = own.parts current k in (
        record {
          id = is;
          superior = record {
            volatile = tt;
            durable = tt;
            request = record {
              identifier = named;
              id = came.id;
              reply = l;
              fault = came.fault;
              expires = expires_has c.expires current.expires h lasting;
              registration = endpoint;
            };
          };
          seats = tt;
          completion = tt;
        },
        (
          tt,
          (
            registering_has F m.base own (targets.Participant id kinds.Volatile) (protocol_of kinds.Volatile) current.registration is (own.protocols kinds.Volatile) endpoint,
            (registering_has F m.base own (targets.Participant id kinds.Durable) (protocol_of kinds.Durable) current.registration is (own.protocols kinds.Durable) endpoint, tt),
          ),
        ),
      )
  under_has id c current replies.Anonymous is h k l = refused_has
  under_has id c current replies.Nobody is h k l = refused_has

  create_has : (id : Numbers) (c : Create) (current : Option Context) → IsId id → F.span c.expires → IfSome current F.context → Creates F (create_in m id a c current)
  unfolding create_in
  create_has id c None is h k = root_has id c is h
  create_has id c (Some current) is h k = under_has id c current a.reply is h k came.reply

  on_create_has : (live : ℕ) (c : Create) (id : Option Numbers) → IfSome id IsId → IsHeard F (messages.Create c) → Creates F (on_create m live a c id)
  unfolding on_create
  on_create_has live c None is says = refused_has
  on_create_has live c (Some id) is says =
      either_of (Creates F) (bytes_eq c.coordination atomic && nat_lt live MOST_ITEMS) (create_in m id a c c.current) (refuse_create a)
      (λ e. create_has id c c.current is says.0 says.1) (λ e. refused_has)

pub register_passes : (F : Forms) (m : Moment) (a : Arrived) (r : Register) (t : Transaction) → HaveOwn F m.base → IsArrived F a → a.message ≡ messages.Register r → IsTransaction F t
    → IsTransaction F (on_register m a r t).transaction × AreOuts F (on_register m a r t).outs
register_passes F m a r t own came e h =
    let says : IsHeard F (messages.Register r) = subst (IsHeard F) e came.message in
    on_register_has F m own a came r t says.1 h

pub unknown_passes : (F : Forms) (a : Arrived) (r : Register) (kind : Option (Option Kind)) → IsArrived F a → AreOuts F (register_unknown a r kind)
unfolding register_unknown
unknown_passes F a r None came = faulted_have F a.fault a.id InvalidProtocol came.fault came.id
unknown_passes F a r (Some kind) came = faulted_have F a.fault a.id (if a.postable then CannotRegisterParticipant else InvalidParameters) came.fault came.id

pub create_passes : (F : Forms) (m : Moment) (live : ℕ) (a : Arrived) (c : Create) (id : Option Numbers) → HaveOwn F m.base → IsArrived F a → a.message ≡ messages.Create c → IfSome id IsId
    → IfSome (on_create m live a c id).transaction (IsTransaction F) × AreOuts F (on_create m live a c id).outs
create_passes F m live a c id own came e is = on_create_has F m own a came live c id is (subst (IsHeard F) e came.message)
