-- A Register that is shown with its answer is a registration that its transaction accepted.
use Rattle.std.proofs.Common.{ℕ, List, ◌∷◌, ◌++◌, ◌≡◌, ◌<◌, ◌≤◌, ◌^◌, Bool, true, false, Option, Some, None, sym, ap, subst, ◌∙◌, arith, refl}
use Rattle.std.specs.Prelude.{codes, option_and_then, if◌then◌else◌}
use Rattle.at_base.specs.IdText.{IsId, id_text}
use Rattle.at_base.specs.Names.{fault_name}
use Rattle.at_base.specs.Numbers.{Numbers}
use Rattle.at_base.specs.declared.epr.Epr.{Epr}
use Rattle.at_base.specs.declared.event.Arrived.{Arrived}
use Rattle.at_base.specs.declared.fault.Fault.{Fault}
use Rattle.at_base.specs.declared.fault.Fault.TheVariants as faults
use Rattle.at_base.specs.declared.message.Message.{Message}
use Rattle.at_base.specs.declared.message.Message.TheVariants as messages
use Rattle.at_base.specs.declared.notice.Kind.TheVariants as kinds
use Rattle.at_base.specs.declared.notice.Notice.{Notice}
use Rattle.at_base.specs.declared.notice.Notice.TheVariants as notices
use Rattle.at_base.specs.declared.outs.Post.{Post}
use Rattle.at_base.specs.declared.target.Target.{Target}
use Rattle.at_base.specs.declared.target.Target.TheVariants as targets
use Rattle.at_model.specs.Views.{message_name, path_in, receiver_number}
use Rattle.at_model.specs.World.{Posted, Who, World, arrival_of, decoded, decoded_at, example_base, example_hosts, new_nodes, receiver_of, HaveOwnAddresses}
use Rattle.endpoints.specs.Addresses.{IsWritten, endpoint_of, path_of, target_at}
use Rattle.endpoints.specs.Forms.{takes}
use Rattle.model_laws.specs.Agreement.{IsAccepted, IsIn}
use Rattle.model_laws.specs.ReachedWorlds.{Reached}
use Rattle.model_laws.proofs.Addresses.{leads_home}
use Rattle.enlistments.specs.Leads.{Enlists, LeadsTo}
use Rattle.enlistments.proofs.Answers.{answer_names}
use Rattle.printed_agreement.specs.PlainPosts.{IsOfNode, IsPlain, IsPlainMessage}
use Rattle.printed_agreement.specs.RegisterAnswers.{Answers}
use Rattle.printed_agreement.proofs.Places.{at_node, participant_is, path_shown, received_at, registration_is, same_base, seat_is}
use Rattle.printed_agreement.proofs.Texts.{apart}

-- names

no_notice : (n : Notice) → message_name (messages.Notice n) ≡ codes "RegisterResponse" → ⊥
no_notice notices.Prepare e = apart 0 _ _ e refl
no_notice notices.Commit e = apart 0 _ _ e refl
no_notice notices.Rollback e = apart 1 _ _ e refl
no_notice notices.Prepared e = apart 0 _ _ e refl
no_notice notices.ReadOnly e = apart 2 _ _ e refl
no_notice notices.Aborted e = apart 0 _ _ e refl
no_notice notices.Committed e = apart 0 _ _ e refl

no_fault : (f : Fault) → fault_name f ≡ codes "RegisterResponse" → ⊥
no_fault faults.InvalidState e = apart 0 _ _ e refl
no_fault faults.InvalidProtocol e = apart 0 _ _ e refl
no_fault faults.InvalidParameters e = apart 0 _ _ e refl
no_fault faults.CannotCreateContext e = apart 0 _ _ e refl
no_fault faults.CannotRegisterParticipant e = apart 0 _ _ e refl
no_fault faults.UnknownTransaction e = apart 0 _ _ e refl

is_response : (m : Message) → IsPlainMessage m → message_name m ≡ codes "RegisterResponse" → (c : Epr) × (m ≡ messages.RegisterResponse c)
is_response (messages.Create c) h e = absurd (apart 0 _ _ e refl)
is_response (messages.CreateResponse context) h e = absurd (apart 0 _ _ e refl)
is_response (messages.Register r) h e = absurd (apart 8 _ _ e refl)
is_response (messages.RegisterResponse c) h e = (c, refl)
is_response (messages.Notice n) h e = absurd (no_notice n e)
is_response (messages.Work w) h e = absurd (apart 0 _ _ e refl)
is_response messages.WorkDone h e = absurd (apart 0 _ _ e refl)
is_response messages.WorkRefused h e = absurd (apart 0 _ _ e refl)
is_response (messages.Fault name) h e = absurd (no_fault h.0 (sym h.1 ∙ e))

-- addresses

to_some : (o : Option Epr) (rest : List ℕ) → path_in o ≡ 47 ∷ rest → (e : Epr) × (o ≡ Some e)
to_some None rest e = absurd (apart 0 _ _ e refl)
to_some (Some to) rest e = (to, refl)

received_some : (o : Option ℕ) (m : ℕ) → 1 ≤ m → receiver_number o ≡ m → o ≡ Some m
received_some None m least e = absurd (omega (arith, least, e))
received_some (Some n) m least e = ap Some e

read_target : (base : List ℕ) (p : Post) (a : Arrived) (e : Epr) → p.to ≡ Some e → decoded base p ≡ Some a → target_at base e.address ≡ Some a.target
read_target base p a e goes read =
    by_target (target_at base e.address) refl (ap (option_and_then (λ (to : Epr). decoded_at (target_at base to.address) p)) (sym goes) ∙ read)
  where
    one : (y z : Arrived) → Some y ≡ Some z → y ≡ z
    one y z f = cc

    by_takes : (T : Target) (b : Bool) → (if b then Some (arrival_of T p) else None) ≡ Some a → T ≡ a.target
    by_takes T true g = ap (λ (y : Arrived). y.target) (one (arrival_of T p) a g)
    by_takes T false g = absurd cc

    by_target : (o : Option Target) → target_at base e.address ≡ o → decoded_at o p ≡ Some a → target_at base e.address ≡ Some a.target
    by_target None f g = absurd cc
    by_target (Some T) f g = f ∙ ap Some (by_takes T (takes T p.message) g)

-- The transaction that is asked, as it is shown.
record Shown (count : ℕ) (p : Posted) (c : Epr) (t : Who) (a : Answers (example_hosts count) p c) : Type 0 where
  node : a.number ≡ t.node
  id : a.asks.id ≡ t.id
  least : 1 ≤ a.number
  most : a.number ≤ count

same_registration : (i j : Numbers) → targets.Registration i ≡ targets.Registration j → i ≡ j
same_registration i j e = cc

shown : (count : ℕ) (p : Posted) (c : Epr) (t : Who) (a : Answers (example_hosts count) p c) → count < 2 ^ 64 → IsPlain count p → receiver_number p.receiver ≡ t.node
    → path_in p.content.to ≡ codes "/registration/" ++ id_text t.id → Shown count p c t a
shown count p c t a few plain node path =
    let (e, sent) = to_some p.content.to _ path in
    let h : IsOfNode e = plain.to e sent in
    let is : h.target ≡ targets.Registration t.id = registration_is h.target t.id h.written (sym (path_shown e h) ∙ ap path_in (sym sent) ∙ path) in
    let (r, number) = received_at count a.number e h (ap (receiver_of (new_nodes example_base count 1)) (sym sent) ∙ sym plain.received ∙ a.received) in
    let read : target_at (example_base a.number) (endpoint_of (example_base h.number) h.target).address ≡ Some a.arrived.target =
    subst (λ (y : Epr). target_at (example_base a.number) y.address ≡ Some a.arrived.target) h.same (read_target (example_base a.number) p.content a.arrived e sent a.read) in
    record {
      node = sym (ap receiver_number a.received) ∙ node;
      id = same_registration a.asks.id t.id (sym a.asks.target ∙ (at_node a.number h.number h.target a.arrived.target h.small h.written read).1 ∙ is);
      least = r.least;
      most = r.most;
    }

module _ (count : ℕ) (few : count < 2 ^ 64) (distinct : HaveOwnAddresses (example_hosts count)) (w : World) (reached : Reached (example_hosts count) w) where
  -- the seat that an answer names
  at_seat : (p : Posted) (c : Epr) (t : Who) (x : Who) (a : Answers (example_hosts count) p c) → Shown count p c t a → IsOfNode c → Enlists (example_hosts count) w c x kinds.Durable
      → (number : ℕ) × IsAccepted w t (Some (record { number = number; kind = kinds.Durable })) x
  at_seat p c t x a s h enlists =
      let (number, path) =
      same_base h.number a.number (path_of h.target) (path_of a.asks.seat) h.small (sym (ap (λ (y : Epr). y.address) a.asks.is) ∙ ap (λ (y : Epr). y.address) h.same) in
      let least : 1 ≤ h.number = omega (arith, s.least, number) in
      let most : h.number ≤ count = omega (arith, s.most, number) in
      let leads : LeadsTo (example_hosts count) c h.number h.target =
      subst (λ y. LeadsTo (example_hosts count) y h.number h.target) (sym h.same) (leads_home (example_hosts count) h.number h.target distinct least most h.written) in
      let (id, seat, is, accepted) = enlists h.number h.target leads in
      let written : IsId id = (subst IsWritten is h.written).0 in
      let same : id ≡ a.asks.id = seat_is a.asks.seat id a.asks.id (record { number = seat; kind = kinds.Durable }) a.asks.of written (ap path_of (sym is) ∙ sym path) in
      (seat, subst (λ y. IsAccepted w y (Some (record { number = seat; kind = kinds.Durable })) x) (λ i. record { node = (sym number ∙ s.node) i; id = (same ∙ s.id) i }) accepted)

  pub accepted : (p q : Posted) (t x : Who) → IsIn q w.posted → IsPlain count p → IsPlain count q
      → ((c : Epr) → q.content.message ≡ messages.RegisterResponse c → Answers (example_hosts count) p c)
      → receiver_number p.receiver ≡ t.node → path_in p.content.to ≡ codes "/registration/" ++ id_text t.id
      → 1 ≤ x.node → receiver_number q.receiver ≡ x.node → message_name q.content.message ≡ codes "RegisterResponse" → path_in q.content.to ≡ codes "/p/d/" ++ id_text x.id
      → (number : ℕ) × IsAccepted w t (Some (record { number = number; kind = kinds.Durable })) x × (x.node ≤ count) × IsId x.id
  accepted p q t x there plain_p plain_q answers node path least to_x name to_path =
      let (c, says) = is_response q.content.message plain_q.message name in
      let (e, goes) = to_some q.content.to _ to_path in
      let h : IsOfNode e = plain_q.to e goes in
      let is : h.target ≡ targets.Participant x.id kinds.Durable = participant_is h.target x.id h.written (sym (path_shown e h) ∙ ap path_in (sym goes) ∙ to_path) in
      let (r, number) = received_at count x.node e h (ap (receiver_of (new_nodes example_base count 1)) (sym goes) ∙ sym plain_q.received ∙ received_some q.receiver x.node least to_x) in
      let leads : LeadsTo (example_hosts count) e x.node (targets.Participant x.id kinds.Durable) = r.leads ∙ ap (λ T. Some (x.node, T)) is in
      let a : Answers (example_hosts count) p c = answers c says in
      let (seat, is_accepted) =
      at_seat p c t x a (shown count p c t a few plain_p node path) (subst IsPlainMessage says plain_q.message)
      (answer_names (example_hosts count) w distinct reached q there e c x.node (targets.Participant x.id kinds.Durable) goes says leads) in
      (seat, is_accepted, r.most, subst IsWritten is h.written)
