-- A Register that arrives is one of an item of its sender, and names it.
use Rattle.std.specs.Prelude.{ℕ, List, Option, Some, None, Bool, ◌≡◌, refl}
use Rattle.std.proofs.Common.{sym, subst, ap, ◌∙◌}
use Rattle.at_base.specs.Numbers.{Numbers}
use Rattle.at_base.specs.IdText.{IsId}
use Rattle.at_base.specs.declared.epr.Epr.{Epr}
use Rattle.at_base.specs.declared.epr.Reply.TheVariants as replies
use Rattle.at_base.specs.declared.notice.Kind.{Kind}
use Rattle.at_base.specs.declared.notice.Kind.TheVariants as kinds
use Rattle.at_base.specs.declared.message.Message.TheVariants as messages
use Rattle.at_base.specs.declared.message.Register.{Register}
use Rattle.at_base.specs.declared.event.Arrived.{Arrived}
use Rattle.at_base.specs.declared.event.Event.{Event}
use Rattle.at_base.specs.declared.event.Event.TheVariants as events
use Rattle.at_base.specs.declared.target.Target.{Target}
use Rattle.at_base.specs.declared.target.Target.TheVariants as targets
use Rattle.endpoints.specs.Addresses.{protocol_of}
use Rattle.at_model.specs.Book.{Book}
use Rattle.at_model.specs.Register.{protocol_named}
use Rattle.at_model.specs.World.{Node, Posted, World, new_nodes, place_of, reply_of, Hosts, IsNumber}
use Rattle.agreement.specs.Places.{HasPath}
use Rattle.agreement.specs.Registers.{IsOwnRegister, IsWhose, RegistersFor, Whose}
use Rattle.agreement.specs.Sorts.{AreSorted, FitsTarget}
use Rattle.agreement.proofs.Places.{addresses_lead_home}
use Rattle.agreement.proofs.SeatedEntries.{one_of}
use Rattle.agreement.proofs.Sorts.{world_sorted}
use Rattle.enlistments.specs.Leads.{LeadsTo}
use Rattle.enlistments.proofs.Arrivals.{HasCome, Stepping, has_come}

pub record IsRegisterOf (hosts : Hosts) (a : Arrived) (r : Register) : Type 0 where
  pub sender : ℕ
  pub own : Target
  pub id : Numbers
  pub registers : RegistersFor own id r.protocol
  pub reply : a.reply ≡ replies.At r.participant
  -- its endpoint leads to it alone
  pub leads : (m : ℕ) (T : Target) → LeadsTo hosts r.participant m T → (m ≡ sender) × (T ≡ own)

has_path : (own : Target) (id : Numbers) (protocol : List ℕ) → RegistersFor own id protocol → IsId id → HasPath own
has_path (targets.Participant i kind) id protocol h k = subst IsId (sym h.0) k
has_path (targets.Initiator i) id protocol h k = subst IsId (sym h.0) k
has_path targets.Activation id protocol h k = absurd h
has_path targets.Work id protocol h k = absurd h
has_path (targets.Registration i) id protocol h k = absurd h
has_path (targets.Completion i) id protocol h k = absurd h
has_path (targets.Coordinator i s) id protocol h k = absurd h

pub register_of : (hosts : Hosts) (u : World) (n : ℕ) (x : Node) (b : Book) (e : Event) (now : ℕ) (landed : Bool) (a : Arrived) (r : Register) → Stepping hosts u n x b e now landed
    → e ≡ events.Arrived a → a.message ≡ messages.Register r → IsRegisterOf hosts a r
register_of hosts u n x b e now landed a r s came says =
    let h : HasCome hosts u n a = has_come hosts u n x b e now landed a s came in
    let p : Posted = h.posted in
    let sorted : AreSorted hosts u = world_sorted hosts u s.distinct s.reached in
    let g : IsOwnRegister (λ own id. FitsTarget (sorted.sort p.sender) own × (IsId id × IsNumber hosts p.sender)) (hosts.base_of p.sender) p.content r =
    subst (Whose (λ own id. FitsTarget (sorted.sort p.sender) own × (IsId id × IsNumber hosts p.sender)) (hosts.base_of p.sender) p.content) (h.message ∙ says)
    (one_of (λ q. IsWhose (λ own id. FitsTarget (sorted.sort q.sender) own × (IsId id × IsNumber hosts q.sender)) (hosts.base_of q.sender) q.content) u.posted p sorted.posted h.stands) in
    record {
      sender = p.sender;
      own = g.own;
      id = g.id;
      registers = g.registers;
      reply = h.reply ∙ ap reply_of g.reply;
      leads = λ m T l.
          addresses_lead_home hosts p.sender m g.own T s.distinct g.known.1.1 (has_path g.own g.id r.protocol g.registers g.known.1.0)
          (sym (ap (λ (y : Epr). place_of 1 (new_nodes hosts.base_of hosts.count 1) y.address) g.participant) ∙ l);
    }

-- the protocol that it names is that of its sort
protocol_back : (kind : Kind) → protocol_named (protocol_of kind) ≡ Some (Some kind)
protocol_back kinds.Volatile = refl
protocol_back kinds.Durable = refl

same_protocol : (o : Option (Option Kind)) (k d : Kind) → o ≡ Some (Some k) → o ≡ Some (Some d) → k ≡ d
same_protocol o k d e f = cc

other_protocol : (o : Option (Option Kind)) (k : Kind) → o ≡ Some (Some k) → o ≡ Some None → ⊥
other_protocol o k e f = cc

pub for_kind : (own : Target) (id : Numbers) (protocol : List ℕ) (kind : Kind) → RegistersFor own id protocol → protocol_named protocol ≡ Some (Some kind)
    → (i : Numbers) × (own ≡ targets.Participant i kind)
for_kind (targets.Participant i k) id protocol kind h f =
    (i, ap (targets.Participant i) (same_protocol (protocol_named protocol) k kind (ap protocol_named h.1 ∙ protocol_back k) f))
for_kind (targets.Initiator i) id protocol kind h f = absurd (other_protocol (protocol_named protocol) kind f (ap protocol_named h.1))
for_kind targets.Activation id protocol kind h f = absurd h
for_kind targets.Work id protocol kind h f = absurd h
for_kind (targets.Registration i) id protocol kind h f = absurd h
for_kind (targets.Completion i) id protocol kind h f = absurd h
for_kind (targets.Coordinator i s) id protocol kind h f = absurd h

pub for_completion : (own : Target) (id : Numbers) (protocol : List ℕ) → RegistersFor own id protocol → protocol_named protocol ≡ Some None → (i : Numbers) × (own ≡ targets.Initiator i)
for_completion (targets.Participant i k) id protocol h f = absurd (other_protocol (protocol_named protocol) k (ap protocol_named h.1 ∙ protocol_back k) f)
for_completion (targets.Initiator i) id protocol h f = (i, refl)
for_completion targets.Activation id protocol h f = absurd h
for_completion targets.Work id protocol h f = absurd h
for_completion (targets.Registration i) id protocol h f = absurd h
for_completion (targets.Completion i) id protocol h f = absurd h
for_completion (targets.Coordinator i s) id protocol h f = absurd h
