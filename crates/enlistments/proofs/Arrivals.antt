-- A message that arrives was posted, and came to where its address leads.
use Rattle.std.specs.Prelude.{ℕ, List, [], ◌∷◌, ◌++◌, Option, Some, None, Bool, true, false, ◌+◌, ◌-◌, if◌then◌else◌, option_map, option_and_then, ◌≡◌, refl}
use Rattle.std.specs.List.{AllByRecursion}
use Rattle.std.proofs.Common.{sym, subst, ap, ◌∙◌}
use Rattle.at_base.specs.declared.epr.Epr.{Epr}
use Rattle.at_base.specs.declared.event.Arrived.{Arrived}
use Rattle.at_base.specs.declared.event.Event.{Event}
use Rattle.at_base.specs.declared.event.Event.TheVariants as events
use Rattle.at_base.specs.declared.outs.Out.{Out}
use Rattle.at_base.specs.declared.outs.Out.TheVariants as outs
use Rattle.at_base.specs.declared.outs.Post.{Post}
use Rattle.at_base.specs.declared.target.Target.{Target}
use Rattle.at_model.specs.Book.{Book}
use Rattle.at_model.specs.Recovery.{last_incarnation}
use Rattle.at_model.specs.Step.{plan, step}
use Rattle.at_model.specs.World.{Node, Posted, World, arrival_of, decoded, decoded_at, lost_in, new_nodes, nth, place_of, put_book, put_nth, receiver_of, reply_of, started, up_after, Hosts, HaveOwnAddresses, IsNumber}
use Rattle.endpoints.specs.Addresses.{target_at}
use Rattle.endpoints.specs.Forms.{takes}
use Rattle.model_laws.specs.Agreement.{IsIn}
use Rattle.model_laws.specs.DrawnIds.{with_entry}
use Rattle.model_laws.specs.ReachedWorlds.{Heard, Reached, counts, stepped}
use Rattle.model_laws.proofs.DecisionLaws.{all_join}
use Rattle.model_laws.proofs.Registrations.{IsKnown, IsUp, world_good}
use Rattle.model_laws.proofs.WorldInvariants.{Law, OutFine, holds}
use Rattle.model_laws.proofs.Addresses.{HaveBases, place_is}
use Rattle.model_laws.proofs.Nodes.{bases_put, each_put, receiver_same, same_bases}
use Rattle.model_laws.proofs.NodeLives.{opening_node}
use Rattle.agreement.proofs.Sorts.{is_number}
use Rattle.agreement.specs.Places.{HasPath}
use Rattle.agreement.proofs.SeatedEntries.{one_of}
use Rattle.enlistments.specs.Leads.{LeadsTo}
use Rattle.enlistments.specs.Moves.{IsReady}
use Rattle.enlistments.proofs.StepMoves.{book_ready}
use Rattle.enlistments.proofs.Paths.{target_within}

-- a step of a world that is reached
pub record Stepping (hosts : Hosts) (u : World) (n : ℕ) (x : Node) (b : Book) (e : Event) (now : ℕ) (landed : Bool) : Type 0 where
  pub distinct : HaveOwnAddresses hosts
  pub reached : Reached hosts u
  pub found : nth n u.nodes ≡ Some x
  pub up : x.book ≡ Some b
  pub heard : Heard u n x e

pub then_reached : (hosts : Hosts) (u : World) (n : ℕ) (x : Node) (b : Book) (e : Event) (now : ℕ) (landed : Bool) → Stepping hosts u n x b e now landed
    → Reached hosts (counts u n x b e now landed)
then_reached hosts u n x b e now landed s = stepped u n x b e now landed [] s.reached s.found s.up s.heard tt refl

pub step_ready : (hosts : Hosts) (u : World) (n : ℕ) (x : Node) (b : Book) (e : Event) (now : ℕ) (landed : Bool) → Stepping hosts u n x b e now landed → IsReady b
step_ready hosts u n x b e now landed s = book_ready hosts u s.reached n x b s.found s.up

pub world_bases : (hosts : Hosts) (w : World) → HaveOwnAddresses hosts → Reached hosts w → HaveBases w.nodes (new_nodes hosts.base_of hosts.count 1)
world_bases hosts w distinct reached = (world_good hosts w distinct reached).world.bases

-- the base of a book, and its incarnation
pub up_known : (hosts : Hosts) (w : World) (distinct : HaveOwnAddresses hosts) (reached : Reached hosts w) (n : ℕ) (x : Node) (b : Book) → nth n w.nodes ≡ Some x → x.book ≡ Some b
    → IsUp (hosts.base_of n) ((world_good hosts w distinct reached).choices n) x.journal b
up_known hosts w distinct reached n x b found up =
    subst (IsKnown (hosts.base_of n) ((world_good hosts w distinct reached).choices n) x.journal) up ((world_good hosts w distinct reached).nodes n x found)

-- numbers of nodes
pub node_number : (hosts : Hosts) (n : ℕ) (w : World) (x : Node) → HaveOwnAddresses hosts → Reached hosts w → nth n w.nodes ≡ Some x → IsNumber hosts n
node_number hosts n w x apart reached found = is_number hosts n w.nodes x (world_bases hosts w apart reached) found

-- the receiver of what is posted
record AreRouted (hosts : Hosts) (w : World) : Type 0 where
  bases : HaveBases w.nodes (new_nodes hosts.base_of hosts.count 1)
  routed : AllByRecursion (λ p. p.receiver ≡ receiver_of (new_nodes hosts.base_of hosts.count 1) p.content.to) w.posted
  named : (n : ℕ) (x : Node) → nth n w.nodes ≡ Some x → x.base ≡ hosts.base_of n

put_routed : (hosts : Hosts) (u w : World) (n : ℕ) (x y : Node) → nth n u.nodes ≡ Some x → y.base ≡ x.base → w.nodes ≡ put_nth n y u.nodes → w.posted ≡ u.posted → AreRouted hosts u → AreRouted hosts w
put_routed hosts u w n x y found base nodes posted h = record {
  bases = subst (λ xs. HaveBases xs (new_nodes hosts.base_of hosts.count 1)) (sym nodes) (bases_put u.nodes (new_nodes hosts.base_of hosts.count 1) n x y found base h.bases);
  routed = subst (λ ps. AllByRecursion (λ p. p.receiver ≡ receiver_of (new_nodes hosts.base_of hosts.count 1) p.content.to) ps) (sym posted) h.routed;
  named = λ m z f. each_put (λ k v. v.base ≡ hosts.base_of k) u.nodes n x y found (base ∙ h.named n x found) (λ k v i r. h.named k v r) m z (sym (ap (nth m) nodes) ∙ f);
}

pub out_unit : (os : List Out) → AllByRecursion (OutFine (λ p. Unit {0})) os
out_unit [] = tt
out_unit (outs.Post p ∷ os) = (tt, out_unit os)
out_unit (outs.Answer status reply ∷ os) = (tt, out_unit os)

routing : (hosts : Hosts) → Law hosts
routing hosts = record {
  Good = AreRouted hosts;
  Fine = λ w g n p. Unit {0};
  opens = record { bases = same_bases (new_nodes hosts.base_of hosts.count 1); routed = tt; named = λ n x found. ap (λ (y : Node). y.base) (opening_node hosts n x found) };
  steps = λ u n x b e now landed reached found up heard g. (
    put_routed hosts u (counts u n x b e now landed) n x (record x { book = Some (step b e now landed).book; journal = with_entry (plan b e now).entry landed x.journal }) found refl refl refl g,
    out_unit (step b e now landed).outs,
  );
  posts = λ w g n p f. record {
    bases = g.bases;
    routed = all_join (λ q. q.receiver ≡ receiver_of (new_nodes hosts.base_of hosts.count 1) q.content.to) w.posted _ g.routed (receiver_same w.nodes (new_nodes hosts.base_of hosts.count 1) p.to g.bases, tt);
    named = g.named;
  };
  still_fine = λ w g n p q f h. tt;
  falls = λ u n x b reached found up g.
      subst (AreRouted hosts) (sym (ap (put_book n None (record u { happened = u.happened ++ lost_in n b })) found))
      (put_routed hosts u (record u { nodes = put_nth n (record x { book = None }) u.nodes; happened = u.happened ++ lost_in n b }) n x (record x { book = None }) found refl refl refl g);
  rises = λ u n x stop reached found down little g.
      put_routed hosts u (record u { nodes = put_nth n (up_after (started (last_incarnation x.journal + 1) x) stop) u.nodes }) n x (up_after (started (last_incarnation x.journal + 1) x) stop)
      found refl refl refl g;
  waits = λ u n x clock reached found g.
      put_routed hosts u (record u { nodes = put_nth n (record x { clock = clock }) u.nodes }) n x (record x { clock = clock }) found refl refl refl g;
}

-- what arrives, as it was posted
pub record HasCome (hosts : Hosts) (u : World) (n : ℕ) (a : Arrived) : Type 0 where
  pub posted : Posted
  pub stands : IsIn posted u.posted
  pub to : Epr
  pub sent : posted.content.to ≡ Some to
  pub leads : LeadsTo hosts to n a.target
  pub path : HasPath a.target
  pub message : posted.content.message ≡ a.message
  pub from : a.from ≡ posted.content.from
  pub reply : a.reply ≡ reply_of posted.content.reply
  pub taken : takes a.target a.message ≡ true

record IsDecoded (base : List ℕ) (p : Post) (a : Arrived) : Type 0 where
  to : Epr
  sent : p.to ≡ Some to
  target : target_at base to.address ≡ Some a.target
  is : a ≡ arrival_of a.target p
  taken : takes a.target p.message ≡ true

decodes : (base : List ℕ) (p : Post) (a : Arrived) → decoded base p ≡ Some a → IsDecoded base p a
decodes base p a e = by_to p.to refl e
  where
    by_takes : (to : Epr) → p.to ≡ Some to → (T : Target) → target_at base to.address ≡ Some T → (c : Bool) → takes T p.message ≡ c → (if c then Some (arrival_of T p) else None) ≡ Some a
        → IsDecoded base p a
    by_takes to goes T f true t g =
        let same : arrival_of T p ≡ a = cc in
        let at : T ≡ a.target = ap (λ (y : Arrived). y.target) same in
        record {
          to = to;
          sent = goes;
          target = f ∙ ap Some at;
          is = sym same ∙ ap (λ S. arrival_of S p) at;
          taken = subst (λ S. takes S p.message ≡ true) at t;
        }
    by_takes to goes T f false t g = absurd cc

    by_target : (to : Epr) → p.to ≡ Some to → (o : Option Target) → target_at base to.address ≡ o → decoded_at o p ≡ Some a → IsDecoded base p a
    by_target to goes None f g = absurd cc
    by_target to goes (Some T) f g = by_takes to goes T f (takes T p.message) refl g

    by_to : (o : Option Epr) → p.to ≡ o → option_and_then (λ to. decoded_at (target_at base to.address) p) o ≡ Some a → IsDecoded base p a
    by_to None f g = absurd cc
    by_to (Some to) f g = by_target to f (target_at base to.address) refl g

placed : (hosts : Hosts) (n : ℕ) (to : Epr) (o : Option (ℕ × Target)) (T : Target) → place_of 1 (new_nodes hosts.base_of hosts.count 1) to.address ≡ o → option_map (λ p. p.0) o ≡ Some n
    → target_at (hosts.base_of n) to.address ≡ Some T → o ≡ Some (n, T)
placed hosts n to None T e f g = absurd cc
placed hosts n to (Some p) T e f g =
    let same : p.0 ≡ n = cc in
    let target : target_at (hosts.base_of n) to.address ≡ Some p.1 = subst (λ m. target_at (hosts.base_of m) to.address ≡ Some p.1) same (place_is hosts.base_of hosts.count 1 to.address p e).target in
    λ i. Some (same i, that p.1 T (target_at (hosts.base_of n) to.address) target g i)
  where
    that : (S T : Target) (o : Option Target) → o ≡ Some S → o ≡ Some T → S ≡ T
    that S T o i j = cc

arrives : (hosts : Hosts) (u : World) (n : ℕ) (x : Node) (b : Book) (e : Event) (now : ℕ) (landed : Bool) (a : Arrived) → Stepping hosts u n x b e now landed → e ≡ events.Arrived a
    → (p : Posted) → IsIn p u.posted → p.receiver ≡ Some n → decoded x.base p.content ≡ Some a → HasCome hosts u n a
unfolding routing
arrives hosts u n x b e now landed a s came p i received read =
    let d : IsDecoded x.base p.content a = decodes x.base p.content a read in
    let base : x.base ≡ hosts.base_of n = (holds hosts (routing hosts) u s.reached).named n x s.found in
    let routed : p.receiver ≡ receiver_of (new_nodes hosts.base_of hosts.count 1) p.content.to =
    one_of (λ q. q.receiver ≡ receiver_of (new_nodes hosts.base_of hosts.count 1) q.content.to) u.posted p (holds hosts (routing hosts) u s.reached).routed i in
    let target : target_at (hosts.base_of n) d.to.address ≡ Some a.target = subst (λ k. target_at k d.to.address ≡ Some a.target) base d.target in
    record {
      posted = p;
      stands = i;
      to = d.to;
      sent = d.sent;
      leads = placed hosts n d.to (place_of 1 (new_nodes hosts.base_of hosts.count 1) d.to.address) a.target refl (ap (receiver_of (new_nodes hosts.base_of hosts.count 1)) (sym d.sent) ∙ sym routed ∙ received) target;
      path = target_within x.base d.to.address a.target d.target;
      message = sym (ap (λ (y : Arrived). y.message) d.is);
      from = ap (λ (y : Arrived). y.from) d.is;
      reply = ap (λ (y : Arrived). y.reply) d.is;
      taken = subst (λ m. takes a.target m ≡ true) (sym (ap (λ (y : Arrived). y.message) d.is)) d.taken;
    }

pub has_come : (hosts : Hosts) (u : World) (n : ℕ) (x : Node) (b : Book) (e : Event) (now : ℕ) (landed : Bool) (a : Arrived) → Stepping hosts u n x b e now landed → e ≡ events.Arrived a
    → HasCome hosts u n a
has_come hosts u n x b e now landed a s came =
    let (p, i, received, read) = subst (Heard u n x) came s.heard in
    arrives hosts u n x b e now landed a s came p i received read
