-- What a step leaves where it was, and what comes of what it posts.
use Rattle.std.specs.Prelude.{ℕ, List, [], ◌∷◌, Option, Some, None, Bool, true, false, nat_eq, if◌then◌else◌, map, option_and_then, option_map, ◌≡◌, ◌⊎◌, refl}
use Rattle.std.proofs.Common.{inl, inr, sym, subst, ap, ◌∙◌}
use Rattle.std.proofs.lemmas.Bool.{eqb-true, eqb-false}
use Rattle.at_base.specs.Numbers.{Numbers}
use Rattle.at_base.specs.declared.epr.Epr.{Epr}
use Rattle.at_base.specs.declared.notice.Kind.{Kind}
use Rattle.at_base.specs.declared.notice.Notice.{Notice}
use Rattle.at_base.specs.declared.notice.Notice.TheVariants as notices
use Rattle.at_base.specs.declared.message.Message.TheVariants as messages
use Rattle.at_base.specs.declared.event.Arrived.{Arrived}
use Rattle.at_base.specs.declared.event.Event.TheVariants as events
use Rattle.at_base.specs.declared.outs.Post.{Post}
use Rattle.at_base.specs.declared.target.Target.{Target}
use Rattle.at_base.specs.declared.target.Target.TheVariants as targets
use Rattle.endpoints.specs.Addresses.{endpoint_of, target_at}
use Rattle.at_model.specs.Book.{Book, Enlistment}
use Rattle.at_model.specs.Seats.{seat_target}
use Rattle.at_model.specs.Step.{plan, step}
use Rattle.at_model.specs.World.{Node, Posted, Who, World, arrival_of, decoded, decoded_at, new_nodes, nth, put_nth, receiver_of, Hosts, HaveOwnAddresses}
use Rattle.endpoints.specs.Forms.{takes}
use Rattle.model_laws.specs.Agreement.{IsIn}
use Rattle.model_laws.specs.DrawnIds.{with_entry}
use Rattle.model_laws.specs.ReachedWorlds.{counts, post_all}
use Rattle.model_laws.proofs.Addresses.{leads_home, place_is}
use Rattle.model_laws.proofs.Nodes.{receiver_same}
use Rattle.model_laws.proofs.NodeLives.{put_other, put_this}
use Rattle.enlistments.specs.Leads.{LeadsTo}
use Rattle.enlistments.specs.Moves.{IsReady}
use Rattle.enlistments.proofs.Arrivals.{Stepping, step_ready, up_known, world_bases}
use Rattle.owed.specs.Seats.{AnswersSeat, Tells, posts_of, seat_post}
use Rattle.owed.specs.Shape.{AreShaped}
use Rattle.owed.proofs.Books.{reached_shaped}
use Rattle.paired.specs.Partners.{IsPlace, participant_of, seat_of}
use Rattle.settled.specs.CalmSteps.{Goes, HasArrived, posted_as}
use Rattle.settled.specs.OwedMessages.{Comes, Holds, IsNotice, IsNoticeFrom, IsSeatPlace, seat_target_of}

pub stepping : (hosts : Hosts) (u v : World) (before after : List Posted) → (g : Goes hosts u v before after) → Stepping hosts u g.number g.node g.book g.event g.now true
stepping hosts u v before after g = record { distinct = g.distinct; reached = g.reached; found = g.found; up = g.up; heard = g.heard }

pub ready : (hosts : Hosts) (u v : World) (before after : List Posted) → (g : Goes hosts u v before after) → IsReady g.book
ready hosts u v before after g = step_ready hosts u g.number g.node g.book g.event g.now true (stepping hosts u v before after g)

pub shaped : (hosts : Hosts) (u v : World) (before after : List Posted) → (g : Goes hosts u v before after) → AreShaped g.book
shaped hosts u v before after g = reached_shaped hosts u g.reached g.number g.node g.book g.found g.up

pub base_is : (hosts : Hosts) (u v : World) (before after : List Posted) → (g : Goes hosts u v before after) → g.book.base ≡ hosts.base_of g.number
base_is hosts u v before after g = (up_known hosts u g.distinct g.reached g.number g.node g.book g.found g.up).says.base_is

-- what is posted
abbrev pub posted_in : {hosts : Hosts} {u v : World} {before after : List Posted} → Goes hosts u v before after → List Post
posted_in g = posts_of (step g.book g.event g.now true).outs

abbrev pub book_after : {hosts : Hosts} {u v : World} {before after : List Posted} → Goes hosts u v before after → Book
book_after g = (step g.book g.event g.now true).book

-- books
pub same_book : (w : World) (n : ℕ) (b c : Book) → Holds w n b → Holds w n c → b ≡ c
same_book w n b c h k =
    let nodes : h.node ≡ k.node = same_node (nth n w.nodes) h.node k.node h.found k.found in
    same_one b c (sym h.up ∙ ap (λ (y : Node). y.book) nodes ∙ k.up)
  where
    same_node : (o : Option Node) (x y : Node) → o ≡ Some x → o ≡ Some y → x ≡ y
    same_node o x y e f = cc

    same_one : (x y : Book) → Some x ≡ Some y → x ≡ y
    same_one x y e = cc

pub holds_before : (hosts : Hosts) (u v : World) (before after : List Posted) → (g : Goes hosts u v before after) → Holds u g.number g.book
holds_before hosts u v before after g = record { node = g.node; found = g.found; up = g.up }

posts_nodes : (n : ℕ) (ps : List Post) (w : World) → (post_all n ps w).nodes ≡ w.nodes
posts_nodes n [] w = refl
posts_nodes n (p ∷ ps) w = posts_nodes n ps _

abbrev pub node_after : {hosts : Hosts} {u v : World} {before after : List Posted} → Goes hosts u v before after → Node
node_after g = record g.node { book = Some (step g.book g.event g.now true).book; journal = with_entry (plan g.book g.event g.now).entry true g.node.journal }

pub nodes_after : (hosts : Hosts) (u v : World) (before after : List Posted) → (g : Goes hosts u v before after) → v.nodes ≡ put_nth g.number (node_after g) u.nodes
nodes_after hosts u v before after g = ap (λ (w : World). w.nodes) g.is ∙ posts_nodes g.number (posted_in g) (counts u g.number g.node g.book g.event g.now true)

pub holds_after : (hosts : Hosts) (u v : World) (before after : List Posted) → (g : Goes hosts u v before after) → Holds v g.number (book_after g)
holds_after hosts u v before after g = record {
  node = node_after g;
  found = ap (nth g.number) (nodes_after hosts u v before after g) ∙ put_this u.nodes g.number g.node (node_after g) g.found;
  up = refl;
}

pub holds_elsewhere : (hosts : Hosts) (u v : World) (before after : List Posted) → (g : Goes hosts u v before after) → (n : ℕ) (b : Book) → (n ≡ g.number → ⊥) → Holds u n b → Holds v n b
holds_elsewhere hosts u v before after g n b other h = record {
  node = h.node;
  found = ap (nth n) (nodes_after hosts u v before after g) ∙ put_other u.nodes n g.number (node_after g) other ∙ h.found;
  up = h.up;
}

pub held_elsewhere : (hosts : Hosts) (u v : World) (before after : List Posted) → (g : Goes hosts u v before after) → (n : ℕ) (b : Book) → (n ≡ g.number → ⊥) → Holds v n b → Holds u n b
held_elsewhere hosts u v before after g n b other h = record {
  node = h.node;
  found = sym (ap (nth n) (nodes_after hosts u v before after g) ∙ put_other u.nodes n g.number (node_after g) other) ∙ h.found;
  up = h.up;
}

-- here or elsewhere
pub or_elsewhere : (n m : ℕ) → (n ≡ m) ⊎ (n ≡ m → ⊥)
or_elsewhere n m = by_number (nat_eq n m) refl
  where
    by_number : (c : Bool) → nat_eq n m ≡ c → (n ≡ m) ⊎ (n ≡ m → ⊥)
    by_number true c = inl (eqb-true n m c)
    by_number false c = inr (eqb-false n m c)

-- what is on its way
pub or_arrives : (hosts : Hosts) (u v : World) (before after : List Posted) → (g : Goes hosts u v before after) → (n : ℕ) (P : Arrived → Type 0) → (c : Comes hosts before n P)
    → Comes hosts after n P ⊎ ((n ≡ g.number) × (g.event ≡ events.Arrived c.arrived))
or_arrives hosts u v before after g n P c = by_place (g.stays c.posted c.waits)
  where
    same_number : (i j : ℕ) → Some i ≡ Some j → i ≡ j
    same_number i j e = cc

    by_place : IsIn c.posted after ⊎ HasArrived hosts g.number g.event c.posted → Comes hosts after n P ⊎ ((n ≡ g.number) × (g.event ≡ events.Arrived c.arrived))
    by_place (inl i) = inl (record { posted = c.posted; waits = i; receiver = c.receiver; arrived = c.arrived; decodes = c.decodes; says = c.says })
    by_place (inr (to, arrives)) =
        let here : n ≡ g.number = same_number n g.number (sym c.receiver ∙ to) in
        inr (here, arrives c.arrived (ap (λ m. decoded (hosts.base_of m) c.posted.content) (sym here) ∙ c.decodes))

pub comes_as : (hosts : Hosts) {P Q : Arrived → Type 0} (queue : List Posted) (n : ℕ) → ((a : Arrived) → P a → Q a) → Comes hosts queue n P → Comes hosts queue n Q
comes_as hosts queue n f c = record { posted = c.posted; waits = c.waits; receiver = c.receiver; arrived = c.arrived; decodes = c.decodes; says = f c.arrived c.says }

-- a message that is posted comes to whom its endpoint leads
mapped_in : {A B : Type 0} (f : A → B) (x : A) (xs : List A) → IsIn x xs → IsIn (f x) (map f xs)
mapped_in f x [] i = absurd i
mapped_in f x (y ∷ xs) (inl e) = inl (ap f e)
mapped_in f x (y ∷ xs) (inr i) = inr (mapped_in f x xs i)

pub decodes_there : (hosts : Hosts) (n : ℕ) (p : Post) (to : Epr) (T : Target) → p.to ≡ Some to → LeadsTo hosts to n T → takes T p.message ≡ true → decoded (hosts.base_of n) p ≡ Some (arrival_of T p)
decodes_there hosts n p to T goes leads taken =
    ap (option_and_then (λ (e : Epr). decoded_at (target_at (hosts.base_of n) e.address) p)) goes
    ∙ ap (λ o. decoded_at o p) (place_is hosts.base_of hosts.count 1 to.address (n, T) leads).target
    ∙ ap (λ b. if b then Some (arrival_of T p) else None) taken

pub new_comes : (hosts : Hosts) (u v : World) (before after : List Posted) → (g : Goes hosts u v before after) → (n : ℕ) (p : Post) (to : Epr) (T : Target) → IsIn p (posted_in g) → p.to ≡ Some to
    → LeadsTo hosts to n T → takes T p.message ≡ true → Comes hosts after n (λ a. a ≡ arrival_of T p)
new_comes hosts u v before after g n p to T i goes leads taken = record {
  posted = posted_as g.number u.nodes p;
  waits = g.adds (posted_as g.number u.nodes p) (mapped_in (posted_as g.number u.nodes) p (posted_in g) i);
  receiver = ap (receiver_of u.nodes) goes ∙ receiver_same u.nodes (new_nodes hosts.base_of hosts.count 1) (Some to) (world_bases hosts u g.distinct g.reached) ∙ ap (option_map (λ q. q.0)) leads;
  arrived = arrival_of T p;
  decodes = decodes_there hosts n p to T goes leads taken;
  says = refl;
}

-- endpoints
pub leads_participant : (hosts : Hosts) (x : Who) (kind : Kind) (e : Epr) → HaveOwnAddresses hosts → IsPlace hosts x → e ≡ participant_of hosts x kind → LeadsTo hosts e x.node (targets.Participant x.id kind)
leads_participant hosts x kind e distinct h is =
    subst (λ y. LeadsTo hosts y x.node (targets.Participant x.id kind)) (sym is) (leads_home hosts x.node (targets.Participant x.id kind) distinct h.least h.most h.id)

pub leads_seat : (hosts : Hosts) (t : Who) (number : ℕ) (kind : Kind) → HaveOwnAddresses hosts → IsSeatPlace hosts t number → LeadsTo hosts (seat_of hosts t number kind) t.node (seat_target_of t number kind)
leads_seat hosts t number kind distinct h = leads_home hosts t.node (seat_target_of t number kind) distinct h.place.least h.place.most (h.place.id, h.least, h.most)

-- what participants and seats are told
abbrev pub AsksParticipant : Notice → Type 0
AsksParticipant notices.Prepare = Unit {0}
AsksParticipant notices.Commit = Unit {0}
AsksParticipant notices.Rollback = Unit {0}
AsksParticipant other = ⊥

takes_asked : (n : Notice) (id : Numbers) (kind : Kind) → AsksParticipant n → takes (targets.Participant id kind) (messages.Notice n) ≡ true
takes_asked notices.Prepare id kind h = refl
takes_asked notices.Commit id kind h = refl
takes_asked notices.Rollback id kind h = refl
takes_asked other id kind h = absurd h

takes_answer : (n : Notice) (t : Who) (number : ℕ) (kind : Kind) → AnswersSeat n → takes (seat_target_of t number kind) (messages.Notice n) ≡ true
takes_answer notices.Prepared t number kind h = refl
takes_answer notices.ReadOnly t number kind h = refl
takes_answer notices.Aborted t number kind h = refl
takes_answer notices.Committed t number kind h = refl
takes_answer other t number kind h = absurd h

pub participant_told : (hosts : Hosts) (u v : World) (before after : List Posted) → (g : Goes hosts u v before after) → (x : Who) (kind : Kind) (n : Notice) (to : Epr) → AsksParticipant n → IsPlace hosts x
    → to ≡ participant_of hosts x kind → Tells (Some to) n (posted_in g) → Comes hosts after x.node (IsNotice (targets.Participant x.id kind) n)
participant_told hosts u v before after g x kind n to asks place is (p, i, goes, says) =
    comes_as hosts after x.node (λ a e. (ap (λ (y : Arrived). y.target) e, ap (λ (y : Arrived). y.message) e ∙ says))
    (new_comes hosts u v before after g x.node p to (targets.Participant x.id kind) i goes (leads_participant hosts x kind to g.distinct place is)
    (ap (takes (targets.Participant x.id kind)) says ∙ takes_asked n x.id kind asks))

pub seat_told : (hosts : Hosts) (u v : World) (before after : List Posted) → (g : Goes hosts u v before after) → (t : Who) (number : ℕ) (kind : Kind) (n : Notice) → AnswersSeat n
    → IsSeatPlace hosts t number → Tells (Some (seat_of hosts t number kind)) n (posted_in g) → Comes hosts after t.node (IsNotice (seat_target_of t number kind) n)
seat_told hosts u v before after g t number kind n answers place (p, i, goes, says) =
    comes_as hosts after t.node (λ a e. (ap (λ (y : Arrived). y.target) e, ap (λ (y : Arrived). y.message) e ∙ says))
    (new_comes hosts u v before after g t.node p (seat_of hosts t number kind) (seat_target_of t number kind) i goes (leads_seat hosts t number kind g.distinct place)
    (ap (takes (seat_target_of t number kind)) says ∙ takes_answer n t number kind answers))

-- a seat's own message to its participant
abbrev pub SaysWhose : Notice → Type 0
SaysWhose notices.Prepare = Unit {0}
SaysWhose notices.Commit = Unit {0}
SaysWhose other = ⊥

pub seat_asks : (hosts : Hosts) (u v : World) (before after : List Posted) → (g : Goes hosts u v before after) → (id : Numbers) (s : Enlistment) (x : Who) (n : Notice) → SaysWhose n → IsPlace hosts x
    → s.participant ≡ participant_of hosts x s.kind → IsIn (seat_post g.book.base id s n) (posted_in g)
    → Comes hosts after x.node (IsNoticeFrom (targets.Participant x.id s.kind) n (seat_of hosts (record { node = g.number; id = id }) s.number s.kind))
seat_asks hosts u v before after g id s x notices.Prepare h place is i =
    comes_as hosts after x.node
    (λ a e. (
      (ap (λ (y : Arrived). y.target) e, ap (λ (y : Arrived). y.message) e),
      ap (λ (y : Arrived). y.from) e ∙ ap (λ base. Some (endpoint_of base (seat_target id s))) (base_is hosts u v before after g),
    ))
    (new_comes hosts u v before after g x.node (seat_post g.book.base id s notices.Prepare) s.participant (targets.Participant x.id s.kind) i refl
    (leads_participant hosts x s.kind s.participant g.distinct place is) refl)
seat_asks hosts u v before after g id s x notices.Commit h place is i =
    comes_as hosts after x.node
    (λ a e. (
      (ap (λ (y : Arrived). y.target) e, ap (λ (y : Arrived). y.message) e),
      ap (λ (y : Arrived). y.from) e ∙ ap (λ base. Some (endpoint_of base (seat_target id s))) (base_is hosts u v before after g),
    ))
    (new_comes hosts u v before after g x.node (seat_post g.book.base id s notices.Commit) s.participant (targets.Participant x.id s.kind) i refl
    (leads_participant hosts x s.kind s.participant g.distinct place is) refl)
seat_asks hosts u v before after g id s x other h place is i = absurd h
