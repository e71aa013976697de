-- Once a node has ticked, all that its seats and participants wait for is on its way.
use Rattle.std.specs.Prelude.{ℕ, List, [], ◌∷◌, Option, Some, None, true, if◌then◌else◌, drop, length, ◌≡◌, ◌≤◌, ◌⊎◌, refl}
use Rattle.std.proofs.Common.{inl, inr, sym, subst, ap, ◌∙◌}
use Rattle.at_base.specs.Numbers.{Numbers}
use Rattle.at_base.specs.declared.epr.Epr.{Epr}
use Rattle.at_base.specs.declared.epr.Reply.TheVariants as replies
use Rattle.at_base.specs.declared.notice.Kind.{Kind}
use Rattle.at_base.specs.declared.notice.Kind.TheVariants as kinds
use Rattle.at_base.specs.declared.notice.Notice.{Notice}
use Rattle.at_base.specs.declared.notice.Notice.TheVariants as notices
use Rattle.at_base.specs.declared.event.Arrived.{Arrived}
use Rattle.at_base.specs.declared.event.Moment.{Moment}
use Rattle.at_base.specs.declared.outs.Post.{Post}
use Rattle.at_base.specs.declared.target.Target.{Target}
use Rattle.at_base.specs.declared.target.Target.TheVariants as targets
use Rattle.at_tables.specs.declared.cells.State.{State}
use Rattle.at_tables.specs.declared.cells.State.TheVariants as states
use Rattle.at_tables.specs.Names.{is_state}
use Rattle.endpoints.specs.Addresses.{endpoint_of, protocol_of, register_id}
use Rattle.at_model.specs.Book.{Book, Enlistment, Leaf, Link, Phase, Request, Superior, Transaction, WorkRequest, transaction_id}
use Rattle.at_model.specs.Create.{link_register}
use Rattle.at_model.specs.Due.{leaf_again, leaf_register_again, link_again, links_again, register_again_at, seat_again, seats_again, transaction_again, unanswered_seat}
use Rattle.at_model.specs.Leaves.{leaf_register, leaf_says, leaf_target}
use Rattle.at_model.specs.Phases.{upwards}
use Rattle.at_model.specs.Posts.{notice_post, register_post, stored_or, to_each}
use Rattle.at_model.specs.Seats.{link_of, seat_target}
use Rattle.at_model.specs.Step.{leaf_at, moment_of, transaction_at}
use Rattle.at_model.specs.World.{Posted, Who, World, WorldEvent, arrival_of, run_of, Hosts, HaveOwnAddresses}
use Rattle.endpoints.specs.Forms.{takes}
use Rattle.model_laws.specs.Agreement.{IsIn}
use Rattle.model_laws.specs.Links.{AreIn, AreLinked}
use Rattle.model_laws.specs.ReachedWorlds.{Reached}
use Rattle.model_laws.proofs.DecisionLaws.{all_find, in_front}
use Rattle.agreement.proofs.SeatedEntries.{one_of}
use Rattle.enlistments.specs.Leads.{LeadsTo}
use Rattle.enlistments.proofs.Arrivals.{up_known}
use Rattle.enlistments.proofs.StepMoves.{book_ready}
use Rattle.owed.specs.Shape.{suits}
use Rattle.owed.proofs.StepSeats.{in_back}
use Rattle.paired.specs.Partners.{IsPlace, participant_of, seat_of}
use Rattle.settling.specs.Resends.{ArePosted, HasPosted, ticked_at}
use Rattle.settling.proofs.Runs.{further_run, run_is}
use Rattle.settling.proofs.TickedNodes.{ticks_ask}
use Rattle.settled.specs.OwedMessages.{Comes, CommitsAreOwed, Holds, IsNoticeFrom, IsRegisterOf, IsSeatPlace, OutcomesAreOwed, OwesCommitted, OwesOutcome, OwesRegistered, OwesVote, RegistrationsAreOwed, VotesAreOwed}
use Rattle.settled.proofs.CalmTurns.{back_in}
use Rattle.settled.proofs.CalmSteps.{comes_as, leads_participant, leads_seat}
use Rattle.settled.proofs.Routes.{posted_comes}
use Rattle.settled.proofs.Votes.{suits_at}

-- the world behind the tick
pub ticked_reached : (hosts : Hosts) (es : List WorldEvent) (n : ℕ) → Reached hosts (ticked_at n (run_of hosts es))
ticked_reached hosts es n = run_is hosts (ticked_at n (run_of hosts es)) (further_run hosts (run_of hosts es) _ (record { events = es; is = refl }))

-- what was posted is on its way
again_comes : (hosts : Hosts) (es : List WorldEvent) (n j m : ℕ) (ps : List Post) (p : Post) (to : Epr) (T : Target) → j ≤ length (run_of hosts es).posted
    → ArePosted (run_of hosts es) (ticked_at n (run_of hosts es)) ps → IsIn p ps → p.to ≡ Some to → LeadsTo hosts to m T → takes T p.message ≡ true
    → Comes hosts (drop j (ticked_at n (run_of hosts es)).posted) m (λ a. a ≡ arrival_of T p)
again_comes hosts es n j m ps p to T passed h i goes leads taken =
    let w : World = run_of hosts es in
    let v : World = ticked_at n w in
    let (q, among, is) = one_of (HasPosted h.new) ps p h.each i in
    posted_comes hosts v (ticked_reached hosts es n) (drop j v.posted) m q p to T (subst (IsIn q) (sym h.posted) (in_back q w.posted h.new among))
    (subst (λ zs. IsIn q (drop j zs)) (sym h.posted) (back_in j q w.posted h.new passed among)) is goes leads taken

base_at : (hosts : Hosts) (w : World) → HaveOwnAddresses hosts → Reached hosts w → (n : ℕ) (b : Book) → Holds w n b → b.base ≡ hosts.base_of n
base_at hosts w distinct reached n b h = (up_known hosts w distinct reached n h.node b h.found h.up).says.base_is

-- seats
in_seats : (base : List ℕ) (id : Numbers) (seats : List Enlistment) (s : Enlistment) (n : Notice) → unanswered_seat s.state ≡ Some n → IsIn s seats
    → IsIn (notice_post base (seat_target id s) s.participant n) (seats_again base id seats)
in_seats base id [] s n e i = absurd i
in_seats base id (x ∷ seats) s n e (inl is) =
    in_front (notice_post base (seat_target id s) s.participant n) (seat_again base id x (unanswered_seat x.state)) (seats_again base id seats)
    (subst (λ (y : Enlistment). IsIn (notice_post base (seat_target id s) s.participant n) (seat_again base id y (unanswered_seat y.state))) is
    (subst (λ o. IsIn (notice_post base (seat_target id s) s.participant n) (seat_again base id s o)) (sym e) (inl refl)))
in_seats base id (x ∷ seats) s n e (inr i) =
    in_back (notice_post base (seat_target id s) s.participant n) (seat_again base id x (unanswered_seat x.state)) (seats_again base id seats) (in_seats base id seats s n e i)

not_aborting : (hosts : Hosts) (w : World) → Reached hosts w → (n : ℕ) (b : Book) → Holds w n b → (t : Transaction) (s : Enlistment) (state : State) → transaction_at b t.id ≡ Some t → IsIn s t.seats
    → s.state ≡ state → ((k : Kind) → suits Phase.Aborting k state ≡ true → ⊥) → t.phase ≡ Phase.Aborting → ⊥
not_aborting hosts w reached n b h t s state found i is none aborting =
    none s.kind (subst (λ p. suits p s.kind state ≡ true) aborting (subst (λ d. suits t.phase s.kind d ≡ true) is (suits_at hosts w reached n b h t s found i)))

no_preparing : (k : Kind) → suits Phase.Aborting k states.Preparing ≡ true → ⊥
no_preparing k e = cc

no_committing : (k : Kind) → suits Phase.Aborting k states.Committing ≡ true → ⊥
no_committing k e = cc

pub votes_asked : (hosts : Hosts) (es : List WorldEvent) (n j : ℕ) → HaveOwnAddresses hosts → j ≤ length (run_of hosts es).posted
    → VotesAreOwed hosts (λ m. m ≡ n) (ticked_at n (run_of hosts es)) (drop j (ticked_at n (run_of hosts es)).posted)
votes_asked hosts es n j distinct passed = record { seats = λ m b t s x here holds found i state place is. at_node m b t s x here holds found i state place is }
  where
    v : World
    v = ticked_at n (run_of hosts es)

    asked : (b : Book) (t : Transaction) (s : Enlistment) (x : Who) → (h : Holds v n b) → transaction_at b t.id ≡ Some t → IsIn s t.seats → s.state ≡ states.Preparing → IsPlace hosts x
        → s.participant ≡ participant_of hosts x s.kind → (t.phase ≡ Phase.Aborting) ⊎ ArePosted (run_of hosts es) v (transaction_again b.base t)
        → OwesVote hosts v (drop j v.posted) (record { node = n; id = t.id }) s.number s.kind x
    asked b t s x h found i state place is (inl aborting) =
        absurd (not_aborting hosts v (ticked_reached hosts es n) n b h t s states.Preparing found i state no_preparing aborting)
    asked b t s x h found i state place is (inr posted) =
        inl (comes_as hosts (drop j v.posted) x.node
        (λ a e. (
          (ap (λ (y : Arrived). y.target) e, ap (λ (y : Arrived). y.message) e),
          ap (λ (y : Arrived). y.from) e ∙ ap (λ base. Some (endpoint_of base (seat_target t.id s))) (base_at hosts v distinct (ticked_reached hosts es n) n b h),
        ))
        (again_comes hosts es n j x.node (transaction_again b.base t) (notice_post b.base (seat_target t.id s) s.participant notices.Prepare) s.participant (targets.Participant x.id s.kind) passed posted
        (in_back (notice_post b.base (seat_target t.id s) s.participant notices.Prepare) (links_again b.base t.id t.superior) (seats_again b.base t.id t.seats)
        (in_seats b.base t.id t.seats s notices.Prepare (ap unanswered_seat state) i)) refl (leads_participant hosts x s.kind s.participant distinct place is) refl))

    at_node : (m : ℕ) (b : Book) (t : Transaction) (s : Enlistment) (x : Who) → m ≡ n → Holds v m b → transaction_at b t.id ≡ Some t → IsIn s t.seats → s.state ≡ states.Preparing → IsPlace hosts x
        → s.participant ≡ participant_of hosts x s.kind → OwesVote hosts v (drop j v.posted) (record { node = m; id = t.id }) s.number s.kind x
    at_node m b t s x here holds found i state place is =
        let h : Holds v n b = subst (λ k. Holds v k b) here holds in
        subst (λ k. OwesVote hosts v (drop j v.posted) (record { node = k; id = t.id }) s.number s.kind x) (sym here)
        (asked b t s x h found i state place is (ticks_ask.transactions hosts es n h.node b t.id t h.found h.up found))

pub commits_asked : (hosts : Hosts) (es : List WorldEvent) (n j : ℕ) → HaveOwnAddresses hosts → j ≤ length (run_of hosts es).posted
    → CommitsAreOwed hosts (λ m. m ≡ n) (ticked_at n (run_of hosts es)) (drop j (ticked_at n (run_of hosts es)).posted)
commits_asked hosts es n j distinct passed = record { seats = λ m b t s x here holds found i durable state place is. at_node m b t s x here holds found i durable state place is }
  where
    v : World
    v = ticked_at n (run_of hosts es)

    asked : (b : Book) (t : Transaction) (s : Enlistment) (x : Who) → (h : Holds v n b) → transaction_at b t.id ≡ Some t → IsIn s t.seats → s.kind ≡ kinds.Durable → s.state ≡ states.Committing
        → IsPlace hosts x → s.participant ≡ participant_of hosts x s.kind → (t.phase ≡ Phase.Aborting) ⊎ ArePosted (run_of hosts es) v (transaction_again b.base t)
        → OwesCommitted hosts v (drop j v.posted) (record { node = n; id = t.id }) s.number x
    asked b t s x h found i durable state place is (inl aborting) =
        absurd (not_aborting hosts v (ticked_reached hosts es n) n b h t s states.Committing found i state no_committing aborting)
    asked b t s x h found i durable state place is (inr posted) =
        inl (comes_as hosts (drop j v.posted) x.node
        (λ a e. (
          (ap (λ (y : Arrived). y.target) e ∙ ap (targets.Participant x.id) durable, ap (λ (y : Arrived). y.message) e),
          ap (λ (y : Arrived). y.from) e
              ∙ (λ r. Some (endpoint_of (base_at hosts v distinct (ticked_reached hosts es n) n b h r) (targets.Coordinator t.id (record { number = s.number; kind = durable r })))),
        ))
        (again_comes hosts es n j x.node (transaction_again b.base t) (notice_post b.base (seat_target t.id s) s.participant notices.Commit) s.participant (targets.Participant x.id s.kind) passed posted
        (in_back (notice_post b.base (seat_target t.id s) s.participant notices.Commit) (links_again b.base t.id t.superior) (seats_again b.base t.id t.seats)
        (in_seats b.base t.id t.seats s notices.Commit (ap unanswered_seat state) i)) refl (leads_participant hosts x s.kind s.participant distinct place is) refl))

    at_node : (m : ℕ) (b : Book) (t : Transaction) (s : Enlistment) (x : Who) → m ≡ n → Holds v m b → transaction_at b t.id ≡ Some t → IsIn s t.seats → s.kind ≡ kinds.Durable
        → s.state ≡ states.Committing → IsPlace hosts x → s.participant ≡ participant_of hosts x s.kind → OwesCommitted hosts v (drop j v.posted) (record { node = m; id = t.id }) s.number x
    at_node m b t s x here holds found i durable state place is =
        let h : Holds v n b = subst (λ k. Holds v k b) here holds in
        subst (λ k. OwesCommitted hosts v (drop j v.posted) (record { node = k; id = t.id }) s.number x) (sym here)
        (asked b t s x h found i durable state place is (ticks_ask.transactions hosts es n h.node b t.id t h.found h.up found))

-- links
again_prepared : (base : List ℕ) (id : Numbers) (kind : Kind) (r : Option Request) (link : Link) (c : Epr) → link.state ≡ states.PreparedSuccess → link.coordinator ≡ Some c
    → IsIn (notice_post base (targets.Participant id kind) c notices.Prepared) (link_again base id kind r link)
again_prepared base id kind r link c state knows =
    subst (λ (d : State). IsIn (notice_post base (targets.Participant id kind) c notices.Prepared)
    (if is_state d states.Registering then register_again_at base id kind r
    else if is_state d states.PreparedSuccess then upwards base id kind notices.Prepared link
    else [])) (sym state)
    (subst (λ o. IsIn (notice_post base (targets.Participant id kind) c notices.Prepared) (to_each o (λ to. notice_post base (targets.Participant id kind) to notices.Prepared))) (sym knows) (inl refl))

again_registers : (base : List ℕ) (id : Numbers) (kind : Kind) (r : Option Request) (link : Link) (q : Request) → link.state ≡ states.Registering → r ≡ Some q
    → IsIn (link_register base id kind q.registration) (link_again base id kind r link)
again_registers base id kind r link q state asks =
    subst (λ (d : State). IsIn (link_register base id kind q.registration)
    (if is_state d states.Registering then register_again_at base id kind r
    else if is_state d states.PreparedSuccess then upwards base id kind notices.Prepared link
    else [])) (sym state)
    (subst (λ o. IsIn (link_register base id kind q.registration) (register_again_at base id kind o)) (sym asks) (inl refl))

in_links : (base : List ℕ) (t : Transaction) (s : Superior) (kind : Kind) (p : Post) → t.superior ≡ Some s → IsIn p (link_again base t.id kind s.request (link_of kind s)) → IsIn p (transaction_again base t)
in_links base t s kind p under i =
    in_front p (links_again base t.id t.superior) (seats_again base t.id t.seats) (subst (λ o. IsIn p (links_again base t.id o)) (sym under) (by_kind kind i))
  where
    by_kind : (k : Kind) → IsIn p (link_again base t.id k s.request (link_of k s)) → IsIn p (links_again base t.id (Some s))
    by_kind kinds.Volatile j =
        in_front p (link_again base t.id kinds.Volatile s.request s.volatile) (link_again base t.id kinds.Durable s.request s.durable) j
    by_kind kinds.Durable j =
        in_back p (link_again base t.id kinds.Volatile s.request s.volatile) (link_again base t.id kinds.Durable s.request s.durable) j

links_left : (kind : Kind) (s : Superior) → AreIn Phase.Aborting s.volatile.state s.durable.state → (link_of kind s).state ≡ states.None
links_left kinds.Volatile s h = h.0
links_left kinds.Durable s h = h.1

link_stays : (hosts : Hosts) (w : World) → Reached hosts w → (n : ℕ) (b : Book) → Holds w n b → (t : Transaction) (s : Superior) (kind : Kind) (state : State) → transaction_at b t.id ≡ Some t
    → t.superior ≡ Some s → (link_of kind s).state ≡ state → (states.None ≡ state → ⊥) → t.phase ≡ Phase.Aborting → ⊥
link_stays hosts w reached n b h t s kind state found under is other aborting =
    other (sym (links_left kind s
    (subst (λ p. AreIn p s.volatile.state s.durable.state) aborting
    (subst (λ o. AreLinked t.phase o t.completion) under
    (all_find (λ (y : Transaction). AreLinked y.phase y.superior y.completion) transaction_id t.id b.transactions t (book_ready hosts w reached n h.node b h.found h.up).phases.links found)).0)) ∙ is)

not_prepared : states.None ≡ states.PreparedSuccess → ⊥
not_prepared e = cc

not_registering : states.None ≡ states.Registering → ⊥
not_registering e = cc

-- a leaf
leaf_prepared : (m : Moment) (l : Leaf) (c : Epr) → l.state ≡ states.PreparedSuccess → l.coordinator ≡ Some c → IsIn (notice_post m.base (leaf_target l) c notices.Prepared) (leaf_again m l)
leaf_prepared m l c state knows =
    subst (λ (d : State). IsIn (notice_post m.base (leaf_target l) c notices.Prepared)
    (if is_state d states.Registering then leaf_register_again m l l.request
    else if is_state d states.PreparedSuccess then leaf_says m None notices.Prepared l
    else [])) (sym state)
    (subst (λ o. IsIn (notice_post m.base (leaf_target l) c notices.Prepared) (to_each (stored_or o None) (λ to. notice_post m.base (leaf_target l) to notices.Prepared))) (sym knows) (inl refl))

leaf_registers : (m : Moment) (l : Leaf) (q : WorkRequest) → l.state ≡ states.Registering → l.request ≡ Some q → IsIn (leaf_register m l q.registration) (leaf_again m l)
leaf_registers m l q state asks =
    subst (λ (d : State). IsIn (leaf_register m l q.registration)
    (if is_state d states.Registering then leaf_register_again m l l.request
    else if is_state d states.PreparedSuccess then leaf_says m None notices.Prepared l
    else [])) (sym state)
    (subst (λ o. IsIn (leaf_register m l q.registration) (leaf_register_again m l o)) (sym asks) (inl refl))

-- a vote, and a Register, that came
vote_came : (hosts : Hosts) (queue : List Posted) (base : List ℕ) (n : ℕ) (id : Numbers) (z : Who) (number : ℕ) (to : Epr) → base ≡ hosts.base_of n
    → Comes hosts queue z.node (λ a. a ≡ arrival_of (targets.Coordinator z.id (record { number = number; kind = kinds.Durable })) (notice_post base (targets.Participant id kinds.Durable) to notices.Prepared))
    → Comes hosts queue z.node
    (IsNoticeFrom (targets.Coordinator z.id (record { number = number; kind = kinds.Durable })) notices.Prepared (participant_of hosts (record { node = n; id = id }) kinds.Durable))
vote_came hosts queue base n id z number to is c =
    comes_as hosts queue z.node
    (λ a e. (
      (ap (λ (y : Arrived). y.target) e, ap (λ (y : Arrived). y.message) e),
      ap (λ (y : Arrived). y.from) e ∙ ap (λ bs. Some (endpoint_of bs (targets.Participant id kinds.Durable))) is,
    )) c

register_came : (hosts : Hosts) (queue : List Posted) (base : List ℕ) (n : ℕ) (id : Numbers) (kind : Kind) (to : Epr) (m : ℕ) (j : Numbers) → base ≡ hosts.base_of n
    → Comes hosts queue m (λ a. a ≡ arrival_of (targets.Registration j) (register_post base (targets.Participant id kind) (protocol_of kind) to))
    → Comes hosts queue m (IsRegisterOf hosts (record { node = n; id = id }) kind j)
register_came hosts queue base n id kind to m j is c =
    comes_as hosts queue m
    (λ a e. record {
      target = ap (λ (y : Arrived). y.target) e;
      register = record { protocol = protocol_of kind; participant = endpoint_of base (targets.Participant id kind) };
      says = ap (λ (y : Arrived). y.message) e;
      reply = ap (λ (y : Arrived). y.reply) e ∙ ap (λ bs. replies.At (endpoint_of bs (targets.Participant id kind))) is;
      fault = ap (λ (y : Arrived). y.fault) e ∙ ap (λ bs. replies.At (endpoint_of bs (targets.Participant id kind))) is;
      named = ap (λ (y : Arrived). y.id) e ∙ ap (λ bs. Some (register_id bs (targets.Participant id kind))) is;
    }) c

pub outcomes_asked : (hosts : Hosts) (es : List WorldEvent) (n j : ℕ) → HaveOwnAddresses hosts → j ≤ length (run_of hosts es).posted
    → OutcomesAreOwed hosts (λ m. m ≡ n) (ticked_at n (run_of hosts es)) (drop j (ticked_at n (run_of hosts es)).posted)
outcomes_asked hosts es n j distinct passed = record {
  links = λ m b t s z number here holds found under state place knows. at_link m b t s z number here holds found under state place knows;
  leaves = λ m b l z number here holds found durable state place knows. at_leaf m b l z number here holds found durable state place knows;
}
  where
    v : World
    v = ticked_at n (run_of hosts es)

    link_asked : (b : Book) (t : Transaction) (s : Superior) (z : Who) (number : ℕ) → (h : Holds v n b) → transaction_at b t.id ≡ Some t → t.superior ≡ Some s
        → s.durable.state ≡ states.PreparedSuccess → IsSeatPlace hosts z number → s.durable.coordinator ≡ Some (seat_of hosts z number kinds.Durable)
        → (t.phase ≡ Phase.Aborting) ⊎ ArePosted (run_of hosts es) v (transaction_again b.base t) → OwesOutcome hosts v (drop j v.posted) (record { node = n; id = t.id }) z number
    link_asked b t s z number h found under state place knows (inl aborting) =
        absurd (link_stays hosts v (ticked_reached hosts es n) n b h t s kinds.Durable states.PreparedSuccess found under state not_prepared aborting)
    link_asked b t s z number h found under state place knows (inr posted) =
        let p : Post = notice_post b.base (targets.Participant t.id kinds.Durable) (seat_of hosts z number kinds.Durable) notices.Prepared in
        inl (vote_came hosts (drop j v.posted) b.base n t.id z number (seat_of hosts z number kinds.Durable) (base_at hosts v distinct (ticked_reached hosts es n) n b h)
        (again_comes hosts es n j z.node (transaction_again b.base t) p (seat_of hosts z number kinds.Durable) (targets.Coordinator z.id (record { number = number; kind = kinds.Durable })) passed posted
        (in_links b.base t s kinds.Durable p under (again_prepared b.base t.id kinds.Durable s.request s.durable (seat_of hosts z number kinds.Durable) state knows)) refl
        (leads_seat hosts z number kinds.Durable distinct place) refl))

    at_link : (m : ℕ) (b : Book) (t : Transaction) (s : Superior) (z : Who) (number : ℕ) → m ≡ n → Holds v m b → transaction_at b t.id ≡ Some t → t.superior ≡ Some s
        → s.durable.state ≡ states.PreparedSuccess → IsSeatPlace hosts z number → s.durable.coordinator ≡ Some (seat_of hosts z number kinds.Durable)
        → OwesOutcome hosts v (drop j v.posted) (record { node = m; id = t.id }) z number
    at_link m b t s z number here holds found under state place knows =
        let h : Holds v n b = subst (λ k. Holds v k b) here holds in
        subst (λ k. OwesOutcome hosts v (drop j v.posted) (record { node = k; id = t.id }) z number) (sym here)
        (link_asked b t s z number h found under state place knows (ticks_ask.transactions hosts es n h.node b t.id t h.found h.up found))

    at_leaf : (m : ℕ) (b : Book) (l : Leaf) (z : Who) (number : ℕ) → m ≡ n → Holds v m b → leaf_at b l.id ≡ Some l → l.kind ≡ kinds.Durable → l.state ≡ states.PreparedSuccess
        → IsSeatPlace hosts z number → l.coordinator ≡ Some (seat_of hosts z number kinds.Durable) → OwesOutcome hosts v (drop j v.posted) (record { node = m; id = l.id }) z number
    at_leaf m b l z number here holds found durable state place knows =
        let h : Holds v n b = subst (λ k. Holds v k b) here holds in
        let p : Post = notice_post b.base (targets.Participant l.id kinds.Durable) (seat_of hosts z number kinds.Durable) notices.Prepared in
        let c : Moment = moment_of b h.node.clock in
        subst (λ k. OwesOutcome hosts v (drop j v.posted) (record { node = k; id = l.id }) z number) (sym here)
        (inl (vote_came hosts (drop j v.posted) b.base n l.id z number (seat_of hosts z number kinds.Durable) (base_at hosts v distinct (ticked_reached hosts es n) n b h)
        (again_comes hosts es n j z.node (leaf_again c l) p (seat_of hosts z number kinds.Durable) (targets.Coordinator z.id (record { number = number; kind = kinds.Durable })) passed
        (ticks_ask.leaves hosts es n h.node b l.id l h.found h.up found)
        (subst (λ k. IsIn (notice_post b.base (targets.Participant l.id k) (seat_of hosts z number kinds.Durable) notices.Prepared) (leaf_again c l)) durable
        (leaf_prepared c l (seat_of hosts z number kinds.Durable) state knows)) refl (leads_seat hosts z number kinds.Durable distinct place) refl)))

pub registrations_asked : (hosts : Hosts) (es : List WorldEvent) (n j : ℕ) → HaveOwnAddresses hosts → j ≤ length (run_of hosts es).posted
    → RegistrationsAreOwed hosts (λ m. m ≡ n) (ticked_at n (run_of hosts es)) (drop j (ticked_at n (run_of hosts es)).posted)
registrations_asked hosts es n j distinct passed = record {
  links = λ m b t s kind r k id here holds found under state request leads. at_link m b t s kind r k id here holds found under state request leads;
  leaves = λ m b l r k id here holds found state request leads. at_leaf m b l r k id here holds found state request leads;
}
  where
    v : World
    v = ticked_at n (run_of hosts es)

    link_asked : (b : Book) (t : Transaction) (s : Superior) (kind : Kind) (r : Request) (k : ℕ) (id : Numbers) → (h : Holds v n b) → transaction_at b t.id ≡ Some t → t.superior ≡ Some s
        → (link_of kind s).state ≡ states.Registering → s.request ≡ Some r → LeadsTo hosts r.registration k (targets.Registration id)
        → (t.phase ≡ Phase.Aborting) ⊎ ArePosted (run_of hosts es) v (transaction_again b.base t) → OwesRegistered hosts (drop j v.posted) (record { node = n; id = t.id }) kind k id
    link_asked b t s kind r k id h found under state request leads (inl aborting) =
        absurd (link_stays hosts v (ticked_reached hosts es n) n b h t s kind states.Registering found under state not_registering aborting)
    link_asked b t s kind r k id h found under state request leads (inr posted) =
        inl (register_came hosts (drop j v.posted) b.base n t.id kind r.registration k id (base_at hosts v distinct (ticked_reached hosts es n) n b h)
        (again_comes hosts es n j k (transaction_again b.base t) (link_register b.base t.id kind r.registration) r.registration (targets.Registration id) passed posted
        (in_links b.base t s kind (link_register b.base t.id kind r.registration) under (again_registers b.base t.id kind s.request (link_of kind s) r state request)) refl leads refl))

    at_link : (m : ℕ) (b : Book) (t : Transaction) (s : Superior) (kind : Kind) (r : Request) (k : ℕ) (id : Numbers) → m ≡ n → Holds v m b → transaction_at b t.id ≡ Some t → t.superior ≡ Some s
        → (link_of kind s).state ≡ states.Registering → s.request ≡ Some r → LeadsTo hosts r.registration k (targets.Registration id)
        → OwesRegistered hosts (drop j v.posted) (record { node = m; id = t.id }) kind k id
    at_link m b t s kind r k id here holds found under state request leads =
        let h : Holds v n b = subst (λ i. Holds v i b) here holds in
        subst (λ i. OwesRegistered hosts (drop j v.posted) (record { node = i; id = t.id }) kind k id) (sym here)
        (link_asked b t s kind r k id h found under state request leads (ticks_ask.transactions hosts es n h.node b t.id t h.found h.up found))

    at_leaf : (m : ℕ) (b : Book) (l : Leaf) (r : WorkRequest) (k : ℕ) (id : Numbers) → m ≡ n → Holds v m b → leaf_at b l.id ≡ Some l → l.state ≡ states.Registering → l.request ≡ Some r
        → LeadsTo hosts r.registration k (targets.Registration id) → OwesRegistered hosts (drop j v.posted) (record { node = m; id = l.id }) l.kind k id
    at_leaf m b l r k id here holds found state request leads =
        let h : Holds v n b = subst (λ i. Holds v i b) here holds in
        let c : Moment = moment_of b h.node.clock in
        subst (λ i. OwesRegistered hosts (drop j v.posted) (record { node = i; id = l.id }) l.kind k id) (sym here)
        (inl (register_came hosts (drop j v.posted) b.base n l.id l.kind r.registration k id (base_at hosts v distinct (ticked_reached hosts es n) n b h)
        (again_comes hosts es n j k (leaf_again c l) (leaf_register c l r.registration) r.registration (targets.Registration id) passed
        (ticks_ask.leaves hosts es n h.node b l.id l h.found h.up found) (leaf_registers c l r state request) refl leads refl)))
