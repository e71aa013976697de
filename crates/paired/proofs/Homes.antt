-- The endpoints that items and records know are those that nodes write for participants and for seats.
use Rattle.std.specs.Prelude.{ℕ, List, [], ◌∷◌, Option, Some, None, Bool, true, false, ◌&&◌, ◌-◌, if◌then◌else◌, filter, map, option_map, ◌≡◌, ◌≤◌, refl}
use Rattle.std.specs.List.{AllByRecursion}
use Rattle.std.proofs.Common.{inl, inr, sym, subst, ap, ◌∙◌}
use Rattle.at_base.specs.Numbers.{Numbers}
use Rattle.at_base.specs.IdText.{IsId}
use Rattle.at_base.specs.declared.epr.Epr.{Epr}
use Rattle.at_base.specs.declared.epr.Reply.TheVariants as replies
use Rattle.at_base.specs.declared.notice.Kind.{Kind}
use Rattle.at_base.specs.declared.notice.Kind.TheVariants as kinds
use Rattle.at_base.specs.declared.message.Message.TheVariants as messages
use Rattle.at_base.specs.declared.message.Register.{Register}
use Rattle.at_base.specs.declared.event.Arrived.{Arrived}
use Rattle.at_base.specs.declared.event.Event.{Event}
use Rattle.at_base.specs.declared.event.Event.TheVariants as events
use Rattle.at_base.specs.declared.event.Moment.{Moment}
use Rattle.at_base.specs.declared.outs.Post.{Post}
use Rattle.at_base.specs.declared.record.Record.{Record}
use Rattle.at_base.specs.declared.record.Record.TheVariants as records
use Rattle.at_base.specs.declared.record.Seated.{Seated}
use Rattle.at_base.specs.declared.target.Target.{Target}
use Rattle.at_base.specs.declared.target.Target.TheVariants as targets
use Rattle.at_tables.specs.declared.cells.State.{State}
use Rattle.at_tables.specs.declared.cells.State.TheVariants as states
use Rattle.at_tables.specs.Names.{is_state}
use Rattle.at_base.specs.Names.{is_kind}
use Rattle.endpoints.specs.Addresses.{endpoint_of}
use Rattle.at_model.specs.Book.{Book, Enlistment, Leaf, Transaction}
use Rattle.at_model.specs.Moves.{Change}
use Rattle.at_model.specs.Recovery.{recovered_seat, recovered_voted}
use Rattle.at_model.specs.Register.{new_seat, protocol_named}
use Rattle.at_model.specs.Seats.{is_prepared_durable, prepared, seated}
use Rattle.at_model.specs.Step.{moment_of, plan, step}
use Rattle.at_model.specs.World.{Node, Posted, World, nth, Hosts, HaveOwnAddresses}
use Rattle.model_laws.specs.Agreement.{IsIn}
use Rattle.model_laws.specs.PhaseAnswers.{Accepted as Seating, accepted_as}
use Rattle.model_laws.specs.ReachedWorlds.{Reached, counts}
use Rattle.model_laws.proofs.DecisionLaws.{IfThere, all_join}
use Rattle.agreement.specs.Deeds.{AreCounted, AreSeatsAfter, AreSeatsIfLeft, Deed, How, KeepsLink, KeepsLinksIfLeft, coordinator_at, recorded, superior_at}
use Rattle.agreement.specs.StepDeeds.{standing}
use Rattle.agreement.specs.LeafDeeds.{LeafDeed, LeafIdles, aborts, commits, dropped, for_durable, idles, leaves, prepares, registered, registers_again, rests, rolls_back, votes_again}
use Rattle.agreement.specs.Registers.{RegistersFor}
use Rattle.agreement.proofs.Registers.{registers_named}
use Rattle.agreement.proofs.SeatedNames.{named_as}
use Rattle.agreement.proofs.Seats.{deeds_move_seats}
use Rattle.enlistments.specs.Registrations.{Enrolls, has_completion, has_seat, refuses, takes_completion, takes_seat}
use Rattle.enlistments.specs.Leads.{LeadsTo}
use Rattle.enlistments.specs.Moves.{Registered}
use Rattle.enlistments.specs.NoticeOrigins.{IsReply, Responds, names_completion, names_seat}
use Rattle.enlistments.proofs.StepNotices.{steps_tell}
use Rattle.enlistments.proofs.Answers.{held_after, keeps_id}
use Rattle.enlistments.proofs.Arrivals.{HasCome, Stepping, has_come, step_ready, up_known, node_number}
use Rattle.enlistments.proofs.NewItems.{IsFresh, leaf_fresh, made_fresh}
use Rattle.enlistments.proofs.LastingLeads.{Held, placed, seat_placed}
use Rattle.enlistments.proofs.Nodes.{NodesLaw, books_have}
use Rattle.enlistments.proofs.Places.{IsPlaced}
use Rattle.enlistments.proofs.Posts.{PostLaw, one_has}
use Rattle.enlistments.proofs.Registers.{IsRegisterOf, for_completion, for_kind, register_of}
use Rattle.paired.specs.Partners.{IsParticipant, IsSeat, IsSeatIfKnown}

-- nodes are numbered from 1
pub node_range : (hosts : Hosts) (w : World) → HaveOwnAddresses hosts → Reached hosts w → (n : ℕ) (x : Node) → nth n w.nodes ≡ Some x → (1 ≤ n) × (n ≤ hosts.count)
node_range hosts w apart reached n x found = node_number hosts n w x apart reached found

-- seats

abbrev SeatHome : Hosts → Seating → Type 0
SeatHome hosts a = IsParticipant hosts a.kind a.participant

abbrev pub SeatsHome : Hosts → List Enlistment → Type 0
SeatsHome hosts seats = AllByRecursion (λ s. SeatHome hosts (accepted_as s)) seats

abbrev NamesHome : Hosts → List Seated → Type 0
NamesHome hosts seats = AllByRecursion (λ s. SeatHome hosts (named_as s)) seats

abbrev pub TransactionHome : Hosts → Transaction → Type 0
TransactionHome hosts t = SeatsHome hosts t.seats × ((kind : Kind) → IsSeatIfKnown hosts kind (coordinator_at kind t.superior))

abbrev pub LeafHome : Hosts → Leaf → Type 0
LeafHome hosts l = IsSeatIfKnown hosts l.kind l.coordinator

abbrev RecordHome : Hosts → Record → Type 0
RecordHome hosts (records.LeafPrepared id coordinator key value) = IsSeat hosts kinds.Durable coordinator
RecordHome hosts (records.Voted id superior seats) = IsSeat hosts kinds.Durable superior × NamesHome hosts seats
RecordHome hosts (records.Decided id seats) = NamesHome hosts seats
RecordHome hosts other = Unit {0}

-- a RegisterResponse that goes to a participant names a seat
abbrev AnswersHome : Hosts → Posted → Type 0
AnswersHome hosts p =
    (to c : Epr) (m : ℕ) (i : Numbers) (kind : Kind) → p.content.to ≡ Some to → p.content.message ≡ messages.RegisterResponse c → LeadsTo hosts to m (targets.Participant i kind)
    → IsSeat hosts kind c

same_kind : (k d : Kind) (i j : Numbers) → targets.Participant i k ≡ targets.Participant j d → k ≡ d
same_kind k d i j e = cc

no_initiator : (i j : Numbers) (k : Kind) → targets.Participant i k ≡ targets.Initiator j → ⊥
no_initiator i j k e = cc

same_reply : (a c : Epr) → replies.At a ≡ replies.At c → a ≡ c
same_reply a c e = cc

same_some : (a c : Epr) → Some a ≡ Some c → a ≡ c
same_some a c e = cc

replied_to : (hosts : Hosts) (a : Arrived) (r : Register) (c to : Epr) (p : Post) (m : ℕ) (T : Target) → IsRegisterOf hosts a r → IsReply a c p → p.to ≡ Some to → LeadsTo hosts to m T
    → LeadsTo hosts r.participant m T
replied_to hosts a r c to p m T h k goes leads =
    let same : to ≡ r.participant = same_some to k.to (sym goes ∙ ap (λ (q : Post). q.to) k.is) ∙ same_reply k.to r.participant (sym k.asked ∙ h.reply) in
    subst (λ y. LeadsTo hosts y m T) same leads

response_home : (hosts : Hosts) (u : World) (n : ℕ) (x : Node) (b : Book) (e : Event) (now : ℕ) (landed : Bool) → Stepping hosts u n x b e now landed → (p : Post) (to c : Epr) (m : ℕ)
    (i : Numbers) (kind : Kind) → p.to ≡ Some to → LeadsTo hosts to m (targets.Participant i kind)
    → Responds b e now (standing landed (plan b e now).entry) (step b e now landed) c p → IsSeat hosts kind c
response_home hosts u n x b e now landed s p to c m i kind goes leads (names_seat d k q protocol sits is who written reply) =
    let r : IsRegisterOf hosts d.arrived d.request = register_of hosts u n x b e now landed d.arrived d.request s d.came d.says in
    let l : LeadsTo hosts d.request.participant m (targets.Participant i kind) = replied_to hosts d.arrived d.request c to p m (targets.Participant i kind) r reply goes leads in
    let (j, own) = for_kind r.own r.id d.request.protocol k r.registers protocol in
    let same : kind ≡ k = same_kind kind k i j ((r.leads m (targets.Participant i kind) l).1 ∙ own) in
    let h : Held hosts (counts u n x b e now landed) n d.gives.transaction = held_after hosts u n x b e now landed s d in
    let place : IsPlaced hosts (accepted_as q) = seat_placed hosts (counts u n x b e now landed) n d.gives.transaction q h sits in
    let id_is : d.gives.transaction.id ≡ d.old.id = keeps_id (moment_of b now) d.arrived d.request d.old d.gives d.enrolls in
    let (least, most) = node_range hosts u s.distinct s.reached n x s.found in
    record {
      transaction = record { node = n; id = d.old.id };
      number = q.number;
      place = record { least = least; most = most; id = subst IsId id_is (placed hosts (counts u n x b e now landed) n d.gives.transaction h).0 };
      least = place.least;
      most = place.most;
      is = written
          ∙ (λ r'. endpoint_of ((up_known hosts u s.distinct s.reached n x b s.found s.up).says.base_is r')
          (targets.Coordinator d.old.id (record { number = q.number; kind = (is ∙ sym same) r' })));
    }
response_home hosts u n x b e now landed s p to c m i kind goes leads (names_completion d y protocol there who is reply) =
    let r : IsRegisterOf hosts d.arrived d.request = register_of hosts u n x b e now landed d.arrived d.request s d.came d.says in
    let l : LeadsTo hosts d.request.participant m (targets.Participant i kind) = replied_to hosts d.arrived d.request c to p m (targets.Participant i kind) r reply goes leads in
    let (j, own) = for_completion r.own r.id d.request.protocol r.registers protocol in
    absurd (no_initiator i j kind ((r.leads m (targets.Participant i kind) l).1 ∙ own))

answers_home : (hosts : Hosts) → PostLaw hosts
answers_home hosts = record {
  Of = λ w p. AnswersHome hosts p;
  on = λ u w g p h. h;
  new = λ u n x b e now landed s h p i r to c m j kind goes says leads.
      response_home hosts u n x b e now landed s p to c m j kind goes leads (steps_tell.responds b e now landed (step_ready hosts u n x b e now landed s) p c i says);
}

answer_home : (hosts : Hosts) (w : World) → HaveOwnAddresses hosts → Reached hosts w → (p : Posted) → IsIn p w.posted → AnswersHome hosts p
unfolding answers_home
answer_home hosts w distinct reached p i = one_has hosts distinct (answers_home hosts) w reached p i

-- a RegisterResponse that came to a participant names a seat
abbrev Answered : Hosts → Event → Type 0
Answered hosts e = (a : Arrived) (c : Epr) (i : Numbers) (kind : Kind) → e ≡ events.Arrived a → a.message ≡ messages.RegisterResponse c → a.target ≡ targets.Participant i kind → IsSeat hosts kind c

answered : (hosts : Hosts) (u : World) (n : ℕ) (x : Node) (b : Book) (e : Event) (now : ℕ) (landed : Bool) → Stepping hosts u n x b e now landed → Answered hosts e
answered hosts u n x b e now landed s a c i kind came says target =
    let h : HasCome hosts u n a = has_come hosts u n x b e now landed a s came in
    answer_home hosts u s.distinct s.reached h.posted h.stands h.to c n i kind h.sent (h.message ∙ says) (h.leads ∙ (λ j. Some (n, target j)))

-- transactions
after_home : (hosts : Hosts) (e : Event) (t : Transaction) (how : How) (olds news : List Enlistment) → AreSeatsAfter e t how olds news → SeatsHome hosts olds → SeatsHome hosts news
after_home hosts e t how [] [] h k = tt
after_home hosts e t how [] (n ∷ ns) h k = absurd h
after_home hosts e t how (o ∷ os) [] h k = absurd h
after_home hosts e t how (o ∷ os) (n ∷ ns) (h, i) (k, j) = (subst (SeatHome hosts) (sym h.seat) k, after_home hosts e t how os ns i j)

counted_home : (hosts : Hosts) (e : Event) (t : Transaction) (olds news : List Enlistment) → AreCounted e t olds news → SeatsHome hosts olds → SeatsHome hosts news
counted_home hosts e t [] [] h k = tt
counted_home hosts e t [] (n ∷ ns) h k = absurd h
counted_home hosts e t (o ∷ os) [] h k = absurd h
counted_home hosts e t (o ∷ os) (n ∷ ns) (h, i) (k, j) = (subst (SeatHome hosts) (sym h.seat) k, counted_home hosts e t os ns i j)

link_home : (hosts : Hosts) (e : Event) (old new : Transaction) (kind : Kind) → Answered hosts e → KeepsLink e old new kind → TransactionHome hosts old
    → IsSeatIfKnown hosts kind (coordinator_at kind new.superior)
link_home hosts e old new kind a (inl same) h = subst (IsSeatIfKnown hosts kind) (sym same) (h.1 kind)
link_home hosts e old new kind a (inr j) h = subst (IsSeatIfKnown hosts kind) (sym j.known) (a j.message j.coordinator old.id kind j.came j.says j.target)

left_home : (hosts : Hosts) (e : Event) (t : Transaction) (how : How) (item : Option Transaction) → Answered hosts e → KeepsLinksIfLeft e t item → AreSeatsIfLeft e t how item
    → TransactionHome hosts t → IfThere (TransactionHome hosts) item
left_home hosts e t how None a l h k = tt
left_home hosts e t how (Some new) a l h k = (after_home hosts e t how t.seats new.seats h k.0, λ kind. link_home hosts e t new kind a (l kind) k)

durable_kind : (kind : Kind) (b : Bool) → (is_kind kind kinds.Durable && b) ≡ true → kind ≡ kinds.Durable
durable_kind kinds.Durable b e = refl
durable_kind kinds.Volatile b e = absurd cc

prepared_home : (hosts : Hosts) (seats : List Enlistment) → SeatsHome hosts seats → NamesHome hosts (prepared seats)
prepared_home hosts [] h = tt
prepared_home hosts (s ∷ seats) (h, k) = by_test (prepared_home hosts seats k) (is_prepared_durable s) refl
  where
    by_test : NamesHome hosts (prepared seats) → (b : Bool) → is_prepared_durable s ≡ b
        → NamesHome hosts (map seated (if b then s ∷ filter is_prepared_durable seats else filter is_prepared_durable seats))
    by_test rest true e = (subst (λ kind. IsParticipant hosts kind s.participant) (durable_kind s.kind (is_state s.state states.Prepared) e) h, rest)
    by_test rest false e = rest

vote_home : (hosts : Hosts) (id : Numbers) (superior : Option Epr) (at : List Enlistment) → IsSeatIfKnown hosts kinds.Durable superior → SeatsHome hosts at
    → IfThere (RecordHome hosts) (option_map (λ to. records.Voted id to (prepared at)) superior)
vote_home hosts id None at h k = tt
vote_home hosts id (Some to) at h k = (h, prepared_home hosts at k)

recorded_home : (hosts : Hosts) (how : How) (t : Transaction) (at : List Enlistment) → TransactionHome hosts t → SeatsHome hosts at → IfThere (RecordHome hosts) (recorded how t at)
recorded_home hosts How.Votes t at h k = vote_home hosts t.id (superior_at t.superior) at (h.1 kinds.Durable) k
recorded_home hosts How.Decides t at h k = prepared_home hosts at k
recorded_home hosts How.DecidesAlone t at h k = prepared_home hosts at k
recorded_home hosts How.Commits t at h k = tt
recorded_home hosts How.RollsBack t at h k = tt
recorded_home hosts How.Ends t at h k = tt
recorded_home hosts How.Idles t at h k = tt
recorded_home hosts How.Aborts t at h k = tt
recorded_home hosts How.Leaves t at h k = tt
recorded_home hosts How.Forgets t at h k = tt

deed_home : (hosts : Hosts) (e : Event) (t : Transaction) (entry : Option Record) (c : Change Transaction) → Answered hosts e → Deed e t entry c → TransactionHome hosts t
    → IfThere (TransactionHome hosts) c.item × IfThere (RecordHome hosts) entry
deed_home hosts e t entry c a d h = (
  left_home hosts e t d.how c.item a d.links (deeds_move_seats.seats e t entry c d) h,
  subst (IfThere (RecordHome hosts)) (sym d.records) (recorded_home hosts d.how t d.at h (counted_home hosts e t t.seats d.at d.counted h.0)),
)

-- leaves
idle_home : (hosts : Hosts) (m : Moment) (e : Event) (l left : Leaf) (ps : List Post) → Answered hosts e → LeafIdles m e l left ps → LeafHome hosts l → LeafHome hosts left
idle_home hosts m e l left ps a (rests is sent) h = subst (LeafHome hosts) (sym is) h
idle_home hosts m e l left ps a (registered c r came answers state request is sent) h =
    subst (LeafHome hosts) (sym is) (a came.arrived c l.id l.kind came.event came.message came.target)
idle_home hosts m e l left ps a (registers_again r due state request is sent) h = subst (LeafHome hosts) (sym is) h
idle_home hosts m e l left ps a (votes_again to why state knows is sent) h = subst (LeafHome hosts) (sym is) h

none_home : (hosts : Hosts) (o : Option Leaf) → o ≡ None → IfThere (LeafHome hosts) o
none_home hosts o e = subst (IfThere (LeafHome hosts)) (sym e) tt

unrecorded : (hosts : Hosts) (entry : Option Record) → entry ≡ None → IfThere (RecordHome hosts) entry
unrecorded hosts entry e = subst (IfThere (RecordHome hosts)) (sym e) tt

ended_home : (hosts : Hosts) (kind : Kind) (r : Record) (entry : Option Record) → entry ≡ for_durable kind r → RecordHome hosts r → IfThere (RecordHome hosts) entry
ended_home hosts kinds.Durable r entry e h = subst (IfThere (RecordHome hosts)) (sym e) h
ended_home hosts kinds.Volatile r entry e h = subst (IfThere (RecordHome hosts)) (sym e) tt

vote_of_leaf : (hosts : Hosts) (id : Numbers) (kind : Kind) (to : Epr) (key value : List ℕ) (entry : Option Record) → entry ≡ for_durable kind (records.LeafPrepared id to key value)
    → IsSeat hosts kind to → IfThere (RecordHome hosts) entry
vote_of_leaf hosts id kinds.Durable to key value entry e h = subst (IfThere (RecordHome hosts)) (sym e) h
vote_of_leaf hosts id kinds.Volatile to key value entry e h = subst (IfThere (RecordHome hosts)) (sym e) tt

leaf_deed_home : (hosts : Hosts) (m : Moment) (e : Event) (l : Leaf) (entry : Option Record) (c : Change Leaf) → Answered hosts e → LeafDeed m e l entry c → LeafHome hosts l
    → IfThere (LeafHome hosts) c.item × IfThere (RecordHome hosts) entry
leaf_deed_home hosts m e l entry c a (idles left why none item effects) h =
    (subst (IfThere (LeafHome hosts)) (sym item) (idle_home hosts m e l left c.posts a why h), unrecorded hosts entry none)
leaf_deed_home hosts m e l entry c a (aborts state why none item effects) h = (none_home hosts c.item item, unrecorded hosts entry none)
leaf_deed_home hosts m e l entry c a (prepares to came state vote knows is item effects sent) h =
    (subst (IfThere (LeafHome hosts)) (sym item) h, vote_of_leaf hosts l.id l.kind to l.key l.value entry is (subst (IsSeatIfKnown hosts l.kind) knows h))
leaf_deed_home hosts m e l entry c a (leaves to came state vote knows none item effects sent) h = (none_home hosts c.item item, unrecorded hosts entry none)
leaf_deed_home hosts m e l entry c a (dropped came kind none item effects sent) h = (none_home hosts c.item item, unrecorded hosts entry none)
leaf_deed_home hosts m e l entry c a (commits to came state knows is item effects sent) h =
    (none_home hosts c.item item, ended_home hosts l.kind (records.LeafCommitted l.id) entry is tt)
leaf_deed_home hosts m e l entry c a (rolls_back to came state knows is item effects sent) h =
    (none_home hosts c.item item, ended_home hosts l.kind (records.LeafAborted l.id) entry is tt)

-- a registration
pub register_home : (hosts : Hosts) (u : World) (n : ℕ) (x : Node) (b : Book) (e : Event) (now : ℕ) (landed : Bool) (a : Arrived) (r : Register) (kind : Kind) → Stepping hosts u n x b e now landed
    → e ≡ events.Arrived a → a.message ≡ messages.Register r → protocol_named r.protocol ≡ Some (Some kind) → IsParticipant hosts kind r.participant
register_home hosts u n x b e now landed a r kind s came says protocol =
    let h : HasCome hosts u n a = has_come hosts u n x b e now landed a s came in
    let p : Posted = h.posted in
    let own = registers_named hosts u s.distinct s.reached p r h.stands (h.message ∙ says) in
    let (i, is) = for_kind own.own own.id r.protocol kind own.registers protocol in
    let (y, there, drawn) = own.known.1 in
    let (least, most) = node_range hosts u s.distinct s.reached p.sender y there in
    record {
      who = record { node = p.sender; id = i };
      place = record { least = least; most = most; id = subst IsId (id_of own.own own.id r.protocol kind i own.registers is) own.known.0 };
      is = own.participant ∙ ap (endpoint_of (hosts.base_of p.sender)) is;
    }
  where
    id_of : (T : Target) (id : Numbers) (protocol : List ℕ) (k : Kind) (i : Numbers) → RegistersFor T id protocol → T ≡ targets.Participant i k → id ≡ i
    id_of (targets.Participant j k) id protocol d i h e = let same : j ≡ i = cc in sym h.0 ∙ same
    id_of (targets.Initiator j) id protocol d i h e = absurd cc
    id_of targets.Activation id protocol d i h e = absurd h
    id_of targets.Work id protocol d i h e = absurd h
    id_of (targets.Registration j) id protocol d i h e = absurd h
    id_of (targets.Completion j) id protocol d i h e = absurd h
    id_of (targets.Coordinator j q) id protocol d i h e = absurd h

enrolled_home : (hosts : Hosts) (u : World) (n : ℕ) (x : Node) (b : Book) (e : Event) (now : ℕ) (landed : Bool) → Stepping hosts u n x b e now landed
    → (d : Registered b e now (standing landed (plan b e now).entry) (step b e now landed)) → Enrolls (moment_of b now) d.arrived d.request d.old d.gives
    → TransactionHome hosts d.old → TransactionHome hosts d.gives.transaction
enrolled_home hosts u n x b e now landed s d (takes_seat kind protocol may is) (h, k) =
    subst (λ g. TransactionHome hosts g.transaction) (sym is) (
      all_join (λ q. SeatHome hosts (accepted_as q)) d.old.seats (new_seat d.old d.request.participant kind ∷ []) h
          (register_home hosts u n x b e now landed d.arrived d.request kind s d.came d.says protocol, tt),
      k,
    )
enrolled_home hosts u n x b e now landed s d (takes_completion protocol may is) h = subst (λ g. TransactionHome hosts g.transaction) (sym is) h
enrolled_home hosts u n x b e now landed s d (has_seat kind q protocol there k who is) h = subst (λ g. TransactionHome hosts g.transaction) (sym is) h
enrolled_home hosts u n x b e now landed s d (has_completion c protocol there who is) h = subst (λ g. TransactionHome hosts g.transaction) (sym is) h
enrolled_home hosts u n x b e now landed s d (refuses name is) h = subst (λ g. TransactionHome hosts g.transaction) (sym is) h

-- recovery
seats_recovered : (hosts : Hosts) (state : State) (seats : List Seated) → NamesHome hosts seats → SeatsHome hosts (map (recovered_seat state) seats)
seats_recovered hosts state [] h = tt
seats_recovered hosts state (s ∷ seats) (h, k) = (h, seats_recovered hosts state seats k)

voted_home : (hosts : Hosts) (id : Numbers) (superior : Epr) (seats : List Seated) (committed : Bool) → IsSeat hosts kinds.Durable superior × NamesHome hosts seats
    → TransactionHome hosts (recovered_voted id superior seats committed)
voted_home hosts id superior seats true (h, k) = (seats_recovered hosts states.Committing seats k, λ kind. by_kind kind)
  where
    by_kind : (kind : Kind) → IsSeatIfKnown hosts kind (coordinator_at kind (recovered_voted id superior seats true).superior)
    by_kind kinds.Durable = h
    by_kind kinds.Volatile = tt
voted_home hosts id superior seats false (h, k) = (seats_recovered hosts states.Prepared seats k, λ kind. by_kind kind)
  where
    by_kind : (kind : Kind) → IsSeatIfKnown hosts kind (coordinator_at kind (recovered_voted id superior seats false).superior)
    by_kind kinds.Durable = h
    by_kind kinds.Volatile = tt

homes : (hosts : Hosts) → NodesLaw hosts
homes hosts = record {
  OfTransaction = λ w n t. TransactionHome hosts t;
  OfLeaf = λ w n l. LeafHome hosts l;
  OfActivity = λ w n a. Unit {0};
  OfRecord = λ w n r. RecordHome hosts r;
  transaction_on = λ u w g n t h. h;
  leaf_on = λ u w g n l h. h;
  activity_on = λ u w g n a h. h;
  record_on = λ u w g n r h. h;
  did = λ u n x b e now landed s d h. deed_home hosts e d.old _ d.change (answered hosts u n x b e now landed s) d.deed h;
  leaf_does = λ u n x b e now landed s d h. leaf_deed_home hosts (moment_of b now) e d.old _ d.change (answered hosts u n x b e now landed s) d.deed h;
  activity_does = λ u n x b e now landed s d h. any_unit d.change.item;
  enrolls = λ u n x b e now landed s d h. enrolled_home hosts u n x b e now landed s d d.enrolls h;
  makes = λ u n x b e now landed s d.
      let f : IsFresh d.id d.new = made_fresh b e now _ _ d in
      (subst (SeatsHome hosts) (sym f.seats) tt, λ kind. subst (IsSeatIfKnown hosts kind) (sym (f.knows kind)) tt);
  makes_leaf = λ u n x b e now landed s d. subst (IsSeatIfKnown hosts d.new.kind) (sym (leaf_fresh b e now _ _ d).1) tt;
  makes_activity = λ u n x b e now landed s d. tt;
  starts = λ w n i. tt;
  commits = λ w n id superior seats h. tt;
  voted = λ w n id superior seats committed h. voted_home hosts id superior seats committed h;
  decided = λ w n base id seats h. (seats_recovered hosts states.Committing seats h, λ kind. tt);
  prepared = λ w n id coordinator key value h. h;
}
  where
    any_unit : {A : Type 0} (o : Option A) → IfThere (λ a. Unit {0}) o
    any_unit None = tt
    any_unit (Some a) = tt

-- each transaction, and each leaf, of a world that is reached
pub transactions_home : (hosts : Hosts) (w : World) → HaveOwnAddresses hosts → Reached hosts w → (n : ℕ) (x : Node) (b : Book) → nth n w.nodes ≡ Some x → x.book ≡ Some b
    → AllByRecursion (TransactionHome hosts) b.transactions
unfolding homes
transactions_home hosts w distinct reached n x b found up = (books_have hosts distinct (homes hosts) w reached n x b found up).transactions

pub leaves_home : (hosts : Hosts) (w : World) → HaveOwnAddresses hosts → Reached hosts w → (n : ℕ) (x : Node) (b : Book) → nth n w.nodes ≡ Some x → x.book ≡ Some b
    → AllByRecursion (LeafHome hosts) b.leaves
unfolding homes
leaves_home hosts w distinct reached n x b found up = (books_have hosts distinct (homes hosts) w reached n x b found up).leaves
