-- A coordinator that an item knows, or that a record names, is the endpoint of a target of a node.
use Rattle.std.specs.Prelude.{ℕ, List, Option, Some, None, Bool, true, false, option_map, ◌≡◌}
use Rattle.std.proofs.Common.{inl, inr, sym, subst, ◌∙◌}
use Rattle.at_base.specs.Numbers.{Numbers}
use Rattle.at_base.specs.declared.epr.Epr.{Epr}
use Rattle.at_base.specs.declared.notice.Kind.{Kind}
use Rattle.at_base.specs.declared.notice.Kind.TheVariants as kinds
use Rattle.at_base.specs.declared.message.Message.TheVariants as messages
use Rattle.at_base.specs.declared.message.Register.{Register}
use Rattle.at_base.specs.declared.event.Arrived.{Arrived}
use Rattle.at_base.specs.declared.event.Event.{Event}
use Rattle.at_base.specs.declared.event.Event.TheVariants as events
use Rattle.at_base.specs.declared.event.Moment.{Moment}
use Rattle.at_base.specs.declared.outs.Post.{Post}
use Rattle.at_base.specs.declared.record.Record.{Record}
use Rattle.at_base.specs.declared.record.Record.TheVariants as records
use Rattle.at_base.specs.declared.record.Seated.{Seated}
use Rattle.at_base.specs.declared.target.Target.{Target}
use Rattle.at_base.specs.declared.target.Target.TheVariants as targets
use Rattle.endpoints.specs.Addresses.{IsWritten, endpoint_of}
use Rattle.at_model.specs.Book.{Book, Enlistment, Leaf, Transaction}
use Rattle.at_model.specs.Moves.{Change}
use Rattle.at_model.specs.Recovery.{recovered_voted}
use Rattle.at_model.specs.Register.{Registration}
use Rattle.at_model.specs.Seats.{prepared, seat_target}
use Rattle.at_model.specs.Step.{moment_of, plan, step}
use Rattle.at_model.specs.World.{HaveOwnAddresses, Hosts, IsNumber, Node, Posted, World, nth}
use Rattle.model_laws.specs.Agreement.{IsIn}
use Rattle.model_laws.specs.PhaseAnswers.{accepted_as}
use Rattle.model_laws.specs.ReachedWorlds.{Reached, counts}
use Rattle.model_laws.proofs.Addresses.{leads_home}
use Rattle.model_laws.proofs.DecisionLaws.{IfThere}
use Rattle.agreement.specs.Deeds.{How, KeepsLink, KeepsLinksIfLeft, coordinator_at, recorded, superior_at}
use Rattle.agreement.specs.LeafDeeds.{LeafDeed, LeafIdles, aborts, commits, dropped, for_durable, idles, leaves, prepares, registered, registers_again, rests, rolls_back, votes_again}
use Rattle.agreement.specs.StepDeeds.{standing}
use Rattle.agreement.proofs.SeatedEntries.{one_of}
use Rattle.enlistments.specs.NoticeOrigins.{Responds, names_completion, names_seat}
use Rattle.enlistments.specs.Registrations.{Enrolls, has_completion, has_seat, refuses, takes_completion, takes_seat}
use Rattle.enlistments.proofs.Answers.{held_after, keeps_id}
use Rattle.enlistments.proofs.Arrivals.{HasCome, Stepping, has_come, node_number, step_ready, up_known}
use Rattle.enlistments.proofs.LastingLeads.{Held, placed, seat_placed}
use Rattle.enlistments.proofs.NewItems.{leaf_fresh, made_fresh}
use Rattle.enlistments.proofs.Nodes.{NodesLaw, nodes_have}
use Rattle.enlistments.proofs.Places.{IsPlaced}
use Rattle.enlistments.proofs.Posts.{PostLaw, one_has}
use Rattle.enlistments.proofs.StepNotices.{steps_tell}
use Rattle.recorded_runs.specs.JournalRecords.{IsLed, RecordLed}

home : (hosts : Hosts) (n : ℕ) (T : Target) → HaveOwnAddresses hosts → IsNumber hosts n → IsWritten T → IsLed hosts (endpoint_of (hosts.base_of n) T)
home hosts n T apart (least, most) h = record { node = n; target = T; leads = leads_home hosts n T apart least most h }

-- what a RegisterResponse names
abbrev ResponseLed : Hosts → Posted → Type 0
ResponseLed hosts p = (c : Epr) → p.content.message ≡ messages.RegisterResponse c → IsLed hosts c

response_led : (hosts : Hosts) (u : World) (n : ℕ) (x : Node) (b : Book) (e : Event) (now : ℕ) (landed : Bool) → Stepping hosts u n x b e now landed → (p : Post) (c : Epr)
    → Responds b e now (standing landed (plan b e now).entry) (step b e now landed) c p → IsLed hosts c
response_led hosts u n x b e now landed s p c (names_seat d kind q protocol sits k who is reply) =
    let w : World = counts u n x b e now landed in
    let h : Held hosts w n d.gives.transaction = held_after hosts u n x b e now landed s d in
    let at : IsPlaced hosts (accepted_as q) = seat_placed hosts w n d.gives.transaction q h sits in
    let written : endpoint_of (hosts.base_of n) (seat_target d.gives.transaction.id q) ≡ c =
    (λ j. endpoint_of (sym (up_known hosts u s.distinct s.reached n x b s.found s.up).says.base_is j)
    (seat_target (keeps_id (moment_of b now) d.arrived d.request d.old d.gives d.enrolls j) q)) ∙ sym is in
    subst (IsLed hosts) written
    (home hosts n (seat_target d.gives.transaction.id q) s.distinct (node_number hosts n u x s.distinct s.reached s.found) ((placed hosts w n d.gives.transaction h).0, at.least, at.most))
response_led hosts u n x b e now landed s p c (names_completion d y protocol there who is reply) =
    let w : World = counts u n x b e now landed in
    let h : Held hosts w n d.gives.transaction = held_after hosts u n x b e now landed s d in
    let written : endpoint_of (hosts.base_of n) (targets.Completion d.gives.transaction.id) ≡ c =
    (λ j. endpoint_of (sym (up_known hosts u s.distinct s.reached n x b s.found s.up).says.base_is j)
    (targets.Completion (keeps_id (moment_of b now) d.arrived d.request d.old d.gives d.enrolls j))) ∙ sym is in
    subst (IsLed hosts) written
    (home hosts n (targets.Completion d.gives.transaction.id) s.distinct (node_number hosts n u x s.distinct s.reached s.found) (placed hosts w n d.gives.transaction h).0)

responding : (hosts : Hosts) → PostLaw hosts
responding hosts = record {
  Of = λ w p. ResponseLed hosts p;
  on = λ u w g p h. h;
  new = λ u n x b e now landed s h p i r c says.
      response_led hosts u n x b e now landed s p c (steps_tell.responds b e now landed (step_ready hosts u n x b e now landed s) p c i says);
}

response_leads : (hosts : Hosts) (w : World) → HaveOwnAddresses hosts → Reached hosts w → (p : Posted) → IsIn p w.posted → ResponseLed hosts p
unfolding responding
response_leads hosts w distinct reached p i = one_has hosts distinct (responding hosts) w reached p i

-- what items know
abbrev IsLedIfKnown : Hosts → Option Epr → Type 0
IsLedIfKnown hosts None = Unit {0}
IsLedIfKnown hosts (Some c) = IsLed hosts c

abbrev TransactionLed : Hosts → Transaction → Type 0
TransactionLed hosts t = (kind : Kind) → IsLedIfKnown hosts (coordinator_at kind t.superior)

abbrev LeafLed : Hosts → Leaf → Type 0
LeafLed hosts l = IsLedIfKnown hosts l.coordinator

abbrev Answered : Hosts → Event → Type 0
Answered hosts e = (a : Arrived) (c : Epr) → e ≡ events.Arrived a → a.message ≡ messages.RegisterResponse c → IsLed hosts c

answered : (hosts : Hosts) (u : World) (n : ℕ) (x : Node) (b : Book) (e : Event) (now : ℕ) (landed : Bool) → Stepping hosts u n x b e now landed → Answered hosts e
answered hosts u n x b e now landed s a c came says =
    let h : HasCome hosts u n a = has_come hosts u n x b e now landed a s came in
    response_leads hosts u s.distinct s.reached h.posted h.stands c (h.message ∙ says)

-- transactions
link_led : (hosts : Hosts) (e : Event) (old new : Transaction) (kind : Kind) → Answered hosts e → KeepsLink e old new kind → TransactionLed hosts old
    → IsLedIfKnown hosts (coordinator_at kind new.superior)
link_led hosts e old new kind h (inl same) k = subst (IsLedIfKnown hosts) (sym same) (k kind)
link_led hosts e old new kind h (inr j) k = subst (IsLedIfKnown hosts) (sym j.known) (h j.message j.coordinator j.came j.says)

left_led : (hosts : Hosts) (e : Event) (old : Transaction) (item : Option Transaction) → Answered hosts e → KeepsLinksIfLeft e old item → TransactionLed hosts old → IfThere (TransactionLed hosts) item
left_led hosts e old None h l k = tt
left_led hosts e old (Some new) h l k = λ kind. link_led hosts e old new kind h (l kind) k

vote_led : (hosts : Hosts) (id : Numbers) (superior : Option Epr) (seats : List Seated) → IsLedIfKnown hosts superior → IfThere (RecordLed hosts) (option_map (λ to. records.Voted id to seats) superior)
vote_led hosts id None seats h = tt
vote_led hosts id (Some to) seats h = h

recorded_led : (hosts : Hosts) (how : How) (t : Transaction) (at : List Enlistment) → TransactionLed hosts t → IfThere (RecordLed hosts) (recorded how t at)
recorded_led hosts How.Votes t at h = vote_led hosts t.id (superior_at t.superior) (prepared at) (h kinds.Durable)
recorded_led hosts How.Decides t at h = tt
recorded_led hosts How.DecidesAlone t at h = tt
recorded_led hosts How.Commits t at h = tt
recorded_led hosts How.RollsBack t at h = tt
recorded_led hosts How.Ends t at h = tt
recorded_led hosts How.Idles t at h = tt
recorded_led hosts How.Aborts t at h = tt
recorded_led hosts How.Leaves t at h = tt
recorded_led hosts How.Forgets t at h = tt

enrolled_led : (hosts : Hosts) (m : Moment) (a : Arrived) (r : Register) (t : Transaction) (g : Registration) → Enrolls m a r t g → TransactionLed hosts t → TransactionLed hosts g.transaction
enrolled_led hosts m a r t g (takes_seat kind protocol may is) h = subst (λ y. TransactionLed hosts y.transaction) (sym is) h
enrolled_led hosts m a r t g (takes_completion protocol may is) h = subst (λ y. TransactionLed hosts y.transaction) (sym is) h
enrolled_led hosts m a r t g (has_seat kind q protocol there k who is) h = subst (λ y. TransactionLed hosts y.transaction) (sym is) h
enrolled_led hosts m a r t g (has_completion c protocol there who is) h = subst (λ y. TransactionLed hosts y.transaction) (sym is) h
enrolled_led hosts m a r t g (refuses name is) h = subst (λ y. TransactionLed hosts y.transaction) (sym is) h

-- leaves
idle_led : (hosts : Hosts) (m : Moment) (e : Event) (l left : Leaf) (ps : List Post) → Answered hosts e → LeafIdles m e l left ps → LeafLed hosts l → LeafLed hosts left
idle_led hosts m e l left ps a (rests is sent) h = subst (LeafLed hosts) (sym is) h
idle_led hosts m e l left ps a (registered c r came answers state request is sent) h = subst (LeafLed hosts) (sym is) (a came.arrived c came.event came.message)
idle_led hosts m e l left ps a (registers_again r due state request is sent) h = subst (LeafLed hosts) (sym is) h
idle_led hosts m e l left ps a (votes_again to why state knows is sent) h = subst (LeafLed hosts) (sym is) h

none_led : (hosts : Hosts) (o : Option Leaf) → o ≡ None → IfThere (LeafLed hosts) o
none_led hosts o e = subst (IfThere (LeafLed hosts)) (sym e) tt

unrecorded : (hosts : Hosts) (entry : Option Record) → entry ≡ None → IfThere (RecordLed hosts) entry
unrecorded hosts entry e = subst (IfThere (RecordLed hosts)) (sym e) tt

durable_led : (hosts : Hosts) (kind : Kind) (r : Record) (entry : Option Record) → entry ≡ for_durable kind r → RecordLed hosts r → IfThere (RecordLed hosts) entry
durable_led hosts kinds.Durable r entry e h = subst (IfThere (RecordLed hosts)) (sym e) h
durable_led hosts kinds.Volatile r entry e h = subst (IfThere (RecordLed hosts)) (sym e) tt

leaf_deed_led : (hosts : Hosts) (m : Moment) (e : Event) (l : Leaf) (entry : Option Record) (c : Change Leaf) → Answered hosts e → LeafDeed m e l entry c → LeafLed hosts l
    → IfThere (LeafLed hosts) c.item × IfThere (RecordLed hosts) entry
leaf_deed_led hosts m e l entry c a (idles left why none item effects) h = (subst (IfThere (LeafLed hosts)) (sym item) (idle_led hosts m e l left c.posts a why h), unrecorded hosts entry none)
leaf_deed_led hosts m e l entry c a (aborts state why none item effects) h = (none_led hosts c.item item, unrecorded hosts entry none)
leaf_deed_led hosts m e l entry c a (prepares to came state vote knows is item effects sent) h =
    (subst (IfThere (LeafLed hosts)) (sym item) h, durable_led hosts l.kind (records.LeafPrepared l.id to l.key l.value) entry is (subst (IsLedIfKnown hosts) knows h))
leaf_deed_led hosts m e l entry c a (leaves to came state vote knows none item effects sent) h = (none_led hosts c.item item, unrecorded hosts entry none)
leaf_deed_led hosts m e l entry c a (dropped came kind none item effects sent) h = (none_led hosts c.item item, unrecorded hosts entry none)
leaf_deed_led hosts m e l entry c a (commits to came state knows is item effects sent) h = (none_led hosts c.item item, durable_led hosts l.kind (records.LeafCommitted l.id) entry is tt)
leaf_deed_led hosts m e l entry c a (rolls_back to came state knows is item effects sent) h = (none_led hosts c.item item, durable_led hosts l.kind (records.LeafAborted l.id) entry is tt)

voted_led : (hosts : Hosts) (id : Numbers) (superior : Epr) (seats : List Seated) (committed : Bool) → IsLed hosts superior
    → (kind : Kind) → IsLedIfKnown hosts (coordinator_at kind (recovered_voted id superior seats committed).superior)
voted_led hosts id superior seats true h kinds.Durable = h
voted_led hosts id superior seats true h kinds.Volatile = tt
voted_led hosts id superior seats false h kinds.Durable = h
voted_led hosts id superior seats false h kinds.Volatile = tt

anything : {A : Type 0} (o : Option A) → IfThere (λ (a : A). Unit {0}) o
anything None = tt
anything (Some a) = tt

leading : (hosts : Hosts) → NodesLaw hosts
leading hosts = record {
  OfTransaction = λ w n t. TransactionLed hosts t;
  OfLeaf = λ w n l. LeafLed hosts l;
  OfActivity = λ w n a. Unit {0};
  OfRecord = λ w n r. RecordLed hosts r;
  transaction_on = λ u w g n t h. h;
  leaf_on = λ u w g n l h. h;
  activity_on = λ u w g n a h. tt;
  record_on = λ u w g n r h. h;
  did = λ u n x b e now landed s d h. (
    left_led hosts e d.old d.change.item (answered hosts u n x b e now landed s) d.deed.links h,
    subst (IfThere (RecordLed hosts)) (sym d.deed.records) (recorded_led hosts d.deed.how d.old d.deed.at h),
  );
  leaf_does = λ u n x b e now landed s d h. leaf_deed_led hosts (moment_of b now) e d.old _ d.change (answered hosts u n x b e now landed s) d.deed h;
  activity_does = λ u n x b e now landed s d h. anything d.change.item;
  enrolls = λ u n x b e now landed s d h. enrolled_led hosts (moment_of b now) d.arrived d.request d.old d.gives d.enrolls h;
  makes = λ u n x b e now landed s d kind. subst (IsLedIfKnown hosts) (sym ((made_fresh b e now _ _ d).knows kind)) tt;
  makes_leaf = λ u n x b e now landed s d. subst (IsLedIfKnown hosts) (sym (leaf_fresh b e now _ _ d).1) tt;
  makes_activity = λ u n x b e now landed s d. tt;
  starts = λ w n i. tt;
  commits = λ w n id superior seats h. tt;
  voted = λ w n id superior seats committed h kind. voted_led hosts id superior seats committed h kind;
  decided = λ w n base id seats h kind. tt;
  prepared = λ w n id coordinator key value h. h;
}

pub coordinators_led : (hosts : Hosts) (w : World) → HaveOwnAddresses hosts → Reached hosts w → (n : ℕ) (x : Node) → nth n w.nodes ≡ Some x → (r : Record) → IsIn r x.journal → RecordLed hosts r
unfolding leading
coordinators_led hosts w distinct reached n x found r i = one_of (RecordLed hosts) x.journal r (nodes_have hosts distinct (leading hosts) w reached n x found).journal i
