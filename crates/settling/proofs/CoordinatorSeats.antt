-- In every run each coordinator that a subordinate knows is a seat of a node.
use Rattle.std.specs.Prelude.{ℕ, List, Option, Some, None, Bool, true, false, option_map, ◌≡◌, ◌≤◌, length}
use Rattle.std.specs.List.{AllByRecursion}
use Rattle.std.proofs.Common.{sym, subst, inl, inr, arith, ◌∙◌}
use Rattle.at_base.specs.Numbers.{Numbers}
use Rattle.at_base.specs.declared.epr.Epr.{Epr}
use Rattle.at_base.specs.declared.event.Arrived.{Arrived}
use Rattle.at_base.specs.declared.event.Event.{Event}
use Rattle.at_base.specs.declared.event.Moment.{Moment}
use Rattle.at_base.specs.declared.message.Register.{Register}
use Rattle.at_base.specs.declared.notice.Kind.{Kind}
use Rattle.at_base.specs.declared.notice.Kind.TheVariants as kinds
use Rattle.at_base.specs.declared.outs.Post.{Post}
use Rattle.at_base.specs.declared.record.Record.{Record}
use Rattle.at_base.specs.declared.record.Record.TheVariants as records
use Rattle.at_base.specs.declared.record.Seated.{Seated}
use Rattle.at_base.specs.declared.target.Target.{Target}
use Rattle.at_base.specs.declared.target.Target.TheVariants as targets
use Rattle.endpoints.specs.Addresses.{endpoint_of, IsWritten}
use Rattle.at_model.specs.Book.{Book, Enlistment, Leaf, Transaction}
use Rattle.at_model.specs.Moves.{Change}
use Rattle.at_model.specs.Recovery.{recovered_voted}
use Rattle.at_model.specs.Register.{Registration}
use Rattle.at_model.specs.Seats.{prepared, seat_target}
use Rattle.at_model.specs.Step.{moment_of, plan, step}
use Rattle.at_model.specs.World.{Node, Posted, World, new_nodes, nth, place_of, Hosts, HaveOwnAddresses}
use Rattle.model_laws.specs.Agreement.{IsIn}
use Rattle.model_laws.specs.PhaseAnswers.{accepted_as}
use Rattle.model_laws.specs.ReachedWorlds.{Reached, counts}
use Rattle.model_laws.proofs.DecisionLaws.{IfThere}
use Rattle.model_laws.proofs.Addresses.{leads_home}
use Rattle.agreement.specs.Deeds.{How, KeepsLink, KeepsLinksIfLeft, coordinator_at, recorded, superior_at}
use Rattle.agreement.specs.StepDeeds.{standing}
use Rattle.agreement.specs.LeafDeeds.{LeafDeed, aborts, commits, dropped, for_durable, idles, leaves, prepares, rolls_back}
use Rattle.enlistments.specs.Registrations.{Enrolls, has_completion, has_seat, refuses, takes_completion, takes_seat}
use Rattle.enlistments.specs.NoticeOrigins.{Responds, names_completion, names_seat}
use Rattle.enlistments.proofs.StepNotices.{steps_tell}
use Rattle.enlistments.proofs.Answers.{held_after, keeps_id}
use Rattle.enlistments.proofs.Arrivals.{HasCome, Stepping, has_come, step_ready, up_known}
use Rattle.enlistments.proofs.NewItems.{made_fresh}
use Rattle.enlistments.proofs.LastingLeads.{Held}
use Rattle.enlistments.proofs.Nodes.{NodesLaw, books_have}
use Rattle.enlistments.proofs.Places.{IsPlaced, TransactionPlaced, transactions_placed}
use Rattle.enlistments.proofs.Posts.{PostLaw, one_has}
use Rattle.agreement.specs.Places.{HasPath}
use Rattle.agreement.proofs.SeatedEntries.{one_of}
use Rattle.settling.proofs.KnownCoordinators.{AnswerLeads, Leads, LeadsIfKnown}
use Rattle.settling.proofs.Places.{nth_within}
use Rattle.settling.proofs.Runs.{nth_least, reached_length}

-- an endpoint that a node writes
home : (hosts : Hosts) (n : ℕ) (u : World) (x : Node) (T : Target) (c : Epr) → HaveOwnAddresses hosts → Reached hosts u → nth n u.nodes ≡ Some x → HasPath T → endpoint_of (hosts.base_of n) T ≡ c → Leads hosts c
home hosts n u x T c distinct reached found path is =
    let most : n ≤ hosts.count = let size : n ≤ length u.nodes = nth_within n u.nodes x found in omega (arith, size, reached_length hosts u reached) in
    record { node = n; target = T; leads = subst (λ (e : Epr). place_of 1 (new_nodes hosts.base_of hosts.count 1) e.address ≡ Some (n, T)) is (leads_home hosts n T distinct (nth_least n u.nodes x found) most (written T path)) }
  where
    written : (S : Target) → HasPath S → IsWritten S
    written targets.Activation h = h
    written targets.Work h = h
    written (targets.Registration id) h = h
    written (targets.Completion id) h = h
    written (targets.Coordinator id seat) h = h
    written (targets.Participant id kind) h = h
    written (targets.Initiator id) h = h

response_leads : (hosts : Hosts) (u : World) (n : ℕ) (x : Node) (b : Book) (e : Event) (now : ℕ) (landed : Bool) → Stepping hosts u n x b e now landed → (p : Post) (c : Epr)
    → Responds b e now (standing landed (plan b e now).entry) (step b e now landed) c p → Leads hosts c
response_leads hosts u n x b e now landed s p c (names_seat d kind q protocol sits k who is reply) =
    let h : Held hosts (counts u n x b e now landed) n d.gives.transaction = held_after hosts u n x b e now landed s d in
    let (own, seats) = one_of (TransactionPlaced hosts) h.b.transactions d.gives.transaction (transactions_placed hosts (counts u n x b e now landed) s.distinct h.reached n h.x h.b h.found h.up) h.stands in
    let place : IsPlaced hosts (accepted_as q) = one_of (λ y. IsPlaced hosts (accepted_as y)) d.gives.transaction.seats q seats sits in
    home hosts n u x (seat_target d.gives.transaction.id q) c s.distinct s.reached s.found (own, place.least, place.most)
    ((λ j. endpoint_of (sym (up_known hosts u s.distinct s.reached n x b s.found s.up).says.base_is j) (seat_target (keeps_id (moment_of b now) d.arrived d.request d.old d.gives d.enrolls j) q)) ∙ sym is)
response_leads hosts u n x b e now landed s p c (names_completion d y protocol there who is reply) =
    let h : Held hosts (counts u n x b e now landed) n d.gives.transaction = held_after hosts u n x b e now landed s d in
    let (own, seats) = one_of (TransactionPlaced hosts) h.b.transactions d.gives.transaction (transactions_placed hosts (counts u n x b e now landed) s.distinct h.reached n h.x h.b h.found h.up) h.stands in
    home hosts n u x (targets.Completion d.gives.transaction.id) c s.distinct s.reached s.found own
    ((λ j. endpoint_of (sym (up_known hosts u s.distinct s.reached n x b s.found s.up).says.base_is j) (targets.Completion (keeps_id (moment_of b now) d.arrived d.request d.old d.gives d.enrolls j))) ∙ sym is)

leading : (hosts : Hosts) → PostLaw hosts
leading hosts = record {
  Of = λ w p. AnswerLeads hosts p;
  on = λ u w g p h. h;
  new = λ u n x b e now landed s h p i r c says. response_leads hosts u n x b e now landed s p c (steps_tell.responds b e now landed (step_ready hosts u n x b e now landed s) p c i says);
}

answer_leads : (hosts : Hosts) (w : World) → HaveOwnAddresses hosts → Reached hosts w → (p : Posted) → IsIn p w.posted → AnswerLeads hosts p
unfolding leading
answer_leads hosts w distinct reached p i = one_has hosts distinct (leading hosts) w reached p i

-- the coordinators of a transaction
abbrev pub CoordinatorsLead : Hosts → Transaction → Type 0
CoordinatorsLead hosts t = (kind : Kind) → LeadsIfKnown hosts (coordinator_at kind t.superior)

abbrev RecordLeads : Hosts → Record → Type 0
RecordLeads hosts (records.Voted id superior seats) = Leads hosts superior
RecordLeads hosts other = Unit {0}

link_leads : (hosts : Hosts) (u : World) (n : ℕ) (x : Node) (b : Book) (e : Event) (now : ℕ) (landed : Bool) (old new : Transaction) (kind : Kind) → Stepping hosts u n x b e now landed
    → KeepsLink e old new kind → CoordinatorsLead hosts old → LeadsIfKnown hosts (coordinator_at kind new.superior)
link_leads hosts u n x b e now landed old new kind s (inl same) h = subst (LeadsIfKnown hosts) (sym same) (h kind)
link_leads hosts u n x b e now landed old new kind s (inr j) h =
    let c : HasCome hosts u n j.message = has_come hosts u n x b e now landed j.message s j.came in
    subst (LeadsIfKnown hosts) (sym j.known) (answer_leads hosts u s.distinct s.reached c.posted c.stands j.coordinator (c.message ∙ j.says))

left_leads : (hosts : Hosts) (u : World) (n : ℕ) (x : Node) (b : Book) (e : Event) (now : ℕ) (landed : Bool) (old : Transaction) (item : Option Transaction) → Stepping hosts u n x b e now landed
    → KeepsLinksIfLeft e old item → CoordinatorsLead hosts old → IfThere (CoordinatorsLead hosts) item
left_leads hosts u n x b e now landed old None s l h = tt
left_leads hosts u n x b e now landed old (Some new) s l h = λ kind. link_leads hosts u n x b e now landed old new kind s (l kind) h

vote_leads : (hosts : Hosts) (id : Numbers) (superior : Option Epr) (seats : List Seated) → LeadsIfKnown hosts superior → IfThere (RecordLeads hosts) (option_map (λ to. records.Voted id to seats) superior)
vote_leads hosts id None seats h = tt
vote_leads hosts id (Some to) seats h = h

recorded_leads : (hosts : Hosts) (how : How) (t : Transaction) (at : List Enlistment) → CoordinatorsLead hosts t → IfThere (RecordLeads hosts) (recorded how t at)
recorded_leads hosts How.Votes t at h = vote_leads hosts t.id (superior_at t.superior) (prepared at) (h kinds.Durable)
recorded_leads hosts How.Decides t at h = tt
recorded_leads hosts How.DecidesAlone t at h = tt
recorded_leads hosts How.Commits t at h = tt
recorded_leads hosts How.RollsBack t at h = tt
recorded_leads hosts How.Ends t at h = tt
recorded_leads hosts How.Idles t at h = tt
recorded_leads hosts How.Aborts t at h = tt
recorded_leads hosts How.Leaves t at h = tt
recorded_leads hosts How.Forgets t at h = tt

enrolled_leads : (hosts : Hosts) (m : Moment) (a : Arrived) (r : Register) (t : Transaction) (g : Registration) → Enrolls m a r t g → CoordinatorsLead hosts t → CoordinatorsLead hosts g.transaction
enrolled_leads hosts m a r t g (takes_seat kind protocol may is) h = subst (λ y. CoordinatorsLead hosts y.transaction) (sym is) h
enrolled_leads hosts m a r t g (takes_completion protocol may is) h = subst (λ y. CoordinatorsLead hosts y.transaction) (sym is) h
enrolled_leads hosts m a r t g (has_seat kind q protocol there k who is) h = subst (λ y. CoordinatorsLead hosts y.transaction) (sym is) h
enrolled_leads hosts m a r t g (has_completion c protocol there who is) h = subst (λ y. CoordinatorsLead hosts y.transaction) (sym is) h
enrolled_leads hosts m a r t g (refuses name is) h = subst (λ y. CoordinatorsLead hosts y.transaction) (sym is) h

voted_leads : (hosts : Hosts) (id : Numbers) (superior : Epr) (seats : List Seated) (committed : Bool) → Leads hosts superior → CoordinatorsLead hosts (recovered_voted id superior seats committed)
voted_leads hosts id superior seats true h kinds.Volatile = tt
voted_leads hosts id superior seats true h kinds.Durable = h
voted_leads hosts id superior seats false h kinds.Volatile = tt
voted_leads hosts id superior seats false h kinds.Durable = h

coordinating : (hosts : Hosts) → NodesLaw hosts
coordinating hosts = record {
  OfTransaction = λ w n t. CoordinatorsLead hosts t;
  OfLeaf = λ w n l. Unit {0};
  OfActivity = λ w n a. Unit {0};
  OfRecord = λ w n r. RecordLeads hosts r;
  transaction_on = λ u w g n t h. h;
  leaf_on = λ u w g n l h. h;
  activity_on = λ u w g n a h. h;
  record_on = λ u w g n r h. h;
  did = λ u n x b e now landed s d h. (
    left_leads hosts u n x b e now landed d.old d.change.item s d.deed.links h,
    subst (IfThere (RecordLeads hosts)) (sym d.deed.records) (recorded_leads hosts d.deed.how d.old d.deed.at h),
  );
  leaf_does = λ u n x b e now landed s d h. (any_unit d.change.item, leaf_records (moment_of b now) e d.old _ d.change d.deed);
  activity_does = λ u n x b e now landed s d h. any_unit d.change.item;
  enrolls = λ u n x b e now landed s d h. enrolled_leads hosts (moment_of b now) d.arrived d.request d.old d.gives d.enrolls h;
  makes = λ u n x b e now landed s d kind. subst (LeadsIfKnown hosts) (sym ((made_fresh b e now _ _ d).knows kind)) tt;
  makes_leaf = λ u n x b e now landed s d. tt;
  makes_activity = λ u n x b e now landed s d. tt;
  starts = λ w n i. tt;
  commits = λ w n id superior seats h. tt;
  voted = λ w n id superior seats committed h. voted_leads hosts id superior seats committed h;
  decided = λ w n base id seats h kind. tt;
  prepared = λ w n id coordinator key value h. tt;
}
  where
    any_unit : {A : Type 0} (o : Option A) → IfThere (λ a. Unit {0}) o
    any_unit None = tt
    any_unit (Some a) = tt

    of_kind : (kind : Kind) (r : Record) (entry : Option Record) → entry ≡ for_durable kind r → RecordLeads hosts r → IfThere (RecordLeads hosts) entry
    of_kind kinds.Durable r entry e h = subst (IfThere (RecordLeads hosts)) (sym e) h
    of_kind kinds.Volatile r entry e h = subst (IfThere (RecordLeads hosts)) (sym e) tt

    none : (entry : Option Record) → entry ≡ None → IfThere (RecordLeads hosts) entry
    none entry e = subst (IfThere (RecordLeads hosts)) (sym e) tt

    leaf_records : (m : Moment) (e : Event) (l : Leaf) (entry : Option Record) (c : Change Leaf) → LeafDeed m e l entry c → IfThere (RecordLeads hosts) entry
    leaf_records m e l entry c (idles left why unrecorded item effects) = none entry unrecorded
    leaf_records m e l entry c (aborts state why unrecorded item effects) = none entry unrecorded
    leaf_records m e l entry c (prepares to came state vote knows is item effects sent) = of_kind l.kind _ entry is tt
    leaf_records m e l entry c (leaves to came state vote knows unrecorded item effects sent) = none entry unrecorded
    leaf_records m e l entry c (dropped came kind unrecorded item effects sent) = none entry unrecorded
    leaf_records m e l entry c (commits to came state knows is item effects sent) = of_kind l.kind _ entry is tt
    leaf_records m e l entry c (rolls_back to came state knows is item effects sent) = of_kind l.kind _ entry is tt

pub coordinators_lead : (hosts : Hosts) (w : World) → HaveOwnAddresses hosts → Reached hosts w → (n : ℕ) (x : Node) (b : Book) → nth n w.nodes ≡ Some x → x.book ≡ Some b
    → AllByRecursion (CoordinatorsLead hosts) b.transactions
unfolding coordinating
coordinators_lead hosts w distinct reached n x b found up = (books_have hosts distinct (coordinating hosts) w reached n x b found up).transactions
