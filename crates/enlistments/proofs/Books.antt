-- The coordinators that items know, and that records name, are the seats at which the items were accepted.
use Rattle.std.specs.Prelude.{ℕ, List, Option, Some, None, Bool, true, false, option_map, ◌≡◌}
use Rattle.std.specs.List.{AllByRecursion}
use Rattle.std.proofs.Common.{inl, inr, sym, subst, ◌∙◌}
use Rattle.at_base.specs.Numbers.{Numbers}
use Rattle.at_base.specs.declared.epr.Epr.{Epr}
use Rattle.at_base.specs.declared.notice.Kind.{Kind}
use Rattle.at_base.specs.declared.notice.Kind.TheVariants as kinds
use Rattle.at_base.specs.declared.message.Message.TheVariants as messages
use Rattle.at_base.specs.declared.message.Register.{Register}
use Rattle.at_base.specs.declared.event.Arrived.{Arrived}
use Rattle.at_base.specs.declared.event.Event.{Event}
use Rattle.at_base.specs.declared.event.Event.TheVariants as events
use Rattle.at_base.specs.declared.event.Moment.{Moment}
use Rattle.at_base.specs.declared.outs.Post.{Post}
use Rattle.at_base.specs.declared.record.Record.{Record}
use Rattle.at_base.specs.declared.record.Record.TheVariants as records
use Rattle.at_base.specs.declared.record.Seated.{Seated}
use Rattle.at_model.specs.Book.{Activity, Book, Enlistment, Leaf, Transaction}
use Rattle.at_model.specs.Moves.{Change}
use Rattle.at_model.specs.Recovery.{recovered_voted}
use Rattle.at_model.specs.Register.{Registration}
use Rattle.at_model.specs.Seats.{prepared}
use Rattle.at_model.specs.Step.{moment_of}
use Rattle.at_model.specs.World.{Node, World, nth, Hosts, HaveOwnAddresses}
use Rattle.model_laws.specs.Growth.{Grows}
use Rattle.model_laws.specs.ReachedWorlds.{Reached, counts}
use Rattle.model_laws.proofs.DecisionLaws.{IfThere}
use Rattle.model_laws.proofs.Growth.{grows_counts}
use Rattle.agreement.specs.ActivityDeeds.{ActivityDeed, ActivityIdles, asks, asks_again, created, idles as activity_idles, interposed, misled as activity_misled, registered as activity_registered, registers_again as activity_registers_again, rests as activity_rests, tells, works}
use Rattle.agreement.specs.Deeds.{Deed, How, IsSameIfLeft, KeepsLink, KeepsLinksIfLeft, coordinator_at, recorded, superior_at}
use Rattle.agreement.specs.LeafDeeds.{LeafDeed, LeafIdles, aborts, commits, dropped, for_durable, idles, leaves, prepares, registered, registers_again, rests, rolls_back, votes_again}
use Rattle.enlistments.specs.Registrations.{Enrolls, has_completion, has_seat, refuses, takes_completion, takes_seat}
use Rattle.enlistments.specs.KnownCoordinators.{ActivityKnows, BookKnows, LeafKnows, NamesSeatOf, RecordKnows, TransactionKnows}
use Rattle.enlistments.specs.Leads.{CompletesIfKnown, Enlists, EnlistsIfKnown}
use Rattle.enlistments.proofs.Answers.{answer_names, names_on}
use Rattle.enlistments.proofs.Arrivals.{HasCome, Stepping, has_come}
use Rattle.enlistments.proofs.NewItems.{activity_fresh, leaf_fresh, made_fresh}
use Rattle.enlistments.proofs.LastingLeads.{enlists_on, if_completes_on, if_enlists_on}
use Rattle.enlistments.proofs.Nodes.{BookHas, NodeHas, NodesLaw, books_have, nodes_have}

-- a RegisterResponse that came to an item names its seat
abbrev Answered : Hosts → World → ℕ → Event → Type 0
Answered hosts w n e = (a : Arrived) (c : Epr) → e ≡ events.Arrived a → a.message ≡ messages.RegisterResponse c → NamesSeatOf hosts w c n a.target

answered : (hosts : Hosts) (u : World) (n : ℕ) (x : Node) (b : Book) (e : Event) (now : ℕ) (landed : Bool) → Stepping hosts u n x b e now landed → Answered hosts (counts u n x b e now landed) n e
answered hosts u n x b e now landed s a c came says =
    let h : HasCome hosts u n a = has_come hosts u n x b e now landed a s came in
    names_on hosts u (counts u n x b e now landed) (grows_counts u n x b e now landed s.found) c n a.target
    (answer_names hosts u s.distinct s.reached h.posted h.stands h.to c n a.target h.sent (h.message ∙ says) h.leads)

-- transactions
link_knows : (hosts : Hosts) (w : World) (n : ℕ) (e : Event) (old new : Transaction) (kind : Kind) → Answered hosts w n e → KeepsLink e old new kind → TransactionKnows hosts w n old
    → EnlistsIfKnown hosts w (coordinator_at kind new.superior) (record { node = n; id = old.id }) kind
link_knows hosts w n e old new kind h (inl same) k = subst (λ o. EnlistsIfKnown hosts w o (record { node = n; id = old.id }) kind) (sym same) (k kind)
link_knows hosts w n e old new kind h (inr j) k =
    subst (λ o. EnlistsIfKnown hosts w o (record { node = n; id = old.id }) kind) (sym j.known)
    (subst (NamesSeatOf hosts w j.coordinator n) j.target (h j.message j.coordinator j.came j.says))

left_knows : (hosts : Hosts) (w : World) (n : ℕ) (e : Event) (old : Transaction) (item : Option Transaction) → Answered hosts w n e → KeepsLinksIfLeft e old item → IsSameIfLeft old item
    → TransactionKnows hosts w n old → IfThere (TransactionKnows hosts w n) item
left_knows hosts w n e old None h l s k = tt
left_knows hosts w n e old (Some new) h l s k =
    λ kind. subst (λ i. EnlistsIfKnown hosts w (coordinator_at kind new.superior) (record { node = n; id = i }) kind) (sym s.id) (link_knows hosts w n e old new kind h (l kind) k)

vote_knows : (hosts : Hosts) (w : World) (n : ℕ) (id : Numbers) (superior : Option Epr) (seats : List Seated) → EnlistsIfKnown hosts w superior (record { node = n; id = id }) kinds.Durable
    → IfThere (RecordKnows hosts w n) (option_map (λ to. records.Voted id to seats) superior)
vote_knows hosts w n id None seats h = tt
vote_knows hosts w n id (Some to) seats h = h

recorded_knows : (hosts : Hosts) (w : World) (n : ℕ) (how : How) (t : Transaction) (at : List Enlistment) → TransactionKnows hosts w n t → IfThere (RecordKnows hosts w n) (recorded how t at)
recorded_knows hosts w n How.Votes t at h = vote_knows hosts w n t.id (superior_at t.superior) (prepared at) (h kinds.Durable)
recorded_knows hosts w n How.Decides t at h = tt
recorded_knows hosts w n How.DecidesAlone t at h = tt
recorded_knows hosts w n How.Commits t at h = tt
recorded_knows hosts w n How.RollsBack t at h = tt
recorded_knows hosts w n How.Ends t at h = tt
recorded_knows hosts w n How.Idles t at h = tt
recorded_knows hosts w n How.Aborts t at h = tt
recorded_knows hosts w n How.Leaves t at h = tt
recorded_knows hosts w n How.Forgets t at h = tt

deed_knows : (hosts : Hosts) (w : World) (n : ℕ) (e : Event) (t : Transaction) (entry : Option Record) (c : Change Transaction) → Answered hosts w n e → Deed e t entry c
    → TransactionKnows hosts w n t → IfThere (TransactionKnows hosts w n) c.item × IfThere (RecordKnows hosts w n) entry
deed_knows hosts w n e t entry c a d h = (
  left_knows hosts w n e t c.item a d.links d.same h,
  subst (IfThere (RecordKnows hosts w n)) (sym d.records) (recorded_knows hosts w n d.how t d.at h),
)

enrolled_knows : (hosts : Hosts) (w : World) (n : ℕ) (m : Moment) (a : Arrived) (r : Register) (t : Transaction) (g : Registration) → Enrolls m a r t g → TransactionKnows hosts w n t
    → TransactionKnows hosts w n g.transaction
enrolled_knows hosts w n m a r t g (takes_seat kind protocol may is) h = subst (λ y. TransactionKnows hosts w n y.transaction) (sym is) h
enrolled_knows hosts w n m a r t g (takes_completion protocol may is) h = subst (λ y. TransactionKnows hosts w n y.transaction) (sym is) h
enrolled_knows hosts w n m a r t g (has_seat kind q protocol there k who is) h = subst (λ y. TransactionKnows hosts w n y.transaction) (sym is) h
enrolled_knows hosts w n m a r t g (has_completion c protocol there who is) h = subst (λ y. TransactionKnows hosts w n y.transaction) (sym is) h
enrolled_knows hosts w n m a r t g (refuses name is) h = subst (λ y. TransactionKnows hosts w n y.transaction) (sym is) h

-- leaves
idle_knows : (hosts : Hosts) (w : World) (n : ℕ) (m : Moment) (e : Event) (l left : Leaf) (ps : List Post) → Answered hosts w n e → LeafIdles m e l left ps → LeafKnows hosts w n l
    → LeafKnows hosts w n left
idle_knows hosts w n m e l left ps a (rests is sent) h = subst (LeafKnows hosts w n) (sym is) h
idle_knows hosts w n m e l left ps a (registered c r came answers state request is sent) h =
    subst (LeafKnows hosts w n) (sym is) (subst (NamesSeatOf hosts w c n) came.target (a came.arrived c came.event came.message))
idle_knows hosts w n m e l left ps a (registers_again r due state request is sent) h = subst (LeafKnows hosts w n) (sym is) h
idle_knows hosts w n m e l left ps a (votes_again to why state knows is sent) h = subst (LeafKnows hosts w n) (sym is) h

none_knows : (hosts : Hosts) (w : World) (n : ℕ) (o : Option Leaf) → o ≡ None → IfThere (LeafKnows hosts w n) o
none_knows hosts w n o e = subst (IfThere (LeafKnows hosts w n)) (sym e) tt

unrecorded : (hosts : Hosts) (w : World) (n : ℕ) (entry : Option Record) → entry ≡ None → IfThere (RecordKnows hosts w n) entry
unrecorded hosts w n entry e = subst (IfThere (RecordKnows hosts w n)) (sym e) tt

ended_knows : (hosts : Hosts) (w : World) (n : ℕ) (kind : Kind) (r : Record) (entry : Option Record) → entry ≡ for_durable kind r → RecordKnows hosts w n r → IfThere (RecordKnows hosts w n) entry
ended_knows hosts w n kinds.Durable r entry e h = subst (IfThere (RecordKnows hosts w n)) (sym e) h
ended_knows hosts w n kinds.Volatile r entry e h = subst (IfThere (RecordKnows hosts w n)) (sym e) tt

vote_of_leaf : (hosts : Hosts) (w : World) (n : ℕ) (id : Numbers) (kind : Kind) (to : Epr) (key value : List ℕ) (entry : Option Record) → entry ≡ for_durable kind (records.LeafPrepared id to key value)
    → Enlists hosts w to (record { node = n; id = id }) kind → IfThere (RecordKnows hosts w n) entry
vote_of_leaf hosts w n id kinds.Durable to key value entry e h = subst (IfThere (RecordKnows hosts w n)) (sym e) h
vote_of_leaf hosts w n id kinds.Volatile to key value entry e h = subst (IfThere (RecordKnows hosts w n)) (sym e) tt

leaf_deed_knows : (hosts : Hosts) (w : World) (n : ℕ) (m : Moment) (e : Event) (l : Leaf) (entry : Option Record) (c : Change Leaf) → Answered hosts w n e → LeafDeed m e l entry c
    → LeafKnows hosts w n l → IfThere (LeafKnows hosts w n) c.item × IfThere (RecordKnows hosts w n) entry
leaf_deed_knows hosts w n m e l entry c a (idles left why none item effects) h =
    (subst (IfThere (LeafKnows hosts w n)) (sym item) (idle_knows hosts w n m e l left c.posts a why h), unrecorded hosts w n entry none)
leaf_deed_knows hosts w n m e l entry c a (aborts state why none item effects) h = (none_knows hosts w n c.item item, unrecorded hosts w n entry none)
leaf_deed_knows hosts w n m e l entry c a (prepares to came state vote knows is item effects sent) h = (
  subst (IfThere (LeafKnows hosts w n)) (sym item) h,
  vote_of_leaf hosts w n l.id l.kind to l.key l.value entry is (subst (λ o. EnlistsIfKnown hosts w o (record { node = n; id = l.id }) l.kind) knows h),
)
leaf_deed_knows hosts w n m e l entry c a (leaves to came state vote knows none item effects sent) h = (none_knows hosts w n c.item item, unrecorded hosts w n entry none)
leaf_deed_knows hosts w n m e l entry c a (dropped came kind none item effects sent) h = (none_knows hosts w n c.item item, unrecorded hosts w n entry none)
leaf_deed_knows hosts w n m e l entry c a (commits to came state knows is item effects sent) h =
    (none_knows hosts w n c.item item, ended_knows hosts w n l.kind (records.LeafCommitted l.id) entry is tt)
leaf_deed_knows hosts w n m e l entry c a (rolls_back to came state knows is item effects sent) h =
    (none_knows hosts w n c.item item, ended_knows hosts w n l.kind (records.LeafAborted l.id) entry is tt)

-- activities
activity_idle_knows : (hosts : Hosts) (w : World) (n : ℕ) (m : Moment) (e : Event) (a left : Activity) (ps : List Post) → Answered hosts w n e → ActivityIdles m e a left ps
    → ActivityKnows hosts w n a → ActivityKnows hosts w n left
activity_idle_knows hosts w n m e a left ps h (activity_rests is sent) k = subst (ActivityKnows hosts w n) (sym is) k
activity_idle_knows hosts w n m e a left ps h (activity_misled came state is sent) k = subst (ActivityKnows hosts w n) (sym is) k
activity_idle_knows hosts w n m e a left ps h (created context came relates state begun is sent) k = subst (ActivityKnows hosts w n) (sym is) k
activity_idle_knows hosts w n m e a left ps h (interposed context came relates state begun is sent) k = subst (ActivityKnows hosts w n) (sym is) k
activity_idle_knows hosts w n m e a left ps h (activity_registered to came relates state is sent) k =
    subst (ActivityKnows hosts w n) (sym is) (subst (NamesSeatOf hosts w to n) came.target (h came.arrived to came.event came.message))
activity_idle_knows hosts w n m e a left ps h (activity_registers_again context came state known is sent) k = subst (ActivityKnows hosts w n) (sym is) k
activity_idle_knows hosts w n m e a left ps h (asks_again v to came wants state known is sent) k = subst (ActivityKnows hosts w n) (sym is) k
activity_idle_knows hosts w n m e a left ps h (works url kind vote key value context came state known is sent) k = subst (ActivityKnows hosts w n) (sym is) k
activity_idle_knows hosts w n m e a left ps h (asks v to came begun state known is sent) k = subst (ActivityKnows hosts w n) (sym is) k

activity_deed_knows : (hosts : Hosts) (w : World) (n : ℕ) (m : Moment) (e : Event) (a : Activity) (entry : Option Record) (c : Change Activity) → Answered hosts w n e → ActivityDeed m e a entry c
    → ActivityKnows hosts w n a → IfThere (ActivityKnows hosts w n) c.item
activity_deed_knows hosts w n m e a entry c h (activity_idles left why none item effects) k =
    subst (IfThere (ActivityKnows hosts w n)) (sym item) (activity_idle_knows hosts w n m e a left c.posts h why k)
activity_deed_knows hosts w n m e a entry c h (tells what why none item effects sent) k = subst (IfThere (ActivityKnows hosts w n)) (sym item) tt

-- what stands for good
transaction_on : (hosts : Hosts) (u w : World) → Grows u w → (n : ℕ) (t : Transaction) → TransactionKnows hosts u n t → TransactionKnows hosts w n t
transaction_on hosts u w g n t h kind = if_enlists_on hosts u w g (coordinator_at kind t.superior) (record { node = n; id = t.id }) kind (h kind)

leaf_on : (hosts : Hosts) (u w : World) → Grows u w → (n : ℕ) (l : Leaf) → LeafKnows hosts u n l → LeafKnows hosts w n l
leaf_on hosts u w g n l h = if_enlists_on hosts u w g l.coordinator (record { node = n; id = l.id }) l.kind h

activity_on : (hosts : Hosts) (u w : World) → Grows u w → (n : ℕ) (a : Activity) → ActivityKnows hosts u n a → ActivityKnows hosts w n a
activity_on hosts u w g n a h = if_completes_on hosts u w g a.coordinator (record { node = n; id = a.id }) h

record_on : (hosts : Hosts) (u w : World) → Grows u w → (n : ℕ) (r : Record) → RecordKnows hosts u n r → RecordKnows hosts w n r
record_on hosts u w g n (records.LeafPrepared id coordinator key value) h = enlists_on hosts u w g coordinator (record { node = n; id = id }) kinds.Durable h
record_on hosts u w g n (records.Voted id coordinator seats) h = enlists_on hosts u w g coordinator (record { node = n; id = id }) kinds.Durable h
record_on hosts u w g n (records.Start i) h = tt
record_on hosts u w g n (records.Decided id seats) h = tt
record_on hosts u w g n (records.LeafCommitted id) h = tt
record_on hosts u w g n (records.LeafAborted id) h = tt
record_on hosts u w g n (records.SubCommitted id) h = tt
record_on hosts u w g n (records.Ended id) h = tt
record_on hosts u w g n (records.Done id) h = tt

-- a start
voted_knows : (hosts : Hosts) (w : World) (n : ℕ) (id : Numbers) (superior : Epr) (seats : List Seated) (committed : Bool) → Enlists hosts w superior (record { node = n; id = id }) kinds.Durable
    → (kind : Kind) → EnlistsIfKnown hosts w (coordinator_at kind (recovered_voted id superior seats committed).superior) (record { node = n; id = (recovered_voted id superior seats committed).id }) kind
voted_knows hosts w n id superior seats true h kinds.Durable = h
voted_knows hosts w n id superior seats true h kinds.Volatile = tt
voted_knows hosts w n id superior seats false h kinds.Durable = h
voted_knows hosts w n id superior seats false h kinds.Volatile = tt

knowing : (hosts : Hosts) → NodesLaw hosts
knowing hosts = record {
  OfTransaction = TransactionKnows hosts;
  OfLeaf = LeafKnows hosts;
  OfActivity = ActivityKnows hosts;
  OfRecord = RecordKnows hosts;
  transaction_on = transaction_on hosts;
  leaf_on = leaf_on hosts;
  activity_on = activity_on hosts;
  record_on = record_on hosts;
  did = λ u n x b e now landed s d h.
      deed_knows hosts (counts u n x b e now landed) n e d.old _ d.change (answered hosts u n x b e now landed s) d.deed
      (transaction_on hosts u (counts u n x b e now landed) (grows_counts u n x b e now landed s.found) n d.old h);
  leaf_does = λ u n x b e now landed s d h.
      leaf_deed_knows hosts (counts u n x b e now landed) n (moment_of b now) e d.old _ d.change (answered hosts u n x b e now landed s) d.deed
      (leaf_on hosts u (counts u n x b e now landed) (grows_counts u n x b e now landed s.found) n d.old h);
  activity_does = λ u n x b e now landed s d h.
      activity_deed_knows hosts (counts u n x b e now landed) n (moment_of b now) e d.old _ d.change (answered hosts u n x b e now landed s) d.deed
      (activity_on hosts u (counts u n x b e now landed) (grows_counts u n x b e now landed s.found) n d.old h);
  enrolls = λ u n x b e now landed s d h.
      enrolled_knows hosts (counts u n x b e now landed) n (moment_of b now) d.arrived d.request d.old d.gives d.enrolls
      (transaction_on hosts u (counts u n x b e now landed) (grows_counts u n x b e now landed s.found) n d.old h);
  makes = λ u n x b e now landed s d kind.
      subst (λ o. EnlistsIfKnown hosts (counts u n x b e now landed) o (record { node = n; id = d.new.id }) kind) (sym ((made_fresh b e now _ _ d).knows kind)) tt;
  makes_leaf = λ u n x b e now landed s d.
      subst (λ o. EnlistsIfKnown hosts (counts u n x b e now landed) o (record { node = n; id = d.new.id }) d.new.kind) (sym (leaf_fresh b e now _ _ d).1) tt;
  makes_activity = λ u n x b e now landed s d.
      subst (λ o. CompletesIfKnown hosts (counts u n x b e now landed) o (record { node = n; id = d.new.id })) (sym (activity_fresh b e now _ _ d)) tt;
  starts = λ w n i. tt;
  commits = λ w n id superior seats h. tt;
  voted = λ w n id superior seats committed h kind. voted_knows hosts w n id superior seats committed h kind;
  decided = λ w n base id seats h kind. tt;
  prepared = λ w n id coordinator key value h. h;
}

pub books_know : (hosts : Hosts) (w : World) → HaveOwnAddresses hosts → Reached hosts w → (n : ℕ) (x : Node) (b : Book) → nth n w.nodes ≡ Some x → x.book ≡ Some b → BookKnows hosts w n b
unfolding knowing
books_know hosts w distinct reached n x b found up =
    let h : BookHas hosts (knowing hosts) w n b = books_have hosts distinct (knowing hosts) w reached n x b found up in
    record { transactions = h.transactions; leaves = h.leaves; activities = h.activities }

pub journals_know : (hosts : Hosts) (w : World) → HaveOwnAddresses hosts → Reached hosts w → (n : ℕ) (x : Node) → nth n w.nodes ≡ Some x → AllByRecursion (RecordKnows hosts w n) x.journal
unfolding knowing
journals_know hosts w distinct reached n x found =
    let h : NodeHas hosts (knowing hosts) w n x.journal x.book = nodes_have hosts distinct (knowing hosts) w reached n x found in
    h.journal
