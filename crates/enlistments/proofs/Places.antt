-- In every run what a node writes of its items and seats has a path, and a seat's participant is of the seat's kind.
use Rattle.std.specs.Prelude.{ℕ, List, [], ◌∷◌, Option, Some, None, Bool, true, false, nat_lt, ◌&&◌, ◌+◌, ◌^◌, if◌then◌else◌, filter, length, map, option_map, ◌≡◌, ◌≤◌, ◌<◌, refl}
use Rattle.std.specs.List.{AllByRecursion}
use Rattle.std.proofs.Common.{sym, subst, ap, arith, ◌∙◌}
use Rattle.std.proofs.lemmas.Bool.{ltb-true}
use Rattle.at_base.specs.Numbers.{Numbers}
use Rattle.at_base.specs.IdText.{IsId}
use Rattle.at_base.specs.declared.epr.Epr.{Epr}
use Rattle.at_base.specs.declared.limits.TheConstants.{MOST_SEATS}
use Rattle.at_base.specs.declared.notice.Kind.{Kind}
use Rattle.at_base.specs.declared.notice.Kind.TheVariants as kinds
use Rattle.at_base.specs.declared.event.Event.{Event}
use Rattle.at_base.specs.declared.event.Moment.{Moment}
use Rattle.at_base.specs.declared.outs.Post.{Post}
use Rattle.at_base.specs.declared.record.Record.{Record}
use Rattle.at_base.specs.declared.record.Record.TheVariants as records
use Rattle.at_base.specs.declared.record.Seated.{Seated}
use Rattle.at_tables.specs.declared.cells.State.{State}
use Rattle.at_tables.specs.declared.cells.State.TheVariants as states
use Rattle.at_tables.specs.Names.{is_state}
use Rattle.at_base.specs.Names.{is_kind}
use Rattle.at_model.specs.Book.{Book, Enlistment, Leaf, Transaction, next_id}
use Rattle.at_model.specs.Moves.{Change}
use Rattle.at_model.specs.Recovery.{recovered_seat, recovered_voted}
use Rattle.at_model.specs.Register.{accepts, may_complete, new_seat}
use Rattle.at_model.specs.Seats.{is_prepared_durable, prepared, seated}
use Rattle.at_model.specs.Step.{moment_of, plan, step}
use Rattle.at_model.specs.World.{Node, World, nth, Hosts, HaveOwnAddresses}
use Rattle.model_laws.specs.PhaseAnswers.{Accepted as Seating, accepted_as}
use Rattle.model_laws.specs.ReachedWorlds.{Reached}
use Rattle.model_laws.proofs.DecisionLaws.{IfThere, all_join}
use Rattle.agreement.specs.Deeds.{AreCounted, AreSeatsAfter, AreSeatsIfLeft, Deed, How, IsSameIfLeft, recorded, superior_at}
use Rattle.agreement.specs.StepDeeds.{standing}
use Rattle.agreement.specs.LeafDeeds.{LeafDeed, LeafIdles, aborts, commits, dropped, for_durable, idles, leaves, prepares, registered, registers_again, rests, rolls_back, votes_again}
use Rattle.agreement.proofs.Registers.{next_small}
use Rattle.agreement.proofs.SeatedNames.{named_as}
use Rattle.agreement.proofs.Seats.{deeds_move_seats}
use Rattle.enlistments.specs.Registrations.{Enrolls, has_completion, has_seat, refuses, takes_completion, takes_seat}
use Rattle.enlistments.specs.Leads.{IsOfKind}
use Rattle.enlistments.specs.Moves.{Registered}
use Rattle.enlistments.proofs.Arrivals.{Stepping, up_known}
use Rattle.enlistments.proofs.NewItems.{IsFresh, leaf_fresh, made_fresh}
use Rattle.enlistments.proofs.Nodes.{NodesLaw, books_have}
use Rattle.enlistments.proofs.Registers.{IsRegisterOf, for_kind, register_of}

-- a seat's number, and whose endpoint it has
pub record IsPlaced (hosts : Hosts) (a : Seating) : Type 0 where
  pub least : 1 ≤ a.number
  pub most : a.number < 2 ^ 16
  pub kind : IsOfKind hosts a.participant a.kind

abbrev pub ArePlaced : Hosts → List Enlistment → Type 0
ArePlaced hosts seats = AllByRecursion (λ s. IsPlaced hosts (accepted_as s)) seats

abbrev pub TransactionPlaced : Hosts → Transaction → Type 0
TransactionPlaced hosts t = IsId t.id × ArePlaced hosts t.seats

abbrev ArePlacedNames : Hosts → List Seated → Type 0
ArePlacedNames hosts seats = AllByRecursion (λ s. IsPlaced hosts (named_as s)) seats

abbrev RecordPlaced : Hosts → Record → Type 0
RecordPlaced hosts (records.LeafPrepared id coordinator key value) = IsId id
RecordPlaced hosts (records.Voted id superior seats) = IsId id × ArePlacedNames hosts seats
RecordPlaced hosts (records.Decided id seats) = IsId id × ArePlacedNames hosts seats
RecordPlaced hosts other = Unit {0}

-- behind a deed
after_placed : (hosts : Hosts) (e : Event) (t : Transaction) (how : How) (olds news : List Enlistment) → AreSeatsAfter e t how olds news → ArePlaced hosts olds → ArePlaced hosts news
after_placed hosts e t how [] [] h k = tt
after_placed hosts e t how [] (n ∷ ns) h k = absurd h
after_placed hosts e t how (o ∷ os) [] h k = absurd h
after_placed hosts e t how (o ∷ os) (n ∷ ns) (h, i) (k, j) = (subst (IsPlaced hosts) (sym h.seat) k, after_placed hosts e t how os ns i j)

counted_placed : (hosts : Hosts) (e : Event) (t : Transaction) (olds news : List Enlistment) → AreCounted e t olds news → ArePlaced hosts olds → ArePlaced hosts news
counted_placed hosts e t [] [] h k = tt
counted_placed hosts e t [] (n ∷ ns) h k = absurd h
counted_placed hosts e t (o ∷ os) [] h k = absurd h
counted_placed hosts e t (o ∷ os) (n ∷ ns) (h, i) (k, j) = (subst (IsPlaced hosts) (sym h.seat) k, counted_placed hosts e t os ns i j)

left_placed : (hosts : Hosts) (e : Event) (t : Transaction) (how : How) (item : Option Transaction) → IsSameIfLeft t item → AreSeatsIfLeft e t how item → TransactionPlaced hosts t
    → IfThere (TransactionPlaced hosts) item
left_placed hosts e t how None s h k = tt
left_placed hosts e t how (Some new) s h (own, k) = (subst IsId (sym s.id) own, after_placed hosts e t how t.seats new.seats h k)

durable_kind : (kind : Kind) (b : Bool) → (is_kind kind kinds.Durable && b) ≡ true → kind ≡ kinds.Durable
durable_kind kinds.Durable b e = refl
durable_kind kinds.Volatile b e = absurd cc

prepared_placed : (hosts : Hosts) (seats : List Enlistment) → ArePlaced hosts seats → ArePlacedNames hosts (prepared seats)
prepared_placed hosts [] h = tt
prepared_placed hosts (s ∷ seats) (h, k) = by_test (prepared_placed hosts seats k) (is_prepared_durable s) refl
  where
    by_test : ArePlacedNames hosts (prepared seats) → (b : Bool) → is_prepared_durable s ≡ b
        → ArePlacedNames hosts (map seated (if b then s ∷ filter is_prepared_durable seats else filter is_prepared_durable seats))
    by_test rest true e =
        (subst (λ kind. IsPlaced hosts (record { number = s.number; kind = kind; participant = s.participant })) (durable_kind s.kind (is_state s.state states.Prepared) e) h, rest)
    by_test rest false e = rest

vote_placed : (hosts : Hosts) (id : Numbers) (superior : Option Epr) (at : List Enlistment) → IsId id → ArePlaced hosts at
    → IfThere (RecordPlaced hosts) (option_map (λ to. records.Voted id to (prepared at)) superior)
vote_placed hosts id None at h k = tt
vote_placed hosts id (Some to) at h k = (h, prepared_placed hosts at k)

recorded_placed : (hosts : Hosts) (how : How) (t : Transaction) (at : List Enlistment) → IsId t.id → ArePlaced hosts at → IfThere (RecordPlaced hosts) (recorded how t at)
recorded_placed hosts How.Votes t at h k = vote_placed hosts t.id (superior_at t.superior) at h k
recorded_placed hosts How.Decides t at h k = (h, prepared_placed hosts at k)
recorded_placed hosts How.DecidesAlone t at h k = (h, prepared_placed hosts at k)
recorded_placed hosts How.Commits t at h k = tt
recorded_placed hosts How.RollsBack t at h k = tt
recorded_placed hosts How.Ends t at h k = tt
recorded_placed hosts How.Idles t at h k = tt
recorded_placed hosts How.Aborts t at h k = tt
recorded_placed hosts How.Leaves t at h k = tt
recorded_placed hosts How.Forgets t at h k = tt

deed_placed : (hosts : Hosts) (e : Event) (t : Transaction) (entry : Option Record) (c : Change Transaction) → Deed e t entry c → TransactionPlaced hosts t
    → IfThere (TransactionPlaced hosts) c.item × IfThere (RecordPlaced hosts) entry
deed_placed hosts e t entry c d h = (
  left_placed hosts e t d.how c.item d.same (deeds_move_seats.seats e t entry c d) h,
  subst (IfThere (RecordPlaced hosts)) (sym d.records) (recorded_placed hosts d.how t d.at h.0 (counted_placed hosts e t t.seats d.at d.counted h.1)),
)

-- a leaf
abbrev LeafPlaced : Leaf → Type 0
LeafPlaced l = IsId l.id

idle_placed : (m : Moment) (e : Event) (l left : Leaf) (ps : List Post) → LeafIdles m e l left ps → left.id ≡ l.id
idle_placed m e l left ps (rests is sent) = ap (λ (x : Leaf). x.id) is
idle_placed m e l left ps (registered c r came answers state request is sent) = ap (λ (x : Leaf). x.id) is
idle_placed m e l left ps (registers_again r due state request is sent) = ap (λ (x : Leaf). x.id) is
idle_placed m e l left ps (votes_again to why state knows is sent) = ap (λ (x : Leaf). x.id) is

none_placed : (o : Option Leaf) → o ≡ None → IfThere LeafPlaced o
none_placed o e = subst (IfThere LeafPlaced) (sym e) tt

unrecorded : (hosts : Hosts) (entry : Option Record) → entry ≡ None → IfThere (RecordPlaced hosts) entry
unrecorded hosts entry e = subst (IfThere (RecordPlaced hosts)) (sym e) tt

durable_placed : (hosts : Hosts) (kind : Kind) (r : Record) (entry : Option Record) → entry ≡ for_durable kind r → RecordPlaced hosts r → IfThere (RecordPlaced hosts) entry
durable_placed hosts kinds.Durable r entry e h = subst (IfThere (RecordPlaced hosts)) (sym e) h
durable_placed hosts kinds.Volatile r entry e h = subst (IfThere (RecordPlaced hosts)) (sym e) tt

leaf_deed_placed : (hosts : Hosts) (m : Moment) (e : Event) (l : Leaf) (entry : Option Record) (c : Change Leaf) → LeafDeed m e l entry c → LeafPlaced l
    → IfThere LeafPlaced c.item × IfThere (RecordPlaced hosts) entry
leaf_deed_placed hosts m e l entry c (idles left why none item effects) h =
    (subst (IfThere LeafPlaced) (sym item) (subst IsId (sym (idle_placed m e l left c.posts why)) h), unrecorded hosts entry none)
leaf_deed_placed hosts m e l entry c (aborts state why none item effects) h = (none_placed c.item item, unrecorded hosts entry none)
leaf_deed_placed hosts m e l entry c (prepares to came state vote knows is item effects sent) h =
    (subst (IfThere LeafPlaced) (sym item) h, durable_placed hosts l.kind (records.LeafPrepared l.id to l.key l.value) entry is h)
leaf_deed_placed hosts m e l entry c (leaves to came state vote knows none item effects sent) h = (none_placed c.item item, unrecorded hosts entry none)
leaf_deed_placed hosts m e l entry c (dropped came kind none item effects sent) h = (none_placed c.item item, unrecorded hosts entry none)
leaf_deed_placed hosts m e l entry c (commits to came state knows is item effects sent) h = (none_placed c.item item, durable_placed hosts l.kind (records.LeafCommitted l.id) entry is tt)
leaf_deed_placed hosts m e l entry c (rolls_back to came state knows is item effects sent) h = (none_placed c.item item, durable_placed hosts l.kind (records.LeafAborted l.id) entry is tt)

-- a registration
new_number : (length_ number : ℕ) (a c : Bool) → number ≡ length_ + 1 → (a && nat_lt length_ MOST_SEATS && c) ≡ true → (1 ≤ number) × (number < 2 ^ 16)
new_number k number true c is e = by_test (nat_lt k MOST_SEATS) refl e
  where
    by_test : (t : Bool) → nat_lt k MOST_SEATS ≡ t → (t && c) ≡ true → (1 ≤ number) × (number < 2 ^ 16)
    by_test true f g = (omega (arith, is), omega (arith, is, ltb-true k MOST_SEATS f))
    by_test false f g = absurd cc
new_number k number false c is e = absurd cc

enrolled_placed : (hosts : Hosts) (u : World) (n : ℕ) (x : Node) (b : Book) (e : Event) (now : ℕ) (landed : Bool) → Stepping hosts u n x b e now landed
    → (d : Registered b e now (standing landed (plan b e now).entry) (step b e now landed)) → Enrolls (moment_of b now) d.arrived d.request d.old d.gives
    → TransactionPlaced hosts d.old → TransactionPlaced hosts d.gives.transaction
enrolled_placed hosts u n x b e now landed s d (takes_seat kind protocol may is) (own, h) =
    let r : IsRegisterOf hosts d.arrived d.request = register_of hosts u n x b e now landed d.arrived d.request s d.came d.says in
    let (i, own_is) = for_kind r.own r.id d.request.protocol kind r.registers protocol in
    let (least, most) = new_number (length d.old.seats) (length d.old.seats + 1) (accepts d.old.phase) (may_complete d.old (Some kind)) refl may in
    subst (λ g. TransactionPlaced hosts g.transaction) (sym is) (
      own,
      all_join (λ q. IsPlaced hosts (accepted_as q)) d.old.seats (new_seat d.old d.request.participant kind ∷ []) h
          (record { least = least; most = most; kind = λ m T l. (i, (r.leads m T l).1 ∙ own_is) }, tt),
    )
enrolled_placed hosts u n x b e now landed s d (takes_completion protocol may is) h = subst (λ g. TransactionPlaced hosts g.transaction) (sym is) h
enrolled_placed hosts u n x b e now landed s d (has_seat kind q protocol there k who is) h = subst (λ g. TransactionPlaced hosts g.transaction) (sym is) h
enrolled_placed hosts u n x b e now landed s d (has_completion c protocol there who is) h = subst (λ g. TransactionPlaced hosts g.transaction) (sym is) h
enrolled_placed hosts u n x b e now landed s d (refuses name is) h = subst (λ g. TransactionPlaced hosts g.transaction) (sym is) h

-- recovery
seats_recovered : (hosts : Hosts) (state : State) (seats : List Seated) → ArePlacedNames hosts seats → ArePlaced hosts (map (recovered_seat state) seats)
seats_recovered hosts state [] h = tt
seats_recovered hosts state (s ∷ seats) (h, k) = (h, seats_recovered hosts state seats k)

voted_placed : (hosts : Hosts) (id : Numbers) (superior : Epr) (seats : List Seated) (committed : Bool) → IsId id × ArePlacedNames hosts seats
    → TransactionPlaced hosts (recovered_voted id superior seats committed)
voted_placed hosts id superior seats true (h, k) = (h, seats_recovered hosts states.Committing seats k)
voted_placed hosts id superior seats false (h, k) = (h, seats_recovered hosts states.Prepared seats k)

-- what is made
made_id : (hosts : Hosts) (u : World) (n : ℕ) (x : Node) (b : Book) (e : Event) (now : ℕ) (landed : Bool) (id : Numbers) → Stepping hosts u n x b e now landed → next_id b ≡ Some id → IsId id
made_id hosts u n x b e now landed id s next =
    next_small b id (up_known hosts u s.distinct s.reached n x b s.found s.up).says.least (up_known hosts u s.distinct s.reached n x b s.found s.up).says.most next

placing : (hosts : Hosts) → NodesLaw hosts
placing hosts = record {
  OfTransaction = λ w n t. TransactionPlaced hosts t;
  OfLeaf = λ w n l. LeafPlaced l;
  OfActivity = λ w n a. Unit {0};
  OfRecord = λ w n r. RecordPlaced hosts r;
  transaction_on = λ u w g n t h. h;
  leaf_on = λ u w g n l h. h;
  activity_on = λ u w g n a h. h;
  record_on = λ u w g n r h. h;
  did = λ u n x b e now landed s d h. deed_placed hosts e d.old _ d.change d.deed h;
  leaf_does = λ u n x b e now landed s d h. leaf_deed_placed hosts (moment_of b now) e d.old _ d.change d.deed h;
  activity_does = λ u n x b e now landed s d h. any_unit d.change.item;
  enrolls = λ u n x b e now landed s d h. enrolled_placed hosts u n x b e now landed s d d.enrolls h;
  makes = λ u n x b e now landed s d.
      let f : IsFresh d.id d.new = made_fresh b e now _ _ d in
      (subst IsId (sym f.own) (made_id hosts u n x b e now landed d.id s d.next), subst (ArePlaced hosts) (sym f.seats) tt);
  makes_leaf = λ u n x b e now landed s d. subst IsId (sym (leaf_fresh b e now _ _ d).0) (made_id hosts u n x b e now landed d.id s d.next);
  makes_activity = λ u n x b e now landed s d. tt;
  starts = λ w n i. tt;
  commits = λ w n id superior seats h. tt;
  voted = λ w n id superior seats committed h. voted_placed hosts id superior seats committed h;
  decided = λ w n base id seats h. (h.0, seats_recovered hosts states.Committing seats h.1);
  prepared = λ w n id coordinator key value h. h;
}
  where
    any_unit : {A : Type 0} (o : Option A) → IfThere (λ a. Unit {0}) o
    any_unit None = tt
    any_unit (Some a) = tt

-- each transaction, and each leaf, of a world that is reached
pub transactions_placed : (hosts : Hosts) (w : World) → HaveOwnAddresses hosts → Reached hosts w → (n : ℕ) (x : Node) (b : Book) → nth n w.nodes ≡ Some x → x.book ≡ Some b
    → AllByRecursion (TransactionPlaced hosts) b.transactions
unfolding placing
transactions_placed hosts w distinct reached n x b found up = (books_have hosts distinct (placing hosts) w reached n x b found up).transactions

pub leaves_placed : (hosts : Hosts) (w : World) → HaveOwnAddresses hosts → Reached hosts w → (n : ℕ) (x : Node) (b : Book) → nth n w.nodes ≡ Some x → x.book ≡ Some b
    → AllByRecursion (λ l. IsId l.id) b.leaves
unfolding placing
leaves_placed hosts w distinct reached n x b found up = (books_have hosts distinct (placing hosts) w reached n x b found up).leaves
