-- A subordinate registers before its first participant.
use Rattle.std.specs.Prelude.{ℕ, List, [], ◌∷◌, Option, Some, None, ◌++◌, Bool, true, false, is_none, nat_lt, ◌&&◌, ◌⊎◌, filter, length, map, option_map, ◌≡◌, ◌<◌, refl}
use Rattle.std.specs.List.{AllByRecursion}
use Rattle.std.proofs.Common.{sym, subst, ap, inl, inr, arith, ◌∙◌}
use Rattle.std.proofs.lemmas.List.{append_assoc}
use Rattle.at_base.specs.Numbers.{Numbers}
use Rattle.at_base.specs.declared.epr.Epr.{Epr}
use Rattle.at_base.specs.declared.event.Event.{Event}
use Rattle.at_base.specs.declared.event.Moment.{Moment}
use Rattle.at_base.specs.declared.limits.TheConstants.{MOST_SEATS}
use Rattle.at_base.specs.declared.notice.Kind.{Kind}
use Rattle.at_base.specs.declared.notice.Kind.TheVariants as kinds
use Rattle.at_base.specs.declared.record.Record.{Record}
use Rattle.at_base.specs.declared.record.Record.TheVariants as records
use Rattle.at_base.specs.declared.record.Seated.{Seated}
use Rattle.at_model.specs.Book.{Book, Enlistment, Leaf, Phase, Superior, Transaction, transaction_id}
use Rattle.at_model.specs.Due.{may_expire}
use Rattle.at_tables.specs.declared.cells.State.TheVariants as states
use Rattle.at_model.specs.Moves.{Change}
use Rattle.at_model.specs.Recovery.{recovered_seat, recovered_voted}
use Rattle.at_model.specs.Register.{accepts}
use Rattle.at_model.specs.Seats.{is_prepared_durable, prepared, seated}
use Rattle.at_model.specs.Step.{moment_of, plan, step, transaction_at}
use Rattle.at_model.specs.World.{Accepted, Node, Who, World, accepted_seat, nth, run_of, Hosts, HaveOwnAddresses}
use Rattle.model_laws.specs.Agreement.{IsIn}
use Rattle.model_laws.specs.Growth.{Grows}
use Rattle.model_laws.specs.ReachedWorlds.{Reached, counts}
use Rattle.model_laws.proofs.DecisionLaws.{IfThere, all_find, first_true}
use Rattle.model_laws.proofs.Growth.{grows_counts}
use Rattle.model_laws.proofs.ReachedWorlds.{run_reached}
use Rattle.agreement.specs.Deeds.{How, IsSameIfLeft, coordinator_at, recorded, superior_at}
use Rattle.agreement.specs.StepDeeds.{standing}
use Rattle.agreement.specs.LeafDeeds.{LeafDeed, aborts, commits, dropped, for_durable, idles, leaves, prepares, rolls_back}
use Rattle.agreement.specs.SeatRegistrations.{SeatsEach}
use Rattle.agreement.proofs.SeatRegistrations.{seats_are_registered}
use Rattle.agreement.proofs.WaitingLeaves.{found_in}
use Rattle.agreement.proofs.Seats.{deeds_move_seats}
use Rattle.enlistments.specs.Registrations.{Enrolls, has_completion, has_seat, refuses, takes_completion, takes_seat}
use Rattle.enlistments.specs.KnownCoordinators.{TransactionKnows}
use Rattle.enlistments.specs.Leads.{Enlists, EnlistsIfKnown}
use Rattle.enlistments.proofs.Books.{books_know}
use Rattle.enlistments.specs.Moves.{Registered}
use Rattle.enlistments.proofs.Arrivals.{Stepping}
use Rattle.enlistments.proofs.NewItems.{made_fresh}
use Rattle.enlistments.proofs.Nodes.{NodesLaw, books_have}
use Rattle.at_base.specs.declared.target.Seat.{Seat}
use Rattle.model_laws.specs.Agreement.{IsAccepted}
use Rattle.at_model.specs.World.{WorldEvent}
use Rattle.model_laws.proofs.Registrations.{enlists_under_one}
use Rattle.agreement.specs.Deeds.{AreCounted, AreSeatsAfter, AreSeatsIfLeft, StoodFor}
use Rattle.agreement.proofs.SeatedEntries.{one_of}
use Rattle.settling.specs.Order.{HasJoined, HasSome, JoinsFirst, IsSeatOf, KnowsOne, RegistersFirst, SubordinatesRegisterFirst}
use Rattle.settling.proofs.KnownCoordinators.{Leads, LeadsIfKnown, books_joined}
use Rattle.settling.proofs.CoordinatorSeats.{CoordinatorsLead, coordinators_lead}

-- what was registered stays so
first_on : (u w : World) → Grows u w → (x : Who) → RegistersFirst u x → RegistersFirst w x
first_on u w g x h = record {
  front = h.front;
  registration = h.registration;
  back = h.back ++ g.registrations;
  stands = g.accepted ∙ ap (λ l. l ++ g.registrations) h.stands ∙ append_assoc h.front (h.registration ∷ h.back) g.registrations;
  own = h.own;
  seat = h.seat;
  taken = h.taken;
  none_before = h.none_before;
  none_here = h.none_here;
}

-- lists
in_split : {A : Type 0} (P : A → Type 0) (x : A) (xs : List A) → IsIn x xs → AllByRecursion P xs → (front : List A) × (back : List A) × (xs ≡ front ++ x ∷ back) × AllByRecursion P front
in_split P x [] h k = absurd h
in_split P x (y ∷ ys) (inl e) k = ([], ys, (λ i. sym e i ∷ ys), tt)
in_split P x (y ∷ ys) (inr h) (p, k) = let (front, back, is, all) = in_split P x ys h k in (y ∷ front, back, ap (λ l. y ∷ l) is, (p, all))

all_from_in : {A : Type 0} (P : A → Type 0) (xs : List A) → ((x : A) → IsIn x xs → P x) → AllByRecursion P xs
all_from_in P [] h = tt
all_from_in P (x ∷ xs) h = (h x (inl refl), all_from_in P xs (λ y i. h y (inr i)))

some_map : {A B : Type 0} (f : A → B) (xs : List A) → HasSome (map f xs) → HasSome xs
some_map f [] h = absurd h
some_map f (x ∷ xs) h = tt

some_filter : {A : Type 0} (test : A → Bool) (xs : List A) → HasSome (filter test xs) → HasSome xs
some_filter test [] h = absurd h
some_filter test (x ∷ xs) h = tt

some_after : (e : Event) (t : Transaction) (how : How) (olds news : List Enlistment) → AreSeatsAfter e t how olds news → HasSome news → HasSome olds
some_after e t how [] [] h k = k
some_after e t how [] (n ∷ ns) h k = absurd h
some_after e t how (o ∷ os) news h k = tt

some_counted : (e : Event) (t : Transaction) (olds news : List Enlistment) → AreCounted e t olds news → HasSome news → HasSome olds
some_counted e t [] [] h k = k
some_counted e t [] (n ∷ ns) h k = absurd h
some_counted e t (o ∷ os) news h k = tt

-- a transaction, and a vote
abbrev OrderOf : World → ℕ → Transaction → Type 0
OrderOf w n t = is_none t.superior ≡ false → HasSome t.seats → RegistersFirst w (record { node = n; id = t.id })

abbrev RecordOrder : World → ℕ → Record → Type 0
RecordOrder w n (records.Voted id superior seats) = HasSome seats → RegistersFirst w (record { node = n; id = id })
RecordOrder w n other = Unit {0}

left_order : (w : World) (n : ℕ) (e : Event) (t : Transaction) (how : How) (item : Option Transaction) → IsSameIfLeft t item → AreSeatsIfLeft e t how item → OrderOf w n t → IfThere (OrderOf w n) item
left_order w n e t how None s a h = tt
left_order w n e t how (Some new) s a h =
    λ under seats. subst (λ i. RegistersFirst w (record { node = n; id = i })) (sym s.id) (h (sym s.root ∙ under) (some_after e t how t.seats new.seats a seats))

under_known : (o : Option Superior) → is_none (superior_at o) ≡ false → is_none o ≡ false
under_known None e = absurd cc
under_known (Some s) e = refl

vote_order : (w : World) (n : ℕ) (e : Event) (t : Transaction) (at : List Enlistment) (o : Option Epr) → is_none t.superior ≡ false → AreCounted e t t.seats at → OrderOf w n t
    → IfThere (RecordOrder w n) (option_map (λ to. records.Voted t.id to (prepared at)) o)
vote_order w n e t at None u a h = tt
vote_order w n e t at (Some to) u a h = λ seats. h u (some_counted e t t.seats at a (some_filter is_prepared_durable at (some_map seated (filter is_prepared_durable at) seats)))

recorded_order : (w : World) (n : ℕ) (e : Event) (how : How) (t : Transaction) (at : List Enlistment) → StoodFor how t → AreCounted e t t.seats at → OrderOf w n t
    → IfThere (RecordOrder w n) (recorded how t at)
recorded_order w n e How.Votes t at s a h = vote_order w n e t at (superior_at t.superior) (under_known t.superior s.1) a h
recorded_order w n e How.Decides t at s a h = tt
recorded_order w n e How.DecidesAlone t at s a h = tt
recorded_order w n e How.Commits t at s a h = tt
recorded_order w n e How.RollsBack t at s a h = tt
recorded_order w n e How.Ends t at s a h = tt
recorded_order w n e How.Idles t at s a h = tt
recorded_order w n e How.Aborts t at s a h = tt
recorded_order w n e How.Leaves t at s a h = tt
recorded_order w n e How.Forgets t at s a h = tt

-- the first participant of a subordinate: by then it knows a coordinator, which accepted it
past_joining : (phase : Phase) → accepts phase ≡ true → (s : Superior) → HasJoined phase s → KnowsOne s
past_joining Phase.Active e s h = h
past_joining Phase.Volatile e s h = h
past_joining other e s h = absurd cc

undecided : (phase : Phase) → accepts phase ≡ true → may_expire phase ≡ true
undecided Phase.Active e = refl
undecided Phase.Volatile e = refl
undecided other e = absurd cc

some_known : (v d : Option Epr) → (is_none v && is_none d) ≡ false → ((c : Epr) × (v ≡ Some c)) ⊎ ((c : Epr) × (d ≡ Some c))
some_known (Some c) d e = inl (c, refl)
some_known None (Some c) e = inr (c, refl)
some_known None None e = absurd cc

-- a coordinator that it knows
record Coordinated (t : Transaction) : Type 0 where
  kind : Kind
  coordinator : Epr
  known : coordinator_at kind t.superior ≡ Some coordinator

coordinated : (t : Transaction) (o : Option Superior) → t.superior ≡ o → is_none o ≡ false → accepts t.phase ≡ true → JoinsFirst t.phase o → Coordinated t
coordinated t None e u a h = absurd cc
coordinated t (Some s) e u a h = by_link (some_known s.volatile.coordinator s.durable.coordinator (past_joining t.phase a s h.2))
  where
    by_link : ((c : Epr) × (s.volatile.coordinator ≡ Some c)) ⊎ ((c : Epr) × (s.durable.coordinator ≡ Some c)) → Coordinated t
    by_link (inl (c, k)) = record { kind = kinds.Volatile; coordinator = c; known = ap (coordinator_at kinds.Volatile) e ∙ k }
    by_link (inr (c, k)) = record { kind = kinds.Durable; coordinator = c; known = ap (coordinator_at kinds.Durable) e ∙ k }

first_participant : (hosts : Hosts) (u : World) (n : ℕ) (x : Node) (b : Book) (t : Transaction) → HaveOwnAddresses hosts → Reached hosts u → nth n u.nodes ≡ Some x → x.book ≡ Some b
    → transaction_at b t.id ≡ Some t → accepts t.phase ≡ true → is_none t.superior ≡ false → t.seats ≡ [] → RegistersFirst u (record { node = n; id = t.id })
first_participant hosts u n x b t distinct reached found up there takes under none =
    let me : Who = record { node = n; id = t.id } in
    let c : Coordinated t =
    coordinated t t.superior refl under takes (all_find (λ y. JoinsFirst y.phase y.superior) transaction_id t.id b.transactions t (books_joined hosts u reached n x b found up) there) in
    let l : Leads hosts c.coordinator =
    subst (LeadsIfKnown hosts) c.known (all_find (CoordinatorsLead hosts) transaction_id t.id b.transactions t (coordinators_lead hosts u distinct reached n x b found up) there c.kind) in
    let knows : TransactionKnows hosts u n t = all_find (TransactionKnows hosts u n) transaction_id t.id b.transactions t (books_know hosts u distinct reached n x b found up).transactions there in
    let enlists : Enlists hosts u c.coordinator me c.kind = subst (λ o. EnlistsIfKnown hosts u o me c.kind) c.known (knows c.kind) in
    let (id, number, at, registered) = enlists l.node l.target l.leads in
    let each : SeatsEach u n t = (seats_are_registered.reached hosts u distinct reached).complete n x b t found up (found_in transaction_id t.id b.transactions t there) (undecided t.phase takes) in
    let nobody : (a : Accepted) → IsIn a u.accepted → IsSeatOf me a → ⊥ = λ a i of. subst (λ seats. IsIn a (map (accepted_seat n u.nodes t.id) seats)) none (each a of.0 i of.2 of.1) in
    let seat : Seat = record { number = number; kind = c.kind } in
    let r : Accepted = record { transaction = record { node = l.node; id = id }; seat = Some seat; participant = Some me } in
    let (front, back, is, all) = in_split (λ a. IsSeatOf me a → ⊥) r u.accepted registered (all_from_in (λ a. IsSeatOf me a → ⊥) u.accepted nobody) in
    record { front = front; registration = r; back = back; stands = is; own = refl; seat = seat; taken = refl; none_before = all; none_here = nobody r registered }

enrolled_order : (hosts : Hosts) (u : World) (n : ℕ) (x : Node) (b : Book) (e : Event) (now : ℕ) (landed : Bool) → Stepping hosts u n x b e now landed
    → (d : Registered b e now (standing landed (plan b e now).entry) (step b e now landed)) → Enrolls (moment_of b now) d.arrived d.request d.old d.gives → OrderOf u n d.old
    → OrderOf (counts u n x b e now landed) n d.gives.transaction
enrolled_order hosts u n x b e now landed s d (takes_seat kind protocol may is) h =
    subst (λ g. OrderOf (counts u n x b e now landed) n g.transaction) (sym is)
    (λ under seats. first_on u (counts u n x b e now landed) (grows_counts u n x b e now landed s.found) (record { node = n; id = d.old.id }) (by_seats under d.old.seats refl))
  where
    by_seats : is_none d.old.superior ≡ false → (seats : List Enlistment) → d.old.seats ≡ seats → RegistersFirst u (record { node = n; id = d.old.id })
    by_seats under [] none =
        first_participant hosts u n x b d.old s.distinct s.reached s.found s.up d.found
        (first_true (accepts d.old.phase) _ (first_true (accepts d.old.phase && nat_lt (length d.old.seats) MOST_SEATS) _ may)) under none
    by_seats under (y ∷ ys) some = h under (subst HasSome (sym some) tt)
enrolled_order hosts u n x b e now landed s d (takes_completion protocol may is) h =
    subst (λ g. OrderOf (counts u n x b e now landed) n g.transaction) (sym is) (λ under seats. first_on u (counts u n x b e now landed) (grows_counts u n x b e now landed s.found) (record { node = n; id = d.old.id }) (h under seats))
enrolled_order hosts u n x b e now landed s d (has_seat kind q protocol there k who is) h =
    subst (λ g. OrderOf (counts u n x b e now landed) n g.transaction) (sym is) (λ under seats. first_on u (counts u n x b e now landed) (grows_counts u n x b e now landed s.found) (record { node = n; id = d.old.id }) (h under seats))
enrolled_order hosts u n x b e now landed s d (has_completion c protocol there who is) h =
    subst (λ g. OrderOf (counts u n x b e now landed) n g.transaction) (sym is) (λ under seats. first_on u (counts u n x b e now landed) (grows_counts u n x b e now landed s.found) (record { node = n; id = d.old.id }) (h under seats))
enrolled_order hosts u n x b e now landed s d (refuses name is) h =
    subst (λ g. OrderOf (counts u n x b e now landed) n g.transaction) (sym is) (λ under seats. first_on u (counts u n x b e now landed) (grows_counts u n x b e now landed s.found) (record { node = n; id = d.old.id }) (h under seats))

record_on : (u w : World) → Grows u w → (n : ℕ) (r : Record) → RecordOrder u n r → RecordOrder w n r
record_on u w g n (records.Voted id superior seats) h = λ some. first_on u w g (record { node = n; id = id }) (h some)
record_on u w g n other h = tt

voted_order : (w : World) (n : ℕ) (id : Numbers) (superior : Epr) (seats : List Seated) (committed : Bool) → (HasSome seats → RegistersFirst w (record { node = n; id = id }))
    → OrderOf w n (recovered_voted id superior seats committed)
voted_order w n id superior seats true h = λ under some. h (some_map (recovered_seat states.Committing) seats some)
voted_order w n id superior seats false h = λ under some. h (some_map (recovered_seat states.Prepared) seats some)

ordering : (hosts : Hosts) → NodesLaw hosts
ordering hosts = record {
  OfTransaction = OrderOf;
  OfLeaf = λ w n l. Unit {0};
  OfActivity = λ w n a. Unit {0};
  OfRecord = RecordOrder;
  transaction_on = λ u w g n t h under some. first_on u w g (record { node = n; id = t.id }) (h under some);
  leaf_on = λ u w g n l h. h;
  activity_on = λ u w g n a h. h;
  record_on = record_on;
  did = λ u n x b e now landed s d h.
      let w : World = counts u n x b e now landed in
      let k : OrderOf w n d.old = λ under some. first_on u w (grows_counts u n x b e now landed s.found) (record { node = n; id = d.old.id }) (h under some) in (
        left_order w n e d.old d.deed.how d.change.item d.deed.same (deeds_move_seats.seats e d.old _ d.change d.deed) k,
        subst (IfThere (RecordOrder w n)) (sym d.deed.records) (recorded_order w n e d.deed.how d.old d.deed.at d.deed.stood d.deed.counted k),
      );
  leaf_does = λ u n x b e now landed s d h. (any_unit d.change.item, leaf_records (counts u n x b e now landed) n (moment_of b now) e d.old _ d.change d.deed);
  activity_does = λ u n x b e now landed s d h. any_unit d.change.item;
  enrolls = λ u n x b e now landed s d h. enrolled_order hosts u n x b e now landed s d d.enrolls h;
  makes = λ u n x b e now landed s d under some. absurd (subst HasSome (made_fresh b e now _ _ d).seats some);
  makes_leaf = λ u n x b e now landed s d. tt;
  makes_activity = λ u n x b e now landed s d. tt;
  starts = λ w n i. tt;
  commits = λ w n id superior seats h. tt;
  voted = λ w n id superior seats committed h. voted_order w n id superior seats committed h;
  decided = λ w n base id seats h under some. absurd (rooted under);
  prepared = λ w n id coordinator key value h. tt;
}
  where
    rooted : true ≡ false → ⊥
    rooted e = cc

    any_unit : {A : Type 0} (o : Option A) → IfThere (λ a. Unit {0}) o
    any_unit None = tt
    any_unit (Some a) = tt

    of_kind : (w : World) (n : ℕ) (kind : Kind) (r : Record) (entry : Option Record) → entry ≡ for_durable kind r → RecordOrder w n r → IfThere (RecordOrder w n) entry
    of_kind w n kinds.Durable r entry e h = subst (IfThere (RecordOrder w n)) (sym e) h
    of_kind w n kinds.Volatile r entry e h = subst (IfThere (RecordOrder w n)) (sym e) tt

    none : (w : World) (n : ℕ) (entry : Option Record) → entry ≡ None → IfThere (RecordOrder w n) entry
    none w n entry e = subst (IfThere (RecordOrder w n)) (sym e) tt

    leaf_records : (w : World) (n : ℕ) (m : Moment) (e : Event) (l : Leaf) (entry : Option Record) (c : Change Leaf) → LeafDeed m e l entry c → IfThere (RecordOrder w n) entry
    leaf_records w n m e l entry c (idles left why unrecorded item effects) = none w n entry unrecorded
    leaf_records w n m e l entry c (aborts state why unrecorded item effects) = none w n entry unrecorded
    leaf_records w n m e l entry c (prepares to came state vote knows is item effects sent) = of_kind w n l.kind _ entry is tt
    leaf_records w n m e l entry c (leaves to came state vote knows unrecorded item effects sent) = none w n entry unrecorded
    leaf_records w n m e l entry c (dropped came kind unrecorded item effects sent) = none w n entry unrecorded
    leaf_records w n m e l entry c (commits to came state knows is item effects sent) = of_kind w n l.kind _ entry is tt
    leaf_records w n m e l entry c (rolls_back to came state knows is item effects sent) = of_kind w n l.kind _ entry is tt

pub register_first : (hosts : Hosts) (w : World) → HaveOwnAddresses hosts → Reached hosts w → (n : ℕ) (x : Node) (b : Book) (t : Transaction) → nth n w.nodes ≡ Some x → x.book ≡ Some b
    → IsIn t b.transactions → OrderOf w n t
unfolding ordering
register_first hosts w distinct reached n x b t found up i = one_of (OrderOf w n) b.transactions t (books_have hosts distinct (ordering hosts) w reached n x b found up).transactions i

-- the first of two places
first_place : {A : Type 0} (P : A → Type 0) (f g : List A) (r s : A) (b d : List A) → f ++ r ∷ b ≡ g ++ s ∷ d → AllByRecursion (λ a. P a → ⊥) f → (P r → ⊥) → P s → length f < length g
first_place P [] [] r s b d e all not_r h = let same : r ≡ s = cc in absurd (not_r (subst P (sym same) h))
first_place P [] (y ∷ g) r s b d e all not_r h = omega arith
first_place P (x ∷ f) [] r s b d e (not_x, all) not_r h = let same : x ≡ s = cc in absurd (not_x (subst P (sym same) h))
first_place P (x ∷ f) (y ∷ g) r s b d e (not_x, all) not_r h =
    let rest : f ++ r ∷ b ≡ g ++ s ∷ d = cc in
    let less : length f < length g = first_place P f g r s b d rest all not_r h in
    omega (arith, less)

in_middle : {A : Type 0} (front : List A) (x : A) (back : List A) → IsIn x (front ++ x ∷ back)
in_middle [] x back = inl refl
in_middle (y ∷ front) x back = inr (in_middle front x back)

later_place : (hosts : Hosts) (es : List WorldEvent) (t x : Who) (s : Seat) (first : RegistersFirst (run_of hosts es) t) (second : RegistersFirst (run_of hosts es) x) → HaveOwnAddresses hosts
    → IsAccepted (run_of hosts es) t (Some s) x → length first.front < length second.front
later_place hosts es t x s first second distinct there =
    let r : Accepted = second.registration in
    let in_all : IsIn r (run_of hosts es).accepted = subst (IsIn r) (sym second.stands) (in_middle second.front r second.back) in
    let same : r ≡ record { transaction = r.transaction; seat = r.seat; participant = Some x } = λ i. record { transaction = r.transaction; seat = r.seat; participant = second.own i } in
    let own : IsAccepted (run_of hosts es) r.transaction r.seat x = subst (λ a. IsIn a (run_of hosts es).accepted) same in_all in
    let one : r.transaction ≡ t = enlists_under_one hosts es distinct x r.transaction t r.seat (Some s) own there in
    first_place (IsSeatOf t) first.front second.front first.registration r first.back second.back (sym first.stands ∙ second.stands) first.none_before first.none_here (second.seat, second.taken, one)

pub subordinates_register_first : SubordinatesRegisterFirst
subordinates_register_first = record {
  runs = λ hosts es n x b t small found up i under some. register_first hosts (run_of hosts es) small (run_reached hosts es) n x b t found up i under some;
  later = later_place;
}
