-- Each seat and each completion seat of a book, and each seat that a record names, is an accepted registration.
use Rattle.std.specs.Prelude.{ℕ, List, [], ◌∷◌, ◌++◌, Option, Some, None, Bool, true, false, ◌&&◌, if◌then◌else◌, length, map, filter, take, drop, ◌+◌, ◌≡◌, refl}
use Rattle.std.specs.List.{list_any, AllByRecursion}
use Rattle.std.proofs.Common.{inl, inr, sym, subst, ap}
use Rattle.std.proofs.lemmas.List.{map-append, take-append-drop}
use Rattle.at_base.specs.Numbers.{Numbers}
use Rattle.at_base.specs.declared.epr.Epr.{Epr}
use Rattle.at_base.specs.declared.notice.Kind.{Kind}
use Rattle.at_base.specs.declared.notice.Kind.TheVariants as kinds
use Rattle.at_base.specs.declared.record.Seated.{Seated}
use Rattle.at_base.specs.declared.record.Record.{Record}
use Rattle.at_base.specs.declared.record.Record.TheVariants as records
use Rattle.at_base.specs.declared.event.Event.{Event}
use Rattle.at_base.specs.declared.outs.Out.{Out}
use Rattle.at_base.specs.declared.outs.Out.TheVariants as outs
use Rattle.at_tables.specs.declared.cells.State.{State}
use Rattle.at_tables.specs.declared.cells.State.TheVariants as states
use Rattle.at_tables.specs.Names.{is_state}
use Rattle.at_base.specs.Names.{is_kind}
use Rattle.at_model.specs.Book.{Book, Transaction, Enlistment, Completion, transaction_id}
use Rattle.at_model.specs.Seats.{is_prepared_durable, seated, prepared}
use Rattle.at_model.specs.Recovery.{last_incarnation, live, is_sub_committed, recovered_seat, recovered_voted, transactions_of}
use Rattle.at_model.specs.Step.{plan, step, transaction_at}
use Rattle.at_model.specs.World.{Node, Accepted, World, nth, put_nth, opening, with_post, who_of, accepted_seat, accepted_completion, accepted_by, accepted_in, put_book, goes_down, lost_in, started, up_after, run_of, Hosts, HaveOwnAddresses}
use Rattle.model_laws.specs.Agreement.{IsIn}
use Rattle.model_laws.specs.PhaseAnswers.{Accepted as Seating, accepted_as, IsInPhase, AreAnswered, Passed, HasDecided, HasVoted}
use Rattle.model_laws.specs.DrawnIds.{restarted, with_entry}
use Rattle.model_laws.specs.Registrations.{IsEnlisted, HoldsTheEnlisted}
use Rattle.model_laws.specs.ReachedWorlds.{counts, Reached}
use Rattle.model_laws.proofs.EventLaws.{step_gives}
use Rattle.model_laws.proofs.DecisionLaws.{found_id, in_front, IfThere, all_both, all_find, all_join, all_map, all_more}
use Rattle.model_laws.proofs.StepRegistrations.{Gives, Grown, HasInitiator}
use Rattle.model_laws.proofs.Registrations.{WorldGood, IsUp, IsKnown, nodes_of, world_good}
use Rattle.model_laws.proofs.WorldInvariants.{Law, OutFine, holds}
use Rattle.model_laws.proofs.DrawnIds.{all_in_order, all_live}
use Rattle.model_laws.proofs.Addresses.{HaveBases}
use Rattle.model_laws.proofs.Nodes.{each_put, accepted_same, seats_same, completion_same}
use Rattle.model_laws.proofs.ReachedWorlds.{in_phase, run_reached}
use Rattle.model_laws.proofs.NodeLives.{opening_node}
use Rattle.model_laws.proofs.PhaseAnswers.{decides_behind_every_answer}

-- lists
pub in_back : {A : Type 0} (x : A) (xs ys : List A) → IsIn x ys → IsIn x (xs ++ ys)
in_back x [] ys h = h
in_back x (y ∷ xs) ys h = inr (in_back x xs ys h)

all_mapped : {A B : Type 0} (P : B → Type 0) (f : A → B) (xs : List A) → AllByRecursion P (map f xs) → AllByRecursion (λ x. P (f x)) xs
all_mapped P f [] h = tt
all_mapped P f (x ∷ xs) (h, k) = (h, all_mapped P f xs k)

each_is_in : {A : Type 0} (xs : List A) → AllByRecursion (λ x. IsIn x xs) xs
each_is_in [] = tt
each_is_in {A = A} (x ∷ xs) = (inl refl, all_more (λ y. IsIn y xs) (λ y. IsIn y (x ∷ xs)) xs (λ y i. inr i) (each_is_in xs))

-- a seat as it was accepted
abbrev entry : Hosts → ℕ → Numbers → Seating → Accepted
entry hosts n id a = record {
  transaction = record { node = n; id = id };
  seat = Some (record { number = a.number; kind = a.kind });
  participant = who_of (nodes_of hosts) a.participant;
}

abbrev AreEntered : Hosts → World → ℕ → Numbers → List Seating → Type 0
AreEntered hosts w n id seats = AllByRecursion (λ a. IsIn (entry hosts n id a) w.accepted) seats

abbrev IsSeated : Hosts → World → ℕ → Transaction → Type 0
IsSeated hosts w n t =
    AreEntered hosts w n t.id (map accepted_as t.seats) × AllByRecursion (λ acc. IsIn acc w.accepted) (accepted_completion n (nodes_of hosts) t.id None t.completion)

-- a seat as a record names it
abbrev named_as : Seated → Seating
named_as s = record { number = s.number; kind = kinds.Durable; participant = s.endpoint }

abbrev IsNamed : Hosts → World → ℕ → Record → Type 0
IsNamed hosts w n (records.Voted id superior seats) = AreEntered hosts w n id (map named_as seats)
IsNamed hosts w n (records.Decided id seats) = AreEntered hosts w n id (map named_as seats)
IsNamed hosts w n other = Unit {0}

record NodeSeated (hosts : Hosts) (w : World) (n : ℕ) (x : Node) : Type 0 where
  book : IfThere (λ b. AllByRecursion (IsSeated hosts w n) b.transactions) x.book
  journal : AllByRecursion (IsNamed hosts w n) x.journal

abbrev AreSeated : Hosts → World → Type 0
AreSeated hosts w = (n : ℕ) (x : Node) → nth n w.nodes ≡ Some x → NodeSeated hosts w n x

-- more is accepted
entered_on : (hosts : Hosts) (w v : World) (n : ℕ) (id : Numbers) (seats : List Seating) → ((acc : Accepted) → IsIn acc w.accepted → IsIn acc v.accepted)
    → AreEntered hosts w n id seats → AreEntered hosts v n id seats
entered_on hosts w v n id seats f h = all_more (λ a. IsIn (entry hosts n id a) w.accepted) (λ a. IsIn (entry hosts n id a) v.accepted) seats (λ a i. f (entry hosts n id a) i) h

seated_on : (hosts : Hosts) (w v : World) (n : ℕ) → ((acc : Accepted) → IsIn acc w.accepted → IsIn acc v.accepted) → (t : Transaction) → IsSeated hosts w n t → IsSeated hosts v n t
seated_on hosts w v n f t (h, k) = (
  entered_on hosts w v n t.id (map accepted_as t.seats) f h,
  all_more (λ acc. IsIn acc w.accepted) (λ acc. IsIn acc v.accepted) (accepted_completion n (nodes_of hosts) t.id None t.completion) f k,
)

named_on : (hosts : Hosts) (w v : World) (n : ℕ) → ((acc : Accepted) → IsIn acc w.accepted → IsIn acc v.accepted) → (r : Record) → IsNamed hosts w n r → IsNamed hosts v n r
named_on hosts w v n f (records.Voted id superior seats) h = entered_on hosts w v n id (map named_as seats) f h
named_on hosts w v n f (records.Decided id seats) h = entered_on hosts w v n id (map named_as seats) f h
named_on hosts w v n f (records.Start i) h = tt
named_on hosts w v n f (records.LeafPrepared id c key value) h = tt
named_on hosts w v n f (records.LeafCommitted id) h = tt
named_on hosts w v n f (records.LeafAborted id) h = tt
named_on hosts w v n f (records.SubCommitted id) h = tt
named_on hosts w v n f (records.Ended id) h = tt
named_on hosts w v n f (records.Done id) h = tt

node_on : (hosts : Hosts) (w v : World) (n : ℕ) → ((acc : Accepted) → IsIn acc w.accepted → IsIn acc v.accepted) → (x : Node) → NodeSeated hosts w n x → NodeSeated hosts v n x
node_on hosts w v n f x h = record {
  book = book_on x.book h.book;
  journal = all_more (IsNamed hosts w n) (IsNamed hosts v n) x.journal (named_on hosts w v n f) h.journal;
}
  where
    book_on : (o : Option Book) → IfThere (λ b. AllByRecursion (IsSeated hosts w n) b.transactions) o → IfThere (λ b. AllByRecursion (IsSeated hosts v n) b.transactions) o
    book_on None h = tt
    book_on (Some b) h = all_more (IsSeated hosts w n) (IsSeated hosts v n) b.transactions (seated_on hosts w v n f) h

-- a transaction behind a step
completion_stays : (w : World) (n : ℕ) (nodes : List Node) (id : Numbers) (old new : Option Completion) → HasInitiator old new
    → AllByRecursion (λ acc. IsIn acc w.accepted) (accepted_completion n nodes id None old)
    → AllByRecursion (λ acc. IsIn acc w.accepted) (accepted_completion n nodes id old new) → AllByRecursion (λ acc. IsIn acc w.accepted) (accepted_completion n nodes id None new)
completion_stays w n nodes id None new f h k = k
completion_stays w n nodes id (Some c) None f h k = absurd cc
completion_stays w n nodes id (Some c) (Some d) f (h, i) k =
    let same : d.initiator ≡ c.initiator = cc in
    (subst (λ e. IsIn (record { transaction = record { node = n; id = id }; seat = None; participant = who_of nodes e }) w.accepted) (sym same) h, tt)

grown_seated : (hosts : Hosts) (u v : World) (n : ℕ) (b : Book) (t : Transaction) → ((acc : Accepted) → IsIn acc u.accepted → IsIn acc v.accepted)
    → AllByRecursion (IsSeated hosts u n) b.transactions → (o : Option Transaction) → transaction_at b t.id ≡ o → Grown o t
    → AllByRecursion (λ acc. IsIn acc v.accepted) (accepted_by n (nodes_of hosts) o t) → IsSeated hosts v n t
grown_seated hosts u v n b t more h None e (no_seats, no_completion) k = (
  subst (λ (ss : List Enlistment). AreEntered hosts v n t.id (map accepted_as ss)) (sym no_seats) tt,
  subst (λ c. AllByRecursion (λ acc. IsIn acc v.accepted) (accepted_completion n (nodes_of hosts) t.id None c)) (sym no_completion) tt,
)
grown_seated hosts u v n b t more h (Some old) e (seats, initiator) k =
    let same : old.id ≡ t.id = found_id transaction_id t.id b.transactions old e in
    let (entered, completes) = seated_on hosts u v n more old (all_find (IsSeated hosts u n) transaction_id t.id b.transactions old h e) in
    let (new_seats, new_completion) = all_split (λ acc. IsIn acc v.accepted) (map (accepted_seat n (nodes_of hosts) t.id) (drop (length old.seats) t.seats)) _ k in (
      subst (λ (ss : List Enlistment). AreEntered hosts v n t.id (map accepted_as ss)) (take-append-drop (length old.seats) t.seats)
          (subst (AreEntered hosts v n t.id) (sym (map-append accepted_as (take (length old.seats) t.seats) (drop (length old.seats) t.seats)))
          (all_join (λ a. IsIn (entry hosts n t.id a) v.accepted) (map accepted_as (take (length old.seats) t.seats)) (map accepted_as (drop (length old.seats) t.seats))
          (subst (AreEntered hosts v n t.id) (sym seats) (subst (λ id. AreEntered hosts v n id (map accepted_as old.seats)) same entered))
          (all_map (λ a. IsIn (entry hosts n t.id a) v.accepted) accepted_as (drop (length old.seats) t.seats)
          (all_mapped (λ acc. IsIn acc v.accepted) (accepted_seat n (nodes_of hosts) t.id) (drop (length old.seats) t.seats) new_seats)))),
      completion_stays v n (nodes_of hosts) t.id old.completion t.completion initiator
          (subst (λ id. AllByRecursion (λ acc. IsIn acc v.accepted) (accepted_completion n (nodes_of hosts) id None old.completion)) same completes) new_completion,
    )
  where
    all_split : {A : Type 0} (P : A → Type 0) (xs ys : List A) → AllByRecursion P (xs ++ ys) → AllByRecursion P xs × AllByRecursion P ys
    all_split P [] ys h = (tt, h)
    all_split P (x ∷ xs) ys (h, k) = let (i, j) = all_split P xs ys k in ((h, i), j)

each_accepted : (n : ℕ) (nodes : List Node) (b : Book) (ts : List Transaction)
    → AllByRecursion (λ t. AllByRecursion (λ acc. IsIn acc (accepted_in n nodes b ts)) (accepted_by n nodes (transaction_at b t.id) t)) ts
each_accepted n nodes b [] = tt
each_accepted n nodes b (t ∷ ts) = (
  all_more (λ acc. IsIn acc own) (λ acc. IsIn acc (own ++ accepted_in n nodes b ts)) own (λ acc i. in_front acc own (accepted_in n nodes b ts) i) (each_is_in own),
  all_more (λ y. AllByRecursion (λ acc. IsIn acc (accepted_in n nodes b ts)) (accepted_by n nodes (transaction_at b y.id) y))
      (λ y. AllByRecursion (λ acc. IsIn acc (own ++ accepted_in n nodes b ts)) (accepted_by n nodes (transaction_at b y.id) y)) ts
      (λ y h. all_more (λ acc. IsIn acc (accepted_in n nodes b ts)) (λ acc. IsIn acc (own ++ accepted_in n nodes b ts)) (accepted_by n nodes (transaction_at b y.id) y)
      (λ acc i. in_back acc own (accepted_in n nodes b ts) i) h) (each_accepted n nodes b ts),
)
  where
    own : List Accepted
    own = accepted_by n nodes (transaction_at b t.id) t

-- a record names seats that were accepted
durable_kind : (s : Enlistment) → is_prepared_durable s ≡ true → s.kind ≡ kinds.Durable
durable_kind s e = by_kind s.kind (is_state s.state states.Prepared) e
  where
    by_kind : (kind : Kind) (b : Bool) → (is_kind kind kinds.Durable && b) ≡ true → kind ≡ kinds.Durable
    by_kind kinds.Durable b e = refl
    by_kind kinds.Volatile b e = absurd cc

prepared_entered : (hosts : Hosts) (w : World) (n : ℕ) (id : Numbers) (seats : List Enlistment) → AreEntered hosts w n id (map accepted_as seats)
    → AreEntered hosts w n id (map named_as (prepared seats))
prepared_entered hosts w n id [] h = tt
prepared_entered hosts w n id (s ∷ seats) (h, k) = by_test (prepared_entered hosts w n id seats k) (is_prepared_durable s) refl
  where
    by_test : AreEntered hosts w n id (map named_as (prepared seats)) → (b : Bool) → is_prepared_durable s ≡ b
        → AreEntered hosts w n id (map named_as (map seated (if b then s ∷ filter is_prepared_durable seats else filter is_prepared_durable seats)))
    by_test rest true e = (
      subst (λ kind. IsIn (record {
        transaction = record { node = n; id = id };
        seat = Some (record { number = s.number; kind = kind });
        participant = who_of (nodes_of hosts) s.participant;
      }) w.accepted) (durable_kind s e) h,
      rest,
    )
    by_test rest false e = rest

answered_entered : (hosts : Hosts) (w : World) (n : ℕ) (id : Numbers) (b : Book) (old : Transaction) (at : List Enlistment) (named : List Seated) → AllByRecursion (IsSeated hosts w n) b.transactions
    → transaction_at b id ≡ Some old → AreAnswered old.seats at named → AreEntered hosts w n id (map named_as named)
answered_entered hosts w n id b old at named h stood k =
    let (entered, completes) = all_find (IsSeated hosts w n) transaction_id id b.transactions old h stood in
    subst (λ (ss : List Seated). AreEntered hosts w n id (map named_as ss)) (sym k.prepared)
    (prepared_entered hosts w n id at (subst (AreEntered hosts w n id) (sym k.accepted)
    (subst (λ i. AreEntered hosts w n i (map accepted_as old.seats)) (found_id transaction_id id b.transactions old stood) entered)))

record_named : (hosts : Hosts) (w : World) (n : ℕ) (b : Book) (e : Event) (now : ℕ) → IsInPhase b → AllByRecursion (IsSeated hosts w n) b.transactions → (r : Record)
    → (plan b e now).entry ≡ Some r → IsNamed hosts w n r
record_named hosts w n b e now phase h (records.Voted id superior named) f =
    let p : Passed b (plan b e now).landed.book id (λ old new. HasVoted old new named) = decides_behind_every_answer.voted b e now id superior named phase f in
    answered_entered hosts w n id b p.old p.new.seats named h p.stood p.passed.behind
record_named hosts w n b e now phase h (records.Decided id named) f =
    let p : HasDecided b (plan b e now).landed.book id named = decides_behind_every_answer.decided b e now id named phase f in
    answered_entered hosts w n id b p.old p.at named h p.stood p.behind
record_named hosts w n b e now phase h (records.Start i) f = tt
record_named hosts w n b e now phase h (records.LeafPrepared id c key value) f = tt
record_named hosts w n b e now phase h (records.LeafCommitted id) f = tt
record_named hosts w n b e now phase h (records.LeafAborted id) f = tt
record_named hosts w n b e now phase h (records.SubCommitted id) f = tt
record_named hosts w n b e now phase h (records.Ended id) f = tt
record_named hosts w n b e now phase h (records.Done id) f = tt

-- a step
steps_seated : (hosts : Hosts) (u : World) (n : ℕ) (x : Node) (b : Book) (e : Event) (now : ℕ) (landed : Bool) → HaveOwnAddresses hosts → Reached hosts u → nth n u.nodes ≡ Some x → x.book ≡ Some b
    → AreSeated hosts u → AreSeated hosts (counts u n x b e now landed)
steps_seated hosts u n x b e now landed distinct reached found up h =
    each_put (λ k z. NodeSeated hosts v k z) u.nodes n x y found
    (record {
      book = all_both (λ t. Grown (transaction_at b t.id) t) (λ t. AllByRecursion (λ acc. IsIn acc v.accepted) (accepted_by n (nodes_of hosts) (transaction_at b t.id) t)) (IsSeated hosts v n) new
          (λ t grown entered. grown_seated hosts u v n b t more here (transaction_at b t.id) refl grown entered) gives.grown
          (all_more (λ t. AllByRecursion (λ acc. IsIn acc (accepted_in n (nodes_of hosts) b new)) (accepted_by n (nodes_of hosts) (transaction_at b t.id) t))
          (λ t. AllByRecursion (λ acc. IsIn acc v.accepted) (accepted_by n (nodes_of hosts) (transaction_at b t.id) t)) new
          (λ t k. all_more (λ acc. IsIn acc (accepted_in n (nodes_of hosts) b new)) (λ acc. IsIn acc v.accepted) (accepted_by n (nodes_of hosts) (transaction_at b t.id) t)
          (λ acc i. in_back acc u.accepted (accepted_in n u.nodes b new) (subst (IsIn acc) (sym (accepted_same n u.nodes (nodes_of hosts) b new good.world.bases)) i)) k)
          (each_accepted n (nodes_of hosts) b new));
      journal = by_entry (plan b e now).entry landed refl;
    }) (λ k z i r. node_on hosts u v k more z (h k z r))
  where
    v : World
    v = counts u n x b e now landed

    new : List Transaction
    new = (step b e now landed).book.transactions

    y : Node
    y = record x { book = Some (step b e now landed).book; journal = with_entry (plan b e now).entry landed x.journal }

    good : WorldGood hosts u
    good = world_good hosts u distinct reached

    known : IsUp (hosts.base_of n) (good.choices n) x.journal b
    known = subst (IsKnown (hosts.base_of n) (good.choices n) x.journal) up (good.nodes n x found)

    gives : Gives (hosts.base_of n) e (good.choices n) b (step b e now landed)
    gives = step_gives (hosts.base_of n) (good.choices n) b e now landed known.says

    more : (acc : Accepted) → IsIn acc u.accepted → IsIn acc v.accepted
    more acc i = in_front acc u.accepted (accepted_in n u.nodes b new) i

    here : AllByRecursion (IsSeated hosts u n) b.transactions
    here = subst (IfThere (λ c. AllByRecursion (IsSeated hosts u n) c.transactions)) up (h n x found).book

    phase : IsInPhase b
    phase = subst (IfThere IsInPhase) up (in_phase hosts u reached n x found)

    by_entry : (entry : Option Record) (l : Bool) → (plan b e now).entry ≡ entry → AllByRecursion (IsNamed hosts v n) (with_entry entry l x.journal)
    by_entry None l f = all_more (IsNamed hosts u n) (IsNamed hosts v n) x.journal (named_on hosts u v n more) (h n x found).journal
    by_entry (Some r) false f = all_more (IsNamed hosts u n) (IsNamed hosts v n) x.journal (named_on hosts u v n more) (h n x found).journal
    by_entry (Some r) true f =
        all_join (IsNamed hosts v n) x.journal (r ∷ []) (all_more (IsNamed hosts u n) (IsNamed hosts v n) x.journal (named_on hosts u v n more) (h n x found).journal)
        (named_on hosts u v n more r (record_named hosts u n b e now phase here r f), tt)

-- what is recovered was accepted
recovered_entered : (hosts : Hosts) (w : World) (n : ℕ) (id : Numbers) (state : State) (seats : List Seated) → AreEntered hosts w n id (map named_as seats)
    → AreEntered hosts w n id (map accepted_as (map (recovered_seat state) seats))
recovered_entered hosts w n id state [] h = tt
recovered_entered hosts w n id state (s ∷ seats) (h, k) = (h, recovered_entered hosts w n id state seats k)

voted_seated : (hosts : Hosts) (w : World) (n : ℕ) (id : Numbers) (superior : Epr) (seats : List Seated) (committed : Bool) → AreEntered hosts w n id (map named_as seats)
    → IsSeated hosts w n (recovered_voted id superior seats committed)
voted_seated hosts w n id superior seats true h = (recovered_entered hosts w n id states.Committing seats h, tt)
voted_seated hosts w n id superior seats false h = (recovered_entered hosts w n id states.Prepared seats h, tt)

transactions_seated : (hosts : Hosts) (w : World) (n : ℕ) (base : List ℕ) (rs : List Record) → AllByRecursion (IsNamed hosts w n) rs → AllByRecursion (IsSeated hosts w n) (transactions_of base rs)
transactions_seated hosts w n base [] h = tt
transactions_seated hosts w n base (records.Voted id superior seats ∷ rest) (h, k) =
    (voted_seated hosts w n id superior seats (list_any (is_sub_committed id) rest) h, transactions_seated hosts w n base rest k)
transactions_seated hosts w n base (records.Decided id seats ∷ rest) (h, k) =
    ((recovered_entered hosts w n id states.Committing seats h, tt), transactions_seated hosts w n base rest k)
transactions_seated hosts w n base (records.Start i ∷ rest) (h, k) = transactions_seated hosts w n base rest k
transactions_seated hosts w n base (records.LeafPrepared id c key value ∷ rest) (h, k) = transactions_seated hosts w n base rest k
transactions_seated hosts w n base (records.LeafCommitted id ∷ rest) (h, k) = transactions_seated hosts w n base rest k
transactions_seated hosts w n base (records.LeafAborted id ∷ rest) (h, k) = transactions_seated hosts w n base rest k
transactions_seated hosts w n base (records.SubCommitted id ∷ rest) (h, k) = transactions_seated hosts w n base rest k
transactions_seated hosts w n base (records.Ended id ∷ rest) (h, k) = transactions_seated hosts w n base rest k
transactions_seated hosts w n base (records.Done id ∷ rest) (h, k) = transactions_seated hosts w n base rest k

risen_seated : (hosts : Hosts) (w : World) (n : ℕ) (x : Node) (stop : Bool) → AllByRecursion (IsNamed hosts w n) x.journal
    → NodeSeated hosts w n (up_after (started (last_incarnation x.journal + 1) x) stop)
risen_seated hosts w n x stop h = record { book = by_stop stop; journal = journal }
  where
    journal : AllByRecursion (IsNamed hosts w n) (restarted x.journal)
    journal = all_join (IsNamed hosts w n) x.journal (records.Start (last_incarnation x.journal + 1) ∷ []) h (tt, tt)

    by_stop : (s : Bool) → IfThere (λ b. AllByRecursion (IsSeated hosts w n) b.transactions) (up_after (started (last_incarnation x.journal + 1) x) s).book
    by_stop true = tt
    by_stop false =
        all_in_order (IsSeated hosts w n) transaction_id (transactions_of x.base (live (restarted x.journal)))
        (transactions_seated hosts w n x.base (live (restarted x.journal)) (all_live (IsNamed hosts w n) (restarted x.journal) (λ id superior seats i. tt) journal))

-- the law of every world that is reached
falls_seated : (hosts : Hosts) (u : World) (n : ℕ) (x : Node) (b : Book) → nth n u.nodes ≡ Some x → AreSeated hosts u → AreSeated hosts (goes_down n b u)
falls_seated hosts u n x b found h =
    subst (AreSeated hosts) (sym (ap (put_book n None (record u { happened = u.happened ++ lost_in n b })) found))
    (each_put (λ k z. NodeSeated hosts down k z) u.nodes n x (record x { book = None }) found
    (record { book = tt; journal = (node_on hosts u down n (λ acc i. i) x (h n x found)).journal }) (λ k z i r. node_on hosts u down k (λ acc j. j) z (h k z r)))
  where
    down : World
    down = record u { nodes = put_nth n (record x { book = None }) u.nodes; happened = u.happened ++ lost_in n b }

seated_law : (hosts : Hosts) → HaveOwnAddresses hosts → Law hosts
seated_law hosts distinct = record {
  Good = AreSeated hosts;
  Fine = λ w g n p. Unit {0};
  opens = λ n x found. subst (NodeSeated hosts (opening hosts) n) (sym (opening_node hosts n x found)) (record { book = tt; journal = tt });
  steps = λ u n x b e now landed reached found up heard h. (steps_seated hosts u n x b e now landed distinct reached found up h, nothing_asked (step b e now landed).outs);
  posts = λ w h n p f m y r. node_on hosts w (with_post n p w) m (λ acc i. i) y (h m y r);
  still_fine = λ w g n p q f k. tt;
  falls = λ u n x b reached found up h. falls_seated hosts u n x b found h;
  rises = λ u n x stop reached found down little h.
      let v : World = record u { nodes = put_nth n (up_after (started (last_incarnation x.journal + 1) x) stop) u.nodes } in
      each_put (λ k z. NodeSeated hosts v k z) u.nodes n x (up_after (started (last_incarnation x.journal + 1) x) stop) found
      (risen_seated hosts v n x stop (node_on hosts u v n (λ acc i. i) x (h n x found)).journal) (λ k z i r. node_on hosts u v k (λ acc j. j) z (h k z r));
  waits = λ u n x clock reached found h.
      let v : World = record u { nodes = put_nth n (record x { clock = clock }) u.nodes } in
      each_put (λ k z. NodeSeated hosts v k z) u.nodes n x (record x { clock = clock }) found (by_clock v n clock (node_on hosts u v n (λ acc i. i) x (h n x found)))
      (λ k z i r. node_on hosts u v k (λ acc j. j) z (h k z r));
}
  where
    nothing_asked : (os : List Out) → AllByRecursion (OutFine (λ p. Unit {0})) os
    nothing_asked [] = tt
    nothing_asked (outs.Post p ∷ os) = (tt, nothing_asked os)
    nothing_asked (outs.Answer status reply ∷ os) = (tt, nothing_asked os)

    by_clock : {x : Node} → (v : World) (n clock : ℕ) → NodeSeated hosts v n x → NodeSeated hosts v n (record x { clock = clock })
    by_clock v n clock h = record { book = h.book; journal = h.journal }

world_seated : (hosts : Hosts) (w : World) → HaveOwnAddresses hosts → Reached hosts w → AreSeated hosts w
unfolding seated_law
world_seated hosts w distinct reached = holds hosts (seated_law hosts distinct) w reached

pub holds_the_enlisted : HoldsTheEnlisted
holds_the_enlisted hosts es small n x b found up =
    all_more (IsSeated hosts w n) (IsEnlisted w n) b.transactions enlisted
    (subst (IfThere (λ c. AllByRecursion (IsSeated hosts w n) c.transactions)) up (world_seated hosts w small (run_reached hosts es) n x found).book)
  where
    w : World
    w = run_of hosts es

    bases : HaveBases w.nodes (nodes_of hosts)
    bases = (world_good hosts w small (run_reached hosts es)).world.bases

    enlisted : (t : Transaction) → IsSeated hosts w n t → IsEnlisted w n t
    enlisted t (h, k) = (
      all_mapped (λ acc. IsIn acc w.accepted) (accepted_seat n w.nodes t.id) t.seats
          (subst (AllByRecursion (λ acc. IsIn acc w.accepted)) (sym (seats_same n w.nodes (nodes_of hosts) t.id t.seats bases))
          (all_map (λ acc. IsIn acc w.accepted) (accepted_seat n (nodes_of hosts) t.id) t.seats (all_mapped (λ a. IsIn (entry hosts n t.id a) w.accepted) accepted_as t.seats h))),
      subst (AllByRecursion (λ acc. IsIn acc w.accepted)) (sym (completion_same n w.nodes (nodes_of hosts) t.id None t.completion bases)) k,
    )
