-- What a record names, and what recovery makes of it, was accepted.
use Rattle.std.specs.Prelude.{ℕ, List, [], ◌∷◌, Option, Some, None, Bool, true, false, ◌&&◌, if◌then◌else◌, map, filter, ◌+◌, ◌≡◌, refl}
use Rattle.std.specs.List.{list_any, AllByRecursion}
use Rattle.std.proofs.Common.{sym, subst}
use Rattle.at_base.specs.Numbers.{Numbers}
use Rattle.at_base.specs.declared.epr.Epr.{Epr}
use Rattle.at_base.specs.declared.notice.Kind.{Kind}
use Rattle.at_base.specs.declared.notice.Kind.TheVariants as kinds
use Rattle.at_base.specs.declared.record.Seated.{Seated}
use Rattle.at_base.specs.declared.record.Record.{Record}
use Rattle.at_base.specs.declared.record.Record.TheVariants as records
use Rattle.at_base.specs.declared.event.Event.{Event}
use Rattle.at_tables.specs.declared.cells.State.{State}
use Rattle.at_tables.specs.declared.cells.State.TheVariants as states
use Rattle.at_tables.specs.Names.{is_state}
use Rattle.at_base.specs.Names.{is_kind}
use Rattle.at_model.specs.Book.{Book, Enlistment, Transaction, transaction_id}
use Rattle.at_model.specs.Due.{may_expire}
use Rattle.at_model.specs.Recovery.{is_sub_committed, last_incarnation, live, recover, recovered_seat, recovered_voted, transactions_of}
use Rattle.at_model.specs.Seats.{is_prepared_durable, prepared, seated}
use Rattle.at_model.specs.Step.{plan, transaction_at}
use Rattle.at_model.specs.World.{Accepted, who_of, Hosts}
use Rattle.model_laws.specs.Agreement.{IsIn}
use Rattle.model_laws.specs.PhaseAnswers.{Accepted as Seating, AreAnswered, HasDecided, HasVoted, IsInPhase, Passed, accepted_as}
use Rattle.model_laws.specs.DrawnIds.{restarted, with_entry}
use Rattle.model_laws.proofs.DecisionLaws.{all_find, all_join, all_more, found_id}
use Rattle.model_laws.proofs.Registrations.{nodes_of}
use Rattle.model_laws.proofs.DrawnIds.{all_in_order, all_live}
use Rattle.model_laws.proofs.PhaseAnswers.{decides_behind_every_answer}
use Rattle.agreement.proofs.SeatedEntries.{entry}

abbrev pub AreEntered : Hosts → List Accepted → ℕ → Numbers → List Seating → Type 0
AreEntered hosts all n id seats = AllByRecursion (λ a. IsIn (entry hosts n id a) all) seats

abbrev pub IsEntered : Hosts → List Accepted → ℕ → Transaction → Type 0
IsEntered hosts all n t = AreEntered hosts all n t.id (map accepted_as t.seats)

-- a seat as a record names it
abbrev pub named_as : Seated → Seating
named_as s = record { number = s.number; kind = kinds.Durable; participant = s.endpoint }

abbrev pub IsNamed : Hosts → List Accepted → ℕ → Record → Type 0
IsNamed hosts all n (records.Voted id superior seats) = AreEntered hosts all n id (map named_as seats)
IsNamed hosts all n (records.Decided id seats) = AreEntered hosts all n id (map named_as seats)
IsNamed hosts all n other = Unit {0}

-- more is accepted
pub entered_on : (hosts : Hosts) (old all : List Accepted) (n : ℕ) (id : Numbers) (seats : List Seating) → ((a : Accepted) → IsIn a old → IsIn a all) → AreEntered hosts old n id seats
    → AreEntered hosts all n id seats
entered_on hosts old all n id seats f h = all_more (λ a. IsIn (entry hosts n id a) old) (λ a. IsIn (entry hosts n id a) all) seats (λ a i. f (entry hosts n id a) i) h

named_on : (hosts : Hosts) (old all : List Accepted) (n : ℕ) → ((a : Accepted) → IsIn a old → IsIn a all) → (r : Record) → IsNamed hosts old n r → IsNamed hosts all n r
named_on hosts old all n f (records.Voted id superior seats) h = entered_on hosts old all n id (map named_as seats) f h
named_on hosts old all n f (records.Decided id seats) h = entered_on hosts old all n id (map named_as seats) f h
named_on hosts old all n f (records.Start i) h = tt
named_on hosts old all n f (records.LeafPrepared id c key value) h = tt
named_on hosts old all n f (records.LeafCommitted id) h = tt
named_on hosts old all n f (records.LeafAborted id) h = tt
named_on hosts old all n f (records.SubCommitted id) h = tt
named_on hosts old all n f (records.Ended id) h = tt
named_on hosts old all n f (records.Done id) h = tt

pub all_named_on : (hosts : Hosts) (old all : List Accepted) (n : ℕ) (rs : List Record) → ((a : Accepted) → IsIn a old → IsIn a all) → AllByRecursion (IsNamed hosts old n) rs
    → AllByRecursion (IsNamed hosts all n) rs
all_named_on hosts old all n rs f h = all_more (IsNamed hosts old n) (IsNamed hosts all n) rs (named_on hosts old all n f) h

-- a record of a step
durable_kind : (s : Enlistment) → is_prepared_durable s ≡ true → s.kind ≡ kinds.Durable
durable_kind s e = by_kind s.kind (is_state s.state states.Prepared) e
  where
    by_kind : (kind : Kind) (b : Bool) → (is_kind kind kinds.Durable && b) ≡ true → kind ≡ kinds.Durable
    by_kind kinds.Durable b e = refl
    by_kind kinds.Volatile b e = absurd cc

prepared_entered : (hosts : Hosts) (all : List Accepted) (n : ℕ) (id : Numbers) (seats : List Enlistment) → AreEntered hosts all n id (map accepted_as seats)
    → AreEntered hosts all n id (map named_as (prepared seats))
prepared_entered hosts all n id [] h = tt
prepared_entered hosts all n id (s ∷ seats) (h, k) = by_test (prepared_entered hosts all n id seats k) (is_prepared_durable s) refl
  where
    by_test : AreEntered hosts all n id (map named_as (prepared seats)) → (b : Bool) → is_prepared_durable s ≡ b
        → AreEntered hosts all n id (map named_as (map seated (if b then s ∷ filter is_prepared_durable seats else filter is_prepared_durable seats)))
    by_test rest true e = (
      subst (λ kind. IsIn (record {
        transaction = record { node = n; id = id };
        seat = Some (record { number = s.number; kind = kind });
        participant = who_of (nodes_of hosts) s.participant;
      }) all) (durable_kind s e) h,
      rest,
    )
    by_test rest false e = rest

answered_entered : (hosts : Hosts) (all : List Accepted) (n : ℕ) (id : Numbers) (b : Book) (old : Transaction) (at : List Enlistment) (named : List Seated)
    → AllByRecursion (IsEntered hosts all n) b.transactions → transaction_at b id ≡ Some old → AreAnswered old.seats at named → AreEntered hosts all n id (map named_as named)
answered_entered hosts all n id b old at named h stood k =
    subst (λ (ss : List Seated). AreEntered hosts all n id (map named_as ss)) (sym k.prepared)
    (prepared_entered hosts all n id at (subst (AreEntered hosts all n id) (sym k.accepted)
    (subst (λ i. AreEntered hosts all n i (map accepted_as old.seats)) (found_id transaction_id id b.transactions old stood)
    (all_find (IsEntered hosts all n) transaction_id id b.transactions old h stood))))

record_named : (hosts : Hosts) (all : List Accepted) (n : ℕ) (b : Book) (e : Event) (now : ℕ) → IsInPhase b → AllByRecursion (IsEntered hosts all n) b.transactions → (r : Record)
    → (plan b e now).entry ≡ Some r → IsNamed hosts all n r
record_named hosts all n b e now phase h (records.Voted id superior named) f =
    let p : Passed b (plan b e now).landed.book id (λ old new. HasVoted old new named) = decides_behind_every_answer.voted b e now id superior named phase f in
    answered_entered hosts all n id b p.old p.new.seats named h p.stood p.passed.behind
record_named hosts all n b e now phase h (records.Decided id named) f =
    let p : HasDecided b (plan b e now).landed.book id named = decides_behind_every_answer.decided b e now id named phase f in
    answered_entered hosts all n id b p.old p.at named h p.stood p.behind
record_named hosts all n b e now phase h (records.Start i) f = tt
record_named hosts all n b e now phase h (records.LeafPrepared id c key value) f = tt
record_named hosts all n b e now phase h (records.LeafCommitted id) f = tt
record_named hosts all n b e now phase h (records.LeafAborted id) f = tt
record_named hosts all n b e now phase h (records.SubCommitted id) f = tt
record_named hosts all n b e now phase h (records.Ended id) f = tt
record_named hosts all n b e now phase h (records.Done id) f = tt

pub journal_named : (hosts : Hosts) (all : List Accepted) (n : ℕ) (b : Book) (e : Event) (now : ℕ) (landed : Bool) (rs : List Record) → IsInPhase b
    → AllByRecursion (IsEntered hosts all n) b.transactions → AllByRecursion (IsNamed hosts all n) rs → AllByRecursion (IsNamed hosts all n) (with_entry (plan b e now).entry landed rs)
journal_named hosts all n b e now landed rs phase h k = by_entry (plan b e now).entry landed refl
  where
    by_entry : (entry : Option Record) (l : Bool) → (plan b e now).entry ≡ entry → AllByRecursion (IsNamed hosts all n) (with_entry entry l rs)
    by_entry None l f = k
    by_entry (Some r) false f = k
    by_entry (Some r) true f = all_join (IsNamed hosts all n) rs (r ∷ []) k (record_named hosts all n b e now phase h r f, tt)

-- recovery: seats of records, nothing undecided, and no initiator
abbrev pub IsRecovered : Hosts → List Accepted → ℕ → Transaction → Type 0
IsRecovered hosts all n t = IsEntered hosts all n t × ((may_expire t.phase ≡ false) × (t.completion ≡ None))

recovered_entered : (hosts : Hosts) (all : List Accepted) (n : ℕ) (id : Numbers) (state : State) (seats : List Seated) → AreEntered hosts all n id (map named_as seats)
    → AreEntered hosts all n id (map accepted_as (map (recovered_seat state) seats))
recovered_entered hosts all n id state [] h = tt
recovered_entered hosts all n id state (s ∷ seats) (h, k) = (h, recovered_entered hosts all n id state seats k)

voted_recovered : (hosts : Hosts) (all : List Accepted) (n : ℕ) (id : Numbers) (superior : Epr) (seats : List Seated) (committed : Bool) → AreEntered hosts all n id (map named_as seats)
    → IsRecovered hosts all n (recovered_voted id superior seats committed)
voted_recovered hosts all n id superior seats true h = (recovered_entered hosts all n id states.Committing seats h, (refl, refl))
voted_recovered hosts all n id superior seats false h = (recovered_entered hosts all n id states.Prepared seats h, (refl, refl))

transactions_recovered : (hosts : Hosts) (all : List Accepted) (n : ℕ) (base : List ℕ) (rs : List Record) → AllByRecursion (IsNamed hosts all n) rs
    → AllByRecursion (IsRecovered hosts all n) (transactions_of base rs)
transactions_recovered hosts all n base [] h = tt
transactions_recovered hosts all n base (records.Voted id superior seats ∷ rest) (h, k) =
    (voted_recovered hosts all n id superior seats (list_any (is_sub_committed id) rest) h, transactions_recovered hosts all n base rest k)
transactions_recovered hosts all n base (records.Decided id seats ∷ rest) (h, k) =
    ((recovered_entered hosts all n id states.Committing seats h, (refl, refl)), transactions_recovered hosts all n base rest k)
transactions_recovered hosts all n base (records.Start i ∷ rest) (h, k) = transactions_recovered hosts all n base rest k
transactions_recovered hosts all n base (records.LeafPrepared id c key value ∷ rest) (h, k) = transactions_recovered hosts all n base rest k
transactions_recovered hosts all n base (records.LeafCommitted id ∷ rest) (h, k) = transactions_recovered hosts all n base rest k
transactions_recovered hosts all n base (records.LeafAborted id ∷ rest) (h, k) = transactions_recovered hosts all n base rest k
transactions_recovered hosts all n base (records.SubCommitted id ∷ rest) (h, k) = transactions_recovered hosts all n base rest k
transactions_recovered hosts all n base (records.Ended id ∷ rest) (h, k) = transactions_recovered hosts all n base rest k
transactions_recovered hosts all n base (records.Done id ∷ rest) (h, k) = transactions_recovered hosts all n base rest k

pub restart_named : (hosts : Hosts) (all : List Accepted) (n : ℕ) (rs : List Record) → AllByRecursion (IsNamed hosts all n) rs → AllByRecursion (IsNamed hosts all n) (restarted rs)
restart_named hosts all n rs h = all_join (IsNamed hosts all n) rs (records.Start (last_incarnation rs + 1) ∷ []) h (tt, tt)

pub book_recovered : (hosts : Hosts) (all : List Accepted) (n : ℕ) (base : List ℕ) (rs : List Record) → AllByRecursion (IsNamed hosts all n) rs
    → AllByRecursion (IsRecovered hosts all n) (recover base rs).transactions
book_recovered hosts all n base rs h =
    all_in_order (IsRecovered hosts all n) transaction_id (transactions_of base (live rs))
    (transactions_recovered hosts all n base (live rs) (all_live (IsNamed hosts all n) rs (λ id superior seats i. tt) h))
