-- Behind each step each vote and each decision stands behind every answer.
use Rattle.std.specs.Prelude.{ℕ, List, [], ◌∷◌, ◌++◌, Option, Some, None, Bool, true, false, if◌then◌else◌, ◌&&◌, filter, map, option_map, ◌≡◌, ◌⊎◌, refl}
use Rattle.std.specs.List.{AllByRecursion}
use Rattle.std.proofs.Common.{inl, inr, sym, subst, ◌∙◌}
use Rattle.std.proofs.lemmas.List.{append-nil}
use Rattle.at_base.specs.Numbers.{Numbers}
use Rattle.at_base.specs.declared.epr.Epr.{Epr}
use Rattle.at_base.specs.declared.notice.Kind.{Kind}
use Rattle.at_base.specs.declared.notice.Kind.TheVariants as kinds
use Rattle.at_base.specs.declared.notice.Notice.TheVariants as notices
use Rattle.at_base.specs.declared.event.Event.{Event}
use Rattle.at_base.specs.declared.record.Record.{Record}
use Rattle.at_base.specs.declared.record.Record.TheVariants as records
use Rattle.at_tables.specs.declared.cells.State.TheVariants as states
use Rattle.at_tables.specs.Names.{is_state}
use Rattle.at_base.specs.Names.{is_kind}
use Rattle.at_model.specs.Book.{Book, Enlistment, Transaction}
use Rattle.at_model.specs.Due.{may_expire}
use Rattle.at_model.specs.Recovery.{is_promise}
use Rattle.at_model.specs.Seats.{is_prepared_durable, prepared, seated}
use Rattle.at_model.specs.Step.{leaf_at, plan, step, transaction_at}
use Rattle.at_model.specs.World.{Node, Who, World, nth, Hosts}
use Rattle.model_laws.specs.Agreement.{HasPosted, IsIn}
use Rattle.model_laws.specs.DrawnIds.{with_entry}
use Rattle.model_laws.specs.Growth.{Grows}
use Rattle.model_laws.specs.ReachedWorlds.{counts}
use Rattle.model_laws.proofs.DecisionLaws.{all_join, all_more, first_true, in_front, same_kind, second_true}
use Rattle.model_laws.proofs.Registrations.{nodes_of}
use Rattle.model_laws.proofs.Growth.{grows_counts}
use Rattle.model_laws.proofs.Nodes.{each_put}
use Rattle.model_laws.proofs.NodeLives.{put_this}
use Rattle.model_laws.proofs.SeatRegistrations.{in_back}
use Rattle.agreement.specs.Branches.{recorded as written}
use Rattle.agreement.specs.Deeds.{AllAnswered, AreCounted, How, IsAbort, StandsOn, StoodFor, happens, recorded, superior_at}
use Rattle.agreement.specs.StepDeeds.{Done, IsOfNoTransaction, did, elsewhere, made, registered, standing, undone}
use Rattle.agreement.specs.Lives.{book_of, happened_on}
use Rattle.agreement.specs.SeatRegistrations.{accepted_named}
use Rattle.agreement.proofs.TransactionRules.{only_prepared}
use Rattle.agreement.proofs.SeatedEntries.{all_of, one_of}
use Rattle.agreement.proofs.StepDeeds.{steps_do}
use Rattle.votes.specs.NamedParticipants.{HasSeat, IsBehindVotes, RecordAnswers, RecordsAnswer, registration}
use Rattle.votes.specs.VotesAndOutcomes.{IsOutcome}
use Rattle.votes.specs.SeatStates.{SeatSays, SeatTells, who_named}
use Rattle.votes.proofs.ItemEnds.{IsOpen, is_open, life_of, not_aborted_open, not_committed_open, passes}
use Rattle.votes.proofs.Growth.{AcceptsNoMore, record_on}
use Rattle.votes.proofs.StepItems.{mapped_in}
use Rattle.votes.proofs.Registrations.{JoinsOpen, behind, seat_joins}
use Rattle.votes.proofs.Premises.{StepKeeps, StepPremises}
use Rattle.votes.proofs.SeatsAt.{SeatOf, at_entries, durable_says, has_answered, has_entry, open_there, seat_of, seats_at, volatile_says}

-- who is named has voted Prepared
is_prepared : (u : World) (w y : Who) (s : Enlistment) → is_prepared_durable s ≡ true → SeatSays u w y s.kind s.state → HasPosted u y kinds.Durable notices.Prepared
is_prepared u w y s e h =
    subst (λ k. HasPosted u y k notices.Prepared) (same_kind s.kind kinds.Durable (first_true (is_kind s.kind kinds.Durable) (is_state s.state states.Prepared) e))
    (subst (SeatSays u w y s.kind) (only_prepared s.state (second_true (is_kind s.kind kinds.Durable) (is_state s.state states.Prepared) e)) h)

prepared_named : (hosts : Hosts) (u : World) (w : Who) (seats : List Enlistment) → AllByRecursion (SeatTells hosts u w) seats
    → AllByRecursion (λ s. (y : Who) → who_named hosts s.endpoint ≡ Some y → HasPosted u y kinds.Durable notices.Prepared) (prepared seats)
prepared_named hosts u w [] h = tt
prepared_named hosts u w (s ∷ seats) (h, k) = by_test (is_prepared_durable s) refl (prepared_named hosts u w seats k)
  where
    by_test : (c : Bool) → is_prepared_durable s ≡ c
        → AllByRecursion (λ s. (y : Who) → who_named hosts s.endpoint ≡ Some y → HasPosted u y kinds.Durable notices.Prepared) (prepared seats)
        → AllByRecursion (λ s. (y : Who) → who_named hosts s.endpoint ≡ Some y → HasPosted u y kinds.Durable notices.Prepared)
        (map seated (if c then s ∷ filter is_prepared_durable seats else filter is_prepared_durable seats))
    by_test true e rest = ((λ y named. is_prepared u w y s e (h y named)), rest)
    by_test false e rest = rest

-- and who is Prepared is named
durable_test : (s : Enlistment) → s.kind ≡ kinds.Durable → s.state ≡ states.Prepared → is_prepared_durable s ≡ true
durable_test s k e = λ i. is_kind (k i) kinds.Durable && is_state (e i) states.Prepared

named_among : (hosts : Hosts) (n : ℕ) (id : Numbers) (seats : List Enlistment) (number : ℕ) (y : Who) → (s : SeatOf hosts seats number kinds.Durable y) → s.seat.state ≡ states.Prepared
    → IsIn (registration (record { node = n; id = id }) number kinds.Durable y) (map (accepted_named n (nodes_of hosts) id) (prepared seats))
named_among hosts n id seats number y s e =
    subst (λ a. IsIn a (map (accepted_named n (nodes_of hosts) id) (prepared seats)))
    (λ i. record { transaction = record { node = n; id = id }; seat = Some (record { number = s.number_is i; kind = kinds.Durable }); participant = s.named i })
    (mapped_in (accepted_named n (nodes_of hosts) id) (seated s.seat) (prepared seats)
    (mapped_in seated s.seat (filter is_prepared_durable seats) (passes is_prepared_durable s.seat seats s.among (durable_test s.seat s.kind_is e))))

-- a vote or a decision, once all have answered
behind_votes : (hosts : Hosts) (u : World) (n : ℕ) (x : Node) (b : Book) (e : Event) (now : ℕ) (landed : Bool) → StepPremises hosts u n x b e → IsOutcome hosts u → (t : Transaction)
    → transaction_at b t.id ≡ Some t → may_expire t.phase ≡ true → (how : How) → (IsAbort how → ⊥) → (step b e now landed).effects ≡ happens how t → (at : List Enlistment)
    → AreCounted e t t.seats at → AllAnswered at → IsBehindVotes hosts u (record { node = n; id = t.id }) (prepared at)
behind_votes hosts u n x b e now landed p j t found undecided how stays is at c (volatile, durable) = record {
  named = prepared_named hosts u w at tells;
  volatile = λ number y i. voted_volatile number y (seat number kinds.Volatile y i);
  durable = λ number y i. voted_durable number y (seat number kinds.Durable y i);
}
  where
    w : Who
    w = record { node = n; id = t.id }

    tells : AllByRecursion (SeatTells hosts u w) at
    tells = seats_at hosts u n x b e now landed p j t found how stays is at c

    here : IsOpen x.journal (happened_on n u.happened) t.id
    here = open_there hosts u n x b e p t found undecided

    seat : (number : ℕ) (kind : Kind) (y : Who) → HasSeat u w number kind y → SeatOf hosts at number kind y
    seat number kind y i =
        seat_of hosts n t.id at number kind y (subst (IsIn (registration w number kind y)) (at_entries hosts n t.id e t at c) (has_entry hosts u n x b e p t found undecided number kind y i))

    says : (number : ℕ) (kind : Kind) (y : Who) → (s : SeatOf hosts at number kind y) → SeatSays u w y kind s.seat.state
    says number kind y s = subst (λ k. SeatSays u w y k s.seat.state) s.kind_is (one_of (SeatTells hosts u w) at s.seat tells s.among y s.named)

    voted_volatile : (number : ℕ) (y : Who) → SeatOf hosts at number kinds.Volatile y → HasPosted u y kinds.Volatile notices.Prepared ⊎ HasPosted u y kinds.Volatile notices.ReadOnly
    voted_volatile number y s =
        volatile_says u w y s.seat.state (not_committed_open u n x.journal t.id here) (not_aborted_open u n x.journal t.id here)
        (has_answered kinds.Volatile at s.seat volatile s.among s.kind_is) (says number kinds.Volatile y s)

    either : (number : ℕ) (y : Who) → (s : SeatOf hosts at number kinds.Durable y)
        → HasPosted u y kinds.Durable notices.ReadOnly ⊎ ((s.seat.state ≡ states.Prepared) × HasPosted u y kinds.Durable notices.Prepared)
        → HasPosted u y kinds.Durable notices.ReadOnly
        ⊎ (HasPosted u y kinds.Durable notices.Prepared × IsIn (registration w number kinds.Durable y) (map (accepted_named n (nodes_of hosts) t.id) (prepared at)))
    either number y s (inl h) = inl h
    either number y s (inr (f, h)) = inr (h, named_among hosts n t.id at number y s f)

    voted_durable : (number : ℕ) (y : Who) → SeatOf hosts at number kinds.Durable y
        → HasPosted u y kinds.Durable notices.ReadOnly
        ⊎ (HasPosted u y kinds.Durable notices.Prepared × IsIn (registration w number kinds.Durable y) (map (accepted_named n (nodes_of hosts) t.id) (prepared at)))
    voted_durable number y s =
        either number y s
        (durable_says u w y s.seat.state (not_committed_open u n x.journal t.id here) (not_aborted_open u n x.journal t.id here)
        (has_answered kinds.Durable at s.seat durable s.among s.kind_is) (says number kinds.Durable y s))

-- what a deed records
abbrev IfRecorded : (Record → Type 0) → Option Record → Type 0
IfRecorded P None = Unit {0}
IfRecorded P (Some r) = P r

vote_recorded : (P : Record → Type 0) (o : Option Epr) (f : Epr → Record) → ((to : Epr) → P (f to)) → IfRecorded P (option_map f o)
vote_recorded P None f h = tt
vote_recorded P (Some to) f h = h to

deed_records : (hosts : Hosts) (v : World) (n : ℕ) (how : How) (t : Transaction) (at : List Enlistment)
    → ((IsAbort how → ⊥) → may_expire t.phase ≡ true → AllAnswered at → IsBehindVotes hosts v (record { node = n; id = t.id }) (prepared at)) → StoodFor how t → StandsOn how at
    → IfRecorded (RecordAnswers hosts v n) (recorded how t at)
deed_records hosts v n How.Votes t at f stood stands =
    vote_recorded (RecordAnswers hosts v n) (superior_at t.superior) (λ superior. records.Voted t.id superior (prepared at)) (λ to. f (λ a. a) stood.0 stands.0)
deed_records hosts v n How.Decides t at f stood stands = f (λ a. a) stood.0 stands.0
deed_records hosts v n How.DecidesAlone t at f stood stands = f (λ a. a) stood.0 stands.0
deed_records hosts v n How.Commits t at f stood stands = tt
deed_records hosts v n How.RollsBack t at f stood stands = tt
deed_records hosts v n How.Ends t at f stood stands = tt
deed_records hosts v n other t at f stood stands = tt

of_none : (hosts : Hosts) (v : World) (n : ℕ) (entry : Option Record) → IsOfNoTransaction entry → IfRecorded (RecordAnswers hosts v n) entry
of_none hosts v n None h = tt
of_none hosts v n (Some (records.Voted id superior seats)) h = absurd h
of_none hosts v n (Some (records.Decided id seats)) h = absurd h
of_none hosts v n (Some other) h = tt

-- the journal behind a step
pub as_written : (entry : Option Record) (landed : Bool) (rs : List Record) → with_entry entry landed rs ≡ rs ++ written (standing landed entry)
as_written None true rs = sym (append-nil rs)
as_written None false rs = sym (append-nil rs)
as_written (Some r) true rs = refl
as_written (Some r) false rs = sym (append-nil rs)

all_written : (P : Record → Type 0) (entry : Option Record) → IfRecorded P entry → AllByRecursion P (written entry)
all_written P None h = tt
all_written P (Some r) h = (h, tt)

pub records_answer_step : StepKeeps RecordsAnswer
records_answer_step hosts u n x b e now landed p j m y found =
    each_put (λ k z. AllByRecursion (RecordAnswers hosts w k) z.journal) u.nodes n x behind_node p.found this others m y found
  where
    w : World
    w = counts u n x b e now landed

    g : Grows u w
    g = grows_counts u n x b e now landed p.found

    behind_node : Node
    behind_node = record x { book = Some (step b e now landed).book; journal = with_entry (plan b e now).entry landed x.journal }

    others : (k : ℕ) (z : Node) → (k ≡ n → ⊥) → nth k u.nodes ≡ Some z → AllByRecursion (RecordAnswers hosts w k) z.journal
    others k z differ r = all_more (RecordAnswers hosts u k) (RecordAnswers hosts w k) z.journal (λ s. record_on hosts u w g k s (λ id promise. none_there id)) (j.answers k z r)
      where
        none_there : (id : Numbers) → AcceptsNoMore u w (record { node = k; id = id })
        none_there id number kind who i = either (seat_joins hosts u n x b e now landed p (record { node = k; id = id }) number kind who i)
          where
            either : HasSeat u (record { node = k; id = id }) number kind who ⊎ JoinsOpen n b (step b e now landed).book (record { node = k; id = id })
                → HasSeat u (record { node = k; id = id }) number kind who
            either (inl h) = h
            either (inr h) = absurd (differ h.node)

    -- who has promised accepts nobody
    no_more : (s : Record) → IsIn s behind_node.journal → (id : Numbers) → is_promise id s ≡ true → AcceptsNoMore u w (record { node = n; id = id })
    no_more s there id promise number kind who i = either (seat_joins hosts u n x b e now landed p (record { node = n; id = id }) number kind who i)
      where
        closed : JoinsOpen n b (step b e now landed).book (record { node = n; id = id }) → ⊥
        closed h =
            (is_open behind_node.journal (happened_on n w.happened) id h.new
            (life_of behind_node.journal (happened_on n w.happened) id (transaction_at (book_of behind_node) id) (leaf_at (book_of behind_node) id) h.new
            ((behind hosts u n x b e now landed p).lives n behind_node (put_this u.nodes n x behind_node p.found) id) h.stands) h.undecided).nothing s there promise

        either : HasSeat u (record { node = n; id = id }) number kind who ⊎ JoinsOpen n b (step b e now landed).book (record { node = n; id = id })
            → HasSeat u (record { node = n; id = id }) number kind who
        either (inl h) = h
        either (inr h) = absurd (closed h)

    entry : Option Record
    entry = standing landed (plan b e now).entry

    in_journal : (s : Record) → IsIn s x.journal ⊎ IsIn s (written entry) → IsIn s behind_node.journal
    in_journal s (inl i) = subst (IsIn s) (sym (as_written (plan b e now).entry landed x.journal)) (in_front s x.journal (written entry) i)
    in_journal s (inr i) = subst (IsIn s) (sym (as_written (plan b e now).entry landed x.journal)) (in_back s x.journal (written entry) i)

    old : AllByRecursion (RecordAnswers hosts w n) x.journal
    old = all_of (RecordAnswers hosts w n) x.journal (λ s i. record_on hosts u w g n s (no_more s (in_journal s (inl i))) (one_of (RecordAnswers hosts u n) x.journal s (j.answers n x p.found) i))

    in_u : Done b e now entry (step b e now landed) → IfRecorded (RecordAnswers hosts u n) entry
    in_u (did t c answer found d a items outs effects) =
        subst (IfRecorded (RecordAnswers hosts u n)) (sym d.records)
        (deed_records hosts u n d.how t d.at
        (λ stays undecided all. behind_votes hosts u n x b e now landed p j t found undecided d.how stays (effects ∙ d.happened) d.at d.counted all) d.stood d.behind)
    in_u (undone answer a none is) = subst (IfRecorded (RecordAnswers hosts u n)) (sym none) tt
    in_u (registered t a r found came at says none is) = subst (IfRecorded (RecordAnswers hosts u n)) (sym none) tt
    in_u (made t a c id came at says next born none items outs effects) = subst (IfRecorded (RecordAnswers hosts u n)) (sym none) tt
    in_u (elsewhere none items roots) = of_none hosts u n entry none

    new : AllByRecursion (RecordAnswers hosts w n) (written entry)
    new =
        all_of (RecordAnswers hosts w n) (written entry)
        (λ s i. record_on hosts u w g n s (no_more s (in_journal s (inr i)))
        (one_of (RecordAnswers hosts u n) (written entry) s (all_written (RecordAnswers hosts u n) entry (in_u (steps_do.steps b e now landed p.ready.phases p.ready.finished))) i))

    this : AllByRecursion (RecordAnswers hosts w n) behind_node.journal
    this = subst (AllByRecursion (RecordAnswers hosts w n)) (sym (as_written (plan b e now).entry landed x.journal)) (all_join (RecordAnswers hosts w n) x.journal (written entry) old new)
