-- Where nothing is on its way any more, nobody is in doubt.
use Rattle.std.specs.Prelude.{ℕ, List, [], ◌∷◌, Option, Some, None, Bool, true, false, not, is_none, zero, suc, ◌&&◌, ◌||◌, ◌+◌, length, ◌≡◌, ◌≤◌, ◌<◌, ◌⊎◌, refl}
use Rattle.std.specs.List.{list_all, list_any, AllByRecursion}
use Rattle.std.proofs.Common.{inl, inr, arith, sym, subst, ap, ◌∙◌}
use Rattle.std.proofs.lemmas.List.{length-append}
use Rattle.at_base.specs.Numbers.{Numbers}
use Rattle.at_base.specs.declared.epr.Epr.{Epr}
use Rattle.at_base.specs.declared.event.Arrived.{Arrived}
use Rattle.at_base.specs.declared.notice.Kind.{Kind}
use Rattle.at_base.specs.declared.notice.Kind.TheVariants as kinds
use Rattle.at_tables.specs.declared.cells.State.{State}
use Rattle.at_tables.specs.declared.cells.State.TheVariants as states
use Rattle.at_tables.specs.Names.{is_state}
use Rattle.at_base.specs.Names.{is_kind}
use Rattle.at_model.specs.Book.{Book, Enlistment, Leaf, Phase, Superior, Transaction, leaf_id, transaction_id}
use Rattle.at_model.specs.Seats.{is_of, is_prepared_durable, link_of}
use Rattle.at_model.specs.Step.{leaf_at, transaction_at}
use Rattle.at_model.specs.World.{Node, Posted, Who, World, WorldEvent, nth, run_of, Hosts, HaveOwnAddresses}
use Rattle.model_laws.specs.Agreement.{IsIn}
use Rattle.model_laws.specs.Links.{AreIn, AreLinked, IsIdle, IsJoining}
use Rattle.model_laws.specs.ReachedWorlds.{Reached}
use Rattle.model_laws.specs.Settlement.{is_book_settled, is_doubtful_leaf, is_node_settled, is_settled, waits, waits_in}
use Rattle.model_laws.proofs.DecisionLaws.{all_find, found_id, same_kind}
use Rattle.model_laws.proofs.ReachedWorlds.{run_reached}
use Rattle.agreement.specs.Deeds.{coordinator_at}
use Rattle.agreement.specs.LeafDeeds.{LeafStands, registers, waits as leaf_waits, works}
use Rattle.agreement.proofs.SeatedBooks.{finds_each}
use Rattle.agreement.proofs.SeatedEntries.{one_of}
use Rattle.enlistments.specs.Leads.{Enlists}
use Rattle.enlistments.proofs.Searches.{both_true}
use Rattle.enlistments.proofs.StepMoves.{book_ready}
use Rattle.owed.specs.Shape.{LinkKnows, StandsUnder, Waits, suits}
use Rattle.owed.specs.Links.{CommitsIn, IsBusy, LinkIsBusy}
use Rattle.settling.specs.Order.{HasSome, RegistersFirst}
use Rattle.settling.proofs.Entries.{state_is}
use Rattle.settling.proofs.RegistrationOrder.{subordinates_register_first}
use Rattle.settling.proofs.Runs.{all_from_nth}
use Rattle.votes.specs.NamedParticipants.{HasSeat}
use Rattle.paired.specs.Partners.{IsParticipant, IsSeat, seat_of}
use Rattle.paired.proofs.Partners.{partners_are_paired}
use Rattle.settled.specs.OwedMessages.{Comes, CommitsAreOwed, Holds, IsPreparedAt, OutcomesAreOwed, OwesCommitted, OwesOutcome, OwesVote, VotesAreOwed}
use Rattle.settled.proofs.Partners.{found_own, in_book, leaf_seat, link_seat, seat_has, shape_at}
use Rattle.settled.proofs.Outcomes.{enlists_has}
use Rattle.settled.proofs.Votes.{suits_at}

-- nobody gets a message of these
abbrev pub NoneLeft : List Posted → Type 0
NoneLeft queue = (q : Posted) → IsIn q queue → q.receiver ≡ None

none_comes : (hosts : Hosts) (queue : List Posted) (n : ℕ) (P : Arrived → Type 0) → NoneLeft queue → Comes hosts queue n P → ⊥
none_comes hosts queue n P h c = differ c.posted.receiver (h c.posted c.waits) c.receiver
  where
    differ : (o : Option ℕ) → o ≡ None → o ≡ Some n → ⊥
    differ o e f = cc

-- lists
record Passes {A : Type 0} (test : A → Bool) (xs : List A) : Type 0 where
  one : A
  among : IsIn one xs
  passes : test one ≡ true

some_passes : {A : Type 0} (test : A → Bool) (xs : List A) → list_any test xs ≡ true → Passes test xs
some_passes test [] e = absurd cc
some_passes {A = A} test (x ∷ xs) e = by_test (test x) refl e (λ f. some_passes test xs f)
  where
    by_test : (b : Bool) → test x ≡ b → (b || list_any test xs) ≡ true → (list_any test xs ≡ true → Passes test xs) → Passes test (x ∷ xs)
    by_test true f g rest = record { one = x; among = inl refl; passes = f }
    by_test false f g rest = let p : Passes test xs = rest g in record { one = p.one; among = inr p.among; passes = p.passes }

none_passes : {A : Type 0} (test : A → Bool) (xs : List A) → ((x : A) → IsIn x xs → test x ≡ true → ⊥) → list_any test xs ≡ false
none_passes test [] h = refl
none_passes {A = A} test (x ∷ xs) h = by_test (test x) refl (none_passes test xs (λ y i. h y (inr i)))
  where
    by_test : (b : Bool) → test x ≡ b → list_any test xs ≡ false → (b || list_any test xs) ≡ false
    by_test true f rest = absurd (h x (inl refl) f)
    by_test false f rest = rest

all_pass : {A : Type 0} (test : A → Bool) (xs : List A) → AllByRecursion (λ x. test x ≡ true) xs → list_all test xs ≡ true
all_pass test [] h = refl
all_pass test (x ∷ xs) (h, k) = (λ i. h i && list_all test xs) ∙ all_pass test xs k

has_some : (seats : List Enlistment) (s : Enlistment) → IsIn s seats → HasSome seats
has_some [] s i = i
has_some (x ∷ seats) s i = tt

-- a transaction that waits for its participants' votes, or until they have committed
abbrev IsAsking : Phase → Type 0
IsAsking Phase.Volatile = Unit {0}
IsAsking Phase.Durable = Unit {0}
IsAsking Phase.Committing = Unit {0}
IsAsking other = ⊥

-- it is one of a book
record Stands (w : World) (x : Who) : Type 0 where
  book : Book
  holds : Holds w x.node book
  transaction : Transaction
  found : transaction_at book x.id ≡ Some transaction

joining_idle : (state : State) → IsJoining state → IsBusy state → ⊥
joining_idle states.Registering j b = b
joining_idle states.Active j b = b
joining_idle other j b = j

idle_idle : (state : State) → IsIdle state → IsBusy state → ⊥
idle_idle states.None j b = b
idle_idle states.Active j b = b
idle_idle other j b = j

busy_asks : (p : Phase) (s : Superior) (kind : Kind) → AreIn p s.volatile.state s.durable.state → IsBusy (link_of kind s).state → IsAsking p
busy_asks Phase.Volatile s kind h b = tt
busy_asks Phase.Durable s kind h b = tt
busy_asks Phase.Committing s kind h b = tt
busy_asks Phase.Registering s kinds.Volatile h b = absurd (joining_idle s.volatile.state h.0 b)
busy_asks Phase.Registering s kinds.Durable h b = absurd (joining_idle s.durable.state h.1 b)
busy_asks Phase.Active s kinds.Volatile h b = absurd (idle_idle s.volatile.state h.0 b)
busy_asks Phase.Active s kinds.Durable h b = absurd (joining_idle s.durable.state h.1 b)
busy_asks Phase.Voted s kinds.Volatile h b = absurd (subst IsBusy h.0 b)
busy_asks Phase.Voted s kinds.Durable h b = absurd (subst IsBusy h.1 b)
busy_asks Phase.Aborting s kinds.Volatile h b = absurd (subst IsBusy h.0 b)
busy_asks Phase.Aborting s kinds.Durable h b = absurd (subst IsBusy h.1 b)

links_at : (hosts : Hosts) (w : World) → Reached hosts w → (n : ℕ) (b : Book) → Holds w n b → (id : Numbers) (t : Transaction) (s : Superior) → transaction_at b id ≡ Some t → t.superior ≡ Some s
    → AreIn t.phase s.volatile.state s.durable.state
links_at hosts w reached n b h id t s found under =
    (subst (λ o. AreLinked t.phase o t.completion) under
    (all_find (λ (y : Transaction). AreLinked y.phase y.superior y.completion) transaction_id id b.transactions t (book_ready hosts w reached n h.node b h.found h.up).phases.links found)).0

-- A subordinate that asks.
record IsAskingUnder (w : World) (x : Who) : Type 0 where
  stands : Stands w x
  asks : IsAsking stands.transaction.phase
  under : is_none stands.transaction.superior ≡ false

if_busy : (hosts : Hosts) (w : World) (x : Who) (kind : Kind) → Reached hosts w → (k : Stands w x) → (o : Option Superior) → k.transaction.superior ≡ o → LinkIsBusy kind o → IsAskingUnder w x
if_busy hosts w x kind reached k None e busy = absurd busy
if_busy hosts w x kind reached k (Some s) e busy = record {
  stands = k;
  asks = busy_asks k.transaction.phase s kind (links_at hosts w reached x.node k.book k.holds x.id k.transaction s k.found e) busy;
  under = ap is_none e;
}

if_commits : (hosts : Hosts) (w : World) (x : Who) → Reached hosts w → (k : Stands w x) → (o : Option Superior) → k.transaction.superior ≡ o → CommitsIn o → IsAskingUnder w x
if_commits hosts w x reached k None e commits = absurd commits
if_commits hosts w x reached k (Some s) e commits = record {
  stands = k;
  asks = busy_asks k.transaction.phase s kinds.Durable (links_at hosts w reached x.node k.book k.holds x.id k.transaction s k.found e) (subst IsBusy (sym commits) tt);
  under = ap is_none e;
}

-- what is known of the world
record AllQuiet (hosts : Hosts) (w : World) (queue : List Posted) : Type 0 where
  none : NoneLeft queue
  votes : VotesAreOwed hosts (λ n. Unit {0}) w queue
  commits : CommitsAreOwed hosts (λ n. Unit {0}) w queue
  outcomes : OutcomesAreOwed hosts (λ n. Unit {0}) w queue

-- one participant further down asks too
record Below (w : World) (t : Who) : Type 0 where
  who : Who
  number : ℕ
  kind : Kind
  seat : HasSeat w t number kind who
  asks : IsAskingUnder w who

of_seat : (k : Kind) (state : State) (s : Enlistment) → is_of k state s ≡ true → (s.kind ≡ k) × (s.state ≡ state)
of_seat k state s e = let (f, g) = both_true (is_kind s.kind k) (is_state s.state state) e in (same_kind s.kind k f, state_is s.state state g)

participant_at : (hosts : Hosts) (w : World) → HaveOwnAddresses hosts → Reached hosts w → (n : ℕ) (b : Book) → Holds w n b → (t : Transaction) (s : Enlistment) → transaction_at b t.id ≡ Some t → IsIn s t.seats
    → IsParticipant hosts s.kind s.participant
participant_at hosts w distinct reached n b h t s found i =
    one_of (λ (q : Enlistment). IsParticipant hosts q.kind q.participant) t.seats s
    ((partners_are_paired.paired hosts w distinct reached).seats n h.node b t h.found h.up (in_book b t.id t found)) i

preparing_below : (hosts : Hosts) (w : World) (queue : List Posted) → HaveOwnAddresses hosts → Reached hosts w → AllQuiet hosts w queue → (n : ℕ) (b : Book) → Holds w n b → (t : Transaction) (s : Enlistment)
    → transaction_at b t.id ≡ Some t → IsIn s t.seats → s.state ≡ states.Preparing → Below w (record { node = n; id = t.id })
preparing_below hosts w queue distinct reached q n b h t s found i state =
    by_owed (q.votes.seats n b t s p.who tt h found i state p.place p.is)
  where
    p : IsParticipant hosts s.kind s.participant
    p = participant_at hosts w distinct reached n b h t s found i

    by_owed : OwesVote hosts w queue (record { node = n; id = t.id }) s.number s.kind p.who → Below w (record { node = n; id = t.id })
    by_owed (inl c) = absurd (none_comes hosts queue p.who.node _ q.none c)
    by_owed (inr (inl (m, answers, c))) = absurd (none_comes hosts queue n _ q.none c)
    by_owed (inr (inr busy)) = record {
      who = p.who;
      number = s.number;
      kind = s.kind;
      seat = seat_has hosts w distinct reached n b h t s p.who found i p.place p.is;
      asks = if_busy hosts w p.who s.kind reached (record { book = busy.book; holds = busy.holds; transaction = busy.transaction; found = busy.found }) busy.transaction.superior refl busy.busy;
    }

committing_below : (hosts : Hosts) (w : World) (queue : List Posted) → HaveOwnAddresses hosts → Reached hosts w → AllQuiet hosts w queue → (n : ℕ) (b : Book) → Holds w n b → (t : Transaction) (s : Enlistment)
    → transaction_at b t.id ≡ Some t → IsIn s t.seats → s.kind ≡ kinds.Durable → s.state ≡ states.Committing → Below w (record { node = n; id = t.id })
committing_below hosts w queue distinct reached q n b h t s found i durable state =
    by_owed (q.commits.seats n b t s p.who tt h found i durable state p.place p.is)
  where
    p : IsParticipant hosts s.kind s.participant
    p = participant_at hosts w distinct reached n b h t s found i

    by_owed : OwesCommitted hosts w queue (record { node = n; id = t.id }) s.number p.who → Below w (record { node = n; id = t.id })
    by_owed (inl c) = absurd (none_comes hosts queue p.who.node _ q.none c)
    by_owed (inr (inl c)) = absurd (none_comes hosts queue n _ q.none c)
    by_owed (inr (inr commits)) = record {
      who = p.who;
      number = s.number;
      kind = s.kind;
      seat = seat_has hosts w distinct reached n b h t s p.who found i p.place p.is;
      asks = if_commits hosts w p.who reached (record { book = commits.book; holds = commits.holds; transaction = commits.transaction; found = commits.found }) commits.transaction.superior refl commits.commits;
    }

-- whoever asks waits for somebody below
below : (hosts : Hosts) (w : World) (queue : List Posted) → HaveOwnAddresses hosts → Reached hosts w → AllQuiet hosts w queue → (n : ℕ) (b : Book) → Holds w n b → (t : Transaction)
    → transaction_at b t.id ≡ Some t → IsAsking t.phase → Below w (record { node = n; id = t.id })
below hosts w queue distinct reached q n b h t found asks = by_phase t.phase asks (shape_at hosts w reached n b h t.id t found).1.0
  where
    by_phase : (p : Phase) → IsAsking p → Waits p t.seats → Below w (record { node = n; id = t.id })
    by_phase Phase.Volatile a e =
        let s : Passes (is_of kinds.Volatile states.Preparing) t.seats = some_passes (is_of kinds.Volatile states.Preparing) t.seats e in
        preparing_below hosts w queue distinct reached q n b h t s.one found s.among (of_seat kinds.Volatile states.Preparing s.one s.passes).1
    by_phase Phase.Durable a e =
        let s : Passes (is_of kinds.Durable states.Preparing) t.seats = some_passes (is_of kinds.Durable states.Preparing) t.seats e in
        preparing_below hosts w queue distinct reached q n b h t s.one found s.among (of_seat kinds.Durable states.Preparing s.one s.passes).1
    by_phase Phase.Committing a e =
        let s : Passes (is_of kinds.Durable states.Committing) t.seats = some_passes (is_of kinds.Durable states.Committing) t.seats e in
        let (k, d) = of_seat kinds.Durable states.Committing s.one s.passes in
        committing_below hosts w queue distinct reached q n b h t s.one found s.among k d
    by_phase Phase.Registering a e = absurd a
    by_phase Phase.Active a e = absurd a
    by_phase Phase.Voted a e = absurd a
    by_phase Phase.Aborting a e = absurd a

waits_some : (p : Phase) (seats : List Enlistment) → IsAsking p → Waits p seats → HasSome seats
waits_some Phase.Volatile seats a e = let s : Passes (is_of kinds.Volatile states.Preparing) seats = some_passes (is_of kinds.Volatile states.Preparing) seats e in has_some seats s.one s.among
waits_some Phase.Durable seats a e = let s : Passes (is_of kinds.Durable states.Preparing) seats = some_passes (is_of kinds.Durable states.Preparing) seats e in has_some seats s.one s.among
waits_some Phase.Committing seats a e = let s : Passes (is_of kinds.Durable states.Committing) seats = some_passes (is_of kinds.Durable states.Committing) seats e in has_some seats s.one s.among
waits_some Phase.Registering seats a e = absurd a
waits_some Phase.Active seats a e = absurd a
waits_some Phase.Voted seats a e = absurd a
waits_some Phase.Aborting seats a e = absurd a

-- when it registered
registered_first : (hosts : Hosts) (es : List WorldEvent) → HaveOwnAddresses hosts → (n : ℕ) (b : Book) → Holds (run_of hosts es) n b → (id : Numbers) (t : Transaction) → transaction_at b id ≡ Some t
    → is_none t.superior ≡ false → HasSome t.seats → RegistersFirst (run_of hosts es) (record { node = n; id = t.id })
registered_first hosts es distinct n b h id t found under some = subordinates_register_first.runs hosts es n h.node b t distinct h.found h.up (in_book b id t found) under some

own_id : (b : Book) (id : Numbers) (t : Transaction) → transaction_at b id ≡ Some t → t.id ≡ id
own_id b id t found = found_id transaction_id id b.transactions t found

asking_first : (hosts : Hosts) (es : List WorldEvent) → HaveOwnAddresses hosts → (x : Who) (a : IsAskingUnder (run_of hosts es) x) → RegistersFirst (run_of hosts es) x
asking_first hosts es distinct x a =
    let k : Stands (run_of hosts es) x = a.stands in
    subst (λ i. RegistersFirst (run_of hosts es) (record { node = x.node; id = i })) (own_id k.book x.id k.transaction k.found)
    (registered_first hosts es distinct x.node k.book k.holds x.id k.transaction k.found a.under
    (waits_some k.transaction.phase k.transaction.seats a.asks (shape_at hosts (run_of hosts es) (run_reached hosts es) x.node k.book k.holds x.id k.transaction k.found).1.0))

further : (hosts : Hosts) (es : List WorldEvent) (queue : List Posted) → HaveOwnAddresses hosts → AllQuiet hosts (run_of hosts es) queue → (x : Who) → IsAskingUnder (run_of hosts es) x → Below (run_of hosts es) x
further hosts es queue distinct q x a =
    let k : Stands (run_of hosts es) x = a.stands in
    subst (λ i. Below (run_of hosts es) (record { node = x.node; id = i })) (own_id k.book x.id k.transaction k.found)
    (below hosts (run_of hosts es) queue distinct (run_reached hosts es) q x.node k.book k.holds k.transaction (found_own k.book x.id k.transaction k.found) a.asks)

-- The descent: whoever asks waits for one that registered later.
descend : (hosts : Hosts) (es : List WorldEvent) (queue : List Posted) (distinct : HaveOwnAddresses hosts) → AllQuiet hosts (run_of hosts es) queue → (fuel : ℕ) (x : Who) → (a : IsAskingUnder (run_of hosts es) x)
    → length (run_of hosts es).accepted ≤ length (asking_first hosts es distinct x a).front + fuel → ⊥
descend hosts es queue distinct q zero x a most =
    let first : RegistersFirst (run_of hosts es) x = asking_first hosts es distinct x a in
    omega (arith, most, ap length first.stands, length-append first.front (first.registration ∷ first.back))
descend hosts es queue distinct q (suc fuel) x a most =
    let next : Below (run_of hosts es) x = further hosts es queue distinct q x a in
    let later : length (asking_first hosts es distinct x a).front < length (asking_first hosts es distinct next.who next.asks).front =
    subordinates_register_first.later hosts es x next.who (record { number = next.number; kind = next.kind }) (asking_first hosts es distinct x a) (asking_first hosts es distinct next.who next.asks) distinct
    next.seat in
    descend hosts es queue distinct q fuel next.who next.asks (omega (arith, most, later))

none_asks : (hosts : Hosts) (es : List WorldEvent) (queue : List Posted) → HaveOwnAddresses hosts → AllQuiet hosts (run_of hosts es) queue → (n : ℕ) (b : Book) → Holds (run_of hosts es) n b → (t : Transaction)
    → transaction_at b t.id ≡ Some t → IsAsking t.phase → ⊥
none_asks hosts es queue distinct q n b h t found asks =
    let next : Below (run_of hosts es) (record { node = n; id = t.id }) = below hosts (run_of hosts es) queue distinct (run_reached hosts es) q n b h t found asks in
    descend hosts es queue distinct q (length (run_of hosts es).accepted) next.who next.asks (omega arith)

-- A subordinate that has voted.
record HasVotedUnder (w : World) (x : Who) : Type 0 where
  stands : Stands w x
  voted : stands.transaction.phase ≡ Phase.Voted

voted_superior : (hosts : Hosts) (w : World) → Reached hosts w → (x : Who) → (a : HasVotedUnder w x) → (o : Option Superior) → a.stands.transaction.superior ≡ o → is_none o ≡ false
voted_superior hosts w reached x a None e =
    let k : Stands w x = a.stands in
    absurd (subst (λ p. StandsUnder p None k.transaction.completion) a.voted
    (subst (λ o. StandsUnder k.transaction.phase o k.transaction.completion) e (shape_at hosts w reached x.node k.book k.holds x.id k.transaction k.found).1.1))
voted_superior hosts w reached x a (Some s) e = refl

voted_first : (hosts : Hosts) (es : List WorldEvent) → HaveOwnAddresses hosts → (x : Who) (a : HasVotedUnder (run_of hosts es) x) → RegistersFirst (run_of hosts es) x
voted_first hosts es distinct x a =
    let k : Stands (run_of hosts es) x = a.stands in
    let s : Passes is_prepared_durable k.transaction.seats =
    some_passes is_prepared_durable k.transaction.seats
    (subst (λ p. Waits p k.transaction.seats) a.voted (shape_at hosts (run_of hosts es) (run_reached hosts es) x.node k.book k.holds x.id k.transaction k.found).1.0) in
    subst (λ i. RegistersFirst (run_of hosts es) (record { node = x.node; id = i })) (own_id k.book x.id k.transaction k.found)
    (registered_first hosts es distinct x.node k.book k.holds x.id k.transaction k.found
    (voted_superior hosts (run_of hosts es) (run_reached hosts es) x a k.transaction.superior refl) (has_some k.transaction.seats s.one s.among))

-- a seat that is Prepared is one of a transaction that asks, or that has voted
prepared_phase : (p : Phase) → suits p kinds.Durable states.Prepared ≡ true → IsAsking p ⊎ (p ≡ Phase.Voted)
prepared_phase Phase.Registering e = absurd cc
prepared_phase Phase.Active e = absurd cc
prepared_phase Phase.Volatile e = absurd cc
prepared_phase Phase.Durable e = inl tt
prepared_phase Phase.Voted e = inr refl
prepared_phase Phase.Committing e = absurd cc
prepared_phase Phase.Aborting e = absurd cc

prepared_voted : (hosts : Hosts) (es : List WorldEvent) (queue : List Posted) → HaveOwnAddresses hosts → AllQuiet hosts (run_of hosts es) queue → (z : Who) (number : ℕ) → IsPreparedAt (run_of hosts es) z number
    → HasVotedUnder (run_of hosts es) z
prepared_voted hosts es queue distinct q z number k =
    by_phase (prepared_phase k.transaction.phase
    (subst (λ d. suits k.transaction.phase kinds.Durable d ≡ true) k.state_is
    (subst (λ d. suits k.transaction.phase d k.seat.state ≡ true) k.kind_is
    (suits_at hosts (run_of hosts es) (run_reached hosts es) z.node k.book k.holds k.transaction k.seat (found_own k.book z.id k.transaction k.found) k.among))))
  where
    by_phase : IsAsking k.transaction.phase ⊎ (k.transaction.phase ≡ Phase.Voted) → HasVotedUnder (run_of hosts es) z
    by_phase (inl asks) = absurd (none_asks hosts es queue distinct q z.node k.book k.holds k.transaction (found_own k.book z.id k.transaction k.found) asks)
    by_phase (inr voted) = record { stands = record { book = k.book; holds = k.holds; transaction = k.transaction; found = k.found }; voted = voted }

-- an outcome that is owed is owed by a seat that is Prepared
outcome_prepared : (hosts : Hosts) (w : World) (queue : List Posted) (x z : Who) (number : ℕ) → NoneLeft queue → OwesOutcome hosts w queue x z number → IsPreparedAt w z number
outcome_prepared hosts w queue x z number none (inl c) = absurd (none_comes hosts queue z.node _ none c)
outcome_prepared hosts w queue x z number none (inr (inl (inl c))) = absurd (none_comes hosts queue x.node _ none c)
outcome_prepared hosts w queue x z number none (inr (inl (inr c))) = absurd (none_comes hosts queue x.node _ none c)
outcome_prepared hosts w queue x z number none (inr (inr k)) = k

-- one further up has voted too
record Above (w : World) (x : Who) : Type 0 where
  who : Who
  number : ℕ
  seat : HasSeat w who number kinds.Durable x
  voted : HasVotedUnder w who

if_known : (o : Option Epr) → is_none o ≡ false → (c : Epr) × (o ≡ Some c)
if_known None e = absurd cc
if_known (Some c) e = (c, refl)

above : (hosts : Hosts) (es : List WorldEvent) (queue : List Posted) → HaveOwnAddresses hosts → AllQuiet hosts (run_of hosts es) queue → (x : Who) → HasVotedUnder (run_of hosts es) x → Above (run_of hosts es) x
above hosts es queue distinct q x a = by_superior k.transaction.superior refl
  where
    w : World
    w = run_of hosts es

    k : Stands w x
    k = a.stands

    own : transaction_at k.book k.transaction.id ≡ Some k.transaction
    own = found_own k.book x.id k.transaction k.found

    id_is : k.transaction.id ≡ x.id
    id_is = own_id k.book x.id k.transaction k.found

    by_superior : (o : Option Superior) → k.transaction.superior ≡ o → Above w x
    by_superior None e = let f : true ≡ false = voted_superior hosts w (run_reached hosts es) x a None e in absurd cc
    by_superior (Some s) e =
        let links : AreIn Phase.Voted s.volatile.state s.durable.state = subst (λ p. AreIn p s.volatile.state s.durable.state) a.voted (links_at hosts w (run_reached hosts es) x.node k.book k.holds x.id k.transaction s k.found e) in
        let (c, knows) =
        if_known s.durable.coordinator
        (subst (λ d. LinkKnows s.request d s.durable.coordinator) links.1
        (subst (λ y. StandsUnder k.transaction.phase y k.transaction.completion) e (shape_at hosts w (run_reached hosts es) x.node k.book k.holds x.id k.transaction k.found).1.1).1) in
        let (at, enlists) = link_seat hosts w distinct (run_reached hosts es) x.node k.book k.holds x.id k.transaction kinds.Durable c k.found (ap (coordinator_at kinds.Durable) {y = Some s} e ∙ knows) in
        let z : Who = at.transaction in
        let prepared : IsPreparedAt w z at.number =
        outcome_prepared hosts w queue (record { node = x.node; id = k.transaction.id }) z at.number q.none
        (q.outcomes.links x.node k.book k.transaction s z at.number tt k.holds own e links.1 (record { place = at.place; least = at.least; most = at.most }) (knows ∙ ap Some {y = seat_of hosts z at.number kinds.Durable} at.is)) in
        record {
          who = z;
          number = at.number;
          seat = enlists_has hosts w distinct x z at.number kinds.Durable (record { place = at.place; least = at.least; most = at.most })
              (subst (λ y. Enlists hosts w y x kinds.Durable) at.is enlists);
          voted = prepared_voted hosts es queue distinct q z at.number prepared;
        }

-- The ascent: whoever has voted waits for one that registered before.
ascend : (hosts : Hosts) (es : List WorldEvent) (queue : List Posted) (distinct : HaveOwnAddresses hosts) → AllQuiet hosts (run_of hosts es) queue → (most : ℕ) (x : Who) → (a : HasVotedUnder (run_of hosts es) x)
    → length (voted_first hosts es distinct x a).front ≤ most → ⊥
ascend hosts es queue distinct q zero x a h =
    let next : Above (run_of hosts es) x = above hosts es queue distinct q x a in
    let earlier : length (voted_first hosts es distinct next.who next.voted).front < length (voted_first hosts es distinct x a).front =
    subordinates_register_first.later hosts es next.who x (record { number = next.number; kind = kinds.Durable }) (voted_first hosts es distinct next.who next.voted) (voted_first hosts es distinct x a) distinct
    next.seat in
    omega (arith, h, earlier)
ascend hosts es queue distinct q (suc most) x a h =
    let next : Above (run_of hosts es) x = above hosts es queue distinct q x a in
    let earlier : length (voted_first hosts es distinct next.who next.voted).front < length (voted_first hosts es distinct x a).front =
    subordinates_register_first.later hosts es next.who x (record { number = next.number; kind = kinds.Durable }) (voted_first hosts es distinct next.who next.voted) (voted_first hosts es distinct x a) distinct
    next.seat in
    ascend hosts es queue distinct q most next.who next.voted (omega (arith, h, earlier))

none_voted : (hosts : Hosts) (es : List WorldEvent) (queue : List Posted) → HaveOwnAddresses hosts → AllQuiet hosts (run_of hosts es) queue → (x : Who) → HasVotedUnder (run_of hosts es) x → ⊥
none_voted hosts es queue distinct q x a = ascend hosts es queue distinct q (length (voted_first hosts es distinct x a).front) x a (omega arith)

-- nobody is in doubt
none_waits : (hosts : Hosts) (es : List WorldEvent) (queue : List Posted) → HaveOwnAddresses hosts → AllQuiet hosts (run_of hosts es) queue → (n : ℕ) (b : Book) → Holds (run_of hosts es) n b → (t : Transaction)
    → transaction_at b t.id ≡ Some t → waits t ≡ true → ⊥
none_waits hosts es queue distinct q n b h t found e = by_phase t.phase refl e
  where
    by_phase : (p : Phase) → t.phase ≡ p → waits_in p ≡ true → ⊥
    by_phase Phase.Voted is f =
        none_voted hosts es queue distinct q (record { node = n; id = t.id }) (record { stands = record { book = b; holds = h; transaction = t; found = found }; voted = is })
    by_phase Phase.Committing is f = none_asks hosts es queue distinct q n b h t found (subst IsAsking (sym is) tt)
    by_phase Phase.Registering is f = cc
    by_phase Phase.Active is f = cc
    by_phase Phase.Volatile is f = cc
    by_phase Phase.Durable is f = cc
    by_phase Phase.Aborting is f = cc

none_doubts : (hosts : Hosts) (es : List WorldEvent) (queue : List Posted) → HaveOwnAddresses hosts → AllQuiet hosts (run_of hosts es) queue → (n : ℕ) (b : Book) → Holds (run_of hosts es) n b → (l : Leaf)
    → leaf_at b l.id ≡ Some l → is_doubtful_leaf l ≡ true → ⊥
none_doubts hosts es queue distinct q n b h l found e =
    let (k, s) = both_true (is_kind l.kind kinds.Durable) (is_state l.state states.PreparedSuccess) e in
    by_stand (same_kind l.kind kinds.Durable k) (state_is l.state states.PreparedSuccess s)
    (all_find LeafStands leaf_id l.id b.leaves l (book_ready hosts (run_of hosts es) (run_reached hosts es) n h.node b h.found h.up).leaves found)
  where
    w : World
    w = run_of hosts es

    other : (state : State) → l.state ≡ states.PreparedSuccess → l.state ≡ state → (states.PreparedSuccess ≡ state → ⊥) → ⊥
    other state f g differ = differ (sym f ∙ g)

    not_registering : states.PreparedSuccess ≡ states.Registering → ⊥
    not_registering f = cc

    not_active : states.PreparedSuccess ≡ states.Active → ⊥
    not_active f = cc

    by_coordinator : l.kind ≡ kinds.Durable → l.state ≡ states.PreparedSuccess → (c : Epr) → l.coordinator ≡ Some c → IsSeat hosts l.kind c → ⊥
    by_coordinator durable state c knows at =
        let same : c ≡ seat_of hosts at.transaction at.number kinds.Durable = at.is ∙ ap (seat_of hosts at.transaction at.number) durable in
        none_voted hosts es queue distinct q at.transaction
        (prepared_voted hosts es queue distinct q at.transaction at.number
        (outcome_prepared hosts w queue (record { node = n; id = l.id }) at.transaction at.number q.none
        (q.outcomes.leaves n b l at.transaction at.number tt h found durable state (record { place = at.place; least = at.least; most = at.most }) (knows ∙ ap Some same))))

    by_stand : l.kind ≡ kinds.Durable → l.state ≡ states.PreparedSuccess → LeafStands l → ⊥
    by_stand durable state (registers r is none asks) = other states.Registering state is not_registering
    by_stand durable state (works c is knows none) = other states.Active state is not_active
    by_stand durable state (leaf_waits c is knows none vote) =
        by_coordinator durable state c knows (leaf_seat hosts w distinct (run_reached hosts es) n b h l.id l c found knows).0

-- so the world is at rest
pub rests : (hosts : Hosts) (es : List WorldEvent) (queue : List Posted) → HaveOwnAddresses hosts → ((n : ℕ) (x : Node) → nth n (run_of hosts es).nodes ≡ Some x → is_none x.book ≡ false) → NoneLeft queue
    → VotesAreOwed hosts (λ n. Unit {0}) (run_of hosts es) queue → CommitsAreOwed hosts (λ n. Unit {0}) (run_of hosts es) queue → OutcomesAreOwed hosts (λ n. Unit {0}) (run_of hosts es) queue
    → is_settled (run_of hosts es) ≡ true
rests hosts es queue distinct up none votes commits outcomes =
    all_pass is_node_settled w.nodes (all_from_nth (λ x. is_node_settled x ≡ true) w.nodes (λ n x found. by_book n x found x.book refl (up n x found)))
  where
    w : World
    w = run_of hosts es

    q : AllQuiet hosts w queue
    q = record { none = none; votes = votes; commits = commits; outcomes = outcomes }

    settled : (a b : Bool) → a ≡ false → b ≡ false → (not a && not b) ≡ true
    settled a b e f = λ i. not (e i) && not (f i)

    by_book : (n : ℕ) (x : Node) → nth n w.nodes ≡ Some x → (o : Option Book) → x.book ≡ o → is_none x.book ≡ false → is_book_settled x.book ≡ true
    by_book n x found None e f = let g : true ≡ false = sym (ap is_none e) ∙ f in absurd cc
    by_book n x found (Some b) e f =
        let h : Holds w n b = record { node = x; found = found; up = e } in
        ap is_book_settled e
        ∙ settled (list_any is_doubtful_leaf b.leaves) (list_any waits b.transactions)
        (none_passes is_doubtful_leaf b.leaves
        (λ l i. none_doubts hosts es queue distinct q n b h l
        (one_of (λ (y : Leaf). leaf_at b y.id ≡ Some y) b.leaves l (finds_each leaf_id b.leaves (book_ready hosts w (run_reached hosts es) n x b found e).order.rising.leaves) i)))
        (none_passes waits b.transactions
        (λ t i. none_waits hosts es queue distinct q n b h t
        (one_of (λ (y : Transaction). transaction_at b y.id ≡ Some y) b.transactions t (finds_each transaction_id b.transactions (book_ready hosts w (run_reached hosts es) n x b found e).order.rising.transactions) i)))
