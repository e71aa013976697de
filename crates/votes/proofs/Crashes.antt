-- Where a node falls, its records stand for what it has promised, and what it hasn't is lost.
use Rattle.std.specs.Prelude.{ℕ, List, [], ◌∷◌, ◌++◌, Option, Some, None, Bool, true, false, nat_eq, is_none, is_some, ◌&&◌, filter, map, ◌≡◌, ◌⊎◌, refl}
use Rattle.std.specs.List.{list_any, AllByRecursion}
use Rattle.std.proofs.Common.{inl, inr, sym, subst, ap, ◌∙◌}
use Rattle.std.proofs.lemmas.Bool.{eqb-true, eqb-false}
use Rattle.at_base.specs.Numbers.{Numbers}
use Rattle.at_base.specs.declared.epr.Epr.{Epr}
use Rattle.at_base.specs.declared.notice.Kind.{Kind}
use Rattle.at_base.specs.declared.notice.Kind.TheVariants as kinds
use Rattle.at_base.specs.declared.notice.Notice.TheVariants as notices
use Rattle.at_base.specs.declared.outs.Ending.TheVariants as endings
use Rattle.at_base.specs.declared.record.Record.{Record}
use Rattle.at_base.specs.declared.record.Record.TheVariants as records
use Rattle.at_base.specs.declared.record.Seated.{Seated}
use Rattle.at_tables.specs.declared.cells.State.{State}
use Rattle.at_tables.specs.declared.cells.State.TheVariants as states
use Rattle.at_model.specs.Book.{Book, Superior, Transaction, transaction_id}
use Rattle.at_model.specs.Due.{may_expire}
use Rattle.at_model.specs.Recovery.{is_sub_committed, live, recover, recovered_decided, recovered_seat, recovered_voted}
use Rattle.at_model.specs.Seats.{ending}
use Rattle.at_model.specs.Step.{leaf_at, transaction_at}
use Rattle.at_model.specs.World.{Happened, Node, Posted, Who, World, accepted_seat, goes_down, happened_at, is_lost_leaf, is_lost_root, is_lost_subordinate, leaf_lost, lost_in, nth, put_nth, transaction_lost, Hosts}
use Rattle.model_laws.specs.Agreement.{HasAborted, HasCommitted, HasPosted, IsIn}
use Rattle.model_laws.specs.Growth.{Grows}
use Rattle.model_laws.specs.ReachedWorlds.{fell}
use Rattle.model_laws.proofs.DecisionLaws.{all_map, all_more, found_id, in_front}
use Rattle.model_laws.proofs.Registrations.{nodes_of}
use Rattle.model_laws.proofs.Growth.{grows_falls}
use Rattle.model_laws.proofs.DrawnIds.{all_live}
use Rattle.model_laws.proofs.Nodes.{each_put}
use Rattle.model_laws.proofs.NodeLives.{put_other, put_this}
use Rattle.model_laws.proofs.SeatRegistrations.{in_back}
use Rattle.agreement.specs.Lives.{book_of, happened_on, standing}
use Rattle.agreement.specs.Recoveries.{StandsFor, transaction_from}
use Rattle.agreement.specs.SeatRegistrations.{accepted_named}
use Rattle.agreement.proofs.Recoveries.{recovers_each}
use Rattle.agreement.proofs.SeatedEntries.{all_of, one_of}
use Rattle.agreement.proofs.TransactionLives.{TransactionLife, aborted, committed, decided, undecided, voted}
use Rattle.votes.specs.NamedParticipants.{HasSeat, IsBehindVotes, KeepsItsDurable, RecordAnswers, registration}
use Rattle.votes.specs.ToldOutcomes.{AbortsWereTold, CommitIsBacked, CommittedIsBacked, IsHeld, RollbackIsBacked}
use Rattle.votes.specs.VotesAndOutcomes.{IsOutcome}
use Rattle.votes.specs.SeatStates.{SeatSays, SeatTells, TransactionTells, who_named}
use Rattle.votes.proofs.ItemEnds.{aborts_here, by_ending, commits_here, life_of, passes}
use Rattle.votes.proofs.ForgottenTransactions.{IsOver, over_on}
use Rattle.votes.proofs.Growth.{aborted_on, commit_on, committed_backed_on, durable_on, posted_on, record_on, rollback_on, tells_on}
use Rattle.votes.proofs.StepItems.{mapped_in}
use Rattle.votes.proofs.Lives.{gone_down, world_laws}
use Rattle.votes.proofs.Premises.{FallKeeps, WorldLaws, WorldPremises}
use Rattle.votes.proofs.SeatsAt.{among_book}

-- seats as a record names them
recovered_tells : (hosts : Hosts) (u v : World) → Grows u v → (w : Who) (seats : List Seated) (state : State) → (state ≡ states.Prepared) ⊎ ((state ≡ states.Committing) × HasCommitted v w)
    → AllByRecursion (λ s. (y : Who) → who_named hosts s.endpoint ≡ Some y → HasPosted u y kinds.Durable notices.Prepared) seats
    → AllByRecursion (SeatTells hosts v w) (map (recovered_seat state) seats)
recovered_tells hosts u v g w seats state h named =
    all_map (SeatTells hosts v w) (recovered_seat state) seats
    (all_more (λ s. (y : Who) → who_named hosts s.endpoint ≡ Some y → HasPosted u y kinds.Durable notices.Prepared) (λ s. SeatTells hosts v w (recovered_seat state s)) seats
    (λ s f y is. by_state h (posted_on u v g y kinds.Durable notices.Prepared (f y is))) named)
  where
    by_state : {y : Who} → (state ≡ states.Prepared) ⊎ ((state ≡ states.Committing) × HasCommitted v w) → HasPosted v y kinds.Durable notices.Prepared
        → SeatSays v w y kinds.Durable state
    by_state {y = y} (inl e) k = subst (SeatSays v w y kinds.Durable) (sym e) k
    by_state {y = y} (inr (e, c)) k = subst (SeatSays v w y kinds.Durable) (sym e) (k, c)

recovered_entries : (hosts : Hosts) (n : ℕ) (id : Numbers) (state : State) (seats : List Seated)
    → map (accepted_seat n (nodes_of hosts) id) (map (recovered_seat state) seats) ≡ map (accepted_named n (nodes_of hosts) id) seats
recovered_entries hosts n id state [] = refl
recovered_entries hosts n id state (s ∷ seats) = ap (λ zs. accepted_named n (nodes_of hosts) id s ∷ zs) (recovered_entries hosts n id state seats)

-- a transaction that is recovered from a record that stood behind every answer
record IsRecovered (hosts : Hosts) (v : World) (n : ℕ) (t : Transaction) : Type 0 where
  tells : TransactionTells hosts v n t
  keeps : KeepsItsDurable hosts v n t

recovered_so : (hosts : Hosts) (u v : World) → Grows u v → ((t y : Who) (number : ℕ) → HasSeat v t number kinds.Durable y → HasSeat u t number kinds.Durable y) → (n : ℕ) (id : Numbers) (seats : List Seated)
    (state : State) (t : Transaction) → t.id ≡ id → t.seats ≡ map (recovered_seat state) seats
    → (state ≡ states.Prepared) ⊎ ((state ≡ states.Committing) × HasCommitted v (record { node = n; id = id })) → IsBehindVotes hosts u (record { node = n; id = id }) seats
    → IsRecovered hosts v n t
recovered_so hosts u v g same n id seats state t own sits h answers = record {
  tells = subst (λ i. AllByRecursion (SeatTells hosts v (record { node = n; id = i })) t.seats) (sym own)
      (subst (AllByRecursion (SeatTells hosts v (record { node = n; id = id }))) (sym sits) (recovered_tells hosts u v g (record { node = n; id = id }) seats state h answers.named));
  keeps = λ phase number y i.
      subst (λ k. HasPosted v y kinds.Durable notices.ReadOnly ⊎ IsIn (registration (record { node = n; id = k }) number kinds.Durable y) (map (accepted_seat n (nodes_of hosts) k) t.seats)) (sym own)
      (either number y
      (answers.durable number y (same (record { node = n; id = id }) y number (subst (λ k. HasSeat v (record { node = n; id = k }) number kinds.Durable y) own i))));
}
  where
    either : (number : ℕ) (y : Who) → HasPosted u y kinds.Durable notices.ReadOnly
        ⊎ (HasPosted u y kinds.Durable notices.Prepared × IsIn (registration (record { node = n; id = id }) number kinds.Durable y) (map (accepted_named n (nodes_of hosts) id) seats))
        → HasPosted v y kinds.Durable notices.ReadOnly ⊎ IsIn (registration (record { node = n; id = id }) number kinds.Durable y) (map (accepted_seat n (nodes_of hosts) id) t.seats)
    either number y (inl k) = inl (posted_on u v g y kinds.Durable notices.ReadOnly k)
    either number y (inr (k, i)) =
        inr (subst (λ zs. IsIn (registration (record { node = n; id = id }) number kinds.Durable y) (map (accepted_seat n (nodes_of hosts) id) zs)) (sym sits)
        (subst (IsIn (registration (record { node = n; id = id }) number kinds.Durable y)) (sym (recovered_entries hosts n id state seats)) i))

recovered_one : (hosts : Hosts) (u v : World) → Grows u v → ((t y : Who) (number : ℕ) → HasSeat v t number kinds.Durable y → HasSeat u t number kinds.Durable y) → (n : ℕ) (base : List ℕ)
    (rs : List Record) (t : Transaction) → TransactionLife rs (happened_on n v.happened) t.id t → (r : Record) → RecordAnswers hosts u n r → transaction_from base (live rs) r ≡ Some t
    → IsRecovered hosts v n t
recovered_one hosts u v g same n base rs t life (records.Voted id superior seats) answers is = by_commit (list_any (is_sub_committed id) (live rs)) is
  where
    by_commit : (c : Bool) → Some (recovered_voted id superior seats c) ≡ Some t → IsRecovered hosts v n t
    by_commit true e =
        let it : recovered_voted id superior seats true ≡ t = cc in
        recovered_so hosts u v g same n id seats states.Committing t (ap (λ (z : Transaction). z.id) (sym it)) (ap (λ (z : Transaction). z.seats) (sym it))
        (inr (
          refl,
          subst (λ i. HasCommitted v (record { node = n; id = i })) (ap (λ (z : Transaction). z.id) (sym it))
              (commits_here v n rs t.id t life (ap (λ (z : Transaction). z.phase) (sym it))),
        )) answers
    by_commit false e =
        let it : recovered_voted id superior seats false ≡ t = cc in
        recovered_so hosts u v g same n id seats states.Prepared t (ap (λ (z : Transaction). z.id) (sym it)) (ap (λ (z : Transaction). z.seats) (sym it)) (inl refl) answers
recovered_one hosts u v g same n base rs t life (records.Decided id seats) answers is =
    let it : recovered_decided base id seats ≡ t = cc in
    recovered_so hosts u v g same n id seats states.Committing t (ap (λ (z : Transaction). z.id) (sym it)) (ap (λ (z : Transaction). z.seats) (sym it))
    (inr (
      refl,
      subst (λ i. HasCommitted v (record { node = n; id = i })) (ap (λ (z : Transaction). z.id) (sym it))
          (commits_here v n rs t.id t life (ap (λ (z : Transaction). z.phase) (sym it))),
    )) answers
recovered_one hosts u v g same n base rs t life other answers is = absurd cc

-- what is lost
lost_open : (n : ℕ) (b : Book) (s : Transaction) → IsIn s b.transactions → may_expire s.phase ≡ true → IsIn (happened_at n (ending s endings.Lost)) (lost_in n b)
lost_open n b s i u = by_superior s.superior refl
  where
    roots : List Happened
    roots = map (transaction_lost n) (filter is_lost_root b.transactions)

    subordinates : List Happened
    subordinates = map (transaction_lost n) (filter is_lost_subordinate b.transactions)

    leaves : List Happened
    leaves = map (leaf_lost n) (filter is_lost_leaf b.leaves)

    by_superior : (o : Option Superior) → s.superior ≡ o → IsIn (happened_at n (ending s endings.Lost)) (lost_in n b)
    by_superior None e =
        in_front (happened_at n (ending s endings.Lost)) roots (subordinates ++ leaves)
        (mapped_in (transaction_lost n) s (filter is_lost_root b.transactions) (passes is_lost_root s b.transactions i (λ j. is_none (e j) && u j)))
    by_superior (Some z) e =
        in_back (happened_at n (ending s endings.Lost)) roots (subordinates ++ leaves)
        (in_front (happened_at n (ending s endings.Lost)) subordinates leaves
        (mapped_in (transaction_lost n) s (filter is_lost_subordinate b.transactions) (passes is_lost_subordinate s b.transactions i (λ j. is_some (e j) && u j))))

-- what a promise stands for
voted_id : (id : Numbers) (superior : Epr) (seats : List Seated) (c : Bool) → (recovered_voted id superior seats c).id ≡ id
voted_id id superior seats true = refl
voted_id id superior seats false = refl

vote_stands : (base : List ℕ) (rs : List Record) (id : Numbers) (superior : Epr) (seats : List Seated) → IsIn (records.Voted id superior seats) (live rs)
    → (t : Transaction) × (transaction_at (recover base rs) id ≡ Some t)
vote_stands base rs id superior seats i = (
  recovered_voted id superior seats (list_any (is_sub_committed id) (live rs)),
  ap (transaction_at (recover base rs)) (sym (voted_id id superior seats (list_any (is_sub_committed id) (live rs))))
      ∙ recovers_each.transaction base rs (records.Voted id superior seats) (recovered_voted id superior seats (list_any (is_sub_committed id) (live rs))) i refl,
)

one_same : {A : Type 0} (o : Option A) (x y : A) → o ≡ Some x → o ≡ Some y → x ≡ y
one_same o x y e f = cc

-- every clause
falls_so : (hosts : Hosts) (u v : World) (n : ℕ) (x : Node) (b : Book) → WorldPremises hosts u → nth n u.nodes ≡ Some x → x.book ≡ Some b → IsOutcome hosts u → Grows u v → WorldLaws hosts v
    → v ≡ record u { nodes = put_nth n (record x { book = None }) u.nodes; happened = u.happened ++ lost_in n b } → AbortsWereTold v → IsOutcome hosts v
falls_so hosts u v n x b p found up j g laws is told = record {
  says = λ m y f. each_put (λ k z. AllByRecursion (TransactionTells hosts v k) (book_of z).transactions) u.nodes n x down found
      (all_of (TransactionTells hosts v n) (recover x.base x.journal).transactions (λ t i. (recovered t i).tells))
      (λ k z differ r. all_more (TransactionTells hosts u k) (TransactionTells hosts v k) (book_of z).transactions (tells_on hosts u v g k) (j.says k z r)) m y (there m y f);
  answers = λ m y f. each_put (λ k z. AllByRecursion (RecordAnswers hosts v k) z.journal) u.nodes n x down found
      (all_more (RecordAnswers hosts u n) (RecordAnswers hosts v n) x.journal (same_record n) (j.answers n x found))
      (λ k z differ r. all_more (RecordAnswers hosts u k) (RecordAnswers hosts v k) z.journal (same_record k) (j.answers k z r)) m y (there m y f);
  keeps = λ m y f. each_put (λ k z. AllByRecursion (KeepsItsDurable hosts v k) (book_of z).transactions) u.nodes n x down found
      (all_of (KeepsItsDurable hosts v n) (recover x.base x.journal).transactions (λ t i. (recovered t i).keeps))
      (λ k z differ r. all_more (KeepsItsDurable hosts u k) (KeepsItsDurable hosts v k) (book_of z).transactions
      (λ t h phase. durable_on hosts u v g k t (λ number kind who i. old (record { node = k; id = t.id }) number kind who i) (h phase)) (j.keeps k z r)) m y (there m y f);
  commits = subst (λ (ps : List Posted). AllByRecursion (λ q. CommitIsBacked hosts v q.content) ps) (sym (ap (λ (z : World). z.posted) is))
      (all_more (λ q. CommitIsBacked hosts u q.content) (λ q. CommitIsBacked hosts v q.content) u.posted (λ q. commit_on hosts u v g q.content) j.commits);
  rollbacks = subst (λ (ps : List Posted). AllByRecursion (λ q. RollbackIsBacked hosts v q.content) ps) (sym (ap (λ (z : World). z.posted) is))
      (all_more (λ q. RollbackIsBacked hosts u q.content) (λ q. RollbackIsBacked hosts v q.content) u.posted (λ q. rollback_on hosts u v g q.content) j.rollbacks);
  committeds = subst (λ (ps : List Posted). AllByRecursion (λ q. CommittedIsBacked hosts v q.content) ps) (sym (ap (λ (z : World). z.posted) is))
      (all_more (λ q. CommittedIsBacked hosts u q.content) (λ q. CommittedIsBacked hosts v q.content) u.posted (λ q. committed_backed_on hosts u v g q.content) j.committeds);
  aborts = told;
  gone = λ t y number h. gone_so t y (j.gone t y number (old t number kinds.Durable y h));
}
  where
    down : Node
    down = record x { book = None }

    there : (m : ℕ) (y : Node) → nth m v.nodes ≡ Some y → nth m (put_nth n down u.nodes) ≡ Some y
    there m y f = ap (λ (z : World). nth m z.nodes) (sym is) ∙ f

    old : (t : Who) (number : ℕ) (kind : Kind) (y : Who) → HasSeat v t number kind y → HasSeat u t number kind y
    old t number kind y i = subst (λ (z : World). HasSeat z t number kind y) is i

    same_record : (k : ℕ) (r : Record) → RecordAnswers hosts u k r → RecordAnswers hosts v k r
    same_record k r = record_on hosts u v g k r (λ id promise number kind y i. old (record { node = k; id = id }) number kind y i)

    is_down : nth n v.nodes ≡ Some down
    is_down = ap (λ (z : World). nth n z.nodes) is ∙ put_this u.nodes n x down found

    recovered : (t : Transaction) → IsIn t (recover x.base x.journal).transactions → IsRecovered hosts v n t
    recovered t i =
        let s : StandsFor x.base (live x.journal) t = recovers_each.transactions x.base x.journal t i in
        recovered_one hosts u v g (λ w y number h. old w number kinds.Durable y h) n x.base x.journal t
        (life_of x.journal (happened_on n v.happened) t.id (transaction_at (recover x.base x.journal) t.id) (leaf_at (recover x.base x.journal) t.id) t (laws.lives n down is_down t.id)
        (recovers_each.transaction x.base x.journal s.behind t s.live s.is)) s.behind
        (one_of (RecordAnswers hosts u n) (live x.journal) s.behind (all_live (RecordAnswers hosts u n) x.journal (λ id superior seats h. tt) (j.answers n x found)) s.live) s.is

    -- a transaction of the book that falls
    held_down : (t : Who) → t.node ≡ n → (new : Transaction) → transaction_at (recover x.base x.journal) t.id ≡ Some new → IsHeld v t
    held_down t same new f = record { node = down; found = ap (λ k. nth k v.nodes) same ∙ is_down; transaction = new; stands = f }

    fallen : (t y : Who) → t.node ≡ n → (s : Transaction) → transaction_at b t.id ≡ Some s → IsHeld v t ⊎ IsOver v t y
    fallen t y same s f = by_life life
      where
        own : s.id ≡ t.id
        own = found_id transaction_id t.id b.transactions s f

        whole : ◌≡◌ {A = Who} (record { node = n; id = s.id }) t
        whole k = record { node = sym same k; id = own k }

        life : TransactionLife x.journal (happened_on n u.happened) s.id s
        life =
            life_of x.journal (happened_on n u.happened) s.id (transaction_at (book_of x) s.id) (leaf_at (book_of x) s.id) s (p.laws.lives n x found s.id)
            (ap (λ o. transaction_at (standing x.base x.journal o) s.id) up ∙ ap (transaction_at b) own ∙ f)

        stands_on : (z : Transaction) × (transaction_at (recover x.base x.journal) s.id ≡ Some z) → IsHeld v t ⊎ IsOver v t y
        stands_on (z, h) = inl (held_down t same z (ap (transaction_at (recover x.base x.journal)) (sym own) ∙ h))

        by_life : TransactionLife x.journal (happened_on n u.happened) s.id s → IsHeld v t ⊎ IsOver v t y
        by_life (undecided o nothing k) =
            inr (inl (subst (HasAborted v) whole
            (inr (by_ending v n s.id s.superior endings.Lost
            (subst (λ (z : World). IsIn (happened_at n (ending s endings.Lost)) z.happened) (sym is)
            (in_back (happened_at n (ending s endings.Lost)) u.happened (lost_in n b) (lost_open n b s (among_book b s (ap (transaction_at b) own ∙ f)) o)))))))
        by_life (voted superior seats e r h out k) = stands_on (vote_stands x.base x.journal s.id superior seats h)
        by_life (decided seats e r h k) =
            stands_on (recovered_decided x.base s.id seats, recovers_each.transaction x.base x.journal (records.Decided s.id seats) (recovered_decided x.base s.id seats) h refl)
        by_life (committed superior seats e r h c k) = stands_on (vote_stands x.base x.journal s.id superior seats h)
        by_life (aborted e dead k) =
            inr (inl (aborted_on u v g t (subst (HasAborted u) whole (aborts_here u n x.journal s.id s refl (aborted e dead k) e))))

    held_so : (t y : Who) → IsHeld u t → IsHeld v t ⊎ IsOver v t y
    held_so t y held = by_node (nat_eq t.node n) refl
      where
        by_node : (c : Bool) → nat_eq t.node n ≡ c → IsHeld v t ⊎ IsOver v t y
        by_node true c =
            let same : t.node ≡ n = eqb-true t.node n c in
            let this : held.node ≡ x = one_same (nth n u.nodes) held.node x (ap (λ k. nth k u.nodes) (sym same) ∙ held.found) found in
            fallen t y same held.transaction
            (ap (λ o. transaction_at (standing x.base x.journal o) t.id) (sym up) ∙ ap (λ (z : Node). transaction_at (book_of z) t.id) (sym this) ∙ held.stands)
        by_node false c =
            inl (record {
              node = held.node;
              found = ap (λ (z : World). nth t.node z.nodes) is ∙ put_other u.nodes t.node n down (eqb-false t.node n c) ∙ held.found;
              transaction = held.transaction;
              stands = held.stands;
            })

    gone_so : (t y : Who) → IsHeld u t ⊎ IsOver u t y → IsHeld v t ⊎ IsOver v t y
    gone_so t y (inl held) = held_so t y held
    gone_so t y (inr over) = inr (over_on u v g t y over)

pub outcome_falls : FallKeeps (λ hosts w. AbortsWereTold w) → FallKeeps IsOutcome
outcome_falls told hosts u n x b p found up j =
    falls_so hosts u (goes_down n b u) n x b p found up j (grows_falls u n x b found)
    (world_laws hosts (goes_down n b u) p.laws.distinct (fell u n x b p.laws.reached found up refl)) (gone_down n b u x found) (told hosts u n x b p found up j)
