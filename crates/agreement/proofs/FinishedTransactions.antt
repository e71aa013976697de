-- Each transaction is finished as its phase wants, and what is recorded names seats that rise.
use Rattle.std.specs.Prelude.{ℕ, List, [], ◌∷◌, Option, Some, None, Bool, true, false, length, map, ◌≡◌, refl}
use Rattle.std.specs.List.{list_any, AllByRecursion}
use Rattle.std.proofs.Common.{sym, subst, ap, inr, ◌∙◌}
use Rattle.at_base.specs.Numbers.{Numbers}
use Rattle.at_base.specs.WellFormed.{Rises}
use Rattle.at_base.specs.declared.epr.Epr.{Epr}
use Rattle.at_base.specs.declared.record.Seated.{Seated}
use Rattle.at_base.specs.declared.record.Record.{Record}
use Rattle.at_base.specs.declared.record.Record.TheVariants as records
use Rattle.at_base.specs.declared.event.Event.{Event}
use Rattle.at_tables.specs.declared.cells.State.{State}
use Rattle.at_tables.specs.declared.cells.State.TheVariants as states
use Rattle.at_model.specs.Posts.{accepted}
use Rattle.at_model.specs.Book.{Book, Transaction, transaction_id}
use Rattle.at_model.specs.Moves.{Decision}
use Rattle.at_model.specs.Arrivals.{with_answer}
use Rattle.at_model.specs.Register.{on_register}
use Rattle.at_model.specs.Step.{Outcome, Plan, still, at_time, moment_of, put_transaction, put_leaf, put_activity, make_transaction, make_leaf, make_activity, registration_outcome, plan, step}
use Rattle.at_model.specs.Recovery.{live, is_sub_committed, transactions_of, recovered_seat, recovered_voted, recovered_decided, recover}
use Rattle.at_model.specs.World.{Node, WorldEvent, nth, run_of, Hosts}
use Rattle.model_laws.specs.PhaseAnswers.{IsInPhase}
use Rattle.model_laws.specs.DrawnIds.{restarted, with_entry}
use Rattle.model_laws.specs.Laws.{HasLeafId}
use Rattle.model_laws.specs.Shapes.{MovesTransaction, Shape, at_seat, at_link, at_completion, when_due, nothing_moves, time_moves, time_passes, transaction_moves, leaf_moves, activity_moves, transaction_registers, transaction_made, leaf_made, activity_made}
use Rattle.model_laws.specs.BookBounds.{SeatsRise}
use Rattle.model_laws.proofs.DecisionLaws.{Both, in_branch, plain_both, decision_both, IfThere, decided_both, decided_entry, all_find, all_put, all_join, all_more}
use Rattle.model_laws.proofs.DrawnItems.{leaf_moved_kept, activity_moved_kept}
use Rattle.model_laws.proofs.ItemIds.{IsOfLeaf, NamesLeaf, HasBoth, NoRecord}
use Rattle.model_laws.proofs.LinkDecisions.{Linked}
use Rattle.model_laws.proofs.DrawnIds.{all_live, all_in_order, no_entry}
use Rattle.model_laws.proofs.ReachedWorlds.{NodeLaw, nodes_hold, run_reached}
use Rattle.model_laws.proofs.StepShapes.{steps_touch_one}
use Rattle.model_laws.proofs.PhaseAnswers.{decides_behind_every_answer}
use Rattle.agreement.specs.FinishedTransactions.{IsFinished, AreFinished, NamesRising, FinishesAll}
use Rattle.agreement.proofs.FinishedMoves.{Finished, is_finished, FinishedIf, Names, Ends, seat_ends, link_ends, completion_ends, due_ends, with_answer_ends, ready, register_ends, created_ends}

-- each way to move
moved_ends : (b : Book) (e : Event) (now : ℕ) (t : Transaction) (d : Decision Transaction) → IsFinished t → MovesTransaction b e now t d → Ends (Linked t) (with_answer (moment_of b now) t d)
moved_ends b e now t d h (at_seat a s came why is) =
    with_answer_ends (Linked t) (moment_of b now) t d (subst (Ends (Linked t)) (sym is) (seat_ends (Linked t) (moment_of b now) a t s a.message (ready t h)))
moved_ends b e now t d h (at_link a kind s came why under is) =
    with_answer_ends (Linked t) (moment_of b now) t d (subst (Ends (Linked t)) (sym is) (link_ends (moment_of b now) a kind t s a.message under (ready t h)))
moved_ends b e now t d h (at_completion a c came why there is) =
    with_answer_ends (Linked t) (moment_of b now) t d (subst (Ends (Linked t)) (sym is) (completion_ends (Linked t) (moment_of b now) a t c a.message there (ready t h)))
moved_ends b e now t d h (when_due came is) =
    with_answer_ends (Linked t) (moment_of b now) t d (subst (Ends (Linked t)) (sym is) (due_ends (Linked t) (moment_of b now) t _ (ready t h)))

-- what is left of a transaction that follows its links
left_finished : (G : Type 0) (new : Option Transaction) → G → IfThere (FinishedIf G) new → IfThere IsFinished new
left_finished G None g h = tt
left_finished G (Some t) g h = is_finished t (h g)

-- a step
FinishedAfter : Outcome → Type 0
FinishedAfter o = AreFinished o.book

finished_both : (b : Book) (e : Event) (now : ℕ) (p : Plan) → IsInPhase b → AreFinished b → Shape b e now p → Both FinishedAfter p
unfolding FinishedAfter
finished_both b e now p l h (nothing_moves f) = subst (Both FinishedAfter) (sym f) (plain_both FinishedAfter (still b []) h)
finished_both b e now p l h (time_moves a os came why o f) = subst (Both FinishedAfter) (sym f) (plain_both FinishedAfter (still (at_time now b) os) h)
finished_both b e now p l h (time_passes came f) = subst (Both FinishedAfter) (sym f) (plain_both FinishedAfter (still (at_time now b) accepted) h)
finished_both b e now p l h (transaction_moves id t answer d stands how o f) =
    subst (Both FinishedAfter) (sym f)
    (decided_both (IfThere (FinishedIf (Linked t))) Names FinishedAfter (λ r o i. i) b (put_transaction t.id (at_time now b)) answer (with_answer (moment_of b now) t d)
    (moved_ends b e now t d (all_find IsFinished transaction_id id b.transactions t h stands) how)
    (λ c k. all_put IsFinished transaction_id t.id c.item b.transactions (left_finished (Linked t) c.item (all_find Linked transaction_id id b.transactions t l.links stands) k) h) h)
finished_both b e now p l h (leaf_moves id x answer d stands how o f) =
    subst (Both FinishedAfter) (sym f) (decision_both FinishedAfter (λ r o i. i) b (put_leaf x.id (at_time now b)) answer d (λ c. h) h)
finished_both b e now p l h (activity_moves id a answer d stands how o f) =
    subst (Both FinishedAfter) (sym f) (decision_both FinishedAfter (λ r o i. i) b (put_activity a.id (at_time now b)) answer d (λ c. h) h)
finished_both b e now p l h (transaction_registers id a r t stands came at says o f) =
    subst (Both FinishedAfter) (sym f)
    (plain_both FinishedAfter (registration_outcome b now (on_register (moment_of b now) a r t))
    (all_put IsFinished transaction_id (on_register (moment_of b now) a r t).transaction.id (Some (on_register (moment_of b now) a r t).transaction) b.transactions
    (register_ends (moment_of b now) a r t (all_find IsFinished transaction_id id b.transactions t h stands)) h))
finished_both b e now p l h (transaction_made a c id t os came at says next made sent o f) =
    subst (Both FinishedAfter) (sym f)
    (plain_both FinishedAfter (still (make_transaction (at_time now b) t) os)
    (all_join IsFinished b.transactions (t ∷ []) h (created_ends (moment_of b now) (length b.transactions) a c id t made, tt)))
finished_both b e now p l h (leaf_made a w id x os came at says next made sent o f) =
    subst (Both FinishedAfter) (sym f) (plain_both FinishedAfter (still (make_leaf (at_time now b) x) os) h)
finished_both b e now p l h (activity_made id a os next made o f) =
    subst (Both FinishedAfter) (sym f) (plain_both FinishedAfter (still (make_activity (at_time now b) a) os) h)

step_finished : (b : Book) (e : Event) (now : ℕ) (landed : Bool) → IsInPhase b → AreFinished b → AreFinished (step b e now landed).book
unfolding FinishedAfter
step_finished b e now landed l h = in_branch FinishedAfter (plan b e now) landed (finished_both b e now (plan b e now) l h (steps_touch_one b e now))

-- what is recorded
leaf_names : (id : Numbers) (r : Record) → IsOfLeaf id r → NamesRising r
leaf_names id (records.Decided i named) h = absurd h
leaf_names id (records.Voted i superior named) h = absurd h
leaf_names id other h = tt

entry_names : (b : Book) (e : Event) (now : ℕ) (p : Plan) (r : Record) → AreFinished b → Shape b e now p → p.entry ≡ Some r → NamesRising r
entry_names b e now p r h (nothing_moves f) k = absurd (no_entry p _ r f k)
entry_names b e now p r h (time_moves a os came why o f) k = absurd (no_entry p _ r f k)
entry_names b e now p r h (time_passes came f) k = absurd (no_entry p _ r f k)
entry_names b e now p r h (transaction_moves id t answer d stands how o f) k =
    decided_entry (IfThere (FinishedIf (Linked t))) Names (λ s x. NamesRising s) (λ s r o i. i) b (put_transaction t.id (at_time now b)) answer (with_answer (moment_of b now) t d) r
    (moved_ends b e now t d (all_find IsFinished transaction_id id b.transactions t h stands) how) (λ s c i j. j) (sym (ap (λ x. x.entry) f) ∙ k)
entry_names b e now p r h (leaf_moves id l answer d stands how o f) k =
    decided_entry (HasLeafId l.id) (NamesLeaf l.id) (λ s x. NamesRising s) (λ s r o i. i) b (put_leaf l.id (at_time now b)) answer d r (leaf_moved_kept b e now l d how)
    (λ s c i j. leaf_names l.id s j) (sym (ap (λ x. x.entry) f) ∙ k)
entry_names b e now p r h (activity_moves id a answer d stands how o f) k =
    decided_entry (HasBoth a) NoRecord (λ s x. NamesRising s) (λ s r o i. i) b (put_activity a.id (at_time now b)) answer d r (activity_moved_kept b e now a d how)
    (λ s c i j. absurd j) (sym (ap (λ x. x.entry) f) ∙ k)
entry_names b e now p r h (transaction_registers id a c t stands came at says o f) k = absurd (no_entry p _ r f k)
entry_names b e now p r h (transaction_made a c id t os came at says next made sent o f) k = absurd (no_entry p _ r f k)
entry_names b e now p r h (leaf_made a x id l os came at says next made sent o f) k = absurd (no_entry p _ r f k)
entry_names b e now p r h (activity_made id a os next made o f) k = absurd (no_entry p _ r f k)

step_names : (b : Book) (e : Event) (now : ℕ) (r : Record) → AreFinished b → (plan b e now).entry ≡ Some r → NamesRising r
step_names b e now r h k = entry_names b e now (plan b e now) r h (steps_touch_one b e now) k

-- recovery
seats_rise : (state : State) (last : ℕ) (seats : List Seated) → Rises last seats → SeatsRise last (map (recovered_seat state) seats)
seats_rise state last [] h = tt
seats_rise state last (s ∷ ss) (h, k) = (h, seats_rise state s.number ss k)

voted_finished : (id : Numbers) (superior : Epr) (seats : List Seated) (committed : Bool) → Rises 0 seats → Finished (recovered_voted id superior seats committed)
voted_finished id superior seats true h = ((λ e. absurd cc), (λ c e f. absurd cc), inr (refl, seats_rise states.Committing 0 seats h))
voted_finished id superior seats false h = ((λ e. absurd cc), (λ c e f. absurd cc), inr (refl, seats_rise states.Prepared 0 seats h))

decided_finished : (base : List ℕ) (id : Numbers) (seats : List Seated) → Rises 0 seats → Finished (recovered_decided base id seats)
decided_finished base id seats h = ((λ e. absurd cc), (λ c e f. absurd cc), inr (refl, seats_rise states.Committing 0 seats h))

records_finished : (base : List ℕ) (rs : List Record) → AllByRecursion NamesRising rs → AllByRecursion Finished (transactions_of base rs)
records_finished base [] h = tt
records_finished base (records.Voted id superior seats ∷ rest) (h, k) =
    (voted_finished id superior seats (list_any (is_sub_committed id) rest) h, records_finished base rest k)
records_finished base (records.Decided id seats ∷ rest) (h, k) = (decided_finished base id seats h, records_finished base rest k)
records_finished base (records.Start incarnation ∷ rest) (h, k) = records_finished base rest k
records_finished base (records.LeafPrepared id coordinator key value ∷ rest) (h, k) = records_finished base rest k
records_finished base (records.LeafCommitted id ∷ rest) (h, k) = records_finished base rest k
records_finished base (records.LeafAborted id ∷ rest) (h, k) = records_finished base rest k
records_finished base (records.SubCommitted id ∷ rest) (h, k) = records_finished base rest k
records_finished base (records.Ended id ∷ rest) (h, k) = records_finished base rest k
records_finished base (records.Done id ∷ rest) (h, k) = records_finished base rest k

recovered_finished : (base : List ℕ) (rs : List Record) → AllByRecursion NamesRising rs → AreFinished (recover base rs)
recovered_finished base rs h =
    all_more Finished IsFinished (recover base rs).transactions is_finished
    (all_in_order Finished transaction_id (transactions_of base (live rs)) (records_finished base (live rs) (all_live NamesRising rs (λ id superior seats k. tt) h)))

-- runs
with_names : (entry : Option Record) (landed : Bool) (rs : List Record) → ((r : Record) → entry ≡ Some r → NamesRising r) → AllByRecursion NamesRising rs
    → AllByRecursion NamesRising (with_entry entry landed rs)
with_names None landed rs f h = h
with_names (Some r) true rs f h = all_join NamesRising rs (r ∷ []) h (f r refl, tt)
with_names (Some r) false rs f h = h

restart_names : (rs : List Record) → AllByRecursion NamesRising rs → AllByRecursion NamesRising (restarted rs)
restart_names rs h = all_join NamesRising rs _ h (tt, tt)

record IsGood (b : Book) : Type 0 where
  phases : IsInPhase b
  finished : AreFinished b

record IsGoodNode (rs : List Record) (o : Option Book) : Type 0 where
  names : AllByRecursion NamesRising rs
  book : IfThere IsGood o

finished_law : NodeLaw
finished_law = record {
  Good = IsGoodNode;
  opens = record { names = tt; book = tt };
  steps = λ rs b e now landed h. record {
    names = with_names (plan b e now).entry landed rs (λ r k. step_names b e now r h.book.finished k) h.names;
    book = record { phases = decides_behind_every_answer.book b e now landed h.book.phases; finished = step_finished b e now landed h.book.phases h.book.finished };
  };
  falls = λ rs b h. record { names = h.names; book = tt };
  rises = λ base rs small h. record {
    names = restart_names rs h.names;
    book = record { phases = decides_behind_every_answer.recovered base (restarted rs); finished = recovered_finished base (restarted rs) (restart_names rs h.names) };
  };
}

node_good : (hosts : Hosts) (es : List WorldEvent) (n : ℕ) (x : Node) → nth n (run_of hosts es).nodes ≡ Some x → IsGoodNode x.journal x.book
unfolding finished_law
node_good hosts es n x found = nodes_hold finished_law hosts (run_of hosts es) (run_reached hosts es) n x found

book_good : (o : Option Book) (b : Book) → o ≡ Some b → IfThere IsGood o → IsGood b
book_good o b up h = subst (IfThere IsGood) up h

pub finishes_all : FinishesAll
finishes_all = record {
  book = step_finished;
  entry = step_names;
  recovered = recovered_finished;
  journals = λ hosts es n x found. (node_good hosts es n x found).names;
  books = λ hosts es n x b found up. (book_good x.book b up (node_good hosts es n x found).book).finished;
}
