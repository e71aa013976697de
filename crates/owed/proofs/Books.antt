-- Books of transactions that stand as their phases want: over steps, recovery and runs.
use Rattle.std.specs.Prelude.{ℕ, List, [], ◌∷◌, Option, Some, None, Bool, true, false, ◌||◌, if◌then◌else◌, length, map, ◌≡◌, refl}
use Rattle.std.specs.List.{list_any, AllByRecursion}
use Rattle.std.proofs.Common.{sym, subst, ap, ◌∙◌}
use Rattle.at_base.specs.Numbers.{Numbers}
use Rattle.at_base.specs.declared.epr.Epr.{Epr}
use Rattle.at_base.specs.declared.notice.Kind.TheVariants as kinds
use Rattle.at_base.specs.declared.record.Seated.{Seated}
use Rattle.at_base.specs.declared.record.Record.{Record}
use Rattle.at_base.specs.declared.record.Record.TheVariants as records
use Rattle.at_base.specs.declared.event.Event.{Event}
use Rattle.at_tables.specs.declared.cells.State.{State}
use Rattle.at_tables.specs.declared.cells.State.TheVariants as states
use Rattle.at_model.specs.Posts.{accepted}
use Rattle.at_model.specs.Book.{Book, Phase, Transaction, transaction_id}
use Rattle.at_model.specs.Arrivals.{with_answer}
use Rattle.at_model.specs.Register.{on_register}
use Rattle.at_model.specs.Step.{Outcome, Plan, still, at_time, moment_of, put_transaction, put_leaf, put_activity, make_transaction, make_leaf, make_activity, registration_outcome, plan, step}
use Rattle.at_model.specs.Recovery.{ends_transaction, is_sub_committed, kept, live, no_seats, recover, recovered_decided, recovered_seat, recovered_voted, transactions_of, with_commit}
use Rattle.at_model.specs.World.{Node, World, nth, run_of, Hosts}
use Rattle.model_laws.specs.PhaseAnswers.{IsInPhase}
use Rattle.model_laws.specs.DrawnIds.{restarted, with_entry}
use Rattle.model_laws.specs.Laws.{HasLeafId}
use Rattle.model_laws.specs.ReachedWorlds.{Reached}
use Rattle.model_laws.specs.Shapes.{Shape, nothing_moves, time_moves, time_passes, transaction_moves, leaf_moves, activity_moves, transaction_registers, transaction_made, leaf_made, activity_made}
use Rattle.model_laws.proofs.DecisionLaws.{Both, in_branch, plain_both, decision_both, IfThere, decided_says, decided_entry, says_entry, all_find, all_put, all_join}
use Rattle.model_laws.proofs.DrawnItems.{leaf_moved_kept, activity_moved_kept}
use Rattle.model_laws.proofs.ItemIds.{IsOfLeaf, NamesLeaf, HasBoth, NoRecord}
use Rattle.model_laws.proofs.LinkDecisions.{Linked}
use Rattle.model_laws.proofs.DrawnIds.{all_in_order, no_entry}
use Rattle.model_laws.proofs.ReachedWorlds.{NodeLaw, nodes_hold, run_reached}
use Rattle.model_laws.proofs.StepShapes.{steps_touch_one}
use Rattle.model_laws.proofs.PhaseAnswers.{decides_behind_every_answer}
use Rattle.agreement.specs.FinishedTransactions.{IsFinished, AreFinished, NamesRising}
use Rattle.agreement.proofs.FinishedTransactions.{finishes_all}
use Rattle.owed.specs.Shape.{AreShaped, AreSuited, BooksAreShaped, IsShaped, NamesSomebody, suits}
use Rattle.owed.proofs.Rules.{Left, LeftIn}
use Rattle.owed.proofs.Steps.{created_shaped, moved_owes, register_shaped}
use Rattle.at_base.specs.declared.outs.Post.{Post}
use Rattle.at_base.specs.declared.event.Moment.{Moment}

left_shaped : (m : Moment) (e : Event) (old : Transaction) (ps : List Post) (t : Option Transaction) → LeftIn m e old ps t → IfThere IsShaped t
left_shaped m e old ps None h = tt
left_shaped m e old ps (Some t) h = h.0

-- a step
ShapedAfter : Outcome → Type 0
ShapedAfter o = AreShaped o.book

shaped_both : (b : Book) (e : Event) (now : ℕ) (p : Plan) → IsInPhase b → AreFinished b → AreShaped b → Shape b e now p → Both ShapedAfter p
unfolding ShapedAfter
shaped_both b e now p l n h (nothing_moves f) = subst (Both ShapedAfter) (sym f) (plain_both ShapedAfter (still b []) h)
shaped_both b e now p l n h (time_moves a os came why o f) = subst (Both ShapedAfter) (sym f) (plain_both ShapedAfter (still (at_time now b) os) h)
shaped_both b e now p l n h (time_passes came f) = subst (Both ShapedAfter) (sym f) (plain_both ShapedAfter (still (at_time now b) accepted) h)
shaped_both b e now p l n h (transaction_moves id t answer d stands how o f) =
    subst (Both ShapedAfter) (sym f)
    (decided_says (Left (moment_of b now) e t) (λ r c. NamesSomebody r) ShapedAfter (λ r o i. i) b (put_transaction t.id (at_time now b)) answer (with_answer (moment_of b now) t d)
    (moved_owes b e now t d (all_find IsShaped transaction_id id b.transactions t h stands) (all_find Linked transaction_id id b.transactions t l.links stands)
    (all_find IsFinished transaction_id id b.transactions t n stands) how)
    (λ c k. all_put IsShaped transaction_id t.id c.item b.transactions (left_shaped (moment_of b now) e t c.posts c.item k) h) h)
shaped_both b e now p l n h (leaf_moves id x answer d stands how o f) =
    subst (Both ShapedAfter) (sym f) (decision_both ShapedAfter (λ r o i. i) b (put_leaf x.id (at_time now b)) answer d (λ c. h) h)
shaped_both b e now p l n h (activity_moves id a answer d stands how o f) =
    subst (Both ShapedAfter) (sym f) (decision_both ShapedAfter (λ r o i. i) b (put_activity a.id (at_time now b)) answer d (λ c. h) h)
shaped_both b e now p l n h (transaction_registers id a r t stands came at says o f) =
    subst (Both ShapedAfter) (sym f)
    (plain_both ShapedAfter (registration_outcome b now (on_register (moment_of b now) a r t))
    (all_put IsShaped transaction_id (on_register (moment_of b now) a r t).transaction.id (Some (on_register (moment_of b now) a r t).transaction) b.transactions
    (register_shaped (moment_of b now) a r t (all_find IsShaped transaction_id id b.transactions t h stands)) h))
shaped_both b e now p l n h (transaction_made a c id t os came at says next made sent o f) =
    subst (Both ShapedAfter) (sym f)
    (plain_both ShapedAfter (still (make_transaction (at_time now b) t) os)
    (all_join IsShaped b.transactions (t ∷ []) h (created_shaped (moment_of b now) (length b.transactions) a c id t made, tt)))
shaped_both b e now p l n h (leaf_made a w id x os came at says next made sent o f) =
    subst (Both ShapedAfter) (sym f) (plain_both ShapedAfter (still (make_leaf (at_time now b) x) os) h)
shaped_both b e now p l n h (activity_made id a os next made o f) =
    subst (Both ShapedAfter) (sym f) (plain_both ShapedAfter (still (make_activity (at_time now b) a) os) h)

pub step_shaped : (b : Book) (e : Event) (now : ℕ) (landed : Bool) → IsInPhase b → AreFinished b → AreShaped b → AreShaped (step b e now landed).book
unfolding ShapedAfter
step_shaped b e now landed l n h = in_branch ShapedAfter (plan b e now) landed (shaped_both b e now (plan b e now) l n h (steps_touch_one b e now))

-- what is recorded
leaf_names : (id : Numbers) (r : Record) → IsOfLeaf id r → NamesSomebody r
leaf_names id (records.Voted i superior named) h = absurd h
leaf_names id other h = tt

entry_names : (b : Book) (e : Event) (now : ℕ) (p : Plan) (r : Record) → IsInPhase b → AreFinished b → AreShaped b → Shape b e now p → p.entry ≡ Some r → NamesSomebody r
entry_names b e now p r l n h (nothing_moves f) k = absurd (no_entry p _ r f k)
entry_names b e now p r l n h (time_moves a os came why o f) k = absurd (no_entry p _ r f k)
entry_names b e now p r l n h (time_passes came f) k = absurd (no_entry p _ r f k)
entry_names b e now p r l n h (transaction_moves id t answer d stands how o f) k =
    says_entry (Left (moment_of b now) e t) (λ s c. NamesSomebody s) (λ s x. NamesSomebody s) (λ s r o i. i) b (put_transaction t.id (at_time now b)) answer (with_answer (moment_of b now) t d) r
    (moved_owes b e now t d (all_find IsShaped transaction_id id b.transactions t h stands) (all_find Linked transaction_id id b.transactions t l.links stands)
    (all_find IsFinished transaction_id id b.transactions t n stands) how) (λ s c i j. j) (sym (ap (λ x. x.entry) f) ∙ k)
entry_names b e now p r l n h (leaf_moves id x answer d stands how o f) k =
    decided_entry (HasLeafId x.id) (NamesLeaf x.id) (λ s x. NamesSomebody s) (λ s r o i. i) b (put_leaf x.id (at_time now b)) answer d r (leaf_moved_kept b e now x d how)
    (λ s c i j. leaf_names x.id s j) (sym (ap (λ x. x.entry) f) ∙ k)
entry_names b e now p r l n h (activity_moves id a answer d stands how o f) k =
    decided_entry (HasBoth a) NoRecord (λ s x. NamesSomebody s) (λ s r o i. i) b (put_activity a.id (at_time now b)) answer d r (activity_moved_kept b e now a d how)
    (λ s c i j. absurd j) (sym (ap (λ x. x.entry) f) ∙ k)
entry_names b e now p r l n h (transaction_registers id a c t stands came at says o f) k = absurd (no_entry p _ r f k)
entry_names b e now p r l n h (transaction_made a c id t os came at says next made sent o f) k = absurd (no_entry p _ r f k)
entry_names b e now p r l n h (leaf_made a x id y os came at says next made sent o f) k = absurd (no_entry p _ r f k)
entry_names b e now p r l n h (activity_made id a os next made o f) k = absurd (no_entry p _ r f k)

pub step_names : (b : Book) (e : Event) (now : ℕ) (r : Record) → IsInPhase b → AreFinished b → AreShaped b → (plan b e now).entry ≡ Some r → NamesSomebody r
step_names b e now r l n h k = entry_names b e now (plan b e now) r l n h (steps_touch_one b e now) k

-- recovery: what is live names somebody
abbrev IsOfSomebody : Record → Type 0
IsOfSomebody (records.Voted id superior seats) = no_seats seats ≡ false
IsOfSomebody (records.Decided id seats) = no_seats seats ≡ false
IsOfSomebody other = Unit {0}

if_none : (b : Bool) (xs : List Record) → AllByRecursion IsOfSomebody xs → AllByRecursion IsOfSomebody (if b then [] else xs)
if_none true xs h = tt
if_none false xs h = h

with_commit_somebody : (id : Numbers) (rest : List Record) → AllByRecursion IsOfSomebody (with_commit id rest)
with_commit_somebody id rest = by_test (list_any (is_sub_committed id) rest)
  where
    by_test : (b : Bool) → AllByRecursion IsOfSomebody (if b then records.SubCommitted id ∷ [] else [])
    by_test true = (tt, tt)
    by_test false = tt

kept_somebody : (r : Record) (rest : List Record) → NamesSomebody r → AllByRecursion IsOfSomebody (kept r rest)
kept_somebody (records.LeafPrepared id coordinator key value) rest h = if_none _ (records.LeafPrepared id coordinator key value ∷ []) (tt, tt)
kept_somebody (records.Voted id superior seats) rest h =
    if_none (list_any (ends_transaction id) rest) (records.Voted id superior seats ∷ with_commit id rest) (h, with_commit_somebody id rest)
kept_somebody (records.Decided id seats) rest h = by_test (no_seats seats) (list_any (ends_transaction id) rest) refl
  where
    by_test : (a b : Bool) → no_seats seats ≡ a → AllByRecursion IsOfSomebody (if a || b then [] else records.Decided id seats ∷ [])
    by_test true b f = tt
    by_test false true f = tt
    by_test false false f = (f, tt)
kept_somebody other rest h = tt

live_somebody : (rs : List Record) → AllByRecursion NamesSomebody rs → AllByRecursion IsOfSomebody (live rs)
live_somebody [] h = tt
live_somebody (r ∷ rest) (h, hs) = all_join IsOfSomebody (kept r rest) (live rest) (kept_somebody r rest h) (live_somebody rest hs)

seats_suited : (phase : Phase) (state : State) (seats : List Seated) → suits phase kinds.Durable state ≡ true → AreSuited phase (map (recovered_seat state) seats)
seats_suited phase state [] h = tt
seats_suited phase state (s ∷ ss) h = (h, seats_suited phase state ss h)

voted_shaped : (id : Numbers) (superior : Epr) (seats : List Seated) (committed : Bool) → no_seats seats ≡ false → IsShaped (recovered_voted id superior seats committed)
voted_shaped id superior [] committed h = absurd cc
voted_shaped id superior (s ∷ ss) true h = (seats_suited Phase.Committing states.Committing (s ∷ ss) refl, (refl, (tt, refl)))
voted_shaped id superior (s ∷ ss) false h = (seats_suited Phase.Voted states.Prepared (s ∷ ss) refl, (refl, (tt, refl)))

decided_shaped : (base : List ℕ) (id : Numbers) (seats : List Seated) → no_seats seats ≡ false → IsShaped (recovered_decided base id seats)
decided_shaped base id [] h = absurd cc
decided_shaped base id (s ∷ ss) h = (seats_suited Phase.Committing states.Committing (s ∷ ss) refl, (refl, tt))

records_shaped : (base : List ℕ) (rs : List Record) → AllByRecursion IsOfSomebody rs → AllByRecursion IsShaped (transactions_of base rs)
records_shaped base [] h = tt
records_shaped base (records.Voted id superior seats ∷ rest) (h, k) = (voted_shaped id superior seats (list_any (is_sub_committed id) rest) h, records_shaped base rest k)
records_shaped base (records.Decided id seats ∷ rest) (h, k) = (decided_shaped base id seats h, records_shaped base rest k)
records_shaped base (records.Start incarnation ∷ rest) (h, k) = records_shaped base rest k
records_shaped base (records.LeafPrepared id coordinator key value ∷ rest) (h, k) = records_shaped base rest k
records_shaped base (records.LeafCommitted id ∷ rest) (h, k) = records_shaped base rest k
records_shaped base (records.LeafAborted id ∷ rest) (h, k) = records_shaped base rest k
records_shaped base (records.SubCommitted id ∷ rest) (h, k) = records_shaped base rest k
records_shaped base (records.Ended id ∷ rest) (h, k) = records_shaped base rest k
records_shaped base (records.Done id ∷ rest) (h, k) = records_shaped base rest k

pub recovered_shaped : (base : List ℕ) (rs : List Record) → AllByRecursion NamesSomebody rs → AreShaped (recover base rs)
recovered_shaped base rs h = all_in_order IsShaped transaction_id (transactions_of base (live rs)) (records_shaped base (live rs) (live_somebody rs h))

-- runs
with_names : (P : Record → Type 0) (entry : Option Record) (landed : Bool) (rs : List Record) → ((r : Record) → entry ≡ Some r → P r) → AllByRecursion P rs → AllByRecursion P (with_entry entry landed rs)
with_names P None landed rs f h = h
with_names P (Some r) true rs f h = all_join P rs (r ∷ []) h (f r refl, tt)
with_names P (Some r) false rs f h = h

record IsGood (b : Book) : Type 0 where
  phases : IsInPhase b
  finished : AreFinished b
  shaped : AreShaped b

record IsGoodNode (rs : List Record) (o : Option Book) : Type 0 where
  rising : AllByRecursion NamesRising rs
  somebody : AllByRecursion NamesSomebody rs
  book : IfThere IsGood o

shape_law : NodeLaw
shape_law = record {
  Good = IsGoodNode;
  opens = record { rising = tt; somebody = tt; book = tt };
  steps = λ rs b e now landed h. record {
    rising = with_names NamesRising (plan b e now).entry landed rs (λ r k. finishes_all.entry b e now r h.book.finished k) h.rising;
    somebody = with_names NamesSomebody (plan b e now).entry landed rs (λ r k. step_names b e now r h.book.phases h.book.finished h.book.shaped k) h.somebody;
    book = record {
      phases = decides_behind_every_answer.book b e now landed h.book.phases;
      finished = finishes_all.book b e now landed h.book.phases h.book.finished;
      shaped = step_shaped b e now landed h.book.phases h.book.finished h.book.shaped;
    };
  };
  falls = λ rs b h. record { rising = h.rising; somebody = h.somebody; book = tt };
  rises = λ base rs small h. record {
    rising = all_join NamesRising rs _ h.rising (tt, tt);
    somebody = all_join NamesSomebody rs _ h.somebody (tt, tt);
    book = record {
      phases = decides_behind_every_answer.recovered base (restarted rs);
      finished = finishes_all.recovered base (restarted rs) (all_join NamesRising rs _ h.rising (tt, tt));
      shaped = recovered_shaped base (restarted rs) (all_join NamesSomebody rs _ h.somebody (tt, tt));
    };
  };
}

node_good : (hosts : Hosts) (w : World) → Reached hosts w → (n : ℕ) (x : Node) → nth n w.nodes ≡ Some x → IsGoodNode x.journal x.book
unfolding shape_law
node_good hosts w reached n x found = nodes_hold shape_law hosts w reached n x found

book_good : (o : Option Book) (b : Book) → o ≡ Some b → IfThere IsGood o → IsGood b
book_good o b up h = subst (IfThere IsGood) up h

pub reached_shaped : (hosts : Hosts) (w : World) → Reached hosts w → (n : ℕ) (x : Node) (b : Book) → nth n w.nodes ≡ Some x → x.book ≡ Some b → AreShaped b
reached_shaped hosts w reached n x b found up = (book_good x.book b up (node_good hosts w reached n x found).book).shaped

pub books_are_shaped : BooksAreShaped
books_are_shaped = record {
  book = step_shaped;
  entry = step_names;
  recovered = recovered_shaped;
  reached = reached_shaped;
  runs = λ hosts es n x b found up. reached_shaped hosts (run_of hosts es) (run_reached hosts es) n x b found up;
}
