-- A book pays for what it posts: over the shapes of a step.
use Rattle.std.specs.Prelude.{ℕ, List, [], Option, Some, None, Bool, not, ◌+◌, max, ◌≡◌, ◌≤◌, refl}
use Rattle.std.specs.List.{sum_by}
use Rattle.std.proofs.Common.{arith, sym, subst, ap, ◌∙◌}
use Rattle.at_base.specs.Numbers.{Numbers}
use Rattle.at_base.specs.declared.event.Arrived.{Arrived}
use Rattle.at_base.specs.declared.event.Event.{Event}
use Rattle.at_base.specs.declared.event.Event.TheVariants as events
use Rattle.at_base.specs.declared.event.Local.{Local}
use Rattle.at_base.specs.declared.message.Message.{Message}
use Rattle.at_base.specs.declared.message.Message.TheVariants as messages
use Rattle.at_base.specs.declared.message.Register.{Register}
use Rattle.at_base.specs.declared.outs.Out.{Out}
use Rattle.at_tables.specs.declared.cells.State.TheVariants as states
use Rattle.at_tables.specs.Tables.{completion_of}
use Rattle.at_model.specs.Book.{Activity, Book, Leaf, Transaction, activity_id, leaf_id, put_by, find_by, transaction_id}
use Rattle.at_model.specs.Moves.{Change, Decision}
use Rattle.at_model.specs.Posts.{accepted}
use Rattle.at_model.specs.Arrivals.{with_answer}
use Rattle.at_model.specs.Register.{Registration, on_register, protocol_named}
use Rattle.at_model.specs.Step.{Outcome, Plan, activity_at, at_time, is_under, leaf_at, moment_of, outcome_of, plan, put_activities, put_activity, put_leaf, put_transaction, registration_outcome, still, step, time_of, transaction_at}
use Rattle.model_laws.specs.Shapes.{Answers, IsAnswer, MakesActivity, MovesActivity, MovesLeaf, MovesTransaction, Shape, activity_made, activity_moves, activity_when_due, at_activity, at_completion, at_leaf, at_link, at_seat, begins, committed, completes, ignored, interposes, leaf_made, leaf_moves, leaf_when_due, not_created, not_employed, not_registered, nothing_moves, time_moves, time_passes, transaction_made, transaction_moves, transaction_registers, unknown, when_due, works}
use Rattle.model_laws.proofs.DecisionLaws.{Both, all_find, decided_says, found_id, in_branch, plain_both}
use Rattle.model_laws.proofs.ItemIds.{register_kept}
use Rattle.model_laws.proofs.LinkDecisions.{Linked}
use Rattle.model_laws.proofs.Order.{ids_rise}
use Rattle.model_laws.proofs.ReachedWorlds.{run_reached}
use Rattle.model_laws.proofs.StepShapes.{steps_touch_one}
use Rattle.model_laws.proofs.PhaseAnswers.{decides_behind_every_answer}
use Rattle.model_laws.specs.ReachedWorlds.{Reached}
use Rattle.agreement.proofs.FinishedTransactions.{finishes_all}
use Rattle.agreement.proofs.SeatedBooks.{IsSoundBook, book_sound}
use Rattle.at_model.specs.World.{Node, World, nth, run_of, Hosts}
use Rattle.agreement.specs.FinishedTransactions.{IsFinished}
use Rattle.settling.specs.Load.{Prices, activity_load, items_load, leaf_load, load, posts_in, transaction_load, weight, weights}
use Rattle.settling.specs.Payments.{IsSteady, MakesNothing, Pays, after}
use Rattle.settling.proofs.SeatPayments.{Acted, seat_paid, spends}
use Rattle.settling.proofs.CompletionPayments.{Covers, completion_paid, due_paid, left_load, with_answer_covered}
use Rattle.settling.proofs.Costs.{completion_within, spare, spare_is}
use Rattle.settling.proofs.LeafPayments.{LeafActed, LeafCovers, leaf_due_paid, leaf_paid, left_leaf}
use Rattle.settling.proofs.Links.{link_paid}
use Rattle.settling.proofs.SeatNumbers.{seat_alone}
use Rattle.settling.proofs.RegisterPayments.{answer_posts, answer_weighs, outcome_paid, register_paid, unknown_paid, unknown_weighs}
use Rattle.settling.proofs.ActivityPayments.{ActivityActed, ActivityCovers, activity_due_paid, activity_paid, left_activity}
use Rattle.settling.proofs.Weights.{AnyEntry, sum_filter, sum_put}

-- what an event may spend: a message all of its weight but 1
abbrev pub allowance : Prices → Message → ℕ
allowance P (messages.Notice n) = spare n
allowance P (messages.Register r) = 9 + P.seat
allowance P other = 0

abbrev pub allowed : Prices → Event → ℕ
allowed P (events.Arrived a) = allowance P a.message
allowed P other = 0

pub allowance_less : (P : Prices) (x : Message) → MakesNothing x → allowance P x + 1 ≤ weight P x
allowance_less P (messages.Notice n) h = omega (arith, spare_is n)
allowance_less P (messages.Register r) h = omega arith
allowance_less P (messages.Create c) h = absurd h
allowance_less P (messages.Work w) h = absurd h
allowance_less P other h = omega arith

spends_less : (P : Prices) (x : Message) → spends x ≤ allowance P x
spends_less P (messages.Notice n) = omega arith
spends_less P other = omega arith

arrived_allows : (P : Prices) (e : Event) (a : Arrived) → e ≡ events.Arrived a → spends a.message ≤ allowed P e
arrived_allows P e a came = subst (λ x. spends a.message ≤ allowed P x) (sym came) (spends_less P a.message)

-- an event that makes nothing
abbrev pub Plain : Event → Type 0
Plain (events.Arrived a) = MakesNothing a.message
Plain (events.Local l) = ⊥
Plain other = Unit {0}

-- what a step comes to is within the limit
pub record Within (P : Prices) (now limit : ℕ) (o : Outcome) : Type 0 where
  pub paid : after P now o ≤ limit

same_time : (P : Prices) (now s : ℕ) (b : Book) → items_load P (max now (max now s)) b ≡ items_load P (max now s) b
same_time P now s b = let same : max now (max now s) ≡ max now s = omega arith in ap (λ n. items_load P n b) same

still_within : (P : Prices) (b : Book) (now free : ℕ) (answer : List Out) → IsAnswer answer → Within P now (load P now b + free) (still b answer)
still_within P b now free answer h = let no : weights P (posts_in answer) ≡ 0 = ap (weights P) (answer_posts answer h) in record { paid = omega (arith, no) }

-- an item that moves
transaction_within : (P : Prices) (b : Book) (now free limit : ℕ) (t : Transaction) (answer : List Out) (c : Change Transaction) → transaction_at b t.id ≡ Some t → IsAnswer answer
    → free ≤ limit → Covers P (time_of b now) (transaction_load P (time_of b now) t + free) c
    → Within P now (load P now b + limit) (outcome_of (put_transaction t.id (at_time now b)) answer c)
transaction_within P b now free limit t answer c found o less h =
    let T : ℕ = time_of b now in
    let put : sum_by (transaction_load P T) (put_by transaction_id t.id c.item b.transactions) + transaction_load P T t
    ≡ sum_by (transaction_load P T) b.transactions + left_load P T c.item =
    sum_put (transaction_load P T) transaction_id t.id c.item (left_load P T c.item) b.transactions t found (λ y e. ap (left_load P T) e) (λ e. ap (left_load P T) e) in
    let paid : weights P c.posts + left_load P T c.item ≤ transaction_load P T t + free = h.paid in
    record { paid = omega (arith, less, paid, put, answer_weighs P answer c.posts o, same_time P now b.seen (put_transaction t.id (at_time now b) c.item)) }

leaf_within : (P : Prices) (b : Book) (now free limit : ℕ) (l : Leaf) (answer : List Out) (c : Change Leaf) → leaf_at b l.id ≡ Some l → IsAnswer answer
    → free ≤ limit → LeafCovers P (time_of b now) (leaf_load P (time_of b now) l + free) c → Within P now (load P now b + limit) (outcome_of (put_leaf l.id (at_time now b)) answer c)
leaf_within P b now free limit l answer c found o less h =
    let T : ℕ = time_of b now in
    let put : sum_by (leaf_load P T) (put_by leaf_id l.id c.item b.leaves) + leaf_load P T l ≡ sum_by (leaf_load P T) b.leaves + left_leaf P T c.item =
    sum_put (leaf_load P T) leaf_id l.id c.item (left_leaf P T c.item) b.leaves l found (λ y e. ap (left_leaf P T) e) (λ e. ap (left_leaf P T) e) in
    let paid : weights P c.posts + left_leaf P T c.item ≤ leaf_load P T l + free = h.paid in
    record { paid = omega (arith, less, paid, put, answer_weighs P answer c.posts o, same_time P now b.seen (put_leaf l.id (at_time now b) c.item)) }

activities_put : (P : Prices) (now : ℕ) (a : Activity) (new : Option Activity) (list : List Activity) → find_by activity_id a.id list ≡ Some a
    → sum_by (activity_load P now) (put_activities a.id new list) + activity_load P now a ≤ sum_by (activity_load P now) list + left_activity P now new
activities_put P now a None list found =
    omega (
      arith,
      sum_put (activity_load P now) activity_id a.id None 0 list a found (λ y e. absurd cc) (λ e. refl),
      sum_filter (activity_load P now) (λ x. not (is_under a.id x)) (put_by activity_id a.id None list),
    )
activities_put P now a (Some x) list found =
    omega (arith, sum_put (activity_load P now) activity_id a.id (Some x) (activity_load P now x) list a found (λ y e. ap (left_activity P now) e) (λ e. absurd cc))

activity_within : (P : Prices) (b : Book) (now free limit : ℕ) (a : Activity) (answer : List Out) (c : Change Activity) → activity_at b a.id ≡ Some a → IsAnswer answer
    → free ≤ limit → ActivityCovers P (time_of b now) (activity_load P (time_of b now) a + free) c
    → Within P now (load P now b + limit) (outcome_of (put_activity a.id (at_time now b)) answer c)
activity_within P b now free limit a answer c found o less h =
    let T : ℕ = time_of b now in
    let paid : weights P c.posts + left_activity P T c.item ≤ activity_load P T a + free = h.paid in
    record {
      paid = omega (arith, less, paid, activities_put P T a c.item b.activities found, answer_weighs P answer c.posts o, same_time P now b.seen (put_activity a.id (at_time now b) c.item));
    }

-- how it moves
moved_paid : (P : Prices) (b : Book) (e : Event) (now : ℕ) (t : Transaction) (d : Decision Transaction) → Linked t → IsFinished t → MovesTransaction b e now t d
    → (free : ℕ) × Acted P (moment_of b now) free t d × (free ≤ allowed P e)
moved_paid P b e now t d l f (at_seat a s came here is) = (
  spends a.message,
  subst (Acted P (moment_of b now) (spends a.message) t) (sym is) (seat_paid P (moment_of b now) a t s a.message l (seat_alone t here.number here.kind s f here.found)),
  arrived_allows P e a came,
)
moved_paid P b e now t d l f (at_link a kind s came target under is) =
    (spends a.message, subst (Acted P (moment_of b now) (spends a.message) t) (sym is) (link_paid P (moment_of b now) a kind t s a.message under l), arrived_allows P e a came)
moved_paid P b e now t d l f (at_completion a c came target there is) =
    (spends a.message, subst (Acted P (moment_of b now) (spends a.message) t) (sym is) (completion_paid P (moment_of b now) a t c a.message there l), arrived_allows P e a came)
moved_paid P b e now t d l f (when_due came is) = (0, subst (Acted P (moment_of b now) 0 t) (sym is) (due_paid P (moment_of b now) t), omega arith)

moved_leaf : (P : Prices) (b : Book) (e : Event) (now : ℕ) (x : Leaf) (d : Decision Leaf) → MovesLeaf b e now x d → (free : ℕ) × LeafActed P (moment_of b now) free x d × (free ≤ allowed P e)
moved_leaf P b e now x d (at_leaf a came target is) =
    (spends a.message, subst (LeafActed P (moment_of b now) (spends a.message) x) (sym is) (leaf_paid P (moment_of b now) a x a.message), arrived_allows P e a came)
moved_leaf P b e now x d (leaf_when_due came is) = (0, subst (LeafActed P (moment_of b now) 0 x) (sym is) (leaf_due_paid P (moment_of b now) x), omega arith)

no_request : (e : Event) (l : Local) → Plain e → e ≡ events.Local l → ⊥
no_request e l h came = subst Plain came h

moved_activity : (P : Prices) (b : Book) (e : Event) (now : ℕ) (x : Activity) (d : Decision Activity) → Plain e → MovesActivity b e now x d
    → (free : ℕ) × ActivityActed P (moment_of b now) free x d × (free ≤ allowed P e)
moved_activity P b e now x d h (at_activity a came target is) =
    (spends a.message, subst (ActivityActed P (moment_of b now) (spends a.message) x) (sym is) (activity_paid P (moment_of b now) a x a.message), arrived_allows P e a came)
moved_activity P b e now x d h (activity_when_due came is) = (0, subst (ActivityActed P (moment_of b now) 0 x) (sym is) (activity_due_paid P (moment_of b now) x), omega arith)
moved_activity P b e now x d h (works url kind vote key value came is) = absurd (no_request e _ h came)
moved_activity P b e now x d h (completes n l came asks is) = absurd (no_request e l h came)

-- a message that moves nothing
says_allows : (P : Prices) (e : Event) (a : Arrived) (x : Message) → e ≡ events.Arrived a → a.message ≡ x → allowed P e ≡ allowance P x
says_allows P e a x came says = ap (allowed P) came ∙ ap (allowance P) says

makes : (e : Event) (a : Arrived) (x : Message) → Plain e → e ≡ events.Arrived a → a.message ≡ x → MakesNothing x
makes e a x h came says = subst MakesNothing says (subst Plain came h)

answers_paid : (P : Prices) (b : Book) (e : Event) (now : ℕ) (a : Arrived) (os : List Out) → Plain e → e ≡ events.Arrived a → Answers b now a os → weights P (posts_in os) ≤ allowed P e
answers_paid P b e now a os h came (ignored is) = let no : weights P (posts_in os) ≡ 0 = ap (λ l. weights P (posts_in l)) is in omega (arith, no)
answers_paid P b e now a os h came (unknown n says who is) =
    let same : weights P (posts_in os) ≡ _ = ap (λ l. weights P (posts_in l)) is in
    omega (arith, same, says_allows P e a (messages.Notice n) came says, unknown_paid P b.base a.target a.from a.id n)
answers_paid P b e now a os h came (committed n id says target who is) =
    let same : weights P (posts_in os) ≡ _ = ap (λ l. weights P (posts_in l)) is in
    omega (arith, same, says_allows P e a (messages.Notice n) came says, outcome_paid P b.base a.target a.from a.id n (completion_of states.Done n) (completion_within states.Done n))
answers_paid P b e now a os h came (not_created c target says none is) = absurd (makes e a (messages.Create c) h came says)
answers_paid P b e now a os h came (not_registered id r target says none is) =
    let same : weights P (posts_in os) ≡ _ = ap (λ l. weights P (posts_in l)) is in
    omega (arith, same, says_allows P e a (messages.Register r) came says, unknown_weighs P a r (protocol_named r.protocol))
answers_paid P b e now a os h came (not_employed w target says none is) = absurd (makes e a (messages.Work w) h came says)

at_own : {A : Type 0} (key : A → Numbers) (id : Numbers) (xs : List A) (x : A) → find_by key id xs ≡ Some x → find_by key (key x) xs ≡ Some x
at_own key id xs x found = subst (λ i. find_by key i xs ≡ Some x) (sym (found_id key id xs x found)) found

no_making : (e : Event) (b : Book) (now : ℕ) (id : Numbers) (a : Activity) (os : List Out) → Plain e → MakesActivity b e now id a os → ⊥
no_making e b now id a os h (begins coordinator ms came is outs) = no_request e _ h came
no_making e b now id a os h (interposes coordinator named x came found is outs) = no_request e _ h came

-- a Register
registered_within : (P : Prices) (b : Book) (e : Event) (now : ℕ) (a : Arrived) (r : Register) (t : Transaction) → transaction_at b t.id ≡ Some t → e ≡ events.Arrived a
    → a.message ≡ messages.Register r → Within P now (load P now b + allowed P e) (registration_outcome b now (on_register (moment_of b now) a r t))
registered_within P b e now a r t found came says =
    let T : ℕ = time_of b now in
    let g : Registration = on_register (moment_of b now) a r t in
    let same : g.transaction.id ≡ t.id = register_kept t.id (moment_of b now) a r t refl in
    let there : transaction_at b g.transaction.id ≡ Some t = subst (λ i. transaction_at b i ≡ Some t) (sym same) found in
    let put : sum_by (transaction_load P T) (put_by transaction_id g.transaction.id (Some g.transaction) b.transactions) + transaction_load P T t
    ≡ sum_by (transaction_load P T) b.transactions + transaction_load P T g.transaction =
    sum_put (transaction_load P T) transaction_id g.transaction.id (Some g.transaction) (transaction_load P T g.transaction) b.transactions t there (λ y k. ap (left_load P T) k) (λ k. absurd cc) in
    let paid : weights P (posts_in g.outs) + transaction_load P T g.transaction ≤ transaction_load P T t + (9 + P.seat) = (register_paid P (moment_of b now) a r t).paid in
    record {
      paid = omega (arith, paid, put, says_allows P e a (messages.Register r) came says, same_time P now b.seen (put_transaction g.transaction.id (at_time now b) (Some g.transaction)));
    }

by_shape : (P : Prices) (b : Book) (e : Event) (now : ℕ) (p : Plan) → IsSteady b → Plain e → Shape b e now p → Both (Within P now (load P now b + allowed P e)) p
by_shape P b e now p g h (nothing_moves f) =
    subst (Both (Within P now (load P now b + allowed P e))) (sym f) (plain_both (Within P now (load P now b + allowed P e)) (still b []) (record { paid = omega arith }))
by_shape P b e now p g h (time_moves a os came why o f) =
    subst (Both (Within P now (load P now b + allowed P e))) (sym f)
    (plain_both (Within P now (load P now b + allowed P e)) (still (at_time now b) os)
    (record { paid = omega (arith, answers_paid P b e now a os h came why, same_time P now b.seen (at_time now b)) }))
by_shape P b e now p g h (time_passes came f) =
    subst (Both (Within P now (load P now b + allowed P e))) (sym f)
    (plain_both (Within P now (load P now b + allowed P e)) (still (at_time now b) accepted) (record { paid = omega (arith, same_time P now b.seen (at_time now b)) }))
by_shape P b e now p g h (transaction_moves id t answer d stands how o f) =
    let (free, paid, less) = moved_paid P b e now t d (all_find Linked transaction_id id b.transactions t g.phases.links stands) (all_find IsFinished transaction_id id b.transactions t g.finished stands) how in
    subst (Both (Within P now (load P now b + allowed P e))) (sym f)
    (decided_says (Covers P (time_of b now) (transaction_load P (time_of b now) t + free)) AnyEntry (Within P now (load P now b + allowed P e)) (λ r x k. record { paid = k.paid }) b
    (put_transaction t.id (at_time now b)) answer (with_answer (moment_of b now) t d) (with_answer_covered P (moment_of b now) free t d paid)
    (λ c k. transaction_within P b now free (allowed P e) t answer c (at_own transaction_id id b.transactions t stands) o less k) (still_within P b now (allowed P e) answer o))
by_shape P b e now p g h (leaf_moves id l answer d stands how o f) =
    let (free, paid, less) = moved_leaf P b e now l d how in
    subst (Both (Within P now (load P now b + allowed P e))) (sym f)
    (decided_says (LeafCovers P (time_of b now) (leaf_load P (time_of b now) l + free)) AnyEntry (Within P now (load P now b + allowed P e)) (λ r x k. record { paid = k.paid }) b
    (put_leaf l.id (at_time now b)) answer d paid (λ c k. leaf_within P b now free (allowed P e) l answer c (at_own leaf_id id b.leaves l stands) o less k)
    (still_within P b now (allowed P e) answer o))
by_shape P b e now p g h (activity_moves id a answer d stands how o f) =
    let (free, paid, less) = moved_activity P b e now a d h how in
    subst (Both (Within P now (load P now b + allowed P e))) (sym f)
    (decided_says (ActivityCovers P (time_of b now) (activity_load P (time_of b now) a + free)) AnyEntry (Within P now (load P now b + allowed P e)) (λ r x k. record { paid = k.paid }) b
    (put_activity a.id (at_time now b)) answer d paid (λ c k. activity_within P b now free (allowed P e) a answer c (at_own activity_id id b.activities a stands) o less k)
    (still_within P b now (allowed P e) answer o))
by_shape P b e now p g h (transaction_registers id a r t stands came at says o f) =
    subst (Both (Within P now (load P now b + allowed P e))) (sym f)
    (plain_both (Within P now (load P now b + allowed P e)) (registration_outcome b now (on_register (moment_of b now) a r t)) (registered_within P b e now a r t (at_own transaction_id id b.transactions t stands) came says))
by_shape P b e now p g h (transaction_made a c id t os came at says next made sent o f) = absurd (makes e a (messages.Create c) h came says)
by_shape P b e now p g h (leaf_made a w id l os came at says next made sent o f) = absurd (makes e a (messages.Work w) h came says)
by_shape P b e now p g h (activity_made id a os next made o f) = absurd (no_making e b now id a os h made)

pub step_within : (P : Prices) (b : Book) (e : Event) (now : ℕ) (landed : Bool) → IsSteady b → Plain e → Within P now (load P now b + allowed P e) (step b e now landed)
step_within P b e now landed g h = in_branch (Within P now (load P now b + allowed P e)) (plan b e now) landed (by_shape P b e now (plan b e now) g h (steps_touch_one b e now))

pub stays_steady : (b : Book) (e : Event) (now : ℕ) (landed : Bool) → IsSteady b → IsSteady (step b e now landed).book
stays_steady b e now landed g = record { order = ids_rise.stays b e now landed g.order; phases = decides_behind_every_answer.book b e now landed g.phases; finished = finishes_all.book b e now landed g.phases g.finished }

pub steady_books : (hosts : Hosts) (w : World) → Reached hosts w → (n : ℕ) (x : Node) (b : Book) → nth n w.nodes ≡ Some x → x.book ≡ Some b → IsSteady b
steady_books hosts w reached n x b found up = let sound : IsSoundBook x.journal b = book_sound hosts w reached n x b found up in record { order = sound.order; phases = sound.phases; finished = sound.finished }

pub pays : Pays
pays = record {
  arrival = λ P b a now landed g h. omega (arith, (step_within P b (events.Arrived a) now landed g h).paid, allowance_less P a.message h);
  due = λ P b item now landed g. omega (arith, (step_within P b (events.Due item) now landed g tt).paid);
  stays = stays_steady;
  books = λ hosts es n x b found up. steady_books hosts (run_of hosts es) (run_reached hosts es) n x b found up;
}
