-- How much a book may hold at any time, and how much it holds at least, by what it has to wait for.
use Rattle.std.specs.Prelude.{ℕ, List, [], ◌∷◌, Option, Some, None, Bool, true, false, ◌+◌, ◌*◌, length, ◌≤◌}
use Rattle.std.specs.List.{sum_by}
use Rattle.std.proofs.Common.{arith, ap}
use Rattle.std.proofs.lemmas.List.Sums.{sum_by-cons}
use Rattle.at_base.specs.declared.notice.Notice.{Notice}
use Rattle.at_base.specs.declared.notice.Notice.TheVariants as notices
use Rattle.at_tables.specs.declared.cells.State.{State}
use Rattle.at_tables.specs.declared.cells.State.TheVariants as states
use Rattle.at_model.specs.Arrivals.{request_of}
use Rattle.at_model.specs.Book.{Activity, Book, Completion, Enlistment, Leaf, Phase, Progress, Request, Superior, Transaction}
use Rattle.at_model.specs.Due.{is_quiet}
use Rattle.model_laws.specs.Settlement.{completions_held, links_held, others_in, seats_held, seats_in, superior_links}
use Rattle.settling.specs.Load.{Prices, activity_load, again, completion_load, initiator_rest, items_load, leaf_load, leaf_rest, link_repeats, link_rest, links_load, notice_weight, progress_load, request_load, seat_load, seat_repeats, seat_rest, seats_load, transaction_load}

-- at most for each seat, and for each other thing
abbrev pub seat_most : Prices → ℕ
seat_most P = P.seat + 8

abbrev pub other_most : Prices → ℕ
other_most P = P.other + P.seat + 13

again_most : (q : Bool) (n : ℕ) → again q n ≤ n
again_most true n = omega arith
again_most false n = omega arith

seat_state_most : (s : State) → seat_rest s + seat_repeats s ≤ 8
seat_state_most states.Active = omega arith
seat_state_most states.Preparing = omega arith
seat_state_most states.Prepared = omega arith
seat_state_most states.Committing = omega arith
seat_state_most states.Aborting = omega arith
seat_state_most other = omega arith

seats_most : (P : Prices) (q : Bool) (seats : List Enlistment) → seats_load P q seats ≤ seat_most P * length seats
seats_most P q [] = omega arith
seats_most P q (s ∷ ss) =
    omega (arith, sum_by-cons (seat_load P q) s ss, seats_most P q ss, again_most q (seat_repeats s.state), seat_state_most s.state)

seats_least : (P : Prices) (q : Bool) (seats : List Enlistment) → P.seat * length seats ≤ seats_load P q seats
seats_least P q [] = omega arith
seats_least P q (s ∷ ss) = omega (arith, sum_by-cons (seat_load P q) s ss, seats_least P q ss)

link_state_most : (P : Prices) (s : State) → link_rest s + link_repeats P s ≤ P.seat + 12
link_state_most P states.None = omega arith
link_state_most P states.Preparing = omega arith
link_state_most P states.Registering = omega arith
link_state_most P states.PreparedSuccess = omega arith
link_state_most P other = omega arith

request_most : (r : Option Request) → request_load r ≤ 1
request_most None = omega arith
request_most (Some r) = omega arith

links_most : (P : Prices) (q : Bool) (s : Option Superior) → links_load P q s + request_load (request_of s) ≤ other_most P * links_held s
links_most P q None = omega arith
links_most P q (Some s) =
    omega (
      arith,
      again_most q (link_repeats P s.volatile.state),
      again_most q (link_repeats P s.durable.state),
      link_state_most P s.volatile.state,
      link_state_most P s.durable.state,
      request_most s.request,
    )

links_least : (P : Prices) (q : Bool) (s : Option Superior) → P.other * links_held s ≤ links_load P q s
links_least P q None = omega arith
links_least P q (Some s) = omega arith

initiator_most : (phase : Phase) (s : State) → initiator_rest phase s ≤ 4
initiator_most Phase.Aborting states.None = omega arith
initiator_most Phase.Aborting other = omega arith
initiator_most Phase.Committing s = omega arith
initiator_most Phase.Registering s = omega arith
initiator_most Phase.Active s = omega arith
initiator_most Phase.Volatile s = omega arith
initiator_most Phase.Durable s = omega arith
initiator_most Phase.Voted s = omega arith

completion_most : (P : Prices) (phase : Phase) (c : Option Completion) → completion_load P phase c ≤ seat_most P * completions_held c
completion_most P phase None = omega arith
completion_most P phase (Some c) = omega (arith, initiator_most phase c.state)

completion_least : (P : Prices) (phase : Phase) (c : Option Completion) → P.seat * completions_held c ≤ completion_load P phase c
completion_least P phase None = omega arith
completion_least P phase (Some c) = omega arith

transactions_most : (P : Prices) (now : ℕ) (ts : List Transaction) → sum_by (transaction_load P now) ts ≤ seat_most P * sum_by seats_held ts + other_most P * sum_by superior_links ts
transactions_most P now [] = omega arith
transactions_most P now (t ∷ ts) =
    omega (
      arith,
      sum_by-cons (transaction_load P now) t ts,
      ap (λ n. seat_most P * n) (sum_by-cons seats_held t ts),
      ap (λ n. other_most P * n) (sum_by-cons superior_links t ts),
      transactions_most P now ts,
      seats_most P (is_quiet now t.sent) t.seats,
      links_most P (is_quiet now t.sent) t.superior,
      completion_most P t.phase t.completion,
    )

transactions_least : (P : Prices) (now : ℕ) (ts : List Transaction) → P.seat * sum_by seats_held ts + P.other * sum_by superior_links ts ≤ sum_by (transaction_load P now) ts
transactions_least P now [] = omega arith
transactions_least P now (t ∷ ts) =
    omega (
      arith,
      sum_by-cons (transaction_load P now) t ts,
      ap (λ n. P.seat * n) (sum_by-cons seats_held t ts),
      ap (λ n. P.other * n) (sum_by-cons superior_links t ts),
      transactions_least P now ts,
      seats_least P (is_quiet now t.sent) t.seats,
      links_least P (is_quiet now t.sent) t.superior,
      completion_least P t.phase t.completion,
    )

leaf_state_most : (P : Prices) (s : State) → leaf_rest s + link_repeats P s ≤ P.seat + 13
leaf_state_most P states.Registering = omega arith
leaf_state_most P states.Active = omega arith
leaf_state_most P states.PreparedSuccess = omega arith
leaf_state_most P other = omega arith

leaves_most : (P : Prices) (now : ℕ) (ls : List Leaf) → sum_by (leaf_load P now) ls ≤ other_most P * length ls
leaves_most P now [] = omega arith
leaves_most P now (l ∷ ls) =
    omega (arith, sum_by-cons (leaf_load P now) l ls, leaves_most P now ls, again_most (is_quiet now l.sent) (link_repeats P l.state), leaf_state_most P l.state)

leaves_least : (P : Prices) (now : ℕ) (ls : List Leaf) → P.other * length ls ≤ sum_by (leaf_load P now) ls
leaves_least P now [] = omega arith
leaves_least P now (l ∷ ls) = omega (arith, sum_by-cons (leaf_load P now) l ls, leaves_least P now ls)

notice_most : (n : Notice) → notice_weight n ≤ 5
notice_most notices.Prepare = omega arith
notice_most notices.Prepared = omega arith
notice_most notices.Commit = omega arith
notice_most notices.Rollback = omega arith
notice_most notices.ReadOnly = omega arith
notice_most notices.Aborted = omega arith
notice_most notices.Committed = omega arith

progress_most : (P : Prices) (q : Bool) (p : Progress) → progress_load P q p ≤ P.seat + 13
progress_most P q Progress.Creating = omega arith
progress_most P q Progress.Registering = omega (arith, again_most q (10 + P.seat))
progress_most P q Progress.Active = omega arith
progress_most P q (Progress.Completing n) = omega (arith, again_most q (notice_weight n), notice_most n)

activities_most : (P : Prices) (now : ℕ) (xs : List Activity) → sum_by (activity_load P now) xs ≤ other_most P * length xs
activities_most P now [] = omega arith
activities_most P now (a ∷ xs) = omega (arith, sum_by-cons (activity_load P now) a xs, activities_most P now xs, progress_most P (is_quiet now a.sent) a.progress)

activities_least : (P : Prices) (now : ℕ) (xs : List Activity) → P.other * length xs ≤ sum_by (activity_load P now) xs
activities_least P now [] = omega arith
activities_least P now (a ∷ xs) = omega (arith, sum_by-cons (activity_load P now) a xs, activities_least P now xs)

pub book_most : (P : Prices) (now : ℕ) (b : Book) → items_load P now b ≤ seat_most P * seats_in (Some b) + other_most P * others_in (Some b)
book_most P now b = omega (arith, transactions_most P now b.transactions, leaves_most P now b.leaves, activities_most P now b.activities)

pub book_least : (P : Prices) (now : ℕ) (b : Book) → P.seat * seats_in (Some b) + P.other * others_in (Some b) ≤ items_load P now b
book_least P now b = omega (arith, transactions_least P now b.transactions, leaves_least P now b.leaves, activities_least P now b.activities)
