-- The load: a weight for each message that is on its way, and one for each item of a book that bounds the weights of what it
-- may still post without being asked to make anything.
use Rattle.std.specs.Prelude.{ℕ, List, [], ◌∷◌, Option, Some, None, Bool, true, false, ◌+◌}
use Rattle.std.specs.List.{sum_by}
use Rattle.at_base.specs.declared.notice.Notice.{Notice}
use Rattle.at_base.specs.declared.notice.Notice.TheVariants as notices
use Rattle.at_base.specs.declared.message.Message.{Message}
use Rattle.at_base.specs.declared.message.Message.TheVariants as messages
use Rattle.at_base.specs.declared.outs.Out.{Out}
use Rattle.at_base.specs.declared.outs.Out.TheVariants as outs
use Rattle.at_base.specs.declared.outs.Post.{Post}
use Rattle.at_tables.specs.declared.cells.State.{State}
use Rattle.at_tables.specs.declared.cells.State.TheVariants as states
use Rattle.at_model.specs.Arrivals.{request_of}
use Rattle.at_model.specs.Book.{Activity, Book, Completion, Enlistment, Leaf, Link, Phase, Progress, Request, Superior, Transaction}
use Rattle.at_model.specs.Due.{is_quiet}
use Rattle.at_model.specs.Step.{time_of}

-- Three prices that are free, so that one law gives several facts: of a seat or a completion seat; of a leaf, an activity or
-- a link; and of a message that makes something, a Create or a Work.
pub record Prices : Type 0 where
  pub seat : ℕ
  pub other : ℕ
  pub making : ℕ

-- Messages.
abbrev pub notice_weight : Notice → ℕ
notice_weight notices.Prepare = 5
notice_weight notices.Prepared = 4
notice_weight notices.Commit = 3
notice_weight notices.Rollback = 3
notice_weight notices.ReadOnly = 2
notice_weight notices.Aborted = 2
notice_weight notices.Committed = 2

abbrev pub weight : Prices → Message → ℕ
weight P (messages.Notice n) = notice_weight n
weight P (messages.Register r) = 10 + P.seat
weight P (messages.CreateResponse context) = 1
weight P (messages.RegisterResponse coordinator) = 1
weight P messages.WorkDone = 1
weight P messages.WorkRefused = 1
weight P (messages.Fault name) = 1
weight P (messages.Create c) = P.making
weight P (messages.Work w) = P.making

abbrev pub post_weight : Prices → Post → ℕ
post_weight P p = weight P p.message

abbrev pub weights : Prices → List Post → ℕ
weights P ps = sum_by (post_weight P) ps

-- what of a step's outs is posted
abbrev pub posts_in : List Out → List Post
posts_in [] = []
posts_in (outs.Post p ∷ os) = p ∷ posts_in os
posts_in (outs.Answer status reply ∷ os) = posts_in os

-- what an item sends again, once it is quiet
abbrev pub again : Bool → ℕ → ℕ
again true n = n
again false n = 0

-- A seat: what is still to be asked and told, and what it asks or tells again.
abbrev pub seat_rest : State → ℕ
seat_rest states.Active = 8
seat_rest states.Preparing = 3
seat_rest states.Prepared = 3
seat_rest other = 0

abbrev pub seat_repeats : State → ℕ
seat_repeats states.Preparing = 5
seat_repeats states.Committing = 3
seat_repeats states.Aborting = 3
seat_repeats other = 0

abbrev pub seat_load : Prices → Bool → Enlistment → ℕ
seat_load P q s = P.seat + (seat_rest s.state + again q (seat_repeats s.state))

-- A link: what its superior is still to be answered.
abbrev pub link_rest : State → ℕ
link_rest states.None = 0
link_rest states.Preparing = 6
link_rest other = 2

abbrev pub link_repeats : Prices → State → ℕ
link_repeats P states.Registering = 10 + P.seat
link_repeats P states.PreparedSuccess = 4
link_repeats P other = 0

abbrev pub link_load : Prices → Bool → Link → ℕ
link_load P q x = P.other + (link_rest x.state + again q (link_repeats P x.state))

abbrev pub links_load : Prices → Bool → Option Superior → ℕ
links_load P q None = 0
links_load P q (Some s) = link_load P q s.volatile + link_load P q s.durable

-- a subordinate's request that is still to be answered
abbrev pub request_load : Option Request → ℕ
request_load None = 0
request_load (Some r) = 1

-- A completion seat: its initiator may be told that the transaction aborted, and before the decision that it committed.
abbrev pub initiator_rest : Phase → State → ℕ
initiator_rest Phase.Aborting states.None = 0
initiator_rest Phase.Aborting other = 2
initiator_rest Phase.Committing state = 2
initiator_rest Phase.Registering state = 4
initiator_rest Phase.Active state = 4
initiator_rest Phase.Volatile state = 4
initiator_rest Phase.Durable state = 4
initiator_rest Phase.Voted state = 4

abbrev pub completion_load : Prices → Phase → Option Completion → ℕ
completion_load P phase None = 0
completion_load P phase (Some c) = P.seat + initiator_rest phase c.state

-- what a transaction's seats and links hold
abbrev pub seats_load : Prices → Bool → List Enlistment → ℕ
seats_load P q seats = sum_by (seat_load P q) seats

abbrev pub held : Prices → ℕ → Transaction → ℕ
held P now t =
    seats_load P (is_quiet now t.sent) t.seats + (links_load P (is_quiet now t.sent) t.superior + completion_load P t.phase t.completion)

abbrev pub transaction_load : Prices → ℕ → Transaction → ℕ
transaction_load P now t = held P now t + request_load (request_of t.superior)

-- A leaf: a vote, or how it ended, and the answer to its Work.
abbrev pub leaf_rest : State → ℕ
leaf_rest states.Registering = 3
leaf_rest states.Active = 2
leaf_rest other = 0

abbrev pub leaf_load : Prices → ℕ → Leaf → ℕ
leaf_load P now l = P.other + (leaf_rest l.state + again (is_quiet now l.sent) (link_repeats P l.state))

-- An activity: its Register, and what it completes with.
abbrev pub progress_load : Prices → Bool → Progress → ℕ
progress_load P q Progress.Creating = 10 + P.seat
progress_load P q Progress.Registering = again q (10 + P.seat)
progress_load P q Progress.Active = 0
progress_load P q (Progress.Completing n) = again q (notice_weight n)

abbrev pub activity_load : Prices → ℕ → Activity → ℕ
activity_load P now a = P.other + progress_load P (is_quiet now a.sent) a.progress

-- A book, at a time that it sees.
abbrev pub items_load : Prices → ℕ → Book → ℕ
items_load P now b =
    sum_by (transaction_load P now) b.transactions + (sum_by (leaf_load P now) b.leaves + sum_by (activity_load P now) b.activities)

abbrev pub load : Prices → ℕ → Book → ℕ
load P now b = items_load P (time_of b now) b
