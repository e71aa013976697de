-- Single steps whose rules no theorem over whole worlds shows.
use Rattle.std.specs.Prelude.{ℕ, List, [], ◌∷◌, Option, Some, None, true, false, codes, flat_map, ◌≡◌}
use Rattle.at_base.specs.declared.epr.Epr.{Epr}
use Rattle.at_base.specs.declared.epr.Reply.TheVariants as replies
use Rattle.at_base.specs.declared.notice.Kind.TheVariants as kinds
use Rattle.at_base.specs.declared.notice.Vote.TheVariants as votes
use Rattle.at_base.specs.declared.notice.Notice.{Notice}
use Rattle.at_base.specs.declared.notice.Notice.TheVariants as notices
use Rattle.at_base.specs.declared.message.Message.{Message}
use Rattle.at_base.specs.declared.message.Message.TheVariants as messages
use Rattle.at_base.specs.declared.target.Target.{Target}
use Rattle.at_base.specs.declared.target.Target.TheVariants as targets
use Rattle.at_base.specs.declared.record.Seated.{Seated}
use Rattle.at_base.specs.declared.record.Record.TheVariants as records
use Rattle.at_base.specs.declared.event.Event.{Event}
use Rattle.at_base.specs.declared.event.Event.TheVariants as events
use Rattle.at_base.specs.declared.outs.Out.{Out}
use Rattle.at_base.specs.declared.outs.Out.TheVariants as outs
use Rattle.at_tables.specs.declared.cells.State.{State}
use Rattle.at_tables.specs.declared.cells.State.TheVariants as states
use Rattle.at_model.specs.Book.{Book, Enlistment, Phase}
use Rattle.endpoints.specs.Addresses.{endpoint_of}
use Rattle.at_model.specs.Step.{step}
use Rattle.at_model.specs.Recovery.{recover}
use Rattle.at_model.specs.World.{example_base}
use Rattle.at_model.specs.Views.{message_name, path_in, id_at}
use Rattle.model_laws.specs.Examples.{first}

-- a one-way message from this endpoint
abbrev pub one_way : Target → Option Epr → Option (List ℕ) → Message → Event
one_way target from relates x = events.Arrived (record {
  target = target;
  id = None;
  relates = relates;
  from = from;
  reply = replies.Nobody;
  fault = replies.Nobody;
  postable = true;
  message = x;
})

abbrev pub notice_of : Target → Option Epr → Notice → Event
notice_of target from n = one_way target from None (messages.Notice n)

-- the names and paths of what is posted
abbrev pub shown_out : Out → List (List ℕ × List ℕ)
shown_out (outs.Answer status reply) = []
shown_out (outs.Post p) = (message_name p.message, path_in p.to) ∷ []

abbrev pub shown : List Out → List (List ℕ × List ℕ)
shown list = flat_map shown_out list

-- A step that leaves every transaction and leaf as it was, and posts these.
pub record OnlyPosts (b : Book) (e : Event) (posts : List (List ℕ × List ℕ)) : Type 0 where
  pub transactions : (step b e 0 true).book.transactions ≡ b.transactions
  pub leaves : (step b e 0 true).book.leaves ≡ b.leaves
  pub posted : shown (step b e 0 true).outs ≡ posts
  pub quiet : (step b e 0 true).effects ≡ []

abbrev pub sub_seats : List Seated
sub_seats = record { number = 1; endpoint = endpoint_of (example_base 4) (targets.Participant first kinds.Durable) } ∷ []

abbrev pub superior_seat : Epr
superior_seat = endpoint_of (example_base 2) (targets.Coordinator first (record { number = 2; kind = kinds.Durable }))

-- A subordinate that has voted, and one that was told to commit.
abbrev pub voted_book : Book
voted_book = recover (example_base 3) (records.Start 1 ∷ records.Voted first superior_seat sub_seats ∷ [])

abbrev pub committing_book : Book
committing_book =
    recover (example_base 3) (records.Start 1 ∷ records.Voted first superior_seat sub_seats ∷ records.SubCommitted first ∷ [])

abbrev pub volatile_seat : Option Epr
volatile_seat = Some (endpoint_of (example_base 2) (targets.Coordinator first (record { number = 1; kind = kinds.Volatile })))

abbrev pub durable_seat : Option Epr
durable_seat = Some (endpoint_of (example_base 2) (targets.Coordinator first (record { number = 2; kind = kinds.Durable })))

-- A Rollback on the volatile link of a subordinate that has voted, or was told to commit, only answers Aborted.
abbrev pub VolatileRollbackAnswers : Type 0
VolatileRollbackAnswers =
    OnlyPosts voted_book (notice_of (targets.Participant first kinds.Volatile) volatile_seat notices.Rollback)
    ((codes "Aborted", codes "/c/v/1-1/1") ∷ [])
    × OnlyPosts committing_book (notice_of (targets.Participant first kinds.Volatile) volatile_seat notices.Rollback)
    ((codes "Aborted", codes "/c/v/1-1/1") ∷ [])

-- A root of which one durable participant has voted Prepared, and the other is still asked.
abbrev pub seat_at : ℕ → State → Enlistment
seat_at number state = record {
  number = number;
  kind = kinds.Durable;
  participant = endpoint_of (example_base 3) (targets.Participant (id_at 1 number) kinds.Durable);
  state = state;
}

abbrev pub half_prepared : Book
half_prepared = record {
  base = example_base 2;
  incarnation = 1;
  counter = 1;
  seen = 0;
  outcomes = [];
  transactions = record {
    id = first;
    identifier = [];
    superior = None;
    phase = Phase.Durable;
    deadline = None;
    sent = Some 0;
    aborted = None;
    seats = seat_at 1 states.Prepared ∷ seat_at 2 states.Preparing ∷ [];
    completion = None;
  } ∷ [];
  leaves = [];
  activities = [];
}

-- An Aborted from a participant that has voted Prepared draws InvalidState, and doesn't abort.
abbrev pub AbortedAtPrepared : Type 0
AbortedAtPrepared =
    OnlyPosts half_prepared
    (notice_of (targets.Coordinator first (record { number = 1; kind = kinds.Durable })) None notices.Aborted)
    ((codes "InvalidState", codes "/p/d/1-1") ∷ [])

-- A leaf that waits for the answer to its Register.
abbrev pub registering_book : Book
registering_book = record {
  base = example_base 3;
  incarnation = 1;
  counter = 1;
  seen = 0;
  outcomes = [];
  transactions = [];
  leaves = record {
    id = first;
    kind = kinds.Durable;
    vote = votes.Prepared;
    key = [];
    value = [];
    state = states.Registering;
    coordinator = None;
    request = None;
    deadline = None;
    sent = Some 0;
  } ∷ [];
  activities = [];
}

-- A RegisterResponse that answers something else, or nothing, is ignored; so is a fault.
abbrev pub RelatesToIsCompared : Type 0
RelatesToIsCompared =
    OnlyPosts registering_book
    (one_way (targets.Participant first kinds.Durable) None (Some (codes "urn:uuid:other"))
    (messages.RegisterResponse (endpoint_of (example_base 2) (targets.Completion first)))) []
    × (OnlyPosts registering_book
    (one_way (targets.Participant first kinds.Durable) None None
    (messages.RegisterResponse (endpoint_of (example_base 2) (targets.Completion first)))) []
    × OnlyPosts registering_book
    (one_way (targets.Participant first kinds.Durable) None (Some (codes "urn:uuid:other")) (messages.Fault (codes "InvalidState"))) [])

-- A root that committed and is over, and a node that knows of none.
abbrev pub decided_book : Book
decided_book = recover (example_base 2) (records.Start 1 ∷ records.Decided first [] ∷ [])

abbrev pub started_book : Book
started_book = recover (example_base 2) (records.Start 1 ∷ [])

abbrev pub initiator_endpoint : Option Epr
initiator_endpoint = Some (endpoint_of (example_base 1) (targets.Initiator first))

-- An initiator that asks again hears of the commit, and can't roll back what committed; without an outcome the
-- transaction is unknown.
abbrev pub OutcomeIsKept : Type 0
OutcomeIsKept =
    OnlyPosts decided_book (notice_of (targets.Completion first) initiator_endpoint notices.Commit)
    ((codes "Committed", codes "/i/1-1") ∷ [])
    × (OnlyPosts decided_book (notice_of (targets.Completion first) initiator_endpoint notices.Rollback)
    ((codes "InvalidState", codes "/i/1-1") ∷ [])
    × OnlyPosts started_book (notice_of (targets.Completion first) initiator_endpoint notices.Commit)
    ((codes "UnknownTransaction", codes "/i/1-1") ∷ []))

-- Where the record of a subordinate's Commit is absent, the step is undone: the book is as it was, and all that is sent
-- is that the message was accepted.
abbrev pub CommitIsUndone : Type 0
CommitIsUndone =
    step voted_book (notice_of (targets.Participant first kinds.Durable) durable_seat notices.Commit) 7 false
    ≡ record { book = voted_book; outs = outs.Answer 202 None ∷ []; effects = [] }
