-- Recovery: the book that the records of a journal stand for (this project's profile).
use Rattle.std.specs.Prelude.{ℕ, List, [], ◌∷◌, ◌++◌, Option, Some, None, Bool, true, false, nat_eq, nat_lt, ◌&&◌, ◌||◌, if◌then◌else◌, map, max}
use Rattle.std.specs.List.{list_any}
use Rattle.at_base.specs.Numbers.{Numbers}
use Rattle.at_base.specs.declared.epr.Epr.{Epr}
use Rattle.at_base.specs.declared.notice.Kind.TheVariants as kinds
use Rattle.at_base.specs.declared.notice.Vote.TheVariants as votes
use Rattle.at_base.specs.declared.record.Seated.{Seated}
use Rattle.at_base.specs.declared.record.Record.{Record}
use Rattle.at_base.specs.declared.record.Record.TheVariants as records
use Rattle.at_tables.specs.declared.cells.State.{State}
use Rattle.at_tables.specs.declared.cells.State.TheVariants as states
use Rattle.at_model.specs.Book.{Book, Transaction, Leaf, Enlistment, Superior, Phase, is_id, transaction_id, leaf_id}
use Rattle.at_model.specs.Outcomes.{outcomes_after}
use Rattle.at_model.specs.Create.{identifier_of}

-- what a record is about
abbrev pub is_leaf_prepared : Numbers → Record → Bool
is_leaf_prepared id (records.LeafPrepared i coordinator key value) = is_id i id
is_leaf_prepared id other = false

abbrev pub is_leaf_ended : Numbers → Record → Bool
is_leaf_ended id (records.LeafCommitted i) = is_id i id
is_leaf_ended id (records.LeafAborted i) = is_id i id
is_leaf_ended id other = false

abbrev pub is_voted : Numbers → Record → Bool
is_voted id (records.Voted i superior seats) = is_id i id
is_voted id other = false

abbrev pub is_decided : Numbers → Record → Bool
is_decided id (records.Decided i seats) = is_id i id
is_decided id other = false

abbrev pub is_sub_committed : Numbers → Record → Bool
is_sub_committed id (records.SubCommitted i) = is_id i id
is_sub_committed id other = false

abbrev pub is_ended : Numbers → Record → Bool
is_ended id (records.Ended i) = is_id i id
is_ended id other = false

-- Of a LeafPrepared, a Voted and a Decided of one id the last counts.
abbrev pub is_promise : Numbers → Record → Bool
is_promise id r = is_leaf_prepared id r || (is_voted id r || is_decided id r)

abbrev pub ends_leaf : Numbers → Record → Bool
ends_leaf id r = is_leaf_ended id r || is_promise id r

abbrev pub ends_transaction : Numbers → Record → Bool
ends_transaction id r = is_ended id r || is_promise id r

-- A subordinate's vote, and its SubCommitted where one stands behind it.
abbrev pub with_commit : Numbers → List Record → List Record
with_commit id rest = if list_any (is_sub_committed id) rest then records.SubCommitted id ∷ [] else []

-- nobody waits for a decision without seats
abbrev pub no_seats : List Seated → Bool
no_seats [] = true
no_seats (s ∷ ss) = false

-- What a record keeps alive, with the records behind it: a prepared leaf until it is ended, a vote or a decision until
-- it is ended (WS-AtomicTransaction 1.2, section 3.3.4).
abbrev pub kept : Record → List Record → List Record
kept (records.LeafPrepared id coordinator key value) rest =
    if list_any (ends_leaf id) rest then [] else records.LeafPrepared id coordinator key value ∷ []
kept (records.Voted id superior seats) rest =
    if list_any (ends_transaction id) rest then [] else records.Voted id superior seats ∷ with_commit id rest
kept (records.Decided id seats) rest =
    if no_seats seats || list_any (ends_transaction id) rest then [] else records.Decided id seats ∷ []
kept other rest = []

-- The live records, in the order of the journal.
abbrev pub live : List Record → List Record
live [] = []
live (r ∷ rest) = kept r rest ++ live rest

abbrev pub recovered_seat : State → Seated → Enlistment
recovered_seat state s = record { number = s.number; kind = kinds.Durable; participant = s.endpoint; state = state }

abbrev pub recovered_superior : State → Epr → Superior
recovered_superior state superior = record {
  volatile = record { state = states.None; coordinator = None };
  durable = record { state = state; coordinator = Some superior };
  request = None;
}

-- A recovered transaction has no deadline, has sent nothing, and has no completion seat. A subordinate's Identifier is
-- its superior's, which no record has, and which nobody asks for again.
abbrev pub recovered_transaction : Numbers → List ℕ → Option Superior → Phase → List Enlistment → Transaction
recovered_transaction id identifier superior phase seats = record {
  id = id;
  identifier = identifier;
  superior = superior;
  phase = phase;
  deadline = None;
  sent = None;
  aborted = None;
  seats = seats;
  completion = None;
}

abbrev pub recovered_voted : Numbers → Epr → List Seated → Bool → Transaction
recovered_voted id superior seats true =
    recovered_transaction id [] (Some (recovered_superior states.Committing superior)) Phase.Committing
    (map (recovered_seat states.Committing) seats)
recovered_voted id superior seats false =
    recovered_transaction id [] (Some (recovered_superior states.PreparedSuccess superior)) Phase.Voted
    (map (recovered_seat states.Prepared) seats)

abbrev pub recovered_decided : List ℕ → Numbers → List Seated → Transaction
recovered_decided base id seats =
    recovered_transaction id (identifier_of base id) None Phase.Committing (map (recovered_seat states.Committing) seats)

abbrev pub recovered_leaf : Numbers → Epr → List ℕ → List ℕ → Leaf
recovered_leaf id coordinator key value = record {
  id = id;
  kind = kinds.Durable;
  vote = votes.Prepared;
  key = key;
  value = value;
  state = states.PreparedSuccess;
  coordinator = Some coordinator;
  request = None;
  deadline = None;
  sent = None;
}

-- the transactions and leaves of live records
abbrev pub transactions_of : List ℕ → List Record → List Transaction
transactions_of base [] = []
transactions_of base (records.Voted id superior seats ∷ rest) =
    recovered_voted id superior seats (list_any (is_sub_committed id) rest) ∷ transactions_of base rest
transactions_of base (records.Decided id seats ∷ rest) = recovered_decided base id seats ∷ transactions_of base rest
transactions_of base (records.Start incarnation ∷ rest) = transactions_of base rest
transactions_of base (records.LeafPrepared id coordinator key value ∷ rest) = transactions_of base rest
transactions_of base (records.LeafCommitted id ∷ rest) = transactions_of base rest
transactions_of base (records.LeafAborted id ∷ rest) = transactions_of base rest
transactions_of base (records.SubCommitted id ∷ rest) = transactions_of base rest
transactions_of base (records.Ended id ∷ rest) = transactions_of base rest
transactions_of base (records.Done id ∷ rest) = transactions_of base rest

abbrev pub leaves_of : List Record → List Leaf
leaves_of [] = []
leaves_of (records.LeafPrepared id coordinator key value ∷ rest) = recovered_leaf id coordinator key value ∷ leaves_of rest
leaves_of (records.Start incarnation ∷ rest) = leaves_of rest
leaves_of (records.LeafCommitted id ∷ rest) = leaves_of rest
leaves_of (records.LeafAborted id ∷ rest) = leaves_of rest
leaves_of (records.Voted id superior seats ∷ rest) = leaves_of rest
leaves_of (records.Decided id seats ∷ rest) = leaves_of rest
leaves_of (records.SubCommitted id ∷ rest) = leaves_of rest
leaves_of (records.Ended id ∷ rest) = leaves_of rest
leaves_of (records.Done id ∷ rest) = leaves_of rest

-- the lists in the order of making, which is by rising id
abbrev pub is_before : Numbers → Numbers → Bool
is_before a b = nat_lt a.incarnation b.incarnation || (nat_eq a.incarnation b.incarnation && nat_lt a.counter b.counter)

abbrev pub insert_by : {A : Type 0} → (A → Numbers) → A → List A → List A
insert_by key x [] = x ∷ []
insert_by key x (y ∷ ys) = if is_before (key y) (key x) then y ∷ insert_by key x ys else x ∷ (y ∷ ys)

abbrev pub in_order : {A : Type 0} → (A → Numbers) → List A → List A
in_order key [] = []
in_order key (x ∷ xs) = insert_by key x (in_order key xs)

-- the incarnation of a Start, or of a record's id
abbrev pub incarnation_of : Record → ℕ
incarnation_of (records.Start incarnation) = incarnation
incarnation_of (records.LeafPrepared id coordinator key value) = id.incarnation
incarnation_of (records.LeafCommitted id) = id.incarnation
incarnation_of (records.LeafAborted id) = id.incarnation
incarnation_of (records.Voted id superior seats) = id.incarnation
incarnation_of (records.Decided id seats) = id.incarnation
incarnation_of (records.SubCommitted id) = id.incarnation
incarnation_of (records.Ended id) = id.incarnation
incarnation_of (records.Done id) = id.incarnation

-- the greatest of the records', or 0
abbrev pub last_incarnation : List Record → ℕ
last_incarnation [] = 0
last_incarnation (r ∷ rest) = max (incarnation_of r) (last_incarnation rest)

abbrev pub recovered_transactions : List ℕ → List Record → List Transaction
recovered_transactions base rs = in_order transaction_id (transactions_of base (live rs))

abbrev pub recovered_leaves : List Record → List Leaf
recovered_leaves rs = in_order leaf_id (leaves_of (live rs))

-- Recovery: what live records promise and the last outcomes, and nothing else; the counter starts anew in the last
-- incarnation.
abbrev pub recover : List ℕ → List Record → Book
recover base rs = record {
  base = base;
  incarnation = last_incarnation rs;
  counter = 0;
  seen = 0;
  outcomes = outcomes_after [] rs;
  transactions = recovered_transactions base rs;
  leaves = recovered_leaves rs;
  activities = [];
}
