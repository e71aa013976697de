-- The outcomes that journals record, each with the transaction at the top of its item.
use Rattle.std.specs.Prelude.{ℕ, List, [], ◌∷◌, ◌++◌, Bool, true, false, not, ◌&&◌, Option, Some, None, if◌then◌else◌}
use Rattle.std.specs.List.{list_any}
use Rattle.at_base.specs.Numbers.{Numbers}
use Rattle.at_base.specs.declared.epr.Epr.{Epr}
use Rattle.at_base.specs.declared.record.Record.{Record}
use Rattle.at_base.specs.declared.record.Record.TheVariants as records
use Rattle.at_model.specs.Book.{is_id}
use Rattle.at_model.specs.Recovery.{is_ended, is_leaf_prepared, is_sub_committed, is_voted}
use Rattle.audit_at.specs.declared.item.Item.{Item}
use Rattle.audit_at.specs.declared.outcome.Outcome.{Outcome}
use Rattle.audit_at.specs.declared.subordinate.Subordinate.{Subordinate}
use Rattle.audit_at.specs.Superiors.{Log, item_at, named, subordinates, top_of}

abbrev pub is_leaf_committed : Numbers → Record → Bool
is_leaf_committed id (records.LeafCommitted i) = is_id i id
is_leaf_committed id other = false

abbrev pub is_leaf_aborted : Numbers → Record → Bool
is_leaf_aborted id (records.LeafAborted i) = is_id i id
is_leaf_aborted id other = false

-- a root committed: its decision, or what is kept of it
abbrev pub is_root_committed : Numbers → Record → Bool
is_root_committed id (records.Decided i seats) = is_id i id
is_root_committed id (records.Done i) = is_id i id
is_root_committed id other = false

-- what ended so, under a top
abbrev pub ended : Item → Bool → Bool → List Outcome
ended top committed aborted =
    (if committed then record { top = top; committed = true } ∷ [] else [])
    ++ (if aborted then record { top = top; committed = false } ∷ [] else [])

-- A leaf is under the transaction that accepted it. Where its coordinator's address names none, it is its own top.
abbrev pub leaf_top : List Subordinate → Item → Option Item → Item
leaf_top subs leaf None = leaf
leaf_top subs leaf (Some coordinator) = top_of subs coordinator

-- A prepared leaf ends by what is recorded behind it; of several of one id the last counts.
abbrev pub leaf_outcomes : List Subordinate → Item → Epr → List Record → List Outcome
leaf_outcomes subs leaf coordinator rest =
    if list_any (is_leaf_prepared leaf.id) rest then []
    else ended (leaf_top subs leaf (named coordinator.address)) (list_any (is_leaf_committed leaf.id) rest) (list_any (is_leaf_aborted leaf.id) rest)

-- A subordinate that voted is committed where that is recorded behind its last vote, else aborted where its end is.
abbrev pub vote_outcomes : List Subordinate → Item → List Record → List Outcome
vote_outcomes subs item rest =
    if list_any (is_voted item.id) rest then []
    else ended (top_of subs item) (list_any (is_sub_committed item.id) rest) (not (list_any (is_sub_committed item.id) rest) && list_any (is_ended item.id) rest)

-- a root is recorded where it committed, once or more
abbrev pub root_outcomes : List Subordinate → Item → List Record → List Outcome
root_outcomes subs item rest = if list_any (is_root_committed item.id) rest then [] else ended (top_of subs item) true false

-- what a record says of its item, with those behind it
abbrev pub outcomes_at : List Subordinate → List ℕ → Record → List Record → List Outcome
outcomes_at subs base (records.LeafPrepared id coordinator key value) rest = leaf_outcomes subs (item_at base id) coordinator rest
outcomes_at subs base (records.Voted id superior seats) rest = vote_outcomes subs (item_at base id) rest
outcomes_at subs base (records.Decided id seats) rest = root_outcomes subs (item_at base id) rest
outcomes_at subs base (records.Done id) rest = root_outcomes subs (item_at base id) rest
outcomes_at subs base other rest = []

abbrev pub outcomes_in : List Subordinate → List ℕ → List Record → List Outcome
outcomes_in subs base [] = []
outcomes_in subs base (r ∷ rest) = outcomes_at subs base r rest ++ outcomes_in subs base rest

abbrev pub outcomes_under : List Subordinate → List Log → List Outcome
outcomes_under subs [] = []
outcomes_under subs (log ∷ logs) = outcomes_in subs log.base log.records ++ outcomes_under subs logs

-- each item's outcomes, each once
abbrev pub outcomes : List Log → List Outcome
outcomes logs = outcomes_under (subordinates logs) logs
