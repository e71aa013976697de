-- Laws of single rules: what is recorded, behind what, and what is undone.
use Rattle.std.specs.Prelude.{ℕ, List, Option, Some, None, true, ◌≡◌, ◌⊎◌}
use Rattle.std.specs.List.{list_any}
use Rattle.at_base.specs.declared.epr.Epr.{Epr}
use Rattle.at_base.specs.declared.notice.Kind.{Kind}
use Rattle.at_base.specs.declared.notice.Kind.TheVariants as kinds
use Rattle.at_base.specs.declared.notice.Vote.{Vote}
use Rattle.at_base.specs.declared.notice.Vote.TheVariants as votes
use Rattle.at_base.specs.declared.event.Moment.{Moment}
use Rattle.at_base.specs.declared.outs.Out.{Out}
use Rattle.at_tables.specs.declared.cells.Act.TheVariants as acts
use Rattle.at_model.specs.Book.{Book, Transaction, Leaf, Superior, Phase}
use Rattle.at_model.specs.Moves.{Moving, Decision, Goes, Records, become}
use Rattle.at_model.specs.Seats.{answered, is_prepared_durable, in_phase}
use Rattle.at_model.specs.Phases.{root_answered, sub_answered, prepare_seats, go_durable, all_committed, advance_in}
use Rattle.at_model.specs.Arrivals.{commit_voted, link_act}
use Rattle.at_model.specs.Leaves.{leaf_votes, leaf_commit, leaf_roll_back}
use Rattle.at_model.specs.Step.{still, plan_of}

-- A rule that makes a record.
abbrev pub IsRecorded : {A : Type 0} → Decision A → Type 0
IsRecorded (Goes c) = ⊥
IsRecorded (Records r c absent) = Unit {0}

-- A rule that makes a record, and is undone where that is absent.
abbrev pub IsUndone : {A : Type 0} → Decision A → Type 0
IsUndone (Goes c) = ⊥
IsUndone (Records r c None) = Unit {0}
IsUndone (Records r c (Some d)) = ⊥

-- A transaction decides or votes, and a record is made, only behind answers: in Volatile once no volatile seat is Active
-- or Preparing; in Durable, and on the way there, once no durable one is.
pub record DecidesBehindAnswers : Type 0 where
  pub volatile : (m : Moment) (g : Moving Transaction) → IsRecorded (advance_in m Phase.Volatile g) → answered kinds.Volatile g.item.seats ≡ true
  pub durable : (m : Moment) (g : Moving Transaction) → IsRecorded (advance_in m Phase.Durable g) → answered kinds.Durable g.item.seats ≡ true
  pub on_the_way : (m : Moment) (g : Moving Transaction) → IsRecorded (go_durable m g)
      → answered kinds.Durable (prepare_seats m kinds.Durable (become (in_phase Phase.Durable g.item) g)).item.seats ≡ true
  pub before : (m : Moment) (g : Moving Transaction) → IsRecorded (advance_in m Phase.Active g) ⊎ IsRecorded (advance_in m Phase.Registering g) → ⊥
  pub behind : (m : Moment) (g : Moving Transaction) → IsRecorded (advance_in m Phase.Voted g) ⊎ IsRecorded (advance_in m Phase.Aborting g) → ⊥

-- A subordinate's Commit and Rollback, the end of a transaction, and a durable leaf's Commit and Rollback are undone
-- where their record is absent; and an undone plan leaves the book as it was.
pub record EndsAreUndone : Type 0 where
  pub commit : (m : Moment) (s : Superior) (t : Transaction) → IsUndone (commit_voted m s t)
  pub roll_back : (m : Moment) (from : Option Epr) (id : Option (List ℕ)) (kind : Kind) (s : Superior) (t : Transaction) → IsUndone (link_act m from id kind s t acts.RecordAndSendAborted)
  pub finish : (m : Moment) (g : Moving Transaction) → IsUndone (all_committed m g)
  pub leaf_commit : (m : Moment) (from : Option Epr) (l : Leaf) → IsUndone (leaf_commit m from l kinds.Durable)
  pub leaf_roll_back : (m : Moment) (from : Option Epr) (l : Leaf) → IsUndone (leaf_roll_back m from l kinds.Durable)
  pub book : (b : Book) (put : Option Transaction → Book) (answer : List Out) (d : Decision Transaction) → IsUndone d → (plan_of b put answer d).absent ≡ still b answer

-- A durable leaf's vote Prepared, a subordinate's, and each decision of a root are recorded; a volatile leaf records nothing.
pub record VotesAreRecorded : Type 0 where
  pub leaf : (m : Moment) (from : Option Epr) (coordinator : Epr) (l : Leaf) → l.coordinator ≡ Some coordinator → IsRecorded (leaf_votes m from l kinds.Durable votes.Prepared)
  pub volatile : (m : Moment) (from : Option Epr) (l : Leaf) (vote : Vote) → IsRecorded (leaf_votes m from l kinds.Volatile vote) → ⊥
  pub root : (m : Moment) (g : Moving Transaction) → IsRecorded (root_answered m g)
  pub subordinate : (m : Moment) (s : Superior) (superior : Epr) (g : Moving Transaction) → list_any is_prepared_durable g.item.seats ≡ true → IsRecorded (sub_answered m s (Some superior) g)
