-- What is recorded, behind what, and what is undone.
use Rattle.std.specs.Prelude.{List, Option, Some, None, Bool, true, false, ◌≡◌, ◌⊎◌, refl, if◌then◌else◌}
use Rattle.std.specs.List.{list_any}
use Rattle.std.proofs.Common.{inl, inr, sym, subst}
use Rattle.at_base.specs.declared.epr.Epr.{Epr}
use Rattle.at_base.specs.declared.notice.Kind.TheVariants as kinds
use Rattle.at_base.specs.declared.notice.Vote.{Vote}
use Rattle.at_base.specs.declared.notice.Vote.TheVariants as votes
use Rattle.at_base.specs.declared.event.Moment.{Moment}
use Rattle.at_base.specs.declared.outs.Out.{Out}
use Rattle.at_model.specs.Book.{Book, Transaction, Superior, Leaf, Phase}
use Rattle.at_model.specs.Moves.{Moving, Change, Decision, Goes, Records, stays, become}
use Rattle.at_model.specs.Seats.{answered, is_prepared_durable, in_phase}
use Rattle.at_model.specs.Phases.{advance_in, go_durable, prepare_seats, volatile_answered, durable_answered, root_answered, sub_answered, all_committed}
use Rattle.at_model.specs.Arrivals.{commit_voted, link_act}
use Rattle.at_model.specs.Leaves.{leaf_votes, leaf_records_vote, leaf_commit, leaf_roll_back}
use Rattle.at_model.specs.Step.{plan_of, still}
use Rattle.model_laws.specs.Rules.{IsRecorded, IsUndone, DecidesBehindAnswers, EndsAreUndone, VotesAreRecorded}

recorded_if : (b : Bool) (d : Decision Transaction) (c : Change Transaction) → IsRecorded (if b then d else Goes c) → b ≡ true
recorded_if true d c h = refl
recorded_if false d c h = absurd h

pub decides_behind_answers : DecidesBehindAnswers
unfolding advance_in go_durable
decides_behind_answers = record {
  volatile = λ m g h. recorded_if (answered kinds.Volatile g.item.seats) (volatile_answered m g.item.superior g) (stays g) h;
  durable = λ m g h. recorded_if (answered kinds.Durable g.item.seats) (durable_answered m g.item.superior g) (stays g) h;
  on_the_way = λ m g h.
      recorded_if (answered kinds.Durable (prepare_seats m kinds.Durable (become (in_phase Phase.Durable g.item) g)).item.seats)
      (durable_answered m g.item.superior (prepare_seats m kinds.Durable (become (in_phase Phase.Durable g.item) g)))
      (stays (prepare_seats m kinds.Durable (become (in_phase Phase.Durable g.item) g))) h;
  before = λ m g h. neither h;
  behind = λ m g h. neither h;
}
  where
    neither : ⊥ ⊎ ⊥ → ⊥
    neither (inl e) = e
    neither (inr e) = e

undone_plan : (b : Book) (put : Option Transaction → Book) (answer : List Out) (d : Decision Transaction) → IsUndone d
    → (plan_of b put answer d).absent ≡ still b answer
undone_plan b put answer (Goes c) h = absurd h
undone_plan b put answer (Records r c None) h = refl
undone_plan b put answer (Records r c (Some d)) h = absurd h

pub ends_are_undone : EndsAreUndone
unfolding commit_voted link_act all_committed leaf_commit leaf_roll_back
ends_are_undone = record {
  commit = λ m s t. tt;
  roll_back = λ m from id kind s t. tt;
  finish = λ m g. tt;
  leaf_commit = λ m from l. tt;
  leaf_roll_back = λ m from l. tt;
  book = undone_plan;
}

records_if : (b : Bool) (d e : Decision Transaction) → b ≡ true → IsRecorded d → IsRecorded (if b then d else e)
records_if true d e h k = k
records_if false d e h k = absurd cc

no_record : (m : Moment) (from : Option Epr) (l : Leaf) (vote : Vote) → IsRecorded (leaf_votes m from l kinds.Volatile vote) → ⊥
unfolding leaf_votes
no_record m from l votes.Prepared h = h
no_record m from l votes.ReadOnly h = h
no_record m from l votes.Aborted h = h

leaf_recorded : (m : Moment) (from : Option Epr) (coordinator : Epr) (l : Leaf) → l.coordinator ≡ Some coordinator
    → IsRecorded (leaf_votes m from l kinds.Durable votes.Prepared)
unfolding leaf_votes
leaf_recorded m from coordinator l e = subst (λ o. IsRecorded (leaf_records_vote m o l)) (sym e) tt

root_recorded : (m : Moment) (g : Moving Transaction) → IsRecorded (root_answered m g)
unfolding root_answered
root_recorded m g = tt

sub_recorded : (m : Moment) (s : Superior) (superior : Epr) (g : Moving Transaction) → list_any is_prepared_durable g.item.seats ≡ true
    → IsRecorded (sub_answered m s (Some superior) g)
unfolding sub_answered
sub_recorded m s superior g e = records_if (list_any is_prepared_durable g.item.seats) _ _ e tt

pub votes_are_recorded : VotesAreRecorded
votes_are_recorded = record { leaf = leaf_recorded; volatile = no_record; root = root_recorded; subordinate = sub_recorded }
