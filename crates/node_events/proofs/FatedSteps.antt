-- A node's steps as those of the model, with the fates that their calls had.
use Rattle.std.specs.Prelude.{ℕ, List, [], ◌∷◌, ◌≡◌, Bool, true, false, None, map, refl}
use Rattle.std.proofs.Common.{sym, ap, ◌∙◌}
use Rattle.at_model.specs.Book.{Book}
use Rattle.at_model.specs.Step.{Outcome, Plan, items_of}
use Rattle.decision_log.specs.KeptRecords.{Known}
use Rattle.fated_walks.specs.Fated.{AreFirstDue, AreUnrecorded, AreWhole, Fated, IsPlanned, all_posts, posts_of, stands_by}
use Rattle.interposition.specs.Due.{due_outcomes}
use Rattle.node_at.specs.Doings.{AreDoings, Doing, IsDoing}
use Rattle.node_at.specs.Steps.{if_landed, kept_by}
use Rattle.node_at.specs.TurnText.{AreDue, DueSteps, TurnStep}
use Rattle.node_events.specs.Fares.{AreFared, IsFared, way_of}
use Rattle.node_events.proofs.PlannedSteps.{ComesTo, IsStepOf, comes_planned, comes_to, fated_by, planned_by, same_records}
use Rattle.node_events.proofs.StepFares.{Fared, goes_fared}
use Rattle.node_worlds.specs.SentPosts.{AreSent, Sent, records_by}

-- one step
pub comes_fared : (s : TurnStep) (d : Doing) (o : Outcome) (landed : Bool) (r : Fared o.outs s.leaving d.made d.lost) → ComesTo o s → stands_by s.entry landed ≡ records_by (if_landed s.landed s.entry)
    → IsFared s d (record { entry = s.entry; landed = landed; outcome = o; ways = map way_of r.fares })
comes_fared s d o landed r is records = record {
  fares = r.fares;
  ways = refl;
  whole = r.outs;
  calls = r.calls;
  made = r.mades;
  lost = r.losses;
  rightly = r.rightly;
  entry = refl;
  records = records;
  behind = sym is.behind;
  came = sym is.came;
}

-- what a node did in a step of a plan
pub record OneFated (p : Plan) (s : TurnStep) (d : Doing) : Type 0 where
  pub fated : Fated
  pub planned : IsPlanned p fated
  pub fared : IsFared s d fated
  pub sent : Sent s.leaving d.made (posts_of fated.ways)

pub one_fated : (p : Plan) (s : TurnStep) (d : Doing) (kept : Known) → IsStepOf p s → IsDoing kept s d → OneFated p s d
one_fated p s d kept is does =
    let comes = comes_planned p s is in
    let r = goes_fared comes.leaves does.tried in
    record {
      fated = fated_by s p (map way_of r.fares);
      planned = planned_by p s (map way_of r.fares) is;
      fared = comes_fared s d (fated_by s p (map way_of r.fares)).outcome (fated_by s p (map way_of r.fares)).landed r comes (same_records s.entry s.landed);
      sent = r.sent;
    }

-- the steps of the items that are due
pub record DueFated (done : List Outcome) (ss : List TurnStep) (ds : List Doing) : Type 0 where
  pub fated : List Fated
  pub are : AreUnrecorded done fated
  pub fared : AreFared ss ds fated
  pub sent : AreSent ss ds (all_posts fated)

unrecorded : (s : TurnStep) → s.entry ≡ None → stands_by s.entry true ≡ records_by (if_landed s.landed s.entry)
unrecorded s e = ap (λ o. stands_by o true) e ∙ by_landed s.landed ∙ ap (λ o. records_by (if_landed s.landed o)) (sym e)
  where
    by_landed : (landed : Bool) → stands_by None true ≡ records_by (if_landed landed None)
    by_landed true = refl
    by_landed false = refl

pub due_fated : (kept : Known) (done : List Outcome) (ss : List TurnStep) (ds : List Doing) → AreDue done ss → AreDoings kept ss ds → DueFated done ss ds
due_fated kept [] [] [] due does = record { fated = []; are = tt; fared = tt; sent = refl }
due_fated kept [] [] (d ∷ ds) due does = absurd does
due_fated kept [] (s ∷ ss) ds due does = absurd due
due_fated kept (o ∷ done) [] ds due does = absurd due
due_fated kept (o ∷ done) (s ∷ ss) [] due does = absurd does
due_fated kept (o ∷ done) (s ∷ ss) (d ∷ ds) (entry, landed, is, due) (does, more) =
    let comes = comes_to o s is in
    let r = goes_fared comes.leaves does.tried in
    let rest = due_fated (kept_by (if_landed s.landed s.entry) kept) done ss ds due more in
    record {
      fated = record { entry = s.entry; landed = true; outcome = o; ways = map way_of r.fares } ∷ rest.fated;
      are = (record { entry = entry; landed = refl; outcome = refl }, rest.are);
      fared = (comes_fared s d o true r comes (unrecorded s entry), rest.fared);
      sent = (_, _, r.sent, rest.sent, refl);
    }

pub first_due : (now : ℕ) (b c : Book) (left : List Outcome) (ss : List TurnStep) (ds : List Doing) (due : DueSteps now b left ss) → b ≡ c → (r : DueFated due.done ss ds) → AreFirstDue now c left r.fated
first_due now b c left ss ds due e r = record { done = due.done; are = r.are; all = due.all ∙ ap (λ z. due_outcomes now (items_of z) z) e }

pub all_whole : (ss : List TurnStep) (ds : List Doing) (fs : List Fated) → AreFared ss ds fs → AreWhole fs
all_whole [] [] [] h = tt
all_whole (s ∷ ss) (d ∷ ds) (f ∷ fs) (h, more) = (h.whole, all_whole ss ds fs more)
all_whole [] [] (f ∷ fs) h = absurd h
all_whole [] (d ∷ ds) fs h = absurd h
all_whole (s ∷ ss) [] fs h = absurd h
all_whole (s ∷ ss) (d ∷ ds) [] h = absurd h
