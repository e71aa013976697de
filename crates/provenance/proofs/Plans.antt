-- A plan with what is asked of endpoints and texts, in both branches.
use Rattle.std.specs.Prelude.{ℕ, List, ◌++◌, Option, Some, None, Bool, true, false, IfSome, map}
use Rattle.at_base.specs.declared.outs.Out.{Out}
use Rattle.at_base.specs.declared.outs.Out.TheVariants as outs
use Rattle.at_base.specs.declared.outs.Post.{Post}
use Rattle.at_base.specs.declared.record.Record.{Record}
use Rattle.at_model.specs.Book.{Book}
use Rattle.at_model.specs.Moves.{Change, Decision, Goes, Records}
use Rattle.at_model.specs.Posts.{accepted}
use Rattle.at_model.specs.Step.{Outcome, Plan, absent_outcome, answered_with, at_time, branch, noting, outcome_of, plain, plan_of, still}
use Rattle.model_laws.proofs.DecisionLaws.{AbsentSays, IfThere, all_join, all_map}
use Rattle.provenance.specs.Forms.{AreOuts, ArePosts, Forms, IsBook, IsOut, IsRecord}
use Rattle.provenance.proofs.Decisions.{Decides, Leaves}

pub posts_out : (F : Forms) (ps : List Post) → ArePosts F ps → AreOuts F (map outs.Post ps)
posts_out F ps h = all_map (IsOut F) outs.Post ps h

-- an answer and posts behind it
outs_have : (F : Forms) (answer : List Out) (ps : List Post) → AreOuts F answer → ArePosts F ps → AreOuts F (answer ++ map outs.Post ps)
outs_have F answer ps h k = all_join (IsOut F) answer (map outs.Post ps) h (posts_out F ps k)

pub record IsOutcome (F : Forms) (o : Outcome) : Type 0 where
  pub book : IsBook F o.book
  pub outs : AreOuts F o.outs

pub record IsPlan (F : Forms) (p : Plan) : Type 0 where
  pub entry : IfSome p.entry (IsRecord F)
  pub landed : IsOutcome F p.landed
  pub absent : IsOutcome F p.absent

pub in_branch : (F : Forms) (p : Plan) (landed : Bool) → IsPlan F p → IsOutcome F (branch p landed)
in_branch F p true h = h.landed
in_branch F p false h = h.absent

pub plain_passes : (F : Forms) (o : Outcome) → IsOutcome F o → IsPlan F (plain o)
plain_passes F o h = record { entry = tt; landed = h; absent = h }

pub still_passes : (F : Forms) (b : Book) (os : List Out) → IsBook F b → AreOuts F os → IsPlan F (plain (still b os))
still_passes F b os h k = plain_passes F (still b os) (record { book = h; outs = k })

pub timed : (F : Forms) (b : Book) (now : ℕ) → IsBook F b → IsBook F (at_time now b)
timed F b now h = record {
  incarnation_least = h.incarnation_least;
  incarnation_most = h.incarnation_most;
  transactions = h.transactions;
  leaves = h.leaves;
  activities = h.activities;
}

noting_passes : (F : Forms) (r : Record) (o : Outcome) → IsOutcome F o → IsOutcome F (noting r o)
noting_passes F r o h = record {
  book = record {
    incarnation_least = h.book.incarnation_least;
    incarnation_most = h.book.incarnation_most;
    transactions = h.book.transactions;
    leaves = h.book.leaves;
    activities = h.book.activities;
  };
  outs = h.outs;
}

pub accepted_has : (F : Forms) → AreOuts F accepted
accepted_has F = (tt, tt)

pub answered_passes : (F : Forms) (b : Book) (now : ℕ) (ps : List Post) → IsBook F b → ArePosts F ps → IsPlan F (answered_with b now ps)
answered_passes F b now ps h k = still_passes F (at_time now b) (accepted ++ map outs.Post ps) (timed F b now h) (outs_have F accepted ps (accepted_has F) k)

change_passes : {A : Type 0} (F : Forms) (P : A → Type 0) (put : Option A → Book) (answer : List Out) (c : Change A) → ((x : Option A) → IfThere P x → IsBook F (put x)) → AreOuts F answer
    → Leaves F P c → IsOutcome F (outcome_of put answer c)
change_passes F P put answer c f k h = record { book = f c.item h.item; outs = outs_have F answer c.posts k h.posts }

absent_passes : {A : Type 0} (F : Forms) (P : A → Type 0) (b : Book) (put : Option A → Book) (answer : List Out) (c : Option (Change A)) → IsBook F b → ((x : Option A) → IfThere P x → IsBook F (put x))
    → AreOuts F answer → AbsentSays (Leaves F P) c → IsOutcome F (absent_outcome b put answer c)
absent_passes F P b put answer None i f k h = record { book = i; outs = k }
absent_passes F P b put answer (Some c) i f k h = change_passes F P put answer c f k h

pub decided_passes : {A : Type 0} (F : Forms) (P : A → Type 0) (b : Book) (put : Option A → Book) (answer : List Out) (d : Decision A) → IsBook F b
    → ((x : Option A) → IfThere P x → IsBook F (put x)) → AreOuts F answer → Decides F P d → IsPlan F (plan_of b put answer d)
decided_passes F P b put answer (Goes c) i f k h = plain_passes F (outcome_of put answer c) (change_passes F P put answer c f k h)
decided_passes F P b put answer (Records r c absent) i f k h = record {
  entry = h.entry;
  landed = noting_passes F r (outcome_of put answer c) (change_passes F P put answer c f k h.landed);
  absent = absent_passes F P b put answer absent i f k h.otherwise;
}
