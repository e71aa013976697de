-- Two turns of nodes that are alike, whose steps went to their end: the steps and the calls for them are the same.
use Rattle.std.specs.Prelude.{ℕ, List, [], ◌∷◌, ◌++◌, ◌+◌, ◌≡◌, ◌≤◌, Bool, true, false, length, map}
use Rattle.std.specs.List.{AllByRecursion}
use Rattle.std.proofs.Common.{ap, arith, subst, sym, ◌∙◌}
use Rattle.std.proofs.lemmas.List.{append_assoc, map-append}
use Rattle.at_model.specs.Book.{Book}
use Rattle.journal_at.specs.Format.{frames}
use Rattle.node_at.specs.Doings.{AreDoings, AreFates, Doing, IsFateAt, calls_of, lost_of}
use Rattle.node_at.specs.Meanings.{Meaning}
use Rattle.node_at.specs.State.{State}
use Rattle.node_at.specs.Steps.{if_landed, kept_by}
use Rattle.node_at.specs.Texts.{call_by}
use Rattle.node_at.specs.TurnText.{DueSteps, IsFirst, TurnStep}
use Rattle.site_memory.specs.ToldCalls.{AreArmed}
use Rattle.site_model.specs.Told.{Made}
use Rattle.determined_nodes.specs.Outs.{LeaveOneWay}
use Rattle.determined_nodes.specs.SameNodes.{IsSameJournal}
use Rattle.mirrored_nets.specs.Fates.{failures, refusals}
use Rattle.determined_nodes.proofs.ArmedRows.{called, tried_one}
use Rattle.determined_nodes.proofs.OneStep.{FirstsSame, PlansArePlain, all_due_same, first_entry, firsts_same}
use Rattle.determined_nodes.proofs.RecordCalls.{AsLanded, Fits, fate_disk, fates_one}
use Rattle.mirrored_nets.proofs.CallRows.{failures_join}
use Rattle.mirrored_nets.proofs.ArmedRows.{parts_armed}
use Rattle.determined_nodes.proofs.TriedOuts.{NoRecord, all_there, due_unrecorded, few_failures, leaving_calls, rows_few, rows_there}

-- behind the first comes what is due, where the call goes on
abbrev pub Behind : Bool → ℕ → Book → List TurnStep → Type 0
Behind true now b rest = DueSteps now b [] rest
Behind false now b rest = rest ≡ []

behind_free : (goes : Bool) (now : ℕ) (b : Book) (rest : List TurnStep) → Behind goes now b rest → AllByRecursion NoRecord rest
behind_free true now b rest due = due_unrecorded due.done rest due.are
behind_free false now b rest e = subst (AllByRecursion NoRecord) (sym e) tt

rests_same : LeaveOneWay → (goes : Bool) (now : ℕ) (b c : Book) (ss ts : List TurnStep) → b ≡ c → Behind goes now b ss → Behind goes now c ts → ss ≡ ts
rests_same one true now b c ss ts e h k = all_due_same one now b c ss ts e h k
rests_same one false now b c ss ts e h k = h ∙ sym k

-- A call's steps, all of which were done, and the calls for them: behind those of its line, and before those by which the journal is written anew.
pub record DidSteps (goes : Bool) (since fails now : ℕ) (meaning : Meaning) (n : State) (line made : List Made) : Type 0 where
  pub first : TurnStep
  pub rest : List TurnStep
  pub status : ℕ
  pub is : IsFirst n.book now meaning first status
  pub due : Behind goes now first.behind rest
  pub d : Doing
  pub ds : List Doing
  pub bodies : List (List ℕ)
  pub end : n.journal.end ≡ length (frames bodies)
  pub doings : AreDoings n.kept (first ∷ rest) (d ∷ ds)
  pub fates : AreFates n.journal.live n.journal.limit bodies (first ∷ rest) (d ∷ ds)
  pub fits : Fits first.entry (length (frames bodies)) n.journal.limit
  pub refused : d.refused ≤ refusals d.first
  pub lost : lost_of (d ∷ ds) ≤ failures (calls_of (d ∷ ds))
  pub anew : List Made
  pub are : made ≡ line ++ (calls_of (d ∷ ds) ++ anew)
  pub armed : AreArmed since fails made

module _ (goes : Bool) (since fails now : ℕ) (meaning : Meaning) (n : State) (line made : List Made) (X : DidSteps goes since fails now meaning n line made) where
  pub free : AllByRecursion NoRecord X.rest
  free = behind_free goes now X.first.behind X.rest X.due

  -- what its first step may have of the disk
  pub fate : IsFateAt X.first.landed X.first.entry n.journal.live n.journal.limit n.journal.end X.d.first X.d.refused
  fate = subst (λ k. IsFateAt X.first.landed X.first.entry n.journal.live n.journal.limit k X.d.first X.d.refused) (sym X.end) X.fates.0

  pub fits_here : Fits X.first.entry n.journal.end n.journal.limit
  fits_here = subst (λ k. Fits X.first.entry k n.journal.limit) (sym X.end) X.fits

  abbrev pub outs : List Made
  outs = X.d.made ++ calls_of X.ds

  in_parts : made ≡ line ++ (X.d.first ++ (outs ++ X.anew))
  in_parts =
      X.are ∙ ap (λ z. line ++ z) (ap (λ z. z ++ X.anew) (append_assoc X.d.first X.d.made (calls_of X.ds)) ∙ append_assoc X.d.first outs X.anew)

  behind_line : AreArmed (since + length line) fails (X.d.first ++ (outs ++ X.anew))
  behind_line = (parts_armed since fails line (X.d.first ++ (outs ++ X.anew)) (subst (AreArmed since fails) in_parts X.armed)).1

  pub first_armed : AreArmed (since + length line) fails X.d.first
  first_armed = (parts_armed (since + length line) fails X.d.first (outs ++ X.anew) behind_line).0

  behind_first : AreArmed (since + length line + length X.d.first) fails (outs ++ X.anew)
  behind_first = (parts_armed (since + length line) fails X.d.first (outs ++ X.anew) behind_line).1

  pub outs_armed : AreArmed (since + length line + length X.d.first) fails outs
  outs_armed = (parts_armed (since + length line + length X.d.first) fails outs X.anew behind_first).0

  more : AreDoings (kept_by (if_landed X.first.landed X.first.entry) n.kept) X.rest X.ds
  more = X.doings.1

  sums : failures (calls_of (X.d ∷ X.ds)) ≡ failures X.d.made + failures (calls_of X.ds)
  sums =
      let a = failures_join (X.d.first ++ X.d.made) (calls_of X.ds) in
      let b = failures_join X.d.first X.d.made in
      let c = fate_disk X.first.landed X.first.entry n.journal.live n.journal.limit n.journal.end X.d.first X.d.refused fate in
      omega (arith, a, b, c)

  -- each out has its call
  pub outs_there : map called outs ≡ map call_by X.first.leaving ++ leaving_calls X.rest
  outs_there =
      let a = few_failures X.doings.0.tried in
      let b = rows_few n.journal.live n.journal.limit (kept_by (if_landed X.first.landed X.first.entry) n.kept) (X.bodies ++ X.d.landed) X.rest X.ds free more X.fates.1 in
      let c = X.lost in
      let s = sums in
      let now_there = all_there X.doings.0.tried (omega (arith, b, c, s)) in
      let then = rows_there n.journal.live n.journal.limit (kept_by (if_landed X.first.landed X.first.entry) n.kept) (X.bodies ++ X.d.landed) X.rest X.ds free more X.fates.1 (omega (arith, a, c, s)) in
      map-append called X.d.made (calls_of X.ds) ∙ (λ i. now_there i ++ then i)

-- two such that did the same
pub record StepsSame (s t : TurnStep) (ss ts : List TurnStep) (status other : ℕ) (d e : Doing) (ds es : List Doing) : Type 0 where
  pub fate : AsLanded s.entry s.landed t.landed
  pub firsts : FirstsSame s t status other
  pub rest : ss ≡ ts
  pub calls : calls_of (d ∷ ds) ≡ calls_of (e ∷ es)

module _ (one : LeaveOneWay) (plain : PlansArePlain) (goes : Bool) (since fails now then : ℕ) (meaning heard : Meaning) (n m : State) (line made also_line also : List Made) (X : DidSteps goes since fails now meaning n line made)
    (Y : DidSteps goes since fails then heard m also_line also) (book : n.book ≡ m.book) (journal : IsSameJournal n.journal m.journal) (lines : line ≡ also_line) (times : now ≡ then) (means : meaning ≡ heard) where
  its_first : IsFirst n.book now meaning Y.first Y.status
  its_first =
      subst (λ t. IsFirst n.book t meaning Y.first Y.status) (sym times)
      (subst (λ z. IsFirst n.book then z Y.first Y.status) (sym means) (subst (λ b. IsFirst b then heard Y.first Y.status) (sym book) Y.is))

  pub entries : X.first.entry ≡ Y.first.entry
  entries = first_entry n.book now meaning X.first Y.first X.status Y.status X.is its_first

  its_fate : IsFateAt Y.first.landed X.first.entry n.journal.live n.journal.limit n.journal.end Y.d.first Y.d.refused
  its_fate =
      subst (λ e. IsFateAt Y.first.landed e n.journal.live n.journal.limit n.journal.end Y.d.first Y.d.refused) (sym entries)
      (subst (λ k. IsFateAt Y.first.landed Y.first.entry k n.journal.limit n.journal.end Y.d.first Y.d.refused) (sym journal.live)
      (subst (λ k. IsFateAt Y.first.landed Y.first.entry m.journal.live k n.journal.end Y.d.first Y.d.refused) (sym journal.limit)
      (subst (λ k. IsFateAt Y.first.landed Y.first.entry m.journal.live m.journal.limit k Y.d.first Y.d.refused) (sym journal.end) (fate goes since fails then heard m also_line also Y))))

  its_armed : AreArmed (since + length line) fails Y.d.first
  its_armed = subst (λ z. AreArmed (since + length z) fails Y.d.first) (sym lines) (first_armed goes since fails then heard m also_line also Y)

  fated : (X.d.first ≡ Y.d.first) × AsLanded X.first.entry X.first.landed Y.first.landed
  fated =
      fates_one (since + length line) fails n.journal.live n.journal.limit n.journal.end X.first.entry X.first.landed Y.first.landed X.d.first Y.d.first X.d.refused Y.d.refused
      (fits_here goes since fails now meaning n line made X) (fate goes since fails now meaning n line made X) its_fate X.refused Y.refused (first_armed goes since fails now meaning n line made X) its_armed

  firsts : FirstsSame X.first Y.first X.status Y.status
  firsts = firsts_same one plain n.book now meaning X.first Y.first X.status Y.status X.is its_first fated.1

  rests : X.rest ≡ Y.rest
  rests = rests_same one goes now X.first.behind Y.first.behind X.rest Y.rest firsts.same.behind X.due (subst (λ t. Behind goes t Y.first.behind Y.rest) (sym times) Y.due)

  outs_same : outs goes since fails now meaning n line made X ≡ outs goes since fails then heard m also_line also Y
  outs_same =
      tried_one (since + length line + length X.d.first) fails (outs goes since fails now meaning n line made X) (outs goes since fails then heard m also_line also Y) (outs_armed goes since fails now meaning n line made X)
      (subst (λ z. AreArmed (since + length line + length z) fails (outs goes since fails then heard m also_line also Y)) (sym fated.0)
      (subst (λ z. AreArmed (since + length z + length Y.d.first) fails (outs goes since fails then heard m also_line also Y)) (sym lines) (outs_armed goes since fails then heard m also_line also Y)))
      (outs_there goes since fails now meaning n line made X ∙ (λ i. map call_by (firsts.same.leaving i) ++ leaving_calls (rests i)) ∙ sym (outs_there goes since fails then heard m also_line also Y))

  pub steps_same_two : StepsSame X.first Y.first X.rest Y.rest X.status Y.status X.d Y.d X.ds Y.ds
  steps_same_two = record {
    fate = fated.1;
    firsts = firsts;
    rest = rests;
    calls = append_assoc X.d.first X.d.made (calls_of X.ds) ∙ (λ i. fated.0 i ++ outs_same i) ∙ sym (append_assoc Y.d.first Y.d.made (calls_of Y.ds));
  }
