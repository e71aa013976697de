-- The nodes behind two turns of nodes that are alike, whose steps were the same.
use Rattle.std.specs.Prelude.{ℕ, List, [], ◌∷◌, ◌++◌, ◌+◌, ◌≡◌, Bool, true, false, Option, None, length}
use Rattle.std.specs.List.{AllByRecursion}
use Rattle.std.proofs.Common.{ap, append-nil, arith, inl, inr, refl, sym, ◌∙◌}
use Rattle.std.proofs.lemmas.List.{length-append}
use Rattle.at_base.specs.declared.record.Record.{Record}
use Rattle.decision_log.specs.KeptRecords.{Known}
use Rattle.journal_at.specs.Format.{behind, frames}
use Rattle.node_at.specs.Doings.{AreDoings, Doing, book_behind, came_of, deeds_of, kept_behind}
use Rattle.node_at.specs.Meanings.{Meaning}
use Rattle.node_at.specs.Moments.{landed_of}
use Rattle.node_at.specs.State.{State}
use Rattle.node_at.specs.Steps.{bodies_by, if_landed, kept_by, landed_by}
use Rattle.node_at.specs.TurnText.{TurnStep}
use Rattle.site_model.specs.Told.{Made}
use Rattle.determined_nodes.specs.SameNodes.{IsSameBehind, IsSameJournal}
use Rattle.determined_nodes.proofs.RecordCalls.{AsLanded}
use Rattle.determined_nodes.proofs.TriedOuts.{NoRecord}
use Rattle.determined_nodes.proofs.TwoRuns.{DidSteps, StepsSame, free}

frames_longer : (xs ys : List (List ℕ)) → length (frames (xs ++ ys)) ≡ length (frames xs) + length (frames ys)
frames_longer [] ys = omega arith
frames_longer (x ∷ xs) ys =
    let a = length-append (behind x) (frames (xs ++ ys)) in
    let b = length-append (behind x) (frames xs) in
    let c = frames_longer xs ys in
    omega (arith, a, b, c)

-- steps without a record leave nothing in the journal
none_lands : (k : Known) (ss : List TurnStep) (ds : List Doing) → AllByRecursion NoRecord ss → AreDoings k ss ds → landed_of (deeds_of ds) ≡ []
none_lands k [] [] loose are = refl
none_lands k [] (d ∷ ds) loose are = absurd are
none_lands k (s ∷ ss) [] loose are = absurd are
none_lands k (s ∷ ss) (d ∷ ds) (e, others) (is, are) =
    (λ i. (is.landed ∙ by s.landed (s.entry) e) i ++ none_lands (kept_by (if_landed s.landed s.entry) k) ss ds others are i)
  where
    by : (b : Bool) (o : Option Record) → o ≡ None → landed_by b o ≡ []
    by true o f = ap bodies_by f
    by false o f = refl

pub landed_one : (entry other : Option Record) (landed also : Bool) → entry ≡ other → AsLanded entry landed also → if_landed landed entry ≡ if_landed also other
landed_one entry other landed also e (inr same) = λ i. if_landed (same i) (e i)
landed_one entry other true true e (inl none) = e
landed_one entry other true false e (inl none) = none
landed_one entry other false true e (inl none) = sym none ∙ e
landed_one entry other false false e (inl none) = refl

-- what the steps of a turn left
pub record LeftBy (goes : Bool) (since fails now : ℕ) (meaning : Meaning) (n node : State) (line made : List Made) (X : DidSteps goes since fails now meaning n line made) : Type 0 where
  pub book : node.book ≡ book_behind n.book (X.first ∷ X.rest)
  pub effects : node.effects ≡ n.effects ++ came_of (X.first ∷ X.rest)
  pub kept : node.kept ≡ kept_behind n.kept (X.first ∷ X.rest)
  pub runs : node.halted ≡ n.halted
  pub sure : node.journal.unsure ≡ n.journal.unsure
  pub live : node.journal.live ≡ n.journal.live
  pub limit : node.journal.limit ≡ n.journal.limit
  pub generation : node.journal.generation ≡ n.journal.generation
  pub unshut : node.journal.unshut ≡ n.journal.unshut
  pub end : node.journal.end ≡ length (frames (X.bodies ++ landed_of (deeds_of (X.d ∷ X.ds))))

module _ (goes : Bool) (since fails now : ℕ) (meaning : Meaning) (n node : State) (line made : List Made) (X : DidSteps goes since fails now meaning n line made) (L : LeftBy goes since fails now meaning n node line made X) where
  pub end_is : node.journal.end ≡ n.journal.end + length (frames (landed_by X.first.landed X.first.entry))
  end_is =
      let none = none_lands (kept_by (if_landed X.first.landed X.first.entry) n.kept) X.rest X.ds (free goes since fails now meaning n line made X) X.doings.1 in
      let same = ap (λ z. length (frames (X.bodies ++ z))) (λ i. X.doings.0.landed i ++ none i) in
      let longer = frames_longer X.bodies (landed_by X.first.landed X.first.entry ++ []) in
      let alone = ap (λ z. length (frames z)) (append-nil (landed_by X.first.landed X.first.entry)) in
      let a = L.end in
      let b = X.end in
      omega (arith, same, longer, alone, a, b)

module _ (goes : Bool) (since fails now then : ℕ) (meaning heard : Meaning) (n m node other : State) (line made also_line also : List Made) (X : DidSteps goes since fails now meaning n line made) (Y : DidSteps goes since fails then heard m also_line also)
    (L : LeftBy goes since fails now meaning n node line made X) (M : LeftBy goes since fails then heard m other also_line also Y) (same : IsSameBehind n m) (runs : n.halted ≡ false)
    (S : StepsSame X.first Y.first X.rest Y.rest X.status Y.status X.d Y.d X.ds Y.ds) (entries : X.first.entry ≡ Y.first.entry) where
  j : IsSameJournal n.journal m.journal
  j = same.same.journal runs

  landed : if_landed X.first.landed X.first.entry ≡ if_landed Y.first.landed Y.first.entry
  landed = landed_one X.first.entry Y.first.entry X.first.landed Y.first.landed entries S.fate

  pub behind_same : IsSameBehind node other
  behind_same = record {
    same = record {
      book = L.book ∙ (λ i. book_behind (S.firsts.same.behind i) (S.rest i)) ∙ sym M.book;
      kept = L.kept ∙ (λ i. kept_behind (kept_by (landed i) (same.same.kept i)) (S.rest i)) ∙ sym M.kept;
      halted = L.runs ∙ same.same.halted ∙ sym M.runs;
      journal = λ going. record {
        live = L.live ∙ j.live ∙ sym M.live;
        end = end_is goes since fails now meaning n node line made X L ∙ (λ i. j.end i + length (frames (bodies_by (landed i)))) ∙ sym (end_is goes since fails then heard m other also_line also Y M);
        limit = L.limit ∙ j.limit ∙ sym M.limit;
        generation = L.generation ∙ j.generation ∙ sym M.generation;
        unshut = L.unshut ∙ j.unshut ∙ sym M.unshut;
        unsure = L.sure ∙ j.unsure ∙ sym M.sure;
      };
    };
    effects = L.effects ∙ (λ i. same.effects i ++ (S.firsts.same.came i ++ came_of (S.rest i))) ∙ sym M.effects;
  }
