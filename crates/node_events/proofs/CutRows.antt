-- A row of steps all of whose outs left, cut off at one of their fates.
use Rattle.std.specs.Prelude.{ℕ, List, [], ◌∷◌, ◌++◌, ◌+◌, ◌≡◌, ◌<◌, ◌≤◌, ◌⊎◌, Bool, true, false, None, length, map, replicate, take, refl}
use Rattle.std.proofs.Common.{inl, inr, sym, subst, ap, arith, ◌∙◌}
use Rattle.std.proofs.lemmas.List.{append-nil, length-append, length-map, length-replicate, take-append-le}
use Rattle.at_model.specs.Step.{Outcome, Plan}
use Rattle.fated_walks.specs.Fated.{AllLeft, AreCut, AreUnrecorded, Fated, IsPlanned, IsUnrecorded, IsWhole, all_fates, all_posts, fates_of, posts_of, record_fates, went_of}
use Rattle.node_at.specs.Doings.{Doing}
use Rattle.node_at.specs.Steps.{if_landed}
use Rattle.node_at.specs.TurnText.{AreDue, TurnStep}
use Rattle.node_events.specs.Fares.{AreFared, IsFared}
use Rattle.node_events.specs.NodeEvents.{all_made, one_if, struck}
use Rattle.node_events.proofs.CutSteps.{AreGone, OneStruck, gone_fates, gone_length, gone_sent, one_struck, step_gone, struck_past, struck_some}
use Rattle.node_events.proofs.PlannedSteps.{ComesTo, comes_to}
use Rattle.node_events.proofs.Rows.{no_front, take_past, within_or_past}
use Rattle.node_events.proofs.WalkedSteps.{AreAlike, IsLike, fared_like}
use Rattle.node_worlds.specs.SentPosts.{AreSent, Sent, recorded, records_by}
use Rattle.site_model.specs.Told.{Made}

-- A step cut off at this of its outs: so many fates were yes, and that many of its calls were made.
pub record FirstCut (p : Plan) (s : TurnStep) (d : Doing) (before kept : ℕ) (last : Bool) : Type 0 where
  pub fated : Fated
  pub planned : IsPlanned p fated
  pub landed : fated.landed ≡ true
  pub like : IsLike s fated
  pub is_cut : AreCut (fated ∷ [])
  pub fates : fates_of fated ≡ struck before last
  pub made : List Made
  pub takes : made ≡ take kept d.made
  pub sent : Sent s.leaving made (posts_of fated.ways)

-- its record had so many fates, all yes
abbrev pub HasYes : Fated → ℕ → Type 0
HasYes f n = record_fates f.entry f.landed ≡ replicate n true

few_if : (last : Bool) → one_if last ≤ 1
few_if true = omega arith
few_if false = omega arith

module _ (s : TurnStep) (d : Doing) (f : Fated) (fared : IsFared s d f) (gone : AreGone s.leaving f.ways d.made) where
  pub cut_is_cut : (k : ℕ) (last : Bool) (r : OneStruck s d f k last) → AreCut (record f { ways = r.ways } ∷ [])
  cut_is_cut k last r = (record { rest = r.rest; all = r.outs }, λ e. struck_some k last (sym r.fates ∙ no_front (record_fates f.entry f.landed) (map went_of r.ways) e))

  pub cut_first : (p : Plan) (before n k : ℕ) (last : Bool) → IsPlanned p f → f.landed ≡ true → HasYes f n → before ≡ n + k → k < length f.ways → FirstCut p s d before (k + one_if last) last
  cut_first p before n k last planned landed sure e less =
      let r = one_struck s d f k last gone fared.whole less in
      record {
        fated = record f { ways = r.ways };
        planned = record { entry = planned.entry; sure = planned.sure; outcome = planned.outcome };
        landed = landed;
        like = record { records = fared.records; behind = fared.behind; came = fared.came };
        is_cut = cut_is_cut k last r;
        fates = (λ j. sure j ++ r.fates j) ∙ struck_past n k last ∙ ap (λ m. struck m last) (sym e);
        made = take (k + one_if last) d.made;
        takes = refl;
        sent = r.sent;
      }

  pub yes_fates : (n : ℕ) → HasYes f n → fates_of f ≡ replicate n true ++ replicate (length f.ways) true
  yes_fates n sure = λ j. sure j ++ gone_fates s.leaving f.ways d.made gone j

  pub yes_length : (n : ℕ) → HasYes f n → length (fates_of f) ≡ n + length f.ways
  yes_length n sure =
      length-append (record_fates f.entry f.landed) (map went_of f.ways) ∙ (λ j. length (sure j) + length-map f.ways went_of j) ∙ ap (λ m. m + length f.ways) (length-replicate n true)

  -- its calls, and some behind them
  pub takes_more : (k few j : ℕ) (more : List Made) → k ≡ length f.ways + j → take (k + few) (d.made ++ more) ≡ d.made ++ take (j + few) more
  takes_more k few j more e = let l = gone_length s.leaving f.ways d.made gone in take_past d.made more (j + few) (k + few) (omega (arith, l, e))

  pub takes_within : (k : ℕ) (last : Bool) (more : List Made) → k < length f.ways → take (k + one_if last) d.made ++ [] ≡ take (k + one_if last) (d.made ++ more)
  takes_within k last more less =
      let l = gone_length s.leaving f.ways d.made gone in
      let few = few_if last in
      append-nil (take (k + one_if last) d.made) ∙ sym (take-append-le (k + one_if last) d.made more (omega (arith, l, few, less)))

-- The first of some due steps: so many fates were yes, and one more came.
pub record Struck (done : List Outcome) (ss : List TurnStep) (ds : List Doing) (k : ℕ) (last : Bool) : Type 0 where
  pub front : List TurnStep
  pub rest : List TurnStep
  pub of : ss ≡ front ++ rest
  pub none : recorded front ≡ []
  pub made : List Doing
  pub kept : all_made made ≡ take (k + one_if last) (all_made ds)
  pub cut : List Fated
  pub like : AreAlike front cut
  pub sent : AreSent front made (all_posts cut)
  pub fates : all_fates cut ≡ struck k last
  pub is_cut : AreCut cut
  pub begun : List Outcome
  pub left : List Outcome
  pub all : begun ++ left ≡ done
  pub are : AreUnrecorded begun cut

pub cut_more : (f : Fated) (fs : List Fated) → IsWhole f → AreCut fs → AreCut (f ∷ fs)
cut_more f [] whole is_cut = absurd is_cut
cut_more f (g ∷ gs) whole is_cut = (whole, is_cut)

none_recorded : (s : TurnStep) → s.entry ≡ None → records_by (if_landed s.landed s.entry) ≡ []
none_recorded s e = ap (λ o. records_by (if_landed s.landed o)) e ∙ by_landed s.landed
  where
    by_landed : (landed : Bool) → records_by (if_landed landed None) ≡ []
    by_landed true = refl
    by_landed false = refl

pub due_recorded : (done : List Outcome) (ss : List TurnStep) → AreDue done ss → recorded ss ≡ []
due_recorded [] [] due = refl
due_recorded [] (s ∷ ss) due = absurd due
due_recorded (o ∷ done) [] due = absurd due
due_recorded (o ∷ done) (s ∷ ss) (entry, landed, is, due) = λ j. none_recorded s entry j ++ due_recorded done ss due j

module _ (last : Bool) (o : Outcome) (done : List Outcome) (s : TurnStep) (ss : List TurnStep) (d : Doing) (ds : List Doing) (f : Fated) (entry : s.entry ≡ None) (un : IsUnrecorded o f)
    (fared : IsFared s d f) (gone : AreGone s.leaving f.ways d.made) where
  no_yes : HasYes f 0
  no_yes = ap (λ e. record_fates e f.landed) un.entry

  here_struck : (k : ℕ) → k < length f.ways → Struck (o ∷ done) (s ∷ ss) (d ∷ ds) k last
  here_struck k less =
      let r = one_struck s d f k last gone fared.whole less in
      record {
        front = s ∷ [];
        rest = ss;
        of = refl;
        none = append-nil (records_by (if_landed s.landed s.entry)) ∙ none_recorded s entry;
        made = record d { made = take (k + one_if last) d.made } ∷ [];
        kept = takes_within s d f fared gone k last (all_made ds) less;
        cut = record f { ways = r.ways } ∷ [];
        like = (record { records = fared.records; behind = fared.behind; came = fared.came }, tt);
        sent = (_, _, r.sent, refl, refl);
        fates = append-nil (record_fates f.entry f.landed ++ map went_of r.ways) ∙ (λ j. no_yes j ++ r.fates j);
        is_cut = cut_is_cut s d f fared gone k last r;
        begun = o ∷ [];
        left = done;
        all = refl;
        are = (record { entry = un.entry; landed = un.landed; outcome = un.outcome }, tt);
      }

  past_struck : (k j : ℕ) → k ≡ length f.ways + j → Struck done ss ds j last → Struck (o ∷ done) (s ∷ ss) (d ∷ ds) k last
  past_struck k j e r = record {
    front = s ∷ r.front;
    rest = r.rest;
    of = ap (λ z. s ∷ z) r.of;
    none = (λ i. none_recorded s entry i ++ r.none i);
    made = d ∷ r.made;
    kept = ap (λ z. d.made ++ z) r.kept ∙ sym (takes_more s d f fared gone k (one_if last) j (all_made ds) e);
    cut = f ∷ r.cut;
    like = (fared_like s d f fared, r.like);
    sent = (_, _, gone_sent s.leaving f.ways d.made gone, r.sent, refl);
    fates = (λ i. yes_fates s d f fared gone 0 no_yes i ++ r.fates i) ∙ struck_past (length f.ways) j last ∙ ap (λ m. struck m last) (sym e);
    is_cut = cut_more f r.cut fared.whole r.is_cut;
    begun = o ∷ r.begun;
    left = r.left;
    all = ap (λ z. o ∷ z) r.all;
    are = (un, r.are);
  }

  due_struck_by : (k : ℕ) (fs : List Fated) → k < length (fates_of f ++ all_fates fs) → ((j : ℕ) → j < length (all_fates fs) → Struck done ss ds j last)
      → (k < length f.ways) ⊎ ((j : ℕ) × (k ≡ length f.ways + j)) → Struck (o ∷ done) (s ∷ ss) (d ∷ ds) k last
  due_struck_by k fs less again (inl h) = here_struck k h
  due_struck_by k fs less again (inr (j, e)) =
      let l = length-append (fates_of f) (all_fates fs) in
      let y = yes_length s d f fared gone 0 no_yes in
      past_struck k j e (again j (omega (arith, less, l, y, e)))

pub due_struck : (last : Bool) (done : List Outcome) (ss : List TurnStep) (ds : List Doing) (fs : List Fated) → AreDue done ss → AreUnrecorded done fs → AreFared ss ds fs → AllLeft fs
    → (k : ℕ) → k < length (all_fates fs) → Struck done ss ds k last
due_struck last [] ss ds [] due are fared left k less = absurd (omega (arith, less))
due_struck last [] ss ds (f ∷ fs) due are fared left k less = absurd are
due_struck last (o ∷ done) ss ds [] due are fared left k less = absurd are
due_struck last (o ∷ done) [] ds (f ∷ fs) due are fared left k less = absurd due
due_struck last (o ∷ done) (s ∷ ss) [] (f ∷ fs) due are fared left k less = absurd fared
due_struck last (o ∷ done) (s ∷ ss) (d ∷ ds) (f ∷ fs) (entry, landed, is, due) (un, are) (fared, more) ((stands, gone), left) k less =
    due_struck_by last o done s ss d ds f entry un fared (step_gone s d f (subst (λ z. ComesTo z s) (sym un.outcome) (comes_to o s is)) fared gone) k fs less
    (due_struck last done ss ds fs due are more left) (within_or_past (length f.ways) k)
