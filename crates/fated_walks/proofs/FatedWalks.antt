-- Walks come to what their fates say.
use Rattle.std.proofs.Common.{ℕ, List, [], ◌∷◌, ◌++◌, ◌≡◌, drop, length, Option, Some, None, Bool, true, false, ap, subst, sym, ◌∙◌, refl}
use Rattle.std.specs.Prelude.{map, if◌then◌else◌}
use Rattle.std.proofs.lemmas.List.{append-nil, append_assoc}
use Rattle.at_base.specs.declared.record.Record.{Record}
use Rattle.at_model.specs.Book.{Book}
use Rattle.at_model.specs.Step.{Outcome, Plan, items_of, plain}
use Rattle.at_model.specs.World.{fate, fates_left, one_nearer, stops}
use Rattle.interposition.specs.Due.{due_outcomes}
use Rattle.world_laws.specs.Moves.{luck_of}
use Rattle.world_laws.specs.Walks.{Sending, Walk, asked, begin, branch, counted, counted_all, counted_by, is_over, recorded, sending_at, stepped, turned}
use Rattle.world_laws.specs.declared.step_outs.Taken.{Taken}
use Rattle.fated_walks.specs.Fated.{AreCut, AreFirstDue, AreUnrecorded, AreWhole, Fated, IsPart, IsPlanned, IsUnrecorded, IsWhole, StartsWith, Way, all_fates, book_of, fates_of, left_before, out_of, record_fates, records_of, stands_by, taken_of, went_of}
use Rattle.fated_walks.specs.WalksByFates.{WalksByFates, behind}
use Rattle.fated_walks.proofs.FatedOuts.{Fares, farther, farther_join, more_goes, beyond, beyond_goes, one_back, one_farther, one_goes, over_sends, past, past_drops, past_join, some_goes, starts_first, starts_then, step_sends, stops_there}

abbrev walk : Book → List Record → List Bool → Option ℕ → List Taken → Walk
walk b journal all u ts = record { book = b; journal = journal; luck = luck_of all u; taken = ts }

-- a step that counts
step_counted : (f : Fated) (b : Book) (journal : List Record) (all : List Bool) (u : Option ℕ) (ts : List Taken) → StartsWith (map went_of f.ways) all → Fares f u
    → counted f.outcome (walk b journal all (farther (map went_of f.ways) u) ts)
    ≡ walk f.outcome.book journal (past (map went_of f.ways) all) u (ts ++ taken_of f ∷ [])
step_counted f b journal all u ts h fares =
    ap (λ (s : Sending). record { book = f.outcome.book; journal = journal; luck = s.luck; taken = ts ++ s.taken ∷ [] }) (step_sends f all u h fares)

-- where its record is absent, the stop isn't at that
abbrev Stands : Fated → Option ℕ → Type 0
Stands f u = f.landed ≡ false → stops (farther (map went_of f.ways) u) ≡ false

module _ (p : Plan) (f : Fated) (b : Book) (journal : List Record) (all : List Bool) (u : Option ℕ) (ts : List Taken) (fares : Fares f u) where
  abbrev ways : List Bool
  ways = map went_of f.ways

  abbrev used_walk : Bool → Record → Walk
  used_walk landed r = walk b (if landed then journal ++ r ∷ [] else journal) (fates_left all) (one_nearer (one_farther (farther ways u))) ts

  -- its record, by its fate
  fate_steps : (r : Record) (landed : Bool) → f.outcome ≡ (if landed then p.landed else p.absent) → StartsWith ways (fates_left all)
      → (landed ≡ false → stops (farther ways u) ≡ false)
      → counted_by (if landed then Some true else (if stops (one_nearer (one_farther (farther ways u))) then None else Some false)) p (used_walk landed r)
      ≡ walk f.outcome.book (journal ++ stands_by (Some r) landed) (past ways (fates_left all)) u (ts ++ taken_of f ∷ [])
  fate_steps r true is h stands =
      (λ i. counted (sym is i) (walk b (journal ++ r ∷ []) (fates_left all) (one_back (farther ways u) i) ts))
      ∙ step_counted f b (journal ++ r ∷ []) (fates_left all) u ts h fares
  fate_steps r false is h stands =
      ap (λ v. counted_by (if stops v then None else Some false) p (walk b journal (fates_left all) v ts)) (one_back (farther ways u))
      ∙ ap (λ s. counted_by (if s then None else Some false) p (walk b journal (fates_left all) (farther ways u) ts)) (stands refl)
      ∙ ap (λ o. counted o (walk b journal (fates_left all) (farther ways u) ts)) (sym is)
      ∙ step_counted f b journal (fates_left all) u ts h fares
      ∙ ap (λ rs. walk f.outcome.book rs (past ways (fates_left all)) u (ts ++ taken_of f ∷ [])) (sym (append-nil journal))

  abbrev from : Option Record → Walk
  from entry = walk b journal all (farther (record_fates entry f.landed ++ ways) u) ts

  entry_steps : (entry : Option Record) → (entry ≡ None → f.landed ≡ true) → f.outcome ≡ (if f.landed then p.landed else p.absent)
      → StartsWith (record_fates entry f.landed ++ ways) all → Stands f u
      → counted_by (branch entry (from entry).luck) p (recorded entry (from entry))
      ≡ walk f.outcome.book (journal ++ stands_by entry f.landed) (past (record_fates entry f.landed ++ ways) all) u (ts ++ taken_of f ∷ [])
  entry_steps None sure is h stands =
      ap (λ o. counted o (walk b journal all (farther ways u) ts)) (sym (is ∙ ap (λ x. if x then p.landed else p.absent) (sure refl)))
      ∙ step_counted f b journal all u ts h fares
      ∙ ap (λ rs. walk f.outcome.book rs (past ways all) u (ts ++ taken_of f ∷ [])) (sym (append-nil journal))
  entry_steps (Some r) sure is (e, h) stands =
      ap (λ x. counted_by (if x then Some true else (if stops (one_nearer (one_farther (farther ways u))) then None else Some false)) p (used_walk x r)) e
      ∙ fate_steps r f.landed is h stands

  -- one step
  pub steps : IsPlanned p f → StartsWith (fates_of f) all → stops (farther (fates_of f) u) ≡ false → Stands f u
      → stepped p (walk b journal all (farther (fates_of f) u) ts)
      ≡ walk f.outcome.book (journal ++ stands_by f.entry f.landed) (past (fates_of f) all) u (ts ++ taken_of f ∷ [])
  steps is h goes stands =
      let w : Walk = from f.entry in
      ap (λ x. if x then w else counted_by (branch p.entry w.luck) p (recorded p.entry w)) goes
      ∙ ap (λ entry. counted_by (branch entry w.luck) p (recorded entry w)) (sym is.entry)
      ∙ entry_steps f.entry is.sure is.outcome h stands

-- These steps are sent so that after them so much is left of the stop, and it doesn't come before the last one's end.
abbrev Fare : List Fated → Option ℕ → Type 0
Fare [] u = Unit {0}
Fare (f ∷ fs) u = Fares f (farther (all_fates fs) u) × (stops (farther (all_fates (f ∷ fs)) u) ≡ false) × Fare fs u

-- with so much left of the stop these don't count
abbrev Idle : List Outcome → Option ℕ → Type 0
Idle os u = (w : Walk) → w.luck.until ≡ u → counted_all os w ≡ w

none_idle : (u : Option ℕ) → Idle [] u
none_idle u w h = refl

over_stays : (os : List Outcome) (w : Walk) → is_over w.luck ≡ true → counted_all os w ≡ w
over_stays [] w h = refl
over_stays (o ∷ os) w h = ap (λ b. counted_all os (if b then w else counted o w)) h ∙ over_stays os w h

over_idle : (os : List Outcome) → Idle os (Some 0)
over_idle os w h = over_stays os w (ap stops h)

planned : (o : Outcome) (f : Fated) → IsUnrecorded o f → IsPlanned (plain o) f
planned o f h = record {
  entry = h.entry;
  sure = λ e. h.landed;
  outcome = h.outcome ∙ ap (λ x. if x then o else o) (sym h.landed);
}

-- the last element, and then the others
join_one : {A : Type 0} (xs : List A) (x : A) (ys : List A) → (xs ++ x ∷ []) ++ ys ≡ xs ++ x ∷ ys
join_one xs x ys = append_assoc xs (x ∷ []) ys

-- one step, and what comes behind it
walk_on : (f : Fated) (fs : List Fated) (b : Book) (journal : List Record) (all : List Bool) (u : Option ℕ) (ts : List Taken)
    → walk b ((journal ++ stands_by f.entry f.landed) ++ records_of fs) (past (all_fates fs) (past (fates_of f) all)) u ((ts ++ taken_of f ∷ []) ++ map taken_of fs)
    ≡ walk b (journal ++ records_of (f ∷ fs)) (past (all_fates (f ∷ fs)) all) u (ts ++ map taken_of (f ∷ fs))
walk_on f fs b journal all u ts = λ i.
    walk b (append_assoc journal (stands_by f.entry f.landed) (records_of fs) i) (sym (past_join (fates_of f) (all_fates fs) all) i) u
    (join_one ts (taken_of f) (map taken_of fs) i)

first_steps : (p : Plan) (f : Fated) (fs : List Fated) (b : Book) (journal : List Record) (all : List Bool) (u : Option ℕ) (ts : List Taken) → IsPlanned p f
    → StartsWith (all_fates (f ∷ fs)) all → Fare (f ∷ fs) u → Stands f (farther (all_fates fs) u)
    → stepped p (walk b journal all (farther (all_fates (f ∷ fs)) u) ts)
    ≡ walk f.outcome.book (journal ++ stands_by f.entry f.landed) (past (fates_of f) all) (farther (all_fates fs) u) (ts ++ taken_of f ∷ [])
first_steps p f fs b journal all u ts is h (fares, goes, more) stands =
    let v : Option ℕ = farther (all_fates fs) u in
    let e : farther (all_fates (f ∷ fs)) u ≡ farther (fates_of f) v = farther_join (fates_of f) (all_fates fs) u in
    ap (λ x. stepped p (walk b journal all x ts)) e
    ∙ steps p f b journal all v ts fares is (starts_first (fates_of f) (all_fates fs) all h) (sym (ap stops e) ∙ goes) stands

-- the steps that are due
due_steps : (done left : List Outcome) (fs : List Fated) (b : Book) (journal : List Record) (all : List Bool) (u : Option ℕ) (ts : List Taken) → AreUnrecorded done fs
    → StartsWith (all_fates fs) all → Fare fs u → Idle left u
    → counted_all (done ++ left) (walk b journal all (farther (all_fates fs) u) ts)
    ≡ walk (book_of b fs) (journal ++ records_of fs) (past (all_fates fs) all) u (ts ++ map taken_of fs)
due_steps [] left [] b journal all u ts are h fare idle =
    idle (walk b journal all u ts) refl ∙ (λ i. walk b (sym (append-nil journal) i) all u (sym (append-nil ts) i))
due_steps [] left (f ∷ fs) b journal all u ts are h fare idle = absurd are
due_steps (o ∷ os) left [] b journal all u ts are h fare idle = absurd are
due_steps (o ∷ os) left (f ∷ fs) b journal all u ts (is, are) h (fares, goes, more) idle =
    let stands : Stands f (farther (all_fates fs) u) = λ e. absurd (apart (sym e ∙ is.landed)) in
    ap (counted_all (os ++ left)) (first_steps (plain o) f fs b journal all u ts (planned o f is) h (fares, goes, more) stands)
    ∙ due_steps os left fs f.outcome.book (journal ++ stands_by f.entry f.landed) (past (fates_of f) all) u (ts ++ taken_of f ∷ []) are
    (starts_then (fates_of f) (all_fates fs) all h) more idle
    ∙ walk_on f fs (book_of f.outcome.book fs) journal all u ts
  where
    apart : false ≡ true → ⊥
    apart e = cc

-- Behind the steps, by the fates that are past.
ends_behind : (b : Book) (journal : List Record) (all : List Bool) (u : Option ℕ) (fs : List Fated)
    → walk (book_of b fs) (journal ++ records_of fs) (past (all_fates fs) all) u (map taken_of fs) ≡ behind b journal all u fs
ends_behind b journal all u fs = ap (λ xs. walk (book_of b fs) (journal ++ records_of fs) xs u (map taken_of fs)) (past_drops (all_fates fs) all)

turn_comes : (now : ℕ) (p : Plan) (b : Book) (journal : List Record) (first : Fated) (rest : List Fated) (left : List Outcome) (all : List Bool) (u : Option ℕ) → IsPlanned p first
    → AreFirstDue now first.outcome.book left rest → Fare (first ∷ rest) u → Idle left u → StartsWith (all_fates (first ∷ rest)) all → Stands first (farther (all_fates rest) u)
    → turned now p (begin b journal (luck_of all (farther (all_fates (first ∷ rest)) u))) ≡ behind b journal all u (first ∷ rest)
turn_comes now p b journal first rest left all u is due (fares, goes, more) idle h stands =
    let v : Walk = walk first.outcome.book (journal ++ stands_by first.entry first.landed) (past (fates_of first) all) (farther (all_fates rest) u) (taken_of first ∷ []) in
    ap (asked now) (first_steps p first rest b journal all u [] is h (fares, goes, more) stands)
    ∙ ap (λ os. counted_all os v) (sym due.all)
    ∙ due_steps due.done left rest first.outcome.book v.journal v.luck.fates u v.taken due.are (starts_then (fates_of first) (all_fates rest) all h) more idle
    ∙ walk_on first rest (book_of first.outcome.book rest) journal all u []
    ∙ ends_behind b journal all u (first ∷ rest)

step_comes : (p : Plan) (b : Book) (journal : List Record) (f : Fated) (all : List Bool) (u : Option ℕ) → IsPlanned p f → Fare (f ∷ []) u → StartsWith (all_fates (f ∷ [])) all → Stands f u
    → stepped p (begin b journal (luck_of all (farther (all_fates (f ∷ [])) u))) ≡ behind b journal all u (f ∷ [])
step_comes p b journal f all u is fare h stands =
    first_steps p f [] b journal all u [] is h fare stands
    ∙ (λ i. walk f.outcome.book (sym (append-nil (journal ++ stands_by f.entry f.landed)) i) (past (fates_of f) all) u (taken_of f ∷ []))
    ∙ walk_on f [] f.outcome.book journal all u []
    ∙ ends_behind b journal all u (f ∷ [])

-- whole steps, and steps that are cut off
whole_fares : (f : Fated) (u : Option ℕ) → IsWhole f → Fares f u
whole_fares f u h = record { rest = []; all = append-nil (map out_of f.ways) ∙ h; ends = λ fates t. refl }

part_fares : (f : Fated) → IsPart f → Fares f (Some 0)
part_fares f h = record { rest = h.rest; all = h.all; ends = λ fates t. over_sends h.rest (sending_at (luck_of fates (Some 0)) t) refl }

whole_fare : (fs : List Fated) (u : Option ℕ) → stops u ≡ false → AreWhole fs → Fare fs u
whole_fare [] u goes h = tt
whole_fare (f ∷ fs) u goes (is, are) = (whole_fares f (farther (all_fates fs) u) is, more_goes (all_fates (f ∷ fs)) u goes, whole_fare fs u goes are)

cut_fare : (fs : List Fated) → AreCut fs → Fare fs (Some 0)
cut_fare [] h = absurd h
cut_fare (f ∷ []) (is, some) = (part_fares f is, some_goes (fates_of f ++ []) (Some 0) (λ e. some (sym (append-nil (fates_of f)) ∙ e)), tt)
cut_fare (f ∷ (g ∷ gs)) (is, are) =
    let (fares, goes, more) = cut_fare (g ∷ gs) are in (
      whole_fares f (farther (all_fates (g ∷ gs)) (Some 0)) is,
      ap stops (farther_join (fates_of f) (all_fates (g ∷ gs)) (Some 0)) ∙ more_goes (fates_of f) (farther (all_fates (g ∷ gs)) (Some 0)) goes,
      (fares, goes, more),
    )

whole_stands : (f : Fated) (fs : List Fated) (u : Option ℕ) → stops u ≡ false → Stands f (farther (all_fates fs) u)
whole_stands f fs u goes e = more_goes (map went_of f.ways) (farther (all_fates fs) u) (more_goes (all_fates fs) u goes)

ways_go : (ws : List Way) (u : Option ℕ) → (ws ≡ [] → ⊥) → stops (farther (map went_of ws) u) ≡ false
ways_go [] u h = absurd (h refl)
ways_go (w ∷ ws) u h = one_goes (farther (map went_of ws) u)

recorded_so : (p : Plan) (f : Fated) → IsPlanned p f → f.landed ≡ false → f.entry ≡ None → ⊥
recorded_so p f is e none = apart (sym e ∙ is.sure none)
  where
    apart : false ≡ true → ⊥
    apart e = cc

cut_stands : (p : Plan) (f : Fated) (fs : List Fated) → IsPlanned p f → AreCut (f ∷ fs)
    → ((f.entry ≡ None → ⊥) × (f.landed ≡ false) × (f.ways ≡ []) × (fs ≡ []) → ⊥) → Stands f (farther (all_fates fs) (Some 0))
cut_stands p f [] is h not e = ways_go f.ways (Some 0) (λ none. not (recorded_so p f is e, e, none, refl))
cut_stands p f (g ∷ gs) is (whole, are) not e =
    let (fares, goes, more) = cut_fare (g ∷ gs) are in more_goes (map went_of f.ways) (farther (all_fates (g ∷ gs)) (Some 0)) goes

-- an absent record at the stop
undoes : (p : Plan) (b : Book) (journal : List Record) (entry : Record) (all : List Bool) → p.entry ≡ Some entry → fate all ≡ false
    → stepped p (begin b journal (luck_of all (Some 1))) ≡ walk b journal (drop 1 all) (Some 0) []
undoes p b journal entry all is absent =
    let w : Walk = begin b journal (luck_of all (Some 1)) in
    ap (λ e. counted_by (branch e w.luck) p (recorded e w)) is
    ∙ ap (λ x. counted_by (if x then Some true else None) p (walk b (if x then journal ++ entry ∷ [] else journal) (fates_left all) (Some 0) [])) absent
    ∙ ap (λ xs. walk b journal xs (Some 0) []) (past_drops (false ∷ []) all)

pub walks_by_fates : WalksByFates
walks_by_fates = record {
  whole = λ now p b journal first rest all until is due are h far.
      let u = left_before until (length (all_fates (first ∷ rest))) in
      let goes = beyond_goes until (length (all_fates (first ∷ rest))) far in
      ap (λ v. turned now p (begin b journal (luck_of all v))) (beyond (all_fates (first ∷ rest)) until far)
      ∙ turn_comes now p b journal first rest [] all u is due (whole_fare (first ∷ rest) u goes are) (none_idle u) h (whole_stands first rest u goes);
  cut = λ now p b journal first rest left all is due are h not.
      ap (λ u. turned now p (begin b journal (luck_of all u))) (stops_there (all_fates (first ∷ rest)))
      ∙ turn_comes now p b journal first rest left all (Some 0) is due (cut_fare (first ∷ rest) are) (over_idle left) h (cut_stands p first rest is are not);
  undone = λ now p b journal entry all is absent.
      let v : Walk = walk b journal (drop 1 all) (Some 0) [] in
      ap (asked now) (undoes p b journal entry all is absent) ∙ over_stays (due_outcomes now (items_of b) b) v refl;
  unbegun = λ now p b journal all. over_stays (due_outcomes now (items_of b) b) (begin b journal (luck_of all (Some 0))) refl;
  whole_step = λ p b journal f all until is whole h far.
      let u = left_before until (length (fates_of f)) in
      let goes = beyond_goes until (length (fates_of f)) far in
      ap (λ v. stepped p (begin b journal (luck_of all v))) (beyond (fates_of f) until far ∙ ap (λ fs. farther fs u) (sym (append-nil (fates_of f))))
      ∙ step_comes p b journal f all u is (whole_fare (f ∷ []) u goes (whole, tt)) (starts_alone f all h) (whole_stands f [] u goes);
  cut_step = λ p b journal f all is are h not.
      ap (λ u. stepped p (begin b journal (luck_of all u))) (stops_there (all_fates (f ∷ [])))
      ∙ step_comes p b journal f all (Some 0) is (cut_fare (f ∷ []) are) (starts_alone f all h) (cut_stands p f [] is are (λ all_so. not (all_so.0, all_so.1, all_so.2)));
  undone_step = undoes;
}
  where
    starts_alone : (f : Fated) (all : List Bool) → StartsWith (fates_of f) all → StartsWith (all_fates (f ∷ [])) all
    starts_alone f all h = subst (λ fs. StartsWith fs all) (sym (append-nil (fates_of f))) h
