-- What is left of fates that are yes, and then one more, behind a walk.
use Rattle.std.specs.Prelude.{ℕ, zero, suc, List, [], ◌∷◌, ◌++◌, ◌+◌, ◌-◌, ◌≡◌, ◌≤◌, ◌<◌, ◌⊎◌, Option, Some, None, Bool, true, false, if◌then◌else◌, length, map}
use Rattle.std.proofs.Common.{ap, arith, inl, inr, refl, subst, sym, ◌∙◌}
use Rattle.std.proofs.lemmas.Bool.{ne_eqb}
use Rattle.std.proofs.lemmas.List.{append-nil, length-append}
use Rattle.at_base.specs.declared.outs.Out.{Out}
use Rattle.at_base.specs.declared.record.Record.{Record}
use Rattle.at_model.specs.Book.{Book}
use Rattle.at_model.specs.Step.{Outcome, Plan, items_of}
use Rattle.at_model.specs.World.{fate, fates_left, one_nearer, stops}
use Rattle.interposition.specs.Due.{due_outcomes}
use Rattle.world_laws.specs.Fates.{behind_done}
use Rattle.world_laws.specs.Moves.{luck_of}
use Rattle.world_laws.specs.Walks.{Luck, Sending, Walk, begin, branch, counted, counted_all, counted_by, counted_one, is_over, outs_of, recorded, sending, sends, sent_each, sent_one, stepped, turned, used, with_fate}
use Rattle.fated_walks.specs.CallsComing.{CallsComing, IsUntil}
use Rattle.fated_walks.specs.Fated.{AreFirstDue, AreUnrecorded, AreWhole, Fated, IsPlanned, IsWhole, Way, all_fates, fates_of, out_of, record_fates, went_of}

-- so many are left that are yes, and then this one; the stop, if there is one, comes behind it
record IsLeft (last : Bool) (k : ℕ) (l : Luck) : Type 0 where
  fates : l.fates ≡ behind_done k (last ∷ [])
  until : IsUntil k l.until

-- of so many of them, behind this number of calls: the others, or none where there are more calls
abbrev Leaves : Bool → ℕ → ℕ → Luck → Type 0
Leaves last k n l = ((d : ℕ) × (k ≡ n + d) × IsLeft last d l) ⊎ ((k < n) × (l.fates ≡ []))

one_more : (last : Bool) (k n : ℕ) (l : Luck) → Leaves last k n l → Leaves last (suc k) (suc n) l
one_more last k n l (inl (d, e, h)) = inl (d, omega (arith, e), h)
one_more last k n l (inr (more, none)) = inr (omega (arith, more), none)

then_leaves : (last : Bool) (k n m : ℕ) (l after : Luck) → Leaves last k n l → ((d : ℕ) → k ≡ n + d → IsLeft last d l → Leaves last d m after) → (l.fates ≡ [] → after.fates ≡ [])
    → Leaves last k (n + m) after
then_leaves last k n m l after (inl (d, e, h)) next none = by (next d e h)
  where
    by : Leaves last d m after → Leaves last k (n + m) after
    by (inl (c, f, left)) = inl (c, omega (arith, e, f), left)
    by (inr (more, gone)) = inr (omega (arith, e, more), gone)
then_leaves last k n m l after (inr (more, gone)) next none = inr (omega (arith, more), none gone)

nearer : (k : ℕ) (u : Option ℕ) → IsUntil (suc k) u → IsUntil k (one_nearer u)
nearer k u (inl e) = inl (ap one_nearer e)
nearer k u (inr e) = let same : suc k + 1 - 1 ≡ k + 1 = omega arith in inr (ap one_nearer e ∙ ap Some same)

goes : (k : ℕ) (u : Option ℕ) → IsUntil k u → stops u ≡ false
goes k u (inl e) = ap stops e
goes k u (inr e) = ap stops e ∙ ne_eqb (k + 1) 0 (λ z. absurd (omega (arith, z)))

used_one : (last : Bool) (k : ℕ) (l : Luck) → IsLeft last (suc k) l → IsLeft last k (used l)
used_one last k l h = record { fates = ap fates_left h.fates; until = nearer k l.until h.until }

-- answers and posts
sent_on : (out : Out) (s : Sending) → is_over s.luck ≡ false → (sent_one out s).luck ≡ used s.luck
sent_on out s h =
    let gone : Sending = record { luck = used s.luck; taken = with_fate (fate s.luck.fates) out s.taken } in
    ap (λ b. (if b then s else gone).luck) h

none_one : (out : Out) (s : Sending) → s.luck.fates ≡ [] → (sent_one out s).luck.fates ≡ []
none_one out s h = by (is_over s.luck)
  where
    gone : Sending
    gone = record { luck = used s.luck; taken = with_fate (fate s.luck.fates) out s.taken }

    by : (b : Bool) → (if b then s else gone).luck.fates ≡ []
    by true = h
    by false = ap fates_left h

none_sent : (os : List Out) (s : Sending) → s.luck.fates ≡ [] → (sent_each os s).luck.fates ≡ []
none_sent [] s h = h
none_sent (out ∷ rest) s h = none_sent rest (sent_one out s) (none_one out s h)

sent_leaves : (last : Bool) (os : List Out) (k : ℕ) (s : Sending) → IsLeft last k s.luck → Leaves last k (length os) (sent_each os s).luck
sent_leaves last [] k s h = inl (k, omega arith, h)
sent_leaves last (out ∷ rest) zero s h =
    inr (omega arith, none_sent rest (sent_one out s) (ap (λ (l : Luck). l.fates) (sent_on out s (goes 0 s.luck.until h.until)) ∙ ap fates_left h.fates))
sent_leaves last (out ∷ rest) (suc k) s h =
    let on : (sent_one out s).luck ≡ used s.luck = sent_on out s (goes (suc k) s.luck.until h.until) in
    one_more last k (length rest) (sent_each rest (sent_one out s)).luck
    (sent_leaves last rest k (sent_one out s) (subst (IsLeft last k) (sym on) (used_one last k s.luck h)))

-- a step that counts
counted_leaves : (last : Bool) (o : Outcome) (k : ℕ) (w : Walk) → IsLeft last k w.luck → Leaves last k (length o.outs) (counted o w).luck
unfolding sends
counted_leaves last o k w h = sent_leaves last o.outs k (sending (outs_of o) w.luck) h

counted_none : (o : Outcome) (w : Walk) → w.luck.fates ≡ [] → (counted o w).luck.fates ≡ []
unfolding sends
counted_none o w h = none_sent o.outs (sending (outs_of o) w.luck) h

-- the steps that are due
one_leaves : (last : Bool) (o : Outcome) (k : ℕ) (w : Walk) → IsLeft last k w.luck → Leaves last k (length o.outs) (counted_one o w).luck
one_leaves last o k w h =
    let on : counted_one o w ≡ counted o w = ap (λ b. if b then w else counted o w) (goes k w.luck.until h.until) in
    subst (λ (v : Walk). Leaves last k (length o.outs) v.luck) (sym on) (counted_leaves last o k w h)

one_none : (o : Outcome) (w : Walk) → w.luck.fates ≡ [] → (counted_one o w).luck.fates ≡ []
one_none o w h = by (is_over w.luck)
  where
    by : (b : Bool) → (if b then w else counted o w).luck.fates ≡ []
    by true = h
    by false = counted_none o w h

abbrev outs_in : List Outcome → ℕ
outs_in [] = 0
outs_in (o ∷ os) = length o.outs + outs_in os

all_none : (os : List Outcome) (w : Walk) → w.luck.fates ≡ [] → (counted_all os w).luck.fates ≡ []
all_none [] w h = h
all_none (o ∷ os) w h = all_none os (counted_one o w) (one_none o w h)

all_leaves : (last : Bool) (os : List Outcome) (k : ℕ) (w : Walk) → IsLeft last k w.luck → Leaves last k (outs_in os) (counted_all os w).luck
all_leaves last [] k w h = inl (k, omega arith, h)
all_leaves last (o ∷ os) k w h =
    then_leaves last k (length o.outs) (outs_in os) (counted_one o w).luck (counted_all os (counted_one o w)).luck (one_leaves last o k w h)
    (λ d e left. all_leaves last os d (counted_one o w) left) (all_none os (counted_one o w))

-- The first step, whose record would stand: what is left behind it, and its book where anything is.
record Steps (last : Bool) (k n : ℕ) (b : Book) (w : Walk) : Type 0 where
  leaves : Leaves last k n w.luck
  book : n ≤ k → w.book ≡ b

abbrev calls_of : Option Record → Plan → ℕ
calls_of None p = length p.landed.outs
calls_of (Some r) p = suc (length p.landed.outs)

by_none : (p : Plan) (o : Option Bool) (w : Walk) → w.luck.fates ≡ [] → (counted_by o p w).luck.fates ≡ []
by_none p None w h = h
by_none p (Some true) w h = counted_none p.landed w h
by_none p (Some false) w h = counted_none p.absent w h

entry_steps : (last : Bool) (p : Plan) (entry : Option Record) (k : ℕ) (w : Walk) → IsLeft last k w.luck
    → Steps last k (calls_of entry p) p.landed.book (counted_by (branch entry w.luck) p (recorded entry w))
entry_steps last p None k w h = record { leaves = counted_leaves last p.landed k w h; book = λ within. refl }
entry_steps last p (Some r) zero w h = record {
  leaves = inr (omega arith, by_none p (branch (Some r) w.luck) (recorded (Some r) w) (ap fates_left h.fates));
  book = λ within. absurd (omega (arith, within));
}
entry_steps last p (Some r) (suc k) w h =
    let v : Walk = recorded (Some r) w in
    let stands : fate w.luck.fates ≡ true = ap fate h.fates in
    subst (λ b. Steps last (suc k) (calls_of (Some r) p) p.landed.book (counted_by (if b then Some true else (if is_over (used w.luck) then None else Some false)) p v)) (sym stands)
    (record {
      leaves = one_more last k (length p.landed.outs) (counted p.landed v).luck (counted_leaves last p.landed k v (used_one last k w.luck h));
      book = λ within. refl;
    })

step_steps : (last : Bool) (p : Plan) (k : ℕ) (w : Walk) → IsLeft last k w.luck → Steps last k (calls_of p.entry p) p.landed.book (stepped p w)
step_steps last p k w h =
    let on : stepped p w ≡ counted_by (branch p.entry w.luck) p (recorded p.entry w) =
    ap (λ b. if b then w else counted_by (branch p.entry w.luck) p (recorded p.entry w)) (goes k w.luck.until h.until) in
    subst (Steps last k (calls_of p.entry p) p.landed.book) (sym on) (entry_steps last p p.entry k w h)

-- how many fates these steps have
ways_length : (f : Fated) → IsWhole f → length (map went_of f.ways) ≡ length f.outcome.outs
ways_length f whole = by f.ways ∙ ap length whole
  where
    by : (ws : List Way) → length (map went_of ws) ≡ length (map out_of ws)
    by [] = refl
    by (w ∷ ws) = ap suc (by ws)

planned_book : (p : Plan) (f : Fated) → IsPlanned p f → f.landed ≡ true → f.outcome ≡ p.landed
planned_book p f is landed = is.outcome ∙ ap (λ b. if b then p.landed else p.absent) landed

calls_are : (entry : Option Record) (p : Plan) → length (record_fates entry true) + length p.landed.outs ≡ calls_of entry p
calls_are None p = omega arith
calls_are (Some r) p = omega arith

step_length : (p : Plan) (f : Fated) → IsPlanned p f → IsWhole f → f.landed ≡ true → length (fates_of f) ≡ calls_of p.entry p
step_length p f is whole landed =
    length-append (record_fates f.entry f.landed) (map went_of f.ways)
    ∙ (λ i. length (record_fates (is.entry i) (landed i)) + ways_length f whole i)
    ∙ ap (λ (o : Outcome). length (record_fates p.entry true) + length o.outs) (planned_book p f is landed)
    ∙ calls_are p.entry p

due_length : (os : List Outcome) (fs : List Fated) → AreUnrecorded os fs → AreWhole fs → length (all_fates fs) ≡ outs_in os
due_length [] [] are whole = refl
due_length [] (f ∷ fs) are whole = absurd are
due_length (o ∷ os) [] are whole = absurd are
due_length (o ∷ os) (f ∷ fs) (is, are) (whole, more) =
    length-append (fates_of f) (all_fates fs)
    ∙ (λ i. length (record_fates (is.entry i) f.landed ++ map went_of f.ways) + due_length os fs are more i)
    ∙ ap (λ n. n + outs_in os) (ways_length f whole ∙ ap (λ (x : Outcome). length x.outs) is.outcome)

-- one left says that there were no more calls, and none that there were
no_more : (last : Bool) (k n : ℕ) (l : Luck) → Leaves last k n l → 1 ≤ length l.fates → n ≤ k
no_more last k n l (inl (d, e, h)) some = omega (arith, e)
no_more last k n l (inr (more, none)) some = let empty : length l.fates ≡ 0 = ap length none in absurd (omega (arith, some, empty))

one_stays : (k : ℕ) (last : Bool) → behind_done k (last ∷ []) ≡ [] → ⊥
one_stays zero last e = cc
one_stays (suc k) last e = cc

are_more : (last : Bool) (k n : ℕ) (l : Luck) → Leaves last k n l → l.fates ≡ [] → k < n
are_more last k n l (inl (d, e, h)) none = absurd (one_stays d last (sym h.fates ∙ none))
are_more last k n l (inr (more, gone)) none = more

module _ (p : Plan) (b : Book) (journal : List Record) (f : Fated) (before : ℕ) (last : Bool) (until : Option ℕ) (is : IsPlanned p f) (whole : IsWhole f) (landed : f.landed ≡ true) (stop : IsUntil before until) where
  abbrev start : Walk
  start = begin b journal (luck_of (behind_done before (last ∷ [])) until)

  steps : Steps last before (length (fates_of f)) f.outcome.book (stepped p start)
  steps =
      let at_first : IsLeft last before start.luck = record { fates = refl; until = stop } in
      subst (λ n. Steps last before n f.outcome.book (stepped p start)) (sym (step_length p f is whole landed))
      (subst (λ (o : Outcome). Steps last before (calls_of p.entry p) o.book (stepped p start)) (sym (planned_book p f is landed)) (step_steps last p before start at_first))

  step_leaves : Leaves last before (length (fates_of f)) (stepped p start).luck
  step_leaves = steps.leaves

  turn_leaves : (now : ℕ) (rest : List Fated) → AreFirstDue now f.outcome.book [] rest → AreWhole rest → Leaves last before (length (all_fates (f ∷ rest))) (turned now p start).luck
  turn_leaves now rest due whole_rest =
      let v : Walk = stepped p start in
      let asked_for : (book : v.book ≡ f.outcome.book) → due.done ≡ due_outcomes now (items_of v.book) v.book =
      λ book. sym (append-nil due.done) ∙ due.all ∙ ap (λ c. due_outcomes now (items_of c) c) (sym book) in
      subst (λ n. Leaves last before n (turned now p start).luck)
      (ap (λ n. length (fates_of f) + n) (sym (due_length due.done rest due.are whole_rest)) ∙ sym (length-append (fates_of f) (all_fates rest)))
      (then_leaves last before (length (fates_of f)) (outs_in due.done) v.luck (turned now p start).luck steps.leaves
      (λ d e left.
      subst (λ os. Leaves last d (outs_in due.done) (counted_all os v).luck) (asked_for (steps.book (omega (arith, e)))) (all_leaves last due.done d v left))
      (all_none (due_outcomes now (items_of v.book) v.book) v))

pub calls_come : CallsComing
calls_come = record {
  missed = λ now p b journal first rest before last until is due (whole, more) (done, left) stop some.
      no_more last before (length (all_fates (first ∷ rest))) (turned now p (begin b journal (luck_of (behind_done before (last ∷ [])) until))).luck
      (turn_leaves p b journal first before last until is whole done.0 stop now rest due more) some;
  comes = λ now p b journal first rest before last until is due (whole, more) (done, left) stop none.
      are_more last before (length (all_fates (first ∷ rest))) (turned now p (begin b journal (luck_of (behind_done before (last ∷ [])) until))).luck
      (turn_leaves p b journal first before last until is whole done.0 stop now rest due more) none;
  missed_step = λ p b journal f before last until is whole (done, left) stop some.
      no_more last before (length (fates_of f)) (stepped p (begin b journal (luck_of (behind_done before (last ∷ [])) until))).luck
      (step_leaves p b journal f before last until is whole done.0 stop) some;
  comes_step = λ p b journal f before last until is whole (done, left) stop none.
      are_more last before (length (fates_of f)) (stepped p (begin b journal (luck_of (behind_done before (last ∷ [])) until))).luck
      (step_leaves p b journal f before last until is whole done.0 stop) none;
}
