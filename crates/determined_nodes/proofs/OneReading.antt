-- The calls of an event are read in one way.
use Rattle.std.specs.Prelude.{ℕ, List, [], ◌∷◌, ◌-◌, ◌+◌, ◌≡◌, ◌≤◌, ◌<◌, ◌⊎◌, Bool, true, false, Option, Some, drop, if◌then◌else◌, length, nat_eq, nat_le, suc, zero, Err, Ok, Result}
use Rattle.std.proofs.Common.{ap, arith, inl, inr, refl, subst, sym, true≢false, ◌∙◌}
use Rattle.std.proofs.lemmas.Bool.{cases_lt, leb-false}
use Rattle.call_readings.specs.Reads.{IsCutAt, IsUncut, Reads, ReadsAs, came_to, fate_behind, fate_number, is_halted}
use Rattle.call_readings.specs.ReadsStart.{CameUp, StartsAs}
use Rattle.call_readings.specs.declared.became.Became.{Became}
use Rattle.call_readings.specs.declared.became.Became.TheVariants as becomes
use Rattle.mirrored_nets.specs.Fates.{anew_of, disk_part}
use Rattle.mirrored_nets.specs.Kept.{kept_at}
use Rattle.mirrored_nets.specs.Took.{AnswersSo, EndsSo, IsKept, IsWhole, StopsBefore, StopsInStep}
use Rattle.mirrored_nets.specs.AnewCalls.{before_anew}
use Rattle.mirrored_nets.specs.declared.armed.Armed.{Armed}
use Rattle.mirrored_nets.specs.declared.armed.Armed.TheVariants as arms
use Rattle.node_at.specs.declared.fault.StartFault.{StartFault}
use Rattle.node_at.specs.declared.fault.StartFault.TheVariants.{Disk}
use Rattle.node_at.specs.declared.local.Locally.{Locally}
use Rattle.node_at.specs.declared.local.Locally.TheVariants as answers
use Rattle.node_at.specs.declared.node.Node.{Node}
use Rattle.node_at.specs.declared.turn.Turned.{Turned}
use Rattle.node_at.specs.declared.turn.Turned.TheVariants as turneds
use Rattle.read_calls.proofs.OneReading.{FailsOne, StopsOne, fails_one, last_at_out, last_in_record, one_at, stops_one}
use Rattle.site_memory.specs.declared.arm.Choice.{Choice}
use Rattle.site_model.specs.Told.{Made}
use Rattle.torn_appends.specs.TornAppends.{stands_behind}
use Rattle.determined_nodes.specs.OneReading.{EventsHaveOneReading}
use Rattle.determined_nodes.specs.StartsAreDetermined.{StartAlike}

abbrev OneOf : Became → Became → List Bool → List Bool → Option ℕ → Option ℕ → Type 0
OneOf b c f g u v = (b ≡ c) × (f ≡ g) × (u ≡ v)

no_number : (a : ℕ) → Some 0 ≡ Some (a + 1) → ⊥
no_number a e = let n : 0 ≡ a + 1 = cc in omega (arith, n)

-- a stop at the k-th call
module _ (lines : ℕ) (made : List Made) (k : ℕ) (choice : Choice) where
  abbrev kept : ℕ
  kept = kept_at made k choice

  abbrev number : ℕ
  number = fate_number lines made k

  abbrev Stops : List Bool → Type 0
  Stops fates = StopsInStep lines made choice fates (Some number) kept ⊎ StopsBefore lines fates (Some number) kept

  -- before the first step no fate is named
  none_named : number ≡ 0 → (f : List Bool) → Stops f → f ≡ []
  none_named zero_is f (inl s) = absurd (no_number s.before (ap (λ n. Some n) (sym zero_is) ∙ s.until_is))
  none_named zero_is f (inr s) = s.fates_are

  behind_lines : 1 ≤ number → lines < k
  behind_lines least = by (nat_le k lines) refl
    where
      by : (b : Bool) → nat_le k lines ≡ b → lines < k
      by true e = let none : number ≡ 0 = ap (λ b. if b then 0 else fate_behind (disk_part (drop lines made)) (k - lines)) e in absurd (omega (arith, least, none))
      by false e = leb-false k lines e

  -- the fate at which it stops
  last_of : (ms : List Made) → disk_part (drop lines made) ≡ ms → lines < k → (last : Bool) × ((before : ℕ) (l : Bool) → number ≡ before + 1 → IsKept lines made choice before l kept → last ≡ l)
  last_of [] e more = (nat_eq kept k, λ before l at is. last_at_out lines made k choice more before l at (inl e) is)
  last_of (m ∷ ms) e more = by (cases_lt 4 (k - lines))
    where
      by : (4 < k - lines) ⊎ (k - lines ≤ 4) → (last : Bool) × ((before : ℕ) (l : Bool) → number ≡ before + 1 → IsKept lines made choice before l kept → last ≡ l)
      by (inl past) = (nat_eq kept k, λ before l at is. last_at_out lines made k choice more before l at (inr past) is)
      by (inr most) = (stands_behind (kept - lines) choice, λ before l at is. last_in_record lines made k choice more before l at (λ none. some_first m ms (sym e ∙ none)) most is)
        where
          some_first : (x : Made) (xs : List Made) → x ∷ xs ≡ [] → ⊥
          some_first x xs f = absurd cc

  stops_same : (f g : List Bool) → Stops f → Stops g → f ≡ g
  stops_same f g s t = by number refl
    where
      by : (n : ℕ) → number ≡ n → f ≡ g
      by zero e = none_named e f s ∙ sym (none_named e g t)
      by (suc n) e =
          let least : 1 ≤ number = omega (arith, e) in
          let (last, is) = last_of (disk_part (drop lines made)) refl (behind_lines least) in
          sym (one_at lines made k choice f last least is s) ∙ one_at lines made k choice g last least is t

  stopped_one : 1 ≤ k → k ≤ length made → (b c : Became) (f g : List Bool) (u v : Option ℕ) → ReadsAs (arms.Stop k choice) lines made b f u → ReadsAs (arms.Stop k choice) lines made c g v → is_halted b ≡ false
      → is_halted c ≡ false → OneOf b c f g u v
  stopped_one least within b c f g u v h l goes on = by (cases_lt (before_anew lines made) k)
    where
      X : StopsOne lines made k choice b f u
      X = stops_one lines made k choice least within b f u h goes

      Y : StopsOne lines made k choice c g v
      Y = stops_one lines made k choice least within c g v l on

      by : (before_anew lines made < k) ⊎ (k ≤ before_anew lines made) → OneOf b c f g u v
      by (inl past) = let x = X.anew past in let y = Y.anew past in (sym x.0 ∙ y.0, sym x.1 ∙ y.1, sym x.2 ∙ y.2)
      by (inr most) = let x = X.steps most in let y = Y.steps most in (sym x.0 ∙ y.0, stops_same f g x.2 y.2, sym x.1 ∙ y.1)

-- no call came at which it was to stop
uncut_one : (armed : Armed) (lines : ℕ) (made : List Made) → IsUncut armed made → (b c : Became) (f g : List Bool) (u v : Option ℕ) → ReadsAs armed lines made b f u → ReadsAs armed lines made c g v → is_halted b ≡ is_halted c
    → OneOf b c f g u v
uncut_one armed lines made uncut b c f g u v h k same = by (is_halted b) refl
  where
    X : FailsOne lines made (is_halted b) b f u
    X = fails_one lines made armed uncut (is_halted b) b f u h refl

    Y : FailsOne lines made (is_halted b) c g v
    Y = fails_one lines made armed uncut (is_halted b) c g v k (sym same)

    anew : is_halted b ≡ true → (ms : List Made) → anew_of (drop lines made) ≡ ms → OneOf b c f g u v
    anew off [] e = let x = X.at_gate off e in let y = Y.at_gate off e in (sym x.0 ∙ y.0, sym x.1 ∙ y.1, sym x.2 ∙ y.2)
    anew off (m ∷ ms) e =
        let some : anew_of (drop lines made) ≡ [] → ⊥ = (λ none. let f : m ∷ ms ≡ [] = sym e ∙ none in absurd cc) in
        let x = X.anew off some in
        let y = Y.anew off some in
        (sym x.0 ∙ y.0, sym x.1 ∙ y.1, sym x.2 ∙ y.2)

    by : (off : Bool) → is_halted b ≡ off → OneOf b c f g u v
    by false e = let x = X.stays e in let y = Y.stays e in (sym x.0 ∙ y.0, sym x.1 ∙ y.1, sym x.2 ∙ y.2)
    by true e = anew e (anew_of (drop lines made)) refl

no_stop : (j k : ℕ) (choice : Choice) → arms.Stop k choice ≡ arms.Fail j → ⊥
no_stop j k choice e = cc

-- one that was stopped at a call hasn't halted
stopped_on : (lines : ℕ) (made : List Made) (k : ℕ) (choice : Choice) (b : Became) (f : List Bool) (u : Option ℕ) → ReadsAs (arms.Stop k choice) lines made b f u → is_halted b ≡ false
stopped_on lines made k choice becomes.Stays f u h = refl
stopped_on lines made k choice (becomes.Falls n left) f u h = refl
stopped_on lines made k choice becomes.Halts f u ((j, e), halts, none) = absurd (no_stop j k choice e)
stopped_on lines made k choice (becomes.FallsAnew n left) f u h = refl
stopped_on lines made k choice becomes.HaltsAnew f u ((j, e), last, g, v) = absurd (no_stop j k choice e)

reads_one : (armed : Armed) (lines : ℕ) (made : List Made) (b c : Became) (f g : List Bool) (u v : Option ℕ) → Reads armed lines made b f u → Reads armed lines made c g v → is_halted b ≡ is_halted c → OneOf b c f g u v
reads_one arms.No lines made b c f g u v h k same = uncut_one arms.No lines made tt b c f g u v h.are k.are same
reads_one (arms.Fail j) lines made b c f g u v h k same = uncut_one (arms.Fail j) lines made tt b c f g u v h.are k.are same
reads_one (arms.Stop j choice) lines made b c f g u v h k same = by j refl
  where
    missed : (j ≡ 0) ⊎ (length made < j) → OneOf b c f g u v
    missed far = uncut_one (arms.Stop j choice) lines made far b c f g u v h.are k.are same

    each : 1 ≤ j → (length made < j) ⊎ (j ≤ length made) → OneOf b c f g u v
    each least (inl far) = missed (inr far)
    each least (inr within) = stopped_one lines made j choice least within b c f g u v h.are k.are (stopped_on lines made j choice b f u h.are) (stopped_on lines made j choice c g v k.are)

    by : (i : ℕ) → j ≡ i → OneOf b c f g u v
    by zero e = missed (inl e)
    by (suc i) e = each (omega (arith, e)) (cases_lt (length made) j)

-- whether it halted is what it answered
turn_halted : (b : Became) (r : Turned) → EndsSo (came_to b) r → (is_halted b ≡ true) ⊎ IsWhole r
turn_halted becomes.Stays r h = inr h
turn_halted (becomes.Falls n left) r h = inr h
turn_halted becomes.Halts r h = inl refl
turn_halted (becomes.FallsAnew n left) r h = inr h
turn_halted becomes.HaltsAnew r h = inl refl

turn_off : (b : Became) (r : Turned) → EndsSo (came_to b) r → is_halted b ≡ true → r ≡ turneds.Halted
turn_off becomes.Stays r h e = absurd (true≢false (sym e))
turn_off (becomes.Falls n left) r h e = absurd (true≢false (sym e))
turn_off becomes.Halts r h e = h
turn_off (becomes.FallsAnew n left) r h e = absurd (true≢false (sym e))
turn_off becomes.HaltsAnew r h e = h

turns_halt : (b c : Became) (r : Turned) → EndsSo (came_to b) r → EndsSo (came_to c) r → is_halted b ≡ is_halted c
turns_halt b c r h k = by (is_halted b) (is_halted c) refl refl
  where
    apart : (x y : Became) → EndsSo (came_to x) r → EndsSo (came_to y) r → is_halted x ≡ true → is_halted y ≡ false → ⊥
    apart x y l m off on = whole (turn_halted y r m)
      where
        whole : (is_halted y ≡ true) ⊎ IsWhole r → ⊥
        whole (inl e) = true≢false (sym e ∙ on)
        whole (inr w) = subst IsWhole (turn_off x r l off) w

    by : (p q : Bool) → is_halted b ≡ p → is_halted c ≡ q → is_halted b ≡ is_halted c
    by true true e f = e ∙ sym f
    by false false e f = e ∙ sym f
    by true false e f = absurd (apart b c h k e f)
    by false true e f = absurd (apart c b k h f e)

request_off : (b : Became) (r : Locally) → AnswersSo (came_to b) r → is_halted b ≡ true → r ≡ answers.Halted
request_off becomes.Stays r h e = absurd (true≢false (sym e))
request_off (becomes.Falls n left) r h e = absurd (true≢false (sym e))
request_off becomes.Halts r h e = h
request_off (becomes.FallsAnew n left) r h e = absurd (true≢false (sym e))
request_off becomes.HaltsAnew r h e = h

request_on : (b : Became) → AnswersSo (came_to b) answers.Halted → is_halted b ≡ true
request_on becomes.Stays h = absurd h
request_on (becomes.Falls n left) h = absurd h
request_on becomes.Halts h = refl
request_on (becomes.FallsAnew n left) h = absurd h
request_on becomes.HaltsAnew h = refl

requests_halt : (b c : Became) (r : Locally) → AnswersSo (came_to b) r → AnswersSo (came_to c) r → is_halted b ≡ is_halted c
requests_halt b c r h k = by (is_halted b) (is_halted c) refl refl
  where
    apart : (x y : Became) → AnswersSo (came_to x) r → AnswersSo (came_to y) r → is_halted x ≡ true → is_halted y ≡ false → ⊥
    apart x y l m off on = true≢false (sym (request_on y (subst (AnswersSo (came_to y)) (request_off x r l off) m)) ∙ on)

    by : (p q : Bool) → is_halted b ≡ p → is_halted c ≡ q → is_halted b ≡ is_halted c
    by true true e f = e ∙ sym f
    by false false e f = e ∙ sym f
    by true false e f = absurd (apart b c h k e f)
    by false true e f = absurd (apart c b k h f e)

-- starts

apart_up : (r s : Result Node StartFault) → CameUp r → s ≡ Err Disk → StartAlike r s → ⊥
apart_up r s (node, e) f h = subst (λ z. StartAlike z (Err Disk)) e (subst (StartAlike r) f h)

apart_down : (r s : Result Node StartFault) → r ≡ Err Disk → CameUp s → StartAlike r s → ⊥
apart_down r s e (node, f) h = subst (λ z. StartAlike z (Ok node)) e (subst (StartAlike r) f h)

never_cut : (armed : Armed) (made : List Made) (k n : ℕ) (choice : Choice) → IsUncut armed made → IsCutAt armed made k n choice → ⊥
never_cut armed made k n choice uncut cut = by (subst (λ a. IsUncut a made) cut.armed_is uncut)
  where
    by : (k ≡ 0) ⊎ (length made < k) → ⊥
    by (inl none) = let least = cut.least in omega (arith, none, least)
    by (inr past) = let within = cut.within in omega (arith, past, within)

same_stop : (k j : ℕ) (choice left : Choice) → arms.Stop k choice ≡ arms.Stop j left → (k ≡ j) × (choice ≡ left)
same_stop k j choice left e = let a : k ≡ j = cc in let b : choice ≡ left = cc in (a, b)

starts_one : (armed : Armed) (made : List Made) (r s : Result Node StartFault) (b c : Became) (l m p q : Bool) → StartsAs armed made r b l p → StartsAs armed made s c m q → StartAlike r s → (b ≡ c) × (l ≡ m) × (p ≡ q)
starts_one armed made r s becomes.Stays becomes.Stays l m p q (up, uncut, e, f) (too, missed, g, h) alike = (refl, e ∙ sym g, f ∙ sym h)
starts_one armed made r s becomes.Stays (becomes.Falls n left) l m p q (up, uncut, e, f) (too, all, (k, cut), g, h) alike = absurd (never_cut armed made k n left uncut cut)
starts_one armed made r s becomes.Stays becomes.Halts l m p q (up, uncut, e, f) (off, failing, last, g, h) alike = absurd (apart_up r s up off alike)
starts_one armed made r s (becomes.Falls n left) becomes.Stays l m p q (up, all, (k, cut), e, f) (too, uncut, g, h) alike = absurd (never_cut armed made k n left uncut cut)
starts_one armed made r s (becomes.Falls n left) (becomes.Falls o right) l m p q (up, all, (k, cut), e, f) (too, each, (j, off), g, h) alike =
    let (a, b) = same_stop k j left right (sym cut.armed_is ∙ off.armed_is) in
    let kept_same : n ≡ o = cut.kept_is ∙ (λ i. kept_at made (a i) (b i)) ∙ sym off.kept_is in
    ((λ i. becomes.Falls (kept_same i) (b i)), e ∙ (λ i. stands_behind (kept_same i - 2) (b i)) ∙ sym g, f ∙ sym h)
starts_one armed made r s (becomes.Falls n left) becomes.Halts l m p q (up, all, cut, e, f) (off, failing, last, g, h) alike = absurd (apart_up r s up off alike)
starts_one armed made r s becomes.Halts becomes.Stays l m p q (off, failing, last, e, f) (too, uncut, g, h) alike = absurd (apart_down r s off too alike)
starts_one armed made r s becomes.Halts (becomes.Falls n left) l m p q (off, failing, last, e, f) (too, all, cut, g, h) alike = absurd (apart_down r s off too alike)
starts_one armed made r s becomes.Halts becomes.Halts l m p q (off, failing, last, e, f) (down, failed, end, g, h) alike = (refl, e ∙ sym g, f ∙ sym h)
starts_one armed made r s (becomes.FallsAnew n left) c l m p q h k alike = absurd h
starts_one armed made r s becomes.HaltsAnew c l m p q h k alike = absurd h
starts_one armed made r s becomes.Stays (becomes.FallsAnew n left) l m p q h k alike = absurd k
starts_one armed made r s becomes.Stays becomes.HaltsAnew l m p q h k alike = absurd k
starts_one armed made r s (becomes.Falls o right) (becomes.FallsAnew n left) l m p q h k alike = absurd k
starts_one armed made r s (becomes.Falls o right) becomes.HaltsAnew l m p q h k alike = absurd k
starts_one armed made r s becomes.Halts (becomes.FallsAnew n left) l m p q h k alike = absurd k
starts_one armed made r s becomes.Halts becomes.HaltsAnew l m p q h k alike = absurd k

pub events_have_one_reading : EventsHaveOneReading
events_have_one_reading = record {
  reads = reads_one;
  turns = λ armed lines made r h k. reads_one armed lines made h.became k.became h.fates k.fates h.until k.until h.reads k.reads (turns_halt h.became k.became r h.ends k.ends);
  requests = λ armed made r h k. reads_one armed 0 made h.became k.became h.fates k.fates h.until k.until h.reads k.reads (requests_halt h.became k.became r h.ends k.ends);
  starts = starts_one;
}
