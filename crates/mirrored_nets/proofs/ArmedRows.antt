-- Rows of calls of a machine that was told which of them is to fail.
use Rattle.std.specs.Prelude.{ℕ, List, [], ◌∷◌, ◌++◌, ◌+◌, ◌≡◌, ◌≤◌, ◌<◌, Bool, true, false, drop, if◌then◌else◌, length, map, nat_eq, not, suc, zero}
use Rattle.std.specs.List.{AllByRecursion}
use Rattle.std.proofs.Common.{refl, sym, ap, subst, arith, ◌∙◌}
use Rattle.std.proofs.lemmas.Bool.{eqb-true, ne_eqb}
use Rattle.fated_walks.specs.Fated.{StartsWith}
use Rattle.site_memory.specs.ToldCalls.{AreArmed}
use Rattle.site_model.specs.Told.{Made}
use Rattle.mirrored_nets.specs.Fates.{AllDone, behind_disk, disk_part, fates_in, is_disk, is_done, record_fate, refusals, sent_of, sent_part}
use Rattle.mirrored_nets.proofs.CallRows.{all_refused_none, count_none, one_refused}
use Rattle.mirrored_nets.proofs.DoneCalls.{all_behind_disk, all_test}

-- those of two parts of it
pub parts_armed : (before fails : ℕ) (xs ys : List Made) → AreArmed before fails (xs ++ ys) → AreArmed before fails xs × AreArmed (before + length xs) fails ys
parts_armed before fails [] ys h = let e : before ≡ before + 0 = omega arith in (tt, subst (λ k. AreArmed k fails ys) e h)
parts_armed before fails (x ∷ xs) ys (is, more) =
    let (first, second) = parts_armed (suc before) fails xs ys more in
    let e : suc before + length xs ≡ before + suc (length xs) = omega arith in
    ((is, first), subst (λ k. AreArmed k fails ys) e second)

other_done : (k fails : ℕ) (t : Bool) → t ≡ not (nat_eq k fails) → (k ≡ fails → ⊥) → t ≡ true
other_done k fails t is other = is ∙ ap not (ne_eqb k fails other)

-- all were done where the one that fails comes behind them, or came before
pub done_before : (before fails : ℕ) (ms : List Made) → AreArmed before fails ms → before + length ms < fails → AllDone ms
done_before before fails [] h less = tt
done_before before fails (m ∷ ms) (is, more) less =
    (other_done (suc before) fails m.done is (λ e. omega (arith, e, less)), done_before (suc before) fails ms more (omega (arith, less)))

pub done_behind : (before fails : ℕ) (ms : List Made) → AreArmed before fails ms → fails ≤ before → AllDone ms
done_behind before fails [] h most = tt
done_behind before fails (m ∷ ms) (is, more) most =
    (other_done (suc before) fails m.done is (λ e. omega (arith, e, most)), done_behind (suc before) fails ms more (omega (arith, most)))

-- those behind so many, where it is one of these
pub done_dropped : (n before fails : ℕ) (ms : List Made) → AreArmed before fails ms → fails ≤ before + n → AllDone (drop n ms)
done_dropped zero before fails ms h most = done_behind before fails ms h (omega (arith, most))
done_dropped (suc n) before fails [] h most = tt
done_dropped (suc n) before fails (m ∷ ms) (is, more) most = done_dropped n (suc before) fails ms more (omega (arith, most))

most_one : (b t : Bool) → one_refused b t ≤ 1
most_one true true = omega arith
most_one true false = omega arith
most_one false true = omega arith
most_one false false = omega arith

-- at most one failed
pub few_refused : (before fails : ℕ) (ms : List Made) → AreArmed before fails ms → refusals ms ≤ 1
few_refused before fails [] h = omega arith
few_refused before fails (m ∷ ms) (is, more) = by (few_refused (suc before) fails ms more) (nat_eq (suc before) fails) refl
  where
    by : refusals ms ≤ 1 → (b : Bool) → nat_eq (suc before) fails ≡ b → refusals (m ∷ ms) ≤ 1
    by rest true e =
        let same = eqb-true (suc before) fails e in
        let none = all_refused_none ms (done_behind (suc before) fails ms more (omega (arith, same))) in
        let one = most_one (is_disk m.call) m.done in
        omega (arith, none, one)
    by rest false e = let none = count_none (is_disk m.call) m.done (is ∙ ap not e) in omega (arith, none, rest)

abbrev pub AllYes : List Bool → Type 0
AllYes fates = AllByRecursion (λ (b : Bool). b ≡ true) fates

pub starts_none : (fs : List Bool) → AllYes fs → StartsWith fs []
starts_none [] all = tt
starts_none (f ∷ fs) (is, all) = (sym is, starts_none fs all)

done_disk : (ms : List Made) → AllDone ms → AllDone (disk_part ms)
done_disk [] all = tt
done_disk (m ∷ ms) (is, all) = by (done_disk ms all) (is_disk m.call)
  where
    by : AllDone (disk_part ms) → (b : Bool) → AllDone (if b then m ∷ disk_part ms else [])
    by rest true = (is, rest)
    by rest false = tt

done_sent : (ms : List Made) → AllDone ms → AllDone (sent_part ms)
done_sent [] all = tt
done_sent (m ∷ ms) (is, all) = by (done_sent ms all) (is_disk m.call)
  where
    by : AllDone (sent_part ms) → (b : Bool) → AllDone (if b then [] else m ∷ sent_part ms)
    by rest true = tt
    by rest false = (is, rest)

pub yes_record : (ms : List Made) → AllDone ms → AllYes (record_fate ms)
yes_record [] all = tt
yes_record (m ∷ ms) all = (all_test (m ∷ ms) all, tt)

pub yes_each : (ms : List Made) → AllDone ms → AllYes (map is_done ms)
yes_each [] all = tt
yes_each (m ∷ ms) (is, all) = (is, yes_each ms all)

pub yes_join : (xs ys : List Bool) → AllYes xs → AllYes ys → AllYes (xs ++ ys)
yes_join [] ys all more = more
yes_join (x ∷ xs) ys (is, all) more = (is, yes_join xs ys all more)

-- all their fates are yes
pub yes_fates : (ms : List Made) → AllDone ms → AllYes (fates_in ms)
yes_fates ms all =
    yes_join (record_fate (disk_part ms)) (map is_done (sent_of ms)) (yes_record (disk_part ms) (done_disk ms all))
    (yes_each (sent_of ms) (done_sent (behind_disk ms) (all_behind_disk ms all)))
