-- What a machine was told stays true through its calls.
use Rattle.std.proofs.Common.{ℕ, List, Bool, true, false, not, zero, suc, Option, Some, None, [], ◌∷◌, length, ◌≡◌, ◌++◌, ◌+◌, ◌≤◌, nat_le, refl, sym, ◌∙◌, ap, subst, drop, arith}
use Rattle.std.proofs.lemmas.List.{drop-append-le, length-append, length-drop}
use Rattle.std.proofs.Math.Seq.{drop-length}
use Rattle.std.proofs.lemmas.Bool.{and_from, and_parts, eq-eqb, eqb-true, false≢true, le-leb, leb-true, ne_eqb, not-true}
use Rattle.std.specs.Prelude.{nat_eq}
use Rattle.site_model.specs.Attachments.{Names}
use Rattle.site_model.specs.Told.{Call, Made, done, failed}
use Rattle.site_model.specs.Told.Call.{Write}
use Rattle.site_memory.specs.Armings.{are_armed, arming_of, is_armed, is_as, is_to_come}
use Rattle.site_memory.specs.Arms.{fate_of, next_of}
use Rattle.site_memory.specs.Devices.{Runs, calls_in}
use Rattle.site_memory.specs.Entries.{Notes}
use Rattle.site_memory.specs.ToldCalls.{AreArmed}
use Rattle.site_memory.specs.Sites.{RunsTwice, Then, counts_of}
use Rattle.site_memory.specs.declared.arm.Arm.{Arm}
use Rattle.site_memory.specs.declared.arm.Arm.TheVariants.{Idle, Fail, Stop, Stopped}
use Rattle.site_memory.specs.declared.arm.Arming.{Arming}
use Rattle.site_memory.specs.declared.arm.Fate.{Fate}
use Rattle.site_memory.specs.declared.arm.Fate.TheVariants as fate
use Rattle.site_memory.specs.declared.device.Device.{Device}
use Rattle.site_memory.specs.declared.entry.Noted.{Noted}
use Rattle.site_memory.specs.declared.entry.Noted.TheVariants as noted
use Rattle.site_memory.specs.declared.links.Links.{Links}
use Rattle.site_memory.specs.declared.machine.MemSite.{MemSite}
use Rattle.site_memory.specs.declared.tally.Tally.{Tally}

-- the same as facts
record GoesSo (a : Arming) (arm : Arm) (made : List Made) : Type 0 where
  pub within : a.since ≤ length made
  pub are : are_armed a.since a.fails (drop a.since made) ≡ true
  pub to_come : is_to_come arm a.fails (length made) ≡ true

facts_of : (a : Arming) (arm : Arm) (made : List Made) → is_armed (Some a) arm made ≡ true → GoesSo a arm made
facts_of a arm made h =
    let (w, rest) = and_parts (nat_le a.since (length made)) _ h in
    let (are, to) = and_parts (are_armed a.since a.fails (drop a.since made)) _ rest in
    record { within = leb-true a.since (length made) w; are = are; to_come = to }

test_of : (a : Arming) (arm : Arm) (made : List Made) → GoesSo a arm made → is_armed (Some a) arm made ≡ true
test_of a arm made h =
    and_from (nat_le a.since (length made)) _ (le-leb a.since (length made) h.within) (and_from (are_armed a.since a.fails (drop a.since made)) _ h.are h.to_come)

one_more : (before fails : ℕ) (ms : List Made) (m : Made) → are_armed before fails ms ≡ true → is_as m.done (not (nat_eq (suc (before + length ms)) fails)) ≡ true
    → are_armed before fails (ms ++ m ∷ []) ≡ true
one_more before fails [] m h e = and_from (is_as m.done (not (nat_eq (suc before) fails))) true (subst (λ n. is_as m.done (not (nat_eq (suc n) fails)) ≡ true) (omega arith) e) refl
one_more before fails (x ∷ ms) m h e =
    let (this, rest) = and_parts (is_as x.done (not (nat_eq (suc before) fails))) (are_armed (suc before) fails ms) h in
    and_from (is_as x.done (not (nat_eq (suc before) fails))) _ this (one_more (suc before) fails ms m rest (subst (λ n. is_as m.done (not (nat_eq (suc n) fails)) ≡ true) (omega arith) e))

-- the call that came went as it was to
record Goes (arm : Arm) (fails count : ℕ) (went : Bool) : Type 0 where
  pub now : is_as went (not (nat_eq (suc count) fails)) ≡ true
  pub next : is_to_come (next_of arm) fails (suc count) ≡ true

other_call : (fails count : ℕ) → (suc count ≡ fails → ⊥) → is_as true (not (nat_eq (suc count) fails)) ≡ true
other_call fails count h = ap not (ne_eqb (suc count) fails h)

this_call : (fails count : ℕ) → suc count ≡ fails → is_as false (not (nat_eq (suc count) fails)) ≡ true
this_call fails count h = ap (λ b. not (not b)) (eq-eqb (suc count) fails h)

none_more : (fails count : ℕ) → nat_le fails count ≡ true → Goes Idle fails count true
none_more fails count h =
    let le : fails ≤ count = leb-true fails count h in
    record { now = other_call fails count (λ s. omega (arith, le, s)); next = le-leb fails (suc count) (omega (arith, le)) }

abbrev IsDone : Fate → Type 0
IsDone fate.Done = Unit {0}
IsDone other = ⊥

done_so : (arm : Arm) (fails count : ℕ) → fate_of arm ≡ fate.Done → is_to_come arm fails count ≡ true → Goes arm fails count true
done_so Idle fails count e h = none_more fails count h
done_so (Fail zero) fails count e h = let g = none_more fails count h in record { now = g.now; next = g.next }
done_so (Fail (suc zero)) fails count e h = absurd (subst IsDone (sym e) tt)
done_so (Fail (suc (suc k))) fails count e h =
    let is : fails ≡ count + suc (suc k) = eqb-true fails (count + suc (suc k)) h in
    record { now = other_call fails count (λ s. omega (arith, is, s)); next = eq-eqb fails (suc count + suc k) (omega (arith, is)) }
done_so (Stop k choice) fails count e h = absurd (false≢true h)
done_so Stopped fails count e h = absurd (false≢true h)

failed_so : (arm : Arm) (fails count : ℕ) → fate_of arm ≡ fate.Failed → is_to_come arm fails count ≡ true → Goes arm fails count false
failed_so Idle fails count e h = absurd (subst IsDone e tt)
failed_so (Fail zero) fails count e h = absurd (subst IsDone e tt)
failed_so (Fail (suc zero)) fails count e h =
    let is : fails ≡ count + 1 = eqb-true fails (count + 1) h in
    record { now = this_call fails count (omega (arith, is)); next = le-leb fails (suc count) (omega (arith, is)) }
failed_so (Fail (suc (suc k))) fails count e h = absurd (subst IsDone e tt)
failed_so (Stop k choice) fails count e h = absurd (false≢true h)
failed_so Stopped fails count e h = absurd (false≢true h)

went_on : (a : Arming) (arm : Arm) (old : List Made) (m : Made) → GoesSo a arm old → Goes arm a.fails (length old) m.done → GoesSo a (next_of arm) (old ++ m ∷ [])
went_on a arm old m h g = record {
  within = omega (arith, h.within, length-append old (m ∷ []));
  are = subst (λ l. are_armed a.since a.fails l ≡ true) (sym (drop-append-le a.since old (m ∷ []) h.within)) (one_more a.since a.fails (drop a.since old) m h.are
      (subst (λ n. is_as m.done (not (nat_eq (suc n) a.fails)) ≡ true) (omega (arith, h.within, length-drop a.since old)) g.now));
  to_come = subst (λ n. is_to_come (next_of arm) a.fails n ≡ true) (omega (arith, length-append old (m ∷ []))) g.next;
}

pub noted_so : (a : Option Arming) (call : Call) (n : Noted) (arm arm' : Arm) (wanted wanted' : Bool) (old new : List Made) → is_armed a arm old ≡ true
    → Notes call n arm arm' wanted wanted' old new → is_armed a arm' new ≡ true
noted_so None call n arm arm' wanted wanted' old new h notes = refl
noted_so (Some a) call noted.Done arm arm' wanted wanted' old new h (e, next, w, is) =
    subst (λ z. is_armed (Some a) z new ≡ true) (sym next) (subst (λ l. is_armed (Some a) (next_of arm) l ≡ true) (sym is)
    (let f = facts_of a arm old h in test_of a (next_of arm) (old ++ done call ∷ []) (went_on a arm old (done call) f (done_so arm a.fails (length old) e f.to_come))))
noted_so (Some a) call noted.Failed arm arm' wanted wanted' old new h (e, next, w, is) =
    subst (λ z. is_armed (Some a) z new ≡ true) (sym next) (subst (λ l. is_armed (Some a) (next_of arm) l ≡ true) (sym is)
    (let f = facts_of a arm old h in test_of a (next_of arm) (old ++ failed call ∷ []) (went_on a arm old (failed call) f (failed_so arm a.fails (length old) e f.to_come))))
noted_so (Some a) call noted.Not arm arm' wanted wanted' old new h (same, is, why) =
    subst (λ z. is_armed (Some a) z new ≡ true) (sym same) (subst (λ l. is_armed (Some a) arm l ≡ true) (sym is) h)

set_none : (fails : ℕ) (made : List Made) → are_armed (length made) fails (drop (length made) made) ≡ true
set_none fails made = ap (are_armed (length made) fails) (drop-length made)

-- an arm that is set behind these calls
pub set_so : (arm : Arm) (made : List Made) → is_armed (arming_of (length made) arm) arm made ≡ true
set_so Idle made = test_of _ Idle made (record { within = omega arith; are = set_none 0 made; to_come = le-leb 0 (length made) (omega arith) })
set_so (Fail zero) made = test_of _ (Fail zero) made (record { within = omega arith; are = set_none 0 made; to_come = le-leb 0 (length made) (omega arith) })
set_so (Fail (suc k)) made = test_of _ (Fail (suc k)) made (record { within = omega arith; are = set_none (length made + suc k) made; to_come = eq-eqb (length made + suc k) (length made + suc k) refl })
set_so (Stop k choice) made = refl
set_so Stopped made = refl

-- raising a gate
pub twice_arming : (file at : ℕ) (n : Noted) (old new : Device) → RunsTwice file at n old new → new.arming ≡ old.arming
twice_arming file at n old new r = by_case r.first r.wrote r.synced where
  by_case : (first : Noted) → Runs (Write file at (1 ∷ [])) first old r.mid → Then first file n r.mid new → new.arming ≡ old.arming
  by_case noted.Done w t = t.arming ∙ w.arming
  by_case noted.Failed w t = ap (λ (d : Device). d.arming) t.1 ∙ w.arming
  by_case noted.Not w t = ap (λ (d : Device). d.arming) t.1 ∙ w.arming

as_fact : (a b : Bool) → is_as a b ≡ true → a ≡ b
as_fact true b e = sym e
as_fact false b e = sym (not-true b e)

are_facts : (before fails : ℕ) (ms : List Made) → are_armed before fails ms ≡ true → AreArmed before fails ms
are_facts before fails [] h = tt
are_facts before fails (m ∷ ms) h =
    let (this, rest) = and_parts (is_as m.done (not (nat_eq (suc before) fails))) (are_armed (suc before) fails ms) h in
    (as_fact m.done (not (nat_eq (suc before) fails)) this, are_facts (suc before) fails ms rest)

pub told_so : (s : MemSite) (a : Arming) → s.device.arming ≡ Some a → (a.since ≤ length (calls_in s.device)) × AreArmed a.since a.fails (drop a.since (calls_in s.device))
told_so s a e =
    let f = facts_of a s.device.arm (calls_in s.device) (subst (λ o. is_armed o s.device.arm (calls_in s.device) ≡ true) e s.device.as_armed) in
    (f.within, are_facts a.since a.fails (drop a.since (calls_in s.device)) f.are)

-- what it tells of its counts, where one of them rose
module _ (a b : Option Arming) (links : Links) (t : Tally) (names : List Names) where
  pub on_disk : {x : ℕ} → b ≡ a → counts_of b links (record t { disk = x }) names ≡ record (counts_of a links t names) { disk = x }
  on_disk {x} e = ap (λ z. counts_of z links (record t { disk = x }) names) e

  pub on_gate : {x : ℕ} → b ≡ a → counts_of b links (record t { gate = x }) names ≡ record (counts_of a links t names) { gate = x }
  on_gate {x} e = ap (λ z. counts_of z links (record t { gate = x }) names) e

  pub on_link : {x : ℕ} → b ≡ a → counts_of b links (record t { link = x }) names ≡ record (counts_of a links t names) { link = x }
  on_link {x} e = ap (λ z. counts_of z links (record t { link = x }) names) e
