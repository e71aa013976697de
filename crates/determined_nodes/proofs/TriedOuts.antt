-- The calls by which outs were tried: none of those that failed is missing, so they are all there.
use Rattle.std.specs.Prelude.{ℕ, List, [], ◌∷◌, ◌++◌, ◌+◌, ◌≡◌, ◌≤◌, Bool, true, false, None, if◌then◌else◌, length, map}
use Rattle.std.specs.List.{AllByRecursion}
use Rattle.std.proofs.Common.{ap, arith, inl, inr, refl, subst, sym, ◌∙◌}
use Rattle.std.proofs.lemmas.List.{map-append}
use Rattle.at_base.specs.Numbers.{Numbers}
use Rattle.decision_log.specs.KeptRecords.{Known}
use Rattle.decision_log.specs.Tokens.{Token}
use Rattle.journal_at.specs.Format.{frames}
use Rattle.node_at.specs.Doings.{AreDoings, AreFates, Doing, IsFateAt, calls_of, lost_of}
use Rattle.node_at.specs.Sends.{Tried}
use Rattle.node_at.specs.Sends.Tried.{none, was_lost, went}
use Rattle.node_at.specs.Steps.{if_landed, kept_by}
use Rattle.node_at.specs.Texts.{Leaving, call_by}
use Rattle.node_at.specs.TurnText.{AreDue, TurnStep}
use Rattle.at_model.specs.Step.{Outcome}
use Rattle.site_model.specs.Told.{Call, Made, done, failed}
use Rattle.mirrored_nets.specs.Fates.{failures, is_disk, refusals}
use Rattle.determined_nodes.proofs.ArmedRows.{called}
use Rattle.mirrored_nets.proofs.CallRows.{AreSendings, failures_join, none_refused, refusals_join}
use Rattle.mirrored_nets.proofs.ToldFares.{AllAreOuts, AreOuts, IsOut}

abbrev left_by : Bool → Bool → ℕ
left_by b t = if b then 0 else (if t then 0 else 1)

most_one : (b t : Bool) → left_by b t ≤ 1
most_one true t = omega arith
most_one false true = omega arith
most_one false false = omega arith

done_counts : (b : Bool) → left_by b true ≡ 0
done_counts true = refl
done_counts false = refl

one_more : (made : List Made) (m : Made) → failures (made ++ m ∷ []) ≤ failures made + 1
one_more made m = let a = failures_join made (m ∷ []) in let b = most_one (is_disk m.call) m.done in omega (arith, a, b)

no_more : (made : List Made) (x : Leaving) → failures (made ++ done x.call ∷ []) ≡ failures made
no_more made x = let a = failures_join made (done x.call ∷ []) in let b = done_counts (is_disk x.call) in omega (arith, a, b)

parts : (xs : List Leaving) (x : Leaving) → AreOuts (xs ++ x ∷ []) → AreOuts xs × IsOut x.call
parts [] x (h, more) = (tt, h)
parts (y ∷ ys) x (h, more) = let (front, last) = parts ys x more in ((h, front), last)

sendings_join : (made : List Made) (m : Made) → AreSendings made → is_disk m.call ≡ false → AreSendings (made ++ m ∷ [])
sendings_join [] m h is = (is, tt)
sendings_join (x ∷ made) m (h, more) is = (h, sendings_join made m more is)

-- those that failed were counted
pub few_failures : {ts : List Token} {ids : List Numbers} {all : List Leaving} {made : List Made} {lost : ℕ} → Tried ts ids all made lost → failures made ≤ lost
few_failures none = omega arith
few_failures (went {made = before} x t may all is) =
    let a = few_failures t in
    let b = no_more before x in
    let c = ap failures is in
    omega (arith, a, b, c)
few_failures (was_lost {made = before} x t may all (inl is) total) =
    let a = few_failures t in
    let b = one_more before (failed x.call) in
    let c = ap failures is in
    omega (arith, a, b, c, total)
few_failures (was_lost {made = before} x t may all (inr is) total) =
    let a = few_failures t in
    let c = ap failures is in
    omega (arith, a, c, total)

-- and where no more were, each out has its call
pub all_there : {ts : List Token} {ids : List Numbers} {all : List Leaving} {made : List Made} {lost : ℕ} → Tried ts ids all made lost → lost ≤ failures made → map called made ≡ map call_by all
all_there none few = refl
all_there (went {xs = xs} {made = before} x t may all is) few =
    let b = no_more before x in
    let c = ap failures is in
    let rest = all_there t (omega (arith, few, b, c)) in
    ap (map called) is ∙ map-append called before (done x.call ∷ []) ∙ ap (λ z. z ++ x.call ∷ []) rest ∙ sym (ap (map call_by) all ∙ map-append call_by xs (x ∷ []))
all_there (was_lost {xs = xs} {made = before} x t may all (inl is) total) few =
    let b = one_more before (failed x.call) in
    let c = ap failures is in
    let rest = all_there t (omega (arith, few, b, c, total)) in
    ap (map called) is ∙ map-append called before (failed x.call ∷ []) ∙ ap (λ z. z ++ x.call ∷ []) rest ∙ sym (ap (map call_by) all ∙ map-append call_by xs (x ∷ []))
all_there (was_lost {made = before} x t may all (inr is) total) few =
    let a = few_failures t in
    let c = ap failures is in
    absurd (omega (arith, few, a, c, total))

-- none of them is a call of the disk
pub tried_sendings : {ts : List Token} {ids : List Numbers} {all : List Leaving} {made : List Made} {lost : ℕ} → Tried ts ids all made lost → AreOuts all → AreSendings made
tried_sendings none h = tt
tried_sendings (went {xs = xs} {made = before} x t may all is) h =
    let (front, last) = parts xs x (subst AreOuts all h) in subst AreSendings (sym is) (sendings_join before (done x.call) (tried_sendings t front) last)
tried_sendings (was_lost {xs = xs} {made = before} x t may all (inl is) total) h =
    let (front, last) = parts xs x (subst AreOuts all h) in subst AreSendings (sym is) (sendings_join before (failed x.call) (tried_sendings t front) last)
tried_sendings (was_lost {xs = xs} {made = before} x t may all (inr is) total) h =
    let (front, last) = parts xs x (subst AreOuts all h) in subst AreSendings (sym is) (tried_sendings t front)

-- the calls of the outs of all these steps
abbrev pub leaving_calls : List TurnStep → List Call
leaving_calls [] = []
leaving_calls (s ∷ ss) = map call_by s.leaving ++ leaving_calls ss

abbrev pub NoRecord : TurnStep → Type 0
NoRecord s = s.entry ≡ None

pub due_unrecorded : (os : List Outcome) (ss : List TurnStep) → AreDue os ss → AllByRecursion NoRecord ss
due_unrecorded [] [] h = tt
due_unrecorded [] (s ∷ ss) h = absurd h
due_unrecorded (o ∷ os) [] h = absurd h
due_unrecorded (o ∷ os) (s ∷ ss) (e, l, is, more) = (e, due_unrecorded os ss more)

module _ (live limit : ℕ) where
  no_record : (bodies : List (List ℕ)) (s : TurnStep) (d : Doing) → s.entry ≡ None → IsFateAt s.landed s.entry live limit (length (frames bodies)) d.first d.refused → d.first ≡ []
  no_record bodies s d e fate = (subst (λ o. IsFateAt s.landed o live limit (length (frames bodies)) d.first d.refused) e fate).0

  pub rows_few : (k : Known) (bodies : List (List ℕ)) (ss : List TurnStep) (ds : List Doing) → AllByRecursion NoRecord ss → AreDoings k ss ds → AreFates live limit bodies ss ds
      → failures (calls_of ds) ≤ lost_of ds
  rows_few k bodies [] [] free are fates = omega arith
  rows_few k bodies [] (d ∷ ds) free are fates = absurd are
  rows_few k bodies (s ∷ ss) [] free are fates = absurd are
  rows_few k bodies (s ∷ ss) (d ∷ ds) (e, free) (is, are) (fate, fates) =
      let a = rows_few (kept_by (if_landed s.landed s.entry) k) (bodies ++ d.landed) ss ds free are fates in
      let b = few_failures is.tried in
      let c = failures_join (d.first ++ d.made) (calls_of ds) in
      let f = failures_join d.first d.made in
      let g = ap failures (no_record bodies s d e fate) in
      omega (arith, a, b, c, f, g)

  -- nor do they call the disk
  pub rows_quiet : (k : Known) (bodies : List (List ℕ)) (ss : List TurnStep) (ds : List Doing) → AllByRecursion NoRecord ss → AllAreOuts ss → AreDoings k ss ds → AreFates live limit bodies ss ds
      → refusals (calls_of ds) ≡ 0
  rows_quiet k bodies [] [] free are_outs are fates = refl
  rows_quiet k bodies [] (d ∷ ds) free are_outs are fates = absurd are
  rows_quiet k bodies (s ∷ ss) [] free are_outs are fates = absurd are
  rows_quiet k bodies (s ∷ ss) (d ∷ ds) (e, free) (out, are_outs) (is, are) (fate, fates) =
      let a = rows_quiet (kept_by (if_landed s.landed s.entry) k) (bodies ++ d.landed) ss ds free are_outs are fates in
      let b = none_refused d.made (tried_sendings is.tried out) in
      let c = refusals_join (d.first ++ d.made) (calls_of ds) in
      let f = refusals_join d.first d.made in
      let g = ap refusals (no_record bodies s d e fate) in
      omega (arith, a, b, c, f, g)

  -- steps without records, none of whose lost outs is missing among the calls
  pub rows_there : (k : Known) (bodies : List (List ℕ)) (ss : List TurnStep) (ds : List Doing) → AllByRecursion NoRecord ss → AreDoings k ss ds → AreFates live limit bodies ss ds
      → lost_of ds ≤ failures (calls_of ds) → map called (calls_of ds) ≡ leaving_calls ss
  rows_there k bodies [] [] free are fates few = refl
  rows_there k bodies [] (d ∷ ds) free are fates few = absurd are
  rows_there k bodies (s ∷ ss) [] free are fates few = absurd are
  rows_there k bodies (s ∷ ss) (d ∷ ds) (e, free) (is, are) (fate, fates) few =
      let a = rows_few (kept_by (if_landed s.landed s.entry) k) (bodies ++ d.landed) ss ds free are fates in
      let b = few_failures is.tried in
      let c = failures_join (d.first ++ d.made) (calls_of ds) in
      let f = failures_join d.first d.made in
      let none = no_record bodies s d e fate in
      let g = ap failures none in
      let rest = rows_there (kept_by (if_landed s.landed s.entry) k) (bodies ++ d.landed) ss ds free are fates (omega (arith, few, b, c, f, g)) in
      let first = all_there is.tried (omega (arith, few, a, c, f, g)) in
      ap (λ z. map called ((z ++ d.made) ++ calls_of ds)) none ∙ map-append called d.made (calls_of ds) ∙ (λ i. first i ++ rest i)
