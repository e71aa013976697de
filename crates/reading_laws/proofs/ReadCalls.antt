-- The parts of the calls of steps that were read.
use Rattle.std.specs.Prelude.{ℕ, List, [], ◌∷◌, ◌++◌, ◌+◌, ◌≡◌, ◌⊎◌, Bool, Option, Some, None, true, false, drop, length, nat_eq, not, suc, zero}
use Rattle.std.proofs.Common.{ap, arith, inl, inr, refl, subst, sym, true≢false, ◌∙◌}
use Rattle.std.proofs.Math.Seq.{drop-append_seam}
use Rattle.std.proofs.lemmas.Bool.{eq-eqb, eqb-true, ne_eqb}
use Rattle.std.proofs.lemmas.List.{append_assoc}
use Rattle.at_base.specs.declared.record.Record.{Record}
use Rattle.fated_walks.specs.Fated.{Fated}
use Rattle.journal_at.specs.declared.journal.Journal.{Journal}
use Rattle.node_at.specs.Doings.{AreFates, Doing, calls_of}
use Rattle.node_at.specs.TurnText.{TurnStep}
use Rattle.node_events.specs.NodeEvents.{all_made}
use Rattle.site_memory.specs.Armings.{call_number}
use Rattle.site_memory.specs.ToldCalls.{AreArmed}
use Rattle.site_model.specs.Told.{Made}
use Rattle.mirrored_nets.specs.Fates.{AllDone, refusals}
use Rattle.mirrored_nets.specs.ToldMachines.{fails_of}
use Rattle.mirrored_nets.specs.declared.armed.Armed.{Armed}
use Rattle.mirrored_nets.specs.declared.armed.Armed.TheVariants as arms
use Rattle.mirrored_nets.proofs.CallRows.{all_refused_none}
use Rattle.mirrored_nets.proofs.CallsRead.{IsRecordOf, parts, refusals_are}
use Rattle.mirrored_nets.proofs.TurnsRead.{StepsRead}
use Rattle.mirrored_nets.proofs.WholeTurns.{unrecorded_calls}
use Rattle.call_readings.specs.Reads.{failing_call}
use Rattle.reading_laws.proofs.ReadStops.{CallParts}

cancel : (xs ys zs : List Made) → xs ++ ys ≡ xs ++ zs → ys ≡ zs
cancel xs ys zs e = sym (drop-append_seam xs ys) ∙ ap (drop (length xs)) e ∙ drop-append_seam xs zs

-- Which of the calls failed, counted behind those that came before.
same_call : (since place k : ℕ) → nat_eq (suc (since + place)) (call_number since k) ≡ nat_eq (suc place) k
same_call since place zero = ne_eqb (suc (since + place)) 0 (λ e. omega (arith, e)) ∙ sym (ne_eqb (suc place) 0 (λ e. omega (arith, e)))
same_call since place (suc k) = by (nat_eq (suc place) (suc k)) refl
  where
    by : (b : Bool) → nat_eq (suc place) (suc k) ≡ b → nat_eq (suc (since + place)) (since + suc k) ≡ b
    by true e = let same = eqb-true (suc place) (suc k) e in eq-eqb (suc (since + place)) (since + suc k) (omega (arith, same))
    by false e = ne_eqb (suc (since + place)) (since + suc k) (λ same. true≢false (sym (eq-eqb (suc place) (suc k) (omega (arith, same))) ∙ e))

armed_from : (since place k : ℕ) (made : List Made) → AreArmed (since + place) (call_number since k) made → AreArmed place k made
armed_from since place k [] armed = tt
armed_from since place k (m ∷ made) (is, more) =
    let next : suc (since + place) ≡ since + suc place = omega arith in
    (is ∙ ap not (same_call since place k), armed_from since (suc place) k made (subst (λ z. AreArmed z (call_number since k) made) next more))

number_of : (since : ℕ) (armed : Armed) → fails_of since armed ≡ call_number since (failing_call armed)
number_of since arms.No = refl
number_of since (arms.Fail k) = refl
number_of since (arms.Stop k choice) = refl

pub armed_here : (since : ℕ) (armed : Armed) (made : List Made) → AreArmed since (fails_of since armed) made → AreArmed 0 (failing_call armed) made
armed_here since armed made row =
    let from : since ≡ since + 0 = omega arith in
    armed_from since 0 (failing_call armed) made (subst (λ z. AreArmed z (call_number since (failing_call armed)) made) from (subst (λ k. AreArmed since k made) (number_of since armed) row))

-- A record's calls, or none, all of which were done.
pub record AppendDone (first : List Made) : Type 0 where
  pub which : (first ≡ []) ⊎ (length first ≡ 4)
  pub done : AllDone first

append_done : (entry : Option Record) (landed : Bool) (j : Journal) (first : List Made) (refused : ℕ) → IsRecordOf entry landed j first refused → refused ≡ 0 → AppendDone first
append_done None landed j first refused (e, zero_refused) none = record { which = inl e; done = subst AllDone (sym e) tt }
append_done (Some r) true j first refused (e, zero_refused) none = record { which = inr (ap length e); done = subst AllDone (sym e) (refl, (refl, (refl, (refl, tt)))) }
append_done (Some r) false j first refused (b, one_refused) none = absurd (omega (arith, one_refused, none))

module _ (j : Journal) (lines : ℕ) (line made : List Made) (steps : List TurnStep) (doings : List Doing) (fated : List Fated) (R : StepsRead j line made steps doings fated) (long : length line ≡ lines) where
  abbrev sends : List Made
  sends = all_made (R.d ∷ R.ds)

  abbrev pub call_parts : CallParts lines made
  call_parts = record {
    line = line;
    first = R.d.first;
    sends = sends;
    anew = R.read.anew;
    are = R.read.are;
    long = long;
    parts = parts j line made R.s R.ss R.d R.ds R.read R.f R.fs R.fared R.have R.answered;
  }

  pub append_is : R.d.refused ≡ 0 → AppendDone R.d.first
  append_is none = append_done R.s.entry R.s.landed j R.d.first R.d.refused R.read.record_is none

  pub none_refused : AllDone made → R.d.refused ≡ 0
  none_refused all = let a = R.read.refused in let b = all_refused_none made all in omega (arith, a, b)

  pub refusals_so : refusals made ≡ refusals R.d.first + refusals R.read.anew
  refusals_so = refusals_are j line made R.s R.ss R.d R.ds R.read R.f R.fs R.fared

  -- the calls behind its steps are those by which the journal was written anew
  pub anew_same : (live limit : ℕ) (bodies : List (List ℕ)) (anew : List Made) → AreFates live limit bodies steps doings → made ≡ line ++ (calls_of doings ++ anew) → R.read.anew ≡ anew
  anew_same live limit bodies anew fates are = sym (cancel (R.d.first ++ sends) anew R.read.anew (cancel line ((R.d.first ++ sends) ++ anew) ((R.d.first ++ sends) ++ R.read.anew) both))
    where
      here : AreFates live limit bodies (R.s ∷ R.ss) (R.d ∷ R.ds)
      here = subst (λ z. AreFates live limit bodies z (R.d ∷ R.ds)) R.steps_are (subst (AreFates live limit bodies steps) R.doings_are fates)

      rest : calls_of R.ds ≡ all_made R.ds
      rest = unrecorded_calls live limit (bodies ++ R.d.landed) R.ss R.ds here.1 R.read.unrecorded

      calls : calls_of doings ≡ R.d.first ++ sends
      calls = ap calls_of R.doings_are ∙ ap (λ z. (R.d.first ++ R.d.made) ++ z) rest ∙ append_assoc R.d.first R.d.made (all_made R.ds)

      both : line ++ ((R.d.first ++ sends) ++ anew) ≡ line ++ ((R.d.first ++ sends) ++ R.read.anew)
      both = ap (λ z. line ++ (z ++ anew)) (sym calls) ∙ sym are ∙ R.read.are ∙ ap (λ z. line ++ z) (sym (append_assoc R.d.first sends R.read.anew))
