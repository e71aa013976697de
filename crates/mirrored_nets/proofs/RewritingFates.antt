-- The fates of a turn that went through all its steps, at one of whose calls by which the journal is written anew a fault comes.
use Rattle.std.specs.Prelude.{ℕ, List, [], ◌∷◌, ◌++◌, ◌+◌, ◌≡◌, ◌≤◌, ◌⊎◌, drop, length}
use Rattle.std.specs.List.{AllByRecursion}
use Rattle.std.proofs.Common.{refl, sym, ap, subst, arith, ◌∙◌, inr}
use Rattle.std.proofs.lemmas.List.{append_assoc, length-append}
use Rattle.fated_walks.specs.Fated.{Fated, all_fates}
use Rattle.journal_at.specs.declared.journal.Journal.{Journal}
use Rattle.memory_net.proofs.MailedPosts.{all_right}
use Rattle.node_at.specs.Doings.{AreFates, Doing, calls_of, lost_of}
use Rattle.node_at.specs.TurnText.{TurnStep}
use Rattle.node_events.specs.Fares.{AreFared}
use Rattle.node_events.specs.NodeEvents.{all_made}
use Rattle.site_model.specs.Told.{Made}
use Rattle.mirrored_nets.specs.Fates.{AllDone, IsDone, anew_of, failures, fates_in, is_disk, refusals}
use Rattle.mirrored_nets.specs.AnewCalls.{FailsAnew}
use Rattle.mirrored_nets.proofs.CallRows.{AreOnDisk, IsOnDisk, all_refused_none, one_refused, refusals_join, failures_join}
use Rattle.mirrored_nets.proofs.CallsRead.{Read, anew_behind, failures_are, fates_of_calls, fates_read, refusals_are}
use Rattle.mirrored_nets.proofs.ToldFares.{HasNone, HaveCalls}
use Rattle.mirrored_nets.proofs.TurnsRead.{StepsRead, steps_fates}
use Rattle.mirrored_nets.proofs.WholeTurns.{unrecorded_calls}

-- Of calls of the disk of which the last failed one was refused.
one_fails : (call : ℕ) (anew : List Made) → AreOnDisk anew → FailsAnew call anew → refusals anew ≡ 1
one_fails call anew disk F =
    let all = ap refusals F.all in
    let parts = refusals_join F.front (F.last ∷ []) in
    let front = all_refused_none F.front F.done in
    let here : AreOnDisk (F.last ∷ []) = all_right IsOnDisk F.front (F.last ∷ []) (subst AreOnDisk F.all disk) in
    let last : one_refused (is_disk F.last.call) F.last.done ≡ 1 = λ i. one_refused (here.0 i) (F.fails i) in
    omega (arith, all, parts, front, last)

-- Steps whose records were refused by calls of their own have the fates of their calls, whatever became of those behind them.
module _ (j : Journal) (line made : List Made) (s : TurnStep) (ss : List TurnStep) (d : Doing) (ds : List Doing) (R : Read j line made s ss d ds) (f : Fated) (fs : List Fated)
    (fared : AreFared (s ∷ ss) (d ∷ ds) (f ∷ fs)) where
  -- the calls without those by which the journal was written anew
  abbrev alone : List Made
  alone = line ++ (d.first ++ (all_made (d ∷ ds) ++ []))

  read_alone : d.refused ≤ refusals d.first → Read j line alone s ss d ds
  read_alone few = record {
    anew = [];
    are = refl;
    anew_are = tt;
    line_sent = R.line_sent;
    record_is = R.record_is;
    outs = R.outs;
    unrecorded = R.unrecorded;
    lost = lost_so;
    refused = refused_so;
    both = λ some. absurd (omega (arith, some));
  }
    where
      lost_so : failures line + lost_of (d ∷ ds) ≤ failures alone
      lost_so =
          let a = failures_join line (d.first ++ (all_made (d ∷ ds) ++ [])) in
          let b = failures_join d.first (all_made (d ∷ ds) ++ []) in
          let c = failures_join (all_made (d ∷ ds)) [] in
          let e = failures_are j line made s ss d ds R f fs fared in
          let k = R.lost in
          omega (arith, a, b, c, e, k)

      refused_so : d.refused ≤ refusals alone
      refused_so =
          let a = refusals_join line (d.first ++ (all_made (d ∷ ds) ++ [])) in
          let b = refusals_join d.first (all_made (d ∷ ds) ++ []) in
          omega (arith, a, b, few)

  fates_alone : AllByRecursion HaveCalls (f ∷ fs) → (f.outcome.outs ≡ [] → ⊥) ⊎ (R.anew ≡ []) → d.refused ≤ refusals d.first → fates_in (drop (length line) made) ≡ all_fates (f ∷ fs)
  unfolding read_alone
  fates_alone have answered few =
      let r = read_alone few in
      fates_of_calls j line made s ss d ds R f fs fared have answered
      ∙ sym (fates_of_calls j line alone s ss d ds r f fs fared have (inr refl))
      ∙ fates_read j line alone s ss d ds r f fs fared have (inr refl) (subst AllDone (sym (anew_behind j line alone s ss d ds r f fs fared have (inr refl))) tt)

module _ (j : Journal) (line made : List Made) (steps : List TurnStep) (doings : List Doing) (fated : List Fated) (r : StepsRead j line made steps doings fated) where
  pub anew_read : anew_of (drop (length line) made) ≡ r.read.anew
  anew_read = anew_behind j line made r.s r.ss r.d r.ds r.read r.f r.fs r.fared r.have r.answered

  -- where one of the calls failed by which the journal was written anew
  pub fates_failed : (call : ℕ) → FailsAnew call (anew_of (drop (length line) made)) → fates_in (drop (length line) made) ≡ all_fates fated
  fates_failed call F =
      let one = one_fails call r.read.anew r.read.anew_are (subst (FailsAnew call) anew_read F) in
      let all = refusals_are j line made r.s r.ss r.d r.ds r.read r.f r.fs r.fared in
      let both = r.read.both (omega (arith, one)) in
      fates_alone j line made r.s r.ss r.d r.ds r.read r.f r.fs r.fared r.have r.answered (omega (arith, one, all, both)) ∙ ap all_fates (sym r.fated_are)

  -- where all calls were done
  pub fates_done : AllDone made → fates_in (drop (length line) made) ≡ all_fates fated
  fates_done all = steps_fates j line made steps doings fated r (subst AllDone (sym anew_read) anew_done)
    where
      behind : AllDone (r.d.first ++ (all_made (r.d ∷ r.ds) ++ r.read.anew))
      behind = all_right IsDone line (r.d.first ++ (all_made (r.d ∷ r.ds) ++ r.read.anew)) (subst AllDone r.read.are all)

      anew_done : AllDone r.read.anew
      anew_done = all_right IsDone (all_made (r.d ∷ r.ds)) r.read.anew (all_right IsDone r.d.first (all_made (r.d ∷ r.ds) ++ r.read.anew) behind)

  -- how many calls its line and its steps made
  pub steps_long : (live limit : ℕ) (bodies : List (List ℕ)) → AreFates live limit bodies steps doings → length made ≡ length (line ++ calls_of doings) + length (anew_of (drop (length line) made))
  steps_long live limit bodies fates =
      let here : AreFates live limit bodies (r.s ∷ r.ss) (r.d ∷ r.ds) = subst (λ z. AreFates live limit bodies z (r.d ∷ r.ds)) r.steps_are (subst (AreFates live limit bodies steps) r.doings_are fates) in
      let calls : calls_of doings ≡ r.d.first ++ all_made (r.d ∷ r.ds) = ap calls_of r.doings_are ∙ by here r.read.unrecorded in
      let a = ap length r.read.are ∙ length-append line (r.d.first ++ (all_made (r.d ∷ r.ds) ++ r.read.anew)) in
      let b = length-append r.d.first (all_made (r.d ∷ r.ds) ++ r.read.anew) in
      let c = length-append (all_made (r.d ∷ r.ds)) r.read.anew in
      let d = length-append line (calls_of doings) in
      let e = ap length calls ∙ length-append r.d.first (all_made (r.d ∷ r.ds)) in
      let k = ap length anew_read in
      omega (arith, a, b, c, d, e, k)
    where
      by : AreFates live limit bodies (r.s ∷ r.ss) (r.d ∷ r.ds) → AllByRecursion HasNone r.ss → calls_of (r.d ∷ r.ds) ≡ r.d.first ++ all_made (r.d ∷ r.ds)
      by (fate, more) none = ap (λ z. (r.d.first ++ r.d.made) ++ z) (unrecorded_calls live limit (bodies ++ r.d.landed) r.ss r.ds more none) ∙ append_assoc r.d.first r.d.made (all_made r.ds)
