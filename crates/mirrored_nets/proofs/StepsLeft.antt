-- Steps all of whose calls were done: their record stands, and each of their answers and posts left.
use Rattle.std.specs.Prelude.{ℕ, List, [], ◌∷◌, ◌++◌, ◌≡◌, IfSome, Option, Some, None, Bool, true, false, drop, length, map}
use Rattle.std.specs.List.{AllByRecursion}
use Rattle.std.proofs.Common.{refl, sym, ap, subst, arith, ◌∙◌}
use Rattle.at_base.specs.declared.record.Record.{Record}
use Rattle.at_model.specs.Step.{Outcome}
use Rattle.fated_walks.specs.Fated.{AllLeft, AreUnrecorded, Fated, HasLeft, Way, all_fates, stands_by, went_of}
use Rattle.journal_at.specs.declared.journal.Journal.{Journal}
use Rattle.journal_at.specs.declared.version.Version.TheVariants.{Two}
use Rattle.memory_net.proofs.MailedPosts.{all_left, all_right}
use Rattle.mirrored_nets.specs.Fates.{AllDone, IsDone, fates_in, is_done}
use Rattle.mirrored_nets.specs.Took.{IsTriedLine}
use Rattle.mirrored_nets.proofs.CallRows.{AreParts, all_refused_none}
use Rattle.mirrored_nets.proofs.CallsRead.{IsRecordOf, anew_behind, fates_read, parts, told}
use Rattle.mirrored_nets.proofs.CutCalls.{AreCallsOf}
use Rattle.mirrored_nets.proofs.StandingCalls.{standing_calls}
use Rattle.mirrored_nets.proofs.ToldFares.{AllTold, ways_are}
use Rattle.mirrored_nets.proofs.TriedLines.{line_long}
use Rattle.mirrored_nets.proofs.TurnsRead.{StepsRead}
use Rattle.node_at.specs.Doings.{Doing}
use Rattle.node_at.specs.Steps.{if_landed}
use Rattle.node_at.specs.TurnText.{TurnStep}
use Rattle.node_events.specs.Fares.{AreFared}
use Rattle.node_events.specs.NodeEvents.{all_made}
use Rattle.node_worlds.specs.SentPosts.{records_by}
use Rattle.record_bytes.specs.Bytes.{bytes_of}
use Rattle.record_bytes.specs.Versions.{IsRecord}
use Rattle.site_model.specs.Told.{Made}

abbrev pub IsLanded : Fated → Type 0
IsLanded f = f.landed ≡ true

ways_left : (ws : List Way) (ms : List Made) → map went_of ws ≡ map is_done ms → AllDone ms → AllByRecursion HasLeft ws
ways_left [] ms e h = tt
ways_left (w ∷ ws) [] e h = absurd cc
ways_left (w ∷ ws) (m ∷ ms) e (h, more) = (first ∙ h, ways_left ws ms rest more)
  where
    first : w.went ≡ m.done
    first = cc

    rest : map went_of ws ≡ map is_done ms
    rest = cc

steps_left : (ss : List TurnStep) (ds : List Doing) (fs : List Fated) (h : AreFared ss ds fs) → AllTold ss ds fs h → AllDone (all_made ds) → AllByRecursion IsLanded fs → AllLeft fs
steps_left [] [] [] h t a l = tt
steps_left (s ∷ ss) (d ∷ ds) (f ∷ fs) (h, more) (t, rest) a (l, others) =
    ((l, ways_left f.ways d.made (ways_are s d f h t) (all_left IsDone d.made (all_made ds) a)), steps_left ss ds fs more rest (all_right IsDone d.made (all_made ds) a) others)
steps_left [] [] (f ∷ fs) h t a l = absurd h
steps_left [] (d ∷ ds) fs h t a l = absurd h
steps_left (s ∷ ss) [] fs h t a l = absurd h
steps_left (s ∷ ss) (d ∷ ds) [] h t a l = absurd h

pub unrecorded_landed : (os : List Outcome) (fs : List Fated) → AreUnrecorded os fs → AllByRecursion IsLanded fs
unrecorded_landed [] [] h = tt
unrecorded_landed [] (f ∷ fs) h = absurd h
unrecorded_landed (o ∷ os) [] h = absurd h
unrecorded_landed (o ∷ os) (f ∷ fs) (h, more) = (h.landed, unrecorded_landed os fs more)

stands_landed : (r : Record) (b : Bool) → stands_by (Some r) b ≡ r ∷ [] → b ≡ true
stands_landed r true e = refl
stands_landed r false e = absurd cc

record_landed : (o : Option Record) (landed : Bool) (j : Journal) (disk : List Made) (refused : ℕ) (f : Fated) → IsRecordOf o landed j disk refused → refused ≡ 0 → f.entry ≡ o → (f.entry ≡ None → f.landed ≡ true)
    → stands_by f.entry f.landed ≡ records_by (if_landed landed o) → f.landed ≡ true
record_landed None landed j disk refused f h none e sure is = sure e
record_landed (Some r) true j disk refused f h none e sure is = stands_landed r f.landed (sym (ap (λ o. stands_by o f.landed) e) ∙ is)
record_landed (Some r) false j disk refused f (b, one) none e sure is = absurd (omega (arith, one, none))

-- Of steps that were read, whose record wasn't refused and whose outs all left, whatever became of writing the journal anew.
module _ (j : Journal) (line made : List Made) (steps : List TurnStep) (doings : List Doing) (fated : List Fated) (r : StepsRead j line made steps doings fated) where
  pub first_lands : r.d.refused ≡ 0 → (r.f.entry ≡ None → r.f.landed ≡ true) → IsLanded r.f
  first_lands none sure = record_landed r.s.entry r.s.landed j r.d.first r.d.refused r.f r.read.record_is none r.fared.0.entry sure r.fared.0.records

  pub all_leave : AllDone (all_made (r.d ∷ r.ds)) → AllByRecursion IsLanded (r.f ∷ r.fs) → AllLeft (r.f ∷ r.fs)
  all_leave outs landed = steps_left (r.s ∷ r.ss) (r.d ∷ r.ds) (r.f ∷ r.fs) r.fared (told j line made r.s r.ss r.d r.ds r.read r.f r.fs r.fared r.have) outs landed

-- Of steps all of whose calls were done.
module _ (j : Journal) (lines : ℕ) (line made : List Made) (steps : List TurnStep) (doings : List Doing) (fated : List Fated) (r : StepsRead j line made steps doings fated) (all : AllDone made)
    (tried : IsTriedLine lines line) where
  behind : AllDone (r.d.first ++ (all_made (r.d ∷ r.ds) ++ r.read.anew))
  behind = all_right IsDone line (r.d.first ++ (all_made (r.d ∷ r.ds) ++ r.read.anew)) (subst AllDone r.read.are all)

  outs_done : AllDone (all_made (r.d ∷ r.ds))
  outs_done = all_left IsDone (all_made (r.d ∷ r.ds)) r.read.anew (all_right IsDone r.d.first (all_made (r.d ∷ r.ds) ++ r.read.anew) behind)

  anew_done : AllDone r.read.anew
  anew_done = all_right IsDone (all_made (r.d ∷ r.ds)) r.read.anew (all_right IsDone r.d.first (all_made (r.d ∷ r.ds) ++ r.read.anew) behind)

  none_refused : r.d.refused ≡ 0
  none_refused = let a = r.read.refused in let b = all_refused_none made all in omega (arith, a, b)

  -- the first step's record stands, where steps without one count as ones whose record stands
  pub first_landed : (r.f.entry ≡ None → r.f.landed ≡ true) → IsLanded r.f
  first_landed sure = first_lands j line made steps doings fated r none_refused sure

  pub left_so : AllByRecursion IsLanded (r.f ∷ r.fs) → AllLeft (r.f ∷ r.fs)
  left_so landed = all_leave j line made steps doings fated r outs_done landed

  are_parts : AreParts r.d.first (all_made (r.d ∷ r.ds)) r.read.anew
  are_parts = parts j line made r.s r.ss r.d r.ds r.read r.f r.fs r.fared r.have r.answered

  pub calls_so : IfSome r.s.entry (λ x. IsRecord Two x (bytes_of x)) → IsLanded r.f → AreCallsOf j lines made (r.s ∷ r.ss) (r.d ∷ r.ds)
  calls_so formed landed = standing_calls j lines line made r.s r.ss r.d r.ds r.read are_parts tried formed r.f r.fared.0 landed

  -- as many fates
  pub fates_so : length (fates_in (drop lines made)) ≡ length (all_fates fated)
  fates_so =
      let long : length line ≡ lines = line_long lines line tried in
      subst (λ k. length (fates_in (drop k made)) ≡ length (all_fates fated)) long
      (ap length
      (fates_read j line made r.s r.ss r.d r.ds r.read r.f r.fs r.fared r.have r.answered
      (subst AllDone (sym (anew_behind j line made r.s r.ss r.d r.ds r.read r.f r.fs r.fared r.have r.answered)) anew_done)
      ∙ ap all_fates (sym r.fated_are)))
