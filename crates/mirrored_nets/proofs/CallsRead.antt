-- What the calls that a node made in one call of its own say of its steps.
use Rattle.std.specs.Prelude.{ℕ, List, [], ◌∷◌, ◌++◌, ◌+◌, ◌≡◌, ◌≤◌, ◌⊎◌, Option, Some, None, Bool, true, false, drop, length, map}
use Rattle.std.specs.List.{AllByRecursion}
use Rattle.std.proofs.Common.{refl, sym, ap, subst, arith, ◌∙◌, inl, inr}
use Rattle.std.proofs.Math.Seq.{drop-append_seam}
use Rattle.at_base.specs.declared.record.Record.{Record}
use Rattle.fated_walks.specs.Fated.{Fated, all_fates, record_fates, stands_by, went_of}
use Rattle.journal_at.specs.StandingBodies.{lay}
use Rattle.journal_at.specs.declared.journal.Journal.{Journal}
use Rattle.node_at.specs.Doings.{Doing, lost_of}
use Rattle.node_at.specs.Steps.{if_landed}
use Rattle.node_at.specs.TurnText.{TurnStep}
use Rattle.node_events.specs.Fares.{AreFared}
use Rattle.node_events.specs.NodeEvents.{all_made}
use Rattle.node_worlds.specs.SentPosts.{records_by}
use Rattle.record_bytes.specs.Bytes.{bytes_of}
use Rattle.site_model.specs.Told.{BreaksOff, Made, done}
use Rattle.std.proofs.lemmas.List.{map-append}
use Rattle.torn_appends.specs.TornAppends.{append_calls}
use Rattle.mirrored_nets.specs.Fates.{AllDone, all_done, anew_of, failures, fates_in, is_done, record_fate, refusals}
use Rattle.mirrored_nets.proofs.CallRows.{AreOnDisk, AreParts, AreSendings, all_refused_none, anew_is, disk_calls, failures_join, fates_are, none_fails, none_refused, not_all_done, refusals_join, some_refused}
use Rattle.mirrored_nets.proofs.ToldFares.{AllAreOuts, AllTold, HasNone, HaveCalls, all_are_told, all_sendings, due_fates, none_made, ways_are}

-- A record's calls: all four of an append, where it landed; or the first of them up to one that failed or wasn't tried, where it was refused.
abbrev pub IsRecordOf : Option Record → Bool → Journal → List Made → (refused : ℕ) → Type 0
IsRecordOf None landed j disk refused = (disk ≡ []) × (refused ≡ 0)
IsRecordOf (Some r) true j disk refused = (disk ≡ map done (append_calls j (bytes_of r))) × (refused ≡ 0)
IsRecordOf (Some r) false j disk refused = BreaksOff (lay j.live j.end (bytes_of r)) disk × (refused ≡ 1)

-- These are the calls of steps of which the first may have a record, behind those of a line; and then the journal may be written anew. No answer
-- and no post failed, and no record was refused, beside those calls.
pub record Read (j : Journal) (line made : List Made) (s : TurnStep) (ss : List TurnStep) (d : Doing) (ds : List Doing) : Type 0 where
  pub anew : List Made
  pub are : made ≡ line ++ (d.first ++ (all_made (d ∷ ds) ++ anew))
  pub anew_are : AreOnDisk anew
  pub line_sent : AreSendings line
  pub record_is : IsRecordOf s.entry s.landed j d.first d.refused
  pub outs : AllAreOuts (s ∷ ss)
  pub unrecorded : AllByRecursion HasNone ss
  pub lost : failures line + lost_of (d ∷ ds) ≤ failures made
  pub refused : d.refused ≤ refusals made
  -- nor was one beside a call that failed by which the journal is written anew
  pub both : 1 ≤ refusals anew → d.refused + 1 ≤ refusals made

pub breaks_on_disk : (j : Journal) (body : List ℕ) (made : List Made) → BreaksOff (lay j.live j.end body) made → AreOnDisk made
breaks_on_disk j body made b = disk_calls (lay j.live j.end body) made (refl, (refl, tt)) b

pub record_on_disk : (entry : Option Record) (landed : Bool) (j : Journal) (disk : List Made) (refused : ℕ) → IsRecordOf entry landed j disk refused → AreOnDisk disk
record_on_disk None landed j disk refused (e, n) = subst AreOnDisk (sym e) tt
record_on_disk (Some r) true j disk refused (e, n) = subst AreOnDisk (sym e) (refl, (refl, (refl, (refl, tt))))
record_on_disk (Some r) false j disk refused (b, n) = breaks_on_disk j (bytes_of r) disk b

-- the fate of the first step's record
pub record_fate_is : (ms : List Made) → (ms ≡ [] → ⊥) → record_fate ms ≡ all_done ms ∷ []
record_fate_is [] h = absurd (h refl)
record_fate_is (m ∷ ms) h = refl

is_landed : (r : Record) (b : Bool) → stands_by (Some r) b ≡ r ∷ [] → b ≡ true
is_landed r true e = refl
is_landed r false e = absurd cc

is_absent : (r : Record) (b : Bool) → stands_by (Some r) b ≡ [] → b ≡ false
is_absent r true e = absurd cc
is_absent r false e = refl

fate_of_record : (entry : Option Record) (landed stands : Bool) (j : Journal) (disk : List Made) (refused : ℕ) → IsRecordOf entry landed j disk refused → refused ≤ refusals disk
    → stands_by entry stands ≡ records_by (if_landed landed entry) → record_fate disk ≡ record_fates entry stands
fate_of_record None landed stands j disk refused (e, n) few f = ap record_fate e
fate_of_record (Some r) true stands j disk refused (e, n) few f = ap record_fate e ∙ ap (λ b. b ∷ []) (sym (is_landed r stands f))
fate_of_record (Some r) false stands j disk refused (b, n) few f =
    let some : 1 ≤ refusals disk = omega (arith, n, few) in
    record_fate_is disk (some_refused disk some) ∙ ap (λ b. b ∷ []) (not_all_done disk some ∙ sym (is_absent r stands f))

-- Where all outs have calls, and there is one, or the journal wasn't written anew.
module _ (j : Journal) (line made : List Made) (s : TurnStep) (ss : List TurnStep) (d : Doing) (ds : List Doing) (R : Read j line made s ss d ds) (f : Fated) (fs : List Fated)
    (fared : AreFared (s ∷ ss) (d ∷ ds) (f ∷ fs)) where
  pub sendings : AreSendings (all_made (d ∷ ds))
  sendings = all_sendings (s ∷ ss) (d ∷ ds) (f ∷ fs) fared R.outs

  first_on_disk : AreOnDisk d.first
  first_on_disk = record_on_disk s.entry s.landed j d.first d.refused R.record_is

  -- what failed is among the line, the answers and posts, and among the calls of the disk
  pub failures_are : failures made ≡ failures line + failures (all_made (d ∷ ds))
  failures_are =
      let a = failures_join line (d.first ++ (all_made (d ∷ ds) ++ R.anew)) in
      let b = failures_join d.first (all_made (d ∷ ds) ++ R.anew) in
      let c = failures_join (all_made (d ∷ ds)) R.anew in
      let e = none_fails d.first first_on_disk in
      let k = none_fails R.anew R.anew_are in
      let m = ap failures R.are in
      omega (arith, a, b, c, e, k, m)

  pub refusals_are : refusals made ≡ refusals d.first + refusals R.anew
  refusals_are =
      let a = refusals_join line (d.first ++ (all_made (d ∷ ds) ++ R.anew)) in
      let b = refusals_join d.first (all_made (d ∷ ds) ++ R.anew) in
      let c = refusals_join (all_made (d ∷ ds)) R.anew in
      let e = none_refused (all_made (d ∷ ds)) sendings in
      let l = none_refused line R.line_sent in
      let m = ap refusals R.are in
      omega (arith, a, b, c, e, l, m)

  module _ (have : AllByRecursion HaveCalls (f ∷ fs)) where
    pub told : AllTold (s ∷ ss) (d ∷ ds) (f ∷ fs) fared
    told = let a = failures_are in let b = R.lost in all_are_told (s ∷ ss) (d ∷ ds) (f ∷ fs) fared R.outs have (omega (arith, a, b))

    -- the fates of the steps
    pub steps_fated : all_fates (f ∷ fs) ≡ record_fates f.entry f.landed ++ map is_done (all_made (d ∷ ds))
    steps_fated = append_over (record_fates f.entry f.landed) (map went_of f.ways) (all_fates fs) ∙ ap (λ z. record_fates f.entry f.landed ++ z) (sym sends_fates)
      where
        append_over : (xs ys zs : List Bool) → (xs ++ ys) ++ zs ≡ xs ++ (ys ++ zs)
        append_over [] ys zs = refl
        append_over (x ∷ xs) ys zs = ap (λ z. x ∷ z) (append_over xs ys zs)

        sends_fates : map is_done (all_made (d ∷ ds)) ≡ map went_of f.ways ++ all_fates fs
        sends_fates = map-append is_done d.made (all_made ds) ∙ (λ i. sym (ways_are s d f fared.0 told.0) i ++ sym (due_fates ss ds fs fared.1 told.1 R.unrecorded) i)

    pub behind_line : drop (length line) made ≡ d.first ++ (all_made (d ∷ ds) ++ R.anew)
    behind_line = ap (drop (length line)) R.are ∙ drop-append_seam line (d.first ++ (all_made (d ∷ ds) ++ R.anew))

    module _ (answered : (f.outcome.outs ≡ [] → ⊥) ⊎ (R.anew ≡ [])) where
      pub parts : AreParts d.first (all_made (d ∷ ds)) R.anew
      parts = record { disk_are = first_on_disk; sends_are = sendings; anew_are = R.anew_are; none = by answered }
        where
          no_first : (xs ys : List Made) → xs ++ ys ≡ [] → xs ≡ []
          no_first [] ys e = refl
          no_first (x ∷ xs) ys e = absurd cc

          by : (f.outcome.outs ≡ [] → ⊥) ⊎ (R.anew ≡ []) → all_made (d ∷ ds) ≡ [] → R.anew ≡ []
          by (inl some) e = absurd (some (none_made s d f fared.0 told.0 (no_first d.made (all_made ds) e)))
          by (inr none) e = none

      pub anew_behind : anew_of (drop (length line) made) ≡ R.anew
      anew_behind = ap anew_of behind_line ∙ anew_is d.first (all_made (d ∷ ds)) R.anew parts

      -- the fates are those of the calls
      pub fates_of_calls : fates_in (drop (length line) made) ≡ record_fate d.first ++ map is_done (all_made (d ∷ ds))
      fates_of_calls = ap fates_in behind_line ∙ fates_are d.first (all_made (d ∷ ds)) R.anew parts

      -- where no call failed by which it was written anew, so are those of the steps
      pub fates_read : AllDone (anew_of (drop (length line) made)) → fates_in (drop (length line) made) ≡ all_fates (f ∷ fs)
      fates_read none =
          let a = refusals_are in
          let b = all_refused_none R.anew (subst AllDone anew_behind none) in
          let c = R.refused in
          let few : d.refused ≤ refusals d.first = omega (arith, a, b, c) in
          fates_of_calls
          ∙ (λ i. fate_of_record s.entry s.landed f.landed j d.first d.refused R.record_is few (ap (λ o. stands_by o f.landed) (sym fared.0.entry) ∙ fared.0.records) i ++ map is_done (all_made (d ∷ ds)))
          ∙ ap (λ o. record_fates o f.landed ++ map is_done (all_made (d ∷ ds))) (sym fared.0.entry)
          ∙ sym steps_fated
