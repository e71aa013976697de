-- What is read of the calls of an event is what the event asks for.
use Rattle.std.specs.Prelude.{ℕ, List, [], ◌∷◌, ◌≡◌, Bool, true, false, None, Option, drop, length}
use Rattle.std.proofs.Common.{refl, subst, sym}
use Rattle.at_model.specs.World.{fate, fates_left}
use Rattle.fated_walks.specs.Fated.{IsBeyond, StartsWith}
use Rattle.site_model.specs.Told.{Made}
use Rattle.mirrored_nets.specs.Fates.{AllDone, AreAsked, anew_of, fates_in}
use Rattle.mirrored_nets.specs.AnewCalls.{IsAskedWhole}
use Rattle.mirrored_nets.proofs.DoneCalls.{all_drop}
use Rattle.mirrored_nets.proofs.ArmedRows.{starts_none, yes_fates}
use Rattle.call_readings.specs.Reads.{led_by, named, read_fates}
use Rattle.call_readings.specs.declared.became.Became.TheVariants as becomes
use Rattle.reading_laws.specs.ReadingsAsk.{ReadingsAsk}

-- the fates that are named are those
starts_named : (fates : List Bool) → StartsWith fates (named fates)
starts_named [] = tt
starts_named (f ∷ fates) = by f (named fates) (starts_named fates)
  where
    by : (b : Bool) (gs : List Bool) → StartsWith fates gs → (fate (led_by b gs) ≡ b) × StartsWith fates (fates_left (led_by b gs))
    by true [] h = (refl, h)
    by true (g ∷ gs) h = (refl, h)
    by false gs h = (refl, h)

module _ (lines : ℕ) (made : List Made) (fates : List Bool) (until : Option ℕ) (none : until ≡ None) where
  beyond : IsBeyond until (length (fates_in (drop lines made)))
  beyond = subst (λ u. IsBeyond u (length (fates_in (drop lines made)))) (sym none) tt

  asked_read : fates ≡ read_fates lines made → IsAskedWhole lines made fates until
  asked_read is = record { fates_are = subst (StartsWith (fates_in (drop lines made))) (sym is) (starts_named (fates_in (drop lines made))); beyond = beyond }

  asked_none : AllDone made → fates ≡ [] → IsAskedWhole lines made fates until
  asked_none all is = record {
    fates_are = subst (StartsWith (fates_in (drop lines made))) (sym is) (starts_none (fates_in (drop lines made)) (yes_fates (drop lines made) (all_drop lines made all)));
    beyond = beyond;
  }

  with_anew : IsAskedWhole lines made fates until → AllDone (anew_of (drop lines made)) → AreAsked lines made fates until
  with_anew whole anew = record { fates_are = whole.fates_are; beyond = whole.beyond; anew = anew }

pub readings_ask : ReadingsAsk
readings_ask armed lines made becomes.Stays fates until r =
    let (uncut, ends, f, u) = r.are in
    let whole = asked_read lines made fates until u f in
    (whole, λ anew. with_anew lines made fates until u whole anew)
readings_ask armed lines made (becomes.Falls kept choice) fates until r =
    let (all, cut, at) = r.are in
    ((all, at), (cut.k, cut.cut.armed_is, cut.cut.kept_is))
readings_ask armed lines made becomes.Halts fates until r = let (failing, halts, none) = r.are in (halts, failing)
readings_ask armed lines made (becomes.FallsAnew kept choice) fates until r =
    let (all, cut, f, u) = r.are in
    (asked_none lines made fates until u all f, (cut.k, cut.cut.armed_is, cut.cut.kept_is))
readings_ask armed lines made becomes.HaltsAnew fates until r = let (failing, last, f, u) = r.are in (asked_read lines made fates until u f, failing)
