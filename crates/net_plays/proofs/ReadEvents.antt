-- Which event it was that was asked for: as it was asked for, where no call is armed; and of one behind whose steps its node went down, a turn without
-- a stop.
use Rattle.std.proofs.Common.{ℕ, List, [], ◌∷◌, ◌++◌, ◌≡◌, inl, inr, Bool, true, false, refl, ap, subst, sym, suc, zero, drop, map, arith, ◌∙◌}
use Rattle.std.proofs.lemmas.Bool.{ne_eqb}
use Rattle.std.specs.Prelude.{Option, None, if◌then◌else◌, nat_eq, not}
use Rattle.at_model.specs.World.{World, WorldEvent, Turn, Ask, Crash, Up}
use Rattle.asked_nets.specs.Behind.{goes_anew}
use Rattle.asked_nets.specs.Happened.{Happened}
use Rattle.asked_nets.specs.ReadSteps.{IsTold, NetStepRead}
use Rattle.call_readings.specs.AskedEvents.{IsOf}
use Rattle.call_readings.specs.Reads.{ReadsAs, named, read_fates}
use Rattle.call_readings.specs.ReadsStart.{StartsAs}
use Rattle.call_readings.specs.declared.became.Became.{Became}
use Rattle.call_readings.specs.declared.became.Became.TheVariants.{Stays, Falls, Halts, FallsAnew, HaltsAnew}
use Rattle.mirrored_nets.specs.Fates.{AllDone, all_done, behind_disk, disk_part, is_disk, is_done, record_fate, sent_of, sent_part}
use Rattle.mirrored_nets.specs.Seen.{Seen}
use Rattle.mirrored_nets.specs.declared.armed.Armed.{Armed}
use Rattle.mirrored_nets.specs.declared.armed.Armed.TheVariants as arms
use Rattle.node_at.specs.declared.fault.StartFault.{StartFault}
use Rattle.node_at.specs.declared.node.Node.{Node}
use Rattle.site_memory.specs.ToldCalls.{AreArmed}
use Rattle.site_memory.specs.declared.machine.MemSite.{MemSite}
use Rattle.site_model.specs.Told.{Made}
use Rattle.std.specs.Prelude.{Result}
use Rattle.world_laws.specs.Moves.{losses_of}
use Rattle.net_plays.specs.Asks.{IsBare}
use Rattle.net_plays.proofs.WholeTurns.{whole_loses}

-- a turn that went down behind its steps met no stop in them
no_stop : (armed : Armed) (lines : ℕ) (made : List Made) (became : Became) (fates : List Bool) (until : Option ℕ) → true ≡ goes_anew became → ReadsAs armed lines made became fates until → until ≡ None
no_stop armed lines made Stays fates until e h = absurd cc
no_stop armed lines made (Falls kept choice) fates until e h = absurd cc
no_stop armed lines made Halts fates until e h = absurd cc
no_stop armed lines made (FallsAnew kept choice) fates until e (done, cut, none, free) = free
no_stop armed lines made HaltsAnew fates until e (failing, last, are, free) = free

-- and so it lost nothing before it went down
pub anew_loses : (count : ℕ) (w : World) (armed : Armed) (asked : WorldEvent) (raw : List ℕ) (old new : Seen) (event : WorldEvent) (calls : ℕ)
    → Happened count w armed asked raw old new event true calls → losses_of w event ≡ []
anew_loses count w armed asked raw old new event calls h = by event h.step
  where
    by : (e : WorldEvent) → NetStepRead armed asked e true raw calls old new → losses_of w e ≡ []
    by e (inr rests) = absurd (let never : true ≡ false = rests.stays in cc)
    by (Turn i input fates until) (inl t) =
        ap (λ u. losses_of w (Turn i input fates u)) (no_stop armed t.lines t.took.did.made t.took.did.became fates until t.took.did.down_is t.took.reads.are)
        ∙ whole_loses w i input fates
    by (Ask i request fates until) (inl (stays, t)) = absurd cc
    by (Crash i) (inl (stays, none, t)) = absurd cc
    by (Up i landed stop) (inl (stays, t)) = absurd cc

-- calls none of which is to fail were done

none_is : (before : ℕ) → not (nat_eq (suc before) 0) ≡ true
none_is before = ap not (ne_eqb (suc before) 0 (λ z. absurd (omega (arith, z))))

none_fail : (before : ℕ) (made : List Made) → AreArmed before 0 made → AllDone made
none_fail before [] h = tt
none_fail before (m ∷ ms) h = (h.0 ∙ none_is before, none_fail (suc before) ms h.1)

drop_done : (n : ℕ) (made : List Made) → AllDone made → AllDone (drop n made)
drop_done zero made h = h
drop_done (suc n) [] h = tt
drop_done (suc n) (m ∷ ms) h = drop_done n ms h.1

disk_done : (made : List Made) → AllDone made → AllDone (disk_part made)
disk_done [] h = tt
disk_done (m ∷ ms) h = by (disk_done ms h.1) (is_disk m.call)
  where
    by : AllDone (disk_part ms) → (b : Bool) → AllDone (if b then m ∷ disk_part ms else [])
    by rest true = (h.0, rest)
    by rest false = tt

behind_done : (made : List Made) → AllDone made → AllDone (behind_disk made)
behind_done [] h = tt
behind_done (m ∷ ms) h = by (behind_done ms h.1) (is_disk m.call)
  where
    by : AllDone (behind_disk ms) → (b : Bool) → AllDone (if b then behind_disk ms else m ∷ ms)
    by rest true = rest
    by rest false = h

sent_done : (made : List Made) → AllDone made → AllDone (sent_part made)
sent_done [] h = tt
sent_done (m ∷ ms) h = by (sent_done ms h.1) (is_disk m.call)
  where
    by : AllDone (sent_part ms) → (b : Bool) → AllDone (if b then [] else m ∷ sent_part ms)
    by rest true = tt
    by rest false = (h.0, rest)

are_done : (made : List Made) → AllDone made → all_done made ≡ true
are_done [] h = refl
are_done (m ∷ ms) h = rw h.0 (are_done ms h.1)

-- so no fate of theirs is named

fates_done : (made : List Made) → AllDone made → named (map is_done made) ≡ []
fates_done [] h = refl
fates_done (m ∷ ms) h = rw (h.0, fates_done ms h.1) refl

record_done : (made : List Made) (fates : List Bool) → AllDone made → named fates ≡ [] → named (record_fate made ++ fates) ≡ []
record_done [] fates h none = none
record_done (m ∷ ms) fates h none = rw (are_done (m ∷ ms) h, none) refl

none_named : (lines : ℕ) (made : List Made) → AreArmed 0 0 made → read_fates lines made ≡ []
none_named lines made h =
    let done : AllDone (drop lines made) = drop_done lines made (none_fail 0 made h) in
    record_done (disk_part (drop lines made)) (map is_done (sent_of (drop lines made))) (disk_done (drop lines made) done)
    (fates_done (sent_of (drop lines made)) (sent_done (behind_disk (drop lines made)) (behind_done (drop lines made) done)))

-- what the calls of a turn or a request come to of which none is armed
record IsAsAsked (became : Became) (fates : List Bool) (until : Option ℕ) : Type 0 where
  pub none : fates ≡ []
  pub free : until ≡ None
  pub up : goes_anew became ≡ false

unarmed : (lines : ℕ) (made : List Made) (became : Became) (fates : List Bool) (until : Option ℕ) → AreArmed 0 0 made → ReadsAs arms.No lines made became fates until → IsAsAsked became fates until
unarmed lines made Stays fates until h (uncut, behind, are, free) = record { none = are ∙ none_named lines made h; free = free; up = refl }
unarmed lines made (Falls kept choice) fates until h (done, cut, stops) = absurd (let never = cut.cut.armed_is in cc)
unarmed lines made Halts fates until h (failing, halts, none) = absurd (let never = failing.1 in cc)
unarmed lines made (FallsAnew kept choice) fates until h (done, cut, none, free) = absurd (let never = cut.cut.armed_is in cc)
unarmed lines made HaltsAnew fates until h (failing, last, are, free) = absurd (let never = failing.1 in cc)

unarmed_start : (made : List Made) (result : Result Node StartFault) (became : Became) (landed stop : Bool) → StartsAs arms.No made result became landed stop → (landed ≡ true) × (stop ≡ false)
unarmed_start made result Stays landed stop (came, uncut, lands, goes) = (lands, goes)
unarmed_start made result (Falls kept choice) landed stop (came, done, (k, cut), lands, stops) = absurd (let never = cut.armed_is in cc)
unarmed_start made result Halts landed stop (is, failing, last, lands, stops) = absurd (let never = failing.1 in cc)
unarmed_start made result (FallsAnew kept choice) landed stop h = absurd h
unarmed_start made result HaltsAnew landed stop h = absurd h

told_none : (s : MemSite) (struck : Armed) → IsTold arms.No s struck → struck ≡ arms.No
told_none s struck (inl (is, begun)) = is
told_none s struck (inr (is, none)) = is

-- It is what was asked for, where no call is armed.
pub record IsAsked (asked event : WorldEvent) (down : Bool) : Type 0 where
  pub same : event ≡ asked
  pub stays : down ≡ false

pub bare_is_asked : (count : ℕ) (w : World) (asked : WorldEvent) (raw : List ℕ) (old new : Seen) (event : WorldEvent) (down : Bool) (calls : ℕ)
    → IsBare asked → Happened count w arms.No asked raw old new event down calls → IsAsked asked event down
bare_is_asked count w asked raw old new event down calls bare h = by asked event bare h.of h.step
  where
    by : (a e : WorldEvent) → IsBare a → IsOf a e → NetStepRead arms.No a e down raw calls old new → IsAsked a e down
    by a e bare of (inr rests) = record { same = rests.same; stays = rests.stays }
    by (Turn n given none free) (Turn i input fates until) bare of (inl t) =
        let is = unarmed t.lines t.took.did.made t.took.did.became fates until t.took.reads.failed t.took.reads.are in
        record {
          same = λ j. Turn (of.0 j) (of.1 j) ((is.none ∙ sym bare.0) j) ((is.free ∙ sym bare.1) j);
          stays = t.took.did.down_is ∙ is.up;
        }
    by (Ask n given none free) (Ask i request fates until) bare of (inl (stays, t)) =
        let is = unarmed 0 t.took.did.made t.took.did.became fates until t.took.reads.failed t.took.reads.are in
        record {
          same = λ j. Ask (of.0 j) (of.1 j) ((is.none ∙ sym bare.0) j) ((is.free ∙ sym bare.1) j);
          stays = stays;
        }
    by (Crash n) (Crash i) bare of (inl (stays, none, t)) = record { same = ap Crash of; stays = stays }
    by (Up n landed stop) (Up i lands stops) bare of (inl (stays, t)) =
        let is = unarmed_start t.took.did.made t.took.did.result t.took.did.became lands stops
        (subst (λ a. StartsAs a t.took.did.made t.took.did.result t.took.did.became lands stops) (told_none t.host.site t.struck t.struck_is) t.took.reads) in
        record {
          same = λ j. Up (of j) ((is.0 ∙ sym bare.0) j) ((is.1 ∙ sym bare.1) j);
          stays = stays;
        }
    by (Turn n x y z) (Ask i a b c) bare of (inl t) = absurd of
    by (Turn n x y z) (Crash i) bare of (inl t) = absurd of
    by (Turn n x y z) (Up i a b) bare of (inl t) = absurd of
    by (Ask n x y z) (Turn i a b c) bare of (inl t) = absurd of
    by (Ask n x y z) (Crash i) bare of (inl t) = absurd of
    by (Ask n x y z) (Up i a b) bare of (inl t) = absurd of
    by (Crash n) (Turn i a b c) bare of (inl t) = absurd of
    by (Crash n) (Ask i a b c) bare of (inl t) = absurd of
    by (Crash n) (Up i a b) bare of (inl t) = absurd of
    by (Up n x y) (Turn i a b c) bare of (inl t) = absurd of
    by (Up n x y) (Ask i a b c) bare of (inl t) = absurd of
    by (Up n x y) (Crash i) bare of (inl t) = absurd of
