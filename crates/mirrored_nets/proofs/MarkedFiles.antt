-- The files of a node that is down are of version 2, but where its journal has no record.
use Rattle.std.specs.Prelude.{ℕ, List, [], ◌∷◌, ◌++◌, ◌+◌, ◌≡◌, ◌⊎◌, max}
use Rattle.std.proofs.Common.{refl, sym, subst, arith, ◌∙◌, inl, inr}
use Rattle.at_base.specs.declared.record.Record.{Record}
use Rattle.at_model.specs.Recovery.{last_incarnation}
use Rattle.decision_log.specs.ShrunkJournals.{ShrinksTheSame}
use Rattle.journal_at.specs.Loads.{Lasts}
use Rattle.journal_at.specs.declared.version.Version.{Version}
use Rattle.journal_at.specs.declared.version.Version.TheVariants.{One, Two}
use Rattle.memory_net.proofs.Standing.{same_some}
use Rattle.node_at.specs.Starts.{Found, OnTheWay, StandFor, carried, start_after}
use Rattle.node_at.specs.State.{State}
use Rattle.node_worlds.specs.Acts.{Act, IsPrefixDone, IsUp}
use Rattle.node_worlds.specs.Machines.{Begins, IsLeft, IsOn}
use Rattle.node_worlds.specs.Restarts.{StandsFor}
use Rattle.node_worlds.proofs.Crashes.{longer, up_same}
use Rattle.node_worlds.proofs.NetWorlds.{carried_last, same_last}
use Rattle.node_worlds.proofs.Restarts.{restarts}
use Rattle.record_bytes.specs.Versions.{AreApart}
use Rattle.site_memory.specs.Devices.{calls_in, opening_in}
use Rattle.site_memory.specs.Disk.{ChosenAreImages, Image}
use Rattle.site_memory.specs.Sites.{now_only, told_of}
use Rattle.site_memory.specs.Tells.{reads}
use Rattle.site_memory.specs.declared.arm.Choice.TheVariants.{Keep}
use Rattle.site_memory.specs.declared.machine.MemSite.{MemSite}
use Rattle.site_model.specs.Told.{Between, Elapses, Files, Made}
use Rattle.mirrored_nets.specs.Mirrors.{AreOfTwo, IsOfTwo}
use Rattle.mirrored_nets.proofs.OneStanding.{found_one, version_one}

-- no record stands in empty files
pub empty_stands : StandFor One [] (record { first = []; second = [] })
empty_stands = record {
  texts = [];
  is = record {
    live = 0;
    bodies = [];
    others = [];
    is = record { listed = record { sized = tt; placed = tt }; is = inl (omega arith, refl) };
    other = record { listed = record { sized = tt; placed = tt }; is = inl (omega arith, refl) };
    newer = omega arith;
    journal = record { first = omega arith; second = omega arith };
    versions = refl;
    all = refl;
  };
  are = tt;
}

-- a machine that came up on such files
pub on_two : (rs : List Record) (c : Files) (s : MemSite) → IsOn c (told_of s) → IsOfTwo rs c → AreOfTwo rs s
on_two rs c s on h d im = subst (IsOfTwo rs) (sym (on.images d im)) h

-- one with the same files and calls
pub same_two : (rs : List Record) (s t : MemSite) → opening_in t.device ≡ opening_in s.device → calls_in t.device ≡ calls_in s.device → AreOfTwo rs s → AreOfTwo rs t
same_two rs s t e f h c im = h c (subst (λ l. Image (opening_in s.device) l c) f (subst (λ o. Image o (calls_in t.device) c) e im))

-- one whose node was up
pub up_two : (rs qs : List Record) (n : State) (s : MemSite) → IsUp rs n (told_of s) → (c : Files) → (told_of s).images c → IsOfTwo qs c
up_two rs qs n s up c im = let (ps, stands, same) = up_same rs n (told_of s) c up im in inl (ps, stands)

-- at a moment of a call
module _ (s t : MemSite) (l : List Made) (c : Files) (left : IsLeft (told_of s) (told_of t) l c) where
  -- or before it
  at_first : (told_of s).past l c → (told_of s).images c
  at_first past =
      let (before, after, was, is, within, without) = left.between in
      (now_only s l before c was (longer before l within) past).1

  -- of a node that was up
  pub done_two : (rs qs : List Record) (n : State) (acts : List Act) → IsUp rs n (told_of s) → Elapses (told_of s) (told_of t) (IsPrefixDone rs acts (told_of s) (told_of t)) → IsOfTwo qs c
  done_two rs qs n acts up time = by (time.adds l c left.past)
    where
      by : (told_of s).past l c ⊎ IsPrefixDone rs acts (told_of s) (told_of t) l c → IsOfTwo qs c
      by (inl past) = up_two rs qs n s up c (at_first past)
      by (inr (between, (before, was, so_far))) = let (ps, stands, same) = so_far.stands in inl (ps, stands)

  module _ (apart : AreApart) (images : ChosenAreImages) (rs : List Record) (all : AreOfTwo rs s) where
    way_two : (version : Version) (qs : List Record) → Found version qs (told_of s) → OnTheWay version qs c → IsOfTwo rs c
    way_two version qs found way = by (all f (images Keep (opening_in s.device) (calls_in s.device)))
      where
        f : Files
        f = reads (opening_in s.device) (calls_in s.device)

        of_two : OnTheWay Two qs c → IsOfTwo rs c
        of_two (inl h) = inl (qs, h)
        of_two (inr (inl h)) = inl (_, h)
        of_two (inr (inr h)) = inl (_, h)

        of_one : rs ≡ [] → OnTheWay One [] c → IsOfTwo rs c
        of_one none (inl h) = inr (none, h)
        of_one none (inr (inl h)) = inl (_, h)
        of_one none (inr (inr h)) = inl (_, h)

        by : IsOfTwo rs f → IsOfTwo rs c
        by (inl (ps, h)) = of_two (subst (λ v. OnTheWay v qs c) (version_one f version Two qs ps (found.is f refl) h) way)
        by (inr (none, h)) =
            of_one none
            (subst (λ v. OnTheWay v [] c) (version_one f version One qs [] (found.is f refl) h)
            (subst (λ z. OnTheWay version z c) (found_one apart f version One qs [] (found.is f refl) h) way))

    lasts_two : Lasts (told_of s) c → IsOfTwo rs c
    lasts_two (inl im) = all c im
    lasts_two (inr (f, is, alike)) = by (all f (subst (λ g. (told_of s).images g) (same_some _ f is) (images Keep (opening_in s.device) (calls_in s.device))))
      where
        by : IsOfTwo rs f → IsOfTwo rs c
        by (inl (qs, h)) = inl (qs, record { texts = h.texts; is = alike Two h.texts h.is; are = h.are })
        by (inr (none, h)) = inr (none, record { texts = h.texts; is = alike One h.texts h.is; are = h.are })

    -- of a start
    pub start_two : (base : List ℕ) (limit : ℕ) → Begins base limit (told_of s) (told_of t) → IsOfTwo rs c
    start_two base limit (inl (n, start)) = by (start.time.adds l c left.past)
      where
        by : (told_of s).past l c ⊎ (Between (told_of s) (told_of t) l × ((told_of s).images c ⊎ OnTheWay start.version start.rs c)) → IsOfTwo rs c
        by (inl past) = all c (at_first past)
        by (inr (between, inl im)) = all c im
        by (inr (between, inr way)) = way_two start.version start.rs start.was.found way
    start_two base limit (inr (e, cannot)) = by (cannot.time.adds l c left.past)
      where
        by : (told_of s).past l c ⊎ (Between (told_of s) (told_of t) l × (Lasts (told_of s) c ⊎ ((version : Version) × (qs : List Record) × Found version qs (told_of s) × OnTheWay version qs c))) → IsOfTwo rs c
        by (inl past) = all c (at_first past)
        by (inr (between, inl lasts)) = lasts_two lasts
        by (inr (between, inr (version, qs, found, way))) = way_two version qs found way

-- where a Start stands, they are of version 2
pub recorded_two : AreApart → ShrinksTheSame → ((rs : List Record) → last_incarnation (rs ++ start_after rs ∷ []) ≡ max (last_incarnation rs + 1) (last_incarnation rs)) → (rs : List Record) (c : Files)
    → StandsFor (rs ++ start_after rs ∷ []) c → IsOfTwo rs c → IsOfTwo (rs ++ start_after rs ∷ []) c
recorded_two apart shrinks high rs c stands (inl h) = inl h
recorded_two apart shrinks high rs c stands (inr (none, h)) =
    let same = restarts apart c One [] (rs ++ start_after rs ∷ []) h stands in
    let last : 0 ≡ last_incarnation (rs ++ start_after rs ∷ []) = sym (carried_last shrinks One []) ∙ same_last (carried One []) (rs ++ start_after rs ∷ []) same in
    let more = high rs in
    absurd (omega (arith, last, more))
