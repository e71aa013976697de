-- What the files of a machine stand for at a moment at which the journal of its node is written anew, behind the steps of a turn.
use Rattle.std.specs.Prelude.{ℕ, List, [], ◌∷◌, ◌++◌, ◌≡◌, ◌⊎◌, take}
use Rattle.std.proofs.Common.{refl, sym, ap, subst, ◌∙◌, inl, inr}
use Rattle.std.proofs.lemmas.List.{append-nil}
use Rattle.at_base.specs.declared.record.Record.{Record}
use Rattle.decision_log.specs.KeptRecords.{GrowsByOne, kept_of}
use Rattle.journal_at.specs.declared.version.Version.TheVariants.{Two}
use Rattle.mirrored_nets.proofs.FallenHosts.{left_at}
use Rattle.node_at.specs.Doings.{Doing, Ran, deeds_of, kept_behind}
use Rattle.node_at.specs.Endings.{Renews}
use Rattle.node_at.specs.ShrunkJournals.{StandForSame, Stays}
use Rattle.node_at.specs.State.{State}
use Rattle.node_at.specs.TurnText.{TurnStep}
use Rattle.node_at.specs.Turns.{calm, line_of}
use Rattle.node_at.specs.declared.shrink.Shrunk.{Shrunk}
use Rattle.node_at.specs.declared.turn.Turned.{Turned}
use Rattle.node_worlds.specs.Acts.{Act, IsUp, acts_of, records_in, spoken}
use Rattle.node_worlds.specs.Machines.{IsLeft}
use Rattle.node_worlds.specs.Restarts.{RestartsOnRecords, StandsFor}
use Rattle.node_worlds.specs.SentPosts.{recorded}
use Rattle.node_worlds.proofs.ActRecords.{AreActs, acts_are, acts_recorded, up_more}
use Rattle.node_worlds.proofs.Crashes.{longer}
use Rattle.node_worlds.proofs.KeptRecords.{kept_row}
use Rattle.record_bytes.specs.Versions.{AreBodies as RecordsAreBodies}
use Rattle.site_memory.specs.Devices.{calls_in, opening_in}
use Rattle.site_memory.specs.Disk.{ChosenAreImages, chosen_files}
use Rattle.site_memory.specs.Sites.{now_only, told_of}
use Rattle.site_memory.specs.declared.arm.Choice.{Choice}
use Rattle.site_memory.specs.declared.machine.MemSite.{MemSite}
use Rattle.site_model.specs.Told.{Between, Files, Made}

-- Behind the steps the node is up with their records.
pub ran_up : RecordsAreBodies → GrowsByOne → (rs : List Record) (n node : State) (c behind : MemSite) → IsUp rs n (told_of c) → (line : List Made) (steps : List TurnStep) (doings : List Doing)
    → Ran (line_of line) steps doings (calm n) node (told_of c) (told_of behind) → IsUp (rs ++ recorded steps) node (told_of behind)
ran_up law grows rs n node c behind up line steps doings r =
    subst (λ z. IsUp (rs ++ z) node (told_of behind)) recorded_are
    (up_more law rs (calm n) node (told_of c) (told_of behind) acts (deeds_of (line_of line ++ doings)) here are (r.does.stands up.holds.bodies up.holds.keeps) (r.sure ∙ up.holds.sure) (r.runs ∙ up.runs)
    (r.kept ∙ ap (λ k. kept_behind k steps) up.kept ∙ kept_row grows steps rs ∙ ap (λ z. kept_of Two (rs ++ z)) (sym recorded_are)))
  where
    acts : List Act
    acts = spoken line ∷ acts_of steps doings

    recorded_are : records_in acts ≡ recorded steps
    recorded_are = acts_recorded n.kept steps doings r.are

    here : IsUp rs (calm n) (told_of c)
    here = record { runs = up.runs; records = up.records; holds = up.holds; same = up.same; kept = up.kept }

    are : AreActs acts (deeds_of (line_of line ++ doings))
    are = ((tt, refl), acts_are n.kept steps doings r.are)

-- Behind some of the calls by which its journal was written anew a crash leaves files that stand for the same records.
module _ (restarts : RestartsOnRecords told_of) (images : ChosenAreImages) (rs : List Record) (n m : State) (behind t : MemSite) (up : IsUp rs n (told_of behind)) (first result : Turned) (shrunk : Shrunk)
    (r : Renews told_of first result shrunk n m behind t) (anew : List Made) (adds : calls_in t.device ≡ calls_in behind.device ++ anew) (k : ℕ) (choice : Choice) where
  abbrev l : List Made
  l = calls_in behind.device ++ take k anew

  abbrev d : Files
  d = chosen_files choice (opening_in t.device) l

  left : IsLeft (told_of behind) (told_of t) l d
  left = left_at images behind t choice anew k adds

  kept : n.kept ≡ kept_of Two up.records
  kept = up.kept ∙ sym (ap (kept_of Two) (sym (append-nil up.records)) ∙ up.same [] ∙ ap (kept_of Two) (append-nil rs))

  stays : Stays up.records m (told_of behind) (told_of t)
  stays = r.stays up.records up.holds kept

  at_first : (told_of behind).past l d → (told_of behind).images d
  at_first past = let (before, after, was, is, within, without) = left.between in (now_only behind l before d was (longer before l within) past).1

  pub stands_anew : StandsFor rs d
  stands_anew = by (stays.time.adds l d left.past)
    where
      by : (told_of behind).past l d ⊎ (Between (told_of behind) (told_of t) l × StandForSame up.records d) → StandsFor rs d
      by (inl past) = restarts.images n behind up.records rs up.holds up.same d (at_first past)
      by (inr (between, (found, stands, same))) = record { version = Two; found = found; stands = stands; same = λ more. same more ∙ up.same more }
