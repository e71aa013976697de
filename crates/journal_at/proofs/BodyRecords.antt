-- What holds bodies stands for their records.
use Rattle.std.proofs.Common.{ℕ, List, ◌∷◌, ◌≡◌, ◌<◌, inr, refl, ap}
use Rattle.site_model.specs.Told.{Told, Files, Is}
use Rattle.journal_at.specs.declared.journal.Journal.{Journal}
use Rattle.journal_at.specs.declared.version.Version.TheVariants.{Two}
use Rattle.journal_at.specs.Format.{AreListed, head_of, mark_body, marked, records_of, without}
use Rattle.journal_at.specs.Pairs.{FilesOf, Holds}
use Rattle.journal_at.specs.StandingBodies.{Keeps}
use Rattle.journal_at.proofs.FileSwitches.{mark_is}

pub holds_files : (live : ℕ) (bodies : List (List ℕ)) (c : Files) → AreListed bodies → Holds live bodies c → FilesOf c (head_of bodies).version (records_of bodies)
holds_files live bodies c l h =
    record {
      live = live;
      bodies = bodies;
      others = h.beside.others;
      is = record { listed = l; is = inr h.closed };
      other = h.beside.is;
      newer = h.beside.newer;
      journal = h.journal;
      versions = refl;
      all = refl;
    }

pub keeps_files : (journal : Journal) (bodies : List (List ℕ)) (s : Told) → Keeps journal bodies s → (f : Files) → Is s.files f → FilesOf f (head_of bodies).version (records_of bodies)
keeps_files journal bodies s k f is = holds_files journal.live bodies f k.stands.listed (k.stands.files f is)

-- whatever a crash leaves
pub keeps_images : (journal : Journal) (bodies : List (List ℕ)) (s : Told) → Keeps journal bodies s → (c : Files) → s.images c → FilesOf c (head_of bodies).version (records_of bodies)
keeps_images journal bodies s k c im = holds_files journal.live bodies c k.stands.listed (k.stands.images c im)

-- what a compaction writes is of version 2, and its records are the bodies
pub compacted_version : (g : ℕ) (texts : List (List ℕ)) → g < 4294967296 → (head_of (mark_body g ∷ texts)).version ≡ Two
compacted_version g texts l = ap (λ m. (marked m).version) (mark_is g l)

pub compacted_records : (g : ℕ) (texts : List (List ℕ)) → g < 4294967296 → records_of (mark_body g ∷ texts) ≡ texts
compacted_records g texts l = ap (λ m. without m (mark_body g) texts) (mark_is g l)
