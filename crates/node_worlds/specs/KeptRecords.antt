-- What a node of a net keeps.
use Rattle.std.specs.Prelude.{ℕ, ◌≡◌, Some}
use Rattle.at_model.specs.World.{nth, Hosts}
use Rattle.decision_log.specs.KeptRecords.{kept_of}
use Rattle.journal_at.specs.declared.version.Version.TheVariants.{Two}
use Rattle.site_model.specs.Told.{Told}
use Rattle.node_at.specs.State.{State}
use Rattle.node_worlds.specs.Nets.{Net, Place, Runs}

-- It is what the records of its journal make of a Kept.
abbrev pub NetsKeep : {S : Type 0} → (S → Told) → Type 0
NetsKeep told = (hosts : Hosts) (net : Net) → Runs told hosts net → (i : ℕ) (p : Place) (n : State) → nth i net.places ≡ Some p → p.node ≡ Some n → n.kept ≡ kept_of Two p.records
