-- Nets of nodes in which all that is held, recorded and posted can be delivered.
use Rattle.std.specs.Prelude.{ℕ, List, Some, IfSome, ◌≡◌}
use Rattle.std.specs.List.{AllByRecursion}
use Rattle.at_model.specs.World.{Hosts, IsNumber, Posted, new_nodes, nth, receiver_of}
use Rattle.deliverables.specs.Bases.{IsNodeBase}
use Rattle.deliverables.specs.Deliverables.{deliverable}
use Rattle.node_at.specs.State.{State}
use Rattle.node_worlds.specs.Nets.{Net, Place, Runs}
use Rattle.provenance.specs.Forms.{Forms, IsBook, IsLocal, IsPost, IsRecord}
use Rattle.site_model.specs.Told.{Told}

-- each node can be reached at its base
abbrev pub AreNodeHosts : Hosts → Type 0
AreNodeHosts hosts = (i : ℕ) → IsNumber hosts i → IsNodeBase (hosts.base_of i)

-- all of a message that was posted has it, and it has the receiver that its address leads to
pub record IsPostedOf (F : Forms) (hosts : Hosts) (p : Posted) : Type 0 where
  pub content : IsPost F p.content
  pub received : p.receiver ≡ receiver_of (new_nodes hosts.base_of hosts.count 1) p.content.to

pub record IsStateOf (F : Forms) (root : List ℕ) (n : State) : Type 0 where
  pub book : IsBook F n.book
  pub base : n.book.base ≡ root

pub record IsPlaceOf (F : Forms) (hosts : Hosts) (i : ℕ) (p : Place) : Type 0 where
  pub number : IsNumber hosts i
  pub records : AllByRecursion (IsRecord F) p.records
  pub node : IfSome p.node (IsStateOf F (hosts.base_of i))

-- all that is held, recorded and posted has what is asked of endpoints and texts
pub record IsNetOf (F : Forms) (hosts : Hosts) (net : Net) : Type 0 where
  pub posted : AllByRecursion (IsPostedOf F hosts) net.posted
  pub places : (i : ℕ) (p : Place) → nth i net.places ≡ Some p → IsPlaceOf F hosts i p

abbrev pub IsDeliverableNet : Hosts → Net → Type 0
IsDeliverableNet hosts net = IsNetOf deliverable hosts net

-- So do the services, keys and values of what the programs of the nodes request.
abbrev pub AsksOf : {S : Type 0} (F : Forms) (told : S → Told) (hosts : Hosts) (net : Net) → Runs told hosts net → Type 0
AsksOf F told hosts net (Runs.opened is) = Unit {0}
AsksOf F told hosts net (Runs.started u i p n limit s t run here down start same is) = AsksOf F told hosts u run
AsksOf F told hosts net (Runs.start_recorded u i p run here down small is) = AsksOf F told hosts u run
AsksOf F told hosts net (Runs.turned u i p n m result role shrunk s t ps run here up turn runs brings sent is) = AsksOf F told hosts u run
AsksOf F told hosts net (Runs.asked u i p n m id l s t ps run here up done sent is) = IsLocal F l × AsksOf F told hosts u run
AsksOf F told hosts net (Runs.cut_off u i p n m result role shrunk s t front rest ds ps run here up turn brings begun sent is) = AsksOf F told hosts u run
AsksOf F told hosts net (Runs.asked_cut_off u i p n l now step doing ps run here up does sent is) = IsLocal F l × AsksOf F told hosts u run
AsksOf F told hosts net (Runs.idled u i p n run here up is) = AsksOf F told hosts u run
AsksOf F told hosts net (Runs.ended u i p n run here up is) = AsksOf F told hosts u run

-- What nodes come to can be delivered, where their programs ask for what can be.
abbrev pub NetsCanDeliver : {S : Type 0} → (S → Told) → Type 0
NetsCanDeliver {S} told = (hosts : Hosts) (net : Net) (run : Runs told hosts net) → AreNodeHosts hosts → AsksOf deliverable told hosts net run → IsDeliverableNet hosts net
