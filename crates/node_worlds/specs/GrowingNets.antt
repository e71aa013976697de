-- What nodes that serve came through.
use Rattle.std.specs.Prelude.{List, [], ◌∷◌}
use Rattle.at_model.specs.World.{Hosts}
use Rattle.model_laws.specs.Agreement.{IsIn}
use Rattle.site_model.specs.Told.{IsPrefix, Told}
use Rattle.node_worlds.specs.Nets.{Net, Runs}

-- What was posted, what was accepted and what happened stays, and more may come behind it: the world that the one net shows is an earlier
-- moment of the world that the other shows.
pub record Grows (u net : Net) : Type 0 where
  pub posted : IsPrefix u.posted net.posted
  pub accepted : IsPrefix u.accepted net.accepted
  pub happened : IsPrefix u.happened net.happened

-- the nets that they were before each call, the last one first
abbrev pub moments : {S : Type 0} (told : S → Told) (hosts : Hosts) (net : Net) → Runs told hosts net → List Net
moments told hosts net (Runs.opened is) = []
moments told hosts net (Runs.started u i p n limit s t run here down start same is) = u ∷ moments told hosts u run
moments told hosts net (Runs.start_recorded u i p run here down small is) = u ∷ moments told hosts u run
moments told hosts net (Runs.turned u i p n m result role shrunk s t ps run here up turn runs brings sent is) = u ∷ moments told hosts u run
moments told hosts net (Runs.asked u i p n m id l s t ps run here up done sent is) = u ∷ moments told hosts u run
moments told hosts net (Runs.cut_off u i p n m result role shrunk s t front rest ds ps run here up turn brings begun sent is) = u ∷ moments told hosts u run
moments told hosts net (Runs.asked_cut_off u i p n l now step doing ps run here up does sent is) = u ∷ moments told hosts u run
moments told hosts net (Runs.idled u i p n run here up is) = u ∷ moments told hosts u run
moments told hosts net (Runs.ended u i p n run here up is) = u ∷ moments told hosts u run

-- Nothing that was posted or accepted or that happened is ever undone.
abbrev pub NetsGrow : {S : Type 0} → (S → Told) → Type 0
NetsGrow told = (hosts : Hosts) (net : Net) (run : Runs told hosts net) (u : Net) → IsIn u (moments told hosts net run) → Runs told hosts u × Grows u net
