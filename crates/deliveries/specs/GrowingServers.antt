-- What nodes on machines came through, over a network that carries bytes.
use Rattle.std.specs.Prelude.{ℕ, List, [], ◌∷◌}
use Rattle.at_model.specs.World.{Hosts}
use Rattle.model_laws.specs.Agreement.{IsIn}
use Rattle.site_model.specs.Told.{Told}
use Rattle.node_worlds.specs.GrowingNets.{Grows}
use Rattle.node_worlds.specs.Nets.{Net}
use Rattle.deliveries.specs.ByteNets.{Serves}

-- the nets that they were before each call, the last one first
abbrev pub moments : {S : Type 0} (told : S → Told) (hosts : Hosts) (net : Net) (ms : ℕ → S) → Serves told hosts net ms → List Net
moments told hosts net ms (Serves.opened is on) = []
moments told hosts net ms (Serves.waited ls serves left) = moments told hosts net ls serves
moments told hosts net ms (Serves.started u ls i p n limit t f serves here down files start goes is) = u ∷ moments told hosts u ls serves
moments told hosts net ms (Serves.start_cut_off u ls i p limit t s l c f serves here down files begins crashes stands is) = u ∷ moments told hosts u ls serves
moments told hosts net ms (Serves.start_recorded u ls i p limit t s l c f serves here down files begins crashes small stands is) = u ∷ moments told hosts u ls serves
moments told hosts net ms (Serves.turned u ls i p n m result role shrunk t ps serves here up turn runs carries sent goes is) = u ∷ moments told hosts u ls serves
moments told hosts net ms (Serves.asked u ls i p n m id l t ps serves here up local done sent goes is) = u ∷ moments told hosts u ls serves
moments told hosts net ms (Serves.cut_off u ls i p n m result role shrunk t s l c front rest ds ps serves here up turn carries crashes begun sent stands is) = u ∷ moments told hosts u ls serves
moments told hosts net ms (Serves.asked_cut_off u ls i p n m answer l t s made c now step doing ps serves here up local asks crashes does sent stands is) = u ∷ moments told hosts u ls serves
moments told hosts net ms (Serves.asked_undone u ls i p n m answer l t s made c serves here up asks crashes stands is) = u ∷ moments told hosts u ls serves
moments told hosts net ms (Serves.idled u i p n serves here up is) = u ∷ moments told hosts u ms serves
moments told hosts net ms (Serves.ended u i p n serves here up is) = u ∷ moments told hosts u ms serves
moments told hosts net ms (Serves.crashed ls i s p c serves here down image on goes) = moments told hosts net ls serves

-- Such nodes came to each of them too, on some machines; and nothing that was posted or accepted or that happened is ever undone.
abbrev pub ServersGrow : {S : Type 0} → (S → Told) → Type 0
ServersGrow {S} told =
    (hosts : Hosts) (net : Net) (ms : ℕ → S) (serves : Serves told hosts net ms) (u : Net) → IsIn u (moments told hosts net ms serves)
    → ((ls : ℕ → S) × Serves told hosts u ls) × Grows u net
