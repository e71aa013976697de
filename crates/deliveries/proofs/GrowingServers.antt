-- What nodes on machines came through begins what they came to.
use Rattle.std.specs.Prelude.{ℕ, List, [], ◌∷◌, ◌≡◌, refl}
use Rattle.std.proofs.Common.{inl, inr, sym, subst}
use Rattle.at_model.specs.World.{Hosts}
use Rattle.model_laws.specs.Agreement.{IsIn}
use Rattle.site_model.specs.Told.{Told}
use Rattle.node_worlds.specs.GrowingNets.{Grows}
use Rattle.node_worlds.specs.Nets.{Net}
use Rattle.node_worlds.proofs.GrowingNets.{grows_after, grows_broken, grows_none, grows_then, grows_without}
use Rattle.deliveries.specs.ByteNets.{Serves}
use Rattle.deliveries.specs.GrowingServers.{ServersGrow, moments}

module _ {S : Type 0} (told : S → Told) (hosts : Hosts) where
  abbrev Before : Net → List Net → Type 0
  Before net us = (v : Net) → IsIn v us → ((ls : ℕ → S) × Serves told hosts v ls) × Grows v net

  one_more : (u net w : Net) (ls : ℕ → S) (us : List Net) → Serves told hosts u ls → net ≡ w → Grows u w → Before u us → Before net (u ∷ us)
  one_more u net w ls us serves is grows before v (inl e) =
      subst (λ z. ((ks : ℕ → S) × Serves told hosts z ks) × Grows z net) (sym e) ((ls, serves), subst (Grows u) (sym is) grows)
  one_more u net w ls us serves is grows before v (inr i) = let (r, g) = before v i in (r, grows_then v u net g (subst (Grows u) (sym is) grows))

  grow : (net : Net) (ms : ℕ → S) (serves : Serves told hosts net ms) → Before net (moments told hosts net ms serves)
  grow net ms (Serves.opened is on) = λ v i. absurd i
  grow net ms (Serves.waited ls serves left) = grow net ls serves
  grow net ms (Serves.started u ls i p n limit t f serves here down files start goes is) =
      one_more u net _ ls (moments told hosts u ls serves) serves is (grows_none u _ refl refl refl) (grow u ls serves)
  grow net ms (Serves.start_cut_off u ls i p limit t s l c f serves here down files begins crashes stands is) =
      one_more u net u ls (moments told hosts u ls serves) serves is (grows_none u u refl refl refl) (grow u ls serves)
  grow net ms (Serves.start_recorded u ls i p limit t s l c f serves here down files begins crashes small stands is) =
      one_more u net _ ls (moments told hosts u ls serves) serves is (grows_none u _ refl refl refl) (grow u ls serves)
  grow net ms (Serves.turned u ls i p n m result role shrunk t ps serves here up turn runs carries sent goes is) =
      one_more u net _ ls (moments told hosts u ls serves) serves is (grows_after hosts i u p m _ ps _) (grow u ls serves)
  grow net ms (Serves.asked u ls i p n m id l t ps serves here up local done sent goes is) =
      one_more u net _ ls (moments told hosts u ls serves) serves is (grows_after hosts i u p m _ ps _) (grow u ls serves)
  grow net ms (Serves.cut_off u ls i p n m result role shrunk t s l c front rest ds ps serves here up turn carries crashes begun sent stands is) =
      one_more u net _ ls (moments told hosts u ls serves) serves is (grows_broken hosts i u p n front ps) (grow u ls serves)
  grow net ms (Serves.asked_cut_off u ls i p n m answer l t s made c now step doing ps serves here up local asks crashes does sent stands is) =
      one_more u net _ ls (moments told hosts u ls serves) serves is (grows_broken hosts i u p n (step ∷ []) ps) (grow u ls serves)
  grow net ms (Serves.asked_undone u ls i p n m answer l t s made c serves here up asks crashes stands is) =
      one_more u net _ ls (moments told hosts u ls serves) serves is (grows_without i u p n) (grow u ls serves)
  grow net ms (Serves.idled u i p n serves here up is) =
      one_more u net _ ms (moments told hosts u ms serves) serves is (grows_none u _ refl refl refl) (grow u ms serves)
  grow net ms (Serves.ended u i p n serves here up is) = one_more u net _ ms (moments told hosts u ms serves) serves is (grows_without i u p n) (grow u ms serves)
  grow net ms (Serves.crashed ls i s p c serves here down image on goes) = grow net ls serves

pub servers_grow : {S : Type 0} (told : S → Told) → ServersGrow told
servers_grow told hosts net ms serves u i = grow told hosts net ms serves u i
