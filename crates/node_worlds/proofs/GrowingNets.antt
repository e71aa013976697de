-- What nodes that serve came through begins what they came to.
use Rattle.std.specs.Prelude.{ℕ, List, [], ◌∷◌, ◌++◌, ◌≡◌, Some, map, refl}
use Rattle.std.proofs.Common.{inl, inr, sym, subst, ◌∙◌}
use Rattle.std.proofs.lemmas.List.{append-nil}
use Rattle.at_base.specs.declared.outs.Post.{Post}
use Rattle.at_base.specs.declared.record.Record.{Record}
use Rattle.at_model.specs.World.{Accepted, Hosts, happened_at, lost_in}
use Rattle.model_laws.specs.Agreement.{IsIn}
use Rattle.site_model.specs.Told.{Told}
use Rattle.node_at.specs.State.{State}
use Rattle.node_at.specs.TurnText.{TurnStep}
use Rattle.node_worlds.specs.GrowingNets.{Grows, NetsGrow, moments}
use Rattle.node_worlds.specs.Nets.{Net, Place, Runs, after, as_far, broken, posts_from, without}
use Rattle.node_worlds.specs.SentPosts.{accepted_along, recorded}
use Rattle.node_worlds.proofs.Rows.{prefix_then}

-- nothing came
pub grows_none : (u net : Net) → net.posted ≡ u.posted → net.accepted ≡ u.accepted → net.happened ≡ u.happened → Grows u net
grows_none u net e f g = record {
  posted = ([], append-nil u.posted ∙ sym e);
  accepted = ([], append-nil u.accepted ∙ sym f);
  happened = ([], append-nil u.happened ∙ sym g);
}

pub grows_after : (hosts : Hosts) (i : ℕ) (u : Net) (p : Place) (m : State) (rs : List Record) (ps : List Post) (joins : List Accepted) → Grows u (after hosts i u p m rs ps joins)
grows_after hosts i u p m rs ps joins = record { posted = (posts_from hosts i ps, refl); accepted = (joins, refl); happened = (map (happened_at i) m.effects, refl) }

pub grows_without : (i : ℕ) (u : Net) (p : Place) (n : State) → Grows u (without i u p n)
grows_without i u p n = record { posted = ([], append-nil u.posted); accepted = ([], append-nil u.accepted); happened = (lost_in i n.book, refl) }

pub grows_then : (u v w : Net) → Grows u v → Grows v w → Grows u w
grows_then u v w h k = record {
  posted = prefix_then u.posted v.posted w.posted h.posted k.posted;
  accepted = prefix_then u.accepted v.accepted w.accepted h.accepted k.accepted;
  happened = prefix_then u.happened v.happened w.happened h.happened k.happened;
}

pub grows_broken : (hosts : Hosts) (i : ℕ) (u : Net) (p : Place) (n : State) (steps : List TurnStep) (ps : List Post) → Grows u (broken hosts i u p n steps ps)
grows_broken hosts i u p n steps ps =
    let v : Net = after hosts i u p (as_far n steps) (recorded steps) ps (accepted_along hosts i n.book steps) in
    grows_then u v (broken hosts i u p n steps ps) (grows_after hosts i u p (as_far n steps) (recorded steps) ps (accepted_along hosts i n.book steps))
    (grows_without i v (record { node = Some (as_far n steps); records = p.records ++ recorded steps }) (as_far n steps))

module _ {S : Type 0} (told : S → Told) (hosts : Hosts) where
  abbrev Before : Net → List Net → Type 0
  Before net us = (v : Net) → IsIn v us → Runs told hosts v × Grows v net

  one_more : (u net w : Net) (us : List Net) → Runs told hosts u → net ≡ w → Grows u w → Before u us → Before net (u ∷ us)
  one_more u net w us run is grows before v (inl e) = subst (λ z. Runs told hosts z × Grows z net) (sym e) (run, subst (Grows u) (sym is) grows)
  one_more u net w us run is grows before v (inr i) = let (r, g) = before v i in (r, grows_then v u net g (subst (Grows u) (sym is) grows))

  grow : (net : Net) (run : Runs told hosts net) → Before net (moments told hosts net run)
  grow net (Runs.opened is) = λ v i. absurd i
  grow net (Runs.started u i p n limit s t run here down start same is) = one_more u net _ (moments told hosts u run) run is (grows_none u _ refl refl refl) (grow u run)
  grow net (Runs.start_recorded u i p run here down small is) = one_more u net _ (moments told hosts u run) run is (grows_none u _ refl refl refl) (grow u run)
  grow net (Runs.turned u i p n m result role shrunk s t ps run here up turn runs brings sent is) =
      one_more u net _ (moments told hosts u run) run is (grows_after hosts i u p m _ ps _) (grow u run)
  grow net (Runs.asked u i p n m id l s t ps run here up done sent is) = one_more u net _ (moments told hosts u run) run is (grows_after hosts i u p m _ ps _) (grow u run)
  grow net (Runs.cut_off u i p n m result role shrunk s t front rest ds ps run here up turn brings begun sent is) =
      one_more u net _ (moments told hosts u run) run is (grows_broken hosts i u p n front ps) (grow u run)
  grow net (Runs.asked_cut_off u i p n l now step doing ps run here up does sent is) =
      one_more u net _ (moments told hosts u run) run is (grows_broken hosts i u p n (step ∷ []) ps) (grow u run)
  grow net (Runs.idled u i p n run here up is) = one_more u net _ (moments told hosts u run) run is (grows_none u _ refl refl refl) (grow u run)
  grow net (Runs.ended u i p n run here up is) = one_more u net _ (moments told hosts u run) run is (grows_without i u p n) (grow u run)

pub nets_grow : {S : Type 0} (told : S → Told) → NetsGrow told
nets_grow told hosts net run u i = grow told hosts net run u i
