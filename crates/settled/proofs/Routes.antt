-- A message that was posted goes to the node that its address leads to.
use Rattle.std.specs.Prelude.{ℕ, List, ◌++◌, Some, None, true, ◌+◌, option_map, ◌≡◌, refl}
use Rattle.std.specs.List.{AllByRecursion}
use Rattle.std.proofs.Common.{sym, subst, ap, ◌∙◌}
use Rattle.at_base.specs.declared.epr.Epr.{Epr}
use Rattle.at_base.specs.declared.outs.Post.{Post}
use Rattle.at_base.specs.declared.target.Target.{Target}
use Rattle.at_model.specs.Recovery.{last_incarnation}
use Rattle.at_model.specs.Step.{plan, step}
use Rattle.at_model.specs.World.{Node, Posted, World, arrival_of, decoded, lost_in, new_nodes, nth, put_book, put_nth, receiver_of, started, up_after, Hosts}
use Rattle.endpoints.specs.Forms.{takes}
use Rattle.model_laws.specs.Agreement.{IsIn}
use Rattle.model_laws.specs.DrawnIds.{with_entry}
use Rattle.model_laws.specs.ReachedWorlds.{Reached, counts}
use Rattle.model_laws.proofs.DecisionLaws.{all_join}
use Rattle.model_laws.proofs.WorldInvariants.{Law, holds}
use Rattle.model_laws.proofs.Addresses.{HaveBases}
use Rattle.model_laws.proofs.Nodes.{bases_put, receiver_same, same_bases}
use Rattle.agreement.proofs.SeatedEntries.{one_of}
use Rattle.enlistments.specs.Leads.{LeadsTo}
use Rattle.enlistments.proofs.Arrivals.{out_unit}
use Rattle.settled.specs.OwedMessages.{Comes}
use Rattle.settled.proofs.CalmSteps.{decodes_there}

abbrev IsRouted : Hosts → Posted → Type 0
IsRouted hosts p = p.receiver ≡ receiver_of (new_nodes hosts.base_of hosts.count 1) p.content.to

record AreRouted (hosts : Hosts) (w : World) : Type 0 where
  bases : HaveBases w.nodes (new_nodes hosts.base_of hosts.count 1)
  routed : AllByRecursion (IsRouted hosts) w.posted

put_routed : (hosts : Hosts) (u w : World) (n : ℕ) (x y : Node) → nth n u.nodes ≡ Some x → y.base ≡ x.base → w.nodes ≡ put_nth n y u.nodes → w.posted ≡ u.posted → AreRouted hosts u → AreRouted hosts w
put_routed hosts u w n x y found base nodes posted h = record {
  bases = subst (λ xs. HaveBases xs (new_nodes hosts.base_of hosts.count 1)) (sym nodes) (bases_put u.nodes (new_nodes hosts.base_of hosts.count 1) n x y found base h.bases);
  routed = subst (AllByRecursion (IsRouted hosts)) (sym posted) h.routed;
}

routing : (hosts : Hosts) → Law hosts
routing hosts = record {
  Good = AreRouted hosts;
  Fine = λ w g n p. Unit {0};
  opens = record { bases = same_bases (new_nodes hosts.base_of hosts.count 1); routed = tt };
  steps = λ u n x b e now landed reached found up heard g. (
    put_routed hosts u (counts u n x b e now landed) n x (record x { book = Some (step b e now landed).book; journal = with_entry (plan b e now).entry landed x.journal }) found refl refl refl g,
    out_unit (step b e now landed).outs,
  );
  posts = λ w g n p f. record {
    bases = g.bases;
    routed = all_join (IsRouted hosts) w.posted _ g.routed (receiver_same w.nodes (new_nodes hosts.base_of hosts.count 1) p.to g.bases, tt);
  };
  still_fine = λ w g n p q f h. tt;
  falls = λ u n x b reached found up g.
      subst (AreRouted hosts) (sym (ap (put_book n None (record u { happened = u.happened ++ lost_in n b })) found))
      (put_routed hosts u (record u { nodes = put_nth n (record x { book = None }) u.nodes; happened = u.happened ++ lost_in n b }) n x (record x { book = None }) found refl refl refl g);
  rises = λ u n x stop reached found down little g.
      put_routed hosts u (record u { nodes = put_nth n (up_after (started (last_incarnation x.journal + 1) x) stop) u.nodes }) n x (up_after (started (last_incarnation x.journal + 1) x) stop)
      found refl refl refl g;
  waits = λ u n x clock reached found g.
      put_routed hosts u (record u { nodes = put_nth n (record x { clock = clock }) u.nodes }) n x (record x { clock = clock }) found refl refl refl g;
}

pub routed : (hosts : Hosts) (w : World) → Reached hosts w → (q : Posted) → IsIn q w.posted → q.receiver ≡ receiver_of (new_nodes hosts.base_of hosts.count 1) q.content.to
unfolding routing
routed hosts w reached q i = one_of (IsRouted hosts) w.posted q (holds hosts (routing hosts) w reached).routed i

-- so it comes to where it leads
pub posted_comes : (hosts : Hosts) (w : World) → Reached hosts w → (queue : List Posted) (n : ℕ) (q : Posted) (p : Post) (to : Epr) (T : Target) → IsIn q w.posted → IsIn q queue → q.content ≡ p
    → p.to ≡ Some to → LeadsTo hosts to n T → takes T p.message ≡ true → Comes hosts queue n (λ a. a ≡ arrival_of T p)
posted_comes hosts w reached queue n q p to T i waits is goes leads taken = record {
  posted = q;
  waits = waits;
  receiver = routed hosts w reached q i ∙ ap (receiver_of (new_nodes hosts.base_of hosts.count 1)) (ap (λ (y : Post). y.to) is ∙ goes) ∙ ap (option_map (λ z. z.0)) leads;
  arrived = arrival_of T p;
  decodes = subst (λ (y : Post). decoded (hosts.base_of n) y ≡ Some (arrival_of T p)) (sym is) (decodes_there hosts n p to T goes leads taken);
  says = refl;
}
