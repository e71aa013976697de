-- Over a network that carries bytes, nodes are nets.
use Rattle.std.specs.Prelude.{ℕ, [], ◌∷◌, ◌++◌, ◌≡◌, ◌⊎◌, Some, None}
use Rattle.std.proofs.Common.{inl, inr, refl, sym, subst, ◌∙◌}
use Rattle.at_base.specs.declared.event.Arrived.{Arrived}
use Rattle.at_base.specs.declared.event.Event.TheVariants as events
use Rattle.at_model.specs.Step.{plan}
use Rattle.at_model.specs.World.{Hosts, IsNumber, nth}
use Rattle.decision_log.specs.ShrunkJournals.{ShrinksTheSame}
use Rattle.deliverables.specs.Deliverables.{NodesOwnIsDeliverable, deliverable}
use Rattle.endpoints.specs.Addresses.{PathsNameTargets}
use Rattle.interposition.specs.Due.{WalksTheDue}
use Rattle.model_laws.specs.Compactions.{RecoversTheCompacted}
use Rattle.model_laws.specs.Laws.{IncarnationsRise, StepsKeepPlace}
use Rattle.node_at.specs.Meanings.{Means}
use Rattle.node_at.specs.Meanings.Meaning.{Steps}
use Rattle.node_at.specs.Starts.{start_after}
use Rattle.node_at.specs.State.{State}
use Rattle.node_at.specs.Steps.{if_landed}
use Rattle.node_at.specs.declared.role.Role.{Role}
use Rattle.node_worlds.specs.KeptRecords.{NetsKeep}
use Rattle.node_worlds.specs.Machines.{MachinesAgree, RunsOn, RunsOnMachines}
use Rattle.node_worlds.specs.Nets.{Brings, IsOpened, IsPostedTo, Net, Place, as_far, steps_in, with_started, without}
use Rattle.node_worlds.specs.SentPosts.{recorded, records_by}
use Rattle.node_worlds.proofs.NetWorlds.{not_halted}
use Rattle.node_worlds.proofs.Places.{nth_this}
use Rattle.provenance.specs.Forms.{HaveOwn}
use Rattle.provenance.specs.Provenance.{RecoveryPassesOn, StepsPassOn}
use Rattle.site_model.specs.Told.{Told}
use Rattle.deliveries.specs.ByteNets.{AreNets, Carries, IsNoMessage, ServeAsNets, Serves, ServersAgree}
use Rattle.deliveries.specs.DeliverableNets.{AreNodeHosts, IsDeliverableNet}
use Rattle.deliveries.specs.Deliveries.{IsCarried, PostsBring}
use Rattle.deliveries.proofs.NetForms.{after_net, asked_gives, broken_net, delivered, ends_book, fits, opens, put_place, recorded_place, started_place, state_of, turn_front, turn_gives}
use Rattle.deliveries.proofs.TurnForms.{Gives, one_gives, step_gives}

module _ (own : NodesOwnIsDeliverable) (pass : StepsPassOn deliverable) (again : RecoveryPassesOn deliverable) (paths : PathsNameTargets) (place : StepsKeepPlace) (law : WalksTheDue)
    (compacts : RecoversTheCompacted) (shrinks : ShrinksTheSame) (rises : IncarnationsRise) (bring : PostsBring) (hosts : Hosts) (are : AreNodeHosts hosts) where
  owns : (i : ℕ) → IsNumber hosts i → HaveOwn deliverable (hosts.base_of i)
  owns i number = own (hosts.base_of i) (are i number)

  brings : (net : Net) (i : ℕ) (role : Role) (s : Told) → IsDeliverableNet hosts net → Carries hosts net i role s → Brings hosts net i role s
  brings net i role s fit c = record { input = c.input; tells = c.tells; posted = λ a means. by a means c.carried }
    where
      by : (a : Arrived) → Means role c.input (Steps (events.Arrived a)) → IsCarried hosts net i c.input ⊎ IsNoMessage role c.input → IsPostedTo hosts net i a
      by a means (inl carried) = bring hosts net i role c.input a are fit carried means
      by a means (inr none) = absurd (none a means)

  module _ {S : Type 0} (told : S → Told) (machines : RunsOnMachines told) (keep : NetsKeep told) where
    gone : (u : Net) (i : ℕ) (p : Place) (n : State) → nth i u.places ≡ Some p → IsDeliverableNet hosts u → IsDeliverableNet hosts (without i u p n)
    gone u i p n here h = record {
      posted = h.posted;
      places = put_place deliverable hosts u.places i p (record { node = None; records = p.records }) here h.places (record {
        number = (h.places i p here).number;
        records = (h.places i p here).records;
        node = tt;
      });
    }

    net_as : (v w : Net) (ms : ℕ → S) → w ≡ v → RunsOn told hosts v ms → IsDeliverableNet hosts v → AreNets told hosts w ms
    net_as v w ms is runs fit = subst (λ z. AreNets told hosts z ms) (sym is) (record { runs = runs; deliverable = fit })

    nets : (net : Net) (ms : ℕ → S) → Serves told hosts net ms → AreNets told hosts net ms
    nets net ms (Serves.opened is on) = record { runs = RunsOn.opened is on; deliverable = subst (IsDeliverableNet hosts) (sym is) (record { posted = tt; places = opens deliverable hosts }) }
    nets net ms (Serves.waited ls serves left) = let h = nets net ls serves in record { runs = RunsOn.waited ls h.runs left; deliverable = h.deliverable }
    nets net ms (Serves.started u ls i p n limit t f serves here down files start goes is) =
        let h = nets u ls serves in
        let this = h.deliverable.places i p here in
        let q : Place = record { node = Some n; records = p.records ++ start_after p.records ∷ [] } in
        let runs : RunsOn told hosts (with_started i u p n) ms = RunsOn.started u ls i p n limit t f h.runs here down files start goes refl in
        let kept = keep hosts (with_started i u p n) (machines hosts (with_started i u p n) ms runs) i q n (nth_this u.places i p q here) refl in
        net_as (with_started i u p n) net ms is runs (record {
          posted = h.deliverable.posted;
          places = put_place deliverable hosts u.places i p q here h.deliverable.places
              (started_place deliverable pass again paths place law compacts shrinks rises hosts owns i this.number p n limit (told (ls i)) (told t) this start (sym kept ∙ start.kept));
        })
    nets net ms (Serves.start_cut_off u ls i p limit t s l c f serves here down files begins crashes stands is) =
        let h = nets u ls serves in
        net_as u net ms is (RunsOn.start_cut_off u ls i p limit t s l c f h.runs here down files begins crashes stands refl) h.deliverable
    nets net ms (Serves.start_recorded u ls i p limit t s l c f serves here down files begins crashes small stands is) =
        let h = nets u ls serves in
        let this = h.deliverable.places i p here in
        record {
          runs = RunsOn.start_recorded u ls i p limit t s l c f h.runs here down files begins crashes small stands is;
          deliverable = subst (IsDeliverableNet hosts) (sym is) (record {
            posted = h.deliverable.posted;
            places = put_place deliverable hosts u.places i p (record { node = None; records = p.records ++ start_after p.records ∷ [] }) here h.deliverable.places
                (recorded_place deliverable pass again paths place law compacts shrinks rises hosts owns i this.number p this);
          });
        }
    nets net ms (Serves.turned u ls i p n m result role shrunk t ps serves here up turn runs carries sent goes is) =
        let h = nets u ls serves in
        let this = h.deliverable.places i p here in
        let old = told (ls i) in
        let brought : IsOpened turn.first → Brings hosts u i role old = λ opened. brings u i role old h.deliverable (carries opened) in
        let steps = steps_in turn.first role n turn.node old (told turn.behind) turn.steps in
        let g = turn_gives deliverable pass again paths place law compacts shrinks rises hosts owns i this.number turn.first role n turn.node old (told turn.behind) ps
        (fits deliverable pass again paths place law compacts shrinks rises hosts owns i p n this up) turn.steps
        (not_halted told turn.first result shrunk turn.node m turn.behind t turn.ends runs)
        (λ meaning opened hears fit. delivered deliverable pass again paths place law compacts shrinks rises hosts owns u i role old meaning h.deliverable.posted (brought opened) hears fit) sent in
        let (posted, places) = after_net deliverable pass again paths place law compacts shrinks rises hosts owns u i p m (recorded steps) ps here h.deliverable
        (subst (λ b. Gives deliverable (hosts.base_of i) b (recorded steps) ps) (sym (ends_book told turn.first result shrunk turn.node m turn.behind t turn.ends)) g) in
        record {
          runs = RunsOn.turned u ls i p n m result role shrunk t ps h.runs here up turn runs brought sent goes is;
          deliverable = subst (IsDeliverableNet hosts) (sym is) (record { posted = posted; places = places });
        }
    nets net ms (Serves.asked u ls i p n m id l t ps serves here up local done sent goes is) =
        let h = nets u ls serves in
        let this = h.deliverable.places i p here in
        let g = asked_gives deliverable pass again paths place law compacts shrinks rises hosts owns i this.number n m l done.3.0 done.3.1 (told (ls i)) (told t) ps
        (fits deliverable pass again paths place law compacts shrinks rises hosts owns i p n this up) local done.3.3 sent in
        let (posted, places) = after_net deliverable pass again paths place law compacts shrinks rises hosts owns u i p m
        (records_by (if_landed done.3.3.landed (plan n.book (events.Local l) done.3.0).entry)) ps here h.deliverable g in
        record {
          runs = RunsOn.asked u ls i p n m id l t ps h.runs here up done sent goes is;
          deliverable = subst (IsDeliverableNet hosts) (sym is) (record { posted = posted; places = places });
        }
    nets net ms (Serves.cut_off u ls i p n m result role shrunk t s l c front rest ds ps serves here up turn carries crashes begun sent stands is) =
        let h = nets u ls serves in
        let this = h.deliverable.places i p here in
        let old = told (ls i) in
        let brought : IsOpened turn.first → Brings hosts u i role old = λ opened. brings u i role old h.deliverable (carries opened) in
        let g = turn_front deliverable pass again paths place law compacts shrinks rises hosts owns i this.number turn.first role n turn.node old (told turn.behind) front rest ds ps
        (fits deliverable pass again paths place law compacts shrinks rises hosts owns i p n this up) turn.steps
        (λ meaning opened hears fit. delivered deliverable pass again paths place law compacts shrinks rises hosts owns u i role old meaning h.deliverable.posted (brought opened) hears fit) begun sent in
        let (posted, places) = broken_net deliverable pass again paths place law compacts shrinks rises hosts owns u i p (record { node = Some (as_far n front); records = p.records ++ recorded front })
        (recorded front) ps here h.deliverable g.records g.posts in
        record {
          runs = RunsOn.cut_off u ls i p n m result role shrunk t s l c front rest ds ps h.runs here up turn brought crashes begun sent stands is;
          deliverable = subst (IsDeliverableNet hosts) (sym is) (record { posted = posted; places = places });
        }
    nets net ms (Serves.asked_cut_off u ls i p n m answer l t s made c now step doing ps serves here up local asks crashes does sent stands is) =
        let h = nets u ls serves in
        let this = h.deliverable.places i p here in
        let g = one_gives deliverable (hosts.base_of i) pass place law (owns i this.number) n.book step ps
        (step_gives deliverable (hosts.base_of i) pass place law (owns i this.number) n.book (events.Local l) now step doing ps
        (fits deliverable pass again paths place law compacts shrinks rises hosts owns i p n this up) local does sent) in
        let (posted, places) = broken_net deliverable pass again paths place law compacts shrinks rises hosts owns u i p
        (record { node = Some (as_far n (step ∷ [])); records = p.records ++ recorded (step ∷ []) }) (recorded (step ∷ [])) ps here h.deliverable g.records g.posts in
        record {
          runs = RunsOn.asked_cut_off u ls i p n m answer l t s made c now step doing ps h.runs here up asks crashes does sent stands is;
          deliverable = subst (IsDeliverableNet hosts) (sym is) (record { posted = posted; places = places });
        }
    nets net ms (Serves.asked_undone u ls i p n m answer l t s made c serves here up asks crashes stands is) =
        let h = nets u ls serves in
        net_as (without i u p n) net ms is (RunsOn.asked_undone u ls i p n m answer l t s made c h.runs here up asks crashes stands refl) (gone u i p n here h.deliverable)
    nets net ms (Serves.idled u i p n serves here up is) =
        let h = nets u ms serves in
        let this = h.deliverable.places i p here in
        let s = state_of deliverable (hosts.base_of i) p n up this.node in
        record {
          runs = RunsOn.idled u i p n h.runs here up is;
          deliverable = subst (IsDeliverableNet hosts) (sym is) (record {
            posted = h.deliverable.posted;
            places = put_place deliverable hosts u.places i p (record { node = Some (record n { effects = [] }); records = p.records }) here h.deliverable.places (record {
              number = this.number;
              records = this.records;
              node = record { book = s.book; base = s.base };
            });
          });
        }
    nets net ms (Serves.ended u i p n serves here up is) =
        let h = nets u ms serves in
        net_as (without i u p n) net ms is (RunsOn.ended u i p n h.runs here up refl) (gone u i p n here h.deliverable)
    nets net ms (Serves.crashed ls i s p c serves here down image on goes) =
        let h = nets net ls serves in
        record { runs = RunsOn.crashed ls i s p c h.runs here down image on goes; deliverable = h.deliverable }

module _ (own : NodesOwnIsDeliverable) (pass : StepsPassOn deliverable) (again : RecoveryPassesOn deliverable) (paths : PathsNameTargets) (place : StepsKeepPlace) (law : WalksTheDue)
    (compacts : RecoversTheCompacted) (shrinks : ShrinksTheSame) (rises : IncarnationsRise) (bring : PostsBring) where
  pub serve_as_nets : {S : Type 0} (told : S → Told) → RunsOnMachines told → NetsKeep told → ServeAsNets told
  serve_as_nets told machines keep hosts net ms are serves = nets own pass again paths place law compacts shrinks rises bring hosts are told machines keep net ms serves

pub servers_agree : {S : Type 0} (told : S → Told) → ServeAsNets told → MachinesAgree told → ServersAgree told
servers_agree told serve agree hosts net ms are apart serves = agree hosts net ms apart (serve hosts net ms are serves).runs
