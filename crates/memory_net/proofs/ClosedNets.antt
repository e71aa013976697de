-- What is asked of endpoints and texts holds of all that nodes that serve come to, where their programs ask for nothing else.
use Rattle.std.specs.Prelude.{ℕ, [], ◌∷◌, ◌++◌, ◌≡◌, ◌⊎◌, Some, None}
use Rattle.std.proofs.Common.{inl, inr, refl, sym, subst, ◌∙◌}
use Rattle.at_base.specs.declared.event.Arrived.{Arrived}
use Rattle.at_base.specs.declared.event.Event.TheVariants as events
use Rattle.at_model.specs.Step.{plan}
use Rattle.at_model.specs.World.{Hosts, IsNumber, nth}
use Rattle.decision_log.specs.ShrunkJournals.{ShrinksTheSame}
use Rattle.endpoints.specs.Addresses.{PathsNameTargets}
use Rattle.interposition.specs.Due.{WalksTheDue}
use Rattle.model_laws.specs.Compactions.{RecoversTheCompacted}
use Rattle.model_laws.specs.Laws.{IncarnationsRise, StepsKeepPlace}
use Rattle.node_at.specs.Meanings.{Means}
use Rattle.node_at.specs.Meanings.Meaning.{Steps}
use Rattle.node_at.specs.Starts.{start_after}
use Rattle.node_at.specs.State.{State}
use Rattle.node_at.specs.Steps.{if_landed}
use Rattle.node_at.specs.declared.role.Role.{Role}
use Rattle.node_worlds.specs.KeptRecords.{NetsKeep}
use Rattle.node_worlds.specs.Machines.{RunsOn, RunsOnMachines}
use Rattle.node_worlds.specs.Nets.{Brings, IsOpened, IsPostedTo, Net, Place, as_far, steps_in, with_started, without}
use Rattle.node_worlds.specs.SentPosts.{recorded, records_by}
use Rattle.node_worlds.proofs.NetWorlds.{not_halted}
use Rattle.node_worlds.proofs.Places.{nth_this}
use Rattle.provenance.specs.Forms.{Forms, HaveOwn}
use Rattle.provenance.specs.Provenance.{RecoveryPassesOn, StepsPassOn}
use Rattle.site_model.specs.Told.{Told}
use Rattle.deliveries.specs.ByteNets.{Carries, IsNoMessage, ServeAsNets, Serves}
use Rattle.deliveries.specs.DeliverableNets.{AreNodeHosts, IsDeliverableNet, IsNetOf}
use Rattle.deliveries.specs.Deliveries.{IsCarried, PostsBring}
use Rattle.deliveries.proofs.NetForms.{after_net, asked_gives, broken_net, delivered, ends_book, fits, opens, put_place, recorded_place, started_place, state_of, turn_front, turn_gives}
use Rattle.deliveries.proofs.TurnForms.{Gives, one_gives, step_gives}
use Rattle.memory_net.specs.Closed.{AsksOf}

module _ (F : Forms) (pass : StepsPassOn F) (again : RecoveryPassesOn F) (paths : PathsNameTargets) (place : StepsKeepPlace) (law : WalksTheDue)
    (compacts : RecoversTheCompacted) (shrinks : ShrinksTheSame) (rises : IncarnationsRise) (bring : PostsBring) (hosts : Hosts) (are : AreNodeHosts hosts)
    (owns : (i : ℕ) → IsNumber hosts i → HaveOwn F (hosts.base_of i)) where
  brings : (net : Net) (i : ℕ) (role : Role) (s : Told) → IsDeliverableNet hosts net → Carries hosts net i role s → Brings hosts net i role s
  brings net i role s fit c = record { input = c.input; tells = c.tells; posted = λ a means. by a means c.carried }
    where
      by : (a : Arrived) → Means role c.input (Steps (events.Arrived a)) → IsCarried hosts net i c.input ⊎ IsNoMessage role c.input → IsPostedTo hosts net i a
      by a means (inl carried) = bring hosts net i role c.input a are fit carried means
      by a means (inr none) = absurd (none a means)

  module _ {S : Type 0} (told : S → Told) (machines : RunsOnMachines told) (keep : NetsKeep told) (nets : ServeAsNets told) where
    gone : (u : Net) (i : ℕ) (p : Place) (n : State) → nth i u.places ≡ Some p → IsNetOf F hosts u → IsNetOf F hosts (without i u p n)
    gone u i p n here h = record {
      posted = h.posted;
      places = put_place F hosts u.places i p (record { node = None; records = p.records }) here h.places (record {
        number = (h.places i p here).number;
        records = (h.places i p here).records;
        node = tt;
      });
    }

    pub of_forms : (net : Net) (ms : ℕ → S) (serves : Serves told hosts net ms) → AsksOf F told hosts net ms serves → IsNetOf F hosts net
    of_forms net ms (Serves.opened is on) asks = subst (IsNetOf F hosts) (sym is) (record { posted = tt; places = opens F hosts })
    of_forms net ms (Serves.waited ls serves left) asks = of_forms net ls serves asks
    of_forms net ms (Serves.started u ls i p n limit t f serves here down files start goes is) asks =
        let h = of_forms u ls serves asks in
        let this = h.places i p here in
        let q : Place = record { node = Some n; records = p.records ++ start_after p.records ∷ [] } in
        let runs : RunsOn told hosts (with_started i u p n) ms = RunsOn.started u ls i p n limit t f (nets hosts u ls are serves).runs here down files start goes refl in
        let kept = keep hosts (with_started i u p n) (machines hosts (with_started i u p n) ms runs) i q n (nth_this u.places i p q here) refl in
        subst (IsNetOf F hosts) (sym is) (record {
          posted = h.posted;
          places = put_place F hosts u.places i p q here h.places
              (started_place F pass again paths place law compacts shrinks rises hosts owns i this.number p n limit (told (ls i)) (told t) this start (sym kept ∙ start.kept));
        })
    of_forms net ms (Serves.start_cut_off u ls i p limit t s l c f serves here down files begins crashes stands is) asks = subst (IsNetOf F hosts) (sym is) (of_forms u ls serves asks)
    of_forms net ms (Serves.start_recorded u ls i p limit t s l c f serves here down files begins crashes small stands is) asks =
        let h = of_forms u ls serves asks in
        let this = h.places i p here in
        subst (IsNetOf F hosts) (sym is) (record {
          posted = h.posted;
          places = put_place F hosts u.places i p (record { node = None; records = p.records ++ start_after p.records ∷ [] }) here h.places
              (recorded_place F pass again paths place law compacts shrinks rises hosts owns i this.number p this);
        })
    of_forms net ms (Serves.turned u ls i p n m result role shrunk t ps serves here up turn runs carries sent goes is) asks =
        let h = of_forms u ls serves asks in
        let fit = (nets hosts u ls are serves).deliverable in
        let this = h.places i p here in
        let old = told (ls i) in
        let brought : IsOpened turn.first → Brings hosts u i role old = λ opened. brings u i role old fit (carries opened) in
        let steps = steps_in turn.first role n turn.node old (told turn.behind) turn.steps in
        let g = turn_gives F pass again paths place law compacts shrinks rises hosts owns i this.number turn.first role n turn.node old (told turn.behind) ps
        (fits F pass again paths place law compacts shrinks rises hosts owns i p n this up) turn.steps
        (not_halted told turn.first result shrunk turn.node m turn.behind t turn.ends runs)
        (λ meaning opened hears fit. delivered F pass again paths place law compacts shrinks rises hosts owns u i role old meaning h.posted (brought opened) hears fit) sent in
        let (posted, places) = after_net F pass again paths place law compacts shrinks rises hosts owns u i p m (recorded steps) ps here h
        (subst (λ b. Gives F (hosts.base_of i) b (recorded steps) ps) (sym (ends_book told turn.first result shrunk turn.node m turn.behind t turn.ends)) g) in
        subst (IsNetOf F hosts) (sym is) (record { posted = posted; places = places })
    of_forms net ms (Serves.asked u ls i p n m id l t ps serves here up local done sent goes is) (local', asks) =
        let h = of_forms u ls serves asks in
        let this = h.places i p here in
        let g = asked_gives F pass again paths place law compacts shrinks rises hosts owns i this.number n m l done.3.0 done.3.1 (told (ls i)) (told t) ps
        (fits F pass again paths place law compacts shrinks rises hosts owns i p n this up) local' done.3.3 sent in
        let (posted, places) = after_net F pass again paths place law compacts shrinks rises hosts owns u i p m
        (records_by (if_landed done.3.3.landed (plan n.book (events.Local l) done.3.0).entry)) ps here h g in
        subst (IsNetOf F hosts) (sym is) (record { posted = posted; places = places })
    of_forms net ms (Serves.cut_off u ls i p n m result role shrunk t s l c front rest ds ps serves here up turn carries crashes begun sent stands is) asks =
        let h = of_forms u ls serves asks in
        let fit = (nets hosts u ls are serves).deliverable in
        let this = h.places i p here in
        let old = told (ls i) in
        let brought : IsOpened turn.first → Brings hosts u i role old = λ opened. brings u i role old fit (carries opened) in
        let g = turn_front F pass again paths place law compacts shrinks rises hosts owns i this.number turn.first role n turn.node old (told turn.behind) front rest ds ps
        (fits F pass again paths place law compacts shrinks rises hosts owns i p n this up) turn.steps
        (λ meaning opened hears fit. delivered F pass again paths place law compacts shrinks rises hosts owns u i role old meaning h.posted (brought opened) hears fit) begun sent in
        let (posted, places) = broken_net F pass again paths place law compacts shrinks rises hosts owns u i p (record { node = Some (as_far n front); records = p.records ++ recorded front })
        (recorded front) ps here h g.records g.posts in
        subst (IsNetOf F hosts) (sym is) (record { posted = posted; places = places })
    of_forms net ms (Serves.asked_cut_off u ls i p n m answer l t s made c now step doing ps serves here up local asked crashes does sent stands is) (local', asks) =
        let h = of_forms u ls serves asks in
        let this = h.places i p here in
        let g = one_gives F (hosts.base_of i) pass place law (owns i this.number) n.book step ps
        (step_gives F (hosts.base_of i) pass place law (owns i this.number) n.book (events.Local l) now step doing ps
        (fits F pass again paths place law compacts shrinks rises hosts owns i p n this up) local' does sent) in
        let (posted, places) = broken_net F pass again paths place law compacts shrinks rises hosts owns u i p
        (record { node = Some (as_far n (step ∷ [])); records = p.records ++ recorded (step ∷ []) }) (recorded (step ∷ [])) ps here h g.records g.posts in
        subst (IsNetOf F hosts) (sym is) (record { posted = posted; places = places })
    of_forms net ms (Serves.asked_undone u ls i p n m answer l t s made c serves here up asked crashes stands is) asks =
        subst (IsNetOf F hosts) (sym is) (gone u i p n here (of_forms u ls serves asks))
    of_forms net ms (Serves.idled u i p n serves here up is) asks =
        let h = of_forms u ms serves asks in
        let this = h.places i p here in
        let s = state_of F (hosts.base_of i) p n up this.node in
        subst (IsNetOf F hosts) (sym is) (record {
          posted = h.posted;
          places = put_place F hosts u.places i p (record { node = Some (record n { effects = [] }); records = p.records }) here h.places (record {
            number = this.number;
            records = this.records;
            node = record { book = s.book; base = s.base };
          });
        })
    of_forms net ms (Serves.ended u i p n serves here up is) asks = subst (IsNetOf F hosts) (sym is) (gone u i p n here (of_forms u ms serves asks))
    of_forms net ms (Serves.crashed ls i s p c serves here down image on goes) asks = of_forms net ls serves asks
