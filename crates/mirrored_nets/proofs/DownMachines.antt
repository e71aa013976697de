-- The machine of a node that is down and has started before.
use Rattle.std.specs.Prelude.{List, [], ◌≡◌}
use Rattle.std.proofs.Common.{sym, ap, subst, arith, ◌∙◌, inl, inr}
use Rattle.at_base.specs.declared.record.Record.{Record}
use Rattle.at_model.specs.Recovery.{last_incarnation}
use Rattle.at_model.specs.World.{Node as Known, example_hosts}
use Rattle.deliverables.specs.Bases.{ExamplesAreNodeBases}
use Rattle.deliveries.specs.ByteNets.{ServeAsNets}
use Rattle.journal_at.specs.declared.version.Version.TheVariants.{Two}
use Rattle.memory_net.specs.Stands.{Holds}
use Rattle.memory_net.proofs.Standing.{same_some}
use Rattle.node_at.specs.Starts.{StandFor}
use Rattle.node_worlds.specs.Crashes.{CrashesAreMet}
use Rattle.node_worlds.specs.Restarts.{StandsFor}
use Rattle.node_worlds.proofs.NetWorlds.{same_last}
use Rattle.node_worlds.proofs.Restarts.{restarts}
use Rattle.record_bytes.specs.Versions.{AreApart}
use Rattle.site_memory.specs.Sites.{told_of}
use Rattle.site_memory.specs.declared.machine.MemSite.{MemSite}
use Rattle.site_model.specs.Told.{Files}
use Rattle.mirrored_nets.specs.Mirrors.{IsOfTwo}
use Rattle.mirrored_nets.specs.LeftStarts.{DownAreMarked}

pub down_are_marked : AreApart → ExamplesAreNodeBases → ServeAsNets told_of → CrashesAreMet told_of → DownAreMarked
down_are_marked apart bases nets crashes count hosts clocks mails w i h x few M here down known begun = (last_incarnation (M.stands.holds i h here).place.records, record { stands = marked })
  where
    hold : Holds M.stands.net M.stands.sites i h
    hold = M.stands.holds i h here

    has : hold.place.records ≡ [] → ⊥
    has none =
        let (y, found, stands) = M.world.nodes i hold.place hold.here in
        begun (ap (λ (z : Known). z.journal) (same_some x y (sym known ∙ found)) ∙ stands.journal ∙ none)

    marked : (c : Files) → (told_of h.site).images c → (rs : List Record) × StandFor Two rs c × (last_incarnation hold.place.records ≡ last_incarnation rs)
    marked c im = by (M.of_two i h hold.place here down hold.here c im)
      where
        stands : StandsFor hold.place.records c
        stands =
            crashes.between (example_hosts count) M.stands.net M.stands.sites i hold.place c
            (nets (example_hosts count) M.stands.net M.stands.sites (λ k number. bases k (omega (arith, number.1, few))) M.stands.serves).runs hold.here
            (subst (λ (z : MemSite). (told_of z).images c) (sym hold.site) im)

        by : IsOfTwo hold.place.records c → (rs : List Record) × StandFor Two rs c × (last_incarnation hold.place.records ≡ last_incarnation rs)
        by (inl (qs, h)) = (qs, h, sym (same_last qs hold.place.records (restarts apart c Two qs hold.place.records h stands)))
        by (inr (none, h)) = absurd (has none)
