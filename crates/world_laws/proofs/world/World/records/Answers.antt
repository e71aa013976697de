use Rattle.std.proofs.Common.{sym, ◌<◌, length, subst}
use Rattle.world_laws.specs.Runs.{Run}
use Rattle.world_laws.proofs.RunNodes.{are_ready}
use Rattle.world_laws.proofs.world.World.records.Goals as goal

pub records-requires : goal.records-requires
records-requires c =
    are_ready (length c.self.inside.events.items) c.self.inside.scene
    (subst (λ (r : Run). length r.events < 4294967295) (sym c.self.view_is) c.requires) c.self.invariant.fit
