-- What is known of each step of a reached world.
use Rattle.std.specs.Prelude.{ℕ, Some, ◌≡◌}
use Rattle.at_base.specs.declared.event.Event.{Event}
use Rattle.at_model.specs.Book.{Book}
use Rattle.at_model.specs.World.{Node, World, nth, Hosts, HaveOwnAddresses}
use Rattle.model_laws.specs.ReachedWorlds.{Heard, Reached}
use Rattle.enlistments.specs.KnownCoordinators.{CoordinatorsAreKnown}
use Rattle.enlistments.specs.Moves.{StepsMove}
use Rattle.enlistments.specs.NoticeOrigins.{StepsTell}
use Rattle.votes.specs.VotesAndOutcomes.{OutcomesAreBacked}
use Rattle.votes.specs.DurableVotes.{VotesAreKept}
use Rattle.votes.proofs.Lives.{world_laws}
use Rattle.votes.proofs.Premises.{StepPremises, WorldPremises}

pub record Layers : Type 0 where
  pub moves : StepsMove
  pub tells : StepsTell
  pub known : CoordinatorsAreKnown
  pub kept : VotesAreKept
  pub backed : OutcomesAreBacked

pub world_premises : (l : Layers) (hosts : Hosts) (u : World) → HaveOwnAddresses hosts → Reached hosts u → WorldPremises hosts u
world_premises l hosts u distinct reached = record {
  laws = world_laws hosts u distinct reached;
  moves = l.moves;
  tells = l.tells;
  knowing = l.known.reached hosts u distinct reached;
  prepared = l.kept.prepared hosts u distinct reached;
  read_only = l.kept.read_only hosts u distinct reached;
}

pub step_premises : (l : Layers) (hosts : Hosts) (u : World) (n : ℕ) (x : Node) (b : Book) (e : Event) → HaveOwnAddresses hosts → Reached hosts u → nth n u.nodes ≡ Some x → x.book ≡ Some b → Heard u n x e
    → StepPremises hosts u n x b e
step_premises l hosts u n x b e distinct reached found up heard = record {
  world = world_premises l hosts u distinct reached;
  found = found;
  up = up;
  heard = heard;
  ready = l.moves.ready hosts u reached n x b found up;
}
