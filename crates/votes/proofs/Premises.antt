-- What each step may use of the world before it, and what it has to show of the world behind it.
use Rattle.std.specs.Prelude.{ℕ, Some, Bool, ◌≡◌}
use Rattle.std.specs.List.{AllByRecursion}
use Rattle.at_base.specs.Numbers.{Numbers}
use Rattle.at_base.specs.declared.event.Event.{Event}
use Rattle.at_base.specs.declared.outs.Post.{Post}
use Rattle.at_model.specs.Book.{Book}
use Rattle.at_model.specs.Step.{leaf_at, step, transaction_at}
use Rattle.at_model.specs.World.{Node, World, goes_down, new_nodes, nth, Hosts, HaveOwnAddresses}
use Rattle.model_laws.specs.Agreement.{HasOneSuperior}
use Rattle.model_laws.specs.ReachedWorlds.{Heard, Reached, counts}
use Rattle.model_laws.proofs.WorldInvariants.{OutFine}
use Rattle.model_laws.proofs.Addresses.{HaveBases}
use Rattle.agreement.specs.Lives.{Life, book_of, happened_on}
use Rattle.agreement.specs.SeatRegistrations.{IsSeated}
use Rattle.agreement.specs.Sorts.{AreSorted}
use Rattle.enlistments.specs.KnownCoordinators.{IsKnowing}
use Rattle.enlistments.specs.Moves.{IsReady, StepsMove}
use Rattle.enlistments.specs.NoticeOrigins.{StepsTell}
use Rattle.votes.specs.VotesAndOutcomes.{IsOutcome}
use Rattle.votes.specs.DurableVotes.{PreparedIsRecorded, ReadOnlyIsGone}

-- what is known of every reached world
pub record WorldLaws (hosts : Hosts) (u : World) : Type 0 where
  pub distinct : HaveOwnAddresses hosts
  pub reached : Reached hosts u
  pub bases : HaveBases u.nodes (new_nodes hosts.base_of hosts.count 1)
  pub lives : (m : ℕ) (y : Node) → nth m u.nodes ≡ Some y → (id : Numbers) → Life y.journal (happened_on m u.happened) id (transaction_at (book_of y) id) (leaf_at (book_of y) id)
  pub sorted : AreSorted hosts u
  pub seated : IsSeated u
  pub one : HasOneSuperior u

-- and of a world whose votes are kept; what each step is, and why it posts what it posts
pub record WorldPremises (hosts : Hosts) (u : World) : Type 0 where
  pub laws : WorldLaws hosts u
  pub moves : StepsMove
  pub tells : StepsTell
  pub knowing : IsKnowing hosts u
  pub prepared : PreparedIsRecorded u
  pub read_only : ReadOnlyIsGone u

-- a node that is up, and what comes to it
pub record StepPremises (hosts : Hosts) (u : World) (n : ℕ) (x : Node) (b : Book) (e : Event) : Type 0 where
  pub world : WorldPremises hosts u
  pub found : nth n u.nodes ≡ Some x
  pub up : x.book ≡ Some b
  pub heard : Heard u n x e
  pub ready : IsReady b

-- P holds behind each step and each fall
abbrev pub StepKeeps : (Hosts → World → Type 0) → Type 0
StepKeeps P =
    (hosts : Hosts) (u : World) (n : ℕ) (x : Node) (b : Book) (e : Event) (now : ℕ) (landed : Bool) → StepPremises hosts u n x b e → IsOutcome hosts u → P hosts (counts u n x b e now landed)

abbrev pub FallKeeps : (Hosts → World → Type 0) → Type 0
FallKeeps P = (hosts : Hosts) (u : World) (n : ℕ) (x : Node) (b : Book) → WorldPremises hosts u → nth n u.nodes ≡ Some x → x.book ≡ Some b → IsOutcome hosts u → P hosts (goes_down n b u)

-- what each post of a step satisfies, in the world behind it
abbrev pub StepSends : (Hosts → World → Post → Type 0) → Type 0
StepSends Fine =
    (hosts : Hosts) (u : World) (n : ℕ) (x : Node) (b : Book) (e : Event) (now : ℕ) (landed : Bool) → StepPremises hosts u n x b e → IsOutcome hosts u
    → AllByRecursion (OutFine (Fine hosts (counts u n x b e now landed))) (step b e now landed).outs
