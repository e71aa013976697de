-- Every message that a step posts goes to some endpoint.
use Rattle.std.specs.Prelude.{ℕ, Bool, Some, ◌≡◌}
use Rattle.std.specs.List.{AllByRecursion}
use Rattle.at_base.specs.declared.epr.Epr.{Epr}
use Rattle.at_base.specs.declared.event.Event.{Event}
use Rattle.at_base.specs.declared.outs.Out.{Out}
use Rattle.at_base.specs.declared.outs.Out.TheVariants as outs
use Rattle.at_model.specs.Book.{Book}
use Rattle.at_model.specs.Step.{step}

-- an answer goes back on its connection
abbrev pub IsAddressed : Out → Type 0
IsAddressed (outs.Post p) = (to : Epr) × (p.to ≡ Some to)
IsAddressed (outs.Answer status reply) = Unit {0}

abbrev pub PostsAreAddressed : Type 0
PostsAreAddressed = (b : Book) (e : Event) (now : ℕ) (landed : Bool) → AllByRecursion IsAddressed (step b e now landed).outs
