-- Nobody registers any more, but at what is no transaction of a node.
use Rattle.std.specs.Prelude.{ℕ, Some, ◌≡◌}
use Rattle.at_base.specs.Numbers.{Numbers}
use Rattle.at_base.specs.declared.notice.Kind.{Kind}
use Rattle.at_base.specs.declared.target.Target.TheVariants as targets
use Rattle.at_tables.specs.declared.cells.State.TheVariants as states
use Rattle.at_model.specs.Book.{Book, Leaf, Request, Superior, Transaction, WorkRequest}
use Rattle.at_model.specs.Seats.{link_of}
use Rattle.at_model.specs.Step.{leaf_at, transaction_at}
use Rattle.at_model.specs.World.{World, Hosts}
use Rattle.enlistments.specs.Leads.{LeadsTo}
use Rattle.settled.specs.OwedMessages.{Holds}

pub record NoneRouted (hosts : Hosts) (w : World) : Type 0 where
  pub links : (n : ℕ) (b : Book) (t : Transaction) (s : Superior) (kind : Kind) (r : Request) (m : ℕ) (id : Numbers) → Holds w n b → transaction_at b t.id ≡ Some t → t.superior ≡ Some s
      → (link_of kind s).state ≡ states.Registering → s.request ≡ Some r → LeadsTo hosts r.registration m (targets.Registration id) → ⊥
  pub leaves : (n : ℕ) (b : Book) (l : Leaf) (r : WorkRequest) (m : ℕ) (id : Numbers) → Holds w n b → leaf_at b l.id ≡ Some l → l.state ≡ states.Registering → l.request ≡ Some r
      → LeadsTo hosts r.registration m (targets.Registration id) → ⊥
