-- A durable Prepare was posted by a transaction that has asked its durable participants, and doesn't go back.
use Rattle.std.specs.Prelude.{ℕ, Some, true, ◌≡◌}
use Rattle.at_base.specs.Numbers.{Numbers}
use Rattle.at_base.specs.declared.epr.Epr.{Epr}
use Rattle.at_base.specs.declared.notice.Kind.TheVariants as kinds
use Rattle.at_base.specs.declared.notice.Notice.TheVariants as notices
use Rattle.at_base.specs.declared.message.Message.TheVariants as messages
use Rattle.at_base.specs.declared.target.Target.TheVariants as targets
use Rattle.at_model.specs.Book.{Book, Transaction}
use Rattle.at_model.specs.Step.{transaction_at}
use Rattle.at_model.specs.World.{Posted, Who, World, Hosts}
use Rattle.model_laws.specs.Agreement.{IsIn}
use Rattle.enlistments.specs.Leads.{LeadsTo}
use Rattle.owed.specs.DurablePrepares.{has_asked}
use Rattle.votes.specs.NamedParticipants.{HasSeat}
use Rattle.settled.specs.OwedMessages.{Holds}

abbrev pub HasAskedAt : World → Who → Type 0
HasAskedAt w t = (b : Book) (o : Transaction) → Holds w t.node b → transaction_at b t.id ≡ Some o → has_asked o.phase ≡ true

pub record IsAskedBy (w : World) (x : Who) : Type 0 where
  pub transaction : Who
  pub number : ℕ
  pub seat : HasSeat w transaction number kinds.Durable x
  pub asked : HasAskedAt w transaction

abbrev pub PreparesAreBehind : Hosts → World → Type 0
PreparesAreBehind hosts w =
    (p : Posted) (to : Epr) (m : ℕ) (i : Numbers) → IsIn p w.posted → p.content.to ≡ Some to → LeadsTo hosts to m (targets.Participant i kinds.Durable)
    → p.content.message ≡ messages.Notice notices.Prepare → IsAskedBy w (record { node = m; id = i })
