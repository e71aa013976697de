-- Abort.
use Rattle.std.specs.Prelude.{ℕ, List, [], ◌++◌, Option, Some, None, Bool, false, ◌||◌, if◌then◌else◌, option_map}
use Rattle.std.specs.List.{list_any}
use Rattle.at_base.specs.Numbers.{Numbers}
use Rattle.at_base.specs.declared.epr.Epr.{Epr}
use Rattle.at_base.specs.declared.notice.Kind.{Kind}
use Rattle.at_base.specs.declared.notice.Kind.TheVariants as kinds
use Rattle.at_base.specs.declared.notice.Notice.TheVariants as notices
use Rattle.at_base.specs.declared.target.Target.TheVariants as targets
use Rattle.at_base.specs.declared.event.Moment.{Moment}
use Rattle.at_base.specs.declared.outs.Post.{Post}
use Rattle.at_base.specs.declared.outs.Ending.TheVariants as endings
use Rattle.at_tables.specs.declared.cells.State.TheVariants as states
use Rattle.at_tables.specs.Names.{is_state}
use Rattle.at_base.specs.Names.{is_kind}
use Rattle.at_model.specs.Book.{Transaction, Link, Superior, Phase}
use Rattle.at_model.specs.Posts.{notice_post, stored_or, to_each}
use Rattle.at_model.specs.Moves.{Moving, Change, posts, effect, become, stays, forgotten}
use Rattle.at_model.specs.Seats.{in_state, is_open, send_each, link_in, ending, initiator_posts, completion_in}

-- Why a transaction aborts: on its own; or by a Rollback that came on a link, with its From; or behind an InvalidState
-- that a link drew.
pub data Reason : Type 0 where
  Alone : Reason
  Asked : Kind → Option Epr → Reason
  Faulted : Kind → Reason

abbrev pub from_of : Reason → Kind → Option Epr
from_of Alone kind = None
from_of (Asked k from) kind = if is_kind k kind then from else None
from_of (Faulted k) kind = None

abbrev pub is_silent : Reason → Kind → Bool
is_silent Alone kind = false
is_silent (Asked k from) kind = false
is_silent (Faulted k) kind = is_kind k kind

-- A link that isn't None sends Aborted, unless it just drew InvalidState. A link in Registering knows no endpoint, so it
-- sends only as the answer to a Rollback that came on it. (WS-AtomicTransaction 1.2, section 3.3.3.)
abbrev pub link_aborted : List ℕ → Numbers → Reason → Kind → Link → List Post
link_aborted base id reason kind link =
    if is_state link.state states.None || is_silent reason kind then []
    else to_each (stored_or link.coordinator (from_of reason kind))
    (λ to. notice_post base (targets.Participant id kind) to notices.Aborted)

-- the volatile link first
abbrev pub links_aborted : List ℕ → Numbers → Reason → Option Superior → List Post
links_aborted base id reason None = []
links_aborted base id reason (Some s) =
    link_aborted base id reason kinds.Volatile s.volatile ++ link_aborted base id reason kinds.Durable s.durable

abbrev pub without_links : Option Superior → Option Superior
without_links s = option_map (λ x. link_in kinds.Volatile states.None (link_in kinds.Durable states.None x)) s

-- Forgotten when no seat is Aborting.
abbrev pub until_rolled_back : Moving Transaction → Change Transaction
until_rolled_back g = if list_any (in_state states.Aborting) g.item.seats then stays g else forgotten g

-- Abort: every link sends Aborted, every open seat gets Rollback and is Aborting, the initiator gets Aborted; nothing is
-- recorded, since abort is presumed. (WS-AtomicTransaction 1.2, sections 3.2, 3.3.3 and 3.3.4.)
unfoldable pub abort : Moment → Reason → Moving Transaction → Change Transaction
abort m reason g =
    until_rolled_back
    (posts (initiator_posts m.base g.item.id notices.Aborted g.item.completion)
    (send_each m notices.Rollback states.Aborting is_open
    (become (record g.item {
      superior = without_links g.item.superior;
      phase = Phase.Aborting;
      aborted = Some m.now;
      completion = completion_in states.None g.item.completion;
    })
    (posts (links_aborted m.base g.item.id reason g.item.superior)
    (effect (ending g.item endings.Aborted) g)))))
