-- An abort keeps what a transaction has, and so have its posts.
use Rattle.std.specs.Prelude.{ℕ, List, [], Option, Some, None, IfSome}
use Rattle.std.specs.List.{list_any}
use Rattle.at_base.specs.Names.{is_kind}
use Rattle.at_base.specs.Numbers.{Numbers}
use Rattle.at_base.specs.IdText.{IsId}
use Rattle.at_base.specs.declared.epr.Epr.{Epr}
use Rattle.at_base.specs.declared.event.Moment.{Moment}
use Rattle.at_base.specs.declared.notice.Kind.{Kind}
use Rattle.at_base.specs.declared.notice.Kind.TheVariants as kinds
use Rattle.at_base.specs.declared.notice.Notice.TheVariants as notices
use Rattle.at_base.specs.declared.outs.Ending.TheVariants as endings
use Rattle.at_base.specs.declared.outs.Post.{Post}
use Rattle.at_base.specs.declared.target.Target.TheVariants as targets
use Rattle.at_tables.specs.declared.cells.State.TheVariants as states
use Rattle.at_model.specs.Book.{Link, Phase, Superior, Transaction}
use Rattle.at_model.specs.Posts.{notice_post, stored_or, to_each}
use Rattle.at_model.specs.Moves.{Moving, become, effect, forgotten, posts, stays}
use Rattle.at_model.specs.Seats.{completion_in, ending, in_state, initiator_posts, is_open, send_each}
use Rattle.at_model.specs.Abort.{Alone, Asked, Faulted, Reason, abort, from_of, link_aborted, links_aborted, until_rolled_back, without_links}
use Rattle.model_laws.proofs.DecisionLaws.{all_if, all_join, either_left, either_of}
use Rattle.provenance.specs.Forms.{ArePosts, Forms, HaveOwn, IsLink, IsPost, IsSuperior}
use Rattle.provenance.proofs.TransactionPosts.{each_has, notice_has, stored_has}
use Rattle.provenance.proofs.TransactionMoves.{IsMoving, Keeps, completion_has, forgotten_kept, initiator_has, posts_moving, send_moving, stays_kept, without_links_has}

-- the From of a Rollback
abbrev pub IsReason : Forms → Reason → Type 0
IsReason F Alone = Unit {0}
IsReason F (Asked kind from) = IfSome from F.endpoint
IsReason F (Faulted kind) = Unit {0}

from_of_has : (F : Forms) (reason : Reason) (kind : Kind) → IsReason F reason → IfSome (from_of reason kind) F.endpoint
from_of_has F Alone kind h = tt
from_of_has F (Asked k from) kind h = either_of (λ o. IfSome o F.endpoint) (is_kind k kind) from None (λ e. h) (λ e. tt)
from_of_has F (Faulted k) kind h = tt

module _ (F : Forms) (base : List ℕ) (own : HaveOwn F base) (id : Numbers) (is : IsId id) (reason : Reason) (fine : IsReason F reason) where
  link_aborted_has : (kind : Kind) (link : Link) → IsLink F link → ArePosts F (link_aborted base id reason kind link)
  link_aborted_has kind link h =
      let to_whom : Option Epr = stored_or link.coordinator (from_of reason kind) in
      let says : Epr → Post = λ to. notice_post base (targets.Participant id kind) to notices.Aborted in
      all_if (IsPost F) _ [] (to_each to_whom says) tt
      (each_has F to_whom says (stored_has F link.coordinator (from_of reason kind) h (from_of_has F reason kind fine))
      (λ to e. notice_has F base own (targets.Participant id kind) to notices.Aborted is e))

  links_aborted_have : (identifier : List ℕ) (s : Option Superior) → IfSome s (IsSuperior F identifier) → ArePosts F (links_aborted base id reason s)
  links_aborted_have identifier None h = tt
  links_aborted_have identifier (Some s) h =
      all_join (IsPost F) (link_aborted base id reason kinds.Volatile s.volatile) (link_aborted base id reason kinds.Durable s.durable)
      (link_aborted_has kinds.Volatile s.volatile h.volatile) (link_aborted_has kinds.Durable s.durable h.durable)

pub rolled_back : (F : Forms) (identifier : List ℕ) (g : Moving Transaction) → IsMoving F identifier g → Keeps F identifier (until_rolled_back g)
rolled_back F identifier g h =
    either_left (Keeps F identifier) (list_any (in_state states.Aborting) g.item.seats) (stays g) (forgotten g)
    (stays_kept F identifier g h) (forgotten_kept F identifier g h.posts)

pub abort_kept : (F : Forms) (identifier : List ℕ) (m : Moment) (reason : Reason) (g : Moving Transaction) → HaveOwn F m.base → IsReason F reason → IsMoving F identifier g
    → Keeps F identifier (abort m reason g)
unfolding abort
abort_kept F identifier m reason g own fine h =
    let first : Moving Transaction = effect (ending g.item endings.Aborted) g in
    let told : List Post = links_aborted m.base g.item.id reason g.item.superior in
    let above : Moving Transaction = become (record g.item {
      superior = without_links g.item.superior;
      phase = Phase.Aborting;
      aborted = Some m.now;
      completion = completion_in states.None g.item.completion;
    }) (posts told first) in
    let below : Moving Transaction = send_each m notices.Rollback states.Aborting is_open above in
    let last : List Post = initiator_posts m.base g.item.id notices.Aborted g.item.completion in
    rolled_back F identifier (posts last below)
    (posts_moving F identifier last below (initiator_has F m.base own g.item.id notices.Aborted g.item.completion h.item.is.id h.item.is.completion)
    (send_moving F identifier m notices.Rollback states.Aborting is_open above own
    (record {
      item = record {
        is = record {
          id = h.item.is.id;
          superior = without_links_has F g.item.identifier g.item.superior h.item.is.superior;
          seats = h.item.is.seats;
          completion = completion_has F states.None g.item.completion h.item.is.completion;
        };
        same = h.item.same;
      };
      posts = all_join (IsPost F) g.posts told h.posts (links_aborted_have F m.base own g.item.id h.item.is.id reason fine g.item.identifier g.item.superior h.item.is.superior);
    })))
