-- The phases of a transaction keep what it has, and so have what they record and post.
use Rattle.std.specs.Prelude.{ℕ, List, Option, Some, None, IfSome, if◌then◌else◌}
use Rattle.std.specs.List.{list_any}
use Rattle.at_base.specs.Numbers.{Numbers}
use Rattle.at_base.specs.IdText.{IsId}
use Rattle.at_base.specs.declared.epr.Epr.{Epr}
use Rattle.at_base.specs.declared.event.Moment.{Moment}
use Rattle.at_base.specs.declared.notice.Kind.TheVariants as kinds
use Rattle.at_base.specs.declared.notice.Notice.TheVariants as notices
use Rattle.at_base.specs.declared.outs.Ending.TheVariants as endings
use Rattle.at_base.specs.declared.outs.Post.{Post}
use Rattle.at_base.specs.declared.record.Record.TheVariants as records
use Rattle.at_tables.specs.declared.cells.State.TheVariants as states
use Rattle.at_tables.specs.Names.{is_state}
use Rattle.at_model.specs.Book.{Phase, Superior, Transaction}
use Rattle.at_model.specs.Moves.{Goes, Moving, Records, become, effect, forgotten, posts, stays}
use Rattle.at_model.specs.Seats.{all_left, answered, ending, in_phase, in_state, initiator_posts, is_of, is_prepared_durable, link_in, prepared}
use Rattle.at_model.specs.Abort.{Alone, abort}
use Rattle.at_model.specs.Phases.{advance, advance_in, all_committed, commit_seats, committed, decided, durable_answered, ended_posts, go_durable, go_volatile, if_durable_answered, prepare_seats, root_answered, sub_answered, upwards, volatile_answered, voted}
use Rattle.std.proofs.Common.{subst}
use Rattle.model_laws.proofs.DecisionLaws.{all_join, either_left}
use Rattle.provenance.specs.Forms.{ArePosts, Forms, HaveOwn, IsPost, IsSuperior}
use Rattle.provenance.proofs.TransactionMoves.{DecidesKept, IsMoving, Keeps, completion_has, either, forgotten_kept, initiator_has, link_in_has, prepared_have, send_moving, stays_kept, upwards_have}
use Rattle.provenance.proofs.Aborts.{abort_kept, rolled_back}

module _ (F : Forms) (identifier : List ℕ) (m : Moment) (own : HaveOwn F m.base) where
  abort_alone : (g : Moving Transaction) → IsMoving F identifier g → Keeps F identifier (abort m Alone g)
  abort_alone g h = abort_kept F identifier m Alone g own tt h

  pub commit_moving : (g : Moving Transaction) → IsMoving F identifier g → IsMoving F identifier (commit_seats m g)
  commit_moving g h = send_moving F identifier m notices.Commit states.Committing (in_state states.Prepared) g own h

  decided_moving : (g : Moving Transaction) → IsMoving F identifier g → IsMoving F identifier (decided m g)
  unfolding decided
  decided_moving g h =
      let first : Moving Transaction = effect (ending g.item endings.Committed) g in
      let c : IsMoving F identifier (commit_seats m first) = commit_moving first (record { item = h.item; posts = h.posts }) in
      let last : List Post = initiator_posts m.base g.item.id notices.Committed g.item.completion in
      record {
        item = record {
          is = record { id = c.item.is.id; superior = c.item.is.superior; seats = c.item.is.seats; completion = completion_has F states.Done g.item.completion h.item.is.completion };
          same = c.item.same;
        };
        posts = all_join (IsPost F) (commit_seats m first).posts last c.posts (initiator_has F m.base own g.item.id notices.Committed g.item.completion h.item.is.id h.item.is.completion);
      }

  committed_kept : (g : Moving Transaction) → IsMoving F identifier g → Keeps F identifier (committed m g)
  unfolding committed
  committed_kept g h =
      let d : IsMoving F identifier (decided m g) = decided_moving g h in
      either_left (Keeps F identifier) (list_any is_prepared_durable g.item.seats) (stays (decided m g)) (forgotten (decided m g))
      (stays_kept F identifier (decided m g) d) (forgotten_kept F identifier (decided m g) d.posts)

  root_kept : (g : Moving Transaction) → IsMoving F identifier g → DecidesKept F identifier (root_answered m g)
  unfolding root_answered
  root_kept g h = record {
    entry = (h.item.is.id, prepared_have F g.item.id g.item.seats h.item.is.seats);
    landed = committed_kept g h;
    otherwise = abort_alone g h;
  }

  voted_moving : (s : Superior) (g : Moving Transaction) → IsSuperior F g.item.identifier s → IsMoving F identifier g → IsMoving F identifier (voted m s g)
  unfolding voted
  voted_moving s g k h = record {
    item = record {
      is = record {
        id = h.item.is.id;
        superior = link_in_has F g.item.identifier kinds.Durable states.PreparedSuccess s k;
        seats = h.item.is.seats;
        completion = h.item.is.completion;
      };
      same = h.item.same;
    };
    posts = all_join (IsPost F) g.posts (upwards m.base g.item.id kinds.Durable notices.Prepared s.durable) h.posts
        (upwards_have F m.base own g.item.id kinds.Durable notices.Prepared s.durable h.item.is.id k.durable);
  }

  sub_kept : (s : Superior) (superior : Option Epr) (g : Moving Transaction) → IsSuperior F g.item.identifier s → IfSome superior F.endpoint → IsMoving F identifier g
      → DecidesKept F identifier (sub_answered m s superior g)
  unfolding sub_answered
  sub_kept s None g k i h = abort_alone g h
  sub_kept s (Some superior) g k i h =
      let said : List Post = upwards m.base g.item.id kinds.Durable notices.ReadOnly s.durable in
      either F identifier (list_any is_prepared_durable g.item.seats)
      (Records (records.Voted g.item.id superior (prepared g.item.seats)) (stays (voted m s g)) (Some (abort m Alone g)))
      (Goes (forgotten (posts said g)))
      (record {
        entry = (h.item.is.id, i, prepared_have F g.item.id g.item.seats h.item.is.seats);
        landed = stays_kept F identifier (voted m s g) (voted_moving s g k h);
        otherwise = abort_alone g h;
      })
      (forgotten_kept F identifier (posts said g) (all_join (IsPost F) g.posts said h.posts (upwards_have F m.base own g.item.id kinds.Durable notices.ReadOnly s.durable h.item.is.id k.durable)))

  durable_kept : (s : Option Superior) (g : Moving Transaction) → IfSome s (IsSuperior F g.item.identifier) → IsMoving F identifier g → DecidesKept F identifier (durable_answered m s g)
  durable_kept None g k h = root_kept g h
  durable_kept (Some s) g k h = sub_kept s s.durable.coordinator g k k.durable h

  if_durable_kept : (g : Moving Transaction) → IsMoving F identifier g → DecidesKept F identifier (if_durable_answered m g)
  if_durable_kept g h =
      either F identifier (answered kinds.Durable g.item.seats) (durable_answered m g.item.superior g) (Goes (stays g))
      (durable_kept g.item.superior g h.item.is.superior h) (stays_kept F identifier g h)

  -- the same in another phase
  phase_moving : (phase : Phase) (g : Moving Transaction) → IsMoving F identifier g → IsMoving F identifier (become (in_phase phase g.item) g)
  phase_moving phase g h = record {
    item = record {
      is = record { id = h.item.is.id; superior = h.item.is.superior; seats = h.item.is.seats; completion = h.item.is.completion };
      same = h.item.same;
    };
    posts = h.posts;
  }

  go_durable_kept : (g : Moving Transaction) → IsMoving F identifier g → DecidesKept F identifier (go_durable m g)
  unfolding go_durable
  go_durable_kept g h =
      let first : Moving Transaction = become (in_phase Phase.Durable g.item) g in
      if_durable_kept (prepare_seats m kinds.Durable first)
      (send_moving F identifier m notices.Prepare states.Preparing (is_of kinds.Durable states.Active) first own (phase_moving Phase.Durable g h))

  volatile_kept : (s : Option Superior) (g : Moving Transaction) → IfSome s (IsSuperior F g.item.identifier) → IsMoving F identifier g → DecidesKept F identifier (volatile_answered m s g)
  unfolding volatile_answered
  volatile_kept None g k h = go_durable_kept g h
  volatile_kept (Some s) g k h =
      let said : List Post = upwards m.base g.item.id kinds.Volatile notices.ReadOnly s.volatile in
      let active : Moving Transaction = become (record g.item { superior = Some (link_in kinds.Volatile states.None s); phase = Phase.Active }) g in
      either F identifier (is_state s.volatile.state states.Preparing) (Goes (stays (posts said active)))
      (if is_state s.durable.state states.Preparing then go_durable m g else Goes (stays g))
      (record {
        item = record {
          is = record {
            id = h.item.is.id;
            superior = link_in_has F g.item.identifier kinds.Volatile states.None s k;
            seats = h.item.is.seats;
            completion = h.item.is.completion;
          };
          same = h.item.same;
        };
        posts = all_join (IsPost F) g.posts said h.posts (upwards_have F m.base own g.item.id kinds.Volatile notices.ReadOnly s.volatile h.item.is.id k.volatile);
      })
      (either F identifier (is_state s.durable.state states.Preparing) (go_durable m g) (Goes (stays g)) (go_durable_kept g h) (stays_kept F identifier g h))

  ended_have : (id : Numbers) (s : Option Superior) → IsId id → IfSome s (IsSuperior F identifier) → ArePosts F (ended_posts m.base id s)
  ended_have id None is h = tt
  ended_have id (Some s) is h = upwards_have F m.base own id kinds.Durable notices.Committed s.durable is h.durable

  all_committed_kept : (g : Moving Transaction) → IsMoving F identifier g → DecidesKept F identifier (all_committed m g)
  unfolding all_committed
  all_committed_kept g h = record {
    entry = tt;
    landed = record {
      item = tt;
      posts = all_join (IsPost F) g.posts (ended_posts m.base g.item.id g.item.superior) h.posts (ended_have g.item.id g.item.superior h.item.is.id (subst (λ x. IfSome g.item.superior (IsSuperior F x)) h.item.same h.item.is.superior));
    };
    otherwise = tt;
  }

  advance_in_kept : (phase : Phase) (g : Moving Transaction) → IsMoving F identifier g → DecidesKept F identifier (advance_in m phase g)
  unfolding advance_in
  advance_in_kept Phase.Registering g h = stays_kept F identifier g h
  advance_in_kept Phase.Active g h = stays_kept F identifier g h
  advance_in_kept Phase.Volatile g h =
      either F identifier (answered kinds.Volatile g.item.seats) (volatile_answered m g.item.superior g) (Goes (stays g))
      (volatile_kept g.item.superior g h.item.is.superior h) (stays_kept F identifier g h)
  advance_in_kept Phase.Durable g h = if_durable_kept g h
  advance_in_kept Phase.Voted g h = stays_kept F identifier g h
  advance_in_kept Phase.Committing g h =
      either F identifier (all_left g.item.seats) (all_committed m g) (Goes (stays g)) (all_committed_kept g h) (stays_kept F identifier g h)
  advance_in_kept Phase.Aborting g h = rolled_back F identifier g h

  pub advance_kept : (g : Moving Transaction) → IsMoving F identifier g → DecidesKept F identifier (advance m g)
  advance_kept g h = advance_in_kept g.item.phase g h

  pub go_volatile_kept : (g : Moving Transaction) → IsMoving F identifier g → DecidesKept F identifier (go_volatile m g)
  unfolding go_volatile
  go_volatile_kept g h =
      let first : Moving Transaction = become (in_phase Phase.Volatile g.item) g in
      advance_in_kept Phase.Volatile (prepare_seats m kinds.Volatile first)
      (send_moving F identifier m notices.Prepare states.Preparing (is_of kinds.Volatile states.Active) first own (phase_moving Phase.Volatile g h))
