-- What the parts of a transaction keep as it moves, and what its moves post.
use Rattle.std.specs.Prelude.{ℕ, List, [], ◌∷◌, Option, Some, None, Bool, IfSome, if◌then◌else◌, filter, ◌≡◌}
use Rattle.std.specs.List.{AllByRecursion}
use Rattle.at_base.specs.Numbers.{Numbers}
use Rattle.at_base.specs.IdText.{IsId}
use Rattle.at_base.specs.declared.event.Moment.{Moment}
use Rattle.at_base.specs.declared.notice.Kind.{Kind}
use Rattle.at_base.specs.declared.notice.Kind.TheVariants as kinds
use Rattle.at_base.specs.declared.notice.Notice.{Notice}
use Rattle.at_base.specs.declared.outs.Post.{Post}
use Rattle.at_base.specs.declared.target.Target.TheVariants as targets
use Rattle.at_tables.specs.declared.cells.State.{State}
use Rattle.at_tables.specs.declared.cells.State.TheVariants as states
use Rattle.at_tables.specs.Names.{is_state}
use Rattle.at_model.specs.Book.{Completion, Enlistment, Link, Superior, Transaction}
use Rattle.at_model.specs.Posts.{notice_post}
use Rattle.at_model.specs.Moves.{Change, Decision, Moving, begin, forgotten, post, posts, stays}
use Rattle.at_model.specs.Seats.{completion_in, initiator_posts, is_prepared_durable, link_in, link_of, moved, notices_to, prepared, seat_in, seat_target, seated, send_each, set_link}
use Rattle.at_model.specs.Abort.{without_links}
use Rattle.at_model.specs.Phases.{upwards}
use Rattle.model_laws.proofs.DecisionLaws.{all_filter, all_if, all_join, all_map, all_more, either_says}
use Rattle.provenance.specs.Forms.{ArePosts, Forms, HaveOwn, IsLink, IsPost, IsSeat, IsSeated, IsSuperior, IsTransaction}
use Rattle.provenance.proofs.Decisions.{Decides, Enters, Leaves}
use Rattle.provenance.proofs.TransactionPosts.{each_has, notice_has}

-- a transaction that has this identifier still
pub record IsKept (F : Forms) (identifier : List ℕ) (t : Transaction) : Type 0 where
  pub is : IsTransaction F t
  pub same : t.identifier ≡ identifier

pub record IsMoving (F : Forms) (identifier : List ℕ) (g : Moving Transaction) : Type 0 where
  pub item : IsKept F identifier g.item
  pub posts : ArePosts F g.posts

abbrev pub Keeps : Forms → List ℕ → Change Transaction → Type 0
Keeps F identifier c = Leaves F (IsKept F identifier) c

abbrev pub DecidesKept : Forms → List ℕ → Decision Transaction → Type 0
DecidesKept F identifier d = Decides F (IsKept F identifier) d

module _ (F : Forms) (identifier : List ℕ) where
  pub either : (b : Bool) (d e : Decision Transaction) → DecidesKept F identifier d → DecidesKept F identifier e → DecidesKept F identifier (if b then d else e)
  either b d e h k = either_says (Keeps F identifier) (Enters F) b d e (λ x. h) (λ x. k)

  pub stays_kept : (g : Moving Transaction) → IsMoving F identifier g → Keeps F identifier (stays g)
  stays_kept g h = record { item = h.item; posts = h.posts }

  pub forgotten_kept : (g : Moving Transaction) → ArePosts F g.posts → Keeps F identifier (forgotten g)
  forgotten_kept g h = record { item = tt; posts = h }

  pub begin_moving : (t : Transaction) → IsKept F identifier t → IsMoving F identifier (begin t)
  begin_moving t h = record { item = h; posts = tt }

  pub posts_moving : (ps : List Post) (g : Moving Transaction) → ArePosts F ps → IsMoving F identifier g → IsMoving F identifier (posts ps g)
  posts_moving ps g h k = record { item = k.item; posts = all_join (IsPost F) g.posts ps k.posts h }

  pub post_moving : (p : Post) (g : Moving Transaction) → IsPost F p → IsMoving F identifier g → IsMoving F identifier (post p g)
  post_moving p g h k = posts_moving (p ∷ []) g (h, tt) k

  -- links
  pub link_has : (kind : Kind) (s : Superior) → IsSuperior F identifier s → IsLink F (link_of kind s)
  link_has kinds.Volatile s h = h.volatile
  link_has kinds.Durable s h = h.durable

  pub set_link_has : (kind : Kind) (link : Link) (s : Superior) → IsLink F link → IsSuperior F identifier s → IsSuperior F identifier (set_link kind link s)
  set_link_has kinds.Volatile link s h k = record { volatile = h; durable = k.durable; request = k.request }
  set_link_has kinds.Durable link s h k = record { volatile = k.volatile; durable = h; request = k.request }

  pub link_in_has : (kind : Kind) (state : State) (s : Superior) → IsSuperior F identifier s → IsSuperior F identifier (link_in kind state s)
  link_in_has kind state s h = set_link_has kind (record { state = state; coordinator = (link_of kind s).coordinator }) s (link_has kind s h) h

  pub without_links_has : (s : Option Superior) → IfSome s (IsSuperior F identifier) → IfSome (without_links s) (IsSuperior F identifier)
  without_links_has None h = tt
  without_links_has (Some s) h = link_in_has kinds.Volatile states.None (link_in kinds.Durable states.None s) (link_in_has kinds.Durable states.None s h)

module _ (F : Forms) where
  pub completion_has : (state : State) (c : Option Completion) → IfSome c (λ x. F.endpoint x.initiator) → IfSome (completion_in state c) (λ x. F.endpoint x.initiator)
  completion_has state None h = tt
  completion_has state (Some c) h = h

  -- seats
  pub moved_have : (id : Numbers) (test : Enlistment → Bool) (state : State) (seats : List Enlistment) → AllByRecursion (IsSeat F id) seats
      → AllByRecursion (IsSeat F id) (moved test state seats)
  moved_have id test state [] h = tt
  moved_have id test state (s ∷ seats) (h, k) = (record { number = h.number; participant = h.participant }, moved_have id test state seats k)

  seated_has : (id : Numbers) (s : Enlistment) → IsSeat F id s → IsSeated F (seated s)
  seated_has id s h = record { least = h.number.1; most = h.number.2; endpoint = h.participant }

  pub prepared_have : (id : Numbers) (seats : List Enlistment) → AllByRecursion (IsSeat F id) seats → AllByRecursion (IsSeated F) (prepared seats)
  prepared_have id seats h =
      let named : List Enlistment = filter is_prepared_durable seats in
      all_map (IsSeated F) seated named (all_more (IsSeat F id) (λ s. IsSeated F (seated s)) named (seated_has id) (all_filter (IsSeat F id) is_prepared_durable seats h))

  pub seat_in_has : (identifier : List ℕ) (number : ℕ) (state : State) (t : Transaction) → IsKept F identifier t → IsKept F identifier (seat_in number state t)
  seat_in_has identifier number state t h = record {
    is = record { id = h.is.id; superior = h.is.superior; seats = moved_have t.id _ state t.seats h.is.seats; completion = h.is.completion };
    same = h.same;
  }

module _ (F : Forms) (base : List ℕ) (own : HaveOwn F base) where
  pub notices_have : (id : Numbers) (n : Notice) (seats : List Enlistment) (test : Enlistment → Bool) → AllByRecursion (IsSeat F id) seats → ArePosts F (notices_to base id n seats test)
  notices_have id n seats test h =
      let says : Enlistment → Post = λ s. notice_post base (seat_target id s) s.participant n in
      let asked : List Enlistment = filter test seats in
      all_map (IsPost F) says asked
      (all_more (IsSeat F id) (λ s. IsPost F (says s)) asked (λ s k. notice_has F base own (seat_target id s) s.participant n k.number k.participant) (all_filter (IsSeat F id) test seats h))

  pub initiator_has : (id : Numbers) (n : Notice) (c : Option Completion) → IsId id → IfSome c (λ x. F.endpoint x.initiator) → ArePosts F (initiator_posts base id n c)
  initiator_has id n None h k = tt
  initiator_has id n (Some c) h k =
      all_if (IsPost F) (is_state c.state states.None) [] (notice_post base (targets.Completion id) c.initiator n ∷ []) tt
      (notice_has F base own (targets.Completion id) c.initiator n h k, tt)

  pub upwards_have : (id : Numbers) (kind : Kind) (n : Notice) (link : Link) → IsId id → IsLink F link → ArePosts F (upwards base id kind n link)
  upwards_have id kind n link h k =
      each_has F link.coordinator (λ to. notice_post base (targets.Participant id kind) to n) k (λ to e. notice_has F base own (targets.Participant id kind) to n h e)

pub send_moving : (F : Forms) (identifier : List ℕ) (m : Moment) (n : Notice) (state : State) (test : Enlistment → Bool) (g : Moving Transaction) → HaveOwn F m.base → IsMoving F identifier g
    → IsMoving F identifier (send_each m n state test g)
send_moving F identifier m n state test g own h = record {
  item = record {
    is = record {
      id = h.item.is.id;
      superior = h.item.is.superior;
      seats = moved_have F g.item.id test state g.item.seats h.item.is.seats;
      completion = h.item.is.completion;
    };
    same = h.item.same;
  };
  posts = all_join (IsPost F) g.posts (notices_to m.base g.item.id n g.item.seats test) h.posts (notices_have F m.base own g.item.id n g.item.seats test h.item.is.seats);
}
