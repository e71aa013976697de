-- The rules of a transaction keep it as its phase wants, and post what they owe its participants.
use Rattle.std.specs.Prelude.{List, ◌++◌, Option, Some, None, Bool, true, false, not, ◌&&◌, ◌||◌, if◌then◌else◌, ◌≡◌, ◌⊎◌, refl}
use Rattle.std.specs.List.{list_any, AllByRecursion}
use Rattle.std.proofs.Common.{inl, inr, ap, sym, subst, ◌∙◌}
use Rattle.at_base.specs.Numbers.{Numbers}
use Rattle.at_base.specs.declared.notice.Kind.{Kind}
use Rattle.at_base.specs.declared.notice.Kind.TheVariants as kinds
use Rattle.at_base.specs.declared.notice.Notice.TheVariants as notices
use Rattle.at_base.specs.declared.event.Event.{Event}
use Rattle.at_base.specs.declared.event.Moment.{Moment}
use Rattle.at_base.specs.declared.outs.Post.{Post}
use Rattle.at_base.specs.declared.outs.Ending.TheVariants as endings
use Rattle.at_tables.specs.declared.cells.State.{State}
use Rattle.at_tables.specs.declared.cells.State.TheVariants as states
use Rattle.at_tables.specs.Names.{is_state}
use Rattle.at_base.specs.Names.{is_kind}
use Rattle.at_model.specs.Book.{Completion, Enlistment, Phase, Superior, Transaction}
use Rattle.at_model.specs.Moves.{Moving, Change, Decision, become, effect, posts, stays, forgotten}
use Rattle.at_model.specs.Seats.{completion_in, ending, in_state, initiator_posts, is_open, moved, send_each}
use Rattle.at_model.specs.Abort.{Reason, abort, links_aborted, until_rolled_back, without_links}
use Rattle.model_laws.proofs.DecisionLaws.{DecisionSays, either_says}
use Rattle.owed.specs.Seats.{IsAsked, IsKept, IsOwed, IsTold, Pairs, SaysPrepared}
use Rattle.owed.specs.Shape.{AreSuited, IsShaped, NamesSomebody, StandsUnder, Waits, suits}
use Rattle.owed.proofs.StepSeats.{IsOpened, kept_on, kept_opened, opened_on, pairs_are, pairs_both, pairs_first, rollback_kept}
use Rattle.owed.proofs.Tables.{Are, are_more, are_moved, every_seat}

-- A transaction on its way: of these kinds and states are its seats, and each durable one that was Prepared is told the
-- outcome, or is Prepared still.
abbrev pub From : Event → Transaction → (Kind → State → Bool) → Numbers → List Enlistment → List Post → Type 0
From e old p id seats ps = (id ≡ old.id) × (Are p seats × Pairs (IsKept e old ps) old.seats seats)

-- one that aborts
abbrev pub FromOpen : Event → Transaction → (Kind → State → Bool) → Numbers → List Enlistment → List Post → Type 0
FromOpen e old p id seats ps = (id ≡ old.id) × (Are p seats × Pairs (IsOpened e old ps) old.seats seats)

-- and whoever is asked is posted to
abbrev pub Along : Moment → Event → Transaction → (Kind → State → Bool) → Numbers → List Enlistment → List Post → Type 0
Along m e old p id seats ps = From e old p id seats ps × Pairs (IsAsked m.base e old ps) old.seats seats

abbrev pub On : Moment → Event → Transaction → (Kind → State → Bool) → Moving Transaction → Type 0
On m e old p g = Along m e old p g.item.id g.item.seats g.posts

-- what is left of it
abbrev pub AllTold : Event → Transaction → List Post → Type 0
AllTold e old ps = AllByRecursion (λ s. s.kind ≡ kinds.Durable → SaysPrepared e old s → IsTold ps s) old.seats

abbrev pub LeftIn : Moment → Event → Transaction → List Post → Option Transaction → Type 0
LeftIn m e old ps None = AllTold e old ps
LeftIn m e old ps (Some t) = IsShaped t × ((t.id ≡ old.id) × Pairs (IsOwed m.base e old ps) old.seats t.seats)

abbrev pub Left : Moment → Event → Transaction → Change Transaction → Type 0
Left m e old c = LeftIn m e old c.posts c.item

abbrev pub Owes : Moment → Event → Transaction → Decision Transaction → Type 0
Owes m e old d = DecisionSays (Left m e old) (λ r c. NamesSomebody r) d

pub either : (m : Moment) (e : Event) (old : Transaction) (b : Bool) (c d : Decision Transaction) → (b ≡ true → Owes m e old c) → (b ≡ false → Owes m e old d) → Owes m e old (if b then c else d)
either m e old b c d h k = either_says (Left m e old) (λ r x. NamesSomebody r) b c d h k

-- a transaction that stays
pub stays_so : (m : Moment) (e : Event) (old : Transaction) (p : Kind → State → Bool) (g : Moving Transaction) → On m e old p g → IsShaped g.item → Left m e old (stays g)
stays_so m e old p g ((i, (a, k)), q) h =
    (h, (i, pairs_both (IsKept e old g.posts) (IsAsked m.base e old g.posts) (IsOwed m.base e old g.posts) old.seats g.item.seats (λ o n x y. (x, y)) k q))

-- one that is forgotten has no durable seat that is Prepared
abbrev pub waits_on : Kind → State → Bool
waits_on k s = is_kind k kinds.Durable && is_state s states.Prepared

pub all_told : (e : Event) (old : Transaction) (p : Kind → State → Bool) (id : Numbers) (seats : List Enlistment) (ps : List Post)
    → From e old p id seats ps → Are (λ k s. not (waits_on k s)) seats → AllTold e old ps
all_told ev old p id seats ps (i, (a, k)) h =
    pairs_first (IsKept ev old ps) (λ s. s.kind ≡ kinds.Durable → SaysPrepared ev old s → IsTold ps s) (λ j s. not (waits_on j s)) old.seats seats (λ o n x y. one o n x y) k h
  where
    prepared_still : (k : Kind) (s : State) → not (waits_on k s) ≡ true → k ≡ kinds.Durable → s ≡ states.Prepared → ⊥
    prepared_still k s f d q = let z : not (waits_on kinds.Durable states.Prepared) ≡ true = subst (λ x. not (waits_on kinds.Durable x) ≡ true) q (subst (λ x. not (waits_on x s) ≡ true) d f) in cc

    one : (o n : Enlistment) → IsKept ev old ps o n → not (waits_on n.kind n.state) ≡ true → o.kind ≡ kinds.Durable → SaysPrepared ev old o → IsTold ps o
    one o n (e, x) y d s = by_case (x d s)
      where
        by_case : (n.state ≡ states.Prepared) ⊎ IsTold ps o → IsTold ps o
        by_case (inl f) = absurd (prepared_still n.kind n.state y (ap (λ z. z.kind) e ∙ d) f)
        by_case (inr t) = t

pub none_left : (e : Event) (old : Transaction) (p : Kind → State → Bool) (id : Numbers) (seats : List Enlistment) (ps : List Post) → every_seat (λ k s. not (p k s) || not (waits_on k s)) ≡ true
    → From e old p id seats ps → AllTold e old ps
none_left e old p id seats ps c (i, (a, k)) = all_told e old p id seats ps (i, (a, k)) (are_more p (λ j s. not (waits_on j s)) c seats a)

-- Abort.
abbrev pub opens : Kind → State → Bool
opens k s = is_state s states.Active || is_state s states.Preparing || is_state s states.Prepared

-- seats of these kinds and states may all be rolled back
abbrev pub Loose : (Kind → State → Bool) → Type 0
Loose p = every_seat (λ k s. not (p k s) || suits Phase.Aborting k (if opens k s then states.Aborting else s)) ≡ true

pub rolled_back : (m : Moment) (e : Event) (old : Transaction) (g : Moving Transaction) → g.item.phase ≡ Phase.Aborting → From e old (suits Phase.Aborting) g.item.id g.item.seats g.posts
    → StandsUnder Phase.Aborting g.item.superior g.item.completion → Left m e old (until_rolled_back g)
rolled_back m e old g f (i, (a, k)) h = by_test (list_any (in_state states.Aborting) g.item.seats) refl
  where
    unasked : (o n : Enlistment) → IsKept e old g.posts o n → suits Phase.Aborting n.kind n.state ≡ true → IsOwed m.base e old g.posts o n
    unasked o n x y = (x, ((λ d. absurd (no_asked n.kind n.state states.Preparing d y refl)), (λ d. absurd (no_asked n.kind n.state states.Committing d y refl))))
      where
        no_asked : (k : Kind) (s z : State) → s ≡ z → suits Phase.Aborting k s ≡ true → suits Phase.Aborting k z ≡ false → ⊥
        no_asked k s z q r u = let v : suits Phase.Aborting k z ≡ true = subst (λ w. suits Phase.Aborting k w ≡ true) q r in cc

    by_test : (b : Bool) → list_any (in_state states.Aborting) g.item.seats ≡ b → Left m e old (if b then stays g else forgotten g)
    by_test true j = (
      subst (λ p. AreSuited p g.item.seats × (Waits p g.item.seats × StandsUnder p g.item.superior g.item.completion)) (sym f) (a, (j, h)),
      (i, pairs_are (IsKept e old g.posts) (IsOwed m.base e old g.posts) (suits Phase.Aborting) old.seats g.item.seats unasked k a),
    )
    by_test false j = none_left e old (suits Phase.Aborting) g.item.id g.item.seats g.posts refl (i, (a, k))

-- the transaction with everybody told to roll back
abbrev pub rolling : Moment → Reason → Moving Transaction → Moving Transaction
rolling m reason g =
    posts (initiator_posts m.base g.item.id notices.Aborted g.item.completion)
    (send_each m notices.Rollback states.Aborting is_open
    (become (record g.item {
      superior = without_links g.item.superior;
      phase = Phase.Aborting;
      aborted = Some m.now;
      completion = completion_in states.None g.item.completion;
    })
    (posts (links_aborted m.base g.item.id reason g.item.superior)
    (effect (ending g.item endings.Aborted) g))))

stands_aborted : (s : Option Superior) (c : Option Completion) → StandsUnder Phase.Aborting (without_links s) (completion_in states.None c)
stands_aborted None None = tt
stands_aborted None (Some c) = refl
stands_aborted (Some s) c = (tt, tt)

rolling_from : (m : Moment) (e : Event) (old : Transaction) (p : Kind → State → Bool) (reason : Reason) (g : Moving Transaction) → Loose p → FromOpen e old p g.item.id g.item.seats g.posts
    → From e old (suits Phase.Aborting) (rolling m reason g).item.id (rolling m reason g).item.seats (rolling m reason g).posts
rolling_from m e old p reason g l (i, (a, k)) = (
  i,
  (
    are_moved p (suits Phase.Aborting) opens states.Aborting l g.item.seats a,
    kept_on e old _ (initiator_posts m.base g.item.id notices.Aborted g.item.completion) old.seats (moved is_open states.Aborting g.item.seats)
        (rollback_kept m.base g.item.id e old (g.posts ++ links_aborted m.base g.item.id reason g.item.superior) old.seats g.item.seats
        (opened_on e old g.posts (links_aborted m.base g.item.id reason g.item.superior) old.seats g.item.seats k)),
  ),
)

pub aborts_open : (m : Moment) (e : Event) (old : Transaction) (p : Kind → State → Bool) (reason : Reason) (g : Moving Transaction) → Loose p → FromOpen e old p g.item.id g.item.seats g.posts
    → Left m e old (abort m reason g)
unfolding abort
aborts_open m e old p reason g l h = rolled_back m e old (rolling m reason g) refl (rolling_from m e old p reason g l h) (stands_aborted g.item.superior g.item.completion)

pub aborts : (m : Moment) (e : Event) (old : Transaction) (p : Kind → State → Bool) (reason : Reason) (g : Moving Transaction) → Loose p → From e old p g.item.id g.item.seats g.posts
    → Left m e old (abort m reason g)
aborts m e old p reason g l (i, (a, k)) = aborts_open m e old p reason g l (i, (a, kept_opened e old g.posts old.seats g.item.seats k))
