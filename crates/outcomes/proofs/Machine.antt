-- The machine of atomic commit is consistent.
use Rattle.std.specs.Prelude.{◌≡◌, ◌⊎◌}
use Rattle.std.proofs.Common.{inl, inr, sym, subst, ◌∙◌}
use Rattle.at_model.specs.World.{Who}
use Rattle.outcomes.specs.AtomicCommit.{AllReady, Goes, IsConsistent, IsMember, IsReady, Move, NoneCommitted, State, Status, Step, aborts, begins, commits, goes, leaves, prepares, stays}

-- once one has committed, everybody is ready
abbrev ReadyOnce : Who → State → Type 0
ReadyOnce root s = (y : Who) → IsMember s root y → s.status y ≡ Status.Committed → AllReady root s

not_ready : (s : Status) → IsReady s → (s ≡ Status.Working) ⊎ (s ≡ Status.Aborted) → ⊥
not_ready s h (inl e) = subst IsReady e h
not_ready s h (inr e) = subst IsReady e h

moved_ready : (before after : Status) (root ready uncommitted : Type 0) → IsReady before → (uncommitted → ⊥) → Move before after root ready uncommitted → IsReady after
moved_ready before after root ready uncommitted h never (stays e) = subst IsReady (sym e) h
moved_ready before after root ready uncommitted h never (prepares e f) = subst IsReady (sym f) tt
moved_ready before after root ready uncommitted h never (leaves e f) = subst IsReady (sym f) tt
moved_ready before after root ready uncommitted h never (commits e f r) = subst IsReady (sym f) tt
moved_ready before after root ready uncommitted h never (aborts e f n) = absurd (never n)

one_committed : (before after : Status) (root ready uncommitted : Type 0) → after ≡ Status.Committed → Move before after root ready uncommitted → (before ≡ Status.Committed) ⊎ ready
one_committed before after root ready uncommitted e (stays f) = inl (sym f ∙ e)
one_committed before after root ready uncommitted e (prepares b f) = let g : Status.Prepared ≡ Status.Committed = sym f ∙ e in absurd cc
one_committed before after root ready uncommitted e (leaves b f) = let g : Status.Left ≡ Status.Committed = sym f ∙ e in absurd cc
one_committed before after root ready uncommitted e (commits b f r) = inr r
one_committed before after root ready uncommitted e (aborts b f n) = let g : Status.Aborted ≡ Status.Committed = sym f ∙ e in absurd cc

step_ready : (root : Who) (before after : State) → ReadyOnce root before → Step root before after → ReadyOnce root after
step_ready root before after h s y m e =
    by_move (one_committed (before.status y) (after.status y) (y ≡ root) (AllReady root after) (NoneCommitted root after) e (s.moves y m))
  where
    by_move : (before.status y ≡ Status.Committed) ⊎ AllReady root after → AllReady root after
    by_move (inl was) = λ x k.
        moved_ready (before.status x) (after.status x) (x ≡ root) (AllReady root after) (NoneCommitted root after)
        (h y (s.joins y y m m e) was x (s.joins x y k m e)) (λ none. none y m e) (s.moves x k)
    by_move (inr r) = r

goes_ready : (root : Who) (s : State) → Goes root s → ReadyOnce root s
goes_ready root s (begins h) = λ y m e. absurd (never y e)
  where
    never : (y : Who) → s.status y ≡ Status.Committed → ⊥
    never y e = let f : Status.Working ≡ Status.Committed = sym (h y) ∙ e in cc
goes_ready root s (goes before rest last) = step_ready root before s (goes_ready root before rest) last

pub consistent : IsConsistent
consistent root s h x y m k e f = not_ready (s.status y) (goes_ready root s h x m e y k) (inr f)
