-- Each deed of a leaf keeps what its state, its records and its effects say of it.
use Rattle.std.specs.Prelude.{ℕ, List, [], ◌∷◌, ◌++◌, Option, Some, None, true, false, ◌||◌, ◌≡◌, ◌⊎◌, refl}
use Rattle.std.proofs.Common.{inl, inr, sym, subst, ap, ◌∙◌}
use Rattle.std.proofs.lemmas.List.{append-nil}
use Rattle.at_base.specs.Numbers.{Numbers}
use Rattle.at_base.specs.declared.epr.Epr.{Epr}
use Rattle.at_base.specs.declared.notice.Kind.{Kind}
use Rattle.at_base.specs.declared.notice.Kind.TheVariants as kinds
use Rattle.at_base.specs.declared.record.Record.{Record}
use Rattle.at_base.specs.declared.record.Record.TheVariants as records
use Rattle.at_base.specs.declared.event.Event.{Event}
use Rattle.at_base.specs.declared.event.Moment.{Moment}
use Rattle.at_base.specs.declared.outs.Ending.{Ending}
use Rattle.at_base.specs.declared.outs.Ending.TheVariants as endings
use Rattle.at_base.specs.declared.outs.Effect.{Effect}
use Rattle.at_base.specs.declared.outs.Post.{Post}
use Rattle.at_tables.specs.declared.cells.State.{State}
use Rattle.at_tables.specs.declared.cells.State.TheVariants as states
use Rattle.at_model.specs.Book.{Leaf, Transaction}
use Rattle.at_model.specs.Leaves.{leaf_ended}
use Rattle.at_model.specs.Moves.{Change}
use Rattle.at_model.specs.Recovery.{is_promise, kept, live}
use Rattle.model_laws.specs.Agreement.{IsIn}
use Rattle.model_laws.proofs.RecoveryLaws.{self_id}
use Rattle.agreement.specs.Branches.{recorded as written}
use Rattle.agreement.specs.Journals.{IsNoSubCommit, drops}
use Rattle.agreement.specs.LeafDeeds.{LeafDeed, LeafIdles, aborts, commits, dropped, for_durable, idles, leaves, prepares, registered, registers_again, rests, rolls_back, votes_again}
use Rattle.agreement.specs.Lives.{IsUnrecorded, Life, PromisesNothing, ends, has_aborted, has_committed, has_decided, has_voted, is_gone, is_undecided, waits, works}
use Rattle.agreement.proofs.OtherIds.{ends_first, nothing_live}
use Rattle.agreement.proofs.TransactionLives.{IsGone, ended_by, gone_ended, gone_unended, promise_is_live}

pub data LeafLife (rs : List Record) (fx : List Effect) (id : Numbers) (l : Leaf) : Type 0 where
  unrecorded : IsUnrecorded l → PromisesNothing id rs → ends id fx ≡ [] → LeafLife rs fx id l
  prepared : (coordinator : Epr) (key value : List ℕ) → l.kind ≡ kinds.Durable → l.state ≡ states.PreparedSuccess → IsIn (records.LeafPrepared id coordinator key value) (live rs)
      → ends id fx ≡ [] → LeafLife rs fx id l

abbrev pub LeafLeft : List Record → List Effect → Numbers → Option Leaf → Type 0
LeafLeft rs fx id None = IsGone rs fx id
LeafLeft rs fx id (Some l) = LeafLife rs fx id l

-- no transaction has its id
pub record LeafAlone (rs : List Record) (fx : List Effect) (id : Numbers) (t : Option Transaction) (l : Leaf) : Type 0 where
  pub life : LeafLife rs fx id l
  pub transaction : t ≡ None

pub leaf_alone : (rs : List Record) (fx : List Effect) (id : Numbers) (t : Option Transaction) (l : Leaf) → Life rs fx id t (Some l) → LeafAlone rs fx id t l
leaf_alone rs fx id t l (is_gone e f dead over once) = absurd cc
leaf_alone rs fx id t l (is_undecided x e f o nothing k) = absurd cc
leaf_alone rs fx id t l (has_voted x superior seats e f o u h out k) = absurd cc
leaf_alone rs fx id t l (has_decided x seats e f o u h k) = absurd cc
leaf_alone rs fx id t l (has_committed x superior seats e f o u h i k) = absurd cc
leaf_alone rs fx id t l (has_aborted x e f o dead k) = absurd cc
leaf_alone rs fx id t l (works x e f o nothing k) = let same : x ≡ l = cc in subst (λ y. LeafAlone rs fx id t y) same (record { life = unrecorded o nothing k; transaction = e })
leaf_alone rs fx id t l (waits x coordinator key value e f d o h k) =
    let same : x ≡ l = cc in subst (λ y. LeafAlone rs fx id t y) same (record { life = prepared coordinator key value d o h k; transaction = e })

pub leaf_left_life : (rs : List Record) (fx : List Effect) (id : Numbers) (t : Option Transaction) (l : Option Leaf) → LeafLeft rs fx id l → t ≡ None → Life rs fx id t l
leaf_left_life rs fx id t None h e = is_gone e refl h.dead h.over h.once
leaf_left_life rs fx id t (Some l) (unrecorded o nothing k) e = works l e refl o nothing k
leaf_left_life rs fx id t (Some l) (prepared coordinator key value d o h k) e = waits l coordinator key value e refl d o h k

-- with no record and no effect
at_rest : (rs : List Record) (fx : List Effect) (id : Numbers) (l : Option Leaf) → LeafLeft rs fx id l → LeafLeft (rs ++ []) (fx ++ []) id l
at_rest rs fx id l h = subst (λ ys. LeafLeft ys (fx ++ []) id l) (sym (append-nil rs)) (subst (λ ys. LeafLeft rs ys id l) (sym (append-nil fx)) h)

leaf_as : (rs : List Record) (fx : List Effect) (id : Numbers) (l left : Leaf) → left.state ≡ l.state → left.kind ≡ l.kind → LeafLife rs fx id l → LeafLife rs fx id left
leaf_as rs fx id l left e f (unrecorded (inl o) nothing k) = unrecorded (inl (e ∙ o)) nothing k
leaf_as rs fx id l left e f (unrecorded (inr (inl o)) nothing k) = unrecorded (inr (inl (e ∙ o))) nothing k
leaf_as rs fx id l left e f (unrecorded (inr (inr o)) nothing k) = unrecorded (inr (inr (f ∙ o))) nothing k
leaf_as rs fx id l left e f (prepared coordinator key value d o h k) = prepared coordinator key value (f ∙ d) (e ∙ o) h k

early_prepared : (s : State) → (s ≡ states.Registering) ⊎ (s ≡ states.Active) → s ≡ states.PreparedSuccess → ⊥
early_prepared s (inl e) f = let g : states.Registering ≡ states.PreparedSuccess = sym e ∙ f in cc
early_prepared s (inr e) f = let g : states.Active ≡ states.PreparedSuccess = sym e ∙ f in cc

volatile_durable : (k : Kind) → k ≡ kinds.Volatile → k ≡ kinds.Durable → ⊥
volatile_durable k e f = let g : kinds.Volatile ≡ kinds.Durable = sym e ∙ f in cc

early : (rs : List Record) (fx : List Effect) (id : Numbers) (l : Leaf) → (l.state ≡ states.Registering) ⊎ (l.state ≡ states.Active) → LeafLife rs fx id l
    → PromisesNothing id rs × (ends id fx ≡ [])
early rs fx id l s (unrecorded o nothing k) = (nothing, k)
early rs fx id l s (prepared coordinator key value d o h k) = absurd (early_prepared l.state s o)

volatile : (rs : List Record) (fx : List Effect) (id : Numbers) (l : Leaf) → l.kind ≡ kinds.Volatile → LeafLife rs fx id l → PromisesNothing id rs × (ends id fx ≡ [])
volatile rs fx id l e (unrecorded o nothing k) = (nothing, k)
volatile rs fx id l e (prepared coordinator key value d o h k) = absurd (volatile_durable l.kind e d)

leaf_end_first : (fx : List Effect) (l : Leaf) (what : Ending) → ends l.id fx ≡ [] → ends l.id (fx ++ leaf_ended l what ∷ []) ≡ leaf_ended l what ∷ []
leaf_end_first fx l what none = ends_first l.id fx (leaf_ended l what) (self_id l.id) none

is_prepared : (id : Numbers) (coordinator : Epr) (key value : List ℕ) → is_promise id (records.LeafPrepared id coordinator key value) ≡ true
is_prepared id coordinator key value = ap (λ b. b || false) (self_id id)

-- what stays
idles_on : (m : Moment) (e : Event) (rs : List Record) (fx : List Effect) (l left : Leaf) (ps : List Post) → LeafLife rs fx l.id l → LeafIdles m e l left ps → LeafLife rs fx l.id left
idles_on m e rs fx l left ps h (rests same says) = subst (LeafLife rs fx l.id) (sym same) h
idles_on m e rs fx l left ps h (registered coordinator r came answers state request same says) =
    let (nothing, k) = early rs fx l.id l (inl state) h in
    subst (LeafLife rs fx l.id) (sym same) (unrecorded (inr (inl refl)) nothing k)
idles_on m e rs fx l left ps h (registers_again r due state request same says) =
    subst (LeafLife rs fx l.id) (sym same) (leaf_as rs fx l.id l (record l { sent = Some m.now }) refl refl h)
idles_on m e rs fx l left ps h (votes_again to why state knows same says) =
    subst (LeafLife rs fx l.id) (sym same) (leaf_as rs fx l.id l (record l { sent = Some m.now }) refl refl h)

-- it votes Prepared
votes_on : (rs : List Record) (fx : List Effect) (l left : Leaf) (to : Epr) (k : Kind) → l.kind ≡ k → left.kind ≡ k → left.state ≡ states.PreparedSuccess → l.state ≡ states.Active
    → LeafLife rs fx l.id l → LeafLife (rs ++ written (for_durable k (records.LeafPrepared l.id to l.key l.value))) (fx ++ []) l.id left
votes_on rs fx l left to kinds.Durable same kind state was h =
    let (nothing, k) = early rs fx l.id l (inr was) h in
    prepared to l.key l.value kind state (promise_is_live rs l.id (records.LeafPrepared l.id to l.key l.value) nothing (is_prepared l.id to l.key l.value) refl)
    (ap (ends l.id) (append-nil fx) ∙ k)
votes_on rs fx l left to kinds.Volatile same kind state was h =
    let (nothing, k) = early rs fx l.id l (inr was) h in
    at_rest rs fx l.id (Some left) (unrecorded (inr (inr kind)) nothing k)

-- it hears the outcome
is_recorded : (l : Leaf) → l.kind ≡ kinds.Durable → l.state ≡ states.PreparedSuccess → IsUnrecorded l → ⊥
is_recorded l d s (inl e) = early_prepared l.state (inl e) s
is_recorded l d s (inr (inl e)) = early_prepared l.state (inr e) s
is_recorded l d s (inr (inr e)) = volatile_durable l.kind e d

ends_on : (rs : List Record) (fx : List Effect) (l : Leaf) (r : Record) (what : Ending) (k : Kind) → l.kind ≡ k → l.state ≡ states.PreparedSuccess → IsNoSubCommit r → kept r [] ≡ []
    → ((coordinator : Epr) (key value : List ℕ) → drops r (records.LeafPrepared l.id coordinator key value) ≡ true) → LeafLife rs fx l.id l
    → IsGone (rs ++ written (for_durable k r)) (fx ++ leaf_ended l what ∷ []) l.id
ends_on rs fx l r what kinds.Durable same state plain none drop (unrecorded o nothing k) = absurd (is_recorded l same state o)
ends_on rs fx l r what kinds.Durable same state plain none drop (prepared coordinator key value d o h k) =
    gone_ended (rs ++ r ∷ []) (fx ++ leaf_ended l what ∷ []) l.id (leaf_ended l what)
    (ended_by rs l.id r (records.LeafPrepared l.id coordinator key value) plain none h (is_prepared l.id coordinator key value) (drop coordinator key value))
    (leaf_end_first fx l what k)
ends_on rs fx l r what kinds.Volatile same state plain none drop h =
    let (nothing, k) = volatile rs fx l.id l same h in
    subst (λ ys. IsGone ys (fx ++ leaf_ended l what ∷ []) l.id) (sym (append-nil rs))
    (gone_ended rs (fx ++ leaf_ended l what ∷ []) l.id (leaf_ended l what) (nothing_live l.id rs nothing) (leaf_end_first fx l what k))

-- each deed
abbrev LeafKept : List Record → List Effect → Leaf → Option Record → List Effect → Option Leaf → Type 0
LeafKept rs fx l entry gx left = LeafLeft (rs ++ written entry) (fx ++ gx) l.id left

given : (rs : List Record) (fx : List Effect) (l : Leaf) (entry r : Option Record) (gx hx : List Effect) (left x : Option Leaf) → entry ≡ r → gx ≡ hx → left ≡ x → LeafKept rs fx l r hx x
    → LeafKept rs fx l entry gx left
given rs fx l entry r gx hx left x e f g h =
    subst (λ o. LeafKept rs fx l o gx left) (sym e) (subst (λ es. LeafKept rs fx l r es left) (sym f) (subst (λ o. LeafKept rs fx l r hx o) (sym g) h))

pub leaf_by_deed : (m : Moment) (e : Event) (rs : List Record) (fx : List Effect) (l : Leaf) (entry : Option Record) (c : Change Leaf) → LeafLife rs fx l.id l → LeafDeed m e l entry c
    → LeafLeft (rs ++ written entry) (fx ++ c.effects) l.id c.item
leaf_by_deed m e rs fx l entry c h (idles left why none item effects) =
    given rs fx l entry None c.effects [] c.item (Some left) none effects item (at_rest rs fx l.id (Some left) (idles_on m e rs fx l left c.posts h why))
leaf_by_deed m e rs fx l entry c h (aborts state why none item effects) =
    let (nothing, k) = early rs fx l.id l state h in
    given rs fx l entry None c.effects (leaf_ended l endings.Aborted ∷ []) c.item None none effects item
    (subst (λ ys. IsGone ys (fx ++ leaf_ended l endings.Aborted ∷ []) l.id) (sym (append-nil rs))
    (gone_ended rs (fx ++ leaf_ended l endings.Aborted ∷ []) l.id (leaf_ended l endings.Aborted) (nothing_live l.id rs nothing) (leaf_end_first fx l endings.Aborted k)))
leaf_by_deed m e rs fx l entry c h (prepares to came state vote knows is item effects says) =
    given rs fx l entry (for_durable l.kind (records.LeafPrepared l.id to l.key l.value)) c.effects [] c.item (Some (record l { state = states.PreparedSuccess; sent = Some m.now })) is effects item
    (votes_on rs fx l (record l { state = states.PreparedSuccess; sent = Some m.now }) to l.kind refl refl refl state h)
leaf_by_deed m e rs fx l entry c h (leaves to came state vote knows none item effects says) =
    let (nothing, k) = early rs fx l.id l (inr state) h in
    given rs fx l entry None c.effects [] c.item None none effects item (at_rest rs fx l.id None (gone_unended rs fx l.id nothing k))
leaf_by_deed m e rs fx l entry c h (dropped came kind none item effects says) =
    let (nothing, k) = volatile rs fx l.id l kind h in
    given rs fx l entry None c.effects [] c.item None none effects item (at_rest rs fx l.id None (gone_unended rs fx l.id nothing k))
leaf_by_deed m e rs fx l entry c h (commits to came state knows is item effects says) =
    given rs fx l entry (for_durable l.kind (records.LeafCommitted l.id)) c.effects (leaf_ended l endings.Committed ∷ []) c.item None is effects item
    (ends_on rs fx l (records.LeafCommitted l.id) endings.Committed l.kind refl state tt refl (λ coordinator key value. ap (λ b. b || false) (self_id l.id)) h)
leaf_by_deed m e rs fx l entry c h (rolls_back to came state knows is item effects says) =
    given rs fx l entry (for_durable l.kind (records.LeafAborted l.id)) c.effects (leaf_ended l endings.Aborted ∷ []) c.item None is effects item
    (ends_on rs fx l (records.LeafAborted l.id) endings.Aborted l.kind refl state tt refl (λ coordinator key value. ap (λ b. b || false) (self_id l.id)) h)
