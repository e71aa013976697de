-- How an item stands, and how it ended.
use Rattle.std.specs.Prelude.{ℕ, List, [], ◌∷◌, Option, Some, None, Bool, true, false, if◌then◌else◌, nat_eq, length, filter, ◌≡◌, ◌⊎◌, ◌≤◌, refl}
use Rattle.std.proofs.Common.{arith, inl, inr, sym, subst, ap, ◌∙◌}
use Rattle.std.proofs.lemmas.Bool.{eq-eqb, eqb-true}
use Rattle.at_base.specs.Numbers.{Numbers}
use Rattle.at_base.specs.declared.notice.Kind.TheVariants as kinds
use Rattle.at_base.specs.declared.record.Record.{Record}
use Rattle.at_base.specs.declared.outs.Effect.{Effect}
use Rattle.at_base.specs.declared.outs.Effect.TheVariants as effects
use Rattle.at_base.specs.declared.outs.Ending.{Ending}
use Rattle.at_base.specs.declared.outs.Ending.TheVariants as endings
use Rattle.at_model.specs.Book.{Leaf, Phase, Superior, Transaction}
use Rattle.at_model.specs.Due.{may_expire}
use Rattle.at_model.specs.Seats.{ending, ending_of}
use Rattle.at_model.specs.World.{Happened, World, happened_at}
use Rattle.model_laws.specs.Agreement.{HasAborted, HasCommitted, HasEnded, IsIn, ends_as}
use Rattle.model_laws.proofs.RecoveryLaws.{self_id}
use Rattle.agreement.specs.Lives.{Life, PromisesNothing, ends, happened_on, has_aborted, has_committed, has_decided, has_voted, is_gone, is_undecided, waits, works}
use Rattle.agreement.proofs.TransactionLives.{TransactionLife, aborted, alone, committed, decided, undecided, voted}

-- in a list of those that pass a test
pub passes : {A : Type 0} (p : A → Bool) (x : A) (xs : List A) → IsIn x xs → p x ≡ true → IsIn x (filter p xs)
passes p x [] h e = absurd h
passes {A = A} p x (y ∷ ys) (inl f) e = subst (IsIn x) (sym (ap (λ b. if b then y ∷ filter p ys else filter p ys) (ap p (sym f) ∙ e))) (inl f)
passes {A = A} p x (y ∷ ys) (inr h) e = by_case (p y) (passes p x ys h e)
  where
    by_case : (b : Bool) → IsIn x (filter p ys) → IsIn x (if b then y ∷ filter p ys else filter p ys)
    by_case true k = inr k
    by_case false k = k

pub passed : {A : Type 0} (p : A → Bool) (x : A) (xs : List A) → IsIn x (filter p xs) → IsIn x xs
passed p x [] h = h
passed {A = A} p x (y ∷ ys) h = by_case (p y) (passed p x ys) h
  where
    by_case : (b : Bool) → (IsIn x (filter p ys) → IsIn x ys) → IsIn x (if b then y ∷ filter p ys else filter p ys) → IsIn x (y ∷ ys)
    by_case true f (inl e) = inl e
    by_case true f (inr k) = inr (f k)
    by_case false f k = inr (f k)

pub in_there : (n : ℕ) (e : Effect) (hs : List Happened) → IsIn (happened_at n e) hs → IsIn e (happened_on n hs)
in_there n e [] i = absurd i
in_there n e (h ∷ hs) (inl f) =
    subst (IsIn e) (sym (ap (λ b. if b then h.what ∷ happened_on n hs else happened_on n hs) (ap (λ (x : Happened). nat_eq x.node n) (sym f) ∙ eq-eqb n n refl))) (inl (ap (λ (x : Happened). x.what) f))
in_there n e (h ∷ hs) (inr i) = by_case (nat_eq h.node n) (in_there n e hs i)
  where
    by_case : (b : Bool) → IsIn e (happened_on n hs) → IsIn e (if b then h.what ∷ happened_on n hs else happened_on n hs)
    by_case true k = inr k
    by_case false k = k

pub from_there : (n : ℕ) (e : Effect) (hs : List Happened) → IsIn e (happened_on n hs) → IsIn (happened_at n e) hs
from_there n e [] i = i
from_there n e (h ∷ hs) i = by_case (nat_eq h.node n) refl (from_there n e hs) i
  where
    by_case : (b : Bool) → nat_eq h.node n ≡ b → (IsIn e (happened_on n hs) → IsIn (happened_at n e) hs) → IsIn e (if b then h.what ∷ happened_on n hs else happened_on n hs)
        → IsIn (happened_at n e) (h ∷ hs)
    by_case true f g (inl k) = let same : h.node ≡ n = eqb-true h.node n f in inl (λ i. record { node = sym same i; what = k i })
    by_case true f g (inr k) = inr (g k)
    by_case false f g k = inr (g k)

-- an end of the item
abbrev pub as_what : Effect → Option Ending
as_what (effects.Root i what) = Some what
as_what (effects.Sub i what) = Some what
as_what (effects.Leaf i kind what) = Some what
as_what (effects.Told i what) = None

pub record EndedAs (fx : List Effect) (id : Numbers) (what : Ending) : Type 0 where
  effect : Effect
  ended : IsIn effect (ends id fx)
  so : as_what effect ≡ Some what

pub ended_as : (w : World) (n : ℕ) (id : Numbers) (what : Ending) → HasEnded w (record { node = n; id = id }) what → EndedAs (happened_on n w.happened) id what
ended_as w n id what (inl i) =
    record { effect = effects.Root id what; ended = passes (ends_as id) (effects.Root id what) (happened_on n w.happened) (in_there n (effects.Root id what) w.happened i) (self_id id); so = refl }
ended_as w n id what (inr (inl i)) =
    record { effect = effects.Sub id what; ended = passes (ends_as id) (effects.Sub id what) (happened_on n w.happened) (in_there n (effects.Sub id what) w.happened i) (self_id id); so = refl }
ended_as w n id what (inr (inr i)) = record {
  effect = effects.Leaf id kinds.Durable what;
  ended = passes (ends_as id) (effects.Leaf id kinds.Durable what) (happened_on n w.happened) (in_there n (effects.Leaf id kinds.Durable what) w.happened i) (self_id id);
  so = refl;
}

-- no end, or one
never_ended : (fx : List Effect) (id : Numbers) (what : Ending) → ends id fx ≡ [] → EndedAs fx id what → ⊥
never_ended fx id what none h = subst (IsIn h.effect) none h.ended

ended_once : (fx : List Effect) (id : Numbers) (e : Effect) (what : Ending) → ends id fx ≡ e ∷ [] → EndedAs fx id what → as_what e ≡ Some what
ended_once fx id e what one h = by_place (subst (IsIn h.effect) one h.ended)
  where
    by_place : IsIn h.effect (e ∷ []) → as_what e ≡ Some what
    by_place (inl f) = sym (ap as_what f) ∙ h.so
    by_place (inr f) = absurd f

one_only : (xs : List Effect) (x y : Effect) → length xs ≤ 1 → IsIn x xs → IsIn y xs → x ≡ y
one_only [] x y l h k = absurd h
one_only (z ∷ []) x y l (inl e) (inl f) = e ∙ sym f
one_only (z ∷ []) x y l (inr h) k = absurd h
one_only (z ∷ []) x y l (inl e) (inr k) = absurd k
one_only (z ∷ v ∷ zs) x y l h k = absurd (omega (arith, l))

-- by its effect
ended_here : (w : World) (n : ℕ) (id : Numbers) (e : Effect) → ends id (happened_on n w.happened) ≡ e ∷ [] → IsIn (happened_at n e) w.happened
ended_here w n id e one = from_there n e w.happened (passed (ends_as id) e (happened_on n w.happened) (subst (IsIn e) (sym one) (inl refl)))

pub by_ending : (w : World) (n : ℕ) (id : Numbers) (s : Option Superior) (what : Ending) → IsIn (happened_at n (ending_of s id what)) w.happened → HasEnded w (record { node = n; id = id }) what
by_ending w n id None what i = inl i
by_ending w n id (Some s) what i = inr (inl i)

pub as_ending : (s : Option Superior) (id : Numbers) (what : Ending) → as_what (ending_of s id what) ≡ Some what
as_ending None id what = refl
as_ending (Some s) id what = refl

different : (one other : Ending) → Some one ≡ Some other → one ≡ other
different one other e = cc

-- it hasn't both committed and aborted
both_ends : (fx : List Effect) (id : Numbers) (one other : Ending) → length (ends id fx) ≤ 1 → EndedAs fx id one → EndedAs fx id other → Some one ≡ Some other
both_ends fx id one other l h k = sym h.so ∙ ap as_what (one_only (ends id fx) h.effect k.effect l h.ended k.ended) ∙ k.so

at_most_one : (es : List Effect) (e : Effect) → es ≡ e ∷ [] → length es ≤ 1
at_most_one es e k = subst (λ (fs : List Effect). length fs ≤ 1) (sym k) (omega arith)

unended : (es : List Effect) → es ≡ [] → length es ≤ 1
unended es k = subst (λ (fs : List Effect). length fs ≤ 1) (sym k) (omega arith)

pub life_once : (rs : List Record) (fx : List Effect) (id : Numbers) (t : Option Transaction) (l : Option Leaf) → Life rs fx id t l → length (ends id fx) ≤ 1
life_once rs fx id t l (is_gone e f dead over once) = once
life_once rs fx id t l (is_undecided x e f o nothing k) = unended (ends id fx) k
life_once rs fx id t l (has_voted x superior seats e f o u h out k) = unended (ends id fx) k
life_once rs fx id t l (has_decided x seats e f o u h k) = at_most_one (ends id fx) (effects.Root id endings.Committed) k
life_once rs fx id t l (has_committed x superior seats e f o u h i k) = at_most_one (ends id fx) (effects.Sub id endings.Committed) k
life_once rs fx id t l (has_aborted x e f o dead k) = at_most_one (ends id fx) (ending x endings.Aborted) k
life_once rs fx id t l (works x e f o nothing k) = unended (ends id fx) k
life_once rs fx id t l (waits x coordinator key value e f d o h k) = unended (ends id fx) k

pub not_both : (w : World) (n : ℕ) (id : Numbers) → length (ends id (happened_on n w.happened)) ≤ 1 → HasCommitted w (record { node = n; id = id }) → HasAborted w (record { node = n; id = id }) → ⊥
not_both w n id l c (inl a) =
    let e : endings.Committed ≡ endings.Aborted = different endings.Committed endings.Aborted
    (both_ends (happened_on n w.happened) id endings.Committed endings.Aborted l (ended_as w n id endings.Committed c) (ended_as w n id endings.Aborted a)) in cc
not_both w n id l c (inr a) =
    let e : endings.Committed ≡ endings.Lost = different endings.Committed endings.Lost
    (both_ends (happened_on n w.happened) id endings.Committed endings.Lost l (ended_as w n id endings.Committed c) (ended_as w n id endings.Lost a)) in cc

pub not_ended : (w : World) (n : ℕ) (id : Numbers) → ends id (happened_on n w.happened) ≡ [] → (what : Ending) → HasEnded w (record { node = n; id = id }) what → ⊥
not_ended w n id none what h = never_ended (happened_on n w.happened) id what none (ended_as w n id what h)

-- a transaction that stands in a book
pub life_of : (rs : List Record) (fx : List Effect) (id : Numbers) (o : Option Transaction) (l : Option Leaf) (t : Transaction) → Life rs fx id o l → o ≡ Some t → TransactionLife rs fx id t
life_of rs fx id o l t h e = (alone rs fx id t l (subst (λ x. Life rs fx id x l) e h)).life

-- an undecided one has promised nothing, and hasn't ended
pub record IsOpen (rs : List Record) (fx : List Effect) (id : Numbers) : Type 0 where
  pub nothing : PromisesNothing id rs
  pub unended : ends id fx ≡ []

pub in_phase : (t : Transaction) (phase : Phase) → t.phase ≡ phase → may_expire phase ≡ false → may_expire t.phase ≡ true → ⊥
in_phase t phase e closed u = both (may_expire phase) (sym (ap may_expire e) ∙ u) closed
  where
    both : (b : Bool) → b ≡ true → b ≡ false → ⊥
    both b f g = cc

pub is_open : (rs : List Record) (fx : List Effect) (id : Numbers) (t : Transaction) → TransactionLife rs fx id t → may_expire t.phase ≡ true → IsOpen rs fx id
is_open rs fx id t (undecided o nothing k) u = record { nothing = nothing; unended = k }
is_open rs fx id t (voted superior seats p r h out k) u = absurd (in_phase t Phase.Voted p refl u)
is_open rs fx id t (decided seats p r h k) u = absurd (in_phase t Phase.Committing p refl u)
is_open rs fx id t (committed superior seats p r h i k) u = absurd (in_phase t Phase.Committing p refl u)
is_open rs fx id t (aborted p dead k) u = absurd (in_phase t Phase.Aborting p refl u)

pub not_committed_open : (w : World) (n : ℕ) (rs : List Record) (id : Numbers) → IsOpen rs (happened_on n w.happened) id → HasCommitted w (record { node = n; id = id }) → ⊥
not_committed_open w n rs id h c = not_ended w n id h.unended endings.Committed c

pub not_aborted_open : (w : World) (n : ℕ) (rs : List Record) (id : Numbers) → IsOpen rs (happened_on n w.happened) id → HasAborted w (record { node = n; id = id }) → ⊥
not_aborted_open w n rs id h (inl a) = not_ended w n id h.unended endings.Aborted a
not_aborted_open w n rs id h (inr a) = not_ended w n id h.unended endings.Lost a

-- one that commits has committed, one that aborts has aborted, and what keeps its promise hasn't aborted
pub two_phases : (p q r : Phase) → p ≡ q → p ≡ r → q ≡ r
two_phases p q r e f = sym e ∙ f

pub commits_here : (w : World) (n : ℕ) (rs : List Record) (id : Numbers) (t : Transaction) → TransactionLife rs (happened_on n w.happened) id t → t.phase ≡ Phase.Committing
    → HasCommitted w (record { node = n; id = id })
commits_here w n rs id t (undecided o nothing k) e = absurd (in_phase t Phase.Committing e refl o)
commits_here w n rs id t (voted superior seats p r h out k) e = let f : Phase.Voted ≡ Phase.Committing = two_phases t.phase Phase.Voted Phase.Committing p e in absurd cc
commits_here w n rs id t (decided seats p r h k) e = inl (ended_here w n id (effects.Root id endings.Committed) k)
commits_here w n rs id t (committed superior seats p r h i k) e = inr (inl (ended_here w n id (effects.Sub id endings.Committed) k))
commits_here w n rs id t (aborted p dead k) e = let f : Phase.Aborting ≡ Phase.Committing = two_phases t.phase Phase.Aborting Phase.Committing p e in absurd cc

pub aborts_here : (w : World) (n : ℕ) (rs : List Record) (id : Numbers) (t : Transaction) → t.id ≡ id → TransactionLife rs (happened_on n w.happened) id t → t.phase ≡ Phase.Aborting
    → HasAborted w (record { node = n; id = id })
aborts_here w n rs id t own (undecided o nothing k) e = absurd (in_phase t Phase.Aborting e refl o)
aborts_here w n rs id t own (voted superior seats p r h out k) e = let f : Phase.Voted ≡ Phase.Aborting = two_phases t.phase Phase.Voted Phase.Aborting p e in absurd cc
aborts_here w n rs id t own (decided seats p r h k) e = let f : Phase.Committing ≡ Phase.Aborting = two_phases t.phase Phase.Committing Phase.Aborting p e in absurd cc
aborts_here w n rs id t own (committed superior seats p r h i k) e = let f : Phase.Committing ≡ Phase.Aborting = two_phases t.phase Phase.Committing Phase.Aborting p e in absurd cc
aborts_here w n rs id t own (aborted p dead k) e =
    inl (by_ending w n id t.superior endings.Aborted
    (subst (λ i. IsIn (happened_at n (ending_of t.superior i endings.Aborted)) w.happened) own (ended_here w n id (ending t endings.Aborted) k)))

ended_so : (w : World) (n : ℕ) (id : Numbers) (e : Effect) → ends id (happened_on n w.happened) ≡ e ∷ [] → as_what e ≡ Some endings.Committed → HasAborted w (record { node = n; id = id }) → ⊥
ended_so w n id e one is (inl a) =
    let f : endings.Committed ≡ endings.Aborted = different endings.Committed endings.Aborted (sym is ∙ ended_once (happened_on n w.happened) id e endings.Aborted one (ended_as w n id endings.Aborted a)) in cc
ended_so w n id e one is (inr a) =
    let f : endings.Committed ≡ endings.Lost = different endings.Committed endings.Lost (sym is ∙ ended_once (happened_on n w.happened) id e endings.Lost one (ended_as w n id endings.Lost a)) in cc

not_either : (w : World) (n : ℕ) (id : Numbers) → ends id (happened_on n w.happened) ≡ [] → HasAborted w (record { node = n; id = id }) → ⊥
not_either w n id none (inl a) = not_ended w n id none endings.Aborted a
not_either w n id none (inr a) = not_ended w n id none endings.Lost a

pub keeps_promise : (w : World) (n : ℕ) (rs : List Record) (id : Numbers) (t : Transaction) → TransactionLife rs (happened_on n w.happened) id t → (t.phase ≡ Phase.Voted) ⊎ (t.phase ≡ Phase.Committing)
    → HasAborted w (record { node = n; id = id }) → ⊥
keeps_promise w n rs id t (undecided o nothing k) e a = not_either w n id k a
keeps_promise w n rs id t (voted superior seats p r h out k) e a = not_either w n id k a
keeps_promise w n rs id t (decided seats p r h k) e a = ended_so w n id (effects.Root id endings.Committed) k refl a
keeps_promise w n rs id t (committed superior seats p r h i k) e a = ended_so w n id (effects.Sub id endings.Committed) k refl a
keeps_promise w n rs id t (aborted p dead k) (inl e) a = let f : Phase.Aborting ≡ Phase.Voted = two_phases t.phase Phase.Aborting Phase.Voted p e in absurd cc
keeps_promise w n rs id t (aborted p dead k) (inr e) a = let f : Phase.Aborting ≡ Phase.Committing = two_phases t.phase Phase.Aborting Phase.Committing p e in absurd cc
