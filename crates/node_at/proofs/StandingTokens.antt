-- Whether a token is one of those that are given.
use Rattle.std.proofs.Common.{List, [], ◌∷◌, ◌≡◌, inl, inr, Option, Some, None, is_some, Bool, true, false, sym, ◌∙◌, ap, subst, true≢false}
use Rattle.std.specs.List.{AllByRecursion}
use Rattle.at_base.specs.Numbers.{Numbers}
use Rattle.at_model.specs.Book.{is_id}
use Rattle.decision_log.specs.declared.token.What.{What}
use Rattle.decision_log.specs.KeptState.{IsAmong, IsFound}
use Rattle.decision_log.specs.Tokens.{Token}
use Rattle.at_base.specs.declared.outs.Out.{Out}
use Rattle.decision_log.specs.declared.ready.Leave.{Leave}
use Rattle.decision_log.specs.declared.ready.Leave.TheVariants as leaves
use Rattle.decision_log.specs.OutConditions.{IsLeaveOf, IsTold, leave_of}
use Rattle.node_at.specs.Sends.{MayLeave}
use Rattle.node_at.specs.StandingTokens.{IsStanding, Rules}
use Rattle.node_at.proofs.IdFacts.{same_id, self_id}

pub is_that : (t : Token) (id : Numbers) (what : What) → is_id t.id id ≡ true → t.what ≡ what → t ≡ record { id = id; what = what }
is_that t id what e f = let g = same_id t.id id e in λ i. record { id = g i; what = f i }

pub other_id : (t : Token) (id : Numbers) (what : What) → is_id t.id id ≡ false → t ≡ record { id = id; what = what } → ⊥
other_id t id what e f = true≢false (sym (self_id id) ∙ ap (λ u. is_id u.id id) (sym f) ∙ e)

pub other_kind : (t : Token) (id : Numbers) (what : What) → (t.what ≡ what → ⊥) → t ≡ record { id = id; what = what } → ⊥
other_kind t id what e f = e (ap (λ (u : Token). u.what) f)

-- it is none of these
apart : (t u : Token) (ts : List Token) → AllByRecursion (λ x. x ≡ u → ⊥) ts → IsAmong t ts → t ≡ u → ⊥
apart t u [] h k e = k
apart t u (x ∷ ts) (h, l) (inl k) e = h (k ∙ e)
apart t u (x ∷ ts) (h, l) (inr k) e = apart t u ts l k e

abbrev token : Numbers → What → Token
token id what = record { id = id; what = what }

pub first_stands : (t : Token) (id : Numbers) (one other : What) (ts : List Token) → IsFound (Some t) (record { id = id; what = one }) ts → IsStanding (Some t) id one other ts
first_stands t id one other ts (e, a) =
    (subst (λ u. IsAmong u ts) (sym e) a, (ap (λ (u : Token). u.id) e, inl (ap (λ (u : Token). u.what) e)))

pub other_stands : (t : Token) (id : Numbers) (one other : What) (ts : List Token) → IsFound (Some t) (record { id = id; what = other }) ts → IsStanding (Some t) id one other ts
other_stands t id one other ts (e, a) =
    (subst (λ u. IsAmong u ts) (sym e) a, (ap (λ (u : Token). u.id) e, inr (ap (λ (u : Token). u.what) e)))

pub none_stands : (id : Numbers) (one other : What) (ts : List Token) → IsFound None (record { id = id; what = one }) ts → IsFound None (record { id = id; what = other }) ts
    → IsStanding None id one other ts
none_stands id one other ts h k t a e (inl w) = apart t (token id one) ts h a (λ i. record { id = e i; what = w i })
none_stands id one other ts h k t a e (inr w) = apart t (token id other) ts k a (λ i. record { id = e i; what = w i })

pub backed : (o : Out) (id : Numbers) (one other : What) (t : Token) (ts : List Token) (ids : List Numbers) → leave_of o ≡ leaves.Record id one other → IsStanding (Some t) id one other ts
    → MayLeave ts ids o
backed o id one other t ts ids e (a, h) = inr (inr (inl (t, a, subst (λ z. IsLeaveOf z t) (sym e) h)))

abbrev IsRecord : Leave → Type 0
IsRecord (leaves.Record id one other) = Unit {0}
IsRecord other = ⊥

may_not : (o : Out) (id : Numbers) (one other : What) (ts : List Token) (ids : List Numbers) → leave_of o ≡ leaves.Record id one other → IsStanding None id one other ts
    → (IsTold o ids → ⊥) → MayLeave ts ids o → ⊥
may_not o id one other ts ids e h k (inl f) = subst IsRecord (sym e ∙ f) tt
may_not o id one other ts ids e h k (inr (inl f)) = subst IsRecord (sym e ∙ f) tt
may_not o id one other ts ids e h k (inr (inr (inl (t, a, m)))) =
    let (f, w) = subst (λ z. IsLeaveOf z t) e m in
    h t a f w
may_not o id one other ts ids e h k (inr (inr (inr t))) = k t

pub told_or_not : (b : Bool) (o : Out) (id : Numbers) (one other : What) (ts : List Token) (ids : List Numbers) → leave_of o ≡ leaves.Record id one other → IsStanding None id one other ts
    → Rules b (IsTold o ids) → Rules b (MayLeave ts ids o)
told_or_not true o id one other ts ids e h k = inr (inr (inr k))
told_or_not false o id one other ts ids e h k = may_not o id one other ts ids e h k

pub ruled_yes : {A : Type 0} (P : Type 0) (o : Option A) (x : A) → o ≡ Some x → Rules (is_some o) P → P
ruled_yes P o x e h = subst (λ z. Rules (is_some z) P) e h

pub ruled_no : {A : Type 0} (P : Type 0) (o : Option A) → o ≡ None → Rules (is_some o) P → P → ⊥
ruled_no P o e h = subst (λ z. Rules (is_some z) P) e h
