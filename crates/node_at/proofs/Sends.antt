-- How sends compose.
use Rattle.std.proofs.Common.{ℕ, List, [], ◌∷◌, ◌++◌, ◌+◌, ◌≡◌, ◌⊎◌, inl, inr, ⊎_elim, Option, Some, Result, Ok, Err, refl, sym, ◌∙◌, ap, subst, map, arith}
use Rattle.std.proofs.lemmas.List.{append_assoc, append-nil}
use Rattle.std.specs.Vec.Iter.{into_iter_items, into_iter_steps}
use Rattle.std.specs.declared.vec.IntoIter.{IntoIter}
use Rattle.at_base.specs.Numbers.{Numbers}
use Rattle.decision_log.specs.Tokens.{Token}
use Rattle.site_model.specs.Site.{Counts as Counted}
use Rattle.site_model.specs.Calls.{Gave}
use Rattle.site_model.specs.Told.{Told, Made, Call, BreaksOff, done, failed}
use Rattle.node_at.specs.Sends.{AllMayLeave, MayLeave, Sends, Tried}
use Rattle.node_at.specs.Sends.Tried.{none, went, was_lost}
use Rattle.node_at.specs.Texts.{Leaving}
use Rattle.node_at.proofs.CallRows.{after_that, grown_same, grown_then, is_last, through}
use Rattle.node_at.proofs.IdFacts.{and_then, weaker}

pub tried_then : {ts : List Token} {ids : List Numbers} {xs ys : List Leaving} {made more : List Made} {n m : ℕ}
    → Tried ts ids xs made n → Tried ts ids ys more m → Tried ts ids (xs ++ ys) (made ++ more) (n + m)
tried_then {ts} {ids} {xs} {made = made} {n = n} h none =
    subst (λ z. Tried ts ids z (made ++ []) (n + 0)) (sym (append-nil xs))
    (subst (λ z. Tried ts ids xs z (n + 0)) (sym (append-nil made)) (subst (λ z. Tried ts ids xs made z) (omega arith) h))
tried_then {xs = xs} {made = made} h (went {xs = zs} {made = some} x k may e f) =
    went x (tried_then h k) may (ap (λ z. xs ++ z) e ∙ sym (append_assoc xs zs (x ∷ []))) (ap (λ z. made ++ z) f ∙ sym (append_assoc made some (done x.call ∷ [])))
tried_then {xs = xs} {made = made} {n = n} h (was_lost {xs = zs} {made = some} {lost = lost} x k may e f g) =
    was_lost x (tried_then h k) may (ap (λ z. xs ++ z) e ∙ sym (append_assoc xs zs (x ∷ [])))
    (⊎_elim (λ f. inl (ap (λ z. made ++ z) f ∙ sym (append_assoc made some (failed x.call ∷ [])))) (λ f. inr (ap (λ z. made ++ z) f)) f)
    (omega (arith, g))

pub sends_none : (ts : List Token) (ids : List Numbers) (s : Told) → Sends ts ids [] s s
sends_none ts ids s = record {
  made = [];
  lost = 0;
  tried = none;
  calls = grown_same s.calls;
  files = refl;
  images = λ c now. now;
  time = record { adds = λ l c past. inl past; keeps = λ l c past. past };
  apart = record { link = refl; clock = refl };
  later = omega arith;
  counted = λ below. omega arith;
  others = refl;
}

abbrev first : Call → List Call → Call
first d [] = d
first d (c ∷ cs) = c

abbrev IsEmpty : List Call → Type 0
IsEmpty [] = Unit {0}
IsEmpty (c ∷ cs) = ⊥

abbrev tail : List Call → List Call
tail [] = []
tail (c ∷ cs) = cs

no_more : (fs : List Call) (call : Call) (rest : List Call) → [] ≡ fs ++ call ∷ rest → ⊥
no_more [] call rest e = subst IsEmpty e tt
no_more (f ∷ fs) call rest e = subst IsEmpty e tt

-- of one call that failed
breaks_one : (c : Call) (made : List Made) → BreaksOff (c ∷ []) made → (made ≡ failed c ∷ []) ⊎ (made ≡ [])
breaks_one c made b = by b.front b.call b.rest b.split b.is where
  by : (front : List Call) (call : Call) (rest : List Call) → c ∷ [] ≡ front ++ call ∷ rest → (made ≡ map done front ++ failed call ∷ []) ⊎ (made ≡ map done front)
      → (made ≡ failed c ∷ []) ⊎ (made ≡ [])
  by [] call rest e (inl h) = inl (h ∙ ap (λ z. failed z ∷ []) (sym (ap (first c) e)))
  by [] call rest e (inr h) = inr h
  by (f ∷ fs) call rest e h =
      absurd (no_more fs call rest (ap tail e))

pub sends_given : {T E : Type 0} (ts : List Token) (ids : List Numbers) (x : Leaving) (r : Result T E) (old new : Told) → MayLeave ts ids x.out → Gave x.call r old new
    → Sends ts ids (x ∷ []) old new
sends_given ts ids x (Ok y) old new may h = record {
  made = h.calls.made;
  lost = 0;
  tried = went x none may refl h.calls.outcome;
  calls = h.calls.grown;
  files = h.files;
  images = h.images;
  time = weaker old new _ _ h.time (λ l c k. (is_last old new h.calls.made l h.calls.grown k.0, h.images c k.1));
  apart = h.apart;
  later = h.counts.cause.later;
  counted = λ below. omega (arith, h.counts.cause.later);
  others = h.counts.others;
}
sends_given ts ids x (Err y) old new may h = record {
  made = h.calls.made;
  lost = 1;
  tried = was_lost x none may refl (breaks_one x.call h.calls.made h.calls.outcome) refl;
  calls = h.calls.grown;
  files = h.files;
  images = h.images;
  time = weaker old new _ _ h.time (λ l c k. (is_last old new h.calls.made l h.calls.grown k.0, h.images c k.1));
  apart = h.apart;
  later = h.counts.cause.later;
  counted = λ below. omega (arith, below, h.counts.cause.failed);
  others = h.counts.others;
}

pub sends_then : (ts : List Token) (ids : List Numbers) (xs ys : List Leaving) (old mid new : Told) → Sends ts ids xs old mid → Sends ts ids ys mid new → Sends ts ids (xs ++ ys) old new
sends_then ts ids xs ys old mid new h k = record {
  made = h.made ++ k.made;
  lost = h.lost + k.lost;
  tried = tried_then h.tried k.tried;
  calls = grown_then old.calls mid.calls new.calls h.made k.made h.calls k.calls;
  files = k.files ∙ h.files;
  images = λ c now. h.images c (k.images c now);
  time = and_then old mid new _
      (weaker old mid _ _ h.time (λ l c p. (through old mid new k.made l k.calls p.0, p.1)))
      (weaker mid new _ _ k.time (λ l c p. (after_that old mid new h.made l h.calls p.0, h.images c p.1)));
  apart = record { link = k.apart.link ∙ h.apart.link; clock = k.apart.clock ∙ h.apart.clock };
  later = omega (arith, h.later, k.later);
  counted = λ below. omega (arith, below, h.later, k.later, k.counted below, h.counted (omega (arith, below, k.later)));
  others = k.others ∙ ap (λ (z : Counted). record z { link = new.counts.link }) h.others;
}

pub same_out : {ts : List Token} {ids : List Numbers} {x y : Leaving} {old new : Told} → x ≡ y → Sends ts ids (x ∷ []) old new → Sends ts ids (y ∷ []) old new
same_out {ts} {ids} {old = old} {new = new} e h = subst (λ z. Sends ts ids (z ∷ []) old new) e h

pub may_as : (ts : List Token) (ids : List Numbers) {x y : Leaving} → x ≡ y → MayLeave ts ids y.out → MayLeave ts ids x.out
may_as ts ids {x} {y} e h = subst (λ (z : Leaving). MayLeave ts ids z.out) (sym e) h

-- those that are still to be sent
pub first_may : {Z : Type 0} (ts : List Token) (ids : List Numbers) (s t : IntoIter Leaving Z) (r : Option Leaving) (x : Leaving) → r ≡ Some x → into_iter_steps s r t
    → AllMayLeave ts ids (into_iter_items s) → MayLeave ts ids x.out × AllMayLeave ts ids (into_iter_items t)
first_may ts ids s t r x e steps h = subst (AllMayLeave ts ids) (subst (λ o. into_iter_steps s o t) e steps).0 h
