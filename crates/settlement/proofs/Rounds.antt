-- Rounds, one after another, each of which delivers until nothing is left.
use Rattle.std.proofs.Common.{ℕ, zero, suc, ◌+◌, ◌<◌, ◌≡◌, refl, List, [], ◌∷◌, length, drop, ap, ◌∙◌, sym, subst, arith}
use Rattle.std.specs.Prelude.{Option, Some, None}
use Rattle.at_model.specs.World.{Deliver, Posted, Turn, WorldEvent}
use Rattle.model_laws.specs.Settlement.{Settling, all_also, also, first_received, received_or, settle_round, settle_rounds, ticks}
use Rattle.settling.specs.Drains.{Delivers, IsDrained}
use Rattle.settling.specs.Drains.Delivers.{none_left, one_more}

pub rounds_step : (n most : ℕ) (s : Settling) → settle_rounds (suc n) most s ≡ settle_round most (settle_rounds n most s)
unfolding settle_rounds
rounds_step zero most s = refl
rounds_step (suc n) most s = rounds_step n most (settle_round most s)

abbrev place_of : Option (ℕ × ℕ) → ℕ
place_of None = 0
place_of (Some p) = p.0

abbrev node_of : Option (ℕ × ℕ) → ℕ
node_of None = 0
node_of (Some p) = p.1

pub some_or_none : (o : Option (ℕ × ℕ)) (p : ℕ × ℕ) → o ≡ None → o ≡ Some p → ⊥
some_or_none o p e f = cc

-- There is one way to deliver until nothing is left.
pub one_end : (a b : Settling) (j : ℕ) (s : Settling) → Delivers a j s → Delivers b j s → a ≡ b
one_end a b j s (none_left e f) (none_left g h) = f ∙ sym h
one_end a b j s (none_left e f) (one_more k n g more) = absurd (some_or_none _ _ e g)
one_end a b j s (one_more k n e rest) (none_left g h) = absurd (some_or_none _ _ g e)
one_end a b j s (one_more k n e rest) (one_more l m f more) =
    let number : k ≡ l = ap place_of (sym e ∙ f) in
    let node : n ≡ m = ap node_of (sym e ∙ f) in
    one_end a b k (also (Turn n (Deliver k) [] None) s) rest
    (subst (λ x. Delivers b x (also (Turn n (Deliver k) [] None) s)) (sym number)
    (subst (λ x. Delivers b l (also (Turn n (Deliver x) [] None) s)) (sym number)
    (subst (λ x. Delivers b l (also (Turn x (Deliver l) [] None) s)) (sym node) more)))

-- a round that delivers until nothing is left is the next one
pub round_more : (i most : ℕ) (start now next : Settling) → i < 8
    → ((n : ℕ) → n < 8 → IsDrained most (settle_rounds n most start)) → now ≡ settle_rounds i most start
    → Delivers next (length now.world.posted) (all_also (ticks 1 now.world.nodes) now) → next ≡ settle_rounds (i + 1) most start
round_more i most start now next h drained e d =
    let more : i + 1 ≡ suc i = omega arith in
    let own : Delivers (settle_round most now) (length now.world.posted) (all_also (ticks 1 now.world.nodes) now) =
    subst (IsDrained most) (sym e) (drained i h) in
    one_end next (settle_round most now) _ _ d own
    ∙ (ap (settle_round most) e ∙ (sym (rounds_step i most start) ∙ ap (λ n. settle_rounds n most start) (sym more)))

-- messages that nobody receives are passed by
pub passed_by : (j : ℕ) (ps : List Posted) (p : Posted) (rest : List Posted) → ps ≡ p ∷ rest → p.receiver ≡ None → first_received j ps ≡ first_received (j + 1) rest
passed_by j ps p rest e f = ap (first_received j) e ∙ ap (λ o. received_or j o (first_received (j + 1) rest)) f

pub no_round : (most : ℕ) (s : Settling) → s ≡ settle_rounds 0 most s
unfolding settle_rounds
no_round most s = refl

-- one message is delivered, and then the rest
pub one_delivered :
    (last s t : Settling) (j k n : ℕ) (e : WorldEvent) → Some (k, n) ≡ first_received (j + 1) (drop j s.world.posted) → e ≡ Turn n (Deliver k) [] None
    → t ≡ also e s → Delivers last k t → Delivers last j s
one_delivered last s t j k n e found is t_is d = one_more k n (sym found) (subst (Delivers last k) (t_is ∙ ap (λ x. also x s) is) d)

pub all_delivered : (s : Settling) (j : ℕ) → None ≡ first_received (j + 1) (drop j s.world.posted) → Delivers s j s
all_delivered s j none = none_left (sym none) refl

pub delivered_on :
    (last s t : Settling) (j k n : ℕ) (e : WorldEvent) → Some (k, n) ≡ first_received (j + 1) (drop j s.world.posted) → e ≡ Turn n (Deliver k) [] None
    → t ≡ also e s → Delivers last j s → Delivers last k t
delivered_on last s t j k n e found is t_is (none_left f g) = absurd (some_or_none _ _ f (sym found))
delivered_on last s t j k n e found is t_is (one_more l m f more) =
    let number : l ≡ k = ap place_of (sym f ∙ sym found) in
    let node : m ≡ n = ap node_of (sym f ∙ sym found) in
    subst (Delivers last k) (ap (λ x. also x s) (sym is) ∙ sym t_is)
    (subst (λ x. Delivers last k (also (Turn x (Deliver k) [] None) s)) node
    (subst (λ x. Delivers last x (also (Turn m (Deliver x) [] None) s)) number more))
