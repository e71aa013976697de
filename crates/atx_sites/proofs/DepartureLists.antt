-- Connections that leave, one behind the other.
use Rattle.std.proofs.Common.{ℕ, List, Result, [], ◌∷◌, ◌++◌, ◌≡◌, ◌+◌, ◌<◌, ◌≤◌, ◌∙◌, refl, sym, ap, subst, take, drop, get_or, length, arith}
use Rattle.std.specs.Prelude.{remove}
use Rattle.std.proofs.lemmas.List.{take_all, take_more, take_more_set, drop_more, drop-set-lt, length-set}
use Rattle.std.specs.declared.io.Error.{Error}
use Rattle.std.specs.declared.net.SocketAddr.{SocketAddr}
use Rattle.std.specs.declared.time.Duration.{Duration}
use Rattle.system_calls.specs.Calls.{Answer, Calls, Number, then}
use Rattle.system_calls.specs.Calls.Call.{Monotonic, Resolve}
use Rattle.atx_sites.specs.Departures.{Advances, Goes, GoesInTime, IsPart, Looks, PostsTo, Went, WentAt}
use Rattle.atx_sites.specs.Departures.Advances.{none, next}
use Rattle.atx_sites.specs.Departures.Looks.{none as no_look, clock, resolves}
use Rattle.atx_sites.specs.Departures.IsPart.{none as all_there, less}
use Rattle.atx_sites.specs.Departures.Leaves.{none as no_call}
use Rattle.atx_sites.specs.declared.outgoing.Outgoing.{Outgoing}

same_rest : {X : Type 0} (xs ys : List X) (i : ℕ) (d : X) → i < length xs → i < length ys → drop i ys ≡ drop i xs
    → (get_or ys i d ≡ get_or xs i d) × (drop (i + 1) ys ≡ drop (i + 1) xs)
same_rest xs ys i d h k e =
    let all : (get_or ys i d ∷ drop (i + 1) ys) ≡ (get_or xs i d ∷ drop (i + 1) xs) = sym (drop_more ys i d k) ∙ e ∙ drop_more xs i d h in
    (ap (λ l. get_or l 0 d) all, ap (drop 1) all)

module _ {C : Type 0} (number : C → Number) where
  pub went : (now : Duration) (before after : Outgoing C) (old new : Calls) → Goes before.addresses.items before.bytes.items (number before.stream) before.done old (number after.stream) after.done new
      → (after.bytes ≡ before.bytes) × (after.addresses ≡ before.addresses) → GoesInTime now before after → Went number now before old after new
  went now before after old new goes same time = (goes _ _ _ (no_call refl refl refl), same.0, same.1, time)

  pub none_advance : (now : Duration) (old : Calls) → Advances number now old [] [] old
  none_advance now old = none refl refl refl

  pub one_advances : (now : Duration) (old mid new : Calls) (xs ys zs : List (Outgoing C)) (i : ℕ) → i < length xs → length ys ≡ length xs → drop i ys ≡ drop i xs
      → Advances number now old (take i xs) (take i ys) mid → WentAt number now i ys mid zs new
      → Advances number now old (take (i + 1) xs) (take (i + 1) zs) new × (drop (i + 1) zs ≡ drop (i + 1) xs) × (length zs ≡ length xs)
  one_advances now old mid new xs ys zs i h long rest past (before, after, is, went_on, e) =
      let k : i < length ys = omega (arith, h, long) in
      let same = same_rest xs ys i before h k rest in
      let front : take (i + 1) xs ≡ take i xs ++ before ∷ [] = take_more xs i before h ∙ ap (λ x. take i xs ++ x ∷ []) (sym (is ∙ same.0)) in
      let moved : take (i + 1) zs ≡ take i ys ++ after ∷ [] = ap (take (i + 1)) e ∙ take_more_set ys i after k in
      (next before after past went_on front moved, ap (drop (i + 1)) e ∙ drop-set-lt (i + 1) ys i after (omega arith) ∙ same.1, ap length e ∙ length-set ys i after ∙ long)

  pub all_advance : (now : Duration) (old new : Calls) (xs ys : List (Outgoing C)) (i : ℕ) → length xs ≤ i → length ys ≡ length xs → Advances number now old (take i xs) (take i ys) new → Advances number now old xs ys new
  all_advance now old new xs ys i h long past =
      let a : take i xs ≡ xs = take_all i xs h in
      let b : take i ys ≡ ys = take_all i ys (omega (arith, h, long)) in
      subst (λ l. Advances number now old xs l new) b (subst (λ l. Advances number now old l (take i ys) new) a past)

module _ {C : Type 0} where
  pub one_less : (first old new : List (Outgoing C)) (i : ℕ) → IsPart first old → new ≡ remove old i → IsPart first new
  one_less first old new i part e = less i part e

  pub whole : (all : List (Outgoing C)) → IsPart all all
  whole all = all_there refl

module _ (host : List ℕ) (port : ℕ) where
  pub unlooked : (old : Calls) → Looks host port old old
  unlooked old = no_look refl

  pub looked_clock : (old mid new : Calls) (got : Answer Duration) → Looks host port old mid → new ≡ then (Monotonic got) mid → Looks host port old new
  looked_clock old mid new got looks e = clock got looks e

  pub looked_up : (old mid new : Calls) (got : Answer (List SocketAddr)) → Looks host port old mid → new ≡ then (Resolve host port got) mid → Looks host port old new
  looked_up old mid new got looks e = resolves got looks e

pub same_bytes : {C : Type 0} (number : C → Number) (addresses : List SocketAddr) (bytes owned : List ℕ) (before after : List (Outgoing C)) (old new : Calls) (result : Result (Unit {0}) Error)
    → owned ≡ bytes → PostsTo number addresses owned before old result after new → PostsTo number addresses bytes before old result after new
same_bytes number addresses bytes owned before after old new result e h = subst (λ l. PostsTo number addresses l before old result after new) e h
