-- Hosts that are alike, one by one.
use Rattle.std.proofs.Common.{ℕ, zero, suc, ◌-◌, ◌≡◌, ◌≤◌, refl, List, [], ◌∷◌, length, ap, subst, sym, arith, ◌∙◌}
use Rattle.std.proofs.lemmas.Bool.{eqb-false, eqb-true}
use Rattle.std.specs.Prelude.{Bool, true, false, Option, Some, None, nat_eq, if◌then◌else◌}
use Rattle.std.specs.List.{AllByRecursion}
use Rattle.at_model.specs.World.{nth, put_nth}
use Rattle.determined_nodes.specs.AlikeHosts.{AreSameUp, IsSameHost}
use Rattle.determined_nodes.specs.SameNodes.{IsSameMachine, IsSameNode}
use Rattle.memory_net.specs.Hosts.{IsFresh}
use Rattle.memory_net.specs.declared.host.Host.{Host}
use Rattle.node_at.specs.State.{seen}
use Rattle.node_at.specs.declared.node.Node.{Node}
use Rattle.report_laws.specs.AlikeNets.{AreSameHosts}

pub of_some : {A : Type 0} (o : Option A) (x y : A) → o ≡ Some x → o ≡ Some y → x ≡ y
of_some o x y e f = cc

pub none_some : {A : Type 0} (x : A) → None ≡ Some x → ⊥
none_some x e = cc

in_some : {A : Type 0} (x y : A) → Some x ≡ Some y → x ≡ y
in_some x y e = cc

-- the numbers of a list's items

nth_none : {A : Type 0} (xs : List A) (x : A) → nth 0 xs ≡ Some x → ⊥
nth_none [] x e = none_some x e
nth_none (y ∷ ys) x e = nth_none ys x e

pub nth_least : {A : Type 0} (i : ℕ) (xs : List A) (x : A) → nth i xs ≡ Some x → 1 ≤ i
nth_least zero xs x e = absurd (nth_none xs x e)
nth_least (suc i) xs x e = omega arith

within_by : {A : Type 0} (b : Bool) (i : ℕ) (x y : A) (ys : List A) → nat_eq i 1 ≡ b → (nth (i - 1) ys ≡ Some x → i - 1 ≤ length ys) → nth i (y ∷ ys) ≡ Some x → i ≤ suc (length ys)
within_by true i x y ys t again e = let one = eqb-true i 1 t in omega (arith, one)
within_by false i x y ys t again e = let less = again (rw t at e) in omega (arith, less)

pub nth_within : {A : Type 0} (i : ℕ) (xs : List A) (x : A) → nth i xs ≡ Some x → i ≤ length xs
nth_within i [] x e = absurd (none_some x e)
nth_within i (y ∷ ys) x e = within_by (nat_eq i 1) i x y ys refl (λ f. nth_within (i - 1) ys x f) e

-- the others stay where one is put
less_one : (m n : ℕ) → (m ≡ n → ⊥) → (m ≡ 1 → ⊥) → (n ≡ 1 → ⊥) → m - 1 ≡ n - 1 → ⊥
less_one m n h i j e = omega (arith, h, i, j, e)

pub put_others : (hs : List Host) (j i : ℕ) (g : Host) → (j ≡ i → ⊥) → nth j (put_nth i g hs) ≡ nth j hs
put_others [] j i g other = refl
put_others (h ∷ hs) j i g other = at (λ k l o. put_others hs k l g o) (nat_eq i 1) (nat_eq j 1) refl refl
  where
    at : ((k l : ℕ) → (k ≡ l → ⊥) → nth k (put_nth l g hs) ≡ nth k hs) → (a b : Bool) → nat_eq i 1 ≡ a → nat_eq j 1 ≡ b
        → nth j (if a then g ∷ hs else h ∷ put_nth (i - 1) g hs) ≡ (if b then Some h else nth (j - 1) hs)
    at rest true true e f = absurd (other (eqb-true j 1 f ∙ sym (eqb-true i 1 e)))
    at rest true false e f = ap (λ t. if t then Some g else nth (j - 1) hs) f
    at rest false true e f = ap (λ t. if t then Some h else nth (j - 1) (put_nth (i - 1) g hs)) f
    at rest false false e f =
        ap (λ t. if t then Some h else nth (j - 1) (put_nth (i - 1) g hs)) f ∙ rest (j - 1) (i - 1) (less_one j i other (eqb-false j 1 f) (eqb-false i 1 e))

-- nodes of hosts that are alike

pub up_same : (a b : Option Node) (n m : Node) → a ≡ Some n → b ≡ Some m → AreSameUp a b → IsSameNode (seen n) (seen m)
up_same a b n m e f h = subst (AreSameUp (Some n)) f (subst (λ z. AreSameUp z b) e h)

pub up_down : (a b : Option Node) (n : Node) → a ≡ Some n → b ≡ None → AreSameUp a b → ⊥
up_down a b n e f h = subst (AreSameUp (Some n)) f (subst (λ z. AreSameUp z b) e h)

pub down_up : (a b : Option Node) (n : Node) → a ≡ None → b ≡ Some n → AreSameUp a b → ⊥
down_up a b n e f h = subst (AreSameUp None) f (subst (λ z. AreSameUp z b) e h)

pub both_up : (a b : Option Node) (n m : Node) → a ≡ Some n → b ≡ Some m → IsSameNode (seen n) (seen m) → AreSameUp a b
both_up a b n m e f h = subst (λ z. AreSameUp z b) (sym e) (subst (AreSameUp (Some n)) (sym f) h)

pub both_down : (a b : Option Node) → a ≡ None → b ≡ None → AreSameUp a b
both_down a b e f = subst (λ z. AreSameUp z b) (sym e) (subst (AreSameUp None) (sym f) tt)

-- lists of hosts

same_by : (b : Bool) (i : ℕ) (h g x y : Host) (xs ys : List Host) → nat_eq i 1 ≡ b → (nth (i - 1) xs ≡ Some h → nth (i - 1) ys ≡ Some g → IsSameHost h g) → IsSameHost x y → nth i (x ∷ xs) ≡ Some h → nth i (y ∷ ys) ≡ Some g
    → IsSameHost h g
same_by true i h g x y xs ys t again first e f = subst (λ z. IsSameHost z g) (in_some x h (rw t at e)) (subst (IsSameHost x) (in_some y g (rw t at f)) first)
same_by false i h g x y xs ys t again first e f = again (rw t at e) (rw t at f)

pub nth_same : (i : ℕ) (hs gs : List Host) (h g : Host) → AreSameHosts hs gs → nth i hs ≡ Some h → nth i gs ≡ Some g → IsSameHost h g
nth_same i [] [] h g same e f = absurd (none_some h e)
nth_same i [] (y ∷ ys) h g same e f = absurd same
nth_same i (x ∷ xs) [] h g same e f = absurd same
nth_same i (x ∷ xs) (y ∷ ys) h g (first, rest) e f = same_by (nat_eq i 1) i h g x y xs ys refl (nth_same (i - 1) xs ys h g rest) first e f

put_by : (t : Bool) (i : ℕ) (a b x y : Host) (xs ys : List Host) → nat_eq i 1 ≡ t → AreSameHosts (put_nth (i - 1) a xs) (put_nth (i - 1) b ys) → IsSameHost a b → IsSameHost x y → AreSameHosts xs ys
    → AreSameHosts (put_nth i a (x ∷ xs)) (put_nth i b (y ∷ ys))
put_by true i a b x y xs ys e again new first rest = rw e (new, rest)
put_by false i a b x y xs ys e again new first rest = rw e (first, again)

pub put_same : (i : ℕ) (a b : Host) (hs gs : List Host) → IsSameHost a b → AreSameHosts hs gs → AreSameHosts (put_nth i a hs) (put_nth i b gs)
put_same i a b [] [] new same = tt
put_same i a b [] (y ∷ ys) new same = absurd same
put_same i a b (x ∷ xs) [] new same = absurd same
put_same i a b (x ∷ xs) (y ∷ ys) new (first, rest) = put_by (nat_eq i 1) i a b x y xs ys refl (put_same (i - 1) a b xs ys new rest) new first rest

pub length_same : (hs gs : List Host) → AreSameHosts hs gs → length hs ≡ length gs
length_same [] [] same = refl
length_same [] (y ∷ ys) same = absurd same
length_same (x ∷ xs) [] same = absurd same
length_same (x ∷ xs) (y ∷ ys) (first, rest) = ap suc (length_same xs ys rest)

fresh_one : (h g : Host) → IsFresh h → IsFresh g → IsSameHost h g
fresh_one h g a b = record {
  node = both_down h.node g.node a.node b.node;
  site = record { opening = a.site.opening ∙ sym b.site.opening; calls = a.site.calls ∙ sym b.site.calls };
}

pub fresh_same : (hs gs : List Host) → length hs ≡ length gs → AllByRecursion IsFresh hs → AllByRecursion IsFresh gs → AreSameHosts hs gs
fresh_same [] [] many a b = tt
fresh_same [] (g ∷ gs) many a b = absurd (omega (arith, many))
fresh_same (h ∷ hs) [] many a b = absurd (omega (arith, many))
fresh_same (h ∷ hs) (g ∷ gs) many (a, also) (b, bs) = (fresh_one h g a b, fresh_same hs gs (omega (arith, many)) also bs)

fresh_by : (b : Bool) (i : ℕ) (x h : Host) (xs : List Host) → nat_eq i 1 ≡ b → (nth (i - 1) xs ≡ Some h → IsFresh h) → IsFresh x → nth i (x ∷ xs) ≡ Some h → IsFresh h
fresh_by true i x h xs t again first e = subst IsFresh (in_some x h (rw t at e)) first
fresh_by false i x h xs t again first e = again (rw t at e)

pub fresh_nth : (i : ℕ) (hs : List Host) (h : Host) → AllByRecursion IsFresh hs → nth i hs ≡ Some h → IsFresh h
fresh_nth i [] h all e = absurd (none_some h e)
fresh_nth i (x ∷ xs) h (first, rest) e = fresh_by (nat_eq i 1) i x h xs refl (fresh_nth (i - 1) xs h rest) first e
