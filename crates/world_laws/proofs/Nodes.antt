-- A list with one node put anew, and the addresses of its nodes.
use Rattle.std.proofs.Common.{ℕ, suc, length, List, [], ◌∷◌, ◌≡◌, ◌+◌, ◌-◌, Option, Some, None, Bool, true, false, ap, sym, ◌∙◌, refl}
use Rattle.std.specs.Prelude.{nat_eq, map}
use Rattle.at_base.specs.declared.epr.Epr.{Epr}
use Rattle.at_base.specs.declared.outs.Post.{Post}
use Rattle.at_model.specs.World.{Node, Posted, WorldEvent, node_of, nth, put_nth, place_or, place_of, receiver_of}
use Rattle.endpoints.specs.Addresses.{target_at}
use Rattle.world_laws.specs.Moves.{move_of, nodes_by, posted_at}

pub some_is : {A : Type 0} (x y : A) → Some x ≡ Some y → x ≡ y
some_is x y e = cc

-- putting what is there
put_same_by : {A : Type 0} (b : Bool) (n : ℕ) (x y : A) (xs : List A) → nat_eq n 1 ≡ b
    → (nth (n - 1) xs ≡ Some y → put_nth (n - 1) y xs ≡ xs)
    → nth n (x ∷ xs) ≡ Some y → put_nth n y (x ∷ xs) ≡ x ∷ xs
put_same_by true n x y xs e f h = rw e (ap (λ z. z ∷ xs) (sym (some_is x y (rw e at h))))
put_same_by false n x y xs e f h = rw e (ap (λ zs. x ∷ zs) (f (rw e at h)))

pub put_same : {A : Type 0} (n : ℕ) (xs : List A) (y : A) → nth n xs ≡ Some y → put_nth n y xs ≡ xs
put_same n [] y h = refl
put_same n (x ∷ xs) y h = put_same_by (nat_eq n 1) n x y xs refl (put_same (n - 1) xs y) h

-- what was put is there
nth_put_by : {A : Type 0} (b : Bool) (n : ℕ) (x y z : A) (xs : List A) → nat_eq n 1 ≡ b
    → (nth (n - 1) xs ≡ Some y → nth (n - 1) (put_nth (n - 1) z xs) ≡ Some z)
    → nth n (x ∷ xs) ≡ Some y → nth n (put_nth n z (x ∷ xs)) ≡ Some z
nth_put_by true n x y z xs e f h = rw (e, e) refl
nth_put_by false n x y z xs e f h = rw (e, e) (f (rw e at h))

pub nth_put : {A : Type 0} (n : ℕ) (xs : List A) (y z : A) → nth n xs ≡ Some y → nth n (put_nth n z xs) ≡ Some z
nth_put n [] y z h = absurd cc
nth_put n (x ∷ xs) y z h = nth_put_by (nat_eq n 1) n x y z xs refl (nth_put (n - 1) xs y z) h

-- the last one counts
put_put_by : {A : Type 0} (b : Bool) (n : ℕ) (x y z : A) (xs : List A) → nat_eq n 1 ≡ b
    → put_nth (n - 1) z (put_nth (n - 1) y xs) ≡ put_nth (n - 1) z xs
    → put_nth n z (put_nth n y (x ∷ xs)) ≡ put_nth n z (x ∷ xs)
put_put_by true n x y z xs e f = rw (e, e) refl
put_put_by false n x y z xs e f = rw (e, e) (ap (λ zs. x ∷ zs) f)

pub put_put : {A : Type 0} (n : ℕ) (xs : List A) (y z : A) → put_nth n z (put_nth n y xs) ≡ put_nth n z xs
put_put n [] y z = refl
put_put n (x ∷ xs) y z = put_put_by (nat_eq n 1) n x y z xs refl (put_put (n - 1) xs y z)

-- the places of addresses stand where the bases do
base_at : (x y : Node) → x.base ≡ y.base → (k : ℕ) (xs : List Node) (a : List ℕ)
    → place_of k (x ∷ xs) a ≡ place_of k (y ∷ xs) a
base_at x y e k xs a = ap (λ b. place_or k (target_at b a) (place_of (k + 1) xs a)) e

place_put_by : (b : Bool) (n k : ℕ) (x y z : Node) (xs : List Node) (a : List ℕ) → nat_eq n 1 ≡ b → y.base ≡ z.base
    → (nth (n - 1) xs ≡ Some y → place_of (k + 1) (put_nth (n - 1) z xs) a ≡ place_of (k + 1) xs a)
    → nth n (x ∷ xs) ≡ Some y → place_of k (put_nth n z (x ∷ xs)) a ≡ place_of k (x ∷ xs) a
place_put_by true n k x y z xs a e same f h =
    rw e (base_at z x (sym same ∙ sym (ap (λ (m : Node). m.base) (some_is x y (rw e at h)))) k xs a)
place_put_by false n k x y z xs a e same f h =
    rw e (ap (place_or k (target_at x.base a)) (f (rw e at h)))

place_put : (n k : ℕ) (xs : List Node) (y z : Node) (a : List ℕ) → y.base ≡ z.base → nth n xs ≡ Some y
    → place_of k (put_nth n z xs) a ≡ place_of k xs a
place_put n k [] y z a same h = refl
place_put n k (x ∷ xs) y z a same h =
    place_put_by (nat_eq n 1) n k x y z xs a refl same (place_put (n - 1) (k + 1) xs y z a same) h

receiver_put : (n : ℕ) (xs : List Node) (y z : Node) (to : Option Epr) → y.base ≡ z.base → nth n xs ≡ Some y
    → receiver_of (put_nth n z xs) to ≡ receiver_of xs to
receiver_put n xs y z None same h = refl
receiver_put n xs y z (Some to) same h = rw (place_put n 1 xs y z to.address same h) refl

pub posts_put : (m n : ℕ) (xs : List Node) (y z : Node) (ps : List Post) → y.base ≡ z.base → nth n xs ≡ Some y
    → map (posted_at m (put_nth n z xs)) ps ≡ map (posted_at m xs) ps
posts_put m n xs y z [] same h = refl
posts_put m n xs y z (p ∷ ps) same h = rw (receiver_put n xs y z p.to same h, posts_put m n xs y z ps same h) refl

-- as many nodes as before
length_put_by : (b : Bool) (n : ℕ) (x y : Node) (xs : List Node) → nat_eq n 1 ≡ b
    → length (put_nth (n - 1) y xs) ≡ length xs → length (put_nth n y (x ∷ xs)) ≡ length (x ∷ xs)
length_put_by true n x y xs e f = rw e refl
length_put_by false n x y xs e f = rw e (ap suc f)

pub length_put : (n : ℕ) (y : Node) (xs : List Node) → length (put_nth n y xs) ≡ length xs
length_put n y [] = refl
length_put n y (x ∷ xs) = length_put_by (nat_eq n 1) n x y xs refl (length_put (n - 1) y xs)

pub nodes_length : (e : WorldEvent) (posted : List Posted) (nodes : List Node) (o : Option Node)
    → length (nodes_by e posted nodes o) ≡ length nodes
nodes_length e posted nodes None = refl
nodes_length e posted nodes (Some x) = length_put (node_of e) (move_of e posted x).node nodes
