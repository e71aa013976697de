-- Hosts, clocks and letters by their numbers from 1.
use Rattle.std.specs.Prelude.{ℕ, List, [], ◌∷◌, ◌≡◌, ◌≤◌, ◌-◌, Bool, true, false, Option, Some, None, is_some, length, map, nat_eq, option_map, slice_set, if◌then◌else◌}
use Rattle.std.proofs.Common.{ap, arith, get_or, refl, sym, ◌∙◌}
use Rattle.std.proofs.lemmas.Option.{slice_get_read}
use Rattle.at_model.specs.World.{nth, put_nth}
use Rattle.memory_net.specs.Mails.{Mail, mail_of}
use Rattle.memory_net.specs.declared.letter.Letter.{Letter}
use Rattle.world_laws.proofs.Nodes.{put_put}
use Rattle.world_laws.proofs.NumberedItems.{nth_back, put_back}

pub nth_or : {A : Type 0} (n : ℕ) (xs : List A) (x : A) → (n ≡ 0 → ⊥) → n ≤ length xs → x ≡ get_or xs (n - 1) x → nth n xs ≡ Some x
nth_or n xs x some within is = nth_back n xs some ∙ slice_get_read xs (length xs) (n - 1) x refl (omega (arith, some, within)) is

pub put_over : {A : Type 0} (n : ℕ) (xs : List A) (x y : A) → (n ≡ 0 → ⊥) → put_nth n y (slice_set xs (n - 1) x) ≡ put_nth n y xs
put_over n xs x y some = ap (put_nth n y) (sym (put_back n x xs some)) ∙ put_put n xs x y

nth_map_by : {A B : Type 0} (f : A → B) (b : Bool) (x : A) (found : Option A) (rest : Option B) → rest ≡ option_map f found
    → (if b then Some (f x) else rest) ≡ option_map f (if b then Some x else found)
nth_map_by f true x found rest e = refl
nth_map_by f false x found rest e = e

pub nth_map : {A B : Type 0} (f : A → B) (n : ℕ) (xs : List A) → nth n (map f xs) ≡ option_map f (nth n xs)
nth_map f n [] = refl
nth_map f n (x ∷ xs) = nth_map_by f (nat_eq n 1) x (nth (n - 1) xs) (nth (n - 1) (map f xs)) (nth_map f (n - 1) xs)

pub mail_at : (n : ℕ) (letters : List Letter) (l : Letter) → Some l ≡ nth n letters → nth n (map mail_of letters) ≡ Some (mail_of l)
mail_at n letters l e = nth_map mail_of n letters ∙ ap (option_map mail_of) (sym e)

pub some_map : {A B : Type 0} (f : A → B) (o : Option A) → is_some o ≡ is_some (option_map f o)
some_map f None = refl
some_map f (Some x) = refl

pub no_letter : (n : ℕ) (letters : List Letter) (m : Mail) → nth n (map mail_of letters) ≡ Some m → None ≡ nth n letters → ⊥
no_letter n letters m at none = let e : None ≡ Some m = ap (option_map mail_of) none ∙ sym (nth_map mail_of n letters) ∙ at in absurd cc

pub letter_is : (n : ℕ) (letters : List Letter) (l : Letter) (m : Mail) → Some l ≡ nth n letters → nth n (map mail_of letters) ≡ Some m → mail_of l ≡ m
letter_is n letters l m here at = let e : Some (mail_of l) ≡ Some m = sym (mail_at n letters l here) ∙ at in cc

pub not_up : {A : Type 0} (o : Option A) → is_some o ≡ true → o ≡ None → ⊥
not_up None up down = absurd cc
not_up (Some x) up down = absurd cc
