-- What is chosen for an item that was found is the model's plan of the book that holds it.
use Rattle.std.proofs.Common.{ℕ, List, [], ◌∷◌, Option, Some, None, Bool, true, false, ◌≡◌, refl, sym, ap, subst, arith, ◌∙◌}
use Rattle.std.specs.Prelude.{if◌then◌else◌}
use Rattle.at_base.specs.Numbers.{Numbers}
use Rattle.at_base.specs.declared.outs.Out.{Out}
use Rattle.at_model.specs.Book.{Book, find_by, is_id, put_by}
use Rattle.at_model.specs.Step.{at_time, noting, outcome_of, plain, plan_of}
use Rattle.by_id.specs.Fates.{meant, turn_of}
use Rattle.by_id.specs.Lists.{move_by}
use Rattle.by_id.specs.Plans.{chosen, turned}
use Rattle.by_id.specs.Wholes.{outcome_in, whole_by}
use Rattle.by_id.specs.declared.fates.Choice.{Choice}
use Rattle.by_id.specs.declared.fates.Choice.TheVariants as choices
use Rattle.by_id.specs.declared.fates.Fate.{Fate}
use Rattle.by_id.specs.declared.fates.Fate.TheVariants as fates
use Rattle.by_id.specs.declared.fates.Turn.{Turn}
use Rattle.by_id.specs.declared.list.Alteration.{Alteration}
use Rattle.by_id.specs.declared.list.Alteration.TheVariants as alterations

some_same : {A : Type 0} {x y : A} → Some x ≡ Some y → x ≡ y
some_same e = cc

-- an item that is put where it stands changes nothing
pub put_found : {A : Type 0} (key : A → Numbers) (id : Numbers) (x : A) (xs : List A) → find_by key id xs ≡ Some x → put_by key id (Some x) xs ≡ xs
put_found key id x [] e = refl
put_found key id x (y ∷ ys) e = grind (arith, put_found key id x ys)

same_id : (m n : Numbers) → is_id m n ≡ true → m ≡ n
same_id m n e = grind (arith)

-- what is found by an id has it
pub found_id : {A : Type 0} (key : A → Numbers) (id : Numbers) (x : A) (xs : List A) → find_by key id xs ≡ Some x → key x ≡ id
found_id key id x [] e = absurd cc
found_id key id x (y ∷ ys) e = by (is_id (key y) id) refl (found_id key id x ys)
  where
    by : (b : Bool) → is_id (key y) id ≡ b → (find_by key id ys ≡ Some x → key x ≡ id) → key x ≡ id
    by true same rest = ap key (sym (some_same (subst (λ c. (if c then Some y else find_by key id ys) ≡ Some x) same e))) ∙ same_id (key y) id same
    by false same rest = rest (subst (λ c. (if c then Some y else find_by key id ys) ≡ Some x) same e)

-- an item that is moved is put where it stands, as it was found
pub moved_found : {A M : Type 0} (key : A → Numbers) (moved : M → A → A) (id : Numbers) (by : M) (x : A) (xs : List A) → find_by key id xs ≡ Some x
    → move_by key moved id by xs ≡ put_by key id (Some (moved by x)) xs
moved_found key moved id by x [] e = refl
moved_found key moved id by x (y ∷ ys) e = grind (arith, moved_found key moved id by x ys)

-- `put` takes over what becomes of the list, and `put_item` is the model's word for it
module _ {A M : Type 0} (moved : M → A → A) (put : Alteration A M → Book → Book) (put_item : Numbers → Book → Option A → Book) (keeps : (b : Book) → put alterations.Keep b ≡ b)
    (puts : (id : Numbers) (o : Option A) (b : Book) → put (alterations.Put id o) b ≡ put_item id b o) where
  -- the item that was found is put, and moved, where it stands
  abbrev Stands : Book → Numbers → A → Type 0
  Stands b id x = (put_item id b (Some x) ≡ b) × ((by : M) → put (alterations.Move id by) b ≡ put_item id b (Some (moved by x)))

  fated : (b : Book) (answer : List Out) (id : Numbers) (x : A) (t : Turn A M) → Stands b id x
      → outcome_in put b (turned answer id t) ≡ outcome_of (put_item id b) answer (turn_of moved (Some x) t)
  fated b answer id x t stands = by t.fate
    where
      by : (f : Fate A M) → outcome_in put b (turned answer id (record t { fate = f })) ≡ outcome_of (put_item id b) answer (turn_of moved (Some x) (record t { fate = f }))
      by fates.Keep = ap (λ c. outcome_of {A = A} (λ o. c) answer (turn_of moved (Some x) t)) (keeps b ∙ sym stands.0)
      by fates.Forget = ap (λ c. outcome_of {A = A} (λ o. c) answer (turn_of moved (Some x) t)) (puts id None b)
      by (fates.Put item) = ap (λ c. outcome_of {A = A} (λ o. c) answer (turn_of moved (Some x) t)) (puts id (Some item) b)
      by (fates.Move m) = ap (λ c. outcome_of {A = A} (λ o. c) answer (turn_of moved (Some x) t)) (stands.1 m)

  pub chosen_so : (b : Book) (now : ℕ) (answer : List Out) (id : Numbers) (x : A) (c : Choice A M) → Stands (at_time now b) id x
      → whole_by put b now (chosen answer id c) ≡ plan_of b (put_item id (at_time now b)) answer (meant moved (Some x) c)
  chosen_so b now answer id x (choices.Goes t) same = ap plain (fated (at_time now b) answer id x t same)
  chosen_so b now answer id x (choices.Records r s None) same =
      λ i. record { entry = Some r; landed = noting r (fated (at_time now b) answer id x s same i); absent = record { book = keeps b i; outs = answer; effects = [] } }
  chosen_so b now answer id x (choices.Records r s (Some t)) same =
      λ i. record { entry = Some r; landed = noting r (fated (at_time now b) answer id x s same i); absent = fated (at_time now b) answer id x t same i }
