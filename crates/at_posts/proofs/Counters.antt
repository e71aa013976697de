-- Where there is an id for a new item, the counter isn't spent.
use Rattle.std.proofs.Common.{Some, None, Bool, true, false, nat_lt, ◌≡◌, refl, sym, ◌∙◌}
use Rattle.at_base.specs.Numbers.{Numbers}
use Rattle.at_model.specs.Book.{Book, last_counter, next_id}

none_some : {A : Type 0} {x : A} → None ≡ Some x → ⊥
none_some e = absurd cc

pub counts : (b : Book) (id : Numbers) → next_id b ≡ Some id → nat_lt b.counter last_counter ≡ true
counts b id e = by (nat_lt b.counter last_counter) refl
  where
    by : (few : Bool) → nat_lt b.counter last_counter ≡ few → nat_lt b.counter last_counter ≡ true
    by true f = f
    by false f = absurd (none_some (sym (rw f refl) ∙ e))
