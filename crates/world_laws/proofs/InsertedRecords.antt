-- A record in its place among those by rising id.
use Rattle.std.specs.Prelude.{List, [], ◌∷◌, ◌++◌, Bool, true, false, suc, ◌≡◌, if◌then◌else◌, refl}
use Rattle.std.specs.List.{insert}
use Rattle.std.proofs.Common.{ap, sym}
use Rattle.at_base.specs.declared.record.Record.{Record}
use Rattle.at_model.specs.Recovery.{in_order, insert_by, is_before, kept, live}
use Rattle.model_laws.specs.Compactions.{record_id}
use Rattle.world_laws.specs.LeftRecords.{place_in, with_each, with_kept}

pub inserted : (r : Record) (left : List Record) → insert left (place_in r left) r ≡ insert_by record_id r left
inserted r [] = refl
inserted r (s ∷ rest) = at (is_before (record_id s) (record_id r)) (inserted r rest)
  where
    at : (b : Bool) → insert rest (place_in r rest) r ≡ insert_by record_id r rest
        → insert (s ∷ rest) (if b then suc (place_in r rest) else 0) r ≡ (if b then s ∷ insert_by record_id r rest else r ∷ (s ∷ rest))
    at true e = ap (λ xs. s ∷ xs) e
    at false e = refl

in_order_join : (xs ys : List Record) → in_order record_id (xs ++ ys) ≡ with_each xs (in_order record_id ys)
in_order_join [] ys = refl
in_order_join (x ∷ xs) ys = ap (insert_by record_id x) (in_order_join xs ys)

-- one record more from the back
pub one_kept : (r : Record) (rest : List Record) → with_kept r rest (in_order record_id (live rest)) ≡ in_order record_id (live (r ∷ rest))
one_kept r rest = sym (in_order_join (kept r rest) (live rest))
