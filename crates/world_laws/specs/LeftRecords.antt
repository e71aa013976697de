-- Records by rising id, one after another.
use Rattle.std.specs.Prelude.{ℕ, List, [], ◌∷◌, suc, if◌then◌else◌}
use Rattle.at_base.specs.declared.record.Record.{Record}
use Rattle.at_model.specs.Recovery.{insert_by, is_before, kept}
use Rattle.model_laws.specs.Compactions.{record_id}

-- where a record goes among these
abbrev pub place_in : Record → List Record → ℕ
place_in r [] = 0
place_in r (s ∷ rest) = if is_before (record_id s) (record_id r) then suc (place_in r rest) else 0

abbrev pub with_each : List Record → List Record → List Record
with_each [] left = left
with_each (r ∷ rest) left = insert_by record_id r (with_each rest left)

-- with what a record keeps alive, with the records behind it
abbrev pub with_kept : Record → List Record → List Record → List Record
with_kept r rest left = with_each (kept r rest) left
