-- The key and the value of the examples can be delivered.
use Rattle.std.specs.Prelude.{List, Bool, codes, not, true, false, ℕ, ◌≡◌}
use Rattle.std.proofs.Common.{ap, lit≤, refl, sym, subst, ◌∙◌}
use Rattle.std.specs.Str.{bytes_eq, chars, is_utf8}
use Rattle.std.proofs.lemmas.Slice.Eq.{bytes_eq-Decides}
use Rattle.deliverables.specs.Deliverables.{IsDeliverableField}

key_so : IsDeliverableField (codes "k")
unfolding chars is_utf8 lib.Utf8.encode
key_so = record { clean = record { trimmed = refl; spelled = refl }; short = lit≤ tt }

value_so : IsDeliverableField (codes "v")
unfolding chars is_utf8 lib.Utf8.encode
value_so = record { clean = record { trimmed = refl; spelled = refl }; short = lit≤ tt }

pub is_key : (key : List ℕ) (b : Bool) → b ≡ not (bytes_eq key (codes "k")) → b ≡ false → IsDeliverableField key
is_key key b e f = by (bytes_eq key (codes "k")) refl (sym e ∙ f)
  where
    by : (t : Bool) → bytes_eq key (codes "k") ≡ t → not t ≡ false → IsDeliverableField key
    by true same h = subst IsDeliverableField (sym ((bytes_eq-Decides key (codes "k")).0 same)) key_so
    by false same h = absurd cc

pub is_value : (value : List ℕ) → bytes_eq value (codes "v") ≡ true → IsDeliverableField value
is_value value h = subst IsDeliverableField (sym ((bytes_eq-Decides value (codes "v")).0 h)) value_so

pub no_key : (key : List ℕ) (b : Bool) → b ≡ not (bytes_eq key (codes "k")) → b ≡ true → key ≡ codes "k" → ⊥
no_key key b e f same = let g : not true ≡ true = ap not (sym ((bytes_eq-Decides key (codes "k")).1 same)) ∙ sym e ∙ f in absurd cc
