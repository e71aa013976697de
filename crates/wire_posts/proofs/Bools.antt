-- Tests, taken apart and put together.
use Rattle.std.proofs.Common.{◌≡◌, ℕ, List, Bool, true, false, ◌&&◌, ◌||◌, not, Option, Some, None, refl, ap, cond}
use Rattle.std.specs.Str.{bytes_eq}
use Rattle.std.proofs.lemmas.Slice.Eq.{bytes_eq-Decides}
use Rattle.xml_profile.specs.declared.name.QName.{QName}
use Rattle.soap_profile.specs.BuiltElements.{qualified}
use Rattle.soap_profile.specs.Values.{is_in, is_named}

pub both : (a b : Bool) → (a && b) ≡ true → (a ≡ true) × (b ≡ true)
both true b h = (refl, h)
both false b h = absurd cc

pub both_true : (a b : Bool) → a ≡ true → b ≡ true → (a && b) ≡ true
both_true true b h k = k
both_true false b h k = absurd cc

pub neither : (a b : Bool) → (a || b) ≡ false → (a ≡ false) × (b ≡ false)
neither false b h = (refl, h)
neither true b h = absurd cc

pub false_unless : (b : Bool) → (b ≡ true → ⊥) → b ≡ false
false_unless true h = absurd (h refl)
false_unless false h = refl

pub apart : (b : Bool) → b ≡ true → b ≡ false → ⊥
apart true h k = cc
apart false h k = cc

pub not_so : (b : Bool) → b ≡ false → not b ≡ true
not_so true h = absurd cc
not_so false h = refl

pub taken : {A : Type 0} (b : Bool) (x y : A) → b ≡ true → cond b x y ≡ x
taken true x y h = refl
taken false x y h = absurd cc

spaced : (space : Option (List ℕ)) (wanted : List ℕ) → is_in space wanted ≡ true → space ≡ Some wanted
spaced None wanted h = absurd cc
spaced (Some own) wanted h = ap Some ((bytes_eq-Decides own wanted).0 h)

-- a name that has a namespace and a local name is that name
pub named_so : (name : QName) (space local : List ℕ) → is_named name space local ≡ true → name ≡ qualified space local
named_so name space local h =
    let parts : (is_in name.space space ≡ true) × (bytes_eq name.local local ≡ true) = both (is_in name.space space) (bytes_eq name.local local) h in
    let a : name.space ≡ Some space = spaced name.space space parts.0 in
    let b : name.local ≡ local = (bytes_eq-Decides name.local local).0 parts.1 in
    λ i. record { space = a i; local = b i }
