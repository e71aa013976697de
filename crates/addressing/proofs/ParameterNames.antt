-- What is kept as reference parameters is named so.
use Rattle.std.proofs.Common.{◌≡◌, ℕ, List, Bool, true, false, ◌&&◌, Option, Some, None, refl, ap, cond}
use Rattle.std.specs.Prelude.{codes}
use Rattle.std.specs.Str.{bytes_eq}
use Rattle.std.proofs.lemmas.Slice.Eq.{bytes_eq-Decides}
use Rattle.xml_profile.specs.declared.name.QName.{QName}
use Rattle.xml_profile.specs.declared.tree.Tree.{Tree}
use Rattle.xml_profile.specs.Prefixes.{addressing}
use Rattle.soap_profile.specs.BuiltElements.{qualified}
use Rattle.soap_profile.specs.Values.{is_in, is_named}
use Rattle.addressing.specs.OutgoingHeaders.{IsParameters, kept_params}

both : (a b : Bool) → (a && b) ≡ true → (a ≡ true) × (b ≡ true)
both true b h = (refl, h)
both false b h = absurd cc

spaced : (space : Option (List ℕ)) (wanted : List ℕ) → is_in space wanted ≡ true → space ≡ Some wanted
spaced None wanted h = absurd cc
spaced (Some own) wanted h = ap Some ((bytes_eq-Decides own wanted).0 h)

pub named_so : (name : QName) (space local : List ℕ) → is_named name space local ≡ true → name ≡ qualified space local
named_so name space local h =
    let parts : (is_in name.space space ≡ true) × (bytes_eq name.local local ≡ true) = both (is_in name.space space) (bytes_eq name.local local) h in
    let a : name.space ≡ Some space = spaced name.space space parts.0 in
    let b : name.local ≡ local = (bytes_eq-Decides name.local local).0 parts.1 in
    λ i. record { space = a i; local = b i }

kept_by : (fits : Bool) (t : Tree) → (fits ≡ true → t.name ≡ qualified addressing (codes "ReferenceParameters")) → IsParameters (cond fits (Some t) None)
kept_by true t h = h refl
kept_by false t h = tt

pub are_parameters : (params : Option Tree) → IsParameters (kept_params params)
are_parameters None = tt
are_parameters (Some t) =
    kept_by (is_named t.name addressing (codes "ReferenceParameters")) t (named_so t.name addressing (codes "ReferenceParameters"))
