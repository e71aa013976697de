-- Endpoints are read as they were written.
use Rattle.std.proofs.Common.{◌≡◌, ℕ, List, [], ◌∷◌, true, Option, Some, None, refl, ap, ◌∙◌, cond}
use Rattle.std.specs.Prelude.{codes}
use Rattle.std.proofs.lemmas.List.{append-nil}
use Rattle.xml_profile.specs.declared.name.QName.{QName}
use Rattle.xml_profile.specs.declared.tree.Tree.{Tree}
use Rattle.xml_profile.specs.Prefixes.{addressing}
use Rattle.soap_profile.specs.BuiltElements.{text_children}
use Rattle.soap_profile.specs.Values.{direct_text, is_named, text_value, trim}
use Rattle.at_base.specs.declared.epr.Epr.{Epr}
use Rattle.addressing.specs.declared.writer.Endpoint.{Endpoint}
use Rattle.soap_profile.specs.Children.{at_most_one}
use Rattle.addressing.specs.Endpoints.{bounded, epr_of, is_within, joined, params_of}
use Rattle.addressing.specs.OutgoingHeaders.{IsLegible, IsParameters, endpoint_tree, epr_in, text_element}

-- the text of an element of one text
texted : (text : List ℕ) → direct_text (text_children text) ≡ text
texted [] = refl
texted (c ∷ cs) = append-nil (c ∷ cs)

pub text_returns : (local text : List ℕ) → trim text ≡ text → text_value (text_element local text) ≡ text
text_returns local text e = ap trim (texted text) ∙ e

within_returns : (address params : List ℕ) → is_within address params ≡ true → bounded address params ≡ Some (record { address = address; params = params })
within_returns address params h = rw h refl

-- what an address and an element of this name are read as
abbrev found : Tree → Tree → QName → Option Epr
found address t name =
    joined (at_most_one (address ∷ cond (is_named name addressing (codes "Address")) (t ∷ []) []))
    (at_most_one (cond (is_named name addressing (codes "ReferenceParameters")) (t ∷ []) []))
    (at_most_one (cond (is_named name addressing (codes "Metadata")) (t ∷ []) []))

parts_of : (address : List ℕ) (params : Option Tree) (name : QName) → IsParameters params
    → epr_of (endpoint_tree (record { address = address; params = params }) name)
    ≡ bounded (text_value (text_element (codes "Address") address)) (params_of params)
parts_of address None name h = refl
parts_of address (Some t) name h = ap (found (text_element (codes "Address") address) t) h

pub endpoint_returns : (endpoint : Endpoint) (name : QName) → IsLegible endpoint → epr_of (endpoint_tree endpoint name) ≡ Some (epr_in endpoint)
endpoint_returns endpoint name h =
    parts_of endpoint.address endpoint.params name h.params
    ∙ ap (λ (a : List ℕ). bounded a (params_of endpoint.params)) (text_returns (codes "Address") endpoint.address h.trimmed)
    ∙ within_returns endpoint.address (params_of endpoint.params) h.within
