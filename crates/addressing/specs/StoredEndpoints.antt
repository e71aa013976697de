-- An endpoint whose reference parameters are kept as a text, as it is written.
use Rattle.std.specs.Prelude.{ℕ, List, [], ◌∷◌, Some, None, ◌≡◌, ◌⊎◌, true}
use Rattle.xml_profile.specs.declared.name.QName.{QName}
use Rattle.xml_profile.specs.declared.tree.Tree.{Tree}
use Rattle.xml_profile.specs.CanonicalText.{canonical_text}
use Rattle.xml_grammar.specs.Refusals.{Reads}
use Rattle.at_base.specs.declared.epr.Epr.{Epr}
use Rattle.addressing.specs.declared.writer.Endpoint.{Endpoint}
use Rattle.addressing.specs.Endpoints.{is_within}
use Rattle.addressing.specs.OutgoingHeaders.{IsParameters, IsTrimmed, endpoint_tree, endpoint_with}

-- parameters that are read as an element, and as no other, go along with the address
pub record HasParameters (epr : Epr) (endpoint : Endpoint) : Type 0 where
  pub tree : Tree
  pub reads : Reads epr.params tree
  pub only : (t : Tree) → Reads epr.params t → tree ≡ t
  pub whole : endpoint ≡ endpoint_with epr.address (Some tree)

-- those that are read as none are left out
pub record HasNone (epr : Epr) (endpoint : Endpoint) : Type 0 where
  pub reads_none : (t : Tree) → ¬ (Reads epr.params t)
  pub whole : endpoint ≡ endpoint_with epr.address None

abbrev pub IsWith : List ℕ → Epr → Endpoint → Type 0
IsWith [] epr endpoint = endpoint ≡ endpoint_with epr.address None
IsWith (c ∷ cs) epr endpoint = HasParameters epr endpoint ⊎ HasNone epr endpoint

abbrev pub IsEndpointOf : Epr → Endpoint → Type 0
IsEndpointOf epr endpoint = IsWith epr.params epr endpoint

-- the element of an endpoint that is kept (WS-Addressing 1.0 Core, section 2.2)
pub record IsElementOf (epr : Epr) (name : QName) (t : Tree) : Type 0 where
  pub endpoint : Endpoint
  pub of : IsEndpointOf epr endpoint
  pub whole : t ≡ endpoint_tree endpoint name

-- parameters as they are kept: none, or the canonical text of the element that they spell
pub record AreKept (params : List ℕ) (t : Tree) : Type 0 where
  pub reads : Reads params t
  pub canonical : params ≡ canonical_text t
  pub named : IsParameters (Some t)

-- an endpoint as reading gives it
pub record IsKept (epr : Epr) : Type 0 where
  pub trimmed : IsTrimmed epr.address
  pub within : is_within epr.address epr.params ≡ true
  pub params : (epr.params ≡ []) ⊎ ((t : Tree) × AreKept epr.params t)
