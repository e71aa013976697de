-- What an endpoint that is written is read as.
use Rattle.std.proofs.Common.{inl, inr, ◌≡◌, ℕ, List, [], ◌∷◌, Bool, true, false, IfSome, Option, Some, None, refl, ap, subst, sym, ◌∙◌, cond}
use Rattle.std.specs.Prelude.{◌⊎◌, codes}
use Rattle.xml_profile.specs.declared.tree.Tree.{Tree}
use Rattle.xml_profile.specs.CanonicalText.{canonical_text}
use Rattle.xml_profile.specs.Prefixes.{addressing}
use Rattle.xml_roundtrip.proofs.Trees.{spelled_well}
use Rattle.soap_profile.specs.Values.{is_named}
use Rattle.at_base.specs.declared.epr.Epr.{Epr}
use Rattle.addressing.specs.declared.writer.Endpoint.{Endpoint}
use Rattle.addressing.specs.Endpoints.{is_within}
use Rattle.addressing.specs.StoredEndpoints.{AreKept, IsEndpointOf, IsKept, IsWith}
use Rattle.addressing.specs.OutgoingHeaders.{IsLegible, IsParameters, IsTrimmed, endpoint_with, epr_in, kept_params}
use Rattle.wire_posts.proofs.SpellableParts.{Can}

-- whatever it is: its address is written, and its reference parameters can be spelled

pub record IsSpelled (epr : Epr) (endpoint : Endpoint) : Type 0 where
  pub address : endpoint.address ≡ epr.address
  pub params : IfSome endpoint.params Can

kept_can : (b : Bool) (t : Tree) → Can t → IfSome (cond b (Some t) None) Can
kept_can true t h = h
kept_can false t h = tt

kept_params_can : (params : Option Tree) → IfSome params Can → IfSome (kept_params params) Can
kept_params_can None h = tt
kept_params_can (Some t) h = kept_can (is_named t.name addressing (codes "ReferenceParameters")) t h

with_spelled : (epr : Epr) (endpoint : Endpoint) (params : Option Tree) → IfSome params Can → endpoint ≡ endpoint_with epr.address params
    → IsSpelled epr endpoint
with_spelled epr endpoint params h e = record {
  address = ap (λ (x : Endpoint). x.address) e;
  params = subst (λ (x : Endpoint). IfSome x.params Can) (sym e) (kept_params_can params h);
}

spelled_by : (epr : Epr) (endpoint : Endpoint) (params : List ℕ) → IsWith params epr endpoint → IsSpelled epr endpoint
spelled_by epr endpoint [] h = with_spelled epr endpoint None tt h
spelled_by epr endpoint (c ∷ cs) (inl h) = with_spelled epr endpoint (Some h.tree) (spelled_well epr.params h.tree h.reads.spells) h.whole
spelled_by epr endpoint (c ∷ cs) (inr h) = with_spelled epr endpoint None tt h.whole

pub is_spelled : (epr : Epr) (endpoint : Endpoint) → IsEndpointOf epr endpoint → IsSpelled epr endpoint
is_spelled epr endpoint h = spelled_by epr endpoint epr.params h

-- one that is kept as it was read is read so again

pub record IsRead (epr : Epr) (endpoint : Endpoint) : Type 0 where
  pub legible : IsLegible endpoint
  pub same : epr_in endpoint ≡ epr

abbrev bare : List ℕ → Endpoint
bare address = record { address = address; params = None }

bare_read : (address : List ℕ) → IsTrimmed address → is_within address [] ≡ true → IsRead (record { address = address; params = [] }) (bare address)
bare_read address t w = record { legible = record { trimmed = t; params = tt; within = w }; same = refl }

full_read : (address : List ℕ) (t : Tree) → IsTrimmed address → IsParameters (Some t) → is_within address (canonical_text t) ≡ true
    → IsRead (record { address = address; params = canonical_text t }) (record { address = address; params = Some t })
full_read address t trimmed named w = record { legible = record { trimmed = trimmed; params = named; within = w }; same = refl }

-- an element of reference parameters is kept
named_kept : (t : Tree) → IsParameters (Some t) → kept_params (Some t) ≡ Some t
named_kept t h = ap (λ n. cond (is_named n addressing (codes "ReferenceParameters")) (Some t) None) h

by_none : (address params : List ℕ) (endpoint : Endpoint) → IsTrimmed address → is_within address params ≡ true → [] ≡ params
    → endpoint ≡ endpoint_with address None → IsRead (record { address = address; params = params }) endpoint
by_none address params endpoint t w e h =
    let bare_one : IsRead (record { address = address; params = [] }) endpoint =
    subst (IsRead (record { address = address; params = [] })) (sym h) (bare_read address t (subst (λ p. is_within address p ≡ true) (sym e) w)) in
    subst (λ p. IsRead (record { address = address; params = p }) endpoint) e bare_one

by_tree : (address params : List ℕ) (endpoint : Endpoint) (t : Tree) → IsTrimmed address → is_within address params ≡ true → AreKept params t
    → endpoint ≡ endpoint_with address (Some t) → IsRead (record { address = address; params = params }) endpoint
by_tree address params endpoint t trimmed w k h =
    let e : endpoint ≡ record { address = address; params = Some t } = h ∙ ap (λ (p : Option Tree). record { address = address; params = p }) (named_kept t k.named) in
    let full : IsRead (record { address = address; params = canonical_text t }) endpoint =
    subst (IsRead (record { address = address; params = canonical_text t })) (sym e)
    (full_read address t trimmed k.named (subst (λ p. is_within address p ≡ true) k.canonical w)) in
    subst (λ p. IsRead (record { address = address; params = p }) endpoint) (sym k.canonical) full

abbrev KeptParams : List ℕ → Type 0
KeptParams params = (params ≡ []) ⊎ ((t : Tree) × AreKept params t)

read_by : (address params : List ℕ) (endpoint : Endpoint) → IsTrimmed address → is_within address params ≡ true → KeptParams params
    → (some : List ℕ) → some ≡ params → IsWith some (record { address = address; params = params }) endpoint
    → IsRead (record { address = address; params = params }) endpoint
read_by address params endpoint t w k [] e h = by_none address params endpoint t w e h
read_by address params endpoint t w (inl none) (c ∷ cs) e h = absurd cc
read_by address params endpoint t w (inr (tree, k)) (c ∷ cs) e (inl h) =
    by_tree address params endpoint tree t w k (h.whole ∙ ap (λ u. endpoint_with address (Some u)) (h.only tree k.reads))
read_by address params endpoint t w (inr (tree, k)) (c ∷ cs) e (inr h) = absurd (h.reads_none tree k.reads)

pub is_read : (epr : Epr) (endpoint : Endpoint) → IsKept epr → IsEndpointOf epr endpoint → IsRead epr endpoint
is_read epr endpoint k h = read_by epr.address epr.params endpoint k.trimmed k.within k.params epr.params refl h
