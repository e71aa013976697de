-- Endpoints without reference parameters, and contexts of such, are small.
use Rattle.std.proofs.Common.{◌≡◌, ℕ, suc, List, [], ◌∷◌, Option, Some, None, ap, sym, subst}
use Rattle.std.specs.Prelude.{codes}
use Rattle.std.specs.Fmt.{decimal}
use Rattle.std.specs.Option.{option_to_list}
use Rattle.xml_profile.specs.declared.name.QName.{QName}
use Rattle.xml_profile.specs.declared.tree.Tree.{Tree}
use Rattle.xml_profile.specs.Prefixes.{addressing}
use Rattle.soap_profile.specs.BuiltElements.{qualified}
use Rattle.at_base.specs.declared.epr.Epr.{Epr}
use Rattle.at_base.specs.declared.message.Context.{Context}
use Rattle.addressing.specs.declared.writer.Endpoint.{Endpoint}
use Rattle.addressing.specs.OutgoingHeaders.{endpoint_tree, endpoint_with, text_element}
use Rattle.addressing.specs.StoredEndpoints.{IsEndpointOf, IsWith}
use Rattle.context.specs.declared.parameter.Parameter.TheVariants.{Identifier, Expires, CoordinationType, RegistrationService}
use Rattle.context.specs.declared.writer.OutgoingContext.{OutgoingContext}
use Rattle.context.specs.BodyTrees.{context_tree, expires_parameter, parameter_name}
use Rattle.wire_posts.specs.Envelopes.{IsContextOf}
use Rattle.small_envelopes.proofs.SmallTrees.{AreSmall, both_small, element_small, none_small, text_small}

without : (params : List ℕ) (epr : Epr) (endpoint : Endpoint) → params ≡ [] → IsWith params epr endpoint → endpoint ≡ endpoint_with epr.address None
without [] epr endpoint e h = h
without (c ∷ cs) epr endpoint e h = absurd cc

-- an endpoint without reference parameters is written as its address alone
pub written_bare : (epr : Epr) (endpoint : Endpoint) → epr.params ≡ [] → IsEndpointOf epr endpoint → endpoint ≡ endpoint_with epr.address None
written_bare epr endpoint e h = without epr.params epr endpoint e h

-- so without them
pub written_without : (epr : Epr) (endpoint : Endpoint) → epr.params ≡ [] → IsEndpointOf epr endpoint → endpoint.params ≡ None
written_without epr endpoint e h = ap (λ (x : Endpoint). x.params) (written_bare epr endpoint e h)

pub endpoint_small : (deep : ℕ) (epr : Epr) (endpoint : Endpoint) (name : QName) → epr.params ≡ [] → IsEndpointOf epr endpoint
    → AreSmall (suc (suc deep)) 2 (endpoint_tree endpoint name ∷ [])
endpoint_small deep epr endpoint name e h =
    let address : Tree = text_element (codes "Address") endpoint.address in
    element_small name
    (subst (λ (params : Option Tree). AreSmall (suc deep) 1 (address ∷ option_to_list params)) (sym (written_without epr endpoint e h))
    (text_small deep (qualified addressing (codes "Address")) endpoint.address))

pub expires_small : (deep : ℕ) (expires : Option ℕ) → AreSmall (suc deep) 1 (expires_parameter expires)
expires_small deep None = none_small (suc deep) 1
expires_small deep (Some n) = text_small deep (parameter_name Expires) (decimal n)

pub context_small : (deep : ℕ) (context : Context) (out : OutgoingContext) (name : QName) → context.registration.params ≡ []
    → IsContextOf context out → AreSmall (suc (suc (suc deep))) 6 (context_tree out name ∷ [])
context_small deep context out name e h =
    element_small name
    (both_small (text_small (suc deep) (parameter_name Identifier) out.identifier)
    (both_small (expires_small (suc deep) out.expires)
    (both_small (text_small (suc deep) (parameter_name CoordinationType) out.coordination)
    (endpoint_small deep context.registration out.registration (parameter_name RegistrationService) e h.registration))))
