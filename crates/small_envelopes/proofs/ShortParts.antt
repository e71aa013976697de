-- Brief endpoints and contexts of such are short.
use Rattle.std.proofs.Common.{◌≡◌, ℕ, true, List, [], ◌∷◌, Option, Some, None, length, refl, ap, sym, subst, arith}
use Rattle.std.specs.Prelude.{codes}
use Rattle.std.specs.Fmt.{decimal}
use Rattle.std.proofs.lemmas.Fmt.{length-decimal-le}
use Rattle.xml_profile.specs.declared.name.QName.{QName}
use Rattle.xml_profile.specs.Prefixes.{addressing}
use Rattle.soap_profile.specs.BuiltElements.{qualified}
use Rattle.at_base.specs.declared.epr.Epr.{Epr}
use Rattle.at_base.specs.declared.message.Context.{Context}
use Rattle.addressing.specs.declared.writer.Endpoint.{Endpoint}
use Rattle.addressing.specs.OutgoingHeaders.{endpoint_tree}
use Rattle.addressing.specs.StoredEndpoints.{IsEndpointOf}
use Rattle.context.specs.declared.parameter.Parameter.TheVariants.{Identifier, Expires, CoordinationType, RegistrationService}
use Rattle.context.specs.declared.writer.OutgoingContext.{OutgoingContext}
use Rattle.context.specs.BodyTrees.{IsNarrow, context_tree, expires_parameter, parameter_name}
use Rattle.wire_posts.specs.Envelopes.{IsContextOf}
use Rattle.small_envelopes.specs.ShortEnvelopes.{IsBrief, IsBriefContext, IsBriefEndpoint}
use Rattle.small_envelopes.proofs.ShortTrees.{AreShort, both_short, element_short, none_short, text_short}
use Rattle.small_envelopes.proofs.SmallParts.{written_bare}
use Rattle.small_envelopes.proofs.TextLengths.{is_plain}

pub endpoint_short : (epr : Epr) (endpoint : Endpoint) (name : QName) → is_plain name ≡ true → IsBriefEndpoint epr → IsEndpointOf epr endpoint
    → AreShort 2280 (endpoint_tree endpoint name ∷ [])
endpoint_short epr endpoint name plain brief h =
    subst (λ (written : Endpoint). AreShort 2280 (endpoint_tree written name ∷ [])) (sym (written_bare epr endpoint brief.bare h))
    (element_short name plain (text_short (qualified addressing (codes "Address")) epr.address refl brief.address))

pub expires_short : (expires : Option ℕ) → IsNarrow expires → AreShort 1780 (expires_parameter expires)
expires_short None h = none_short 1780
expires_short (Some n) h =
    text_short (parameter_name Expires) (decimal n) refl (omega (arith, length-decimal-le 10 n (omega arith) (omega (arith, h)) (omega (arith, h))))

pub same_brief : (text written : List ℕ) → written ≡ text → IsBrief text → IsBrief written
same_brief text written e h = omega (arith, ap length e, h)

pub context_short : (context : Context) (out : OutgoingContext) (name : QName) → is_plain name ≡ true → IsBriefContext context → IsContextOf context out
    → AreShort 8120 (context_tree out name ∷ [])
context_short context out name plain brief h =
    element_short name plain
    (both_short (text_short (parameter_name Identifier) out.identifier refl (same_brief context.identifier out.identifier h.identifier brief.identifier))
    (both_short (expires_short out.expires (subst IsNarrow (sym h.expires) brief.expires))
    (both_short (text_short (parameter_name CoordinationType) out.coordination refl (same_brief context.coordination out.coordination h.coordination brief.coordination))
    (endpoint_short context.registration out.registration (parameter_name RegistrationService) refl brief.registration h.registration))))
