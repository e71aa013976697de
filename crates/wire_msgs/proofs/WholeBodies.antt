-- What is read of trees that fit is whole.
use Rattle.std.proofs.Common.{inl, inr, ◌≡◌, refl, arith, ℕ, ◌≤◌, ◌<◌, ◌^◌, ◌+◌, List, [], length, Bool, true, false, cond, ◌&&◌, nat_le, not, IfOk, IfSome, Option, Some, None, Result, Ok, Err}
use Rattle.std.specs.Prelude.{codes, ◌⊎◌}
use Rattle.std.specs.Str.{all_ascii_digits}
use Rattle.std.specs.Str.Parse.{digits_value, without_leading_plus}
use Rattle.std.proofs.lemmas.Bool.{leb-true}
use Rattle.at_base.specs.declared.limits.TheConstants.{MOST_ENDPOINT}
use Rattle.xml_profile.specs.declared.tree.Tree.{Tree}
use Rattle.xml_profile.specs.CanonicalText.{canonical_text}
use Rattle.xml_profile.specs.Prefixes.{addressing as addressing_space, coordination as coordination_space}
use Rattle.xml_roundtrip.proofs.Bools.{and_true}
use Rattle.xml_roundtrip.proofs.RoundtripLimits.{written_reads}
use Rattle.soap_profile.specs.Values.{elements, is_empty, text_value}
use Rattle.addressing.specs.Endpoints.{bounded, epr_of, is_within, joined, params_of, part_of}
use Rattle.addressing.specs.StoredEndpoints.{AreKept}
use Rattle.addressing.proofs.ParameterNames.{named_so}
use Rattle.context.specs.declared.parameter.Parameter.{Parameter}
use Rattle.context.specs.declared.parameter.Parameter.TheVariants.{Identifier, Expires, CoordinationType, RegistrationService, CurrentContext, CoordinationContext, ProtocolIdentifier, ParticipantProtocolService, CoordinatorProtocolService}
use Rattle.context.specs.declared.parameter.ContextFault.{ContextFault}
use Rattle.context.specs.Parameters.{child_in, local_name}
use Rattle.context.specs.Bodies.{◌>>=◌, are_digits, context_of, create_of, create_response_of, current_in, digits_number, endpoint_in, expires_in, identifier, identifier_in, is_identifier, number_of, optional, readable, register_of, register_response_of, required, said_current, said_expires, text_in}
use Rattle.context.specs.BodyTrees.{IsNarrow}
use Rattle.wire_msgs.specs.WholeMessages.{IsClean, IsWholeContext, IsWholeCreate, IsWholeEndpoint, IsWholeRegister}
use Rattle.wire_msgs.proofs.FittingTrees.{Fit, child_fit, FitNamed, IfOne, fit_elements, looser, one_named, value_clean}

-- endpoints

abbrev KeptParams : List ℕ → Type 0
KeptParams params = (params ≡ []) ⊎ ((t : Tree) × AreKept params t)

few : (a p : ℕ) → nat_le (a + p) MOST_ENDPOINT ≡ true → p ≤ 65536
few a p h = let l = leb-true (a + p) MOST_ENDPOINT h in omega (arith, l)

short_params : (address params : List ℕ) → is_within address params ≡ true → length params ≤ 65536
short_params address params w =
    few (length address) (length params) (and_true (not (is_empty address)) (nat_le (length address + length params) MOST_ENDPOINT) w).1

params_kept : (address : List ℕ) (params : Option Tree) → IfSome params (FitNamed addressing_space (codes "ReferenceParameters"))
    → is_within address (params_of params) ≡ true → KeptParams (params_of params)
params_kept address None h w = inl refl
params_kept address (Some t) h w = inr (
  t,
  record {
    reads = written_reads t h.0.spelled h.0.within (short_params address (canonical_text t) w);
    canonical = refl;
    named = named_so t.name addressing_space (codes "ReferenceParameters") h.1;
  },
)

bounded_whole : (address : List ℕ) (params : Option Tree) → IsClean address → IfSome params (FitNamed addressing_space (codes "ReferenceParameters"))
    → IfSome (bounded address (params_of params)) IsWholeEndpoint
bounded_whole address params c h = by_bound (is_within address (params_of params)) refl
  where
    by_bound : (b : Bool) → is_within address (params_of params) ≡ b
        → IfSome (cond b (Some (record { address = address; params = params_of params })) None) IsWholeEndpoint
    by_bound true w = record { kept = record { trimmed = c.trimmed; within = w; params = params_kept address params h w }; spelled = c.spelled }
    by_bound false w = tt

joined_whole : (address params metadata : Option (Option Tree)) → IfOne Fit address → IfOne (FitNamed addressing_space (codes "ReferenceParameters")) params
    → IfSome (joined address params metadata) IsWholeEndpoint
joined_whole None params metadata h k = tt
joined_whole (Some None) params metadata h k = tt
joined_whole (Some (Some address)) None metadata h k = tt
joined_whole (Some (Some address)) (Some params) None h k = tt
joined_whole (Some (Some address)) (Some params) (Some metadata) h k = bounded_whole (text_value address) params (value_clean address h) k

part_fit : (t : Tree) (local : List ℕ) → Fit t → IfOne (FitNamed addressing_space local) (part_of t local)
part_fit t local f = one_named (elements t.children) addressing_space local (fit_elements t f)

pub endpoint_whole : (t : Tree) → Fit t → IfSome (epr_of t) IsWholeEndpoint
endpoint_whole t f =
    joined_whole (part_of t (codes "Address")) (part_of t (codes "ReferenceParameters")) (part_of t (codes "Metadata"))
    (looser (FitNamed addressing_space (codes "Address")) Fit (λ u h. h.0) (part_of t (codes "Address")) (part_fit t (codes "Address") f))
    (part_fit t (codes "ReferenceParameters") f)

-- a chain of which each step keeps something

chain : {A B : Type 0} (P : A → Type 0) (Q : B → Type 0) (first : Result A ContextFault) (next : A → Result B ContextFault)
    → IfOk first P → ((x : A) → P x → IfOk (next x) Q) → IfOk (first >>= next) Q
chain P Q (Ok x) next h k = k x h
chain P Q (Err f) next h k = tt

readable_keeps : {A : Type 0} (P : A → Type 0) (parameter : Parameter) (value : Option A) → IfSome value P → IfOk (readable parameter value) P
readable_keeps P parameter None h = tt
readable_keeps P parameter (Some x) h = h

-- children

parameter_fit : (t : Tree) (parameter : Parameter) → Fit t → IfOne Fit (child_in t parameter)
parameter_fit t parameter f = child_fit t (Some coordination_space) (local_name parameter) f

required_fit : (parameter : Parameter) (child : Option (Option Tree)) → IfOne Fit child → IfOk (required parameter child) Fit
required_fit parameter None h = tt
required_fit parameter (Some None) h = tt
required_fit parameter (Some (Some t)) h = h

optional_fit : (parameter : Parameter) (child : Option (Option Tree)) → IfOne Fit child → IfOk (optional parameter child) (λ o. IfSome o Fit)
optional_fit parameter None h = tt
optional_fit parameter (Some child) h = h

child_kept : (t : Tree) (parameter : Parameter) → Fit t → IfOk (required parameter (child_in t parameter)) Fit
child_kept t parameter f = required_fit parameter (child_in t parameter) (parameter_fit t parameter f)

text_clean : (t : Tree) (parameter : Parameter) → Fit t → IfOk (text_in t parameter) IsClean
text_clean t parameter f =
    chain Fit IsClean (required parameter (child_in t parameter)) (λ child. Ok (text_value child)) (child_kept t parameter f) (λ u h. value_clean u h)

endpoint_kept : (t : Tree) (parameter : Parameter) → Fit t → IfOk (endpoint_in t parameter) IsWholeEndpoint
endpoint_kept t parameter f =
    chain Fit IsWholeEndpoint (required parameter (child_in t parameter)) (λ child. readable parameter (epr_of child)) (child_kept t parameter f)
    (λ u h. readable_keeps IsWholeEndpoint parameter (epr_of u) (endpoint_whole u h))

-- an identifier

record IsIdentifier (text : List ℕ) : Type 0 where
  clean : IsClean text
  within : is_identifier text ≡ true

identifier_fits : (text : List ℕ) → IsClean text → IfSome (identifier text) IsIdentifier
identifier_fits text c = by_test (is_identifier text) refl
  where
    by_test : (b : Bool) → is_identifier text ≡ b → IfSome (cond b (Some text) None) IsIdentifier
    by_test true e = record { clean = c; within = e }
    by_test false e = tt

identifier_kept : (t : Tree) → Fit t → IfOk (identifier_in t) IsIdentifier
identifier_kept t f =
    chain IsClean IsIdentifier (text_in t Identifier) (λ text. readable Identifier (identifier text)) (text_clean t Identifier f)
    (λ text c. readable_keeps IsIdentifier Identifier (identifier text) (identifier_fits text c))

-- a time

narrow : (n : ℕ) → nat_le n 4294967295 ≡ true → n < 2 ^ 32
narrow n h = let l = leb-true n 4294967295 h in omega (arith, l)

digits_narrow : (digits : List ℕ) → IfSome (digits_number digits) (λ n. n < 2 ^ 32)
digits_narrow digits = by_test (are_digits digits) refl
  where
    by_test : (b : Bool) → are_digits digits ≡ b → IfSome (cond b (Some (digits_value 10 digits)) None) (λ n. n < 2 ^ 32)
    by_test true e =
        let all = and_true (not (is_empty digits)) (all_ascii_digits digits && nat_le (digits_value 10 digits) 4294967295) e in
        narrow (digits_value 10 digits) (and_true (all_ascii_digits digits) (nat_le (digits_value 10 digits) 4294967295) all.1).1
    by_test false e = tt

said_narrow : (child : Option Tree) → IfOk (said_expires child) IsNarrow
said_narrow None = tt
said_narrow (Some child) =
    chain (λ n. n < 2 ^ 32) IsNarrow (readable Expires (number_of (text_value child))) (λ n. Ok (Some n))
    (readable_keeps (λ n. n < 2 ^ 32) Expires (number_of (text_value child)) (digits_narrow (without_leading_plus (text_value child)))) (λ n h. h)

expires_kept : (t : Tree) → Fit t → IfOk (expires_in t) IsNarrow
expires_kept t f =
    chain (λ o. IfSome o Fit) IsNarrow (optional Expires (child_in t Expires)) said_expires
    (optional_fit Expires (child_in t Expires) (parameter_fit t Expires f)) (λ o h. said_narrow o)

-- the five bodies

pub context_whole : (t : Tree) → Fit t → IfOk (context_of t) IsWholeContext
context_whole t f =
    chain IsIdentifier IsWholeContext (identifier_in t) _ (identifier_kept t f)
    (λ id i. chain IsNarrow IsWholeContext (expires_in t) _ (expires_kept t f)
    (λ expires n. chain IsClean IsWholeContext (text_in t CoordinationType) _ (text_clean t CoordinationType f)
    (λ coordination c. chain IsWholeEndpoint IsWholeContext (endpoint_in t RegistrationService) _ (endpoint_kept t RegistrationService f)
    (λ registration w. record { identifier = i.clean; within = i.within; expires = n; coordination = c; registration = w }))))

said_whole : (child : Option Tree) → IfSome child Fit → IfOk (said_current child) (λ o. IfSome o IsWholeContext)
said_whole None h = tt
said_whole (Some child) h = chain IsWholeContext (λ o. IfSome o IsWholeContext) (context_of child) (λ context. Ok (Some context)) (context_whole child h) (λ context w. w)

current_whole : (t : Tree) → Fit t → IfOk (current_in t) (λ o. IfSome o IsWholeContext)
current_whole t f =
    chain (λ o. IfSome o Fit) (λ o. IfSome o IsWholeContext) (optional CurrentContext (child_in t CurrentContext)) said_current
    (optional_fit CurrentContext (child_in t CurrentContext) (parameter_fit t CurrentContext f)) said_whole

pub create_whole : (t : Tree) → Fit t → IfOk (create_of t) IsWholeCreate
create_whole t f =
    chain IsNarrow IsWholeCreate (expires_in t) _ (expires_kept t f)
    (λ expires n. chain (λ o. IfSome o IsWholeContext) IsWholeCreate (current_in t) _ (current_whole t f)
    (λ current w. chain IsClean IsWholeCreate (text_in t CoordinationType) _ (text_clean t CoordinationType f)
    (λ coordination c. record { expires = n; current = w; coordination = c })))

pub create_response_whole : (t : Tree) → Fit t → IfOk (create_response_of t) IsWholeContext
create_response_whole t f =
    chain Fit IsWholeContext (required CoordinationContext (child_in t CoordinationContext)) context_of (child_kept t CoordinationContext f) context_whole

pub register_whole : (t : Tree) → Fit t → IfOk (register_of t) IsWholeRegister
register_whole t f =
    chain IsClean IsWholeRegister (text_in t ProtocolIdentifier) _ (text_clean t ProtocolIdentifier f)
    (λ protocol c. chain IsWholeEndpoint IsWholeRegister (endpoint_in t ParticipantProtocolService) _ (endpoint_kept t ParticipantProtocolService f)
    (λ participant w. record { protocol = c; participant = w }))

pub register_response_whole : (t : Tree) → Fit t → IfOk (register_response_of t) IsWholeEndpoint
register_response_whole t f = endpoint_kept t CoordinatorProtocolService f
