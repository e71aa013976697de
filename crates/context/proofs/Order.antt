-- The order of the children doesn't matter.
use Rattle.std.proofs.Common.{◌≡◌, ℕ, ◌+◌, List, [], ◌∷◌, Bool, true, false, ◌||◌, ◌⊎◌, inl, inr, filter, Option, Some, Result, Ok, cond, length, IsPermutation, sum_by, refl, ap, sym, subst, ◌∙◌, arith}
use Rattle.std.specs.List.{AllByRecursion}
use Rattle.std.proofs.lemmas.List.Elements.{All-from_recursion, recursion_from_All}
use Rattle.std.proofs.lemmas.List.Recursion.{is_sum_by}
use Rattle.std.proofs.lemmas.List.Sorted.{All-permutation, sum_by-IsPermutation}
use Rattle.xml_profile.specs.declared.tree.Tree.{Tree}
use Rattle.xml_profile.specs.Prefixes.{coordination}
use Rattle.soap_profile.specs.Values.{elements, is_named, text_value}
use Rattle.at_base.specs.declared.epr.Epr.{Epr}
use Rattle.at_base.specs.declared.message.Context.{Context}
use Rattle.at_base.specs.declared.message.Create.{Create}
use Rattle.at_base.specs.declared.message.Register.{Register}
use Rattle.addressing.specs.Endpoints.{epr_of}
use Rattle.soap_profile.specs.Children.{at_most_one, named}
use Rattle.context.specs.declared.parameter.ContextFault.{ContextFault}
use Rattle.context.specs.declared.parameter.Parameter.{Parameter}
use Rattle.context.specs.declared.parameter.Parameter.TheVariants.{Identifier, Expires, CoordinationType, RegistrationService, CurrentContext, CoordinationContext, ProtocolIdentifier, ParticipantProtocolService, CoordinatorProtocolService}
use Rattle.context.specs.Order.{HaveSame, SayTheSame, context_children, create_children, create_response_children, is_one_of, register_children, register_response_children}
use Rattle.context.specs.Parameters.{child_in, local_name}
use Rattle.context.specs.Bodies.{◌>>=◌, context_of, create_of, create_response_of, register_of, endpoint_in, expires_in, identifier, identifier_in, current_in, optional, readable, required, said_current, said_expires, text_in}

-- how many have a name
abbrev one_if : List ℕ → List ℕ → Tree → ℕ
one_if space local t = cond (is_named t.name space local) 1 0

counted_at : (fits : Bool) (t : Tree) (ts : List Tree) → length (cond fits (t ∷ ts) ts) ≡ cond fits 1 0 + length ts
counted_at true t ts = omega arith
counted_at false t ts = omega arith

counted : (space local : List ℕ) (ts : List Tree) → length (named ts space local) ≡ sum_by (one_if space local) ts
counted space local ts =
    is_sum_by (λ (us : List Tree). length (named us space local)) (one_if space local) refl
    (λ t us. counted_at (is_named t.name space local) t (named us space local)) ts

as_many : (space local : List ℕ) (ts us : List Tree) → IsPermutation ts us → length (named us space local) ≡ length (named ts space local)
as_many space local ts us h =
    counted space local us ∙ (sum_by-IsPermutation (one_if space local) ts us h ∙ sym (counted space local ts))

-- which have a name
abbrev AreAll : Tree → List Tree → Type 0
AreAll only ts = AllByRecursion (λ t. t ≡ only) ts

abbrev IsOnly : List ℕ → List ℕ → Tree → Tree → Type 0
IsOnly space local only t = is_named t.name space local ≡ true → t ≡ only

only_at : (fits : Bool) (space local : List ℕ) (only t : Tree) (ts us : List Tree) → is_named t.name space local ≡ fits
    → AreAll only (cond fits (t ∷ us) us) → (AreAll only us → AllByRecursion (IsOnly space local only) ts)
    → AllByRecursion (IsOnly space local only) (t ∷ ts)
only_at true space local only t ts us e (first, rest) next = ((λ _. first), next rest)
only_at false space local only t ts us e h next = ((λ f. absurd cc), next h)

only_named : (space local : List ℕ) (only : Tree) (ts : List Tree) → AreAll only (named ts space local) → AllByRecursion (IsOnly space local only) ts
only_named space local only [] h = tt
only_named space local only (t ∷ ts) h =
    only_at (is_named t.name space local) space local only t ts (named ts space local) refl h (only_named space local only ts)

all_at : (fits : Bool) (space local : List ℕ) (only t : Tree) (us : List Tree) → is_named t.name space local ≡ fits
    → IsOnly space local only t → AreAll only us → AreAll only (cond fits (t ∷ us) us)
all_at true space local only t us e first rest = (first e, rest)
all_at false space local only t us e first rest = rest

named_only : (space local : List ℕ) (only : Tree) (ts : List Tree) → AllByRecursion (IsOnly space local only) ts → AreAll only (named ts space local)
named_only space local only [] h = tt
named_only space local only (t ∷ ts) (first, rest) =
    all_at (is_named t.name space local) space local only t (named ts space local) refl first (named_only space local only ts rest)

one_of : (ts us : List Tree) → length us ≡ length ts → ((only : Tree) → ts ≡ only ∷ [] → AreAll only us) → at_most_one ts ≡ at_most_one us
one_of [] [] e h = refl
one_of [] (u ∷ us) e h = absurd (omega (arith, e))
one_of (t ∷ []) [] e h = absurd (omega (arith, e))
one_of (t ∷ []) (u ∷ []) e h = let all = h t refl in ap (λ (one : Tree). Some (Some one)) (sym all.0)
one_of (t ∷ []) (u ∷ v ∷ us) e h = absurd (omega (arith, e))
one_of (t ∷ s ∷ ts) [] e h = absurd (omega (arith, e))
one_of (t ∷ s ∷ ts) (u ∷ []) e h = absurd (omega (arith, e))
one_of (t ∷ s ∷ ts) (u ∷ v ∷ us) e h = refl

reordered : (space local : List ℕ) (ts us : List Tree) → IsPermutation ts us
    → at_most_one (named ts space local) ≡ at_most_one (named us space local)
reordered space local ts us h =
    one_of (named ts space local) (named us space local) (as_many space local ts us h)
    (λ only e.
    let own : AreAll only (named ts space local) = subst (AreAll only) (sym e) (refl, tt) in
    let all = All-from_recursion (IsOnly space local only) ts (only_named space local only ts own) in
    named_only space local only us (recursion_from_All (IsOnly space local only) us (All-permutation (IsOnly space local only) ts us h all)))

-- of which children the look-ups are
abbrev IsAmong : Parameter → List Parameter → Type 0
IsAmong parameter [] = ⊥
IsAmong parameter (p ∷ ps) = (parameter ≡ p) ⊎ IsAmong parameter ps

first_true : (a b : Bool) → a ≡ true → (a || b) ≡ true
first_true true b h = refl
first_true false b h = absurd cc

not_true : (false ≡ true) → ⊥
not_true e = cc

either : (a b : Bool) → b ≡ true → (a || b) ≡ true
either true b h = refl
either false b h = h

among : (parameter : Parameter) (ps : List Parameter) (t : Tree) → IsAmong parameter ps → is_named t.name coordination (local_name parameter) ≡ true
    → is_one_of ps t ≡ true
among parameter [] t h e = absurd h
among parameter (p ∷ ps) t h e =
    elim h [
      | inl f ↦ ap (λ (q : Parameter). is_named t.name coordination (local_name q) || is_one_of ps t) (sym f) ∙ first_true (is_named t.name coordination (local_name parameter)) (is_one_of ps t) e
      | inr k ↦ either (is_named t.name coordination (local_name p)) (is_one_of ps t) (among parameter ps t k e)
    ]

kept_at : (kept fits : Bool) (local : List ℕ) (t : Tree) (own all : List Tree) → (fits ≡ true → kept ≡ true) → is_named t.name coordination local ≡ fits
    → named own coordination local ≡ all → named (cond kept (t ∷ own) own) coordination local ≡ cond fits (t ∷ all) all
kept_at true true local t own all h e k = rw e (ap (λ (ts : List Tree). t ∷ ts) k)
kept_at true false local t own all h e k = rw e k
kept_at false true local t own all h e k = absurd (not_true (h refl))
kept_at false false local t own all h e k = k

kept : (parameter : Parameter) (ps : List Parameter) (ts : List Tree) → IsAmong parameter ps
    → named (filter (is_one_of ps) ts) coordination (local_name parameter) ≡ named ts coordination (local_name parameter)
kept parameter ps [] h = refl
kept parameter ps (t ∷ ts) h =
    kept_at (is_one_of ps t) (is_named t.name coordination (local_name parameter)) (local_name parameter) t (filter (is_one_of ps) ts)
    (named ts coordination (local_name parameter)) (among parameter ps t h) refl (kept parameter ps ts h)

looked_up : (ps : List Parameter) (t u : Tree) → HaveSame ps t u → (parameter : Parameter) → IsAmong parameter ps
    → child_in t parameter ≡ child_in u parameter
looked_up ps t u h parameter k =
    ap at_most_one (sym (kept parameter ps (elements t.children) k))
    ∙ (reordered coordination (local_name parameter) (filter (is_one_of ps) (elements t.children)) (filter (is_one_of ps) (elements u.children)) h
    ∙ ap at_most_one (kept parameter ps (elements u.children) k))

-- what is said by the same look-ups
abbrev IsSame : Parameter → Tree → Tree → Type 0
IsSame parameter t u = child_in t parameter ≡ child_in u parameter

text_same : (parameter : Parameter) (t u : Tree) → IsSame parameter t u → text_in t parameter ≡ text_in u parameter
text_same parameter t u e =
    ap (λ (child : Option (Option Tree)). required parameter child >>= λ (found : Tree). Ok (text_value found)) e

endpoint_same : (parameter : Parameter) (t u : Tree) → IsSame parameter t u → endpoint_in t parameter ≡ endpoint_in u parameter
endpoint_same parameter t u e =
    ap (λ (child : Option (Option Tree)). required parameter child >>= λ (found : Tree). readable parameter (epr_of found)) e

identifier_same : (t u : Tree) → IsSame Identifier t u → identifier_in t ≡ identifier_in u
identifier_same t u e =
    ap (λ (said : Result (List ℕ) ContextFault). said >>= λ (text : List ℕ). readable Identifier (identifier text)) (text_same Identifier t u e)

expires_same : (t u : Tree) → IsSame Expires t u → expires_in t ≡ expires_in u
expires_same t u e = ap (λ (child : Option (Option Tree)). optional Expires child >>= said_expires) e

current_same : (t u : Tree) → IsSame CurrentContext t u → current_in t ≡ current_in u
current_same t u e = ap (λ (child : Option (Option Tree)). optional CurrentContext child >>= said_current) e

abbrev context_said : Result (List ℕ) ContextFault → Result (Option ℕ) ContextFault → Result (List ℕ) ContextFault → Result Epr ContextFault
    → Result Context ContextFault
context_said said_identifier said_expires said_type said_registration = do
  identifier ← said_identifier
  expires ← said_expires
  coordination ← said_type
  registration ← said_registration
  Ok (record { identifier = identifier; expires = expires; coordination = coordination; registration = registration })

context_same : (t u : Tree) → HaveSame context_children t u → context_of t ≡ context_of u
context_same t u h =
    let same : (parameter : Parameter) → IsAmong parameter context_children → IsSame parameter t u = looked_up context_children t u h in
    λ i. context_said (identifier_same t u (same Identifier (inl refl)) i) (expires_same t u (same Expires (inr (inl refl))) i)
    (text_same CoordinationType t u (same CoordinationType (inr (inr (inl refl)))) i)
    (endpoint_same RegistrationService t u (same RegistrationService (inr (inr (inr (inl refl))))) i)

abbrev create_said : Result (Option ℕ) ContextFault → Result (Option Context) ContextFault → Result (List ℕ) ContextFault → Result Create ContextFault
create_said said_expires said_current said_type = do
  expires ← said_expires
  current ← said_current
  coordination ← said_type
  Ok (record { expires = expires; current = current; coordination = coordination })

create_same : (t u : Tree) → HaveSame create_children t u → create_of t ≡ create_of u
create_same t u h =
    let same : (parameter : Parameter) → IsAmong parameter create_children → IsSame parameter t u = looked_up create_children t u h in
    λ i. create_said (expires_same t u (same Expires (inl refl)) i) (current_same t u (same CurrentContext (inr (inl refl))) i)
    (text_same CoordinationType t u (same CoordinationType (inr (inr (inl refl)))) i)

create_response_same : (t u : Tree) → HaveSame create_response_children t u → create_response_of t ≡ create_response_of u
create_response_same t u h =
    ap (λ (child : Option (Option Tree)). required CoordinationContext child >>= context_of)
    (looked_up create_response_children t u h CoordinationContext (inl refl))

abbrev register_said : Result (List ℕ) ContextFault → Result Epr ContextFault → Result Register ContextFault
register_said said_protocol said_participant = do
  protocol ← said_protocol
  participant ← said_participant
  Ok (record { protocol = protocol; participant = participant })

register_same : (t u : Tree) → HaveSame register_children t u → register_of t ≡ register_of u
register_same t u h =
    let same : (parameter : Parameter) → IsAmong parameter register_children → IsSame parameter t u = looked_up register_children t u h in
    λ i. register_said (text_same ProtocolIdentifier t u (same ProtocolIdentifier (inl refl)) i)
    (endpoint_same ParticipantProtocolService t u (same ParticipantProtocolService (inr (inl refl))) i)

pub say_the_same : (t u : Tree) → SayTheSame t u
say_the_same t u = record {
  context = context_same t u;
  create = create_same t u;
  create_response = create_response_same t u;
  register = register_same t u;
  register_response = λ h. endpoint_same CoordinatorProtocolService t u (looked_up register_response_children t u h CoordinatorProtocolService (inl refl));
}
