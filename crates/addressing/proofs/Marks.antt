-- Which of the blocks that are written are headers.
use Rattle.std.proofs.Common.{◌≡◌, ℕ, List, [], ◌∷◌, ◌++◌, map, Bool, true, false, ◌||◌, Option, Some, None, cond, refl, ap, ◌∙◌}
use Rattle.std.specs.Prelude.{codes}
use Rattle.std.specs.List.{list_any}
use Rattle.std.specs.Str.{bytes_eq}
use Rattle.xml_profile.specs.declared.name.Attribute.{Attribute}
use Rattle.xml_profile.specs.declared.tree.Tree.{Tree}
use Rattle.xml_profile.specs.Prefixes.{addressing}
use Rattle.soap_profile.specs.Envelopes.{is_reference_parameter, is_true}
use Rattle.soap_profile.specs.Values.{attribute, elements, trim}
use Rattle.addressing.specs.declared.writer.Endpoint.{Endpoint}
use Rattle.addressing.specs.declared.writer.OutgoingHeaders.{OutgoingHeaders}
use Rattle.addressing.specs.Endpoints.{anonymous}
use Rattle.addressing.specs.Headers.{own_blocks}
use Rattle.addressing.specs.OutgoingHeaders.{blocks_of, context_blocks, endpoint_blocks, is_mark, mark, marked, marked_attributes, parameters_in, parameters_of, text_blocks, text_element, to_blocks, with_mark}

abbrev told : List Attribute → Option (List ℕ)
told attributes = attribute attributes addressing (codes "IsReferenceParameter")

replaced_at : (fits : Bool) (a : Attribute) (more : List Attribute) → is_mark a ≡ fits → (fits || list_any is_mark more) ≡ true
    → (list_any is_mark more ≡ true → told (map with_mark more) ≡ Some (codes "true")) → told (map with_mark (a ∷ more)) ≡ Some (codes "true")
replaced_at true a more e h k = ap (λ (fits : Bool). told (cond fits mark a ∷ map with_mark more)) e
replaced_at false a more e h k =
    ap (λ (fits : Bool). told (cond fits mark a ∷ map with_mark more)) e
    ∙ (ap (λ (fits : Bool). cond fits (Some (trim a.value)) (told (map with_mark more))) e ∙ k h)

replaced : (more : List Attribute) → list_any is_mark more ≡ true → told (map with_mark more) ≡ Some (codes "true")
replaced [] h = absurd cc
replaced (a ∷ more) h = replaced_at (is_mark a) a more refl h (replaced more)

marked_by : (any : Bool) (more : List Attribute) → list_any is_mark more ≡ any → told (marked_attributes more) ≡ Some (codes "true")
marked_by false more e = ap (λ (any : Bool). told (cond any [] (mark ∷ []) ++ map with_mark more)) e
marked_by true more e = ap (λ (any : Bool). told (cond any [] (mark ∷ []) ++ map with_mark more)) e ∙ replaced more e

pub is_parameter : (t : Tree) → is_reference_parameter (marked t) ≡ true
is_parameter t = ap is_true (marked_by (list_any is_mark t.attributes) t.attributes refl)

own_marked : (ts : List Tree) → own_blocks (map marked ts) ≡ []
own_marked [] = refl
own_marked (t ∷ ts) =
    ap (λ (m : Bool). cond m (own_blocks (map marked ts)) (marked t ∷ own_blocks (map marked ts))) (is_parameter t) ∙ own_marked ts

own_parameters_in : (params : Option Tree) → own_blocks (parameters_in params) ≡ []
own_parameters_in None = refl
own_parameters_in (Some params) = own_marked (elements params.children)

own_parameters : (to : Option Endpoint) → own_blocks (parameters_of to) ≡ []
own_parameters None = refl
own_parameters (Some endpoint) = own_parameters_in endpoint.params

own_text : (local : List ℕ) (text : Option (List ℕ)) → own_blocks (text_blocks local text) ≡ text_blocks local text
own_text local None = refl
own_text local (Some text) = refl

own_named : (nowhere : Bool) (address : List ℕ)
    → own_blocks (cond nowhere [] (text_element (codes "To") address ∷ [])) ≡ cond nowhere [] (text_element (codes "To") address ∷ [])
own_named true address = refl
own_named false address = refl

own_to : (to : Option Endpoint) → own_blocks (to_blocks to) ≡ to_blocks to
own_to None = refl
own_to (Some endpoint) = own_named (bytes_eq endpoint.address anonymous) endpoint.address

own_endpoint : (local : List ℕ) (endpoint : Option Endpoint) → own_blocks (endpoint_blocks local endpoint) ≡ endpoint_blocks local endpoint
own_endpoint local None = refl
own_endpoint local (Some endpoint) = refl

own_context : (context : Option Tree) → own_blocks (context_blocks context) ≡ context_blocks context
own_context None = refl
own_context (Some t) = refl

own_first : (m : Bool) (t : Tree) (all front back : List Tree) → all ≡ front ++ back → cond m all (t ∷ all) ≡ cond m front (t ∷ front) ++ back
own_first true t all front back e = e
own_first false t all front back e = ap (λ (ts : List Tree). t ∷ ts) e

own_append : (ts us : List Tree) → own_blocks (ts ++ us) ≡ own_blocks ts ++ own_blocks us
own_append [] us = refl
own_append (t ∷ ts) us = own_first (is_reference_parameter t) t (own_blocks (ts ++ us)) (own_blocks ts) (own_blocks us) (own_append ts us)

own_parts : (a b c d e f g h : List Tree)
    → own_blocks (a ++ b ++ c ++ d ++ e ++ f ++ g ++ h)
    ≡ own_blocks a ++ own_blocks b ++ own_blocks c ++ own_blocks d ++ own_blocks e ++ own_blocks f ++ own_blocks g ++ own_blocks h
own_parts a b c d e f g h = simp own_append

-- the blocks without reference parameters
abbrev pub heads : OutgoingHeaders → List Tree
heads out =
    to_blocks out.to ++ text_element (codes "Action") out.action ∷ [] ++ text_blocks (codes "MessageID") out.id
    ++ text_blocks (codes "RelatesTo") out.relates ++ endpoint_blocks (codes "From") out.from
    ++ endpoint_blocks (codes "ReplyTo") out.reply ++ [] ++ context_blocks out.context

pub own_heads : (out : OutgoingHeaders) → own_blocks (blocks_of out) ≡ heads out
own_heads out =
    let action : List Tree = text_element (codes "Action") out.action ∷ [] in
    own_parts (to_blocks out.to) action (text_blocks (codes "MessageID") out.id) (text_blocks (codes "RelatesTo") out.relates)
    (endpoint_blocks (codes "From") out.from) (endpoint_blocks (codes "ReplyTo") out.reply) (parameters_of out.to) (context_blocks out.context)
    ∙ (λ i. own_to out.to i ++ action ++ own_text (codes "MessageID") out.id i ++ own_text (codes "RelatesTo") out.relates i
    ++ own_endpoint (codes "From") out.from i ++ own_endpoint (codes "ReplyTo") out.reply i ++ own_parameters out.to i ++ own_context out.context i)
