-- Each block that is written is understood.
use Rattle.std.proofs.Common.{◌≡◌, ℕ, List, [], ◌∷◌, ◌++◌, map, Bool, true, false, ◌&&◌, ◌||◌, not, Option, Some, None, cond, refl, ap, ◌∙◌}
use Rattle.std.specs.Prelude.{codes, IfSome}
use Rattle.std.specs.Str.{bytes_eq}
use Rattle.xml_profile.specs.declared.name.QName.{QName}
use Rattle.xml_profile.specs.declared.tree.Tree.{Tree}
use Rattle.soap_profile.specs.Envelopes.{is_mandatory, is_obstacle, is_understood_name, not_understood}
use Rattle.soap_profile.specs.Values.{elements}
use Rattle.addressing.specs.declared.writer.Endpoint.{Endpoint}
use Rattle.addressing.specs.declared.writer.OutgoingHeaders.{OutgoingHeaders}
use Rattle.addressing.specs.Endpoints.{anonymous}
use Rattle.addressing.specs.OutgoingHeaders.{IsContext, blocks_of, context_blocks, endpoint_blocks, marked, message_blocks, parameters_in, parameters_of, text_blocks, text_element, to_blocks}
use Rattle.addressing.proofs.Marks.{is_parameter}

abbrev IsClear : List Tree → Type 0
IsClear blocks = not_understood blocks ≡ None

clear_first : (obstacle : Bool) (name : List ℕ) (all front : Option (List ℕ)) → (front ≡ None → all ≡ None) → cond obstacle (Some name) front ≡ None
    → cond obstacle (Some name) all ≡ None
clear_first true name all front f e = absurd cc
clear_first false name all front f e = f e

clear_both : (front back : List Tree) → IsClear front → IsClear back → IsClear (front ++ back)
clear_both [] back e f = f
clear_both (t ∷ ts) back e f =
    clear_first (is_obstacle t) t.name.local (not_understood (ts ++ back)) (not_understood ts) (λ h. clear_both ts back h f) e

no_obstacle : (mandatory named : Bool) → (mandatory && not (named || true)) ≡ false
no_obstacle true true = refl
no_obstacle true false = refl
no_obstacle false named = refl

marked_clear : (t : Tree) → is_obstacle (marked t) ≡ false
marked_clear t =
    ap (λ (m : Bool). is_mandatory (marked t) && not (is_understood_name t.name || m)) (is_parameter t)
    ∙ no_obstacle (is_mandatory (marked t)) (is_understood_name t.name)

all_marked_clear : (ts : List Tree) → IsClear (map marked ts)
all_marked_clear [] = refl
all_marked_clear (t ∷ ts) =
    ap (λ (obstacle : Bool). cond obstacle (Some t.name.local) (not_understood (map marked ts))) (marked_clear t) ∙ all_marked_clear ts

parameters_in_clear : (params : Option Tree) → IsClear (parameters_in params)
parameters_in_clear None = refl
parameters_in_clear (Some params) = all_marked_clear (elements params.children)

parameters_clear : (to : Option Endpoint) → IsClear (parameters_of to)
parameters_clear None = refl
parameters_clear (Some endpoint) = parameters_in_clear endpoint.params

text_clear : (local : List ℕ) (text : Option (List ℕ)) → IsClear (text_blocks local text)
text_clear local None = refl
text_clear local (Some text) = refl

named_clear : (nowhere : Bool) (address : List ℕ) → IsClear (cond nowhere [] (text_element (codes "To") address ∷ []))
named_clear true address = refl
named_clear false address = refl

to_clear : (to : Option Endpoint) → IsClear (to_blocks to)
to_clear None = refl
to_clear (Some endpoint) = named_clear (bytes_eq endpoint.address anonymous) endpoint.address

endpoint_clear : (local : List ℕ) (endpoint : Option Endpoint) → IsClear (endpoint_blocks local endpoint)
endpoint_clear local None = refl
endpoint_clear local (Some endpoint) = refl

context_clear : (context : Option Tree) → IfSome context IsContext → IsClear (context_blocks context)
context_clear None h = refl
context_clear (Some t) h = ap (λ (name : QName). cond (not (is_understood_name name || false)) (Some name.local) None) h

message_clear : (to : Option Endpoint) (action : List ℕ) (id relates : Option (List ℕ)) → IsClear (message_blocks to action id relates)
message_clear to action id relates =
    let named : List Tree = to_blocks to ++ text_element (codes "Action") action ∷ [] in
    clear_both (named ++ text_blocks (codes "MessageID") id) (text_blocks (codes "RelatesTo") relates)
    (clear_both named (text_blocks (codes "MessageID") id)
    (clear_both (to_blocks to) (text_element (codes "Action") action ∷ []) (to_clear to) refl)
    (text_clear (codes "MessageID") id))
    (text_clear (codes "RelatesTo") relates)

pub all_understood : (out : OutgoingHeaders) → IfSome out.context IsContext → not_understood (blocks_of out) ≡ None
all_understood out h =
    let message : List Tree = message_blocks out.to out.action out.id out.relates in
    let from : List Tree = endpoint_blocks (codes "From") out.from in
    let reply : List Tree = endpoint_blocks (codes "ReplyTo") out.reply in
    clear_both (message ++ from ++ reply ++ parameters_of out.to) (context_blocks out.context)
    (clear_both (message ++ from ++ reply) (parameters_of out.to)
    (clear_both (message ++ from) reply
    (clear_both message from (message_clear out.to out.action out.id out.relates) (endpoint_clear (codes "From") out.from))
    (endpoint_clear (codes "ReplyTo") out.reply))
    (parameters_clear out.to))
    (context_clear out.context h)
