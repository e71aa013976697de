-- An address of a node has none of the bytes that end the host and the port of a URL.
use Rattle.std.proofs.Common.{◌≡◌, ℕ, true, List, [], ◌∷◌, Option, Some, None, All, refl, subst, arith}
use Rattle.std.specs.Fmt.{digits}
use Rattle.std.specs.Prelude.{codes, decimal, option_map, unwrap_or, bytes_eq, nat_le}
use Rattle.std.proofs.lemmas.Bool.{and_parts, cond_both}
use Rattle.std.proofs.lemmas.Bool.Decides.{nat_tests}
use Rattle.std.proofs.lemmas.List.Elements.{All-append, All-cons, All-nil, All-weaker}
use Rattle.std.proofs.lemmas.Slice.Eq.{bytes_eq-Decides}
use Rattle.url.specs.Host.{host_text}
use Rattle.url.specs.declared.host.Host.{Host}
use Rattle.url.specs.declared.host.Host.TheVariants.{Domain}
use Rattle.url.specs.Parts.{IsPortOf, IsValid, Parts, has_host, nonempty_host}
use Rattle.url.proofs.InputLemmas.{Passes}
use Rattle.url.proofs.TextLemmas.{is_host_byte, own_host_bytes, port_bytes}
use Rattle.addressing.specs.PostAddresses.{postable, with_query}
use Rattle.addressing.specs.declared.post_to.PostTo.{PostTo}
use Rattle.command_line.specs.Jobs.{IsNoDelimiter, authority, is_authority}

part : (b : ℕ) → Passes is_host_byte b → IsNoDelimiter b
part b passes = grind (arith, nat_tests)

text_of : (host : Option (Host (List ℕ))) → All (Passes is_host_byte) (host_text (unwrap_or host (Domain []))) → All (Passes is_host_byte) (unwrap_or (option_map host_text host) [])
text_of None bytes = All-nil _
text_of (Some host) bytes = bytes

host_of : (url : Parts) → IsValid url → All (Passes is_host_byte) (unwrap_or (option_map host_text (nonempty_host url)) [])
host_of url valid =
    cond_both (has_host url) url.host None (λ h. All (Passes is_host_byte) (unwrap_or (option_map host_text h) []))
    (λ some. text_of url.host (own_host_bytes url valid.head)) (λ none. All-nil _)

port_of : (scheme : List ℕ) (port : Option ℕ) → IsPortOf scheme port → All (Passes is_host_byte) (decimal (unwrap_or port 80))
unfolding digits
port_of scheme None valid = All-cons (Passes is_host_byte) 56 (48 ∷ []) refl (All-cons (Passes is_host_byte) 48 [] refl (All-nil _))
port_of scheme (Some port) valid = port_bytes scheme (Some port) valid

parts_of : (to : PostTo) → All (Passes is_host_byte) to.host → All (Passes is_host_byte) (decimal to.port) → All (Passes is_host_byte) (authority to)
parts_of to host port = All-append (Passes is_host_byte) to.host (58 ∷ decimal to.port) host (All-cons (Passes is_host_byte) 58 (decimal to.port) refl port)

abbrev at_port : Parts → PostTo
at_port url = record { host = unwrap_or (option_map host_text (nonempty_host url)) []; port = unwrap_or url.port 80; path = with_query url.path url.query }

pub undelimited : (url : Parts) (listen : List ℕ) → IsValid url → is_authority listen (postable url) ≡ true → All IsNoDelimiter listen
undelimited url listen valid =
    cond_both (bytes_eq url.scheme (codes "http")) (Some (at_port url)) None (λ to. is_authority listen to ≡ true → All IsNoDelimiter listen)
    (λ http e. subst (All IsNoDelimiter) ((bytes_eq-Decides (authority (at_port url)) listen).0 (and_parts (nat_le 1 (at_port url).port) _ e).1)
    (All-weaker (Passes is_host_byte) IsNoDelimiter part (authority (at_port url))
    (parts_of (at_port url) (host_of url valid) (port_of url.scheme url.port valid.head.port))))
    (λ other e. cc)
