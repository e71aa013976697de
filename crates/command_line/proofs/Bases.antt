-- A node that listens at an address has a base.
use Rattle.std.proofs.Common.{◌≡◌, ℕ, Bool, true, false, not, List, [], ◌∷◌, ◌++◌, Option, Some, None, length, refl, sym, ap, subst, ◌∙◌, append-nil, arith}
use Rattle.std.specs.Prelude.{Err, IfOk, IsTrue, MatchOption, Ok, Result, codes, decimal, option_map, unwrap_or, bytes_eq, nat_le, if◌then◌else◌}
use Rattle.std.proofs.lemmas.Bool.{and_parts, ne_eqb}
use Rattle.std.proofs.lemmas.List.Elements.{All-nil}
use Rattle.std.proofs.lemmas.Slice.Eq.{bytes_eq-Decides}
use Rattle.url.specs.Host.{IsHostOf, host_text, is_empty_host}
use Rattle.url.specs.declared.host.Host.{Host}
use Rattle.url.specs.declared.host.Host.TheVariants.{Domain, Ipv4, Ipv6}
use Rattle.url.specs.Parser.{parse_url}
use Rattle.url.specs.Parts.{IsValid, IsValidHead, Parts, kind_of, nonempty_host, serialize}
use Rattle.url.specs.Scheme.{default_port, is_special, scheme_type}
use Rattle.addressing.specs.PostAddresses.{of_parsed, postable, with_query}
use Rattle.addressing.specs.declared.post_to.PostTo.{PostTo}
use Rattle.arrivals.specs.Worlds.{IsBase, with_path}
use Rattle.command_line.specs.Jobs.{HasBase, authority, is_authority}

abbrev EveryHead : Type 0
EveryHead = (url : Parts) → IsValidHead url → url.scheme ≡ codes "http" → IsBase (serialize (with_path url []))

-- without a user
abbrev bare : Parts → Parts
bare url = record url { username = []; password = [] }

head : (url : Parts) → IsValid url → IsValidHead (bare url)
head url valid =
    record {
      scheme = valid.head.scheme;
      username = All-nil _;
      password = All-nil _;
      host = valid.head.host;
      port = valid.head.port;
      bare = λ cannot. (refl, refl, (valid.head.bare cannot).2);
    }

special : is_special (scheme_type (codes "http")) ≡ true
unfolding scheme_type default_port
special = refl

hosted : (url : Parts) → IsValid url → url.scheme ≡ codes "http" → url.host ≡ None → ⊥
hosted url valid http none = differ (sym special ∙ ap (λ s. is_special (scheme_type s)) (sym http) ∙ subst (λ o. MatchOption o (is_special (kind_of url) ≡ false) (IsHostOf (kind_of url))) none valid.head.host)
  where
    differ : true ≡ false → ⊥
    differ e = cc

shown : (host : Host (List ℕ)) → unwrap_or (option_map host_text (if not (is_empty_host host) then Some host else None)) [] ≡ host_text host
shown (Domain []) = refl
shown (Domain (b ∷ bs)) = rw (ne_eqb (length (b ∷ bs)) 0 (λ e. absurd (omega (arith, e)))) refl
shown (Ipv4 address) = refl
shown (Ipv6 address) = refl

abbrev with_host : List ℕ → Option (Host (List ℕ)) → Option ℕ → Parts
with_host scheme host port = record { scheme = scheme; username = []; password = []; host = host; port = port; path = []; query = None; fragment = None }

text_of : (host : Host (List ℕ)) (port : ℕ) → serialize (with_host (codes "http") (Some host) (Some port)) ≡ codes "http://" ++ (host_text host ++ (58 ∷ decimal port))
text_of host port = ap (λ (bytes : List ℕ). codes "http://" ++ (host_text host ++ (58 ∷ bytes))) (append-nil (decimal port))

abbrev at_port : Parts → PostTo
at_port url = record { host = unwrap_or (option_map host_text (nonempty_host url)) []; port = unwrap_or url.port 80; path = with_query url.path url.query }

same_some : (x y : PostTo) → Some x ≡ Some y → x ≡ y
same_some x y e = cc

module _ (every : EveryHead) (url : Parts) (listen : List ℕ) (valid : IsValid url) where
  at_host : (host : Host (List ℕ)) (port : ℕ) → url.scheme ≡ codes "http" → url.host ≡ Some host → url.port ≡ Some port → authority (at_port url) ≡ listen → IsBase (codes "http://" ++ listen)
  at_host host port http h p same =
      let front : unwrap_or (option_map host_text (nonempty_host url)) [] ≡ host_text host =
      ap (λ (o : Option (Host (List ℕ))). unwrap_or (option_map host_text (if not (is_empty_host (unwrap_or o (Domain []))) then o else None)) []) h ∙ shown host in
      let own : authority (at_port url) ≡ host_text host ++ (58 ∷ decimal port) = λ i. front i ++ (58 ∷ decimal (unwrap_or (p i) 80)) in
      let whole : serialize (with_path (bare url) []) ≡ codes "http://" ++ (host_text host ++ (58 ∷ decimal port)) = (λ i. serialize (with_host (http i) (h i) (p i))) ∙ text_of host port in
      subst IsBase (whole ∙ ap (λ (bytes : List ℕ). codes "http://" ++ bytes) (sym own ∙ same)) (every (bare url) (head url valid) http)

  by_scheme : (to : PostTo) (b : Bool) → bytes_eq url.scheme (codes "http") ≡ b → is_authority listen (if b then Some (at_port url) else None) ≡ true
      → (if b then Some (at_port url) else None) ≡ Some to → (to.port ≡ 80 → ⊥) → IsBase (codes "http://" ++ listen)
  by_scheme to false e is goes other = absurd cc
  by_scheme to true e is goes other = by_host url.host refl url.port refl
    where
      http : url.scheme ≡ codes "http"
      http = (bytes_eq-Decides url.scheme (codes "http")).0 e

      same : authority (at_port url) ≡ listen
      same = (bytes_eq-Decides (authority (at_port url)) listen).0 (and_parts (nat_le 1 (at_port url).port) _ is).1

      by_host : (host : Option (Host (List ℕ))) → url.host ≡ host → (port : Option ℕ) → url.port ≡ port → IsBase (codes "http://" ++ listen)
      by_host None h port p = absurd (hosted url valid http h)
      by_host (Some host) h None p = absurd (other (ap (λ (t : PostTo). t.port) (sym (same_some (at_port url) to goes)) ∙ ap (λ o. unwrap_or o 80) p))
      by_host (Some host) h (Some port) p = at_host host port http h p same

  pub based : parse_url None (codes "http://" ++ listen) ≡ Ok url → is_authority listen (postable url) ≡ true → HasBase listen
  based parsed is to goes other = by_scheme to (bytes_eq url.scheme (codes "http")) refl is (sym (ap of_parsed parsed) ∙ goes) other

-- what follows of an answer that is yes
pub if_true : {E : Type 0} (answer : Result Bool E) (b : Bool) (P : Type 0) → IfOk answer (λ is. is ≡ b) → (b ≡ true → P) → IfOk answer (λ is. IsTrue is → P)
if_true (Ok is) b P e f = λ yes. f (sym e ∙ yes)
if_true (Err fault) b P e f = tt
