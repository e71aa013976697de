-- What an http URL has before its path: visible characters, and its host and port are among them.
use Rattle.std.proofs.Common.{◌≡◌, ℕ, ◌+◌, ◌^◌, ◌<◌, ◌≤◌, inl, inr, Bool, true, false, ◌||◌, cond, not, List, [], ◌∷◌, ◌++◌, length, take, drop, Option, Some, None, All, refl, sym, subst, arith, length-append}
use Rattle.std.specs.Prelude.{MatchOption, codes, decimal, is_some, nat_eq, nat_lt, option_map, unwrap_or}
use Rattle.std.specs.List.{AllByRecursion, concat}
use Rattle.std.proofs.lemmas.Bool.{and_from, cond_both, lt-ltb}
use Rattle.std.proofs.lemmas.Fmt.{length-decimal-le}
use Rattle.std.proofs.lemmas.List.Elements.{All-weaker}
use Rattle.std.proofs.lemmas.List.Sums.{list_all-from_AllPass}
use Rattle.std.proofs.NetLemmas.Alphabet.{IsDigitOrDot, IsHexOrColon}
use Rattle.percent_encoding.specs.AsciiSet.{contains}
use Rattle.percent_encoding.specs.declared.ascii_set.TheConstants.{CONTROLS}
use Rattle.percent_encoding.specs.Percent.{IsKept}
use Rattle.percent_encoding.proofs.AsciiSetLemmas.{outside_from_kept}
use Rattle.url.specs.Host.{IsHostOf, host_text}
use Rattle.url.specs.Input.{is_empty, when}
use Rattle.url.specs.Parts.{IsPortOf, IsValidHead, Parts, has_authority, has_credentials, has_host, host_or_empty, kind_of, needs_guard, pieces, serialize}
use Rattle.url.specs.Scheme.{is_special}
use Rattle.url.specs.declared.host.Host.{Host}
use Rattle.url.specs.declared.host.Host.TheVariants.{Domain}
use Rattle.url.specs.declared.scheme.SchemeType.{SchemeType}
use Rattle.url.specs.declared.sets.TheConstants.{FORBIDDEN_DOMAIN, FORBIDDEN_HOST, USERINFO}
use Rattle.url.proofs.HostLemmas.{All-host_text}
use Rattle.url.proofs.SetLemmas.{passes_from_kept}
use Rattle.arrivals.specs.Worlds.{with_path}
use Rattle.http_post.specs.OutBytes.{authority}
use Rattle.deliverables.proofs.OwnAddresses.{to_of}
use Rattle.deliverables.proofs.VisibleTexts.{AreVisible, decimal_visible, is_visible, visible_both}

between : (b : ℕ) → 32 < b → b < 127 → is_visible b ≡ true
between b least most = and_from (nat_lt 32 b) (nat_lt b 127) (lt-ltb 32 b least) (lt-ltb b 127 most)

opaque_visible : (b : ℕ) → IsKept FORBIDDEN_HOST b → IsKept CONTROLS b → is_visible b ≡ true
opaque_visible b h k = rw (outside_from_kept CONTROLS b k) at (passes_from_kept FORBIDDEN_HOST (λ n. contains CONTROLS n || is_visible n) refl b h)

digit_visible : (b : ℕ) → IsDigitOrDot b → is_visible b ≡ true
digit_visible b (inl r) = between b (omega (arith, r.0)) (omega (arith, r.1))
digit_visible b (inr e) = between b (omega (arith, e)) (omega (arith, e))

hex_visible : (b : ℕ) → IsHexOrColon b → is_visible b ≡ true
hex_visible b (inl r) = between b (omega (arith, r.0)) (omega (arith, r.1))
hex_visible b (inr r) = between b (omega (arith, r.0)) (omega (arith, r.1))

host_visible : (kind : SchemeType) (host : Host (List ℕ)) → IsHostOf kind host → AreVisible (host_text host)
host_visible kind host h =
    list_all-from_AllPass is_visible (host_text host)
    (All-host_text (λ b. is_visible b ≡ true) kind host (passes_from_kept FORBIDDEN_DOMAIN is_visible refl) opaque_visible digit_visible hex_visible refl refl h)

user_visible : (text : List ℕ) → All (IsKept USERINFO) text → AreVisible text
user_visible text h =
    list_all-from_AllPass is_visible text (All-weaker (IsKept USERINFO) (λ b. is_visible b ≡ true) (passes_from_kept USERINFO is_visible refl) text h)

when_visible : (b : Bool) (text : List ℕ) → AreVisible text → AreVisible (when b text)
when_visible true text h = h
when_visible false text h = refl

all_visible : (pieces : List (List ℕ)) → AllByRecursion AreVisible pieces → AreVisible (concat pieces)
all_visible [] h = refl
all_visible (piece ∷ pieces) h = visible_both piece (concat pieces) h.0 (all_visible pieces h.1)

maybe_host : (kind : SchemeType) (host : Option (Host (List ℕ))) → MatchOption host (is_special kind ≡ false) (IsHostOf kind) → AreVisible (host_text (unwrap_or host (Domain [])))
maybe_host kind None h = refl
maybe_host kind (Some host) h = host_visible kind host h

maybe_port : (scheme : List ℕ) (port : Option ℕ) → IsPortOf scheme port → AreVisible (unwrap_or (option_map decimal port) [])
maybe_port scheme None h = refl
maybe_port scheme (Some n) h = decimal_visible n (omega (arith, h.0))

port_below : (scheme : List ℕ) (port : Option ℕ) → IsPortOf scheme port → unwrap_or port 80 < 2 ^ 16
port_below scheme None h = omega arith
port_below scheme (Some n) h = h.0

-- the host of a post is that of the URL, or empty
post_host : (P : List ℕ → Type 0) (b : Bool) (host : Option (Host (List ℕ))) → P [] → P (host_text (unwrap_or host (Domain []))) → P (unwrap_or (option_map host_text (cond b host None)) [])
post_host P false host none some = none
post_host P true None none some = none
post_host P true (Some host) none some = some

piece_short : (front : List (List ℕ)) (piece : List ℕ) (rest : List (List ℕ)) → length piece ≤ length (concat (front ++ piece ∷ rest))
piece_short [] piece rest = omega (arith, length-append piece (concat rest))
piece_short (first ∷ front) piece rest = omega (arith, length-append first (concat (front ++ piece ∷ rest)), piece_short front piece rest)

module _ (url : Parts) (h : IsValidHead url) where
  pub head_visible : url.scheme ≡ codes "http" → AreVisible (serialize (with_path url []))
  head_visible http =
      let after_port : AllByRecursion AreVisible (drop 9 (pieces (with_path url []))) =
      (when_visible (needs_guard (with_path url [])) (codes "/.") refl, (refl, (refl, (refl, (refl, (refl, tt)))))) in
      let after_user : AllByRecursion AreVisible (drop 6 (pieces (with_path url []))) =
      (maybe_host (kind_of url) url.host h.host, (when_visible (is_some url.port) (codes ":") refl, (maybe_port url.scheme url.port h.port, after_port))) in
      let after_name : AllByRecursion AreVisible (drop 3 (pieces (with_path url []))) =
      (when_visible (not (is_empty url.password)) (codes ":") refl, (user_visible url.password h.password, (when_visible (has_credentials url) (codes "@") refl, after_user))) in
      let after_scheme : AllByRecursion AreVisible (drop 1 (pieces (with_path url []))) =
      (cond_both (has_authority url) (codes "://") (codes ":") AreVisible (λ _. refl) (λ _. refl), (user_visible url.username h.username, after_name)) in
      all_visible (pieces (with_path url [])) (subst AreVisible (sym http) refl, after_scheme)

  pub authority_visible : (path : List ℕ) → AreVisible (authority (to_of url path))
  authority_visible path = by_port (nat_eq (unwrap_or url.port 80) 80)
    where
      visible : AreVisible (to_of url path).host
      visible = post_host AreVisible (has_host url) url.host refl (maybe_host (kind_of url) url.host h.host)

      by_port : (b : Bool) → AreVisible (cond b (to_of url path).host ((to_of url path).host ++ codes ":" ++ decimal (unwrap_or url.port 80)))
      by_port true = visible
      by_port false =
          visible_both ((to_of url path).host ++ codes ":") (decimal (unwrap_or url.port 80)) (visible_both (to_of url path).host (codes ":") visible refl)
          (decimal_visible (unwrap_or url.port 80) (omega (arith, port_below url.scheme url.port h.port)))

  pub authority_short : (path : List ℕ) → length (authority (to_of url path)) ≤ length (serialize (with_path url [])) + 6
  authority_short path = by_port (nat_eq (unwrap_or url.port 80) 80)
    where
      short : length (to_of url path).host ≤ length (serialize (with_path url []))
      short = post_host (λ text. length text ≤ length (serialize (with_path url []))) (has_host url) url.host (omega arith) (piece_short (take 6 (pieces (with_path url []))) (host_text (host_or_empty url)) (drop 7 (pieces (with_path url []))))

      by_port : (b : Bool) → length (cond b (to_of url path).host ((to_of url path).host ++ codes ":" ++ decimal (unwrap_or url.port 80))) ≤ length (serialize (with_path url [])) + 6
      by_port true = omega (arith, short)
      by_port false =
          omega (
            arith,
            short,
            length-append ((to_of url path).host ++ codes ":") (decimal (unwrap_or url.port 80)),
            length-append (to_of url path).host (codes ":"),
            length-decimal-le 5 (unwrap_or url.port 80) (omega arith) (omega (arith, port_below url.scheme url.port h.port)) (omega (arith, port_below url.scheme url.port h.port)),
          )
