-- Where a post to an address of a node goes: to its host and port, at the path.
use Rattle.std.proofs.Common.{◌≡◌, ℕ, true, false, List, [], ◌∷◌, ◌++◌, Option, Some, None, take, refl, sym, ap, subst, ◌∙◌, inl, append-nil}
use Rattle.std.specs.Prelude.{MatchOption, Ok, bytes_eq, codes, option_map, unwrap_or}
use Rattle.std.specs.List.{concat}
use Rattle.std.proofs.lemmas.Bool.{cond-true}
use Rattle.std.proofs.lemmas.List.{append_assoc}
use Rattle.std.proofs.lemmas.Slice.Eq.{bytes_eq-Decides}
use Rattle.url.specs.Host.{IsHostOf, host_text}
use Rattle.url.specs.Parser.{parse_url}
use Rattle.url.specs.Parts.{IsValid, IsValidHead, Parts, kind_of, nonempty_host, pieces, serialize}
use Rattle.url.specs.Scheme.{default_port, is_special, scheme_type}
use Rattle.url.specs.declared.host.Host.{Host}
use Rattle.url.specs.declared.scheme.SchemeType.TheVariants.{SpecialNotFile}
use Rattle.url.proofs.Theorems.{parse_url-serialize_special}
use Rattle.addressing.specs.PostAddresses.{of_parsed, post_to_of}
use Rattle.addressing.specs.declared.post_to.PostTo.{PostTo}
use Rattle.arrivals.specs.Worlds.{with_path}
use Rattle.arrivals.proofs.Paths.{IsPath, named_path}
use Rattle.at_base.specs.declared.target.Target.{Target}
use Rattle.endpoints.specs.Addresses.{target_of}

-- the host and the port of a URL, with this path
abbrev pub to_of : Parts → List ℕ → PostTo
to_of url path = record { host = unwrap_or (option_map host_text (nonempty_host url)) []; port = unwrap_or url.port 80; path = path }

pub special : scheme_type (codes "http") ≡ SpecialNotFile
unfolding scheme_type default_port
special = refl

-- what stands before a path
joined : (front : List (List ℕ)) (path : List ℕ) → concat (front ++ path ∷ [] ∷ [] ∷ [] ∷ [] ∷ []) ≡ concat (front ++ [] ∷ [] ∷ [] ∷ [] ∷ [] ∷ []) ++ path
joined [] path = append-nil path
joined (piece ∷ front) path = ap (λ (bytes : List ℕ). piece ++ bytes) (joined front path) ∙ sym (append_assoc piece (concat (front ++ [] ∷ [] ∷ [] ∷ [] ∷ [] ∷ [])) path)

written : (url : Parts) (host : Host (List ℕ)) (path : List ℕ) → url.host ≡ Some host → serialize (with_path url path) ≡ serialize (with_path url []) ++ path
written url host path e = subst Written (sym e) (joined (front (Some host)) path)
  where
    front : Option (Host (List ℕ)) → List (List ℕ)
    front o = take 10 (pieces (record url { host = o; path = []; query = None; fragment = None }))

    Written : Option (Host (List ℕ)) → Type 0
    Written o =
        serialize (record url { host = o; path = path; query = None; fragment = None }) ≡ serialize (record url { host = o; path = []; query = None; fragment = None }) ++ path

valid : (url : Parts) (path : List ℕ) → IsValidHead url → url.scheme ≡ codes "http" → IsPath path → IsValid (with_path url path)
valid url path h http p = record {
  head = record { scheme = h.scheme; username = h.username; password = h.password; host = h.host; port = h.port; bare = h.bare };
  path = inl (rw (ap scheme_type http ∙ special) (p.segments, λ _. p.some));
  query = tt;
  fragment = tt;
}

pub goes_to : (url : Parts) (path : List ℕ) (own : Target) → IsValidHead url → url.scheme ≡ codes "http" → target_of path ≡ Some own
    → post_to_of (serialize (with_path url []) ++ path) ≡ Some (to_of url path)
goes_to url path own h http e = by_host url.host refl
  where
    of_http : scheme_type url.scheme ≡ SpecialNotFile
    of_http = ap scheme_type http ∙ special

    whole : parse_url None (serialize (with_path url path)) ≡ Ok (with_path url path)
    whole = parse_url-serialize_special (with_path url path) None (valid url path h http (named_path path own e)) of_http

    differ : true ≡ false → ⊥
    differ f = cc

    hostless : url.host ≡ None → ⊥
    hostless n = differ (sym (ap is_special of_http) ∙ subst (λ o. MatchOption o (is_special (kind_of url) ≡ false) (IsHostOf (kind_of url))) n h.host)

    by_host : (o : Option (Host (List ℕ))) → url.host ≡ o → post_to_of (serialize (with_path url []) ++ path) ≡ Some (to_of url path)
    by_host None n = absurd (hostless n)
    by_host (Some host) n =
        ap post_to_of (sym (written url host path n)) ∙ ap of_parsed whole
        ∙ cond-true (bytes_eq url.scheme (codes "http")) (Some (to_of url path)) None ((bytes_eq-Decides url.scheme (codes "http")).1 http)

pub goes_under : (base : List ℕ) (url : Parts) (path : List ℕ) (own : Target) → IsValidHead url → url.scheme ≡ codes "http" → base ≡ serialize (with_path url []) → target_of path ≡ Some own
    → post_to_of (base ++ path) ≡ Some (to_of url path)
goes_under base url path own h http is e = ap (λ (front : List ℕ). post_to_of (front ++ path)) is ∙ goes_to url path own h http e

-- so a post to it goes nowhere else
pub only_there : (base : List ℕ) (url : Parts) (path : List ℕ) (own : Target) (to : PostTo) → IsValidHead url → url.scheme ≡ codes "http" → base ≡ serialize (with_path url []) → target_of path ≡ Some own
    → post_to_of (base ++ path) ≡ Some to → to_of url path ≡ to
only_there base url path own to h http is e there =
    let same : Some (to_of url path) ≡ Some to = sym (goes_under base url path own h http is e) ∙ there in
    cc
