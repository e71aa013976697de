-- What an http URL has before its path is a base: the addresses of a node's items under it are URLs with their paths.
use Rattle.std.proofs.Common.{◌≡◌, ◌≢◌, ℕ, ◌+◌, ◌-◌, ◌^◌, ◌<◌, Bool, true, false, not, ◌&&◌, ◌==◌, List, [], ◌∷◌, ◌++◌, Option, Some, None, All, take, refl, sym, ap, subst, ◌∙◌, arith, inl, append-nil}
use Rattle.std.specs.Prelude.{Ok, MatchOption, codes, decimal, nat_lt}
use Rattle.std.specs.Char.{to_ascii_lowercase}
use Rattle.std.specs.Int.{IsInRange}
use Rattle.std.specs.List.{concat, list_all}
use Rattle.std.proofs.lemmas.Bool.{and_parts, ltb-true, eqb-true}
use Rattle.std.proofs.lemmas.List.{append_assoc, append_cancel_right}
use Rattle.std.proofs.lemmas.List.Elements.{All-append, All-cons, All-nil, All-weaker}
use Rattle.std.proofs.lemmas.List.Folds.{map_fixed}
use Rattle.percent_encoding.specs.AsciiSet.{contains}
use Rattle.percent_encoding.specs.Percent.{IsKept}
use Rattle.percent_encoding.proofs.AsciiSetLemmas.{kept_from_outside}
use Rattle.url.specs.declared.host.Host.{Host}
use Rattle.url.specs.declared.host.Host.TheVariants.{Domain}
use Rattle.url.specs.declared.scheme.SchemeType.TheVariants.{SpecialNotFile}
use Rattle.url.specs.declared.sets.TheConstants.{FORBIDDEN_DOMAIN}
use Rattle.url.specs.Host.{IsDomain, IsHostOf}
use Rattle.url.specs.Input.{rsplit_once}
use Rattle.url.specs.Ipv4.{ends_in_a_number, parse_number}
use Rattle.url.specs.Parser.{parse_url}
use Rattle.url.specs.Parts.{IsValid, IsValidHead, Parts, kind_of, pieces, serialize}
use Rattle.url.specs.Scheme.{IsScheme, default_port, is_special, scheme_len, scheme_type}
use Rattle.url.proofs.HostRoundTrip.{All-decimal}
use Rattle.url.proofs.InputLemmas.{rsplit_once_at}
use Rattle.url.proofs.SetLemmas.{checked}
use Rattle.url.proofs.Theorems.{parse_url-serialize_special}
use Rattle.at_model.specs.World.{HaveOwnAddresses, Hosts, example_base}
use Rattle.arrivals.specs.Worlds.{HaveOwnBases, IsBase, with_path}
use Rattle.addressing.specs.PostAddresses.{path_in}
use Rattle.arrivals.proofs.Paths.{IsPath, named_path}

-- a byte that stands for itself in a domain
abbrev is_own : ℕ → Bool
is_own b = nat_lt b 128 && (not (contains FORBIDDEN_DOMAIN b) && to_ascii_lowercase b == b)

abbrev IsOwn : ℕ → Type 0
IsOwn b = is_own b ≡ true

not_true : (x : Bool) → not x ≡ true → x ≡ false
not_true false e = refl
not_true true e = sym e

own_digit : (b : ℕ) → IsInRange 48 57 b → IsOwn b
own_digit b (least, most) =
    let there : 48 + (b - 48) ≡ b = omega arith in
    subst IsOwn there (checked (λ k. is_own (48 + k)) 10 refl (b - 48) (omega arith))

own_kept : (b : ℕ) → IsOwn b → IsKept FORBIDDEN_DOMAIN b
own_kept b h =
    let (low, more) = and_parts _ _ h in
    kept_from_outside FORBIDDEN_DOMAIN b (ltb-true b 128 low) (not_true _ (and_parts _ _ more).0)

own_lower : (b : ℕ) → IsOwn b → to_ascii_lowercase b ≡ b
own_lower b h = eqb-true (to_ascii_lowercase b) b (and_parts _ _ (and_parts _ _ h).1).1

own_text : (s : List ℕ) → list_all is_own s ≡ true → All IsOwn s
own_text [] h = All-nil IsOwn
own_text (b ∷ bs) h = let (here, later) = and_parts (is_own b) (list_all is_own bs) h in All-cons IsOwn b bs here (own_text bs later)

-- a node's host
abbrev host_of : ℕ → List ℕ
host_of n = codes "n" ++ (decimal n ++ codes ".example")

all_own : (n : ℕ) → n < 2 ^ 64 → All IsOwn (host_of n)
all_own n small =
    All-append IsOwn (codes "n") (decimal n ++ codes ".example") (own_text (codes "n") refl)
    (All-append IsOwn (decimal n) (codes ".example") (All-weaker (IsInRange 48 57) IsOwn own_digit (decimal n) (All-decimal n small)) (own_text (codes ".example") refl))

no_dot : (s : List ℕ) → list_all (λ b. not (b == 46)) s ≡ true → All (λ b. b ≢ 46) s
no_dot [] h = All-nil (λ b. b ≢ 46)
no_dot (b ∷ bs) h = let (here, later) = and_parts (not (b == 46)) (list_all (λ b. not (b == 46)) bs) h in All-cons (λ b. b ≢ 46) b bs (λ e. absurd cc) (no_dot bs later)

-- its last label is `example`
not_a_number : (n : ℕ) → ends_in_a_number (host_of n) ≡ false
unfolding ends_in_a_number parse_number
not_a_number n =
    let split : rsplit_once 46 ((codes "n" ++ decimal n) ++ 46 ∷ codes "example") ≡ (Some (codes "n" ++ decimal n), codes "example") =
    rsplit_once_at 46 (codes "n" ++ decimal n) (codes "example") (no_dot (codes "example") refl) in
    rw split refl

domain : (n : ℕ) → n < 2 ^ 64 → IsDomain (host_of n)
domain n small = record {
  allowed = All-weaker IsOwn (IsKept FORBIDDEN_DOMAIN) own_kept (host_of n) (all_own n small);
  lower = map_fixed to_ascii_lowercase (host_of n) (All-weaker IsOwn (λ b. to_ascii_lowercase b ≡ b) own_lower (host_of n) (all_own n small));
  named = not_a_number n;
}

abbrev url_of : ℕ → Parts
url_of n =
    record {
      scheme = codes "http";
      username = [];
      password = [];
      host = Some (Domain (host_of n));
      port = None;
      path = [];
      query = None;
      fragment = None;
    }

special : scheme_type (codes "http") ≡ SpecialNotFile
unfolding scheme_type default_port
special = refl

scheme : IsScheme (codes "http")
unfolding scheme_len
scheme = record { nonempty = omega arith; whole = refl; lower = refl }

-- what stands before a path
joined : (front : List (List ℕ)) (path : List ℕ) → concat (front ++ path ∷ [] ∷ [] ∷ [] ∷ [] ∷ []) ≡ concat (front ++ [] ∷ [] ∷ [] ∷ [] ∷ [] ∷ []) ++ path
joined [] path = append-nil path
joined (piece ∷ front) path = ap (λ (bytes : List ℕ). piece ++ bytes) (joined front path) ∙ sym (append_assoc piece (concat (front ++ [] ∷ [] ∷ [] ∷ [] ∷ [] ∷ [])) path)

written : (url : Parts) (host : Host (List ℕ)) (path : List ℕ) → url.host ≡ Some host → serialize (with_path url path) ≡ serialize (with_path url []) ++ path
written url host path e = subst Written (sym e) (joined (front (Some host)) path)
  where
    front : Option (Host (List ℕ)) → List (List ℕ)
    front o = take 10 (pieces (record url { host = o; path = []; query = None; fragment = None }))

    Written : Option (Host (List ℕ)) → Type 0
    Written o =
        serialize (record url { host = o; path = path; query = None; fragment = None }) ≡ serialize (record url { host = o; path = []; query = None; fragment = None }) ++ path

valid : (url : Parts) (path : List ℕ) → IsValidHead url → url.scheme ≡ codes "http" → IsPath path → IsValid (with_path url path)
valid url path h http p = record {
  head = record { scheme = h.scheme; username = h.username; password = h.password; host = h.host; port = h.port; bare = h.bare };
  path = inl (rw (ap scheme_type http ∙ special) (p.segments, λ _. p.some));
  query = tt;
  fragment = tt;
}

pub head_is_base : (url : Parts) → IsValidHead url → url.scheme ≡ codes "http" → IsBase (serialize (with_path url []))
head_is_base url h http rest target e = by_host url.host refl
  where
    of_http : scheme_type url.scheme ≡ SpecialNotFile
    of_http = ap scheme_type http ∙ special

    whole : parse_url None (serialize (with_path url rest)) ≡ Ok (with_path url rest)
    whole = parse_url-serialize_special (with_path url rest) None (valid url rest h http (named_path rest target e)) of_http

    differ : true ≡ false → ⊥
    differ f = cc

    hostless : url.host ≡ None → ⊥
    hostless n = differ (sym (ap is_special of_http) ∙ subst (λ o. MatchOption o (is_special (kind_of url) ≡ false) (IsHostOf (kind_of url))) n h.host)

    by_host : (o : Option (Host (List ℕ))) → url.host ≡ o → path_in (parse_url None (serialize (with_path url []) ++ rest)) ≡ Some rest
    by_host None n = absurd (hostless n)
    by_host (Some host) n = ap path_in (sym (ap (parse_url None) (written url host rest n)) ∙ whole)

head : (n : ℕ) → n < 2 ^ 64 → IsValidHead (url_of n)
head n small = record {
  scheme = scheme;
  username = All-nil _;
  password = All-nil _;
  host = rw special (domain n small, omega arith);
  port = tt;
  bare = λ _. (refl, refl, refl);
}

text_of : (n : ℕ) → serialize (url_of n) ≡ example_base n
text_of n = ap (λ (bytes : List ℕ). codes "http://n" ++ bytes) (append-nil (decimal n ++ codes ".example"))

pub example_is_base : (n : ℕ) → n < 2 ^ 64 → IsBase (example_base n)
example_is_base n small = subst IsBase (text_of n) (head_is_base (url_of n) (head n small) refl)

-- what both of two addresses name is one path, so that one base stands before it
pub apart : (hosts : Hosts) → HaveOwnBases hosts → HaveOwnAddresses hosts
apart hosts h m n rest path S T first second there here e = h.differ m n first second (append_cancel_right (hosts.base_of m) (hosts.base_of n) path (ap (λ (bytes : List ℕ). hosts.base_of m ++ bytes) (sym same) ∙ e))
  where
    path_or : Option (List ℕ) → List ℕ
    path_or (Some p) = p
    path_or None = []

    same : rest ≡ path
    same =
        ap path_or (sym (h.bases m first rest S there) ∙ ap (λ (bytes : List ℕ). path_in (parse_url None bytes)) e ∙ h.bases n second path T here)
