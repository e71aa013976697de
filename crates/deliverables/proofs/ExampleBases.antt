-- The bases of worked examples are bases of nodes.
use Rattle.std.proofs.Common.{◌≡◌, ◌≢◌, ℕ, ◌^◌, ◌<◌, Bool, true, false, not, ◌&&◌, ◌==◌, List, [], ◌∷◌, ◌++◌, Some, None, All, refl, sym, ap, ◌∙◌, arith, append-nil, length-append}
use Rattle.std.specs.Prelude.{IsTrue, codes, decimal, nat_lt}
use Rattle.std.specs.Char.{to_ascii_lowercase}
use Rattle.std.specs.List.{list_all}
use Rattle.std.proofs.lemmas.Bool.{and_from, and_parts, eqb-true, ltb-true, not-true}
use Rattle.std.proofs.lemmas.Fmt.{length-decimal-le}
use Rattle.std.proofs.lemmas.List.Elements.{All-cons, All-nil, All-weaker}
use Rattle.std.proofs.lemmas.List.Folds.{list_all-append, map_fixed}
use Rattle.std.proofs.lemmas.List.Sums.{AllPass-from_list_all}
use Rattle.percent_encoding.specs.AsciiSet.{contains}
use Rattle.percent_encoding.specs.Percent.{IsKept}
use Rattle.percent_encoding.proofs.AsciiSetLemmas.{kept_from_outside}
use Rattle.url.specs.Host.{IsDomain}
use Rattle.url.specs.Input.{rsplit_once}
use Rattle.url.specs.Ipv4.{ends_in_a_number, parse_number}
use Rattle.url.specs.Parts.{IsValidHead, Parts, serialize}
use Rattle.url.specs.Scheme.{IsScheme, scheme_len}
use Rattle.url.specs.declared.host.Host.TheVariants.{Domain}
use Rattle.url.specs.declared.sets.TheConstants.{FORBIDDEN_DOMAIN}
use Rattle.url.proofs.InputLemmas.{rsplit_once_at}
use Rattle.at_model.specs.World.{example_base}
use Rattle.deliverables.specs.Bases.{ExamplesAreNodeBases}
use Rattle.deliverables.proofs.OwnAddresses.{special}
use Rattle.deliverables.proofs.VisibleTexts.{decimal_passes}

-- a byte that stands for itself in a domain
abbrev is_own : ℕ → Bool
is_own b = nat_lt b 128 && (not (contains FORBIDDEN_DOMAIN b) && to_ascii_lowercase b == b)

own_kept : (b : ℕ) → is_own b ≡ true → IsKept FORBIDDEN_DOMAIN b
own_kept b h =
    let (low, more) = and_parts (nat_lt b 128) (not (contains FORBIDDEN_DOMAIN b) && to_ascii_lowercase b == b) h in
    kept_from_outside FORBIDDEN_DOMAIN b (ltb-true b 128 low) (not-true (contains FORBIDDEN_DOMAIN b) (and_parts (not (contains FORBIDDEN_DOMAIN b)) (to_ascii_lowercase b == b) more).0)

own_lower : (b : ℕ) → is_own b ≡ true → to_ascii_lowercase b ≡ b
own_lower b h =
    let (low, more) = and_parts (nat_lt b 128) (not (contains FORBIDDEN_DOMAIN b) && to_ascii_lowercase b == b) h in
    eqb-true (to_ascii_lowercase b) b (and_parts (not (contains FORBIDDEN_DOMAIN b)) (to_ascii_lowercase b == b) more).1

-- a node's host
abbrev pub host_of : ℕ → List ℕ
host_of n = codes "n" ++ (decimal n ++ codes ".example")

all_own : (n : ℕ) → n < 2 ^ 64 → All (λ b. IsTrue (is_own b)) (host_of n)
all_own n small =
    AllPass-from_list_all is_own (host_of n)
    (list_all-append is_own (decimal n) (codes ".example") ∙ and_from (list_all is_own (decimal n)) (list_all is_own (codes ".example")) (decimal_passes is_own refl n small) refl)

no_dot : (s : List ℕ) → list_all (λ b. not (b == 46)) s ≡ true → All (λ b. b ≢ 46) s
no_dot [] h = All-nil (λ b. b ≢ 46)
no_dot (b ∷ bs) h = let (here, later) = and_parts (not (b == 46)) (list_all (λ b. not (b == 46)) bs) h in All-cons (λ b. b ≢ 46) b bs (λ e. absurd cc) (no_dot bs later)

-- its last label is `example`
not_a_number : (n : ℕ) → ends_in_a_number (host_of n) ≡ false
unfolding ends_in_a_number parse_number
not_a_number n =
    let split : rsplit_once 46 ((codes "n" ++ decimal n) ++ 46 ∷ codes "example") ≡ (Some (codes "n" ++ decimal n), codes "example") =
    rsplit_once_at 46 (codes "n" ++ decimal n) (codes "example") (no_dot (codes "example") refl) in
    rw split (refl {a = false})

domain : (n : ℕ) → n < 2 ^ 64 → IsDomain (host_of n)
domain n small = record {
  allowed = All-weaker (λ b. IsTrue (is_own b)) (IsKept FORBIDDEN_DOMAIN) own_kept (host_of n) (all_own n small);
  lower = map_fixed to_ascii_lowercase (host_of n) (All-weaker (λ b. IsTrue (is_own b)) (λ b. to_ascii_lowercase b ≡ b) own_lower (host_of n) (all_own n small));
  named = not_a_number n;
}

abbrev pub url_of : ℕ → Parts
url_of n =
    record {
      scheme = codes "http";
      username = [];
      password = [];
      host = Some (Domain (host_of n));
      port = None;
      path = [];
      query = None;
      fragment = None;
    }

scheme : IsScheme (codes "http")
unfolding scheme_len
scheme = record { nonempty = omega arith; whole = refl; lower = refl }

pub head : (n : ℕ) → n < 2 ^ 64 → IsValidHead (url_of n)
head n small = record {
  scheme = scheme;
  username = All-nil _;
  password = All-nil _;
  host = rw special (domain n small, omega arith);
  port = tt;
  bare = λ _. (refl, refl, refl);
}

pub text_of : (n : ℕ) → example_base n ≡ serialize (url_of n)
text_of n = ap (λ (bytes : List ℕ). codes "http://n" ++ bytes) (sym (append-nil (decimal n ++ codes ".example")))

pub examples_are_node_bases : ExamplesAreNodeBases
examples_are_node_bases n small = record {
  url = url_of n;
  valid = head n small;
  http = refl;
  is = text_of n;
  short = omega (arith, length-append (decimal n) (codes ".example"), length-decimal-le 20 n (omega arith) (omega (arith, small)) small);
}
