-- What a message is for: the path of its To, or else of the request, names a service or an item.
use Rattle.std.specs.Prelude.{ℕ, List, [], ◌∷◌, Option, Some, None, nat_eq, if◌then◌else◌, codes, ◌≡◌, refl}
use Rattle.std.specs.Option.{option_and_then}
use Rattle.std.specs.Fmt.{digits}
use Rattle.url.specs.Parser.{parse_url}
use Rattle.addressing.specs.PostAddresses.{path_in}
use Rattle.at_base.specs.declared.notice.Kind.TheVariants as kinds
use Rattle.at_base.specs.declared.target.Target.{Target}
use Rattle.at_base.specs.declared.target.Target.TheVariants as targets
use Rattle.endpoints.specs.Addresses.{target_of}

-- a path without its query (RFC 3986, section 3.4), which begins with `?`
abbrev pub without_query : List ℕ → List ℕ
without_query [] = []
without_query (b ∷ bytes) = if nat_eq b 63 then [] else b ∷ without_query bytes

-- the path of the destination where there is one, or else that of the request (WS-Addressing 1.0 Core, section 3.1)
abbrev pub place_of : Option (List ℕ) → List ℕ → Option (List ℕ)
place_of None path = Some (without_query path)
place_of (Some to) path = path_in (parse_url None to)

-- what the place names
abbrev pub target_at : Option (List ℕ) → List ℕ → Option Target
target_at to path = option_and_then target_of (place_of to path)

-- without a To the request's path counts, and its query doesn't
pub of_the_request : target_at None (codes "/work?a=/activation") ≡ Some targets.Work
of_the_request = refl

pub no_seat_past_the_last : target_of (codes "/c/d/1-1/65536") ≡ None
unfolding digits
no_seat_past_the_last = refl

pub the_last_seat :
    target_of (codes "/c/v/4294967295-1/65535")
    ≡ Some (targets.Coordinator (record { incarnation = 4294967295; counter = 1 }) (record { number = 65535; kind = kinds.Volatile }))
unfolding digits
the_last_seat = refl
