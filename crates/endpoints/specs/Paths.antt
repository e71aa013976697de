-- The endpoints with an id by which a path may begin, as they are tried.
use Rattle.std.specs.Prelude.{ℕ, List, Option, codes}
use Rattle.std.specs.Option.{option_map, option_and_then}
use Rattle.at_base.specs.Numbers.{Numbers}
use Rattle.at_base.specs.declared.notice.Kind.TheVariants as kinds
use Rattle.at_base.specs.declared.target.Target.{Target}
use Rattle.at_base.specs.declared.target.Target.TheVariants as targets
use Rattle.endpoints.specs.Addresses.{after_prefix, behind, id_of, or_else, seat_of}

-- the id that follows the prefix
abbrev pub id_behind : List ℕ → List ℕ → Option Numbers
id_behind prefix path = option_and_then id_of (after_prefix prefix path)

-- a leaf or a subordinate
abbrev pub participant_of : List ℕ → Option Target
participant_of path =
    or_else (behind (codes "/p/d/") (λ r. option_map (λ id. targets.Participant id kinds.Durable) (id_of r)) path)
    (behind (codes "/p/v/") (λ r. option_map (λ id. targets.Participant id kinds.Volatile) (id_of r)) path)

-- one of these, or a coordinator's seat
abbrev pub party_of : List ℕ → Option Target
party_of path =
    or_else (behind (codes "/c/d/") (seat_of kinds.Durable) path)
    (or_else (behind (codes "/c/v/") (seat_of kinds.Volatile) path) (participant_of path))

-- one of these, or a service or an activity with an id
abbrev pub item_of : List ℕ → Option Target
item_of path =
    or_else (behind (codes "/registration/") (λ r. option_map targets.Registration (id_of r)) path)
    (or_else (behind (codes "/completion/") (λ r. option_map targets.Completion (id_of r)) path)
    (or_else (behind (codes "/i/") (λ r. option_map targets.Initiator (id_of r)) path) (party_of path)))
