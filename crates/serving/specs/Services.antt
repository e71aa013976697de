-- What a service that is asked for is.
use Rattle.std.specs.Prelude.{ℕ, List, ◌++◌, Option, Some, None, codes, option_map}
use Rattle.serving.specs.Runs.{Serviced}
use Rattle.serving.specs.declared.service.Service.{Service}

-- the base of a node is the one that is given, or else `http://` and its address
abbrev pub base_at : List ℕ → Option (List ℕ) → List ℕ
base_at listen (Some base) = base
base_at listen None = codes "http://" ++ listen

abbrev pub serviced : Service → Serviced
serviced s = record { base = base_at s.listen.now (option_map (λ b. b.now) s.base); journal = s.journal.now; listen = s.listen.now; role = s.role; limit = s.limit; lines = s.lines.now; turns = s.turns }
