-- Which records a journal holds: the bounds of each field.
use Rattle.std.specs.Prelude.{ℕ, List, [], ◌∷◌, ◌≤◌, ◌<◌, ◌+◌, length}
use Rattle.std.specs.List.{All}
use Rattle.at_base.specs.Chars.{IsXmlText}
use Rattle.at_base.specs.IdText.{IsId}
use Rattle.at_base.specs.declared.epr.Epr.{Epr}
use Rattle.at_base.specs.declared.limits.TheConstants.{MOST_SEATS, MOST_ENDPOINT, MOST_FIELD}
use Rattle.at_base.specs.declared.record.Seated.{Seated}
use Rattle.at_base.specs.declared.record.Record.{Record}
use Rattle.at_base.specs.declared.record.Record.TheVariants as records

-- an endpoint (WS-Addressing 1.0 Core, section 2.1): an address of at least one byte, with the reference parameters at
-- most so many in all
pub record IsEndpoint (endpoint : Epr) : Type 0 where
  pub some : 1 ≤ length endpoint.address
  pub fits : length endpoint.address + length endpoint.params ≤ MOST_ENDPOINT
  pub address : IsXmlText endpoint.address
  pub params : IsXmlText endpoint.params

-- a key or a value
pub record IsField (text : List ℕ) : Type 0 where
  pub fits : length text ≤ MOST_FIELD
  pub spelled : IsXmlText text

-- each number is greater than the one before
abbrev pub Rises : ℕ → List Seated → Type 0
Rises last [] = Unit {0}
Rises last (s ∷ rest) = (last < s.number) × Rises s.number rest

pub record AreSeats (seats : List Seated) : Type 0 where
  pub most : length seats ≤ MOST_SEATS
  pub rise : Rises 0 seats
  pub endpoints : All (λ s. IsEndpoint s.endpoint) seats

abbrev pub IsWellFormed : Record → Type 0
IsWellFormed (records.Start incarnation) = 1 ≤ incarnation
IsWellFormed (records.LeafPrepared id coordinator key value) = IsId id × IsEndpoint coordinator × IsField key × IsField value
IsWellFormed (records.LeafCommitted id) = IsId id
IsWellFormed (records.LeafAborted id) = IsId id
IsWellFormed (records.Voted id superior seats) = IsId id × IsEndpoint superior × (1 ≤ length seats) × AreSeats seats
IsWellFormed (records.Decided id seats) = IsId id × AreSeats seats
IsWellFormed (records.SubCommitted id) = IsId id
IsWellFormed (records.Ended id) = IsId id
IsWellFormed (records.Done id) = IsId id
