-- What a token says: that a record of this id and kind stands in the journal.
use Rattle.at_base.specs.Numbers.{Numbers}
use Rattle.at_base.specs.declared.record.Record.{Record}
use Rattle.at_base.specs.declared.record.Record.TheVariants as records
use Rattle.decision_log.specs.declared.token.What.{What}
use Rattle.decision_log.specs.declared.token.What.TheVariants as whats

pub record Token : Type 0 where
  pub id : Numbers
  pub what : What

abbrev pub token_of : Record → Token
token_of (records.Start incarnation) = record { id = record { incarnation = incarnation; counter = 1 }; what = whats.Start }
token_of (records.LeafPrepared id coordinator key value) = record { id = id; what = whats.LeafPrepared }
token_of (records.LeafCommitted id) = record { id = id; what = whats.LeafCommitted }
token_of (records.LeafAborted id) = record { id = id; what = whats.LeafAborted }
token_of (records.Voted id superior seats) = record { id = id; what = whats.Voted }
token_of (records.Decided id seats) = record { id = id; what = whats.Decided }
token_of (records.SubCommitted id) = record { id = id; what = whats.SubCommitted }
token_of (records.Ended id) = record { id = id; what = whats.Ended }
token_of (records.Done id) = record { id = id; what = whats.Done }

-- the id that a record is about
abbrev pub about : Record → Numbers
about r = (token_of r).id
