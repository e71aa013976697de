-- The promises of a book, and the live records that stand for them (WS-AtomicTransaction 1.2, section 3.3.4).
use Rattle.std.specs.Prelude.{List, ◌≡◌, ◌⊎◌, true, Some, map}
use Rattle.std.specs.List.{AllByRecursion}
use Rattle.at_base.specs.Numbers.{Numbers}
use Rattle.at_base.specs.declared.notice.Kind.TheVariants as kinds
use Rattle.at_tables.specs.declared.cells.State.TheVariants as states
use Rattle.at_model.specs.Book.{Book, Completion, Enlistment, Leaf, Phase, Transaction, leaf_id, transaction_id}
use Rattle.at_model.specs.Step.{is_decided_root}
use Rattle.model_laws.specs.Agreement.{IsIn}
use Rattle.enlistments.specs.Moves.{IsReady}
use Rattle.owed.specs.Shape.{AreShaped}
use Rattle.decision_log.specs.KeptState.{IsAmong}
use Rattle.decision_log.specs.KeptRecords.{Known, tokens_of}
use Rattle.decision_log.specs.Tokens.{Token}
use Rattle.decision_log.specs.declared.token.What.{What}
use Rattle.decision_log.specs.declared.token.What.TheVariants as whats

-- a record of this id and kind stands
abbrev pub Stands : List Token → Numbers → What → Type 0
Stands ts id what = IsAmong (record { id = id; what = what }) ts

pub record IsPromised (ts : List Token) (t : Transaction) : Type 0 where
  -- a subordinate has voted Prepared
  pub voted : t.phase ≡ Phase.Voted → Stands ts t.id whats.Voted
  -- a durable participant is told to commit
  pub told : (s : Enlistment) → IsIn s t.seats → s.kind ≡ kinds.Durable → s.state ≡ states.Committing → Stands ts t.id whats.Decided ⊎ Stands ts t.id whats.SubCommitted
  -- a root has decided
  pub decided : is_decided_root (Some t) ≡ true → Stands ts t.id whats.Decided
  -- an initiator may be told of that again
  pub done : (c : Completion) → t.completion ≡ Some c → c.state ≡ states.Done → Stands ts t.id whats.Decided

-- a durable participant with work of its own has voted Prepared
pub record IsLeafPromised (ts : List Token) (l : Leaf) : Type 0 where
  pub prepared : l.kind ≡ kinds.Durable → l.state ≡ states.PreparedSuccess → Stands ts l.id whats.LeafPrepared

pub record ArePromised (b : Book) (k : Known) : Type 0 where
  pub transactions : AllByRecursion (IsPromised (tokens_of k.live)) b.transactions
  pub leaves : AllByRecursion (IsLeafPromised (tokens_of k.live)) b.leaves
  pub outcomes : b.outcomes ≡ k.done

-- no leaf has the id of a transaction
abbrev pub AreApart : Book → Type 0
AreApart b = (i : Numbers) → IsIn i (map transaction_id b.transactions) → IsIn i (map leaf_id b.leaves) → ⊥

-- A book whose items stand as in every run, and whose promises are live.
pub record PromisesStand (b : Book) (k : Known) : Type 0 where
  pub ready : IsReady b
  pub shaped : AreShaped b
  pub apart : AreApart b
  pub promised : ArePromised b k
