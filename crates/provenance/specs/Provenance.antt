-- Where the endpoints and texts come from that a book holds, records and posts: from the node itself, from what its book held
-- before, and from the message or the request that came.
use Rattle.std.specs.Prelude.{ℕ, List, Bool, IfSome, ◌≤◌}
use Rattle.std.specs.List.{AllByRecursion}
use Rattle.at_base.specs.declared.event.Event.{Event}
use Rattle.at_base.specs.declared.record.Record.{Record}
use Rattle.at_model.specs.Book.{Book, last_counter}
use Rattle.at_model.specs.Recovery.{last_incarnation, recover}
use Rattle.at_model.specs.Step.{plan, step}
use Rattle.provenance.specs.Forms.{AreOuts, Forms, HaveOwn, IsBook, IsEvent, IsRecord}

-- Whatever is asked of them, and a node's own have: behind a step of a book and an event that have it, its book, what it records and
-- what it posts have it.
pub record StepsPassOn (F : Forms) : Type 0 where
  pub book : (b : Book) (e : Event) (now : ℕ) (landed : Bool) → HaveOwn F b.base → IsBook F b → IsEvent F e → IsBook F (step b e now landed).book
  pub posts : (b : Book) (e : Event) (now : ℕ) (landed : Bool) → HaveOwn F b.base → IsBook F b → IsEvent F e → AreOuts F (step b e now landed).outs
  pub entry : (b : Book) (e : Event) (now : ℕ) → HaveOwn F b.base → IsBook F b → IsEvent F e → IfSome (plan b e now).entry (IsRecord F)

-- and so has a book that is recovered from records that have it
abbrev pub RecoveryPassesOn : Forms → Type 0
RecoveryPassesOn F = (base : List ℕ) (rs : List Record) → AllByRecursion (IsRecord F) rs → 1 ≤ last_incarnation rs → last_incarnation rs ≤ last_counter → IsBook F (recover base rs)
