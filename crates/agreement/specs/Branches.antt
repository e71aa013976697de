-- What holds of both branches of a decision, and what its step then gives.
use Rattle.std.specs.Prelude.{List, [], ◌∷◌, ◌++◌, Option, Some, None, Bool, false, map, ◌≡◌}
use Rattle.at_base.specs.declared.message.Message.{Message}
use Rattle.at_base.specs.declared.message.Message.TheVariants as messages
use Rattle.at_base.specs.declared.outs.Out.{Out}
use Rattle.at_base.specs.declared.outs.Out.TheVariants as outs
use Rattle.at_base.specs.declared.record.Record.{Record}
use Rattle.at_model.specs.Book.{Book}
use Rattle.at_model.specs.Moves.{Change, Decision, Goes, Records}
use Rattle.at_model.specs.Outcomes.{noted}
use Rattle.at_model.specs.Step.{Plan, branch, still}
use Rattle.model_laws.specs.DrawnIds.{with_entry}

-- P of what happens, and of the record that stands behind it: none where it happens at once, and none where the record is absent. Where
-- nothing happens without the record, Undoes says that this record may be asked again.
abbrev pub InBranches : {A : Type 0} → (Option Record → Change A → Type 0) → (Record → Type 0) → Decision A → Type 0
InBranches P Undoes (Goes c) = P None c
InBranches P Undoes (Records r c None) = P (Some r) c × Undoes r
InBranches P Undoes (Records r c (Some d)) = P (Some r) c × P None d

-- the records that stand in the journal behind a step, and a book that knows of them
abbrev pub recorded : Option Record → List Record
recorded None = []
recorded (Some r) = r ∷ []

abbrev pub knowing : Option Record → Book → Book
knowing None b = b
knowing (Some r) b = noted r b

-- What the step of a decision gives: something of which P holds, with its record in the journal or with none; or, where its
-- record is absent, nothing but the answer.
pub data Became {A : Type 0} (P : Option Record → Change A → Type 0) (Undoes : Record → Type 0) (b : Book) (put : Option A → Book) (answer : List Out) (p : Plan) (landed : Bool) : Type 0 where
  happened : (entry : Option Record) (c : Change A) → P entry c → ((rs : List Record) → with_entry p.entry landed rs ≡ rs ++ recorded entry)
      → (branch p landed).book ≡ knowing entry (put c.item) → (branch p landed).outs ≡ answer ++ map outs.Post c.posts → (branch p landed).effects ≡ c.effects
      → Became P Undoes b put answer p landed
  undone : (r : Record) → Undoes r → p.entry ≡ Some r → landed ≡ false → branch p landed ≡ still b answer → Became P Undoes b put answer p landed

-- a message that isn't a notification
abbrev pub IsNoNotice : Message → Type 0
IsNoNotice (messages.Notice n) = ⊥
IsNoNotice other = Unit {0}
