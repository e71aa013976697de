-- What a decision leaves of an item, records and posts, with what is asked of endpoints and texts.
use Rattle.at_base.specs.declared.record.Record.{Record}
use Rattle.at_model.specs.Book.{Activity, Leaf, Transaction}
use Rattle.at_model.specs.Moves.{Change, Decision}
use Rattle.model_laws.proofs.DecisionLaws.{DecisionSays, IfThere}
use Rattle.provenance.specs.Forms.{ArePosts, Forms, IsActivity, IsLeaf, IsRecord, IsTransaction}

-- what is left of the item, and what is posted
pub record Leaves {A : Type 0} (F : Forms) (P : A → Type 0) (c : Change A) : Type 0 where
  pub item : IfThere P c.item
  pub posts : ArePosts F c.posts

abbrev pub Enters : {A : Type 0} → Forms → Record → Change A → Type 0
Enters F r c = IsRecord F r

abbrev pub Decides : {A : Type 0} → Forms → (A → Type 0) → Decision A → Type 0
Decides F P d = DecisionSays (Leaves F P) (Enters F) d

abbrev pub DecidesTransaction : Forms → Decision Transaction → Type 0
DecidesTransaction F d = Decides F (IsTransaction F) d

abbrev pub DecidesLeaf : Forms → Decision Leaf → Type 0
DecidesLeaf F d = Decides F (IsLeaf F) d

abbrev pub DecidesActivity : Forms → Decision Activity → Type 0
DecidesActivity F d = Decides F (IsActivity F) d
