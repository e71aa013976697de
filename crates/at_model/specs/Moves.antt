-- What an event does to one item, as a chain of small moves; and the two branches of what is recorded first.
use Rattle.std.specs.Prelude.{List, [], ◌∷◌, ◌++◌, Option, Some, None}
use Rattle.at_base.specs.declared.record.Record.{Record}
use Rattle.at_base.specs.declared.outs.Post.{Post}
use Rattle.at_base.specs.declared.outs.Effect.{Effect}

-- An item on its way through a step: as it stands, what it posts, and what happened. A rule sees no more of the book
-- than this, so it reaches no other item, no counter, no incarnation and no base.
pub record Moving (A : Type 0) : Type 0 where
  pub item : A
  pub posts : List Post
  pub effects : List Effect

-- What became of it: none where it is forgotten.
pub record Change (A : Type 0) : Type 0 where
  pub item : Option A
  pub posts : List Post
  pub effects : List Effect

-- What an event does: at once; or behind a record, with what is done where that record stands, and where it is
-- certainly absent. None there: the step is undone.
pub data Decision (A : Type 0) : Type 0 where
  Goes : Change A → Decision A
  Records : Record → Change A → Option (Change A) → Decision A

abbrev pub begin : {A : Type 0} → A → Moving A
begin a = record { item = a; posts = []; effects = [] }

abbrev pub post : {A : Type 0} → Post → Moving A → Moving A
post p m = record { item = m.item; posts = m.posts ++ p ∷ []; effects = m.effects }

abbrev pub posts : {A : Type 0} → List Post → Moving A → Moving A
posts ps m = record { item = m.item; posts = m.posts ++ ps; effects = m.effects }

abbrev pub effect : {A : Type 0} → Effect → Moving A → Moving A
effect e m = record { item = m.item; posts = m.posts; effects = m.effects ++ e ∷ [] }

abbrev pub become : {A : Type 0} → A → Moving A → Moving A
become a m = record { item = a; posts = m.posts; effects = m.effects }

-- it stays as it stands
abbrev pub stays : {A : Type 0} → Moving A → Change A
stays m = record { item = Some m.item; posts = m.posts; effects = m.effects }

-- it is forgotten
abbrev pub forgotten : {A : Type 0} → Moving A → Change A
forgotten m = record { item = None; posts = m.posts; effects = m.effects }

-- nothing happens
abbrev pub ignored : {A : Type 0} → A → Decision A
ignored a = Goes (stays (begin a))

-- the same done to both branches
abbrev pub in_both : {A : Type 0} → (Change A → Change A) → Decision A → Decision A
in_both f (Goes c) = Goes (f c)
in_both f (Records r c None) = Records r (f c) None
in_both f (Records r c (Some d)) = Records r (f c) (Some (f d))
