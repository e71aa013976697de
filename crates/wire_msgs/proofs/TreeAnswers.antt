-- What an answer says of the bytes, from what it says of the tree that they spell.
use Rattle.std.proofs.Common.{ℕ, List, Result, Ok, Err, IfErr, IfOk}
use Rattle.xml_profile.specs.declared.tree.Tree.{Tree}
use Rattle.xml_grammar.specs.Refusals.{Reads}
use Rattle.xml_grammar.specs.Refusals.{Refuses as RefusesTree, Answers as AnswersTree}
use Rattle.xml_grammar.specs.declared.reader.TreeRefusal.{TreeRefusal}
use Rattle.xml_grammar.specs.declared.reader.TreeRefusal.TheVariants as trees
use Rattle.wire_msgs.specs.declared.decode.Arrival.{Arrival}
use Rattle.wire_msgs.specs.declared.refusal.Refusal.{Refusal}
use Rattle.wire_msgs.specs.declared.refusal.Refusal.TheVariants.{TooLong, NotUtf8, NotSpelled, TooDeep, TooMany, VersionMismatch, NotEnvelope, MustUnderstand, MissingHeader, InvalidHeader, NoTarget, Action, Parameters, NoMemory}
use Rattle.wire_msgs.specs.Arrivals.{Arrives, IsRefused, arrival_of}
use Rattle.wire_msgs.specs.Refusals.{Answers, Refuses, of_tree}

-- bytes that are no tree

pub tree_refused : (bytes path : List ℕ) (f : TreeRefusal) → RefusesTree bytes f → IsRefused bytes path (of_tree f)
tree_refused bytes path trees.TooLong h = h
tree_refused bytes path (trees.NotUtf8 place) h = h
tree_refused bytes path trees.NotSpelled h = h
tree_refused bytes path trees.TooDeep h = h
tree_refused bytes path trees.TooMany h = h
tree_refused bytes path trees.NoMemory h = tt

pub no_tree : {A : Type 0} (expected : Result A Refusal) (t : Tree) (f : TreeRefusal) → AnswersTree (Err f) t → Refuses expected (of_tree f)
no_tree expected t trees.TooLong h = h
no_tree expected t (trees.NotUtf8 place) h = h
no_tree expected t trees.NotSpelled h = h
no_tree expected t trees.TooDeep h = h
no_tree expected t trees.TooMany h = h
no_tree expected t trees.NoMemory h = tt

-- bytes that are one

module _ (bytes path : List ℕ) (t : Tree) (reads : Reads bytes t) where
  pub refused : (r : Refusal) → Refuses (arrival_of t path) r → IsRefused bytes path r
  refused TooLong h = absurd h
  refused (NotUtf8 place) h = absurd h
  refused NotSpelled h = absurd h
  refused TooDeep h = absurd h
  refused TooMany h = absurd h
  refused VersionMismatch h = record { tree = t; reads = reads; means = h }
  refused NotEnvelope h = record { tree = t; reads = reads; means = h }
  refused (MustUnderstand name) h = record { tree = t; reads = reads; means = h }
  refused (MissingHeader name) h = record { tree = t; reads = reads; means = h }
  refused (InvalidHeader name) h = record { tree = t; reads = reads; means = h }
  refused NoTarget h = record { tree = t; reads = reads; means = h }
  refused Action h = record { tree = t; reads = reads; means = h }
  refused (Parameters name) h = record { tree = t; reads = reads; means = h }
  refused NoMemory h = tt

  pub arrives : (result : Result Arrival Refusal) → Answers (arrival_of t path) result → IfOk result (Arrives bytes path)
  arrives (Ok arrival) h = record { tree = t; reads = reads; means = h }
  arrives (Err r) h = tt

  pub is_refused : (result : Result Arrival Refusal) → Answers (arrival_of t path) result → IfErr result (IsRefused bytes path)
  is_refused (Ok arrival) h = tt
  is_refused (Err r) h = refused r h
