-- An envelope: its header blocks, and the one element in its body (SOAP 1.1, section 4).
use Rattle.std.specs.Prelude.{List}
use Rattle.xml_profile.specs.declared.tree.Tree.{Tree}

pub record Envelope : Type 0 where
  pub headers : List Tree
  pub body : Tree
