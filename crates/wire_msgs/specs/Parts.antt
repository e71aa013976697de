-- The children of a Work.
use Rattle.std.specs.Prelude.{ℕ, List, Option, Some, codes}
use Rattle.xml_profile.specs.declared.tree.Tree.{Tree}
use Rattle.xml_profile.specs.Prefixes.{work}
use Rattle.soap_profile.specs.Children.{child_of}
use Rattle.wire_msgs.specs.declared.part.Part.{Part}
use Rattle.wire_msgs.specs.declared.part.Part.TheVariants.{Key, Value, Kind, Vote}

abbrev pub part_name : Part → List ℕ
part_name Key = codes "Key"
part_name Value = codes "Value"
part_name Kind = codes "Kind"
part_name Vote = codes "Vote"

-- this child: nothing where it stands more than once, an inner nothing where it isn't there
abbrev pub child_in : Tree → Part → Option (Option Tree)
child_in t part = child_of t (Some work) (part_name part)
