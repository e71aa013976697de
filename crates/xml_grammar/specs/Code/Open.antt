-- What the bindings, the names and the open elements of the reader are to the grammar.
use Rattle.std.specs.Prelude.{List, map, reverse, Bool, true, false, Option, Some, None, string_bytes}
use Rattle.xml_grammar.specs.Namespaces.{Binding, Spelled, Sorted, Meaning}
use Rattle.xml_grammar.specs.Code.Views.{parts_of}
use Rattle.xml_grammar.specs.Code.Machine.{Frame, state}
use Rattle.xml_grammar.specs.Code.Shallow.{Reading, reading}
use Rattle.xml_grammar.specs.Code.Places.{binding_of, held_of}
use Rattle.xml_grammar.specs.declared.scope.Scope.{Scope}
use Rattle.xml_grammar.specs.declared.meaning.Spelled.{Spelled as SpelledRead}
use Rattle.xml_grammar.specs.declared.meaning.Sorted.{Sorted as SortedRead}
use Rattle.xml_grammar.specs.declared.meaning.Meaning.{Meaning as MeaningRead}
use Rattle.xml_grammar.specs.declared.machine.Frame.{Frame as FrameRead}
use Rattle.xml_grammar.specs.declared.machine.Machine.{Machine}
use Rattle.xml_profile.specs.Children.{forest_of}

abbrev pub bindings_of : Scope → List Binding
bindings_of s = map held_of s.held.items

abbrev pub spelled_of : SpelledRead → Spelled
spelled_of a = record { name = parts_of a.name; value = a.value }

abbrev pub sorted_of : SortedRead → Sorted
sorted_of s = record { declarations = map binding_of s.declarations.items; attributes = map spelled_of s.attributes.items }

abbrev pub meaning_of : List Binding → MeaningRead → Meaning
meaning_of bs m = record { bindings = bs; name = m.name; attributes = m.attributes }

abbrev pub frame_of : FrameRead → Frame
frame_of f = record { spelled = f.spelled.now; name = f.name; attributes = f.attributes; kids = forest_of f.kids.items; outside = f.outside }

-- from the innermost out
abbrev pub frames_of : List FrameRead → List Frame
frames_of fs = reverse (map frame_of fs)

abbrev pub reading_of : Machine → Reading
reading_of m = reading m.deepest (state (bindings_of m.scope) (frames_of m.frames.items) (string_bytes m.pending) m.ended)

-- goes on, or not
abbrev pub going : Bool → Reading → Option Reading
going true r = Some r
going false r = None
