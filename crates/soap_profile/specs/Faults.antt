-- Faults (SOAP 1.1, section 4.4): the tree of one, and what one says.
use Rattle.std.specs.Prelude.{◌≡◌, refl, ℕ, List, [], ◌∷◌, ◌++◌, map, Bool, false, ◌||◌, nat_eq, Option, Some, None, Result, Ok, Err, if◌then◌else◌, codes}
use Rattle.std.specs.Option.{option_map}
use Rattle.xml_profile.specs.declared.name.QName.{QName}
use Rattle.xml_profile.specs.declared.tree.Tree.{Tree}
use Rattle.xml_profile.specs.Forest.Forest.{End}
use Rattle.xml_profile.specs.Prefixes.{addressing, fixed_prefix, soap}
use Rattle.soap_profile.specs.BuiltElements.{children_of, text_children, qualified, unqualified, element}
use Rattle.soap_profile.specs.Children.{child_of}
use Rattle.soap_profile.specs.Values.{elements, is_named, is_unqualified, text_value}
use Rattle.soap_profile.specs.declared.fault.FaultPart.{FaultPart}
use Rattle.soap_profile.specs.declared.fault.FaultPart.TheVariants.{Code, Text, Actor, Detail}
use Rattle.soap_profile.specs.declared.fault.FaultRefusal.{FaultRefusal}
use Rattle.soap_profile.specs.declared.fault.FaultRefusal.TheVariants.{Unreadable, NoMemory}

-- what is written

-- a name with a prefix, or without one
abbrev pub prefixed : Option (List ℕ) → List ℕ → List ℕ
prefixed None local = local
prefixed (Some prefix) local = prefix ++ codes ":" ++ local

-- the text of a code: its local name, behind the prefix that its namespace has in canonical texts
abbrev pub code_text : List ℕ → List ℕ → List ℕ
code_text space local = prefixed (fixed_prefix space) local

-- the detail, with one empty element in it
abbrev pub detail_of : Option QName → List Tree
detail_of None = []
detail_of (Some name) = element (unqualified (codes "detail")) (children_of (element name End ∷ [])) ∷ []

-- the tree of a fault with a code of this namespace and this local name; its parts are in no namespace
abbrev pub fault_tree : List ℕ → List ℕ → List ℕ → Option QName → Tree
fault_tree space local text detail =
    element (qualified soap (codes "Fault"))
    (children_of (element (unqualified (codes "faultcode")) (text_children (code_text space local))
    ∷ element (unqualified (codes "faultstring")) (text_children text)
    ∷ detail_of detail))

-- the first element of this local name in no namespace
abbrev pub first_unqualified : List Tree → List ℕ → Option Tree
first_unqualified [] local = None
first_unqualified (t ∷ ts) local = if is_unqualified t.name local then Some t else first_unqualified ts local

-- what a fault says: its code, its text, and the names of the elements in its detail
abbrev pub fault_code : Tree → Option (List ℕ)
fault_code fault = option_map text_value (first_unqualified (elements fault.children) (codes "faultcode"))

abbrev pub fault_text : Tree → Option (List ℕ)
fault_text fault = option_map text_value (first_unqualified (elements fault.children) (codes "faultstring"))

abbrev pub names_in : Tree → List QName
names_in t = map (λ inner. inner.name) (elements t.children)

abbrev pub fault_detail : Tree → Option (List QName)
fault_detail fault = option_map names_in (first_unqualified (elements fault.children) (codes "detail"))

-- what is read

-- whether the element in a body is a fault
abbrev pub is_fault : QName → Bool
is_fault name = is_named name soap (codes "Fault")

abbrev pub part_name : FaultPart → List ℕ
part_name Code = codes "faultcode"
part_name Text = codes "faultstring"
part_name Actor = codes "faultactor"
part_name Detail = codes "detail"

abbrev pub part_of : Tree → FaultPart → Option (Option Tree)
part_of fault part = child_of fault None (part_name part)

-- a part that must be there
abbrev pub required : FaultPart → Option (Option Tree) → Result Tree FaultRefusal
required part None = Err (Unreadable part)
required part (Some None) = Err (Unreadable part)
required part (Some (Some t)) = Ok t

-- a part that may be absent
abbrev pub optional : FaultPart → Option (Option Tree) → Result (Option Tree) FaultRefusal
optional part None = Err (Unreadable part)
optional part (Some child) = Ok child

infixl 10 ◌>>=◌
abbrev pub ◌>>=◌ : {A B : Type 0} → Result A FaultRefusal → (A → Result B FaultRefusal) → Result B FaultRefusal
Ok x >>= next = next x
Err refusal >>= next = Err refusal

abbrev pub has_colon : List ℕ → Bool
has_colon [] = false
has_colon (c ∷ cs) = nat_eq c 58 || has_colon cs

-- what stands behind the last colon of a qualified name (Namespaces in XML 1.0, section 4)
abbrev pub local_part : List ℕ → List ℕ
local_part [] = []
local_part (c ∷ cs) = if has_colon (c ∷ cs) then local_part cs else c ∷ cs

-- the local name of a fault's code; a fault has a code and a string, each once, and at most one actor and one detail
abbrev pub fault_of : Tree → Result (List ℕ) FaultRefusal
fault_of fault = do
  code ← required Code (part_of fault Code)
  text ← required Text (part_of fault Text)
  actor ← optional Actor (part_of fault Actor)
  detail ← optional Detail (part_of fault Detail)
  Ok (local_part (text_value code))

-- an answer is the expected one, unless memory ran out
abbrev pub Answers : {T : Type 0} → Result T FaultRefusal → Result T FaultRefusal → Type 0
Answers expected (Ok value) = expected ≡ Ok value
Answers expected (Err NoMemory) = Unit {0}
Answers expected (Err (Unreadable part)) = expected ≡ Err (Unreadable part)

pub behind_the_last : local_part (codes "a:b:c") ≡ codes "c"
behind_the_last = refl

pub without_colon : local_part (codes "Client") ≡ codes "Client"
without_colon = refl

pub nothing_behind : local_part (codes "a:") ≡ []
nothing_behind = refl

pub code_of_a_missing_header : code_text addressing (codes "MessageAddressingHeaderRequired") ≡ codes "wsa:MessageAddressingHeaderRequired"
code_of_a_missing_header = refl

pub code_of_another_namespace : code_text (codes "urn:x") (codes "Client") ≡ codes "Client"
code_of_another_namespace = refl
