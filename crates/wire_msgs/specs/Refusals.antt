-- Refusals: those of the layers below, and when an answer is the expected one.
use Rattle.std.specs.Prelude.{Result, Ok, Err, ◌≡◌}
use Rattle.xml_grammar.specs.declared.reader.TreeRefusal.{TreeRefusal}
use Rattle.xml_grammar.specs.declared.reader.TreeRefusal.TheVariants as trees
use Rattle.soap_profile.specs.declared.envelope.SoapRefusal.{SoapRefusal}
use Rattle.soap_profile.specs.declared.envelope.SoapRefusal.TheVariants as soaps
use Rattle.soap_profile.specs.declared.fault.FaultRefusal.{FaultRefusal}
use Rattle.soap_profile.specs.declared.fault.FaultRefusal.TheVariants as faults
use Rattle.addressing.specs.declared.headers.AddressingRefusal.{AddressingRefusal}
use Rattle.addressing.specs.declared.headers.AddressingRefusal.TheVariants as addressings
use Rattle.context.specs.declared.parameter.ContextFault.{ContextFault}
use Rattle.context.specs.declared.parameter.ContextFault.TheVariants as contexts
use Rattle.wire_msgs.specs.declared.refusal.ParameterName.TheVariants as names
use Rattle.wire_msgs.specs.declared.refusal.Refusal.{Refusal}
use Rattle.wire_msgs.specs.declared.refusal.Refusal.TheVariants.{TooLong, NotUtf8, NotSpelled, TooDeep, TooMany, VersionMismatch, NotEnvelope, MustUnderstand, MissingHeader, InvalidHeader, NoTarget, Action, Parameters, NoMemory}

abbrev pub of_tree : TreeRefusal → Refusal
of_tree trees.TooLong = TooLong
of_tree (trees.NotUtf8 place) = NotUtf8 place
of_tree trees.NotSpelled = NotSpelled
of_tree trees.TooDeep = TooDeep
of_tree trees.TooMany = TooMany
of_tree trees.NoMemory = NoMemory

abbrev pub of_soap : SoapRefusal → Refusal
of_soap soaps.VersionMismatch = VersionMismatch
of_soap soaps.NotEnvelope = NotEnvelope
of_soap (soaps.MustUnderstand name) = MustUnderstand name
of_soap soaps.NoMemory = NoMemory

abbrev pub of_addressing : AddressingRefusal → Refusal
of_addressing (addressings.MissingHeader name) = MissingHeader name
of_addressing (addressings.InvalidHeader name) = InvalidHeader name
of_addressing addressings.NoMemory = NoMemory

abbrev pub of_fault : FaultRefusal → Refusal
of_fault (faults.Unreadable part) = Parameters (names.Fault part)
of_fault faults.NoMemory = NoMemory

abbrev pub of_coordination : ContextFault → Refusal
of_coordination (contexts.Parameters name) = Parameters (names.Coordination name)
of_coordination contexts.NoMemory = NoMemory

-- what a layer below says, as this one says it
abbrev pub soap : {A : Type 0} → Result A SoapRefusal → Result A Refusal
soap (Ok value) = Ok value
soap (Err refusal) = Err (of_soap refusal)

abbrev pub addressing : {A : Type 0} → Result A AddressingRefusal → Result A Refusal
addressing (Ok value) = Ok value
addressing (Err refusal) = Err (of_addressing refusal)

abbrev pub fault : {A : Type 0} → Result A FaultRefusal → Result A Refusal
fault (Ok value) = Ok value
fault (Err refusal) = Err (of_fault refusal)

abbrev pub coordination : {A : Type 0} → Result A ContextFault → Result A Refusal
coordination (Ok value) = Ok value
coordination (Err fault) = Err (of_coordination fault)

infixl 10 ◌>>=◌
abbrev pub ◌>>=◌ : {A B : Type 0} → Result A Refusal → (A → Result B Refusal) → Result B Refusal
Ok x >>= next = next x
Err refusal >>= next = Err refusal

-- of a tree: want of memory says nothing of it, and each other refusal is the expected one; bytes that spell it are
-- neither too long nor unreadable
abbrev pub Refuses : {T : Type 0} → Result T Refusal → Refusal → Type 0
Refuses expected NoMemory = Unit {0}
Refuses expected TooLong = ⊥
Refuses expected (NotUtf8 place) = ⊥
Refuses expected NotSpelled = ⊥
Refuses expected TooDeep = ⊥
Refuses expected TooMany = ⊥
Refuses expected VersionMismatch = expected ≡ Err VersionMismatch
Refuses expected NotEnvelope = expected ≡ Err NotEnvelope
Refuses expected (MustUnderstand name) = expected ≡ Err (MustUnderstand name)
Refuses expected (MissingHeader name) = expected ≡ Err (MissingHeader name)
Refuses expected (InvalidHeader name) = expected ≡ Err (InvalidHeader name)
Refuses expected NoTarget = expected ≡ Err NoTarget
Refuses expected Action = expected ≡ Err Action
Refuses expected (Parameters name) = expected ≡ Err (Parameters name)

-- an answer is the expected one, unless memory ran out
abbrev pub Answers : {T : Type 0} → Result T Refusal → Result T Refusal → Type 0
Answers expected (Ok value) = expected ≡ Ok value
Answers expected (Err refusal) = Refuses expected refusal
