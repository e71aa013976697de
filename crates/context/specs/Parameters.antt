-- The children of the bodies of coordination, looked up by name (WS-Coordination 1.2, sections 2 and 3).
use Rattle.std.specs.Prelude.{ℕ, List, Option, Some, codes}
use Rattle.xml_profile.specs.declared.tree.Tree.{Tree}
use Rattle.xml_profile.specs.Prefixes.{coordination}
use Rattle.soap_profile.specs.Children.{child_of}
use Rattle.context.specs.declared.parameter.Parameter.{Parameter}
use Rattle.context.specs.declared.parameter.Parameter.TheVariants.{Identifier, Expires, CoordinationType, RegistrationService, CurrentContext, CoordinationContext, ProtocolIdentifier, ParticipantProtocolService, CoordinatorProtocolService}

abbrev pub local_name : Parameter → List ℕ
local_name Identifier = codes "Identifier"
local_name Expires = codes "Expires"
local_name CoordinationType = codes "CoordinationType"
local_name RegistrationService = codes "RegistrationService"
local_name CurrentContext = codes "CurrentContext"
local_name CoordinationContext = codes "CoordinationContext"
local_name ProtocolIdentifier = codes "ProtocolIdentifier"
local_name ParticipantProtocolService = codes "ParticipantProtocolService"
local_name CoordinatorProtocolService = codes "CoordinatorProtocolService"

-- the child of this name: nothing where it stands more than once, an inner nothing where it isn't there
abbrev pub child_in : Tree → Parameter → Option (Option Tree)
child_in t parameter = child_of t (Some coordination) (local_name parameter)
