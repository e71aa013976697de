-- What was read of a connection.
use Rattle.std.specs.Prelude.{None, if◌then◌else◌, option_map}
use Rattle.arrivals.specs.BookArrivals.{reaches}
use Rattle.at_base.specs.declared.event.Event.TheVariants as events
use Rattle.wire_msgs.specs.declared.decode.Arrival.{Arrival}
use Rattle.http_post.specs.declared.refusal.HttpRefusal.{HttpRefusal}
use Rattle.http_post.specs.declared.refusal.HttpRefusal.TheVariants as refusals
use Rattle.node_at.specs.Meanings.{Meaning, status_of}
use Rattle.node_at.specs.Meanings.Meaning.{Refused, Steps, Lost, Unread}
use Rattle.node_at.specs.Roles.{serves}
use Rattle.node_at.specs.declared.connection_request.Asked.{Asked}
use Rattle.node_at.specs.declared.connection_request.Asked.TheVariants as askeds
use Rattle.node_at.specs.declared.role.Role.{Role}

abbrev pub meaning_of : Asked → Meaning
meaning_of (askeds.Refused status text) = Refused status (option_map (λ bytes. bytes.items) text)
meaning_of (askeds.Steps event) = Steps event
meaning_of askeds.Lost = Lost
meaning_of askeds.Unread = Unread

-- what a connection that brings no request asks
abbrev pub meaning_at : HttpRefusal → Meaning
meaning_at refusals.Link = Lost
meaning_at refusals.NoMemory = Unread
meaning_at refusals.BadRequest = Refused (status_of refusals.BadRequest) None
meaning_at refusals.MethodNotAllowed = Refused (status_of refusals.MethodNotAllowed) None
meaning_at refusals.LengthRequired = Refused (status_of refusals.LengthRequired) None
meaning_at refusals.ContentTooLarge = Refused (status_of refusals.ContentTooLarge) None
meaning_at refusals.UnsupportedMediaType = Refused (status_of refusals.UnsupportedMediaType) None

-- a message that was taken, by its target
abbrev pub at_target : Role → Arrival → Meaning
at_target role arrival = if serves role arrival.target then Steps (events.Arrived (reaches arrival)) else Refused 404 None
