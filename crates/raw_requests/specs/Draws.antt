-- What bytes that come to a node as a connection draw (RFC 9110, sections 10.1.1 and 15.5).
use Rattle.std.specs.Prelude.{ℕ, List, Option}
use Rattle.at_base.specs.declared.event.Event.{Event}
use Rattle.http_post.specs.Conversations.{Waits}
use Rattle.node_at.specs.Meanings.{Means}
use Rattle.node_at.specs.Meanings.Meaning.{Refused, Steps}
use Rattle.node_at.specs.declared.role.Role.TheVariants.{All}
use Rattle.raw_requests.specs.declared.Drawn.{Drawn}
use Rattle.raw_requests.specs.declared.Drawn.TheVariants as drawns

-- A message that the node takes, or a tick; or a refusal with its status, and whether the client waits for the interim line.
abbrev pub Draws : List ℕ → Drawn → Type 0
Draws bytes drawns.Forged = (event : Event) × Means All bytes (Steps event)
Draws bytes (drawns.Refused status waits) = ((text : Option (List ℕ)) × Means All bytes (Refused status text)) × Waits bytes waits
