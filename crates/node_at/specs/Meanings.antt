-- What the bytes of a connection ask of a node (RFC 9110, section 15.5; SOAP 1.1, section 6; WS-Addressing 1.0 Core, section 3).
use Rattle.std.specs.Prelude.{ℕ, List, [], ◌∷◌, ◌≡◌, ◌<◌, length, Option, Some, None, Bool, true, false, Result, Ok, Err, IsTrue, codes}
use Rattle.at_base.specs.declared.event.Event.{Event}
use Rattle.at_base.specs.declared.event.Event.TheVariants as events
use Rattle.arrivals.specs.BookArrivals.{reaches}
use Rattle.http_post.specs.Requests.{Asked, Asks}
use Rattle.http_post.specs.OutBytes.{has_reason}
use Rattle.http_post.specs.declared.refusal.HttpRefusal.{HttpRefusal}
use Rattle.http_post.specs.declared.refusal.HttpRefusal.TheVariants as refusals
use Rattle.model_laws.specs.BookBounds.{IsSoundEvent}
use Rattle.site_model.specs.Told.{Link}
use Rattle.wire_msgs.specs.Arrivals.{Arrives, IsRefused}
use Rattle.wire_msgs.specs.declared.decode.Arrival.{Arrival}
use Rattle.wire_msgs.specs.declared.refusal.Refusal.{Refusal}
use Rattle.wire_msgs.specs.declared.refusal.Refusal.TheVariants as faults
use Rattle.wire_posts.specs.Faults.{refusal_status, refusal_text}
use Rattle.node_at.specs.Roles.{serves}
use Rattle.node_at.specs.declared.role.Role.{Role}

pub data Meaning : Type 0 where
  -- it is refused, and answered with this status, and with this envelope where there is one
  Refused : (status : ℕ) (text : Option (List ℕ)) → Meaning
  -- a message for the book, or a tick
  Steps : (event : Event) → Meaning
  -- the connection failed before a request was there
  Lost : Meaning
  -- something came, and there was no memory to read it
  Unread : Meaning

-- the path that asks for what is due
abbrev pub tick_path : List ℕ
tick_path = codes "/tick"

-- the status of each refusal of a request; a failure of the machine has none
abbrev pub status_of : HttpRefusal → ℕ
status_of refusals.BadRequest = 400
status_of refusals.MethodNotAllowed = 405
status_of refusals.LengthRequired = 411
status_of refusals.ContentTooLarge = 413
status_of refusals.UnsupportedMediaType = 415
status_of refusals.Link = 0
status_of refusals.NoMemory = 0

-- a refusal of the machine says nothing of the bytes
abbrev pub is_answered : Refusal → Bool
is_answered faults.NoMemory = false
is_answered other = true

abbrev pub request : List ℕ → List ℕ → Result Asked HttpRefusal
request path body = Ok (record { path = path; body = body })

-- What a request asks by its path and its body. What is due is asked by the path alone. A message is taken where its
-- target is one of the role's.
pub data Says (role : Role) (path body : List ℕ) : Meaning → Type 0 where
  ticks : path ≡ tick_path → Says role path body (Steps events.Tick)
  says_nothing : (refusal : Refusal) → (path ≡ tick_path → ⊥) → is_answered refusal ≡ true → IsRefused body path refusal → Says role path body (Refused (refusal_status refusal) (refusal_text refusal))
  says_elsewhere : (arrival : Arrival) → (path ≡ tick_path → ⊥) → Arrives body path arrival → serves role arrival.target ≡ false → Says role path body (Refused 404 None)
  says : (arrival : Arrival) → (path ≡ tick_path → ⊥) → Arrives body path arrival → serves role arrival.target ≡ true → Says role path body (Steps (events.Arrived (reaches arrival)))

pub data Means (role : Role) (input : List ℕ) : Meaning → Type 0 where
  is_refused : (refusal : HttpRefusal) → Asks input (Err refusal) → Means role input (Refused (status_of refusal) None)
  is_request : {meaning : Meaning} (path body : List ℕ) → Asks input (request path body) → Says role path body meaning → Means role input meaning

-- what was heard of a connection that tells its bytes
abbrev pub Hears : Role → Option (List ℕ) → Meaning → Type 0
Hears role None meaning = Unit {0}
Hears role (Some input) (Refused status text) = Means role input (Refused status text)
Hears role (Some input) (Steps event) = Means role input (Steps event)
Hears role (Some input) Lost = Unit {0}
Hears role (Some input) Unread = 0 < length input

-- what the connection that is opened next brings
abbrev pub first_of : List (List ℕ) → Option (List ℕ)
first_of [] = None
first_of (input ∷ rest) = Some input

abbrev pub next_input : Option Link → Option (List ℕ)
next_input None = None
next_input (Some link) = first_of link.waiting

abbrev pub open_input : Option Link → Option (List ℕ)
open_input None = None
open_input (Some link) = Some link.open_bytes

-- only a message and a tick are asked for on a connection
abbrev pub IsAsked : Event → Type 0
IsAsked (events.Arrived arrived) = Unit {0}
IsAsked events.Tick = Unit {0}
IsAsked (events.Local request) = ⊥
IsAsked (events.Due item) = ⊥

-- the refusal has a status that is answered, and the message keeps the bounds of the book
abbrev pub IsFit : Meaning → Type 0
IsFit (Refused status text) = IsTrue (has_reason status)
IsFit (Steps event) = IsSoundEvent event × IsAsked event
IsFit Lost = Unit {0}
IsFit Unread = Unit {0}
