-- What is posted on the wire and what a world of nodes says of it.
use Rattle.std.specs.Prelude.{◌≡◌, ◌++◌, ◌||◌, ℕ, List, true, false, IfSome, Some, None}
use Rattle.url.specs.Parser.{parse_url}
use Rattle.url.specs.Parts.{Parts}
use Rattle.at_base.specs.declared.epr.Epr.{Epr}
use Rattle.at_base.specs.declared.epr.Reply.{Reply}
use Rattle.at_base.specs.declared.epr.Reply.TheVariants as replies
use Rattle.at_base.specs.declared.event.Arrived.{Arrived}
use Rattle.at_base.specs.declared.message.Message.{Message}
use Rattle.at_base.specs.declared.message.Message.TheVariants as messages
use Rattle.at_base.specs.declared.outs.Post.{Post}
use Rattle.at_base.specs.declared.target.Target.{Target}
use Rattle.endpoints.specs.Addresses.{target_of}
use Rattle.at_model.specs.World.{Hosts, IsNumber}
use Rattle.addressing.specs.Endpoints.{is_anonymous, is_nobody}
use Rattle.wire_msgs.specs.declared.decode.Arrival.{Arrival}
use Rattle.wire_msgs.specs.Arrivals.{Arrives}
use Rattle.addressing.specs.PostAddresses.{path_in}
use Rattle.wire_msgs.specs.WholeMessages.{IsClean, IsSource}
use Rattle.wire_posts.specs.Returns.{CanBeWritten, IsProtocolFault, IsRequest, IsWholeReply}
use Rattle.arrivals.specs.BookArrivals.{has_postable, is_postable, reaches}

-- an endpoint that is named isn't one of the predefined ones, which have variants of their own
abbrev pub IsProperReply : Reply → Type 0
IsProperReply replies.Anonymous = Unit {0}
IsProperReply replies.Nobody = Unit {0}
IsProperReply (replies.At epr) = (is_anonymous epr || is_nobody epr) ≡ false

-- a post whose endpoints can be posted to, as those of a node are
pub record IsProper (post : Post) : Type 0 where
  pub from : IfSome post.from (λ epr. is_postable epr ≡ true)
  pub reply : IfSome post.reply IsProperReply
  pub participant : has_postable post.message ≡ true

-- a base under which the address of each of a node's items is a URL with its path
abbrev pub IsBase : List ℕ → Type 0
IsBase base = (rest : List ℕ) (target : Target) → target_of rest ≡ Some target → path_in (parse_url None (base ++ rest)) ≡ Some rest

-- the URL with this path in the place of its own, and with no query and no fragment
abbrev pub with_path : Parts → List ℕ → Parts
with_path url path = record url { path = path; query = None; fragment = None }

-- each node has a base, and no two have the same
pub record HaveOwnBases (hosts : Hosts) : Type 0 where
  pub bases : (n : ℕ) → IsNumber hosts n → IsBase (hosts.base_of n)
  pub differ : (m n : ℕ) → IsNumber hosts m → IsNumber hosts n → hosts.base_of m ≡ hosts.base_of n → m ≡ n

-- a destination that is written
pub record IsWritten (epr : Epr) : Type 0 where
  pub clean : IsClean epr.address
  pub somewhere : is_anonymous epr ≡ false

-- a post that can be read at the node to whose address it goes
pub record CanArrive (post : Post) : Type 0 where
  pub to : IfSome post.to IsWritten
  pub id : IfSome post.id IsClean
  pub relates : IfSome post.relates IsClean
  pub from : IfSome post.from IsSource
  pub reply : IfSome post.reply IsWholeReply
  pub message : CanBeWritten post.message
  pub request : IsRequest post.message post

-- the text is read at the path, and this reaches the book
pub record Reaches (text path : List ℕ) (arrived : Arrived) : Type 0 where
  pub arrival : Arrival
  pub arrives : Arrives text path arrival
  pub reached : reaches arrival ≡ arrived

-- a fault that is written has the name of one of the protocols' faults
abbrev pub HasProtocolFault : Message → Type 0
HasProtocolFault (messages.Fault name) = IsProtocolFault name
HasProtocolFault message = Unit {0}
