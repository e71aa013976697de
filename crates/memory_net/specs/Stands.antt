-- What a net in memory stands for.
use Rattle.std.specs.Prelude.{ℕ, List, [], ◌∷◌, ◌≡◌, ◌≤◌, ◌⊎◌, IfSome, Some, length, map, option_map, unwrap_or}
use Rattle.addressing.specs.declared.post_to.PostTo.{PostTo}
use Rattle.at_model.specs.World.{Posted, example_hosts, nth}
use Rattle.deliveries.specs.ByteNets.{IsNoMessage, Serves}
use Rattle.http_post.specs.OutBytes.{post_of}
use Rattle.model_laws.specs.Agreement.{IsIn}
use Rattle.node_at.specs.State.{seen}
use Rattle.node_at.specs.Texts.{goes_to}
use Rattle.node_at.specs.declared.role.Role.TheVariants.{All}
use Rattle.node_worlds.specs.Agreement.{IsAgreedNet}
use Rattle.node_worlds.specs.Nets.{Net, Place}
use Rattle.site_memory.specs.Sites.{told_of}
use Rattle.site_memory.specs.declared.machine.MemSite.{MemSite}
use Rattle.wire_posts.specs.Envelopes.{IsTextOf, action_in}
use Rattle.memory_net.specs.Calls.{IsServing}
use Rattle.memory_net.specs.Closed.{AsksOf, closed}
use Rattle.memory_net.specs.Mails.{Mail, mail_of}
use Rattle.memory_net.specs.declared.host.Host.{Host}
use Rattle.memory_net.specs.declared.letter.Letter.{Letter}

-- this letter is that message: from its sender, to its receiver, in the bytes by which it was posted
pub record IsMailOf (p : Posted) (m : Mail) : Type 0 where
  pub sender : p.sender ≡ m.sender
  pub receiver : unwrap_or p.receiver 0 ≡ m.receiver
  pub text : List ℕ
  pub of : IsTextOf p.content text
  pub to : PostTo
  pub goes : goes_to p.content.to ≡ Some to
  pub is : m.bytes ≡ post_of to (action_in p.content.message) text

-- one by one
abbrev pub AreMailsOf : List Posted → List Mail → Type 0
AreMailsOf [] [] = Unit {0}
AreMailsOf [] (m ∷ ms) = ⊥
AreMailsOf (p ∷ ps) [] = ⊥
AreMailsOf (p ∷ ps) (m ∷ ms) = IsMailOf p m × AreMailsOf ps ms

-- a host holds the node of its place, on its machine
pub record Holds (net : Net) (ms : ℕ → MemSite) (i : ℕ) (h : Host) : Type 0 where
  pub place : Place
  pub here : nth i net.places ≡ Some place
  pub node : place.node ≡ option_map seen h.node
  pub site : ms i ≡ h.site
  pub serving : IfSome h.node IsServing

-- There is a net of nodes that serve, with these on these machines, whose messages are these letters, and whose nodes know no
-- endpoints but those of nodes of the examples.
pub record Stands (count : ℕ) (hosts : List Host) (mails : List Mail) : Type 0 where
  pub net : Net
  pub sites : ℕ → MemSite
  pub serves : Serves told_of (example_hosts count) net sites
  pub asks : AsksOf closed told_of (example_hosts count) net sites serves
  pub holds : (i : ℕ) (h : Host) → nth i hosts ≡ Some h → Holds net sites i h
  pub letters : AreMailsOf net.posted mails

-- the bytes of a letter to this node, or such as are no message
abbrev pub MayBring : List Mail → ℕ → List ℕ → Type 0
MayBring mails i bytes = ((m : Mail) × IsIn m mails × (m.receiver ≡ i) × (m.bytes ≡ bytes)) ⊎ IsNoMessage All bytes

-- Nodes and letters are those of a net in which there is agreement.
pub record Agrees (count : ℕ) (hosts : List Host) (mails : List Mail) (net : Net) : Type 0 where
  pub agreed : IsAgreedNet (example_hosts count) net
  pub nodes : (i : ℕ) (h : Host) → nth i hosts ≡ Some h → (p : Place) × (nth i net.places ≡ Some p) × (p.node ≡ option_map seen h.node)
  pub letters : AreMailsOf net.posted mails

-- so it is of a net's hosts and letters, of which there are at most eight
abbrev pub IsNet : List Host → List Letter → Type 0
IsNet hosts letters = (length hosts ≤ 8) × Stands (length hosts) hosts (map mail_of letters)

-- so it stays, whatever the letters
abbrev pub KeepsNet : List Host → List Host → Type 0
KeepsNet old new = (letters : List Letter) → IsNet old letters → IsNet new letters
