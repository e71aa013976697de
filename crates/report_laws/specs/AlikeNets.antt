-- Nets in memory that are alike: no later call of a node can tell them apart.
use Rattle.std.specs.Prelude.{List, [], ◌∷◌, ◌≡◌, map}
use Rattle.determined_nodes.specs.AlikeHosts.{IsSameHost}
use Rattle.memory_net.specs.Mails.{mail_of}
use Rattle.memory_net.specs.declared.host.Host.{Host}
use Rattle.mirrored_nets.specs.Seen.{Seen}

-- hosts that are alike, one by one
abbrev pub AreSameHosts : List Host → List Host → Type 0
AreSameHosts [] [] = Unit {0}
AreSameHosts [] (g ∷ gs) = ⊥
AreSameHosts (h ∷ hs) [] = ⊥
AreSameHosts (h ∷ hs) (g ∷ gs) = IsSameHost h g × AreSameHosts hs gs

-- Their hosts are alike, their clocks show the same, and so do their letters.
pub record IsSameNet (net one : Seen) : Type 0 where
  pub hosts : AreSameHosts net.hosts one.hosts
  pub clocks : net.clocks ≡ one.clocks
  pub letters : map mail_of net.letters ≡ map mail_of one.letters
