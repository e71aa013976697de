-- A net as its callers see it.
use Rattle.std.specs.Prelude.{ℕ, List}
use Rattle.memory_net.specs.declared.host.Host.{Host}
use Rattle.memory_net.specs.declared.letter.Letter.{Letter}

pub record Seen : Type 0 where
  pub hosts : List Host
  pub clocks : List ℕ
  pub letters : List Letter
