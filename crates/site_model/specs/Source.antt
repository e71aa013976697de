-- What was read of a source, and why reading it to its end stops short.
use Rattle.std.specs.Prelude.{ℕ, List, Option, length, ◌≡◌, ◌≤◌, ◌<◌, ◌+◌, IfSome}
use Rattle.site_model.specs.Counts.{capped, Rose, RisesBy}
use Rattle.site_model.specs.declared.source.ReadFault.{ReadFault}
use Rattle.site_model.specs.declared.source.ReadFault.TheVariants.{NoMemory, Failed, TooLong}

-- The bytes are all that the source had left, where it tells that.
pub record IsWhole (left : Option (List ℕ)) (before now : ℕ) (bytes : List ℕ) : Type 0 where
  pub within : length bytes ≤ 1048576
  pub given : RisesBy (length bytes) before now
  pub all : IfSome left (λ input. bytes ≡ input)

abbrev pub HasReadCause : ReadFault → ℕ → ℕ → ℕ → ℕ → Option (List ℕ) → Type 0
HasReadCause NoMemory faults faults' given given' left = given' ≤ given + 1048576
HasReadCause Failed faults faults' given given' left = Rose faults faults' × (given' ≤ given + 1048576)
HasReadCause TooLong faults faults' given given' left = (capped (given + 1048577) ≤ given') × IfSome left (λ input. 1048576 < length input)
