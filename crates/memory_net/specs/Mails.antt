-- Letters as contracts see them, and those among the calls of a machine.
use Rattle.std.specs.Prelude.{ℕ, List, [], ◌∷◌, ◌++◌, Option, Some, None, bytes_eq, codes, decimal, if◌then◌else◌, zero, suc}
use Rattle.site_model.specs.Told.{Call}
use Rattle.memory_net.specs.declared.letter.Letter.{Letter}

pub record Mail : Type 0 where
  pub sender : ℕ
  -- 0 where it goes to no node
  pub receiver : ℕ
  pub bytes : List ℕ

abbrev pub mail_of : Letter → Mail
mail_of l = record { sender = l.sender; receiver = l.receiver; bytes = l.bytes.items }

-- the host of a node of the examples
abbrev pub example_host : ℕ → List ℕ
example_host n = codes "n" ++ (decimal n ++ codes ".example")

-- the node of this host among the first so many, or 0
abbrev pub number_at : ℕ → List ℕ → ℕ
number_at zero host = 0
number_at (suc k) host = if bytes_eq host (example_host (suc k)) then suc k else number_at k host

-- the posts among these calls, as letters of that sender
abbrev pub mails_in : (sender count : ℕ) → List Call → List Mail
mails_in sender count [] = []
mails_in sender count (Call.Post host port bytes ∷ rest) = record { sender = sender; receiver = number_at count host; bytes = bytes } ∷ mails_in sender count rest
mails_in sender count (Call.Write file at bytes ∷ rest) = mails_in sender count rest
mails_in sender count (Call.Sync file ∷ rest) = mails_in sender count rest
mails_in sender count (Call.Send bytes ∷ rest) = mails_in sender count rest

abbrev pub listed : {A : Type 0} → Option A → List A
listed None = []
listed (Some x) = x ∷ []
