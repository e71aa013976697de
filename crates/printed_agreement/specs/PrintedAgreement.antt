-- Agreement, read off the printed lines of a report alone: who is of one transaction, and how each ended.
use Rattle.std.specs.Prelude.{ℕ, List, ◌∷◌, ◌++◌, ◌≡◌, ◌⊎◌, ◌≤◌, ◌<◌, ◌^◌, codes, decimal}
use Rattle.at_base.specs.IdText.{IsId, id_text}
use Rattle.at_model.specs.World.{Who}
use Rattle.model_laws.specs.Agreement.{IsIn}

-- `msg K I>J NAME PATH`: message K was posted by node I to node J, or to no node where J is 0.
abbrev pub message_line : ℕ → ℕ → ℕ → List ℕ → List ℕ → List ℕ
message_line k i j name path =
    codes "msg "
    ++ (decimal k ++ (codes " " ++ (decimal i ++ (codes ">" ++ (decimal j ++ (codes " " ++ (name ++ (codes " " ++ path))))))))

-- Someone on node I asks a transaction to take a participant.
abbrev pub register_line : ℕ → ℕ → Who → List ℕ
register_line k i t = message_line k i t.node (codes "Register") (codes "/registration/" ++ id_text t.id)

-- Node I answers this durable participant, or subordinate coordinator, that it was taken.
abbrev pub response_line : ℕ → ℕ → Who → List ℕ
response_line k i x = message_line k i x.node (codes "RegisterResponse") (codes "/p/d/" ++ id_text x.id)

-- `deliver K N STATUS`: message K came to node N.
abbrev pub delivery_line : ℕ → ℕ → List ℕ → List ℕ
delivery_line k n status = codes "deliver " ++ (decimal k ++ (codes " " ++ (decimal n ++ (codes " " ++ status))))

-- `root N ID HOW`, and the same with `sub` or `leaf`: so it ended.
abbrev pub ending_line : List ℕ → Who → List ℕ → List ℕ
ending_line item x how = item ++ (codes " " ++ (decimal x.node ++ (codes " " ++ (id_text x.id ++ (codes " " ++ how)))))

-- A transaction took a participant: a Register to it was delivered, and the next line is the answer.
pub record Takes (lines : List (List ℕ)) (t x : Who) : Type 0 where
  pub number : ℕ
  pub sender : ℕ
  pub status : List ℕ
  pub answer : ℕ
  pub before : List (List ℕ)
  pub after : List (List ℕ)
  pub asked : IsIn (register_line number sender t) lines
  pub delivered : lines ≡ before ++ delivery_line number t.node status ∷ (response_line answer t.node x ∷ after)
  pub there : 1 ≤ x.node

-- It is of a transaction where that, or a subordinate coordinator that is of it, took it; the root is of itself.
pub data IsOneOf (lines : List (List ℕ)) : Who → Who → Type 0 where
  itself : {x root : Who} → x ≡ root → IsOneOf lines x root
  below : {x root : Who} (t : Who) → Takes lines t x → IsOneOf lines t root → IsOneOf lines x root

-- It ended so: as a root, as a subordinate coordinator, or as a durable participant.
abbrev pub Ends : List (List ℕ) → Who → List ℕ → Type 0
Ends lines x how =
    IsIn (ending_line (codes "root") x how) lines
    ⊎ (IsIn (ending_line (codes "sub") x how) lines ⊎ IsIn (ending_line (codes "leaf") x (codes "d " ++ how)) lines)

-- Two of one transaction, of which one committed and the other aborted or was lost, which is to abort (WS-AtomicTransaction 1.2, section 3.3.4).
pub record IsSplitIn (lines : List (List ℕ)) : Type 0 where
  pub root : Who
  pub one : Who
  pub other : Who
  pub node : root.node < 2 ^ 64
  pub id : IsId root.id
  pub one_of : IsOneOf lines one root
  pub other_of : IsOneOf lines other root
  pub committed : Ends lines one (codes "committed")
  pub aborted : Ends lines other (codes "aborted") ⊎ Ends lines other (codes "lost")

-- No two of one transaction end differently (WS-AtomicTransaction 1.2, section 1).
abbrev pub AgreesInPrint : List (List ℕ) → Type 0
AgreesInPrint lines = IsSplitIn lines → ⊥
