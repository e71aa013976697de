-- Whose registrations a transaction accepts, in every run of a world.
use Rattle.std.specs.Prelude.{ℕ, List, Some, None, true, is_some, ◌≡◌}
use Rattle.std.specs.List.{AllByRecursion}
use Rattle.at_model.specs.Book.{Book, Transaction}
use Rattle.at_model.specs.World.{Node, Accepted, World, WorldEvent, nth, accepted_seat, accepted_completion, run_of, Hosts, HaveOwnAddresses}
use Rattle.model_laws.specs.Agreement.{IsIn, HasOneSuperior}

-- In every run all registrations of one item that are accepted, of either kind, are accepted by one transaction.
abbrev pub EnlistsUnderOne : Type 0
EnlistsUnderOne = (hosts : Hosts) (es : List WorldEvent) → HaveOwnAddresses hosts → HasOneSuperior (run_of hosts es)

-- The participant or initiator is known: its endpoint leads to an item of a node.
abbrev pub IsKnownItem : Accepted → Type 0
IsKnownItem acc = is_some acc.participant ≡ true

-- In every run each registration that is accepted is of an item that is known.
abbrev pub EnlistsTheKnown : Type 0
EnlistsTheKnown = (hosts : Hosts) (es : List WorldEvent) → HaveOwnAddresses hosts → AllByRecursion IsKnownItem (run_of hosts es).accepted

-- Each seat of a transaction, and its completion seat, is a registration that was accepted.
abbrev pub IsEnlisted : World → ℕ → Transaction → Type 0
IsEnlisted w n t =
    AllByRecursion (λ s. IsIn (accepted_seat n w.nodes t.id s) w.accepted) t.seats
    × AllByRecursion (λ acc. IsIn acc w.accepted) (accepted_completion n w.nodes t.id None t.completion)

-- In every run each seat and each completion seat of a book is a registration that was accepted.
abbrev pub HoldsTheEnlisted : Type 0
HoldsTheEnlisted =
    (hosts : Hosts) (es : List WorldEvent) → HaveOwnAddresses hosts → (n : ℕ) (x : Node) (b : Book) → nth n (run_of hosts es).nodes ≡ Some x → x.book ≡ Some b
    → AllByRecursion (IsEnlisted (run_of hosts es) n) b.transactions
