-- No number of what a node shows is a fraction.
use Rattle.std.proofs.Common.{◌≡◌, ℕ, List, [], ◌∷◌, false, Option, Some, None, map, refl}
use Rattle.at_base.specs.declared.epr.Epr.{Epr}
use Rattle.at_model.specs.Book.{Activity, Completion, Enlistment, Leaf, Link, Superior, Transaction}
use Rattle.node_at.specs.State.{State}
use Rattle.node_at.specs.declared.role.Role.{Role}
use Rattle.serde_json.specs.Data.{Data}
use Rattle.serde_json.specs.View.{items_of}
use Rattle.serde_json.specs.Written.{has_float, items_have_float}
use Rattle.shown_pages.specs.declared.page.Counts.{Counts}
use Rattle.status_pages.specs.Json.{activity_data, address_of, counts_data, initiator_data, journal_data, leaf_data, link_data, node_data, participant_data, superior_data, time_since, time_until, transaction_data}

items : {A : Type 0} (made : A → Data) → ((x : A) → has_float (made x) ≡ false) → (xs : List A) → items_have_float (items_of (map made xs)) ≡ false
items made none [] = refl
items made none (x ∷ xs) = rw (none x) (items made none xs)

until : (now : ℕ) (at : Option ℕ) → has_float (time_until now at) ≡ false
until now None = refl
until now (Some at) = refl

since : (now : ℕ) (at : Option ℕ) → has_float (time_since now at) ≡ false
since now None = refl
since now (Some at) = refl

address : (e : Option Epr) → has_float (address_of e) ≡ false
address None = refl
address (Some e) = refl

participant : (s : Enlistment) → has_float (participant_data s) ≡ false
unfolding participant_data
participant s = refl

initiator : (c : Option Completion) → has_float (initiator_data c) ≡ false
unfolding initiator_data
initiator None = refl
initiator (Some c) = refl

link : (l : Link) → has_float (link_data l) ≡ false
unfolding link_data
link l = rw (address l.coordinator) refl

superior : (s : Option Superior) → has_float (superior_data s) ≡ false
unfolding superior_data
superior None = refl
superior (Some s) = rw (link s.durable, link s.volatile) refl

transaction : (now : ℕ) (t : Transaction) → has_float (transaction_data now t) ≡ false
unfolding transaction_data
transaction now t = rw (since now t.aborted, until now t.deadline, initiator t.completion, items participant_data participant t.seats, since now t.sent, superior t.superior) refl

leaf : (now : ℕ) (l : Leaf) → has_float (leaf_data now l) ≡ false
unfolding leaf_data
leaf now l = rw (address l.coordinator, until now l.deadline, since now l.sent) refl

activity : (now : ℕ) (a : Activity) → has_float (activity_data now a) ≡ false
unfolding activity_data
activity now a = rw (address a.coordinator, until now a.deadline, since now a.sent) refl

counts : (c : Counts) → has_float (counts_data c) ≡ false
unfolding counts_data
counts c = refl

journal : (n : State) → has_float (journal_data n) ≡ false
unfolding journal_data
journal n = refl

pub none_is_a_fraction : (role : Role) (n : State) (c : Counts) → has_float (node_data role n c) ≡ false
unfolding node_data
none_is_a_fraction role n c =
    rw (items (activity_data c.clock) (activity c.clock) n.book.activities, counts c, journal n, items (leaf_data c.clock) (leaf c.clock) n.book.leaves, items (transaction_data c.clock) (transaction c.clock) n.book.transactions) refl
