-- What holds of the items of a book, and of a node's records, behind a step.
use Rattle.std.specs.Prelude.{ℕ, List, [], ◌∷◌, Option, Some, None, Bool, true, false, not, ◌≡◌, ◌⊎◌, refl}
use Rattle.std.specs.List.{AllByRecursion}
use Rattle.std.proofs.Common.{inl, inr, sym, subst, ap, ◌∙◌}
use Rattle.at_base.specs.Numbers.{Numbers}
use Rattle.at_base.specs.declared.event.Event.{Event}
use Rattle.at_base.specs.declared.event.Moment.{Moment}
use Rattle.at_base.specs.declared.record.Record.{Record}
use Rattle.at_model.specs.Book.{Activity, Book, Leaf, Transaction, activity_id, leaf_id, put_by, transaction_id}
use Rattle.at_model.specs.Moves.{Change}
use Rattle.at_model.specs.Step.{Outcome, at_time, moment_of, is_under, put_activities}
use Rattle.model_laws.specs.DrawnIds.{with_entry}
use Rattle.model_laws.proofs.DecisionLaws.{IfThere, all_filter, all_join, all_put}
use Rattle.agreement.specs.ActivityDeeds.{ActivityDeed, idles, tells}
use Rattle.agreement.specs.StepDeeds.{standing}
use Rattle.enlistments.specs.Moves.{ActivityDid, ActivityMade, LeafDid, LeafMade, Moved, Registered, TransactionDid, TransactionMade, activity_did, activity_made, answered, leaf_did, leaf_made, registered, rested, transaction_did, transaction_made}

same_list : {A : Type 0} (P : A → Type 0) (xs ys : List A) → ys ≡ xs → AllByRecursion P xs → AllByRecursion P ys
same_list P xs ys e h = subst (AllByRecursion P) (sym e) h

rested_book : {A : Type 0} (f : Book → A) (b c : Book) (now : ℕ) → f (at_time now b) ≡ f b → (c ≡ b) ⊎ (c ≡ at_time now b) → f c ≡ f b
rested_book f b c now e (inl h) = ap f h
rested_book f b c now e (inr h) = ap f h ∙ e

-- transactions
pub transactions_after : (P : Transaction → Type 0) (b : Book) (e : Event) (now : ℕ) (entry : Option Record) (o : Outcome) → Moved b e now entry o → AllByRecursion P b.transactions
    → ((d : TransactionDid b e now entry o) → IfThere P d.change.item) → ((d : Registered b e now entry o) → P d.gives.transaction) → ((d : TransactionMade b e now entry o) → P d.new)
    → AllByRecursion P o.book.transactions
transactions_after P b e now entry o (transaction_did d) h f g k =
    same_list P _ o.book.transactions d.items.transactions_are (all_put P transaction_id d.old.id d.change.item b.transactions (f d) h)
transactions_after P b e now entry o (leaf_did d) h f g k = same_list P b.transactions o.book.transactions d.items.transactions_are h
transactions_after P b e now entry o (activity_did d) h f g k = same_list P b.transactions o.book.transactions d.items.transactions_are h
transactions_after P b e now entry o (registered d) h f g k =
    same_list P _ o.book.transactions (ap (λ (x : Outcome). x.book.transactions) d.is)
    (all_put P transaction_id d.gives.transaction.id (Some d.gives.transaction) b.transactions (g d) h)
transactions_after P b e now entry o (transaction_made d) h f g k =
    same_list P _ o.book.transactions (ap (λ (x : Outcome). x.book.transactions) d.is) (all_join P b.transactions (d.new ∷ []) h (k d, tt))
transactions_after P b e now entry o (leaf_made d) h f g k = same_list P b.transactions o.book.transactions (ap (λ (x : Outcome). x.book.transactions) d.is) h
transactions_after P b e now entry o (activity_made d) h f g k = same_list P b.transactions o.book.transactions (ap (λ (x : Outcome). x.book.transactions) d.is) h
transactions_after P b e now entry o (answered d) h f g k = same_list P b.transactions o.book.transactions (ap (λ (x : Outcome). x.book.transactions) d.is) h
transactions_after P b e now entry o (rested d) h f g k = same_list P b.transactions o.book.transactions (rested_book (λ c. c.transactions) b o.book now refl d.book) h

-- leaves
pub leaves_after : (P : Leaf → Type 0) (b : Book) (e : Event) (now : ℕ) (entry : Option Record) (o : Outcome) → Moved b e now entry o → AllByRecursion P b.leaves
    → ((d : LeafDid b e now entry o) → IfThere P d.change.item) → ((d : LeafMade b e now entry o) → P d.new) → AllByRecursion P o.book.leaves
leaves_after P b e now entry o (transaction_did d) h f k = same_list P b.leaves o.book.leaves d.items.leaves_are h
leaves_after P b e now entry o (leaf_did d) h f k = same_list P _ o.book.leaves d.items.leaves_are (all_put P leaf_id d.old.id d.change.item b.leaves (f d) h)
leaves_after P b e now entry o (activity_did d) h f k = same_list P b.leaves o.book.leaves d.items.leaves_are h
leaves_after P b e now entry o (registered d) h f k = same_list P b.leaves o.book.leaves (ap (λ (x : Outcome). x.book.leaves) d.is) h
leaves_after P b e now entry o (transaction_made d) h f k = same_list P b.leaves o.book.leaves (ap (λ (x : Outcome). x.book.leaves) d.is) h
leaves_after P b e now entry o (leaf_made d) h f k =
    same_list P _ o.book.leaves (ap (λ (x : Outcome). x.book.leaves) d.is) (all_join P b.leaves (d.new ∷ []) h (k d, tt))
leaves_after P b e now entry o (activity_made d) h f k = same_list P b.leaves o.book.leaves (ap (λ (x : Outcome). x.book.leaves) d.is) h
leaves_after P b e now entry o (answered d) h f k = same_list P b.leaves o.book.leaves (ap (λ (x : Outcome). x.book.leaves) d.is) h
leaves_after P b e now entry o (rested d) h f k = same_list P b.leaves o.book.leaves (rested_book (λ c. c.leaves) b o.book now refl d.book) h

-- activities
all_put_activities : (P : Activity → Type 0) (id : Numbers) (x : Option Activity) (list : List Activity) → IfThere P x → AllByRecursion P list → AllByRecursion P (put_activities id x list)
all_put_activities P id None list h k = all_filter P (λ a. not (is_under id a)) (put_by activity_id id None list) (all_put P activity_id id None list h k)
all_put_activities P id (Some a) list h k = all_put P activity_id id (Some a) list h k

pub activities_after : (P : Activity → Type 0) (b : Book) (e : Event) (now : ℕ) (entry : Option Record) (o : Outcome) → Moved b e now entry o → AllByRecursion P b.activities
    → ((d : ActivityDid b e now entry o) → IfThere P d.change.item) → ((d : ActivityMade b e now entry o) → P d.new) → AllByRecursion P o.book.activities
activities_after P b e now entry o (transaction_did d) h f k = same_list P b.activities o.book.activities d.items.activities_are h
activities_after P b e now entry o (leaf_did d) h f k = same_list P b.activities o.book.activities d.items.activities_are h
activities_after P b e now entry o (activity_did d) h f k = same_list P _ o.book.activities d.items.activities_are (all_put_activities P d.old.id d.change.item b.activities (f d) h)
activities_after P b e now entry o (registered d) h f k = same_list P b.activities o.book.activities (ap (λ (x : Outcome). x.book.activities) d.is) h
activities_after P b e now entry o (transaction_made d) h f k = same_list P b.activities o.book.activities (ap (λ (x : Outcome). x.book.activities) d.is) h
activities_after P b e now entry o (leaf_made d) h f k = same_list P b.activities o.book.activities (ap (λ (x : Outcome). x.book.activities) d.is) h
activities_after P b e now entry o (activity_made d) h f k =
    same_list P _ o.book.activities (ap (λ (x : Outcome). x.book.activities) d.is) (all_join P b.activities (d.new ∷ []) h (k d, tt))
activities_after P b e now entry o (answered d) h f k = same_list P b.activities o.book.activities (ap (λ (x : Outcome). x.book.activities) d.is) h
activities_after P b e now entry o (rested d) h f k = same_list P b.activities o.book.activities (rested_book (λ c. c.activities) b o.book now refl d.book) h

-- the record, of a transaction or of a leaf
unrecorded : (P : Record → Type 0) (entry : Option Record) → entry ≡ None → IfThere P entry
unrecorded P entry e = subst (IfThere P) (sym e) tt

of_activity : (P : Record → Type 0) (m : Moment) (e : Event) (a : Activity) (entry : Option Record) (c : Change Activity) → ActivityDeed m e a entry c → IfThere P entry
of_activity P m e a entry c (idles left why none item effects) = unrecorded P entry none
of_activity P m e a entry c (tells what why none item effects sent) = unrecorded P entry none

pub entry_of : (P : Record → Type 0) (b : Book) (e : Event) (now : ℕ) (entry : Option Record) (o : Outcome) → Moved b e now entry o
    → ((d : TransactionDid b e now entry o) → IfThere P entry) → ((d : LeafDid b e now entry o) → IfThere P entry) → IfThere P entry
entry_of P b e now entry o (transaction_did d) f g = f d
entry_of P b e now entry o (leaf_did d) f g = g d
entry_of P b e now entry o (activity_did d) f g = of_activity P (moment_of b now) e d.old entry d.change d.deed
entry_of P b e now entry o (registered d) f g = unrecorded P entry d.unrecorded
entry_of P b e now entry o (transaction_made d) f g = unrecorded P entry d.unrecorded
entry_of P b e now entry o (leaf_made d) f g = unrecorded P entry d.unrecorded
entry_of P b e now entry o (activity_made d) f g = unrecorded P entry d.unrecorded
entry_of P b e now entry o (answered d) f g = unrecorded P entry d.unrecorded
entry_of P b e now entry o (rested d) f g = unrecorded P entry d.unrecorded

pub records_after : (P : Record → Type 0) (entry : Option Record) (landed : Bool) (rs : List Record) → AllByRecursion P rs → IfThere P (standing landed entry)
    → AllByRecursion P (with_entry entry landed rs)
records_after P None landed rs h k = h
records_after P (Some r) true rs h k = all_join P rs (r ∷ []) h (k, tt)
records_after P (Some r) false rs h k = h
