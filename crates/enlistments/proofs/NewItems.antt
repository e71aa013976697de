-- What is made knows nobody yet, and has no seat.
use Rattle.std.specs.Prelude.{ℕ, List, [], Option, Some, None, Bool, true, false, nat_lt, ◌&&◌, if◌then◌else◌, bytes_eq, length, ◌≡◌, refl}
use Rattle.std.proofs.Common.{subst, ap}
use Rattle.at_base.specs.declared.limits.TheConstants.{MOST_ITEMS}
use Rattle.at_base.specs.Numbers.{Numbers}
use Rattle.at_base.specs.declared.epr.Epr.{Epr}
use Rattle.at_base.specs.declared.epr.Reply.{Reply}
use Rattle.at_base.specs.declared.epr.Reply.TheVariants as replies
use Rattle.at_base.specs.declared.notice.Kind.{Kind}
use Rattle.at_base.specs.declared.notice.Kind.TheVariants as kinds
use Rattle.at_base.specs.declared.message.Context.{Context}
use Rattle.at_base.specs.declared.message.Create.{Create}
use Rattle.at_base.specs.declared.message.Work.{Work}
use Rattle.at_base.specs.declared.event.Arrived.{Arrived}
use Rattle.at_base.specs.declared.event.Event.{Event}
use Rattle.at_base.specs.declared.event.Moment.{Moment}
use Rattle.at_base.specs.declared.outs.Out.{Out}
use Rattle.at_base.specs.declared.record.Record.{Record}
use Rattle.at_model.specs.Activities.{on_begin, on_interpose}
use Rattle.endpoints.specs.Addresses.{atomic}
use Rattle.at_model.specs.Book.{Activity, Book, Leaf, Transaction}
use Rattle.at_model.specs.Create.{create_in, create_under, new_subordinate, on_create, refuse_create}
use Rattle.at_model.specs.Leaves.{on_work, refuse_work, work_for}
use Rattle.at_model.specs.Step.{Outcome, moment_of}
use Rattle.model_laws.specs.Shapes.{MakesActivity, begins, interposes}
use Rattle.model_laws.proofs.DecisionLaws.{IfThere}
use Rattle.agreement.specs.Deeds.{coordinator_at}
use Rattle.enlistments.specs.Moves.{ActivityMade, LeafMade, TransactionMade}

pub record IsFresh (id : Numbers) (t : Transaction) : Type 0 where
  pub own : t.id ≡ id
  pub seats : t.seats ≡ []
  pub knows : (kind : Kind) → coordinator_at kind t.superior ≡ None

new_links : (m : Moment) (id : Numbers) (a : Arrived) (reply : Epr) (c : Create) (current : Context) (kind : Kind)
    → coordinator_at kind (new_subordinate m id a reply c current).superior ≡ None
new_links m id a reply c current kinds.Volatile = refl
new_links m id a reply c current kinds.Durable = refl

under_fresh : (m : Moment) (id : Numbers) (a : Arrived) (c : Create) (current : Context) (r : Reply) → IfThere (IsFresh id) (create_under m id a c current r).transaction
unfolding create_under
under_fresh m id a c current (replies.At reply) = record { own = refl; seats = refl; knows = λ kind. new_links m id a reply c current kind }
under_fresh m id a c current replies.Anonymous = tt
under_fresh m id a c current replies.Nobody = tt

in_fresh : (m : Moment) (id : Numbers) (a : Arrived) (c : Create) (current : Option Context) → IfThere (IsFresh id) (create_in m id a c current).transaction
unfolding create_in
in_fresh m id a c None = record { own = refl; seats = refl; knows = λ kind. refl }
in_fresh m id a c (Some current) = under_fresh m id a c current a.reply

create_fresh : (m : Moment) (live : ℕ) (a : Arrived) (c : Create) (id : Numbers) → IfThere (IsFresh id) (on_create m live a c (Some id)).transaction
unfolding on_create
create_fresh m live a c id = by_test (bytes_eq c.coordination atomic && nat_lt live MOST_ITEMS)
  where
    by_test : (t : Bool) → IfThere (IsFresh id) (if t then create_in m id a c c.current else refuse_create a).transaction
    by_test true = in_fresh m id a c c.current
    by_test false = tt

some_made : {A : Type 0} (P : A → Type 0) (o : Option A) (x : A) → IfThere P o → o ≡ Some x → P x
some_made P o x h e = subst (IfThere P) e h

pub made_fresh : (b : Book) (e : Event) (now : ℕ) (entry : Option Record) (o : Outcome) (d : TransactionMade b e now entry o) → IsFresh d.id d.new
made_fresh b e now entry o d =
    some_made (IsFresh d.id) _ d.new (create_fresh (moment_of b now) (length b.transactions) d.arrived d.request d.id) d.makes

abbrev pub IsFreshLeaf : Numbers → Leaf → Type 0
IsFreshLeaf id l = (l.id ≡ id) × (l.coordinator ≡ None)

work_for_fresh : (m : Moment) (id : Numbers) (a : Arrived) (w : Work) (r : Reply) → IfThere (IsFreshLeaf id) (work_for m id a w r).leaf
work_for_fresh m id a w (replies.At reply) = (refl, refl)
work_for_fresh m id a w replies.Anonymous = tt
work_for_fresh m id a w replies.Nobody = tt

work_fresh : (m : Moment) (live : ℕ) (a : Arrived) (w : Work) (id : Numbers) → IfThere (IsFreshLeaf id) (on_work m live a w (Some id)).leaf
unfolding on_work
work_fresh m live a w id = by_test (nat_lt live MOST_ITEMS)
  where
    by_test : (t : Bool) → IfThere (IsFreshLeaf id) (if t then work_for m id a w a.reply else refuse_work a).leaf
    by_test true = work_for_fresh m id a w a.reply
    by_test false = tt

pub leaf_fresh : (b : Book) (e : Event) (now : ℕ) (entry : Option Record) (o : Outcome) (d : LeafMade b e now entry o) → IsFreshLeaf d.id d.new
leaf_fresh b e now entry o d = some_made (IsFreshLeaf d.id) _ d.new (work_fresh (moment_of b now) (length b.leaves) d.arrived d.request d.id) d.makes

made_alone : (b : Book) (e : Event) (now : ℕ) (id : Numbers) (a : Activity) (os : List Out) → MakesActivity b e now id a os → a.coordinator ≡ None
unfolding on_begin on_interpose
made_alone b e now id a os (begins to ms came is sent) = ap (λ (x : Activity). x.coordinator) is
made_alone b e now id a os (interposes to named x came found is sent) = ap (λ (y : Activity). y.coordinator) is

pub activity_fresh : (b : Book) (e : Event) (now : ℕ) (entry : Option Record) (o : Outcome) (d : ActivityMade b e now entry o) → d.new.coordinator ≡ None
activity_fresh b e now entry o d = made_alone b e now d.id d.new d.posts d.makes
