-- What is done to the leaves is what the model's plan of the book does to them.
use Rattle.std.proofs.Common.{ℕ, List, [], Option, Some, None, Bool, true, false, nat_lt, length, ◌≡◌, refl, sym, ap, subst, ◌∙◌}
use Rattle.at_base.specs.declared.limits.TheConstants.{MOST_ITEMS}
use Rattle.at_base.specs.Numbers.{Numbers}
use Rattle.at_base.specs.declared.epr.Reply.{Reply}
use Rattle.at_base.specs.declared.epr.Reply.TheVariants as replies
use Rattle.at_base.specs.declared.notice.Kind.{Kind}
use Rattle.at_base.specs.declared.message.Message.TheVariants as messages
use Rattle.at_base.specs.declared.message.Work.{Work}
use Rattle.at_base.specs.declared.event.Arrived.{Arrived}
use Rattle.at_base.specs.declared.event.Moment.{Moment}
use Rattle.at_base.specs.declared.outs.Out.{Out}
use Rattle.at_base.specs.Names.{is_kind}
use Rattle.at_model.specs.Book.{Book, Leaf, find_by, last_counter, leaf_id, next_id, put_by}
use Rattle.at_model.specs.Leaves.{Employment, on_leaf, on_work, work_for}
use Rattle.at_model.specs.Due.{leaf_due, leaf_reached}
use Rattle.at_model.specs.Posts.{accepted}
use Rattle.at_model.specs.Step.{Plan, at_time, employed_plan, leaf_at, leaf_due_plan, leaf_or_stranger_plan, leaf_plan, moment_of, plain, put_leaf, still, stranger_plan, work_plan}
use Rattle.at_posts.proofs.Counters.{counts}
use Rattle.at_tables.specs.Tables.{participant_of}
use Rattle.at_tables.specs.declared.cells.State.TheVariants as states
use Rattle.by_id.specs.Unmoved.{meant, unmoved}
use Rattle.by_id.specs.Plans.{chosen}
use Rattle.by_id.specs.declared.fates.Choice.{Choice}
use Rattle.by_id.specs.declared.plan.Plan.{Plan as Planned}
use Rattle.by_id.proofs.Found.{chosen_so, found_id, moved_found, put_found}
use Rattle.participant_at.specs.LeafPlans.{Holds, employed, whole, with_leaves}

-- what is chosen for the leaf that was found
decides : (b : Book) (now : ℕ) (answer : List Out) (id : Numbers) (l : Leaf) (c : Choice Leaf (Unit {0})) → leaf_at b id ≡ Some l → whole b now (chosen answer l.id c) ≡ leaf_plan b now answer l (meant (Some l) c)
decides b now answer id l c e =
    chosen_so unmoved with_leaves put_leaf (λ d. refl) (λ k o d. refl) b now answer l.id l c (
      ap (λ ls. record (at_time now b) { leaves = ls }) (subst (λ k. put_by leaf_id k (Some l) b.leaves ≡ b.leaves) (sym (found_id leaf_id id l b.leaves e)) (put_found leaf_id id l b.leaves e)),
      λ by. ap (λ ls. record (at_time now b) { leaves = ls }) (moved_found leaf_id unmoved l.id by l b.leaves (subst (λ k. find_by leaf_id k b.leaves ≡ Some l) (sym (found_id leaf_id id l b.leaves e)) e)),
    )

-- what became of a Work
abbrev Employs : Book → ℕ → Employment → Type 0
Employs b now e = whole b now (employed e) ≡ employed_plan b now e.leaf e.outs

employs_for : (b : Book) (now : ℕ) (m : Moment) (id : Numbers) (a : Arrived) (w : Work) (reply : Reply) → nat_lt b.counter last_counter ≡ true → nat_lt (length b.leaves) MOST_ITEMS ≡ true
    → Employs b now (work_for m id a w reply)
employs_for b now m id a w (replies.At to) e f = rw e (rw f refl)
employs_for b now m id a w replies.Anonymous e f = refl
employs_for b now m id a w replies.Nobody e f = refl

employs_if : (b : Book) (now : ℕ) (m : Moment) (id : Numbers) (a : Arrived) (w : Work) (few : Bool) → nat_lt b.counter last_counter ≡ true → nat_lt (length b.leaves) MOST_ITEMS ≡ few
    → Employs b now (on_work m (length b.leaves) a w (Some id))
unfolding on_work
employs_if b now m id a w true e f = rw f (employs_for b now m id a w a.reply e f)
employs_if b now m id a w false e f = rw f refl

employs_next : (b : Book) (now : ℕ) (m : Moment) (a : Arrived) (w : Work) (next : Option Numbers) → next_id b ≡ next → Employs b now (on_work m (length b.leaves) a w next)
unfolding on_work
employs_next b now m a w None e = refl
employs_next b now m a w (Some id) e = employs_if b now m id a w (nat_lt (length b.leaves) MOST_ITEMS) (counts b id e) refl

pub employs : (b : Book) (now : ℕ) (ls : List Leaf) (m : Moment) (a : Arrived) (w : Work) (plan : Planned Leaf (Unit {0})) → Holds b now ls m → plan ≡ employed (on_work m (length ls) a w m.next)
    → whole b now plan ≡ work_plan b now a (messages.Work w)
unfolding work_plan
employs b now ls m a w plan holds e =
    ap (whole b now) (e ∙ λ i. employed (on_work (holds.1 i) (length (sym holds.0 i)) a w (ap (λ (k : Moment). k.next) holds.1 i)))
    ∙ employs_next b now (moment_of b now) a w (next_id b) refl

-- a message at a leaf
pub at_kind : (b : Book) (now : ℕ) (ls : List Leaf) (m : Moment) (a : Arrived) (id : Numbers) (kind : Kind) (l : Leaf) (c : Choice Leaf (Unit {0})) → Holds b now ls m → find_by leaf_id id ls ≡ Some l → is_kind l.kind kind ≡ true
    → meant (Some l) c ≡ on_leaf m a l a.message → whole b now (chosen accepted l.id c) ≡ leaf_or_stranger_plan b now a kind (leaf_at b id)
at_kind b now ls m a id kind l c holds found same chose =
    let here : leaf_at b id ≡ Some l = ap (find_by leaf_id id) holds.0 ∙ found in
    decides b now accepted id l c here
    ∙ ap (leaf_plan b now accepted l) (chose ∙ ap (λ k. on_leaf k a l a.message) holds.1)
    ∙ sym (ap (leaf_or_stranger_plan b now a kind) here ∙ rw same refl)

abbrev strange : Book → ℕ → Arrived → Kind → Plan
strange b now a kind = stranger_plan b now a (participant_of kind states.None) a.message

pub at_other : (b : Book) (now : ℕ) (ls : List Leaf) (m : Moment) (a : Arrived) (id : Numbers) (kind : Kind) (l : Leaf) → Holds b now ls m → find_by leaf_id id ls ≡ Some l → is_kind l.kind kind ≡ false
    → strange b now a kind ≡ leaf_or_stranger_plan b now a kind (leaf_at b id)
at_other b now ls m a id kind l holds found same = sym (ap (leaf_or_stranger_plan b now a kind) (ap (find_by leaf_id id) holds.0 ∙ found) ∙ rw same refl)

pub at_none : (b : Book) (now : ℕ) (ls : List Leaf) (m : Moment) (a : Arrived) (id : Numbers) (kind : Kind) → Holds b now ls m → find_by leaf_id id ls ≡ None
    → strange b now a kind ≡ leaf_or_stranger_plan b now a kind (leaf_at b id)
at_none b now ls m a id kind holds found = sym (ap (leaf_or_stranger_plan b now a kind) (ap (find_by leaf_id id) holds.0 ∙ found))

-- one that is asked whether it is due
pub asks : (b : Book) (now : ℕ) (ls : List Leaf) (m : Moment) (id : Numbers) (l : Leaf) (c : Choice Leaf (Unit {0})) → Holds b now ls m → find_by leaf_id id ls ≡ Some l → meant (Some l) c ≡ leaf_reached m l (leaf_due m l)
    → whole b now (chosen [] l.id c) ≡ leaf_due_plan b now (leaf_at b id)
asks b now ls m id l c holds found chose =
    let here : leaf_at b id ≡ Some l = ap (find_by leaf_id id) holds.0 ∙ found in
    decides b now [] id l c here
    ∙ ap (leaf_plan b now [] l) (chose ∙ ap (λ k. leaf_reached k l (leaf_due k l)) holds.1)
    ∙ sym (ap (leaf_due_plan b now) here)

pub asks_none : (b : Book) (now : ℕ) (ls : List Leaf) (m : Moment) (id : Numbers) → Holds b now ls m → find_by leaf_id id ls ≡ None → plain (still b []) ≡ leaf_due_plan b now (leaf_at b id)
asks_none b now ls m id holds found = sym (ap (leaf_due_plan b now) (ap (find_by leaf_id id) holds.0 ∙ found))
