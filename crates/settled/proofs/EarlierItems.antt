-- Where a step makes nothing, each item behind it stood before it.
use Rattle.std.specs.Prelude.{List, Option, Some, None, true, is_none, ◌≡◌, refl}
use Rattle.std.specs.List.{AllByRecursion}
use Rattle.std.proofs.Common.{sym, subst, ap, ◌∙◌}
use Rattle.at_base.specs.declared.event.Arrived.{Arrived}
use Rattle.at_base.specs.declared.event.Event.{Event}
use Rattle.at_base.specs.declared.event.Event.TheVariants as events
use Rattle.at_base.specs.declared.event.Moment.{Moment}
use Rattle.at_base.specs.declared.message.Message.{Message}
use Rattle.at_base.specs.declared.message.Message.TheVariants as messages
use Rattle.at_base.specs.declared.message.Register.{Register}
use Rattle.at_base.specs.declared.outs.Post.{Post}
use Rattle.at_base.specs.declared.record.Record.{Record}
use Rattle.at_model.specs.Book.{Book, Leaf, Transaction, leaf_id, transaction_id}
use Rattle.at_model.specs.Moves.{Change}
use Rattle.at_model.specs.Register.{Registration}
use Rattle.at_model.specs.Step.{leaf_at, moment_of, plan, step, transaction_at}
use Rattle.at_model.specs.World.{Posted, World, Hosts}
use Rattle.model_laws.proofs.DecisionLaws.{IfThere, all_find, all_more}
use Rattle.agreement.specs.Deeds.{IsSameIfLeft}
use Rattle.agreement.specs.StepDeeds.{standing}
use Rattle.agreement.specs.LeafDeeds.{LeafDeed, LeafIdles, aborts, commits, dropped, idles, leaves, prepares, registered, registers_again, rests, rolls_back, votes_again}
use Rattle.agreement.proofs.SeatedBooks.{finds_each}
use Rattle.enlistments.specs.Registrations.{Enrolls, has_completion, has_seat, refuses, takes_completion, takes_seat}
use Rattle.enlistments.specs.Moves.{IsReady}
use Rattle.enlistments.proofs.StepItems.{leaves_after, transactions_after}
use Rattle.enlistments.proofs.Answers.{keeps_id}
use Rattle.enlistments.proofs.StepMoves.{step_moves}
use Rattle.settling.specs.Payments.{MakesNothing}
use Rattle.settled.specs.CalmSteps.{Goes, MakesNone}
use Rattle.settled.proofs.CalmSteps.{book_after, ready}

pub record TransactionStood (b : Book) (t : Transaction) : Type 0 where
  pub old : Transaction
  pub found : transaction_at b t.id ≡ Some old
  pub root : is_none t.superior ≡ is_none old.superior

pub record LeafStood (b : Book) (l : Leaf) : Type 0 where
  pub old : Leaf
  pub found : leaf_at b l.id ≡ Some old
  pub kind : l.kind ≡ old.kind

not_made : (e : Event) (a : Arrived) (m : Message) → MakesNone e → e ≡ events.Arrived a → a.message ≡ m → MakesNothing m
not_made e a m h came says = subst MakesNothing says (subst MakesNone came h)

left_stood : (b : Book) (old : Transaction) (item : Option Transaction) → transaction_at b old.id ≡ Some old → IsSameIfLeft old item → IfThere (TransactionStood b) item
left_stood b old None found h = tt
left_stood b old (Some t) found h = record { old = old; found = ap (transaction_at b) h.id ∙ found; root = h.root }

enrolled_root : (m : Moment) (a : Arrived) (r : Register) (t : Transaction) (g : Registration) → Enrolls m a r t g → is_none g.transaction.superior ≡ is_none t.superior
enrolled_root m a r t g (takes_seat kind p may is) = ap (λ (x : Registration). is_none x.transaction.superior) is
enrolled_root m a r t g (takes_completion p may is) = ap (λ (x : Registration). is_none x.transaction.superior) is
enrolled_root m a r t g (has_seat kind s p i k f is) = ap (λ (x : Registration). is_none x.transaction.superior) is
enrolled_root m a r t g (has_completion c p there f is) = ap (λ (x : Registration). is_none x.transaction.superior) is
enrolled_root m a r t g (refuses name is) = ap (λ (x : Registration). is_none x.transaction.superior) is

transactions_stood : (hosts : Hosts) (u v : World) (before after : List Posted) → (g : Goes hosts u v before after) → AllByRecursion (TransactionStood g.book) (book_after g).transactions
transactions_stood hosts u v before after g =
    let r : IsReady g.book = ready hosts u v before after g in
    transactions_after (TransactionStood g.book) g.book g.event g.now (standing true (plan g.book g.event g.now).entry) (step g.book g.event g.now true) (step_moves g.book g.event g.now true r)
    (all_more (λ t. transaction_at g.book t.id ≡ Some t) (TransactionStood g.book) g.book.transactions (λ t here. record { old = t; found = here; root = refl })
    (finds_each transaction_id g.book.transactions r.order.rising.transactions))
    (λ d. left_stood g.book d.old d.change.item d.found d.deed.same)
    (λ d. record {
      old = d.old;
      found = ap (transaction_at g.book) (keeps_id (moment_of g.book g.now) d.arrived d.request d.old d.gives d.enrolls) ∙ d.found;
      root = enrolled_root (moment_of g.book g.now) d.arrived d.request d.old d.gives d.enrolls;
    })
    (λ d. absurd (not_made g.event d.arrived (messages.Create d.request) g.makes d.came d.says))

pub transaction_stood : (hosts : Hosts) (u v : World) (before after : List Posted) → (g : Goes hosts u v before after) → (t : Transaction) → transaction_at (book_after g) t.id ≡ Some t
    → TransactionStood g.book t
transaction_stood hosts u v before after g t found =
    all_find (TransactionStood g.book) transaction_id t.id (book_after g).transactions t (transactions_stood hosts u v before after g) found

idle_like : (m : Moment) (e : Event) (l left : Leaf) (ps : List Post) → LeafIdles m e l left ps → (left.id ≡ l.id) × (left.kind ≡ l.kind)
idle_like m e l left ps (rests is sent) = (ap (λ (x : Leaf). x.id) is, ap (λ (x : Leaf). x.kind) is)
idle_like m e l left ps (registered c r came answers state request is sent) = (ap (λ (x : Leaf). x.id) is, ap (λ (x : Leaf). x.kind) is)
idle_like m e l left ps (registers_again r due state request is sent) = (ap (λ (x : Leaf). x.id) is, ap (λ (x : Leaf). x.kind) is)
idle_like m e l left ps (votes_again to why state knows is sent) = (ap (λ (x : Leaf). x.id) is, ap (λ (x : Leaf). x.kind) is)

gone : (b : Book) (o : Option Leaf) → o ≡ None → IfThere (LeafStood b) o
gone b o e = subst (IfThere (LeafStood b)) (sym e) tt

deed_stood : (b : Book) (m : Moment) (e : Event) (l : Leaf) (entry : Option Record) (c : Change Leaf) → leaf_at b l.id ≡ Some l → LeafDeed m e l entry c → IfThere (LeafStood b) c.item
deed_stood b m e l entry c found (idles left why none item effects) =
    let (id, kind) = idle_like m e l left c.posts why in
    subst (IfThere (LeafStood b)) (sym item) (record { old = l; found = ap (leaf_at b) id ∙ found; kind = kind })
deed_stood b m e l entry c found (aborts state why none item effects) = gone b c.item item
deed_stood b m e l entry c found (prepares to came state vote knows is item effects sent) = subst (IfThere (LeafStood b)) (sym item) (record { old = l; found = found; kind = refl })
deed_stood b m e l entry c found (leaves to came state vote knows none item effects sent) = gone b c.item item
deed_stood b m e l entry c found (dropped came kind none item effects sent) = gone b c.item item
deed_stood b m e l entry c found (commits to came state knows is item effects sent) = gone b c.item item
deed_stood b m e l entry c found (rolls_back to came state knows is item effects sent) = gone b c.item item

leaves_stood : (hosts : Hosts) (u v : World) (before after : List Posted) → (g : Goes hosts u v before after) → AllByRecursion (LeafStood g.book) (book_after g).leaves
leaves_stood hosts u v before after g =
    let r : IsReady g.book = ready hosts u v before after g in
    leaves_after (LeafStood g.book) g.book g.event g.now (standing true (plan g.book g.event g.now).entry) (step g.book g.event g.now true) (step_moves g.book g.event g.now true r)
    (all_more (λ l. leaf_at g.book l.id ≡ Some l) (LeafStood g.book) g.book.leaves (λ l here. record { old = l; found = here; kind = refl })
    (finds_each leaf_id g.book.leaves r.order.rising.leaves))
    (λ d. deed_stood g.book (moment_of g.book g.now) g.event d.old _ d.change d.found d.deed)
    (λ d. absurd (not_made g.event d.arrived (messages.Work d.request) g.makes d.came d.says))

pub leaf_stood : (hosts : Hosts) (u v : World) (before after : List Posted) → (g : Goes hosts u v before after) → (l : Leaf) → leaf_at (book_after g) l.id ≡ Some l → LeafStood g.book l
leaf_stood hosts u v before after g l found = all_find (LeafStood g.book) leaf_id l.id (book_after g).leaves l (leaves_stood hosts u v before after g) found
