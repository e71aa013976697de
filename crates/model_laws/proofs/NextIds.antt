-- What is made has the next id, which is none that was drawn.
use Rattle.std.specs.Prelude.{ℕ, Option, Some, None, Bool, true, false, ◌≡◌, refl, if◌then◌else◌, ◌+◌, nat_lt, ◌&&◌, bytes_eq}
use Rattle.std.proofs.Common.{inl, inr, ap, sym, arith}
use Rattle.at_base.specs.declared.limits.TheConstants.{MOST_ITEMS}
use Rattle.at_base.specs.Numbers.{Numbers}
use Rattle.at_base.specs.declared.epr.Reply.{Reply}
use Rattle.at_base.specs.declared.epr.Reply.TheVariants as replies
use Rattle.at_base.specs.declared.event.Moment.{Moment}
use Rattle.at_base.specs.declared.event.Arrived.{Arrived}
use Rattle.at_base.specs.declared.message.Create.{Create}
use Rattle.at_base.specs.declared.message.Work.{Work}
use Rattle.at_base.specs.declared.message.Context.{Context}
use Rattle.at_model.specs.Book.{Book, next_id, last_counter}
use Rattle.endpoints.specs.Addresses.{atomic}
use Rattle.at_model.specs.Create.{Creation, on_create, create_in, create_under, refuse_create}
use Rattle.at_model.specs.Leaves.{Employment, on_work, work_for, refuse_work}
use Rattle.at_model.specs.Activities.{on_begin, on_interpose}
use Rattle.model_laws.specs.Laws.{IsDrawn, HasId, HasLeafId, MakesUnderTheNextId}

next_fields : (test : Bool) (n id : Numbers) → (if test then Some n else None) ≡ Some id → n ≡ id
next_fields true n id e = cc
next_fields false n id e = absurd cc

apart : (b : Book) (id : Numbers) → b.incarnation ≡ id.incarnation → b.counter + 1 ≡ id.counter → IsDrawn b id → ⊥
apart b id e f (inl h) = omega (arith, e, f, h)
apart b id e f (inr (h, k)) = omega (arith, e, f, h, k)

-- the numbers of the next id
pub next_numbers : (b : Book) (id : Numbers) → next_id b ≡ Some id → (id.incarnation ≡ b.incarnation) × (id.counter ≡ b.counter + 1)
next_numbers b id e =
    let n : Numbers = record { incarnation = b.incarnation; counter = b.counter + 1 } in
    let same : n ≡ id = next_fields (nat_lt b.counter last_counter) n id e in
    (ap (λ x. x.incarnation) (sym same), ap (λ x. x.counter) (sym same))

next_is_new : (b : Book) (id : Numbers) → next_id b ≡ Some id → IsDrawn b id → ⊥
next_is_new b id e h = let (i, c) = next_numbers b id e in apart b id (sym i) (sym c) h

either : (id : Numbers) (b : Bool) (x y : Creation) → HasId id x.transaction → HasId id y.transaction → HasId id (if b then x else y).transaction
either id true x y h k = h
either id false x y h k = k

under : (m : Moment) (id : Numbers) (a : Arrived) (c : Create) (current : Context) (r : Reply) → HasId id (create_under m id a c current r).transaction
unfolding create_under
under m id a c current (replies.At reply) = refl
under m id a c current replies.Anonymous = tt
under m id a c current replies.Nobody = tt

created : (m : Moment) (id : Numbers) (a : Arrived) (c : Create) (current : Option Context) → HasId id (create_in m id a c current).transaction
unfolding create_in
created m id a c None = refl
created m id a c (Some current) = under m id a c current a.reply

transaction_made : (m : Moment) (live : ℕ) (a : Arrived) (c : Create) (id : Numbers) → HasId id (on_create m live a c (Some id)).transaction
unfolding on_create
transaction_made m live a c id =
    either id (bytes_eq c.coordination atomic && nat_lt live MOST_ITEMS) (create_in m id a c c.current) (refuse_create a) (created m id a c c.current) tt

either_leaf : (id : Numbers) (b : Bool) (x y : Employment) → HasLeafId id x.leaf → HasLeafId id y.leaf → HasLeafId id (if b then x else y).leaf
either_leaf id true x y h k = h
either_leaf id false x y h k = k

employed : (m : Moment) (id : Numbers) (a : Arrived) (w : Work) (r : Reply) → HasLeafId id (work_for m id a w r).leaf
employed m id a w (replies.At reply) = refl
employed m id a w replies.Anonymous = tt
employed m id a w replies.Nobody = tt

leaf_made : (m : Moment) (live : ℕ) (a : Arrived) (w : Work) (id : Numbers) → HasLeafId id (on_work m live a w (Some id)).leaf
unfolding on_work
leaf_made m live a w id = either_leaf id (nat_lt live MOST_ITEMS) (work_for m id a w a.reply) (refuse_work a) (employed m id a w a.reply) tt

pub makes_under_the_next_id : MakesUnderTheNextId
unfolding on_begin on_interpose on_create on_work
makes_under_the_next_id = record {
  next = next_is_new;
  transaction = transaction_made;
  leaf = leaf_made;
  begun = λ m id coordinator ms. refl;
  interposed = λ m id coordinator root context. refl;
  none = λ m live a c w. (refl, refl);
}
