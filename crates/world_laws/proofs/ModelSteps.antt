-- Doing what an event plans is the model's step of it.
use Rattle.std.proofs.Common.{ℕ, ◌≡◌, Bool, true, false, Option, Some, None, ap, subst, sym, ◌∙◌, refl}
use Rattle.std.specs.Prelude.{is_some}
use Rattle.at_base.specs.declared.event.Event.{Event}
use Rattle.at_base.specs.declared.outs.Outs.{Outs}
use Rattle.at_model.specs.Book.{Book}
use Rattle.at_model.specs.Step.{Plan, plan, step}
use Rattle.model_laws.specs.Order.{IdsRise, IsInOrder}
use Rattle.interposition.specs.declared.plan.Plan.{Plan as Planned}
use Rattle.interposition.specs.PlanResults.{done, recorded as entry_in, sent}
use Rattle.interposition.specs.ModelSteps.{IsStep}
use Rattle.world_laws.specs.Firsts.{has_record}
use Rattle.world_laws.specs.Walks.{Walk, branch, counted_by, done_by, counted, given, is_over, outs_of, recorded, stepped}
use Rattle.world_laws.proofs.Orders.{plan_order, stepped_order}

same_outs : (a b : Outs) → a.outs ≡ b.outs → a.effects ≡ b.effects → a ≡ b
same_outs a b h k = λ i. record { outs = h i; effects = k i }

module _ (p : Planned) (b : Book) (e : Event) (now : ℕ) (is : IsStep p b e now) where
  took_outs : (landed : Bool) → sent p landed ≡ outs_of (step b e now landed)
  took_outs landed = same_outs (sent p landed) (outs_of (step b e now landed)) (is.outs landed) (is.effects landed)

  took_by : (way : Option Bool) (w : Walk) → w.book ≡ b → done_by way p w ≡ counted_by way (plan b e now) w
  took_by None w h = refl
  took_by (Some true) w h = λ i. given ((ap (done p true) h ∙ is.book true) i) (took_outs true i) w
  took_by (Some false) w h = λ i. given ((ap (done p false) h ∙ is.book false) i) (took_outs false i) w

  pub has_so : is_some (entry_in p) ≡ has_record (plan b e now)
  has_so = ap is_some is.entry

kept_book : (b : Book) (w : Walk) → w.book ≡ b → (p : Plan) → (recorded p.entry w).book ≡ b
kept_book b w h p = by_entry p.entry
  where
    by_entry : (entry : Option _) → (recorded entry w).book ≡ b
    by_entry None = h
    by_entry (Some entry) = h

-- behind the stop there is none
pub took_none : (w : Walk) (p : Plan) → is_over w.luck ≡ true → w ≡ stepped p w
took_none w p over = sym (rw over refl)

pub took_step : (p : Planned) (w v : Walk) (e : Event) (now : ℕ) → IsStep p w.book e now → is_over w.luck ≡ false → v ≡ done_by (branch (entry_in p) w.luck) p (recorded (entry_in p) w)
    → v ≡ stepped (plan w.book e now) w
took_step p w v e now is goes h =
    h
    ∙ (λ i. done_by (branch (is.entry i) w.luck) p (recorded (is.entry i) w))
    ∙ took_by p w.book e now is (branch (plan w.book e now).entry w.luck) (recorded (plan w.book e now).entry w) (kept_book w.book w refl (plan w.book e now))
    ∙ sym (rw goes refl)

pub took_order : IdsRise → (w v : Walk) (e : Event) (now : ℕ) → IsInOrder w.book → v ≡ stepped (plan w.book e now) w → IsInOrder v.book
took_order ids w v e now order h = subst (λ x. IsInOrder x.book) (sym h) (stepped_order (plan w.book e now) w (plan_order ids w.book e now order) order)

pub took_item : (p : Planned) (w v : Walk) (e : Event) (now : ℕ) → IsStep p w.book e now → v ≡ given (done p true w.book) (sent p true) w → v ≡ counted (step w.book e now true) w
took_item p w v e now is h = h ∙ (λ i. given (is.book true i) (took_outs p w.book e now is true i) w)
