-- A step of a node is the model's.
use Rattle.std.proofs.Common.{ℕ, List, ◌++◌, ◌≡◌, inl, inr, Bool, true, false, Option, Some, None, sym, ◌∙◌, ap, subst}
use Rattle.at_base.specs.WellFormed.{IsWellFormed}
use Rattle.at_base.specs.declared.event.Event.{Event}
use Rattle.at_base.specs.declared.record.Record.{Record}
use Rattle.at_model.specs.Book.{Book}
use Rattle.at_model.specs.Step.{plan, step}
use Rattle.interposition.specs.declared.plan.Plan.{Plan}
use Rattle.interposition.specs.PlanResults.{done, recorded, sent}
use Rattle.interposition.specs.ModelSteps.{IsStep, KeepsBounds}
use Rattle.model_laws.specs.BookBounds.{IsSound, IsSoundEvent}
use Rattle.site_model.specs.Told.{Told}
use Rattle.node_at.specs.declared.step.Stepped.{Stepped}
use Rattle.node_at.specs.declared.step.Stepped.TheVariants as ends
use Rattle.node_at.specs.State.{State}
use Rattle.node_at.specs.Steps.{Acts, IsDone, Steps, Went, status_in}
use Rattle.node_at.specs.Sends.{Sends, given}
use Rattle.node_at.specs.Texts.{AreLeaving, Leaving}
use Rattle.node_at.proofs.StepRecords.{went_plain}

module _ (m : State) (e : Event) (now : ℕ) (old new : Told) where
  module _ (n : State) (p : Plan) (is : IsStep p n.book e now) where
    went_as : (entry : Option Record) (landed : Bool) (leaving : List Leaving) → recorded p ≡ entry
        → Went entry landed (done p landed n.book) (sent p landed).effects leaving n m old new
        → Went (plan n.book e now).entry landed (step n.book e now landed).book (step n.book e now landed).effects leaving n m old new
    went_as entry landed leaving h w =
        subst (λ z. Went z landed (step n.book e now landed).book (step n.book e now landed).effects leaving n m old new) (sym h ∙ is.entry)
        (subst (λ z. Went entry landed z (step n.book e now landed).effects leaving n m old new) (is.book landed)
        (subst (λ z. Went entry landed (done p landed n.book) z leaving n m old new) (is.effects landed) w))

    is_done : (status : ℕ) (entry : Option Record) (landed : Bool) (leaving : List Leaving) → recorded p ≡ entry → AreLeaving (sent p landed).outs leaving
        → Went entry landed (done p landed n.book) (sent p landed).effects leaving n m old new → status ≡ status_in (sent p landed).outs → IsDone status n m e now old new
    is_done status entry landed leaving h k w answers =
        record {
          landed = landed;
          leaving = leaving;
          are = subst (λ z. AreLeaving z leaving) (is.outs landed) k;
          went = went_as entry landed leaving h w;
          answers = answers ∙ ap status_in (is.outs landed);
        }

  pub plain_exit : (n k : State) (p : Plan) (leaving : List Leaving) → k ≡ n → IsStep p n.book e now → recorded p ≡ None → AreLeaving (sent p true).outs leaving
      → Sends (given None k.kept) k.kept.done leaving old new → n.journal.unsure ≡ false → n.halted ≡ false
      → m ≡ record k { book = done p true k.book; effects = k.effects ++ (sent p true).effects }
      → (status : ℕ) → status ≡ status_in (sent p true).outs → Steps (ends.Done status) n m e now old new
  plain_exit n k p leaving ne is h are sends sure runs me status answers =
      is_done n p is status None true leaving h are
      (subst (λ (z : State). Went None true (done p true z.book) (sent p true).effects leaving z m old new) ne
      (went_plain k m (done p true k.book) (sent p true).effects leaving old new sends (ap (λ (z : State). z.journal.unsure) ne ∙ sure) (ap (λ (z : State). z.halted) ne ∙ runs) me)) answers

  pub recorded_steps : (result : Stepped) (n : State) (p : Plan) (r : Record) (landed absent : List Leaving) → IsStep p n.book e now → recorded p ≡ Some r
      → AreLeaving (sent p true).outs landed → AreLeaving (sent p false).outs absent → Acts result p r landed absent n m old new → Steps result n m e now old new
  recorded_steps (ends.Done status) n p r landed absent is h k l (inl w) = is_done n p is status (Some r) true landed h k w.0 w.1
  recorded_steps (ends.Done status) n p r landed absent is h k l (inr w) = is_done n p is status (Some r) false absent h l w.0 w.1
  recorded_steps ends.NoRoom n p r landed absent is h k l w = w
  recorded_steps ends.Halted n p r landed absent is h k l w =
      record { entry = r; is = sym is.entry ∙ h; leaving = landed; are = subst (λ z. AreLeaving z landed) (is.outs true) k; stopped = w }

-- the book stays within its bounds
module _ (bounds : KeepsBounds) (m n k : State) (p : Plan) (e : Event) (now : ℕ) (is : IsStep p n.book e now) (sound : IsSound n.book) (event : IsSoundEvent e) (same : k ≡ n) where
  sound_as : (landed : Bool) → m.book ≡ done p landed k.book → IsSound m.book
  sound_as landed f = subst IsSound (sym (f ∙ ap (λ (z : State). done p landed z.book) same)) (bounds.book p n.book e now landed is sound event)

  sound_still : m.book ≡ k.book → IsSound m.book
  sound_still f = subst IsSound (sym (f ∙ ap (λ (z : State). z.book) same)) sound

  pub sound_plain : m ≡ record k { book = done p true k.book; effects = k.effects ++ (sent p true).effects } → IsSound m.book
  sound_plain f = sound_as true (ap (λ (z : State). z.book) f)

  pub sound_recorded : (result : Stepped) (r : Record) (landed absent : List Leaving) (old new : Told) → Acts result p r landed absent k m old new → IsSound m.book
  sound_recorded (ends.Done status) r landed absent old new (inl w) = sound_as true w.0.book
  sound_recorded (ends.Done status) r landed absent old new (inr w) = sound_as false w.0.book
  sound_recorded ends.NoRoom r landed absent old new w = sound_still (ap (λ (z : State). z.book) w)
  sound_recorded ends.Halted r landed absent old new w = sound_still (ap (λ (z : State). z.book) w.same)

pub formed : (bounds : KeepsBounds) (b : Book) (e : Event) (now : ℕ) (p : Plan) (r : Record) → IsSound b → IsSoundEvent e → IsStep p b e now → recorded p ≡ Some r → IsWellFormed r
formed bounds b e now p r h k is f = bounds.entry p b e now r is h k f
