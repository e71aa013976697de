-- Each step of a book does one deed at most to its transactions.
use Rattle.std.specs.Prelude.{ℕ, List, [], Option, Some, None, Bool, true, false, ◌≡◌, refl}
use Rattle.std.specs.List.{AllByRecursion}
use Rattle.std.proofs.Common.{sym, subst, ap, ◌∙◌}
use Rattle.at_base.specs.Numbers.{Numbers}
use Rattle.at_base.specs.declared.event.Event.{Event}
use Rattle.at_base.specs.declared.outs.Effect.{Effect}
use Rattle.at_base.specs.declared.outs.Effect.TheVariants as effects
use Rattle.at_base.specs.declared.outs.Out.{Out}
use Rattle.at_base.specs.declared.record.Record.{Record}
use Rattle.at_base.specs.declared.record.Record.TheVariants as records
use Rattle.at_base.specs.declared.target.Target.TheVariants as targets
use Rattle.at_model.specs.Arrivals.{with_answer}
use Rattle.at_model.specs.Book.{Book, Transaction, transaction_id}
use Rattle.at_model.specs.Moves.{Decision, Goes, Records}
use Rattle.at_model.specs.Posts.{accepted}
use Rattle.at_model.specs.Register.{on_register}
use Rattle.at_model.specs.Step.{Outcome, Plan, at_time, branch, make_activity, make_leaf, make_transaction, moment_of, plain, plan, plan_of, put_activity, put_leaf, put_transaction, registration_outcome, still, transaction_at}
use Rattle.model_laws.specs.PhaseAnswers.{IsInPhase}
use Rattle.model_laws.specs.Shapes.{IsAnswer, Shape, nothing_moves, time_moves, time_passes, transaction_moves, leaf_moves, activity_moves, transaction_registers, transaction_made, leaf_made, activity_made}
use Rattle.model_laws.proofs.DecisionLaws.{DecisionHas, all_more, found_id}
use Rattle.model_laws.proofs.DrawnItems.{leaf_moved_kept, activity_moved_kept}
use Rattle.model_laws.proofs.ItemIds.{HasBoth, IsOfLeaf, NamesLeaf, NoRecord}
use Rattle.model_laws.specs.Laws.{HasLeafId}
use Rattle.model_laws.proofs.StepShapes.{steps_touch_one}
use Rattle.model_laws.proofs.OtherEnds.{IsOther, Other, leaf_moved_other, activity_moved_other}
use Rattle.agreement.specs.Deeds.{Deed, Deeds}
use Rattle.agreement.specs.StepDeeds.{Done, IsNoRoot, IsOfNoTransaction, StepsDo, standing, did, undone, registered, made, elsewhere}
use Rattle.agreement.specs.FinishedTransactions.{AreFinished}
use Rattle.agreement.proofs.TransactionEvents.{transactions_do}

-- both branches of a plan
abbrev Does : Book → Event → ℕ → Bool → Plan → Type 0
Does b e now landed p = Done b e now (standing landed p.entry) (branch p landed)

plain_done : (b : Book) (e : Event) (now : ℕ) (landed : Bool) (o : Outcome) → Done b e now None o → Does b e now landed (plain o)
plain_done b e now true o h = h
plain_done b e now false o h = h

deeds_done : (b : Book) (e : Event) (now : ℕ) (landed : Bool) (t : Transaction) (answer : List Out) (d : Decision Transaction) → transaction_at b t.id ≡ Some t → IsAnswer answer
    → Deeds (Deed e t) d → Does b e now landed (plan_of b (put_transaction t.id (at_time now b)) answer d)
deeds_done b e now landed t answer (Goes c) s o h = plain_done b e now landed _ (did t c answer s h o refl refl refl)
deeds_done b e now true t answer (Records r c None) s o h = did t c answer s h o refl refl refl
deeds_done b e now false t answer (Records r c None) s o h = undone answer o refl refl
deeds_done b e now true t answer (Records r c (Some d)) s o (h, k) = did t c answer s h o refl refl refl
deeds_done b e now false t answer (Records r c (Some d)) s o (h, k) = did t d answer s k o refl refl refl

-- leaves and activities
no_end : (es : List Effect) → AllByRecursion IsOther es → AllByRecursion IsNoRoot es
no_end es h = all_more IsOther IsNoRoot es one h
  where
    one : (x : Effect) → IsOther x → IsNoRoot x
    one (effects.Root id what) h = h
    one other h = tt

others_done : {A : Type 0} (P : Option A → Type 0) (Q : Record → Option A → Type 0) (b : Book) (e : Event) (now : ℕ) (landed : Bool) (put : Option A → Book) (answer : List Out) (d : Decision A)
    → ((x : Option A) → (put x).transactions ≡ b.transactions) → ((r : Record) (x : Option A) → Q r x → IsOfNoTransaction (Some r)) → DecisionHas P Q d → Other d
    → Does b e now landed (plan_of b put answer d)
others_done P Q b e now landed put answer (Goes c) f g h k = plain_done b e now landed _ (elsewhere tt (f c.item) (no_end c.effects k))
others_done P Q b e now true put answer (Records r c absent) f g h k = elsewhere (g r c.item h.entry) (f c.item) (no_end c.effects k.landed)
others_done P Q b e now false put answer (Records r c None) f g h k = elsewhere tt refl tt
others_done P Q b e now false put answer (Records r c (Some d)) f g h k = elsewhere tt (f d.item) (no_end d.effects k.otherwise)

of_leaf : (id : Numbers) (r : Record) → IsOfLeaf id r → IsOfNoTransaction (Some r)
of_leaf id (records.LeafPrepared i coordinator key value) h = tt
of_leaf id (records.LeafCommitted i) h = tt
of_leaf id (records.LeafAborted i) h = tt
of_leaf id other h = absurd h

itself_at : (b : Book) (id : Numbers) (t : Transaction) → transaction_at b id ≡ Some t → transaction_at b t.id ≡ Some t
itself_at b id t stands = subst (λ i. transaction_at b i ≡ Some t) (sym (found_id transaction_id id b.transactions t stands)) stands

shape_done : (b : Book) (e : Event) (now : ℕ) (landed : Bool) (p : Plan) → IsInPhase b → AreFinished b → Shape b e now p → Does b e now landed p
shape_done b e now landed p l h (nothing_moves f) = subst (Does b e now landed) (sym f) (plain_done b e now landed (still b []) (elsewhere tt refl tt))
shape_done b e now landed p l h (time_moves a os came why o f) = subst (Does b e now landed) (sym f) (plain_done b e now landed (still (at_time now b) os) (elsewhere tt refl tt))
shape_done b e now landed p l h (time_passes came f) = subst (Does b e now landed) (sym f) (plain_done b e now landed (still (at_time now b) accepted) (elsewhere tt refl tt))
shape_done b e now landed p l h (transaction_moves id t answer d stands how o f) =
    subst (Does b e now landed) (sym f)
    (deeds_done b e now landed t answer (with_answer (moment_of b now) t d) (itself_at b id t stands) o (transactions_do.deeds b e now id t d l h stands how))
shape_done b e now landed p l h (leaf_moves id x answer d stands how o f) =
    subst (Does b e now landed) (sym f)
    (others_done (HasLeafId x.id) (NamesLeaf x.id) b e now landed (put_leaf x.id (at_time now b)) answer d (λ y. refl) (λ r y k. of_leaf x.id r k) (leaf_moved_kept b e now x d how)
    (leaf_moved_other b e now x d how))
shape_done b e now landed p l h (activity_moves id x answer d stands how o f) =
    subst (Does b e now landed) (sym f)
    (others_done (HasBoth x) NoRecord b e now landed (put_activity x.id (at_time now b)) answer d (λ y. refl) (λ r y k. absurd k) (activity_moved_kept b e now x d how)
    (activity_moved_other b e now x d how))
shape_done b e now landed p l h (transaction_registers id a r t stands came at says o f) =
    subst (Does b e now landed) (sym f)
    (plain_done b e now landed (registration_outcome b now (on_register (moment_of b now) a r t))
    (registered t a r (itself_at b id t stands) came (at ∙ ap (λ x. targets.Registration x) (sym (found_id transaction_id id b.transactions t stands))) says refl refl))
shape_done b e now landed p l h (transaction_made a c id t os came at says next born sent o f) =
    subst (Does b e now landed) (sym f)
    (plain_done b e now landed (still (make_transaction (at_time now b) t) os) (made t a c id came at says next born refl refl sent refl))
shape_done b e now landed p l h (leaf_made a w id x os came at says next born sent o f) =
    subst (Does b e now landed) (sym f) (plain_done b e now landed (still (make_leaf (at_time now b) x) os) (elsewhere tt refl tt))
shape_done b e now landed p l h (activity_made id a os next born o f) =
    subst (Does b e now landed) (sym f) (plain_done b e now landed (still (make_activity (at_time now b) a) os) (elsewhere tt refl tt))

pub steps_do : StepsDo
steps_do = record { steps = λ b e now landed l h. shape_done b e now landed (plan b e now) l h (steps_touch_one b e now) }
