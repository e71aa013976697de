-- In every reached world a completion seat in Done is that of a transaction that commits.
use Rattle.at_base.specs.Numbers.{Numbers}
use Rattle.at_base.specs.declared.epr.Epr.{Epr}
use Rattle.at_base.specs.declared.event.Event.{Event}
use Rattle.at_base.specs.declared.record.Record.{Record}
use Rattle.at_base.specs.declared.record.Seated.{Seated}
use Rattle.at_model.specs.Arrivals.{with_answer}
use Rattle.at_model.specs.Book.{Book, Completion, Phase, Transaction, transaction_id}
use Rattle.at_model.specs.Posts.{accepted}
use Rattle.at_model.specs.Recovery.{is_sub_committed, live, recover, recovered_voted, transactions_of}
use Rattle.at_model.specs.Register.{on_register}
use Rattle.at_model.specs.Step.{Outcome, Plan, at_time, make_activity, make_leaf, make_transaction, moment_of, plan, put_activity, put_leaf, put_transaction, registration_outcome, step, still}
use Rattle.at_model.specs.World.{Node, nth, Hosts}
use Rattle.model_laws.proofs.DecisionLaws.{Both, IfThere, all_find, all_join, all_put, decided_both, decision_both, in_branch, plain_both}
use Rattle.model_laws.proofs.LinkDecisions.{Linked}
use Rattle.model_laws.proofs.DrawnIds.{all_in_order}
use Rattle.model_laws.proofs.ReachedWorlds.{NodeLaw, nodes_hold}
use Rattle.model_laws.proofs.StepShapes.{steps_touch_one}
use Rattle.model_laws.proofs.PhaseAnswers.{decides_behind_every_answer}
use Rattle.model_laws.specs.PhaseAnswers.{IsInPhase}
use Rattle.model_laws.specs.DrawnIds.{restarted}
use Rattle.model_laws.specs.Shapes.{Shape, activity_made, activity_moves, leaf_made, leaf_moves, nothing_moves, time_moves, time_passes, transaction_made, transaction_moves, transaction_registers}
use Rattle.std.proofs.Common.{inl, inr, subst, sym}
use Rattle.std.specs.List.{AllByRecursion, list_any}
use Rattle.std.specs.Prelude.{Bool, List, None, Some, [], false, length, refl, true, ℕ, ◌∷◌, ◌≡◌}
use Rattle.at_base.specs.declared.record.Record.TheVariants as records
use Rattle.at_tables.specs.declared.cells.State.TheVariants as states
use Rattle.at_model.specs.World.{World}
use Rattle.model_laws.specs.ReachedWorlds.{Reached as Reaches}
use Rattle.outcomes.proofs.Foundations.{AllDoneCommit}
use Rattle.outcomes.proofs.DoneSeatRules.{Anything, Fits, created_sits, moved_sits, none_done, register_sits}

-- a step
AllFit : Outcome → Type 0
AllFit o = AllByRecursion Fits o.book.transactions

fit_both : (b : Book) (e : Event) (now : ℕ) (p : Plan) → IsInPhase b → AllByRecursion Fits b.transactions → Shape b e now p → Both AllFit p
unfolding AllFit
fit_both b e now p l h (nothing_moves f) = subst (Both AllFit) (sym f) (plain_both AllFit (still b []) h)
fit_both b e now p l h (time_moves a os came why o f) = subst (Both AllFit) (sym f) (plain_both AllFit (still (at_time now b) os) h)
fit_both b e now p l h (time_passes came f) = subst (Both AllFit) (sym f) (plain_both AllFit (still (at_time now b) accepted) h)
fit_both b e now p l h (transaction_moves id t answer d stands how o f) =
    subst (Both AllFit) (sym f)
    (decided_both (IfThere Fits) Anything AllFit (λ r o i. i) b (put_transaction t.id (at_time now b)) answer (with_answer (moment_of b now) t d)
    (moved_sits b e now t d (all_find Linked transaction_id id b.transactions t l.links stands) (all_find Fits transaction_id id b.transactions t h stands) how)
    (λ c k. all_put Fits transaction_id t.id c.item b.transactions k h) h)
fit_both b e now p l h (leaf_moves id x answer d stands how o f) =
    subst (Both AllFit) (sym f) (decision_both AllFit (λ r o i. i) b (put_leaf x.id (at_time now b)) answer d (λ c. h) h)
fit_both b e now p l h (activity_moves id a answer d stands how o f) =
    subst (Both AllFit) (sym f) (decision_both AllFit (λ r o i. i) b (put_activity a.id (at_time now b)) answer d (λ c. h) h)
fit_both b e now p l h (transaction_registers id a r t stands came at says o f) =
    subst (Both AllFit) (sym f)
    (plain_both AllFit (registration_outcome b now (on_register (moment_of b now) a r t))
    (all_put Fits transaction_id (on_register (moment_of b now) a r t).transaction.id (Some (on_register (moment_of b now) a r t).transaction) b.transactions
    (register_sits (moment_of b now) a r t (all_find Fits transaction_id id b.transactions t h stands)) h))
fit_both b e now p l h (transaction_made a c id t os came at says next made sent o f) =
    subst (Both AllFit) (sym f)
    (plain_both AllFit (still (make_transaction (at_time now b) t) os)
    (all_join Fits b.transactions (t ∷ []) h (created_sits (moment_of b now) (length b.transactions) a c id t made, tt)))
fit_both b e now p l h (leaf_made a w id x os came at says next made sent o f) = subst (Both AllFit) (sym f) (plain_both AllFit (still (make_leaf (at_time now b) x) os) h)
fit_both b e now p l h (activity_made id a os next made o f) = subst (Both AllFit) (sym f) (plain_both AllFit (still (make_activity (at_time now b) a) os) h)

step_fits : (b : Book) (e : Event) (now : ℕ) (landed : Bool) → IsInPhase b → AllByRecursion Fits b.transactions → AllByRecursion Fits (step b e now landed).book.transactions
unfolding AllFit
step_fits b e now landed l h = in_branch AllFit (plan b e now) landed (fit_both b e now (plan b e now) l h (steps_touch_one b e now))

-- recovery: nobody waits for a completion
voted_fits : (id : Numbers) (superior : Epr) (seats : List Seated) (committed : Bool) → Fits (recovered_voted id superior seats committed)
voted_fits id superior seats true = inl refl
voted_fits id superior seats false = inr (none_done None refl)

records_fit : (base : List ℕ) (rs : List Record) → AllByRecursion Fits (transactions_of base rs)
records_fit base [] = tt
records_fit base (records.Voted id superior seats ∷ rest) = (voted_fits id superior seats (list_any (is_sub_committed id) rest), records_fit base rest)
records_fit base (records.Decided id seats ∷ rest) = (inl refl, records_fit base rest)
records_fit base (records.Start incarnation ∷ rest) = records_fit base rest
records_fit base (records.LeafPrepared id coordinator key value ∷ rest) = records_fit base rest
records_fit base (records.LeafCommitted id ∷ rest) = records_fit base rest
records_fit base (records.LeafAborted id ∷ rest) = records_fit base rest
records_fit base (records.SubCommitted id ∷ rest) = records_fit base rest
records_fit base (records.Ended id ∷ rest) = records_fit base rest
records_fit base (records.Done id ∷ rest) = records_fit base rest

recovered_fits : (base : List ℕ) (rs : List Record) → AllByRecursion Fits (recover base rs).transactions
recovered_fits base rs = all_in_order Fits transaction_id (transactions_of base (live rs)) (records_fit base (live rs))

-- every reached book
record IsGood (b : Book) : Type 0 where
  phases : IsInPhase b
  fits : AllByRecursion Fits b.transactions

fitting : NodeLaw
fitting = record {
  Good = λ rs o. IfThere IsGood o;
  opens = tt;
  steps = λ rs b e now landed h. record { phases = decides_behind_every_answer.book b e now landed h.phases; fits = step_fits b e now landed h.phases h.fits };
  falls = λ rs b h. tt;
  rises = λ base rs small h. record { phases = decides_behind_every_answer.recovered base (restarted rs); fits = recovered_fits base (restarted rs) };
}

book_fits : (hosts : Hosts) (w : World) → Reaches hosts w → (n : ℕ) (x : Node) (b : Book) → nth n w.nodes ≡ Some x → x.book ≡ Some b → AllByRecursion Fits b.transactions
unfolding fitting
book_fits hosts w reached n x b found up = (subst (IfThere IsGood) up (nodes_hold fitting hosts w reached n x found)).fits

commits_if : (t : Transaction) (c : Completion) → Fits t → t.completion ≡ Some c → c.state ≡ states.Done → t.phase ≡ Phase.Committing
commits_if t c (inl e) f d = e
commits_if t c (inr never) f d = absurd (never c f d)

-- a completion seat in Done is that of a root that commits
pub done_commits : AllDoneCommit
done_commits hosts w reached n x b found up t c there has is_done =
    commits_if t c (all_find Fits transaction_id t.id b.transactions t (book_fits hosts w reached n x b found up) there) has is_done
