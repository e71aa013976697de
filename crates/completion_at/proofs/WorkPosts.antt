-- What is sent for a Work is what the model sends.
use Rattle.std.proofs.Common.{ℕ, List, Some, ◌+◌, ◌≡◌, ◌∙◌, sym, subst, IfOk}
use Rattle.std.specs.Prelude.{Result}
use Rattle.at_base.specs.declared.event.Moment.{Moment}
use Rattle.at_base.specs.declared.message.Context.{Context}
use Rattle.at_base.specs.declared.message.Work.{Work}
use Rattle.at_base.specs.declared.notice.Kind.{Kind}
use Rattle.at_base.specs.declared.notice.Vote.{Vote}
use Rattle.at_model.specs.Activities.{on_ask}
use Rattle.at_model.specs.Book.{Activity}
use Rattle.at_model.specs.Moves.{Change, begin, post, stays}
use Rattle.by_id.specs.Unmoved.{turn_of}
use Rattle.by_id.specs.declared.fates.Turn.{Turn}
use Rattle.completion_at.specs.ActivityPlans.{nth_work}

abbrev worked : Moment → List ℕ → Activity → ℕ → Work → Change Activity
worked m url a n w = stays (post (nth_work m.base a n url w) (begin (record a { works = n })))

pub asked :
    {E : Type 0} (r : Result (Turn Activity (Unit {0})) E) (m : Moment) (url key value : List ℕ) (kind : Kind) (vote : Vote) (a : Activity)
    (context : Context) (n : ℕ) (w : Work) → a.context ≡ Some context → n ≡ a.works + 1
    → w ≡ record { context = context; key = key; value = value; kind = kind; vote = vote } → IfOk r (λ t. turn_of (Some a) t ≡ worked m url a n w)
    → IfOk r (λ t. turn_of (Some a) t ≡ on_ask m url kind vote key value a a.context)
unfolding on_ask nth_work
asked r m url key value kind vote a context n w e f g h =
    let sent : worked m url a n w ≡ on_ask m url kind vote key value a (Some context) = λ i. worked m url a (f i) (g i) in
    subst (λ z. IfOk r (λ t. turn_of (Some a) t ≡ z)) (sent ∙ (λ i. on_ask m url kind vote key value a (sym e i))) h
