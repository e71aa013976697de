-- The notifications of a step by their sense.
use Rattle.std.specs.Prelude.{ℕ, List, Option, ◌≡◌, refl}
use Rattle.std.proofs.Common.{inl, inr, sym, subst, ap, ◌∙◌}
use Rattle.at_base.specs.declared.notice.Kind.{Kind}
use Rattle.at_base.specs.declared.notice.Kind.TheVariants as kinds
use Rattle.at_base.specs.declared.notice.Notice.{Notice}
use Rattle.at_base.specs.declared.notice.Notice.TheVariants as notices
use Rattle.at_base.specs.declared.message.Message.TheVariants as messages
use Rattle.at_base.specs.declared.event.Event.{Event}
use Rattle.at_base.specs.declared.outs.Post.{Post}
use Rattle.at_base.specs.declared.record.Record.{Record}
use Rattle.at_model.specs.Book.{Book, Enlistment, Transaction}
use Rattle.at_model.specs.Posts.{notice_post}
use Rattle.at_model.specs.Activities.{activity_target}
use Rattle.at_model.specs.Step.{Outcome, moment_of}
use Rattle.agreement.specs.ActivityDeeds.{ActivitySays, completing, tells_nothing as activity_tells_nothing}
use Rattle.agreement.specs.Branches.{IsNoNotice}
use Rattle.agreement.specs.Deeds.{How, WhyInitiator, WhySeat, WhySuperior}
use Rattle.agreement.specs.LeafDeeds.{LeafSays, aborted, committed, leaf_notice_to, prepared, read_only, tells_nothing}
use Rattle.enlistments.specs.Moves.{ActivityDid, LeafDid}
use Rattle.enlistments.specs.Senses.{Ask, Asks, End, Sense, StepsSense, Vote, Votes, asks_completion, asks_late_seat, asks_left_seat, asks_no_seat, asks_seat, sense, votes_alone, votes_under}
use Rattle.enlistments.specs.NoticeOrigins.{AnswersAsNone, Tells, activity_says, as_committed, as_no_participant, as_no_seat, from_left_link, leaf_says, left_link_aborted, says_aborted, to_asking, to_initiator, to_late_seat, to_left_seat, to_seat, to_superior}
use Rattle.enlistments.proofs.StepNotices.{steps_tell}
use Rattle.enlistments.proofs.NoticeOrigins.{same_notice}

abbrev SaidAs : Book → Event → ℕ → Option Record → Outcome → Notice → Post → Sense → Type 0
SaidAs b e now entry o n p Ask = Asks b e now entry o n p
SaidAs b e now entry o n p Vote = Votes b e now entry o n p
SaidAs b e now entry o n p End = Unit {0}

-- where the sense is known
as_sense : (b : Book) (e : Event) (now : ℕ) (entry : Option Record) (o : Outcome) (n v : Notice) (p : Post) → n ≡ v → SaidAs b e now entry o n p (sense v) → SaidAs b e now entry o n p (sense n)
as_sense b e now entry o n v p is h = subst (λ x. SaidAs b e now entry o n p (sense x)) (sym is) h

-- by the notification that a seat is sent
seat_said : (b : Book) (e : Event) (now : ℕ) (entry : Option Record) (o : Outcome) (p : Post) (e2 : Event) (t : Transaction) (how : How) (s : Enlistment) (n v : Notice)
    → WhySeat e2 t how s v → (sense v ≡ Ask → Asks b e now entry o n p) → SaidAs b e now entry o n p (sense v)
seat_said b e now entry o p e2 t how s n notices.Prepare h k = k refl
seat_said b e now entry o p e2 t how s n notices.Commit h k = k refl
seat_said b e now entry o p e2 t how s n notices.Rollback h k = k refl
seat_said b e now entry o p e2 t how s n other h k = absurd h

superior_said : (b : Book) (e : Event) (now : ℕ) (entry : Option Record) (o : Outcome) (p : Post) (t : Transaction) (how : How) (at : List Enlistment) (kind : Kind) (n v : Notice)
    → WhySuperior t how at kind v → Votes b e now entry o n p → SaidAs b e now entry o n p (sense v)
superior_said b e now entry o p t how at kinds.Durable n notices.Prepared h k = k
superior_said b e now entry o p t how at kinds.Durable n notices.ReadOnly h k = k
superior_said b e now entry o p t how at kinds.Durable n notices.Committed h k = tt
superior_said b e now entry o p t how at kinds.Volatile n notices.ReadOnly h k = k
superior_said b e now entry o p t how at kind n other h k = absurd h

initiator_said : (b : Book) (e : Event) (now : ℕ) (entry : Option Record) (o : Outcome) (p : Post) (how : How) (n v : Notice) → WhyInitiator how v → SaidAs b e now entry o n p (sense v)
initiator_said b e now entry o p How.Decides n notices.Committed h = tt
initiator_said b e now entry o p How.DecidesAlone n notices.Committed h = tt
initiator_said b e now entry o p how n notices.Aborted h = tt
initiator_said b e now entry o p how n other h = absurd h

none_said : (b : Book) (e : Event) (now : ℕ) (entry : Option Record) (o : Outcome) (p : Post) (n asked : Notice) → AnswersAsNone asked n → SaidAs b e now entry o n p (sense n)
none_said b e now entry o p n notices.Prepare h = as_sense b e now entry o n notices.Aborted p h tt
none_said b e now entry o p n notices.Commit h = as_sense b e now entry o n notices.Committed p h tt
none_said b e now entry o p n notices.Rollback h = as_sense b e now entry o n notices.Aborted p h tt
none_said b e now entry o p n other h = absurd h

-- a leaf, and an activity
says_that : (p q : Post) (n v : Notice) → p ≡ q → q.message ≡ messages.Notice v → p.message ≡ messages.Notice n → n ≡ v
says_that p q n v is says f = same_notice p.message n v f (ap (λ (x : Post). x.message) is ∙ says)

leaf_said : (b : Book) (e : Event) (now : ℕ) (entry : Option Record) (o : Outcome) (d : LeafDid b e now entry o) (n : Notice) (p : Post) → p.message ≡ messages.Notice n
    → LeafSays (moment_of b now) e d.old d.change p → LeafSays (moment_of b now) e d.old d.change p → SaidAs b e now entry o n p (sense n)
leaf_said b e now entry o d n p f (prepared to left knows is item state) h =
    let same : n ≡ notices.Prepared = says_that p _ n notices.Prepared is refl f in
    as_sense b e now entry o n notices.Prepared p same (votes_alone d to knows h (is ∙ ap (leaf_notice_to (moment_of b now) d.old to) (sym same)))
leaf_said b e now entry o d n p f (read_only to knows is state item effects) h =
    let same : n ≡ notices.ReadOnly = says_that p _ n notices.ReadOnly is refl f in
    as_sense b e now entry o n notices.ReadOnly p same (votes_alone d to knows h (is ∙ ap (leaf_notice_to (moment_of b now) d.old to) (sym same)))
leaf_said b e now entry o d n p f (committed to knows is item effects) h = as_sense b e now entry o n notices.Committed p (says_that p _ n notices.Committed is refl f) tt
leaf_said b e now entry o d n p f (aborted to why is item effects) h = as_sense b e now entry o n notices.Aborted p (says_that p _ n notices.Aborted is refl f) tt
leaf_said b e now entry o d n p f (tells_nothing none) h = absurd (subst IsNoNotice f none)

activity_said : (b : Book) (e : Event) (now : ℕ) (entry : Option Record) (o : Outcome) (d : ActivityDid b e now entry o) (n : Notice) (p : Post) → p.message ≡ messages.Notice n
    → ActivitySays (moment_of b now) d.old d.change p → SaidAs b e now entry o n p (sense n)
activity_said b e now entry o d n p f (completing v to left (inl c) knows is item state) =
    let same : n ≡ v = says_that p _ n v is refl f in
    as_sense b e now entry o n notices.Commit p (same ∙ c) (asks_completion d to (inl (same ∙ c)) knows (is ∙ ap (notice_post b.base (activity_target d.old) to) (sym same)))
activity_said b e now entry o d n p f (completing v to left (inr c) knows is item state) =
    let same : n ≡ v = says_that p _ n v is refl f in
    as_sense b e now entry o n notices.Rollback p (same ∙ c) (asks_completion d to (inr (same ∙ c)) knows (is ∙ ap (notice_post b.base (activity_target d.old) to) (sym same)))
activity_said b e now entry o d n p f (activity_tells_nothing none) = absurd (subst IsNoNotice f none)

tells_as : (b : Book) (e : Event) (now : ℕ) (entry : Option Record) (o : Outcome) (n : Notice) (p : Post) → p.message ≡ messages.Notice n → Tells b e now entry o n p
    → SaidAs b e now entry o n p (sense n)
tells_as b e now entry o n p f (to_seat d s i why from) = seat_said b e now entry o p e d.old d.deed.how s n n why (λ k. asks_seat d s i why from)
tells_as b e now entry o n p f (to_left_seat d s i durable left said is from) = as_sense b e now entry o n notices.Rollback p is (asks_left_seat d s i durable left said is from)
tells_as b e now entry o n p f (to_superior d kind to known why from) = superior_said b e now entry o p d.old d.deed.how d.deed.at kind n n why (votes_under d kind to known why from)
tells_as b e now entry o n p f (says_aborted d kind to under abort is goes from) = as_sense b e now entry o n notices.Aborted p is tt
tells_as b e now entry o n p f (from_left_link d kind s to under left said is goes from) = as_sense b e now entry o n notices.Committed p is tt
tells_as b e now entry o n p f (left_link_aborted d kind to under is goes from) = as_sense b e now entry o n notices.Aborted p is tt
tells_as b e now entry o n p f (to_initiator d to known why from) = initiator_said b e now entry o p d.deed.how n n why
tells_as b e now entry o n p f (to_asking d c to known done again is from) = as_sense b e now entry o n notices.Committed p is tt
tells_as b e now entry o n p f (leaf_says d h) = leaf_said b e now entry o d n p f h h
tells_as b e now entry o n p f (activity_says d h) = activity_said b e now entry o d n p f h
tells_as b e now entry o n p f (to_late_seat d kind late is there sent) = as_sense b e now entry o n notices.Prepare p is (asks_late_seat d kind late is there sent)
tells_as b e now entry o n p f (as_no_seat d id s to at durable none says from is sent) =
    as_sense b e now entry o n notices.Rollback p is (asks_no_seat d id s to at durable none says from is sent)
tells_as b e now entry o n p f (as_no_participant d id kind to asked at none says why from sent) = none_said b e now entry o p n asked why
tells_as b e now entry o n p f (as_committed d id to at kept says from is sent) = as_sense b e now entry o n notices.Committed p is tt

pub steps_sense : StepsSense
steps_sense = record {
  asks = λ b e now landed ready p n i f is. subst (SaidAs b e now _ _ n p) is (tells_as b e now _ _ n p f (steps_tell.told b e now landed ready p n i f));
  votes = λ b e now landed ready p n i f is. subst (SaidAs b e now _ _ n p) is (tells_as b e now _ _ n p f (steps_tell.told b e now landed ready p n i f));
}
