-- Each step leaves links busy, or answers upwards.
use Rattle.std.specs.Prelude.{ℕ, List, [], ◌∷◌, ◌++◌, Option, Some, None, true, ◌≡◌, ◌⊎◌, refl}
use Rattle.std.proofs.Common.{inl, inr, ap, sym, subst, ◌∙◌}
use Rattle.at_base.specs.declared.fault.Fault.TheVariants.{InvalidState, UnknownTransaction}
use Rattle.at_base.specs.Numbers.{Numbers}
use Rattle.at_base.specs.declared.epr.Epr.{Epr}
use Rattle.at_base.specs.declared.notice.Kind.{Kind}
use Rattle.at_base.specs.declared.notice.Kind.TheVariants as kinds
use Rattle.at_base.specs.declared.notice.Notice.{Notice}
use Rattle.at_base.specs.declared.notice.Notice.TheVariants as notices
use Rattle.at_base.specs.declared.message.Message.{Message}
use Rattle.at_base.specs.declared.message.Message.TheVariants as messages
use Rattle.at_base.specs.declared.target.Target.TheVariants as targets
use Rattle.at_base.specs.declared.event.Arrived.{Arrived}
use Rattle.at_base.specs.declared.event.Event.{Event}
use Rattle.at_base.specs.declared.event.Event.TheVariants as events
use Rattle.at_base.specs.declared.event.Moment.{Moment}
use Rattle.at_base.specs.declared.outs.Post.{Post}
use Rattle.at_tables.specs.declared.cells.State.{State}
use Rattle.at_tables.specs.declared.cells.State.TheVariants as states
use Rattle.at_tables.specs.declared.cells.Act.{Act}
use Rattle.at_tables.specs.declared.cells.Act.TheVariants as acts
use Rattle.at_tables.specs.declared.cells.Cell.{Cell}
use Rattle.at_model.specs.Book.{Book, Enlistment, Phase, Request, Superior, Transaction}
use Rattle.at_model.specs.Moves.{Change, Decision, Goes, Records, begin}
use Rattle.at_model.specs.Posts.{fault_post, notice_post, reply_post, stranger_post}
use Rattle.at_model.specs.Seats.{link_of, under}
use Rattle.at_model.specs.Abort.{Alone, abort}
use Rattle.at_model.specs.Arrivals.{on_link, answer_request, context_of, is_registering, on_seat, refused_request, request_answered, request_left, request_of, request_stands, request_under, seat_act, seat_notice, with_answer}
use Rattle.model_laws.specs.Agreement.{IsIn}
use Rattle.model_laws.specs.Links.{AreIn}
use Rattle.model_laws.proofs.LinkDecisions.{Linked, known}
use Rattle.owed.specs.Shape.{IsShaped}
use Rattle.owed.specs.Links.{IsBusy, KeepsVote, LinksOwed, SaysVote, StaysBusy, StaysCommitting, TellsAnswer, superior_left}
use Rattle.owed.proofs.LinkAnswers.{SuperiorIsQuiet}
use Rattle.owed.proofs.LinkActs.{UpChange, UpOwes}
use Rattle.owed.proofs.LinkRules.{Keeps, KeepsAll, abort_keeps, differs, advance_keeps, idle, same_rel}
use Rattle.at_model.specs.Due.{Reached, Expired, Over, Unanswered, Nothing, is_aborting, may_expire, transaction_due, transaction_reached}
use Rattle.at_model.specs.Seats.{in_state, seat_in, seat_target}
use Rattle.at_model.specs.Step.{moment_of}
use Rattle.at_tables.specs.Tables.{coordinator_of}
use Rattle.model_laws.specs.PhaseAnswers.{IsUnanswered}
use Rattle.model_laws.specs.Links.{IsJoining}
use Rattle.model_laws.specs.Shapes.{MovesTransaction, at_completion, at_link, at_seat, when_due}
use Rattle.enlistments.proofs.Searches.{found_seat}
use Rattle.owed.specs.Shape.{suits}
use Rattle.owed.proofs.AtSeats.{are_in}
use Rattle.owed.proofs.SeatMessages.{HearsAt, HearsCell, seat_state, table}
use Rattle.owed.proofs.OtherMoves.{due_says, DueSays}
use Rattle.model_laws.proofs.DecisionLaws.{in_front}
use Rattle.owed.proofs.StepSeats.{tells_on}
use Rattle.owed.proofs.LinkMoves.{link_up, quiet_up}

-- a subordinate that commits has its phase
committing_phase : (phase : Phase) (v d : State) → AreIn phase v d → d ≡ states.Committing → phase ≡ Phase.Committing
committing_phase Phase.Registering v d (h, k) e = absurd (subst IsJoining e k)
committing_phase Phase.Active v d (h, k) e = absurd (subst IsJoining e k)
committing_phase Phase.Volatile v d (inl (h, k)) e = absurd (subst IsJoining e k)
committing_phase Phase.Volatile v d (inr (h, k)) e = absurd (differs d states.Preparing states.Committing k refl e)
committing_phase Phase.Durable v d (h, k) e = absurd (differs d states.Preparing states.Committing k refl e)
committing_phase Phase.Voted v d (h, k) e = absurd (differs d states.PreparedSuccess states.Committing k refl e)
committing_phase Phase.Committing v d (h, k) e = refl
committing_phase Phase.Aborting v d (h, k) e = absurd (differs d states.None states.Committing k refl e)

asked_uncommitted : (phase : Phase) (kind : Kind) (x : State) → suits phase kind x ≡ true → IsUnanswered x → phase ≡ Phase.Committing → ⊥
asked_uncommitted phase kind states.Active e u f = let g : suits Phase.Committing kind states.Active ≡ true = subst (λ p. suits p kind states.Active ≡ true) f e in cc
asked_uncommitted phase kind states.Preparing e u f = let g : suits Phase.Committing kind states.Preparing ≡ true = subst (λ p. suits p kind states.Preparing ≡ true) f e in cc
asked_uncommitted phase kind other e u f = u

seat_aborts : (m : Moment) (t : Transaction) (s : Superior) (x : Enlistment) (y : Transaction) (ps : List Post) → t.superior ≡ Some s → Linked t → IsShaped t → IsIn x t.seats → IsUnanswered x.state
    → y.superior ≡ t.superior → Keeps m.base t.id s (abort m Alone (record { item = y; posts = ps; effects = [] }))
seat_aborts m t s x y ps u l h i n f =
    abort_keeps m t.id s Alone (record { item = y; posts = ps; effects = [] }) (f ∙ u) (λ j b. refl)
    (λ d. asked_uncommitted t.phase x.kind x.state (are_in (suits t.phase) t.seats x h.0 i) n (committing_phase t.phase s.volatile.state s.durable.state (known t s u l).0 d))

seat_act_keeps : (m : Moment) (i : Option (List ℕ)) (t : Transaction) (s : Superior) (x : Enlistment) (n : Notice) (act : Act) → t.superior ≡ Some s → Linked t → IsShaped t → IsIn x t.seats
    → HearsAt x.kind x.state n act → KeepsAll m.base t.id s (seat_act m i t x act)
unfolding seat_act
seat_act_keeps m i t s x n acts.Vote u l h sits k = advance_keeps m t.id s t.phase (begin (seat_in x.number states.Prepared t)) refl u (known t s u l).0
seat_act_keeps m i t s x n acts.Leave u l h sits k = advance_keeps m t.id s t.phase (begin (seat_in x.number states.None t)) refl u (known t s u l).0
seat_act_keeps m i t s x n acts.LeaveAndAbort u l h sits k = seat_aborts m t s x (seat_in x.number states.None t) [] u l h sits k.0 refl
seat_act_keeps m i t s x n acts.FaultInvalidStateAndAbort u l h sits k = seat_aborts m t s x t (fault_post (Some x.participant) i InvalidState ∷ []) u l h sits k refl
seat_act_keeps m i t s x n acts.SendCommit u l h sits k = same_rel m.base t.id s (notice_post m.base (seat_target t.id x) x.participant notices.Commit ∷ []) t.superior u
seat_act_keeps m i t s x n acts.SendRollback u l h sits k =
    Rattle.owed.proofs.LinkRules.either m.base t.id s (in_state states.None x) _ _ (λ f. same_rel m.base t.id s (stranger_post m.base (seat_target t.id x) x.participant notices.Rollback ∷ []) t.superior u) (λ f. same_rel m.base t.id s (notice_post m.base (seat_target t.id x) x.participant notices.Rollback ∷ []) t.superior u)
seat_act_keeps m i t s x n acts.FaultUnknownTransaction u l h sits k = same_rel m.base t.id s (fault_post (Some x.participant) i UnknownTransaction ∷ []) t.superior u
seat_act_keeps m i t s x n acts.FaultInvalidState u l h sits k = same_rel m.base t.id s (fault_post (Some x.participant) i InvalidState ∷ []) t.superior u
seat_act_keeps m i t s x n other u l h sits k = same_rel m.base t.id s [] t.superior u

seat_notice_keeps : (m : Moment) (i : Option (List ℕ)) (t : Transaction) (s : Superior) (x : Enlistment) (n : Notice) (c : Option Cell) → t.superior ≡ Some s → Linked t → IsShaped t → IsIn x t.seats
    → HearsCell x.kind x.state n c → KeepsAll m.base t.id s (seat_notice m i t x c)
unfolding seat_notice
seat_notice_keeps m i t s x n None u l h sits k = same_rel m.base t.id s [] t.superior u
seat_notice_keeps m i t s x n (Some c) u l h sits k = seat_act_keeps m i t s x n c.act u l h sits k

seat_keeps : (m : Moment) (a : Arrived) (t : Transaction) (s : Superior) (x : Enlistment) (y : Message) → t.superior ≡ Some s → Linked t → IsShaped t → IsIn x t.seats
    → KeepsAll m.base t.id s (on_seat m a t x y)
unfolding on_seat
seat_keeps m a t s x (messages.Notice n) u l h sits =
    seat_notice_keeps m a.id t s x n (coordinator_of x.kind x.state n) u l h sits (table x.kind x.state n (seat_state t.phase x.kind x.state (are_in (suits t.phase) t.seats x h.0 sits)))
seat_keeps m a t s x other u l h sits = same_rel m.base t.id s [] t.superior u

-- what is due
only_aborting : (phase : Phase) → is_aborting phase ≡ true → phase ≡ Phase.Aborting
only_aborting Phase.Aborting e = refl
only_aborting other e = absurd cc

reached_keeps : (m : Moment) (t : Transaction) (s : Superior) (reached : Reached) → DueSays t reached → t.superior ≡ Some s → Linked t → KeepsAll m.base t.id s (transaction_reached m t reached)
unfolding transaction_reached
reached_keeps m t s Expired d u l =
    abort_keeps m t.id s Alone (begin t) u (λ j b. refl)
    (λ c. let g : may_expire Phase.Committing ≡ true = subst (λ p. may_expire p ≡ true) (committing_phase t.phase s.volatile.state s.durable.state (known t s u l).0 c) d in cc)
reached_keeps m t s Over d u l = ((λ kind to b c. absurd (none_busy kind b)), ((λ to x c. absurd (differs s.durable.state states.None states.Committing here.1 refl x)), tt))
  where
    here : AreIn Phase.Aborting s.volatile.state s.durable.state
    here = subst (λ p. AreIn p s.volatile.state s.durable.state) (only_aborting t.phase d) (known t s u l).0

    none_busy : (kind : Kind) → IsBusy (link_of kind s).state → ⊥
    none_busy kinds.Volatile b = idle s.volatile.state states.None here.0 (λ x. x) b
    none_busy kinds.Durable b = idle s.durable.state states.None here.1 (λ x. x) b
reached_keeps m t s Unanswered d u l = same_rel m.base t.id s _ t.superior u
reached_keeps m t s Nothing d u l = same_rel m.base t.id s [] t.superior u

-- more is posted
answer_on : (to : Epr) (ps qs : List Post) → TellsAnswer to ps → TellsAnswer to (ps ++ qs)
answer_on to ps qs (n, h, k) = (n, h, tells_on (Some to) n ps qs k)

vote_said_on : (base : List ℕ) (id : Numbers) (c : Option Epr) (ps qs : List Post) → SaysVote base id c ps → SaysVote base id c (ps ++ qs)
vote_said_on base id c ps qs (to, e, i) = (to, e, in_front _ ps qs i)

or_on : {A B C : Type 0} → (B → C) → A ⊎ B → A ⊎ C
or_on f (inl a) = inl a
or_on f (inr b) = inr (f b)

busy_on : (kind : Kind) (to : Epr) (ps qs : List Post) (o : Option Superior) → StaysBusy kind to ps o → StaysBusy kind to (ps ++ qs) o
busy_on kind to ps qs None h = answer_on to ps qs h
busy_on kind to ps qs (Some s) h = or_on (answer_on to ps qs) h

commit_on : (to : Epr) (ps qs : List Post) (o : Option Superior) → StaysCommitting to ps o → StaysCommitting to (ps ++ qs) o
commit_on to ps qs None h = tells_on (Some to) notices.Committed ps qs h
commit_on to ps qs (Some s) h = or_on (tells_on (Some to) notices.Committed ps qs) h

vote_more : (base : List ℕ) (e : Event) (t : Transaction) (s : Superior) (ps qs : List Post) (o : Option Superior) → KeepsVote base e t s ps o → KeepsVote base e t s (ps ++ qs) o
vote_more base e t s ps qs None h = tt
vote_more base e t s ps qs (Some x) h = λ d. or_on (vote_said_on base t.id x.durable.coordinator ps qs) (h d)

up_on : (base : List ℕ) (e : Event) (t : Transaction) (s : Superior) (ps qs : List Post) (o : Option Superior) → LinksOwed base e t s ps o → LinksOwed base e t s (ps ++ qs) o
up_on base e t s ps qs o (p, (c, (b, (k, v)))) = (
  (λ kind h to r f. or_on (answer_on to ps qs) (p kind h to r f)),
  (
    (λ h to r f. or_on (tells_on (Some to) notices.Committed ps qs) (c h to r f)),
    ((λ kind to x y z. busy_on kind to ps qs o (b kind to x y z)), ((λ to d z. commit_on to ps qs o (k to d z)), vote_more base e t s ps qs o v)),
  ),
)

-- the request is answered
up_answered : (base : List ℕ) (e : Event) (t : Transaction) (s : Superior) (ps : List Post) (z : Superior) → LinksOwed base e t s ps (Some z) → LinksOwed base e t s ps (Some (request_answered z))
up_answered base e t s ps z (p, (c, (b, (k, v)))) = ((λ kind h to r f. is_busy kind (p kind h to r f)), (c, ((λ kind to x y w. stays_busy kind (b kind to x y w)), (k, v))))
  where
    is_busy : {B : Type 0} (kind : Kind) → IsBusy (link_of kind z).state ⊎ B → IsBusy (link_of kind (request_answered z)).state ⊎ B
    is_busy kinds.Volatile h = h
    is_busy kinds.Durable h = h

    stays_busy : {B : Type 0} {to : Epr} (kind : Kind) → (IsBusy (link_of kind z).state × ((link_of kind z).coordinator ≡ Some to)) ⊎ B
        → (IsBusy (link_of kind (request_answered z)).state × ((link_of kind (request_answered z)).coordinator ≡ Some to)) ⊎ B
    stays_busy kinds.Volatile h = h
    stays_busy kinds.Durable h = h

stands_up : (m : Moment) (e : Event) (t : Transaction) (s : Superior) (r : Request) (x : Transaction) (z : Superior) (phase : Phase) (c : Change Transaction) → x.superior ≡ Some z
    → LinksOwed m.base e t s c.posts x.superior → UpChange m.base e t s c → UpChange m.base e t s (request_stands m r x z phase c)
stands_up m e t s r x z Phase.Aborting c u h k =
    up_on m.base e t s c.posts (refused_request r) (Some (request_answered z)) (up_answered m.base e t s c.posts z (subst (LinksOwed m.base e t s c.posts) u h))
stands_up m e t s r x z other c u h k =
    Rattle.model_laws.proofs.DecisionLaws.either_left (UpChange m.base e t s) (is_registering z) c
    (record {
      item = Some (under (request_answered z) x);
      posts = c.posts ++ reply_post (Some r.reply) r.id (messages.CreateResponse (context_of m.base x r.expires)) ∷ [];
      effects = c.effects;
    }) k
    (up_on m.base e t s c.posts (reply_post (Some r.reply) r.id (messages.CreateResponse (context_of m.base x r.expires)) ∷ []) (Some (request_answered z))
    (up_answered m.base e t s c.posts z (subst (LinksOwed m.base e t s c.posts) u h)))

under_up : (m : Moment) (e : Event) (t : Transaction) (s : Superior) (r : Request) (x : Transaction) (o : Option Superior) (c : Change Transaction) → x.superior ≡ o
    → LinksOwed m.base e t s c.posts x.superior → UpChange m.base e t s c → UpChange m.base e t s (request_under m r x o c)
under_up m e t s r x None c u h k = k
under_up m e t s r x (Some z) c u h k = stands_up m e t s r x z x.phase c u h k

left_up : (m : Moment) (e : Event) (t : Transaction) (s : Superior) (r : Request) (o : Option Transaction) (c : Change Transaction) → LinksOwed m.base e t s c.posts (superior_left o)
    → UpChange m.base e t s c → UpChange m.base e t s (request_left m r o c)
left_up m e t s r None c h k = up_on m.base e t s c.posts (refused_request r) None h
left_up m e t s r (Some x) c h k = under_up m e t s r x x.superior c refl h k

answer_up : (m : Moment) (e : Event) (t : Transaction) (s : Superior) (r : Option Request) (c : Change Transaction) → UpChange m.base e t s c → UpChange m.base e t s (answer_request m r c)
answer_up m e t s None c h = h
answer_up m e t s (Some r) c h = left_up m e t s r c.item c h h

with_answer_up : (m : Moment) (e : Event) (t : Transaction) (s : Superior) (d : Decision Transaction) → UpOwes m.base e t s d → UpOwes m.base e t s (with_answer m t d)
with_answer_up m e t s (Goes c) h = answer_up m e t s (request_of t.superior) c h
with_answer_up m e t s (Records r c None) h = record { entry = tt; landed = answer_up m e t s (request_of t.superior) c h.landed; otherwise = tt }
with_answer_up m e t s (Records r c (Some d)) h = record { entry = tt; landed = answer_up m e t s (request_of t.superior) c h.landed; otherwise = answer_up m e t s (request_of t.superior) d h.otherwise }

-- nothing comes on a link
pub quiet_but : (e : Event) (a : Arrived) (t : Transaction) → e ≡ events.Arrived a → ((kind : Kind) → a.target ≡ targets.Participant t.id kind → ⊥) → SuperiorIsQuiet e t
quiet_but e a t came f kind n h =
    let same : h.message ≡ a = Rattle.owed.proofs.Steps.came_so e h.message a h.came came in
    f kind (sym (ap (λ (x : Arrived). x.target) same) ∙ h.target)

pub moved_up : (b : Book) (e : Event) (now : ℕ) (t : Transaction) (s : Superior) (d : Decision Transaction) → t.superior ≡ Some s → IsShaped t → Linked t → MovesTransaction b e now t d
    → UpOwes b.base e t s (with_answer (moment_of b now) t d)
moved_up b e now t s d u h l (at_seat a x came why is) =
    let (number, kind, sits) = found_seat why.number why.kind t.seats x why.found in
    with_answer_up (moment_of b now) e t s d (subst (UpOwes b.base e t s) (sym is)
    (quiet_up (moment_of b now) e t s (on_seat (moment_of b now) a t x a.message) (quiet_but e a t came (λ k f. let g : targets.Coordinator t.id (record { number = why.number; kind = why.kind }) ≡ targets.Participant t.id k = sym why.target ∙ f in cc))
    (seat_keeps (moment_of b now) a t s x a.message u l h sits)))
moved_up b e now t s d u h l (at_link a kind z came why under_z is) =
    let both : Some z ≡ Some s = sym under_z ∙ u in
    let same : z ≡ s = cc in
    with_answer_up (moment_of b now) e t s d (subst (UpOwes b.base e t s) (sym is)
    (subst (λ y. UpOwes b.base e t s (on_link (moment_of b now) a kind t y a.message)) (sym same) (link_up (moment_of b now) e a kind t s a.message came why refl u l h)))
moved_up b e now t s d u h l (at_completion a c came why there is) =
    let none : t.completion ≡ None = (known t s u l).1 in
    absurd (let both : None ≡ Some c = sym none ∙ there in cc)
moved_up b e now t s d u h l (when_due came is) =
    with_answer_up (moment_of b now) e t s d (subst (UpOwes b.base e t s) (sym is)
    (quiet_up (moment_of b now) e t s (transaction_reached (moment_of b now) t (transaction_due (moment_of b now) t)) (λ kind n k. let g : events.Arrived k.message ≡ e = sym k.came in absurd cc)
    (reached_keeps (moment_of b now) t s (transaction_due (moment_of b now) t) (due_says (moment_of b now) t) u l)))
