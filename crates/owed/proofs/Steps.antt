-- Whatever moves a transaction keeps it as its phase wants, and posts what is owed.
use Rattle.std.specs.Prelude.{ℕ, List, [], ◌∷◌, ◌++◌, Option, Some, None, Bool, true, false, nat_lt, ◌&&◌, ◌||◌, if◌then◌else◌, is_none, length, bytes_eq, ◌≡◌, ◌⊎◌, refl}
use Rattle.std.specs.List.{list_any, AllByRecursion}
use Rattle.std.proofs.Common.{inl, inr, ap, sym, subst, ◌∙◌}
use Rattle.at_base.specs.Numbers.{Numbers}
use Rattle.at_base.specs.declared.epr.Epr.{Epr}
use Rattle.at_base.specs.declared.epr.Reply.{Reply}
use Rattle.at_base.specs.declared.epr.Reply.TheVariants as replies
use Rattle.at_base.specs.declared.notice.Kind.{Kind}
use Rattle.at_base.specs.declared.notice.Kind.TheVariants as kinds
use Rattle.at_base.specs.declared.notice.Notice.{Notice}
use Rattle.at_base.specs.declared.message.Context.{Context}
use Rattle.at_base.specs.declared.message.Create.{Create}
use Rattle.at_base.specs.declared.message.Message.{Message}
use Rattle.at_base.specs.declared.message.Message.TheVariants as messages
use Rattle.at_base.specs.declared.message.Register.{Register}
use Rattle.at_base.specs.declared.target.Target.{Target}
use Rattle.at_base.specs.declared.target.Target.TheVariants as targets
use Rattle.at_base.specs.declared.event.Arrived.{Arrived}
use Rattle.at_base.specs.declared.event.Event.{Event}
use Rattle.at_base.specs.declared.event.Event.TheVariants as events
use Rattle.at_base.specs.declared.event.Moment.{Moment}
use Rattle.at_base.specs.declared.limits.TheConstants.{MOST_SEATS, MOST_ITEMS}
use Rattle.at_base.specs.declared.outs.Post.{Post}
use Rattle.at_tables.specs.declared.cells.State.{State}
use Rattle.at_tables.specs.declared.cells.State.TheVariants as states
use Rattle.at_tables.specs.Names.{is_state}
use Rattle.endpoints.specs.Addresses.{atomic}
use Rattle.at_model.specs.Book.{Book, Completion, Enlistment, Phase, Request, Superior, Transaction}
use Rattle.at_model.specs.Create.{create_in, create_under, on_create, refuse_create}
use Rattle.at_model.specs.Moves.{Change, Decision, Goes, Records}
use Rattle.at_model.specs.Posts.{reply_post}
use Rattle.at_model.specs.Register.{Registration, accepts, is_late, may_complete, new_seat, on_register}
use Rattle.at_model.specs.Seats.{is_of, under}
use Rattle.at_model.specs.Arrivals.{answer_request, context_of, is_registering, refused_request, request_answered, request_left, request_of, request_stands, request_under, with_answer}
use Rattle.at_model.specs.Step.{moment_of}
use Rattle.model_laws.specs.Links.{AreIn}
use Rattle.model_laws.specs.Shapes.{IsAtSeat, MovesTransaction, at_completion, at_link, at_seat, when_due}
use Rattle.model_laws.proofs.DecisionLaws.{IfThere, either_of, second_true}
use Rattle.model_laws.proofs.LinkDecisions.{Linked, Links, completion_links, due_links, link_links, seat_links, known}
use Rattle.model_laws.proofs.PhaseAnswers.{then_accepts}
use Rattle.agreement.specs.FinishedTransactions.{IsFinished}
use Rattle.agreement.proofs.FinishedMoves.{kept_rise}
use Rattle.enlistments.specs.Registrations.{Enrolls, has_completion, has_seat, refuses, takes_completion, takes_seat}
use Rattle.enlistments.proofs.Registrations.{register_enrolls}
use Rattle.enlistments.proofs.Searches.{found_seat}
use Rattle.owed.specs.Seats.{IsTold, SaysPrepared}
use Rattle.owed.specs.Shape.{AreSuited, IsShaped, LinkKnows, LinksKnow, RootStands, StandsUnder, Waits, suits}
use Rattle.owed.proofs.StepSeats.{owed_on, told_on}
use Rattle.owed.proofs.AtSeats.{AtSeat, Unheard}
use Rattle.owed.proofs.SeatMessages.{only_one, seat_owes}
use Rattle.owed.proofs.OnLinks.{IsQuiet, quiet_all}
use Rattle.owed.proofs.OtherMoves.{completion_owes, due_owes, link_owes}
use Rattle.owed.proofs.Rules.{Left, LeftIn, Owes}

-- more is posted
all_told_on : (e : Event) (old : Transaction) (ps qs : List Post) (seats : List Enlistment) → AllByRecursion (λ s. s.kind ≡ kinds.Durable → SaysPrepared e old s → IsTold ps s) seats
    → AllByRecursion (λ s. s.kind ≡ kinds.Durable → SaysPrepared e old s → IsTold (ps ++ qs) s) seats
all_told_on e old ps qs [] h = tt
all_told_on e old ps qs (s ∷ ss) (h, hs) = ((λ d x. told_on (Some s.participant) ps qs (h d x)), all_told_on e old ps qs ss hs)

left_on : (m : Moment) (e : Event) (old : Transaction) (ps qs : List Post) (t : Option Transaction) → LeftIn m e old ps t → LeftIn m e old (ps ++ qs) t
left_on m e old ps qs None h = all_told_on e old ps qs old.seats h
left_on m e old ps qs (Some t) (h, (i, k)) = (h, (i, owed_on m.base e old ps qs old.seats t.seats k))

-- the answer to a subordinate's request
unrequested : (r : Option Request) (state : State) (c : Option Epr) → is_state state states.Registering ≡ false → LinkKnows r state c → LinkKnows None state c
unrequested r states.Registering c f h = absurd cc
unrequested r states.Active c f h = h
unrequested r states.Preparing c f h = h
unrequested r states.PreparedSuccess c f h = h
unrequested r states.Committing c f h = h
unrequested r other c f h = tt

neither : (a b : Bool) → (a || b) ≡ false → (a ≡ false) × (b ≡ false)
neither true b e = absurd cc
neither false b e = (refl, e)

unrequested_links : (s : Superior) → is_registering s ≡ false → LinksKnow s → LinksKnow (request_answered s)
unrequested_links s f (v, d) =
    let (a, b) = neither (is_state s.volatile.state states.Registering) (is_state s.durable.state states.Registering) f in
    (unrequested s.request s.volatile.state s.volatile.coordinator a v, unrequested s.request s.durable.state s.durable.coordinator b d)

no_longer : (m : Moment) (e : Event) (old : Transaction) (ps : List Post) (t : Transaction) (s : Superior) → t.superior ≡ Some s → is_registering s ≡ false → LeftIn m e old ps (Some t)
    → LeftIn m e old ps (Some (under (request_answered s) t))
no_longer m e old ps t s u f ((a, (w, k)), h) = ((a, (w, unrequested_links s f (subst (λ x. StandsUnder t.phase x t.completion) u k))), h)

aborting_links : (s : Superior) → AreIn Phase.Aborting s.volatile.state s.durable.state → is_registering s ≡ false
aborting_links s (v, d) = (λ i. is_state (v i) states.Registering || is_state (d i) states.Registering)

stands_left : (m : Moment) (e : Event) (old : Transaction) (r : Request) (t : Transaction) (s : Superior) (phase : Phase) (c : Change Transaction) → t.superior ≡ Some s → t.phase ≡ phase
    → LeftIn m e old c.posts (Some t) → Linked t → Left m e old c → Left m e old (request_stands m r t s phase c)
stands_left m e old r t s Phase.Aborting c u f h l k =
    no_longer m e old (c.posts ++ refused_request r) t s u (aborting_links s (subst (λ p. AreIn p s.volatile.state s.durable.state) f (known t s u l).0)) (left_on m e old c.posts (refused_request r) (Some t) h)
stands_left m e old r t s other c u f h l k = by_test (is_registering s) refl
  where
    answered_now : Change Transaction
    answered_now = record {
      item = Some (under (request_answered s) t);
      posts = c.posts ++ reply_post (Some r.reply) r.id (messages.CreateResponse (context_of m.base t r.expires)) ∷ [];
      effects = c.effects;
    }

    by_test : (b : Bool) → is_registering s ≡ b → Left m e old (if b then c else record {
      item = Some (under (request_answered s) t);
      posts = c.posts ++ reply_post (Some r.reply) r.id (messages.CreateResponse (context_of m.base t r.expires)) ∷ [];
      effects = c.effects;
    })
    by_test true g = k
    by_test false g = no_longer m e old _ t s u g (left_on m e old c.posts (reply_post (Some r.reply) r.id (messages.CreateResponse (context_of m.base t r.expires)) ∷ []) (Some t) h)

under_left : (m : Moment) (e : Event) (old : Transaction) (r : Request) (t : Transaction) (s : Option Superior) (c : Change Transaction) → t.superior ≡ s → LeftIn m e old c.posts (Some t) → Linked t
    → Left m e old c → Left m e old (request_under m r t s c)
under_left m e old r t None c u h l k = k
under_left m e old r t (Some s) c u h l k = stands_left m e old r t s t.phase c u refl h l k

request_left_so : (m : Moment) (e : Event) (old : Transaction) (r : Request) (o : Option Transaction) (c : Change Transaction) → LeftIn m e old c.posts o → IfThere Linked o → Left m e old c
    → Left m e old (request_left m r o c)
request_left_so m e old r None c h l k = left_on m e old c.posts (refused_request r) None h
request_left_so m e old r (Some t) c h l k = under_left m e old r t t.superior c refl h l k

answer_left : (m : Moment) (e : Event) (old : Transaction) (r : Option Request) (c : Change Transaction) → Left m e old c → IfThere Linked c.item → Left m e old (answer_request m r c)
answer_left m e old None c h l = h
answer_left m e old (Some r) c h l = request_left_so m e old r c.item c h l h

with_answer_owes : (m : Moment) (e : Event) (t : Transaction) (d : Decision Transaction) → Owes m e t d → Links d → Owes m e t (with_answer m t d)
with_answer_owes m e t (Goes c) h l = answer_left m e t (request_of t.superior) c h l
with_answer_owes m e t (Records r c None) h l = record { entry = h.entry; landed = answer_left m e t (request_of t.superior) c h.landed l.landed; otherwise = tt }
with_answer_owes m e t (Records r c (Some d)) h l = record {
  entry = h.entry;
  landed = answer_left m e t (request_of t.superior) c h.landed l.landed;
  otherwise = answer_left m e t (request_of t.superior) d h.otherwise l.otherwise;
}

-- each way to move
said_seat : (id : Numbers) (number : ℕ) (kind : Kind) (s : Enlistment) → s.number ≡ number → s.kind ≡ kind
    → targets.Coordinator id (record { number = number; kind = kind }) ≡ targets.Coordinator id (record { number = s.number; kind = s.kind })
said_seat id number kind s e f = rw (e, f) refl

at_its_seat : (e : Event) (a : Arrived) (t : Transaction) (s : Enlistment) (n : Notice) → e ≡ events.Arrived a → IsAtSeat a t s → a.message ≡ messages.Notice n → IsFinished t → AtSeat e t s n
at_its_seat e a t s n came why says h =
    let (number, kind, sits) = found_seat why.number why.kind t.seats s why.found in
    record {
      said = record { message = a; came = came; target = why.target ∙ said_seat t.id why.number why.kind s number kind; says = says };
      sits = sits;
      only = only_one 0 why.number why.kind t.seats s (kept_rise t.phase t.seats h.numbers) why.found;
    }

pub came_so : (e : Event) (a b : Arrived) → e ≡ events.Arrived a → e ≡ events.Arrived b → a ≡ b
came_so e a b f g = let h : events.Arrived a ≡ events.Arrived b = sym f ∙ g in cc

heard_or : (e : Event) (a : Arrived) (t : Transaction) (x : Message) → e ≡ events.Arrived a → a.message ≡ x → AllByRecursion (Unheard e t []) t.seats ⊎ ((n : Notice) × (x ≡ messages.Notice n))
heard_or e a t (messages.Notice n) came says = inr (n, refl)
heard_or e a t other came says =
    inl (quiet_all e t [] t.seats (λ n s h. let f : other ≡ messages.Notice n = sym says ∙ (ap (λ (y : Arrived). y.message) (came_so e a h.message came h.came) ∙ h.says) in absurd cc))

-- it is no coordinator's seat
abbrev IsSeatTarget : Target → Type 0
IsSeatTarget (targets.Coordinator id seat) = Unit {0}
IsSeatTarget other = ⊥

elsewhere : (e : Event) (a : Arrived) (t : Transaction) (T : Target) → e ≡ events.Arrived a → a.target ≡ T → (IsSeatTarget T → ⊥) → IsQuiet e t
elsewhere e a t T came at f n s h =
    let g : targets.Coordinator t.id (record { number = s.number; kind = s.kind }) ≡ T = sym h.target ∙ (ap (λ (y : Arrived). y.target) (came_so e h.message a h.came came) ∙ at) in
    f (subst IsSeatTarget g tt)

pub moved_owes : (b : Book) (e : Event) (now : ℕ) (t : Transaction) (d : Decision Transaction) → IsShaped t → Linked t → IsFinished t → MovesTransaction b e now t d
    → Owes (moment_of b now) e t (with_answer (moment_of b now) t d)
moved_owes b e now t d h l f (at_seat a s came why is) =
    with_answer_owes (moment_of b now) e t d
    (subst (Owes (moment_of b now) e t) (sym is)
    (seat_owes (moment_of b now) e a t s a.message h l (λ n says. at_its_seat e a t s n came why says f) (heard_or e a t a.message came refl)))
    (subst Links (sym is) (seat_links (moment_of b now) a t s a.message l))
moved_owes b e now t d h l f (at_link a kind s came why u is) =
    with_answer_owes (moment_of b now) e t d
    (subst (Owes (moment_of b now) e t) (sym is) (link_owes (moment_of b now) e a kind t s a.message u l h (elsewhere e a t (targets.Participant t.id kind) came why (λ x. x))))
    (subst Links (sym is) (link_links (moment_of b now) a kind t s a.message u l))
moved_owes b e now t d h l f (at_completion a c came why there is) =
    with_answer_owes (moment_of b now) e t d
    (subst (Owes (moment_of b now) e t) (sym is) (completion_owes (moment_of b now) e a t c a.message there l h (elsewhere e a t (targets.Completion t.id) came why (λ x. x))))
    (subst Links (sym is) (completion_links (moment_of b now) a t c a.message there l))
moved_owes b e now t d h l f (when_due came is) =
    with_answer_owes (moment_of b now) e t d
    (subst (Owes (moment_of b now) e t) (sym is) (due_owes (moment_of b now) e t h (λ n s k. let g : events.Arrived k.message ≡ e = sym k.came in absurd cc)))
    (subst Links (sym is) (due_links (moment_of b now) t _ l))

-- a registration
some_front : (p : Enlistment → Bool) (xs ys : List Enlistment) → list_any p xs ≡ true → list_any p (xs ++ ys) ≡ true
some_front p [] ys h = absurd cc
some_front p (x ∷ xs) ys h = by_test (some_front p xs ys) (p x) h
  where
    by_test : (list_any p xs ≡ true → list_any p (xs ++ ys) ≡ true) → (b : Bool) → (b || list_any p xs) ≡ true → (b || list_any p (xs ++ ys)) ≡ true
    by_test rest true f = refl
    by_test rest false f = rest f

joins_are : (p : Kind → State → Bool) (xs : List Enlistment) (s : Enlistment) → AllByRecursion (λ x. p x.kind x.state ≡ true) xs → p s.kind s.state ≡ true
    → AllByRecursion (λ x. p x.kind x.state ≡ true) (xs ++ s ∷ [])
joins_are p [] s h f = (f, tt)
joins_are p (x ∷ xs) s (h, hs) f = (h, joins_are p xs s hs f)

seat_shaped : (t : Transaction) (s : Enlistment) (kind : Kind) (phase : Phase) → t.phase ≡ phase → accepts phase ≡ true → s.kind ≡ kind
    → s.state ≡ (if is_late phase kind then states.Preparing else states.Active) → IsShaped t → AreSuited t.phase (t.seats ++ s ∷ []) × Waits t.phase (t.seats ++ s ∷ [])
seat_shaped t s kinds.Volatile Phase.Active e f k i h =
    (joins_are (suits t.phase) t.seats s h.0 (λ j. suits (e j) (k j) (i j)), subst (λ p. Waits p (t.seats ++ s ∷ [])) (sym e) tt)
seat_shaped t s kinds.Durable Phase.Active e f k i h =
    (joins_are (suits t.phase) t.seats s h.0 (λ j. suits (e j) (k j) (i j)), subst (λ p. Waits p (t.seats ++ s ∷ [])) (sym e) tt)
seat_shaped t s kinds.Volatile Phase.Volatile e f k i h = (
  joins_are (suits t.phase) t.seats s h.0 (λ j. suits (e j) (k j) (i j)),
  subst (λ p. Waits p (t.seats ++ s ∷ [])) (sym e) (some_front (is_of kinds.Volatile states.Preparing) t.seats (s ∷ []) (subst (λ p. Waits p t.seats) e h.1.0)),
)
seat_shaped t s kinds.Durable Phase.Volatile e f k i h = (
  joins_are (suits t.phase) t.seats s h.0 (λ j. suits (e j) (k j) (i j)),
  subst (λ p. Waits p (t.seats ++ s ∷ [])) (sym e) (some_front (is_of kinds.Volatile states.Preparing) t.seats (s ∷ []) (subst (λ p. Waits p t.seats) e h.1.0)),
)
seat_shaped t s kind Phase.Registering e f k i h = absurd cc
seat_shaped t s kind Phase.Durable e f k i h = absurd cc
seat_shaped t s kind Phase.Voted e f k i h = absurd cc
seat_shaped t s kind Phase.Committing e f k i h = absurd cc
seat_shaped t s kind Phase.Aborting e f k i h = absurd cc

-- an initiator
is_no : {A : Type 0} (o : Option A) → is_none o ≡ true → o ≡ None
is_no None e = refl
is_no (Some a) e = absurd cc

initiator_stands : (t : Transaction) (c : Completion) (phase : Phase) → t.phase ≡ phase → accepts phase ≡ true → (is_none t.superior && is_none t.completion) ≡ true → c.state ≡ states.Active → IsShaped t
    → StandsUnder t.phase t.superior (Some c)
initiator_stands t c phase e f g i h =
    let root : t.superior ≡ None = is_no t.superior (Rattle.model_laws.proofs.DecisionLaws.first_true (is_none t.superior) (is_none t.completion) g) in
    subst (λ s. StandsUnder t.phase s (Some c)) (sym root) (subst (λ p. RootStands p (Some c)) (sym e) (by_phase phase e f (subst (λ s. StandsUnder t.phase s t.completion) root h.1.1)))
  where
    by_phase : (p : Phase) → t.phase ≡ p → accepts p ≡ true → RootStands t.phase t.completion → RootStands p (Some c)
    by_phase Phase.Active x y z = i
    by_phase Phase.Volatile x y z =
        let (j, k) = subst (λ p. RootStands p t.completion) x z in
        let n : is_none t.completion ≡ true = second_true (is_none t.superior) (is_none t.completion) g in
        absurd cc
    by_phase Phase.Registering x y z = absurd cc
    by_phase Phase.Durable x y z = absurd cc
    by_phase Phase.Voted x y z = absurd cc
    by_phase Phase.Committing x y z = absurd cc
    by_phase Phase.Aborting x y z = absurd cc

enrolled_shaped : (m : Moment) (a : Arrived) (r : Register) (t : Transaction) (g : Registration) → Enrolls m a r t g → IsShaped t → IsShaped g.transaction
enrolled_shaped m a r t g (takes_seat kind p may is) h =
    let (suited, waits) = seat_shaped t (new_seat t r.participant kind) kind t.phase refl (then_accepts t (Some kind) may) refl refl h in
    subst (λ x. IsShaped x.transaction) (sym is) (suited, (waits, h.1.1))
enrolled_shaped m a r t g (takes_completion p may is) h =
    subst (λ x. IsShaped x.transaction) (sym is) (
      h.0,
      (
        h.1.0,
        initiator_stands t (record { initiator = r.participant; state = states.Active }) t.phase refl (then_accepts t None may)
            (second_true (accepts t.phase && nat_lt (length t.seats) MOST_SEATS) (may_complete t None) may) refl h,
      ),
    )
enrolled_shaped m a r t g (has_seat kind s p i k e is) h = subst (λ x. IsShaped x.transaction) (sym is) h
enrolled_shaped m a r t g (has_completion c p there e is) h = subst (λ x. IsShaped x.transaction) (sym is) h
enrolled_shaped m a r t g (refuses name is) h = subst (λ x. IsShaped x.transaction) (sym is) h

pub register_shaped : (m : Moment) (a : Arrived) (r : Register) (t : Transaction) → IsShaped t → IsShaped (on_register m a r t).transaction
register_shaped m a r t h = enrolled_shaped m a r t (on_register m a r t) (register_enrolls m a r t) h

-- a transaction that is made
under_shaped : (m : Moment) (id : Numbers) (a : Arrived) (c : Create) (current : Context) (r : Reply) → IfThere IsShaped (create_under m id a c current r).transaction
unfolding create_under
under_shaped m id a c current (replies.At reply) = (tt, (tt, ((refl, refl), (refl, refl))))
under_shaped m id a c current replies.Anonymous = tt
under_shaped m id a c current replies.Nobody = tt

in_shaped : (m : Moment) (id : Numbers) (a : Arrived) (c : Create) (current : Option Context) → IfThere IsShaped (create_in m id a c current).transaction
unfolding create_in
in_shaped m id a c None = (tt, (tt, tt))
in_shaped m id a c (Some current) = under_shaped m id a c current a.reply

pub created_shaped : (m : Moment) (live : ℕ) (a : Arrived) (c : Create) (id : Numbers) (t : Transaction) → (on_create m live a c (Some id)).transaction ≡ Some t → IsShaped t
unfolding on_create
created_shaped m live a c id t e =
    subst (IfThere IsShaped) e
    (either_of (λ x. IfThere IsShaped x.transaction) (bytes_eq c.coordination atomic && nat_lt live MOST_ITEMS) (create_in m id a c c.current) (refuse_create a) (λ k. (in_shaped m id a c c.current)) (λ k. tt))
