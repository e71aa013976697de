-- A link that registers waits for its answer, over whole steps of a book.
use Rattle.std.specs.Prelude.{ℕ, List, [], ◌∷◌, ◌++◌, Option, Some, None, Bool, true, false, ◌&&◌, ◌||◌, if◌then◌else◌, ◌≡◌, refl}
use Rattle.std.proofs.Common.{ap, sym, subst, ◌∙◌}
use Rattle.at_base.specs.declared.epr.Epr.{Epr}
use Rattle.at_base.specs.declared.notice.Kind.{Kind}
use Rattle.at_base.specs.declared.notice.Kind.TheVariants as kinds
use Rattle.at_base.specs.declared.message.Message.{Message}
use Rattle.at_base.specs.declared.message.Message.TheVariants as messages
use Rattle.at_base.specs.declared.target.Target.TheVariants as targets
use Rattle.at_base.specs.declared.event.Arrived.{Arrived}
use Rattle.at_base.specs.declared.event.Event.{Event}
use Rattle.at_base.specs.declared.event.Event.TheVariants as events
use Rattle.at_base.specs.declared.event.Moment.{Moment}
use Rattle.at_tables.specs.declared.cells.State.TheVariants as states
use Rattle.at_tables.specs.Names.{is_state}
use Rattle.at_tables.specs.Tables.{participant_of}
use Rattle.endpoints.specs.Addresses.{register_id}
use Rattle.at_model.specs.Book.{Book, Phase, Request, Superior, Transaction}
use Rattle.at_model.specs.Moves.{Change, Decision, Goes, Records, begin, forgotten, post, posts, stays}
use Rattle.at_model.specs.Posts.{reply_post}
use Rattle.at_model.specs.Seats.{link_in, link_of, set_link, under}
use Rattle.at_model.specs.Abort.{Reason, Alone, abort}
use Rattle.at_model.specs.Arrivals.{link_fault, link_notice, link_registered, on_link, relates_to, answer_request, context_of, is_registering, on_seat, request_answered, request_left, request_of, request_stands, request_under, with_answer}
use Rattle.model_laws.specs.Links.{AreIn}
use Rattle.model_laws.proofs.DecisionLaws.{DecisionSays, either_says}
use Rattle.model_laws.proofs.LinkDecisions.{Linked, known}
use Rattle.owed.specs.Links.{superior_left}
use Rattle.owed.proofs.LinkActs.{says_more}
use Rattle.at_model.specs.Due.{transaction_due, transaction_reached}
use Rattle.at_model.specs.Seats.{in_state}
use Rattle.at_model.specs.Step.{moment_of}
use Rattle.model_laws.specs.Shapes.{MovesTransaction, at_completion, at_link, at_seat, when_due}
use Rattle.model_laws.proofs.DecisionLaws.{IfThere}
use Rattle.model_laws.proofs.LinkDecisions.{Links, due_links, link_links, seat_links}
use Rattle.owed.specs.LinkRegistrations.{IsAnsweredOn, JoinsStill}
use Rattle.owed.specs.Leaves.{AnswersRegister}
use Rattle.owed.proofs.LinkRegistrations.{AllSince, Since, SinceLeft, abort_since, link_notice_since, reached_since, same_since, seat_since}
use Rattle.owed.proofs.LinkAnswers.{kind_in}
use Rattle.owed.proofs.LinkActs.{says_more}

-- no Register of its links is answered
abbrev pub NotAnswered : List ℕ → Event → Transaction → Type 0
NotAnswered base e t = (kind : Kind) → IsAnsweredOn base e t kind → ⊥

abbrev pub Joins : List ℕ → Event → Transaction → Superior → Change Transaction → Type 0
Joins base e t s c = JoinsStill base e t s (superior_left c.item)

abbrev pub JoinsAll : List ℕ → Event → Transaction → Superior → Decision Transaction → Type 0
JoinsAll base e t s d = DecisionSays (Joins base e t s) (λ r c. Unit {0}) d

pub joins_so : (base : List ℕ) (e : Event) (t : Transaction) (s : Superior) (o : Option Superior) → NotAnswered base e t → Since s o → JoinsStill base e t s o
joins_so base e t s None f h = tt
joins_so base e t s (Some x) f (r, h) = λ kind d. ((h kind d, r), f kind)

quiet_joins : (base : List ℕ) (e : Event) (t : Transaction) (s : Superior) (d : Decision Transaction) → NotAnswered base e t → AllSince s d → JoinsAll base e t s d
quiet_joins base e t s d f h = says_more (SinceLeft s) (Joins base e t s) d (λ c k. joins_so base e t s (superior_left c.item) f k) h

either : (base : List ℕ) (e : Event) (t : Transaction) (s : Superior) (b : Bool) (c d : Decision Transaction) → (b ≡ true → JoinsAll base e t s c) → (b ≡ false → JoinsAll base e t s d)
    → JoinsAll base e t s (if b then c else d)
either base e t s b c d h k = either_says (Joins base e t s) (λ r x. Unit {0}) b c d h k

-- an answer to another Register
answer_kind : (base : List ℕ) (e : Event) (a : Arrived) (t : Transaction) (kind j : Kind) → e ≡ events.Arrived a → a.target ≡ targets.Participant t.id kind → IsAnsweredOn base e t j
    → (j ≡ kind) × (relates_to a.relates (register_id base (targets.Participant t.id j)) ≡ true)
answer_kind base e a t kind j came at h =
    let same : h.message ≡ a = Rattle.owed.proofs.Steps.came_so e h.message a h.came came in
    (ap kind_in (sym h.target ∙ (ap (λ (x : Arrived). x.target) same ∙ at)), subst (λ (x : Arrived). relates_to x.relates (register_id base (targets.Participant t.id j)) ≡ true) same h.relates)

not_related : (m : Moment) (e : Event) (a : Arrived) (t : Transaction) (kind : Kind) (s : Superior) → e ≡ events.Arrived a → a.target ≡ targets.Participant t.id kind → t.superior ≡ Some s
    → (is_state (link_of kind s).state states.Registering && relates_to a.relates (register_id m.base (targets.Participant t.id kind))) ≡ false → JoinsStill m.base e t s t.superior
not_related m e a t kind s came at u f =
    subst (JoinsStill m.base e t s) (sym u) (λ j d. ((d, refl), λ h. unrelated j d (answer_kind m.base e a t kind j came at h)))
  where
    unrelated : (j : Kind) → (link_of j s).state ≡ states.Registering → (j ≡ kind) × (relates_to a.relates (register_id m.base (targets.Participant t.id j)) ≡ true) → ⊥
    unrelated j d (same, r) =
        let state : (link_of kind s).state ≡ states.Registering = subst (λ x. (link_of x s).state ≡ states.Registering) same d in
        let answer : relates_to a.relates (register_id m.base (targets.Participant t.id kind)) ≡ true = subst (λ x. relates_to a.relates (register_id m.base (targets.Participant t.id x)) ≡ true) same r in
        let g : (is_state states.Registering states.Registering && relates_to a.relates (register_id m.base (targets.Participant t.id kind))) ≡ false
        = subst (λ x. (is_state x states.Registering && relates_to a.relates (register_id m.base (targets.Participant t.id kind))) ≡ false) state f in
        cc

joined_one : (m : Moment) (e : Event) (a : Arrived) (t : Transaction) (kind : Kind) (s : Superior) (c : Epr) → e ≡ events.Arrived a → a.target ≡ targets.Participant t.id kind
    → JoinsStill m.base e t s (Some (set_link kind (record { state = states.Active; coordinator = Some c }) s))
joined_one m e a t kinds.Volatile s c came at = λ j. by_kind j
  where
    by_kind : (j : Kind) → (link_of j (set_link kinds.Volatile (record { state = states.Active; coordinator = Some c }) s)).state ≡ states.Registering
        → (((link_of j s).state ≡ states.Registering) × (s.request ≡ s.request)) × (IsAnsweredOn m.base e t j → ⊥)
    by_kind kinds.Volatile d = absurd cc
    by_kind kinds.Durable d = ((d, refl), λ h. let same : kinds.Durable ≡ kinds.Volatile = (answer_kind m.base e a t kinds.Volatile kinds.Durable came at h).0 in cc)
joined_one m e a t kinds.Durable s c came at = λ j. by_kind j
  where
    by_kind : (j : Kind) → (link_of j (set_link kinds.Durable (record { state = states.Active; coordinator = Some c }) s)).state ≡ states.Registering
        → (((link_of j s).state ≡ states.Registering) × (s.request ≡ s.request)) × (IsAnsweredOn m.base e t j → ⊥)
    by_kind kinds.Durable d = absurd cc
    by_kind kinds.Volatile d = ((d, refl), λ h. let same : kinds.Volatile ≡ kinds.Durable = (answer_kind m.base e a t kinds.Durable kinds.Volatile came at h).0 in cc)

registered_joins : (m : Moment) (e : Event) (a : Arrived) (c : Epr) (kind : Kind) (s : Superior) (t : Transaction) → e ≡ events.Arrived a → a.target ≡ targets.Participant t.id kind → t.superior ≡ Some s
    → JoinsAll m.base e t s (link_registered m a.relates c kind s t)
unfolding link_registered
registered_joins m e a c kind s t came at u =
    either m.base e t s (is_state (link_of kind s).state states.Registering && relates_to a.relates (register_id m.base (targets.Participant t.id kind))) _ _
    (λ f. joined_one m e a t kind s c came at) (λ f. not_related m e a t kind s came at u f)

-- an abort leaves no link that registers
abbrev NoneRegisters : Option Superior → Type 0
NoneRegisters None = Unit {0}
NoneRegisters (Some x) = (kind : Kind) → (link_of kind x).state ≡ states.Registering → ⊥

none_joins : (base : List ℕ) (e : Event) (t : Transaction) (s : Superior) (o : Option Superior) → NoneRegisters o → Since s o → JoinsStill base e t s o
none_joins base e t s None f h = tt
none_joins base e t s (Some x) f h = λ kind d. absurd (f kind d)

aborted_none : (m : Moment) (s : Superior) (reason : Reason) (g : Rattle.at_model.specs.Moves.Moving Transaction) → g.item.superior ≡ Some s → NoneRegisters (superior_left (abort m reason g).item)
unfolding abort
aborted_none m s reason g e =
    Rattle.model_laws.proofs.DecisionLaws.either_left (λ c. NoneRegisters (superior_left c.item)) (Rattle.std.specs.List.list_any (in_state states.Aborting) (Rattle.owed.proofs.Rules.rolling m reason g).item.seats)
    (stays (Rattle.owed.proofs.Rules.rolling m reason g)) (forgotten (Rattle.owed.proofs.Rules.rolling m reason g)) (subst (λ o. NoneRegisters (Rattle.at_model.specs.Abort.without_links o)) (sym e) by_kind) tt
  where
    by_kind : (kind : Kind) → (link_of kind (link_in kinds.Volatile states.None (link_in kinds.Durable states.None s))).state ≡ states.Registering → ⊥
    by_kind kinds.Volatile d = cc
    by_kind kinds.Durable d = cc

fault_joins : (m : Moment) (e : Event) (a : Arrived) (kind : Kind) (s : Superior) (t : Transaction) → e ≡ events.Arrived a → a.target ≡ targets.Participant t.id kind → t.superior ≡ Some s
    → JoinsAll m.base e t s (link_fault m a.relates kind s t)
unfolding link_fault
fault_joins m e a kind s t came at u =
    either m.base e t s (is_state (link_of kind s).state states.Registering && relates_to a.relates (register_id m.base (targets.Participant t.id kind))) _ _
    (λ f. none_joins m.base e t s (superior_left (abort m Alone (begin t)).item) (aborted_none m s Alone (begin t) u) (abort_since m s Alone (begin t) u))
    (λ f. not_related m e a t kind s came at u f)

other_message : (base : List ℕ) (e : Event) (a : Arrived) (t : Transaction) (x : Message) → e ≡ events.Arrived a → a.message ≡ x → (AnswersRegister x → ⊥) → NotAnswered base e t
other_message base e a t x came says f kind h =
    let same : h.message ≡ a = Rattle.owed.proofs.Steps.came_so e h.message a h.came came in
    f (subst AnswersRegister (ap (λ (y : Arrived). y.message) same ∙ says) h.answers)

link_joins : (m : Moment) (e : Event) (a : Arrived) (kind : Kind) (t : Transaction) (s : Superior) (x : Message) → e ≡ events.Arrived a → a.target ≡ targets.Participant t.id kind → a.message ≡ x
    → t.superior ≡ Some s → JoinsAll m.base e t s (on_link m a kind t s x)
unfolding on_link
link_joins m e a kind t s (messages.Notice n) came at says u =
    quiet_joins m.base e t s (link_notice m a.from a.id kind s t (participant_of kind (link_of kind s).state n)) (other_message m.base e a t (messages.Notice n) came says (λ y. y))
    (link_notice_since m a.from a.id kind s t (participant_of kind (link_of kind s).state n) u)
link_joins m e a kind t s (messages.RegisterResponse c) came at says u = registered_joins m e a c kind s t came at u
link_joins m e a kind t s (messages.Fault name) came at says u = fault_joins m e a kind s t came at u
link_joins m e a kind t s other came at says u = joins_so m.base e t s t.superior (other_message m.base e a t other came says (λ y. y)) (same_since s t.superior u)

-- the request is answered once no link registers
not_both : (z : Superior) → is_registering z ≡ false → (kind : Kind) → (link_of kind z).state ≡ states.Registering → ⊥
not_both z f kinds.Volatile d = let g : (is_state states.Registering states.Registering || is_state z.durable.state states.Registering) ≡ false = subst (λ x. (is_state x states.Registering || is_state z.durable.state states.Registering) ≡ false) d f in cc
not_both z f kinds.Durable d =
    let g : (is_state z.volatile.state states.Registering || is_state states.Registering states.Registering) ≡ false = subst (λ x. (is_state z.volatile.state states.Registering || is_state x states.Registering) ≡ false) d f in
    absurd (second (is_state z.volatile.state states.Registering) g)
  where
    second : (b : Bool) → (b || true) ≡ false → ⊥
    second true h = cc
    second false h = cc

answered_joins : (base : List ℕ) (e : Event) (t : Transaction) (s z : Superior) → is_registering z ≡ false → JoinsStill base e t s (Some (request_answered z))
answered_joins base e t s z f = λ kind d. absurd (not_both z f kind (same kind d))
  where
    same : (kind : Kind) → (link_of kind (request_answered z)).state ≡ states.Registering → (link_of kind z).state ≡ states.Registering
    same kinds.Volatile d = d
    same kinds.Durable d = d

aborting_so : (z : Superior) → AreIn Phase.Aborting z.volatile.state z.durable.state → is_registering z ≡ false
aborting_so z (v, d) = λ i. is_state (v i) states.Registering || is_state (d i) states.Registering

stands_joins : (m : Moment) (e : Event) (t : Transaction) (s : Superior) (r : Request) (x : Transaction) (z : Superior) (phase : Phase) (c : Change Transaction) → x.superior ≡ Some z → x.phase ≡ phase
    → Linked x → Joins m.base e t s c → Joins m.base e t s (request_stands m r x z phase c)
stands_joins m e t s r x z Phase.Aborting c u f l k = answered_joins m.base e t s z (aborting_so z (subst (λ p. AreIn p z.volatile.state z.durable.state) f (known x z u l).0))
stands_joins m e t s r x z other c u f l k = by_test (is_registering z) refl
  where
    by_test : (b : Bool) → is_registering z ≡ b → Joins m.base e t s (if b then c else record {
      item = Some (under (request_answered z) x);
      posts = c.posts ++ reply_post (Some r.reply) r.id (messages.CreateResponse (context_of m.base x r.expires)) ∷ [];
      effects = c.effects;
    })
    by_test true g = k
    by_test false g = answered_joins m.base e t s z g

under_joins : (m : Moment) (e : Event) (t : Transaction) (s : Superior) (r : Request) (x : Transaction) (o : Option Superior) (c : Change Transaction) → x.superior ≡ o → Linked x
    → Joins m.base e t s c → Joins m.base e t s (request_under m r x o c)
under_joins m e t s r x None c u l k = k
under_joins m e t s r x (Some z) c u l k = stands_joins m e t s r x z x.phase c u refl l k

left_joins : (m : Moment) (e : Event) (t : Transaction) (s : Superior) (r : Request) (o : Option Transaction) (c : Change Transaction) → IfThere Linked o → Joins m.base e t s c
    → Joins m.base e t s (request_left m r o c)
left_joins m e t s r None c l k = tt
left_joins m e t s r (Some x) c l k = under_joins m e t s r x x.superior c refl l k

answer_joins : (m : Moment) (e : Event) (t : Transaction) (s : Superior) (r : Option Request) (c : Change Transaction) → IfThere Linked c.item → Joins m.base e t s c → Joins m.base e t s (answer_request m r c)
answer_joins m e t s None c l h = h
answer_joins m e t s (Some r) c l h = left_joins m e t s r c.item c l h

with_answer_joins : (m : Moment) (e : Event) (t : Transaction) (s : Superior) (d : Decision Transaction) → Links d → JoinsAll m.base e t s d → JoinsAll m.base e t s (with_answer m t d)
with_answer_joins m e t s (Goes c) l h = answer_joins m e t s (request_of t.superior) c l h
with_answer_joins m e t s (Records r c None) l h = record { entry = tt; landed = answer_joins m e t s (request_of t.superior) c l.landed h.landed; otherwise = tt }
with_answer_joins m e t s (Records r c (Some d)) l h = record {
  entry = tt;
  landed = answer_joins m e t s (request_of t.superior) c l.landed h.landed;
  otherwise = answer_joins m e t s (request_of t.superior) d l.otherwise h.otherwise;
}

pub not_at : (base : List ℕ) (e : Event) (a : Arrived) (t : Transaction) → e ≡ events.Arrived a → ((kind : Kind) → a.target ≡ targets.Participant t.id kind → ⊥) → NotAnswered base e t
not_at base e a t came f kind h =
    let same : h.message ≡ a = Rattle.owed.proofs.Steps.came_so e h.message a h.came came in
    f kind (sym (ap (λ (x : Arrived). x.target) same) ∙ h.target)

pub moved_joins : (b : Book) (e : Event) (now : ℕ) (t : Transaction) (s : Superior) (d : Decision Transaction) → t.superior ≡ Some s → Linked t → MovesTransaction b e now t d
    → JoinsAll b.base e t s (with_answer (moment_of b now) t d)
moved_joins b e now t s d u l (at_seat a x came why is) =
    with_answer_joins (moment_of b now) e t s d (subst Links (sym is) (seat_links (moment_of b now) a t x a.message l)) (subst (JoinsAll b.base e t s) (sym is)
    (quiet_joins b.base e t s (on_seat (moment_of b now) a t x a.message)
    (not_at b.base e a t came (λ k f. let g : targets.Coordinator t.id (record { number = why.number; kind = why.kind }) ≡ targets.Participant t.id k = sym why.target ∙ f in cc))
    (seat_since (moment_of b now) a t s x a.message u)))
moved_joins b e now t s d u l (at_link a kind z came why under_z is) =
    let both : Some z ≡ Some s = sym under_z ∙ u in
    let same : z ≡ s = cc in
    with_answer_joins (moment_of b now) e t s d (subst Links (sym is) (link_links (moment_of b now) a kind t z a.message under_z l)) (subst (JoinsAll b.base e t s) (sym is)
    (subst (λ y. JoinsAll b.base e t s (on_link (moment_of b now) a kind t y a.message)) (sym same) (link_joins (moment_of b now) e a kind t s a.message came why refl u)))
moved_joins b e now t s d u l (at_completion a c came why there is) =
    let none : t.completion ≡ None = (known t s u l).1 in
    absurd (let both : None ≡ Some c = sym none ∙ there in cc)
moved_joins b e now t s d u l (when_due came is) =
    with_answer_joins (moment_of b now) e t s d (subst Links (sym is) (due_links (moment_of b now) t _ l)) (subst (JoinsAll b.base e t s) (sym is)
    (quiet_joins b.base e t s (transaction_reached (moment_of b now) t (transaction_due (moment_of b now) t)) (λ kind k. let g : events.Arrived k.message ≡ e = sym k.came in absurd cc)
    (reached_since (moment_of b now) t s (transaction_due (moment_of b now) t) u)))
