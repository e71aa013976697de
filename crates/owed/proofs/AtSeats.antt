-- A message at a seat.
use Rattle.std.specs.Prelude.{ℕ, List, [], ◌∷◌, Option, Some, Bool, true, false, nat_eq, ◌||◌, if◌then◌else◌, ◌≡◌, ◌⊎◌, refl}
use Rattle.std.specs.List.{AllByRecursion}
use Rattle.std.proofs.Common.{inl, inr, ap, sym, subst, ◌∙◌}
use Rattle.std.proofs.lemmas.Bool.{eqb-true, eq-eqb}
use Rattle.at_base.specs.declared.notice.Kind.{Kind}
use Rattle.at_base.specs.declared.notice.Kind.TheVariants as kinds
use Rattle.at_base.specs.declared.notice.Notice.{Notice}
use Rattle.at_base.specs.declared.notice.Notice.TheVariants as notices
use Rattle.at_base.specs.declared.message.Message.TheVariants as messages
use Rattle.at_base.specs.declared.target.Target.{Target}
use Rattle.at_base.specs.declared.target.Target.TheVariants as targets
use Rattle.at_base.specs.declared.event.Arrived.{Arrived}
use Rattle.at_base.specs.declared.event.Event.{Event}
use Rattle.at_base.specs.declared.event.Event.TheVariants as events
use Rattle.at_base.specs.declared.event.Moment.{Moment}
use Rattle.at_base.specs.declared.outs.Post.{Post}
use Rattle.at_tables.specs.declared.cells.State.{State}
use Rattle.at_tables.specs.declared.cells.State.TheVariants as states
use Rattle.at_tables.specs.Names.{is_state}
use Rattle.at_model.specs.Book.{Enlistment, Transaction}
use Rattle.at_model.specs.Seats.{is_open, moved}
use Rattle.model_laws.specs.Agreement.{IsIn}
use Rattle.agreement.specs.Deeds.{ParticipantSaid}
use Rattle.owed.specs.Seats.{AnswersSeat, HasAnswered, IsAsked, IsKept, IsOwed, IsTold, Pairs, SaysPrepared}
use Rattle.owed.specs.Shape.{IsShaped, suits}
use Rattle.owed.proofs.StepSeats.{IsOpened}
use Rattle.owed.proofs.Rules.{Along, Left}
use Rattle.owed.proofs.Tables.{Are}

-- what one finds in a list
pub are_in : (p : Kind → State → Bool) (seats : List Enlistment) (s : Enlistment) → Are p seats → IsIn s seats → p s.kind s.state ≡ true
are_in p [] s h i = absurd i
are_in p (x ∷ xs) s (h, hs) (inl e) = subst (λ y. p y.kind y.state ≡ true) (sym e) h
are_in p (x ∷ xs) s (h, hs) (inr i) = are_in p xs s hs i

-- two that answer by one message have one number
abbrev number_of : Target → ℕ
number_of (targets.Coordinator id seat) = seat.number
number_of other = 0

one_number : (e : Event) (t : Transaction) (n v : Notice) (s o : Enlistment) → ParticipantSaid n e t s → ParticipantSaid v e t o → o.number ≡ s.number
one_number e t n v s o h k =
    let came : events.Arrived h.message ≡ events.Arrived k.message = sym h.came ∙ k.came in
    let same : h.message ≡ k.message = cc in
    ap number_of (sym k.target ∙ (sym (ap (λ (a : Arrived). a.target) same) ∙ h.target))

one_notice : (e : Event) (t : Transaction) (n v : Notice) (s o : Enlistment) → ParticipantSaid n e t s → ParticipantSaid v e t o → v ≡ n
one_notice e t n v s o h k =
    let came : events.Arrived h.message ≡ events.Arrived k.message = sym h.came ∙ k.came in
    let same : h.message ≡ k.message = cc in
    let says : messages.Notice v ≡ messages.Notice n = sym k.says ∙ (sym (ap (λ (a : Arrived). a.message) same) ∙ h.says) in
    cc

-- Nothing at this seat is answered by the event.
abbrev pub Unheard : Event → Transaction → List Post → Enlistment → Type 0
Unheard e t ps s =
    (s.state ≡ states.Preparing → HasAnswered e t s → ⊥) × ((s.state ≡ states.Committing → ParticipantSaid notices.Committed e t s → ⊥)
    × (s.kind ≡ kinds.Durable → ParticipantSaid notices.Prepared e t s → (s.state ≡ states.Prepared) ⊎ IsTold ps s))

pub same_owed : (m : Moment) (e : Event) (t : Transaction) (ps : List Post) (seats : List Enlistment) → AllByRecursion (Unheard e t ps) seats → Pairs (IsOwed m.base e t ps) seats seats
same_owed m e t ps [] h = tt
same_owed m e t ps (s ∷ ss) ((f, (g, k)), hs) =
    (((refl, λ d x. by_case d x), ((λ d. inl (d, f d)), (λ d. inl (d, g d)))), same_owed m e t ps ss hs)
  where
    by_case : s.kind ≡ kinds.Durable → SaysPrepared e t s → (s.state ≡ states.Prepared) ⊎ IsTold ps s
    by_case d (inl x) = inl x
    by_case d (inr x) = k d x

pub kept_of : (m : Moment) (e : Event) (t : Transaction) (ps : List Post) (olds news : List Enlistment) → Pairs (IsOwed m.base e t ps) olds news → Pairs (IsKept e t ps) olds news
kept_of m e t ps [] [] h = tt
kept_of m e t ps [] (n ∷ ns) h = absurd h
kept_of m e t ps (o ∷ os) [] h = absurd h
kept_of m e t ps (o ∷ os) (n ∷ ns) (h, hs) = (h.0, kept_of m e t ps os ns hs)

pub asked_of : (m : Moment) (e : Event) (t : Transaction) (ps : List Post) (olds news : List Enlistment) → Pairs (IsOwed m.base e t ps) olds news → Pairs (IsAsked m.base e t ps) olds news
asked_of m e t ps [] [] h = tt
asked_of m e t ps [] (n ∷ ns) h = absurd h
asked_of m e t ps (o ∷ os) [] h = absurd h
asked_of m e t ps (o ∷ os) (n ∷ ns) (h, hs) = (h.1, asked_of m e t ps os ns hs)

pub same_along : (m : Moment) (e : Event) (t : Transaction) (ps : List Post) → IsShaped t → AllByRecursion (Unheard e t ps) t.seats → Along m e t (suits t.phase) t.id t.seats ps
same_along m e t ps h u =
    ((refl, (h.0, kept_of m e t ps t.seats t.seats (same_owed m e t ps t.seats u))), asked_of m e t ps t.seats t.seats (same_owed m e t ps t.seats u))

-- it stays as it was, but for when it last sent
pub same_left : (m : Moment) (e : Event) (t : Transaction) (sent : Option ℕ) (ps : List Post) → IsShaped t → AllByRecursion (Unheard e t ps) t.seats
    → Left m e t (record { item = Some (record t { sent = sent }); posts = ps; effects = [] })
same_left m e t sent ps h u = (h, (refl, same_owed m e t ps t.seats u))

-- A notification at a seat.
pub record AtSeat (e : Event) (t : Transaction) (s : Enlistment) (n : Notice) : Type 0 where
  pub said : ParticipantSaid n e t s
  pub sits : IsIn s t.seats
  pub only : AllByRecursion (λ x. x.number ≡ s.number → x ≡ s) t.seats

-- whether the message leaves this seat as it is
abbrev pub Leaves : Kind → State → Notice → Type 0
Leaves kind state n = (state ≡ states.Preparing → AnswersSeat n → ⊥) × ((state ≡ states.Committing → n ≡ notices.Committed → ⊥) × (kind ≡ kinds.Durable → n ≡ notices.Prepared → state ≡ states.Prepared))

-- whether it does, with what is posted
abbrev pub LeavesAs : List Post → Enlistment → Notice → Type 0
LeavesAs ps s n =
    (s.state ≡ states.Preparing → AnswersSeat n → ⊥) × ((s.state ≡ states.Committing → n ≡ notices.Committed → ⊥)
    × (s.kind ≡ kinds.Durable → n ≡ notices.Prepared → (s.state ≡ states.Prepared) ⊎ IsTold ps s))

pub unanswered_all : (e : Event) (t : Transaction) (s : Enlistment) (n : Notice) (ps : List Post) (seats : List Enlistment) → ParticipantSaid n e t s
    → AllByRecursion (λ x. x.number ≡ s.number → x ≡ s) seats → LeavesAs ps s n → AllByRecursion (Unheard e t ps) seats
unanswered_all e t s n ps [] said h l = tt
unanswered_all e t s n ps (x ∷ xs) said (h, hs) (a, (b, c)) = (
  (
    (λ d k. a (subst (λ y. y.state ≡ states.Preparing) (is k.0 k.2) d) (subst AnswersSeat (one_notice e t n k.0 s x said k.2) k.1)),
    (
      (λ d k. b (subst (λ y. y.state ≡ states.Committing) (is notices.Committed k) d) (sym (one_notice e t n notices.Committed s x said k))),
      (λ d k. subst (λ y. (y.state ≡ states.Prepared) ⊎ IsTold ps y) (sym (is notices.Prepared k))
          (c (subst (λ y. y.kind ≡ kinds.Durable) (is notices.Prepared k) d) (sym (one_notice e t n notices.Prepared s x said k)))),
    ),
  ),
  unanswered_all e t s n ps xs said hs (a, (b, c)),
)
  where
    is : (v : Notice) → ParticipantSaid v e t x → x ≡ s
    is v k = h (one_number e t n v s x said k)

-- A seat that goes into another state.
abbrev pub Goes : Kind → State → Notice → State → Type 0
Goes kind state n new =
    (new ≡ states.Preparing → ⊥) × ((new ≡ states.Committing → ⊥) × ((state ≡ states.Prepared → ⊥) × (n ≡ notices.Prepared → new ≡ states.Prepared)))

pub goes_owed : (m : Moment) (e : Event) (t : Transaction) (s : Enlistment) (n : Notice) (new : State) (seats : List Enlistment) → ParticipantSaid n e t s
    → AllByRecursion (λ x. x.number ≡ s.number → x ≡ s) seats → Goes s.kind s.state n new → Pairs (IsOwed m.base e t []) seats (moved (λ x. nat_eq x.number s.number) new seats)
goes_owed m e t s n new [] said h g = tt
goes_owed m e t s n new (x ∷ xs) said (h, hs) g = (one (nat_eq x.number s.number) refl, goes_owed m e t s n new xs said hs g)
  where
    other : nat_eq x.number s.number ≡ false → {v : Notice} → ParticipantSaid v e t x → ⊥
    other f {v = v} k = let same : nat_eq s.number s.number ≡ false = subst (λ y. nat_eq y s.number ≡ false) (one_number e t n v s x said k) f in let true_so : nat_eq s.number s.number ≡ true = eq-eqb s.number s.number refl in cc

    one : (b : Bool) → nat_eq x.number s.number ≡ b → IsOwed m.base e t [] x (record x { state = if b then new else x.state })
    one true f =
        let same : x ≡ s = h (eqb-true x.number s.number f) in
        ((refl, λ d p. inl (by_case same p)), ((λ d. absurd (g.0 d)), (λ d. absurd (g.1.0 d))))
      where
        by_case : x ≡ s → SaysPrepared e t x → new ≡ states.Prepared
        by_case same (inl p) = absurd (g.1.1.0 (subst (λ y. y.state ≡ states.Prepared) same p))
        by_case same (inr p) = g.1.1.1 (sym (one_notice e t n notices.Prepared s x said p))
    one false f =
        ((refl, λ d p. inl (by_case p)), ((λ d. inl (d, λ k. other f k.2)), (λ d. inl (d, λ k. other f k))))
      where
        by_case : SaysPrepared e t x → x.state ≡ states.Prepared
        by_case (inl p) = p
        by_case (inr p) = absurd (other f p)

pub goes_are : (p : Kind → State → Bool) (s : Enlistment) (new : State) (seats : List Enlistment) → p s.kind new ≡ true → AllByRecursion (λ x. x.number ≡ s.number → x ≡ s) seats → Are p seats
    → Are p (moved (λ x. nat_eq x.number s.number) new seats)
goes_are p s new [] h i a = tt
goes_are p s new (x ∷ xs) h (i, is) (a, as_they) = (one (nat_eq x.number s.number) refl, goes_are p s new xs h is as_they)
  where
    one : (b : Bool) → nat_eq x.number s.number ≡ b → p x.kind (if b then new else x.state) ≡ true
    one true f = subst (λ y. p y.kind new ≡ true) (sym (i (eqb-true x.number s.number f))) h
    one false f = a

-- an open seat hears of the abort
pub open_pairs : (e : Event) (t : Transaction) (s : Enlistment) (n : Notice) (ps : List Post) (seats : List Enlistment) → ParticipantSaid n e t s → AllByRecursion (λ x. x.number ≡ s.number → x ≡ s) seats
    → is_open s ≡ true → Pairs (IsOpened e t ps) seats seats
open_pairs e t s n ps [] said h o = tt
open_pairs e t s n ps (x ∷ xs) said (h, hs) o = ((refl, λ d p. inl (by_case p)), open_pairs e t s n ps xs said hs o)
  where
    open_so : (z : State) → z ≡ states.Prepared → (is_state z states.Active || is_state z states.Preparing || is_state z states.Prepared) ≡ true
    open_so z f = subst (λ y. (is_state y states.Active || is_state y states.Preparing || is_state y states.Prepared) ≡ true) (sym f) refl

    by_case : SaysPrepared e t x → is_open x ≡ true
    by_case (inl p) = open_so x.state p
    by_case (inr p) = subst (λ y. is_open y ≡ true) (sym (h (one_number e t n notices.Prepared s x said p))) o
