-- Each step posts what it owes the participants of its seats.
use Rattle.std.specs.Prelude.{ℕ, List, [], ◌∷◌, ◌++◌, Option, Some, None, Bool, true, false, nat_eq, ◌&&◌, if◌then◌else◌, map, ◌≡◌, refl}
use Rattle.std.specs.List.{AllByRecursion}
use Rattle.std.proofs.Common.{eq-eqb, inl, inr, ap, sym, subst, ◌∙◌}
use Rattle.at_base.specs.Numbers.{Numbers}
use Rattle.at_base.specs.declared.notice.Kind.{Kind}
use Rattle.at_base.specs.declared.notice.Kind.TheVariants as kinds
use Rattle.at_base.specs.declared.notice.Notice.{Notice}
use Rattle.at_base.specs.declared.notice.Notice.TheVariants as notices
use Rattle.at_base.specs.declared.message.Message.{Message}
use Rattle.at_base.specs.declared.message.Message.TheVariants as messages
use Rattle.at_base.specs.declared.target.Seat.{Seat}
use Rattle.at_base.specs.declared.target.Target.{Target}
use Rattle.at_base.specs.declared.target.Target.TheVariants as targets
use Rattle.at_base.specs.declared.event.Arrived.{Arrived}
use Rattle.at_base.specs.declared.event.Event.{Event}
use Rattle.at_base.specs.declared.event.Event.TheVariants as events
use Rattle.at_base.specs.declared.event.Moment.{Moment}
use Rattle.at_base.specs.declared.outs.Out.{Out}
use Rattle.at_base.specs.declared.outs.Out.TheVariants as outs
use Rattle.at_base.specs.declared.outs.Post.{Post}
use Rattle.at_tables.specs.declared.cells.State.TheVariants as states
use Rattle.at_tables.specs.declared.cells.Cell.{Cell}
use Rattle.at_base.specs.Names.{is_kind}
use Rattle.at_tables.specs.Tables.{coordinator_of}
use Rattle.at_model.specs.Book.{Book, Enlistment, Transaction, find_by, is_id, put_by, transaction_id}
use Rattle.at_model.specs.Moves.{Decision, Goes, Records}
use Rattle.at_model.specs.Posts.{accepted}
use Rattle.at_model.specs.Arrivals.{on_seat, with_answer}
use Rattle.at_model.specs.Step.{Plan, arrived_plan, at_time, coordinator_plan, find_seat, moment_of, plan_of, put_transaction, seat_plan, stranger_cell, stranger_plan, transaction_at}
use Rattle.model_laws.specs.Agreement.{IsIn}
use Rattle.model_laws.specs.Order.{AreRising}
use Rattle.model_laws.specs.Shapes.{IsAnswer, IsAtSeat, at_seat}
use Rattle.model_laws.proofs.DecisionLaws.{IfThere, all_find, found_id}
use Rattle.model_laws.proofs.LinkDecisions.{Linked}
use Rattle.model_laws.proofs.RecoveryLaws.{same_id, self_id}
use Rattle.agreement.specs.Deeds.{ParticipantSaid}
use Rattle.agreement.specs.FinishedTransactions.{IsFinished}
use Rattle.agreement.proofs.OtherIds.{find_other, find_this}
use Rattle.enlistments.specs.Moves.{IsReady}
use Rattle.owed.specs.Seats.{AreOwed, IsNew, IsOwed, Pairs, PairsOrNew, posts_of}
use Rattle.owed.specs.Shape.{AreShaped, IsShaped}
use Rattle.owed.proofs.AtSeats.{Unheard, same_owed}
use Rattle.owed.proofs.Rules.{LeftIn, Owes}
use Rattle.owed.proofs.Steps.{moved_owes}

-- posts
pub posts_all : (answer : List Out) (ps : List Post) → IsAnswer answer → posts_of (answer ++ map outs.Post ps) ≡ ps
posts_all answer ps (inl e) = subst (λ a. posts_of (a ++ map outs.Post ps) ≡ ps) (sym e) (all ps)
  where
    all : (qs : List Post) → posts_of (map outs.Post qs) ≡ qs
    all [] = refl
    all (q ∷ qs) = ap (λ z. q ∷ z) (all qs)
posts_all answer ps (inr e) = subst (λ a. posts_of (a ++ map outs.Post ps) ≡ ps) (sym e) (all ps)
  where
    all : (qs : List Post) → posts_of (map outs.Post qs) ≡ qs
    all [] = refl
    all (q ∷ qs) = ap (λ z. q ∷ z) (all qs)

pub or_new : (R : Enlistment → Enlistment → Type 0) (N : Enlistment → Type 0) (olds news : List Enlistment) → Pairs R olds news → PairsOrNew R N olds news
or_new R N [] [] h = tt
or_new R N [] (n ∷ ns) h = absurd h
or_new R N (o ∷ os) [] h = absurd h
or_new R N (o ∷ os) (n ∷ ns) (h, k) = (h, or_new R N os ns k)

-- no seat of the transaction hears anything
abbrev pub HearsNothing : Event → Transaction → Type 0
HearsNothing e t = (n : Notice) (s : Enlistment) → IsIn s t.seats → ParticipantSaid n e t s → ⊥

unheard_in : (e : Event) (t : Transaction) (ps : List Post) (seats : List Enlistment) → ((n : Notice) (s : Enlistment) → IsIn s seats → ParticipantSaid n e t s → ⊥) → AllByRecursion (Unheard e t ps) seats
unheard_in e t ps [] q = tt
unheard_in e t ps (s ∷ ss) q =
    (((λ d k. q k.0 s (inl refl) k.2), ((λ d k. q notices.Committed s (inl refl) k), (λ d k. absurd (q notices.Prepared s (inl refl) k)))), unheard_in e t ps ss (λ n x i. q n x (inr i)))

-- a transaction that is as it was
pub same_so : (m : Moment) (e : Event) (ps : List Post) (o : Option Transaction) → ((t : Transaction) → o ≡ Some t → HearsNothing e t) → AreOwed m.base e ps o o
same_so m e ps None q = tt
same_so m e ps (Some t) q = (refl, or_new (IsOwed m.base e t ps) (IsNew m.base t ps) t.seats t.seats (same_owed m e t ps t.seats (unheard_in e t ps t.seats (q t refl))))

left_owed : (m : Moment) (e : Event) (t : Transaction) (ps : List Post) (o : Option Transaction) → LeftIn m e t ps o → AreOwed m.base e ps (Some t) o
left_owed m e t ps None h = h
left_owed m e t ps (Some x) (h, (i, k)) = (i, or_new (IsOwed m.base e t ps) (IsNew m.base t ps) t.seats x.seats k)

pub left_id : (m : Moment) (e : Event) (t : Transaction) (ps : List Post) (o : Option Transaction) → LeftIn m e t ps o → IfThere (λ x. transaction_id x ≡ t.id) o
left_id m e t ps None h = tt
left_id m e t ps (Some x) (h, (i, k)) = i

-- one transaction moves
pub one_moves : (m : Moment) (e : Event) (b : Book) (t : Transaction) (ps : List Post) (new : Option Transaction) (i : Numbers) → AreRising (map transaction_id b.transactions) → transaction_at b t.id ≡ Some t
    → ((u : Transaction) → (u.id ≡ t.id → ⊥) → transaction_at b u.id ≡ Some u → HearsNothing e u) → IfThere (λ x. transaction_id x ≡ t.id) new → AreOwed m.base e ps (Some t) new
    → AreOwed m.base e ps (transaction_at b i) (find_by transaction_id i (put_by transaction_id t.id new b.transactions))
one_moves m e b t ps new i rising stands others own h = by_case (is_id t.id i) refl
  where
    differs : is_id t.id i ≡ false → (u : Transaction) → u.id ≡ i → u.id ≡ t.id → ⊥
    differs f u g k = let z : is_id t.id t.id ≡ false = subst (λ x. is_id t.id x ≡ false) (sym g ∙ k) f in let y : is_id t.id t.id ≡ true = self_id t.id in absurd cc

    by_case : (c : Bool) → is_id t.id i ≡ c → AreOwed m.base e ps (transaction_at b i) (find_by transaction_id i (put_by transaction_id t.id new b.transactions))
    by_case true f =
        subst (λ j. AreOwed m.base e ps (transaction_at b j) (find_by transaction_id j (put_by transaction_id t.id new b.transactions))) (same_id t.id i f)
        (subst (λ x. AreOwed m.base e ps x (find_by transaction_id t.id (put_by transaction_id t.id new b.transactions))) (sym stands)
        (subst (λ x. AreOwed m.base e ps (Some t) x) (sym (find_this transaction_id t.id t new b.transactions rising stands own)) h))
    by_case false f =
        subst (λ x. AreOwed m.base e ps (transaction_at b i) x) (sym (find_other transaction_id t.id i new b.transactions own f))
        (same_so m e ps (transaction_at b i)
        (λ u found. let same : u.id ≡ i = found_id transaction_id i b.transactions u found in
        others u (differs f u same) (subst (λ j. transaction_at b j ≡ Some u) (sym same) found)))

pub decision_owed : (m : Moment) (e : Event) (b : Book) (now : ℕ) (t : Transaction) (answer : List Out) (d : Decision Transaction) (i : Numbers) → AreRising (map transaction_id b.transactions)
    → transaction_at b t.id ≡ Some t → ((u : Transaction) → (u.id ≡ t.id → ⊥) → transaction_at b u.id ≡ Some u → HearsNothing e u) → IsAnswer answer → Owes m e t d
    → AreOwed m.base e (posts_of (plan_of b (put_transaction t.id (at_time now b)) answer d).landed.outs) (transaction_at b i)
    (transaction_at (plan_of b (put_transaction t.id (at_time now b)) answer d).landed.book i)
decision_owed m e b now t answer (Goes c) i rising stands others o h =
    subst (λ ps. AreOwed m.base e ps (transaction_at b i) (find_by transaction_id i (put_by transaction_id t.id c.item b.transactions))) (sym (posts_all answer c.posts o))
    (one_moves m e b t c.posts c.item i rising stands others (left_id m e t c.posts c.item h) (left_owed m e t c.posts c.item h))
decision_owed m e b now t answer (Records r c absent) i rising stands others o h =
    subst (λ ps. AreOwed m.base e ps (transaction_at b i) (find_by transaction_id i (put_by transaction_id t.id c.item b.transactions))) (sym (posts_all answer c.posts o))
    (one_moves m e b t c.posts c.item i rising stands others (left_id m e t c.posts c.item h.landed) (left_owed m e t c.posts c.item h.landed))

-- A message for a seat.
sits_found : (number : ℕ) (kind : Kind) (seats : List Enlistment) (s : Enlistment) → s.number ≡ number → s.kind ≡ kind → IsIn s seats → find_seat number kind seats ≡ None → ⊥
sits_found number kind [] s e f i g = i
sits_found number kind (x ∷ xs) s e f i g = by_test (sits_found number kind xs s e f) (nat_eq x.number number && is_kind x.kind kind) refl i g
  where
    itself : (k : Kind) → is_kind k k ≡ true
    itself kinds.Volatile = refl
    itself kinds.Durable = refl

    by_test : (IsIn s xs → find_seat number kind xs ≡ None → ⊥) → (b : Bool) → (nat_eq x.number number && is_kind x.kind kind) ≡ b → IsIn s (x ∷ xs)
        → (if b then Some x else find_seat number kind xs) ≡ None → ⊥
    by_test rest true j k l = cc
    by_test rest false j (inr k) l = rest k l
    by_test rest false j (inl k) l =
        let n : nat_eq x.number number ≡ true = eq-eqb x.number number (sym (ap (λ y. y.number) k) ∙ e) in
        let o : is_kind x.kind kind ≡ true = subst (λ y. is_kind y kind ≡ true) (sym (sym (ap (λ y. y.kind) k) ∙ f)) (itself kind) in
        no_both (nat_eq x.number number) (is_kind x.kind kind) n o j
      where
        no_both : (p q : Bool) → p ≡ true → q ≡ true → (p && q) ≡ false → ⊥
        no_both true true u v w = cc
        no_both true false u v w = cc
        no_both false q u v w = cc

abbrev id_in : Target → Numbers
id_in (targets.Coordinator id seat) = id
id_in (targets.Registration id) = id
id_in (targets.Completion id) = id
id_in (targets.Participant id kind) = id
id_in (targets.Initiator id) = id
id_in targets.Activation = record { incarnation = 0; counter = 0 }
id_in targets.Work = record { incarnation = 0; counter = 0 }

abbrev seat_in_target : Target → Seat
seat_in_target (targets.Coordinator id seat) = seat
seat_in_target other = record { number = 0; kind = kinds.Volatile }

said_at : (a : Arrived) (t : Transaction) (id : Numbers) (seat : Seat) (n : Notice) (s : Enlistment) → a.target ≡ targets.Coordinator id seat → ParticipantSaid n (events.Arrived a) t s
    → targets.Coordinator t.id (record { number = s.number; kind = s.kind }) ≡ targets.Coordinator id seat
said_at a t id seat n s at h =
    let came : events.Arrived a ≡ events.Arrived h.message = h.came in
    let same : h.message ≡ a = cc in
    sym h.target ∙ (ap (λ (x : Arrived). x.target) same ∙ at)

-- whose seats the message isn't for
others_hear : (a : Arrived) (id : Numbers) (seat : Seat) → a.target ≡ targets.Coordinator id seat → (u : Transaction) → (u.id ≡ id → ⊥) → HearsNothing (events.Arrived a) u
others_hear a id seat at u f n s i h = f (ap id_in (said_at a u id seat n s at h))

unseated : (a : Arrived) (id : Numbers) (seat : Seat) (t : Transaction) → a.target ≡ targets.Coordinator id seat → find_seat seat.number seat.kind t.seats ≡ None → HearsNothing (events.Arrived a) t
unseated a id seat t at f n s i h =
    let same : record { number = s.number; kind = s.kind } ≡ seat = ap seat_in_target (said_at a t id seat n s at h) in
    sits_found seat.number seat.kind t.seats s (ap (λ (x : Seat). x.number) same) (ap (λ (x : Seat). x.kind) same) i f

abbrev Fine : Book → Event → Numbers → Plan → Type 0
Fine b e i p = AreOwed b.base e (posts_of p.landed.outs) (transaction_at b i) (transaction_at p.landed.book i)

stranger_fine : (b : Book) (now : ℕ) (a : Arrived) (table : Notice → Option Cell) (x : Message) (i : Numbers) → ((u : Transaction) → transaction_at b i ≡ Some u → HearsNothing (events.Arrived a) u)
    → Fine b (events.Arrived a) i (stranger_plan b now a table x)
stranger_fine b now a table (messages.Notice n) i q =
    same_so (moment_of b now) (events.Arrived a) (posts_of (accepted ++ map outs.Post (stranger_cell b.base a.target a.from a.id (table n)))) (transaction_at b i) q
stranger_fine b now a table other i q = same_so (moment_of b now) (events.Arrived a) [] (transaction_at b i) q

not_there : (b : Book) (id i : Numbers) (u : Transaction) → transaction_at b id ≡ None → transaction_at b i ≡ Some u → u.id ≡ id → ⊥
not_there b id i u none found same =
    let k : i ≡ id = sym (found_id transaction_id i b.transactions u found) ∙ same in
    let f : transaction_at b id ≡ Some u = subst (λ j. transaction_at b j ≡ Some u) k found in
    cc

seat_fine : (b : Book) (now : ℕ) (a : Arrived) (id : Numbers) (seat : Seat) (t : Transaction) (o : Option Enlistment) (i : Numbers) → a.target ≡ targets.Coordinator id seat → IsReady b → AreShaped b
    → transaction_at b id ≡ Some t → find_seat seat.number seat.kind t.seats ≡ o → Fine b (events.Arrived a) i (seat_plan b now a seat.kind t o)
seat_fine b now a id seat t None i at ready shaped found none =
    stranger_fine b now a (coordinator_of seat.kind states.None) a.message i
    (λ u stands. by_case u stands (is_id u.id id) refl)
  where
    by_case : (u : Transaction) → transaction_at b i ≡ Some u → (c : Bool) → is_id u.id id ≡ c → HearsNothing (events.Arrived a) u
    by_case u stands true f =
        let k : i ≡ id = sym (found_id transaction_id i b.transactions u stands) ∙ same_id u.id id f in
        let g : transaction_at b id ≡ Some u = subst (λ j. transaction_at b j ≡ Some u) k stands in
        let same : t ≡ u = cc in
        subst (HearsNothing (events.Arrived a)) same (unseated a id seat t at none)
    by_case u stands false f = others_hear a id seat at u (λ g. let z : is_id id id ≡ false = subst (λ x. is_id x id ≡ false) g f in let y : is_id id id ≡ true = self_id id in absurd cc)
seat_fine b now a id seat t (Some s) i at ready shaped found sits =
    let own : t.id ≡ id = found_id transaction_id id b.transactions t found in
    let here : transaction_at b t.id ≡ Some t = subst (λ j. transaction_at b j ≡ Some t) (sym own) found in
    let why : IsAtSeat a t s = record { number = seat.number; kind = seat.kind; target = at ∙ ap (λ j. targets.Coordinator j seat) (sym own); found = sits } in
    decision_owed (moment_of b now) (events.Arrived a) b now t accepted (with_answer (moment_of b now) t (on_seat (moment_of b now) a t s a.message)) i ready.order.rising.transactions here
    (λ u f g. others_hear a id seat at u (λ k. f (k ∙ sym own))) (inr refl)
    (moved_owes b (events.Arrived a) now t (on_seat (moment_of b now) a t s a.message) (all_find IsShaped transaction_id id b.transactions t shaped found)
    (all_find Linked transaction_id id b.transactions t ready.phases.links found) (all_find IsFinished transaction_id id b.transactions t ready.finished found) (at_seat a s refl why refl))

coordinator_fine : (b : Book) (now : ℕ) (a : Arrived) (id : Numbers) (seat : Seat) (o : Option Transaction) (i : Numbers) → a.target ≡ targets.Coordinator id seat → IsReady b → AreShaped b
    → transaction_at b id ≡ o → Fine b (events.Arrived a) i (coordinator_plan b now a seat.number seat.kind o)
unfolding coordinator_plan
coordinator_fine b now a id seat None i at ready shaped none =
    stranger_fine b now a (coordinator_of seat.kind states.None) a.message i (λ u stands. others_hear a id seat at u (not_there b id i u none stands))
coordinator_fine b now a id seat (Some t) i at ready shaped found = seat_fine b now a id seat t (find_seat seat.number seat.kind t.seats) i at ready shaped found refl

pub at_coordinator : (b : Book) (now : ℕ) (a : Arrived) (id : Numbers) (seat : Seat) (i : Numbers) → a.target ≡ targets.Coordinator id seat → IsReady b → AreShaped b
    → Fine b (events.Arrived a) i (arrived_plan b now a (targets.Coordinator id seat))
unfolding arrived_plan
at_coordinator b now a id seat i at ready shaped = coordinator_fine b now a id seat (transaction_at b id) i at ready shaped refl
