-- A transaction that a step forgets has aborted, or each of its durable participants is over.
use Rattle.std.specs.Prelude.{ℕ, List, [], ◌∷◌, ◌++◌, Option, Some, None, Bool, true, false, if◌then◌else◌, not, ◌&&◌, nat_eq, map, ◌≡◌, ◌⊎◌, refl}
use Rattle.std.specs.List.{list_any, AllByRecursion}
use Rattle.std.proofs.Common.{inl, inr, sym, subst, ap, ◌∙◌}
use Rattle.std.proofs.lemmas.Bool.{eqb-true, eqb-false}
use Rattle.at_base.specs.Numbers.{Numbers}
use Rattle.at_base.specs.declared.notice.Kind.TheVariants as kinds
use Rattle.at_base.specs.declared.notice.Notice.TheVariants as notices
use Rattle.at_base.specs.declared.event.Event.{Event}
use Rattle.at_base.specs.declared.record.Record.{Record}
use Rattle.at_tables.specs.declared.cells.State.{State}
use Rattle.at_tables.specs.declared.cells.State.TheVariants as states
use Rattle.at_tables.specs.Names.{is_state}
use Rattle.at_base.specs.Names.{is_kind}
use Rattle.at_model.specs.Book.{Book, Enlistment, Phase, Transaction, find_by, is_id, put_by, transaction_id}
use Rattle.at_model.specs.Due.{may_expire}
use Rattle.at_model.specs.Moves.{Change}
use Rattle.at_model.specs.Register.{on_register}
use Rattle.at_model.specs.Seats.{all_left, in_state, is_durable, is_prepared_durable}
use Rattle.at_model.specs.Step.{Outcome, moment_of, plan, step, transaction_at}
use Rattle.at_model.specs.World.{Node, Who, World, accepted_seat, nth, Hosts}
use Rattle.model_laws.specs.Agreement.{HasAborted, HasCommitted, HasPosted, IsIn}
use Rattle.model_laws.specs.PhaseAnswers.{IsUnanswered}
use Rattle.model_laws.specs.DrawnIds.{with_entry}
use Rattle.model_laws.specs.Growth.{Grows}
use Rattle.model_laws.specs.Order.{IsInOrder}
use Rattle.model_laws.specs.ReachedWorlds.{counts}
use Rattle.model_laws.proofs.DecisionLaws.{IfThere, all_find, found_id}
use Rattle.model_laws.proofs.Registrations.{nodes_of}
use Rattle.model_laws.proofs.Growth.{grows_counts}
use Rattle.model_laws.proofs.RecoveryLaws.{same_id}
use Rattle.model_laws.proofs.NodeLives.{put_other, put_this}
use Rattle.agreement.specs.Deeds.{AreCounted, Becomes, Deed, How, IsSameIfLeft, StandsOn, StoodFor, happens}
use Rattle.agreement.specs.StepDeeds.{Done, did, elsewhere, made, registered, standing, undone}
use Rattle.agreement.specs.Lives.{book_of, happened_on}
use Rattle.agreement.specs.Lives.{standing as standing_book}
use Rattle.agreement.proofs.SeatedEntries.{one_of}
use Rattle.agreement.proofs.StepDeeds.{steps_do}
use Rattle.agreement.proofs.OtherIds.{find_other, find_this}
use Rattle.votes.specs.NamedParticipants.{HasSeat, KeepsItsDurable, registration}
use Rattle.votes.specs.ToldOutcomes.{GoneIsOver, IsHeld}
use Rattle.votes.specs.VotesAndOutcomes.{IsOutcome}
use Rattle.votes.specs.SeatStates.{SeatSays, SeatTells}
use Rattle.votes.proofs.ItemEnds.{IsOpen, aborts_here, not_aborted_open, not_committed_open}
use Rattle.votes.proofs.Growth.{aborted_on, committed_on, posted_on}
use Rattle.votes.proofs.Registrations.{JoinsOpen, seat_joins}
use Rattle.votes.proofs.KeptSeats.{kept_before}
use Rattle.votes.proofs.StepItems.{did_abort, stands_as}
use Rattle.votes.proofs.Premises.{StepKeeps, StepPremises}
use Rattle.votes.proofs.SeatsAt.{SeatOf, any_of, at_entries, durable_says, has_answered, has_entry, open_there, own_kind, seat_of, seats_at}

-- it is over for this durable participant
abbrev pub IsOver : World → Who → Who → Type 0
IsOver w t y = HasAborted w t ⊎ (HasPosted w y kinds.Durable notices.ReadOnly ⊎ HasCommitted w y)

pub over_on : (u w : World) → Grows u w → (t y : Who) → IsOver u t y → IsOver w t y
over_on u w g t y (inl a) = inl (aborted_on u w g t a)
over_on u w g t y (inr (inl r)) = inr (inl (posted_on u w g y kinds.Durable notices.ReadOnly r))
over_on u w g t y (inr (inr c)) = inr (inr (committed_on u w g y c))

-- every durable seat has left
is_none_state : (state : State) → (not (is_state state states.None) ≡ true → ⊥) → state ≡ states.None
is_none_state states.None f = refl
is_none_state other f = absurd (f refl)

two_ways : (c : Bool) → c ≡ true → not c ≡ true → ⊥
two_ways c e f = cc

left_none : (seats : List Enlistment) (s : Enlistment) → all_left seats ≡ true → IsIn s seats → s.kind ≡ kinds.Durable → s.state ≡ states.None
left_none seats s all i k =
    is_none_state s.state
    (λ e. two_ways (list_any (λ z. is_durable z && not (in_state states.None z)) seats)
    (any_of (λ z. is_durable z && not (in_state states.None z)) seats s i
    (ap (λ c. c && not (is_state s.state states.None)) (ap (λ z. is_kind z kinds.Durable) k ∙ own_kind kinds.Durable) ∙ e)) all)

none_says : (u : World) (w y : Who) → SeatSays u w y kinds.Durable states.None → IsOver u w y
none_says u w y (inl a) = inl a
none_says u w y (inr (inl r)) = inr (inl r)
none_says u w y (inr (inr (c, k))) = inr (inr c)

-- by the deed that forgets it
no_one_prepared : (seats : List Enlistment) (s : Enlistment) → list_any is_prepared_durable seats ≡ false → IsIn s seats → s.kind ≡ kinds.Durable → s.state ≡ states.Prepared → ⊥
no_one_prepared seats s none i k e =
    both (list_any is_prepared_durable seats) (any_of is_prepared_durable seats s i (λ j. is_kind (k j) kinds.Durable && is_state (e j) states.Prepared)) none
  where
    both : (c : Bool) → c ≡ true → c ≡ false → ⊥
    both c f h = cc

says_at : (hosts : Hosts) (u : World) (w : Who) (at : List Enlistment) (number : ℕ) (y : Who) → AllByRecursion (SeatTells hosts u w) at → (s : SeatOf hosts at number kinds.Durable y)
    → SeatSays u w y kinds.Durable s.seat.state
says_at hosts u w at number y tells s = subst (λ k. SeatSays u w y k s.seat.state) s.kind_is (one_of (SeatTells hosts u w) at s.seat tells s.among y s.named)

left_over : (hosts : Hosts) (u : World) (n : ℕ) (x : Node) (b : Book) (e : Event) → StepPremises hosts u n x b e → (t : Transaction) → transaction_at b t.id ≡ Some t → may_expire t.phase ≡ true
    → (at : List Enlistment) → AreCounted e t t.seats at → AllByRecursion (SeatTells hosts u (record { node = n; id = t.id })) at
    → ((s : Enlistment) → IsIn s at → s.kind ≡ kinds.Durable → IsUnanswered s.state → ⊥) → list_any is_prepared_durable at ≡ false → (number : ℕ) (y : Who)
    → HasSeat u (record { node = n; id = t.id }) number kinds.Durable y → IsOver u (record { node = n; id = t.id }) y
left_over hosts u n x b e p t found undecided at c tells all none number y i = either (durable_says u w y s.seat.state (not_committed_open u n x.journal t.id here)
    (not_aborted_open u n x.journal t.id here) (all s.seat s.among s.kind_is) (says_at hosts u w at number y tells s))
  where
    w : Who
    w = record { node = n; id = t.id }

    here : IsOpen x.journal (happened_on n u.happened) t.id
    here = open_there hosts u n x b e p t found undecided

    s : SeatOf hosts at number kinds.Durable y
    s =
        seat_of hosts n t.id at number kinds.Durable y
        (subst (IsIn (registration w number kinds.Durable y)) (at_entries hosts n t.id e t at c) (has_entry hosts u n x b e p t found undecided number kinds.Durable y i))

    either : HasPosted u y kinds.Durable notices.ReadOnly ⊎ ((s.seat.state ≡ states.Prepared) × HasPosted u y kinds.Durable notices.Prepared) → IsOver u w y
    either (inl r) = inr (inl r)
    either (inr (f, h)) = absurd (no_one_prepared at s.seat none s.among s.kind_is f)

ended_over : (hosts : Hosts) (u : World) (n : ℕ) (x : Node) (b : Book) (e : Event) → StepPremises hosts u n x b e → IsOutcome hosts u → (t : Transaction) → transaction_at b t.id ≡ Some t
    → t.phase ≡ Phase.Committing → (at : List Enlistment) → AreCounted e t t.seats at → AllByRecursion (SeatTells hosts u (record { node = n; id = t.id })) at → all_left at ≡ true → (number : ℕ) (y : Who)
    → HasSeat u (record { node = n; id = t.id }) number kinds.Durable y → IsOver u (record { node = n; id = t.id }) y
ended_over hosts u n x b e p j t found phase at c tells all number y i = either (kept (inr phase) number y i)
  where
    w : Who
    w = record { node = n; id = t.id }

    kept : KeepsItsDurable hosts u n t
    kept = all_find (KeepsItsDurable hosts u n) transaction_id t.id b.transactions t (kept_before hosts u n x b e p j) found

    at_seat : SeatOf hosts at number kinds.Durable y → IsOver u w y
    at_seat s = none_says u w y (subst (SeatSays u w y kinds.Durable) (left_none at s.seat all s.among s.kind_is) (says_at hosts u w at number y tells s))

    either : HasPosted u y kinds.Durable notices.ReadOnly ⊎ IsIn (registration w number kinds.Durable y) (map (accepted_seat n (nodes_of hosts) t.id) t.seats) → IsOver u w y
    either (inl r) = inr (inl r)
    either (inr k) = at_seat (seat_of hosts n t.id at number kinds.Durable y (subst (IsIn (registration w number kinds.Durable y)) (at_entries hosts n t.id e t at c) k))

forgotten_over : (hosts : Hosts) (u : World) (n : ℕ) (x : Node) (b : Book) (e : Event) (now : ℕ) (landed : Bool) → StepPremises hosts u n x b e → IsOutcome hosts u → (t : Transaction)
    → transaction_at b t.id ≡ Some t → (how : How) (at : List Enlistment) → AreCounted e t t.seats at → StoodFor how t → StandsOn how at → Becomes how t at None
    → (step b e now landed).effects ≡ happens how t → (number : ℕ) (y : Who) → HasSeat u (record { node = n; id = t.id }) number kinds.Durable y
    → IsOver (counts u n x b e now landed) (record { node = n; id = t.id }) y
forgotten_over hosts u n x b e now landed p j t found How.Aborts at c stood stands becomes is number y i = inl (inl (did_abort u n x b e now landed t How.Aborts is tt))
forgotten_over hosts u n x b e now landed p j t found How.RollsBack at c stood stands becomes is number y i = inl (inl (did_abort u n x b e now landed t How.RollsBack is tt))
forgotten_over hosts u n x b e now landed p j t found How.Leaves at c stood stands becomes is number y i =
    over_on u (counts u n x b e now landed) (grows_counts u n x b e now landed p.found) (record { node = n; id = t.id }) y
    (left_over hosts u n x b e p t found stood.0 at c (seats_at hosts u n x b e now landed p j t found How.Leaves (λ a. a) is at c) (λ s k d. has_answered kinds.Durable at s stands.0.1 k d) stands.1 number y i)
forgotten_over hosts u n x b e now landed p j t found How.DecidesAlone at c stood stands becomes is number y i =
    over_on u (counts u n x b e now landed) (grows_counts u n x b e now landed p.found) (record { node = n; id = t.id }) y
    (left_over hosts u n x b e p t found stood.0 at c (seats_at hosts u n x b e now landed p j t found How.DecidesAlone (λ a. a) is at c) (λ s k d. has_answered kinds.Durable at s stands.0.1 k d) stands.1 number y i)
forgotten_over hosts u n x b e now landed p j t found How.Ends at c stood stands becomes is number y i =
    over_on u (counts u n x b e now landed) (grows_counts u n x b e now landed p.found) (record { node = n; id = t.id }) y
    (ended_over hosts u n x b e p j t found stood at c (seats_at hosts u n x b e now landed p j t found How.Ends (λ a. a) is at c) stands number y i)
forgotten_over hosts u n x b e now landed p j t found How.Forgets at c stood stands becomes is number y i =
    inl (aborted_on u (counts u n x b e now landed) (grows_counts u n x b e now landed p.found) (record { node = n; id = t.id })
    (aborts_here u n x.journal t.id t refl (stands_as hosts u n x b e p t found) stood))
forgotten_over hosts u n x b e now landed p j t found other at c stood stands becomes is number y i = absurd becomes

-- what a step leaves in the book, and what it drops
record Dropped (e : Event) (entry : Option Record) (o : Outcome) (s : Transaction) : Type 0 where
  change : Change Transaction
  deed : Deed e s entry change
  none : change.item ≡ None
  effects : o.effects ≡ change.effects

abbrev Stays : Event → Option Record → Outcome → Numbers → Transaction → Type 0
Stays e entry o id s = ((new : Transaction) × (transaction_at o.book id ≡ Some new)) ⊎ Dropped e entry o s

found_front : {A : Type 0} (key : A → Numbers) (id : Numbers) (xs ys : List A) (s : A) → find_by key id xs ≡ Some s → find_by key id (xs ++ ys) ≡ Some s
found_front key id [] ys s e = absurd cc
found_front {A = A} key id (x ∷ xs) ys s e = by_case (is_id (key x) id) e (found_front key id xs ys s)
  where
    by_case : (c : Bool) → (if c then Some x else find_by key id xs) ≡ Some s → (find_by key id xs ≡ Some s → find_by key id (xs ++ ys) ≡ Some s)
        → (if c then Some x else find_by key id (xs ++ ys)) ≡ Some s
    by_case true f h = f
    by_case false f h = h f

the_same : {A : Type 0} (o : Option A) (x y : A) → o ≡ Some x → o ≡ Some y → x ≡ y
the_same o x y e f = cc

keeps_id : (t : Transaction) (left : Option Transaction) → IsSameIfLeft t left → IfThere (λ y. y.id ≡ t.id) left
keeps_id t None s = tt
keeps_id t (Some new) s = s.id

did_stay : (b : Book) (e : Event) (entry : Option Record) (o : Outcome) (id : Numbers) (s t : Transaction) (c : Change Transaction) → IsInOrder b → transaction_at b id ≡ Some s
    → transaction_at b t.id ≡ Some t → Deed e t entry c → o.book.transactions ≡ put_by transaction_id t.id c.item b.transactions → o.effects ≡ c.effects → Stays e entry o id s
did_stay b e entry o id s t c order found there d items effects = by_id (is_id t.id id) refl
  where
    dropped : t.id ≡ id → (item : Option Transaction) → c.item ≡ item → Stays e entry o id s
    dropped own None f =
        inr (subst (Dropped e entry o) (the_same (transaction_at b id) t s (subst (λ i. transaction_at b i ≡ Some t) own there) found)
        (record { change = c; deed = d; none = f; effects = effects }))
    dropped own (Some new) f =
        inl (
          new,
          ap (find_by transaction_id id) items ∙ ap (λ i. find_by transaction_id i (put_by transaction_id t.id c.item b.transactions)) (sym own)
              ∙ find_this transaction_id t.id t c.item b.transactions order.rising.transactions there (keeps_id t c.item d.same) ∙ f,
        )

    by_id : (k : Bool) → is_id t.id id ≡ k → Stays e entry o id s
    by_id true f = dropped (same_id t.id id f) c.item refl
    by_id false f = inl (s, ap (find_by transaction_id id) items ∙ find_other transaction_id t.id id c.item b.transactions (keeps_id t c.item d.same) f ∙ found)

put_stays : (b : Book) (id : Numbers) (s new : Transaction) → IsInOrder b → transaction_at b id ≡ Some s
    → (z : Transaction) × (find_by transaction_id id (put_by transaction_id new.id (Some new) b.transactions) ≡ Some z)
put_stays b id s new order found = by_id (is_id new.id id) refl
  where
    by_id : (k : Bool) → is_id new.id id ≡ k → (z : Transaction) × (find_by transaction_id id (put_by transaction_id new.id (Some new) b.transactions) ≡ Some z)
    by_id true f =
        let own : new.id ≡ id = same_id new.id id f in (
          new,
          ap (λ i. find_by transaction_id i (put_by transaction_id new.id (Some new) b.transactions)) (sym own)
              ∙ find_this transaction_id new.id s (Some new) b.transactions order.rising.transactions (ap (transaction_at b) own ∙ found) refl,
        )
    by_id false f = (s, find_other transaction_id new.id id (Some new) b.transactions refl f ∙ found)

done_stays : (b : Book) (e : Event) (now : ℕ) (entry : Option Record) (o : Outcome) (id : Numbers) (s : Transaction) → IsInOrder b → transaction_at b id ≡ Some s → Done b e now entry o
    → Stays e entry o id s
done_stays b e now entry o id s order found (did t c answer there d a items outs effects) = did_stay b e entry o id s t c order found there d items effects
done_stays b e now entry o id s order found (undone answer a none is) = inl (s, ap (λ (y : Outcome). transaction_at y.book id) is ∙ found)
done_stays b e now entry o id s order found (registered t a r there came at says none is) =
    let (z, k) = put_stays b id s (on_register (moment_of b now) a r t).transaction order found in inl (z, ap (λ (y : Outcome). transaction_at y.book id) is ∙ k)
done_stays b e now entry o id s order found (made t a c next_one came at says next born none items outs effects) =
    inl (s, ap (find_by transaction_id id) items ∙ found_front transaction_id id b.transactions (t ∷ []) s found)
done_stays b e now entry o id s order found (elsewhere none items roots) = inl (s, ap (find_by transaction_id id) items ∙ found)

pub gone_is_over_step : StepKeeps (λ hosts w. GoneIsOver w)
gone_is_over_step hosts u n x b e now landed p j t y number h = either (seat_joins hosts u n x b e now landed p t number kinds.Durable y h)
  where
    w : World
    w = counts u n x b e now landed

    g : Grows u w
    g = grows_counts u n x b e now landed p.found

    after : Book
    after = (step b e now landed).book

    behind_node : Node
    behind_node = record x { book = Some (step b e now landed).book; journal = with_entry (plan b e now).entry landed x.journal }

    held_here : t.node ≡ n → (new : Transaction) → transaction_at after t.id ≡ Some new → IsHeld w t
    held_here same new f =
        record { node = behind_node; found = ap (λ k. nth k w.nodes) same ∙ put_this u.nodes n x behind_node p.found; transaction = new; stands = f }

    here : t.node ≡ n → HasSeat u t number kinds.Durable y → (s : Transaction) → transaction_at b t.id ≡ Some s → IsHeld w t ⊎ IsOver w t y
    here same i s f = by_stay (done_stays b e now (standing landed (plan b e now).entry) (step b e now landed) t.id s p.ready.order f (steps_do.steps b e now landed p.ready.phases p.ready.finished))
      where
        own : s.id ≡ t.id
        own = found_id transaction_id t.id b.transactions s f

        whole : ◌≡◌ {A = Who} (record { node = n; id = s.id }) t
        whole k = record { node = sym same k; id = own k }

        by_stay : Stays e (standing landed (plan b e now).entry) (step b e now landed) t.id s → IsHeld w t ⊎ IsOver w t y
        by_stay (inl (new, k)) = inl (held_here same new k)
        by_stay (inr d) =
            inr (subst (λ z. IsOver w z y) whole
            (forgotten_over hosts u n x b e now landed p j s (ap (transaction_at b) own ∙ f) d.deed.how d.deed.at d.deed.counted d.deed.stood d.deed.behind
            (subst (Becomes d.deed.how s d.deed.at) d.none d.deed.becomes) (d.effects ∙ d.deed.happened) number y (subst (λ z. HasSeat u z number kinds.Durable y) (sym whole) i)))

    there : HasSeat u t number kinds.Durable y → IsHeld u t → IsHeld w t ⊎ IsOver w t y
    there i held = by_node (nat_eq t.node n) refl
      where
        by_node : (c : Bool) → nat_eq t.node n ≡ c → IsHeld w t ⊎ IsOver w t y
        by_node true c =
            let same : t.node ≡ n = eqb-true t.node n c in
            let this : held.node ≡ x = the_same (nth n u.nodes) held.node x (ap (λ k. nth k u.nodes) (sym same) ∙ held.found) p.found in
            here same i held.transaction
            (ap (λ o. transaction_at (standing_book x.base x.journal o) t.id) (sym p.up) ∙ ap (λ (z : Node). transaction_at (book_of z) t.id) (sym this) ∙ held.stands)
        by_node false c =
            inl (record { node = held.node; found = put_other u.nodes t.node n behind_node (eqb-false t.node n c) ∙ held.found; transaction = held.transaction; stands = held.stands })

    old : HasSeat u t number kinds.Durable y → IsHeld u t ⊎ IsOver u t y → IsHeld w t ⊎ IsOver w t y
    old i (inl held) = there i held
    old i (inr over) = inr (over_on u w g t y over)

    either : HasSeat u t number kinds.Durable y ⊎ JoinsOpen n b after t → IsHeld w t ⊎ IsOver w t y
    either (inl i) = old i (j.gone t y number i)
    either (inr k) = inl (held_here k.node k.new k.stands)
