-- No transaction gives two seats of a kind to one participant: a repeated Register is given the seat that it has.
use Rattle.std.specs.Prelude.{ℕ, List, [], ◌∷◌, ◌++◌, Option, Some, None, Bool, true, false, nat_lt, suc, zero, ◌&&◌, ◌+◌, if◌then◌else◌, drop, find, length, option_map, ◌≡◌, ◌⊎◌, refl}
use Rattle.std.specs.List.{AllByRecursion}
use Rattle.std.proofs.Common.{inl, inr, sym, subst, ap, arith, ◌∙◌}
use Rattle.std.proofs.lemmas.List.{length-append}
use Rattle.std.proofs.lemmas.Slice.Eq.{bytes_eq-Decides}
use Rattle.at_base.specs.declared.epr.Epr.{Epr}
use Rattle.at_base.specs.declared.limits.TheConstants.{MOST_SEATS}
use Rattle.at_base.specs.declared.notice.Kind.{Kind}
use Rattle.at_base.specs.declared.notice.Kind.TheVariants as kinds
use Rattle.at_base.specs.declared.message.Register.{Register}
use Rattle.at_base.specs.declared.event.Arrived.{Arrived}
use Rattle.at_base.specs.declared.event.Event.{Event}
use Rattle.at_base.specs.declared.event.Moment.{Moment}
use Rattle.at_base.specs.declared.target.Seat.{Seat}
use Rattle.at_base.specs.declared.target.Target.TheVariants as targets
use Rattle.at_base.specs.Names.{is_kind}
use Rattle.at_model.specs.Book.{Book, Enlistment, Phase, Transaction, is_epr, transaction_id}
use Rattle.at_model.specs.Due.{may_expire}
use Rattle.at_model.specs.Register.{Registration, accepts, held_seat, may_complete, new_seat, on_register, protocol_named, register_again, seat_endpoint, with_seat}
use Rattle.at_model.specs.Step.{moment_of, plan, step, transaction_at}
use Rattle.at_model.specs.World.{Accepted, Node, Who, World, who_at, accepted_by, accepted_in, lost_in, new_nodes, nth, put_book, Hosts, HaveOwnAddresses}
use Rattle.model_laws.specs.Agreement.{IsIn}
use Rattle.model_laws.specs.ReachedWorlds.{Reached, counts}
use Rattle.model_laws.proofs.DecisionLaws.{IfThere, all_more, found_id}
use Rattle.model_laws.proofs.WorldInvariants.{Law, holds}
use Rattle.model_laws.proofs.Addresses.{leads_home}
use Rattle.model_laws.proofs.Nodes.{accepted_same, seats_same}
use Rattle.agreement.specs.Deeds.{AreSeatsAfter, AreSeatsIfLeft, How, IsSameIfLeft}
use Rattle.agreement.specs.StepDeeds.{standing}
use Rattle.agreement.proofs.SeatedBooks.{finds_each}
use Rattle.agreement.proofs.SeatRegistrations.{world_seated}
use Rattle.agreement.proofs.SeatedEntries.{IsNew, at_further_seat, entries, in_either, is_new, of_transaction, one_of}
use Rattle.agreement.proofs.Seats.{deeds_move_seats}
use Rattle.enlistments.specs.Registrations.{Enrolls, has_completion, has_seat, refuses, takes_completion, takes_seat}
use Rattle.enlistments.specs.Moves.{IsReady, Registered}
use Rattle.enlistments.proofs.StepItems.{transactions_after}
use Rattle.enlistments.proofs.Arrivals.{Stepping, out_unit, step_ready, world_bases}
use Rattle.enlistments.proofs.Searches.{both_true}
use Rattle.enlistments.proofs.NewItems.{made_fresh}
use Rattle.enlistments.proofs.LastingLeads.{found_stands}
use Rattle.enlistments.proofs.StepMoves.{step_moves}
use Rattle.votes.specs.NamedParticipants.{HasSeat, registration}
use Rattle.votes.specs.SeatStates.{who_named}
use Rattle.votes.proofs.SeatsAt.{SeatOf, seat_of}
use Rattle.paired.specs.Partners.{IsParticipant, participant_of}
use Rattle.paired.proofs.Homes.{register_home, transactions_home}

abbrev pub HasOneSeat : World → Type 0
HasOneSeat w = (t x : Who) (kind : Kind) (k j : ℕ) → HasSeat w t k kind x → HasSeat w t j kind x → k ≡ j

-- whom a participant's endpoint leads to
pub home_is : (hosts : Hosts) (kind : Kind) (e : Epr) (x : Who) → HaveOwnAddresses hosts → IsParticipant hosts kind e → who_named hosts e ≡ Some x → e ≡ participant_of hosts x kind
home_is hosts kind e x distinct h named =
    h.is ∙ ap (λ y. participant_of hosts y kind) (same h.who x (sym leads ∙ named))
  where
    leads : who_named hosts e ≡ Some h.who
    leads =
        ap (who_named hosts) h.is
        ∙ (λ i. who_at (leads_home hosts h.who.node (targets.Participant h.who.id kind) distinct h.place.least h.place.most h.place.id i))

    same : (y z : Who) → Some y ≡ Some z → y ≡ z
    same y z f = cc

-- no seat of these is that of this participant
abbrev AreApart : Kind → Epr → List Enlistment → Type 0
AreApart kind participant seats = AllByRecursion (λ s. s.kind ≡ kind → s.participant ≡ participant → ⊥) seats

own_kind : (k : Kind) → is_kind k k ≡ true
own_kind kinds.Durable = refl
own_kind kinds.Volatile = refl

own_epr : (e : Epr) → is_epr e e ≡ true
own_epr e =
    λ i. both ((bytes_eq-Decides e.address e.address).1 refl i) ((bytes_eq-Decides e.params e.params).1 refl i)
  where
    both : Bool → Bool → Bool
    both a b = a && b

found_none : (kind : Kind) (participant : Epr) (seats : List Enlistment) → find (λ s. is_kind s.kind kind && is_epr s.participant participant) seats ≡ None → AreApart kind participant seats
found_none kind participant [] e = tt
found_none kind participant (s ∷ seats) e = by_test (λ f. found_none kind participant seats f) (is_kind s.kind kind && is_epr s.participant participant) refl e
  where
    here : s.kind ≡ kind → s.participant ≡ participant → (is_kind s.kind kind && is_epr s.participant participant) ≡ true
    here f g =
        (λ i. is_kind (f i) kind && is_epr (g i) participant) ∙ (λ i. own_kind kind i && own_epr participant i)

    differ : (b : Bool) → b ≡ true → b ≡ false → ⊥
    differ b f g = cc

    by_test : (find (λ x. is_kind x.kind kind && is_epr x.participant participant) seats ≡ None → AreApart kind participant seats) → (b : Bool)
        → (is_kind s.kind kind && is_epr s.participant participant) ≡ b
        → (if b then Some s else find (λ x. is_kind x.kind kind && is_epr x.participant participant) seats) ≡ None → AreApart kind participant (s ∷ seats)
    by_test rest true f g = absurd cc
    by_test rest false f g = (λ h k. differ (is_kind s.kind kind && is_epr s.participant participant) (here h k) f, rest g)

-- a registration leaves the transaction as it was, or the participant had no seat
again_or_apart : (m : Moment) (a : Arrived) (r : Register) (t : Transaction) (kind : Kind) (o : Option Enlistment)
    → find (λ s. is_kind s.kind kind && is_epr s.participant r.participant) t.seats ≡ o
    → ((register_again m a r t (Some (Some kind)) (option_map (seat_endpoint m.base t.id) o)).transaction ≡ t) ⊎ AreApart kind r.participant t.seats
unfolding register_again
again_or_apart m a r t kind None e = inr (found_none kind r.participant t.seats e)
again_or_apart m a r t kind (Some s) e = inl refl

same_or_apart : (m : Moment) (a : Arrived) (r : Register) (t : Transaction) (kind : Kind) → protocol_named r.protocol ≡ Some (Some kind)
    → ((on_register m a r t).transaction ≡ t) ⊎ AreApart kind r.participant t.seats
unfolding on_register
same_or_apart m a r t kind e =
    subst (λ o. ((register_again m a r t o (held_seat m r t o)).transaction ≡ t) ⊎ AreApart kind r.participant t.seats) (sym e)
    (again_or_apart m a r t kind (find (λ s. is_kind s.kind kind && is_epr s.participant r.participant) t.seats) refl)

-- what a transaction has beyond that which stood in the book
record IsEnrolled (hosts : Hosts) (old t : Transaction) : Type 0 where
  kind : Kind
  participant : Epr
  home : IsParticipant hosts kind participant
  seats : t.seats ≡ old.seats ++ new_seat old participant kind ∷ []
  apart : AreApart kind participant old.seats
  undecided : may_expire old.phase ≡ true

abbrev IsFurther : Hosts → Transaction → Transaction → Type 0
IsFurther hosts old t = (drop (length old.seats) t.seats ≡ []) ⊎ IsEnrolled hosts old t

abbrev Further : Hosts → Book → Transaction → Type 0
Further hosts b t = (old : Transaction) → transaction_at b t.id ≡ Some old → IsFurther hosts old t

none_behind : (xs ys : List Enlistment) → length xs ≡ length ys → drop (length ys) xs ≡ []
none_behind [] [] e = refl
none_behind [] (y ∷ ys) e = absurd (omega (arith, e))
none_behind (x ∷ xs) [] e = absurd (omega (arith, e))
none_behind (x ∷ xs) (y ∷ ys) e = none_behind xs ys (omega (arith, e))

behind_all : (xs ys : List Enlistment) → drop (length xs) (xs ++ ys) ≡ ys
behind_all [] ys = refl
behind_all (x ∷ xs) ys = behind_all xs ys

same_found : {A : Type 0} (o : Option A) (x y : A) → o ≡ Some x → o ≡ Some y → x ≡ y
same_found o x y e f = cc

as_many : (e : Event) (t : Transaction) (how : How) (olds news : List Enlistment) → AreSeatsAfter e t how olds news → length news ≡ length olds
as_many e t how [] [] h = refl
as_many e t how [] (n ∷ ns) h = absurd h
as_many e t how (o ∷ os) [] h = absurd h
as_many e t how (o ∷ os) (n ∷ ns) (h, k) = omega (arith, as_many e t how os ns k)

stood_further : (hosts : Hosts) (b : Book) (t : Transaction) → transaction_at b t.id ≡ Some t → Further hosts b t
stood_further hosts b t here old found =
    inl (none_behind t.seats old.seats (ap (λ (y : Transaction). length y.seats) (same_found (transaction_at b t.id) t old here found)))

left_further : (hosts : Hosts) (b : Book) (e : Event) (t : Transaction) (how : How) (item : Option Transaction) → transaction_at b t.id ≡ Some t → ((new : Transaction) → item ≡ Some new → new.id ≡ t.id)
    → AreSeatsIfLeft e t how item → IfThere (Further hosts b) item
left_further hosts b e t how None here ids h = tt
left_further hosts b e t how (Some new) here ids h =
    λ old found.
    let same : t ≡ old = same_found (transaction_at b t.id) t old here (ap (transaction_at b) (sym (ids new refl)) ∙ found) in
    inl (none_behind new.seats old.seats (as_many e t how t.seats new.seats h ∙ ap (λ (y : Transaction). length y.seats) same))

opens : (p : Phase) → accepts p ≡ true → may_expire p ≡ true
opens Phase.Active e = refl
opens Phase.Volatile e = refl
opens Phase.Registering e = refl
opens Phase.Durable e = refl
opens Phase.Voted e = absurd cc
opens Phase.Committing e = absurd cc
opens Phase.Aborting e = absurd cc

too_many : (m : Moment) (t : Transaction) (s : Enlistment) → with_seat m t s ≡ t → ⊥
too_many m t s e =
    let more : length (t.seats ++ s ∷ []) ≡ length t.seats = ap (λ (y : Transaction). length y.seats) e in
    omega (arith, more, length-append t.seats (s ∷ []))

enrolled_further : (hosts : Hosts) (u : World) (n : ℕ) (x : Node) (b : Book) (e : Event) (now : ℕ) (landed : Bool) → Stepping hosts u n x b e now landed
    → (d : Registered b e now (standing landed (plan b e now).entry) (step b e now landed)) → Enrolls (moment_of b now) d.arrived d.request d.old d.gives → IsFurther hosts d.old d.gives.transaction
enrolled_further hosts u n x b e now landed s d (takes_seat kind protocol may is) = by_case (same_or_apart (moment_of b now) d.arrived d.request d.old kind protocol)
  where
    by_case : ((on_register (moment_of b now) d.arrived d.request d.old).transaction ≡ d.old) ⊎ AreApart kind d.request.participant d.old.seats → IsFurther hosts d.old d.gives.transaction
    by_case (inl same) =
        absurd (too_many (moment_of b now) d.old (new_seat d.old d.request.participant kind)
        (sym (ap (λ (g : Registration). g.transaction) is) ∙ ap (λ (g : Registration). g.transaction) d.given ∙ same))
    by_case (inr apart) = inr (record {
      kind = kind;
      participant = d.request.participant;
      home = register_home hosts u n x b e now landed d.arrived d.request kind s d.came d.says protocol;
      seats = ap (λ (g : Registration). g.transaction.seats) is;
      apart = apart;
      undecided = opens d.old.phase (both_true (accepts d.old.phase) (nat_lt (length d.old.seats) MOST_SEATS) (both_true (accepts d.old.phase && nat_lt (length d.old.seats) MOST_SEATS) (may_complete d.old (Some kind)) may).0).0;
    })
enrolled_further hosts u n x b e now landed s d (takes_completion protocol may is) =
    inl (none_behind d.gives.transaction.seats d.old.seats (ap (λ (g : Registration). length g.transaction.seats) is))
enrolled_further hosts u n x b e now landed s d (has_seat kind q protocol there k who is) =
    inl (none_behind d.gives.transaction.seats d.old.seats (ap (λ (g : Registration). length g.transaction.seats) is))
enrolled_further hosts u n x b e now landed s d (has_completion c protocol there who is) =
    inl (none_behind d.gives.transaction.seats d.old.seats (ap (λ (g : Registration). length g.transaction.seats) is))
enrolled_further hosts u n x b e now landed s d (refuses name is) =
    inl (none_behind d.gives.transaction.seats d.old.seats (ap (λ (g : Registration). length g.transaction.seats) is))

keeps_id : (m : Moment) (a : Arrived) (r : Register) (t : Transaction) (g : Registration) → Enrolls m a r t g → g.transaction.id ≡ t.id
keeps_id m a r t g (takes_seat kind protocol may is) = ap (λ (x : Registration). x.transaction.id) is
keeps_id m a r t g (takes_completion protocol may is) = ap (λ (x : Registration). x.transaction.id) is
keeps_id m a r t g (has_seat kind s protocol there k who is) = ap (λ (x : Registration). x.transaction.id) is
keeps_id m a r t g (has_completion c protocol there who is) = ap (λ (x : Registration). x.transaction.id) is
keeps_id m a r t g (refuses name is) = ap (λ (x : Registration). x.transaction.id) is

all_further : (hosts : Hosts) (u : World) (n : ℕ) (x : Node) (b : Book) (e : Event) (now : ℕ) (landed : Bool) → Stepping hosts u n x b e now landed
    → AllByRecursion (Further hosts b) (step b e now landed).book.transactions
all_further hosts u n x b e now landed s =
    let ready : IsReady b = step_ready hosts u n x b e now landed s in
    transactions_after (Further hosts b) b e now (standing landed (plan b e now).entry) (step b e now landed) (step_moves b e now landed ready)
    (all_more (λ t. transaction_at b t.id ≡ Some t) (Further hosts b) b.transactions (λ t here. stood_further hosts b t here)
    (finds_each transaction_id b.transactions ready.order.rising.transactions))
    (λ d. left_further hosts b e d.old d.deed.how d.change.item d.found (λ new is. same_id d.old d.change.item new d.deed.same is)
    (deeds_move_seats.seats e d.old _ d.change d.deed))
    (λ d old found.
    let id : d.gives.transaction.id ≡ d.old.id = keeps_id (moment_of b now) d.arrived d.request d.old d.gives d.enrolls in
    subst (λ (o : Transaction). IsFurther hosts o d.gives.transaction) (same_found (transaction_at b d.old.id) d.old old d.found (ap (transaction_at b) (sym id) ∙ found))
    (enrolled_further hosts u n x b e now landed s d d.enrolls))
    (λ d old found. inl (ap (drop (length old.seats)) (made_fresh b e now _ _ d).seats ∙ none_in (length old.seats)))
  where
    none_in : (k : ℕ) → drop {A = Enlistment} k [] ≡ []
    none_in zero = refl
    none_in (suc k) = refl

    same_id : (old : Transaction) (item : Option Transaction) (new : Transaction) → IsSameIfLeft old item → item ≡ Some new → new.id ≡ old.id
    same_id old None new h e = absurd cc
    same_id old (Some y) new h e = let same : y ≡ new = cc in subst (λ (z : Transaction). z.id ≡ old.id) same h.id

-- a registration that a step accepts
record IsTaken (hosts : Hosts) (n : ℕ) (b : Book) (t : Who) (number : ℕ) (kind : Kind) (x : Who) : Type 0 where
  old : Transaction
  found : transaction_at b t.id ≡ Some old
  node : t.node ≡ n
  least : number ≡ length old.seats + 1
  undecided : may_expire old.phase ≡ true
  apart : AreApart kind (participant_of hosts x kind) old.seats

same_seat : (p q : Seat) → Some p ≡ Some q → p ≡ q
same_seat p q e = cc

taken_by : (hosts : Hosts) (n : ℕ) (b : Book) (old by : Transaction) (t x : Who) (number : ℕ) (kind : Kind) → HaveOwnAddresses hosts → transaction_at b by.id ≡ Some old → t ≡ record { node = n; id = by.id }
    → IsFurther hosts old by → IsIn (registration t number kind x) (entries hosts n by.id (drop (length old.seats) by.seats)) → IsTaken hosts n b t number kind x
taken_by hosts n b old by t x number kind distinct found who (inl none) i = absurd (subst (λ (ss : List Enlistment). IsIn (registration t number kind x) (entries hosts n by.id ss)) none i)
taken_by hosts n b old by t x number kind distinct found who (inr h) i =
    by_one (subst (λ (ss : List Enlistment). IsIn (registration t number kind x) (entries hosts n by.id ss)) (ap (drop (length old.seats)) h.seats ∙ behind_all old.seats (new_seat old h.participant h.kind ∷ [])) i)
  where
    by_one : IsIn (registration t number kind x) (entries hosts n by.id (new_seat old h.participant h.kind ∷ [])) → IsTaken hosts n b t number kind x
    by_one (inr none) = absurd none
    by_one (inl e) =
        let seat : record { number = number; kind = kind } ≡ record { number = length old.seats + 1; kind = h.kind } =
        same_seat (record { number = number; kind = kind }) (record { number = length old.seats + 1; kind = h.kind }) (ap (λ (a : Accepted). a.seat) e) in
        let k : h.kind ≡ kind = sym (ap (λ (z : Seat). z.kind) seat) in
        let is : h.participant ≡ participant_of hosts x kind =
        home_is hosts kind h.participant x distinct (subst (λ d. IsParticipant hosts d h.participant) k h.home) (sym (ap (λ (a : Accepted). a.participant) e)) in
        record {
          old = old;
          found = ap (λ (y : Who). transaction_at b y.id) who ∙ found;
          node = ap (λ (y : Who). y.node) who;
          least = ap (λ (z : Seat). z.number) seat;
          undecided = h.undecided;
          apart = subst (λ d. AreApart d (participant_of hosts x kind) old.seats) k (subst (λ p. AreApart h.kind p old.seats) is h.apart);
        }

is_taken : (hosts : Hosts) (u : World) (n : ℕ) (y : Node) (b : Book) (e : Event) (now : ℕ) (landed : Bool) (t x : Who) (number : ℕ) (kind : Kind) → Stepping hosts u n y b e now landed
    → IsIn (registration t number kind x) (accepted_in n u.nodes b (step b e now landed).book.transactions) → IsTaken hosts n b t number kind x
is_taken hosts u n y b e now landed t x number kind s i = by_old (transaction_at b k.by.id) refl k.there
  where
    news : List Transaction
    news = (step b e now landed).book.transactions

    k : IsNew n (new_nodes hosts.base_of hosts.count 1) b news (registration t number kind x)
    k =
        is_new n (new_nodes hosts.base_of hosts.count 1) b news (registration t number kind x)
        (subst (IsIn (registration t number kind x)) (accepted_same n u.nodes (new_nodes hosts.base_of hosts.count 1) b news (world_bases hosts u s.distinct s.reached)) i)

    by_old : (o : Option Transaction) → transaction_at b k.by.id ≡ o → IsIn (registration t number kind x) (accepted_by n (new_nodes hosts.base_of hosts.count 1) o k.by) → IsTaken hosts n b t number kind x
    by_old None f j = absurd j
    by_old (Some old) f j =
        taken_by hosts n b old k.by t x number kind s.distinct f (of_transaction n (new_nodes hosts.base_of hosts.count 1) (Some old) k.by (registration t number kind x) j)
        (one_of (Further hosts b) news k.by (all_further hosts u n y b e now landed s) k.among old f)
        (at_further_seat hosts n old k.by (registration t number kind x) (record { number = number; kind = kind }) j refl)

-- the participant had no registration with this transaction
none_before : (hosts : Hosts) (u : World) (n : ℕ) (y : Node) (b : Book) (t x : Who) (number other : ℕ) (kind : Kind) → HaveOwnAddresses hosts → Reached hosts u → nth n u.nodes ≡ Some y → y.book ≡ Some b
    → IsTaken hosts n b t number kind x → HasSeat u t other kind x → ⊥
none_before hosts u n y b t x number other kind distinct reached found up k i =
    one_of (λ (s : Enlistment). s.kind ≡ kind → s.participant ≡ participant_of hosts x kind → ⊥) k.old.seats r.seat k.apart r.among r.kind_is
    (home_is hosts kind r.seat.participant x distinct
    (subst (λ d. IsParticipant hosts d r.seat.participant) r.kind_is
    (one_of (λ (s : Enlistment). IsParticipant hosts s.kind s.participant) k.old.seats r.seat
    (one_of (λ (z : Transaction). AllByRecursion (λ s. IsParticipant hosts s.kind s.participant) z.seats) b.transactions k.old
    (all_more _ _ b.transactions (λ z h. h.0) (transactions_home hosts u distinct reached n y b found up)) among) r.among))
    r.named)
  where
    among : IsIn k.old b.transactions
    among = found_stands transaction_id t.id k.old b.transactions k.found

    id_is : t.id ≡ k.old.id
    id_is = sym (found_id transaction_id t.id b.transactions k.old k.found)

    who : t ≡ record { node = n; id = k.old.id }
    who = λ j. record { node = k.node j; id = id_is j }

    r : SeatOf hosts k.old.seats other kind x
    r =
        seat_of hosts n k.old.id k.old.seats other kind x
        (subst (IsIn (registration (record { node = n; id = k.old.id }) other kind x)) (seats_same n u.nodes (new_nodes hosts.base_of hosts.count 1) k.old.id k.old.seats (world_bases hosts u distinct reached))
        ((world_seated hosts u distinct reached).complete n y b k.old found up among k.undecided (registration (record { node = n; id = k.old.id }) other kind x) (record { number = other; kind = kind })
        (subst (λ z. HasSeat u z other kind x) who i) refl refl))

step_one_seat : (hosts : Hosts) (u : World) (n : ℕ) (y : Node) (b : Book) (e : Event) (now : ℕ) (landed : Bool) → Stepping hosts u n y b e now landed → HasOneSeat u
    → HasOneSeat (counts u n y b e now landed)
step_one_seat hosts u n y b e now landed s h t x kind k j i l =
    by_both (in_either (registration t k kind x) u.accepted news i) (in_either (registration t j kind x) u.accepted news l)
  where
    news : List Accepted
    news = accepted_in n u.nodes b (step b e now landed).book.transactions

    by_both : IsIn (registration t k kind x) u.accepted ⊎ IsIn (registration t k kind x) news → IsIn (registration t j kind x) u.accepted ⊎ IsIn (registration t j kind x) news → k ≡ j
    by_both (inl p) (inl q) = h t x kind k j p q
    by_both (inl p) (inr q) = absurd (none_before hosts u n y b t x j k kind s.distinct s.reached s.found s.up (is_taken hosts u n y b e now landed t x j kind s q) p)
    by_both (inr p) (inl q) = absurd (none_before hosts u n y b t x k j kind s.distinct s.reached s.found s.up (is_taken hosts u n y b e now landed t x k kind s p) q)
    by_both (inr p) (inr q) =
        let one : IsTaken hosts n b t k kind x = is_taken hosts u n y b e now landed t x k kind s p in
        let other : IsTaken hosts n b t j kind x = is_taken hosts u n y b e now landed t x j kind s q in
        one.least ∙ ap (λ (z : Transaction). length z.seats + 1) (same_found (transaction_at b t.id) one.old other.old one.found other.found) ∙ sym other.least

seated_once : (hosts : Hosts) → HaveOwnAddresses hosts → Law hosts
seated_once hosts distinct = record {
  Good = HasOneSeat;
  Fine = λ w g n p. Unit {0};
  opens = λ t x kind k j i. absurd i;
  steps = λ u n x b e now landed reached found up heard h. (
    step_one_seat hosts u n x b e now landed (record { distinct = distinct; reached = reached; found = found; up = up; heard = heard }) h,
    out_unit (step b e now landed).outs,
  );
  posts = λ w h n p f. h;
  still_fine = λ w g n p q f k. tt;
  falls = λ u n x b reached found up h. subst HasOneSeat (sym (ap (put_book n None (record u { happened = u.happened ++ lost_in n b })) found)) h;
  rises = λ u n x stop reached found down little h. h;
  waits = λ u n x clock reached found h. h;
}

pub one_seat : (hosts : Hosts) (w : World) → HaveOwnAddresses hosts → Reached hosts w → HasOneSeat w
unfolding seated_once
one_seat hosts w distinct reached = holds hosts (seated_once hosts distinct) w reached
