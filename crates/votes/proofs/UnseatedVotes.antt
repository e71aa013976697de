-- A Prepared that comes where there is no such seat: its participant's transaction has aborted, or the participant has committed.
use Rattle.std.specs.Prelude.{ℕ, List, [], ◌∷◌, Option, Some, None, Bool, true, false, map, nat_eq, ◌&&◌, if◌then◌else◌, ◌≡◌, ◌⊎◌, refl}
use Rattle.std.specs.List.{AllByRecursion}
use Rattle.std.proofs.Common.{inl, inr, sym, subst, ap, ◌∙◌}
use Rattle.std.proofs.lemmas.Bool.{eq-eqb}
use Rattle.at_base.specs.Numbers.{Numbers}
use Rattle.at_base.specs.declared.epr.Epr.{Epr}
use Rattle.at_base.specs.declared.event.Arrived.{Arrived}
use Rattle.at_base.specs.declared.event.Event.{Event}
use Rattle.at_base.specs.declared.event.Event.TheVariants as events
use Rattle.at_base.specs.declared.notice.Kind.{Kind}
use Rattle.at_base.specs.declared.notice.Kind.TheVariants as kinds
use Rattle.at_base.specs.declared.notice.Notice.TheVariants as notices
use Rattle.at_base.specs.declared.message.Message.TheVariants as messages
use Rattle.at_base.specs.declared.target.Seat.{Seat}
use Rattle.at_base.specs.declared.target.Target.TheVariants as targets
use Rattle.at_base.specs.Names.{is_kind}
use Rattle.at_model.specs.Book.{Book, Enlistment, Phase, Transaction, transaction_id}
use Rattle.at_model.specs.Due.{may_expire}
use Rattle.at_model.specs.Step.{find_seat, transaction_at}
use Rattle.at_model.specs.World.{Accepted, Node, Who, World, accepted_seat, new_nodes, nth, Hosts}
use Rattle.model_laws.specs.Agreement.{HasAborted, HasCommitted, HasPosted, IsIn}
use Rattle.model_laws.specs.Shapes.{IfFound}
use Rattle.model_laws.proofs.DecisionLaws.{all_find, found_id}
use Rattle.agreement.specs.Lives.{book_of}
use Rattle.agreement.proofs.SeatedEntries.{each_is_in, one_of}
use Rattle.enlistments.specs.KnownCoordinators.{IsVoteOf, VotesAtItsSeat}
use Rattle.enlistments.specs.Leads.{LeadsTo}
use Rattle.enlistments.proofs.Arrivals.{HasCome}
use Rattle.votes.specs.NamedParticipants.{HasSeat, KeepsItsDurable, registration}
use Rattle.votes.specs.ToldOutcomes.{IsHeld, IsUnderAborted}
use Rattle.votes.specs.VotesAndOutcomes.{IsOutcome}
use Rattle.votes.proofs.SingleVotes.{not_both_votes, same_node}
use Rattle.votes.proofs.StepItems.{aborting, came_by, here}
use Rattle.votes.proofs.Premises.{StepPremises}

-- where there is no such seat
no_such_seat : (number : ℕ) (kind : Kind) (seats : List Enlistment) (r : Enlistment) → find_seat number kind seats ≡ None → IsIn r seats → r.number ≡ number → r.kind ≡ kind → ⊥
no_such_seat number kind [] r none i m k = i
no_such_seat number kind (s ∷ seats) r none i m k = by_test (λ f j. no_such_seat number kind seats r f j m k) (nat_eq s.number number && is_kind s.kind kind) refl none i
  where
    is_such : (q : Kind) → is_kind q q ≡ true
    is_such kinds.Volatile = refl
    is_such kinds.Durable = refl

    both : (a c : Bool) → a ≡ true → c ≡ true → (a && c) ≡ true
    both a c f g = (λ l. f l && g l)

    passes : r ≡ s → (nat_eq s.number number && is_kind s.kind kind) ≡ true
    passes e =
        both (nat_eq s.number number) (is_kind s.kind kind) (eq-eqb s.number number (ap (λ (z : Enlistment). z.number) (sym e) ∙ m))
        (subst (λ z. is_kind z kind ≡ true) (sym k ∙ ap (λ (z : Enlistment). z.kind) e) (is_such kind))

    by_test : (find_seat number kind seats ≡ None → IsIn r seats → ⊥) → (c : Bool) → (nat_eq s.number number && is_kind s.kind kind) ≡ c
        → (if c then Some s else find_seat number kind seats) ≡ None → IsIn r (s ∷ seats) → ⊥
    by_test rest true t f h = cc
    by_test rest false t f (inl e) = let g : false ≡ true = sym t ∙ passes e in cc
    by_test rest false t f (inr h) = rest f h

pub seat_among : (n : ℕ) (nodes : List Node) (id : Numbers) (a : Accepted) (seats : List Enlistment) → IsIn a (map (accepted_seat n nodes id) seats)
    → (r : Enlistment) × IsIn r seats × (a ≡ accepted_seat n nodes id r)
seat_among n nodes id a [] i = absurd i
seat_among n nodes id a (s ∷ seats) (inl e) = (s, inl refl, e)
seat_among n nodes id a (s ∷ seats) (inr i) = let (r, k, e) = seat_among n nodes id a seats i in (r, inr k, e)

pub no_such_entry : (n : ℕ) (nodes : List Node) (t : Transaction) (s : Seat) (a : Accepted) → find_seat s.number s.kind t.seats ≡ None → a.seat ≡ Some s → IsIn a (map (accepted_seat n nodes t.id) t.seats) → ⊥
no_such_entry n nodes t s a none at i =
    let (r, k, e) = seat_among n nodes t.id a t.seats i in
    let same : Some (record { number = r.number; kind = r.kind }) ≡ Some s = sym (ap (λ (c : Accepted). c.seat) e) ∙ at in
    let seat : record { number = r.number; kind = r.kind } ≡ s = cc in
    no_such_seat s.number s.kind t.seats r none k (ap (λ (c : Seat). c.number) seat) (ap (λ (c : Seat). c.kind) seat)

-- a registration at this seat, of a transaction that stands without it: it has aborted, or the participant has left
stands_without : (hosts : Hosts) (u : World) (n : ℕ) (x : Node) (b : Book) (e : Event) → StepPremises hosts u n x b e → IsOutcome hosts u → (t : Transaction) (number : ℕ) (y : Who)
    → transaction_at b t.id ≡ Some t → find_seat number kinds.Durable t.seats ≡ None → HasSeat u (record { node = n; id = t.id }) number kinds.Durable y
    → HasAborted u (record { node = n; id = t.id }) ⊎ HasPosted u y kinds.Durable notices.ReadOnly
stands_without hosts u n x b e p j t number y found none seat = by_phase t.phase refl
  where
    among : IsIn t b.transactions
    among = all_find (λ z. IsIn z b.transactions) transaction_id t.id b.transactions t (each_is_in b.transactions) found

    undecided : may_expire t.phase ≡ true → ⊥
    undecided is =
        no_such_entry n u.nodes t (record { number = number; kind = kinds.Durable }) (registration (record { node = n; id = t.id }) number kinds.Durable y) none refl
        (p.world.laws.seated.complete n x b t p.found p.up among is (registration (record { node = n; id = t.id }) number kinds.Durable y) (record { number = number; kind = kinds.Durable }) seat refl refl)

    kept : (t.phase ≡ Phase.Voted) ⊎ (t.phase ≡ Phase.Committing) → HasPosted u y kinds.Durable notices.ReadOnly
    kept is =
        by_kept (all_find (KeepsItsDurable hosts u n) transaction_id t.id b.transactions t (subst (λ (c : Book). AllByRecursion (KeepsItsDurable hosts u n) c.transactions) (here x b p.up) (j.keeps n x p.found))
        found is number y seat)
      where
        by_kept : HasPosted u y kinds.Durable notices.ReadOnly ⊎ IsIn (registration (record { node = n; id = t.id }) number kinds.Durable y) (map (accepted_seat n (new_nodes hosts.base_of hosts.count 1) t.id) t.seats)
            → HasPosted u y kinds.Durable notices.ReadOnly
        by_kept (inl r) = r
        by_kept (inr i) =
            absurd (no_such_entry n (new_nodes hosts.base_of hosts.count 1) t (record { number = number; kind = kinds.Durable }) (registration (record { node = n; id = t.id }) number kinds.Durable y) none refl i)

    by_phase : (ph : Phase) → t.phase ≡ ph → HasAborted u (record { node = n; id = t.id }) ⊎ HasPosted u y kinds.Durable notices.ReadOnly
    by_phase Phase.Registering is = absurd (undecided (ap may_expire is))
    by_phase Phase.Active is = absurd (undecided (ap may_expire is))
    by_phase Phase.Volatile is = absurd (undecided (ap may_expire is))
    by_phase Phase.Durable is = absurd (undecided (ap may_expire is))
    by_phase Phase.Voted is = inr (kept (inl is))
    by_phase Phase.Committing is = inr (kept (inr is))
    by_phase Phase.Aborting is = inl (aborting hosts u n x b e p t found is)

-- so wherever there is no such seat
without_seat : (hosts : Hosts) (u : World) (n : ℕ) (x : Node) (b : Book) (e : Event) → StepPremises hosts u n x b e → IsOutcome hosts u → (id : Numbers) (number : ℕ) (y : Who)
    → IfFound (λ t. find_seat number kinds.Durable t.seats ≡ None) (transaction_at b id) → HasSeat u (record { node = n; id = id }) number kinds.Durable y
    → HasAborted u (record { node = n; id = id }) ⊎ (HasPosted u y kinds.Durable notices.ReadOnly ⊎ HasCommitted u y)
without_seat hosts u n x b e p j id number y unknown seat = by_found (transaction_at b id) refl unknown
  where
    not_held : transaction_at b id ≡ None → IsHeld u (record { node = n; id = id }) → ⊥
    not_held none h =
        let same : h.node ≡ x = same_node h.node x (nth n u.nodes) h.found p.found in
        let stands : transaction_at b id ≡ Some h.transaction = subst (λ c. transaction_at c id ≡ Some h.transaction) (ap book_of same ∙ here x b p.up) h.stands in
        let f : None ≡ Some h.transaction = sym none ∙ stands in cc

    gone : transaction_at b id ≡ None → IsHeld u (record { node = n; id = id }) ⊎ (HasAborted u (record { node = n; id = id }) ⊎ (HasPosted u y kinds.Durable notices.ReadOnly ⊎ HasCommitted u y))
        → HasAborted u (record { node = n; id = id }) ⊎ (HasPosted u y kinds.Durable notices.ReadOnly ⊎ HasCommitted u y)
    gone none (inl h) = absurd (not_held none h)
    gone none (inr h) = h

    further : {A B C : Type 0} → A ⊎ B → A ⊎ (B ⊎ C)
    further (inl a) = inl a
    further (inr c) = inr (inl c)

    by_found : (o : Option Transaction) → transaction_at b id ≡ o → IfFound (λ t. find_seat number kinds.Durable t.seats ≡ None) o
        → HasAborted u (record { node = n; id = id }) ⊎ (HasPosted u y kinds.Durable notices.ReadOnly ⊎ HasCommitted u y)
    by_found None f k = gone f (j.gone (record { node = n; id = id }) y number seat)
    by_found (Some t) f k =
        let own : t.id ≡ id = found_id transaction_id id b.transactions t f in
        subst (λ i. HasAborted u (record { node = n; id = i }) ⊎ (HasPosted u y kinds.Durable notices.ReadOnly ⊎ HasCommitted u y)) own
        (further (stands_without hosts u n x b e p j t number y (ap (transaction_at b) own ∙ f) k
        (subst (λ i. HasSeat u (record { node = n; id = i }) number kinds.Durable y) (sym own) seat)))

-- a Prepared there
pub unseated : (hosts : Hosts) (u : World) (n : ℕ) (x : Node) (b : Book) (e : Event) → StepPremises hosts u n x b e → IsOutcome hosts u → (a : Arrived) → e ≡ events.Arrived a → (id : Numbers) (number : ℕ)
    → a.target ≡ targets.Coordinator id (record { number = number; kind = kinds.Durable }) → IfFound (λ t. find_seat number kinds.Durable t.seats ≡ None) (transaction_at b id)
    → a.message ≡ messages.Notice notices.Prepared → (up : Epr) → a.from ≡ Some up → (m : ℕ) (k : Numbers) → LeadsTo hosts up m (targets.Participant k kinds.Durable)
    → HasCommitted u (record { node = m; id = k }) ⊎ IsUnderAborted u (record { node = m; id = k })
unseated hosts u n x b e p j a came id number target unknown says up from m k leads =
    let w : HasCome hosts u n a = came_by hosts u n x b e p a came in
    let v : IsVoteOf hosts u w.posted n id (record { number = number; kind = kinds.Durable }) =
    one_of (VotesAtItsSeat hosts u) u.posted w.posted p.world.knowing.votes w.stands notices.Prepared w.to n id (record { number = number; kind = kinds.Durable }) (w.message ∙ says) (inl refl) w.sent
    (subst (LeadsTo hosts w.to n) target w.leads) in
    let home : (m ≡ w.posted.sender) × (targets.Participant k kinds.Durable ≡ targets.Participant v.item kinds.Durable) = v.from up m (targets.Participant k kinds.Durable) (sym w.from ∙ from) leads in
    let same : ◌≡◌ {A = Who} (record { node = w.posted.sender; id = v.item }) (record { node = m; id = k }) = same_who m w.posted.sender k v.item home.0 home.1 in
    subst (λ y. HasCommitted u y ⊎ IsUnderAborted u y) same
    (by_case (record { node = w.posted.sender; id = v.item }) v.accepted (w.posted, w.stands, refl, v.own, w.message ∙ says)
    (without_seat hosts u n x b e p j id number (record { node = w.posted.sender; id = v.item }) unknown v.accepted))
  where
    same_who : (m l : ℕ) (k i : Numbers) → m ≡ l → targets.Participant k kinds.Durable ≡ targets.Participant i kinds.Durable → ◌≡◌ {A = Who} (record { node = l; id = i }) (record { node = m; id = k })
    same_who m l k i e f = let g : k ≡ i = cc in λ q. record { node = sym e q; id = sym g q }

    by_case : (y : Who) → HasSeat u (record { node = n; id = id }) number kinds.Durable y → HasPosted u y kinds.Durable notices.Prepared
        → HasAborted u (record { node = n; id = id }) ⊎ (HasPosted u y kinds.Durable notices.ReadOnly ⊎ HasCommitted u y) → HasCommitted u y ⊎ IsUnderAborted u y
    by_case y seat voted (inl a) = inr (record { transaction = record { node = n; id = id }; number = number; seat = seat; aborted = a })
    by_case y seat voted (inr (inl r)) = absurd (not_both_votes hosts u p.world y voted r)
    by_case y seat voted (inr (inr c)) = inl c
