-- A Prepare that goes to a durable participant was posted by the transaction that accepted it, which has asked the durable ones.
use Rattle.std.specs.Prelude.{ℕ, List, [], ◌∷◌, ◌++◌, Option, Some, None, Bool, true, false, ◌+◌, ◌≡◌, refl}
use Rattle.std.specs.List.{AllByRecursion}
use Rattle.std.proofs.Common.{inl, inr, sym, subst, ap, ◌∙◌}
use Rattle.at_base.specs.Numbers.{Numbers}
use Rattle.at_base.specs.declared.epr.Epr.{Epr}
use Rattle.at_base.specs.declared.notice.Kind.{Kind}
use Rattle.at_base.specs.declared.notice.Kind.TheVariants as kinds
use Rattle.at_base.specs.declared.notice.Notice.TheVariants as notices
use Rattle.at_base.specs.declared.message.Message.TheVariants as messages
use Rattle.at_base.specs.declared.event.Event.{Event}
use Rattle.at_base.specs.declared.outs.Out.{Out}
use Rattle.at_base.specs.declared.outs.Out.TheVariants as outs
use Rattle.at_base.specs.declared.outs.Post.{Post}
use Rattle.at_base.specs.declared.record.Record.{Record}
use Rattle.at_base.specs.declared.record.Record.TheVariants as records
use Rattle.at_base.specs.declared.record.Seated.{Seated}
use Rattle.at_base.specs.declared.target.Target.{Target}
use Rattle.at_base.specs.declared.target.Target.TheVariants as targets
use Rattle.at_model.specs.Book.{Book, Enlistment, Phase, Transaction, transaction_id}
use Rattle.at_model.specs.Recovery.{last_incarnation, live, recover, recovered_decided, recovered_voted}
use Rattle.at_model.specs.Register.{is_late, new_seat}
use Rattle.at_model.specs.Step.{moment_of, plan, step, transaction_at}
use Rattle.at_model.specs.World.{Node, Posted, Who, World, goes_down, lost_in, nth, put_book, put_nth, started, up_after, with_post, Hosts, HaveOwnAddresses}
use Rattle.model_laws.specs.Agreement.{IsIn}
use Rattle.model_laws.specs.DrawnIds.{restarted, with_entry}
use Rattle.model_laws.specs.Laws.{IsDrawn}
use Rattle.model_laws.specs.ReachedWorlds.{Reached, counts}
use Rattle.model_laws.proofs.DecisionLaws.{IfThere, all_find, all_join, all_more, found_id}
use Rattle.model_laws.proofs.WorldInvariants.{Law, OutFine, holds}
use Rattle.model_laws.proofs.Growth.{grows_counts, takes_nothing_back}
use Rattle.model_laws.proofs.DrawnIds.{drawn_on}
use Rattle.model_laws.proofs.NextIds.{makes_under_the_next_id}
use Rattle.model_laws.proofs.Nodes.{each_put}
use Rattle.model_laws.proofs.NodeLives.{put_this}
use Rattle.model_laws.proofs.StepShapes.{steps_keep_place}
use Rattle.agreement.specs.Deeds.{IsSameIfLeft}
use Rattle.agreement.specs.StepDeeds.{standing}
use Rattle.agreement.specs.Recoveries.{StandsFor, transaction_from}
use Rattle.agreement.specs.Registers.{HasDrawn, WasDrawn}
use Rattle.agreement.proofs.Recoveries.{recovers_each}
use Rattle.agreement.proofs.Registers.{drawn_down, drawn_put, drawn_up, of_records}
use Rattle.agreement.proofs.SeatedBooks.{finds_each}
use Rattle.agreement.proofs.SeatedEntries.{one_of}
use Rattle.enlistments.specs.Leads.{LeadsTo}
use Rattle.enlistments.specs.Moves.{IsReady}
use Rattle.enlistments.specs.Senses.{Asks, asks_completion, asks_late_seat, asks_left_seat, asks_no_seat, asks_seat}
use Rattle.enlistments.proofs.StepItems.{transactions_after}
use Rattle.enlistments.proofs.Answers.{held_after, keeps_id}
use Rattle.enlistments.proofs.Arrivals.{Stepping, step_ready}
use Rattle.enlistments.proofs.NewItems.{made_fresh}
use Rattle.enlistments.proofs.LastingLeads.{Held, found_stands}
use Rattle.enlistments.proofs.StepMoves.{book_ready, step_moves}
use Rattle.enlistments.proofs.Posts.{PostLaw, one_has}
use Rattle.enlistments.proofs.Senses.{steps_sense}
use Rattle.owed.specs.DurablePrepares.{HasAskedIfLeft, IsDurablePrepare, has_asked}
use Rattle.owed.specs.Shape.{AreShaped}
use Rattle.owed.proofs.DurablePrepareBooks.{asking_goes_on}
use Rattle.owed.proofs.Books.{reached_shaped}
use Rattle.votes.specs.NamedParticipants.{HasSeat}
use Rattle.paired.specs.Partners.{IsParticipant}
use Rattle.paired.proofs.Partners.{partners_are_paired}
use Rattle.settled.specs.DurablePrepares.{PreparesAreBehind}
use Rattle.settled.proofs.PrepareSenders.{step_asks}
use Rattle.settled.proofs.CalmSteps.{leads_participant}

-- whose a Prepare to a durable participant is
record IsOfSeat (w : World) (n : ℕ) (p : Post) (x : Who) : Type 0 where
  id : Numbers
  number : ℕ
  seat : HasSeat w (record { node = n; id = id }) number kinds.Durable x
  asks : IsDurablePrepare id p

abbrev GoesFromSeat : Hosts → World → Posted → Type 0
GoesFromSeat hosts w p =
    (to : Epr) (m : ℕ) (i : Numbers) → p.content.to ≡ Some to → LeadsTo hosts to m (targets.Participant i kinds.Durable) → p.content.message ≡ messages.Notice notices.Prepare
    → IsOfSeat w p.sender p.content (record { node = m; id = i })

-- a participant that a Prepare goes to
record IsThis (x : Who) (kind : Kind) (m : ℕ) (i : Numbers) : Type 0 where
  kind_is : kind ≡ kinds.Durable
  who_is : x ≡ record { node = m; id = i }

is_this : (hosts : Hosts) (kind : Kind) (e : Epr) (m : ℕ) (i : Numbers) → HaveOwnAddresses hosts → (h : IsParticipant hosts kind e) → LeadsTo hosts e m (targets.Participant i kinds.Durable) → IsThis h.who kind m i
is_this hosts kind e m i distinct h leads = same h.who.node m h.who.id i kind (sym (leads_participant hosts h.who kind e distinct h.place h.is) ∙ leads)
  where
    same : (a b : ℕ) (j k : Numbers) (d : Kind) → ◌≡◌ {A = Option (ℕ × Target)} (Some (a, targets.Participant j d)) (Some (b, targets.Participant k kinds.Durable)) → IsThis (record { node = a; id = j }) d b k
    same a b j k d f =
        let target : targets.Participant j d ≡ targets.Participant k kinds.Durable = λ r. target_in (targets.Participant j d) (f r) in
        let node : a ≡ b = λ r. node_in a (f r) in
        let id : j ≡ k = cc in
        record { kind_is = cc; who_is = λ r. record { node = node r; id = id r } }
      where
        target_in : Target → Option (ℕ × Target) → Target
        target_in T None = T
        target_in T (Some q) = q.1

        node_in : ℕ → Option (ℕ × Target) → ℕ
        node_in z None = z
        node_in z (Some q) = q.0

same_end : (o : Option Epr) (c d : Epr) → o ≡ Some c → o ≡ Some d → c ≡ d
same_end o c d e f = cc

not_late : (p : Phase) (kind : Kind) → kind ≡ kinds.Durable → is_late p kind ≡ true → ⊥
not_late p kinds.Volatile f g = cc
not_late Phase.Volatile kinds.Durable f g = cc
not_late Phase.Registering kinds.Durable f g = cc
not_late Phase.Active kinds.Durable f g = cc
not_late Phase.Durable kinds.Durable f g = cc
not_late Phase.Voted kinds.Durable f g = cc
not_late Phase.Committing kinds.Durable f g = cc
not_late Phase.Aborting kinds.Durable f g = cc

from_seat : (hosts : Hosts) (u : World) (n : ℕ) (x : Node) (b : Book) (e : Event) (now : ℕ) (landed : Bool) → Stepping hosts u n x b e now landed → (p : Post) → (to : Epr) (m : ℕ) (i : Numbers)
    → p.to ≡ Some to → LeadsTo hosts to m (targets.Participant i kinds.Durable) → p.message ≡ messages.Notice notices.Prepare
    → Asks b e now (standing landed (plan b e now).entry) (step b e now landed) notices.Prepare p → IsOfSeat (counts u n x b e now landed) n p (record { node = m; id = i })
from_seat hosts u n x b e now landed s p to m i goes leads says (asks_seat d q sits why from) =
    let h : IsParticipant hosts q.kind q.participant =
    one_of (λ (r : Enlistment). IsParticipant hosts r.kind r.participant) d.old.seats q
    ((partners_are_paired.paired hosts u s.distinct s.reached).seats n x b d.old s.found s.up (found_stands transaction_id d.old.id d.old b.transactions d.found)) sits in
    let same : q.participant ≡ to = same_end p.to q.participant to from.sent goes in
    let k : IsThis h.who q.kind m i = is_this hosts q.kind q.participant m i s.distinct h (subst (λ y. LeadsTo hosts y m (targets.Participant i kinds.Durable)) (sym same) leads) in
    let seat : HasSeat u (record { node = n; id = d.old.id }) q.number q.kind h.who =
    (partners_are_paired.paired hosts u s.distinct s.reached).seat_has n x b d.old q h.who s.found s.up (found_stands transaction_id d.old.id d.old b.transactions d.found) sits h.place h.is in
    record {
      id = d.old.id;
      number = q.number;
      seat = takes_nothing_back.accepted u (counts u n x b e now landed) (grows_counts u n x b e now landed s.found) _ _ (record { node = m; id = i })
          (subst (λ y. HasSeat u (record { node = n; id = d.old.id }) q.number kinds.Durable y) k.who_is
          (subst (λ c. HasSeat u (record { node = n; id = d.old.id }) q.number c h.who) k.kind_is seat));
      asks = record { number = q.number; owned = from.owned ∙ ap (λ c. Some (targets.Coordinator d.old.id (record { number = q.number; kind = c }))) k.kind_is; says = says };
    }
from_seat hosts u n x b e now landed s p to m i goes leads says (asks_left_seat d q sits durable left said is from) = absurd cc
from_seat hosts u n x b e now landed s p to m i goes leads says (asks_late_seat d kind late is there sent) =
    let h : Held hosts (counts u n x b e now landed) n d.gives.transaction = held_after hosts u n x b e now landed s d in
    let k : IsParticipant hosts kind d.request.participant =
    one_of (λ (r : Enlistment). IsParticipant hosts r.kind r.participant) d.gives.transaction.seats (new_seat d.old d.request.participant kind)
    ((partners_are_paired.paired hosts (counts u n x b e now landed) h.distinct h.reached).seats n h.x h.b d.gives.transaction h.found h.up h.stands) there in
    let same : d.request.participant ≡ to = same_end p.to d.request.participant to (ap (λ (y : Post). y.to) sent) goes in
    absurd (not_late d.old.phase kind
    (is_this hosts kind d.request.participant m i s.distinct k (subst (λ y. LeadsTo hosts y m (targets.Participant i kinds.Durable)) (sym same) leads)).kind_is late)
from_seat hosts u n x b e now landed s p to m i goes leads says (asks_no_seat d id q from at durable none asked who is sent) = absurd cc
from_seat hosts u n x b e now landed s p to m i goes leads says (asks_completion d from (inl is) knows sent) = absurd cc
from_seat hosts u n x b e now landed s p to m i goes leads says (asks_completion d from (inr is) knows sent) = absurd cc

from_seats : (hosts : Hosts) → PostLaw hosts
from_seats hosts = record {
  Of = GoesFromSeat hosts;
  on = λ u w g p h to m i goes leads says.
      let k : IsOfSeat u p.sender p.content (record { node = m; id = i }) = h to m i goes leads says in
      record { id = k.id; number = k.number; seat = takes_nothing_back.accepted u w g _ _ (record { node = m; id = i }) k.seat; asks = k.asks };
  new = λ u n x b e now landed s h p j r to m i goes leads says.
      from_seat hosts u n x b e now landed s p to m i goes leads says
      (steps_sense.asks b e now landed (step_ready hosts u n x b e now landed s) p notices.Prepare j says refl);
}

goes_from_seat : (hosts : Hosts) (w : World) → HaveOwnAddresses hosts → Reached hosts w → (p : Posted) → IsIn p w.posted → GoesFromSeat hosts w p
unfolding from_seats
goes_from_seat hosts w distinct reached p i = one_has hosts distinct (from_seats hosts) w reached p i

-- Who posted one has asked, or is gone.
record IsLate (w : World) (n : ℕ) (id : Numbers) : Type 0 where
  drawn : WasDrawn w n id
  asked : (x : Node) (b : Book) → nth n w.nodes ≡ Some x → x.book ≡ Some b → HasAskedIfLeft (transaction_at b id)

abbrev PostedLate : World → Posted → Type 0
PostedLate w p = (id : Numbers) → IsDurablePrepare id p.content → IsLate w p.sender id

abbrev AreLate : World → Type 0
AreLate w = AllByRecursion (PostedLate w) w.posted

-- what is made has an id that wasn't drawn
abbrev IsNewId : Book → Transaction → Type 0
IsNewId b t = transaction_at b t.id ≡ None → IsDrawn b t.id → ⊥

none_there : (o : Option Transaction) (t : Transaction) → o ≡ None → o ≡ Some t → ⊥
none_there o t e f = cc

left_new : (b : Book) (old : Transaction) (item : Option Transaction) → transaction_at b old.id ≡ Some old → IsSameIfLeft old item → IfThere (IsNewId b) item
left_new b old None found h = tt
left_new b old (Some t) found h = λ none drawn. none_there (transaction_at b t.id) old none (ap (transaction_at b) h.id ∙ found)

all_new : (b : Book) (e : Event) (now : ℕ) (landed : Bool) → IsReady b → AllByRecursion (IsNewId b) (step b e now landed).book.transactions
all_new b e now landed ready =
    transactions_after (IsNewId b) b e now (standing landed (plan b e now).entry) (step b e now landed) (step_moves b e now landed ready)
    (all_more (λ t. transaction_at b t.id ≡ Some t) (IsNewId b) b.transactions (λ t here none drawn. none_there (transaction_at b t.id) t none here)
    (finds_each transaction_id b.transactions ready.order.rising.transactions))
    (λ d. left_new b d.old d.change.item d.found d.deed.same)
    (λ d none drawn.
    none_there (transaction_at b d.gives.transaction.id) d.old none (ap (transaction_at b) (keeps_id (moment_of b now) d.arrived d.request d.old d.gives d.enrolls) ∙ d.found))
    (λ d none drawn. makes_under_the_next_id.next b d.id d.next (subst (IsDrawn b) (made_fresh b e now _ _ d).own drawn))

still_late : (b : Book) (e : Event) (now : ℕ) (landed : Bool) (id : Numbers) → IsReady b → AreShaped b → IsDrawn b id → HasAskedIfLeft (transaction_at b id)
    → HasAskedIfLeft (transaction_at (step b e now landed).book id)
still_late b e now landed id ready shaped drawn asked = by_old (transaction_at b id) refl asked
  where
    by_new : transaction_at b id ≡ None → (o : Option Transaction) → transaction_at (step b e now landed).book id ≡ o → HasAskedIfLeft o
    by_new none None e' = tt
    by_new none (Some t) e' =
        let same : t.id ≡ id = found_id transaction_id id (step b e now landed).book.transactions t e' in
        absurd (all_find (IsNewId b) transaction_id id (step b e now landed).book.transactions t (all_new b e now landed ready) e' (ap (transaction_at b) same ∙ none)
        (subst (IsDrawn b) (sym same) drawn))

    by_old : (o : Option Transaction) → transaction_at b id ≡ o → HasAskedIfLeft o → HasAskedIfLeft (transaction_at (step b e now landed).book id)
    by_old None f h = by_new f (transaction_at (step b e now landed).book id) refl
    by_old (Some t) f h =
        let same : t.id ≡ id = found_id transaction_id id b.transactions t f in
        subst (λ i. HasAskedIfLeft (transaction_at (step b e now landed).book i)) same
        (asking_goes_on.steps b e now landed ready shaped t (ap (transaction_at b) same ∙ f) h)

-- a node is put
late_put : (u v : World) (n : ℕ) (x z : Node) → nth n u.nodes ≡ Some x → v.nodes ≡ put_nth n z u.nodes → ((id : Numbers) → HasDrawn x.journal x.book id → HasDrawn z.journal z.book id)
    → ((id : Numbers) → HasDrawn x.journal x.book id → ((b : Book) → x.book ≡ Some b → HasAskedIfLeft (transaction_at b id)) → (b : Book) → z.book ≡ Some b → HasAskedIfLeft (transaction_at b id))
    → (m : ℕ) (id : Numbers) → IsLate u m id → IsLate v m id
late_put u v n x z found is draws asks m id h = record {
  drawn = drawn_put u v n x z found is draws m id h.drawn;
  asked = λ y b there up.
      each_put (λ k w. k ≡ m → (c : Book) → w.book ≡ Some c → HasAskedIfLeft (transaction_at c id)) u.nodes n x z found
      (λ here c e. asks id (drawn_here here) (λ d f. h.asked x d (ap (λ k. nth k u.nodes) (sym here) ∙ found) f) c e)
      (λ k w other there' same c e. h.asked w c (subst (λ i. nth i u.nodes ≡ Some w) same there') e) m y (sym (ap (nth m) is) ∙ there) refl b up;
}
  where
    same_node : (o : Option Node) (a c : Node) → o ≡ Some a → o ≡ Some c → a ≡ c
    same_node o a c e f = cc

    drawn_here : n ≡ m → HasDrawn x.journal x.book id
    drawn_here here =
        let (y, there, drawn) = h.drawn in
        subst (λ (w : Node). HasDrawn w.journal w.book id) (same_node (nth m u.nodes) y x there (ap (λ k. nth k u.nodes) (sym here) ∙ found)) drawn

all_late : (u v : World) → v.posted ≡ u.posted → ((m : ℕ) (id : Numbers) → IsLate u m id → IsLate v m id) → AreLate u → AreLate v
all_late u v same f h = subst (AllByRecursion (PostedLate v)) (sym same) (all_more (PostedLate u) (PostedLate v) u.posted (λ p k id d. f p.sender id (k id d)) h)

same_book : (o : Option Book) (b c : Book) → o ≡ Some b → o ≡ Some c → b ≡ c
same_book o b c e f = cc

step_late : (hosts : Hosts) (u : World) (n : ℕ) (x : Node) (b : Book) (e : Event) (now : ℕ) (landed : Bool) → Reached hosts u → nth n u.nodes ≡ Some x → x.book ≡ Some b → AreLate u
    → AreLate (counts u n x b e now landed)
step_late hosts u n x b e now landed reached found up h =
    all_late u (counts u n x b e now landed) refl
    (late_put u (counts u n x b e now landed) n x z found refl (λ id d. draws id (subst (λ o. HasDrawn x.journal o id) up d))
    (λ id d asked c is. subst (λ k. HasAskedIfLeft (transaction_at k id)) (same_book z.book (step b e now landed).book c refl is)
    (still_late b e now landed id (book_ready hosts u reached n x b found up) (reached_shaped hosts u reached n x b found up) (subst (λ o. HasDrawn x.journal o id) up d) (asked b up)))) h
  where
    z : Node
    z = record x { book = Some (step b e now landed).book; journal = with_entry (plan b e now).entry landed x.journal }

    draws : (id : Numbers) → IsDrawn b id → IsDrawn (step b e now landed).book id
    draws id d = drawn_on b (step b e now landed).book (steps_keep_place b e now landed) id d

-- what is posted now
outs_late : (os : List Out) (F : Post → Type 0) → ((p : Post) → IsIn (outs.Post p) os → F p) → AllByRecursion (OutFine F) os
outs_late [] F h = tt
outs_late (outs.Post p ∷ os) F h = (h p (inl refl), outs_late os F (λ q i. h q (inr i)))
outs_late (outs.Answer status reply ∷ os) F h = (tt, outs_late os F (λ q i. h q (inr i)))

abbrev FineLate : World → ℕ → Post → Type 0
FineLate w n p = (id : Numbers) → IsDurablePrepare id p → IsLate w n id

own_drawn : (b : Book) (e : Event) (now : ℕ) (landed : Bool) (p : Post) (id : Numbers) → IsReady b → IsIn (outs.Post p) (step b e now landed).outs → IsDurablePrepare id p → IsDrawn b id
own_drawn b e now landed p id ready i k =
    by_why (steps_sense.asks b e now landed ready p notices.Prepare i k.says refl)
  where
    same_id : (j : Numbers) (number : ℕ) (kind : Kind) → p.own ≡ Some (targets.Coordinator j (record { number = number; kind = kind })) → j ≡ id
    same_id j number kind owned =
        let same : Some (targets.Coordinator j (record { number = number; kind = kind })) ≡ Some (targets.Coordinator id (record { number = k.number; kind = kinds.Durable })) = sym owned ∙ k.owned in cc

    by_why : Asks b e now (standing landed (plan b e now).entry) (step b e now landed) notices.Prepare p → IsDrawn b id
    by_why (asks_seat d q sits why from) =
        subst (IsDrawn b) (same_id d.old.id q.number q.kind from.owned)
        (one_of (λ (t : Transaction). IsDrawn b t.id) b.transactions d.old ready.order.drawn.transactions (found_stands transaction_id d.old.id d.old b.transactions d.found))
    by_why (asks_left_seat d q sits durable left said is from) = absurd cc
    by_why (asks_late_seat d kind late is there sent) =
        subst (IsDrawn b) (same_id d.old.id (new_seat d.old d.request.participant kind).number kind (ap (λ (y : Post). y.own) sent))
        (one_of (λ (t : Transaction). IsDrawn b t.id) b.transactions d.old ready.order.drawn.transactions (found_stands transaction_id d.old.id d.old b.transactions d.found))
    by_why (asks_no_seat d j q from at durable none asked who is sent) = absurd cc
    by_why (asks_completion d from (inl is) knows sent) = absurd cc
    by_why (asks_completion d from (inr is) knows sent) = absurd cc

new_late : (hosts : Hosts) (u : World) (n : ℕ) (x : Node) (b : Book) (e : Event) (now : ℕ) (landed : Bool) → Reached hosts u → nth n u.nodes ≡ Some x → x.book ≡ Some b → (p : Post)
    → IsIn (outs.Post p) (step b e now landed).outs → FineLate (counts u n x b e now landed) n p
new_late hosts u n x b e now landed reached found up p i id k = record {
  drawn = (
    z,
    put_this u.nodes n x z found,
    drawn_on b (step b e now landed).book (steps_keep_place b e now landed) id (own_drawn b e now landed p id ready i k),
  );
  asked = λ y c there is.
      let same : z ≡ y = same_node (nth n (put_nth n z u.nodes)) z y (put_this u.nodes n x z found) there in
      subst (λ d. HasAskedIfLeft (transaction_at d id)) (same_book y.book (step b e now landed).book c (sym (ap (λ (w : Node). w.book) same)) is)
      (step_asks b e now landed ready (reached_shaped hosts u reached n x b found up) p i id k);
}
  where
    z : Node
    z = record x { book = Some (step b e now landed).book; journal = with_entry (plan b e now).entry landed x.journal }

    ready : IsReady b
    ready = book_ready hosts u reached n x b found up

    same_node : (o : Option Node) (a c : Node) → o ≡ Some a → o ≡ Some c → a ≡ c
    same_node o a c e f = cc

-- what is recovered has asked
recovered_late : (base : List ℕ) (rs : List Record) (id : Numbers) → HasAskedIfLeft (transaction_at (recover base rs) id)
recovered_late base rs id = by_found (transaction_at (recover base rs) id) refl
  where
    voted : (i : Numbers) (superior : Epr) (seats : List Seated) (c : Bool) → has_asked (recovered_voted i superior seats c).phase ≡ true
    voted i superior seats true = refl
    voted i superior seats false = refl

    same_one : (a c : Transaction) → Some a ≡ Some c → a ≡ c
    same_one a c e = cc

    no_one : (t : Transaction) → None ≡ Some t → ⊥
    no_one t e = cc

    by_record : (r : Record) (t : Transaction) → transaction_from base (live rs) r ≡ Some t → has_asked t.phase ≡ true
    by_record (records.Voted i superior seats) t e = subst (λ (y : Transaction). has_asked y.phase ≡ true) (same_one _ t e) (voted i superior seats _)
    by_record (records.Decided i seats) t e = subst (λ (y : Transaction). has_asked y.phase ≡ true) (same_one (recovered_decided base i seats) t e) refl
    by_record (records.Start i) t e = absurd (no_one t e)
    by_record (records.LeafPrepared i c key value) t e = absurd (no_one t e)
    by_record (records.LeafCommitted i) t e = absurd (no_one t e)
    by_record (records.LeafAborted i) t e = absurd (no_one t e)
    by_record (records.SubCommitted i) t e = absurd (no_one t e)
    by_record (records.Ended i) t e = absurd (no_one t e)
    by_record (records.Done i) t e = absurd (no_one t e)

    by_found : (o : Option Transaction) → transaction_at (recover base rs) id ≡ o → HasAskedIfLeft o
    by_found None e = tt
    by_found (Some t) e =
        let h : StandsFor base (live rs) t = recovers_each.transactions base rs t (found_stands transaction_id id t (recover base rs).transactions e) in
        by_record h.behind t h.is

rise_late : (u : World) (n : ℕ) (x : Node) (stop : Bool) → nth n u.nodes ≡ Some x → x.book ≡ None → AreLate u
    → AreLate (record u { nodes = put_nth n (up_after (started (last_incarnation x.journal + 1) x) stop) u.nodes })
rise_late u n x stop found down h =
    let v : World = record u { nodes = put_nth n (up_after (started (last_incarnation x.journal + 1) x) stop) u.nodes } in
    all_late u v refl
    (late_put u v n x (up_after (started (last_incarnation x.journal + 1) x) stop) found refl
    (λ id k. drawn_up x.base x.journal stop id (subst (λ o. HasDrawn x.journal o id) down k)) (λ id d asked b is. by_stop stop b is id)) h
  where
    no_book : (b : Book) → None ≡ Some b → ⊥
    no_book b e = cc

    by_stop : (s : Bool) (b : Book) → (up_after (started (last_incarnation x.journal + 1) x) s).book ≡ Some b → (id : Numbers) → HasAskedIfLeft (transaction_at b id)
    by_stop true b is id = absurd (no_book b is)
    by_stop false b is id =
        subst (λ c. HasAskedIfLeft (transaction_at c id)) (same_book (Some (recover x.base (restarted x.journal))) (recover x.base (restarted x.journal)) b refl is)
        (recovered_late x.base (restarted x.journal) id)

fall_late : (hosts : Hosts) (u : World) (n : ℕ) (x : Node) (b : Book) → Reached hosts u → nth n u.nodes ≡ Some x → AreLate u → AreLate (goes_down n b u)
fall_late hosts u n x b reached found h =
    let v : World = record u { nodes = put_nth n (record x { book = None }) u.nodes; happened = u.happened ++ lost_in n b } in
    subst AreLate (sym (ap (put_book n None (record u { happened = u.happened ++ lost_in n b })) found))
    (all_late u v refl
    (late_put u v n x (record x { book = None }) found refl (drawn_down x.journal x.book (of_records hosts u reached n x found)) (λ id d asked c is. absurd (no_book c is))) h)
  where
    no_book : (c : Book) → None ≡ Some c → ⊥
    no_book c e = cc

late_law : (hosts : Hosts) → Law hosts
late_law hosts = record {
  Good = AreLate;
  Fine = λ w g n p. FineLate w n p;
  opens = tt;
  steps = λ u n x b e now landed reached found up heard h. (
    step_late hosts u n x b e now landed reached found up h,
    outs_late (step b e now landed).outs (FineLate (counts u n x b e now landed) n) (λ p i. new_late hosts u n x b e now landed reached found up p i),
  );
  posts = λ w h n p f.
      all_join (PostedLate (with_post n p w)) w.posted _
      (all_more (PostedLate w) (PostedLate (with_post n p w)) w.posted (λ q k id d. let l : IsLate w q.sender id = k id d in record { drawn = l.drawn; asked = l.asked }) h)
      (λ id d. let l : IsLate w n id = f id d in record { drawn = l.drawn; asked = l.asked }, tt);
  still_fine = λ w h n p q f k id d. let l : IsLate w n id = k id d in record { drawn = l.drawn; asked = l.asked };
  falls = λ u n x b reached found up h. fall_late hosts u n x b reached found h;
  rises = λ u n x stop reached found down little h. rise_late u n x stop found down h;
  waits = λ u n x clock reached found h.
      all_late u (record u { nodes = put_nth n (record x { clock = clock }) u.nodes }) refl
      (late_put u (record u { nodes = put_nth n (record x { clock = clock }) u.nodes }) n x (record x { clock = clock }) found refl (λ id d. d) (λ id d asked b is. asked b is)) h;
}

posted_late : (hosts : Hosts) (w : World) → Reached hosts w → (p : Posted) → IsIn p w.posted → PostedLate w p
unfolding late_law
posted_late hosts w reached p i = one_of (PostedLate w) w.posted p (holds hosts (late_law hosts) w reached) i

pub prepares_are_behind : (hosts : Hosts) (w : World) → HaveOwnAddresses hosts → Reached hosts w → PreparesAreBehind hosts w
prepares_are_behind hosts w distinct reached p to m i among goes leads says =
    let h : IsOfSeat w p.sender p.content (record { node = m; id = i }) = goes_from_seat hosts w distinct reached p among to m i goes leads says in
    record {
      transaction = record { node = p.sender; id = h.id };
      number = h.number;
      seat = h.seat;
      asked = λ b o holds found. subst HasAskedIfLeft found ((posted_late hosts w reached p among h.id h.asks).asked holds.node b holds.found holds.up);
    }
