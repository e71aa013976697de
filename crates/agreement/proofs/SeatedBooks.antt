-- The books of a world that is reached, and where each transaction of a step's book comes from.
use Rattle.std.specs.Prelude.{ℕ, List, [], ◌∷◌, Option, Some, None, Bool, true, false, if◌then◌else◌, not, length, map, ◌+◌, ◌≡◌, ◌≤◌, ◌⊎◌, refl}
use Rattle.std.specs.List.{AllByRecursion}
use Rattle.std.proofs.Common.{inl, inr, suc, sym, subst, ap, arith, ◌∙◌}
use Rattle.at_base.specs.Numbers.{Numbers}
use Rattle.at_base.specs.declared.epr.Epr.{Epr}
use Rattle.at_base.specs.declared.notice.Kind.{Kind}
use Rattle.at_base.specs.declared.event.Arrived.{Arrived}
use Rattle.at_base.specs.declared.event.Event.{Event}
use Rattle.at_base.specs.declared.event.Moment.{Moment}
use Rattle.at_base.specs.declared.message.Register.{Register}
use Rattle.at_base.specs.declared.record.Record.{Record}
use Rattle.at_base.specs.declared.record.Record.TheVariants as records
use Rattle.at_model.specs.Book.{Book, Enlistment, Phase, Transaction, find_by, transaction_id}
use Rattle.at_model.specs.Due.{may_expire}
use Rattle.at_model.specs.Recovery.{is_before, last_incarnation}
use Rattle.at_model.specs.Register.{Registration, accept, accepts, held_seat, may_register, on_register, protocol_named, register_again, register_new}
use Rattle.at_model.specs.Step.{Outcome, moment_of, plan, step, transaction_at}
use Rattle.at_model.specs.World.{Node, World, nth, Hosts}
use Rattle.model_laws.specs.PhaseAnswers.{IsInPhase}
use Rattle.model_laws.specs.DrawnIds.{restarted, with_entry}
use Rattle.model_laws.specs.Laws.{HasId, IsDrawn}
use Rattle.model_laws.specs.Order.{AreRising, IsInOrder}
use Rattle.model_laws.specs.ReachedWorlds.{Reached}
use Rattle.model_laws.proofs.DecisionLaws.{IfThere, all_join, all_more, all_put, either_of}
use Rattle.model_laws.proofs.NextIds.{makes_under_the_next_id}
use Rattle.model_laws.proofs.MadeIds.{entry_rises}
use Rattle.model_laws.proofs.Order.{ids_rise, other_id, unmapped}
use Rattle.model_laws.proofs.ReachedWorlds.{NodeLaw, nodes_hold}
use Rattle.model_laws.proofs.RecoveryLaws.{self_id}
use Rattle.model_laws.proofs.StepShapes.{steps_keep_place}
use Rattle.model_laws.proofs.PhaseAnswers.{decides_behind_every_answer, then_accepts}
use Rattle.agreement.specs.Deeds.{AreSeatsAfter, AreSeatsIfLeft, Becomes, How, IsSameIfLeft, StoodFor}
use Rattle.agreement.specs.StepDeeds.{Done, did, elsewhere, made, registered, standing, undone}
use Rattle.agreement.specs.FinishedTransactions.{AreFinished, NamesRising}
use Rattle.agreement.proofs.FinishedTransactions.{finishes_all}
use Rattle.agreement.proofs.Seats.{deeds_move_seats}
use Rattle.agreement.proofs.StepDeeds.{steps_do}

-- a book in a world that is reached
pub record IsSoundBook (rs : List Record) (b : Book) : Type 0 where
  pub phases : IsInPhase b
  pub finished : AreFinished b
  pub order : IsInOrder b
  pub known : b.incarnation ≤ last_incarnation rs

record IsSoundNode (rs : List Record) (o : Option Book) : Type 0 where
  names : AllByRecursion NamesRising rs
  book : IfThere (IsSoundBook rs) o

with_names : (entry : Option Record) (landed : Bool) (rs : List Record) → ((r : Record) → entry ≡ Some r → NamesRising r) → AllByRecursion NamesRising rs
    → AllByRecursion NamesRising (with_entry entry landed rs)
with_names None landed rs f h = h
with_names (Some r) true rs f h = all_join NamesRising rs (r ∷ []) h (f r refl, tt)
with_names (Some r) false rs f h = h

restart_names : (rs : List Record) → AllByRecursion NamesRising rs → AllByRecursion NamesRising (restarted rs)
restart_names rs h = all_join NamesRising rs (records.Start (last_incarnation rs + 1) ∷ []) h (tt, tt)

sound_law : NodeLaw
sound_law = record {
  Good = IsSoundNode;
  opens = record { names = tt; book = tt };
  steps = λ rs b e now landed h. record {
    names = with_names (plan b e now).entry landed rs (λ r k. finishes_all.entry b e now r h.book.finished k) h.names;
    book = record {
      phases = decides_behind_every_answer.book b e now landed h.book.phases;
      finished = finishes_all.book b e now landed h.book.phases h.book.finished;
      order = ids_rise.stays b e now landed h.book.order;
      known = below b ((step b e now landed).book.incarnation) (last_incarnation rs) (last_incarnation (with_entry (plan b e now).entry landed rs))
          (steps_keep_place b e now landed).incarnation h.book.known (entry_rises (plan b e now).entry landed rs);
    };
  };
  falls = λ rs b h. record { names = h.names; book = tt };
  rises = λ base rs small h. record {
    names = restart_names rs h.names;
    book = record {
      phases = decides_behind_every_answer.recovered base (restarted rs);
      finished = finishes_all.recovered base (restarted rs) (restart_names rs h.names);
      order = ids_rise.started base rs;
      known = same_most (last_incarnation (restarted rs));
    };
  };
}
  where
    below : (b : Book) (i l k : ℕ) → i ≡ b.incarnation → b.incarnation ≤ l → l ≤ k → i ≤ k
    below b i l k e f g = omega (arith, e, f, g)

    same_most : (n : ℕ) → n ≤ n
    same_most n = omega arith

pub book_sound : (hosts : Hosts) (w : World) → Reached hosts w → (n : ℕ) (x : Node) (b : Book) → nth n w.nodes ≡ Some x → x.book ≡ Some b → IsSoundBook x.journal b
unfolding sound_law
book_sound hosts w reached n x b found up = subst (IfThere (IsSoundBook x.journal)) up (nodes_hold sound_law hosts w reached n x found).book

-- each is found by its id
pub finds_each : {A : Type 0} (key : A → Numbers) (xs : List A) → AreRising (map key xs) → AllByRecursion (λ x. find_by key (key x) xs ≡ Some x) xs
finds_each key [] h = tt
finds_each {A = A} key (x ∷ xs) (h, k) =
    (ap (λ b. if b then Some x else find_by key (key x) xs) (self_id (key x)), behind_first xs (unmapped (λ i. is_before (key x) i ≡ true) key xs h) (finds_each key xs k))
  where
    behind_first : (ys : List A) → AllByRecursion (λ y. is_before (key x) (key y) ≡ true) ys → AllByRecursion (λ y. find_by key (key y) xs ≡ Some y) ys
        → AllByRecursion (λ y. find_by key (key y) (x ∷ xs) ≡ Some y) ys
    behind_first [] h k = tt
    behind_first (y ∷ ys) (h, hs) (k, ks) = (ap (λ b. if b then Some x else find_by key (key y) xs) (other_id (key x) (key y) h) ∙ k, behind_first ys hs ks)

-- A transaction behind a step: it stood before, undecided where it is so still, and has more seats only while it is
-- undecided; or its id is new.
pub data Came (b : Book) (t : Transaction) : Type 0 where
  stood : (old : Transaction) → transaction_at b t.id ≡ Some old → (may_expire t.phase ≡ true → may_expire old.phase ≡ true) → (length t.seats ≡ length old.seats) ⊎ (may_expire t.phase ≡ true) → Came b t
  fresh : (IsDrawn b t.id → ⊥) → Came b t

came_all : (b : Book) → IsInOrder b → AllByRecursion (Came b) b.transactions
came_all b h =
    all_more (λ t. transaction_at b t.id ≡ Some t) (Came b) b.transactions (λ t e. stood t e (λ f. f) (inl refl))
    (finds_each transaction_id b.transactions h.rising.transactions)

-- behind a deed
became_open : (how : How) (t : Transaction) (at : List Enlistment) (new : Transaction) → StoodFor how t → Becomes how t at (Some new) → may_expire new.phase ≡ true → may_expire t.phase ≡ true
became_open How.Idles t at new s h o = by_phase h.0
  where
    by_phase : ((may_expire t.phase ≡ true) × (may_expire new.phase ≡ true)) ⊎ (new.phase ≡ t.phase) → may_expire t.phase ≡ true
    by_phase (inl k) = k.0
    by_phase (inr k) = ap may_expire (sym k) ∙ o
became_open How.Aborts t at new s h o = s
became_open How.Votes t at new s h o = s.0
became_open How.Decides t at new s h o = s.0
became_open How.DecidesAlone t at new s h o = absurd cc
became_open How.Leaves t at new s h o = absurd cc
became_open How.Commits t at new s h o = absurd (decided (ap may_expire (sym h.0) ∙ o))
  where
    decided : may_expire Phase.Committing ≡ true → ⊥
    decided f = cc
became_open How.RollsBack t at new s h o = absurd (decided (ap may_expire (sym h.0) ∙ o))
  where
    decided : may_expire Phase.Aborting ≡ true → ⊥
    decided f = cc
became_open How.Ends t at new s h o = absurd cc
became_open How.Forgets t at new s h o = absurd cc

as_many : (e : Event) (t : Transaction) (how : How) (olds news : List Enlistment) → AreSeatsAfter e t how olds news → length news ≡ length olds
as_many e t how [] [] h = refl
as_many e t how [] (n ∷ ns) h = absurd h
as_many e t how (o ∷ os) [] h = absurd h
as_many e t how (o ∷ os) (n ∷ ns) (h, k) = ap (λ m. suc m) (as_many e t how os ns k)

left_came : (b : Book) (e : Event) (t : Transaction) (how : How) (at : List Enlistment) (item : Option Transaction) → transaction_at b t.id ≡ Some t → StoodFor how t
    → Becomes how t at item → IsSameIfLeft t item → AreSeatsIfLeft e t how item → IfThere (Came b) item
left_came b e t how at None found s h same seats = tt
left_came b e t how at (Some new) found s h same seats =
    stood t (ap (transaction_at b) same.id ∙ found) (became_open how t at new s h) (inl (as_many e t how t.seats new.seats seats))

-- behind a registration
record IsRegistered (old t : Transaction) : Type 0 where
  id : t.id ≡ old.id
  phase : t.phase ≡ old.phase
  more : (length t.seats ≡ length old.seats) ⊎ (may_expire t.phase ≡ true)

accepting : (phase : Phase) → accepts phase ≡ true → may_expire phase ≡ true
accepting Phase.Active e = refl
accepting Phase.Volatile e = refl
accepting Phase.Registering e = refl
accepting Phase.Durable e = refl
accepting Phase.Voted e = absurd cc
accepting Phase.Committing e = absurd cc
accepting Phase.Aborting e = absurd cc

as_it_was : (t : Transaction) → IsRegistered t t
as_it_was t = record { id = refl; phase = refl; more = inl refl }

accept_registers : (m : Moment) (a : Arrived) (t : Transaction) (participant : Epr) (kind : Option Kind) → may_expire t.phase ≡ true → IsRegistered t (accept m a t participant kind).transaction
unfolding accept
accept_registers m a t participant (Some kind) e = record { id = refl; phase = refl; more = inr e }
accept_registers m a t participant None e = record { id = refl; phase = refl; more = inl refl }

new_registers : (m : Moment) (a : Arrived) (r : Register) (t : Transaction) (kind : Option (Option Kind)) → IsRegistered t (register_new m a r t kind).transaction
unfolding register_new
new_registers m a r t None = as_it_was t
new_registers m a r t (Some kind) =
    either_of (λ (x : Registration). IsRegistered t x.transaction) (not a.postable) _ _ (λ e. as_it_was t)
    (λ e. either_of (λ (x : Registration). IsRegistered t x.transaction) (may_register t kind) _ _
    (λ f. accept_registers m a t r.participant kind (accepting t.phase (then_accepts t kind f))) (λ f. as_it_was t))

again_registers : (m : Moment) (a : Arrived) (r : Register) (t : Transaction) (kind : Option (Option Kind)) (held : Option Epr) → IsRegistered t (register_again m a r t kind held).transaction
unfolding register_again
again_registers m a r t kind (Some coordinator) = as_it_was t
again_registers m a r t kind None = new_registers m a r t kind

registers : (m : Moment) (a : Arrived) (r : Register) (t : Transaction) → IsRegistered t (on_register m a r t).transaction
unfolding on_register
registers m a r t = again_registers m a r t (protocol_named r.protocol) (held_seat m r t (protocol_named r.protocol))

registered_came : (b : Book) (old t : Transaction) → transaction_at b old.id ≡ Some old → IsRegistered old t → Came b t
registered_came b old t found h = stood old (ap (transaction_at b) h.id ∙ found) (λ e. ap may_expire (sym h.phase) ∙ e) h.more

-- behind a step
done_came : (b : Book) (e : Event) (now : ℕ) (entry : Option Record) (o : Outcome) → IsInOrder b → Done b e now entry o → AllByRecursion (Came b) o.book.transactions
done_came b e now entry o h (did t c answer found d a is sent happens) =
    subst (AllByRecursion (Came b)) (sym is)
    (all_put (Came b) transaction_id t.id c.item b.transactions
    (left_came b e t d.how d.at c.item found d.stood d.becomes d.same (deeds_move_seats.seats e t entry c d)) (came_all b h))
done_came b e now entry o h (undone answer a none is) = subst (λ (x : Outcome). AllByRecursion (Came b) x.book.transactions) (sym is) (came_all b h)
done_came b e now entry o h (registered t a r found came at says none is) =
    let new : Transaction = (on_register (moment_of b now) a r t).transaction in
    subst (λ (x : Outcome). AllByRecursion (Came b) x.book.transactions) (sym is)
    (all_put (Came b) transaction_id new.id (Some new) b.transactions (registered_came b t new found (registers (moment_of b now) a r t)) (came_all b h))
done_came b e now entry o h (made t a c id came at says next makes none is sent happens) =
    subst (AllByRecursion (Came b)) (sym is) (all_join (Came b) b.transactions (t ∷ []) (came_all b h) (fresh not_drawn, tt))
  where
    is_made : (x : Option Transaction) → HasId id x → IfThere (λ (y : Transaction). y.id ≡ id) x
    is_made None f = tt
    is_made (Some y) f = f

    not_drawn : IsDrawn b t.id → ⊥
    not_drawn k =
        makes_under_the_next_id.next b id next
        (subst (IsDrawn b) (subst (IfThere (λ (y : Transaction). y.id ≡ id)) makes (is_made _ (makes_under_the_next_id.transaction (moment_of b now) (length b.transactions) a c id))) k)
done_came b e now entry o h (elsewhere none is roots) = subst (AllByRecursion (Came b)) (sym is) (came_all b h)

pub step_came : (b : Book) (e : Event) (now : ℕ) (landed : Bool) → IsInPhase b → AreFinished b → IsInOrder b → AllByRecursion (Came b) (step b e now landed).book.transactions
step_came b e now landed p f h = done_came b e now (standing landed (plan b e now).entry) (step b e now landed) h (steps_do.steps b e now landed p f)
