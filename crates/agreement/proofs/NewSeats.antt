-- Whose registrations a step accepts.
use Rattle.std.specs.Prelude.{ℕ, List, [], ◌∷◌, ◌++◌, Option, Some, None, Bool, true, false, not, ◌+◌, if◌then◌else◌, drop, length, map, ◌≡◌, refl}
use Rattle.std.specs.List.{AllByRecursion}
use Rattle.std.proofs.Common.{sym, subst, ap, ◌∙◌}
use Rattle.std.proofs.lemmas.Option.{option_and_then_some}
use Rattle.at_base.specs.declared.fault.Fault.{Fault}
use Rattle.at_base.specs.declared.fault.Fault.TheVariants.{CannotRegisterParticipant, InvalidParameters, InvalidProtocol}
use Rattle.at_base.specs.Numbers.{Numbers}
use Rattle.at_base.specs.declared.epr.Epr.{Epr}
use Rattle.at_base.specs.declared.notice.Kind.{Kind}
use Rattle.at_base.specs.declared.target.Seat.{Seat}
use Rattle.at_base.specs.declared.target.Target.{Target}
use Rattle.at_base.specs.declared.target.Target.TheVariants as targets
use Rattle.at_base.specs.declared.message.Message.TheVariants as messages
use Rattle.at_base.specs.declared.message.Register.{Register}
use Rattle.at_base.specs.declared.event.Arrived.{Arrived}
use Rattle.at_base.specs.declared.event.Moment.{Moment}
use Rattle.at_base.specs.declared.event.Item.{Item}
use Rattle.at_base.specs.declared.event.Local.{Local}
use Rattle.at_base.specs.declared.event.Event.{Event}
use Rattle.at_base.specs.declared.event.Event.TheVariants as events
use Rattle.at_base.specs.declared.outs.Post.{Post}
use Rattle.at_base.specs.declared.outs.Out.{Out}
use Rattle.at_tables.specs.declared.cells.State.TheVariants as states
use Rattle.at_model.specs.Moves.{Decision}
use Rattle.at_model.specs.Book.{Book, Transaction, Leaf, Activity, Enlistment, Completion, transaction_id, put_by}
use Rattle.at_model.specs.Register.{Registration, accept, refuse_register, register_new, register_again, held_seat, new_seat, on_register, protocol_named, may_register}
use Rattle.at_model.specs.Step.{Plan, plain, still, at_time, moment_of, registration_outcome, transaction_at, branch, plan, step}
use Rattle.at_model.specs.World.{Node, Accepted, who_of, arrival_of, decoded_at, decoded, accepted_seat, accepted_completion, accepted_by, accepted_in}
use Rattle.endpoints.specs.Addresses.{target_at}
use Rattle.endpoints.specs.Forms.{takes}
use Rattle.model_laws.specs.Order.{IsInOrder}
use Rattle.model_laws.specs.Shapes.{MovesTransaction, at_seat, at_link, at_completion, when_due, MovesLeaf, at_leaf, leaf_when_due, MovesActivity, at_activity, activity_when_due, works, completes, MakesActivity, begins, interposes, Shape, nothing_moves, time_moves, time_passes, transaction_moves, leaf_moves, activity_moves, transaction_registers, transaction_made, leaf_made, activity_made}
use Rattle.model_laws.proofs.DecisionLaws.{found_id, all_more, all_put}
use Rattle.model_laws.proofs.StepRegistrations.{AcceptedBy, accepted_all, dropped, no_completion, nothing_new, unchanged, none_new}
use Rattle.model_laws.proofs.ItemIds.{register_kept}
use Rattle.model_laws.proofs.StepShapes.{steps_touch_one}

-- the seat that a protocol asks for
abbrev pub SeatFor : Option (Option Kind) → Option Seat → Type 0
SeatFor (Some (Some kind)) (Some s) = s.kind ≡ kind
SeatFor (Some None) None = Unit {0}
SeatFor other seat = ⊥

abbrev IsNew : ℕ → List Node → Numbers → Register → Accepted → Type 0
IsNew n nodes id r acc = (acc.transaction ≡ record { node = n; id = id }) × ((acc.participant ≡ who_of nodes r.participant) × SeatFor (protocol_named r.protocol) acc.seat)

abbrev Accepts : Register → Transaction → Registration → Type 0
Accepts r t x = (n : ℕ) (nodes : List Node) → AllByRecursion (IsNew n nodes x.transaction.id r) (accepted_by n nodes (Some t) x.transaction)

behind_all : {A : Type 0} (xs ys : List A) → drop (length xs) (xs ++ ys) ≡ ys
behind_all [] ys = refl
behind_all (x ∷ xs) ys = behind_all xs ys

refuses : (a : Arrived) (r : Register) (t : Transaction) (drawn : Fault) → Accepts r t (refuse_register a t drawn)
refuses a r t drawn n nodes = nothing_new (IsNew n nodes t.id r) n nodes t t refl refl

initiator_new : (n : ℕ) (nodes : List Node) (id : Numbers) (r : Register) (before : Option Completion) (c : Completion) → protocol_named r.protocol ≡ Some None → c.initiator ≡ r.participant
    → AllByRecursion (IsNew n nodes id r) (accepted_completion n nodes id before (Some c))
initiator_new n nodes id r None c e f = ((refl, (ap (who_of nodes) f, subst (λ k. SeatFor k None) (sym e) tt)), tt)
initiator_new n nodes id r (Some d) c e f = tt

accepts : (m : Moment) (a : Arrived) (r : Register) (t : Transaction) (kind : Option Kind) → protocol_named r.protocol ≡ Some kind → Accepts r t (accept m a t r.participant kind)
unfolding accept
accepts m a r t (Some kind) e n nodes =
    subst (AllByRecursion (IsNew n nodes t.id r))
    (sym (λ i. map (accepted_seat n nodes t.id) (behind_all t.seats (new_seat t r.participant kind ∷ []) i) ++ no_completion n nodes t.id t.completion t.completion refl i))
    ((refl, (refl, subst (λ k. SeatFor k (Some (record { number = length t.seats + 1; kind = kind }))) (sym e) refl)), tt)
accepts m a r t None e n nodes =
    subst (λ (ss : List Enlistment). AllByRecursion (IsNew n nodes t.id r)
    (map (accepted_seat n nodes t.id) ss ++ accepted_completion n nodes t.id t.completion (Some (record { initiator = r.participant; state = states.Active }))))
    (sym (dropped t.seats (length t.seats) refl)) (initiator_new n nodes t.id r t.completion (record { initiator = r.participant; state = states.Active }) e refl)

new_accepts : (m : Moment) (a : Arrived) (r : Register) (t : Transaction) (kind : Option (Option Kind)) → protocol_named r.protocol ≡ kind → Accepts r t (register_new m a r t kind)
unfolding register_new
new_accepts m a r t None e = refuses a r t InvalidProtocol
new_accepts m a r t (Some kind) e = by_tests (not a.postable) (may_register t kind)
  where
    by_tests : (b c : Bool) → Accepts r t (if b then refuse_register a t InvalidParameters else if c then accept m a t r.participant kind else refuse_register a t CannotRegisterParticipant)
    by_tests true c = refuses a r t InvalidParameters
    by_tests false true = accepts m a r t kind e
    by_tests false false = refuses a r t CannotRegisterParticipant

again_accepts : (m : Moment) (a : Arrived) (r : Register) (t : Transaction) (kind : Option (Option Kind)) (held : Option Epr) → protocol_named r.protocol ≡ kind
    → Accepts r t (register_again m a r t kind held)
unfolding register_again
again_accepts m a r t kind (Some to) e n nodes = nothing_new (IsNew n nodes t.id r) n nodes t t refl refl
again_accepts m a r t kind None e n nodes = new_accepts m a r t kind e n nodes

register_accepts : (m : Moment) (a : Arrived) (r : Register) (t : Transaction) → Accepts r t (on_register m a r t)
unfolding on_register
register_accepts m a r t = again_accepts m a r t (protocol_named r.protocol) (held_seat m r t (protocol_named r.protocol)) refl

-- a registration that a step accepts: it came to this transaction, which stands
pub record NewSeat (b : Book) (e : Event) (n : ℕ) (nodes : List Node) (acc : Accepted) : Type 0 where
  pub arrived : Arrived
  pub register : Register
  pub id : Numbers
  pub standing : Transaction
  pub came : e ≡ events.Arrived arrived
  pub says : arrived.message ≡ messages.Register register
  pub found : transaction_at b id ≡ Some standing
  pub transaction : acc.transaction ≡ record { node = n; id = standing.id }
  pub participant : acc.participant ≡ who_of nodes register.participant
  pub seat : SeatFor (protocol_named register.protocol) acc.seat

abbrev NewSeats : Book → Event → ℕ → List Node → Book → Type 0
NewSeats b e n nodes c = AllByRecursion (NewSeat b e n nodes) (accepted_in n nodes b c.transactions)

-- other events accept nothing
pub same_arrival : (a c : Arrived) (e : Event) → e ≡ events.Arrived a → e ≡ events.Arrived c → a ≡ c
same_arrival a c e f g = cc

pub no_due : (e : Event) (i : Item) (a : Arrived) → e ≡ events.Due i → e ≡ events.Arrived a → ⊥
no_due e i a f g = cc

pub no_local : (e : Event) (l : Local) (a : Arrived) → e ≡ events.Local l → e ≡ events.Arrived a → ⊥
no_local e l a f g = cc

elsewhere : (e : Event) (n : ℕ) (nodes : List Node) (acc : Accepted) (a : Arrived) (T : Target) → e ≡ events.Arrived a → a.target ≡ T → ((id : Numbers) → T ≡ targets.Registration id → ⊥)
    → AcceptedBy e n nodes acc → ⊥
elsewhere e n nodes acc a T came target other by =
    other by.id (sym target ∙ ap (λ (x : Arrived). x.target) (same_arrival a by.arrived e came by.came) ∙ by.target)

no_participant : (i : Numbers) (k : Kind) (id : Numbers) → targets.Participant i k ≡ targets.Registration id → ⊥
no_participant i k id e = cc

no_initiator : (i id : Numbers) → targets.Initiator i ≡ targets.Registration id → ⊥
no_initiator i id e = cc

no_seat : (i : Numbers) (s : Seat) (id : Numbers) → targets.Coordinator i s ≡ targets.Registration id → ⊥
no_seat i s id e = cc

no_completion_target : (i id : Numbers) → targets.Completion i ≡ targets.Registration id → ⊥
no_completion_target i id e = cc

no_activation : (id : Numbers) → targets.Activation ≡ targets.Registration id → ⊥
no_activation id e = cc

no_work : (id : Numbers) → targets.Work ≡ targets.Registration id → ⊥
no_work id e = cc

moves_none : (b : Book) (e : Event) (now : ℕ) (t : Transaction) (d : Decision Transaction) (n : ℕ) (nodes : List Node) (acc : Accepted) → MovesTransaction b e now t d → AcceptedBy e n nodes acc → ⊥
moves_none b e now t d n nodes acc (at_seat a s came here is) = elsewhere e n nodes acc a _ came here.target (no_seat t.id _)
moves_none b e now t d n nodes acc (at_link a kind s came target superior is) = elsewhere e n nodes acc a _ came target (no_participant t.id kind)
moves_none b e now t d n nodes acc (at_completion a c came target there is) = elsewhere e n nodes acc a _ came target (no_completion_target t.id)
moves_none b e now t d n nodes acc (when_due came is) = λ by. no_due e _ by.arrived came by.came

leaf_none : (b : Book) (e : Event) (now : ℕ) (l : Leaf) (d : Decision Leaf) (n : ℕ) (nodes : List Node) (acc : Accepted) → MovesLeaf b e now l d → AcceptedBy e n nodes acc → ⊥
leaf_none b e now l d n nodes acc (at_leaf a came target is) = elsewhere e n nodes acc a _ came target (no_participant l.id l.kind)
leaf_none b e now l d n nodes acc (leaf_when_due came is) = λ by. no_due e _ by.arrived came by.came

activity_none : (b : Book) (e : Event) (now : ℕ) (a : Activity) (d : Decision Activity) (n : ℕ) (nodes : List Node) (acc : Accepted) → MovesActivity b e now a d → AcceptedBy e n nodes acc → ⊥
activity_none b e now a d n nodes acc (at_activity r came target is) = elsewhere e n nodes acc r _ came target (no_initiator a.id)
activity_none b e now a d n nodes acc (activity_when_due came is) = λ by. no_due e _ by.arrived came by.came
activity_none b e now a d n nodes acc (works url kind vote key value came is) = λ by. no_local e _ by.arrived came by.came
activity_none b e now a d n nodes acc (completes k l came asked is) = λ by. no_local e l by.arrived came by.came

made_none : (b : Book) (e : Event) (now : ℕ) (id : Numbers) (a : Activity) (os : List Out) (n : ℕ) (nodes : List Node) (acc : Accepted) → MakesActivity b e now id a os → AcceptedBy e n nodes acc → ⊥
made_none b e now id a os n nodes acc (begins to ms came is sent) = λ by. no_local e _ by.arrived came by.came
made_none b e now id a os n nodes acc (interposes to named x came found is sent) = λ by. no_local e _ by.arrived came by.came

none : (b : Book) (e : Event) (n : ℕ) (nodes : List Node) (xs : List Accepted) → ((acc : Accepted) → AcceptedBy e n nodes acc → ⊥) → AllByRecursion (AcceptedBy e n nodes) xs
    → AllByRecursion (NewSeat b e n nodes) xs
none b e n nodes xs f h = all_more (AcceptedBy e n nodes) (NewSeat b e n nodes) xs (λ acc by. absurd (f acc by)) h

plain_new : (b : Book) (e : Event) (n : ℕ) (nodes : List Node) (c : Book) (os : List Out) (l : Bool) → NewSeats b e n nodes c → NewSeats b e n nodes (branch (plain (still c os)) l).book
plain_new b e n nodes c os true h = h
plain_new b e n nodes c os false h = h

same_new : (b : Book) (e : Event) (n : ℕ) (nodes : List Node) (p : Plan) (landed : Bool) (c : Book) (os : List Out) → IsInOrder b → p ≡ plain (still c os) → c.transactions ≡ b.transactions
    → NewSeats b e n nodes (branch p landed).book
same_new b e n nodes p landed c os order is same =
    subst (λ (q : Plan). NewSeats b e n nodes (branch q landed).book) (sym is) (plain_new b e n nodes c os landed
    (subst (AllByRecursion (NewSeat b e n nodes)) (sym (ap (accepted_in n nodes b) same ∙ none_new nodes b order n)) tt))

registers_new : (b : Book) (now n : ℕ) (nodes : List Node) (id : Numbers) (a : Arrived) (r : Register) (t : Transaction) → IsInOrder b → transaction_at b id ≡ Some t → a.message ≡ messages.Register r
    → (x : Registration) → x.transaction.id ≡ t.id → Accepts r t x → AllByRecursion (NewSeat b (events.Arrived a) n nodes) (accepted_in n nodes b (put_by transaction_id x.transaction.id (Some x.transaction) b.transactions))
registers_new b now n nodes id a r t order found says x same k =
    let there : t.id ≡ id = found_id transaction_id id b.transactions t found in
    let R : Accepted → Type 0 = NewSeat b (events.Arrived a) n nodes in
    accepted_all R n nodes b (put_by transaction_id x.transaction.id (Some x.transaction) b.transactions)
    (all_put (λ y. AllByRecursion R (accepted_by n nodes (transaction_at b y.id) y)) transaction_id x.transaction.id (Some x.transaction) b.transactions
    (subst (λ o. AllByRecursion R (accepted_by n nodes o x.transaction)) (sym (ap (transaction_at b) (same ∙ there) ∙ found))
    (all_more (IsNew n nodes x.transaction.id r) R (accepted_by n nodes (Some t) x.transaction)
    (λ acc f. record {
      arrived = a;
      register = r;
      id = id;
      standing = t;
      came = refl;
      says = says;
      found = found;
      transaction = f.0 ∙ ap (λ i. record { node = n; id = i }) same;
      participant = f.1.0;
      seat = f.1.1;
    }) (k n nodes))) (unchanged R n nodes b order))

by_shape : (b : Book) (e : Event) (now n : ℕ) (nodes : List Node) (p : Plan) (landed : Bool) → IsInOrder b
    → AllByRecursion (AcceptedBy e n nodes) (accepted_in n nodes b (branch p landed).book.transactions) → Shape b e now p → NewSeats b e n nodes (branch p landed).book
by_shape b e now n nodes p landed order h (nothing_moves is) = same_new b e n nodes p landed b [] order is refl
by_shape b e now n nodes p landed order h (time_moves a os came answers ordered is) = same_new b e n nodes p landed (at_time now b) os order is refl
by_shape b e now n nodes p landed order h (time_passes came is) = same_new b e n nodes p landed (at_time now b) _ order is refl
by_shape b e now n nodes p landed order h (transaction_moves id t answer d found moves a is) = none b e n nodes _ (λ acc. moves_none b e now t d n nodes acc moves) h
by_shape b e now n nodes p landed order h (leaf_moves id l answer d found moves a is) = none b e n nodes _ (λ acc. leaf_none b e now l d n nodes acc moves) h
by_shape b e now n nodes p landed order h (activity_moves id x answer d found moves a is) = none b e n nodes _ (λ acc. activity_none b e now x d n nodes acc moves) h
by_shape b e now n nodes p landed order h (transaction_registers id a r t found came target says ordered is) =
    subst (λ (q : Plan). NewSeats b e n nodes (branch q landed).book) (sym is)
    (plain_new b e n nodes (registration_outcome b now (on_register (moment_of b now) a r t)).book (on_register (moment_of b now) a r t).outs landed
    (subst (λ f. NewSeats b f n nodes (registration_outcome b now (on_register (moment_of b now) a r t)).book) (sym came)
    (registers_new b now n nodes id a r t order found says (on_register (moment_of b now) a r t) (register_kept t.id (moment_of b now) a r t refl) (register_accepts (moment_of b now) a r t))))
by_shape b e now n nodes p landed order h (transaction_made a c id t os came target says next makes sent ordered is) =
    none b e n nodes _ (λ acc. elsewhere e n nodes acc a _ came target no_activation) h
by_shape b e now n nodes p landed order h (leaf_made a w id l os came target says next makes sent ordered is) =
    none b e n nodes _ (λ acc. elsewhere e n nodes acc a _ came target no_work) h
by_shape b e now n nodes p landed order h (activity_made id a os next makes ordered is) = none b e n nodes _ (λ acc. made_none b e now id a os n nodes acc makes) h

pub step_accepts : (b : Book) (e : Event) (now : ℕ) (landed : Bool) (n : ℕ) (nodes : List Node) → IsInOrder b
    → AllByRecursion (AcceptedBy e n nodes) (accepted_in n nodes b (step b e now landed).book.transactions) → AllByRecursion (NewSeat b e n nodes) (accepted_in n nodes b (step b e now landed).book.transactions)
step_accepts b e now landed n nodes order h = by_shape b e now n nodes (plan b e now) landed order h (steps_touch_one b e now)

-- a message that arrives says what was posted
pub decoded_says : (base : List ℕ) (p : Post) (a : Arrived) → decoded base p ≡ Some a → a.message ≡ p.message
decoded_says base p a e = option_and_then_some (λ to. decoded_at (target_at base to.address) p) p.to a e (λ to goes inner. by_target (target_at base to.address) inner)
  where
    by_takes : (T : Target) (c : Bool) → (if c then Some (arrival_of T p) else None) ≡ Some a → a.message ≡ p.message
    by_takes T true g = let same : arrival_of T p ≡ a = cc in ap (λ (x : Arrived). x.message) (sym same)
    by_takes T false g = absurd cc

    by_target : (o : Option Target) → decoded_at o p ≡ Some a → a.message ≡ p.message
    by_target None g = absurd cc
    by_target (Some T) g = by_takes T (takes T p.message) g
