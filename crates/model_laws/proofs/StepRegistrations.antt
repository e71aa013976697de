-- What a step does to where items register, and what it accepts.
use Rattle.std.specs.Prelude.{ℕ, List, [], ◌∷◌, ◌++◌, Option, Some, None, Bool, true, false, not, if◌then◌else◌, is_none, length, map, option_map, drop, take, ◌≡◌, ◌≤◌, refl}
use Rattle.std.specs.List.{AllByRecursion}
use Rattle.std.proofs.Common.{inl, inr, sym, subst, ap, ◌∙◌}
use Rattle.std.proofs.lemmas.Bool.{true≢false}
use Rattle.std.proofs.lemmas.List.{length-map}
use Rattle.std.proofs.Math.Seq.{take-length}
use Rattle.at_base.specs.declared.fault.Fault.{Fault}
use Rattle.at_base.specs.Numbers.{Numbers}
use Rattle.at_base.specs.declared.epr.Epr.{Epr}
use Rattle.at_base.specs.declared.epr.Reply.{Reply}
use Rattle.at_base.specs.declared.epr.Reply.TheVariants as replies
use Rattle.at_base.specs.declared.message.Message.{Message}
use Rattle.at_base.specs.declared.message.Message.TheVariants as messages
use Rattle.at_base.specs.declared.message.Register.{Register}
use Rattle.at_base.specs.declared.target.Target.{Target}
use Rattle.at_base.specs.declared.target.Target.TheVariants as targets
use Rattle.at_base.specs.declared.record.Record.{Record}
use Rattle.at_base.specs.declared.event.Arrived.{Arrived}
use Rattle.at_base.specs.declared.event.Event.{Event}
use Rattle.at_base.specs.declared.event.Event.TheVariants as events
use Rattle.at_base.specs.declared.outs.Post.{Post}
use Rattle.at_base.specs.declared.outs.Out.{Out}
use Rattle.at_base.specs.declared.outs.Out.TheVariants as outs
use Rattle.at_model.specs.Book.{Book, Transaction, Leaf, Activity, Completion, Enlistment, Request, WorkRequest, is_id, find_by, put_by, transaction_id, leaf_id, activity_id, last_counter}
use Rattle.endpoints.specs.Addresses.{endpoint_of}
use Rattle.at_model.specs.Posts.{replied, faulted}
use Rattle.at_model.specs.Moves.{Change, Decision, Goes, Records}
use Rattle.at_model.specs.Arrivals.{request_of, with_answer}
use Rattle.at_model.specs.Activities.{activity_target}
use Rattle.at_model.specs.Step.{Outcome, still, at_time, moment_of, is_under, put_transaction, put_leaf, put_activity, put_activities, outcome_of, transaction_plan, leaf_plan, activity_plan, transaction_at, leaf_at, activity_at}
use Rattle.at_model.specs.World.{Node, Accepted, who_of, item_at, accepted_seat, accepted_completion, accepted_by, accepted_in}
use Rattle.model_laws.specs.PhaseAnswers.{Accepted as Seating, accepted_as}
use Rattle.model_laws.specs.DrawnIds.{AreDrawn}
use Rattle.model_laws.specs.Laws.{IsDrawn, HasId, HasLeafId}
use Rattle.model_laws.specs.Order.{AreRising, IsInOrder}
use Rattle.at_model.specs.Recovery.{is_before}
use Rattle.model_laws.specs.Shapes.{IsAnswer}
use Rattle.model_laws.proofs.DecisionLaws.{found_id, Both, IfThere, DecisionSays, decided_says, all_find, all_put, all_filter, all_join, all_more, StaysOn}
use Rattle.model_laws.proofs.ItemIds.{HasBoth}
use Rattle.at_base.specs.IdText.{IsId}
use Rattle.model_laws.proofs.Order.{other_id, unmapped}
use Rattle.model_laws.proofs.MovePosts.{initiator_endpoint, Fine, IsFine, AreFine, AreLike, LeftSays, IsLeft, with_answer_left, LeafLike, IsLeafLike, AreLeafLike, Standing, Never, At, Silent, activity_standing, OwnsActivity, ActivityLike, AreActivityLike}
use Rattle.model_laws.proofs.RecoveryLaws.{same_id, self_id}
use Rattle.model_laws.proofs.OtherEnds.{Anything}

-- where a transaction and a leaf register
abbrev pub by_request : Option Request → Standing
by_request None = Silent
by_request (Some r) = At r.registration

abbrev pub transaction_standing : Transaction → Standing
transaction_standing t = by_request (request_of t.superior)

abbrev pub by_work : Option WorkRequest → Standing
by_work None = Silent
by_work (Some r) = At r.registration

abbrev pub leaf_standing : Leaf → Standing
leaf_standing l = by_work l.request

-- what is kept of an item agrees with what it holds
abbrev pub Meets : Standing → Standing → Type 0
Meets kept Never = kept ≡ Never
Meets kept (At endpoint) = kept ≡ At endpoint
Meets kept Silent = Unit {0}

never_at : (S : Standing) (e : Epr) → S ≡ Never → S ≡ At e → ⊥
never_at S e f g = cc

at_silent : (S : Standing) (e : Epr) → S ≡ Silent → S ≡ At e → ⊥
at_silent S e f g = cc

pub same_at : (e f : Epr) → At e ≡ At f → e ≡ f
same_at e f h = cc

pub by_request_never : (r : Option Request) → by_request r ≡ Never → ⊥
by_request_never None e = absurd cc
by_request_never (Some r) e = absurd cc

pub by_work_never : (r : Option WorkRequest) → by_work r ≡ Never → ⊥
by_work_never None e = absurd cc
by_work_never (Some r) e = absurd cc

pub meets_at : (kept S : Standing) (e : Epr) → Meets kept S → S ≡ At e → kept ≡ At e
meets_at kept Never e h f = absurd (never_at Never e refl f)
meets_at kept (At d) e h f = h ∙ f
meets_at kept Silent e h f = absurd (at_silent Silent e refl f)

meets_never : (kept S : Standing) → Meets kept S → S ≡ Never → kept ≡ Never
meets_never kept S h e = subst (Meets kept) e h

-- an item chooses
abbrev pub set : (Numbers → Standing) → Numbers → Epr → Numbers → Standing
set s id e i = if is_id i id then At e else s i

abbrev pub choose : (Numbers → Standing) → Numbers → Standing → Numbers → Standing
choose s id Never = s
choose s id (At e) = set s id e
choose s id Silent = s

set_other : (s : Numbers → Standing) (id i : Numbers) (e : Epr) (P : Standing → Type 0) → (i ≡ id → P (At e)) → P (s i) → P (set s id e i)
set_other s id i e P h k = by_id (is_id i id) refl
  where
    by_id : (b : Bool) → is_id i id ≡ b → P (if b then At e else s i)
    by_id true f = h (same_id i id f)
    by_id false f = k

set_this : (s : Numbers → Standing) (id : Numbers) (e : Epr) → set s id e id ≡ At e
set_this s id e = ap (λ b. if b then At e else s id) (self_id id)

pub choose_keeps : (s : Numbers → Standing) (id : Numbers) (S : Standing) → s id ≡ Never → (i : Numbers) (e : Epr) → s i ≡ At e → choose s id S i ≡ At e
choose_keeps s id Never n i e h = h
choose_keeps s id Silent n i e h = h
choose_keeps s id (At d) n i e h =
    set_other s id i d (λ T. T ≡ At e) (λ f. absurd (never_at (s id) e n (sym (ap s f) ∙ h))) h

pub choose_this : (s : Numbers → Standing) (id : Numbers) (S : Standing) → s id ≡ Never → Meets (choose s id S id) S
choose_this s id Never n = n
choose_this s id Silent n = tt
choose_this s id (At e) n = set_this s id e

pub choose_at : (s : Numbers → Standing) (id : Numbers) (S : Standing) (e : Epr) → s id ≡ Never → S ≡ At e → choose s id S id ≡ At e
choose_at s id S e n f = meets_at (choose s id S id) S e (choose_this s id S n) f

meets_set : (s : Numbers → Standing) (id i : Numbers) (e : Epr) (T : Standing) → s id ≡ Never → (T ≡ Never → i ≡ id → ⊥) → Meets (s i) T → Meets (set s id e i) T
meets_set s id i e Never n f h = set_other s id i e (λ U. U ≡ Never) (λ g. absurd (f refl g)) h
meets_set s id i e (At d) n f h = set_other s id i e (λ U. U ≡ At d) (λ g. absurd (never_at (s id) d n (sym (ap s g) ∙ h))) h
meets_set s id i e Silent n f h = tt

pub choose_other : (s : Numbers → Standing) (id i : Numbers) (S T : Standing) → s id ≡ Never → (T ≡ Never → i ≡ id → ⊥) → Meets (s i) T → Meets (choose s id S i) T
choose_other s id i Never T n f h = h
choose_other s id i Silent T n f h = h
choose_other s id i (At e) T n f h = meets_set s id i e T n f h

pub choose_never : (s : Numbers → Standing) (id i : Numbers) (S : Standing) → (i ≡ id → ⊥) → s i ≡ Never → choose s id S i ≡ Never
choose_never s id i Never f h = h
choose_never s id i Silent f h = h
choose_never s id i (At e) f h = set_other s id i e (λ U. U ≡ Never) (λ g. absurd (f g)) h

pub choose_small : (s : Numbers → Standing) (id : Numbers) (S : Standing) → IsId id → ((i : Numbers) (e : Epr) → s i ≡ At e → IsId i)
    → (i : Numbers) (e : Epr) → choose s id S i ≡ At e → IsId i
choose_small s id Never k h i e f = h i e f
choose_small s id Silent k h i e f = h i e f
choose_small s id (At d) k h i e f = set_other s id i d (λ U. U ≡ At e → IsId i) (λ g x. subst IsId (sym g) k) (h i e) f

-- a book, and where each item that its node ever made registers
pub record Fits (s : Numbers → Standing) (b : Book) : Type 0 where
  pub transactions : AllByRecursion (λ t. Meets (s t.id) (transaction_standing t)) b.transactions
  pub leaves : AllByRecursion (λ l. Meets (s l.id) (leaf_standing l)) b.leaves
  pub activities : AllByRecursion (λ a. Meets (s a.id) (activity_standing a) × IsId a.id) b.activities

pub record Says (base : List ℕ) (s : Numbers → Standing) (b : Book) : Type 0 where
  pub base_is : b.base ≡ base
  pub order : IsInOrder b
  pub fits : Fits s b
  pub undrawn : (id : Numbers) → (IsDrawn b id → ⊥) → s id ≡ Never
  pub small : (id : Numbers) (e : Epr) → s id ≡ At e → IsId id
  pub least : 1 ≤ b.incarnation
  pub most : b.incarnation ≤ last_counter

-- a Register of an item of a node, to where that item registers
pub record Registers (base : List ℕ) (s : Numbers → Standing) (participant : Epr) (to : Option Epr) : Type 0 where
  pub id : Numbers
  pub own : Target
  pub endpoint : Epr
  pub named : item_at own ≡ Some id
  pub is : participant ≡ endpoint_of base own
  pub goes : to ≡ Some endpoint
  pub stands : s id ≡ At endpoint

abbrev pub OutSays : (Epr → Option Epr → Type 0) → Out → Type 0
OutSays Q (outs.Post p) = IsFine Q p
OutSays Q (outs.Answer status reply) = Unit {0}

abbrev pub AreOuts : (Epr → Option Epr → Type 0) → List Out → Type 0
AreOuts Q os = AllByRecursion (OutSays Q) os

-- what a step accepts: a registration that arrived at this transaction
pub record AcceptedBy (e : Event) (n : ℕ) (nodes : List Node) (acc : Accepted) : Type 0 where
  pub arrived : Arrived
  pub register : Register
  pub id : Numbers
  pub came : e ≡ events.Arrived arrived
  pub says : arrived.message ≡ messages.Register register
  pub target : arrived.target ≡ targets.Registration id
  pub transaction : acc.transaction ≡ record { node = n; id = id }
  pub participant : acc.participant ≡ who_of nodes register.participant

-- the same seats but for their states, and the same initiator or none
as_many : (xs ys : List Enlistment) → map accepted_as xs ≡ map accepted_as ys → length xs ≡ length ys
as_many xs ys e = sym (length-map xs accepted_as) ∙ ap length e ∙ length-map ys accepted_as

as_none : (c d : Option Completion) → option_map initiator_endpoint c ≡ option_map initiator_endpoint d → is_none c ≡ is_none d
as_none None None e = refl
as_none None (Some d) e = absurd cc
as_none (Some c) None e = absurd cc
as_none (Some c) (Some d) e = refl

-- A transaction that stood in the book keeps its participants, in front of new ones, and its initiator; one that is made
-- has none.
abbrev pub HasInitiator : Option Completion → Option Completion → Type 0
HasInitiator None c = Unit {0}
HasInitiator (Some old) c = option_map initiator_endpoint c ≡ Some old.initiator

abbrev pub Grown : Option Transaction → Transaction → Type 0
Grown None t = (t.seats ≡ []) × (t.completion ≡ None)
Grown (Some old) t = (map accepted_as (take (length old.seats) t.seats) ≡ map accepted_as old.seats) × HasInitiator old.completion t.completion

same_initiator : (c d : Option Completion) → option_map initiator_endpoint d ≡ option_map initiator_endpoint c → HasInitiator c d
same_initiator None d e = tt
same_initiator (Some c) d e = e

pub grown_like : (old t : Transaction) → map accepted_as t.seats ≡ map accepted_as old.seats → option_map initiator_endpoint t.completion ≡ option_map initiator_endpoint old.completion → Grown (Some old) t
grown_like old t e f =
    (ap (λ k. map accepted_as (take k t.seats)) (sym (as_many t.seats old.seats e)) ∙ ap (map accepted_as) (take-length t.seats) ∙ e, same_initiator old.completion t.completion f)

abbrev pub AreGrown : Book → List Transaction → Type 0
AreGrown b ts = AllByRecursion (λ t. Grown (transaction_at b t.id) t) ts

pub record Gives (base : List ℕ) (e : Event) (s : Numbers → Standing) (b : Book) (o : Outcome) : Type 0 where
  pub after : Numbers → Standing
  pub keeps : (id : Numbers) (p : Epr) → s id ≡ At p → after id ≡ At p
  pub fits : Fits after o.book
  pub undrawn : (id : Numbers) → s id ≡ Never → (IsDrawn o.book id → ⊥) → after id ≡ Never
  pub small : (id : Numbers) (p : Epr) → after id ≡ At p → IsId id
  pub outs : AreOuts (Registers base after) o.outs
  pub accepted : (n : ℕ) (nodes : List Node) → AllByRecursion (AcceptedBy e n nodes) (accepted_in n nodes b o.book.transactions)
  pub grown : AreGrown b o.book.transactions

-- a kept outcome changes no item
pub gives_on : (base : List ℕ) (e : Event) (s : Numbers → Standing) (b : Book) → StaysOn (Gives base e s b)
gives_on base e s b r o g = record {
  after = g.after;
  keeps = g.keeps;
  fits = record { transactions = g.fits.transactions; leaves = g.fits.leaves; activities = g.fits.activities };
  undrawn = g.undrawn;
  small = g.small;
  outs = g.outs;
  accepted = g.accepted;
  grown = g.grown;
}

-- lists of outs
pub fine_more : (Q R : Epr → Option Epr → Type 0) → ((participant : Epr) (to : Option Epr) → Q participant to → R participant to) → (to : Option Epr) (x : Message) → Fine Q to x → Fine R to x
fine_more Q R f to (messages.Register r) h = f r.participant to h
fine_more Q R f to (messages.Create c) h = tt
fine_more Q R f to (messages.CreateResponse c) h = tt
fine_more Q R f to (messages.RegisterResponse c) h = tt
fine_more Q R f to (messages.Notice n) h = tt
fine_more Q R f to (messages.Work w) h = tt
fine_more Q R f to messages.WorkDone h = tt
fine_more Q R f to messages.WorkRefused h = tt
fine_more Q R f to (messages.Fault name) h = tt

pub posts_say : (Q R : Epr → Option Epr → Type 0) → ((participant : Epr) (to : Option Epr) → Q participant to → R participant to) → (ps : List Post) → AreFine Q ps
    → AreOuts R (map outs.Post ps)
posts_say Q R f [] h = tt
posts_say Q R f (p ∷ ps) (h, k) = (fine_more Q R f p.to p.message h, posts_say Q R f ps k)

out_more : (Q R : Epr → Option Epr → Type 0) → ((participant : Epr) (to : Option Epr) → Q participant to → R participant to) → (o : Out) → OutSays Q o → OutSays R o
out_more Q R f (outs.Post p) h = fine_more Q R f p.to p.message h
out_more Q R f (outs.Answer status reply) h = tt

pub outs_more : (Q R : Epr → Option Epr → Type 0) → ((participant : Epr) (to : Option Epr) → Q participant to → R participant to) → (os : List Out) → AreOuts Q os → AreOuts R os
outs_more Q R f os h = all_more (OutSays Q) (OutSays R) os (out_more Q R f) h

abbrev pub NoRegister : Epr → Option Epr → Type 0
NoRegister participant to = ⊥

pub answer_says : (Q : Epr → Option Epr → Type 0) (answer : List Out) → IsAnswer answer → AreOuts Q answer
answer_says Q answer (inl e) = subst (AreOuts Q) (sym e) tt
answer_says Q answer (inr e) = subst (AreOuts Q) (sym e) (tt, tt)

pub replied_says : (Q : Epr → Option Epr → Type 0) (r : Reply) (id : Option (List ℕ)) (x : Message) → Fine Q None x → ((to : Epr) → Fine Q (Some to) x) → AreOuts Q (replied r id x)
replied_says Q replies.Anonymous id x h k = (tt, tt)
replied_says Q replies.Nobody id x h k = (tt, tt)
replied_says Q (replies.At to) id x h k = (tt, (k to, tt))

pub faulted_says : (Q : Epr → Option Epr → Type 0) (r : Reply) (id : Option (List ℕ)) (drawn : Fault) → AreOuts Q (faulted r id drawn)
faulted_says Q replies.Anonymous id drawn = (tt, tt)
faulted_says Q replies.Nobody id drawn = (tt, tt)
faulted_says Q (replies.At to) id drawn = (tt, (tt, tt))

-- what a step accepts, transaction by transaction
pub accepted_all : (R : Accepted → Type 0) (n : ℕ) (nodes : List Node) (b : Book) (ts : List Transaction)
    → AllByRecursion (λ t. AllByRecursion R (accepted_by n nodes (transaction_at b t.id) t)) ts → AllByRecursion R (accepted_in n nodes b ts)
accepted_all R n nodes b [] h = tt
accepted_all R n nodes b (t ∷ ts) (h, k) =
    all_join R (accepted_by n nodes (transaction_at b t.id) t) (accepted_in n nodes b ts) h (accepted_all R n nodes b ts k)

pub dropped : {A : Type 0} (xs : List A) (k : ℕ) → length xs ≡ k → drop k xs ≡ []
dropped xs k e = subst (λ n. drop n xs ≡ []) e (whole xs)
  where
    whole : {A : Type 0} (xs : List A) → drop (length xs) xs ≡ []
    whole [] = refl
    whole (x ∷ xs) = whole xs

pub no_completion : (n : ℕ) (nodes : List Node) (id : Numbers) (before after : Option Completion) → is_none after ≡ is_none before → accepted_completion n nodes id before after ≡ []
no_completion n nodes id None None e = refl
no_completion n nodes id None (Some c) e = absurd (true≢false (sym e))
no_completion n nodes id (Some c) None e = refl
no_completion n nodes id (Some c) (Some d) e = refl

pub nothing_new : (R : Accepted → Type 0) (n : ℕ) (nodes : List Node) (before t : Transaction) → length t.seats ≡ length before.seats → is_none t.completion ≡ is_none before.completion
    → AllByRecursion R (accepted_by n nodes (Some before) t)
nothing_new R n nodes before t e f =
    subst (AllByRecursion R) (sym (λ i. map (accepted_seat n nodes t.id) (dropped t.seats (length before.seats) e i) ++ no_completion n nodes t.id before.completion t.completion f i)) tt

finds_each : {A : Type 0} (key : A → Numbers) (xs : List A) → AreRising (map key xs) → AllByRecursion (λ x. find_by key (key x) xs ≡ Some x) xs
finds_each key [] h = tt
finds_each {A = A} key (x ∷ xs) (h, k) =
    (ap (λ b. if b then Some x else find_by key (key x) xs) (self_id (key x)), behind_first xs (unmapped (λ i. is_before (key x) i ≡ true) key xs h) (finds_each key xs k))
  where
    behind_first : (ys : List A) → AllByRecursion (λ y. is_before (key x) (key y) ≡ true) ys → AllByRecursion (λ y. find_by key (key y) xs ≡ Some y) ys
        → AllByRecursion (λ y. find_by key (key y) (x ∷ xs) ≡ Some y) ys
    behind_first [] h k = tt
    behind_first (y ∷ ys) (h, hs) (k, ks) = (ap (λ b. if b then Some x else find_by key (key y) xs) (other_id (key x) (key y) h) ∙ k, behind_first ys hs ks)

pub unchanged : (R : Accepted → Type 0) (n : ℕ) (nodes : List Node) (b : Book) → IsInOrder b
    → AllByRecursion (λ t. AllByRecursion R (accepted_by n nodes (transaction_at b t.id) t)) b.transactions
unchanged R n nodes b h =
    all_more (λ t. transaction_at b t.id ≡ Some t) (λ t. AllByRecursion R (accepted_by n nodes (transaction_at b t.id) t)) b.transactions
    (λ t e. subst (λ o. AllByRecursion R (accepted_by n nodes o t)) (sym e) (nothing_new R n nodes t t refl refl))
    (finds_each transaction_id b.transactions h.rising.transactions)

pub none_grown : (b : Book) → IsInOrder b → AreGrown b b.transactions
none_grown b h =
    all_more (λ t. transaction_at b t.id ≡ Some t) (λ t. Grown (transaction_at b t.id) t) b.transactions
    (λ t e. subst (λ o. Grown o t) (sym e) (grown_like t t refl refl))
    (finds_each transaction_id b.transactions h.rising.transactions)

pub none_accepted : (e : Event) (n : ℕ) (nodes : List Node) (b : Book) → IsInOrder b → AllByRecursion (AcceptedBy e n nodes) (accepted_in n nodes b b.transactions)
none_accepted e n nodes b h = accepted_all (AcceptedBy e n nodes) n nodes b b.transactions (unchanged (AcceptedBy e n nodes) n nodes b h)

-- nothing moves
pub still_gives : (base : List ℕ) (e : Event) (s : Numbers → Standing) (b : Book) (os : List Out) → Says base s b → AreOuts NoRegister os → Gives base e s b (still b os)
still_gives base e s b os h k = record {
  after = s;
  keeps = λ id p i. i;
  fits = h.fits;
  undrawn = λ id i j. i;
  small = h.small;
  outs = outs_more NoRegister (Registers base s) (λ participant to f. absurd f) os k;
  accepted = λ n nodes. none_accepted e n nodes b h.order;
  grown = none_grown b h.order;
}

pub time_gives : (base : List ℕ) (e : Event) (s : Numbers → Standing) (b : Book) (now : ℕ) (os : List Out) → Says base s b → AreOuts NoRegister os
    → Gives base e s b (still (at_time now b) os)
time_gives base e s b now os h k = record {
  after = s;
  keeps = λ id p i. i;
  fits = record { transactions = h.fits.transactions; leaves = h.fits.leaves; activities = h.fits.activities };
  undrawn = λ id i j. i;
  small = h.small;
  outs = outs_more NoRegister (Registers base s) (λ participant to f. absurd f) os k;
  accepted = λ n nodes. none_accepted e n nodes b h.order;
  grown = none_grown b h.order;
}

-- two properties of a decision
says_both : {A : Type 0} (P Q : Change A → Type 0) (S T : Record → Change A → Type 0) (d : Decision A) → DecisionSays P S d → DecisionSays Q T d
    → DecisionSays (λ c. P c × Q c) (λ r c. Unit {0}) d
says_both P Q S T (Goes c) h k = (h, k)
says_both P Q S T (Records r c None) h k = record { entry = tt; landed = (h.landed, k.landed); otherwise = tt }
says_both P Q S T (Records r c (Some d)) h k = record { entry = tt; landed = (h.landed, k.landed); otherwise = (h.otherwise, k.otherwise) }

-- a transaction moves
left_meets : (s : Numbers → Standing) (t : Transaction) (x : Option Transaction) (k : List Seating) (z : Option Epr) → Meets (s t.id) (transaction_standing t) → HasId t.id x
    → IsLeft (request_of t.superior) k z x → IfThere (λ y. Meets (s y.id) (transaction_standing y)) x
left_meets s t None k z h i j = tt
left_meets s t (Some x) k z h i (inl e, l, n) = subst (λ id. Meets (s id) (transaction_standing x)) (sym i) (subst (λ r. Meets (s t.id) (by_request r)) (sym e) h)
left_meets s t (Some x) k z h i (inr e, l, n) = subst (λ r. Meets (s x.id) (by_request r)) (sym e) tt

left_grown : (b : Book) (t : Transaction) (x : Option Transaction) → transaction_at b t.id ≡ Some t → HasId t.id x
    → IsLeft (request_of t.superior) (map accepted_as t.seats) (option_map initiator_endpoint t.completion) x → IfThere (λ y. Grown (transaction_at b y.id) y) x
left_grown b t None e i j = tt
left_grown b t (Some x) e i (r, l, c) = subst (λ o. Grown o x) (sym (ap (transaction_at b) i ∙ e)) (grown_like t x l c)

left_accepts : (R : Accepted → Type 0) (n : ℕ) (nodes : List Node) (b : Book) (t : Transaction) (x : Option Transaction) → transaction_at b t.id ≡ Some t → HasId t.id x
    → IsLeft (request_of t.superior) (map accepted_as t.seats) (option_map initiator_endpoint t.completion) x → IfThere (λ y. AllByRecursion R (accepted_by n nodes (transaction_at b y.id) y)) x
left_accepts R n nodes b t None e i j = tt
left_accepts R n nodes b t (Some x) e i (r, l, c) =
    subst (λ o. AllByRecursion R (accepted_by n nodes o x)) (sym (ap (transaction_at b) i ∙ e)) (nothing_new R n nodes t x (as_many x.seats t.seats l) (as_none x.completion t.completion c))

moved_gives : (base : List ℕ) (e : Event) (s : Numbers → Standing) (b : Book) (now : ℕ) (answer : List Out) (t : Transaction) (c : Change Transaction) → Says base s b
    → transaction_at b t.id ≡ Some t → IsAnswer answer → HasId t.id c.item → LeftSays (Registers base s) (request_of t.superior) (map accepted_as t.seats) (option_map initiator_endpoint t.completion) c
    → Gives base e s b (outcome_of (put_transaction t.id (at_time now b)) answer c)
moved_gives base e s b now answer t c h stands a i (ps, l) = record {
  after = s;
  keeps = λ id p j. j;
  fits = record {
    transactions = all_put (λ y. Meets (s y.id) (transaction_standing y)) transaction_id t.id c.item b.transactions
        (left_meets s t c.item (map accepted_as t.seats) (option_map initiator_endpoint t.completion)
        (all_find (λ y. Meets (s y.id) (transaction_standing y)) transaction_id t.id b.transactions t h.fits.transactions stands) i l) h.fits.transactions;
    leaves = h.fits.leaves;
    activities = h.fits.activities;
  };
  undrawn = λ id j k. j;
  small = h.small;
  outs = all_join (OutSays (Registers base s)) answer (map outs.Post c.posts) (answer_says (Registers base s) answer a)
      (posts_say (Registers base s) (Registers base s) (λ participant to f. f) c.posts ps);
  accepted = λ n nodes.
      accepted_all (AcceptedBy e n nodes) n nodes b (put_by transaction_id t.id c.item b.transactions)
      (all_put (λ y. AllByRecursion (AcceptedBy e n nodes) (accepted_by n nodes (transaction_at b y.id) y)) transaction_id t.id c.item b.transactions
      (left_accepts (AcceptedBy e n nodes) n nodes b t c.item stands i l) (unchanged (AcceptedBy e n nodes) n nodes b h.order));
  grown = all_put (λ y. Grown (transaction_at b y.id) y) transaction_id t.id c.item b.transactions (left_grown b t c.item stands i l) (none_grown b h.order);
}

standing_found : (b : Book) (id : Numbers) (t : Transaction) → transaction_at b id ≡ Some t → transaction_at b t.id ≡ Some t
standing_found b id t e = ap (transaction_at b) (found_id transaction_id id b.transactions t e) ∙ e

pub transaction_gives : (base : List ℕ) (e : Event) (s : Numbers → Standing) (b : Book) (now : ℕ) (answer : List Out) (id : Numbers) (t : Transaction) (d : Decision Transaction)
    → Says base s b → transaction_at b id ≡ Some t → IsAnswer answer → DecisionSays (λ c. HasId t.id c.item) (λ r c. Unit {0}) (with_answer (moment_of b now) t d)
    → AreLike (Registers base s) (request_of t.superior) (map accepted_as t.seats) (option_map initiator_endpoint t.completion) d → Both (Gives base e s b) (transaction_plan b now answer t d)
transaction_gives base e s b now answer id t d h stands a kept like =
    decided_says (λ c. HasId t.id c.item × LeftSays (Registers base s) (request_of t.superior) (map accepted_as t.seats) (option_map initiator_endpoint t.completion) c) (λ r c. Unit {0}) (Gives base e s b) (gives_on base e s b) b
    (put_transaction t.id (at_time now b)) answer (with_answer (moment_of b now) t d)
    (says_both (λ c. HasId t.id c.item) (LeftSays (Registers base s) (request_of t.superior) (map accepted_as t.seats) (option_map initiator_endpoint t.completion)) (λ r c. Unit {0}) Anything
    (with_answer (moment_of b now) t d) kept
    (with_answer_left (Registers base s) (request_of t.superior) (map accepted_as t.seats) (option_map initiator_endpoint t.completion) (moment_of b now) t d like))
    (λ c k. moved_gives base e s b now answer t c h (standing_found b id t stands) a k.0 k.1) (still_gives base e s b answer h (answer_says NoRegister answer a))

-- what is kept of ids, without what is recorded
pub ids_alone : {A : Type 0} (P : Option A → Type 0) (S : Record → Option A → Type 0) (d : Decision A) → DecisionSays (λ c. P c.item) (λ r c. S r c.item) d
    → DecisionSays (λ c. P c.item) (λ r c. Unit {0}) d
ids_alone P S (Goes c) h = h
ids_alone P S (Records r c None) h = record { entry = tt; landed = h.landed; otherwise = tt }
ids_alone P S (Records r c (Some d)) h = record { entry = tt; landed = h.landed; otherwise = h.otherwise }

-- a leaf moves
leaf_meets : (s : Numbers → Standing) (l : Leaf) (x : Option Leaf) → Meets (s l.id) (leaf_standing l) → HasLeafId l.id x → IsLeafLike l.request x
    → IfThere (λ y. Meets (s y.id) (leaf_standing y)) x
leaf_meets s l None h i j = tt
leaf_meets s l (Some x) h i (inl e) = subst (λ id. Meets (s id) (leaf_standing x)) (sym i) (subst (λ r. Meets (s l.id) (by_work r)) (sym e) h)
leaf_meets s l (Some x) h i (inr e) = subst (λ r. Meets (s x.id) (by_work r)) (sym e) tt

leaf_moved_gives : (base : List ℕ) (e : Event) (s : Numbers → Standing) (b : Book) (now : ℕ) (answer : List Out) (id : Numbers) (l : Leaf) (c : Change Leaf) → Says base s b
    → leaf_at b id ≡ Some l → IsAnswer answer → HasLeafId l.id c.item → LeafLike (Registers base s) l.request c
    → Gives base e s b (outcome_of (put_leaf l.id (at_time now b)) answer c)
leaf_moved_gives base e s b now answer id l c h stands a i (ps, j) = record {
  after = s;
  keeps = λ id p k. k;
  fits = record {
    transactions = h.fits.transactions;
    leaves = all_put (λ y. Meets (s y.id) (leaf_standing y)) leaf_id l.id c.item b.leaves
        (leaf_meets s l c.item (all_find (λ y. Meets (s y.id) (leaf_standing y)) leaf_id id b.leaves l h.fits.leaves stands) i j) h.fits.leaves;
    activities = h.fits.activities;
  };
  undrawn = λ id k m. k;
  small = h.small;
  outs = all_join (OutSays (Registers base s)) answer (map outs.Post c.posts) (answer_says (Registers base s) answer a)
      (posts_say (Registers base s) (Registers base s) (λ participant to f. f) c.posts ps);
  accepted = λ n nodes. none_accepted e n nodes b h.order;
  grown = none_grown b h.order;
}

pub leaf_gives : (base : List ℕ) (e : Event) (s : Numbers → Standing) (b : Book) (now : ℕ) (answer : List Out) (id : Numbers) (l : Leaf) (d : Decision Leaf) → Says base s b
    → leaf_at b id ≡ Some l → IsAnswer answer → DecisionSays (λ c. HasLeafId l.id c.item) (λ r c. Unit {0}) d → AreLeafLike (Registers base s) l.request d
    → Both (Gives base e s b) (leaf_plan b now answer l d)
leaf_gives base e s b now answer id l d h stands a kept like =
    decided_says (λ c. HasLeafId l.id c.item × LeafLike (Registers base s) l.request c) (λ r c. Unit {0}) (Gives base e s b) (gives_on base e s b) b (put_leaf l.id (at_time now b)) answer d
    (says_both (λ c. HasLeafId l.id c.item) (LeafLike (Registers base s) l.request) (λ r c. Unit {0}) Anything d kept like)
    (λ c k. leaf_moved_gives base e s b now answer id l c h stands a k.0 k.1) (still_gives base e s b answer h (answer_says NoRegister answer a))

-- an activity moves, and may choose
put_choosing : (s : Numbers → Standing) (id : Numbers) (S : Standing) (x : Activity) (list : List Activity) → s id ≡ Never → AreRising (map activity_id list)
    → Meets (choose s id S x.id) (activity_standing x) × IsId x.id
    → AllByRecursion (λ a. Meets (s a.id) (activity_standing a) × IsId a.id) list
    → AllByRecursion (λ a. Meets (choose s id S a.id) (activity_standing a) × IsId a.id) (put_by activity_id id (Some x) list)
put_choosing s id S x [] n r h k = tt
put_choosing s id S x (a ∷ rest) n (r, rs) h ((m, z), k) = by_id (put_choosing s id S x rest n rs h k) (is_id a.id id) refl
  where
    others : a.id ≡ id → AllByRecursion (λ i. is_before a.id i ≡ true) (map activity_id rest) → (list : List Activity)
        → AllByRecursion (λ y. is_before a.id y.id ≡ true) list → AllByRecursion (λ y. Meets (s y.id) (activity_standing y) × IsId y.id) list
        → AllByRecursion (λ y. Meets (choose s id S y.id) (activity_standing y) × IsId y.id) list
    others e f [] g k = tt
    others e f (y ∷ ys) (g, gs) ((m, z), k) = (
      (choose_other s id y.id S (activity_standing y) n (λ never same. true≢false (sym (subst (λ i. is_id i y.id ≡ true) (sym (e ∙ sym same)) (self_id y.id)) ∙ other_id a.id y.id g)) m, z),
      others e f ys gs k,
    )

    by_id : AllByRecursion (λ y. Meets (choose s id S y.id) (activity_standing y) × IsId y.id) (put_by activity_id id (Some x) rest) → (b : Bool) → is_id a.id id ≡ b
        → AllByRecursion (λ y. Meets (choose s id S y.id) (activity_standing y) × IsId y.id) (if b then x ∷ rest else a ∷ put_by activity_id id (Some x) rest)
    by_id more true e =
        (h, others (same_id a.id id e) r rest (unmapped (λ i. is_before a.id i ≡ true) activity_id rest r) k)
    by_id more false e =
        ((choose_other s id a.id S (activity_standing a) n (λ never same. true≢false (sym (subst (λ i. is_id i id ≡ true) (sym same) (self_id id)) ∙ e)) m, z), more)

pub others_choose : {A : Type 0} (s : Numbers → Standing) (id : Numbers) (S : Standing) (key : A → Numbers) (standing : A → Standing) (list : List A) → s id ≡ Never
    → ((x : A) → standing x ≡ Never → ⊥) → AllByRecursion (λ x. Meets (s (key x)) (standing x)) list → AllByRecursion (λ x. Meets (choose s id S (key x)) (standing x)) list
others_choose s id S key standing list n f h =
    all_more (λ x. Meets (s (key x)) (standing x)) (λ x. Meets (choose s id S (key x)) (standing x)) list
    (λ x m. choose_other s id (key x) S (standing x) n (λ never same. f x never) m) h

same_ids : (a x : Activity) (S : Standing) (s : Numbers → Standing) → x.id ≡ a.id → Meets (s a.id) S → Meets (s x.id) S
same_ids a x S s e h = subst (λ i. Meets (s i) S) (sym e) h

owns_registers : (base : List ℕ) (s : Numbers → Standing) (b : Book) (a x : Activity) → b.base ≡ base → Meets (s a.id) (activity_standing x) → (participant : Epr) (to : Option Epr)
    → OwnsActivity b.base a x participant to → Registers base s participant to
owns_registers base s b a x e m participant to (is, (endpoint, stands, goes)) = record {
  id = a.id;
  own = activity_target a;
  endpoint = endpoint;
  named = refl;
  is = is ∙ ap (λ y. endpoint_of y (activity_target a)) e;
  goes = goes;
  stands = meets_at (s a.id) (activity_standing x) endpoint m stands;
}

activity_stays_gives : (base : List ℕ) (e : Event) (s t : Numbers → Standing) (b : Book) (now : ℕ) (answer : List Out) (a x : Activity) (c : Change Activity) → Says base s b
    → IsAnswer answer → c.item ≡ Some x → AreFine (OwnsActivity b.base a x) c.posts → ((id : Numbers) (p : Epr) → s id ≡ At p → t id ≡ At p)
    → AllByRecursion (λ y. Meets (t y.id) (transaction_standing y)) b.transactions → AllByRecursion (λ y. Meets (t y.id) (leaf_standing y)) b.leaves
    → AllByRecursion (λ y. Meets (t y.id) (activity_standing y) × IsId y.id) (put_by activity_id a.id (Some x) b.activities) → ((id : Numbers) → s id ≡ Never → (IsDrawn b id → ⊥) → t id ≡ Never)
    → ((id : Numbers) (p : Epr) → t id ≡ At p → IsId id) → Meets (t a.id) (activity_standing x) → Gives base e s b (outcome_of (put_activity a.id (at_time now b)) answer c)
activity_stays_gives base e s t b now answer a x c h i is ps keeps ts ls acts undrawn small m = record {
  after = t;
  keeps = keeps;
  fits = record {
    transactions = ts;
    leaves = ls;
    activities = subst (λ o. AllByRecursion (λ y. Meets (t y.id) (activity_standing y) × IsId y.id) (put_activities a.id o b.activities)) (sym is) acts;
  };
  undrawn = undrawn;
  small = small;
  outs = all_join (OutSays (Registers base t)) answer (map outs.Post c.posts) (answer_says (Registers base t) answer i)
      (posts_say (OwnsActivity b.base a x) (Registers base t) (owns_registers base t b a x h.base_is m) c.posts ps);
  accepted = λ n nodes. none_accepted e n nodes b h.order;
  grown = none_grown b h.order;
}

activity_moved_gives : (base : List ℕ) (e : Event) (s : Numbers → Standing) (b : Book) (now : ℕ) (answer : List Out) (id : Numbers) (a : Activity) (c : Change Activity)
    → Says base s b → activity_at b id ≡ Some a → IsAnswer answer → (x : Option Activity) → c.item ≡ x → HasBoth a x → ActivityLike b.base a x c.posts
    → Gives base e s b (outcome_of (put_activity a.id (at_time now b)) answer c)
activity_moved_gives base e s b now answer id a c h stands i None is kept ps = record {
  after = s;
  keeps = λ id p j. j;
  fits = record {
    transactions = h.fits.transactions;
    leaves = h.fits.leaves;
    activities = subst (λ o. AllByRecursion (λ y. Meets (s y.id) (activity_standing y) × IsId y.id) (put_activities a.id o b.activities)) (sym is)
        (all_filter (λ y. Meets (s y.id) (activity_standing y) × IsId y.id) (λ y. not (is_under a.id y)) (put_by activity_id a.id None b.activities)
        (all_put (λ y. Meets (s y.id) (activity_standing y) × IsId y.id) activity_id a.id None b.activities tt h.fits.activities));
  };
  undrawn = λ id j k. j;
  small = h.small;
  outs = all_join (OutSays (Registers base s)) answer (map outs.Post c.posts) (answer_says (Registers base s) answer i)
      (posts_say NoRegister (Registers base s) (λ participant to f. absurd f) c.posts ps);
  accepted = λ n nodes. none_accepted e n nodes b h.order;
  grown = none_grown b h.order;
}
activity_moved_gives base e s b now answer id a c h stands i (Some x) is kept (ps, inr same) =
    let found : Meets (s a.id) (activity_standing a) × IsId a.id =
    all_find (λ y. Meets (s y.id) (activity_standing y) × IsId y.id) activity_id id b.activities a h.fits.activities stands in
    let m : Meets (s a.id) (activity_standing x) = subst (Meets (s a.id)) (sym same) found.0 in
    activity_stays_gives base e s s b now answer a x c h i is ps (λ id p j. j) h.fits.transactions h.fits.leaves
    (all_put (λ y. Meets (s y.id) (activity_standing y) × IsId y.id) activity_id a.id (Some x) b.activities
    (same_ids a x (activity_standing x) s kept.own m, subst IsId (sym kept.own) found.1) h.fits.activities) (λ id j k. j) h.small m
activity_moved_gives base e s b now answer id a c h stands i (Some x) is kept (ps, inl never) =
    let found : Meets (s a.id) (activity_standing a) × IsId a.id =
    all_find (λ y. Meets (s y.id) (activity_standing y) × IsId y.id) activity_id id b.activities a h.fits.activities stands in
    let n : s a.id ≡ Never = meets_never (s a.id) (activity_standing a) found.0 never in
    let drawn : IsDrawn b a.id = (all_find (AreDrawn b) activity_id id b.activities a h.order.drawn.activities stands).own in
    let t : Numbers → Standing = choose s a.id (activity_standing x) in
    let m : Meets (t a.id) (activity_standing x) = choose_this s a.id (activity_standing x) n in
    activity_stays_gives base e s t b now answer a x c h i is ps (choose_keeps s a.id (activity_standing x) n)
    (others_choose s a.id (activity_standing x) transaction_id transaction_standing b.transactions n (λ y. by_request_never (request_of y.superior)) h.fits.transactions)
    (others_choose s a.id (activity_standing x) leaf_id leaf_standing b.leaves n (λ y. by_work_never y.request) h.fits.leaves)
    (put_choosing s a.id (activity_standing x) x b.activities n h.order.rising.activities (same_ids a x (activity_standing x) t kept.own m, subst IsId (sym kept.own) found.1) h.fits.activities)
    (λ id j k. choose_never s a.id id (activity_standing x) (λ same. k (subst (IsDrawn b) (sym same) drawn)) j) (choose_small s a.id (activity_standing x) found.1 h.small) m

pub activity_gives : (base : List ℕ) (e : Event) (s : Numbers → Standing) (b : Book) (now : ℕ) (answer : List Out) (id : Numbers) (a : Activity) (d : Decision Activity) → Says base s b
    → activity_at b id ≡ Some a → IsAnswer answer → DecisionSays (λ c. HasBoth a c.item) (λ r c. Unit {0}) d → AreActivityLike b.base a d
    → Both (Gives base e s b) (activity_plan b now answer a d)
activity_gives base e s b now answer id a d h stands i kept like =
    decided_says (λ c. HasBoth a c.item × ActivityLike b.base a c.item c.posts) (λ r c. Unit {0}) (Gives base e s b) (gives_on base e s b) b (put_activity a.id (at_time now b)) answer d
    (says_both (λ c. HasBoth a c.item) (λ c. ActivityLike b.base a c.item c.posts) (λ r c. Unit {0}) Anything d kept like)
    (λ c k. activity_moved_gives base e s b now answer id a c h stands i c.item refl k.0 k.1) (still_gives base e s b answer h (answer_says NoRegister answer i))

-- a book that stays as it is accepts nothing
pub none_new : (nodes : List Node) (b : Book) → IsInOrder b → (n : ℕ) → accepted_in n nodes b b.transactions ≡ []
none_new nodes b h n = none (accepted_in n nodes b b.transactions) (accepted_all (λ acc. ⊥) n nodes b b.transactions (unchanged (λ acc. ⊥) n nodes b h))
  where
    none : (xs : List Accepted) → AllByRecursion (λ acc. ⊥) xs → xs ≡ []
    none [] k = refl
    none (x ∷ xs) (k, ks) = absurd k
