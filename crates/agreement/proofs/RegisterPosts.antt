-- Each Register that is posted is one of an item of its sender, and names that item.
use Rattle.std.specs.Prelude.{is_none, ℕ, List, [], ◌∷◌, ◌++◌, Option, Some, None, Bool, true, false, not, nat_lt, ◌&&◌, if◌then◌else◌, bytes_eq, map, option_map, ◌≡◌, refl}
use Rattle.std.specs.List.{AllByRecursion}
use Rattle.std.proofs.Common.{subst}
use Rattle.std.proofs.lemmas.Slice.Eq.{bytes_eq-Decides}
use Rattle.at_base.specs.declared.limits.TheConstants.{MOST_ITEMS}
use Rattle.at_base.specs.declared.fault.Fault.TheVariants.{CannotCreateContext, CannotRegisterParticipant, InvalidParameters, InvalidProtocol, InvalidState}
use Rattle.at_base.specs.Numbers.{Numbers}
use Rattle.at_base.specs.declared.epr.Epr.{Epr}
use Rattle.at_base.specs.declared.epr.Reply.{Reply}
use Rattle.at_base.specs.declared.epr.Reply.TheVariants as replies
use Rattle.at_base.specs.declared.notice.Kind.{Kind}
use Rattle.at_base.specs.declared.notice.Kind.TheVariants as kinds
use Rattle.at_base.specs.declared.notice.Vote.{Vote}
use Rattle.at_base.specs.declared.notice.Notice.{Notice}
use Rattle.at_base.specs.declared.notice.Notice.TheVariants as notices
use Rattle.at_base.specs.declared.message.Message.{Message}
use Rattle.at_base.specs.declared.message.Message.TheVariants as messages
use Rattle.at_base.specs.declared.message.Context.{Context}
use Rattle.at_base.specs.declared.message.Create.{Create}
use Rattle.at_base.specs.declared.message.Register.{Register}
use Rattle.at_base.specs.declared.message.Work.{Work}
use Rattle.at_base.specs.declared.target.Target.{Target}
use Rattle.at_base.specs.declared.target.Target.TheVariants as targets
use Rattle.at_base.specs.declared.event.Arrived.{Arrived}
use Rattle.at_base.specs.declared.event.Moment.{Moment}
use Rattle.at_base.specs.declared.outs.Post.{Post}
use Rattle.at_base.specs.declared.outs.Out.{Out}
use Rattle.at_base.specs.declared.outs.Out.TheVariants as outs
use Rattle.at_base.specs.declared.outs.Told.TheVariants as tellings
use Rattle.at_tables.specs.declared.cells.State.TheVariants as states
use Rattle.at_tables.specs.declared.cells.Act.{Act}
use Rattle.at_tables.specs.declared.cells.Act.TheVariants as acts
use Rattle.at_tables.specs.declared.cells.Cell.{Cell}
use Rattle.at_tables.specs.Names.{is_state}
use Rattle.at_tables.specs.Tables.{initiator_of}
use Rattle.at_model.specs.Book.{Transaction, Leaf, Activity, Enlistment, Superior, Link, Request, WorkRequest, Phase, Progress}
use Rattle.endpoints.specs.Addresses.{atomic, register_id, create_id, protocol_of, completion_protocol}
use Rattle.at_model.specs.Posts.{notice_post, fault_post, reply_post, register_post, replied, stored_or, to_each}
use Rattle.at_model.specs.Moves.{Change, Decision, Goes, Records, begin, ignored}
use Rattle.at_model.specs.Seats.{under}
use Rattle.at_model.specs.Abort.{Alone, abort}
use Rattle.at_model.specs.Phases.{upwards}
use Rattle.at_model.specs.Arrivals.{relates_to, link_fault, on_link, refused_at, refused_request, request_answered, is_registering, request_stands, request_under, request_left, answer_request, request_of, with_answer, context_of}
use Rattle.at_model.specs.Register.{seat_endpoint, completion_endpoint, may_register, is_late, new_seat, late_prepare, accept, refuse_register, register_new, register_again, held_seat, on_register, register_unknown, protocol_named}
use Rattle.at_model.specs.Create.{new_root, refuse_create, create_under, create_in, on_create}
use Rattle.at_model.specs.Leaves.{leaf_target, leaf_says, work_answer, leaf_refused, leaf_aborts, on_leaf, refuse_work, work_for, on_work}
use Rattle.at_model.specs.Activities.{activity_target, is_begun, told, activity_act, activity_notice, with_context, activity_created, activity_registered, activity_fault, on_activity, activity_state, on_ask, on_complete}
use Rattle.at_model.specs.Due.{Reached, Expired, Over, Unanswered, Nothing, register_again_at, link_again, links_again, seat_again, seats_again, unanswered_seat, transaction_reached, leaf_register_again, leaf_reached, completion_register_again, activity_again, activity_reached}
use Rattle.model_laws.proofs.DecisionLaws.{DecisionSays, both_say, either_says, either_left, all_join, all_if}
use Rattle.model_laws.proofs.OtherEnds.{Anything}
use Rattle.model_laws.proofs.MovePosts.{Fine, AreFine, initiator_endpoint, link_like, AreLike, leaf_like}
use Rattle.model_laws.proofs.StepRegistrations.{NoRegister, OutSays, AreOuts, replied_says, faulted_says}
use Rattle.model_laws.specs.PhaseAnswers.{accepted_as}
use Rattle.agreement.specs.Registers.{RegistersFor, Whose, IsWhose}

abbrev pub AreWhose : (Target → Numbers → Type 0) → List ℕ → List Post → Type 0
AreWhose P base ps = AllByRecursion (IsWhose P base) ps

abbrev pub OutWhose : (Target → Numbers → Type 0) → List ℕ → Out → Type 0
OutWhose P base (outs.Post p) = IsWhose P base p
OutWhose P base (outs.Answer status reply) = Unit {0}

abbrev pub OutsWhose : (Target → Numbers → Type 0) → List ℕ → List Out → Type 0
OutsWhose P base os = AllByRecursion (OutWhose P base) os

-- no Register
none_whose : (P : Target → Numbers → Type 0) (base : List ℕ) (p : Post) (to : Option Epr) (x : Message) → Fine NoRegister to x → Whose P base p x
none_whose P base p to (messages.Register r) h = absurd h
none_whose P base p to (messages.Create c) h = tt
none_whose P base p to (messages.CreateResponse c) h = tt
none_whose P base p to (messages.RegisterResponse c) h = tt
none_whose P base p to (messages.Notice n) h = tt
none_whose P base p to (messages.Work w) h = tt
none_whose P base p to messages.WorkDone h = tt
none_whose P base p to messages.WorkRefused h = tt
none_whose P base p to (messages.Fault name) h = tt

pub fine_whose : (P : Target → Numbers → Type 0) (base : List ℕ) (ps : List Post) → AreFine NoRegister ps → AreWhose P base ps
fine_whose P base [] h = tt
fine_whose P base (p ∷ ps) (h, k) = (none_whose P base p p.to p.message h, fine_whose P base ps k)

pub outs_whose : (P : Target → Numbers → Type 0) (base : List ℕ) (os : List Out) → AreOuts NoRegister os → OutsWhose P base os
outs_whose P base [] h = tt
outs_whose P base (outs.Post p ∷ os) (h, k) = (none_whose P base p p.to p.message h, outs_whose P base os k)
outs_whose P base (outs.Answer status reply ∷ os) (h, k) = (tt, outs_whose P base os k)

-- a Register of an item's own
own_register : (P : Target → Numbers → Type 0) (base : List ℕ) (own : Target) (id : Numbers) (protocol : List ℕ) (to : Epr) → RegistersFor own id protocol → P own id
    → IsWhose P base (register_post base own protocol to)
own_register P base own id protocol to h k =
    record { own = own; id = id; registers = h; known = k; participant = refl; reply = refl; to = to; whole = refl }

pub to_each_whose : (P : Target → Numbers → Type 0) (base : List ℕ) (o : Option Epr) (f : Epr → Post) → ((to : Epr) → IsWhose P base (f to)) → AreWhose P base (to_each o f)
to_each_whose P base None f h = tt
to_each_whose P base (Some to) f h = (h to, tt)

abbrev pub Says : {A : Type 0} → (Target → Numbers → Type 0) → List ℕ → Decision A → Type 0
Says P base d = DecisionSays (λ c. AreWhose P base c.posts) Anything d

says_more : {A : Type 0} (P Q : Change A → Type 0) (d : Decision A) → ((c : Change A) → P c → Q c) → DecisionSays P Anything d → DecisionSays Q Anything d
says_more P Q (Goes c) f h = f c h
says_more P Q (Records r c None) f h = record { entry = tt; landed = f c h.landed; otherwise = tt }
says_more P Q (Records r c (Some d)) f h = record { entry = tt; landed = f c h.landed; otherwise = f d h.otherwise }

pub like_says : (P : Target → Numbers → Type 0) (base : List ℕ) (t : Transaction) (d : Decision Transaction)
    → AreLike NoRegister (request_of t.superior) (map accepted_as t.seats) (option_map initiator_endpoint t.completion) d → Says P base d
like_says P base t d h = says_more _ (λ c. AreWhose P base c.posts) d (λ c k. fine_whose P base c.posts k.0) h

-- a transaction with its answer
refused_whose : (P : Target → Numbers → Type 0) (base : List ℕ) (r : Reply) (id : Option (List ℕ)) → AreWhose P base (refused_at r id)
refused_whose P base replies.Anonymous id = tt
refused_whose P base replies.Nobody id = tt
refused_whose P base (replies.At to) id = (tt, tt)

stands_whose : (P : Target → Numbers → Type 0) (base : List ℕ) (m : Moment) (r : Request) (t : Transaction) (s : Superior) (phase : Phase) (c : Change Transaction) → AreWhose P base c.posts
    → AreWhose P base (request_stands m r t s phase c).posts
stands_whose P base m r t s Phase.Aborting c h = all_join (IsWhose P base) c.posts (refused_request r) h (refused_whose P base r.fault r.id)
stands_whose P base m r t s other c h =
    either_left (λ (x : Change Transaction). AreWhose P base x.posts) (is_registering s) c
    (record {
      item = Some (under (request_answered s) t);
      posts = c.posts ++ reply_post (Some r.reply) r.id (messages.CreateResponse (context_of m.base t r.expires)) ∷ [];
      effects = c.effects;
    }) h (all_join (IsWhose P base) c.posts _ h (tt, tt))

under_whose : (P : Target → Numbers → Type 0) (base : List ℕ) (m : Moment) (r : Request) (t : Transaction) (s : Option Superior) (c : Change Transaction) → AreWhose P base c.posts
    → AreWhose P base (request_under m r t s c).posts
under_whose P base m r t None c h = h
under_whose P base m r t (Some s) c h = stands_whose P base m r t s t.phase c h

left_whose : (P : Target → Numbers → Type 0) (base : List ℕ) (m : Moment) (r : Request) (t : Option Transaction) (c : Change Transaction) → AreWhose P base c.posts
    → AreWhose P base (request_left m r t c).posts
left_whose P base m r None c h = all_join (IsWhose P base) c.posts (refused_request r) h (refused_whose P base r.fault r.id)
left_whose P base m r (Some t) c h = under_whose P base m r t t.superior c h

answer_whose : (P : Target → Numbers → Type 0) (base : List ℕ) (m : Moment) (r : Option Request) (c : Change Transaction) → AreWhose P base c.posts → AreWhose P base (answer_request m r c).posts
answer_whose P base m None c h = h
answer_whose P base m (Some r) c h = left_whose P base m r c.item c h

pub with_answer_whose : (P : Target → Numbers → Type 0) (base : List ℕ) (m : Moment) (t : Transaction) (d : Decision Transaction) → Says P base d → Says P base (with_answer m t d)
with_answer_whose P base m t d h =
    both_say (λ c. AreWhose P base c.posts) Anything (answer_request m (request_of t.superior)) (λ c k. answer_whose P base m (request_of t.superior) c k) (λ r c k. tt) d h

-- a transaction that is due
register_again_whose : (P : Target → Numbers → Type 0) (base : List ℕ) (id : Numbers) (kind : Kind) (r : Option Request) → ((x : Request) → r ≡ Some x → P (targets.Participant id kind) id)
    → AreWhose P base (register_again_at base id kind r)
register_again_whose P base id kind None known = tt
register_again_whose P base id kind (Some r) known =
    (own_register P base (targets.Participant id kind) id (protocol_of kind) r.registration (refl, refl) (known r refl), tt)

upwards_whose : (P : Target → Numbers → Type 0) (base : List ℕ) (id : Numbers) (kind : Kind) (n : Notice) (link : Link) → AreWhose P base (upwards base id kind n link)
upwards_whose P base id kind n link = to_each_whose P base link.coordinator (λ to. notice_post base (targets.Participant id kind) to n) (λ to. tt)

link_again_whose : (P : Target → Numbers → Type 0) (base : List ℕ) (id : Numbers) (kind : Kind) (r : Option Request) (link : Link) → ((x : Request) → r ≡ Some x → P (targets.Participant id kind) id)
    → AreWhose P base (link_again base id kind r link)
link_again_whose P base id kind r link known =
    all_if (IsWhose P base) (is_state link.state states.Registering) (register_again_at base id kind r)
    (if is_state link.state states.PreparedSuccess then upwards base id kind notices.Prepared link else []) (register_again_whose P base id kind r known)
    (all_if (IsWhose P base) (is_state link.state states.PreparedSuccess) (upwards base id kind notices.Prepared link) [] (upwards_whose P base id kind notices.Prepared link) tt)

links_again_whose : (P : Target → Numbers → Type 0) (base : List ℕ) (id : Numbers) (s : Option Superior) → ((kind : Kind) (x : Request) → request_of s ≡ Some x → P (targets.Participant id kind) id) → AreWhose P base (links_again base id s)
links_again_whose P base id None known = tt
links_again_whose P base id (Some s) known =
    all_join (IsWhose P base) (link_again base id kinds.Volatile s.request s.volatile) (link_again base id kinds.Durable s.request s.durable)
    (link_again_whose P base id kinds.Volatile s.request s.volatile (known kinds.Volatile)) (link_again_whose P base id kinds.Durable s.request s.durable (known kinds.Durable))

seat_again_whose : (P : Target → Numbers → Type 0) (base : List ℕ) (id : Numbers) (s : Enlistment) (n : Option Notice) → AreWhose P base (seat_again base id s n)
seat_again_whose P base id s None = tt
seat_again_whose P base id s (Some n) = (tt, tt)

seats_again_whose : (P : Target → Numbers → Type 0) (base : List ℕ) (id : Numbers) (ss : List Enlistment) → AreWhose P base (seats_again base id ss)
seats_again_whose P base id [] = tt
seats_again_whose P base id (s ∷ ss) =
    all_join (IsWhose P base) (seat_again base id s (unanswered_seat s.state)) (seats_again base id ss) (seat_again_whose P base id s (unanswered_seat s.state)) (seats_again_whose P base id ss)

-- an abort as on a link's fault posts no Register
abort_like : (m : Moment) (t : Transaction) → AreLike NoRegister (request_of t.superior) (map accepted_as t.seats) (option_map initiator_endpoint t.completion) (Goes (abort m Alone (begin t)))
unfolding on_link link_fault
abort_like m t =
    subst (λ b. AreLike NoRegister (request_of t.superior) (map accepted_as t.seats) (option_map initiator_endpoint t.completion) (if b then Goes (abort m Alone (begin t)) else ignored t))
    ((bytes_eq-Decides (register_id m.base (targets.Participant t.id kinds.Durable)) (register_id m.base (targets.Participant t.id kinds.Durable))).1 refl)
    (link_like NoRegister (request_of t.superior) (map accepted_as t.seats) (option_map initiator_endpoint t.completion) m answer kinds.Durable t registering (messages.Fault []) refl (refl, refl, refl))
  where
    registering : Superior
    registering = record {
      volatile = record { state = states.Registering; coordinator = None };
      durable = record { state = states.Registering; coordinator = None };
      request = request_of t.superior;
    }

    answer : Arrived
    answer = record {
      target = targets.Participant t.id kinds.Durable;
      id = None;
      relates = Some (register_id m.base (targets.Participant t.id kinds.Durable));
      from = None;
      reply = replies.Nobody;
      fault = replies.Nobody;
      postable = true;
      message = messages.Fault [];
    }

pub due_whose : (P : Target → Numbers → Type 0) (m : Moment) (t : Transaction) (reached : Reached) → ((kind : Kind) (x : Request) → request_of t.superior ≡ Some x → P (targets.Participant t.id kind) t.id)
    → Says P m.base (transaction_reached m t reached)
unfolding transaction_reached
due_whose P m t Expired known = like_says P m.base t (Goes (abort m Alone (begin t))) (abort_like m t)
due_whose P m t Over known = tt
due_whose P m t Unanswered known =
    all_join (IsWhose P m.base) (links_again m.base t.id t.superior) (seats_again m.base t.id t.seats) (links_again_whose P m.base t.id t.superior known) (seats_again_whose P m.base t.id t.seats)
due_whose P m t Nothing known = tt

-- leaves
leaf_says_whose : (P : Target → Numbers → Type 0) (base : List ℕ) (m : Moment) (from : Option Epr) (n : Notice) (l : Leaf) → AreWhose P base (leaf_says m from n l)
leaf_says_whose P base m from n l = to_each_whose P base (stored_or l.coordinator from) (λ to. notice_post m.base (leaf_target l) to n) (λ to. tt)

refused_work_whose : (P : Target → Numbers → Type 0) (base : List ℕ) (r : Option WorkRequest) → AreWhose P base (work_answer messages.WorkRefused r)
refused_work_whose P base None = tt
refused_work_whose P base (Some r) = (tt, tt)

leaf_register_whose : (P : Target → Numbers → Type 0) (m : Moment) (l : Leaf) (r : Option WorkRequest) → ((x : WorkRequest) → r ≡ Some x → P (leaf_target l) l.id) → AreWhose P m.base (leaf_register_again m l r)
leaf_register_whose P m l None known = tt
leaf_register_whose P m l (Some r) known =
    (own_register P m.base (leaf_target l) l.id (protocol_of l.kind) r.registration (refl, refl) (known r refl), tt)

pub on_leaf_whose : (P : Target → Numbers → Type 0) (base : List ℕ) (m : Moment) (a : Arrived) (l : Leaf) (x : Message) → Says P base (on_leaf m a l x)
on_leaf_whose P base m a l x = says_more _ (λ c. AreWhose P base c.posts) (on_leaf m a l x) (λ c k. fine_whose P base c.posts k.0) (leaf_like NoRegister m a l x)

pub leaf_due_whose : (P : Target → Numbers → Type 0) (m : Moment) (l : Leaf) (reached : Reached) → ((x : WorkRequest) → l.request ≡ Some x → P (leaf_target l) l.id) → Says P m.base (leaf_reached m l reached)
unfolding leaf_reached
leaf_due_whose P m l Expired known =
    either_left (λ (c : Change Leaf). AreWhose P m.base c.posts) (is_state l.state states.Registering) (leaf_refused l) (leaf_aborts m None l) (refused_work_whose P m.base l.request)
    (leaf_says_whose P m.base m None notices.Aborted l)
leaf_due_whose P m l Over known = tt
leaf_due_whose P m l Unanswered known =
    all_if (IsWhose P m.base) (is_state l.state states.Registering) (leaf_register_again m l l.request)
    (if is_state l.state states.PreparedSuccess then leaf_says m None notices.Prepared l else []) (leaf_register_whose P m l l.request known)
    (all_if (IsWhose P m.base) (is_state l.state states.PreparedSuccess) (leaf_says m None notices.Prepared l) [] (leaf_says_whose P m.base m None notices.Prepared l) tt)
leaf_due_whose P m l Nothing known = tt

-- activities
either_activity : (P : Target → Numbers → Type 0) (base : List ℕ) (b : Bool) (d e : Decision Activity) → Says P base d → Says P base e → Says P base (if b then d else e)
either_activity P base b d e h k = either_says (λ (c : Change Activity). AreWhose P base c.posts) Anything b d e (λ x. h) (λ x. k)

activity_act_whose : (P : Target → Numbers → Type 0) (m : Moment) (from : Option Epr) (i : Option (List ℕ)) (a : Activity) (act : Act) → Says P m.base (activity_act m from i a act)
unfolding activity_act
activity_act_whose P m from i a acts.TellCommitted = tt
activity_act_whose P m from i a acts.TellAborted = tt
activity_act_whose P m from i a acts.FaultInvalidState = to_each_whose P m.base (stored_or a.coordinator from) (λ to. fault_post (Some to) i InvalidState) (λ to. tt)
activity_act_whose P m from i a other = tt

activity_notice_whose : (P : Target → Numbers → Type 0) (m : Moment) (from : Option Epr) (i : Option (List ℕ)) (a : Activity) (c : Option Cell) → Says P m.base (activity_notice m from i a c)
unfolding activity_notice
activity_notice_whose P m from i a None = tt
activity_notice_whose P m from i a (Some c) = activity_act_whose P m from i a c.act

activity_created_whose : (P : Target → Numbers → Type 0) (m : Moment) (relates : Option (List ℕ)) (context : Context) (a : Activity) (p : Progress) → P (activity_target a) a.id
    → Says P m.base (activity_created m relates context a p)
unfolding activity_created
activity_created_whose P m relates context a Progress.Creating known =
    either_activity P m.base (relates_to relates (create_id m.base (activity_target a))) (with_context m context a) (ignored a)
    (either_activity P m.base (is_begun a) _ _ (own_register P m.base (activity_target a) a.id completion_protocol context.registration (refl, refl) known, tt) tt) tt
activity_created_whose P m relates context a Progress.Registering known = tt
activity_created_whose P m relates context a Progress.Active known = tt
activity_created_whose P m relates context a (Progress.Completing n) known = tt

activity_registered_whose : (P : Target → Numbers → Type 0) (m : Moment) (relates : Option (List ℕ)) (coordinator : Epr) (a : Activity) (p : Progress)
    → Says P m.base (activity_registered m relates coordinator a p)
unfolding activity_registered
activity_registered_whose P m relates coordinator a Progress.Registering = either_activity P m.base (relates_to relates (register_id m.base (activity_target a))) _ (ignored a) tt tt
activity_registered_whose P m relates coordinator a Progress.Creating = tt
activity_registered_whose P m relates coordinator a Progress.Active = tt
activity_registered_whose P m relates coordinator a (Progress.Completing n) = tt

activity_fault_whose : (P : Target → Numbers → Type 0) (m : Moment) (relates : Option (List ℕ)) (name : List ℕ) (a : Activity) (p : Progress) → Says P m.base (activity_fault m relates name a p)
unfolding activity_fault
activity_fault_whose P m relates name a Progress.Creating = either_activity P m.base _ (told tellings.Refused a) (ignored a) tt tt
activity_fault_whose P m relates name a Progress.Registering = either_activity P m.base _ (told tellings.Refused a) (ignored a) tt tt
activity_fault_whose P m relates name a Progress.Active = tt
activity_fault_whose P m relates name a (Progress.Completing n) = either_activity P m.base _ (told tellings.Unknown a) (ignored a) tt tt

pub on_activity_whose : (P : Target → Numbers → Type 0) (m : Moment) (r : Arrived) (a : Activity) (x : Message) → P (activity_target a) a.id → Says P m.base (on_activity m r a x)
unfolding on_activity
on_activity_whose P m r a (messages.Notice n) known = activity_notice_whose P m r.from r.id a (initiator_of (activity_state a.progress) n)
on_activity_whose P m r a (messages.CreateResponse context) known = activity_created_whose P m r.relates context a a.progress known
on_activity_whose P m r a (messages.RegisterResponse coordinator) known = activity_registered_whose P m r.relates coordinator a a.progress
on_activity_whose P m r a (messages.Fault name) known = activity_fault_whose P m r.relates name a a.progress
on_activity_whose P m r a other known = tt

completion_again_whose : (P : Target → Numbers → Type 0) (base : List ℕ) (a : Activity) (context : Option Context) → P (activity_target a) a.id → AreWhose P base (completion_register_again base a context)
completion_again_whose P base a None known = tt
completion_again_whose P base a (Some context) known = (own_register P base (activity_target a) a.id completion_protocol context.registration (refl, refl) known, tt)

activity_again_whose : (P : Target → Numbers → Type 0) (base : List ℕ) (a : Activity) (p : Progress) → P (activity_target a) a.id → AreWhose P base (activity_again base a p)
activity_again_whose P base a Progress.Creating known = tt
activity_again_whose P base a Progress.Registering known = completion_again_whose P base a a.context known
activity_again_whose P base a Progress.Active known = tt
activity_again_whose P base a (Progress.Completing n) known = to_each_whose P base a.coordinator (λ to. notice_post base (activity_target a) to n) (λ to. tt)

pub activity_due_whose : (P : Target → Numbers → Type 0) (m : Moment) (a : Activity) (reached : Reached) → P (activity_target a) a.id → Says P m.base (activity_reached m a reached)
unfolding activity_reached
activity_due_whose P m a Expired known = tt
activity_due_whose P m a Over known = tt
activity_due_whose P m a Unanswered known = activity_again_whose P m.base a a.progress known
activity_due_whose P m a Nothing known = tt

pub asks_whose : (P : Target → Numbers → Type 0) (base : List ℕ) (m : Moment) (url : List ℕ) (kind : Kind) (vote : Vote) (key value : List ℕ) (a : Activity) (context : Option Context)
    → AreWhose P base (on_ask m url kind vote key value a context).posts
unfolding on_ask
asks_whose P base m url kind vote key value a None = tt
asks_whose P base m url kind vote key value a (Some context) = (tt, tt)

pub completes_whose : (P : Target → Numbers → Type 0) (base : List ℕ) (m : Moment) (n : Notice) (a : Activity) → AreWhose P base (on_complete m n a).posts
unfolding on_complete
completes_whose P base m n a = to_each_whose P base a.coordinator (λ to. notice_post m.base (activity_target a) to n) (λ to. tt)

-- registrations
replied_none : (r : Reply) (id : Option (List ℕ)) (coordinator : Epr) → AreOuts NoRegister (replied r id (messages.RegisterResponse coordinator))
replied_none r id coordinator = replied_says NoRegister r id (messages.RegisterResponse coordinator) tt (λ to. tt)

late_none : (m : Moment) (id : Numbers) (late : Bool) (s : Enlistment) → AreOuts NoRegister (late_prepare m id late s)
late_none m id true s = (tt, tt)
late_none m id false s = tt

accept_none : (m : Moment) (a : Arrived) (t : Transaction) (participant : Epr) (kind : Option Kind) → AreOuts NoRegister (accept m a t participant kind).outs
unfolding accept
accept_none m a t participant (Some kind) =
    all_join (OutSays NoRegister) (replied a.reply a.id (messages.RegisterResponse (seat_endpoint m.base t.id (new_seat t participant kind)))) _
    (replied_none a.reply a.id (seat_endpoint m.base t.id (new_seat t participant kind))) (late_none m t.id (is_late t.phase kind) (new_seat t participant kind))
accept_none m a t participant None = replied_none a.reply a.id (completion_endpoint m.base t.id)

register_new_none : (m : Moment) (a : Arrived) (r : Register) (t : Transaction) (kind : Option (Option Kind)) → AreOuts NoRegister (register_new m a r t kind).outs
unfolding register_new
register_new_none m a r t None = faulted_says NoRegister a.fault a.id InvalidProtocol
register_new_none m a r t (Some kind) = by_tests (not a.postable) (may_register t kind)
  where
    by_tests : (b c : Bool) → AreOuts NoRegister (if b then refuse_register a t InvalidParameters else if c then accept m a t r.participant kind else refuse_register a t CannotRegisterParticipant).outs
    by_tests true c = faulted_says NoRegister a.fault a.id InvalidParameters
    by_tests false true = accept_none m a t r.participant kind
    by_tests false false = faulted_says NoRegister a.fault a.id CannotRegisterParticipant

register_again_none : (m : Moment) (a : Arrived) (r : Register) (t : Transaction) (kind : Option (Option Kind)) (held : Option Epr) → AreOuts NoRegister (register_again m a r t kind held).outs
unfolding register_again
register_again_none m a r t kind (Some coordinator) = replied_none a.reply a.id coordinator
register_again_none m a r t kind None = register_new_none m a r t kind

pub register_none : (m : Moment) (a : Arrived) (r : Register) (t : Transaction) → AreOuts NoRegister (on_register m a r t).outs
unfolding on_register
register_none m a r t = register_again_none m a r t (protocol_named r.protocol) (held_seat m r t (protocol_named r.protocol))

pub unknown_none : (a : Arrived) (r : Register) (kind : Option (Option Kind)) → AreOuts NoRegister (register_unknown a r kind)
unfolding register_unknown
unknown_none a r None = faulted_says NoRegister a.fault a.id InvalidProtocol
unknown_none a r (Some kind) = faulted_says NoRegister a.fault a.id (if a.postable then CannotRegisterParticipant else InvalidParameters)

-- what is made
under_whose_made : (P : Target → Numbers → Type 0) (m : Moment) (id : Numbers) (a : Arrived) (c : Create) (current : Context) (r : Reply) → ((t : Transaction) → (create_under m id a c current r).transaction ≡ Some t → is_none t.superior ≡ false → (kind : Kind) → P (targets.Participant id kind) id)
    → OutsWhose P m.base (create_under m id a c current r).outs
unfolding create_under
under_whose_made P m id a c current (replies.At reply) known = (
  tt,
  (
    own_register P m.base (targets.Participant id kinds.Volatile) id (protocol_of kinds.Volatile) current.registration (refl, refl) (known _ refl refl kinds.Volatile),
    (own_register P m.base (targets.Participant id kinds.Durable) id (protocol_of kinds.Durable) current.registration (refl, refl) (known _ refl refl kinds.Durable), tt),
  ),
)
under_whose_made P m id a c current replies.Anonymous known = outs_whose P m.base (refuse_create a).outs (faulted_says NoRegister a.fault a.id CannotCreateContext)
under_whose_made P m id a c current replies.Nobody known = outs_whose P m.base (refuse_create a).outs (faulted_says NoRegister a.fault a.id CannotCreateContext)

create_in_whose : (P : Target → Numbers → Type 0) (m : Moment) (id : Numbers) (a : Arrived) (c : Create) (current : Option Context) → ((t : Transaction) → (create_in m id a c current).transaction ≡ Some t → is_none t.superior ≡ false → (kind : Kind) → P (targets.Participant id kind) id)
    → OutsWhose P m.base (create_in m id a c current).outs
unfolding create_in
create_in_whose P m id a c None known =
    outs_whose P m.base (replied a.reply a.id (messages.CreateResponse (context_of m.base (new_root m id c) c.expires)))
    (replied_says NoRegister a.reply a.id (messages.CreateResponse (context_of m.base (new_root m id c) c.expires)) tt (λ to. tt))
create_in_whose P m id a c (Some current) known = under_whose_made P m id a c current a.reply known

pub create_whose : (P : Target → Numbers → Type 0) (m : Moment) (live : ℕ) (a : Arrived) (c : Create) (next : Option Numbers)
    → ((id : Numbers) (t : Transaction) → next ≡ Some id → (on_create m live a c next).transaction ≡ Some t → is_none t.superior ≡ false → (kind : Kind) → P (targets.Participant id kind) id)
    → OutsWhose P m.base (on_create m live a c next).outs
unfolding on_create
create_whose P m live a c None known = outs_whose P m.base (refuse_create a).outs (faulted_says NoRegister a.fault a.id CannotCreateContext)
create_whose P m live a c (Some id) known = by_test (bytes_eq c.coordination atomic && nat_lt live MOST_ITEMS) (λ t e. known id t refl e)
  where
    by_test : (b : Bool) → ((t : Transaction) → (if b then create_in m id a c c.current else refuse_create a).transaction ≡ Some t → is_none t.superior ≡ false → (kind : Kind) → P (targets.Participant id kind) id)
        → OutsWhose P m.base (if b then create_in m id a c c.current else refuse_create a).outs
    by_test true known = create_in_whose P m id a c c.current known
    by_test false known = outs_whose P m.base (refuse_create a).outs (faulted_says NoRegister a.fault a.id CannotCreateContext)

work_refused_whose : (P : Target → Numbers → Type 0) (base : List ℕ) (a : Arrived) → OutsWhose P base (refuse_work a).outs
work_refused_whose P base a = outs_whose P base (refuse_work a).outs (replied_says NoRegister a.reply a.id messages.WorkRefused tt (λ to. tt))

work_for_whose : (P : Target → Numbers → Type 0) (m : Moment) (id : Numbers) (a : Arrived) (w : Work) (r : Reply) → ((l : Leaf) → (work_for m id a w r).leaf ≡ Some l → P (targets.Participant id l.kind) id)
    → OutsWhose P m.base (work_for m id a w r).outs
work_for_whose P m id a w (replies.At reply) known =
    (tt, (own_register P m.base (targets.Participant id w.kind) id (protocol_of w.kind) w.context.registration (refl, refl) (known _ refl), tt))
work_for_whose P m id a w replies.Anonymous known = work_refused_whose P m.base a
work_for_whose P m id a w replies.Nobody known = work_refused_whose P m.base a

pub work_whose : (P : Target → Numbers → Type 0) (m : Moment) (live : ℕ) (a : Arrived) (w : Work) (next : Option Numbers)
    → ((id : Numbers) (l : Leaf) → next ≡ Some id → (on_work m live a w next).leaf ≡ Some l → P (targets.Participant id l.kind) id)
    → OutsWhose P m.base (on_work m live a w next).outs
unfolding on_work
work_whose P m live a w None known = work_refused_whose P m.base a
work_whose P m live a w (Some id) known = by_test (nat_lt live MOST_ITEMS) (λ l e. known id l refl e)
  where
    by_test : (b : Bool) → ((l : Leaf) → (if b then work_for m id a w a.reply else refuse_work a).leaf ≡ Some l → P (targets.Participant id l.kind) id)
        → OutsWhose P m.base (if b then work_for m id a w a.reply else refuse_work a).outs
    by_test true known = work_for_whose P m id a w a.reply known
    by_test false known = work_refused_whose P m.base a
