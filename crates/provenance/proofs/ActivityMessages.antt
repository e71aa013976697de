-- What a message, a request, or what is due, does to an activity, and what is begun: with what is asked of endpoints and texts.
use Rattle.std.specs.Prelude.{ℕ, List, Option, Some, None, Bool, IfSome, if◌then◌else◌, bytes_eq, codes, refl, ◌+◌}
use Rattle.at_base.specs.IdText.{IsId}
use Rattle.at_base.specs.Names.{fault_name}
use Rattle.at_base.specs.Numbers.{Numbers}
use Rattle.at_base.specs.declared.epr.Epr.{Epr}
use Rattle.at_base.specs.declared.event.Arrived.{Arrived}
use Rattle.at_base.specs.declared.event.Moment.{Moment}
use Rattle.at_base.specs.declared.fault.Fault.TheVariants.{InvalidState, UnknownTransaction}
use Rattle.at_base.specs.declared.message.Context.{Context}
use Rattle.at_base.specs.declared.message.Message.{Message}
use Rattle.at_base.specs.declared.message.Message.TheVariants as messages
use Rattle.at_base.specs.declared.notice.Kind.{Kind}
use Rattle.at_base.specs.declared.notice.Notice.{Notice}
use Rattle.at_base.specs.declared.notice.Vote.{Vote}
use Rattle.at_base.specs.declared.outs.Told.{Told}
use Rattle.at_base.specs.declared.outs.Told.TheVariants as tellings
use Rattle.at_tables.specs.Tables.{initiator_of}
use Rattle.at_tables.specs.declared.cells.Act.{Act}
use Rattle.at_tables.specs.declared.cells.Act.TheVariants as acts
use Rattle.at_tables.specs.declared.cells.Cell.{Cell}
use Rattle.endpoints.specs.Addresses.{completion_protocol, create_id, endpoint_of, register_id}
use Rattle.at_model.specs.Activities.{Beginning, activity_act, activity_created, activity_fault, activity_notice, activity_registered, activity_state, activity_target, asked_expires, complete_posts, completion_register, create_post, is_begun, new_activity, on_activity, on_ask, on_begin, on_complete, on_interpose, service, told, with_context, work_post}
use Rattle.at_model.specs.Arrivals.{relates_to}
use Rattle.at_model.specs.Book.{Activity, Progress}
use Rattle.at_model.specs.Create.{deadline_of}
use Rattle.at_model.specs.Due.{Expired, Nothing, Over, Reached, Unanswered, activity_again, activity_reached, completion_register_again}
use Rattle.at_model.specs.Moves.{Decision, ignored}
use Rattle.at_model.specs.Posts.{fault_post, notice_post, stored_or}
use Rattle.model_laws.proofs.DecisionLaws.{either_says}
use Rattle.provenance.specs.Forms.{ArePosts, Forms, HaveOwn, IsActivity, IsArrived, IsHeard, IsPost}
use Rattle.provenance.proofs.Decisions.{DecidesActivity, Enters, Leaves}
use Rattle.provenance.proofs.TransactionPosts.{each_has, fault_has, notice_has, registering_has, stored_has}

still_activity : (F : Forms) (a : Activity) → IsActivity F a → DecidesActivity F (ignored a)
still_activity F a h = record { item = h; posts = tt }

told_passes : (F : Forms) (what : Told) (a : Activity) → DecidesActivity F (told what a)
told_passes F what a = record { item = tt; posts = tt }

either_activity : (F : Forms) (b : Bool) (d e : Decision Activity) → DecidesActivity F d → DecidesActivity F e → DecidesActivity F (if b then d else e)
either_activity F b d e h k = either_says (Leaves F (IsActivity F)) (Enters F) b d e (λ x. h) (λ x. k)

act_passes : (F : Forms) (m : Moment) (from : Option Epr) (id : Option (List ℕ)) (a : Activity) (act : Act) → IfSome from F.endpoint → IfSome id F.id → IsActivity F a
    → DecidesActivity F (activity_act m from id a act)
unfolding activity_act
act_passes F m from id a acts.TellCommitted w i h = told_passes F tellings.Committed a
act_passes F m from id a acts.TellAborted w i h = told_passes F tellings.Aborted a
act_passes F m from id a acts.FaultInvalidState w i h = record {
  item = h;
  posts = each_has F (stored_or a.coordinator from) (λ to. fault_post (Some to) id InvalidState) (stored_has F a.coordinator from h.coordinator w)
      (λ to k. fault_has F (Some to) id InvalidState k i);
}
act_passes F m from id a other w i h = still_activity F a h

notice_passes : (F : Forms) (m : Moment) (from : Option Epr) (id : Option (List ℕ)) (a : Activity) (c : Option Cell) → IfSome from F.endpoint → IfSome id F.id → IsActivity F a
    → DecidesActivity F (activity_notice m from id a c)
unfolding activity_notice
notice_passes F m from id a None w i h = still_activity F a h
notice_passes F m from id a (Some c) w i h = act_passes F m from id a c.act w i h

completion_register_has : (F : Forms) (base : List ℕ) (a : Activity) (to : Epr) → HaveOwn F base → IsId a.id → F.endpoint to → IsPost F (completion_register base a to)
completion_register_has F base a to o i h = registering_has F base o (activity_target a) completion_protocol to i o.completion h

context_passes : (F : Forms) (m : Moment) (context : Context) (a : Activity) → HaveOwn F m.base → F.context context → IsActivity F a → DecidesActivity F (with_context m context a)
context_passes F m context a o c h =
    let (identifier, span, registration) = o.parts context c in
    either_activity F (is_begun a) _ _
    (record {
      item = record { id = h.id; context = c; coordinator = h.coordinator };
      posts = (completion_register_has F m.base a context.registration o h.id registration, tt);
    }) (record { item = record { id = h.id; context = c; coordinator = h.coordinator }; posts = tt })

created_passes : (F : Forms) (m : Moment) (relates : Option (List ℕ)) (context : Context) (a : Activity) (p : Progress) → HaveOwn F m.base → F.context context → IsActivity F a
    → DecidesActivity F (activity_created m relates context a p)
unfolding activity_created
created_passes F m relates context a Progress.Creating o c h =
    either_activity F (relates_to relates (create_id m.base (activity_target a))) (with_context m context a) (ignored a) (context_passes F m context a o c h) (still_activity F a h)
created_passes F m relates context a other o c h = still_activity F a h

registered_passes : (F : Forms) (m : Moment) (relates : Option (List ℕ)) (coordinator : Epr) (a : Activity) (p : Progress) → F.endpoint coordinator → IsActivity F a
    → DecidesActivity F (activity_registered m relates coordinator a p)
unfolding activity_registered
registered_passes F m relates coordinator a Progress.Registering c h =
    either_activity F (relates_to relates (register_id m.base (activity_target a))) _ (ignored a)
    (record { item = record { id = h.id; context = h.context; coordinator = c }; posts = tt }) (still_activity F a h)
registered_passes F m relates coordinator a other c h = still_activity F a h

fault_passes : (F : Forms) (m : Moment) (relates : Option (List ℕ)) (name : List ℕ) (a : Activity) (p : Progress) → IsActivity F a → DecidesActivity F (activity_fault m relates name a p)
unfolding activity_fault
fault_passes F m relates name a Progress.Creating h =
    either_activity F (relates_to relates (create_id m.base (activity_target a))) (told tellings.Refused a) (ignored a) (told_passes F tellings.Refused a) (still_activity F a h)
fault_passes F m relates name a Progress.Registering h =
    either_activity F (relates_to relates (register_id m.base (activity_target a))) (told tellings.Refused a) (ignored a) (told_passes F tellings.Refused a) (still_activity F a h)
fault_passes F m relates name a Progress.Active h = still_activity F a h
fault_passes F m relates name a (Progress.Completing n) h =
    either_activity F (bytes_eq name (fault_name UnknownTransaction)) (told tellings.Unknown a) (ignored a) (told_passes F tellings.Unknown a) (still_activity F a h)

message_passes : (F : Forms) (m : Moment) (r : Arrived) (a : Activity) (x : Message) → HaveOwn F m.base → IsArrived F r → IsHeard F x → IsActivity F a → DecidesActivity F (on_activity m r a x)
unfolding on_activity
message_passes F m r a (messages.Notice n) o w x h = notice_passes F m r.from r.id a (initiator_of (activity_state a.progress) n) w.from w.id h
message_passes F m r a (messages.CreateResponse context) o w x h = created_passes F m r.relates context a a.progress o x h
message_passes F m r a (messages.RegisterResponse coordinator) o w x h = registered_passes F m r.relates coordinator a a.progress x h
message_passes F m r a (messages.Fault name) o w x h = fault_passes F m r.relates name a a.progress h
message_passes F m r a other o w x h = still_activity F a h

pub activity_passes : (F : Forms) (m : Moment) (r : Arrived) (a : Activity) → HaveOwn F m.base → IsArrived F r → IsActivity F a → DecidesActivity F (on_activity m r a r.message)
activity_passes F m r a o w h = message_passes F m r a r.message o w w.message h

-- what is due
complete_posts_have : (F : Forms) (base : List ℕ) (n : Notice) (a : Activity) → HaveOwn F base → IsActivity F a → ArePosts F (complete_posts base n a)
complete_posts_have F base n a o h =
    each_has F a.coordinator (λ to. notice_post base (activity_target a) to n) h.coordinator (λ to k. notice_has F base o (activity_target a) to n h.id k)

register_again_has : (F : Forms) (base : List ℕ) (a : Activity) (c : Option Context) → HaveOwn F base → IsId a.id → IfSome c F.context → ArePosts F (completion_register_again base a c)
register_again_has F base a None o i h = tt
register_again_has F base a (Some context) o i h =
    let (identifier, span, registration) = o.parts context h in
    (completion_register_has F base a context.registration o i registration, tt)

again_has : (F : Forms) (base : List ℕ) (a : Activity) (p : Progress) → HaveOwn F base → IsActivity F a → ArePosts F (activity_again base a p)
again_has F base a Progress.Creating o h = tt
again_has F base a Progress.Registering o h = register_again_has F base a a.context o h.id h.context
again_has F base a Progress.Active o h = tt
again_has F base a (Progress.Completing n) o h = complete_posts_have F base n a o h

pub activity_due_passes : (F : Forms) (m : Moment) (a : Activity) (r : Reached) → HaveOwn F m.base → IsActivity F a → DecidesActivity F (activity_reached m a r)
unfolding activity_reached
activity_due_passes F m a Expired o h = told_passes F tellings.Unknown a
activity_due_passes F m a Over o h = still_activity F a h
activity_due_passes F m a Unanswered o h = record {
  item = record { id = h.id; context = h.context; coordinator = h.coordinator };
  posts = again_has F m.base a a.progress o h;
}
activity_due_passes F m a Nothing o h = still_activity F a h

-- the requests of its program
pub record IsBeginning (F : Forms) (x : Beginning) : Type 0 where
  pub activity : IsActivity F x.activity
  pub posts : ArePosts F x.posts

create_has : (F : Forms) (base : List ℕ) (a : Activity) (coordinator : List ℕ) (expires : Option ℕ) (current : Option Context) → HaveOwn F base → IsId a.id
    → F.endpoint (service coordinator (codes "/activation")) → F.span expires → IfSome current F.context → IsPost F (create_post base a coordinator expires current)
create_has F base a coordinator expires current o i to s c = record {
  to = to;
  id = o.creates (activity_target a);
  relates = tt;
  from = tt;
  reply = o.endpoints (activity_target a) i;
  message = (s, c, o.atomic_type);
  request = record { id = refl; reply = (endpoint_of base (activity_target a), refl) };
}

pub begin_passes : (F : Forms) (m : Moment) (id : Numbers) (coordinator : List ℕ) (ms : ℕ) → HaveOwn F m.base → IsId id → F.endpoint (service coordinator (codes "/activation"))
    → F.span (asked_expires ms) → IsBeginning F (on_begin m id coordinator ms)
unfolding on_begin
begin_passes F m id coordinator ms o i to s = record {
  activity = record { id = i; context = tt; coordinator = tt };
  posts = (create_has F m.base (new_activity id id (deadline_of m.now (asked_expires ms))) coordinator (asked_expires ms) None o i to s tt, tt);
}

pub interpose_passes : (F : Forms) (m : Moment) (id : Numbers) (coordinator : List ℕ) (root : Numbers) (context : Option Context) → HaveOwn F m.base → IsId id
    → F.endpoint (service coordinator (codes "/activation")) → IfSome context F.context → IsBeginning F (on_interpose m id coordinator root context)
unfolding on_interpose
interpose_passes F m id coordinator root context o i to c = record {
  activity = record { id = i; context = tt; coordinator = tt };
  posts = (create_has F m.base (new_activity id root None) coordinator None context o i to o.no_span c, tt);
}

work_has : (F : Forms) (base : List ℕ) (a : Activity) (url : List ℕ) (kind : Kind) (vote : Vote) (key value : List ℕ) (context : Context) → HaveOwn F base → IsId a.id
    → F.endpoint (service url (codes "/work")) → F.field key → F.field value → F.context context → IsPost F (work_post base a url kind vote key value context)
work_has F base a url kind vote key value context o i to k v c = record {
  to = to;
  id = o.works (activity_target a) (a.works + 1);
  relates = tt;
  from = tt;
  reply = o.endpoints (activity_target a) i;
  message = (c, k, v);
  request = record { id = refl; reply = (endpoint_of base (activity_target a), refl) };
}

pub ask_passes : (F : Forms) (m : Moment) (url : List ℕ) (kind : Kind) (vote : Vote) (key value : List ℕ) (a : Activity) (context : Option Context) → HaveOwn F m.base
    → F.endpoint (service url (codes "/work")) → F.field key → F.field value → IfSome context F.context → IsActivity F a
    → Leaves F (IsActivity F) (on_ask m url kind vote key value a context)
unfolding on_ask
ask_passes F m url kind vote key value a None o to k v c h = record { item = h; posts = tt }
ask_passes F m url kind vote key value a (Some context) o to k v c h = record {
  item = record { id = h.id; context = h.context; coordinator = h.coordinator };
  posts = (work_has F m.base a url kind vote key value context o h.id to k v c, tt);
}

pub complete_passes : (F : Forms) (m : Moment) (n : Notice) (a : Activity) → HaveOwn F m.base → IsActivity F a → Leaves F (IsActivity F) (on_complete m n a)
unfolding on_complete
complete_passes F m n a o h = record {
  item = record { id = h.id; context = h.context; coordinator = h.coordinator };
  posts = complete_posts_have F m.base n a o h;
}
