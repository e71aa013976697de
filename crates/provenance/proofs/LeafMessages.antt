-- What a message, or what is due, does to a leaf, and what a Work makes: with what is asked of endpoints and texts.
use Rattle.std.specs.Prelude.{ℕ, List, [], Option, Some, None, Bool, IfSome, if◌then◌else◌, nat_lt}
use Rattle.at_base.specs.IdText.{IsId}
use Rattle.at_base.specs.Numbers.{Numbers}
use Rattle.at_base.specs.declared.epr.Epr.{Epr}
use Rattle.at_base.specs.declared.epr.Reply.{Reply}
use Rattle.at_base.specs.declared.epr.Reply.TheVariants as replies
use Rattle.at_base.specs.declared.event.Arrived.{Arrived}
use Rattle.at_base.specs.declared.event.Moment.{Moment}
use Rattle.at_base.specs.declared.fault.Fault.TheVariants.{InvalidState}
use Rattle.at_base.specs.declared.limits.TheConstants.{MOST_ITEMS}
use Rattle.at_base.specs.declared.message.Message.{Message}
use Rattle.at_base.specs.declared.message.Message.TheVariants as messages
use Rattle.at_base.specs.declared.message.Work.{Work}
use Rattle.at_base.specs.declared.notice.Kind.{Kind}
use Rattle.at_base.specs.declared.notice.Kind.TheVariants as kinds
use Rattle.at_base.specs.declared.notice.Notice.{Notice}
use Rattle.at_base.specs.declared.notice.Notice.TheVariants as notices
use Rattle.at_base.specs.declared.notice.Vote.{Vote}
use Rattle.at_base.specs.declared.notice.Vote.TheVariants as votes
use Rattle.at_base.specs.declared.outs.Post.{Post}
use Rattle.at_tables.specs.Names.{is_state}
use Rattle.at_tables.specs.Tables.{participant_of}
use Rattle.at_tables.specs.declared.cells.Act.{Act}
use Rattle.at_tables.specs.declared.cells.Act.TheVariants as acts
use Rattle.at_tables.specs.declared.cells.Cell.{Cell}
use Rattle.at_tables.specs.declared.cells.State.TheVariants as states
use Rattle.endpoints.specs.Addresses.{protocol_of}
use Rattle.at_model.specs.Book.{Leaf, WorkRequest}
use Rattle.at_model.specs.Due.{Expired, Nothing, Over, Reached, Unanswered, leaf_again, leaf_expires, leaf_reached, leaf_register_again}
use Rattle.at_model.specs.Leaves.{Employment, answers_leaf, drops_leaf, leaf_aborts, leaf_act, leaf_commit, leaf_fault, leaf_faults, leaf_notice, leaf_prepares, leaf_records_vote, leaf_refused, leaf_register, leaf_registered, leaf_roll_back, leaf_says, leaf_target, leaf_votes, new_leaf, on_leaf, on_work, refuse_work, work_answer, work_for}
use Rattle.at_model.specs.Moves.{Decision, ignored}
use Rattle.at_model.specs.Posts.{fault_post, notice_post, stored_or}
use Rattle.model_laws.proofs.DecisionLaws.{either_left, either_of, either_says}
use Rattle.provenance.specs.Forms.{AreOuts, ArePosts, Forms, HaveOwn, IsAnswerableIn, IsArrived, IsHeard, IsLeaf, IsMessage, IsPost, IsReply, IsWorkRequest}
use Rattle.provenance.proofs.Decisions.{DecidesLeaf, Enters, Leaves}
use Rattle.provenance.proofs.TransactionPosts.{each_has, fault_has, notice_has, registering_has, replied_have, reply_has, stored_has}

says_has : (F : Forms) (m : Moment) (from : Option Epr) (n : Notice) (l : Leaf) → HaveOwn F m.base → IfSome from F.endpoint → IsLeaf F l → ArePosts F (leaf_says m from n l)
says_has F m from n l o w h =
    each_has F (stored_or l.coordinator from) (λ to. notice_post m.base (leaf_target l) to n) (stored_has F l.coordinator from h.coordinator w)
    (λ to k. notice_has F m.base o (leaf_target l) to n h.id k)

faults_has : (F : Forms) (from : Option Epr) (id : Option (List ℕ)) (l : Leaf) → IfSome from F.endpoint → IfSome id F.id → IsLeaf F l → ArePosts F (leaf_faults from id l)
faults_has F from id l w i h =
    each_has F (stored_or l.coordinator from) (λ to. fault_post (Some to) id InvalidState) (stored_has F l.coordinator from h.coordinator w)
    (λ to k. fault_has F (Some to) id InvalidState k i)

answer_has : (F : Forms) (answer : Message) (r : Option WorkRequest) → ((p : Post) → IsAnswerableIn answer p) → IsMessage F answer → IfSome r (IsWorkRequest F) → ArePosts F (work_answer answer r)
answer_has F answer None asks w h = tt
answer_has F answer (Some r) asks w h = (reply_has F (Some r.reply) r.id answer h.reply h.id w asks, tt)

aborts_pass : (F : Forms) (m : Moment) (from : Option Epr) (l : Leaf) → HaveOwn F m.base → IfSome from F.endpoint → IsLeaf F l → Leaves F (IsLeaf F) (leaf_aborts m from l)
aborts_pass F m from l o w h = record { item = tt; posts = says_has F m from notices.Aborted l o w h }

still_leaf : (F : Forms) (l : Leaf) → IsLeaf F l → DecidesLeaf F (ignored l)
still_leaf F l h = record { item = h; posts = tt }

prepares_pass : (F : Forms) (m : Moment) (l : Leaf) → HaveOwn F m.base → IsLeaf F l → Leaves F (IsLeaf F) (leaf_prepares m l)
prepares_pass F m l o h = record {
  item = record { id = h.id; coordinator = h.coordinator; key = h.key; value = h.value; request = h.request };
  posts = says_has F m None notices.Prepared l o tt h;
}

records_vote_passes : (F : Forms) (m : Moment) (coordinator : Option Epr) (l : Leaf) → HaveOwn F m.base → IfSome coordinator F.endpoint → IsLeaf F l
    → DecidesLeaf F (leaf_records_vote m coordinator l)
records_vote_passes F m None l o c h = aborts_pass F m None l o tt h
records_vote_passes F m (Some coordinator) l o c h =
    record { entry = (h.id, c, h.key, h.value); landed = prepares_pass F m l o h; otherwise = aborts_pass F m None l o tt h }

votes_pass : (F : Forms) (m : Moment) (from : Option Epr) (l : Leaf) (kind : Kind) (vote : Vote) → HaveOwn F m.base → IfSome from F.endpoint → IsLeaf F l
    → DecidesLeaf F (leaf_votes m from l kind vote)
unfolding leaf_votes
votes_pass F m from l kinds.Durable votes.Prepared o w h = records_vote_passes F m l.coordinator l o h.coordinator h
votes_pass F m from l kinds.Volatile votes.Prepared o w h = prepares_pass F m l o h
votes_pass F m from l kind votes.ReadOnly o w h = record { item = tt; posts = says_has F m from notices.ReadOnly l o w h }
votes_pass F m from l kind votes.Aborted o w h = aborts_pass F m from l o w h

commit_passes : (F : Forms) (m : Moment) (from : Option Epr) (l : Leaf) (kind : Kind) → HaveOwn F m.base → IfSome from F.endpoint → IsLeaf F l → DecidesLeaf F (leaf_commit m from l kind)
unfolding leaf_commit
commit_passes F m from l kinds.Durable o w h = record { entry = tt; landed = record { item = tt; posts = says_has F m from notices.Committed l o w h }; otherwise = tt }
commit_passes F m from l kinds.Volatile o w h = record { item = tt; posts = says_has F m from notices.Committed l o w h }

roll_back_passes : (F : Forms) (m : Moment) (from : Option Epr) (l : Leaf) (kind : Kind) → HaveOwn F m.base → IfSome from F.endpoint → IsLeaf F l
    → DecidesLeaf F (leaf_roll_back m from l kind)
unfolding leaf_roll_back
roll_back_passes F m from l kinds.Durable o w h = record { entry = tt; landed = aborts_pass F m from l o w h; otherwise = tt }
roll_back_passes F m from l kinds.Volatile o w h = aborts_pass F m from l o w h

act_passes : (F : Forms) (m : Moment) (from : Option Epr) (id : Option (List ℕ)) (l : Leaf) (act : Act) → HaveOwn F m.base → IfSome from F.endpoint → IfSome id F.id → IsLeaf F l
    → DecidesLeaf F (leaf_act m from id l act)
unfolding leaf_act
act_passes F m from id l acts.Gather o w i h = votes_pass F m from l l.kind l.vote o w h
act_passes F m from id l acts.SendPrepared o w i h = record {
  item = record { id = h.id; coordinator = h.coordinator; key = h.key; value = h.value; request = h.request };
  posts = says_has F m from notices.Prepared l o w h;
}
act_passes F m from id l acts.Commit o w i h = commit_passes F m from l l.kind o w h
act_passes F m from id l acts.AbortAndSendAborted o w i h = aborts_pass F m from l o w h
act_passes F m from id l acts.RecordAndSendAborted o w i h = roll_back_passes F m from l l.kind o w h
act_passes F m from id l acts.FaultInvalidState o w i h = record { item = h; posts = faults_has F from id l w i h }
act_passes F m from id l acts.FaultInvalidStateAndAbort o w i h = record { item = tt; posts = faults_has F from id l w i h }
act_passes F m from id l other o w i h = still_leaf F l h

notice_passes : (F : Forms) (m : Moment) (from : Option Epr) (id : Option (List ℕ)) (l : Leaf) (c : Option Cell) → HaveOwn F m.base → IfSome from F.endpoint → IfSome id F.id → IsLeaf F l
    → DecidesLeaf F (leaf_notice m from id l c)
unfolding leaf_notice
notice_passes F m from id l None o w i h = still_leaf F l h
notice_passes F m from id l (Some c) o w i h = act_passes F m from id l c.act o w i h

either_leaf : (F : Forms) (b : Bool) (d e : Decision Leaf) → DecidesLeaf F d → DecidesLeaf F e → DecidesLeaf F (if b then d else e)
either_leaf F b d e h k = either_says (Leaves F (IsLeaf F)) (Enters F) b d e (λ x. h) (λ x. k)

registered_passes : (F : Forms) (m : Moment) (relates : Option (List ℕ)) (coordinator : Epr) (l : Leaf) → F.endpoint coordinator → IsLeaf F l
    → DecidesLeaf F (leaf_registered m relates coordinator l)
unfolding leaf_registered
registered_passes F m relates coordinator l c h =
    either_leaf F (answers_leaf m relates l) _ (ignored l)
    (record {
      item = record { id = h.id; coordinator = c; key = h.key; value = h.value; request = tt };
      posts = answer_has F messages.WorkDone l.request (λ p. tt) tt h.request;
    }) (still_leaf F l h)

refused_passes : (F : Forms) (l : Leaf) → IsLeaf F l → Leaves F (IsLeaf F) (leaf_refused l)
refused_passes F l h = record { item = tt; posts = answer_has F messages.WorkRefused l.request (λ p. tt) tt h.request }

fault_passes : (F : Forms) (m : Moment) (relates : Option (List ℕ)) (name : List ℕ) (l : Leaf) → IsLeaf F l → DecidesLeaf F (leaf_fault m relates name l)
unfolding leaf_fault
fault_passes F m relates name l h =
    either_leaf F (answers_leaf m relates l) _ _ (refused_passes F l h)
    (either_leaf F (drops_leaf l name) _ (ignored l) (record { item = tt; posts = tt }) (still_leaf F l h))

message_passes : (F : Forms) (m : Moment) (a : Arrived) (l : Leaf) (x : Message) → HaveOwn F m.base → IsArrived F a → IsHeard F x → IsLeaf F l → DecidesLeaf F (on_leaf m a l x)
unfolding on_leaf
message_passes F m a l (messages.Notice n) o w x h = notice_passes F m a.from a.id l (participant_of l.kind l.state n) o w.from w.id h
message_passes F m a l (messages.RegisterResponse coordinator) o w x h = registered_passes F m a.relates coordinator l x h
message_passes F m a l (messages.Fault name) o w x h = fault_passes F m a.relates name l h
message_passes F m a l other o w x h = still_leaf F l h

pub leaf_passes : (F : Forms) (m : Moment) (a : Arrived) (l : Leaf) → HaveOwn F m.base → IsArrived F a → IsLeaf F l → DecidesLeaf F (on_leaf m a l a.message)
leaf_passes F m a l o w h = message_passes F m a l a.message o w w.message h

-- what is due
register_passes : (F : Forms) (m : Moment) (l : Leaf) (to : Epr) → HaveOwn F m.base → IsId l.id → F.endpoint to → IsPost F (leaf_register m l to)
register_passes F m l to o i h = registering_has F m.base o (leaf_target l) (protocol_of l.kind) to i (o.protocols l.kind) h

register_again_has : (F : Forms) (m : Moment) (l : Leaf) (r : Option WorkRequest) → HaveOwn F m.base → IsId l.id → IfSome r (IsWorkRequest F) → ArePosts F (leaf_register_again m l r)
register_again_has F m l None o i h = tt
register_again_has F m l (Some r) o i h = (register_passes F m l r.registration o i h.registration, tt)

again_has : (F : Forms) (m : Moment) (l : Leaf) → HaveOwn F m.base → IsLeaf F l → ArePosts F (leaf_again m l)
again_has F m l o h =
    either_of (ArePosts F) (is_state l.state states.Registering) (leaf_register_again m l l.request) _ (λ e. register_again_has F m l l.request o h.id h.request)
    (λ e. either_of (ArePosts F) (is_state l.state states.PreparedSuccess) (leaf_says m None notices.Prepared l) [] (λ f. says_has F m None notices.Prepared l o tt h) (λ f. tt))

expires_passes : (F : Forms) (m : Moment) (l : Leaf) → HaveOwn F m.base → IsLeaf F l → Leaves F (IsLeaf F) (leaf_expires m l)
expires_passes F m l o h = either_left (Leaves F (IsLeaf F)) (is_state l.state states.Registering) (leaf_refused l) (leaf_aborts m None l) (refused_passes F l h) (aborts_pass F m None l o tt h)

pub leaf_due_passes : (F : Forms) (m : Moment) (l : Leaf) (r : Reached) → HaveOwn F m.base → IsLeaf F l → DecidesLeaf F (leaf_reached m l r)
unfolding leaf_reached
leaf_due_passes F m l Expired o h = expires_passes F m l o h
leaf_due_passes F m l Over o h = still_leaf F l h
leaf_due_passes F m l Unanswered o h = record {
  item = record { id = h.id; coordinator = h.coordinator; key = h.key; value = h.value; request = h.request };
  posts = again_has F m l o h;
}
leaf_due_passes F m l Nothing o h = still_leaf F l h

-- a Work
pub record IsEmployment (F : Forms) (x : Employment) : Type 0 where
  pub leaf : IfSome x.leaf (IsLeaf F)
  pub outs : AreOuts F x.outs

refuse_passes : (F : Forms) (a : Arrived) → IsArrived F a → IsEmployment F (refuse_work a)
refuse_passes F a w = record { leaf = tt; outs = replied_have F a.reply a.id messages.WorkRefused w.reply w.id tt (λ p. tt) }

for_passes : (F : Forms) (m : Moment) (id : Numbers) (a : Arrived) (x : Work) (reply : Reply) → HaveOwn F m.base → IsArrived F a → IsMessage F (messages.Work x) → IsId id → IsReply F reply
    → IsEmployment F (work_for m id a x reply)
for_passes F m id a x (replies.At reply) o w (c, k, v) i r =
    let (identifier, span, registration) = o.parts x.context c in
    record {
      leaf = record { id = i; coordinator = tt; key = k; value = v; request = record { id = w.id; reply = r; registration = registration } };
      outs = (tt, (register_passes F m (new_leaf m id a reply x) x.context.registration o i registration, tt));
    }
for_passes F m id a x replies.Anonymous o w k i r = refuse_passes F a w
for_passes F m id a x replies.Nobody o w k i r = refuse_passes F a w

pub work_passes : (F : Forms) (m : Moment) (live : ℕ) (a : Arrived) (x : Work) (id : Option Numbers) → HaveOwn F m.base → IsArrived F a → IsMessage F (messages.Work x) → IfSome id IsId
    → IsEmployment F (on_work m live a x id)
unfolding on_work
work_passes F m live a x None o w k i = refuse_passes F a w
work_passes F m live a x (Some id) o w k i =
    either_of (IsEmployment F) (nat_lt live MOST_ITEMS) (work_for m id a x a.reply) (refuse_work a) (λ e. for_passes F m id a x a.reply o w k i w.reply) (λ e. refuse_passes F a w)
