-- What a sound leaf becomes is sound, and what it records is well-formed.
use Rattle.std.specs.Prelude.{ℕ, List, Option, Some, None, Bool, if◌then◌else◌, nat_lt, ◌≡◌}
use Rattle.std.proofs.Common.{subst}
use Rattle.at_base.specs.declared.limits.TheConstants.{MOST_ITEMS}
use Rattle.at_base.specs.Numbers.{Numbers}
use Rattle.at_base.specs.declared.epr.Epr.{Epr}
use Rattle.at_base.specs.declared.epr.Reply.{Reply}
use Rattle.at_base.specs.declared.epr.Reply.TheVariants as replies
use Rattle.at_base.specs.declared.notice.Kind.{Kind}
use Rattle.at_base.specs.declared.notice.Kind.TheVariants as kinds
use Rattle.at_base.specs.declared.notice.Vote.{Vote}
use Rattle.at_base.specs.declared.notice.Vote.TheVariants as votes
use Rattle.at_base.specs.declared.message.Message.{Message}
use Rattle.at_base.specs.declared.message.Message.TheVariants as messages
use Rattle.at_base.specs.declared.record.Record.{Record}
use Rattle.at_base.specs.declared.event.Arrived.{Arrived}
use Rattle.at_base.specs.declared.event.Moment.{Moment}
use Rattle.at_tables.specs.declared.cells.State.TheVariants as states
use Rattle.at_tables.specs.declared.cells.Act.{Act}
use Rattle.at_tables.specs.declared.cells.Act.TheVariants as acts
use Rattle.at_tables.specs.declared.cells.Cell.{Cell}
use Rattle.at_tables.specs.Names.{is_state}
use Rattle.at_tables.specs.Tables.{participant_of}
use Rattle.at_model.specs.Book.{Leaf}
use Rattle.at_model.specs.Moves.{Decision, ignored}
use Rattle.at_model.specs.Leaves.{leaf_votes, leaf_records_vote, leaf_commit, leaf_roll_back, leaf_act, leaf_notice, answers_leaf, leaf_registered, drops_leaf, leaf_fault, on_leaf}
use Rattle.at_model.specs.Due.{Reached, Expired, Over, Unanswered, Nothing, leaf_reached, leaf_expires}
use Rattle.at_model.specs.Leaves.{leaf_prepares, refuse_work, work_for, on_work}
use Rattle.at_base.specs.IdText.{IsId}
use Rattle.at_base.specs.WellFormed.{IsEndpoint, IsField, IsWellFormed}
use Rattle.at_base.specs.declared.message.Work.{Work}
use Rattle.model_laws.proofs.DecisionLaws.{either_of, DecisionHas, IfThere, either_has, either_change}
use Rattle.model_laws.specs.BookBounds.{IsSoundMessage, IfKnown, IsSoundLeaf}

-- leaves
abbrev pub LeafWell : Record → Option Leaf → Type 0
LeafWell r left = IsWellFormed r

abbrev pub SoundLeaf : Decision Leaf → Type 0
SoundLeaf d = DecisionHas (IfThere IsSoundLeaf) LeafWell d

either_leaf : (b : Bool) (d e : Decision Leaf) → SoundLeaf d → SoundLeaf e → SoundLeaf (if b then d else e)
either_leaf b d e h k = either_has (IfThere IsSoundLeaf) LeafWell b d e (λ x. h) (λ x. k)

prepares_sound : (m : Moment) (l : Leaf) → IsSoundLeaf l → IfThere IsSoundLeaf (leaf_prepares m l).item
prepares_sound m l h = record { id = h.id; coordinator = h.coordinator; key = h.key; value = h.value }

records_vote_sound : (m : Moment) (coordinator : Option Epr) (l : Leaf) → IfKnown coordinator → IsSoundLeaf l → SoundLeaf (leaf_records_vote m coordinator l)
records_vote_sound m None l w h = tt
records_vote_sound m (Some coordinator) l w h = record { entry = (h.id, w, h.key, h.value); landed = prepares_sound m l h; otherwise = tt }

votes_sound : (m : Moment) (from : Option Epr) (l : Leaf) (kind : Kind) (vote : Vote) → IsSoundLeaf l → SoundLeaf (leaf_votes m from l kind vote)
unfolding leaf_votes
votes_sound m from l kinds.Durable votes.Prepared h = records_vote_sound m l.coordinator l h.coordinator h
votes_sound m from l kinds.Volatile votes.Prepared h = prepares_sound m l h
votes_sound m from l kind votes.ReadOnly h = tt
votes_sound m from l kind votes.Aborted h = tt

leaf_commit_sound : (m : Moment) (from : Option Epr) (l : Leaf) (kind : Kind) → IsSoundLeaf l → SoundLeaf (leaf_commit m from l kind)
unfolding leaf_commit
leaf_commit_sound m from l kinds.Durable h = record { entry = h.id; landed = tt; otherwise = tt }
leaf_commit_sound m from l kinds.Volatile h = tt

leaf_roll_back_sound : (m : Moment) (from : Option Epr) (l : Leaf) (kind : Kind) → IsSoundLeaf l → SoundLeaf (leaf_roll_back m from l kind)
unfolding leaf_roll_back
leaf_roll_back_sound m from l kinds.Durable h = record { entry = h.id; landed = tt; otherwise = tt }
leaf_roll_back_sound m from l kinds.Volatile h = tt

leaf_act_sound : (m : Moment) (from : Option Epr) (i : Option (List ℕ)) (l : Leaf) (act : Act) → IsSoundLeaf l → SoundLeaf (leaf_act m from i l act)
unfolding leaf_act
leaf_act_sound m from i l acts.Gather h = votes_sound m from l l.kind l.vote h
leaf_act_sound m from i l acts.SendPrepared h = record { id = h.id; coordinator = h.coordinator; key = h.key; value = h.value }
leaf_act_sound m from i l acts.Commit h = leaf_commit_sound m from l l.kind h
leaf_act_sound m from i l acts.AbortAndSendAborted h = tt
leaf_act_sound m from i l acts.RecordAndSendAborted h = leaf_roll_back_sound m from l l.kind h
leaf_act_sound m from i l acts.FaultInvalidState h = h
leaf_act_sound m from i l acts.FaultInvalidStateAndAbort h = tt
leaf_act_sound m from i l other h = h

leaf_notice_sound : (m : Moment) (from : Option Epr) (i : Option (List ℕ)) (l : Leaf) (c : Option Cell) → IsSoundLeaf l → SoundLeaf (leaf_notice m from i l c)
unfolding leaf_notice
leaf_notice_sound m from i l None h = h
leaf_notice_sound m from i l (Some c) h = leaf_act_sound m from i l c.act h

leaf_registered_sound : (m : Moment) (relates : Option (List ℕ)) (coordinator : Epr) (l : Leaf) → IsEndpoint coordinator → IsSoundLeaf l → SoundLeaf (leaf_registered m relates coordinator l)
unfolding leaf_registered
leaf_registered_sound m relates coordinator l w h =
    either_leaf (answers_leaf m relates l) _ (ignored l) (record { id = h.id; coordinator = w; key = h.key; value = h.value }) h

leaf_fault_sound : (m : Moment) (relates : Option (List ℕ)) (name : List ℕ) (l : Leaf) → IsSoundLeaf l → SoundLeaf (leaf_fault m relates name l)
unfolding leaf_fault
leaf_fault_sound m relates name l h = either_leaf (answers_leaf m relates l) _ _ tt (either_leaf (drops_leaf l name) _ _ tt h)

pub leaf_sound : (m : Moment) (a : Arrived) (l : Leaf) (x : Message) → IsSoundMessage x → IsSoundLeaf l → SoundLeaf (on_leaf m a l x)
unfolding on_leaf
leaf_sound m a l (messages.Notice n) w h = leaf_notice_sound m a.from a.id l (participant_of l.kind l.state n) h
leaf_sound m a l (messages.RegisterResponse coordinator) w h = leaf_registered_sound m a.relates coordinator l w h
leaf_sound m a l (messages.Fault name) w h = leaf_fault_sound m a.relates name l h
leaf_sound m a l other w h = h

leaf_expires_sound : (m : Moment) (l : Leaf) → IfThere IsSoundLeaf (leaf_expires m l).item
leaf_expires_sound m l = either_change (IfThere IsSoundLeaf) (is_state l.state states.Registering) _ _ tt tt

pub leaf_due_sound : (m : Moment) (l : Leaf) (reached : Reached) → IsSoundLeaf l → SoundLeaf (leaf_reached m l reached)
unfolding leaf_reached
leaf_due_sound m l Expired h = leaf_expires_sound m l
leaf_due_sound m l Over h = h
leaf_due_sound m l Unanswered h = record { id = h.id; coordinator = h.coordinator; key = h.key; value = h.value }
leaf_due_sound m l Nothing h = h

for_sound : (m : Moment) (id : Numbers) (a : Arrived) (w : Work) (r : Reply) → IsId id → IsField w.key → IsField w.value → IfThere IsSoundLeaf (work_for m id a w r).leaf
for_sound m id a w (replies.At reply) h k v = record { id = h; coordinator = tt; key = k; value = v }
for_sound m id a w replies.Anonymous h k v = tt
for_sound m id a w replies.Nobody h k v = tt

pub employed_sound : (m : Moment) (live : ℕ) (a : Arrived) (w : Work) (id : Numbers) (l : Leaf) → IsId id → IsField w.key → IsField w.value → (on_work m live a w (Some id)).leaf ≡ Some l
    → IsSoundLeaf l
unfolding on_work
employed_sound m live a w id l h k v e =
    subst (IfThere IsSoundLeaf) e (either_of (λ x. IfThere IsSoundLeaf x.leaf) (nat_lt live MOST_ITEMS) (work_for m id a w a.reply) (refuse_work a) (λ i. for_sound m id a w a.reply h k v) (λ i. tt))
