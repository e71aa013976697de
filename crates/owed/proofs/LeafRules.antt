-- What moves a leaf, and what it says.
use Rattle.std.specs.Prelude.{ℕ, List, Option, Some, None, false, ◌≡◌, refl}
use Rattle.std.proofs.Common.{inl, inr, ap, sym, subst, ◌∙◌}
use Rattle.at_base.specs.declared.epr.Epr.{Epr}
use Rattle.at_base.specs.declared.notice.Kind.{Kind}
use Rattle.at_base.specs.declared.notice.Kind.TheVariants as kinds
use Rattle.at_base.specs.declared.notice.Vote.{Vote}
use Rattle.at_base.specs.declared.notice.Vote.TheVariants as votes
use Rattle.at_base.specs.declared.notice.Notice.{Notice}
use Rattle.at_base.specs.declared.notice.Notice.TheVariants as notices
use Rattle.at_base.specs.declared.message.Message.{Message}
use Rattle.at_base.specs.declared.message.Message.TheVariants as messages
use Rattle.at_base.specs.declared.event.Arrived.{Arrived}
use Rattle.at_base.specs.declared.event.Event.{Event}
use Rattle.at_base.specs.declared.event.Event.TheVariants as events
use Rattle.at_base.specs.declared.event.Moment.{Moment}
use Rattle.at_base.specs.declared.outs.Post.{Post}
use Rattle.at_tables.specs.declared.cells.State.{State}
use Rattle.at_tables.specs.declared.cells.State.TheVariants as states
use Rattle.at_tables.specs.Names.{is_state}
use Rattle.at_model.specs.Book.{Leaf}
use Rattle.at_model.specs.Leaves.{leaf_aborts, leaf_commit, leaf_commits, leaf_prepares, leaf_records_vote, leaf_roll_back, leaf_says, leaf_target, leaf_votes}
use Rattle.at_model.specs.Moves.{Change, Decision}
use Rattle.at_model.specs.Posts.{notice_post, stored_or, to_each}
use Rattle.model_laws.specs.Agreement.{IsIn}
use Rattle.model_laws.proofs.DecisionLaws.{DecisionSays}
use Rattle.agreement.specs.LeafDeeds.{CameTo, Notified}
use Rattle.owed.specs.Leaves.{AnswersRegister, IsRegistered, KeepsLeafVote, LeafOwed, RegistersStill}
use Rattle.owed.specs.Seats.{Tells}
use Rattle.owed.specs.Links.{TellsAnswer}
use Rattle.owed.proofs.LinkActs.{one_post}

abbrev pub LeafChange : List ℕ → Event → Leaf → Change Leaf → Type 0
LeafChange base e l c = LeafOwed base e l c.posts c.item

abbrev pub LeafOwes : List ℕ → Event → Leaf → Decision Leaf → Type 0
LeafOwes base e l d = DecisionSays (LeafChange base e l) (λ r c. Unit {0}) d

-- nothing comes to the leaf, but what may be said of its Register
abbrev pub LeafIsQuiet : Event → Leaf → Type 0
LeafIsQuiet e l = (n : Notice) → Notified e l n → ⊥

-- a leaf that is gone
pub gone : (base : List ℕ) (e : Event) (l : Leaf) (ps : List Post) → ((h : Notified e l notices.Prepare) (to : Epr) → (l.state ≡ states.Registering → ⊥) → stored_or l.coordinator h.arrived.from ≡ Some to → TellsAnswer to ps)
    → ((h : Notified e l notices.Commit) (to : Epr) → l.state ≡ states.PreparedSuccess → stored_or l.coordinator h.arrived.from ≡ Some to → Tells (Some to) notices.Committed ps)
    → LeafOwed base e l ps None
gone base e l ps f g = (f, (g, (tt, tt)))

pub same_leaf : (base : List ℕ) (e : Event) (l : Leaf) (sent : Option ℕ) (ps : List Post) → LeafIsQuiet e l → (l.state ≡ states.Registering → IsRegistered base e l → ⊥)
    → LeafOwed base e l ps (Some (record l { sent = sent }))
same_leaf base e l sent ps q r =
    ((λ h to x y. absurd (q notices.Prepare h)), ((λ h to x y. absurd (q notices.Commit h)), ((λ d. inl ((d, refl), (q notices.Commit, q notices.Rollback))), (λ d. ((d, refl), r d)))))

-- one message says one thing
pub one_message : (e : Event) (l : Leaf) (x y : Message) → CameTo e l x → CameTo e l y → x ≡ y
one_message e l x y h k =
    let came : events.Arrived h.arrived ≡ events.Arrived k.arrived = sym h.event ∙ k.event in
    let same : h.arrived ≡ k.arrived = cc in
    sym h.message ∙ (ap (λ (a : Arrived). a.message) same ∙ k.message)

pub one_notice : (e : Event) (l : Leaf) (n v : Notice) → Notified e l n → Notified e l v → n ≡ v
one_notice e l n v h k = let f : messages.Notice n ≡ messages.Notice v = one_message e l (messages.Notice n) (messages.Notice v) h k in cc

one_from : (e : Event) (l : Leaf) (x y : Message) (h : CameTo e l x) (k : CameTo e l y) → h.arrived.from ≡ k.arrived.from
one_from e l x y h k =
    let came : events.Arrived h.arrived ≡ events.Arrived k.arrived = sym h.event ∙ k.event in
    let same : h.arrived ≡ k.arrived = cc in
    ap (λ (a : Arrived). a.from) same

pub no_answer : (base : List ℕ) (e : Event) (l : Leaf) (x : Message) → CameTo e l x → (AnswersRegister x → ⊥) → IsRegistered base e l → ⊥
no_answer base e l x h f r =
    let came : events.Arrived h.arrived ≡ events.Arrived r.message = sym h.event ∙ r.came in
    let same : h.arrived ≡ r.message = cc in
    f (subst AnswersRegister (sym (ap (λ (a : Arrived). a.message) same) ∙ h.message) r.answers)

-- what a notification does
pub said : (base : List ℕ) (e : Event) (l : Leaf) (n : Notice) (h : Notified e l n) (ps : List Post) (o : Option Leaf)
    → ((to : Epr) → n ≡ notices.Prepare → (l.state ≡ states.Registering → ⊥) → stored_or l.coordinator h.arrived.from ≡ Some to → TellsAnswer to ps)
    → ((to : Epr) → n ≡ notices.Commit → l.state ≡ states.PreparedSuccess → stored_or l.coordinator h.arrived.from ≡ Some to → Tells (Some to) notices.Committed ps)
    → KeepsLeafVote base e l ps o → RegistersStill base e l o → LeafOwed base e l ps o
said base e l n h ps o f g v r = (
  (λ k to x y. f to (one_notice e l n notices.Prepare h k) x (subst (λ z. stored_or l.coordinator z ≡ Some to) (one_from e l _ _ k h) y)),
  ((λ k to x y. g to (one_notice e l n notices.Commit h k) x (subst (λ z. stored_or l.coordinator z ≡ Some to) (one_from e l _ _ k h) y)), (v, r)),
)

-- the leaf's words
pub says : (m : Moment) (from : Option Epr) (n : Notice) (l : Leaf) (to : Epr) → stored_or l.coordinator from ≡ Some to → Tells (Some to) n (leaf_says m from n l)
says m from n l to e = one_post m.base (stored_or l.coordinator from) (λ x. notice_post m.base (leaf_target l) x n) n to e refl refl

known_says : (m : Moment) (n : Notice) (l : Leaf) (c to : Epr) (from : Option Epr) → l.coordinator ≡ Some c → stored_or l.coordinator from ≡ Some to → Tells (Some to) n (leaf_says m None n l)
known_says m n l c to from e f =
    says m None n l to (subst (λ x. stored_or x None ≡ Some to) (sym e) (subst (λ x. stored_or x from ≡ Some to) e f))

says_in : (m : Moment) (n : Notice) (l : Leaf) (c : Epr) → l.coordinator ≡ Some c → IsIn (notice_post m.base (leaf_target l) c n) (leaf_says m None n l)
says_in m n l c e = subst (λ x. IsIn (notice_post m.base (leaf_target l) c n) (to_each (stored_or x None) (λ to. notice_post m.base (leaf_target l) to n))) (sym e) (inl refl)

-- the leaf's states
pub is_not : (l : Leaf) (x y : State) → l.state ≡ x → is_state x y ≡ false → l.state ≡ y → ⊥
is_not l x y e f g = Rattle.owed.proofs.LinkRules.differs l.state x y e f g

-- it votes
prepares : (m : Moment) (e : Event) (l : Leaf) (n : Notice) (h : Notified e l n) (c : Epr) → n ≡ notices.Prepare → l.coordinator ≡ Some c → LeafChange m.base e l (leaf_prepares m l)
prepares m e l n h c p k =
    said m.base e l n h _ (Some (record l { state = states.PreparedSuccess; sent = Some m.now }))
    (λ to x y z. (notices.Prepared, tt, known_says m notices.Prepared l c to h.arrived.from k z)) (λ to x y z. let f : notices.Prepare ≡ notices.Commit = sym p ∙ x in absurd cc)
    (λ d. inr (c, k, says_in m notices.Prepared l c k)) (λ d. absurd cc)

leaves_with : (m : Moment) (e : Event) (l : Leaf) (n v : Notice) (h : Notified e l n) (from : Option Epr) → h.arrived.from ≡ from → n ≡ notices.Prepare → Rattle.owed.specs.Seats.AnswersSeat v
    → LeafOwed m.base e l (leaf_says m from v l) None
leaves_with m e l n v h from f p a =
    said m.base e l n h (leaf_says m from v l) None (λ to x y z. (v, a, says m from v l to (subst (λ w. stored_or l.coordinator w ≡ Some to) f z)))
    (λ to x y z. let g : notices.Prepare ≡ notices.Commit = sym p ∙ x in absurd cc) tt tt

aborts_unknown : (m : Moment) (e : Event) (l : Leaf) (n : Notice) (h : Notified e l n) (c : Epr) → n ≡ notices.Prepare → l.coordinator ≡ Some c → LeafChange m.base e l (leaf_aborts m None l)
aborts_unknown m e l n h c p k =
    said m.base e l n h (leaf_says m None notices.Aborted l) None (λ to x y z. (notices.Aborted, tt, known_says m notices.Aborted l c to h.arrived.from k z))
    (λ to x y z. let g : notices.Prepare ≡ notices.Commit = sym p ∙ x in absurd cc) tt tt

records_vote : (m : Moment) (e : Event) (l : Leaf) (n : Notice) (h : Notified e l n) (c : Epr) (o : Option Epr) → n ≡ notices.Prepare → l.coordinator ≡ Some c → o ≡ Some c
    → LeafOwes m.base e l (leaf_records_vote m o l)
records_vote m e l n h c None p k f = absurd cc
records_vote m e l n h c (Some x) p k f = record { entry = tt; landed = prepares m e l n h c p k; otherwise = aborts_unknown m e l n h c p k }

pub votes_owe : (m : Moment) (e : Event) (l : Leaf) (n : Notice) (h : Notified e l n) (from : Option Epr) (c : Epr) (kind : Kind) (vote : Vote) → h.arrived.from ≡ from → n ≡ notices.Prepare
    → l.coordinator ≡ Some c → LeafOwes m.base e l (leaf_votes m from l kind vote)
unfolding leaf_votes
votes_owe m e l n h from c kinds.Durable votes.Prepared f p k = records_vote m e l n h c l.coordinator p k k
votes_owe m e l n h from c kinds.Volatile votes.Prepared f p k = prepares m e l n h c p k
votes_owe m e l n h from c kinds.Volatile votes.ReadOnly f p k = leaves_with m e l n notices.ReadOnly h from f p tt
votes_owe m e l n h from c kinds.Durable votes.ReadOnly f p k = leaves_with m e l n notices.ReadOnly h from f p tt
votes_owe m e l n h from c kinds.Volatile votes.Aborted f p k = leaves_with m e l n notices.Aborted h from f p tt
votes_owe m e l n h from c kinds.Durable votes.Aborted f p k = leaves_with m e l n notices.Aborted h from f p tt

-- it commits, or rolls back
commits_with : (m : Moment) (e : Event) (l : Leaf) (n : Notice) (h : Notified e l n) (from : Option Epr) → h.arrived.from ≡ from → n ≡ notices.Commit → LeafChange m.base e l (leaf_commits m from l)
commits_with m e l n h from f p =
    said m.base e l n h (leaf_says m from notices.Committed l) None (λ to x y z. let g : notices.Commit ≡ notices.Prepare = sym p ∙ x in absurd cc)
    (λ to x y z. says m from notices.Committed l to (subst (λ w. stored_or l.coordinator w ≡ Some to) f z)) tt tt

pub commit_owes : (m : Moment) (e : Event) (l : Leaf) (n : Notice) (h : Notified e l n) (from : Option Epr) (kind : Kind) → h.arrived.from ≡ from → n ≡ notices.Commit → LeafOwes m.base e l (leaf_commit m from l kind)
unfolding leaf_commit
commit_owes m e l n h from kinds.Durable f p = record { entry = tt; landed = commits_with m e l n h from f p; otherwise = tt }
commit_owes m e l n h from kinds.Volatile f p = commits_with m e l n h from f p

pub ends_with : (m : Moment) (e : Event) (l : Leaf) (n : Notice) (h : Notified e l n) (ps : List Post) → (n ≡ notices.Prepare → ⊥) → (n ≡ notices.Commit → l.state ≡ states.PreparedSuccess → ⊥)
    → LeafOwed m.base e l ps None
ends_with m e l n h ps f g = said m.base e l n h ps None (λ to x y z. absurd (f x)) (λ to x y z. absurd (g x y)) tt tt

pub roll_owes : (m : Moment) (e : Event) (l : Leaf) (n : Notice) (h : Notified e l n) (from : Option Epr) (kind : Kind) → n ≡ notices.Rollback → LeafOwes m.base e l (leaf_roll_back m from l kind)
unfolding leaf_roll_back
roll_owes m e l n h from kinds.Durable p = record {
  entry = tt;
  landed = ends_with m e l n h _ (λ x. let g : notices.Rollback ≡ notices.Prepare = sym p ∙ x in cc) (λ x y. let g : notices.Rollback ≡ notices.Commit = sym p ∙ x in cc);
  otherwise = tt;
}
roll_owes m e l n h from kinds.Volatile p =
    ends_with m e l n h _ (λ x. let g : notices.Rollback ≡ notices.Prepare = sym p ∙ x in cc) (λ x y. let g : notices.Rollback ≡ notices.Commit = sym p ∙ x in cc)
