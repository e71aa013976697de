-- Who posts a durable participant's vote: a subordinate on its link, or a leaf.
use Rattle.std.specs.Prelude.{ℕ, [], Option, Some, None, ◌≡◌, ◌⊎◌}
use Rattle.std.proofs.Common.{inl, inr, sym, subst, ap}
use Rattle.at_base.specs.Numbers.{Numbers}
use Rattle.at_base.specs.declared.notice.Kind.{Kind}
use Rattle.at_base.specs.declared.notice.Kind.TheVariants as kinds
use Rattle.at_base.specs.declared.notice.Notice.{Notice}
use Rattle.at_base.specs.declared.notice.Notice.TheVariants as notices
use Rattle.at_base.specs.declared.message.Message.{Message}
use Rattle.at_base.specs.declared.message.Message.TheVariants as messages
use Rattle.at_base.specs.declared.target.Target.{Target}
use Rattle.at_base.specs.declared.target.Target.TheVariants as targets
use Rattle.at_base.specs.declared.event.Event.{Event}
use Rattle.at_base.specs.declared.outs.Post.{Post}
use Rattle.at_base.specs.declared.record.Record.{Record}
use Rattle.at_tables.specs.declared.cells.State.TheVariants as states
use Rattle.at_model.specs.Book.{Activity, Book, Leaf}
use Rattle.at_model.specs.Moves.{Change}
use Rattle.at_model.specs.Seats.{seat_target}
use Rattle.at_model.specs.Step.{Outcome, moment_of}
use Rattle.agreement.specs.ActivityDeeds.{ActivitySays, completing, tells_nothing as activity_tells_nothing}
use Rattle.agreement.specs.Branches.{IsNoNotice}
use Rattle.agreement.specs.Deeds.{WhySuperior}
use Rattle.agreement.specs.LeafDeeds.{LeafSays, aborted, committed, leaf_notice_to, prepared, read_only, tells_nothing}
use Rattle.enlistments.specs.Moves.{LeafDid, TransactionDid}
use Rattle.enlistments.specs.NoticeOrigins.{Tells, activity_says, as_committed, as_no_participant, as_no_seat, from_left_link, leaf_says, left_link_aborted, says_aborted, to_asking, to_initiator, to_late_seat, to_left_seat, to_seat, to_superior}

abbrev pub IsVote : Notice → Type 0
IsVote v = (v ≡ notices.Prepared) ⊎ (v ≡ notices.ReadOnly)

-- this item posts this vote
pub data IsVoter (b : Book) (e : Event) (now : ℕ) (entry : Option Record) (o : Outcome) (id : Numbers) (v : Notice) : Type 0 where
  subordinate : (d : TransactionDid b e now entry o) → d.old.id ≡ id → WhySuperior d.old d.deed.how d.deed.at kinds.Durable v → IsVoter b e now entry o id v
  leaf_prepared : (d : LeafDid b e now entry o) (left : Leaf) → d.old.id ≡ id → d.old.kind ≡ kinds.Durable → v ≡ notices.Prepared → d.change.item ≡ Some left → left.state ≡ states.PreparedSuccess
      → IsVoter b e now entry o id v
  leaf_left : (d : LeafDid b e now entry o) → d.old.id ≡ id → d.old.kind ≡ kinds.Durable → v ≡ notices.ReadOnly → d.old.state ≡ states.Active → d.change.item ≡ None → d.change.effects ≡ []
      → IsVoter b e now entry o id v

-- whose a post is
one_target : (o : Option Target) (T S : Target) → o ≡ Some T → o ≡ Some S → T ≡ S
one_target o T S e f = cc

no_target : (o : Option Target) (T : Target) → o ≡ None → o ≡ Some T → ⊥
no_target o T e f = cc

abbrev IsParticipant : Target → Type 0
IsParticipant (targets.Participant id kind) = Unit {0}
IsParticipant other = ⊥

not_ours : (o : Option Target) (T : Target) (id : Numbers) → (IsParticipant T → ⊥) → o ≡ Some T → o ≡ Some (targets.Participant id kinds.Durable) → ⊥
not_ours o T id f e g = f (subst IsParticipant (one_target o (targets.Participant id kinds.Durable) T g e) tt)

own_of : (p q : Post) → p ≡ q → p.own ≡ q.own
own_of p q e = ap (λ (x : Post). x.own) e

record IsOurs (i id : Numbers) (kind : Kind) : Type 0 where
  same : i ≡ id
  durable : kind ≡ kinds.Durable

is_ours : (o : Option Target) (i id : Numbers) (kind : Kind) → o ≡ Some (targets.Participant i kind) → o ≡ Some (targets.Participant id kinds.Durable) → IsOurs i id kind
is_ours o i id kind e f = inside (one_target o (targets.Participant i kind) (targets.Participant id kinds.Durable) e f)
  where
    inside : targets.Participant i kind ≡ targets.Participant id kinds.Durable → IsOurs i id kind
    inside g = record { same = cc; durable = cc }

-- what a post says
one_notice : (m : Message) (n v : Notice) → m ≡ messages.Notice n → m ≡ messages.Notice v → n ≡ v
one_notice m n v e f = cc

no_notice : (m : Message) (v : Notice) → IsNoNotice m → m ≡ messages.Notice v → ⊥
no_notice m v h e = subst IsNoNotice e h

abbrev MayVote : Notice → Type 0
MayVote notices.Prepared = Unit {0}
MayVote notices.ReadOnly = Unit {0}
MayVote other = ⊥

is_vote : (v : Notice) → IsVote v → MayVote v
is_vote v (inl e) = subst MayVote (sym e) tt
is_vote v (inr e) = subst MayVote (sym e) tt

no_vote : (v n : Notice) → IsVote v → v ≡ n → (MayVote n → ⊥) → ⊥
no_vote v n h e f = f (subst MayVote e (is_vote v h))

-- a leaf
leaf_votes : (b : Book) (e : Event) (now : ℕ) (entry : Option Record) (o : Outcome) (id : Numbers) (v : Notice) (p : Post) → (d : LeafDid b e now entry o) → IsVote v
    → p.own ≡ Some (targets.Participant id kinds.Durable) → p.message ≡ messages.Notice v → LeafSays (moment_of b now) e d.old d.change p → IsVoter b e now entry o id v
leaf_votes b e now entry o id v p d votes own says (prepared to left knows is item state) =
    let ours : IsOurs d.old.id id d.old.kind = is_ours p.own d.old.id id d.old.kind (own_of p (leaf_notice_to (moment_of b now) d.old to notices.Prepared) is) own in
    leaf_prepared d left ours.same ours.durable (one_notice p.message v notices.Prepared says (ap (λ (x : Post). x.message) is)) item state
leaf_votes b e now entry o id v p d votes own says (read_only to knows is state item effects) =
    let ours : IsOurs d.old.id id d.old.kind = is_ours p.own d.old.id id d.old.kind (own_of p (leaf_notice_to (moment_of b now) d.old to notices.ReadOnly) is) own in
    leaf_left d ours.same ours.durable (one_notice p.message v notices.ReadOnly says (ap (λ (x : Post). x.message) is)) state item effects
leaf_votes b e now entry o id v p d votes own says (committed to knows is item effects) =
    absurd (no_vote v notices.Committed votes (one_notice p.message v notices.Committed says (ap (λ (x : Post). x.message) is)) (λ h. h))
leaf_votes b e now entry o id v p d votes own says (aborted to knows is item effects) =
    absurd (no_vote v notices.Aborted votes (one_notice p.message v notices.Aborted says (ap (λ (x : Post). x.message) is)) (λ h. h))
leaf_votes b e now entry o id v p d votes own says (tells_nothing none) = absurd (no_notice p.message v none says)

activity_never : (b : Book) (e : Event) (now : ℕ) (id : Numbers) (v : Notice) (p : Post) (a : Activity) (c : Change Activity) → p.own ≡ Some (targets.Participant id kinds.Durable) → p.message ≡ messages.Notice v
    → ActivitySays (moment_of b now) a c p → ⊥
activity_never b e now id v p a c own says (completing n to left why knows is item progress) = not_ours p.own (targets.Initiator a.id) id (λ h. h) (own_of p _ is) own
activity_never b e now id v p a c own says (activity_tells_nothing none) = no_notice p.message v none says

-- a durable participant's vote is one of these
pub voters : (b : Book) (e : Event) (now : ℕ) (entry : Option Record) (o : Outcome) (id : Numbers) (v : Notice) (p : Post) → IsVote v → p.own ≡ Some (targets.Participant id kinds.Durable)
    → p.message ≡ messages.Notice v → Tells b e now entry o v p → IsVoter b e now entry o id v
voters b e now entry o id v p votes own says (to_seat d s i why from) = absurd (not_ours p.own (seat_target d.old.id s) id (λ h. h) from.owned own)
voters b e now entry o id v p votes own says (to_left_seat d s i durable state said is from) = absurd (no_target p.own (targets.Participant id kinds.Durable) from.unowned own)
voters b e now entry o id v p votes own says (to_superior d kind to knows why from) =
    let ours : IsOurs d.old.id id kind = is_ours p.own d.old.id id kind from.owned own in
    subordinate d ours.same (subst (λ k. WhySuperior d.old d.deed.how d.deed.at k v) ours.durable why)
voters b e now entry o id v p votes own says (says_aborted d kind to under aborts is knows from) = absurd (no_vote v notices.Aborted votes is (λ h. h))
voters b e now entry o id v p votes own says (from_left_link d kind s to under state said is knows from) = absurd (no_target p.own (targets.Participant id kinds.Durable) from.unowned own)
voters b e now entry o id v p votes own says (left_link_aborted d kind to under is knows from) = absurd (no_target p.own (targets.Participant id kinds.Durable) from.unowned own)
voters b e now entry o id v p votes own says (to_initiator d to knows why from) = absurd (not_ours p.own (targets.Completion d.old.id) id (λ h. h) from.owned own)
voters b e now entry o id v p votes own says (to_asking d c to knows done asked is from) = absurd (not_ours p.own (targets.Completion d.old.id) id (λ h. h) from.owned own)
voters b e now entry o id v p votes own says (leaf_says d why) = leaf_votes b e now entry o id v p d votes own says why
voters b e now entry o id v p votes own says (activity_says d why) = absurd (activity_never b e now id v p d.old d.change own says why)
voters b e now entry o id v p votes own says (to_late_seat d kind late is i same) = absurd (no_vote v notices.Prepare votes is (λ h. h))
voters b e now entry o id v p votes own says (as_no_seat d i s to at durable unknown said from is same) = absurd (no_target p.own (targets.Participant id kinds.Durable) (own_of p _ same) own)
voters b e now entry o id v p votes own says (as_no_participant d i kind to asked at unknown said answers from same) =
    absurd (no_target p.own (targets.Participant id kinds.Durable) (own_of p _ same) own)
voters b e now entry o id v p votes own says (as_committed d i to at kept said from is same) = absurd (no_vote v notices.Committed votes is (λ h. h))
