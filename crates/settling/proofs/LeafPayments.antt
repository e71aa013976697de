-- A leaf pays for what it posts.
use Rattle.std.specs.Prelude.{ℕ, List, [], Option, Some, None, Bool, true, false, ◌+◌, ◌&&◌, ◌||◌, if◌then◌else◌, ◌≡◌, ◌≤◌, refl}
use Rattle.std.proofs.Common.{arith, ap}
use Rattle.at_base.specs.declared.fault.Fault.TheVariants.{InvalidState}
use Rattle.at_base.specs.declared.epr.Epr.{Epr}
use Rattle.at_base.specs.declared.event.Arrived.{Arrived}
use Rattle.at_base.specs.declared.event.Moment.{Moment}
use Rattle.at_base.specs.declared.message.Message.{Message}
use Rattle.at_base.specs.declared.message.Message.TheVariants as messages
use Rattle.at_base.specs.declared.notice.Kind.{Kind}
use Rattle.at_base.specs.declared.notice.Kind.TheVariants as kinds
use Rattle.at_base.specs.declared.notice.Notice.{Notice}
use Rattle.at_base.specs.declared.notice.Notice.TheVariants as notices
use Rattle.at_base.specs.declared.notice.Vote.{Vote}
use Rattle.at_base.specs.declared.notice.Vote.TheVariants as votes
use Rattle.at_base.specs.declared.outs.Post.{Post}
use Rattle.at_tables.specs.declared.cells.Act.{Act}
use Rattle.at_tables.specs.declared.cells.Act.TheVariants as acts
use Rattle.at_tables.specs.declared.cells.Cell.{Cell}
use Rattle.at_tables.specs.declared.cells.State.{State}
use Rattle.at_tables.specs.declared.cells.State.TheVariants as states
use Rattle.at_tables.specs.Names.{is_state}
use Rattle.at_tables.specs.Tables.{participant_of}
use Rattle.at_model.specs.Book.{Leaf, WorkRequest}
use Rattle.at_model.specs.Due.{Expired, Nothing, Over, Reached, Unanswered, is_quiet, leaf_again, leaf_due, leaf_reached, leaf_register_again}
use Rattle.at_model.specs.Leaves.{answers_leaf, drops_leaf, leaf_act, leaf_aborts, leaf_commit, leaf_commits, leaf_fault, leaf_faults, leaf_notice, leaf_prepares, leaf_records_vote, leaf_refused, leaf_register, leaf_registered, leaf_roll_back, leaf_says, leaf_target, leaf_votes, on_leaf, work_answer}
use Rattle.at_model.specs.Moves.{Change, Decision, ignored}
use Rattle.at_model.specs.Posts.{fault_post, notice_post, reply_post, stored_or}
use Rattle.model_laws.proofs.DecisionLaws.{DecisionSays, either_left, either_says, first_true}
use Rattle.settling.specs.Load.{Prices, again, leaf_load, leaf_rest, link_repeats, notice_weight, post_weight, weight, weights}
use Rattle.settling.proofs.SeatPayments.{spends}
use Rattle.settling.proofs.AbortPayments.{to_each_weighs}
use Rattle.settling.proofs.Costs.{Within, cost, participant_within, spare}
use Rattle.settling.proofs.Entries.{state_is}
use Rattle.settling.proofs.Weights.{AnyEntry, less_again, none_again, not_quiet, weights_one}

abbrev pub left_leaf : Prices → ℕ → Option Leaf → ℕ
left_leaf P now None = 0
left_leaf P now (Some l) = leaf_load P now l

-- what is left of a leaf is within the limit
pub record LeafCovers (P : Prices) (now limit : ℕ) (c : Change Leaf) : Type 0 where
  pub paid : weights P c.posts + left_leaf P now c.item ≤ limit

abbrev pub LeafActed : Prices → Moment → ℕ → Leaf → Decision Leaf → Type 0
LeafActed P m free l d = DecisionSays (LeafCovers P m.now (leaf_load P m.now l + free)) AnyEntry d

leaf_ignored : (P : Prices) (m : Moment) (free : ℕ) (l : Leaf) → LeafActed P m free l (ignored l)
leaf_ignored P m free l = record { paid = omega arith }

says_weighs : (P : Prices) (m : Moment) (from : Option Epr) (n : Notice) (l : Leaf) → weights P (leaf_says m from n l) ≤ notice_weight n
says_weighs P m from n l = to_each_weighs P (stored_or l.coordinator from) (λ to. notice_post m.base (leaf_target l) to n) (notice_weight n) (λ x. omega arith)

faults_weigh : (P : Prices) (from : Option Epr) (i : Option (List ℕ)) (l : Leaf) → weights P (leaf_faults from i l) ≤ 1
faults_weigh P from i l = to_each_weighs P (stored_or l.coordinator from) (λ to. fault_post (Some to) i InvalidState) 1 (λ x. omega arith)

answer_weighs : (P : Prices) (x : Message) (r : Option WorkRequest) → ((p : Post) → p.message ≡ x → post_weight P p ≤ 1) → weights P (work_answer x r) ≤ 1
answer_weighs P x None h = omega arith
answer_weighs P x (Some r) h = omega (arith, weights_one P (reply_post (Some r.reply) r.id x), h (reply_post (Some r.reply) r.id x) refl)

-- a leaf in this state that sent now
sent_leaf : (P : Prices) (m : Moment) (l : Leaf) (state : State) → leaf_load P m.now (record l { state = state; sent = Some m.now }) ≡ P.other + (leaf_rest state + again false (link_repeats P state))
sent_leaf P m l state = ap (λ b. P.other + (leaf_rest state + again b (link_repeats P state))) (not_quiet m.now)

aborts_paid : (P : Prices) (m : Moment) (from : Option Epr) (limit : ℕ) (l : Leaf) → 2 ≤ limit → LeafCovers P m.now limit (leaf_aborts m from l)
aborts_paid P m from limit l h = record { paid = omega (arith, h, says_weighs P m from notices.Aborted l) }

commits_paid : (P : Prices) (m : Moment) (from : Option Epr) (limit : ℕ) (l : Leaf) → 2 ≤ limit → LeafCovers P m.now limit (leaf_commits m from l)
commits_paid P m from limit l h = record { paid = omega (arith, h, says_weighs P m from notices.Committed l) }

prepares_paid : (P : Prices) (m : Moment) (free : ℕ) (l : Leaf) → 4 ≤ free → LeafCovers P m.now (leaf_load P m.now l + free) (leaf_prepares m l)
prepares_paid P m free l h = record { paid = omega (arith, h, says_weighs P m None notices.Prepared l, sent_leaf P m l states.PreparedSuccess) }

votes_paid : (P : Prices) (m : Moment) (free : ℕ) (from : Option Epr) (l : Leaf) (kind : Kind) (vote : Vote) → 4 ≤ free → LeafActed P m free l (leaf_votes m from l kind vote)
unfolding leaf_votes
votes_paid P m free from l kinds.Durable votes.Prepared h = recorded l.coordinator
  where
    recorded : (c : Option Epr) → LeafActed P m free l (leaf_records_vote m c l)
    recorded None = aborts_paid P m None (leaf_load P m.now l + free) l (omega (arith, h))
    recorded (Some c) = record { entry = tt; landed = prepares_paid P m free l h; otherwise = aborts_paid P m None (leaf_load P m.now l + free) l (omega (arith, h)) }
votes_paid P m free from l kinds.Volatile votes.Prepared h = prepares_paid P m free l h
votes_paid P m free from l kinds.Durable votes.ReadOnly h = record { paid = omega (arith, h, says_weighs P m from notices.ReadOnly l) }
votes_paid P m free from l kinds.Volatile votes.ReadOnly h = record { paid = omega (arith, h, says_weighs P m from notices.ReadOnly l) }
votes_paid P m free from l kinds.Durable votes.Aborted h = aborts_paid P m from (leaf_load P m.now l + free) l (omega (arith, h))
votes_paid P m free from l kinds.Volatile votes.Aborted h = aborts_paid P m from (leaf_load P m.now l + free) l (omega (arith, h))

commit_leaf_paid : (P : Prices) (m : Moment) (free : ℕ) (from : Option Epr) (l : Leaf) (kind : Kind) → 2 ≤ free → LeafActed P m free l (leaf_commit m from l kind)
unfolding leaf_commit
commit_leaf_paid P m free from l kinds.Durable h = record { entry = tt; landed = commits_paid P m from (leaf_load P m.now l + free) l (omega (arith, h)); otherwise = tt }
commit_leaf_paid P m free from l kinds.Volatile h = commits_paid P m from (leaf_load P m.now l + free) l (omega (arith, h))

roll_back_leaf_paid : (P : Prices) (m : Moment) (free : ℕ) (from : Option Epr) (l : Leaf) (kind : Kind) → 2 ≤ free → LeafActed P m free l (leaf_roll_back m from l kind)
unfolding leaf_roll_back
roll_back_leaf_paid P m free from l kinds.Durable h = record { entry = tt; landed = aborts_paid P m from (leaf_load P m.now l + free) l (omega (arith, h)); otherwise = tt }
roll_back_leaf_paid P m free from l kinds.Volatile h = aborts_paid P m from (leaf_load P m.now l + free) l (omega (arith, h))

leaf_act_paid : (P : Prices) (m : Moment) (free : ℕ) (from : Option Epr) (i : Option (List ℕ)) (l : Leaf) (act : Act) → cost act ≤ free → LeafActed P m free l (leaf_act m from i l act)
unfolding leaf_act
leaf_act_paid P m free from i l acts.Gather h = votes_paid P m free from l l.kind l.vote h
leaf_act_paid P m free from i l acts.SendPrepared h =
    record { paid = omega (arith, h, says_weighs P m from notices.Prepared l, sent_leaf P m l l.state, less_again (is_quiet m.now l.sent) (link_repeats P l.state)) }
leaf_act_paid P m free from i l acts.Commit h = commit_leaf_paid P m free from l l.kind h
leaf_act_paid P m free from i l acts.AbortAndSendAborted h = aborts_paid P m from (leaf_load P m.now l + free) l (omega (arith, h))
leaf_act_paid P m free from i l acts.RecordAndSendAborted h = roll_back_leaf_paid P m free from l l.kind h
leaf_act_paid P m free from i l acts.FaultInvalidState h = record { paid = omega (arith, h, faults_weigh P from i l) }
leaf_act_paid P m free from i l acts.FaultInvalidStateAndAbort h = record { paid = omega (arith, h, faults_weigh P from i l) }
leaf_act_paid P m free from i l other h = leaf_ignored P m free l

leaf_notice_paid : (P : Prices) (m : Moment) (n : Notice) (from : Option Epr) (i : Option (List ℕ)) (l : Leaf) (c : Option Cell) → Within n c → LeafActed P m (spare n) l (leaf_notice m from i l c)
unfolding leaf_notice
leaf_notice_paid P m n from i l None h = leaf_ignored P m (spare n) l
leaf_notice_paid P m n from i l (Some c) h = leaf_act_paid P m (spare n) from i l c.act h

-- a leaf in Registering holds what its request is answered with
registering_load : (P : Prices) (m : Moment) (l : Leaf) → is_state l.state states.Registering ≡ true → P.other + 3 ≤ leaf_load P m.now l
registering_load P m l e =
    let s : leaf_load P m.now l ≡ P.other + (3 + again (is_quiet m.now l.sent) (10 + P.seat)) =
    ap (λ x. P.other + (leaf_rest x + again (is_quiet m.now l.sent) (link_repeats P x))) (state_is l.state states.Registering e) in
    omega (arith, s)

refused_paid : (P : Prices) (m : Moment) (limit : ℕ) (l : Leaf) → 1 ≤ limit → LeafCovers P m.now limit (leaf_refused l)
refused_paid P m limit l h = record { paid = omega (arith, h, answer_weighs P messages.WorkRefused l.request (λ p e. omega (arith, ap (weight P) e))) }

leaf_registered_paid : (P : Prices) (m : Moment) (relates : Option (List ℕ)) (coordinator : Epr) (l : Leaf) → LeafActed P m 0 l (leaf_registered m relates coordinator l)
unfolding leaf_registered
leaf_registered_paid P m relates coordinator l =
    either_says (LeafCovers P m.now (leaf_load P m.now l + 0)) AnyEntry (answers_leaf m relates l) _ _
    (λ k. record {
      paid = omega (
        arith,
        registering_load P m l (first_true (is_state l.state states.Registering) _ k),
        answer_weighs P messages.WorkDone l.request (λ p e. omega (arith, ap (weight P) e)),
        none_again (is_quiet m.now l.sent),
      );
    })
    (λ k. leaf_ignored P m 0 l)

leaf_fault_paid : (P : Prices) (m : Moment) (relates : Option (List ℕ)) (name : List ℕ) (l : Leaf) → LeafActed P m 0 l (leaf_fault m relates name l)
unfolding leaf_fault
leaf_fault_paid P m relates name l =
    either_says (LeafCovers P m.now (leaf_load P m.now l + 0)) AnyEntry (answers_leaf m relates l) _ _
    (λ k. refused_paid P m (leaf_load P m.now l + 0) l (omega (arith, registering_load P m l (first_true (is_state l.state states.Registering) _ k))))
    (λ k. either_says (LeafCovers P m.now (leaf_load P m.now l + 0)) AnyEntry (drops_leaf l name) _ _ (λ j. record { paid = omega arith }) (λ j. leaf_ignored P m 0 l))

pub leaf_paid : (P : Prices) (m : Moment) (a : Arrived) (l : Leaf) (x : Message) → LeafActed P m (spends x) l (on_leaf m a l x)
unfolding on_leaf
leaf_paid P m a l (messages.Notice n) = leaf_notice_paid P m n a.from a.id l (participant_of l.kind l.state n) (participant_within l.kind l.state n)
leaf_paid P m a l (messages.RegisterResponse coordinator) = leaf_registered_paid P m a.relates coordinator l
leaf_paid P m a l (messages.Fault name) = leaf_fault_paid P m a.relates name l
leaf_paid P m a l other = leaf_ignored P m 0 l

-- when it is due
leaf_again_weighs : (P : Prices) (m : Moment) (l : Leaf) → weights P (leaf_again m l) ≤ link_repeats P l.state
leaf_again_weighs P m l = by_state l.state
  where
    register_weighs : (r : Option WorkRequest) → weights P (leaf_register_again m l r) ≤ 10 + P.seat
    register_weighs None = omega arith
    register_weighs (Some r) = omega (arith, weights_one P (leaf_register m l r.registration))

    by_state : (state : State) → weights P (if is_state state states.Registering then leaf_register_again m l l.request
        else if is_state state states.PreparedSuccess then leaf_says m None notices.Prepared l
        else []) ≤ link_repeats P state
    by_state states.Registering = register_weighs l.request
    by_state states.PreparedSuccess = says_weighs P m None notices.Prepared l
    by_state other = omega arith

expired_rest : (state : State) → (is_state state states.Registering || is_state state states.Active) ≡ true → 2 ≤ leaf_rest state
expired_rest states.Registering e = omega arith
expired_rest states.Active e = omega arith
expired_rest other e = absurd cc

expired_why : (a b c : Bool) → (if a && b then Expired else if c then Unanswered else Nothing) ≡ Expired → a ≡ true
expired_why true b c e = refl
expired_why false b true e = absurd cc
expired_why false b false e = absurd cc

pub unanswered_why : (a q s : Bool) → (if a then Expired else if q && s then Unanswered else Nothing) ≡ Unanswered → q ≡ true
unanswered_why true q s e = absurd cc
unanswered_why false true s e = refl
unanswered_why false false s e = absurd cc

leaf_reached_paid : (P : Prices) (m : Moment) (l : Leaf) (reached : Reached) → (reached ≡ Expired → (is_state l.state states.Registering || is_state l.state states.Active) ≡ true)
    → (reached ≡ Unanswered → is_quiet m.now l.sent ≡ true) → LeafActed P m 0 l (leaf_reached m l reached)
unfolding leaf_reached
leaf_reached_paid P m l Expired h k =
    let two : 2 ≤ leaf_load P m.now l + 0 = omega (arith, expired_rest l.state (h refl)) in
    either_left (LeafCovers P m.now (leaf_load P m.now l + 0)) (is_state l.state states.Registering) (leaf_refused l) (leaf_aborts m None l)
    (refused_paid P m (leaf_load P m.now l + 0) l (omega (arith, two))) (aborts_paid P m None (leaf_load P m.now l + 0) l two)
leaf_reached_paid P m l Over h k = leaf_ignored P m 0 l
leaf_reached_paid P m l Unanswered h k =
    let old : leaf_load P m.now l ≡ P.other + (leaf_rest l.state + again true (link_repeats P l.state)) = ap (λ b. P.other + (leaf_rest l.state + again b (link_repeats P l.state))) (k refl) in
    record { paid = omega (arith, old, leaf_again_weighs P m l, sent_leaf P m l l.state) }
leaf_reached_paid P m l Nothing h k = leaf_ignored P m 0 l

pub leaf_due_paid : (P : Prices) (m : Moment) (l : Leaf) → LeafActed P m 0 l (leaf_reached m l (leaf_due m l))
leaf_due_paid P m l = leaf_reached_paid P m l (leaf_due m l) (expired_why _ _ _) (unanswered_why _ _ _)
