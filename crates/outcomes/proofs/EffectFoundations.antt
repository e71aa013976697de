-- What stands behind each effect of a step.
use Rattle.std.specs.Prelude.{ℕ, List, [], ◌∷◌, Option, Some, None, Bool, true, false, is_none, ◌≡◌, refl}
use Rattle.std.specs.List.{AllByRecursion}
use Rattle.std.proofs.Common.{inl, sym, subst, ap, ◌∙◌}
use Rattle.at_base.specs.Numbers.{Numbers}
use Rattle.at_base.specs.declared.event.Event.{Event}
use Rattle.at_base.specs.declared.event.Moment.{Moment}
use Rattle.at_base.specs.declared.notice.Kind.{Kind}
use Rattle.at_base.specs.declared.notice.Kind.TheVariants as kinds
use Rattle.at_base.specs.declared.notice.Notice.{Notice}
use Rattle.at_base.specs.declared.notice.Notice.TheVariants as notices
use Rattle.at_base.specs.declared.message.Message.TheVariants as messages
use Rattle.at_base.specs.declared.outs.Effect.{Effect}
use Rattle.at_base.specs.declared.outs.Effect.TheVariants as effects
use Rattle.at_base.specs.declared.outs.Ending.{Ending}
use Rattle.at_base.specs.declared.outs.Ending.TheVariants as endings
use Rattle.at_base.specs.declared.outs.Told.{Told}
use Rattle.at_base.specs.declared.outs.Told.TheVariants as tellings
use Rattle.at_base.specs.declared.record.Record.{Record}
use Rattle.at_base.specs.declared.record.Record.TheVariants as records
use Rattle.at_base.specs.declared.record.Seated.{Seated}
use Rattle.at_base.specs.declared.target.Target.TheVariants as targets
use Rattle.at_model.specs.Book.{Activity, Book, Enlistment, Leaf, Superior, Transaction}
use Rattle.at_model.specs.Leaves.{leaf_ended}
use Rattle.at_model.specs.Moves.{Change}
use Rattle.at_model.specs.Seats.{ending_of, prepared}
use Rattle.at_model.specs.Step.{Outcome, moment_of, plan, step}
use Rattle.at_model.specs.World.{Node, Who, World, nth, Hosts}
use Rattle.model_laws.specs.Agreement.{IsIn, IsOutcomeOf, Stands}
use Rattle.model_laws.specs.DrawnIds.{with_entry}
use Rattle.model_laws.specs.Growth.{Grows}
use Rattle.model_laws.specs.ReachedWorlds.{counts}
use Rattle.model_laws.proofs.DecisionLaws.{in_front}
use Rattle.model_laws.proofs.Growth.{takes_nothing_back}
use Rattle.model_laws.proofs.NodeLives.{put_this}
use Rattle.model_laws.proofs.SeatRegistrations.{in_back}
use Rattle.agreement.specs.ActivityDeeds.{ActivityDeed, ActivityTells, CameToActivity, aborted as told_aborted, committed as told_committed, expired, idles as goes_on, tells, uncreated, unknown, unregistered}
use Rattle.agreement.specs.Deeds.{How, IsHeard, StoodFor, happens, recorded}
use Rattle.agreement.specs.StepDeeds.{standing}
use Rattle.agreement.specs.LeafDeeds.{LeafDeed, aborts, commits, dropped, idles, leaves, prepares, rolls_back}
use Rattle.agreement.proofs.SeatedEntries.{one_of}
use Rattle.enlistments.specs.Leads.{LeadsTo}
use Rattle.enlistments.specs.Moves.{Moved, activity_did, activity_made, answered, leaf_did, leaf_made, registered, rested, transaction_did, transaction_made}
use Rattle.votes.specs.ToldOutcomes.{IsUnderCommitted}
use Rattle.votes.specs.VotesAndOutcomes.{IsOutcome}
use Rattle.votes.specs.DurableVotes.{HasVoted}
use Rattle.enlistments.proofs.Arrivals.{HasCome}
use Rattle.votes.proofs.Committeds.{commit_came}
use Rattle.votes.proofs.Growth.{under_committed_on, voted_on}
use Rattle.votes.proofs.StepItems.{came_by, grown}
use Rattle.votes.proofs.Premises.{StepPremises}
use Rattle.outcomes.specs.Foundations.{IsFounded, SaysWhatRootDid}

-- it stays so
pub outcome_on : (u w : World) → Grows u w → (a : Who) (what : Ending) → IsOutcomeOf u a what → IsOutcomeOf w a what
outcome_on u w g a what h = record {
  root = h.root;
  accepted = takes_nothing_back.accepted u w g h.root None a h.accepted;
  ended = subst (IsIn _) (sym g.happened) (in_front _ u.happened g.effects h.ended);
}

pub founded_on : (u w : World) → Grows u w → (n : ℕ) (f : Effect) → IsFounded u n f → IsFounded w n f
founded_on u w g n (effects.Root id endings.Committed) (seats, stands) = (seats, takes_nothing_back.stands u w g n (records.Decided id seats) stands)
founded_on u w g n (effects.Root id endings.Aborted) h = tt
founded_on u w g n (effects.Root id endings.Lost) h = tt
founded_on u w g n (effects.Sub id endings.Committed) (voted, under) = (voted_on u w g _ voted, under_committed_on u w g _ kinds.Durable under)
founded_on u w g n (effects.Sub id endings.Aborted) h = tt
founded_on u w g n (effects.Sub id endings.Lost) h = tt
founded_on u w g n (effects.Leaf id kinds.Durable endings.Committed) h = under_committed_on u w g _ kinds.Durable h
founded_on u w g n (effects.Leaf id kinds.Durable endings.Aborted) h = tt
founded_on u w g n (effects.Leaf id kinds.Durable endings.Lost) h = tt
founded_on u w g n (effects.Leaf id kinds.Volatile what) h = tt
founded_on u w g n (effects.Told id tellings.Committed) h = outcome_on u w g _ endings.Committed h
founded_on u w g n (effects.Told id tellings.Aborted) h = outcome_on u w g _ endings.Aborted h
founded_on u w g n (effects.Told id tellings.Unknown) h = tt
founded_on u w g n (effects.Told id tellings.Refused) h = tt

-- what isn't a commit asks for nothing
pub abort_founded : (w : World) (n : ℕ) (s : Option Superior) (id : Numbers) → IsFounded w n (ending_of s id endings.Aborted)
abort_founded w n None id = tt
abort_founded w n (Some s) id = tt

pub lost_founded : (w : World) (n : ℕ) (s : Option Superior) (id : Numbers) → IsFounded w n (ending_of s id endings.Lost)
lost_founded w n None id = tt
lost_founded w n (Some s) id = tt

pub leaf_lost_founded : (w : World) (n : ℕ) (id : Numbers) (kind : Kind) → IsFounded w n (effects.Leaf id kind endings.Lost)
leaf_lost_founded w n id kinds.Durable = tt
leaf_lost_founded w n id kinds.Volatile = tt

leaf_abort_founded : (w : World) (n : ℕ) (id : Numbers) (kind : Kind) → IsFounded w n (effects.Leaf id kind endings.Aborted)
leaf_abort_founded w n id kinds.Durable = tt
leaf_abort_founded w n id kinds.Volatile = tt

root_founded : (w : World) (n : ℕ) (s : Option Superior) (id : Numbers) → s ≡ None → (seats : List Seated) → Stands w n (records.Decided id seats) → IsFounded w n (ending_of s id endings.Committed)
root_founded w n None id root seats stands = (seats, stands)
root_founded w n (Some s) id root seats stands = absurd cc

sub_founded : (w : World) (n : ℕ) (s : Option Superior) (id : Numbers) → is_none s ≡ false → HasVoted w (record { node = n; id = id }) → IsUnderCommitted w (record { node = n; id = id }) kinds.Durable
    → IsFounded w n (ending_of s id endings.Committed)
sub_founded w n None id under voted committed = absurd cc
sub_founded w n (Some s) id under voted committed = (voted, committed)

-- the record of a step stands behind it
entered : (entry : Option Record) (landed : Bool) (rs : List Record) (r : Record) → standing landed entry ≡ Some r → IsIn r (with_entry entry landed rs)
entered None true rs r e = absurd cc
entered None false rs r e = absurd cc
entered (Some s) false rs r e = absurd cc
entered (Some s) true rs r e = let same : s ≡ r = cc in in_back r rs (s ∷ []) (inl (sym same))

pub entry_stands : (u : World) (n : ℕ) (x : Node) (b : Book) (e : Event) (now : ℕ) (landed : Bool) → nth n u.nodes ≡ Some x → (r : Record) → standing landed (plan b e now).entry ≡ Some r
    → Stands (counts u n x b e now landed) n r
entry_stands u n x b e now landed found r is =
    (record x { book = Some (step b e now landed).book; journal = with_entry (plan b e now).entry landed x.journal }, put_this u.nodes n x _ found, entered (plan b e now).entry landed x.journal r is)

-- a transaction
deed_founded : (hosts : Hosts) (u : World) (n : ℕ) (x : Node) (b : Book) (e : Event) (now : ℕ) (landed : Bool) → StepPremises hosts u n x b e → IsOutcome hosts u → (t : Transaction) (how : How)
    (at : List Enlistment) → StoodFor how t → IsHeard how e t → standing landed (plan b e now).entry ≡ recorded how t at
    → AllByRecursion (IsFounded (counts u n x b e now landed) n) (happens how t)
deed_founded hosts u n x b e now landed p j t How.Aborts at stood heard is = (abort_founded (counts u n x b e now landed) n t.superior t.id, tt)
deed_founded hosts u n x b e now landed p j t How.RollsBack at stood heard is = (abort_founded (counts u n x b e now landed) n t.superior t.id, tt)
deed_founded hosts u n x b e now landed p j t How.Decides at stood heard is =
    (root_founded (counts u n x b e now landed) n t.superior t.id stood.1 (prepared at) (entry_stands u n x b e now landed p.found (records.Decided t.id (prepared at)) is), tt)
deed_founded hosts u n x b e now landed p j t How.DecidesAlone at stood heard is =
    (root_founded (counts u n x b e now landed) n t.superior t.id stood.1 (prepared at) (entry_stands u n x b e now landed p.found (records.Decided t.id (prepared at)) is), tt)
deed_founded hosts u n x b e now landed p j t How.Commits at stood heard is =
    let (voted, under) = commit_came hosts u n x b e p j heard.message heard.came t.id kinds.Durable heard.target heard.says refl in (
      sub_founded (counts u n x b e now landed) n t.superior t.id stood.1 (voted_on u (counts u n x b e now landed) (grown hosts u n x b e now landed p) (record { node = n; id = t.id }) voted)
          (under_committed_on u (counts u n x b e now landed) (grown hosts u n x b e now landed p) (record { node = n; id = t.id }) kinds.Durable under),
      tt,
    )
deed_founded hosts u n x b e now landed p j t How.Idles at stood heard is = tt
deed_founded hosts u n x b e now landed p j t How.Votes at stood heard is = tt
deed_founded hosts u n x b e now landed p j t How.Leaves at stood heard is = tt
deed_founded hosts u n x b e now landed p j t How.Ends at stood heard is = tt
deed_founded hosts u n x b e now landed p j t How.Forgets at stood heard is = tt

-- a leaf
leaf_commit_founded : (w : World) (n : ℕ) (id : Numbers) (kind : Kind) → (kind ≡ kinds.Durable → IsUnderCommitted w (record { node = n; id = id }) kinds.Durable) → IsFounded w n (effects.Leaf id kind endings.Committed)
leaf_commit_founded w n id kinds.Durable h = h refl
leaf_commit_founded w n id kinds.Volatile h = tt

all_of_one : (w : World) (n : ℕ) (es : List Effect) (f : Effect) → es ≡ f ∷ [] → IsFounded w n f → AllByRecursion (IsFounded w n) es
all_of_one w n es f e h = subst (AllByRecursion (IsFounded w n)) (sym e) (h, tt)

all_of_none : (w : World) (n : ℕ) (es : List Effect) → es ≡ [] → AllByRecursion (IsFounded w n) es
all_of_none w n es e = subst (AllByRecursion (IsFounded w n)) (sym e) tt

leaf_founded : (hosts : Hosts) (u : World) (n : ℕ) (x : Node) (b : Book) (e : Event) (now : ℕ) (landed : Bool) → StepPremises hosts u n x b e → IsOutcome hosts u → (m : Moment) (l : Leaf) (entry : Option Record)
    (c : Change Leaf) → LeafDeed m e l entry c → AllByRecursion (IsFounded (counts u n x b e now landed) n) c.effects
leaf_founded hosts u n x b e now landed p j m l entry c (idles left is none on none_happened) = all_of_none (counts u n x b e now landed) n c.effects none_happened
leaf_founded hosts u n x b e now landed p j m l entry c (aborts state why none gone happened) =
    all_of_one (counts u n x b e now landed) n c.effects (leaf_ended l endings.Aborted) happened (leaf_abort_founded (counts u n x b e now landed) n l.id l.kind)
leaf_founded hosts u n x b e now landed p j m l entry c (prepares to came state vote known is on none_happened posted) = all_of_none (counts u n x b e now landed) n c.effects none_happened
leaf_founded hosts u n x b e now landed p j m l entry c (leaves to came state vote known none gone none_happened posted) = all_of_none (counts u n x b e now landed) n c.effects none_happened
leaf_founded hosts u n x b e now landed p j m l entry c (dropped came kind none gone none_happened posted) = all_of_none (counts u n x b e now landed) n c.effects none_happened
leaf_founded hosts u n x b e now landed p j m l entry c (commits to came state known is gone happened posted) =
    all_of_one (counts u n x b e now landed) n c.effects (leaf_ended l endings.Committed) happened
    (leaf_commit_founded (counts u n x b e now landed) n l.id l.kind
    (λ durable. under_committed_on u (counts u n x b e now landed) (grown hosts u n x b e now landed p) (record { node = n; id = l.id }) kinds.Durable
    (commit_came hosts u n x b e p j came.arrived came.event l.id l.kind came.target came.message durable).1))
leaf_founded hosts u n x b e now landed p j m l entry c (rolls_back to came state known is gone happened posted) =
    all_of_one (counts u n x b e now landed) n c.effects (leaf_ended l endings.Aborted) happened (leaf_abort_founded (counts u n x b e now landed) n l.id l.kind)

-- an activity
heard_outcome : (hosts : Hosts) (u : World) (n : ℕ) (x : Node) (b : Book) (e : Event) → StepPremises hosts u n x b e → AllByRecursion (λ q. SaysWhatRootDid hosts u q.content) u.posted → (a : Activity) (v : Notice)
    → (came : CameToActivity e a (messages.Notice v)) → (w : HasCome hosts u n came.arrived) × SaysWhatRootDid hosts u w.posted.content × LeadsTo hosts w.to n (targets.Initiator a.id)
heard_outcome hosts u n x b e p told a v came =
    let w : HasCome hosts u n came.arrived = came_by hosts u n x b e p came.arrived came.event in
    (w, one_of (λ q. SaysWhatRootDid hosts u q.content) u.posted w.posted told w.stands, subst (LeadsTo hosts w.to n) came.target w.leads)

tells_founded : (hosts : Hosts) (u : World) (n : ℕ) (x : Node) (b : Book) (e : Event) → StepPremises hosts u n x b e → AllByRecursion (λ q. SaysWhatRootDid hosts u q.content) u.posted → (m : Moment) (a : Activity)
    (what : Told) → ActivityTells m e a what → IsFounded u n (effects.Told a.id what)
tells_founded hosts u n x b e p told m a what (told_committed v came running is) =
    let (w, says, leads) = heard_outcome hosts u n x b e p told a notices.Committed came in
    subst (λ t. IsFounded u n (effects.Told a.id t)) (sym is) (says.0 w.to n a.id (w.message ∙ came.message) w.sent leads)
tells_founded hosts u n x b e p told m a what (told_aborted came running is) =
    let (w, says, leads) = heard_outcome hosts u n x b e p told a notices.Aborted came in
    subst (λ t. IsFounded u n (effects.Told a.id t)) (sym is) (says.1 w.to n a.id (w.message ∙ came.message) w.sent leads)
tells_founded hosts u n x b e p told m a what (uncreated name came relates creating is) = subst (λ t. IsFounded u n (effects.Told a.id t)) (sym is) tt
tells_founded hosts u n x b e p told m a what (unregistered name came relates registering is) = subst (λ t. IsFounded u n (effects.Told a.id t)) (sym is) tt
tells_founded hosts u n x b e p told m a what (unknown v came completing is) = subst (λ t. IsFounded u n (effects.Told a.id t)) (sym is) tt
tells_founded hosts u n x b e p told m a what (expired came begun creating due is) = subst (λ t. IsFounded u n (effects.Told a.id t)) (sym is) tt

activity_founded : (hosts : Hosts) (u : World) (n : ℕ) (x : Node) (b : Book) (e : Event) (now : ℕ) (landed : Bool) → StepPremises hosts u n x b e → AllByRecursion (λ q. SaysWhatRootDid hosts u q.content) u.posted
    → (m : Moment) (a : Activity) (entry : Option Record) (c : Change Activity) → ActivityDeed m e a entry c → AllByRecursion (IsFounded (counts u n x b e now landed) n) c.effects
activity_founded hosts u n x b e now landed p told m a entry c (goes_on left is none on none_happened) = all_of_none (counts u n x b e now landed) n c.effects none_happened
activity_founded hosts u n x b e now landed p told m a entry c (tells what why none gone happened posted) =
    all_of_one (counts u n x b e now landed) n c.effects (effects.Told a.id what) happened
    (founded_on u (counts u n x b e now landed) (grown hosts u n x b e now landed p) n (effects.Told a.id what) (tells_founded hosts u n x b e p told m a what why))

-- each step
pub step_founded : (hosts : Hosts) (u : World) (n : ℕ) (x : Node) (b : Book) (e : Event) (now : ℕ) (landed : Bool) → StepPremises hosts u n x b e → IsOutcome hosts u
    → AllByRecursion (λ q. SaysWhatRootDid hosts u q.content) u.posted → Moved b e now (standing landed (plan b e now).entry) (step b e now landed)
    → AllByRecursion (IsFounded (counts u n x b e now landed) n) (step b e now landed).effects
step_founded hosts u n x b e now landed p j told (transaction_did d) =
    subst (AllByRecursion (IsFounded (counts u n x b e now landed) n)) (sym (d.effects_are ∙ d.deed.happened))
    (deed_founded hosts u n x b e now landed p j d.old d.deed.how d.deed.at d.deed.stood d.deed.heard d.deed.records)
step_founded hosts u n x b e now landed p j told (leaf_did d) =
    subst (AllByRecursion (IsFounded (counts u n x b e now landed) n)) (sym d.effects_are)
    (leaf_founded hosts u n x b e now landed p j (moment_of b now) d.old (standing landed (plan b e now).entry) d.change d.deed)
step_founded hosts u n x b e now landed p j told (activity_did d) =
    subst (AllByRecursion (IsFounded (counts u n x b e now landed) n)) (sym d.effects_are)
    (activity_founded hosts u n x b e now landed p told (moment_of b now) d.old (standing landed (plan b e now).entry) d.change d.deed)
step_founded hosts u n x b e now landed p j told (registered d) = all_of_none (counts u n x b e now landed) n (step b e now landed).effects (ap (λ (q : Outcome). q.effects) d.is)
step_founded hosts u n x b e now landed p j told (transaction_made d) = all_of_none (counts u n x b e now landed) n (step b e now landed).effects (ap (λ (q : Outcome). q.effects) d.is)
step_founded hosts u n x b e now landed p j told (leaf_made d) = all_of_none (counts u n x b e now landed) n (step b e now landed).effects (ap (λ (q : Outcome). q.effects) d.is)
step_founded hosts u n x b e now landed p j told (activity_made d) = all_of_none (counts u n x b e now landed) n (step b e now landed).effects (ap (λ (q : Outcome). q.effects) d.is)
step_founded hosts u n x b e now landed p j told (answered d) = all_of_none (counts u n x b e now landed) n (step b e now landed).effects (ap (λ (q : Outcome). q.effects) d.is)
step_founded hosts u n x b e now landed p j told (rested d) = all_of_none (counts u n x b e now landed) n (step b e now landed).effects d.effects_are
