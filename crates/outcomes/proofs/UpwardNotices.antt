-- What participants tell goes to coordinators, and to no initiator.
use Rattle.std.specs.Prelude.{ℕ, Some, Bool, true, ◌≡◌, refl}
use Rattle.std.proofs.Common.{inl, inr, subst, ap}
use Rattle.at_base.specs.Numbers.{Numbers}
use Rattle.at_base.specs.declared.epr.Epr.{Epr}
use Rattle.at_base.specs.declared.event.Arrived.{Arrived}
use Rattle.at_base.specs.declared.event.Event.{Event}
use Rattle.at_base.specs.declared.event.Event.TheVariants as events
use Rattle.at_base.specs.declared.event.Moment.{Moment}
use Rattle.at_base.specs.declared.notice.Kind.{Kind}
use Rattle.at_base.specs.declared.notice.Notice.{Notice}
use Rattle.at_base.specs.declared.notice.Notice.TheVariants as notices
use Rattle.at_base.specs.declared.message.Message.TheVariants as messages
use Rattle.at_base.specs.declared.outs.Post.{Post}
use Rattle.at_base.specs.declared.target.Target.TheVariants as targets
use Rattle.at_model.specs.Book.{Activity, Book, Transaction, leaf_id}
use Rattle.at_model.specs.Moves.{Change}
use Rattle.at_model.specs.Step.{moment_of, plan, step, transaction_at}
use Rattle.at_model.specs.World.{Node, Who, World, Hosts}
use Rattle.endpoints.specs.Forms.{takes}
use Rattle.model_laws.proofs.DecisionLaws.{all_find}
use Rattle.agreement.specs.ActivityDeeds.{ActivitySays, Completes as AsksTo, completing, tells_nothing as asks_nothing}
use Rattle.agreement.specs.StepDeeds.{standing}
use Rattle.agreement.specs.LeafDeeds.{LeafSays, aborted, committed, prepared, read_only, tells_nothing}
use Rattle.enlistments.specs.KnownCoordinators.{IsAsked, LeafKnows}
use Rattle.enlistments.specs.Leads.{Enlists, EnlistsIfKnown, LeadsTo}
use Rattle.enlistments.specs.Moves.{LeafDid}
use Rattle.enlistments.specs.NoticeOrigins.{AnswersAsNone, IsKnownOrAsked}
use Rattle.enlistments.proofs.Arrivals.{HasCome}
use Rattle.votes.proofs.Committeds.{asker_enlists, link_enlists}
use Rattle.votes.proofs.StepItems.{came_by}
use Rattle.votes.proofs.Notices.{other_notice, same_end, same_notice, says_notice}
use Rattle.votes.proofs.Premises.{StepPremises}

-- what comes to a participant as a notification is asked by a superior
asked_only : (id : Numbers) (kind : Kind) (v : Notice) → takes (targets.Participant id kind) (messages.Notice v) ≡ true → IsAsked v
asked_only id kind notices.Prepare e = inl refl
asked_only id kind notices.Commit e = inr (inl refl)
asked_only id kind notices.Rollback e = inr (inr refl)
asked_only id kind other e = absurd cc

was_asked : (hosts : Hosts) (u : World) (n : ℕ) (x : Node) (b : Book) (e : Event) → StepPremises hosts u n x b e → (a : Arrived) → e ≡ events.Arrived a → (id : Numbers) (kind : Kind)
    → a.target ≡ targets.Participant id kind → (v : Notice) → a.message ≡ messages.Notice v → IsAsked v
was_asked hosts u n x b e p a came id kind target v says =
    let h : HasCome hosts u n a = came_by hosts u n x b e p a came in
    asked_only id kind v (subst (λ m. takes (targets.Participant id kind) m ≡ true) says (subst (λ T. takes T a.message ≡ true) target h.taken))

-- what goes to a coordinator's seat goes to no initiator
pub no_initiator : (hosts : Hosts) (u : World) (up : Epr) (y : Who) (kind : Kind) (m : ℕ) (i : Numbers) → Enlists hosts u up y kind → LeadsTo hosts up m (targets.Initiator i) → ⊥
no_initiator hosts u up y kind m i h leads =
    let (id, number, same, accepted) = h m (targets.Initiator i) leads in apart id number same
  where
    apart : (id : Numbers) (number : ℕ) → targets.Initiator i ≡ targets.Coordinator id (record { number = number; kind = kind }) → ⊥
    apart id number e = cc

pub upwards : (hosts : Hosts) (u : World) (n : ℕ) (x : Node) (b : Book) (e : Event) → StepPremises hosts u n x b e → (t : Transaction) → transaction_at b t.id ≡ Some t → (kind : Kind) (up : Epr)
    → IsKnownOrAsked e kind t up → Enlists hosts u up (record { node = n; id = t.id }) kind
upwards hosts u n x b e p t found kind up (inl known) = link_enlists hosts u n x b e p t found kind up known
upwards hosts u n x b e p t found kind up (inr (a, came, target, from, (v, says))) =
    asker_enlists hosts u n x b e p a came t.id kind target v (was_asked hosts u n x b e p a came t.id kind target v says) says up from

pub leads_same : (hosts : Hosts) (q : Post) (to up : Epr) (m : ℕ) (i : Numbers) → q.to ≡ Some to → q.to ≡ Some up → LeadsTo hosts to m (targets.Initiator i) → LeadsTo hosts up m (targets.Initiator i)
leads_same hosts q to up m i sent goes leads = subst (λ f. LeadsTo hosts f m (targets.Initiator i)) (same_end q.to to up sent goes) leads

-- a leaf tells its coordinator, or who asks it
pub leaf_upwards : (hosts : Hosts) (u : World) (n : ℕ) (x : Node) (b : Book) (e : Event) (now : ℕ) (landed : Bool) → StepPremises hosts u n x b e
    → (d : LeafDid b e now (standing landed (plan b e now).entry) (step b e now landed)) (q : Post) → LeafSays (moment_of b now) e d.old d.change q → (v : Notice) → q.message ≡ messages.Notice v
    → (to : Epr) (m : ℕ) (i : Numbers) → q.to ≡ Some to → LeadsTo hosts to m (targets.Initiator i) → ⊥
leaf_upwards hosts u n x b e now landed p d q h v says to m i sent leads = by_reason h
  where
    knows : (up : Epr) → d.old.coordinator ≡ Some up → Enlists hosts u up (record { node = n; id = d.old.id }) d.old.kind
    knows up known =
        subst (λ c. EnlistsIfKnown hosts u c (record { node = n; id = d.old.id }) d.old.kind) known
        (all_find (LeafKnows hosts u n) leaf_id d.old.id b.leaves d.old (p.world.knowing.books n x b p.found p.up).leaves d.found)

    never : (up : Epr) → q.to ≡ Some up → Enlists hosts u up (record { node = n; id = d.old.id }) d.old.kind → ⊥
    never up goes k = no_initiator hosts u up (record { node = n; id = d.old.id }) d.old.kind m i k (leads_same hosts q to up m i sent goes leads)

    by_reason : LeafSays (moment_of b now) e d.old d.change q → ⊥
    by_reason (prepared up left known is goes on) = never up (ap (λ (r : Post). r.to) is) (knows up known)
    by_reason (read_only up known is was gone none) = never up (ap (λ (r : Post). r.to) is) (knows up known)
    by_reason (committed up known is gone ended) = never up (ap (λ (r : Post). r.to) is) (knows up known)
    by_reason (aborted up (inl known) is gone ended) = never up (ap (λ (r : Post). r.to) is) (knows up known)
    by_reason (aborted up (inr (came, from)) is gone ended) =
        never up (ap (λ (r : Post). r.to) is)
        (asker_enlists hosts u n x b e p came.arrived came.event d.old.id d.old.kind came.target notices.Rollback (inr (inr refl)) came.message up from)
    by_reason (tells_nothing none) = says_notice q.message v none says

pub none_asked : (asked n : Notice) → AnswersAsNone asked n → IsAsked asked
none_asked notices.Prepare n h = inl refl
none_asked notices.Commit n h = inr (inl refl)
none_asked notices.Rollback n h = inr (inr refl)
none_asked other n h = absurd h

-- an activity asks, and tells no outcome
pub asks_only : (m : Moment) (a : Activity) (c : Change Activity) (q : Post) → ActivitySays m a c q → (v : Notice) → (AsksTo v → ⊥) → q.message ≡ messages.Notice v → ⊥
asks_only m a c q (completing w to left asks known is goes on) v never says =
    never (subst AsksTo (same_notice q.message w v (other_notice q w _ is refl) says) asks)
asks_only m a c q (asks_nothing none) v never says = says_notice q.message v none says
