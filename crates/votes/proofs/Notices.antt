-- What a notification is, and whom an activity's go to.
use Rattle.std.specs.Prelude.{ℕ, Option, Some, ◌≡◌}
use Rattle.std.proofs.Common.{sym, subst, ap, ◌∙◌}
use Rattle.at_base.specs.Numbers.{Numbers}
use Rattle.at_base.specs.declared.epr.Epr.{Epr}
use Rattle.at_base.specs.declared.event.Event.{Event}
use Rattle.at_base.specs.declared.event.Moment.{Moment}
use Rattle.at_base.specs.declared.notice.Kind.{Kind}
use Rattle.at_base.specs.declared.notice.Notice.{Notice}
use Rattle.at_base.specs.declared.message.Message.{Message}
use Rattle.at_base.specs.declared.message.Message.TheVariants as messages
use Rattle.at_base.specs.declared.outs.Post.{Post}
use Rattle.at_base.specs.declared.target.Target.{Target}
use Rattle.at_base.specs.declared.target.Target.TheVariants as targets
use Rattle.at_model.specs.Book.{Activity, Book, Enlistment, Transaction, activity_id}
use Rattle.at_model.specs.Moves.{Change}
use Rattle.at_model.specs.Step.{activity_at, transaction_at}
use Rattle.at_model.specs.World.{Node, World, Hosts}
use Rattle.model_laws.specs.Agreement.{IsIn}
use Rattle.model_laws.proofs.DecisionLaws.{all_find}
use Rattle.agreement.specs.ActivityDeeds.{ActivitySays, completing, tells_nothing as asks_nothing}
use Rattle.agreement.specs.Branches.{IsNoNotice}
use Rattle.enlistments.specs.KnownCoordinators.{ActivityKnows}
use Rattle.enlistments.specs.Leads.{CompletesIfKnown, LeadsTo}
use Rattle.votes.proofs.Premises.{StepPremises}

-- messages
pub says_notice : (m : Message) (n : Notice) → IsNoNotice m → m ≡ messages.Notice n → ⊥
says_notice m n h e = subst IsNoNotice e h

pub same_notice : (m : Message) (n v : Notice) → m ≡ messages.Notice n → m ≡ messages.Notice v → n ≡ v
same_notice m n v e f = let g : messages.Notice n ≡ messages.Notice v = sym e ∙ f in cc

pub same_end : (o : Option Epr) (to from : Epr) → o ≡ Some to → o ≡ Some from → to ≡ from
same_end o to from e f = let g : Some to ≡ Some from = sym e ∙ f in cc

pub other_notice : (q : Post) (n : Notice) (r : Post) → q ≡ r → r.message ≡ messages.Notice n → q.message ≡ messages.Notice n
other_notice q n r e f = ap (λ (s : Post). s.message) e ∙ f

-- an activity knows a completion seat alone
pub activity_knows : (hosts : Hosts) (u : World) (n : ℕ) (x : Node) (b : Book) (e : Event) → StepPremises hosts u n x b e → (a : Activity) (to : Epr) → activity_at b a.id ≡ Some a → a.coordinator ≡ Some to
    → (m : ℕ) (T : Target) → LeadsTo hosts to m T → (id : Numbers) × (T ≡ targets.Completion id)
activity_knows hosts u n x b e p a to found known m T leads =
    let h : ActivityKnows hosts u n a = all_find (ActivityKnows hosts u n) activity_id a.id b.activities a (p.world.knowing.books n x b p.found p.up).activities found in
    let k : (id : Numbers) × (T ≡ targets.Completion id) × _ = subst (λ c. CompletesIfKnown hosts u c (record { node = n; id = a.id })) known h m T leads in
    (k.0, k.1)

no_completion : (i id : Numbers) (kind : Kind) → targets.Participant i kind ≡ targets.Completion id → ⊥
no_completion i id kind e = cc

pub no_participant : (hosts : Hosts) (u : World) (n : ℕ) (x : Node) (b : Book) (e : Event) → StepPremises hosts u n x b e → (m : Moment) (a : Activity) (c : Change Activity) (q : Post) → activity_at b a.id ≡ Some a
    → ActivitySays m a c q → (v : Notice) (to : Epr) (k : ℕ) (i : Numbers) (kind : Kind) → q.message ≡ messages.Notice v → q.to ≡ Some to → LeadsTo hosts to k (targets.Participant i kind) → ⊥
no_participant hosts u n x b e p m a c q found (completing v to left asks known is goes on) w other k i kind says sent leads =
    let (id, same) = activity_knows hosts u n x b e p a to found known k (targets.Participant i kind)
    (subst (λ f. LeadsTo hosts f k (targets.Participant i kind)) (same_end q.to other to sent (ap (λ (r : Post). r.to) is)) leads) in
    no_completion i id kind same
no_participant hosts u n x b e p m a c q found (asks_nothing none) w other k i kind says sent leads = says_notice q.message w none says

-- a seat's endpoint names a participant of the seat's kind
pub record SeatIs (hosts : Hosts) (s : Enlistment) : Type 0 where
  pub kind : (m : ℕ) (i : Numbers) (kind : Kind) → LeadsTo hosts s.participant m (targets.Participant i kind) → kind ≡ s.kind

abbrev pub SeatsAre : Hosts → Book → Type 0
SeatsAre hosts b = (t : Transaction) (s : Enlistment) → transaction_at b t.id ≡ Some t → IsIn s t.seats → SeatIs hosts s
