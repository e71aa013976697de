-- What a step's premises say of its node's items, and what the step brings about.
use Rattle.std.specs.Prelude.{ℕ, List, [], ◌∷◌, Option, Some, Bool, true, map, ◌≡◌, refl}
use Rattle.std.specs.List.{AllByRecursion}
use Rattle.std.proofs.Common.{inl, inr, sym, subst, ap, ◌∙◌}
use Rattle.at_base.specs.Numbers.{Numbers}
use Rattle.at_base.specs.declared.epr.Epr.{Epr}
use Rattle.at_base.specs.declared.event.Arrived.{Arrived}
use Rattle.at_base.specs.declared.event.Event.{Event}
use Rattle.at_base.specs.declared.event.Event.TheVariants as events
use Rattle.at_base.specs.declared.record.Record.{Record}
use Rattle.at_base.specs.declared.outs.Ending.{Ending}
use Rattle.at_base.specs.declared.outs.Ending.TheVariants as endings
use Rattle.at_base.specs.declared.outs.Effect.{Effect}
use Rattle.at_base.specs.declared.target.Target.{Target}
use Rattle.at_model.specs.Book.{Book, Enlistment, Phase, Transaction, transaction_id}
use Rattle.at_model.specs.Seats.{ending}
use Rattle.at_model.specs.Step.{leaf_at, step, transaction_at}
use Rattle.at_model.specs.World.{Node, Who, World, accepted_seat, happened_at, new_nodes, who_at, Hosts}
use Rattle.model_laws.specs.Agreement.{HasAborted, HasCommitted, HasEnded, IsIn}
use Rattle.model_laws.specs.Registrations.{IsEnlisted}
use Rattle.model_laws.specs.Growth.{Grows}
use Rattle.model_laws.specs.ReachedWorlds.{counts}
use Rattle.model_laws.proofs.DecisionLaws.{all_find}
use Rattle.model_laws.proofs.Growth.{grows_counts}
use Rattle.model_laws.proofs.Nodes.{who_same}
use Rattle.model_laws.proofs.SeatRegistrations.{in_back}
use Rattle.agreement.specs.Deeds.{How, IsAbort, IsCommit, happens}
use Rattle.agreement.specs.Lives.{Life, book_of, happened_on, standing}
use Rattle.agreement.proofs.TransactionLives.{TransactionLife}
use Rattle.agreement.proofs.SeatedEntries.{one_of}
use Rattle.enlistments.specs.Leads.{LeadsTo}
use Rattle.enlistments.specs.Moves.{TransactionDid}
use Rattle.enlistments.proofs.Arrivals.{HasCome, has_come}
use Rattle.votes.specs.NamedParticipants.{HasSeat}
use Rattle.votes.specs.VotesAndOutcomes.{IsOutcome}
use Rattle.votes.specs.SeatStates.{SeatTells, TransactionTells, who_named}
use Rattle.votes.proofs.ItemEnds.{aborts_here, by_ending, commits_here, life_of}
use Rattle.votes.proofs.Premises.{StepPremises}

-- lists
pub mapped_in : {A B : Type 0} (f : A → B) (x : A) (xs : List A) → IsIn x xs → IsIn (f x) (map f xs)
mapped_in f x [] i = absurd i
mapped_in f x (y ∷ xs) (inl e) = inl (ap f e)
mapped_in f x (y ∷ xs) (inr i) = inr (mapped_in f x xs i)

-- the node's standing book is that which it holds
pub here : (x : Node) (b : Book) → x.book ≡ Some b → book_of x ≡ b
here x b up = ap (standing x.base x.journal) up

pub grown : (hosts : Hosts) (u : World) (n : ℕ) (x : Node) (b : Book) (e : Event) (now : ℕ) (landed : Bool) → StepPremises hosts u n x b e → Grows u (counts u n x b e now landed)
grown hosts u n x b e now landed s = grows_counts u n x b e now landed s.found

pub life_at : (hosts : Hosts) (u : World) (n : ℕ) (x : Node) (b : Book) (e : Event) → StepPremises hosts u n x b e → (id : Numbers)
    → Life x.journal (happened_on n u.happened) id (transaction_at b id) (leaf_at b id)
life_at hosts u n x b e s id = subst (λ c. Life x.journal (happened_on n u.happened) id (transaction_at c id) (leaf_at c id)) (here x b s.up) (s.world.laws.lives n x s.found id)

-- what comes to it was posted
pub came_by : (hosts : Hosts) (u : World) (n : ℕ) (x : Node) (b : Book) (e : Event) → StepPremises hosts u n x b e → (a : Arrived) → e ≡ events.Arrived a → HasCome hosts u n a
came_by hosts u n x b e p a came =
    has_come hosts u n x b e 0 true a (record { distinct = p.world.laws.distinct; reached = p.world.laws.reached; found = p.found; up = p.up; heard = p.heard }) came

-- whom an endpoint leads to
pub leads_who : (hosts : Hosts) (e : Epr) (m : ℕ) (T : Target) → LeadsTo hosts e m T → who_named hosts e ≡ who_at (Some (m, T))
leads_who hosts e m T leads = ap who_at leads

-- a seat is the registration of whom its endpoint leads to
pub has_seat : (hosts : Hosts) (u : World) (n : ℕ) (x : Node) (b : Book) (e : Event) → StepPremises hosts u n x b e → (t : Transaction) (s : Enlistment) (y : Who) → transaction_at b t.id ≡ Some t
    → IsIn s t.seats → who_named hosts s.participant ≡ Some y → HasSeat u (record { node = n; id = t.id }) s.number s.kind y
has_seat hosts u n x b e p t s y found i who =
    subst (λ o. IsIn (record { transaction = record { node = n; id = t.id }; seat = Some (record { number = s.number; kind = s.kind }); participant = o }) u.accepted)
    (who_same u.nodes (new_nodes hosts.base_of hosts.count 1) s.participant p.world.laws.bases ∙ who)
    (one_of (λ (r : Enlistment). IsIn (accepted_seat n u.nodes t.id r) u.accepted) t.seats s
    (all_find (IsEnlisted u n) transaction_id t.id b.transactions t (p.world.laws.seated.enlisted n x b p.found p.up) found).0 i)

-- what a seat says
pub seat_tells : (hosts : Hosts) (u : World) (n : ℕ) (x : Node) (b : Book) (e : Event) → StepPremises hosts u n x b e → IsOutcome hosts u → (t : Transaction) (s : Enlistment)
    → transaction_at b t.id ≡ Some t → IsIn s t.seats → SeatTells hosts u (record { node = n; id = t.id }) s
seat_tells hosts u n x b e p j t s found i =
    one_of (SeatTells hosts u (record { node = n; id = t.id })) t.seats s
    (all_find (TransactionTells hosts u n) transaction_id t.id b.transactions t (subst (λ (c : Book). AllByRecursion (TransactionTells hosts u n) c.transactions) (here x b p.up) (j.says n x p.found)) found) i

-- what a step brings about
pub effect_there : (u : World) (n : ℕ) (x : Node) (b : Book) (e : Event) (now : ℕ) (landed : Bool) (f : Effect) → IsIn f (step b e now landed).effects
    → IsIn (happened_at n f) (counts u n x b e now landed).happened
effect_there u n x b e now landed f i = in_back (happened_at n f) u.happened _ (mapped_in (happened_at n) f (step b e now landed).effects i)

pub happens_now : (u : World) (n : ℕ) (x : Node) (b : Book) (e : Event) (now : ℕ) (landed : Bool) (t : Transaction) (what : Ending) → (step b e now landed).effects ≡ ending t what ∷ []
    → HasEnded (counts u n x b e now landed) (record { node = n; id = t.id }) what
happens_now u n x b e now landed t what is =
    by_ending (counts u n x b e now landed) n t.id t.superior what
    (effect_there u n x b e now landed (ending t what) (subst (IsIn (ending t what)) (sym is) (inl refl)))

commit_happens : (how : How) (t : Transaction) → IsCommit how → happens how t ≡ ending t endings.Committed ∷ []
commit_happens How.Decides t h = refl
commit_happens How.DecidesAlone t h = refl
commit_happens How.Commits t h = refl
commit_happens other t h = absurd h

abort_happens : (how : How) (t : Transaction) → IsAbort how → happens how t ≡ ending t endings.Aborted ∷ []
abort_happens How.Aborts t h = refl
abort_happens How.RollsBack t h = refl
abort_happens other t h = absurd h

pub did_commit : (u : World) (n : ℕ) (x : Node) (b : Book) (e : Event) (now : ℕ) (landed : Bool) (t : Transaction) (how : How) → (step b e now landed).effects ≡ happens how t → IsCommit how
    → HasCommitted (counts u n x b e now landed) (record { node = n; id = t.id })
did_commit u n x b e now landed t how is c = happens_now u n x b e now landed t endings.Committed (is ∙ commit_happens how t c)

pub did_abort : (u : World) (n : ℕ) (x : Node) (b : Book) (e : Event) (now : ℕ) (landed : Bool) (t : Transaction) (how : How) → (step b e now landed).effects ≡ happens how t → IsAbort how
    → HasEnded (counts u n x b e now landed) (record { node = n; id = t.id }) endings.Aborted
did_abort u n x b e now landed t how is a = happens_now u n x b e now landed t endings.Aborted (is ∙ abort_happens how t a)

pub commits_now : (u : World) (n : ℕ) (x : Node) (b : Book) (e : Event) (now : ℕ) (landed : Bool) (entry : Option Record) (d : TransactionDid b e now entry (step b e now landed)) → IsCommit d.deed.how
    → HasCommitted (counts u n x b e now landed) (record { node = n; id = d.old.id })
commits_now u n x b e now landed entry d h = did_commit u n x b e now landed d.old d.deed.how (d.effects_are ∙ d.deed.happened) h

pub aborts_now : (u : World) (n : ℕ) (x : Node) (b : Book) (e : Event) (now : ℕ) (landed : Bool) (entry : Option Record) (d : TransactionDid b e now entry (step b e now landed)) → IsAbort d.deed.how
    → HasEnded (counts u n x b e now landed) (record { node = n; id = d.old.id }) endings.Aborted
aborts_now u n x b e now landed entry d h = did_abort u n x b e now landed d.old d.deed.how (d.effects_are ∙ d.deed.happened) h

-- what a transaction's phase says of how it ended
pub stands_as : (hosts : Hosts) (u : World) (n : ℕ) (x : Node) (b : Book) (e : Event) → StepPremises hosts u n x b e → (t : Transaction) → transaction_at b t.id ≡ Some t
    → TransactionLife x.journal (happened_on n u.happened) t.id t
stands_as hosts u n x b e p t found = life_of x.journal (happened_on n u.happened) t.id (transaction_at b t.id) (leaf_at b t.id) t (life_at hosts u n x b e p t.id) found

pub committing : (hosts : Hosts) (u : World) (n : ℕ) (x : Node) (b : Book) (e : Event) → StepPremises hosts u n x b e → (t : Transaction) → transaction_at b t.id ≡ Some t → t.phase ≡ Phase.Committing
    → HasCommitted u (record { node = n; id = t.id })
committing hosts u n x b e p t found is = commits_here u n x.journal t.id t (stands_as hosts u n x b e p t found) is

pub aborting : (hosts : Hosts) (u : World) (n : ℕ) (x : Node) (b : Book) (e : Event) → StepPremises hosts u n x b e → (t : Transaction) → transaction_at b t.id ≡ Some t → t.phase ≡ Phase.Aborting
    → HasAborted u (record { node = n; id = t.id })
aborting hosts u n x b e p t found is = aborts_here u n x.journal t.id t refl (stands_as hosts u n x b e p t found) is
