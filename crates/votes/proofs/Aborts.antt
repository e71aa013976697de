-- Behind its vote Prepared a participant aborts only under a transaction that has aborted.
use Rattle.std.specs.Prelude.{ℕ, List, [], ◌∷◌, Option, Some, None, true, false, option_map, ◌≡◌, ◌⊎◌, refl}
use Rattle.std.proofs.Common.{inl, inr, sym, subst, ap, ◌∙◌}
use Rattle.at_base.specs.Numbers.{Numbers}
use Rattle.at_base.specs.declared.epr.Epr.{Epr}
use Rattle.at_base.specs.declared.event.Arrived.{Arrived}
use Rattle.at_base.specs.declared.event.Event.{Event}
use Rattle.at_base.specs.declared.event.Event.TheVariants as events
use Rattle.at_base.specs.declared.event.Moment.{Moment}
use Rattle.at_base.specs.declared.notice.Kind.TheVariants as kinds
use Rattle.at_base.specs.declared.notice.Notice.TheVariants as notices
use Rattle.at_base.specs.declared.message.Message.TheVariants as messages
use Rattle.at_base.specs.declared.outs.Effect.{Effect}
use Rattle.at_base.specs.declared.outs.Ending.{Ending}
use Rattle.at_base.specs.declared.outs.Ending.TheVariants as endings
use Rattle.at_base.specs.declared.record.Record.{Record}
use Rattle.at_base.specs.declared.record.Record.TheVariants as records
use Rattle.at_base.specs.declared.record.Seated.{Seated}
use Rattle.at_base.specs.declared.target.Target.TheVariants as targets
use Rattle.at_tables.specs.declared.cells.State.TheVariants as states
use Rattle.at_model.specs.Book.{Book, Enlistment, Leaf, Phase, Superior, Transaction}
use Rattle.at_model.specs.Leaves.{leaf_ended}
use Rattle.at_model.specs.Moves.{Change}
use Rattle.at_model.specs.Seats.{ending, ending_of, prepared as prepared_seats}
use Rattle.at_model.specs.Step.{leaf_at, transaction_at}
use Rattle.at_model.specs.World.{Node, World, nth, Hosts}
use Rattle.model_laws.specs.Agreement.{HasCommitted, IsIn}
use Rattle.agreement.specs.Deeds.{How, IsHeard, StoodFor, SuperiorSaid, happens, recorded, superior_at}
use Rattle.agreement.specs.LeafDeeds.{LeafDeed, aborts, commits, dropped, idles, leaves, prepares, rolls_back}
use Rattle.agreement.specs.Lives.{Life, PromisesNothing, ends, happened_on}
use Rattle.agreement.proofs.LeafLives.{LeafLife, leaf_alone, prepared, unrecorded}
use Rattle.agreement.proofs.SeatedEntries.{one_of}
use Rattle.agreement.proofs.OtherIds.{promise_id}
use Rattle.agreement.proofs.TransactionLives.{TransactionLife, aborted, committed, decided, undecided, voted}
use Rattle.enlistments.specs.Leads.{LeadsTo}
use Rattle.enlistments.proofs.Arrivals.{HasCome}
use Rattle.votes.specs.ToldOutcomes.{IsUnderAborted, RollbackIsBacked}
use Rattle.votes.specs.VotesAndOutcomes.{IsOutcome}
use Rattle.votes.specs.DurableVotes.{HasVoted, is_vote}
use Rattle.votes.proofs.ItemEnds.{is_open, not_ended}
use Rattle.votes.proofs.SingleVotes.{is_promised, same_node}
use Rattle.votes.proofs.StepItems.{came_by, life_at, stands_as}
use Rattle.votes.proofs.NewVotes.{IsEnd}
use Rattle.votes.proofs.Premises.{StepPremises}

-- an end of a transaction or of a leaf, by its effect
pub ending_is : (s : Option Superior) (id i : Numbers) (what other : Ending) → IsEnd i other (ending_of s id what) → (what ≡ other) × (id ≡ i)
ending_is None id i what other (inl e) = (cc, cc)
ending_is None id i what other (inr (inl e)) = absurd cc
ending_is None id i what other (inr (inr e)) = absurd cc
ending_is (Some s) id i what other (inl e) = absurd cc
ending_is (Some s) id i what other (inr (inl e)) = (cc, cc)
ending_is (Some s) id i what other (inr (inr e)) = absurd cc

pub leaf_end_is : (l : Leaf) (i : Numbers) (what other : Ending) → IsEnd i other (leaf_ended l what) → (what ≡ other) × (l.id ≡ i) × (l.kind ≡ kinds.Durable)
leaf_end_is l i what other (inl e) = absurd cc
leaf_end_is l i what other (inr (inl e)) = absurd cc
leaf_end_is l i what other (inr (inr e)) = (cc, cc, cc)

-- it isn't a commit
abbrev pub IsBad : Ending → Type 0
IsBad what = (what ≡ endings.Aborted) ⊎ (what ≡ endings.Lost)

pub no_good : (what : Ending) → IsBad what → endings.Committed ≡ what → ⊥
no_good what (inl f) e = let g : endings.Committed ≡ endings.Aborted = e ∙ f in cc
no_good what (inr f) e = let g : endings.Committed ≡ endings.Lost = e ∙ f in cc

pub only_one : (f g : Effect) → IsIn f (g ∷ []) → f ≡ g
only_one f g (inl e) = e
only_one f g (inr i) = absurd i

-- which deeds abort
pub record AbortsBy (how : How) (t : Transaction) (i : Numbers) : Type 0 where
  pub by : (how ≡ How.Aborts) ⊎ (how ≡ How.RollsBack)
  pub own : t.id ≡ i

aborting_effect : (t : Transaction) (what other : Ending) (i : Numbers) (f : Effect) → IsIn f (ending t what ∷ []) → IsEnd i other f → (what ≡ other) × (t.id ≡ i)
aborting_effect t what other i f k e = ending_is t.superior t.id i what other (subst (IsEnd i other) (only_one f (ending t what) k) e)

pub aborts_by : (how : How) (t : Transaction) (i : Numbers) (what : Ending) (f : Effect) → IsBad what → IsIn f (happens how t) → IsEnd i what f → AbortsBy how t i
aborts_by How.Aborts t i what f bad k e = record { by = inl refl; own = (aborting_effect t endings.Aborted what i f k e).1 }
aborts_by How.RollsBack t i what f bad k e = record { by = inr refl; own = (aborting_effect t endings.Aborted what i f k e).1 }
aborts_by How.Decides t i what f bad k e = absurd (no_good what bad (aborting_effect t endings.Committed what i f k e).0)
aborts_by How.DecidesAlone t i what f bad k e = absurd (no_good what bad (aborting_effect t endings.Committed what i f k e).0)
aborts_by How.Commits t i what f bad k e = absurd (no_good what bad (aborting_effect t endings.Committed what i f k e).0)
aborts_by other t i what f bad k e = absurd k

-- which records are votes
pub record VotesBy (how : How) (t : Transaction) (i : Numbers) : Type 0 where
  pub by : how ≡ How.Votes
  pub own : t.id ≡ i

vote_named : (t : Transaction) (o : Option Epr) (named : List Seated) (r : Record) (i : Numbers) → option_map (λ superior. records.Voted t.id superior named) o ≡ Some r → is_vote i r ≡ true → t.id ≡ i
vote_named t None named r i e vote = absurd cc
vote_named t (Some superior) named r i e vote =
    let same : records.Voted t.id superior named ≡ r = cc in
    let its : is_vote i (records.Voted t.id superior named) ≡ true = ap (is_vote i) same ∙ vote in
    promise_id i (records.Voted t.id superior named) (is_promised i (records.Voted t.id superior named) its)

pub no_vote : (r s : Record) (i : Numbers) → Some s ≡ Some r → is_vote i s ≡ false → is_vote i r ≡ true → ⊥
no_vote r s i e none vote =
    let same : s ≡ r = cc in
    let f : false ≡ true = sym none ∙ ap (is_vote i) same ∙ vote in cc

pub no_record : (r : Record) → None ≡ Some r → ⊥
no_record r e = cc

pub votes_by : (how : How) (t : Transaction) (at : List Enlistment) (r : Record) (i : Numbers) → recorded how t at ≡ Some r → is_vote i r ≡ true → VotesBy how t i
votes_by How.Votes t at r i e vote = record { by = refl; own = vote_named t (superior_at t.superior) (prepared_seats at) r i e vote }
votes_by How.Decides t at r i e vote = absurd (no_vote r _ i e refl vote)
votes_by How.DecidesAlone t at r i e vote = absurd (no_vote r _ i e refl vote)
votes_by How.Commits t at r i e vote = absurd (no_vote r _ i e refl vote)
votes_by How.RollsBack t at r i e vote = absurd (no_vote r _ i e refl vote)
votes_by How.Ends t at r i e vote = absurd (no_vote r _ i e refl vote)
votes_by other t at r i e vote = absurd (no_record r e)

-- a vote that stands is a promise
pub unpromised_vote : (u : World) (n : ℕ) (x : Node) (id : Numbers) → nth n u.nodes ≡ Some x → PromisesNothing id x.journal → HasVoted u (record { node = n; id = id }) → ⊥
unpromised_vote u n x id found nothing (r, (y, there, i), vote) =
    nothing r (subst (λ (z : Node). IsIn r z.journal) (same_node y x (nth n u.nodes) there found) i) (is_promised id r vote)

never_committed : (u : World) (n : ℕ) (id : Numbers) → ends id (happened_on n u.happened) ≡ [] → HasCommitted u (record { node = n; id = id }) → ⊥
never_committed u n id none c = not_ended u n id none endings.Committed c

voted_unended : (rs : List Record) (fx : List Effect) (id : Numbers) (t : Transaction) → TransactionLife rs fx id t → t.phase ≡ Phase.Voted → ends id fx ≡ []
voted_unended rs fx id t (undecided o nothing k) e = k
voted_unended rs fx id t (voted superior seats p r h out k) e = k
voted_unended rs fx id t (decided seats p r h k) e = let f : Phase.Committing ≡ Phase.Voted = sym p ∙ e in absurd cc
voted_unended rs fx id t (committed superior seats p r h i k) e = let f : Phase.Committing ≡ Phase.Voted = sym p ∙ e in absurd cc
voted_unended rs fx id t (aborted p dead k) e = let f : Phase.Aborting ≡ Phase.Voted = sym p ∙ e in absurd cc

-- a Rollback that came to a durable participant that hasn't ended
pub rolled_back_by : (hosts : Hosts) (u : World) (n : ℕ) (x : Node) (b : Book) (e : Event) → StepPremises hosts u n x b e → IsOutcome hosts u → (a : Arrived) → e ≡ events.Arrived a → (id : Numbers)
    → a.target ≡ targets.Participant id kinds.Durable → a.message ≡ messages.Notice notices.Rollback → (HasCommitted u (record { node = n; id = id }) → ⊥) → IsUnderAborted u (record { node = n; id = id })
rolled_back_by hosts u n x b e p j a came id target says never =
    let w : HasCome hosts u n a = came_by hosts u n x b e p a came in
    either (one_of (λ q. RollbackIsBacked hosts u q.content) u.posted w.posted j.rollbacks w.stands w.to n id (w.message ∙ says) w.sent (subst (LeadsTo hosts w.to n) target w.leads))
  where
    either : HasCommitted u (record { node = n; id = id }) ⊎ IsUnderAborted u (record { node = n; id = id }) → IsUnderAborted u (record { node = n; id = id })
    either (inl c) = absurd (never c)
    either (inr h) = h

-- a transaction that aborts
pub transaction_aborts : (hosts : Hosts) (u : World) (n : ℕ) (x : Node) (b : Book) (e : Event) → StepPremises hosts u n x b e → IsOutcome hosts u → (t : Transaction) (how : How)
    → transaction_at b t.id ≡ Some t → StoodFor how t → IsHeard how e t → (how ≡ How.Aborts) ⊎ (how ≡ How.RollsBack) → HasVoted u (record { node = n; id = t.id })
    → IsUnderAborted u (record { node = n; id = t.id })
transaction_aborts hosts u n x b e p j t how found stood heard (inl is) votes =
    absurd (unpromised_vote u n x t.id p.found
    (is_open x.journal (happened_on n u.happened) t.id t (stands_as hosts u n x b e p t found) (subst (λ h. StoodFor h t) is stood)).nothing votes)
transaction_aborts hosts u n x b e p j t how found stood heard (inr is) votes =
    let said : SuperiorSaid kinds.Durable notices.Rollback e t = subst (λ h. IsHeard h e t) is heard in
    rolled_back_by hosts u n x b e p j said.message said.came t.id said.target said.says
    (never_committed u n t.id (voted_unended x.journal (happened_on n u.happened) t.id t (stands_as hosts u n x b e p t found) (subst (λ h. StoodFor h t) is stood).0))

-- a leaf
pub leaf_stands : (hosts : Hosts) (u : World) (n : ℕ) (x : Node) (b : Book) (e : Event) → StepPremises hosts u n x b e → (l : Leaf) → leaf_at b l.id ≡ Some l → LeafLife x.journal (happened_on n u.happened) l.id l
leaf_stands hosts u n x b e p l found =
    (leaf_alone x.journal (happened_on n u.happened) l.id (transaction_at b l.id) l
    (subst (λ o. Life x.journal (happened_on n u.happened) l.id (transaction_at b l.id) o) found (life_at hosts u n x b e p l.id))).life

pub leaf_unended : (rs : List Record) (fx : List Effect) (id : Numbers) (l : Leaf) → LeafLife rs fx id l → ends id fx ≡ []
leaf_unended rs fx id l (unrecorded o nothing k) = k
leaf_unended rs fx id l (prepared coordinator key value d o h k) = k

pub leaf_unpromised : (rs : List Record) (fx : List Effect) (id : Numbers) (l : Leaf) → LeafLife rs fx id l → (l.state ≡ states.Registering) ⊎ (l.state ≡ states.Active) → PromisesNothing id rs
leaf_unpromised rs fx id l (unrecorded o nothing k) e = nothing
leaf_unpromised rs fx id l (prepared coordinator key value d o h k) (inl e) = let f : states.PreparedSuccess ≡ states.Registering = sym o ∙ e in absurd cc
leaf_unpromised rs fx id l (prepared coordinator key value d o h k) (inr e) = let f : states.PreparedSuccess ≡ states.Active = sym o ∙ e in absurd cc

pub none_in : (f : Effect) (es gs : List Effect) → es ≡ gs → gs ≡ [] → IsIn f es → ⊥
none_in f es gs e g i = subst (IsIn f) (e ∙ g) i

pub leaf_aborts : (hosts : Hosts) (u : World) (n : ℕ) (x : Node) (b : Book) (e : Event) → StepPremises hosts u n x b e → IsOutcome hosts u → (m : Moment) (l : Leaf) (entry : Option Record) (c : Change Leaf)
    → leaf_at b l.id ≡ Some l → LeafDeed m e l entry c → (what : Ending) (f : Effect) (id : Numbers) → IsBad what → IsIn f c.effects → IsEnd id what f → HasVoted u (record { node = n; id = id })
    → IsUnderAborted u (record { node = n; id = id })
leaf_aborts hosts u n x b e p j m l entry c found (idles left is none on none_happened) what f id bad i its votes = absurd (none_in f c.effects [] none_happened refl i)
leaf_aborts hosts u n x b e p j m l entry c found (aborts state why none gone happened) what f id bad i its votes =
    let (same, own, durable) = leaf_end_is l id endings.Aborted what (subst (IsEnd id what) (only_one f (leaf_ended l endings.Aborted) (subst (IsIn f) happened i)) its) in
    absurd (unpromised_vote u n x l.id p.found (leaf_unpromised x.journal (happened_on n u.happened) l.id l (leaf_stands hosts u n x b e p l found) state)
    (subst (λ k. HasVoted u (record { node = n; id = k })) (sym own) votes))
leaf_aborts hosts u n x b e p j m l entry c found (prepares to came state vote known records on none_happened posted) what f id bad i its votes = absurd (none_in f c.effects [] none_happened refl i)
leaf_aborts hosts u n x b e p j m l entry c found (leaves to came state vote known none gone none_happened posted) what f id bad i its votes = absurd (none_in f c.effects [] none_happened refl i)
leaf_aborts hosts u n x b e p j m l entry c found (dropped came kind none gone none_happened posted) what f id bad i its votes = absurd (none_in f c.effects [] none_happened refl i)
leaf_aborts hosts u n x b e p j m l entry c found (commits to came state known records gone happened posted) what f id bad i its votes =
    absurd (no_good what bad (leaf_end_is l id endings.Committed what (subst (IsEnd id what) (only_one f (leaf_ended l endings.Committed) (subst (IsIn f) happened i)) its)).0)
leaf_aborts hosts u n x b e p j m l entry c found (rolls_back to came state known records gone happened posted) what f id bad i its votes =
    let (same, own, durable) = leaf_end_is l id endings.Aborted what (subst (IsEnd id what) (only_one f (leaf_ended l endings.Aborted) (subst (IsIn f) happened i)) its) in
    subst (λ k. IsUnderAborted u (record { node = n; id = k })) own
    (rolled_back_by hosts u n x b e p j came.arrived came.event l.id (came.target ∙ ap (λ k. targets.Participant l.id k) durable) came.message
    (never_committed u n l.id (leaf_unended x.journal (happened_on n u.happened) l.id l (leaf_stands hosts u n x b e p l found))))
