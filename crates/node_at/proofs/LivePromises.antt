-- The promises of a book stay live over a step.
use Rattle.std.proofs.Common.{ℕ, List, filter, [], ◌∷◌, ◌≡◌, ◌⊎◌, inl, inr, ⊎_elim, Bool, true, false, not, Option, Some, None, refl, sym, ◌∙◌, ap, subst, map, option_map, is_none, true≢false, ◌&&◌, ◌||◌, if◌then◌else◌, length, nat_lt, bytes_eq}
use Rattle.std.specs.List.{AllByRecursion, list_any}
use Rattle.at_base.specs.declared.limits.TheConstants.{MOST_ITEMS}
use Rattle.at_base.specs.Numbers.{Numbers}
use Rattle.at_base.specs.declared.epr.Epr.{Epr}
use Rattle.at_base.specs.declared.epr.Reply.{Reply}
use Rattle.at_base.specs.declared.epr.Reply.TheVariants as replies
use Rattle.at_base.specs.declared.event.Arrived.{Arrived}
use Rattle.at_base.specs.declared.event.Event.{Event}
use Rattle.at_base.specs.declared.event.Moment.{Moment}
use Rattle.at_base.specs.declared.message.Context.{Context}
use Rattle.at_base.specs.declared.message.Create.{Create}
use Rattle.at_base.specs.declared.message.Register.{Register}
use Rattle.at_base.specs.declared.message.Work.{Work}
use Rattle.at_base.specs.declared.notice.Kind.{Kind}
use Rattle.at_base.specs.declared.notice.Kind.TheVariants as kinds
use Rattle.at_base.specs.declared.outs.Out.{Out}
use Rattle.at_base.specs.declared.outs.Post.{Post}
use Rattle.at_base.specs.declared.record.Record.{Record}
use Rattle.at_base.specs.declared.record.Record.TheVariants as records
use Rattle.at_tables.specs.Names.{is_state}
use Rattle.at_base.specs.Names.{is_kind}
use Rattle.at_tables.specs.declared.cells.State.{State}
use Rattle.at_tables.specs.declared.cells.State.TheVariants as states
use Rattle.endpoints.specs.Addresses.{atomic}
use Rattle.at_model.specs.Arrivals.{with_answer}
use Rattle.at_model.specs.Book.{Activity, Book, Completion, Enlistment, Leaf, Phase, Superior, Transaction, is_id, leaf_id, put_by, transaction_id}
use Rattle.at_model.specs.Create.{create_in, create_under, on_create, refuse_create}
use Rattle.at_model.specs.Due.{may_expire}
use Rattle.at_model.specs.Leaves.{on_work, refuse_work, work_for}
use Rattle.at_model.specs.Moves.{Change, Decision, Goes, Records}
use Rattle.at_model.specs.Outcomes.{with_outcome}
use Rattle.at_model.specs.Recovery.{ends_leaf, ends_transaction, is_before, no_seats}
use Rattle.at_model.specs.Register.{Registration}
use Rattle.at_model.specs.Seats.{is_of, is_prepared_durable, prepared, seated}
use Rattle.at_model.specs.Step.{Outcome, Plan, at_time, is_committing, moment_of, plan, plan_of, put_activity, put_leaf, put_transaction, step}
use Rattle.model_laws.specs.Agreement.{IsIn}
use Rattle.model_laws.specs.PhaseAnswers.{DecidesBehindEveryAnswer}
use Rattle.model_laws.specs.Laws.{MakesUnderTheNextId}
use Rattle.model_laws.specs.Links.{AreLinked}
use Rattle.model_laws.specs.Order.{AreRising, IdsRise}
use Rattle.model_laws.specs.Shapes.{Shape, StepsTouchOne, nothing_moves, time_moves, time_passes, transaction_moves, leaf_moves, activity_moves, transaction_registers, transaction_made, leaf_made, activity_made}
use Rattle.agreement.specs.ActivityDeeds.{ActivityDeed, ActivityStates}
use Rattle.agreement.specs.ActivityDeeds.ActivityDeed.{idles as activity_idles, tells as activity_tells}
use Rattle.agreement.specs.Deeds.{Becomes, How, IsSame, IsSameIfLeft, StandsOn, StoodFor, recorded, superior_at}
use Rattle.agreement.specs.Deeds.How.{Idles, Aborts, Votes, Decides, DecidesAlone, Leaves, Commits, RollsBack, Ends, Forgets}
use Rattle.agreement.specs.FinishedTransactions.{FinishesAll}
use Rattle.agreement.specs.LeafDeeds.{LeafDeed, LeafIdles, LeafStates, for_durable}
use Rattle.agreement.specs.LeafDeeds.LeafDeed.{idles, aborts, prepares, leaves as leaves_early, dropped, commits, rolls_back}
use Rattle.agreement.specs.LeafDeeds.LeafIdles.{rests, registered as has_registered, registers_again, votes_again}
use Rattle.enlistments.specs.Registrations.{Enrolls, takes_seat, takes_completion, has_seat, has_completion, refuses}
use Rattle.enlistments.specs.Moves.{IsReady, LeafDid, Moved, StepsMove, TransactionDid}
use Rattle.enlistments.specs.Moves.Moved.{transaction_did, leaf_did, activity_did, registered, transaction_made as made_transaction, leaf_made as made_leaf, activity_made as made_activity, answered, rested}
use Rattle.owed.specs.Shape.{BooksAreShaped, IsShaped, RootStands, StandsUnder, Waits, suits}
use Rattle.decision_log.specs.KeptState.{IsAmong}
use Rattle.decision_log.specs.KeptRecords.{Known, ends_kind, freed, frees, insert_last, is_commit_of, is_kind_commit, is_kind_vote, is_vote_of, live_after, stays, tokens_of}
use Rattle.decision_log.specs.Tokens.{Token, about, token_of}
use Rattle.decision_log.specs.declared.token.What.{What}
use Rattle.decision_log.specs.declared.token.What.TheVariants as whats
use Rattle.node_at.specs.Promises.{IsLeafPromised, IsPromised, PromisesStand, Stands}
use Rattle.node_at.specs.Steps.{if_landed, kept_by}
use Rattle.node_at.proofs.OutPromises.{is_some, same_entry}
use Rattle.node_at.proofs.DistinctIds.{moved_apart}
use Rattle.node_at.proofs.IdFacts.{IfThere, all_find, all_in, all_join, both_ways, found_in, is_other, same_id, self_id, unmapped}

-- What one record more leaves of the tokens.
kept_among : (r : Record) (xs : List Record) (t : Token) → IsAmong t (tokens_of xs) → frees r t ≡ false → IsAmong t (tokens_of (freed r xs))
kept_among r [] t h f = absurd h
kept_among r (x ∷ xs) t (inl e) f = by (frees r (token_of x)) refl where
  by : (b : Bool) → frees r (token_of x) ≡ b → IsAmong t (tokens_of (if not b then x ∷ freed r xs else freed r xs))
  by false g = inl e
  by true g = absurd (true≢false (sym g ∙ ap (frees r) e ∙ f))
kept_among r (x ∷ xs) t (inr h) f = by (frees r (token_of x)) (kept_among r xs t h f) where
  by : (b : Bool) → IsAmong t (tokens_of (freed r xs)) → IsAmong t (tokens_of (if not b then x ∷ freed r xs else freed r xs))
  by false k = inr k
  by true k = k

inserted_old : (r : Record) (xs : List Record) (t : Token) → IsAmong t (tokens_of xs) → IsAmong t (tokens_of (insert_last about r xs))
inserted_old r [] t h = absurd h
inserted_old r (x ∷ xs) t h = by (is_before (about r) (about x)) h (inserted_old r xs t) where
  by : (b : Bool) → IsAmong t (tokens_of (x ∷ xs)) → (IsAmong t (tokens_of xs) → IsAmong t (tokens_of (insert_last about r xs)))
      → IsAmong t (tokens_of (if b then r ∷ (x ∷ xs) else x ∷ insert_last about r xs))
  by true k g = inr k
  by false (inl e) g = inl e
  by false (inr k) g = inr (g k)

inserted_new : (r : Record) (xs : List Record) → IsAmong (token_of r) (tokens_of (insert_last about r xs))
inserted_new r [] = inl refl
inserted_new r (x ∷ xs) = by (is_before (about r) (about x)) (inserted_new r xs) where
  by : (b : Bool) → IsAmong (token_of r) (tokens_of (insert_last about r xs)) → IsAmong (token_of r) (tokens_of (if b then r ∷ (x ∷ xs) else x ∷ insert_last about r xs))
  by true k = inl refl
  by false k = inr k

after_old : (r : Record) (xs : List Record) (t : Token) → IsAmong t (tokens_of xs) → frees r t ≡ false → IsAmong t (tokens_of (live_after r xs))
after_old r xs t h f = by (stays r (tokens_of xs)) (kept_among r xs t h f) where
  by : (b : Bool) → IsAmong t (tokens_of (freed r xs)) → IsAmong t (tokens_of (if b then insert_last about r (freed r xs) else freed r xs))
  by true k = inserted_old r (freed r xs) t k
  by false k = k

after_new : (r : Record) (xs : List Record) → stays r (tokens_of xs) ≡ true → IsAmong (token_of r) (tokens_of (live_after r xs))
after_new r xs e = subst (λ b. IsAmong (token_of r) (tokens_of (if b then insert_last about r (freed r xs) else freed r xs))) (sym e) (inserted_new r (freed r xs))

-- A record frees nothing of another id.
not_id : (a b : Numbers) → (a ≡ b → ⊥) → is_id a b ≡ false
not_id a b h = by (is_id a b) refl where
  by : (t : Bool) → is_id a b ≡ t → t ≡ false
  by true e = absurd (h (same_id a b e))
  by false e = refl

no_leaf_end : (id : Numbers) (r : Record) → (about r ≡ id → ⊥) → ends_leaf id r ≡ false
no_leaf_end id (records.Start n) h = refl
no_leaf_end id (records.LeafPrepared i coordinator key value) h = ap (λ b. b || (false || false)) (not_id i id h)
no_leaf_end id (records.LeafCommitted i) h = ap (λ b. b || false) (not_id i id h)
no_leaf_end id (records.LeafAborted i) h = ap (λ b. b || false) (not_id i id h)
no_leaf_end id (records.Voted i superior seats) h = ap (λ b. b || false) (not_id i id h)
no_leaf_end id (records.Decided i seats) h = not_id i id h
no_leaf_end id (records.SubCommitted i) h = refl
no_leaf_end id (records.Ended i) h = refl
no_leaf_end id (records.Done i) h = refl

no_end : (id : Numbers) (r : Record) → (about r ≡ id → ⊥) → ends_transaction id r ≡ false
no_end id (records.Start n) h = refl
no_end id (records.LeafPrepared i coordinator key value) h = ap (λ b. b || (false || false)) (not_id i id h)
no_end id (records.LeafCommitted i) h = refl
no_end id (records.LeafAborted i) h = refl
no_end id (records.Voted i superior seats) h = ap (λ b. b || false) (not_id i id h)
no_end id (records.Decided i seats) h = not_id i id h
no_end id (records.SubCommitted i) h = refl
no_end id (records.Ended i) h = ap (λ b. b || false) (not_id i id h)
no_end id (records.Done i) h = refl

frees_none : (what : What) (id : Numbers) (r : Record) → (about r ≡ id → ⊥) → ends_kind what id r ≡ false
frees_none whats.LeafPrepared id r h = no_leaf_end id r h
frees_none whats.Voted id r h = no_end id r h
frees_none whats.Decided id r h = no_end id r h
frees_none whats.SubCommitted id r h = no_end id r h
frees_none whats.Start id r h = refl
frees_none whats.LeafCommitted id r h = refl
frees_none whats.LeafAborted id r h = refl
frees_none whats.Ended id r h = refl
frees_none whats.Done id r h = refl

-- the tokens behind a step's record
abbrev behind : Option Record → Known → List Token
behind entry k = tokens_of (kept_by entry k).live

abbrev IsOfOther : Option Record → Numbers → Type 0
IsOfOther None id = Unit {0}
IsOfOther (Some r) id = about r ≡ id → ⊥

stands_on : (entry : Option Record) (k : Known) (id : Numbers) (what : What) → IsOfOther entry id → Stands (tokens_of k.live) id what → Stands (behind entry k) id what
stands_on None k id what h s = s
stands_on (Some r) k id what h s = after_old r k.live (record { id = id; what = what }) s (frees_none what id r h)

-- What a phase stands for: a vote, and the decision or the commit.
abbrev pub Holds : List Token → Transaction → Type 0
Holds ts t =
    (t.phase ≡ Phase.Voted → Stands ts t.id whats.Voted)
    × (t.phase ≡ Phase.Committing → Stands ts t.id whats.Decided ⊎ ((is_none t.superior ≡ false) × Stands ts t.id whats.SubCommitted))

holds_more : (ts us : List Token) (t : Transaction) → ((what : What) → Stands ts t.id what → Stands us t.id what) → Holds ts t → Holds us t
holds_more ts us t f (h, k) = (λ e. f whats.Voted (h e), λ e. ⊎_elim (λ z. inl (f whats.Decided z)) (λ z. inr (z.0, f whats.SubCommitted z.1)) (k e))

-- an item that is the same but for what a phase doesn't speak of
holds_as : (ts : List Token) (t x : Transaction) → x.id ≡ t.id → x.phase ≡ t.phase → is_none x.superior ≡ is_none t.superior → Holds ts t → Holds ts x
holds_as ts t x own phase root (h, k) = (
  λ e. subst (λ z. Stands ts z whats.Voted) (sym own) (h (sym phase ∙ e)),
  λ e. ⊎_elim (λ z. inl (subst (λ y. Stands ts y whats.Decided) (sym own) z)) (λ z. inr (root ∙ z.0, subst (λ y. Stands ts y whats.SubCommitted) (sym own) z.1)) (k (sym phase ∙ e)),
)

holds_nothing : (ts : List Token) (t : Transaction) → (t.phase ≡ Phase.Voted → ⊥) → (t.phase ≡ Phase.Committing → ⊥) → Holds ts t
holds_nothing ts t h k = (λ e. absurd (h e), λ e. absurd (k e))

-- That is what is promised, where the transaction stands as its phase wants.
is_committing_durable : (k : Kind) (s : State) → (is_kind k kinds.Durable && is_state s states.Committing) ≡ true → (k ≡ kinds.Durable) × (s ≡ states.Committing)
is_committing_durable kinds.Volatile s e = absurd cc
is_committing_durable kinds.Durable states.Committing e = (refl, refl)
is_committing_durable kinds.Durable states.None e = absurd cc
is_committing_durable kinds.Durable other e = absurd cc

record IsTold (seats : List Enlistment) : Type 0 where
  seat : Enlistment
  there : IsIn seat seats
  durable : seat.kind ≡ kinds.Durable
  committing : seat.state ≡ states.Committing

told_there : (seats : List Enlistment) → list_any (is_of kinds.Durable states.Committing) seats ≡ true → IsTold seats
told_there [] e = absurd cc
told_there (s ∷ ss) e = by (is_of kinds.Durable states.Committing s) refl e (told_there ss) where
  by : (b : Bool) → is_of kinds.Durable states.Committing s ≡ b → (b || list_any (is_of kinds.Durable states.Committing) ss) ≡ true
      → (list_any (is_of kinds.Durable states.Committing) ss ≡ true → IsTold ss) → IsTold (s ∷ ss)
  by true g f more = let (k, l) = is_committing_durable s.kind s.state g in record { seat = s; there = inl refl; durable = k; committing = l }
  by false g f more = let m = more f in record { seat = m.seat; there = inr m.there; durable = m.durable; committing = m.committing }

holds_of : (ts : List Token) (t : Transaction) → IsPromised ts t → IsShaped t → Holds ts t
holds_of ts t h shape = (h.voted, commits_of) where
  by : (s : Option Superior) → t.superior ≡ s → t.phase ≡ Phase.Committing → Stands ts t.id whats.Decided ⊎ Stands ts t.id whats.SubCommitted
      → Stands ts t.id whats.Decided ⊎ ((is_none t.superior ≡ false) × Stands ts t.id whats.SubCommitted)
  by None is e k = inl (h.decided (λ i. is_none (is i) && is_committing (e i)))
  by (Some s) is e (inl k) = inl k
  by (Some s) is e (inr k) = inr (ap is_none is, k)

  commits_of : t.phase ≡ Phase.Committing → Stands ts t.id whats.Decided ⊎ ((is_none t.superior ≡ false) × Stands ts t.id whats.SubCommitted)
  commits_of e =
      let told = told_there t.seats (subst (λ p. Waits p t.seats) e shape.1.0) in
      by t.superior refl e (h.told told.seat told.there told.durable told.committing)

committing_suits : (phase : Phase) (kind : Kind) → suits phase kind states.Committing ≡ true → phase ≡ Phase.Committing
committing_suits Phase.Registering kind e = absurd cc
committing_suits Phase.Active kinds.Volatile e = absurd cc
committing_suits Phase.Active kinds.Durable e = absurd cc
committing_suits Phase.Volatile kinds.Volatile e = absurd cc
committing_suits Phase.Volatile kinds.Durable e = absurd cc
committing_suits Phase.Durable kinds.Volatile e = absurd cc
committing_suits Phase.Durable kinds.Durable e = absurd cc
committing_suits Phase.Voted kind e = absurd cc
committing_suits Phase.Committing kind e = refl
committing_suits Phase.Aborting kind e = absurd cc

done_root : (phase : Phase) (c : Completion) → c.state ≡ states.Done → RootStands phase (Some c) → phase ≡ Phase.Committing
done_root Phase.Registering c e h = absurd h
done_root Phase.Active c e h = let f : states.Done ≡ states.Active = sym e ∙ h in absurd cc
done_root Phase.Volatile c e h = let f : states.Done ≡ states.Completing = sym e ∙ h.0 in absurd cc
done_root Phase.Durable c e h = let f : states.Done ≡ states.Completing = sym e ∙ h.0 in absurd cc
done_root Phase.Voted c e h = absurd h
done_root Phase.Committing c e h = refl
done_root Phase.Aborting c e h = let f : states.Done ≡ states.None = sym e ∙ h in absurd cc

is_in : {A : Type 0} (P : A → Type 0) (xs : List A) (x : A) → AllByRecursion P xs → IsIn x xs → P x
is_in P [] x h k = absurd k
is_in P (y ∷ ys) x (h, hs) (inl e) = subst P (sym e) h
is_in P (y ∷ ys) x (h, hs) (inr k) = is_in P ys x hs k

is_committing_phase : (p : Phase) → is_committing p ≡ true → p ≡ Phase.Committing
is_committing_phase Phase.Committing e = refl
is_committing_phase Phase.Registering e = absurd cc
is_committing_phase other e = absurd cc

both_true : (a b : Bool) → (a && b) ≡ true → (a ≡ true) × (b ≡ true)
both_true true b e = (refl, e)
both_true false b e = absurd cc

abbrev IsSome : {A : Type 0} → Option A → Type 0
IsSome None = ⊥
IsSome (Some x) = Unit {0}

pub promised_of : (ts : List Token) (t : Transaction) → Holds ts t → IsShaped t → AreLinked t.phase t.superior t.completion → IsPromised ts t
promised_of ts t (voted, committing) shape linked = record {
  voted = voted;
  told = λ s there durable is.
      ⊎_elim (λ z. inl z) (λ z. inr z.1) (committing (committing_suits t.phase s.kind (subst (λ z. suits t.phase s.kind z ≡ true) is (is_in (λ x. suits t.phase x.kind x.state ≡ true) t.seats s shape.0 there))));
  decided = λ is.
      let (root, phase) = both_true (is_none t.superior) (is_committing t.phase) is in
      ⊎_elim (λ z. z) (λ z. absurd (both_ways (is_none t.superior) root z.0)) (committing (is_committing_phase t.phase phase));
  done = λ c is state. by t.superior refl c is state;
} where
  by : (s : Option Superior) → t.superior ≡ s → (c : Completion) → t.completion ≡ Some c → c.state ≡ states.Done → Stands ts t.id whats.Decided
  by None none c is state =
      let stands : RootStands t.phase (Some c) = subst (λ z. StandsUnder t.phase None z) is (subst (λ z. StandsUnder t.phase z t.completion) none shape.1.1) in
      ⊎_elim (λ z. z) (λ z. absurd (both_ways (is_none t.superior) (ap is_none none) z.0)) (committing (done_root t.phase c state stands))
  by (Some s) some c is state =
      let l : AreLinked t.phase (Some s) t.completion = subst (λ z. AreLinked t.phase z t.completion) some linked in
      absurd (subst IsSome (sym is ∙ l.1) tt)

-- A deed.
names_some : (seats : List Enlistment) → list_any is_prepared_durable seats ≡ true → not (no_seats (prepared seats)) ≡ true
names_some [] e = absurd cc
names_some (s ∷ ss) e = by (is_prepared_durable s) e (names_some ss) where
  by : (b : Bool) → (b || list_any is_prepared_durable ss) ≡ true → (list_any is_prepared_durable ss ≡ true → not (no_seats (prepared ss)) ≡ true)
      → not (no_seats (map seated (if b then s ∷ filter is_prepared_durable ss else filter is_prepared_durable ss))) ≡ true
  by true f more = refl
  by false f more = more f

any_vote : (id : Numbers) (ts : List Token) → Stands ts id whats.Voted → list_any (is_vote_of id) ts ≡ true
any_vote id [] h = absurd h
any_vote id (t ∷ ts) (inl e) = ap (λ z. z || list_any (is_vote_of id) ts) ((λ i. is_kind_vote (e i).what && is_id (e i).id id) ∙ self_id id)
any_vote id (t ∷ ts) (inr h) = by (is_vote_of id t) (any_vote id ts h) where
  by : (b : Bool) → list_any (is_vote_of id) ts ≡ true → (b || list_any (is_vote_of id) ts) ≡ true
  by true f = refl
  by false f = f

kind_commit : (what : What) → is_kind_commit what ≡ true → what ≡ whats.SubCommitted
kind_commit whats.SubCommitted e = refl
kind_commit whats.Start e = absurd cc
kind_commit other e = absurd cc

commit_there : (id : Numbers) (ts : List Token) → list_any (is_commit_of id) ts ≡ true → Stands ts id whats.SubCommitted
commit_there id [] e = absurd cc
commit_there id (t ∷ ts) e = by (is_commit_of id t) refl e (commit_there id ts) where
  by : (b : Bool) → is_commit_of id t ≡ b → (b || list_any (is_commit_of id) ts) ≡ true → (list_any (is_commit_of id) ts ≡ true → Stands ts id whats.SubCommitted)
      → Stands (t ∷ ts) id whats.SubCommitted
  by true g f more =
      let (kind, own) = both_true (is_kind_commit t.what) (is_id t.id id) g in
      inl (λ i. record { id = same_id t.id id own i; what = kind_commit t.what kind i })
  by false g f more = inr (more f)

commit_stands : (id : Numbers) (k : Known) → Stands (tokens_of k.live) id whats.Voted → Stands (behind (Some (records.SubCommitted id)) k) id whats.SubCommitted
commit_stands id k h = by (list_any (is_commit_of id) (tokens_of k.live)) refl where
  by : (b : Bool) → list_any (is_commit_of id) (tokens_of k.live) ≡ b → Stands (behind (Some (records.SubCommitted id)) k) id whats.SubCommitted
  by true e = after_old (records.SubCommitted id) k.live (record { id = id; what = whats.SubCommitted }) (commit_there id (tokens_of k.live) e) refl
  by false e = after_new (records.SubCommitted id) k.live (λ i. any_vote id (tokens_of k.live) h i && not (e i))

undecided_not_voted : (p : Phase) → may_expire p ≡ true → p ≡ Phase.Voted → ⊥
undecided_not_voted p h e = true≢false (sym h ∙ ap may_expire e)

undecided_not_committing : (p : Phase) → may_expire p ≡ true → p ≡ Phase.Committing → ⊥
undecided_not_committing p h e = true≢false (sym h ∙ ap may_expire e)

in_phase_voted : (p : Phase) → p ≡ Phase.Voted → p ≡ Phase.Committing → ⊥
in_phase_voted p e f = true≢false (sym (ap is_committing f) ∙ ap is_committing e)

abbrev IsAborting : Phase → Bool
IsAborting Phase.Aborting = true
IsAborting Phase.Registering = false
IsAborting Phase.Active = false
IsAborting Phase.Volatile = false
IsAborting Phase.Durable = false
IsAborting Phase.Voted = false
IsAborting Phase.Committing = false

module _ (t x : Transaction) (at : List Enlistment) (entry : Option Record) (k : Known) (same : IsSame t x) (old : Holds (tokens_of k.live) t) where
  aborting_holds : x.phase ≡ Phase.Aborting → Holds (behind entry k) x
  aborting_holds e = holds_nothing (behind entry k) x (λ f. true≢false (sym (ap IsAborting e) ∙ ap IsAborting f)) (λ f. true≢false (sym (ap IsAborting e) ∙ ap IsAborting f))

  decided_holds : x.phase ≡ Phase.Committing → Stands (behind entry k) t.id whats.Decided → Holds (behind entry k) x
  decided_holds e h = (λ f. absurd (in_phase_voted x.phase f e), λ f. inl (subst (λ z. Stands (behind entry k) z whats.Decided) (sym same.id) h))

  deed_holds : (how : How) → entry ≡ recorded how t at → StoodFor how t → StandsOn how at → Becomes how t at (Some x) → Holds (behind entry k) x
  deed_holds Idles is stood on (inl (was, now), seats) =
      holds_nothing (behind entry k) x (undecided_not_voted x.phase now) (undecided_not_committing x.phase now)
  deed_holds Idles is stood on (inr phase, seats) = subst (λ z. Holds (behind z k) x) (sym is) (holds_as (tokens_of k.live) t x same.id phase same.root old)
  deed_holds Aborts is stood on becomes = aborting_holds becomes.0
  deed_holds RollsBack is stood on becomes = aborting_holds becomes.0
  deed_holds Votes is stood on becomes =
      let (superior, knows) = is_some (superior_at t.superior) stood.1 in
      let r : Record = records.Voted t.id superior (prepared at) in
      let e : entry ≡ Some r = is ∙ ap (option_map (λ z. records.Voted t.id z (prepared at))) knows in (
        λ f. subst (λ z. Stands (behind z k) x.id whats.Voted) (sym e) (subst (λ z. Stands (behind (Some r) k) z whats.Voted) (sym same.id) (after_new r k.live refl)),
        λ f. absurd (in_phase_voted x.phase becomes.0 f),
      )
  deed_holds Decides is stood on becomes =
      decided_holds becomes.0 (subst (λ z. Stands (behind z k) t.id whats.Decided) (sym is) (after_new (records.Decided t.id (prepared at)) k.live (names_some at on.1)))
  deed_holds Commits is stood on becomes = (
    λ f. absurd (in_phase_voted x.phase f becomes.0),
    λ f. inr (
      same.root ∙ stood.1,
      subst (λ z. Stands (behind z k) x.id whats.SubCommitted) (sym is)
          (subst (λ z. Stands (behind (Some (records.SubCommitted t.id)) k) z whats.SubCommitted) (sym same.id) (commit_stands t.id k (old.0 stood.0))),
    ),
  )
  deed_holds DecidesAlone is stood on becomes = absurd (subst IsSome becomes tt)
  deed_holds Leaves is stood on becomes = absurd (subst IsSome becomes tt)
  deed_holds Ends is stood on becomes = absurd (subst IsSome becomes tt)
  deed_holds Forgets is stood on becomes = absurd (subst IsSome becomes tt)

recorded_own : (how : How) (t : Transaction) (at : List Enlistment) (id : Numbers) → (t.id ≡ id → ⊥) → IsOfOther (recorded how t at) id
recorded_own Votes t at id h = by (superior_at t.superior) where
  by : (s : Option Epr) → IsOfOther (option_map (λ superior. records.Voted t.id superior (prepared at)) s) id
  by None = tt
  by (Some superior) = h
recorded_own Decides t at id h = h
recorded_own DecidesAlone t at id h = h
recorded_own Commits t at id h = h
recorded_own RollsBack t at id h = h
recorded_own Ends t at id h = h
recorded_own Idles t at id h = tt
recorded_own Aborts t at id h = tt
recorded_own Leaves t at id h = tt
recorded_own Forgets t at id h = tt

-- Lists.
all_with : {A : Type 0} (P Q R : A → Type 0) (xs : List A) → ((x : A) → P x → Q x → R x) → AllByRecursion P xs → AllByRecursion Q xs → AllByRecursion R xs
all_with P Q R [] f h k = tt
all_with P Q R (x ∷ xs) f (h, i) (k, j) = (f x h k, all_with P Q R xs f i j)

pub all_three : {A : Type 0} (P Q R S : A → Type 0) (xs : List A) → ((x : A) → P x → Q x → R x → S x) → AllByRecursion P xs → AllByRecursion Q xs → AllByRecursion R xs → AllByRecursion S xs
all_three P Q R S [] f h k l = tt
all_three P Q R S (x ∷ xs) f (h, hs) (k, ks) (l, ls) = (f x h k l, all_three P Q R S xs f hs ks ls)

all_put : {A : Type 0} (P Q : A → Type 0) (key : A → Numbers) (id : Numbers) (new : Option A) (xs : List A) → AreRising (map key xs) → IfThere Q new → ((x : A) → P x → (id ≡ key x → ⊥) → Q x)
    → AllByRecursion P xs → AllByRecursion Q (put_by key id new xs)
all_put {A} P Q key id new [] rise n f h = by_new new where
  by_new : (o : Option A) → AllByRecursion Q (put_by key id o [])
  by_new None = tt
  by_new (Some y) = tt
all_put {A} P Q key id new (x ∷ xs) (before, rise) n f (h, k) = by_new new n (is_id (key x) id) refl (λ o i. all_put P Q key id o xs rise i f k) where
  further : key x ≡ id → AllByRecursion Q xs
  further same =
      all_with P (λ y. is_before (key x) (key y) ≡ true) Q xs (λ y i j. f y i (λ e. is_other (key x) (key y) j (same ∙ e))) k (unmapped (λ i. is_before (key x) i ≡ true) key xs before)

  differs : is_id (key x) id ≡ false → Q x
  differs e = f x h (λ same. both_ways (is_id (key x) id) (subst (λ i. is_id (key x) i ≡ true) (sym same) (self_id (key x))) e)

  by_new : (o : Option A) → IfThere Q o → (b : Bool) → is_id (key x) id ≡ b → ((o : Option A) → IfThere Q o → AllByRecursion Q (put_by key id o xs))
      → AllByRecursion Q (put_by key id o (x ∷ xs))
  by_new None n true e g = subst (λ b. AllByRecursion Q (if b then xs else x ∷ put_by key id None xs)) (sym e) (further (same_id (key x) id e))
  by_new None n false e g = subst (λ b. AllByRecursion Q (if b then xs else x ∷ put_by key id None xs)) (sym e) (differs e, g None tt)
  by_new (Some y) n true e g = subst (λ b. AllByRecursion Q (if b then y ∷ xs else x ∷ put_by key id (Some y) xs)) (sym e) (n, further (same_id (key x) id e))
  by_new (Some y) n false e g = subst (λ b. AllByRecursion Q (if b then y ∷ xs else x ∷ put_by key id (Some y) xs)) (sym e) (differs e, g (Some y) n)

own_in : {A : Type 0} (key : A → Numbers) (xs : List A) (x : A) → IsIn x xs → IsIn (key x) (map key xs)
own_in key [] x h = absurd h
own_in key (y ∷ ys) x (inl e) = inl (ap key e)
own_in key (y ∷ ys) x (inr h) = inr (own_in key ys x h)

-- What is made has promised nothing.
module _ (ts : List Token) where
  root_new : (m : Moment) (id : Numbers) (a : Arrived) (c : Create) (current : Context) (r : Reply) → IfThere (Holds ts) (create_under m id a c current r).transaction
  unfolding create_under
  root_new m id a c current (replies.At reply) = ((λ e. absurd cc), (λ e. absurd cc))
  root_new m id a c current replies.Anonymous = tt
  root_new m id a c current replies.Nobody = tt

  in_new : (m : Moment) (id : Numbers) (a : Arrived) (c : Create) (current : Option Context) → IfThere (Holds ts) (create_in m id a c current).transaction
  unfolding create_in
  in_new m id a c None = ((λ e. absurd cc), (λ e. absurd cc))
  in_new m id a c (Some current) = root_new m id a c current a.reply

  create_new : (m : Moment) (live : ℕ) (a : Arrived) (c : Create) (id : Numbers) → IfThere (Holds ts) (on_create m live a c (Some id)).transaction
  unfolding on_create
  create_new m live a c id = by_test (bytes_eq c.coordination atomic && nat_lt live MOST_ITEMS) where
    by_test : (t : Bool) → IfThere (Holds ts) (if t then create_in m id a c c.current else refuse_create a).transaction
    by_test true = in_new m id a c c.current
    by_test false = tt

  work_for_new : (m : Moment) (id : Numbers) (a : Arrived) (w : Work) (r : Reply) → IfThere (IsLeafPromised ts) (work_for m id a w r).leaf
  work_for_new m id a w (replies.At reply) = record { prepared = λ durable waits. absurd cc }
  work_for_new m id a w replies.Anonymous = tt
  work_for_new m id a w replies.Nobody = tt

  work_new : (m : Moment) (live : ℕ) (a : Arrived) (w : Work) (id : Numbers) → IfThere (IsLeafPromised ts) (on_work m live a w (Some id)).leaf
  unfolding on_work
  work_new m live a w id = by_test (nat_lt live MOST_ITEMS) where
    by_test : (t : Bool) → IfThere (IsLeafPromised ts) (if t then work_for m id a w a.reply else refuse_work a).leaf
    by_test true = work_for_new m id a w a.reply
    by_test false = tt

-- a registration changes neither phase nor superior
enrolled_holds : (ts : List Token) (m : Moment) (a : Arrived) (r : Register) (t : Transaction) (g : Registration) → Enrolls m a r t g → Holds ts t → Holds ts g.transaction
enrolled_holds ts m a r t g (takes_seat kind p may is) h = subst (λ x. Holds ts x.transaction) (sym is) h
enrolled_holds ts m a r t g (takes_completion p may is) h = subst (λ x. Holds ts x.transaction) (sym is) h
enrolled_holds ts m a r t g (has_seat kind s p i k e is) h = subst (λ x. Holds ts x.transaction) (sym is) h
enrolled_holds ts m a r t g (has_completion c p there e is) h = subst (λ x. Holds ts x.transaction) (sym is) h
enrolled_holds ts m a r t g (refuses name is) h = subst (λ x. Holds ts x.transaction) (sym is) h

-- A leaf's deed.
durable_own : (kind : Kind) (entry : Option Record) (r : Record) (id : Numbers) → entry ≡ for_durable kind r → (about r ≡ id → ⊥) → IsOfOther entry id
durable_own kinds.Durable entry r id e h = subst (λ z. IsOfOther z id) (sym e) h
durable_own kinds.Volatile entry r id e h = subst (λ z. IsOfOther z id) (sym e) tt

none_own : (entry : Option Record) (id : Numbers) → entry ≡ None → IsOfOther entry id
none_own entry id e = subst (λ z. IsOfOther z id) (sym e) tt

leaf_own : (m : Moment) (e : Event) (l : Leaf) (entry : Option Record) (c : Change Leaf) → LeafDeed m e l entry c → (id : Numbers) → (l.id ≡ id → ⊥) → IsOfOther entry id
leaf_own m e l entry c (idles left idle unrecorded item none) id h = none_own entry id unrecorded
leaf_own m e l entry c (aborts was why unrecorded item happened) id h = none_own entry id unrecorded
leaf_own m e l entry c (prepares to came was vote known stands item none posts) id h = durable_own l.kind entry (records.LeafPrepared l.id to l.key l.value) id stands h
leaf_own m e l entry c (leaves_early to came was vote known unrecorded item none posts) id h = none_own entry id unrecorded
leaf_own m e l entry c (dropped came kind unrecorded item none posts) id h = none_own entry id unrecorded
leaf_own m e l entry c (commits to came was known stands item happened posts) id h = durable_own l.kind entry (records.LeafCommitted l.id) id stands h
leaf_own m e l entry c (rolls_back to came was known stands item happened posts) id h = durable_own l.kind entry (records.LeafAborted l.id) id stands h

abbrev IsWaiting : State → Type 0
IsWaiting states.PreparedSuccess = Unit {0}
IsWaiting other = ⊥

idle_promised : (ts : List Token) (m : Moment) (e : Event) (l left : Leaf) (ps : List Post) → LeafIdles m e l left ps → IsLeafPromised ts l → IsLeafPromised ts left
idle_promised ts m e l left ps (rests same none) h = subst (IsLeafPromised ts) (sym same) h
idle_promised ts m e l left ps (has_registered coordinator r came answers was asked same posts) h =
    record { prepared = λ durable waits. absurd (subst IsWaiting (sym waits ∙ ap (λ (z : Leaf). z.state) same) tt) }
idle_promised ts m e l left ps (registers_again r due was asked same posts) h =
    record { prepared = λ durable waits. absurd (subst IsWaiting (sym waits ∙ ap (λ (z : Leaf). z.state) same ∙ was) tt) }
idle_promised ts m e l left ps (votes_again to why was known same posts) h =
    subst (IsLeafPromised ts) (sym same) (record { prepared = λ durable waits. h.prepared durable was })

abbrev IsDurable : Kind → Type 0
IsDurable kinds.Durable = Unit {0}
IsDurable kinds.Volatile = ⊥

vote_promised : (kind : Kind) (l x : Leaf) (entry : Option Record) (r : Record) (k : Known) → l.kind ≡ kind → entry ≡ for_durable kind r → token_of r ≡ record { id = l.id; what = whats.LeafPrepared }
    → ((ts : List Token) → stays r ts ≡ true) → x.id ≡ l.id → x.kind ≡ l.kind → IsLeafPromised (behind entry k) x
vote_promised kinds.Volatile l x entry r k same is token stay own kind = record { prepared = λ durable waits. absurd (subst IsDurable (sym durable ∙ kind ∙ same) tt) }
vote_promised kinds.Durable l x entry r k same is token stay own kind = record {
  prepared = λ durable waits.
      subst (λ z. Stands (behind z k) x.id whats.LeafPrepared) (sym is) (subst (λ z. Stands (behind (Some r) k) z whats.LeafPrepared) (sym own)
      (subst (λ z. IsAmong z (behind (Some r) k)) token (after_new r k.live (stay (tokens_of k.live)))));
}

new_leaf : (m : Moment) (e : Event) (l x : Leaf) (entry : Option Record) (c : Change Leaf) (k : Known) → LeafDeed m e l entry c → c.item ≡ Some x → IsLeafPromised (tokens_of k.live) l
    → IsLeafPromised (behind entry k) x
new_leaf m e l x entry c k (idles left idle unrecorded item none) is h =
    subst (λ z. IsLeafPromised (behind z k) x) (sym unrecorded) (subst (IsLeafPromised (tokens_of k.live)) (ap (the_leaf left) (sym item ∙ is)) (idle_promised (tokens_of k.live) m e l left c.posts idle h)) where
      the_leaf : Leaf → Option Leaf → Leaf
      the_leaf d None = d
      the_leaf d (Some y) = y
new_leaf m e l x entry c k (prepares to came was vote known stands item none posts) is h =
    let same : record l { state = states.PreparedSuccess; sent = Some m.now } ≡ x = ap (the_leaf l) (sym item ∙ is) in
    vote_promised l.kind l x entry (records.LeafPrepared l.id to l.key l.value) k refl stands refl (λ ts. refl) (ap (λ (z : Leaf). z.id) (sym same)) (ap (λ (z : Leaf). z.kind) (sym same)) where
      the_leaf : Leaf → Option Leaf → Leaf
      the_leaf d None = d
      the_leaf d (Some y) = y
new_leaf m e l x entry c k (aborts was why unrecorded item happened) is h = absurd (subst IsSome (sym is ∙ item) tt)
new_leaf m e l x entry c k (leaves_early to came was vote known unrecorded item none posts) is h = absurd (subst IsSome (sym is ∙ item) tt)
new_leaf m e l x entry c k (dropped came kind unrecorded item none posts) is h = absurd (subst IsSome (sym is ∙ item) tt)
new_leaf m e l x entry c k (commits to came was known stands item happened posts) is h = absurd (subst IsSome (sym is ∙ item) tt)
new_leaf m e l x entry c k (rolls_back to came was known stands item happened posts) is h = absurd (subst IsSome (sym is ∙ item) tt)

activity_unrecorded : {m : Moment} {e : Event} {a : Activity} {entry : Option Record} {c : Change Activity} → ActivityDeed m e a entry c → entry ≡ None
activity_unrecorded (activity_idles left idle unrecorded item none) = unrecorded
activity_unrecorded (activity_tells what why unrecorded item told posts) = unrecorded

leaf_more : (ts us : List Token) (l : Leaf) → ((what : What) → Stands ts l.id what → Stands us l.id what) → IsLeafPromised ts l → IsLeafPromised us l
leaf_more ts us l f h = record { prepared = λ durable waits. f whats.LeafPrepared (h.prepared durable waits) }

-- A step.
module _ (b : Book) (e : Event) (now : ℕ) (entry : Option Record) (o : Outcome) (k : Known) (h : PromisesStand b k) where
  abbrev ts : List Token
  ts = tokens_of k.live

  abbrev us : List Token
  us = behind entry k

  olds : AllByRecursion (Holds ts) b.transactions
  olds = all_with (IsPromised ts) IsShaped (Holds ts) b.transactions (holds_of ts) h.promised.transactions h.shaped

  still_holds : entry ≡ None → AllByRecursion (Holds ts) o.book.transactions → AllByRecursion (Holds us) o.book.transactions
  still_holds none all = subst (λ z. AllByRecursion (Holds (behind z k)) o.book.transactions) (sym none) all

  still_promised : entry ≡ None → AllByRecursion (IsLeafPromised ts) o.book.leaves → AllByRecursion (IsLeafPromised us) o.book.leaves
  still_promised none all = subst (λ z. AllByRecursion (IsLeafPromised (behind z k)) o.book.leaves) (sym none) all

  -- a transaction moves: all leaves, and all other transactions, are of other ids
  other_stands : (d : TransactionDid b e now entry o) (id : Numbers) → (d.old.id ≡ id → ⊥) → (what : What) → Stands ts id what → Stands us id what
  other_stands d id differs what = stands_on entry k id what (subst (λ z. IsOfOther z id) (sym d.deed.records) (recorded_own d.deed.how d.old d.deed.at id differs))

  moved_new : (d : TransactionDid b e now entry o) → IfThere (Holds us) d.change.item
  moved_new d = by d.change.item refl where
    old : Holds ts d.old
    old = all_find (Holds ts) transaction_id d.old.id b.transactions d.old olds d.found

    by : (item : Option Transaction) → d.change.item ≡ item → IfThere (Holds us) item
    by None is = tt
    by (Some x) is =
        deed_holds d.old x d.deed.at entry k (subst (IsSameIfLeft d.old) is d.deed.same) old d.deed.how d.deed.records d.deed.stood d.deed.behind
        (subst (Becomes d.deed.how d.old d.deed.at) is d.deed.becomes)

  moved_holds : (d : TransactionDid b e now entry o) → AllByRecursion (Holds us) o.book.transactions
  moved_holds d =
      subst (AllByRecursion (Holds us)) (sym d.items.transactions_are)
      (all_put (Holds ts) (Holds us) transaction_id d.old.id d.change.item b.transactions h.ready.order.rising.transactions (moved_new d)
      (λ x held differs. holds_more ts us x (other_stands d x.id differs) held) olds)

  moved_leaves : (d : TransactionDid b e now entry o) → AllByRecursion (IsLeafPromised us) o.book.leaves
  moved_leaves d =
      subst (AllByRecursion (IsLeafPromised us)) (sym d.items.leaves_are)
      (all_with (λ l. d.old.id ≡ l.id → ⊥) (IsLeafPromised ts) (IsLeafPromised us) b.leaves (λ l differs held. leaf_more ts us l (other_stands d l.id differs) held)
      (all_in (λ l. d.old.id ≡ l.id → ⊥) b.leaves
      (λ l there same. h.apart l.id (subst (λ z. IsIn z (map transaction_id b.transactions)) same (own_in transaction_id b.transactions d.old (found_in transaction_id d.old.id b.transactions d.old d.found)))
      (own_in leaf_id b.leaves l there))) h.promised.leaves)

  -- a leaf moves
  beside_stands : (d : LeafDid b e now entry o) (id : Numbers) → (d.old.id ≡ id → ⊥) → (what : What) → Stands ts id what → Stands us id what
  beside_stands d id differs what = stands_on entry k id what (leaf_own (moment_of b now) e d.old entry d.change d.deed id differs)

  beside_holds : (d : LeafDid b e now entry o) → AllByRecursion (Holds us) o.book.transactions
  beside_holds d =
      subst (AllByRecursion (Holds us)) (sym d.items.transactions_are)
      (all_with (λ t. d.old.id ≡ t.id → ⊥) (Holds ts) (Holds us) b.transactions (λ t differs held. holds_more ts us t (beside_stands d t.id differs) held)
      (all_in (λ t. d.old.id ≡ t.id → ⊥) b.transactions
      (λ t there same. h.apart t.id (own_in transaction_id b.transactions t there)
      (subst (λ z. IsIn z (map leaf_id b.leaves)) same (own_in leaf_id b.leaves d.old (found_in leaf_id d.old.id b.leaves d.old d.found))))) olds)

  leaf_new : (d : LeafDid b e now entry o) → IfThere (IsLeafPromised us) d.change.item
  leaf_new d = by d.change.item refl where
    by : (item : Option Leaf) → d.change.item ≡ item → IfThere (IsLeafPromised us) item
    by None is = tt
    by (Some x) is =
        new_leaf (moment_of b now) e d.old x entry d.change k d.deed is (all_find (IsLeafPromised ts) leaf_id d.old.id b.leaves d.old h.promised.leaves d.found)

  leaf_moved : (d : LeafDid b e now entry o) → AllByRecursion (IsLeafPromised us) o.book.leaves
  leaf_moved d =
      subst (AllByRecursion (IsLeafPromised us)) (sym d.items.leaves_are)
      (all_put (IsLeafPromised ts) (IsLeafPromised us) leaf_id d.old.id d.change.item b.leaves h.ready.order.rising.leaves (leaf_new d)
      (λ l held differs. leaf_more ts us l (beside_stands d l.id differs) held) h.promised.leaves)

  -- nothing is recorded
  same_transactions : entry ≡ None → o.book.transactions ≡ b.transactions → AllByRecursion (Holds us) o.book.transactions
  same_transactions none is = still_holds none (subst (AllByRecursion (Holds ts)) (sym is) olds)

  same_leaves : entry ≡ None → o.book.leaves ≡ b.leaves → AllByRecursion (IsLeafPromised us) o.book.leaves
  same_leaves none is = still_promised none (subst (AllByRecursion (IsLeafPromised ts)) (sym is) h.promised.leaves)

  rested_transactions : (o.book ≡ b) ⊎ (o.book ≡ at_time now b) → o.book.transactions ≡ b.transactions
  rested_transactions (inl is) = ap (λ (z : Book). z.transactions) is
  rested_transactions (inr is) = ap (λ (z : Book). z.transactions) is

  rested_leaves : (o.book ≡ b) ⊎ (o.book ≡ at_time now b) → o.book.leaves ≡ b.leaves
  rested_leaves (inl is) = ap (λ (z : Book). z.leaves) is
  rested_leaves (inr is) = ap (λ (z : Book). z.leaves) is

  transactions_hold : Moved b e now entry o → AllByRecursion (Holds us) o.book.transactions
  transactions_hold (transaction_did d) = moved_holds d
  transactions_hold (leaf_did d) = beside_holds d
  transactions_hold (activity_did d) = same_transactions (activity_unrecorded d.deed) d.items.transactions_are
  transactions_hold (registered d) =
      still_holds d.unrecorded
      (subst (AllByRecursion (Holds ts)) (ap (λ (z : Outcome). z.book.transactions) (sym d.is))
      (all_put (Holds ts) (Holds ts) transaction_id d.gives.transaction.id (Some d.gives.transaction) b.transactions h.ready.order.rising.transactions
      (enrolled_holds ts (moment_of b now) d.arrived d.request d.old d.gives d.enrolls (all_find (Holds ts) transaction_id d.old.id b.transactions d.old olds d.found))
      (λ x held differs. held) olds))
  transactions_hold (made_transaction d) =
      still_holds d.unrecorded
      (subst (AllByRecursion (Holds ts)) (ap (λ (z : Outcome). z.book.transactions) (sym d.is))
      (all_join (Holds ts) b.transactions (d.new ∷ []) olds (subst (IfThere (Holds ts)) d.makes (create_new ts (moment_of b now) (length b.transactions) d.arrived d.request d.id), tt)))
  transactions_hold (made_leaf d) = same_transactions d.unrecorded (ap (λ (z : Outcome). z.book.transactions) d.is)
  transactions_hold (made_activity d) = same_transactions d.unrecorded (ap (λ (z : Outcome). z.book.transactions) d.is)
  transactions_hold (answered d) = same_transactions d.unrecorded (ap (λ (z : Outcome). z.book.transactions) d.is)
  transactions_hold (rested d) = same_transactions d.unrecorded (rested_transactions d.book)

  leaves_promised : Moved b e now entry o → AllByRecursion (IsLeafPromised us) o.book.leaves
  leaves_promised (transaction_did d) = moved_leaves d
  leaves_promised (leaf_did d) = leaf_moved d
  leaves_promised (activity_did d) = same_leaves (activity_unrecorded d.deed) d.items.leaves_are
  leaves_promised (registered d) = same_leaves d.unrecorded (ap (λ (z : Outcome). z.book.leaves) d.is)
  leaves_promised (made_transaction d) = same_leaves d.unrecorded (ap (λ (z : Outcome). z.book.leaves) d.is)
  leaves_promised (made_leaf d) =
      still_promised d.unrecorded
      (subst (AllByRecursion (IsLeafPromised ts)) (ap (λ (z : Outcome). z.book.leaves) (sym d.is))
      (all_join (IsLeafPromised ts) b.leaves (d.new ∷ []) h.promised.leaves
      (subst (IfThere (IsLeafPromised ts)) d.makes (work_new ts (moment_of b now) (length b.leaves) d.arrived d.request d.id), tt)))
  leaves_promised (made_activity d) = same_leaves d.unrecorded (ap (λ (z : Outcome). z.book.leaves) d.is)
  leaves_promised (answered d) = same_leaves d.unrecorded (ap (λ (z : Outcome). z.book.leaves) d.is)
  leaves_promised (rested d) = same_leaves d.unrecorded (rested_leaves d.book)

-- The outcomes are those that are kept.
abbrev added : Option Record → List Numbers → List Numbers
added None ids = ids
added (Some r) ids = with_outcome r ids

record KeepsOutcomes (b : Book) (p : Plan) : Type 0 where
  landed : p.landed.book.outcomes ≡ added p.entry b.outcomes
  absent : p.absent.book.outcomes ≡ b.outcomes

decided_outcomes : {A : Type 0} (b : Book) (put : Option A → Book) (answer : List Out) (d : Decision A) → ((x : Option A) → (put x).outcomes ≡ b.outcomes) → KeepsOutcomes b (plan_of b put answer d)
decided_outcomes b put answer (Goes c) f = record { landed = f c.item; absent = f c.item }
decided_outcomes b put answer (Records r c None) f = record { landed = ap (with_outcome r) (f c.item); absent = refl }
decided_outcomes b put answer (Records r c (Some d)) f = record { landed = ap (with_outcome r) (f c.item); absent = f d.item }

as_planned : (b : Book) (p q : Plan) → p ≡ q → KeepsOutcomes b q → KeepsOutcomes b p
as_planned b p q e h = subst (KeepsOutcomes b) (sym e) h

plan_outcomes : (b : Book) (e : Event) (now : ℕ) (p : Plan) → Shape b e now p → KeepsOutcomes b p
plan_outcomes b e now p (nothing_moves f) = as_planned b p _ f (record { landed = refl; absent = refl })
plan_outcomes b e now p (time_moves a os came why o f) = as_planned b p _ f (record { landed = refl; absent = refl })
plan_outcomes b e now p (time_passes came f) = as_planned b p _ f (record { landed = refl; absent = refl })
plan_outcomes b e now p (transaction_moves id t answer d stands how o f) =
    as_planned b p _ f (decided_outcomes b (put_transaction t.id (at_time now b)) answer (with_answer (moment_of b now) t d) (λ x. refl))
plan_outcomes b e now p (leaf_moves id l answer d stands how o f) = as_planned b p _ f (decided_outcomes b (put_leaf l.id (at_time now b)) answer d (λ x. refl))
plan_outcomes b e now p (activity_moves id a answer d stands how o f) = as_planned b p _ f (decided_outcomes b (put_activity a.id (at_time now b)) answer d (λ x. refl))
plan_outcomes b e now p (transaction_registers id a r t stands came at says o f) = as_planned b p _ f (record { landed = refl; absent = refl })
plan_outcomes b e now p (transaction_made a c id t os came at says next made sent o f) = as_planned b p _ f (record { landed = refl; absent = refl })
plan_outcomes b e now p (leaf_made a w id l os came at says next made sent o f) = as_planned b p _ f (record { landed = refl; absent = refl })
plan_outcomes b e now p (activity_made id a os next made o f) = as_planned b p _ f (record { landed = refl; absent = refl })

kept_done : (entry : Option Record) (k : Known) → (kept_by entry k).done ≡ added entry k.done
kept_done None k = refl
kept_done (Some r) k = refl

step_outcomes : StepsTouchOne → (b : Book) (k : Known) (e : Event) (now : ℕ) (landed : Bool) → b.outcomes ≡ k.done
    → (step b e now landed).book.outcomes ≡ (kept_by (if_landed landed (plan b e now).entry) k).done
step_outcomes touch b k e now true h =
    (plan_outcomes b e now (plan b e now) (touch b e now)).landed ∙ ap (added (plan b e now).entry) h ∙ sym (kept_done (plan b e now).entry k)
step_outcomes touch b k e now false h = (plan_outcomes b e now (plan b e now) (touch b e now)).absent ∙ h

pub steps_stay : StepsMove → MakesUnderTheNextId → StepsTouchOne → IdsRise → DecidesBehindEveryAnswer → FinishesAll → LeafStates → ActivityStates → BooksAreShaped
    → (b : Book) (k : Known) (e : Event) (now : ℕ) (landed : Bool) → PromisesStand b k → PromisesStand (step b e now landed).book (kept_by (if_landed landed (plan b e now).entry) k)
steps_stay moves makes touch rise decides finishes leaf_states activity_states shapes b k e now landed h =
    let after : Book = (step b e now landed).book in
    let entry : Option Record = if_landed landed (plan b e now).entry in
    let moved : Moved b e now entry (step b e now landed) = subst (λ z. Moved b e now z (step b e now landed)) (same_entry landed (plan b e now).entry) (moves.moved b e now landed h.ready) in
    let ready : IsReady after = record {
      order = rise.stays b e now landed h.ready.order;
      phases = decides.book b e now landed h.ready.phases;
      finished = finishes.book b e now landed h.ready.phases h.ready.finished;
      leaves = leaf_states.book b e now landed h.ready.leaves;
      activities = activity_states.book b e now landed h.ready.activities;
    } in
    let shaped = shapes.book b e now landed h.ready.phases h.ready.finished h.shaped in
    let ts = tokens_of (kept_by entry k).live in
    record {
      ready = ready;
      shaped = shaped;
      apart = moved_apart makes b e now entry (step b e now landed) h.ready.order h.apart moved;
      promised = record {
        transactions = all_three (Holds ts) IsShaped (λ t. AreLinked t.phase t.superior t.completion) (IsPromised ts) after.transactions (promised_of ts)
            (transactions_hold b e now entry (step b e now landed) k h moved) shaped ready.phases.links;
        leaves = leaves_promised b e now entry (step b e now landed) k h moved;
        outcomes = step_outcomes touch b k e now landed h.promised.outcomes;
      };
    }
