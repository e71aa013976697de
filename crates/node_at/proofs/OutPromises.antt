-- What a step posts stands behind a live record, or behind its own.
use Rattle.std.proofs.Common.{ℕ, List, [], ◌∷◌, ◌≡◌, ◌⊎◌, inl, inr, ⊎_elim, Bool, true, false, Option, Some, None, refl, sym, ◌∙◌, ap, subst, option_map, is_none, true≢false, ◌||◌, if◌then◌else◌}
use Rattle.std.specs.List.{AllByRecursion}
use Rattle.at_base.specs.Numbers.{Numbers}
use Rattle.at_base.specs.declared.event.Event.{Event}
use Rattle.at_base.specs.declared.message.Message.{Message}
use Rattle.at_base.specs.declared.message.Message.TheVariants as messages
use Rattle.at_base.specs.declared.notice.Kind.{Kind}
use Rattle.at_base.specs.declared.notice.Kind.TheVariants as kinds
use Rattle.at_base.specs.declared.notice.Notice.{Notice}
use Rattle.at_base.specs.declared.notice.Notice.TheVariants as notices
use Rattle.at_base.specs.declared.outs.Effect.{Effect}
use Rattle.at_base.specs.declared.outs.Effect.TheVariants as effects
use Rattle.at_base.specs.declared.outs.Ending.TheVariants as endings
use Rattle.at_base.specs.declared.outs.Out.{Out}
use Rattle.at_base.specs.declared.outs.Out.TheVariants as outs
use Rattle.at_base.specs.declared.outs.Post.{Post}
use Rattle.at_base.specs.declared.record.Record.{Record}
use Rattle.at_base.specs.declared.record.Record.TheVariants as records
use Rattle.at_base.specs.declared.target.Target.{Target}
use Rattle.at_base.specs.declared.target.Target.TheVariants as targets
use Rattle.at_tables.specs.declared.cells.State.{State}
use Rattle.at_tables.specs.declared.cells.State.TheVariants as states
use Rattle.at_model.specs.Book.{Book, Enlistment, Leaf, Transaction, find_by, is_id, leaf_id, transaction_id}
use Rattle.at_model.specs.Moves.{Change}
use Rattle.at_model.specs.Outcomes.{is_kept}
use Rattle.at_model.specs.Leaves.{leaf_ended}
use Rattle.at_model.specs.Step.{Outcome, is_decided_root, moment_of, plan, step, transaction_at}
use Rattle.model_laws.specs.Agreement.{IsIn}
use Rattle.agreement.specs.ActivityDeeds.ActivitySays.{completing, tells_nothing as activity_silent}
use Rattle.agreement.specs.Branches.{IsNoNotice}
use Rattle.agreement.specs.Deeds.{How, IsCommit, StoodFor, WhyInitiator, WhySeat, WhySuperior, recorded, superior_at}
use Rattle.agreement.specs.Deeds.How.{Idles, Aborts, Votes, Decides, DecidesAlone, Leaves, Commits, RollsBack, Ends, Forgets}
use Rattle.agreement.specs.StepDeeds.{standing}
use Rattle.agreement.specs.LeafDeeds.{LeafDeed, LeafIdles, LeafSays, for_durable}
use Rattle.agreement.specs.LeafDeeds.LeafDeed.{idles, aborts, prepares, leaves as leaves_early, dropped, commits, rolls_back}
use Rattle.agreement.specs.LeafDeeds.LeafIdles.{rests, registered, registers_again, votes_again}
use Rattle.agreement.specs.LeafDeeds.LeafSays.{prepared, read_only, committed, aborted, tells_nothing}
use Rattle.enlistments.specs.Moves.{LeafDid, TransactionDid}
use Rattle.enlistments.specs.NoticeOrigins.{AnswersAsNone, OutIsSaid, Says, StepsTell, Tells}
use Rattle.enlistments.specs.NoticeOrigins.Tells.{to_seat, to_left_seat, to_superior, says_aborted, from_left_link, left_link_aborted, to_initiator, to_asking, leaf_says, activity_says, to_late_seat, as_no_seat, as_no_participant, as_committed}
use Rattle.decision_log.specs.KeptState.{IsAmong}
use Rattle.decision_log.specs.KeptRecords.{Known, tokens_of}
use Rattle.decision_log.specs.OutConditions.{IsLeaveOf, IsTold, leave_of, message_leave, notice_leave, own_leave, seat_leave}
use Rattle.decision_log.specs.Tokens.{Token, token_of}
use Rattle.decision_log.specs.declared.ready.Leave.TheVariants as leaves
use Rattle.decision_log.specs.declared.token.What.{What}
use Rattle.decision_log.specs.declared.token.What.TheVariants as whats
use Rattle.node_at.specs.PromiseLaws.{OutsMayLeave}
use Rattle.node_at.specs.Promises.{ArePromised, IsLeafPromised, IsPromised, Stands}
use Rattle.node_at.specs.Sends.{MayLeave, given}
use Rattle.node_at.specs.Steps.{if_landed}
use Rattle.node_at.proofs.IdFacts.{same_id}

found_all : {A : Type 0} (P : A → Type 0) (key : A → Numbers) (id : Numbers) (xs : List A) (x : A) → find_by key id xs ≡ Some x → AllByRecursion P xs → P x × (key x ≡ id)
found_all {A} P key id [] x e h = absurd (subst IsNone e tt) where
  IsNone : Option A → Type 0
  IsNone None = Unit {0}
  IsNone (Some y) = ⊥
found_all {A} P key id (y ∷ ys) x e (h, hs) = by (is_id (key y) id) refl e (λ f. found_all P key id ys x f hs) where
  inside : Option A → A
  inside None = y
  inside (Some z) = z

  by : (t : Bool) → is_id (key y) id ≡ t → (if t then Some y else find_by key id ys) ≡ Some x → (find_by key id ys ≡ Some x → P x × (key x ≡ id)) → P x × (key x ≡ id)
  by true same f rest = subst (λ z. P z × (key z ≡ id)) (ap inside f) (h, same_id (key y) id same)
  by false differs f rest = rest f

-- a token that is lent, or that of the record just appended
old_among : (t : Token) (o : Option Token) (k : Known) → IsAmong t (tokens_of k.live) → IsAmong t (given o k)
old_among t None k h = h
old_among t (Some u) k h = inr h

new_among : (entry : Option Record) (r : Record) (k : Known) → entry ≡ Some r → IsAmong (token_of r) (given (option_map token_of entry) k)
new_among entry r k e = subst (λ z. IsAmong (token_of r) (given (option_map token_of z) k)) (sym e) (inl refl)

leave_is : (p : Post) (own : Option Target) (n : Notice) → p.own ≡ own → p.message ≡ messages.Notice n → leave_of (outs.Post p) ≡ notice_leave own n
leave_is p own n e f = λ i. message_leave (e i) (f i)

module _ (ts : List Token) (ids : List Numbers) (o : Out) where
  free : leave_of o ≡ leaves.Free → MayLeave ts ids o
  free e = inl e

  echo : leave_of o ≡ leaves.Echo → MayLeave ts ids o
  echo e = inr (inl e)

  one : (id : Numbers) (a c : What) → leave_of o ≡ leaves.Record id a c → Stands ts id a → MayLeave ts ids o
  one id a c e h = inr (inr (inl (record { id = id; what = a }, h, subst (λ z. IsLeaveOf z (record { id = id; what = a })) (sym e) (refl, inl refl))))

  other : (id : Numbers) (a c : What) → leave_of o ≡ leaves.Record id a c → Stands ts id c → MayLeave ts ids o
  other id a c e h = inr (inr (inl (record { id = id; what = c }, h, subst (λ z. IsLeaveOf z (record { id = id; what = c })) (sym e) (refl, inr refl))))

abbrev IsSome : {A : Type 0} → Option A → Type 0
IsSome None = ⊥
IsSome (Some x) = Unit {0}

pub is_some : {A : Type 0} (o : Option A) → is_none o ≡ false → (x : A) × (o ≡ Some x)
is_some None e = absurd (true≢false e)
is_some (Some x) e = (x, refl)

-- the record of a commit, and of a vote
commit_stands : (how : How) (t : Transaction) (at : List Enlistment) (entry : Option Record) (k : Known) → IsCommit how → entry ≡ recorded how t at
    → Stands (given (option_map token_of entry) k) t.id whats.Decided ⊎ Stands (given (option_map token_of entry) k) t.id whats.SubCommitted
commit_stands Decides t at entry k is e = inl (new_among entry _ k e)
commit_stands DecidesAlone t at entry k is e = inl (new_among entry _ k e)
commit_stands Commits t at entry k is e = inr (new_among entry _ k e)
commit_stands Idles t at entry k is e = absurd is
commit_stands Aborts t at entry k is e = absurd is
commit_stands Votes t at entry k is e = absurd is
commit_stands Leaves t at entry k is e = absurd is
commit_stands RollsBack t at entry k is e = absurd is
commit_stands Ends t at entry k is e = absurd is
commit_stands Forgets t at entry k is e = absurd is

told_stands : (how : How) (t : Transaction) (at : List Enlistment) (entry : Option Record) (k : Known) → WhyInitiator how notices.Committed → entry ≡ recorded how t at
    → Stands (given (option_map token_of entry) k) t.id whats.Decided
told_stands Decides t at entry k is e = new_among entry _ k e
told_stands DecidesAlone t at entry k is e = new_among entry _ k e
told_stands Commits t at entry k is e = absurd is
told_stands Idles t at entry k is e = absurd is
told_stands Aborts t at entry k is e = absurd is
told_stands Votes t at entry k is e = absurd is
told_stands Leaves t at entry k is e = absurd is
told_stands RollsBack t at entry k is e = absurd is
told_stands Ends t at entry k is e = absurd is
told_stands Forgets t at entry k is e = absurd is

vote_stands : (how : How) (t : Transaction) (at : List Enlistment) (entry : Option Record) (k : Known) → how ≡ Votes → StoodFor how t → entry ≡ recorded how t at
    → Stands (given (option_map token_of entry) k) t.id whats.Voted
vote_stands how t at entry k is stood e =
    let s = subst (λ z. StoodFor z t) is stood in
    let (superior, known) = is_some (superior_at t.superior) s.1 in
    new_among entry (records.Voted t.id superior _) k (e ∙ ap (λ z. recorded z t at) is ∙ ap (option_map (λ x. records.Voted t.id x _)) known)

module _ (b : Book) (e : Event) (now : ℕ) (entry : Option Record) (out : Outcome) (k : Known) (promised : ArePromised b k) (p : Post) where
  abbrev ts : List Token
  ts = given (option_map token_of entry) k

  lent : (t : Token) → IsAmong t (tokens_of k.live) → IsAmong t ts
  lent t h = old_among t (option_map token_of entry) k h

  of_transaction : (d : TransactionDid b e now entry out) → IsPromised (tokens_of k.live) d.old
  of_transaction d = (found_all (IsPromised (tokens_of k.live)) transaction_id d.old.id b.transactions d.old d.found promised.transactions).0

  -- to a seat
  commit_leaves : (d : TransactionDid b e now entry out) (s : Enlistment) (kind : Kind) → s.kind ≡ kind → IsIn s d.old.seats → WhySeat e d.old d.deed.how s notices.Commit
      → leave_of (outs.Post p) ≡ seat_leave d.old.id kind notices.Commit → MayLeave ts k.done (outs.Post p)
  commit_leaves d s kinds.Volatile same there h leave = free ts k.done (outs.Post p) leave
  commit_leaves d s kinds.Durable same there (inl is) leave =
      ⊎_elim (λ z. one ts k.done (outs.Post p) d.old.id whats.Decided whats.SubCommitted leave (lent _ z))
      (λ z. other ts k.done (outs.Post p) d.old.id whats.Decided whats.SubCommitted leave (lent _ z)) ((of_transaction d).told s there same is)
  commit_leaves d s kinds.Durable same there (inr (is, voted)) leave =
      ⊎_elim (λ z. one ts k.done (outs.Post p) d.old.id whats.Decided whats.SubCommitted leave z)
      (λ z. other ts k.done (outs.Post p) d.old.id whats.Decided whats.SubCommitted leave z)
      (commit_stands d.deed.how d.old d.deed.at entry k is d.deed.records)

  seat_leaves : (d : TransactionDid b e now entry out) (s : Enlistment) (n : Notice) → IsIn s d.old.seats → WhySeat e d.old d.deed.how s n
      → leave_of (outs.Post p) ≡ seat_leave d.old.id s.kind n → MayLeave ts k.done (outs.Post p)
  seat_leaves d s notices.Commit there h leave = commit_leaves d s s.kind refl there h leave
  seat_leaves d s notices.Prepare there h leave = free ts k.done (outs.Post p) leave
  seat_leaves d s notices.Rollback there h leave = free ts k.done (outs.Post p) leave
  seat_leaves d s notices.Prepared there h leave = free ts k.done (outs.Post p) leave
  seat_leaves d s notices.ReadOnly there h leave = free ts k.done (outs.Post p) leave
  seat_leaves d s notices.Aborted there h leave = free ts k.done (outs.Post p) leave
  seat_leaves d s notices.Committed there h leave = free ts k.done (outs.Post p) leave

  -- to a superior
  superior_leaves : (d : TransactionDid b e now entry out) (kind : Kind) (n : Notice) → WhySuperior d.old d.deed.how d.deed.at kind n
      → leave_of (outs.Post p) ≡ own_leave (targets.Participant d.old.id kind) n → MayLeave ts k.done (outs.Post p)
  superior_leaves d kinds.Durable notices.Prepared (inl votes) leave =
      other ts k.done (outs.Post p) d.old.id whats.LeafPrepared whats.Voted leave (vote_stands d.deed.how d.old d.deed.at entry k votes d.deed.stood d.deed.records)
  superior_leaves d kinds.Durable notices.Prepared (inr voted) leave =
      other ts k.done (outs.Post p) d.old.id whats.LeafPrepared whats.Voted leave (lent _ ((of_transaction d).voted voted))
  superior_leaves d kinds.Durable notices.Committed ends leave =
      other ts k.done (outs.Post p) d.old.id whats.LeafCommitted whats.Ended leave (new_among entry (records.Ended d.old.id) k (d.deed.records ∙ ap (λ z. recorded z d.old d.deed.at) ends))
  superior_leaves d kinds.Durable notices.ReadOnly h leave = free ts k.done (outs.Post p) leave
  superior_leaves d kinds.Durable notices.Prepare h leave = free ts k.done (outs.Post p) leave
  superior_leaves d kinds.Durable notices.Commit h leave = free ts k.done (outs.Post p) leave
  superior_leaves d kinds.Durable notices.Rollback h leave = free ts k.done (outs.Post p) leave
  superior_leaves d kinds.Durable notices.Aborted h leave = free ts k.done (outs.Post p) leave
  superior_leaves d kinds.Volatile notices.Prepared h leave = free ts k.done (outs.Post p) leave
  superior_leaves d kinds.Volatile notices.Committed h leave = free ts k.done (outs.Post p) leave
  superior_leaves d kinds.Volatile notices.ReadOnly h leave = free ts k.done (outs.Post p) leave
  superior_leaves d kinds.Volatile notices.Prepare h leave = free ts k.done (outs.Post p) leave
  superior_leaves d kinds.Volatile notices.Commit h leave = free ts k.done (outs.Post p) leave
  superior_leaves d kinds.Volatile notices.Rollback h leave = free ts k.done (outs.Post p) leave
  superior_leaves d kinds.Volatile notices.Aborted h leave = free ts k.done (outs.Post p) leave

  -- to an initiator
  initiator_leaves : (d : TransactionDid b e now entry out) (n : Notice) → WhyInitiator d.deed.how n → leave_of (outs.Post p) ≡ own_leave (targets.Completion d.old.id) n → MayLeave ts k.done (outs.Post p)
  initiator_leaves d notices.Committed h leave = one ts k.done (outs.Post p) d.old.id whats.Decided whats.Decided leave (told_stands d.deed.how d.old d.deed.at entry k h d.deed.records)
  initiator_leaves d notices.Prepared h leave = free ts k.done (outs.Post p) leave
  initiator_leaves d notices.ReadOnly h leave = free ts k.done (outs.Post p) leave
  initiator_leaves d notices.Prepare h leave = free ts k.done (outs.Post p) leave
  initiator_leaves d notices.Commit h leave = free ts k.done (outs.Post p) leave
  initiator_leaves d notices.Rollback h leave = free ts k.done (outs.Post p) leave
  initiator_leaves d notices.Aborted h leave = free ts k.done (outs.Post p) leave

  -- where the outcome of a root is asked for again
  told_again : (id : Numbers) (found : Option Transaction) → transaction_at b id ≡ found → (decided : Bool) → is_decided_root found ≡ decided → (decided || is_kept id b.outcomes) ≡ true → p.own ≡ Some (targets.Completion id)
      → p.message ≡ messages.Notice notices.Committed → MayLeave ts k.done (outs.Post p)
  told_again id None is true root h own says = absurd (true≢false (sym root))
  told_again id (Some t) is true root h own says =
      let (promise, same) = found_all (IsPromised (tokens_of k.live)) transaction_id id b.transactions t is promised.transactions in
      one ts k.done (outs.Post p) id whats.Decided whats.Decided (leave_is p (Some (targets.Completion id)) notices.Committed own says)
      (lent _ (subst (λ z. Stands (tokens_of k.live) z whats.Decided) same (promise.decided root)))
  told_again id found is false root h own says =
      inr (inr (inr (subst (λ z. IsTold z k.done) (λ i. outs.Post (record p { own = sym own i; message = sym says i })) (subst (λ z. is_kept id z ≡ true) promised.outcomes h))))

  -- a leaf
  of_leaf : (d : LeafDid b e now entry out) → IsLeafPromised (tokens_of k.live) d.old
  of_leaf d = (found_all (IsLeafPromised (tokens_of k.live)) leaf_id d.old.id b.leaves d.old d.found promised.leaves).0

  abbrev IsWaiting : State → Type 0
  IsWaiting states.PreparedSuccess = Unit {0}
  IsWaiting other = ⊥

  abbrev the_leaf : Leaf → Option Leaf → Leaf
  the_leaf d None = d
  the_leaf d (Some l) = l

  -- a durable leaf that waits behind a step has its record
  idling_stands : (l left : Leaf) (c : Change Leaf) → IsLeafPromised (tokens_of k.live) l → LeafIdles (moment_of b now) e l left c.posts → left.state ≡ states.PreparedSuccess → l.kind ≡ kinds.Durable
      → Stands ts l.id whats.LeafPrepared
  idling_stands l left c own (rests same none) waits durable = lent _ (own.prepared durable (ap (λ (z : Leaf). z.state) (sym same) ∙ waits))
  idling_stands l left c own (registered coordinator r came answers was asked same posts) waits durable =
      absurd (subst IsWaiting (sym waits ∙ ap (λ (z : Leaf). z.state) same) tt)
  idling_stands l left c own (registers_again r due was asked same posts) waits durable =
      absurd (subst IsWaiting (sym waits ∙ ap (λ (z : Leaf). z.state) same ∙ was) tt)
  idling_stands l left c own (votes_again to why was known same posts) waits durable = lent _ (own.prepared durable was)

  durable_entry : (l : Leaf) (kind : Kind) (r : Record) → kind ≡ kinds.Durable → entry ≡ for_durable kind r → entry ≡ Some r
  durable_entry l kinds.Durable r durable is = is
  durable_entry l kinds.Volatile r durable is = absurd (subst IsVolatile durable tt) where
    IsVolatile : Kind → Type 0
    IsVolatile kinds.Volatile = Unit {0}
    IsVolatile kinds.Durable = ⊥

  waiting_stands : (l left : Leaf) (c : Change Leaf) → IsLeafPromised (tokens_of k.live) l → LeafDeed (moment_of b now) e l entry c → c.item ≡ Some left → left.state ≡ states.PreparedSuccess → l.kind ≡ kinds.Durable
      → Stands ts l.id whats.LeafPrepared
  waiting_stands l left c own (idles goes_on idle unrecorded item none) is waits durable =
      idling_stands l goes_on c own idle (ap (λ z. (the_leaf l z).state) (sym item ∙ is) ∙ waits) durable
  waiting_stands l left c own (prepares to came was vote known records item none posts) is waits durable = new_among entry _ k (durable_entry l l.kind _ durable records)
  waiting_stands l left c own (aborts was why unrecorded item happened) is waits durable = absurd (subst IsSome (sym is ∙ item) tt)
  waiting_stands l left c own (leaves_early to came was vote known unrecorded item none posts) is waits durable = absurd (subst IsSome (sym is ∙ item) tt)
  waiting_stands l left c own (dropped came kind unrecorded item none posts) is waits durable = absurd (subst IsSome (sym is ∙ item) tt)
  waiting_stands l left c own (commits to came was known records item happened posts) is waits durable = absurd (subst IsSome (sym is ∙ item) tt)
  waiting_stands l left c own (rolls_back to came was known records item happened posts) is waits durable = absurd (subst IsSome (sym is ∙ item) tt)

  abbrev Committed : List Effect → Type 0
  Committed (effects.Leaf id kind endings.Committed ∷ rest) = Unit {0}
  Committed other = ⊥

  committed_stands : (l : Leaf) (c : Change Leaf) → LeafDeed (moment_of b now) e l entry c → c.effects ≡ leaf_ended l endings.Committed ∷ [] → l.kind ≡ kinds.Durable
      → Stands ts l.id whats.LeafCommitted
  committed_stands l c (commits to came was known records item happened posts) is durable = new_among entry _ k (durable_entry l l.kind _ durable records)
  committed_stands l c (idles goes_on idle unrecorded item none) is durable = absurd (subst Committed (sym is ∙ none) tt)
  committed_stands l c (prepares to came was vote known records item none posts) is durable = absurd (subst Committed (sym is ∙ none) tt)
  committed_stands l c (aborts was why unrecorded item happened) is durable = absurd (subst Committed (sym is ∙ happened) tt)
  committed_stands l c (leaves_early to came was vote known unrecorded item none posts) is durable = absurd (subst Committed (sym is ∙ none) tt)
  committed_stands l c (dropped came kind unrecorded item none posts) is durable = absurd (subst Committed (sym is ∙ none) tt)
  committed_stands l c (rolls_back to came was known records item happened posts) is durable = absurd (subst Committed (sym is ∙ happened) tt)

  prepared_leaves : (d : LeafDid b e now entry out) (left : Leaf) (kind : Kind) → d.old.kind ≡ kind → d.change.item ≡ Some left → left.state ≡ states.PreparedSuccess
      → leave_of (outs.Post p) ≡ own_leave (targets.Participant d.old.id kind) notices.Prepared → MayLeave ts k.done (outs.Post p)
  prepared_leaves d left kinds.Volatile same is waits leave = free ts k.done (outs.Post p) leave
  prepared_leaves d left kinds.Durable same is waits leave =
      one ts k.done (outs.Post p) d.old.id whats.LeafPrepared whats.Voted leave (waiting_stands d.old left d.change (of_leaf d) d.deed is waits same)

  committed_leaves : (d : LeafDid b e now entry out) (kind : Kind) → d.old.kind ≡ kind → d.change.effects ≡ leaf_ended d.old endings.Committed ∷ []
      → leave_of (outs.Post p) ≡ own_leave (targets.Participant d.old.id kind) notices.Committed → MayLeave ts k.done (outs.Post p)
  committed_leaves d kinds.Volatile same is leave = free ts k.done (outs.Post p) leave
  committed_leaves d kinds.Durable same is leave = one ts k.done (outs.Post p) d.old.id whats.LeafCommitted whats.Ended leave (committed_stands d.old d.change d.deed is same)

  leaf_leaves : (d : LeafDid b e now entry out) (n : Notice) → p.message ≡ messages.Notice n → LeafSays (moment_of b now) e d.old d.change p → MayLeave ts k.done (outs.Post p)
  leaf_leaves d n says (prepared to left known is item waits) = prepared_leaves d left d.old.kind refl item waits (ap (λ z. leave_of (outs.Post z)) is)
  leaf_leaves d n says (committed to known is item happened) = committed_leaves d d.old.kind refl happened (ap (λ z. leave_of (outs.Post z)) is)
  leaf_leaves d n says (read_only to known is was item none) = free ts k.done (outs.Post p) (ap (λ z. leave_of (outs.Post z)) is)
  leaf_leaves d n says (aborted to known is item happened) = free ts k.done (outs.Post p) (ap (λ z. leave_of (outs.Post z)) is)
  leaf_leaves d n says (tells_nothing silent) = absurd (subst IsNoNotice says silent)

  -- where nothing is known
  none_leaves : (asked n : Notice) → AnswersAsNone asked n → leave_of (outs.Post p) ≡ notice_leave None n → MayLeave ts k.done (outs.Post p)
  none_leaves notices.Prepare n is leave = echo ts k.done (outs.Post p) (leave ∙ ap (notice_leave None) is)
  none_leaves notices.Commit n is leave = echo ts k.done (outs.Post p) (leave ∙ ap (notice_leave None) is)
  none_leaves notices.Rollback n is leave = echo ts k.done (outs.Post p) (leave ∙ ap (notice_leave None) is)
  none_leaves notices.Prepared n is leave = absurd is
  none_leaves notices.ReadOnly n is leave = absurd is
  none_leaves notices.Aborted n is leave = absurd is
  none_leaves notices.Committed n is leave = absurd is

  notice_leaves : (n : Notice) → p.message ≡ messages.Notice n → Tells b e now entry out n p → MayLeave ts k.done (outs.Post p)
  notice_leaves n says (to_seat d s there why from) = seat_leaves d s n there why (leave_is p _ n from.owned says)
  notice_leaves n says (to_left_seat d s there durable left said is from) = echo ts k.done (outs.Post p) (leave_is p _ n from.unowned says ∙ ap (notice_leave None) is)
  notice_leaves n says (to_superior d kind to known why from) = superior_leaves d kind n why (leave_is p _ n from.owned says)
  notice_leaves n says (says_aborted d kind to sub aborting is known from) = free ts k.done (outs.Post p) (leave_is p _ n from.owned says ∙ ap (own_leave (targets.Participant d.old.id kind)) is)
  notice_leaves n says (from_left_link d kind s to sub left said is known from) = echo ts k.done (outs.Post p) (leave_is p _ n from.unowned says ∙ ap (notice_leave None) is)
  notice_leaves n says (left_link_aborted d kind to sub is known from) = echo ts k.done (outs.Post p) (leave_is p _ n from.unowned says ∙ ap (notice_leave None) is)
  notice_leaves n says (to_initiator d to known why from) = initiator_leaves d n why (leave_is p _ n from.owned says)
  notice_leaves n says (to_asking d c to is done said committing from) =
      one ts k.done (outs.Post p) d.old.id whats.Decided whats.Decided (leave_is p _ n from.owned says ∙ ap (own_leave (targets.Completion d.old.id)) committing)
      (lent _ ((of_transaction d).done c is done))
  notice_leaves n says (leaf_says d why) = leaf_leaves d n says why
  notice_leaves n says (activity_says d (completing m to left completes known is item goes)) = free ts k.done (outs.Post p) (ap (λ z. leave_of (outs.Post z)) is)
  notice_leaves n says (activity_says d (activity_silent silent)) = absurd (subst IsNoNotice says silent)
  notice_leaves n says (to_late_seat d kind late prepare there is) = free ts k.done (outs.Post p) (ap (λ z. leave_of (outs.Post z)) is)
  notice_leaves n says (as_no_seat d id s to target durable unknown asked from rollback is) = echo ts k.done (outs.Post p) (ap (λ z. leave_of (outs.Post z)) is)
  notice_leaves n says (as_no_participant d id kind to asked target unknown came answers from is) = none_leaves asked n answers (ap (λ z. leave_of (outs.Post z)) is)
  notice_leaves n says (as_committed d id to target has came from committing is) =
      told_again id (transaction_at b id) refl (is_decided_root (transaction_at b id)) refl has (ap (λ (z : Post). z.own) is) (ap (λ (z : Post). z.message) is)

  message_leaves : (m : Message) → p.message ≡ m → Says b e now entry out p m → MayLeave ts k.done (outs.Post p)
  message_leaves (messages.Notice n) says h = notice_leaves n says h
  message_leaves (messages.Create c) says h = free ts k.done (outs.Post p) (ap (message_leave p.own) says)
  message_leaves (messages.CreateResponse c) says h = free ts k.done (outs.Post p) (ap (message_leave p.own) says)
  message_leaves (messages.Register c) says h = free ts k.done (outs.Post p) (ap (message_leave p.own) says)
  message_leaves (messages.RegisterResponse c) says h = free ts k.done (outs.Post p) (ap (message_leave p.own) says)
  message_leaves (messages.Work c) says h = free ts k.done (outs.Post p) (ap (message_leave p.own) says)
  message_leaves messages.WorkDone says h = free ts k.done (outs.Post p) (ap (message_leave p.own) says)
  message_leaves messages.WorkRefused says h = free ts k.done (outs.Post p) (ap (message_leave p.own) says)
  message_leaves (messages.Fault name) says h = free ts k.done (outs.Post p) (ap (message_leave p.own) says)

out_leaves : (b : Book) (e : Event) (now : ℕ) (entry : Option Record) (out : Outcome) (k : Known) → ArePromised b k → (o : Out) → OutIsSaid b e now entry out o
    → MayLeave (given (option_map token_of entry) k) k.done o
out_leaves b e now entry out k promised (outs.Post p) h = message_leaves b e now entry out k promised p p.message refl h
out_leaves b e now entry out k promised (outs.Answer status reply) h = inl refl

all_leave : (P Q : Out → Type 0) → ((o : Out) → P o → Q o) → (os : List Out) → AllByRecursion P os → AllByRecursion Q os
all_leave P Q f [] h = tt
all_leave P Q f (o ∷ os) (h, hs) = (f o h, all_leave P Q f os hs)

pub same_entry : (landed : Bool) (entry : Option Record) → standing landed entry ≡ if_landed landed entry
same_entry true entry = refl
same_entry false entry = refl

pub outs_may_leave : StepsTell → OutsMayLeave
outs_may_leave tell b k e now landed ready promised =
    subst (λ z. AllByRecursion (MayLeave (given (option_map token_of z) k) k.done) (step b e now landed).outs) (same_entry landed (plan b e now).entry)
    (all_leave _ _ (out_leaves b e now (standing landed (plan b e now).entry) (step b e now landed) k promised) (step b e now landed).outs (tell.says b e now landed ready))
