-- What goes to a participant comes from its seat, and what goes to a completion seat from its initiator.
use Rattle.std.specs.Prelude.{ℕ, Some, None, Bool, ◌≡◌, ◌⊎◌, refl}
use Rattle.std.specs.List.{AllByRecursion}
use Rattle.std.proofs.Common.{inl, inr, sym, subst, ap, ◌∙◌}
use Rattle.at_base.specs.Numbers.{Numbers}
use Rattle.at_base.specs.IdText.{IsId}
use Rattle.at_base.specs.declared.epr.Epr.{Epr}
use Rattle.at_base.specs.declared.notice.Kind.{Kind}
use Rattle.at_base.specs.declared.notice.Notice.{Notice}
use Rattle.at_base.specs.declared.notice.Notice.TheVariants as notices
use Rattle.at_base.specs.declared.message.Message.TheVariants as messages
use Rattle.at_base.specs.declared.event.Event.{Event}
use Rattle.at_base.specs.declared.outs.Post.{Post}
use Rattle.at_base.specs.declared.target.Seat.{Seat}
use Rattle.at_base.specs.declared.target.Target.{Target}
use Rattle.at_base.specs.declared.target.Target.TheVariants as targets
use Rattle.endpoints.specs.Addresses.{endpoint_of}
use Rattle.at_model.specs.Book.{Book, Enlistment, Transaction, activity_id, transaction_id}
use Rattle.at_model.specs.Register.{new_seat}
use Rattle.at_model.specs.Seats.{seat_target}
use Rattle.at_model.specs.Step.{moment_of, plan, step}
use Rattle.at_model.specs.World.{Node, World, Hosts, HaveOwnAddresses}
use Rattle.model_laws.specs.Agreement.{IsAccepted, IsIn}
use Rattle.model_laws.specs.PhaseAnswers.{accepted_as}
use Rattle.model_laws.specs.Growth.{Grows}
use Rattle.model_laws.specs.ReachedWorlds.{Reached, counts}
use Rattle.model_laws.proofs.DecisionLaws.{all_find}
use Rattle.model_laws.proofs.StepRegistrations.{Meets}
use Rattle.model_laws.proofs.Registrations.{world_good}
use Rattle.model_laws.proofs.Growth.{grows_counts, takes_nothing_back}
use Rattle.model_laws.proofs.MovePosts.{activity_standing}
use Rattle.agreement.specs.StepDeeds.{standing}
use Rattle.agreement.specs.Places.{HasPath}
use Rattle.enlistments.specs.KnownCoordinators.{ActivityKnows, AsksAsInitiator, AsksItsOwn, IsAsked, IsVoteOf}
use Rattle.enlistments.specs.Leads.{CompletesIfKnown, Enlists, LeadsTo}
use Rattle.enlistments.specs.Moves.{Answered, TransactionDid}
use Rattle.enlistments.specs.Senses.{Ask, Asks, asks_completion, asks_late_seat, asks_left_seat, asks_no_seat, asks_seat, sense}
use Rattle.enlistments.proofs.Answers.{held_after, keeps_id}
use Rattle.enlistments.proofs.Arrivals.{HasCome, Stepping, has_come, step_ready, up_known}
use Rattle.enlistments.proofs.Books.{books_know}
use Rattle.enlistments.proofs.LastingLeads.{Held, enlists_on, found_stands, seat_enlists, seat_placed}
use Rattle.enlistments.proofs.Places.{IsPlaced}
use Rattle.enlistments.proofs.Posts.{PostLaw, posts_have}
use Rattle.enlistments.proofs.Senses.{steps_sense}
use Rattle.enlistments.proofs.SeatVotes.{same_to, signed_home, vote_at_seat, written_by}

-- a transaction that moves
held_before : (hosts : Hosts) (u : World) (n : ℕ) (x : Node) (b : Book) (e : Event) (now : ℕ) (landed : Bool) → Stepping hosts u n x b e now landed
    → (d : TransactionDid b e now (standing landed (plan b e now).entry) (step b e now landed)) → Held hosts u n d.old
held_before hosts u n x b e now landed s d = record {
  distinct = s.distinct;
  reached = s.reached;
  x = x;
  b = b;
  found = s.found;
  up = s.up;
  stands = found_stands transaction_id d.old.id d.old b.transactions d.found;
}

seat_asks : (hosts : Hosts) (u : World) (n : ℕ) (x : Node) (b : Book) (e : Event) (now : ℕ) (landed : Bool) → Stepping hosts u n x b e now landed
    → (d : TransactionDid b e now (standing landed (plan b e now).entry) (step b e now landed)) (q : Enlistment) (to c : Epr) (m : ℕ) (i : Numbers) (kind : Kind) → IsIn q d.old.seats
    → q.participant ≡ to → LeadsTo hosts to m (targets.Participant i kind) → c ≡ endpoint_of (hosts.base_of n) (seat_target d.old.id q)
    → Enlists hosts (counts u n x b e now landed) c (record { node = m; id = i }) kind
seat_asks hosts u n x b e now landed s d q to c m i kind sits is leads from =
    enlists_on hosts u (counts u n x b e now landed) (grows_counts u n x b e now landed s.found) c (record { node = m; id = i }) kind
    (subst (λ y. Enlists hosts u y (record { node = m; id = i }) kind) (sym from)
    (seat_enlists hosts u n d.old q m i kind (held_before hosts u n x b e now landed s d) sits (subst (λ y. LeadsTo hosts y m (targets.Participant i kind)) (sym is) leads)))

-- where no such seat is known: the participant that voted there was accepted there
voter_asked : (hosts : Hosts) (u : World) (n : ℕ) (x : Node) (b : Book) (e : Event) (now : ℕ) (landed : Bool) → Stepping hosts u n x b e now landed
    → (d : Answered b e now (standing landed (plan b e now).entry) (step b e now landed)) (id : Numbers) (q : Seat) → d.arrived.target ≡ targets.Coordinator id q
    → d.arrived.message ≡ messages.Notice notices.Prepared → (h : HasCome hosts u n d.arrived) × IsVoteOf hosts u h.posted n id q × HasPath (targets.Coordinator id q)
voter_asked hosts u n x b e now landed s d id q at says =
    let h : HasCome hosts u n d.arrived = has_come hosts u n x b e now landed d.arrived s d.came in (
      h,
      vote_at_seat hosts u s.distinct s.reached h.posted h.stands notices.Prepared h.to n id q (h.message ∙ says) (inl refl) h.sent (subst (λ T. LeadsTo hosts h.to n T) at h.leads),
      subst HasPath at h.path,
    )

stranger_asks : (hosts : Hosts) (u : World) (n : ℕ) (x : Node) (b : Book) (e : Event) (now : ℕ) (landed : Bool) → Stepping hosts u n x b e now landed
    → (d : Answered b e now (standing landed (plan b e now).entry) (step b e now landed)) (id : Numbers) (q : Seat) (to c : Epr) (m : ℕ) (i : Numbers) (kind : Kind)
    → d.arrived.target ≡ targets.Coordinator id q → d.arrived.message ≡ messages.Notice notices.Prepared → d.arrived.from ≡ Some to → LeadsTo hosts to m (targets.Participant i kind)
    → c ≡ endpoint_of (hosts.base_of n) (targets.Coordinator id q) → Enlists hosts (counts u n x b e now landed) c (record { node = m; id = i }) kind
stranger_asks hosts u n x b e now landed s d id q to c m i kind at says goes leads from k T l =
    let (h, vote, path) = voter_asked hosts u n x b e now landed s d id q at says in
    let (there, is) = vote.from to m (targets.Participant i kind) (sym h.from ∙ goes) leads in
    let (here, own) = signed_home hosts u n x b e now landed s (targets.Coordinator id q) T c k from path l in
    let (who, of_kind) = same_participant i vote.item kind q.kind is in (
      id,
      q.number,
      own ∙ (λ j. targets.Coordinator id (record { number = q.number; kind = sym of_kind j })),
      takes_nothing_back.accepted u (counts u n x b e now landed) (grows_counts u n x b e now landed s.found) _ _ (record { node = m; id = i })
          (subst (λ a. IsIn a u.accepted) (λ j. record {
            transaction = record { node = sym here j; id = id };
            seat = Some (record { number = q.number; kind = sym of_kind j });
            participant = Some (record { node = sym there j; id = sym who j });
          }) vote.accepted),
    )
  where
    same_participant : (i j : Numbers) (k l : Kind) → targets.Participant i k ≡ targets.Participant j l → (i ≡ j) × (k ≡ l)
    same_participant i j k l e = (cc, cc)

not_completion : (i j : Numbers) (kind : Kind) → targets.Participant i kind ≡ targets.Completion j → ⊥
not_completion i j kind e = cc

-- to a participant
asks_own : (hosts : Hosts) (u : World) (n : ℕ) (x : Node) (b : Book) (e : Event) (now : ℕ) (landed : Bool) → Stepping hosts u n x b e now landed → (v : Notice) (p : Post) (to c : Epr) (m : ℕ)
    (i : Numbers) (kind : Kind) → p.to ≡ Some to → LeadsTo hosts to m (targets.Participant i kind) → p.from ≡ Some c
    → Asks b e now (standing landed (plan b e now).entry) (step b e now landed) v p → Enlists hosts (counts u n x b e now landed) c (record { node = m; id = i }) kind
asks_own hosts u n x b e now landed s v p to c m i kind goes leads from (asks_seat d q sits why is) =
    seat_asks hosts u n x b e now landed s d q to c m i kind sits (same_to p q.participant to is.sent goes) leads
    (written_by hosts u n x b e now landed s v (seat_target d.old.id q) p.from c is.from from)
asks_own hosts u n x b e now landed s v p to c m i kind goes leads from (asks_left_seat d q sits durable left said f is) =
    seat_asks hosts u n x b e now landed s d q to c m i kind sits (same_to p q.participant to is.sent goes) leads
    (written_by hosts u n x b e now landed s v (seat_target d.old.id q) p.from c is.from from)
asks_own hosts u n x b e now landed s v p to c m i kind goes leads from (asks_late_seat d k late f sits is) =
    let q : Enlistment = new_seat d.old d.request.participant k in
    let written : c ≡ endpoint_of (hosts.base_of n) (seat_target d.gives.transaction.id q) =
    written_by hosts u n x b e now landed s notices.Prepare (seat_target d.old.id q) p.from c (ap (λ (y : Post). y.from) is) from
    ∙ ap (λ j. endpoint_of (hosts.base_of n) (seat_target j q)) (sym (keeps_id (moment_of b now) d.arrived d.request d.old d.gives d.enrolls)) in
    subst (λ y. Enlists hosts (counts u n x b e now landed) y (record { node = m; id = i }) kind) (sym written)
    (seat_enlists hosts (counts u n x b e now landed) n d.gives.transaction q m i kind (held_after hosts u n x b e now landed s d) sits
    (subst (λ y. LeadsTo hosts y m (targets.Participant i kind)) (sym (same_to p d.request.participant to (ap (λ (y : Post). y.to) is) goes)) leads))
asks_own hosts u n x b e now landed s v p to c m i kind goes leads from (asks_no_seat d id q y at durable none says asked f is) =
    stranger_asks hosts u n x b e now landed s d id q to c m i kind at says (asked ∙ ap Some (same_to p y to (ap (λ (z : Post). z.to) is) goes)) leads
    (written_by hosts u n x b e now landed s notices.Rollback (targets.Coordinator id q) p.from c (ap (λ (z : Post). z.from) is) from)
asks_own hosts u n x b e now landed s v p to c m i kind goes leads from (asks_completion d y wants knows is) =
    let h : ActivityKnows hosts u n d.old =
    all_find (ActivityKnows hosts u n) activity_id d.old.id b.activities d.old (books_know hosts u s.distinct s.reached n x b s.found s.up).activities d.found in
    let (id, at, accepted) = subst (λ o. CompletesIfKnown hosts u o (record { node = n; id = d.old.id }))
    (knows ∙ ap Some (same_to p y to (ap (λ (z : Post). z.to) is) goes)) h m (targets.Participant i kind) leads in
    absurd (not_completion i id kind at)

is_asked : (v : Notice) → IsAsked v → sense v ≡ Ask
is_asked v (inl e) = ap sense e
is_asked v (inr (inl e)) = ap sense e
is_asked v (inr (inr e)) = ap sense e

asking : (hosts : Hosts) → PostLaw hosts
asking hosts = record {
  Of = AsksItsOwn hosts;
  on = λ u w g p h v to c m i kind says is goes leads from. enlists_on hosts u w g c (record { node = m; id = i }) kind (h v to c m i kind says is goes leads from);
  new = λ u n x b e now landed s h p i r v to c m j kind says is goes leads from.
      asks_own hosts u n x b e now landed s v p to c m j kind goes leads from (steps_sense.asks b e now landed (step_ready hosts u n x b e now landed s) p v i says (is_asked v is));
}

pub asks_its_own : (hosts : Hosts) (w : World) → HaveOwnAddresses hosts → Reached hosts w → AllByRecursion (AsksItsOwn hosts w) w.posted
unfolding asking
asks_its_own hosts w distinct reached = posts_have hosts distinct (asking hosts) w reached

-- to a completion seat: a seat's participant is no completion seat
seat_no_completion : (hosts : Hosts) (u : World) (n : ℕ) (t : Transaction) (q : Enlistment) (to : Epr) (m : ℕ) (id : Numbers) → Held hosts u n t → IsIn q t.seats → q.participant ≡ to
    → LeadsTo hosts to m (targets.Completion id) → ⊥
seat_no_completion hosts u n t q to m id h sits is leads =
    let p : IsPlaced hosts (accepted_as q) = seat_placed hosts u n t q h sits in
    let (i, at) = p.kind m (targets.Completion id) (subst (λ y. LeadsTo hosts y m (targets.Completion id)) (sym is) leads) in
    not_completion i id q.kind (sym at)

-- what an initiator asks
abbrev AsksAt : Hosts → World → ℕ → Numbers → ℕ → Target → Type 0
AsksAt hosts w m id k T = (i : Numbers) × (T ≡ targets.Initiator i) × IsAccepted w (record { node = m; id = id }) None (record { node = k; id = i })

asks_as_initiator : (hosts : Hosts) (u : World) (n : ℕ) (x : Node) (b : Book) (e : Event) (now : ℕ) (landed : Bool) → Stepping hosts u n x b e now landed → (v : Notice) (p : Post) (to c : Epr)
    (m k : ℕ) (id : Numbers) (T : Target) → p.to ≡ Some to → LeadsTo hosts to m (targets.Completion id) → p.from ≡ Some c → LeadsTo hosts c k T
    → Asks b e now (standing landed (plan b e now).entry) (step b e now landed) v p → AsksAt hosts (counts u n x b e now landed) m id k T
asks_as_initiator hosts u n x b e now landed s v p to c m k id T goes leads from l (asks_seat d q sits why is) =
    absurd (seat_no_completion hosts u n d.old q to m id (held_before hosts u n x b e now landed s d) sits (same_to p q.participant to is.sent goes) leads)
asks_as_initiator hosts u n x b e now landed s v p to c m k id T goes leads from l (asks_left_seat d q sits durable left said g is) =
    absurd (seat_no_completion hosts u n d.old q to m id (held_before hosts u n x b e now landed s d) sits (same_to p q.participant to is.sent goes) leads)
asks_as_initiator hosts u n x b e now landed s v p to c m k id T goes leads from l (asks_late_seat d kind late g sits is) =
    absurd (seat_no_completion hosts (counts u n x b e now landed) n d.gives.transaction (new_seat d.old d.request.participant kind) to m id (held_after hosts u n x b e now landed s d) sits
    (same_to p d.request.participant to (ap (λ (y : Post). y.to) is) goes) leads)
asks_as_initiator hosts u n x b e now landed s v p to c m k id T goes leads from l (asks_no_seat d j q y at durable none says asked g is) =
    let (h, vote, path) = voter_asked hosts u n x b e now landed s d j q at says in
    absurd (not_completion vote.item id q.kind
    (sym (vote.from to m (targets.Completion id) (sym h.from ∙ asked ∙ ap Some (same_to p y to (ap (λ (z : Post). z.to) is) goes)) leads).1))
asks_as_initiator hosts u n x b e now landed s v p to c m k id T goes leads from l (asks_completion d y wants knows is) =
    let h : ActivityKnows hosts u n d.old =
    all_find (ActivityKnows hosts u n) activity_id d.old.id b.activities d.old (books_know hosts u s.distinct s.reached n x b s.found s.up).activities d.found in
    let (j, at, accepted) = subst (λ o. CompletesIfKnown hosts u o (record { node = n; id = d.old.id }))
    (knows ∙ ap Some (same_to p y to (ap (λ (z : Post). z.to) is) goes)) h m (targets.Completion id) leads in
    let small : IsId d.old.id =
    (all_find (λ a. Meets ((world_good hosts u s.distinct s.reached).choices n a.id) (activity_standing a) × IsId a.id) activity_id d.old.id b.activities d.old
    (up_known hosts u s.distinct s.reached n x b s.found s.up).says.fits.activities d.found).1 in
    let (here, own) = signed_home hosts u n x b e now landed s (targets.Initiator d.old.id) T c k
    (written_by hosts u n x b e now landed s v (targets.Initiator d.old.id) p.from c (ap (λ (z : Post). z.from) is) from) small l in
    let same : id ≡ j = same_completion id j at in (
      d.old.id,
      own,
      takes_nothing_back.accepted u (counts u n x b e now landed) (grows_counts u n x b e now landed s.found) _ None (record { node = k; id = d.old.id })
          (subst (λ a. IsIn a u.accepted) (λ r. record {
            transaction = record { node = m; id = sym same r };
            seat = None;
            participant = Some (record { node = sym here r; id = d.old.id });
          }) accepted),
    )
  where
    same_completion : (i j : Numbers) → targets.Completion i ≡ targets.Completion j → i ≡ j
    same_completion i j e = cc

asks_at_on : (hosts : Hosts) (u w : World) → Grows u w → (m : ℕ) (id : Numbers) (k : ℕ) (T : Target) → AsksAt hosts u m id k T → AsksAt hosts w m id k T
asks_at_on hosts u w g m id k T (i, at, accepted) = (i, at, takes_nothing_back.accepted u w g _ None (record { node = k; id = i }) accepted)

is_completed : (v : Notice) → (v ≡ notices.Commit) ⊎ (v ≡ notices.Rollback) → sense v ≡ Ask
is_completed v (inl e) = ap sense e
is_completed v (inr e) = ap sense e

completing : (hosts : Hosts) → PostLaw hosts
completing hosts = record {
  Of = AsksAsInitiator hosts;
  on = λ u w g p h v to c m k id T says is goes leads from l. asks_at_on hosts u w g m id k T (h v to c m k id T says is goes leads from l);
  new = λ u n x b e now landed s h p i r v to c m k id T says is goes leads from l.
      asks_as_initiator hosts u n x b e now landed s v p to c m k id T goes leads from l
      (steps_sense.asks b e now landed (step_ready hosts u n x b e now landed s) p v i says (is_completed v is));
}

pub initiators_ask : (hosts : Hosts) (w : World) → HaveOwnAddresses hosts → Reached hosts w → AllByRecursion (AsksAsInitiator hosts w) w.posted
unfolding completing
initiators_ask hosts w distinct reached = posts_have hosts distinct (completing hosts) w reached
