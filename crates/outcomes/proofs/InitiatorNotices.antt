-- A Committed or an Aborted that goes to an initiator says what the root did that accepted it.
use Rattle.std.specs.Prelude.{ℕ, List, [], ◌∷◌, Option, Some, None, Bool, true, false, is_none, ◌||◌, ◌≡◌, refl}
use Rattle.std.specs.List.{AllByRecursion}
use Rattle.std.proofs.Common.{inl, inr, sym, subst, ap, ◌∙◌}
use Rattle.at_base.specs.Numbers.{Numbers}
use Rattle.at_base.specs.declared.epr.Epr.{Epr}
use Rattle.at_base.specs.declared.event.Arrived.{Arrived}
use Rattle.at_base.specs.declared.event.Event.{Event}
use Rattle.at_base.specs.declared.event.Event.TheVariants as events
use Rattle.at_base.specs.declared.notice.Notice.TheVariants as notices
use Rattle.at_base.specs.declared.message.Message.TheVariants as messages
use Rattle.at_base.specs.declared.outs.Ending.{Ending}
use Rattle.at_base.specs.declared.outs.Ending.TheVariants as endings
use Rattle.at_base.specs.declared.outs.Effect.{Effect}
use Rattle.at_base.specs.declared.outs.Effect.TheVariants as effects
use Rattle.at_base.specs.declared.outs.Post.{Post}
use Rattle.at_base.specs.declared.target.Target.TheVariants as targets
use Rattle.at_tables.specs.declared.cells.State.TheVariants as states
use Rattle.at_model.specs.Book.{Book, Completion, Phase, Superior, Transaction, transaction_id}
use Rattle.at_model.specs.Due.{may_expire}
use Rattle.at_model.specs.Outcomes.{is_kept}
use Rattle.at_model.specs.Seats.{ending, ending_of}
use Rattle.at_model.specs.Step.{has_committed, is_committing, is_decided_root, moment_of, plan, step, transaction_at}
use Rattle.at_model.specs.World.{Node, Who, World, accepted_completion, happened_at, new_nodes, who_at, Hosts}
use Rattle.model_laws.specs.Agreement.{IsAccepted, IsIn, IsOutcomeOf, ends_as}
use Rattle.model_laws.specs.Registrations.{IsEnlisted}
use Rattle.model_laws.specs.Growth.{Grows}
use Rattle.model_laws.specs.Links.{AreLinked}
use Rattle.model_laws.specs.ReachedWorlds.{counts}
use Rattle.model_laws.proofs.DecisionLaws.{all_find, first_true, found_id, in_front, second_true}
use Rattle.model_laws.proofs.Growth.{takes_nothing_back}
use Rattle.model_laws.proofs.Nodes.{who_same}
use Rattle.agreement.specs.ActivityDeeds.{Completes as AsksTo}
use Rattle.agreement.specs.Deeds.{How, WhyInitiator, happens, initiator}
use Rattle.agreement.specs.StepDeeds.{standing}
use Rattle.agreement.specs.Lives.{ends, happened_on}
use Rattle.agreement.proofs.TransactionLives.{TransactionLife, aborted as has_aborted, committed as has_committed_sub, decided as has_decided, undecided as is_undecided, voted as has_voted}
use Rattle.enlistments.specs.Leads.{LeadsTo}
use Rattle.enlistments.specs.Moves.{TransactionDid}
use Rattle.enlistments.specs.NoticeOrigins.{Tells, activity_says, as_committed, as_no_participant, as_no_seat, from_left_link, leaf_says, left_link_aborted, says_aborted, to_asking, to_initiator, to_late_seat, to_left_seat, to_seat, to_superior}
use Rattle.votes.proofs.Committeds.{asker_enlists, asking_initiator, link_enlists}
use Rattle.votes.proofs.StepItems.{effect_there, grown, stands_as}
use Rattle.votes.proofs.Premises.{StepPremises}
use Rattle.votes.proofs.ToldAborts.{filtered_from}
use Rattle.votes.proofs.ItemEnds.{from_there}
use Rattle.outcomes.specs.Foundations.{SaysOutcome}
use Rattle.outcomes.proofs.Decisions.{IsCommittedRoot, kept_root}
use Rattle.outcomes.proofs.UpwardNotices.{asks_only, leads_same, leaf_upwards, no_initiator, none_asked, upwards}

-- an initiator is a root's
root_alone : (hosts : Hosts) (u : World) (n : ℕ) (x : Node) (b : Book) (e : Event) → StepPremises hosts u n x b e → (t : Transaction) → transaction_at b t.id ≡ Some t → (c : Completion) → t.completion ≡ Some c
    → t.superior ≡ None
root_alone hosts u n x b e p t found c has = by_superior t.superior refl (all_find (λ y. AreLinked y.phase y.superior y.completion) transaction_id t.id b.transactions t p.ready.phases.links found)
  where
    by_superior : (s : Option Superior) → t.superior ≡ s → AreLinked t.phase s t.completion → t.superior ≡ None
    by_superior None f h = f
    by_superior (Some s) f (h, none) = let g : None ≡ Some c = sym none ∙ has in absurd cc

some_initiator : (o : Option Completion) (up : Epr) → initiator o ≡ Some up → (c : Completion) × (o ≡ Some c) × (c.initiator ≡ up)
some_initiator None up e = absurd cc
some_initiator (Some c) up e = (c, refl, cc)

-- whom its initiator's endpoint leads to was accepted by it
initiator_accepted : (hosts : Hosts) (u : World) (n : ℕ) (x : Node) (b : Book) (e : Event) → StepPremises hosts u n x b e → (t : Transaction) → transaction_at b t.id ≡ Some t → (c : Completion)
    → t.completion ≡ Some c → (m : ℕ) (i : Numbers) → LeadsTo hosts c.initiator m (targets.Initiator i) → IsAccepted u (record { node = n; id = t.id }) None (record { node = m; id = i })
initiator_accepted hosts u n x b e p t found c has m i leads =
    let (h, rest) = subst (λ o. AllByRecursion (λ acc. IsIn acc u.accepted) (accepted_completion n u.nodes t.id None o)) has
    (all_find (IsEnlisted u n) transaction_id t.id b.transactions t (p.world.laws.seated.enlisted n x b p.found p.up) found).1 in
    subst (λ o. IsIn (record { transaction = record { node = n; id = t.id }; seat = None; participant = o }) u.accepted)
    (who_same u.nodes (new_nodes hosts.base_of hosts.count 1) c.initiator p.world.laws.bases ∙ ap who_at leads) h

accepted_on : (u w : World) → Grows u w → (t y : Who) → IsAccepted u t None y → IsAccepted w t None y
accepted_on u w g t y h = takes_nothing_back.accepted u w g t None y h

-- what the deed does is what its initiator hears
root_now : (u : World) (n : ℕ) (x : Node) (b : Book) (e : Event) (now : ℕ) (landed : Bool) (t : Transaction) (what : Ending) → t.superior ≡ None → (step b e now landed).effects ≡ ending t what ∷ []
    → IsIn (happened_at n (effects.Root t.id what)) (counts u n x b e now landed).happened
root_now u n x b e now landed t what root is =
    effect_there u n x b e now landed (effects.Root t.id what) (subst (IsIn (effects.Root t.id what)) (sym (is ∙ (λ i. ending_of (root i) t.id what ∷ []))) (inl refl))

told_effect : (how : How) (t : Transaction) → WhyInitiator how notices.Committed → happens how t ≡ ending t endings.Committed ∷ []
told_effect How.Decides t h = refl
told_effect How.DecidesAlone t h = refl
told_effect other t h = absurd h

told_abort : (how : How) (t : Transaction) → WhyInitiator how notices.Aborted → happens how t ≡ ending t endings.Aborted ∷ []
told_abort How.Aborts t h = refl
told_abort How.RollsBack t h = refl
told_abort How.Decides t h = absurd h
told_abort How.DecidesAlone t h = absurd h
told_abort other t h = absurd h

to_its_initiator : (hosts : Hosts) (u : World) (n : ℕ) (x : Node) (b : Book) (e : Event) (now : ℕ) (landed : Bool) → StepPremises hosts u n x b e
    → (d : TransactionDid b e now (standing landed (plan b e now).entry) (step b e now landed)) (what : Ending) (up : Epr) → initiator d.old.completion ≡ Some up
    → happens d.deed.how d.old ≡ ending d.old what ∷ [] → (m : ℕ) (i : Numbers) → LeadsTo hosts up m (targets.Initiator i) → IsOutcomeOf (counts u n x b e now landed) (record { node = m; id = i }) what
to_its_initiator hosts u n x b e now landed p d what up known is m i leads =
    let (c, has, same) = some_initiator d.old.completion up known in
    record {
      root = record { node = n; id = d.old.id };
      accepted = accepted_on u (counts u n x b e now landed) (grown hosts u n x b e now landed p) (record { node = n; id = d.old.id }) (record { node = m; id = i })
          (initiator_accepted hosts u n x b e p d.old d.found c has m i (subst (λ f. LeadsTo hosts f m (targets.Initiator i)) (sym same) leads));
      ended = root_now u n x b e now landed d.old what (root_alone hosts u n x b e p d.old d.found c has) (d.effects_are ∙ d.deed.happened ∙ is);
    }

-- a root that is known to have committed
committing_root : (hosts : Hosts) (u : World) (n : ℕ) (x : Node) (b : Book) (e : Event) → StepPremises hosts u n x b e → (t : Transaction) → transaction_at b t.id ≡ Some t → t.phase ≡ Phase.Committing
    → t.superior ≡ None → IsCommittedRoot u n t.id
committing_root hosts u n x b e p t found is root =
    committed_root (ends t.id (happened_on n u.happened)) (stands_as hosts u n x b e p t found)
  where
    committed_root : (fx : List Effect) → TransactionLife x.journal (happened_on n u.happened) t.id t → IsCommittedRoot u n t.id
    committed_root fx (is_undecided o nothing k) = let f : true ≡ false = sym o ∙ ap may_expire is in absurd cc
    committed_root fx (has_voted superior seats q r h out k) = let f : Phase.Voted ≡ Phase.Committing = sym q ∙ is in absurd cc
    committed_root fx (has_decided seats q r h k) =
        from_there n (effects.Root t.id endings.Committed) u.happened
        (filtered_from (ends_as t.id) (effects.Root t.id endings.Committed) (happened_on n u.happened) (subst (IsIn (effects.Root t.id endings.Committed)) (sym k) (inl refl))).0
    committed_root fx (has_committed_sub superior seats q r h i k) = let f : false ≡ true = sym r ∙ ap is_none root in absurd cc
    committed_root fx (has_aborted q dead k) = let f : Phase.Aborting ≡ Phase.Committing = sym q ∙ is in absurd cc

known_root : (hosts : Hosts) (u : World) (n : ℕ) (x : Node) (b : Book) (e : Event) → StepPremises hosts u n x b e → (id : Numbers) → has_committed b id ≡ true → IsCommittedRoot u n id
known_root hosts u n x b e p id has = by_test (is_decided_root (transaction_at b id)) (is_kept id b.outcomes) refl refl has
  where
    stands : (o : Option Transaction) → transaction_at b id ≡ o → is_decided_root o ≡ true → IsCommittedRoot u n id
    stands None f g = absurd cc
    stands (Some t) f g =
        let own : t.id ≡ id = found_id transaction_id id b.transactions t f in
        subst (IsCommittedRoot u n) own
        (committing_root hosts u n x b e p t (ap (transaction_at b) own ∙ f) (is_there t.phase (second_true (is_none t.superior) (is_committing t.phase) g))
        (no_superior t.superior (first_true (is_none t.superior) (is_committing t.phase) g)))
      where
        is_there : (ph : Phase) → is_committing ph ≡ true → ph ≡ Phase.Committing
        is_there Phase.Committing e = refl
        is_there other e = absurd cc

        no_superior : (s : Option Superior) → is_none s ≡ true → s ≡ None
        no_superior None e = refl
        no_superior (Some s) e = absurd cc

    by_test : (c k : Bool) → is_decided_root (transaction_at b id) ≡ c → is_kept id b.outcomes ≡ k → (c || k) ≡ true → IsCommittedRoot u n id
    by_test true k f g h = stands (transaction_at b id) refl f
    by_test false true f g h = kept_root hosts u p.world.laws.distinct p.world.laws.reached n x b p.found p.up id g
    by_test false false f g h = absurd cc

-- an initiator that asks again
asking_hears : (hosts : Hosts) (u : World) (n : ℕ) (x : Node) (b : Book) (e : Event) (now : ℕ) (landed : Bool) → StepPremises hosts u n x b e → (a : Arrived) → e ≡ events.Arrived a → (id : Numbers)
    → a.target ≡ targets.Completion id → a.message ≡ messages.Notice notices.Commit → (up : Epr) → a.from ≡ Some up → IsCommittedRoot u n id → (m : ℕ) (i : Numbers)
    → LeadsTo hosts up m (targets.Initiator i) → IsOutcomeOf (counts u n x b e now landed) (record { node = m; id = i }) endings.Committed
asking_hears hosts u n x b e now landed p a came id target says up from root m i leads =
    let (k, same, accepted) = asking_initiator hosts u n x b e p a came id target says up from m (targets.Initiator i) leads in
    record {
      root = record { node = n; id = id };
      accepted = accepted_on u (counts u n x b e now landed) (grown hosts u n x b e now landed p) (record { node = n; id = id }) (record { node = m; id = i })
          (subst (λ j. IsAccepted u (record { node = n; id = id }) None (record { node = m; id = j })) (same_initiator k i same) accepted);
      ended = in_front _ u.happened _ root;
    }
  where
    same_initiator : (k i : Numbers) → targets.Initiator i ≡ targets.Initiator k → k ≡ i
    same_initiator k i e = cc

-- each Committed and each Aborted of a step
abbrev pub DoneCommits : Book → Type 0
DoneCommits b = (t : Transaction) (c : Completion) → transaction_at b t.id ≡ Some t → t.completion ≡ Some c → c.state ≡ states.Done → t.phase ≡ Phase.Committing

no_commit_asked : AsksTo notices.Committed → ⊥
no_commit_asked (inl e) = cc
no_commit_asked (inr e) = cc

no_abort_asked : AsksTo notices.Aborted → ⊥
no_abort_asked (inl e) = cc
no_abort_asked (inr e) = cc

pub committed_heard : (hosts : Hosts) (u : World) (n : ℕ) (x : Node) (b : Book) (e : Event) (now : ℕ) (landed : Bool) → StepPremises hosts u n x b e → DoneCommits b → (q : Post)
    → Tells b e now (standing landed (plan b e now).entry) (step b e now landed) notices.Committed q → SaysOutcome hosts (counts u n x b e now landed) notices.Committed endings.Committed q
committed_heard hosts u n x b e now landed p done q (to_seat d s i why is) to m k says sent leads = absurd why
committed_heard hosts u n x b e now landed p done q (to_left_seat d s i durable left said is from) to m k says sent leads = absurd cc
committed_heard hosts u n x b e now landed p done q (to_superior d kind up known why is) to m k says sent leads =
    absurd (no_initiator hosts u up (record { node = n; id = d.old.id }) kind m k (link_enlists hosts u n x b e p d.old d.found kind up known) (leads_same hosts q to up m k sent is.sent leads))
committed_heard hosts u n x b e now landed p done q (says_aborted d kind up under aborts is known from) to m k says sent leads = absurd cc
committed_heard hosts u n x b e now landed p done q (from_left_link d kind s up under left why is known from) to m k says sent leads =
    absurd (no_initiator hosts u up (record { node = n; id = d.old.id }) kind m k (upwards hosts u n x b e p d.old d.found kind up known) (leads_same hosts q to up m k sent from.sent leads))
committed_heard hosts u n x b e now landed p done q (left_link_aborted d kind up under is known from) to m k says sent leads = absurd cc
committed_heard hosts u n x b e now landed p done q (to_initiator d up known why from) to m k says sent leads =
    to_its_initiator hosts u n x b e now landed p d endings.Committed up known (told_effect d.deed.how d.old why) m k (leads_same hosts q to up m k sent from.sent leads)
committed_heard hosts u n x b e now landed p done q (to_asking d c up there is_done asked is from) to m k says sent leads =
    asking_hears hosts u n x b e now landed p asked.message asked.came d.old.id asked.target asked.says up asked.from
    (committing_root hosts u n x b e p d.old d.found (done d.old c d.found there is_done) (root_alone hosts u n x b e p d.old d.found c there)) m k
    (leads_same hosts q to up m k sent from.sent leads)
committed_heard hosts u n x b e now landed p done q (leaf_says d h) to m k says sent leads = absurd (leaf_upwards hosts u n x b e now landed p d q h notices.Committed says to m k sent leads)
committed_heard hosts u n x b e now landed p done q (activity_says d h) to m k says sent leads = absurd (asks_only (moment_of b now) d.old d.change q h notices.Committed no_commit_asked says)
committed_heard hosts u n x b e now landed p done q (to_late_seat d c late is i same) to m k says sent leads = absurd cc
committed_heard hosts u n x b e now landed p done q (as_no_seat d i s up target durable unknown came from is same) to m k says sent leads = absurd cc
committed_heard hosts u n x b e now landed p done q (as_no_participant d i kind up asked target unknown came why from same) to m k says sent leads =
    absurd (no_initiator hosts u up (record { node = n; id = i }) kind m k
    (asker_enlists hosts u n x b e p d.arrived d.came i kind target asked (none_asked asked notices.Committed why) came up from)
    (leads_same hosts q to up m k sent (ap (λ (r : Post). r.to) same) leads))
committed_heard hosts u n x b e now landed p done q (as_committed d i up target kept came from is same) to m k says sent leads =
    asking_hears hosts u n x b e now landed p d.arrived d.came i target came up from (known_root hosts u n x b e p i kept) m k (leads_same hosts q to up m k sent (ap (λ (r : Post). r.to) same) leads)

pub aborted_heard : (hosts : Hosts) (u : World) (n : ℕ) (x : Node) (b : Book) (e : Event) (now : ℕ) (landed : Bool) → StepPremises hosts u n x b e → (q : Post)
    → Tells b e now (standing landed (plan b e now).entry) (step b e now landed) notices.Aborted q → SaysOutcome hosts (counts u n x b e now landed) notices.Aborted endings.Aborted q
aborted_heard hosts u n x b e now landed p q (to_seat d s i why is) to m k says sent leads = absurd why
aborted_heard hosts u n x b e now landed p q (to_left_seat d s i durable left said is from) to m k says sent leads = absurd cc
aborted_heard hosts u n x b e now landed p q (to_superior d kind up known why is) to m k says sent leads =
    absurd (no_initiator hosts u up (record { node = n; id = d.old.id }) kind m k (link_enlists hosts u n x b e p d.old d.found kind up known) (leads_same hosts q to up m k sent is.sent leads))
aborted_heard hosts u n x b e now landed p q (says_aborted d kind up under aborts is known from) to m k says sent leads =
    absurd (no_initiator hosts u up (record { node = n; id = d.old.id }) kind m k (upwards hosts u n x b e p d.old d.found kind up known) (leads_same hosts q to up m k sent from.sent leads))
aborted_heard hosts u n x b e now landed p q (from_left_link d kind s up under left why is known from) to m k says sent leads = absurd cc
aborted_heard hosts u n x b e now landed p q (left_link_aborted d kind up under is known from) to m k says sent leads =
    absurd (no_initiator hosts u up (record { node = n; id = d.old.id }) kind m k (upwards hosts u n x b e p d.old d.found kind up known) (leads_same hosts q to up m k sent from.sent leads))
aborted_heard hosts u n x b e now landed p q (to_initiator d up known why from) to m k says sent leads =
    to_its_initiator hosts u n x b e now landed p d endings.Aborted up known (told_abort d.deed.how d.old why) m k (leads_same hosts q to up m k sent from.sent leads)
aborted_heard hosts u n x b e now landed p q (to_asking d c up there is_done asked is from) to m k says sent leads = absurd cc
aborted_heard hosts u n x b e now landed p q (leaf_says d h) to m k says sent leads = absurd (leaf_upwards hosts u n x b e now landed p d q h notices.Aborted says to m k sent leads)
aborted_heard hosts u n x b e now landed p q (activity_says d h) to m k says sent leads = absurd (asks_only (moment_of b now) d.old d.change q h notices.Aborted no_abort_asked says)
aborted_heard hosts u n x b e now landed p q (to_late_seat d c late is i same) to m k says sent leads = absurd cc
aborted_heard hosts u n x b e now landed p q (as_no_seat d i s up target durable unknown came from is same) to m k says sent leads = absurd cc
aborted_heard hosts u n x b e now landed p q (as_no_participant d i kind up asked target unknown came why from same) to m k says sent leads =
    absurd (no_initiator hosts u up (record { node = n; id = i }) kind m k
    (asker_enlists hosts u n x b e p d.arrived d.came i kind target asked (none_asked asked notices.Aborted why) came up from)
    (leads_same hosts q to up m k sent (ap (λ (r : Post). r.to) same) leads))
aborted_heard hosts u n x b e now landed p q (as_committed d i up target kept came from is same) to m k says sent leads = absurd cc
