-- Whatever moves a subordinate leaves its links busy, or answers upwards.
use Rattle.std.specs.Prelude.{ℕ, List, [], Option, Some, None, true, false, ◌&&◌, is_none, ◌≡◌, ◌⊎◌, refl}
use Rattle.std.proofs.Common.{inl, inr, ap, sym, subst, ◌∙◌}
use Rattle.at_base.specs.declared.fault.Fault.TheVariants.{InvalidState}
use Rattle.at_base.specs.Numbers.{Numbers}
use Rattle.at_base.specs.declared.epr.Epr.{Epr}
use Rattle.at_base.specs.declared.notice.Kind.{Kind}
use Rattle.at_base.specs.declared.notice.Kind.TheVariants as kinds
use Rattle.at_base.specs.declared.notice.Notice.{Notice}
use Rattle.at_base.specs.declared.notice.Notice.TheVariants as notices
use Rattle.at_base.specs.declared.message.Message.{Message}
use Rattle.at_base.specs.declared.message.Message.TheVariants as messages
use Rattle.at_base.specs.declared.target.Target.TheVariants as targets
use Rattle.at_base.specs.declared.event.Arrived.{Arrived}
use Rattle.at_base.specs.declared.event.Event.{Event}
use Rattle.at_base.specs.declared.event.Event.TheVariants as events
use Rattle.at_base.specs.declared.event.Moment.{Moment}
use Rattle.at_tables.specs.declared.cells.State.{State}
use Rattle.at_tables.specs.declared.cells.State.TheVariants as states
use Rattle.at_tables.specs.declared.cells.Act.{Act}
use Rattle.at_tables.specs.declared.cells.Act.TheVariants as acts
use Rattle.at_tables.specs.declared.cells.Cell.{Cell}
use Rattle.at_tables.specs.Names.{is_state}
use Rattle.at_tables.specs.Tables.{participant_of}
use Rattle.endpoints.specs.Addresses.{register_id}
use Rattle.at_model.specs.Book.{Superior, Transaction}
use Rattle.at_model.specs.Moves.{Decision, begin, ignored, posts}
use Rattle.at_model.specs.Posts.{fault_post, notice_post, stored_or, stranger_post, to_each}
use Rattle.at_model.specs.Seats.{link_of, set_link, under}
use Rattle.at_model.specs.Abort.{Alone, Asked, Faulted}
use Rattle.at_model.specs.Phases.{upwards}
use Rattle.at_model.specs.Arrivals.{asked, link_act, link_fault, link_notice, link_registered, on_link, relates_to}
use Rattle.model_laws.specs.Links.{AreIn}
use Rattle.model_laws.proofs.DecisionLaws.{first_true}
use Rattle.model_laws.proofs.LinkDecisions.{Linked, has_voted, known}
use Rattle.agreement.specs.Deeds.{SuperiorSaid}
use Rattle.owed.specs.Shape.{IsShaped, LinkKnows, LinksKnow}
use Rattle.owed.specs.Links.{IsBusy, StaysBusy, superior_left}
use Rattle.owed.proofs.LinkTable.{LinkHears, LinkHearsCell, MayRoll, link_hears}
use Rattle.owed.proofs.OnLinks.{asked_in, links_know}
use Rattle.owed.proofs.LinkAnswers.{IsLinkState, Said, SuperiorIsQuiet, link_state, quiet_links, rolls_uncommitted}
use Rattle.owed.proofs.LinkActs.{UpChange, UpOwes, asked_aborts, asked_owed, commit_up, fault_aborts, one_post, passes, same_said, says_more, says_none}
use Rattle.owed.proofs.LinkRules.{Aborted, Keeps, KeepsAll, Rel, abort_keeps, aborts_up, go_volatile_keeps, same_rel}
use Rattle.owed.proofs.LinkTable.{MayRoll}

no_prepared : (x : State) → IsLinkState x → x ≡ states.Prepared → ⊥
no_prepared x h e = subst IsLinkState e h

link_act_up : (m : Moment) (e : Event) (from : Option Epr) (i : Option (List ℕ)) (kind : Kind) (s : Superior) (t : Transaction) (n : Notice) (act : Act) → t.superior ≡ Some s → Linked t → IsShaped t
    → (h : SuperiorSaid kind n e t) → h.message.from ≡ from → LinkHears (link_of kind s).state n act → UpOwes m.base e t s (link_act m from i kind s t act)
unfolding link_act
link_act_up m e from i kind s t n acts.Gather u l g h f (a, p) =
    says_more (Keeps m.base t.id (asked kind s)) (UpChange m.base e t s) _ (λ c k. asked_owed m.base e t kind n s c.posts (superior_left c.item) h p a (links_know t s u g) k)
    (go_volatile_keeps m t.id (asked kind s) (begin (under (asked kind s) t)) refl refl (asked_in t.phase kind s (known t s u l).0 a))
link_act_up m e from i kind s t n acts.Commit u l g h f (a, p) =
    commit_up m e s t kind n h p (subst (λ x. AreIn x s.volatile.state s.durable.state) (has_voted t.phase kind s (known t s u l).0 a) (known t s u l).0)
link_act_up m e from i kind s t n acts.SendPrepared u l g h f (a, p) =
    same_said m.base e t kind n s (upwards m.base t.id kind notices.Prepared (link_of kind s)) h u
    (λ j. (
      (λ to x r k. inr (
        notices.Prepared,
        tt,
        one_post m.base (link_of kind s).coordinator (λ z. notice_post m.base (targets.Participant t.id kind) z notices.Prepared) notices.Prepared to
            (known_so to j k) refl refl,
      )),
      (λ to x r k d. let y : notices.Prepare ≡ notices.Commit = sym p ∙ x in absurd cc),
    ))
    (λ d. ((λ x. let y : notices.Prepare ≡ notices.Commit = sym p ∙ x in cc), (λ x. let y : notices.Prepare ≡ notices.Rollback = sym p ∙ x in cc)))
  where
    known_link : (k : Kind) → LinksKnow s → (link_of k s).state ≡ states.PreparedSuccess → is_none (link_of k s).coordinator ≡ false
    known_link kinds.Volatile (v, d) e = subst (λ y. LinkKnows s.request y s.volatile.coordinator) e v
    known_link kinds.Durable (v, d) e = subst (λ y. LinkKnows s.request y s.durable.coordinator) e d

    known_one : (c o : Option Epr) (to : Epr) → is_none c ≡ false → stored_or c o ≡ Some to → c ≡ Some to
    known_one None o to e k = absurd cc
    known_one (Some x) o to e k = k

    known_so : (to : Epr) (j : SuperiorSaid kind n e t) → stored_or (link_of kind s).coordinator j.message.from ≡ Some to → (link_of kind s).coordinator ≡ Some to
    known_so to j k = known_one (link_of kind s).coordinator j.message.from to (known_link kind (links_know t s u g) a) k
link_act_up m e from i kind s t n acts.SendCommitted u l g h f (a, p) =
    same_said m.base e t kind n s (to_each (stored_or (link_of kind s).coordinator from) (λ to. stranger_post m.base (targets.Participant t.id kind) to notices.Committed)) h u
    (λ j. (
      (λ to x r k. let y : notices.Commit ≡ notices.Prepare = sym p ∙ x in absurd cc),
      (λ to x r k d. inr (one_post m.base (stored_or (link_of kind s).coordinator from) (λ z. stranger_post m.base (targets.Participant t.id kind) z notices.Committed) notices.Committed to
          (same_from to j k) refl refl)),
    ))
    (λ d. let y : states.None ≡ states.PreparedSuccess = sym a ∙ d in absurd cc)
  where
    same_from : (to : Epr) (j : SuperiorSaid kind n e t) → stored_or (link_of kind s).coordinator j.message.from ≡ Some to → stored_or (link_of kind s).coordinator from ≡ Some to
    same_from to j k = subst (λ x. stored_or (link_of kind s).coordinator x ≡ Some to) (Rattle.owed.proofs.LinkAnswers.one_from e t kind kind n n h j ∙ f) k
link_act_up m e from i kind s t n acts.SendAborted u l g h f (a, p) =
    same_said m.base e t kind n s (to_each (stored_or (link_of kind s).coordinator from) (λ to. stranger_post m.base (targets.Participant t.id kind) to notices.Aborted)) h u
    (λ j. (
      (λ to x r k. inr (
        notices.Aborted,
        tt,
        one_post m.base (stored_or (link_of kind s).coordinator from) (λ z. stranger_post m.base (targets.Participant t.id kind) z notices.Aborted) notices.Aborted to
            (same_from to j k) refl refl,
      )),
      (λ to x r k d. absurd (no_commit p x)),
    ))
    (λ d. let y : states.None ≡ states.PreparedSuccess = sym a ∙ d in absurd cc)
  where
    same_from : (to : Epr) (j : SuperiorSaid kind n e t) → stored_or (link_of kind s).coordinator j.message.from ≡ Some to → stored_or (link_of kind s).coordinator from ≡ Some to
    same_from to j k = subst (λ x. stored_or (link_of kind s).coordinator x ≡ Some to) (Rattle.owed.proofs.LinkAnswers.one_from e t kind kind n n h j ∙ f) k

    no_commit : (n ≡ notices.Prepare) ⊎ (n ≡ notices.Rollback) → n ≡ notices.Commit → ⊥
    no_commit (inl y) x = let z : notices.Prepare ≡ notices.Commit = sym y ∙ x in cc
    no_commit (inr y) x = let z : notices.Rollback ≡ notices.Commit = sym y ∙ x in cc
link_act_up m e from i kind s t n acts.AbortAndSendAborted u l g h f (a, p) =
    asked_aborts m.base e t kind n s from _ _ h p (rolls_uncommitted t.phase kind s (known t s u l).0 a) (aborts_up m s (Asked kind from) (begin t) u)
link_act_up m e from i kind s t n acts.RecordAndSendAborted u l g h f (a, p) = record {
  entry = tt;
  landed = asked_aborts m.base e t kind n s from _ _ h p (rolls_uncommitted t.phase kind s (known t s u l).0 a) (aborts_up m s (Asked kind from) (begin t) u);
  otherwise = tt;
}
link_act_up m e from i kind s t n acts.FaultInvalidStateAndAbort u l g h f ((a, b), p) =
    fault_aborts m.base e t kind n s _ _ h p b (rolls_uncommitted t.phase kind s (known t s u l).0 a)
    (aborts_up m s (Faulted kind) (posts (to_each (stored_or (link_of kind s).coordinator from) (λ to. fault_post (Some to) i InvalidState)) (begin t)) u)
link_act_up m e from i kind s t n acts.FaultInvalidState u l g h f (inl (a, p)) =
    same_said m.base e t kind n s (to_each (stored_or (link_of kind s).coordinator from) (λ to. fault_post (Some to) i InvalidState)) h u
    (says_none e t kind n s _ (Some s) (λ x. let y : notices.Rollback ≡ notices.Prepare = sym p ∙ x in cc) (λ x. let y : notices.Rollback ≡ notices.Commit = sym p ∙ x in cc))
    (λ d. let y : states.Committing ≡ states.PreparedSuccess = sym a ∙ d in absurd cc)
link_act_up m e from i kind s t n acts.FaultInvalidState u l g h f (inr (a, p)) = absurd (no_prepared (link_of kind s).state (link_state t.phase kind s (known t s u l).0) a)
link_act_up m e from i kind s t n other u l g h f k = passes m.base e kind n s t u l h k

link_notice_up : (m : Moment) (e : Event) (from : Option Epr) (i : Option (List ℕ)) (kind : Kind) (s : Superior) (t : Transaction) (n : Notice) (c : Option Cell) → t.superior ≡ Some s → Linked t
    → IsShaped t → (h : SuperiorSaid kind n e t) → h.message.from ≡ from → LinkHearsCell (link_of kind s).state n c → UpOwes m.base e t s (link_notice m from i kind s t c)
unfolding link_notice
link_notice_up m e from i kind s t n None u l g h f k = passes m.base e kind n s t u l h k
link_notice_up m e from i kind s t n (Some c) u l g h f k = link_act_up m e from i kind s t n c.act u l g h f k

-- where nothing comes on a link
pub quiet_up : (m : Moment) (e : Event) (t : Transaction) (s : Superior) (d : Decision Transaction) → SuperiorIsQuiet e t → KeepsAll m.base t.id s d → UpOwes m.base e t s d
quiet_up m e t s d q h = says_more (Keeps m.base t.id s) (UpChange m.base e t s) d (λ c k. quiet_links m.base e t s c.posts (superior_left c.item) q k) h

joined_rel : (base : List ℕ) (id : Numbers) (kind : Kind) (s : Superior) (coordinator : Epr) → is_state (link_of kind s).state states.Registering ≡ true
    → Rel base id s [] (Some (set_link kind (record { state = states.Active; coordinator = Some coordinator }) s))
joined_rel base id kinds.Volatile s coordinator f = (busy, ((λ to d c. inl (d, c)), (λ d. inl (d, refl))))
  where
    asleep : (x : State) → is_state x states.Registering ≡ true → IsBusy x → ⊥
    asleep states.Preparing g b = cc
    asleep states.Committing g b = cc
    asleep other g b = b

    busy : (j : Kind) (to : Epr) → IsBusy (link_of j s).state → (link_of j s).coordinator ≡ Some to
        → StaysBusy j to [] (Some (set_link kinds.Volatile (record { state = states.Active; coordinator = Some coordinator }) s))
    busy kinds.Volatile to b c = absurd (asleep s.volatile.state f b)
    busy kinds.Durable to b c = inl (b, c)
joined_rel base id kinds.Durable s coordinator f = (busy, ((λ to d c. absurd (asleep s.durable.state f (subst IsBusy (sym d) tt))), (λ d. absurd cc)))
  where
    asleep : (x : State) → is_state x states.Registering ≡ true → IsBusy x → ⊥
    asleep states.Preparing g b = cc
    asleep states.Committing g b = cc
    asleep other g b = b

    busy : (j : Kind) (to : Epr) → IsBusy (link_of j s).state → (link_of j s).coordinator ≡ Some to
        → StaysBusy j to [] (Some (set_link kinds.Durable (record { state = states.Active; coordinator = Some coordinator }) s))
    busy kinds.Volatile to b c = inl (b, c)
    busy kinds.Durable to b c = absurd (asleep s.durable.state f b)

registered_keeps : (m : Moment) (relates : Option (List ℕ)) (coordinator : Epr) (kind : Kind) (s : Superior) (t : Transaction) → t.superior ≡ Some s
    → KeepsAll m.base t.id s (link_registered m relates coordinator kind s t)
unfolding link_registered
registered_keeps m relates coordinator kind s t u =
    Rattle.owed.proofs.LinkRules.either m.base t.id s (is_state (link_of kind s).state states.Registering && relates_to relates (register_id m.base (targets.Participant t.id kind))) _ _
    (λ f. joined_rel m.base t.id kind s coordinator (first_true (is_state (link_of kind s).state states.Registering) (relates_to relates (register_id m.base (targets.Participant t.id kind))) f))
    (λ f. same_rel m.base t.id s [] t.superior u)

pub rolls_so : (state : State) → is_state state states.Registering ≡ true → MayRoll state
rolls_so states.Registering f = tt
rolls_so other f = absurd cc

fault_keeps : (m : Moment) (relates : Option (List ℕ)) (kind : Kind) (s : Superior) (t : Transaction) → t.superior ≡ Some s → Linked t → KeepsAll m.base t.id s (link_fault m relates kind s t)
unfolding link_fault
fault_keeps m relates kind s t u l =
    Rattle.owed.proofs.LinkRules.either m.base t.id s (is_state (link_of kind s).state states.Registering && relates_to relates (register_id m.base (targets.Participant t.id kind))) _ _
    (λ f. abort_keeps m t.id s Alone (begin t) u (λ j b. refl) (rolls_uncommitted t.phase kind s (known t s u l).0
    (rolls_so (link_of kind s).state (first_true (is_state (link_of kind s).state states.Registering) (relates_to relates (register_id m.base (targets.Participant t.id kind))) f))))
    (λ f. same_rel m.base t.id s [] t.superior u)

no_notice : (e : Event) (a : Arrived) (t : Transaction) (x : Message) → e ≡ events.Arrived a → a.message ≡ x → ((n : Notice) → x ≡ messages.Notice n → ⊥) → SuperiorIsQuiet e t
no_notice e a t x came says f j n h =
    let same : h.message ≡ a = Rattle.owed.proofs.Steps.came_so e h.message a h.came came in
    f n (sym says ∙ (sym (ap (λ (y : Arrived). y.message) same) ∙ h.says))

pub link_up : (m : Moment) (e : Event) (a : Arrived) (kind : Kind) (t : Transaction) (s : Superior) (x : Message) → e ≡ events.Arrived a → a.target ≡ targets.Participant t.id kind → a.message ≡ x
    → t.superior ≡ Some s → Linked t → IsShaped t → UpOwes m.base e t s (on_link m a kind t s x)
unfolding on_link
link_up m e a kind t s (messages.Notice n) came at says u l g =
    link_notice_up m e a.from a.id kind s t n (participant_of kind (link_of kind s).state n) u l g (record { message = a; came = came; target = at; says = says }) refl (link_hears kind (link_of kind s).state n)
link_up m e a kind t s (messages.RegisterResponse coordinator) came at says u l g = quiet_up m e t s _ (no_notice e a t _ came says (λ n f. cc)) (registered_keeps m a.relates coordinator kind s t u)
link_up m e a kind t s (messages.Fault name) came at says u l g = quiet_up m e t s _ (no_notice e a t _ came says (λ n f. cc)) (fault_keeps m a.relates kind s t u l)
link_up m e a kind t s other came at says u l g = quiet_up m e t s (ignored t) (no_notice e a t other came says (λ n f. cc)) (same_rel m.base t.id s [] t.superior u)
