-- What a link's message does upwards.
use Rattle.std.specs.Prelude.{ℕ, List, [], Option, Some, None, Bool, true, false, is_none, ◌≡◌, ◌⊎◌, refl}
use Rattle.std.proofs.Common.{inl, inr, sym, subst, ◌∙◌}
use Rattle.at_base.specs.declared.epr.Epr.{Epr}
use Rattle.at_base.specs.declared.notice.Kind.{Kind}
use Rattle.at_base.specs.declared.notice.Kind.TheVariants as kinds
use Rattle.at_base.specs.declared.notice.Notice.{Notice}
use Rattle.at_base.specs.declared.notice.Notice.TheVariants as notices
use Rattle.at_base.specs.declared.message.Message.TheVariants as messages
use Rattle.at_base.specs.declared.event.Event.{Event}
use Rattle.at_base.specs.declared.event.Moment.{Moment}
use Rattle.at_base.specs.declared.outs.Post.{Post}
use Rattle.at_tables.specs.declared.cells.State.{State}
use Rattle.at_tables.specs.declared.cells.State.TheVariants as states
use Rattle.at_base.specs.Names.{is_kind}
use Rattle.at_model.specs.Book.{Phase, Superior, Transaction}
use Rattle.at_model.specs.Moves.{Change, Decision, Goes, Records}
use Rattle.at_model.specs.Posts.{stored_or, to_each}
use Rattle.at_model.specs.Seats.{link_in, link_of}
use Rattle.at_model.specs.Abort.{Asked, Faulted}
use Rattle.at_model.specs.Arrivals.{asked, commit_voted}
use Rattle.model_laws.specs.Links.{AreIn}
use Rattle.model_laws.proofs.DecisionLaws.{DecisionSays}
use Rattle.model_laws.proofs.LinkDecisions.{Linked, known}
use Rattle.agreement.specs.Deeds.{SuperiorSaid}
use Rattle.owed.specs.Seats.{Tells}
use Rattle.owed.specs.Shape.{LinkKnows, LinksKnow}
use Rattle.owed.specs.Links.{HasVotedSo, IsBusy, IsEarly, IsExcused, KeepsBusy, KeepsVote, LinkIsBusy, LinksOwed, SaysVote, StaysBusy, TellsAnswer, superior_left}
use Rattle.owed.proofs.LinkTable.{IsDeaf, IsDone, Passes}
use Rattle.owed.proofs.LinkAnswers.{IsLinkState, Said, link_state, one_link, said_owed, vote_on}
use Rattle.owed.proofs.LinkRules.{Aborted, NeverVoted, Rel, idle}

abbrev pub UpChange : List ℕ → Event → Transaction → Superior → Change Transaction → Type 0
UpChange base e t s c = LinksOwed base e t s c.posts (superior_left c.item)

abbrev pub UpOwes : List ℕ → Event → Transaction → Superior → Decision Transaction → Type 0
UpOwes base e t s d = DecisionSays (UpChange base e t s) (λ r c. Unit {0}) d

pub says_more : (P Q : Change Transaction → Type 0) (d : Decision Transaction) → ((c : Change Transaction) → P c → Q c) → DecisionSays P (λ r c. Unit {0}) d → DecisionSays Q (λ r c. Unit {0}) d
says_more P Q (Goes c) f h = f c h
says_more P Q (Records r c None) f h = record { entry = tt; landed = f c h.landed; otherwise = tt }
says_more P Q (Records r c (Some d)) f h = record { entry = tt; landed = f c h.landed; otherwise = f d h.otherwise }

known_to : (c from : Option Epr) (to : Epr) → is_none c ≡ false → stored_or c from ≡ Some to → c ≡ Some to
known_to None from to e f = absurd cc
known_to (Some x) from to e f = f

-- the transaction stands as it did
pub same_said : (base : List ℕ) (e : Event) (t : Transaction) (kind : Kind) (n : Notice) (s : Superior) (ps : List Post) → SuperiorSaid kind n e t → t.superior ≡ Some s → Said e t kind n s ps (Some s)
    → ((link_of kind s).state ≡ states.PreparedSuccess → (n ≡ notices.Commit → ⊥) × (n ≡ notices.Rollback → ⊥)) → LinksOwed base e t s ps t.superior
same_said base e t kind n s ps h u says q =
    subst (LinksOwed base e t s ps) (sym u)
    (said_owed base e t kind n s ps (Some s) h says (λ j to x b c. inl (b, c)) (λ to d c. inl (d, c))
    (vote_on base e t s ps (Some s) (λ d. ((λ i. outcome notices.Commit i d (λ x. x.0)), (λ i. outcome notices.Rollback i d (λ x. x.1)))) (λ d. inl (d, refl))))
  where
    outcome : (v : Notice) → SuperiorSaid kinds.Durable v e t → s.durable.state ≡ states.PreparedSuccess → ((n ≡ notices.Commit → ⊥) × (n ≡ notices.Rollback → ⊥) → (n ≡ v → ⊥)) → ⊥
    outcome v i d f =
        let (k, w) = one_link e t kind kinds.Durable n v h i in
        f (q (subst (λ x. (link_of x s).state ≡ states.PreparedSuccess) k d)) (sym w)

-- nothing to say
pub says_none : (e : Event) (t : Transaction) (kind : Kind) (n : Notice) (s : Superior) (ps : List Post) (o : Option Superior) → (n ≡ notices.Prepare → ⊥) → (n ≡ notices.Commit → ⊥) → Said e t kind n s ps o
says_none e t kind n s ps o f g h = ((λ to x r k. absurd (f x)), (λ to x r k d. absurd (g x)))

pub one_post : (base : List ℕ) (c : Option Epr) (p : Epr → Post) (n : Notice) (to : Epr) → c ≡ Some to → (p to).to ≡ Some to → (p to).message ≡ messages.Notice n → Tells (Some to) n (to_each c p)
one_post base c p n to e f g = subst (λ x. Tells (Some to) n (to_each x p)) (sym e) (p to, inl refl, f, g)

-- a message that passes
pub passes : (base : List ℕ) (e : Event) (kind : Kind) (n : Notice) (s : Superior) (t : Transaction) → t.superior ≡ Some s → Linked t → SuperiorSaid kind n e t → Passes (link_of kind s).state n
    → LinksOwed base e t s [] t.superior
passes base e kind n s t u l h p =
    same_said base e t kind n s [] h u (λ i. (
      (λ to x r k. inl (deaf (link_of kind s).state (link_state t.phase kind s (known t s u l).0) (subst (Passes (link_of kind s).state) x p) r)),
      (λ to x r k d. inl (subst (λ j. (link_of j s).state ≡ states.Committing) d (done (link_of kind s).state (link_state t.phase kind s (known t s u l).0) (subst (Passes (link_of kind s).state) x p)))),
    ))
    (λ d. ((λ x. voted_done (link_of kind s).state d (subst (Passes (link_of kind s).state) x p)), (λ x. voted_done (link_of kind s).state d (subst (Passes (link_of kind s).state) x p))))
  where
    deaf : (x : State) → IsLinkState x → IsDeaf x → (x ≡ states.Registering → ⊥) → IsBusy x
    deaf states.Registering a b f = absurd (f refl)
    deaf states.Preparing a b f = tt
    deaf states.Committing a b f = tt
    deaf states.None a b f = absurd b
    deaf states.Active a b f = absurd b
    deaf states.PreparedSuccess a b f = absurd b
    deaf other a b f = absurd a

    done : (x : State) → IsLinkState x → IsDone x → x ≡ states.Committing
    done states.Committing a b = refl
    done states.None a b = absurd b
    done states.Registering a b = absurd b
    done states.Active a b = absurd b
    done states.Preparing a b = absurd b
    done states.PreparedSuccess a b = absurd b
    done other a b = absurd a

    voted_done : (x : State) → x ≡ states.PreparedSuccess → IsDone x → ⊥
    voted_done x f b = subst IsDone f b

-- a Prepare that is gathered
is_or_tells : (kind : Kind) (to : Epr) (ps : List Post) (o : Option Superior) → StaysBusy kind to ps o → LinkIsBusy kind o ⊎ TellsAnswer to ps
is_or_tells kind to ps None h = inr h
is_or_tells kind to ps (Some s) (inl h) = inl h.0
is_or_tells kind to ps (Some s) (inr h) = inr h

active_idle : (x : State) → x ≡ states.Active → IsBusy x → ⊥
active_idle x e b = idle x states.Active e (λ y. y) b

pub asked_owed : (base : List ℕ) (e : Event) (t : Transaction) (kind : Kind) (n : Notice) (s : Superior) (ps : List Post) (o : Option Superior) → SuperiorSaid kind n e t → n ≡ notices.Prepare
    → (link_of kind s).state ≡ states.Active → LinksKnow s → Rel base t.id (asked kind s) ps o → LinksOwed base e t s ps o
asked_owed base e t kinds.Volatile n s ps o h p a (v, d) (busy, (commits, votes)) =
    said_owed base e t kinds.Volatile n s ps o h
    (λ i. (
      (λ to x r k. is_or_tells kinds.Volatile to ps o (busy kinds.Volatile to tt (known_to s.volatile.coordinator i.message.from to (subst (λ y. LinkKnows s.request y s.volatile.coordinator) a v) k))),
      (λ to x r k z. let f : notices.Prepare ≡ notices.Commit = sym p ∙ x in absurd cc),
    ))
    busy_so commits
    (vote_on base e t s ps o (λ z. ((λ i. other notices.Commit i refl), (λ i. other notices.Rollback i refl))) votes)
  where
    other : (w : Notice) → SuperiorSaid kinds.Durable w e t → Rattle.at_base.specs.Names.is_notice notices.Prepare w ≡ false → ⊥
    other w i f =
        let (k, x) = one_link e t kinds.Volatile kinds.Durable n w h i in
        let g : kinds.Durable ≡ kinds.Volatile = k in cc

    busy_so : KeepsBusy e t s ps o
    busy_so kinds.Volatile to x b c = absurd (active_idle s.volatile.state a b)
    busy_so kinds.Durable to x b c = busy kinds.Durable to b c
asked_owed base e t kinds.Durable n s ps o h p a (v, d) (busy, (commits, votes)) =
    said_owed base e t kinds.Durable n s ps o h
    (λ i. (
      (λ to x r k. is_or_tells kinds.Durable to ps o (busy kinds.Durable to tt (known_to s.durable.coordinator i.message.from to (subst (λ y. LinkKnows s.request y s.durable.coordinator) a d) k))),
      (λ to x r k z. let f : notices.Prepare ≡ notices.Commit = sym p ∙ x in absurd cc),
    ))
    busy_so (λ to x c. let f : states.Active ≡ states.Committing = sym a ∙ x in absurd cc) (vote_so o votes)
  where
    busy_so : KeepsBusy e t s ps o
    busy_so kinds.Volatile to x b c = absurd (x (inr (refl, subst (λ y. SuperiorSaid kinds.Durable y e t) p h)))
    busy_so kinds.Durable to x b c = absurd (active_idle s.durable.state a b)

    vote_so : (q : Option Superior) → HasVotedSo base t.id (asked kinds.Durable s) ps q → KeepsVote base e t s ps q
    vote_so None i = tt
    vote_so (Some z) i = λ y. by_case (i y)
      where
        by_case : ((states.Preparing ≡ states.PreparedSuccess) × (z.durable.coordinator ≡ s.durable.coordinator)) ⊎ SaysVote base t.id z.durable.coordinator ps
            → (((s.durable.state ≡ states.PreparedSuccess) × (z.durable.coordinator ≡ s.durable.coordinator))
            × ((SuperiorSaid kinds.Durable notices.Commit e t → ⊥) × (SuperiorSaid kinds.Durable notices.Rollback e t → ⊥))) ⊎ SaysVote base t.id z.durable.coordinator ps
        by_case (inl k) = absurd cc
        by_case (inr k) = inr k

-- a message that aborts
never_vote : (base : List ℕ) (e : Event) (t : Transaction) (s : Superior) (ps : List Post) (o : Option Superior) → NeverVoted o → KeepsVote base e t s ps o
never_vote base e t s ps None h = tt
never_vote base e t s ps (Some x) h = λ d. absurd (h d)

same_kinds : (j k : Kind) → is_kind k j ≡ true → j ≡ k
same_kinds kinds.Volatile kinds.Volatile e = refl
same_kinds kinds.Durable kinds.Durable e = refl
same_kinds kinds.Volatile kinds.Durable e = absurd cc
same_kinds kinds.Durable kinds.Volatile e = absurd cc

early_busy : (x : State) → IsEarly x → IsBusy x → x ≡ states.Preparing
early_busy states.Preparing a b = refl
early_busy states.Registering a b = absurd b
early_busy states.Active a b = absurd b
early_busy other a b = absurd a

pub asked_aborts : (base : List ℕ) (e : Event) (t : Transaction) (kind : Kind) (n : Notice) (s : Superior) (from : Option Epr) (ps : List Post) (o : Option Superior) → SuperiorSaid kind n e t
    → n ≡ notices.Rollback → (s.durable.state ≡ states.Committing → ⊥) → Aborted s (Asked kind from) ps o → LinksOwed base e t s ps o
asked_aborts base e t kind n s from ps o h r f (busy, never) =
    said_owed base e t kind n s ps o h
    (says_none e t kind n s ps o (λ x. let g : notices.Rollback ≡ notices.Prepare = sym r ∙ x in cc) (λ x. let g : notices.Rollback ≡ notices.Commit = sym r ∙ x in cc))
    (λ j to x b c. busy j to refl b c) (λ to d c. absurd (f d)) (never_vote base e t s ps o never)

pub fault_aborts : (base : List ℕ) (e : Event) (t : Transaction) (kind : Kind) (n : Notice) (s : Superior) (ps : List Post) (o : Option Superior) → SuperiorSaid kind n e t
    → n ≡ notices.Commit → IsEarly (link_of kind s).state → (s.durable.state ≡ states.Committing → ⊥) → Aborted s (Faulted kind) ps o → LinksOwed base e t s ps o
fault_aborts base e t kind n s ps o h r early f (busy, never) =
    said_owed base e t kind n s ps o h
    (λ i. ((λ to x y k. let g : notices.Commit ≡ notices.Prepare = sym r ∙ x in absurd cc), (λ to x y k d. absurd (y early))))
    (λ j to x b c. by_kind j to x b c (is_kind kind j) refl) (λ to d c. absurd (f d)) (never_vote base e t s ps o never)
  where
    by_kind : (j : Kind) (to : Epr) → (IsExcused e t j s → ⊥) → IsBusy (link_of j s).state → (link_of j s).coordinator ≡ Some to → (z : Bool) → is_kind kind j ≡ z → StaysBusy j to ps o
    by_kind j to x b c false g = busy j to g b c
    by_kind j to x b c true g =
        let same : j ≡ kind = same_kinds j kind g in
        absurd (x (inl (early_busy (link_of j s).state (subst (λ y. IsEarly (link_of y s).state) (sym same) early) b, subst (λ y. SuperiorSaid y notices.Commit e t) (sym same) (subst (λ y. SuperiorSaid kind y e t) r h))))

-- the superior's Commit
pub commit_up : (m : Moment) (e : Event) (s : Superior) (t : Transaction) (kind : Kind) (n : Notice) → SuperiorSaid kind n e t → n ≡ notices.Commit → AreIn Phase.Voted s.volatile.state s.durable.state
    → UpOwes m.base e t s (commit_voted m s t)
unfolding commit_voted
commit_up m e s t kind n h r (v, d) = record {
  entry = tt;
  landed = said_owed m.base e t kind n s _ (Some (link_in kinds.Durable states.Committing s)) h
      (λ i. ((λ to x y k. let g : notices.Commit ≡ notices.Prepare = sym r ∙ x in absurd cc), (λ to x y k z. inl refl)))
      (λ j to x b c. absurd (none_busy j b)) (λ to x c. let g : states.PreparedSuccess ≡ states.Committing = sym d ∙ x in absurd cc) (λ x. absurd cc);
  otherwise = tt;
}
  where
    none_busy : (j : Kind) → IsBusy (link_of j s).state → ⊥
    none_busy kinds.Volatile b = idle s.volatile.state states.None v (λ x. x) b
    none_busy kinds.Durable b = idle s.durable.state states.PreparedSuccess d (λ x. x) b
