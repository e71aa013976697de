-- What a status says of an item.
use Rattle.std.specs.Prelude.{List, [], ◌∷◌, Option, Some, None, Bool, true, false, if◌then◌else◌, nat_eq, ◌&&◌, ◌||◌, ◌≡◌, refl}
use Rattle.std.specs.List.{list_any}
use Rattle.std.proofs.Common.{inl, inr, sym, subst, ap, ◌∙◌}
use Rattle.std.proofs.lemmas.Bool.{eq-eqb, eqb-true}
use Rattle.at_base.specs.Numbers.{Numbers}
use Rattle.at_base.specs.declared.notice.Kind.TheVariants as kinds
use Rattle.at_base.specs.declared.notice.Notice.{Notice}
use Rattle.at_base.specs.declared.notice.Notice.TheVariants as notices
use Rattle.at_base.specs.declared.message.Message.{Message}
use Rattle.at_base.specs.declared.message.Message.TheVariants as messages
use Rattle.at_base.specs.declared.outs.Ending.{Ending}
use Rattle.at_base.specs.declared.outs.Ending.TheVariants as endings
use Rattle.at_base.specs.declared.outs.Effect.{Effect}
use Rattle.at_base.specs.declared.outs.Effect.TheVariants as effects
use Rattle.at_base.specs.declared.target.Target.{Target}
use Rattle.at_base.specs.declared.target.Target.TheVariants as targets
use Rattle.at_base.specs.Names.{is_notice}
use Rattle.at_model.specs.Book.{is_id}
use Rattle.at_model.specs.World.{Happened, Node, Posted, Who, World, happened_at, nth}
use Rattle.model_laws.specs.Agreement.{HasAborted, HasCommitted, HasEnded, HasPosted, IsIn}
use Rattle.model_laws.proofs.DecisionLaws.{first_true, second_true}
use Rattle.model_laws.proofs.RecoveryLaws.{same_id, self_id}
use Rattle.votes.specs.DurableVotes.{HasVoted, is_vote}
use Rattle.votes.proofs.SeatsAt.{any_of}
use Rattle.outcomes.specs.AtomicCommit.{Status}
use Rattle.outcomes.specs.Statuses.{Seen, has_ended, has_left, is_ending, is_own, says_end, says_read_only, status_of, votes_in}

-- tests over lists
some_of : {A : Type 0} (test : A → Bool) (xs : List A) → list_any test xs ≡ true → (y : A) × IsIn y xs × (test y ≡ true)
some_of test [] e = absurd cc
some_of {A = A} test (x ∷ xs) e = by_test (test x) refl (some_of test xs) e
  where
    by_test : (c : Bool) → test x ≡ c → (list_any test xs ≡ true → (y : A) × IsIn y xs × (test y ≡ true)) → (c || list_any test xs) ≡ true → (y : A) × IsIn y (x ∷ xs) × (test y ≡ true)
    by_test true f rest g = (x, inl refl, f)
    by_test false f rest g = let (y, i, h) = rest g in (y, inr i, h)

both_hold : (a b : Bool) → a ≡ true → b ≡ true → (a && b) ≡ true
both_hold a b e f = λ i. e i && f i

-- ends
same_ending : (w what : Ending) → is_ending w what ≡ true → w ≡ what
same_ending endings.Committed endings.Committed e = refl
same_ending endings.Aborted endings.Aborted e = refl
same_ending endings.Lost endings.Lost e = refl
same_ending endings.Committed endings.Aborted e = absurd cc
same_ending endings.Committed endings.Lost e = absurd cc
same_ending endings.Aborted endings.Committed e = absurd cc
same_ending endings.Aborted endings.Lost e = absurd cc
same_ending endings.Lost endings.Committed e = absurd cc
same_ending endings.Lost endings.Aborted e = absurd cc

own_ending : (what : Ending) → is_ending what what ≡ true
own_ending endings.Committed = refl
own_ending endings.Aborted = refl
own_ending endings.Lost = refl

ended_here : (w : World) (x : Who) (what : Ending) (h : Happened) → IsIn h w.happened → (nat_eq h.node x.node && says_end x.id what h.what) ≡ true → HasEnded w x what
ended_here w x what h i e = by_effect h.what refl (second_true (nat_eq h.node x.node) (says_end x.id what h.what) e)
  where
    here : h.node ≡ x.node
    here = eqb-true h.node x.node (first_true (nat_eq h.node x.node) (says_end x.id what h.what) e)

    there : (f g : Effect) → h.what ≡ f → f ≡ g → IsIn (happened_at x.node g) w.happened
    there f g e k = subst (λ z. IsIn z w.happened) (λ j. record { node = here j; what = (e ∙ k) j }) i

    by_effect : (f : Effect) → h.what ≡ f → says_end x.id what f ≡ true → HasEnded w x what
    by_effect (effects.Root j v) e k =
        inl (there (effects.Root j v) (effects.Root x.id what) e
        (λ l. effects.Root (same_id j x.id (first_true (is_id j x.id) (is_ending v what) k) l) (same_ending v what (second_true (is_id j x.id) (is_ending v what) k) l)))
    by_effect (effects.Sub j v) e k =
        inr (inl (there (effects.Sub j v) (effects.Sub x.id what) e
        (λ l. effects.Sub (same_id j x.id (first_true (is_id j x.id) (is_ending v what) k) l) (same_ending v what (second_true (is_id j x.id) (is_ending v what) k) l))))
    by_effect (effects.Leaf j kinds.Durable v) e k =
        inr (inr (there (effects.Leaf j kinds.Durable v) (effects.Leaf x.id kinds.Durable what) e
        (λ l. effects.Leaf (same_id j x.id (first_true (is_id j x.id) (is_ending v what) k) l) kinds.Durable (same_ending v what (second_true (is_id j x.id) (is_ending v what) k) l))))
    by_effect (effects.Leaf j kinds.Volatile v) e k = absurd cc
    by_effect (effects.Told j v) e k = absurd cc

pub ended_so : (w : World) (x : Who) (what : Ending) → has_ended w x what ≡ true → HasEnded w x what
ended_so w x what e =
    let (h, i, f) = some_of (λ (g : Happened). nat_eq g.node x.node && says_end x.id what g.what) w.happened e in
    ended_here w x what h i f

pub has_so : (w : World) (x : Who) (what : Ending) → HasEnded w x what → has_ended w x what ≡ true
has_so w x what h = by_effect h
  where
    found : (f : Effect) → says_end x.id what f ≡ true → IsIn (happened_at x.node f) w.happened → has_ended w x what ≡ true
    found f e i =
        any_of (λ (g : Happened). nat_eq g.node x.node && says_end x.id what g.what) w.happened (happened_at x.node f) i
        (both_hold (nat_eq x.node x.node) (says_end x.id what f) (eq-eqb x.node x.node refl) e)

    own : (is_id x.id x.id && is_ending what what) ≡ true
    own = both_hold (is_id x.id x.id) (is_ending what what) (self_id x.id) (own_ending what)

    by_effect : HasEnded w x what → has_ended w x what ≡ true
    by_effect (inl i) = found (effects.Root x.id what) own i
    by_effect (inr (inl i)) = found (effects.Sub x.id what) own i
    by_effect (inr (inr i)) = found (effects.Leaf x.id kinds.Durable what) own i

-- votes
pub voted_so : (w : World) (x : Who) → votes_in x.id (nth x.node w.nodes) ≡ true → HasVoted w x
voted_so w x e = by_node (nth x.node w.nodes) refl e
  where
    by_node : (o : Option Node) → nth x.node w.nodes ≡ o → votes_in x.id o ≡ true → HasVoted w x
    by_node None f g = absurd cc
    by_node (Some y) f g = let (r, i, vote) = some_of (is_vote x.id) y.journal g in (r, (y, f, i), vote)

pub votes_so : (w : World) (x : Who) → HasVoted w x → votes_in x.id (nth x.node w.nodes) ≡ true
votes_so w x (r, (y, found, i), vote) = ap (votes_in x.id) found ∙ any_of (is_vote x.id) y.journal r i vote

-- ReadOnly
only_read_only : (n : Notice) → is_notice n notices.ReadOnly ≡ true → n ≡ notices.ReadOnly
only_read_only notices.ReadOnly e = refl
only_read_only other e = absurd cc

read_only_said : (m : Message) → says_read_only m ≡ true → m ≡ messages.Notice notices.ReadOnly
read_only_said (messages.Notice n) e = ap (λ v. messages.Notice v) (only_read_only n e)
read_only_said other e = absurd cc

own_is : (id : Numbers) (own : Option Target) → is_own id own ≡ true → own ≡ Some (targets.Participant id kinds.Durable)
own_is id (Some (targets.Participant i kinds.Durable)) e = ap (λ j. Some (targets.Participant j kinds.Durable)) (same_id i id e)
own_is id other e = absurd cc

pub left_so : (w : World) (x : Who) → has_left w x ≡ true → HasPosted w x kinds.Durable notices.ReadOnly
left_so w x e =
    let (p, i, f) = some_of (λ (q : Posted). nat_eq q.sender x.node && (is_own x.id q.content.own && says_read_only q.content.message)) w.posted e in
    let rest : (is_own x.id p.content.own && says_read_only p.content.message) ≡ true =
    second_true (nat_eq p.sender x.node) (is_own x.id p.content.own && says_read_only p.content.message) f in (
      p,
      i,
      eqb-true p.sender x.node (first_true (nat_eq p.sender x.node) (is_own x.id p.content.own && says_read_only p.content.message) f),
      own_is x.id p.content.own (first_true (is_own x.id p.content.own) (says_read_only p.content.message) rest),
      read_only_said p.content.message (second_true (is_own x.id p.content.own) (says_read_only p.content.message) rest),
    )

pub leaves_so : (w : World) (x : Who) → HasPosted w x kinds.Durable notices.ReadOnly → has_left w x ≡ true
leaves_so w x (p, i, sender, own, says) =
    any_of (λ (q : Posted). nat_eq q.sender x.node && (is_own x.id q.content.own && says_read_only q.content.message)) w.posted p i
    (both_hold (nat_eq p.sender x.node) _ (eq-eqb p.sender x.node sender)
    (both_hold (is_own x.id p.content.own) (says_read_only p.content.message) (ap (is_own x.id) own ∙ self_id x.id) (ap says_read_only says)))

not_true : (b : Bool) → b ≡ false → b ≡ true → ⊥
not_true b e f = let g : false ≡ true = sym e ∙ f in cc

pub seen : (w : World) (x : Who) → Seen w x (status_of w x)
seen w x =
    by_tests (has_ended w x endings.Committed) (has_ended w x endings.Aborted) (has_ended w x endings.Lost) (has_left w x) (votes_in x.id (nth x.node w.nodes)) refl refl refl refl refl
  where
    no_commit : has_ended w x endings.Committed ≡ false → HasCommitted w x → ⊥
    no_commit e c = not_true (has_ended w x endings.Committed) e (has_so w x endings.Committed c)

    no_abort : has_ended w x endings.Aborted ≡ false → has_ended w x endings.Lost ≡ false → HasAborted w x → ⊥
    no_abort e f (inl a) = not_true (has_ended w x endings.Aborted) e (has_so w x endings.Aborted a)
    no_abort e f (inr a) = not_true (has_ended w x endings.Lost) f (has_so w x endings.Lost a)

    no_left : has_left w x ≡ false → HasPosted w x kinds.Durable notices.ReadOnly → ⊥
    no_left e r = not_true (has_left w x) e (leaves_so w x r)

    no_vote : votes_in x.id (nth x.node w.nodes) ≡ false → HasVoted w x → ⊥
    no_vote e v = not_true (votes_in x.id (nth x.node w.nodes)) e (votes_so w x v)

    by_tests : (c a l r v : Bool) → has_ended w x endings.Committed ≡ c → has_ended w x endings.Aborted ≡ a → has_ended w x endings.Lost ≡ l → has_left w x ≡ r
        → votes_in x.id (nth x.node w.nodes) ≡ v
        → Seen w x (if c then Status.Committed else if a || l then Status.Aborted else if r then Status.Left else if v then Status.Prepared else Status.Working)
    by_tests true a l r v e f g h k = ended_so w x endings.Committed e
    by_tests false true l r v e f g h k = inl (ended_so w x endings.Aborted f)
    by_tests false false true r v e f g h k = inr (ended_so w x endings.Lost g)
    by_tests false false false true v e f g h k = left_so w x h
    by_tests false false false false true e f g h k = (voted_so w x k, no_commit e, no_abort f g, no_left h)
    by_tests false false false false false e f g h k = (no_vote k, no_commit e, no_abort f g, no_left h)
