-- In a settled world who has voted has its outcome, and that of its root.
use Rattle.std.specs.Prelude.{ℕ, List, [], ◌∷◌, ◌++◌, Option, Some, None, Bool, true, false, if◌then◌else◌, nat_eq, not, ◌-◌, ◌&&◌, ◌≡◌, ◌⊎◌, refl}
use Rattle.std.specs.List.{list_all, list_any}
use Rattle.std.proofs.Common.{inl, inr, sym, subst, ap, ◌∙◌}
use Rattle.at_base.specs.Numbers.{Numbers}
use Rattle.at_base.specs.Names.{is_kind}
use Rattle.at_base.specs.declared.notice.Kind.{Kind}
use Rattle.at_base.specs.declared.notice.Kind.TheVariants as kinds
use Rattle.at_base.specs.declared.notice.Notice.TheVariants as notices
use Rattle.at_base.specs.declared.outs.Effect.{Effect}
use Rattle.at_base.specs.declared.outs.Effect.TheVariants as effects
use Rattle.at_base.specs.declared.outs.Ending.{Ending}
use Rattle.at_base.specs.declared.outs.Ending.TheVariants as endings
use Rattle.at_base.specs.declared.record.Record.{Record}
use Rattle.at_base.specs.declared.record.Record.TheVariants as records
use Rattle.at_tables.specs.Names.{is_state}
use Rattle.at_tables.specs.declared.cells.State.TheVariants as states
use Rattle.at_model.specs.Book.{Book, Leaf, Transaction, leaf_id, transaction_id}
use Rattle.at_model.specs.Due.{may_expire}
use Rattle.at_model.specs.Step.{leaf_at, transaction_at}
use Rattle.at_model.specs.World.{Happened, Node, Who, World, WorldEvent, happened_at, nth, opening, run_of, run_on, world_step, Hosts, HaveOwnAddresses}
use Rattle.model_laws.specs.Agreement.{HasAborted, HasCommitted, HasEnded, HasPosted, IsIn, IsOf, below, ends_as, itself}
use Rattle.model_laws.specs.Growth.{Grows}
use Rattle.model_laws.specs.ReachedWorlds.{Reached}
use Rattle.model_laws.specs.Settlement.{is_book_settled, is_doubtful_leaf, is_node_settled, is_settled, settle, waits as waits_on, waits_in}
use Rattle.model_laws.proofs.DecisionLaws.{first_true, found_id, second_true}
use Rattle.model_laws.proofs.Growth.{takes_nothing_back}
use Rattle.model_laws.proofs.ReachedWorlds.{run_reached}
use Rattle.model_laws.proofs.RecoveryLaws.{same_id}
use Rattle.agreement.specs.Lives.{Life, book_of, ends, happened_on, has_aborted, has_committed, has_decided, has_voted, is_gone, is_undecided, standing, waits, works}
use Rattle.agreement.specs.Sorts.{FitsEffect, FitsRecord, LeafOf, Sort, Subordinate}
use Rattle.agreement.proofs.OtherIds.{promise_id}
use Rattle.agreement.proofs.SeatedEntries.{one_of}
use Rattle.agreement.proofs.TransactionLives.{TransactionLife, aborted, committed, decided, undecided, voted}
use Rattle.agreement.proofs.WaitingLeaves.{found_in}
use Rattle.votes.specs.DurableVotes.{HasVoted, is_vote}
use Rattle.votes.specs.NamedParticipants.{HasSeat}
use Rattle.votes.specs.ToldOutcomes.{IsHeld}
use Rattle.votes.specs.VotesAndOutcomes.{IsOutcome}
use Rattle.votes.proofs.Growth.{posted_on, voted_on}
use Rattle.votes.proofs.ItemEnds.{aborts_here, from_there, life_of, not_ended}
use Rattle.votes.proofs.Premises.{WorldPremises}
use Rattle.votes.proofs.SeatsAt.{any_of}
use Rattle.votes.proofs.SingleVotes.{is_promised}
use Rattle.votes.proofs.ToldAborts.{filtered_from}
use Rattle.votes.proofs.VotesAndOutcomes.{outcomes_are_backed}
use Rattle.outcomes.specs.Bonds.{IsBound, IsUnderOne}
use Rattle.outcomes.proofs.Agreement.{bound, layers}
use Rattle.outcomes.proofs.Depth.{up, whole}
use Rattle.outcomes.proofs.Layers.{world_premises}
use Rattle.settled.proofs.Settlement.{settles}
use Rattle.settled_outcomes.specs.SettledOutcomes.{HasOutcomes, HasPromised, IsUndecided, OutcomesAreSettled, StandsOpen}

-- what is known of a settled world
record Knows (hosts : Hosts) (w : World) : Type 0 where
  premises : WorldPremises hosts w
  bonds : IsBound w
  joint : IsOutcome hosts w
  rests : is_settled w ≡ true

-- all pass
each_passes : {A : Type 0} (p : A → Bool) (xs : List A) (x : A) → list_all p xs ≡ true → IsIn x xs → p x ≡ true
each_passes p [] x e i = absurd i
each_passes p (y ∷ ys) x e (inl f) = ap p f ∙ first_true (p y) (list_all p ys) e
each_passes p (y ∷ ys) x e (inr i) = each_passes p ys x (second_true (p y) (list_all p ys) e) i

in_nodes : (n : ℕ) (x : Node) (xs : List Node) → nth n xs ≡ Some x → IsIn x xs
in_nodes n x [] e = absurd cc
in_nodes n x (y ∷ ys) e = by_number (λ f. in_nodes (n - 1) x ys f) (nat_eq n 1) e
  where
    by_number : (nth (n - 1) ys ≡ Some x → IsIn x ys) → (c : Bool) → (if c then Some y else nth (n - 1) ys) ≡ Some x → IsIn x (y ∷ ys)
    by_number rest true f = inl cc
    by_number rest false f = inr (rest f)

not_both : (b : Bool) → not b ≡ true → b ≡ true → ⊥
not_both true e f = cc
not_both false e f = cc

-- a settled node's book: nobody in it waits
book_rests : (x : Node) → is_node_settled x ≡ true
    → ((l : Leaf) → IsIn l (book_of x).leaves → is_doubtful_leaf l ≡ true → ⊥) × ((t : Transaction) → IsIn t (book_of x).transactions → waits_on t ≡ true → ⊥)
book_rests x e = by_book x.book e
  where
    by_book : (o : Option Book) → is_book_settled o ≡ true
        → ((l : Leaf) → IsIn l (standing x.base x.journal o).leaves → is_doubtful_leaf l ≡ true → ⊥) ×
        ((t : Transaction) → IsIn t (standing x.base x.journal o).transactions → waits_on t ≡ true → ⊥)
    by_book None f = absurd cc
    by_book (Some b) f = (
      λ l i k. not_both (list_any is_doubtful_leaf b.leaves) (first_true (not (list_any is_doubtful_leaf b.leaves)) (not (list_any waits_on b.transactions)) f) (any_of is_doubtful_leaf b.leaves l i k),
      λ t i k. not_both (list_any waits_on b.transactions) (second_true (not (list_any is_doubtful_leaf b.leaves)) (not (list_any waits_on b.transactions)) f) (any_of waits_on b.transactions t i k),
    )

node_rests : (w : World) (n : ℕ) (x : Node) → is_settled w ≡ true → nth n w.nodes ≡ Some x → is_node_settled x ≡ true
node_rests w n x rests found = each_passes is_node_settled w.nodes x rests (in_nodes n x w.nodes found)

transaction_rests : (hosts : Hosts) (w : World) → Knows hosts w → (n : ℕ) (x : Node) (id : Numbers) (t : Transaction) → nth n w.nodes ≡ Some x
    → transaction_at (book_of x) id ≡ Some t → waits_on t ≡ true → ⊥
transaction_rests hosts w k n x id t found stands waiting =
    (book_rests x (node_rests w n x k.rests found)).1 t (found_in transaction_id id (book_of x).transactions t stands) waiting

leaf_rests : (hosts : Hosts) (w : World) → Knows hosts w → (n : ℕ) (x : Node) (id : Numbers) (l : Leaf) → nth n w.nodes ≡ Some x
    → leaf_at (book_of x) id ≡ Some l → l.kind ≡ kinds.Durable
    → l.state ≡ states.PreparedSuccess → ⊥
leaf_rests hosts w k n x id l found stands kind state =
    (book_rests x (node_rests w n x k.rests found)).0 l (found_in leaf_id id (book_of x).leaves l stands)
    (λ i. (ap (λ (q : Kind). is_kind q kinds.Durable) kind) i && (ap (λ s. is_state s states.PreparedSuccess) state) i)

-- who votes is a subordinate or a durable leaf
voted_sort : (s : Numbers → Sort) (id : Numbers) (r : Record) → is_vote id r ≡ true → FitsRecord s r → (s id ≡ Subordinate) ⊎ (s id ≡ LeafOf kinds.Durable)
voted_sort s id (records.Voted i superior seats) e f =
    inl (ap s (sym (promise_id id (records.Voted i superior seats) (is_promised id (records.Voted i superior seats) e))) ∙ f)
voted_sort s id (records.LeafPrepared i coordinator key value) e f =
    inr (ap s (sym (promise_id id (records.LeafPrepared i coordinator key value) (is_promised id (records.LeafPrepared i coordinator key value) e))) ∙ f)
voted_sort s id other e f = absurd cc

no_volatile : (S : Sort) → (S ≡ Subordinate) ⊎ (S ≡ LeafOf kinds.Durable) → S ≡ LeafOf kinds.Volatile → ⊥
no_volatile S (inl e) f = let g : Subordinate ≡ LeafOf kinds.Volatile = sym e ∙ f in cc
no_volatile S (inr e) f = let g : LeafOf kinds.Durable ≡ LeafOf kinds.Volatile = sym e ∙ f in cc

by_ending : (w : World) (x : Who) (what : Ending) → HasEnded w x what → HasCommitted w x ⊎ HasAborted w x
by_ending w x endings.Committed h = inl h
by_ending w x endings.Aborted h = inr (inl h)
by_ending w x endings.Lost h = inr (inr h)

-- so its end is a commit or an abort of a durable participant
end_counts : (hosts : Hosts) (w : World) → Knows hosts w → (x : Who) → HasVoted w x → (f : Effect) → IsIn (happened_at x.node f) w.happened
    → ends_as x.id f ≡ true → HasCommitted w x ⊎ HasAborted w x
end_counts hosts w k x v (effects.Root i what) j e =
    by_ending w x what (inl (subst (λ q. IsIn (happened_at x.node (effects.Root q what)) w.happened) (same_id i x.id e) j))
end_counts hosts w k x v (effects.Sub i what) j e =
    by_ending w x what (inr (inl (subst (λ q. IsIn (happened_at x.node (effects.Sub q what)) w.happened) (same_id i x.id e) j)))
end_counts hosts w k x v (effects.Leaf i kinds.Durable what) j e =
    by_ending w x what (inr (inr (subst (λ q. IsIn (happened_at x.node (effects.Leaf q kinds.Durable what)) w.happened) (same_id i x.id e) j)))
end_counts hosts w k x (r, (y, found, i), vote) (effects.Leaf q kinds.Volatile what) j e =
    absurd (no_volatile (k.bonds.sorted.sort x.node x.id)
    (voted_sort (k.bonds.sorted.sort x.node) x.id r vote (one_of (FitsRecord (k.bonds.sorted.sort x.node)) y.journal r (k.bonds.sorted.nodes x.node y found).journal i))
    (ap (k.bonds.sorted.sort x.node) (sym (same_id q x.id e))
    ∙ one_of (λ (h : Happened). FitsEffect (k.bonds.sorted.sort h.node) h.what) w.happened (happened_at x.node (effects.Leaf q kinds.Volatile what)) k.bonds.sorted.happened j))
end_counts hosts w k x v (effects.Told i what) j e = absurd cc

ended_counts : (hosts : Hosts) (w : World) → Knows hosts w → (x : Who) → HasVoted w x → (ends x.id (happened_on x.node w.happened) ≡ [] → ⊥)
    → HasCommitted w x ⊎ HasAborted w x
ended_counts hosts w k x v some = by_list (ends x.id (happened_on x.node w.happened)) refl
  where
    by_list : (es : List Effect) → ends x.id (happened_on x.node w.happened) ≡ es → HasCommitted w x ⊎ HasAborted w x
    by_list [] e = absurd (some e)
    by_list (f ∷ es) e =
        let (there, own) = filtered_from (ends_as x.id) f (happened_on x.node w.happened) (subst (IsIn f) (sym e) (inl refl)) in
        end_counts hosts w k x v f (from_there x.node f w.happened there) own

one_end : (es : List Effect) (f : Effect) → es ≡ f ∷ [] → es ≡ [] → ⊥
one_end es f e none = let g : f ∷ [] ≡ [] = sym e ∙ none in cc

-- Who has voted has its outcome: its vote isn't live any more, or it would wait.
voted_ends : (hosts : Hosts) (w : World) → Knows hosts w → (x : Who) (y : Node) → nth x.node w.nodes ≡ Some y → (r : Record) → IsIn r y.journal
    → is_vote x.id r ≡ true
    → Life y.journal (happened_on x.node w.happened) x.id (transaction_at (book_of y) x.id) (leaf_at (book_of y) x.id)
    → ends x.id (happened_on x.node w.happened) ≡ [] → ⊥
voted_ends hosts w k x y found r i vote (is_gone e f dead over once) none = over r i (is_promised x.id r vote) none
voted_ends hosts w k x y found r i vote (is_undecided t e f open_still nothing unended) none = nothing r i (is_promised x.id r vote)
voted_ends hosts w k x y found r i vote (has_voted t superior seats e f phase sub live out unended) none =
    transaction_rests hosts w k x.node y x.id t found e (ap waits_in phase)
voted_ends hosts w k x y found r i vote (has_decided t seats e f phase root live ended) none = one_end (ends x.id (happened_on x.node w.happened)) _ ended none
voted_ends hosts w k x y found r i vote (has_committed t superior seats e f phase sub live more ended) none =
    one_end (ends x.id (happened_on x.node w.happened)) _ ended none
voted_ends hosts w k x y found r i vote (has_aborted t e f phase dead ended) none = one_end (ends x.id (happened_on x.node w.happened)) _ ended none
voted_ends hosts w k x y found r i vote (works l e f s nothing unended) none = nothing r i (is_promised x.id r vote)
voted_ends hosts w k x y found r i vote (waits l coordinator key value e f kind state live unended) none =
    leaf_rests hosts w k x.node y x.id l found f kind state

as_voted : (hosts : Hosts) (w : World) → Knows hosts w → (x : Who) → HasPromised w x → HasVoted w x
as_voted hosts w k x (inl v) = v
as_voted hosts w k x (inr p) = k.premises.prepared x p

has_ended : (hosts : Hosts) (w : World) → Knows hosts w → (x : Who) → HasPromised w x → HasCommitted w x ⊎ HasAborted w x
has_ended hosts w k x p = by_vote (as_voted hosts w k x p)
  where
    by_vote : HasVoted w x → HasCommitted w x ⊎ HasAborted w x
    by_vote (r, (y, found, i), vote) =
        ended_counts hosts w k x (r, (y, found, i), vote) (voted_ends hosts w k x y found r i vote (k.premises.laws.lives x.node y found x.id))

-- A transaction that has committed, and stands in its node's book, waits until its participants have.
held_waits : (hosts : Hosts) (w : World) → Knows hosts w → (t : Who) (y : Node) (held : Transaction) → nth t.node w.nodes ≡ Some y
    → transaction_at (book_of y) t.id ≡ Some held → HasCommitted w t
    → TransactionLife y.journal (happened_on t.node w.happened) t.id held → ⊥
held_waits hosts w k t y held found stands c (undecided still nothing unended) = not_ended w t.node t.id unended endings.Committed c
held_waits hosts w k t y held found stands c (voted superior seats phase sub live out unended) = not_ended w t.node t.id unended endings.Committed c
held_waits hosts w k t y held found stands c (decided seats phase root live ended) =
    transaction_rests hosts w k t.node y t.id held found stands (ap waits_in phase)
held_waits hosts w k t y held found stands c (committed superior seats phase sub live more ended) =
    transaction_rests hosts w k t.node y t.id held found stands (ap waits_in phase)
held_waits hosts w k t y held found stands c (aborted phase dead ended) =
    k.bonds.one t c
    (aborts_here w t.node y.journal t.id held (found_id transaction_id t.id (book_of y).transactions held stands) (aborted phase dead ended) phase)

-- under one that has committed
below_committed : (hosts : Hosts) (w : World) → Knows hosts w → (t x : Who) (number : ℕ) → HasSeat w t number kinds.Durable x → HasCommitted w t
    → HasCommitted w x ⊎ HasPosted w x kinds.Durable notices.ReadOnly
below_committed hosts w k t x number seat c = by_case (k.joint.gone t x number seat)
  where
    by_case : IsHeld w t ⊎ (HasAborted w t ⊎ (HasPosted w x kinds.Durable notices.ReadOnly ⊎ HasCommitted w x))
        → HasCommitted w x ⊎ HasPosted w x kinds.Durable notices.ReadOnly
    by_case (inl h) =
        absurd (held_waits hosts w k t h.node h.transaction h.found h.stands c
        (life_of h.node.journal (happened_on t.node w.happened) t.id (transaction_at (book_of h.node) t.id) (leaf_at (book_of h.node) t.id) h.transaction
        (k.premises.laws.lives t.node h.node h.found t.id) h.stands))
    by_case (inr (inl a)) = absurd (k.bonds.one t c a)
    by_case (inr (inr (inl r))) = inr r
    by_case (inr (inr (inr d))) = inl d

-- and so through any depth: under one that left by ReadOnly everybody has left or has committed
below_root : (hosts : Hosts) (w : World) → Knows hosts w → (root x : Who) → HasCommitted w root → IsOf w x root
    → HasCommitted w x ⊎ HasPosted w x kinds.Durable notices.ReadOnly
below_root hosts w k root x c (itself e) = inl (subst (HasCommitted w) (sym e) c)
below_root hosts w k root x c (below t number seat of) = by_superior (below_root hosts w k root t c of)
  where
    turned : HasPosted w x kinds.Durable notices.ReadOnly ⊎ HasCommitted w x → HasCommitted w x ⊎ HasPosted w x kinds.Durable notices.ReadOnly
    turned (inl r) = inr r
    turned (inr d) = inl d

    by_superior : HasCommitted w t ⊎ HasPosted w t kinds.Durable notices.ReadOnly → HasCommitted w x ⊎ HasPosted w x kinds.Durable notices.ReadOnly
    by_superior (inl d) = below_committed hosts w k t x number seat d
    by_superior (inr r) = turned (k.bonds.left_below t x r (number, seat))

unsplit : (hosts : Hosts) (w : World) → Knows hosts w → (root x y : Who) → IsOf w x root → IsOf w y root → HasCommitted w x → HasAborted w y → ⊥
unsplit hosts w k root x y i j c a = whole w k.bonds (record { root = root; one = x; other = y; one_of = i; other_of = j; committed = c; aborted = a })

-- what has voted has one of the two
not_aborted : (w : World) (x : Who) → (HasAborted w x → ⊥) → HasCommitted w x ⊎ HasAborted w x → HasCommitted w x
not_aborted w x never (inl c) = c
not_aborted w x never (inr a) = absurd (never a)

not_committed : (w : World) (x : Who) → (HasCommitted w x → ⊥) → HasCommitted w x ⊎ HasAborted w x → HasAborted w x
not_committed w x never (inl c) = absurd (never c)
not_committed w x never (inr a) = a

aborted_under : (hosts : Hosts) (w : World) → Knows hosts w → (root x : Who) → (HasCommitted w root → ⊥) → IsOf w x root → HasPromised w x → HasAborted w x
aborted_under hosts w k root x never i p = not_committed w x (λ c. never (up w k.bonds x root i c)) (has_ended hosts w k x p)

unvoted : (hosts : Hosts) (w : World) → Knows hosts w → (root x : Who) (number : ℕ) → IsUndecided w root → HasSeat w root number kinds.Durable x
    → HasPromised w x → ⊥
unvoted hosts w k root x number h seat p =
    h.unaborted (same_superior (k.bonds.rolled_back x (as_voted hosts w k x p) (aborted_under hosts w k root x h.uncommitted (below root number seat (itself refl)) p)))
  where
    same_superior : IsUnderOne w (HasAborted w) x → HasAborted w root
    same_superior (s, (other, i), a) = subst (HasAborted w) (k.bonds.superior x s root _ _ i seat) a

-- an undecided root that is held
held_open : (hosts : Hosts) (w : World) → Knows hosts w → (t : Who) (y : Node) (held : Transaction) → IsUndecided w t → nth t.node w.nodes ≡ Some y
    → transaction_at (book_of y) t.id ≡ Some held
    → TransactionLife y.journal (happened_on t.node w.happened) t.id held → may_expire held.phase ≡ true
held_open hosts w k t y held h found stands (undecided still nothing unended) = still
held_open hosts w k t y held h found stands (voted superior seats phase sub live out unended) =
    absurd (transaction_rests hosts w k t.node y t.id held found stands (ap waits_in phase))
held_open hosts w k t y held h found stands (decided seats phase root live ended) =
    absurd (transaction_rests hosts w k t.node y t.id held found stands (ap waits_in phase))
held_open hosts w k t y held h found stands (committed superior seats phase sub live more ended) =
    absurd (transaction_rests hosts w k t.node y t.id held found stands (ap waits_in phase))
held_open hosts w k t y held h found stands (aborted phase dead ended) =
    absurd (h.unaborted
    (aborts_here w t.node y.journal t.id held (found_id transaction_id t.id (book_of y).transactions held stands) (aborted phase dead ended) phase))

-- each node of a settled world is up
is_up : (x : Node) → is_node_settled x ≡ true → (b : Book) × (x.book ≡ Some b)
is_up x e = by_book x.book refl e
  where
    by_book : (o : Option Book) → x.book ≡ o → is_book_settled o ≡ true → (b : Book) × (x.book ≡ Some b)
    by_book None f g = absurd cc
    by_book (Some b) f g = (b, f)

stands_open : (hosts : Hosts) (w : World) → Knows hosts w → (t : Who) → IsUndecided w t → IsHeld w t → StandsOpen w t
stands_open hosts w k t h held =
    let (b, up) = is_up held.node (node_rests w t.node held.node k.rests held.found) in
    record {
      node = held.node;
      found = held.found;
      book = b;
      up = up;
      transaction = held.transaction;
      stands = subst (λ o. transaction_at (standing held.node.base held.node.journal o) t.id ≡ Some held.transaction) up held.stands;
      undecided = held_open hosts w k t held.node held.transaction h held.found held.stands
          (life_of held.node.journal (happened_on t.node w.happened) t.id (transaction_at (book_of held.node) t.id) (leaf_at (book_of held.node) t.id) held.transaction
          (k.premises.laws.lives t.node held.node held.found t.id) held.stands);
    }

held : (hosts : Hosts) (w : World) → Knows hosts w → (root x : Who) (number : ℕ) → IsUndecided w root → HasSeat w root number kinds.Durable x
    → StandsOpen w root ⊎ HasPosted w x kinds.Durable notices.ReadOnly
held hosts w k root x number h seat = by_case (k.joint.gone root x number seat)
  where
    by_case : IsHeld w root ⊎ (HasAborted w root ⊎ (HasPosted w x kinds.Durable notices.ReadOnly ⊎ HasCommitted w x))
        → StandsOpen w root ⊎ HasPosted w x kinds.Durable notices.ReadOnly
    by_case (inl i) = inl (stands_open hosts w k root h i)
    by_case (inr (inl a)) = absurd (h.unaborted a)
    by_case (inr (inr (inl r))) = inr r
    by_case (inr (inr (inr c))) = absurd (h.uncommitted (up w k.bonds x root (below root number seat (itself refl)) c))

has_outcomes : (hosts : Hosts) (w : World) → Knows hosts w → HasOutcomes w
has_outcomes hosts w k = record {
  decided = has_ended hosts w k;
  committed = below_root hosts w k;
  kept = λ root x c i p. not_aborted w x (λ a. unsplit hosts w k root root x (itself refl) i c a) (has_ended hosts w k x p);
  aborted = λ root x a i p. aborted_under hosts w k root x (λ c. k.bonds.one root c a) i p;
  undecided = λ root x h i p.
      let a : HasAborted w x = aborted_under hosts w k root x h.uncommitted i p in (a, k.bonds.rolled_back x (as_voted hosts w k x p) a);
  unvoted = unvoted hosts w k;
  held = held hosts w k;
}

reached_outcomes : (hosts : Hosts) (w : World) → HaveOwnAddresses hosts → Reached hosts w → is_settled w ≡ true → HasOutcomes w
reached_outcomes hosts w distinct reached rests =
    has_outcomes hosts w (record {
      premises = world_premises layers hosts w distinct reached;
      bonds = bound hosts w distinct reached;
      joint = outcomes_are_backed.reached hosts w distinct reached;
      rests = rests;
    })

run_further : (es more : List WorldEvent) (w : World) → run_on w (es ++ more) ≡ run_on (run_on w es) more
run_further [] more w = refl
run_further (e ∷ es) more w = run_further es more (world_step w e)

promised_on : (u w : World) → Grows u w → (x : Who) → HasPromised u x → HasPromised w x
promised_on u w g x (inl v) = inl (voted_on u w g x v)
promised_on u w g x (inr p) = inr (posted_on u w g x kinds.Durable notices.Prepared p)

pub outcomes_are_settled : OutcomesAreSettled
outcomes_are_settled = record {
  reached = reached_outcomes;
  runs = λ hosts es distinct rests. reached_outcomes hosts (run_of hosts es) distinct (run_reached hosts es) rests;
  settles = λ hosts es distinct may.
      reached_outcomes hosts (run_on (run_of hosts es) (settle (run_of hosts es))) distinct
      (subst (Reached hosts) (run_further es (settle (run_of hosts es)) (opening hosts)) (run_reached hosts (es ++ settle (run_of hosts es)))) (settles hosts es distinct may).rests;
  stands = λ hosts es more x. promised_on (run_of hosts es) (run_of hosts (es ++ more)) (takes_nothing_back.grows hosts es more) x;
}
