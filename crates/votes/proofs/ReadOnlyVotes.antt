-- A durable participant that votes ReadOnly is gone without a trace, and stays so.
use Rattle.std.specs.Prelude.{ℕ, List, [], ◌∷◌, ◌++◌, Option, Some, None, Bool, true, false, nat_eq, ◌+◌, ◌≡◌, ◌⊎◌, refl}
use Rattle.std.proofs.Common.{inl, inr, sym, subst, ap, ◌∙◌}
use Rattle.std.proofs.lemmas.Bool.{eqb-true, eqb-false}
use Rattle.std.proofs.lemmas.List.{append-nil}
use Rattle.at_base.specs.Numbers.{Numbers}
use Rattle.at_base.specs.declared.notice.Kind.TheVariants as kinds
use Rattle.at_base.specs.declared.notice.Notice.TheVariants as notices
use Rattle.at_base.specs.declared.message.Message.TheVariants as messages
use Rattle.at_base.specs.declared.target.Target.TheVariants as targets
use Rattle.at_base.specs.declared.event.Event.{Event}
use Rattle.at_base.specs.declared.outs.Effect.{Effect}
use Rattle.at_base.specs.declared.outs.Post.{Post}
use Rattle.at_base.specs.declared.record.Record.{Record}
use Rattle.at_model.specs.Book.{Book, Enlistment, Leaf, Transaction, find_by, leaf_id, transaction_id}
use Rattle.at_model.specs.Due.{may_expire}
use Rattle.at_model.specs.Recovery.{in_order, is_promise, last_incarnation, leaves_of, live, recover}
use Rattle.at_model.specs.Step.{leaf_at, moment_of, plan, step, transaction_at}
use Rattle.at_model.specs.World.{Happened, Node, Posted, Who, World, goes_down, lost_in, nth, put_nth, receiver_of, started, up_after, with_post, Hosts, HaveOwnAddresses}
use Rattle.model_laws.specs.Agreement.{IsIn}
use Rattle.model_laws.specs.DrawnIds.{restarted, with_entry}
use Rattle.model_laws.specs.Laws.{IsDrawn}
use Rattle.model_laws.specs.Order.{IsInOrder}
use Rattle.model_laws.specs.ReachedWorlds.{Reached, counts}
use Rattle.model_laws.proofs.DecisionLaws.{all_find, found_id}
use Rattle.model_laws.proofs.WorldInvariants.{Law, holds}
use Rattle.model_laws.proofs.DrawnIds.{ids_stay_drawn}
use Rattle.model_laws.proofs.NodeLives.{put_other, put_this}
use Rattle.agreement.specs.Deeds.{Becomes, How, StoodFor, happens}
use Rattle.agreement.specs.StepDeeds.{standing as standing_entry}
use Rattle.agreement.specs.Lives.{Life, PromisesNothing, book_of, ends, happened_on, has_aborted, has_committed, has_decided, has_voted, is_gone, is_undecided, standing, waits, works}
use Rattle.agreement.specs.Recoveries.{StandsFor, StandsForLeaf}
use Rattle.agreement.specs.Registers.{HasDrawn}
use Rattle.agreement.proofs.Crashes.{ends_lost, lost, lost_as}
use Rattle.agreement.proofs.Journals.{journals_live}
use Rattle.agreement.proofs.Lives.{lost_there}
use Rattle.agreement.proofs.Recoveries.{from_leaf_promise, from_promise, recovers_each}
use Rattle.agreement.proofs.Registers.{drawn_down, drawn_up, of_records}
use Rattle.agreement.proofs.SeatedEntries.{each_is_in, in_either}
use Rattle.agreement.proofs.OtherIds.{ends_join, find_this}
use Rattle.agreement.proofs.TransactionLives.{Alone, alone}
use Rattle.enlistments.specs.Moves.{IsReady, LeafDid, TransactionDid}
use Rattle.enlistments.proofs.StepNotices.{steps_tell}
use Rattle.enlistments.proofs.StepMoves.{steps_move}
use Rattle.votes.specs.DurableVotes.{LeftNoTrace, ReadOnlyIsGone}
use Rattle.votes.proofs.GoneIds.{IsAway, keeps_id, leaf_keeps_id, stays_away}
use Rattle.votes.proofs.ItemEnds.{is_open}
use Rattle.votes.proofs.Lives.{gone_down, lost_here, on_join, step_here, step_there, world_laws}
use Rattle.votes.proofs.PreparedVotes.{all_outs}
use Rattle.votes.proofs.Premises.{WorldLaws}
use Rattle.votes.proofs.Starts.{recovered_same}
use Rattle.votes.proofs.VoteSenders.{IsVoter, leaf_left, leaf_prepared, subordinate, voters}

-- where it is gone, by its node
record IsGoneAt (hs : List Happened) (n : ℕ) (id : Numbers) (y : Node) : Type 0 where
  drawn : HasDrawn y.journal y.book id
  transaction : transaction_at (book_of y) id ≡ None
  leaf : leaf_at (book_of y) id ≡ None
  ended : ends id (happened_on n hs) ≡ []

as_trace : (w : World) (x : Who) (y : Node) → nth x.node w.nodes ≡ Some y → IsGoneAt w.happened x.node x.id y → LeftNoTrace w x
as_trace w x y found h = record { node = y; found = found; drawn = h.drawn; transaction = h.transaction; leaf = h.leaf; ended = h.ended }

of_trace : (w : World) (x : Who) → (t : LeftNoTrace w x) → IsGoneAt w.happened x.node x.id t.node
of_trace w x t = record { drawn = t.drawn; transaction = t.transaction; leaf = t.leaf; ended = t.ended }

one_same : {A : Type 0} (o : Option A) (x y : A) → o ≡ Some x → o ≡ Some y → x ≡ y
one_same o x y e f = cc

no_some : {A : Type 0} (o : Option A) (x : A) → o ≡ None → o ≡ Some x → ⊥
no_some o x e f = cc

-- where one node is put
put_trace : (u v : World) (n : ℕ) (x z : Node) → nth n u.nodes ≡ Some x → v.nodes ≡ put_nth n z u.nodes → ((id : Numbers) → IsGoneAt u.happened n id x → IsGoneAt v.happened n id z)
    → ((m : ℕ) → (m ≡ n → ⊥) → happened_on m v.happened ≡ happened_on m u.happened) → (y : Who) → LeftNoTrace u y → LeftNoTrace v y
put_trace u v n x z found is here there y t = by_node (nat_eq y.node n) refl
  where
    by_node : (c : Bool) → nat_eq y.node n ≡ c → LeftNoTrace v y
    by_node true c =
        let same : y.node ≡ n = eqb-true y.node n c in
        let this : t.node ≡ x = one_same (nth n u.nodes) t.node x (ap (λ k. nth k u.nodes) (sym same) ∙ t.found) found in
        as_trace v y z (ap (nth y.node) is ∙ ap (λ k. nth k (put_nth n z u.nodes)) same ∙ put_this u.nodes n x z found)
        (subst (λ k. IsGoneAt v.happened k y.id z) (sym same)
        (here y.id (subst (IsGoneAt u.happened n y.id) this (subst (λ k. IsGoneAt u.happened k y.id t.node) same (of_trace u y t)))))
    by_node false c =
        let other : y.node ≡ n → ⊥ = eqb-false y.node n c in
        as_trace v y t.node (ap (nth y.node) is ∙ put_other u.nodes y.node n z other ∙ t.found)
        (record { drawn = t.drawn; transaction = t.transaction; leaf = t.leaf; ended = ap (ends y.id) (there y.node other) ∙ t.ended })

-- a step
joined : (id : Numbers) (fx es : List Effect) → ends id fx ≡ [] → ends id es ≡ [] → ends id (fx ++ es) ≡ []
joined id fx es e f = ends_join id fx es ∙ (λ i. e i ++ f i)

gone_on : (u : World) (n : ℕ) (x : Node) (b : Book) (e : Event) (now : ℕ) (landed : Bool) → x.book ≡ Some b → IsReady b → (id : Numbers) → IsGoneAt u.happened n id x
    → IsGoneAt (counts u n x b e now landed).happened n id (record x { book = Some (step b e now landed).book; journal = with_entry (plan b e now).entry landed x.journal })
gone_on u n x b e now landed up ready id h = record {
  drawn = ids_stay_drawn.stays b e now landed id drawn;
  transaction = away.transaction;
  leaf = away.leaf;
  ended = ap (ends id) (step_here n u.happened (step b e now landed).effects) ∙ joined id (happened_on n u.happened) (step b e now landed).effects h.ended away.ended;
}
  where
    drawn : IsDrawn b id
    drawn = subst (λ o. HasDrawn x.journal o id) up h.drawn

    away : IsAway (step b e now landed) id
    away =
        stays_away b e now (standing_entry landed (plan b e now).entry) (step b e now landed) id drawn
        (ap (λ o. transaction_at (standing x.base x.journal o) id) (sym up) ∙ h.transaction) (ap (λ o. leaf_at (standing x.base x.journal o) id) (sym up) ∙ h.leaf)
        (steps_move.moved b e now landed ready)

-- a fall
none_promised : (rs : List Record) (fx : List Effect) (id : Numbers) (t : Option Transaction) (l : Option Leaf) → t ≡ None → l ≡ None → Life rs fx id t l → PromisesNothing id (live rs)
none_promised rs fx id t l e f (is_gone g h dead over once) = dead
none_promised rs fx id t l e f (is_undecided x g h o nothing k) = absurd (no_some t x e g)
none_promised rs fx id t l e f (has_voted x superior seats g h o u v out k) = absurd (no_some t x e g)
none_promised rs fx id t l e f (has_decided x seats g h o u v k) = absurd (no_some t x e g)
none_promised rs fx id t l e f (has_committed x superior seats g h o u v c k) = absurd (no_some t x e g)
none_promised rs fx id t l e f (has_aborted x g h o dead k) = dead
none_promised rs fx id t l e f (works x g h o nothing k) = absurd (no_some l x f h)
none_promised rs fx id t l e f (waits x coordinator key value g h d o v k) = absurd (no_some l x f h)

never : {A : Type 0} (o : Option A) → ((x : A) → o ≡ Some x → ⊥) → o ≡ None
never None h = refl
never (Some x) h = absurd (h x refl)

found_among : {A : Type 0} (key : A → Numbers) (id : Numbers) (xs : List A) (x : A) → find_by key id xs ≡ Some x → IsIn x xs
found_among key id xs x e = all_find (λ y. IsIn y xs) key id xs x (each_is_in xs) e

none_recovered : (base : List ℕ) (rs : List Record) (id : Numbers) → PromisesNothing id (live rs) → transaction_at (recover base rs) id ≡ None
none_recovered base rs id dead =
    never (transaction_at (recover base rs) id)
    (λ t e. let s : StandsFor base (live rs) t = recovers_each.transactions base rs t (found_among transaction_id id (recover base rs).transactions t e) in
    dead s.behind s.live (subst (λ i. is_promise i s.behind ≡ true) (found_id transaction_id id (recover base rs).transactions t e) (from_promise base (live rs) s.behind t s.is)))

no_leaf_recovered : (base : List ℕ) (rs : List Record) (id : Numbers) → PromisesNothing id (live rs) → leaf_at (recover base rs) id ≡ None
no_leaf_recovered base rs id dead =
    never (leaf_at (recover base rs) id)
    (λ l e. let s : StandsForLeaf (live rs) l = recovers_each.leaves base rs l (found_among leaf_id id (recover base rs).leaves l e) in
    dead s.behind s.live (subst (λ i. is_promise i s.behind ≡ true) (found_id leaf_id id (recover base rs).leaves l e) (from_leaf_promise s.behind l s.is)))

gone_down_so : (hosts : Hosts) (u : World) (n : ℕ) (x : Node) (b : Book) → WorldLaws hosts u → nth n u.nodes ≡ Some x → x.book ≡ Some b → IsInOrder b → (id : Numbers) → IsGoneAt u.happened n id x
    → IsGoneAt (u.happened ++ lost_in n b) n id (record x { book = None })
gone_down_so hosts u n x b laws found up order id h = record {
  drawn = drawn_down x.journal x.book (of_records hosts u laws.reached n x found) id h.drawn;
  transaction = none_recovered x.base x.journal id dead;
  leaf = no_leaf_recovered x.base x.journal id dead;
  ended = ap (ends id) (on_join n u.happened (lost_in n b) ∙ ap (λ zs. happened_on n u.happened ++ zs) (lost_here n b))
      ∙ joined id (happened_on n u.happened) (lost b) h.ended (ends_lost b id order ∙ (λ i. lost_as (none i) (no_leaf i)));
}
  where
    dead : PromisesNothing id (live x.journal)
    dead = none_promised x.journal (happened_on n u.happened) id (transaction_at (book_of x) id) (leaf_at (book_of x) id) h.transaction h.leaf (laws.lives n x found id)

    none : transaction_at b id ≡ None
    none = ap (λ o. transaction_at (standing x.base x.journal o) id) (sym up) ∙ h.transaction

    no_leaf : leaf_at b id ≡ None
    no_leaf = ap (λ o. leaf_at (standing x.base x.journal o) id) (sym up) ∙ h.leaf

-- a start
leaves_same : (base : List ℕ) (rs : List Record) → (recover base (restarted rs)).leaves ≡ (recover base rs).leaves
leaves_same base rs = ap (λ ls. in_order leaf_id (leaves_of ls)) (journals_live.start rs (last_incarnation rs + 1))

gone_up : (hs : List Happened) (n : ℕ) (x : Node) (stop : Bool) → x.book ≡ None → (id : Numbers) → IsGoneAt hs n id x → IsGoneAt hs n id (up_after (started (last_incarnation x.journal + 1) x) stop)
gone_up hs n x stop down id h = record {
  drawn = drawn_up x.base x.journal stop id (subst (λ o. HasDrawn x.journal o id) down h.drawn);
  transaction = by_stop stop (λ (b : Book). transaction_at b id ≡ None)
      (ap (find_by transaction_id id) (recovered_same x.base x.journal) ∙ ap (λ o. transaction_at (standing x.base x.journal o) id) (sym down) ∙ h.transaction);
  leaf = by_stop stop (λ (b : Book). leaf_at b id ≡ None)
      (ap (find_by leaf_id id) (leaves_same x.base x.journal) ∙ ap (λ o. leaf_at (standing x.base x.journal o) id) (sym down) ∙ h.leaf);
  ended = h.ended;
}
  where
    by_stop : (s : Bool) → (P : Book → Type 0) → P (recover x.base (restarted x.journal)) → P (book_of (up_after (started (last_incarnation x.journal + 1) x) s))
    by_stop true P k = k
    by_stop false P k = k

-- the vote itself
leaves_so : (how : How) (t : Transaction) (at : List Enlistment) (item : Option Transaction) (es : List Effect) → how ≡ How.Leaves → StoodFor how t → Becomes how t at item → es ≡ happens how t
    → (may_expire t.phase ≡ true) × (item ≡ None) × (es ≡ [])
leaves_so how t at item es is stood becomes happened =
    ((subst (λ h. StoodFor h t) is stood).0, subst (λ h. Becomes h t at item) is becomes, subst (λ h. es ≡ happens h t) is happened)

drawn_here : (b : Book) (i : Numbers) (t : Transaction) → IsInOrder b → transaction_at b i ≡ Some t → IsDrawn b i
drawn_here b i t h e =
    subst (IsDrawn b) (found_id transaction_id i b.transactions t e) (all_find (λ (y : Transaction). IsDrawn b y.id) transaction_id i b.transactions t h.drawn.transactions e)

leaf_drawn_here : (b : Book) (i : Numbers) (l : Leaf) → IsInOrder b → leaf_at b i ≡ Some l → IsDrawn b i
leaf_drawn_here b i l h e =
    subst (IsDrawn b) (found_id leaf_id i b.leaves l e) (all_find (λ (y : Leaf). IsDrawn b y.id) leaf_id i b.leaves l h.drawn.leaves e)

subordinate_left : (hosts : Hosts) (u : World) (n : ℕ) (x : Node) (b : Book) (e : Event) (now : ℕ) (landed : Bool) → WorldLaws hosts u → nth n u.nodes ≡ Some x → x.book ≡ Some b → IsReady b
    → (d : TransactionDid b e now (standing_entry landed (plan b e now).entry) (step b e now landed)) → d.deed.how ≡ How.Leaves
    → IsGoneAt (counts u n x b e now landed).happened n d.old.id (record x { book = Some (step b e now landed).book; journal = with_entry (plan b e now).entry landed x.journal })
subordinate_left hosts u n x b e now landed laws found up ready d leaves = by_leaving (leaves_so d.deed.how d.old d.deed.at d.change.item (step b e now landed).effects leaves d.deed.stood d.deed.becomes
    (d.effects_are ∙ d.deed.happened))
  where
    lone : Alone x.journal (happened_on n u.happened) d.old.id d.old (leaf_at b d.old.id)
    lone =
        alone x.journal (happened_on n u.happened) d.old.id d.old (leaf_at b d.old.id)
        (subst (λ o. Life x.journal (happened_on n u.happened) d.old.id o (leaf_at b d.old.id)) d.found
        (subst (λ o. Life x.journal (happened_on n u.happened) d.old.id (transaction_at (standing x.base x.journal o) d.old.id) (leaf_at (standing x.base x.journal o) d.old.id)) up
        (laws.lives n x found d.old.id)))

    by_leaving : (may_expire d.old.phase ≡ true) × (d.change.item ≡ None) × ((step b e now landed).effects ≡ [])
        → IsGoneAt (counts u n x b e now landed).happened n d.old.id (record x { book = Some (step b e now landed).book; journal = with_entry (plan b e now).entry landed x.journal })
    by_leaving (undecided, none, quiet) = record {
      drawn = ids_stay_drawn.stays b e now landed d.old.id (drawn_here b d.old.id d.old ready.order d.found);
      transaction = ap (find_by transaction_id d.old.id) d.items.transactions_are
          ∙ find_this transaction_id d.old.id d.old d.change.item b.transactions ready.order.rising.transactions d.found (keeps_id d.old d.change.item d.deed.same) ∙ none;
      leaf = ap (find_by leaf_id d.old.id) d.items.leaves_are ∙ lone.leaf;
      ended = ap (ends d.old.id) (step_here n u.happened (step b e now landed).effects)
          ∙ joined d.old.id (happened_on n u.happened) (step b e now landed).effects (is_open x.journal (happened_on n u.happened) d.old.id d.old lone.life undecided).unended (ap (ends d.old.id) quiet);
    }

-- a leaf of the book
leaf_alone : (rs : List Record) (fx : List Effect) (id : Numbers) (t : Option Transaction) (l : Option Leaf) (x : Leaf) → l ≡ Some x → Life rs fx id t l → (t ≡ None) × (ends id fx ≡ [])
leaf_alone rs fx id t l x found (is_gone e f dead over once) = absurd (no_some l x f found)
leaf_alone rs fx id t l x found (is_undecided y e f o nothing k) = absurd (no_some l x f found)
leaf_alone rs fx id t l x found (has_voted y superior seats e f o u h out k) = absurd (no_some l x f found)
leaf_alone rs fx id t l x found (has_decided y seats e f o u h k) = absurd (no_some l x f found)
leaf_alone rs fx id t l x found (has_committed y superior seats e f o u h i k) = absurd (no_some l x f found)
leaf_alone rs fx id t l x found (has_aborted y e f o dead k) = absurd (no_some l x f found)
leaf_alone rs fx id t l x found (works y e f o nothing k) = (e, k)
leaf_alone rs fx id t l x found (waits y coordinator key value e f d o h k) = (e, k)

leaf_left_so : (hosts : Hosts) (u : World) (n : ℕ) (x : Node) (b : Book) (e : Event) (now : ℕ) (landed : Bool) → WorldLaws hosts u → nth n u.nodes ≡ Some x → x.book ≡ Some b → IsReady b
    → (d : LeafDid b e now (standing_entry landed (plan b e now).entry) (step b e now landed)) → d.change.item ≡ None → d.change.effects ≡ []
    → IsGoneAt (counts u n x b e now landed).happened n d.old.id (record x { book = Some (step b e now landed).book; journal = with_entry (plan b e now).entry landed x.journal })
leaf_left_so hosts u n x b e now landed laws found up ready d none quiet = record {
  drawn = ids_stay_drawn.stays b e now landed d.old.id (leaf_drawn_here b d.old.id d.old ready.order d.found);
  transaction = ap (find_by transaction_id d.old.id) d.items.transactions_are ∙ ap (λ o. transaction_at (standing x.base x.journal o) d.old.id) (sym up) ∙ lone.0;
  leaf = ap (find_by leaf_id d.old.id) d.items.leaves_are
      ∙ find_this leaf_id d.old.id d.old d.change.item b.leaves ready.order.rising.leaves d.found
      (leaf_keeps_id (moment_of b now) e d.old (standing_entry landed (plan b e now).entry) d.change d.deed) ∙ none;
  ended = ap (ends d.old.id) (step_here n u.happened (step b e now landed).effects)
      ∙ joined d.old.id (happened_on n u.happened) (step b e now landed).effects lone.1 (ap (ends d.old.id) (d.effects_are ∙ quiet));
}
  where
    lone : (transaction_at (book_of x) d.old.id ≡ None) × (ends d.old.id (happened_on n u.happened) ≡ [])
    lone =
        leaf_alone x.journal (happened_on n u.happened) d.old.id (transaction_at (book_of x) d.old.id) (leaf_at (book_of x) d.old.id) d.old
        (ap (λ o. leaf_at (standing x.base x.journal o) d.old.id) up ∙ d.found) (laws.lives n x found d.old.id)

voter_gone : (hosts : Hosts) (u : World) (n : ℕ) (x : Node) (b : Book) (e : Event) (now : ℕ) (landed : Bool) → WorldLaws hosts u → nth n u.nodes ≡ Some x → x.book ≡ Some b → IsReady b → (id : Numbers)
    → IsVoter b e now (standing_entry landed (plan b e now).entry) (step b e now landed) id notices.ReadOnly → LeftNoTrace (counts u n x b e now landed) (record { node = n; id = id })
voter_gone hosts u n x b e now landed laws found up ready id voter =
    as_trace (counts u n x b e now landed) (record { node = n; id = id }) behind_node (put_this u.nodes n x behind_node found) (by_voter voter)
  where
    behind_node : Node
    behind_node = record x { book = Some (step b e now landed).book; journal = with_entry (plan b e now).entry landed x.journal }

    by_voter : IsVoter b e now (standing_entry landed (plan b e now).entry) (step b e now landed) id notices.ReadOnly → IsGoneAt (counts u n x b e now landed).happened n id behind_node
    by_voter (subordinate d own why) =
        subst (λ i. IsGoneAt (counts u n x b e now landed).happened n i behind_node) own (subordinate_left hosts u n x b e now landed laws found up ready d why)
    by_voter (leaf_prepared d left own durable is item state) = absurd cc
    by_voter (leaf_left d own durable is state item effects) =
        subst (λ i. IsGoneAt (counts u n x b e now landed).happened n i behind_node) own (leaf_left_so hosts u n x b e now landed laws found up ready d item effects)

-- the law
abbrev GoesWithoutTrace : World → ℕ → Post → Type 0
GoesWithoutTrace w n p =
    (id : Numbers) → p.own ≡ Some (targets.Participant id kinds.Durable) → p.message ≡ messages.Notice notices.ReadOnly → LeftNoTrace w (record { node = n; id = id })

same_trace : (w : World) (n : ℕ) (p : Post) (y : Who) → LeftNoTrace w y → LeftNoTrace (with_post n p w) y
same_trace w n p y t = as_trace (with_post n p w) y t.node t.found (of_trace w y t)

posted_gone : (w : World) (n : ℕ) (p : Post) → ReadOnlyIsGone w → GoesWithoutTrace w n p → ReadOnlyIsGone (with_post n p w)
posted_gone w n p h f x (q, i, sender, own, says) = either (in_either q w.posted (record { sender = n; receiver = receiver_of w.nodes p.to; content = p } ∷ []) i)
  where
    new : q ≡ record { sender = n; receiver = receiver_of w.nodes p.to; content = p } → LeftNoTrace w x
    new e =
        subst (λ k. LeftNoTrace w (record { node = k; id = x.id })) (sym (ap (λ (z : Posted). z.sender) e) ∙ sender)
        (f x.id (sym (ap (λ (z : Posted). z.content.own) e) ∙ own) (sym (ap (λ (z : Posted). z.content.message) e) ∙ says))

    either : IsIn q w.posted ⊎ IsIn q (record { sender = n; receiver = receiver_of w.nodes p.to; content = p } ∷ []) → LeftNoTrace (with_post n p w) x
    either (inl k) = same_trace w n p x (h x (q, k, sender, own, says))
    either (inr (inl e)) = same_trace w n p x (new e)
    either (inr (inr k)) = absurd k

step_gone : (hosts : Hosts) (u : World) (n : ℕ) (x : Node) (b : Book) (e : Event) (now : ℕ) (landed : Bool) → nth n u.nodes ≡ Some x → x.book ≡ Some b → IsReady b → ReadOnlyIsGone u
    → ReadOnlyIsGone (counts u n x b e now landed)
step_gone hosts u n x b e now landed found up ready h y k =
    put_trace u (counts u n x b e now landed) n x (record x { book = Some (step b e now landed).book; journal = with_entry (plan b e now).entry landed x.journal }) found refl
    (gone_on u n x b e now landed up ready) (λ m differ. step_there m n u.happened (step b e now landed).effects differ) y (h y k)

fall_gone : (hosts : Hosts) (u : World) (n : ℕ) (x : Node) (b : Book) → WorldLaws hosts u → nth n u.nodes ≡ Some x → x.book ≡ Some b → IsInOrder b → ReadOnlyIsGone u → ReadOnlyIsGone (goes_down n b u)
fall_gone hosts u n x b laws found up order h =
    subst ReadOnlyIsGone (sym (gone_down n b u x found))
    (λ y k. put_trace u (record u { nodes = put_nth n (record x { book = None }) u.nodes; happened = u.happened ++ lost_in n b }) n x (record x { book = None }) found refl
    (gone_down_so hosts u n x b laws found up order)
    (λ m differ. on_join m u.happened (lost_in n b) ∙ ap (λ zs. happened_on m u.happened ++ zs) (lost_there m n b differ) ∙ append-nil (happened_on m u.happened)) y (h y k))

read_only_law : (hosts : Hosts) → HaveOwnAddresses hosts → Law hosts
read_only_law hosts distinct = record {
  Good = ReadOnlyIsGone;
  Fine = λ w g n p. GoesWithoutTrace w n p;
  opens = λ x (q, i, sender, own, says). absurd i;
  steps = λ u n x b e now landed reached found up heard h. (
    step_gone hosts u n x b e now landed found up (steps_move.ready hosts u reached n x b found up) h,
    all_outs (GoesWithoutTrace (counts u n x b e now landed) n) (step b e now landed).outs
        (λ p i id own says. voter_gone hosts u n x b e now landed (world_laws hosts u distinct reached) found up (steps_move.ready hosts u reached n x b found up) id
        (voters b e now (standing_entry landed (plan b e now).entry) (step b e now landed) id notices.ReadOnly p (inr refl) own says
        (steps_tell.told b e now landed (steps_move.ready hosts u reached n x b found up) p notices.ReadOnly i says))),
  );
  posts = λ w h n p f. posted_gone w n p h f;
  still_fine = λ w g n p q f k id own says. same_trace w n p (record { node = n; id = id }) (k id own says);
  falls = λ u n x b reached found up h. fall_gone hosts u n x b (world_laws hosts u distinct reached) found up (steps_move.ready hosts u reached n x b found up).order h;
  rises = λ u n x stop reached found down little h y k.
      put_trace u (record u { nodes = put_nth n (up_after (started (last_incarnation x.journal + 1) x) stop) u.nodes }) n x (up_after (started (last_incarnation x.journal + 1) x) stop) found refl
      (λ id g. gone_up u.happened n x stop down id g) (λ m differ. refl) y (h y k);
  waits = λ u n x clock reached found h y k.
      put_trace u (record u { nodes = put_nth n (record x { clock = clock }) u.nodes }) n x (record x { clock = clock }) found refl
      (λ id g. record { drawn = g.drawn; transaction = g.transaction; leaf = g.leaf; ended = g.ended }) (λ m differ. refl) y (h y k);
}

pub read_only_gone : (hosts : Hosts) (w : World) → HaveOwnAddresses hosts → Reached hosts w → ReadOnlyIsGone w
unfolding read_only_law
read_only_gone hosts w distinct reached = holds hosts (read_only_law hosts distinct) w reached
