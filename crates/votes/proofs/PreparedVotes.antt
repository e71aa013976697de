-- A durable participant's vote Prepared stands in its node's journal before it is posted.
use Rattle.std.specs.Prelude.{ℕ, List, [], ◌∷◌, ◌++◌, Option, Some, None, Bool, true, false, ◌||◌, ◌+◌, is_none, option_map, ◌≡◌, ◌⊎◌, refl}
use Rattle.std.specs.List.{AllByRecursion}
use Rattle.std.proofs.Common.{inl, inr, sym, subst, ap, ◌∙◌}
use Rattle.at_base.specs.Numbers.{Numbers}
use Rattle.at_base.specs.declared.epr.Epr.{Epr}
use Rattle.at_base.specs.declared.notice.Kind.{Kind}
use Rattle.at_base.specs.declared.notice.Kind.TheVariants as kinds
use Rattle.at_base.specs.declared.notice.Notice.TheVariants as notices
use Rattle.at_base.specs.declared.message.Message.TheVariants as messages
use Rattle.at_base.specs.declared.target.Target.TheVariants as targets
use Rattle.at_base.specs.declared.event.Event.{Event}
use Rattle.at_base.specs.declared.event.Moment.{Moment}
use Rattle.at_base.specs.declared.outs.Effect.{Effect}
use Rattle.at_base.specs.declared.outs.Out.{Out}
use Rattle.at_base.specs.declared.outs.Out.TheVariants as outs
use Rattle.at_base.specs.declared.outs.Post.{Post}
use Rattle.at_base.specs.declared.record.Record.{Record}
use Rattle.at_base.specs.declared.record.Record.TheVariants as records
use Rattle.at_base.specs.declared.record.Seated.{Seated}
use Rattle.at_tables.specs.declared.cells.State.{State}
use Rattle.at_tables.specs.declared.cells.State.TheVariants as states
use Rattle.at_model.specs.Book.{Book, Enlistment, Leaf, Phase, Transaction}
use Rattle.at_model.specs.Moves.{Change}
use Rattle.at_model.specs.Recovery.{last_incarnation, live}
use Rattle.at_model.specs.Seats.{prepared}
use Rattle.at_model.specs.Step.{leaf_at, moment_of, plan, step, transaction_at}
use Rattle.at_model.specs.World.{Node, Posted, World, goes_down, lost_in, nth, put_nth, receiver_of, started, up_after, with_post, Hosts, HaveOwnAddresses}
use Rattle.model_laws.specs.Agreement.{IsIn}
use Rattle.model_laws.specs.DrawnIds.{with_entry}
use Rattle.model_laws.specs.Growth.{Grows}
use Rattle.model_laws.specs.ReachedWorlds.{Reached, counts}
use Rattle.model_laws.proofs.WorldInvariants.{Law, OutFine, holds}
use Rattle.model_laws.proofs.Growth.{grows_counts, grows_falls, grows_posts, grows_rises, grows_waits}
use Rattle.model_laws.proofs.DrawnIds.{all_live}
use Rattle.model_laws.proofs.RecoveryLaws.{self_id}
use Rattle.model_laws.proofs.NodeLives.{put_this}
use Rattle.model_laws.proofs.SeatRegistrations.{in_back}
use Rattle.agreement.specs.Branches.{recorded as written}
use Rattle.agreement.specs.Deeds.{How, StoodFor, recorded, superior_at}
use Rattle.agreement.specs.StepDeeds.{standing}
use Rattle.agreement.specs.LeafDeeds.{LeafDeed, LeafIdles, aborts, commits, dropped, for_durable, idles, leaves, prepares, registered, registers_again, rests, rolls_back, votes_again}
use Rattle.agreement.specs.Lives.{Life, book_of, has_aborted, has_committed, has_decided, has_voted, happened_on, is_gone, is_undecided, standing as standing_book, waits, works}
use Rattle.agreement.proofs.SeatedEntries.{all_of, in_either, one_of}
use Rattle.agreement.proofs.TransactionLives.{TransactionLife, aborted, committed, decided, undecided, voted}
use Rattle.enlistments.specs.Moves.{LeafDid, TransactionDid}
use Rattle.enlistments.proofs.StepNotices.{steps_tell}
use Rattle.enlistments.proofs.StepMoves.{steps_move}
use Rattle.votes.specs.DurableVotes.{HasVoted, PreparedIsRecorded, is_vote}
use Rattle.votes.proofs.NamedParticipants.{as_written}
use Rattle.votes.proofs.ItemEnds.{in_phase, life_of, two_phases}
use Rattle.votes.proofs.Growth.{voted_on}
use Rattle.votes.proofs.Lives.{gone_down, world_laws}
use Rattle.votes.proofs.Premises.{WorldLaws}
use Rattle.votes.proofs.VoteSenders.{IsVoter, leaf_left, leaf_prepared, subordinate, voters}

-- what is live stands in the journal
live_vote : (rs : List Record) (id : Numbers) (r : Record) → IsIn r (live rs) → is_vote id r ≡ true → IsIn r rs
live_vote rs id r i e =
    one_of (λ x. is_vote id x ≡ true → IsIn x rs) (live rs) r
    (all_live (λ x. is_vote id x ≡ true → IsIn x rs) rs (λ j superior seats h f. absurd (never j f)) (all_of (λ x. is_vote id x ≡ true → IsIn x rs) rs (λ x k f. k))) i e
  where
    never : (j : Numbers) → is_vote id (records.SubCommitted j) ≡ true → ⊥
    never j f = cc

own_vote : (id : Numbers) (superior : Epr) (seats : List Seated) → is_vote id (records.Voted id superior seats) ≡ true
own_vote id superior seats = self_id id

own_leaf_vote : (id : Numbers) (coordinator : Epr) (key value : List ℕ) → is_vote id (records.LeafPrepared id coordinator key value) ≡ true
own_leaf_vote id coordinator key value = ap (λ c. c || false) (self_id id)

-- a node before and behind a step
record Here (hosts : Hosts) (u : World) (n : ℕ) (x : Node) (b : Book) (e : Event) (now : ℕ) (landed : Bool) : Type 0 where
  laws : WorldLaws hosts u
  found : nth n u.nodes ≡ Some x
  up : x.book ≡ Some b

stood_before : (hosts : Hosts) (u : World) (n : ℕ) (x : Node) (b : Book) (e : Event) (now : ℕ) (landed : Bool) → Here hosts u n x b e now landed → (id : Numbers) (r : Record) → IsIn r (live x.journal)
    → is_vote id r ≡ true → HasVoted (counts u n x b e now landed) (record { node = n; id = id })
stood_before hosts u n x b e now landed h id r i e' =
    voted_on u (counts u n x b e now landed) (grows_counts u n x b e now landed h.found) (record { node = n; id = id }) (r, (x, h.found, live_vote x.journal id r i e'), e')

stands_now : (hosts : Hosts) (u : World) (n : ℕ) (x : Node) (b : Book) (e : Event) (now : ℕ) (landed : Bool) → Here hosts u n x b e now landed → (id : Numbers) (r : Record)
    → standing landed (plan b e now).entry ≡ Some r → is_vote id r ≡ true → HasVoted (counts u n x b e now landed) (record { node = n; id = id })
stands_now hosts u n x b e now landed h id r is e' = (
  r,
  (
    behind_node,
    put_this u.nodes n x behind_node h.found,
    subst (IsIn r) (sym (as_written (plan b e now).entry landed x.journal))
        (in_back r x.journal (written (standing landed (plan b e now).entry)) (subst (λ o. IsIn r (written o)) (sym is) (inl refl))),
  ),
  e',
)
  where
    behind_node : Node
    behind_node = record x { book = Some (step b e now landed).book; journal = with_entry (plan b e now).entry landed x.journal }

-- a subordinate's
votes_recorded : (how : How) (t : Transaction) (at : List Enlistment) (entry : Option Record) → how ≡ How.Votes → entry ≡ recorded how t at → StoodFor how t
    → (to : Epr) × (entry ≡ Some (records.Voted t.id to (prepared at)))
votes_recorded how t at entry is written_so stood = by_superior (superior_at t.superior) refl
  where
    known : is_none (superior_at t.superior) ≡ false
    known = (subst (λ h. StoodFor h t) is stood).1

    by_superior : (o : Option Epr) → superior_at t.superior ≡ o → (to : Epr) × (entry ≡ Some (records.Voted t.id to (prepared at)))
    by_superior None f = let g : true ≡ false = sym (ap is_none f) ∙ known in absurd cc
    by_superior (Some to) f = (to, written_so ∙ ap (λ h. recorded h t at) is ∙ ap (option_map (λ superior. records.Voted t.id superior (prepared at))) f)

in_doubt : (rs : List Record) (fx : List Effect) (id : Numbers) (t : Transaction) → t.phase ≡ Phase.Voted → TransactionLife rs fx id t → (r : Record) × IsIn r (live rs) × (is_vote id r ≡ true)
in_doubt rs fx id t o (undecided p nothing k) = absurd (in_phase t Phase.Voted o refl p)
in_doubt rs fx id t o (voted superior seats p u h out k) = (records.Voted id superior seats, h, own_vote id superior seats)
in_doubt rs fx id t o (decided seats p u h k) = let e : Phase.Committing ≡ Phase.Voted = two_phases t.phase Phase.Committing Phase.Voted p o in absurd cc
in_doubt rs fx id t o (committed superior seats p u h i k) = let e : Phase.Committing ≡ Phase.Voted = two_phases t.phase Phase.Committing Phase.Voted p o in absurd cc
in_doubt rs fx id t o (aborted p dead k) = let e : Phase.Aborting ≡ Phase.Voted = two_phases t.phase Phase.Aborting Phase.Voted p o in absurd cc

subordinate_voted : (hosts : Hosts) (u : World) (n : ℕ) (x : Node) (b : Book) (e : Event) (now : ℕ) (landed : Bool) → Here hosts u n x b e now landed
    → (d : TransactionDid b e now (standing landed (plan b e now).entry) (step b e now landed)) → (d.deed.how ≡ How.Votes) ⊎ (d.old.phase ≡ Phase.Voted)
    → HasVoted (counts u n x b e now landed) (record { node = n; id = d.old.id })
subordinate_voted hosts u n x b e now landed h d (inl votes) =
    let (to, is) = votes_recorded d.deed.how d.old d.deed.at (standing landed (plan b e now).entry) votes d.deed.records d.deed.stood in
    stands_now hosts u n x b e now landed h d.old.id (records.Voted d.old.id to (prepared d.deed.at)) is (own_vote d.old.id to (prepared d.deed.at))
subordinate_voted hosts u n x b e now landed h d (inr phase) =
    let (r, i, k) = in_doubt x.journal (happened_on n u.happened) d.old.id d.old phase
    (life_of x.journal (happened_on n u.happened) d.old.id (transaction_at (book_of x) d.old.id) (leaf_at (book_of x) d.old.id) d.old (h.laws.lives n x h.found d.old.id)
    (ap (λ o. transaction_at (standing_book x.base x.journal o) d.old.id) h.up ∙ d.found)) in
    stood_before hosts u n x b e now landed h d.old.id r i k

-- a leaf's
other_state : (a b c : State) → a ≡ b → a ≡ c → b ≡ c
other_state a b c e f = sym e ∙ f

one_leaf : (o : Option Leaf) (l x : Leaf) → o ≡ Some l → o ≡ Some x → l ≡ x
one_leaf o l x e f = cc

no_leaf : (o : Option Leaf) (l : Leaf) → o ≡ Some l → o ≡ None → ⊥
no_leaf o l e f = cc

waiting : (rs : List Record) (fx : List Effect) (id : Numbers) (t : Option Transaction) (o : Option Leaf) (l : Leaf) → o ≡ Some l → l.kind ≡ kinds.Durable → l.state ≡ states.PreparedSuccess
    → Life rs fx id t o → (r : Record) × IsIn r (live rs) × (is_vote id r ≡ true)
waiting rs fx id t o l found d s (is_gone e f dead over once) = absurd (no_leaf o l found f)
waiting rs fx id t o l found d s (is_undecided x e f p nothing k) = absurd (no_leaf o l found f)
waiting rs fx id t o l found d s (has_voted x superior seats e f p r h out k) = absurd (no_leaf o l found f)
waiting rs fx id t o l found d s (has_decided x seats e f p r h k) = absurd (no_leaf o l found f)
waiting rs fx id t o l found d s (has_committed x superior seats e f p r h i k) = absurd (no_leaf o l found f)
waiting rs fx id t o l found d s (has_aborted x e f p dead k) = absurd (no_leaf o l found f)
waiting rs fx id t o l found d s (works x e f p nothing k) = absurd (unrecorded p)
  where
    same : l ≡ x
    same = one_leaf o l x found f

    unrecorded : (x.state ≡ states.Registering) ⊎ ((x.state ≡ states.Active) ⊎ (x.kind ≡ kinds.Volatile)) → ⊥
    unrecorded (inl g) =
        let c : states.Registering ≡ states.PreparedSuccess = other_state x.state states.Registering states.PreparedSuccess g (ap (λ (z : Leaf). z.state) (sym same) ∙ s) in cc
    unrecorded (inr (inl g)) = let c : states.Active ≡ states.PreparedSuccess = other_state x.state states.Active states.PreparedSuccess g (ap (λ (z : Leaf). z.state) (sym same) ∙ s) in cc
    unrecorded (inr (inr g)) = let c : kinds.Volatile ≡ kinds.Durable = sym g ∙ ap (λ (z : Leaf). z.kind) (sym same) ∙ d in cc
waiting rs fx id t o l found d s (waits x coordinator key value e f p q h k) = (records.LeafPrepared id coordinator key value, h, own_leaf_vote id coordinator key value)

-- it waited, or it votes now
abbrev Votes : Leaf → Option Record → Type 0
Votes l entry = (l.state ≡ states.PreparedSuccess) ⊎ ((to : Epr) × (entry ≡ Some (records.LeafPrepared l.id to l.key l.value)))

idle_votes : (m : Moment) (e : Event) (l left : Leaf) (ps : List Post) → LeafIdles m e l left ps → left.state ≡ states.PreparedSuccess → l.state ≡ states.PreparedSuccess
idle_votes m e l left ps (rests same says) s = ap (λ (z : Leaf). z.state) (sym same) ∙ s
idle_votes m e l left ps (registered coordinator r came answers state request same says) s =
    let c : states.Active ≡ states.PreparedSuccess = ap (λ (z : Leaf). z.state) (sym same) ∙ s in absurd cc
idle_votes m e l left ps (registers_again r due state request same says) s = ap (λ (z : Leaf). z.state) (sym same) ∙ s
idle_votes m e l left ps (votes_again to why state knows same says) s = state

some_leaf : (x y : Leaf) → Some x ≡ Some y → x ≡ y
some_leaf x y e = cc

gone_leaf : (left : Leaf) (item : Option Leaf) → item ≡ Some left → item ≡ None → ⊥
gone_leaf left item e f = cc

durable_record : (kind : Kind) (r : Record) → kind ≡ kinds.Durable → for_durable kind r ≡ Some r
durable_record kind r e = ap (λ k. for_durable k r) e

leaf_voted : (m : Moment) (e : Event) (l : Leaf) (entry : Option Record) (c : Change Leaf) (left : Leaf) → l.kind ≡ kinds.Durable → c.item ≡ Some left → left.state ≡ states.PreparedSuccess
    → LeafDeed m e l entry c → Votes l entry
leaf_voted m e l entry c left d item s (idles stays why none is effects) =
    inl (idle_votes m e l stays c.posts why (ap (λ (z : Leaf). z.state) (some_leaf stays left (sym is ∙ item)) ∙ s))
leaf_voted m e l entry c left d item s (aborts state why none is effects) = absurd (gone_leaf left c.item item is)
leaf_voted m e l entry c left d item s (prepares to came state vote knows is stays effects says) =
    inr (to, is ∙ durable_record l.kind (records.LeafPrepared l.id to l.key l.value) d)
leaf_voted m e l entry c left d item s (leaves to came state vote knows none is effects says) = absurd (gone_leaf left c.item item is)
leaf_voted m e l entry c left d item s (dropped came kind none is effects says) = absurd (gone_leaf left c.item item is)
leaf_voted m e l entry c left d item s (commits to came state knows none is effects says) = absurd (gone_leaf left c.item item is)
leaf_voted m e l entry c left d item s (rolls_back to came state knows none is effects says) = absurd (gone_leaf left c.item item is)

leaf_recorded : (hosts : Hosts) (u : World) (n : ℕ) (x : Node) (b : Book) (e : Event) (now : ℕ) (landed : Bool) → Here hosts u n x b e now landed
    → (d : LeafDid b e now (standing landed (plan b e now).entry) (step b e now landed)) → d.old.kind ≡ kinds.Durable → Votes d.old (standing landed (plan b e now).entry)
    → HasVoted (counts u n x b e now landed) (record { node = n; id = d.old.id })
leaf_recorded hosts u n x b e now landed h d durable (inl state) =
    let (r, i, k) = waiting x.journal (happened_on n u.happened) d.old.id (transaction_at (book_of x) d.old.id) (leaf_at (book_of x) d.old.id) d.old
    (ap (λ o. leaf_at (standing_book x.base x.journal o) d.old.id) h.up ∙ d.found) durable state (h.laws.lives n x h.found d.old.id) in
    stood_before hosts u n x b e now landed h d.old.id r i k
leaf_recorded hosts u n x b e now landed h d durable (inr (to, is)) =
    stands_now hosts u n x b e now landed h d.old.id (records.LeafPrepared d.old.id to d.old.key d.old.value) is (own_leaf_vote d.old.id to d.old.key d.old.value)

-- each vote of a step
voter_recorded : (hosts : Hosts) (u : World) (n : ℕ) (x : Node) (b : Book) (e : Event) (now : ℕ) (landed : Bool) → Here hosts u n x b e now landed → (id : Numbers)
    → IsVoter b e now (standing landed (plan b e now).entry) (step b e now landed) id notices.Prepared → HasVoted (counts u n x b e now landed) (record { node = n; id = id })
voter_recorded hosts u n x b e now landed h id (subordinate d own why) =
    subst (λ i. HasVoted (counts u n x b e now landed) (record { node = n; id = i })) own (subordinate_voted hosts u n x b e now landed h d why)
voter_recorded hosts u n x b e now landed h id (leaf_prepared d left own durable is item state) =
    subst (λ i. HasVoted (counts u n x b e now landed) (record { node = n; id = i })) own
    (leaf_recorded hosts u n x b e now landed h d durable (leaf_voted (moment_of b now) e d.old (standing landed (plan b e now).entry) d.change left durable item state d.deed))
voter_recorded hosts u n x b e now landed h id (leaf_left d own durable is state item effects) = absurd cc

abbrev IsRecorded : World → ℕ → Post → Type 0
IsRecorded w n p = (id : Numbers) → p.own ≡ Some (targets.Participant id kinds.Durable) → p.message ≡ messages.Notice notices.Prepared → HasVoted w (record { node = n; id = id })

pub all_outs : (F : Post → Type 0) (os : List Out) → ((p : Post) → IsIn (outs.Post p) os → F p) → AllByRecursion (OutFine F) os
all_outs F [] f = tt
all_outs F (outs.Post p ∷ os) f = (f p (inl refl), all_outs F os (λ q i. f q (inr i)))
all_outs F (outs.Answer status reply ∷ os) f = (tt, all_outs F os (λ q i. f q (inr i)))

posted_recorded : (w : World) (n : ℕ) (p : Post) → PreparedIsRecorded w → IsRecorded w n p → PreparedIsRecorded (with_post n p w)
posted_recorded w n p h f x (q, i, sender, own, says) = either (in_either q w.posted (record { sender = n; receiver = receiver_of w.nodes p.to; content = p } ∷ []) i)
  where
    g : Grows w (with_post n p w)
    g = grows_posts n (p ∷ []) w

    new : q ≡ record { sender = n; receiver = receiver_of w.nodes p.to; content = p } → HasVoted w x
    new e =
        subst (λ k. HasVoted w (record { node = k; id = x.id })) (sym (ap (λ (z : Posted). z.sender) e) ∙ sender)
        (f x.id (sym (ap (λ (z : Posted). z.content.own) e) ∙ own) (sym (ap (λ (z : Posted). z.content.message) e) ∙ says))

    either : IsIn q w.posted ⊎ IsIn q (record { sender = n; receiver = receiver_of w.nodes p.to; content = p } ∷ []) → HasVoted (with_post n p w) x
    either (inl k) = voted_on w (with_post n p w) g x (h x (q, k, sender, own, says))
    either (inr (inl e)) = voted_on w (with_post n p w) g x (new e)
    either (inr (inr k)) = absurd k

fallen_recorded : (u : World) (n : ℕ) (x : Node) (b : Book) → nth n u.nodes ≡ Some x → PreparedIsRecorded u → PreparedIsRecorded (goes_down n b u)
fallen_recorded u n x b found h =
    subst PreparedIsRecorded (sym (gone_down n b u x found))
    (λ y k. voted_on u (record u { nodes = put_nth n (record x { book = None }) u.nodes; happened = u.happened ++ lost_in n b }) (subst (Grows u) (gone_down n b u x found) (grows_falls u n x b found)) y
    (h y k))

-- the law
prepared_law : (hosts : Hosts) → HaveOwnAddresses hosts → Law hosts
prepared_law hosts distinct = record {
  Good = PreparedIsRecorded;
  Fine = λ w g n p. IsRecorded w n p;
  opens = λ x (q, i, sender, own, says). absurd i;
  steps = λ u n x b e now landed reached found up heard h. (
    (λ y k. voted_on u (counts u n x b e now landed) (grows_counts u n x b e now landed found) y (h y k)),
    all_outs (IsRecorded (counts u n x b e now landed) n) (step b e now landed).outs
        (λ p i id own says. voter_recorded hosts u n x b e now landed (record { laws = world_laws hosts u distinct reached; found = found; up = up }) id
        (voters b e now (standing landed (plan b e now).entry) (step b e now landed) id notices.Prepared p (inl refl) own says
        (steps_tell.told b e now landed (steps_move.ready hosts u reached n x b found up) p notices.Prepared i says))),
  );
  posts = λ w h n p f. posted_recorded w n p h f;
  still_fine = λ w g n p q f k id own says. voted_on w (with_post n p w) (grows_posts n (p ∷ []) w) (record { node = n; id = id }) (k id own says);
  falls = λ u n x b reached found up h. fallen_recorded u n x b found h;
  rises = λ u n x stop reached found down little h y k.
      voted_on u (record u { nodes = put_nth n (up_after (started (last_incarnation x.journal + 1) x) stop) u.nodes }) (grows_rises u n x stop found) y (h y k);
  waits = λ u n x clock reached found h y k. voted_on u (record u { nodes = put_nth n (record x { clock = clock }) u.nodes }) (grows_waits u n x clock found) y (h y k);
}

pub prepared_recorded : (hosts : Hosts) (w : World) → HaveOwnAddresses hosts → Reached hosts w → PreparedIsRecorded w
unfolding prepared_law
prepared_recorded hosts w distinct reached = holds hosts (prepared_law hosts distinct) w reached
