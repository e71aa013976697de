-- Who votes under one that votes does so before it.
use Rattle.std.specs.Prelude.{ℕ, List, [], ◌∷◌, ◌++◌, Option, Some, None, Bool, true, false, nat_eq, ◌&&◌, ◌+◌, if◌then◌else◌, ◌≡◌, ◌⊎◌, ◌<◌, refl}
use Rattle.std.proofs.Common.{arith, inl, inr, sym, subst, ap, ◌∙◌}
use Rattle.std.proofs.lemmas.Bool.{eq-eqb, eqb-true}
use Rattle.at_base.specs.Numbers.{Numbers}
use Rattle.at_base.specs.declared.epr.Epr.{Epr}
use Rattle.at_base.specs.declared.event.Event.{Event}
use Rattle.at_base.specs.declared.event.Moment.{Moment}
use Rattle.at_base.specs.declared.notice.Kind.TheVariants as kinds
use Rattle.at_base.specs.declared.notice.Notice.TheVariants as notices
use Rattle.at_base.specs.declared.record.Record.{Record}
use Rattle.at_base.specs.declared.record.Record.TheVariants as records
use Rattle.at_base.specs.declared.record.Seated.{Seated}
use Rattle.at_model.specs.Book.{Book, Leaf, Transaction}
use Rattle.at_model.specs.Due.{may_expire}
use Rattle.at_model.specs.Moves.{Change}
use Rattle.at_model.specs.Recovery.{is_voted, last_incarnation}
use Rattle.at_model.specs.Step.{leaf_at, moment_of, plan, step, transaction_at}
use Rattle.at_model.specs.World.{HaveOwnAddresses, Hosts, Node, Who, World, lost_in, nth, opening, put_nth, started, up_after}
use Rattle.model_laws.specs.Agreement.{HasPosted, IsIn, Stands}
use Rattle.model_laws.specs.DrawnIds.{with_entry}
use Rattle.model_laws.specs.ReachedWorlds.{Reached, counts, stepped}
use Rattle.model_laws.proofs.DecisionLaws.{IfThere, first_true, second_true}
use Rattle.model_laws.proofs.NodeLives.{opening_node}
use Rattle.model_laws.proofs.RecoveryLaws.{self_id}
use Rattle.model_laws.proofs.WorldInvariants.{Law, holds}
use Rattle.agreement.specs.Deeds.{StoodFor}
use Rattle.agreement.specs.LeafDeeds.{LeafDeed, aborts, commits, dropped, idles, leaves, prepares, rolls_back}
use Rattle.agreement.specs.Lives.{book_of, happened_on}
use Rattle.agreement.specs.StepDeeds.{standing}
use Rattle.agreement.proofs.SeatedEntries.{in_either}
use Rattle.enlistments.specs.Moves.{Moved, TransactionDid}
use Rattle.enlistments.proofs.Arrivals.{out_unit}
use Rattle.enlistments.proofs.StepItems.{entry_of}
use Rattle.votes.specs.DurableVotes.{HasVoted, LeftNoTrace}
use Rattle.votes.specs.NamedParticipants.{HasSeat}
use Rattle.votes.proofs.Aborts.{VotesBy, unpromised_vote, votes_by}
use Rattle.votes.proofs.ItemEnds.{IsOpen, is_open, life_of}
use Rattle.votes.proofs.Lives.{gone_down}
use Rattle.votes.proofs.NewVotes.{in_entry, stood}
use Rattle.votes.proofs.Premises.{StepPremises}
use Rattle.votes.proofs.Registrations.{JoinsOpen, seat_joins}
use Rattle.votes.proofs.SingleVotes.{same_node}
use Rattle.votes.proofs.StepItems.{here, life_at}
use Rattle.outcomes.specs.Bonds.{IsBound, IsUnder}
use Rattle.outcomes.proofs.Agreement.{bound, layers}
use Rattle.outcomes.proofs.Layers.{step_premises}
use Rattle.recorded_runs.specs.JournalRecords.{AreRanked, VotesUp}
use Rattle.recorded_runs.proofs.RecordedEnds.{as_vote, durable_entry, if_each, no_entry}

-- a subordinate that votes is undecided
record IsVoter (b : Book) (id : Numbers) : Type 0 where
  old : Transaction
  found : transaction_at b id ≡ Some old
  undecided : may_expire old.phase ≡ true

abbrev Voter : Book → Numbers → Record → Type 0
Voter b id r = is_voted id r ≡ true → IsVoter b id

transaction_votes : (b : Book) (e : Event) (now : ℕ) (landed : Bool) (id : Numbers) → (d : TransactionDid b e now (standing landed (plan b e now).entry) (step b e now landed))
    → IfThere (Voter b id) (standing landed (plan b e now).entry)
transaction_votes b e now landed id d =
    if_each (Voter b id) (standing landed (plan b e now).entry) (λ r entered vote. voter (votes_by d.deed.how d.old d.deed.at r id (sym d.deed.records ∙ entered) (as_vote id r vote)))
  where
    voter : VotesBy d.deed.how d.old id → IsVoter b id
    voter v = record {
      old = d.old;
      found = subst (λ i. transaction_at b i ≡ Some d.old) v.own d.found;
      undecided = (subst (λ h. StoodFor h d.old) v.by d.deed.stood).0;
    }

leaf_votes : (b : Book) (m : Moment) (e : Event) (id : Numbers) (l : Leaf) (entry : Option Record) (c : Change Leaf) → LeafDeed m e l entry c → IfThere (Voter b id) entry
leaf_votes b m e id l entry c (idles left why none item happened) = no_entry (Voter b id) entry none
leaf_votes b m e id l entry c (aborts state why none item happened) = no_entry (Voter b id) entry none
leaf_votes b m e id l entry c (prepares to came state vote knows is item happened sent) =
    durable_entry (Voter b id) l.kind (records.LeafPrepared l.id to l.key l.value) entry is (λ durable f. absurd cc)
leaf_votes b m e id l entry c (leaves to came state vote knows none item happened sent) = no_entry (Voter b id) entry none
leaf_votes b m e id l entry c (dropped came kind none item happened sent) = no_entry (Voter b id) entry none
leaf_votes b m e id l entry c (commits to came state knows is item happened sent) = durable_entry (Voter b id) l.kind (records.LeafCommitted l.id) entry is (λ durable f. absurd cc)
leaf_votes b m e id l entry c (rolls_back to came state knows is item happened sent) = durable_entry (Voter b id) l.kind (records.LeafAborted l.id) entry is (λ durable f. absurd cc)

-- whether the step records this subordinate's vote
abbrev votes_now : ℕ → Option Record → Who → Bool
votes_now n None y = false
votes_now n (Some r) y = nat_eq y.node n && is_voted y.id r

record VotesHere (n : ℕ) (b : Book) (y : Who) : Type 0 where
  node : y.node ≡ n
  voter : IsVoter b y.id

votes_here : (n : ℕ) (b : Book) (y : Who) (entry : Option Record) → IfThere (Voter b y.id) entry → votes_now n entry y ≡ true → VotesHere n b y
votes_here n b y None h e = absurd cc
votes_here n b y (Some r) h e = record { node = eqb-true y.node n (first_true (nat_eq y.node n) (is_voted y.id r) e); voter = h (second_true (nat_eq y.node n) (is_voted y.id r) e) }

now_votes : (n : ℕ) (entry : Option Record) (y : Who) (superior : Epr) (seats : List Seated) → y.node ≡ n → entry ≡ Some (records.Voted y.id superior seats) → votes_now n entry y ≡ true
now_votes n entry y superior seats here e = ap (λ o. votes_now n o y) e ∙ (λ i. eq-eqb y.node n here i && self_id y.id i)

-- what an undecided transaction hasn't done
at_here : (n : ℕ) (y : Who) → y.node ≡ n → ◌≡◌ {A = Who} y (record { node = n; id = y.id })
at_here n y e = λ i. record { node = e i; id = y.id }

opened : (hosts : Hosts) (u : World) (n : ℕ) (x : Node) (b : Book) (e : Event) → StepPremises hosts u n x b e → (id : Numbers) (old : Transaction) → transaction_at b id ≡ Some old → may_expire old.phase ≡ true
    → IsOpen x.journal (happened_on n u.happened) id
opened hosts u n x b e p id old found undecided =
    is_open x.journal (happened_on n u.happened) id old (life_of x.journal (happened_on n u.happened) id (transaction_at b id) (leaf_at b id) old (life_at hosts u n x b e p id) found) undecided

unvoted : (hosts : Hosts) (u : World) (n : ℕ) (x : Node) (b : Book) (e : Event) → StepPremises hosts u n x b e → (y : Who) (old : Transaction) → y.node ≡ n → transaction_at b y.id ≡ Some old
    → may_expire old.phase ≡ true → HasVoted u y → ⊥
unvoted hosts u n x b e p y old at found undecided h =
    unpromised_vote u n x y.id p.found (opened hosts u n x b e p y.id old found undecided).nothing (subst (HasVoted u) (at_here n y at) h)

unleft : (hosts : Hosts) (u : World) (n : ℕ) (x : Node) (b : Book) (e : Event) → StepPremises hosts u n x b e → (y : Who) (old : Transaction) → y.node ≡ n → transaction_at b y.id ≡ Some old
    → LeftNoTrace u y → ⊥
unleft hosts u n x b e p y old at found h =
    let same : h.node ≡ x = same_node h.node x (nth y.node u.nodes) h.found (ap (λ k. nth k u.nodes) at ∙ p.found) in
    let none : transaction_at b y.id ≡ None = subst (λ c. transaction_at c y.id ≡ None) (ap book_of same ∙ here x b p.up) h.transaction in
    let f : None ≡ Some old = sym none ∙ found in cc

has_voted : (u : World) (y : Who) → VotesUp u y → HasVoted u y
has_voted u y (superior, seats, s) = (records.Voted y.id superior seats, s, self_id y.id)

-- the ranks behind a step
abbrev ranked : ℕ → Option Record → (Who → ℕ) → ℕ → Who → ℕ
ranked n entry rank bound y = if votes_now n entry y then bound else rank y

both : (c : Bool) → c ≡ true → c ≡ false → ⊥
both c e f = let g : true ≡ false = sym e ∙ f in cc

lower : (m n a b : ℕ) → m ≡ a → n ≡ b → a < b → m < n
lower m n a b e f h = omega (arith, e, f, h)

step_ranks : (hosts : Hosts) (u : World) (n : ℕ) (x : Node) (b : Book) (e : Event) (now : ℕ) (landed : Bool) → StepPremises hosts u n x b e → IsBound (counts u n x b e now landed) → AreRanked u
    → AreRanked (counts u n x b e now landed)
step_ranks hosts u n x b e now landed p h g = record { rank = rank; bound = g.bound + 1; within = within; rises = rises }
  where
    rank : Who → ℕ
    rank = ranked n (standing landed (plan b e now).entry) g.rank g.bound

    moved : Moved b e now (standing landed (plan b e now).entry) (step b e now landed)
    moved = p.world.moves.moved b e now landed p.ready

    new : (y : Who) → votes_now n (standing landed (plan b e now).entry) y ≡ true → VotesHere n b y
    new y f =
        votes_here n b y (standing landed (plan b e now).entry)
        (entry_of (Voter b y.id) b e now (standing landed (plan b e now).entry) (step b e now landed) moved (transaction_votes b e now landed y.id)
        (λ d. leaf_votes b (moment_of b now) e y.id d.old (standing landed (plan b e now).entry) d.change d.deed)) f

    was : (y : Who) → VotesUp (counts u n x b e now landed) y → VotesUp u y ⊎ (votes_now n (standing landed (plan b e now).entry) y ≡ true)
    was y (superior, seats, (z, there, i)) =
        by_place (stood u (counts u n x b e now landed).nodes n x (record x { book = Some (step b e now landed).book; journal = with_entry (plan b e now).entry landed x.journal })
        (λ q. standing landed (plan b e now).entry ≡ Some q) p.found refl (λ q k. in_entry (plan b e now).entry landed x.journal q k) y.node z there (records.Voted y.id superior seats) i)
      where
        by_place : Stands u y.node (records.Voted y.id superior seats) ⊎ ((y.node ≡ n) × (standing landed (plan b e now).entry ≡ Some (records.Voted y.id superior seats)))
            → VotesUp u y ⊎ (votes_now n (standing landed (plan b e now).entry) y ≡ true)
        by_place (inl s) = inl (superior, seats, s)
        by_place (inr (at, is)) = inr (now_votes n (standing landed (plan b e now).entry) y superior seats at is)

    old : (y : Who) → VotesUp (counts u n x b e now landed) y → votes_now n (standing landed (plan b e now).entry) y ≡ false → VotesUp u y
    old y v f = either (was y v)
      where
        either : VotesUp u y ⊎ (votes_now n (standing landed (plan b e now).entry) y ≡ true) → VotesUp u y
        either (inl k) = k
        either (inr k) = absurd (both (votes_now n (standing landed (plan b e now).entry) y) k f)

    is_new : (y : Who) → votes_now n (standing landed (plan b e now).entry) y ≡ true → ranked n (standing landed (plan b e now).entry) g.rank g.bound y ≡ g.bound
    is_new y f = ap (λ c. if c then g.bound else g.rank y) f

    is_old : (y : Who) → votes_now n (standing landed (plan b e now).entry) y ≡ false → ranked n (standing landed (plan b e now).entry) g.rank g.bound y ≡ g.rank y
    is_old y f = ap (λ c. if c then g.bound else g.rank y) f

    within : (y : Who) → VotesUp (counts u n x b e now landed) y → ranked n (standing landed (plan b e now).entry) g.rank g.bound y < g.bound + 1
    within y v = by_test (votes_now n (standing landed (plan b e now).entry) y) refl
      where
        by_test : (c : Bool) → votes_now n (standing landed (plan b e now).entry) y ≡ c → ranked n (standing landed (plan b e now).entry) g.rank g.bound y < g.bound + 1
        by_test true f = lower _ _ g.bound (g.bound + 1) (is_new y f) refl (omega arith)
        by_test false f = let l : g.rank y < g.bound = g.within y (old y v f) in lower _ _ (g.rank y) (g.bound + 1) (is_old y f) refl (omega (arith, l))

    -- who is under one that has voted votes no more
    before : (t y : Who) → VotesUp (counts u n x b e now landed) t → IsUnder (counts u n x b e now landed) t y → votes_now n (standing landed (plan b e now).entry) y ≡ true → ⊥
    before t y (superior, seats, s) (number, i) f = by_vote (h.voted t superior seats s number kinds.Durable y i)
      where
        v : VotesHere n b y
        v = new y f

        by_vote : HasPosted u y kinds.Durable notices.Prepared ⊎ HasPosted u y kinds.Durable notices.ReadOnly → ⊥
        by_vote (inl k) = unvoted hosts u n x b e p y v.voter.old v.node v.voter.found v.voter.undecided (p.world.prepared y k)
        by_vote (inr k) = unleft hosts u n x b e p y v.voter.old v.node v.voter.found (p.world.read_only y k)

    -- nobody comes to be under one that had voted
    under : (t y : Who) → VotesUp u t → IsUnder (counts u n x b e now landed) t y → IsUnder u t y
    under t y v (number, i) = either (seat_joins hosts u n x b e now landed p t number kinds.Durable y i)
      where
        either : HasSeat u t number kinds.Durable y ⊎ JoinsOpen n b (step b e now landed).book t → IsUnder u t y
        either (inl k) = (number, k)
        either (inr j) = absurd (unvoted hosts u n x b e p t j.old j.node j.stood j.was (has_voted u t v))

    rises : (t y : Who) → VotesUp (counts u n x b e now landed) t → VotesUp (counts u n x b e now landed) y → IsUnder (counts u n x b e now landed) t y
        → ranked n (standing landed (plan b e now).entry) g.rank g.bound y < ranked n (standing landed (plan b e now).entry) g.rank g.bound t
    rises t y tv yv i = by_lower (votes_now n (standing landed (plan b e now).entry) y) refl
      where
        by_upper : votes_now n (standing landed (plan b e now).entry) y ≡ false → (c : Bool) → votes_now n (standing landed (plan b e now).entry) t ≡ c
            → ranked n (standing landed (plan b e now).entry) g.rank g.bound y < ranked n (standing landed (plan b e now).entry) g.rank g.bound t
        by_upper f true k = lower _ _ (g.rank y) g.bound (is_old y f) (is_new t k) (g.within y (old y yv f))
        by_upper f false k = lower _ _ (g.rank y) (g.rank t) (is_old y f) (is_old t k) (g.rises t y (old t tv k) (old y yv f) (under t y (old t tv k) i))

        by_lower : (c : Bool) → votes_now n (standing landed (plan b e now).entry) y ≡ c
            → ranked n (standing landed (plan b e now).entry) g.rank g.bound y < ranked n (standing landed (plan b e now).entry) g.rank g.bound t
        by_lower true f = absurd (before t y tv i f)
        by_lower false f = by_upper f (votes_now n (standing landed (plan b e now).entry) t) refl

-- where no vote is recorded and nobody is accepted
ranks_on : (u w : World) → ((y : Who) → VotesUp w y → VotesUp u y) → w.accepted ≡ u.accepted → AreRanked u → AreRanked w
ranks_on u w was same g = record {
  rank = g.rank;
  bound = g.bound;
  within = λ y v. g.within y (was y v);
  rises = λ t y tv yv i. g.rises t y (was t tv) (was y yv) (under t y i);
}
  where
    under : (t y : Who) → IsUnder w t y → IsUnder u t y
    under t y (number, i) = (number, subst (IsIn _) same i)

put_votes : (u w : World) (n : ℕ) (x z : Node) → nth n u.nodes ≡ Some x → w.nodes ≡ put_nth n z u.nodes → ((r : Record) → IsIn r z.journal → IsIn r x.journal ⊎ ((k : ℕ) × (r ≡ records.Start k)))
    → (y : Who) → VotesUp w y → VotesUp u y
put_votes u w n x z found nodes new y (superior, seats, (v, there, i)) = by_place (stood u w.nodes n x z (λ r. (k : ℕ) × (r ≡ records.Start k)) found nodes new y.node v there (records.Voted y.id superior seats) i)
  where
    by_place : Stands u y.node (records.Voted y.id superior seats) ⊎ ((y.node ≡ n) × ((k : ℕ) × (records.Voted y.id superior seats ≡ records.Start k))) → VotesUp u y
    by_place (inl s) = (superior, seats, s)
    by_place (inr (at, (k, e))) = absurd cc

start_last : (rs : List Record) (k : ℕ) (r : Record) → IsIn r (rs ++ records.Start k ∷ []) → IsIn r rs ⊎ ((k : ℕ) × (r ≡ records.Start k))
start_last rs k r i = by_place (in_either r rs (records.Start k ∷ []) i)
  where
    by_place : IsIn r rs ⊎ IsIn r (records.Start k ∷ []) → IsIn r rs ⊎ ((j : ℕ) × (r ≡ records.Start j))
    by_place (inl j) = inl j
    by_place (inr (inl e)) = inr (k, e)
    by_place (inr (inr j)) = absurd j

opening_ranks : (hosts : Hosts) → AreRanked (opening hosts)
opening_ranks hosts = record { rank = λ y. 0; bound = 0; within = λ y v. absurd (none y v); rises = λ t y tv yv i. absurd i.1 }
  where
    none : (y : Who) → VotesUp (opening hosts) y → ⊥
    none y (superior, seats, (z, found, i)) = subst (λ (v : Node). IsIn (records.Voted y.id superior seats) v.journal) (opening_node hosts y.node z found) i

ranking : (hosts : Hosts) → HaveOwnAddresses hosts → Law hosts
ranking hosts distinct = record {
  Good = AreRanked;
  Fine = λ w g n p. Unit {0};
  opens = opening_ranks hosts;
  steps = λ u n x b e now landed reached found up heard g. (
    step_ranks hosts u n x b e now landed (step_premises layers hosts u n x b e distinct reached found up heard)
        (bound hosts (counts u n x b e now landed) distinct (stepped u n x b e now landed [] reached found up heard tt refl)) g,
    out_unit (step b e now landed).outs,
  );
  posts = λ w g n p f. record { rank = g.rank; bound = g.bound; within = g.within; rises = g.rises };
  still_fine = λ w g n p q f h. tt;
  falls = λ u n x b reached found up g.
      subst AreRanked (sym (gone_down n b u x found))
      (ranks_on u (record u { nodes = put_nth n (record x { book = None }) u.nodes; happened = u.happened ++ lost_in n b })
      (put_votes u (record u { nodes = put_nth n (record x { book = None }) u.nodes; happened = u.happened ++ lost_in n b }) n x (record x { book = None }) found refl (λ r i. inl i)) refl g);
  rises = λ u n x stop reached found down little g.
      ranks_on u (record u { nodes = put_nth n (up_after (started (last_incarnation x.journal + 1) x) stop) u.nodes })
      (put_votes u (record u { nodes = put_nth n (up_after (started (last_incarnation x.journal + 1) x) stop) u.nodes }) n x (up_after (started (last_incarnation x.journal + 1) x) stop) found refl
      (λ r i. start_last x.journal (last_incarnation x.journal + 1) r i)) refl g;
  waits = λ u n x clock reached found g.
      ranks_on u (record u { nodes = put_nth n (record x { clock = clock }) u.nodes })
      (put_votes u (record u { nodes = put_nth n (record x { clock = clock }) u.nodes }) n x (record x { clock = clock }) found refl (λ r i. inl i)) refl g;
}

pub votes_ranked : (hosts : Hosts) (w : World) → HaveOwnAddresses hosts → Reached hosts w → AreRanked w
unfolding ranking
votes_ranked hosts w distinct reached = holds hosts (ranking hosts distinct) w reached
