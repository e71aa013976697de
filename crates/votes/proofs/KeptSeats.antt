-- Behind each step a transaction that has voted, or commits, has a seat for each durable participant that is to be told.
use Rattle.std.specs.Prelude.{ℕ, ◌++◌, Option, Some, Bool, true, false, length, drop, map, ◌≡◌, ◌⊎◌, refl}
use Rattle.std.specs.List.{AllByRecursion}
use Rattle.std.proofs.Common.{inl, inr, sym, subst, ap, ◌∙◌}
use Rattle.at_base.specs.Numbers.{Numbers}
use Rattle.at_base.specs.declared.notice.Kind.TheVariants as kinds
use Rattle.at_base.specs.declared.notice.Notice.TheVariants as notices
use Rattle.at_base.specs.declared.event.Event.{Event}
use Rattle.at_model.specs.Book.{Book, Phase, Transaction, transaction_id}
use Rattle.at_model.specs.Due.{may_expire}
use Rattle.at_model.specs.Step.{leaf_at, plan, step, transaction_at}
use Rattle.at_model.specs.World.{Node, Who, World, accepted_seat, nth, Hosts}
use Rattle.model_laws.specs.Agreement.{HasAborted, HasPosted, IsIn}
use Rattle.model_laws.specs.DrawnIds.{with_entry}
use Rattle.model_laws.specs.Growth.{Grows}
use Rattle.model_laws.specs.ReachedWorlds.{counts}
use Rattle.model_laws.proofs.EventLaws.{step_gives}
use Rattle.model_laws.proofs.DecisionLaws.{all_find, all_more, found_id, in_front}
use Rattle.model_laws.proofs.StepRegistrations.{AreGrown, Grown}
use Rattle.model_laws.proofs.Registrations.{IsKnown, IsUp, WorldGood, nodes_of, world_good}
use Rattle.model_laws.proofs.Growth.{grows_counts}
use Rattle.model_laws.proofs.Nodes.{each_put}
use Rattle.model_laws.proofs.Order.{ids_rise}
use Rattle.model_laws.proofs.NodeLives.{put_this}
use Rattle.agreement.specs.Lives.{book_of, happened_on, standing}
use Rattle.agreement.specs.Registers.{HasDrawn}
use Rattle.agreement.proofs.SeatedBooks.{Came, fresh, step_came, stood}
use Rattle.agreement.proofs.SeatedEntries.{all_of, are_entries, entries, grown_entries, one_of}
use Rattle.agreement.proofs.TransactionLives.{TransactionLife, aborted, committed, decided, undecided, voted}
use Rattle.votes.specs.NamedParticipants.{HasItsDurable, HasSeat, KeepsDurable, KeepsItsDurable, registration}
use Rattle.votes.specs.VotesAndOutcomes.{IsOutcome}
use Rattle.votes.proofs.ItemEnds.{aborts_here, keeps_promise, life_of}
use Rattle.votes.proofs.Growth.{AcceptsNoMore, aborted_on, durable_on, posted_on}
use Rattle.votes.proofs.Registrations.{JoinsOpen, behind, finds, seat_joins}
use Rattle.votes.proofs.StepItems.{stands_as}
use Rattle.votes.proofs.Premises.{StepKeeps, StepPremises}
use Rattle.votes.proofs.SeatsAt.{has_entry}

-- seats are added behind those that stand
pub all_grown : (hosts : Hosts) (u : World) (n : ℕ) (x : Node) (b : Book) (e : Event) (now : ℕ) (landed : Bool) → StepPremises hosts u n x b e → AreGrown b (step b e now landed).book.transactions
all_grown hosts u n x b e now landed p = (step_gives (hosts.base_of n) (good.choices n) b e now landed known.says).grown
  where
    good : WorldGood hosts u
    good = world_good hosts u p.world.laws.distinct p.world.laws.reached

    known : IsUp (hosts.base_of n) (good.choices n) x.journal b
    known = subst (IsKnown (hosts.base_of n) (good.choices n) x.journal) p.up (good.nodes n x p.found)

-- what a transaction kept before
pub kept_before : (hosts : Hosts) (u : World) (n : ℕ) (x : Node) (b : Book) (e : Event) → StepPremises hosts u n x b e → IsOutcome hosts u → AllByRecursion (KeepsItsDurable hosts u n) b.transactions
kept_before hosts u n x b e p j =
    subst (λ o. AllByRecursion (KeepsItsDurable hosts u n) (standing x.base x.journal o).transactions) p.up (j.keeps n x p.found)

-- what stood of it, in whatever phase, but where it has aborted
stood_with : (hosts : Hosts) (u : World) (n : ℕ) (x : Node) (b : Book) (e : Event) → StepPremises hosts u n x b e → IsOutcome hosts u → (t : Transaction) → transaction_at b t.id ≡ Some t
    → (HasAborted u (record { node = n; id = t.id }) → ⊥) → HasItsDurable hosts u n t
stood_with hosts u n x b e p j t found stays number y i = by_life (stands_as hosts u n x b e p t found)
  where
    kept : KeepsItsDurable hosts u n t
    kept = all_find (KeepsItsDurable hosts u n) transaction_id t.id b.transactions t (kept_before hosts u n x b e p j) found

    by_life : TransactionLife x.journal (happened_on n u.happened) t.id t
        → HasPosted u y kinds.Durable notices.ReadOnly
        ⊎ IsIn (registration (record { node = n; id = t.id }) number kinds.Durable y) (map (accepted_seat n (nodes_of hosts) t.id) t.seats)
    by_life (undecided o nothing k) = inr (has_entry hosts u n x b e p t found o number kinds.Durable y i)
    by_life (voted superior seats f r h out k) = kept (inl f) number y i
    by_life (decided seats f r h k) = kept (inr f) number y i
    by_life (committed superior seats f r h c k) = kept (inr f) number y i
    by_life (aborted f dead k) = absurd (stays (aborts_here u n x.journal t.id t refl (aborted f dead k) f))

not_open : (t : Transaction) → (t.phase ≡ Phase.Voted) ⊎ (t.phase ≡ Phase.Committing) → may_expire t.phase ≡ true → ⊥
not_open t (inl e) u = let f : false ≡ true = sym (ap may_expire e) ∙ u in cc
not_open t (inr e) u = let f : false ≡ true = sym (ap may_expire e) ∙ u in cc

same_found : {A : Type 0} (o : Option A) (x y : A) → o ≡ Some x → o ≡ Some y → x ≡ y
same_found o x y e f = cc

pub keeps_durable_step : StepKeeps KeepsDurable
keeps_durable_step hosts u n x b e now landed p j m y found =
    each_put (λ k z. AllByRecursion (KeepsItsDurable hosts w k) (book_of z).transactions) u.nodes n x behind_node p.found (all_of (KeepsItsDurable hosts w n) after.transactions keeps) others m y found
  where
    w : World
    w = counts u n x b e now landed

    after : Book
    after = (step b e now landed).book

    g : Grows u w
    g = grows_counts u n x b e now landed p.found

    behind_node : Node
    behind_node = record x { book = Some (step b e now landed).book; journal = with_entry (plan b e now).entry landed x.journal }

    others : (k : ℕ) (z : Node) → (k ≡ n → ⊥) → nth k u.nodes ≡ Some z → AllByRecursion (KeepsItsDurable hosts w k) (book_of z).transactions
    others k z differ r =
        all_more (KeepsItsDurable hosts u k) (KeepsItsDurable hosts w k) (book_of z).transactions (λ t h phase. durable_on hosts u w g k t (none_there t.id) (h phase)) (j.keeps k z r)
      where
        none_there : (id : Numbers) → AcceptsNoMore u w (record { node = k; id = id })
        none_there id number kind who i = either (seat_joins hosts u n x b e now landed p (record { node = k; id = id }) number kind who i)
          where
            either : HasSeat u (record { node = k; id = id }) number kind who ⊎ JoinsOpen n b (step b e now landed).book (record { node = k; id = id })
                → HasSeat u (record { node = k; id = id }) number kind who
            either (inl h) = h
            either (inr h) = absurd (differ h.node)

    -- it accepted nobody in this step
    before : (t : Transaction) → IsIn t after.transactions → (t.phase ≡ Phase.Voted) ⊎ (t.phase ≡ Phase.Committing) → (number : ℕ) (who : Who)
        → HasSeat w (record { node = n; id = t.id }) number kinds.Durable who → HasSeat u (record { node = n; id = t.id }) number kinds.Durable who
    before t i phase number who h = either (seat_joins hosts u n x b e now landed p (record { node = n; id = t.id }) number kinds.Durable who h)
      where
        closed : JoinsOpen n b after (record { node = n; id = t.id }) → ⊥
        closed k =
            not_open t phase
            (subst (λ (z : Transaction). may_expire z.phase ≡ true)
            (same_found (transaction_at after t.id) k.new t k.stands (finds after (ids_rise.stays b e now landed p.ready.order) t i)) k.undecided)

        either : HasSeat u (record { node = n; id = t.id }) number kinds.Durable who ⊎ JoinsOpen n b after (record { node = n; id = t.id })
            → HasSeat u (record { node = n; id = t.id }) number kinds.Durable who
        either (inl k) = k
        either (inr k) = absurd (closed k)

    -- it hasn't aborted
    stays : (t : Transaction) → IsIn t after.transactions → (t.phase ≡ Phase.Voted) ⊎ (t.phase ≡ Phase.Committing) → HasAborted u (record { node = n; id = t.id }) → ⊥
    stays t i phase a =
        keeps_promise w n behind_node.journal t.id t
        (life_of behind_node.journal (happened_on n w.happened) t.id (transaction_at after t.id) (leaf_at after t.id) t
        ((behind hosts u n x b e now landed p).lives n behind_node (put_this u.nodes n x behind_node p.found) t.id) (finds after (ids_rise.stays b e now landed p.ready.order) t i)) phase
        (aborted_on u w g (record { node = n; id = t.id }) a)

    keeps : (t : Transaction) → IsIn t after.transactions → KeepsItsDurable hosts w n t
    keeps t i phase number who h = by_came (one_of (Came b) after.transactions t (step_came b e now landed p.ready.phases p.ready.finished p.ready.order) i)
      where
        ours : HasSeat u (record { node = n; id = t.id }) number kinds.Durable who
        ours = before t i phase number who h

        there : (old : Transaction) → transaction_at b t.id ≡ Some old
            → HasPosted u who kinds.Durable notices.ReadOnly
            ⊎ IsIn (registration (record { node = n; id = t.id }) number kinds.Durable who) (map (accepted_seat n (nodes_of hosts) t.id) old.seats)
        there old f =
            let same : old.id ≡ t.id = found_id transaction_id t.id b.transactions old f in
            subst (λ id. HasPosted u who kinds.Durable notices.ReadOnly
            ⊎ IsIn (registration (record { node = n; id = id }) number kinds.Durable who) (map (accepted_seat n (nodes_of hosts) id) old.seats)) same
            (stood_with hosts u n x b e p j old (ap (transaction_at b) same ∙ f) (subst (λ id. HasAborted u (record { node = n; id = id }) → ⊥) (sym same) (stays t i phase)) number who
            (subst (λ id. HasSeat u (record { node = n; id = id }) number kinds.Durable who) (sym same) ours))

        grown : (old : Transaction) → transaction_at b t.id ≡ Some old → map (accepted_seat n (nodes_of hosts) t.id) t.seats
            ≡ entries hosts n t.id old.seats ++ entries hosts n t.id (drop (length old.seats) t.seats)
        grown old f =
            are_entries hosts n t.id t.seats
            ∙ grown_entries hosts n t.id old.seats t.seats
            (subst (λ o. Grown o t) f (one_of (λ (z : Transaction). Grown (transaction_at b z.id) z) after.transactions t (all_grown hosts u n x b e now landed p) i)).0

        further : (old : Transaction) → transaction_at b t.id ≡ Some old
            → HasPosted u who kinds.Durable notices.ReadOnly
            ⊎ IsIn (registration (record { node = n; id = t.id }) number kinds.Durable who) (map (accepted_seat n (nodes_of hosts) t.id) old.seats)
            → HasPosted w who kinds.Durable notices.ReadOnly
            ⊎ IsIn (registration (record { node = n; id = t.id }) number kinds.Durable who) (map (accepted_seat n (nodes_of hosts) t.id) t.seats)
        further old f (inl k) = inl (posted_on u w g who kinds.Durable notices.ReadOnly k)
        further old f (inr k) =
            inr (subst (IsIn (registration (record { node = n; id = t.id }) number kinds.Durable who)) (sym (grown old f))
            (in_front (registration (record { node = n; id = t.id }) number kinds.Durable who) (entries hosts n t.id old.seats) (entries hosts n t.id (drop (length old.seats) t.seats))
            (subst (IsIn (registration (record { node = n; id = t.id }) number kinds.Durable who)) (are_entries hosts n t.id old.seats) k)))

        by_came : Came b t → HasPosted w who kinds.Durable notices.ReadOnly
            ⊎ IsIn (registration (record { node = n; id = t.id }) number kinds.Durable who) (map (accepted_seat n (nodes_of hosts) t.id) t.seats)
        by_came (stood old f was grew) = further old f (there old f)
        by_came (fresh never) =
            absurd (never (subst (λ o. HasDrawn x.journal o t.id) p.up (p.world.laws.seated.drawn (registration (record { node = n; id = t.id }) number kinds.Durable who) x ours p.found)))
