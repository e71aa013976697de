-- Once a root has committed nobody joins it.
use Rattle.std.specs.Prelude.{ℕ, Some, None, Bool, ◌≡◌, ◌⊎◌, refl}
use Rattle.std.proofs.Common.{inl, inr, sym, subst, ap, ◌∙◌}
use Rattle.at_base.specs.declared.event.Event.{Event}
use Rattle.at_base.specs.declared.notice.Kind.TheVariants as kinds
use Rattle.at_model.specs.Book.{Book}
use Rattle.at_model.specs.Step.{leaf_at, plan, step, transaction_at}
use Rattle.at_model.specs.World.{Node, Who, World, nth, Hosts}
use Rattle.model_laws.specs.Agreement.{HasCommitted, IsIn, IsOf, below, itself}
use Rattle.model_laws.specs.ReachedWorlds.{counts}
use Rattle.model_laws.specs.DrawnIds.{with_entry}
use Rattle.model_laws.proofs.NodeLives.{put_this}
use Rattle.agreement.specs.Lives.{Life, book_of, happened_on, standing}
use Rattle.votes.specs.NamedParticipants.{HasSeat}
use Rattle.votes.specs.DurableVotes.{LeftNoTrace}
use Rattle.votes.proofs.Aborts.{unpromised_vote}
use Rattle.votes.proofs.ItemEnds.{IsOpen, is_open, life_of, not_committed_open}
use Rattle.votes.proofs.SingleVotes.{same_node}
use Rattle.votes.proofs.Registrations.{JoinsOpen, seat_joins}
use Rattle.votes.proofs.Premises.{StepPremises, WorldPremises}
use Rattle.outcomes.specs.Bonds.{IsBound}
use Rattle.outcomes.proofs.Depth.{Sealed, down, up}

-- the same registrations
pub of_same : (u w : World) (x root : Who) → w.accepted ≡ u.accepted → IsOf w x root → IsOf u x root
of_same u w x root e (itself f) = itself f
of_same u w x root e (below t number i of) =
    below t number (subst (IsIn (record { transaction = t; seat = Some (record { number = number; kind = kinds.Durable }); participant = Some x })) e i) (of_same u w t root e of)

-- behind a commit nobody is accepted: an undecided transaction is under none that has committed
open_apart : (hosts : Hosts) (w : World) → WorldPremises hosts w → IsBound w → (n : ℕ) (x : Node) (b : Book) → nth n w.nodes ≡ Some x → x.book ≡ Some b
    → (before : Book) (t root : Who)
    → JoinsOpen n before b t → IsOf w t root → HasCommitted w root → ⊥
open_apart hosts w p h n x b found up before t root k m c = by_place (down w h t root m c)
  where
    found_there : nth t.node w.nodes ≡ Some x
    found_there = ap (λ i. nth i w.nodes) k.node ∙ found

    life : Life x.journal (happened_on t.node w.happened) t.id (transaction_at b t.id) (leaf_at b t.id)
    life = subst (λ c. Life x.journal (happened_on t.node w.happened) t.id (transaction_at c t.id) (leaf_at c t.id)) (ap (λ o. standing x.base x.journal o) up) (p.laws.lives t.node x found_there t.id)

    opened_still : IsOpen x.journal (happened_on t.node w.happened) t.id
    opened_still = is_open x.journal (happened_on t.node w.happened) t.id k.new (life_of x.journal (happened_on t.node w.happened) t.id (transaction_at b t.id) (leaf_at b t.id) k.new life k.stands) k.undecided

    still_there : LeftNoTrace w t → ⊥
    still_there g =
        let same : g.node ≡ x = same_node g.node x (nth t.node w.nodes) g.found found_there in
        let none : transaction_at b t.id ≡ None =
        subst (λ c. transaction_at c t.id ≡ None) (ap book_of same ∙ ap (λ o. standing x.base x.journal o) up) g.transaction in
        let f : None ≡ Some k.new = sym none ∙ k.stands in cc

    by_place : (t ≡ root) ⊎ Sealed w t → ⊥
    by_place (inl e) = not_committed_open w t.node x.journal t.id opened_still (subst (HasCommitted w) (sym e) c)
    by_place (inr (inl r)) = still_there (p.read_only t r)
    by_place (inr (inr (v, never))) = unpromised_vote w t.node x t.id found_there opened_still.nothing v

pub none_joins : (hosts : Hosts) (u : World) (n : ℕ) (x : Node) (b : Book) (e : Event) (now : ℕ) (landed : Bool) → StepPremises hosts u n x b e
    → WorldPremises hosts (counts u n x b e now landed)
    → IsBound (counts u n x b e now landed) → (y root : Who) → IsOf (counts u n x b e now landed) y root → HasCommitted (counts u n x b e now landed) root
    → IsOf u y root
none_joins hosts u n x b e now landed p w h y root (itself f) c = itself f
none_joins hosts u n x b e now landed p w h y root (below t number i of) c =
    by_seat (none_joins hosts u n x b e now landed p w h t root of c) (seat_joins hosts u n x b e now landed p t number kinds.Durable y i)
  where
    after : Node
    after = record x { book = Some (step b e now landed).book; journal = with_entry (plan b e now).entry landed x.journal }

    by_seat : IsOf u t root → HasSeat u t number kinds.Durable y ⊎ JoinsOpen n b (step b e now landed).book t → IsOf u y root
    by_seat before (inl k) = below t number k before
    by_seat before (inr k) =
        absurd (open_apart hosts (counts u n x b e now landed) w h n after (step b e now landed).book (put_this u.nodes n x after p.found) refl b t root k of c)
