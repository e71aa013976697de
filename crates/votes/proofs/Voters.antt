-- Who has voted Prepared, and is under a transaction that committed, hasn't aborted.
use Rattle.std.specs.Prelude.{ℕ, List, [], ◌∷◌, Option, Some, None, Bool, true, false, if◌then◌else◌, ◌≡◌, ◌⊎◌, refl}
use Rattle.std.proofs.Common.{inl, inr, sym, subst, ap, ◌∙◌}
use Rattle.at_base.specs.Numbers.{Numbers}
use Rattle.at_base.specs.declared.notice.Kind.{Kind}
use Rattle.at_base.specs.declared.notice.Kind.TheVariants as kinds
use Rattle.at_base.specs.declared.outs.Effect.{Effect}
use Rattle.at_base.specs.declared.outs.Effect.TheVariants as effects
use Rattle.at_base.specs.declared.outs.Ending.{Ending}
use Rattle.at_base.specs.declared.outs.Ending.TheVariants as endings
use Rattle.at_base.specs.declared.record.Record.{Record}
use Rattle.at_base.specs.declared.record.Record.TheVariants as records
use Rattle.at_base.specs.Names.{is_kind}
use Rattle.at_model.specs.Book.{Book, Leaf, Transaction, leaf_id, transaction_id}
use Rattle.at_model.specs.Step.{leaf_at, transaction_at}
use Rattle.at_model.specs.World.{Happened, Node, Who, World, happened_at, nth, Hosts}
use Rattle.model_laws.specs.Agreement.{HasAborted, HasCommitted, HasEnded, IsIn, ends_as}
use Rattle.model_laws.specs.Shapes.{NoParticipant}
use Rattle.model_laws.proofs.DecisionLaws.{all_find, found_id}
use Rattle.model_laws.proofs.RecoveryLaws.{same_id}
use Rattle.agreement.specs.Lives.{Life, ends, happened_on}
use Rattle.agreement.specs.Sorts.{FitsBook, FitsEffect, FitsIfUp, FitsRecord, LeafOf, Root, Sort, Subordinate, sort_under}
use Rattle.agreement.proofs.SeatedEntries.{one_of}
use Rattle.agreement.proofs.OtherIds.{promise_id}
use Rattle.votes.specs.ToldOutcomes.{IsUnderAborted, IsUnderCommitted}
use Rattle.votes.specs.VotesAndOutcomes.{IsOutcome}
use Rattle.votes.specs.DurableVotes.{HasVoted, is_vote}
use Rattle.votes.proofs.ItemEnds.{from_there}
use Rattle.votes.proofs.SingleVotes.{gone_ended, is_promised, same_node}
use Rattle.votes.proofs.Premises.{WorldPremises}
use Rattle.votes.proofs.EffectNodes.{one_end}

-- under one transaction, which can't have done both
pub told_apart : (hosts : Hosts) (u : World) → WorldPremises hosts u → IsOutcome hosts u → (x : Who) → IsUnderCommitted u x kinds.Durable → HasVoted u x → HasAborted u x → ⊥
told_apart hosts u w j x c voted a =
    let h : IsUnderAborted u x = j.aborts x voted a in
    one_end hosts u w.laws c.transaction c.committed (subst (HasAborted u) (w.laws.one x h.transaction c.transaction _ _ h.seat c.seat) h.aborted)

-- sorts
abbrev Votes : Sort → Type 0
Votes S = (S ≡ Subordinate) ⊎ (S ≡ LeafOf kinds.Durable)

vote_sort : (s : Numbers → Sort) (id : Numbers) (r : Record) → FitsRecord s r → is_vote id r ≡ true → Votes (s id)
vote_sort s id (records.LeafPrepared i coordinator key value) fits e =
    inr (subst (λ k. s k ≡ LeafOf kinds.Durable) (promise_id id (records.LeafPrepared i coordinator key value) (is_promised id (records.LeafPrepared i coordinator key value) e)) fits)
vote_sort s id (records.Voted i superior seats) fits e =
    inl (subst (λ k. s k ≡ Subordinate) (promise_id id (records.Voted i superior seats) (is_promised id (records.Voted i superior seats) e)) fits)
vote_sort s id other fits e = absurd cc

pub voter_sort : (hosts : Hosts) (u : World) → (w : WorldPremises hosts u) → (x : Who) → HasVoted u x → Votes (w.laws.sorted.sort x.node x.id)
voter_sort hosts u w x (r, (y, found, i), e) =
    vote_sort (w.laws.sorted.sort x.node) x.id r (one_of (FitsRecord (w.laws.sorted.sort x.node)) y.journal r (w.laws.sorted.nodes x.node y found).journal i) e

not_root : (S : Sort) → Votes S → S ≡ Root → ⊥
not_root S (inl e) f = let g : Subordinate ≡ Root = sym e ∙ f in cc
not_root S (inr e) f = let g : LeafOf kinds.Durable ≡ Root = sym e ∙ f in cc

durable_only : (S : Sort) (kind : Kind) → Votes S → S ≡ LeafOf kind → kind ≡ kinds.Durable
durable_only S kind (inl e) f = let g : Subordinate ≡ LeafOf kind = sym e ∙ f in absurd cc
durable_only S kind (inr e) f = let g : LeafOf kinds.Durable ≡ LeafOf kind = sym e ∙ f in cc

-- where no such participant is known, a voter isn't in the book
pub unknown_voter : (hosts : Hosts) (u : World) (n : ℕ) (x : Node) (b : Book) → WorldPremises hosts u → nth n u.nodes ≡ Some x → x.book ≡ Some b → (id : Numbers) → HasVoted u (record { node = n; id = id })
    → NoParticipant kinds.Durable (transaction_at b id) (leaf_at b id) → (transaction_at b id ≡ None) × (leaf_at b id ≡ None)
unknown_voter hosts u n x b w found up id voted unknown = by_found (transaction_at b id) refl (leaf_at b id) refl unknown
  where
    fits : FitsBook (w.laws.sorted.sort n) b
    fits = subst (FitsIfUp (w.laws.sorted.sort n)) up (w.laws.sorted.nodes n x found).book

    no_transaction : (t : Transaction) → transaction_at b id ≡ Some t → t.superior ≡ None → ⊥
    no_transaction t e root =
        not_root (w.laws.sorted.sort n id) (voter_sort hosts u w (record { node = n; id = id }) voted)
        (subst (λ i. w.laws.sorted.sort n i ≡ Root) (found_id transaction_id id b.transactions t e)
        (all_find (λ y. w.laws.sorted.sort n y.id ≡ sort_under y.superior) transaction_id id b.transactions t fits.transactions e ∙ ap sort_under root))

    no_leaf : (l : Leaf) → leaf_at b id ≡ Some l → is_kind l.kind kinds.Durable ≡ false → ⊥
    no_leaf l e other =
        let durable : l.kind ≡ kinds.Durable =
        durable_only (w.laws.sorted.sort n id) l.kind (voter_sort hosts u w (record { node = n; id = id }) voted)
        (subst (λ i. w.laws.sorted.sort n i ≡ LeafOf l.kind) (found_id leaf_id id b.leaves l e) (all_find (λ y. w.laws.sorted.sort n y.id ≡ LeafOf y.kind) leaf_id id b.leaves l fits.leaves e)) in
        let f : false ≡ true = sym other ∙ ap (λ k. is_kind k kinds.Durable) durable in cc

    by_found : (t : Option Transaction) → transaction_at b id ≡ t → (l : Option Leaf) → leaf_at b id ≡ l → NoParticipant kinds.Durable t l → (transaction_at b id ≡ None) × (leaf_at b id ≡ None)
    by_found (Some t) e l f h = absurd (no_transaction t e h)
    by_found None e (Some l) f h = absurd (no_leaf l f h)
    by_found None e None f h = (e, f)

-- what is gone has ended so
record HasOne (fx : List Effect) (id : Numbers) : Type 0 where
  effect : Effect
  among : IsIn effect fx
  its : ends_as id effect ≡ true

some_end : (id : Numbers) (fx : List Effect) → (ends id fx ≡ [] → ⊥) → HasOne fx id
some_end id [] h = absurd (h refl)
some_end id (e ∷ fx) h = by_test (ends_as id e) refl (some_end id fx) h
  where
    by_test : (c : Bool) → ends_as id e ≡ c → ((ends id fx ≡ [] → ⊥) → HasOne fx id) → ((if c then e ∷ ends id fx else ends id fx) ≡ [] → ⊥) → HasOne (e ∷ fx) id
    by_test true f rest k = record { effect = e; among = inl refl; its = f }
    by_test false f rest k = let r : HasOne fx id = rest k in record { effect = r.effect; among = inr r.among; its = r.its }

abbrev HasEnding : World → Who → Type 0
HasEnding w x = HasCommitted w x ⊎ HasAborted w x

by_what : (w : World) (x : Who) (what : Ending) → HasEnded w x what → HasEnding w x
by_what w x endings.Committed h = inl h
by_what w x endings.Aborted h = inr (inl h)
by_what w x endings.Lost h = inr (inr h)

sub_ended : (w : World) (n : ℕ) (id i : Numbers) (what : Ending) → i ≡ id → IsIn (happened_at n (effects.Sub i what)) w.happened → HasEnding w (record { node = n; id = id })
sub_ended w n id i what e k = by_what w (record { node = n; id = id }) what (inr (inl (subst (λ j. IsIn (happened_at n (effects.Sub j what)) w.happened) e k)))

leaf_ended : (w : World) (n : ℕ) (id i : Numbers) (kind : Kind) (what : Ending) → i ≡ id → kind ≡ kinds.Durable → IsIn (happened_at n (effects.Leaf i kind what)) w.happened
    → HasEnding w (record { node = n; id = id })
leaf_ended w n id i kind what e d k =
    by_what w (record { node = n; id = id }) what
    (inr (inr (subst (λ j. IsIn (happened_at n (effects.Leaf j kinds.Durable what)) w.happened) e (subst (λ c. IsIn (happened_at n (effects.Leaf i c what)) w.happened) d k))))

by_effect : (hosts : Hosts) (u : World) (w : WorldPremises hosts u) (n : ℕ) (id : Numbers) → Votes (w.laws.sorted.sort n id) → (e : Effect) → IsIn (happened_at n e) u.happened → ends_as id e ≡ true
    → FitsEffect (w.laws.sorted.sort n) e → HasEnding u (record { node = n; id = id })
by_effect hosts u w n id votes (effects.Root i what) k e fits = absurd (not_root (w.laws.sorted.sort n id) votes (subst (λ j. w.laws.sorted.sort n j ≡ Root) (same_id i id e) fits))
by_effect hosts u w n id votes (effects.Sub i what) k e fits = sub_ended u n id i what (same_id i id e) k
by_effect hosts u w n id votes (effects.Leaf i kind what) k e fits =
    leaf_ended u n id i kind what (same_id i id e) (durable_only (w.laws.sorted.sort n id) kind votes (subst (λ j. w.laws.sorted.sort n j ≡ LeafOf kind) (same_id i id e) fits)) k
by_effect hosts u w n id votes (effects.Told i what) k e fits = absurd cc

-- a voter that is gone has committed or aborted
pub gone_voter : (hosts : Hosts) (u : World) (n : ℕ) (x : Node) (b : Book) → WorldPremises hosts u → nth n u.nodes ≡ Some x → (id : Numbers) → Life x.journal (happened_on n u.happened) id (transaction_at b id) (leaf_at b id)
    → HasVoted u (record { node = n; id = id }) → transaction_at b id ≡ None → leaf_at b id ≡ None → HasEnding u (record { node = n; id = id })
gone_voter hosts u n x b w found id life (r, (y, there, i), vote) none no_leaf =
    let one : HasOne (happened_on n u.happened) id =
    some_end id (happened_on n u.happened)
    (gone_ended x.journal (happened_on n u.happened) id (transaction_at b id) (leaf_at b id) life none no_leaf r
    (subst (λ (z : Node). IsIn r z.journal) (same_node y x (nth n u.nodes) there found) i) (is_promised id r vote)) in
    let k : IsIn (happened_at n one.effect) u.happened = from_there n one.effect u.happened one.among in
    by_effect hosts u w n id (voter_sort hosts u w (record { node = n; id = id }) (r, (y, there, i), vote)) one.effect k one.its
    (one_of (λ (h : Happened). FitsEffect (w.laws.sorted.sort h.node) h.what) u.happened (happened_at n one.effect) w.laws.sorted.happened k)
