-- What votes and ends a step adds.
use Rattle.std.specs.Prelude.{ℕ, List, [], ◌∷◌, ◌++◌, Option, Some, None, Bool, true, false, map, ◌≡◌, ◌⊎◌, refl}
use Rattle.std.proofs.Common.{inl, inr, sym, subst, ap, ◌∙◌}
use Rattle.at_base.specs.Numbers.{Numbers}
use Rattle.at_base.specs.declared.event.Event.{Event}
use Rattle.at_base.specs.declared.notice.Kind.TheVariants as kinds
use Rattle.at_base.specs.declared.outs.Effect.{Effect}
use Rattle.at_base.specs.declared.outs.Effect.TheVariants as effects
use Rattle.at_base.specs.declared.outs.Ending.{Ending}
use Rattle.at_base.specs.declared.record.Record.{Record}
use Rattle.at_model.specs.Book.{Book, find_by}
use Rattle.at_model.specs.Step.{plan, step}
use Rattle.at_model.specs.World.{Happened, Node, Who, World, happened_at, nth, put_nth}
use Rattle.model_laws.specs.Agreement.{HasEnded, IsIn, Stands}
use Rattle.model_laws.specs.DrawnIds.{with_entry}
use Rattle.model_laws.specs.Order.{AreRising}
use Rattle.model_laws.specs.ReachedWorlds.{counts}
use Rattle.model_laws.proofs.Nodes.{each_put}
use Rattle.agreement.specs.StepDeeds.{standing}
use Rattle.agreement.proofs.SeatedBooks.{finds_each}
use Rattle.agreement.proofs.SeatedEntries.{in_either, one_of}
use Rattle.votes.specs.DurableVotes.{HasVoted, is_vote}

-- lists by id
pub found_each : {A : Type 0} (key : A → Numbers) (xs : List A) (x : A) → AreRising (map key xs) → IsIn x xs → find_by key (key x) xs ≡ Some x
found_each key xs x h i = one_of (λ z. find_by key (key z) xs ≡ Some z) xs x (finds_each key xs h) i

pub mapped_from : {A B : Type 0} (f : A → B) (y : B) (xs : List A) → IsIn y (map f xs) → (x : A) × IsIn x xs × (y ≡ f x)
mapped_from f y [] i = absurd i
mapped_from f y (x ∷ xs) (inl e) = (x, inl refl, e)
mapped_from f y (x ∷ xs) (inr i) = let (z, k, e) = mapped_from f y xs i in (z, inr k, e)

-- the record of a step
pub in_entry : (entry : Option Record) (landed : Bool) (rs : List Record) (r : Record) → IsIn r (with_entry entry landed rs) → IsIn r rs ⊎ (standing landed entry ≡ Some r)
in_entry None true rs r i = inl i
in_entry None false rs r i = inl i
in_entry (Some s) false rs r i = inl i
in_entry (Some s) true rs r i = by_place (in_either r rs (s ∷ []) i)
  where
    by_place : IsIn r rs ⊎ IsIn r (s ∷ []) → IsIn r rs ⊎ (Some s ≡ Some r)
    by_place (inl k) = inl k
    by_place (inr (inl e)) = inr (ap (λ q. Some q) (sym e))
    by_place (inr (inr k)) = absurd k

-- what stands in a journal where one node was put
pub stood : (u : World) (nodes : List Node) (n : ℕ) (x z : Node) (P : Record → Type 0) → nth n u.nodes ≡ Some x → nodes ≡ put_nth n z u.nodes → ((r : Record) → IsIn r z.journal → IsIn r x.journal ⊎ P r)
    → (m : ℕ) (y : Node) → nth m nodes ≡ Some y → (r : Record) → IsIn r y.journal → Stands u m r ⊎ ((m ≡ n) × P r)
stood u nodes n x z P found is new m y there r i =
    each_put (λ k v. (q : Record) → IsIn q v.journal → Stands u k q ⊎ ((k ≡ n) × P q)) u.nodes n x z found (λ q k. here q (new q k)) (λ k v differ at q l. inl (v, at, l)) m y
    (sym (ap (nth m) is) ∙ there) r i
  where
    here : (q : Record) → IsIn q x.journal ⊎ P q → Stands u n q ⊎ ((n ≡ n) × P q)
    here q (inl k) = inl (x, found, k)
    here q (inr k) = inr (refl, k)

-- a vote that stands is an old one, or the one that the step records
pub record RecordsVote (n : ℕ) (entry : Option Record) (y : Who) : Type 0 where
  pub here : y.node ≡ n
  pub vote : Record
  pub entered : entry ≡ Some vote
  pub its : is_vote y.id vote ≡ true

pub new_vote : (u : World) (n : ℕ) (x : Node) (b : Book) (e : Event) (now : ℕ) (landed : Bool) → nth n u.nodes ≡ Some x → (y : Who) → HasVoted (counts u n x b e now landed) y
    → HasVoted u y ⊎ RecordsVote n (standing landed (plan b e now).entry) y
new_vote u n x b e now landed found y (r, (z, there, i), vote) =
    by_place (stood u (counts u n x b e now landed).nodes n x (record x { book = Some (step b e now landed).book; journal = with_entry (plan b e now).entry landed x.journal })
    (λ q. standing landed (plan b e now).entry ≡ Some q) found refl (λ q k. in_entry (plan b e now).entry landed x.journal q k) y.node z there r i)
  where
    by_place : Stands u y.node r ⊎ ((y.node ≡ n) × (standing landed (plan b e now).entry ≡ Some r)) → HasVoted u y ⊎ RecordsVote n (standing landed (plan b e now).entry) y
    by_place (inl s) = inl (r, s, vote)
    by_place (inr (here, entered)) = inr (record { here = here; vote = r; entered = entered; its = vote })

-- the end of an item
abbrev pub IsEnd : Numbers → Ending → Effect → Type 0
IsEnd id what f = (f ≡ effects.Root id what) ⊎ ((f ≡ effects.Sub id what) ⊎ (f ≡ effects.Leaf id kinds.Durable what))

-- an end is an old one, or one of these that happen at this node
pub record EndsNow (n : ℕ) (es : List Effect) (y : Who) (what : Ending) : Type 0 where
  pub here : y.node ≡ n
  pub effect : Effect
  pub among : IsIn effect es
  pub its : IsEnd y.id what effect

pub happened_of : (n : ℕ) (es : List Effect) (k : ℕ) (f : Effect) → IsIn (happened_at k f) (map (happened_at n) es) → (k ≡ n) × IsIn f es
happened_of n es k f i =
    let (g, j, e) = mapped_from (happened_at n) (happened_at k f) es i in
    (ap (λ (h : Happened). h.node) e, subst (λ q. IsIn q es) (sym (ap (λ (h : Happened). h.what) e)) j)

pub new_end : (u : World) (n : ℕ) (es : List Effect) (w : World) → w.happened ≡ u.happened ++ map (happened_at n) es → (y : Who) (what : Ending) → HasEnded w y what → HasEnded u y what ⊎ EndsNow n es y what
new_end u n es w is y what h = by_effect h
  where
    split : (f : Effect) → IsIn (happened_at y.node f) w.happened → IsIn (happened_at y.node f) u.happened ⊎ ((y.node ≡ n) × IsIn f es)
    split f i = by_place (in_either (happened_at y.node f) u.happened (map (happened_at n) es) (subst (IsIn (happened_at y.node f)) is i))
      where
        by_place : IsIn (happened_at y.node f) u.happened ⊎ IsIn (happened_at y.node f) (map (happened_at n) es) → IsIn (happened_at y.node f) u.happened ⊎ ((y.node ≡ n) × IsIn f es)
        by_place (inl k) = inl k
        by_place (inr k) = inr (happened_of n es y.node f k)

    lift : (f : Effect) → IsEnd y.id what f → (IsIn (happened_at y.node f) u.happened → HasEnded u y what)
        → IsIn (happened_at y.node f) u.happened ⊎ ((y.node ≡ n) × IsIn f es) → HasEnded u y what ⊎ EndsNow n es y what
    lift f its old (inl k) = inl (old k)
    lift f its old (inr (here, k)) = inr (record { here = here; effect = f; among = k; its = its })

    by_effect : HasEnded w y what → HasEnded u y what ⊎ EndsNow n es y what
    by_effect (inl i) = lift (effects.Root y.id what) (inl refl) (λ k. inl k) (split (effects.Root y.id what) i)
    by_effect (inr (inl i)) = lift (effects.Sub y.id what) (inr (inl refl)) (λ k. inr (inl k)) (split (effects.Sub y.id what) i)
    by_effect (inr (inr i)) = lift (effects.Leaf y.id kinds.Durable what) (inr (inr refl)) (λ k. inr (inr k)) (split (effects.Leaf y.id kinds.Durable what) i)
