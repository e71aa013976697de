-- Agreement through any depth: a commit goes up to the root, and what is under one that committed never aborts.
use Rattle.std.specs.Prelude.{ℕ, true, ◌≡◌, ◌⊎◌}
use Rattle.std.proofs.Common.{inl, inr, sym, subst, ◌∙◌}
use Rattle.at_base.specs.Numbers.{Numbers}
use Rattle.at_base.specs.declared.notice.Kind.{Kind}
use Rattle.at_base.specs.declared.notice.Kind.TheVariants as kinds
use Rattle.at_base.specs.declared.notice.Notice.TheVariants as notices
use Rattle.at_base.specs.declared.record.Record.{Record}
use Rattle.at_base.specs.declared.record.Record.TheVariants as records
use Rattle.at_model.specs.World.{Happened, Who, World}
use Rattle.model_laws.specs.Agreement.{HasAborted, HasCommitted, HasPosted, IsAnswered, IsBehindAnswers, IsIn, IsOf, IsSplit, Stands, below, itself}
use Rattle.agreement.proofs.SeatedEntries.{one_of}
use Rattle.agreement.specs.Sorts.{FitsAccepted, FitsEffect, FitsRecord, IsParticipant, IsTransaction, LeafOf, Root, Sort, Subordinate}
use Rattle.agreement.proofs.OtherIds.{id_of, promise_id}
use Rattle.votes.specs.DurableVotes.{HasVoted, is_vote}
use Rattle.votes.proofs.SingleVotes.{is_promised}
use Rattle.outcomes.specs.Bonds.{CommittedBelow, IsBound, IsUnder, IsUnderOne}

-- sorts
abbrev sort_of : (w : World) → IsBound w → Who → Sort
sort_of w h x = h.sorted.sort x.node x.id

fits : (w : World) (h : IsBound w) (t x : Who) → IsUnder w t x → IsTransaction (sort_of w h t) × IsParticipant kinds.Durable (sort_of w h x)
fits w h t x (number, i) = one_of (FitsAccepted h.sorted.sort) w.accepted _ h.sorted.accepted i

fits_effect : (w : World) (h : IsBound w) (e : Happened) → IsIn e w.happened → FitsEffect (h.sorted.sort e.node) e.what
fits_effect w h e i = one_of (λ (f : Happened). FitsEffect (h.sorted.sort f.node) f.what) w.happened e h.sorted.happened i

fits_record : (w : World) (h : IsBound w) (n : ℕ) (r : Record) → Stands w n r → FitsRecord (h.sorted.sort n) r
fits_record w h n r (x, found, i) = one_of (FitsRecord (h.sorted.sort n)) x.journal r (h.sorted.nodes n x found).journal i

no_root_below : (S : Sort) → IsParticipant kinds.Durable S → S ≡ Root → ⊥
no_root_below S (inl e) f = let g : Subordinate ≡ Root = sym e ∙ f in cc
no_root_below S (inr e) f = let g : LeafOf kinds.Durable ≡ Root = sym e ∙ f in cc

no_leaf_above : (S : Sort) (kind : Kind) → IsTransaction S → S ≡ LeafOf kind → ⊥
no_leaf_above S kind (inl e) f = let g : Root ≡ LeafOf kind = sym e ∙ f in cc
no_leaf_above S kind (inr e) f = let g : Subordinate ≡ LeafOf kind = sym e ∙ f in cc

-- Who committed and is registered durably committed as a participant; so the one above it has committed.
pub as_participant : (w : World) (h : IsBound w) (t x : Who) → IsUnder w t x → HasCommitted w x → CommittedBelow w x
as_participant w h t x under (inl i) = absurd (no_root_below (sort_of w h x) (fits w h t x under).1 (fits_effect w h _ i))
as_participant w h t x under (inr c) = c

same_superior : (w : World) (h : IsBound w) (P : Who → Type 0) (t x : Who) → IsUnder w t x → IsUnderOne w P x → P t
same_superior w h P t x (number, i) (s, (other, k), p) = subst P (h.superior x s t _ _ k i) p

pub up_one : (w : World) (h : IsBound w) (t x : Who) → IsUnder w t x → HasCommitted w x → HasCommitted w t
up_one w h t x under c = same_superior w h (HasCommitted w) t x under (h.told x (as_participant w h t x under c))

pub up : (w : World) (h : IsBound w) (x root : Who) → IsOf w x root → HasCommitted w x → HasCommitted w root
up w h x root (itself e) c = subst (HasCommitted w) e c
up w h x root (below t number i of) c = up w h t root of (up_one w h t x (number, i) c)

-- What never aborts: it has voted ReadOnly, or it has voted Prepared and hasn't aborted.
abbrev pub Sealed : World → Who → Type 0
Sealed w x = HasPosted w x kinds.Durable notices.ReadOnly ⊎ (HasVoted w x × (HasAborted w x → ⊥))

-- a vote is that of its item
vote_id : (id : Numbers) (r : Record) → is_vote id r ≡ true → id_of r ≡ id
vote_id id r e = promise_id id r (is_promised id r e)

-- a transaction that has voted did so behind every answer
record_answers : (w : World) (h : IsBound w) (t : Who) (r : Record) → IsTransaction (sort_of w h t) → Stands w t.node r → is_vote t.id r ≡ true → IsAnswered w t
record_answers w h t (records.Voted i superior seats) is s e =
    h.voted t superior seats (subst (λ j. Stands w t.node (records.Voted j superior seats)) (vote_id t.id (records.Voted i superior seats) e) s)
record_answers w h t (records.LeafPrepared i coordinator key value) is s e =
    absurd (no_leaf_above (sort_of w h t) kinds.Durable is (subst (λ j. h.sorted.sort t.node j ≡ LeafOf kinds.Durable) (vote_id t.id (records.LeafPrepared i coordinator key value) e)
    (fits_record w h t.node (records.LeafPrepared i coordinator key value) s)))
record_answers w h t other is s e = absurd cc

vote_answers : (w : World) (h : IsBound w) (t : Who) → IsTransaction (sort_of w h t) → HasVoted w t → IsAnswered w t
vote_answers w h t is (r, s, e) = record_answers w h t r is s e

commit_answers : (w : World) (h : IsBound w) (t : Who) → IsTransaction (sort_of w h t) → HasCommitted w t → IsAnswered w t
commit_answers w h t is (inl i) = h.answered t i
commit_answers w h t is (inr (inl i)) = vote_answers w h t is (h.behind t i)
commit_answers w h t is (inr (inr i)) = absurd (no_leaf_above (sort_of w h t) kinds.Durable is (fits_effect w h _ i))

-- behind every answer, and where the one above it doesn't abort
answer_seals : (w : World) (h : IsBound w) (t x : Who) → IsUnder w t x → (HasAborted w t → ⊥) → HasPosted w x kinds.Durable notices.Prepared ⊎ HasPosted w x kinds.Durable notices.ReadOnly
    → Sealed w x
answer_seals w h t x under never (inl p) = inr (h.recorded x p, λ a. never (same_superior w h (HasAborted w) t x under (h.rolled_back x (h.recorded x p) a)))
answer_seals w h t x under never (inr p) = inl p

seals : (w : World) (h : IsBound w) (t x : Who) → IsUnder w t x → (HasAborted w t → ⊥) → IsAnswered w t → Sealed w x
seals w h t x (number, i) never answered = answer_seals w h t x (number, i) never (answered number kinds.Durable x i)

pub down_one : (w : World) (h : IsBound w) (t x : Who) → IsUnder w t x → HasCommitted w t ⊎ Sealed w t → Sealed w x
down_one w h t x under (inl c) = seals w h t x under (h.one t c) (commit_answers w h t (fits w h t x under).0 c)
down_one w h t x under (inr (inl p)) = inl (still_left (h.left_below t x p under))
  where
    still_left : HasPosted w x kinds.Durable notices.ReadOnly ⊎ HasCommitted w x → HasPosted w x kinds.Durable notices.ReadOnly
    still_left (inl r) = r
    still_left (inr c) = absurd (h.left t p (inr (up_one w h t x under c)))
down_one w h t x under (inr (inr (vote, never))) = seals w h t x under never (vote_answers w h t (fits w h t x under).0 vote)

pub down : (w : World) (h : IsBound w) (x root : Who) → IsOf w x root → HasCommitted w root → (x ≡ root) ⊎ Sealed w x
down w h x root (itself e) c = inl e
down w h x root (below t number i of) c = inr (down_one w h t x (number, i) (from (down w h t root of c)))
  where
    from : (t ≡ root) ⊎ Sealed w t → HasCommitted w t ⊎ Sealed w t
    from (inl e) = inl (subst (HasCommitted w) (sym e) c)
    from (inr s) = inr s

-- nothing is split
unbroken : (w : World) (h : IsBound w) (x root : Who) → HasCommitted w root → HasAborted w x → (x ≡ root) ⊎ Sealed w x → ⊥
unbroken w h x root c a (inl e) = h.one x (subst (HasCommitted w) (sym e) c) a
unbroken w h x root c a (inr (inl p)) = h.left x p (inl a)
unbroken w h x root c a (inr (inr (vote, never))) = never a

pub whole : (w : World) → IsBound w → IsSplit w → ⊥
whole w h s =
    let root : HasCommitted w s.root = up w h s.one s.root s.one_of s.committed in
    unbroken w h s.other s.root root s.aborted (down w h s.other s.root s.other_of root)

pub behind_answers : (w : World) → IsBound w → IsBehindAnswers w
behind_answers w h = record { root = h.answered; voted = h.voted }
