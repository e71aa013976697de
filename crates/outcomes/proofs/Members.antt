-- The members that a world shows are those of the root.
use Rattle.std.specs.Prelude.{ℕ, List, [], ◌∷◌, Option, Some, None, ◌≡◌, ◌⊎◌, refl}
use Rattle.std.proofs.Common.{inl, inr, sym, subst, ap, ◌∙◌}
use Rattle.at_base.specs.declared.notice.Kind.{Kind}
use Rattle.at_base.specs.declared.notice.Kind.TheVariants as kinds
use Rattle.at_base.specs.declared.target.Seat.{Seat}
use Rattle.at_model.specs.World.{Accepted, Who, World}
use Rattle.model_laws.specs.Agreement.{IsIn, IsOf, below, itself}
use Rattle.model_laws.proofs.DecisionLaws.{in_front}
use Rattle.model_laws.proofs.SeatRegistrations.{in_back}
use Rattle.agreement.proofs.SeatedEntries.{in_either}
use Rattle.votes.specs.NamedParticipants.{registration}
use Rattle.outcomes.specs.AtomicCommit.{IsMember, Joined, leads, under}
use Rattle.outcomes.specs.Statuses.{joined_as, joined_at, joined_in, state_of}

abbrev join : Who → Who → Joined
join t x = record { under = t; member = x }

joined_there : (t x : Who) (number : ℕ) (list : List Accepted) → IsIn (registration t number kinds.Durable x) list → IsIn (join t x) (joined_in list)
joined_there t x number [] i = absurd i
joined_there t x number (a ∷ rest) (inl e) =
    in_front (join t x) (joined_at a.transaction a.seat a.participant) (joined_in rest)
    (subst (λ (c : Accepted). IsIn (join t x) (joined_at c.transaction c.seat c.participant)) e (inl refl))
joined_there t x number (a ∷ rest) (inr i) = in_back (join t x) (joined_at a.transaction a.seat a.participant) (joined_in rest) (joined_there t x number rest i)

-- the registration behind it
joined_by : (t x : Who) (a : Accepted) → IsIn (join t x) (joined_at a.transaction a.seat a.participant)
    → (number : ℕ) × (registration t number kinds.Durable x ≡ a)
joined_by t x a = by_parts a.seat refl a.participant refl
  where
    by_kind : (s : Seat) → a.seat ≡ Some s → (y : Who) → a.participant ≡ Some y → (k : Kind) → s.kind ≡ k → IsIn (join t x) (joined_as k a.transaction y)
        → (number : ℕ) × (registration t number kinds.Durable x ≡ a)
    by_kind s e y f kinds.Volatile g i = absurd i
    by_kind s e y f kinds.Durable g (inr i) = absurd i
    by_kind s e y f kinds.Durable g (inl h) = (
      s.number,
      λ i. record {
        transaction = (h i).under;
        seat = (ap (λ k. Some (record { number = s.number; kind = k })) (sym g) ∙ sym e) i;
        participant = (ap (λ (j : Joined). Some j.member) h ∙ sym f) i;
      },
    )

    by_parts : (o : Option Seat) → a.seat ≡ o → (p : Option Who) → a.participant ≡ p → IsIn (join t x) (joined_at a.transaction o p)
        → (number : ℕ) × (registration t number kinds.Durable x ≡ a)
    by_parts (Some s) e (Some y) f i = by_kind s e y f s.kind refl i
    by_parts (Some s) e None f i = absurd i
    by_parts None e p f i = absurd i

joined_from : (t x : Who) (list : List Accepted) → IsIn (join t x) (joined_in list) → (number : ℕ) × IsIn (registration t number kinds.Durable x) list
joined_from t x [] i = absurd i
joined_from t x (a ∷ rest) i = by_place (joined_from t x rest) (in_either (join t x) (joined_at a.transaction a.seat a.participant) (joined_in rest) i)
  where
    by_place : (IsIn (join t x) (joined_in rest) → (number : ℕ) × IsIn (registration t number kinds.Durable x) rest)
        → IsIn (join t x) (joined_at a.transaction a.seat a.participant) ⊎ IsIn (join t x) (joined_in rest)
        → (number : ℕ) × IsIn (registration t number kinds.Durable x) (a ∷ rest)
    by_place further (inl k) = let (number, e) = joined_by t x a k in (number, inl e)
    by_place further (inr k) = let (number, j) = further k in (number, inr j)

pub member_of : (w : World) (root x : Who) → IsOf w x root → IsMember (state_of w) root x
member_of w root x (itself e) = leads e
member_of w root x (below t number i of) = under t (joined_there t x number w.accepted i) (member_of w root t of)

pub of_member : (w : World) (root x : Who) → IsMember (state_of w) root x → IsOf w x root
of_member w root x (leads e) = itself e
of_member w root x (under t i m) = let (number, j) = joined_from t x w.accepted i in below t number j (of_member w root t m)
