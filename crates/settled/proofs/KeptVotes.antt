-- Every vote that is waited for stays owed over each step.
use Rattle.std.specs.Prelude.{ℕ, List, [], ◌∷◌, Option, Some, None, ◌≡◌, ◌⊎◌, refl}
use Rattle.std.proofs.Common.{inl, inr, sym, subst}
use Rattle.at_base.specs.declared.notice.Kind.{Kind}
use Rattle.at_base.specs.declared.notice.Notice.TheVariants as notices
use Rattle.at_tables.specs.declared.cells.State.TheVariants as states
use Rattle.at_model.specs.Book.{Book, Enlistment, Transaction}
use Rattle.at_model.specs.Step.{transaction_at}
use Rattle.at_model.specs.World.{Posted, Who, World, Hosts}
use Rattle.model_laws.specs.Agreement.{IsIn}
use Rattle.model_laws.specs.PhaseAnswers.{Accepted as Seating}
use Rattle.owed.specs.Seats.{AreOwed, HasAnswered, IsNew, IsOwed, PairsOrNew, seat_post}
use Rattle.owed.proofs.SeatSteps.{steps_owe_seats}
use Rattle.votes.specs.NamedParticipants.{HasSeat}
use Rattle.paired.specs.Partners.{IsPlace, participant_of}
use Rattle.settled.specs.DurablePrepares.{PreparesAreBehind}
use Rattle.settled.specs.CalmSteps.{Goes}
use Rattle.settled.specs.OwedMessages.{HasRegistered, Holds, OwesVote, VotesAreOwed}
use Rattle.settled.proofs.CalmSteps.{book_after, held_elsewhere, holds_after, holds_before, or_elsewhere, posted_in, ready, same_book, seat_asks, shaped}
use Rattle.settled.proofs.Partners.{found_own, seat_has}
use Rattle.settled.proofs.Votes.{vote_on}

-- the seat as it was, or a new one
pub record Partner (R : Enlistment → Enlistment → Type 0) (olds : List Enlistment) (s : Enlistment) : Type 0 where
  pub old : Enlistment
  pub among : IsIn old olds
  pub pair : R old s

pub partner : (R : Enlistment → Enlistment → Type 0) (N : Enlistment → Type 0) (olds news : List Enlistment) (s : Enlistment) → PairsOrNew R N olds news → IsIn s news → Partner R olds s ⊎ N s
partner R N [] [] s h i = absurd i
partner R N [] (n ∷ ns) s (h, k) (inl e) = inr (subst N (sym e) h)
partner R N [] (n ∷ ns) s (h, k) (inr i) = partner R N [] ns s k i
partner R N (o ∷ os) [] s h i = absurd h
partner R N (o ∷ os) (n ∷ ns) s (h, k) (inl e) = inl (record { old = o; among = inl refl; pair = subst (R o) (sym e) h })
partner R N (o ∷ os) (n ∷ ns) s (h, k) (inr i) = further (partner R N os ns s k i)
  where
    further : Partner R os s ⊎ N s → Partner R (o ∷ os) s ⊎ N s
    further (inl p) = inl (record { old = p.old; among = inr p.among; pair = p.pair })
    further (inr m) = inr m

-- what stood of the transaction of a seat behind the step
pub record StoodBefore (hosts : Hosts) (u v : World) (before after : List Posted) (g : Goes hosts u v before after) (t : Transaction) (s : Enlistment) : Type 0 where
  pub old : Transaction
  pub found : transaction_at g.book old.id ≡ Some old
  pub id_is : t.id ≡ old.id
  pub seats : Partner (IsOwed g.book.base g.event old (posted_in g)) old.seats s ⊎ IsNew g.book.base old (posted_in g) s

pub stood : (hosts : Hosts) (u v : World) (before after : List Posted) → (g : Goes hosts u v before after) → (t : Transaction) (s : Enlistment) → transaction_at (book_after g) t.id ≡ Some t → IsIn s t.seats
    → StoodBefore hosts u v before after g t s
stood hosts u v before after g t s found i =
    by_old (transaction_at g.book t.id) refl
    (subst (AreOwed g.book.base g.event (posted_in g) (transaction_at g.book t.id)) found
    (steps_owe_seats.seats g.book g.event g.now (ready hosts u v before after g) (shaped hosts u v before after g) t.id))
  where
    by_old : (o : Option Transaction) → transaction_at g.book t.id ≡ o → AreOwed g.book.base g.event (posted_in g) o (Some t) → StoodBefore hosts u v before after g t s
    by_old None e none = absurd (subst (IsIn s) none i)
    by_old (Some old) e (same, pairs) = record {
      old = old;
      found = found_own g.book t.id old e;
      id_is = same;
      seats = partner (IsOwed g.book.base g.event old (posted_in g)) (IsNew g.book.base old (posted_in g)) old.seats t.seats s pairs i;
    }

abbrev pub NoneRegisters : World → Type 0
NoneRegisters w = (z x : Who) (kind : Kind) (number : ℕ) → HasSeat w z number kind x → HasRegistered w x kind

votes_here : (hosts : Hosts) (Asked : ℕ → Type 0) (u v : World) (before after : List Posted) → (g : Goes hosts u v before after) → PreparesAreBehind hosts u → NoneRegisters u
    → VotesAreOwed hosts Asked u before → (t : Transaction) (s : Enlistment) (x : Who) → Asked g.number → transaction_at (book_after g) t.id ≡ Some t → IsIn s t.seats → s.state ≡ states.Preparing
    → IsPlace hosts x → s.participant ≡ participant_of hosts x s.kind → OwesVote hosts v after (record { node = g.number; id = t.id }) s.number s.kind x
votes_here hosts Asked u v before after g behind registered h t s x asked found i state place is = by_seat b.seats
  where
    b : StoodBefore hosts u v before after g t s
    b = stood hosts u v before after g t s found i

    held : Holds u g.number g.book
    held = holds_before hosts u v before after g

    as_new : OwesVote hosts v after (record { node = g.number; id = b.old.id }) s.number s.kind x → OwesVote hosts v after (record { node = g.number; id = t.id }) s.number s.kind x
    as_new k = subst (λ j. OwesVote hosts v after (record { node = g.number; id = j }) s.number s.kind x) (sym b.id_is) k

    by_asked : (p : Partner (IsOwed g.book.base g.event b.old (posted_in g)) b.old.seats s)
        → ((p.old.state ≡ states.Preparing) × (HasAnswered g.event b.old p.old → ⊥)) ⊎ IsIn (seat_post g.book.base b.old.id p.old notices.Prepare) (posted_in g)
        → OwesVote hosts v after (record { node = g.number; id = b.old.id }) p.old.number p.old.kind x
    by_asked p (inl (was, unanswered)) =
        let same : p.old.participant ≡ participant_of hosts x p.old.kind = subst (λ (a : Seating). a.participant ≡ participant_of hosts x a.kind) p.pair.0.0 is in
        vote_on hosts u v before after g behind g.number g.book b.old p.old x held b.found p.among was place same
        (registered (record { node = g.number; id = b.old.id }) x p.old.kind p.old.number (seat_has hosts u g.distinct g.reached g.number g.book held b.old p.old x b.found p.among place same))
        (λ here. unanswered) (h.seats g.number g.book b.old p.old x asked held b.found p.among was place same)
    by_asked p (inr sent) =
        inl (seat_asks hosts u v before after g b.old.id p.old x notices.Prepare tt place (subst (λ (a : Seating). a.participant ≡ participant_of hosts x a.kind) p.pair.0.0 is) sent)

    by_seat : Partner (IsOwed g.book.base g.event b.old (posted_in g)) b.old.seats s ⊎ IsNew g.book.base b.old (posted_in g) s
        → OwesVote hosts v after (record { node = g.number; id = t.id }) s.number s.kind x
    by_seat (inl p) =
        as_new (subst (λ (a : Seating). OwesVote hosts v after (record { node = g.number; id = b.old.id }) a.number a.kind x) (sym p.pair.0.0) (by_asked p (p.pair.1.0 state)))
    by_seat (inr new) = as_new (inl (seat_asks hosts u v before after g b.old.id s x notices.Prepare tt place is (new.0 state)))

pub votes_kept : (hosts : Hosts) (Asked : ℕ → Type 0) (u v : World) (before after : List Posted) → (g : Goes hosts u v before after) → PreparesAreBehind hosts u → NoneRegisters u
    → VotesAreOwed hosts Asked u before → VotesAreOwed hosts Asked v after
votes_kept hosts Asked u v before after g behind registered h = record { seats = λ n b t s x asked holds found i state place is. by_place n b t s x asked holds found i state place is (or_elsewhere n g.number) }
  where
    by_place : (n : ℕ) (b : Book) (t : Transaction) (s : Enlistment) (x : Who) → Asked n → Holds v n b → transaction_at b t.id ≡ Some t → IsIn s t.seats → s.state ≡ states.Preparing
        → IsPlace hosts x → s.participant ≡ participant_of hosts x s.kind → (n ≡ g.number) ⊎ (n ≡ g.number → ⊥) → OwesVote hosts v after (record { node = n; id = t.id }) s.number s.kind x
    by_place n b t s x asked holds found i state place is (inl here) =
        let same : b ≡ book_after g = same_book v g.number b (book_after g) (subst (λ m. Holds v m b) here holds) (holds_after hosts u v before after g) in
        subst (λ m. OwesVote hosts v after (record { node = m; id = t.id }) s.number s.kind x) (sym here)
        (votes_here hosts Asked u v before after g behind registered h t s x (subst Asked here asked) (subst (λ c. transaction_at c t.id ≡ Some t) same found) i state place is)
    by_place n b t s x asked holds found i state place is (inr other) =
        let held : Holds u n b = held_elsewhere hosts u v before after g n b other holds in
        vote_on hosts u v before after g behind n b t s x held found i state place is
        (registered (record { node = n; id = t.id }) x s.kind s.number (seat_has hosts u g.distinct g.reached n b held t s x found i place is))
        (λ here. absurd (other here)) (h.seats n b t s x asked held found i state place is)
