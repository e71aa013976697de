-- The seats of a transaction as they stand at a vote, a decision or an end: there is one for each participant, and it says
-- what the participant has answered.
use Rattle.std.specs.Prelude.{ℕ, List, [], ◌∷◌, Option, Some, None, Bool, true, false, not, ◌&&◌, ◌||◌, map, ◌≡◌, ◌⊎◌, refl}
use Rattle.std.specs.List.{list_any, AllByRecursion}
use Rattle.std.proofs.Common.{inl, inr, sym, subst, ap, ◌∙◌}
use Rattle.at_base.specs.Numbers.{Numbers}
use Rattle.at_base.specs.declared.notice.Kind.{Kind}
use Rattle.at_base.specs.declared.notice.Kind.TheVariants as kinds
use Rattle.at_base.specs.declared.notice.Notice.TheVariants as notices
use Rattle.at_base.specs.declared.target.Seat.{Seat}
use Rattle.at_base.specs.declared.event.Event.{Event}
use Rattle.at_base.specs.declared.outs.Effect.{Effect}
use Rattle.at_base.specs.declared.outs.Ending.{Ending}
use Rattle.at_base.specs.declared.outs.Ending.TheVariants as endings
use Rattle.at_tables.specs.declared.cells.State.{State}
use Rattle.at_tables.specs.declared.cells.State.TheVariants as states
use Rattle.at_tables.specs.Names.{is_state}
use Rattle.at_base.specs.Names.{is_kind}
use Rattle.at_model.specs.Book.{Book, Enlistment, Transaction, transaction_id}
use Rattle.at_model.specs.Due.{may_expire}
use Rattle.at_model.specs.Seats.{answered, ending, is_of}
use Rattle.at_model.specs.Step.{step, transaction_at}
use Rattle.at_model.specs.World.{Accepted, Node, Who, World, accepted_seat, Hosts}
use Rattle.model_laws.specs.Agreement.{HasAborted, HasCommitted, HasPosted, IsIn}
use Rattle.model_laws.specs.PhaseAnswers.{IsUnanswered, accepted_as}
use Rattle.model_laws.proofs.DecisionLaws.{all_find}
use Rattle.model_laws.proofs.Registrations.{nodes_of}
use Rattle.model_laws.proofs.Nodes.{seats_same}
use Rattle.agreement.specs.Deeds.{AreCounted, How, IsAbort, happens}
use Rattle.agreement.specs.Lives.{happened_on}
use Rattle.agreement.proofs.SeatedEntries.{are_entries, each_is_in, entry}
use Rattle.votes.specs.NamedParticipants.{HasSeat, registration}
use Rattle.votes.specs.VotesAndOutcomes.{IsOutcome}
use Rattle.votes.specs.SeatStates.{SeatSays, SeatTells, who_named}
use Rattle.votes.proofs.ItemEnds.{IsOpen, as_ending, as_what, is_open}
use Rattle.votes.proofs.SeatMessages.{hears_before}
use Rattle.votes.proofs.StepItems.{stands_as}
use Rattle.votes.proofs.Premises.{StepPremises}
use Rattle.votes.proofs.SeatMoves.{Hears, at_says}

-- a seat of this participant's
pub record SeatOf (hosts : Hosts) (seats : List Enlistment) (number : ℕ) (kind : Kind) (y : Who) : Type 0 where
  pub seat : Enlistment
  pub among : IsIn seat seats
  pub number_is : seat.number ≡ number
  pub kind_is : seat.kind ≡ kind
  pub named : who_named hosts seat.participant ≡ Some y

pub seat_of : (hosts : Hosts) (n : ℕ) (id : Numbers) (seats : List Enlistment) (number : ℕ) (kind : Kind) (y : Who)
    → IsIn (registration (record { node = n; id = id }) number kind y) (map (accepted_seat n (nodes_of hosts) id) seats) → SeatOf hosts seats number kind y
seat_of hosts n id [] number kind y i = absurd i
seat_of hosts n id (s ∷ seats) number kind y (inl e) = record {
  seat = s;
  among = inl refl;
  number_is = ap (λ (z : Seat). z.number) (inside (record { number = s.number; kind = s.kind }) (record { number = number; kind = kind }) (sym (ap (λ (a : Accepted). a.seat) e)));
  kind_is = ap (λ (z : Seat). z.kind) (inside (record { number = s.number; kind = s.kind }) (record { number = number; kind = kind }) (sym (ap (λ (a : Accepted). a.seat) e)));
  named = sym (ap (λ (a : Accepted). a.participant) e);
}
  where
    inside : (p q : Seat) → Some p ≡ Some q → p ≡ q
    inside p q f = cc
seat_of hosts n id (s ∷ seats) number kind y (inr i) =
    let r : SeatOf hosts seats number kind y = seat_of hosts n id seats number kind y i in
    record { seat = r.seat; among = inr r.among; number_is = r.number_is; kind_is = r.kind_is; named = r.named }

-- the same participants sit at the seats once a message is counted
counted_same : (e : Event) (t : Transaction) (olds at : List Enlistment) → AreCounted e t olds at → map accepted_as at ≡ map accepted_as olds
counted_same e t [] [] c = refl
counted_same e t [] (a ∷ rest) c = absurd c
counted_same e t (o ∷ os) [] c = absurd c
counted_same e t (o ∷ os) (a ∷ rest) (c, cs) = λ i. c.seat i ∷ counted_same e t os rest cs i

pub at_entries : (hosts : Hosts) (n : ℕ) (id : Numbers) (e : Event) (t : Transaction) (at : List Enlistment) → AreCounted e t t.seats at
    → map (accepted_seat n (nodes_of hosts) id) t.seats ≡ map (accepted_seat n (nodes_of hosts) id) at
at_entries hosts n id e t at c = are_entries hosts n id t.seats ∙ ap (map (entry hosts n id)) (sym (counted_same e t t.seats at c)) ∙ sym (are_entries hosts n id at)

-- an undecided transaction has a seat for each
pub among_book : (b : Book) (t : Transaction) → transaction_at b t.id ≡ Some t → IsIn t b.transactions
among_book b t found = all_find (λ y. IsIn y b.transactions) transaction_id t.id b.transactions t (each_is_in b.transactions) found

pub has_entry : (hosts : Hosts) (u : World) (n : ℕ) (x : Node) (b : Book) (e : Event) → StepPremises hosts u n x b e → (t : Transaction) → transaction_at b t.id ≡ Some t → may_expire t.phase ≡ true
    → (number : ℕ) (kind : Kind) (y : Who) → HasSeat u (record { node = n; id = t.id }) number kind y
    → IsIn (registration (record { node = n; id = t.id }) number kind y) (map (accepted_seat n (nodes_of hosts) t.id) t.seats)
has_entry hosts u n x b e p t found undecided number kind y i =
    subst (IsIn (registration (record { node = n; id = t.id }) number kind y)) (seats_same n u.nodes (nodes_of hosts) t.id t.seats p.world.laws.bases)
    (p.world.laws.seated.complete n x b t p.found p.up (among_book b t found) undecided (registration (record { node = n; id = t.id }) number kind y) (record { number = number; kind = kind }) i
    refl refl)

-- an undecided transaction is open
pub open_there : (hosts : Hosts) (u : World) (n : ℕ) (x : Node) (b : Book) (e : Event) → StepPremises hosts u n x b e → (t : Transaction) → transaction_at b t.id ≡ Some t → may_expire t.phase ≡ true
    → IsOpen x.journal (happened_on n u.happened) t.id
open_there hosts u n x b e p t found undecided = is_open x.journal (happened_on n u.happened) t.id t (stands_as hosts u n x b e p t found) undecided

-- a deed that aborts nothing ends nothing as aborted
abbrev head_as : List Effect → Option Ending
head_as [] = None
head_as (e ∷ es) = as_what e

abbrev EndsSo : Option Ending → Type 0
EndsSo (Some endings.Aborted) = Unit {0}
EndsSo other = ⊥

not_ending : (how : How) (t : Transaction) → (IsAbort how → ⊥) → EndsSo (head_as (happens how t)) → ⊥
not_ending How.Aborts t f h = f tt
not_ending How.RollsBack t f h = f tt
not_ending How.Decides t f h = subst EndsSo (as_ending t.superior t.id endings.Committed) h
not_ending How.DecidesAlone t f h = subst EndsSo (as_ending t.superior t.id endings.Committed) h
not_ending How.Commits t f h = subst EndsSo (as_ending t.superior t.id endings.Committed) h
not_ending other t f h = h

pub no_abort : (how : How) (t : Transaction) (es : List Effect) → (IsAbort how → ⊥) → es ≡ happens how t → es ≡ ending t endings.Aborted ∷ [] → ⊥
no_abort how t es f e k = not_ending how t f (subst EndsSo (sym (as_ending t.superior t.id endings.Aborted) ∙ ap head_as (sym k ∙ e)) tt)

-- what the seats say as they stand then
pub seats_at : (hosts : Hosts) (u : World) (n : ℕ) (x : Node) (b : Book) (e : Event) (now : ℕ) (landed : Bool) → StepPremises hosts u n x b e → IsOutcome hosts u → (t : Transaction)
    → transaction_at b t.id ≡ Some t → (how : How) → (IsAbort how → ⊥) → (step b e now landed).effects ≡ happens how t → (at : List Enlistment) → AreCounted e t t.seats at
    → AllByRecursion (SeatTells hosts u (record { node = n; id = t.id })) at
seats_at hosts u n x b e now landed p j t found how stays is at c = at_says hosts u (record { node = n; id = t.id }) e t hears t.seats at (λ s i. i) hears.tells c
  where
    hears : Hears hosts u (record { node = n; id = t.id }) e t
    hears = hears_before hosts u n x b e now landed p j t found (no_abort how t (step b e now landed).effects stays is)

-- who has answered
pub own_kind : (k : Kind) → is_kind k k ≡ true
own_kind kinds.Durable = refl
own_kind kinds.Volatile = refl

asked_of : (kind : Kind) (s : Enlistment) → s.kind ≡ kind → IsUnanswered s.state → (is_of kind states.Active s || is_of kind states.Preparing s) ≡ true
asked_of kind s k u = ap (λ c. (c && is_state s.state states.Active) || (c && is_state s.state states.Preparing)) (ap (λ z. is_kind z kind) k ∙ own_kind kind) ∙ by_state s.state u
  where
    by_state : (state : State) → IsUnanswered state → (is_state state states.Active || is_state state states.Preparing) ≡ true
    by_state states.Active h = refl
    by_state states.Preparing h = refl
    by_state other h = absurd h

pub any_of : {A : Type 0} (test : A → Bool) (xs : List A) (y : A) → IsIn y xs → test y ≡ true → list_any test xs ≡ true
any_of test [] y i e = absurd i
any_of test (x ∷ xs) y (inl f) e = ap (λ c. c || list_any test xs) (ap test (sym f) ∙ e)
any_of test (x ∷ xs) y (inr i) e = by_test (test x) (any_of test xs y i e)
  where
    by_test : (c : Bool) → list_any test xs ≡ true → (c || list_any test xs) ≡ true
    by_test true h = refl
    by_test false h = h

both : (c : Bool) → c ≡ true → not c ≡ true → ⊥
both c e f = cc

pub has_answered : (kind : Kind) (seats : List Enlistment) (s : Enlistment) → answered kind seats ≡ true → IsIn s seats → s.kind ≡ kind → IsUnanswered s.state → ⊥
has_answered kind seats s all i k u =
    both (list_any (λ z. is_of kind states.Active z || is_of kind states.Preparing z) seats)
    (any_of (λ z. is_of kind states.Active z || is_of kind states.Preparing z) seats s i (asked_of kind s k u)) all

-- of an undecided transaction whose seats have answered
pub volatile_says : (u : World) (w y : Who) (state : State) → (HasCommitted u w → ⊥) → (HasAborted u w → ⊥) → (IsUnanswered state → ⊥) → SeatSays u w y kinds.Volatile state
    → HasPosted u y kinds.Volatile notices.Prepared ⊎ HasPosted u y kinds.Volatile notices.ReadOnly
volatile_says u w y states.Active c a f h = absurd (f tt)
volatile_says u w y states.Preparing c a f h = absurd (f tt)
volatile_says u w y states.Prepared c a f h = inl h
volatile_says u w y states.Committing c a f h = inl h.0
volatile_says u w y states.Aborting c a f h = absurd (a h)
volatile_says u w y states.None c a f (inl h) = absurd (a h)
volatile_says u w y states.None c a f (inr (inl h)) = inr h
volatile_says u w y states.None c a f (inr (inr h)) = inl h
volatile_says u w y other c a f h = absurd h

pub durable_says : (u : World) (w y : Who) (state : State) → (HasCommitted u w → ⊥) → (HasAborted u w → ⊥) → (IsUnanswered state → ⊥) → SeatSays u w y kinds.Durable state
    → HasPosted u y kinds.Durable notices.ReadOnly ⊎ ((state ≡ states.Prepared) × HasPosted u y kinds.Durable notices.Prepared)
durable_says u w y states.Active c a f h = absurd (f tt)
durable_says u w y states.Preparing c a f h = absurd (f tt)
durable_says u w y states.Prepared c a f h = inr (refl, h)
durable_says u w y states.Committing c a f h = absurd (c h.1)
durable_says u w y states.Aborting c a f h = absurd (a h)
durable_says u w y states.None c a f (inl h) = absurd (a h)
durable_says u w y states.None c a f (inr (inl h)) = inl h
durable_says u w y states.None c a f (inr (inr h)) = absurd (c h.1)
durable_says u w y other c a f h = absurd h
