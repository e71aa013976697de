-- What a sound transaction and a sound leaf become is sound, and what they record is well-formed.
use Rattle.std.specs.Prelude.{ℕ, List, [], ◌∷◌, ◌++◌, Option, Some, None, Bool, true, false, refl, if◌then◌else◌, not, ◌&&◌, ◌||◌, bytes_eq, nat_eq, nat_lt, ◌+◌, length, map, filter, ◌≡◌, ◌≤◌, ◌<◌, ◌⊎◌}
use Rattle.std.specs.List.{list_any, AllByRecursion}
use Rattle.std.proofs.Common.{sym, subst, ap, inl, inr, suc, arith}
use Rattle.at_base.specs.Numbers.{Numbers}
use Rattle.at_base.specs.declared.epr.Epr.{Epr}
use Rattle.at_base.specs.declared.epr.Reply.{Reply}
use Rattle.at_base.specs.declared.epr.Reply.TheVariants as replies
use Rattle.at_base.specs.declared.notice.Kind.{Kind}
use Rattle.at_base.specs.declared.notice.Kind.TheVariants as kinds
use Rattle.at_base.specs.declared.notice.Notice.{Notice}
use Rattle.at_base.specs.declared.message.Message.{Message}
use Rattle.at_base.specs.declared.message.Message.TheVariants as messages
use Rattle.at_base.specs.declared.message.Context.{Context}
use Rattle.at_base.specs.declared.message.Register.{Register}
use Rattle.at_base.specs.declared.record.Record.{Record}
use Rattle.at_base.specs.declared.event.Arrived.{Arrived}
use Rattle.at_base.specs.declared.event.Moment.{Moment}
use Rattle.at_tables.specs.declared.cells.State.TheVariants as states
use Rattle.at_tables.specs.declared.cells.Act.{Act}
use Rattle.at_tables.specs.declared.cells.Act.TheVariants as acts
use Rattle.at_tables.specs.declared.cells.Cell.{Cell}
use Rattle.at_tables.specs.Names.{is_state}
use Rattle.at_tables.specs.Tables.{coordinator_of, participant_of, completion_of}
use Rattle.at_base.specs.declared.limits.TheConstants.{MOST_SEATS, MOST_ITEMS}
use Rattle.at_model.specs.Book.{Transaction, Enlistment, Completion, Superior, Phase}
use Rattle.endpoints.specs.Addresses.{register_id}
use Rattle.at_model.specs.Moves.{Moving, Decision, Goes, begin, become, stays, forgotten, ignored}
use Rattle.at_model.specs.Seats.{answered, all_left, in_state, is_prepared_durable, in_phase, under}
use Rattle.at_model.specs.Abort.{Reason, Alone, Asked, until_rolled_back, abort}
use Rattle.at_model.specs.Phases.{decided, committed, root_answered, voted, sub_answered, durable_answered, if_durable_answered, prepare_seats, go_durable, volatile_answered, all_committed, advance_in, advance, go_volatile}
use Rattle.at_model.specs.Arrivals.{seat_act, seat_notice, commit_voted, link_act, link_notice, completion_act, completion_notice, relates_to, link_registered, link_fault, on_link, on_seat, on_completion, request_answered, with_answer, asked}
use Rattle.at_model.specs.Register.{Registration, accept, register_new, register_again, on_register, may_register, protocol_named, held_seat}
use Rattle.at_model.specs.Due.{Reached, Expired, Over, Unanswered, Nothing, transaction_reached}
use Rattle.at_base.specs.declared.record.Seated.{Seated}
use Rattle.at_tables.specs.declared.cells.State.{State}
use Rattle.at_model.specs.Seats.{is_of, moved, prepared, seat_in}
use Rattle.at_model.specs.Arrivals.{registered}
use Rattle.std.proofs.lemmas.List.Elements.{All-from_recursion}
use Rattle.std.proofs.lemmas.Bool.{ltb-true}
use Rattle.std.proofs.Common.{length-append}
use Rattle.at_base.specs.declared.message.Create.{Create}
use Rattle.endpoints.specs.Addresses.{atomic}
use Rattle.at_model.specs.Register.{accepts, new_seat}
use Rattle.at_model.specs.Create.{create_under, create_in, on_create, refuse_create}
use Rattle.model_laws.proofs.PhaseAnswers.{then_accepts, then_room}
use Rattle.at_base.specs.IdText.{IsId}
use Rattle.at_base.specs.WellFormed.{IsEndpoint, Rises, AreSeats, IsWellFormed}
use Rattle.at_base.specs.declared.target.Target.TheVariants as targets
use Rattle.at_model.specs.Seats.{seated, set_link, link_of, link_in, is_open, completion_in}
use Rattle.at_model.specs.Abort.{without_links}
use Rattle.model_laws.proofs.ParticipantTable.{ActsAt, CellAt, table_acts}
use Rattle.model_laws.proofs.DecisionLaws.{either_of, first_true, DecisionHas, IfThere, either_has, either_change, with_answer_has, all_join}
use Rattle.model_laws.specs.BookBounds.{IsSoundMessage, IfKnown, KnowsLinks, KnowsSuperior, AreNumbered, SeatsRise, IsPastAsking, IsPastPrepare, ArePastPrepare, IsSealed, IsBounded, IsSoundTransaction}

-- seats that change their states alone
numbered_moved : (last : ℕ) (test : Enlistment → Bool) (state : State) (seats : List Enlistment) → AreNumbered last seats → AreNumbered last (moved test state seats)
numbered_moved last test state [] h = tt
numbered_moved last test state (s ∷ ss) (h, k) = (h, numbered_moved (last + 1) test state ss k)

rise_moved : (last : ℕ) (test : Enlistment → Bool) (state : State) (seats : List Enlistment) → SeatsRise last seats → SeatsRise last (moved test state seats)
rise_moved last test state [] h = tt
rise_moved last test state (s ∷ ss) (h, k) = (h, rise_moved s.number test state ss k)

participants_moved : (test : Enlistment → Bool) (state : State) (seats : List Enlistment) → AllByRecursion (λ s. IsEndpoint s.participant) seats
    → AllByRecursion (λ s. IsEndpoint s.participant) (moved test state seats)
participants_moved test state [] h = tt
participants_moved test state (s ∷ ss) (h, k) = (h, participants_moved test state ss k)

same_length : (test : Enlistment → Bool) (state : State) (seats : List Enlistment) → length (moved test state seats) ≡ length seats
same_length test state [] = refl
same_length test state (s ∷ ss) = ap suc (same_length test state ss)

most_moved : (test : Enlistment → Bool) (state : State) (seats : List Enlistment) → length seats ≤ MOST_SEATS → length (moved test state seats) ≤ MOST_SEATS
most_moved test state seats h = omega (arith, same_length test state seats, h)

pub bounds_moved : (id : Numbers) (s : Option Superior) (test : Enlistment → Bool) (state : State) (seats : List Enlistment) → IsBounded id s seats → IsBounded id s (moved test state seats)
bounds_moved id s test state seats h = record {
  own = h.own;
  known = h.known;
  most = most_moved test state seats h.most;
  participants = participants_moved test state seats h.participants;
}

bounds_under : (id : Numbers) (s x : Option Superior) (seats : List Enlistment) → IsBounded id s seats → KnowsSuperior x → IsBounded id x seats
bounds_under id s x seats h k = record { own = h.own; known = k; most = h.most; participants = h.participants }

rise_from : (last : ℕ) (seats : List Enlistment) → AreNumbered last seats → SeatsRise last seats
rise_from last [] h = tt
rise_from last (s ∷ ss) (h, k) = (omega (arith, h), subst (λ n. SeatsRise n ss) (sym h) (rise_from (last + 1) ss k))

-- the seats that a record names
rise_named : (first last : ℕ) (test : Enlistment → Bool) (seats : List Enlistment) → first ≤ last → SeatsRise last seats → Rises first (map seated (filter test seats))
rise_named first last test [] e h = tt
rise_named first last test (s ∷ ss) e (h, k) =
    either_rises (test s) first s (map seated (filter test ss)) (filter test ss) refl (omega (arith, e, h)) (rise_named s.number s.number test ss (omega arith) k)
    (rise_named first s.number test ss (omega (arith, e, h)) k)
  where
    either_rises : (b : Bool) (first : ℕ) (s : Enlistment) (named : List Seated) (rest : List Enlistment) → named ≡ map seated rest → first < s.number
        → Rises s.number (map seated rest) → Rises first (map seated rest) → Rises first (map seated (if b then s ∷ rest else rest))
    either_rises true first s named rest is e h k = (e, h)
    either_rises false first s named rest is e h k = k

named_most : (test : Enlistment → Bool) (seats : List Enlistment) → length (map seated (filter test seats)) ≤ length seats
named_most test [] = omega arith
named_most test (s ∷ ss) = either_most (test s) s ss (filter test ss) (named_most test ss)
  where
    either_most : (b : Bool) (s : Enlistment) (ss rest : List Enlistment) → length (map seated rest) ≤ length ss → length (map seated (if b then s ∷ rest else rest)) ≤ length (s ∷ ss)
    either_most true s ss rest h = omega (arith, h)
    either_most false s ss rest h = omega (arith, h)

named_least : (test : Enlistment → Bool) (seats : List Enlistment) → list_any test seats ≡ true → 1 ≤ length (map seated (filter test seats))
named_least test [] e = absurd cc
named_least test (s ∷ ss) e = either_least (test s) s (filter test ss) (λ k. named_least test ss (other_true (test s) (list_any test ss) e k))
  where
    other_true : (a b : Bool) → (a || b) ≡ true → a ≡ false → b ≡ true
    other_true true b e k = absurd cc
    other_true false b e k = e

    either_least : (b : Bool) (s : Enlistment) (rest : List Enlistment) → (b ≡ false → 1 ≤ length (map seated rest)) → 1 ≤ length (map seated (if b then s ∷ rest else rest))
    either_least true s rest h = omega arith
    either_least false s rest h = h refl

named_endpoints : (test : Enlistment → Bool) (seats : List Enlistment) → AllByRecursion (λ s. IsEndpoint s.participant) seats
    → AllByRecursion (λ s. IsEndpoint s.endpoint) (map seated (filter test seats))
named_endpoints test [] h = tt
named_endpoints test (s ∷ ss) (h, k) = either_named (test s) s (filter test ss) h (named_endpoints test ss k)
  where
    either_named : (b : Bool) (s : Enlistment) (rest : List Enlistment) → IsEndpoint s.participant → AllByRecursion (λ s. IsEndpoint s.endpoint) (map seated rest)
        → AllByRecursion (λ s. IsEndpoint s.endpoint) (map seated (if b then s ∷ rest else rest))
    either_named true s rest h k = (h, k)
    either_named false s rest h k = k

named_well : (id : Numbers) (superior : Option Superior) (seats : List Enlistment) → IsBounded id superior seats → SeatsRise 0 seats → AreSeats (prepared seats)
named_well id superior seats h k = record {
  most = omega (arith, named_most is_prepared_durable seats, h.most);
  rise = rise_named 0 0 is_prepared_durable seats (omega arith) k;
  endpoints = All-from_recursion (λ s. IsEndpoint s.endpoint) (prepared seats) (named_endpoints is_prepared_durable seats h.participants);
}

-- links
pub link_known : (kind : Kind) (state : State) (s : Superior) → KnowsLinks s → KnowsLinks (link_in kind state s)
link_known kinds.Volatile state s h = record { volatile = h.volatile; durable = h.durable }
link_known kinds.Durable state s h = record { volatile = h.volatile; durable = h.durable }

pub asked_known : (kind : Kind) (s : Superior) → KnowsLinks s → KnowsLinks (asked kind s)
asked_known kinds.Volatile s h = record { volatile = h.volatile; durable = h.durable }
asked_known kinds.Durable s h = record { volatile = h.volatile; durable = h.durable }

without_known : (s : Option Superior) → KnowsSuperior s → KnowsSuperior (without_links s)
without_known None h = tt
without_known (Some s) h = record { volatile = h.volatile; durable = h.durable }

without_past : (s : Option Superior) → ArePastPrepare (without_links s)
without_past None = tt
without_past (Some s) = (tt, tt)

set_known : (kind : Kind) (state : State) (coordinator : Epr) (s : Superior) → IsEndpoint coordinator → KnowsLinks s
    → KnowsLinks (set_link kind (record { state = state; coordinator = Some coordinator }) s)
set_known kinds.Volatile state coordinator s e h = record { volatile = e; durable = h.durable }
set_known kinds.Durable state coordinator s e h = record { volatile = h.volatile; durable = e }

-- A transaction whose seats are numbered in order.
pub record Numbered (t : Transaction) : Type 0 where
  pub bounds : IsBounded t.id t.superior t.seats
  pub order : AreNumbered 0 t.seats

abbrev pub WellFormed : Record → Option Transaction → Type 0
WellFormed r left = IsWellFormed r

abbrev pub Sound : Decision Transaction → Type 0
Sound d = DecisionHas (IfThere IsSoundTransaction) WellFormed d

either : (b : Bool) (d e : Decision Transaction) → (b ≡ true → Sound d) → (b ≡ false → Sound e) → Sound (if b then d else e)
either b d e h k = either_has (IfThere IsSoundTransaction) WellFormed b d e h k

sound : (t : Transaction) → Numbered t → IsSoundTransaction t
sound t h = record { bounds = h.bounds; numbers = inl h.order }

rolled_back : (g : Moving Transaction) → IsSoundTransaction g.item → IfThere IsSoundTransaction (until_rolled_back g).item
rolled_back g h = either_change (IfThere IsSoundTransaction) (list_any (in_state states.Aborting) g.item.seats) (stays g) (forgotten g) h tt

completed_none : (c : Option Completion) → c ≡ None → completion_in states.None c ≡ None
completed_none c e = ap (completion_in states.None) e

aborted_numbers : (phase : Phase) (s : Option Superior) (c : Option Completion) (test : Enlistment → Bool) (seats : List Enlistment) → AreNumbered 0 seats ⊎ IsSealed phase s c seats
    → AreNumbered 0 (moved test states.Aborting seats) ⊎ IsSealed Phase.Aborting (without_links s) (completion_in states.None c) (moved test states.Aborting seats)
aborted_numbers phase s c test seats (inl h) = inl (numbered_moved 0 test states.Aborting seats h)
aborted_numbers phase s c test seats (inr h) = inr (record {
  rise = rise_moved 0 test states.Aborting seats h.rise;
  past_asking = tt;
  links = without_past s;
  no_initiator = completed_none c h.no_initiator;
})

aborted : (t x : Transaction) → IsSoundTransaction t → x.id ≡ t.id → x.superior ≡ without_links t.superior → x.seats ≡ moved is_open states.Aborting t.seats → x.phase ≡ Phase.Aborting
    → x.completion ≡ completion_in states.None t.completion → IsSoundTransaction x
aborted t x h own under seats phase completion = record {
  bounds = rw (own, under, seats) (bounds_moved t.id (without_links t.superior) is_open states.Aborting t.seats
      (bounds_under t.id t.superior (without_links t.superior) t.seats h.bounds (without_known t.superior h.bounds.known)));
  numbers = rw (phase, under, completion, seats) (aborted_numbers t.phase t.superior t.completion is_open t.seats h.numbers);
}

abort_sound : (m : Moment) (reason : Reason) (g : Moving Transaction) → IsSoundTransaction g.item → IfThere IsSoundTransaction (abort m reason g).item
unfolding abort
abort_sound m reason g h = search (rolled_back, aborted g.item)

decided_sound : (m : Moment) (g : Moving Transaction) → Numbered g.item → IsSoundTransaction (decided m g).item
unfolding decided
decided_sound m g h = record {
  bounds = bounds_moved g.item.id g.item.superior (in_state states.Prepared) states.Committing g.item.seats h.bounds;
  numbers = inl (numbered_moved 0 (in_state states.Prepared) states.Committing g.item.seats h.order);
}

seats_well : (t : Transaction) → Numbered t → AreSeats (prepared t.seats)
seats_well t h = named_well t.id t.superior t.seats h.bounds (rise_from 0 t.seats h.order)

committed_sound : (m : Moment) (g : Moving Transaction) → Numbered g.item → IfThere IsSoundTransaction (committed m g).item
unfolding committed
committed_sound m g h =
    either_change (IfThere IsSoundTransaction) (list_any is_prepared_durable g.item.seats) (stays (decided m g)) (forgotten (decided m g)) (decided_sound m g h) tt

root_sound : (m : Moment) (g : Moving Transaction) → Numbered g.item → Sound (root_answered m g)
unfolding root_answered
root_sound m g h = record { entry = (h.bounds.own, seats_well g.item h); landed = committed_sound m g h; otherwise = abort_sound m Alone g (sound g.item h) }

voted_sound : (m : Moment) (s : Superior) (g : Moving Transaction) → KnowsLinks s → Numbered g.item → IsSoundTransaction (voted m s g).item
unfolding voted
voted_sound m s g k h = record {
  bounds = bounds_under g.item.id g.item.superior (Some (link_in kinds.Durable states.PreparedSuccess s)) g.item.seats h.bounds (link_known kinds.Durable states.PreparedSuccess s k);
  numbers = inl h.order;
}

sub_sound : (m : Moment) (s : Superior) (superior : Option Epr) (g : Moving Transaction) → KnowsLinks s → IfKnown superior → Numbered g.item → Sound (sub_answered m s superior g)
unfolding sub_answered
sub_sound m s None g k i h = abort_sound m Alone g (sound g.item h)
sub_sound m s (Some superior) g k i h =
    either (list_any is_prepared_durable g.item.seats) _ _
    (λ e. record { entry = (h.bounds.own, i, named_least is_prepared_durable g.item.seats e, seats_well g.item h); landed = voted_sound m s g k h; otherwise = abort_sound m Alone g (sound g.item h) }) (λ e. tt)

durable_sound : (m : Moment) (s : Option Superior) (g : Moving Transaction) → KnowsSuperior s → Numbered g.item → Sound (durable_answered m s g)
durable_sound m None g k h = root_sound m g h
durable_sound m (Some s) g k h = sub_sound m s s.durable.coordinator g k k.durable h

if_durable_sound : (m : Moment) (g : Moving Transaction) → Numbered g.item → Sound (if_durable_answered m g)
if_durable_sound m g h =
    either (answered kinds.Durable g.item.seats) _ _ (λ e. durable_sound m g.item.superior g h.bounds.known h) (λ e. sound g.item h)

asked_numbered : (t : Transaction) (test : Enlistment → Bool) (seats : List Enlistment) → IsBounded t.id t.superior seats → AreNumbered 0 seats → t.seats ≡ moved test states.Preparing seats → Numbered t
asked_numbered t test seats h k e = record {
  bounds = rw e (bounds_moved t.id t.superior test states.Preparing seats h);
  order = rw e (numbered_moved 0 test states.Preparing seats k);
}

go_durable_sound : (m : Moment) (g : Moving Transaction) → Numbered g.item → Sound (go_durable m g)
unfolding go_durable
go_durable_sound m g h =
    if_durable_sound m (prepare_seats m kinds.Durable (become (in_phase Phase.Durable g.item) g))
    (asked_numbered (prepare_seats m kinds.Durable (become (in_phase Phase.Durable g.item) g)).item (is_of kinds.Durable states.Active) g.item.seats h.bounds h.order refl)

volatile_sound : (m : Moment) (s : Option Superior) (g : Moving Transaction) → KnowsSuperior s → Numbered g.item → Sound (volatile_answered m s g)
unfolding volatile_answered
volatile_sound m None g k h = go_durable_sound m g h
volatile_sound m (Some s) g k h =
    either (is_state s.volatile.state states.Preparing) _ _
    (λ e. record {
      bounds = bounds_under g.item.id g.item.superior (Some (link_in kinds.Volatile states.None s)) g.item.seats h.bounds (link_known kinds.Volatile states.None s k);
      numbers = inl h.order;
    })
    (λ e. either (is_state s.durable.state states.Preparing) _ _ (λ f. go_durable_sound m g h) (λ f. sound g.item h))

all_committed_sound : (m : Moment) (g : Moving Transaction) → IsId g.item.id → Sound (all_committed m g)
unfolding all_committed
all_committed_sound m g h = record { entry = h; landed = tt; otherwise = tt }

-- before it is past asking, a transaction's seats are numbered in order
still_numbered : (t : Transaction) (phase : Phase) → t.phase ≡ phase → (IsPastAsking phase → ⊥) → IsBounded t.id t.superior t.seats
    → AreNumbered 0 t.seats ⊎ IsSealed t.phase t.superior t.completion t.seats → Numbered t
still_numbered t phase e f h (inl k) = record { bounds = h; order = k }
still_numbered t phase e f h (inr k) = absurd (f (subst IsPastAsking e k.past_asking))

advance_in_sound : (m : Moment) (phase : Phase) (g : Moving Transaction) → g.item.phase ≡ phase → IsSoundTransaction g.item → Sound (advance_in m phase g)
unfolding advance_in
advance_in_sound m Phase.Registering g e h = h
advance_in_sound m Phase.Active g e h = h
advance_in_sound m Phase.Volatile g e h =
    either (answered kinds.Volatile g.item.seats) _ _
    (λ k. volatile_sound m g.item.superior g h.bounds.known (still_numbered g.item Phase.Volatile e (λ x. x) h.bounds h.numbers)) (λ k. h)
advance_in_sound m Phase.Durable g e h = if_durable_sound m g (still_numbered g.item Phase.Durable e (λ x. x) h.bounds h.numbers)
advance_in_sound m Phase.Voted g e h = h
advance_in_sound m Phase.Committing g e h = either (all_left g.item.seats) _ _ (λ k. all_committed_sound m g h.bounds.own) (λ k. h)
advance_in_sound m Phase.Aborting g e h = rolled_back g h

go_volatile_sound : (m : Moment) (g : Moving Transaction) → Numbered g.item → Sound (go_volatile m g)
unfolding go_volatile
go_volatile_sound m g h =
    advance_in_sound m Phase.Volatile (prepare_seats m kinds.Volatile (become (in_phase Phase.Volatile g.item) g)) refl
    (sound (prepare_seats m kinds.Volatile (become (in_phase Phase.Volatile g.item) g)).item
    (asked_numbered (prepare_seats m kinds.Volatile (become (in_phase Phase.Volatile g.item) g)).item (is_of kinds.Volatile states.Active) g.item.seats h.bounds h.order refl))

-- a seat that has answered or left
seat_numbers : (phase : Phase) (s : Option Superior) (c : Option Completion) (test : Enlistment → Bool) (state : State) (seats : List Enlistment)
    → AreNumbered 0 seats ⊎ IsSealed phase s c seats → AreNumbered 0 (moved test state seats) ⊎ IsSealed phase s c (moved test state seats)
seat_numbers phase s c test state seats (inl h) = inl (numbered_moved 0 test state seats h)
seat_numbers phase s c test state seats (inr h) = inr (record {
  rise = rise_moved 0 test state seats h.rise;
  past_asking = h.past_asking;
  links = h.links;
  no_initiator = h.no_initiator;
})

seat_sound_in : (number : ℕ) (state : State) (t : Transaction) → IsSoundTransaction t → IsSoundTransaction (seat_in number state t)
seat_sound_in number state t h = record {
  bounds = bounds_moved t.id t.superior (λ s. nat_eq s.number number) state t.seats h.bounds;
  numbers = seat_numbers t.phase t.superior t.completion (λ s. nat_eq s.number number) state t.seats h.numbers;
}

seat_advances : (m : Moment) (number : ℕ) (state : State) (t : Transaction) → IsSoundTransaction t → Sound (advance m (begin (seat_in number state t)))
seat_advances m number state t h = advance_in_sound m t.phase (begin (seat_in number state t)) refl (seat_sound_in number state t h)

seat_aborts : (m : Moment) (number : ℕ) (state : State) (t : Transaction) → IsSoundTransaction t → IfThere IsSoundTransaction (abort m Alone (begin (seat_in number state t))).item
seat_aborts m number state t h = abort_sound m Alone (begin (seat_in number state t)) (seat_sound_in number state t h)

-- a subordinate that is told to commit
past_volatile : (s : Option Superior) (x : Superior) → s ≡ Some x → ArePastPrepare s → IsPastPrepare x.volatile.state
past_volatile s x e h = let k : ArePastPrepare (Some x) = subst ArePastPrepare e h in k.0

known_superior : (s : Option Superior) (x : Superior) → s ≡ Some x → KnowsSuperior s → KnowsLinks x
known_superior s x e h = subst KnowsSuperior e h

commit_numbers : (s : Superior) (t : Transaction) → t.superior ≡ Some s → AreNumbered 0 t.seats ⊎ IsSealed t.phase t.superior t.completion t.seats
    → AreNumbered 0 (moved (in_state states.Prepared) states.Committing t.seats)
    ⊎ IsSealed Phase.Committing (Some (link_in kinds.Durable states.Committing s)) t.completion (moved (in_state states.Prepared) states.Committing t.seats)
commit_numbers s t e (inl h) = inl (numbered_moved 0 (in_state states.Prepared) states.Committing t.seats h)
commit_numbers s t e (inr h) = inr (record {
  rise = rise_moved 0 (in_state states.Prepared) states.Committing t.seats h.rise;
  past_asking = tt;
  links = (past_volatile t.superior s e h.links, tt);
  no_initiator = h.no_initiator;
})

commit_sound : (m : Moment) (s : Superior) (t : Transaction) → t.superior ≡ Some s → IsSoundTransaction t → Sound (commit_voted m s t)
unfolding commit_voted
commit_sound m s t e h = record {
  entry = h.bounds.own;
  landed = record {
    bounds = bounds_moved t.id (Some (link_in kinds.Durable states.Committing s)) (in_state states.Prepared) states.Committing t.seats
        (bounds_under t.id t.superior (Some (link_in kinds.Durable states.Committing s)) t.seats h.bounds
        (link_known kinds.Durable states.Committing s (known_superior t.superior s e h.bounds.known)));
    numbers = commit_numbers s t e h.numbers;
  };
  otherwise = tt;
}

ruleset sound_moves = (either, abort_sound, seat_advances, seat_aborts)

seat_act_sound : (m : Moment) (i : Option (List ℕ)) (t : Transaction) (s : Enlistment) (act : Act) → IsSoundTransaction t → Sound (seat_act m i t s act)
unfolding seat_act
seat_act_sound m i t s acts.Ignore h = search sound_moves
seat_act_sound m i t s acts.SendPrepared h = search sound_moves
seat_act_sound m i t s acts.SendCommit h = search sound_moves
seat_act_sound m i t s acts.SendRollback h = search sound_moves
seat_act_sound m i t s acts.SendCommitted h = search sound_moves
seat_act_sound m i t s acts.SendAborted h = search sound_moves
seat_act_sound m i t s acts.FaultUnknownTransaction h = search sound_moves
seat_act_sound m i t s acts.FaultInvalidState h = search sound_moves
seat_act_sound m i t s acts.FaultInvalidStateAndAbort h = search sound_moves
seat_act_sound m i t s acts.Leave h = search sound_moves
seat_act_sound m i t s acts.LeaveAndAbort h = search sound_moves
seat_act_sound m i t s acts.Vote h = search sound_moves
seat_act_sound m i t s acts.Gather h = search sound_moves
seat_act_sound m i t s acts.Commit h = search sound_moves
seat_act_sound m i t s acts.AbortAndSendAborted h = search sound_moves
seat_act_sound m i t s acts.RecordAndSendAborted h = search sound_moves
seat_act_sound m i t s acts.Complete h = search sound_moves
seat_act_sound m i t s acts.TellCommitted h = search sound_moves
seat_act_sound m i t s acts.TellAborted h = search sound_moves

seat_notice_sound : (m : Moment) (i : Option (List ℕ)) (t : Transaction) (s : Enlistment) (c : Option Cell) → IsSoundTransaction t → Sound (seat_notice m i t s c)
unfolding seat_notice
seat_notice_sound m i t s None h = h
seat_notice_sound m i t s (Some c) h = seat_act_sound m i t s c.act h

pub seat_sound : (m : Moment) (a : Arrived) (t : Transaction) (s : Enlistment) (x : Message) → IsSoundTransaction t → Sound (on_seat m a t s x)
unfolding on_seat
seat_sound m a t s (messages.Notice n) h = seat_notice_sound m a.id t s (coordinator_of s.kind s.state n) h
seat_sound m a t s other h = h

-- the table asks for votes only on a link where Prepare is waited for
abbrev IsNoGather : Act → Type 0
IsNoGather acts.Gather = ⊥
IsNoGather other = Unit {0}

abbrev HasNoGather : Option Cell → Type 0
HasNoGather None = Unit {0}
HasNoGather (Some c) = IsNoGather c.act

past_active : (state : State) → state ≡ states.Active → IsPastPrepare state → ⊥
past_active state e h = subst IsPastPrepare e h

no_gather : (state : State) (act : Act) → IsPastPrepare state → ActsAt state act → IsNoGather act
no_gather state acts.Gather h k = past_active state k h
no_gather state other h k = tt

no_cell_gathers : (state : State) (c : Option Cell) → IsPastPrepare state → CellAt state c → HasNoGather c
no_cell_gathers state None h k = tt
no_cell_gathers state (Some c) h k = no_gather state c.act h k

not_asked : (kind : Kind) (state : State) (n : Notice) → IsPastPrepare state → HasNoGather (participant_of kind state n)
not_asked kind state n h = no_cell_gathers state (participant_of kind state n) h (table_acts kind state n)

abbrev IfGather : Type 0 → Act → Type 0
IfGather P acts.Gather = P
IfGather P other = Unit {0}

abbrev IfCellGathers : Type 0 → Option Cell → Type 0
IfCellGathers P None = Unit {0}
IfCellGathers P (Some c) = IfGather P c.act

given : (P : Type 0) (act : Act) → P → IfGather P act
given P acts.Gather h = h
given P other h = tt

not_given : (P : Type 0) (act : Act) → IsNoGather act → IfGather P act
not_given P acts.Gather h = absurd h
not_given P other h = tt

cell_given : (P : Type 0) (c : Option Cell) → P → IfCellGathers P c
cell_given P None h = tt
cell_given P (Some c) h = given P c.act h

cell_not_given : (P : Type 0) (c : Option Cell) → HasNoGather c → IfCellGathers P c
cell_not_given P None h = tt
cell_not_given P (Some c) h = not_given P c.act h

past_link : (kind : Kind) (s : Superior) → ArePastPrepare (Some s) → IsPastPrepare (link_of kind s).state
past_link kinds.Volatile s h = h.0
past_link kinds.Durable s h = h.1

gathers : (t : Transaction) (kind : Kind) (s : Superior) (n : Notice) → t.superior ≡ Some s → AreNumbered 0 t.seats ⊎ IsSealed t.phase t.superior t.completion t.seats
    → IfCellGathers (AreNumbered 0 t.seats) (participant_of kind (link_of kind s).state n)
gathers t kind s n e (inl h) = cell_given (AreNumbered 0 t.seats) (participant_of kind (link_of kind s).state n) h
gathers t kind s n e (inr h) =
    cell_not_given (AreNumbered 0 t.seats) (participant_of kind (link_of kind s).state n)
    (not_asked kind (link_of kind s).state n (past_link kind s (subst ArePastPrepare e h.links)))

asked_sound : (kind : Kind) (s : Superior) (t : Transaction) → t.superior ≡ Some s → IsSoundTransaction t → AreNumbered 0 t.seats → Numbered (under (asked kind s) t)
asked_sound kind s t e h k = record {
  bounds = bounds_under t.id t.superior (Some (asked kind s)) t.seats h.bounds (asked_known kind s (known_superior t.superior s e h.bounds.known));
  order = k;
}

link_act_sound : (m : Moment) (from : Option Epr) (i : Option (List ℕ)) (kind : Kind) (s : Superior) (t : Transaction) (act : Act) → t.superior ≡ Some s → IsSoundTransaction t
    → IfGather (AreNumbered 0 t.seats) act → Sound (link_act m from i kind s t act)
unfolding link_act
link_act_sound m from i kind s t acts.Ignore e h k = search sound_moves
link_act_sound m from i kind s t acts.SendPrepared e h k = search sound_moves
link_act_sound m from i kind s t acts.SendCommit e h k = search sound_moves
link_act_sound m from i kind s t acts.SendRollback e h k = search sound_moves
link_act_sound m from i kind s t acts.SendCommitted e h k = search sound_moves
link_act_sound m from i kind s t acts.SendAborted e h k = search sound_moves
link_act_sound m from i kind s t acts.FaultUnknownTransaction e h k = search sound_moves
link_act_sound m from i kind s t acts.FaultInvalidState e h k = search sound_moves
link_act_sound m from i kind s t acts.FaultInvalidStateAndAbort e h k = search sound_moves
link_act_sound m from i kind s t acts.Leave e h k = search sound_moves
link_act_sound m from i kind s t acts.LeaveAndAbort e h k = search sound_moves
link_act_sound m from i kind s t acts.Vote e h k = search sound_moves
link_act_sound m from i kind s t acts.Gather e h k = go_volatile_sound m (begin (under (asked kind s) t)) (asked_sound kind s t e h k)
link_act_sound m from i kind s t acts.Commit e h k = commit_sound m s t e h
link_act_sound m from i kind s t acts.AbortAndSendAborted e h k = search sound_moves
link_act_sound m from i kind s t acts.RecordAndSendAborted e h k = record { entry = h.bounds.own; landed = abort_sound m (Asked kind from) (begin t) h; otherwise = tt }
link_act_sound m from i kind s t acts.Complete e h k = search sound_moves
link_act_sound m from i kind s t acts.TellCommitted e h k = search sound_moves
link_act_sound m from i kind s t acts.TellAborted e h k = search sound_moves

link_notice_sound : (m : Moment) (from : Option Epr) (i : Option (List ℕ)) (kind : Kind) (s : Superior) (t : Transaction) (c : Option Cell) → t.superior ≡ Some s → IsSoundTransaction t
    → IfCellGathers (AreNumbered 0 t.seats) c → Sound (link_notice m from i kind s t c)
unfolding link_notice
link_notice_sound m from i kind s t None e h k = h
link_notice_sound m from i kind s t (Some c) e h k = link_act_sound m from i kind s t c.act e h k

not_registering : (state : State) → IsPastPrepare state → is_state state states.Registering ≡ true → ⊥
not_registering states.None h e = absurd cc
not_registering states.PreparedSuccess h e = absurd cc
not_registering states.Committing h e = absurd cc
not_registering other h e = absurd h

still_registering : (kind : Kind) (s : Superior) (t : Transaction) → t.superior ≡ Some s → is_state (link_of kind s).state states.Registering ≡ true
    → AreNumbered 0 t.seats ⊎ IsSealed t.phase t.superior t.completion t.seats → AreNumbered 0 t.seats
still_registering kind s t e r (inl h) = h
still_registering kind s t e r (inr h) = absurd (not_registering (link_of kind s).state (past_link kind s (subst ArePastPrepare e h.links)) r)

now_registered : (m : Moment) (coordinator : Epr) (kind : Kind) (s : Superior) (t : Transaction) → IsEndpoint coordinator → t.superior ≡ Some s → IsSoundTransaction t
    → is_state (link_of kind s).state states.Registering ≡ true
    → let after : Superior = set_link kind (record { state = states.Active; coordinator = Some coordinator }) s in
    IsSoundTransaction (record t { superior = Some after; phase = registered after t.phase })
now_registered m coordinator kind s t w e h r = record {
  bounds = bounds_under t.id t.superior (Some (set_link kind (record { state = states.Active; coordinator = Some coordinator }) s)) t.seats h.bounds
      (set_known kind states.Active coordinator s w (known_superior t.superior s e h.bounds.known));
  numbers = inl (still_registering kind s t e r h.numbers);
}

link_registered_sound : (m : Moment) (relates : Option (List ℕ)) (coordinator : Epr) (kind : Kind) (s : Superior) (t : Transaction) → IsEndpoint coordinator → t.superior ≡ Some s
    → IsSoundTransaction t → Sound (link_registered m relates coordinator kind s t)
unfolding link_registered
link_registered_sound m relates coordinator kind s t w e h =
    let after : Superior = set_link kind (record { state = states.Active; coordinator = Some coordinator }) s in
    let waits : Bool = is_state (link_of kind s).state states.Registering in
    let answers : Bool = relates_to relates (register_id m.base (targets.Participant t.id kind)) in
    either (waits && answers) (Goes (stays (begin (record t { superior = Some after; phase = registered after t.phase })))) (ignored t)
    (λ k. now_registered m coordinator kind s t w e h (first_true waits answers k)) (λ k. h)

link_fault_sound : (m : Moment) (relates : Option (List ℕ)) (kind : Kind) (s : Superior) (t : Transaction) → IsSoundTransaction t → Sound (link_fault m relates kind s t)
unfolding link_fault
link_fault_sound m relates kind s t h = search (either, abort_sound)

pub link_sound : (m : Moment) (a : Arrived) (kind : Kind) (t : Transaction) (s : Superior) (x : Message) → IsSoundMessage x → t.superior ≡ Some s → IsSoundTransaction t → Sound (on_link m a kind t s x)
unfolding on_link
link_sound m a kind t s (messages.Notice n) w e h =
    link_notice_sound m a.from a.id kind s t (participant_of kind (link_of kind s).state n) e h (gathers t kind s n e h.numbers)
link_sound m a kind t s (messages.RegisterResponse coordinator) w e h = link_registered_sound m a.relates coordinator kind s t w e h
link_sound m a kind t s (messages.Fault name) w e h = link_fault_sound m a.relates kind s t h
link_sound m a kind t s other w e h = h

with_initiator : (t : Transaction) (c : Completion) → t.completion ≡ Some c → AreNumbered 0 t.seats ⊎ IsSealed t.phase t.superior t.completion t.seats → AreNumbered 0 t.seats
with_initiator t c e (inl h) = h
with_initiator t c e (inr h) = let f : t.completion ≡ None = h.no_initiator in absurd cc

completion_act_sound : (m : Moment) (from : Option Epr) (i : Option (List ℕ)) (c : Completion) (t : Transaction) (act : Act) → t.completion ≡ Some c → IsSoundTransaction t → Sound (completion_act m from i c t act)
unfolding completion_act
completion_act_sound m from i c t acts.SendCommitted e h = h
completion_act_sound m from i c t acts.FaultUnknownTransaction e h = h
completion_act_sound m from i c t acts.FaultInvalidState e h = h
completion_act_sound m from i c t acts.Complete e h =
    go_volatile_sound m (begin (record t { completion = Some (record c { state = states.Completing }) })) (record { bounds = h.bounds; order = with_initiator t c e h.numbers })
completion_act_sound m from i c t acts.AbortAndSendAborted e h = abort_sound m Alone (begin t) h
completion_act_sound m from i c t other e h = h

completion_notice_sound : (m : Moment) (from : Option Epr) (i : Option (List ℕ)) (c : Completion) (t : Transaction) (cell : Option Cell) → t.completion ≡ Some c → IsSoundTransaction t → Sound (completion_notice m from i c t cell)
unfolding completion_notice
completion_notice_sound m from i c t None e h = h
completion_notice_sound m from i c t (Some cell) e h = completion_act_sound m from i c t cell.act e h

pub completion_sound : (m : Moment) (a : Arrived) (t : Transaction) (c : Completion) (x : Message) → t.completion ≡ Some c → IsSoundTransaction t → Sound (on_completion m a t c x)
unfolding on_completion
completion_sound m a t c (messages.Notice n) e h = completion_notice_sound m a.from a.id c t (completion_of c.state n) e h
completion_sound m a t c other e h = h

pub due_sound : (m : Moment) (t : Transaction) (reached : Reached) → IsSoundTransaction t → Sound (transaction_reached m t reached)
unfolding transaction_reached
due_sound m t Expired h = abort_sound m Alone (begin t) h
due_sound m t Over h = tt
due_sound m t Unanswered h = record { bounds = h.bounds; numbers = h.numbers }
due_sound m t Nothing h = h

-- the answer to a request
unrequested_known : (s : Option Superior) (x : Superior) → s ≡ Some x → KnowsSuperior s → KnowsLinks (request_answered x)
unrequested_known s x e h = let k : KnowsLinks x = known_superior s x e h in record { volatile = k.volatile; durable = k.durable }

unrequested_numbers : (phase : Phase) (s : Option Superior) (x : Superior) (c : Option Completion) (seats : List Enlistment) → s ≡ Some x → AreNumbered 0 seats ⊎ IsSealed phase s c seats
    → AreNumbered 0 seats ⊎ IsSealed phase (Some (request_answered x)) c seats
unrequested_numbers phase s x c seats e (inl h) = inl h
unrequested_numbers phase s x c seats e (inr h) =
    let k : ArePastPrepare (Some x) = subst ArePastPrepare e h.links in
    inr (record { rise = h.rise; past_asking = h.past_asking; links = (k.0, k.1); no_initiator = h.no_initiator })

unrequested_sound : (s : Superior) (t : Transaction) → t.superior ≡ Some s → IsSoundTransaction t → IsSoundTransaction (under (request_answered s) t)
unrequested_sound s t e h = record {
  bounds = bounds_under t.id t.superior (Some (request_answered s)) t.seats h.bounds (unrequested_known t.superior s e h.bounds.known);
  numbers = unrequested_numbers t.phase t.superior s t.completion t.seats e h.numbers;
}

pub with_answer_sound : (m : Moment) (t : Transaction) (d : Decision Transaction) → Sound d → Sound (with_answer m t d)
with_answer_sound m t d h = with_answer_has (IfThere IsSoundTransaction) WellFormed unrequested_sound (λ r s x e k. k) m t d h

-- registration
numbered_behind : (last : ℕ) (seats : List Enlistment) (s : Enlistment) → AreNumbered last seats → s.number ≡ last + length seats + 1 → AreNumbered last (seats ++ s ∷ [])
numbered_behind last [] s h e = (omega (arith, e), tt)
numbered_behind last (x ∷ xs) s (h, k) e = (h, numbered_behind (last + 1) xs s k (omega (arith, e)))

participants_behind : (seats : List Enlistment) (s : Enlistment) → AllByRecursion (λ x. IsEndpoint x.participant) seats → IsEndpoint s.participant
    → AllByRecursion (λ x. IsEndpoint x.participant) (seats ++ s ∷ [])
participants_behind seats s h k = all_join (λ x. IsEndpoint x.participant) seats (s ∷ []) h (k, tt)

room_for : (seats : List Enlistment) (s : Enlistment) → nat_lt (length seats) MOST_SEATS ≡ true → length (seats ++ s ∷ []) ≤ MOST_SEATS
room_for seats s e = omega (arith, ltb-true (length seats) MOST_SEATS e, length-append seats (s ∷ []))

accepting : (phase : Phase) → accepts phase ≡ true → IsPastAsking phase → ⊥
accepting Phase.Registering e h = h
accepting Phase.Active e h = h
accepting Phase.Volatile e h = h
accepting Phase.Durable e h = h
accepting Phase.Voted e h = absurd cc
accepting Phase.Committing e h = absurd cc
accepting Phase.Aborting e h = absurd cc

accept_sound : (m : Moment) (a : Arrived) (t : Transaction) (participant : Epr) (kind : Option Kind) → IsEndpoint participant → may_register t kind ≡ true → IsSoundTransaction t
    → IsSoundTransaction (accept m a t participant kind).transaction
unfolding accept
accept_sound m a t participant (Some kind) w e h =
    let n : Numbered t = still_numbered t t.phase refl (accepting t.phase (then_accepts t (Some kind) e)) h.bounds h.numbers in
    record {
      bounds = record {
        own = h.bounds.own;
        known = h.bounds.known;
        most = room_for t.seats (new_seat t participant kind) (then_room t (Some kind) e);
        participants = participants_behind t.seats (new_seat t participant kind) h.bounds.participants w;
      };
      numbers = inl (numbered_behind 0 t.seats (new_seat t participant kind) n.order (omega arith));
    }
accept_sound m a t participant None w e h =
    let n : Numbered t = still_numbered t t.phase refl (accepting t.phase (then_accepts t None e)) h.bounds h.numbers in
    record { bounds = h.bounds; numbers = inl n.order }

register_new_sound : (m : Moment) (a : Arrived) (r : Register) (t : Transaction) (kind : Option (Option Kind)) → IsEndpoint r.participant → IsSoundTransaction t
    → IsSoundTransaction (register_new m a r t kind).transaction
unfolding register_new
register_new_sound m a r t None w h = h
register_new_sound m a r t (Some kind) w h =
    either_of (λ (x : Registration). IsSoundTransaction x.transaction) (not a.postable) _ _ (λ e. h)
    (λ e. either_of (λ (x : Registration). IsSoundTransaction x.transaction) (may_register t kind) _ _ (λ f. accept_sound m a t r.participant kind w f h) (λ f. h))

register_again_sound : (m : Moment) (a : Arrived) (r : Register) (t : Transaction) (kind : Option (Option Kind)) (held : Option Epr) → IsEndpoint r.participant → IsSoundTransaction t
    → IsSoundTransaction (register_again m a r t kind held).transaction
unfolding register_again
register_again_sound m a r t kind (Some coordinator) w h = h
register_again_sound m a r t kind None w h = register_new_sound m a r t kind w h

pub register_sound : (m : Moment) (a : Arrived) (r : Register) (t : Transaction) → IsEndpoint r.participant → IsSoundTransaction t → IsSoundTransaction (on_register m a r t).transaction
unfolding on_register
register_sound m a r t w h = register_again_sound m a r t (protocol_named r.protocol) (held_seat m r t (protocol_named r.protocol)) w h

-- what is made
under_sound : (m : Moment) (id : Numbers) (a : Arrived) (c : Create) (current : Context) (r : Reply) → IsId id → IfThere IsSoundTransaction (create_under m id a c current r).transaction
unfolding create_under
under_sound m id a c current (replies.At reply) h = record {
  bounds = record { own = h; known = record { volatile = tt; durable = tt }; most = omega arith; participants = tt };
  numbers = inl tt;
}
under_sound m id a c current replies.Anonymous h = tt
under_sound m id a c current replies.Nobody h = tt

in_sound : (m : Moment) (id : Numbers) (a : Arrived) (c : Create) (current : Option Context) → IsId id → IfThere IsSoundTransaction (create_in m id a c current).transaction
unfolding create_in
in_sound m id a c None h = record { bounds = record { own = h; known = tt; most = omega arith; participants = tt }; numbers = inl tt }
in_sound m id a c (Some current) h = under_sound m id a c current a.reply h

pub created_sound : (m : Moment) (live : ℕ) (a : Arrived) (c : Create) (id : Numbers) (t : Transaction) → IsId id → (on_create m live a c (Some id)).transaction ≡ Some t → IsSoundTransaction t
unfolding on_create
created_sound m live a c id t h e =
    subst (IfThere IsSoundTransaction) e
    (either_of (λ x. IfThere IsSoundTransaction x.transaction) (bytes_eq c.coordination atomic && nat_lt live MOST_ITEMS) (create_in m id a c c.current) (refuse_create a) (λ k. (in_sound m id a c c.current h)) (λ k. tt))
