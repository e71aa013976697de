-- A step of a sound book makes a well-formed record and leaves a sound book; so does a start.
use Rattle.std.specs.Prelude.{ℕ, List, [], ◌∷◌, Option, Some, None, Bool, true, false, ◌&&◌, nat_lt, if◌then◌else◌, ◌+◌, length, map, ◌≡◌, ◌≤◌, ◌<◌, refl}
use Rattle.std.specs.List.{list_any, AllByRecursion}
use Rattle.std.proofs.Common.{sym, subst, ap, arith, inr, suc, ◌∙◌}
use Rattle.std.proofs.lemmas.Bool.{ltb-true}
use Rattle.std.proofs.lemmas.List.Elements.{recursion_from_All}
use Rattle.at_base.specs.Numbers.{Numbers}
use Rattle.at_base.specs.IdText.{IsId}
use Rattle.at_base.specs.WellFormed.{IsEndpoint, IsField, Rises, AreSeats, IsWellFormed}
use Rattle.at_base.specs.declared.epr.Epr.{Epr}
use Rattle.at_base.specs.declared.message.Message.TheVariants as messages
use Rattle.at_base.specs.declared.message.Register.{Register}
use Rattle.at_base.specs.declared.message.Work.{Work}
use Rattle.at_base.specs.declared.record.Seated.{Seated}
use Rattle.at_base.specs.declared.record.Record.{Record}
use Rattle.at_base.specs.declared.record.Record.TheVariants as records
use Rattle.at_base.specs.declared.event.Arrived.{Arrived}
use Rattle.at_base.specs.declared.event.Event.{Event}
use Rattle.at_base.specs.declared.event.Event.TheVariants as events
use Rattle.at_tables.specs.declared.cells.State.{State}
use Rattle.at_tables.specs.declared.cells.State.TheVariants as states
use Rattle.at_base.specs.declared.limits.TheConstants.{MOST_SEATS}
use Rattle.at_model.specs.Posts.{accepted}
use Rattle.at_model.specs.Outcomes.{noted}
use Rattle.at_model.specs.Book.{Book, Transaction, Leaf, transaction_id, leaf_id, next_id, last_counter}
use Rattle.at_model.specs.Moves.{Decision}
use Rattle.at_model.specs.Arrivals.{with_answer}
use Rattle.at_model.specs.Register.{on_register}
use Rattle.at_model.specs.Step.{Outcome, Plan, still, at_time, moment_of, put_transaction, put_leaf, put_activity, make_transaction, make_leaf, make_activity, registration_outcome, plan, step}
use Rattle.at_model.specs.Recovery.{live, is_sub_committed, transactions_of, leaves_of, recovered_seat, recovered_voted, recovered_decided, recover, last_incarnation}
use Rattle.model_laws.specs.DrawnIds.{restarted, Life, LifeEvent, Stepped, Stopped, Started, newborn, with_entry, live_through, life_of}
use Rattle.model_laws.specs.BookBounds.{IsSoundMessage, IsSoundEvent, SeatsRise, IsSoundTransaction, IsSoundLeaf, IsSound, AreSoundEvents, RecordsAreWellFormed}
use Rattle.model_laws.specs.Shapes.{MovesTransaction, MovesLeaf, Shape, at_seat, at_link, at_completion, when_due, at_leaf, leaf_when_due, nothing_moves, time_moves, time_passes, transaction_moves, leaf_moves, activity_moves, transaction_registers, transaction_made, leaf_made, activity_made}
use Rattle.model_laws.proofs.DecisionLaws.{second_true, Both, in_branch, plain_both, decision_both, IfThere, decided_both, decided_entry, all_find, all_put, all_join, StaysOn}
use Rattle.model_laws.proofs.ItemIds.{HasBoth, NoRecord}
use Rattle.model_laws.proofs.DrawnItems.{activity_moved_kept}
use Rattle.model_laws.proofs.DrawnIds.{all_live, all_in_order, no_entry}
use Rattle.model_laws.proofs.NextIds.{next_numbers}
use Rattle.model_laws.proofs.TransactionBounds.{WellFormed, Sound, seat_sound, link_sound, completion_sound, due_sound, with_answer_sound, register_sound, created_sound}
use Rattle.model_laws.proofs.LeafBounds.{LeafWell, SoundLeaf, leaf_sound, leaf_due_sound, employed_sound}
use Rattle.model_laws.proofs.StepShapes.{steps_touch_one}
use Rattle.model_laws.proofs.RecoveryLaws.{incarnations_rise}

-- what a sound event says
arrived_sound : (e : Event) (a : Arrived) → IsSoundEvent e → e ≡ events.Arrived a → IsSoundMessage a.message
arrived_sound e a h came = subst IsSoundEvent came h

register_bounds : (e : Event) (a : Arrived) (r : Register) → IsSoundEvent e → e ≡ events.Arrived a → a.message ≡ messages.Register r → IsEndpoint r.participant
register_bounds e a r h came says = subst IsSoundMessage says (arrived_sound e a h came)

work_bounds : (e : Event) (a : Arrived) (w : Work) → IsSoundEvent e → e ≡ events.Arrived a → a.message ≡ messages.Work w → IsField w.key × IsField w.value
work_bounds e a w h came says = subst IsSoundMessage says (arrived_sound e a h came)

-- the next id
next_test : (b : Bool) (n id : Numbers) → (if b then Some n else None) ≡ Some id → b ≡ true
next_test true n id e = refl
next_test false n id e = absurd cc

next_sound : (b : Book) (id : Numbers) → IsSound b → next_id b ≡ Some id → IsId id
next_sound b id h e =
    let (i, c) = next_numbers b id e in
    let n : Numbers = record { incarnation = b.incarnation; counter = b.counter + 1 } in
    let most : b.counter < last_counter = ltb-true b.counter last_counter (next_test (nat_lt b.counter last_counter) n id e) in
    record {
      incarnation_least = omega (arith, i, h.incarnation_least);
      incarnation_most = omega (arith, i, h.incarnation_most);
      counter_least = omega (arith, c);
      counter_most = omega (arith, c, most);
    }

-- each way to move
moved_sound : (b : Book) (e : Event) (now : ℕ) (t : Transaction) (d : Decision Transaction) → IsSoundEvent e → IsSoundTransaction t → MovesTransaction b e now t d
    → Sound (with_answer (moment_of b now) t d)
moved_sound b e now t d w h (at_seat a s came why is) =
    with_answer_sound (moment_of b now) t d (subst Sound (sym is) (seat_sound (moment_of b now) a t s a.message h))
moved_sound b e now t d w h (at_link a kind s came why under is) =
    with_answer_sound (moment_of b now) t d (subst Sound (sym is) (link_sound (moment_of b now) a kind t s a.message (arrived_sound e a w came) under h))
moved_sound b e now t d w h (at_completion a c came why there is) =
    with_answer_sound (moment_of b now) t d (subst Sound (sym is) (completion_sound (moment_of b now) a t c a.message there h))
moved_sound b e now t d w h (when_due came is) =
    with_answer_sound (moment_of b now) t d (subst Sound (sym is) (due_sound (moment_of b now) t _ h))

leaf_moved_sound : (b : Book) (e : Event) (now : ℕ) (l : Leaf) (d : Decision Leaf) → IsSoundEvent e → IsSoundLeaf l → MovesLeaf b e now l d → SoundLeaf d
leaf_moved_sound b e now l d w h (at_leaf a came why is) = subst SoundLeaf (sym is) (leaf_sound (moment_of b now) a l a.message (arrived_sound e a w came) h)
leaf_moved_sound b e now l d w h (leaf_when_due came is) = subst SoundLeaf (sym is) (leaf_due_sound (moment_of b now) l _ h)

-- a step
with_transactions : (b c : Book) → IsSound b → c.incarnation ≡ b.incarnation → AllByRecursion IsSoundTransaction c.transactions → AllByRecursion IsSoundLeaf c.leaves → IsSound c
with_transactions b c h e ts ls = record {
  incarnation_least = omega (arith, e, h.incarnation_least);
  incarnation_most = omega (arith, e, h.incarnation_most);
  transactions = ts;
  leaves = ls;
}

IsSoundAfter : Outcome → Type 0
IsSoundAfter o = IsSound o.book

sound_on : StaysOn IsSoundAfter
unfolding IsSoundAfter
sound_on r o h = with_transactions o.book (noted r o.book) h refl h.transactions h.leaves

sound_both : (b : Book) (e : Event) (now : ℕ) (p : Plan) → IsSound b → IsSoundEvent e → Shape b e now p → Both IsSoundAfter p
unfolding IsSoundAfter
sound_both b e now p h w (nothing_moves f) = subst (Both IsSoundAfter) (sym f) (plain_both IsSoundAfter (still b []) h)
sound_both b e now p h w (time_moves a os came why o f) =
    subst (Both IsSoundAfter) (sym f) (plain_both IsSoundAfter (still (at_time now b) os) (with_transactions b (at_time now b) h refl h.transactions h.leaves))
sound_both b e now p h w (time_passes came f) =
    subst (Both IsSoundAfter) (sym f) (plain_both IsSoundAfter (still (at_time now b) accepted) (with_transactions b (at_time now b) h refl h.transactions h.leaves))
sound_both b e now p h w (transaction_moves id t answer d stands how o f) =
    subst (Both IsSoundAfter) (sym f)
    (decided_both (IfThere IsSoundTransaction) WellFormed IsSoundAfter sound_on b (put_transaction t.id (at_time now b)) answer (with_answer (moment_of b now) t d)
    (moved_sound b e now t d w (all_find IsSoundTransaction transaction_id id b.transactions t h.transactions stands) how)
    (λ c k. with_transactions b (put_transaction t.id (at_time now b) c.item) h refl (all_put IsSoundTransaction transaction_id t.id c.item b.transactions k h.transactions) h.leaves) h)
sound_both b e now p h w (leaf_moves id l answer d stands how o f) =
    subst (Both IsSoundAfter) (sym f)
    (decided_both (IfThere IsSoundLeaf) LeafWell IsSoundAfter sound_on b (put_leaf l.id (at_time now b)) answer d
    (leaf_moved_sound b e now l d w (all_find IsSoundLeaf leaf_id id b.leaves l h.leaves stands) how)
    (λ c k. with_transactions b (put_leaf l.id (at_time now b) c.item) h refl h.transactions (all_put IsSoundLeaf leaf_id l.id c.item b.leaves k h.leaves)) h)
sound_both b e now p h w (activity_moves id a answer d stands how o f) =
    subst (Both IsSoundAfter) (sym f)
    (decision_both IsSoundAfter sound_on b (put_activity a.id (at_time now b)) answer d
    (λ c. with_transactions b (put_activity a.id (at_time now b) c.item) h refl h.transactions h.leaves) h)
sound_both b e now p h w (transaction_registers id a r t stands came at says o f) =
    subst (Both IsSoundAfter) (sym f)
    (plain_both IsSoundAfter (registration_outcome b now (on_register (moment_of b now) a r t))
    (with_transactions b (registration_outcome b now (on_register (moment_of b now) a r t)).book h refl
    (all_put IsSoundTransaction transaction_id (on_register (moment_of b now) a r t).transaction.id (Some (on_register (moment_of b now) a r t).transaction) b.transactions
    (register_sound (moment_of b now) a r t (register_bounds e a r w came says) (all_find IsSoundTransaction transaction_id id b.transactions t h.transactions stands)) h.transactions)
    h.leaves))
sound_both b e now p h w (transaction_made a c id t os came at says next made sent o f) =
    subst (Both IsSoundAfter) (sym f)
    (plain_both IsSoundAfter (still (make_transaction (at_time now b) t) os)
    (with_transactions b (make_transaction (at_time now b) t) h refl
    (all_join IsSoundTransaction b.transactions (t ∷ []) h.transactions (created_sound (moment_of b now) (length b.transactions) a c id t (next_sound b id h next) made, tt)) h.leaves))
sound_both b e now p h w (leaf_made a x id l os came at says next made sent o f) =
    let (k, v) = work_bounds e a x w came says in
    subst (Both IsSoundAfter) (sym f)
    (plain_both IsSoundAfter (still (make_leaf (at_time now b) l) os)
    (with_transactions b (make_leaf (at_time now b) l) h refl h.transactions
    (all_join IsSoundLeaf b.leaves (l ∷ []) h.leaves (employed_sound (moment_of b now) (length b.leaves) a x id l (next_sound b id h next) k v made, tt))))
sound_both b e now p h w (activity_made id a os next made o f) =
    subst (Both IsSoundAfter) (sym f)
    (plain_both IsSoundAfter (still (make_activity (at_time now b) a) os) (with_transactions b (make_activity (at_time now b) a) h refl h.transactions h.leaves))

step_sound : (b : Book) (e : Event) (now : ℕ) (landed : Bool) → IsSound b → IsSoundEvent e → IsSound (step b e now landed).book
unfolding IsSoundAfter
step_sound b e now landed h w = in_branch IsSoundAfter (plan b e now) landed (sound_both b e now (plan b e now) h w (steps_touch_one b e now))

entry_well : (b : Book) (e : Event) (now : ℕ) (p : Plan) (r : Record) → IsSound b → IsSoundEvent e → Shape b e now p → p.entry ≡ Some r → IsWellFormed r
entry_well b e now p r h w (nothing_moves f) k = absurd (no_entry p _ r f k)
entry_well b e now p r h w (time_moves a os came why o f) k = absurd (no_entry p _ r f k)
entry_well b e now p r h w (time_passes came f) k = absurd (no_entry p _ r f k)
entry_well b e now p r h w (transaction_moves id t answer d stands how o f) k =
    decided_entry (IfThere IsSoundTransaction) WellFormed (λ s x. IsWellFormed s) (λ s r o i. i) b (put_transaction t.id (at_time now b)) answer (with_answer (moment_of b now) t d) r
    (moved_sound b e now t d w (all_find IsSoundTransaction transaction_id id b.transactions t h.transactions stands) how) (λ s c i j. j) (sym (ap (λ x. x.entry) f) ∙ k)
entry_well b e now p r h w (leaf_moves id l answer d stands how o f) k =
    decided_entry (IfThere IsSoundLeaf) LeafWell (λ s x. IsWellFormed s) (λ s r o i. i) b (put_leaf l.id (at_time now b)) answer d r
    (leaf_moved_sound b e now l d w (all_find IsSoundLeaf leaf_id id b.leaves l h.leaves stands) how) (λ s c i j. j) (sym (ap (λ x. x.entry) f) ∙ k)
entry_well b e now p r h w (activity_moves id a answer d stands how o f) k =
    decided_entry (HasBoth a) NoRecord (λ s x. IsWellFormed s) (λ s r o i. i) b (put_activity a.id (at_time now b)) answer d r (activity_moved_kept b e now a d how)
    (λ s c i j. absurd j) (sym (ap (λ x. x.entry) f) ∙ k)
entry_well b e now p r h w (transaction_registers id a c t stands came at says o f) k = absurd (no_entry p _ r f k)
entry_well b e now p r h w (transaction_made a c id t os came at says next made sent o f) k = absurd (no_entry p _ r f k)
entry_well b e now p r h w (leaf_made a x id l os came at says next made sent o f) k = absurd (no_entry p _ r f k)
entry_well b e now p r h w (activity_made id a os next made o f) k = absurd (no_entry p _ r f k)

step_entry : (b : Book) (e : Event) (now : ℕ) (r : Record) → IsSound b → IsSoundEvent e → (plan b e now).entry ≡ Some r → IsWellFormed r
step_entry b e now r h w k = entry_well b e now (plan b e now) r h w (steps_touch_one b e now) k

-- recovery
seats_rise : (state : State) (last : ℕ) (seats : List Seated) → Rises last seats → SeatsRise last (map (recovered_seat state) seats)
seats_rise state last [] h = tt
seats_rise state last (s ∷ ss) (h, k) = (h, seats_rise state s.number ss k)

seats_same : (state : State) (seats : List Seated) → length (map (recovered_seat state) seats) ≡ length seats
seats_same state [] = refl
seats_same state (s ∷ ss) = ap suc (seats_same state ss)

seats_endpoints : (state : State) (seats : List Seated) → AllByRecursion (λ s. IsEndpoint s.endpoint) seats → AllByRecursion (λ s. IsEndpoint s.participant) (map (recovered_seat state) seats)
seats_endpoints state [] h = tt
seats_endpoints state (s ∷ ss) (h, k) = (h, seats_endpoints state ss k)

recovered_most : (state : State) (seats : List Seated) → length seats ≤ MOST_SEATS → length (map (recovered_seat state) seats) ≤ MOST_SEATS
recovered_most state seats h = omega (arith, seats_same state seats, h)

voted_sound : (id : Numbers) (superior : Epr) (seats : List Seated) (committed : Bool) → IsId id → IsEndpoint superior → AreSeats seats
    → IsSoundTransaction (recovered_voted id superior seats committed)
voted_sound id superior seats true i s h = record {
  bounds = record {
    own = i;
    known = record { volatile = tt; durable = s };
    most = recovered_most states.Committing seats h.most;
    participants = seats_endpoints states.Committing seats (recursion_from_All (λ x. IsEndpoint x.endpoint) seats h.endpoints);
  };
  numbers = inr (record { rise = seats_rise states.Committing 0 seats h.rise; past_asking = tt; links = (tt, tt); no_initiator = refl });
}
voted_sound id superior seats false i s h = record {
  bounds = record {
    own = i;
    known = record { volatile = tt; durable = s };
    most = recovered_most states.Prepared seats h.most;
    participants = seats_endpoints states.Prepared seats (recursion_from_All (λ x. IsEndpoint x.endpoint) seats h.endpoints);
  };
  numbers = inr (record { rise = seats_rise states.Prepared 0 seats h.rise; past_asking = tt; links = (tt, tt); no_initiator = refl });
}

decided_sound : (base : List ℕ) (id : Numbers) (seats : List Seated) → IsId id → AreSeats seats → IsSoundTransaction (recovered_decided base id seats)
decided_sound base id seats i h = record {
  bounds = record {
    own = i;
    known = tt;
    most = recovered_most states.Committing seats h.most;
    participants = seats_endpoints states.Committing seats (recursion_from_All (λ x. IsEndpoint x.endpoint) seats h.endpoints);
  };
  numbers = inr (record { rise = seats_rise states.Committing 0 seats h.rise; past_asking = tt; links = tt; no_initiator = refl });
}

transactions_sound : (base : List ℕ) (rs : List Record) → AllByRecursion IsWellFormed rs → AllByRecursion IsSoundTransaction (transactions_of base rs)
transactions_sound base [] h = tt
transactions_sound base (records.Voted id superior seats ∷ rest) ((i, s, some, a), k) =
    (voted_sound id superior seats (list_any (is_sub_committed id) rest) i s a, transactions_sound base rest k)
transactions_sound base (records.Decided id seats ∷ rest) ((i, a), k) = (decided_sound base id seats i a, transactions_sound base rest k)
transactions_sound base (records.Start incarnation ∷ rest) (h, k) = transactions_sound base rest k
transactions_sound base (records.LeafPrepared id coordinator key value ∷ rest) (h, k) = transactions_sound base rest k
transactions_sound base (records.LeafCommitted id ∷ rest) (h, k) = transactions_sound base rest k
transactions_sound base (records.LeafAborted id ∷ rest) (h, k) = transactions_sound base rest k
transactions_sound base (records.SubCommitted id ∷ rest) (h, k) = transactions_sound base rest k
transactions_sound base (records.Ended id ∷ rest) (h, k) = transactions_sound base rest k
transactions_sound base (records.Done id ∷ rest) (h, k) = transactions_sound base rest k

leaves_sound : (rs : List Record) → AllByRecursion IsWellFormed rs → AllByRecursion IsSoundLeaf (leaves_of rs)
leaves_sound [] h = tt
leaves_sound (records.LeafPrepared id coordinator key value ∷ rest) ((i, c, x, v), k) = (record { id = i; coordinator = c; key = x; value = v }, leaves_sound rest k)
leaves_sound (records.Voted id superior seats ∷ rest) (h, k) = leaves_sound rest k
leaves_sound (records.Decided id seats ∷ rest) (h, k) = leaves_sound rest k
leaves_sound (records.Start incarnation ∷ rest) (h, k) = leaves_sound rest k
leaves_sound (records.LeafCommitted id ∷ rest) (h, k) = leaves_sound rest k
leaves_sound (records.LeafAborted id ∷ rest) (h, k) = leaves_sound rest k
leaves_sound (records.SubCommitted id ∷ rest) (h, k) = leaves_sound rest k
leaves_sound (records.Ended id ∷ rest) (h, k) = leaves_sound rest k
leaves_sound (records.Done id ∷ rest) (h, k) = leaves_sound rest k

recovered_sound : (base : List ℕ) (rs : List Record) → AllByRecursion IsWellFormed rs → 1 ≤ last_incarnation rs → last_incarnation rs ≤ last_counter → IsSound (recover base rs)
recovered_sound base rs h least most =
    let all : AllByRecursion IsWellFormed (live rs) = all_live IsWellFormed rs (λ id superior seats k. k.0) h in
    record {
      incarnation_least = least;
      incarnation_most = omega (arith, most);
      transactions = all_in_order IsSoundTransaction transaction_id (transactions_of base (live rs)) (transactions_sound base (live rs) all);
      leaves = all_in_order IsSoundLeaf leaf_id (leaves_of (live rs)) (leaves_sound (live rs) all);
    }

restart_well : (rs : List Record) → AllByRecursion IsWellFormed rs → AllByRecursion IsWellFormed (restarted rs)
restart_well rs h = all_join IsWellFormed rs (records.Start (last_incarnation rs + 1) ∷ []) h (omega arith, tt)

-- lives
abbrev IsSoundIf : Option Book → Type 0
IsSoundIf None = Unit {0}
IsSoundIf (Some b) = IsSound b

record IsSoundLife (l : Life) : Type 0 where
  journal : AllByRecursion IsWellFormed l.journal
  book : IsSoundIf l.book

abbrev life : List Record → Option Book → Life
life rs o = record { journal = rs; book = o }

with_well : (entry : Option Record) (landed : Bool) (rs : List Record) → ((r : Record) → entry ≡ Some r → IsWellFormed r) → AllByRecursion IsWellFormed rs
    → AllByRecursion IsWellFormed (with_entry entry landed rs)
with_well None landed rs f h = h
with_well (Some r) true rs f h = all_join IsWellFormed rs (r ∷ []) h (f r refl, tt)
with_well (Some r) false rs f h = h

at_start : (base : List ℕ) (rs : List Record) (starts : Bool) → (starts ≡ true → last_incarnation rs < last_counter) → AllByRecursion IsWellFormed rs
    → let l : Life = life rs None in IsSoundLife (if starts then record { journal = restarted rs; book = Some (recover base (restarted rs)) } else l)
at_start base rs false f h = record { journal = h; book = tt }
at_start base rs true f h = record {
  journal = restart_well rs h;
  book = recovered_sound base (restarted rs) (restart_well rs h) (least (last_incarnation rs) (last_incarnation (restarted rs)) (incarnations_rise rs).0)
      (most (last_incarnation rs) (last_incarnation (restarted rs)) (incarnations_rise rs).0 (f refl));
}
  where
    least : (n m : ℕ) → m ≡ n + 1 → 1 ≤ m
    least n m e = omega (arith, e)

    most : (n m : ℕ) → m ≡ n + 1 → n < last_counter → m ≤ last_counter
    most n m e h = omega (arith, e, h)

abbrev IsSoundStep : LifeEvent → Type 0
IsSoundStep (Stepped e now landed) = IsSoundEvent e
IsSoundStep Stopped = Unit {0}
IsSoundStep (Started landed) = Unit {0}

lives_on : (base : List ℕ) (e : LifeEvent) (rs : List Record) (o : Option Book) → IsSoundStep e → IsSoundLife (life rs o) → IsSoundLife (live_through base e (life rs o))
lives_on base (Stepped e now landed) rs None w h = h
lives_on base (Stepped e now landed) rs (Some b) w h = record {
  journal = with_well (plan b e now).entry landed rs (λ r k. step_entry b e now r h.book w k) h.journal;
  book = step_sound b e now landed h.book w;
}
lives_on base Stopped rs o w h = record { journal = h.journal; book = tt }
lives_on base (Started landed) rs (Some b) w h = h
lives_on base (Started landed) rs None w h =
    at_start base rs (landed && nat_lt (last_incarnation rs) last_counter)
    (λ e. ltb-true (last_incarnation rs) last_counter (second_true landed (nat_lt (last_incarnation rs) last_counter) e)) h.journal

lives : (base : List ℕ) (es : List LifeEvent) (l : Life) → AreSoundEvents es → IsSoundLife l → IsSoundLife (life_of base es l)
lives base [] l w h = h
lives base (Stepped e now landed ∷ es) l (w, k) h =
    lives base es (live_through base (Stepped e now landed) l) k (lives_on base (Stepped e now landed) l.journal l.book w h)
lives base (Stopped ∷ es) l w h = lives base es (live_through base Stopped l) w (lives_on base Stopped l.journal l.book tt h)
lives base (Started landed ∷ es) l w h = lives base es (live_through base (Started landed) l) w (lives_on base (Started landed) l.journal l.book tt h)

pub records_are_well_formed : RecordsAreWellFormed
records_are_well_formed = record {
  entry = step_entry;
  book = step_sound;
  recovered = recovered_sound;
  restart = restart_well;
  journal = λ base es w. (lives base es newborn w (record { journal = tt; book = tt })).journal;
}
