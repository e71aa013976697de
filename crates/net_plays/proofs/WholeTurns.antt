-- A turn that meets no stop loses nothing.
use Rattle.std.proofs.Common.{ℕ, List, [], ◌∷◌, ◌≡◌, ◌+◌, Bool, true, false, refl, ap}
use Rattle.std.specs.Prelude.{Option, Some, None, if◌then◌else◌}
use Rattle.at_base.specs.declared.event.Arrived.{Arrived}
use Rattle.at_base.specs.declared.event.Event.TheVariants as events
use Rattle.at_base.specs.declared.outs.Out.{Out}
use Rattle.at_base.specs.declared.outs.Outs.{Outs}
use Rattle.at_base.specs.declared.record.Record.{Record}
use Rattle.at_model.specs.Book.{Book}
use Rattle.at_model.specs.Step.{Outcome, Plan, items_of, plan}
use Rattle.at_model.specs.World.{Input, Node, Posted, World, Turn, Deliver, Tick, Raw, answer_plan, arrival_plan, decoded, fate, is_receiver, nth, one_nearer, stops}
use Rattle.interposition.specs.Due.{due_outcomes}
use Rattle.world_laws.specs.Moves.{Move, arrival_move, delivery_move, ended, later_at, losses_of, lost_of, luck_of, move_of, moved_by, moved_in, quiet, raw_move, tick_move}
use Rattle.world_laws.specs.Walks.{Luck, Sending, Walk, begin, branch, counted, counted_all, counted_by, counted_one, is_over, outs_of, recorded, sending, sends, sent_each, sent_one, stepped, turned, used, with_fate}

-- no stop is to come
abbrev IsFree : Luck → Type 0
IsFree l = l.until ≡ None

each_free : (os : List Out) (s : Sending) → IsFree s.luck → IsFree (sent_each os s).luck
each_free [] s h = h
each_free (o ∷ os) s h = each_free os (sent_one o s) (by (is_over s.luck))
  where
    by : (b : Bool) → IsFree (if b then s else record { luck = used s.luck; taken = with_fate (fate s.luck.fates) o s.taken }).luck
    by true = h
    by false = ap one_nearer h

sends_free : (o : Outs) (l : Luck) → IsFree l → IsFree (sends o l).luck
unfolding sends
sends_free o l h = each_free o.outs (sending o l) h

recorded_free : (r : Option Record) (w : Walk) → IsFree w.luck → IsFree (recorded r w).luck
recorded_free None w h = h
recorded_free (Some r) w h = ap one_nearer h

counted_free : (o : Option Bool) (p : Plan) (w : Walk) → IsFree w.luck → IsFree (counted_by o p w).luck
counted_free None p w h = h
counted_free (Some true) p w h = sends_free (outs_of p.landed) w.luck h
counted_free (Some false) p w h = sends_free (outs_of p.absent) w.luck h

stepped_free : (p : Plan) (w : Walk) → IsFree w.luck → IsFree (stepped p w).luck
stepped_free p w h = by (is_over w.luck)
  where
    by : (b : Bool) → IsFree (if b then w else counted_by (branch p.entry w.luck) p (recorded p.entry w)).luck
    by true = h
    by false = counted_free (branch p.entry w.luck) p (recorded p.entry w) (recorded_free p.entry w h)

all_free : (os : List Outcome) (w : Walk) → IsFree w.luck → IsFree (counted_all os w).luck
all_free [] w h = h
all_free (o ∷ os) w h = all_free os (counted_one o w) (by (is_over w.luck))
  where
    by : (b : Bool) → IsFree (if b then w else counted o w).luck
    by true = h
    by false = sends_free (outs_of o) w.luck h

turned_free : (now : ℕ) (p : Plan) (w : Walk) → IsFree w.luck → IsFree (turned now p w).luck
turned_free now p w h = all_free (due_outcomes now (items_of (stepped p w).book) (stepped p w).book) (stepped p w) (stepped_free p w h)

abbrev gone : Node → Walk → Bool → Move
gone x w b =
    if b
    then record { node = record x { book = None; journal = w.journal }; moved = record { taken = w.taken; lost = lost_of w.book; left = w.luck } }
    else record { node = record x { book = Some w.book; journal = w.journal }; moved = record { taken = w.taken; lost = []; left = w.luck } }

ended_loses : (x : Node) (w : Walk) → IsFree w.luck → (ended x w).moved.lost ≡ []
ended_loses x w h = by (is_over w.luck) (ap stops h)
  where
    by : (b : Bool) → b ≡ false → (gone x w b).moved.lost ≡ []
    by true e = absurd cc
    by false e = refl

turn_loses : (now : ℕ) (p : Plan) (x : Node) (b : Book) (fates : List Bool) → (ended (later_at now x) (turned now p (begin b x.journal (luck_of fates None)))).moved.lost ≡ []
turn_loses now p x b fates = ended_loses (later_at now x) (turned now p (begin b x.journal (luck_of fates None))) (turned_free now p (begin b x.journal (luck_of fates None)) refl)

arrival_loses : (a : Option Arrived) (fates : List Bool) (x : Node) (o : Option Book) → (arrival_move a (luck_of fates None) x o).moved.lost ≡ []
arrival_loses a fates x None = refl
arrival_loses a fates x (Some b) = turn_loses x.clock (arrival_plan b x.clock a) x b fates

delivery_loses : (n : ℕ) (found : Option Posted) (fates : List Bool) (x : Node) (o : Option Book) → (delivery_move n found (luck_of fates None) x o).moved.lost ≡ []
delivery_loses n None fates x o = refl
delivery_loses n (Some p) fates x o = by (is_receiver n p.receiver)
  where
    either : Bool → Move
    either b = if b then arrival_move (decoded x.base p.content) (luck_of fates None) x o else quiet x

    by : (b : Bool) → (either b).moved.lost ≡ []
    by true = arrival_loses (decoded x.base p.content) fates x o
    by false = refl

tick_loses : (ms : ℕ) (fates : List Bool) (x : Node) (o : Option Book) → (tick_move ms (luck_of fates None) x o).moved.lost ≡ []
tick_loses ms fates x None = refl
tick_loses ms fates x (Some b) = turn_loses (x.clock + ms) (plan b events.Tick (x.clock + ms)) x b fates

raw_loses : (fates : List Bool) (x : Node) (o : Option Book) → (raw_move (luck_of fates None) x o).moved.lost ≡ []
raw_loses fates x None = refl
raw_loses fates x (Some b) = turn_loses x.clock (answer_plan b 400) x b fates

move_loses : (n : ℕ) (input : Input) (fates : List Bool) (posted : List Posted) (x : Node) → (move_of (Turn n input fates None) posted x).moved.lost ≡ []
move_loses n (Deliver k) fates posted x = delivery_loses n (nth k posted) fates x x.book
move_loses n (Tick ms) fates posted x = tick_loses ms fates x x.book
move_loses n Raw fates posted x = raw_loses fates x x.book

pub whole_loses : (w : World) (n : ℕ) (input : Input) (fates : List Bool) → losses_of w (Turn n input fates None) ≡ []
unfolding moved_in
whole_loses w n input fates = by (nth n w.nodes)
  where
    by : (o : Option Node) → (moved_by (Turn n input fates None) w.posted o).lost ≡ []
    by None = refl
    by (Some x) = move_loses n input fates w.posted x
