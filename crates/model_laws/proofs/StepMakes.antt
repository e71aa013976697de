-- What the steps of an event make, step by step, is what its trace makes.
use Rattle.std.specs.Prelude.{ℕ, List, [], ◌∷◌, ◌++◌, Option, Some, None, Bool, true, false, nat_eq, ◌+◌, if◌then◌else◌, ◌≡◌, refl}
use Rattle.std.proofs.Common.{sym, ap, ◌∙◌}
use Rattle.std.proofs.lemmas.Bool.{eqb-true}
use Rattle.std.proofs.lemmas.List.{append_assoc}
use Rattle.at_base.specs.Numbers.{Numbers}
use Rattle.at_base.specs.declared.event.Event.TheVariants as events
use Rattle.at_base.specs.declared.event.Item.{Item}
use Rattle.at_base.specs.declared.outs.Out.{Out}
use Rattle.at_base.specs.declared.record.Record.{Record}
use Rattle.at_model.specs.Book.{Book}
use Rattle.at_model.specs.Step.{Outcome, Plan, is_due, items_of, plan}
use Rattle.at_model.specs.World.{Node, Posted, World, WorldEvent, Turn, Ask, Crash, Up, Input, Deliver, Tick, Raw, Traced, Turning, nth, fate, after_fate, is_stopped, sent, send_all, counted, traced, with_record, landed_step, absent_step, step_by, take_step, due_step, due_steps, walked, turn_from, ticked, later, answer_plan, arrival_plan, is_receiver, decoded, delivery_trace, turn_trace, trace_while_up, trace_at, node_of, world_step}
use Rattle.model_laws.specs.DrawnIds.{new_ids}
use Rattle.model_laws.specs.MadeIds.{made_in, made_on}
use Rattle.model_laws.proofs.MadeIds.{held_all, all_none}

-- A step of a turn makes the ids that the book behind it holds, and the book before did not.
abbrev pub made_by : Turning → Turning → List Numbers
made_by before after = new_ids before.book after.book

abbrev pub made_by_due : ℕ → ℕ → List Item → Turning → List Numbers
made_by_due n now [] r = []
made_by_due n now (item ∷ rest) r = made_by r (due_step n now item r) ++ made_by_due n now rest (due_step n now item r)

-- by the step of a turn's input, and then by each due one
abbrev pub made_by_turn : ℕ → ℕ → Plan → Turning → List Numbers
made_by_turn n now p r =
    made_by r (take_step n p r) ++ made_by_due n now (items_of (take_step n p r).book) (take_step n p r)

abbrev pub made_by_delivery : ℕ → Node → Book → List Bool → Option ℕ → Option Posted → World → List Numbers
made_by_delivery n x b fates until None w = []
made_by_delivery n x b fates until (Some p) w =
    if is_receiver n p.receiver
    then made_by_turn n x.clock (arrival_plan b x.clock (decoded x.base p.content)) (turn_from w b fates until)
    else []

abbrev pub made_by_input : ℕ → Input → List Bool → Option ℕ → Node → Book → World → List Numbers
made_by_input n (Deliver k) fates until x b w = made_by_delivery n x b fates until (nth k w.posted) w
made_by_input n (Tick ms) fates until x b w =
    made_by_turn n (x.clock + ms) (plan b events.Tick (x.clock + ms)) (turn_from (ticked n (later ms x) w) b fates until)
made_by_input n Raw fates until x b w = made_by_turn n x.clock (answer_plan b 400) (turn_from w b fates until)

abbrev pub made_by_request : ℕ → Plan → Turning → List Numbers
made_by_request n p r = made_by r (take_step n p r)

abbrev pub made_while_up : WorldEvent → Node → Option Book → World → List Numbers
made_while_up e x None w = []
made_while_up (Turn n input fates until) x (Some b) w = made_by_input n input fates until x b w
made_while_up (Ask n l fates until) x (Some b) w =
    made_by_request n (plan b (events.Local l) x.clock) (turn_from w b fates until)
made_while_up (Crash n) x (Some b) w = []
made_while_up (Up n fate stop) x (Some b) w = []

abbrev pub stepwise_by_event : WorldEvent → Option Node → World → List Numbers
stepwise_by_event e None w = []
stepwise_by_event e (Some x) w = made_while_up e x x.book w

abbrev pub stepwise_on : ℕ → World → List WorldEvent → List Numbers
stepwise_on n w [] = []
stepwise_on n w (e ∷ es) =
    (if nat_eq (node_of e) n then stepwise_by_event e (nth n w.nodes) w else []) ++ stepwise_on n (world_step w e) es

pub nothing_more : (ids : List Numbers) → ids ++ [] ≡ ids
nothing_more [] = refl
nothing_more (id ∷ ids) = ap (λ l. id ∷ l) (nothing_more ids)

pub none_new : (b : Book) → new_ids b b ≡ []
none_new b = all_none b b (held_all b)

-- sending leaves the book and the trace as they are
pub sent_book : (n : ℕ) (os : List Out) (r : Turning) → (send_all n os r).book ≡ r.book
sent_book n [] r = refl
sent_book n (o ∷ os) r = at (λ t. sent_book n os t) (is_stopped r)
  where
    at : ((t : Turning) → (send_all n os t).book ≡ t.book) → (b : Bool)
        → (if b then r else send_all n os (record (after_fate r) { world = sent n (fate r.fates) o r.world })).book ≡ r.book
    at rest true = refl
    at rest false = rest (record (after_fate r) { world = sent n (fate r.fates) o r.world })

sent_trace : (n : ℕ) (os : List Out) (r : Turning) → (send_all n os r).trace ≡ r.trace
sent_trace n [] r = refl
sent_trace n (o ∷ os) r = at (λ t. sent_trace n os t) (is_stopped r)
  where
    at : ((t : Turning) → (send_all n os t).trace ≡ t.trace) → (b : Bool)
        → (if b then r else send_all n os (record (after_fate r) { world = sent n (fate r.fates) o r.world })).trace ≡ r.trace
    at rest true = refl
    at rest false = rest (record (after_fate r) { world = sent n (fate r.fates) o r.world })

pub counted_book : (n : ℕ) (o : Outcome) (r : Turning) → (counted n o r).book ≡ o.book
counted_book n o r = sent_book n o.outs _

-- what a trace makes with one step more
made_more : (ts : List Traced) (t : Traced) → made_in (ts ++ t ∷ []) ≡ made_in ts ++ new_ids t.before t.outcome.book
made_more [] t = nothing_more (new_ids t.before t.outcome.book)
made_more (s ∷ ts) t =
    ap (λ ids. new_ids s.before s.outcome.book ++ ids) (made_more ts t)
    ∙ sym (append_assoc (new_ids s.before s.outcome.book) (made_in ts) (new_ids t.before t.outcome.book))

abbrev Makes : Turning → Turning → Type 0
Makes r t = made_in t.trace ≡ made_in r.trace ++ made_by r t

same_makes : (r t : Turning) → t.trace ≡ r.trace → t.book ≡ r.book → Makes r t
same_makes r t e f =
    ap made_in e ∙ sym (nothing_more (made_in r.trace)) ∙ ap (λ ids. made_in r.trace ++ ids) (sym (none_new r.book) ∙ ap (new_ids r.book) (sym f))

counted_makes : (n : ℕ) (o : Outcome) (r : Turning) → Makes r (counted n o r)
counted_makes n o r =
    ap made_in (sent_trace n o.outs _) ∙ made_more r.trace (traced o r) ∙ ap (λ b. made_in r.trace ++ new_ids r.book b) (sym (counted_book n o r))

entry_makes : (n : ℕ) (entry : Option Record) (p : Plan) (r : Turning) → Makes r (step_by n entry p r)
entry_makes n None p r = counted_makes n p.landed r
entry_makes n (Some entry) p r = by_fate (fate r.fates)
  where
    by_stop : (b : Bool) → Makes r (if b then after_fate r else counted n p.absent (after_fate r))
    by_stop true = same_makes r (after_fate r) refl refl
    by_stop false = counted_makes n p.absent (after_fate r)

    by_fate : (b : Bool) → Makes r (if b then landed_step n entry p r else absent_step n p r)
    by_fate true = counted_makes n p.landed (record (after_fate r) { world = with_record n entry r.world (nth n r.world.nodes) })
    by_fate false = by_stop (is_stopped (after_fate r))

step_makes : (n : ℕ) (p : Plan) (r : Turning) → Makes r (take_step n p r)
step_makes n p r = by_stop (is_stopped r)
  where
    by_stop : (b : Bool) → Makes r (if b then r else step_by n p.entry p r)
    by_stop true = same_makes r r refl refl
    by_stop false = entry_makes n p.entry p r

due_makes : (n now : ℕ) (item : Item) (r : Turning) → Makes r (due_step n now item r)
due_makes n now item r = by_due (is_due r.book now item)
  where
    by_due : (b : Bool) → Makes r (if b then take_step n (plan r.book (events.Due item) now) r else r)
    by_due true = step_makes n (plan r.book (events.Due item) now) r
    by_due false = same_makes r r refl refl

dues_make : (n now : ℕ) (items : List Item) (r : Turning) → made_in (due_steps n now items r).trace ≡ made_in r.trace ++ made_by_due n now items r
dues_make n now [] r = sym (nothing_more (made_in r.trace))
dues_make n now (item ∷ rest) r =
    dues_make n now rest (due_step n now item r)
    ∙ ap (λ ids. ids ++ made_by_due n now rest (due_step n now item r)) (due_makes n now item r)
    ∙ append_assoc (made_in r.trace) (made_by r (due_step n now item r)) (made_by_due n now rest (due_step n now item r))

turn_makes : (n now : ℕ) (p : Plan) (w : World) (b : Book) (fates : List Bool) (until : Option ℕ)
    → made_in (walked n now p (turn_from w b fates until)).trace ≡ made_by_turn n now p (turn_from w b fates until)
turn_makes n now p w b fates until =
    let r : Turning = turn_from w b fates until in
    let s : Turning = take_step n p r in
    dues_make n now (items_of s.book) s ∙ ap (λ ids. ids ++ made_by_due n now (items_of s.book) s) (step_makes n p r)

delivery_makes : (n : ℕ) (x : Node) (b : Book) (fates : List Bool) (until : Option ℕ) (o : Option Posted) (w : World)
    → made_in (delivery_trace n x b fates until o w) ≡ made_by_delivery n x b fates until o w
delivery_makes n x b fates until None w = refl
delivery_makes n x b fates until (Some p) w = by_receiver (is_receiver n p.receiver)
  where
    by_receiver : (c : Bool)
        → made_in (if c then (walked n x.clock (arrival_plan b x.clock (decoded x.base p.content)) (turn_from w b fates until)).trace else [])
        ≡ (if c then made_by_turn n x.clock (arrival_plan b x.clock (decoded x.base p.content)) (turn_from w b fates until) else [])
    by_receiver true = turn_makes n x.clock (arrival_plan b x.clock (decoded x.base p.content)) w b fates until
    by_receiver false = refl

input_makes : (n : ℕ) (input : Input) (fates : List Bool) (until : Option ℕ) (x : Node) (b : Book) (w : World)
    → made_in (turn_trace n input fates until x b w) ≡ made_by_input n input fates until x b w
input_makes n (Deliver k) fates until x b w = delivery_makes n x b fates until (nth k w.posted) w
input_makes n (Tick ms) fates until x b w = turn_makes n (x.clock + ms) (plan b events.Tick (x.clock + ms)) (ticked n (later ms x) w) b fates until
input_makes n Raw fates until x b w = turn_makes n x.clock (answer_plan b 400) w b fates until

up_makes : (e : WorldEvent) (x : Node) (o : Option Book) (w : World) → made_in (trace_while_up e x o w) ≡ made_while_up e x o w
up_makes (Turn n input fates until) x None w = refl
up_makes (Turn n input fates until) x (Some b) w = input_makes n input fates until x b w
up_makes (Ask n l fates until) x None w = refl
up_makes (Ask n l fates until) x (Some b) w = step_makes n (plan b (events.Local l) x.clock) (turn_from w b fates until)
up_makes (Crash n) x None w = refl
up_makes (Crash n) x (Some b) w = refl
up_makes (Up n landed stop) x None w = refl
up_makes (Up n landed stop) x (Some b) w = refl

event_makes : (e : WorldEvent) (o : Option Node) (w : World) → made_in (trace_at e o w) ≡ stepwise_by_event e o w
event_makes e None w = refl
event_makes e (Some x) w = up_makes e x x.book w

pub on_makes : (n : ℕ) (w : World) (es : List WorldEvent) → made_on n w es ≡ stepwise_on n w es
on_makes n w [] = refl
on_makes n w (e ∷ es) = λ i. first (nat_eq (node_of e) n) refl i ++ on_makes n (world_step w e) es i
  where
    first : (c : Bool) → nat_eq (node_of e) n ≡ c
        → (if c then made_in (trace_at e (nth (node_of e) w.nodes) w) else []) ≡ (if c then stepwise_by_event e (nth n w.nodes) w else [])
    first true c = event_makes e (nth (node_of e) w.nodes) w ∙ ap (λ m. stepwise_by_event e (nth m w.nodes) w) (eqb-true (node_of e) n c)
    first false c = refl
