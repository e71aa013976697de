-- What the lines of a schedule ask for can be asked of a play that has begun.
use Rattle.std.proofs.Common.{ℕ, zero, suc, ◌+◌, ◌≡◌, ◌≤◌, ◌<◌, ◌++◌, ◌∷◌, inr, List, [], refl, drop, get_or, length, map, ap, subst, sym, arith, ◌∙◌}
use Rattle.std.proofs.lemmas.List.{length-append}
use Rattle.std.specs.Prelude.{Bool, Option, None, Some, true, false, codes, option_map}
use Rattle.std.specs.List.{AllByRecursion}
use Rattle.armed_calls.specs.Faults.{raw_at}
use Rattle.armed_calls.specs.declared.fault.Armed.{Armed as Known}
use Rattle.asked_nets.specs.Behind.{events_by, world_behind}
use Rattle.at_base.specs.Numbers.{Numbers}
use Rattle.at_base.specs.declared.event.Local.{Local}
use Rattle.at_base.specs.declared.event.Local.TheVariants as locals
use Rattle.at_base.specs.declared.notice.Kind.{Kind}
use Rattle.at_base.specs.declared.notice.Vote.{Vote}
use Rattle.at_model.specs.Views.{deliver_to, tick_at, up}
use Rattle.at_model.specs.World.{WorldEvent, Ask, Crash, example_base, nth, world_step}
use Rattle.mirrored_nets.specs.ExampleRequests.{IsBaseOfEight, IsOfEight}
use Rattle.model_laws.specs.Settlement.{settle}
use Rattle.raw_requests.specs.Draws.{Draws}
use Rattle.raw_requests.specs.declared.Drawn.TheVariants as drawns
use Rattle.replay_cmd.specs.Laws.{IsReplayable}
use Rattle.replay_cmd.specs.ReportOf.{nodes_of, receiver_in}
use Rattle.replay_cmd.specs.ScheduleLines.{AreWithin, IsWithin}
use Rattle.schedules.specs.LineTexts.{IsNode}
use Rattle.schedules.specs.declared.line.Line.{Line}
use Rattle.world_laws.specs.Events.{event_of}
use Rattle.world_laws.specs.declared.event.WorldEvent.{WorldEvent as Given}
use Rattle.net_plays.specs.Asks.{CanAsk, CanAskAll, IsBare}
use Rattle.net_plays.specs.PlayedLines.{Delivers, Takes, marked}
use Rattle.net_plays.specs.Behind.{IsArmedBehind}
use Rattle.net_plays.specs.Plays.{AllHappen, Happens, HasBegun, IsBegun, IsOpening, IsPlayed, Play, ups_from}
use Rattle.net_plays.proofs.AskedRests.{settle_can}
use Rattle.net_plays.proofs.PlayedLines.{Keeps, all_keep, takes_keep, where_keep}
use Rattle.net_plays.proofs.PlayedRuns.{bare_settle}
use Rattle.net_plays.proofs.PostedMessages.{delivery_can}
use Rattle.net_plays.proofs.ReadEvents.{bare_is_asked}
use Rattle.net_plays.proofs.StoppedPlays.{split}

-- requests that name nodes of a play

base_of_eight : (count n : ℕ) → count ≤ 8 → IsNode count n → IsBaseOfEight (example_base n)
base_of_eight count n few (least, within) = record { number = n; least = least; most = omega (arith, within, few); same = refl }

pub begin_names : (p : Play) (n ms : ℕ) (l : Local) → HasBegun p → IsNode p.count n → l ≡ locals.Begin (example_base n) ms → IsOfEight l
begin_names p n ms l h there same = subst IsOfEight (sym same) (base_of_eight p.count n h.few there)

pub interpose_names : (p : Play) (n : ℕ) (activity : Numbers) (l : Local) → HasBegun p → IsNode p.count n → l ≡ locals.Interpose activity (example_base n) → IsOfEight l
interpose_names p n activity l h there same = subst IsOfEight (sym same) (base_of_eight p.count n h.few there)

pub work_names : (p : Play) (n : ℕ) (activity : Numbers) (kind : Kind) (vote : Vote) (l : Local) → HasBegun p → IsNode p.count n
    → l ≡ locals.Work activity (example_base n) kind vote (codes "k") (codes "v") → IsOfEight l
work_names p n activity kind vote l h there same = subst IsOfEight (sym same) (base_of_eight p.count n h.few there, refl, refl)

-- what is asked of a node that is there

pub ask_can : (p : Play) (n : ℕ) (l : Local) (asked : WorldEvent) → asked ≡ Ask n l [] None → IsNode p.count n → IsOfEight l → CanAsk p.count p.world asked []
ask_can p n l asked same (least, within) names = subst (λ a. CanAsk p.count p.world a []) (sym same) (record { least = least; within = within; of = names })

pub tick_can : (p : Play) (n ms : ℕ) (asked : WorldEvent) → asked ≡ tick_at n ms → IsNode p.count n → CanAsk p.count p.world asked []
tick_can p n ms asked same (least, within) = subst (λ a. CanAsk p.count p.world a []) (sym same) (record { least = least; within = within; of = tt })

pub up_here : (p : Play) (n : ℕ) (asked : WorldEvent) → asked ≡ up n → IsNode p.count n → CanAsk p.count p.world asked []
up_here p n asked same (least, within) = subst (λ a. CanAsk p.count p.world a []) (sym same) (record { least = least; within = within; of = (refl, refl) })

pub crash_can : (p : Play) (n : ℕ) → IsNode p.count n → CanAsk p.count p.world (Crash n) []
crash_can p n (least, within) = record { least = least; within = within; of = tt }

pub raw_can : (p : Play) (n status : ℕ) (waits : Bool) (bytes : List ℕ) (asked : WorldEvent) → Draws bytes (drawns.Refused status waits) → asked ≡ raw_at n → IsNode p.count n
    → CanAsk p.count p.world asked bytes
raw_can p n status waits bytes asked draws same (least, within) =
    subst (λ a. CanAsk p.count p.world a bytes) (sym same) (record { least = least; within = within; of = (status, waits, draws) })

-- of a play that has begun any call may be armed
pub begun_behind : (armed : Option Known) (p : Play) → HasBegun p → IsArmedBehind armed p.events
begun_behind armed p h = inr h.some

-- a message that goes to its node, behind its mark

pub delivery_asked : (k node : ℕ) (p m : Play) (asked : WorldEvent) → Some (Some node) ≡ option_map receiver_in (nth k p.world.posted) → IsPlayed p → m ≡ marked k p → asked ≡ deliver_to node k
    → CanAsk m.count m.world asked []
delivery_asked k node p m asked received played is same =
    subst (λ (q : Play). CanAsk q.count q.world asked []) (sym is)
    (subst (λ a. CanAsk p.count p.world a []) (sym same) (delivery_can p.count p.world p.events played.run k node (sym received)))

pub marked_begun : (k : ℕ) (p m : Play) → m ≡ marked k p → HasBegun p → HasBegun m
marked_begun k p m is h = subst HasBegun (sym is) (record { few = h.few; some = h.some })

-- what has begun stays so

some_more : (es : List WorldEvent) (down : Bool) (e : WorldEvent) → 1 ≤ length (es ++ events_by down e)
some_more es true e = omega (arith, length-append es (events_by true e))
some_more es false e = omega (arith, length-append es (events_by false e))

-- a play of so many nodes
abbrev IsOn : ℕ → Play → Type 0
IsOn count p = (p.count ≡ count) × HasBegun p

happens_on : (armed : Option Known) (asked : WorldEvent) (raw : List ℕ) (drawn : ℕ) (p q : Play) → Happens armed asked raw drawn p q → p.count ≤ 8 → HasBegun q
happens_on armed asked raw drawn p q t few = record {
  few = subst (λ n. n ≤ 8) (sym t.count) few;
  some = subst (λ es. 1 ≤ length es) (sym t.events) (some_more p.events t.down t.event);
}

keeps_on : (count : ℕ) → Keeps (IsOn count)
keeps_on count = record {
  happens = λ armed asked raw drawn p q t h. (t.count ∙ h.0, happens_on armed asked raw drawn p q t h.1.few);
  forges = λ n p h. (h.0, record { few = h.1.few; some = h.1.some });
  misses = λ k p h. (h.0, record { few = h.1.few; some = h.1.some });
  arms = λ n armed p h. (h.0, record { few = h.1.few; some = h.1.some });
  marks = λ k p h. (h.0, record { few = h.1.few; some = h.1.some });
}

pub line_on : (line : Line) (count : ℕ) (p q : Play) → Takes line p q → p.count ≡ count → HasBegun p → (q.count ≡ count) × HasBegun q
line_on line count p q t many h = takes_keep (IsOn count) (keeps_on count) line p q t (many, h)

pub delivery_on : (k : ℕ) (p c q : Play) → p ≡ c → Delivers k p q → HasBegun c → HasBegun q
delivery_on k p c q same t h = (where_keep (IsOn p.count) (keeps_on p.count) (Some k) p q t (refl, subst HasBegun (sym same) h)).1

pub begun_on : (count : ℕ) (p : Play) → 1 ≤ count → count ≤ 8 → IsBegun count p → (p.count ≡ count) × HasBegun p
begun_on zero p least few b = absurd (omega (arith, least))
begun_on (suc c) p least few b = by b.ups
  where
    many : b.first.count ≡ suc c
    many = ap (λ (q : Play). q.count) b.opens.is

    by : AllHappen (up 1 ∷ ups_from c (1 + 1)) b.first p → IsOn (suc c) p
    by (r, first, rest) =
        all_keep (IsOn (suc c)) (keeps_on (suc c)) (ups_from c (1 + 1)) r p rest
        (first.count ∙ many, happens_on None (up 1) [] 0 b.first r first (subst (λ n. n ≤ 8) (sym many) few))

-- nodes that come up one after another

pub opening_count : (count : ℕ) (p : Play) → IsOpening count p → count ≤ p.count
opening_count count p h = subst (λ n. count ≤ n) (sym (ap (λ (q : Play). q.count) h.is)) (omega arith)

pub up_can : (m i : ℕ) (p c : Play) (asked : WorldEvent) → i < m → m ≤ p.count → c.count ≡ p.count → asked ≡ up (i + 1) → CanAsk c.count c.world asked []
up_can m i p c asked less within same is = up_here c (i + 1) asked is (omega arith, omega (arith, less, within, same))

-- lines one after another

all_get : (P : Line → Type 0) (xs : List Line) (i : ℕ) (x d : Line) → i < length xs → x ≡ get_or xs i d → AllByRecursion P xs → P x
all_get P [] i x d within is all = absurd (omega (arith, within))
all_get P (y ∷ ys) zero x d within is (h, hs) = subst P (sym is) h
all_get P (y ∷ ys) (suc i) x d within is (h, hs) = all_get P ys i x d (omega (arith, within)) is hs

pub line_within : (all : List Line) (i : ℕ) (line d : Line) (n count : ℕ) → i < length all → line ≡ get_or all i d → n ≡ count → AreWithin count all → IsWithin n line
line_within all i line d n count less is same within = all_get (IsWithin n) all i line d less is (subst (λ k. AreWithin k all) (sym same) within)

begun_of : (all : List Line) (n : ℕ) (p : Play) → n ≡ nodes_of all → IsReplayable all → IsBegun n p → IsOn (nodes_of all) p
begun_of all n p many can b = begun_on (nodes_of all) p can.least can.most (subst (λ k. IsBegun k p) many b)

pub lines_within : (all ls : List Line) (n : ℕ) (p : Play) → ls ≡ all → n ≡ nodes_of ls → IsReplayable all → AreWithin (nodes_of all) all → IsBegun n p → AreWithin p.count ls
lines_within all ls n p same many can within b =
    subst (AreWithin p.count) (sym same) (subst (λ k. AreWithin k all) (sym (begun_of all n p (many ∙ ap nodes_of same) can b).0) within)

pub lines_begun : (all ls : List Line) (n : ℕ) (p : Play) → ls ≡ all → n ≡ nodes_of ls → IsReplayable all → IsBegun n p → HasBegun p
lines_begun all ls n p same many can b = (begun_of all n p (many ∙ ap nodes_of same) can b).1

-- what brings a world to rest

pub rest_bare : (es : List WorldEvent) (p : Play) → es ≡ settle p.world → AllByRecursion IsBare es
rest_bare es p is = subst (AllByRecursion IsBare) (sym is) (bare_settle p.world)

pub rest_can : (es : List WorldEvent) (p : Play) → es ≡ settle p.world → IsPlayed p → CanAskAll p.count p.world es
rest_can es p is played = subst (CanAskAll p.count p.world) (sym is) (settle_can p.count p.world p.events played.run)

-- of events that are asked for one after another, the next

pub asked_here : (all : List Given) (i : ℕ) (e d : Given) (c : Play) → i < length all → e ≡ get_or all i d → CanAskAll c.count c.world (map event_of (drop i all)) → CanAsk c.count c.world (event_of e) []
asked_here all i e d c within is can = (subst (CanAskAll c.count c.world) (split all i e d within is) can).0

pub asked_next : (all : List Given) (i : ℕ) (e d : Given) (c q : Play) → i < length all → e ≡ get_or all i d → Happens None (event_of e) [] 0 c q
    → AllByRecursion IsBare (map event_of (drop i all)) → CanAskAll c.count c.world (map event_of (drop i all))
    → AllByRecursion IsBare (map event_of (drop (i + 1) all)) × CanAskAll q.count q.world (map event_of (drop (i + 1) all))
asked_next all i e d c q within is t bare can =
    let bares = subst (AllByRecursion IsBare) (split all i e d within is) bare in
    let cans = subst (CanAskAll c.count c.world) (split all i e d within is) can in
    let kept = bare_is_asked c.count c.world (event_of e) [] c.net q.net t.event t.down t.calls bares.0 t.happened in
    let step : q.world ≡ world_step c.world (event_of e) = t.world ∙ (ap (λ b. world_behind b c.world t.event) kept.stays ∙ ap (world_step c.world) kept.same) in (
      bares.1,
      subst (λ n. CanAskAll n q.world (map event_of (drop (i + 1) all))) (sym t.count) (subst (λ w. CanAskAll c.count w (map event_of (drop (i + 1) all))) (sym step) cans.1),
    )
