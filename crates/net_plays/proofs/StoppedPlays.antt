-- Where a play comes to no end.
use Rattle.std.proofs.Common.{ℕ, suc, ◌+◌, ◌-◌, ◌≡◌, ◌<◌, ◌++◌, ◌∷◌, inl, inr, List, [], Bool, true, refl, drop, drop-cons, get_or, length, map, ap, subst, sym, arith, ◌∙◌}
use Rattle.std.specs.Prelude.{Option, Some, None, Err, IfErr, IfOk, Ok, Result, option_map}
use Rattle.armed_calls.specs.Faults.{raw_at}
use Rattle.armed_calls.specs.declared.fault.Armed.{Armed as Known}
use Rattle.asked_nets.specs.ArmedCalls.{call_of}
use Rattle.asked_nets.specs.Behind.{events_by}
use Rattle.asked_nets.specs.Happened.{Happened}
use Rattle.mirrored_nets.specs.Rooms.{HasRoomAt, IsFullAt}
use Rattle.mirrored_nets.specs.Took.{HasRoom, IsFull as IsFullSite}
use Rattle.site_memory.specs.declared.machine.MemSite.{MemSite}
use Rattle.mirrored_nets.specs.Seen.{Seen}
use Rattle.at_model.specs.Views.{deliver_to, up}
use Rattle.at_model.specs.World.{WorldEvent, node_of, nth}
use Rattle.model_laws.specs.Settlement.{settle}
use Rattle.raw_requests.specs.Draws.{Draws}
use Rattle.raw_requests.specs.declared.Drawn.TheVariants as drawns
use Rattle.replay_cmd.specs.Deliveries.{lowest}
use Rattle.replay_cmd.specs.ReportOf.{armed_at, nodes_of, receiver_in}
use Rattle.schedules.specs.declared.line.Line.{Line}
use Rattle.world_laws.specs.Events.{event_of}
use Rattle.world_laws.specs.declared.event.WorldEvent.{WorldEvent as Given}
use Rattle.net_plays.specs.PlayedLines.{Brings, Delivers, DeliversWhere, Takes, TakesAll, marked}
use Rattle.net_plays.specs.Plays.{Happens, IsBegun, IsOpening, Play, ups_from}
use Rattle.net_plays.specs.Stops.{HasNoReport, HasNoRoom, Stops, StopsAmong, StopsBegin, StopsComing, StopsDelivery, StopsFlush, StopsIn, StopsInLines, StopsInjection, StopsRest, Why}
use Rattle.net_plays.specs.Stops.Why.{HasMany, IsFull}
use Rattle.net_plays.specs.declared.play_error.PlayError.{PlayError}
use Rattle.net_plays.specs.declared.play_error.PlayError.TheVariants.{Full}
use Rattle.net_plays.proofs.PlayedEvents.{ups_more}

pub stops_delivery : (why : Why) (k node : ℕ) (asked : WorldEvent) (p m : Play) → Some (Some node) ≡ option_map receiver_in (nth k p.world.posted) → m ≡ marked k p → asked ≡ deliver_to node k
    → StopsComing why asked m → StopsDelivery why k p
stops_delivery why k node asked p m received is same stops = record {
  node = node;
  received = sym received;
  stops = subst (λ e. StopsComing why e (marked k p)) same (subst (StopsComing why asked) is stops);
}

pub stops_injection : (why : Why) (bytes : List ℕ) (n status : ℕ) (waits : Bool) (asked : WorldEvent) (p : Play) → Draws bytes (drawns.Refused status waits) → asked ≡ raw_at n
    → Stops why (armed_at n p.armed) asked bytes p → StopsInjection why bytes n p
stops_injection why bytes n status waits asked p draws same stops =
    record { status = status; waits = waits; draws = draws; stops = subst (λ e. Stops why (armed_at n p.armed) e bytes p) same stops }

-- what is known of a play with these fields

pub no_room : (armed : Option Known) (asked : WorldEvent) (raw : List ℕ) (p r : Play) → p ≡ r → IsFullAt (node_of asked) p.net.hosts → Stops IsFull armed asked raw r
no_room armed asked raw p r same full = subst (λ x. Stops IsFull armed asked raw x) same (record { full = full })

-- where a journal has room it isn't full

roomy : (s : MemSite) → HasRoom s → IsFullSite s → ⊥
roomy s room (inl first) = omega (arith, room.first, first)
roomy s room (inr second) = omega (arith, room.second, second)

never_full : (node : ℕ) (asked : WorldEvent) (p : Play) → node ≡ node_of asked → HasRoomAt node p.net.hosts → HasNoRoom asked p → ⊥
never_full node asked p same room none = by none.full
  where
    by : IsFullAt (node_of asked) p.net.hosts → ⊥
    by (h, here, full) = roomy h.site (room h (subst (λ k. nth k p.net.hosts ≡ Some h) (sym same) here)) full

pub full_here : (node : ℕ) (armed : Option Known) (asked : WorldEvent) (raw : List ℕ) (p : Play) → node ≡ node_of asked → IsFullAt node p.net.hosts → Stops IsFull armed asked raw p
full_here node armed asked raw p same full = record { full = subst (λ k. IsFullAt k p.net.hosts) same full }

pub room_here : (node : ℕ) (armed : Option Known) (asked : WorldEvent) (raw : List ℕ) (p : Play) (r : Result Play PlayError) → node ≡ node_of asked → HasRoomAt node p.net.hosts → Stops IsFull armed asked raw p
    → r ≡ Err Full
room_here node armed asked raw p r same room stops = absurd (never_full node asked p same room stops)

-- the node that a message goes to, and whether there is one

abbrev receiver_or : Option (Option ℕ) → ℕ
receiver_or (Some (Some n)) = n
receiver_or (Some None) = 0
receiver_or None = 0

abbrev there_or : Option (Option ℕ) → ℕ
there_or (Some (Some n)) = 1
there_or (Some None) = 0
there_or None = 0

pub delivery_full : (k node : ℕ) (p : Play) → Some (Some node) ≡ option_map receiver_in (nth k p.world.posted) → IsFullAt node p.net.hosts → StopsDelivery IsFull k p
delivery_full k node p received full = record { node = node; received = sym received; stops = record { full = full } }

pub delivery_room : (k node : ℕ) (p : Play) (r : Result Play PlayError) → Some (Some node) ≡ option_map receiver_in (nth k p.world.posted) → HasRoomAt node p.net.hosts → StopsDelivery IsFull k p → r ≡ Err Full
delivery_room k node p r received room s = absurd (never_full node (deliver_to s.node k) (marked k p) (ap receiver_or (received ∙ s.received)) room s.stops)

pub delivery_nobody : (k : ℕ) (p : Play) (r : Result Play PlayError) → Some None ≡ option_map receiver_in (nth k p.world.posted) → StopsDelivery IsFull k p → r ≡ Err Full
delivery_nobody k p r received s = let no : 0 ≡ 1 = ap there_or (received ∙ s.received) in absurd (omega (arith, no))

pub delivery_unknown : (k : ℕ) (p : Play) (r : Result Play PlayError) → None ≡ option_map receiver_in (nth k p.world.posted) → StopsDelivery IsFull k p → r ≡ Err Full
delivery_unknown k p r received s = let no : 0 ≡ 1 = ap there_or (received ∙ s.received) in absurd (omega (arith, no))

pub err_so : {P Q : Type 0} (r : Result Play PlayError) (x : PlayError) → (P → Q) → IfErr r (λ e. e ≡ x → P) → IfErr r (λ e. e ≡ x → Q)
err_so (Err e) x f h = λ same. f (h same)
err_so (Ok q) x f h = h

pub brings_refused : (bytes : List ℕ) (n status : ℕ) (waits : Bool) (armed : Option Known) (asked : WorldEvent) (p : Play) (r : Result Play PlayError) → Draws bytes (drawns.Refused status waits)
    → armed ≡ armed_at n p.armed → asked ≡ raw_at n → IfOk r (Happens armed asked bytes status p) → IfOk r (Brings bytes n p)
brings_refused bytes n status waits armed asked p (Err e) draws same is h = h
brings_refused bytes n status waits armed asked p (Ok q) draws same is h =
    (drawns.Refused status waits, draws, subst (λ a. Happens a (raw_at n) bytes status p q) same (subst (λ e. Happens armed e bytes status p q) is h))

pub too_many : (armed : Option Known) (asked : WorldEvent) (raw : List ℕ) (p r : Play) (event : WorldEvent) (down : Bool) (calls : ℕ) (net : Seen) → p ≡ r
    → Happened p.count p.world (call_of armed) asked raw p.net net event down calls → 4294967295 < length (p.events ++ events_by down event) → Stops HasMany armed asked raw r
too_many armed asked raw p r event down calls net same h many =
    subst (λ x. Stops HasMany armed asked raw x) same (record { event = event; down = down; calls = calls; net = net; happened = h; many = many })

-- which of them comes first

pub stops_begin : (why : Why) (count : ℕ) (first : Play) → IsOpening count first → StopsAmong why (ups_from count 1) first → StopsBegin why count
stops_begin why count first opens stops = record { first = first; opens = opens; stops = stops }

pub rest_full : (settles : Bool) (es : List WorldEvent) (p : Play) → settles ≡ true → es ≡ settle p.world → StopsAmong IsFull es p → StopsRest IsFull settles p
rest_full settles es p is same stops = record { asked = is; resting = subst (λ l. StopsAmong IsFull l p) same stops }

pub rest_many : (settles : Bool) (es : List WorldEvent) (p : Play) → settles ≡ true → es ≡ settle p.world → StopsAmong HasMany es p → StopsRest HasMany settles p
rest_many settles es p is same stops = record { asked = is; resting = inr (subst (λ l. StopsAmong HasMany l p) same stops) }

pub rest_past : (settles : Bool) (p : Play) → settles ≡ true → 4294967295 < length p.events + length (settle p.world) → StopsRest HasMany settles p
rest_past settles p is many = record { asked = is; resting = inl many }

pub none_begun : (why : Why) (settles : Bool) (all : List Line) (count : ℕ) → count ≡ nodes_of all → StopsBegin why count → HasNoReport why settles all
none_begun why settles all count is stops = inl (subst (StopsBegin why) is stops)

pub none_taken : (why : Why) (settles : Bool) (all : List Line) (count : ℕ) (first : Play) → count ≡ nodes_of all → IsBegun count first → StopsInLines why all first → HasNoReport why settles all
none_taken why settles all count first is begun stops = inr (record { first = first; begun = subst (λ n. IsBegun n first) is begun; stops = inl stops })

pub none_rested : (why : Why) (settles : Bool) (all : List Line) (count : ℕ) (first last : Play) → count ≡ nodes_of all → IsBegun count first → TakesAll all first last → StopsRest why settles last
    → HasNoReport why settles all
none_rested why settles all count first last is begun taken stops =
    inr (record { first = first; begun = subst (λ n. IsBegun n first) is begun; stops = inr (record { last = last; lines_are = taken; stops = stops }) })

-- in a loop: so much was done, and then the next stops

-- what stops behind a play stops behind the one before it
pub flush_stops : (why : Why) (m i k : ℕ) (p c d : Play) → i < m → Some k ≡ lowest (length c.world.posted) 1 c.delivered → d ≡ c → StopsDelivery why k d → StopsFlush why (m - i) c
flush_stops why m i k p c d less is same stops = record {
  done = 0;
  less = omega arith;
  last = c;
  before = refl;
  next = k;
  lowest_is = sym is;
  stops = subst (StopsDelivery why k) same stops;
}

flush_before : (why : Why) (m i k : ℕ) (c q : Play) → i < m → Some k ≡ lowest (length c.world.posted) 1 c.delivered → Delivers k c q → StopsFlush why (m - (i + 1)) q → StopsFlush why (m - i) c
flush_before why m i k c q less is first s = record {
  done = suc s.done;
  less = omega (arith, s.less);
  last = s.last;
  before = (q, subst (λ o. DeliversWhere o c q) is first, s.before);
  next = s.next;
  lowest_is = s.lowest_is;
  stops = s.stops;
}

pub flush_stops_next : (why : Why) (m i k : ℕ) (p c d q : Play) → i < m → Some k ≡ lowest (length c.world.posted) 1 c.delivered → d ≡ c → Delivers k d q
    → (StopsFlush why (m - i) c → StopsFlush why m p) → StopsFlush why (m - (i + 1)) q → StopsFlush why m p
flush_stops_next why m i k p c d q less is same first so s = so (flush_before why m i k c q less is (subst (λ x. Delivers k x q) same first) s)

among_first : (why : Why) (es : List WorldEvent) (e : WorldEvent) (c : Play) → Stops why None e [] c → StopsAmong why (e ∷ es) c
among_first why es e c stops = record { front = []; next = e; rest = es; all = refl; last = c; before = refl; stops = stops }

among_later : (why : Why) (es : List WorldEvent) (e : WorldEvent) (c q : Play) → Happens None e [] 0 c q → StopsAmong why es q → StopsAmong why (e ∷ es) c
among_later why es e c q first s =
    record { front = e ∷ s.front; next = s.next; rest = s.rest; all = ap (λ l. e ∷ l) s.all; last = s.last; before = (q, first, s.before); stops = s.stops }

pub split : (all : List Given) (i : ℕ) (e d : Given) → i < length all → e ≡ get_or all i d → map event_of (drop i all) ≡ event_of e ∷ map event_of (drop (i + 1) all)
split all i e d within is =
    let next : suc i ≡ i + 1 = omega arith in
    ap (map event_of) (drop-cons all i d within ∙ (λ j. sym is j ∷ drop (next j) all))

pub happen_stops : (why : Why) (all : List Given) (i : ℕ) (e d : Given) (p c : Play) → i < length all → e ≡ get_or all i d → (StopsAmong why (map event_of (drop i all)) c → StopsAmong why (map event_of all) p)
    → Stops why None (event_of e) [] c → StopsAmong why (map event_of all) p
happen_stops why all i e d p c within is so stops =
    so (subst (λ es. StopsAmong why es c) (sym (split all i e d within is)) (among_first why (map event_of (drop (i + 1) all)) (event_of e) c stops))

pub happen_stops_next : (why : Why) (all : List Given) (i : ℕ) (e d : Given) (p c q : Play) → i < length all → e ≡ get_or all i d → Happens None (event_of e) [] 0 c q
    → (StopsAmong why (map event_of (drop i all)) c → StopsAmong why (map event_of all) p) → StopsAmong why (map event_of (drop (i + 1) all)) q → StopsAmong why (map event_of all) p
happen_stops_next why all i e d p c q within is first so s =
    so (subst (λ es. StopsAmong why es c) (sym (split all i e d within is)) (among_later why (map event_of (drop (i + 1) all)) (event_of e) c q first s))

pub ups_stop : (why : Why) (m i : ℕ) (p c : Play) → i < m → (StopsAmong why (ups_from (m - i) (i + 1)) c → StopsAmong why (ups_from m 1) p) → Stops why None (up (i + 1)) [] c → StopsAmong why (ups_from m 1) p
ups_stop why m i p c less so stops = so (subst (λ es. StopsAmong why es c) (sym (ups_more m i less)) (among_first why (ups_from (m - (i + 1)) (i + 1 + 1)) (up (i + 1)) c stops))

pub ups_stop_next : (why : Why) (m i : ℕ) (p c q : Play) → i < m → Happens None (up (i + 1)) [] 0 c q → (StopsAmong why (ups_from (m - i) (i + 1)) c → StopsAmong why (ups_from m 1) p)
    → StopsAmong why (ups_from (m - (i + 1)) (i + 1 + 1)) q → StopsAmong why (ups_from m 1) p
ups_stop_next why m i p c q less first so s =
    so (subst (λ es. StopsAmong why es c) (sym (ups_more m i less)) (among_later why (ups_from (m - (i + 1)) (i + 1 + 1)) (up (i + 1)) c q first s))

line_split : (all : List Line) (i : ℕ) (line d : Line) → i < length all → line ≡ get_or all i d → drop i all ≡ line ∷ drop (i + 1) all
line_split all i line d within is = let next : suc i ≡ i + 1 = omega arith in drop-cons all i d within ∙ (λ j. sym is j ∷ drop (next j) all)

pub take_stops : (why : Why) (all : List Line) (i : ℕ) (line d : Line) (p c : Play) → i < length all → line ≡ get_or all i d → (StopsInLines why (drop i all) c → StopsInLines why all p)
    → StopsIn why line c → StopsInLines why all p
take_stops why all i line d p c within is so stops =
    so (record { front = []; next = line; rest = drop (i + 1) all; lines_are = line_split all i line d within is; last = c; before = refl; stops = stops })

pub take_stops_next : (why : Why) (all : List Line) (i : ℕ) (line d : Line) (p c q : Play) → i < length all → line ≡ get_or all i d → Takes line c q
    → (StopsInLines why (drop i all) c → StopsInLines why all p) → StopsInLines why (drop (i + 1) all) q → StopsInLines why all p
take_stops_next why all i line d p c q within is first so s =
    so (record { front = line ∷ s.front; next = s.next; rest = s.rest; lines_are = line_split all i line d within is ∙ ap (λ l. line ∷ l) s.lines_are; last = s.last; before = (q, first, s.before); stops = s.stops })
