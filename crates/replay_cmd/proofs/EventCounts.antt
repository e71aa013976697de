-- How many events the schedule of a seed has, line by line.
use Rattle.std.proofs.Common.{ℕ, zero, suc, ◌+◌, ◌-◌, ◌*◌, ◌%◌, ◌≡◌, ◌≤◌, ◌<◌, List, [], ◌∷◌, ◌++◌, Bool, true, false, length, map, ap, ◌∙◌, arith, sym, subst}
use Rattle.std.proofs.lemmas.List.{length-append, length-map}
use Rattle.std.specs.Prelude.{Option, Some, None, if◌then◌else◌, nat_eq, nat_lt, option_map}
use Rattle.at_base.specs.declared.event.Local.TheVariants as locals
use Rattle.at_base.specs.declared.notice.Kind.TheVariants as kinds
use Rattle.at_model.specs.Views.{up, deliver_to, tick_at, request, begin_at, interpose_at, work_at, commit_at}
use Rattle.at_model.specs.World.{Crash, World, WorldEvent, nth, opening, world_step, example_hosts}
use Rattle.schedules.specs.Generator.{a_begin, a_work, asking, chosen, disturbing, drawn, activity, lines_from, made, message, next, next_line, other_node, plain, with_draw}
use Rattle.schedules.specs.declared.line.Line.{Line}
use Rattle.schedules.specs.declared.line.Line.TheVariants as lines
use Rattle.world_laws.specs.Events.{event_of}
use Rattle.world_laws.specs.declared.event.WorldEvent.{WorldEvent as Given}
use Rattle.replay_cmd.specs.Deliveries.{lowest}
use Rattle.replay_cmd.specs.MadeCourses.{Course, HasTooManyEvents, all_taken, all_up, begun, course_made, delivered_to, delivers, delivers_lowest, delivers_where, flushes, happens, taken}
use Rattle.replay_cmd.specs.ReportOf.{receiver_in}
use Rattle.replay_cmd.proofs.Loops.{flush_more, up_more}
use Rattle.replay_cmd.proofs.MadeRuns.{all_on, flush_on, up_on}

-- events never become fewer

abbrev IsMore : World → List WorldEvent → Type 0
IsMore w es = 4294967295 < length es

more : (w : World) (es : List WorldEvent) (e : WorldEvent) → IsMore w es → IsMore (world_step w e) (es ++ e ∷ [])
more w es e h = omega (arith, h, length-append es (e ∷ []))

pub too_many : (events : List Given) (e : WorldEvent) → 4294967295 ≤ length events → 4294967295 < length (map event_of events ++ e ∷ [])
too_many events e h = omega (arith, h, length-map events event_of, length-append (map event_of events) (e ∷ []))

pub flush_many : (m t k : ℕ) (c first : Course) → t < m → Some k ≡ lowest (length c.world.posted) 1 c.delivered → flushes (m - t) c ≡ flushes m first
    → HasTooManyEvents (delivers k c) → HasTooManyEvents (flushes m first)
flush_many m t k c first within found same many =
    subst HasTooManyEvents (sym (flush_more m t k c within found) ∙ same) (flush_on IsMore more (m - (t + 1)) (delivers k c) many)

pub up_many : (m p : ℕ) (c first : Course) → p < m → all_up (m - p) (p + 1) c ≡ all_up m 1 first
    → HasTooManyEvents (happens (up (p + 1)) c) → HasTooManyEvents (all_up m 1 first)
up_many m p c first within same many =
    subst HasTooManyEvents (sym (up_more m p c within) ∙ same) (up_on IsMore more (m - (p + 1)) (p + 1 + 1) (happens (up (p + 1)) c) many)

pub take_many : (all behind next : List Line) (line : Line) (c first : Course) → behind ≡ line ∷ next → all_taken behind c ≡ all_taken all first
    → HasTooManyEvents (taken line c) → HasTooManyEvents (all_taken all first)
take_many all behind next line c first here same many =
    subst HasTooManyEvents (sym (ap (λ ls. all_taken ls c) here) ∙ same) (all_on IsMore more next (taken line c) many)

pub begun_many : (seed steps : ℕ) → HasTooManyEvents (begun 4) → HasTooManyEvents (course_made seed steps)
begun_many seed steps many = all_on IsMore more (made seed steps) (begun 4) many

-- the schedule of a seed has few

deliver_count : (k : ℕ) (receiver : Option (Option ℕ)) (c : Course) → length (delivered_to k receiver c).events ≤ length c.events + 1
deliver_count k None c = omega arith
deliver_count k (Some None) c = omega arith
deliver_count k (Some (Some n)) c = omega (arith, length-append c.events (deliver_to n k ∷ []))

where_count : (number : Option ℕ) (c : Course) → length (delivers_where number c).events ≤ length c.events + 1
where_count None c = omega arith
where_count (Some k) c = deliver_count k (option_map receiver_in (nth k c.world.posted)) c

flush_count : (most : ℕ) (c : Course) → length (flushes most c).events ≤ length c.events + most
flush_count zero c = omega arith
flush_count (suc most) c = omega (arith, flush_count most (delivers_lowest c), where_count (lowest (length c.world.posted) 1 c.delivered) c)

abbrev IsShort : Line → Type 0
IsShort (lines.Flush most) = most ≤ 8
IsShort other = Unit {0}

one_count : (e : WorldEvent) (c : Course) → length (happens e c).events ≤ length c.events + 8
one_count e c = omega (arith, length-append c.events (e ∷ []))

taken_count : (line : Line) (c : Course) → IsShort line → length (taken line c).events ≤ length c.events + 8
taken_count (lines.Nodes n) c h = omega arith
taken_count (lines.Begin n coordinator ms) c h = one_count (begin_at n coordinator ms) c
taken_count (lines.Interpose n activity coordinator) c h = one_count (interpose_at n activity coordinator) c
taken_count (lines.Work n activity service kind vote) c h = one_count (work_at n activity service kind vote) c
taken_count (lines.Commit n activity) c h = one_count (commit_at n activity) c
taken_count (lines.Rollback n activity) c h = one_count (request n (locals.Rollback activity)) c
taken_count (lines.Deliver k) c h = omega (arith, deliver_count k (option_map receiver_in (nth k c.world.posted)) c)
taken_count (lines.Flush most) c h = omega (arith, h, flush_count most c)
taken_count (lines.Tick n ms) c h = one_count (tick_at n ms) c
taken_count (lines.Crash n) c h = one_count (Crash n) c
taken_count (lines.Up n) c h = one_count (up n) c
taken_count (lines.Stop n call left) c h = omega arith
taken_count (lines.Fail n call) c h = omega arith
taken_count (lines.Inject n digits) c h = omega arith

asking_short : (r x : ℕ) → IsShort (asking r x).line
asking_short r x = by_case (nat_lt r 2) (nat_eq r 2) (nat_eq r 3) (nat_eq r 4)
  where
    by_case : (a b c d : Bool) → IsShort (if a then plain x a_begin else if b then with_draw x (λ m. lines.Interpose 1 (activity m) 3) else if c then with_draw x (a_work kinds.Durable) else if d then with_draw x (a_work kinds.Volatile) else with_draw x (λ m. lines.Commit 1 (activity m))).line
    by_case true b c d = tt
    by_case false true c d = tt
    by_case false false true d = tt
    by_case false false false true = tt
    by_case false false false false = tt

disturbing_short : (r x : ℕ) → IsShort (disturbing r x).line
disturbing_short r x = by_case (nat_eq r 11) (nat_eq r 12) (nat_eq r 13) (nat_eq r 14)
  where
    by_case : (a b c d : Bool) → IsShort (if a then with_draw x (λ m. lines.Deliver (message m)) else if b then with_draw x (λ m. lines.Tick (other_node m) 5000) else if c then with_draw x (λ m. lines.Crash (other_node m)) else if d then with_draw x (λ m. lines.Up (other_node m)) else with_draw x (λ m. lines.Rollback 1 (activity m))).line
    by_case true b c d = tt
    by_case false true c d = tt
    by_case false false true d = tt
    by_case false false false true = tt
    by_case false false false false = tt

chosen_short : (r x : ℕ) → IsShort (chosen r x).line
chosen_short r x = by_case (nat_lt r 6) (nat_lt r 11)
  where
    by_case : (a b : Bool) → IsShort (if a then asking r x else if b then plain x (lines.Flush 8) else disturbing r x).line
    by_case true b = asking_short r x
    by_case false true = omega arith
    by_case false false = disturbing_short r x

all_count : (count x : ℕ) (c : Course) → length (all_taken (lines_from count x) c).events ≤ length c.events + 8 * count
all_count zero x c = omega arith
all_count (suc count) x c =
    omega (arith, all_count count (next_line x).state (taken (next_line x).line c), taken_count (next_line x).line c (chosen_short (drawn (next x) % 16) (next x)))

up_count : (left n : ℕ) (c : Course) → length (all_up left n c).events ≡ length c.events + left
up_count zero n c = omega arith
up_count (suc left) n c = omega (arith, up_count left (n + 1) (happens (up n) c), length-append c.events (up n ∷ []))

pub made_few : (seed steps : ℕ) → steps ≤ 9999 → HasTooManyEvents (course_made seed steps) → ⊥
made_few seed steps h many =
    omega (arith, h, many, all_count steps seed (begun 4), up_count 4 1 (record { world = opening (example_hosts 4); events = []; delivered = [] }))
