-- Lines that arm no call and bring no bytes do to the world of a play what they are computed to do.
use Rattle.std.proofs.Common.{ℕ, zero, suc, ◌+◌, ◌-◌, ◌%◌, ◌≡◌, refl, List, [], ◌∷◌, length, ap, subst, sym, ◌∙◌}
use Rattle.std.specs.Prelude.{Bool, true, false, Option, Some, None, if◌then◌else◌, nat_eq, nat_lt, option_and_then, option_map, replicate, slice_get, slice_set}
use Rattle.std.specs.List.{AllByRecursion}
use Rattle.armed_calls.specs.declared.fault.Armed.{Armed}
use Rattle.asked_nets.specs.Behind.{world_behind}
use Rattle.at_base.specs.declared.event.Local.TheVariants as locals
use Rattle.at_base.specs.declared.notice.Kind.TheVariants as kinds
use Rattle.at_model.specs.Views.{up, deliver_to, tick_at, request, begin_at, interpose_at, work_at, commit_at}
use Rattle.at_model.specs.World.{Crash, WorldEvent, example_hosts, node_of, nth, opening, world_step}
use Rattle.replay_cmd.specs.Deliveries.{lowest, yes_at}
use Rattle.replay_cmd.specs.MadeCourses.{Course, all_taken, all_up, begun, course_made, delivered_to, delivers_lowest, delivers_where, flushes, goes_to, happens, taken}
use Rattle.replay_cmd.specs.ReportOf.{armed_at, nobody_armed, receiver_in}
use Rattle.schedules.specs.Generator.{a_begin, a_work, activity, asking, chosen, disturbing, drawn, lines_from, made, message, next, next_line, other_node, plain, with_draw}
use Rattle.schedules.specs.declared.line.Line.{Line}
use Rattle.schedules.specs.declared.line.Line.TheVariants as lines
use Rattle.net_plays.specs.Asks.{IsBare}
use Rattle.net_plays.specs.MadePlays.{MadeArePlayed}
use Rattle.net_plays.specs.PlayedLines.{Comes, DeliveredTo, Delivers, DeliversWhere, Flushes, GoesTo, Takes, TakesAll, marked}
use Rattle.net_plays.specs.Plays.{AllHappen, Happens, IsOpening, Play, ups_from}
use Rattle.net_plays.proofs.ReadEvents.{bare_is_asked}

-- no call is armed

abbrev none_of : ℕ → List (Option Armed)
none_of n = replicate n None

put_none : (n k : ℕ) → slice_set (none_of n) k None ≡ none_of n
put_none zero k = refl
put_none (suc n) zero = refl
put_none (suc n) (suc k) = ap (λ (xs : List (Option Armed)). None ∷ xs) (put_none n k)

at_none : (n k : ℕ) → option_and_then (λ (a : Option Armed). a) (slice_get (none_of n) k) ≡ None
at_none zero zero = refl
at_none zero (suc k) = refl
at_none (suc n) zero = refl
at_none (suc n) (suc k) = at_none n k

-- a play that has come as far
record IsAlike (p : Play) (c : Course) : Type 0 where
  world : p.world ≡ c.world
  delivered : p.delivered ≡ c.delivered
  calm : p.armed ≡ nobody_armed

happens_alike : (e : WorldEvent) (p q : Play) (c : Course) → IsBare e → Happens None e [] 0 p q → IsAlike p c → IsAlike q (happens e c)
happens_alike e p q c bare t h =
    let kept = bare_is_asked p.count p.world e [] p.net q.net t.event t.down t.calls bare t.happened in
    record {
      world = t.world
          ∙ (ap (λ d. world_behind d p.world t.event) kept.stays ∙ (ap (world_step p.world) kept.same ∙ ap (λ w. world_step w e) h.world));
      delivered = t.delivered ∙ h.delivered;
      calm = t.armed_is ∙ (ap (λ xs. slice_set xs (node_of e - 1) None) h.calm ∙ put_none 8 (node_of e - 1));
    }

comes_alike : (e : WorldEvent) (p q : Play) (c : Course) → IsBare e → Comes e p q → IsAlike p c → IsAlike q (happens e c)
comes_alike e p q c bare came h =
    happens_alike e p q c bare (subst (λ o. Happens o e [] 0 p q) (ap (armed_at (node_of e)) h.calm ∙ at_none 8 (node_of e - 1)) came) h

-- what is printed beside it is no matter
stays_alike : (p q : Play) (c : Course) → q.world ≡ p.world → q.delivered ≡ p.delivered → q.armed ≡ p.armed → IsAlike p c → IsAlike q c
stays_alike p q c world delivered armed h = record { world = world ∙ h.world; delivered = delivered ∙ h.delivered; calm = armed ∙ h.calm }

as_it_was : (p q : Play) (c : Course) → q ≡ p → IsAlike p c → IsAlike q c
as_it_was p q c is h = subst (λ (x : Play). IsAlike x c) (sym is) h

goes_alike : (k : ℕ) (receiver : Option ℕ) (p q : Play) (c : Course) → GoesTo k receiver p q → IsAlike p c → IsAlike q (goes_to k receiver c)
goes_alike k None p q c is h = stays_alike p q c (ap (λ (x : Play). x.world) is) (ap (λ (x : Play). x.delivered) is) (ap (λ (x : Play). x.armed) is) h
goes_alike k (Some n) p q c came h = comes_alike (deliver_to n k) p q c (refl, refl) came h

delivered_alike : (k : ℕ) (o : Option (Option ℕ)) (p q : Play) (c : Course) → DeliveredTo k o p q → IsAlike p c → IsAlike q (delivered_to k o c)
delivered_alike k None p q c is h = stays_alike p q c (ap (λ (x : Play). x.world) is) (ap (λ (x : Play). x.delivered) is) (ap (λ (x : Play). x.armed) is) h
delivered_alike k (Some receiver) p q c went h =
    goes_alike k receiver (marked k p) q (record c { delivered = yes_at (k - 1) c.delivered }) went
    (record { world = h.world; delivered = ap (yes_at (k - 1)) h.delivered; calm = h.calm })

delivers_alike : (k : ℕ) (p q : Play) (c : Course) → Delivers k p q → IsAlike p c → IsAlike q (delivered_to k (option_map receiver_in (nth k c.world.posted)) c)
delivers_alike k p q c delivered h =
    subst (λ w. IsAlike q (delivered_to k (option_map receiver_in (nth k w.posted)) c)) h.world
    (delivered_alike k (option_map receiver_in (nth k p.world.posted)) p q c delivered h)

where_alike : (o : Option ℕ) (p q : Play) (c : Course) → DeliversWhere o p q → IsAlike p c → IsAlike q (delivers_where o c)
where_alike None p q c is h = as_it_was p q c is h
where_alike (Some k) p q c delivered h = delivers_alike k p q c delivered h

flushes_alike : (most : ℕ) (p q : Play) (c : Course) → Flushes most p q → IsAlike p c → IsAlike q (flushes most c)
flushes_alike zero p q c is h = as_it_was p q c is h
flushes_alike (suc most) p q c (r, first, rest) h =
    let same : lowest (length p.world.posted) 1 p.delivered ≡ lowest (length c.world.posted) 1 c.delivered =
    ap (λ w. lowest (length w.posted) 1 p.delivered) h.world ∙ ap (lowest (length c.world.posted) 1) h.delivered in
    flushes_alike most r q (delivers_lowest c) rest
    (subst (λ o. IsAlike r (delivers_where o c)) same (where_alike (lowest (length p.world.posted) 1 p.delivered) p r c first h))

-- a line that arms no call, and brings no bytes
abbrev IsCalm : Line → Type 0
IsCalm (lines.Stop n call left) = ⊥
IsCalm (lines.Fail n call) = ⊥
IsCalm (lines.Inject n digits) = ⊥
IsCalm other = Unit {0}

takes_alike : (line : Line) (p q : Play) (c : Course) → IsCalm line → Takes line p q → IsAlike p c → IsAlike q (taken line c)
takes_alike (lines.Nodes count) p q c calm is h = as_it_was p q c is h
takes_alike (lines.Begin n coordinator ms) p q c calm came h = comes_alike (begin_at n coordinator ms) p q c (refl, refl) came h
takes_alike (lines.Interpose n activity coordinator) p q c calm came h = comes_alike (interpose_at n activity coordinator) p q c (refl, refl) came h
takes_alike (lines.Work n activity service kind vote) p q c calm came h = comes_alike (work_at n activity service kind vote) p q c (refl, refl) came h
takes_alike (lines.Commit n activity) p q c calm came h = comes_alike (commit_at n activity) p q c (refl, refl) came h
takes_alike (lines.Rollback n activity) p q c calm came h = comes_alike (request n (locals.Rollback activity)) p q c (refl, refl) came h
takes_alike (lines.Deliver k) p q c calm delivered h = delivers_alike k p q c delivered h
takes_alike (lines.Flush most) p q c calm flushed h = flushes_alike most p q c flushed h
takes_alike (lines.Tick n ms) p q c calm came h = comes_alike (tick_at n ms) p q c (refl, refl) came h
takes_alike (lines.Crash n) p q c calm came h = comes_alike (Crash n) p q c tt came h
takes_alike (lines.Up n) p q c calm came h = comes_alike (up n) p q c (refl, refl) came h
takes_alike (lines.Stop n call left) p q c calm came h = absurd calm
takes_alike (lines.Fail n call) p q c calm came h = absurd calm
takes_alike (lines.Inject n digits) p q c calm came h = absurd calm

lines_alike : (all : List Line) (p q : Play) (c : Course) → AllByRecursion IsCalm all → TakesAll all p q → IsAlike p c → IsAlike q (all_taken all c)
lines_alike [] p q c calm is h = as_it_was p q c is h
lines_alike (line ∷ rest) p q c calm (r, first, behind) h = lines_alike rest r q (taken line c) calm.1 behind (takes_alike line p r c calm.0 first h)

ups_alike : (count n : ℕ) (p q : Play) (c : Course) → AllHappen (ups_from count n) p q → IsAlike p c → IsAlike q (all_up count n c)
ups_alike zero n p q c is h = as_it_was p q c is h
ups_alike (suc count) n p q c (r, first, rest) h =
    ups_alike count (n + 1) r q (happens (up n) c) rest (happens_alike (up n) p r c (refl, refl) first h)

opening_alike : (count : ℕ) (p : Play) → IsOpening count p → IsAlike p (record { world = opening (example_hosts count); events = []; delivered = [] })
opening_alike count p o =
    subst (λ (x : Play). IsAlike x (record { world = opening (example_hosts count); events = []; delivered = [] })) (sym o.is)
    (record { world = refl; delivered = refl; calm = refl })

-- so are the lines that are made

asking_calm : (r x : ℕ) → IsCalm (asking r x).line
asking_calm r x = by_case (nat_lt r 2) (nat_eq r 2) (nat_eq r 3) (nat_eq r 4)
  where
    by_case : (a b c d : Bool) → IsCalm (if a then plain x a_begin else if b then with_draw x (λ m. lines.Interpose 1 (activity m) 3) else if c then with_draw x (a_work kinds.Durable) else if d then with_draw x (a_work kinds.Volatile) else with_draw x (λ m. lines.Commit 1 (activity m))).line
    by_case true b c d = tt
    by_case false true c d = tt
    by_case false false true d = tt
    by_case false false false true = tt
    by_case false false false false = tt

disturbing_calm : (r x : ℕ) → IsCalm (disturbing r x).line
disturbing_calm r x = by_case (nat_eq r 11) (nat_eq r 12) (nat_eq r 13) (nat_eq r 14)
  where
    by_case : (a b c d : Bool) → IsCalm (if a then with_draw x (λ m. lines.Deliver (message m)) else if b then with_draw x (λ m. lines.Tick (other_node m) 5000) else if c then with_draw x (λ m. lines.Crash (other_node m)) else if d then with_draw x (λ m. lines.Up (other_node m)) else with_draw x (λ m. lines.Rollback 1 (activity m))).line
    by_case true b c d = tt
    by_case false true c d = tt
    by_case false false true d = tt
    by_case false false false true = tt
    by_case false false false false = tt

chosen_calm : (r x : ℕ) → IsCalm (chosen r x).line
chosen_calm r x = by_case (nat_lt r 6) (nat_lt r 11)
  where
    by_case : (a b : Bool) → IsCalm (if a then asking r x else if b then plain x (lines.Flush 8) else disturbing r x).line
    by_case true b = asking_calm r x
    by_case false true = tt
    by_case false false = disturbing_calm r x

made_calm : (count x : ℕ) → AllByRecursion IsCalm (lines_from count x)
made_calm zero x = tt
made_calm (suc count) x = (chosen_calm (drawn (next x) % 16) (next x), made_calm count (next_line x).state)

pub made_are_played : MadeArePlayed
made_are_played seed steps play of =
    let first : IsAlike of.first (begun 4) = ups_alike 4 1 of.begun.first of.first _ of.begun.ups (opening_alike 4 of.begun.first of.begun.opens) in
    let last : IsAlike of.last (course_made seed steps) = lines_alike (made seed steps) of.first of.last (begun 4) (tt, made_calm steps seed) of.lines first in
    (as_it_was of.last play (course_made seed steps) of.rests last).world
