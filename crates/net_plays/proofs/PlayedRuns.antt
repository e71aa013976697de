-- The world of a play is that of the run of its events; what holds of every run holds of it; and with the events that settle it, it comes to rest.
use Rattle.std.proofs.Common.{ℕ, zero, suc, ◌+◌, ◌≡◌, refl, List, [], ◌∷◌, ◌++◌, length, drop, sym, ap, subst, ◌∙◌}
use Rattle.std.proofs.lemmas.List.{append_assoc}
use Rattle.std.specs.Prelude.{Option, Some, None, Bool, true, false}
use Rattle.std.specs.List.{AllByRecursion}
use Rattle.armed_calls.specs.declared.fault.Armed.{Armed}
use Rattle.asked_nets.specs.Behind.{events_by, world_behind}
use Rattle.at_model.specs.Book.{Book}
use Rattle.at_model.specs.Views.{deliver_to}
use Rattle.at_model.specs.World.{Crash, HaveOwnAddresses, Hosts, Node, World, WorldEvent, example_hosts, node_of, opening, run_of, run_on, world_step}
use Rattle.model_laws.specs.Agreement.{Agrees, HasOneSuperior, IsAgreed, IsBehindAnswers, IsToldTruly}
use Rattle.model_laws.specs.MadeIds.{MakesNoIdTwice}
use Rattle.model_laws.specs.Registrations.{EnlistsUnderOne}
use Rattle.model_laws.specs.Settlement.{MayStart, Settles, Settling, all_also, all_up, also, deliver_next, deliveries_from, first_received, is_settled, most_deliveries, settle, settle_from, settle_round, settle_rounds, settled, ticks, up_if, ups, waiting}
use Rattle.replay_cmd.specs.Laws.{IsSafe}
use Rattle.schedules.specs.declared.line.Line.{Line}
use Rattle.net_plays.specs.Asks.{IsBare}
use Rattle.net_plays.specs.PlayedLines.{TakesAll}
use Rattle.net_plays.specs.Plays.{AllHappen, Happens, IsBegun, IsOpening, Play, Rests}
use Rattle.net_plays.proofs.PlayedLines.{Keeps, begun_keeps, lines_keep, rests_keep}
use Rattle.net_plays.proofs.ReadEvents.{bare_is_asked}

pub run_append : (w : World) (es : List WorldEvent) (e : WorldEvent) → run_on w (es ++ e ∷ []) ≡ world_step (run_on w es) e
run_append w [] e = refl
run_append w (x ∷ es) e = run_append (world_step w x) es e

-- so many nodes, and a run of them
pub record IsOfRun (count : ℕ) (p : Play) : Type 0 where
  pub many : p.count ≡ count
  pub run : p.world ≡ run_of (example_hosts count) p.events

pub run_behind : (hosts : Hosts) (down : Bool) (w : World) (es : List WorldEvent) (e : WorldEvent) → w ≡ run_of hosts es → world_behind down w e ≡ run_of hosts (es ++ events_by down e)
run_behind hosts false w es e h = ap (λ v. world_step v e) h ∙ sym (run_append (opening hosts) es e)
run_behind hosts true w es e h =
    ap (λ v. world_step v (Crash (node_of e))) (ap (λ v. world_step v e) h ∙ sym (run_append (opening hosts) es e))
    ∙ (sym (run_append (opening hosts) (es ++ e ∷ []) (Crash (node_of e))) ∙ ap (run_of hosts) (append_assoc es (e ∷ []) (Crash (node_of e) ∷ [])))

happens_run : (count : ℕ) (armed : Option Armed) (asked : WorldEvent) (raw : List ℕ) (drawn : ℕ) (p q : Play) → Happens armed asked raw drawn p q → IsOfRun count p → IsOfRun count q
happens_run count armed asked raw drawn p q t h = record {
  many = t.count ∙ h.many;
  run = t.world ∙ (run_behind (example_hosts count) t.down p.world p.events t.event h.run ∙ ap (run_of (example_hosts count)) (sym t.events));
}

keeps_run : (count : ℕ) → Keeps (IsOfRun count)
keeps_run count = record {
  happens = happens_run count;
  forges = λ n p h. record { many = h.many; run = h.run };
  misses = λ k p h. record { many = h.many; run = h.run };
  arms = λ n armed p h. record { many = h.many; run = h.run };
  marks = λ k p h. record { many = h.many; run = h.run };
}

opening_run : (count : ℕ) (p : Play) → IsOpening count p → IsOfRun count p
opening_run count p o = subst (IsOfRun count) (sym o.is) (record { many = refl; run = refl })

pub lines_run : (count : ℕ) (all : List Line) (first last : Play) → IsBegun count first → TakesAll all first last → IsOfRun count last
lines_run count all first last begun taken =
    lines_keep (IsOfRun count) (keeps_run count) all first last taken (begun_keeps (IsOfRun count) (keeps_run count) count first begun (opening_run count begun.first begun.opens))

pub play_run : (count : ℕ) (settles : Bool) (all : List Line) (first last play : Play) → IsBegun count first → TakesAll all first last → Rests settles last play → IsOfRun count play
play_run count settles all first last play begun taken rests = rests_keep (IsOfRun count) (keeps_run count) settles last play rests (lines_run count all first last begun taken)

-- what holds of each run

pub is_safe : (count : ℕ) (p : Play) → IsOfRun count p → HaveOwnAddresses (example_hosts count) → Agrees → EnlistsUnderOne → MakesNoIdTwice → IsSafe count p.world
is_safe count p r apart agrees superior made = record {
  of_run = record { events = p.events; run = r.run };
  agreed = subst IsAgreed (sym r.run) (agrees.agreed (example_hosts count) p.events apart);
  behind = subst IsBehindAnswers (sym r.run) (agrees.behind (example_hosts count) p.events apart);
  told = subst IsToldTruly (sym r.run) (agrees.told (example_hosts count) p.events apart);
  superior = subst HasOneSuperior (sym r.run) (superior (example_hosts count) p.events apart);
  ids = λ n. made.apart (example_hosts count) n p.events;
}

-- the events that settle a world have no fates and no stop

abbrev pub AreBare : List WorldEvent → Type 0
AreBare es = AllByRecursion IsBare es

bare_more : (es : List WorldEvent) (e : WorldEvent) → AreBare es → IsBare e → AreBare (es ++ e ∷ [])
bare_more [] e h b = (b, tt)
bare_more (x ∷ es) e h b = (h.0, bare_more es e h.1 b)

bare_also : (es : List WorldEvent) (s : Settling) → AreBare es → AreBare s.events → AreBare (all_also es s).events
bare_also [] s h k = k
bare_also (e ∷ es) s h k = bare_also es (also e s) h.1 (bare_more s.events e k h.0)

bare_ups : (n : ℕ) (xs : List Node) → AreBare (ups n xs)
bare_ups n [] = tt
bare_ups n (x ∷ xs) = by (bare_ups (n + 1) xs) x.book
  where
    by : AreBare (ups (n + 1) xs) → (o : Option Book) → AreBare (up_if n o ++ ups (n + 1) xs)
    by rest None = ((refl, refl), rest)
    by rest (Some b) = rest

bare_ticks : (n : ℕ) (xs : List Node) → AreBare (ticks n xs)
bare_ticks n [] = tt
bare_ticks n (x ∷ xs) = ((refl, refl), bare_ticks (n + 1) xs)

bare_deliveries : (most passed : ℕ) (s : Settling) → AreBare s.events → AreBare (deliveries_from most passed s).events
unfolding deliveries_from
bare_deliveries zero passed s h = h
bare_deliveries (suc most) passed s h = by (λ k t j. bare_deliveries most k t j) (first_received (passed + 1) (drop passed s.world.posted))
  where
    by : ((k : ℕ) (t : Settling) → AreBare t.events → AreBare (deliveries_from most k t).events) → (o : Option (ℕ × ℕ)) → AreBare (deliver_next o (deliveries_from most) s).events
    by rest None = h
    by rest (Some p) = rest p.0 (also (deliver_to p.1 p.0) s) (bare_more s.events (deliver_to p.1 p.0) h (refl, refl))

bare_round : (most : ℕ) (s : Settling) → AreBare s.events → AreBare (settle_round most s).events
unfolding settle_round
bare_round most s h = bare_deliveries most (length s.world.posted) (all_also (ticks 1 s.world.nodes) s) (bare_also (ticks 1 s.world.nodes) s (bare_ticks 1 s.world.nodes) h)

bare_rounds : (n most : ℕ) (s : Settling) → AreBare s.events → AreBare (settle_rounds n most s).events
unfolding settle_rounds
bare_rounds zero most s h = h
bare_rounds (suc n) most s h = bare_rounds n most (settle_round most s) (bare_round most s h)

pub bare_settle : (w : World) → AreBare (settle w)
unfolding settle settled settle_from
bare_settle w =
    bare_rounds 8 (most_deliveries (waiting (all_up w).world)) (all_up w) (bare_also (ups 1 w.nodes) (record { world = w; events = [] }) (bare_ups 1 w.nodes) tt)

-- so they happen as they are

happened_as : (es : List WorldEvent) (p q : Play) → AreBare es → AllHappen es p q → q.world ≡ run_on p.world es
happened_as [] p q h is = ap (λ (x : Play). x.world) is
happened_as (e ∷ es) p q h (r, first, rest) =
    let kept = bare_is_asked p.count p.world e [] p.net r.net first.event first.down first.calls h.0 first.happened in
    let step : r.world ≡ world_step p.world e = first.world ∙ (ap (λ d. world_behind d p.world first.event) kept.stays ∙ ap (world_step p.world) kept.same) in
    happened_as es r q h.1 rest ∙ ap (λ w. run_on w es) step

pub comes_to_rest : (count : ℕ) (settles : Bool) (last play : Play) → IsOfRun count last → Rests settles last play → HaveOwnAddresses (example_hosts count) → Settles
    → settles ≡ true → AllByRecursion MayStart last.world.nodes → is_settled play.world ≡ true
comes_to_rest count false last play r rests apart law is start = absurd cc
comes_to_rest count true last play r rests apart law is start =
    ap is_settled (happened_as (settle last.world) last play (bare_settle last.world) rests)
    ∙ subst (λ v. is_settled (run_on v (settle v)) ≡ true) (sym r.run) (law (example_hosts count) last.events apart (subst (λ v. AllByRecursion MayStart v.nodes) r.run start)).rests
