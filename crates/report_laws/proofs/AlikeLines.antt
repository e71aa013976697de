-- Two plays that are alike stay so behind each line of a schedule.
use Rattle.std.proofs.Common.{ℕ, zero, suc, ◌-◌, ◌++◌, ◌≡◌, refl, List, [], ◌∷◌, length, ap, subst, sym, ◌∙◌}
use Rattle.std.specs.Prelude.{Bool, true, false, Option, Some, None, option_map, slice_set}
use Rattle.armed_calls.specs.Faults.{raw_at}
use Rattle.armed_calls.specs.declared.fault.Armed.{Armed}
use Rattle.armed_calls.specs.declared.fault.Fault.TheVariants as faults
use Rattle.at_base.specs.declared.event.Local.TheVariants as locals
use Rattle.at_model.specs.Views.{up, deliver_to, tick_at, request, begin_at, interpose_at, work_at, commit_at}
use Rattle.at_model.specs.World.{Crash, WorldEvent, node_of, nth}
use Rattle.model_laws.specs.Settlement.{settle}
use Rattle.raw_requests.specs.declared.Drawn.{Drawn}
use Rattle.raw_requests.specs.declared.Drawn.TheVariants as drawns
use Rattle.replay_cmd.specs.Deliveries.{lowest, yes_at}
use Rattle.replay_cmd.specs.Lines.{forged_line, no_message_line}
use Rattle.replay_cmd.specs.ReportOf.{armed_at, receiver_in}
use Rattle.schedules.specs.Values.{bytes_in}
use Rattle.schedules.specs.declared.line.Line.{Line}
use Rattle.schedules.specs.declared.line.Line.TheVariants as lines
use Rattle.net_plays.specs.PlayedLines.{Brings, BringsDrawn, Comes, DeliveredTo, Delivers, DeliversWhere, Flushes, GoesTo, Takes, TakesAll, marked, printed, with_armed}
use Rattle.net_plays.specs.Plays.{AllHappen, Happens, Play, Rests}
use Rattle.report_laws.proofs.AlikePlays.{AreAlike, GoOnAlike, WorldLaws, go_on}
use Rattle.report_laws.proofs.NodeLaws.{NodeLaws}

-- what is printed, armed and marked beside events

prints : (line : List ℕ) (p q : Play) → GoOnAlike p q → GoOnAlike (printed line p) (printed line q)
prints line p q G = record {
  alike = record {
    few = G.alike.few;
    count = G.alike.count;
    net = G.alike.net;
    mirrors = G.alike.mirrors;
    also = G.alike.also;
    world = G.alike.world;
    events = G.alike.events;
    delivered = G.alike.delivered;
    armed = G.alike.armed;
    text = ap (λ t. t ++ line) G.alike.text;
  };
  run = G.run;
  begun = G.begun;
}

arms : (n : ℕ) (armed : Option Armed) (p q : Play) → GoOnAlike p q → GoOnAlike (with_armed n armed p) (with_armed n armed q)
arms n armed p q G = record {
  alike = record {
    few = G.alike.few;
    count = G.alike.count;
    net = G.alike.net;
    mirrors = G.alike.mirrors;
    also = G.alike.also;
    world = G.alike.world;
    events = G.alike.events;
    delivered = G.alike.delivered;
    armed = ap (λ l. slice_set l (n - 1) armed) G.alike.armed;
    text = G.alike.text;
  };
  run = G.run;
  begun = G.begun;
}

marks : (k : ℕ) (p q : Play) → GoOnAlike p q → GoOnAlike (marked k p) (marked k q)
marks k p q G = record {
  alike = record {
    few = G.alike.few;
    count = G.alike.count;
    net = G.alike.net;
    mirrors = G.alike.mirrors;
    also = G.alike.also;
    world = G.alike.world;
    events = G.alike.events;
    delivered = ap (yes_at (k - 1)) G.alike.delivered;
    armed = G.alike.armed;
    text = G.alike.text;
  };
  run = G.run;
  begun = G.begun;
}

both : (p r q s : Play) → r ≡ p → s ≡ q → GoOnAlike p q → GoOnAlike r s
both p r q s e f G = subst (λ z. GoOnAlike z s) (sym e) (subst (GoOnAlike p) (sym f) G)

arms_alike : (n : ℕ) (armed : Option Armed) (p r q s : Play) → GoOnAlike p q → r ≡ with_armed n armed p → s ≡ with_armed n armed q → GoOnAlike r s
arms_alike n armed p r q s G e f = both (with_armed n armed p) r (with_armed n armed q) s e f (arms n armed p q G)

module _ (L : NodeLaws) (W : WorldLaws) where
  all_alike : (es : List WorldEvent) (p r q s : Play) → GoOnAlike p q → AllHappen es p r → AllHappen es q s → GoOnAlike r s
  all_alike [] p r q s G e f = both p r q s e f G
  all_alike (e ∷ es) p r q s G (a, first, rest) (b, one, others) = all_alike es a r b s (go_on L W None e [] 0 p a q b G first one) rest others

  comes_alike : (e : WorldEvent) (p r q s : Play) → GoOnAlike p q → Comes e p r → Comes e q s → GoOnAlike r s
  comes_alike e p r q s G H K = go_on L W (armed_at (node_of e) p.armed) e [] 0 p r q s G H (subst (λ a. Happens (armed_at (node_of e) a) e [] 0 q s) (sym G.alike.armed) K)

  drawn_alike : (d : Drawn) (bytes : List ℕ) (n : ℕ) (p r q s : Play) → GoOnAlike p q → BringsDrawn d bytes n p r → BringsDrawn d bytes n q s → GoOnAlike r s
  drawn_alike drawns.Forged bytes n p r q s G e f = both (printed (forged_line n) p) r (printed (forged_line n) q) s e f (prints (forged_line n) p q G)
  drawn_alike (drawns.Refused status waits) bytes n p r q s G H K =
      go_on L W (armed_at n p.armed) (raw_at n) bytes status p r q s G H (subst (λ a. Happens (armed_at n a) (raw_at n) bytes status q s) (sym G.alike.armed) K)

  brings_alike : (bytes : List ℕ) (n : ℕ) (p r q s : Play) → GoOnAlike p q → Brings bytes n p r → Brings bytes n q s → GoOnAlike r s
  brings_alike bytes n p r q s G (d, draws, H) (e, drawn, K) = drawn_alike d bytes n p r q s G H (subst (λ z. BringsDrawn z bytes n q s) (sym (L.draw bytes d e draws drawn)) K)

  goes_alike : (k : ℕ) (receiver : Option ℕ) (p r q s : Play) → GoOnAlike p q → GoesTo k receiver p r → GoesTo k receiver q s → GoOnAlike r s
  goes_alike k None p r q s G e f = both (printed (no_message_line k) p) r (printed (no_message_line k) q) s e f (prints (no_message_line k) p q G)
  goes_alike k (Some n) p r q s G H K = comes_alike (deliver_to n k) p r q s G H K

  delivered_alike : (k : ℕ) (o : Option (Option ℕ)) (p r q s : Play) → GoOnAlike p q → DeliveredTo k o p r → DeliveredTo k o q s → GoOnAlike r s
  delivered_alike k None p r q s G e f = both (printed (no_message_line k) p) r (printed (no_message_line k) q) s e f (prints (no_message_line k) p q G)
  delivered_alike k (Some receiver) p r q s G H K = goes_alike k receiver (marked k p) r (marked k q) s (marks k p q G) H K

  delivers_alike : (k : ℕ) (p r q s : Play) → GoOnAlike p q → Delivers k p r → Delivers k q s → GoOnAlike r s
  delivers_alike k p r q s G H K =
      delivered_alike k (option_map receiver_in (nth k p.world.posted)) p r q s G H (subst (λ w. DeliveredTo k (option_map receiver_in (nth k w.posted)) q s) (sym G.alike.world) K)

  where_alike : (o : Option ℕ) (p r q s : Play) → GoOnAlike p q → DeliversWhere o p r → DeliversWhere o q s → GoOnAlike r s
  where_alike None p r q s G e f = both p r q s e f G
  where_alike (Some k) p r q s G H K = delivers_alike k p r q s G H K

  flushes_alike : (most : ℕ) (p r q s : Play) → GoOnAlike p q → Flushes most p r → Flushes most q s → GoOnAlike r s
  flushes_alike zero p r q s G e f = both p r q s e f G
  flushes_alike (suc most) p r q s G (a, first, rest) (b, one, others) =
      flushes_alike most a r b s
      (where_alike (lowest (length p.world.posted) 1 p.delivered) p a q b G first
      (subst (λ d. DeliversWhere (lowest (length p.world.posted) 1 d) q b) (sym G.alike.delivered) (subst (λ w. DeliversWhere (lowest (length w.posted) 1 q.delivered) q b) (sym G.alike.world) one))) rest others

  takes_alike : (line : Line) (p r q s : Play) → GoOnAlike p q → Takes line p r → Takes line q s → GoOnAlike r s
  takes_alike (lines.Nodes count) p r q s G e f = both p r q s e f G
  takes_alike (lines.Begin n coordinator ms) p r q s G H K = comes_alike (begin_at n coordinator ms) p r q s G H K
  takes_alike (lines.Interpose n activity coordinator) p r q s G H K = comes_alike (interpose_at n activity coordinator) p r q s G H K
  takes_alike (lines.Work n activity service kind vote) p r q s G H K = comes_alike (work_at n activity service kind vote) p r q s G H K
  takes_alike (lines.Commit n activity) p r q s G H K = comes_alike (commit_at n activity) p r q s G H K
  takes_alike (lines.Rollback n activity) p r q s G H K = comes_alike (request n (locals.Rollback activity)) p r q s G H K
  takes_alike (lines.Deliver k) p r q s G H K = delivers_alike k p r q s G H K
  takes_alike (lines.Flush most) p r q s G H K = flushes_alike most p r q s G H K
  takes_alike (lines.Tick n ms) p r q s G H K = comes_alike (tick_at n ms) p r q s G H K
  takes_alike (lines.Crash n) p r q s G H K = comes_alike (Crash n) p r q s G H K
  takes_alike (lines.Up n) p r q s G H K = comes_alike (up n) p r q s G H K
  takes_alike (lines.Stop n call left) p r q s G e f =
      arms_alike n (Some (record { call = call; fault = faults.Stop left })) p r q s G e f
  takes_alike (lines.Fail n call) p r q s G e f =
      arms_alike n (Some (record { call = call; fault = faults.Fail })) p r q s G e f
  takes_alike (lines.Inject n digits) p r q s G H K = brings_alike (bytes_in digits) n p r q s G H K

  pub lines_alike : (all : List Line) (p r q s : Play) → GoOnAlike p q → TakesAll all p r → TakesAll all q s → GoOnAlike r s
  lines_alike [] p r q s G e f = both p r q s e f G
  lines_alike (line ∷ rest) p r q s G (a, first, behind) (b, one, others) = lines_alike rest a r b s (takes_alike line p a q b G first one) behind others

  pub rests_alike : (settles : Bool) (p r q s : Play) → GoOnAlike p q → Rests settles p r → Rests settles q s → GoOnAlike r s
  rests_alike false p r q s G e f = both p r q s e f G
  rests_alike true p r q s G H K = all_alike (settle p.world) p r q s G H (subst (λ w. AllHappen (settle w) q s) (sym G.alike.world) K)
