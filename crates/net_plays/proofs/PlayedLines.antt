-- What holds behind each event of a play, and is left by what is printed, armed and marked beside events, holds behind each line.
use Rattle.std.proofs.Common.{ℕ, zero, suc, List, [], ◌∷◌, length, subst, sym}
use Rattle.std.specs.Prelude.{Bool, true, false, Option, Some, None, option_map}
use Rattle.armed_calls.specs.Faults.{raw_at}
use Rattle.armed_calls.specs.declared.fault.Armed.{Armed}
use Rattle.armed_calls.specs.declared.fault.Fault.TheVariants as faults
use Rattle.at_base.specs.declared.event.Local.TheVariants as locals
use Rattle.at_model.specs.Views.{up, deliver_to, tick_at, request, begin_at, interpose_at, work_at, commit_at}
use Rattle.at_model.specs.World.{Crash, WorldEvent, node_of, nth}
use Rattle.model_laws.specs.Settlement.{settle}
use Rattle.raw_requests.specs.declared.Drawn.{Drawn}
use Rattle.raw_requests.specs.declared.Drawn.TheVariants as drawns
use Rattle.replay_cmd.specs.Deliveries.{lowest}
use Rattle.replay_cmd.specs.Lines.{forged_line, no_message_line}
use Rattle.replay_cmd.specs.ReportOf.{armed_at, receiver_in}
use Rattle.schedules.specs.Values.{bytes_in}
use Rattle.schedules.specs.declared.line.Line.{Line}
use Rattle.schedules.specs.declared.line.Line.TheVariants as lines
use Rattle.net_plays.specs.PlayedLines.{Brings, BringsDrawn, Comes, DeliveredTo, DeliversWhere, Flushes, GoesTo, Takes, TakesAll, marked, printed, with_armed}
use Rattle.net_plays.specs.Plays.{AllHappen, Happens, IsBegun, Play, Rests, ups_from}

-- What each of these leaves.
pub record Keeps (P : Play → Type 0) : Type 1 where
  pub happens : (armed : Option Armed) (asked : WorldEvent) (raw : List ℕ) (drawn : ℕ) (p q : Play) → Happens armed asked raw drawn p q → P p → P q
  pub forges : (n : ℕ) (p : Play) → P p → P (printed (forged_line n) p)
  pub misses : (k : ℕ) (p : Play) → P p → P (printed (no_message_line k) p)
  pub arms : (n : ℕ) (armed : Option Armed) (p : Play) → P p → P (with_armed n armed p)
  pub marks : (k : ℕ) (p : Play) → P p → P (marked k p)

module _ (P : Play → Type 0) (keeps : Keeps P) where
  pub all_keep : (es : List WorldEvent) (p q : Play) → AllHappen es p q → P p → P q
  all_keep [] p q is h = subst P (sym is) h
  all_keep (e ∷ es) p q (r, first, rest) h = all_keep es r q rest (keeps.happens None e [] 0 p r first h)

  comes_keep : (e : WorldEvent) (p q : Play) → Comes e p q → P p → P q
  comes_keep e p q came h = keeps.happens (armed_at (node_of e) p.armed) e [] 0 p q came h

  drawn_keep : (d : Drawn) (bytes : List ℕ) (n : ℕ) (p q : Play) → BringsDrawn d bytes n p q → P p → P q
  drawn_keep drawns.Forged bytes n p q is h = subst P (sym is) (keeps.forges n p h)
  drawn_keep (drawns.Refused s waits) bytes n p q happened h = keeps.happens (armed_at n p.armed) (raw_at n) bytes s p q happened h

  brings_keep : (bytes : List ℕ) (n : ℕ) (p q : Play) → Brings bytes n p q → P p → P q
  brings_keep bytes n p q (d, draws, brought) h = drawn_keep d bytes n p q brought h

  goes_keep : (k : ℕ) (receiver : Option ℕ) (p q : Play) → GoesTo k receiver p q → P p → P q
  goes_keep k None p q is h = subst P (sym is) (keeps.misses k p h)
  goes_keep k (Some n) p q came h = comes_keep (deliver_to n k) p q came h

  delivered_keep : (k : ℕ) (o : Option (Option ℕ)) (p q : Play) → DeliveredTo k o p q → P p → P q
  delivered_keep k None p q is h = subst P (sym is) (keeps.misses k p h)
  delivered_keep k (Some receiver) p q went h = goes_keep k receiver (marked k p) q went (keeps.marks k p h)

  pub where_keep : (o : Option ℕ) (p q : Play) → DeliversWhere o p q → P p → P q
  where_keep None p q is h = subst P (sym is) h
  where_keep (Some k) p q delivered h = delivered_keep k (option_map receiver_in (nth k p.world.posted)) p q delivered h

  flushes_keep : (most : ℕ) (p q : Play) → Flushes most p q → P p → P q
  flushes_keep zero p q is h = subst P (sym is) h
  flushes_keep (suc most) p q (r, first, rest) h = flushes_keep most r q rest (where_keep (lowest (length p.world.posted) 1 p.delivered) p r first h)

  pub takes_keep : (line : Line) (p q : Play) → Takes line p q → P p → P q
  takes_keep (lines.Nodes count) p q is h = subst P (sym is) h
  takes_keep (lines.Begin n coordinator ms) p q came h = comes_keep (begin_at n coordinator ms) p q came h
  takes_keep (lines.Interpose n activity coordinator) p q came h = comes_keep (interpose_at n activity coordinator) p q came h
  takes_keep (lines.Work n activity service kind vote) p q came h = comes_keep (work_at n activity service kind vote) p q came h
  takes_keep (lines.Commit n activity) p q came h = comes_keep (commit_at n activity) p q came h
  takes_keep (lines.Rollback n activity) p q came h = comes_keep (request n (locals.Rollback activity)) p q came h
  takes_keep (lines.Deliver k) p q delivered h = delivered_keep k (option_map receiver_in (nth k p.world.posted)) p q delivered h
  takes_keep (lines.Flush most) p q flushed h = flushes_keep most p q flushed h
  takes_keep (lines.Tick n ms) p q came h = comes_keep (tick_at n ms) p q came h
  takes_keep (lines.Crash n) p q came h = comes_keep (Crash n) p q came h
  takes_keep (lines.Up n) p q came h = comes_keep (up n) p q came h
  takes_keep (lines.Stop n call left) p q is h = subst P (sym is) (keeps.arms n (Some (record { call = call; fault = faults.Stop left })) p h)
  takes_keep (lines.Fail n call) p q is h = subst P (sym is) (keeps.arms n (Some (record { call = call; fault = faults.Fail })) p h)
  takes_keep (lines.Inject n digits) p q brought h = brings_keep (bytes_in digits) n p q brought h

  pub lines_keep : (all : List Line) (p q : Play) → TakesAll all p q → P p → P q
  lines_keep [] p q is h = subst P (sym is) h
  lines_keep (line ∷ rest) p q (r, first, behind) h = lines_keep rest r q behind (takes_keep line p r first h)

  pub begun_keeps : (count : ℕ) (p : Play) (begun : IsBegun count p) → P begun.first → P p
  begun_keeps count p begun h = all_keep (ups_from count 1) begun.first p begun.ups h

  pub rests_keep : (settles : Bool) (p q : Play) → Rests settles p q → P p → P q
  rests_keep false p q is h = subst P (sym is) h
  rests_keep true p q all h = all_keep (settle p.world) p q all h
