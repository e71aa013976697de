use Rattle.std.proofs.Common.{inl, subst, sym}
use Rattle.std.specs.Prelude.{IfOk, false}
use Rattle.world_laws.specs.Events.{event_of, input_of}
use Rattle.mirrored_nets.proofs.HostSteps.{if_ok}
use Rattle.call_readings.specs.AskedEvents.{IsOf}
use Rattle.asked_nets.specs.Happened.{MayAsk}
use Rattle.asked_nets.specs.ReadSteps.{NetStepRead}
use Rattle.asked_nets.proofs.AskedOf.{may_ask, may_turn, may_up, of_ask, of_same, of_turn, of_up}
use Rattle.asked_nets.proofs.NetReads.{RestsAt, ask_up, crash_up, rests_read, start_down, turn_up}
use Rattle.asked_nets.proofs.net.Net.done.Goals as goal

pub returns-then-branch-clause-of : goal.returns-then-branch-clause-of
returns-then-branch-clause-of c = subst (λ e. IsOf (event_of c.args.asked.now) (event_of e)) (sym c.in-Ok.ensures.cases) (of_same (event_of c.args.asked.now))

pub returns-then-branch-clause-step : goal.returns-then-branch-clause-step
returns-then-branch-clause-step c = λ count w few mirrors.
    subst (λ e. NetStepRead c.args.armed (event_of c.args.asked.now) (event_of e) false c.args.raw.now 0 c.args.self c.args.self) (sym c.in-Ok.ensures.cases)
    (rests_read c.args.armed (event_of c.args.asked.now) c.args.raw.now c.args.self c.in_ok-rests.field-0 c.in_ok-rests.ensures.rests c.if-branch.true)

pub turn-requires-clause-up : goal.turn-requires-clause-up
turn-requires-clause-up c =
    turn_up c.in-Turn.node (input_of c.in-Turn.input) c.in-Turn.fates c.in-Turn.until c.args.self.hosts c.in_ok-rests.field-0
    (subst (λ e. RestsAt (event_of e) c.args.self.hosts c.in_ok-rests.field-0) c.in-Turn.is c.in_ok-rests.ensures.rests) c.if-branch.false

pub ask-requires-clause-up : goal.ask-requires-clause-up
ask-requires-clause-up c =
    ask_up c.in-Ask.node c.in-Ask.local c.in-Ask.fates c.in-Ask.until c.args.self.hosts c.in_ok-rests.field-0
    (subst (λ e. RestsAt (event_of e) c.args.self.hosts c.in_ok-rests.field-0) c.in-Ask.is c.in_ok-rests.ensures.rests) c.if-branch.false

pub crash-requires : goal.crash-requires
crash-requires c =
    record {
      up =
          crash_up c.in-Crash.node c.args.self.hosts c.in_ok-rests.field-0 (subst (λ e. RestsAt (event_of e) c.args.self.hosts c.in_ok-rests.field-0) c.in-Crash.is c.in_ok-rests.ensures.rests) c.if-branch.false;
    }

pub start-requires-clause-down : goal.start-requires-clause-down
start-requires-clause-down c =
    start_down c.in-Up.node c.in-Up.landed c.in-Up.stop c.args.self.hosts c.in_ok-rests.field-0
    (subst (λ e. RestsAt (event_of e) c.args.self.hosts c.in_ok-rests.field-0) c.in-Up.is c.in_ok-rests.ensures.rests) c.if-branch.false

pub returns-in-Turn-clause-of : goal.returns-in-Turn-clause-of
returns-in-Turn-clause-of c =
    subst (λ e. IfOk c.turn.result (λ t. IsOf (event_of e) (event_of t.event))) (sym c.in-Turn.is)
    (if_ok c.turn.result c.turn.ensures.of (λ t is. of_turn c.in-Turn.node (input_of c.in-Turn.input) c.in-Turn.fates c.in-Turn.until (event_of t.event) is))

pub returns-in-Ask-clause-of : goal.returns-in-Ask-clause-of
returns-in-Ask-clause-of c =
    subst (λ e. IfOk c.ask.result (λ t. IsOf (event_of e) (event_of t.event))) (sym c.in-Ask.is)
    (if_ok c.ask.result c.ask.ensures.of (λ t is. of_ask c.in-Ask.node c.in-Ask.local c.in-Ask.fates c.in-Ask.until (event_of t.event) is))

pub returns-in-Up-clause-of : goal.returns-in-Up-clause-of
returns-in-Up-clause-of c =
    subst (λ e. IfOk c.start.result (λ t. IsOf (event_of e) (event_of t.event))) (sym c.in-Up.is)
    (if_ok c.start.result c.start.ensures.of (λ t is. of_up c.in-Up.node c.in-Up.landed c.in-Up.stop (event_of t.event) is))

pub returns-in-Turn-clause-step : goal.returns-in-Turn-clause-step
returns-in-Turn-clause-step c = λ count w few mirrors. if_ok c.turn.result (c.turn.ensures.step count w few mirrors) (λ t moves. inl moves)

pub returns-in-Ask-clause-step : goal.returns-in-Ask-clause-step
returns-in-Ask-clause-step c = λ count w few mirrors. if_ok c.ask.result (c.ask.ensures.step count w c.args.raw.now few mirrors) (λ t moves. inl moves)

pub returns-in-Crash-clause-step : goal.returns-in-Crash-clause-step
returns-in-Crash-clause-step c = λ count w few mirrors. if_ok c.crash.result (c.crash.ensures.step c.args.armed c.args.raw.now) (λ t moves. inl moves)

pub returns-in-Up-clause-step : goal.returns-in-Up-clause-step
returns-in-Up-clause-step c = λ count w few mirrors. if_ok c.start.result (c.start.ensures.step count w c.args.raw.now few mirrors) (λ t moves. inl moves)

pub returns-in-Turn-clause-may : goal.returns-in-Turn-clause-may
returns-in-Turn-clause-may c = λ count w few mirrors may.
    c.turn.ensures.may count w few mirrors
    (may_turn count w c.args.raw.now c.args.self c.in-Turn.node (input_of c.in-Turn.input) c.in-Turn.fates c.in-Turn.until
    (subst (λ e. MayAsk count w (event_of e) c.args.raw.now c.args.self) c.in-Turn.is may))

pub returns-in-Ask-clause-may : goal.returns-in-Ask-clause-may
returns-in-Ask-clause-may c = λ count w few mirrors may.
    c.ask.ensures.may count w c.args.raw.now few mirrors
    (may_ask count w c.args.raw.now c.args.self c.in-Ask.node c.in-Ask.local c.in-Ask.fates c.in-Ask.until (subst (λ e. MayAsk count w (event_of e) c.args.raw.now c.args.self) c.in-Ask.is may))

pub returns-in-Up-clause-may : goal.returns-in-Up-clause-may
returns-in-Up-clause-may c = λ count w few mirrors may.
    c.start.ensures.may count w c.args.raw.now few mirrors
    (may_up count w c.args.raw.now c.args.self c.in-Up.node c.in-Up.landed c.in-Up.stop (subst (λ e. MayAsk count w (event_of e) c.args.raw.now c.args.self) c.in-Up.is may))
