-- How a message is answered that finds nothing, and moves no item.
use Rattle.std.specs.Prelude.{List, [], ◌++◌, Option, None, true, false, map}
use Rattle.at_base.specs.declared.notice.Notice.{Notice}
use Rattle.at_base.specs.declared.message.Message.{Message}
use Rattle.at_base.specs.declared.message.Message.TheVariants as messages
use Rattle.at_base.specs.declared.target.Target.{Target}
use Rattle.at_base.specs.declared.target.Target.TheVariants as targets
use Rattle.at_base.specs.declared.event.Arrived.{Arrived}
use Rattle.at_base.specs.declared.event.Moment.{Moment}
use Rattle.at_base.specs.declared.outs.Out.{Out}
use Rattle.at_base.specs.declared.outs.Out.TheVariants as outs
use Rattle.at_tables.specs.declared.cells.State.TheVariants as states
use Rattle.at_tables.specs.declared.cells.Cell.{Cell}
use Rattle.at_tables.specs.Tables.{coordinator_of, participant_of, completion_of, initiator_of}
use Rattle.at_model.specs.Posts.{accepted}
use Rattle.at_model.specs.Step.{outcome_cell, stranger_cell}
use Rattle.interposition.specs.declared.plan.Part.{Part}
use Rattle.interposition.specs.declared.plan.Part.TheVariants as parts

-- no item moves, and this is sent
abbrev pub answered : List Out → Part
answered sent = parts.Still true (record { outs = sent; effects = [] })

-- nothing happens, and the time isn't noted
abbrev pub nothing : Part
nothing = parts.Still false (record { outs = []; effects = [] })

-- The state of what isn't known is None (WS-AtomicTransaction 1.2, section 3.3.4).
abbrev pub cell_of_none : Target → Notice → Option Cell
cell_of_none targets.Activation n = None
cell_of_none (targets.Registration id) n = None
cell_of_none (targets.Completion id) n = completion_of states.None n
cell_of_none (targets.Coordinator id seat) n = coordinator_of seat.kind states.None n
cell_of_none (targets.Participant id kind) n = participant_of kind states.None n
cell_of_none (targets.Initiator id) n = initiator_of states.None n
cell_of_none targets.Work n = None

-- A message at what isn't known.
abbrev pub stranger : Moment → Arrived → Target → Message → Part
stranger m a t (messages.Notice n) =
    answered (accepted ++ map outs.Post (stranger_cell m.base a.target a.from a.id (cell_of_none t n)))
stranger m a t other = answered accepted

-- A message at the completion seat of a root that committed, where the seat isn't there any more.
abbrev pub committed : Moment → Arrived → Target → Message → Part
committed m a t (messages.Notice n) =
    answered (accepted ++ map outs.Post (outcome_cell m.base a.target a.from a.id (completion_of states.Done n)))
committed m a t other = answered accepted
