-- Whatever is done to a net in memory as an event says, it mirrors the world behind that event.
use Rattle.model_laws.specs.Compactions.{RecoversTheCompacted}
use Rattle.memory_net.specs.Closed.{ExamplesAskSo}
use Rattle.node_events.specs.AnsweredTurns.{TurnsAnswerSo}
use Rattle.node_events.specs.CallEffects.{EffectsAgree}
use Rattle.node_events.specs.NodeEvents.{HaltsAreEvents, RequestsAreEvents, StartsAreEvents, StopsAreEvents, UnbegunAreEvents}
use Rattle.node_worlds.specs.KeptRecords.{NetsKeep}
use Rattle.node_worlds.specs.Machines.{RunsOnMachines}
use Rattle.record_bytes.specs.Versions.{AreApart}
use Rattle.site_memory.specs.Sites.{told_of}
use Rattle.torn_appends.specs.TornAppends.{AppendsTorn}
use Rattle.world_laws.specs.Moves.{ChangesByMoves}
use Rattle.mirrored_nets.specs.Goings.{NetsMirror}
use Rattle.mirrored_nets.proofs.AnsweredTurns.{answered, turned_effects}
use Rattle.mirrored_nets.proofs.FailedStarts.{upped_not}
use Rattle.mirrored_nets.proofs.FallenHosts.{NetLaws}
use Rattle.mirrored_nets.proofs.Openings.{opened}
use Rattle.mirrored_nets.proofs.TakenCalls.{asked, asked_effects, turned}
use Rattle.mirrored_nets.proofs.TurnsTaken.{TurnLaws}
use Rattle.mirrored_nets.proofs.Unmoved.{unmoved}
use Rattle.mirrored_nets.proofs.UpsAndDowns.{downed, upped}

-- the laws of events that this stands on
pub record EventLaws : Type 0 where
  pub stops : StopsAreEvents
  pub unbegun : UnbegunAreEvents
  pub halts : HaltsAreEvents
  pub requests : RequestsAreEvents
  pub starts : StartsAreEvents
  pub answers : TurnsAnswerSo
  pub effects : EffectsAgree
  pub moves : ChangesByMoves

pub nets_mirror : NetLaws → TurnLaws → EventLaws → AppendsTorn → ExamplesAskSo → AreApart → NetsKeep told_of → RunsOnMachines told_of → RecoversTheCompacted → NetsMirror
nets_mirror L K E torn ask_so apart keep machines recovers = record {
  opened = opened;
  turned = turned L K torn E.stops E.unbegun E.halts;
  answered = answered L K E.answers;
  turned_effects = turned_effects L K E.effects;
  asked = asked L K torn E.requests ask_so E.moves;
  asked_effects = asked_effects L K torn E.requests ask_so E.effects;
  upped = λ count hosts clocks mails w i c h g old few M least here down set U.
      upped count hosts clocks mails w M i least h g here E.starts L.bases L.nets keep machines recovers few down c old set U;
  upped_not = λ count hosts clocks mails w i c h g old landed stop few M least here down set T stopped.
      upped_not E.starts L.bases L.nets L.crashes L.calls L.images apart L.shrinks count hosts clocks mails w M i least h g here few down c old set landed T stop stopped;
  downed = λ count hosts clocks mails w i h g n few M least here up D. downed count hosts clocks mails w M i least h g here E.starts L few L.images n up D;
  unmoved = unmoved;
}
