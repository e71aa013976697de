-- How far a schedule that is played over nodes has come, and what happens in it.
use Rattle.std.specs.Prelude.{ℕ, List, [], ◌∷◌, ◌++◌, ◌+◌, ◌-◌, ◌≡◌, ◌≤◌, Option, Some, None, Bool, true, false, if◌then◌else◌, is_some, length, option_map, slice_set, suc, zero}
use Rattle.armed_calls.specs.Faults.{still_armed}
use Rattle.armed_calls.specs.declared.fault.Armed.{Armed}
use Rattle.armed_calls.specs.declared.fault.Fault.{Fault}
use Rattle.asked_nets.specs.Happened.{Happened}
use Rattle.asked_nets.specs.Behind.{events_by, world_behind}
use Rattle.at_model.specs.Views.{up}
use Rattle.at_model.specs.World.{World, WorldEvent, Turn, Ask, Crash, Up, example_hosts, node_of, opening}
use Rattle.asked_nets.specs.ArmedCalls.{call_of}
use Rattle.mirrored_nets.specs.NetSteps.{IsUnstarted}
use Rattle.mirrored_nets.specs.Seen.{Seen}
use Rattle.model_laws.specs.Settlement.{settle}
use Rattle.replay_cmd.specs.ReportOf.{nobody_armed}
use Rattle.world_laws.specs.Runs.{incarnation_at}
use Rattle.net_plays.specs.Behind.{IsBehind}
use Rattle.net_plays.specs.EventTexts.{event_lines}

-- How many nodes there are, and what they are with their clocks and letters; the world that they mirror, and what happened to it, in order; for each
-- message from the first on whether it was delivered (those behind the list weren't); which call is armed at each node; and what was printed.
pub record Play : Type 0 where
  pub count : ℕ
  pub net : Seen
  pub world : World
  pub events : List WorldEvent
  pub delivered : List Bool
  pub armed : List (Option Armed)
  pub text : List ℕ

-- so many calls were made: the armed one came, or it is nearer by so many
abbrev pub armed_by : Armed → (was_up : Bool) → (calls : ℕ) → WorldEvent → Option Armed
armed_by a was_up calls (Turn n input fates until) = still_armed a (a.call - calls)
armed_by a was_up calls (Ask n l fates until) = still_armed a (a.call - calls)
-- a crash of a node that is up disarms it
armed_by a was_up calls (Crash n) = if was_up then None else Some a
armed_by a was_up calls (Up n landed stop) = still_armed a (a.call - calls)

-- what is armed at a node behind what was asked for there
abbrev pub armed_behind : Option Armed → (was_up : Bool) → (calls : ℕ) → WorldEvent → Option Armed
armed_behind None was_up calls asked = None
armed_behind (Some a) was_up calls asked = armed_by a was_up calls asked

abbrev pub fault_of : Armed → Fault
fault_of a = a.fault

-- What was asked for was done by its node on its machine, of which this call was armed: this event of the world, with the fates that its calls had,
-- and a crash behind it where the node went down as its journal was written anew. Raw bytes are those that are given, and draw this status.
pub record Happens (armed : Option Armed) (asked : WorldEvent) (raw : List ℕ) (drawn : ℕ) (p q : Play) : Type 0 where
  pub event : WorldEvent
  pub down : Bool
  pub calls : ℕ
  pub happened : Happened p.count p.world (call_of armed) asked raw p.net q.net event down calls
  pub count : q.count ≡ p.count
  pub world : q.world ≡ world_behind down p.world event
  pub events : q.events ≡ p.events ++ events_by down event
  pub delivered : q.delivered ≡ p.delivered
  pub armed_is : q.armed ≡ slice_set p.armed (node_of asked - 1) (armed_behind armed (is_some (incarnation_at p.world (node_of asked))) calls asked)
  pub text : q.text ≡ p.text ++ event_lines down (option_map fault_of armed) drawn p.world event

-- Such events are asked for, one after another, with no call armed.
abbrev pub AllHappen : List WorldEvent → Play → Play → Type 0
AllHappen [] p q = q ≡ p
AllHappen (e ∷ es) p q = (r : Play) × Happens None e [] 0 p r × AllHappen es r q

-- so many nodes come up, numbered from this one on
abbrev pub ups_from : ℕ → ℕ → List WorldEvent
ups_from zero n = []
ups_from (suc count) n = up n ∷ ups_from count (n + 1)

-- Nodes that haven't started, in a world where nothing happened.
pub record IsOpening (count : ℕ) (p : Play) : Type 0 where
  pub unstarted : IsUnstarted count p.net
  pub is : p ≡ record { count = count; net = p.net; world = opening (example_hosts count); events = []; delivered = []; armed = nobody_armed; text = [] }

-- Each of them came up.
pub record IsBegun (count : ℕ) (p : Play) : Type 0 where
  pub first : Play
  pub opens : IsOpening count first
  pub ups : AllHappen (ups_from count 1) first p

-- The events that bring its world to rest are asked for behind the last line, where that is wished. What was armed is no more.
abbrev pub Rests : Bool → Play → Play → Type 0
Rests false p q = q ≡ p
Rests true p q = AllHappen (settle p.world) p q

-- Its nodes and its world are behind its events.
abbrev pub IsPlayed : Play → Type 0
IsPlayed p = IsBehind p.count p.net p.world p.events

-- A play of few nodes in which something happened.
pub record HasBegun (p : Play) : Type 0 where
  pub few : p.count ≤ 8
  pub some : 1 ≤ length p.events
