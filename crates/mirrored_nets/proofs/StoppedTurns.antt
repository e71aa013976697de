-- A turn that went to its end on a machine that then went back to behind some of its calls, and crashed there.
use Rattle.std.specs.Prelude.{ℕ, List, [], ◌++◌, ◌+◌, ◌≡◌, ◌≤◌, ◌<◌, Bool, Option, Some, None, drop, length, take}
use Rattle.std.proofs.Common.{refl, sym, ap, subst, ◌∙◌}
use Rattle.at_base.specs.declared.record.Record.{Record}
use Rattle.at_model.specs.World.{Input, Turn, World, WorldEvent, example_hosts, nth, put_nth, world_step}
use Rattle.deliveries.specs.ByteNets.{Carries}
use Rattle.fated_walks.specs.Fated.{AllLeft, Fated, all_fates}
use Rattle.memory_net.specs.Mails.{Mail, mails_in}
use Rattle.memory_net.specs.declared.host.Host.{Host}
use Rattle.mirrored_nets.specs.Fates.{fates_in}
use Rattle.mirrored_nets.specs.Mirrors.{Mirrors}
use Rattle.mirrored_nets.specs.Took.{FellBack, IsWhole, StopsBefore, StopsInStep}
use Rattle.mirrored_nets.proofs.CutTurns.{CutAt, LeadsTo, at_sites, place_records, turn_fallen}
use Rattle.mirrored_nets.proofs.FallenHosts.{IsBefore, NetLaws, comes_back, in_world, up_there}
use Rattle.mirrored_nets.proofs.CutCalls.{AreCallsOf, take_behind}
use Rattle.mirrored_nets.proofs.StoppedFates.{is_fated, struck_cut, unbegun_cut}
use Rattle.mirrored_nets.proofs.WholeTurns.{DidWhole}
use Rattle.node_at.specs.Endings.{TakesTurn}
use Rattle.node_at.specs.State.{State, seen}
use Rattle.node_at.specs.Turns.{Turns}
use Rattle.node_at.specs.declared.node.Node.{Node}
use Rattle.node_at.specs.declared.role.Role.TheVariants.{All}
use Rattle.node_at.specs.declared.turn.Turned.{Turned}
use Rattle.node_at.specs.declared.turn.Turned.TheVariants as turneds
use Rattle.node_events.specs.Fares.{AreFared}
use Rattle.node_events.specs.NodeEvents.{AreStepsOf, IsInput, StopsAreEvents, UnbegunAreEvents, struck}
use Rattle.node_worlds.specs.Machines.{IsOn}
use Rattle.node_worlds.specs.Nets.{begun_in, steps_in}
use Rattle.site_memory.specs.Devices.{calls_in, opening_in}
use Rattle.site_memory.specs.Disk.{chosen_files}
use Rattle.site_memory.specs.Sites.{told_of}
use Rattle.site_memory.specs.declared.arm.Choice.{Choice}
use Rattle.site_memory.specs.declared.machine.MemSite.{MemSite}
use Rattle.site_model.specs.Told.{Made, sent_by}
use Rattle.torn_appends.specs.TornAppends.{AppendsTorn}

-- a turn that went to its end began all its steps
pub begun_whole : (first : Turned) (n node : State) (c behind : MemSite) (t : Turns first All n node (told_of c) (told_of behind)) → IsWhole first
    → begun_in first All n node (told_of c) (told_of behind) t ≡ steps_in first All n node (told_of c) (told_of behind) t
begun_whole (turneds.Served status) n node c behind t whole = refl
begun_whole turneds.Ticked n node c behind t whole = refl
begun_whole turneds.NoRoom n node c behind t whole = absurd whole
begun_whole turneds.Halted n node c behind t whole = absurd whole
begun_whole turneds.Closed n node c behind t whole = absurd whole
begun_whole turneds.LinkDown n node c behind t whole = absurd whole

module _ (L : NetLaws) (torn : AppendsTorn) (stops : StopsAreEvents) (unbegun : UnbegunAreEvents) (count : ℕ) (few : count ≤ 8) (hosts : List Host) (clocks : List ℕ) (mails more : List Mail) (w : World)
    (M : Mirrors count hosts clocks mails w) (i : ℕ) (h g : Host) (n : Node) (here : nth i hosts ≡ Some h) (up : h.node ≡ Some n) (c : ℕ) (time : nth i clocks ≡ Some c) (s : MemSite)
    (before : IsBefore h s) (m : Node) (t : MemSite) (r : Turned) where
  -- the machine before the turn
  abbrev pub from : MemSite
  from = at_sites L count few hosts clocks mails more w M i h g n here up c time s before m t r i

  -- what the node recorded before it
  abbrev pub old_records : List Record
  old_records = place_records L count few hosts clocks mails more w M i h g n here up c time s before m t r

  module _ (turn : TakesTurn told_of r All m.shrunk (seen n) (seen m) from t) (whole : IsWhole turn.first)
      (W : DidWhole turn.first (seen n) turn.node from turn.behind turn.steps) (input : Input) (lines : ℕ) (made : List Made) (adds : calls_in t.device ≡ calls_in s.device ++ made)
      (C : AreCallsOf n.journal lines made W.whole.steps W.whole.doings) where
    begun_are : begun_in turn.first All (seen n) turn.node (told_of from) (told_of turn.behind) turn.steps ≡ W.whole.steps
    begun_are = begun_whole turn.first (seen n) turn.node from turn.behind turn.steps whole ∙ W.steps_are

    begun_cut : (kept : ℕ) (choice : Choice) (e : WorldEvent)
        → CutAt old_records W.whole.steps (chosen_files choice (opening_in s.device) (calls_in s.device ++ take kept made)) (take kept made)
        (LeadsTo L count few hosts clocks mails more w M i h g n here up c time s before m t r turn W.now e)
        → CutAt old_records (begun_in turn.first All (seen n) turn.node (told_of from) (told_of turn.behind) turn.steps)
        (chosen_files choice (opening_in s.device) (calls_in s.device ++ take kept made)) (take kept made)
        (LeadsTo L count few hosts clocks mails more w M i h g n here up c time s before m t r turn W.now e)
    begun_cut kept choice e cut = record {
      front = cut.front;
      rest = cut.rest;
      of = begun_are ∙ cut.of;
      doings = cut.doings;
      posts = cut.posts;
      sent = cut.sent;
      stands = cut.stands;
      said = cut.said;
      no_posts = cut.no_posts;
      calls = cut.calls;
      leads = cut.leads;
    }

    module _ (carries : Carries (example_hosts count) M.stands.net i All (told_of from))
        (heard : IsInput w i (in_world L count few hosts clocks mails more w M i h g n here up c time s before).node input W.meaning W.now)
        (kept : ℕ) (choice : Choice) (old : MemSite) (same : length (calls_in old.device) ≡ length (calls_in s.device)) (down : g.node ≡ None) (fell : FellBack old t kept choice g.site)
        (posted : more ≡ mails ++ mails_in i count (sent_by (take kept made))) where
      on : IsOn (chosen_files choice (opening_in t.device) (calls_in s.device ++ take kept made)) (told_of g.site)
      on =
          comes_back old t g.site kept choice (calls_in s.device ++ take kept made)
          (ap (take (length (calls_in old.device) + kept)) adds ∙ take_behind kept (length (calls_in s.device)) (length (calls_in old.device) + kept) (calls_in s.device) made refl (ap (λ k. k + kept) same)) fell

      down_by : (e : WorldEvent)
          → CutAt old_records W.whole.steps (chosen_files choice (opening_in s.device) (calls_in s.device ++ take kept made)) (take kept made)
          (LeadsTo L count few hosts clocks mails more w M i h g n here up c time s before m t r turn W.now e)
          → Mirrors count (put_nth i g hosts) (put_nth i W.now clocks) more (world_step w e)
      down_by e cut =
          turn_fallen L count few hosts clocks mails more w M i h g n here up c time s before m t r turn made kept choice W.now e adds carries on down posted (begun_cut kept choice e cut)

      -- before the first step
      pub unbegun_turn : (fates : List Bool) (until : Option ℕ) → StopsBefore lines fates until kept
          → Mirrors count (put_nth i g hosts) (put_nth i W.now clocks) more (world_step w (Turn i input fates until))
      unbegun_turn fates until T =
          let x = in_world L count few hosts clocks mails more w M i h g n here up c time s before in
          let p = M.stands.holds i h here in
          subst (λ (e : WorldEvent). Mirrors count (put_nth i g hosts) (put_nth i W.now clocks) more (world_step w e)) (λ j. Turn i input (sym T.fates_are j) (sym T.until_is j))
          (down_by (Turn i input [] (Some 0))
          (unbegun_cut L.bodies torn old_records (seen n) s (up_there L count few hosts clocks mails more w M i h g n here up c time s before) lines made W.whole.steps W.whole.doings C choice kept _ T.within
          (unbegun (example_hosts count) M.stands.net w i p.place x.node (seen n) input W.meaning W.now x.is_at heard)))

      -- at one of its calls
      pub stopped_turn : (fated : List Fated) → AreStepsOf w i (in_world L count few hosts clocks mails more w M i h g n here up c time s before).node n.book input W.now fated
          → AreFared W.whole.steps W.whole.doings fated → AllLeft fated → length (fates_in (drop lines made)) ≡ length (all_fates fated)
          → (fates : List Bool) (until : Option ℕ) → StopsInStep lines made choice fates until kept
          → Mirrors count (put_nth i g hosts) (put_nth i W.now clocks) more (world_step w (Turn i input fates until))
      stopped_turn fated are fared left long fates until T =
          let x = in_world L count few hosts clocks mails more w M i h g n here up c time s before in
          let p = M.stands.holds i h here in
          let less : T.before < length (all_fates fated) = subst (λ k. T.before < k) long (is_fated lines made choice T.before T.last kept T.is_kept) in
          let S = stops (example_hosts count) M.stands.net w i p.place x.node (seen n) input W.meaning W.now W.status W.whole.steps W.whole.doings fated x.is_at heard W.whole.turns are fared left T.before T.last less in
          subst (λ (e : WorldEvent). Mirrors count (put_nth i g hosts) (put_nth i W.now clocks) more (world_step w e)) (λ j. Turn i input (sym T.fates_are j) (sym T.until_is j))
          (down_by (Turn i input (struck T.before T.last) (Some (T.before + 1)))
          (struck_cut L.bodies torn old_records (seen n) s (up_there L count few hosts clocks mails more w M i h g n here up c time s before) lines made W.whole.steps W.whole.doings C choice (example_hosts count)
          M.stands.net w i p.place (Turn i input (struck T.before T.last) (Some (T.before + 1))) W.now T.before T.last kept S T.is_kept))
