-- What a turn did of a node in a net that mirrors a world, in which the node went down.
use Rattle.std.specs.Prelude.{ℕ, List, [], ◌∷◌, ◌++◌, ◌+◌, ◌≡◌, ◌≤◌, ◌<◌, ◌⊎◌, Bool, Option, Some, length}
use Rattle.std.proofs.Common.{ap, inl, inr, refl, subst, sym, ◌∙◌}
use Rattle.std.proofs.lemmas.List.{append_assoc}
use Rattle.at_model.specs.World.{Input, World, WorldEvent, Turn, example_hosts, nth}
use Rattle.fated_walks.specs.Fated.{all_fates}
use Rattle.memory_net.specs.Mails.{Mail}
use Rattle.memory_net.specs.declared.host.Host.{Host}
use Rattle.node_at.specs.Doings.{came_of}
use Rattle.node_at.specs.Endings.{TakesTurn}
use Rattle.node_at.specs.State.{seen}
use Rattle.node_at.specs.TurnText.{TurnStep}
use Rattle.node_at.specs.declared.node.Node.{Node}
use Rattle.node_at.specs.declared.role.Role.TheVariants.{All}
use Rattle.node_at.specs.declared.turn.Turned.TheVariants as turneds
use Rattle.node_events.specs.NodeEvents.{HaltsAreEvents, StopsAreEvents, UnbegunAreEvents, front_by, struck}
use Rattle.site_memory.specs.Sites.{told_of}
use Rattle.site_memory.specs.declared.arm.Choice.{Choice}
use Rattle.site_memory.specs.declared.machine.MemSite.{MemSite}
use Rattle.torn_appends.specs.TornAppends.{AppendsTorn}
use Rattle.told_stops.specs.ToldStops.{HaltsTell, StopsTell, Tells, TellsStruck, UnbegunTell}
use Rattle.mirrored_nets.specs.Goings.{IsBrought, IsSet, ms_of}
use Rattle.mirrored_nets.specs.Mirrors.{Mirrors}
use Rattle.mirrored_nets.specs.Took.{ComesTo, HaltsSo, StopsBefore, StopsInStep, TookTurn}
use Rattle.mirrored_nets.specs.declared.came.Came.TheVariants as cames
use Rattle.mirrored_nets.proofs.FallenHosts.{InWorld, NetLaws}
use Rattle.mirrored_nets.proofs.FallenTurns.{H as fallen_heard, W as halted_did, all_left, before as before_of, comes, from as from_of, halt as halt_of, halt_comes, heard as halted_heard, there as there_of, turn as turn_of}
use Rattle.mirrored_nets.proofs.HaltedTurns.{DidHalt}
use Rattle.mirrored_nets.proofs.StepsLeft.{fates_so}
use Rattle.mirrored_nets.proofs.StoppedFates.{is_fated}
use Rattle.mirrored_nets.proofs.TurnsTaken.{HeardTurn, TurnLaws}
use Rattle.reading_laws.specs.GoneTurns.{TellsFallen, TellsHalted, TurnsTell}

pub came_join : (xs ys : List TurnStep) → came_of (xs ++ ys) ≡ came_of xs ++ came_of ys
came_join [] ys = refl
came_join (x ∷ xs) ys = ap (λ z. x.came ++ z) (came_join xs ys) ∙ sym (append_assoc x.came (came_of xs) (came_of ys))

-- the laws of stops and halts that this stands on
pub record GoneLaws : Type 0 where
  pub torn : AppendsTorn
  pub stops : StopsAreEvents
  pub unbegun : UnbegunAreEvents
  pub halts : HaltsAreEvents
  pub stops_tell : StopsTell
  pub unbegun_tell : UnbegunTell
  pub halts_tell : HaltsTell

module _ (w : World) (i : ℕ) (input : Input) (n : Node) (front : List TurnStep) where
  -- of the event with these fates and this stop
  as_read : (given fates : List Bool) (stop until : Option ℕ) → fates ≡ given → until ≡ stop → Tells w (Turn i input given stop) (seen n) front given → Tells w (Turn i input fates until) (seen n) front fates
  as_read given fates stop until is at tells =
      subst (λ u. Tells w (Turn i input fates u) (seen n) front fates) (sym at) (subst (λ fs. Tells w (Turn i input fs stop) (seen n) front fs) (sym is) tells)

module _ (L : NetLaws) (K : TurnLaws) (G : GoneLaws) (count : ℕ) (hosts : List Host) (clocks : List ℕ) (mails more : List Mail) (w : World) (i c : ℕ) (h g : Host) (n : Node) (input : Input)
    (lines : ℕ) (bytes : List ℕ) (old : MemSite) (fates : List Bool) (until : Option ℕ) (few : count ≤ 8) (M : Mirrors count hosts clocks mails w) (least : 1 ≤ i) (here : nth i hosts ≡ Some h)
    (up : h.node ≡ Some n) (time : nth i clocks ≡ Some c) (brought : IsBrought mails i input lines bytes) (set : IsSet (c + ms_of input) h.site old)
    (T : TookTurn i count lines bytes n old g mails more fates until) where
  abbrev there : InWorld L count few hosts clocks mails more w M i h g n here up c time T.turns.connected (before_of L K G.torn count hosts clocks mails more w i c h g n input lines bytes old fates until few M least here up time brought set T)
  there = there_of L K G.torn count hosts clocks mails more w i c h g n input lines bytes old fates until few M least here up time brought set T

  abbrev event : WorldEvent
  event = Turn i input fates until

  -- at a stop
  module _ (kept : ℕ) (choice : Choice) (came : T.came ≡ cames.Falls kept choice) where
    abbrev H : HeardTurn count w M.stands.net i c (M.stands.holds i h here).place there.node n T.node
        (from_of L K G.torn count hosts clocks mails more w i c h g n input lines bytes old fates until few M least here up time brought set T) T.site T.result
        (turn_of L K G.torn count hosts clocks mails more w i c h g n input lines bytes old fates until few M least here up time brought set T) input lines T.made
    H = fallen_heard L K G.torn count hosts clocks mails more w i c h g n input lines bytes old fates until few M least here up time brought set T G.stops G.unbegun kept choice came

    its : ComesTo (cames.Falls kept choice) lines T.made fates until
    its = comes L K G.torn count hosts clocks mails more w i c h g n input lines bytes old fates until few M least here up time brought set T G.stops G.unbegun kept choice came

    gave_all : (seen T.node).effects ≡ came_of H.did.whole.steps
    gave_all = H.anew.effects ∙ H.did.whole.ran.effects

    in_step : StopsInStep lines T.made choice fates until kept → TellsFallen w event n T.node fates
    in_step S = record {
      front = told.is.front;
      rest = told.is.rest;
      gave = gave_all ∙ ap came_of told.is.of ∙ came_join told.is.front told.is.rest;
      tells = as_read w i input n told.is.front (struck S.before S.last) fates (Some (S.before + 1)) until S.fates_are S.until_is told.tells;
    }
      where
        less : S.before < length (all_fates H.is_turn.fated)
        less =
            subst (λ k. S.before < k) (fates_so n.journal lines H.did.line T.made H.did.whole.steps H.did.whole.doings H.is_turn.fated H.read its.0 H.line_is)
            (is_fated lines T.made choice S.before S.last kept S.is_kept)

        told : TellsStruck (example_hosts count) M.stands.net w i (M.stands.holds i h here).place (seen n) (Turn i input (struck S.before S.last) (Some (S.before + 1))) H.did.now S.before S.last H.did.whole.steps H.did.whole.doings
        told =
            G.stops_tell (example_hosts count) M.stands.net w i (M.stands.holds i h here).place there.node (seen n) input H.did.meaning H.did.now H.did.status H.did.whole.steps H.did.whole.doings H.is_turn.fated
            there.is_at H.heard H.did.whole.turns H.is_turn.are H.is_turn.fared
            (all_left L K G.torn count hosts clocks mails more w i c h g n input lines bytes old fates until few M least here up time brought set T G.stops G.unbegun kept choice came) S.before S.last less

    before_steps : StopsBefore lines fates until kept → TellsFallen w event n T.node fates
    before_steps B = record {
      front = [];
      rest = H.did.whole.steps;
      gave = gave_all;
      tells = as_read w i input n [] [] fates (Some 0) until B.fates_are B.until_is
          (G.unbegun_tell (example_hosts count) M.stands.net w i (M.stands.holds i h here).place there.node (seen n) input H.did.meaning H.did.now there.is_at H.heard);
    }

    falls_tell : TellsFallen w event n T.node fates
    falls_tell = by its.1
      where
        by : StopsInStep lines T.made choice fates until kept ⊎ StopsBefore lines fates until kept → TellsFallen w event n T.node fates
        by (inl S) = in_step S
        by (inr B) = before_steps B

  -- where it halted
  module _ (came : T.came ≡ cames.Halts) where
    halts_so : HaltsSo lines T.made fates until
    halts_so = halt_comes L K G.torn count hosts clocks mails more w i c h g n input lines bytes old fates until few M least here up time brought set T G.halts came

    abbrev halt : TakesTurn told_of turneds.Halted All T.node.shrunk (seen n) (seen T.node)
        (from_of L K G.torn count hosts clocks mails more w i c h g n input lines bytes old fates until few M least here up time brought set T) T.site
    halt = halt_of L K G.torn count hosts clocks mails more w i c h g n input lines bytes old fates until few M least here up time brought set T G.halts came

    abbrev W : DidHalt halt.first (seen n) halt.node (from_of L K G.torn count hosts clocks mails more w i c h g n input lines bytes old fates until few M least here up time brought set T) halt.behind halt.steps
    W = halted_did L K G.torn count hosts clocks mails more w i c h g n input lines bytes old fates until few M least here up time brought set T G.halts came

    halted_tell : TellsHalted w event n fates
    halted_tell = record {
      step = W.halts.step;
      entry = W.halts.entry;
      records = W.halts.records;
      stands = halts_so.stands;
      tells = as_read w i input n (front_by halts_so.stands W.halts.step) (halts_so.stands ∷ []) fates (Some 1) until halts_so.fates_are halts_so.until_is
          (G.halts_tell (example_hosts count) M.stands.net w i (M.stands.holds i h here).place there.node (seen n) input W.meaning W.now W.halts.status W.halts.step W.halts.entry halts_so.stands there.is_at
          (halted_heard L K G.torn count hosts clocks mails more w i c h g n input lines bytes old fates until few M least here up time brought set T G.halts came) W.halts.is_first W.halts.records W.halts.landed);
    }

pub turns_tell : NetLaws → TurnLaws → GoneLaws → TurnsTell
turns_tell L K G = record {
  fallen = λ count hosts clocks mails more w i c h g n input lines bytes old fates until few M least here up time brought set T kept choice came.
      falls_tell L K G count hosts clocks mails more w i c h g n input lines bytes old fates until few M least here up time brought set T kept choice came;
  halted = λ count hosts clocks mails more w i c h g n input lines bytes old fates until few M least here up time brought set T came.
      halted_tell L K G count hosts clocks mails more w i c h g n input lines bytes old fates until few M least here up time brought set T came;
}
