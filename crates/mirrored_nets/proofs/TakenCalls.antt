-- Whatever a turn or a request came to, its host mirrors the world behind the event; and what a request gave is what the world says.
use Rattle.std.specs.Prelude.{ℕ, List, ◌+◌, ◌≡◌, ◌≤◌, Bool, Option, Some}
use Rattle.std.proofs.Common.{refl}
use Rattle.at_base.specs.declared.event.Local.{Local}
use Rattle.at_model.specs.World.{Ask, Input, Turn, World, nth, put_nth, world_step}
use Rattle.memory_net.specs.Closed.{ExamplesAskSo, IsExampleRequest}
use Rattle.memory_net.specs.Mails.{Mail}
use Rattle.memory_net.specs.declared.host.Host.{Host}
use Rattle.node_at.specs.declared.node.Node.{Node}
use Rattle.node_events.specs.CallEffects.{EffectsAgree}
use Rattle.node_events.specs.NodeEvents.{HaltsAreEvents, RequestsAreEvents, StopsAreEvents, UnbegunAreEvents}
use Rattle.site_memory.specs.declared.machine.MemSite.{MemSite}
use Rattle.torn_appends.specs.TornAppends.{AppendsTorn}
use Rattle.world_laws.specs.Moves.{ChangesByMoves}
use Rattle.mirrored_nets.specs.Answered.{HasEffects, RefusesAlike}
use Rattle.mirrored_nets.specs.Goings.{IsBrought, IsSet, ms_of}
use Rattle.mirrored_nets.specs.Mirrors.{Mirrors}
use Rattle.mirrored_nets.specs.Took.{TookRequest, TookTurn}
use Rattle.mirrored_nets.specs.declared.came.Came.{Came}
use Rattle.mirrored_nets.specs.declared.came.Came.TheVariants as cames
use Rattle.mirrored_nets.proofs.FallenHosts.{NetLaws}
use Rattle.mirrored_nets.proofs.FallenRequests.{asked_falls, asked_halts}
use Rattle.mirrored_nets.proofs.FallenTurns.{turned_falls, turned_halts}
use Rattle.mirrored_nets.proofs.StayedRequests.{asked_stays}
use Rattle.mirrored_nets.proofs.StayedTurns.{turned_stays}
use Rattle.mirrored_nets.proofs.TurnsTaken.{TurnLaws}

module _ (L : NetLaws) (K : TurnLaws) (torn : AppendsTorn) where
  pub turned : StopsAreEvents → UnbegunAreEvents → HaltsAreEvents → (count : ℕ) (hosts : List Host) (clocks : List ℕ) (mails more : List Mail) (w : World) (i c : ℕ) (h g : Host) (n : Node) (input : Input)
      (lines : ℕ) (bytes : List ℕ) (old : MemSite) (fates : List Bool) (until : Option ℕ)
      → count ≤ 8 → Mirrors count hosts clocks mails w → 1 ≤ i → nth i hosts ≡ Some h → h.node ≡ Some n → nth i clocks ≡ Some c → IsBrought mails i input lines bytes → IsSet (c + ms_of input) h.site old
      → TookTurn i count lines bytes n old g mails more fates until
      → Mirrors count (put_nth i g hosts) (put_nth i (c + ms_of input) clocks) more (world_step w (Turn i input fates until))
  turned stops unbegun halts count hosts clocks mails more w i c h g n input lines bytes old fates until few M least here up time brought set T = by T.came refl
    where
      by : (came : Came) → T.came ≡ came → Mirrors count (put_nth i g hosts) (put_nth i (c + ms_of input) clocks) more (world_step w (Turn i input fates until))
      by cames.Stays e = turned_stays L K count hosts clocks mails more w i c h g n input lines bytes old fates until few M least here up time brought set T e
      by (cames.Falls kept choice) e =
          turned_falls L K torn count hosts clocks mails more w i c h g n input lines bytes old fates until few M least here up time brought set T stops unbegun kept choice e
      by cames.Halts e = turned_halts L K torn count hosts clocks mails more w i c h g n input lines bytes old fates until few M least here up time brought set T halts e

  pub asked : RequestsAreEvents → ExamplesAskSo → ChangesByMoves → (count : ℕ) (hosts : List Host) (clocks : List ℕ) (mails more : List Mail) (w : World) (i c : ℕ) (h g : Host) (n : Node)
      (request : Local) (old : MemSite) (fates : List Bool) (until : Option ℕ)
      → count ≤ 8 → Mirrors count hosts clocks mails w → 1 ≤ i → nth i hosts ≡ Some h → h.node ≡ Some n → nth i clocks ≡ Some c → IsExampleRequest request → IsSet c h.site old
      → TookRequest i count request n old g mails more fates until → Mirrors count (put_nth i g hosts) clocks more (world_step w (Ask i request fates until))
  asked asks ask_so moves count hosts clocks mails more w i c h g n request old fates until few M least here up time named set T = by T.came refl
    where
      by : (came : Came) → T.came ≡ came → Mirrors count (put_nth i g hosts) clocks more (world_step w (Ask i request fates until))
      by cames.Stays e = (asked_stays L K asks ask_so count hosts clocks mails more w i c h g n request old fates until few M least here up time named set T e).0
      by (cames.Falls kept choice) e =
          asked_falls L K torn asks ask_so count hosts clocks mails more w i c h g n request old fates until few M least here up time named set T moves kept choice e
      by cames.Halts e = asked_halts L K torn asks ask_so count hosts clocks mails more w i c h g n request old fates until few M least here up time named set T e

  pub asked_effects : RequestsAreEvents → ExamplesAskSo → EffectsAgree → (count : ℕ) (hosts : List Host) (clocks : List ℕ) (mails more : List Mail) (w : World) (i c : ℕ) (h g : Host) (n : Node)
      (request : Local) (old : MemSite) (fates : List Bool) (until : Option ℕ)
      → count ≤ 8 → Mirrors count hosts clocks mails w → 1 ≤ i → nth i hosts ≡ Some h → h.node ≡ Some n → nth i clocks ≡ Some c → IsExampleRequest request → IsSet c h.site old
      → (T : TookRequest i count request n old g mails more fates until) → T.came ≡ cames.Stays → RefusesAlike w i request T.answer × HasEffects w (Ask i request fates until) T.node
  asked_effects asks ask_so agree count hosts clocks mails more w i c h g n request old fates until few M least here up time named set T stays =
      let (mirrors, taken, effects) = asked_stays L K asks ask_so count hosts clocks mails more w i c h g n request old fates until few M least here up time named set T stays in (taken, effects agree)
