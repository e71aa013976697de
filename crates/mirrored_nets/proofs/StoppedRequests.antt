-- A request on a machine that then went back to behind some of its calls, and crashed there.
use Rattle.std.specs.Prelude.{ℕ, List, [], ◌∷◌, ◌++◌, ◌+◌, ◌≡◌, ◌≤◌, ◌<◌, Bool, Option, Some, None, length, take}
use Rattle.std.proofs.Common.{refl, sym, ap, subst, ◌∙◌, inl, inr, arith}
use Rattle.at_base.specs.declared.event.Event.TheVariants as events
use Rattle.at_base.specs.declared.event.Local.{Local}
use Rattle.at_model.specs.Step.{plan}
use Rattle.at_model.specs.World.{Ask, World, WorldEvent, example_hosts, nth, put_nth, world_step}
use Rattle.fated_walks.specs.Fated.{AllLeft, Fated, IsPlanned, fates_of}
use Rattle.memory_net.specs.Closed.{ExamplesAskSo, IsExampleRequest}
use Rattle.memory_net.specs.Mails.{Mail, mails_in}
use Rattle.memory_net.specs.declared.host.Host.{Host}
use Rattle.mirrored_nets.specs.Fates.{fates_in}
use Rattle.mirrored_nets.specs.Mirrors.{Mirrors}
use Rattle.mirrored_nets.specs.Took.{FellBack, IsKept, StopsBefore, StopsInStep}
use Rattle.mirrored_nets.proofs.CutRequests.{ask_fallen, asked_records, asked_sites, undone_fallen}
use Rattle.mirrored_nets.proofs.FallenHosts.{IsBefore, NetLaws, comes_back, in_world, up_there}
use Rattle.mirrored_nets.proofs.CutCalls.{AreCallsOf, take_behind}
use Rattle.mirrored_nets.proofs.LeftFiles.{untouched_files}
use Rattle.mirrored_nets.proofs.StoppedFates.{is_fated, struck_cut}
use Rattle.mirrored_nets.proofs.UnbegunAsks.{broken_none, unbegun_ask}
use Rattle.node_at.specs.Doings.{Doing}
use Rattle.node_at.specs.State.{seen}
use Rattle.node_at.specs.TurnText.{IsStep, TurnStep}
use Rattle.node_at.specs.declared.local.Locally.{Locally}
use Rattle.node_at.specs.declared.node.Node.{Node}
use Rattle.node_events.specs.Fares.{IsFared}
use Rattle.node_events.specs.NodeEvents.{Leads, RequestsAreEvents, struck}
use Rattle.node_worlds.specs.Crashes.{IsNoPost}
use Rattle.node_worlds.specs.Lives.{Requests}
use Rattle.node_worlds.specs.Machines.{IsOn}
use Rattle.node_worlds.specs.Restarts.{StandsFor}
use Rattle.site_memory.specs.Devices.{calls_in, opening_in}
use Rattle.site_memory.specs.Disk.{chosen_files}
use Rattle.site_memory.specs.Sites.{told_of}
use Rattle.site_memory.specs.declared.arm.Choice.{Choice}
use Rattle.site_memory.specs.declared.machine.MemSite.{MemSite}
use Rattle.site_model.specs.Told.{Made, sent_by}
use Rattle.std.specs.List.{AllByRecursion}
use Rattle.torn_appends.specs.TornAppends.{AppendsTorn}
use Rattle.world_laws.proofs.Nodes.{put_same}
use Rattle.world_laws.specs.Moves.{ChangesByMoves}

-- where no call was made there is no stop at one
pub no_stop : (choice : Choice) (fates : List Bool) (until : Option ℕ) (kept : ℕ) → StopsInStep 0 [] choice fates until kept → ⊥
no_stop choice fates until kept T = by T.is_kept
  where
    by : IsKept 0 [] choice T.before T.last kept → ⊥
    by (inl K) = K.some refl
    by (inr (inl K)) = K.some refl
    by (inr (inr K)) = let f = K.within in omega (arith, f)

module _ (L : NetLaws) (torn : AppendsTorn) (ask_so : ExamplesAskSo) (asks : RequestsAreEvents) (moves : ChangesByMoves) (count : ℕ) (few : count ≤ 8) (hosts : List Host) (clocks : List ℕ)
    (mails more : List Mail) (w : World) (M : Mirrors count hosts clocks mails w) (i : ℕ) (h g : Host) (n : Node) (here : nth i hosts ≡ Some h) (up : h.node ≡ Some n) (c : ℕ)
    (time : nth i clocks ≡ Some c) (s : MemSite) (before : IsBefore h s) (m : Node) (t : MemSite) (answer : Locally) (request : Local) (named : IsExampleRequest request)
    (requests : Requests told_of answer (seen n) (seen m) request (asked_sites L ask_so count few hosts clocks mails more w M i h g n here up c time s before m t answer request named i) t)
    (made : List Made) (kept : ℕ) (choice : Choice) (adds : calls_in t.device ≡ calls_in s.device ++ made) (down : g.node ≡ None) (fell : FellBack s t kept choice g.site)
    (posted : more ≡ mails ++ mails_in i count (sent_by (take kept made))) where
  on : IsOn (chosen_files choice (opening_in t.device) (calls_in s.device ++ take kept made)) (told_of g.site)
  on =
      comes_back s t g.site kept choice (calls_in s.device ++ take kept made)
      (ap (take (length (calls_in s.device) + kept)) adds ∙ take_behind kept (length (calls_in s.device)) (length (calls_in s.device) + kept) (calls_in s.device) made refl refl) fell

  -- the clocks stay
  same_clocks : (now : ℕ) (e : WorldEvent) → now ≡ c → Mirrors count (put_nth i g hosts) (put_nth i now clocks) more (world_step w e) → Mirrors count (put_nth i g hosts) clocks more (world_step w e)
  same_clocks now e same = subst (λ cs. Mirrors count (put_nth i g hosts) cs more (world_step w e)) (ap (λ k. put_nth i k clocks) same ∙ put_same i clocks c time)

  as_event : (fates all : List Bool) (until stop : Option ℕ) → fates ≡ all → until ≡ stop → Mirrors count (put_nth i g hosts) clocks more (world_step w (Ask i request all stop))
      → Mirrors count (put_nth i g hosts) clocks more (world_step w (Ask i request fates until))
  as_event fates all until stop e f = subst (λ (z : WorldEvent). Mirrors count (put_nth i g hosts) clocks more (world_step w z)) (λ j. Ask i request (sym e j) (sym f j))

  -- before its step
  pub unbegun_request : (fates : List Bool) (until : Option ℕ) → StopsBefore 0 fates until kept → Mirrors count (put_nth i g hosts) clocks more (world_step w (Ask i request fates until))
  unbegun_request fates until T =
      let x = in_world L count few hosts clocks mails more w M i h g n here up c time s before in
      let p = M.stands.holds i h here in
      let e : WorldEvent = Ask i request [] (Some 0) in
      let within = T.within in
      let none : kept ≡ 0 = omega (arith, within) in
      let taken : take kept made ≡ [] = ap (λ k. take k made) none in
      as_event fates [] until (Some 0) T.fates_are T.until_is
      (same_clocks x.node.clock e x.clock
      (undone_fallen L ask_so count few hosts clocks mails more w M i h g n here up c time s before m t answer request named requests made kept choice x.node.clock e adds on down posted
      (subst (λ z. StandsFor (asked_records L ask_so count few hosts clocks mails more w M i h g n here up c time s before m t answer request named) (chosen_files choice (opening_in s.device) (calls_in s.device ++ z))) (sym taken)
      (untouched_files (asked_records L ask_so count few hosts clocks mails more w M i h g n here up c time s before m t answer request named) (seen n) s
      (up_there L count few hosts clocks mails more w M i h g n here up c time s before) torn [] tt choice))
      (subst (λ z. AllByRecursion IsNoPost (sent_by z)) (sym taken) tt)
      (subst (Leads (example_hosts count) i x.node.clock w e) (sym (broken_none (example_hosts count) i M.stands.net p.place (seen n)))
      (unbegun_ask moves (example_hosts count) M.stands.net w i p.place x.node (seen n) request x.is_at))))

  -- at one of its calls
  pub stopped_request : (step : TurnStep) (doing : Doing) (fated : Fated) (clock : ℕ) → clock ≡ (in_world L count few hosts clocks mails more w M i h g n here up c time s before).node.clock
      → IsStep n.book (events.Local request) clock step → IsPlanned (plan n.book (events.Local request) clock) fated → IsFared step doing fated → AllLeft (fated ∷ [])
      → AreCallsOf n.journal 0 made (step ∷ []) (doing ∷ []) → length (fates_in made) ≡ length (fates_of fated) → (fates : List Bool) (until : Option ℕ) → StopsInStep 0 made choice fates until kept
      → Mirrors count (put_nth i g hosts) clocks more (world_step w (Ask i request fates until))
  stopped_request step doing fated clock now is planned fared left C long fates until T =
      let x = in_world L count few hosts clocks mails more w M i h g n here up c time s before in
      let p = M.stands.holds i h here in
      let e : WorldEvent = Ask i request (struck T.before T.last) (Some (T.before + 1)) in
      let less : T.before < length (fates_of fated) = subst (λ k. T.before < k) long (is_fated 0 made choice T.before T.last kept T.is_kept) in
      let is_now = subst (λ k. IsStep n.book (events.Local request) k step) now is in
      let S = asks.stopped (example_hosts count) M.stands.net w i p.place x.node (seen n) request step doing fated x.is_at is_now (subst (λ k. IsPlanned (plan n.book (events.Local request) k) fated) now planned)
      fared left T.before T.last less in
      as_event fates (struck T.before T.last) until (Some (T.before + 1)) T.fates_are T.until_is
      (same_clocks x.node.clock e x.clock
      (ask_fallen L ask_so count few hosts clocks mails more w M i h g n here up c time s before m t answer request named requests made kept choice x.node.clock e adds on down posted x.node.clock step is_now
      (struck_cut L.bodies torn (asked_records L ask_so count few hosts clocks mails more w M i h g n here up c time s before m t answer request named) (seen n) s
      (up_there L count few hosts clocks mails more w M i h g n here up c time s before) 0 made (step ∷ []) (doing ∷ []) C choice (example_hosts count) M.stands.net w i p.place e x.node.clock
      T.before T.last kept S T.is_kept)))
