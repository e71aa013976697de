-- A request that halts, since its record may stand or not.
use Rattle.std.specs.Prelude.{ℕ, List, [], ◌∷◌, ◌++◌, ◌≡◌, ◌≤◌, Bool, true, Option, Some, None, length, take}
use Rattle.std.proofs.Common.{refl, sym, ap, subst, ◌∙◌, inl, inr, true≢false}
use Rattle.at_base.specs.declared.event.Event.TheVariants as events
use Rattle.at_base.specs.declared.event.Local.{Local}
use Rattle.at_base.specs.declared.record.Record.{Record}
use Rattle.at_model.specs.Step.{plan, step}
use Rattle.at_model.specs.World.{Ask, World, WorldEvent, example_hosts, nth, put_nth, world_step}
use Rattle.memory_net.specs.Closed.{ExamplesAskSo, IsExampleRequest}
use Rattle.memory_net.specs.Mails.{Mail, mails_in}
use Rattle.memory_net.specs.declared.host.Host.{Host}
use Rattle.memory_net.proofs.Standing.{comes_on, same_some}
use Rattle.mirrored_nets.specs.Mirrors.{Mirrors}
use Rattle.mirrored_nets.specs.Took.{HaltsSo}
use Rattle.mirrored_nets.proofs.CutRequests.{AskLeadsTo, ask_fallen, asked_records, asked_sites}
use Rattle.mirrored_nets.proofs.CutTurns.{CutAt}
use Rattle.mirrored_nets.proofs.FallenHosts.{IsBefore, NetLaws, at_this, in_world, up_there}
use Rattle.mirrored_nets.proofs.HaltCuts.{fails_behind, halt_cut}
use Rattle.mirrored_nets.proofs.HaltedGates.{halt_by}
use Rattle.mirrored_nets.proofs.HaltedTurns.{same_behind, take_all}
use Rattle.node_at.specs.Locals.{Asked, IsTime, cleared}
use Rattle.node_at.specs.State.{seen}
use Rattle.node_at.specs.Steps.{IsStopped}
use Rattle.node_at.specs.TurnText.{IsStep, TurnStep}
use Rattle.node_at.specs.declared.local.Locally.TheVariants as answers
use Rattle.node_at.specs.declared.node.Node.{Node}
use Rattle.node_events.specs.NodeEvents.{RequestsAreEvents}
use Rattle.node_worlds.specs.Acts.{IsUp}
use Rattle.node_worlds.specs.Lives.{Requests}
use Rattle.node_worlds.specs.Machines.{IsOn}
use Rattle.node_worlds.specs.Restarts.{StandsFor}
use Rattle.node_worlds.specs.SentPosts.{recorded}
use Rattle.record_bytes.specs.Bytes.{bytes_of}
use Rattle.site_memory.specs.Devices.{Leaves, calls_in, opening_in}
use Rattle.site_memory.specs.Disk.{chosen_files}
use Rattle.site_memory.specs.Sites.{told_of}
use Rattle.site_memory.specs.declared.arm.Choice.TheVariants.{Keep}
use Rattle.site_memory.specs.declared.machine.MemSite.{MemSite}
use Rattle.site_model.specs.Told.{Made, sent_by}
use Rattle.torn_appends.specs.TornAppends.{AppendsTorn}
use Rattle.world_laws.proofs.Nodes.{put_same}

module _ (L : NetLaws) (torn : AppendsTorn) (ask_so : ExamplesAskSo) (asks : RequestsAreEvents) (count : ℕ) (few : count ≤ 8) (hosts : List Host) (clocks : List ℕ)
    (mails more : List Mail) (w : World) (M : Mirrors count hosts clocks mails w) (i : ℕ) (h g : Host) (n : Node) (here : nth i hosts ≡ Some h) (up : h.node ≡ Some n) (c : ℕ)
    (time : nth i clocks ≡ Some c) (s : MemSite) (before : IsBefore h s) (clock : s.clock ≡ c) (m : Node) (t : MemSite) (request : Local) (named : IsExampleRequest request) where
  abbrev from : MemSite
  from = asked_sites L ask_so count few hosts clocks mails more w M i h g n here up c time s before m t answers.Halted request named i

  abbrev old_records : List Record
  old_records = asked_records L ask_so count few hosts clocks mails more w M i h g n here up c time s before m t answers.Halted request named

  abbrev is_up_there : IsUp old_records (seen n) (told_of s)
  is_up_there = up_there L count few hosts clocks mails more w M i h g n here up c time s before

  same_site : from ≡ s
  same_site = at_this L count few hosts clocks mails more w M i h g n here up c time s before

  module _ (requests : Requests told_of answers.Halted (seen n) (seen m) request from t) (made : List Made) (adds : calls_in t.device ≡ calls_in s.device ++ made) (down : g.node ≡ None)
      (fell : Leaves Keep t.device g.site.device) (posted : more ≡ mails ++ mails_in i count (sent_by (take (length made) made))) (fates : List Bool) (until : Option ℕ) (H : HaltsSo 0 made fates until) where
    on : IsOn (chosen_files Keep (opening_in t.device) (calls_in s.device ++ take (length made) made)) (told_of g.site)
    on = subst (λ l. IsOn (chosen_files Keep (opening_in t.device) l) (told_of g.site)) (adds ∙ ap (λ z. calls_in s.device ++ z) (sym (take_all made))) (comes_on Keep t g.site fell)

    module _ (now : ℕ) (at : IsTime now (told_of from)) (S : IsStopped (cleared (seen n)) (seen m) (events.Local request) now (told_of from) (told_of t)) where
      time_is : now ≡ c
      time_is = at from.clock refl ∙ ap (λ (z : MemSite). z.clock) same_site ∙ clock

      abbrev begun : TurnStep
      begun = record {
        entry = (plan n.book (events.Local request) now).entry;
        landed = true;
        leaving = S.leaving;
        behind = (step n.book (events.Local request) now true).book;
        came = (step n.book (events.Local request) now true).effects;
      }

      is_step : IsStep n.book (events.Local request) now begun
      is_step = record { entry = refl; outcome = record { leaving = S.are; behind = refl; came = refl } }

      made_is : made ≡ S.stopped.first
      made_is =
          same_behind (calls_in s.device) made S.stopped.first
          (sym adds ∙ same_some (calls_in t.device) (calls_in from.device ++ S.stopped.first) S.stopped.calls ∙ ap (λ (z : MemSite). calls_in z.device ++ S.stopped.first) same_site)

      all_cut : (at : ℕ) (e : WorldEvent)
          → CutAt old_records (begun ∷ []) (chosen_files Keep (opening_in s.device) (calls_in s.device ++ made)) made
          (AskLeadsTo L ask_so count few hosts clocks mails more w M i h g n here up c time s before m t answers.Halted request named at e)
          → CutAt old_records (begun ∷ []) (chosen_files Keep (opening_in s.device) (calls_in s.device ++ take (length made) made)) (take (length made) made)
          (AskLeadsTo L ask_so count few hosts clocks mails more w M i h g n here up c time s before m t answers.Halted request named at e)
      all_cut at e cut = record {
        front = cut.front;
        rest = cut.rest;
        of = cut.of;
        doings = cut.doings;
        posts = cut.posts;
        sent = cut.sent;
        stands = subst (λ z. StandsFor (old_records ++ recorded cut.front) (chosen_files Keep (opening_in s.device) (calls_in s.device ++ z))) (sym (take_all made)) cut.stands;
        said = cut.said;
        no_posts = cut.no_posts;
        calls = ap sent_by (take_all made) ∙ cut.calls;
        leads = cut.leads;
      }

      stopped_so : Mirrors count (put_nth i g hosts) clocks more (world_step w (Ask i request fates until))
      stopped_so =
          let x = in_world L count few hosts clocks mails more w M i h g n here up c time s before in
          let p = M.stands.holds i h here in
          let e : WorldEvent = Ask i request (H.stands ∷ []) (Some 1) in
          let is_now = subst (λ k. IsStep n.book (events.Local request) k begun) (time_is ∙ sym x.clock) is_step in
          let K = halt_by n.journal (bytes_of S.entry) S.stopped.first H.file H.stands S.stopped.makes (fails_behind 0 [] S.stopped.first made H.file H.stands refl made_is H.calls) in
          let cut = halt_cut L.bodies torn old_records (seen n) s is_up_there made [] S.stopped.first tt tt made_is begun S.entry S.is refl S.stopped.formed H.stands K
          (AskLeadsTo L ask_so count few hosts clocks mails more w M i h g n here up c time s before m t answers.Halted request named x.node.clock e)
          (asks.halted (example_hosts count) M.stands.net w i p.place x.node (seen n) request begun S.entry H.stands x.is_at is_now S.is refl) in
          subst (λ (z : WorldEvent). Mirrors count (put_nth i g hosts) clocks more (world_step w z)) (λ j. Ask i request (sym H.fates_are j) (sym H.until_is j))
          (subst (λ cs. Mirrors count (put_nth i g hosts) cs more (world_step w e)) (ap (λ k. put_nth i k clocks) x.clock ∙ put_same i clocks c time)
          (ask_fallen L ask_so count few hosts clocks mails more w M i h g n here up c time s before m t answers.Halted request named requests made (length made) Keep x.node.clock e adds on down posted
          x.node.clock begun is_now (all_cut x.node.clock e cut)))

    pub halted_request : Mirrors count (put_nth i g hosts) clocks more (world_step w (Ask i request fates until))
    halted_request = by requests.asked
      where
        by : Asked answers.Halted (seen n) (seen m) request (told_of from) (told_of t) → Mirrors count (put_nth i g hosts) clocks more (world_step w (Ask i request fates until))
        by (inl (halted, same)) = absurd (true≢false (sym halted ∙ is_up_there.runs))
        by (inr (runs, named_so, (now, at, stopped))) = stopped_so now at stopped
