-- A request that was taken, and behind which its host is down: at a stop, or since the node halted.
use Rattle.std.specs.Prelude.{ℕ, List, [], ◌∷◌, ◌++◌, ◌≡◌, ◌≤◌, ◌⊎◌, Bool, Option, Some, drop, length, take}
use Rattle.std.proofs.Common.{refl, sym, ap, subst, ◌∙◌, inl, inr, append-nil}
use Rattle.std.proofs.Math.Seq.{drop-append_seam}
use Rattle.at_base.specs.Numbers.{Numbers}
use Rattle.at_base.specs.declared.event.Event.TheVariants as events
use Rattle.at_base.specs.declared.event.Local.{Local}
use Rattle.at_base.specs.declared.record.Record.{Record}
use Rattle.at_model.specs.Step.{plan}
use Rattle.at_model.specs.World.{Ask, World, example_base, example_hosts, nth, put_nth, world_step}
use Rattle.completion_at.specs.declared.requests.Refusal.{Refusal}
use Rattle.memory_net.specs.Closed.{ExamplesAskSo, IsExampleRequest}
use Rattle.memory_net.specs.Mails.{Mail, mails_in}
use Rattle.memory_net.specs.declared.host.Host.{Host}
use Rattle.memory_net.proofs.Standing.{same_some}
use Rattle.mirrored_nets.specs.Goings.{IsSet}
use Rattle.mirrored_nets.specs.Mirrors.{Mirrors}
use Rattle.mirrored_nets.specs.Took.{AnswersSo, ComesTo, LeftSo, StopsBefore, StopsInStep, TookRequest, kept_of}
use Rattle.mirrored_nets.specs.declared.came.Came.TheVariants as cames
use Rattle.mirrored_nets.proofs.CalledFates.{local_called, planned_calls}
use Rattle.mirrored_nets.proofs.CallsRead.{Read}
use Rattle.mirrored_nets.proofs.CutRequests.{asked_records, asked_sites}
use Rattle.mirrored_nets.proofs.FallenHosts.{InWorld, IsBefore, NetLaws, at_this, in_world, up_there}
use Rattle.mirrored_nets.proofs.FallenTurns.{since_then}
use Rattle.mirrored_nets.proofs.HaltedRequests.{halted_request}
use Rattle.mirrored_nets.proofs.RequestsRead.{doing_done, fate_landed, is_doing, is_step, request_read, step_done}
use Rattle.mirrored_nets.proofs.StepsLeft.{IsLanded, calls_so, fates_so, first_landed, left_so}
use Rattle.mirrored_nets.proofs.StoppedRequests.{no_stop, stopped_request, unbegun_request}
use Rattle.mirrored_nets.proofs.ToldFares.{HaveCalls}
use Rattle.mirrored_nets.proofs.TurnsRead.{StepsRead}
use Rattle.mirrored_nets.proofs.TurnsTaken.{TurnLaws, fits, keeps, owned}
use Rattle.node_at.specs.Doings.{Doing}
use Rattle.node_at.specs.Locals.{Asked}
use Rattle.node_at.specs.State.{seen}
use Rattle.node_at.specs.TurnText.{IsStep, TurnStep}
use Rattle.node_at.specs.declared.local.Locally.{Locally}
use Rattle.node_at.specs.declared.local.Locally.TheVariants as answers
use Rattle.node_at.specs.declared.node.Node.{Node}
use Rattle.node_events.specs.NodeEvents.{IsAsk, RequestsAreEvents}
use Rattle.node_worlds.specs.Acts.{IsUp}
use Rattle.node_worlds.specs.Lives.{Requests}
use Rattle.node_worlds.proofs.LifeLaws.{request_did}
use Rattle.site_memory.specs.Devices.{calls_in}
use Rattle.site_memory.specs.Sites.{told_of}
use Rattle.site_memory.specs.declared.arm.Choice.{Choice}
use Rattle.site_memory.specs.declared.machine.MemSite.{MemSite}
use Rattle.site_model.specs.Told.{sent_by}
use Rattle.torn_appends.specs.TornAppends.{AppendsTorn}
use Rattle.world_laws.specs.Moves.{ChangesByMoves}

module _ (L : NetLaws) (K : TurnLaws) (torn : AppendsTorn) (asks : RequestsAreEvents) (ask_so : ExamplesAskSo) (count : ℕ) (hosts : List Host) (clocks : List ℕ) (mails more : List Mail) (w : World)
    (i c : ℕ) (h g : Host) (n : Node) (request : Local) (old : MemSite) (fates : List Bool) (until : Option ℕ) (few : count ≤ 8) (M : Mirrors count hosts clocks mails w) (least : 1 ≤ i)
    (here : nth i hosts ≡ Some h) (up : h.node ≡ Some n) (time : nth i clocks ≡ Some c) (named : IsExampleRequest request) (set : IsSet c h.site old)
    (T : TookRequest i count request n old g mails more fates until) where
  abbrev pub before : IsBefore h old
  before = record { opening = set.opening; calls = set.calls }

  abbrev pub there : InWorld L count few hosts clocks mails more w M i h g n here up c time old before
  there = in_world L count few hosts clocks mails more w M i h g n here up c time old before

  abbrev pub from : MemSite
  from = asked_sites L ask_so count few hosts clocks mails more w M i h g n here up c time old before T.node T.site T.answer request named i

  pub same_site : from ≡ old
  same_site = at_this L count few hosts clocks mails more w M i h g n here up c time old before

  abbrev pub old_records : List Record
  old_records = asked_records L ask_so count few hosts clocks mails more w M i h g n here up c time old before T.node T.site T.answer request named

  abbrev pub is_up_there : IsUp old_records (seen n) (told_of old)
  is_up_there = up_there L count few hosts clocks mails more w M i h g n here up c time old before

  pub requests : Requests told_of T.answer (seen n) (seen T.node) request from T.site
  requests = record {
    asked = subst (λ z. Asked T.answer (seen n) (seen T.node) request (told_of z) (told_of T.site)) (sym same_site) T.requests.asked;
    nothing = λ why e. T.requests.nothing why e ∙ sym same_site;
  }

  pub adds : calls_in T.site.device ≡ calls_in old.device ++ T.made
  adds =
      let did = request_did L.bodies L.grows told_of old_records T.answer (seen n) (seen T.node) request from T.site (subst (λ z. IsUp old_records (seen n) (told_of z)) (sym same_site) is_up_there) requests in
      since_then old old T.site T.made did.made refl T.adds.calls
      (same_some (calls_in T.site.device) (calls_in from.device ++ did.made) did.calls ∙ ap (λ (z : MemSite). calls_in z.device ++ did.made) same_site)

  -- where it was done
  module _ (id : Numbers) (D : Asked (answers.Done id) (seen n) (seen T.node) request (told_of from) (told_of T.site)) where
    abbrev pub its_step : TurnStep
    its_step = step_done (seen n) (seen T.node) request D.3.0 D.3.1 from T.site D.3.3

    abbrev pub its_doing : Doing
    its_doing = doing_done (seen n) (seen T.node) request D.3.0 D.3.1 from T.site D.3.3

    pub is_now : IsStep n.book (events.Local request) there.node.clock its_step
    is_now =
        subst (λ k. IsStep n.book (events.Local request) k its_step) (D.3.2 from.clock refl ∙ ap (λ (z : MemSite). z.clock) same_site ∙ set.clock ∙ sym there.clock)
        (is_step (seen n) (seen T.node) request D.3.0 D.3.1 from T.site D.3.3)

    pub is_ask : IsAsk (example_hosts count) M.stands.net w i (M.stands.holds i h here).place there.node (seen n) (seen T.node) request its_step its_doing
    is_ask =
        asks.whole (example_hosts count) M.stands.net w i (M.stands.holds i h here).place there.node (seen n) (seen T.node) request its_step its_doing there.is_at is_now
        (is_doing (seen n) (seen T.node) request D.3.0 D.3.1 from T.site D.3.3)
        (fate_landed (plan n.book (events.Local request) D.3.0).entry D.3.3.landed n.journal D.3.3.went.first (told_of from) (told_of T.site) D.3.3.went.fate) D.3.3.went.book D.3.3.went.effects

    pub read : (R : Read n.journal [] T.made its_step [] its_doing []) × (R.anew ≡ [])
    read =
        request_read (seen n) (seen T.node) request D.3.0 D.3.1 from T.site D.3.3 L.bodies old T.made is_up_there.holds.bodies same_site T.room
        (keeps L K count few hosts clocks mails more w M i least h g n here up c time old before) (M.limits i h n here up) T.adds

    pub have : HaveCalls is_ask.fated
    have =
        planned_calls K.addressed K.reply K.pass K.place (example_base i) (owned L K count few hosts clocks mails more w M i least h g n here up c time) (plan n.book (events.Local request) there.node.clock)
        is_ask.fated
        (local_called K.addressed K.reply K.pass K.place (example_base i) (owned L K count few hosts clocks mails more w M i least h g n here up c time) n.book request there.node.clock
        (fits L K count few hosts clocks mails more w M i least h g n here up c time old before) (ask_so request named).0) is_ask.planned

    abbrev pub steps_read : StepsRead n.journal [] T.made (its_step ∷ []) (its_doing ∷ []) (is_ask.fated ∷ [])
    steps_read = record {
      s = its_step;
      ss = [];
      d = its_doing;
      ds = [];
      f = is_ask.fated;
      fs = [];
      steps_are = refl;
      doings_are = refl;
      fated_are = refl;
      fared = (is_ask.fared, tt);
      read = read.0;
      have = (have, tt);
      answered = inr read.1;
    }

  -- at a stop
  module _ (moves : ChangesByMoves) (kept : ℕ) (choice : Choice) (came : T.came ≡ cames.Falls kept choice) where
    pub ends : AnswersSo (cames.Falls kept choice) T.answer
    ends = subst (λ z. AnswersSo z T.answer) came T.ends

    pub left : LeftSo (cames.Falls kept choice) T.node old T.site g
    left = subst (λ z. LeftSo z T.node old T.site g) came T.left

    pub comes : ComesTo (cames.Falls kept choice) 0 T.made fates until
    comes = subst (λ z. ComesTo z 0 T.made fates until) came T.comes

    posted : more ≡ mails ++ mails_in i count (sent_by (take kept T.made))
    posted = T.posted ∙ ap (λ z. mails ++ mails_in i count (sent_by (take (kept_of z T.made) T.made))) came

    unbegun : StopsBefore 0 fates until kept → Mirrors count (put_nth i g hosts) clocks more (world_step w (Ask i request fates until))
    unbegun B =
        unbegun_request L torn ask_so asks moves count few hosts clocks mails more w M i h g n here up c time old before T.node T.site T.answer request named requests T.made kept choice adds left.0 left.1 posted
        fates until B

    stopped : (id : Numbers) → Asked (answers.Done id) (seen n) (seen T.node) request (told_of from) (told_of T.site) → StopsInStep 0 T.made choice fates until kept
        → Mirrors count (put_nth i g hosts) clocks more (world_step w (Ask i request fates until))
    stopped id D S =
        let r = steps_read id D in
        let landed : IsLanded (is_ask id D).fated = first_landed n.journal 0 [] T.made (its_step id D ∷ []) (its_doing id D ∷ []) ((is_ask id D).fated ∷ []) r comes.0 (inl (refl, refl)) (is_ask id D).planned.sure in
        stopped_request L torn ask_so asks moves count few hosts clocks mails more w M i h g n here up c time old before T.node T.site T.answer request named requests T.made kept choice adds left.0 left.1 posted
        (its_step id D) (its_doing id D) (is_ask id D).fated there.node.clock refl (is_now id D) (is_ask id D).planned (is_ask id D).fared
        (left_so n.journal 0 [] T.made (its_step id D ∷ []) (its_doing id D ∷ []) ((is_ask id D).fated ∷ []) r comes.0 (inl (refl, refl)) (landed, tt))
        (calls_so n.journal 0 [] T.made (its_step id D ∷ []) (its_doing id D ∷ []) ((is_ask id D).fated ∷ []) r comes.0 (inl (refl, refl)) D.3.3.went.formed landed)
        (fates_so n.journal 0 [] T.made (its_step id D ∷ []) (its_doing id D ∷ []) ((is_ask id D).fated ∷ []) r comes.0 (inl (refl, refl)) ∙ ap length (append-nil _)) fates until S

    pub none_made : T.site ≡ old → T.made ≡ []
    none_made same =
        T.adds.calls ∙ ap (λ (z : MemSite). drop (length (calls_in old.device)) (calls_in z.device)) same ∙ ap (drop (length (calls_in old.device))) (sym (append-nil (calls_in old.device)))
        ∙ drop-append_seam (calls_in old.device) []

    pub asked_falls : Mirrors count (put_nth i g hosts) clocks more (world_step w (Ask i request fates until))
    asked_falls = by T.answer ends requests.asked T.requests.nothing comes.1
      where
        by : (a : Locally) → AnswersSo (cames.Falls kept choice) a → Asked a (seen n) (seen T.node) request (told_of from) (told_of T.site) → ((why : Refusal) → a ≡ answers.Refused why → T.site ≡ old)
            → StopsInStep 0 T.made choice fates until kept ⊎ StopsBefore 0 fates until kept → Mirrors count (put_nth i g hosts) clocks more (world_step w (Ask i request fates until))
        by a so asked nothing (inr B) = unbegun B
        by (answers.Done id) so asked nothing (inl S) = stopped id asked S
        by (answers.Refused why) so asked nothing (inl S) =
            absurd (no_stop choice fates until kept (subst (λ ms. StopsInStep 0 ms choice fates until kept) (none_made (nothing why refl)) S))
        by answers.NoRoom so asked nothing (inl S) = absurd so
        by answers.Halted so asked nothing (inl S) = absurd so

  -- where it halted
  module _ (came : T.came ≡ cames.Halts) where
    pub halted : T.answer ≡ answers.Halted
    halted = subst (λ z. AnswersSo z T.answer) came T.ends

    pub halt_left : LeftSo cames.Halts T.node old T.site g
    halt_left = subst (λ z. LeftSo z T.node old T.site g) came T.left

    pub halt_comes : ComesTo cames.Halts 0 T.made fates until
    halt_comes = subst (λ z. ComesTo z 0 T.made fates until) came T.comes

    halt_posted : more ≡ mails ++ mails_in i count (sent_by (take (length T.made) T.made))
    halt_posted = T.posted ∙ ap (λ z. mails ++ mails_in i count (sent_by (take (kept_of z T.made) T.made))) came

    pub asked_halts : Mirrors count (put_nth i g hosts) clocks more (world_step w (Ask i request fates until))
    asked_halts =
        halted_request L torn ask_so asks count few hosts clocks mails more w M i h g n here up c time old before set.clock T.node T.site request named
        (subst (λ a. Requests told_of a (seen n) (seen T.node) request from T.site) halted requests) T.made adds halt_left.0 halt_left.1 halt_posted fates until halt_comes
