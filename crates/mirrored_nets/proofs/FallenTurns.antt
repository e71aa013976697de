-- A turn that was taken, and behind which its host is down: at a stop, or since the node halted.
use Rattle.std.specs.Prelude.{ℕ, List, ◌∷◌, ◌++◌, ◌+◌, ◌≡◌, ◌≤◌, ◌⊎◌, IfSome, Bool, Option, Some, None, true, drop, length, take}
use Rattle.std.specs.List.{AllByRecursion}
use Rattle.std.proofs.Common.{refl, sym, ap, subst, ◌∙◌, inl, inr}
use Rattle.std.proofs.Math.Seq.{drop-append_seam}
use Rattle.at_base.specs.declared.record.Record.{Record}
use Rattle.at_model.specs.World.{Input, Node as Known, Turn, World, example_base, nth, put_nth, world_step}
use Rattle.fated_walks.specs.Fated.{AllLeft, Fated}
use Rattle.journal_at.specs.declared.version.Version.TheVariants.{Two}
use Rattle.memory_net.specs.Mails.{Mail, mails_in}
use Rattle.memory_net.specs.declared.host.Host.{Host}
use Rattle.memory_net.proofs.Standing.{same_some}
use Rattle.mirrored_nets.specs.Goings.{IsBrought, IsSet, ms_of}
use Rattle.mirrored_nets.specs.Mirrors.{Mirrors}
use Rattle.mirrored_nets.specs.Took.{ComesTo, EndsSo, IsTriedLine, IsWhole, LeftSo, StopsBefore, StopsInStep, TookTurn, kept_of}
use Rattle.mirrored_nets.specs.declared.came.Came.TheVariants as cames
use Rattle.mirrored_nets.proofs.BroughtLines.{few_lines}
use Rattle.mirrored_nets.proofs.CutTurns.{at_sites, place_records}
use Rattle.mirrored_nets.proofs.FallenHosts.{InWorld, IsBefore, NetLaws, at_this, in_world, up_there}
use Rattle.mirrored_nets.proofs.HaltedTurns.{DidHalt, did_halt, halt_made, halted_turn}
use Rattle.mirrored_nets.proofs.InputsHeard.{input_heard, line_told, means_so, works_heard}
use Rattle.mirrored_nets.proofs.InterimLines.{halts_no_line}
use Rattle.mirrored_nets.proofs.CutCalls.{AreCallsOf}
use Rattle.mirrored_nets.proofs.StepsLeft.{IsLanded, calls_so, fates_so, first_landed, left_so, unrecorded_landed}
use Rattle.mirrored_nets.proofs.StoppedTurns.{stopped_turn, unbegun_turn}
use Rattle.mirrored_nets.proofs.TurnsTaken.{HeardTurn, TurnLaws, before_turn, carries, took_heard, turn_there}
use Rattle.node_at.specs.Doings.{AreDoings, Doing}
use Rattle.node_at.specs.Endings.{TakesTurn}
use Rattle.node_at.specs.Meanings.{Hears, next_input}
use Rattle.node_at.specs.State.{State, seen}
use Rattle.node_at.specs.TurnText.{TurnStep}
use Rattle.node_at.specs.Turns.{IsLine, is_heard}
use Rattle.node_at.specs.declared.node.Node.{Node}
use Rattle.node_at.specs.declared.role.Role.TheVariants.{All}
use Rattle.node_at.specs.declared.turn.Turned.TheVariants as turneds
use Rattle.node_events.specs.NodeEvents.{HaltsAreEvents, IsInput, StopsAreEvents, UnbegunAreEvents}
use Rattle.node_worlds.specs.Acts.{IsUp}
use Rattle.node_worlds.proofs.LifeLaws.{turn_did}
use Rattle.record_bytes.specs.Bytes.{bytes_of}
use Rattle.record_bytes.specs.Versions.{IsRecord}
use Rattle.site_memory.specs.Devices.{calls_in}
use Rattle.site_memory.specs.Sites.{told_of}
use Rattle.site_memory.specs.declared.arm.Choice.{Choice}
use Rattle.site_memory.specs.declared.machine.MemSite.{MemSite}
use Rattle.site_model.specs.Told.{Made, sent_by}
use Rattle.torn_appends.specs.TornAppends.{AppendsTorn}

-- the calls that a machine made since
pub since_then : (old s t : MemSite) (made more : List Made) → calls_in s.device ≡ calls_in old.device → made ≡ drop (length (calls_in old.device)) (calls_in t.device)
    → calls_in t.device ≡ calls_in s.device ++ more → calls_in t.device ≡ calls_in s.device ++ made
since_then old s t made more same e f =
    let all : made ≡ more = e ∙ (λ i. drop (length (sym same i)) (f i)) ∙ drop-append_seam (calls_in s.device) more in
    f ∙ ap (λ z. calls_in s.device ++ z) (sym all)

formed_first : (n : State) (steps : List TurnStep) (doings : List Doing) (s : TurnStep) (ss : List TurnStep) (d : Doing) (ds : List Doing) → AreDoings n.kept steps doings → steps ≡ s ∷ ss → doings ≡ d ∷ ds
    → IfSome s.entry (λ r. IsRecord Two r (bytes_of r))
formed_first n steps doings s ss d ds are e f =
    let all : AreDoings n.kept (s ∷ ss) (d ∷ ds) = subst (λ z. AreDoings n.kept (s ∷ ss) z) f (subst (λ z. AreDoings n.kept z doings) e are) in
    all.0.formed

module _ (L : NetLaws) (K : TurnLaws) (torn : AppendsTorn) (count : ℕ) (hosts : List Host) (clocks : List ℕ) (mails more : List Mail) (w : World) (i c : ℕ) (h g : Host) (n : Node) (input : Input)
    (lines : ℕ) (bytes : List ℕ) (old : MemSite) (fates : List Bool) (until : Option ℕ) (few : count ≤ 8) (M : Mirrors count hosts clocks mails w) (least : 1 ≤ i) (here : nth i hosts ≡ Some h)
    (up : h.node ≡ Some n) (time : nth i clocks ≡ Some c) (brought : IsBrought mails i input lines bytes) (set : IsSet (c + ms_of input) h.site old)
    (T : TookTurn i count lines bytes n old g mails more fates until) where
  abbrev pub before : IsBefore h T.turns.connected
  before = before_turn L K count few hosts clocks mails more w M i least h g n here up c time input lines bytes old fates until brought set T

  abbrev pub there : InWorld L count few hosts clocks mails more w M i h g n here up c time T.turns.connected before
  there = in_world L count few hosts clocks mails more w M i h g n here up c time T.turns.connected before

  abbrev pub from : MemSite
  from = at_sites L count few hosts clocks mails more w M i h g n here up c time T.turns.connected before T.node T.site T.result i

  pub same_site : from ≡ T.turns.connected
  same_site = at_this L count few hosts clocks mails more w M i h g n here up c time T.turns.connected before

  abbrev pub turn : TakesTurn told_of T.result All T.node.shrunk (seen n) (seen T.node) from T.site
  turn = turn_there L K count few hosts clocks mails more w M i least h g n here up c time input lines bytes old fates until brought set T

  old_calls : calls_in T.turns.connected.device ≡ calls_in old.device
  old_calls = ap (λ (z : MemSite). calls_in z.device) T.turns.connects.others

  abbrev old_records : List Record
  old_records = place_records L count few hosts clocks mails more w M i h g n here up c time T.turns.connected before T.node T.site T.result

  up_now : IsUp old_records (seen n) (told_of from)
  up_now = subst (λ z. IsUp old_records (seen n) (told_of z)) (sym same_site) (up_there L count few hosts clocks mails more w M i h g n here up c time T.turns.connected before)

  pub adds : calls_in T.site.device ≡ calls_in T.turns.connected.device ++ T.made
  adds =
      let did = turn_did L.bodies L.grows told_of old_records T.result All T.node.shrunk (seen n) (seen T.node) from T.site up_now turn in
      since_then old T.turns.connected T.site T.made did.made old_calls T.adds.calls
      (same_some (calls_in T.site.device) (calls_in from.device ++ did.made) did.calls ∙ ap (λ (z : MemSite). calls_in z.device ++ did.made) same_site)

  -- at a stop
  module _ (stops : StopsAreEvents) (unbegun : UnbegunAreEvents) (kept : ℕ) (choice : Choice) (came : T.came ≡ cames.Falls kept choice) where
    pub whole : IsWhole T.result
    whole = subst (λ z. EndsSo z T.result) came T.ends

    pub left : LeftSo (cames.Falls kept choice) T.node old T.site g
    left = subst (λ z. LeftSo z T.node old T.site g) came T.left

    pub comes : ComesTo (cames.Falls kept choice) lines T.made fates until
    comes = subst (λ z. ComesTo z lines T.made fates until) came T.comes

    posted : more ≡ mails ++ mails_in i count (sent_by (take kept T.made))
    posted = T.posted ∙ ap (λ z. mails ++ mails_in i count (sent_by (take (kept_of z T.made) T.made))) came

    abbrev pub H : HeardTurn count w M.stands.net i c (M.stands.holds i h here).place there.node n T.node from T.site T.result turn input lines T.made
    H = took_heard L K count few hosts clocks mails more w M i least h g n here up c time input lines bytes old fates until brought set T whole

    all_landed : AllByRecursion IsLanded H.is_turn.fated
    all_landed =
        let are = H.is_turn.are in
        let first : IsLanded are.first = subst (λ (z : Fated). IsLanded z) (heads are.all) (first_landed n.journal lines H.did.line T.made H.did.whole.steps H.did.whole.doings H.is_turn.fated H.read comes.0 H.line_is sure) in
        subst (λ fs. AllByRecursion IsLanded fs) (sym are.all) (first, unrecorded_landed are.due.done are.rest are.due.are)
      where
        heads : H.is_turn.fated ≡ H.is_turn.are.first ∷ H.is_turn.are.rest → H.read.f ≡ H.is_turn.are.first
        heads e = let f : H.read.f ∷ H.read.fs ≡ H.is_turn.are.first ∷ H.is_turn.are.rest = sym H.read.fated_are ∙ e in cc

        sure : H.read.f.entry ≡ None → H.read.f.landed ≡ true
        sure = subst (λ (z : Fated). z.entry ≡ None → z.landed ≡ true) (sym (heads H.is_turn.are.all)) H.is_turn.are.planned.sure

    landed_here : AllByRecursion IsLanded (H.read.f ∷ H.read.fs)
    landed_here = subst (λ fs. AllByRecursion IsLanded fs) H.read.fated_are all_landed

    pub all_left : AllLeft H.is_turn.fated
    all_left =
        subst AllLeft (sym H.read.fated_are) (left_so n.journal lines H.did.line T.made H.did.whole.steps H.did.whole.doings H.is_turn.fated H.read comes.0 H.line_is landed_here)

    pub are_calls : AreCallsOf n.journal lines T.made H.did.whole.steps H.did.whole.doings
    are_calls =
        subst (λ z. AreCallsOf n.journal lines T.made z H.did.whole.doings) (sym H.read.steps_are)
        (subst (λ z. AreCallsOf n.journal lines T.made (H.read.s ∷ H.read.ss) z) (sym H.read.doings_are)
        (calls_so n.journal lines H.did.line T.made H.did.whole.steps H.did.whole.doings H.is_turn.fated H.read comes.0 H.line_is
        (formed_first (seen n) H.did.whole.steps H.did.whole.doings H.read.s H.read.ss H.read.d H.read.ds H.did.whole.ran.are H.read.steps_are H.read.doings_are) landed_here.0))

    pub turned_falls : Mirrors count (put_nth i g hosts) (put_nth i (c + ms_of input) clocks) more (world_step w (Turn i input fates until))
    turned_falls = subst (λ now. Mirrors count (put_nth i g hosts) (put_nth i now clocks) more (world_step w (Turn i input fates until))) H.now_is (by comes.1)
      where
        by : StopsInStep lines T.made choice fates until kept ⊎ StopsBefore lines fates until kept
            → Mirrors count (put_nth i g hosts) (put_nth i H.did.now clocks) more (world_step w (Turn i input fates until))
        by (inl S) =
            stopped_turn L torn stops unbegun count few hosts clocks mails more w M i h g n here up c time T.turns.connected before T.node T.site T.result turn H.ends H.did input lines T.made adds are_calls
            H.carries H.heard kept choice old (sym (ap length old_calls)) left.0 left.1 posted H.is_turn.fated H.is_turn.are H.is_turn.fared all_left
            (fates_so n.journal lines H.did.line T.made H.did.whole.steps H.did.whole.doings H.is_turn.fated H.read comes.0 H.line_is) fates until S
        by (inr B) =
            unbegun_turn L torn stops unbegun count few hosts clocks mails more w M i h g n here up c time T.turns.connected before T.node T.site T.result turn H.ends H.did input lines T.made adds are_calls
            H.carries H.heard kept choice old (sym (ap length old_calls)) left.0 left.1 posted fates until B

  -- where it halted
  module _ (halts_lead : HaltsAreEvents) (came : T.came ≡ cames.Halts) where
    pub halted : T.result ≡ turneds.Halted
    halted = subst (λ z. EndsSo z T.result) came T.ends

    pub halt_left : LeftSo cames.Halts T.node old T.site g
    halt_left = subst (λ z. LeftSo z T.node old T.site g) came T.left

    pub halt_comes : ComesTo cames.Halts lines T.made fates until
    halt_comes = subst (λ z. ComesTo z lines T.made fates until) came T.comes

    halt_posted : more ≡ mails ++ mails_in i count (sent_by (take (length T.made) T.made))
    halt_posted = T.posted ∙ ap (λ z. mails ++ mails_in i count (sent_by (take (kept_of z T.made) T.made))) came

    abbrev pub halt : TakesTurn told_of turneds.Halted All T.node.shrunk (seen n) (seen T.node) from T.site
    halt = subst (λ r. TakesTurn told_of r All T.node.shrunk (seen n) (seen T.node) from T.site) halted turn

    adds_here : calls_in T.site.device ≡ calls_in from.device ++ T.made
    adds_here = adds ∙ ap (λ (z : MemSite). calls_in z.device ++ T.made) (sym same_site)

    pub did : DidHalt halt.first (seen n) halt.node from halt.behind halt.steps × (T.site ≡ halt.behind)
    did =
        did_halt lines (few_lines mails i input lines bytes brought) T.made T.tried fates until halt_comes (seen n) up_now.runs up_now.holds.sure from T.site adds_here halt.first T.node.shrunk halt.node (seen T.node) halt.behind
        halt.steps halt.ends

    abbrev pub W : DidHalt halt.first (seen n) halt.node from halt.behind halt.steps
    W = did.0

    tells : next_input (told_of from).link ≡ Some bytes
    tells = ap (λ (z : MemSite). next_input (told_of z).link) same_site ∙ ap (λ l. next_input (Some l)) T.turns.connects.brings

    pub now_is : W.now ≡ c + ms_of input
    now_is = W.clock from.clock refl ∙ ap (λ (z : MemSite). z.clock) same_site ∙ ap (λ (z : MemSite). z.clock) T.turns.connects.others ∙ set.clock

    heard_so : is_heard W.meaning ≡ true
    heard_so = works_heard turneds.Halted _ W.meaning W.now _ halt.node (told_of from) (told_of halt.behind) (inr refl) W.halts

    base_is : there.node.base ≡ example_base i
    base_is =
        let (x, known, stands) = M.world.nodes i (M.stands.holds i h here).place (M.stands.holds i h here).here in
        ap (λ (z : Known). z.base) (same_some there.node x (sym there.known ∙ known)) ∙ stands.base

    pub heard : IsInput w i there.node input W.meaning W.now
    heard =
        input_heard K.says K.quiet K.ticks K.one K.wait_or_not K.small L.bases L.nets L.closes count few hosts clocks mails w M i least c there.node time there.known base_is input lines bytes W.meaning W.now
        brought (means_so bytes W.meaning heard_so (subst (λ o. Hears All o W.meaning) tells W.heard)) now_is

    pub made_is : T.made ≡ W.line ++ W.halts.first
    made_is = halt_made halt.first (seen n) halt.node from halt.behind halt.steps W T.turns.connected T.site T.made same_site did.1 adds

    pub line_is : IsTriedLine lines W.line
    line_is =
        line_told K.says K.quiet K.ticks K.one K.wait_or_not K.small L.bases L.nets L.closes count few hosts clocks mails w M i least input lines bytes (told_of from) (told_of halt.behind) W.line W.halts.first T.made
        brought (subst (λ b. IsLine (Some bytes) b (told_of from) (told_of halt.behind) W.line) heard_so (subst (λ o. IsLine o (is_heard W.meaning) (told_of from) (told_of halt.behind) W.line) tells W.is_line))
        made_is T.tried (λ none. halts_no_line _ _ _ W.halts.first (W.halts.makes up_now.holds.bodies up_now.holds.keeps))

    pub turned_halts : Mirrors count (put_nth i g hosts) (put_nth i (c + ms_of input) clocks) more (world_step w (Turn i input fates until))
    turned_halts =
        subst (λ now. Mirrors count (put_nth i g hosts) (put_nth i now clocks) more (world_step w (Turn i input fates until))) now_is
        (halted_turn L torn halts_lead count few hosts clocks mails more w M i h g n here up c time T.turns.connected before T.node T.site halt W did.1 input lines T.made adds line_is
        (carries L K count few hosts clocks mails more w M i least h g n here up c time T.turns.connected before bytes T.turns.connects.brings input lines brought) heard halt_left.0 halt_left.1 halt_posted fates until halt_comes)
