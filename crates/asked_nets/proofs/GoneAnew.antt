-- A turn whose steps went to their end, at one of whose calls by which the journal is written anew a fault came: the net behind it, and what it gave.
use Rattle.std.specs.Prelude.{ℕ, List, ◌++◌, ◌+◌, ◌-◌, ◌≡◌, ◌≤◌, ◌⊎◌, Bool, None, Option, Some, drop, false, if◌then◌else◌, length, take, true}
use Rattle.std.proofs.Common.{refl, sym, ap, subst, arith, ◌∙◌, inl, inr}
use Rattle.at_base.specs.declared.record.Record.{Record}
use Rattle.at_model.specs.World.{Crash, Input, Turn, World, nth, put_nth, world_step}
use Rattle.fated_walks.specs.Fated.{IsBeyond, StartsWith, all_fates}
use Rattle.memory_net.specs.Mails.{Mail, mails_in}
use Rattle.memory_net.specs.declared.host.Host.{Host}
use Rattle.memory_net.proofs.Standing.{comes_on, same_some}
use Rattle.node_at.specs.Doings.{calls_of}
use Rattle.node_at.specs.Endings.{TakesTurn}
use Rattle.node_at.specs.Meanings.{next_input}
use Rattle.node_at.specs.State.{seen}
use Rattle.node_at.specs.Turns.{IsLine, is_heard}
use Rattle.node_at.specs.declared.node.Node.{Node}
use Rattle.node_at.specs.declared.role.Role.TheVariants.{All}
use Rattle.node_at.specs.declared.turn.Turned.TheVariants as turneds
use Rattle.node_events.specs.AnsweredTurns.{TurnsAnswerSo}
use Rattle.node_events.specs.CallEffects.{EffectsAgree}
use Rattle.node_events.specs.NodeEvents.{StartsAreEvents}
use Rattle.node_worlds.specs.Acts.{IsUp}
use Rattle.node_worlds.specs.Machines.{IsOn}
use Rattle.node_worlds.proofs.LifeLaws.{turn_did}
use Rattle.site_memory.specs.Devices.{calls_in, opening_in}
use Rattle.site_memory.specs.Disk.{chosen_files}
use Rattle.site_memory.specs.Sites.{told_of}
use Rattle.site_memory.specs.ToldCalls.{LinksHold}
use Rattle.site_memory.specs.declared.arm.Choice.{Choice}
use Rattle.site_memory.specs.declared.arm.Choice.TheVariants as choices
use Rattle.site_memory.specs.declared.machine.MemSite.{MemSite}
use Rattle.site_model.specs.Told.{Made, sent_by}
use Rattle.mirrored_nets.specs.Answered.{HasEffects, IsAnswered}
use Rattle.mirrored_nets.specs.Fates.{AllDone, anew_of, fates_in}
use Rattle.mirrored_nets.specs.Goings.{IsBrought, IsSet, ms_of}
use Rattle.mirrored_nets.specs.Kept.{kept_at, writes_at}
use Rattle.mirrored_nets.specs.Mirrors.{Mirrors}
use Rattle.mirrored_nets.specs.Took.{EndsSo, FellBack, IsTriedLine, IsWhole, LeftSo, kept_of}
use Rattle.mirrored_nets.specs.AnewCalls.{FailsAnew, IsAskedWhole, of_six_in}
use Rattle.mirrored_nets.specs.ToldMachines.{IsTold}
use Rattle.mirrored_nets.specs.declared.armed.Armed.{Armed}
use Rattle.mirrored_nets.proofs.CutCalls.{take_behind}
use Rattle.mirrored_nets.proofs.FallenHosts.{InWorld, IsBefore, NetLaws, comes_back, in_world, up_there}
use Rattle.mirrored_nets.proofs.FallenTurns.{since_then}
use Rattle.mirrored_nets.proofs.HaltedTurns.{DidHalt, began_halting, halt_made, take_all}
use Rattle.mirrored_nets.proofs.InputsHeard.{line_told, works_heard}
use Rattle.mirrored_nets.proofs.InterimLines.{halts_no_line}
use Rattle.mirrored_nets.proofs.RewritingAnswers.{answers_anew, effects_anew}
use Rattle.mirrored_nets.proofs.RewritingCalls.{first_answered, halted_rests, not_in_append, whole_or_halted}
use Rattle.mirrored_nets.proofs.RewritingFates.{fates_done, fates_failed, steps_long}
use Rattle.mirrored_nets.proofs.RewritingTurns.{falls_anew, stays_anew}
use Rattle.mirrored_nets.proofs.TriedLines.{line_long}
use Rattle.mirrored_nets.proofs.TurnsTaken.{HeardTurn, TurnLaws, ends_first, from as begins_at, from_is, heard_turn, tells}
use Rattle.call_readings.specs.Reads.{FailsLast, IsCutAnew, Reads, came_to}
use Rattle.call_readings.specs.declared.became.Became.{Became}
use Rattle.call_readings.specs.declared.became.Became.TheVariants as becomes
use Rattle.reading_laws.specs.ReadingsAsk.{IsWhatCame, ReadingsAsk}
use Rattle.asked_nets.specs.DidTurn.{DidTurn, ReadTurn}

-- no fewer are kept than up to the call before that one
kept_least : (made : List Made) (k : ℕ) (choice : Choice) → k - 1 ≤ kept_at made k choice
kept_least made k choices.Keep = omega arith
kept_least made k choices.Drop = omega arith
kept_least made k (choices.Fill byte) = by (writes_at (k - 1) made)
  where
    by : (b : Bool) → k - 1 ≤ (if b then k else k - 1)
    by true = omega arith
    by false = omega arith

-- the last one failed, whichever it is
fails_some : (anew : List Made) → FailsLast anew → FailsAnew (of_six_in anew (length anew)) anew
fails_some anew f = record { front = f.front; last = f.last; all = f.all; done = f.done; fails = f.fails; is = refl }

-- the laws that this stands on, beside those of nets and turns
pub record AnewLaws : Type 0 where
  pub crash : StartsAreEvents
  pub answer : TurnsAnswerSo
  pub agree : EffectsAgree
  pub hold : LinksHold
  pub ask : ReadingsAsk

module _ (L : NetLaws) (K : TurnLaws) (A : AnewLaws) (count : ℕ) (hosts : List Host) (clocks : List ℕ) (mails more : List Mail) (w : World) (i c : ℕ) (h g : Host) (n : Node) (input : Input) (lines : ℕ) (bytes : List ℕ)
    (old : MemSite) (armed : Armed) (fates : List Bool) (until : Option ℕ) (down : Bool) (calls : ℕ) (few : count ≤ 8) (M : Mirrors count hosts clocks mails w) (least : 1 ≤ i) (here : nth i hosts ≡ Some h) (up : h.node ≡ Some n)
    (time : nth i clocks ≡ Some c) (brought : IsBrought mails i input lines bytes) (set : IsSet (c + ms_of input) h.site old)
    (R : ReadTurn armed i count lines bytes n old g mails more fates until down calls) where
  abbrev T : DidTurn i count lines bytes n old g mails more down calls
  T = R.did

  abbrev s : MemSite
  s = T.turns.connected

  before : IsBefore h s
  before = record {
    opening = ap (λ (z : MemSite). opening_in z.device) T.turns.connects.others ∙ set.opening;
    calls = ap (λ (z : MemSite). calls_in z.device) T.turns.connects.others ∙ set.calls;
  }

  abbrev there : InWorld L count few hosts clocks mails more w M i h g n here up c time s before
  there = in_world L count few hosts clocks mails more w M i h g n here up c time s before

  abbrev from : MemSite
  from = begins_at L K count few hosts clocks mails more w M i least h g n here up c time s before

  same_site : from ≡ s
  same_site = from_is L K count few hosts clocks mails more w M i least h g n here up c time s before

  turn : TakesTurn told_of T.result All T.node.shrunk (seen n) (seen T.node) from T.site
  turn = subst (λ z. TakesTurn told_of T.result All T.node.shrunk (seen n) (seen T.node) z T.site) (sym same_site) T.turns.turn

  old_calls : calls_in s.device ≡ calls_in old.device
  old_calls = ap (λ (z : MemSite). calls_in z.device) T.turns.connects.others

  abbrev old_records : List Record
  old_records = (M.stands.holds i h here).place.records

  up_now : IsUp old_records (seen n) (told_of from)
  up_now = subst (λ z. IsUp old_records (seen n) (told_of z)) (sym same_site) (up_there L count few hosts clocks mails more w M i h g n here up c time s before)

  adds : calls_in T.site.device ≡ calls_in s.device ++ T.made
  adds =
      let did = turn_did L.bodies L.grows told_of old_records T.result All T.node.shrunk (seen n) (seen T.node) from T.site up_now turn in
      since_then old s T.site T.made did.made old_calls T.adds.calls
      (same_some (calls_in T.site.device) (calls_in from.device ++ did.made) did.calls ∙ ap (λ (z : MemSite). calls_in z.device ++ did.made) same_site)

  brings : next_input (told_of from).link ≡ Some bytes
  brings = tells L K count few hosts clocks mails more w M i least h g n here up c time s before bytes T.turns.connects.brings input lines brought

  -- a turn whose steps went to their end, behind which a call failed, or none at all
  module _ (first_ends : IsWhole turn.first) (came : FailsLast (anew_of (drop lines T.made)) ⊎ AllDone T.made) (asked : IsAskedWhole lines T.made fates until) where
    H : HeardTurn count w M.stands.net i c (M.stands.holds i h here).place there.node n T.node from T.site T.result turn input lines T.made
    H =
        heard_turn L K count few hosts clocks mails more w M i least h g n here up c time s before bytes T.turns.connects.brings input lines brought old set T.turns.connects.others T.room T.result T.node T.site turn
        first_ends T.made T.adds T.tried

    long : length H.did.line ≡ lines
    long = line_long lines H.did.line H.line_is

    fates_are : fates_in (drop lines T.made) ≡ all_fates H.is_turn.fated
    fates_are = subst (λ k. fates_in (drop k T.made) ≡ all_fates H.is_turn.fated) long (by came)
      where
        by : FailsLast (anew_of (drop lines T.made)) ⊎ AllDone T.made → fates_in (drop (length H.did.line) T.made) ≡ all_fates H.is_turn.fated
        by (inl fails) =
            let last = subst (λ k. FailsLast (anew_of (drop k T.made))) (sym long) fails in
            fates_failed n.journal H.did.line T.made H.did.whole.steps H.did.whole.doings H.is_turn.fated H.read (of_six_in (anew_of (drop (length H.did.line) T.made)) (length (anew_of (drop (length H.did.line) T.made))))
            (fails_some (anew_of (drop (length H.did.line) T.made)) last)
        by (inr all) = fates_done n.journal H.did.line T.made H.did.whole.steps H.did.whole.doings H.is_turn.fated H.read all

    starts_so : StartsWith (all_fates H.is_turn.fated) fates
    starts_so = subst (λ fs. StartsWith fs fates) fates_are asked.fates_are

    ends_so : IsBeyond until (length (all_fates H.is_turn.fated))
    ends_so = subst (λ fs. IsBeyond until (length fs)) fates_are asked.beyond

    -- the calls behind the line and the steps are those by which the journal was written anew
    front_long : length T.made ≡ length (H.did.line ++ calls_of H.did.whole.doings) + length (anew_of (drop lines T.made))
    front_long =
        subst (λ k. length T.made ≡ length (H.did.line ++ calls_of H.did.whole.doings) + length (anew_of (drop k T.made))) long
        (steps_long n.journal H.did.line T.made H.did.whole.steps H.did.whole.doings H.is_turn.fated H.read n.journal.live n.journal.limit up_now.holds.bodies
        (H.did.whole.ran.fates up_now.holds.bodies up_now.holds.keeps))

    within : length (H.did.line ++ calls_of H.did.whole.doings) ≤ length T.made
    within = let e = front_long in omega (arith, e)

    effects_so : HasEffects w (Turn i input fates until) T.node
    effects_so =
        effects_anew count w M.stands.net i c (M.stands.holds i h here).place there.node n T.node from T.site T.result turn lines T.made fates until there.is_at A.agree input H (starts_so, ends_so)

    answered_so : IsWhole T.result → IsAnswered w (Turn i input fates until) input bytes T.result
    answered_so whole =
        answers_anew count w M.stands.net i c (M.stands.holds i h here).place there.node n T.node from T.site T.result turn lines T.made fates until there.is_at K.one A.answer bytes whole brings input H
        (starts_so, ends_so)

    -- where its node goes down behind them
    module _ (kept : ℕ) (choice : Choice) (enough : length (H.did.line ++ calls_of H.did.whole.doings) ≤ kept) (posted : more ≡ mails ++ mails_in i count (sent_by (take kept T.made)))
        (on : IsOn (chosen_files choice (opening_in T.site.device) (calls_in s.device ++ take kept T.made)) (told_of g.site)) (off : g.node ≡ None) where
      goes_down : Mirrors count (put_nth i g hosts) (put_nth i (c + ms_of input) clocks) more (world_step (world_step w (Turn i input fates until)) (Crash i))
      goes_down =
          subst (λ now. Mirrors count (put_nth i g hosts) (put_nth i now clocks) more (world_step (world_step w (Turn i input fates until)) (Crash i))) H.now_is
          (falls_anew L count few hosts clocks mails more w M i h g n here up c time s before T.node T.site T.result turn input lines T.made H fates until starts_so ends_so kept enough posted A.crash adds choice on off)

  posted_by : (b : Became) → T.became ≡ b → more ≡ mails ++ mails_in i count (sent_by (take (kept_of (came_to b) T.made) T.made))
  posted_by b is = T.posted ∙ ap (λ z. mails ++ mails_in i count (sent_by (take (kept_of (came_to z) T.made) T.made))) is

  reads_by : (b : Became) → T.became ≡ b → Reads armed lines T.made b fates until
  reads_by b is = subst (λ z. Reads armed lines T.made z fates until) is R.reads

  asks_by : (b : Became) → T.became ≡ b → IsWhatCame armed lines T.made b fates until
  asks_by b is = A.ask armed lines T.made b fates until (reads_by b is)

  left_by : (b : Became) → T.became ≡ b → LeftSo (came_to b) T.node old T.site g
  left_by b is = subst (λ z. LeftSo (came_to z) T.node old T.site g) is T.left

  ends_by : (b : Became) → T.became ≡ b → EndsSo (came_to b) T.result
  ends_by b is = subst (λ z. EndsSo (came_to z) T.result) is T.ends

  -- where it stays up
  module _ (came : T.became ≡ becomes.Stays) (fails : FailsLast (anew_of (drop lines T.made))) where
    whole_stays : IsWhole T.result
    whole_stays = ends_by becomes.Stays came

    going : T.result ≡ turneds.Halted → ⊥
    going halted = subst IsWhole halted whole_stays

    first_stays : IsWhole turn.first
    first_stays = ends_first T.result T.node T.site from turn whole_stays

    asked_stays : IsAskedWhole lines T.made fates until
    asked_stays = (asks_by becomes.Stays came).0

    pub turned_stays : Mirrors count (put_nth i g hosts) (put_nth i (c + ms_of input) clocks) more (world_step w (Turn i input fates until))
    turned_stays =
        subst (λ now. Mirrors count (put_nth i g hosts) (put_nth i now clocks) more (world_step w (Turn i input fates until))) (H first_stays (inl fails) asked_stays).now_is
        (stays_anew L count few hosts clocks mails more w M i h g n here up c time s before T.node T.site T.result turn input lines T.made (H first_stays (inl fails) asked_stays) fates until
        (starts_so first_stays (inl fails) asked_stays) (ends_so first_stays (inl fails) asked_stays)
        (length T.made) (within first_stays (inl fails) asked_stays) (posted_by becomes.Stays came) going (left_by becomes.Stays came).0 (left_by becomes.Stays came).1 T.turns.serving)

    pub answered_stays : IsAnswered w (Turn i input fates until) input bytes T.result × HasEffects w (Turn i input fates until) T.node
    answered_stays = (answered_so first_stays (inl fails) asked_stays whole_stays, effects_so first_stays (inl fails) asked_stays)

  -- where it stops
  module _ (kept : ℕ) (choice : Choice) (came : T.became ≡ becomes.FallsAnew kept choice) where
    whole_falls : IsWhole T.result
    whole_falls = ends_by (becomes.FallsAnew kept choice) came

    first_falls : IsWhole turn.first
    first_falls = ends_first T.result T.node T.site from turn whole_falls

    reads_falls : Reads armed lines T.made (becomes.FallsAnew kept choice) fates until
    reads_falls = reads_by (becomes.FallsAnew kept choice) came

    all_falls : AllDone T.made
    all_falls = reads_falls.are.0

    cut : IsCutAnew armed lines T.made kept choice
    cut = reads_falls.are.1

    asked_falls : IsAskedWhole lines T.made fates until
    asked_falls = (asks_by (becomes.FallsAnew kept choice) came).0

    enough_falls : length ((H first_falls (inr all_falls) asked_falls).did.line ++ calls_of (H first_falls (inr all_falls) asked_falls).did.whole.doings) ≤ kept
    enough_falls =
        let e = front_long first_falls (inr all_falls) asked_falls in let l = cut.behind in let k = kept_least T.made cut.k choice in let is = cut.cut.kept_is in omega (arith, e, l, k, is)

    fell : FellBack old T.site kept choice g.site
    fell = (left_by (becomes.FallsAnew kept choice) came).1

    on_falls : IsOn (chosen_files choice (opening_in T.site.device) (calls_in s.device ++ take kept T.made)) (told_of g.site)
    on_falls =
        comes_back old T.site g.site kept choice (calls_in s.device ++ take kept T.made)
        (ap (take (length (calls_in old.device) + kept)) adds
        ∙ take_behind kept (length (calls_in s.device)) (length (calls_in old.device) + kept) (calls_in s.device) T.made refl (ap (λ k. k + kept) (sym (ap length old_calls)))) fell

    pub turned_falls : Mirrors count (put_nth i g hosts) (put_nth i (c + ms_of input) clocks) more (world_step (world_step w (Turn i input fates until)) (Crash i))
    turned_falls =
        goes_down first_falls (inr all_falls) asked_falls kept choice enough_falls (posted_by (becomes.FallsAnew kept choice) came) on_falls (left_by (becomes.FallsAnew kept choice) came).0

    pub answered_falls : IsAnswered w (Turn i input fates until) input bytes T.result × HasEffects w (Turn i input fates until) T.node
    answered_falls = (answered_so first_falls (inr all_falls) asked_falls whole_falls, effects_so first_falls (inr all_falls) asked_falls)

  -- where it halts
  module _ (told : IsTold old) (came : T.became ≡ becomes.HaltsAnew) where
    halted : T.result ≡ turneds.Halted
    halted = ends_by becomes.HaltsAnew came

    fails_halts : FailsLast (anew_of (drop lines T.made))
    fails_halts = (reads_by becomes.HaltsAnew came).are.1

    asked_halts : IsAskedWhole lines T.made fates until
    asked_halts = (asks_by becomes.HaltsAnew came).0

    some : turn.first ≡ turneds.Served 0 → ⊥
    some =
        first_answered A.hold K.reply turn.first (seen n) turn.node from turn.behind told.0
        (ap (λ (z : MemSite). (told_of z).counts.arming) same_site ∙ ap (λ (z : MemSite). (told_of z).counts.arming) T.turns.connects.others ∙ told.1) turn.steps

    -- not in its first step
    module _ (first_halts : turn.first ≡ turneds.Halted) where
      W : DidHalt turn.first (seen n) turn.node from turn.behind turn.steps
      W = began_halting turn.first (seen n) turn.node from turn.behind turn.steps first_halts up_now.runs

      made_is : T.made ≡ W.line ++ W.halts.first
      made_is =
          halt_made turn.first (seen n) turn.node from turn.behind turn.steps W s T.site T.made same_site
          (halted_rests turn.first T.result T.node.shrunk turn.node (seen T.node) turn.behind T.site first_halts turn.ends) adds

      heard_so : is_heard W.meaning ≡ true
      heard_so = works_heard turneds.Halted _ W.meaning W.now _ turn.node (told_of from) (told_of turn.behind) (inr refl) W.halts

      line_is : IsTriedLine lines W.line
      line_is =
          line_told K.says K.quiet K.ticks K.one K.wait_or_not K.small L.bases L.nets L.closes count few hosts clocks mails w M i least input lines bytes (told_of from) (told_of turn.behind) W.line W.halts.first T.made
          brought (subst (λ b. IsLine (Some bytes) b (told_of from) (told_of turn.behind) W.line) heard_so (subst (λ o. IsLine o (is_heard W.meaning) (told_of from) (told_of turn.behind) W.line) brings W.is_line))
          made_is T.tried (λ none. halts_no_line _ _ _ W.halts.first (W.halts.makes up_now.holds.bodies up_now.holds.keeps))

      not_there : ⊥
      not_there =
          not_in_append lines (of_six_in (anew_of (drop lines T.made)) (length (anew_of (drop lines T.made)))) W.line W.halts.first T.made _ _ _ (line_long lines W.line line_is) made_is
          (W.halts.makes up_now.holds.bodies up_now.holds.keeps) (fails_some (anew_of (drop lines T.made)) fails_halts)

    first_whole : IsWhole turn.first
    first_whole = by (whole_or_halted turn.first T.result T.node.shrunk turn.node (seen T.node) turn.behind T.site some halted turn.ends)
      where
        by : IsWhole turn.first ⊎ (turn.first ≡ turneds.Halted) → IsWhole turn.first
        by (inl whole) = whole
        by (inr e) = absurd (not_there e)

    on_halts : IsOn (chosen_files choices.Keep (opening_in T.site.device) (calls_in s.device ++ take (length T.made) T.made)) (told_of g.site)
    on_halts =
        subst (λ l. IsOn (chosen_files choices.Keep (opening_in T.site.device) l) (told_of g.site)) (adds ∙ ap (λ z. calls_in s.device ++ z) (sym (take_all T.made)))
        (comes_on choices.Keep T.site g.site (left_by becomes.HaltsAnew came).1)

    pub turned_halts : Mirrors count (put_nth i g hosts) (put_nth i (c + ms_of input) clocks) more (world_step (world_step w (Turn i input fates until)) (Crash i))
    turned_halts =
        goes_down first_whole (inl fails_halts) asked_halts (length T.made) choices.Keep (within first_whole (inl fails_halts) asked_halts) (posted_by becomes.HaltsAnew came) on_halts
        (left_by becomes.HaltsAnew came).0

    pub effects_halts : HasEffects w (Turn i input fates until) T.node
    effects_halts = effects_so first_whole (inl fails_halts) asked_halts
