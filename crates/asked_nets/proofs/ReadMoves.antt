-- What was done to a net in memory that mirrors a world, and was read, is an event of that world: what it gave, and the net behind it.
use Rattle.std.specs.Prelude.{ℕ, List, [], ◌∷◌, ◌++◌, ◌+◌, ◌-◌, ◌≡◌, ◌≤◌, ◌⊎◌, Bool, None, Ok, Option, Some, drop, false, if◌then◌else◌, length, map, nat_le, nat_lt, take, true}
use Rattle.std.proofs.Common.{ap, arith, inl, inr, refl, subst, sym, ◌∙◌}
use Rattle.std.proofs.lemmas.Bool.{leb-true}
use Rattle.at_base.specs.declared.event.Local.{Local}
use Rattle.at_model.specs.Recovery.{last_incarnation}
use Rattle.at_model.specs.World.{Input, World, WorldEvent, Turn, Ask, Crash, Up, example_base, put_nth, world_step}
use Rattle.memory_net.specs.Closed.{ExamplesAskSo}
use Rattle.memory_net.specs.Calls.{Begins}
use Rattle.memory_net.specs.Mails.{Mail, mail_of, mails_in}
use Rattle.memory_net.specs.declared.host.Host.{Host}
use Rattle.node_at.specs.Starts.{StandFor}
use Rattle.node_at.specs.declared.fault.StartFault.TheVariants.{Disk}
use Rattle.node_at.specs.declared.node.Node.{Node}
use Rattle.node_events.specs.NodeEvents.{RequestsAreEvents}
use Rattle.site_memory.specs.Devices.{calls_in, opening_in}
use Rattle.site_memory.specs.Tells.{reads}
use Rattle.site_memory.specs.declared.arm.Choice.{Choice}
use Rattle.site_memory.specs.declared.arm.Choice.TheVariants.{Keep}
use Rattle.site_memory.specs.declared.machine.MemSite.{MemSite}
use Rattle.site_model.specs.Told.{Made, sent_by}
use Rattle.mirrored_nets.specs.Fates.{AllDone, anew_of, disk_part}
use Rattle.mirrored_nets.specs.Goings.{IsSet, NetsMirror, ms_of}
use Rattle.mirrored_nets.specs.Mirrors.{Mirrors}
use Rattle.mirrored_nets.specs.Seen.{Seen}
use Rattle.mirrored_nets.specs.LeftStarts.{IsBegun, IsStanding, may_fail}
use Rattle.mirrored_nets.specs.ToldMachines.{IsTold, IsToldOf}
use Rattle.mirrored_nets.specs.Took.{AnswersSo, ComesTo, EndsSo, FellBack, LeftSo, TookRequest, TookTurn, kept_of}
use Rattle.mirrored_nets.specs.TookStart.{HasLast}
use Rattle.mirrored_nets.specs.declared.armed.Armed.{Armed}
use Rattle.mirrored_nets.specs.declared.armed.Armed.TheVariants as arms
use Rattle.mirrored_nets.proofs.FallenHosts.{NetLaws}
use Rattle.mirrored_nets.proofs.NetEvents.{numbered, of_parts, same_few, same_mirrors}
use Rattle.mirrored_nets.proofs.StartFaults.{may_be_struck}
use Rattle.mirrored_nets.proofs.TurnsTaken.{TurnLaws}
use Rattle.call_readings.specs.AskedEvents.{IsOf}
use Rattle.call_readings.specs.Reads.{FailsLast, IsCutInSteps, IsOfSteps, Reads, came_to, fate_behind, fate_number}
use Rattle.call_readings.specs.ReadsStart.{LandsBy, StartsAs}
use Rattle.call_readings.specs.declared.became.Became.{Became}
use Rattle.call_readings.specs.declared.became.Became.TheVariants as becomes
use Rattle.reading_laws.specs.GoneRequests.{AskedTell}
use Rattle.reading_laws.specs.GoneTurns.{TurnsTell}
use Rattle.reading_laws.specs.ReadingsAsk.{IsWhatCame}
use Rattle.reading_laws.specs.RequestsAreRead.{IsRequestHere}
use Rattle.asked_nets.specs.Behind.{goes_anew, world_behind}
use Rattle.asked_nets.specs.DidRequest.{DidRequest, ReadRequest}
use Rattle.asked_nets.specs.DidStart.{DidStart, LeftStart}
use Rattle.asked_nets.specs.DidTurn.{DidTurn, ReadTurn}
use Rattle.asked_nets.specs.Happened.{AskedHappen, Happened, MirrorsAt}
use Rattle.asked_nets.specs.ReadAnswers.{AskAnswers, TurnAnswers}
use Rattle.asked_nets.specs.ReadSteps.{AsksNode, IsTold as IsToldBy, MovesRead, StartsNode, TurnsNode}
use Rattle.asked_nets.proofs.GoneAnew.{AnewLaws, answered_falls, answered_stays, effects_halts, turned_falls, turned_halts, turned_stays}
use Rattle.asked_nets.proofs.RequestCalls.{asked_anew}

-- the laws that this stands on
pub record MoveLaws : Type 0 where
  pub net : NetLaws
  pub turn : TurnLaws
  pub anew : AnewLaws
  pub mirror : NetsMirror
  pub turns_tell : TurnsTell
  pub asked_tell : AskedTell
  pub requests : RequestsAreEvents
  pub ask_so : ExamplesAskSo

told_some : (armed : Armed) (s : MemSite) → IsToldOf armed s → IsTold s
told_some armed s told = (_, told)

-- A turn, as one of mirrored nets.
module _ (i count lines : ℕ) (bytes : List ℕ) (n : Node) (old : MemSite) (g : Host) (mails more : List Mail) (armed : Armed) (fates : List Bool) (until : Option ℕ) (down : Bool) (calls : ℕ)
    (R : ReadTurn armed i count lines bytes n old g mails more fates until down calls) (b : Became) (is : R.did.became ≡ b) where
  abbrev D : DidTurn i count lines bytes n old g mails more down calls
  D = R.did

  abbrev took_turn : ComesTo (came_to b) lines D.made fates until → TookTurn i count lines bytes n old g mails more fates until
  took_turn comes = record {
    room = D.room;
    result = D.result;
    node = D.node;
    site = D.site;
    turns = D.turns;
    made = D.made;
    adds = D.adds;
    tried = D.tried;
    came = came_to b;
    ends = subst (λ z. EndsSo (came_to z) D.result) is D.ends;
    comes = comes;
    left = subst (λ z. LeftSo (came_to z) D.node old D.site g) is D.left;
    remembers = D.remembers;
    posted = D.posted ∙ ap (λ z. mails ++ mails_in i count (sent_by (take (kept_of (came_to z) D.made) D.made))) is;
  }

module _ (i count : ℕ) (request : Local) (n : Node) (old : MemSite) (g : Host) (mails more : List Mail) (armed : Armed) (fates : List Bool) (until : Option ℕ) (calls : ℕ)
    (R : ReadRequest armed i count request n old g mails more fates until calls) (b : Became) (is : R.did.became ≡ b) where
  abbrev Q : DidRequest i count request n old g mails more calls
  Q = R.did

  abbrev took_request : ComesTo (came_to b) 0 Q.made fates until → TookRequest i count request n old g mails more fates until
  took_request comes = record {
    room = Q.room;
    answer = Q.answer;
    node = Q.node;
    site = Q.site;
    requests = Q.requests;
    made = Q.made;
    adds = Q.adds;
    came = came_to b;
    ends = subst (λ z. AnswersSo (came_to z) Q.answer) is Q.ends;
    comes = comes;
    left = subst (λ z. LeftSo (came_to z) Q.node old Q.site g) is Q.left;
    posted = Q.posted ∙ ap (λ z. mails ++ mails_in i count (sent_by (take (kept_of (came_to z) Q.made) Q.made))) is;
  }

-- a stop of a request is at one of its fates
some_number : (append : List Made) (k : ℕ) → 1 ≤ k → fate_behind append k ≡ 0 → ⊥
some_number [] k least e = omega (arith, least, e)
some_number (m ∷ append) k least e = cc

not_before : (made : List Made) (k : ℕ) → 1 ≤ k → fate_number 0 made k ≡ 0 → ⊥
not_before made k least e = by (nat_le k 0) refl e
  where
    by : (b : Bool) → nat_le k 0 ≡ b → (if b then 0 else fate_behind (disk_part made) (k - 0)) ≡ 0 → ⊥
    by true p f = let l = leb-true k 0 p in omega (arith, least, l)
    by false p f = some_number (disk_part made) (k - 0) (omega (arith, least)) f

same_some : {A : Type 0} (x y : A) → Some x ≡ Some y → x ≡ y
same_some x y e = cc

-- the files of a machine that is set for an event read as before
has_last : (now last : ℕ) (site old : MemSite) → IsSet now site old → HasLast last site → HasLast last old
has_last now last site old set H = record {
  version = H.version;
  records = H.records;
  stand = subst (λ l. StandFor H.version H.records (reads (opening_in old.device) l)) (sym set.calls) (subst (λ o. StandFor H.version H.records (reads o (calls_in site.device))) (sym set.opening) H.stand);
  last_is = H.last_is;
}

standing_last : (s : MemSite) (S : IsStanding s) → HasLast (last_incarnation S.records) s
standing_last s S = record { version = S.version; records = S.records; stand = S.stand; last_is = refl }

module _ (A : MoveLaws) (old new : Seen) (count : ℕ) (w : World) (few : count ≤ 8) (mirrors : MirrorsAt count old w) where
  abbrev many : ℕ
  many = length old.hosts

  abbrev mails : List Mail
  mails = map mail_of old.letters

  abbrev more : List Mail
  more = map mail_of new.letters

  small : many ≤ 8
  small = same_few A.mirror old new count w few mirrors

  M : Mirrors many old.hosts old.clocks mails w
  M = same_mirrors A.mirror old new count w few mirrors

  module _ (armed : Armed) (down : Bool) (i : ℕ) (input : Input) (fates : List Bool) (until : Option ℕ) (raw : List ℕ) (calls : ℕ) (s : TurnsNode armed down i input fates until raw calls old new) where
    abbrev event : WorldEvent
    event = Turn i input fates until

    least : 1 ≤ i
    least = numbered i old.hosts s.host s.here

    abbrev Turned : Became → Type 0
    Turned b =
        Mirrors many (put_nth i s.behind old.hosts) (put_nth i (s.clock + ms_of input) old.clocks) more (world_behind (goes_anew b) w event)
        × TurnAnswers w event input s.bytes b s.took.did.result s.node s.took.did.node fates

    mirrored : TookTurn i many s.lines s.bytes s.node s.machine s.behind mails more fates until → Mirrors many (put_nth i s.behind old.hosts) (put_nth i (s.clock + ms_of input) old.clocks) more (world_step w event)
    mirrored T = A.mirror.turned many old.hosts old.clocks mails more w i s.clock s.host s.behind s.node input s.lines s.bytes s.machine fates until small M least s.here s.up s.time s.brought s.set T

    reads_by : (b : Became) → s.took.did.became ≡ b → Reads armed s.lines s.took.did.made b fates until
    reads_by b is = subst (λ z. Reads armed s.lines s.took.did.made z fates until) is s.took.reads

    asks_by : (b : Became) → s.took.did.became ≡ b → IsWhatCame armed s.lines s.took.did.made b fates until
    asks_by b is = A.anew.ask armed s.lines s.took.did.made b fates until (reads_by b is)

    abbrev took_by : (b : Became) (is : s.took.did.became ≡ b) → ComesTo (came_to b) s.lines s.took.did.made fates until → TookTurn i many s.lines s.bytes s.node s.machine s.behind mails more fates until
    took_by b is comes = took_turn i many s.lines s.bytes s.node s.machine s.behind mails more armed fates until down calls s.took b is comes

    stayed : s.took.did.became ≡ becomes.Stays → AllDone (anew_of (drop s.lines s.took.did.made)) ⊎ FailsLast (anew_of (drop s.lines s.took.did.made)) → Turned becomes.Stays
    stayed is (inl all) =
        let T : TookTurn i many s.lines s.bytes s.node s.machine s.behind mails more fates until = took_by becomes.Stays is ((asks_by becomes.Stays is).1 all) in (
          mirrored T,
          (
            A.mirror.answered many old.hosts old.clocks mails more w i s.clock s.host s.behind s.node input s.lines s.bytes s.machine fates until small M least s.here s.up s.time s.brought s.set T refl,
            A.mirror.turned_effects many old.hosts old.clocks mails more w i s.clock s.host s.behind s.node input s.lines s.bytes s.machine fates until small M least s.here s.up s.time s.brought s.set T refl,
          ),
        )
    stayed is (inr fails) = (
      turned_stays A.net A.turn A.anew many old.hosts old.clocks mails more w i s.clock s.host s.behind s.node input s.lines s.bytes s.machine armed fates until down calls small M least s.here s.up s.time s.brought
          s.set s.took is fails,
      answered_stays A.net A.turn A.anew many old.hosts old.clocks mails more w i s.clock s.host s.behind s.node input s.lines s.bytes s.machine armed fates until down calls small M least s.here s.up s.time s.brought
          s.set s.took is fails,
    )

    turned_by : (b : Became) → s.took.did.became ≡ b → Turned b
    turned_by becomes.Stays is = stayed is (reads_by becomes.Stays is).are.1
    turned_by (becomes.Falls kept choice) is =
        let T : TookTurn i many s.lines s.bytes s.node s.machine s.behind mails more fates until = took_by (becomes.Falls kept choice) is (asks_by (becomes.Falls kept choice) is).0 in (
          mirrored T,
          A.turns_tell.fallen many old.hosts old.clocks mails more w i s.clock s.host s.behind s.node input s.lines s.bytes s.machine fates until small M least s.here s.up s.time s.brought s.set T kept choice refl,
        )
    turned_by becomes.Halts is =
        let T : TookTurn i many s.lines s.bytes s.node s.machine s.behind mails more fates until = took_by becomes.Halts is (asks_by becomes.Halts is).0 in (
          mirrored T,
          A.turns_tell.halted many old.hosts old.clocks mails more w i s.clock s.host s.behind s.node input s.lines s.bytes s.machine fates until small M least s.here s.up s.time s.brought s.set T refl,
        )
    turned_by (becomes.FallsAnew kept choice) is = (
      turned_falls A.net A.turn A.anew many old.hosts old.clocks mails more w i s.clock s.host s.behind s.node input s.lines s.bytes s.machine armed fates until down calls small M least s.here s.up s.time s.brought
          s.set s.took kept choice is,
      answered_falls A.net A.turn A.anew many old.hosts old.clocks mails more w i s.clock s.host s.behind s.node input s.lines s.bytes s.machine armed fates until down calls small M least s.here s.up s.time s.brought
          s.set s.took kept choice is,
    )
    turned_by becomes.HaltsAnew is = (
      turned_halts A.net A.turn A.anew many old.hosts old.clocks mails more w i s.clock s.host s.behind s.node input s.lines s.bytes s.machine armed fates until down calls small M least s.here s.up s.time s.brought
          s.set s.took (told_some armed s.machine s.told) is,
      effects_halts A.net A.turn A.anew many old.hosts old.clocks mails more w i s.clock s.host s.behind s.node input s.lines s.bytes s.machine armed fates until down calls small M least s.here s.up s.time s.brought
          s.set s.took (told_some armed s.machine s.told) is,
    )

  module _ (armed : Armed) (i : ℕ) (request : Local) (fates : List Bool) (until : Option ℕ) (calls : ℕ) (s : AsksNode armed i request fates until calls old new) where
    abbrev asking : WorldEvent
    asking = Ask i request fates until

    first : 1 ≤ i
    first = numbered i old.hosts s.host s.here

    abbrev Asks : Became → Type 0
    Asks b = Mirrors many (put_nth i s.behind old.hosts) old.clocks more (world_step w asking) × AskAnswers w i asking request b s.took.did.answer s.node s.took.did.node fates

    its_reads : (b : Became) → s.took.did.became ≡ b → Reads armed 0 s.took.did.made b fates until
    its_reads b is = subst (λ z. Reads armed 0 s.took.did.made z fates until) is s.took.reads

    its_asks : (b : Became) → s.took.did.became ≡ b → IsWhatCame armed 0 s.took.did.made b fates until
    its_asks b is = A.anew.ask armed 0 s.took.did.made b fates until (its_reads b is)

    its_steps : (b : Became) → s.took.did.became ≡ b → IsOfSteps b
    its_steps b is = subst IsOfSteps is s.took.of_steps

    abbrev took_so : (b : Became) (is : s.took.did.became ≡ b) → ComesTo (came_to b) 0 s.took.did.made fates until → TookRequest i many request s.node s.machine s.behind mails more fates until
    took_so b is comes = took_request i many request s.node s.machine s.behind mails more armed fates until calls s.took b is comes

    asked_so : TookRequest i many request s.node s.machine s.behind mails more fates until → Mirrors many (put_nth i s.behind old.hosts) old.clocks more (world_step w asking)
    asked_so T = A.mirror.asked many old.hosts old.clocks mails more w i s.clock s.host s.behind s.node request s.machine fates until small M first s.here s.up s.time s.named s.set T

    here : IsRequestHere i many request s.node s.machine armed
    here = record {
      few = small;
      hosts = old.hosts;
      clocks = old.clocks;
      mails = mails;
      world = w;
      mirrors = M;
      least = first;
      host = s.host;
      here = s.here;
      up = s.up;
      clock = s.clock;
      time = s.time;
      named = s.named;
      set = s.set;
      told = s.told;
    }

    anew_none : s.took.did.became ≡ becomes.Stays → AllDone (anew_of (drop 0 s.took.did.made))
    anew_none is =
        subst AllDone
        (sym
        (asked_anew A.net A.turn A.requests A.ask_so i many request s.node s.took.did.node s.machine s.took.did.site armed s.took.did.made here s.took.did.room s.took.did.adds s.took.did.answer s.took.did.requests
        (subst (λ z. AnswersSo (came_to z) s.took.did.answer) is s.took.did.ends))) tt

    asked_by : (b : Became) → s.took.did.became ≡ b → Asks b
    asked_by becomes.Stays is =
        let T : TookRequest i many request s.node s.machine s.behind mails more fates until = took_so becomes.Stays is ((its_asks becomes.Stays is).1 (anew_none is)) in (
          asked_so T,
          A.mirror.asked_effects many old.hosts old.clocks mails more w i s.clock s.host s.behind s.node request s.machine fates until small M first s.here s.up s.time s.named s.set T refl,
        )
    asked_by (becomes.Falls kept choice) is =
        let T : TookRequest i many request s.node s.machine s.behind mails more fates until = took_so (becomes.Falls kept choice) is (its_asks (becomes.Falls kept choice) is).0 in
        let cut : IsCutInSteps armed 0 s.took.did.made kept choice until = (its_reads (becomes.Falls kept choice) is).are.1 in (
          asked_so T,
          A.asked_tell.fallen many old.hosts old.clocks mails more w i s.clock s.host s.behind s.node request s.machine fates until small M first s.here s.up s.time s.named s.set T kept choice refl
              (λ e. not_before s.took.did.made cut.k cut.cut.least (same_some (fate_number 0 s.took.did.made cut.k) 0 (sym cut.until_is ∙ e))),
        )
    asked_by becomes.Halts is =
        let T : TookRequest i many request s.node s.machine s.behind mails more fates until = took_so becomes.Halts is (its_asks becomes.Halts is).0 in (
          asked_so T,
          A.asked_tell.halted many old.hosts old.clocks mails more w i s.clock s.host s.behind s.node request s.machine fates until small M first s.here s.up s.time s.named s.set T refl,
        )
    asked_by (becomes.FallsAnew kept choice) is = absurd (its_steps (becomes.FallsAnew kept choice) is)
    asked_by becomes.HaltsAnew is = absurd (its_steps becomes.HaltsAnew is)

  module _ (armed : Armed) (i : ℕ) (landed stop : Bool) (calls : ℕ) (s : StartsNode armed i landed stop calls old new) where
    abbrev begun : DidStart (example_base i) s.machine s.behind calls
    begun = s.took.did

    abbrev Started : Type 0
    Started = Mirrors many (put_nth i s.behind old.hosts) old.clocks mails (world_step w (Up i landed stop))

    lowest : 1 ≤ i
    lowest = numbered i old.hosts s.host s.here

    left_as : (b : Became) → begun.became ≡ b → LeftStart b begun.result s.machine begun.site begun.made s.behind
    left_as b is = subst (λ z. LeftStart z begun.result s.machine begun.site begun.made s.behind) is begun.left

    starts_as : (b : Became) → begun.became ≡ b → StartsAs s.struck begun.made begun.result b landed stop
    starts_as b is = subst (λ z. StartsAs s.struck begun.made begun.result z landed stop) is s.took.reads

    lands_as : (b : Became) → begun.became ≡ b → LandsBy b s.machine begun.site begun.made landed
    lands_as b is = subst (λ z. LandsBy z s.machine begun.site begun.made landed) is s.took.lands

    -- it met a fault, so its files have a Start
    begun_before : (s.struck ≡ arms.No → ⊥) → (last : ℕ) × HasLast last s.machine
    begun_before some = by s.struck_is
      where
        by : IsToldBy armed s.host.site s.struck → (last : ℕ) × HasLast last s.machine
        by (inl (none, why)) = absurd (some none)
        by (inr (same, was)) = (was.last, has_last s.clock was.last s.host.site s.machine s.set was.is)

    fallen : (kept : ℕ) (choice : Choice) → (s.struck ≡ arms.No → ⊥) → stop ≡ true → s.behind.node ≡ None → FellBack s.machine begun.site kept choice s.behind.site
        → ((t : MemSite) → FellBack s.machine begun.site kept choice t → IsStanding t)
        → ((t : MemSite) (before behind : ℕ) → FellBack s.machine begun.site kept choice t → HasLast before s.machine → HasLast behind t → landed ≡ nat_lt before behind) → IsBegun s.struck begun.result → Started
    fallen kept choice some stops off fell stands rose may =
        let (last, was) = begun_before some in
        let stood : IsStanding s.behind.site = stands s.behind.site fell in
        A.mirror.upped_not many old.hosts old.clocks mails w i s.clock s.host s.behind s.machine landed stop small M lowest s.here s.down s.set
        (record {
          result = begun.result;
          site = begun.site;
          begins = begun.begins;
          may = may_be_struck s.struck begun.result may;
          kept = kept;
          choice = choice;
          down = off;
          fell = fell;
          before = last;
          was = was;
          behind = last_incarnation stood.records;
          is = standing_last s.behind.site stood;
          landed_is = rose s.behind.site last (last_incarnation stood.records) fell was (standing_last s.behind.site stood);
        }) (λ lands. stops)

    started_by : (b : Became) → begun.became ≡ b → Started
    started_by becomes.Stays is =
        let up = left_as becomes.Stays is in
        let (came, uncut, lands, stays) = starts_as becomes.Stays is in
        subst (λ l. Mirrors many (put_nth i s.behind old.hosts) old.clocks mails (world_step w (Up i l stop))) (sym lands)
        (subst (λ z. Mirrors many (put_nth i s.behind old.hosts) old.clocks mails (world_step w (Up i true z))) (sym stays)
        (A.mirror.upped many old.hosts old.clocks mails w i s.clock s.host s.behind s.machine small M lowest s.here s.down s.set
        (record {
          node = up.node;
          begins = subst (Begins (example_base i) (Ok up.node) s.machine) (sym up.site) (subst (λ r. Begins (example_base i) r s.machine begun.site) up.is begun.begins);
          is = up.up;
          serving = up.serving;
        })))
    started_by (becomes.Falls kept choice) is =
        let (off, fell) = left_as (becomes.Falls kept choice) is in
        let (came, all, (k, cut), lands, stops) = starts_as (becomes.Falls kept choice) is in
        let L = lands_as (becomes.Falls kept choice) is in
        fallen kept choice (λ none. let e : arms.Stop k choice ≡ arms.No = sym cut.armed_is ∙ none in cc) stops off fell L.stands L.rose (subst (IsBegun s.struck) (sym came.1) tt)
    started_by becomes.Halts is =
        let (off, fell) = left_as becomes.Halts is in
        let (disk, (k, fails), last, lands, stops) = starts_as becomes.Halts is in
        let L = lands_as becomes.Halts is in
        fallen (length begun.made) Keep (λ none. let e : arms.Fail k ≡ arms.No = sym fails ∙ none in cc) stops off fell L.stands L.rose (subst (IsBegun s.struck) (sym disk) (ap (may_fail Disk) fails))
    started_by (becomes.FallsAnew kept choice) is = absurd (left_as (becomes.FallsAnew kept choice) is)
    started_by becomes.HaltsAnew is = absurd (left_as becomes.HaltsAnew is)

  -- of as many nodes as it has hosts
  as_many : (v : World) (hosts : List Host) (clocks : List ℕ) → new.hosts ≡ hosts → new.clocks ≡ clocks → Mirrors many hosts clocks more v → MirrorsAt count new v
  as_many v hosts clocks puts ticks m = of_parts A.mirror old new count w few mirrors v hosts clocks puts ticks (subst (λ n. Mirrors n hosts clocks more v) mirrors.many m)

  -- the next net, seen so
  seen_as : (v : World) (net : Seen) → new ≡ net → MirrorsAt many net v → MirrorsAt count new v
  seen_as v net e m = subst (λ (s : Seen). MirrorsAt count s v) (sym e) (subst (λ n. MirrorsAt n net v) mirrors.many m)

  moved : (armed : Armed) (asked event : WorldEvent) (down : Bool) (raw : List ℕ) (calls : ℕ) → IsOf asked event → MovesRead armed down event raw calls old new → Happened count w armed asked raw old new event down calls
  moved armed asked (Turn i input fates until) down raw calls of s =
      let turned = turned_by armed down i input fates until raw calls s s.took.did.became refl in
      record {
        of = of;
        step = inl s;
        answers = turned.1;
        mirrors =
            subst (λ z. MirrorsAt count new (world_behind z w (Turn i input fates until))) (sym s.took.did.down_is)
            (as_many (world_behind (goes_anew s.took.did.became) w (Turn i input fates until)) (put_nth i s.behind old.hosts) (put_nth i (s.clock + ms_of input) old.clocks) s.hosts s.clocks turned.0);
      }
  moved armed asked (Ask i request fates until) down raw calls of (stays, s) =
      let did = asked_by armed i request fates until calls s s.took.did.became refl in
      record {
        of = of;
        step = inl (stays, s);
        answers = did.1;
        mirrors =
            subst (λ z. MirrorsAt count new (world_behind z w (Ask i request fates until))) (sym stays)
            (as_many (world_step w (Ask i request fates until)) (put_nth i s.behind old.hosts) old.clocks s.hosts s.clocks did.0);
      }
  moved armed asked (Crash i) down raw calls of (stays, none, s) = record {
    of = of;
    step = inl (stays, none, s);
    answers = tt;
    mirrors =
        subst (λ z. MirrorsAt count new (world_behind z w (Crash i))) (sym stays)
        (seen_as (world_step w (Crash i)) (record old { hosts = put_nth i s.behind old.hosts }) s.are
        (A.mirror.downed many old.hosts old.clocks mails w i s.host s.behind s.node small M (numbered i old.hosts s.host s.here) s.here s.up s.went));
  }
  moved armed asked (Up i landed stop) down raw calls of (stays, s) = record {
    of = of;
    step = inl (stays, s);
    answers = tt;
    mirrors =
        subst (λ z. MirrorsAt count new (world_behind z w (Up i landed stop))) (sym stays)
        (seen_as (world_step w (Up i landed stop)) (record old { hosts = put_nth i s.behind old.hosts }) s.are (started_by armed i landed stop calls s s.took.did.became refl));
  }

pub asked_happen : MoveLaws → AskedHappen
asked_happen A count w armed asked event down raw calls old new few mirrors of (inl moves) = moved A old new count w few mirrors armed asked event down raw calls of moves
asked_happen A count w armed asked event down raw calls old new few mirrors of (inr rests) = record {
  of = of;
  step = inr rests;
  answers = tt;
  mirrors =
      subst (λ z. MirrorsAt count new (world_behind z w event)) (sym rests.stays)
      (subst (λ (s : Seen). MirrorsAt count s (world_step w event)) (sym rests.rests.same)
      (A.mirror.unmoved count old.hosts old.clocks (map mail_of old.letters) w event rests.rests.host mirrors rests.rests.here rests.rests.nothing));
}
