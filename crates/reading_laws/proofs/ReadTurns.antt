-- Turns of a node in a net that mirrors a world, at which a call is armed or none: their calls are read.
use Rattle.std.specs.Prelude.{ℕ, List, [], ◌∷◌, ◌++◌, ◌+◌, ◌-◌, ◌≡◌, ◌≤◌, ◌<◌, ◌^◌, ◌⊎◌, Bool, Some, None, true, false, drop, if◌then◌else◌, length, nat_le, option_map, suc, take, zero}
use Rattle.std.proofs.Common.{ap, append-nil, arith, inl, inr, refl, subst, sym, true≢false, ◌∙◌}
use Rattle.std.proofs.Math.Seq.{drop-append_seam}
use Rattle.std.proofs.lemmas.Bool.{leb-false, leb-true}
use Rattle.journal_at.specs.StandingBodies.{Makes}
use Rattle.journal_at.specs.declared.journal.Append.TheVariants as appends
use Rattle.journal_at.specs.declared.journal.Compact.{Compact}
use Rattle.journal_at.specs.declared.journal.Compact.TheVariants as compacts
use Rattle.memory_net.proofs.Standing.{same_some}
use Rattle.memory_net.specs.Calls.{Turns}
use Rattle.node_at.specs.Doings.{refused_of}
use Rattle.node_at.specs.Endings.{Ends, Renews, Rested, TakesTurn}
use Rattle.node_at.specs.Meanings.{next_input}
use Rattle.node_at.specs.ShrunkJournals.{Anew, Shrinks}
use Rattle.node_at.specs.State.{State, seen}
use Rattle.node_at.specs.Turns.{IsLine, is_heard}
use Rattle.node_at.specs.declared.node.Node.{Node as Noded}
use Rattle.node_at.specs.declared.role.Role.TheVariants.{All}
use Rattle.node_at.specs.declared.shrink.Shrunk.{Shrunk}
use Rattle.node_at.specs.declared.shrink.Shrunk.TheVariants as shrunks
use Rattle.node_at.specs.declared.turn.Turned.{Turned}
use Rattle.node_at.specs.declared.turn.Turned.TheVariants as turneds
use Rattle.node_worlds.proofs.Rows.{grown_same}
use Rattle.node_worlds.specs.Acts.{IsUp}
use Rattle.node_worlds.specs.Nets.{Place}
use Rattle.record_bytes.specs.Bytes.{bytes_of}
use Rattle.site_memory.specs.Devices.{calls_in, opening_in}
use Rattle.site_memory.specs.Sites.{link_of, told_of}
use Rattle.site_memory.specs.ToldCalls.{AreArmed, CallsFailAsTold, LinksHold}
use Rattle.site_memory.specs.declared.arm.Choice.{Choice}
use Rattle.site_memory.specs.declared.machine.MemSite.{MemSite}
use Rattle.site_model.specs.Counts.{Rose}
use Rattle.site_model.specs.Told.{Made}
use Rattle.mirrored_nets.specs.Fates.{AllDone, anew_of, refusals}
use Rattle.mirrored_nets.specs.Mirrors.{Mirrors}
use Rattle.mirrored_nets.specs.ToldMachines.{fails_of}
use Rattle.mirrored_nets.specs.Took.{Adds, EndsSo, HasRoom, IsTriedLine, IsWhole}
use Rattle.mirrored_nets.specs.declared.armed.Armed.{Armed}
use Rattle.mirrored_nets.specs.declared.armed.Armed.TheVariants as arms
use Rattle.mirrored_nets.proofs.CallRows.{all_refused_none, none_refused, refusals_join}
use Rattle.mirrored_nets.proofs.EndedTurns.{turn_kept}
use Rattle.mirrored_nets.proofs.FallenHosts.{InWorld, IsBefore, NetLaws, in_world, up_there}
use Rattle.mirrored_nets.proofs.HaltedGates.{broken_gate}
use Rattle.mirrored_nets.proofs.HaltedTurns.{DidHalt, began_halting}
use Rattle.mirrored_nets.proofs.InputsHeard.{line_told, works_heard}
use Rattle.mirrored_nets.proofs.InterimLines.{halts_no_line}
use Rattle.mirrored_nets.proofs.RewritingCalls.{renewed}
use Rattle.mirrored_nets.proofs.FailedGates.{GateFails, gate_fails}
use Rattle.mirrored_nets.proofs.ArmedRows.{done_behind, done_dropped, few_refused, parts_armed}
use Rattle.mirrored_nets.proofs.ToldTurns.{steps_come}
use Rattle.mirrored_nets.proofs.ToldMachines.{armed_row, gates_stand, numbered}
use Rattle.mirrored_nets.proofs.TriedLines.{line_long, line_sendings, none_behind_failed}
use Rattle.mirrored_nets.proofs.TurnsRead.{StepsRead}
use Rattle.mirrored_nets.proofs.TurnsTaken.{HeardTurn, TurnLaws, from as from_of, from_is, heard_turn}
use Rattle.mirrored_nets.proofs.WholeTurns.{beside_so}
use Rattle.call_readings.specs.Reads.{FailsLast, IsUncut, ReadsTurn, came_to, failing_call, is_halted, read_fates}
use Rattle.call_readings.specs.declared.became.Became.{Became}
use Rattle.call_readings.specs.declared.became.Became.TheVariants as becomes
use Rattle.reading_laws.specs.TurnsAreRead.{IsTurnHere, TurnsAreRead}
use Rattle.reading_laws.proofs.ReadAppends.{halting_none_behind}
use Rattle.reading_laws.proofs.ReadCalls.{anew_same, append_is, armed_here, call_parts, none_refused as none_refused_in, refusals_so}
use Rattle.reading_laws.proofs.ReadEnds.{EndsAnew, steps_end}
use Rattle.reading_laws.proofs.ReadStops.{CallParts, anew_here, stop_read}

cancelled : (xs ys zs : List Made) → xs ++ ys ≡ xs ++ zs → ys ≡ zs
cancelled xs ys zs e = sym (drop-append_seam xs ys) ∙ ap (drop (length xs)) e ∙ drop-append_seam xs zs

-- one that didn't halt went to its end
ends_up : (b : Became) (r : Turned) → is_halted b ≡ false → IsWhole r → EndsSo (came_to b) r
ends_up becomes.Stays r goes whole = whole
ends_up (becomes.Falls kept choice) r goes whole = whole
ends_up becomes.Halts r goes whole = absurd (true≢false goes)
ends_up (becomes.FallsAnew kept choice) r goes whole = whole
ends_up becomes.HaltsAnew r goes whole = absurd (true≢false goes)

module _ (calls : CallsFailAsTold) (hold : LinksHold) (L : NetLaws) (K : TurnLaws) (i count lines : ℕ) (bytes : List ℕ) (n m : Noded) (old new : MemSite) (armed : Armed) (r : Turned) (made : List Made)
    (S : IsTurnHere i count lines bytes n old armed) (has : HasRoom old) (turns : Turns bytes r n m old new) (adds : Adds made old new) (room : r ≡ turneds.NoRoom → ⊥)
    (tried : IsTriedLine lines (take lines made)) where
  abbrev M : Mirrors count S.hosts S.clocks S.mails S.world
  M = S.mirrors

  abbrev p : Place
  p = (M.stands.holds i S.host S.here).place

  before : IsBefore S.host turns.connected
  before = record {
    opening = ap (λ (z : MemSite). opening_in z.device) turns.connects.others ∙ S.set.opening;
    calls = ap (λ (z : MemSite). calls_in z.device) turns.connects.others ∙ S.set.calls;
  }

  abbrev there : InWorld L count S.few S.hosts S.clocks S.mails S.mails S.world M i S.host S.host n S.here S.up S.clock S.time turns.connected before
  there = in_world L count S.few S.hosts S.clocks S.mails S.mails S.world M i S.host S.host n S.here S.up S.clock S.time turns.connected before

  abbrev from : MemSite
  from = from_of L K count S.few S.hosts S.clocks S.mails S.mails S.world M i S.least S.host S.host n S.here S.up S.clock S.time turns.connected before

  same_site : from ≡ turns.connected
  same_site = from_is L K count S.few S.hosts S.clocks S.mails S.mails S.world M i S.least S.host S.host n S.here S.up S.clock S.time turns.connected before

  others : from ≡ record old { line = from.line }
  others = same_site ∙ turns.connects.others ∙ ap (λ (z : MemSite). record old { line = z.line }) (sym same_site)

  abbrev turn : TakesTurn told_of r All m.shrunk (seen n) (seen m) from new
  turn = subst (λ z. TakesTurn told_of r All m.shrunk (seen n) (seen m) z new) (sym same_site) turns.turn

  up_here : IsUp p.records (seen n) (told_of from)
  up_here =
      subst (λ z. IsUp p.records (seen n) (told_of z)) (sym same_site)
      (up_there L count S.few S.hosts S.clocks S.mails S.mails S.world M i S.host S.host n S.here S.up S.clock S.time turns.connected before)

  abbrev since : ℕ
  since = length (calls_in old.device)

  abbrev fails : ℕ
  fails = fails_of since armed

  brings : link_of from.line ≡ record { open_bytes = []; waiting = bytes ∷ [] }
  brings = ap (λ (z : MemSite). link_of z.line) same_site ∙ turns.connects.brings

  came : IsWhole turn.first ⊎ (turn.first ≡ turneds.Halted)
  came =
      steps_come hold K.reply (record { since = since; fails = fails }) (seen n) turn.node from turn.behind (ap (λ (z : MemSite). (told_of z).counts.arming) others ∙ S.told) bytes brings turn.first turn.steps
      (λ e. room (no_room e))
    where
      no_room : turn.first ≡ turneds.NoRoom → r ≡ turneds.NoRoom
      no_room e =
          let ends : Ends told_of turneds.NoRoom r m.shrunk turn.node (seen m) turn.behind new = subst (λ z. Ends told_of z r m.shrunk turn.node (seen m) turn.behind new) e turn.ends in
          ends.answers

  row : AreArmed since fails made
  row = armed_row calls hold old new made fails S.told (turn_kept bytes r n m old new turns up_here.runs) adds

  failed_so : AreArmed 0 (failing_call armed) made
  failed_so = armed_here since armed made row

  gate_here : from.tally.gate ≡ old.tally.gate
  gate_here = ap (λ (z : MemSite). z.tally.gate) others

  abbrev X : List Made
  X = anew_of (drop lines made)

  -- its steps went to their end
  module _ (whole : IsWhole turn.first) where
    abbrev H : HeardTurn count S.world M.stands.net i S.clock p there.node n m from new r turn S.input lines made
    H =
        heard_turn L K count S.few S.hosts S.clocks S.mails S.mails S.world M i S.least S.host S.host n S.here S.up S.clock S.time turns.connected before bytes turns.connects.brings S.input lines S.brought
        old S.set turns.connects.others has r m new turn whole made adds tried

    abbrev R : StepsRead n.journal H.did.line made H.did.whole.steps H.did.whole.doings H.is_turn.fated
    R = H.read

    long : length H.did.line ≡ lines
    long = line_long lines H.did.line H.line_is

    abbrev P : CallParts lines made
    P = call_parts n.journal lines H.did.line made H.did.whole.steps H.did.whole.doings H.is_turn.fated R long

    runs : turn.node.halted ≡ false
    runs = H.did.whole.ran.runs ∙ up_here.runs

    sure : turn.node.journal.unsure ≡ false
    sure = H.did.whole.ran.sure ∙ up_here.holds.sure

    ends : Renews told_of turn.first r m.shrunk turn.node (seen m) turn.behind new
    ends = renewed turn.first r m.shrunk turn.node (seen m) turn.behind new whole turn.ends

    -- the calls behind its steps are those that its end tells
    anew_made : R.read.anew ≡ H.anew.made
    anew_made =
        anew_same n.journal lines H.did.line made H.did.whole.steps H.did.whole.doings H.is_turn.fated R long n.journal.live n.journal.limit up_here.holds.bodies H.anew.made
        (H.did.whole.ran.fates up_here.holds.bodies up_here.holds.keeps) H.made_are

    anew_is : (more : List Made) → (told_of new).calls ≡ option_map (λ l. l ++ more) (told_of turn.behind).calls → X ≡ more
    anew_is more grown =
        anew_here lines made P ∙ anew_made
        ∙ cancelled (calls_in turn.behind.device) H.anew.made more
        (sym (same_some (calls_in new.device) (calls_in turn.behind.device ++ H.anew.made) H.anew.calls) ∙ same_some (calls_in new.device) (calls_in turn.behind.device ++ more) grown)

    none_anew : new ≡ turn.behind → EndsAnew X
    none_anew same =
        inl (subst AllDone (sym (anew_is [] (subst (λ z. (told_of z).calls ≡ option_map (λ l. l ++ []) (told_of turn.behind).calls) (sym same) (grown_same (told_of turn.behind).calls)))) tt)

    written : (c : Compact) (halted : Bool) → Anew c halted turn.node (seen m) (told_of turn.behind) (told_of new) → EndsAnew X
    written c halted a = let moves = a.compacted.moves sure in subst EndsAnew (sym (anew_is moves.made moves.grown)) (steps_end c _ _ _ moves.made moves.are)

    by_shrunk : (became : Shrunk) → m.shrunk ≡ became → Shrinks became turn.node (seen m) (told_of turn.behind) (told_of new) → EndsAnew X
    by_shrunk shrunks.NotDue e (inl (undue, same)) = none_anew (ends.idle undue)
    by_shrunk shrunks.NotDue e (inr (inl a)) = written compacts.Full turn.node.halted a
    by_shrunk shrunks.NotDue e (inr (inr a)) = written compacts.Unsure true a
    by_shrunk shrunks.Done e a = written compacts.Done turn.node.halted a
    by_shrunk shrunks.Kept e a = written compacts.Kept turn.node.halted a
    by_shrunk shrunks.NoMemory e (due, same) = none_anew (ends.memory e)

    -- all calls were done by which its journal was written anew, or the last one failed
    anew_ends : EndsAnew X
    anew_ends = by_shrunk m.shrunk refl ends.shrinks

    -- where it halted, a gate was left shut
    gate_rose : (became : Shrunk) → Shrinks became turn.node (seen m) (told_of turn.behind) (told_of new) → (seen m).halted ≡ true → Rose turn.behind.tally.gate new.tally.gate
    gate_rose shrunks.NotDue (inl (undue, same)) off = absurd (true≢false (sym off ∙ ap (λ (z : State). z.halted) same ∙ runs))
    gate_rose shrunks.NotDue (inr (inl a)) off = absurd (true≢false (sym off ∙ ap (λ (z : State). z.halted) a.same ∙ runs))
    gate_rose shrunks.NotDue (inr (inr a)) off = by a.compacted.ground
      where
        by : (turn.node.journal.unsure ≡ true) ⊎ Rose turn.behind.tally.gate new.tally.gate → Rose turn.behind.tally.gate new.tally.gate
        by (inl unsure) = absurd (true≢false (sym unsure ∙ sure))
        by (inr rose) = rose
    gate_rose shrunks.Done a off = absurd (true≢false (sym off ∙ ap (λ (z : State). z.halted) a.same ∙ runs))
    gate_rose shrunks.Kept a off = absurd (true≢false (sym off ∙ ap (λ (z : State). z.halted) a.same ∙ runs))
    gate_rose shrunks.NoMemory (due, same) off = absurd (true≢false (sym off ∙ ap (λ (z : State). z.halted) same ∙ runs))

    gate_beside : Rose turn.behind.tally.gate new.tally.gate → R.d.refused + 1 ≤ refusals made
    gate_beside rose =
        beside_so from.tally.disk turn.behind.tally.disk new.tally.disk from.tally.gate turn.behind.tally.gate new.tally.gate R.d.refused (refusals made)
        (let f = disk_here in let g = gate_here in let b = adds.both in omega (arith, f, g, b)) adds.below adds.under refused_here H.anew.disk H.did.whole.ran.later.gate H.anew.gate (inr rose)
      where
        disk_here : from.tally.disk ≡ old.tally.disk
        disk_here = ap (λ (z : MemSite). z.tally.disk) others

        refused_here : from.tally.disk + R.d.refused ≤ turn.behind.tally.disk
        refused_here =
            let a = H.anew.disk in
            let e = adds.below in
            let below : turn.behind.tally.disk < 2 ^ 64 - 1 = omega (arith, a, e) in
            let k = H.did.whole.ran.refused below in
            let d = ap refused_of R.doings_are in
            omega (arith, k, d)

    -- so the last call failed
    fails_last : Rose turn.behind.tally.gate new.tally.gate → FailsLast X
    fails_last rose = by anew_ends
      where
        by : EndsAnew X → FailsLast X
        by (inr last) = last
        by (inl done) =
            let some = gate_beside rose in
            let most = few_refused since fails made row in
            let none : R.d.refused ≡ 0 = omega (arith, some, most) in
            let stood = append_is n.journal lines H.did.line made H.did.whole.steps H.did.whole.doings H.is_turn.fated R long none in
            let first = all_refused_none R.d.first stood.done in
            let rest = all_refused_none R.read.anew (subst AllDone (anew_here lines made P) done) in
            let sum = refusals_so n.journal lines H.did.line made H.did.whole.steps H.did.whole.doings H.is_turn.fated R long in
            absurd (omega (arith, some, first, rest, sum))

    -- it went to its end, or halted there
    result : IsWhole r ⊎ ((r ≡ turneds.Halted) × Rose turn.behind.tally.gate new.tally.gate)
    result = by (seen m).halted refl
      where
        by : (b : Bool) → (seen m).halted ≡ b → IsWhole r ⊎ ((r ≡ turneds.Halted) × Rose turn.behind.tally.gate new.tally.gate)
        by true e = inr (ends.answers ∙ ap (λ b. if b then turneds.Halted else turn.first) e, gate_rose m.shrunk ends.shrinks e)
        by false e = inl (subst IsWhole (sym (ends.answers ∙ ap (λ b. if b then turneds.Halted else turn.first) e)) whole)

    no_gate : AllDone (drop lines made) → Rose turn.behind.tally.gate new.tally.gate → ⊥
    no_gate all rose =
        let later = H.did.whole.ran.later.gate in
        let same = gate_here in
        gates_stand old new made adds (none_behind_failed lines made tried all) (omega (arith, rose, later, same))

    result_whole : AllDone (drop lines made) → IsWhole r
    result_whole all = by result
      where
        by : IsWhole r ⊎ ((r ≡ turneds.Halted) × Rose turn.behind.tally.gate new.tally.gate) → IsWhole r
        by (inl is) = is
        by (inr (halted, rose)) = absurd (no_gate all rose)

    stays : IsUncut armed made → IsWhole r → ReadsTurn armed lines made r
    stays uncut is = record { became = becomes.Stays; fates = read_fates lines made; until = None; reads = record { failed = failed_so; are = (uncut, anew_ends, refl, refl) }; ends = is }

    stops : AllDone made → (k : ℕ) (choice : Choice) → armed ≡ arms.Stop k choice → IsWhole r → ReadsTurn armed lines made r
    stops all k choice is ended =
        let none = none_refused_in n.journal lines H.did.line made H.did.whole.steps H.did.whole.doings H.is_turn.fated R long all in
        let stood = append_is n.journal lines H.did.line made H.did.whole.steps H.did.whole.doings H.is_turn.fated R long none in
        let s = stop_read lines made P stood.which all armed k choice is in
        record { became = s.became; fates = s.fates; until = s.until; reads = record { failed = failed_so; are = s.are }; ends = ends_up s.became r s.goes ended }

    halts_anew : (k : ℕ) → armed ≡ arms.Fail k → r ≡ turneds.Halted → Rose turn.behind.tally.gate new.tally.gate → ReadsTurn armed lines made r
    halts_anew k is halted rose = record { became = becomes.HaltsAnew; fates = read_fates lines made; until = None; reads = record { failed = failed_so; are = ((k, is), fails_last rose, refl, refl) }; ends = halted }

    fails_whole : (k : ℕ) → armed ≡ arms.Fail k → ReadsTurn armed lines made r
    fails_whole k is = by result
      where
        by : IsWhole r ⊎ ((r ≡ turneds.Halted) × Rose turn.behind.tally.gate new.tally.gate) → ReadsTurn armed lines made r
        by (inl ended) = stays (subst (λ a. IsUncut a made) (sym is) tt) ended
        by (inr (halted, rose)) = halts_anew k is halted rose

  -- it halted in its first
  module _ (halted : turn.first ≡ turneds.Halted) where
    abbrev W : DidHalt turn.first (seen n) turn.node from turn.behind turn.steps
    W = began_halting turn.first (seen n) turn.node from turn.behind turn.steps halted up_here.runs

    abbrev rested : Rested turneds.Halted r m.shrunk turn.node (seen m) turn.behind new
    rested = subst (λ z. Ends told_of z r m.shrunk turn.node (seen m) turn.behind new) halted turn.ends

    rose : Rose old.tally.gate new.tally.gate
    rose =
        let up = W.halts.rose in
        let same = gate_here in
        let still = ap (λ (z : MemSite). z.tally.gate) rested.site in
        omega (arith, up, same, still)

    made_is : made ≡ W.line ++ W.halts.first
    made_is =
        adds.calls
        ∙ ap (λ (z : MemSite). drop since (calls_in z.device)) rested.site
        ∙ ap (drop since) (same_some (calls_in turn.behind.device) (calls_in from.device ++ ((W.line ++ []) ++ W.halts.first)) W.halts.calls)
        ∙ (λ j. drop since (calls_in (others j).device ++ (append-nil W.line j ++ W.halts.first)))
        ∙ drop-append_seam (calls_in old.device) (W.line ++ W.halts.first)

    tells : next_input (told_of from).link ≡ Some bytes
    tells = ap (λ l. next_input (Some l)) brings

    heard_so : is_heard W.meaning ≡ true
    heard_so = works_heard turneds.Halted _ W.meaning W.now _ turn.node (told_of from) (told_of turn.behind) (inr refl) W.halts

    line_is : IsTriedLine lines W.line
    line_is =
        line_told K.says K.quiet K.ticks K.one K.wait_or_not K.small L.bases L.nets L.closes count S.few S.hosts S.clocks S.mails S.world M i S.least S.input lines bytes (told_of from) (told_of turn.behind) W.line
        W.halts.first made S.brought
        (subst (λ b. IsLine (Some bytes) b (told_of from) (told_of turn.behind) W.line) heard_so (subst (λ o. IsLine o (is_heard W.meaning) (told_of from) (told_of turn.behind) W.line) tells W.is_line))
        made_is tried (λ none. halts_no_line _ _ _ W.halts.first (W.halts.makes up_here.holds.bodies up_here.holds.keeps))

    line_of_lines : length W.line ≡ lines
    line_of_lines = line_long lines W.line line_is

    makes : Makes appends.Unsure n.journal.live n.journal.end (bytes_of W.halts.entry) W.halts.first
    makes =
        subst (λ z. Makes appends.Unsure n.journal.live z (bytes_of W.halts.entry) W.halts.first) (sym up_here.holds.keeps.end) (W.halts.makes up_here.holds.bodies up_here.holds.keeps)

    -- not where all its calls behind the line were done
    halts_not : AllDone (drop lines made) → ⊥
    halts_not all = gates_stand old new made adds (none_behind_failed lines made tried all) rose

    module _ (k : ℕ) (fails_there : AreArmed since (since + lines + k) made) where
      first_fails : AreArmed (since + lines) (since + lines + k) W.halts.first
      first_fails =
          subst (λ z. AreArmed (since + z) (since + lines + k) W.halts.first) line_of_lines
          (parts_armed since (since + lines + k) W.line W.halts.first (subst (AreArmed since (since + lines + k)) made_is fails_there)).1

      one_failed : 1 ≤ refusals W.halts.first
      one_failed =
          let up = rose in
          let most = adds.raised in
          let below = adds.under in
          let all = ap refusals made_is in
          let parts = refusals_join W.line W.halts.first in
          let none = none_refused W.line (line_sendings lines W.line line_is) in
          omega (arith, up, most, below, all, parts, none)

      gate : GateFails k lines made n.journal.live
      gate =
          gate_fails n.journal.live n.journal.end since lines k (bytes_of W.halts.entry) made W.line W.halts.first line_of_lines made_is first_fails one_failed makes.0 makes.1
          (broken_gate n.journal.live n.journal.end makes.0 makes.2)

      halts_at_gate : (call : ℕ) → armed ≡ arms.Fail call → ReadsTurn armed lines made r
      halts_at_gate call is =
          let g = gate in
          record {
            became = becomes.Halts;
            fates = g.stands ∷ [];
            until = Some 1;
            reads = record {
              failed = failed_so;
              are = (
                (call, is),
                record { stands = g.stands; fates_are = refl; until_is = refl; file = n.journal.live; calls = g.calls },
                halting_none_behind lines W.line W.halts.first made n.journal.live n.journal.end (bytes_of W.halts.entry) line_of_lines made_is makes,
              );
            };
            ends = rested.answers;
          }

  -- where no call behind the line is to fail
  module _ (few_fail : fails ≤ since + lines) where
    all_done : AllDone (drop lines made)
    all_done = done_dropped lines since fails made row few_fail

    steps_whole : IsWhole turn.first
    steps_whole = by came
      where
        by : IsWhole turn.first ⊎ (turn.first ≡ turneds.Halted) → IsWhole turn.first
        by (inl whole) = whole
        by (inr halted) = absurd (halts_not halted all_done)

    ended : IsWhole r
    ended = result_whole steps_whole all_done

    unharmed : IsUncut armed made → ReadsTurn armed lines made r
    unharmed uncut = stays steps_whole uncut ended

  -- where none is
  none_most : fails ≡ 0 → fails ≤ since + lines
  none_most none = omega (arith, none)

  made_done : fails ≡ 0 → AllDone made
  made_done none = done_behind since 0 made (subst (λ k. AreArmed since k made) none row) (omega arith)

  -- where the k-th is
  failing : (k : ℕ) → armed ≡ arms.Fail k → ReadsTurn armed lines made r
  failing k is = by (nat_le k lines) refl
    where
      few : (j : ℕ) → k ≡ j → k ≤ lines → fails ≤ since + lines
      few zero e most = none_most (ap (fails_of since) (is ∙ ap (λ z. arms.Fail z) e))
      few (suc j) e most = let a = ap (fails_of since) is ∙ numbered since k (omega (arith, e)) in omega (arith, a, most)

      there_fails : lines < k → AreArmed since (since + lines + (k - lines)) made
      there_fails more =
          let a = ap (fails_of since) is ∙ numbered since k (omega (arith, more)) in
          let same : fails ≡ since + lines + (k - lines) = omega (arith, a, more) in
          subst (λ z. AreArmed since z made) same row

      by_steps : lines < k → IsWhole turn.first ⊎ (turn.first ≡ turneds.Halted) → ReadsTurn armed lines made r
      by_steps more (inl whole) = fails_whole whole k is
      by_steps more (inr halted) = halts_at_gate halted (k - lines) (there_fails more) k is

      by : (b : Bool) → nat_le k lines ≡ b → ReadsTurn armed lines made r
      by true e = unharmed (few k refl (leb-true k lines e)) (subst (λ a. IsUncut a made) (sym is) tt)
      by false e = by_steps (leb-false k lines e) came

  stopping : (k : ℕ) (choice : Choice) → armed ≡ arms.Stop k choice → ReadsTurn armed lines made r
  stopping k choice is =
      let none : fails ≡ 0 = ap (fails_of since) is in
      stops (steps_whole (none_most none)) (made_done none) k choice is (ended (none_most none))

  reads_so : (a : Armed) → armed ≡ a → ReadsTurn armed lines made r
  reads_so arms.No is = unharmed (none_most (ap (fails_of since) is)) (subst (λ a. IsUncut a made) (sym is) tt)
  reads_so (arms.Fail k) is = failing k is
  reads_so (arms.Stop k choice) is = stopping k choice is

pub turns_are_read : CallsFailAsTold → LinksHold → NetLaws → TurnLaws → TurnsAreRead
turns_are_read calls hold L K i count lines bytes n m old new armed r made S has turns adds room tried =
    reads_so calls hold L K i count lines bytes n m old new armed r made S has turns adds room tried armed refl
