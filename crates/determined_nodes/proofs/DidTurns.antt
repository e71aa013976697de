-- A turn for which there was memory: what it heard, and how it went.
use Rattle.std.specs.Prelude.{ℕ, List, [], ◌∷◌, ◌++◌, ◌+◌, ◌-◌, ◌^◌, ◌≡◌, ◌≤◌, ◌<◌, ◌⊎◌, IfSome, Bool, true, false, Option, Some, drop, if◌then◌else◌, length, suc, take, zero}
use Rattle.std.proofs.Common.{ap, append-nil, arith, inl, inr, refl, subst, sym, true≢false, ◌∙◌}
use Rattle.std.proofs.Math.Seq.{drop-append_seam}
use Rattle.std.proofs.lemmas.List.{append_assoc}
use Rattle.at_base.specs.declared.record.Record.{Record}
use Rattle.decision_log.specs.KeptRecords.{Known}
use Rattle.http_post.specs.Conversations.{IsSaid, Waits, said, unsaid}
use Rattle.journal_at.specs.Format.{frames, head_of}
use Rattle.journal_at.specs.StandingBodies.{Keeps, Makes, Spare}
use Rattle.journal_at.specs.declared.journal.Append.TheVariants as appends
use Rattle.journal_at.specs.declared.journal.Journal.{Journal}
use Rattle.journal_at.specs.declared.version.Version.TheVariants.{One, Two}
use Rattle.node_at.specs.Doings.{AreDoings, AreFates, Doing, Ran, calls_of, deeds_of, lost_of}
use Rattle.node_at.specs.Endings.{Ends, Renews, Rested, TakesTurn}
use Rattle.node_at.specs.Meanings.{Hears, Meaning, next_input}
use Rattle.node_at.specs.Moments.{landed_of}
use Rattle.node_at.specs.Replies.{StepsReply}
use Rattle.node_at.specs.State.{State, seen}
use Rattle.node_at.specs.TurnText.{TurnStep}
use Rattle.node_at.specs.Turns.{IsLine, Works, calm, is_heard, is_tick, line_of, unsaid_in}
use Rattle.node_at.specs.declared.node.Node.{Node}
use Rattle.node_at.specs.declared.role.Role.TheVariants.{All}
use Rattle.node_at.specs.declared.turn.Turned.{Turned}
use Rattle.node_at.specs.declared.turn.Turned.TheVariants as turneds
use Rattle.record_bytes.specs.Bytes.{bytes_of}
use Rattle.record_bytes.specs.Versions.{IsRecord}
use Rattle.record_bytes.specs.Versions.{AreBodies as RecordsAreBodies}
use Rattle.site_memory.specs.Devices.{calls_in, opening_in}
use Rattle.site_memory.specs.Disk.{Image}
use Rattle.site_memory.specs.Sites.{link_of, told_of}
use Rattle.site_memory.specs.Tells.{reads}
use Rattle.site_memory.specs.ToldCalls.{AreArmed, CallsFailAsTold, LinksHold}
use Rattle.site_memory.specs.declared.machine.MemSite.{MemSite}
use Rattle.site_model.specs.Site.{Counts as Numbers}
use Rattle.site_model.specs.Told.{Files, Made}
use Rattle.mirrored_nets.specs.Answered.{AnswersWith}
use Rattle.mirrored_nets.specs.Fates.{failures, refusals}
use Rattle.mirrored_nets.specs.Took.{IsTriedLine, IsWhole}
use Rattle.mirrored_nets.proofs.CallRows.{AreSendings, failures_join, none_fails, none_refused, refusals_join}
use Rattle.mirrored_nets.proofs.EndedTurns.{turn_kept}
use Rattle.mirrored_nets.proofs.HaltedTurns.{DidHalt, began_halting}
use Rattle.mirrored_nets.proofs.InputsHeard.{means_so, works_heard}
use Rattle.mirrored_nets.proofs.InterimLines.{IsNoLine, disk_no_line, halts_no_line, line_is, whole_no_line}
use Rattle.mirrored_nets.proofs.LeavingCalls.{AskedSteps, asked_steps}
use Rattle.mirrored_nets.proofs.RewritingCalls.{renewed}
use Rattle.mirrored_nets.proofs.ArmedRows.{few_refused}
use Rattle.mirrored_nets.proofs.ToldTurns.{steps_come}
use Rattle.mirrored_nets.proofs.ToldMachines.{armed_row}
use Rattle.mirrored_nets.proofs.WholeTurns.{DidWhole, beside_so, did_whole}
use Rattle.determined_nodes.specs.TurnsAreDetermined.{HasTurned}
use Rattle.mirrored_nets.proofs.LeftFiles.{opening_kept}
use Rattle.determined_nodes.proofs.RecordCalls.{Fits, fate_few}
use Rattle.determined_nodes.proofs.RecordRoom.{record_fits}
use Rattle.determined_nodes.proofs.RenewedJournals.{EndsSo, RoseBetween, ends_so, same_calls}
use Rattle.determined_nodes.proofs.StepsBehind.{LeftBy}
use Rattle.determined_nodes.proofs.TriedOuts.{due_unrecorded, rows_quiet, tried_sendings}
use Rattle.determined_nodes.proofs.TwoRuns.{DidSteps}
use Rattle.determined_nodes.proofs.TwoTurns.{Hearing, LineIs, Went, turned_of}

-- a file of version 2 has a body
two_begun : (bodies more : List (List ℕ)) (end : ℕ) → (head_of bodies).version ≡ Two → end ≡ length (frames (bodies ++ more)) → 1 ≤ end
two_begun [] more end two e = absurd (let one : One ≡ Two = two in cc)
two_begun (body ∷ bodies) more end two e = omega (arith, e)

-- A machine of the same files keeps the same.
pub keeps_on : (j : Journal) (bodies : List (List ℕ)) (s t : MemSite) → opening_in s.device ≡ opening_in t.device → calls_in s.device ≡ calls_in t.device → Keeps j bodies (told_of s) → Keeps j bodies (told_of t)
keeps_on j bodies s t o l k = record {
  stands = record { listed = k.stands.listed; files = λ f e. k.stands.files f (files_same ∙ e); images = λ f i. k.stands.images f (images_back f i) };
  spare = by j.unshut k.spare;
  end = k.end;
  generation = k.generation;
}
  where
    files_same : (told_of s).files ≡ (told_of t).files
    files_same = λ i. Some (reads (o i) (l i))

    images_back : (f : Files) → (told_of t).images f → (told_of s).images f
    images_back f i = subst (λ z. Image z (calls_in s.device) f) (sym o) (subst (λ z. Image (opening_in t.device) z f) (sym l) i)

    by : (b : Bool) → Spare b j.live bodies (told_of s) → Spare b j.live bodies (told_of t)
    by true (a, b) = (λ f e. a f (files_same ∙ e), λ f i. b f (images_back f i))
    by false a = λ f e. a f (files_same ∙ e)

-- a line that was tried where it was to be
line_all : (P : List Made → Type 0) → P [] → P (said true) → P unsaid → (waits : Bool) (line : List Made) → LineIs waits line → P line
line_all P none was left false line h = subst P (sym h) none
line_all P none was left true line (inl h) = subst P (sym h) was
line_all P none was left true line (inr h) = subst P (sym h) left

line_sendings : (waits : Bool) (line : List Made) → LineIs waits line → AreSendings line
line_sendings = line_all AreSendings tt (refl, tt) (refl, tt)

line_unsaid : (waits : Bool) (line : List Made) → LineIs waits line → unsaid_in line ≡ failures line
line_unsaid = line_all (λ line. unsaid_in line ≡ failures line) refl refl refl

tried_one_line : (line : List Made) → IsTriedLine 1 line → LineIs true line
tried_one_line line (inl (e, f)) = absurd (omega (arith, e))
tried_one_line line (inr (e, h)) = h

line_so : (bytes : List ℕ) (waits : Bool) (before now : ℕ) (line rest made : List Made) → Waits bytes waits → IsSaid waits before now line → made ≡ line ++ rest → IsNoLine rest
    → (Waits bytes true → IsTriedLine 1 (take 1 made)) → LineIs waits line
line_so bytes false before now line rest made so (inl is) all none tried = is
line_so bytes false before now line rest made so (inr (h, rose)) all none tried = absurd h
line_so bytes true before now line rest made so (inl is) all none tried = inl is
line_so bytes true before now line rest made so (inr (inr is, rose)) all none tried = inr is
line_so bytes true before now line rest made so (inr (inl is, rose)) all none tried =
    tried_one_line line (line_is 1 line rest (inr (refl, is)) (λ e. none) (subst (λ z. IsTriedLine 1 (take 1 z)) all (tried so)))

first_is : (first : Turned) (status : ℕ) (lines : List Doing) (meaning : Meaning) (now : ℕ) (n m : State) (c t : MemSite) → IsWhole first → AnswersWith first status → Works first lines meaning now n m (told_of c) (told_of t)
    → first ≡ turned_of (is_tick meaning) status
first_is (turneds.Served answer) status lines meaning now n m c t whole e works = ap (λ z. turneds.Served z) e ∙ sym (ap (λ b. turned_of b status) works.1)
first_is turneds.Ticked status lines meaning now n m c t whole e works = sym (ap (λ b. turned_of b status) works.1)
first_is turneds.NoRoom status lines meaning now n m c t whole e works = absurd whole
first_is turneds.Halted status lines meaning now n m c t whole e works = absurd whole
first_is turneds.Closed status lines meaning now n m c t whole e works = absurd whole
first_is turneds.LinkDown status lines meaning now n m c t whole e works = absurd whole

-- A turn as it went.
pub record DidTurn (since fails : ℕ) (bytes : List ℕ) (r : Turned) (n m : State) (old new : MemSite) (made : List Made) : Type 0 where
  pub hearing : Hearing bytes
  pub time : hearing.now ≡ old.clock
  pub went : Went since fails bytes r n m made hearing
  pub grown : calls_in new.device ≡ calls_in old.device ++ made
  pub opening : opening_in new.device ≡ opening_in old.device
  pub arming : (told_of new).counts.arming ≡ (told_of old).counts.arming

module _ (hold : LinksHold) (fail : CallsFailAsTold) (reply : StepsReply) (law : RecordsAreBodies) (bytes : List ℕ) (fails : ℕ) (r : Turned) (n m : Node) (old new : MemSite) (made : List Made)
    (H : HasTurned bytes fails r n m old new made) where
  abbrev c : MemSite
  c = H.turns.connected

  others : c ≡ record old { line = c.line }
  others = H.turns.connects.others

  abbrev turn : TakesTurn told_of r All m.shrunk (seen n) (seen m) c new
  turn = H.turns.turn

  abbrev since : ℕ
  since = length (calls_in old.device)

  abbrev bodies : List (List ℕ)
  bodies = H.goes.open_is.bodies

  calls_here : calls_in c.device ≡ calls_in old.device
  calls_here = ap (λ (z : MemSite). calls_in z.device) others

  opening_here : opening_in c.device ≡ opening_in old.device
  opening_here = ap (λ (z : MemSite). opening_in z.device) others

  keeps : Keeps n.journal bodies (told_of c)
  keeps = keeps_on n.journal bodies old c (sym opening_here) (sym calls_here) H.goes.open_is.keeps

  brings : link_of c.line ≡ record { open_bytes = []; waiting = bytes ∷ [] }
  brings = H.turns.connects.brings

  tells : next_input (told_of c).link ≡ Some bytes
  tells = ap (λ l. next_input (Some l)) brings

  kept_arming : (told_of new).counts.arming ≡ (told_of old).counts.arming
  kept_arming = turn_kept bytes r n m old new H.turns H.goes.runs

  row : AreArmed since fails made
  row = armed_row fail hold old new made fails H.goes.told kept_arming H.adds

  came : IsWhole turn.first ⊎ (turn.first ≡ turneds.Halted)
  came =
      steps_come hold reply (record { since = since; fails = fails }) (seen n) turn.node c turn.behind (ap (λ (z : MemSite). (told_of z).counts.arming) others ∙ H.goes.told) bytes brings turn.first turn.steps
      (λ e. H.memory (no_room e))
    where
      no_room : turn.first ≡ turneds.NoRoom → r ≡ turneds.NoRoom
      no_room e =
          let ends : Ends told_of turneds.NoRoom r m.shrunk turn.node (seen m) turn.behind new = subst (λ z. Ends told_of z r m.shrunk turn.node (seen m) turn.behind new) e turn.ends in
          ends.answers

  fits_so : (entry : Option Record) → IfSome entry (λ z. IsRecord Two z (bytes_of z)) → Fits entry (length (frames bodies)) n.journal.limit
  fits_so = record_fits law n.journal bodies old H.goes.room H.goes.open_is.keeps H.goes.limit

  disk_here : c.tally.disk ≡ old.tally.disk
  disk_here = ap (λ (z : MemSite). z.tally.disk) others

  gate_here : c.tally.gate ≡ old.tally.gate
  gate_here = ap (λ (z : MemSite). z.tally.gate) others

  link_here : c.tally.link ≡ old.tally.link
  link_here = ap (λ (z : MemSite). z.tally.link) others

  -- its steps went to their end
  module _ (whole : IsWhole turn.first) where
    abbrev W : DidWhole turn.first (seen n) turn.node c turn.behind turn.steps
    W = did_whole turn.first (seen n) turn.node c turn.behind turn.steps whole

    heard_so : is_heard W.meaning ≡ true
    heard_so = works_heard turn.first (line_of W.line) W.meaning W.now (calm (seen n)) turn.node (told_of c) (told_of turn.behind) (inl whole) W.works

    told_line : IsLine (Some bytes) true (told_of c) (told_of turn.behind) W.line
    told_line = subst (λ b. IsLine (Some bytes) b (told_of c) (told_of turn.behind) W.line) heard_so (subst (λ o. IsLine o (is_heard W.meaning) (told_of c) (told_of turn.behind) W.line) tells W.is_line)

    A : AskedSteps W.now n.book W.meaning W.whole.steps W.status
    A = asked_steps W.now n.book W.meaning W.whole.steps W.status (λ e. true≢false (sym heard_so ∙ ap is_heard e)) W.whole.turns

    abbrev ends : Renews told_of turn.first r m.shrunk turn.node (seen m) turn.behind new
    ends = renewed turn.first r m.shrunk turn.node (seen m) turn.behind new whole turn.ends

    -- its first step's doing, and those of the others
    split_so : (k : Known) (s : TurnStep) (ss : List TurnStep) (ds : List Doing) → AreDoings k (s ∷ ss) ds → (d : Doing) × (es : List Doing) × (ds ≡ d ∷ es)
    split_so k s ss [] h = absurd h
    split_so k s ss (d ∷ es) h = (d, es, refl)

    split : (d : Doing) × (es : List Doing) × (W.whole.doings ≡ d ∷ es)
    split = split_so (seen n).kept A.first A.rest W.whole.doings (subst (λ z. AreDoings (seen n).kept z W.whole.doings) A.all W.whole.ran.are)

    abbrev d : Doing
    d = split.0

    abbrev ds : List Doing
    ds = split.1

    ran : Ran (line_of W.line) (A.first ∷ A.rest) (d ∷ ds) (calm (seen n)) turn.node (told_of c) (told_of turn.behind)
    ran =
        subst (λ z. Ran (line_of W.line) z (d ∷ ds) (calm (seen n)) turn.node (told_of c) (told_of turn.behind)) A.all
        (subst (λ z. Ran (line_of W.line) W.whole.steps z (calm (seen n)) turn.node (told_of c) (told_of turn.behind)) split.2 W.whole.ran)

    fates : AreFates n.journal.live n.journal.limit bodies (A.first ∷ A.rest) (d ∷ ds)
    fates = ran.fates bodies keeps

    abbrev E : EndsSo turn.node (seen m) turn.behind new
    E =
        ends_so turn.node (seen m) turn.behind new (ran.sure ∙ H.goes.open_is.sure) (bodies ++ landed_of (deeds_of (line_of W.line ++ (d ∷ ds)))) (ran.does.stands bodies keeps)
        (two_begun bodies _ turn.node.journal.end H.goes.open_is.of (ran.does.stands bodies keeps).end) m.shrunk H.remembers ends.shrinks ends.idle

    abbrev steps_calls : List Made
    steps_calls = calls_of (d ∷ ds)

    behind_calls : calls_in turn.behind.device ≡ calls_in old.device ++ (W.line ++ steps_calls)
    behind_calls = same_calls (calls_in turn.behind.device) (calls_in c.device ++ (W.line ++ steps_calls)) ran.does.calls ∙ ap (λ z. z ++ (W.line ++ steps_calls)) calls_here

    all_calls : calls_in new.device ≡ calls_in old.device ++ (W.line ++ (steps_calls ++ E.anew))
    all_calls =
        E.grown ∙ ap (λ z. z ++ E.anew) behind_calls ∙ append_assoc (calls_in old.device) (W.line ++ steps_calls) E.anew ∙ ap (λ z. calls_in old.device ++ z) (append_assoc W.line steps_calls E.anew)

    made_is : made ≡ W.line ++ (steps_calls ++ E.anew)
    made_is = H.adds.calls ∙ ap (drop since) all_calls ∙ drop-append_seam (calls_in old.device) (W.line ++ (steps_calls ++ E.anew))

    no_line : IsNoLine (steps_calls ++ E.anew)
    no_line =
        subst (λ z. IsNoLine (calls_of z ++ E.anew)) split.2
        (whole_no_line (line_of W.line) E.anew W.meaning W.now W.status (calm (seen n)) turn.node (told_of c) (told_of turn.behind) bodies W.whole keeps (disk_no_line E.anew E.on_disk))

    exact : (waits : Bool) × (Waits bytes waits × IsSaid waits (told_of c).counts.link (told_of turn.behind).counts.link W.line)
    exact = told_line.exact refl bytes refl

    its_line : LineIs exact.0 W.line
    its_line = line_so bytes exact.0 _ _ W.line (steps_calls ++ E.anew) made exact.1.0 exact.1.1 made_is no_line H.tried

    abbrev heard_here : Hearing bytes
    heard_here = record {
      waits = exact.0;
      waits_so = exact.1.0;
      meaning = W.meaning;
      means = means_so bytes W.meaning heard_so (subst (λ o. Hears All o W.meaning) tells W.heard);
      now = W.now;
      line = W.line;
      line_is = its_line;
    }

    -- no out was lost beside those whose calls failed
    lost_here : lost_of (d ∷ ds) ≤ failures steps_calls
    lost_here =
        let link = ap (λ (z : Numbers). z.link) ends.counted.others in
        let a = H.adds.counted in
        let b = H.adds.uncapped in
        let below : turn.behind.tally.link < 2 ^ 64 - 1 = omega (arith, b, link) in
        let k = W.counted heard_so bytes tells below in
        let l = ap lost_of split.2 in
        let h = link_here in
        let u = line_unsaid exact.0 W.line its_line in
        let e = ap failures made_is in
        let f = failures_join W.line (steps_calls ++ E.anew) in
        let g = failures_join steps_calls E.anew in
        let z = none_fails E.anew E.on_disk in
        omega (arith, link, a, k, l, h, u, e, f, g, z)

    outs_quiet : refusals d.made ≡ 0
    outs_quiet = none_refused d.made (tried_sendings ran.are.0.tried A.outs.0)

    -- what failed of the disk is among the record's calls, and those by which the journal is written anew
    sums : refusals made ≡ refusals d.first + refusals E.anew
    sums =
        let e = ap refusals made_is in
        let f = refusals_join W.line (steps_calls ++ E.anew) in
        let g = refusals_join steps_calls E.anew in
        let h = refusals_join (d.first ++ d.made) (calls_of ds) in
        let i = refusals_join d.first d.made in
        let l = none_refused W.line (line_sendings exact.0 W.line its_line) in
        let q = outs_quiet in
        let u = rows_quiet n.journal.live n.journal.limit _ (bodies ++ d.landed) A.rest ds (due_unrecorded A.due.done A.rest A.due.are) A.outs.1 ran.are.1 fates.1 in
        omega (arith, e, f, g, h, i, l, q, u)

    few : refusals made ≤ 1
    few = few_refused since fails made row

    behind_disk : turn.behind.tally.disk ≤ new.tally.disk
    behind_disk = ends.counted.disk

    counted_here : c.tally.disk + d.refused ≤ turn.behind.tally.disk
    counted_here =
        let a = behind_disk in
        let b = H.adds.below in
        let below : turn.behind.tally.disk < 2 ^ 64 - 1 = omega (arith, a, b) in
        let k = ran.refused below in
        omega (arith, k)

    refused_made : d.refused ≤ refusals made
    refused_made = let a = behind_disk in let b = H.adds.refused in let e = counted_here in let f = disk_here in omega (arith, a, b, e, f)

    beside : RoseBetween turn.behind new → d.refused + 1 ≤ refusals made
    beside rose =
        beside_so c.tally.disk turn.behind.tally.disk new.tally.disk c.tally.gate turn.behind.tally.gate new.tally.gate d.refused (refusals made)
        (let f = disk_here in let g = gate_here in let b = H.adds.both in omega (arith, f, g, b)) H.adds.below H.adds.under counted_here behind_disk ran.later.gate ends.counted.gate rose

    first_few : refusals d.first ≤ d.refused
    first_few =
        let s = sums in
        let f = few in
        fate_few A.first.landed A.first.entry n.journal.live n.journal.limit (length (frames bodies)) d.first d.refused fates.0 (omega (arith, s, f))

    refused_here : d.refused ≤ refusals d.first
    refused_here = by (refusals E.anew) refl
      where
        by : (k : ℕ) → refusals E.anew ≡ k → d.refused ≤ refusals d.first
        by zero e = let a = refused_made in let b = sums in omega (arith, e, a, b)
        by (suc k) e = let a = beside (E.failed (omega (arith, e))) in let f = few in omega (arith, a, f)

    rises : RoseBetween turn.behind new → 1 ≤ refusals E.anew
    rises rose = let a = beside rose in let b = sums in let f = first_few in omega (arith, a, b, f)

    abbrev its_steps : DidSteps true since fails W.now W.meaning (calm (seen n)) W.line made
    its_steps = record {
      first = A.first;
      rest = A.rest;
      status = W.status;
      is = A.is;
      due = A.due;
      d = d;
      ds = ds;
      bodies = bodies;
      end = H.goes.open_is.keeps.end;
      doings = ran.are;
      fates = fates;
      fits = fits_so A.first.entry ran.are.0.formed;
      refused = refused_here;
      lost = lost_here;
      anew = E.anew;
      are = made_is;
      armed = row;
    }

    its_left : LeftBy true since fails W.now W.meaning (calm (seen n)) turn.node W.line made its_steps
    its_left = record {
      book = ran.book;
      effects = ran.effects;
      kept = ran.kept;
      runs = ran.runs;
      sure = ran.sure;
      live = ran.does.live;
      limit = ran.does.limit;
      generation = ran.does.generation;
      unshut = ran.does.unshut;
      end = (ran.does.stands bodies keeps).end;
    }

    pub went_whole : DidTurn since fails bytes r (seen n) (seen m) old new made
    went_whole = record {
      hearing = heard_here;
      time = W.clock c.clock refl ∙ ap (λ (z : MemSite). z.clock) others;
      went = Went.on (record {
        steps = its_steps;
        node = turn.node;
        left = its_left;
        ended = λ before armed. E.ended before fails armed rises;
        answers = ends.answers ∙ ap (λ z. if m.halted then turneds.Halted else z) (first_is turn.first W.status (line_of W.line) W.meaning W.now (calm (seen n)) turn.node c turn.behind whole W.answers W.works);
      });
      grown = all_calls ∙ ap (λ z. calls_in old.device ++ z) (sym made_is);
      opening = E.opening ∙ opening_kept c turn.behind _ (ran.does.moments bodies keeps) ∙ opening_here;
      arming = kept_arming;
    }

  -- it halted in its first
  module _ (halted : turn.first ≡ turneds.Halted) where
    abbrev V : DidHalt turn.first (seen n) turn.node c turn.behind turn.steps
    V = began_halting turn.first (seen n) turn.node c turn.behind turn.steps halted H.goes.runs

    abbrev rested : Rested turneds.Halted r m.shrunk turn.node (seen m) turn.behind new
    rested = subst (λ z. Ends told_of z r m.shrunk turn.node (seen m) turn.behind new) halted turn.ends

    halt_heard : is_heard V.meaning ≡ true
    halt_heard = works_heard turneds.Halted _ V.meaning V.now _ turn.node (told_of c) (told_of turn.behind) (inr refl) V.halts

    halt_line : IsLine (Some bytes) true (told_of c) (told_of turn.behind) V.line
    halt_line = subst (λ b. IsLine (Some bytes) b (told_of c) (told_of turn.behind) V.line) halt_heard (subst (λ o. IsLine o (is_heard V.meaning) (told_of c) (told_of turn.behind) V.line) tells V.is_line)

    halt_calls : calls_in new.device ≡ calls_in old.device ++ (V.line ++ V.halts.first)
    halt_calls =
        ap (λ (z : MemSite). calls_in z.device) rested.site
        ∙ same_calls (calls_in turn.behind.device) (calls_in c.device ++ ((V.line ++ []) ++ V.halts.first)) V.halts.calls
        ∙ (λ i. calls_here i ++ (append-nil V.line i ++ V.halts.first))

    halt_made : made ≡ V.line ++ V.halts.first
    halt_made = H.adds.calls ∙ ap (drop since) halt_calls ∙ drop-append_seam (calls_in old.device) (V.line ++ V.halts.first)

    halt_exact : (waits : Bool) × (Waits bytes waits × IsSaid waits (told_of c).counts.link (told_of turn.behind).counts.link V.line)
    halt_exact = halt_line.exact refl bytes refl

    halt_its_line : LineIs halt_exact.0 V.line
    halt_its_line =
        line_so bytes halt_exact.0 _ _ V.line V.halts.first made halt_exact.1.0 halt_exact.1.1 halt_made (halts_no_line _ _ _ V.halts.first (V.halts.makes bodies keeps)) H.tried

    halt_some : 1 ≤ refusals V.halts.first
    halt_some =
        let up = V.halts.rose in
        let still = ap (λ (z : MemSite). z.tally.gate) rested.site in
        let g = gate_here in
        let a = H.adds.raised in
        let b = H.adds.under in
        let e = ap refusals halt_made in
        let f = refusals_join V.line V.halts.first in
        let l = none_refused V.line (line_sendings halt_exact.0 V.line halt_its_line) in
        omega (arith, up, still, g, a, b, e, f, l)

    pub went_halted : DidTurn since fails bytes r (seen n) (seen m) old new made
    went_halted = record {
      hearing = record {
        waits = halt_exact.0;
        waits_so = halt_exact.1.0;
        meaning = V.meaning;
        means = means_so bytes V.meaning halt_heard (subst (λ o. Hears All o V.meaning) tells V.heard);
        now = V.now;
        line = V.line;
        line_is = halt_its_line;
      };
      time = V.clock c.clock refl ∙ ap (λ (z : MemSite). z.clock) others;
      went = Went.off (record {
        step = V.halts.step;
        status = V.halts.status;
        is_first = V.halts.is_first;
        entry = V.halts.entry;
        records = V.halts.records;
        fits = subst (λ k. Fits (Some V.halts.entry) k n.journal.limit) (sym H.goes.open_is.keeps.end) (fits_so (Some V.halts.entry) V.halts.formed);
        first = V.halts.first;
        makes = subst (λ k. Makes appends.Unsure n.journal.live k (bytes_of V.halts.entry) V.halts.first) (sym H.goes.open_is.keeps.end) (V.halts.makes bodies keeps);
        some = halt_some;
        are = halt_made;
        armed = row;
        same = subst (λ (z : State). z ≡ record (calm (seen n)) { journal = z.journal; halted = true }) (sym rested.node) V.halts.same;
      }) rested.answers;
      grown = halt_calls ∙ ap (λ z. calls_in old.device ++ z) (sym halt_made);
      opening = ap (λ (z : MemSite). opening_in z.device) rested.site ∙ opening_kept c turn.behind _ (V.halts.moments bodies keeps) ∙ opening_here;
      arming = kept_arming;
    }

  pub did_turn : DidTurn since fails bytes r (seen n) (seen m) old new made
  did_turn = by came
    where
      by : IsWhole turn.first ⊎ (turn.first ≡ turneds.Halted) → DidTurn since fails bytes r (seen n) (seen m) old new made
      by (inl whole) = went_whole whole
      by (inr halted) = went_halted halted
