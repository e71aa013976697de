-- A turn of a node that went to its end, and the calls that it made.
use Rattle.std.specs.Prelude.{ℕ, List, [], ◌∷◌, ◌++◌, ◌+◌, ◌-◌, ◌^◌, ◌≡◌, ◌≤◌, ◌<◌, ◌⊎◌, IfSome, Option, Some, None, Bool, true, false, drop, length, zero, suc}
use Rattle.std.specs.List.{AllByRecursion}
use Rattle.std.proofs.Common.{refl, sym, ap, subst, arith, ◌∙◌, inl, inr}
use Rattle.std.proofs.Math.Seq.{drop-append_seam}
use Rattle.std.proofs.lemmas.List.{append_assoc, length-append}
use Rattle.at_base.specs.declared.record.Record.{Record}
use Rattle.journal_at.specs.Format.{frames}
use Rattle.journal_at.specs.StandingBodies.{Keeps, Makes}
use Rattle.journal_at.specs.declared.journal.Append.TheVariants as appends
use Rattle.journal_at.specs.declared.journal.Journal.{Journal}
use Rattle.journal_at.specs.declared.version.Version.TheVariants.{Two}
use Rattle.memory_net.proofs.Standing.{same_some}
use Rattle.node_at.specs.Doings.{AreFates, Doing, IsFateAt, Ran, calls_of, lost_of}
use Rattle.node_at.specs.Meanings.{Hears, IsFit, Meaning, next_input}
use Rattle.node_at.specs.Sends.{Counts}
use Rattle.node_at.specs.State.{State}
use Rattle.node_at.specs.TurnText.{TurnStep}
use Rattle.node_at.specs.Turns.{IsLine, Turns, Whole, Works, calm, is_heard, line_of, unsaid_in}
use Rattle.node_at.specs.declared.role.Role.TheVariants.{All}
use Rattle.node_at.specs.declared.turn.Turned.{Turned}
use Rattle.node_at.specs.declared.turn.Turned.TheVariants as turneds
use Rattle.node_events.specs.NodeEvents.{all_made}
use Rattle.node_worlds.specs.Nets.{doings_in, steps_in}
use Rattle.record_bytes.specs.Bytes.{bytes_of}
use Rattle.record_bytes.specs.Versions.{IsRecord}
use Rattle.record_bytes.specs.Versions.{AreBodies as RecordsAreBodies}
use Rattle.site_memory.specs.Devices.{calls_in, opening_in}
use Rattle.site_memory.specs.Sites.{told_of}
use Rattle.site_memory.specs.Tells.{reads}
use Rattle.site_memory.specs.declared.machine.MemSite.{MemSite}
use Rattle.site_model.specs.Counts.{Rose}
use Rattle.site_model.specs.Told.{Made, file_of}
use Rattle.mirrored_nets.specs.Answered.{AnswersWith}
use Rattle.mirrored_nets.specs.Fates.{failures, refusals}
use Rattle.mirrored_nets.specs.Took.{Adds, HasRoom, IsWhole}
use Rattle.mirrored_nets.proofs.AnewCalls.{GoesAnew}
use Rattle.mirrored_nets.proofs.CallRows.{AreSendings}
use Rattle.mirrored_nets.proofs.CallsRead.{IsRecordOf, Read}
use Rattle.mirrored_nets.proofs.ToldFares.{AllAreOuts, HasNone}

-- what a turn did that went to its end
pub record DidWhole (first : Turned) (n node : State) (c behind : MemSite) (t : Turns first All n node (told_of c) (told_of behind)) : Type 0 where
  pub meaning : Meaning
  pub now : ℕ
  pub status : ℕ
  pub answers : AnswersWith first status
  pub line : List Made
  pub heard : Hears All (next_input (told_of c).link) meaning
  pub fit : IsFit meaning
  pub clock : (at : ℕ) → (told_of c).clock ≡ Some at → now ≡ at
  pub is_line : IsLine (next_input (told_of c).link) (is_heard meaning) (told_of c) (told_of behind) line
  pub works : Works first (line_of line) meaning now (calm n) node (told_of c) (told_of behind)
  pub whole : Whole (line_of line) meaning now status (calm n) node (told_of c) (told_of behind)
  pub counted : is_heard meaning ≡ true → (bytes : List ℕ) → next_input (told_of c).link ≡ Some bytes
      → Counts (unsaid_in line + lost_of whole.doings) (told_of c).counts.link (told_of behind).counts.link
  pub steps_are : steps_in first All n node (told_of c) (told_of behind) t ≡ whole.steps
  pub doings_are : doings_in first All n node (told_of c) (told_of behind) t ≡ whole.doings

pub did_whole : (first : Turned) (n node : State) (c behind : MemSite) (t : Turns first All n node (told_of c) (told_of behind)) → IsWhole first → DidWhole first n node c behind t
did_whole (turneds.Served status) n node c behind t whole = record {
  meaning = t.serves.meaning;
  now = t.serves.now;
  status = status;
  answers = refl;
  line = t.serves.made;
  heard = t.serves.heard;
  fit = t.serves.fit;
  clock = t.serves.clock;
  is_line = t.serves.line;
  works = t.serves.works;
  whole = t.serves.works.0;
  counted = t.serves.counted;
  steps_are = refl;
  doings_are = refl;
}
did_whole turneds.Ticked n node c behind t whole = record {
  meaning = t.serves.meaning;
  now = t.serves.now;
  status = 202;
  answers = refl;
  line = t.serves.made;
  heard = t.serves.heard;
  fit = t.serves.fit;
  clock = t.serves.clock;
  is_line = t.serves.line;
  works = t.serves.works;
  whole = t.serves.works.0;
  counted = t.serves.counted;
  steps_are = refl;
  doings_are = refl;
}
did_whole turneds.NoRoom n node c behind t whole = absurd whole
did_whole turneds.Halted n node c behind t whole = absurd whole
did_whole turneds.Closed n node c behind t whole = absurd whole
did_whole turneds.LinkDown n node c behind t whole = absurd whole

-- The file that is live has room for a record's body.
pub room : (j : Journal) (bodies : List (List ℕ)) (s : MemSite) → HasRoom s → Keeps j bodies (told_of s) → length (frames bodies) + 1060010 ≤ 4294967295
room j bodies s has keeps = by j.live (keeps.stands.files (reads (opening_in s.device) (calls_in s.device)) refl).closed.gate _ (keeps.stands.files (reads (opening_in s.device) (calls_in s.device)) refl).closed.is
  where
    by : (live gate : ℕ) (rest : List ℕ) → file_of live (reads (opening_in s.device) (calls_in s.device)) ≡ frames bodies ++ (gate ∷ rest) → length (frames bodies) + 1060010 ≤ 4294967295
    by zero gate rest e =
        let a = ap length e ∙ length-append (frames bodies) (gate ∷ rest) in
        let b = has.first in
        omega (arith, a, b)
    by (suc k) gate rest e =
        let a = ap length e ∙ length-append (frames bodies) (gate ∷ rest) in
        let b = has.second in
        omega (arith, a, b)

-- so no record was left out for want of it
pub record_so : RecordsAreBodies → (j : Journal) (bodies : List (List ℕ)) (s : MemSite) → HasRoom s → Keeps j bodies (told_of s) → j.limit ≡ 4294967295
    → (entry : Option Record) (landed : Bool) (disk : List Made) (refused : ℕ) → IfSome entry (λ r. IsRecord Two r (bytes_of r)) → IsFateAt landed entry j.live j.limit (length (frames bodies)) disk refused
    → IsRecordOf entry landed j disk refused
record_so law j bodies s has keeps limit None landed disk refused formed h = h
record_so law j bodies s has keeps limit (Some r) true disk refused formed (made, within, none) =
    (subst (λ end. Makes appends.Done j.live end (bytes_of r) disk) (sym keeps.end) made, none)
record_so law j bodies s has keeps limit (Some r) false disk refused formed (inl (made, within, one)) =
    (subst (λ end. Makes appends.Refused j.live end (bytes_of r) disk) (sym keeps.end) made, one)
record_so law j bodies s has keeps limit (Some r) false disk refused formed (inr (made, past, none)) =
    let a = room j bodies s has keeps in
    let b = (law Two r (bytes_of r) formed).0.most in
    absurd (omega (arith, a, b, past, limit))

-- steps without a record have no calls of the disk
pub unrecorded_calls : (live limit : ℕ) (bodies : List (List ℕ)) (ss : List TurnStep) (ds : List Doing) → AreFates live limit bodies ss ds → AllByRecursion HasNone ss → calls_of ds ≡ all_made ds
unrecorded_calls live limit bodies [] [] h none = refl
unrecorded_calls live limit bodies [] (d ∷ ds) h none = absurd h
unrecorded_calls live limit bodies (s ∷ ss) [] h none = absurd h
unrecorded_calls live limit bodies (s ∷ ss) (d ∷ ds) (h, more) (none, others) =
    let fate : IsFateAt s.landed None live limit (length (frames bodies)) d.first d.refused = subst (λ o. IsFateAt s.landed o live limit (length (frames bodies)) d.first d.refused) none h in
    λ i. (fate.0 i ++ d.made) ++ unrecorded_calls live limit (bodies ++ d.landed) ss ds more others i

grown : (o p q x y made : List Made) → p ≡ o ++ x → q ≡ p ++ y → made ≡ drop (length o) q → made ≡ x ++ y
grown o p q x y made e f g = g ∙ ap (drop (length o)) (f ∙ ap (λ z. z ++ y) e ∙ append_assoc o x y) ∙ drop-append_seam o (x ++ y)

in_parts : (line disk ms rest anew : List Made) → line ++ (((disk ++ ms) ++ rest) ++ anew) ≡ line ++ (disk ++ ((ms ++ rest) ++ anew))
in_parts line disk ms rest anew = ap (λ z. line ++ z) (ap (λ z. z ++ anew) (append_assoc disk ms rest) ∙ append_assoc disk (ms ++ rest) anew)

-- its calls are those of its line, of its steps and of writing its journal anew
pub made_are : (n node m : State) (old c behind site : MemSite) (made line : List Made) (steps : List TurnStep) (doings : List Doing) → c ≡ record old { line = c.line }
    → Ran (line_of line) steps doings n node (told_of c) (told_of behind) → (anew : GoesAnew node m behind site) → Adds made old site → made ≡ line ++ (calls_of doings ++ anew.made)
made_are n node m old c behind site made line steps doings others ran anew adds =
    grown (calls_in old.device) (calls_in behind.device) (calls_in site.device) (line ++ calls_of doings) anew.made made
    (same_some (calls_in behind.device) (calls_in c.device ++ (line ++ calls_of doings)) ran.does.calls ∙ ap (λ (z : MemSite). calls_in z.device ++ (line ++ calls_of doings)) others)
    (same_some (calls_in site.device) (calls_in behind.device ++ anew.made) anew.calls) adds.calls
    ∙ append_assoc line (calls_of doings) anew.made

-- A count that rose behind the steps rose beside the records that were refused.
pub beside_so : (disk mid later gate mid_gate later_gate refused made : ℕ) → later + later_gate ≤ disk + gate + made → later < 2 ^ 63 → later_gate < 2 ^ 63 → disk + refused ≤ mid → mid ≤ later → gate ≤ mid_gate
    → mid_gate ≤ later_gate → Rose mid later ⊎ Rose mid_gate later_gate → refused + 1 ≤ made
beside_so disk mid later gate mid_gate later_gate refused made both below under some more first second (inl rose) = omega (arith, both, below, under, some, more, first, second, rose)
beside_so disk mid later gate mid_gate later_gate refused made both below under some more first second (inr rose) = omega (arith, both, below, under, some, more, first, second, rose)

-- the calls of a whole turn
pub whole_read : RecordsAreBodies → (n node m : State) (old c behind site : MemSite) (made line : List Made) (bodies : List (List ℕ)) (s : TurnStep) (ss : List TurnStep) (d : Doing) (ds : List Doing)
    → c ≡ record old { line = c.line } → HasRoom old → Keeps n.journal bodies (told_of c) → n.journal.limit ≡ 4294967295 → Ran (line_of line) (s ∷ ss) (d ∷ ds) n node (told_of c) (told_of behind)
    → GoesAnew node m behind site → Adds made old site → AreSendings line
    → Counts (failures line + lost_of (d ∷ ds)) (told_of c).counts.link (told_of behind).counts.link → AllAreOuts (s ∷ ss) → AllByRecursion HasNone ss → Read n.journal line made s ss d ds
whole_read law n node m old c behind site made line bodies s ss d ds others has keeps limit ran anew adds sent counted outs none = record {
  anew = anew.made;
  are =
      made_are n node m old c behind site made line (s ∷ ss) (d ∷ ds) others ran anew adds
      ∙ ap (λ z. line ++ (((d.first ++ d.made) ++ z) ++ anew.made)) (unrecorded_calls n.journal.live n.journal.limit (bodies ++ d.landed) ss ds fates.1 none)
      ∙ in_parts line d.first d.made (all_made ds) anew.made;
  anew_are = anew.on_disk;
  line_sent = sent;
  record_is = record_so law n.journal bodies c has_here keeps limit s.entry s.landed d.first d.refused ran.are.0.formed fates.0;
  outs = outs;
  unrecorded = none;
  lost =
      let a = anew.link in
      let b = adds.counted in
      let e = adds.uncapped in
      let f = link_here in
      let below : behind.tally.link < 2 ^ 64 - 1 = omega (arith, a, e) in
      let k = counted below in
      omega (arith, a, b, e, f, k);
  refused =
      let a = anew.disk in
      let b = adds.refused in
      let e = adds.below in
      let f = disk_here in
      let below : behind.tally.disk < 2 ^ 64 - 1 = omega (arith, a, e) in
      let k = ran.refused below in
      omega (arith, a, b, e, f, k);
  both = λ some. beside (anew.failed some);
}
  where
    fates : AreFates n.journal.live n.journal.limit bodies (s ∷ ss) (d ∷ ds)
    fates = ran.fates bodies keeps

    has_here : HasRoom c
    has_here = subst HasRoom (sym others) (record { first = has.first; second = has.second })

    link_here : c.tally.link ≡ old.tally.link
    link_here = ap (λ (z : MemSite). z.tally.link) others

    disk_here : c.tally.disk ≡ old.tally.disk
    disk_here = ap (λ (z : MemSite). z.tally.disk) others

    gate_here : c.tally.gate ≡ old.tally.gate
    gate_here = ap (λ (z : MemSite). z.tally.gate) others

    beside : Rose behind.tally.disk site.tally.disk ⊎ Rose behind.tally.gate site.tally.gate → d.refused + 1 ≤ refusals made
    beside rose =
        beside_so c.tally.disk behind.tally.disk site.tally.disk c.tally.gate behind.tally.gate site.tally.gate d.refused (refusals made)
        (let f = disk_here in let g = gate_here in let b = adds.both in omega (arith, f, g, b)) adds.below adds.under
        (let a = anew.disk in let e = adds.below in let below : behind.tally.disk < 2 ^ 64 - 1 = omega (arith, a, e) in let k = ran.refused below in omega (arith, k)) anew.disk ran.later.gate anew.gate rose
