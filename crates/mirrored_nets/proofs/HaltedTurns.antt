-- A turn that halts, since the record of its first step may stand or not.
use Rattle.std.specs.Prelude.{ℕ, List, [], ◌∷◌, ◌++◌, ◌≡◌, ◌≤◌, Bool, true, false, Option, Some, None, if◌then◌else◌, drop, length, map, take}
use Rattle.std.proofs.Common.{refl, sym, ap, subst, ◌∙◌, inl, inr, append-nil, true≢false}
use Rattle.std.proofs.lemmas.List.{append_assoc}
use Rattle.std.proofs.Math.Seq.{drop-append_seam}
use Rattle.at_base.specs.declared.record.Record.{Record}
use Rattle.at_model.specs.World.{Input, Turn, World, WorldEvent, example_hosts, nth, put_nth, world_step}
use Rattle.deliveries.specs.ByteNets.{Carries}
use Rattle.journal_at.specs.Compactions.{prepare_calls}
use Rattle.journal_at.specs.StandingBodies.{Makes}
use Rattle.journal_at.specs.declared.journal.Append.TheVariants as appends
use Rattle.memory_net.specs.Mails.{Mail, mails_in}
use Rattle.memory_net.specs.declared.host.Host.{Host}
use Rattle.memory_net.proofs.Standing.{comes_on, same_some}
use Rattle.mirrored_nets.specs.Mirrors.{Mirrors}
use Rattle.mirrored_nets.specs.Took.{HaltsSo, IsTriedLine}
use Rattle.mirrored_nets.proofs.CutTurns.{CutAt, LeadsTo, at_sites, place_records, turn_fallen}
use Rattle.mirrored_nets.proofs.FallenHosts.{IsBefore, NetLaws, at_this, in_world, up_there}
use Rattle.mirrored_nets.proofs.HaltCuts.{fails_behind, halt_cut}
use Rattle.mirrored_nets.proofs.HaltedGates.{IsBroken, broken_gate, halt_by, not_anew}
use Rattle.mirrored_nets.proofs.TriedLines.{line_long, line_no_posts, line_sendings}
use Rattle.node_at.specs.Doings.{calls_of}
use Rattle.node_at.specs.Endings.{Ends, Renews, TakesTurn}
use Rattle.node_at.specs.Meanings.{Hears, IsFit, Meaning, next_input}
use Rattle.node_at.specs.ShrunkJournals.{Shrinks}
use Rattle.node_at.specs.State.{State, seen}
use Rattle.node_at.specs.Turns.{Halts, IsLine, Turns, calm, is_heard, line_of}
use Rattle.node_at.specs.declared.node.Node.{Node}
use Rattle.node_at.specs.declared.role.Role.TheVariants.{All}
use Rattle.node_at.specs.declared.shrink.Shrunk.{Shrunk}
use Rattle.node_at.specs.declared.shrink.Shrunk.TheVariants as shrunks
use Rattle.node_at.specs.declared.turn.Turned.{Turned}
use Rattle.node_at.specs.declared.turn.Turned.TheVariants as turneds
use Rattle.node_events.specs.NodeEvents.{HaltsAreEvents, IsInput}
use Rattle.node_worlds.specs.Acts.{IsUp}
use Rattle.node_worlds.specs.Machines.{IsOn}
use Rattle.node_worlds.specs.Nets.{begun_in}
use Rattle.node_worlds.specs.Restarts.{StandsFor}
use Rattle.node_worlds.specs.SentPosts.{recorded}
use Rattle.record_bytes.specs.Bytes.{bytes_of}
use Rattle.site_memory.specs.Devices.{Leaves, calls_in, opening_in}
use Rattle.site_memory.specs.Disk.{chosen_files}
use Rattle.site_memory.specs.Sites.{told_of}
use Rattle.site_memory.specs.declared.arm.Choice.TheVariants.{Keep}
use Rattle.site_memory.specs.declared.machine.MemSite.{MemSite}
use Rattle.site_model.specs.Told.{Made, done, sent_by}
use Rattle.torn_appends.specs.TornAppends.{AppendsTorn}

-- the journal was written anew up to its gate, which isn't raised for certain
pub record AnewBroken (old new : MemSite) : Type 0 where
  pub unshut : Bool
  pub file : ℕ
  pub text : List ℕ
  pub rest : List Made
  pub calls : calls_in new.device ≡ calls_in old.device ++ (map done (prepare_calls unshut file text) ++ rest)
  pub gate : IsBroken file 0 rest

module _ (n m : State) (old new : MemSite) (runs : n.halted ≡ false) (sure : n.journal.unsure ≡ false) (halted : m.halted ≡ true) where
  still_runs : (b : Bool) → b ≡ false → b ≡ true → ⊥
  still_runs b e f = true≢false (sym f ∙ e)

  shrinks_broken : (shrunk : Shrunk) → Shrinks shrunk n m (told_of old) (told_of new) → AnewBroken old new
  shrinks_broken shrunks.NotDue (inl (undue, same)) = absurd (still_runs n.halted runs (ap (λ (z : State). z.halted) (sym same) ∙ halted))
  shrinks_broken shrunks.NotDue (inr (inl a)) = absurd (still_runs n.halted runs (ap (λ (z : State). z.halted) (sym a.same) ∙ halted))
  shrinks_broken shrunks.NotDue (inr (inr a)) =
      let moves = a.compacted.moves sure in
      let (rest, is, breaks) = moves.are in
      record {
        unshut = n.journal.unshut;
        file = _;
        text = _;
        rest = rest;
        calls = same_some (calls_in new.device) (calls_in old.device ++ moves.made) moves.grown ∙ ap (λ z. calls_in old.device ++ z) is;
        gate = broken_gate _ 0 rest breaks;
      }
  shrinks_broken shrunks.Done a = absurd (still_runs n.halted runs (ap (λ (z : State). z.halted) (sym a.same) ∙ halted))
  shrinks_broken shrunks.Kept a = absurd (still_runs n.halted runs (ap (λ (z : State). z.halted) (sym a.same) ∙ halted))
  shrinks_broken shrunks.NoMemory (due, same) = absurd (still_runs n.halted runs (ap (λ (z : State). z.halted) (sym same) ∙ halted))

by_halted : (b : Bool) (turned : Turned) → (turned ≡ turneds.Halted → ⊥) → turneds.Halted ≡ (if b then turneds.Halted else turned) → b ≡ true
by_halted true turned other e = refl
by_halted false turned other e = absurd (other (sym e))

-- what a turn did that halted in its first step
pub record DidHalt (first : Turned) (n node : State) (c behind : MemSite) (t : Turns first All n node (told_of c) (told_of behind)) : Type 0 where
  pub meaning : Meaning
  pub now : ℕ
  pub line : List Made
  pub heard : Hears All (next_input (told_of c).link) meaning
  pub fit : IsFit meaning
  pub clock : (at : ℕ) → (told_of c).clock ≡ Some at → now ≡ at
  pub is_line : IsLine (next_input (told_of c).link) (is_heard meaning) (told_of c) (told_of behind) line
  pub halts : Halts (line_of line) meaning now (calm n) node (told_of c) (told_of behind)
  pub begun : begun_in first All n node (told_of c) (told_of behind) t ≡ halts.step ∷ []

pub began_halting : (first : Turned) (n node : State) (c behind : MemSite) (t : Turns first All n node (told_of c) (told_of behind)) → first ≡ turneds.Halted → n.halted ≡ false → DidHalt first n node c behind t
began_halting (turneds.Served status) n node c behind t e runs = absurd cc
began_halting turneds.Ticked n node c behind t e runs = absurd cc
began_halting turneds.NoRoom n node c behind t e runs = absurd cc
began_halting turneds.Closed n node c behind t e runs = absurd cc
began_halting turneds.LinkDown n node c behind t e runs = absurd cc
began_halting turneds.Halted n node c behind (inl (halted, rests)) e runs = absurd (true≢false (sym halted ∙ runs))
began_halting turneds.Halted n node c behind (inr (going, opens)) e runs = record {
  meaning = opens.serves.meaning;
  now = opens.serves.now;
  line = opens.serves.made;
  heard = opens.serves.heard;
  fit = opens.serves.fit;
  clock = opens.serves.clock;
  is_line = opens.serves.line;
  halts = opens.serves.works;
  begun = refl;
}

-- what was added to the same calls
pub same_behind : (xs ys zs : List Made) → xs ++ ys ≡ xs ++ zs → ys ≡ zs
same_behind xs ys zs e = sym (drop-append_seam xs ys) ∙ ap (drop (length xs)) e ∙ drop-append_seam xs zs

-- a turn that halted behind all its steps made other calls
module _ (lines : ℕ) (few : lines ≤ 1) (made : List Made) (tried : IsTriedLine lines (take lines made)) (fates : List Bool) (until : Option ℕ) (H : HaltsSo lines made fates until)
    (n : State) (runs : n.halted ≡ false) (sure : n.journal.unsure ≡ false) (c t : MemSite) (adds : calls_in t.device ≡ calls_in c.device ++ made) where
  not_renewed : (first : Turned) (shrunk : Shrunk) (node m : State) (mid : MemSite) (steps : List Made) → (first ≡ turneds.Halted → ⊥) → node.halted ≡ false → node.journal.unsure ≡ false
      → (told_of mid).calls ≡ Some (calls_in c.device ++ steps) → Renews told_of first turneds.Halted shrunk node m mid t → ⊥
  not_renewed first shrunk node m mid steps other going certain before r =
      let b = shrinks_broken node m mid t going certain (by_halted m.halted first other r.answers) shrunk r.shrinks in
      not_anew lines few made tried steps b.unshut b.file 0 b.text b.rest
      (same_behind (calls_in c.device) made (steps ++ (map done (prepare_calls b.unshut b.file b.text) ++ b.rest))
      (sym adds ∙ b.calls ∙ ap (λ z. z ++ (map done (prepare_calls b.unshut b.file b.text) ++ b.rest)) (same_some (calls_in mid.device) (calls_in c.device ++ steps) before)
      ∙ append_assoc (calls_in c.device) steps (map done (prepare_calls b.unshut b.file b.text) ++ b.rest))) b.gate fates until H

  pub did_halt : (first : Turned) (shrunk : Shrunk) (node m : State) (mid : MemSite) (steps : Turns first All n node (told_of c) (told_of mid)) → Ends told_of first turneds.Halted shrunk node m mid t
      → DidHalt first n node c mid steps × (t ≡ mid)
  did_halt (turneds.Served status) shrunk node m mid steps ends =
      let ran = steps.serves.works.0.ran in
      absurd (not_renewed (turneds.Served status) shrunk node m mid (calls_of (line_of steps.serves.made ++ steps.serves.works.0.doings)) (λ e. cc) (ran.runs ∙ runs) (ran.sure ∙ sure) ran.does.calls ends)
  did_halt turneds.Ticked shrunk node m mid steps ends =
      let ran = steps.serves.works.0.ran in
      absurd (not_renewed turneds.Ticked shrunk node m mid (calls_of (line_of steps.serves.made ++ steps.serves.works.0.doings)) (λ e. cc) (ran.runs ∙ runs) (ran.sure ∙ sure) ran.does.calls ends)
  did_halt turneds.NoRoom shrunk node m mid steps ends = absurd (let e = ends.answers in cc)
  did_halt turneds.Closed shrunk node m mid steps ends = absurd (let e = ends.answers in cc)
  did_halt turneds.LinkDown shrunk node m mid steps ends = absurd (let e = ends.answers in cc)
  did_halt turneds.Halted shrunk node m mid steps ends = (began_halting turneds.Halted n node c mid steps refl runs, ends.site)

-- its calls are those of the line, and of the append that halts
pub halt_made : (first : Turned) (n node : State) (c behind : MemSite) (steps : Turns first All n node (told_of c) (told_of behind)) (W : DidHalt first n node c behind steps) (s t : MemSite) (made : List Made)
    → c ≡ s → t ≡ behind → calls_in t.device ≡ calls_in s.device ++ made → made ≡ W.line ++ W.halts.first
halt_made first n node c behind steps W s t made same stays adds =
    same_behind (calls_in s.device) made (W.line ++ W.halts.first)
    (sym adds ∙ ap (λ (z : MemSite). calls_in z.device) stays ∙ same_some (calls_in behind.device) (calls_in c.device ++ ((W.line ++ []) ++ W.halts.first)) W.halts.calls
    ∙ (λ j. calls_in (same j).device ++ (append-nil W.line j ++ W.halts.first)))

pub take_all : {A : Type 0} (xs : List A) → take (length xs) xs ≡ xs
take_all [] = refl
take_all (x ∷ xs) = ap (λ z. x ∷ z) (take_all xs)

module _ (L : NetLaws) (torn : AppendsTorn) (halts_lead : HaltsAreEvents) (count : ℕ) (few : count ≤ 8) (hosts : List Host) (clocks : List ℕ) (mails more : List Mail) (w : World)
    (M : Mirrors count hosts clocks mails w) (i : ℕ) (h g : Host) (n : Node) (here : nth i hosts ≡ Some h) (up : h.node ≡ Some n) (c : ℕ) (time : nth i clocks ≡ Some c) (s : MemSite)
    (before : IsBefore h s) (m : Node) (t : MemSite) where
  abbrev from : MemSite
  from = at_sites L count few hosts clocks mails more w M i h g n here up c time s before m t turneds.Halted i

  abbrev old_records : List Record
  old_records = place_records L count few hosts clocks mails more w M i h g n here up c time s before m t turneds.Halted

  abbrev is_up_there : IsUp old_records (seen n) (told_of s)
  is_up_there = up_there L count few hosts clocks mails more w M i h g n here up c time s before

  module _ (turn : TakesTurn told_of turneds.Halted All m.shrunk (seen n) (seen m) from t) (W : DidHalt turn.first (seen n) turn.node from turn.behind turn.steps) (stays : t ≡ turn.behind) (input : Input)
      (lines : ℕ) (made : List Made) (adds : calls_in t.device ≡ calls_in s.device ++ made) (is_line : IsTriedLine lines W.line)
      (carries : Carries (example_hosts count) M.stands.net i All (told_of from))
      (heard : IsInput w i (in_world L count few hosts clocks mails more w M i h g n here up c time s before).node input W.meaning W.now) (down : g.node ≡ None)
      (fell : Leaves Keep t.device g.site.device) (posted : more ≡ mails ++ mails_in i count (sent_by (take (length made) made))) where
    same_site : from ≡ s
    same_site = at_this L count few hosts clocks mails more w M i h g n here up c time s before

    made_is : made ≡ W.line ++ W.halts.first
    made_is = halt_made turn.first (seen n) turn.node from turn.behind turn.steps W s t made same_site stays adds

    makes : Makes appends.Unsure n.journal.live n.journal.end (bytes_of W.halts.entry) W.halts.first
    makes =
        let u : IsUp old_records (seen n) (told_of from) = subst (λ z. IsUp old_records (seen n) (told_of z)) (sym same_site) is_up_there in
        subst (λ k. Makes appends.Unsure n.journal.live k (bytes_of W.halts.entry) W.halts.first) (sym u.holds.keeps.end) (W.halts.makes u.holds.bodies u.holds.keeps)

    on : IsOn (chosen_files Keep (opening_in t.device) (calls_in s.device ++ take (length made) made)) (told_of g.site)
    on = subst (λ l. IsOn (chosen_files Keep (opening_in t.device) l) (told_of g.site)) (adds ∙ ap (λ z. calls_in s.device ++ z) (sym (take_all made))) (comes_on Keep t g.site fell)

    all_cut : (e : WorldEvent)
        → CutAt old_records (W.halts.step ∷ []) (chosen_files Keep (opening_in s.device) (calls_in s.device ++ made)) made
        (LeadsTo L count few hosts clocks mails more w M i h g n here up c time s before m t turneds.Halted turn W.now e)
        → CutAt old_records (begun_in turn.first All (seen n) turn.node (told_of from) (told_of turn.behind) turn.steps)
        (chosen_files Keep (opening_in s.device) (calls_in s.device ++ take (length made) made)) (take (length made) made)
        (LeadsTo L count few hosts clocks mails more w M i h g n here up c time s before m t turneds.Halted turn W.now e)
    all_cut e cut = record {
      front = cut.front;
      rest = cut.rest;
      of = W.begun ∙ cut.of;
      doings = cut.doings;
      posts = cut.posts;
      sent = cut.sent;
      stands = subst (λ z. StandsFor (old_records ++ recorded cut.front) (chosen_files Keep (opening_in s.device) (calls_in s.device ++ z))) (sym (take_all made)) cut.stands;
      said = cut.said;
      no_posts = cut.no_posts;
      calls = ap sent_by (take_all made) ∙ cut.calls;
      leads = cut.leads;
    }

    pub halted_turn : (fates : List Bool) (until : Option ℕ) → HaltsSo lines made fates until
        → Mirrors count (put_nth i g hosts) (put_nth i W.now clocks) more (world_step w (Turn i input fates until))
    halted_turn fates until H =
        let x = in_world L count few hosts clocks mails more w M i h g n here up c time s before in
        let p = M.stands.holds i h here in
        let e = Turn i input (H.stands ∷ []) (Some 1) in
        let K = halt_by n.journal (bytes_of W.halts.entry) W.halts.first H.file H.stands makes
        (fails_behind lines W.line W.halts.first made H.file H.stands (line_long lines W.line is_line) made_is H.calls) in
        let cut = halt_cut L.bodies torn old_records (seen n) s is_up_there made W.line W.halts.first (line_sendings lines W.line is_line) (line_no_posts lines W.line is_line) made_is W.halts.step W.halts.entry W.halts.records W.halts.landed W.halts.formed H.stands K
        (LeadsTo L count few hosts clocks mails more w M i h g n here up c time s before m t turneds.Halted turn W.now e)
        (halts_lead (example_hosts count) M.stands.net w i p.place x.node (seen n) input W.meaning W.now W.halts.status W.halts.step W.halts.entry H.stands x.is_at heard W.halts.is_first W.halts.records W.halts.landed) in
        subst (λ (z : WorldEvent). Mirrors count (put_nth i g hosts) (put_nth i W.now clocks) more (world_step w z)) (λ j. Turn i input (sym H.fates_are j) (sym H.until_is j))
        (turn_fallen L count few hosts clocks mails more w M i h g n here up c time s before m t turneds.Halted turn made (length made) Keep W.now e adds carries on down posted (all_cut e cut))
