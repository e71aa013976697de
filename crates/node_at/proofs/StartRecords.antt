-- A start, from what was read to its Start.
use Rattle.std.proofs.Common.{ℕ, List, Bool, true, false, Result, Ok, Err, [], ◌∷◌, ◌++◌, ◌+◌, ◌≡◌, ◌≢◌, ◌≤◌, ◌<◌, ◌^◌, inl, inr, ⊎_elim, OnOk, map, refl, sym, ◌∙◌, ap, subst, arith}
use Rattle.at_base.specs.declared.record.Record.{Record}
use Rattle.at_base.specs.declared.record.Record.TheVariants as records
use Rattle.at_model.specs.Recovery.{last_incarnation}
use Rattle.decision_log.specs.Folds.{AreRecords}
use Rattle.decision_log.specs.KeptState.{known}
use Rattle.decision_log.specs.KeptRecords.{Known, kept_of}
use Rattle.decision_log.specs.ShrunkJournals.{ShrinksTheSame}
use Rattle.journal_at.specs.declared.journal.Journal.{Journal}
use Rattle.journal_at.specs.declared.load.LoadFault.{LoadFault}
use Rattle.journal_at.specs.declared.load.LoadFault.TheVariants as loads
use Rattle.journal_at.specs.declared.records.Records.{Records}
use Rattle.journal_at.specs.declared.version.Version.{Version}
use Rattle.journal_at.specs.declared.version.Version.TheVariants.{One, Two}
use Rattle.journal_at.specs.Format.{records_of}
use Rattle.journal_at.specs.Loads.{Fails, FailsAt, Loads, Spent, shuts, shuts_if, syncs}
use Rattle.journal_at.specs.Loads.FailsAt.{sync, read, gate}
use Rattle.journal_at.specs.Pairs.{Holds}
use Rattle.journal_at.specs.Scans.{records_in}
use Rattle.journal_at.specs.StandingBodies.{Counted}
use Rattle.record_bytes.specs.Bytes.{bytes_of}
use Rattle.site_model.specs.Counts.{capped}
use Rattle.site_model.specs.Site.{Counts as Numbers}
use Rattle.site_model.specs.Told.{Told, Files, Made, done, sent_by}
use Rattle.node_at.specs.declared.fault.StartFault.{StartFault}
use Rattle.node_at.specs.declared.fault.StartFault.TheVariants as faults
use Rattle.node_at.specs.declared.opened_journal.Opened.{Opened}
use Rattle.node_at.specs.Sizes.{end_of, size_of}
use Rattle.node_at.specs.Starts.{Begins, CannotStart, Carries, Either, Ends, Gathers, IsCause, IsContinued, IsJournalBehind, IsLiveBehind, IsNext, IsNoRecord, IsOpen, IsRead, OnTheWay, Opens, OpensAs, append_calls, carried, carrying, load_fault, start_after, started}
use Rattle.node_at.proofs.StartParts.{goes_no_further, goes_then}
use Rattle.node_at.proofs.JournalsBehind.{goes_on}
use Rattle.node_at.proofs.DiskCalls.{disk_breaks, disk_silent, opening_disk}
use Rattle.node_at.proofs.Sizes.{framed_append, start_long}
use Rattle.node_at.proofs.IdFacts.{weaker}

-- whether there is a next incarnation
pub started_long : (version : Version) (rs : List Record) → size_of (started version rs) ≡ size_of (carried version rs) + 10
started_long version rs =
    let h = framed_append (carried version rs) (start_after rs ∷ []) in
    let k = start_long (last_incarnation rs + 1) in
    omega (arith, h, k)

pub next_full : (version : Version) (rs : List Record) (k : Known) (last size limit : ℕ) → last ≡ k.start → k ≡ kept_of version rs → last ≢ 4294967295 → last < 2 ^ 32
    → size ≡ capped (size_of (carried version rs)) → limit < capped (size + 10) → IsNext (Err faults.Full) version rs limit
next_full version rs k last size limit e f n l s h =
    let g = ap (λ (z : Known). z.start) f in
    let m = started_long version rs in
    (omega (arith, e, g, n, l), omega (arith, s, h, m))

pub next_ok : (version : Version) (rs : List Record) (k : Known) (last size limit : ℕ) → last ≡ k.start → k ≡ kept_of version rs → last ≢ 4294967295 → last < 2 ^ 32
    → size ≡ capped (size_of (carried version rs)) → capped (size + 10) ≤ limit → limit < 2 ^ 32 → IsNext (Ok (last + 1)) version rs limit
next_ok version rs k last size limit e f n l s h small =
    let g = ap (λ (z : Known). z.start) f in
    let m = started_long version rs in
    (omega (arith, e, g), omega (arith, e, g, n, l), omega (arith, s, h, m, small))

-- what was carried over makes the same Kept
pub kept_carried : (version : Version) (rs : List Record) (k : Known) → ShrinksTheSame → k ≡ kept_of version rs → k ≡ kept_of Two (carried version rs)
kept_carried Two rs k law e = e
kept_carried One rs k law e = e ∙ sym (law.migrated rs)

on_ok : {T E A B : Type 0} (r : Result T E) → OnOk r A → (A → B) → OnOk r B
on_ok (Ok x) h f = f h
on_ok (Err e) h f = tt

carried_first : (version : Version) (rs : List Record) (c : Files) → Either version rs (carried version rs) c → OnTheWay version rs c
carried_first version rs c h = ⊎_elim (λ z. inl z) (λ z. inr (inl z)) h

pub begins_on : (rs : List Record) (n : ℕ) (r : Result (Unit {0}) StartFault) (before after : Opened) (j : Journal) (old mid new : Told)
    → n ≡ last_incarnation rs + 1
    → Carries {T = Unit {0}} (carrying before.version rs before.journal) before.version rs (carried before.version rs) (Ok tt) j old mid
    → IsLiveBehind before.version before.journal j.live → j.limit ≡ before.journal.limit
    → Carries (append_calls j.live (end_of (carried before.version rs)) (bytes_of (records.Start n))) Two (carried before.version rs) (carried before.version rs ++ records.Start n ∷ []) r after.journal mid new
    → OnOk r (known after.kept ≡ kept_of Two (carried before.version rs ++ records.Start n ∷ []))
    → OnOk r (after.journal.live ≡ j.live) → after.journal.limit ≡ j.limit
    → IsJournalBehind before.version before.journal j → OnOk r (IsContinued j after.journal) → Begins r rs before after old new
begins_on rs n r before after j old mid new e first behind limit then kept live same opened continued =
    let more = carried before.version rs in
    let calls = append_calls j.live (end_of more) (bytes_of (start_after rs)) in
    let now : Carries calls Two more (started before.version rs) r after.journal mid new = subst (λ z. Carries (append_calls j.live (end_of more) (bytes_of (records.Start z))) Two more (more ++ records.Start z ∷ []) r after.journal mid new) e then in
    record {
      file = j.live;
      goes = goes_then (carrying before.version rs before.journal) calls (Either before.version rs more) (Either Two more (started before.version rs)) (OnTheWay before.version rs) tt r old mid new
          first.goes now.goes (carried_first before.version rs) (λ c z. inr z);
      holds = now.holds;
      behind = behind;
      live = on_ok r live (λ z. sym z);
      kept = subst (λ z. OnOk r (known after.kept ≡ kept_of Two (more ++ records.Start z ∷ []))) e kept;
      limit = same ∙ limit;
      journal = goes_on r before.version before.journal j after.journal opened live continued;
    }

pub begins_not : (rs : List Record) (e : StartFault) (before after : Opened) (old new : Told)
    → Carries {T = Unit {0}} (carrying before.version rs before.journal) before.version rs (carried before.version rs) (Err e) after.journal old new
    → after.journal.limit ≡ before.journal.limit → Begins {T = Unit {0}} (Err e) rs before after old new
begins_not rs e before after old new first limit =
    let more = carried before.version rs in
    record {
      file = before.journal.live;
      goes = goes_no_further (carrying before.version rs before.journal) (append_calls before.journal.live (end_of more) (bytes_of (start_after rs))) (Either before.version rs more) (OnTheWay before.version rs) e old new first.goes (carried_first before.version rs);
      behind = put before.version;
      holds = tt;
      live = tt;
      kept = tt;
      limit = limit;
      journal = tt;
    } where
      put : (version : Version) → IsLiveBehind version before.journal before.journal.live
      put Two = refl
      put One = λ e. refl

-- reading
spent_counted : (old new : Told) → Spent old new → Counted old new
spent_counted old new h =
    let gate : new.counts.gate ≡ old.counts.gate = ap (λ (z : Numbers). z.gate) h.others in
    record {
      disk = h.disk;
      gate = omega (arith, gate);
      others = h.others ∙ (λ i. record old.counts { disk = new.counts.disk; gate = sym gate i });
      apart = h.apart;
    }

-- a start that ends behind reading the journal
pub reads_in : (o : Opened) (limit : ℕ) (old new : Told) (h : Opens o limit old new) (e : StartFault) → IsCause e limit old new → Ends e (map done (syncs ++ shuts_if h.bare)) old → CannotStart e limit old new
reads_in o limit old new h e cause ends = record {
  cause = cause;
  made = map done (syncs ++ shuts_if h.bare);
  ends = ends;
  silent = disk_silent (syncs ++ shuts_if h.bare) (opening_disk h.bare);
  grown = h.grown;
  images = λ c now. inl (h.images c now);
  time = weaker old new _ _ h.time (λ l c p. (p.0, inl p.1));
  counted = h.counted;
}

-- what was read is kept
pub gathers_opened : (o : Opened) (j : Journal) (fs : Records) (limit : ℕ) (old new : Told) → Gathers (Ok o) j fs → Loads (Ok (j, fs)) limit old new → Opens o limit old new
gathers_opened o j fs limit old new (version, journal, folded, is_kept) (h, sure, at) =
    let are : AreRecords fs.version folded.all (records_of h.bodies) = subst (AreRecords fs.version folded.all) (sym h.records_are) folded.are in
    let was : IsRead h.bare fs.version folded.all j old = record {
      found = record { is = λ f told. record { texts = records_in fs; is = h.is f told; are = folded.are } };
      when = h.when;
      bodies = h.bodies;
      live = h.held;
      gate = h.gate;
      of = h.version;
      are = are;
      end = h.keeps.end;
      generation = h.keeps.generation;
    } in
    let holds : IsOpen fs.version folded.all j new = record { bodies = h.bodies; keeps = h.keeps; of = h.version; are = are; sure = sure } in
    record {
      rs = folded.all;
      bare = h.bare;
      was = subst (λ v. IsRead h.bare v folded.all o.journal old) (sym version) (subst (λ z. IsRead h.bare fs.version folded.all z old) (sym journal) was);
      holds = subst (λ v. IsOpen v folded.all o.journal new) (sym version) (subst (λ z. IsOpen fs.version folded.all z new) (sym journal) holds);
      is = folded.is ∙ ap (λ v. kept_of v folded.all) (sym version);
      is_kept = is_kept;
      limit_is = ap (λ (z : Journal). z.limit) journal ∙ at;
      grown = h.grown;
      images = h.images;
      time = h.time;
      counted = spent_counted old new h.spent;
    }

gathers_nothing : (e : StartFault) (j : Journal) (fs : Records) (limit : ℕ) (old new : Told) → IsCause e limit old new → Loads (Ok (j, fs)) limit old new
    → ((bare : Bool) → Ends e (map done (syncs ++ shuts_if bare)) old) → CannotStart e limit old new
gathers_nothing e j fs limit old new cause (h, sure, at) ends = record {
  cause = cause;
  made = map done (syncs ++ shuts_if h.bare);
  ends = ends h.bare;
  silent = disk_silent (syncs ++ shuts_if h.bare) (opening_disk h.bare);
  grown = h.grown;
  images = λ c now. inl (h.images c now);
  time = weaker old new _ _ h.time (λ l c p. (p.0, inl p.1));
  counted = spent_counted old new h.spent;
}

unread : (file place : ℕ) (j : Journal) (fs : Records) (limit : ℕ) (old new : Told) → Gathers (Err (faults.Bad file place)) j fs → Loads (Ok (j, fs)) limit old new → IsNoRecord file place old new
unread file place j fs limit old new (at, bad) (h, sure, limited) = record {
  found = fs;
  is = h.is;
  bodies = h.bodies;
  held = λ f is. subst (λ z. Holds z h.bodies f) (sym at) (h.keeps.stands.files f is);
  same = h.records_are;
  placed = h.placed;
  bad = bad;
}

pub gathered : (r : Result Opened StartFault) (j : Journal) (fs : Records) (limit : ℕ) (old new : Told) → Gathers r j fs → Loads (Ok (j, fs)) limit old new → OpensAs r limit old new
gathered (Ok o) j fs limit old new g h = gathers_opened o j fs limit old new g h
gathered (Err faults.NoMemory) j fs limit old new g h = gathers_nothing faults.NoMemory j fs limit old new tt h (λ bare. inl (inr (bare, refl)))
gathered (Err (faults.Bad file place)) j fs limit old new g h =
    gathers_nothing (faults.Bad file place) j fs limit old new (inr (unread file place j fs limit old new g h)) h (λ bare. inr (bare, refl))
gathered (Err faults.Disk) j fs limit old new g h = absurd g
gathered (Err faults.NoJournal) j fs limit old new g h = absurd g
gathered (Err faults.Spent) j fs limit old new g h = absurd g
gathered (Err faults.Full) j fs limit old new g h = absurd g

fails_silent : (made : List Made) (old : Told) → FailsAt made old → sent_by made ≡ []
fails_silent made old (sync off) = disk_breaks syncs made (opening_disk false) off
fails_silent made old (read e) = ap sent_by e ∙ disk_silent syncs (opening_disk false)
fails_silent made old (gate empty off) = disk_breaks (syncs ++ shuts) made (opening_disk true) off

pub load_failed : (e : LoadFault) (limit : ℕ) (old new : Told) → Fails e old new → CannotStart (load_fault e) limit old new
load_failed loads.NoMemory limit old new h = record {
  cause = tt;
  made = h.made;
  ends = inl (inl h.ends.0);
  silent = ap sent_by h.ends.0 ∙ disk_silent syncs (refl, (refl, tt));
  grown = h.grown;
  images = λ c now. inl (h.images c now);
  time = weaker old new _ _ h.time (λ l c p. (p.0, inl p.1));
  counted = spent_counted old new h.spent;
}
load_failed loads.Disk limit old new h = record {
  cause = inl h.cause;
  made = h.made;
  ends = inl h.ends;
  silent = fails_silent h.made old h.ends;
  grown = h.grown;
  images = λ c now. inl (h.images c now);
  time = weaker old new _ _ h.time (λ l c p. (p.0, inl p.1));
  counted = spent_counted old new h.spent;
}
load_failed (loads.Bad file place) limit old new h = record {
  cause = inl h.cause;
  made = h.made;
  ends = inl h.ends.0;
  silent = ap sent_by h.ends.0 ∙ disk_silent syncs (refl, (refl, tt));
  grown = h.grown;
  images = λ c now. inl (h.images c now);
  time = weaker old new _ _ h.time (λ l c p. (p.0, inl p.1));
  counted = spent_counted old new h.spent;
}
load_failed loads.NoJournal limit old new h = record {
  cause = h.cause;
  made = h.made;
  ends = h.ends.0;
  silent = ap sent_by h.ends.0 ∙ disk_silent syncs (refl, (refl, tt));
  grown = h.grown;
  images = λ c now. inl (h.images c now);
  time = weaker old new _ _ h.time (λ l c p. (p.0, inl p.1));
  counted = spent_counted old new h.spent;
}

pub cannot_same : {e f : StartFault} {limit : ℕ} {old new : Told} → f ≡ e → CannotStart e limit old new → CannotStart f limit old new
cannot_same {e} {f} {limit} {old} {new} is h = subst (λ z. CannotStart z limit old new) (sym is) h
