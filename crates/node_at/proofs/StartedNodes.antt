-- A node that was started, or not.
use Rattle.std.proofs.Common.{ℕ, List, Result, Ok, Err, [], ◌∷◌, ◌++◌, ◌+◌, ◌≡◌, ◌≤◌, ◌<◌, ◌⊎◌, inl, inr, ⊎_elim, false, length, map, option_map, refl, sym, ◌∙◌, ap, subst, arith}
use Rattle.std.proofs.lemmas.List.{append_assoc, map-append}
use Rattle.at_base.specs.declared.record.Record.{Record}
use Rattle.at_base.specs.declared.record.Record.TheVariants as records
use Rattle.at_model.specs.Book.{Book}
use Rattle.at_model.specs.Recovery.{last_incarnation, recover}
use Rattle.decision_log.specs.KeptState.{known}
use Rattle.decision_log.specs.KeptRecords.{GrowsByOne, IsKept, Known, kept_of}
use Rattle.decision_log.specs.ShrunkJournals.{ShrinksTheSame}
use Rattle.journal_at.specs.declared.journal.Journal.{Journal}
use Rattle.journal_at.specs.declared.version.Version.{Version}
use Rattle.journal_at.specs.declared.version.Version.TheVariants.{One, Two}
use Rattle.journal_at.specs.Format.{frames, records_of}
use Rattle.journal_at.specs.Loads.{Lasts, shuts_if, syncs}
use Rattle.model_laws.specs.Order.{IdsRise, IsInOrder}
use Rattle.model_laws.specs.BookBounds.{IsSound, RecordsAreWellFormed}
use Rattle.site_model.specs.Told.{Told, Call, Files, done}
use Rattle.node_at.specs.declared.fault.StartFault.{StartFault}
use Rattle.node_at.specs.declared.fault.StartFault.TheVariants as faults
use Rattle.node_at.specs.declared.opened_journal.Opened.{Opened}
use Rattle.node_at.specs.PromiseLaws.{PromisesStay}
use Rattle.node_at.specs.Promises.{PromisesStand}
use Rattle.node_at.specs.Sizes.{size_of}
use Rattle.node_at.specs.StartedNodes.{IsStarted}
use Rattle.node_at.specs.Starts.{Begins, CannotStart, Found, IsDue, IsEnd, IsLiveBehind, IsNext, IsOpen, OnTheWay, Opens, Ran, beginning_calls, carried, start_after, start_calls, started}
use Rattle.node_at.specs.State.{IsNode, State}
use Rattle.node_at.proofs.StartRecords.{kept_carried, reads_in}
use Rattle.node_at.proofs.CallRows.{after_that, grown_then, through}
use Rattle.node_at.proofs.StartParts.{breaks_behind, counted_then, due_then, open_images}
use Rattle.node_at.proofs.BodyRecords.{are_formed, begun, old_generation, open_end}
use Rattle.node_at.proofs.DiskCalls.{disk_breaks, disk_silent, disk_some, start_disk}
use Rattle.node_at.proofs.IdFacts.{and_then, weaker}

-- what an image stands for that stands for what the files did
lasts_stand : (version : Version) (rs : List Record) (old : Told) (c : Files) → Found version rs old → Lasts old c → old.images c ⊎ OnTheWay version rs c
lasts_stand version rs old c found h =
    ⊎_elim
    (λ now. inl now)
    (λ x. let s = found.is x.0 x.1 in inr (inl (record { texts = s.texts; is = x.2 version s.texts s.is; are = s.are }))) h

pub is_started : (o after : Opened) (base : List ℕ) (limit n : ℕ) (book : Book) (old mid new : Told) (h : Opens o limit old mid) → IsNext (Ok n) o.version h.rs limit
    → book ≡ recover base (carried o.version h.rs ++ records.Start n ∷ []) → Begins {T = Unit {0}} (Ok tt) h.rs o after mid new
    → IsStarted base limit (record { book = book; kept = known after.kept; journal = after.journal; effects = []; halted = false }) old new
is_started o after base limit n book old mid new h (is, least, fits) e b =
    let first = syncs ++ shuts_if h.bare in
    let calls : map done first ++ b.goes.made ≡ map done (start_calls h.bare o.version h.rs o.journal after.journal.live) =
    ap (λ z. map done first ++ z) b.goes.ran ∙ sym (map-append done first (beginning_calls o.version h.rs o.journal b.file)) ∙ ap (λ z. map done (start_calls h.bare o.version h.rs o.journal z)) b.live in
    record {
      version = o.version;
      rs = h.rs;
      bare = h.bare;
      journal = o.journal;
      was = h.was;
      live = subst (IsLiveBehind o.version o.journal) b.live b.behind;
      least = least;
      fits = fits;
      book = e ∙ ap (λ z. recover base (carried o.version h.rs ++ records.Start z ∷ [])) is;
      kept = b.kept;
      holds = b.holds;
      limit_is = b.limit ∙ h.limit_is;
      behind = b.journal;
      effects = refl;
      runs = refl;
      grown = subst (λ z. new.calls ≡ option_map (λ l. l ++ z) old.calls) calls (grown_then old.calls mid.calls new.calls (map done first) b.goes.made h.grown b.goes.grown);
      silent = disk_silent (start_calls h.bare o.version h.rs o.journal after.journal.live) (start_disk h.bare o.version h.rs o.journal after.journal.live);
      images = λ c now. open_images Two (started o.version h.rs) after.journal new b.holds c now;
      time = and_then old mid new _
          (weaker old mid _ _ h.time (λ l c p. (through old mid new b.goes.made l b.goes.grown p.0, lasts_stand o.version h.rs old c h.was.found p.1)))
          (weaker mid new _ _ b.goes.time (λ l c p. (after_that old mid new (map done first) l h.grown p.0, inr p.1)));
      counted = counted_then old mid new h.counted b.goes.counted;
    }

pub sound_start : (o after : Opened) (base : List ℕ) (limit n : ℕ) (book : Book) (old mid new : Told) (h : Opens o limit old mid) → RecordsAreWellFormed → GrowsByOne → ShrinksTheSame
    → IsNext (Ok n) o.version h.rs limit → book ≡ recover base (carried o.version h.rs ++ records.Start n ∷ []) → Begins {T = Unit {0}} (Ok tt) h.rs o after mid new → IsSound book
sound_start o after base limit n book old mid new h law grows same (is, least, fits) e b =
    let more = carried o.version h.rs in
    let a = ap (λ (z : Known). z.start) (grows more (start_after h.rs)) in
    let k = ap (λ (z : Known). z.start) (kept_carried o.version h.rs (kept_of o.version h.rs) same refl) in
    subst IsSound (sym (e ∙ ap (λ z. recover base (more ++ records.Start z ∷ [])) is))
    (law.recovered base (started o.version h.rs) (are_formed Two (started o.version h.rs) (records_of b.holds.bodies) b.holds.are)
    (omega (arith, a, k)) (omega (arith, a, k, least)))

-- it ends behind reading, or in what comes then
pub not_next : (o : Opened) (limit : ℕ) (e : StartFault) (old mid : Told) (h : Opens o limit old mid) → IsNext (Err e) o.version h.rs limit → CannotStart e limit old mid
not_next o limit faults.Spent old mid h x = reads_in o limit old mid h faults.Spent (o.version, h.rs, h.was.found, x) (inr (h.bare, refl))
not_next o limit faults.Full old mid h x = reads_in o limit old mid h faults.Full (o.version, h.rs, h.was.found, x.0, x.1) (inr (h.bare, refl))
not_next o limit faults.NoMemory old mid h x = absurd x
not_next o limit faults.Disk old mid h x = absurd x
not_next o limit (faults.Bad file place) old mid h x = absurd x
not_next o limit faults.NoJournal old mid h x = absurd x

pub no_room : (o : Opened) (limit : ℕ) (old mid : Told) → Opens o limit old mid → CannotStart faults.NoMemory limit old mid
no_room o limit old mid h = reads_in o limit old mid h faults.NoMemory tt (inl (inr (h.bare, refl)))

pub begin_failed : (o after : Opened) (limit n : ℕ) (e : StartFault) (old mid new : Told) (h : Opens o limit old mid) → IsNext (Ok n) o.version h.rs limit → Begins {T = Unit {0}} (Err e) h.rs o after mid new
    → CannotStart e limit old new
begin_failed o after limit n e old mid new h (is, least, fits) b = on e b.goes.ran b.goes.cause where
  first : List Call
  first = syncs ++ shuts_if h.bare

  behind : List Call
  behind = beginning_calls o.version h.rs o.journal b.file

  on : (e : StartFault) → Ran {T = Unit {0}} behind (Err e) b.goes.made → IsDue {T = Unit {0}} (Err e) mid new → CannotStart e limit old new
  on faults.Disk ran due =
      let off = breaks_behind first behind b.goes.made ran in
      record {
        cause = due_then {T = Unit {0}} (Err faults.Disk) old mid new h.counted due;
        made = map done first ++ b.goes.made;
        ends = inr (record { bare = h.bare; version = o.version; rs = h.rs; journal = o.journal; file = b.file; was = h.was; behind = b.behind; least = least; ended = off });
        silent = disk_breaks (first ++ behind) (map done first ++ b.goes.made) (start_disk h.bare o.version h.rs o.journal b.file) off;
        grown = grown_then old.calls mid.calls new.calls (map done first) b.goes.made h.grown b.goes.grown;
        images = λ c now. inr (o.version, h.rs, h.was.found, b.goes.images c now);
        time = and_then old mid new _
            (weaker old mid _ _ h.time (λ l c p. (through old mid new b.goes.made l b.goes.grown p.0, inl p.1)))
            (weaker mid new _ _ b.goes.time (λ l c p. (after_that old mid new (map done first) l h.grown p.0, inr (o.version, h.rs, h.was.found, p.1))));
        counted = counted_then old mid new h.counted b.goes.counted;
      }
  on faults.NoMemory (front, rest, split, is) due =
      let e1 : first ++ behind ≡ (first ++ front) ++ rest = ap (λ z. first ++ z) split ∙ sym (append_assoc first front rest) in
      let e2 : map done first ++ b.goes.made ≡ map done (first ++ front) = ap (λ z. map done first ++ z) is ∙ sym (map-append done first front) in
      record {
        cause = tt;
        made = map done first ++ b.goes.made;
        ends = inr (record { bare = h.bare; version = o.version; rs = h.rs; journal = o.journal; file = b.file; was = h.was; behind = b.behind; least = least; ended = (first ++ front, rest, e1, e2) });
        silent = disk_some (first ++ behind) (first ++ front) rest (map done first ++ b.goes.made) (start_disk h.bare o.version h.rs o.journal b.file) e1 e2;
        grown = grown_then old.calls mid.calls new.calls (map done first) b.goes.made h.grown b.goes.grown;
        images = λ c now. inr (o.version, h.rs, h.was.found, b.goes.images c now);
        time = and_then old mid new _
            (weaker old mid _ _ h.time (λ l c p. (through old mid new b.goes.made l b.goes.grown p.0, inl p.1)))
            (weaker mid new _ _ b.goes.time (λ l c p. (after_that old mid new (map done first) l h.grown p.0, inr (o.version, h.rs, h.was.found, p.1))));
        counted = counted_then old mid new h.counted b.goes.counted;
      }
  on (faults.Bad file place) ran due = absurd ran
  on faults.NoJournal ran due = absurd ran
  on faults.Spent ran due = absurd ran
  on faults.Full ran due = absurd ran

pub is_end : (version : Version) (rs : List Record) (j : Journal) (s : Told) → IsOpen version rs j s → IsEnd version rs j
is_end Two rs j s o = open_end rs j s o
is_end One rs j s o = tt

pub open_generation : (version : Version) (rs : List Record) (j : Journal) (s : Told) → IsOpen version rs j s → version ≡ One → j.generation < 4294967295
open_generation version rs j s o e = let g = o.keeps.generation in let h = old_generation o.bodies (o.of ∙ e) in omega (arith, g, h)

pub next_in : (o : Opened) (limit : ℕ) (r : Result ℕ StartFault) (old mid : Told) (h : Opens o limit old mid)
    → ((rs : List Record) → known o.kept ≡ kept_of o.version rs → IsEnd o.version rs o.journal → IsNext r o.version rs limit) → IsNext r o.version h.rs limit
next_in o limit r old mid h next = next h.rs h.is (is_end o.version h.rs o.journal mid h.holds)

pub is_later : (o : Opened) (limit n : ℕ) (old mid : Told) (h : Opens o limit old mid) → IsNext (Ok n) o.version h.rs limit → (known o.kept).start < n
is_later o limit n old mid h x = let a = ap (λ (z : Known). z.start) h.is in let b = x.0 in omega (arith, a, b)

pub begins_in : {T : Type 0} (o after : Opened) (limit n : ℕ) (r : Result T StartFault) (old mid new : Told) (h : Opens o limit old mid) → IsNext (Ok n) o.version h.rs limit
    → ((rs : List Record) → IsOpen o.version rs o.journal mid → known o.kept ≡ kept_of o.version rs → n ≡ last_incarnation rs + 1 → size_of (started o.version rs) ≤ o.journal.limit → Begins r rs o after mid new)
    → Begins r h.rs o after mid new
begins_in o after limit n r old mid new h x begins = let l = h.limit_is in let f = x.2 in begins h.rs h.holds h.is x.0 (omega (arith, l, f))

pub book_in : (o : Opened) (base : List ℕ) (limit n : ℕ) (book : Book) (old mid : Told) (h : Opens o limit old mid) → ShrinksTheSame
    → ((rs : List Record) → known o.kept ≡ kept_of Two rs → book ≡ recover base (rs ++ records.Start n ∷ [])) → book ≡ recover base (carried o.version h.rs ++ records.Start n ∷ [])
book_in o base limit n book old mid h same is = is (carried o.version h.rs) (kept_carried o.version h.rs (known o.kept) same h.is)

pub started_same : {base : List ℕ} {limit : ℕ} {s t : State} {old new : Told} → t ≡ s → IsStarted base limit s old new → IsStarted base limit t old new
started_same {base} {limit} {s} {t} {old} {new} e h = subst (λ z. IsStarted base limit z old new) (sym e) h

pub order_start : (o after : Opened) (base : List ℕ) (limit n : ℕ) (book : Book) (old mid : Told) (h : Opens o limit old mid) → IdsRise → ShrinksTheSame
    → IsNext (Ok n) o.version h.rs limit → book ≡ recover base (carried o.version h.rs ++ records.Start n ∷ []) → IsInOrder book
order_start o after base limit n book old mid h law same (is, least, fits) e =
    let more = carried o.version h.rs in
    let k = ap (λ (z : Known). z.start) (kept_carried o.version h.rs (kept_of o.version h.rs) same refl) in
    subst IsInOrder (sym (e ∙ ap (λ z. recover base (more ++ records.Start z ∷ [])) (is ∙ ap (λ z. z + 1) k))) (law.started base more)

pub node_same : {s t : State} → t ≡ s → IsNode s → IsNode t
node_same {s} {t} e h = subst IsNode (sym e) h

-- a file of version 2 has a body
pub begun_start : {rs : List Record} {s : Told} (j : Journal) (o : IsOpen Two rs j s) → 1 ≤ j.end
begun_start {rs} {s} j o = let m = begun o.bodies o.of in omega (arith, o.keeps.end, ap (λ z. length (frames z)) m.is)

pub kept_start : {T : Type 0} (rs : List Record) (x : T) (o after : Opened) (mid new : Told) → Begins {T = T} (Ok x) rs o after mid new → IsKept (known after.kept)
kept_start rs x o after mid new b = record { all = started o.version rs; formed = are_formed Two (started o.version rs) (records_of b.holds.bodies) b.holds.are; is = b.kept }

pub promises_start : (o after : Opened) (base : List ℕ) (limit n : ℕ) (book : Book) (old mid new : Told) (h : Opens o limit old mid) → PromisesStay → IsNext (Ok n) o.version h.rs limit
    → book ≡ recover base (carried o.version h.rs ++ records.Start n ∷ []) → IsInOrder book → Begins {T = Unit {0}} (Ok tt) h.rs o after mid new → PromisesStand book (known after.kept)
promises_start o after base limit n book old mid new h law (is, least, fits) e order b =
    let rs = started o.version h.rs in
    let at : book ≡ recover base rs = e ∙ ap (λ z. recover base (carried o.version h.rs ++ records.Start z ∷ [])) is in
    subst (λ z. PromisesStand z (known after.kept)) (sym at)
    (subst (PromisesStand (recover base rs)) (sym b.kept)
    (law.recovered base rs (are_formed Two rs (records_of b.holds.bodies) b.holds.are) (subst IsInOrder at order)))
