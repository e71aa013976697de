-- What a call does to the crash images of a file, and of the pair.
use Rattle.std.proofs.Common.{ℕ, List, Bool, true, false, zero, suc, [], ◌∷◌, length, ◌≡◌, ◌++◌, ◌+◌, ◌-◌, refl, sym, ◌∙◌, ap, subst, take, drop, replicate, arith}
use Rattle.std.specs.Prelude.{max, cond}
use Rattle.std.proofs.lemmas.List.{append_assoc, length-append, length-replicate, length-take}
use Rattle.std.proofs.Math.Seq.{drop-append-add, drop-append_seam}
use Rattle.site_model.specs.Told.{Call, Made, Files, Torn, TornIn, written}
use Rattle.site_model.specs.Told.Call.{Write, Sync, Send, Post}
use Rattle.site_memory.specs.declared.entry.Noted.{Noted}
use Rattle.site_memory.specs.declared.entry.Noted.TheVariants.{Done, Failed, Not}
use Rattle.site_memory.specs.declared.range.Range.{Range}
use Rattle.site_memory.specs.declared.range.Which.{Which}
use Rattle.site_memory.specs.declared.range.Which.TheVariants.{First, Second}
use Rattle.site_memory.specs.Disk.{Disk, MayBe, TornAt, torn_by, after_call, after_write, after_sync, disk, run, same, which_of}
use Rattle.site_memory.proofs.FurtherCalls.{effect}
use Rattle.site_memory.proofs.WrittenBytes.{length_written, take_written}

pub torn_same : (at n : ℕ) (f : List ℕ) → Torn at n f f
torn_same at n f = record { before = λ k h l. refl; after = refl; no_shorter = omega arith; no_longer = omega arith }

pub drop_written : (at : ℕ) (bytes old : List ℕ) → drop (at + length bytes) (written at bytes old) ≡ drop (at + length bytes) old
drop_written at bytes old =
    let gap = replicate (at - length old) 0 in
    let p = take at old ++ gap in
    let t = drop (at + length bytes) old in
    let long : length p ≡ at = grind (arith, length-append (take at old) gap, length-replicate {A = ℕ} (at - length old) 0, length-take at old) in
    ap (drop (at + length bytes)) (sym (append_assoc (take at old) gap (bytes ++ t))) ∙ ap (λ k. drop (k + length bytes) (p ++ (bytes ++ t))) (sym long) ∙ drop-append-add p (bytes ++ t) (length bytes) ∙ drop-append_seam bytes t

pub torn_written : (at : ℕ) (bytes f : List ℕ) → Torn at (length bytes) f (written at bytes f)
torn_written at bytes f =
    let long : length (written at bytes f) ≡ max (length f) (at + length bytes) = length_written at bytes f in
    record { before = λ k h l. take_written k at bytes f h l; after = drop_written at bytes f; no_shorter = omega (arith, long); no_longer = omega (arith, long) }

-- one range more, behind the others
pub torn_push : (from : List ℕ → Type 0) (rs : List Range) (r : Range) (c : List ℕ) → torn_by from (rs ++ r ∷ []) c → TornAt r.at r.len (torn_by from rs) c
torn_push from [] r c h = h
torn_push from (s ∷ rs) r c h = torn_push (TornAt s.at s.len from) rs r c h

pub push_torn : (from : List ℕ → Type 0) (rs : List Range) (r : Range) (c : List ℕ) → TornAt r.at r.len (torn_by from rs) c → torn_by from (rs ++ r ∷ []) c
push_torn from [] r c h = h
push_torn from (s ∷ rs) r c h = push_torn (TornAt s.at s.len from) rs r c h

-- what reads give may be left
pub seen_next : (which : Which) (d : Disk) (call : Call) (b : Bool) → MayBe d d.seen → MayBe (after_call which d call b) (after_call which d call b).seen
seen_next which d (Write g at bytes) b h = by_case (same which (which_of g)) b where
  wrote : (b : Bool) → MayBe (after_write at bytes b d) (after_write at bytes b d).seen
  wrote true = push_torn _ d.pending (record { at = at; len = length bytes }) _ (d.seen, h, torn_written at bytes d.seen)
  wrote false = push_torn _ d.pending (record { at = at; len = length bytes }) _ (d.seen, h, torn_same at (length bytes) d.seen)

  by_case : (t b : Bool) → MayBe (cond t (after_write at bytes b d) d) (cond t (after_write at bytes b d) d).seen
  by_case true b = wrote b
  by_case false b = h
seen_next which d (Sync g) b h = by_case (same which (which_of g)) b where
  by_case : (t b : Bool) → MayBe (cond t (after_sync b d) d) (cond t (after_sync b d) d).seen
  by_case true true = refl
  by_case true false = h
  by_case false b = h
seen_next which d (Send bytes) b h = h
seen_next which d (Post host port bytes) b h = h

pub seen_run : (which : Which) (d : Disk) (log : List Made) → MayBe d d.seen → MayBe (run which d log) (run which d log).seen
seen_run which d [] h = h
seen_run which d (m ∷ log) h = seen_run which (after_call which d m.call m.done) log (seen_next which d m.call m.done h)

pub seen_image : (which : Which) (o : Files) (log : List Made) → MayBe (disk which o log) (disk which o log).seen
seen_image which o log = seen_run which _ log refl

-- a write tears one of the pair
pub tears : (file at : ℕ) (bytes : List ℕ) (noted : Noted) (d e : Disk) (c : Files) → MayBe (effect First (Write file at bytes) noted d) c.first → MayBe (effect Second (Write file at bytes) noted e) c.second → (x : Files) × (MayBe d x.first × MayBe e x.second) × TornIn file at (length bytes) x c
tears zero at bytes Done d e c h k =
    let (x, was, torn) = torn_push _ d.pending (record { at = at; len = length bytes }) c.first h in
    (record { first = x; second = c.second }, (was, k), record { torn = torn; kept = refl })
tears zero at bytes Failed d e c h k =
    let (x, was, torn) = torn_push _ d.pending (record { at = at; len = length bytes }) c.first h in
    (record { first = x; second = c.second }, (was, k), record { torn = torn; kept = refl })
tears zero at bytes Not d e c h k = (c, (h, k), record { torn = torn_same at (length bytes) c.first; kept = refl })
tears (suc n) at bytes Done d e c h k =
    let (x, was, torn) = torn_push _ e.pending (record { at = at; len = length bytes }) c.second k in
    (record { first = c.first; second = x }, (h, was), record { torn = torn; kept = refl })
tears (suc n) at bytes Failed d e c h k =
    let (x, was, torn) = torn_push _ e.pending (record { at = at; len = length bytes }) c.second k in
    (record { first = c.first; second = x }, (h, was), record { torn = torn; kept = refl })
tears (suc n) at bytes Not d e c h k = (c, (h, k), record { torn = torn_same at (length bytes) c.second; kept = refl })

-- a sync settles one of the pair, and opens nothing
pub synced : (b : Bool) (d : Disk) (c : List ℕ) → MayBe d d.seen → MayBe (after_sync b d) c → MayBe d c
synced true d c seen h = subst (MayBe d) (sym h) seen
synced false d c seen h = h
