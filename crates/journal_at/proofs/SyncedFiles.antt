-- Both files are synced and read.
use Rattle.std.proofs.Common.{ℕ, List, Option, Some, None, Result, Ok, Err, [], ◌∷◌, ◌≡◌, ◌++◌, ◌≤◌, inl, refl, sym, ◌∙◌, ap, subst, map, option_map, OnOk, OnErr, IfOk, arith}
use Rattle.site_model.proofs.Past.{and_then, weaker}
use Rattle.site_model.specs.Counts.{Rose}
use Rattle.site_model.specs.Site.{Counts}
use Rattle.site_model.specs.Calls.{Outcome, Synced}
use Rattle.site_model.specs.Told.{Told, Files, Made, Is, Within, Between, Settled, done}
use Rattle.site_model.specs.Told.Call.{Sync}
use Rattle.journal_at.specs.declared.load.LoadFault.{LoadFault}
use Rattle.journal_at.specs.declared.load.LoadFault.TheVariants.{NoMemory, Disk, Bad, NoJournal}
use Rattle.journal_at.specs.declared.scan.Both.{Both}
use Rattle.journal_at.specs.declared.scan.Scan.{Scan}
use Rattle.journal_at.specs.Loads.{Ends, Fails, IsCause, LoadCause, Quiet, Ready, Rests, Settles, Surveys, syncs}
use Rattle.journal_at.specs.Loads.FailsAt.{sync, read}
use Rattle.journal_at.specs.Scans.{IsSeen}
use Rattle.journal_at.proofs.DeviceCalls.{all_ran, grown_then, is_between, is_last, map_err, map_ok, on_err, runs_cut, runs_then}
use Rattle.journal_at.proofs.SyncedWrites.{rose_later}

pub settles_cut : {T U E F : Type 0} (r : Result T E) (e : E) (q : Result U F) (f : F) (old new : Told) → r ≡ Err e → q ≡ Err f → Synced 0 r old new → Settles q old new
settles_cut r e q f old new re qf h =
    record {
      calls = runs_cut (Sync 0 ∷ []) (Sync 1 ∷ []) r e q f old new re qf h.calls;
      settled = subst (λ z. OnOk z (Within (Is new.files) new.images)) (sym qf) tt;
      files = h.files;
      images = h.images;
      time = weaker old new _ _ h.time (λ l c n. (is_last old new h.calls.made l h.calls.grown n.0, h.images c n.1));
      apart = h.apart;
      counts = record {
        cause = record { later = h.counts.cause.later; failed = on_err _ q (subst (λ z. OnErr z (Rose old.counts.disk new.counts.disk)) re h.counts.cause.failed) };
        others = h.counts.others;
      };
    }

pub some_is : {A : Type 0} (x y : A) → Some x ≡ Some y → x ≡ y
some_is x y e = ap (inside x) e where
  inside : {B : Type 0} → B → Option B → B
  inside d None = d
  inside d (Some z) = z

pub settles_done : {T U E F : Type 0} (r : Result T E) (x : T) (q : Result U F) (old mid new : Told) → r ≡ Ok x → Synced 0 r old mid → Synced 1 q mid new → Settles q old new
settles_done r x q old mid new rx w s =
    record {
      calls = runs_then (Sync 0 ∷ []) (Sync 1 ∷ []) q old mid new (all_ran (Sync 0 ∷ []) r x old mid rx w.calls) s.calls;
      settled = map_ok (Settled 1 mid.files new.images) (Within (Is new.files) new.images) q both s.done;
      files = s.files ∙ w.files;
      images = λ c im. w.images c (s.images c im);
      time = and_then old mid new _
          (weaker old mid _ _ w.time (λ l c n. (is_between old mid new w.calls.made s.calls.made l w.calls.grown s.calls.grown n.0, w.images c n.1)))
          (weaker mid new _ _ s.time (λ l c n. (last l n.0, w.images c (s.images c n.1))));
      apart = record { link = s.apart.link ∙ w.apart.link; clock = s.apart.clock ∙ w.apart.clock };
      counts = record {
        cause = record { later = omega (arith, w.counts.cause.later, s.counts.cause.later); failed = map_err _ _ q (rose_later old.counts.disk mid.counts.disk new.counts.disk w.counts.cause.later) s.counts.cause.failed };
        others = s.counts.others ∙ ap (λ (z : Counts). record z { disk = new.counts.disk }) w.counts.others;
      };
    } where
      last : (l : List Made) → new.calls ≡ Some l → Between old new l
      last l e = is_last old new (w.calls.made ++ s.calls.made) l (grown_then old.calls mid.calls new.calls w.calls.made s.calls.made w.calls.grown s.calls.grown) e

      first : Settled 0 old.files mid.images
      first = subst (λ z. OnOk z (Settled 0 old.files mid.images)) rx w.done

      both : Settled 1 mid.files new.images → Within (Is new.files) new.images
      both h c im =
          let (f, is, second) = h c im in
          let (g, was, one) = first c (s.images c im) in
          let same : g ≡ f = some_is g f (sym was ∙ sym w.files ∙ is) in
          let equal : f ≡ c = λ i. record { first = (sym (one ∙ ap (λ (z : Files). z.first) same)) i; second = (sym second) i } in
          s.files ∙ is ∙ ap Some equal

pub between_still : (old mid new : Told) (l : List Made) → new.calls ≡ mid.calls → Between old mid l → Between old new l
between_still old mid new l e (before, after, was, is, p, q) = (before, after, was, e ∙ is, p, q)

-- reading leaves them so
pub ready_of : {T E : Type 0} (r : Result T E) (x : T) (old mid new : Told) → r ≡ Ok x → Settles r old mid → Quiet mid new → Ready old new
ready_of r x old mid new rx h q =
    record {
      settled = λ c im. q.still.files ∙ settled c (q.still.images c im);
      files = q.still.files ∙ h.files;
      images = λ c im. h.images c (q.still.images c im);
      grown = q.still.calls ∙ h.calls.grown ∙ ap (λ m. option_map (λ l. l ++ m) old.calls) all;
      time = and_then old mid new _
          (weaker old mid _ _ h.time (λ l c n. (between_still old mid new l q.still.calls n.0, n.1)))
          (weaker mid new _ _ q.still.time (λ l c n. absurd n));
      spent = record {
        disk = omega (arith, h.counts.cause.later, q.later);
        others = q.others ∙ ap (λ (z : Counts). record z { disk = new.counts.disk }) h.counts.others;
        apart = record { link = q.apart.link ∙ h.apart.link; clock = q.apart.clock ∙ h.apart.clock };
      };
    } where
      settled : Within (Is mid.files) mid.images
      settled = subst (λ z. OnOk z (Within (Is mid.files) mid.images)) rx h.settled

      all : h.calls.made ≡ map done syncs
      all = subst (λ z. Outcome syncs z h.calls.made) rx h.calls.outcome

pub rests : (old new : Told) → new.files ≡ old.files → Rests old new
rests old new e f is = (f, sym e ∙ is, λ version records h. h)

pub fails_early : {T E : Type 0} (r : Result T E) (e : E) (old new : Told) → r ≡ Err e → Settles r old new → Fails Disk old new
fails_early r e old new re h =
    record {
      cause = subst (λ z. OnErr z (Rose old.counts.disk new.counts.disk)) re h.counts.cause.failed;
      made = h.calls.made;
      ends = sync (subst (λ z. Outcome syncs z h.calls.made) re h.calls.outcome);
      grown = h.calls.grown;
      files = rests old new h.files;
      images = λ c im. inl (h.images c im);
      time = weaker old new _ _ h.time (λ l c n. (n.0, inl n.1));
      spent = record { disk = h.counts.cause.later; others = h.counts.others; apart = h.apart };
    }

pub fails_ready : (e : LoadFault) (old new : Told) → IsCause e old new → Ready old new → Fails e old new
fails_ready e old new cause h =
    record {
      cause = cause;
      made = map done syncs;
      ends = ends e;
      grown = h.grown;
      files = rests old new h.files;
      images = λ c im. inl (h.images c im);
      time = weaker old new _ _ h.time (λ l c n. (n.0, inl n.1));
      spent = h.spent;
    } where
      ends : (e : LoadFault) → Ends e (map done syncs) old new
      ends NoMemory = (refl, h.files, h.images)
      ends Disk = read refl
      ends (Bad file place) = (refl, h.files, h.images)
      ends NoJournal = (refl, h.files, h.images)

pub cause_later : (e : LoadFault) (old mid new : Told) → old.counts.disk ≤ mid.counts.disk → mid.files ≡ old.files → IsCause e mid new → IsCause e old new
cause_later NoMemory old mid new h k cause = tt
cause_later Disk old mid new h k cause = rose_later old.counts.disk mid.counts.disk new.counts.disk h cause
cause_later (Bad file place) old mid new h k cause = λ f is. cause f (k ∙ is)
cause_later NoJournal old mid new h k cause = λ f is. cause f (k ∙ is)

pub fails_look : {T E : Type 0} (r : Result T E) (x : T) (e : LoadFault) (old mid new : Told) → r ≡ Ok x → Settles r old mid → Quiet mid new → IsCause e mid new → Fails e old new
fails_look r x e old mid new rx h q cause = fails_ready e old new (cause_later e old mid new h.counts.cause.later h.files cause) (ready_of r x old mid new rx h q)

pub seen_later : (s : Scan) (file : ℕ) (mid new : Told) → new.files ≡ mid.files → IsSeen s file mid → IsSeen s file new
seen_later s file mid new e h = record { bytes = h.bytes; is = h.is; told = λ f is. h.told f (sym e ∙ is) }

pub surveyed : {T E : Type 0} (q : Result Both LoadFault) (r : Result T E) (x : T) (old mid new : Told) → r ≡ Ok x → Settles r old mid → Quiet mid new → LoadCause q mid new → IfOk q (λ b. IsSeen b.first 0 mid) → IfOk q (λ b. IsSeen b.second 1 mid) → Surveys q old new
surveyed (Ok both) r x old mid new rx h k cause a b = (ready_of r x old mid new rx h k, seen_later both.first 0 mid new k.still.files a, seen_later both.second 1 mid new k.still.files b)
surveyed (Err e) r x old mid new rx h k cause a b = fails_look r x e old mid new rx h k cause
