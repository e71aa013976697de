-- A write and its sync.
use Rattle.std.proofs.Common.{ℕ, List, Some, Result, Ok, Err, [], ◌∷◌, length, ◌≡◌, ◌++◌, ◌≤◌, inl, inr, sym, ◌∙◌, ap, subst, option_map, OnOk, OnErr, arith}
use Rattle.site_model.proofs.Past.{and_then, weaker}
use Rattle.site_model.specs.Counts.{Rose}
use Rattle.site_model.specs.Site.{Counts}
use Rattle.site_model.specs.Calls.{Synced, Wrote}
use Rattle.site_model.specs.Told.{Told, Made, Is, Between, Settled, Tears, with_file, written}
use Rattle.site_model.specs.Told.Call.{Write, Sync}
use Rattle.journal_at.specs.StandingBodies.{Laid}
use Rattle.journal_at.proofs.DeviceCalls.{all_ran, grown_then, runs_then, runs_cut, is_between, is_last, option_map_is, on_ok, map_ok, map_err, on_err}

pub laid_cut : {T U E F : Type 0} (file at : ℕ) (bytes : List ℕ) (r : Result T E) (e : E) (q : Result U F) (f : F) (old new : Told) → r ≡ Err e → q ≡ Err f → Wrote file at bytes r old new → Laid file at bytes q old new
laid_cut file at bytes r e q f old new re qf h =
    record {
      calls = runs_cut (Write file at bytes ∷ []) (Sync file ∷ []) r e q f old new re qf h.calls;
      done = subst (λ z. OnOk z (new.files ≡ option_map (with_file file (written at bytes)) old.files)) (sym qf) tt;
      settled = subst (λ z. OnOk z (Settled file new.files new.images)) (sym qf) tt;
      failed = on_err _ q (λ f is. inr (subst (λ z. OnErr z (Tears file at (length bytes) (Is old.files) (Is new.files))) re h.failed f is));
      images = h.images;
      time = weaker old new _ _ h.time (λ l c n. (is_last old new h.calls.made l h.calls.grown n.0, h.images c n.1));
      apart = h.apart;
      cause = record { later = h.counts.cause.later; failed = on_err _ q (subst (λ z. OnErr z (Rose old.counts.disk new.counts.disk)) re h.counts.cause.failed) };
      others = h.counts.others;
    }

pub rose_later : (a b c : ℕ) → a ≤ b → Rose b c → Rose a c
rose_later a b c h k = omega (arith, h, k)

pub laid_done : {T U E F : Type 0} (file at : ℕ) (bytes : List ℕ) (r : Result T E) (x : T) (q : Result U F) (old mid new : Told) → r ≡ Ok x → Wrote file at bytes r old mid → Synced file q mid new → Laid file at bytes q old new
laid_done file at bytes r x q old mid new rx w s =
    let was : mid.files ≡ option_map (with_file file (written at bytes)) old.files = subst (λ z. OnOk z (mid.files ≡ option_map (with_file file (written at bytes)) old.files)) rx w.done in
    let now : new.files ≡ option_map (with_file file (written at bytes)) old.files = s.files ∙ was in
    record {
      calls = runs_then (Write file at bytes ∷ []) (Sync file ∷ []) q old mid new (all_ran (Write file at bytes ∷ []) r x old mid rx w.calls) s.calls;
      done = on_ok _ q now;
      settled = map_ok (Settled file mid.files new.images) (Settled file new.files new.images) q (subst (λ z. Settled file z new.images) (sym s.files)) s.done;
      failed = on_err _ q (λ f is. inl (option_map_is (with_file file (written at bytes)) old.files f (sym now ∙ is)));
      images = λ c im. w.images c (s.images c im);
      time = and_then old mid new _
          (weaker old mid _ _ w.time (λ l c n. (is_between old mid new w.calls.made s.calls.made l w.calls.grown s.calls.grown n.0, w.images c n.1)))
          (weaker mid new _ _ s.time (λ l c n. (last l n.0, w.images c (s.images c n.1))));
      apart = record { link = s.apart.link ∙ w.apart.link; clock = s.apart.clock ∙ w.apart.clock };
      cause = record { later = omega (arith, w.counts.cause.later, s.counts.cause.later); failed = map_err _ _ q (rose_later old.counts.disk mid.counts.disk new.counts.disk w.counts.cause.later) s.counts.cause.failed };
      others = s.counts.others ∙ ap (λ (z : Counts). record z { disk = new.counts.disk }) w.counts.others;
    } where
      last : (l : List Made) → new.calls ≡ Some l → Between old new l
      last l e = is_last old new (w.calls.made ++ s.calls.made) l (grown_then old.calls mid.calls new.calls w.calls.made s.calls.made w.calls.grown s.calls.grown) e
