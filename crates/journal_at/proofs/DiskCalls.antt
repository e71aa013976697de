-- How rows of calls on the disk compose.
use Rattle.std.proofs.Common.{ℕ, List, Result, Ok, Err, [], ◌∷◌, ◌≡◌, ◌++◌, ◌∙◌, ap, subst, option_map, OnErr, arith}
use Rattle.site_model.proofs.Past.{and_then, weaker}
use Rattle.site_model.specs.Counts.{Rose}
use Rattle.site_model.specs.Site.{Counts}
use Rattle.site_model.specs.Calls.{Synced, Wrote}
use Rattle.site_model.specs.Told.{Told, Files, Made, Call, Between, Elapses}
use Rattle.site_model.specs.Told.Call.{Write, Sync}
use Rattle.journal_at.specs.Compactions.{Acts}
use Rattle.journal_at.specs.StandingBodies.{Laid}
use Rattle.journal_at.proofs.SyncedWrites.{rose_later}
use Rattle.journal_at.proofs.DeviceCalls.{after_that, all_ran, map_err, on_err, runs_cut, runs_then, through}

abbrev pub acts_wrote : {T E : Type 0} (file at : ℕ) (bytes : List ℕ) (r : Result T E) (old new : Told) → Wrote file at bytes r old new → Acts (Write file at bytes ∷ []) r old new
acts_wrote file at bytes r old new h = record { runs = h.calls; apart = h.apart; counts = h.counts }

pub acts_synced : {T E : Type 0} (file : ℕ) (r : Result T E) (old new : Told) → Synced file r old new → Acts (Sync file ∷ []) r old new
acts_synced file r old new h = record { runs = h.calls; apart = h.apart; counts = h.counts }

pub acts_laid : {T E : Type 0} (file at : ℕ) (bytes : List ℕ) (r : Result T E) (old new : Told) → Laid file at bytes r old new → Acts (Write file at bytes ∷ Sync file ∷ []) r old new
acts_laid file at bytes r old new h = record { runs = h.calls; apart = h.apart; counts = record { cause = h.cause; others = h.others } }

abbrev pub acts_then : {T E U F : Type 0} (c d : List Call) (r : Result T E) (x : T) (q : Result U F) (old mid new : Told) → r ≡ Ok x → Acts c r old mid → Acts d q mid new → Acts (c ++ d) q old new
acts_then c d r x q old mid new e h k =
    record {
      runs = runs_then c d q old mid new (all_ran c r x old mid e h.runs) k.runs;
      apart = record { link = k.apart.link ∙ h.apart.link; clock = k.apart.clock ∙ h.apart.clock };
      counts = record {
        cause = record { later = omega (arith, h.counts.cause.later, k.counts.cause.later); failed = map_err _ _ q (rose_later old.counts.disk mid.counts.disk new.counts.disk h.counts.cause.later) k.counts.cause.failed };
        others = k.counts.others ∙ ap (λ (z : Counts). record z { disk = new.counts.disk }) h.counts.others;
      };
    }

abbrev pub acts_cut : {T E U F : Type 0} (c d : List Call) (r : Result T E) (x : E) (q : Result U F) (y : F) (old new : Told) → r ≡ Err x → q ≡ Err y → Acts c r old new → Acts (c ++ d) q old new
acts_cut c d r x q y old new e f h =
    record {
      runs = runs_cut c d r x q y old new e f h.runs;
      apart = h.apart;
      counts = record {
        cause = record { later = h.counts.cause.later; failed = on_err _ q (subst (λ z. OnErr z (Rose old.counts.disk new.counts.disk)) e h.counts.cause.failed) };
        others = h.counts.others;
      };
    }

-- and what is past then
pub times : (old mid new : Told) (m n : List Made) (P : Files → Type 0) → mid.calls ≡ option_map (λ l. l ++ m) old.calls → new.calls ≡ option_map (λ l. l ++ n) mid.calls → Elapses old mid (λ l c. Between old mid l × P c) → Elapses mid new (λ l c. Between mid new l × P c) → Elapses old new (λ l c. Between old new l × P c)
times old mid new m n P g h s t =
    and_then old mid new _
    (weaker old mid _ _ s (λ l c k. (through old mid new n l h k.0, k.1)))
    (weaker mid new _ _ t (λ l c k. (after_that old mid new m l g k.0, k.1)))
