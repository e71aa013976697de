-- How the past grows over several calls.
use Rattle.std.proofs.Common.{List, inl, inr, ⊎_elim}
use Rattle.site_model.specs.Told.{Told, Made, Files, Elapses}

pub weaker : (a b : Told) (P Q : List Made → Files → Type 0) → Elapses a b P → ((l : List Made) (c : Files) → P l c → Q l c) → Elapses a b Q
weaker a b P Q h k = record { adds = λ l c past. ⊎_elim (λ old. inl old) (λ p. inr (k l c p)) (h.adds l c past); keeps = h.keeps }

pub and_then : (a b d : Told) (P : List Made → Files → Type 0) → Elapses a b P → Elapses b d P → Elapses a d P
and_then a b d P h k =
    record {
      adds = λ l c past. ⊎_elim (h.adds l c) (λ p. inr p) (k.adds l c past);
      keeps = λ l c past. k.keeps l c (h.keeps l c past);
    }
