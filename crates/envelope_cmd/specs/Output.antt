-- What a command prints, and whether that is a refusal.
use Rattle.std.specs.Prelude.{ℕ, List, Bool, true, false}

pub record Output : Type 0 where
  pub text : List ℕ
  pub is_refusal : Bool

abbrev pub accepted : List ℕ → Output
accepted text = record { text = text; is_refusal = false }

abbrev pub refused : List ℕ → Output
refused text = record { text = text; is_refusal = true }
