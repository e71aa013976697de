-- What is known of links that were never told to fail.
use Rattle.std.specs.Prelude.{ℕ, Bool, true, false, Option, Some, None, ◌&&◌, nat_eq}

-- none of them is to fail, and none has failed
abbrev pub are_sound : {A : Type 0} → (may_fail : Bool) (fail : ℕ) → Option A → (accept receive : ℕ) → Bool
are_sound true fail names accept receive = true
are_sound false fail None accept receive = nat_eq fail 0 && (nat_eq accept 0 && nat_eq receive 0)
are_sound false fail (Some names) accept receive = false
