-- A key that is filled up with zeros, byte by byte.
use Rattle.std.proofs.Common.{ℕ, List, ◌∷◌, ◌++◌, ◌-◌, ◌≡◌, refl, ap, sym, ◌∙◌, zero, suc, length}
use Rattle.std.specs.Prelude.{bit_xor, replicate}
use Rattle.std.proofs.lemmas.List.{map-append}
use Rattle.address_seals.specs.Seals.{padded, xored}

pub zeros_mixed : (pad n : ℕ) → xored pad (replicate n 0) ≡ replicate n (bit_xor 0 pad)
zeros_mixed pad zero = refl
zeros_mixed pad (suc n) = ap (λ rest. bit_xor 0 pad ∷ rest) (zeros_mixed pad n)

pub filled_up : (pad : ℕ) (key : List ℕ) → xored pad key ++ replicate (64 - length key) (bit_xor 0 pad) ≡ padded pad key
filled_up pad key =
    sym (map-append (λ byte. bit_xor byte pad) key (replicate (64 - length key) 0) ∙ ap (λ rest. xored pad key ++ rest) (zeros_mixed pad (64 - length key)))
