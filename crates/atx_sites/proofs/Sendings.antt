-- Bytes that are sent in pieces.
use Rattle.std.proofs.Common.{ℕ, List, Ok, Err, ◌≡◌, ◌+◌, ◌-◌, ◌∙◌, refl, sym, ap, subst, take, drop, length, arith}
use Rattle.std.proofs.lemmas.List.{take_all, length-drop}
use Rattle.std.specs.declared.io.Error.{Error}
use Rattle.system_calls.specs.Calls.{Calls, Number, Answer, then}
use Rattle.system_calls.specs.Calls.Call.{Write}
use Rattle.atx_sites.specs.LinkCalls.{Sending}
use Rattle.atx_sites.specs.LinkCalls.Sending.{none as no_piece, took, failed}

pub unsent : (stream : Number) (bytes : List ℕ) (old : Calls) → Sending stream bytes old 0 old
unsent stream bytes old = no_piece refl refl

-- the bytes, as the code has them
pub rest_of : (stream : Number) (k : ℕ) (bytes : List ℕ) (got : Answer ℕ) (mid new : Calls)
    → new ≡ then (Write stream (take (length bytes - k) (drop k bytes)) got) mid → new ≡ then (Write stream (drop k bytes) got) mid
rest_of stream k bytes got mid new e =
    e ∙ ap (λ (l : List ℕ). then (Write stream l got) mid) (take_all (length bytes - k) (drop k bytes) (omega (arith, length-drop k bytes)))

pub sent_more : (stream : Number) (bytes : List ℕ) (old : Calls) (k m j : ℕ) (mid new : Calls) (got : Answer ℕ) → Sending stream bytes old k mid
    → new ≡ then (Write stream (take (length bytes - k) (drop k bytes)) got) mid → got ≡ Ok m → j ≡ k + m → Sending stream bytes old j new
sent_more stream bytes old k m j mid new got h e r i =
    took m h i (rest_of stream k bytes got mid new e ∙ ap (λ g. then (Write stream (drop k bytes) g) mid) r)

pub sent_none : (stream : Number) (bytes : List ℕ) (old : Calls) (k j : ℕ) (mid new : Calls) (got : Answer ℕ) (fault : Error) → Sending stream bytes old k mid
    → new ≡ then (Write stream (take (length bytes - k) (drop k bytes)) got) mid → got ≡ Err fault → j ≡ k → Sending stream bytes old j new
sent_none stream bytes old k j mid new got fault h e r i =
    subst (λ n. Sending stream bytes old n new) (sym i)
    (failed fault h (rest_of stream k bytes got mid new e ∙ ap (λ g. then (Write stream (drop k bytes) g) mid) r))

pub some_sent : (stream : Number) (bytes : List ℕ) (old : Calls) (k : ℕ) (new : Calls) → Sending stream bytes old k new → (j : ℕ) × Sending stream bytes old j new
some_sent stream bytes old k new h = (k, h)
