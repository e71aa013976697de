-- Reads and writes that are made in pieces.
use Rattle.std.proofs.Common.{ℕ, List, Ok, Err, ◌≡◌, ◌+◌, ◌-◌, ◌≤◌, ◌∙◌, refl, sym, ap, subst, take, drop, length, arith}
use Rattle.std.proofs.lemmas.List.{take_all, length-drop}
use Rattle.std.specs.declared.io.Error.{Error}
use Rattle.system_calls.specs.Calls.{Calls, Number, Answer, then, given}
use Rattle.system_calls.specs.Calls.Call.{ReadAt, WriteAt}
use Rattle.atx_sites.specs.FileCalls.{Tries, Writing}
use Rattle.atx_sites.specs.FileCalls.Tries.{none as no_try, again}
use Rattle.atx_sites.specs.FileCalls.Writing.{none as no_write, took, failed}

pub untried : (file : Number) (at : ℕ) (old : Calls) → Tries file at old old
untried file at old = no_try refl

pub tried : (file : Number) (at : ℕ) (old mid new : Calls) (buf : List ℕ) (got : Answer ℕ) (fault : Error)
    → Tries file at old mid → new ≡ then (ReadAt file at (given buf got)) mid → got ≡ Err fault → Tries file at old new
tried file at old mid new buf got fault h e r = again fault h (e ∙ ap (λ g. then (ReadAt file at (given buf g)) mid) r)

pub unwritten : (file : Number) (at : ℕ) (bytes : List ℕ) (old : Calls) → Writing file at bytes old 0 old
unwritten file at bytes old = no_write refl refl

pub some_unwritten : (file : Number) (at : ℕ) (bytes : List ℕ) (old : Calls) → (k : ℕ) × Writing file at bytes old k old
some_unwritten file at bytes old = (0, no_write refl refl)

pub some_written : (file : Number) (at : ℕ) (bytes : List ℕ) (old : Calls) (k : ℕ) (new : Calls) → Writing file at bytes old k new → (j : ℕ) × Writing file at bytes old j new
some_written file at bytes old k new h = (k, h)

pub wrote_more : (file : Number) (at : ℕ) (bytes : List ℕ) (old : Calls) (k m j : ℕ) (mid new : Calls) (got : Answer ℕ) → Writing file at bytes old k mid
    → new ≡ then (WriteAt file (at + k) (drop k bytes) got) mid → got ≡ Ok m → j ≡ k + m → Writing file at bytes old j new
wrote_more file at bytes old k m j mid new got h e r i = took m h i (e ∙ ap (λ g. then (WriteAt file (at + k) (drop k bytes) g) mid) r)

pub wrote_none : (file : Number) (at : ℕ) (bytes : List ℕ) (old : Calls) (k j : ℕ) (mid new : Calls) (got : Answer ℕ) (fault : Error) → Writing file at bytes old k mid
    → new ≡ then (WriteAt file (at + k) (drop k bytes) got) mid → got ≡ Err fault → j ≡ k → Writing file at bytes old j new
wrote_none file at bytes old k j mid new got fault h e r i =
    subst (λ n. Writing file at bytes old n new) (sym i) (failed fault h (e ∙ ap (λ g. then (WriteAt file (at + k) (drop k bytes) g) mid) r))

pub within : (k n j : ℕ) (bytes : List ℕ) → n ≤ length (take (length bytes - k) (drop k bytes)) → k ≤ length bytes → j ≡ k + n → j ≤ length bytes
within k n j bytes h i e =
    let all : length (take (length bytes - k) (drop k bytes)) ≡ length (drop k bytes) = ap length (take_all (length bytes - k) (drop k bytes) (omega (arith, length-drop k bytes))) in
    omega (arith, h, i, e, all, length-drop k bytes)

-- the place and the bytes, as the code has them
pub placed : (file : Number) (at k place : ℕ) (bytes : List ℕ) (got : Answer ℕ) (mid new : Calls)
    → new ≡ then (WriteAt file place (take (length bytes - k) (drop k bytes)) got) mid → place ≡ at + k → new ≡ then (WriteAt file (at + k) (drop k bytes) got) mid
placed file at k place bytes got mid new e h =
    e ∙ (λ i. then (WriteAt file (h i) (take_all (length bytes - k) (drop k bytes) (omega (arith, length-drop k bytes)) i) got) mid)
