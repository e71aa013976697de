-- A file that is read piece by piece.
use Rattle.std.proofs.Common.{ℕ, List, [], length, ◌≡◌, ◌++◌, ◌+◌, ◌<◌, ◌≤◌, sym, ◌∙◌, ap, subst, refl, take, drop, arith, Option, Some, None, Result, Ok, Err}
use Rattle.std.specs.Prelude.{Bool, true, false}
use Rattle.std.proofs.lemmas.List.{length-append, length-take, take_all}
use Rattle.std.proofs.Math.Seq.{take-add}
use Rattle.journal_cmd.specs.Folders.{Answers, IsBeginning, IsPiece}
use Rattle.journal_cmd.specs.declared.files.FileFault.TheVariants.{Missing}
use Rattle.journal_cmd.specs.declared.read_file.Unread.{Unread}
use Rattle.journal_cmd.specs.declared.read_file.Unread.TheVariants as unread

read_more : (whole b later buf : List ℕ) (at n : ℕ) → b ≡ take (length b) whole → at ≡ length b → later ≡ b ++ take n buf → n ≤ length buf → take n buf ≡ take n (drop at whole) → later ≡ take (length later) whole
read_more whole b later buf at n h e l s r =
    let size : length later ≡ length b + n = ap length l ∙ length-append b (take n buf) ∙ omega (arith, length-take n buf, s) in
    l ∙ (λ i. h i ++ r i) ∙ ap (λ k. take (length b) whole ++ take n (drop k whole)) e ∙ sym (take-add (length b) n whole) ∙ ap (λ k. take k whole) (sym size)

pub one_more : (file : Option (List ℕ)) (before later buf : List ℕ) (at n : ℕ) → IsBeginning before file → Answers (Ok n) at buf file → at ≡ length before → later ≡ before ++ take n buf → n ≤ length buf → IsPiece (Ok true) later file
one_more (Some whole) before later buf at n h a e l s = read_more whole before later buf at n h e l s a.given
one_more None before later buf at n h a e l s = absurd a

pub ended : (file : Option (List ℕ)) (before buf : List ℕ) (at n : ℕ) → IsBeginning before file → Answers (Ok n) at buf file → at ≡ length before → n ≡ 0 → 0 < length buf → IsPiece (Ok false) before file
ended (Some whole) before buf at n h a e z s = ap Some (sym (h ∙ take_all (length before) whole (omega (arith, a.end z s, e))))
ended None before buf at n h a e z s = absurd a

pub missing : (file : Option (List ℕ)) (before buf : List ℕ) (at : ℕ) → Answers (Err Missing) at buf file → IsPiece (Err unread.Missing) before file
missing (Some whole) before buf at a = absurd a
missing None before buf at a = refl

pub none_read : (file : Option (List ℕ)) → IsBeginning [] file
none_read (Some whole) = refl
none_read None = refl

pub taken : (more : Bool) (file : Option (List ℕ)) (so_far : List ℕ) → more ≡ true → IsPiece (Ok more) so_far file → IsBeginning so_far file
taken more file so_far e h = subst (λ z. IsPiece (Ok z) so_far file) e h

pub whole : (more : Bool) (file : Option (List ℕ)) (so_far : List ℕ) → more ≡ false → IsPiece (Ok more) so_far file → file ≡ Some so_far
whole more file so_far e h = subst (λ z. IsPiece (Ok z) so_far file) e h

abbrev fault_in : {T : Type 0} → Result T Unread → Unread
fault_in (Ok x) = unread.NoMemory
fault_in (Err fault) = fault

pub gone : {T : Type 0} (result : Result T Unread) (fault : Unread) (file : Option (List ℕ)) (so_far : List ℕ) → result ≡ Err fault → result ≡ Err unread.Missing → IsPiece (Err fault) so_far file → file ≡ None
gone result fault file so_far e m h = subst (λ z. IsPiece (Err z) so_far file) (ap fault_in (sym e ∙ m)) h
