-- Reference parameters are kept as a text in UTF-8.
use Rattle.std.proofs.Common.{◌≡◌, sym, subst, List, [], ℕ, IsUtf8}
use Rattle.std.proofs.lemmas.Str.{IsUtf8-nil}

pub nothing : IsUtf8 []
nothing = IsUtf8-nil

pub alone : (bytes text : List ℕ) → bytes ≡ text → IsUtf8 text → IsUtf8 bytes
alone bytes text e u = subst IsUtf8 (sym e) u
