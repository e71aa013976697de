-- Which pairs of files are journals.
use Rattle.std.proofs.Common.{ℕ, List, zero, suc, [], ◌∷◌, length, ◌≡◌, ◌≢◌, ◌++◌, ◌+◌, ◌-◌, ◌<◌, ◌≤◌, refl, sym, ◌∙◌, ap, subst, replicate, arith}
use Rattle.std.proofs.lemmas.List.{length-append, length-replicate, length-take, length-drop}
use Rattle.std.specs.Int.{to_be_bytes, w32}
use Rattle.site_model.specs.Told.{Files, TornIn, file_of, other_than, with_file, written}
use Rattle.journal_at.specs.Format.{behind, frames, head_of}
use Rattle.journal_at.specs.Pairs.{AreNew, IsJournal}
use Rattle.journal_at.specs.StandingBodies.{MayBegin}
use Rattle.journal_at.proofs.Frames.{four}

pub journal_of : (bodies : List (List ℕ)) (c : Files) → (bodies ≡ [] → AreNew c) → IsJournal bodies c
journal_of [] c h = h refl
journal_of (body ∷ bodies) c h = tt

pub journal_some : (bodies : List (List ℕ)) (c : Files) → bodies ≢ [] → IsJournal bodies c
journal_some bodies c h = journal_of bodies c (λ none. absurd (h none))

pub journal_more : (bodies : List (List ℕ)) (body : List ℕ) (c : Files) → IsJournal (bodies ++ body ∷ []) c
journal_more [] body c = tt
journal_more (other ∷ bodies) body c = tt

pub journal_marked : (bodies : List (List ℕ)) (c : Files) → 0 < (head_of bodies).generation → IsJournal bodies c
journal_marked [] c l = absurd (omega (arith, l))
journal_marked (body ∷ bodies) c l = tt

-- a file whose last gate stands behind others has a body
pub some_before : (bodies : List (List ℕ)) (end : ℕ) → end ≡ length (frames bodies) → 1 ≤ end → bodies ≢ []
some_before bodies end e l none = absurd (omega (arith, l, e, ap (λ z. length (frames z)) none))

-- a write that ends within what a new journal may have
pub written_short : (at : ℕ) (bytes f : List ℕ) → at + length bytes ≤ 11 → length f ≤ 11 → length (written at bytes f) ≤ 11
written_short at bytes f l h = grind (arith, length-append, length-replicate {A = ℕ} (at - length f) 0, length-take, length-drop, l, h)

new_torn : (w at n : ℕ) (d c : Files) → at + n ≤ 11 → TornIn w at n d c → AreNew d → AreNew c
new_torn zero at n d c l t h = record { first = omega (arith, l, h.first, t.torn.no_longer); second = subst (λ z. length z ≤ 11) (sym t.kept) h.second }
new_torn (suc w) at n d c l t h = record { first = subst (λ z. length z ≤ 11) (sym t.kept) h.first; second = omega (arith, l, h.second, t.torn.no_longer) }

pub journal_torn : (bodies : List (List ℕ)) (w at n : ℕ) (d c : Files) → (bodies ≡ [] → at + n ≤ 11) → TornIn w at n d c → IsJournal bodies d → IsJournal bodies c
journal_torn [] w at n d c l t h = new_torn w at n d c (l refl) t h
journal_torn (body ∷ bodies) w at n d c l t h = tt

new_written : (w at : ℕ) (bytes : List ℕ) (d : Files) → at + length bytes ≤ 11 → AreNew d → AreNew (with_file w (written at bytes) d)
new_written zero at bytes d l h = record { first = written_short at bytes d.first l h.first; second = h.second }
new_written (suc w) at bytes d l h = record { first = h.first; second = written_short at bytes d.second l h.second }

pub journal_written : (bodies : List (List ℕ)) (w at : ℕ) (bytes : List ℕ) (d : Files) → (bodies ≡ [] → at + length bytes ≤ 11) → IsJournal bodies d → IsJournal bodies (with_file w (written at bytes) d)
journal_written [] w at bytes d l h = new_written w at bytes d (l refl) h
journal_written (body ∷ bodies) w at bytes d l h = tt

-- the first body of a file is laid within that
pub lays_short : (bodies : List (List ℕ)) (body : List ℕ) (end : ℕ) → end ≡ length (frames bodies) → MayBegin bodies body → bodies ≡ [] → (end + 1) + length (behind body ++ (0 ∷ [])) ≤ 11
lays_short bodies body end e may none =
    let h : length body ≤ 5 = subst (λ z. MayBegin z body) none may in
    let k = length-append (behind body) (0 ∷ []) in
    let n = length-append (to_be_bytes w32 (length body)) body in
    omega (arith, h, k, n, four (length body), e, ap (λ z. length (frames z)) none)

pub raises_short : (bodies : List (List ℕ)) (end : ℕ) → end ≡ length (frames bodies) → bodies ≡ [] → end + 1 ≤ 11
raises_short bodies end e none = omega (arith, e, ap (λ z. length (frames z)) none)

-- one file is as it was, and the other is short
pub new_beside : (w : ℕ) (d c : Files) → length (file_of w c) ≤ 11 → other_than w c ≡ other_than w d → AreNew d → AreNew c
new_beside zero d c l kept h = record { first = l; second = subst (λ z. length z ≤ 11) (sym kept) h.second }
new_beside (suc w) d c l kept h = record { first = subst (λ z. length z ≤ 11) (sym kept) h.first; second = l }

pub new_live : (w : ℕ) (c : Files) → AreNew c → length (file_of w c) ≤ 11
new_live zero c h = h.first
new_live (suc w) c h = h.second

-- one file is as it was, and the other has at most one byte
pub journal_short : (bodies : List (List ℕ)) (d c : Files) → length c.first ≤ 1 → c.second ≡ d.second → IsJournal bodies d → IsJournal bodies c
journal_short [] d c l kept h = record { first = omega (arith, l); second = subst (λ z. length z ≤ 11) (sym kept) h.second }
journal_short (body ∷ bodies) d c l kept h = tt
