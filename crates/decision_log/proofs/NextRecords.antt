-- A record may stand behind any others.
use Rattle.std.proofs.Common.{ℕ, List, [], ◌∷◌, ◌≡◌, ◌≤◌, ◌++◌, None, length, refl, ap, subst, arith}
use Rattle.at_base.specs.declared.record.Record.{Record}
use Rattle.site_model.specs.Told.{Told}
use Rattle.journal_at.specs.declared.journal.Append.{Append}
use Rattle.journal_at.specs.declared.journal.Journal.{Journal}
use Rattle.journal_at.specs.declared.version.Version.TheVariants.{Two}
use Rattle.journal_at.specs.Format.{AreBodies, AreInPlace, AreListed, AreUnmarked, IsBody, frames, head_of, mark_of, marked}
use Rattle.journal_at.specs.StandingBodies.{MayBegin, MayFollow}
use Rattle.record_bytes.specs.Bytes.{bytes_of}
use Rattle.record_bytes.specs.Versions.{IsRecord}
use Rattle.decision_log.specs.AppendedRecords.{IsAppended}

sized_push : (bodies : List (List ℕ)) (body : List ℕ) → AreBodies bodies → IsBody body → AreBodies (bodies ++ body ∷ [])
sized_push [] body h k = (k, tt)
sized_push (b ∷ bodies) body (h, l) k = (h, sized_push bodies body l k)

unmarked_push : (bodies : List (List ℕ)) (body : List ℕ) → AreUnmarked bodies → mark_of body ≡ None → AreUnmarked (bodies ++ body ∷ [])
unmarked_push [] body h k = (k, tt)
unmarked_push (b ∷ bodies) body (h, l) k = (h, unmarked_push bodies body l k)

placed_push : (bodies : List (List ℕ)) (body : List ℕ) → AreInPlace bodies → mark_of body ≡ None → AreInPlace (bodies ++ body ∷ [])
placed_push [] body h k = tt
placed_push (b ∷ bodies) body h k = unmarked_push bodies body h k

same_generation : (bodies : List (List ℕ)) (body : List ℕ) → mark_of body ≡ None → (head_of (bodies ++ body ∷ [])).generation ≡ (head_of bodies).generation
same_generation [] body k = ap (λ m. (marked m).generation) k
same_generation (b ∷ bodies) body k = refl

-- a file whose last gate stands behind others has a body
begins : (bodies : List (List ℕ)) (body : List ℕ) (end : ℕ) → end ≡ length (frames bodies) → 1 ≤ end → MayBegin bodies body
begins [] body end e l = absurd (omega (arith, e, l))
begins (b ∷ bodies) body end e l = tt

pub may_follow : (bodies : List (List ℕ)) (body : List ℕ) (end : ℕ) → AreListed bodies → end ≡ length (frames bodies) → 1 ≤ end → IsBody body × (mark_of body ≡ None) → MayFollow bodies body
may_follow bodies body end h e least (k, l) = record {
  listed = record { sized = sized_push bodies body h.sized k; placed = placed_push bodies body h.placed l };
  generation = same_generation bodies body l;
  begins = begins bodies body end e least;
}

pub of_its_bytes : (a : Append) (r : Record) (body : List ℕ) (before after : Journal) (old new : Told) → IsRecord Two r body
    → IsAppended a r body before after old new → IsAppended a r (bytes_of r) before after old new
of_its_bytes a r body before after old new h k = subst (λ b. IsAppended a r b before after old new) h.is k
