-- What `audit` does: it reads its input, and prints what the journals in it say together.
use Rattle.std.specs.Prelude.{ℕ, List, [], ◌∷◌, Option, IsTrue, IfSome, length, nat_eq, ◌≡◌}
use Rattle.std.specs.Io.KnownBytes.{Appends}
use Rattle.std.specs.List.{list_any}
use Rattle.site_model.specs.Counts.{RisesBy}
use Rattle.audit_cmd.specs.Audits.{IsAudited, IsAuditedInPart}

-- of a source with this left, of which so much was given before and behind, and a sink with these contents
pub record HasAudited (left : Option (List ℕ)) (given given' : ℕ) (old new : Option (List ℕ)) (status : ℕ) : Type 0 where
  pub statuses : IsTrue (list_any (nat_eq status) (0 ∷ 3 ∷ 4 ∷ 5 ∷ 7 ∷ 9 ∷ 10 ∷ 13 ∷ 14 ∷ []))
  pub whole : IsTrue (list_any (nat_eq status) (0 ∷ 3 ∷ 5 ∷ 7 ∷ 13 ∷ 14 ∷ [])) → IfSome left (λ input. RisesBy (length input) given given')
  pub quiet : IsTrue (list_any (nat_eq status) (4 ∷ 9 ∷ 10 ∷ [])) → Appends old new []
  pub ended : IsTrue (list_any (nat_eq status) (0 ∷ 3 ∷ 7 ∷ 13 ∷ 14 ∷ [])) → IfSome left (λ input. IsAudited input old new status)
  pub cut : status ≡ 5 → IfSome left (λ input. IsAuditedInPart input old new)
