-- Records that are read one by one.
use Rattle.std.proofs.Common.{ℕ, List, [], ◌∷◌, ◌≡◌, ◌++◌, ◌+◌, ◌<◌, ◌≤◌, sym, ◌∙◌, ap, subst, take, length, get_or}
use Rattle.std.proofs.lemmas.List.{map-append, take_all, take_more}
use Rattle.at_base.specs.declared.record.Record.{Record}
use Rattle.decision_log.specs.Folds.{AreRecords}
use Rattle.journal_at.specs.declared.read.Placed.{Placed}
use Rattle.journal_at.specs.declared.version.Version.{Version}
use Rattle.journal_at.specs.Frames.{bodies_of, body_of}
use Rattle.record_bytes.specs.Versions.{IsRecord}

push : (version : Version) (rs : List Record) (bodies : List (List ℕ)) (r : Record) (body : List ℕ) → AreRecords version rs bodies → IsRecord version r body → AreRecords version (rs ++ r ∷ []) (bodies ++ body ∷ [])
push version [] [] r body h k = (k, tt)
push version [] (b ∷ bodies) r body h k = absurd h
push version (x ∷ rs) [] r body h k = absurd h
push version (x ∷ rs) (b ∷ bodies) r body (h, l) k = (h, push version rs bodies r body l k)

more : (placed : List Placed) (i : ℕ) (d p : Placed) → i < length placed → p ≡ get_or placed i d → bodies_of (take (i + 1) placed) ≡ bodies_of (take i placed) ++ body_of p ∷ []
more placed i d p l e =
    ap bodies_of (take_more placed i d l) ∙ map-append body_of (take i placed) (get_or placed i d ∷ []) ∙ ap (λ x. bodies_of (take i placed) ++ body_of x ∷ []) (sym e)

pub one_more : (version : Version) (placed : List Placed) (i : ℕ) (d p : Placed) (body : List ℕ) (old new : List Record) (r : Record) → i < length placed → p ≡ get_or placed i d → body ≡ body_of p
    → IsRecord version r body → new ≡ old ++ r ∷ [] → AreRecords version old (bodies_of (take i placed)) → AreRecords version new (bodies_of (take (i + 1) placed))
one_more version placed i d p body old new r l e b k n h =
    subst (λ z. AreRecords version z (bodies_of (take (i + 1) placed))) (sym n)
    (subst (AreRecords version (old ++ r ∷ [])) (sym (more placed i d p l e)) (push version old (bodies_of (take i placed)) r (body_of p) h (subst (IsRecord version r) b k)))

pub all_read : (version other : Version) (placed : List Placed) (i : ℕ) (rs : List Record) (bodies : List (List ℕ)) → length placed ≤ i → version ≡ other → bodies_of placed ≡ bodies → AreRecords version rs (bodies_of (take i placed))
    → AreRecords other rs bodies
all_read version other placed i rs bodies l v e h =
    subst (λ z. AreRecords z rs bodies) v (subst (AreRecords version rs) (ap bodies_of (take_all i placed l) ∙ e) h)
