-- Bodies that are taken over one by one.
use Rattle.std.proofs.Common.{ℕ, List, [], ◌∷◌, ◌≡◌, ◌++◌, ◌+◌, ◌<◌, ◌≤◌, sym, ◌∙◌, ap, subst, take, drop, length, get_or, Err}
use Rattle.std.proofs.lemmas.List.{append_assoc, map-append, take-append-drop, take_all, take_more}
use Rattle.at_base.specs.declared.record.Record.{Record}
use Rattle.journal_at.specs.declared.read.Placed.{Placed}
use Rattle.journal_at.specs.declared.version.Version.{Version}
use Rattle.journal_at.specs.declared.version.Version.TheVariants.{One, Two}
use Rattle.journal_at.specs.Frames.{bodies_of, body_of}
use Rattle.record_bytes.specs.Versions.{IsRecord}
use Rattle.decision_log.specs.declared.fold.FoldFault.{FoldFault}
use Rattle.decision_log.specs.declared.fold.FoldFault.TheVariants.{NoMemory, Bad}
use Rattle.decision_log.specs.declared.fold.Folding.{Folding}
use Rattle.decision_log.specs.Folds.{AreFolded, AreRecords, Finishes, FoldsAll, IsFolded, Takes, TakesOne, decided_after}
use Rattle.decision_log.specs.declared.kept.Kept.{Kept}
use Rattle.at_model.specs.Outcomes.{newest}
use Rattle.decision_log.specs.KeptState.{known}
use Rattle.decision_log.specs.KeptRecords.{after, unknown}
use Rattle.decision_log.proofs.LiveDecisions.{decided_push}
use Rattle.decision_log.proofs.RecordFolds.{grows_by_one}

pub none_taken : (version : Version) (f : Folding) → known f.kept ≡ unknown → f.decided.items ≡ [] → AreFolded version [] f
none_taken version f k d = record { all = []; are = tt; kept = k; decided = d }

pub records_push : (version : Version) (rs : List Record) (bodies : List (List ℕ)) (r : Record) (body : List ℕ) → AreRecords version rs bodies → IsRecord version r body → AreRecords version (rs ++ r ∷ []) (bodies ++ body ∷ [])
records_push version [] [] r body h k = (k, tt)
records_push version [] (b ∷ bodies) r body h k = absurd h
records_push version (x ∷ rs) [] r body h k = absurd h
records_push version (x ∷ rs) (b ∷ bodies) r body (h, l) k = (h, records_push version rs bodies r body l k)

pub bodies_more : (placed : List Placed) (i : ℕ) (d p : Placed) → i < length placed → p ≡ get_or placed i d → bodies_of (take (i + 1) placed) ≡ bodies_of (take i placed) ++ body_of p ∷ []
bodies_more placed i d p l e =
    ap bodies_of (take_more placed i d l) ∙ map-append body_of (take i placed) (get_or placed i d ∷ []) ∙ ap (λ x. bodies_of (take i placed) ++ body_of x ∷ []) (sym e)

pub one_more_taken : (version : Version) (placed : List Placed) (i : ℕ) (d p : Placed) (f g : Folding) → i < length placed → p ≡ get_or placed i d
    → Takes version (body_of p) f g → AreFolded version (bodies_of (take i placed)) f → AreFolded version (bodies_of (take (i + 1) placed)) g
one_more_taken version placed i d p f g l e t h = record {
  all = h.all ++ t.r ∷ [];
  are = subst (AreRecords version (h.all ++ t.r ∷ [])) (sym (bodies_more placed i d p l e)) (records_push version h.all (bodies_of (take i placed)) t.r (body_of p) h.are t.is);
  kept = t.kept ∙ ap (after t.r) h.kept ∙ grows_by_one h.all t.r;
  decided = t.decided ∙ ap (decided_after t.r) h.decided ∙ sym (decided_push h.all t.r);
}

pub all_taken : (version : Version) (placed : List Placed) (i : ℕ) (f : Folding) → length placed ≤ i → AreFolded version (bodies_of (take i placed)) f → AreFolded version (bodies_of placed) f
all_taken version placed i f l h = subst (λ ps. AreFolded version (bodies_of ps) f) (take_all i placed l) h

pub refused : (version : Version) (placed : List Placed) (i : ℕ) (d p : Placed) (f g : Folding) (fault : FoldFault) → i < length placed → p ≡ get_or placed i d
    → TakesOne (Err fault) version p f g → AreFolded version (bodies_of (take i placed)) f → FoldsAll (Err fault) version placed
refused version placed i d p f g NoMemory l e t h = tt
refused version placed i d p f g (Bad place) l e (none, at) h = record {
  front = take i placed;
  item = p;
  rest = drop (i + 1) placed;
  is = sym (take-append-drop (i + 1) placed) ∙ ap (λ z. z ++ drop (i + 1) placed) (take_more placed i d l ∙ ap (λ x. take i placed ++ x ∷ []) (sym e)) ∙ append_assoc (take i placed) (p ∷ []) (drop (i + 1) placed);
  before = h.all;
  are = h.are;
  none = none;
  at = at;
}

pub finished : (version : Version) (bodies others : List (List ℕ)) (f : Folding) (k : Kept) → bodies ≡ others → AreFolded version bodies f → Finishes version f k → IsFolded version others (known k)
finished Two bodies others f k e h g = record { all = h.all; are = subst (AreRecords Two h.all) e h.are; is = g ∙ h.kept }
finished One bodies others f k e h g = record {
  all = h.all;
  are = subst (AreRecords One h.all) e h.are;
  is = g ∙ (λ i. record { live = (h.kept i).live; start = (h.kept i).start; done = newest (h.decided i) });
}

pub bad : (version : Version) (placed others : List Placed) (fault : FoldFault) → placed ≡ others → FoldsAll (Err fault) version placed → FoldsAll (Err fault) version others
bad version placed others fault e h = subst (FoldsAll (Err fault) version) e h
