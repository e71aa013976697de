-- Bodies that are made one by one.
use Rattle.std.proofs.Common.{ℕ, zero, suc, List, [], ◌∷◌, ◌≡◌, ◌++◌, ◌+◌, ◌<◌, ◌≤◌, refl, sym, ◌∙◌, ap, subst, map, take, get_or, length, arith, Result, Ok, Err, OnOk, IfOk}
use Rattle.std.specs.List.{AllByRecursion}
use Rattle.std.proofs.lemmas.List.{append_assoc, append-nil, map-append, take_all, take_more}
use Rattle.at_base.specs.Numbers.{Numbers}
use Rattle.at_base.specs.WellFormed.{IsWellFormed}
use Rattle.at_base.specs.declared.record.Record.{Record}
use Rattle.at_base.specs.declared.record.Record.TheVariants as records
use Rattle.at_model.specs.Recovery.{live}
use Rattle.model_laws.specs.Compactions.{record_id}
use Rattle.model_laws.proofs.DrawnIds.{all_live}
use Rattle.journal_at.specs.Format.{AreBodies, AreUnmarked}
use Rattle.journal_at.specs.Compactions.{text_in, texts_in}
use Rattle.journal_at.specs.declared.body.Body.{Body}
use Rattle.journal_at.specs.declared.journal.Compact.{Compact}
use Rattle.journal_at.specs.declared.journal.Journal.{Journal}
use Rattle.site_model.specs.Told.{Told}
use Rattle.journal_at.specs.declared.version.Version.TheVariants.{Two}
use Rattle.record_bytes.specs.Versions.{AreBodies as RecordBodies, IsRecord}
use Rattle.decision_log.specs.Folds.{AreRecords}
use Rattle.decision_log.specs.KeptRecords.{IsKept, Known}
use Rattle.decision_log.specs.ShrunkJournals.{Adds, AreTexts, IsCompacted, shrunk, start_of, texts_of}
use Rattle.decision_log.proofs.Order.{all_in_order}
use Rattle.decision_log.proofs.FoldedBodies.{records_push}

pub one_more : (r : Record) (old new : List Body) (b : Body) → IsRecord Two r (text_in b) → new ≡ old ++ b ∷ [] → Adds (r ∷ []) old new
one_more r old new b h e = record {
  on = λ rs k.
      subst (AreRecords Two (rs ++ r ∷ [])) (sym (ap texts_in e ∙ map-append text_in old (b ∷ []))) (records_push Two rs (texts_in old) r (text_in b) k h);
}

pub none_added : (xs : List Record) (old : List Body) → Adds (take 0 xs) old old
none_added xs old = record { on = λ rs k. subst (λ z. AreTexts z old) (sym (append-nil rs)) k }

pub more_added : (xs : List Record) (i : ℕ) (d r : Record) (old mid new : List Body) → i < length xs → r ≡ get_or xs i d → Adds (r ∷ []) mid new → Adds (take i xs) old mid → Adds (take (i + 1) xs) old new
more_added xs i d r old mid new l e h k = record {
  on = λ rs t.
      subst (λ z. AreTexts z new) (append_assoc rs (take i xs) (r ∷ []) ∙ ap (λ z. rs ++ z) (ap (λ x. take i xs ++ x ∷ []) e ∙ sym (take_more xs i d l)))
      (h.on (rs ++ take i xs) (k.on rs t));
}

pub all_added : (xs : List Record) (i : ℕ) (old new : List Body) → length xs ≤ i → Adds (take i xs) old new → Adds xs old new
all_added xs i old new l h = subst (λ z. Adds z old new) (take_all i xs l) h

pub formed_at : (xs : List Record) (i : ℕ) (d r : Record) → i < length xs → r ≡ get_or xs i d → AllByRecursion IsWellFormed xs → IsWellFormed r
formed_at [] i d r l e h = absurd (omega (arith, l))
formed_at (x ∷ xs) zero d r l e h = subst IsWellFormed (sym e) h.0
formed_at (x ∷ xs) (suc i) d r l e h = formed_at xs i d r (omega (arith, l)) e h.1

-- outcomes
pub none_done : (ids : List Numbers) (old : List Body) → Adds (map records.Done (take 0 ids)) old old
none_done ids old = record { on = λ rs k. subst (λ z. AreTexts z old) (sym (append-nil rs)) k }

pub more_done : (ids : List Numbers) (i : ℕ) (d id : Numbers) (old mid new : List Body) → i < length ids → id ≡ get_or ids i d → Adds (records.Done id ∷ []) mid new
    → Adds (map records.Done (take i ids)) old mid → Adds (map records.Done (take (i + 1) ids)) old new
more_done ids i d id old mid new l e h k = record {
  on = λ rs t.
      let list : map records.Done (take i ids) ++ records.Done id ∷ [] ≡ map records.Done (take (i + 1) ids) =
      sym (map-append records.Done (take i ids) (id ∷ [])) ∙ ap (map records.Done) (ap (λ x. take i ids ++ x ∷ []) e ∙ sym (take_more ids i d l)) in
      subst (λ z. AreTexts z new) (append_assoc rs (map records.Done (take i ids)) (records.Done id ∷ []) ∙ ap (λ z. rs ++ z) list)
      (h.on (rs ++ map records.Done (take i ids)) (k.on rs t));
}

pub all_done : (ids : List Numbers) (i : ℕ) (old new : List Body) → length ids ≤ i → Adds (map records.Done (take i ids)) old new → Adds (map records.Done ids) old new
all_done ids i old new l h = subst (λ z. Adds (map records.Done z) old new) (take_all i ids l) h

pub no_start : (n : ℕ) (old : List Body) → n ≡ 0 → Adds (start_of n) old old
no_start zero old e = record { on = λ rs k. subst (λ z. AreTexts z old) (sym (append-nil rs)) k }
no_start (suc n) old e = absurd (omega (arith, e))

pub a_start : (n : ℕ) (old new : List Body) → (n ≡ 0 → ⊥) → Adds (records.Start n ∷ []) old new → Adds (start_of n) old new
a_start zero old new e h = absurd (e refl)
a_start (suc n) old new e h = h

pub all_three : (k : Known) (n : ℕ) (xs : List Record) (ids : List Numbers) (none one two three : List Body) → none ≡ [] → n ≡ k.start → xs ≡ k.live → ids ≡ k.done
    → Adds (start_of n) none one → Adds xs one two → Adds (map records.Done ids) two three → AreTexts (shrunk k) three
all_three k n xs ids none one two three z e f g a b c =
    let nothing : AreTexts [] none = subst (λ bs. AreTexts [] bs) (sym z) tt in
    subst (λ rs. AreTexts rs three)
    (append_assoc (start_of n) xs (map records.Done ids) ∙ (λ i. start_of (e i) ++ (f i ++ map records.Done (g i))))
    (c.on (start_of n ++ xs) (b.on (start_of n) (a.on [] nothing)))

-- the texts are those of the records
pub texts_are : (rs : List Record) (bodies : List Body) → AreTexts rs bodies → texts_in bodies ≡ texts_of rs
texts_are [] [] h = refl
texts_are [] (b ∷ bodies) h = absurd h
texts_are (r ∷ rs) [] h = absurd h
texts_are (r ∷ rs) (b ∷ bodies) (h, k) = λ i. h.is i ∷ texts_are rs bodies k i

pub bodies_sized : RecordBodies → (rs : List Record) (bodies : List (List ℕ)) → AreRecords Two rs bodies → AreBodies bodies
bodies_sized law [] [] h = tt
bodies_sized law [] (b ∷ bodies) h = absurd h
bodies_sized law (r ∷ rs) [] h = absurd h
bodies_sized law (r ∷ rs) (b ∷ bodies) (h, k) = ((law Two r b h).0, bodies_sized law rs bodies k)

pub bodies_unmarked : RecordBodies → (rs : List Record) (bodies : List (List ℕ)) → AreRecords Two rs bodies → AreUnmarked bodies
bodies_unmarked law [] [] h = tt
bodies_unmarked law [] (b ∷ bodies) h = absurd h
bodies_unmarked law (r ∷ rs) [] h = absurd h
bodies_unmarked law (r ∷ rs) (b ∷ bodies) (h, k) = ((law Two r b h).1, bodies_unmarked law rs bodies k)

-- what is kept of well-formed records is well-formed
pub live_formed : (k : Known) → IsKept k → AllByRecursion IsWellFormed k.live
live_formed k h =
    subst (λ (x : Known). AllByRecursion IsWellFormed x.live) (sym h.is)
    (all_in_order IsWellFormed record_id (live h.all) (all_live IsWellFormed h.all (λ id s ss t. t.0) h.formed))

pub on_ok : {T E : Type 0} (r : Result T E) (P : Type 0) → P → OnOk r P
on_ok (Ok x) P h = h
on_ok (Err e) P h = tt

pub texts_compacted : {E : Type 0} (rs : List Record) (bodies others : List Body) (r : Result Compact E) (before after : Journal) (old new : Told) → others ≡ bodies → AreTexts rs bodies
    → IfOk r (λ x. IsCompacted x (texts_in others) before after old new) → IfOk r (λ x. IsCompacted x (texts_of rs) before after old new)
texts_compacted rs bodies others r before after old new e h k =
    subst (λ t. IfOk r (λ x. IsCompacted x t before after old new)) (ap texts_in e ∙ texts_are rs bodies h) k
