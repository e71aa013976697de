-- Where the last gate of a file of version 2 stands: behind a mark, and then the records.
use Rattle.std.specs.Prelude.{ℕ, List, [], ◌∷◌, ◌≡◌, None, Option, Some, length}
use Rattle.std.specs.Int.{to_be_bytes, w32}
use Rattle.std.proofs.Common.{refl, ap, arith, rules, ◌∙◌}
use Rattle.std.proofs.lemmas.List.{length-append}
use Rattle.at_base.specs.declared.record.Record.{Record}
use Rattle.decision_log.specs.Folds.{AreRecords}
use Rattle.journal_at.specs.Format.{Mark, behind, frames, head_of, mark_of, marked, records_of, without}
use Rattle.journal_at.specs.declared.version.Version.TheVariants.{Two}
use Rattle.journal_at.proofs.Frames.{four}
use Rattle.node_at.specs.Sizes.{end_of, framed_all}

-- it begins with a mark
pub record Begun (bodies : List (List ℕ)) : Type 0 where
  pub first : List ℕ
  pub rest : List (List ℕ)
  pub mark : Mark
  pub is : bodies ≡ first ∷ rest
  pub marks : mark_of first ≡ Some mark

by_mark : (o : Option Mark) (first : List ℕ) (rest : List (List ℕ)) → mark_of first ≡ o → (marked o).version ≡ Two → Begun (first ∷ rest)
by_mark (Some mark) first rest e v = record { first = first; rest = rest; mark = mark; is = refl; marks = e }
by_mark None first rest e v = absurd (search (rules, v))

pub begun : (bodies : List (List ℕ)) → (head_of bodies).version ≡ Two → Begun bodies
begun [] v = absurd (search (rules, v))
begun (first ∷ rest) v = by_mark (mark_of first) first rest refl v

pub mark_long : (m : List ℕ) (mark : Mark) → mark_of m ≡ Some mark → length m ≡ 5
mark_long [] mark e = absurd (search (rules, e))
mark_long (a ∷ []) mark e = absurd (search (rules, e))
mark_long (a ∷ b ∷ []) mark e = absurd (search (rules, e))
mark_long (a ∷ b ∷ c ∷ []) mark e = absurd (search (rules, e))
mark_long (a ∷ b ∷ c ∷ d ∷ []) mark e = absurd (search (rules, e))
mark_long (a ∷ b ∷ c ∷ d ∷ x ∷ []) mark e = refl
mark_long (a ∷ b ∷ c ∷ d ∷ x ∷ y ∷ rest) mark e = absurd (search (rules, e))

records_long : (rs : List Record) (texts : List (List ℕ)) → AreRecords Two rs texts → length (frames texts) ≡ framed_all rs
records_long [] [] h = refl
records_long [] (t ∷ texts) h = absurd h
records_long (r ∷ rs) [] h = absurd h
records_long (r ∷ rs) (t ∷ texts) (h, more) =
    let k = length-append (behind t) (frames texts) in
    let l = length-append (to_be_bytes w32 (length t)) t in
    let m = four (length t) in
    let n = records_long rs texts more in
    let o = ap length h.is in
    omega (arith, k, l, m, n, o)

-- where its last gate stands
pub end_is : (bodies : List (List ℕ)) (rs : List Record) → (head_of bodies).version ≡ Two → AreRecords Two rs (records_of bodies) → length (frames bodies) ≡ end_of rs
end_is bodies rs v are =
    let m = begun bodies v in
    let rest : records_of bodies ≡ m.rest = ap records_of m.is ∙ ap (λ o. without o m.first m.rest) m.marks in
    let five = mark_long m.first m.mark m.marks in
    let a = ap (λ z. length (frames z)) m.is in
    let b = records_long rs (records_of bodies) are in
    let c = ap (λ z. length (frames z)) rest in
    let k = length-append (behind m.first) (frames m.rest) in
    let l = length-append (to_be_bytes w32 (length m.first)) m.first in
    let n = four (length m.first) in
    omega (arith, a, b, c, k, l, n, five)
