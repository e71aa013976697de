-- Records of a journal, and the bodies that hold them.
use Rattle.std.proofs.Common.{ℕ, List, Bool, Option, Some, None, true, false, [], ◌∷◌, ◌++◌, ◌≡◌, ◌<◌, cond, length, nat_eq, nat_lt, refl, sym, ◌∙◌, ap, arith, rules}
use Rattle.std.proofs.lemmas.Bool.{ltb-true}
use Rattle.std.proofs.lemmas.List.{length-append}
use Rattle.std.specs.Int.{from_be_bytes, to_be_bytes, w32}
use Rattle.std.specs.List.{AllByRecursion}
use Rattle.at_base.specs.WellFormed.{IsWellFormed}
use Rattle.at_base.specs.declared.record.Record.{Record}
use Rattle.decision_log.specs.Folds.{AreRecords}
use Rattle.decision_log.specs.ShrunkJournals.{texts_of}
use Rattle.journal_at.specs.declared.journal.Journal.{Journal}
use Rattle.journal_at.specs.declared.version.Version.{Version}
use Rattle.journal_at.specs.declared.version.Version.TheVariants.{One, Two}
use Rattle.journal_at.specs.Format.{AreBodies, AreListed, AreUnmarked, IsBody, Mark, behind, frames, head_of, mark_body, mark_of, marked, old_mark, records_of, without}
use Rattle.record_bytes.specs.Bytes.{bytes_of}
use Rattle.record_bytes.specs.Versions.{IsRecord}
use Rattle.record_bytes.specs.Versions.{AreBodies as RecordsAreBodies}
use Rattle.site_model.specs.Told.{Told}
use Rattle.node_at.specs.Sizes.{end_of, framed_all}
use Rattle.node_at.specs.Starts.{IsOpen}

pub are_more : (version : Version) (rs : List Record) (xs : List (List ℕ)) (r : Record) (b : List ℕ) → AreRecords version rs xs → IsRecord version r b
    → AreRecords version (rs ++ r ∷ []) (xs ++ b ∷ [])
are_more version [] [] r b h k = (k, tt)
are_more version [] (x ∷ xs) r b h k = absurd h
are_more version (s ∷ rs) [] r b h k = absurd h
are_more version (s ∷ rs) (x ∷ xs) r b h k = (h.0, are_more version rs xs r b h.1 k)

pub are_texts : (version : Version) (rs : List Record) (xs : List (List ℕ)) → AreRecords version rs xs → xs ≡ texts_of rs
are_texts version [] [] h = refl
are_texts version [] (x ∷ xs) h = absurd h
are_texts version (s ∷ rs) [] h = absurd h
are_texts version (s ∷ rs) (x ∷ xs) h = λ i. h.0.is i ∷ are_texts version rs xs h.1 i

pub are_formed : (version : Version) (rs : List Record) (xs : List (List ℕ)) → AreRecords version rs xs → AllByRecursion IsWellFormed rs
are_formed version [] [] h = tt
are_formed version [] (x ∷ xs) h = absurd h
are_formed version (s ∷ rs) [] h = absurd h
are_formed version (s ∷ rs) (x ∷ xs) h = (h.0.formed, are_formed version rs xs h.1)

pub are_none : (version : Version) (rs : List Record) → AreRecords version rs [] → rs ≡ []
are_none version [] h = refl
are_none version (s ∷ rs) h = absurd h

-- a file of version 2 begins with a mark
pub record Begun (bodies : List (List ℕ)) : Type 0 where
  pub first : List ℕ
  pub rest : List (List ℕ)
  pub mark : Mark
  pub is : bodies ≡ first ∷ rest
  pub marks : mark_of first ≡ Some mark

by_mark : (o : Option Mark) (first : List ℕ) (rest : List (List ℕ)) → mark_of first ≡ o → (marked o).version ≡ Two → Begun (first ∷ rest)
by_mark (Some mark) first rest e v = record { first = first; rest = rest; mark = mark; is = refl; marks = e }
by_mark None first rest e v = absurd (search (rules, v))

pub begun : (bodies : List (List ℕ)) → (head_of bodies).version ≡ Two → Begun bodies
begun [] v = absurd (search (rules, v))
begun (first ∷ rest) v = by_mark (mark_of first) first rest refl v

unmarked_more : (rest : List (List ℕ)) (b : List ℕ) → AreUnmarked rest → mark_of b ≡ None → AreUnmarked (rest ++ b ∷ [])
unmarked_more [] b h e = (e, tt)
unmarked_more (x ∷ rest) b h e = (h.0, unmarked_more rest b h.1 e)

bodies_more : (bodies : List (List ℕ)) (b : List ℕ) → AreBodies bodies → IsBody b → AreBodies (bodies ++ b ∷ [])
bodies_more [] b h k = (k, tt)
bodies_more (x ∷ rest) b h k = (h.0, bodies_more rest b h.1 k)

pub listed_more : (first : List ℕ) (rest : List (List ℕ)) (b : List ℕ) → AreListed (first ∷ rest) → IsBody b → mark_of b ≡ None → AreListed ((first ∷ rest) ++ b ∷ [])
listed_more first rest b h k e = record { sized = bodies_more (first ∷ rest) b h.sized k; placed = unmarked_more rest b h.placed e }

pub records_more : (first : List ℕ) (rest : List (List ℕ)) (mark : Mark) (b : List ℕ) → mark_of first ≡ Some mark
    → records_of ((first ∷ rest) ++ b ∷ []) ≡ records_of (first ∷ rest) ++ b ∷ []
records_more first rest mark b e =
    ap (λ o. without o first (rest ++ b ∷ [])) e ∙ sym (ap (λ o. without o first rest ++ b ∷ []) e)

-- the bytes of records
pub frames_long : (rs : List Record) → length (frames (texts_of rs)) ≡ framed_all rs
frames_long [] = refl
frames_long (r ∷ rs) =
    let k = length-append (behind (bytes_of r)) (frames (texts_of rs)) in
    let l = length-append (to_be_bytes w32 (length (bytes_of r))) (bytes_of r) in
    let four : length (to_be_bytes w32 (length (bytes_of r))) ≡ 4 = search rules in
    let h = frames_long rs in
    omega (arith, k, l, four, h)

pub mark_long : (m : List ℕ) (mark : Mark) → mark_of m ≡ Some mark → length m ≡ 5
mark_long [] mark e = absurd (search (rules, e))
mark_long (a ∷ []) mark e = absurd (search (rules, e))
mark_long (a ∷ b ∷ []) mark e = absurd (search (rules, e))
mark_long (a ∷ b ∷ c ∷ []) mark e = absurd (search (rules, e))
mark_long (a ∷ b ∷ c ∷ d ∷ []) mark e = absurd (search (rules, e))
mark_long (a ∷ b ∷ c ∷ d ∷ x ∷ []) mark e = refl
mark_long (a ∷ b ∷ c ∷ d ∷ x ∷ y ∷ rest) mark e = absurd (search (rules, e))

pub end_is : (bodies : List (List ℕ)) (rs : List Record) → (head_of bodies).version ≡ Two → AreRecords Two rs (records_of bodies) → length (frames bodies) ≡ end_of rs
end_is bodies rs v are =
    let m = begun bodies v in
    let rest : m.rest ≡ texts_of rs = sym (ap (λ o. without o m.first m.rest) m.marks) ∙ sym (ap records_of m.is) ∙ are_texts Two rs (records_of bodies) are in
    let five = mark_long m.first m.mark m.marks in
    let a = ap (λ z. length (frames z)) m.is in
    let b = ap (λ z. length (frames z)) rest ∙ frames_long rs in
    let k = length-append (behind m.first) (frames m.rest) in
    let l = length-append (to_be_bytes w32 (length m.first)) m.first in
    let four : length (to_be_bytes w32 (length m.first)) ≡ 4 = search rules in
    omega (arith, a, b, k, l, four, five)

pub open_end : (rs : List Record) (j : Journal) (s : Told) → IsOpen Two rs j s → j.end ≡ end_of rs
open_end rs j s o = o.keeps.end ∙ end_is o.bodies rs o.of o.are

-- a generation of version 1 isn't the last number
old_small : (g : ℕ) (c d : Bool) → nat_lt 0 g ≡ c → nat_lt g 4294967295 ≡ d
    → (marked (cond c (cond d (Some (record { version = One; generation = g })) None) None)).generation < 4294967295
old_small g true true e f = ltb-true g 4294967295 f
old_small g true false e f = omega arith
old_small g false d e f = omega arith

by_tag : (tag g : ℕ) (c d : Bool) → (marked (cond c (Some (record { version = Two; generation = g })) (cond d (old_mark g) None))).version ≡ One
    → (marked (cond c (Some (record { version = Two; generation = g })) (cond d (old_mark g) None))).generation < 4294967295
by_tag tag g true d v = absurd (search (rules, v))
by_tag tag g false true v = old_small g (nat_lt 0 g) (nat_lt g 4294967295) refl refl
by_tag tag g false false v = omega arith

by_first : (m : List ℕ) → (marked (mark_of m)).version ≡ One → (marked (mark_of m)).generation < 4294967295
by_first [] e = omega arith
by_first (a ∷ []) e = omega arith
by_first (a ∷ b ∷ []) e = omega arith
by_first (a ∷ b ∷ c ∷ []) e = omega arith
by_first (a ∷ b ∷ c ∷ d ∷ []) e = omega arith
by_first (a ∷ b ∷ c ∷ d ∷ x ∷ []) e = by_tag a (from_be_bytes w32 (b ∷ c ∷ d ∷ x ∷ [])) (nat_eq a 11) (nat_eq a 9) e
by_first (a ∷ b ∷ c ∷ d ∷ x ∷ y ∷ rest) e = omega arith

pub old_generation : (bodies : List (List ℕ)) → (head_of bodies).version ≡ One → (head_of bodies).generation < 4294967295
old_generation [] v = omega arith
old_generation (m ∷ rest) v = by_first m v

-- the bodies of records stand behind a mark
new_bodies : (rs : List Record) (xs : List (List ℕ)) → RecordsAreBodies → AreRecords Two rs xs → AreBodies xs × AreUnmarked xs
new_bodies [] [] law h = (tt, tt)
new_bodies [] (x ∷ xs) law h = absurd h
new_bodies (r ∷ rs) [] law h = absurd h
new_bodies (r ∷ rs) (x ∷ xs) law h =
    let k = law Two r x h.0 in
    let more = new_bodies rs xs law h.1 in
    ((k.0, more.0), (k.1, more.1))

pub new_listed : (g : ℕ) (rs : List Record) (xs : List (List ℕ)) → RecordsAreBodies → AreRecords Two rs xs → AreListed (mark_body g ∷ xs)
new_listed g rs xs law h =
    let k = new_bodies rs xs law h in
    record { sized = (record { least = omega arith; most = omega arith }, k.0); placed = k.1 }
