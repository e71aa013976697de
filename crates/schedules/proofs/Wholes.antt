-- A text that is read is what is written of its lines, and these are a schedule.
use Rattle.std.proofs.Common.{ℕ, ◌==◌, List, [], ◌∷◌, ◌++◌, ◌≡◌, ◌⊎◌, inl, inr, ◌≤◌, ◌+◌, nat_lt, not, Bool, true, false, cond, Result, Ok, Err, IfOk, sym, ◌∙◌, ap, arith, refl, subst, bytes_eq, codes, length, map}
use Rattle.std.specs.Prelude.{flat_map}
use Rattle.std.specs.List.{AllByRecursion, join_with_byte, slice_split}
use Rattle.std.proofs.lemmas.List.{append_assoc, append-nil}
use Rattle.std.proofs.lemmas.List.Splits.{join_with_byte-slice_split}
use Rattle.std.proofs.lemmas.Slice.Eq.{bytes_eq-Decides}
use Rattle.std.proofs.lemmas.Bool.Decides.{nat_tests}
use Rattle.schedules.specs.declared.line.BadLine.{BadLine}
use Rattle.schedules.specs.declared.line.Cause.{Cause}
use Rattle.schedules.specs.declared.line.Cause.TheVariants as causes
use Rattle.schedules.specs.declared.line.Line.{Line}
use Rattle.schedules.specs.declared.line.Line.TheVariants as lines
use Rattle.schedules.specs.Meanings.{◌>>=◌, count_of, meaning}
use Rattle.schedules.specs.Schedules.{at_line, first_line, first_words, lines_from, next_line, next_words, schedule_in, schedule_of}
use Rattle.schedules.specs.Words.{ended, is_plain, lines_of, words_of}
use Rattle.schedules.specs.LineTexts.{IsNext, IsNode, IsSchedule, line_text, words_in, written}
use Rattle.schedules.proofs.Bounds.{count_read, meaning_read}

joined : (text : List ℕ) (l : Line) → words_of text ≡ words_in l → text ≡ line_text l
joined text l e = sym (join_with_byte-slice_split 32 text) ∙ ap (join_with_byte 32) e

next_read : (nodes : ℕ) (ws : List (List ℕ)) (l : Line) → next_words nodes ws ≡ Ok l → IsNext nodes l × (ws ≡ words_in l)
next_read nodes [] l e = absurd cc
next_read nodes (w ∷ rest) l e = by_case (bytes_eq w (codes "nodes")) e
  where
    by_case : (b : Bool) → cond b (Err causes.Nodes) (meaning nodes w rest) ≡ Ok l → IsNext nodes l × (w ∷ rest ≡ words_in l)
    by_case true e = absurd cc
    by_case false e = let r = meaning_read nodes w rest l e in (r.next, r.text)

record IsLine (nodes number : ℕ) (text : List ℕ) (l : Line) : Type 0 where
  next : IsNext nodes l
  text_is : text ≡ line_text l
  few : number ≤ 10000

line_read : (nodes number : ℕ) (text : List ℕ) (l : Line) → next_line nodes number text ≡ Ok l → IsLine nodes number text l
line_read nodes number text l e = by_case (is_plain text) (nat_lt 10000 number) refl e
  where
    by_case : (p q : Bool) → nat_lt 10000 number ≡ q
        → cond (not p) (Err causes.Unprintable) (cond q (Err causes.TooManyLines) (next_words nodes (words_of text))) ≡ Ok l
        → IsLine nodes number text l
    by_case false q f e = absurd cc
    by_case true true f e = absurd cc
    by_case true false f e =
        let r = next_read nodes (words_of text) l e in
        record { next = r.0; text_is = joined text l r.1; few = grind (arith, nat_tests, f) }

first_read : (ws : List (List ℕ)) (n : ℕ) → first_words ws ≡ Ok n → IsNode 8 n × (ws ≡ words_in (lines.Nodes n))
first_read [] n e = absurd cc
first_read (w ∷ rest) n e = by_case (bytes_eq w (codes "nodes")) refl e
  where
    by_case : (b : Bool) → bytes_eq w (codes "nodes") ≡ b → cond b (count_of rest) (Err causes.Nodes) ≡ Ok n
        → IsNode 8 n × (w ∷ rest ≡ words_in (lines.Nodes n))
    by_case true p e =
        let r = count_read rest n e in
        let word = (bytes_eq-Decides w (codes "nodes")).0 p in
        (r.0, λ j. word j ∷ r.1 j)
    by_case false p e = absurd cc

count_line : (text : List ℕ) (n : ℕ) → first_line text ≡ Ok n → IsNode 8 n × (text ≡ line_text (lines.Nodes n))
count_line text n e = by_case (is_plain text) e
  where
    by_case : (p : Bool) → cond (not p) (Err causes.Unprintable) (first_words (words_of text)) ≡ Ok n
        → IsNode 8 n × (text ≡ line_text (lines.Nodes n))
    by_case false e = absurd cc
    by_case true e = let r = first_read (words_of text) n e in (r.0, joined text (lines.Nodes n) r.1)

pub placed : {A : Type 0} (number : ℕ) (r : Result A Cause) (x : A) → at_line number r ≡ Ok x → r ≡ Ok x
placed number (Ok y) x e = let here : y ≡ x = cc in ap Ok here
placed number (Err c) x e = absurd cc

pub record Gives {A B : Type 0} (first : Result A BadLine) (next : A → Result B BadLine) (x : B) : Type 0 where
  pub value : A
  pub read : first ≡ Ok value
  pub rest : next value ≡ Ok x

pub gives : {A B : Type 0} (first : Result A BadLine) (next : A → Result B BadLine) (x : B) → (first >>= next) ≡ Ok x → Gives first next x
gives (Ok a) next x e = record { value = a; read = refl; rest = e }
gives (Err b) next x e = absurd cc

pub same_lines : {A : Type 0} (x y : A) → ◌≡◌ {A = Result A BadLine} (Ok x) (Ok y) → x ≡ y
same_lines x y e = cc

record AreLines (nodes number : ℕ) (texts : List (List ℕ)) (ls : List Line) : Type 0 where
  next : AllByRecursion (IsNext nodes) ls
  texts_are : texts ≡ map line_text ls
  few : number ≤ 10001 → number + length ls ≤ 10001

lines_read : (nodes number : ℕ) (texts : List (List ℕ)) (ls : List Line) → lines_from nodes number texts ≡ Ok ls → AreLines nodes number texts ls
lines_read nodes number [] ls e = subst (AreLines nodes number []) (same_lines [] ls e) (record { next = tt; texts_are = refl; few = λ h. omega (arith, h) })
lines_read nodes number (t ∷ ts) ls e =
    let b = gives (at_line number (next_line nodes number t)) _ ls e in
    let d = gives (lines_from nodes (number + 1) ts) _ ls b.rest in
    let l = line_read nodes number t b.value (placed number (next_line nodes number t) b.value b.read) in
    let m = lines_read nodes (number + 1) ts d.value d.read in
    subst (AreLines nodes number (t ∷ ts)) (same_lines (b.value ∷ d.value) ls d.rest) (record {
      next = (l.next, m.next);
      texts_are = λ j. l.text_is j ∷ m.texts_are j;
      few = λ h. let k = m.few (omega (arith, l.few)) in omega (arith, k);
    })

pub schedule_read : (texts : List (List ℕ)) (ls : List Line) → schedule_in texts ≡ Ok ls → IsSchedule ls × (texts ≡ map line_text ls)
schedule_read [] ls e = absurd cc
schedule_read (t ∷ ts) ls e =
    let b = gives (at_line 1 (first_line t)) _ ls e in
    let d = gives (lines_from b.value 2 ts) _ ls b.rest in
    let l = count_line t b.value (placed 1 (first_line t) b.value b.read) in
    let m = lines_read b.value 2 ts d.value d.read in
    subst (λ xs. IsSchedule xs × (t ∷ ts ≡ map line_text xs)) (same_lines (lines.Nodes b.value ∷ d.value) ls d.rest)
    ((l.0, m.next, (let k = m.few (omega arith) in omega (arith, k))), λ j. l.1 j ∷ m.texts_are j)

abbrev pub fed : List (List ℕ) → List ℕ
fed texts = flat_map (λ t. t ++ 10 ∷ []) texts

pub fed_written : (ls : List Line) → fed (map line_text ls) ≡ written ls
fed_written [] = refl
fed_written (l ∷ ls) = ap (λ x. (line_text l ++ 10 ∷ []) ++ x) (fed_written ls)

pub fed_ended : (parts : List (List ℕ)) → (join_with_byte 10 parts ≡ fed (ended parts)) ⊎ (join_with_byte 10 parts ++ 10 ∷ [] ≡ fed (ended parts))
fed_ended [] = inl refl
fed_ended ([] ∷ []) = inl refl
fed_ended ((c ∷ cs) ∷ []) = inr (sym (append-nil ((c ∷ cs) ++ 10 ∷ [])))
fed_ended (x ∷ y ∷ more) = elim (fed_ended (y ∷ more)) [
  | inl h ↦ inl (ap (λ t. x ++ 10 ∷ t) h ∙ sym (append_assoc x (10 ∷ []) (fed (ended (y ∷ more)))))
  | inr h ↦ inr (append_assoc x (10 ∷ join_with_byte 10 (y ∷ more)) (10 ∷ [])
      ∙ (ap (λ t. x ++ 10 ∷ t) h ∙ sym (append_assoc x (10 ∷ []) (fed (ended (y ∷ more))))))
]

pub is_written : (text : List ℕ) (ls : List Line) → schedule_of text ≡ Ok ls → (text ≡ written ls) ⊎ (text ++ 10 ∷ [] ≡ written ls)
is_written text ls e =
    let r = schedule_read (lines_of text) ls e in
    let last = ap fed r.1 ∙ fed_written ls in
    let whole = join_with_byte-slice_split 10 text in
    elim (fed_ended (slice_split (λ b. b == 10) text)) [
      | inl h ↦ inl (sym whole ∙ (h ∙ last))
      | inr h ↦ inr (ap (λ t. t ++ 10 ∷ []) (sym whole) ∙ (h ∙ last))
    ]

pub is_schedule : {E : Type 0} (text : List ℕ) (r : Result (List Line) E) → IfOk r (λ ls. schedule_of text ≡ Ok ls) → IfOk r IsSchedule
is_schedule text (Ok ls) e = (schedule_read (lines_of text) ls e).0
is_schedule text (Err x) e = tt
