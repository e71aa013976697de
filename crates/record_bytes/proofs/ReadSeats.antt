-- Seats that are read one by one.
use Rattle.std.proofs.Common.{ℕ, suc, List, [], ◌∷◌, ◌≡◌, ◌++◌, ◌+◌, ◌-◌, ◌<◌, ◌≤◌, refl, sym, ◌∙◌, ap, arith, Some, None, Err}
use Rattle.std.proofs.lemmas.List.{append_assoc, append-nil}
use Rattle.at_base.specs.declared.record.Seated.{Seated}
use Rattle.record_bytes.specs.declared.cursor.ReadFault.{ReadFault}
use Rattle.record_bytes.specs.declared.cursor.ReadFault.TheVariants.{NoMemory, Misspelled}
use Rattle.record_bytes.specs.RecordReaders.{Reads, Taken, each_in, seat_in, ◌>>=◌}

abbrev pub in_front : List Seated → Taken (List Seated) → Taken (List Seated)
in_front front None = None
in_front front (Some (more, rest)) = Some (front ++ more, rest)

-- of so many, these were read
pub record AreRead (count i : ℕ) (front : List Seated) (start rest : List ℕ) : Type 0 where
  pub few : i ≤ count
  pub is : each_in count start ≡ in_front front (each_in (count - i) rest)

twice : (front : List Seated) (s : Seated) (said : Taken (List Seated)) → in_front front (said >>= (λ x. Some (s ∷ x.0, x.1))) ≡ in_front (front ++ s ∷ []) said
twice front s None = refl
twice front s (Some (more, rest)) = ap (λ z. Some (z, rest)) (sym (append_assoc front (s ∷ []) more))

pub read_none : (count : ℕ) (start : List ℕ) → AreRead count 0 [] start start
read_none count start =
    let whole : count - 0 ≡ count = omega arith in
    record { few = omega arith; is = sym (same (each_in count start)) ∙ ap (λ n. in_front [] (each_in n start)) (sym whole) } where
      same : (said : Taken (List Seated)) → in_front [] said ≡ said
      same None = refl
      same (Some (more, rest)) = refl

first_of : (n : ℕ) (rest : List ℕ) → each_in (suc n) rest ≡ (seat_in rest >>= (λ s. each_in n s.1 >>= (λ x. Some (s.0 ∷ x.0, x.1))))
first_of n rest = refl

pub read_more : (count i : ℕ) (front items : List Seated) (s : Seated) (start rest more : List ℕ) → i < count
    → seat_in rest ≡ Some (s, more) → items ≡ front ++ s ∷ [] → AreRead count i front start rest → AreRead count (i + 1) items start more
read_more count i front items s start rest more l e k h =
    let down : count - i ≡ suc (count - (i + 1)) = omega (arith, l) in
    let next : each_in (count - i) rest ≡ (each_in (count - (i + 1)) more >>= (λ x. Some (s ∷ x.0, x.1))) =
    ap (λ n. each_in n rest) down ∙ ap (λ o. o >>= (λ x. each_in (count - (i + 1)) x.1 >>= (λ y. Some (x.0 ∷ y.0, y.1)))) e in
    record { few = omega (arith, l); is = h.is ∙ ap (in_front front) next ∙ twice front s (each_in (count - (i + 1)) more) ∙ ap (λ z. in_front z (each_in (count - (i + 1)) more)) (sym k) }

pub read_no_more : (count i : ℕ) (front : List Seated) (start rest more : List ℕ) (fault : ReadFault) → i < count
    → Reads {A = Seated} (Err fault) more (seat_in rest) → AreRead count i front start rest → Reads {A = List Seated} (Err fault) more (each_in count start)
read_no_more count i front start rest more NoMemory l e h = tt
read_no_more count i front start rest more Misspelled l e h =
    let down : count - i ≡ suc (count - (i + 1)) = omega (arith, l) in
    h.is ∙ ap (in_front front) (ap (λ n. each_in n rest) down ∙ ap (λ o. o >>= (λ x. each_in (count - (i + 1)) x.1 >>= (λ y. Some (x.0 ∷ y.0, y.1)))) e)

pub read_all : (count i : ℕ) (front : List Seated) (start rest : List ℕ) → count ≤ i → AreRead count i front start rest → each_in count start ≡ Some (front, rest)
read_all count i front start rest l h =
    let none : count - i ≡ 0 = omega (arith, l, h.few) in
    h.is ∙ ap (λ n. in_front front (each_in n rest)) none ∙ ap (λ z. Some (z, rest)) (append-nil front)
