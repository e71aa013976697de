-- The calls of a step's record: which of them were made, and whether it landed, is determined by which call is to fail.
use Rattle.std.specs.Prelude.{ℕ, List, [], ◌∷◌, ◌++◌, ◌+◌, ◌≡◌, ◌≤◌, ◌<◌, ◌⊎◌, Bool, true, false, Option, Some, None, length, map}
use Rattle.std.proofs.Common.{ap, arith, inl, inr, refl, subst, sym, ◌∙◌}
use Rattle.std.proofs.lemmas.List.{length-append}
use Rattle.at_base.specs.declared.record.Record.{Record}
use Rattle.journal_at.specs.StandingBodies.{Makes, lay, raise}
use Rattle.journal_at.specs.declared.journal.Append.TheVariants as appends
use Rattle.node_at.specs.Doings.{IsFateAt}
use Rattle.node_at.specs.Starts.{append_calls}
use Rattle.record_bytes.specs.Bytes.{bytes_of}
use Rattle.site_memory.specs.ToldCalls.{AreArmed}
use Rattle.site_model.specs.Told.{Made, done, failed}
use Rattle.mirrored_nets.specs.Fates.{AllDone, failures, refusals}
use Rattle.determined_nodes.proofs.ArmedRows.{breaks_cut, breaks_within, cut, later_cut, whole_cut}
use Rattle.mirrored_nets.proofs.AnewCalls.{each_done}
use Rattle.mirrored_nets.proofs.CallRows.{all_refused_none, disk_calls, none_fails}

module _ (before fails live end : ℕ) (body : List ℕ) (made : List Made) (h : AreArmed before fails made) where
  pub done_is : Makes appends.Done live end body made → made ≡ cut before fails (append_calls live end body)
  done_is e = whole_cut before fails (append_calls live end body) made e h

  pub refused_is : Makes appends.Refused live end body made → 1 ≤ refusals made → made ≡ cut before fails (append_calls live end body)
  refused_is b some = breaks_cut before fails (lay live end body) (raise live end) made b some h

  pub unsure_is : Makes appends.Unsure live end body made → 1 ≤ refusals made → made ≡ cut before fails (append_calls live end body)
  unsure_is (rest, e, b) some = later_cut before fails (lay live end body) (raise live end) made rest e b some h

pub done_none : (live end : ℕ) (body : List ℕ) (made : List Made) → Makes appends.Done live end body made → refusals made ≡ 0
done_none live end body made e = all_refused_none made (subst AllDone (sym e) (each_done (append_calls live end body)))

pub refused_short : (live end : ℕ) (body : List ℕ) (made : List Made) → Makes appends.Refused live end body made → length made ≤ 2
refused_short live end body made b = breaks_within (lay live end body) made b

-- the gate's call is there
pub unsure_long : (live end : ℕ) (body : List ℕ) (made : List Made) → Makes appends.Unsure live end body made → 1 ≤ refusals made → 3 ≤ length made
unsure_long live end body made (rest, e, b) some = by b.is
  where
    by : (rest ≡ map done b.front ++ failed b.call ∷ []) ⊎ (rest ≡ map done b.front) → 3 ≤ length made
    by (inl f) =
        let a = ap length e ∙ length-append (map done (lay live end body)) rest in
        let c = ap length f ∙ length-append (map done b.front) (failed b.call ∷ []) in
        omega (arith, a, c)
    by (inr f) =
        let none = all_refused_none made (subst AllDone (sym (e ∙ ap (λ z. map done (lay live end body) ++ z) f)) (refl, (refl, each_done b.front))) in
        absurd (omega (arith, none, some))

-- they are no answers and no posts
pub fate_disk : (landed : Bool) (entry : Option Record) (live limit end : ℕ) (first : List Made) (refused : ℕ) → IsFateAt landed entry live limit end first refused → failures first ≡ 0
fate_disk landed None live limit end first refused (e, n) = ap failures e
fate_disk true (Some r) live limit end first refused (m, w, n) = ap failures m
fate_disk false (Some r) live limit end first refused (inl (b, w, n)) = none_fails first (disk_calls (lay live end (bytes_of r)) first (refl, (refl, tt)) b)
fate_disk false (Some r) live limit end first refused (inr (m, w, n)) = ap failures m

-- at most one that failed, where it was refused
pub fate_few : (landed : Bool) (entry : Option Record) (live limit end : ℕ) (first : List Made) (refused : ℕ) → IsFateAt landed entry live limit end first refused → refusals first ≤ 1 → refusals first ≤ refused
fate_few landed None live limit end first refused (e, n) most = let a = ap refusals e in omega (arith, a)
fate_few true (Some r) live limit end first refused (m, w, n) most = let a = done_none live end (bytes_of r) first m in omega (arith, a)
fate_few false (Some r) live limit end first refused (inl (b, w, n)) most = omega (arith, n, most)
fate_few false (Some r) live limit end first refused (inr (m, w, n)) most = let a = ap refusals m in omega (arith, a)

-- The record has room.
abbrev pub Fits : Option Record → (end limit : ℕ) → Type 0
Fits entry end limit = (r : Record) → entry ≡ Some r → end + 6 + length (bytes_of r) ≤ limit

-- it landed in both, or in neither; or there is none
abbrev pub AsLanded : Option Record → Bool → Bool → Type 0
AsLanded entry landed other = (entry ≡ None) ⊎ (landed ≡ other)

module _ (before fails live limit end : ℕ) where
  past : (entry : Option Record) (r : Record) → Fits entry end limit → entry ≡ Some r → limit < end + 6 + length (bytes_of r) → ⊥
  past entry r fits e far = let near = fits r e in omega (arith, near, far)

  -- two that have the same calls before them
  pub fates_one : (entry : Option Record) (landed other : Bool) (first also : List Made) (refused too : ℕ) → Fits entry end limit → IsFateAt landed entry live limit end first refused
      → IsFateAt other entry live limit end also too → refused ≤ refusals first → too ≤ refusals also → AreArmed before fails first → AreArmed before fails also
      → (first ≡ also) × AsLanded entry landed other
  fates_one None landed other first also refused too fits (e, n) (f, k) some more h g = (e ∙ sym f, inl refl)
  fates_one (Some r) true true first also refused too fits (m, w, n) (l, v, k) some more h g =
      (done_is before fails live end (bytes_of r) first h m ∙ sym (done_is before fails live end (bytes_of r) also g l), inr refl)
  fates_one (Some r) true false first also refused too fits (m, w, n) (inl (l, v, k)) some more h g =
      let one : 1 ≤ refusals also = omega (arith, more, k) in
      let same : first ≡ also = done_is before fails live end (bytes_of r) first h m ∙ sym (refused_is before fails live end (bytes_of r) also g l one) in
      let none = done_none live end (bytes_of r) first m in
      let equal = ap refusals same in
      absurd (omega (arith, one, none, equal))
  fates_one (Some r) true false first also refused too fits (m, w, n) (inr (l, v, k)) some more h g = absurd (past (Some r) r fits refl v)
  fates_one (Some r) false true first also refused too fits (inl (m, w, n)) (l, v, k) some more h g =
      let one : 1 ≤ refusals first = omega (arith, some, n) in
      let same : also ≡ first = done_is before fails live end (bytes_of r) also g l ∙ sym (refused_is before fails live end (bytes_of r) first h m one) in
      let none = done_none live end (bytes_of r) also l in
      let equal = ap refusals same in
      absurd (omega (arith, one, none, equal))
  fates_one (Some r) false true first also refused too fits (inr (m, w, n)) b some more h g = absurd (past (Some r) r fits refl w)
  fates_one (Some r) false false first also refused too fits (inl (m, w, n)) (inl (l, v, k)) some more h g =
      let one : 1 ≤ refusals first = omega (arith, some, n) in
      let two : 1 ≤ refusals also = omega (arith, more, k) in
      (refused_is before fails live end (bytes_of r) first h m one ∙ sym (refused_is before fails live end (bytes_of r) also g l two), inr refl)
  fates_one (Some r) false false first also refused too fits (inl a) (inr (l, v, k)) some more h g = absurd (past (Some r) r fits refl v)
  fates_one (Some r) false false first also refused too fits (inr (m, w, n)) b some more h g = absurd (past (Some r) r fits refl w)

  -- A record whose gate failed in one run didn't land or miss in the other.
  pub halts_only : (r : Record) (landed : Bool) (first also : List Made) (refused : ℕ) → Fits (Some r) end limit → IsFateAt landed (Some r) live limit end first refused
      → Makes appends.Unsure live end (bytes_of r) also → refused ≤ refusals first → 1 ≤ refusals also → AreArmed before fails first → AreArmed before fails also → ⊥
  halts_only r true first also refused fits (m, w, n) u some one h g =
      let same : first ≡ also = done_is before fails live end (bytes_of r) first h m ∙ sym (unsure_is before fails live end (bytes_of r) also g u one) in
      let none = done_none live end (bytes_of r) first m in
      let equal = ap refusals same in
      omega (arith, one, none, equal)
  halts_only r false first also refused fits (inl (m, w, n)) u some one h g =
      let two : 1 ≤ refusals first = omega (arith, some, n) in
      let same : first ≡ also = refused_is before fails live end (bytes_of r) first h m two ∙ sym (unsure_is before fails live end (bytes_of r) also g u one) in
      let short = refused_short live end (bytes_of r) first m in
      let long = unsure_long live end (bytes_of r) also u one in
      let equal = ap length same in
      omega (arith, short, long, equal)
  halts_only r false first also refused fits (inr (m, w, n)) u some one h g = past (Some r) r fits refl w
