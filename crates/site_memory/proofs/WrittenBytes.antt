-- Bytes written over others, and ranges behind others.
use Rattle.std.proofs.Common.{ℕ, List, [], ◌∷◌, length, ◌≡◌, ◌++◌, ◌+◌, ◌≤◌, ◌-◌, sym, ◌∙◌, ap, take, replicate, arith}
use Rattle.std.proofs.lemmas.List.{length-append, length-replicate, length-take, length-drop, take-append-le, take-take}
use Rattle.std.specs.Prelude.{max, min}
use Rattle.site_model.specs.Told.{written}
use Rattle.site_memory.specs.Disk.{end_of, filled}
use Rattle.site_memory.specs.declared.range.Range.{Range}

pub end_push : (rs : List Range) (r : Range) → end_of (rs ++ r ∷ []) ≡ max (end_of rs) (r.at + r.len)
end_push [] r = omega arith
end_push (s ∷ rs) r = let h = end_push rs r in omega (arith, h)

pub length_written : (at : ℕ) (bytes old : List ℕ) → length (written at bytes old) ≡ max (length old) (at + length bytes)
length_written at bytes old =
    grind (arith, length-append, length-replicate {A = ℕ} (at - length old) 0, length-take, length-drop)

pub take_written : (k at : ℕ) (bytes old : List ℕ) → k ≤ at → k ≤ length old → take k (written at bytes old) ≡ take k old
take_written k at bytes old h l =
    take-append-le k (take at old) _ (omega (arith, length-take at old, h, l)) ∙ take-take k at old h

-- up to that place the old bytes and these stay alike
pub still_same : (fresh least : ℕ) (seen later stable : List ℕ) (at : ℕ) (bytes : List ℕ) → least ≡ min fresh at → later ≡ written at bytes seen → (fresh ≤ length stable) × (fresh ≤ length seen) × (take fresh seen ≡ take fresh stable) → (least ≤ length stable) × (least ≤ length later) × (take least later ≡ take least stable)
still_same fresh least seen later stable at bytes e w h =
    let short : length later ≡ max (length seen) (at + length bytes) = ap length w ∙ length_written at bytes seen in
    let low : least ≤ fresh = omega (arith, e) in (
      omega (arith, low, h.0),
      omega (arith, low, h.1, short),
      ap (take least) w ∙ take_written least at bytes seen (omega (arith, e)) (omega (arith, low, h.1)) ∙ sym (take-take least fresh seen low) ∙ ap (take least) h.2 ∙ take-take least fresh stable low,
    )

pub length_filled : (n b : ℕ) (f : List ℕ) (rs : List Range) → length f ≤ n → end_of rs ≤ n → length (filled b f rs) ≤ n
length_filled n b f [] h e = h
length_filled n b f (r ∷ rs) h e =
    length_filled n b (written r.at (replicate r.len b) f) rs (omega (arith, h, e, length_written r.at (replicate r.len b) f, length-replicate r.len b)) (omega (arith, e))
