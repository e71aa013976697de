-- Trees of plain names that weigh little, and what is built of such.
use Rattle.std.proofs.Common.{◌≡◌, ℕ, ◌+◌, ◌≤◌, Bool, true, false, cond, List, [], ◌∷◌, ◌++◌, arith}
use Rattle.xml_profile.specs.declared.name.QName.{QName}
use Rattle.xml_profile.specs.declared.tree.Tree.{Tree}
use Rattle.soap_profile.specs.BuiltElements.{children_of, element, text_children}
use Rattle.small_envelopes.specs.ShortEnvelopes.{IsBrief}
use Rattle.small_envelopes.proofs.TextLengths.{ArePlain, is_plain, weight}

-- they weigh at most so much together
pub record AreShort (most : ℕ) (ts : List Tree) : Type 0 where
  pub plain : ArePlain (children_of ts)
  pub light : weight (children_of ts) ≤ most

pub none_short : (most : ℕ) → AreShort most []
none_short most = record { plain = tt; light = omega arith }

both_plain : (ts us : List Tree) → ArePlain (children_of ts) → ArePlain (children_of us) → ArePlain (children_of (ts ++ us))
both_plain [] us h k = k
both_plain (t ∷ ts) us (plain, attributes, inside, more) k = (plain, attributes, inside, both_plain ts us more k)

both_weigh : (ts us : List Tree) → weight (children_of (ts ++ us)) ≡ weight (children_of ts) + weight (children_of us)
both_weigh [] us = omega arith
both_weigh (t ∷ ts) us = omega (arith, both_weigh ts us)

pub both_short : {most more : ℕ} {ts us : List Tree} → AreShort most ts → AreShort more us → AreShort (most + more) (ts ++ us)
both_short {ts = ts} {us = us} h k = record { plain = both_plain ts us h.plain k.plain; light = omega (arith, both_weigh ts us, h.light, k.light) }

pub within : {most : ℕ} {ts : List Tree} (more : ℕ) → most ≤ more → AreShort most ts → AreShort more ts
within more fits h = record { plain = h.plain; light = omega (arith, h.light, fits) }

-- an element of elements
pub element_short : {most : ℕ} {ts : List Tree} (name : QName) → is_plain name ≡ true → AreShort most ts → AreShort (500 + most) (element name (children_of ts) ∷ [])
element_short name plain h = record { plain = (plain, tt, h.plain, tt); light = omega (arith, h.light) }

-- an element of a text
pub text_short : (name : QName) (text : List ℕ) → is_plain name ≡ true → IsBrief text → AreShort 1780 (element name (text_children text) ∷ [])
text_short name [] plain h = record { plain = (plain, tt, tt, tt); light = omega arith }
text_short name (c ∷ cs) plain h = record { plain = (plain, tt, tt, tt); light = omega (arith, h) }

-- what may be left out
pub unless_short : {most : ℕ} {ts : List Tree} (left_out : Bool) → AreShort most ts → AreShort most (cond left_out [] ts)
unless_short {most = most} true h = none_short most
unless_short false h = h
