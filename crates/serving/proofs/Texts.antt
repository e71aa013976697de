-- What is printed isn't empty.
use Rattle.std.proofs.Common.{ℕ, List, [], ◌∷◌, ◌++◌, ◌<◌, length, zero, suc, arith}
use Rattle.std.specs.Prelude.{codes}
use Rattle.std.proofs.lemmas.List.{length-append}
use Rattle.at_base.specs.Numbers.{Numbers}
use Rattle.at_base.specs.declared.outs.Effect.{Effect}
use Rattle.at_base.specs.declared.outs.Effect.TheVariants as effects
use Rattle.serving.specs.Lines.{bad_line, effect_line, effect_lines, item_line, no_journal_line, refused_line, up_line}

in_front : (a b : List ℕ) → 0 < length a → 0 < length (a ++ b)
in_front a b h = omega (arith, h, length-append a b)

item_some : (item : List ℕ) (id : Numbers) (word : List ℕ) → 0 < length item → 0 < length (item_line item id word)
unfolding item_line
item_some item id word h = in_front item _ h

pub effect_some : (e : Effect) → 0 < length (effect_line e)
effect_some (effects.Root id what) = item_some (codes "root") id _ (omega arith)
effect_some (effects.Sub id what) = item_some (codes "sub") id _ (omega arith)
effect_some (effects.Leaf id kind what) = item_some (codes "leaf") id _ (omega arith)
effect_some (effects.Told id what) = item_some (codes "told") id _ (omega arith)

pub lines_some : (es : List Effect) → 0 < length es → 0 < length (effect_lines es)
lines_some [] h = absurd (omega (arith, h))
lines_some (e ∷ es) h = in_front (effect_line e) (effect_lines es) (effect_some e)

pub refused_some : (word : List ℕ) → 0 < length (refused_line word)
unfolding refused_line
refused_some word = in_front (codes "refused ") _ (omega arith)

pub bad_some : (file place : ℕ) → 0 < length (bad_line file place)
unfolding bad_line
bad_some zero place = in_front (codes "bad journal at ") _ (omega arith)
bad_some (suc n) place = in_front (codes "bad journal file 1 at ") _ (omega arith)

pub no_journal_some : 0 < length no_journal_line
unfolding no_journal_line
no_journal_some = omega arith

pub up_some : (incarnation : ℕ) → 0 < length (up_line incarnation ++ [])
unfolding up_line
up_some incarnation = in_front (up_line incarnation) [] (in_front (codes "up ") _ (omega arith))
