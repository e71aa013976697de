-- Digits of a reference with a number that goes no higher than just past the last character.
use Rattle.std.specs.Prelude.{ℕ, List, [], ◌∷◌, ◌+◌, ◌*◌, Bool, true, false, cond, ◌&&◌, nat_eq, Option, Some, None, min}
use Rattle.xml_grammar.specs.Characters.{found}
use Rattle.xml_grammar.specs.Tokens.{hexadecimal, decimal_digit}

abbrev pub digit_in : Bool → ℕ → Option ℕ
digit_in true c = hexadecimal c
digit_in false c = decimal_digit c

abbrev pub base_of : Bool → ℕ
base_of true = 16
base_of false = 10

abbrev pub add_digit : Bool → ℕ → ℕ → ℕ
add_digit hex n d = min (n * base_of hex + d) 1114112

abbrev pub capped_from : Bool → Bool → ℕ → List ℕ → Option (ℕ × List ℕ)
capped_from hex any n [] = None
capped_from hex any n (c ∷ cs) = found (digit_in hex c) (λ d. capped_from hex true (add_digit hex n d) cs) (cond (any && nat_eq c 59) (Some (n, cs)) None)
