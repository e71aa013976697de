-- The text of an id, as `1-7`: both numbers in decimal, without sign or leading zeros, joined by a hyphen.
use Rattle.std.specs.Prelude.{ℕ, List, ◌∷◌, ◌++◌, ◌≡◌, ◌≤◌, ◌<◌, ◌^◌}
use Rattle.std.specs.Fmt.{decimal}
use Rattle.at_base.specs.Numbers.{Numbers}

-- the code of `-`
abbrev pub hyphen : ℕ
hyphen = 45

abbrev pub id_text : Numbers → List ℕ
id_text id = decimal id.incarnation ++ hyphen ∷ decimal id.counter

-- the bytes are this number of 1 to 4,294,967,295 in decimal
pub record SpellsNumber (bytes : List ℕ) (number : ℕ) : Type 0 where
  pub least : 1 ≤ number
  pub most : number < 2 ^ 32
  pub text : bytes ≡ decimal number

-- both numbers are 1 to 4,294,967,295
pub record IsId (id : Numbers) : Type 0 where
  pub incarnation_least : 1 ≤ id.incarnation
  pub incarnation_most : id.incarnation < 2 ^ 32
  pub counter_least : 1 ≤ id.counter
  pub counter_most : id.counter < 2 ^ 32

-- the bytes are the text of this id
pub record SpellsId (bytes : List ℕ) (id : Numbers) : Type 0 where
  pub numbers : IsId id
  pub text : bytes ≡ id_text id
