-- What becomes of lines that are printed one after another.
use Rattle.std.proofs.Common.{ℕ, suc, List, false, true, ◌++◌, ◌∷◌, ◌≡◌, ◌≤◌, ◌<◌, ◌+◌, take, drop, get_or, length, Option, Result, Ok, Err, sym, ◌∙◌, subst, arith}
use Rattle.std.specs.Prelude.{IsErr, IsErrAnd}
use Rattle.std.specs.Io.KnownBytes.{Appends}
use Rattle.std.proofs.lemmas.List.{drop_all, length-append, take-append-le}
use Rattle.std.proofs.Math.Seq.{drop-cons, take-append-add}
use Rattle.at_base.specs.declared.outs.Effect.{Effect}
use Rattle.serving.specs.Lines.{effect_line, effect_lines}
use Rattle.serving.specs.Printing.{Printing}
use Rattle.serving.specs.declared.lines.Unprinted.{Unprinted}
use Rattle.serving.specs.declared.lines.Unprinted.TheVariants as unprinted
use Rattle.serving.proofs.Sessions.{appends_more, appends_nothing, less_over}

-- nothing of a text that isn't empty
pub wanting : (text : List ℕ) (x : Option (List ℕ)) → 0 < length text → Printing (Err unprinted.NoMemory) text x x
wanting text x some = (0, (some, appends_nothing x))

-- a text, and then as much of another as was printed
pub behind : (r : Result (Unit {0}) Unprinted) (a b : List ℕ) (x y z : Option (List ℕ)) → Appends x y a → Printing r b y z → Printing r (a ++ b) x z
behind (Ok u) a b x y z h k = appends_more x y z a b h k
behind (Err unprinted.NoMemory) a b x y z h (count, (short, cut)) =
    (length a + count, (omega (arith, short, length-append a b), subst (λ v. Appends x z v) (sym (take-append-add a b count)) (appends_more x y z a (take count b) h cut)))
behind (Err unprinted.SinkFailed) a b x y z h (count, (within, cut)) =
    (length a + count, (less_over a b count within, subst (λ v. Appends x z v) (sym (take-append-add a b count)) (appends_more x y z a (take count b) h cut)))

-- a text of which less than all was printed, and nothing of another
pub in_front : (why : Unprinted) (a b : List ℕ) (x y : Option (List ℕ)) → Printing (Err why) a x y → Printing (Err why) (a ++ b) x y
in_front unprinted.NoMemory a b x y (count, (short, cut)) =
    (count, (omega (arith, short, length-append a b), subst (λ v. Appends x y v) (sym (take-append-le count a b (omega (arith, short)))) cut))
in_front unprinted.SinkFailed a b x y (count, (within, cut)) =
    (count, (omega (arith, within, length-append a b), subst (λ v. Appends x y v) (sym (take-append-le count a b within)) cut))

from_there : (all : List Effect) (i : ℕ) (e d : Effect) → i < length all → e ≡ get_or all i d → drop i all ≡ e ∷ drop (i + 1) all
from_there all i e d within is =
    let next : suc i ≡ i + 1 = omega arith in
    drop-cons all i d within ∙ (λ j. sym is j ∷ drop (next j) all)

-- what a call that failed printed behind others, where that failure is handed on
pub stopped : (why : Unprinted) (result handed : Result (Unit {0}) Unprinted) (all : List Effect) (i : ℕ) (e d : Effect) (x y w : Option (List ℕ)) → i < length all → e ≡ get_or all i d
    → result ≡ Err why → IsErr handed → IsErrAnd handed (λ f. f ≡ why) → Printing result (effect_line e) y w
    → ((r : Result (Unit {0}) Unprinted) (z : Option (List ℕ)) → Printing r (effect_lines (drop i all)) y z → Printing r (effect_lines all) x z)
    → Printing handed (effect_lines all) x w
stopped why result (Ok u) all i e d x y w within is failed err same part so = absurd (differ err)
  where
    differ : false ≡ true → ⊥
    differ h = cc
stopped why result (Err f) all i e d x y w within is failed err same part so =
    let part_of : Printing (Err why) (effect_line e) y w = subst (λ r. Printing r (effect_line e) y w) failed part in
    let longer : Printing (Err why) (effect_lines (drop i all)) y w =
    subst (λ es. Printing (Err why) (effect_lines es) y w) (sym (from_there all i e d within is)) (in_front why (effect_line e) (effect_lines (drop (i + 1) all)) y w part_of) in
    subst (λ g. Printing (Err g) (effect_lines all) x w) (sym same) (so (Err why) w longer)

-- one line more was printed
pub next_printed : (result : Result (Unit {0}) Unprinted) (u : Unit {0}) (all : List Effect) (i : ℕ) (e d : Effect) (x y w : Option (List ℕ)) → i < length all → e ≡ get_or all i d
    → result ≡ Ok u → Printing result (effect_line e) y w
    → ((r : Result (Unit {0}) Unprinted) (z : Option (List ℕ)) → Printing r (effect_lines (drop i all)) y z → Printing r (effect_lines all) x z)
    → (r : Result (Unit {0}) Unprinted) (z : Option (List ℕ)) → Printing r (effect_lines (drop (i + 1) all)) w z → Printing r (effect_lines all) x z
next_printed result u all i e d x y w within is done whole so r z rest =
    let whole_of : Appends y w (effect_line e) = subst (λ r. Printing r (effect_line e) y w) done whole in
    so r z (subst (λ es. Printing r (effect_lines es) y z) (sym (from_there all i e d within is)) (behind r (effect_line e) (effect_lines (drop (i + 1) all)) y w z whole_of rest))

-- no line is left
pub all_printed : (all : List Effect) (i : ℕ) (x y : Option (List ℕ)) → length all ≤ i
    → ((r : Result (Unit {0}) Unprinted) (z : Option (List ℕ)) → Printing r (effect_lines (drop i all)) y z → Printing r (effect_lines all) x z) → Appends x y (effect_lines all)
all_printed all i x y past so = so (Ok tt) y (subst (λ es. Appends y y (effect_lines es)) (sym (drop_all i all past)) (appends_nothing y))
