use Rattle.std.proofs.Common.{◌≡◌, ◌<◌, ℕ, zero, suc, List, [], ◌∷◌, None, drop, length, refl, ◌∙◌, arith}
use Rattle.xml_grammar.specs.Characters.{strip_at}
use Rattle.xml_grammar.proofs.lexer.strip.Goals as goal

no_word : (word rest : List ℕ) (i : ℕ) → i < length word → rest ≡ [] → None ≡ strip_at (drop i word) rest
no_word [] rest i h e = absurd (omega arith)
no_word (w ∷ ws) rest zero h e = rw e refl
no_word (w ∷ ws) rest (suc i) h e = no_word ws rest i (omega arith) e

empty_is : (xs : List ℕ) → length xs ≡ 0 → xs ≡ []
empty_is [] e = refl
empty_is (x ∷ xs) e = absurd (omega (arith, e))

pub returns-in-None : goal.returns-in-None
returns-in-None c = no_word c.args.word.now c.loop-w.rest.now c.loop-w.w-index c.loop-w-test.true (empty_is c.loop-w.rest.now c.in-None.ensures.cases) ∙ c.loop-w.invariant
