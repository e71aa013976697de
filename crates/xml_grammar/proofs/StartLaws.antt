-- A start tag from its parts.
use Rattle.std.proofs.Common.{◌≡◌, ap, ◌∙◌, subst, ℕ, suc, ◌+◌, List, Option, Some, length, codes, add-one}
use Rattle.xml_grammar.specs.Characters.{◌>>=◌, strip_at, name_at}
use Rattle.xml_grammar.specs.Code.Reading.{Ending, pairs_at, tagged, start_at}

pub start_gives : (cs inside name behind : List ℕ) (o : Option Ending) → strip_at (codes "<") cs ≡ Some inside → name_at inside ≡ Some (name, behind) → pairs_at (length behind + 1) behind ≡ o
    → start_at cs ≡ tagged name o
unfolding start_at
start_gives cs inside name behind o e f g =
    ap (λ o. o >>= (λ inside. name_at inside >>= (λ name. tagged name.0 (pairs_at (suc (length name.1)) name.1)))) e
    ∙ ap (λ o. o >>= (λ name. tagged name.0 (pairs_at (suc (length name.1)) name.1))) f
    ∙ ap (tagged name) (subst (λ n. pairs_at n behind ≡ o) (add-one (length behind)) g)
