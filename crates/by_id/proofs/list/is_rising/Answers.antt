use Rattle.std.proofs.Common.{rules, of_calls, subst, ◌≡◌, sym}
use Rattle.std.proofs.lemmas.Fn.{always_returns_same}
use Rattle.std.specs.List.{IsAllAdjacentAnswer}
use Rattle.at_model.specs.Recovery.{is_before}
use Rattle.by_id.specs.Places.{id_at}
use Rattle.by_id.proofs.Rising.{rising_when}
use Rattle.by_id.proofs.list.is_rising.Goals as goal

pub returns : goal.returns
returns g c rises =
    let key = id_at g.T.Identified.id_of in
    let answer = c.is_sorted_by.ensures.cases (λ x y. is_before (key x) (key y)) (always_returns_same _ _ _ (λ a r f k. search (rules, of_calls))) in
    rising_when key c.args.places.now (λ k d l. sym ((subst (λ b. IsAllAdjacentAnswer (λ x y t. t ≡ is_before (key x) (key y)) c.args.places.now b) rises answer) k d l))
