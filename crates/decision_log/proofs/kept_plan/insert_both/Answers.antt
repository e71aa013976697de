use Rattle.std.proofs.Common.{◌∙◌, ◌≡◌, arith}
use Rattle.decision_log.specs.Places.{place_last}
use Rattle.decision_log.proofs.TokenPlaces.{both_inserted, live_inserted, place_fits, place_within}
use Rattle.decision_log.proofs.kept_plan.insert_both.Goals as goal

pub insert_record-requires-clause-place : goal.insert_record-requires-clause-place
insert_record-requires-clause-place c =
    place_fits c.args.token.id c.args.live.now.items c.args.tokens.now.items _ c.requires.same (c.place_of-place.ensures ∙ (λ k. place_last (c.id.ensures k) (c.deref.ensures.value k)))

pub insert_token-requires-clause-place : goal.insert_token-requires-clause-place
insert_token-requires-clause-place c =
    let p : c.place_of-place.result ≡ place_last c.args.token.id c.args.tokens.now.items = c.place_of-place.ensures ∙ (λ k. place_last (c.id.ensures k) (c.deref.ensures.value k)) in
    let w = place_within c.args.token.id c.args.tokens.now.items in
    omega (arith, p, w)

pub returns-clause-items : goal.returns-clause-items
returns-clause-items c =
    live_inserted c.args.entry c.args.token c.args.live.now.items _ c.args.tokens.now.items _ c.requires.same c.requires.token
    (c.place_of-place.ensures ∙ (λ k. place_last (c.id.ensures k) (c.deref.ensures.value k))) c.insert_record.ensures

pub returns-clause-same : goal.returns-clause-same
returns-clause-same c =
    both_inserted c.args.entry c.args.token c.args.live.now.items _ c.args.tokens.now.items _ _ c.requires.same c.requires.token
    (c.place_of-place.ensures ∙ (λ k. place_last (c.id.ensures k) (c.deref.ensures.value k))) c.insert_record.ensures c.insert_token.ensures
