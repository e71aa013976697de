use Rattle.std.proofs.Common.{rules, ◌≡◌, sym, ap, ◌∙◌, map, length, not, option_copied, arith, ◌≤◌, ◌<◌, ◌^◌, Bor, List, ℕ}
use Rattle.std.proofs.lemmas.List.{length-map}
use Rattle.std.proofs.lemmas.List.Sums.{prefix_len-le-length}
use Rattle.std.specs.List.{position_or_len}
use Rattle.std.specs.Option.{unwrap_or}
use Rattle.std.specs.Str.{bytes_eq}
use Rattle.xml_profile.proofs.SpacePlaces.{first_place}
use Rattle.xml_profile.proofs.spaces.Spaces.place.Goals as goal

pub returns-in-Some-clause-place : goal.returns-in-Some-clause-place
returns-in-Some-clause-place c =
    let s = c.args.space.now in
    let ys = map (λ x. x.now) c.self.inside.items.items in
    ap (λ o. unwrap_or o (length ys)) (sym (ap option_copied c.in-Some.is) ∙ (c.get.ensures.value ∙ c.self.inside.found s))
    ∙ (first_place s ys ∙ ap (position_or_len (bytes_eq s)) c.self.view_is)

pub returns-in-Some-clause-small : goal.returns-in-Some-clause-small
returns-in-Some-clause-small c =
    let s = c.args.space.now in
    let xs = c.self.inside.items.items in
    let ys = map (λ x. x.now) xs in
    let at : c.in-Some.place.now ≡ position_or_len (bytes_eq s) ys =
    ap (λ o. unwrap_or o (length ys)) (sym (ap option_copied c.in-Some.is) ∙ (c.get.ensures.value ∙ c.self.inside.found s)) ∙ first_place s ys in
    let within : position_or_len (bytes_eq s) ys ≤ length ys = prefix_len-le-length (λ x. not (bytes_eq s x)) ys in
    let counted : c.len-all.result ≡ length xs = search rules in
    let small : c.len-all.result < 2 ^ 63 = search rules in
    omega (arith, at, within, length-map xs (λ (x : Bor (List ℕ)). x.now), counted, small)

pub returns-in-None-clause-place : goal.returns-in-None-clause-place
returns-in-None-clause-place c =
    let s = c.args.space.now in
    let xs = c.self.inside.items.items in
    let ys = map (λ x. x.now) xs in
    let at : c.len-all.result ≡ length xs = search rules in
    at
    ∙ (sym (length-map xs (λ x. x.now))
    ∙ (ap (λ o. unwrap_or o (length ys)) (sym (ap option_copied c.in-None.is) ∙ (c.get.ensures.value ∙ c.self.inside.found s))
    ∙ (first_place s ys ∙ ap (position_or_len (bytes_eq s)) c.self.view_is)))
