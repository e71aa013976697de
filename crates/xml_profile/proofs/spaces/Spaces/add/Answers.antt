use Rattle.std.proofs.Common.{rules, ◌≡◌, sym, ap, ◌∙◌, subst, ◌++◌, ◌∷◌, [], map, ℕ, List, Some, length}
use Rattle.std.proofs.lemmas.Map.Text.{btree_map_updates_str}
use Rattle.std.specs.Map.{update}
use Rattle.std.specs.Str.{bytes_eq}
use Rattle.xml_profile.specs.CanonicalText.{with_space}
use Rattle.xml_profile.specs.Places.{Finds, place_in}
use Rattle.xml_profile.proofs.SpacePlaces.{is_added, one_more, was_there}
use Rattle.xml_profile.proofs.spaces.Spaces.add.Goals as goal

pub returns-then-contains_key : goal.returns-then-contains_key
returns-then-contains_key c =
    let s = c.args.space.now in
    sym c.self.view_is
    ∙ (was_there c.self.inside.places c.self.inside.items.items c.args.space c.self.inside.found (sym c.contains_key.ensures ∙ c.if-contains_key.true)
    ∙ ap (λ spaces. with_space spaces s) c.self.view_is)

pub invariant_of-self-inside-2 : goal.invariant_of-self-inside-2
invariant_of-self-inside-2 c =
    let xs = c.self.inside.items.items in
    let m = c.self.inside.places in
    let n = c.insert.new.self in
    let grown = c.push_reserved.ensures.items ∙ ap (λ v. v ++ c.args.space ∷ []) c.reserve.ensures.items in
    let at : c.len-place.result ≡ length xs = search rules in
    let u = λ (q : List ℕ). btree_map_updates_str c.args.space.now m n (Some c.len-place.result) c.in_ok-insert.ensures.updates q ∙ ap (λ place. update bytes_eq (place_in m) c.args.space.now (Some place) q) at in
    (subst (Finds n) (sym grown) (one_more m n xs c.args.space c.self.inside.found (sym c.contains_key.ensures ∙ c.if-contains_key.false) u), search rules)

pub returns : goal.returns
returns c =
    let xs = c.self.inside.items.items in
    let s = c.args.space.now in
    let grown = c.push_reserved.ensures.items ∙ ap (λ v. v ++ c.args.space ∷ []) c.reserve.ensures.items in
    ap (map (λ x. x.now)) grown
    ∙ (is_added c.self.inside.places xs c.args.space c.self.inside.found (sym c.contains_key.ensures ∙ c.if-contains_key.false)
    ∙ ap (λ spaces. with_space spaces s) c.self.view_is)
