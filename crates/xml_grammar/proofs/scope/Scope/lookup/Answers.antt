use Rattle.std.proofs.Common.{◌≡◌, sym, ap, ◌∙◌, refl, subst, Some, None, map, length, ◌≤◌, ◌<◌}
use Rattle.std.proofs.lemmas.Option.{slice_get_read, slice_get_past}
use Rattle.std.specs.List.{HoldsAt, slice_get}
use Rattle.std.specs.Option.{MatchOption, option_copied}
use Rattle.xml_grammar.specs.Code.Places.{held_of, last_of}
use Rattle.xml_grammar.proofs.PlaceLaws.{unbound, bound_held, none_held}
use Rattle.xml_grammar.proofs.scope.Scope.lookup.Goals as goal

pub returns-in_err-place : goal.returns-in_err-place
returns-in_err-place c =
    let q = c.args.prefix.now in
    let hs = c.args.self.now.held.items in
    let at : last_of q (map held_of hs) ≡ None = sym (c.args.self.now.found q) ∙ (sym c.get.ensures.value ∙ ap option_copied c.in_err-place.was) in
    ap option_copied c.from_residual.ensures ∙ sym (unbound q (map held_of hs) at)

pub returns-in_err-held : goal.returns-in_err-held
returns-in_err-held c =
    let q = c.args.prefix.now in
    let hs = c.args.self.now.held.items in
    let i = c.in_ok-place.place.now in
    let at : last_of q (map held_of hs) ≡ Some i = sym (c.args.self.now.found q) ∙ (sym c.get.ensures.value ∙ ap option_copied c.in_ok-place.was) in
    let past : length c.deref.result.now ≤ i = subst (λ o. MatchOption o (length c.deref.result.now ≤ i) (λ x. (i < length c.deref.result.now) × HoldsAt (λ y. x.now ≡ y) c.deref.result.now i)) c.in_err-held.was c.get-2.ensures.lookup.3 in
    let none : slice_get hs i ≡ None = slice_get_past hs i (subst (λ v. length v ≤ i) c.deref.ensures.value past) in
    ap option_copied c.from_residual-in_err-held.ensures ∙ sym (none_held q hs i at none)

pub returns : goal.returns
returns c =
    let q = c.args.prefix.now in
    let hs = c.args.self.now.held.items in
    let i = c.in_ok-place.place.now in
    let h = c.in_ok-held.held.now in
    let at : last_of q (map held_of hs) ≡ Some i = sym (c.args.self.now.found q) ∙ (sym c.get.ensures.value ∙ ap option_copied c.in_ok-place.was) in
    let inside = subst (λ o. MatchOption o (length c.deref.result.now ≤ i) (λ x. (i < length c.deref.result.now) × HoldsAt (λ y. x.now ≡ y) c.deref.result.now i)) c.in_ok-held.was c.get-2.ensures.lookup.3 in
    let some : slice_get c.deref.result.now i ≡ Some h = slice_get_read c.deref.result.now (length c.deref.result.now) i h refl inside.0 (inside.1 h) in
    sym (bound_held q hs i h at (ap (λ v. slice_get v i) (sym c.deref.ensures.value) ∙ some))
