use Rattle.std.proofs.Common.{rules, ◌≡◌, sym, ap, ◌∙◌, subst, ◌++◌, ◌∷◌, [], ℕ, List, Some, length}
use Rattle.std.proofs.lemmas.Map.Text.{btree_map_updates_str}
use Rattle.std.specs.Map.{update}
use Rattle.std.specs.Str.{bytes_eq}
use Rattle.xml_grammar.specs.Code.Places.{Finds, HidesEach, place_in}
use Rattle.xml_grammar.specs.declared.scope.Held.{Held}
use Rattle.xml_grammar.proofs.PlaceLaws.{held_found, held_hides}
use Rattle.xml_grammar.proofs.scope.Scope.add.Goals as goal

pub invariant_of-self-2 : goal.invariant_of-self-2
invariant_of-self-2 c =
    let hs = c.args.self.now.held.items in
    let m = c.args.self.now.latest in
    let n = c.insert.new.self in
    let h : Held = record { binding = c.args.binding; hidden = c.in_ok-hidden.hidden } in
    let grown = c.push_reserved.ensures.items ∙ ap (λ v. v ++ h ∷ []) c.reserve.ensures.items in
    let at : c.len-place.result ≡ length hs = search rules in
    let u = λ (q : List ℕ). btree_map_updates_str h.binding.prefix.now m n (Some c.len-place.result) c.in_ok-hidden.ensures.updates q ∙ ap (λ place. update bytes_eq (place_in m) h.binding.prefix.now (Some place) q) at in
    record {
      found = subst (Finds n) (sym grown) (held_found m n hs h c.args.self.now.found u);
      hides = subst HidesEach (sym grown) (held_hides hs h c.args.self.now.hides (c.in_ok-hidden.ensures.old ∙ c.args.self.now.found h.binding.prefix.now));
      named = c.args.self.now.named;
    }
