use Rattle.std.proofs.Common.{rules, of_calls, length, subst, sym, ◌≡◌}
use Rattle.std.specs.Fn.{CalledAt}
use Rattle.std.specs.List.Retain.{IsFiltered}
use denote.Param.Always.{always_mut, mut_by}
use Rattle.by_id.specs.Places.{IsFiled, WasFiled, left}
use Rattle.by_id.proofs.Filed.{was_filed, was_part}
use Rattle.by_id.proofs.Retained.{left_kept, many_kept}
use Rattle.by_id.proofs.list.ById.retain.Goals as goal

pub retain-requires : goal.retain-requires
retain-requires g c = mut_by _ (λ w. always_mut g.F.FnMut w.0.now) (λ w a i. search (rules, of_calls)) (λ w a r t i e. search (rules, of_calls)) _ c.requires

pub overflow_sub-self-2 : goal.overflow_sub-self-2
overflow_sub-self-2 g c =
    let many = many_kept _ (CalledAt g.F.FnMut) (λ w. w.0.now) _ c.self.inside.places.items c.retain.new.self.items c.retain.ensures.filtered (λ p x b q e. search (rules, of_calls)) in
    search rules

pub pack-requires : goal.pack-requires
pack-requires g c =
    let many = many_kept _ (CalledAt g.F.FnMut) (λ w. w.0.now) _ c.self.inside.places.items c.retain.new.self.items c.retain.ensures.filtered (λ p x b q e. search (rules, of_calls)) in
    search rules

pub refile-self-inside-requires : goal.refile-self-inside-requires
refile-self-inside-requires g c e =
    let key = g.T.Identified.id_of in
    let ids = c.self.inside.ids in
    let ps = c.self.inside.places.items in
    let kept = c.retain.ensures.filtered in
    let was : WasFiled key ids (length ps) c.pack.new.places.items =
    was_part key ids (length ps) c.retain.new.self.items c.pack.new.places.items c.pack.ensures.part
    (was_part key ids (length ps) ps c.retain.new.self.items (kept.0, kept.4) (was_filed key ids ps (c.self.invariant.0.2 e))) in
    let many : c.len-before.result ≡ length ps = search rules in
    rw (c.as_slice.ensures.value, many) was

pub invariant_of-self : goal.invariant_of-self
invariant_of-self g c =
    let many = many_kept _ (CalledAt g.F.FnMut) (λ w. w.0.now) _ c.self.inside.places.items c.retain.new.self.items c.retain.ensures.filtered (λ p x b q e. search (rules, of_calls)) in
    ((search rules, c.pack.ensures.few, λ e. subst (IsFiled g.T.Identified.id_of _) c.as_slice.ensures.value (c.refile-self-inside.ensures e)), search rules)

pub returns : goal.returns
returns g c =
    let kept = left_kept _ (CalledAt g.F.FnMut) (λ w. w.0.now) _ c.self.inside.places.items c.retain.new.self.items c.retain.ensures.filtered (λ p x b q e. search (rules, of_calls)) in
    subst (λ xs. IsFiltered (CalledAt g.F.FnMut) c.args.keeps xs (left c.pack.new.places.items)) c.self.view_is
    (subst (IsFiltered (CalledAt g.F.FnMut) c.args.keeps (left c.self.inside.places.items)) (sym c.pack.ensures.left) kept)
