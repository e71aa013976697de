use Rattle.std.proofs.Common.{◌≡◌, sym, ap, ◌∙◌, subst, ℕ, List, Option, Some, None, Result, Ok, Err, OnOk, OnErr, IsSome, Bor}
use Rattle.std.proofs.lemmas.Map.Text.{btree_map_updates_str}
use Rattle.std.specs.BTreeMap.{BTreeMap, Updates, get}
use Rattle.std.specs.Cmp.Lexicographic.{slice_cmp}
use Rattle.std.specs.Map.{update}
use Rattle.std.specs.Ordering.{nat_cmp}
use Rattle.std.specs.Str.{bytes_eq}
use Rattle.xml_grammar.specs.Code.Places.{place_in}
use Rattle.xml_grammar.proofs.scope.restore.Goals as goal

put_back : {E : Type 0} (r : Result (Option ℕ) E) (m n : BTreeMap (Bor (List ℕ)) ℕ) (p : Bor (List ℕ)) (place : ℕ)
    → OnOk r (Updates (λ x y. slice_cmp nat_cmp x.now y.now) m n p (Some place)) → OnErr r (get (λ x y. slice_cmp nat_cmp x.now y.now) m p ≡ None) → IsSome (place_in m p.now)
    → (q : List ℕ) → place_in n q ≡ update bytes_eq (place_in m) p.now (Some place) q
put_back (Ok o) m n p place u a s q = btree_map_updates_str p.now m n (Some place) u q
put_back (Err e) m n p place u a s q = let none = subst IsSome a s in absurd cc

pub returns-in-Some : goal.returns-in-Some
returns-in-Some c = λ q.
    put_back c.insert.result c.args.latest.now c.insert.new.self c.args.prefix c.in-Some.place c.insert.ensures.updates c.insert.ensures.absent c.requires q
    ∙ ap (λ w. update bytes_eq (place_in c.args.latest.now) c.args.prefix.now w q) (sym c.in-Some.is)

pub returns-in-None : goal.returns-in-None
returns-in-None c = λ q.
    btree_map_updates_str c.args.prefix.now c.args.latest.now c.remove.new.self None c.remove.ensures.updates q
    ∙ ap (λ w. update bytes_eq (place_in c.args.latest.now) c.args.prefix.now w q) (sym c.in-None.is)
