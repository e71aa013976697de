-- An endpoint from the look-ups of its parts.
use Rattle.std.proofs.Common.{◌≡◌, Option, Result, IfOk, subst}
use Rattle.std.specs.Prelude.{codes}
use Rattle.xml_profile.specs.declared.tree.Tree.{Tree}
use Rattle.at_base.specs.declared.epr.Epr.{Epr}
use Rattle.addressing.specs.Endpoints.{epr_of, joined, part_of}

pub from_parts : {E : Type 0} (r : Result (Option Epr) E) (t : Tree) (x y z : Option (Option Tree)) → x ≡ part_of t (codes "Address")
    → y ≡ part_of t (codes "ReferenceParameters") → z ≡ part_of t (codes "Metadata")
    → IfOk r (λ e. e ≡ joined x y z) → IfOk r (λ e. e ≡ epr_of t)
from_parts r t x y z p q s h =
    let e : joined x y z ≡ epr_of t = λ i. joined (p i) (q i) (s i) in
    subst (λ (value : Option Epr). IfOk r (λ v. v ≡ value)) e h
