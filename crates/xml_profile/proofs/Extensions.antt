-- What was added to what was added to.
use Rattle.std.proofs.Common.{◌≡◌, sym, ap, ◌∙◌, ℕ, List, [], ◌++◌, append_assoc, append-nil}
use Rattle.xml_profile.specs.Extensions.{Extends}

pub same : (a : List ℕ) → Extends a a
same a = record { more = []; is = sym (append-nil a) }

pub by : (a b x : List ℕ) → b ≡ a ++ x → Extends a b
by a b x e = record { more = x; is = e }

pub through : (a b c : List ℕ) → Extends a b → Extends b c → Extends a c
through a b c h k = record { more = h.more ++ k.more; is = k.is ∙ (ap (λ x. x ++ k.more) h.is ∙ append_assoc a h.more k.more) }
