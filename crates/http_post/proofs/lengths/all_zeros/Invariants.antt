use Rattle.std.proofs.Common.{◌≡◌, drop, nat_eq}
use Rattle.std.specs.List.{list_all}
use Rattle.http_post.proofs.lengths.all_zeros.Given as goal

abbrev pub invariant-loop-digit : goal.invariant-loop-digit
invariant-loop-digit l = list_all (nat_eq 48) (drop l.digit-index l.digits) ≡ list_all (nat_eq 48) l.digits
