use Rattle.std.proofs.Common.{◌∙◌, ap, sym, arith}
use Rattle.std.proofs.lemmas.Str.Pattern.{strip_suffix_char}
use Rattle.endpoints.specs.Addresses.{without_slash}
use Rattle.completion_at.proofs.Slashes.{cut, left}
use Rattle.completion_at.proofs.requests.without_slash.Goals as goal

pub returns-in-Some : goal.returns-in-Some
returns-in-Some c =
    let e = rw c.in-Some.is at (strip_suffix_char 47 c.args.url.now c.strip_suffix.result c.strip_suffix.ensures.cases (omega arith)) in
    sym (ap without_slash e ∙ cut c.in-Some.front.now)

pub returns-in-None : goal.returns-in-None
returns-in-None c =
    let e = rw c.in-None.is at (strip_suffix_char 47 c.args.url.now c.strip_suffix.result c.strip_suffix.ensures.cases (omega arith)) in
    sym (left c.args.url.now e)
