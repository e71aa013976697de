use Rattle.std.proofs.Common.{◌∙◌, ap}
use Rattle.xml_profile.specs.Prefixes.{addressing}
use Rattle.soap_profile.specs.Children.{at_most_one, named}
use Rattle.addressing.specs.Headers.{is_many}
use Rattle.addressing.proofs.RepeatedHeaders.{repeated_so}
use Rattle.addressing.proofs.headers.is_repeated.Goals as goal

pub returns : goal.returns
returns c =
    repeated_so c.one.result c.is_none.result _ c.one.ensures c.is_none.ensures
    ∙ ap (λ local. is_many (at_most_one (named c.args.headers.now addressing local))) c.local_name.ensures
