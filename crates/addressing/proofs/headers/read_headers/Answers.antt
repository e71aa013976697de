use Rattle.std.proofs.Common.{◌∙◌, Ok, ap, sym}
use Rattle.std.specs.Option.{option_copied}
use Rattle.addressing.proofs.RepeatedHeaders.{headers_so}
use Rattle.addressing.proofs.headers.read_headers.Goals as goal

pub returns : goal.returns
returns c =
    headers_so c.args.blocks.now c.in_ok-own.own c.in_ok-headers.headers (option_copied c.first-context.result) c.in_ok-own.ensures c.in_ok-headers.ensures c.first-context.ensures
    ∙ ap Ok (sym c.with_context.ensures)
