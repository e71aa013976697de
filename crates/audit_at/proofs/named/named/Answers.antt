use Rattle.std.proofs.Common.{◌≡◌, ◌++◌, ◌∷◌, [], ◌∙◌, true, Some, None, sym, ap}
use Rattle.std.specs.Prelude.{is_some}
use Rattle.endpoints.specs.Addresses.{slash, split_at}
use Rattle.audit_at.specs.Superiors.{named, named_at}
use Rattle.audit_at.proofs.Names.{found_there, goes_further}
use Rattle.audit_at.proofs.named.named.Goals as goal

pub returns-in-Some : goal.returns-in-Some
returns-in-Some c =
    let parted : is_some (split_at slash c.loop-rest.rest.now) ≡ true = cc (c.has_slash.ensures, c.loop-rest-test.true) in
    let item : Some c.in-Some.item ≡ named_at c.args.address.now c.as_str.result.now = cc (c.in_ok-item.ensures, c.in-Some.is) in
    found_there c.args.address.now c.loop-rest.base c.loop-rest.rest.now c.as_str.result.now c.before_slash.result.now c.in-Some.item (named c.args.address.now)
    parted c.before_slash.ensures (c.as_str.ensures ∙ c.in_ok-push_str.ensures.ok) item c.loop-rest.invariant.1

pub loop-rest-preserved : goal.loop-rest-preserved
loop-rest-preserved c =
    let parted : is_some (split_at slash c.loop-rest.rest.now) ≡ true = cc (c.has_slash.ensures, c.loop-rest-test.true) in
    let none : None ≡ named_at c.args.address.now c.as_str.result.now = cc (c.in_ok-item.ensures, c.in_default.is) in (
      c.behind_slash-rest.utf8,
      goes_further c.args.address.now c.loop-rest.base c.loop-rest.rest.now c.as_str.result.now c.push_str-in-loop-rest.new.self c.before_slash.result.now c.behind_slash-rest.result.now
          (named c.args.address.now) parted c.before_slash.ensures c.behind_slash-rest.ensures (c.as_str.ensures ∙ c.in_ok-push_str.ensures.ok) none
          (c.in_ok-push_str-2.ensures.ok ∙ ap (λ b. b ++ slash ∷ []) (sym c.as_str.ensures)) c.loop-rest.invariant.1,
    )
