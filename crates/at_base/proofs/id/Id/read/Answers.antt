use Rattle.std.proofs.Common.{Some, subst, sym, ap, ◌∙◌}
use Rattle.at_base.specs.IdText.{SpellsId}
use Rattle.at_base.proofs.IdText.{id_splits, id_utf8, id_incarnation, id_counter, SplitsId, refused, taken, clash, agree, same_id}
use Rattle.at_base.proofs.id.Id.read.Goals as goal

pub returns-in_err-text-clause-every : goal.returns-in_err-text-clause-every
returns-in_err-text-clause-every c = λ id s.
    absurd (refused c.from_utf8.result _ _ c.from_utf8.ensures.cases (sym c.ok.ensures.value ∙ c.in_err-text.was)
    (λ e h. h.0 (id_utf8 c.args.bytes.now id s)))

pub returns-in_err-incarnation-clause-every : goal.returns-in_err-incarnation-clause-every
returns-in_err-incarnation-clause-every c = λ id s.
    let text = taken c.from_utf8.result _ _ c.in_ok-text.text c.from_utf8.ensures.cases (sym c.ok.ensures.value ∙ c.in_ok-text.was) in
    let spelled = subst (λ x. SpellsId x id) (sym text.0) s in
    let parts = id_splits c.in_ok-text.text.now id c.split_once.result c.split_once.ensures.cases spelled in
    absurd (subst (SplitsId id) c.in_err-incarnation.was parts)

pub returns-in_err-incarnation-2-clause-every : goal.returns-in_err-incarnation-2-clause-every
returns-in_err-incarnation-2-clause-every c = λ id s.
    let text = taken c.from_utf8.result _ _ c.in_ok-text.text c.from_utf8.ensures.cases (sym c.ok.ensures.value ∙ c.in_ok-text.was) in
    let spelled = subst (λ x. SpellsId x id) (sym text.0) s in
    let parts = id_splits c.in_ok-text.text.now id c.split_once.result c.split_once.ensures.cases spelled in
    let here = subst (SplitsId id) c.in_ok-incarnation.was parts in
    let first = c.read_number.ensures.every id.incarnation (id_incarnation _ _ id s here.0) in
    absurd (clash c.read_number.result id.incarnation first c.in_err-incarnation-2.was)

pub returns-in_err-counter-clause-every : goal.returns-in_err-counter-clause-every
returns-in_err-counter-clause-every c = λ id s.
    let text = taken c.from_utf8.result _ _ c.in_ok-text.text c.from_utf8.ensures.cases (sym c.ok.ensures.value ∙ c.in_ok-text.was) in
    let spelled = subst (λ x. SpellsId x id) (sym text.0) s in
    let parts = id_splits c.in_ok-text.text.now id c.split_once.result c.split_once.ensures.cases spelled in
    let here = subst (SplitsId id) c.in_ok-incarnation.was parts in
    let first = c.read_number.ensures.every id.incarnation (id_incarnation _ _ id s here.0) in
    let second = c.read_number-2.ensures.every id.counter (id_counter _ _ id s here.1) in
    absurd (clash c.read_number-2.result id.counter second c.in_err-counter.was)

pub returns-clause-every : goal.returns-clause-every
returns-clause-every c = λ id s.
    let text = taken c.from_utf8.result _ _ c.in_ok-text.text c.from_utf8.ensures.cases (sym c.ok.ensures.value ∙ c.in_ok-text.was) in
    let spelled = subst (λ x. SpellsId x id) (sym text.0) s in
    let parts = id_splits c.in_ok-text.text.now id c.split_once.result c.split_once.ensures.cases spelled in
    let here = subst (SplitsId id) c.in_ok-incarnation.was parts in
    let first = c.read_number.ensures.every id.incarnation (id_incarnation _ _ id s here.0) in
    let second = c.read_number-2.ensures.every id.counter (id_counter _ _ id s here.1) in
    let i = agree c.read_number.result _ id.incarnation c.in_ok-incarnation-2.was first in
    let n = agree c.read_number-2.result _ id.counter c.in_ok-counter.was second in
    ap Some (c.new.ensures ∙ same_id (record { incarnation = c.in_ok-incarnation-2.incarnation; counter = c.in_ok-counter.counter }) id i n)
