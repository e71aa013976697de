use Rattle.std.proofs.Common.{[], ap, arith, inl, inr, ◌-◌, ◌<◌, ◌≡◌, ◌⊎◌, ◌∙◌, nat_eq}
use Rattle.std.specs.Prelude.{drop}
use Rattle.site_memory.specs.Entries.{mades}
use Rattle.torn_appends.specs.TornAppends.{stands_behind}
use Rattle.mirrored_nets.specs.Fates.{disk_part}
use Rattle.read_calls.proofs.EntryRows.{none_is, some_is}
use Rattle.read_calls.proofs.OneReading.{last_at_out, last_in_record}
use Rattle.read_calls.proofs.reading.last_fate.Goals as goal
use Rattle.read_calls.proofs.reading.last_fate.Goals.{else-disk_calls-gt0-via-then-disk_calls-gt0+else-k-lines-le4, else-disk_calls-gt0-via-else-disk_calls-gt0}

pub returns-then-k-lines-le4 : goal.returns-then-k-lines-le4
returns-then-k-lines-le4 c = λ before last at kept.
    c.stands_behind.ensures
    ∙ ap (λ n. stands_behind n c.args.choice) (c.saturating_sub.ensures ∙ ap (λ n. n - c.args.lines) c.kept_at-kept.ensures)
    ∙ last_in_record c.args.lines (mades c.args.calls.now) c.args.k c.args.choice c.requires before last at
    (some_is c.args.lines c.args.calls.now c.behind.result.now c.behind.ensures c.disk_calls.result c.disk_calls.ensures.disk c.disk_calls.ensures.within (omega arith)) (omega arith) kept

pub returns : goal.returns
returns c = λ before last at kept.
    let which : (disk_part (drop c.args.lines (mades c.args.calls.now)) ≡ []) ⊎ (4 < c.args.k - c.args.lines) = elim c.else-disk_calls-gt0.branch [
      | else-disk_calls-gt0-via-then-disk_calls-gt0+else-k-lines-le4 w ↦ let past = w.if-k-lines-le4.false in inr (omega (arith, past))
      | else-disk_calls-gt0-via-else-disk_calls-gt0 w ↦
          let few = w.if-disk_calls-gt0.false in
          inl (none_is c.args.lines c.args.calls.now c.behind.result.now c.behind.ensures c.disk_calls.result c.disk_calls.ensures.disk c.disk_calls.ensures.within (omega (arith, few)))
    ] in
    ap (λ n. nat_eq n c.args.k) c.kept_at-kept.ensures ∙ last_at_out c.args.lines (mades c.args.calls.now) c.args.k c.args.choice c.requires before last at which kept
