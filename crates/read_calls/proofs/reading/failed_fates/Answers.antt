use Rattle.std.proofs.Common.{ap, arith, inl, inr, subst, sym, ◌-◌, ◌<◌, ◌≤◌, ◌⊎◌, ◌∙◌, false}
use Rattle.node_events.specs.NodeEvents.{struck}
use Rattle.site_memory.specs.Entries.{mades}
use Rattle.mirrored_nets.specs.AnewCalls.{before_anew}
use Rattle.read_calls.proofs.EntryRows.{long_is, none_is, some_is}
use Rattle.read_calls.proofs.NamedFates.{append_named, bare_named, none_named}
use Rattle.read_calls.proofs.reading.failed_fates.Goals as goal
use Rattle.read_calls.proofs.reading.failed_fates.Goals.{then-k-lines-via-then-k-lines, then-k-lines-via-else-k-lines+then-before_anew-k}

pub returns-then-k-lines : goal.returns-then-k-lines
returns-then-k-lines c = λ armed.
    let far : (c.args.k ≤ c.args.lines) ⊎ (before_anew c.args.lines (mades c.args.calls.now) < c.args.k) = elim c.then-k-lines.branch [
      | then-k-lines-via-then-k-lines w ↦ inl w.if-k-lines.true
      | then-k-lines-via-else-k-lines+then-before_anew-k w ↦ inr (subst (λ n. n < c.args.k) w.before_anew.ensures w.if-before_anew-k.true)
    ] in
    sym (none_named c.args.lines c.args.k (mades c.args.calls.now) armed far)

pub returns-then-disk-eq0 : goal.returns-then-disk-eq0
returns-then-disk-eq0 c = λ armed.
    bare_named c.args.lines c.args.k (mades c.args.calls.now) armed (omega arith) (subst (λ n. c.args.k ≤ n) c.before_anew.ensures (omega arith))
    (none_is c.args.lines c.args.calls.now c.behind.result.now c.behind.ensures c.disk_calls-disk.result c.disk_calls-disk.ensures.disk c.disk_calls-disk.ensures.within (omega arith))

pub returns-else-disk-eq0 : goal.returns-else-disk-eq0
returns-else-disk-eq0 c = λ armed.
    ap (λ n. struck n false)
    (c.saturating_sub-before.ensures ∙ ap (λ n. c.args.k - c.args.lines - n) (sym (long_is c.args.lines c.args.calls.now c.behind.result.now c.behind.ensures c.disk_calls-disk.result c.disk_calls-disk.ensures.disk c.disk_calls-disk.ensures.within)))
    ∙ append_named c.args.lines c.args.k (mades c.args.calls.now) armed (omega arith) (subst (λ n. c.args.k ≤ n) c.before_anew.ensures (omega arith))
    (some_is c.args.lines c.args.calls.now c.behind.result.now c.behind.ensures c.disk_calls-disk.result c.disk_calls-disk.ensures.disk c.disk_calls-disk.ensures.within (omega arith))
