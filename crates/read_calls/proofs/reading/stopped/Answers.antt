use Rattle.std.proofs.Common.{Some, ap, arith, subst, sym, ◌≤◌, ◌∙◌}
use Rattle.site_memory.specs.Entries.{mades}
use Rattle.call_readings.specs.declared.became.Became.TheVariants as becomes
use Rattle.read_calls.proofs.EntryRows.{count_of}
use Rattle.read_calls.proofs.OneReading.{stops_one}
use Rattle.read_calls.proofs.reading.stopped.Goals as goal

pub returns : goal.returns
returns c = λ became fates until reads goes.
    let within = subst (λ n. c.args.k ≤ n) (sym (count_of c.args.calls.now)) c.requires.within in
    let one = stops_one c.args.lines (mades c.args.calls.now) c.args.k c.args.choice c.requires.least within became fates until reads goes in
    let (b, u, f) = one.steps (subst (λ n. c.args.k ≤ n) c.before_anew.ensures (omega arith)) in
    record {
      became_is = ap (λ n. becomes.Falls n c.args.choice) c.kept_at-kept.ensures ∙ b;
      fates_are = c.stop_fates.ensures fates f;
      until_is = ap (λ n. Some n) c.fate_number.ensures ∙ u;
    }
