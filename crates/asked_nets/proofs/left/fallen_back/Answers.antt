use Rattle.std.proofs.Common.{ap, ◌∙◌, ◌+◌, take}
use Rattle.site_memory.specs.Devices.{calls_in}
use Rattle.site_memory.specs.declared.machine.MemSite.{MemSite}
use Rattle.mirrored_nets.proofs.HostSteps.{back_so}
use Rattle.asked_nets.proofs.left.fallen_back.Goals as goal

pub returns-clause-fell : goal.returns-clause-fell
returns-clause-fell c = λ old same.
    let back = c.in-Ok.ensures.back in
    record {
      mid = c.go_back.new.self;
      back = record {
        calls_are =
            back.calls_are
            ∙ back_so (calls_in c.args.site.device) c.args.before c.args.kept c.saturating_add.result c.min-calls.result c.calls.result c.saturating_add.ensures c.calls.ensures c.calls.type_inv c.min-calls.ensures
            ∙ ap (λ k. take (k + c.args.kept) (calls_in c.args.site.device)) same;
        opening = back.opening;
        arm = back.arm;
        wanted = back.wanted;
      };
      left = c.crash.ensures.left;
      links = ap (λ (s : MemSite). s.links) c.crash.ensures.others ∙ ap (λ (s : MemSite). s.links) c.in-Ok.ensures.others;
    }
