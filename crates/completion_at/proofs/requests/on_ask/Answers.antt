use Rattle.std.proofs.Common.{◌≡◌, ◌∙◌, Some, sym}
use Rattle.completion_at.proofs.WorkPosts.{asked}
use Rattle.completion_at.proofs.requests.on_ask.Goals as goal

pub returns-in_ok-work-in-Some : goal.returns-in_ok-work-in-Some
returns-in_ok-work-in-Some c =
    let known : c.args.activity.now.context ≡ Some c.in-Some.context = sym (λ i. (c.activity.view_is i).context) ∙ c.in-Some.is in
    asked c.sends_work.result c.args.moment.now c.args.url.now c.args.key.now c.args.value.now c.args.kind c.args.vote
    c.args.activity.now c.in-Some.context c.next_work.result c.in_ok-work-in-Some.work known c.next_work.ensures
    c.in_ok-work-in-Some.ensures c.sends_work.ensures
