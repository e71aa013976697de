-- Two turns of nodes that are alike do the same.
use Rattle.std.specs.Prelude.{◌++◌, Some, length}
use Rattle.std.proofs.Common.{subst, sym, ◌∙◌}
use Rattle.carried_meanings.specs.CarriedMeanings.{MeanOneThing}
use Rattle.http_post.specs.Laws.{WaitOrNot}
use Rattle.node_at.specs.Replies.{StepsReply}
use Rattle.node_at.specs.State.{seen}
use Rattle.node_at.specs.declared.role.Role.TheVariants.{All}
use Rattle.node_events.proofs.PlannedSteps.{step_of}
use Rattle.record_bytes.specs.Versions.{AreBodies as RecordsAreBodies}
use Rattle.site_memory.specs.Devices.{calls_in}
use Rattle.site_memory.specs.ToldCalls.{CallsFailAsTold, LinksHold}
use Rattle.determined_nodes.specs.TurnsAreDetermined.{TurnsAreDetermined}
use Rattle.determined_nodes.proofs.DidTurns.{DidTurn, did_turn}
use Rattle.determined_nodes.proofs.Leavings.{OneText, leave_one_way}
use Rattle.determined_nodes.proofs.TwoTurns.{SameTurns, same_turns}

pub turns_are_determined : OneText → MeanOneThing → WaitOrNot → LinksHold → CallsFailAsTold → StepsReply → RecordsAreBodies → TurnsAreDetermined
turns_are_determined one mean wait hold fail reply law bytes fails r s n m p q old new here there made also same machine times H K =
    let X : DidTurn (length (calls_in old.device)) fails bytes r (seen n) (seen m) old new made = did_turn hold fail reply law bytes fails r n m old new made H in
    let Y : DidTurn (length (calls_in here.device)) fails bytes s (seen p) (seen q) here there also = did_turn hold fail reply law bytes fails s p q here there also K in
    let Z : DidTurn (length (calls_in old.device)) fails bytes s (seen p) (seen q) here there also = subst (λ l. DidTurn (length l) fails bytes s (seen p) (seen q) here there also) (sym machine.calls) Y in
    let S : SameTurns r s (seen m) (seen q) made also =
    same_turns (leave_one_way one) (λ b e now t is. (step_of b e now t is).is_plain) (length (calls_in old.device)) fails bytes (mean All bytes) (wait bytes) r s (seen n) (seen m) (seen p) (seen q) made also same H.goes.runs X.hearing
    Z.hearing (X.time ∙ times ∙ sym Z.time) X.went Z.went in (
      S.answer,
      record {
        machines = record {
          calls = S.calls;
          machine = record { opening = X.opening ∙ machine.opening ∙ sym Y.opening; calls = X.grown ∙ (λ i. machine.calls i ++ S.calls i) ∙ sym Y.grown };
          arming = X.arming ∙ H.goes.told ∙ (λ i. Some (record { since = length (machine.calls i); fails = fails })) ∙ sym K.goes.told ∙ sym Y.arming;
        };
        node = S.node;
      },
    )
