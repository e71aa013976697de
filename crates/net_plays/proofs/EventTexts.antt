-- What is printed of an event, piece by piece.
use Rattle.std.proofs.Common.{ℕ, ◌+◌, ◌≡◌, refl, List, ◌++◌, length, drop, ap, ◌∙◌, sym}
use Rattle.std.specs.Prelude.{Bool, Option}
use Rattle.std.proofs.lemmas.List.{append-nil, append_assoc}
use Rattle.armed_calls.specs.declared.fault.Fault.{Fault}
use Rattle.asked_nets.specs.Behind.{world_behind}
use Rattle.at_base.specs.declared.outs.Effect.{Effect}
use Rattle.at_model.specs.World.{World, WorldEvent, Raw, Deliver, Tick, Turn, Ask, Crash, Up, node_of}
use Rattle.replay_cmd.specs.ReportOf.{behind_of, effect_lines, line_before, line_behind, result_line, step_lines}
use Rattle.world_laws.specs.Moves.{steps_of}
use Rattle.world_laws.specs.declared.posts.Counted.{Counted}
use Rattle.net_plays.specs.EventTexts.{event_lines, losses_by}

two_parts :
    (f : Option Fault) (s : ℕ) (e : WorldEvent) (w v : World) (steps : List Counted)
    → result_line f s e w v steps ≡ line_before e w ++ line_behind f s (node_of e) (behind_of w e) v steps
two_parts f s (Turn n (Deliver k) fates until) w v steps = refl
two_parts f s (Turn n (Tick ms) fates until) w v steps = refl
two_parts f s (Turn n Raw fates until) w v steps = refl
two_parts f s (Ask n l fates until) w v steps = sym (append-nil (line_before (Ask n l fates until) w))
two_parts f s (Crash n) w v steps = sym (append-nil (line_before (Crash n) w))
two_parts f s (Up n landed stop) w v steps = refl

-- the lines of an event behind those that were there
pub happened :
    (down : Bool) (f : Option Fault) (s : ℕ) (text : List ℕ) (w : World) (e : WorldEvent) (v : World) (steps : List Counted) (lost : List Effect) (before after : List ℕ)
    → v ≡ world_behind down w e → steps ≡ steps_of w e → lost ≡ losses_by down w e
    → before ≡ text ++ line_before e w
    → after ≡ before ++ (line_behind f s (node_of e) (behind_of w e) v steps
    ++ (step_lines (node_of e) (length w.posted + 1) (drop (length w.posted) v.posted) steps ++ effect_lines (node_of e) lost))
    → after ≡ text ++ event_lines down f s w e
happened down f s text w e v steps lost before after is_v is_steps is_lost is_before is_after =
    is_after
    ∙ (ap (λ t. t ++ told) is_before
    ∙ (append_assoc text (line_before e w) told
    ∙ ap (λ t. text ++ t)
    (sym (append_assoc (line_before e w) (line_behind f s (node_of e) (behind_of w e) v steps) rest)
    ∙ (ap (λ t. t ++ rest) (sym (two_parts f s e w v steps))
    ∙ (ap (λ x. result_line f s e w x steps ++ (step_lines (node_of e) (length w.posted + 1) (drop (length w.posted) x.posted) steps ++ effect_lines (node_of e) lost)) is_v
    ∙ (ap (λ x. result_line f s e w (world_behind down w e) x ++ (step_lines (node_of e) (length w.posted + 1) (drop (length w.posted) (world_behind down w e).posted) x ++ effect_lines (node_of e) lost)) is_steps
    ∙ ap (λ x. result_line f s e w (world_behind down w e) (steps_of w e) ++ (step_lines (node_of e) (length w.posted + 1) (drop (length w.posted) (world_behind down w e).posted) (steps_of w e) ++ effect_lines (node_of e) x)) is_lost))))))
  where
    rest : List ℕ
    rest = step_lines (node_of e) (length w.posted + 1) (drop (length w.posted) v.posted) steps ++ effect_lines (node_of e) lost

    told : List ℕ
    told = line_behind f s (node_of e) (behind_of w e) v steps ++ rest
