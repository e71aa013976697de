-- Lines that tell how something ended, and lines that don't.
use Rattle.std.specs.Prelude.{◌≡◌, [], ◌∷◌, codes, refl}
use Rattle.std.specs.Fmt.{digits}
use Rattle.at_base.specs.declared.notice.Kind.TheVariants as kinds
use Rattle.at_base.specs.declared.outs.Effect.TheVariants as effects
use Rattle.at_base.specs.declared.outs.Ending.TheVariants as endings
use Rattle.replay_cmd.specs.Lines.{item_line, leaf_words}
use Rattle.reported_effects.specs.EffectLines.{Tells, effect_lines_in}

pub two_of_four :
    effect_lines_in (codes "deliver 11 2 202\nroot 2 1-1 committed\nmsg 12 2>3 Commit /p/d/1-1\ntold 1 1-1 committed\n")
    ≡ codes "root 2 1-1 committed" ∷ codes "told 1 1-1 committed" ∷ []
two_of_four = refl

pub a_message_tells_nothing : effect_lines_in (codes "msg 12 2>3 root /root \nrefused root \nroots 1\n") ≡ []
a_message_tells_nothing = refl

pub an_order_is_told :
    Tells (codes "up 1 1\nleaf 3 1-1 d lost\nup 3 2\nroot 2 1-1 aborted\n")
    (record { node = 3; what = effects.Leaf (record { incarnation = 1; counter = 1 }) kinds.Durable endings.Lost }
    ∷ record { node = 2; what = effects.Root (record { incarnation = 1; counter = 1 }) endings.Aborted } ∷ [])
unfolding digits item_line leaf_words
an_order_is_told = refl
