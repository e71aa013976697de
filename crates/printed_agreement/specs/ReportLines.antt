-- The lines of a report, each as what it is of: a delivery, a message, or neither; and what it is that they are those of a world.
use Rattle.std.specs.Prelude.{ℕ, List, [], ◌∷◌, ◌++◌, Some, codes, length, map, ◌≡◌, ◌<◌, ◌^◌}
use Rattle.std.specs.List.{AllByRecursion}
use Rattle.at_base.specs.Names.{kind_letter}
use Rattle.at_base.specs.Numbers.{Numbers}
use Rattle.at_base.specs.declared.epr.Epr.{Epr}
use Rattle.at_base.specs.declared.message.Message.TheVariants as messages
use Rattle.at_base.specs.declared.outs.Effect.{Effect}
use Rattle.at_base.specs.declared.outs.Effect.TheVariants as effects
use Rattle.at_model.specs.Views.{message_name, path_in, receiver_number}
use Rattle.at_model.specs.World.{Happened, Posted, Who, World, example_hosts, nth, Hosts, HaveOwnAddresses}
use Rattle.effect_words.specs.Words.{ending_word, told_word}
use Rattle.model_laws.specs.Agreement.{IsAgreed, IsIn}
use Rattle.model_laws.specs.ReachedWorlds.{Reached}
use Rattle.printed_agreement.specs.PlainPosts.{IsPlain}
use Rattle.printed_agreement.specs.PrintedAgreement.{AgreesInPrint, delivery_line, ending_line, message_line}
use Rattle.printed_agreement.specs.RegisterAnswers.{Answers}

pub data Entry : Type 0 where
  Delivered : ℕ → ℕ → List ℕ → Entry
  Posts : ℕ → Posted → Entry
  Quiet : List ℕ → Entry

abbrev pub line_in : Entry → List ℕ
line_in (Delivered k n status) = delivery_line k n status
line_in (Posts k p) = message_line k p.sender (receiver_number p.receiver) (message_name p.content.message) (path_in p.content.to)
line_in (Quiet line) = line

-- no line of a message or of a delivery
pub record IsQuiet (line : List ℕ) : Type 0 where
  pub message : (k i j : ℕ) (name path : List ℕ) → line ≡ message_line k i j name path → ⊥
  pub delivery : (k n : ℕ) (status : List ℕ) → line ≡ delivery_line k n status → ⊥

abbrev pub Stands : World → Entry → Type 0
Stands w (Delivered k n status) = Unit {0}
Stands w (Posts k p) = nth k w.posted ≡ Some p
Stands w (Quiet line) = IsQuiet line

-- An answer to a Register that stands behind the line of a delivery answers the message that was delivered.
abbrev pub Brings : Hosts → World → Entry → List Entry → Type 0
Brings hosts w (Delivered k n status) (Posts j q ∷ rest) =
    (c : Epr) → q.content.message ≡ messages.RegisterResponse c → (p : Posted) × (nth k w.posted ≡ Some p) × Answers hosts p c
Brings hosts w e rest = Unit {0}

abbrev pub Sound : Hosts → World → List Entry → Type 0
Sound hosts w [] = Unit {0}
Sound hosts w (e ∷ es) = Stands w e × Brings hosts w e es × Sound hosts w es

abbrev pub who : ℕ → Numbers → Who
who n id = record { node = n; id = id }

abbrev pub effect_text : ℕ → Effect → List ℕ
effect_text n (effects.Root id what) = ending_line (codes "root") (who n id) (ending_word what)
effect_text n (effects.Sub id what) = ending_line (codes "sub") (who n id) (ending_word what)
effect_text n (effects.Leaf id kind what) = ending_line (codes "leaf") (who n id) (kind_letter kind ++ (codes " " ++ ending_word what))
effect_text n (effects.Told id what) = ending_line (codes "told") (who n id) (told_word what)

abbrev pub happened_text : Happened → List ℕ
happened_text h = effect_text h.node h.what

-- Each line that tells so tells what happened.
pub record AreTold (lines : List (List ℕ)) (all : List Happened) : Type 0 where
  pub root : (x : Who) (how : List ℕ) → IsIn (ending_line (codes "root") x how) lines → IsIn (ending_line (codes "root") x how) (map happened_text all)
  pub sub : (x : Who) (how : List ℕ) → IsIn (ending_line (codes "sub") x how) lines → IsIn (ending_line (codes "sub") x how) (map happened_text all)
  pub leaf : (x : Who) (how : List ℕ) → IsIn (ending_line (codes "leaf") x how) lines → IsIn (ending_line (codes "leaf") x how) (map happened_text all)

-- Lines of a world that is reached by nodes of the examples agree in print, where the world agrees.
abbrev pub LinesAgree : Type 0
LinesAgree =
    (count : ℕ) (w : World) (es : List Entry) → count < 2 ^ 64 → HaveOwnAddresses (example_hosts count) → Reached (example_hosts count) w → AllByRecursion (IsPlain count) w.posted
    → length w.posted < 2 ^ 64 → Sound (example_hosts count) w es → AreTold (map line_in es) w.happened → IsAgreed w → AgreesInPrint (map line_in es)
