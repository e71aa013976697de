-- A report agrees in print.
use Rattle.std.proofs.Common.{ℕ, List, [], ◌∷◌, ◌++◌, ◌≡◌, ◌<◌, ◌^◌, inl, inr, Bool, true, false, refl, length, map, sym, ap, subst, ◌∙◌}
use Rattle.std.specs.Prelude.{codes, decimal, filter, if◌then◌else◌}
use Rattle.std.specs.List.{AllByRecursion}
use Rattle.std.proofs.lemmas.List.{append_assoc}
use Rattle.at_base.specs.IdText.{id_text}
use Rattle.at_base.specs.Names.{kind_letter}
use Rattle.at_base.specs.Numbers.{Numbers}
use Rattle.at_base.specs.declared.outs.Effect.{Effect}
use Rattle.at_base.specs.declared.outs.Effect.TheVariants as effects
use Rattle.at_model.specs.World.{Happened, World, example_hosts, HaveOwnAddresses}
use Rattle.effect_words.specs.Words.{ending_word, told_word}
use Rattle.model_laws.specs.Agreement.{IsAgreed, IsIn}
use Rattle.model_laws.specs.ReachedWorlds.{Reached}
use Rattle.replay_cmd.specs.Lines.{effect_line, item_line, leaf_words}
use Rattle.reported_effects.specs.EffectLines.{Tells, happened_line, is_effect_line, with_end}
use Rattle.reported_effects.proofs.PrintedTexts.{lines_are}
use Rattle.schedules.specs.Words.{lines_of}
use Rattle.printed_agreement.specs.PlainPosts.{IsPlain}
use Rattle.printed_agreement.specs.PrintedAgreement.{AgreesInPrint, ending_line}
use Rattle.printed_agreement.specs.ReportLines.{AreTold, effect_text, happened_text, line_in, who}
use Rattle.printed_agreement.proofs.Chunks.{Printed}
use Rattle.printed_agreement.proofs.Endings.{agrees_in_print}

-- an LF at the end

no_end : (ys : List ℕ) → [] ≡ ys ++ 10 ∷ [] → ⊥
no_end [] e = cc
no_end (y ∷ ys) e = cc

cut_end : (xs ys : List ℕ) → xs ++ 10 ∷ [] ≡ ys ++ 10 ∷ [] → xs ≡ ys
cut_end [] [] e = refl
cut_end [] (y ∷ ys) e = absurd (no_end ys (tail 10 y [] (ys ++ 10 ∷ []) e))
  where
    tail : (a b : ℕ) (us vs : List ℕ) → a ∷ us ≡ b ∷ vs → us ≡ vs
    tail a b us vs f = cc
cut_end (x ∷ xs) [] e = absurd (no_end xs (sym (tail x 10 (xs ++ 10 ∷ []) [] e)))
  where
    tail : (a b : ℕ) (us vs : List ℕ) → a ∷ us ≡ b ∷ vs → us ≡ vs
    tail a b us vs f = cc
cut_end (x ∷ xs) (y ∷ ys) e = λ i. parts.0 i ∷ cut_end xs ys parts.1 i
  where
    heads : (a b : ℕ) (us vs : List ℕ) → a ∷ us ≡ b ∷ vs → (a ≡ b) × (us ≡ vs)
    heads a b us vs f = (cc, cc)

    parts : (x ≡ y) × (xs ++ 10 ∷ [] ≡ ys ++ 10 ∷ [])
    parts = heads x y (xs ++ 10 ∷ []) (ys ++ 10 ∷ []) e

-- the line of what happened

item_ends : (item : List ℕ) (n : ℕ) (id : Numbers) (how : List ℕ) → item_line item n id how ≡ with_end (ending_line item (who n id) how)
unfolding item_line
item_ends item n id how =
    sym (append_assoc item _ (codes "\n")
    ∙ ap (λ t. item ++ (codes " " ++ t)) (append_assoc (decimal n) _ (codes "\n")
    ∙ ap (λ t. decimal n ++ (codes " " ++ t)) (append_assoc (id_text id) (codes " " ++ how) (codes "\n"))))

effect_ends : (n : ℕ) (e : Effect) → effect_line n e ≡ with_end (effect_text n e)
unfolding leaf_words
effect_ends n (effects.Root id what) = item_ends (codes "root") n id (ending_word what)
effect_ends n (effects.Sub id what) = item_ends (codes "sub") n id (ending_word what)
effect_ends n (effects.Leaf id kind what) = item_ends (codes "leaf") n id (kind_letter kind ++ (codes " " ++ ending_word what))
effect_ends n (effects.Told id what) = item_ends (codes "told") n id (told_word what)

told_in : (line : List ℕ) (lines : List (List ℕ)) → is_effect_line line ≡ true → IsIn line lines → IsIn line (filter is_effect_line lines)
told_in line [] tells there = absurd there
told_in line (x ∷ xs) tells (inl e) = rw (sym (ap is_effect_line e) ∙ tells) (inl e)
told_in line (x ∷ xs) tells (inr i) = by (is_effect_line x) (told_in line xs tells i)
  where
    by : (b : Bool) → IsIn line (filter is_effect_line xs) → IsIn line (if b then x ∷ filter is_effect_line xs else filter is_effect_line xs)
    by true k = inr k
    by false k = k

mapped : (line : List ℕ) (lines : List (List ℕ)) → IsIn line lines → IsIn (with_end line) (map with_end lines)
mapped line [] there = absurd there
mapped line (x ∷ xs) (inl e) = inl (ap with_end e)
mapped line (x ∷ xs) (inr i) = inr (mapped line xs i)

shown_in : (line : List ℕ) (all : List Happened) → IsIn (with_end line) (map happened_line all) → IsIn line (map happened_text all)
shown_in line [] there = absurd there
shown_in line (h ∷ hs) (inl e) = inl (cut_end line (happened_text h) (e ∙ effect_ends h.node h.what))
shown_in line (h ∷ hs) (inr i) = inr (shown_in line hs i)

is_told : (text : List ℕ) (all : List Happened) → Tells text all → (line : List ℕ) → is_effect_line line ≡ true → IsIn line (lines_of text) → IsIn line (map happened_text all)
is_told text all tells line is there = shown_in line all (subst (IsIn (with_end line)) tells (mapped line _ (told_in line (lines_of text) is there)))

are_told : (text : List ℕ) (all : List Happened) → Tells text all → AreTold (lines_of text) all
are_told text all tells = record {
  root = λ x how there. is_told text all tells (ending_line (codes "root") x how) refl there;
  sub = λ x how there. is_told text all tells (ending_line (codes "sub") x how) refl there;
  leaf = λ x how there. is_told text all tells (ending_line (codes "leaf") x how) refl there;
}

-- A text of lines that stand in a world, and that tells what happened there.
pub printed_agrees : (count : ℕ) (w : World) (text : List ℕ) → count < 2 ^ 64 → HaveOwnAddresses (example_hosts count) → Reached (example_hosts count) w → AllByRecursion (IsPlain count) w.posted
    → length w.posted < 2 ^ 64 → Printed count w text → Tells text w.happened → IsAgreed w → AgreesInPrint (lines_of text)
printed_agrees count w text few distinct reached plain short p tells agreed =
    agrees_in_print count few distinct w reached plain short p.entries (lines_of text) (ap lines_of p.reads.is ∙ lines_are (map line_in p.entries) p.reads.whole) p.sound
    (are_told text w.happened tells) agreed
