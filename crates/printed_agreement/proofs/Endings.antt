-- The lines that tell how something ended, each as what happened.
use Rattle.std.proofs.Common.{ℕ, List, [], ◌∷◌, ◌++◌, ◌≡◌, ◌⊎◌, inl, inr, ◌<◌, ◌^◌, drop, length, map, sym, ap, subst, arith, refl}
use Rattle.std.specs.Prelude.{codes, decimal}
use Rattle.std.specs.List.{AllByRecursion}
use Rattle.at_base.specs.IdText.{IsId, id_text}
use Rattle.at_base.specs.Names.{kind_letter}
use Rattle.at_base.specs.declared.notice.Kind.{Kind}
use Rattle.at_base.specs.declared.notice.Kind.TheVariants as kinds
use Rattle.at_base.specs.declared.outs.Effect.{Effect}
use Rattle.at_base.specs.declared.outs.Effect.TheVariants as effects
use Rattle.at_base.specs.declared.outs.Ending.{Ending}
use Rattle.at_base.specs.declared.outs.Ending.TheVariants as endings
use Rattle.at_model.specs.World.{Happened, Who, World, example_hosts, happened_at, HaveOwnAddresses}
use Rattle.effect_words.specs.Words.{ending_word}
use Rattle.model_laws.specs.Agreement.{HasAborted, HasEnded, IsAgreed, IsIn, IsOf}
use Rattle.model_laws.specs.Agreement.{itself as itself_of, below as below_of}
use Rattle.model_laws.specs.ReachedWorlds.{Reached}
use Rattle.printed_agreement.specs.PlainPosts.{IsPlain}
use Rattle.printed_agreement.specs.PrintedAgreement.{AgreesInPrint, Ends, IsOneOf, below, ending_line, itself}
use Rattle.printed_agreement.specs.ReportLines.{AreTold, Entry, LinesAgree, Sound, effect_text, happened_text, line_in, who}
use Rattle.printed_agreement.proofs.Entries.{taken}
use Rattle.printed_agreement.proofs.Texts.{apart, below_digits, decimal_lacks, id_alone, id_lacks, number_alone, parted}

-- words

same_word : (a b : Ending) → ending_word a ≡ ending_word b → a ≡ b
same_word endings.Committed endings.Committed e = refl
same_word endings.Committed endings.Aborted e = absurd (apart 0 _ _ e refl)
same_word endings.Committed endings.Lost e = absurd (apart 0 _ _ e refl)
same_word endings.Aborted endings.Committed e = absurd (apart 0 _ _ e refl)
same_word endings.Aborted endings.Aborted e = refl
same_word endings.Aborted endings.Lost e = absurd (apart 0 _ _ e refl)
same_word endings.Lost endings.Committed e = absurd (apart 0 _ _ e refl)
same_word endings.Lost endings.Aborted e = absurd (apart 0 _ _ e refl)
same_word endings.Lost endings.Lost e = refl

-- an item that a node and an id can name
pub record IsNamed (x : Who) : Type 0 where
  pub node : x.node < 2 ^ 64
  pub id : IsId x.id

abbrev behind_item : Who → List ℕ → List ℕ
behind_item x how = decimal x.node ++ (codes " " ++ (id_text x.id ++ (codes " " ++ how)))

item_parts : (x y : Who) (how other : List ℕ) → IsNamed x → behind_item y other ≡ behind_item x how → (y ≡ x) × (other ≡ how)
item_parts x y how other named e =
    let (node, a) = parted 32 (decimal y.node) (decimal x.node) _ _ (decimal_lacks 32 y.node (below_digits 32 (omega arith))) (decimal_lacks 32 x.node (below_digits 32 (omega arith))) e in
    let (id, words) = parted 32 (id_text y.id) (id_text x.id) other how (id_lacks 32 y.id (below_digits 32 (omega arith)) refl) (id_lacks 32 x.id (below_digits 32 (omega arith)) refl) a in
    let one = number_alone x.node y.node named.node node in
    let two = id_alone x.id y.id named.id id in
    ((λ i. record { node = one i; id = two i }), words)

-- what a line tells

root_is : (x : Who) (what : Ending) (n : ℕ) (e : Effect) → IsNamed x → effect_text n e ≡ ending_line (codes "root") x (ending_word what) → happened_at x.node (effects.Root x.id what) ≡ happened_at n e
root_is x what n (effects.Root id how) named e =
    let (same, words) = item_parts x (who n id) (ending_word what) (ending_word how) named (ap (drop 5) e) in
    sym (λ i. happened_at (same i).node (effects.Root (same i).id (same_word how what words i)))
root_is x what n (effects.Sub id how) named e = absurd (apart 0 _ _ e refl)
root_is x what n (effects.Leaf id kind how) named e = absurd (apart 0 _ _ e refl)
root_is x what n (effects.Told id how) named e = absurd (apart 0 _ _ e refl)

sub_is : (x : Who) (what : Ending) (n : ℕ) (e : Effect) → IsNamed x → effect_text n e ≡ ending_line (codes "sub") x (ending_word what) → happened_at x.node (effects.Sub x.id what) ≡ happened_at n e
sub_is x what n (effects.Sub id how) named e =
    let (same, words) = item_parts x (who n id) (ending_word what) (ending_word how) named (ap (drop 4) e) in
    sym (λ i. happened_at (same i).node (effects.Sub (same i).id (same_word how what words i)))
sub_is x what n (effects.Root id how) named e = absurd (apart 0 _ _ e refl)
sub_is x what n (effects.Leaf id kind how) named e = absurd (apart 0 _ _ e refl)
sub_is x what n (effects.Told id how) named e = absurd (apart 0 _ _ e refl)

leaf_words_are : (kind : Kind) (how what : Ending) → kind_letter kind ++ (codes " " ++ ending_word how) ≡ codes "d " ++ ending_word what → (kind ≡ kinds.Durable) × (how ≡ what)
leaf_words_are kinds.Durable how what e = (refl, same_word how what (ap (drop 2) e))
leaf_words_are kinds.Volatile how what e = absurd (apart 0 _ _ e refl)

leaf_is : (x : Who) (what : Ending) (n : ℕ) (e : Effect) → IsNamed x → effect_text n e ≡ ending_line (codes "leaf") x (codes "d " ++ ending_word what)
    → happened_at x.node (effects.Leaf x.id kinds.Durable what) ≡ happened_at n e
leaf_is x what n (effects.Leaf id kind how) named e =
    let (same, words) = item_parts x (who n id) (codes "d " ++ ending_word what) (kind_letter kind ++ (codes " " ++ ending_word how)) named (ap (drop 5) e) in
    let (durable, ends) = leaf_words_are kind how what words in
    sym (λ i. happened_at (same i).node (effects.Leaf (same i).id (durable i) (ends i)))
leaf_is x what n (effects.Root id how) named e = absurd (apart 0 _ _ e refl)
leaf_is x what n (effects.Sub id how) named e = absurd (apart 0 _ _ e refl)
leaf_is x what n (effects.Told id how) named e = absurd (apart 0 _ _ e refl)

found : (line : List ℕ) (goal : Happened) (all : List Happened) → ((h : Happened) → happened_text h ≡ line → goal ≡ h) → IsIn line (map happened_text all) → IsIn goal all
found line goal [] is there = absurd there
found line goal (h ∷ hs) is (inl e) = inl (is h (sym e))
found line goal (h ∷ hs) is (inr i) = inr (found line goal hs is i)

pub ended : (lines : List (List ℕ)) (w : World) (x : Who) (what : Ending) → AreTold lines w.happened → IsNamed x → Ends lines x (ending_word what) → HasEnded w x what
ended lines w x what told named (inl i) = inl (found _ _ w.happened (λ h e. root_is x what h.node h.what named e) (told.root x (ending_word what) i))
ended lines w x what told named (inr (inl i)) = inr (inl (found _ _ w.happened (λ h e. sub_is x what h.node h.what named e) (told.sub x (ending_word what) i)))
ended lines w x what told named (inr (inr i)) = inr (inr (found _ _ w.happened (λ h e. leaf_is x what h.node h.what named e) (told.leaf x (codes "d " ++ ending_word what) i)))

module _ (count : ℕ) (few : count < 2 ^ 64) (distinct : HaveOwnAddresses (example_hosts count)) (w : World) (reached : Reached (example_hosts count) w)
    (plain : AllByRecursion (IsPlain count) w.posted) (short : length w.posted < 2 ^ 64) where
  is_of : (es : List Entry) (lines : List (List ℕ)) → lines ≡ map line_in es → Sound (example_hosts count) w es → (x root : Who) → IsNamed root → IsOneOf lines x root → IsOf w x root × IsNamed x
  is_of es lines is sound x root named (itself same) = (itself_of same, subst IsNamed (sym same) named)
  is_of es lines is sound x root named (below t takes rest) =
      let (number, accepted, near, id) = taken count few distinct w reached plain short es lines t x is sound takes in
      (below_of t number accepted (is_of es lines is sound t root named rest).0, record { node = omega (arith, near, few); id = id })

  -- Lines of this world agree.
  pub agrees_in_print : (es : List Entry) (lines : List (List ℕ)) → lines ≡ map line_in es → Sound (example_hosts count) w es → AreTold lines w.happened → IsAgreed w → AgreesInPrint lines
  agrees_in_print es lines is sound told agreed s =
      let root : IsNamed s.root = record { node = s.node; id = s.id } in
      let (one, named) = is_of es lines is sound s.one s.root root s.one_of in
      let (other, known) = is_of es lines is sound s.other s.root root s.other_of in
      agreed.whole (record {
        root = s.root;
        one = s.one;
        other = s.other;
        one_of = one;
        other_of = other;
        committed = ended lines w s.one endings.Committed told named s.committed;
        aborted = lost s.other known s.aborted;
      })
    where
      lost : (x : Who) → IsNamed x → Ends lines x (codes "aborted") ⊎ Ends lines x (codes "lost") → HasAborted w x
      lost x named (inl i) = inl (ended lines w x endings.Aborted told named i)
      lost x named (inr i) = inr (ended lines w x endings.Lost told named i)

pub lines_agree : LinesAgree
lines_agree count w es few distinct reached plain short sound told agreed = agrees_in_print count few distinct w reached plain short es (map line_in es) refl sound told agreed
