-- What is written of an initiator's lines is read as them.
use Rattle.std.proofs.Common.{ℕ, List, [], ◌∷◌, ◌++◌, ◌≡◌, ◌⊎◌, inl, inr, ◌<◌, ◌+◌, ◌^◌, ◌&&◌, true, false, Ok, sym, ◌∙◌, ap, arith, refl, length, map}
use Rattle.std.specs.Fmt.{decimal}
use Rattle.std.specs.List.{AllByRecursion, join_with_byte, list_all}
use Rattle.schedules.specs.declared.initiator_line.InitiatorLine.{InitiatorLine}
use Rattle.schedules.specs.declared.initiator_line.InitiatorLine.TheVariants as lines
use Rattle.schedules.specs.InitiatorLines.{allowed, asked_from, asked_line, asked_words, initiator_lines_of, is_base, is_content, made_by}
use Rattle.schedules.specs.InitiatorLineTexts.{AreAsked, IsAsked, IsMade, are_visible, line_text, words_in, written}
use Rattle.schedules.specs.Schedules.{at_line}
use Rattle.schedules.specs.Values.{kind_in, largest, number_in, vote_in}
use Rattle.schedules.specs.Words.{is_plain, unless_empty, words_of}
use Rattle.at_base.specs.Names.{kind_letter, vote_name}
use Rattle.schedules.proofs.ScheduleRoundtrip.{all_words, decimal_visible, kind_there, kind_visible, ms_back, number_there, then_, vote_there, vote_visible, words_plain}
use Rattle.schedules.proofs.InitiatorWholes.{fed_written}
use Rattle.schedules.proofs.InitiatorRest.{one_more}
use Rattle.schedules.proofs.Texts.{IsKept, IsPlain, all_texts, lines_are as texts_are}
use Rattle.schedules.proofs.Wholes.{fed}

record IsBack (made : ℕ) (l : InitiatorLine) : Type 0 where
  visible : list_all are_visible (words_in l) ≡ true
  read : asked_words made (words_in l) ≡ Ok l

made_back : (made a : ℕ) → made < 2 ^ 64 → IsMade made a → (number_in 1 made (decimal a) ≡ Ok a) × (are_visible (decimal a) ≡ true)
made_back made a few h = (number_there 1 made a h.0 h.1 (omega (arith, h.1, few)), decimal_visible a (omega (arith, h.1, few)))

asked_back : (made : ℕ) (l : InitiatorLine) → made < 2 ^ 64 → IsAsked made l → IsBack made l
asked_back made (lines.Begin url ms) few ((seen, fits), m) =
    let r = ms_back ms m in
    record {
      visible = rw seen (rw r.1 refl);
      read = then_ (number_in 0 largest (decimal ms)) _ ms _ r.0 (then_ (allowed (is_base url)) _ tt _ (ap allowed fits) refl);
    }
asked_back made (lines.Interpose a url) few (h, (seen, fits)) =
    let p = made_back made a few h in
    record {
      visible = rw p.1 (rw seen refl);
      read = then_ (number_in 1 made (decimal a)) _ a _ p.0 (then_ (allowed (is_base url)) _ tt _ (ap allowed fits) refl);
    }
asked_back made (lines.Work a url k v key value) few (h, (seen, fits), (key_seen, key_fits), (value_seen, value_fits)) =
    let p = made_back made a few h in
    let all : (is_content key && is_content value && is_base url) ≡ true = rw key_fits (rw value_fits fits) in
    record {
      visible = rw p.1 (rw seen (rw (kind_visible k) (rw (vote_visible v) (rw key_seen (rw value_seen refl)))));
      read = then_ (number_in 1 made (decimal a)) _ a _ p.0 (then_ (kind_in (kind_letter k)) _ k _ (kind_there k) (then_ (vote_in (vote_name v)) _ v _ (vote_there v)
          (then_ (allowed (is_content key && is_content value && is_base url)) _ tt _ (ap allowed all) refl)));
    }
asked_back made (lines.Commit a false) few h =
    let p = made_back made a few h in
    record { visible = rw p.1 refl; read = then_ (number_in 1 made (decimal a)) _ a _ p.0 refl }
asked_back made (lines.Commit a true) few h =
    let p = made_back made a few h in
    record { visible = rw p.1 refl; read = then_ (number_in 1 made (decimal a)) _ a _ p.0 refl }
asked_back made (lines.Rollback a) few h =
    let p = made_back made a few h in
    record { visible = rw p.1 refl; read = then_ (number_in 1 made (decimal a)) _ a _ p.0 refl }
asked_back made lines.Wait few h = record { visible = refl; read = refl }

-- the words of a line, and that its text isn't empty
record HasWords (l : InitiatorLine) : Type 0 where
  word : List ℕ
  more : List (List ℕ)
  are : words_in l ≡ word ∷ more
  kept : unless_empty (line_text l) ≡ line_text l ∷ []

has_words : (l : InitiatorLine) → HasWords l
has_words (lines.Begin url ms) = record { word = _; more = _; are = refl; kept = refl }
has_words (lines.Interpose a url) = record { word = _; more = _; are = refl; kept = refl }
has_words (lines.Work a url k v key value) = record { word = _; more = _; are = refl; kept = refl }
has_words (lines.Commit a false) = record { word = _; more = _; are = refl; kept = refl }
has_words (lines.Commit a true) = record { word = _; more = _; are = refl; kept = refl }
has_words (lines.Rollback a) = record { word = _; more = _; are = refl; kept = refl }
has_words lines.Wait = record { word = _; more = _; are = refl; kept = refl }

plain_line : (l : InitiatorLine) → list_all are_visible (words_in l) ≡ true → is_plain (line_text l) ≡ true
plain_line l e =
    let h = has_words l in
    ap (λ ws. is_plain (join_with_byte 32 ws)) h.are ∙ words_plain h.word h.more (ap (list_all are_visible) (sym h.are) ∙ e)

words_back : (l : InitiatorLine) → list_all are_visible (words_in l) ≡ true → words_of (line_text l) ≡ words_in l
words_back l e =
    let h = has_words l in
    ap (λ ws. words_of (join_with_byte 32 ws)) h.are ∙ (all_words h.word h.more (ap (list_all are_visible) (sym h.are) ∙ e) ∙ sym h.are)

line_back : (made : ℕ) (l : InitiatorLine) → IsBack made l → asked_line made (line_text l) ≡ Ok l
line_back made l b = rw (plain_line l b.visible) (ap (asked_words made) (words_back l b.visible) ∙ b.read)

lines_back : (made n : ℕ) (ls : List InitiatorLine) → AreAsked made ls → made + length ls < 2 ^ 64 → asked_from made n (map line_text ls) ≡ Ok ls
lines_back made n [] h few = refl
lines_back made n (l ∷ ls) h few =
    let b = asked_back made l (omega (arith, few)) h.0 in
    let k = one_more made l in
    then_ (at_line n (asked_line made (line_text l))) _ l _ (ap (at_line n) (line_back made l b))
    (then_ (asked_from (made_by made l) (n + 1) (map line_text ls)) _ ls _ (lines_back (made_by made l) (n + 1) ls h.1 (omega (arith, few, k))) refl)

all_plain : (made : ℕ) (ls : List InitiatorLine) → AreAsked made ls → made + length ls < 2 ^ 64 → AllByRecursion (λ l. IsPlain (line_text l)) ls
all_plain made [] h few = tt
all_plain made (l ∷ ls) h few =
    let k = one_more made l in
    (plain_line l (asked_back made l (omega (arith, few)) h.0).visible, all_plain (made_by made l) ls h.1 (omega (arith, few, k)))

all_kept : (ls : List InitiatorLine) → AllByRecursion (λ l. IsKept (line_text l)) ls
all_kept [] = tt
all_kept (l ∷ ls) = ((has_words l).kept, all_kept ls)

pub is_read : (text : List ℕ) (ls : List InitiatorLine) → AreAsked 0 ls → length ls < 2 ^ 64 → (text ≡ written ls) ⊎ (text ++ 10 ∷ [] ≡ written ls)
    → initiator_lines_of text ≡ Ok ls
is_read text ls h few e =
    ap (asked_from 0 1)
    (texts_are text (map line_text ls) (all_texts line_text IsPlain ls (all_plain 0 ls h small)) (all_texts line_text IsKept ls (all_kept ls)) (in_texts e))
    ∙ lines_back 0 1 ls h small
  where
    small : 0 + length ls < 2 ^ 64
    small = omega (arith, few)

    in_texts : (text ≡ written ls) ⊎ (text ++ 10 ∷ [] ≡ written ls) → (text ≡ fed (map line_text ls)) ⊎ (text ++ 10 ∷ [] ≡ fed (map line_text ls))
    in_texts (inl e) = inl (e ∙ sym (fed_written ls))
    in_texts (inr e) = inr (e ∙ sym (fed_written ls))
