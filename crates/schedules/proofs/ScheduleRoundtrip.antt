-- What is written of a schedule is read as it.
use Rattle.std.proofs.Common.{ℕ, List, [], ◌∷◌, ◌++◌, ◌≡◌, ◌⊎◌, inl, inr, ◌<◌, ◌≤◌, ◌+◌, ◌-◌, ◌^◌, ◌==◌, ◌&&◌, nat_le, nat_lt, not, Bool, true, false, cond, is_some, Some, None, Result, Ok, Err, sym, ◌∙◌, ap, arith, refl, length, map}
use Rattle.std.specs.Fmt.{decimal}
use Rattle.std.specs.Str.{all_ascii_digits}
use Rattle.std.specs.Char.{is_ascii_digit}
use Rattle.std.specs.List.{AllByRecursion, AllPass, join_with_byte, list_all}
use Rattle.std.proofs.lemmas.List.Elements.{All-head, All-tail}
use Rattle.std.proofs.lemmas.Bool.Decides.{nat_tests}
use Rattle.std.proofs.lemmas.Fmt.{digits_decimal, digits_value-decimal}
use Rattle.std.proofs.lemmas.List.Folds.{list_all-append}
use Rattle.at_base.specs.IdText.{IsId, id_text, hyphen}
use Rattle.hex.specs.Hex.{decode_of, is_hex_digit}
use Rattle.hex.specs.declared.error.FromHexError.{FromHexError}
use Rattle.hex.proofs.HexLemmas.{decode_of-ok}
use Rattle.at_base.specs.Numbers.{Numbers}
use Rattle.at_base.specs.declared.notice.Kind.{Kind}
use Rattle.at_base.specs.declared.notice.Kind.TheVariants as kinds
use Rattle.at_base.specs.declared.notice.Vote.{Vote}
use Rattle.at_base.specs.declared.notice.Vote.TheVariants as votes
use Rattle.schedules.specs.declared.line.Leaves.TheVariants as leaves
use Rattle.schedules.specs.declared.line.Line.{Line}
use Rattle.schedules.specs.declared.line.Line.TheVariants as lines
use Rattle.schedules.specs.Meanings.{◌>>=◌}
use Rattle.schedules.specs.Schedules.{at_line, first_line, first_words, lines_from, next_line, next_words, schedule_in, schedule_of}
use Rattle.schedules.specs.Values.{decimal_of, within, number_in, node_in, call_in, id_in, if_decoded, kind_in, vote_in, hex_in, largest}
use Rattle.schedules.specs.Words.{unless_empty, is_plain, is_printable, lines_of, words_of}
use Rattle.schedules.specs.LineTexts.{IsCall, IsHex, IsNext, IsNode, IsSchedule, line_text, words_in, written}
use Rattle.at_base.specs.Names.{kind_letter, vote_name}
use Rattle.schedules.specs.InitiatorLineTexts.{are_visible, is_visible}
use Rattle.schedules.proofs.Decimals.{own, valued}
use Rattle.schedules.proofs.Ids.{id_there}
use Rattle.schedules.proofs.Texts.{IsKept, IsPlain, all_texts, first_part, is_free, lines_are as texts_are, one_part}
use Rattle.schedules.proofs.Wholes.{fed, fed_written}

abbrev digit_holds : ℕ → Type 0
digit_holds c = is_hex_digit c ≡ true

both : (a b : Bool) → (a && b) ≡ true → (a ≡ true) × (b ≡ true)
both true b e = (refl, e)
both false b e = absurd cc

digits_visible : (w : List ℕ) → all_ascii_digits w ≡ true → are_visible w ≡ true
digits_visible [] e = refl
digits_visible (c ∷ cs) e =
    let p = both (is_ascii_digit c) (all_ascii_digits cs) e in
    let here : is_visible c ≡ true = grind (arith, nat_tests, p.0) in
    rw here (digits_visible cs p.1)

pub decimal_visible : (n : ℕ) → n < 2 ^ 64 → are_visible (decimal n) ≡ true
decimal_visible n small = digits_visible (decimal n) (digits_decimal own n small)

id_visible : (i : Numbers) → IsId i → are_visible (id_text i) ≡ true
id_visible i h =
    let a = h.incarnation_most in
    let b = h.counter_most in
    list_all-append is_visible (decimal i.incarnation) (hyphen ∷ decimal i.counter)
    ∙ rw (decimal_visible i.incarnation (omega arith)) (decimal_visible i.counter (omega arith))

pub kind_visible : (k : Kind) → are_visible (kind_letter k) ≡ true
kind_visible kinds.Durable = refl
kind_visible kinds.Volatile = refl

pub vote_visible : (v : Vote) → are_visible (vote_name v) ≡ true
vote_visible votes.Prepared = refl
vote_visible votes.ReadOnly = refl
vote_visible votes.Aborted = refl

free_visible : (c : ℕ) (w : List ℕ) → c ≤ 32 → are_visible w ≡ true → is_free c w ≡ true
free_visible c [] low e = refl
free_visible c (x ∷ xs) low e =
    let p = both (is_visible x) (are_visible xs) e in
    let here : not (x == c) ≡ true = grind (arith, nat_tests, p.0) in
    rw here (free_visible c xs low p.1)

pub all_words : (w : List ℕ) (more : List (List ℕ)) → list_all are_visible (w ∷ more) ≡ true
    → words_of (join_with_byte 32 (w ∷ more)) ≡ w ∷ more
all_words w [] e = one_part 32 w (free_visible 32 w (omega arith) (both (are_visible w) true e).0)
all_words w (v ∷ more) e =
    let p = both (are_visible w) (list_all are_visible (v ∷ more)) e in
    first_part 32 w (join_with_byte 32 (v ∷ more)) (free_visible 32 w (omega arith) p.0) ∙ ap (λ ws. w ∷ ws) (all_words v more p.1)

word_plain : (w : List ℕ) → are_visible w ≡ true → is_plain w ≡ true
word_plain [] e = refl
word_plain (x ∷ xs) e =
    let p = both (is_visible x) (are_visible xs) e in
    let here : is_printable x ≡ true = grind (arith, nat_tests, p.0) in
    rw here (word_plain xs p.1)

pub words_plain : (w : List ℕ) (more : List (List ℕ)) → list_all are_visible (w ∷ more) ≡ true → is_plain (join_with_byte 32 (w ∷ more)) ≡ true
words_plain w [] e = word_plain w (both (are_visible w) true e).0
words_plain w (v ∷ more) e =
    let p = both (are_visible w) (list_all are_visible (v ∷ more)) e in
    list_all-append is_printable w (32 ∷ join_with_byte 32 (v ∷ more)) ∙ rw (word_plain w p.0) (words_plain v more p.1)

pub number_there : (least most n : ℕ) → least ≤ n → n ≤ most → n < 2 ^ 64 → number_in least most (decimal n) ≡ Ok n
number_there least most n low high small =
    let v = digits_value-decimal own n small in
    let d : decimal_of (decimal n) ≡ Some n = valued (decimal n) (ap decimal v) ∙ ap Some v in
    let p : nat_le least n ≡ true = grind (arith, nat_tests, low) in
    let q : nat_le n most ≡ true = grind (arith, nat_tests, high) in
    ap (within least most) d ∙ rw p (rw q refl)

id_back : (i : Numbers) → IsId i → id_in (id_text i) ≡ Ok i
id_back i h = id_there (id_text i) i (record { numbers = h; text = refl })

-- hexadecimal digits
digit_visible : (c : ℕ) → is_hex_digit c ≡ true → is_visible c ≡ true
digit_visible c h =
    by_case (nat_le 65 c && nat_le c 70) (nat_le 97 c && nat_le c 102) (nat_le 48 c && nat_le c 57) refl refl refl h
  where
    by_case : (p q r : Bool) → (nat_le 65 c && nat_le c 70) ≡ p → (nat_le 97 c && nat_le c 102) ≡ q → (nat_le 48 c && nat_le c 57) ≡ r
        → is_some (cond p (Some (c - 55)) (cond q (Some (c - 87)) (cond r (Some (c - 48)) None))) ≡ true → is_visible c ≡ true
    by_case true q r e f g h = let p = both (nat_le 65 c) (nat_le c 70) e in grind (arith, nat_tests, p.0, p.1)
    by_case false true r e f g h = let p = both (nat_le 97 c) (nat_le c 102) f in grind (arith, nat_tests, p.0, p.1)
    by_case false false true e f g h = let p = both (nat_le 48 c) (nat_le c 57) g in grind (arith, nat_tests, p.0, p.1)
    by_case false false false e f g h = absurd cc

all_visible : (w : List ℕ) → AllPass is_hex_digit w → are_visible w ≡ true
all_visible [] h = refl
all_visible (c ∷ cs) h =
    rw (digit_visible c (All-head digit_holds c cs h)) (all_visible cs (All-tail digit_holds c cs h))

hex_visible : (w : List ℕ) → IsHex w → are_visible w ≡ true
hex_visible w h = by_case (decode_of w) refl h
  where
    by_case : (r : Result (List ℕ) FromHexError) → decode_of w ≡ r → if_decoded w r ≡ Ok w → are_visible w ≡ true
    by_case (Ok bytes) d e = all_visible w (decode_of-ok w bytes d).1
    by_case (Err x) d e = absurd cc

pub kind_there : (k : Kind) → kind_in (kind_letter k) ≡ Ok k
kind_there kinds.Durable = refl
kind_there kinds.Volatile = refl

pub vote_there : (v : Vote) → vote_in (vote_name v) ≡ Ok v
vote_there votes.Prepared = refl
vote_there votes.ReadOnly = refl
vote_there votes.Aborted = refl

pub then_ : {A B E : Type 0} (first : Result A E) (next : A → Result B E) (a : A) (r : Result B E) → first ≡ Ok a → next a ≡ r → (first >>= next) ≡ r
then_ first next a r e f = ap (λ x. x >>= next) e ∙ f

record IsBack (nodes : ℕ) (l : Line) : Type 0 where
  visible : list_all are_visible (words_in l) ≡ true
  read : next_words nodes (words_in l) ≡ Ok l

node_back : (nodes n : ℕ) → nodes ≤ 8 → IsNode nodes n → (node_in nodes (decimal n) ≡ Ok n) × (are_visible (decimal n) ≡ true)
node_back nodes n few h = (number_there 1 nodes n h.0 h.1 (omega (arith, h.1)), decimal_visible n (omega (arith, h.1)))

pub ms_back : (n : ℕ) → n ≤ largest → (number_in 0 largest (decimal n) ≡ Ok n) × (are_visible (decimal n) ≡ true)
ms_back n h = (number_there 0 largest n (omega arith) h (omega (arith, h)), decimal_visible n (omega (arith, h)))

call_back : (k : ℕ) → IsCall k → (call_in (decimal k) ≡ Ok k) × (are_visible (decimal k) ≡ true)
call_back k h = (number_there 1 1000000 k h.0 h.1 (omega (arith, h.1)), decimal_visible k (omega (arith, h.1)))

next_back : (nodes : ℕ) (l : Line) → nodes ≤ 8 → IsNext nodes l → IsBack nodes l
next_back nodes (lines.Nodes count) few h = absurd h
next_back nodes (lines.Begin i c ms) few (a, b, d) =
    let p = node_back nodes i few a in
    let q = node_back nodes c few b in
    let r = ms_back ms d in
    record {
      visible = rw p.1 (rw q.1 (rw r.1 refl));
      read = then_ (node_in nodes (decimal i)) _ i _ p.0 (then_ (node_in nodes (decimal c)) _ c _ q.0 (then_ (number_in 0 largest (decimal ms)) _ ms _ r.0 refl));
    }
next_back nodes (lines.Interpose i a c) few (h, k, m) =
    let p = node_back nodes i few h in
    let q = node_back nodes c few m in
    record {
      visible = rw p.1 (rw (id_visible a k) (rw q.1 refl));
      read = then_ (node_in nodes (decimal i)) _ i _ p.0 (then_ (node_in nodes (decimal c)) _ c _ q.0 (then_ (id_in (id_text a)) _ a _ (id_back a k) refl));
    }
next_back nodes (lines.Work i a s k v) few (h, j, m) =
    let p = node_back nodes i few h in
    let q = node_back nodes s few m in
    record {
      visible = rw p.1 (rw (id_visible a j) (rw q.1 (rw (kind_visible k) (rw (vote_visible v) refl))));
      read = then_ (node_in nodes (decimal i)) _ i _ p.0 (then_ (node_in nodes (decimal s)) _ s _ q.0 (then_ (id_in (id_text a)) _ a _ (id_back a j)
          (then_ (kind_in (kind_letter k)) _ k _ (kind_there k) (then_ (vote_in (vote_name v)) _ v _ (vote_there v) refl))));
    }
next_back nodes (lines.Commit i a) few (h, k) =
    let p = node_back nodes i few h in
    record {
      visible = rw p.1 (rw (id_visible a k) refl);
      read = then_ (node_in nodes (decimal i)) _ i _ p.0 (then_ (id_in (id_text a)) _ a _ (id_back a k) refl);
    }
next_back nodes (lines.Rollback i a) few (h, k) =
    let p = node_back nodes i few h in
    record {
      visible = rw p.1 (rw (id_visible a k) refl);
      read = then_ (node_in nodes (decimal i)) _ i _ p.0 (then_ (id_in (id_text a)) _ a _ (id_back a k) refl);
    }
next_back nodes (lines.Deliver m) few (h, k) =
    record {
      visible = rw (decimal_visible m (omega (arith, k))) refl;
      read = then_ (number_in 1 1000000 (decimal m)) _ m _ (number_there 1 1000000 m h k (omega (arith, k))) refl;
    }
next_back nodes (lines.Flush m) few h =
    record {
      visible = rw (decimal_visible m (omega (arith, h))) refl;
      read = then_ (number_in 0 10000 (decimal m)) _ m _ (number_there 0 10000 m (omega arith) h (omega (arith, h))) refl;
    }
next_back nodes (lines.Tick n ms) few (h, k) =
    let p = node_back nodes n few h in
    let r = ms_back ms k in
    record {
      visible = rw p.1 (rw r.1 refl);
      read = then_ (node_in nodes (decimal n)) _ n _ p.0 (then_ (number_in 0 largest (decimal ms)) _ ms _ r.0 refl);
    }
next_back nodes (lines.Crash n) few h =
    let p = node_back nodes n few h in
    record {
      visible = rw p.1 refl;
      read = then_ (node_in nodes (decimal n)) _ n _ p.0 refl;
    }
next_back nodes (lines.Up n) few h =
    let p = node_back nodes n few h in
    record {
      visible = rw p.1 refl;
      read = then_ (node_in nodes (decimal n)) _ n _ p.0 refl;
    }
next_back nodes (lines.Stop n k leaves.Keep) few (h, m, t) =
    let p = node_back nodes n few h in
    let q = call_back k m in
    record {
      visible = rw p.1 (rw q.1 refl);
      read = then_ (node_in nodes (decimal n)) _ n _ p.0 (then_ (call_in (decimal k)) _ k _ q.0 refl);
    }
next_back nodes (lines.Stop n k leaves.Drop) few (h, m, t) =
    let p = node_back nodes n few h in
    let q = call_back k m in
    record {
      visible = rw p.1 (rw q.1 refl);
      read = then_ (node_in nodes (decimal n)) _ n _ p.0 (then_ (call_in (decimal k)) _ k _ q.0 refl);
    }
next_back nodes (lines.Stop n k (leaves.Fill b)) few (h, m, t) =
    let p = node_back nodes n few h in
    let q = call_back k m in
    record {
      visible = rw p.1 (rw q.1 (rw (decimal_visible b (omega (arith, t))) refl));
      read = then_ (node_in nodes (decimal n)) _ n _ p.0 (then_ (call_in (decimal k)) _ k _ q.0
          (then_ (number_in 0 255 (decimal b)) _ b _ (number_there 0 255 b (omega arith) t (omega (arith, t))) refl));
    }
next_back nodes (lines.Inject n d) few (h, m) =
    let p = node_back nodes n few h in
    record {
      visible = rw p.1 (rw (hex_visible d m) refl);
      read = then_ (node_in nodes (decimal n)) _ n _ p.0 (then_ (hex_in d) _ d _ m refl);
    }
next_back nodes (lines.Fail n k) few (h, m) =
    let p = node_back nodes n few h in
    let q = call_back k m in
    record {
      visible = rw p.1 (rw q.1 refl);
      read = then_ (node_in nodes (decimal n)) _ n _ p.0 (then_ (call_in (decimal k)) _ k _ q.0 refl);
    }

-- the words of a line, and that its text isn't empty
record HasWords (l : Line) : Type 0 where
  word : List ℕ
  more : List (List ℕ)
  are : words_in l ≡ word ∷ more
  kept : unless_empty (line_text l) ≡ line_text l ∷ []

has_words : (l : Line) → HasWords l
has_words (lines.Nodes count) = record { word = _; more = _; are = refl; kept = refl }
has_words (lines.Begin i c ms) = record { word = _; more = _; are = refl; kept = refl }
has_words (lines.Interpose i a c) = record { word = _; more = _; are = refl; kept = refl }
has_words (lines.Work i a s k v) = record { word = _; more = _; are = refl; kept = refl }
has_words (lines.Commit i a) = record { word = _; more = _; are = refl; kept = refl }
has_words (lines.Rollback i a) = record { word = _; more = _; are = refl; kept = refl }
has_words (lines.Deliver m) = record { word = _; more = _; are = refl; kept = refl }
has_words (lines.Flush m) = record { word = _; more = _; are = refl; kept = refl }
has_words (lines.Tick n ms) = record { word = _; more = _; are = refl; kept = refl }
has_words (lines.Crash n) = record { word = _; more = _; are = refl; kept = refl }
has_words (lines.Up n) = record { word = _; more = _; are = refl; kept = refl }
has_words (lines.Stop n k left) = record { word = _; more = _; are = refl; kept = refl }
has_words (lines.Fail n k) = record { word = _; more = _; are = refl; kept = refl }
has_words (lines.Inject n d) = record { word = _; more = _; are = refl; kept = refl }

plain_line : (l : Line) → list_all are_visible (words_in l) ≡ true → is_plain (line_text l) ≡ true
plain_line l e =
    let h = has_words l in
    ap (λ ws. is_plain (join_with_byte 32 ws)) h.are ∙ words_plain h.word h.more (ap (list_all are_visible) (sym h.are) ∙ e)

words_back : (l : Line) → list_all are_visible (words_in l) ≡ true → words_of (line_text l) ≡ words_in l
words_back l e =
    let h = has_words l in
    ap (λ ws. words_of (join_with_byte 32 ws)) h.are ∙ (all_words h.word h.more (ap (list_all are_visible) (sym h.are) ∙ e) ∙ sym h.are)

line_back : (nodes number : ℕ) (l : Line) → number ≤ 10000 → IsBack nodes l → next_line nodes number (line_text l) ≡ Ok l
line_back nodes number l few b =
    let q : nat_lt 10000 number ≡ false = grind (arith, nat_tests, few) in
    rw (plain_line l b.visible) (rw q (ap (next_words nodes) (words_back l b.visible) ∙ b.read))

count_visible : (n : ℕ) → IsNode 8 n → list_all are_visible (words_in (lines.Nodes n)) ≡ true
count_visible n h = rw (decimal_visible n (omega (arith, h.1))) refl

count_back : (n : ℕ) → IsNode 8 n → first_line (line_text (lines.Nodes n)) ≡ Ok n
count_back n h =
    rw (plain_line (lines.Nodes n) (count_visible n h))
    (ap first_words (words_back (lines.Nodes n) (count_visible n h)) ∙ number_there 1 8 n h.0 h.1 (omega (arith, h.1)))

lines_back : (nodes number : ℕ) (ls : List Line) → nodes ≤ 8 → AllByRecursion (IsNext nodes) ls → number + length ls ≤ 10001
    → lines_from nodes number (map line_text ls) ≡ Ok ls
lines_back nodes number [] few h m = refl
lines_back nodes number (l ∷ ls) few h m =
    then_ (at_line number (next_line nodes number (line_text l))) _ l _
    (ap (at_line number) (line_back nodes number l (omega (arith, m)) (next_back nodes l few h.0)))
    (then_ (lines_from nodes (number + 1) (map line_text ls)) _ ls _ (lines_back nodes (number + 1) ls few h.1 (omega (arith, m))) refl)

schedule_back : (ls : List Line) → IsSchedule ls → schedule_in (map line_text ls) ≡ Ok ls
schedule_back [] h = absurd h
schedule_back (lines.Nodes c ∷ rest) (h, k, m) =
    then_ (at_line 1 (first_line (line_text (lines.Nodes c)))) _ c _ (ap (at_line 1) (count_back c h))
    (then_ (lines_from c 2 (map line_text rest)) _ rest _ (lines_back c 2 rest h.1 k (omega (arith, m))) refl)
schedule_back (lines.Begin i c ms ∷ rest) h = absurd h
schedule_back (lines.Interpose i a c ∷ rest) h = absurd h
schedule_back (lines.Work i a s k v ∷ rest) h = absurd h
schedule_back (lines.Commit i a ∷ rest) h = absurd h
schedule_back (lines.Rollback i a ∷ rest) h = absurd h
schedule_back (lines.Deliver m ∷ rest) h = absurd h
schedule_back (lines.Flush m ∷ rest) h = absurd h
schedule_back (lines.Tick n ms ∷ rest) h = absurd h
schedule_back (lines.Crash n ∷ rest) h = absurd h
schedule_back (lines.Up n ∷ rest) h = absurd h
schedule_back (lines.Stop n k left ∷ rest) h = absurd h
schedule_back (lines.Fail n k ∷ rest) h = absurd h
schedule_back (lines.Inject n d ∷ rest) h = absurd h

abbrev pub IsPlainLine : Line → Type 0
IsPlainLine l = IsPlain (line_text l)

nexts_plain : (nodes : ℕ) (ls : List Line) → nodes ≤ 8 → AllByRecursion (IsNext nodes) ls → AllByRecursion IsPlainLine ls
nexts_plain nodes [] few h = tt
nexts_plain nodes (l ∷ ls) few h = (plain_line l (next_back nodes l few h.0).visible, nexts_plain nodes ls few h.1)

all_plain : (ls : List Line) → IsSchedule ls → AllByRecursion IsPlainLine ls
all_plain [] h = absurd h
all_plain (lines.Nodes c ∷ rest) (h, k, m) = (plain_line (lines.Nodes c) (count_visible c h), nexts_plain c rest h.1 k)
all_plain (lines.Begin i c ms ∷ rest) h = absurd h
all_plain (lines.Interpose i a c ∷ rest) h = absurd h
all_plain (lines.Work i a s k v ∷ rest) h = absurd h
all_plain (lines.Commit i a ∷ rest) h = absurd h
all_plain (lines.Rollback i a ∷ rest) h = absurd h
all_plain (lines.Deliver m ∷ rest) h = absurd h
all_plain (lines.Flush m ∷ rest) h = absurd h
all_plain (lines.Tick n ms ∷ rest) h = absurd h
all_plain (lines.Crash n ∷ rest) h = absurd h
all_plain (lines.Up n ∷ rest) h = absurd h
all_plain (lines.Stop n k left ∷ rest) h = absurd h
all_plain (lines.Fail n k ∷ rest) h = absurd h
all_plain (lines.Inject n d ∷ rest) h = absurd h

all_kept : (ls : List Line) → AllByRecursion (λ l. IsKept (line_text l)) ls
all_kept [] = tt
all_kept (l ∷ ls) = ((has_words l).kept, all_kept ls)

lines_are : (text : List ℕ) (ls : List Line) → IsSchedule ls → (text ≡ written ls) ⊎ (text ++ 10 ∷ [] ≡ written ls)
    → lines_of text ≡ map line_text ls
lines_are text ls h e =
    texts_are text (map line_text ls) (all_texts line_text IsPlain ls (all_plain ls h)) (all_texts line_text IsKept ls (all_kept ls)) (in_texts e)
  where
    in_texts : (text ≡ written ls) ⊎ (text ++ 10 ∷ [] ≡ written ls) → (text ≡ fed (map line_text ls)) ⊎ (text ++ 10 ∷ [] ≡ fed (map line_text ls))
    in_texts (inl e) = inl (e ∙ sym (fed_written ls))
    in_texts (inr e) = inr (e ∙ sym (fed_written ls))

pub is_read : (text : List ℕ) (ls : List Line) → IsSchedule ls → (text ≡ written ls) ⊎ (text ++ 10 ∷ [] ≡ written ls)
    → schedule_of text ≡ Ok ls
is_read text ls h e = ap schedule_in (lines_are text ls h e) ∙ schedule_back ls h
