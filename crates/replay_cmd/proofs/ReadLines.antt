-- What is read as a schedule is within its bounds.
use Rattle.std.proofs.Common.{ℕ, ◌+◌, ◌≡◌, ◌≤◌, ◌&&◌, ◌||◌, refl, List, [], ◌∷◌, arith, Bool, true, false, subst}
use Rattle.std.specs.Prelude.{Option, Some, None, Result, Ok, Err, IfOk, nat_le, nat_lt, not, cond, codes, bytes_eq}
use Rattle.std.proofs.lemmas.Bool.Decides.{nat_tests}
use Rattle.replay_cmd.specs.ReportOf.{nodes_of}
use Rattle.schedules.specs.declared.line.BadLine.{BadLine}
use Rattle.schedules.specs.declared.line.Cause.{Cause}
use Rattle.schedules.specs.declared.line.Cause.TheVariants as causes
use Rattle.schedules.specs.declared.line.Line.{Line}
use Rattle.schedules.specs.declared.line.Line.TheVariants as lines
use Rattle.schedules.specs.LineTexts.{IsCall, IsNode}
use Rattle.schedules.specs.Meanings.{◌>>=◌, begin_line, commit_line, crash_line, deliver_line, fail_line, filled, flush_line, inject_line, interpose_line, meaning, rollback_line, stop_filled, stop_line, stop_so, tick_line, up_line, work_line}
use Rattle.schedules.specs.Schedules.{at_line, first_line, lines_from, next_line, next_words, schedule_in}
use Rattle.schedules.specs.Values.{call_in, decimal_of, hex_in, id_in, kind_in, largest, leaves_in, node_in, number_in, vote_in, within}
use Rattle.schedules.specs.Words.{is_plain, lines_of, words_of}
use Rattle.replay_cmd.specs.Laws.{ReadIsWithin}
use Rattle.replay_cmd.specs.ScheduleLines.{AreWithin, IsWithin}

behind : {A B E : Type 0} (P : B → Type 0) (first : Result A E) (next : A → Result B E) → ((a : A) → first ≡ Ok a → IfOk (next a) P) → IfOk (first >>= next) P
behind P (Ok a) next h = h a refl
behind P (Err e) next h = tt

either : {B E : Type 0} (P : B → Type 0) (c : Bool) (x y : Result B E) → IfOk x P → IfOk y P → IfOk (cond c x y) P
either P true x y h k = h
either P false x y h k = k

number : (least most : ℕ) (word : List ℕ) (n : ℕ) → number_in least most word ≡ Ok n → (least ≤ n) × (n ≤ most)
number least most word n e = by_said (decimal_of word) e
  where
    by_test : (m : ℕ) (b c : Bool) → nat_le least m ≡ b → nat_le m most ≡ c → cond (b && c) (Ok m) (Err causes.Number) ≡ Ok n → (least ≤ n) × (n ≤ most)
    by_test m true true p q e =
        let same : m ≡ n = cc in
        (subst (λ k. least ≤ k) same (grind (arith, nat_tests, p)), subst (λ k. k ≤ most) same (grind (arith, nat_tests, q)))
    by_test m true false p q e = absurd cc
    by_test m false c p q e = absurd cc

    by_said : (o : Option ℕ) → within least most o ≡ Ok n → (least ≤ n) × (n ≤ most)
    by_said None e = absurd cc
    by_said (Some m) e = by_test m (nat_le least m) (nat_le m most) refl refl e

module _ (count : ℕ) where
  abbrev Within : Result Line Cause → Type 0
  Within r = IfOk r (IsWithin count)

  -- a line that begins with its node
  at_node : (word : List ℕ) (next : ℕ → Result Line Cause) → ((n : ℕ) → IsNode count n → Within (next n)) → Within (node_in count word >>= next)
  at_node word next h = behind (IsWithin count) (node_in count word) next (λ n e. h n (number 1 count word n e))

  -- and one that names a call
  with_call : (word : List ℕ) (next : ℕ → Result Line Cause) → ((k : ℕ) → IsCall k → Within (next k)) → Within (call_in word >>= next)
  with_call word next h = behind (IsWithin count) (call_in word) next (λ k e. h k (number 1 1000000 word k e))

  then_ : {A : Type 0} (first : Result A Cause) (next : A → Result Line Cause) → ((a : A) → Within (next a)) → Within (first >>= next)
  then_ first next h = behind (IsWithin count) first next (λ a e. h a)

  begin_within : (ws : List (List ℕ)) → Within (begin_line count ws)
  begin_within (i ∷ c ∷ ms ∷ []) = at_node i _ (λ n h. at_node c _ (λ m k. then_ (number_in 0 largest ms) _ (λ t. (h, k))))
  begin_within [] = tt
  begin_within (i ∷ []) = tt
  begin_within (i ∷ c ∷ []) = tt
  begin_within (i ∷ c ∷ ms ∷ x ∷ more) = tt

  interpose_within : (ws : List (List ℕ)) → Within (interpose_line count ws)
  interpose_within (i ∷ a ∷ c ∷ []) = at_node i _ (λ n h. at_node c _ (λ m k. then_ (id_in a) _ (λ id. (h, k))))
  interpose_within [] = tt
  interpose_within (i ∷ []) = tt
  interpose_within (i ∷ a ∷ []) = tt
  interpose_within (i ∷ a ∷ c ∷ x ∷ more) = tt

  work_within : (ws : List (List ℕ)) → Within (work_line count ws)
  work_within (i ∷ a ∷ p ∷ k ∷ v ∷ []) =
      at_node i _ (λ n h. at_node p _ (λ m j. then_ (id_in a) _ (λ id. then_ (kind_in k) _ (λ kind. then_ (vote_in v) _ (λ vote. (h, j))))))
  work_within [] = tt
  work_within (i ∷ []) = tt
  work_within (i ∷ a ∷ []) = tt
  work_within (i ∷ a ∷ p ∷ []) = tt
  work_within (i ∷ a ∷ p ∷ k ∷ []) = tt
  work_within (i ∷ a ∷ p ∷ k ∷ v ∷ x ∷ more) = tt

  commit_within : (ws : List (List ℕ)) → Within (commit_line count ws)
  commit_within (i ∷ a ∷ []) = at_node i _ (λ n h. then_ (id_in a) _ (λ id. h))
  commit_within [] = tt
  commit_within (i ∷ []) = tt
  commit_within (i ∷ a ∷ x ∷ more) = tt

  rollback_within : (ws : List (List ℕ)) → Within (rollback_line count ws)
  rollback_within (i ∷ a ∷ []) = at_node i _ (λ n h. then_ (id_in a) _ (λ id. h))
  rollback_within [] = tt
  rollback_within (i ∷ []) = tt
  rollback_within (i ∷ a ∷ x ∷ more) = tt

  deliver_within : (ws : List (List ℕ)) → Within (deliver_line ws)
  deliver_within (k ∷ []) = then_ (number_in 1 1000000 k) _ (λ message. tt)
  deliver_within [] = tt
  deliver_within (k ∷ x ∷ more) = tt

  flush_within : (ws : List (List ℕ)) → Within (flush_line ws)
  flush_within (m ∷ []) = then_ (number_in 0 10000 m) _ (λ most. tt)
  flush_within [] = tt
  flush_within (m ∷ x ∷ more) = tt

  tick_within : (ws : List (List ℕ)) → Within (tick_line count ws)
  tick_within (i ∷ ms ∷ []) = at_node i _ (λ n h. behind (IsWithin count) (number_in 0 largest ms) _ (λ t e. (h, (number 0 largest ms t e).1)))
  tick_within [] = tt
  tick_within (i ∷ []) = tt
  tick_within (i ∷ ms ∷ x ∷ more) = tt

  crash_within : (ws : List (List ℕ)) → Within (crash_line count ws)
  crash_within (i ∷ []) = at_node i _ (λ n h. h)
  crash_within [] = tt
  crash_within (i ∷ x ∷ more) = tt

  up_within : (ws : List (List ℕ)) → Within (up_line count ws)
  up_within (i ∷ []) = at_node i _ (λ n h. h)
  up_within [] = tt
  up_within (i ∷ x ∷ more) = tt

  so_within : (i k w : List ℕ) → Within (stop_so count i k w)
  so_within i k w =
      either (IsWithin count) (bytes_eq w (codes "fill")) (Err causes.WordCount) _ tt
      (at_node i _ (λ n h. with_call k _ (λ call j. then_ (leaves_in w) _ (λ left. (h, j)))))

  filled_within : (i k w b : List ℕ) → Within (stop_filled count i k w b)
  filled_within i k w b =
      either (IsWithin count) (bytes_eq w (codes "keep") || bytes_eq w (codes "drop")) (Err causes.WordCount) _ tt
      (at_node i _ (λ n h. with_call k _ (λ call j.
      either (IsWithin count) (bytes_eq w (codes "fill")) (filled n call b) (Err causes.Keyword) (then_ (number_in 0 255 b) _ (λ byte. (h, j))) tt)))

  stop_within : (ws : List (List ℕ)) → Within (stop_line count ws)
  stop_within (i ∷ k ∷ w ∷ []) = so_within i k w
  stop_within (i ∷ k ∷ w ∷ b ∷ []) = filled_within i k w b
  stop_within [] = tt
  stop_within (i ∷ []) = tt
  stop_within (i ∷ k ∷ []) = tt
  stop_within (i ∷ k ∷ w ∷ b ∷ x ∷ more) = tt

  fail_within : (ws : List (List ℕ)) → Within (fail_line count ws)
  fail_within (i ∷ k ∷ []) = at_node i _ (λ n h. with_call k _ (λ call j. (h, j)))
  fail_within [] = tt
  fail_within (i ∷ []) = tt
  fail_within (i ∷ k ∷ x ∷ more) = tt

  inject_within : (ws : List (List ℕ)) → Within (inject_line count ws)
  inject_within (i ∷ d ∷ []) = at_node i _ (λ n h. then_ (hex_in d) _ (λ digits. h))
  inject_within [] = tt
  inject_within (i ∷ []) = tt
  inject_within (i ∷ d ∷ x ∷ more) = tt

  by_word : (word name : List ℕ) (x y : Result Line Cause) → Within x → Within y → Within (cond (bytes_eq word name) x y)
  by_word word name x y h k = either (IsWithin count) (bytes_eq word name) x y h k

  meaning_within : (word : List ℕ) (ws : List (List ℕ)) → Within (meaning count word ws)
  meaning_within word ws =
      by_word word (codes "inject") _ _ (inject_within ws) (
      by_word word (codes "begin") _ _ (begin_within ws) (
      by_word word (codes "interpose") _ _ (interpose_within ws) (
      by_word word (codes "work") _ _ (work_within ws) (
      by_word word (codes "commit") _ _ (commit_within ws) (
      by_word word (codes "rollback") _ _ (rollback_within ws) (
      by_word word (codes "deliver") _ _ (deliver_within ws) (
      by_word word (codes "flush") _ _ (flush_within ws) (
      by_word word (codes "tick") _ _ (tick_within ws) (
      by_word word (codes "crash") _ _ (crash_within ws) (
      by_word word (codes "up") _ _ (up_within ws) (
      by_word word (codes "stop") _ _ (stop_within ws) (
      by_word word (codes "fail") _ _ (fail_within ws) tt))))))))))))

  words_within : (ws : List (List ℕ)) → Within (next_words count ws)
  words_within [] = tt
  words_within (word ∷ rest) = by_word word (codes "nodes") _ _ tt (meaning_within word rest)

  line_within : (number : ℕ) (text : List ℕ) → Within (next_line count number text)
  line_within number text =
      either (IsWithin count) (not (is_plain text)) _ _ tt (either (IsWithin count) (nat_lt 10000 number) _ _ tt (words_within (words_of text)))

  numbered : (number : ℕ) (r : Result Line Cause) → Within r → IfOk (at_line number r) (IsWithin count)
  numbered number (Ok line) h = h
  numbered number (Err e) h = tt

  lines_within : (number : ℕ) (texts : List (List ℕ)) → IfOk (lines_from count number texts) (AreWithin count)
  lines_within number [] = tt
  lines_within number (text ∷ texts) =
      first (at_line number (next_line count number text)) (numbered number (next_line count number text) (line_within number text))
      (lines_from count (number + 1) texts) (lines_within (number + 1) texts)
    where
      last : (line : Line) → IsWithin count line → (more : Result (List Line) BadLine) → IfOk more (AreWithin count) → IfOk (more >>= (λ rest. Ok (line ∷ rest))) (AreWithin count)
      last line h (Ok rest) k = (h, k)
      last line h (Err e) k = tt

      first : (r : Result Line BadLine) → IfOk r (IsWithin count) → (more : Result (List Line) BadLine) → IfOk more (AreWithin count)
          → IfOk (r >>= (λ line. more >>= (λ rest. Ok (line ∷ rest)))) (AreWithin count)
      first (Ok line) h more k = last line h more k
      first (Err e) h more k = tt

-- each line behind the first is one of as many nodes as that says
abbrev IsWhole : List Line → Type 0
IsWhole all = AreWithin (nodes_of all) all

texts_within : (texts : List (List ℕ)) → IfOk (schedule_in texts) IsWhole
texts_within [] = tt
texts_within (text ∷ texts) =
    behind IsWhole (at_line 1 (first_line text)) _ (λ count e. whole count (lines_from count 2 texts) (lines_within count 2 texts))
  where
    whole : (count : ℕ) (more : Result (List Line) BadLine) → IfOk more (AreWithin count) → IfOk (more >>= (λ rest. Ok (lines.Nodes count ∷ rest))) IsWhole
    whole count (Ok rest) h = (tt, h)
    whole count (Err e) h = tt

pub read_is_within : ReadIsWithin
read_is_within text all h = subst (λ r. IfOk r IsWhole) h (texts_within (lines_of text))
