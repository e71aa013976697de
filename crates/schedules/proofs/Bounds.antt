-- What is read is within its bounds, and was written so.
use Rattle.std.proofs.Common.{ℕ, List, [], ◌∷◌, ◌≡◌, ◌≤◌, ◌&&◌, ◌||◌, nat_le, Bool, true, false, cond, Option, Some, None, Result, Ok, Err, sym, ◌∙◌, ap, arith, refl, subst, bytes_eq, codes}
use Rattle.std.specs.Fmt.{decimal}
use Rattle.std.proofs.lemmas.Slice.Eq.{bytes_eq-Decides}
use Rattle.std.proofs.lemmas.Bool.Decides.{nat_tests}
use Rattle.at_base.specs.IdText.{SpellsId, id_text}
use Rattle.hex.specs.Hex.{decode_of}
use Rattle.hex.specs.declared.error.FromHexError.{FromHexError}
use Rattle.at_base.specs.Numbers.{Numbers}
use Rattle.at_base.specs.declared.notice.Kind.{Kind}
use Rattle.at_base.specs.declared.notice.Kind.TheVariants as kinds
use Rattle.at_base.specs.declared.notice.Vote.{Vote}
use Rattle.at_base.specs.declared.notice.Vote.TheVariants as votes
use Rattle.schedules.specs.declared.line.Cause.{Cause}
use Rattle.schedules.specs.declared.line.Cause.TheVariants as causes
use Rattle.schedules.specs.declared.line.Leaves.{Leaves}
use Rattle.schedules.specs.declared.line.Leaves.TheVariants as leaves
use Rattle.schedules.specs.declared.line.Line.{Line}
use Rattle.schedules.specs.declared.line.Line.TheVariants as lines
use Rattle.schedules.specs.Meanings.{◌>>=◌, count_of, begin_line, interpose_line, work_line, commit_line, rollback_line, deliver_line, flush_line, tick_line, crash_line, up_line, stop_so, filled, stop_filled, stop_line, fail_line, inject_line, meaning}
use Rattle.schedules.specs.Values.{keyword, decimal_of, within, number_in, node_in, call_in, id_in, numbers_of, is_part, kind_in, vote_in, leaves_in, if_decoded, hex_in, largest}
use Rattle.schedules.specs.LineTexts.{leaves_words, words_in, IsHex, IsNode, IsNext, IsLeft}
use Rattle.at_base.specs.Names.{kind_letter, vote_name}
use Rattle.schedules.proofs.Decimals.{spelled}
use Rattle.schedules.proofs.Ids.{is_id}

pub record Bound {A B : Type 0} (first : Result A Cause) (next : A → Result B Cause) (x : B) : Type 0 where
  pub value : A
  pub read : first ≡ Ok value
  pub rest : next value ≡ Ok x

pub bound : {A B : Type 0} (first : Result A Cause) (next : A → Result B Cause) (x : B) → (first >>= next) ≡ Ok x → Bound first next x
bound (Ok a) next x e = record { value = a; read = refl; rest = e }
bound (Err c) next x e = absurd cc

pub same : {A : Type 0} (x y : A) → ◌≡◌ {A = Result A Cause} (Ok x) (Ok y) → x ≡ y
same x y e = cc

pub number : (least most : ℕ) (w : List ℕ) (n : ℕ) → number_in least most w ≡ Ok n → (least ≤ n) × (n ≤ most) × (w ≡ decimal n)
number least most w n e = by_case (decimal_of w) refl e
  where
    by_test : (m : ℕ) (b c : Bool) → decimal_of w ≡ Some m → nat_le least m ≡ b → nat_le m most ≡ c
        → cond (b && c) (Ok m) (Err causes.Number) ≡ Ok n → (least ≤ n) × (n ≤ most) × (w ≡ decimal n)
    by_test m true true d p q e =
        let here : m ≡ n = cc in (
          subst (λ k. least ≤ k) here (grind (arith, nat_tests, p)),
          subst (λ k. k ≤ most) here (grind (arith, nat_tests, q)),
          sym (spelled w n (d ∙ ap Some here)),
        )
    by_test m true false d p q e = absurd cc
    by_test m false c d p q e = absurd cc

    by_case : (o : Option ℕ) → decimal_of w ≡ o → within least most o ≡ Ok n → (least ≤ n) × (n ≤ most) × (w ≡ decimal n)
    by_case None d e = absurd cc
    by_case (Some m) d e = by_test m (nat_le least m) (nat_le m most) d refl refl e

id : (w : List ℕ) (i : Numbers) → id_in w ≡ Ok i → SpellsId w i
id w i e =
    by_case (numbers_of w) (is_part (numbers_of w).incarnation) (is_part (numbers_of w).counter) (bytes_eq (id_text (numbers_of w)) w) refl refl refl e
  where
    by_case : (j : Numbers) (a b c : Bool) → is_part j.incarnation ≡ a → is_part j.counter ≡ b → bytes_eq (id_text j) w ≡ c
        → cond (a && b && c) (Ok j) (Err causes.Identifier) ≡ Ok i → SpellsId w i
    by_case j true true true p q t e = let here : j ≡ i = cc in subst (SpellsId w) here (is_id w j p q t)
    by_case j true true false p q t e = absurd cc
    by_case j true false c p q t e = absurd cc
    by_case j false b c p q t e = absurd cc

pub kind : (w : List ℕ) (k : Kind) → kind_in w ≡ Ok k → w ≡ kind_letter k
kind w k e = by_case (bytes_eq w (codes "d")) (bytes_eq w (codes "v")) refl refl e
  where
    by_case : (a b : Bool) → bytes_eq w (codes "d") ≡ a → bytes_eq w (codes "v") ≡ b
        → keyword (cond a (Some kinds.Durable) (cond b (Some kinds.Volatile) None)) ≡ Ok k → w ≡ kind_letter k
    by_case true b p q e = (bytes_eq-Decides w (codes "d")).0 p ∙ ap kind_letter (same kinds.Durable k e)
    by_case false true p q e = (bytes_eq-Decides w (codes "v")).0 q ∙ ap kind_letter (same kinds.Volatile k e)
    by_case false false p q e = absurd cc

pub vote : (w : List ℕ) (k : Vote) → vote_in w ≡ Ok k → w ≡ vote_name k
vote w k e = by_case (bytes_eq w (codes "prepared")) (bytes_eq w (codes "readonly")) (bytes_eq w (codes "aborted")) refl refl refl e
  where
    by_case : (a b c : Bool) → bytes_eq w (codes "prepared") ≡ a → bytes_eq w (codes "readonly") ≡ b → bytes_eq w (codes "aborted") ≡ c
        → keyword (cond a (Some votes.Prepared) (cond b (Some votes.ReadOnly) (cond c (Some votes.Aborted) None))) ≡ Ok k → w ≡ vote_name k
    by_case true b c p q r e = (bytes_eq-Decides w (codes "prepared")).0 p ∙ ap vote_name (same votes.Prepared k e)
    by_case false true c p q r e = (bytes_eq-Decides w (codes "readonly")).0 q ∙ ap vote_name (same votes.ReadOnly k e)
    by_case false false true p q r e = (bytes_eq-Decides w (codes "aborted")).0 r ∙ ap vote_name (same votes.Aborted k e)
    by_case false false false p q r e = absurd cc

-- one word that says what a stop leaves
pub record IsOneWord (w : List ℕ) (l : Leaves) : Type 0 where
  pub left : IsLeft l
  pub word : w ∷ [] ≡ leaves_words l

pub one_word : (w : List ℕ) (l : Leaves) → leaves_in w ≡ Ok l → IsOneWord w l
one_word w l e = by_case (bytes_eq w (codes "keep")) (bytes_eq w (codes "drop")) refl refl e
  where
    by_case : (a b : Bool) → bytes_eq w (codes "keep") ≡ a → bytes_eq w (codes "drop") ≡ b
        → cond a (Ok leaves.Keep) (cond b (Ok leaves.Drop) (Err causes.Keyword)) ≡ Ok l → IsOneWord w l
    by_case true b p q e = subst (IsOneWord w) (same leaves.Keep l e) (record { left = tt; word = ap (λ x. x ∷ []) ((bytes_eq-Decides w (codes "keep")).0 p) })
    by_case false true p q e = subst (IsOneWord w) (same leaves.Drop l e) (record { left = tt; word = ap (λ x. x ∷ []) ((bytes_eq-Decides w (codes "drop")).0 q) })
    by_case false false p q e = absurd cc

-- a line that is read of these words behind the first
pub record IsRead (nodes : ℕ) (word : List ℕ) (rest : List (List ℕ)) (line : Line) : Type 0 where
  pub next : IsNext nodes line
  pub text : word ∷ rest ≡ words_in line

pub count_read : (ws : List (List ℕ)) (n : ℕ) → count_of ws ≡ Ok n → IsNode 8 n × (ws ≡ decimal n ∷ [])
count_read (w ∷ []) n e = let k = number 1 8 w n e in ((k.0, k.1), ap (λ x. x ∷ []) k.2)
count_read [] n e = absurd cc
count_read (w ∷ v ∷ more) n e = absurd cc

begin_read : (nodes : ℕ) (ws : List (List ℕ)) (l : Line) → begin_line nodes ws ≡ Ok l → IsRead nodes (codes "begin") ws l
begin_read nodes (i ∷ c ∷ ms ∷ []) l e =
    let b = bound (node_in nodes i) _ l e in
    let d = bound (node_in nodes c) _ l b.rest in
    let f = bound (number_in 0 largest ms) _ l d.rest in
    let k = number 1 nodes i b.value b.read in
    let m = number 1 nodes c d.value d.read in
    let n = number 0 largest ms f.value f.read in
    subst (IsRead nodes (codes "begin") (i ∷ c ∷ ms ∷ [])) (same _ l f.rest) (record {
      next = ((k.0, k.1), (m.0, m.1), n.1);
      text = λ j. codes "begin" ∷ k.2 j ∷ m.2 j ∷ n.2 j ∷ [];
    })
begin_read nodes [] l e = absurd cc
begin_read nodes (i ∷ []) l e = absurd cc
begin_read nodes (i ∷ c ∷ []) l e = absurd cc
begin_read nodes (i ∷ c ∷ ms ∷ x ∷ more) l e = absurd cc

interpose_read : (nodes : ℕ) (ws : List (List ℕ)) (l : Line) → interpose_line nodes ws ≡ Ok l → IsRead nodes (codes "interpose") ws l
interpose_read nodes (i ∷ a ∷ c ∷ []) l e =
    let b = bound (node_in nodes i) _ l e in
    let d = bound (node_in nodes c) _ l b.rest in
    let f = bound (id_in a) _ l d.rest in
    let k = number 1 nodes i b.value b.read in
    let m = number 1 nodes c d.value d.read in
    subst (IsRead nodes (codes "interpose") (i ∷ a ∷ c ∷ [])) (same _ l f.rest) (record {
      next = ((k.0, k.1), (id a f.value f.read).numbers, (m.0, m.1));
      text = λ j. codes "interpose" ∷ k.2 j ∷ (id a f.value f.read).text j ∷ m.2 j ∷ [];
    })
interpose_read nodes [] l e = absurd cc
interpose_read nodes (i ∷ []) l e = absurd cc
interpose_read nodes (i ∷ a ∷ []) l e = absurd cc
interpose_read nodes (i ∷ a ∷ c ∷ x ∷ more) l e = absurd cc

work_read : (nodes : ℕ) (ws : List (List ℕ)) (l : Line) → work_line nodes ws ≡ Ok l → IsRead nodes (codes "work") ws l
work_read nodes (i ∷ a ∷ p ∷ k ∷ v ∷ []) l e =
    let b = bound (node_in nodes i) _ l e in
    let d = bound (node_in nodes p) _ l b.rest in
    let f = bound (id_in a) _ l d.rest in
    let g = bound (kind_in k) _ l f.rest in
    let h = bound (vote_in v) _ l g.rest in
    let n = number 1 nodes i b.value b.read in
    let m = number 1 nodes p d.value d.read in
    subst (IsRead nodes (codes "work") (i ∷ a ∷ p ∷ k ∷ v ∷ [])) (same _ l h.rest) (record {
      next = ((n.0, n.1), (id a f.value f.read).numbers, (m.0, m.1));
      text = λ j. codes "work" ∷ n.2 j ∷ (id a f.value f.read).text j ∷ m.2 j ∷ kind k g.value g.read j ∷ vote v h.value h.read j ∷ [];
    })
work_read nodes [] l e = absurd cc
work_read nodes (i ∷ []) l e = absurd cc
work_read nodes (i ∷ a ∷ []) l e = absurd cc
work_read nodes (i ∷ a ∷ p ∷ []) l e = absurd cc
work_read nodes (i ∷ a ∷ p ∷ k ∷ []) l e = absurd cc
work_read nodes (i ∷ a ∷ p ∷ k ∷ v ∷ x ∷ more) l e = absurd cc

commit_read : (nodes : ℕ) (ws : List (List ℕ)) (l : Line) → commit_line nodes ws ≡ Ok l → IsRead nodes (codes "commit") ws l
commit_read nodes (i ∷ a ∷ []) l e =
    let b = bound (node_in nodes i) _ l e in
    let f = bound (id_in a) _ l b.rest in
    let k = number 1 nodes i b.value b.read in
    subst (IsRead nodes (codes "commit") (i ∷ a ∷ [])) (same _ l f.rest) (record {
      next = ((k.0, k.1), (id a f.value f.read).numbers);
      text = λ j. codes "commit" ∷ k.2 j ∷ (id a f.value f.read).text j ∷ [];
    })
commit_read nodes [] l e = absurd cc
commit_read nodes (i ∷ []) l e = absurd cc
commit_read nodes (i ∷ a ∷ x ∷ more) l e = absurd cc

rollback_read : (nodes : ℕ) (ws : List (List ℕ)) (l : Line) → rollback_line nodes ws ≡ Ok l → IsRead nodes (codes "rollback") ws l
rollback_read nodes (i ∷ a ∷ []) l e =
    let b = bound (node_in nodes i) _ l e in
    let f = bound (id_in a) _ l b.rest in
    let k = number 1 nodes i b.value b.read in
    subst (IsRead nodes (codes "rollback") (i ∷ a ∷ [])) (same _ l f.rest) (record {
      next = ((k.0, k.1), (id a f.value f.read).numbers);
      text = λ j. codes "rollback" ∷ k.2 j ∷ (id a f.value f.read).text j ∷ [];
    })
rollback_read nodes [] l e = absurd cc
rollback_read nodes (i ∷ []) l e = absurd cc
rollback_read nodes (i ∷ a ∷ x ∷ more) l e = absurd cc

deliver_read : (nodes : ℕ) (ws : List (List ℕ)) (l : Line) → deliver_line ws ≡ Ok l → IsRead nodes (codes "deliver") ws l
deliver_read nodes (m ∷ []) l e =
    let b = bound (number_in 1 1000000 m) _ l e in
    let k = number 1 1000000 m b.value b.read in
    subst (IsRead nodes (codes "deliver") (m ∷ [])) (same _ l b.rest) (record {
      next = (k.0, k.1);
      text = λ j. codes "deliver" ∷ k.2 j ∷ [];
    })
deliver_read nodes [] l e = absurd cc
deliver_read nodes (m ∷ x ∷ more) l e = absurd cc

flush_read : (nodes : ℕ) (ws : List (List ℕ)) (l : Line) → flush_line ws ≡ Ok l → IsRead nodes (codes "flush") ws l
flush_read nodes (m ∷ []) l e =
    let b = bound (number_in 0 10000 m) _ l e in
    let k = number 0 10000 m b.value b.read in
    subst (IsRead nodes (codes "flush") (m ∷ [])) (same _ l b.rest) (record {
      next = k.1;
      text = λ j. codes "flush" ∷ k.2 j ∷ [];
    })
flush_read nodes [] l e = absurd cc
flush_read nodes (m ∷ x ∷ more) l e = absurd cc

tick_read : (nodes : ℕ) (ws : List (List ℕ)) (l : Line) → tick_line nodes ws ≡ Ok l → IsRead nodes (codes "tick") ws l
tick_read nodes (i ∷ ms ∷ []) l e =
    let b = bound (node_in nodes i) _ l e in
    let f = bound (number_in 0 largest ms) _ l b.rest in
    let k = number 1 nodes i b.value b.read in
    let n = number 0 largest ms f.value f.read in
    subst (IsRead nodes (codes "tick") (i ∷ ms ∷ [])) (same _ l f.rest) (record {
      next = ((k.0, k.1), n.1);
      text = λ j. codes "tick" ∷ k.2 j ∷ n.2 j ∷ [];
    })
tick_read nodes [] l e = absurd cc
tick_read nodes (i ∷ []) l e = absurd cc
tick_read nodes (i ∷ ms ∷ x ∷ more) l e = absurd cc

crash_read : (nodes : ℕ) (ws : List (List ℕ)) (l : Line) → crash_line nodes ws ≡ Ok l → IsRead nodes (codes "crash") ws l
crash_read nodes (i ∷ []) l e =
    let b = bound (node_in nodes i) _ l e in
    let k = number 1 nodes i b.value b.read in
    subst (IsRead nodes (codes "crash") (i ∷ [])) (same _ l b.rest) (record {
      next = (k.0, k.1);
      text = λ j. codes "crash" ∷ k.2 j ∷ [];
    })
crash_read nodes [] l e = absurd cc
crash_read nodes (i ∷ x ∷ more) l e = absurd cc

up_read : (nodes : ℕ) (ws : List (List ℕ)) (l : Line) → up_line nodes ws ≡ Ok l → IsRead nodes (codes "up") ws l
up_read nodes (i ∷ []) l e =
    let b = bound (node_in nodes i) _ l e in
    let k = number 1 nodes i b.value b.read in
    subst (IsRead nodes (codes "up") (i ∷ [])) (same _ l b.rest) (record {
      next = (k.0, k.1);
      text = λ j. codes "up" ∷ k.2 j ∷ [];
    })
up_read nodes [] l e = absurd cc
up_read nodes (i ∷ x ∷ more) l e = absurd cc

so_read : (nodes : ℕ) (n k w : List ℕ) (l : Line) → stop_so nodes n k w ≡ Ok l → IsRead nodes (codes "stop") (n ∷ k ∷ w ∷ []) l
so_read nodes n k w l e = by_case (bytes_eq w (codes "fill")) e
  where
    by_case : (t : Bool)
        → cond t (Err causes.WordCount) (node_in nodes n >>= (λ node. call_in k >>= (λ call. leaves_in w >>= (λ left. Ok (lines.Stop node call left))))) ≡ Ok l
        → IsRead nodes (codes "stop") (n ∷ k ∷ w ∷ []) l
    by_case true e = absurd cc
    by_case false e =
        let b = bound (node_in nodes n) _ l e in
        let d = bound (call_in k) _ l b.rest in
        let f = bound (leaves_in w) _ l d.rest in
        let i = number 1 nodes n b.value b.read in
        let j = number 1 1000000 k d.value d.read in
        let o = one_word w f.value f.read in
        subst (IsRead nodes (codes "stop") (n ∷ k ∷ w ∷ [])) (same _ l f.rest) (record {
          next = ((i.0, i.1), (j.0, j.1), o.left);
          text = λ t. codes "stop" ∷ i.2 t ∷ j.2 t ∷ o.word t;
        })

filled_read : (nodes : ℕ) (n k w b : List ℕ) (l : Line) → stop_filled nodes n k w b ≡ Ok l → IsRead nodes (codes "stop") (n ∷ k ∷ w ∷ b ∷ []) l
filled_read nodes n k w b l e = by_case (bytes_eq w (codes "keep")) (bytes_eq w (codes "drop")) (bytes_eq w (codes "fill")) refl e
  where
    by_case : (s t u : Bool) → bytes_eq w (codes "fill") ≡ u
        → cond (s || t) (Err causes.WordCount) (node_in nodes n >>= (λ node. call_in k >>= (λ call. cond u (filled node call b) (Err causes.Keyword)))) ≡ Ok l
        → IsRead nodes (codes "stop") (n ∷ k ∷ w ∷ b ∷ []) l
    by_case true t u p e = absurd cc
    by_case false true u p e = absurd cc
    by_case false false false p e =
        let c = bound (node_in nodes n) _ l e in
        let d = bound (call_in k) _ l c.rest in
        absurd (never d.rest)
      where
        never : ◌≡◌ {A = Result Line Cause} (Err causes.Keyword) (Ok l) → ⊥
        never e = cc
    by_case false false true p e =
        let c = bound (node_in nodes n) _ l e in
        let d = bound (call_in k) _ l c.rest in
        let f = bound (number_in 0 255 b) _ l d.rest in
        let i = number 1 nodes n c.value c.read in
        let j = number 1 1000000 k d.value d.read in
        let m = number 0 255 b f.value f.read in
        subst (IsRead nodes (codes "stop") (n ∷ k ∷ w ∷ b ∷ [])) (same _ l f.rest) (record {
          next = ((i.0, i.1), (j.0, j.1), m.1);
          text = λ t. codes "stop" ∷ i.2 t ∷ j.2 t ∷ (bytes_eq-Decides w (codes "fill")).0 p t ∷ m.2 t ∷ [];
        })

stop_read : (nodes : ℕ) (ws : List (List ℕ)) (l : Line) → stop_line nodes ws ≡ Ok l → IsRead nodes (codes "stop") ws l
stop_read nodes [] l e = absurd cc
stop_read nodes (n ∷ []) l e = absurd cc
stop_read nodes (n ∷ k ∷ []) l e = absurd cc
stop_read nodes (n ∷ k ∷ w ∷ []) l e = so_read nodes n k w l e
stop_read nodes (n ∷ k ∷ w ∷ b ∷ []) l e = filled_read nodes n k w b l e
stop_read nodes (n ∷ k ∷ w ∷ b ∷ x ∷ more) l e = absurd cc

hex_read : (w d : List ℕ) → hex_in w ≡ Ok d → IsHex d × (w ≡ d)
hex_read w d e = by_case (decode_of w) refl e
  where
    by_case : (r : Result (List ℕ) FromHexError) → decode_of w ≡ r → if_decoded w r ≡ Ok d → IsHex d × (w ≡ d)
    by_case (Ok bytes) f e = let here : w ≡ d = same w d e in (subst IsHex here (ap (if_decoded w) f), here)
    by_case (Err x) f e = absurd cc

inject_read : (nodes : ℕ) (ws : List (List ℕ)) (l : Line) → inject_line nodes ws ≡ Ok l → IsRead nodes (codes "inject") ws l
inject_read nodes (n ∷ h ∷ []) l e =
    let b = bound (node_in nodes n) _ l e in
    let d = bound (hex_in h) _ l b.rest in
    let i = number 1 nodes n b.value b.read in
    let j = hex_read h d.value d.read in
    subst (IsRead nodes (codes "inject") (n ∷ h ∷ [])) (same _ l d.rest) (record {
      next = ((i.0, i.1), j.0);
      text = λ t. codes "inject" ∷ i.2 t ∷ j.1 t ∷ [];
    })
inject_read nodes [] l e = absurd cc
inject_read nodes (n ∷ []) l e = absurd cc
inject_read nodes (n ∷ h ∷ x ∷ more) l e = absurd cc

fail_read : (nodes : ℕ) (ws : List (List ℕ)) (l : Line) → fail_line nodes ws ≡ Ok l → IsRead nodes (codes "fail") ws l
fail_read nodes (n ∷ k ∷ []) l e =
    let b = bound (node_in nodes n) _ l e in
    let d = bound (call_in k) _ l b.rest in
    let i = number 1 nodes n b.value b.read in
    let j = number 1 1000000 k d.value d.read in
    subst (IsRead nodes (codes "fail") (n ∷ k ∷ [])) (same _ l d.rest) (record {
      next = ((i.0, i.1), (j.0, j.1));
      text = λ t. codes "fail" ∷ i.2 t ∷ j.2 t ∷ [];
    })
fail_read nodes [] l e = absurd cc
fail_read nodes (n ∷ []) l e = absurd cc
fail_read nodes (n ∷ k ∷ x ∷ more) l e = absurd cc

-- a word that is tested for
pub arm : {A : Type 0} (w name : List ℕ) (here else_ : A) (P : List ℕ → A → Type 0) → P name here → P w else_
    → P w (cond (bytes_eq w name) here else_)
arm w name here else_ P y n = by_case (bytes_eq w name) refl
  where
    by_case : (b : Bool) → bytes_eq w name ≡ b → P w (cond b here else_)
    by_case true p = subst (λ x. P x here) (sym ((bytes_eq-Decides w name).0 p)) y
    by_case false p = n

-- what is read behind a word, if it is
abbrev pub Reads : ℕ → List (List ℕ) → Line → List ℕ → Result Line Cause → Type 0
Reads nodes ws l w r = r ≡ Ok l → IsRead nodes w ws l

pub meaning_read : (nodes : ℕ) (w : List ℕ) (ws : List (List ℕ)) (l : Line) → meaning nodes w ws ≡ Ok l → IsRead nodes w ws l
meaning_read nodes w ws l =
    arm w (codes "inject") _ _ (Reads nodes ws l) (inject_read nodes ws l) (
    arm w (codes "begin") _ _ (Reads nodes ws l) (begin_read nodes ws l) (
    arm w (codes "interpose") _ _ (Reads nodes ws l) (interpose_read nodes ws l) (
    arm w (codes "work") _ _ (Reads nodes ws l) (work_read nodes ws l) (
    arm w (codes "commit") _ _ (Reads nodes ws l) (commit_read nodes ws l) (
    arm w (codes "rollback") _ _ (Reads nodes ws l) (rollback_read nodes ws l) (
    arm w (codes "deliver") _ _ (Reads nodes ws l) (deliver_read nodes ws l) (
    arm w (codes "flush") _ _ (Reads nodes ws l) (flush_read nodes ws l) (
    arm w (codes "tick") _ _ (Reads nodes ws l) (tick_read nodes ws l) (
    arm w (codes "crash") _ _ (Reads nodes ws l) (crash_read nodes ws l) (
    arm w (codes "up") _ _ (Reads nodes ws l) (up_read nodes ws l) (
    arm w (codes "stop") _ _ (Reads nodes ws l) (stop_read nodes ws l) (
    arm w (codes "fail") _ _ (Reads nodes ws l) (fail_read nodes ws l) (λ e. absurd cc)))))))))))))
