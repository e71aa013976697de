-- What holds of a text and of each text behind its first character holds of what is read behind a part of it.
use Rattle.std.proofs.Common.{◌≡◌, refl, subst, ap, ◌∙◌, ℕ, List, [], ◌∷◌, ◌++◌, Bool, true, false, cond, Option, Some, None, codes}
use Rattle.std.proofs.lemmas.Option.{some_pair_parts}
use Rattle.xml_grammar.specs.Characters.{◌>>=◌, found, given, is_white, is_quote, strip_at, behind_white, begins_white, until}
use Rattle.xml_grammar.specs.Spells.{quoted_at, written_at, passed, setting_at, is_version, is_utf_8, is_yes_or_no, optional, declaration_at, body}
use Rattle.xml_grammar.proofs.TokenLaws.{bind_some, strip_is}

abbrev valued : List ℕ → List ℕ → Option (List ℕ × List ℕ)
valued v r = Some (v, r)

passed_some : (test : List ℕ → Bool) (o : Option (List ℕ × List ℕ)) (r : List ℕ) → passed test o ≡ Some r → (v : List ℕ) × (o ≡ valued v r)
passed_some test None r e = cc
passed_some test (Some (v, q)) r e = by_case (test v) e
  where
    by_case : (b : Bool) → cond b (Some q) None ≡ Some r → (w : List ℕ) × (valued v q ≡ valued w r)
    by_case true e = (v, let i : q ≡ r = cc in ap (valued v) i)
    by_case false e = cc

module _ (P : List ℕ → Type 0) (behind : (c : ℕ) (cs : List ℕ) → P (c ∷ cs) → P cs) where
  behind_all : (w r : List ℕ) → P (w ++ r) → P r
  behind_all [] r h = h
  behind_all (c ∷ w) r h = behind_all w r (behind c (w ++ r) h)

  pub behind_word : (w cs r : List ℕ) → strip_at w cs ≡ Some r → P cs → P r
  behind_word w cs r e h = behind_all w r (subst P (strip_is w cs r e) h)

  pub past_white : (cs : List ℕ) → P cs → P (behind_white cs)
  past_white [] h = h
  past_white (c ∷ cs) h = by_case (is_white c) (past_white cs (behind c cs h))
    where
      by_case : (b : Bool) → P (behind_white cs) → P (cond b (behind_white cs) (c ∷ cs))
      by_case true k = k
      by_case false k = h

  pub behind_until : (word cs a r : List ℕ) → until word cs ≡ Some (a, r) → P cs → P r
  behind_until word [] a r e h = cc
  behind_until word (c ∷ cs) a r e h = step (strip_at word (c ∷ cs)) refl (λ b i. behind_until word cs b r i (behind c cs h)) e
    where
      step : (o : Option (List ℕ)) → strip_at word (c ∷ cs) ≡ o → ((b : List ℕ) → until word cs ≡ Some (b, r) → P r)
          → found {B = Option (List ℕ × List ℕ)} o (λ rest. Some ([], rest)) (until word cs >>= (λ p. Some (c ∷ p.0, p.1))) ≡ Some (a, r) → P r
      step (Some x) p go e = subst P (some_pair_parts [] a x r e).1 (behind_word word (c ∷ cs) x p h)
      step None p go e =
          let ((b, q), f, g) = bind_some (until word cs) (λ p. Some (c ∷ p.0, p.1)) (a, r) e in
          go b (f ∙ ap (λ v. Some (b, v)) (some_pair_parts (c ∷ b) a q r g).1)

  behind_quoted : (cs v r : List ℕ) → quoted_at cs ≡ Some (v, r) → P cs → P r
  behind_quoted [] v r e h = cc
  behind_quoted (q ∷ cs) v r e h = by_case (is_quote q) e
    where
      by_case : (b : Bool) → cond b (until (q ∷ []) cs) None ≡ Some (v, r) → P r
      by_case true e = behind_until (q ∷ []) cs v r e (behind q cs h)
      by_case false e = cc

  behind_written : (word cs v r : List ℕ) → written_at word cs ≡ Some (v, r) → P cs → P r
  behind_written word cs v r e h =
      let (u, a, f) = bind_some (given (begins_white cs)) (λ u. strip_at word (behind_white cs) >>= (λ behind. strip_at (codes "=") (behind_white behind) >>= (λ value. quoted_at (behind_white value)))) (v, r) e in
      let (x, b, g) = bind_some (strip_at word (behind_white cs)) (λ behind. strip_at (codes "=") (behind_white behind) >>= (λ value. quoted_at (behind_white value))) (v, r) f in
      let (y, c, i) = bind_some (strip_at (codes "=") (behind_white x)) (λ value. quoted_at (behind_white value)) (v, r) g in
      behind_quoted (behind_white y) v r i (past_white y (behind_word (codes "=") (behind_white x) y c (past_white x (behind_word word (behind_white cs) x b (past_white cs h)))))

  behind_setting : (word : List ℕ) (test : List ℕ → Bool) (cs r : List ℕ) → setting_at word test cs ≡ Some r → P cs → P r
  behind_setting word test cs r e h = let (v, f) = passed_some test (written_at word cs) r e in behind_written word cs v r f h

  behind_optional : (o : Option (List ℕ)) (cs : List ℕ) → ((r : List ℕ) → o ≡ Some r → P r) → P cs → P (optional o cs)
  behind_optional None cs h k = k
  behind_optional (Some r) cs h k = h r refl

  behind_declaration : (cs r : List ℕ) → declaration_at cs ≡ Some r → P cs → P r
  unfolding declaration_at
  behind_declaration cs r e h =
      let (x, a, f) = bind_some (strip_at (codes "<?xml") cs) _ r e in
      let (y, b, g) = bind_some (setting_at (codes "version") is_version x) _ r f in
      let c = behind_setting (codes "version") is_version x y b (behind_word (codes "<?xml") cs x a h) in
      let encoding = optional (setting_at (codes "encoding") is_utf_8 y) y in
      let d : P encoding = behind_optional (setting_at (codes "encoding") is_utf_8 y) y (λ r i. behind_setting (codes "encoding") is_utf_8 y r i c) c in
      let standalone = optional (setting_at (codes "standalone") is_yes_or_no encoding) encoding in
      let i : P standalone = behind_optional (setting_at (codes "standalone") is_yes_or_no encoding) encoding (λ r i. behind_setting (codes "standalone") is_yes_or_no encoding r i d) d in
      behind_word (codes "?>") (behind_white standalone) r g (past_white standalone i)

  -- the document itself
  pub of_body : (cs : List ℕ) → P cs → P (body cs)
  unfolding body
  of_body cs h =
      let unmarked = optional (strip_at (0xFEFF ∷ []) cs) cs in
      let a : P unmarked = behind_optional (strip_at (0xFEFF ∷ []) cs) cs (λ r e. behind_word (0xFEFF ∷ []) cs r e h) h in
      behind_optional (declaration_at unmarked) unmarked (λ r e. behind_declaration unmarked r e a) a
