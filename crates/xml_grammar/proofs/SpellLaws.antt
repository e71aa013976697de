-- What a text spells, found by reading it.
use Rattle.std.proofs.Common.{◌≡◌, refl, sym, ap, subst, ◌∙◌, ℕ, zero, suc, List, [], ◌∷◌, Bool, true, false, cond, ◌&&◌, Option, Some, None, length}
use Rattle.std.specs.List.{list_all}
use Rattle.std.specs.Str.{chars, is_utf8}
use Rattle.std.proofs.lemmas.Bool.{and_parts}
use Rattle.std.proofs.lemmas.Option.{none-some}
use Rattle.std.proofs.lemmas.Str.{IsUtf8-from_is_utf8, is_utf8-from_IsUtf8}
use Rattle.at_base.specs.Chars.{is_xml_char}
use Rattle.xml_profile.specs.declared.tree.Tree.{Tree}
use Rattle.xml_grammar.specs.Characters.{◌>>=◌}
use Rattle.xml_grammar.specs.Spells.{Document, Spells, body, line_ends}
use Rattle.xml_grammar.specs.Code.Machine.{State, advance, opening}
use Rattle.xml_grammar.specs.Code.Reading.{next_at}
use Rattle.xml_grammar.specs.Code.Whole.{read_from, read_text}
use Rattle.xml_grammar.proofs.StepLaws.{Completes, Leads, step_back}
use Rattle.xml_grammar.proofs.TokenLaws.{bind_some, next_sound}
use Rattle.xml_grammar.proofs.WholeLaws.{at_end_back, document_read}

read_back : (n : ℕ) (s : State) (cs : List ℕ) (all : Tree) → read_from n s cs ≡ Some all → Completes s.bindings s.frames s.pending s.ended cs all
read_back zero s cs all e = absurd cc
read_back (suc n) s [] all e = at_end_back s.bindings s.frames s.pending s.ended all e
read_back (suc n) s (c ∷ cs) all e =
    let ((u, rest), f, g) = bind_some (next_at (c ∷ cs)) (λ p. advance s.bindings s.frames s.pending s.ended p.0 >>= (λ t. read_from n t p.1)) all e in
    let (t, a, b) = bind_some (advance s.bindings s.frames s.pending s.ended u) (λ t. read_from n t rest) all g in
    step_back s.bindings s.frames s.pending s.ended u (c ∷ cs) rest all (next_sound (c ∷ cs) u rest f)
    (subst (λ o. Leads o rest all) (sym a) (read_back n t rest all b))

document_back : (cs : List ℕ) (all : Tree) → read_text cs ≡ Some all → Document [] cs all
unfolding read_text
document_back cs all e = read_back (suc (length cs)) opening cs all e

-- what bytes are read as
abbrev pub meaning : List ℕ → Option Tree
meaning bytes = cond (is_utf8 bytes && list_all is_xml_char (chars bytes)) (read_text (body (line_ends (chars bytes)))) None

pub spelled : (bytes : List ℕ) (t : Tree) → meaning bytes ≡ Some t → Spells bytes t
spelled bytes t e = by_test (is_utf8 bytes && list_all is_xml_char (chars bytes)) refl e
  where
    by_test : (b : Bool) → (is_utf8 bytes && list_all is_xml_char (chars bytes)) ≡ b → cond b (read_text (body (line_ends (chars bytes)))) None ≡ Some t → Spells bytes t
    by_test false h f = absurd cc
    by_test true h f =
        let (utf8, characters) = and_parts (is_utf8 bytes) (list_all is_xml_char (chars bytes)) h in
        record { utf8 = IsUtf8-from_is_utf8 bytes utf8; characters = characters; document = document_back (body (line_ends (chars bytes))) t f }

pub unspelled : (bytes : List ℕ) → meaning bytes ≡ None → (t : Tree) → ¬ (Spells bytes t)
unspelled bytes e t h =
    let tested : (is_utf8 bytes && list_all is_xml_char (chars bytes)) ≡ true = rw (is_utf8-from_IsUtf8 bytes h.utf8, h.characters) refl in
    let read : meaning bytes ≡ Some t =
    ap (λ (b : Bool). cond b (read_text (body (line_ends (chars bytes)))) None) tested ∙ document_read (body (line_ends (chars bytes))) t h.document in
    none-some t (sym e ∙ read)
