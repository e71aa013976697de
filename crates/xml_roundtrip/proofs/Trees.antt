-- Each tree that a text spells can be spelled.
use Rattle.std.proofs.Common.{◌≡◌, refl, sym, subst, ℕ, List, [], ◌∷◌, ◌++◌, true, not, ◌&&◌, Some, chars, encode_utf8}
use Rattle.std.specs.List.{AllByRecursion}
use Rattle.xml_profile.specs.Forest.{Forest}
use Rattle.xml_profile.specs.Forest.Forest.{End as Nothing, Text_then, Element_then}
use Rattle.xml_profile.specs.declared.tree.Tree.{Tree}
use Rattle.xml_profile.specs.SpellableTrees as spellable
use Rattle.xml_grammar.specs.Tokens.{Token}
use Rattle.xml_grammar.specs.Tokens.Token.{Plain, Meant, Comment, Start, End}
use Rattle.xml_grammar.specs.Namespaces.{Binding}
use Rattle.xml_grammar.specs.Spells.{add_text, said, Content, Document, Spells}
use Rattle.xml_roundtrip.proofs.Bools.{and_true, both_true}
use Rattle.xml_roundtrip.proofs.ReadCharacters.{Fine, FineToken, token_fine, XmlText, is_text, text_of, text_one, text_both, document_fine}
use Rattle.xml_roundtrip.proofs.ReadNames.{Sound, means_well}

abbrev WellFormed : Forest → Type 0
WellFormed f = (spellable.texts_apart f ≡ true) × (spellable.is_content f ≡ true)

text_first : (t : List ℕ) (r : Forest) → XmlText t → not (spellable.is_empty t) ≡ true → not (spellable.begins_with_text r) ≡ true → WellFormed r → WellFormed (Text_then t r)
text_first t r h e a k = (
  both_true (not (spellable.begins_with_text r)) (spellable.texts_apart r) a k.0,
  both_true (not (spellable.is_empty t) && spellable.is_text t) (spellable.is_content r) (both_true (not (spellable.is_empty t)) (spellable.is_text t) e (is_text t h)) k.1,
)

-- a text in front
text_well : (t : List ℕ) (f : Forest) → XmlText t → WellFormed f → WellFormed (add_text t f)
text_well [] f h k = k
text_well (c ∷ cs) Nothing h k = text_first (c ∷ cs) Nothing h refl refl k
text_well (c ∷ cs) (Text_then u r) h k =
    let (a, b) = and_true (not (spellable.begins_with_text r)) (spellable.texts_apart r) k.0 in
    let (x, y) = and_true (not (spellable.is_empty u) && spellable.is_text u) (spellable.is_content r) k.1 in
    let (v, w) = and_true (not (spellable.is_empty u)) (spellable.is_text u) x in
    text_first (c ∷ cs ++ u) r (text_both (c ∷ cs) u h (text_of u w)) refl a (b, y)
text_well (c ∷ cs) (Element_then n ats q r) h k = text_first (c ∷ cs) (Element_then n ats q r) h refl refl k

said_text : (t : Token) (bytes : List ℕ) → FineToken t → said t ≡ Some bytes → XmlText bytes
said_text (Plain c) bytes h e = let i : encode_utf8 c ≡ bytes = cc in subst XmlText i (text_one c h)
said_text (Meant text) bytes h e = let i : text ≡ bytes = cc in subst XmlText i h
said_text Comment bytes h e = cc
said_text (Start tag) bytes h e = cc
said_text (End name) bytes h e = cc

pub content_well : {bs : List Binding} {cs : List ℕ} {f : Forest} {rest : List ℕ} → Content bs cs f rest → AllByRecursion Sound bs → Fine cs → WellFormed f × Fine rest
content_well {bs} {cs} {f} {rest} (Content.stop e g) b h = (subst WellFormed (sym g) (refl, refl), subst Fine e h)
content_well {bs} {cs} {f} {rest} (Content.text {ns = ns} t bytes at s k e) b h =
    let (x, y) = token_fine at h in
    let (u, v) = content_well k b y in
    (subst WellFormed (sym e) (text_well bytes ns (said_text t bytes x s) u), v)
content_well {bs} {cs} {f} {rest} (Content.comment at k) b h = content_well k b (token_fine at h).1
content_well {bs} {cs} {f} {rest} (Content.empty {ns = ns} tag m at i d k e) b h =
    let (x, y) = token_fine at h in
    let w = means_well bs tag m b x d in
    let (u, v) = content_well k b y in
    (subst WellFormed (sym e) (u.0, both_true (spellable.is_tag m.name m.attributes) (spellable.is_content ns) w.tag u.1), v)
content_well {bs} {cs} {f} {rest} (Content.nested {kids = kids} {ns = ns} tag m at i d inside closes k e) b h =
    let (x, y) = token_fine at h in
    let w = means_well bs tag m b x d in
    let (p, q) = content_well inside w.bindings y in
    let (u, v) = content_well k b (token_fine closes q).1 in (
      subst WellFormed (sym e) (
        u.0,
        both_true (spellable.is_tag m.name m.attributes) (spellable.texts_apart kids && (spellable.is_content kids && spellable.is_content ns)) w.tag
            (both_true (spellable.texts_apart kids) (spellable.is_content kids && spellable.is_content ns) p.0 (both_true (spellable.is_content kids) (spellable.is_content ns) p.1 u.1)),
      ),
      v,
    )

abbrev Can : Tree → Type 0
Can t = spellable.can_be_spelled t ≡ true

pub document_well : {bs : List Binding} {cs : List ℕ} {t : Tree} → Document bs cs t → AllByRecursion Sound bs → Fine cs → spellable.can_be_spelled t ≡ true
document_well (Document.white c at w k) b h = document_well k b (token_fine at h).1
document_well (Document.comment at k) b h = document_well k b (token_fine at h).1
document_well {bs} {cs} {t} (Document.empty tag m at i d k e) b h =
    let (x, y) = token_fine at h in
    let w = means_well bs tag m b x d in
    subst Can (sym e) (both_true (spellable.is_tag m.name m.attributes) true w.tag refl)
document_well {bs} {cs} {t} (Document.nested tag m kids at i d inside closes k e) b h =
    let (x, y) = token_fine at h in
    let w = means_well bs tag m b x d in
    let (p, q) = content_well inside w.bindings y in
    subst Can (sym e) (both_true (spellable.is_tag m.name m.attributes) (spellable.texts_apart kids && spellable.is_content kids) w.tag (both_true (spellable.texts_apart kids) (spellable.is_content kids) p.0 p.1))

pub spelled_well : (bytes : List ℕ) (t : Tree) → Spells bytes t → spellable.can_be_spelled t ≡ true
spelled_well bytes t h = document_well h.document tt (document_fine (chars bytes) h.characters)
