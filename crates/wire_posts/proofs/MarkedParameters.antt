-- A reference parameter that can be spelled can be spelled items a header block.
use Rattle.std.proofs.Common.{◌≡◌, ℕ, List, [], ◌∷◌, ◌++◌, map, Bool, true, false, ◌&&◌, ◌||◌, not, Option, Some, None, refl, ap, sym, ◌∙◌, cond, codes}
use Rattle.std.specs.List.{list_all, list_any}
use Rattle.std.specs.Str.{bytes_eq}
use Rattle.std.proofs.lemmas.Slice.Eq.{bytes_eq-Decides}
use Rattle.std.specs.Str.{chars, is_utf8}
use Rattle.xml_profile.specs.declared.name.QName.{QName}
use Rattle.xml_profile.specs.declared.name.Attribute.{Attribute}
use Rattle.xml_profile.specs.declared.tree.Tree.{Tree}
use Rattle.xml_profile.specs.Prefixes.{addressing}
use Rattle.xml_profile.specs.SpellableTrees.{are_apart, is_attribute, is_content, is_name, is_tag, same_name, same_space, texts_apart}
use Rattle.soap_profile.specs.Values.{is_in}
use Rattle.addressing.specs.OutgoingHeaders.{is_mark, mark, marked, marked_attributes, with_mark}
use Rattle.wire_posts.proofs.SpellableParts.{AllCan, Can}
use Rattle.wire_posts.proofs.Bools.{apart, both, both_true, false_unless, named_so, not_so}

mark_fits : is_attribute mark ≡ true
unfolding chars is_utf8 lib.Utf8.encode
mark_fits = refl

-- a mark that is replaced has its name
replaced_name : (a : Attribute) (b : Bool) → is_mark a ≡ b → (cond b mark a).name ≡ a.name
replaced_name a true h = sym (named_so a.name addressing (codes "IsReferenceParameter") h)
replaced_name a false h = refl

same_named : (a : Attribute) → (with_mark a).name ≡ a.name
same_named a = replaced_name a (is_mark a) refl

replaced_fits : (a : Attribute) (b : Bool) → is_attribute a ≡ true → is_attribute (cond b mark a) ≡ true
replaced_fits a true h = mark_fits
replaced_fits a false h = h

all_fit : (items : List Attribute) → list_all is_attribute items ≡ true → list_all is_attribute (map with_mark items) ≡ true
all_fit [] h = refl
all_fit (a ∷ items) h =
    let (first, rest) = both (is_attribute a) (list_all is_attribute items) h in
    both_true (is_attribute (with_mark a)) (list_all is_attribute (map with_mark items)) (replaced_fits a (is_mark a) first) (all_fit items rest)

same_any : (n : QName) (items : List Attribute) → list_any (λ b. same_name n b.name) (map with_mark items) ≡ list_any (λ b. same_name n b.name) items
same_any n [] = refl
same_any n (a ∷ items) = λ i. same_name n (same_named a i) || same_any n items i

all_apart : (items : List Attribute) → are_apart (map with_mark items) ≡ are_apart items
all_apart [] = refl
all_apart (a ∷ items) =
    let any : list_any (λ b. same_name (with_mark a).name b.name) (map with_mark items) ≡ list_any (λ b. same_name a.name b.name) items =
    same_any (with_mark a).name items ∙ ap (λ (n : QName). list_any (λ b. same_name n b.name) items) (same_named a) in
    λ i. not (any i) && all_apart items i

-- what has the mark's name is a mark
spaced_so : (s : Option (List ℕ)) → same_space mark.name.space s ≡ true → is_in s addressing ≡ true
spaced_so None h = absurd cc
spaced_so (Some s) h = (bytes_eq-Decides s addressing).1 (sym ((bytes_eq-Decides addressing s).0 h))

marks_so : (a : Attribute) → same_name mark.name a.name ≡ true → is_mark a ≡ true
marks_so a h =
    let (x, y) = both (same_space mark.name.space a.name.space) (bytes_eq mark.name.local a.name.local) h in
    both_true (is_in a.name.space addressing) (bytes_eq a.name.local (codes "IsReferenceParameter")) (spaced_so a.name.space x)
    ((bytes_eq-Decides a.name.local (codes "IsReferenceParameter")).1 (sym ((bytes_eq-Decides (codes "IsReferenceParameter") a.name.local).0 y)))

either_false : (a b : Bool) → (a || b) ≡ false → (a ≡ false) × (b ≡ false)
either_false true b h = absurd cc
either_false false b h = (refl, h)

both_false : (a b : Bool) → a ≡ false → b ≡ false → (a || b) ≡ false
both_false true b h k = absurd cc
both_false false b h k = k

none_named : (items : List Attribute) → list_any is_mark items ≡ false → list_any (λ b. same_name mark.name b.name) items ≡ false
none_named [] h = refl
none_named (a ∷ items) h =
    let (first, rest) = either_false (is_mark a) (list_any is_mark items) h in
    both_false (same_name mark.name a.name) (list_any (λ b. same_name mark.name b.name) items)
    (false_unless (same_name mark.name a.name) (λ k. apart (is_mark a) (marks_so a k) first)) (none_named items rest)

fitting : (items : List Attribute) (b : Bool) → list_all is_attribute items ≡ true
    → list_all is_attribute (cond b [] (mark ∷ []) ++ map with_mark items) ≡ true
fitting items true h = all_fit items h
fitting items false h = both_true (is_attribute mark) (list_all is_attribute (map with_mark items)) mark_fits (all_fit items h)

separate : (items : List Attribute) (b : Bool) → list_any is_mark items ≡ b → are_apart items ≡ true
    → are_apart (cond b [] (mark ∷ []) ++ map with_mark items) ≡ true
separate items true e h = all_apart items ∙ h
separate items false e h =
    both_true (not (list_any (λ b. same_name mark.name b.name) (map with_mark items))) (are_apart (map with_mark items))
    (not_so (list_any (λ b. same_name mark.name b.name) (map with_mark items)) (same_any mark.name items ∙ none_named items e))
    (all_apart items ∙ h)

pub marked_can : (t : Tree) → Can t → Can (marked t)
marked_can t h =
    let (tag, inside) = both (is_tag t.name t.attributes) (texts_apart t.children && is_content t.children) h in
    let (name, attributes) = both (is_name t.name) (list_all is_attribute t.attributes && are_apart t.attributes) tag in
    let (fit, apart) = both (list_all is_attribute t.attributes) (are_apart t.attributes) attributes in
    both_true (is_tag t.name (marked_attributes t.attributes)) (texts_apart t.children && is_content t.children)
    (both_true (is_name t.name) (list_all is_attribute (marked_attributes t.attributes) && are_apart (marked_attributes t.attributes)) name
    (both_true (list_all is_attribute (marked_attributes t.attributes)) (are_apart (marked_attributes t.attributes))
    (fitting t.attributes (list_any is_mark t.attributes) fit) (separate t.attributes (list_any is_mark t.attributes) refl apart)))
    inside

pub all_marked : (ts : List Tree) → AllCan ts → AllCan (map marked ts)
all_marked [] h = tt
all_marked (t ∷ ts) h = (marked_can t h.0, all_marked ts h.1)
