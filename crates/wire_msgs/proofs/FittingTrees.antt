-- Trees that can be spelled and are within the limits, and what is looked up in them.
use Rattle.std.proofs.Common.{◌≡◌, refl, arith, ℕ, ◌≤◌, List, [], ◌∷◌, Bool, true, false, cond, ◌&&◌, not, IfSome, Option, Some, None}
use Rattle.std.specs.List.{AllByRecursion, find}
use Rattle.xml_profile.specs.declared.tree.Tree.{Tree}
use Rattle.xml_profile.specs.Forest.{Forest}
use Rattle.xml_profile.specs.Forest.Forest.{End, Text_then, Element_then}
use Rattle.xml_profile.specs.SpellableTrees.{can_be_spelled, is_content, is_empty, is_tag, is_text, texts_apart}
use Rattle.xml_grammar.specs.Limits.{IsWithin, levels, elements as count, widest}
use Rattle.xml_grammar.specs.Refusals.{Reads}
use Rattle.xml_roundtrip.proofs.Bools.{and_true, both_true}
use Rattle.xml_roundtrip.proofs.Trees.{spelled_well}
use Rattle.soap_profile.specs.Children.{all_named, at_most_one, child_of, has_name, named}
use Rattle.soap_profile.specs.Envelopes.{is_reference_parameter}
use Rattle.soap_profile.specs.Values.{elements, is_named, text_value}
use Rattle.addressing.specs.Headers.{own_blocks}
use Rattle.wire_msgs.specs.WholeMessages.{IsClean}
use Rattle.wire_msgs.proofs.CleanTexts.{direct_fine, trim_clean}

pub record Fit (t : Tree) : Type 0 where
  pub spelled : can_be_spelled t ≡ true
  pub within : IsWithin t

pub record FitInside (f : Forest) : Type 0 where
  pub content : is_content f ≡ true
  pub levels : levels f ≤ 32
  pub elements : count f ≤ 4096
  pub attributes : widest f ≤ 32

abbrev pub AllFit : List Tree → Type 0
AllFit ts = AllByRecursion Fit ts

pub read_fit : (bytes : List ℕ) (t : Tree) → Reads bytes t → Fit t
read_fit bytes t r = record { spelled = spelled_well bytes t r.spells; within = r.within }

inside : (t : Tree) → Fit t → FitInside t.children
inside t f =
    let (tag, rest) = and_true (is_tag t.name t.attributes) (texts_apart t.children && is_content t.children) f.spelled in
    let (separate, content) = and_true (texts_apart t.children) (is_content t.children) rest in
    let within = f.within in
    let deep = within.levels in
    let many = within.elements in
    let wide = within.attributes in
    record { content = content; levels = omega (arith, deep); elements = omega (arith, many); attributes = omega (arith, wide) }

fit_within : (f : Forest) → FitInside f → AllFit (elements f)
fit_within End h = tt
fit_within (Text_then t r) h =
    fit_within r (record { content = (and_true (not (is_empty t) && is_text t) (is_content r) h.content).1; levels = h.levels; elements = h.elements; attributes = h.attributes })
fit_within (Element_then n a c r) h =
    let (tag, rest) = and_true (is_tag n a) (texts_apart c && (is_content c && is_content r)) h.content in
    let (separate, contents) = and_true (texts_apart c) (is_content c && is_content r) rest in
    let (content, more) = and_true (is_content c) (is_content r) contents in
    let deep = h.levels in
    let many = h.elements in
    let wide = h.attributes in
    let own : Fit (record { name = n; attributes = a; children = c }) = record {
      spelled = both_true (is_tag n a) (texts_apart c && is_content c) tag (both_true (texts_apart c) (is_content c) separate content);
      within = record { levels = omega (arith, deep); elements = omega (arith, many); attributes = omega (arith, wide) };
    } in
    (own, fit_within r (record { content = more; levels = omega (arith, deep); elements = omega (arith, many); attributes = omega (arith, wide) }))

pub fit_elements : (t : Tree) → Fit t → AllFit (elements t.children)
fit_elements t f = fit_within t.children (inside t f)

pub value_clean : (t : Tree) → Fit t → IsClean (text_value t)
value_clean t f = trim_clean _ (direct_fine t.children (inside t f).content)

-- look-ups

-- one of this name that fits
abbrev pub FitNamed : List ℕ → List ℕ → Tree → Type 0
FitNamed space local t = Fit t × (is_named t.name space local ≡ true)

-- where there is at most one
abbrev pub IfOne : {A : Type 0} → (A → Type 0) → Option (Option A) → Type 0
IfOne P None = Unit {0}
IfOne P (Some one) = IfSome one P

pub named_fit : (ts : List Tree) (space local : List ℕ) → AllFit ts → AllByRecursion (FitNamed space local) (named ts space local)
named_fit [] space local h = tt
named_fit (t ∷ ts) space local h = by_name (is_named t.name space local) refl (named_fit ts space local h.1)
  where
    by_name : (b : Bool) → is_named t.name space local ≡ b → AllByRecursion (FitNamed space local) (named ts space local)
        → AllByRecursion (FitNamed space local) (cond b (t ∷ named ts space local) (named ts space local))
    by_name true e rest = ((h.0, e), rest)
    by_name false e rest = rest

pub one_of : (P : Tree → Type 0) (ts : List Tree) → AllByRecursion P ts → IfOne P (at_most_one ts)
one_of P [] h = tt
one_of P (t ∷ []) h = h.0
one_of P (t ∷ u ∷ ts) h = tt

pub one_named : (ts : List Tree) (space local : List ℕ) → AllFit ts → IfOne (FitNamed space local) (at_most_one (named ts space local))
one_named ts space local h = one_of (FitNamed space local) (named ts space local) (named_fit ts space local h)

pub looser : (P Q : Tree → Type 0) → ((t : Tree) → P t → Q t) → (one : Option (Option Tree)) → IfOne P one → IfOne Q one
looser P Q f None h = tt
looser P Q f (Some None) h = tt
looser P Q f (Some (Some t)) h = f t h

pub all_fit : (ts : List Tree) (space : Option (List ℕ)) (local : List ℕ) → AllFit ts → AllFit (all_named ts space local)
all_fit [] space local h = tt
all_fit (t ∷ ts) space local h = by_name (has_name space local t.name) (all_fit ts space local h.1)
  where
    by_name : (b : Bool) → AllFit (all_named ts space local) → AllFit (cond b (t ∷ all_named ts space local) (all_named ts space local))
    by_name true rest = (h.0, rest)
    by_name false rest = rest

pub child_fit : (t : Tree) (space : Option (List ℕ)) (local : List ℕ) → Fit t → IfOne Fit (child_of t space local)
child_fit t space local f =
    one_of Fit (all_named (elements t.children) space local) (all_fit (elements t.children) space local (fit_elements t f))

pub own_fit : (ts : List Tree) → AllFit ts → AllFit (own_blocks ts)
own_fit [] h = tt
own_fit (t ∷ ts) h = by_mark (is_reference_parameter t) (own_fit ts h.1)
  where
    by_mark : (b : Bool) → AllFit (own_blocks ts) → AllFit (cond b (own_blocks ts) (t ∷ own_blocks ts))
    by_mark true rest = rest
    by_mark false rest = (h.0, rest)

pub find_fit : (p : Tree → Bool) (ts : List Tree) → AllFit ts → IfSome (find p ts) Fit
find_fit p [] h = tt
find_fit p (t ∷ ts) h = by_test (p t) (find_fit p ts h.1)
  where
    by_test : (b : Bool) → IfSome (find p ts) Fit → IfSome (cond b (Some t) (find p ts)) Fit
    by_test true rest = h.0
    by_test false rest = rest
