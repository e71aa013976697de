-- The loop over tokens, and what its end says of the whole text.
use Rattle.std.proofs.Common.{◌≡◌, ◌⊎◌, inl, inr, refl, sym, subst, ap, ◌∙◌, arith, ℕ, ◌<◌, ◌≤◌, List, [], ◌∷◌, Bool, true, false, Option, Some, None, Result, Ok, Err, IfOk, IfErr, length, option_map, chars}
use Rattle.std.specs.List.{list_all}
use Rattle.std.specs.Str.{IsUtf8}
use Rattle.at_base.specs.Chars.{is_xml_char}
use Rattle.xml_grammar.specs.Tokens.{Token}
use Rattle.xml_grammar.specs.Spells.{Document, Spells, body, line_ends}
use Rattle.xml_grammar.specs.Code.Reading.{next_at}
use Rattle.xml_grammar.specs.Code.Machine.{Frame, State, opening, advance}
use Rattle.xml_grammar.specs.Code.Whole.{finished}
use Rattle.xml_grammar.specs.Code.Shallow.{Reading, reading, read_with, shallow, cut_frames, cut_tree, levels_at}
use Rattle.xml_grammar.specs.Limits.{IsWithin, levels_of, elements_of, widest_of}
use Rattle.xml_grammar.specs.Code.Found.{IsFound, Finds, ended_at, finish, Judged}
use Rattle.xml_grammar.specs.Refusals.{IsShort, Reads, IsTooDeep, IsTooMany, Refuses, Answers}
use Rattle.xml_grammar.specs.Code.Open.{going}
use Rattle.xml_grammar.specs.declared.machine.Found.{Found}
use Rattle.xml_grammar.specs.declared.reader.TreeRefusal.{TreeRefusal}
use Rattle.xml_grammar.specs.declared.reader.TreeRefusal.TheVariants.{TooLong, NotUtf8, NotSpelled, TooDeep, TooMany, NoMemory}
use Rattle.xml_grammar.proofs.TokenLaws.{next_sound}
use Rattle.xml_grammar.proofs.WholeLaws.{Stands, stands_first, stands_next, stands_not, stands_none, stands_end, stands_only, spells_one, token_shorter}
use Rattle.xml_grammar.proofs.ShallowLaws.{read_on_reads, cut-whole}
use Rattle.xml_profile.specs.declared.tree.Tree.{Tree}

-- The loop

-- some state of the whole machine is behind what is read, and the rest completes it
pub record Reaches (cs : List ℕ) (r : Reading) (rest : List ℕ) : Type 0 where
  pub whole : State
  pub stands : Stands cs whole rest
  pub kept : r ≡ shallow whole

pub reaches_first : (cs : List ℕ) (r : Reading) → r ≡ reading 0 opening → Reaches cs r cs
reaches_first cs r e = record { whole = opening; stands = stands_first cs; kept = e }

reads_state : (s : State) (t : Token) → read_with (shallow s) t ≡ option_map shallow (advance s.bindings s.frames s.pending s.ended t)
reads_state s t = read_on_reads s.bindings s.frames s.pending s.ended t

some_mapped : (o : Option State) (r : Reading) → Some r ≡ option_map shallow o → (s : State) × (o ≡ Some s) × (r ≡ shallow s)
some_mapped None r e = cc
some_mapped (Some s) r e = (s, refl, cc)

none_mapped : (o : Option State) → None ≡ option_map shallow o → o ≡ None
none_mapped None e = refl
none_mapped (Some s) e = cc

module _ (cs rest : List ℕ) (r new : Reading) (t : Token) (more : List ℕ) (at : next_at rest ≡ Some (t, more)) (h : Reaches cs r rest) where
  on_whole : (o : Option Reading) → o ≡ read_with r t → o ≡ option_map shallow (advance h.whole.bindings h.whole.frames h.whole.pending h.whole.ended t)
  on_whole o e = e ∙ (ap (λ v. read_with v t) h.kept ∙ reads_state h.whole t)

  pub reaches_next : Some new ≡ read_with r t → Reaches cs new more
  reaches_next e =
      let (s, a, b) = some_mapped (advance h.whole.bindings h.whole.frames h.whole.pending h.whole.ended t) new (on_whole (Some new) e) in
      record { whole = s; stands = stands_next cs h.whole s rest more t (next_sound rest t more at) a h.stands; kept = b }

  pub reaches_not : None ≡ read_with r t → (all : Tree) → Document [] cs all → ⊥
  reaches_not e all d =
      let a = none_mapped (advance h.whole.bindings h.whole.frames h.whole.pending h.whole.ended t) (on_whole None e) in
      stands_not cs h.whole rest more t (next_sound rest t more at) a h.stands all d

  pub next_shorter : length more < length rest
  next_shorter = token_shorter (next_sound rest t more at)

pub stops : (b : Bool) (new : Reading) (o : Option Reading) → going b new ≡ o → b ≡ false → None ≡ o
stops b new o e f = sym (ap (λ c. going c new) f) ∙ e

pub goes_on : (b : Bool) (new : Reading) (o : Option Reading) → going b new ≡ o → b ≡ true → Some new ≡ o
goes_on b new o e f = sym (ap (λ c. going c new) f) ∙ e

pub reaches_none : (cs rest : List ℕ) (r : Reading) → (rest ≡ [] → ⊥) → next_at rest ≡ None → Reaches cs r rest → (all : Tree) → Document [] cs all → ⊥
reaches_none cs [] r n e h all d = absurd (n refl)
reaches_none cs (c ∷ rest) r n e h all d = stands_none cs h.whole c rest e h.stands all d

finds_by : (cs : List ℕ) (s : State) (fs : List Frame) (e : Option Tree) → s.frames ≡ fs → s.ended ≡ e → Stands cs s [] → Finds cs (ended_at (cut_frames fs) (option_map cut_tree e) (levels_at fs e))
finds_by cs s [] None f g h = λ t d. let k : finished [] None ≡ Some t = subst (λ v. finished v None ≡ Some t) f (subst (λ v. finished s.frames v ≡ Some t) g (stands_only cs s t h d)) in cc
finds_by cs s [] (Some t) f g h = record { whole = t; document = stands_end cs s t h (rw (f, g) refl); kept = refl; counted = refl }
finds_by cs s (x ∷ fs) e f g h = λ t d. let k : finished (x ∷ fs) s.ended ≡ Some t = subst (λ v. finished v s.ended ≡ Some t) f (stands_only cs s t h d) in cc

pub reaches_end : (cs : List ℕ) (r : Reading) → Reaches cs r [] → Finds cs (finish r)
reaches_end cs r h = subst (λ v. Finds cs (finish v)) (sym h.kept) (finds_by cs h.whole h.whole.frames h.whole.ended refl refl h.stands)

-- The limits

is_whole : (found whole : Tree) (n : ℕ) → found ≡ cut_tree whole → n ≡ levels_of whole → n ≤ 32 → found ≡ whole
is_whole found whole n e f l =
    let k = cut-whole 31 whole.children (omega (arith, f, l)) in
    e ∙ (λ i. record { name = whole.name; attributes = whole.attributes; children = k i })

pub judged_ok : (cs : List ℕ) (found : Found) (t : Tree) → IsFound cs found → Judged found (Ok t) → Document [] cs t × IsWithin t
judged_ok cs found t h (e, l, m, w) =
    let k = is_whole found.tree h.whole found.levels h.kept h.counted l in
    let s : h.whole ≡ t = sym k ∙ sym e in
    (subst (Document [] cs) s h.document, record { levels = subst (λ v. levels_of v ≤ 32) s (subst (λ n. n ≤ 32) h.counted l); elements = m; attributes = w })

pub judged_deep : (bytes cs : List ℕ) (found : Found) → IsShort bytes → ((t : Tree) → Document [] cs t → Spells bytes t) → IsFound cs found → Judged found (Err TooDeep) → IsTooDeep bytes
judged_deep bytes cs found s go h l = record { short = s; tree = h.whole; spells = go h.whole h.document; deep = subst (λ n. 32 < n) h.counted l }

pub judged_many : (bytes cs : List ℕ) (found : Found) → IsShort bytes → ((t : Tree) → Document [] cs t → Spells bytes t) → IsFound cs found → Judged found (Err TooMany) → IsTooMany bytes
judged_many bytes cs found s go h (l, m) =
    let k = is_whole found.tree h.whole found.levels h.kept h.counted l in
    record {
      short = s;
      tree = h.whole;
      spells = go h.whole h.document;
      shallow = subst (λ n. n ≤ 32) h.counted l;
      many = subst (λ t. (4096 < elements_of t) ⊎ (32 < widest_of t)) k m;
    }

pub judged : (bytes cs : List ℕ) (found : Found) → IsShort bytes → ((t : Tree) → Document [] cs t → Spells bytes t) → IsFound cs found → (r : TreeRefusal) → Judged found (Err r) → Refuses bytes r
judged bytes cs found s go h TooLong j = absurd j
judged bytes cs found s go h (NotUtf8 place) j = absurd j
judged bytes cs found s go h NotSpelled j = absurd j
judged bytes cs found s go h TooDeep j = judged_deep bytes cs found s go h j
judged bytes cs found s go h TooMany j = judged_many bytes cs found s go h j
judged bytes cs found s go h NoMemory j = tt

-- The text

pub spells_by : (bytes lines : List ℕ) → IsUtf8 bytes → list_all is_xml_char (chars bytes) ≡ true → lines ≡ line_ends (chars bytes) → (t : Tree) → Document [] (body lines) t → Spells bytes t
spells_by bytes lines u c e t d = record { utf8 = u; characters = c; document = subst (λ v. Document [] (body v) t) e d }

pub spelled_by : (bytes lines : List ℕ) → lines ≡ line_ends (chars bytes) → (t : Tree) → Spells bytes t → Document [] (body lines) t
spelled_by bytes lines e t s = subst (λ v. Document [] (body v) t) (sym e) s.document

pub no_chars : (bytes : List ℕ) → list_all is_xml_char (chars bytes) ≡ false → (t : Tree) → Spells bytes t → ⊥
no_chars bytes e t s = let k : true ≡ false = sym s.characters ∙ e in cc

pub text_ok : (bytes lines : List ℕ) (found : Found) (r : Result Tree TreeRefusal) → IsShort bytes → IsUtf8 bytes → list_all is_xml_char (chars bytes) ≡ true → lines ≡ line_ends (chars bytes)
    → IsFound (body lines) found → Judged found r → IfOk r (Reads bytes)
text_ok bytes lines found (Ok t) s u c e h j =
    let k = judged_ok (body lines) found t h j in
    record { short = s; spells = spells_by bytes lines u c e t k.0; within = k.1 }
text_ok bytes lines found (Err r) s u c e h j = tt

pub text_err : (bytes lines : List ℕ) (found : Found) (r : Result Tree TreeRefusal) → IsShort bytes → IsUtf8 bytes → list_all is_xml_char (chars bytes) ≡ true → lines ≡ line_ends (chars bytes)
    → IsFound (body lines) found → Judged found r → IfErr r (Refuses bytes)
text_err bytes lines found (Ok t) s u c e h j = tt
text_err bytes lines found (Err r) s u c e h j = judged bytes (body lines) found s (spells_by bytes lines u c e) h r j

pub finds_found : (cs : List ℕ) (o : Option Found) (found : Found) → Finds cs o → o ≡ Some found → IsFound cs found
finds_found cs o found h e = subst (Finds cs) e h

-- Every tree that is spelled within the limits is answered

refused_none : (bytes : List ℕ) (t : Tree) → Reads bytes t → (r : TreeRefusal) → Refuses bytes r → Answers (Err r) t
refused_none bytes t h TooLong k = absurd (omega (arith, h.short, k))
refused_none bytes t h (NotUtf8 place) k = absurd (k.no_utf8 h.spells.utf8)
refused_none bytes t h NotSpelled k = absurd (k.spells_none t h.spells)
refused_none bytes t h TooDeep k =
    let e = spells_one bytes k.tree t k.spells h.spells in
    absurd (omega (arith, subst (λ v. 32 < levels_of v) e k.deep, h.within.levels))
refused_none bytes t h TooMany k =
    let e = spells_one bytes k.tree t k.spells h.spells in
    elim (subst (λ v. (4096 < elements_of v) ⊎ (32 < widest_of v)) e k.many) [
      | inl m ↦ absurd (omega (arith, m, h.within.elements))
      | inr m ↦ absurd (omega (arith, m, h.within.attributes))
    ]
refused_none bytes t h NoMemory k = tt

pub answers : (bytes : List ℕ) (r : Result Tree TreeRefusal) → IfOk r (Reads bytes) → IfErr r (Refuses bytes) → (t : Tree) → Reads bytes t → Answers r t
answers bytes (Ok u) ok err t h = spells_one bytes u t ok.spells h.spells
answers bytes (Err r) ok err t h = refused_none bytes t h r err
