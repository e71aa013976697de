-- Bytes say one thing at a path, and so one report is printed of them.
use Rattle.std.proofs.Common.{◌≡◌, ◌⊎◌, ◌++◌, ℕ, List, Option, Some, None, Result, Ok, Err, inl, inr, refl, sym, ap, subst, ◌∙◌, ◌<◌, arith, codes, IfOk}
use Rattle.std.specs.Option.{option_map}
use Rattle.xml_profile.specs.declared.tree.Tree.{Tree}
use Rattle.xml_grammar.specs.Spells.{Spells}
use Rattle.xml_grammar.specs.Limits.{levels_of, elements_of, widest_of}
use Rattle.xml_grammar.specs.Refusals.{Reads, IsTooDeep, IsTooMany}
use Rattle.xml_grammar.specs.Refusals.{Refuses as RefusesTree}
use Rattle.xml_grammar.specs.declared.reader.TreeRefusal.{TreeRefusal}
use Rattle.xml_grammar.specs.declared.reader.TreeRefusal.TheVariants as trees
use Rattle.at_base.specs.declared.outs.Post.{Post}
use Rattle.at_tables.specs.declared.cells.Cell.{Cell}
use Rattle.at_tables.specs.declared.cells.State.{State}
use Rattle.wire_msgs.specs.declared.decode.Arrival.{Arrival}
use Rattle.wire_msgs.specs.declared.refusal.Refusal.{Refusal}
use Rattle.wire_msgs.specs.declared.refusal.Refusal.TheVariants as refusals
use Rattle.wire_msgs.specs.Arrivals.{Means, arrival_of}
use Rattle.wire_msgs.specs.Refusals.{of_tree}
use Rattle.wire_posts.specs.Envelopes.{IsTextOf}
use Rattle.envelope_cmd.specs.declared.table.NoRow.{NoRow}
use Rattle.envelope_cmd.specs.Cells.{IsCellOf, IsCellTold, IsMetPrinted, IsPosted, cell_line, meets, posted}
use Rattle.envelope_cmd.specs.Checks.{IsCheckOf, check_of}
use Rattle.envelope_cmd.specs.Output.{Output, accepted, refused}
use Rattle.envelope_cmd.specs.Refusals.{refusal_line}
use Rattle.envelope_cmd.specs.RequestMeanings.{IsTold, SayOneThing, Says}

abbrev pub OneTree : Type 0
OneTree = (bytes : List ℕ) → (t : Tree) → (u : Tree) → Spells bytes t → Spells bytes u → t ≡ u

abbrev pub OneText : Type 0
OneText = (post : Post) → (x : List ℕ) → (y : List ℕ) → IsTextOf post x → IsTextOf post y → x ≡ y

-- all but want of memory is told
abbrev IsKnown : TreeRefusal → Type 0
IsKnown trees.NoMemory = ⊥
IsKnown r = Unit {0}

both_deep : OneTree → (bytes : List ℕ) → IsTooDeep bytes → (u : Tree) → Spells bytes u → 32 < levels_of u
both_deep one bytes h u k = subst (λ t. 32 < levels_of t) (one bytes h.tree u h.spells k) h.deep

over : OneTree → (bytes : List ℕ) → IsTooMany bytes → (u : Tree) → Spells bytes u → (4096 < elements_of u) ⊎ (32 < widest_of u)
over one bytes h u k = subst (λ t. (4096 < elements_of t) ⊎ (32 < widest_of t)) (one bytes h.tree u h.spells k) h.many

-- what is read isn't refused
reads_none : OneTree → (bytes : List ℕ) (t : Tree) (r : TreeRefusal) → Reads bytes t → RefusesTree bytes r → IsKnown r → ⊥
reads_none one bytes t trees.TooLong h k known = omega (arith, h.short, k)
reads_none one bytes t (trees.NotUtf8 place) h k known = k.no_utf8 h.spells.utf8
reads_none one bytes t trees.NotSpelled h k known = k.spells_none t h.spells
reads_none one bytes t trees.TooDeep h k known = omega (arith, h.within.levels, both_deep one bytes k t h.spells)
reads_none one bytes t trees.TooMany h k known = elim (over one bytes k t h.spells) [
  | inl many ↦ omega (arith, h.within.elements, many)
  | inr wide ↦ omega (arith, h.within.attributes, wide)
]
reads_none one bytes t trees.NoMemory h k known = known

-- the bytes are refused for one cause
refused_once : OneTree → (bytes : List ℕ) (r q : TreeRefusal) → RefusesTree bytes r → RefusesTree bytes q → IsKnown r → IsKnown q → r ≡ q
refused_once one bytes trees.TooLong trees.TooLong h k known also = refl
refused_once one bytes trees.TooLong (trees.NotUtf8 n) h k known also = absurd (omega (arith, h, k.short))
refused_once one bytes trees.TooLong trees.NotSpelled h k known also = absurd (omega (arith, h, k.short))
refused_once one bytes trees.TooLong trees.TooDeep h k known also = absurd (omega (arith, h, k.short))
refused_once one bytes trees.TooLong trees.TooMany h k known also = absurd (omega (arith, h, k.short))
refused_once one bytes trees.TooLong trees.NoMemory h k known also = absurd also
refused_once one bytes (trees.NotUtf8 m) trees.TooLong h k known also = absurd (omega (arith, k, h.short))
refused_once one bytes (trees.NotUtf8 m) (trees.NotUtf8 n) h k known also = ap trees.NotUtf8 (h.first ∙ sym k.first)
refused_once one bytes (trees.NotUtf8 m) trees.NotSpelled h k known also = absurd (h.no_utf8 k.utf8)
refused_once one bytes (trees.NotUtf8 m) trees.TooDeep h k known also = absurd (h.no_utf8 k.spells.utf8)
refused_once one bytes (trees.NotUtf8 m) trees.TooMany h k known also = absurd (h.no_utf8 k.spells.utf8)
refused_once one bytes (trees.NotUtf8 m) trees.NoMemory h k known also = absurd also
refused_once one bytes trees.NotSpelled trees.TooLong h k known also = absurd (omega (arith, k, h.short))
refused_once one bytes trees.NotSpelled (trees.NotUtf8 n) h k known also = absurd (k.no_utf8 h.utf8)
refused_once one bytes trees.NotSpelled trees.NotSpelled h k known also = refl
refused_once one bytes trees.NotSpelled trees.TooDeep h k known also = absurd (h.spells_none k.tree k.spells)
refused_once one bytes trees.NotSpelled trees.TooMany h k known also = absurd (h.spells_none k.tree k.spells)
refused_once one bytes trees.NotSpelled trees.NoMemory h k known also = absurd also
refused_once one bytes trees.TooDeep trees.TooLong h k known also = absurd (omega (arith, k, h.short))
refused_once one bytes trees.TooDeep (trees.NotUtf8 n) h k known also = absurd (k.no_utf8 h.spells.utf8)
refused_once one bytes trees.TooDeep trees.NotSpelled h k known also = absurd (k.spells_none h.tree h.spells)
refused_once one bytes trees.TooDeep trees.TooDeep h k known also = refl
refused_once one bytes trees.TooDeep trees.TooMany h k known also = absurd (omega (arith, k.shallow, both_deep one bytes h k.tree k.spells))
refused_once one bytes trees.TooDeep trees.NoMemory h k known also = absurd also
refused_once one bytes trees.TooMany trees.TooLong h k known also = absurd (omega (arith, k, h.short))
refused_once one bytes trees.TooMany (trees.NotUtf8 n) h k known also = absurd (k.no_utf8 h.spells.utf8)
refused_once one bytes trees.TooMany trees.NotSpelled h k known also = absurd (k.spells_none h.tree h.spells)
refused_once one bytes trees.TooMany trees.TooDeep h k known also = absurd (omega (arith, h.shallow, both_deep one bytes k h.tree h.spells))
refused_once one bytes trees.TooMany trees.TooMany h k known also = refl
refused_once one bytes trees.TooMany trees.NoMemory h k known also = absurd also
refused_once one bytes trees.NoMemory q h k known also = absurd known

-- why bytes say something: they spell no tree that is read, or the tree means it
record Unread (bytes : List ℕ) (said : Result Arrival Refusal) : Type 0 where
  cause : TreeRefusal
  refuses : RefusesTree bytes cause
  known : IsKnown cause
  is : said ≡ Err (of_tree cause)

origin : (bytes path : List ℕ) (said : Result Arrival Refusal) → Says bytes path said → IsTold said → Unread bytes said ⊎ Means bytes path said
origin bytes path (Ok a) h told = inr h
origin bytes path (Err refusals.TooLong) h told = inl (record { cause = trees.TooLong; refuses = h; known = tt; is = refl })
origin bytes path (Err (refusals.NotUtf8 place)) h told = inl (record { cause = trees.NotUtf8 place; refuses = h; known = tt; is = refl })
origin bytes path (Err refusals.NotSpelled) h told = inl (record { cause = trees.NotSpelled; refuses = h; known = tt; is = refl })
origin bytes path (Err refusals.TooDeep) h told = inl (record { cause = trees.TooDeep; refuses = h; known = tt; is = refl })
origin bytes path (Err refusals.TooMany) h told = inl (record { cause = trees.TooMany; refuses = h; known = tt; is = refl })
origin bytes path (Err refusals.VersionMismatch) h told = inr h
origin bytes path (Err refusals.NotEnvelope) h told = inr h
origin bytes path (Err (refusals.MustUnderstand name)) h told = inr h
origin bytes path (Err (refusals.MissingHeader name)) h told = inr h
origin bytes path (Err (refusals.InvalidHeader name)) h told = inr h
origin bytes path (Err refusals.NoTarget) h told = inr h
origin bytes path (Err refusals.Action) h told = inr h
origin bytes path (Err (refusals.Parameters name)) h told = inr h
origin bytes path (Err refusals.NoMemory) h (line, e) = absurd cc

one_meaning : OneTree → (bytes path : List ℕ) (said other : Result Arrival Refusal) → Means bytes path said → Means bytes path other → said ≡ other
one_meaning one bytes path said other h k =
    sym h.means ∙ (ap (λ t. arrival_of t path) (one bytes h.tree k.tree h.reads.spells k.reads.spells) ∙ k.means)

one_origin : OneTree → (bytes path : List ℕ) (said other : Result Arrival Refusal) → Unread bytes said ⊎ Means bytes path said
    → Unread bytes other ⊎ Means bytes path other → said ≡ other
one_origin one bytes path said other (inl h) (inl k) =
    h.is ∙ (ap (λ r. Err (of_tree r)) (refused_once one bytes h.cause k.cause h.refuses k.refuses h.known k.known) ∙ sym k.is)
one_origin one bytes path said other (inl h) (inr k) = absurd (reads_none one bytes k.tree h.cause k.reads h.refuses h.known)
one_origin one bytes path said other (inr h) (inl k) = absurd (reads_none one bytes h.tree k.cause h.reads k.refuses k.known)
one_origin one bytes path said other (inr h) (inr k) = one_meaning one bytes path said other h k

pub one_said : OneTree → SayOneThing
one_said one bytes path said other h k told also =
    one_origin one bytes path said other (origin bytes path said h told) (origin bytes path other k also)

same_some : {A : Type 0} (x y : A) → ◌≡◌ {A = Option A} (Some x) (Some y) → x ≡ y
same_some x y e = cc

line_of : (o : Option (List ℕ)) (p : Output) → option_map refused o ≡ Some p → (line : List ℕ) × (o ≡ Some line)
line_of None p e = absurd cc
line_of (Some line) p e = (line, refl)

told_by_check : (said : Result Arrival Refusal) (p : Output) → check_of said ≡ Some p → IsTold said
told_by_check (Ok a) p e = tt
told_by_check (Err r) p e = line_of (refusal_line r) p e

pub checks_one : OneTree → (bytes : List ℕ) → (path : List ℕ) → (p : Output) → (q : Output) → IsCheckOf bytes path p → IsCheckOf bytes path q → p ≡ q
checks_one one bytes path p q h k =
    let e = one_said one bytes path h.said k.said h.says k.says (told_by_check h.said p h.prints) (told_by_check k.said q k.prints) in
    same_some p q (sym h.prints ∙ (ap check_of e ∙ k.prints))

told_by_cell : (state : State) (said : Result Arrival Refusal) (p : Output) → IsCellTold state said p → IsTold said
told_by_cell state (Ok a) p h = tt
told_by_cell state (Err r) p h = line_of (refusal_line r) p h

one_posted : OneText → (post : Option Post) (x y : List ℕ) → IsPosted post x → IsPosted post y → x ≡ y
one_posted one None x y h k = h ∙ sym k
one_posted one (Some post) x y (a, f, d) (b, g, e) = d ∙ (ap (λ t. t ++ codes "\n") (one post a b f g) ∙ sym e)

one_met : OneText → (a : Arrival) (met : Result Cell NoRow) (p q : Output) → IsMetPrinted a met p → IsMetPrinted a met q → p ≡ q
one_met one a (Ok cell) p q h k =
    h.prints ∙ (ap (λ x. accepted (cell_line cell ++ x)) (one_posted one (posted a cell.act) h.envelope k.envelope h.posts k.posts) ∙ sym k.prints)
one_met one a (Err none) p q h k = h ∙ sym k

one_told : OneText → (state : State) (said : Result Arrival Refusal) (p q : Output) → IsCellTold state said p → IsCellTold state said q → p ≡ q
one_told one state (Ok a) p q h k = one_met one a (meets a.target state a.message) p q h k
one_told one state (Err r) p q h k = same_some p q (sym h ∙ k)

pub cells_one : OneTree → OneText → (bytes : List ℕ) → (state : State) → (p : Output) → (q : Output) → IsCellOf bytes state p → IsCellOf bytes state q → p ≡ q
cells_one tree text bytes state p q h k =
    let e = one_said tree bytes (codes "/") h.said k.said h.says k.says (told_by_cell state h.said p h.tells) (told_by_cell state k.said q k.tells) in
    one_told text state k.said p q (subst (λ s. IsCellTold state s p) e h.tells) k.tells

-- what is answered is the only one
pub only_one : {A E : Type 0} (P : A → Type 0) → ((p : A) → (q : A) → P p → P q → p ≡ q) → (result : Result A E)
    → IfOk result P → IfOk result (λ p. (q : A) → P q → q ≡ p)
only_one P one (Ok p) h = λ q k. one q p k h
only_one P one (Err e) h = tt
