-- Two ends of turns at which the journal of nodes that are alike is written anew, or isn't: the calls for it are the same, and the nodes behind them are alike.
use Rattle.std.specs.Prelude.{ℕ, List, [], ◌∷◌, ◌++◌, ◌+◌, ◌-◌, ◌&&◌, ◌≡◌, ◌≤◌, ◌<◌, ◌⊎◌, ◌↔◌, Bool, true, false, length, map}
use Rattle.std.proofs.Common.{ap, arith, inl, inr, refl, subst, sym, ◌∙◌}
use Rattle.std.proofs.lemmas.List.{length-append, length-map, map-append}
use Rattle.decision_log.specs.ShrunkJournals.{shrunk, texts_of}
use Rattle.journal_at.specs.Compactions.{IsFile, IsUnshut, Steps, fails_first, prepare_calls, text_of}
use Rattle.journal_at.specs.Format.{frames, mark_body}
use Rattle.journal_at.specs.StandingBodies.{raise}
use Rattle.journal_at.specs.declared.journal.Compact.{Compact}
use Rattle.journal_at.specs.declared.journal.Compact.TheVariants as compacts
use Rattle.journal_at.specs.declared.journal.Journal.{Journal}
use Rattle.node_at.specs.ShrunkJournals.{IsDue, halted_by}
use Rattle.node_at.specs.Sizes.{size_of}
use Rattle.node_at.specs.State.{State}
use Rattle.site_memory.specs.ToldCalls.{AreArmed}
use Rattle.site_model.specs.Told.{Call, Made, done, failed}
use Rattle.determined_nodes.specs.SameNodes.{IsSameBehind, IsSameJournal}
use Rattle.mirrored_nets.specs.Fates.{AllDone, refusals}
use Rattle.determined_nodes.proofs.ArmedRows.{breaks_cut, breaks_within, cut, later_cut, whole_cut}
use Rattle.mirrored_nets.proofs.AnewCalls.{each_done}
use Rattle.mirrored_nets.proofs.CallRows.{all_refused_none}

-- the calls of one
abbrev pub anew_row : Bool → ℕ → List ℕ → List Call
anew_row unshut file text = prepare_calls unshut file text ++ raise file 0

abbrev pub is_full : Compact → Bool
is_full compacts.Full = true
is_full other = false

-- it ended at a call that failed
abbrev pub is_broken : Compact → Bool
is_broken compacts.Kept = true
is_broken compacts.Unsure = true
is_broken other = false

-- where the last gate of the live file then is
abbrev pub EndsAt : Compact → (before after : ℕ) → (generation : ℕ) → List (List ℕ) → Type 0
EndsAt compacts.Done before after generation texts = after ≡ length (frames (mark_body (generation + 1) ∷ texts))
EndsAt compacts.Kept before after generation texts = after ≡ before
EndsAt compacts.Unsure before after generation texts = Unit {0}
EndsAt compacts.Full before after generation texts = after ≡ before

-- What is kept was written anew, or that was tried, behind so many calls.
pub record Rewrote (before fails : ℕ) (r : Compact) (n m : State) (anew : List Made) : Type 0 where
  pub due : IsDue n
  pub full : (r ≡ compacts.Full) ↔ (n.journal.limit < size_of (shrunk n.kept))
  pub steps : Steps r n.journal.unshut (1 - n.journal.live) (text_of (n.journal.generation + 1) (texts_of (shrunk n.kept))) anew
  pub file : IsFile r n.journal m.journal
  pub unshut : IsUnshut r n.journal.unshut n.journal.end anew m.journal.unshut
  pub same : m ≡ record n { journal = m.journal; halted = halted_by r n.halted }
  pub limit : m.journal.limit ≡ n.journal.limit
  pub unsure : (m.journal.unsure ≡ true) ↔ (r ≡ compacts.Unsure)
  pub end : EndsAt r n.journal.end m.journal.end n.journal.generation (texts_of (shrunk n.kept))
  pub some : is_broken r ≡ true → 1 ≤ refusals anew
  pub armed : AreArmed before fails anew

-- or nothing was done
pub data Ended (before fails : ℕ) (n m : State) (anew : List Made) : Type 0 where
  idle : (IsDue n → ⊥) → m ≡ n → anew ≡ [] → Ended before fails n m anew
  wrote : (r : Compact) → Rewrote before fails r n m anew → Ended before fails n m anew

pub iff_same : {P Q : Type 0} (a b : Bool) → (a ≡ true) ↔ P → (b ≡ true) ↔ Q → (P → Q) → (Q → P) → a ≡ b
iff_same true true h k to from = refl
iff_same false false h k to from = refl
iff_same true false h k to from = sym (k.1 (to (h.0 refl)))
iff_same false true h k to from = h.1 (from (k.0 refl))

full_is : (r : Compact) → is_full r ≡ true → r ≡ compacts.Full
full_is compacts.Full e = refl
full_is compacts.Done e = absurd cc
full_is compacts.Kept e = absurd cc
full_is compacts.Unsure e = absurd cc

module _ (before fails : ℕ) (unshut : Bool) (file : ℕ) (text : List ℕ) (made : List Made) (h : AreArmed before fails made) where
  row_cut : (r : Compact) → is_full r ≡ false → (is_broken r ≡ true → 1 ≤ refusals made) → Steps r unshut file text made → made ≡ cut before fails (anew_row unshut file text)
  row_cut compacts.Done not_full some e = whole_cut before fails (anew_row unshut file text) made (e ∙ sym (map-append done (prepare_calls unshut file text) (raise file 0))) h
  row_cut compacts.Kept not_full some b = breaks_cut before fails (prepare_calls unshut file text) (raise file 0) made b (some refl) h
  row_cut compacts.Unsure not_full some (rest, e, b) = later_cut before fails (prepare_calls unshut file text) (raise file 0) made rest e b (some refl) h
  row_cut compacts.Full not_full some e = absurd cc

-- how the calls tell them apart
abbrev pub Tells : Compact → (count : ℕ) → List Made → Type 0
Tells compacts.Done count made = refusals made ≡ 0
Tells compacts.Kept count made = (1 ≤ refusals made) × (length made ≤ count)
Tells compacts.Unsure count made = (1 ≤ refusals made) × (count + 1 ≤ length made)
Tells compacts.Full count made = ⊥

row_tells : (r : Compact) (unshut : Bool) (file : ℕ) (text : List ℕ) (made : List Made) → is_full r ≡ false → (is_broken r ≡ true → 1 ≤ refusals made) → Steps r unshut file text made
    → Tells r (length (prepare_calls unshut file text)) made
row_tells compacts.Done unshut file text made not_full some e =
    all_refused_none made (subst AllDone (sym (e ∙ sym (map-append done (prepare_calls unshut file text) (raise file 0)))) (each_done (anew_row unshut file text)))
row_tells compacts.Kept unshut file text made not_full some b = (some refl, breaks_within (prepare_calls unshut file text) made b)
row_tells compacts.Unsure unshut file text made not_full some (rest, e, b) = (some refl, by b.is)
  where
    by : (rest ≡ map done b.front ++ failed b.call ∷ []) ⊎ (rest ≡ map done b.front) → length (prepare_calls unshut file text) + 1 ≤ length made
    by (inl f) =
        let a = ap length e ∙ length-append (map done (prepare_calls unshut file text)) rest in
        let c = ap length f ∙ length-append (map done b.front) (failed b.call ∷ []) in
        let l = length-map (prepare_calls unshut file text) done in
        omega (arith, a, c, l)
    by (inr f) =
        let all : made ≡ map done (prepare_calls unshut file text ++ b.front) = e ∙ ap (λ z. map done (prepare_calls unshut file text) ++ z) f ∙ sym (map-append done (prepare_calls unshut file text) b.front) in
        let none = all_refused_none made (subst AllDone (sym all) (each_done (prepare_calls unshut file text ++ b.front))) in
        let one = some refl in
        absurd (omega (arith, none, one))
row_tells compacts.Full unshut file text made not_full some e = absurd cc

tells_one : (r s : Compact) (count : ℕ) (made also : List Made) → made ≡ also → Tells r count made → Tells s count also → r ≡ s
tells_one compacts.Done compacts.Done count made also e h k = refl
tells_one compacts.Kept compacts.Kept count made also e h k = refl
tells_one compacts.Unsure compacts.Unsure count made also e h k = refl
tells_one compacts.Done compacts.Kept count made also e h (k, l) = let a = ap refusals e in absurd (omega (arith, a, h, k))
tells_one compacts.Done compacts.Unsure count made also e h (k, l) = let a = ap refusals e in absurd (omega (arith, a, h, k))
tells_one compacts.Kept compacts.Done count made also e (h, l) k = let a = ap refusals e in absurd (omega (arith, a, h, k))
tells_one compacts.Unsure compacts.Done count made also e (h, l) k = let a = ap refusals e in absurd (omega (arith, a, h, k))
tells_one compacts.Kept compacts.Unsure count made also e (h, l) (k, m) = let a = ap length e in absurd (omega (arith, a, l, m))
tells_one compacts.Unsure compacts.Kept count made also e (h, l) (k, m) = let a = ap length e in absurd (omega (arith, a, l, m))
tells_one compacts.Full s count made also e h k = absurd h
tells_one compacts.Done compacts.Full count made also e h k = absurd k
tells_one compacts.Kept compacts.Full count made also e h k = absurd k
tells_one compacts.Unsure compacts.Full count made also e h k = absurd k

files_same : (r : Compact) (j k j' k' : Journal) → IsSameJournal j k → IsFile r j j' → IsFile r k k' → (j'.live ≡ k'.live) × (j'.generation ≡ k'.generation)
files_same compacts.Done j k j' k' same (a, b) (c, d) = (a ∙ ap (λ x. 1 - x) same.live ∙ sym c, b ∙ ap (λ x. x + 1) same.generation ∙ sym d)
files_same compacts.Kept j k j' k' same (a, b) (c, d) = (a ∙ same.live ∙ sym c, b ∙ same.generation ∙ sym d)
files_same compacts.Unsure j k j' k' same (a, b) (c, d) = (a ∙ same.live ∙ sym c, b ∙ same.generation ∙ sym d)
files_same compacts.Full j k j' k' same (a, b) (c, d) = (a ∙ same.live ∙ sym c, b ∙ same.generation ∙ sym d)

unshut_same : (r : Compact) (j k : Journal) (made also : List Made) (after other : Bool) → IsSameJournal j k → made ≡ also → IsUnshut r j.unshut j.end made after → IsUnshut r k.unshut k.end also other → after ≡ other
unshut_same compacts.Done j k made also after other same e h l =
    iff_same after other h l (λ le. let a = same.end in omega (arith, le, a)) (λ le. let a = same.end in omega (arith, le, a))
unshut_same compacts.Kept j k made also after other same e h l = h ∙ (λ i. same.unshut i && fails_first (e i)) ∙ sym l
unshut_same compacts.Unsure j k made also after other same e h l = h ∙ sym l
unshut_same compacts.Full j k made also after other same e h l = h ∙ same.unshut ∙ sym l

halts_off : (r : Compact) (b : Bool) → halted_by r b ≡ false → r ≡ compacts.Unsure → ⊥
halts_off compacts.Unsure b e u = absurd cc
halts_off compacts.Done b e u = absurd cc
halts_off compacts.Kept b e u = absurd cc
halts_off compacts.Full b e u = absurd cc

ends_same : (r : Compact) (a b c d g h : ℕ) (xs ys : List (List ℕ)) → (r ≡ compacts.Unsure → ⊥) → a ≡ c → g ≡ h → xs ≡ ys → EndsAt r a b g xs → EndsAt r c d h ys → b ≡ d
ends_same compacts.Done a b c d g h xs ys sure e f l m n = m ∙ (λ i. length (frames (mark_body (f i + 1) ∷ l i))) ∙ sym n
ends_same compacts.Kept a b c d g h xs ys sure e f l m n = m ∙ e ∙ sym n
ends_same compacts.Unsure a b c d g h xs ys sure e f l m n = absurd (sure refl)
ends_same compacts.Full a b c d g h xs ys sure e f l m n = m ∙ e ∙ sym n

module _ (before fails : ℕ) (n m p q : State) (anew also : List Made) (same : IsSameBehind n p) (runs : n.halted ≡ false) where
  j : IsSameJournal n.journal p.journal
  j = same.same.journal runs

  due_too : IsDue n → IsDue p
  due_too d = record {
    runs = sym same.same.halted ∙ runs;
    most = let a = d.most in let b = j.end in omega (arith, a, b);
    twice = let a = d.twice in let b = j.end in let c = ap (λ k. size_of (shrunk k)) same.same.kept in omega (arith, a, b, c);
    generation = let a = d.generation in let b = j.generation in omega (arith, a, b);
  }

  due_back : IsDue p → IsDue n
  due_back d = record {
    runs = runs;
    most = let a = d.most in let b = j.end in omega (arith, a, b);
    twice = let a = d.twice in let b = j.end in let c = ap (λ k. size_of (shrunk k)) same.same.kept in omega (arith, a, b, c);
    generation = let a = d.generation in let b = j.generation in omega (arith, a, b);
  }

  sizes : size_of (shrunk n.kept) ≡ size_of (shrunk p.kept)
  sizes = ap (λ k. size_of (shrunk k)) same.same.kept

  -- both wrote
  module _ (r s : Compact) (X : Rewrote before fails r n m anew) (Y : Rewrote before fails s p q also) where
    full_too : r ≡ compacts.Full → s ≡ compacts.Full
    full_too e = Y.full.1 (let a = X.full.0 e in let b = j.limit in let c = sizes in omega (arith, a, b, c))

    full_back : s ≡ compacts.Full → r ≡ compacts.Full
    full_back e = X.full.1 (let a = Y.full.0 e in let b = j.limit in let c = sizes in omega (arith, a, b, c))

    its_steps : Steps s n.journal.unshut (1 - n.journal.live) (text_of (n.journal.generation + 1) (texts_of (shrunk n.kept))) also
    its_steps =
        subst (λ z. Steps s n.journal.unshut (1 - n.journal.live) (text_of (n.journal.generation + 1) (texts_of (shrunk z))) also) (sym same.same.kept)
        (subst (λ z. Steps s n.journal.unshut (1 - n.journal.live) (text_of (z + 1) (texts_of (shrunk p.kept))) also) (sym j.generation)
        (subst (λ z. Steps s n.journal.unshut (1 - z) (text_of (p.journal.generation + 1) (texts_of (shrunk p.kept))) also) (sym j.live)
        (subst (λ z. Steps s z (1 - p.journal.live) (text_of (p.journal.generation + 1) (texts_of (shrunk p.kept))) also) (sym j.unshut) Y.steps)))

    calls_one : is_full r ≡ false → is_full s ≡ false → (anew ≡ also) × (r ≡ s)
    calls_one e f =
        let text = text_of (n.journal.generation + 1) (texts_of (shrunk n.kept)) in
        let file = 1 - n.journal.live in
        let rows : anew ≡ also = row_cut before fails n.journal.unshut file text anew X.armed r e X.some X.steps ∙ sym (row_cut before fails n.journal.unshut file text also Y.armed s f Y.some its_steps) in
        (rows, tells_one r s (length (prepare_calls n.journal.unshut file text)) anew also rows (row_tells r n.journal.unshut file text anew e X.some X.steps) (row_tells s n.journal.unshut file text also f Y.some its_steps))

    full_one : r ≡ compacts.Full → s ≡ compacts.Full → (anew ≡ also) × (r ≡ s)
    full_one e f =
        let a : anew ≡ [] = subst (λ z. Steps z n.journal.unshut (1 - n.journal.live) (text_of (n.journal.generation + 1) (texts_of (shrunk n.kept))) anew) e X.steps in
        let b : also ≡ [] = subst (λ z. Steps z n.journal.unshut (1 - n.journal.live) (text_of (n.journal.generation + 1) (texts_of (shrunk n.kept))) also) f its_steps in
        (a ∙ sym b, e ∙ sym f)

    written_one : (anew ≡ also) × (r ≡ s)
    written_one = by (is_full r) (is_full s) refl refl
      where
        by : (a b : Bool) → is_full r ≡ a → is_full s ≡ b → (anew ≡ also) × (r ≡ s)
        by true b e f = let full = full_is r e in full_one full (full_too full)
        by false true e f = let full = full_is s f in full_one (full_back full) full
        by false false e f = calls_one e f

    behind_one : IsSameBehind m q
    behind_one = record {
      same = record {
        book = ap (λ (z : State). z.book) X.same ∙ same.same.book ∙ sym (ap (λ (z : State). z.book) Y.same);
        kept = ap (λ (z : State). z.kept) X.same ∙ same.same.kept ∙ sym (ap (λ (z : State). z.kept) Y.same);
        halted = ap (λ (z : State). z.halted) X.same ∙ (λ i. halted_by (written_one.1 i) (same.same.halted i)) ∙ sym (ap (λ (z : State). z.halted) Y.same);
        journal = λ going. record {
          live = files.0;
          generation = files.1;
          end = ends_same r n.journal.end m.journal.end p.journal.end q.journal.end n.journal.generation p.journal.generation (texts_of (shrunk n.kept)) (texts_of (shrunk p.kept)) (sure going) j.end j.generation
              (ap (λ k. texts_of (shrunk k)) same.same.kept) X.end (subst (λ z. EndsAt z p.journal.end q.journal.end p.journal.generation (texts_of (shrunk p.kept))) (sym written_one.1) Y.end);
          limit = X.limit ∙ j.limit ∙ sym Y.limit;
          unshut = unshut_same r n.journal p.journal anew also m.journal.unshut q.journal.unshut j written_one.0 X.unshut
              (subst (λ z. IsUnshut z p.journal.unshut p.journal.end also q.journal.unshut) (sym written_one.1) Y.unshut);
          unsure = iff_same m.journal.unsure q.journal.unsure X.unsure Y.unsure (λ u. sym written_one.1 ∙ u) (λ u. written_one.1 ∙ u);
        };
      };
      effects = ap (λ (z : State). z.effects) X.same ∙ same.effects ∙ sym (ap (λ (z : State). z.effects) Y.same);
    }
      where
        files : (m.journal.live ≡ q.journal.live) × (m.journal.generation ≡ q.journal.generation)
        files = files_same r n.journal p.journal m.journal q.journal j X.file (subst (λ z. IsFile z p.journal q.journal) (sym written_one.1) Y.file)

        sure : m.halted ≡ false → r ≡ compacts.Unsure → ⊥
        sure going = halts_off r n.halted (sym (ap (λ (z : State). z.halted) X.same) ∙ going)

  pub ended_one : Ended before fails n m anew → Ended before fails p q also → (anew ≡ also) × IsSameBehind m q
  ended_one (Ended.idle undue e none) (Ended.idle other f empty) = (none ∙ sym empty, subst (λ z. IsSameBehind z q) (sym e) (subst (IsSameBehind n) (sym f) same))
  ended_one (Ended.idle undue e none) (Ended.wrote s Y) = absurd (undue (due_back Y.due))
  ended_one (Ended.wrote r X) (Ended.idle other f empty) = absurd (other (due_too X.due))
  ended_one (Ended.wrote r X) (Ended.wrote s Y) = ((written_one r s X Y).0, behind_one r s X Y)
