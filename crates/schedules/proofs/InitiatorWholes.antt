-- A text that is read is what is written of its lines, and these are an initiator's.
use Rattle.std.proofs.Common.{ℕ, ◌==◌, List, [], ◌∷◌, ◌++◌, ◌≡◌, ◌⊎◌, inl, inr, ◌+◌, ◌&&◌, not, Bool, true, false, cond, Result, Ok, Err, IfOk, sym, ◌∙◌, ap, arith, refl, subst, bytes_eq, codes, map}
use Rattle.std.specs.List.{join_with_byte, list_all, onto_first, slice_split}
use Rattle.std.proofs.lemmas.List.Splits.{join_with_byte-slice_split}
use Rattle.std.proofs.lemmas.Bool.Decides.{nat_tests}
use Rattle.std.proofs.lemmas.Slice.Eq.{bytes_eq-Decides}
use Rattle.at_base.specs.declared.notice.Kind.{Kind}
use Rattle.at_base.specs.declared.notice.Vote.{Vote}
use Rattle.schedules.specs.declared.initiator_line.InitiatorLine.{InitiatorLine}
use Rattle.schedules.specs.declared.initiator_line.InitiatorLine.TheVariants as lines
use Rattle.schedules.specs.declared.line.Cause.{Cause}
use Rattle.schedules.specs.declared.line.ScheduleError.{ScheduleError}
use Rattle.schedules.specs.declared.line.Cause.TheVariants as causes
use Rattle.schedules.specs.InitiatorLines.{allowed, asked, asked_from, asked_line, asked_words, begin_line, commit_line, initiator_lines_of, interpose_line, is_base, is_content, made_by, rollback_line, task, wait_line, work_line}
use Rattle.schedules.specs.InitiatorLineTexts.{AreAsked, IsAsked, are_visible, is_visible, line_text, words_in, written}
use Rattle.schedules.specs.Schedules.{Answers, at_line}
use Rattle.schedules.specs.Values.{kind_in, largest, number_in, vote_in}
use Rattle.schedules.specs.Words.{is_plain, is_printable, lines_of, words_of}
use Rattle.at_base.specs.Names.{kind_letter, vote_name}
use Rattle.schedules.proofs.Bounds.{arm, bound, kind, number, same, vote}
use Rattle.schedules.proofs.Wholes.{fed, fed_ended, gives, placed, same_lines}

both : (a b : Bool) → (a && b) ≡ true → (a ≡ true) × (b ≡ true)
both true b e = (refl, e)
both false b e = absurd cc

-- words have no space in them
visible_parts : (line : List ℕ) → is_plain line ≡ true → list_all are_visible (words_of line) ≡ true
visible_parts [] e = refl
visible_parts (x ∷ xs) e =
    let p = both (is_printable x) (is_plain xs) e in
    by_case (x == 32) refl p.0 (visible_parts xs p.1)
  where
    put : (parts : List (List ℕ)) → is_visible x ≡ true → list_all are_visible parts ≡ true → list_all are_visible (onto_first x parts) ≡ true
    put [] v h = rw v refl
    put (w ∷ ws) v h = let q = both (are_visible w) (list_all are_visible ws) h in rw v (rw q.0 q.1)

    by_case : (b : Bool) → (x == 32) ≡ b → is_printable x ≡ true → list_all are_visible (words_of xs) ≡ true
        → list_all are_visible (cond b ([] ∷ words_of xs) (onto_first x (words_of xs))) ≡ true
    by_case true q p h = h
    by_case false q p h = put (words_of xs) (grind (arith, nat_tests, p, q)) h

is_allowed : (b : Bool) (u : Unit {0}) → allowed b ≡ Ok u → b ≡ true
is_allowed true u e = refl
is_allowed false u e = absurd cc

-- a line that is read of these words behind the first
record IsRead (made : ℕ) (word : List ℕ) (rest : List (List ℕ)) (line : InitiatorLine) : Type 0 where
  next : IsAsked made line
  text : word ∷ rest ≡ words_in line

begin_read : (made : ℕ) (ws : List (List ℕ)) (l : InitiatorLine) → list_all are_visible ws ≡ true → begin_line ws ≡ Ok l → IsRead made (codes "begin") ws l
begin_read made (url ∷ ms ∷ []) l v e =
    let b = bound (number_in 0 largest ms) _ l e in
    let d = bound (allowed (is_base url)) _ l b.rest in
    let k = number 0 largest ms b.value b.read in
    let w = both (are_visible url) _ v in
    subst (IsRead made (codes "begin") (url ∷ ms ∷ [])) (same _ l d.rest) (record {
      next = ((w.0, is_allowed (is_base url) d.value d.read), k.1);
      text = λ j. codes "begin" ∷ url ∷ k.2 j ∷ [];
    })
begin_read made [] l v e = absurd cc
begin_read made (url ∷ []) l v e = absurd cc
begin_read made (url ∷ ms ∷ x ∷ more) l v e = absurd cc

interpose_read : (made : ℕ) (ws : List (List ℕ)) (l : InitiatorLine) → list_all are_visible ws ≡ true → interpose_line made ws ≡ Ok l → IsRead made (codes "interpose") ws l
interpose_read made (a ∷ url ∷ []) l v e =
    let b = bound (number_in 1 made a) _ l e in
    let d = bound (allowed (is_base url)) _ l b.rest in
    let k = number 1 made a b.value b.read in
    let w = both (are_visible url) _ (both (are_visible a) _ v).1 in
    subst (IsRead made (codes "interpose") (a ∷ url ∷ [])) (same _ l d.rest) (record {
      next = ((k.0, k.1), (w.0, is_allowed (is_base url) d.value d.read));
      text = λ j. codes "interpose" ∷ k.2 j ∷ url ∷ [];
    })
interpose_read made [] l v e = absurd cc
interpose_read made (a ∷ []) l v e = absurd cc
interpose_read made (a ∷ url ∷ x ∷ more) l v e = absurd cc

record IsTask (url k v key value : List ℕ) (activity : ℕ) (l : InitiatorLine) : Type 0 where
  kind : Kind
  vote : Vote
  kind_is : k ≡ kind_letter kind
  vote_is : v ≡ vote_name vote
  fits : (is_content key && is_content value && is_base url) ≡ true
  line : lines.Work activity url kind vote key value ≡ l

task_read : (activity : ℕ) (url k v key value : List ℕ) (l : InitiatorLine) → task activity url k v key value ≡ Ok l → IsTask url k v key value activity l
task_read activity url k v key value l e =
    let b = bound (kind_in k) _ l e in
    let d = bound (vote_in v) _ l b.rest in
    let f = bound (allowed (is_content key && is_content value && is_base url)) _ l d.rest in
    record {
      kind = b.value;
      vote = d.value;
      kind_is = kind k b.value b.read;
      vote_is = vote v d.value d.read;
      fits = is_allowed _ f.value f.read;
      line = same _ l f.rest;
    }

work_read : (made : ℕ) (ws : List (List ℕ)) (l : InitiatorLine) → list_all are_visible ws ≡ true → work_line made ws ≡ Ok l → IsRead made (codes "work") ws l
work_read made (a ∷ url ∷ k ∷ v ∷ key ∷ value ∷ []) l seen e =
    let b = bound (number_in 1 made a) _ l e in
    let n = number 1 made a b.value b.read in
    let t = task_read b.value url k v key value l b.rest in
    let f = both (is_content key && is_content value) (is_base url) t.fits in
    let g = both (is_content key) (is_content value) f.0 in
    let s1 = both (are_visible a) _ seen in
    let s2 = both (are_visible url) _ s1.1 in
    let s3 = both (are_visible k) _ s2.1 in
    let s4 = both (are_visible v) _ s3.1 in
    let s5 = both (are_visible key) _ s4.1 in
    let s6 = both (are_visible value) _ s5.1 in
    subst (IsRead made (codes "work") (a ∷ url ∷ k ∷ v ∷ key ∷ value ∷ [])) t.line (record {
      next = ((n.0, n.1), (s2.0, f.1), (s5.0, g.0), (s6.0, g.1));
      text = λ j. codes "work" ∷ n.2 j ∷ url ∷ t.kind_is j ∷ t.vote_is j ∷ key ∷ value ∷ [];
    })
work_read made [] l seen e = absurd cc
work_read made (a ∷ []) l seen e = absurd cc
work_read made (a ∷ b ∷ []) l seen e = absurd cc
work_read made (a ∷ b ∷ c ∷ []) l seen e = absurd cc
work_read made (a ∷ b ∷ c ∷ d ∷ []) l seen e = absurd cc
work_read made (a ∷ b ∷ c ∷ d ∷ f ∷ []) l seen e = absurd cc
work_read made (a ∷ b ∷ c ∷ d ∷ f ∷ g ∷ x ∷ more) l seen e = absurd cc

commit_read : (made : ℕ) (ws : List (List ℕ)) (l : InitiatorLine) → commit_line made ws ≡ Ok l → IsRead made (codes "commit") ws l
commit_read made (a ∷ []) l e =
    let b = bound (number_in 1 made a) _ l e in
    let k = number 1 made a b.value b.read in
    subst (IsRead made (codes "commit") (a ∷ [])) (same _ l b.rest) (record { next = (k.0, k.1); text = λ j. codes "commit" ∷ k.2 j ∷ [] })
commit_read made (a ∷ word ∷ []) l e =
    let b = bound (number_in 1 made a) _ l e in
    let d = bound (allowed (bytes_eq word (codes "anyway"))) _ l b.rest in
    let k = number 1 made a b.value b.read in
    let w = (bytes_eq-Decides word (codes "anyway")).0 (is_allowed (bytes_eq word (codes "anyway")) d.value d.read) in
    subst (IsRead made (codes "commit") (a ∷ word ∷ [])) (same _ l d.rest) (record { next = (k.0, k.1); text = λ j. codes "commit" ∷ k.2 j ∷ w j ∷ [] })
commit_read made [] l e = absurd cc
commit_read made (a ∷ word ∷ x ∷ more) l e = absurd cc

rollback_read : (made : ℕ) (ws : List (List ℕ)) (l : InitiatorLine) → rollback_line made ws ≡ Ok l → IsRead made (codes "rollback") ws l
rollback_read made (a ∷ []) l e =
    let b = bound (number_in 1 made a) _ l e in
    let k = number 1 made a b.value b.read in
    subst (IsRead made (codes "rollback") (a ∷ [])) (same _ l b.rest) (record { next = (k.0, k.1); text = λ j. codes "rollback" ∷ k.2 j ∷ [] })
rollback_read made [] l e = absurd cc
rollback_read made (a ∷ x ∷ more) l e = absurd cc

wait_read : (made : ℕ) (ws : List (List ℕ)) (l : InitiatorLine) → wait_line ws ≡ Ok l → IsRead made (codes "wait") ws l
wait_read made [] l e = subst (IsRead made (codes "wait") []) (same lines.Wait l e) (record { next = tt; text = refl })
wait_read made (x ∷ more) l e = absurd cc

-- what is read behind a word, if it is
abbrev Reads : ℕ → List (List ℕ) → InitiatorLine → List ℕ → Result InitiatorLine Cause → Type 0
Reads made ws l w r = r ≡ Ok l → IsRead made w ws l

asked_read : (made : ℕ) (w : List ℕ) (ws : List (List ℕ)) (l : InitiatorLine) → list_all are_visible ws ≡ true → asked made w ws ≡ Ok l → IsRead made w ws l
asked_read made w ws l v =
    arm w (codes "begin") _ _ (Reads made ws l) (begin_read made ws l v) (
    arm w (codes "interpose") _ _ (Reads made ws l) (interpose_read made ws l v) (
    arm w (codes "work") _ _ (Reads made ws l) (work_read made ws l v) (
    arm w (codes "commit") _ _ (Reads made ws l) (commit_read made ws l) (
    arm w (codes "rollback") _ _ (Reads made ws l) (rollback_read made ws l) (
    arm w (codes "wait") _ _ (Reads made ws l) (wait_read made ws l) (λ e. absurd cc))))))

record IsLine (made : ℕ) (text : List ℕ) (l : InitiatorLine) : Type 0 where
  next : IsAsked made l
  text_is : text ≡ line_text l

words_read : (made : ℕ) (ws : List (List ℕ)) (l : InitiatorLine) → list_all are_visible ws ≡ true → asked_words made ws ≡ Ok l → IsAsked made l × (ws ≡ words_in l)
words_read made [] l v e = absurd cc
words_read made (w ∷ rest) l v e = let r = asked_read made w rest l (both (are_visible w) _ v).1 e in (r.next, r.text)

line_read : (made : ℕ) (text : List ℕ) (l : InitiatorLine) → asked_line made text ≡ Ok l → IsLine made text l
line_read made text l e = by_case (is_plain text) refl e
  where
    by_case : (p : Bool) → is_plain text ≡ p → cond (not p) (Err causes.Unprintable) (asked_words made (words_of text)) ≡ Ok l → IsLine made text l
    by_case false q e = absurd cc
    by_case true q e =
        let r = words_read made (words_of text) l (visible_parts text q) e in
        record { next = r.0; text_is = sym (join_with_byte-slice_split 32 text) ∙ ap (join_with_byte 32) r.1 }

lines_read : (made n : ℕ) (texts : List (List ℕ)) (ls : List InitiatorLine) → asked_from made n texts ≡ Ok ls → AreAsked made ls × (texts ≡ map line_text ls)
lines_read made n [] ls e = subst (λ xs. AreAsked made xs × ([] ≡ map line_text xs)) (same_lines [] ls e) (tt, refl)
lines_read made n (t ∷ ts) ls e =
    let b = gives (at_line n (asked_line made t)) _ ls e in
    let d = gives (asked_from (made_by made b.value) (n + 1) ts) _ ls b.rest in
    let l = line_read made t b.value (placed n (asked_line made t) b.value b.read) in
    let m = lines_read (made_by made b.value) (n + 1) ts d.value d.read in
    subst (λ xs. AreAsked made xs × (t ∷ ts ≡ map line_text xs)) (same_lines (b.value ∷ d.value) ls d.rest) ((l.next, m.0), λ j. l.text_is j ∷ m.1 j)

pub fed_written : (ls : List InitiatorLine) → fed (map line_text ls) ≡ written ls
fed_written [] = refl
fed_written (l ∷ ls) = ap (λ x. (line_text l ++ 10 ∷ []) ++ x) (fed_written ls)

pub is_written : (text : List ℕ) (ls : List InitiatorLine) → initiator_lines_of text ≡ Ok ls → (text ≡ written ls) ⊎ (text ++ 10 ∷ [] ≡ written ls)
is_written text ls e =
    let r = lines_read 0 1 (lines_of text) ls e in
    let last = ap fed r.1 ∙ fed_written ls in
    let whole = join_with_byte-slice_split 10 text in
    elim (fed_ended (slice_split (λ b. b == 10) text)) [
      | inl h ↦ inl (sym whole ∙ (h ∙ last))
      | inr h ↦ inr (ap (λ t. t ++ 10 ∷ []) (sym whole) ∙ (h ∙ last))
    ]

pub are_asked : (text : List ℕ) (r : Result (List InitiatorLine) ScheduleError) → Answers (initiator_lines_of text) r → IfOk r (AreAsked 0)
are_asked text (Ok ls) e = (lines_read 0 1 (lines_of text) ls e).0
are_asked text (Err x) e = tt
