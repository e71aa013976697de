-- What the generator makes is a schedule.
use Rattle.std.proofs.Common.{ℕ, zero, suc, ◌+◌, ◌-◌, ◌%◌, ◌≡◌, ◌≤◌, ◌<◌, refl, List, [], ◌∷◌, ◌++◌, Bool, true, false, if◌then◌else◌, length, ap, ◌∙◌, sym, subst, arith, nat_eq, nat_lt}
use Rattle.std.proofs.lemmas.Nat.{mod_below}
use Rattle.std.proofs.lemmas.List.{append_assoc}
use Rattle.std.specs.List.{AllByRecursion}
use Rattle.at_base.specs.IdText.{IsId}
use Rattle.at_base.specs.declared.notice.Kind.{Kind}
use Rattle.at_base.specs.declared.notice.Kind.TheVariants as kinds
use Rattle.schedules.specs.declared.line.Line.{Line}
use Rattle.schedules.specs.declared.line.Line.TheVariants as lines
use Rattle.schedules.specs.Generator.{Made, activity, asking, a_work, chosen, disturbing, drawn, lines_from, made, message, next, next_line, other_node, with_draw}
use Rattle.schedules.specs.LineTexts.{IsNext, IsNode, IsSchedule}

abbrev IsFit : Made → Type 0
IsFit m = IsNext 4 m.line

either : (b : Bool) (m n : Made) → IsFit m → IsFit n → IsFit (if b then m else n)
either true m n h k = h
either false m n h k = k

one : IsNode 4 1
one = (omega arith, omega arith)

four : IsNode 4 4
four = (omega arith, omega arith)

activity_fits : (d : ℕ) → IsId (activity d)
activity_fits d =
    let h = mod_below d 8 (omega arith) in
    record {
      incarnation_least = omega arith;
      incarnation_most = omega arith;
      counter_least = omega arith;
      counter_most = omega (arith, h);
    }

other_fits : (d : ℕ) → IsNode 4 (other_node d)
other_fits d = let h = mod_below d 3 (omega arith) in (omega arith, omega (arith, h))

message_fits : (d : ℕ) → IsNext 4 (lines.Deliver (message d))
message_fits d = let h = mod_below d 64 (omega arith) in (omega arith, omega (arith, h))

work_fits : (kind : Kind) (x : ℕ) → IsFit (with_draw x (a_work kind))
work_fits kind x = (one, activity_fits (drawn (next x)), four)

asking_fits : (r x : ℕ) → IsFit (asking r x)
asking_fits r x =
    either (nat_lt r 2) _ _ (one, (omega arith, omega arith), omega arith) (
    either (nat_eq r 2) _ _ (one, activity_fits (drawn (next x)), (omega arith, omega arith)) (
    either (nat_eq r 3) _ _ (work_fits kinds.Durable x) (
    either (nat_eq r 4) _ _ (work_fits kinds.Volatile x) (one, activity_fits (drawn (next x))))))

disturbing_fits : (r x : ℕ) → IsFit (disturbing r x)
disturbing_fits r x =
    either (nat_eq r 11) _ _ (message_fits (drawn (next x))) (
    either (nat_eq r 12) _ _ (other_fits (drawn (next x)), omega arith) (
    either (nat_eq r 13) _ _ (other_fits (drawn (next x))) (
    either (nat_eq r 14) _ _ (other_fits (drawn (next x))) (one, activity_fits (drawn (next x))))))

chosen_fits : (r x : ℕ) → IsFit (chosen r x)
chosen_fits r x =
    either (nat_lt r 6) _ _ (asking_fits r x) (
    either (nat_lt r 11) _ _ (omega arith) (disturbing_fits r x))

lines_fit : (count x : ℕ) → AllByRecursion (IsNext 4) (lines_from count x)
lines_fit zero x = tt
lines_fit (suc count) x = (chosen_fits (drawn (next x) % 16) (next x), lines_fit count (next_line x).state)

so_many : (count x : ℕ) → length (lines_from count x) ≡ count
so_many zero x = refl
so_many (suc count) x = ap suc (so_many count (next_line x).state)

made_fits : (seed steps : ℕ) → steps ≤ 9999 → IsSchedule (made seed steps)
made_fits seed steps h = ((omega arith, omega arith), lines_fit steps seed, omega (arith, h, so_many steps seed))

pub is_schedule : (seed steps : ℕ) (ls : List Line) → steps ≤ 9999 → ls ≡ made seed steps → IsSchedule ls
is_schedule seed steps ls h e = subst IsSchedule (sym e) (made_fits seed steps h)

-- one line more, and as many fewer are left
pub one_more :
    (items all : List Line) (count place x y : ℕ) (line : Line) (more : List Line) → place < count
    → line ≡ (next_line x).line → y ≡ (next_line x).state → more ≡ items ++ line ∷ []
    → items ++ lines_from (count - place) x ≡ all → more ++ lines_from (count - (place + 1)) y ≡ all
one_more items all count place x y line more h l s m e =
    let d : count - place ≡ suc (count - (place + 1)) = omega arith in
    ap (λ ls. ls ++ lines_from (count - (place + 1)) y) m
    ∙ (append_assoc items (line ∷ []) (lines_from (count - (place + 1)) y)
    ∙ (ap (λ v. items ++ v ∷ lines_from (count - (place + 1)) y) l
    ∙ (ap (λ z. items ++ (next_line x).line ∷ lines_from (count - (place + 1)) z) s
    ∙ (ap (λ k. items ++ lines_from k x) (sym d) ∙ e))))
