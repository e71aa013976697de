-- Where the first calls of a turn tried the interim line, they are those that come before its first step.
use Rattle.std.specs.Prelude.{ℕ, List, [], ◌∷◌, ◌++◌, ◌+◌, ◌≡◌, ◌≤◌, ◌⊎◌, Bool, true, false, Option, Some, None, codes, decimal, length, take}
use Rattle.std.specs.List.{AllByRecursion}
use Rattle.std.proofs.Common.{refl, sym, ap, subst, arith, ◌∙◌, inl, inr, length-append}
use Rattle.addressing.specs.declared.post_to.PostTo.{PostTo}
use Rattle.at_base.specs.Numbers.{Numbers}
use Rattle.at_base.specs.declared.outs.Out.{Out}
use Rattle.at_base.specs.declared.outs.Out.TheVariants as outs
use Rattle.at_base.specs.declared.outs.Post.{Post}
use Rattle.at_model.specs.Book.{Book}
use Rattle.at_model.specs.Step.{Outcome, step}
use Rattle.decision_log.specs.KeptRecords.{Known}
use Rattle.decision_log.specs.Tokens.{Token}
use Rattle.deliveries.proofs.TurnForms.{all_join}
use Rattle.http_post.specs.Conversations.{interim}
use Rattle.http_post.specs.OutBytes.{allow_field, answer_of, field, has_reason, head_end, line, status_line, type_field}
use Rattle.at_base.specs.declared.record.Record.{Record}
use Rattle.journal_at.specs.Format.{behind, frames}
use Rattle.journal_at.specs.StandingBodies.{Keeps, Makes, lay}
use Rattle.journal_at.specs.declared.journal.Append.TheVariants as appends
use Rattle.node_at.specs.Doings.{AreDoings, AreFates, Doing, IsFateAt, calls_of}
use Rattle.node_at.specs.Meanings.{Meaning}
use Rattle.node_at.specs.Meanings.Meaning.{Lost, Refused, Steps, Unread}
use Rattle.node_at.specs.Sends.{Tried}
use Rattle.node_at.specs.State.{State}
use Rattle.node_at.specs.Steps.{if_landed, kept_by}
use Rattle.node_at.specs.Texts.{AreLeaving, IsAnswerOf, IsCallOf, IsPostOf, Leaving, goes_to}
use Rattle.node_at.specs.TurnText.{AreDue, IsFirst, Steppings, TurnStep}
use Rattle.node_at.specs.TurnText.Steppings.{asked, unasked}
use Rattle.node_at.specs.Turns.{Whole}
use Rattle.record_bytes.specs.Bytes.{bytes_of}
use Rattle.site_model.specs.Told.{Call, Made, Told, done, failed}
use Rattle.mirrored_nets.specs.Fates.{is_disk}
use Rattle.mirrored_nets.specs.Took.{IsTriedLine}
use Rattle.mirrored_nets.proofs.CallRows.{AreOnDisk, disk_calls}

-- a call that isn't the line's
abbrev pub IsOther : Call → Type 0
IsOther (Call.Write file at bytes) = Unit {0}
IsOther (Call.Sync file) = Unit {0}
IsOther (Call.Send bytes) = bytes ≡ interim → ⊥
IsOther (Call.Post host port bytes) = Unit {0}

abbrev AreOther : List Leaving → Type 0
AreOther xs = AllByRecursion (λ (x : Leaving). IsOther x.call) xs

abbrev AllAreOther : List TurnStep → Type 0
AllAreOther steps = AllByRecursion (λ (s : TurnStep). AreOther s.leaving) steps

abbrev IsMadeOther : Made → Type 0
IsMadeOther m = IsOther m.call

-- An answer is longer.

status_length : (status : ℕ) → 9 ≤ length (status_line status)
unfolding line
status_length status = omega arith

close_length : length (field (codes "Connection") (codes "close")) ≡ 19
unfolding line field
close_length = refl

end_length : (count : ℕ) → 19 ≤ length (head_end count)
unfolding head_end
end_length count =
    omega (
      arith,
      length-append (field (codes "Content-Length") (decimal count) ++ field (codes "Connection") (codes "close")) (line []),
      length-append (field (codes "Content-Length") (decimal count)) (field (codes "Connection") (codes "close")),
      close_length,
    )

interim_length : length interim ≡ 25
unfolding interim
interim_length = refl

long : (status : ℕ) (text : Option (List ℕ)) → 28 ≤ length (answer_of status text)
long status None =
    omega (
      arith,
      length-append (status_line status ++ allow_field status) (head_end 0),
      length-append (status_line status) (allow_field status),
      status_length status,
      end_length 0,
    )
long status (Some body) =
    omega (
      arith,
      length-append (status_line status ++ type_field ++ allow_field status ++ head_end (length body)) body,
      length-append (status_line status ++ type_field ++ allow_field status) (head_end (length body)),
      length-append (status_line status ++ type_field) (allow_field status),
      length-append (status_line status) type_field,
      status_length status,
      end_length (length body),
    )

answer_other : (status : ℕ) (text : Option (List ℕ)) → answer_of status text ≡ interim → ⊥
answer_other status text e = omega (arith, long status text, ap length e, interim_length)

sends_other : (b : Bool) (status : ℕ) (reply : Option Post) (c : Call) → IsAnswerOf b status reply (Some c) → IsOther c
sends_other true status reply c h = subst IsOther (sym h.is) (answer_other status h.text)
sends_other false status reply c h = absurd h

posts_other : (to : Option PostTo) (p : Post) (c : Call) → IsPostOf to p (Some c) → IsOther c
posts_other (Some to) p c h = subst IsOther (sym h.is) tt
posts_other None p c h = absurd h

call_other : (o : Out) (c : Call) → IsCallOf o (Some c) → IsOther c
call_other (outs.Post p) c h = posts_other (goes_to p.to) p c h
call_other (outs.Answer status reply) c h = sends_other (has_reason status) status reply c h

leaving_other : (os : List Out) (xs : List Leaving) → AreLeaving os xs → AreOther xs
leaving_other os xs AreLeaving.none = tt
leaving_other os xs (AreLeaving.leaves {os = front} {xs = before} x are call a m) =
    subst AreOther (sym m) (all_join (λ (y : Leaving). IsOther y.call) before (x ∷ []) (leaving_other front before are) (call_other x.out x.call call, tt))
leaving_other os xs (AreLeaving.stays {os = front} o are call a) = leaving_other front xs are

first_other : (b : Book) (now status : ℕ) (meaning : Meaning) (s : TurnStep) → IsFirst b now meaning s status → AreOther s.leaving
first_other b now status (Refused answer text) s (e, f) = subst (λ (z : TurnStep). AreOther z.leaving) (sym e) (answer_other answer text, tt)
first_other b now status (Steps e) s (is, f) = leaving_other (step b e now s.landed).outs s.leaving is.outcome.leaving
first_other b now status Lost s h = absurd h
first_other b now status Unread s h = absurd h

due_other : (os : List Outcome) (ss : List TurnStep) → AreDue os ss → AllAreOther ss
due_other [] [] h = tt
due_other [] (s ∷ ss) h = absurd h
due_other (o ∷ os) [] h = absurd h
due_other (o ∷ os) (s ∷ ss) (e, f, g, h) = (leaving_other o.outs s.leaving g.leaving, due_other os ss h)

steps_other : (now : ℕ) (b : Book) (left : List Outcome) (meaning : Meaning) (steps : List TurnStep) (status : ℕ) → Steppings now b left meaning steps status → AllAreOther steps
steps_other now b left meaning steps status (unasked due) = due_other due.done steps due.are
steps_other now b left meaning steps status (asked first rest is due e) =
    subst AllAreOther (sym e) (first_other b now status meaning first is, due_other due.done rest due.are)

-- the calls that were tried

last_other : (xs : List Leaving) (x : Leaving) → AreOther (xs ++ x ∷ []) → AreOther xs × IsOther x.call
last_other [] x (h, more) = (tt, h)
last_other (y ∷ ys) x (h, more) = let (rest, last) = last_other ys x more in ((h, rest), last)

tried_other : {ts : List Token} {ids : List Numbers} {all : List Leaving} {made : List Made} {lost : ℕ} → Tried ts ids all made lost → AreOther all → AllByRecursion IsMadeOther made
tried_other Tried.none h = tt
tried_other (Tried.went {xs = xs} {made = made} x tried may all is) h =
    let (rest, last) = last_other xs x (subst AreOther all h) in
    subst (AllByRecursion IsMadeOther) (sym is) (all_join IsMadeOther made (done x.call ∷ []) (tried_other tried rest) (last, tt))
tried_other (Tried.was_lost {xs = xs} {made = made} x tried may all (inl is) total) h =
    let (rest, last) = last_other xs x (subst AreOther all h) in
    subst (AllByRecursion IsMadeOther) (sym is) (all_join IsMadeOther made (failed x.call ∷ []) (tried_other tried rest) (last, tt))
tried_other (Tried.was_lost {xs = xs} {made = made} x tried may all (inr is) total) h =
    let (rest, last) = last_other xs x (subst AreOther all h) in subst (AllByRecursion IsMadeOther) (sym is) (tried_other tried rest)

other_disk : (c : Call) → is_disk c ≡ true → IsOther c
other_disk (Call.Write file at bytes) e = tt
other_disk (Call.Sync file) e = tt
other_disk (Call.Send bytes) e = absurd cc
other_disk (Call.Post host port bytes) e = absurd cc

disk_other : (made : List Made) → AreOnDisk made → AllByRecursion IsMadeOther made
disk_other [] h = tt
disk_other (m ∷ made) (h, more) = (other_disk m.call h, disk_other made more)

-- those of a record's append
fate_other : (landed : Bool) (entry : Option Record) (live limit end : ℕ) (first : List Made) (refused : ℕ) → IsFateAt landed entry live limit end first refused → AreOnDisk first
fate_other landed None live limit end first refused (e, none) = subst AreOnDisk (sym e) tt
fate_other true (Some r) live limit end first refused (e, within, none) = subst AreOnDisk (sym e) (refl, (refl, (refl, (refl, tt))))
fate_other false (Some r) live limit end first refused (inl (breaks, within, one)) = disk_calls (lay live end (bytes_of r)) first (refl, (refl, tt)) breaks
fate_other false (Some r) live limit end first refused (inr (e, past, none)) = subst AreOnDisk (sym e) tt

doings_other : (steps : List TurnStep) (doings : List Doing) (kept : Known) (live limit : ℕ) (bodies : List (List ℕ)) → AreDoings kept steps doings → AreFates live limit bodies steps doings → AllAreOther steps
    → AllByRecursion IsMadeOther (calls_of doings)
doings_other [] [] kept live limit bodies are fates h = tt
doings_other [] (d ∷ ds) kept live limit bodies are fates h = absurd are
doings_other (s ∷ ss) [] kept live limit bodies are fates h = absurd are
doings_other (s ∷ ss) (d ∷ ds) kept live limit bodies (is, are) (fate, fates) (h, more) =
    all_join IsMadeOther (d.first ++ d.made) (calls_of ds)
    (all_join IsMadeOther d.first d.made (disk_other d.first (fate_other s.landed s.entry live limit (length (frames bodies)) d.first d.refused fate)) (tried_other is.tried h))
    (doings_other ss ds (kept_by (if_landed s.landed s.entry) kept) live limit (bodies ++ d.landed) are fates more)

-- their first isn't the line's
abbrev pub IsNoLine : List Made → Type 0
IsNoLine made = (m : Made) (more : List Made) → made ≡ m ∷ more → m.call ≡ Call.Send interim → ⊥

same_made : {A : Type 0} (x y : A) (xs ys : List A) → x ∷ xs ≡ y ∷ ys → x ≡ y
same_made x y xs ys e = cc

pub disk_no_line : (made : List Made) → AreOnDisk made → IsNoLine made
disk_no_line [] h n more e line = absurd cc
disk_no_line (m ∷ made) (h, _) n more e line =
    let f : false ≡ true = sym (ap is_disk line) ∙ sym (ap (λ (x : Made). is_disk x.call) (same_made m n made more e)) ∙ h in absurd cc

-- a record's append that halts
pub halts_no_line : (live end : ℕ) (body : List ℕ) (made : List Made) → Makes appends.Unsure live end body made → IsNoLine made
halts_no_line live end body made (rest, is, breaks) n more e line =
    let first : done (Call.Write live (end + 1) (behind body ++ 0 ∷ [])) ≡ n = same_made _ n (done (Call.Sync live) ∷ rest) more (sym is ∙ e) in
    let f : true ≡ false = ap (λ (x : Made). is_disk x.call) first ∙ ap is_disk line in
    absurd cc

other_no_line : (made rest : List Made) → AllByRecursion IsMadeOther made → IsNoLine rest → IsNoLine (made ++ rest)
other_no_line [] rest h none = none
other_no_line (m ∷ made) rest (h, _) none = λ n more e line. subst IsOther (ap (λ (x : Made). x.call) (same_made m n (made ++ rest) more e) ∙ line) h refl

pub whole_no_line : (lines : List Doing) (rest : List Made) (meaning : Meaning) (now status : ℕ) (n m : State) (old new : Told) (bodies : List (List ℕ)) → (whole : Whole lines meaning now status n m old new)
    → Keeps n.journal bodies old → IsNoLine rest → IsNoLine (calls_of whole.doings ++ rest)
whole_no_line lines rest meaning now status n m old new bodies whole keeps more =
    other_no_line (calls_of whole.doings) rest
    (doings_other whole.steps whole.doings n.kept n.journal.live n.journal.limit bodies whole.ran.are (whole.ran.fates bodies keeps)
    (steps_other now n.book [] meaning whole.steps status whole.turns)) more

-- so it was tried, where the first calls tried it
pub line_is : (lines : ℕ) (made rest : List Made) → IsTriedLine lines made ⊎ ((lines ≡ 1) × (made ≡ [])) → (made ≡ [] → IsNoLine rest) → IsTriedLine lines (take lines (made ++ rest)) → IsTriedLine lines made
line_is lines made rest (inl is) no_line first = is
line_is lines made rest (inr (e, f)) no_line first = absurd (by rest (no_line f) (subst (λ z. IsTriedLine 1 (take 1 (z ++ rest))) f (subst (λ k. IsTriedLine k (take k (made ++ rest))) e first)))
  where
    by : (xs : List Made) → IsNoLine xs → IsTriedLine 1 (take 1 xs) → ⊥
    by xs none (inl (one, is)) = cc
    by [] none (inr (one, inl is)) = cc
    by [] none (inr (one, inr is)) = cc
    by (x ∷ xs) none (inr (one, inl is)) = none x xs refl (ap (λ (m : Made). m.call) (same_made x (done (Call.Send interim)) [] [] is))
    by (x ∷ xs) none (inr (one, inr is)) = none x xs refl (ap (λ (m : Made). m.call) (same_made x (failed (Call.Send interim)) [] [] is))
