-- Each line of a report: whether it tells how something ended.
use Rattle.std.proofs.Common.{ℕ, zero, suc, List, [], ◌∷◌, ◌++◌, ◌≡◌, ◌==◌, ◌+◌, ◌/◌, ◌%◌, Bool, true, false, refl, map, arith, nat_lt}
use Rattle.std.specs.Prelude.{codes, decimal, drop, length, take, Option, Some, None, if◌then◌else◌}
use Rattle.std.specs.Fmt.{digit_glyph, digits, digits_onto}
use Rattle.std.specs.List.{AllByRecursion}
use Rattle.std.proofs.lemmas.Bool.Decides.{nat_tests}
use Rattle.std.proofs.lemmas.List.{map-append}
use Rattle.armed_calls.specs.declared.fault.Fault.{Fault}
use Rattle.at_base.specs.IdText.{hyphen, id_text}
use Rattle.at_base.specs.Numbers.{Numbers}
use Rattle.at_base.specs.declared.event.Local.{Local}
use Rattle.at_base.specs.declared.notice.Kind.{Kind}
use Rattle.at_base.specs.declared.notice.Kind.TheVariants as kinds
use Rattle.at_base.specs.declared.outs.Effect.{Effect}
use Rattle.at_base.specs.declared.outs.Effect.TheVariants as effects
use Rattle.at_base.specs.declared.outs.Ending.{Ending}
use Rattle.at_base.specs.declared.outs.Ending.TheVariants as endings
use Rattle.at_base.specs.declared.outs.Told.{Told}
use Rattle.at_base.specs.declared.outs.Told.TheVariants as tellings
use Rattle.at_model.specs.Activities.{Refusal, Full, Stale, Spent}
use Rattle.at_model.specs.Book.{Book}
use Rattle.at_model.specs.Step.{refuses}
use Rattle.at_model.specs.Views.{line_of}
use Rattle.at_model.specs.World.{World, WorldEvent, Posted, Turn, Ask, Crash, Up, Deliver, Tick, Raw, happened_at, node_of}
use Rattle.effect_words.specs.Words.{ending_word, refusal_word, told_word}
use Rattle.fated_walks.specs.Statuses.{status_in}
use Rattle.world_laws.specs.Moves.{steps_of}
use Rattle.world_laws.specs.Runs.{book_at, clock_at, incarnation_at}
use Rattle.world_laws.specs.declared.posts.Counted.{Counted}
use Rattle.replay_cmd.specs.Lines.{deliver_line, down_line, effect_line, end_line, forged_line, inject_line, item_line, leaf_words, message_line, message_start, no_message_line, outcome_word, refused_line, start_word, tick_line, up_already_line, up_line}
use Rattle.replay_cmd.specs.ReportOf.{effect_lines, message_lines, or_zero, outcome_of, own_count, request_result, result_line, start_result, started_by, step_lines, unless_taken}
use Rattle.replay_cmd.specs.declared.lines.Outcome.{Outcome}
use Rattle.replay_cmd.specs.declared.lines.Outcome.TheVariants as outcomes
use Rattle.replay_cmd.specs.declared.lines.Started.{Started}
use Rattle.replay_cmd.specs.declared.lines.Started.TheVariants as starts
use Rattle.reported_effects.specs.EffectLines.{IsOnOneLine, IsUnbroken}
use Rattle.reported_effects.proofs.PrintedTexts.{IsEnd, IsPart, Says, end, onto, part, quiet, says_both, says_nothing, telling, unbroken_both}

-- numbers

glyph_unbroken : (d : ℕ) → (digit_glyph false d == 10) ≡ false
glyph_unbroken d = by_digit (nat_lt d 10) refl
  where
    by_digit : (b : Bool) → nat_lt d 10 ≡ b → ((if b then 48 + d else 87 + d) == 10) ≡ false
    by_digit true e = grind (arith, nat_tests)
    by_digit false e = grind (arith, nat_tests)

glyph_first : (d : ℕ) (acc : List ℕ) → IsUnbroken acc → IsUnbroken (digit_glyph false d ∷ acc)
glyph_first d acc h = rw (glyph_unbroken d) h

digits_unbroken : (k n : ℕ) (acc : List ℕ) → IsUnbroken acc → IsUnbroken (digits_onto k 10 false n acc)
digits_unbroken zero n acc h = h
digits_unbroken (suc k) n acc h =
    by_last (digits_unbroken k (n / 10) (digit_glyph false (n % 10) ∷ acc) (glyph_first (n % 10) acc h)) (n / 10 == 0)
  where
    next : List ℕ
    next = digits_onto k 10 false (n / 10) (digit_glyph false (n % 10) ∷ acc)

    by_last : IsUnbroken next → (b : Bool) → IsUnbroken (if b then digit_glyph false (n % 10) ∷ acc else next)
    by_last more true = glyph_first (n % 10) acc h
    by_last more false = more

pub decimal_unbroken : (n : ℕ) → IsUnbroken (decimal n)
unfolding digits
decimal_unbroken n = digits_unbroken 64 n [] refl

pub id_unbroken : (id : Numbers) → IsUnbroken (id_text id)
id_unbroken id = unbroken_both (decimal id.incarnation) (hyphen ∷ decimal id.counter) (decimal_unbroken id.incarnation) (decimal_unbroken id.counter)

-- a number and what stands behind it
abbrev pub numbered : (n : ℕ) (text : List ℕ) → IsEnd text → IsEnd (decimal n ++ text)
numbered n text h = onto (decimal n) text (decimal_unbroken n) h

-- words

pub start_unbroken : (s : Started) → IsUnbroken (start_word s)
start_unbroken (starts.Up incarnation) = decimal_unbroken incarnation
start_unbroken starts.Stopped = refl
start_unbroken starts.Failed = refl

pub outcome_unbroken : (o : Outcome) → IsUnbroken (outcome_word o)
outcome_unbroken (outcomes.Answered status) = decimal_unbroken status
outcome_unbroken outcomes.Stopped = refl
outcome_unbroken outcomes.Halted = refl
outcome_unbroken outcomes.Down = refl

pub refusal_unbroken : (r : Refusal) → IsUnbroken (refusal_word r)
refusal_unbroken Full = refl
refusal_unbroken Stale = refl
refusal_unbroken Spent = refl

pub ending_unbroken : (e : Ending) → IsUnbroken (ending_word e)
ending_unbroken endings.Committed = refl
ending_unbroken endings.Aborted = refl
ending_unbroken endings.Lost = refl

pub told_unbroken : (t : Told) → IsUnbroken (told_word t)
told_unbroken tellings.Committed = refl
told_unbroken tellings.Aborted = refl
told_unbroken tellings.Unknown = refl
told_unbroken tellings.Refused = refl

pub leaf_unbroken : (k : Kind) (e : Ending) → IsUnbroken (leaf_words k e)
unfolding leaf_words
leaf_unbroken kinds.Durable e = ending_unbroken e
leaf_unbroken kinds.Volatile e = ending_unbroken e

-- a word at the end of a line
abbrev pub last_word : (word : List ℕ) → IsUnbroken word → IsEnd (codes " " ++ (word ++ codes "\n"))
last_word word h = onto (codes " ") (word ++ codes "\n") refl (onto word (codes "\n") h end)

-- lines that tell nothing

up_says : (n : ℕ) (s : Started) → Says (up_line n s) []
unfolding up_line
up_says n s = quiet _ (onto (codes "up ") _ refl (numbered n _ (last_word (start_word s) (start_unbroken s)))) refl

up_already_says : (n : ℕ) → Says (up_already_line n) []
unfolding up_already_line
up_already_says n = quiet _ (onto (codes "up ") _ refl (numbered n _ (onto (codes " already") (codes "\n") refl end))) refl

down_says : (n : ℕ) (before : Option ℕ) → Says (down_line n before) []
unfolding down_line
down_says n None = quiet _ (onto (codes "down ") _ refl (numbered n _ (onto (codes " already") (codes "\n") refl end))) refl
down_says n (Some incarnation) = quiet _ (onto (codes "down ") _ refl (numbered n _ end)) refl

deliver_says : (k n : ℕ) (o : Outcome) → Says (deliver_line k n o) []
unfolding deliver_line
deliver_says k n o =
    quiet _ (onto (codes "deliver ") _ refl (numbered k _ (onto (codes " ") _ refl (numbered n _ (last_word (outcome_word o) (outcome_unbroken o)))))) refl

pub no_message_says : (k : ℕ) → Says (no_message_line k) []
unfolding no_message_line
no_message_says k = quiet _ (onto (codes "deliver ") _ refl (numbered k _ (onto (codes " none") (codes "\n") refl end))) refl

tick_says : (n clock : ℕ) (o : Outcome) → Says (tick_line n clock o) []
unfolding tick_line
tick_says n clock o =
    quiet _ (onto (codes "tick ") _ refl (numbered n _ (onto (codes " ") _ refl (numbered clock _ (last_word (outcome_word o) (outcome_unbroken o)))))) refl

inject_says : (n : ℕ) (o : Outcome) → Says (inject_line n o) []
unfolding inject_line
inject_says n o = quiet _ (onto (codes "inject ") _ refl (numbered n _ (last_word (outcome_word o) (outcome_unbroken o)))) refl

pub forged_says : (n : ℕ) → Says (forged_line n) []
unfolding forged_line
forged_says n = quiet _ (onto (codes "inject ") _ refl (numbered n _ (onto (codes " forged") (codes "\n") refl end))) refl

refused_says : (word : List ℕ) → IsUnbroken word → Says (refused_line word) []
unfolding refused_line
refused_says word h = quiet _ (onto (codes "refused ") _ refl (onto word (codes "\n") h end)) refl

pub end_says : (m c a l : ℕ) → Says (end_line m c a l) []
unfolding end_line
end_says m c a l =
    quiet _
    (onto (codes "end messages ") _ refl (numbered m _
    (onto (codes " committed ") _ refl (numbered c _
    (onto (codes " aborted ") _ refl (numbered a _ (onto (codes " lost ") _ refl (numbered l _ end))))))))
    refl

pub message_part : (k s r : ℕ) (name : List ℕ) → IsUnbroken name → IsPart (message_start k s r name)
unfolding message_start
message_part k s r name h =
    part (codes "msg ") _ refl (part (decimal k) _ (decimal_unbroken k) (part (codes " ") _ refl (part (decimal s) _ (decimal_unbroken s)
    (part (codes ">") _ refl (part (decimal r) _ (decimal_unbroken r) (part (codes " ") _ refl (part name _ h (record { whole = refl }))))))))

message_says : (k : ℕ) (p : Posted) → IsOnOneLine p → Says (message_line k (line_of p)) []
unfolding message_start
message_says k p h =
    quiet _
    (onto (message_start k (line_of p).sender (line_of p).receiver (line_of p).name) _
    (message_part k (line_of p).sender (line_of p).receiver (line_of p).name h.name).whole
    (onto (line_of p).path (codes "\n") h.path end))
    refl

-- lines that tell how something ended

abbrev pub item_end : (n : ℕ) (id : Numbers) (word : List ℕ) → IsUnbroken word
    → IsEnd (codes " " ++ (decimal n ++ (codes " " ++ (id_text id ++ (codes " " ++ (word ++ codes "\n"))))))
item_end n id word h = onto (codes " ") _ refl (numbered n _ (onto (codes " ") _ refl (onto (id_text id) _ (id_unbroken id) (last_word word h))))

effect_says : (n : ℕ) (e : Effect) → Says (effect_line n e) (happened_at n e ∷ [])
unfolding item_line
effect_says n (effects.Root id what) = telling _ _ (onto (codes "root") _ refl (item_end n id (ending_word what) (ending_unbroken what))) refl refl
effect_says n (effects.Sub id what) = telling _ _ (onto (codes "sub") _ refl (item_end n id (ending_word what) (ending_unbroken what))) refl refl
effect_says n (effects.Leaf id kind what) = telling _ _ (onto (codes "leaf") _ refl (item_end n id (leaf_words kind what) (leaf_unbroken kind what))) refl refl
effect_says n (effects.Told id what) = telling _ _ (onto (codes "told") _ refl (item_end n id (told_word what) (told_unbroken what))) refl refl

pub effects_say : (n : ℕ) (es : List Effect) → Says (effect_lines n es) (map (happened_at n) es)
effects_say n [] = says_nothing
effects_say n (e ∷ es) = says_both (effect_line n e) (effect_lines n es) (happened_at n e ∷ []) (map (happened_at n) es) (effect_says n e) (effects_say n es)

-- the steps of an event

messages_say : (k : ℕ) (ps : List Posted) → AllByRecursion IsOnOneLine ps → Says (message_lines k ps) []
messages_say k [] h = says_nothing
messages_say k (p ∷ ps) h = says_both (message_line k (line_of p)) (message_lines (k + 1) ps) [] [] (message_says k p h.0) (messages_say (k + 1) ps h.1)

taken_all : {A : Type 0} (P : A → Type 0) (n : ℕ) (xs : List A) → AllByRecursion P xs → AllByRecursion P (take n xs)
taken_all P zero xs h = tt
taken_all P (suc n) [] h = tt
taken_all P (suc n) (x ∷ xs) h = (h.0, taken_all P n xs h.1)

pub dropped_all : {A : Type 0} (P : A → Type 0) (n : ℕ) (xs : List A) → AllByRecursion P xs → AllByRecursion P (drop n xs)
dropped_all P zero xs h = h
dropped_all P (suc n) [] h = tt
dropped_all P (suc n) (x ∷ xs) h = dropped_all P n xs h.1

-- what steps brought about, one after another
abbrev pub effects_in : List Counted → List Effect
effects_in [] = []
effects_in (o ∷ os) = o.effects ++ effects_in os

steps_say : (n k : ℕ) (ps : List Posted) (os : List Counted) → AllByRecursion IsOnOneLine ps → Says (step_lines n k ps os) (map (happened_at n) (effects_in os))
steps_say n k ps [] h = says_nothing
steps_say n k ps (o ∷ os) h =
    rw (map-append (happened_at n) o.effects (effects_in os))
    (says_both (effect_lines n o.effects) _ (map (happened_at n) o.effects) _ (effects_say n o.effects)
    (says_both (message_lines k (take (own_count o ps) ps)) _ [] _ (messages_say k (take (own_count o ps) ps) (taken_all IsOnOneLine (own_count o ps) ps h))
    (steps_say n (k + own_count o ps) (drop (own_count o ps) ps) os (dropped_all IsOnOneLine (own_count o ps) ps h))))

-- the result of an event

start_says : (s : Started) (n : ℕ) (before : Option ℕ) → Says (start_result s n before) []
start_says s n None = up_says n s
start_says s n (Some before) = up_already_says n

taken_says : (r : Option Refusal) → Says (unless_taken r) []
taken_says None = says_nothing
taken_says (Some r) = refused_says (refusal_word r) (refusal_unbroken r)

request_says : (l : Local) (b : Option Book) → Says (request_result l b) []
request_says l None = refused_says (codes "down") refl
request_says l (Some b) = taken_says (refuses b l)

result_says : (f : Option Fault) (s : ℕ) (e : WorldEvent) (w v : World) (os : List Counted) → Says (result_line f s e w v os) []
result_says f s (Up n landed stop) w v os = start_says (started_by f stop (incarnation_at v n)) n (incarnation_at w n)
result_says f s (Crash n) w v os = down_says n (incarnation_at w n)
result_says f s (Turn n (Deliver k) fates until) w v os = deliver_says k n (outcome_of f (incarnation_at w n) (incarnation_at v n) (status_in os))
result_says f s (Turn n (Tick ms) fates until) w v os =
    tick_says n (or_zero (clock_at v n)) (outcome_of f (incarnation_at w n) (incarnation_at v n) (status_in os))
result_says f s (Turn n Raw fates until) w v os = inject_says n (outcome_of f (incarnation_at w n) (incarnation_at v n) s)
result_says f s (Ask n l fates until) w v os = request_says l (book_at w n)

-- all that is printed of an event that leads to a world, and of what its node lost as it went down
pub event_says : (f : Option Fault) (s : ℕ) (w v : World) (e : WorldEvent) (lost : List Effect) → AllByRecursion IsOnOneLine (drop (length w.posted) v.posted)
    → Says (result_line f s e w v (steps_of w e) ++ (step_lines (node_of e) (length w.posted + 1) (drop (length w.posted) v.posted) (steps_of w e) ++ effect_lines (node_of e) lost))
    (map (happened_at (node_of e)) (effects_in (steps_of w e) ++ lost))
event_says f s w v e lost h =
    rw (map-append (happened_at (node_of e)) (effects_in (steps_of w e)) lost)
    (says_both (result_line f s e w v (steps_of w e)) _ [] _ (result_says f s e w v (steps_of w e))
    (says_both (step_lines (node_of e) (length w.posted + 1) (drop (length w.posted) v.posted) (steps_of w e)) (effect_lines (node_of e) lost)
    (map (happened_at (node_of e)) (effects_in (steps_of w e))) (map (happened_at (node_of e)) lost)
    (steps_say (node_of e) (length w.posted + 1) (drop (length w.posted) v.posted) (steps_of w e) h) (effects_say (node_of e) lost)))
