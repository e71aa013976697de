-- What is printed of an event, line by line.
use Rattle.std.proofs.Common.{ℕ, zero, suc, List, [], ◌∷◌, ◌++◌, ◌≡◌, ◌==◌, ◌+◌, Option, Some, None, drop, map, sym, ap, subst, ◌∙◌, arith, refl}
use Rattle.std.specs.Prelude.{codes, decimal, take}
use Rattle.std.specs.List.{AllByRecursion, list_any}
use Rattle.std.proofs.lemmas.List.{append_assoc, append-nil, map-append}
use Rattle.armed_calls.specs.declared.fault.Fault.{Fault}
use Rattle.at_base.specs.IdText.{id_text}
use Rattle.at_base.specs.Names.{fault_name, kind_letter}
use Rattle.at_base.specs.declared.epr.Epr.{Epr}
use Rattle.at_base.specs.declared.fault.Fault.TheVariants as names
use Rattle.at_base.specs.declared.fault.Fault.{Fault as Named}
use Rattle.at_base.specs.declared.message.Message.{Message}
use Rattle.at_base.specs.declared.message.Message.TheVariants as messages
use Rattle.at_base.specs.declared.notice.Kind.{Kind}
use Rattle.at_base.specs.declared.notice.Kind.TheVariants as kinds
use Rattle.at_base.specs.declared.notice.Notice.{Notice}
use Rattle.at_base.specs.declared.notice.Notice.TheVariants as notices
use Rattle.at_base.specs.declared.outs.Effect.{Effect}
use Rattle.at_base.specs.declared.outs.Effect.TheVariants as effects
use Rattle.at_base.specs.declared.target.Target.{Target}
use Rattle.at_base.specs.declared.target.Target.TheVariants as targets
use Rattle.at_model.specs.Activities.{Refusal}
use Rattle.at_model.specs.Book.{Book}
use Rattle.at_model.specs.Step.{refuses}
use Rattle.at_model.specs.Views.{line_of, message_name, path_in, receiver_number}
use Rattle.at_model.specs.World.{Posted, World, WorldEvent, Turn, Ask, Crash, Up, Deliver, Tick, Raw, nth, Hosts, example_hosts}
use Rattle.effect_words.specs.Words.{ending_word, refusal_word, told_word}
use Rattle.endpoints.specs.Addresses.{path_of}
use Rattle.fated_walks.specs.Statuses.{status_in}
use Rattle.world_laws.specs.Runs.{book_at, clock_at, incarnation_at}
use Rattle.world_laws.specs.declared.posts.Counted.{Counted}
use Rattle.replay_cmd.specs.Lines.{deliver_line, down_line, effect_line, end_line, forged_line, inject_line, item_line, leaf_words, message_start, no_message_line, outcome_word, refused_line, start_word, tick_line, up_already_line, up_line}
use Rattle.replay_cmd.specs.Lines.{message_line as message_text}
use Rattle.replay_cmd.specs.ReportOf.{effect_lines, message_lines, or_zero, outcome_of, own_count, request_result, result_line, start_result, started_by, step_lines, unless_taken}
use Rattle.replay_cmd.specs.declared.lines.Outcome.{Outcome}
use Rattle.replay_cmd.specs.declared.lines.Started.{Started}
use Rattle.reported_effects.specs.EffectLines.{IsUnbroken, with_end}
use Rattle.reported_effects.proofs.PrintedLines.{decimal_unbroken, ending_unbroken, id_unbroken, item_end, last_word, leaf_unbroken, numbered, outcome_unbroken, refusal_unbroken, start_unbroken, told_unbroken}
use Rattle.reported_effects.proofs.PrintedTexts.{IsEnd, end, fed, fed_both, onto, part, whole_both}
use Rattle.printed_agreement.specs.PlainPosts.{IsPlain, IsPlainMessage}
use Rattle.printed_agreement.specs.RegisterAnswers.{IsBrought, IsNoDelivery}
use Rattle.printed_agreement.specs.ReportLines.{Delivered, Entry, IsQuiet, Posts, Quiet, Sound, line_in}
use Rattle.printed_agreement.proofs.Places.{path_shown}
use Rattle.printed_agreement.proofs.Soundness.{IsStepLine, Opens, delivery_sound, steps_open, steps_sound}
use Rattle.printed_agreement.proofs.Texts.{Lacks, apart, below_digits, both_false, decimal_lacks, parted}

-- a text of these lines
pub record Reads (text : List ℕ) (es : List Entry) : Type 0 where
  pub is : text ≡ fed (map line_in es)
  pub whole : AllByRecursion IsUnbroken (map line_in es)

pub reads_none : Reads [] []
reads_none = record { is = refl; whole = tt }

pub reads_both : (a b : List ℕ) (xs ys : List Entry) → Reads a xs → Reads b ys → Reads (a ++ b) (xs ++ ys)
reads_both a b xs ys h k = record {
  is = (λ i. h.is i ++ k.is i) ∙ fed_both (map line_in xs) (map line_in ys) ∙ ap fed (sym (map-append line_in xs ys));
  whole = subst (AllByRecursion IsUnbroken) (sym (map-append line_in xs ys)) (whole_both (map line_in xs) (map line_in ys) h.whole k.whole);
}

pub reads_one : (text : List ℕ) (e : Entry) → text ≡ with_end (line_in e) → IsUnbroken (line_in e) → Reads text (e ∷ [])
reads_one text e is whole = record { is = is ∙ sym (append-nil (with_end (line_in e))); whole = (whole, tt) }

-- a line that is neither of a message nor of a delivery
pub record Quietly (text : List ℕ) : Type 0 where
  pub line : List ℕ
  pub reads : Reads text (Quiet line ∷ [])
  pub quiet : IsQuiet line

pub quietly : (text : List ℕ) (h : IsEnd text) → IsQuiet h.body → Quietly text
quietly text h q = record { line = h.body; reads = reads_one text (Quiet h.body) h.is h.whole; quiet = q }

up_quiet : (n : ℕ) (s : Started) → Quietly (up_line n s)
unfolding up_line
up_quiet n s = quietly _ (onto (codes "up ") _ refl (numbered n _ (last_word (start_word s) (start_unbroken s))))
    (record { message = λ k i j name path e. apart 0 _ _ e refl; delivery = λ k m status e. apart 0 _ _ e refl })

already_quiet : (n : ℕ) → Quietly (up_already_line n)
unfolding up_already_line
already_quiet n = quietly _ (onto (codes "up ") _ refl (numbered n _ (onto (codes " already") (codes "\n") refl end)))
    (record { message = λ k i j name path e. apart 0 _ _ e refl; delivery = λ k m status e. apart 0 _ _ e refl })

down_quiet : (n : ℕ) (before : Option ℕ) → Quietly (down_line n before)
unfolding down_line
down_quiet n None = quietly _ (onto (codes "down ") _ refl (numbered n _ (onto (codes " already") (codes "\n") refl end)))
    (record { message = λ k i j name path e. apart 0 _ _ e refl; delivery = λ k m status e. apart 1 _ _ e refl })
down_quiet n (Some incarnation) = quietly _ (onto (codes "down ") _ refl (numbered n _ end))
    (record { message = λ k i j name path e. apart 0 _ _ e refl; delivery = λ k m status e. apart 1 _ _ e refl })

tick_quiet : (n clock : ℕ) (o : Outcome) → Quietly (tick_line n clock o)
unfolding tick_line
tick_quiet n clock o = quietly _ (onto (codes "tick ") _ refl (numbered n _ (onto (codes " ") _ refl (numbered clock _ (last_word (outcome_word o) (outcome_unbroken o))))))
    (record { message = λ k i j name path e. apart 0 _ _ e refl; delivery = λ k m status e. apart 0 _ _ e refl })

inject_quiet : (n : ℕ) (o : Outcome) → Quietly (inject_line n o)
unfolding inject_line
inject_quiet n o = quietly _ (onto (codes "inject ") _ refl (numbered n _ (last_word (outcome_word o) (outcome_unbroken o))))
    (record { message = λ k i j name path e. apart 0 _ _ e refl; delivery = λ k m status e. apart 0 _ _ e refl })

pub forged_quiet : (n : ℕ) → Quietly (forged_line n)
unfolding forged_line
forged_quiet n = quietly _ (onto (codes "inject ") _ refl (numbered n _ (onto (codes " forged") (codes "\n") refl end)))
    (record { message = λ k i j name path e. apart 0 _ _ e refl; delivery = λ k m status e. apart 0 _ _ e refl })

refused_quiet : (word : List ℕ) → IsUnbroken word → Quietly (refused_line word)
unfolding refused_line
refused_quiet word h = quietly _ (onto (codes "refused ") _ refl (onto word (codes "\n") h end))
    (record { message = λ k i j name path e. apart 0 _ _ e refl; delivery = λ k m status e. apart 0 _ _ e refl })

pub end_quiet : (m c a l : ℕ) → Quietly (end_line m c a l)
unfolding end_line
end_quiet m c a l = quietly _
    (onto (codes "end messages ") _ refl (numbered m _
    (onto (codes " committed ") _ refl (numbered c _
    (onto (codes " aborted ") _ refl (numbered a _ (onto (codes " lost ") _ refl (numbered l _ end))))))))
    (record { message = λ k i j name path e. apart 0 _ _ e refl; delivery = λ k n status e. apart 0 _ _ e refl })

-- `none` is no number and a status
spaced_not : (a b : List ℕ) → Lacks 32 (a ++ 32 ∷ b) → ⊥
spaced_not [] b h = absurd cc
spaced_not (x ∷ xs) b h = spaced_not xs b (both_false (x == 32) (list_any (λ c. c == 32) (xs ++ 32 ∷ b)) h).1

pub none_quiet : (k : ℕ) → Quietly (no_message_line k)
unfolding no_message_line
none_quiet k = quietly _ (onto (codes "deliver ") _ refl (numbered k _ (onto (codes " none") (codes "\n") refl end)))
    (record {
      message = λ l i j name path e. apart 0 _ _ e refl;
      delivery = λ l m status e.
          let rest = (parted 32 (decimal k) (decimal l) (codes "none") (decimal m ++ (32 ∷ status)) (decimal_lacks 32 k (below_digits 32 (omega arith))) (decimal_lacks 32 l (below_digits 32 (omega arith))) (ap (drop 8) e)).1 in
          spaced_not (decimal m) status (subst (Lacks 32) rest refl);
    })

effect_quiet : (n : ℕ) (e : Effect) → Quietly (effect_line n e)
unfolding item_line
effect_quiet n (effects.Root id what) = quietly _ (onto (codes "root") _ refl (item_end n id (ending_word what) (ending_unbroken what)))
    (record { message = λ k i j name path e. apart 0 _ _ e refl; delivery = λ k m status e. apart 0 _ _ e refl })
effect_quiet n (effects.Sub id what) = quietly _ (onto (codes "sub") _ refl (item_end n id (ending_word what) (ending_unbroken what)))
    (record { message = λ k i j name path e. apart 0 _ _ e refl; delivery = λ k m status e. apart 0 _ _ e refl })
effect_quiet n (effects.Leaf id kind what) = quietly _ (onto (codes "leaf") _ refl (item_end n id (leaf_words kind what) (leaf_unbroken kind what)))
    (record { message = λ k i j name path e. apart 0 _ _ e refl; delivery = λ k m status e. apart 0 _ _ e refl })
effect_quiet n (effects.Told id what) = quietly _ (onto (codes "told") _ refl (item_end n id (told_word what) (told_unbroken what)))
    (record { message = λ k i j name path e. apart 0 _ _ e refl; delivery = λ k m status e. apart 0 _ _ e refl })

-- the line of a message

fault_unbroken : (f : Named) → IsUnbroken (fault_name f)
fault_unbroken names.InvalidState = refl
fault_unbroken names.InvalidProtocol = refl
fault_unbroken names.InvalidParameters = refl
fault_unbroken names.CannotCreateContext = refl
fault_unbroken names.CannotRegisterParticipant = refl
fault_unbroken names.UnknownTransaction = refl

notice_unbroken : (n : Notice) → IsUnbroken (message_name (messages.Notice n))
notice_unbroken notices.Prepare = refl
notice_unbroken notices.Commit = refl
notice_unbroken notices.Rollback = refl
notice_unbroken notices.Prepared = refl
notice_unbroken notices.ReadOnly = refl
notice_unbroken notices.Aborted = refl
notice_unbroken notices.Committed = refl

pub name_unbroken : (m : Message) → IsPlainMessage m → IsUnbroken (message_name m)
name_unbroken (messages.Create c) h = refl
name_unbroken (messages.CreateResponse context) h = refl
name_unbroken (messages.Register r) h = refl
name_unbroken (messages.RegisterResponse c) h = refl
name_unbroken (messages.Notice n) h = notice_unbroken n
name_unbroken (messages.Work w) h = refl
name_unbroken messages.WorkDone h = refl
name_unbroken messages.WorkRefused h = refl
name_unbroken (messages.Fault name) h = subst IsUnbroken (sym h.1) (fault_unbroken h.0)

kind_unbroken : (kind : Kind) → IsUnbroken (kind_letter kind)
kind_unbroken kinds.Durable = refl
kind_unbroken kinds.Volatile = refl

path_unbroken : (t : Target) → IsUnbroken (path_of t)
path_unbroken targets.Activation = refl
path_unbroken (targets.Registration id) = id_unbroken id
path_unbroken (targets.Completion id) = id_unbroken id
path_unbroken (targets.Coordinator id seat) =
    (part (codes "/c/") _ refl (part (kind_letter seat.kind) _ (kind_unbroken seat.kind)
    (part (codes "/") _ refl (part (id_text id) _ (id_unbroken id)
    (part (codes "/") (decimal seat.number) refl (record { whole = decimal_unbroken seat.number })))))).whole
path_unbroken (targets.Participant id kind) =
    (part (codes "/p/") _ refl (part (kind_letter kind) _ (kind_unbroken kind) (part (codes "/") (id_text id) refl (record { whole = id_unbroken id })))).whole
path_unbroken (targets.Initiator id) = id_unbroken id
path_unbroken targets.Work = refl

pub to_unbroken : (count : ℕ) (p : Posted) → IsPlain count p → IsUnbroken (path_in p.content.to)
to_unbroken count p h = by_to p.content.to refl
  where
    by_to : (o : Option Epr) → p.content.to ≡ o → IsUnbroken (path_in o)
    by_to None e = refl
    by_to (Some to) e = subst IsUnbroken (sym (path_shown to (h.to to e))) (path_unbroken (h.to to e).target)

abbrev start_of : ℕ → ℕ → ℕ → List ℕ → List ℕ → List ℕ
start_of k s r name rest = codes "msg " ++ (decimal k ++ (codes " " ++ (decimal s ++ (codes ">" ++ (decimal r ++ (codes " " ++ (name ++ (codes " " ++ rest))))))))

start_then : (k s r : ℕ) (name rest : List ℕ) → message_start k s r name ++ rest ≡ start_of k s r name rest
unfolding message_start
start_then k s r name rest =
    ap (λ t. codes "msg " ++ t) (append_assoc (decimal k) _ rest
    ∙ ap (λ t. decimal k ++ (codes " " ++ t)) (append_assoc (decimal s) _ rest
    ∙ ap (λ t. decimal s ++ (codes ">" ++ t)) (append_assoc (decimal r) _ rest
    ∙ ap (λ t. decimal r ++ (codes " " ++ t)) (append_assoc name (codes " ") rest))))

start_more : (k s r : ℕ) (name rest more : List ℕ) → start_of k s r name rest ++ more ≡ start_of k s r name (rest ++ more)
start_more k s r name rest more =
    ap (λ t. codes "msg " ++ t) (append_assoc (decimal k) _ more
    ∙ ap (λ t. decimal k ++ (codes " " ++ t)) (append_assoc (decimal s) _ more
    ∙ ap (λ t. decimal s ++ (codes ">" ++ t)) (append_assoc (decimal r) _ more
    ∙ ap (λ t. decimal r ++ (codes " " ++ t)) (append_assoc name (codes " " ++ rest) more))))

message_reads : (count k : ℕ) (p : Posted) → IsPlain count p → Reads (message_text k (line_of p)) (Posts k p ∷ [])
message_reads count k p h = reads_one (message_text k (line_of p)) (Posts k p)
    (start_then k p.sender (receiver_number p.receiver) (message_name p.content.message) (path_in p.content.to ++ codes "\n")
    ∙ sym (start_more k p.sender (receiver_number p.receiver) (message_name p.content.message) (path_in p.content.to) (codes "\n")))
    (part (codes "msg ") _ refl (part (decimal k) _ (decimal_unbroken k) (part (codes " ") _ refl (part (decimal p.sender) _ (decimal_unbroken p.sender)
    (part (codes ">") _ refl (part (decimal (receiver_number p.receiver)) _ (decimal_unbroken (receiver_number p.receiver)) (part (codes " ") _ refl
    (part (message_name p.content.message) _ (name_unbroken p.content.message h.message) (part (codes " ") (path_in p.content.to) refl (record { whole = to_unbroken count p h })))))))))).whole

delivered_reads : (k n : ℕ) (o : Outcome) → Reads (deliver_line k n o) (Delivered k n (outcome_word o ++ []) ∷ [])
unfolding deliver_line
delivered_reads k n o =
    let h : IsEnd (codes "deliver " ++ (decimal k ++ (codes " " ++ (decimal n ++ (codes " " ++ (outcome_word o ++ codes "\n")))))) =
    onto (codes "deliver ") _ refl (numbered k _ (onto (codes " ") _ refl (numbered n _ (last_word (outcome_word o) (outcome_unbroken o))))) in
    reads_one _ (Delivered k n (outcome_word o ++ [])) h.is h.whole

-- The lines of steps, whose messages are so.
pub record Steps (v : World) (F : Posted → Type 0) (text : List ℕ) : Type 0 where
  pub entries : List Entry
  pub reads : Reads text entries
  pub are : AllByRecursion (IsStepLine v F) entries

steps_none : (v : World) (F : Posted → Type 0) → Steps v F []
steps_none v F = record { entries = []; reads = reads_none; are = tt }

all_both : {A : Type 0} (P : A → Type 0) (xs ys : List A) → AllByRecursion P xs → AllByRecursion P ys → AllByRecursion P (xs ++ ys)
all_both P [] ys h k = k
all_both P (x ∷ xs) ys h k = (h.0, all_both P xs ys h.1 k)

steps_both : (v : World) (F : Posted → Type 0) (a b : List ℕ) → Steps v F a → Steps v F b → Steps v F (a ++ b)
steps_both v F a b h k = record {
  entries = h.entries ++ k.entries;
  reads = reads_both a b h.entries k.entries h.reads k.reads;
  are = all_both (IsStepLine v F) h.entries k.entries h.are k.are;
}

steps_quiet : (v : World) (F : Posted → Type 0) (text : List ℕ) → Quietly text → Steps v F text
steps_quiet v F text q = record { entries = Quiet q.line ∷ []; reads = q.reads; are = (q.quiet, tt) }

steps_effects : (v : World) (F : Posted → Type 0) (n : ℕ) (es : List Effect) → Steps v F (effect_lines n es)
steps_effects v F n [] = steps_none v F
steps_effects v F n (e ∷ es) = steps_both v F (effect_line n e) (effect_lines n es) (steps_quiet v F (effect_line n e) (effect_quiet n e)) (steps_effects v F n es)

-- messages of a world, numbered from this one on
pub record IsNext (count : ℕ) (v : World) (F : Posted → Type 0) (k : ℕ) (p : Posted) : Type 0 where
  pub found : nth k v.posted ≡ Some p
  pub plain : IsPlain count p
  pub so : F p

abbrev pub AreNext : ℕ → World → (Posted → Type 0) → ℕ → List Posted → Type 0
AreNext count v F k [] = Unit {0}
AreNext count v F k (p ∷ ps) = IsNext count v F k p × AreNext count v F (k + 1) ps

steps_messages : (count : ℕ) (v : World) (F : Posted → Type 0) (k : ℕ) (ps : List Posted) → AreNext count v F k ps → Steps v F (message_lines k ps)
steps_messages count v F k [] h = steps_none v F
steps_messages count v F k (p ∷ ps) h =
    steps_both v F (message_text k (line_of p)) (message_lines (k + 1) ps)
    (record { entries = Posts k p ∷ []; reads = message_reads count k p h.0.plain; are = ((h.0.found, h.0.so), tt) })
    (steps_messages count v F (k + 1) ps h.1)

next_taken : (count : ℕ) (v : World) (F : Posted → Type 0) (k m : ℕ) (ps : List Posted) → AreNext count v F k ps → AreNext count v F k (take m ps)
next_taken count v F k zero ps h = tt
next_taken count v F k (suc m) [] h = tt
next_taken count v F k (suc m) (p ∷ ps) h = (h.0, next_taken count v F (k + 1) m ps h.1)

next_left : (count : ℕ) (v : World) (F : Posted → Type 0) (k m : ℕ) (ps : List Posted) → AreNext count v F k ps → AreNext count v F (k + m) (drop m ps)
next_left count v F k zero ps h = subst (λ i. AreNext count v F i ps) (omega arith) h
next_left count v F k (suc m) [] h = tt
next_left count v F k (suc m) (p ∷ ps) h = subst (λ i. AreNext count v F i (drop m ps)) (omega arith) (next_left count v F (k + 1) m ps h.1)

steps_all : (count : ℕ) (v : World) (F : Posted → Type 0) (n k : ℕ) (ps : List Posted) (os : List Counted) → AreNext count v F k ps → Steps v F (step_lines n k ps os)
steps_all count v F n k ps [] h = steps_none v F
steps_all count v F n k ps (o ∷ os) h =
    steps_both v F (effect_lines n o.effects) _ (steps_effects v F n o.effects)
    (steps_both v F (message_lines k (take (own_count o ps) ps)) _ (steps_messages count v F k (take (own_count o ps) ps) (next_taken count v F k (own_count o ps) ps h))
    (steps_all count v F n (k + own_count o ps) (drop (own_count o ps) ps) os (next_left count v F k (own_count o ps) ps h)))

pub steps_event : (count : ℕ) (v : World) (F : Posted → Type 0) (n k : ℕ) (ps : List Posted) (os : List Counted) (lost : List Effect) → AreNext count v F k ps
    → Steps v F (step_lines n k ps os ++ effect_lines n lost)
steps_event count v F n k ps os lost h = steps_both v F (step_lines n k ps os) (effect_lines n lost) (steps_all count v F n k ps os h) (steps_effects v F n lost)

-- all that is printed of an event
pub record Chunk (hosts : Hosts) (v : World) (text : List ℕ) : Type 0 where
  pub entries : List Entry
  pub reads : Reads text entries
  pub opens : Opens entries
  pub sound : Sound hosts v entries

behind_quiet : (hosts : Hosts) (v : World) (F : Posted → Type 0) (a b : List ℕ) → Quietly a → Steps v F b → Chunk hosts v (a ++ b)
behind_quiet hosts v F a b q s = record {
  entries = Quiet q.line ∷ s.entries;
  reads = reads_both a b (Quiet q.line ∷ []) s.entries q.reads s.reads;
  opens = tt;
  sound = (q.quiet, tt, steps_sound hosts v F s.entries s.are);
}

start_quiet : (s : Started) (n : ℕ) (before : Option ℕ) → Quietly (start_result s n before)
start_quiet s n None = up_quiet n s
start_quiet s n (Some before) = already_quiet n

asked_chunk : (hosts : Hosts) (w v : World) (e : WorldEvent) (r : Option Refusal) (b : List ℕ) → IsNoDelivery e → Steps v (IsBrought hosts w e) b → Chunk hosts v (unless_taken r ++ b)
asked_chunk hosts w v e None b other s =
    record { entries = s.entries; reads = s.reads; opens = steps_open hosts w v e s.entries other s.are; sound = steps_sound hosts v (IsBrought hosts w e) s.entries s.are }
asked_chunk hosts w v e (Some r) b other s = behind_quiet hosts v (IsBrought hosts w e) (unless_taken (Some r)) b (refused_quiet (refusal_word r) (refusal_unbroken r)) s

pub event_chunk : (hosts : Hosts) (w v : World) (more : List Posted) → v.posted ≡ w.posted ++ more → (f : Option Fault) (s : ℕ) (e : WorldEvent) (os : List Counted) (b : List ℕ)
    → Steps v (IsBrought hosts w e) b → Chunk hosts v (result_line f s e w v os ++ b)
event_chunk hosts w v more grows f s (Up n landed stop) os b h =
    behind_quiet hosts v _ (result_line f s (Up n landed stop) w v os) b (start_quiet (started_by f stop (incarnation_at v n)) n (incarnation_at w n)) h
event_chunk hosts w v more grows f s (Crash n) os b h = behind_quiet hosts v _ (result_line f s (Crash n) w v os) b (down_quiet n (incarnation_at w n)) h
event_chunk hosts w v more grows f s (Turn n (Tick ms) fates until) os b h =
    behind_quiet hosts v _ (result_line f s (Turn n (Tick ms) fates until) w v os) b
    (tick_quiet n (or_zero (clock_at v n)) (outcome_of f (incarnation_at w n) (incarnation_at v n) (status_in os))) h
event_chunk hosts w v more grows f s (Turn n Raw fates until) os b h =
    behind_quiet hosts v _ (result_line f s (Turn n Raw fates until) w v os) b (inject_quiet n (outcome_of f (incarnation_at w n) (incarnation_at v n) s)) h
event_chunk hosts w v more grows f s (Turn n (Deliver k) fates until) os b h =
    let o : Outcome = outcome_of f (incarnation_at w n) (incarnation_at v n) (status_in os) in
    record {
      entries = Delivered k n (outcome_word o ++ []) ∷ h.entries;
      reads = reads_both (deliver_line k n o) b (Delivered k n (outcome_word o ++ []) ∷ []) h.entries (delivered_reads k n o) h.reads;
      opens = tt;
      sound = delivery_sound hosts w v more grows (Turn n (Deliver k) fates until) k n (outcome_word o ++ []) h.entries refl h.are;
    }
event_chunk hosts w v more grows f s (Ask n l fates until) os b h = by_book (book_at w n)
  where
    by_book : (o : Option Book) → Chunk hosts v (request_result l o ++ b)
    by_book None = behind_quiet hosts v (IsBrought hosts w (Ask n l fates until)) (request_result l None) b (refused_quiet (codes "down") refl) h
    by_book (Some book) = asked_chunk hosts w v (Ask n l fates until) (refuses book l) b tt h

-- a text of lines that stand in a world
pub record Printed (count : ℕ) (w : World) (text : List ℕ) : Type 0 where
  pub entries : List Entry
  pub reads : Reads text entries
  pub sound : Sound (example_hosts count) w entries
