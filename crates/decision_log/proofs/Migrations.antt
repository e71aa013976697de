-- What is kept of a list of version 1 is kept of one of version 2.
use Rattle.std.proofs.Common.{ℕ, zero, suc, List, [], ◌∷◌, ◌≡◌, ◌++◌, ◌+◌, ◌-◌, ◌<◌, ◌≤◌, Bool, true, false, not, refl, sym, ◌∙◌, ap, drop, length, arith, if◌then◌else◌}
use Rattle.std.specs.List.{AllByRecursion, filter, list_any}
use Rattle.std.proofs.lemmas.List.{append_assoc, append-nil, length-append, length-drop, drop-append-le, drop-drop}
use Rattle.at_base.specs.declared.limits.TheConstants.{MOST_OUTCOMES}
use Rattle.at_base.specs.Numbers.{Numbers}
use Rattle.at_base.specs.WellFormed.{IsWellFormed}
use Rattle.at_base.specs.declared.record.Record.{Record}
use Rattle.at_base.specs.declared.record.Record.TheVariants as records
use Rattle.at_model.specs.Book.{is_id}
use Rattle.at_model.specs.Outcomes.{newest, outcomes_after, put_last}
use Rattle.at_model.specs.Recovery.{ends_leaf, ends_transaction, in_order, incarnation_of, is_sub_committed, last_incarnation, live}
use Rattle.model_laws.specs.Compactions.{record_id}
use Rattle.model_laws.proofs.DrawnIds.{all_live}
use Rattle.model_laws.proofs.RecoveryLaws.{incarnations_rise, same_id}
use Rattle.journal_at.specs.declared.version.Version.TheVariants.{One, Two}
use Rattle.decision_log.specs.KeptRecords.{decided_in, kept_of}
use Rattle.decision_log.specs.ShrunkJournals.{start_of}
use Rattle.decision_log.proofs.LiveRecords.{live_again}
use Rattle.decision_log.proofs.SubCommits.{AreNotAbout, none_about}

-- the last outcomes, and one more
newest_push : (ids : List Numbers) (id : Numbers) → newest (newest ids ++ id ∷ []) ≡ newest (ids ++ id ∷ [])
newest_push ids id =
    let n = length ids in
    let inside : newest ids ++ id ∷ [] ≡ drop (n - MOST_OUTCOMES) (ids ++ id ∷ []) = sym (drop-append-le (n - MOST_OUTCOMES) ids (id ∷ []) (omega arith)) in
    let long : length (newest ids ++ id ∷ []) ≡ (n - (n - MOST_OUTCOMES)) + 1 = length-append (newest ids) (id ∷ []) ∙ ap (λ m. m + 1) (length-drop (n - MOST_OUTCOMES) ids) in
    let whole : length (ids ++ id ∷ []) ≡ n + 1 = length-append ids (id ∷ []) in
    (λ i. drop (long i - MOST_OUTCOMES) (inside i)) ∙ drop-drop ((n - (n - MOST_OUTCOMES)) + 1 - MOST_OUTCOMES) (n - MOST_OUTCOMES) (ids ++ id ∷ [])
    ∙ (λ i. drop (sums i) (ids ++ id ∷ [])) ∙ (λ i. drop (sym whole i - MOST_OUTCOMES) (ids ++ id ∷ []))
  where
    sums : (length ids - MOST_OUTCOMES) + ((length ids - (length ids - MOST_OUTCOMES)) + 1 - MOST_OUTCOMES) ≡ length ids + 1 - MOST_OUTCOMES
    sums = omega arith

-- none of these is that id
abbrev AreOthers : Numbers → List Numbers → Type 0
AreOthers id ids = AllByRecursion (λ i. i ≡ id → ⊥) ids

others_drop : (id : Numbers) (n : ℕ) (ids : List Numbers) → AreOthers id ids → AreOthers id (drop n ids)
others_drop id zero ids h = h
others_drop id (suc n) [] h = h
others_drop id (suc n) (i ∷ ids) h = others_drop id n ids h.1

none_out : (id : Numbers) (ids : List Numbers) → AreOthers id ids → filter (λ i. not (is_id i id)) ids ≡ ids
none_out id [] h = refl
none_out id (i ∷ ids) (h, k) = by_case (is_id i id) refl (none_out id ids k) where
  by_case : (b : Bool) → is_id i id ≡ b → filter (λ j. not (is_id j id)) ids ≡ ids → (if not b then i ∷ filter (λ j. not (is_id j id)) ids else filter (λ j. not (is_id j id)) ids) ≡ i ∷ ids
  by_case true e f = absurd (h (same_id i id e))
  by_case false e f = ap (λ z. i ∷ z) f

put_new : (id : Numbers) (ids : List Numbers) → AreOthers id ids → put_last id (newest ids) ≡ newest (ids ++ id ∷ [])
put_new id ids h = ap (λ z. newest (z ++ id ∷ [])) (none_out id (newest ids) (others_drop id (length ids - MOST_OUTCOMES) ids h)) ∙ newest_push ids id

-- each is new when it comes
abbrev AreNew : List Numbers → List Numbers → Type 0
AreNew ids [] = Unit {0}
AreNew ids (id ∷ more) = AreOthers id ids × AreNew (ids ++ id ∷ []) more

-- no outcomes but decisions
abbrev AreNoDone : List Record → Type 0
AreNoDone [] = Unit {0}
AreNoDone (records.Done id ∷ rest) = ⊥
AreNoDone (records.Start n ∷ rest) = AreNoDone rest
AreNoDone (records.LeafPrepared i c key value ∷ rest) = AreNoDone rest
AreNoDone (records.LeafCommitted i ∷ rest) = AreNoDone rest
AreNoDone (records.LeafAborted i ∷ rest) = AreNoDone rest
AreNoDone (records.Voted i s ss ∷ rest) = AreNoDone rest
AreNoDone (records.Decided i ss ∷ rest) = AreNoDone rest
AreNoDone (records.SubCommitted i ∷ rest) = AreNoDone rest
AreNoDone (records.Ended i ∷ rest) = AreNoDone rest

outcomes_newest : (ids : List Numbers) (xs : List Record) → AreNoDone xs → AreNew ids (decided_in xs) → outcomes_after (newest ids) xs ≡ newest (ids ++ decided_in xs)
outcomes_newest ids [] d h = ap newest (sym (append-nil ids))
outcomes_newest ids (records.Start n ∷ xs) d h = outcomes_newest ids xs d h
outcomes_newest ids (records.LeafPrepared i c key value ∷ xs) d h = outcomes_newest ids xs d h
outcomes_newest ids (records.LeafCommitted i ∷ xs) d h = outcomes_newest ids xs d h
outcomes_newest ids (records.LeafAborted i ∷ xs) d h = outcomes_newest ids xs d h
outcomes_newest ids (records.Voted i s ss ∷ xs) d h = outcomes_newest ids xs d h
outcomes_newest ids (records.Decided i ss ∷ xs) d (h, k) =
    ap (λ z. outcomes_after z xs) (put_new i ids h) ∙ outcomes_newest (ids ++ i ∷ []) xs d k ∙ ap newest (append_assoc ids (i ∷ []) (decided_in xs))
outcomes_newest ids (records.SubCommitted i ∷ xs) d h = outcomes_newest ids xs d h
outcomes_newest ids (records.Ended i ∷ xs) d h = outcomes_newest ids xs d h
outcomes_newest ids (records.Done i ∷ xs) d h = absurd d

-- the decisions that are live differ
abbrev AreDistinct : List Numbers → Type 0
AreDistinct [] = Unit {0}
AreDistinct (id ∷ ids) = AreOthers id ids × AreDistinct ids

others_decided : (id : Numbers) (xs : List Record) → AreNotAbout id xs → AreOthers id (decided_in xs)
others_decided id [] h = tt
others_decided id (records.Start n ∷ xs) h = others_decided id xs h.1
others_decided id (records.LeafPrepared i c key value ∷ xs) h = others_decided id xs h.1
others_decided id (records.LeafCommitted i ∷ xs) h = others_decided id xs h.1
others_decided id (records.LeafAborted i ∷ xs) h = others_decided id xs h.1
others_decided id (records.Voted i s ss ∷ xs) h = others_decided id xs h.1
others_decided id (records.Decided i ss ∷ xs) h = (h.0, others_decided id xs h.1)
others_decided id (records.SubCommitted i ∷ xs) h = others_decided id xs h.1
others_decided id (records.Ended i ∷ xs) h = others_decided id xs h.1
others_decided id (records.Done i ∷ xs) h = others_decided id xs h.1

-- of the live records: none is an outcome, and the decisions differ
abbrev IsClean : List Record → Type 0
IsClean xs = AreNoDone xs × AreDistinct (decided_in xs)

pub live_clean : (rs : List Record) → IsClean (live rs)
live_clean [] = (tt, tt)
live_clean (records.Start n ∷ rest) = live_clean rest
live_clean (records.LeafPrepared i c key value ∷ rest) = by_case (list_any (ends_leaf i) rest) (live_clean rest) where
  by_case : (b : Bool) → IsClean (live rest) → IsClean ((if b then [] else records.LeafPrepared i c key value ∷ []) ++ live rest)
  by_case true h = h
  by_case false h = h
live_clean (records.LeafCommitted i ∷ rest) = live_clean rest
live_clean (records.LeafAborted i ∷ rest) = live_clean rest
live_clean (records.Voted i s ss ∷ rest) = by_case (list_any (ends_transaction i) rest) (list_any (is_sub_committed i) rest) (live_clean rest) where
  by_case : (b c : Bool) → IsClean (live rest) → IsClean ((if b then [] else records.Voted i s ss ∷ (if c then records.SubCommitted i ∷ [] else [])) ++ live rest)
  by_case true c h = h
  by_case false true h = h
  by_case false false h = h
live_clean (records.Decided i [] ∷ rest) = live_clean rest
live_clean (records.Decided i (s ∷ ss) ∷ rest) = by_case (list_any (ends_transaction i) rest) refl (live_clean rest) where
  by_case : (b : Bool) → list_any (ends_transaction i) rest ≡ b → IsClean (live rest) → IsClean ((if b then [] else records.Decided i (s ∷ ss) ∷ []) ++ live rest)
  by_case true e h = h
  by_case false e h = (h.0, (others_decided i (live rest) (none_about i rest e), h.1))
live_clean (records.SubCommitted i ∷ rest) = live_clean rest
live_clean (records.Ended i ∷ rest) = live_clean rest
live_clean (records.Done i ∷ rest) = live_clean rest

turned : (id : Numbers) (ids : List Numbers) → AreOthers id ids → AllByRecursion (λ i. id ≡ i → ⊥) ids
turned id [] h = tt
turned id (i ∷ ids) (h, k) = ((λ e. h (sym e)), turned id ids k)

others_push : (id : Numbers) (ids : List Numbers) (i : Numbers) → AreOthers id ids → (i ≡ id → ⊥) → AreOthers id (ids ++ i ∷ [])
others_push id [] i h k = (k, tt)
others_push id (j ∷ ids) i (h, l) k = (h, others_push id ids i l k)

all_new : (ids more : List Numbers) → AllByRecursion (λ id. AreOthers id ids) more → AreDistinct more → AreNew ids more
all_new ids [] h d = tt
all_new ids (id ∷ more) (h, k) (d, e) = (h, all_new (ids ++ id ∷ []) more (pushed more k (turned id more d)) e) where
  pushed : (more : List Numbers) → AllByRecursion (λ i. AreOthers i ids) more → AllByRecursion (λ i. id ≡ i → ⊥) more → AllByRecursion (λ i. AreOthers i (ids ++ id ∷ [])) more
  pushed [] h k = tt
  pushed (i ∷ more) (h, k) (l, m) = (others_push i ids id h l, pushed more k m)

none_yet : (more : List Numbers) → AllByRecursion (λ id. AreOthers id []) more
none_yet [] = tt
none_yet (i ∷ more) = (tt, none_yet more)

live_outcomes : (rs : List Record) → outcomes_after [] (live rs) ≡ newest (decided_in (live rs))
live_outcomes rs = let c = live_clean rs in outcomes_newest [] (live rs) c.0 (all_new [] (decided_in (live rs)) (none_yet (decided_in (live rs))) c.1)

-- the incarnation
last_of : (n : ℕ) (xs : List Record) → AllByRecursion (λ r. incarnation_of r < n + 1) xs → last_incarnation xs ≤ n
last_of n [] h = omega arith
last_of n (x ∷ xs) (h, k) = let l = last_of n xs k in omega (arith, h, l)

live_last : (rs : List Record) → last_incarnation (live rs) ≤ last_incarnation rs
live_last rs =
    let n = last_incarnation rs in
    last_of n (live rs) (all_live (λ r. incarnation_of r < n + 1) rs (λ id s ss h. h) (incarnations_rise rs).1)

start_last : (n : ℕ) (xs : List Record) → last_incarnation xs ≤ n → last_incarnation (start_of n ++ xs) ≡ n
start_last zero xs h = omega (arith, h)
start_last (suc n) xs h = omega (arith, h)

start_live : (n : ℕ) (xs : List Record) → live (start_of n ++ xs) ≡ live xs
start_live zero xs = refl
start_live (suc n) xs = refl

start_outcomes : (n : ℕ) (xs : List Record) → outcomes_after [] (start_of n ++ xs) ≡ outcomes_after [] xs
start_outcomes zero xs = refl
start_outcomes (suc n) xs = refl

-- the same in version 2
abbrev pub moved : List Record → List Record
moved rs = start_of (last_incarnation rs) ++ live rs

pub moves : (rs : List Record) → kept_of Two (moved rs) ≡ kept_of One rs
moves rs = λ i. record {
  live = in_order record_id ((start_live (last_incarnation rs) (live rs) ∙ live_again rs) i);
  start = start_last (last_incarnation rs) (live rs) (live_last rs) i;
  done = (start_outcomes (last_incarnation rs) (live rs) ∙ live_outcomes rs) i;
}

formed_start : (n : ℕ) (xs : List Record) → AllByRecursion IsWellFormed xs → AllByRecursion IsWellFormed (start_of n ++ xs)
formed_start zero xs h = h
formed_start (suc n) xs h = (omega arith, h)

pub moved_formed : (rs : List Record) → AllByRecursion IsWellFormed rs → AllByRecursion IsWellFormed (moved rs)
moved_formed rs h = formed_start (last_incarnation rs) (live rs) (all_live IsWellFormed rs (λ id s ss t. t.0) h)
