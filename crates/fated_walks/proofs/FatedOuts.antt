-- Outs are sent by the fates of their ways.
use Rattle.std.proofs.Common.{ℕ, zero, suc, List, [], ◌∷◌, ◌++◌, ◌≡◌, ◌-◌, drop, length, Option, Some, None, Bool, true, false, ap, sym, ◌∙◌, arith, refl}
use Rattle.std.specs.Prelude.{map, if◌then◌else◌}
use Rattle.std.proofs.lemmas.Bool.{ne_eqb}
use Rattle.std.proofs.lemmas.List.{append-nil, append_assoc}
use Rattle.at_base.specs.declared.outs.Out.{Out}
use Rattle.at_base.specs.declared.outs.Out.TheVariants as outs
use Rattle.at_model.specs.World.{fate, fates_left, one_nearer, stops}
use Rattle.world_laws.specs.Moves.{luck_of}
use Rattle.world_laws.specs.Walks.{Luck, Sending, is_over, outs_of, sending, sending_at, sends, sent_each, used, with_fate}
use Rattle.world_laws.specs.declared.step_outs.Taken.{Taken}
use Rattle.fated_walks.specs.Fated.{Fated, IsBeyond, StartsWith, Way, answer_in, answered_by, left_before, out_of, post_by, posts_of, taken_of, went_of}

-- the stop, before one more fate, and before these
abbrev pub one_farther : Option ℕ → Option ℕ
one_farther None = None
one_farther (Some n) = Some (suc n)

abbrev pub farther : List Bool → Option ℕ → Option ℕ
farther [] u = u
farther (f ∷ fs) u = one_farther (farther fs u)

-- the fates that are left behind these
abbrev pub past : List Bool → List Bool → List Bool
past [] all = all
past (f ∷ fs) all = past fs (fates_left all)

pub one_goes : (u : Option ℕ) → stops (one_farther u) ≡ false
one_goes None = refl
one_goes (Some n) = ne_eqb (suc n) 0 (λ e. absurd (omega (arith, e)))

pub one_back : (u : Option ℕ) → one_nearer (one_farther u) ≡ u
one_back None = refl
one_back (Some n) = let same : suc n - 1 ≡ n = omega arith in ap Some same

pub more_goes : (fs : List Bool) (u : Option ℕ) → stops u ≡ false → stops (farther fs u) ≡ false
more_goes [] u h = h
more_goes (f ∷ fs) u h = one_goes (farther fs u)

pub some_goes : (fs : List Bool) (u : Option ℕ) → (fs ≡ [] → ⊥) → stops (farther fs u) ≡ false
some_goes [] u h = absurd (h refl)
some_goes (f ∷ fs) u h = one_goes (farther fs u)

pub farther_join : (fs gs : List Bool) (u : Option ℕ) → farther (fs ++ gs) u ≡ farther fs (farther gs u)
farther_join [] gs u = refl
farther_join (f ∷ fs) gs u = ap one_farther (farther_join fs gs u)

pub never_stops : (fs : List Bool) → None ≡ farther fs None
never_stops [] = refl
never_stops (f ∷ fs) = ap one_farther (never_stops fs)

pub stops_there : (fs : List Bool) → Some (length fs) ≡ farther fs (Some 0)
stops_there [] = refl
stops_there (f ∷ fs) = ap one_farther (stops_there fs)

-- a stop behind these and at least one more
pub beyond : (fs : List Bool) (u : Option ℕ) → IsBeyond u (length fs) → u ≡ farther fs (left_before u (length fs))
beyond fs None h = never_stops fs
beyond [] (Some n) h = let same : n ≡ n - 0 = omega arith in ap Some same
beyond (f ∷ fs) (Some zero) h = absurd (omega (arith, h))
beyond (f ∷ fs) (Some (suc n)) h =
    let same : n - length fs ≡ suc n - suc (length fs) = omega arith in
    ap one_farther (beyond fs (Some n) (omega (arith, h)) ∙ ap (λ m. farther fs (Some m)) same)

pub beyond_goes : (u : Option ℕ) (n : ℕ) → IsBeyond u n → stops (left_before u n) ≡ false
beyond_goes None n h = refl
beyond_goes (Some m) n h = ne_eqb (m - n) 0 (λ e. omega (arith, h, e))

pub past_join : (fs gs all : List Bool) → past (fs ++ gs) all ≡ past gs (past fs all)
past_join [] gs all = refl
past_join (f ∷ fs) gs all = past_join fs gs (fates_left all)

drop_left : (n : ℕ) (all : List Bool) → drop n (fates_left all) ≡ drop (suc n) all
drop_left zero [] = refl
drop_left (suc n) [] = refl
drop_left n (f ∷ fs) = refl

pub past_drops : (fs all : List Bool) → past fs all ≡ drop (length fs) all
past_drops [] all = refl
past_drops (f ∷ fs) all = past_drops fs (fates_left all) ∙ drop_left (length fs) all

pub starts_first : (fs gs all : List Bool) → StartsWith (fs ++ gs) all → StartsWith fs all
starts_first [] gs all h = tt
starts_first (f ∷ fs) gs all (e, h) = (e, starts_first fs gs (fates_left all) h)

pub starts_then : (fs gs all : List Bool) → StartsWith (fs ++ gs) all → StartsWith gs (past fs all)
starts_then [] gs all h = h
starts_then (f ∷ fs) gs all (e, h) = starts_then fs gs (fates_left all) h

-- behind the stop nothing is sent
pub over_sends : (os : List Out) (s : Sending) → is_over s.luck ≡ true → sent_each os s ≡ s
over_sends [] s h = refl
over_sends (out ∷ rest) s h =
    ap (λ b. sent_each rest (if b then s else record { luck = used s.luck; taken = with_fate (fate s.luck.fates) out s.taken })) h
    ∙ over_sends rest s h

-- what is taken of the ways
abbrev with_way : Way → Taken → Taken
with_way w t = with_fate w.went w.out t

abbrev with_ways : List Way → Taken → Taken
with_ways [] t = t
with_ways (w ∷ ws) t = with_ways ws (with_way w t)

way_gives : (went : Bool) (out : Out) (t : Taken)
    → with_fate went out t ≡ record t { answer = answered_by t.answer out; posts = t.posts ++ post_by went out }
way_gives true (outs.Post p) t = refl
way_gives true (outs.Answer status reply) t = ap (λ ps. record (with_fate true (outs.Answer status reply) t) { posts = ps }) (sym (append-nil t.posts))
way_gives false (outs.Post p) t = ap (λ ps. record t { posts = ps }) (sym (append-nil t.posts))
way_gives false (outs.Answer status reply) t = ap (λ ps. record (with_fate true (outs.Answer status reply) t) { posts = ps }) (sym (append-nil t.posts))

ways_give : (ws : List Way) (t : Taken) → with_ways ws t ≡ record t { answer = answer_in t.answer ws; posts = t.posts ++ posts_of ws }
ways_give [] t = ap (λ ps. record t { posts = ps }) (sym (append-nil t.posts))
ways_give (w ∷ ws) t =
    ap (with_ways ws) (way_gives w.went w.out t)
    ∙ ways_give ws (record t { answer = answered_by t.answer w.out; posts = t.posts ++ post_by w.went w.out })
    ∙ ap (λ ps. record t { answer = answer_in (answered_by t.answer w.out) ws; posts = ps }) (append_assoc t.posts (post_by w.went w.out) (posts_of ws))

ways_sent : (ws : List Way) (rest : List Out) (all : List Bool) (u : Option ℕ) (t : Taken) → StartsWith (map went_of ws) all
    → sent_each (map out_of ws ++ rest) (sending_at (luck_of all (farther (map went_of ws) u)) t)
    ≡ sent_each rest (sending_at (luck_of (past (map went_of ws) all) u) (with_ways ws t))
ways_sent [] rest all u t h = refl
ways_sent (w ∷ ws) rest all u t (e, h) =
    let v : Option ℕ = farther (map went_of ws) u in
    let s : Sending = sending_at (luck_of all (one_farther v)) t in
    let gone : Sending = record { luck = used s.luck; taken = with_fate (fate all) w.out t } in
    ap (λ b. sent_each (map out_of ws ++ rest) (if b then s else gone)) (one_goes v)
    ∙ (λ i. sent_each (map out_of ws ++ rest) (sending_at (luck_of (fates_left all) (one_back v i)) (with_fate (e i) w.out t)))
    ∙ ways_sent ws rest (fates_left all) u (with_way w t) h

-- Its ways are the first of its outs, and with so much left of the stop no other is sent.
pub record Fares (f : Fated) (u : Option ℕ) : Type 0 where
  pub rest : List Out
  pub all : map out_of f.ways ++ rest ≡ f.outcome.outs
  pub ends : (fates : List Bool) (t : Taken) → sent_each rest (sending_at (luck_of fates u) t) ≡ sending_at (luck_of fates u) t

pub step_sends : (f : Fated) (all : List Bool) (u : Option ℕ) → StartsWith (map went_of f.ways) all → Fares f u
    → sends (outs_of f.outcome) (luck_of all (farther (map went_of f.ways) u)) ≡ sending_at (luck_of (past (map went_of f.ways) all) u) (taken_of f)
unfolding sends
step_sends f all u h fares =
    let l : Luck = luck_of all (farther (map went_of f.ways) u) in
    let left : List Bool = past (map went_of f.ways) all in
    let t : Taken = (sending (outs_of f.outcome) l).taken in
    ap (λ os. sent_each os (sending (outs_of f.outcome) l)) (sym fares.all)
    ∙ ways_sent f.ways fares.rest all u t h
    ∙ fares.ends left (with_ways f.ways t)
    ∙ ap (sending_at (luck_of left u)) (ways_give f.ways t)
