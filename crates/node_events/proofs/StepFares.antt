-- How the outs of a step fared that were tried.
use Rattle.std.specs.Prelude.{ℕ, List, [], ◌∷◌, ◌++◌, ◌+◌, ◌≡◌, None, true, map, refl}
use Rattle.std.specs.List.{AllByRecursion}
use Rattle.std.proofs.Common.{inl, inr, sym, subst, ap, arith, ◌∙◌}
use Rattle.std.proofs.lemmas.List.{append-nil, map-append, same_from_push}
use Rattle.at_base.specs.Numbers.{Numbers}
use Rattle.at_base.specs.declared.outs.Out.{Out}
use Rattle.at_base.specs.declared.outs.Out.TheVariants as outs
use Rattle.at_base.specs.declared.outs.Post.{Post}
use Rattle.decision_log.specs.Tokens.{Token}
use Rattle.fated_walks.specs.Fated.{Way, out_of, post_by, posts_of}
use Rattle.node_at.specs.Sends.{Tried, none, went, was_lost}
use Rattle.node_at.specs.Texts.{IsCallOf, Leaving, call_by}
use Rattle.node_events.specs.Fares.{Fare, IsRightly, calls_of, losses_of, mades_of, way_of}
use Rattle.node_events.proofs.LeavingOuts.{Goes, IsAlike, goes_none, leaves, stays}
use Rattle.node_events.proofs.Rows.{all_join, gathers, no_more}
use Rattle.node_worlds.specs.SentPosts.{AreSome, Sent, also}
use Rattle.node_worlds.specs.SentPosts.{posts_of as posts_among}
use Rattle.node_worlds.proofs.Rows.{sent_append}
use Rattle.site_model.specs.Told.{Made, done, failed, sent_by}

-- what is gathered of each fare
calls_each : (f : Fare) (fs : List Fare) → calls_of (f ∷ fs) ≡ calls_of (f ∷ []) ++ calls_of fs
calls_each (Fare.Went out call) fs = refl
calls_each (Fare.Failed out call) fs = refl
calls_each (Fare.Untold out call) fs = refl
calls_each (Fare.Stays out) fs = refl

mades_each : (f : Fare) (fs : List Fare) → mades_of (f ∷ fs) ≡ mades_of (f ∷ []) ++ mades_of fs
mades_each (Fare.Went out call) fs = refl
mades_each (Fare.Failed out call) fs = refl
mades_each (Fare.Untold out call) fs = refl
mades_each (Fare.Stays out) fs = refl

losses_join : (fs gs : List Fare) → losses_of (fs ++ gs) ≡ losses_of fs + losses_of gs
losses_join [] gs = omega arith
losses_join (Fare.Went out call ∷ fs) gs = losses_join fs gs
losses_join (Fare.Failed out call ∷ fs) gs = let e = losses_join fs gs in omega (arith, e)
losses_join (Fare.Untold out call ∷ fs) gs = let e = losses_join fs gs in omega (arith, e)
losses_join (Fare.Stays out ∷ fs) gs = losses_join fs gs

posts_each : (w : Way) (ws : List Way) → posts_of (w ∷ ws) ≡ posts_of (w ∷ []) ++ posts_of ws
posts_each w ws = ap (λ z. z ++ posts_of ws) (sym (append-nil (post_by w.went w.out)))

pub also_first : (o : Out) (ps : List Post) → also o ps ≡ also o [] ++ ps
also_first (outs.Post p) ps = refl
also_first (outs.Answer status reply) ps = refl

among_each : (x : Leaving) (xs : List Leaving) → posts_among (x ∷ xs) ≡ posts_among (x ∷ []) ++ posts_among xs
among_each x xs = also_first x.out (posts_among xs)

-- what was sent, and one more out
some_join : (xs ys : List Leaving) (y : Leaving) → AreSome xs ys → AreSome (xs ++ y ∷ []) (ys ++ y ∷ [])
some_join [] [] y h = inl (refl, tt)
some_join [] (z ∷ ys) y h = inr (some_join [] ys y tt)
some_join (x ∷ xs) [] y h = absurd h
some_join (x ∷ xs) (z ∷ ys) y (inl (e, h)) = inl (e, some_join xs ys y h)
some_join (x ∷ xs) (z ∷ ys) y (inr h) = inr (some_join (x ∷ xs) ys y h)

some_fewer : (xs ys : List Leaving) (y : Leaving) → AreSome xs ys → AreSome xs (ys ++ y ∷ [])
some_fewer [] ys y h = tt
some_fewer (x ∷ xs) [] y h = absurd h
some_fewer (x ∷ xs) (z ∷ ys) y (inl (e, h)) = inl (e, some_fewer xs ys y h)
some_fewer (x ∷ xs) (z ∷ ys) y (inr h) = inr (some_fewer (x ∷ xs) ys y h)

sent_more : (xs : List Leaving) (made : List Made) (ps qs : List Post) (x : Leaving) → Sent xs made ps → sent_by (done x.call ∷ []) ≡ x.call ∷ [] → qs ≡ also x.out []
    → Sent (xs ++ x ∷ []) (made ++ done x.call ∷ []) (ps ++ qs)
sent_more xs made ps qs x s e f = record {
  went = s.went ++ x ∷ [];
  some = some_join s.went xs x s.some;
  calls = sent_append made (done x.call ∷ []) ∙ (λ j. s.calls j ++ e j) ∙ sym (map-append call_by s.went (x ∷ []));
  posts = (λ j. s.posts j ++ f j) ∙ sym (gathers posts_among refl among_each s.went (x ∷ []));
}

sent_fewer : (xs : List Leaving) (made more : List Made) (ps : List Post) (x : Leaving) → Sent xs made ps → sent_by more ≡ sent_by made → Sent (xs ++ x ∷ []) more (ps ++ [])
sent_fewer xs made more ps x s e = record {
  went = s.went;
  some = some_fewer s.went xs x s.some;
  calls = e ∙ s.calls;
  posts = append-nil ps ∙ s.posts;
}

-- All outs of a step fared so.
pub record Fared (os : List Out) (xs : List Leaving) (made : List Made) (lost : ℕ) : Type 0 where
  pub fares : List Fare
  pub outs : map out_of (map way_of fares) ≡ os
  pub calls : calls_of fares ≡ map call_by xs
  pub mades : mades_of fares ≡ made
  pub losses : losses_of fares ≡ lost
  pub rightly : AllByRecursion IsRightly fares
  pub sent : Sent xs made (posts_of (map way_of fares))

fared_as : (os ps : List Out) (xs ys : List Leaving) (made more : List Made) (lost total : ℕ) → ps ≡ os → ys ≡ xs → more ≡ made → total ≡ lost → Fared os xs made lost → Fared ps ys more total
fared_as os ps xs ys made more lost total e f g h r =
    subst (λ z. Fared z ys more total) (sym e) (subst (λ z. Fared os z more total) (sym f) (subst (λ z. Fared os xs z total) (sym g) (subst (Fared os xs made) (sym h) r)))

-- one fare more
fared_more : (os : List Out) (xs ys : List Leaving) (before made : List Made) (lost total : ℕ) (fare : Fare) (r : Fared os xs before lost) → map call_by ys ≡ map call_by xs ++ calls_of (fare ∷ [])
    → made ≡ before ++ mades_of (fare ∷ []) → total ≡ lost + losses_of (fare ∷ []) → IsRightly fare
    → Sent ys made (posts_of (map way_of r.fares) ++ posts_of (way_of fare ∷ []))
    → Fared (os ++ out_of (way_of fare) ∷ []) ys made total
fared_more os xs ys before made lost total fare r calls mades losses rightly sent = record {
  fares = r.fares ++ fare ∷ [];
  outs = ap (map out_of) (map-append way_of r.fares (fare ∷ [])) ∙ map-append out_of (map way_of r.fares) (way_of fare ∷ []) ∙ ap (λ z. z ++ out_of (way_of fare) ∷ []) r.outs;
  calls = gathers calls_of refl calls_each r.fares (fare ∷ []) ∙ ap (λ z. z ++ calls_of (fare ∷ [])) r.calls ∙ sym calls;
  mades = gathers mades_of refl mades_each r.fares (fare ∷ []) ∙ ap (λ z. z ++ mades_of (fare ∷ [])) r.mades ∙ sym mades;
  losses = losses_join r.fares (fare ∷ []) ∙ ap (λ z. z + losses_of (fare ∷ [])) r.losses ∙ sym losses;
  rightly = all_join IsRightly r.fares (fare ∷ []) r.rightly (rightly, tt);
  sent = subst (Sent ys made) (sym (ap posts_of (map-append way_of r.fares (fare ∷ [])) ∙ gathers posts_of refl posts_each (map way_of r.fares) (way_of fare ∷ []))) sent;
}

fared_went : (os : List Out) (xs : List Leaving) (before : List Made) (lost : ℕ) (o : Out) (x : Leaving) → IsAlike o x → Fared os xs before lost
    → Fared (os ++ o ∷ []) (xs ++ x ∷ []) (before ++ done x.call ∷ []) lost
fared_went os xs before lost o x like r =
    fared_more os xs (xs ++ x ∷ []) before (before ++ done x.call ∷ []) lost lost (Fare.Went o x.call) r (map-append call_by xs (x ∷ [])) refl (omega arith) tt
    (sent_more xs before (posts_of (map way_of r.fares)) (posts_of (way_of (Fare.Went o x.call) ∷ [])) x r.sent like.sent (append-nil (post_by true o) ∙ like.posts))

fared_failed : (os : List Out) (xs : List Leaving) (before : List Made) (lost : ℕ) (o : Out) (x : Leaving) → Fared os xs before lost
    → Fared (os ++ o ∷ []) (xs ++ x ∷ []) (before ++ failed x.call ∷ []) (lost + 1)
fared_failed os xs before lost o x r =
    fared_more os xs (xs ++ x ∷ []) before (before ++ failed x.call ∷ []) lost (lost + 1) (Fare.Failed o x.call) r (map-append call_by xs (x ∷ [])) refl refl tt
    (sent_fewer xs before (before ++ failed x.call ∷ []) (posts_of (map way_of r.fares)) x r.sent (sent_append before (failed x.call ∷ []) ∙ append-nil (sent_by before)))

fared_untold : (os : List Out) (xs : List Leaving) (before : List Made) (lost : ℕ) (o : Out) (x : Leaving) → Fared os xs before lost
    → Fared (os ++ o ∷ []) (xs ++ x ∷ []) before (lost + 1)
fared_untold os xs before lost o x r =
    fared_more os xs (xs ++ x ∷ []) before before lost (lost + 1) (Fare.Untold o x.call) r (map-append call_by xs (x ∷ [])) (sym (append-nil before)) refl tt
    (sent_fewer xs before before (posts_of (map way_of r.fares)) x r.sent refl)

fared_stays : (os : List Out) (xs : List Leaving) (made : List Made) (lost : ℕ) (o : Out) → IsCallOf o None → Fared os xs made lost → Fared (os ++ o ∷ []) xs made lost
fared_stays os xs made lost o call r =
    fared_more os xs xs made made lost lost (Fare.Stays o) r (sym (append-nil (map call_by xs))) (sym (append-nil made)) (omega arith) call
    (subst (Sent xs made) (sym (append-nil (posts_of (map way_of r.fares)))) r.sent)

fared_none : Fared [] [] [] 0
fared_none = record { fares = []; outs = refl; calls = refl; mades = refl; losses = refl; rightly = tt; sent = record { went = []; some = tt; calls = refl; posts = refl } }

pub goes_fared : {ts : List Token} {ids : List Numbers} {os : List Out} {xs : List Leaving} {made : List Made} {lost : ℕ} → Goes os xs → Tried ts ids xs made lost → Fared os xs made lost
goes_fared goes_none none = fared_none
goes_fared goes_none (went {xs = ys} y t may e f) = absurd (no_more ys y e)
goes_fared goes_none (was_lost {xs = ys} y t may e f g) = absurd (no_more ys y e)
goes_fared (leaves {xs = xs} o x g like a b) none = absurd (no_more xs x b)
goes_fared {ts = ts} {ids = ids} (leaves {os = os} {all = all} {xs = xs} {more = more} o x g like a b) (went {xs = ys} {made = before} {more = made} {lost = lost} y t may e f) =
    let (rest, last) : (xs ≡ ys) × (x ≡ y) = same_from_push xs ys x y (sym b ∙ e) in
    let r : Fared os xs before lost = goes_fared g (subst (λ z. Tried ts ids z before lost) (sym rest) t) in
    fared_as (os ++ o ∷ []) all (xs ++ x ∷ []) more (before ++ done x.call ∷ []) made lost lost a b (f ∙ ap (λ (z : Leaving). before ++ done z.call ∷ []) (sym last)) refl
    (fared_went os xs before lost o x like r)
goes_fared {ts = ts} {ids = ids} (leaves {os = os} {all = all} {xs = xs} {more = more} o x g like a b) (was_lost {xs = ys} {made = before} {more = made} {lost = lost} {total = total} y t may e (inl f) h) =
    let (rest, last) : (xs ≡ ys) × (x ≡ y) = same_from_push xs ys x y (sym b ∙ e) in
    let r : Fared os xs before lost = goes_fared g (subst (λ z. Tried ts ids z before lost) (sym rest) t) in
    fared_as (os ++ o ∷ []) all (xs ++ x ∷ []) more (before ++ failed x.call ∷ []) made (lost + 1) total a b (f ∙ ap (λ (z : Leaving). before ++ failed z.call ∷ []) (sym last)) h
    (fared_failed os xs before lost o x r)
goes_fared {ts = ts} {ids = ids} (leaves {os = os} {all = all} {xs = xs} {more = more} o x g like a b) (was_lost {xs = ys} {made = before} {more = made} {lost = lost} {total = total} y t may e (inr f) h) =
    let (rest, last) : (xs ≡ ys) × (x ≡ y) = same_from_push xs ys x y (sym b ∙ e) in
    let r : Fared os xs before lost = goes_fared g (subst (λ z. Tried ts ids z before lost) (sym rest) t) in
    fared_as (os ++ o ∷ []) all (xs ++ x ∷ []) more before made (lost + 1) total a b f h (fared_untold os xs before lost o x r)
goes_fared (stays {os = os} {all = all} {xs = xs} o g call a) t =
    fared_as (os ++ o ∷ []) all xs xs _ _ _ _ a refl refl refl (fared_stays os xs _ _ o call (goes_fared g t))
