-- One row of deeds behind another.
use Rattle.std.proofs.Common.{ℕ, List, [], ◌∷◌, ◌++◌, ◌+◌, ◌-◌, ◌≡◌, Some, refl, sym, ◌∙◌, ap, subst, take, drop, option_map, length, zero, suc, arith}
use Rattle.std.proofs.lemmas.List.{append_assoc, length-append, take-append-le, take-append-drop}
use Rattle.std.proofs.Math.Seq.{take-append-add}
use Rattle.site_model.specs.Told.{Told, Files, Made, Call, Elapses, IsPrefix, sent_by}
use Rattle.journal_at.specs.Pairs.{Holds}
use Rattle.node_at.specs.Moments.{AtMoment, Deed, Moments, landed_of, sent_of}
use Rattle.node_at.proofs.CallRows.{after_that, option_map_is, through}
use Rattle.node_at.proofs.StepMoments.{sent_append}
use Rattle.node_at.proofs.IdFacts.{and_then, weaker}

pub landed_append : (t u : List Deed) → landed_of (t ++ u) ≡ landed_of t ++ landed_of u
landed_append [] u = refl
landed_append (d ∷ t) u = ap (λ z. d.landed ++ z) (landed_append t u) ∙ sym (append_assoc d.landed (landed_of t) (landed_of u))

pub deeds_sent_append : (t u : List Deed) → sent_of (t ++ u) ≡ sent_of t ++ sent_of u
deeds_sent_append [] u = refl
deeds_sent_append (d ∷ t) u = ap (λ z. d.sent ++ z) (deeds_sent_append t u) ∙ sym (append_assoc d.sent (sent_of t) (sent_of u))

prefix_then : {A : Type 0} (xs ys zs : List A) → IsPrefix xs ys → IsPrefix ys zs → IsPrefix xs zs
prefix_then xs ys zs (r, e) (q, f) = (r ++ q, sym (append_assoc xs r q) ∙ ap (λ z. z ++ q) e ∙ f)

-- fewer deeds sent no more
fewer_sent : (s : List Call) (k : ℕ) (t : List Deed) → IsPrefix (s ++ sent_of (take k t)) (s ++ sent_of t)
fewer_sent s k t = (
  sent_of (drop k t),
  append_assoc s (sent_of (take k t)) (sent_of (drop k t))
      ∙ ap (λ z. s ++ z) (sym (deeds_sent_append (take k t) (drop k t)) ∙ ap sent_of (take-append-drop k t)),
)

module _ (live : ℕ) (bodies : List (List ℕ)) (s : List Call) (t u : List Deed) (sent : List Call) (c : Files) where
  at_early : AtMoment live bodies s t sent c → AtMoment live bodies s (t ++ u) sent c
  at_early h = record {
    k = h.k;
    within = omega (arith, h.within, length-append t u);
    image = subst (λ z. Holds live (bodies ++ landed_of z) c) (sym (take-append-le h.k t u h.within)) h.image;
    least = subst (λ z. IsPrefix (s ++ sent_of z) sent) (sym (take-append-le (h.k - 1) t u (omega (arith, h.within)))) h.least;
    most = subst (λ z. IsPrefix sent (s ++ sent_of z)) (sym (take-append-le h.k t u h.within)) h.most;
  }

  -- those of both
  both_sent : (k : ℕ) → (s ++ sent_of t) ++ sent_of (take k u) ≡ s ++ sent_of (take (length t + k) (t ++ u))
  both_sent k =
      append_assoc s (sent_of t) (sent_of (take k u))
      ∙ ap (λ z. s ++ z) (sym (deeds_sent_append t (take k u)) ∙ ap sent_of (sym (take-append-add t u k)))

  both_landed : (k : ℕ) → (bodies ++ landed_of t) ++ landed_of (take k u) ≡ bodies ++ landed_of (take (length t + k) (t ++ u))
  both_landed k =
      append_assoc bodies (landed_of t) (landed_of (take k u))
      ∙ ap (λ z. bodies ++ z) (sym (landed_append t (take k u)) ∙ ap landed_of (sym (take-append-add t u k)))

  least_late : (k : ℕ) → IsPrefix ((s ++ sent_of t) ++ sent_of (take (k - 1) u)) sent → IsPrefix (s ++ sent_of (take (length t + k - 1) (t ++ u))) sent
  least_late zero h =
      let e : length t + 0 - 1 ≡ length t - 1 = omega arith in
      let f : take (length t + 0 - 1) (t ++ u) ≡ take (length t - 1) t = ap (λ i. take i (t ++ u)) e ∙ take-append-le (length t - 1) t u (omega arith) in
      subst (λ z. IsPrefix (s ++ sent_of z) sent) (sym f)
      (prefix_then _ _ _ (fewer_sent s (length t - 1) t) (prefix_then _ _ _ (sent_of (take 0 u), refl) h))
  least_late (suc k) h =
      let e : length t + suc k - 1 ≡ length t + k = omega arith in
      let f : suc k - 1 ≡ k = omega arith in
      subst (λ i. IsPrefix (s ++ sent_of (take i (t ++ u))) sent) (sym e)
      (subst (λ z. IsPrefix z sent) (both_sent k) (subst (λ i. IsPrefix ((s ++ sent_of t) ++ sent_of (take i u)) sent) f h))

  at_late : AtMoment live (bodies ++ landed_of t) (s ++ sent_of t) u sent c → AtMoment live bodies s (t ++ u) sent c
  at_late h = record {
    k = length t + h.k;
    within = omega (arith, h.within, length-append t u);
    image = subst (λ z. Holds live z c) (both_landed h.k) h.image;
    least = least_late h.k h.least;
    most = subst (λ z. IsPrefix sent z) (both_sent h.k) h.most;
  }

-- at each moment of both
pub moments_then : (old mid new : Told) (live : ℕ) (bodies : List (List ℕ)) (t u : List Deed) (first more : List Made)
    → mid.calls ≡ option_map (λ z. z ++ first) old.calls → new.calls ≡ option_map (λ z. z ++ more) mid.calls → sent_by first ≡ sent_of t
    → Moments live bodies t old mid → Moments live (bodies ++ landed_of t) u mid new → Moments live bodies (t ++ u) old new
moments_then old mid new live bodies t u first more e k sent h g =
    and_then old mid new _
    (weaker old mid _ _ h (λ l c p. (
      through old mid new more l k p.0,
      (p.1.0, p.1.1, at_early live bodies (sent_by p.1.0) t u (sent_by l) c p.1.2),
    )))
    (weaker mid new _ _ g (λ l c p. (
      after_that old mid new first l e p.0,
      late l c p.1.0 p.1.1 p.1.2,
    )))
  where
    late : (l : List Made) (c : Files) (behind : List Made) → mid.calls ≡ Some behind → AtMoment live (bodies ++ landed_of t) (sent_by behind) u (sent_by l) c
        → (before : List Made) × (old.calls ≡ Some before) × AtMoment live bodies (sent_by before) (t ++ u) (sent_by l) c
    late l c behind was m =
        let (before, then, is) = option_map_is (λ z. z ++ first) old.calls behind (sym e ∙ was) in (
          before,
          then,
          at_late live bodies (sent_by before) t u (sent_by l) c
              (subst (λ z. AtMoment live (bodies ++ landed_of t) z u (sent_by l) c) (ap sent_by is ∙ sent_append before first ∙ ap (λ z. sent_by before ++ z) sent) m),
        )

-- nothing happened
pub moments_none : (live : ℕ) (bodies : List (List ℕ)) (t : List Deed) (old new : Told) → Elapses old new (λ l c. ⊥) → Moments live bodies t old new
moments_none live bodies t old new h = weaker old new _ _ h (λ l c p. absurd p)
