-- A step all of whose outs left, cut off at one of them.
use Rattle.std.specs.Prelude.{ℕ, List, [], ◌∷◌, ◌++◌, ◌+◌, ◌≡◌, ◌<◌, Bool, true, false, length, map, replicate, take, zero, suc, refl}
use Rattle.std.specs.List.{AllByRecursion}
use Rattle.std.proofs.Common.{inl, sym, subst, ap, arith, ◌∙◌}
use Rattle.std.proofs.lemmas.List.{append-nil, append_assoc, length-map, replicate-append-replicate}
use Rattle.at_base.specs.declared.outs.Out.{Out}
use Rattle.at_base.specs.declared.outs.Post.{Post}
use Rattle.fated_walks.specs.Fated.{Fated, HasLeft, IsWhole, Way, out_of, post_by, posts_of, went_of}
use Rattle.node_at.specs.Doings.{Doing}
use Rattle.node_at.specs.Texts.{Leaving, call_by}
use Rattle.node_at.specs.TurnText.{TurnStep}
use Rattle.node_events.specs.Fares.{Fare, IsFared, calls_of, mades_of, way_of}
use Rattle.node_events.specs.NodeEvents.{one_if, struck}
use Rattle.node_events.proofs.LeavingOuts.{AllAlike, Goes, IsAlike, all_leave}
use Rattle.node_events.proofs.PlannedSteps.{ComesTo}
use Rattle.node_events.proofs.StepFares.{also_first}
use Rattle.node_worlds.specs.SentPosts.{Sent}
use Rattle.node_worlds.specs.SentPosts.{posts_of as posts_among}
use Rattle.node_worlds.proofs.TurnLeads.{same_first, same_rest}
use Rattle.site_model.specs.Told.{Made, done, sent_if}

-- an out that left, by its call
pub record IsGone (x : Leaving) (v : Way) (m : Made) : Type 0 where
  pub went : v.went ≡ true
  pub like : IsAlike v.out x
  pub made : m ≡ done x.call

abbrev pub AreGone : List Leaving → List Way → List Made → Type 0
AreGone [] [] [] = Unit {0}
AreGone (x ∷ xs) (v ∷ vs) (m ∷ ms) = IsGone x v m × AreGone xs vs ms
AreGone xs vs ms = ⊥

fares_gone : (xs : List Leaving) (fs : List Fare) → AllAlike (map out_of (map way_of fs)) xs → AllByRecursion HasLeft (map way_of fs) → calls_of fs ≡ map call_by xs → AreGone xs (map way_of fs) (mades_of fs)
fares_gone [] [] like left e = tt
fares_gone (x ∷ xs) [] like left e = absurd like
fares_gone [] (f ∷ fs) like left e = absurd like
fares_gone (x ∷ xs) (Fare.Went out call ∷ fs) (like, more) (left, others) e =
    (record { went = refl; like = like; made = ap done (same_first call x.call (calls_of fs) (map call_by xs) e) }, fares_gone xs fs more others (same_rest call x.call (calls_of fs) (map call_by xs) e))
fares_gone (x ∷ xs) (Fare.Failed out call ∷ fs) like (left, others) e = absurd cc
fares_gone (x ∷ xs) (Fare.Untold out call ∷ fs) like (left, others) e = absurd cc
fares_gone (x ∷ xs) (Fare.Stays out ∷ fs) like (left, others) e = absurd cc

calls_length : (fs : List Fare) → AllByRecursion HasLeft (map way_of fs) → length (map out_of (map way_of fs)) ≡ length (calls_of fs)
calls_length [] left = refl
calls_length (Fare.Went out call ∷ fs) (left, others) = ap suc (calls_length fs others)
calls_length (Fare.Failed out call ∷ fs) (left, others) = absurd cc
calls_length (Fare.Untold out call ∷ fs) (left, others) = absurd cc
calls_length (Fare.Stays out ∷ fs) (left, others) = absurd cc

pub step_gone : (s : TurnStep) (d : Doing) (f : Fated) → ComesTo f.outcome s → IsFared s d f → AllByRecursion HasLeft f.ways → AreGone s.leaving f.ways d.made
step_gone s d f comes h left =
    subst (AreGone s.leaving f.ways) h.made
    (subst (λ z. AreGone s.leaving z (mades_of h.fares)) (sym h.ways)
    (fares_gone s.leaving h.fares (all_leave goes (calls_length h.fares all ∙ ap length h.calls ∙ length-map s.leaving call_by)) all h.calls))
  where
    all : AllByRecursion HasLeft (map way_of h.fares)
    all = subst (AllByRecursion HasLeft) h.ways left

    goes : Goes (map out_of (map way_of h.fares)) s.leaving
    goes = subst (λ z. Goes z s.leaving) (sym h.whole ∙ ap (map out_of) h.ways) comes.leaves

pub gone_length : (xs : List Leaving) (vs : List Way) (ms : List Made) → AreGone xs vs ms → length ms ≡ length vs
gone_length [] [] [] h = refl
gone_length (x ∷ xs) (v ∷ vs) (m ∷ ms) (h, more) = ap suc (gone_length xs vs ms more)
gone_length [] (v ∷ vs) ms h = absurd h
gone_length [] [] (m ∷ ms) h = absurd h
gone_length (x ∷ xs) [] ms h = absurd h
gone_length (x ∷ xs) (v ∷ vs) [] h = absurd h

pub gone_fates : (xs : List Leaving) (vs : List Way) (ms : List Made) → AreGone xs vs ms → map went_of vs ≡ replicate (length vs) true
gone_fates [] [] [] h = refl
gone_fates (x ∷ xs) (v ∷ vs) (m ∷ ms) (h, more) = λ j. h.went j ∷ gone_fates xs vs ms more j
gone_fates [] (v ∷ vs) ms h = absurd h
gone_fates [] [] (m ∷ ms) h = absurd h
gone_fates (x ∷ xs) [] ms h = absurd h
gone_fates (x ∷ xs) (v ∷ vs) [] h = absurd h

-- what was sent
pub sent_none : (xs : List Leaving) → Sent xs [] []
sent_none xs = record { went = []; some = tt; calls = refl; posts = refl }

sent_first : (x : Leaving) (v : Way) (m : Made) (xs : List Leaving) (ms : List Made) (ps : List Post) → IsGone x v m → Sent xs ms ps → Sent (x ∷ xs) (m ∷ ms) (post_by v.went v.out ++ ps)
sent_first x v m xs ms ps h s = record {
  went = x ∷ s.went;
  some = inl (refl, s.some);
  calls = (λ j. sent_if (h.made j).done (h.made j).call ++ s.calls j) ∙ ap (λ z. z ++ map call_by s.went) (sym (append-nil (sent_if true x.call)) ∙ h.like.sent);
  posts = (λ j. post_by (h.went j) v.out ++ s.posts j) ∙ ap (λ z. z ++ posts_among s.went) h.like.posts ∙ sym (also_first x.out (posts_among s.went));
}

pub gone_sent : (xs : List Leaving) (vs : List Way) (ms : List Made) → AreGone xs vs ms → Sent xs ms (posts_of vs)
gone_sent [] [] [] h = sent_none []
gone_sent (x ∷ xs) (v ∷ vs) (m ∷ ms) (h, more) = sent_first x v m xs ms (posts_of vs) h (gone_sent xs vs ms more)
gone_sent [] (v ∷ vs) ms h = absurd h
gone_sent [] [] (m ∷ ms) h = absurd h
gone_sent (x ∷ xs) [] ms h = absurd h
gone_sent (x ∷ xs) (v ∷ vs) [] h = absurd h

-- the first of them, and then one that fares so
abbrev pub cut_ways : ℕ → Bool → List Way → List Way
cut_ways k last [] = []
cut_ways zero last (v ∷ vs) = record { out = v.out; went = last } ∷ []
cut_ways (suc k) last (v ∷ vs) = v ∷ cut_ways k last vs

pub record OneStruck (s : TurnStep) (d : Doing) (f : Fated) (k : ℕ) (last : Bool) : Type 0 where
  pub ways : List Way
  pub fates : map went_of ways ≡ struck k last
  pub rest : List Out
  pub outs : map out_of ways ++ rest ≡ f.outcome.outs
  pub sent : Sent s.leaving (take (k + one_if last) d.made) (posts_of ways)

cut_fates : (k : ℕ) (last : Bool) (xs : List Leaving) (vs : List Way) (ms : List Made) → AreGone xs vs ms → k < length vs → map went_of (cut_ways k last vs) ≡ struck k last
cut_fates k last xs [] ms h less = absurd (omega (arith, less))
cut_fates zero last xs (v ∷ vs) ms h less = refl
cut_fates (suc k) last (x ∷ xs) (v ∷ vs) (m ∷ ms) (h, more) less = λ j. h.went j ∷ cut_fates k last xs vs ms more (omega (arith, less)) j
cut_fates (suc k) last [] (v ∷ vs) ms h less = absurd h
cut_fates (suc k) last (x ∷ xs) (v ∷ vs) [] h less = absurd h

cut_outs : (k : ℕ) (last : Bool) (vs : List Way) → (rest : List Out) × (map out_of (cut_ways k last vs) ++ rest ≡ map out_of vs)
cut_outs k last [] = ([], refl)
cut_outs zero last (v ∷ vs) = (map out_of vs, refl)
cut_outs (suc k) last (v ∷ vs) = let (rest, e) = cut_outs k last vs in (rest, ap (λ z. v.out ∷ z) e)

next : (k e : ℕ) → suc k + e ≡ suc (k + e)
next k e = omega arith

cut_sent : (k : ℕ) (last : Bool) (xs : List Leaving) (vs : List Way) (ms : List Made) → AreGone xs vs ms → k < length vs → Sent xs (take (k + one_if last) ms) (posts_of (cut_ways k last vs))
cut_sent k last xs [] ms h less = absurd (omega (arith, less))
cut_sent zero true (x ∷ xs) (v ∷ vs) (m ∷ ms) (h, more) less = sent_first x (record { out = v.out; went = true }) m xs [] [] (record { went = refl; like = h.like; made = h.made }) (sent_none xs)
cut_sent zero false (x ∷ xs) (v ∷ vs) (m ∷ ms) (h, more) less = sent_none (x ∷ xs)
cut_sent (suc k) last (x ∷ xs) (v ∷ vs) (m ∷ ms) (h, more) less =
    subst (λ n. Sent (x ∷ xs) (take n (m ∷ ms)) (posts_of (v ∷ cut_ways k last vs))) (sym (next k (one_if last)))
    (sent_first x v m xs (take (k + one_if last) ms) (posts_of (cut_ways k last vs)) h (cut_sent k last xs vs ms more (omega (arith, less))))
cut_sent k last [] (v ∷ vs) ms h less = absurd h
cut_sent k last (x ∷ xs) (v ∷ vs) [] h less = absurd h

pub one_struck : (s : TurnStep) (d : Doing) (f : Fated) (k : ℕ) (last : Bool) → AreGone s.leaving f.ways d.made → IsWhole f → k < length f.ways → OneStruck s d f k last
one_struck s d f k last h whole less =
    let (rest, outs) = cut_outs k last f.ways in
    record {
      ways = cut_ways k last f.ways;
      fates = cut_fates k last s.leaving f.ways d.made h less;
      rest = rest;
      outs = outs ∙ whole;
      sent = cut_sent k last s.leaving f.ways d.made h less;
    }

-- the fates up to a stop
pub struck_some : (k : ℕ) (last : Bool) → struck k last ≡ [] → ⊥
struck_some zero last e = absurd cc
struck_some (suc k) last e = absurd cc

pub struck_past : (n k : ℕ) (last : Bool) → replicate n true ++ struck k last ≡ struck (n + k) last
struck_past n k last = sym (append_assoc (replicate n true) (replicate k true) (last ∷ [])) ∙ ap (λ z. z ++ last ∷ []) (replicate-append-replicate n k true)
