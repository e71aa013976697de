-- A step whose outs all left, up to one of them.
use Rattle.std.specs.Prelude.{ℕ, List, [], ◌∷◌, ◌++◌, ◌+◌, ◌<◌, ◌≡◌, Bool, true, false, length, map, take, zero, suc, refl}
use Rattle.std.specs.List.{AllByRecursion}
use Rattle.std.proofs.Common.{inl, sym, ap, arith, ◌∙◌}
use Rattle.std.proofs.lemmas.List.{append-nil}
use Rattle.at_base.specs.declared.outs.Out.{Out}
use Rattle.at_base.specs.declared.outs.Out.TheVariants as outs
use Rattle.at_base.specs.declared.outs.Post.{Post}
use Rattle.fated_walks.specs.Fated.{HasLeft, StartsWith, Way, out_of, post_by, posts_of, went_of}
use Rattle.node_at.specs.Texts.{Leaving, call_by}
use Rattle.node_worlds.specs.SentPosts.{AreSome, Sent, also}
use Rattle.node_worlds.specs.SentPosts.{posts_of as posts_among}
use Rattle.site_model.specs.Told.{Made, done, sent_by, sent_if}
use Rattle.node_events.specs.Fares.{Fare, calls_of, mades_of, way_of}
use Rattle.node_events.specs.NodeEvents.{one_if, struck}
use Rattle.node_events.proofs.LeavingOuts.{AllAlike}

-- so many outs left, and then one that left or not
abbrev pub cut_at : List Way → ℕ → Bool → List Way
cut_at [] k last = []
cut_at (w ∷ ws) zero last = record { out = w.out; went = last } ∷ []
cut_at (w ∷ ws) (suc k) last = w ∷ cut_at ws k last

pub cut_fates : (k : ℕ) (last : Bool) (ws : List Way) → AllByRecursion HasLeft ws → k < length ws → map went_of (cut_at ws k last) ≡ struck k last
cut_fates k last [] h less = absurd (omega (arith, less))
cut_fates zero last (w ∷ ws) h less = refl
cut_fates (suc k) last (w ∷ ws) (left, h) less = λ j. left j ∷ cut_fates k last ws h (omega (arith, less)) j

pub cut_front : (k : ℕ) (last : Bool) (ws : List Way) → (rest : List Out) × (map out_of (cut_at ws k last) ++ rest ≡ map out_of ws)
cut_front k last [] = ([], refl)
cut_front zero last (w ∷ ws) = (map out_of ws, refl)
cut_front (suc k) last (w ∷ ws) = let (rest, e) = cut_front k last ws in (rest, ap (λ z. w.out ∷ z) e)

also_first : (o : Out) (ps : List Post) → also o ps ≡ also o [] ++ ps
also_first (outs.Post p) ps = refl
also_first (outs.Answer status reply) ps = refl

-- what was posted of it
none_posted : (m : ℕ) → [] ≡ posts_among (take m [])
none_posted zero = refl
none_posted (suc m) = refl

cut_posts : (k m : ℕ) (last : Bool) (ws : List Way) (xs : List Leaving) → AllAlike (map out_of ws) xs → AllByRecursion HasLeft ws → m ≡ k + one_if last → posts_of (cut_at ws k last) ≡ posts_among (take m xs)
cut_posts k m last [] [] like h e = none_posted m
cut_posts k m last [] (x ∷ xs) like h e = absurd like
cut_posts k m last (w ∷ ws) [] like h e = absurd like
cut_posts zero m true (w ∷ ws) (x ∷ xs) (like, more) h e = append-nil (post_by true w.out) ∙ like.posts ∙ ap (λ z. posts_among (take z (x ∷ xs))) (sym e)
cut_posts zero m false (w ∷ ws) (x ∷ xs) (like, more) h e = ap (λ z. posts_among (take z (x ∷ xs))) (sym e)
cut_posts (suc k) zero last (w ∷ ws) (x ∷ xs) (like, more) h e = absurd (omega (arith, e))
cut_posts (suc k) (suc m) last (w ∷ ws) (x ∷ xs) (like, more) (left, h) e =
    (λ j. post_by (left j) w.out ++ cut_posts k m last ws xs more h (omega (arith, e)) j) ∙ ap (λ z. z ++ posts_among (take m xs)) like.posts ∙ sym (also_first x.out (posts_among (take m xs)))

-- what was sent of it
some_front : (m : ℕ) (xs : List Leaving) → AreSome (take m xs) xs
some_front zero xs = tt
some_front (suc m) [] = tt
some_front (suc m) (x ∷ xs) = inl (refl, some_front m xs)

sent_front : (m : ℕ) (os : List Out) (xs : List Leaving) → AllAlike os xs → sent_by (take m (map done (map call_by xs))) ≡ map call_by (take m xs)
sent_front zero os xs like = refl
sent_front (suc m) [] [] like = refl
sent_front (suc m) [] (x ∷ xs) like = absurd like
sent_front (suc m) (o ∷ os) [] like = absurd like
sent_front (suc m) (o ∷ os) (x ∷ xs) (like, more) = λ j. (sym (append-nil (sent_if true x.call)) ∙ like.sent) j ++ sent_front m os xs more j

pub cut_sent : (k m : ℕ) (last : Bool) (ws : List Way) (xs : List Leaving) (made : List Made) → AllAlike (map out_of ws) xs → AllByRecursion HasLeft ws → made ≡ map done (map call_by xs) → m ≡ k + one_if last
    → Sent xs (take m made) (posts_of (cut_at ws k last))
cut_sent k m last ws xs made like h is e = record {
  went = take m xs;
  some = some_front m xs;
  calls = ap (λ z. sent_by (take m z)) is ∙ sent_front m (map out_of ws) xs like;
  posts = cut_posts k m last ws xs like h e;
}

-- where all outs left, all calls were done
pub all_made : (fs : List Fare) → AllByRecursion HasLeft (map way_of fs) → (mades_of fs ≡ map done (calls_of fs)) × (length (calls_of fs) ≡ length fs)
all_made [] h = (refl, refl)
all_made (Fare.Went out call ∷ fs) (left, h) = let (e, f) = all_made fs h in (ap (λ z. done call ∷ z) e, ap suc f)
all_made (Fare.Failed out call ∷ fs) (left, h) = absurd cc
all_made (Fare.Untold out call ∷ fs) (left, h) = absurd cc
all_made (Fare.Stays out ∷ fs) (left, h) = absurd cc

-- the fates of a stop
pub starts_itself : (fates : List Bool) → StartsWith fates fates
starts_itself [] = tt
starts_itself (f ∷ fs) = (refl, starts_itself fs)

pub struck_length : (before : ℕ) (last : Bool) → length (struck before last) ≡ before + 1
struck_length zero last = refl
struck_length (suc k) last = ap suc (struck_length k last) ∙ omega arith

pub struck_some : (before : ℕ) (last : Bool) → struck before last ≡ [] → ⊥
struck_some before last e = let h = ap length e in let k = struck_length before last in omega (arith, h, k)
