-- The outs of the model with the calls by which they leave, where the model's answer may be another than the node's.
use Rattle.std.specs.Prelude.{ℕ, List, [], ◌∷◌, ◌++◌, ◌≡◌, ◌≤◌, Option, None, Some, Bool, true, false, length, refl}
use Rattle.std.proofs.Common.{sym, subst, ap, arith, ◌∙◌}
use Rattle.std.proofs.lemmas.List.{length-append}
use Rattle.addressing.specs.declared.post_to.PostTo.{PostTo}
use Rattle.at_base.specs.declared.outs.Out.{Out}
use Rattle.at_base.specs.declared.outs.Out.TheVariants as outs
use Rattle.fated_walks.specs.Fated.{post_by}
use Rattle.http_post.specs.OutBytes.{has_reason}
use Rattle.node_at.specs.Texts.{AreLeaving, IsAnswerOf, IsCallOf, IsPostOf, Leaving, goes_to}
use Rattle.node_at.specs.Texts.AreLeaving.{leaves as it_leaves, none as none_leaves, stays as it_stays}
use Rattle.node_at.specs.TurnText.{answered}
use Rattle.node_worlds.specs.SentPosts.{also}
use Rattle.site_model.specs.Told.{Call, done, sent_by}

-- It leaves by that call: both are the same post, or both are answers.
pub record IsAlike (o : Out) (x : Leaving) : Type 0 where
  pub posts : post_by true o ≡ also x.out []
  pub sent : sent_by (done x.call ∷ []) ≡ x.call ∷ []

pub data Goes : List Out → List Leaving → Type 0 where
  goes_none : Goes [] []
  leaves : {os all : List Out} {xs more : List Leaving} (o : Out) (x : Leaving) → Goes os xs → IsAlike o x → all ≡ os ++ o ∷ [] → more ≡ xs ++ x ∷ [] → Goes all more
  stays : {os all : List Out} {xs : List Leaving} (o : Out) → Goes os xs → IsCallOf o None → all ≡ os ++ o ∷ [] → Goes all xs

-- an out that has a call
same_posts : (o : Out) → post_by true o ≡ also o []
same_posts (outs.Post p) = refl
same_posts (outs.Answer status reply) = refl

call_sent : (o : Out) (call : Call) → IsCallOf o (Some call) → sent_by (done call ∷ []) ≡ call ∷ []
call_sent (outs.Answer status reply) call is = by_reason (has_reason status) is
  where
    by_reason : (b : Bool) → IsAnswerOf b status reply (Some call) → sent_by (done call ∷ []) ≡ call ∷ []
    by_reason false is = absurd is
    by_reason true is = subst (λ c. sent_by (done c ∷ []) ≡ c ∷ []) (sym is.is) refl
call_sent (outs.Post post) call is = by_place (goes_to post.to) is
  where
    by_place : (to : Option PostTo) → IsPostOf to post (Some call) → sent_by (done call ∷ []) ≡ call ∷ []
    by_place None is = absurd is
    by_place (Some to) is = subst (λ c. sent_by (done c ∷ []) ≡ c ∷ []) (sym is.is) refl

pub leaving_goes : {os : List Out} {xs : List Leaving} → AreLeaving os xs → Goes os xs
leaving_goes none_leaves = goes_none
leaving_goes (it_leaves x h call a b) = leaves x.out x (leaving_goes h) (record { posts = same_posts x.out; sent = call_sent x.out x.call call }) a b
leaving_goes (it_stays o h call a) = stays o (leaving_goes h) call a

-- an answer of the model with the call of the node's
pub answer_goes : (told status : ℕ) (text : Option (List ℕ)) → Goes (outs.Answer told None ∷ []) (answered status text ∷ [])
answer_goes told status text = leaves (outs.Answer told None) (answered status text) goes_none (record { posts = refl; sent = refl }) refl refl

-- each out leaves
abbrev pub AllAlike : List Out → List Leaving → Type 0
AllAlike [] [] = Unit {0}
AllAlike [] (x ∷ xs) = ⊥
AllAlike (o ∷ os) [] = ⊥
AllAlike (o ∷ os) (x ∷ xs) = IsAlike o x × AllAlike os xs

alike_more : (os : List Out) (xs : List Leaving) (o : Out) (x : Leaving) → AllAlike os xs → IsAlike o x → AllAlike (os ++ o ∷ []) (xs ++ x ∷ [])
alike_more [] [] o x h k = (k, tt)
alike_more [] (y ∷ xs) o x h k = absurd h
alike_more (p ∷ os) [] o x h k = absurd h
alike_more (p ∷ os) (y ∷ xs) o x (h, more) k = (h, alike_more os xs o x more k)

-- no fewer outs than calls; and where there are as many, each has its call
pub fewer_leave : {os : List Out} {xs : List Leaving} → Goes os xs → length xs ≤ length os
fewer_leave goes_none = omega arith
fewer_leave (leaves {os = os} {xs = xs} o x g like a b) =
    let h = fewer_leave g in
    let k = ap length a ∙ length-append os (o ∷ []) in
    let l = ap length b ∙ length-append xs (x ∷ []) in
    omega (arith, h, k, l)
fewer_leave (stays {os = os} o g call a) =
    let h = fewer_leave g in
    let k = ap length a ∙ length-append os (o ∷ []) in
    omega (arith, h, k)

pub all_leave : {os : List Out} {xs : List Leaving} → Goes os xs → length os ≡ length xs → AllAlike os xs
all_leave goes_none e = tt
all_leave (leaves {os = os} {all = all} {xs = xs} {more = more} o x g like a b) e =
    let k = ap length a ∙ length-append os (o ∷ []) in
    let l = ap length b ∙ length-append xs (x ∷ []) in
    let same : length os ≡ length xs = omega (arith, e, k, l) in
    subst (λ z. AllAlike z more) (sym a) (subst (AllAlike (os ++ o ∷ [])) (sym b) (alike_more os xs o x (all_leave g same) like))
all_leave (stays {os = os} {xs = xs} o g call a) e =
    let h = fewer_leave g in
    let k = ap length a ∙ length-append os (o ∷ []) in
    absurd (omega (arith, e, h, k))
