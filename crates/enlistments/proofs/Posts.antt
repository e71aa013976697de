-- A law of posted messages, of which each holds for good: a step has to show it of its own posts.
use Rattle.std.specs.Prelude.{ℕ, List, [], ◌∷◌, ◌++◌, Option, None, Bool, ◌+◌, ◌≡◌, refl}
use Rattle.std.specs.List.{AllByRecursion}
use Rattle.std.proofs.Common.{inl, inr, sym, subst, ap}
use Rattle.at_base.specs.declared.event.Event.{Event}
use Rattle.at_base.specs.declared.outs.Out.{Out}
use Rattle.at_base.specs.declared.outs.Out.TheVariants as outs
use Rattle.at_base.specs.declared.outs.Post.{Post}
use Rattle.at_model.specs.Book.{Book}
use Rattle.at_model.specs.Recovery.{last_incarnation}
use Rattle.at_model.specs.Step.{step}
use Rattle.at_model.specs.World.{Node, Posted, World, goes_down, lost_in, put_book, put_nth, started, up_after, with_post, Hosts, HaveOwnAddresses}
use Rattle.model_laws.specs.Agreement.{IsIn}
use Rattle.model_laws.specs.Growth.{Grows}
use Rattle.model_laws.specs.ReachedWorlds.{Reached, counts}
use Rattle.model_laws.proofs.DecisionLaws.{all_join, all_more}
use Rattle.model_laws.proofs.WorldInvariants.{Law, OutFine, holds}
use Rattle.model_laws.proofs.Growth.{grows_counts, grows_falls, grows_posts, grows_rises, grows_waits}
use Rattle.agreement.proofs.SeatedEntries.{one_of}
use Rattle.enlistments.proofs.Arrivals.{Stepping}

pub record PostLaw (hosts : Hosts) : Type 1 where
  pub Of : World → Posted → Type 0
  -- it holds for good
  pub on : (u w : World) → Grows u w → (p : Posted) → Of u p → Of w p
  -- what a step posts has it, whoever receives it
  pub new : (u : World) (n : ℕ) (x : Node) (b : Book) (e : Event) (now : ℕ) (landed : Bool) → Stepping hosts u n x b e now landed → AllByRecursion (Of u) u.posted → (p : Post)
      → IsIn (outs.Post p) (step b e now landed).outs → (r : Option ℕ) → Of (counts u n x b e now landed) (record { sender = n; receiver = r; content = p })

abbrev AllHave : (hosts : Hosts) → PostLaw hosts → World → Type 0
AllHave hosts l w = AllByRecursion (l.Of w) w.posted

abbrev IsFine : (hosts : Hosts) → PostLaw hosts → World → ℕ → Post → Type 0
IsFine hosts l w n p = (r : Option ℕ) → l.Of w (record { sender = n; receiver = r; content = p })

outs_of : (F : Post → Type 0) (os : List Out) → ((p : Post) → IsIn (outs.Post p) os → F p) → AllByRecursion (OutFine F) os
outs_of F [] h = tt
outs_of F (outs.Post p ∷ os) h = (h p (inl refl), outs_of F os (λ q i. h q (inr i)))
outs_of F (outs.Answer status reply ∷ os) h = (tt, outs_of F os (λ q i. h q (inr i)))

-- the same messages, in a world that has grown
same_posts : (hosts : Hosts) (l : PostLaw hosts) (u w : World) → Grows u w → w.posted ≡ u.posted → AllHave hosts l u → AllHave hosts l w
same_posts hosts l u w g e h = subst (AllByRecursion (l.Of w)) (sym e) (all_more (l.Of u) (l.Of w) u.posted (l.on u w g) h)

posts_law : (hosts : Hosts) → HaveOwnAddresses hosts → PostLaw hosts → Law hosts
posts_law hosts distinct l = record {
  Good = AllHave hosts l;
  Fine = λ w g n p. IsFine hosts l w n p;
  opens = tt;
  steps = λ u n x b e now landed reached found up heard h. (
    same_posts hosts l u (counts u n x b e now landed) (grows_counts u n x b e now landed found) refl h,
    outs_of (IsFine hosts l (counts u n x b e now landed) n) (step b e now landed).outs
        (λ p i r. l.new u n x b e now landed (record { distinct = distinct; reached = reached; found = found; up = up; heard = heard }) h p i r),
  );
  posts = λ w h n p f.
      all_join (l.Of (with_post n p w)) w.posted _ (all_more (l.Of w) (l.Of (with_post n p w)) w.posted (l.on w (with_post n p w) (grows_posts n (p ∷ []) w)) h)
      (l.on w (with_post n p w) (grows_posts n (p ∷ []) w) _ (f _), tt);
  still_fine = λ w g n p q f h r. l.on w (with_post n p w) (grows_posts n (p ∷ []) w) _ (h r);
  falls = λ u n x b reached found up h.
      same_posts hosts l u (goes_down n b u) (grows_falls u n x b found) (ap (λ o. (put_book n None (record u { happened = u.happened ++ lost_in n b }) o).posted) found) h;
  rises = λ u n x stop reached found down little h.
      same_posts hosts l u (record u { nodes = put_nth n (up_after (started (last_incarnation x.journal + 1) x) stop) u.nodes }) (grows_rises u n x stop found) refl h;
  waits = λ u n x clock reached found h. same_posts hosts l u (record u { nodes = put_nth n (record x { clock = clock }) u.nodes }) (grows_waits u n x clock found) refl h;
}

pub posts_have : (hosts : Hosts) → HaveOwnAddresses hosts → (l : PostLaw hosts) (w : World) → Reached hosts w → AllByRecursion (l.Of w) w.posted
unfolding posts_law
posts_have hosts distinct l w reached = holds hosts (posts_law hosts distinct l) w reached

pub one_has : (hosts : Hosts) → HaveOwnAddresses hosts → (l : PostLaw hosts) (w : World) → Reached hosts w → (p : Posted) → IsIn p w.posted → l.Of w p
one_has hosts distinct l w reached p i = one_of (l.Of w) w.posted p (posts_have hosts distinct l w reached) i
