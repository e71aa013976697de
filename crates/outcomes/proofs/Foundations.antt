-- In every reached world each outcome is founded, and what an initiator is told of it is true.
use Rattle.std.specs.Prelude.{ℕ, List, [], ◌∷◌, ◌++◌, Some, None, ◌+◌, map, filter, ◌≡◌, refl}
use Rattle.std.specs.List.{AllByRecursion}
use Rattle.std.proofs.Common.{sym, subst, ap}
use Rattle.at_base.specs.declared.notice.Notice.{Notice}
use Rattle.at_base.specs.declared.notice.Notice.TheVariants as notices
use Rattle.at_base.specs.declared.outs.Effect.{Effect}
use Rattle.at_base.specs.declared.outs.Ending.{Ending}
use Rattle.at_base.specs.declared.outs.Ending.TheVariants as endings
use Rattle.at_base.specs.declared.outs.Post.{Post}
use Rattle.at_model.specs.Book.{Book, Leaf, Transaction}
use Rattle.at_model.specs.Recovery.{last_incarnation}
use Rattle.at_model.specs.Step.{step}
use Rattle.at_model.specs.World.{Happened, Node, World, goes_down, happened_at, is_lost_leaf, is_lost_root, is_lost_subordinate, leaf_lost, lost_in, nth, put_book, put_nth, started, transaction_lost, up_after, Hosts, HaveOwnAddresses}
use Rattle.model_laws.specs.Growth.{Grows}
use Rattle.model_laws.specs.ReachedWorlds.{Reached, counts, fell, opened, post_all, rose, stepped, waited}
use Rattle.model_laws.proofs.DecisionLaws.{all_join, all_more}
use Rattle.model_laws.proofs.Growth.{grows_counts, grows_falls, grows_posts, grows_rises, grows_waits}
use Rattle.enlistments.proofs.Posts.{PostLaw, posts_have}
use Rattle.votes.proofs.Premises.{StepPremises}
use Rattle.outcomes.specs.Foundations.{AreFounded, IsFounded, SaysOutcome, SaysWhatRootDid}
use Rattle.outcomes.proofs.EffectFoundations.{founded_on, leaf_lost_founded, lost_founded, outcome_on, step_founded}
use Rattle.outcomes.proofs.Layers.{Layers, step_premises}
use Rattle.outcomes.proofs.InitiatorNotices.{DoneCommits, aborted_heard, committed_heard}

-- a completion seat in Done is that of a root that commits
abbrev pub AllDoneCommit : Type 0
AllDoneCommit = (hosts : Hosts) (w : World) → Reached hosts w → (n : ℕ) (x : Node) (b : Book) → nth n w.nodes ≡ Some x → x.book ≡ Some b → DoneCommits b

-- what initiators are told
says_on : (hosts : Hosts) (u w : World) → Grows u w → (v : Notice) (what : Ending) (p : Post) → SaysOutcome hosts u v what p → SaysOutcome hosts w v what p
says_on hosts u w g v what p h to m i says sent leads = outcome_on u w g (record { node = m; id = i }) what (h to m i says sent leads)

telling : (l : Layers) → AllDoneCommit → (hosts : Hosts) → PostLaw hosts
telling l done hosts = record {
  Of = λ w p. SaysWhatRootDid hosts w p.content;
  on = λ u w g p h. (says_on hosts u w g notices.Committed endings.Committed p.content h.0, says_on hosts u w g notices.Aborted endings.Aborted p.content h.1);
  new = λ u n x b e now landed s before p i r.
      let q : StepPremises hosts u n x b e = step_premises l hosts u n x b e s.distinct s.reached s.found s.up s.heard in (
        (λ to m k says. committed_heard hosts u n x b e now landed q (done hosts u s.reached n x b s.found s.up) p (l.tells.told b e now landed q.ready p notices.Committed i says) to m k says),
        (λ to m k says. aborted_heard hosts u n x b e now landed q p (l.tells.told b e now landed q.ready p notices.Aborted i says) to m k says),
      );
}

pub all_told : (l : Layers) → AllDoneCommit → (hosts : Hosts) (w : World) → HaveOwnAddresses hosts → Reached hosts w → AllByRecursion (λ p. SaysWhatRootDid hosts w p.content) w.posted
unfolding telling
all_told l done hosts w distinct reached = posts_have hosts distinct (telling l done hosts) w reached

-- effects
abbrev Founded : World → Happened → Type 0
Founded w h = IsFounded w h.node h.what

all_on : (u w : World) → Grows u w → (hs : List Happened) → AllByRecursion (Founded u) hs → AllByRecursion (Founded w) hs
all_on u w g hs h = all_more (Founded u) (Founded w) hs (λ f k. founded_on u w g f.node f.what k) h

at_node : (w : World) (n : ℕ) (es : List Effect) → AllByRecursion (IsFounded w n) es → AllByRecursion (Founded w) (map (happened_at n) es)
at_node w n [] h = tt
at_node w n (f ∷ es) (h, k) = (h, at_node w n es k)

of_transactions : (w : World) (n : ℕ) (ts : List Transaction) → AllByRecursion (Founded w) (map (transaction_lost n) ts)
of_transactions w n [] = tt
of_transactions w n (t ∷ ts) = (lost_founded w n t.superior t.id, of_transactions w n ts)

of_leaves : (w : World) (n : ℕ) (ls : List Leaf) → AllByRecursion (Founded w) (map (leaf_lost n) ls)
of_leaves w n [] = tt
of_leaves w n (l ∷ ls) = (leaf_lost_founded w n l.id l.kind, of_leaves w n ls)

of_lost : (w : World) (n : ℕ) (b : Book) → AllByRecursion (Founded w) (lost_in n b)
of_lost w n b =
    all_join (Founded w) (map (transaction_lost n) (filter is_lost_root b.transactions)) _ (of_transactions w n (filter is_lost_root b.transactions))
    (all_join (Founded w) (map (transaction_lost n) (filter is_lost_subordinate b.transactions)) _ (of_transactions w n (filter is_lost_subordinate b.transactions))
    (of_leaves w n (filter is_lost_leaf b.leaves)))

posted_happened : (n : ℕ) (ps : List Post) (w : World) → (post_all n ps w).happened ≡ w.happened
posted_happened n [] w = refl
posted_happened n (p ∷ ps) w = posted_happened n ps _

pub all_founded : (l : Layers) → AllDoneCommit → (hosts : Hosts) (w : World) → HaveOwnAddresses hosts → Reached hosts w → AreFounded w
all_founded l done hosts w distinct (opened is) = subst AreFounded (sym is) tt
all_founded l done hosts w distinct (stepped u n x b e now landed ps reached found up heard those is) =
    subst AreFounded (sym is)
    (subst (AllByRecursion (Founded after)) (sym (posted_happened n ps (counts u n x b e now landed)))
    (all_on (counts u n x b e now landed) after (grows_posts n ps (counts u n x b e now landed)) (u.happened ++ map (happened_at n) (step b e now landed).effects)
    (all_join (Founded (counts u n x b e now landed)) u.happened _
    (all_on u (counts u n x b e now landed) (grows_counts u n x b e now landed found) u.happened (all_founded l done hosts u distinct reached))
    (at_node (counts u n x b e now landed) n (step b e now landed).effects
    (step_founded hosts u n x b e now landed premises (l.backed.reached hosts u distinct reached) (all_told l done hosts u distinct reached) (l.moves.moved b e now landed premises.ready))))))
  where
    after : World
    after = post_all n ps (counts u n x b e now landed)

    premises : StepPremises hosts u n x b e
    premises = step_premises l hosts u n x b e distinct reached found up heard
all_founded l done hosts w distinct (fell u n x b reached found up is) =
    let g : Grows u (goes_down n b u) = grows_falls u n x b found in
    subst AreFounded (sym is)
    (subst (AllByRecursion (Founded (goes_down n b u))) (sym (ap (λ (v : World). v.happened) (ap (put_book n None (record u { happened = u.happened ++ lost_in n b })) found)))
    (all_join (Founded (goes_down n b u)) u.happened _ (all_on u (goes_down n b u) g u.happened (all_founded l done hosts u distinct reached)) (of_lost (goes_down n b u) n b)))
all_founded l done hosts w distinct (rose u n x stop reached found down least is) =
    subst AreFounded (sym is)
    (all_on u (record u { nodes = put_nth n (up_after (started (last_incarnation x.journal + 1) x) stop) u.nodes }) (grows_rises u n x stop found) u.happened (all_founded l done hosts u distinct reached))
all_founded l done hosts w distinct (waited u n x clock reached found is) =
    subst AreFounded (sym is)
    (all_on u (record u { nodes = put_nth n (record x { clock = clock }) u.nodes }) (grows_waits u n x clock found) u.happened (all_founded l done hosts u distinct reached))
