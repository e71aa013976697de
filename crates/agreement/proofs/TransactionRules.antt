-- What one step does to a transaction, rule by rule.
use Rattle.std.specs.Prelude.{List, [], ◌∷◌, ◌++◌, Option, Some, None, Bool, true, false, ◌≡◌, refl, if◌then◌else◌, not, ◌&&◌, ◌||◌, option_map, is_none}
use Rattle.std.specs.List.{list_any, AllByRecursion}
use Rattle.std.proofs.Common.{sym, subst, ap, inl, inr, ◌∙◌}
use Rattle.at_base.specs.Numbers.{Numbers}
use Rattle.at_base.specs.declared.epr.Epr.{Epr}
use Rattle.at_base.specs.declared.notice.Kind.{Kind}
use Rattle.at_base.specs.declared.notice.Kind.TheVariants as kinds
use Rattle.at_base.specs.declared.notice.Notice.{Notice}
use Rattle.at_base.specs.declared.notice.Notice.TheVariants as notices
use Rattle.at_base.specs.declared.record.Record.TheVariants as records
use Rattle.at_base.specs.declared.event.Event.{Event}
use Rattle.at_base.specs.declared.event.Moment.{Moment}
use Rattle.at_base.specs.declared.outs.Post.{Post}
use Rattle.at_base.specs.declared.outs.Effect.{Effect}
use Rattle.at_base.specs.declared.outs.Effect.TheVariants as effects
use Rattle.at_base.specs.declared.outs.Ending.{Ending}
use Rattle.at_base.specs.declared.outs.Ending.TheVariants as endings
use Rattle.at_tables.specs.declared.cells.State.{State}
use Rattle.at_tables.specs.declared.cells.State.TheVariants as states
use Rattle.at_tables.specs.Names.{is_state}
use Rattle.at_base.specs.Names.{is_kind}
use Rattle.at_model.specs.Book.{Completion, Enlistment, Phase, Superior, Transaction}
use Rattle.at_model.specs.Moves.{Moving, Change, Decision, Goes, posts, effect, become, stays, forgotten}
use Rattle.at_model.specs.Seats.{answered, all_left, completion_in, ending, ending_of, in_phase, in_state, initiator_posts, is_of, is_open, is_prepared_durable, link_in, link_of, moved, notices_to, prepared, send_each}
use Rattle.at_model.specs.Abort.{Reason, Alone, links_aborted, without_links, until_rolled_back, abort}
use Rattle.at_model.specs.Phases.{upwards, ended_posts, decided, committed, root_answered, voted, sub_answered, durable_answered, if_durable_answered, prepare_seats, go_durable, volatile_answered, all_committed, advance_in, go_volatile}
use Rattle.at_model.specs.Due.{may_expire}
use Rattle.model_laws.specs.PhaseAnswers.{IsUnanswered, StandsBehind}
use Rattle.model_laws.proofs.DecisionLaws.{all_join, all_more, second_true}
use Rattle.agreement.specs.Deeds.{How, AreCounted, Counted, IsAbort, IsCommit, IsCounted, IsPosted, IsWhy, WhyInitiator, WhySuperior, has_said, is_asked, is_still, says_aborted, to_initiator, to_seat, to_superior, coordinator_at, superior_at, AllAnswered, rolled_back, told_to_commit, KeepsOn, IsLeftIn, IsRolledBack, initiator, IsSame, IsSameIfLeft, KeepsLink, KeepsLinksIfLeft, Deed, Deeds}
use Rattle.agreement.proofs.Posts.{initiator_all, link_notice_of, links_aborted_all, notices_all, to_each_all}

abbrev pub Done : Event → Transaction → Decision Transaction → Type 0
Done e t d = Deeds (Deed e t) d

pub either : (e : Event) (t : Transaction) (b : Bool) (c d : Decision Transaction) → (b ≡ true → Done e t c) → (b ≡ false → Done e t d) → Done e t (if b then c else d)
either e t true c d h k = h refl
either e t false c d h k = k refl

-- what no step changes
pub same_as : (t x y : Transaction) → y.id ≡ x.id → y.identifier ≡ x.identifier → y.deadline ≡ x.deadline → is_none y.superior ≡ is_none x.superior
    → initiator y.completion ≡ initiator x.completion → IsSame t x → IsSame t y
same_as t x y i n d r c h = record { id = i ∙ h.id; identifier = n ∙ h.identifier; deadline = d ∙ h.deadline; root = r ∙ h.root; initiator = c ∙ h.initiator }

pub itself : (t : Transaction) → IsSame t t
itself t = record { id = refl; identifier = refl; deadline = refl; root = refl; initiator = refl }

-- seats that stay, and seats that are asked
count_one : (e : Event) (t : Transaction) (s : Enlistment) → Counted e t s s
count_one e t s = record { seat = refl; why = is_still refl }

pub count_same : (e : Event) (t : Transaction) (seats : List Enlistment) → AreCounted e t seats seats
count_same e t [] = tt
count_same e t (s ∷ ss) = (count_one e t s, count_same e t ss)

only_active : (state : State) → is_state state states.Active ≡ true → state ≡ states.Active
only_active states.Active e = refl
only_active states.None e = absurd cc
only_active other e = absurd cc

never_active : (n : Notice) (before after : State) → IsCounted n before after → after ≡ states.Active → ⊥
never_active notices.Prepared before after (h, k) e = cc
never_active notices.ReadOnly before after (h, k) e = cc
never_active notices.Aborted before after (h, k) e = cc
never_active notices.Committed before after (h, k) e = cc
never_active notices.Prepare before after h e = h
never_active other before after h e = h

asked_why : (e : Event) (t : Transaction) (o : Enlistment) (state : State) → may_expire t.phase ≡ true → state ≡ states.Active → IsWhy e t o state → IsWhy e t o states.Preparing
asked_why e t o state u a (is_still f) = is_asked u (sym f ∙ a) refl
asked_why e t o state u a (is_asked v f g) = is_asked v f refl
asked_why e t o state u a (has_said n said c) = absurd (never_active n o.state state c a)

asked_counts : (b : Bool) (e : Event) (t : Transaction) (o n : Enlistment) → may_expire t.phase ≡ true → (b ≡ true → n.state ≡ states.Active) → Counted e t o n
    → Counted e t o (record n { state = if b then states.Preparing else n.state })
asked_counts true e t o n u a h = record { seat = h.seat; why = asked_why e t o n.state u (a refl) h.why }
asked_counts false e t o n u a h = record { seat = h.seat; why = h.why }

count_asked : (e : Event) (t : Transaction) (kind : Kind) → may_expire t.phase ≡ true → (olds news : List Enlistment) → AreCounted e t olds news
    → AreCounted e t olds (moved (is_of kind states.Active) states.Preparing news)
count_asked e t kind u [] [] h = tt
count_asked e t kind u [] (n ∷ ns) h = absurd h
count_asked e t kind u (o ∷ os) [] h = absurd h
count_asked e t kind u (o ∷ os) (n ∷ ns) (h, k) =
    (asked_counts (is_of kind states.Active n) e t o n u (λ f. only_active n.state (second_true (is_kind n.kind kind) (is_state n.state states.Active) f)) h, count_asked e t kind u os ns k)

-- posted whatever the deed is, and posted by an abort
abbrev pub Always : Event → Transaction → Post → Type 0
Always e t p = (how : How) (at : List Enlistment) → IsPosted e t how at p

abbrev pub OnAbort : Event → Transaction → Post → Type 0
OnAbort e t p = (how : How) (at : List Enlistment) → IsAbort how → IsPosted e t how at p

always_so : (e : Event) (t : Transaction) (how : How) (at : List Enlistment) (ps : List Post) → AllByRecursion (Always e t) ps → AllByRecursion (IsPosted e t how at) ps
always_so e t how at ps h = all_more (Always e t) (IsPosted e t how at) ps (λ p k. k how at) h

-- a transaction on its way through a step
pub record From (e : Event) (t : Transaction) (g : Moving Transaction) : Type 0 where
  pub same : IsSame t g.item
  pub above : (kind : Kind) → coordinator_at kind g.item.superior ≡ coordinator_at kind t.superior
  pub counted : AreCounted e t t.seats g.item.seats
  pub quiet : g.effects ≡ []
  pub on : KeepsOn t.phase g.item.phase
  pub behind : StandsBehind g.item.phase g.item.seats
  pub posts : AllByRecursion (Always e t) g.posts

-- phases
pub was_open : (before after : Phase) → KeepsOn before after → may_expire after ≡ true → may_expire before ≡ true
was_open before after (inl h) e = h.0
was_open before after (inr h) e = subst (λ p. may_expire p ≡ true) h e

was_there : (before after : Phase) → KeepsOn before after → may_expire after ≡ false → before ≡ after
was_there before after (inl h) e = absurd (both_ways (may_expire after) h.1 e)
  where
    both_ways : (b : Bool) → b ≡ true → b ≡ false → ⊥
    both_ways b e f = cc
was_there before after (inr h) e = sym h

-- a step that leaves it undecided, or in its phase
pub idles : (e : Event) (t x : Transaction) (ps : List Post) (effects : List Effect) → IsSame t x → ((kind : Kind) → KeepsLink e t x kind) → AreCounted e t t.seats x.seats → KeepsOn t.phase x.phase → effects ≡ []
    → AllByRecursion (IsPosted e t How.Idles x.seats) ps → Deed e t None (record { item = Some x; posts = ps; effects = effects })
idles e t x ps effects s l a k q p = record {
  how = How.Idles;
  at = x.seats;
  counted = a;
  stood = tt;
  heard = tt;
  behind = tt;
  records = refl;
  happened = q;
  becomes = (k, refl);
  same = s;
  links = l;
  posts = p;
}

stays_so : (e : Event) (t : Transaction) (g : Moving Transaction) → From e t g → Deed e t None (stays g)
stays_so e t g h = idles e t g.item g.posts g.effects h.same (λ k. inl (h.above k)) h.counted h.on h.quiet (always_so e t How.Idles g.item.seats g.posts h.posts)

-- what happens
ends_alike : (s u : Option Superior) (i j : Numbers) (what : Ending) → is_none s ≡ is_none u → i ≡ j → ending_of s i what ≡ ending_of u j what
ends_alike None None i j what e f = ap (λ x. effects.Root x what) f
ends_alike None (Some u) i j what e f = absurd cc
ends_alike (Some s) None i j what e f = absurd cc
ends_alike (Some s) (Some u) i j what e f = ap (λ x. effects.Sub x what) f

pub only_ends : (t x : Transaction) (before : List Effect) (what : Ending) → IsSame t x → before ≡ [] → before ++ ending x what ∷ [] ≡ ending t what ∷ []
only_ends t x before what h e =
    ap (λ l. l ++ ending x what ∷ []) e ∙ ap (λ y. y ∷ []) (ends_alike x.superior t.superior x.id t.id what h.root h.id)

none_without : (s : Option Superior) → is_none (without_links s) ≡ is_none s
none_without None = refl
none_without (Some s) = refl

same_initiator : (state : State) (c : Option Completion) → initiator (completion_in state c) ≡ initiator c
same_initiator state None = refl
same_initiator state (Some c) = refl

-- an abort
pub record Undone (e : Event) (t : Transaction) (at : List Enlistment) (c : Change Transaction) : Type 0 where
  pub happened : c.effects ≡ ending t endings.Aborted ∷ []
  pub becomes : IsRolledBack (rolled_back at) c.item
  pub same : IsSameIfLeft t c.item
  pub links : KeepsLinksIfLeft e t c.item
  pub posts : AllByRecursion (OnAbort e t) c.posts

until_undone : (e : Event) (t : Transaction) (at : List Enlistment) (x : Moving Transaction) → x.effects ≡ ending t endings.Aborted ∷ [] → x.item.phase ≡ Phase.Aborting
    → x.item.seats ≡ rolled_back at → IsSame t x.item → ((kind : Kind) → KeepsLink e t x.item kind) → AllByRecursion (OnAbort e t) x.posts → Undone e t at (until_rolled_back x)
until_undone e t at x f p s h l o = by_test (list_any (in_state states.Aborting) x.item.seats) refl
  where
    by_test : (b : Bool) → list_any (in_state states.Aborting) x.item.seats ≡ b → Undone e t at (if b then stays x else forgotten x)
    by_test true u = record { happened = f; becomes = (p, s, subst (λ y. list_any (in_state states.Aborting) y ≡ true) s u); same = h; links = l; posts = o }
    by_test false u = record { happened = f; becomes = subst (λ y. list_any (in_state states.Aborting) y ≡ false) s u; same = tt; links = tt; posts = o }

above_without : (kind : Kind) (s : Option Superior) → coordinator_at kind (without_links s) ≡ coordinator_at kind s
above_without kind None = refl
above_without kinds.Volatile (Some s) = refl
above_without kinds.Durable (Some s) = refl

-- a link in another state leads where it led
pub above_in : (kind own : Kind) (state : State) (s : Superior) → coordinator_at own (Some (link_in kind state s)) ≡ coordinator_at own (Some s)
above_in kinds.Volatile kinds.Volatile state s = refl
above_in kinds.Volatile kinds.Durable state s = refl
above_in kinds.Durable kinds.Volatile state s = refl
above_in kinds.Durable kinds.Durable state s = refl

link_moved : (e : Event) (t : Transaction) (g : Moving Transaction) (kind own : Kind) (state : State) (s : Superior) → From e t g → g.item.superior ≡ Some s
    → coordinator_at own (Some (link_in kind state s)) ≡ coordinator_at own t.superior
link_moved e t g kind own state s h under = above_in kind own state s ∙ sym (ap (coordinator_at own) under) ∙ h.above own

why_aborted : (how : How) → IsAbort how → WhyInitiator how notices.Aborted
why_aborted How.Aborts h = h
why_aborted other h = h

abort_posts : (e : Event) (t : Transaction) (m : Moment) (reason : Reason) (g : Moving Transaction) → From e t g
    → AllByRecursion (OnAbort e t)
    (((g.posts ++ links_aborted m.base g.item.id reason g.item.superior) ++ notices_to m.base g.item.id notices.Rollback g.item.seats is_open)
    ++ initiator_posts m.base g.item.id notices.Aborted g.item.completion)
abort_posts e t m reason g h =
    all_join (OnAbort e t) _ _
    (all_join (OnAbort e t) _ _
    (all_join (OnAbort e t) _ _ (all_more (Always e t) (OnAbort e t) g.posts (λ p k how at a. k how at) h.posts)
    (links_aborted_all (OnAbort e t) m.base g.item.id t.id reason g.item.superior h.same.id (λ s k to p i how at a. says_aborted k to (sym h.same.root ∙ s) a i)))
    (notices_all (OnAbort e t) e t m.base g.item.id notices.Rollback is_open t.seats g.item.seats h.same.id h.counted
    (λ o x p i c y z how at a. to_seat o notices.Rollback i (inr a) z)))
    (initiator_all (OnAbort e t) m.base g.item.id t.id notices.Aborted g.item.completion h.same.id
    (λ to p i z how at a. to_initiator notices.Aborted to (sym h.same.initiator ∙ i) (why_aborted how a) z))

pub abort_undoes : (e : Event) (t : Transaction) (m : Moment) (reason : Reason) (g : Moving Transaction) → From e t g → Undone e t g.item.seats (abort m reason g)
unfolding abort
abort_undoes e t m reason g h =
    let x : Transaction = record g.item {
      superior = without_links g.item.superior;
      phase = Phase.Aborting;
      aborted = Some m.now;
      completion = completion_in states.None g.item.completion;
    } in
    let y : Moving Transaction =
    posts (initiator_posts m.base g.item.id notices.Aborted g.item.completion)
    (send_each m notices.Rollback states.Aborting is_open (become x (posts (links_aborted m.base g.item.id reason g.item.superior) (effect (ending g.item endings.Aborted) g)))) in
    until_undone e t g.item.seats y (only_ends t g.item g.effects endings.Aborted h.same h.quiet) refl refl
    (same_as t g.item y.item refl refl refl (none_without g.item.superior) (same_initiator states.None g.item.completion) h.same)
    (λ k. inl (above_without k g.item.superior ∙ h.above k)) (abort_posts e t m reason g h)

pub aborts : (e : Event) (t : Transaction) (m : Moment) (reason : Reason) (g : Moving Transaction) → may_expire t.phase ≡ true → From e t g → Deed e t None (abort m reason g)
aborts e t m reason g o h =
    let u : Undone e t g.item.seats (abort m reason g) = abort_undoes e t m reason g h in
    record {
      how = How.Aborts;
      at = g.item.seats;
      counted = h.counted;
      stood = o;
      heard = tt;
      behind = tt;
      records = refl;
      happened = u.happened;
      becomes = u.becomes;
      same = u.same;
      links = u.links;
      posts = all_more (OnAbort e t) (IsPosted e t How.Aborts g.item.seats) (abort m reason g).posts (λ p k. k How.Aborts g.item.seats tt) u.posts;
    }

-- a root's decision
decided_same : (t : Transaction) (m : Moment) (g : Moving Transaction) → IsSame t g.item → IsSame t (decided m g).item
unfolding decided
decided_same t m g h = same_as t g.item (decided m g).item refl refl refl refl (same_initiator states.Done g.item.completion) h

decided_ends : (t : Transaction) (m : Moment) (g : Moving Transaction) → IsSame t g.item → g.effects ≡ [] → (decided m g).effects ≡ ending t endings.Committed ∷ []
unfolding decided
decided_ends t m g h e = only_ends t g.item g.effects endings.Committed h e

decided_links : (e : Event) (t : Transaction) (m : Moment) (g : Moving Transaction) → From e t g → (kind : Kind) → KeepsLink e t (decided m g).item kind
unfolding decided
decided_links e t m g h kind = inl (h.above kind)

decided_left : (m : Moment) (g : Moving Transaction) → IsLeftIn Phase.Committing (told_to_commit g.item.seats) (Some (decided m g).item)
unfolding decided
decided_left m g = (refl, refl)

pub only_prepared : (state : State) → is_state state states.Prepared ≡ true → state ≡ states.Prepared
only_prepared states.Prepared e = refl
only_prepared states.None e = absurd cc
only_prepared other e = absurd cc

decided_posts : (e : Event) (t : Transaction) (m : Moment) (g : Moving Transaction) (how : How) → IsCommit how → WhyInitiator how notices.Committed → From e t g
    → AllByRecursion (IsPosted e t how g.item.seats) (decided m g).posts
unfolding decided
decided_posts e t m g how c w h =
    let P : Post → Type 0 = IsPosted e t how g.item.seats in
    all_join P _ _
    (all_join P _ _ (always_so e t how g.item.seats g.posts h.posts)
    (notices_all P e t m.base g.item.id notices.Commit (in_state states.Prepared) t.seats g.item.seats h.same.id h.counted
    (λ o x p i k y z. to_seat o notices.Commit i (inr (c, subst (IsWhy e t o) (only_prepared x.state y) k.why)) z)))
    (initiator_all P m.base g.item.id t.id notices.Committed g.item.completion h.same.id (λ to p i z. to_initiator notices.Committed to (sym h.same.initiator ∙ i) w z))

decides : (e : Event) (t : Transaction) (m : Moment) (g : Moving Transaction) → may_expire t.phase ≡ true → t.superior ≡ None → AllAnswered g.item.seats → From e t g
    → Deed e t (Some (records.Decided g.item.id (prepared g.item.seats))) (committed m g)
unfolding committed
decides e t m g o root all h = by_test (list_any is_prepared_durable g.item.seats) refl
  where
    recorded_so : Some (records.Decided g.item.id (prepared g.item.seats)) ≡ Some (records.Decided t.id (prepared g.item.seats))
    recorded_so = ap (λ i. Some (records.Decided i (prepared g.item.seats))) h.same.id

    by_test : (b : Bool) → list_any is_prepared_durable g.item.seats ≡ b
        → Deed e t (Some (records.Decided g.item.id (prepared g.item.seats))) (if b then stays (decided m g) else forgotten (decided m g))
    by_test true f = record {
      how = How.Decides;
      at = g.item.seats;
      counted = h.counted;
      stood = (o, root);
      heard = tt;
      behind = (all, f);
      records = recorded_so;
      happened = decided_ends t m g h.same h.quiet;
      becomes = decided_left m g;
      same = decided_same t m g h.same;
      links = decided_links e t m g h;
      posts = decided_posts e t m g How.Decides tt tt h;
    }
    by_test false f = record {
      how = How.DecidesAlone;
      at = g.item.seats;
      counted = h.counted;
      stood = (o, root);
      heard = tt;
      behind = (all, f);
      records = recorded_so;
      happened = decided_ends t m g h.same h.quiet;
      becomes = refl;
      same = tt;
      links = tt;
      posts = decided_posts e t m g How.DecidesAlone tt tt h;
    }

root_does : (e : Event) (t : Transaction) (m : Moment) (g : Moving Transaction) → may_expire t.phase ≡ true → t.superior ≡ None → AllAnswered g.item.seats → From e t g → Done e t (root_answered m g)
unfolding root_answered
root_does e t m g o root all h = (decides e t m g o root all h, aborts e t m Alone g o h)

-- a subordinate's vote
above_to : (e : Event) (t : Transaction) (g : Moving Transaction) (kind : Kind) (s : Superior) (to : Epr) → From e t g → g.item.superior ≡ Some s → (link_of kind s).coordinator ≡ Some to
    → coordinator_at kind t.superior ≡ Some to
above_to e t g kind s to h under f = sym (h.above kind) ∙ ap (coordinator_at kind) under ∙ f

upwards_all : (e : Event) (t : Transaction) (m : Moment) (g : Moving Transaction) (how : How) (kind : Kind) (n : Notice) (s : Superior) → From e t g → g.item.superior ≡ Some s
    → WhySuperior t how g.item.seats kind n
    → AllByRecursion (IsPosted e t how g.item.seats) (g.posts ++ upwards m.base g.item.id kind n (link_of kind s))
upwards_all e t m g how kind n s h under w =
    all_join (IsPosted e t how g.item.seats) _ _ (always_so e t how g.item.seats g.posts h.posts)
    (to_each_all (IsPosted e t how g.item.seats) (link_of kind s).coordinator _
    (λ to f. to_superior kind n to (above_to e t g kind s to h under f) w (link_notice_of m.base g.item.id t.id kind to n h.same.id)))

votes : (e : Event) (t : Transaction) (m : Moment) (s : Superior) (superior : Epr) (g : Moving Transaction) → may_expire t.phase ≡ true → g.item.superior ≡ Some s
    → superior_at t.superior ≡ Some superior → AllAnswered g.item.seats → list_any is_prepared_durable g.item.seats ≡ true → From e t g
    → Deed e t (Some (records.Voted g.item.id superior (prepared g.item.seats))) (stays (voted m s g))
unfolding voted
votes e t m s superior g o under above all some h = record {
  how = How.Votes;
  at = g.item.seats;
  counted = h.counted;
  stood = (o, subst (λ x. is_none x ≡ false) (sym above) refl);
  heard = tt;
  behind = (all, some);
  records = ap (λ i. Some (records.Voted i superior (prepared g.item.seats))) h.same.id
      ∙ sym (ap (λ x. option_map (λ y. records.Voted t.id y (prepared g.item.seats)) x) above);
  happened = h.quiet;
  becomes = (refl, refl);
  same = same_as t g.item (voted m s g).item refl refl refl (sym (ap (λ x. is_none x) under)) refl h.same;
  links = λ k. inl (link_moved e t g kinds.Durable k states.PreparedSuccess s h under);
  posts = upwards_all e t m g How.Votes kinds.Durable notices.Prepared s h under (inl refl);
}

leaves : (e : Event) (t : Transaction) (m : Moment) (s : Superior) (superior : Epr) (g : Moving Transaction) → may_expire t.phase ≡ true → g.item.superior ≡ Some s
    → superior_at t.superior ≡ Some superior → AllAnswered g.item.seats → list_any is_prepared_durable g.item.seats ≡ false → From e t g
    → Deed e t None (forgotten (posts (upwards m.base g.item.id kinds.Durable notices.ReadOnly s.durable) g))
leaves e t m s superior g o under above all none h = record {
  how = How.Leaves;
  at = g.item.seats;
  counted = h.counted;
  stood = (o, subst (λ x. is_none x ≡ false) (sym above) refl);
  heard = tt;
  behind = (all, none);
  records = refl;
  happened = h.quiet;
  becomes = refl;
  same = tt;
  links = tt;
  posts = upwards_all e t m g How.Leaves kinds.Durable notices.ReadOnly s h under refl;
}

sub_does : (e : Event) (t : Transaction) (m : Moment) (s : Superior) (superior : Option Epr) (g : Moving Transaction) → may_expire t.phase ≡ true → g.item.superior ≡ Some s
    → superior_at t.superior ≡ superior → AllAnswered g.item.seats → From e t g → Done e t (sub_answered m s superior g)
unfolding sub_answered
sub_does e t m s None g o under above all h = aborts e t m Alone g o h
sub_does e t m s (Some superior) g o under above all h =
    either e t (list_any is_prepared_durable g.item.seats) _ _
    (λ f. (votes e t m s superior g o under above all f h, aborts e t m Alone g o h)) (λ f. leaves e t m s superior g o under above all f h)

is_root : (s : Option Superior) → is_none s ≡ true → s ≡ None
is_root None e = refl
is_root (Some s) e = absurd cc

durable_does : (e : Event) (t : Transaction) (m : Moment) (s : Option Superior) (g : Moving Transaction) → may_expire t.phase ≡ true → g.item.superior ≡ s → AllAnswered g.item.seats → From e t g
    → Done e t (durable_answered m s g)
durable_does e t m None g o under all h = root_does e t m g o (is_root t.superior (sym h.same.root ∙ ap (λ x. is_none x) under)) all h
durable_does e t m (Some s) g o under all h = sub_does e t m s s.durable.coordinator g o under (sym (h.above kinds.Durable) ∙ ap superior_at under) all h

if_durable_does : (e : Event) (t : Transaction) (m : Moment) (g : Moving Transaction) → may_expire t.phase ≡ true → answered kinds.Volatile g.item.seats ≡ true → From e t g
    → Done e t (if_durable_answered m g)
if_durable_does e t m g o v h =
    either e t (answered kinds.Durable g.item.seats) _ _ (λ f. durable_does e t m g.item.superior g o refl (v, f) h) (λ f. stays_so e t g h)

-- asking the durable seats leaves the volatile ones as they are
unasked : (kind : Kind) (state : State)
    → let after : State = if is_kind kind kinds.Durable && is_state state states.Active then states.Preparing else state in
    ((is_kind kind kinds.Volatile && is_state after states.Active) || (is_kind kind kinds.Volatile && is_state after states.Preparing))
    ≡ ((is_kind kind kinds.Volatile && is_state state states.Active) || (is_kind kind kinds.Volatile && is_state state states.Preparing))
unasked kinds.Volatile state = refl
unasked kinds.Durable state = refl

still_answered : (seats : List Enlistment) → answered kinds.Volatile (moved (is_of kinds.Durable states.Active) states.Preparing seats) ≡ answered kinds.Volatile seats
still_answered [] = refl
still_answered (s ∷ ss) = by_parts _ _ _ _ (unasked s.kind s.state) (still_answered ss)
  where
    by_parts : (a b c d : Bool) → a ≡ c → not b ≡ not d → not (a || b) ≡ not (c || d)
    by_parts true b true d e f = refl
    by_parts true b false d e f = absurd cc
    by_parts false b true d e f = absurd cc
    by_parts false b false d e f = f

-- seats of a kind are asked, in this phase
was_unanswered : (e : Event) (t : Transaction) (o : Enlistment) (state : State) → state ≡ states.Active → IsWhy e t o state → IsUnanswered o.state
was_unanswered e t o state a (is_still f) = subst IsUnanswered (sym a ∙ f) tt
was_unanswered e t o state a (is_asked u f g) = subst IsUnanswered (sym f) tt
was_unanswered e t o state a (has_said n said c) = absurd (never_active n o.state state c a)

asked_posts : (e : Event) (t : Transaction) (m : Moment) (kind : Kind) (g : Moving Transaction) → From e t g
    → AllByRecursion (Always e t) (g.posts ++ notices_to m.base g.item.id notices.Prepare g.item.seats (is_of kind states.Active))
asked_posts e t m kind g h =
    all_join (Always e t) _ _ h.posts
    (notices_all (Always e t) e t m.base g.item.id notices.Prepare (is_of kind states.Active) t.seats g.item.seats h.same.id h.counted
    (λ o x p i k y z how at. to_seat o notices.Prepare i
    (was_unanswered e t o x.state (only_active x.state (second_true (is_kind x.kind kind) (is_state x.state states.Active) y)) k.why) z))

from_asked : (e : Event) (t : Transaction) (m : Moment) (g x : Moving Transaction) (phase : Phase) (kind : Kind) → may_expire t.phase ≡ true → may_expire phase ≡ true → x.item.phase ≡ phase
    → x.item.seats ≡ moved (is_of kind states.Active) states.Preparing g.item.seats → x.effects ≡ g.effects → x.item.superior ≡ g.item.superior
    → x.posts ≡ g.posts ++ notices_to m.base g.item.id notices.Prepare g.item.seats (is_of kind states.Active) → IsSame t x.item
    → StandsBehind phase (moved (is_of kind states.Active) states.Preparing g.item.seats) → From e t g → From e t x
from_asked e t m g x phase kind o p i s q u l same behind h = record {
  same = same;
  above = λ k. ap (coordinator_at k) u ∙ h.above k;
  counted = rw s (count_asked e t kind o t.seats g.item.seats h.counted);
  quiet = q ∙ h.quiet;
  on = inl (o, rw i p);
  behind = rw (i, s) behind;
  posts = subst (AllByRecursion (Always e t)) (sym l) (asked_posts e t m kind g h);
}

go_durable_does : (e : Event) (t : Transaction) (m : Moment) (g : Moving Transaction) → may_expire t.phase ≡ true → answered kinds.Volatile g.item.seats ≡ true → From e t g → Done e t (go_durable m g)
unfolding go_durable
go_durable_does e t m g o v h =
    let x : Moving Transaction = prepare_seats m kinds.Durable (become (in_phase Phase.Durable g.item) g) in
    let a : answered kinds.Volatile (moved (is_of kinds.Durable states.Active) states.Preparing g.item.seats) ≡ true = still_answered g.item.seats ∙ v in
    if_durable_does e t m x o a
    (from_asked e t m g x Phase.Durable kinds.Durable o refl refl refl refl refl refl (same_as t g.item x.item refl refl refl refl refl h.same) a h)

volatile_does : (e : Event) (t : Transaction) (m : Moment) (s : Option Superior) (g : Moving Transaction) → may_expire t.phase ≡ true → g.item.superior ≡ s → answered kinds.Volatile g.item.seats ≡ true
    → From e t g → Done e t (volatile_answered m s g)
unfolding volatile_answered
volatile_does e t m None g o under v h = go_durable_does e t m g o v h
volatile_does e t m (Some s) g o under v h =
    let x : Transaction = record g.item { superior = Some (link_in kinds.Volatile states.None s); phase = Phase.Active } in
    either e t (is_state s.volatile.state states.Preparing) _ _
    (λ f. idles e t x _ g.effects (same_as t g.item x refl refl refl (sym (ap (λ y. is_none y) under)) refl h.same)
    (λ k. inl (link_moved e t g kinds.Volatile k states.None s h under)) h.counted (inl (o, refl)) h.quiet
    (upwards_all e t m g How.Idles kinds.Volatile notices.ReadOnly s h under (o, v)))
    (λ f. either e t (is_state s.durable.state states.Preparing) _ _ (λ k. go_durable_does e t m g o v h) (λ k. stays_so e t g h))

-- the end
ended_all : (e : Event) (t : Transaction) (m : Moment) (g : Moving Transaction) (s : Option Superior) → From e t g → g.item.superior ≡ s
    → AllByRecursion (IsPosted e t How.Ends g.item.seats) (g.posts ++ ended_posts m.base g.item.id s)
ended_all e t m g None h under = all_join (IsPosted e t How.Ends g.item.seats) g.posts [] (always_so e t How.Ends g.item.seats g.posts h.posts) tt
ended_all e t m g (Some s) h under = upwards_all e t m g How.Ends kinds.Durable notices.Committed s h under refl

ends : (e : Event) (t : Transaction) (m : Moment) (g : Moving Transaction) → t.phase ≡ Phase.Committing → all_left g.item.seats ≡ true → From e t g → Done e t (all_committed m g)
unfolding all_committed
ends e t m g p left h = record {
  how = How.Ends;
  at = g.item.seats;
  counted = h.counted;
  stood = p;
  heard = tt;
  behind = left;
  records = ap (λ i. Some (records.Ended i)) h.same.id;
  happened = h.quiet;
  becomes = refl;
  same = tt;
  links = tt;
  posts = ended_all e t m g g.item.superior h refl;
}

pub forgets : (e : Event) (t : Transaction) (at : List Enlistment) (ps : List Post) (effects : List Effect) → t.phase ≡ Phase.Aborting → AreCounted e t t.seats at → effects ≡ []
    → AllByRecursion (IsPosted e t How.Forgets at) ps → Deed e t None (record { item = None; posts = ps; effects = effects })
forgets e t at ps effects p a q o = record {
  how = How.Forgets;
  at = at;
  counted = a;
  stood = p;
  heard = tt;
  behind = tt;
  records = refl;
  happened = q;
  becomes = refl;
  same = tt;
  links = tt;
  posts = o;
}

aborting_does : (e : Event) (t : Transaction) (g : Moving Transaction) → t.phase ≡ Phase.Aborting → From e t g → Done e t (Goes (until_rolled_back g))
aborting_does e t g p h = by_test (list_any (in_state states.Aborting) g.item.seats)
  where
    by_test : (b : Bool) → Done e t (Goes (if b then stays g else forgotten g))
    by_test true = stays_so e t g h
    by_test false = forgets e t g.item.seats g.posts g.effects p h.counted h.quiet (always_so e t How.Forgets g.item.seats g.posts h.posts)

-- what a phase waits for, and what follows
pub advance_in_does : (e : Event) (t : Transaction) (m : Moment) (phase : Phase) (g : Moving Transaction) → g.item.phase ≡ phase → From e t g → Done e t (advance_in m phase g)
unfolding advance_in
advance_in_does e t m Phase.Registering g p h = stays_so e t g h
advance_in_does e t m Phase.Active g p h = stays_so e t g h
advance_in_does e t m Phase.Volatile g p h =
    let o : may_expire t.phase ≡ true = was_open t.phase g.item.phase h.on (rw p refl) in
    either e t (answered kinds.Volatile g.item.seats) _ _ (λ v. volatile_does e t m g.item.superior g o refl v h) (λ v. stays_so e t g h)
advance_in_does e t m Phase.Durable g p h =
    if_durable_does e t m g (was_open t.phase g.item.phase h.on (rw p refl)) (subst (λ q. StandsBehind q g.item.seats) p h.behind) h
advance_in_does e t m Phase.Voted g p h = stays_so e t g h
advance_in_does e t m Phase.Committing g p h =
    either e t (all_left g.item.seats) _ _ (λ l. ends e t m g (was_there t.phase g.item.phase h.on (rw p refl) ∙ p) l h) (λ l. stays_so e t g h)
advance_in_does e t m Phase.Aborting g p h = aborting_does e t g (was_there t.phase g.item.phase h.on (rw p refl) ∙ p) h

pub go_volatile_does : (e : Event) (t : Transaction) (m : Moment) (g : Moving Transaction) → may_expire t.phase ≡ true → From e t g → Done e t (go_volatile m g)
unfolding go_volatile
go_volatile_does e t m g o h =
    let x : Moving Transaction = prepare_seats m kinds.Volatile (become (in_phase Phase.Volatile g.item) g) in
    advance_in_does e t m Phase.Volatile x refl
    (from_asked e t m g x Phase.Volatile kinds.Volatile o refl refl refl refl refl refl (same_as t g.item x.item refl refl refl refl refl h.same) tt h)
