-- Why a transaction, a leaf and an activity post what they post.
use Rattle.std.specs.Prelude.{ℕ, List, Option, Some, None, false, is_none, ◌≡◌, refl}
use Rattle.std.specs.List.{AllByRecursion}
use Rattle.std.proofs.Common.{inl, inr, sym, subst, ap, ◌∙◌}
use Rattle.at_base.specs.declared.fault.Fault.TheVariants.{InvalidState}
use Rattle.at_base.specs.declared.epr.Epr.{Epr}
use Rattle.at_base.specs.declared.notice.Kind.{Kind}
use Rattle.at_base.specs.declared.notice.Notice.{Notice}
use Rattle.at_base.specs.declared.notice.Notice.TheVariants as notices
use Rattle.at_base.specs.declared.message.Message.{Message}
use Rattle.at_base.specs.declared.message.Message.TheVariants as messages
use Rattle.at_base.specs.declared.event.Arrived.{Arrived}
use Rattle.at_base.specs.declared.event.Event.{Event}
use Rattle.at_base.specs.declared.event.Event.TheVariants as events
use Rattle.at_base.specs.declared.event.Moment.{Moment}
use Rattle.at_base.specs.declared.outs.Post.{Post}
use Rattle.at_base.specs.declared.record.Record.{Record}
use Rattle.at_base.specs.declared.target.Target.{Target}
use Rattle.at_base.specs.declared.target.Target.TheVariants as targets
use Rattle.at_tables.specs.declared.cells.State.TheVariants as states
use Rattle.endpoints.specs.Addresses.{endpoint_of}
use Rattle.at_model.specs.Book.{Activity, Book, Leaf, Superior, Transaction}
use Rattle.at_model.specs.Moves.{Change}
use Rattle.at_model.specs.Posts.{fault_post, from_on, stored_or, to_each}
use Rattle.at_model.specs.Seats.{link_of, seat_target}
use Rattle.at_model.specs.Step.{Outcome, moment_of}
use Rattle.model_laws.proofs.DecisionLaws.{all_both}
use Rattle.agreement.specs.ActivityDeeds.{ActivityDeed, ActivityIdles, ActivitySays, asks, asks_again, created, idles as activity_idles, interposed, misled as activity_misled, registered as activity_registered, registers_again as activity_registers_again, rests as activity_rests, tells, works}
use Rattle.agreement.specs.Branches.{IsNoNotice}
use Rattle.agreement.specs.Deeds.{IsNotice, IsPosted, WhyInitiator, WhyLeft, WhySeat, WhySuperior, from_left_link as posted_from_left_link, is_no_notice, says_aborted as posted_says_aborted, to_asking as posted_to_asking, to_initiator as posted_to_initiator, to_left_seat as posted_to_left_seat, to_seat as posted_to_seat, to_superior as posted_to_superior}
use Rattle.agreement.specs.LeafDeeds.{LeafAborts, LeafDeed, LeafIdles, LeafSays, aborts, asked, commits, dropped, expired, gave_up, idles, leaves, misled, prepares, refused, registered, registers_again, rests, rolls_back, unprepared, votes_again}
use Rattle.agreement.proofs.ActivityRules.{activities_do}
use Rattle.agreement.proofs.LeafRules.{leaves_do}
use Rattle.agreement.proofs.Posts.{to_each_all}
use Rattle.enlistments.specs.Moves.{ActivityDid, CameAt, GoesOut, IsSigned, IsUpwards, LeafDid, Replies, Signed, SignedAs, TransactionDid, signer}
use Rattle.enlistments.specs.NoticeOrigins.{IsAnswerFrom, IsFrom, IsKnownOrAsked, Says, Tells, activity_says, from_left_link, leaf_says, left_link_aborted, says_aborted, to_asking, to_initiator, to_left_seat, to_seat, to_superior}

abbrev pub SaysAll : Book → Event → ℕ → Option Record → Outcome → List Post → Type 0
SaysAll b e now entry o ps = AllByRecursion (λ p. Says b e now entry o p p.message) ps

pub same_notice : (x : Message) (n v : Notice) → x ≡ messages.Notice n → x ≡ messages.Notice v → n ≡ v
same_notice x n v f g = cc

-- by the message
pub by_message : (b : Book) (e : Event) (now : ℕ) (entry : Option Record) (o : Outcome) (p : Post) (x : Message) → ((n : Notice) → x ≡ messages.Notice n → Tells b e now entry o n p)
    → ((c : Epr) → x ≡ messages.RegisterResponse c → ⊥) → Says b e now entry o p x
by_message b e now entry o p (messages.Notice n) f g = f n refl
by_message b e now entry o p (messages.RegisterResponse c) f g = absurd (g c refl)
by_message b e now entry o p (messages.Create c) f g = tt
by_message b e now entry o p (messages.CreateResponse c) f g = tt
by_message b e now entry o p (messages.Register r) f g = tt
by_message b e now entry o p (messages.Work w) f g = tt
by_message b e now entry o p messages.WorkDone f g = tt
by_message b e now entry o p messages.WorkRefused f g = tt
by_message b e now entry o p (messages.Fault name) f g = tt

-- where a transaction's notification comes from, and where it goes
own_from : (base : List ℕ) (e : Event) (t : Transaction) (T own : Target) (to : Epr) (n v : Notice) (p : Post) → IsNotice (Some own) to v p → IsSigned base e t T n p → IsFrom base own to n p
own_from base e t T own to n v p z k = record { owned = z.owned; sent = z.sent; from = k.from ∙ ap (λ o. from_on n (endpoint_of base (signer T o))) z.owned }

none_from : (base : List ℕ) (e : Event) (t : Transaction) (T own : Target) (to : Epr) (n v : Notice) (p : Post) → IsNotice None to v p → IsSigned base e t T n p → T ≡ own
    → IsAnswerFrom base own to n p
none_from base e t T own to n v p z k same =
    record { unowned = z.owned; sent = z.sent; from = k.from ∙ ap (λ o. from_on n (endpoint_of base (signer T o))) z.owned ∙ ap (λ S. from_on n (endpoint_of base S)) same }

goes_out : (base : List ℕ) (e : Event) (t : Transaction) (T : Target) (own : Option Target) (to : Epr) (n v : Notice) (p : Post) → IsNotice own to v p → IsSigned base e t T n p
    → GoesOut e t n T own (Some to)
goes_out base e t T own to n v p z k = subst (λ o. GoesOut e t n T o (Some to)) z.owned (subst (GoesOut e t n T p.own) z.sent k.goes)

known_or_asked : (e : Event) (t : Transaction) (kind : Kind) (to : Epr) → IsUpwards e t kind (Some to) → IsKnownOrAsked e kind t to
known_or_asked e t kind to (inl h) = inl (sym h)
known_or_asked e t kind to (inr (a, came, target, h, said)) = inr (a, came, target, sym h, said)

-- from a link that has left
left_aborted : (b : Book) (e : Event) (now : ℕ) (entry : Option Record) (o : Outcome) (d : TransactionDid b e now entry o) (T S : Target) (n v : Notice) (to : Epr) (p : Post)
    → is_none d.old.superior ≡ false → n ≡ notices.Aborted → IsNotice None to v p → IsSigned b.base e d.old T n p → T ≡ S → Replies e d.old n S (Some to) → Tells b e now entry o n p
left_aborted b e now entry o d T (targets.Participant id kind) n v to p u is z k same (own, up) =
    left_link_aborted d kind to u is (known_or_asked e d.old kind to up)
    (none_from b.base e d.old T (targets.Participant d.old.id kind) to n v p z k (same ∙ ap (λ i. targets.Participant i kind) own))
left_aborted b e now entry o d T (targets.Coordinator id s) n v to p u is z k same h = let f : notices.Rollback ≡ notices.Aborted = sym h ∙ is in absurd cc
left_aborted b e now entry o d T targets.Activation n v to p u is z k same h = absurd h
left_aborted b e now entry o d T targets.Work n v to p u is z k same h = absurd h
left_aborted b e now entry o d T (targets.Registration id) n v to p u is z k same h = absurd h
left_aborted b e now entry o d T (targets.Completion id) n v to p u is z k same h = absurd h
left_aborted b e now entry o d T (targets.Initiator id) n v to p u is z k same h = absurd h

left_told : (b : Book) (e : Event) (now : ℕ) (entry : Option Record) (o : Outcome) (d : TransactionDid b e now entry o) (T : Target) (kind : Kind) (s : Superior) (n v : Notice) (to : Epr)
    (p : Post) → CameAt T e → d.old.superior ≡ Some s → (link_of kind s).state ≡ states.None → WhyLeft e d.old kind v → n ≡ v → IsNotice None to v p → IsSigned b.base e d.old T n p
    → Tells b e now entry o n p
left_told b e now entry o d T kind s n notices.Committed to p at u left why is z k =
    let same : T ≡ targets.Participant d.old.id kind = sym (at why.message why.came) ∙ why.target in
    from_left_link d kind s to u left why is
    (known_or_asked e d.old kind to (subst (λ S. Replies e d.old n S (Some to)) same (goes_out b.base e d.old T None to n notices.Committed p z k)).1)
    (none_from b.base e d.old T (targets.Participant d.old.id kind) to n notices.Committed p z k same)
left_told b e now entry o d T kind s n notices.Aborted to p at u left why is z k =
    left_aborted b e now entry o d T T n notices.Aborted to p (ap (λ x. is_none x) u) is z k refl (goes_out b.base e d.old T None to n notices.Aborted p z k)
left_told b e now entry o d T kind s n other to p at u left why is z k = absurd why

-- a transaction
post_told : (b : Book) (e : Event) (now : ℕ) (entry : Option Record) (o : Outcome) (d : TransactionDid b e now entry o) (T : Target) (n : Notice) (p : Post) → CameAt T e
    → p.message ≡ messages.Notice n → IsPosted e d.old d.deed.how d.deed.at p → IsSigned b.base e d.old T n p → Tells b e now entry o n p
post_told b e now entry o d T n p at f (is_no_notice q) k = absurd (subst IsNoNotice f q)
post_told b e now entry o d T n p at f (posted_to_seat s v i why z) k =
    to_seat d s i (subst (WhySeat e d.old d.deed.how s) (same_notice p.message v n z.says f) why) (own_from b.base e d.old T (seat_target d.old.id s) s.participant n v p z k)
post_told b e now entry o d T n p at f (posted_to_left_seat s i durable left said z) k =
    to_left_seat d s i durable left said (same_notice p.message n notices.Rollback f z.says)
    (none_from b.base e d.old T (seat_target d.old.id s) s.participant n notices.Rollback p z k (sym (at said.message said.came) ∙ said.target))
post_told b e now entry o d T n p at f (posted_to_superior kind v to known why z) k =
    to_superior d kind to known (subst (WhySuperior d.old d.deed.how d.deed.at kind) (same_notice p.message v n z.says f) why)
    (own_from b.base e d.old T (targets.Participant d.old.id kind) to n v p z k)
post_told b e now entry o d T n p at f (posted_says_aborted kind to under abort z) k =
    says_aborted d kind to under abort (same_notice p.message n notices.Aborted f z.says)
    (known_or_asked e d.old kind to (goes_out b.base e d.old T (Some (targets.Participant d.old.id kind)) to n notices.Aborted p z k))
    (own_from b.base e d.old T (targets.Participant d.old.id kind) to n notices.Aborted p z k)
post_told b e now entry o d T n p at f (posted_from_left_link kind s v to u left why z) k =
    left_told b e now entry o d T kind s n v to p at u left why (same_notice p.message n v f z.says) z k
post_told b e now entry o d T n p at f (posted_to_initiator v to known why z) k =
    to_initiator d to known (subst (WhyInitiator d.deed.how) (same_notice p.message v n z.says f) why) (own_from b.base e d.old T (targets.Completion d.old.id) to n v p z k)
post_told b e now entry o d T n p at f (posted_to_asking c to known done again z) k =
    to_asking d c to known done again (same_notice p.message n notices.Committed f z.says) (own_from b.base e d.old T (targets.Completion d.old.id) to n notices.Committed p z k)

came_at : (e : Event) → (T : Target) × CameAt T e
came_at (events.Arrived a) = (a.target, λ x came. let same : a ≡ x = cc in ap (λ (y : Arrived). y.target) (sym same))
came_at (events.Local l) = (targets.Work, λ x came. absurd cc)
came_at (events.Due item) = (targets.Work, λ x came. absurd cc)
came_at events.Tick = (targets.Work, λ x came. absurd cc)

pub transaction_told : (b : Book) (e : Event) (now : ℕ) (entry : Option Record) (o : Outcome) (d : TransactionDid b e now entry o) → SaysAll b e now entry o d.change.posts
transaction_told b e now entry o d =
    let (T, at) = came_at e in
    all_both (IsPosted e d.old d.deed.how d.deed.at) (Signed b.base e d.old T) (λ p. Says b e now entry o p p.message) d.change.posts
    (λ p h k.
    by_message b e now entry o p p.message (λ n f. post_told b e now entry o d T n p at f h (subst (SignedAs b.base e d.old T p) f k)) (λ c f. subst (SignedAs b.base e d.old T p) f k))
    d.deed.posts (d.signed T at)

-- no RegisterResponse
abbrev IsNoResponse : Message → Type 0
IsNoResponse (messages.RegisterResponse c) = ⊥
IsNoResponse other = Unit {0}

abbrev NoResponse : Post → Type 0
NoResponse p = IsNoResponse p.message

no_faults : (to : Option Epr) (id : Option (List ℕ)) → AllByRecursion NoResponse (to_each to (λ x. fault_post (Some x) id InvalidState))
no_faults to id = to_each_all NoResponse to _ (λ x f. tt)

-- a leaf
leaf_idles_quiet : (m : Moment) (e : Event) (l left : Leaf) (ps : List Post) → LeafIdles m e l left ps → AllByRecursion NoResponse ps
leaf_idles_quiet m e l left ps (rests is sent) = subst (AllByRecursion NoResponse) (sym sent) tt
leaf_idles_quiet m e l left ps (registered c r came answers state request is sent) = subst (AllByRecursion NoResponse) (sym sent) (tt, tt)
leaf_idles_quiet m e l left ps (registers_again r due state request is sent) = subst (AllByRecursion NoResponse) (sym sent) (tt, tt)
leaf_idles_quiet m e l left ps (votes_again to why state knows is sent) = subst (AllByRecursion NoResponse) (sym sent) (tt, tt)

leaf_aborts_quiet : (m : Moment) (e : Event) (l : Leaf) (ps : List Post) → LeafAborts m e l ps → AllByRecursion NoResponse ps
leaf_aborts_quiet m e l ps (asked came sent) =
    subst (AllByRecursion NoResponse) (sym sent) (to_each_all NoResponse (stored_or l.coordinator came.arrived.from) _ (λ x f. tt))
leaf_aborts_quiet m e l ps (misled came sent) = subst (AllByRecursion NoResponse) (sym sent) (no_faults (stored_or l.coordinator came.arrived.from) came.arrived.id)
leaf_aborts_quiet m e l ps (unprepared to came state why knows sent) = subst (AllByRecursion NoResponse) (sym sent) (tt, tt)
leaf_aborts_quiet m e l ps (refused name r came answers state request sent) = subst (AllByRecursion NoResponse) (sym sent) (tt, tt)
leaf_aborts_quiet m e l ps (expired r due over state request sent) = subst (AllByRecursion NoResponse) (sym sent) (tt, tt)
leaf_aborts_quiet m e l ps (gave_up to due over state knows sent) = subst (AllByRecursion NoResponse) (sym sent) (tt, tt)

leaf_quiet : (m : Moment) (e : Event) (l : Leaf) (entry : Option Record) (c : Change Leaf) → LeafDeed m e l entry c → AllByRecursion NoResponse c.posts
leaf_quiet m e l entry c (idles left why none item effects) = leaf_idles_quiet m e l left c.posts why
leaf_quiet m e l entry c (aborts state why none item effects) = leaf_aborts_quiet m e l c.posts why
leaf_quiet m e l entry c (prepares to came state vote knows is item effects sent) = subst (AllByRecursion NoResponse) (sym sent) (tt, tt)
leaf_quiet m e l entry c (leaves to came state vote knows none item effects sent) = subst (AllByRecursion NoResponse) (sym sent) (tt, tt)
leaf_quiet m e l entry c (dropped came kind none item effects sent) = subst (AllByRecursion NoResponse) (sym sent) tt
leaf_quiet m e l entry c (commits to came state knows is item effects sent) = subst (AllByRecursion NoResponse) (sym sent) (tt, tt)
leaf_quiet m e l entry c (rolls_back to came state knows is item effects sent) = subst (AllByRecursion NoResponse) (sym sent) (tt, tt)

pub leaf_told : (b : Book) (e : Event) (now : ℕ) (entry : Option Record) (o : Outcome) (d : LeafDid b e now entry o) → SaysAll b e now entry o d.change.posts
leaf_told b e now entry o d =
    all_both (LeafSays (moment_of b now) e d.old d.change) NoResponse (λ p. Says b e now entry o p p.message) d.change.posts
    (λ p h k. by_message b e now entry o p p.message (λ n f. leaf_says d h) (λ c f. subst IsNoResponse f k))
    (leaves_do.says (moment_of b now) e d.old entry d.change d.deed) (leaf_quiet (moment_of b now) e d.old entry d.change d.deed)

-- an activity
activity_idles_quiet : (m : Moment) (e : Event) (a left : Activity) (ps : List Post) → ActivityIdles m e a left ps → AllByRecursion NoResponse ps
activity_idles_quiet m e a left ps (activity_rests is sent) = subst (AllByRecursion NoResponse) (sym sent) tt
activity_idles_quiet m e a left ps (activity_misled came state is sent) = subst (AllByRecursion NoResponse) (sym sent) (no_faults (stored_or a.coordinator came.arrived.from) came.arrived.id)
activity_idles_quiet m e a left ps (created context came relates state begun is sent) = subst (AllByRecursion NoResponse) (sym sent) (tt, tt)
activity_idles_quiet m e a left ps (interposed context came relates state begun is sent) = subst (AllByRecursion NoResponse) (sym sent) tt
activity_idles_quiet m e a left ps (activity_registered to came relates state is sent) = subst (AllByRecursion NoResponse) (sym sent) tt
activity_idles_quiet m e a left ps (activity_registers_again context came state known is sent) = subst (AllByRecursion NoResponse) (sym sent) (tt, tt)
activity_idles_quiet m e a left ps (asks_again n to came wants state known is sent) = subst (AllByRecursion NoResponse) (sym sent) (tt, tt)
activity_idles_quiet m e a left ps (works url kind vote key value context came state known is sent) = subst (AllByRecursion NoResponse) (sym sent) (tt, tt)
activity_idles_quiet m e a left ps (asks n to came begun state known is sent) = subst (AllByRecursion NoResponse) (sym sent) (tt, tt)

activity_quiet : (m : Moment) (e : Event) (a : Activity) (entry : Option Record) (c : Change Activity) → ActivityDeed m e a entry c → AllByRecursion NoResponse c.posts
activity_quiet m e a entry c (activity_idles left why none item effects) = activity_idles_quiet m e a left c.posts why
activity_quiet m e a entry c (tells what why none item effects sent) = subst (AllByRecursion NoResponse) (sym sent) tt

pub activity_told : (b : Book) (e : Event) (now : ℕ) (entry : Option Record) (o : Outcome) (d : ActivityDid b e now entry o) → SaysAll b e now entry o d.change.posts
activity_told b e now entry o d =
    all_both (ActivitySays (moment_of b now) d.old d.change) NoResponse (λ p. Says b e now entry o p p.message) d.change.posts
    (λ p h k. by_message b e now entry o p p.message (λ n f. activity_says d h) (λ c f. subst IsNoResponse f k))
    (activities_do.says (moment_of b now) e d.old entry d.change d.deed) (activity_quiet (moment_of b now) e d.old entry d.change d.deed)
