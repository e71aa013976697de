-- What is due, and the answer to a request.
use Rattle.std.specs.Prelude.{ℕ, List, [], ◌∷◌, ◌++◌, Option, Some, None, Bool, true, false, if◌then◌else◌, ◌≡◌, ◌⊎◌, refl}
use Rattle.std.specs.List.{AllByRecursion}
use Rattle.std.proofs.Common.{inl, inr, ap, sym, subst, ◌∙◌}
use Rattle.at_base.specs.Numbers.{Numbers}
use Rattle.at_base.specs.declared.epr.Reply.{Reply}
use Rattle.at_base.specs.declared.epr.Reply.TheVariants as replies
use Rattle.at_base.specs.declared.notice.Kind.{Kind}
use Rattle.at_base.specs.declared.notice.Kind.TheVariants as kinds
use Rattle.at_base.specs.declared.notice.Notice.{Notice}
use Rattle.at_base.specs.declared.notice.Notice.TheVariants as notices
use Rattle.at_base.specs.declared.message.Message.TheVariants as messages
use Rattle.at_base.specs.declared.target.Target.TheVariants as targets
use Rattle.at_base.specs.declared.event.Event.{Event}
use Rattle.at_base.specs.declared.event.Moment.{Moment}
use Rattle.at_base.specs.declared.outs.Post.{Post}
use Rattle.at_tables.specs.declared.cells.State.{State}
use Rattle.at_tables.specs.declared.cells.State.TheVariants as states
use Rattle.at_tables.specs.Names.{is_state}
use Rattle.at_base.specs.Names.{is_kind}
use Rattle.at_model.specs.Book.{Book, Enlistment, Link, Phase, Request, Superior, Transaction, transaction_id}
use Rattle.at_model.specs.Create.{link_register}
use Rattle.at_model.specs.Moves.{Change, Decision, Goes, Records, begin}
use Rattle.at_model.specs.Posts.{notice_post, reply_post}
use Rattle.at_model.specs.Seats.{seat_target, under}
use Rattle.at_model.specs.Abort.{Alone}
use Rattle.at_model.specs.Phases.{upwards}
use Rattle.at_model.specs.Arrivals.{answer_request, context_of, is_registering, refused_at, refused_request, request_answered, request_left, request_of, request_stands, request_under, with_answer}
use Rattle.at_model.specs.Due.{Reached, Expired, Over, Unanswered, Nothing, link_again, links_again, register_again_at, seat_again, seats_again, transaction_again, transaction_due, transaction_reached, unanswered_seat}
use Rattle.at_model.specs.Step.{moment_of, transaction_at}
use Rattle.model_laws.specs.Shapes.{MovesTransaction, at_completion, at_link, at_seat, when_due}
use Rattle.model_laws.proofs.DecisionLaws.{all_find, all_join, either_left}
use Rattle.model_laws.proofs.LinkDecisions.{Linked}
use Rattle.owed.specs.DurablePrepares.{GoesOn, GoesOnBoth, HasAskedIfLeft, Own, has_asked}
use Rattle.enlistments.specs.Moves.{IsReady}
use Rattle.owed.specs.Shape.{AreShaped, IsShaped, suits}
use Rattle.owed.proofs.DurablePrepares.{AllGo, Clean, Mine, abort_goes, clean_mine, more_clean, more_mine, no_own, other_notice, upwards_clean, volatile_post}
use Rattle.owed.proofs.DurablePrepareMoves.{completion_goes, link_goes, seat_goes, stays_goes}

-- sending again
register_clean : (base : List ℕ) (id : Numbers) (kind : Kind) (r : Option Request) → Clean (register_again_at base id kind r)
register_clean base id kind None = tt
register_clean base id kind (Some r) = (no_own (link_register base id kind r.registration) refl, tt)

link_clean : (base : List ℕ) (id : Numbers) (kind : Kind) (r : Option Request) (link : Link) → Clean (link_again base id kind r link)
link_clean base id kind r link = by_tests (is_state link.state states.Registering) (is_state link.state states.PreparedSuccess)
  where
    by_tests : (a b : Bool) → Clean (if a then register_again_at base id kind r else if b then upwards base id kind notices.Prepared link else [])
    by_tests true b = register_clean base id kind r
    by_tests false true = upwards_clean base id kind notices.Prepared link
    by_tests false false = tt

links_clean : (base : List ℕ) (id : Numbers) (s : Option Superior) → Clean (links_again base id s)
links_clean base id None = tt
links_clean base id (Some s) = more_clean _ _ (link_clean base id kinds.Volatile s.request s.volatile) (link_clean base id kinds.Durable s.request s.durable)

own_post : (base : List ℕ) (id : Numbers) (s : Enlistment) (n : Notice) → Own id (notice_post base (seat_target id s) s.participant n)
own_post base id s n i h = let g : Some (seat_target id s) ≡ Some (targets.Coordinator i (record { number = h.number; kind = kinds.Durable })) = h.owned in cc

seat_mine : (base : List ℕ) (id : Numbers) (s : Enlistment) (o : Option Notice) → Mine id (seat_again base id s o)
seat_mine base id s None = tt
seat_mine base id s (Some n) = (own_post base id s n, tt)

seats_mine : (base : List ℕ) (id : Numbers) (seats : List Enlistment) → Mine id (seats_again base id seats)
seats_mine base id [] = tt
seats_mine base id (s ∷ ss) = all_join (Own id) (seat_again base id s (unanswered_seat s.state)) (seats_again base id ss) (seat_mine base id s (unanswered_seat s.state)) (seats_mine base id ss)

-- in an early phase only volatile seats are asked
early_volatile : (phase : Phase) (kind : Kind) → has_asked phase ≡ false → suits phase kind states.Preparing ≡ true → is_kind kind kinds.Volatile ≡ true
early_volatile Phase.Registering kind e f = absurd cc
early_volatile Phase.Active kinds.Volatile e f = refl
early_volatile Phase.Active kinds.Durable e f = absurd cc
early_volatile Phase.Volatile kinds.Volatile e f = refl
early_volatile Phase.Volatile kinds.Durable e f = absurd cc
early_volatile Phase.Durable kind e f = absurd cc
early_volatile Phase.Voted kind e f = absurd cc
early_volatile Phase.Committing kind e f = absurd cc
early_volatile Phase.Aborting kind e f = absurd cc

seat_clean : (base : List ℕ) (id : Numbers) (phase : Phase) (s : Enlistment) (x : State) → has_asked phase ≡ false → suits phase s.kind x ≡ true → Clean (seat_again base id s (unanswered_seat x))
seat_clean base id phase s states.Preparing e f = (volatile_post base id s notices.Prepare (early_volatile phase s.kind e f), tt)
seat_clean base id phase s states.Committing e f = (other_notice notices.Commit (notice_post base (seat_target id s) s.participant notices.Commit) refl (λ g. cc), tt)
seat_clean base id phase s states.Aborting e f = (other_notice notices.Rollback (notice_post base (seat_target id s) s.participant notices.Rollback) refl (λ g. cc), tt)
seat_clean base id phase s states.None e f = tt
seat_clean base id phase s states.Registering e f = tt
seat_clean base id phase s states.Active e f = tt
seat_clean base id phase s states.Prepared e f = tt
seat_clean base id phase s states.PreparedSuccess e f = tt
seat_clean base id phase s states.Completing e f = tt
seat_clean base id phase s states.Done e f = tt

seats_clean : (base : List ℕ) (id : Numbers) (phase : Phase) (seats : List Enlistment) → has_asked phase ≡ false → AllByRecursion (λ s. suits phase s.kind s.state ≡ true) seats → Clean (seats_again base id seats)
seats_clean base id phase [] e h = tt
seats_clean base id phase (s ∷ ss) e (h, k) = more_clean _ _ (seat_clean base id phase s s.state e h) (seats_clean base id phase ss e k)

again_goes : (m : Moment) (t : Transaction) (x : Transaction) → x.phase ≡ t.phase → IsShaped t → GoesOn (has_asked t.phase) t.id (record { item = Some x; posts = transaction_again m.base t; effects = [] })
again_goes m t x e h = by_case (has_asked t.phase) refl
  where
    by_case : (b : Bool) → has_asked t.phase ≡ b
        → ((has_asked x.phase ≡ true) × Mine t.id (transaction_again m.base t)) ⊎ ((has_asked t.phase ≡ false) × Clean (transaction_again m.base t))
    by_case true f = inl (ap has_asked e ∙ f, all_join (Own t.id) (links_again m.base t.id t.superior) (seats_again m.base t.id t.seats) (clean_mine t.id (links_again m.base t.id t.superior) (links_clean m.base t.id t.superior)) (seats_mine m.base t.id t.seats))
    by_case false f = inr (f, more_clean (links_again m.base t.id t.superior) (seats_again m.base t.id t.seats) (links_clean m.base t.id t.superior) (seats_clean m.base t.id t.phase t.seats f h.0))

reached_goes : (m : Moment) (t : Transaction) (reached : Reached) → IsShaped t → AllGo (has_asked t.phase) t.id (transaction_reached m t reached)
unfolding transaction_reached
reached_goes m t Expired h = abort_goes (has_asked t.phase) t.id m Alone (begin t) refl tt
reached_goes m t Over h = inl (tt, tt)
reached_goes m t Unanswered h = again_goes m t (record t { sent = Some m.now }) refl h
reached_goes m t Nothing h = stays_goes t t [] refl tt

-- the answer to a request
more_goes : (late : Bool) (id : Numbers) (o x : Option Transaction) (ps qs : List Post) → (HasAskedIfLeft o → HasAskedIfLeft x) → Clean qs
    → (HasAskedIfLeft o × Mine id ps) ⊎ ((late ≡ false) × Clean ps) → (HasAskedIfLeft x × Mine id (ps ++ qs)) ⊎ ((late ≡ false) × Clean (ps ++ qs))
more_goes late id o x ps qs f k (inl (h, i)) = inl (f h, more_mine id ps qs i k)
more_goes late id o x ps qs f k (inr (h, i)) = inr (h, more_clean ps qs i k)

refused_clean : (r : Request) → Clean (refused_request r)
refused_clean r = by_reply r.fault
  where
    by_reply : (f : Reply) → Clean (refused_at f r.id)
    by_reply replies.Anonymous = tt
    by_reply replies.Nobody = tt
    by_reply (replies.At to) = (no_own _ refl, tt)

stands_go : (late : Bool) (id : Numbers) (m : Moment) (r : Request) (t : Transaction) (s : Superior) (phase : Phase) (c : Change Transaction) → (HasAskedIfLeft c.item → HasAskedIfLeft (Some t))
    → GoesOn late id c → GoesOn late id (request_stands m r t s phase c)
stands_go late id m r t s Phase.Aborting c f h = more_goes late id c.item (Some (under (request_answered s) t)) c.posts (refused_request r) f (refused_clean r) h
stands_go late id m r t s other c f h =
    either_left (GoesOn late id) (is_registering s) c
    (record {
      item = Some (under (request_answered s) t);
      posts = c.posts ++ reply_post (Some r.reply) r.id (messages.CreateResponse (context_of m.base t r.expires)) ∷ [];
      effects = c.effects;
    }) h
    (more_goes late id c.item (Some (under (request_answered s) t)) c.posts (reply_post (Some r.reply) r.id (messages.CreateResponse (context_of m.base t r.expires)) ∷ []) f
    (no_own (reply_post (Some r.reply) r.id (messages.CreateResponse (context_of m.base t r.expires))) refl, tt) h)

under_goes : (late : Bool) (id : Numbers) (m : Moment) (r : Request) (t : Transaction) (o : Option Superior) (c : Change Transaction) → (HasAskedIfLeft c.item → HasAskedIfLeft (Some t)) → GoesOn late id c
    → GoesOn late id (request_under m r t o c)
under_goes late id m r t None c f h = h
under_goes late id m r t (Some s) c f h = stands_go late id m r t s t.phase c f h

left_goes : (late : Bool) (id : Numbers) (m : Moment) (r : Request) (o : Option Transaction) (c : Change Transaction) → (HasAskedIfLeft c.item → HasAskedIfLeft o) → GoesOn late id c
    → GoesOn late id (request_left m r o c)
left_goes late id m r None c f h = more_goes late id c.item None c.posts (refused_request r) f (refused_clean r) h
left_goes late id m r (Some t) c f h = under_goes late id m r t t.superior c f h

answer_goes : (late : Bool) (id : Numbers) (m : Moment) (r : Option Request) (c : Change Transaction) → GoesOn late id c → GoesOn late id (answer_request m r c)
answer_goes late id m None c h = h
answer_goes late id m (Some r) c h = left_goes late id m r c.item c (λ k. k) h

with_answer_goes : (late : Bool) (m : Moment) (t : Transaction) (d : Decision Transaction) → AllGo late t.id d → GoesOnBoth late t.id (with_answer m t d)
with_answer_goes late m t (Goes c) h = answer_goes late t.id m (request_of t.superior) c h
with_answer_goes late m t (Records r c None) h = answer_goes late t.id m (request_of t.superior) c h.landed
with_answer_goes late m t (Records r c (Some d)) h = (answer_goes late t.id m (request_of t.superior) c h.landed, answer_goes late t.id m (request_of t.superior) d h.otherwise)

moved_goes : (b : Book) (e : Event) (now : ℕ) (t : Transaction) (d : Decision Transaction) → Linked t → IsShaped t → MovesTransaction b e now t d → AllGo (has_asked t.phase) t.id d
moved_goes b e now t d l h (at_seat a s came why is) = subst (AllGo (has_asked t.phase) t.id) (sym is) (seat_goes (moment_of b now) a t s a.message)
moved_goes b e now t d l h (at_link a kind s came why u is) = subst (AllGo (has_asked t.phase) t.id) (sym is) (link_goes (moment_of b now) a kind t s a.message u l)
moved_goes b e now t d l h (at_completion a c came why there is) = subst (AllGo (has_asked t.phase) t.id) (sym is) (completion_goes (moment_of b now) a t c a.message there l h)
moved_goes b e now t d l h (when_due came is) = subst (AllGo (has_asked t.phase) t.id) (sym is) (reached_goes (moment_of b now) t (transaction_due (moment_of b now) t) h)

pub both_go : (b : Book) (e : Event) (now : ℕ) (id : Numbers) (t : Transaction) (d : Decision Transaction) → IsReady b → AreShaped b → transaction_at b id ≡ Some t → MovesTransaction b e now t d
    → GoesOnBoth (has_asked t.phase) t.id (with_answer (moment_of b now) t d)
both_go b e now id t d ready shaped stands how =
    with_answer_goes (has_asked t.phase) (moment_of b now) t d
    (moved_goes b e now t d (all_find Linked transaction_id id b.transactions t ready.phases.links stands) (all_find IsShaped transaction_id id b.transactions t shaped stands) how)
