-- What is posted to participants, superiors and the initiator, post by post.
use Rattle.std.specs.Prelude.{ℕ, List, [], ◌∷◌, Option, Some, None, Bool, true, false, ◌≡◌, refl, if◌then◌else◌, ◌||◌, is_none, filter, map}
use Rattle.std.specs.List.{AllByRecursion}
use Rattle.std.proofs.Common.{ap, inl, inr, ◌∙◌}
use Rattle.at_base.specs.Numbers.{Numbers}
use Rattle.at_base.specs.declared.epr.Epr.{Epr}
use Rattle.at_base.specs.declared.notice.Kind.{Kind}
use Rattle.at_base.specs.declared.notice.Kind.TheVariants as kinds
use Rattle.at_base.specs.declared.notice.Notice.{Notice}
use Rattle.at_base.specs.declared.notice.Notice.TheVariants as notices
use Rattle.at_base.specs.declared.target.Target.TheVariants as targets
use Rattle.at_base.specs.declared.event.Event.{Event}
use Rattle.at_base.specs.declared.outs.Post.{Post}
use Rattle.at_tables.specs.declared.cells.State.TheVariants as states
use Rattle.at_tables.specs.Names.{is_state}
use Rattle.at_model.specs.Book.{Completion, Enlistment, Link, Superior, Transaction}
use Rattle.at_model.specs.Posts.{notice_post, to_each, stored_or}
use Rattle.at_model.specs.Seats.{initiator_posts, notices_to, seat_target}
use Rattle.at_model.specs.Abort.{Reason, from_of, is_silent, link_aborted, links_aborted}
use Rattle.model_laws.specs.Agreement.{IsIn}
use Rattle.model_laws.specs.PhaseAnswers.{accepted_as}
use Rattle.model_laws.proofs.DecisionLaws.{all_join}
use Rattle.agreement.specs.Deeds.{AreCounted, Counted, IsNotice, initiator}

pub to_each_all : (P : Post → Type 0) (o : Option Epr) (f : Epr → Post) → ((to : Epr) → o ≡ Some to → P (f to)) → AllByRecursion P (to_each o f)
to_each_all P None f h = tt
to_each_all P (Some to) f h = (h to refl, tt)

pub if_none : (P : Post → Type 0) (b : Bool) (ps : List Post) → AllByRecursion P ps → AllByRecursion P (if b then [] else ps)
if_none P true ps h = tt
if_none P false ps h = h

-- a notification of this id's
pub seat_notice_of : (base : List ℕ) (id own : Numbers) (o x : Enlistment) (n : Notice) → id ≡ own → accepted_as x ≡ accepted_as o
    → IsNotice (Some (seat_target own o)) o.participant n (notice_post base (seat_target id x) x.participant n)
seat_notice_of base id own o x n e f = record {
  owned = ap (λ a. Some (targets.Coordinator id (record { number = a.number; kind = a.kind }))) f ∙ ap (λ i. Some (seat_target i o)) e;
  sent = ap (λ a. Some a.participant) f;
  says = refl;
}

pub link_notice_of : (base : List ℕ) (id own : Numbers) (kind : Kind) (to : Epr) (n : Notice) → id ≡ own
    → IsNotice (Some (targets.Participant own kind)) to n (notice_post base (targets.Participant id kind) to n)
link_notice_of base id own kind to n e = record { owned = ap (λ i. Some (targets.Participant i kind)) e; sent = refl; says = refl }

pub initiator_notice_of : (base : List ℕ) (id own : Numbers) (to : Epr) (n : Notice) → id ≡ own
    → IsNotice (Some (targets.Completion own)) to n (notice_post base (targets.Completion id) to n)
initiator_notice_of base id own to n e = record { owned = ap (λ i. Some (targets.Completion i)) e; sent = refl; says = refl }

-- to each seat that passes the test
pub notices_all : (P : Post → Type 0) (e : Event) (t : Transaction) (base : List ℕ) (id : Numbers) (n : Notice) (test : Enlistment → Bool) (olds news : List Enlistment) → id ≡ t.id
    → AreCounted e t olds news
    → ((o x : Enlistment) (p : Post) → IsIn o olds → Counted e t o x → test x ≡ true → IsNotice (Some (seat_target t.id o)) o.participant n p → P p)
    → AllByRecursion P (notices_to base id n news test)
notices_all P e t base id n test [] [] i h f = tt
notices_all P e t base id n test [] (x ∷ xs) i h f = absurd h
notices_all P e t base id n test (o ∷ os) [] i h f = absurd h
notices_all P e t base id n test (o ∷ os) (x ∷ xs) i (h, k) f =
    by_test (test x) refl (notices_all P e t base id n test os xs i k (λ y z p g. f y z p (inr g)))
  where
    by_test : (b : Bool) → test x ≡ b → AllByRecursion P (notices_to base id n xs test)
        → AllByRecursion P (map (λ s. notice_post base (seat_target id s) s.participant n) (if b then x ∷ filter test xs else filter test xs))
    by_test true g rest = (f o x _ (inl refl) h g (seat_notice_of base id t.id o x n i h.seat), rest)
    by_test false g rest = rest

-- to the initiator, where it is to hear
pub initiator_all : (P : Post → Type 0) (base : List ℕ) (id own : Numbers) (n : Notice) (completion : Option Completion) → id ≡ own
    → ((to : Epr) (p : Post) → initiator completion ≡ Some to → IsNotice (Some (targets.Completion own)) to n p → P p) → AllByRecursion P (initiator_posts base id n completion)
initiator_all P base id own n None i f = tt
initiator_all P base id own n (Some c) i f =
    if_none P (is_state c.state states.None) _ (f c.initiator _ refl (initiator_notice_of base id own c.initiator n i), tt)

-- Aborted, on both links
link_aborted_all : (P : Post → Type 0) (base : List ℕ) (id own : Numbers) (reason : Reason) (kind : Kind) (link : Link) → id ≡ own
    → ((k : Kind) (to : Epr) (p : Post) → IsNotice (Some (targets.Participant own k)) to notices.Aborted p → P p) → AllByRecursion P (link_aborted base id reason kind link)
link_aborted_all P base id own reason kind link i f =
    if_none P (is_state link.state states.None || is_silent reason kind) _
    (to_each_all P (stored_or link.coordinator (from_of reason kind)) _ (λ to e. f kind to _ (link_notice_of base id own kind to notices.Aborted i)))

pub links_aborted_all : (P : Post → Type 0) (base : List ℕ) (id own : Numbers) (reason : Reason) (s : Option Superior) → id ≡ own
    → (is_none s ≡ false → (k : Kind) (to : Epr) (p : Post) → IsNotice (Some (targets.Participant own k)) to notices.Aborted p → P p) → AllByRecursion P (links_aborted base id reason s)
links_aborted_all P base id own reason None i f = tt
links_aborted_all P base id own reason (Some s) i f =
    all_join P (link_aborted base id reason kinds.Volatile s.volatile) (link_aborted base id reason kinds.Durable s.durable)
    (link_aborted_all P base id own reason kinds.Volatile s.volatile i (f refl)) (link_aborted_all P base id own reason kinds.Durable s.durable i (f refl))
