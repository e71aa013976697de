-- Where no participant is known.
use Rattle.std.specs.Prelude.{ℕ, Option, Some, None, false, if◌then◌else◌, ◌≡◌, refl}
use Rattle.std.proofs.Common.{inl, sym, subst}
use Rattle.at_base.specs.Numbers.{Numbers}
use Rattle.at_base.specs.declared.epr.Epr.{Epr}
use Rattle.at_base.specs.declared.notice.Kind.{Kind}
use Rattle.at_base.specs.declared.notice.Notice.{Notice}
use Rattle.at_base.specs.declared.notice.Notice.TheVariants as notices
use Rattle.at_base.specs.declared.message.Message.{Message}
use Rattle.at_base.specs.declared.message.Message.TheVariants as messages
use Rattle.at_base.specs.declared.target.Target.TheVariants as targets
use Rattle.at_base.specs.declared.event.Arrived.{Arrived}
use Rattle.at_tables.specs.declared.cells.State.TheVariants as states
use Rattle.at_base.specs.Names.{is_kind}
use Rattle.at_tables.specs.Tables.{participant_of}
use Rattle.at_model.specs.Book.{Book, Leaf, Transaction}
use Rattle.at_model.specs.Leaves.{on_leaf}
use Rattle.at_model.specs.Posts.{accepted, stranger_post}
use Rattle.at_model.specs.Step.{arrived_plan, leaf_at, leaf_or_stranger_plan, leaf_plan, link_plan, moment_of, participant_plan, stranger_plan, transaction_at}
use Rattle.model_laws.specs.Shapes.{IfFound, IsUnknownAt, NoParticipant}
use Rattle.owed.specs.Seats.{Tells, posts_of}
use Rattle.owed.specs.Links.{StepsOweLinks}
use Rattle.owed.proofs.LinkBooks.{steps_fine}

-- what each is answered
abbrev Reply : Notice → Notice → Type 0
Reply asked n = (b : Book) (now : ℕ) (a : Arrived) (kind : Kind) (to : Epr) → a.message ≡ messages.Notice asked → a.from ≡ Some to
    → Tells (Some to) n (posts_of (stranger_plan b now a (participant_of kind states.None) a.message).landed.outs)

with_from : (b : Book) (now : ℕ) (a : Arrived) (kind : Kind) (to : Epr) (x : Message) (from : Option Epr) → x ≡ messages.Notice notices.Prepare → from ≡ Some to
    → Tells (Some to) notices.Aborted (posts_of (stranger_plan b now (record a { from = from }) (participant_of kind states.None) x).landed.outs)
with_from b now a kind to x from f g = rw (f, g) (stranger_post b.base a.target to notices.Aborted, inl refl, refl, refl)

with_commit : (b : Book) (now : ℕ) (a : Arrived) (kind : Kind) (to : Epr) (x : Message) (from : Option Epr) → x ≡ messages.Notice notices.Commit → from ≡ Some to
    → Tells (Some to) notices.Committed (posts_of (stranger_plan b now (record a { from = from }) (participant_of kind states.None) x).landed.outs)
with_commit b now a kind to x from f g = rw (f, g) (stranger_post b.base a.target to notices.Committed, inl refl, refl, refl)

prepare_reply : Reply notices.Prepare notices.Aborted
prepare_reply b now a kind to f g = with_from b now a kind to a.message a.from f g

commit_reply : Reply notices.Commit notices.Committed
commit_reply b now a kind to f g = with_commit b now a kind to a.message a.from f g

leaf_replies : (asked n : Notice) → Reply asked n → (b : Book) (now : ℕ) (a : Arrived) (kind : Kind) (to : Epr) (l : Option Leaf) → a.message ≡ messages.Notice asked → a.from ≡ Some to
    → IfFound (λ x. is_kind x.kind kind ≡ false) l → Tells (Some to) n (posts_of (leaf_or_stranger_plan b now a kind l).landed.outs)
leaf_replies asked n reply b now a kind to None f g h = reply b now a kind to f g
leaf_replies asked n reply b now a kind to (Some l) f g h =
    subst (λ c. Tells (Some to) n (posts_of (if c then leaf_plan b now accepted l (on_leaf (moment_of b now) a l a.message) else stranger_plan b now a (participant_of kind states.None) a.message).landed.outs))
    (sym h) (reply b now a kind to f g)

replies_so : (asked n : Notice) → Reply asked n → (b : Book) (now : ℕ) (a : Arrived) (kind : Kind) (to : Epr) (o : Option Transaction) (l : Option Leaf) → a.message ≡ messages.Notice asked
    → a.from ≡ Some to → NoParticipant kind o l → Tells (Some to) n (posts_of (participant_plan b now a kind o l).landed.outs)
unfolding participant_plan
replies_so asked n reply b now a kind to None l f g h = leaf_replies asked n reply b now a kind to l f g h
replies_so asked n reply b now a kind to (Some t) l f g h =
    subst (λ x. Tells (Some to) n (posts_of (link_plan b now a kind t x).landed.outs)) (sym h) (reply b now a kind to f g)

replies_at : (asked n : Notice) → Reply asked n → (b : Book) (now : ℕ) (a : Arrived) (id : Numbers) (kind : Kind) (to : Epr) → a.message ≡ messages.Notice asked → a.from ≡ Some to
    → IsUnknownAt b (targets.Participant id kind) → Tells (Some to) n (posts_of (arrived_plan b now a (targets.Participant id kind)).landed.outs)
unfolding arrived_plan
replies_at asked n reply b now a id kind to f g h = replies_so asked n reply b now a kind to (transaction_at b id) (leaf_at b id) f g h

pub steps_owe_links : StepsOweLinks
steps_owe_links = record {
  links = λ b e now ready shaped t s found f. steps_fine b e now ready shaped t s found f;
  unprepared = λ b a now id kind to at u f g.
      subst (λ T. Tells (Some to) notices.Aborted (posts_of (arrived_plan b now a T).landed.outs)) (sym at) (replies_at notices.Prepare notices.Aborted prepare_reply b now a id kind to f g u);
  uncommitted = λ b a now id kind to at u f g.
      subst (λ T. Tells (Some to) notices.Committed (posts_of (arrived_plan b now a T).landed.outs)) (sym at) (replies_at notices.Commit notices.Committed commit_reply b now a id kind to f g u);
}
