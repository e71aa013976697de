-- What stands behind each Commit, Rollback and Committed that a step sends.
use Rattle.std.specs.Prelude.{ℕ, List, [], ◌∷◌, ◌≡◌, refl}
use Rattle.std.specs.List.{AllByRecursion}
use Rattle.std.proofs.Common.{inl, inr}
use Rattle.at_base.specs.Numbers.{Numbers}
use Rattle.at_base.specs.declared.event.Event.{Event}
use Rattle.at_base.specs.declared.notice.Kind.{Kind}
use Rattle.at_base.specs.declared.notice.Notice.TheVariants as notices
use Rattle.at_base.specs.declared.outs.Out.{Out}
use Rattle.at_base.specs.declared.outs.Out.TheVariants as outs
use Rattle.at_base.specs.declared.outs.Post.{Post}
use Rattle.at_base.specs.declared.target.Target.TheVariants as targets
use Rattle.at_model.specs.Book.{Book, Enlistment, transaction_id}
use Rattle.at_model.specs.Step.{step}
use Rattle.at_model.specs.World.{Node, World, Hosts}
use Rattle.model_laws.specs.Agreement.{IsIn}
use Rattle.model_laws.specs.ReachedWorlds.{counts}
use Rattle.model_laws.proofs.DecisionLaws.{all_find}
use Rattle.model_laws.proofs.WorldInvariants.{OutFine}
use Rattle.agreement.proofs.SeatedEntries.{each_is_in, one_of}
use Rattle.enlistments.specs.Leads.{IsOfKind, LeadsTo}
use Rattle.votes.specs.ToldOutcomes.{CommitIsBacked, CommittedIsBacked, RollbackIsBacked}
use Rattle.votes.proofs.Commits.{commit_told}
use Rattle.votes.proofs.Committeds.{committed_told}
use Rattle.votes.proofs.Notices.{SeatsAre}
use Rattle.votes.proofs.Premises.{StepPremises, StepSends}
use Rattle.votes.proofs.Rollbacks.{rollback_told}

-- a seat's participant is of its kind
own_participant : (i k : Numbers) (kind other : Kind) → targets.Participant i kind ≡ targets.Participant k other → kind ≡ other
own_participant i k kind other e = cc

seats_are : (hosts : Hosts) (u : World) (n : ℕ) (x : Node) (b : Book) (e : Event) → StepPremises hosts u n x b e → SeatsAre hosts b
seats_are hosts u n x b e p t s found i = record { kind = λ m k kind leads. is_kind m k kind leads (of_kind m (targets.Participant k kind) leads) }
  where
    of_kind : IsOfKind hosts s.participant s.kind
    of_kind =
        one_of (λ (r : Enlistment). IsOfKind hosts r.participant r.kind) t.seats s
        (p.world.knowing.seats n x b t p.found p.up (all_find (λ y. IsIn y b.transactions) transaction_id t.id b.transactions t (each_is_in b.transactions) found)) i

    is_kind : (m : ℕ) (k : Numbers) (kind : Kind) → LeadsTo hosts s.participant m (targets.Participant k kind) → (i : Numbers) × (targets.Participant k kind ≡ targets.Participant i s.kind) → kind ≡ s.kind
    is_kind m k kind leads (j, same) = own_participant k j kind s.kind same

-- each out
each_out : (F : Post → Type 0) (os : List Out) → ((q : Post) → IsIn (outs.Post q) os → F q) → AllByRecursion (OutFine F) os
each_out F [] f = tt
each_out F (outs.Post q ∷ os) f = (f q (inl refl), each_out F os (λ r i. f r (inr i)))
each_out F (outs.Answer status reply ∷ os) f = (tt, each_out F os (λ r i. f r (inr i)))

pub commits_send : StepSends CommitIsBacked
commits_send hosts u n x b e now landed p j =
    each_out (CommitIsBacked hosts (counts u n x b e now landed)) (step b e now landed).outs
    (λ q i to m item kind says. commit_told hosts u n x b e now landed p j (seats_are hosts u n x b e p) q (p.world.tells.told b e now landed p.ready q notices.Commit i says) to m item kind says)

pub rollbacks_send : StepSends RollbackIsBacked
rollbacks_send hosts u n x b e now landed p j =
    each_out (RollbackIsBacked hosts (counts u n x b e now landed)) (step b e now landed).outs
    (λ q i to m item says. rollback_told hosts u n x b e now landed p j (seats_are hosts u n x b e p) q (p.world.tells.told b e now landed p.ready q notices.Rollback i says) to m item says)

pub committeds_send : StepSends CommittedIsBacked
committeds_send hosts u n x b e now landed p j =
    each_out (CommittedIsBacked hosts (counts u n x b e now landed)) (step b e now landed).outs
    (λ q i to m item number says. committed_told hosts u n x b e now landed p j q (p.world.tells.told b e now landed p.ready q notices.Committed i says) to m item number says)
