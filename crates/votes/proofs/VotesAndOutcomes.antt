-- Votes and outcomes over every world that is reached: what holds only together, each clause by its own lemma.
use Rattle.std.specs.Prelude.{ℕ, List, [], ◌∷◌, Some, Bool, ◌≡◌, ◌⊎◌}
use Rattle.std.specs.List.{AllByRecursion}
use Rattle.std.proofs.Common.{inl, inr, sym, subst}
use Rattle.at_base.specs.declared.event.Event.{Event}
use Rattle.at_base.specs.declared.outs.Out.{Out}
use Rattle.at_base.specs.declared.outs.Out.TheVariants as outs
use Rattle.at_base.specs.declared.outs.Post.{Post}
use Rattle.at_model.specs.Book.{Book}
use Rattle.at_model.specs.Step.{step}
use Rattle.at_model.specs.World.{Node, Who, World, nth, opening, run_of, with_post, Hosts, HaveOwnAddresses}
use Rattle.model_laws.specs.Agreement.{IsIn}
use Rattle.model_laws.specs.Growth.{Grows}
use Rattle.model_laws.specs.ReachedWorlds.{Heard, Reached, counts}
use Rattle.model_laws.proofs.DecisionLaws.{all_join, all_more}
use Rattle.model_laws.proofs.WorldInvariants.{Law, OutFine, holds}
use Rattle.model_laws.proofs.Growth.{grows_counts, grows_posts}
use Rattle.model_laws.proofs.ReachedWorlds.{run_reached}
use Rattle.model_laws.proofs.NodeLives.{opening_node}
use Rattle.agreement.specs.Lives.{book_of}
use Rattle.enlistments.proofs.StepNotices.{steps_tell}
use Rattle.enlistments.proofs.KnownCoordinators.{coordinators_are_known}
use Rattle.enlistments.proofs.StepMoves.{steps_move}
use Rattle.votes.specs.NamedParticipants.{KeepsItsDurable, RecordAnswers}
use Rattle.votes.specs.ToldOutcomes.{CommitIsBacked, CommittedIsBacked, IsHeld, RollbackIsBacked}
use Rattle.votes.specs.VotesAndOutcomes.{IsOutcome, OutcomesAreBacked}
use Rattle.votes.specs.SeatStates.{TransactionTells}
use Rattle.votes.specs.DurableVotes.{HasVoted, VotesAreKept}
use Rattle.votes.proofs.ToldAborts.{aborts_falls, aborts_step}
use Rattle.votes.proofs.NamedParticipants.{records_answer_step}
use Rattle.votes.proofs.Crashes.{outcome_falls}
use Rattle.votes.proofs.ForgottenTransactions.{IsOver, gone_is_over_step, over_on}
use Rattle.votes.proofs.Growth.{commit_on, committed_backed_on, durable_on, record_on, rollback_on, tells_on, under_aborted_on}
use Rattle.votes.proofs.KeptSeats.{keeps_durable_step}
use Rattle.votes.proofs.Lives.{world_laws}
use Rattle.votes.proofs.Premises.{StepPremises, WorldPremises}
use Rattle.votes.proofs.PreparedVotes.{prepared_recorded}
use Rattle.votes.proofs.ReadOnlyVotes.{read_only_gone}
use Rattle.votes.proofs.Sends.{commits_send, committeds_send, rollbacks_send}
use Rattle.votes.proofs.Starts.{outcome_rises, outcome_waits}
use Rattle.votes.proofs.SeatStates.{seats_say_step}

-- what is known of each reached world
world_premises : (hosts : Hosts) (u : World) → HaveOwnAddresses hosts → Reached hosts u → WorldPremises hosts u
world_premises hosts u distinct reached = record {
  laws = world_laws hosts u distinct reached;
  moves = steps_move;
  tells = steps_tell;
  knowing = coordinators_are_known.reached hosts u distinct reached;
  prepared = prepared_recorded hosts u distinct reached;
  read_only = read_only_gone hosts u distinct reached;
}

step_premises : (hosts : Hosts) (u : World) (n : ℕ) (x : Node) (b : Book) (e : Event) → HaveOwnAddresses hosts → Reached hosts u → nth n u.nodes ≡ Some x → x.book ≡ Some b → Heard u n x e
    → StepPremises hosts u n x b e
step_premises hosts u n x b e distinct reached found up heard =
    record { world = world_premises hosts u distinct reached; found = found; up = up; heard = heard; ready = steps_move.ready hosts u reached n x b found up }

-- a post
abbrev IsBacked : Hosts → World → Post → Type 0
IsBacked hosts w p = CommitIsBacked hosts w p × RollbackIsBacked hosts w p × CommittedIsBacked hosts w p

all_three : (F G H : Post → Type 0) (os : List Out) → AllByRecursion (OutFine F) os → AllByRecursion (OutFine G) os → AllByRecursion (OutFine H) os
    → AllByRecursion (OutFine (λ p. F p × G p × H p)) os
all_three F G H [] f g h = tt
all_three F G H (outs.Post p ∷ os) (f, fs) (g, gs) (h, hs) = ((f, g, h), all_three F G H os fs gs hs)
all_three F G H (outs.Answer status reply ∷ os) (f, fs) (g, gs) (h, hs) = (tt, all_three F G H os fs gs hs)

backed_on : (hosts : Hosts) (u w : World) → Grows u w → (p : Post) → IsBacked hosts u p → IsBacked hosts w p
backed_on hosts u w g p (c, r, d) = (commit_on hosts u w g p c, rollback_on hosts u w g p r, committed_backed_on hosts u w g p d)

posted_outcome : (hosts : Hosts) (w : World) (n : ℕ) (p : Post) → IsOutcome hosts w → IsBacked hosts w p → IsOutcome hosts (with_post n p w)
posted_outcome hosts w n p j (commit, rollback, committed) = record {
  says = λ m y f. all_more (TransactionTells hosts w m) (TransactionTells hosts v m) (book_of y).transactions (tells_on hosts w v g m) (j.says m y f);
  answers = λ m y f. all_more (RecordAnswers hosts w m) (RecordAnswers hosts v m) y.journal (λ r. record_on hosts w v g m r (λ id promise number kind x i. i)) (j.answers m y f);
  keeps = λ m y f. all_more (KeepsItsDurable hosts w m) (KeepsItsDurable hosts v m) (book_of y).transactions
      (λ t h phase. durable_on hosts w v g m t (λ number kind x i. i) (h phase)) (j.keeps m y f);
  commits = all_join (λ q. CommitIsBacked hosts v q.content) w.posted _
      (all_more (λ q. CommitIsBacked hosts w q.content) (λ q. CommitIsBacked hosts v q.content) w.posted (λ q. commit_on hosts w v g q.content) j.commits) (commit_on hosts w v g p commit, tt);
  rollbacks = all_join (λ q. RollbackIsBacked hosts v q.content) w.posted _
      (all_more (λ q. RollbackIsBacked hosts w q.content) (λ q. RollbackIsBacked hosts v q.content) w.posted (λ q. rollback_on hosts w v g q.content) j.rollbacks)
      (rollback_on hosts w v g p rollback, tt);
  committeds = all_join (λ q. CommittedIsBacked hosts v q.content) w.posted _
      (all_more (λ q. CommittedIsBacked hosts w q.content) (λ q. CommittedIsBacked hosts v q.content) w.posted (λ q. committed_backed_on hosts w v g q.content) j.committeds)
      (committed_backed_on hosts w v g p committed, tt);
  aborts = λ x h a. under_aborted_on w v g x (j.aborts x h a);
  gone = λ t x number i. gone_on t x (j.gone t x number i);
}
  where
    v : World
    v = with_post n p w

    g : Grows w v
    g = grows_posts n (p ∷ []) w

    gone_on : (t x : Who) → IsHeld w t ⊎ IsOver w t x → IsHeld v t ⊎ IsOver v t x
    gone_on t x (inl held) = inl (record { node = held.node; found = held.found; transaction = held.transaction; stands = held.stands })
    gone_on t x (inr over) = inr (over_on w v g t x over)

-- the opening world
nothing_yet : (hosts : Hosts) → IsOutcome hosts (opening hosts)
nothing_yet hosts = record {
  says = λ n y f. subst (λ z. AllByRecursion (TransactionTells hosts (opening hosts) n) (book_of z).transactions) (sym (opening_node hosts n y f)) tt;
  answers = λ n y f. subst (λ z. AllByRecursion (RecordAnswers hosts (opening hosts) n) z.journal) (sym (opening_node hosts n y f)) tt;
  keeps = λ n y f. subst (λ z. AllByRecursion (KeepsItsDurable hosts (opening hosts) n) (book_of z).transactions) (sym (opening_node hosts n y f)) tt;
  commits = tt;
  rollbacks = tt;
  committeds = tt;
  aborts = λ x h a. absurd (none_voted x h);
  gone = λ t x number i. absurd i;
}
  where
    none_voted : (x : Who) → HasVoted (opening hosts) x → ⊥
    none_voted x (r, (y, f, i), is) = subst (λ z. IsIn r z.journal) (opening_node hosts x.node y f) i

-- the law
outcome_law : (hosts : Hosts) → HaveOwnAddresses hosts → Law hosts
outcome_law hosts distinct = record {
  Good = IsOutcome hosts;
  Fine = λ w g n p. IsBacked hosts w p;
  opens = nothing_yet hosts;
  steps = λ u n x b e now landed reached found up heard j. stepped_outcome u n x b e now landed j (step_premises hosts u n x b e distinct reached found up heard);
  posts = λ w j n p f. posted_outcome hosts w n p j f;
  still_fine = λ w j n p q f k. backed_on hosts w (with_post n p w) (grows_posts n (p ∷ []) w) q k;
  falls = λ u n x b reached found up j. outcome_falls aborts_falls hosts u n x b (world_premises hosts u distinct reached) found up j;
  rises = λ u n x stop reached found down little j. outcome_rises hosts u n x stop found down j;
  waits = λ u n x clock reached found j. outcome_waits hosts u n x clock found j;
}
  where
    stepped_outcome : (u : World) (n : ℕ) (x : Node) (b : Book) (e : Event) (now : ℕ) (landed : Bool) → IsOutcome hosts u → StepPremises hosts u n x b e
        → (g : IsOutcome hosts (counts u n x b e now landed)) × AllByRecursion (OutFine (IsBacked hosts (counts u n x b e now landed))) (step b e now landed).outs
    stepped_outcome u n x b e now landed j p = (
      record {
        says = seats_say_step hosts u n x b e now landed p j;
        answers = records_answer_step hosts u n x b e now landed p j;
        keeps = keeps_durable_step hosts u n x b e now landed p j;
        commits = all_more (λ q. CommitIsBacked hosts u q.content) (λ q. CommitIsBacked hosts w q.content) u.posted (λ q. commit_on hosts u w g q.content) j.commits;
        rollbacks = all_more (λ q. RollbackIsBacked hosts u q.content) (λ q. RollbackIsBacked hosts w q.content) u.posted (λ q. rollback_on hosts u w g q.content) j.rollbacks;
        committeds = all_more (λ q. CommittedIsBacked hosts u q.content) (λ q. CommittedIsBacked hosts w q.content) u.posted (λ q. committed_backed_on hosts u w g q.content) j.committeds;
        aborts = aborts_step hosts u n x b e now landed p j;
        gone = gone_is_over_step hosts u n x b e now landed p j;
      },
      all_three (CommitIsBacked hosts w) (RollbackIsBacked hosts w) (CommittedIsBacked hosts w) (step b e now landed).outs (commits_send hosts u n x b e now landed p j)
          (rollbacks_send hosts u n x b e now landed p j) (committeds_send hosts u n x b e now landed p j),
    )
      where
        w : World
        w = counts u n x b e now landed

        g : Grows u w
        g = grows_counts u n x b e now landed p.found

world_outcome : (hosts : Hosts) (w : World) → HaveOwnAddresses hosts → Reached hosts w → IsOutcome hosts w
unfolding outcome_law
world_outcome hosts w distinct reached = holds hosts (outcome_law hosts distinct) w reached

pub votes_are_kept : VotesAreKept
votes_are_kept = record {
  prepared = prepared_recorded;
  read_only = read_only_gone;
  prepared_run = λ hosts es few. prepared_recorded hosts (run_of hosts es) few (run_reached hosts es);
  read_only_run = λ hosts es few. read_only_gone hosts (run_of hosts es) few (run_reached hosts es);
}

pub outcomes_are_backed : OutcomesAreBacked
outcomes_are_backed = record { reached = world_outcome; runs = λ hosts es few. world_outcome hosts (run_of hosts es) few (run_reached hosts es) }
