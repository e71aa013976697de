-- Where a node starts, or time passes at it, its book stands for the same as before.
use Rattle.std.specs.Prelude.{ℕ, List, [], ◌∷◌, ◌++◌, Option, Some, None, Bool, true, false, nat_eq, ◌+◌, ◌≡◌, ◌⊎◌, refl}
use Rattle.std.specs.List.{AllByRecursion}
use Rattle.std.proofs.Common.{inl, inr, sym, subst, ap, ◌∙◌}
use Rattle.std.proofs.lemmas.Bool.{eqb-true, eqb-false}
use Rattle.std.proofs.lemmas.List.{append-nil}
use Rattle.at_base.specs.Numbers.{Numbers}
use Rattle.at_base.specs.declared.record.Record.{Record}
use Rattle.at_base.specs.declared.record.Record.TheVariants as records
use Rattle.at_model.specs.Book.{Transaction, find_by, transaction_id}
use Rattle.at_model.specs.Recovery.{last_incarnation, recover, transactions_of, in_order}
use Rattle.at_model.specs.World.{Node, Who, World, nth, put_nth, started, up_after, Hosts}
use Rattle.model_laws.specs.Agreement.{IsIn}
use Rattle.model_laws.specs.DrawnIds.{restarted}
use Rattle.model_laws.specs.Growth.{Grows}
use Rattle.model_laws.proofs.DecisionLaws.{all_join, all_more}
use Rattle.model_laws.proofs.Growth.{grows_rises, grows_waits}
use Rattle.model_laws.proofs.Nodes.{each_put}
use Rattle.model_laws.proofs.NodeLives.{put_other, put_this}
use Rattle.agreement.specs.Lives.{book_of, standing}
use Rattle.agreement.proofs.Journals.{journals_live}
use Rattle.agreement.proofs.SeatedEntries.{in_either, one_of}
use Rattle.votes.specs.NamedParticipants.{KeepsItsDurable, RecordAnswers}
use Rattle.votes.specs.ToldOutcomes.{CommitIsBacked, CommittedIsBacked, IsHeld, RollbackIsBacked}
use Rattle.votes.specs.VotesAndOutcomes.{IsOutcome}
use Rattle.votes.specs.SeatStates.{TransactionTells}
use Rattle.votes.specs.DurableVotes.{HasVoted, is_vote}
use Rattle.votes.proofs.ForgottenTransactions.{IsOver, over_on}
use Rattle.votes.proofs.Growth.{commit_on, committed_backed_on, durable_on, record_on, rollback_on, tells_on, under_aborted_on}

-- a start
abbrev IsStart : Record → Type 0
IsStart (records.Start incarnation) = Unit {0}
IsStart other = ⊥

start_answers : (hosts : Hosts) (w : World) (n : ℕ) (r : Record) → IsStart r → RecordAnswers hosts w n r
start_answers hosts w n (records.Start incarnation) h = tt
start_answers hosts w n other h = absurd h

no_vote : (id : Numbers) (r : Record) → IsStart r → is_vote id r ≡ true → ⊥
no_vote id (records.Start incarnation) h e = cc
no_vote id other h e = absurd h

-- a node that is put, with the same transactions and further starts
record IsLike (u : World) (n : ℕ) (x z : Node) : Type 0 where
  found : nth n u.nodes ≡ Some x
  grows : Grows u (record u { nodes = put_nth n z u.nodes })
  more : List Record
  starts : AllByRecursion IsStart more
  journal : z.journal ≡ x.journal ++ more
  transactions : (book_of z).transactions ≡ (book_of x).transactions

abbrev with_node : ℕ → Node → World → World
with_node n z u = record u { nodes = put_nth n z u.nodes }

one_same : {A : Type 0} (o : Option A) (x y : A) → o ≡ Some x → o ≡ Some y → x ≡ y
one_same o x y e f = cc

voted_before : (u : World) (n : ℕ) (x z : Node) → IsLike u n x z → (w : Who) → HasVoted (with_node n z u) w → HasVoted u w
voted_before u n x z l w (r, (y, f, i), is) = by_node (nat_eq w.node n) refl
  where
    in_front_part : IsIn r x.journal ⊎ IsIn r l.more → IsIn r x.journal
    in_front_part (inl k) = k
    in_front_part (inr k) = absurd (no_vote w.id r (one_of IsStart l.more r l.starts k) is)

    by_node : (c : Bool) → nat_eq w.node n ≡ c → HasVoted u w
    by_node true c =
        let here : w.node ≡ n = eqb-true w.node n c in
        let this : z ≡ y = one_same (nth n (put_nth n z u.nodes)) z y (put_this u.nodes n x z l.found) (ap (λ k. nth k (put_nth n z u.nodes)) (sym here) ∙ f) in (
          r,
          (
            x,
            ap (λ k. nth k u.nodes) here ∙ l.found,
            in_front_part (in_either r x.journal l.more (subst (IsIn r) (ap (λ (v : Node). v.journal) (sym this) ∙ l.journal) i)),
          ),
          is,
        )
    by_node false c = (r, (y, sym (put_other u.nodes w.node n z (eqb-false w.node n c)) ∙ f, i), is)

held_like : (u : World) (n : ℕ) (x z : Node) → IsLike u n x z → (t : Who) → IsHeld u t → IsHeld (with_node n z u) t
held_like u n x z l t held = by_node (nat_eq t.node n) refl
  where
    by_node : (c : Bool) → nat_eq t.node n ≡ c → IsHeld (with_node n z u) t
    by_node true c =
        let here : t.node ≡ n = eqb-true t.node n c in
        let this : held.node ≡ x = one_same (nth n u.nodes) held.node x (ap (λ k. nth k u.nodes) (sym here) ∙ held.found) l.found in
        record {
          node = z;
          found = ap (λ k. nth k (put_nth n z u.nodes)) here ∙ put_this u.nodes n x z l.found;
          transaction = held.transaction;
          stands = ap (find_by transaction_id t.id) (l.transactions ∙ ap (λ (v : Node). (book_of v).transactions) (sym this)) ∙ held.stands;
        }
    by_node false c = record { node = held.node; found = put_other u.nodes t.node n z (eqb-false t.node n c) ∙ held.found; transaction = held.transaction; stands = held.stands }

stays_like : (hosts : Hosts) (u : World) (n : ℕ) (x z : Node) → IsLike u n x z → IsOutcome hosts u → IsOutcome hosts (with_node n z u)
stays_like hosts u n x z l j = record {
  says = λ m y f. each_put (λ k v. AllByRecursion (TransactionTells hosts w k) (book_of v).transactions) u.nodes n x z l.found
      (subst (AllByRecursion (TransactionTells hosts w n)) (sym l.transactions)
      (all_more (TransactionTells hosts u n) (TransactionTells hosts w n) (book_of x).transactions (tells_on hosts u w l.grows n) (j.says n x l.found)))
      (λ k v differ r. all_more (TransactionTells hosts u k) (TransactionTells hosts w k) (book_of v).transactions (tells_on hosts u w l.grows k) (j.says k v r)) m y f;
  answers = λ m y f. each_put (λ k v. AllByRecursion (RecordAnswers hosts w k) v.journal) u.nodes n x z l.found
      (subst (AllByRecursion (RecordAnswers hosts w n)) (sym l.journal)
      (all_join (RecordAnswers hosts w n) x.journal l.more (all_more (RecordAnswers hosts u n) (RecordAnswers hosts w n) x.journal (same_record n) (j.answers n x l.found))
      (all_more IsStart (RecordAnswers hosts w n) l.more (start_answers hosts w n) l.starts)))
      (λ k v differ r. all_more (RecordAnswers hosts u k) (RecordAnswers hosts w k) v.journal (same_record k) (j.answers k v r)) m y f;
  keeps = λ m y f. each_put (λ k v. AllByRecursion (KeepsItsDurable hosts w k) (book_of v).transactions) u.nodes n x z l.found
      (subst (AllByRecursion (KeepsItsDurable hosts w n)) (sym l.transactions)
      (all_more (KeepsItsDurable hosts u n) (KeepsItsDurable hosts w n) (book_of x).transactions (same_durable n) (j.keeps n x l.found)))
      (λ k v differ r. all_more (KeepsItsDurable hosts u k) (KeepsItsDurable hosts w k) (book_of v).transactions (same_durable k) (j.keeps k v r)) m y f;
  commits = all_more (λ p. CommitIsBacked hosts u p.content) (λ p. CommitIsBacked hosts w p.content) u.posted (λ p. commit_on hosts u w l.grows p.content) j.commits;
  rollbacks = all_more (λ p. RollbackIsBacked hosts u p.content) (λ p. RollbackIsBacked hosts w p.content) u.posted (λ p. rollback_on hosts u w l.grows p.content) j.rollbacks;
  committeds = all_more (λ p. CommittedIsBacked hosts u p.content) (λ p. CommittedIsBacked hosts w p.content) u.posted (λ p. committed_backed_on hosts u w l.grows p.content) j.committeds;
  aborts = λ y h a. under_aborted_on u w l.grows y (j.aborts y (voted_before u n x z l y h) a);
  gone = λ t y number h. gone_like t y (j.gone t y number h);
}
  where
    w : World
    w = with_node n z u

    same_record : (k : ℕ) (r : Record) → RecordAnswers hosts u k r → RecordAnswers hosts w k r
    same_record k r = record_on hosts u w l.grows k r (λ id promise number kind y i. i)

    same_durable : (k : ℕ) (t : Transaction) → KeepsItsDurable hosts u k t → KeepsItsDurable hosts w k t
    same_durable k t h phase = durable_on hosts u w l.grows k t (λ number kind y i. i) (h phase)

    gone_like : (t y : Who) → IsHeld u t ⊎ IsOver u t y → IsHeld w t ⊎ IsOver w t y
    gone_like t y (inl held) = inl (held_like u n x z l t held)
    gone_like t y (inr over) = inr (over_on u w l.grows t y over)

-- a start, at which the node may stop at once
pub recovered_same : (base : List ℕ) (rs : List Record) → (recover base (restarted rs)).transactions ≡ (recover base rs).transactions
recovered_same base rs = ap (λ ls. in_order transaction_id (transactions_of base ls)) (journals_live.start rs (last_incarnation rs + 1))

up_same : (x : Node) (stop : Bool) → x.book ≡ None → (book_of (up_after (started (last_incarnation x.journal + 1) x) stop)).transactions ≡ (book_of x).transactions
up_same x true down = recovered_same x.base x.journal ∙ ap (λ o. (standing x.base x.journal o).transactions) (sym down)
up_same x false down = recovered_same x.base x.journal ∙ ap (λ o. (standing x.base x.journal o).transactions) (sym down)

pub outcome_rises : (hosts : Hosts) (u : World) (n : ℕ) (x : Node) (stop : Bool) → nth n u.nodes ≡ Some x → x.book ≡ None → IsOutcome hosts u
    → IsOutcome hosts (record u { nodes = put_nth n (up_after (started (last_incarnation x.journal + 1) x) stop) u.nodes })
outcome_rises hosts u n x stop found down j =
    stays_like hosts u n x (up_after (started (last_incarnation x.journal + 1) x) stop)
    (record {
      found = found;
      grows = grows_rises u n x stop found;
      more = records.Start (last_incarnation x.journal + 1) ∷ [];
      starts = (tt, tt);
      journal = refl;
      transactions = up_same x stop down;
    }) j

pub outcome_waits : (hosts : Hosts) (u : World) (n : ℕ) (x : Node) (clock : ℕ) → nth n u.nodes ≡ Some x → IsOutcome hosts u
    → IsOutcome hosts (record u { nodes = put_nth n (record x { clock = clock }) u.nodes })
outcome_waits hosts u n x clock found j =
    stays_like hosts u n x (record x { clock = clock })
    (record { found = found; grows = grows_waits u n x clock found; more = []; starts = tt; journal = sym (append-nil x.journal); transactions = refl }) j
