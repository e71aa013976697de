-- Agreement, over every run.
use Rattle.std.specs.Prelude.{ℕ, List, Option, Some, None, ◌≡◌, ◌⊎◌}
use Rattle.std.proofs.Common.{inl, inr, sym, subst, ◌∙◌}
use Rattle.at_base.specs.declared.notice.Kind.TheVariants as kinds
use Rattle.at_base.specs.declared.notice.Notice.TheVariants as notices
use Rattle.at_base.specs.declared.outs.Effect.{Effect}
use Rattle.at_base.specs.declared.outs.Effect.TheVariants as effects
use Rattle.at_base.specs.declared.outs.Ending.TheVariants as endings
use Rattle.at_base.specs.declared.outs.Told.TheVariants as tellings
use Rattle.at_base.specs.declared.record.Record.{Record}
use Rattle.at_base.specs.declared.record.Record.TheVariants as records
use Rattle.at_base.specs.declared.record.Seated.{Seated}
use Rattle.at_model.specs.Book.{Transaction}
use Rattle.at_model.specs.Step.{transaction_at}
use Rattle.at_model.specs.World.{Happened, Node, Who, World, happened_at, run_of, Hosts, HaveOwnAddresses}
use Rattle.model_laws.specs.Agreement.{Agrees, HasAborted, HasCommitted, HasPosted, IsAnswered, IsIn, IsToldTruly, Stands}
use Rattle.model_laws.specs.ReachedWorlds.{Reached}
use Rattle.model_laws.proofs.ReachedWorlds.{run_reached}
use Rattle.agreement.specs.Lives.{book_of}
use Rattle.agreement.proofs.SeatedEntries.{one_of}
use Rattle.enlistments.proofs.StepNotices.{steps_tell}
use Rattle.enlistments.proofs.KnownCoordinators.{coordinators_are_known}
use Rattle.enlistments.proofs.StepMoves.{steps_move}
use Rattle.votes.specs.NamedParticipants.{IsBehindVotes, RecordAnswers}
use Rattle.votes.specs.ToldOutcomes.{IsHeld, IsUnderAborted, IsUnderCommitted}
use Rattle.votes.specs.VotesAndOutcomes.{IsOutcome}
use Rattle.votes.specs.DurableVotes.{LeftNoTrace}
use Rattle.votes.proofs.ItemEnds.{not_ended}
use Rattle.votes.proofs.VotesAndOutcomes.{outcomes_are_backed, votes_are_kept}
use Rattle.votes.proofs.Premises.{WorldPremises}
use Rattle.votes.proofs.EffectNodes.{one_end}
use Rattle.outcomes.specs.Bonds.{CommittedBelow, IsBound, IsUnder, IsUnderOne}
use Rattle.outcomes.specs.Foundations.{AreFounded, IsFounded, OutcomesAreFounded}
use Rattle.outcomes.proofs.DoneSeats.{done_commits}
use Rattle.outcomes.proofs.Depth.{behind_answers, whole}
use Rattle.outcomes.proofs.Foundations.{all_founded, all_told}
use Rattle.outcomes.proofs.Layers.{Layers, world_premises}
use Rattle.outcomes.proofs.SingleEnds.{once}

pub layers : Layers
layers = record { moves = steps_move; tells = steps_tell; known = coordinators_are_known; kept = votes_are_kept; backed = outcomes_are_backed }

pub outcomes_are_founded : OutcomesAreFounded
outcomes_are_founded = record { told = all_told layers done_commits; founded = all_founded layers done_commits }

-- what happened is founded
founded : (w : World) → AreFounded w → (n : ℕ) (f : Effect) → IsIn (happened_at n f) w.happened → IsFounded w n f
founded w h n f i = one_of (λ (g : Happened). IsFounded w g.node g.what) w.happened (happened_at n f) h i

under_committed : (w : World) (x : Who) → IsUnderCommitted w x kinds.Durable → IsUnderOne w (HasCommitted w) x
under_committed w x h = (h.transaction, (h.number, h.seat), h.committed)

told : (w : World) → AreFounded w → (x : Who) → CommittedBelow w x → IsUnderOne w (HasCommitted w) x
told w h x (inl i) = under_committed w x (founded w h x.node (effects.Sub x.id endings.Committed) i).1
told w h x (inr i) = under_committed w x (founded w h x.node (effects.Leaf x.id kinds.Durable endings.Committed) i)

-- who voted ReadOnly is gone
gone_left : (w : World) (x : Who) → LeftNoTrace w x → HasAborted w x ⊎ HasCommitted w x → ⊥
gone_left w x h (inl (inl a)) = not_ended w x.node x.id h.ended endings.Aborted a
gone_left w x h (inl (inr a)) = not_ended w x.node x.id h.ended endings.Lost a
gone_left w x h (inr c) = not_ended w x.node x.id h.ended endings.Committed c

not_held : (w : World) (x : Who) → LeftNoTrace w x → IsHeld w x → ⊥
not_held w x h k =
    let same : k.node ≡ h.node = one_node k.node h.node (sym k.found ∙ h.found) in
    none (transaction_at (book_of h.node) x.id) h.transaction (subst (λ y. transaction_at (book_of y) x.id ≡ Some k.transaction) same k.stands)
  where
    one_node : (y z : Node) → Some y ≡ Some z → y ≡ z
    one_node y z e = cc

    none : (o : Option Transaction) → o ≡ None → o ≡ Some k.transaction → ⊥
    none o e f = let g : None ≡ Some k.transaction = sym e ∙ f in cc

left_below : (hosts : Hosts) (w : World) → WorldPremises hosts w → IsOutcome hosts w → (t x : Who) → HasPosted w t kinds.Durable notices.ReadOnly → IsUnder w t x
    → HasPosted w x kinds.Durable notices.ReadOnly ⊎ HasCommitted w x
left_below hosts w p j t x r (number, seat) = by_case (j.gone t x number seat)
  where
    gone : LeftNoTrace w t
    gone = p.read_only t r

    by_case : IsHeld w t ⊎ (HasAborted w t ⊎ (HasPosted w x kinds.Durable notices.ReadOnly ⊎ HasCommitted w x)) → HasPosted w x kinds.Durable notices.ReadOnly ⊎ HasCommitted w x
    by_case (inl h) = absurd (not_held w t gone h)
    by_case (inr (inl a)) = absurd (gone_left w t gone (inl a))
    by_case (inr (inr h)) = h

-- behind every answer
behind_votes : (hosts : Hosts) (w : World) (t : Who) (seats : List Seated) → IsBehindVotes hosts w t seats → IsAnswered w t
behind_votes hosts w t seats h number kinds.Volatile x i = h.volatile number x i
behind_votes hosts w t seats h number kinds.Durable x i = by_vote (h.durable number x i)
  where
    by_vote : {A : Type 0} → HasPosted w x kinds.Durable notices.ReadOnly ⊎ (HasPosted w x kinds.Durable notices.Prepared × A)
        → HasPosted w x kinds.Durable notices.Prepared ⊎ HasPosted w x kinds.Durable notices.ReadOnly
    by_vote (inl r) = inr r
    by_vote (inr (v, named)) = inl v

record_answers : (hosts : Hosts) (w : World) → IsOutcome hosts w → (n : ℕ) (r : Record) → Stands w n r → RecordAnswers hosts w n r
record_answers hosts w j n r (y, found, i) = one_of (RecordAnswers hosts w n) y.journal r (j.answers n y found) i

under_aborted : (w : World) (x : Who) → IsUnderAborted w x → IsUnderOne w (HasAborted w) x
under_aborted w x h = (h.transaction, (h.number, h.seat), h.aborted)

pub bound : (hosts : Hosts) (w : World) → HaveOwnAddresses hosts → Reached hosts w → IsBound w
bound hosts w distinct reached = record {
  one = one_end hosts w premises.laws;
  hosts = hosts;
  sorted = premises.laws.sorted;
  superior = premises.laws.one;
  told = told w all;
  rolled_back = λ x v a. under_aborted w x (joint.aborts x v a);
  recorded = premises.prepared;
  left = λ x r. gone_left w x (premises.read_only x r);
  left_below = left_below hosts w premises joint;
  voted = λ t superior seats s. behind_votes hosts w t seats (record_answers hosts w joint t.node (records.Voted t.id superior seats) s);
  answered = λ t i.
      let (seats, s) = founded w all t.node (effects.Root t.id endings.Committed) i in
      behind_votes hosts w t seats (record_answers hosts w joint t.node (records.Decided t.id seats) s);
  behind = λ t i. (founded w all t.node (effects.Sub t.id endings.Committed) i).0;
}
  where
    premises : WorldPremises hosts w
    premises = world_premises layers hosts w distinct reached

    joint : IsOutcome hosts w
    joint = outcomes_are_backed.reached hosts w distinct reached

    all : AreFounded w
    all = outcomes_are_founded.founded hosts w distinct reached

told_truly : (w : World) → AreFounded w → IsToldTruly w
told_truly w h = record {
  committed = λ a i. founded w h a.node (effects.Told a.id tellings.Committed) i;
  aborted = λ a i. founded w h a.node (effects.Told a.id tellings.Aborted) i;
}

pub agrees : Agrees
agrees = record {
  agreed = λ hosts es few. record { whole = whole (run_of hosts es) (bound hosts (run_of hosts es) few (run_reached hosts es)); once = once hosts es };
  behind = λ hosts es few. behind_answers (run_of hosts es) (bound hosts (run_of hosts es) few (run_reached hosts es));
  told = λ hosts es few. told_truly (run_of hosts es) (outcomes_are_founded.founded hosts (run_of hosts es) few (run_reached hosts es));
}
