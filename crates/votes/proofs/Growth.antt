-- What is said of votes and outcomes stays so while nothing is taken back.
use Rattle.std.specs.Prelude.{ℕ, List, Some, true, false, ◌||◌, ◌≡◌, ◌⊎◌}
use Rattle.std.proofs.Common.{inl, inr, ap}
use Rattle.at_base.specs.Numbers.{Numbers}
use Rattle.at_base.specs.declared.notice.Kind.{Kind}
use Rattle.at_base.specs.declared.notice.Kind.TheVariants as kinds
use Rattle.at_base.specs.declared.notice.Notice.{Notice}
use Rattle.at_base.specs.declared.notice.Notice.TheVariants as notices
use Rattle.at_base.specs.declared.record.Record.{Record}
use Rattle.at_base.specs.declared.record.Record.TheVariants as records
use Rattle.at_base.specs.declared.record.Seated.{Seated}
use Rattle.at_base.specs.declared.outs.Ending.TheVariants as endings
use Rattle.at_base.specs.declared.outs.Post.{Post}
use Rattle.at_tables.specs.declared.cells.State.{State}
use Rattle.at_tables.specs.declared.cells.State.TheVariants as states
use Rattle.at_model.specs.Book.{Enlistment, Transaction}
use Rattle.at_model.specs.Recovery.{is_promise}
use Rattle.at_model.specs.World.{Who, World, Hosts}
use Rattle.model_laws.specs.Agreement.{HasAborted, HasCommitted, HasPosted}
use Rattle.model_laws.specs.Growth.{Grows}
use Rattle.model_laws.proofs.DecisionLaws.{all_more}
use Rattle.model_laws.proofs.Growth.{takes_nothing_back}
use Rattle.model_laws.proofs.RecoveryLaws.{self_id}
use Rattle.votes.specs.NamedParticipants.{HasItsDurable, HasSeat, IsBehindVotes, RecordAnswers}
use Rattle.votes.specs.ToldOutcomes.{CommitIsBacked, CommittedIsBacked, HasCommittedAt, IsUnderAborted, IsUnderCommitted, RollbackIsBacked}
use Rattle.votes.specs.SeatStates.{HasLeft, SeatSays, SeatTells, TransactionTells, who_named}
use Rattle.votes.specs.DurableVotes.{HasVoted}

-- what happened, was posted and was accepted
pub committed_on : (u w : World) → Grows u w → (x : Who) → HasCommitted u x → HasCommitted w x
committed_on u w g x h = takes_nothing_back.ended u w g x endings.Committed h

pub aborted_on : (u w : World) → Grows u w → (x : Who) → HasAborted u x → HasAborted w x
aborted_on u w g x (inl h) = inl (takes_nothing_back.ended u w g x endings.Aborted h)
aborted_on u w g x (inr h) = inr (takes_nothing_back.ended u w g x endings.Lost h)

pub posted_on : (u w : World) → Grows u w → (x : Who) (kind : Kind) (n : Notice) → HasPosted u x kind n → HasPosted w x kind n
posted_on u w g x kind n h = takes_nothing_back.posted u w g x kind n h

pub seat_on : (u w : World) → Grows u w → (t : Who) (number : ℕ) (kind : Kind) (x : Who) → HasSeat u t number kind x → HasSeat w t number kind x
seat_on u w g t number kind x h = takes_nothing_back.accepted u w g t (Some (record { number = number; kind = kind })) x h

pub voted_on : (u w : World) → Grows u w → (x : Who) → HasVoted u x → HasVoted w x
voted_on u w g x (r, stands, is) = (r, takes_nothing_back.stands u w g x.node r stands, is)

-- seats
left_on : (u w : World) → Grows u w → (t x : Who) (kind : Kind) → HasLeft u t x kind → HasLeft w t x kind
left_on u w g t x kinds.Volatile h = posted_on u w g x kinds.Volatile notices.Prepared h
left_on u w g t x kinds.Durable (h, k) = (committed_on u w g x h, committed_on u w g t k)

pub says_on : (u w : World) → Grows u w → (t x : Who) (kind : Kind) (state : State) → SeatSays u t x kind state → SeatSays w t x kind state
says_on u w g t x kind states.Active h = tt
says_on u w g t x kind states.Preparing h = tt
says_on u w g t x kind states.Prepared h = posted_on u w g x kind notices.Prepared h
says_on u w g t x kind states.Committing (h, k) = (posted_on u w g x kind notices.Prepared h, committed_on u w g t k)
says_on u w g t x kind states.Aborting h = aborted_on u w g t h
says_on u w g t x kind states.None (inl h) = inl (aborted_on u w g t h)
says_on u w g t x kind states.None (inr (inl h)) = inr (inl (posted_on u w g x kind notices.ReadOnly h))
says_on u w g t x kind states.None (inr (inr h)) = inr (inr (left_on u w g t x kind h))
says_on u w g t x kind other h = absurd h

pub seat_tells_on : (hosts : Hosts) (u w : World) → Grows u w → (t : Who) (s : Enlistment) → SeatTells hosts u t s → SeatTells hosts w t s
seat_tells_on hosts u w g t s h x named = says_on u w g t x s.kind s.state (h x named)

pub tells_on : (hosts : Hosts) (u w : World) → Grows u w → (n : ℕ) (t : Transaction) → TransactionTells hosts u n t → TransactionTells hosts w n t
tells_on hosts u w g n t h =
    all_more (SeatTells hosts u (record { node = n; id = t.id })) (SeatTells hosts w (record { node = n; id = t.id })) t.seats (seat_tells_on hosts u w g (record { node = n; id = t.id })) h

-- what a transaction has answered behind a record, where it accepts nobody more
abbrev pub AcceptsNoMore : World → World → Who → Type 0
AcceptsNoMore u w t = (number : ℕ) (kind : Kind) (x : Who) → HasSeat w t number kind x → HasSeat u t number kind x

pub behind_on : (hosts : Hosts) (u w : World) → Grows u w → (t : Who) (seats : List Seated) → AcceptsNoMore u w t → IsBehindVotes hosts u t seats → IsBehindVotes hosts w t seats
behind_on hosts u w g t seats no_more h = record {
  named = all_more (λ s. (x : Who) → who_named hosts s.endpoint ≡ Some x → HasPosted u x kinds.Durable notices.Prepared)
      (λ s. (x : Who) → who_named hosts s.endpoint ≡ Some x → HasPosted w x kinds.Durable notices.Prepared) seats (λ s f x e. posted_on u w g x kinds.Durable notices.Prepared (f x e)) h.named;
  volatile = λ number x i. either_volatile number x (h.volatile number x (no_more number kinds.Volatile x i));
  durable = λ number x i. either_durable number x (h.durable number x (no_more number kinds.Durable x i));
}
  where
    either_volatile : (number : ℕ) (x : Who) → HasPosted u x kinds.Volatile notices.Prepared ⊎ HasPosted u x kinds.Volatile notices.ReadOnly
        → HasPosted w x kinds.Volatile notices.Prepared ⊎ HasPosted w x kinds.Volatile notices.ReadOnly
    either_volatile number x (inl k) = inl (posted_on u w g x kinds.Volatile notices.Prepared k)
    either_volatile number x (inr k) = inr (posted_on u w g x kinds.Volatile notices.ReadOnly k)

    either_durable : {A : Type 0} (number : ℕ) (x : Who) → HasPosted u x kinds.Durable notices.ReadOnly ⊎ (HasPosted u x kinds.Durable notices.Prepared × A)
        → HasPosted w x kinds.Durable notices.ReadOnly ⊎ (HasPosted w x kinds.Durable notices.Prepared × A)
    either_durable number x (inl k) = inl (posted_on u w g x kinds.Durable notices.ReadOnly k)
    either_durable number x (inr (k, i)) = inr (posted_on u w g x kinds.Durable notices.Prepared k, i)

pub durable_on : (hosts : Hosts) (u w : World) → Grows u w → (n : ℕ) (t : Transaction) → AcceptsNoMore u w (record { node = n; id = t.id }) → HasItsDurable hosts u n t → HasItsDurable hosts w n t
durable_on hosts u w g n t no_more h number x i = either x (h number x (no_more number kinds.Durable x i))
  where
    either : {A : Type 0} (y : Who) → HasPosted u y kinds.Durable notices.ReadOnly ⊎ A → HasPosted w y kinds.Durable notices.ReadOnly ⊎ A
    either y (inl k) = inl (posted_on u w g y kinds.Durable notices.ReadOnly k)
    either y (inr k) = inr k

pub record_on : (hosts : Hosts) (u w : World) → Grows u w → (n : ℕ) (r : Record) → ((id : Numbers) → is_promise id r ≡ true → AcceptsNoMore u w (record { node = n; id = id })) → RecordAnswers hosts u n r
    → RecordAnswers hosts w n r
record_on hosts u w g n (records.Voted id superior seats) no_more h =
    behind_on hosts u w g (record { node = n; id = id }) seats (no_more id (ap (λ b. b || false) (self_id id))) h
record_on hosts u w g n (records.Decided id seats) no_more h = behind_on hosts u w g (record { node = n; id = id }) seats (no_more id (self_id id)) h
record_on hosts u w g n (records.Start incarnation) no_more h = tt
record_on hosts u w g n (records.LeafPrepared id coordinator key value) no_more h = tt
record_on hosts u w g n (records.LeafCommitted id) no_more h = tt
record_on hosts u w g n (records.LeafAborted id) no_more h = tt
record_on hosts u w g n (records.SubCommitted id) no_more h = tt
record_on hosts u w g n (records.Ended id) no_more h = tt
record_on hosts u w g n (records.Done id) no_more h = tt

-- what outcomes are backed by
pub under_committed_on : (u w : World) → Grows u w → (x : Who) (kind : Kind) → IsUnderCommitted u x kind → IsUnderCommitted w x kind
under_committed_on u w g x kind h =
    record { transaction = h.transaction; number = h.number; seat = seat_on u w g h.transaction h.number kind x h.seat; committed = committed_on u w g h.transaction h.committed }

pub under_aborted_on : (u w : World) → Grows u w → (x : Who) → IsUnderAborted u x → IsUnderAborted w x
under_aborted_on u w g x h =
    record { transaction = h.transaction; number = h.number; seat = seat_on u w g h.transaction h.number kinds.Durable x h.seat; aborted = aborted_on u w g h.transaction h.aborted }

pub commit_on : (hosts : Hosts) (u w : World) → Grows u w → (p : Post) → CommitIsBacked hosts u p → CommitIsBacked hosts w p
commit_on hosts u w g p h to m i kind says goes leads =
    let (voted, under) = h to m i kind says goes leads in
    (posted_on u w g (record { node = m; id = i }) kind notices.Prepared voted, under_committed_on u w g (record { node = m; id = i }) kind under)

pub rollback_on : (hosts : Hosts) (u w : World) → Grows u w → (p : Post) → RollbackIsBacked hosts u p → RollbackIsBacked hosts w p
rollback_on hosts u w g p h to m i says goes leads = either (h to m i says goes leads)
  where
    either : HasCommitted u (record { node = m; id = i }) ⊎ IsUnderAborted u (record { node = m; id = i })
        → HasCommitted w (record { node = m; id = i }) ⊎ IsUnderAborted w (record { node = m; id = i })
    either (inl k) = inl (committed_on u w g (record { node = m; id = i }) k)
    either (inr k) = inr (under_aborted_on u w g (record { node = m; id = i }) k)

pub committed_backed_on : (hosts : Hosts) (u w : World) → Grows u w → (p : Post) → CommittedIsBacked hosts u p → CommittedIsBacked hosts w p
committed_backed_on hosts u w g p h to n j number says goes leads =
    let k : HasCommittedAt u (record { node = n; id = j }) number = h to n j number says goes leads in
    record {
      participant = k.participant;
      seat = seat_on u w g (record { node = n; id = j }) number kinds.Durable k.participant k.seat;
      committed = committed_on u w g k.participant k.committed;
    }
