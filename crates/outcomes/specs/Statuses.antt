-- How a run of the model is seen as one of the machine of atomic commit.
use Rattle.std.specs.Prelude.{List, [], ◌∷◌, ◌++◌, Option, Some, None, Bool, true, false, if◌then◌else◌, nat_eq, ◌&&◌, ◌||◌, ◌≡◌}
use Rattle.std.specs.List.{list_any}
use Rattle.at_base.specs.Numbers.{Numbers}
use Rattle.at_base.specs.declared.notice.Kind.{Kind}
use Rattle.at_base.specs.declared.notice.Kind.TheVariants as kinds
use Rattle.at_base.specs.declared.notice.Notice.TheVariants as notices
use Rattle.at_base.specs.declared.message.Message.{Message}
use Rattle.at_base.specs.declared.message.Message.TheVariants as messages
use Rattle.at_base.specs.declared.outs.Ending.{Ending}
use Rattle.at_base.specs.declared.outs.Ending.TheVariants as endings
use Rattle.at_base.specs.declared.outs.Effect.{Effect}
use Rattle.at_base.specs.declared.outs.Effect.TheVariants as effects
use Rattle.at_base.specs.declared.target.Seat.{Seat}
use Rattle.at_base.specs.declared.target.Target.{Target}
use Rattle.at_base.specs.declared.target.Target.TheVariants as targets
use Rattle.at_base.specs.Names.{is_notice}
use Rattle.at_model.specs.Book.{is_id}
use Rattle.at_model.specs.World.{Accepted, Node, Who, World, WorldEvent, nth, run_of, Hosts, HaveOwnAddresses}
use Rattle.model_laws.specs.Agreement.{HasAborted, HasCommitted, HasPosted, IsOf}
use Rattle.votes.specs.DurableVotes.{HasVoted, is_vote}
use Rattle.outcomes.specs.AtomicCommit.{Goes, IsConsistent, IsMember, Joined, State, Status, Step}

-- what an effect says of the item: it ended so
abbrev pub is_ending : Ending → Ending → Bool
is_ending endings.Committed endings.Committed = true
is_ending endings.Aborted endings.Aborted = true
is_ending endings.Lost endings.Lost = true
is_ending what other = false

abbrev pub says_end : Numbers → Ending → Effect → Bool
says_end id what (effects.Root i w) = is_id i id && is_ending w what
says_end id what (effects.Sub i w) = is_id i id && is_ending w what
says_end id what (effects.Leaf i kinds.Durable w) = is_id i id && is_ending w what
says_end id what other = false

abbrev pub has_ended : World → Who → Ending → Bool
has_ended w x what = list_any (λ h. nat_eq h.node x.node && says_end x.id what h.what) w.happened

-- it posted ReadOnly as a durable participant
abbrev pub is_own : Numbers → Option Target → Bool
is_own id (Some (targets.Participant i kinds.Durable)) = is_id i id
is_own id other = false

abbrev pub says_read_only : Message → Bool
says_read_only (messages.Notice n) = is_notice n notices.ReadOnly
says_read_only other = false

abbrev pub has_left : World → Who → Bool
has_left w x = list_any (λ p. nat_eq p.sender x.node && (is_own x.id p.content.own && says_read_only p.content.message)) w.posted

-- its vote Prepared is recorded
abbrev pub votes_in : Numbers → Option Node → Bool
votes_in id None = false
votes_in id (Some y) = list_any (is_vote id) y.journal

abbrev pub status_of : World → Who → Status
status_of w x =
    if has_ended w x endings.Committed then Status.Committed
    else if has_ended w x endings.Aborted || has_ended w x endings.Lost then Status.Aborted
    else if has_left w x then Status.Left
    else if votes_in x.id (nth x.node w.nodes) then Status.Prepared
    else Status.Working

-- What a status says of an item, by the predicates of agreement.
abbrev pub Seen : World → Who → Status → Type 0
Seen w x Status.Committed = HasCommitted w x
Seen w x Status.Aborted = HasAborted w x
Seen w x Status.Left = HasPosted w x kinds.Durable notices.ReadOnly
Seen w x Status.Prepared =
    HasVoted w x × (HasCommitted w x → ⊥) × (HasAborted w x → ⊥) × (HasPosted w x kinds.Durable notices.ReadOnly → ⊥)
Seen w x Status.Working =
    (HasVoted w x → ⊥) × (HasCommitted w x → ⊥) × (HasAborted w x → ⊥) × (HasPosted w x kinds.Durable notices.ReadOnly → ⊥)

-- Who joined under whom: each durable registration that was accepted, of an item.
abbrev pub joined_as : Kind → Who → Who → List Joined
joined_as kinds.Durable t x = record { under = t; member = x } ∷ []
joined_as kinds.Volatile t x = []

abbrev pub joined_at : Who → Option Seat → Option Who → List Joined
joined_at t (Some s) (Some x) = joined_as s.kind t x
joined_at t seat participant = []

abbrev pub joined_in : List Accepted → List Joined
joined_in [] = []
joined_in (a ∷ rest) = joined_at a.transaction a.seat a.participant ++ joined_in rest

-- The state of the machine that a world shows.
abbrev pub state_of : World → State
state_of w = record { joined = joined_in w.accepted; status = status_of w }

pub record RunsCommitAtomically : Type 0 where
  -- a run begins where everybody works
  pub opens : (hosts : Hosts) (x : Who) → status_of (run_of hosts []) x ≡ Status.Working
  -- each further event of a run is one step of the machine, for each root
  pub steps : (hosts : Hosts) (es : List WorldEvent) (e : WorldEvent) (root : Who) → HaveOwnAddresses hosts
      → Step root (state_of (run_of hosts es)) (state_of (run_of hosts (es ++ e ∷ [])))
  -- so the machine goes to what is seen of each run
  pub runs : (hosts : Hosts) (es : List WorldEvent) (root : Who) → HaveOwnAddresses hosts → Goes root (state_of (run_of hosts es))
  -- what is seen is so, and its members are those of the root
  pub seen : (w : World) (x : Who) → Seen w x (status_of w x)
  pub members : (w : World) (root x : Who) → IsOf w x root → IsMember (state_of w) root x
  pub no_others : (w : World) (root x : Who) → IsMember (state_of w) root x → IsOf w x root
  -- and wherever the machine goes, none that committed is beside one that aborted
  pub consistent : IsConsistent
