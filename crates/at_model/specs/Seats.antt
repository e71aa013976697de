-- The seats of a transaction and its links: tests, and small changes.
use Rattle.std.specs.Prelude.{ℕ, List, [], ◌∷◌, Option, Some, None, Bool, not, nat_eq, ◌&&◌, ◌||◌, if◌then◌else◌, map, filter, option_map}
use Rattle.std.specs.List.{list_any}
use Rattle.at_base.specs.Numbers.{Numbers}
use Rattle.at_base.specs.declared.notice.Kind.{Kind}
use Rattle.at_base.specs.declared.notice.Kind.TheVariants as kinds
use Rattle.at_base.specs.declared.notice.Notice.{Notice}
use Rattle.at_base.specs.declared.target.Target.{Target}
use Rattle.at_base.specs.declared.target.Target.TheVariants as targets
use Rattle.at_base.specs.declared.record.Seated.{Seated}
use Rattle.at_base.specs.declared.event.Moment.{Moment}
use Rattle.at_base.specs.declared.outs.Post.{Post}
use Rattle.at_base.specs.declared.outs.Ending.{Ending}
use Rattle.at_base.specs.declared.outs.Effect.{Effect}
use Rattle.at_base.specs.declared.outs.Effect.TheVariants as effects
use Rattle.at_tables.specs.declared.cells.State.{State}
use Rattle.at_tables.specs.declared.cells.State.TheVariants as states
use Rattle.at_tables.specs.Names.{is_state}
use Rattle.at_base.specs.Names.{is_kind}
use Rattle.at_model.specs.Book.{Transaction, Enlistment, Completion, Link, Superior, Phase}
use Rattle.at_model.specs.Posts.{notice_post}
use Rattle.at_model.specs.Moves.{Moving, posts, become}

abbrev pub is_durable : Enlistment → Bool
is_durable s = is_kind s.kind kinds.Durable

abbrev pub in_state : State → Enlistment → Bool
in_state state s = is_state s.state state

abbrev pub is_of : Kind → State → Enlistment → Bool
is_of kind state s = is_kind s.kind kind && is_state s.state state

-- No seat of the kind is Active or Preparing: each has voted, or has left.
abbrev pub answered : Kind → List Enlistment → Bool
answered kind seats = not (list_any (λ s. is_of kind states.Active s || is_of kind states.Preparing s) seats)

-- Every durable seat has left.
abbrev pub all_left : List Enlistment → Bool
all_left seats = not (list_any (λ s. is_durable s && not (in_state states.None s)) seats)

-- Active, Preparing or Prepared: what an abort rolls back.
abbrev pub is_open : Enlistment → Bool
is_open s = in_state states.Active s || in_state states.Preparing s || in_state states.Prepared s

abbrev pub is_prepared_durable : Enlistment → Bool
is_prepared_durable s = is_of kinds.Durable states.Prepared s

abbrev pub seated : Enlistment → Seated
seated s = record { number = s.number; endpoint = s.participant }

-- the seats that voted Prepared, as a record has them
abbrev pub prepared : List Enlistment → List Seated
prepared seats = map seated (filter is_prepared_durable seats)

abbrev pub move_if : (Enlistment → Bool) → State → Enlistment → Enlistment
move_if test state s = record s { state = if test s then state else s.state }

-- the seats that pass the test, in this state from now on
abbrev pub moved : (Enlistment → Bool) → State → List Enlistment → List Enlistment
moved test state seats = map (move_if test state) seats

abbrev pub seat_target : Numbers → Enlistment → Target
seat_target id s = targets.Coordinator id (record { number = s.number; kind = s.kind })

-- a notification to each seat that passes the test, in order
abbrev pub notices_to : List ℕ → Numbers → Notice → List Enlistment → (Enlistment → Bool) → List Post
notices_to base id n seats test = map (λ s. notice_post base (seat_target id s) s.participant n) (filter test seats)

-- when the transaction last sent: now, where it sends to such a seat
abbrev pub sent_to : ℕ → Option ℕ → List Enlistment → (Enlistment → Bool) → Option ℕ
sent_to now before seats test = if list_any test seats then Some now else before

-- each seat that passes the test goes into this state and is sent the notification
abbrev pub send_each : Moment → Notice → State → (Enlistment → Bool) → Moving Transaction → Moving Transaction
send_each m n state test g =
    posts (notices_to m.base g.item.id n g.item.seats test)
    (become (record g.item { seats = moved test state g.item.seats; sent = sent_to m.now g.item.sent g.item.seats test }) g)

-- the seat of this number, in this state from now on
abbrev pub seat_in : ℕ → State → Transaction → Transaction
seat_in number state t = record t { seats = moved (λ s. nat_eq s.number number) state t.seats }

abbrev pub in_phase : Phase → Transaction → Transaction
in_phase phase t = record t { phase = phase }

abbrev pub sent_now : Moment → Transaction → Transaction
sent_now m t = record t { sent = Some m.now }

abbrev pub set_link : Kind → Link → Superior → Superior
set_link kinds.Volatile link s = record s { volatile = link }
set_link kinds.Durable link s = record s { durable = link }

abbrev pub link_of : Kind → Superior → Link
link_of kinds.Volatile s = s.volatile
link_of kinds.Durable s = s.durable

-- the link of the kind, in this state from now on
abbrev pub link_in : Kind → State → Superior → Superior
link_in kind state s = set_link kind (record { state = state; coordinator = (link_of kind s).coordinator }) s

abbrev pub under : Superior → Transaction → Transaction
under s t = record t { superior = Some s }

-- how a transaction ended
abbrev pub ending_of : Option Superior → Numbers → Ending → Effect
ending_of None id what = effects.Root id what
ending_of (Some s) id what = effects.Sub id what

abbrev pub ending : Transaction → Ending → Effect
ending t what = ending_of t.superior t.id what

-- the notification to the initiator
abbrev pub initiator_posts : List ℕ → Numbers → Notice → Option Completion → List Post
initiator_posts base id n None = []
initiator_posts base id n (Some c) =
    if is_state c.state states.None then [] else notice_post base (targets.Completion id) c.initiator n ∷ []

-- the completion seat, in this state from now on
abbrev pub completion_in : State → Option Completion → Option Completion
completion_in state c = option_map (λ x. record { initiator = x.initiator; state = state }) c
