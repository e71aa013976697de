-- Behind a request of a node in a net that mirrors a world its journal isn't written anew.
use Rattle.std.specs.Prelude.{ℕ, List, [], ◌≡◌, drop, length}
use Rattle.std.proofs.Common.{ap, append-nil, inr, refl, subst, sym, ◌∙◌}
use Rattle.std.proofs.Math.Seq.{drop-append_seam}
use Rattle.at_base.specs.declared.event.Event.TheVariants as events
use Rattle.at_base.specs.declared.event.Local.{Local}
use Rattle.at_model.specs.Step.{Plan, plan}
use Rattle.at_model.specs.World.{example_base, example_hosts}
use Rattle.memory_net.specs.Calls.{Requests}
use Rattle.memory_net.specs.Closed.{ExamplesAskSo}
use Rattle.node_at.specs.Doings.{Doing}
use Rattle.node_at.specs.Locals.{Asked, IsTime}
use Rattle.node_at.specs.State.{seen}
use Rattle.node_at.specs.TurnText.{IsStep, TurnStep}
use Rattle.node_at.specs.declared.local.Locally.{Locally}
use Rattle.node_at.specs.declared.local.Locally.TheVariants as answers
use Rattle.node_at.specs.declared.node.Node.{Node as Noded}
use Rattle.node_events.specs.NodeEvents.{IsAsk, RequestsAreEvents}
use Rattle.node_worlds.specs.Acts.{IsUp}
use Rattle.node_worlds.specs.Nets.{Place}
use Rattle.site_memory.specs.Devices.{calls_in}
use Rattle.site_memory.specs.Sites.{told_of}
use Rattle.site_memory.specs.declared.machine.MemSite.{MemSite}
use Rattle.site_model.specs.Told.{Made}
use Rattle.mirrored_nets.specs.Fates.{anew_of}
use Rattle.mirrored_nets.specs.Mirrors.{Mirrors}
use Rattle.mirrored_nets.specs.Took.{Adds, AnswersSo, HasRoom}
use Rattle.mirrored_nets.specs.declared.came.Came.TheVariants as cames
use Rattle.mirrored_nets.specs.declared.armed.Armed.{Armed}
use Rattle.mirrored_nets.proofs.CalledFates.{local_called, planned_calls}
use Rattle.mirrored_nets.proofs.CallsRead.{Read, anew_behind}
use Rattle.mirrored_nets.proofs.FallenHosts.{InWorld, IsBefore, NetLaws, in_world, up_there}
use Rattle.mirrored_nets.proofs.RequestsRead.{doing_done, fate_landed, is_doing, is_step, request_read, step_done}
use Rattle.mirrored_nets.proofs.ToldFares.{HaveCalls}
use Rattle.mirrored_nets.proofs.TurnsTaken.{TurnLaws, fits, owned}
use Rattle.reading_laws.specs.RequestsAreRead.{IsRequestHere}

module _ (L : NetLaws) (K : TurnLaws) (asks : RequestsAreEvents) (ask_so : ExamplesAskSo) (i count : ℕ) (request : Local) (n m : Noded) (old new : MemSite) (armed : Armed) (made : List Made)
    (S : IsRequestHere i count request n old armed) (has : HasRoom old) (adds : Adds made old new) where
  abbrev M : Mirrors count S.hosts S.clocks S.mails S.world
  M = S.mirrors

  abbrev p : Place
  p = (M.stands.holds i S.host S.here).place

  before : IsBefore S.host old
  before = record { opening = S.set.opening; calls = S.set.calls }

  abbrev there : InWorld L count S.few S.hosts S.clocks S.mails S.mails S.world M i S.host S.host n S.here S.up S.clock S.time old before
  there = in_world L count S.few S.hosts S.clocks S.mails S.mails S.world M i S.host S.host n S.here S.up S.clock S.time old before

  up_here : IsUp p.records (seen n) (told_of old)
  up_here = up_there L count S.few S.hosts S.clocks S.mails S.mails S.world M i S.host S.host n S.here S.up S.clock S.time old before

  time_is : (now : ℕ) → IsTime now (told_of old) → now ≡ there.node.clock
  time_is now at = at old.clock refl ∙ S.set.clock ∙ sym there.clock

  -- it was done
  module _ (id : _) (D : Asked (answers.Done id) (seen n) (seen m) request (told_of old) (told_of new)) where
    abbrev now : ℕ
    now = D.3.0

    now_is : now ≡ there.node.clock
    now_is = time_is now D.3.2

    abbrev its_step : TurnStep
    its_step = step_done (seen n) (seen m) request now D.3.1 old new D.3.3

    abbrev its_doing : Doing
    its_doing = doing_done (seen n) (seen m) request now D.3.1 old new D.3.3

    abbrev the_plan : Plan
    the_plan = plan n.book (events.Local request) there.node.clock

    is_ask : IsAsk (example_hosts count) M.stands.net S.world i p there.node (seen n) (seen m) request its_step its_doing
    is_ask =
        asks.whole (example_hosts count) M.stands.net S.world i p there.node (seen n) (seen m) request its_step its_doing there.is_at
        (subst (λ k. IsStep n.book (events.Local request) k its_step) now_is (is_step (seen n) (seen m) request now D.3.1 old new D.3.3))
        (is_doing (seen n) (seen m) request now D.3.1 old new D.3.3)
        (fate_landed (plan n.book (events.Local request) now).entry D.3.3.landed n.journal D.3.3.went.first (told_of old) (told_of new) D.3.3.went.fate) D.3.3.went.book D.3.3.went.effects

    read : (Q : Read n.journal [] made its_step [] its_doing []) × (Q.anew ≡ [])
    read =
        request_read (seen n) (seen m) request now D.3.1 old new D.3.3 L.bodies old made up_here.holds.bodies refl has up_here.holds.keeps (M.limits i S.host n S.here S.up) adds

    have : HaveCalls is_ask.fated
    have =
        planned_calls K.addressed K.reply K.pass K.place (example_base i)
        (owned L K count S.few S.hosts S.clocks S.mails S.mails S.world M i S.least S.host S.host n S.here S.up S.clock S.time) the_plan is_ask.fated
        (local_called K.addressed K.reply K.pass K.place (example_base i)
        (owned L K count S.few S.hosts S.clocks S.mails S.mails S.world M i S.least S.host S.host n S.here S.up S.clock S.time) n.book request there.node.clock
        (fits L K count S.few S.hosts S.clocks S.mails S.mails S.world M i S.least S.host S.host n S.here S.up S.clock S.time old before) (ask_so request S.named).0) is_ask.planned

    done_anew : anew_of (drop 0 made) ≡ []
    done_anew = anew_behind n.journal [] made its_step [] its_doing [] read.0 is_ask.fated [] (is_ask.fared, tt) (have, tt) (inr read.1) ∙ read.1

  none_made : new ≡ old → made ≡ []
  none_made same =
      adds.calls ∙ ap (λ (z : MemSite). drop (length (calls_in old.device)) (calls_in z.device)) same ∙ ap (drop (length (calls_in old.device))) (sym (append-nil (calls_in old.device)))
      ∙ drop-append_seam (calls_in old.device) []

  -- it was taken or refused
  pub asked_anew : (answer : Locally) → Requests request answer n m old new → AnswersSo cames.Stays answer → anew_of (drop 0 made) ≡ []
  asked_anew (answers.Done id) R so = done_anew id R.asked
  asked_anew (answers.Refused why) R so = ap (λ ms. anew_of (drop 0 ms)) (none_made (R.nothing why refl))
  asked_anew answers.NoRoom R so = absurd so
  asked_anew answers.Halted R so = absurd so
