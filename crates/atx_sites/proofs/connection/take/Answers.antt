use Rattle.std.proofs.Common.{◌∙◌, ap}
use Rattle.std.specs.Prelude.{All}
use Rattle.atx_sites.specs.Departures.{IsOnTime}
use Rattle.atx_sites.specs.Arrivals.{HasCome}
use Rattle.atx_sites.specs.Waits.{IsInTime}
use Rattle.atx_sites.specs.declared.arriving.Arriving.{Arriving}
use Rattle.atx_sites.specs.declared.waiting.Waiting.{Waiting}
use Rattle.atx_sites.proofs.Changing.{changed_items, changes_later, in_time_from, in_time_of, unchanged}
use Rattle.atx_sites.proofs.Comings.{came_as, came_closed, came_none, came_taken, came_waited, if_some, later_still}
use Rattle.atx_sites.proofs.DepartureTimes.{all_on_time_from}
use Rattle.atx_sites.proofs.connection.take.Goals as goal

pub returns-in_default-clause-came : goal.returns-in_default-clause-came
returns-in_default-clause-came g c =
    λ h. came_closed g.S.Stream.AsRawFd.raw_fd g.S.Listener.AsRawFd.raw_fd _ _ c.args.connection.now c.close.new.connection c.close.ensures.shut c.close.ensures.same c.close.ensures.later h

pub returns-in_default-clause-changes : goal.returns-in_default-clause-changes
returns-in_default-clause-changes g c =
    changed_items _ _ _ _ _ (ap (λ (v : Waiting g.row.S-Stream.Denot). v.arriving.items) c.close.ensures.same.1) (changes_later _ _ _ _ _ (unchanged _ _) c.close.ensures.later)

pub returns-in-Ok-Some-clause-came : goal.returns-in-Ok-Some-clause-came
returns-in-Ok-Some-clause-came g c =
    λ h.
    let closed = came_closed g.S.Stream.AsRawFd.raw_fd g.S.Listener.AsRawFd.raw_fd _ _ c.args.connection.now c.close.new.connection c.close.ensures.shut c.close.ensures.same c.close.ensures.later h in (
      came_waited g.S.Stream.AsRawFd.raw_fd g.S.Listener.AsRawFd.raw_fd _ _ c.close.new.connection c.wait.new.waiting c.in-Some.listener c.in-Some.is c.wait.ensures.came closed,
      came_as g.S.Stream.AsRawFd.raw_fd g.S.Listener.AsRawFd.raw_fd _ _ _ _ c.begin_serving.ensures.same.0 (came_taken g.S.Stream.AsRawFd.raw_fd g.S.Listener.AsRawFd.raw_fd _ _ c.close.new.connection c.in-Ok-Some.arriving c.in-Some.listener c.in-Some.is
          (λ k. if_some (HasCome g.S.Stream.AsRawFd.raw_fd (g.S.Listener.AsRawFd.raw_fd c.in-Some.listener) _) _ c.in-Ok-Some.arriving (c.in-Ok-Some.ensures.taken k) c.in-Ok-Some.field-0-is) closed),
    )

pub returns-in-Ok-Some-clause-later : goal.returns-in-Ok-Some-clause-later
returns-in-Ok-Some-clause-later g c = later_still _ _ _ c.close.ensures.later c.wait.ensures.later

pub returns-in-Ok-Some-clause-within : goal.returns-in-Ok-Some-clause-within
returns-in-Ok-Some-clause-within g c = λ h. c.wait.ensures.within (c.close.ensures.within h)

pub returns-in-Ok-Some-clause-changes : goal.returns-in-Ok-Some-clause-changes
returns-in-Ok-Some-clause-changes g c =
    c.wait.ensures.changes _ _ (changed_items _ _ _ _ _ (ap (λ (v : Waiting g.row.S-Stream.Denot). v.arriving.items) c.close.ensures.same.1) (changes_later _ _ _ _ _ (unchanged _ _) c.close.ensures.later))

pub returns-in-Ok-Some-clause-timed : goal.returns-in-Ok-Some-clause-timed
returns-in-Ok-Some-clause-timed g c = λ h. c.wait.ensures.timed (c.close.ensures.timed h)

pub returns-in-Ok-Some-clause-names : goal.returns-in-Ok-Some-clause-names
returns-in-Ok-Some-clause-names g c = c.wait.ensures.names ∙ c.close.ensures.names

pub returns-in-Ok-Some-clause-in_time : goal.returns-in-Ok-Some-clause-in_time
returns-in-Ok-Some-clause-in_time g c = in_time_of c.in-Ok-Some.arriving _ _ _ _ c.begin_serving.ensures.same.0
    (in_time_from c.in-Ok-Some.arriving _ _ _ _ c.close.ensures.later
    (if_some (λ (a : Arriving g.row.S-Stream.Denot). IsInTime a c.wait.new.waiting.arriving.items (g.S.System.calls c.close.new.system) (g.S.System.calls c.wait.new.system)) _ c.in-Ok-Some.arriving c.in-Ok-Some.ensures.in_time c.in-Ok-Some.field-0-is))

pub returns-in-Ok-Some-clause-pace : goal.returns-in-Ok-Some-clause-pace
returns-in-Ok-Some-clause-pace g c =
    all_on_time_from _ _ _ _ c.close.ensures.later
    (if_some (λ (a : Arriving g.row.S-Stream.Denot). All (IsOnTime (g.S.System.calls c.close.new.system) (g.S.System.calls c.wait.new.system)) c.wait.new.departures.leaving.items) _ c.in-Ok-Some.arriving c.in-Ok-Some.ensures.pace c.in-Ok-Some.field-0-is)

pub returns-in-Ok-None-clause-came : goal.returns-in-Ok-None-clause-came
returns-in-Ok-None-clause-came g c =
    λ h.
    let closed = came_closed g.S.Stream.AsRawFd.raw_fd g.S.Listener.AsRawFd.raw_fd _ _ c.args.connection.now c.close.new.connection c.close.ensures.shut c.close.ensures.same c.close.ensures.later h in (
      came_waited g.S.Stream.AsRawFd.raw_fd g.S.Listener.AsRawFd.raw_fd _ _ c.close.new.connection c.wait.new.waiting c.in-Some.listener c.in-Some.is c.wait.ensures.came closed,
      came_none g.S.Stream.AsRawFd.raw_fd g.S.Listener.AsRawFd.raw_fd _ _ _ c.close.ensures.shut,
    )

pub returns-in-Ok-None-clause-later : goal.returns-in-Ok-None-clause-later
returns-in-Ok-None-clause-later g c = later_still _ _ _ c.close.ensures.later c.wait.ensures.later

pub returns-in-Ok-None-clause-within : goal.returns-in-Ok-None-clause-within
returns-in-Ok-None-clause-within g c = λ h. c.wait.ensures.within (c.close.ensures.within h)

pub returns-in-Ok-None-clause-changes : goal.returns-in-Ok-None-clause-changes
returns-in-Ok-None-clause-changes g c =
    c.wait.ensures.changes _ _ (changed_items _ _ _ _ _ (ap (λ (v : Waiting g.row.S-Stream.Denot). v.arriving.items) c.close.ensures.same.1) (changes_later _ _ _ _ _ (unchanged _ _) c.close.ensures.later))

pub returns-in-Ok-None-clause-timed : goal.returns-in-Ok-None-clause-timed
returns-in-Ok-None-clause-timed g c = λ h. c.wait.ensures.timed (c.close.ensures.timed h)

pub returns-in-Ok-None-clause-names : goal.returns-in-Ok-None-clause-names
returns-in-Ok-None-clause-names g c = c.wait.ensures.names ∙ c.close.ensures.names

pub returns-in-Err-clause-came : goal.returns-in-Err-clause-came
returns-in-Err-clause-came g c =
    λ h.
    let closed = came_closed g.S.Stream.AsRawFd.raw_fd g.S.Listener.AsRawFd.raw_fd _ _ c.args.connection.now c.close.new.connection c.close.ensures.shut c.close.ensures.same c.close.ensures.later h in (
      came_waited g.S.Stream.AsRawFd.raw_fd g.S.Listener.AsRawFd.raw_fd _ _ c.close.new.connection c.wait.new.waiting c.in-Some.listener c.in-Some.is c.wait.ensures.came closed,
      came_none g.S.Stream.AsRawFd.raw_fd g.S.Listener.AsRawFd.raw_fd _ _ _ c.close.ensures.shut,
    )

pub returns-in-Err-clause-later : goal.returns-in-Err-clause-later
returns-in-Err-clause-later g c = later_still _ _ _ c.close.ensures.later c.wait.ensures.later

pub returns-in-Err-clause-within : goal.returns-in-Err-clause-within
returns-in-Err-clause-within g c = λ h. c.wait.ensures.within (c.close.ensures.within h)

pub returns-in-Err-clause-changes : goal.returns-in-Err-clause-changes
returns-in-Err-clause-changes g c =
    c.wait.ensures.changes _ _ (changed_items _ _ _ _ _ (ap (λ (v : Waiting g.row.S-Stream.Denot). v.arriving.items) c.close.ensures.same.1) (changes_later _ _ _ _ _ (unchanged _ _) c.close.ensures.later))

pub returns-in-Err-clause-timed : goal.returns-in-Err-clause-timed
returns-in-Err-clause-timed g c = λ h. c.wait.ensures.timed (c.close.ensures.timed h)

pub returns-in-Err-clause-names : goal.returns-in-Err-clause-names
returns-in-Err-clause-names g c = c.wait.ensures.names ∙ c.close.ensures.names
