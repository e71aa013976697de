use Rattle.std.proofs.Common.{refl}
use Rattle.atx_sites.proofs.Afterwards.{advances_later}
use Rattle.atx_sites.proofs.Changing.{read_behind, read_clock, was_read}
use Rattle.atx_sites.proofs.Comings.{late_by, later_still}
use Rattle.atx_sites.proofs.DepartureTimes.{all_timed_later, on_time_advanced, timed_kept}
use Rattle.atx_sites.proofs.Tellings.{ended_clock}
use Rattle.atx_sites.proofs.looking.advance.Goals as goal

pub returns-in-Ok : goal.returns-in-Ok
returns-in-Ok g c =
    let clock = read_clock c.in-Ok.now c.monotonic.result _ _ c.monotonic.ensures c.in-Ok.is in
    let gone = c.advance.ensures.advances in record {
      later = later_still _ _ _ (late_by _ _ _ c.monotonic.ensures) (advances_later _ _ _ _ _ _ gone.1);
      fault = λ listener. tt;
      within = c.advance.ensures.within;
      timed = λ h. timed_kept g.S.Stream.AsRawFd.raw_fd c.in-Ok.now _ c.args.departures.now.leaving.items gone.0 _ _ gone.1 gone.2 (was_read c.in-Ok.now _ _ clock) (all_timed_later _ _ _ h (late_by _ _ _ c.monotonic.ensures));
      names = c.advance.ensures.names;
      clock = read_behind c.in-Ok.now _ _ _ clock (advances_later _ _ _ _ _ _ gone.1);
      pace = on_time_advanced g.S.Stream.AsRawFd.raw_fd c.in-Ok.now _ _ c.args.departures.now.leaving.items gone.0 _ _ gone.1 clock gone.2;
    }

pub returns-in-Err : goal.returns-in-Err
returns-in-Err g c = record {
  later = late_by _ _ _ c.monotonic.ensures;
  fault = λ listener. ended_clock listener _ _ _ _ c.monotonic.ensures c.in-Err.is;
  within = λ h. h;
  timed = λ h. all_timed_later _ _ _ h (late_by _ _ _ c.monotonic.ensures);
  names = refl;
  clock = tt;
  pace = tt;
}
