use Rattle.std.proofs.Common.{arith}
use Rattle.atx_sites.proofs.Comings.{as_late, later_still}
use Rattle.atx_sites.proofs.Hearings.{heard_on, stays_on, stays_so, unheard}
use Rattle.atx_sites.proofs.arriving.read_aside.Goals as goal

pub reads-init : goal.reads-init
reads-init g c = ((λ listener h. h), as_late _, omega arith, unheard _ _, stays_so c.args.arriving.now)

pub returns-then-not-is_coming-clause-hears : goal.returns-then-not-is_coming-clause-hears
returns-then-not-is_coming-clause-hears g c = c.reads.invariant.3

pub returns-then-not-is_coming-clause-stays : goal.returns-then-not-is_coming-clause-stays
returns-then-not-is_coming-clause-stays g c = c.reads.invariant.4

pub returns-then-n-lt-PIECE_BYTES-clause-later : goal.returns-then-n-lt-PIECE_BYTES-clause-later
returns-then-n-lt-PIECE_BYTES-clause-later g c = later_still _ _ _ c.reads.invariant.1 c.read_once-n.ensures.later

pub returns-then-n-lt-PIECE_BYTES-clause-hears : goal.returns-then-n-lt-PIECE_BYTES-clause-hears
returns-then-n-lt-PIECE_BYTES-clause-hears g c = heard_on g.S.Stream.AsRawFd.raw_fd c.args.arriving.now c.reads.arriving _ _ _ c.reads.invariant.4 c.reads.invariant.3 c.read_once-n.ensures.hears

pub returns-then-n-lt-PIECE_BYTES-clause-stays : goal.returns-then-n-lt-PIECE_BYTES-clause-stays
returns-then-n-lt-PIECE_BYTES-clause-stays g c = stays_on c.args.arriving.now c.reads.arriving c.read_once-n.new.arriving c.reads.invariant.4 c.read_once-n.ensures.stays

pub returns-clause-hears : goal.returns-clause-hears
returns-clause-hears g c = c.reads.invariant.3

pub returns-clause-stays : goal.returns-clause-stays
returns-clause-stays g c = c.reads.invariant.4

pub reads-preserved : goal.reads-preserved
reads-preserved g c = (
  (λ listener h. c.read_once-n.ensures.came listener (c.reads.invariant.0 listener h)),
  later_still _ _ _ c.reads.invariant.1 c.read_once-n.ensures.later,
  omega (arith, c.read_once-n.ensures.most, c.reads.invariant.2),
  heard_on g.S.Stream.AsRawFd.raw_fd c.args.arriving.now c.reads.arriving _ _ _ c.reads.invariant.4 c.reads.invariant.3 c.read_once-n.ensures.hears,
  stays_on c.args.arriving.now c.reads.arriving c.read_once-n.new.arriving c.reads.invariant.4 c.read_once-n.ensures.stays,
)
