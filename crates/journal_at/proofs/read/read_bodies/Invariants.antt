use Rattle.std.proofs.Common.{length, ◌<◌}
use Rattle.journal_at.specs.Frames.{ArePlaced, IsRead, bodies_of}
use Rattle.journal_at.proofs.read.read_bodies.Given as goal

abbrev pub invariant-loop-bodies : goal.invariant-loop-bodies
invariant-loop-bodies l = record {
  long : 1 < length l.bytes;
  gates : ArePlaced 0 l.bodies.items;
  read : IsRead l.bytes (bodies_of l.bodies.items) l.rest;
}

abbrev pub decreases-loop-bodies : goal.decreases-loop-bodies
decreases-loop-bodies l = length l.rest
