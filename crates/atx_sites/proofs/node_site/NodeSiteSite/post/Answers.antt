use Rattle.atx_sites.proofs.Afterwards.{posts_later}
use Rattle.atx_sites.proofs.DepartureTimes.{timed_posts}
use Rattle.atx_sites.proofs.Holding.{held_later, holds_later, holds_posted}
use Rattle.std.proofs.Common.{subst}
use Rattle.atx_sites.specs.Resends.{IfHeld}
use Rattle.atx_sites.proofs.HeldPosts.{posted_later}
use Rattle.atx_sites.proofs.Turns.{posts_counted}
use Rattle.atx_sites.proofs.node_site.NodeSiteSite.post.Goals as goal

pub returns-clause-posts : goal.returns-clause-posts
returns-clause-posts g c =
    posted_later g.S.Stream.AsRawFd.raw_fd c.args.self.now.departures.names.names.items c.args.host.now c.args.port c.args.bytes.now c.args.self.now.delays c.args.self.now.departures.leaving.items (g.S.System.calls c.args.self.now.system)
    c.counted.result c.post-answer.new.departures.leaving.items (g.S.System.calls c.is_held.new.system) (g.S.System.calls c.post-answer.new.system)
    (subst (λ held. IfHeld held c.args.host.now c.args.port c.args.bytes.now c.args.self.now.delays (g.S.System.calls c.args.self.now.system) (g.S.System.calls c.is_held.new.system)) c.if-is_held.false c.is_held.ensures)
    (posts_counted g.S.Stream.AsRawFd.raw_fd c.args.self.now.departures.names.names.items c.args.host.now c.args.port c.args.bytes.now c.args.self.now.departures.leaving.items (g.S.System.calls c.is_held.new.system) c.post-answer.result
    c.counted.result c.post-answer.new.departures.leaving.items (g.S.System.calls c.post-answer.new.system) c.counted.ensures.as_was c.counted.ensures.ok c.post-answer.ensures.posts)

pub returns-then-is_held-clause-holds : goal.returns-then-is_held-clause-holds
returns-then-is_held-clause-holds g c = λ h. holds_later g.S.Stream.AsRawFd.raw_fd g.S.Listener.AsRawFd.raw_fd _ _ c.args.self.now.connection c.args.self.now.departures (held_later _ _ _ _ _ _ _ c.is_held.ensures) h

pub returns-clause-holds : goal.returns-clause-holds
returns-clause-holds g c = λ h.
    holds_posted g.S.Stream.AsRawFd.raw_fd g.S.Listener.AsRawFd.raw_fd _ (g.S.System.calls c.is_held.new.system) _ c.args.self.now.connection c.args.self.now.departures c.post-answer.new.departures (held_later _ _ _ _ _ _ _ c.is_held.ensures)
    (posts_later _ _ _ _ _ _ _ _ _ _ c.post-answer.ensures.posts) c.post-answer.ensures.within (timed_posts g.S.Stream.AsRawFd.raw_fd _ _ _ _ _ _ _ _ _ c.post-answer.ensures.posts) c.post-answer.ensures.kept h
