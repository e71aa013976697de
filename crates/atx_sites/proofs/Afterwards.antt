-- The calls of connections that leave are calls later.
use Rattle.std.proofs.Common.{ℕ, List, Result, Some, Vec, ◌∙◌, inl, inr, refl}
use Rattle.std.specs.declared.alloc.Global.{Global}
use Rattle.std.specs.declared.io.Error.{Error}
use Rattle.std.specs.declared.net.SocketAddr.{SocketAddr}
use Rattle.std.specs.declared.time.Duration.{Duration}
use Rattle.system_calls.specs.Calls.{Calls, Number}
use Rattle.atx_sites.specs.Departures.{Advances, Answers, Begins, Goes, Leaves, Posts, PostsTo, Unreached}
use Rattle.atx_sites.specs.Departures.Unreached.{none as untried, again}
use Rattle.atx_sites.specs.Departures.Advances.{none as none_go, next}
use Rattle.atx_sites.specs.Departures.Leaves.{none as no_call, took, failed, connects, unreached, shuts, reads}
use Rattle.atx_sites.specs.LinkCalls.{Later}
use Rattle.atx_sites.specs.LinkCalls.Later.{none, more}
use Rattle.atx_sites.specs.declared.outgoing.Outgoing.{Outgoing}
use Rattle.atx_sites.specs.declared.resolved_names.Name.{Name}
use Rattle.atx_sites.proofs.Comings.{later_still}
use Rattle.atx_sites.proofs.NamesKept.{resolving_later}

pub leaves_later : (addresses : List SocketAddr) (bytes : List ℕ) (stream : Number) (sent : ℕ) (old : Calls) (s : Number) (k : ℕ) (new : Calls)
    → Leaves addresses bytes stream sent old s k new → Later old new
leaves_later addresses bytes stream sent old s k new (no_call i j e) = none e
leaves_later addresses bytes stream sent old s k new (took m h i e) = more _ (leaves_later addresses bytes stream sent old _ _ _ h) e
leaves_later addresses bytes stream sent old s k new (failed fault h e) = more _ (leaves_later addresses bytes stream sent old _ _ _ h) e
leaves_later addresses bytes stream sent old s k new (connects address h z c e) = more _ (leaves_later addresses bytes stream sent old _ _ _ h) e
leaves_later addresses bytes stream sent old s k new (unreached address fault h z c e) = more _ (leaves_later addresses bytes stream sent old _ _ _ h) e
leaves_later addresses bytes stream sent old s k new (shuts got h out e) = more _ (leaves_later addresses bytes stream sent old _ _ _ h) e
leaves_later addresses bytes stream sent old s k new (reads got h out e) = more _ (leaves_later addresses bytes stream sent old _ _ _ h) e

pub goes_later : (addresses : List SocketAddr) (bytes : List ℕ) (from : Number) (sent : ℕ) (old : Calls) (to : Number) (now : ℕ) (new : Calls)
    → Goes addresses bytes from sent old to now new → Later old new
goes_later addresses bytes from sent old to now new g =
    leaves_later addresses bytes from sent old to now new (g from sent old (no_call refl refl refl))

pub advances_later : {C : Type 0} (number : C → Number) (now : Duration) (old : Calls) (befores afters : List (Outgoing C)) (new : Calls)
    → Advances number now old befores afters new → Later old new
advances_later number now old befores afters new (none_go a b e) = none e
advances_later number now old befores afters new (next {mid = mid} before after h w a b) =
    later_still old mid new (advances_later number now old _ _ mid h) (leaves_later _ _ _ _ mid _ _ new w.0)

pub answers_later : {C : Type 0} (number : C → Number) (stream : C) (bytes : Vec ℕ Global) (sent : ℕ) (before : List (Outgoing C)) (old : Calls) (result : Result (Unit {0}) Error) (after : List (Outgoing C)) (new : Calls)
    → Answers number stream bytes sent before old result after new → Later old new
answers_later number stream bytes sent before old result after new (others, part, mid, (got, e), inl (a, b, closes)) = more _ (none refl) (b ∙ e)
answers_later number stream bytes sent before old result after new (others, part, mid, (got, e), inr (now, clock, begun, s, b, d, five, (went, w, joins))) =
    later_still old mid new (more _ (none refl) e) (leaves_later _ _ _ _ mid _ _ new w.0)

unreached_later : (addresses : List SocketAddr) (old new : Calls) → Unreached addresses old new → Later old new
unreached_later addresses old new (untried e) = none e
unreached_later addresses old new (again {mid = mid} address fault h c e) = more _ (unreached_later addresses old mid h) e

pub begins_later : {C : Type 0} (number : C → Number) (addresses : List SocketAddr) (stream : C) (old new : Calls) → Begins number addresses (Some stream) old new → Later old new
begins_later number addresses stream old new (first, h, (address, c, e)) = more _ (unreached_later addresses old first h) e

pub posts_to_later : {C E : Type 0} (number : C → Number) (addresses : List SocketAddr) (bytes : List ℕ) (before : List (Outgoing C)) (old : Calls) (result : Result (Unit {0}) E) (after : List (Outgoing C)) (new : Calls)
    → PostsTo number addresses bytes before old result after new → Later old new
posts_to_later number addresses bytes before old result after new (others, part, inl (err, same, h)) = unreached_later addresses old new h
posts_to_later number addresses bytes before old result after new (others, part, inr (now, clock, begun, mid, (begins, a, b, d, five), (went, w, joins))) =
    later_still old mid new (begins_later number addresses begun.stream old mid begins) (leaves_later _ _ _ _ mid _ _ new w.0)

pub posts_later : {C E : Type 0} (number : C → Number) (names : List Name) (host : List ℕ) (port : ℕ) (bytes : List ℕ) (before : List (Outgoing C)) (old : Calls) (result : Result (Unit {0}) E)
    (after : List (Outgoing C)) (new : Calls) → Posts number names host port bytes before old result after new → Later old new
posts_later number names host port bytes before old result after new (bare, is, addresses, looked, looks, may, posts) =
    later_still old looked new (resolving_later bare port old looked looks) (posts_to_later number addresses bytes before looked result after new posts)
