use Rattle.std.proofs.Common.{◌≤◌, ◌∙◌, inl, inr, subst, sym}
use Rattle.http_post.specs.Connections.{left}
use Rattle.http_post.specs.PartialHeads.{HoldsHead}
use Rattle.http_post.proofs.PartialHeads.{held, never_held, none_held}
use Rattle.http_post.proofs.head.read_head.Goals as goal
use Rattle.http_post.proofs.head.read_head.Goals.{then-n-eq0-via-then-n-eq0, then-n-eq0-via-else-n-eq0+then-len-ge-MOST_HEAD}

-- src/head.rt
pub returns-in-Some-clause-head : goal.returns-in-Some-clause-head
returns-in-Some-clause-head g c =
    subst (λ z. HoldsHead (left (g.S.Site.told c.args.site.now)) z c.in-Some.head.places c.in-Some.head.spans) (sym c.in-Some.ensures.some.0)
    (held _ _ _ _ _ _ _ c.in-Some.head.places c.in-Some.head.spans c.loop-n.invariant.0.1 c.in-Ok-read_piece.ensures.piece c.in-Some.ensures.some.0 c.in-Some.ensures.some.1)

pub returns-in-None-clause-none : goal.returns-in-None-clause-none
returns-in-None-clause-none g c =
    none_held _ _ _ _ _ _ c.loop-n.invariant.0.1 c.in-Ok-read_piece.ensures.piece
    (elim c.then-n-eq0.branch [ then-n-eq0-via-then-n-eq0 w ↦ inl w.if-n-eq0.true | then-n-eq0-via-else-n-eq0+then-len-ge-MOST_HEAD w ↦ inr (subst (λ k. 8192 ≤ k) (w.len.ensures ∙ c.read_piece.new.bytes.ok.0) w.if-len-ge-MOST_HEAD.true) ])
    (c.last_head.ensures.none c.in-None.is)

pub returns-in-Whole-clause-head : goal.returns-in-Whole-clause-head
returns-in-Whole-clause-head g c =
    held _ _ _ _ _ _ _ _ _ c.loop-n.invariant.0.1 c.in-Ok-read_piece.ensures.piece c.as_slice.ensures.value c.in-Whole.ensures

pub returns-in-Never-clause-none : goal.returns-in-Never-clause-none
returns-in-Never-clause-none g c =
    never_held _ _ _ _ _ _ _ c.loop-n.invariant.0.1 c.in-Ok-read_piece.ensures.piece c.as_slice.ensures.value c.in-Never.ensures
