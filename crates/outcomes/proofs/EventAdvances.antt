-- What one event brings: a participant that commits in it had voted before it, and nobody joins where the root has committed.
use Rattle.std.specs.Prelude.{ℕ, List, [], ◌∷◌, ◌++◌, Some, None, Bool, ◌+◌, ◌≡◌, ◌⊎◌, refl}
use Rattle.std.proofs.Common.{inl, inr, ap}
use Rattle.at_base.specs.declared.event.Event.{Event}
use Rattle.at_base.specs.declared.notice.Kind.TheVariants as kinds
use Rattle.at_base.specs.declared.event.Event.TheVariants as events
use Rattle.at_base.specs.declared.outs.Effect.{Effect}
use Rattle.at_base.specs.declared.outs.Effect.TheVariants as effects
use Rattle.at_base.specs.declared.outs.Ending.TheVariants as endings
use Rattle.at_base.specs.declared.outs.Post.{Post}
use Rattle.at_model.specs.Book.{Book}
use Rattle.at_model.specs.Recovery.{last_incarnation}
use Rattle.at_model.specs.Step.{step}
use Rattle.at_model.specs.World.{Node, Who, World, goes_down, lost_in, nth, put_book, put_nth, WorldEvent, happened_at, started, up_after, with_post, world_step, Hosts, HaveOwnAddresses}
use Rattle.model_laws.specs.Agreement.{HasCommitted, IsIn, IsOf}
use Rattle.model_laws.specs.Growth.{Grows}
use Rattle.model_laws.specs.ReachedWorlds.{Heard, Reached, counts, fell, post_all, rose, stepped, waited}
use Rattle.model_laws.proofs.Growth.{grows_counts, grows_falls, grows_posts, grows_rises, grows_same, grows_then, grows_waits}
use Rattle.votes.specs.DurableVotes.{HasVoted}
use Rattle.votes.proofs.VotesAndOutcomes.{outcomes_are_backed}
use Rattle.votes.proofs.Premises.{StepPremises, WorldPremises}
use Rattle.outcomes.specs.Bonds.{CommittedBelow, IsBound}
use Rattle.outcomes.proofs.Agreement.{bound, layers}
use Rattle.outcomes.proofs.Layers.{step_premises, world_premises}
use Rattle.outcomes.proofs.EarlierVotes.{falls_apart, one_now, votes_first}
use Rattle.votes.proofs.NewVotes.{IsEnd}
use Rattle.model_laws.proofs.EventSteps.{Begins, IsTimed, Lasting, event_lasts, timed_heard}
use Rattle.model_laws.proofs.ReachedWorlds.{in_order}
use Rattle.outcomes.proofs.Unrecorded.{timed_apart}
use Rattle.outcomes.proofs.Joiners.{none_joins, of_same}

-- Up to some moment of an event: who has committed as a participant had committed, or voted, before the event; and nobody has joined
-- where the root has committed.
pub record Advances (root : Who) (u w : World) : Type 0 where
  pub grows : Grows u w
  pub first : (x : Who) → CommittedBelow w x → CommittedBelow u x ⊎ HasVoted u x
  pub joins : (x : Who) → IsOf w x root → HasCommitted w root → IsOf u x root

-- and from one moment of it to a later one: nobody commits at all
record Lasts (root : Who) (u w : World) : Type 0 where
  grows : Grows u w
  ends : (y : Who) (f : Effect) → IsEnd y.id endings.Committed f → IsIn (happened_at y.node f) w.happened → IsIn (happened_at y.node f) u.happened
  joins : (x : Who) → IsOf w x root → HasCommitted w root → IsOf u x root

committed_then : (root : Who) (u w : World) → Lasts root u w → (x : Who) → HasCommitted w x → HasCommitted u x
committed_then root u w l x (inl i) = inl (l.ends x (effects.Root x.id endings.Committed) (inl refl) i)
committed_then root u w l x (inr (inl i)) = inr (inl (l.ends x (effects.Sub x.id endings.Committed) (inr (inl refl)) i))
committed_then root u w l x (inr (inr i)) = inr (inr (l.ends x (effects.Leaf x.id kinds.Durable endings.Committed) (inr (inr refl)) i))

below_then : (root : Who) (u w : World) → Lasts root u w → (x : Who) → CommittedBelow w x → CommittedBelow u x
below_then root u w l x (inl i) = inl (l.ends x (effects.Sub x.id endings.Committed) (inr (inl refl)) i)
below_then root u w l x (inr i) = inr (l.ends x (effects.Leaf x.id kinds.Durable endings.Committed) (inr (inr refl)) i)

advances_then : (root : Who) (u v w : World) → Advances root u v → Lasts root v w → Advances root u w
advances_then root u v w a l = record {
  grows = grows_then u v w a.grows l.grows;
  first = λ x c. a.first x (below_then root v w l x c);
  joins = λ x i c. a.joins x (l.joins x i c) (committed_then root v w l root c);
}

lasts_then : (root : Who) (u v w : World) → Lasts root u v → Lasts root v w → Lasts root u w
lasts_then root u v w k l = record {
  grows = grows_then u v w k.grows l.grows;
  ends = λ y f its i. k.ends y f its (l.ends y f its i);
  joins = λ x i c. k.joins x (l.joins x i c) (committed_then root v w l root c);
}

posts_last : (root : Who) (n : ℕ) (ps : List Post) (w : World) → Lasts root w (post_all n ps w)
posts_last root n [] w = record { grows = grows_same w; ends = λ y f its i. i; joins = λ x i c. i }
posts_last root n (p ∷ ps) w =
    lasts_then root w (with_post n p w) (post_all n ps (with_post n p w)) (record {
      grows = grows_posts n (p ∷ []) w;
      ends = λ y f its i. i;
      joins = λ x i c. of_same w (with_post n p w) x root refl i;
    }) (posts_last root n ps (with_post n p w))

pub premises_of : (hosts : Hosts) (w : World) → HaveOwnAddresses hosts → Reached hosts w → WorldPremises hosts w × IsBound w
premises_of hosts w distinct reached = (world_premises layers hosts w distinct reached, bound hosts w distinct reached)

-- the world behind a step, before its posts
counted_premises : (hosts : Hosts) (u : World) (n : ℕ) (x : Node) (b : Book) (e : Event) (now : ℕ) (landed : Bool) → HaveOwnAddresses hosts → Reached hosts u
    → nth n u.nodes ≡ Some x
    → x.book ≡ Some b → Heard u n x e → WorldPremises hosts (counts u n x b e now landed) × IsBound (counts u n x b e now landed)
counted_premises hosts u n x b e now landed distinct reached found up heard =
    premises_of hosts (counts u n x b e now landed) distinct (stepped u n x b e now landed [] reached found up heard tt refl)

-- the step of what came to a node
first_step : (hosts : Hosts) (root : Who) (u : World) (n : ℕ) (x : Node) (b : Book) (e : Event) (now : ℕ) (landed : Bool) → HaveOwnAddresses hosts
    → Reached hosts u → nth n u.nodes ≡ Some x
    → x.book ≡ Some b → Heard u n x e → Advances root u (counts u n x b e now landed)
first_step hosts root u n x b e now landed distinct reached found up heard =
    let p : StepPremises hosts u n x b e = step_premises layers hosts u n x b e distinct reached found up heard in
    let k : WorldPremises hosts (counts u n x b e now landed) × IsBound (counts u n x b e now landed) =
    counted_premises hosts u n x b e now landed distinct reached found up heard in
    record {
      grows = grows_counts u n x b e now landed found;
      first = votes_first hosts u n x b e now landed p (outcomes_are_backed.reached hosts u distinct reached);
      joins = λ y i c. none_joins hosts u n x b e now landed p k.0 k.1 y root i c;
    }

-- a step of time
timed_step : (hosts : Hosts) (root : Who) (u : World) (n : ℕ) (x : Node) (b : Book) (e : Event) (now : ℕ) (landed : Bool) → HaveOwnAddresses hosts
    → Reached hosts u → nth n u.nodes ≡ Some x
    → x.book ≡ Some b → IsTimed e → Lasts root u (counts u n x b e now landed)
timed_step hosts root u n x b e now landed distinct reached found up timed = record {
  grows = grows_counts u n x b e now landed found;
  ends = λ y f its i. by_place y f its (one_now n u.happened (step b e now landed).effects y.node f i);
  joins = λ y i c. none_joins hosts u n x b e now landed p k.0 k.1 y root i c;
}
  where
    heard : Heard u n x e
    heard = timed_heard u n x e timed

    p : StepPremises hosts u n x b e
    p = step_premises layers hosts u n x b e distinct reached found up heard

    k : WorldPremises hosts (counts u n x b e now landed) × IsBound (counts u n x b e now landed)
    k = counted_premises hosts u n x b e now landed distinct reached found up heard

    by_place : (y : Who) (f : Effect) → IsEnd y.id endings.Committed f
        → IsIn (happened_at y.node f) u.happened ⊎ ((y.node ≡ n) × IsIn f (step b e now landed).effects)
        → IsIn (happened_at y.node f) u.happened
    by_place y f its (inl i) = i
    by_place y f its (inr (here, i)) = absurd (timed_apart layers.moves b e now landed p.ready timed y.id f i its)

fall : (root : Who) (u : World) (n : ℕ) (x : Node) (b : Book) → nth n u.nodes ≡ Some x → Lasts root u (goes_down n b u)
fall root u n x b found = record {
  grows = grows_falls u n x b found;
  ends = λ y f its i. falls_apart u n x b found y f its i;
  joins = λ y i c. of_same u (goes_down n b u) y root (ap (λ (v : World). v.accepted) (ap (put_book n None (record u { happened = u.happened ++ lost_in n b })) found)) i;
}

-- the moments of an event that begins in this world
pub record Follows (hosts : Hosts) (root : Who) (start w : World) : Type 0 where
  pub reached : Reached hosts w
  pub advances : Advances root start w

following : (hosts : Hosts) (root : Who) (start : World) → HaveOwnAddresses hosts → Lasting
following hosts root start distinct = record {
  Holds = Follows hosts root start;
  order = λ w h n x found. in_order hosts w h.reached n x found;
  timed = λ u n x b e now landed ps h found up timed those. record {
    reached = stepped u n x b e now landed ps h.reached found up (timed_heard u n x e timed) those refl;
    advances = advances_then root start u (post_all n ps (counts u n x b e now landed)) h.advances
        (lasts_then root u (counts u n x b e now landed) (post_all n ps (counts u n x b e now landed)) (timed_step hosts root u n x b e now landed distinct h.reached found up timed)
        (posts_last root n ps (counts u n x b e now landed)));
  };
  falls = λ u n x b h found up. record {
    reached = fell u n x b h.reached found up refl;
    advances = advances_then root start u (goes_down n b u) h.advances (fall root u n x b found);
  };
  waits = λ u n x clock h found. record {
    reached = waited u n x clock h.reached found refl;
    advances = advances_then root start u (record u { nodes = put_nth n (record x { clock = clock }) u.nodes }) h.advances (record {
      grows = grows_waits u n x clock found;
      ends = λ y f its i. i;
      joins = λ y i c. of_same u (record u { nodes = put_nth n (record x { clock = clock }) u.nodes }) y root refl i;
    });
  };
}

event_begins : (hosts : Hosts) (root : Who) (w : World) (distinct : HaveOwnAddresses hosts) → Reached hosts w → Begins (following hosts root w distinct) w
unfolding following
event_begins hosts root w distinct reached = record {
  rests = record { reached = reached; advances = record { grows = grows_same w; first = λ x c. inl c; joins = λ x i c. i } };
  steps = λ n x b e now landed ps found up heard those. record {
    reached = stepped w n x b e now landed ps reached found up heard those refl;
    advances = advances_then root w (counts w n x b e now landed) (post_all n ps (counts w n x b e now landed)) (first_step hosts root w n x b e now landed distinct reached found up heard)
        (posts_last root n ps (counts w n x b e now landed));
  };
  rises = λ n x stop found down_now least. record {
    reached = rose w n x stop reached found down_now least refl;
    advances = record {
      grows = grows_rises w n x stop found;
      first = λ x c. inl c;
      joins = λ y i c. of_same w (record w { nodes = put_nth n (up_after (started (last_incarnation x.journal + 1) x) stop) w.nodes }) y root refl i;
    };
  };
}

pub event_follows : (hosts : Hosts) (root : Who) (w : World) (e : WorldEvent) → HaveOwnAddresses hosts → Reached hosts w → Follows hosts root w (world_step w e)
unfolding following
event_follows hosts root w e distinct reached = event_lasts (following hosts root w distinct) w e (event_begins hosts root w distinct reached)
