-- Every run, seen at one root, is a run of the machine of atomic commit.
use Rattle.std.specs.Prelude.{List, [], ◌∷◌, ◌++◌, Option, Some, None, false, if◌then◌else◌, ◌≡◌, ◌⊎◌, refl}
use Rattle.std.specs.List.{list_any}
use Rattle.std.proofs.Common.{inl, inr, sym, subst, ap, ◌∙◌}
use Rattle.at_base.specs.declared.notice.Kind.TheVariants as kinds
use Rattle.at_base.specs.declared.notice.Notice.TheVariants as notices
use Rattle.at_model.specs.World.{Node, Who, World, nth, opening, WorldEvent, run_of, run_on, world_step, Hosts, HaveOwnAddresses}
use Rattle.model_laws.specs.Agreement.{HasAborted, HasCommitted, HasPosted, IsOf, below, itself}
use Rattle.model_laws.specs.Growth.{Grows}
use Rattle.model_laws.specs.ReachedWorlds.{Reached, opened}
use Rattle.model_laws.proofs.Growth.{takes_nothing_back}
use Rattle.model_laws.proofs.ReachedWorlds.{run_reached}
use Rattle.model_laws.proofs.NodeLives.{opening_node}
use Rattle.votes.specs.DurableVotes.{HasVoted, is_vote}
use Rattle.votes.proofs.SingleVotes.{traces}
use Rattle.votes.proofs.Growth.{aborted_on, committed_on, posted_on, voted_on}
use Rattle.votes.proofs.Premises.{WorldPremises}
use Rattle.outcomes.specs.AtomicCommit.{AllReady, Goes, IsReady, Move, NoneCommitted, Status, Step, aborts, begins, commits, goes, leaves, prepares, stays}
use Rattle.outcomes.specs.Statuses.{RunsCommitAtomically, Seen, state_of, status_of, votes_in}
use Rattle.outcomes.specs.Bonds.{CommittedBelow, IsBound}
use Rattle.outcomes.proofs.Depth.{Sealed, as_participant, down, up}
use Rattle.outcomes.proofs.Machine.{consistent}
use Rattle.outcomes.proofs.Statuses.{seen}
use Rattle.outcomes.proofs.Members.{member_of, of_member}
use Rattle.outcomes.proofs.EventAdvances.{Advances, Follows, event_follows, premises_of}

-- who voted ReadOnly has no vote Prepared
left_unvoted : (hosts : Hosts) (w : World) → WorldPremises hosts w → (x : Who) → HasVoted w x → HasPosted w x kinds.Durable notices.ReadOnly → ⊥
left_unvoted hosts w p x v r = traces hosts w p x v (p.read_only x r)

-- what a later status makes of an earlier one
move : (hosts : Hosts) (u w : World) → Grows u w → WorldPremises hosts w → IsBound w → (x : Who) (before after : Status) (root ready uncommitted : Type 0) → (HasCommitted w x → root ⊎ (HasCommitted u x ⊎ HasVoted u x)) → (HasCommitted w x → ready) → (HasAborted w x → uncommitted)
    → Seen u x before → Seen w x after → Move before after root ready uncommitted
move hosts u w g p h x Status.Committed Status.Committed root ready uncommitted v r n s t = stays refl
move hosts u w g p h x Status.Committed Status.Aborted root ready uncommitted v r n s t = absurd (h.one x (committed_on u w g x s) t)
move hosts u w g p h x Status.Committed Status.Left root ready uncommitted v r n s t = absurd (h.left x t (inr (committed_on u w g x s)))
move hosts u w g p h x Status.Committed Status.Prepared root ready uncommitted v r n s t = absurd (t.1 (committed_on u w g x s))
move hosts u w g p h x Status.Committed Status.Working root ready uncommitted v r n s t = absurd (t.1 (committed_on u w g x s))
move hosts u w g p h x Status.Aborted Status.Committed root ready uncommitted v r n s t = absurd (h.one x t (aborted_on u w g x s))
move hosts u w g p h x Status.Aborted Status.Aborted root ready uncommitted v r n s t = stays refl
move hosts u w g p h x Status.Aborted Status.Left root ready uncommitted v r n s t = absurd (h.left x t (inl (aborted_on u w g x s)))
move hosts u w g p h x Status.Aborted Status.Prepared root ready uncommitted v r n s t = absurd (t.2 (aborted_on u w g x s))
move hosts u w g p h x Status.Aborted Status.Working root ready uncommitted v r n s t = absurd (t.2 (aborted_on u w g x s))
move hosts u w g p h x Status.Left Status.Committed root ready uncommitted v r n s t = absurd (h.left x (posted_on u w g x kinds.Durable notices.ReadOnly s) (inr t))
move hosts u w g p h x Status.Left Status.Aborted root ready uncommitted v r n s t = absurd (h.left x (posted_on u w g x kinds.Durable notices.ReadOnly s) (inl t))
move hosts u w g p h x Status.Left Status.Left root ready uncommitted v r n s t = stays refl
move hosts u w g p h x Status.Left Status.Prepared root ready uncommitted v r n s t = absurd (t.3 (posted_on u w g x kinds.Durable notices.ReadOnly s))
move hosts u w g p h x Status.Left Status.Working root ready uncommitted v r n s t = absurd (t.3 (posted_on u w g x kinds.Durable notices.ReadOnly s))
move hosts u w g p h x Status.Prepared Status.Committed root ready uncommitted v r n s t = commits (inl refl) refl (r t)
move hosts u w g p h x Status.Prepared Status.Aborted root ready uncommitted v r n s t = aborts (inr refl) refl (n t)
move hosts u w g p h x Status.Prepared Status.Left root ready uncommitted v r n s t = absurd (left_unvoted hosts w p x (voted_on u w g x s.0) t)
move hosts u w g p h x Status.Prepared Status.Prepared root ready uncommitted v r n s t = stays refl
move hosts u w g p h x Status.Prepared Status.Working root ready uncommitted v r n s t = absurd (t.0 (voted_on u w g x s.0))
move hosts u w g p h x Status.Working Status.Committed root ready uncommitted v r n s t = commits (inr (refl, is_root (v t))) refl (r t)
  where
    is_root : root ⊎ (HasCommitted u x ⊎ HasVoted u x) → root
    is_root (inl k) = k
    is_root (inr (inl c)) = absurd (s.1 c)
    is_root (inr (inr k)) = absurd (s.0 k)
move hosts u w g p h x Status.Working Status.Aborted root ready uncommitted v r n s t = aborts (inl refl) refl (n t)
move hosts u w g p h x Status.Working Status.Left root ready uncommitted v r n s t = leaves refl refl
move hosts u w g p h x Status.Working Status.Prepared root ready uncommitted v r n s t = prepares refl refl
move hosts u w g p h x Status.Working Status.Working root ready uncommitted v r n s t = stays refl

-- once one has committed, everybody is ready
ready_as : (w : World) → IsBound w → (y : Who) (s : Status) → Seen w y s → HasCommitted w y ⊎ Sealed w y → IsReady s
ready_as w h y Status.Committed t k = tt
ready_as w h y Status.Left t k = tt
ready_as w h y Status.Prepared t k = tt
ready_as w h y Status.Aborted t (inl c) = absurd (h.one y c t)
ready_as w h y Status.Aborted t (inr (inl r)) = absurd (h.left y r (inl t))
ready_as w h y Status.Aborted t (inr (inr (v, never))) = absurd (never t)
ready_as w h y Status.Working t (inl c) = absurd (t.1 c)
ready_as w h y Status.Working t (inr (inl r)) = absurd (t.3 r)
ready_as w h y Status.Working t (inr (inr (v, never))) = absurd (t.0 v)

committed_or_sealed : (w : World) → IsBound w → (x y root : Who) → IsOf w x root → IsOf w y root → HasCommitted w x → HasCommitted w y ⊎ Sealed w y
committed_or_sealed w h x y root m k c = by_place (down w h y root k (up w h x root m c))
  where
    by_place : (y ≡ root) ⊎ Sealed w y → HasCommitted w y ⊎ Sealed w y
    by_place (inl e) = inl (subst (HasCommitted w) (sym e) (up w h x root m c))
    by_place (inr s) = inr s

all_ready : (w : World) → IsBound w → (x root : Who) → IsOf w x root → HasCommitted w x → AllReady root (state_of w)
all_ready w h x root m c y k = ready_as w h y (status_of w y) (seen w y) (committed_or_sealed w h x y root m (of_member w root y k) c)

committed_as : (w : World) (y : Who) → status_of w y ≡ Status.Committed → HasCommitted w y
committed_as w y e = subst (Seen w y) e (seen w y)

aborted_alone : (w : World) → IsBound w → (x y root : Who) → IsOf w x root → IsOf w y root → HasAborted w x → HasCommitted w y → ⊥
aborted_alone w h x y root m k a c = by_place (committed_or_sealed w h y x root k m c)
  where
    by_place : HasCommitted w x ⊎ Sealed w x → ⊥
    by_place (inl d) = h.one x d a
    by_place (inr (inl r)) = h.left x r (inl a)
    by_place (inr (inr (v, never))) = never a

none_committed : (w : World) → IsBound w → (x root : Who) → IsOf w x root → HasAborted w x → NoneCommitted root (state_of w)
none_committed w h x root m a y k e = aborted_alone w h x y root m (of_member w root y k) a (committed_as w y e)

-- who commits is the root, or has voted before
voted_first : (u w : World) → IsBound w → (x root : Who) → IsOf w x root → (CommittedBelow w x → CommittedBelow u x ⊎ HasVoted u x) → HasCommitted w x
    → (x ≡ root) ⊎ (HasCommitted u x ⊎ HasVoted u x)
voted_first u w h x root (itself e) first c = inl e
voted_first u w h x root (below t number i of) first c = by_case (first (as_participant w h t x (number, i) c))
  where
    by_case : CommittedBelow u x ⊎ HasVoted u x → (x ≡ root) ⊎ (HasCommitted u x ⊎ HasVoted u x)
    by_case (inl k) = inr (inl (inr k))
    by_case (inr k) = inr (inr k)

of_grown : (u w : World) → Grows u w → (x root : Who) → IsOf u x root → IsOf w x root
of_grown u w g x root (itself f) = itself f
of_grown u w g x root (below t number i of) = below t number (takes_nothing_back.accepted u w g t (Some (record { number = number; kind = kinds.Durable })) x i) (of_grown u w g t root of)

-- so an event is a step of the machine
machine_step : (hosts : Hosts) (u w : World) (root : Who) → WorldPremises hosts w → IsBound w → Advances root u w → Step root (state_of u) (state_of w)
machine_step hosts u w root p h a = record {
  moves = λ x m.
      move hosts u w a.grows p h x (status_of u x) (status_of w x) (x ≡ root) (AllReady root (state_of w)) (NoneCommitted root (state_of w))
      (λ c. voted_first u w h x root (of_member w root x m) (a.first x) c) (all_ready w h x root (of_member w root x m))
      (none_committed w h x root (of_member w root x m)) (seen u x) (seen w x);
  keeps = λ x m. member_of w root x (of_grown u w a.grows x root (of_member u root x m));
  joins = λ x y m k e. member_of u root x (a.joins x (of_member w root x m) (up w h y root (of_member w root y k) (committed_as w y e)));
}

event_step : (hosts : Hosts) (root : Who) (w : World) (e : WorldEvent) → HaveOwnAddresses hosts → Reached hosts w → Step root (state_of w) (state_of (world_step w e))
event_step hosts root w e distinct reached =
    let f : Follows hosts root w (world_step w e) = event_follows hosts root w e distinct reached in
    let k : WorldPremises hosts (world_step w e) × IsBound (world_step w e) = premises_of hosts (world_step w e) distinct f.reached in
    machine_step hosts w (world_step w e) root k.0 k.1 f.advances

-- the opening world
opening_working : (hosts : Hosts) (x : Who) → status_of (opening hosts) x ≡ Status.Working
opening_working hosts x = by_node (nth x.node (opening hosts).nodes) refl
  where
    none_voted : (o : Option Node) → nth x.node (opening hosts).nodes ≡ o → votes_in x.id o ≡ false
    none_voted None e = refl
    none_voted (Some y) e = ap (λ (z : Node). list_any (is_vote x.id) z.journal) (opening_node hosts x.node y e)

    by_node : (o : Option Node) → nth x.node (opening hosts).nodes ≡ o → status_of (opening hosts) x ≡ Status.Working
    by_node o e = ap (λ c. if c then Status.Prepared else Status.Working) (ap (votes_in x.id) e ∙ none_voted o e)

last_event : (es : List WorldEvent) (e : WorldEvent) (w : World) → run_on w (es ++ e ∷ []) ≡ world_step (run_on w es) e
last_event [] e w = refl
last_event (f ∷ es) e w = last_event es e (world_step w f)

run_step : (hosts : Hosts) (es : List WorldEvent) (e : WorldEvent) (root : Who) → HaveOwnAddresses hosts → Step root (state_of (run_of hosts es)) (state_of (run_of hosts (es ++ e ∷ [])))
run_step hosts es e root distinct =
    subst (λ w. Step root (state_of (run_of hosts es)) (state_of w)) (sym (last_event es e (opening hosts))) (event_step hosts root (run_of hosts es) e distinct (run_reached hosts es))

-- event by event
goes_on : (hosts : Hosts) (root : Who) → HaveOwnAddresses hosts → (es : List WorldEvent) (w : World) → Reached hosts w → Goes root (state_of w) → Goes root (state_of (run_on w es))
goes_on hosts root distinct [] w reached h = h
goes_on hosts root distinct (e ∷ es) w reached h =
    goes_on hosts root distinct es (world_step w e) (event_follows hosts root w e distinct reached).reached (goes (state_of w) h (event_step hosts root w e distinct reached))

pub runs_commit_atomically : RunsCommitAtomically
runs_commit_atomically = record {
  opens = opening_working;
  steps = run_step;
  runs = λ hosts es root distinct. goes_on hosts root distinct es (opening hosts) (opened refl) (begins (opening_working hosts));
  seen = seen;
  members = member_of;
  no_others = of_member;
  consistent = consistent;
}
