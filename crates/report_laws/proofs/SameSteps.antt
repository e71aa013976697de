-- What is asked for of two nets that are alike comes to one event, and leaves them so.
use Rattle.std.proofs.Common.{ℕ, ◌≡◌, ◌⊎◌, inl, inr, refl, List, ap, subst, sym, ◌∙◌}
use Rattle.std.specs.Prelude.{Bool, true, false, Option, Some, None}
use Rattle.asked_nets.specs.ReadSteps.{AsksNode, MovesRead, NetStepRead, RestsRead, StartsNode, TurnsNode}
use Rattle.at_base.specs.declared.event.Local.{Local}
use Rattle.at_model.specs.World.{Input, WorldEvent, Turn, Ask, Crash, Up, node_of, nth}
use Rattle.call_readings.specs.AskedEvents.{IsOf}
use Rattle.determined_nodes.specs.AlikeHosts.{AreSameUp}
use Rattle.memory_net.specs.declared.host.Host.{Host}
use Rattle.mirrored_nets.specs.Goings.{IsNothing}
use Rattle.mirrored_nets.specs.NetSteps.{CrashesNode, RestsNode}
use Rattle.mirrored_nets.specs.Seen.{Seen}
use Rattle.mirrored_nets.specs.declared.armed.Armed.{Armed}
use Rattle.node_at.specs.declared.node.Node.{Node}
use Rattle.report_laws.specs.AlikeNets.{IsSameNet}
use Rattle.report_laws.proofs.AlikeHosts.{down_up, nth_same, up_down}
use Rattle.report_laws.proofs.NodeLaws.{CameSame, CanStart, Mirrored, NodeLaws}
use Rattle.report_laws.proofs.SameStarts.{crashes_same, starts_same}
use Rattle.report_laws.proofs.SameTurns.{requests_same, turns_same}

-- the node at which something is done is up, and down where it is to start
abbrev Acts : WorldEvent → Option Node → Type 0
Acts (Turn n input f u) o = (node : Node) × (o ≡ Some node)
Acts (Ask n request f u) o = (node : Node) × (o ≡ Some node)
Acts (Crash n) o = (node : Node) × (o ≡ Some node)
Acts (Up n l s) o = o ≡ None

acts_asked : (armed : Armed) (raw : List ℕ) (old new : Seen) (asked event : WorldEvent) (down : Bool) (calls : ℕ) → IsOf asked event → MovesRead armed down event raw calls old new
    → (host : Host) × (nth (node_of asked) old.hosts ≡ Some host) × Acts asked host.node
acts_asked armed raw old new (Turn n input f u) (Turn i given fates until) down calls (e, g) T = (T.host, subst (λ z. nth z old.hosts ≡ Some T.host) e T.here, (T.node, T.up))
acts_asked armed raw old new (Turn n input f u) (Ask i asked fates until) down calls h T = absurd h
acts_asked armed raw old new (Turn n input f u) (Crash i) down calls h T = absurd h
acts_asked armed raw old new (Turn n input f u) (Up i landed stop) down calls h T = absurd h
acts_asked armed raw old new (Ask n request f u) (Ask i asked fates until) down calls (e, g) (stays, T) = (T.host, subst (λ z. nth z old.hosts ≡ Some T.host) e T.here, (T.node, T.up))
acts_asked armed raw old new (Ask n request f u) (Turn i given fates until) down calls h T = absurd h
acts_asked armed raw old new (Ask n request f u) (Crash i) down calls h T = absurd h
acts_asked armed raw old new (Ask n request f u) (Up i landed stop) down calls h T = absurd h
acts_asked armed raw old new (Crash n) (Crash i) down calls e (stays, none, T) = (T.host, subst (λ z. nth z old.hosts ≡ Some T.host) e T.here, (T.node, T.up))
acts_asked armed raw old new (Crash n) (Turn i given fates until) down calls h T = absurd h
acts_asked armed raw old new (Crash n) (Ask i asked fates until) down calls h T = absurd h
acts_asked armed raw old new (Crash n) (Up i landed stop) down calls h T = absurd h
acts_asked armed raw old new (Up n l s) (Up i landed stop) down calls e (stays, T) = (T.host, subst (λ z. nth z old.hosts ≡ Some T.host) e T.here, T.down)
acts_asked armed raw old new (Up n l s) (Turn i given fates until) down calls h T = absurd h
acts_asked armed raw old new (Up n l s) (Ask i asked fates until) down calls h T = absurd h
acts_asked armed raw old new (Up n l s) (Crash i) down calls h T = absurd h

-- one doesn't act where the other rests
clash : (asked : WorldEvent) (a b : Option Node) → Acts asked a → IsNothing asked b → AreSameUp a b → ⊥
clash (Turn n input f u) a None (node, e) h same = up_down a None node e refl same
clash (Turn n input f u) a (Some m) acts h same = h
clash (Ask n request f u) a None (node, e) h same = up_down a None node e refl same
clash (Ask n request f u) a (Some m) acts h same = h
clash (Crash n) a None (node, e) h same = up_down a None node e refl same
clash (Crash n) a (Some m) acts h same = h
clash (Up n l s) a None e h same = h
clash (Up n l s) a (Some m) e h same = down_up a (Some m) m e refl same

clash_back : (asked : WorldEvent) (a b : Option Node) → IsNothing asked a → Acts asked b → AreSameUp a b → ⊥
clash_back (Turn n input f u) None b h (node, e) same = down_up None b node refl e same
clash_back (Turn n input f u) (Some m) b h acts same = h
clash_back (Ask n request f u) None b h (node, e) same = down_up None b node refl e same
clash_back (Ask n request f u) (Some m) b h acts same = h
clash_back (Crash n) None b h (node, e) same = down_up None b node refl e same
clash_back (Crash n) (Some m) b h acts same = h
clash_back (Up n l s) None b h e same = h
clash_back (Up n l s) (Some m) b h e same = up_down (Some m) b m refl e same

module _ (L : NodeLaws) (armed : Armed) (raw : List ℕ) (old new here there : Seen) (same : IsSameNet old here) (M : Mirrored old) (N : Mirrored here) where
  moves_same : (asked event other : WorldEvent) (down off : Bool) (calls many : ℕ) → IsOf asked event → IsOf asked other → MovesRead armed down event raw calls old new → MovesRead armed off other raw many here there
      → CanStart (node_of asked) old → CameSame event other down off calls many new there
  moves_same (Turn n input f u) (Turn i given fates until) (Turn j brought others stop) down off calls many (e, g) (h, k) T U can =
      let number : j ≡ i = h ∙ sym e in
      let input_is : brought ≡ given = k ∙ sym g in
      let V : TurnsNode armed off i given others stop raw many here there = subst (λ z. TurnsNode armed off z given others stop raw many here there) number (subst (λ z. TurnsNode armed off j z others stop raw many here there) input_is U) in
      let event_is : Turn i given others stop ≡ Turn j brought others stop = (λ x. Turn (sym number x) (sym input_is x) others stop) in
      subst (λ z. CameSame (Turn i given fates until) z down off calls many new there) event_is
      (turns_same L armed raw old new here there same M N i given fates others until stop down off calls many T V)
  moves_same (Turn n input f u) (Ask i asked fates until) e down off calls many h k T U can = absurd h
  moves_same (Turn n input f u) (Crash i) e down off calls many h k T U can = absurd h
  moves_same (Turn n input f u) (Up i landed stop) e down off calls many h k T U can = absurd h
  moves_same (Turn n input f u) (Turn i given fates until) (Ask j also others stop) down off calls many h k T U can = absurd k
  moves_same (Turn n input f u) (Turn i given fates until) (Crash j) down off calls many h k T U can = absurd k
  moves_same (Turn n input f u) (Turn i given fates until) (Up j also stopped) down off calls many h k T U can = absurd k
  moves_same (Ask n request f u) (Ask i asked fates until) (Ask j also others stop) down off calls many (e, g) (h, k) (stays, T) (rests, U) can =
      let number : j ≡ i = h ∙ sym e in
      let request_is : also ≡ asked = k ∙ sym g in
      let V : AsksNode armed i asked others stop many here there = subst (λ z. AsksNode armed z asked others stop many here there) number (subst (λ z. AsksNode armed j z others stop many here there) request_is U) in
      let event_is : Ask i asked others stop ≡ Ask j also others stop = (λ x. Ask (sym number x) (sym request_is x) others stop) in
      subst (λ z. CameSame (Ask i asked fates until) z down off calls many new there) event_is
      (requests_same L armed raw old new here there same M N i asked fates others until stop calls many T V down off stays rests)
  moves_same (Ask n request f u) (Turn i given fates until) e down off calls many h k T U can = absurd h
  moves_same (Ask n request f u) (Crash i) e down off calls many h k T U can = absurd h
  moves_same (Ask n request f u) (Up i landed stop) e down off calls many h k T U can = absurd h
  moves_same (Ask n request f u) (Ask i asked fates until) (Turn j brought others stop) down off calls many h k T U can = absurd k
  moves_same (Ask n request f u) (Ask i asked fates until) (Crash j) down off calls many h k T U can = absurd k
  moves_same (Ask n request f u) (Ask i asked fates until) (Up j also stopped) down off calls many h k T U can = absurd k
  moves_same (Crash n) (Crash i) (Crash j) down off calls many e h (stays, none, T) (rests, nil, U) can =
      let number : j ≡ i = h ∙ sym e in
      let event_is : Crash i ≡ Crash j = ap (λ (x : ℕ). Crash x) (sym number) in
      subst (λ z. CameSame (Crash i) z down off calls many new there) event_is
      (crashes_same L armed old new here there same i calls many T (subst (λ z. CrashesNode z here there) number U) down off stays rests none nil)
  moves_same (Crash n) (Turn i given fates until) e down off calls many h k T U can = absurd h
  moves_same (Crash n) (Ask i asked fates until) e down off calls many h k T U can = absurd h
  moves_same (Crash n) (Up i landed stop) e down off calls many h k T U can = absurd h
  moves_same (Crash n) (Crash i) (Turn j brought others stop) down off calls many h k T U can = absurd k
  moves_same (Crash n) (Crash i) (Ask j also others stop) down off calls many h k T U can = absurd k
  moves_same (Crash n) (Crash i) (Up j also stopped) down off calls many h k T U can = absurd k
  moves_same (Up n l s) (Up i landed stop) (Up j also stopped) down off calls many e h (stays, T) (rests, U) can =
      let number : j ≡ i = h ∙ sym e in
      let event_is : Up i also stopped ≡ Up j also stopped = ap (λ (x : ℕ). Up x also stopped) (sym number) in
      subst (λ z. CameSame (Up i landed stop) z down off calls many new there) event_is
      (starts_same L armed old new here there same i landed also stop stopped calls many T (subst (λ z. StartsNode armed z also stopped many here there) number U) (subst (λ z. CanStart z old) (sym e) can) down off stays rests)
  moves_same (Up n l s) (Turn i given fates until) e down off calls many h k T U can = absurd h
  moves_same (Up n l s) (Ask i asked fates until) e down off calls many h k T U can = absurd h
  moves_same (Up n l s) (Crash i) e down off calls many h k T U can = absurd h
  moves_same (Up n l s) (Up i landed stop) (Turn j brought others halt) down off calls many h k T U can = absurd k
  moves_same (Up n l s) (Up i landed stop) (Ask j also others halt) down off calls many h k T U can = absurd k
  moves_same (Up n l s) (Up i landed stop) (Crash j) down off calls many h k T U can = absurd k

  pub steps_same : (asked event other : WorldEvent) (down off : Bool) (calls many : ℕ) → IsOf asked event → IsOf asked other → NetStepRead armed asked event down raw calls old new
      → NetStepRead armed asked other off raw many here there → CanStart (node_of asked) old → CameSame event other down off calls many new there
  steps_same asked event other down off calls many h k (inl T) (inl U) can = moves_same asked event other down off calls many h k T U can
  steps_same asked event other down off calls many h k (inl T) (inr r) can =
      let (host, at, acts) = acts_asked armed raw old new asked event down calls h T in
      let R : RestsNode asked here there = subst (λ z. RestsNode z here there) r.same r.rests in
      absurd (clash asked host.node R.host.node acts R.nothing (nth_same (node_of asked) old.hosts here.hosts host R.host same.hosts at R.here).node)
  steps_same asked event other down off calls many h k (inr r) (inl U) can =
      let (host, at, acts) = acts_asked armed raw here there asked other off many k U in
      let R : RestsNode asked old new = subst (λ z. RestsNode z old new) r.same r.rests in
      absurd (clash_back asked R.host.node host.node R.nothing acts (nth_same (node_of asked) old.hosts here.hosts R.host host same.hosts R.here at).node)
  steps_same asked event other down off calls many h k (inr r) (inr s) can = record {
    event_is = r.same ∙ sym s.same;
    down_is = r.stays ∙ sym s.stays;
    calls_are = r.none ∙ sym s.none;
    net = subst (λ z. IsSameNet z there) (sym r.rests.same) (subst (IsSameNet old) (sym s.rests.same) same);
  }
