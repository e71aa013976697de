-- What is taken of an envelope is what the world of the model decodes.
use Rattle.std.specs.Prelude.{ℕ, List, ◌++◌, Option, Some, None, IfSome, Bool, true, false, cond, Result, Ok, Err, ◌≡◌, ◌<◌, ◌≤◌, ◌^◌, length}
use Rattle.std.specs.Option.{option_and_then}
use Rattle.std.proofs.Common.{refl, ap, sym, subst, ◌∙◌, arith}
use Rattle.addressing.specs.PostAddresses.{path_in}
use Rattle.arrivals.specs.BookArrivals.{reaches}
use Rattle.arrivals.specs.Worlds.{CanArrive, IsBase, IsProper, IsWritten, Reaches}
use Rattle.arrivals.proofs.Paths.{behind_prefix}
use Rattle.at_base.specs.declared.epr.Epr.{Epr}
use Rattle.at_base.specs.declared.event.Arrived.{Arrived}
use Rattle.at_base.specs.declared.outs.Post.{Post}
use Rattle.at_base.specs.declared.target.Target.{Target}
use Rattle.at_model.specs.World.{arrival_of as arrived_as, decoded, decoded_at}
use Rattle.endpoints.specs.Addresses.{after_prefix, target_at, target_of}
use Rattle.endpoints.specs.Forms.{takes}
use Rattle.url.specs.Parser.{parse_url}
use Rattle.wire_msgs.specs.Arrivals.{Arrives, arrival_of}
use Rattle.wire_msgs.specs.Targets.{target_at as wire_target_at}
use Rattle.wire_msgs.specs.declared.decode.Arrival.{Arrival}
use Rattle.wire_msgs.specs.declared.refusal.Refusal.{Refusal}
use Rattle.wire_posts.specs.Envelopes.{IsTextOf}
use Rattle.wire_posts.specs.Returns.{IsInLimits, written_to}
use Rattle.wire_posts.proofs.Uniqueness.{envelope_one}
use Rattle.xml_grammar.specs.Limits.{IsWithin}
use Rattle.xml_grammar.specs.Refusals.{IsShort}
use Rattle.xml_grammar.specs.Spells.{Spells}
use Rattle.xml_profile.specs.CanonicalText.{canonical_text}
use Rattle.xml_profile.specs.declared.tree.Tree.{Tree}
use Rattle.xml_roundtrip.proofs.EqualTexts.{text_spells}
use Rattle.deliverables.specs.Deliverables.{WhatIsTakenIsDecoded}
use Rattle.deliverables.proofs.DeliverablePosts.{can_arrive, is_proper}
use Rattle.deliverables.proofs.RefusedMessages.{is_refused}
use Rattle.deliverables.proofs.SpellablePosts.{post_can}

abbrev OneTree : Type 0
OneTree = (bytes : List ℕ) → (t : Tree) → (u : Tree) → Spells bytes t → Spells bytes u → t ≡ u

abbrev AtABase : Type 0
AtABase =
    (base : List ℕ) → (post : Post) → (arrived : Arrived) → (text : List ℕ) → (path : List ℕ) → IsBase base → decoded base post ≡ Some arrived → IsTextOf post text → CanArrive post
    → IsInLimits post → IsShort text → IsProper post → Reaches text path arrived

arrival_or : Arrival → Result Arrival Refusal → Arrival
arrival_or x (Ok y) = y
arrival_or x (Err e) = x

same_ok : (x y : Arrival) (r s : Result Arrival Refusal) → r ≡ Ok x → s ≡ Ok y → r ≡ s → x ≡ y
unfolding arrival_or
same_ok x y r s e f g = ap (arrival_or x) (sym e ∙ g ∙ f)

is_small : (n : ℕ) → n ≤ 65536 → n < 2 ^ 63
is_small n h = omega (arith, h)

-- the target that the wire finds is that of the address
wire_named : (base address path : List ℕ) (target : Target) → IsBase base → target_at base address ≡ Some target → wire_target_at (Some address) path ≡ Some target
wire_named base address path target b e = by_prefix (after_prefix base address) refl e
  where
    by_prefix : (o : Option (List ℕ)) → after_prefix base address ≡ o → option_and_then target_of o ≡ Some target → wire_target_at (Some address) path ≡ Some target
    by_prefix None p h = absurd cc
    by_prefix (Some rest) p h =
        let whole : address ≡ base ++ rest = behind_prefix base address rest p in
        subst (λ (a : List ℕ). option_and_then target_of (path_in (parse_url None a)) ≡ Some target) (sym whole)
        (ap (option_and_then target_of) (b rest target h) ∙ h)

written_named : (base path : List ℕ) (epr : Epr) (target : Target) → IsBase base → IsWritten epr → target_at base epr.address ≡ Some target
    → wire_target_at (written_to (Some epr)) path ≡ Some target
written_named base path epr target b w e =
    let written : written_to (Some epr) ≡ Some epr.address = rw w.somewhere refl in
    ap (λ (to : Option (List ℕ)). wire_target_at to path) written ∙ wire_named base epr.address path target b e

decoded_so : (base : List ℕ) (p : Post) (epr : Epr) (target : Target) → p.to ≡ Some epr → target_at base epr.address ≡ Some target → takes target p.message ≡ true
    → decoded base p ≡ Some (arrived_as target p)
decoded_so base p epr target to at t =
    ap (option_and_then (λ (e : Epr). decoded_at (target_at base e.address) p)) to
    ∙ (ap (λ o. decoded_at o p) at ∙ ap (λ b. cond b (Some (arrived_as target p)) None) t)

module _ (one : OneTree) (reach : AtABase) where
  -- the tree that was read is that of the envelope
  same_tree : (p : Post) (text : List ℕ) (of : IsTextOf p text) (t : Tree) → CanArrive p → IsShort text → Spells text t → t ≡ of.tree
  same_tree p text of t c short h =
      let spelled : Spells (canonical_text of.tree) of.tree = text_spells of.tree (is_small (length (canonical_text of.tree)) (subst IsShort of.whole short)) (post_can p of.tree of.of c) in
      one text t of.tree h (subst (λ z. Spells z of.tree) (sym of.whole) spelled)

  in_limits : (p : Post) (text : List ℕ) (of : IsTextOf p text) (t : Tree) → t ≡ of.tree → IsWithin t → IsInLimits p
  in_limits p text of t same w u e = subst IsWithin (same ∙ envelope_one p of.tree u of.of e) w

  one_arrival : (bytes path : List ℕ) (x y : Arrival) → Arrives bytes path x → Arrives bytes path y → x ≡ y
  one_arrival bytes path x y h k =
      same_ok x y (arrival_of h.tree path) (arrival_of k.tree path) h.means k.means (ap (λ t. arrival_of t path) (one bytes h.tree k.tree h.reads.spells k.reads.spells))

  pub taken : WhatIsTakenIsDecoded
  taken base target p epr text path arrival b h to at of short arrives = by_takes (takes target p.message) refl
    where
      can : CanArrive p
      can = can_arrive p h

      same : arrives.tree ≡ of.tree
      same = same_tree p text of arrives.tree can short arrives.reads.spells

      named : wire_target_at (written_to p.to) path ≡ Some target
      named = ap (λ o. wire_target_at (written_to o) path) to ∙ written_named base path epr target b (subst (λ o. IfSome o IsWritten) to can.to) at

      by_takes : (x : Bool) → takes target p.message ≡ x → decoded base p ≡ Some (reaches arrival)
      by_takes true t =
          let d : decoded base p ≡ Some (arrived_as target p) = decoded_so base p epr target to at t in
          let r = reach base p (arrived_as target p) text path b d of can (in_limits p text of arrives.tree same arrives.reads.within) short (is_proper p h) in
          d ∙ ap Some (sym r.reached ∙ ap reaches (one_arrival text path r.arrival arrival r.arrives arrives))
      by_takes false t =
          absurd (is_refused p path target of.of.headers of.of.body arrival of.of.headed of.of.said can named t
          (ap (λ z. arrival_of z path) (sym of.of.whole ∙ sym same) ∙ arrives.means))
