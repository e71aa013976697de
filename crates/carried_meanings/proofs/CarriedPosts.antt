-- The bytes by which a message was posted ask for it.
use Rattle.std.specs.Prelude.{ℕ, List, [], ◌++◌, Option, Some, None, IfSome, false, Result, Ok, Err, ◌≡◌, codes, length, option_map, slice_index}
use Rattle.std.specs.Option.{option_and_then}
use Rattle.std.proofs.Common.{refl, sym, subst, ap, arith, ◌∙◌}
use Rattle.std.proofs.lemmas.Option.{option_and_then_some}
use Rattle.addressing.specs.PostAddresses.{path_in, post_to_of}
use Rattle.addressing.specs.declared.post_to.PostTo.{PostTo}
use Rattle.arrivals.specs.BookArrivals.{reaches}
use Rattle.arrivals.specs.Worlds.{CanArrive, IsBase, IsProper, IsWritten, Reaches, with_path}
use Rattle.at_base.specs.declared.epr.Epr.{Epr}
use Rattle.at_base.specs.declared.event.Arrived.{Arrived}
use Rattle.at_base.specs.declared.outs.Post.{Post}
use Rattle.at_base.specs.declared.target.Target.{Target}
use Rattle.at_base.specs.declared.target.Target.TheVariants as targets
use Rattle.at_model.specs.World.{Hosts, IsNumber, decoded, new_nodes, place_of, receiver_of}
use Rattle.deliverables.specs.Bases.{IsNodeBase}
use Rattle.deliverables.specs.Deliverables.{PostsCanBeRead, WhatIsTakenIsDecoded, deliverable}
use Rattle.deliverables.proofs.DeliverablePosts.{can_arrive, is_proper}
use Rattle.deliverables.proofs.OwnAddresses.{only_there}
use Rattle.deliverables.proofs.SpellablePosts.{post_can}
use Rattle.deliveries.specs.DeliverableNets.{AreNodeHosts, IsDeliverableNet, IsPostedOf}
use Rattle.deliveries.specs.Deliveries.{IsCarried}
use Rattle.deliveries.proofs.NetForms.{posted_in}
use Rattle.endpoints.specs.Addresses.{after_prefix, path_of, target_at, target_of}
use Rattle.endpoints.proofs.Inverses.{behind_prefix, paths_name_targets}
use Rattle.envelope_cmd.specs.RequestMeanings.{IsTold, SayOneThing}
use Rattle.envelope_cmd.specs.RequestMeanings.{Says as SaysAt}
use Rattle.http_post.specs.Conversations.{Waits}
use Rattle.http_post.specs.Laws.{AskOneThing, PostsAreReadBack}
use Rattle.http_post.specs.OutBytes.{authority, post_of}
use Rattle.http_post.specs.ReadablePosts.{CanBeRead}
use Rattle.http_post.specs.Requests.{Asks, without_query}
use Rattle.model_laws.proofs.Addresses.{place_is}
use Rattle.node_at.specs.Meanings.{Meaning, Means, request, tick_path}
use Rattle.node_at.specs.Meanings.Meaning.{Refused}
use Rattle.node_at.specs.Texts.{goes_to}
use Rattle.node_at.specs.declared.role.Role.TheVariants.{All}
use Rattle.node_worlds.specs.Nets.{Net}
use Rattle.url.specs.Parser.{parse_url}
use Rattle.url.specs.Parts.{IsValidHead, Parts, serialize}
use Rattle.wire_msgs.specs.Arrivals.{Arrives, IsRefused, arrival_of}
use Rattle.wire_msgs.specs.Arrivals.{Means as MeansAt}
use Rattle.wire_msgs.specs.Targets.{target_at as wire_target_at}
use Rattle.wire_msgs.specs.declared.decode.Arrival.{Arrival}
use Rattle.wire_msgs.specs.declared.refusal.Refusal.{Refusal}
use Rattle.wire_msgs.specs.declared.refusal.Refusal.TheVariants as refusals
use Rattle.wire_posts.specs.Envelopes.{IsTextOf, action_in}
use Rattle.wire_posts.specs.Faults.{refusal_status, refusal_text}
use Rattle.wire_posts.specs.Returns.{IsInLimits, written_to}
use Rattle.wire_posts.proofs.Uniqueness.{envelope_one}
use Rattle.xml_grammar.specs.Limits.{IsWithin}
use Rattle.xml_grammar.specs.Refusals.{IsShort}
use Rattle.xml_grammar.specs.Spells.{Spells}
use Rattle.xml_profile.specs.CanonicalText.{canonical_text}
use Rattle.xml_profile.specs.declared.tree.Tree.{Tree}
use Rattle.xml_roundtrip.proofs.EqualTexts.{text_spells}
use Rattle.carried_meanings.specs.CarriedMeanings.{PostsDontWait, PostsSay, Takes, arrives, draws, is_past}
use Rattle.carried_meanings.proofs.NamedTargets.{names_target}
use Rattle.carried_meanings.proofs.OneMeaning.{Tells, meaning_of, meant_by, tells}
use Rattle.carried_meanings.proofs.ReadHeads.{post_waits}

-- a message that has a receiver goes to an endpoint of it
record Leads (hosts : Hosts) (i : ℕ) (to : Option Epr) : Type 0 where
  number : IsNumber hosts i
  endpoint : Epr
  is : to ≡ Some endpoint
  target : Target
  names : target_at (hosts.base_of i) endpoint.address ≡ Some target

leads : (hosts : Hosts) (i : ℕ) (to : Option Epr) → receiver_of (new_nodes hosts.base_of hosts.count 1) to ≡ Some i → Leads hosts i to
leads hosts i None h = absurd cc
leads hosts i (Some endpoint) h = by_place (place_of 1 (new_nodes hosts.base_of hosts.count 1) endpoint.address) refl h
  where
    by_place : (o : Option (ℕ × Target)) → place_of 1 (new_nodes hosts.base_of hosts.count 1) endpoint.address ≡ o → option_map (λ p. p.0) o ≡ Some i → Leads hosts i (Some endpoint)
    by_place None e k = absurd cc
    by_place (Some p) e k =
        let there = place_is hosts.base_of hosts.count 1 endpoint.address p e in
        let same : p.0 ≡ i = cc in
        record {
          number = (omega (arith, there.least, same), omega (arith, there.most, same));
          endpoint = endpoint;
          is = refl;
          target = p.1;
          names = ap (λ j. target_at (hosts.base_of j) endpoint.address) (sym same) ∙ there.target;
        }

-- no target has the path that asks for what is due
no_tick : (own : Target) → without_query (path_of own) ≡ tick_path → ⊥
no_tick own e = by_target own (ap (λ path. slice_index path 1) e)
  where
    by_target : (own : Target) → slice_index (without_query (path_of own)) 1 ≡ 116 → ⊥
    by_target targets.Activation h = omega (arith, h)
    by_target targets.Work h = omega (arith, h)
    by_target (targets.Registration id) h = omega (arith, h)
    by_target (targets.Completion id) h = omega (arith, h)
    by_target (targets.Coordinator id seat) h = omega (arith, h)
    by_target (targets.Participant id kind) h = omega (arith, h)
    by_target (targets.Initiator id) h = omega (arith, h)

-- all that a short text may be refused for, but for want of a target, is answered with 500
status_is : (text path : List ℕ) (r : Refusal) → IsShort text → IsRefused text path r → IsTold (Err r) → (r ≡ refusals.NoTarget → ⊥) → refusal_status r ≡ 500
status_is text path refusals.TooLong short h told ne = absurd (omega (arith, short, h))
status_is text path (refusals.NotUtf8 place) short h told ne = refl
status_is text path refusals.NotSpelled short h told ne = refl
status_is text path refusals.TooDeep short h told ne = refl
status_is text path refusals.TooMany short h told ne = refl
status_is text path refusals.VersionMismatch short h told ne = refl
status_is text path refusals.NotEnvelope short h told ne = refl
status_is text path (refusals.MustUnderstand name) short h told ne = refl
status_is text path (refusals.MissingHeader name) short h told ne = refl
status_is text path (refusals.InvalidHeader name) short h told ne = refl
status_is text path refusals.NoTarget short h told ne = absurd (ne refl)
status_is text path refusals.Action short h told ne = refl
status_is text path (refusals.Parameters name) short h told ne = refl
status_is text path refusals.NoMemory short h (line, e) ne = absurd cc

no_both : {A E : Type 0} (x : A) (y : E) → ◌≡◌ {A = Result A E} (Ok x) (Err y) → ⊥
no_both x y e = absurd cc

-- the target that the wire finds is that of the address
wire_named : (base address path : List ℕ) (target : Target) → IsBase base → target_at base address ≡ Some target → wire_target_at (Some address) path ≡ Some target
wire_named base address path target b e =
    option_and_then_some target_of (after_prefix base address) target e (λ rest found named.
    subst (λ (a : List ℕ). option_and_then target_of (path_in (parse_url None a)) ≡ Some target) (sym (behind_prefix base address rest found))
    (ap (option_and_then target_of) (b rest target named) ∙ named))

written_named : (base path : List ℕ) (epr : Epr) (target : Target) → IsBase base → IsWritten epr → target_at base epr.address ≡ Some target
    → wire_target_at (written_to (Some epr)) path ≡ Some target
written_named base path epr target b w e =
    let written : written_to (Some epr) ≡ Some epr.address = rw w.somewhere refl in
    ap (λ (to : Option (List ℕ)). wire_target_at to path) written ∙ wire_named base epr.address path target b e

abbrev HeadsAreBases : Type 0
HeadsAreBases = (url : Parts) → IsValidHead url → url.scheme ≡ codes "http" → IsBase (serialize (with_path url []))

abbrev ReachAtABase : Type 0
ReachAtABase =
    (base : List ℕ) → (post : Post) → (arrived : Arrived) → (text : List ℕ) → (path : List ℕ) → IsBase base → decoded base post ≡ Some arrived → IsTextOf post text → CanArrive post
    → IsInLimits post → IsShort text → IsProper post → Reaches text path arrived

abbrev OneTree : Type 0
OneTree = (bytes : List ℕ) → (t : Tree) → (u : Tree) → Spells bytes t → Spells bytes u → t ≡ u

module _ (back : PostsAreReadBack) (readable : PostsCanBeRead) where
  module _ (hosts : Hosts) (net : Net) (i : ℕ) (input : List ℕ) (are : AreNodeHosts hosts) (fit : IsDeliverableNet hosts net) (c : IsCarried hosts net i input) (short : IsShort c.text) where
    abbrev post : Post
    post = c.posted.content

    all : IsPostedOf deliverable hosts c.posted
    all = posted_in deliverable hosts net.posted c.posted fit.posted c.stands

    lead : Leads hosts i post.to
    lead = leads hosts i post.to (sym all.received ∙ c.received)

    abbrev base : List ℕ
    base = hosts.base_of i

    node : IsNodeBase base
    node = are i lead.number

    goes : post_to_of lead.endpoint.address ≡ Some c.to
    goes = ap goes_to (sym lead.is) ∙ c.goes

    can : CanBeRead c.to.path (authority c.to) (action_in post.message) c.text (post_of c.to (action_in post.message) c.text)
    can = readable base lead.target post lead.endpoint c.to c.text node lead.names goes short

    -- the whole envelope is the body
    asks : Asks (post_of c.to (action_in post.message) c.text) (request (without_query c.to.path) c.text)
    asks = back c.to (action_in post.message) c.text can

    waits : Waits input false
    waits = subst (λ z. Waits z false) (sym c.is) (post_waits c.to (action_in post.message) c.text (record { path = without_query c.to.path; body = c.text }) can asks)

    -- the path is that of a target
    path_is : c.to.path ≡ path_of lead.target
    path_is =
        option_and_then_some target_of (after_prefix base lead.endpoint.address) lead.target lead.names (λ rest found named.
        let (written, same) = paths_name_targets.alone rest lead.target named in
        let whole : lead.endpoint.address ≡ base ++ path_of lead.target =
        behind_prefix base lead.endpoint.address rest found ∙ ap (λ (path : List ℕ). base ++ path) same in
        ap (λ (to : PostTo). to.path)
        (sym (only_there base node.url (path_of lead.target) lead.target c.to node.valid node.http node.is (paths_name_targets.named lead.target written) (sym (ap post_to_of whole) ∙ goes))))

    other : without_query c.to.path ≡ tick_path → ⊥
    other e = no_tick lead.target (ap without_query (sym path_is) ∙ e)

    module _ (ask : AskOneThing) (one : SayOneThing) (tree : OneTree) (heads : HeadsAreBases) (decodes : WhatIsTakenIsDecoded) (reach : ReachAtABase) where
      arrives_so : CanArrive post
      arrives_so = can_arrive post all.content

      is_base : IsBase base
      is_base = subst IsBase (sym node.is) (heads node.url node.valid node.http)

      abbrev path : List ℕ
      path = without_query c.to.path

      -- the tree that was read is that of the envelope
      same_tree : (t : Tree) → Spells c.text t → c.of.tree ≡ t
      same_tree t h =
          let spelled : Spells (canonical_text c.of.tree) c.of.tree =
          text_spells c.of.tree (omega (arith, ap length c.of.whole, short)) (post_can post c.of.tree c.of.of arrives_so) in
          tree c.text c.of.tree t (subst (λ z. Spells z c.of.tree) (sym c.of.whole) spelled) h

      named : wire_target_at (written_to post.to) path ≡ Some lead.target
      named =
          ap (λ o. wire_target_at (written_to o) path) lead.is
          ∙ written_named base path lead.endpoint lead.target is_base (subst (λ o. IfSome o IsWritten) lead.is arrives_so.to) lead.names

      has_target : (r : Refusal) → IsRefused c.text path r → r ≡ refusals.NoTarget → ⊥
      has_target r h e =
          let m : MeansAt c.text path (Err refusals.NoTarget) = subst (IsRefused c.text path) e h in
          names_target post path lead.target c.of.of.headers c.of.of.body c.of.of.headed arrives_so named
          (ap (λ t. arrival_of t path) (sym c.of.of.whole ∙ same_tree m.tree m.reads.spells) ∙ m.means)

      taken : (a : Arrival) → Arrives c.text path a → Takes base post (meaning_of All (Ok a))
      taken a h =
          arrives (reaches a) (decodes base lead.target post lead.endpoint c.text path a is_base all.content lead.is lead.names c.of short h) (λ u e.
          subst IsWithin (sym (same_tree h.tree h.reads.spells) ∙ envelope_one post c.of.tree u c.of.of e) h.reads.within)

      refused : (r : Refusal) → IsRefused c.text path r → IsTold (Err r) → Takes base post (meaning_of All (Err r))
      refused r h told =
          subst (λ s. Takes base post (Refused s (refusal_text r))) (sym (status_is c.text path r short h told (has_target r h))) (by_decoded (decoded base post) refl)
        where
          by_decoded : (o : Option Arrived) → decoded base post ≡ o → Takes base post (Refused 500 (refusal_text r))
          by_decoded None e = draws (refusal_text r) e
          by_decoded (Some a) e =
              is_past (refusal_text r) (λ within.
              let x = reach base post a c.text path is_base e c.of arrives_so within short (is_proper post all.content) in
              no_both x.arrival r (one c.text path (Ok x.arrival) (Err r) x.arrives h tt told))

      takes : (said : Result Arrival Refusal) → SaysAt c.text path said → IsTold said → Takes base post (meaning_of All said)
      takes (Ok a) h told = taken a h
      takes (Err r) h told = refused r h told

      says : (meaning : Meaning) → Means All input meaning → Takes base post meaning
      says meaning means =
          let said : Tells All path c.text meaning =
          tells All path c.text meaning (meant_by ask All input meaning means (request path c.text) (subst (λ z. Asks z (request path c.text)) (sym c.is) asks)) other in
          subst (Takes base post) (sym said.is) (takes said.said said.says said.told)

  pub posts_say : AskOneThing → SayOneThing → OneTree → HeadsAreBases → WhatIsTakenIsDecoded → ReachAtABase → PostsSay
  posts_say ask one tree heads decodes reach hosts net i input meaning are fit c short means = says hosts net i input are fit c short ask one tree heads decodes reach meaning means

  pub posts_dont_wait : PostsDontWait
  posts_dont_wait hosts net i input are fit c short = waits hosts net i input are fit c short
