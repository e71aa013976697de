-- The bytes of a message that was posted to a node bring it that message.
use Rattle.std.specs.Prelude.{ℕ, List, [], Option, Some, None, Result, Ok, Err, ◌+◌, ◌≡◌, ◌≤◌, ◌<◌, zero, suc, option_map, codes, length, ◌⊎◌}
use Rattle.std.proofs.Common.{inl, inr, refl, sym, subst, ap, arith, ◌∙◌}
use Rattle.std.proofs.lemmas.Bool.{cases_lt}
use Rattle.addressing.specs.PostAddresses.{post_to_of}
use Rattle.arrivals.specs.BookArrivals.{reaches}
use Rattle.arrivals.specs.Worlds.{IsBase, with_path}
use Rattle.at_base.specs.declared.epr.Epr.{Epr}
use Rattle.at_base.specs.declared.event.Arrived.{Arrived}
use Rattle.at_base.specs.declared.event.Event.{Event}
use Rattle.at_base.specs.declared.event.Event.TheVariants as events
use Rattle.at_base.specs.declared.target.Target.{Target}
use Rattle.at_model.specs.World.{Hosts, IsNumber, new_nodes, place_of, place_or, receiver_of}
use Rattle.deliverables.specs.Bases.{IsNodeBase}
use Rattle.deliverables.specs.Deliverables.{LongPostsAskNothing, PostsCanBeRead, WhatIsTakenIsDecoded, deliverable}
use Rattle.endpoints.specs.Addresses.{target_at}
use Rattle.http_post.specs.Laws.{AskOneThing, PostsAreReadBack}
use Rattle.http_post.specs.Requests.{Asked, Asks, without_query}
use Rattle.http_post.specs.declared.refusal.HttpRefusal.{HttpRefusal}
use Rattle.http_post.specs.OutBytes.{post_of}
use Rattle.node_at.specs.Meanings.{Meaning, Means, Says, request}
use Rattle.node_at.specs.Meanings.Meaning.{Refused, Steps, Lost, Unread}
use Rattle.node_at.specs.Meanings.Means.{is_refused, is_request}
use Rattle.node_at.specs.Meanings.Says.{says, says_elsewhere, says_nothing, ticks}
use Rattle.node_at.specs.Texts.{goes_to}
use Rattle.node_at.specs.declared.role.Role.{Role}
use Rattle.node_worlds.specs.Nets.{IsPostedTo, Net}
use Rattle.url.specs.Parts.{IsValidHead, Parts, serialize}
use Rattle.wire_msgs.specs.Arrivals.{Arrives}
use Rattle.wire_msgs.specs.declared.decode.Arrival.{Arrival}
use Rattle.wire_posts.specs.Envelopes.{action_in}
use Rattle.xml_grammar.specs.Refusals.{IsShort}
use Rattle.deliveries.specs.DeliverableNets.{AreNodeHosts, IsDeliverableNet, IsPostedOf}
use Rattle.deliveries.specs.Deliveries.{IsCarried, PostsBring}
use Rattle.deliveries.proofs.NetForms.{posted_in}

-- what bytes that ask for a message ask for
IsStep : Meaning → Type 0
IsStep (Refused status text) = ⊥
IsStep (Steps e) = Unit {0}
IsStep Lost = ⊥
IsStep Unread = ⊥

not_refused : (status : ℕ) (text : Option (List ℕ)) (e : Event) → Refused status text ≡ Steps e → ⊥
unfolding IsStep
not_refused status text e h = subst IsStep (sym h) tt

arrived_or : Arrived → Meaning → Arrived
arrived_or a (Steps (events.Arrived b)) = b
arrived_or a other = a

same_arrived : (a b : Arrived) → Steps (events.Arrived b) ≡ Steps (events.Arrived a) → b ≡ a
unfolding arrived_or
same_arrived a b h = ap (arrived_or a) h

IsTick : Meaning → Type 0
IsTick (Steps events.Tick) = Unit {0}
IsTick other = ⊥

not_tick : (a : Arrived) → Steps events.Tick ≡ Steps (events.Arrived a) → ⊥
unfolding IsTick
not_tick a h = subst IsTick h tt

record Comes (path body : List ℕ) (a : Arrived) : Type 0 where
  arrival : Arrival
  arrives : Arrives body path arrival
  is : reaches arrival ≡ a

said : (role : Role) (path body : List ℕ) (meaning : Meaning) → Says role path body meaning → (a : Arrived) → meaning ≡ Steps (events.Arrived a) → Comes path body a
said role path body meaning (ticks e) a h = absurd (not_tick a h)
said role path body meaning (says_nothing refusal other answered refused) a h = absurd (not_refused _ _ _ h)
said role path body meaning (says_elsewhere arrival differs arrives other) a h = absurd (not_refused _ _ _ h)
said role path body meaning (says arrival differs arrives served) a h = record { arrival = arrival; arrives = arrives; is = same_arrived a (reaches arrival) h }

record Requests (role : Role) (input : List ℕ) (meaning : Meaning) : Type 0 where
  path : List ℕ
  body : List ℕ
  asks : Asks input (request path body)
  says : Says role path body meaning

requested : (role : Role) (input : List ℕ) (meaning : Meaning) → Means role input meaning → (e : Event) → meaning ≡ Steps e → Requests role input meaning
requested role input meaning (is_refused refusal why) e h = absurd (not_refused _ _ _ h)
requested role input meaning (is_request path body asked told) e h = record { path = path; body = body; asks = asked; says = told }

body_or : List ℕ → Result Asked HttpRefusal → List ℕ
body_or x (Ok y) = y.body
body_or x (Err e) = x

same_body : (p q x y : List ℕ) → request p x ≡ request q y → x ≡ y
unfolding body_or
same_body p q x y e = ap (body_or x) e

-- where an address leads
record Found (base_of : ℕ → List ℕ) (m k i : ℕ) (address : List ℕ) : Type 0 where
  least : m ≤ i
  below : i < m + k
  target : Target
  names : target_at (base_of i) address ≡ Some target

found_first : (base_of : ℕ → List ℕ) (k m i : ℕ) (address : List ℕ) (target : Option Target) (rest : Option (ℕ × Target)) → target_at (base_of m) address ≡ target
    → (option_map (λ p. p.0) rest ≡ Some i → Found base_of (m + 1) k i address) → option_map (λ p. p.0) (place_or m target rest) ≡ Some i → Found base_of m (suc k) i address
found_first base_of k m i address None rest e more h =
    let f = more h in
    record { least = omega (arith, f.least); below = omega (arith, f.below); target = f.target; names = f.names }
found_first base_of k m i address (Some target) rest e more h =
    let same : m ≡ i = cc in
    record { least = omega (arith, same); below = omega (arith, same); target = target; names = ap (λ j. target_at (base_of j) address) (sym same) ∙ e }

found : (base_of : ℕ → List ℕ) (k m i : ℕ) (address : List ℕ) → option_map (λ p. p.0) (place_of m (new_nodes base_of k m) address) ≡ Some i → Found base_of m k i address
found base_of zero m i address h = absurd cc
found base_of (suc k) m i address h =
    found_first base_of k m i address (target_at (base_of m) address) (place_of (m + 1) (new_nodes base_of k (m + 1)) address) refl (found base_of k (m + 1) i address) h

-- a message that has a receiver goes to an endpoint of it
record Leads (hosts : Hosts) (i : ℕ) (to : Option Epr) : Type 0 where
  number : IsNumber hosts i
  endpoint : Epr
  is : to ≡ Some endpoint
  target : Target
  names : target_at (hosts.base_of i) endpoint.address ≡ Some target

leads : (hosts : Hosts) (i : ℕ) (to : Option Epr) → receiver_of (new_nodes hosts.base_of hosts.count 1) to ≡ Some i → Leads hosts i to
leads hosts i None h = absurd cc
leads hosts i (Some endpoint) h =
    let f = found hosts.base_of hosts.count 1 i endpoint.address h in
    record { number = (f.least, omega (arith, f.below)); endpoint = endpoint; is = refl; target = f.target; names = f.names }

abbrev HeadsAreBases : Type 0
HeadsAreBases = (url : Parts) → IsValidHead url → url.scheme ≡ codes "http" → IsBase (serialize (with_path url []))

module _ (back : PostsAreReadBack) (one_thing : AskOneThing) (heads : HeadsAreBases) (readable : PostsCanBeRead) (long : LongPostsAskNothing) (decodes : WhatIsTakenIsDecoded) where
  is_base : (base : List ℕ) → IsNodeBase base → IsBase base
  is_base base h = subst IsBase (sym h.is) (heads h.url h.valid h.http)

  module _ (hosts : Hosts) (net : Net) (i : ℕ) (role : Role) (input : List ℕ) (a : Arrived) (are : AreNodeHosts hosts) (fit : IsDeliverableNet hosts net) (c : IsCarried hosts net i input)
      (r : Requests role input (Steps (events.Arrived a))) where
    all : IsPostedOf deliverable hosts c.posted
    all = posted_in deliverable hosts net.posted c.posted fit.posted c.stands

    lead : Leads hosts i c.posted.content.to
    lead = leads hosts i c.posted.content.to (sym all.received ∙ c.received)

    base : IsNodeBase (hosts.base_of i)
    base = are i lead.number

    abbrev action : List ℕ
    action = action_in c.posted.content.message

    goes : post_to_of lead.endpoint.address ≡ Some c.to
    goes = ap goes_to (sym lead.is) ∙ c.goes

    -- the whole envelope is the body
    brings_short : IsShort c.text → IsPostedTo hosts net i a
    brings_short short =
        let asked : Asks (post_of c.to action c.text) (request (without_query c.to.path) c.text) =
        back c.to action c.text (readable (hosts.base_of i) lead.target c.posted.content lead.endpoint c.to c.text base lead.names goes short) in
        let same : r.body ≡ c.text =
        same_body r.path (without_query c.to.path) r.body c.text
        (one_thing input (request r.path r.body) (request (without_query c.to.path) c.text) r.asks (subst (λ z. Asks z (request (without_query c.to.path) c.text)) (sym c.is) asked)) in
        let comes = said role r.path c.text (Steps (events.Arrived a)) (subst (λ z. Says role r.path z (Steps (events.Arrived a))) same r.says) a refl in (
          c.posted,
          c.stands,
          c.received,
          decodes (hosts.base_of i) lead.target c.posted.content lead.endpoint c.text r.path comes.arrival (is_base (hosts.base_of i) base) all.content lead.is lead.names c.of short comes.arrives
              ∙ ap Some comes.is,
        )

    brings_long : 65536 < length c.text → IsPostedTo hosts net i a
    brings_long more =
        absurd (long (hosts.base_of i) lead.target c.posted.content lead.endpoint c.to c.text r.path r.body base lead.names goes more c.held
        (subst (λ z. Asks z (request r.path r.body)) c.is r.asks))

    brings : (65536 < length c.text) ⊎ (length c.text ≤ 65536) → IsPostedTo hosts net i a
    brings (inl more) = brings_long more
    brings (inr short) = brings_short short

  pub posts_bring : PostsBring
  posts_bring hosts net i role input a are fit c means =
      brings hosts net i role input a are fit c (requested role input (Steps (events.Arrived a)) means (events.Arrived a) refl) (cases_lt 65536 (length c.text))
