-- A post reaches the book as the world says.
use Rattle.std.proofs.Common.{◌≡◌, refl, sym, subst, ap, ◌∙◌, ℕ, List, ◌++◌, Bool, true, false, cond, ◌||◌, IfSome, Option, Some, None}
use Rattle.std.specs.Option.{option_and_then, option_map}
use Rattle.url.specs.Parser.{parse_url}
use Rattle.xml_grammar.specs.Refusals.{IsShort}
use Rattle.at_base.specs.declared.epr.Epr.{Epr}
use Rattle.at_base.specs.declared.epr.Reply.{Reply}
use Rattle.at_base.specs.declared.epr.Reply.TheVariants as replies
use Rattle.at_base.specs.declared.event.Arrived.{Arrived}
use Rattle.at_base.specs.declared.outs.Post.{Post}
use Rattle.at_base.specs.declared.target.Target.{Target}
use Rattle.endpoints.specs.Addresses.{after_prefix, target_of, target_at}
use Rattle.at_model.specs.World.{arrival_of, decoded, decoded_at, reply_of as model_reply_of}
use Rattle.endpoints.specs.Forms.{takes}
use Rattle.addressing.specs.Endpoints.{is_anonymous, is_nobody, reply_of}
use Rattle.addressing.specs.PostAddresses.{path_in}
use Rattle.wire_msgs.specs.Targets.{target_at as wire_target_at}
use Rattle.wire_msgs.specs.WholeMessages.{IsClean}
use Rattle.wire_posts.specs.Envelopes.{IsTextOf, reply_epr}
use Rattle.wire_posts.specs.Returns.{CanReturn, IsInLimits, returned, written_to}
use Rattle.wire_posts.proofs.Arrivals.{text_returns}
use Rattle.arrivals.specs.BookArrivals.{can_be_sent_to, is_postable, reaches, sender_of}
use Rattle.arrivals.proofs.Paths.{behind_prefix}
use Rattle.arrivals.specs.Worlds.{CanArrive, IsBase, IsProper, IsProperReply, IsWritten, Reaches}

sender_same : (from : Option Epr) → IfSome from (λ epr. is_postable epr ≡ true) → sender_of (can_be_sent_to from) from ≡ from
sender_same None h = refl
sender_same (Some epr) h = rw h refl

neither : (a b : Bool) (epr : Epr) → (a || b) ≡ false → cond a replies.Anonymous (cond b replies.Nobody (replies.At epr)) ≡ replies.At epr
neither true b epr h = absurd cc
neither false true epr h = absurd cc
neither false false epr h = refl

reply_same : (reply : Option Reply) → IfSome reply IsProperReply → reply_of (option_map reply_epr reply) ≡ model_reply_of reply
reply_same None h = refl
reply_same (Some replies.Anonymous) h = refl
reply_same (Some replies.Nobody) h = refl
reply_same (Some (replies.At epr)) h = neither (is_anonymous epr) (is_nobody epr) epr h

same : (post : Post) (target : Target) → IsProper post → reaches (returned post target) ≡ arrival_of target post
same post target p =
    let from = sender_same post.from p.from in
    let reply = reply_same post.reply p.reply in
    let postable = p.participant in
    λ i. record {
      target = target;
      id = post.id;
      relates = post.relates;
      from = from i;
      reply = reply i;
      fault = reply i;
      postable = postable i;
      message = post.message;
    }

some_same : (x y : Arrived) → Some x ≡ Some y → x ≡ y
some_same x y e = cc

module _ (post : Post) (text path : List ℕ) (arrived : Arrived) (of : IsTextOf post text) (c : CanReturn post path arrived.target)
    (w : IsInLimits post) (s : IsShort text) (p : IsProper post) where
  at_target : (target : Target) (b : Bool) → cond b (Some (arrival_of target post)) None ≡ Some arrived → Reaches text path arrived
  at_target target false e = absurd cc
  at_target target true e =
      let is : arrival_of target post ≡ arrived = some_same (arrival_of target post) arrived e in
      let there : target ≡ arrived.target = ap (λ (a : Arrived). a.target) is in
      record {
        arrival = returned post arrived.target;
        arrives = text_returns post text of path arrived.target c w s;
        reached = subst (λ (t : Target). reaches (returned post t) ≡ arrived) there (same post target p ∙ is);
      }

  at_place : (target : Option Target) → decoded_at target post ≡ Some arrived → Reaches text path arrived
  at_place None e = absurd cc
  at_place (Some target) e = at_target target (takes target post.message) e

  at_address : (base : List ℕ) (to : Option Epr) → option_and_then (λ epr. decoded_at (target_at base epr.address) post) to ≡ Some arrived → Reaches text path arrived
  at_address base None e = absurd cc
  at_address base (Some epr) e = at_place (target_at base epr.address) e

pub post_reaches : (base : List ℕ) (post : Post) (arrived : Arrived) (text path : List ℕ) → decoded base post ≡ Some arrived → IsTextOf post text
    → CanReturn post path arrived.target → IsInLimits post → IsShort text → IsProper post → Reaches text path arrived
post_reaches base post arrived text path e of c w s p = at_address post text path arrived of c w s p base post.to e

-- at the node to whose address it goes

wire_named : (base address path : List ℕ) (target : Target) → IsBase base → target_at base address ≡ Some target → wire_target_at (Some address) path ≡ Some target
wire_named base address path target b e = by_prefix (after_prefix base address) refl e
  where
    by_prefix : (o : Option (List ℕ)) → after_prefix base address ≡ o → option_and_then target_of o ≡ Some target → wire_target_at (Some address) path ≡ Some target
    by_prefix None p h = absurd cc
    by_prefix (Some rest) p h =
        let whole : address ≡ base ++ rest = behind_prefix base address rest p in
        subst (λ (a : List ℕ). option_and_then target_of (path_in (parse_url None a)) ≡ Some target) (sym whole)
        (ap (option_and_then target_of) (b rest target h) ∙ h)

abbrev IsFor : Post → List ℕ → Option Epr → Target → Type 0
IsFor post path to target = (wire_target_at (written_to to) path ≡ Some target) × (takes target post.message ≡ true)

module _ (post : Post) (base path : List ℕ) (arrived : Arrived) (b : IsBase base) where
  taken_at : (epr : Epr) (target : Target) (takes_it : Bool) → takes target post.message ≡ takes_it → IsWritten epr → target_at base epr.address ≡ Some target
      → cond takes_it (Some (arrival_of target post)) None ≡ Some arrived → IsFor post path (Some epr) arrived.target
  taken_at epr target false t w e h = absurd cc
  taken_at epr target true t w e h =
      let is : arrival_of target post ≡ arrived = some_same (arrival_of target post) arrived h in
      let there : target ≡ arrived.target = ap (λ (a : Arrived). a.target) is in
      let written : written_to (Some epr) ≡ Some epr.address = rw w.somewhere refl in
      let named : wire_target_at (written_to (Some epr)) path ≡ Some target =
      ap (λ (to : Option (List ℕ)). wire_target_at to path) written ∙ wire_named base epr.address path target b e in
      subst (IsFor post path (Some epr)) there (named, t)

  for_at : (epr : Epr) (target : Option Target) → IsWritten epr → target_at base epr.address ≡ target → decoded_at target post ≡ Some arrived
      → IsFor post path (Some epr) arrived.target
  for_at epr None w e h = absurd cc
  for_at epr (Some target) w e h = taken_at epr target (takes target post.message) refl w e h

  for_it : (to : Option Epr) → IfSome to IsWritten → option_and_then (λ epr. decoded_at (target_at base epr.address) post) to ≡ Some arrived
      → IsFor post path to arrived.target
  for_it None w h = absurd cc
  for_it (Some epr) w h = for_at epr (target_at base epr.address) w refl h

written_clean : (to : Option Epr) → IfSome to IsWritten → IfSome to (λ epr. IsClean epr.address)
written_clean None h = tt
written_clean (Some epr) h = h.clean

pub node_reaches : (base : List ℕ) (post : Post) (arrived : Arrived) (text path : List ℕ) → IsBase base → decoded base post ≡ Some arrived → IsTextOf post text
    → CanArrive post → IsInLimits post → IsShort text → IsProper post → Reaches text path arrived
node_reaches base post arrived text path b e of c w s p =
    let meant : IsFor post path post.to arrived.target = for_it post base path arrived b post.to c.to e in
    let can : CanReturn post path arrived.target = record {
      to = written_clean post.to c.to;
      named = meant.0;
      taken = meant.1;
      id = c.id;
      relates = c.relates;
      from = c.from;
      reply = c.reply;
      message = c.message;
      request = c.request;
    } in
    post_reaches base post arrived text path e of can w s p
