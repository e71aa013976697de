-- A net in memory goes on behind the turn of one of its nodes.
use Rattle.std.specs.Prelude.{ℕ, List, [], ◌∷◌, ◌++◌, ◌≡◌, ◌⊎◌, ◌≤◌, ◌<◌, ◌^◌, IfSome, Some, None, Option, Bool, true, false, option_map, unwrap_or, length}
use Rattle.std.specs.List.{AllByRecursion}
use Rattle.std.proofs.Common.{refl, sym, ap, subst, arith, ◌∙◌, inl, inr, append-nil}
use Rattle.std.proofs.lemmas.List.{append_assoc, append_cancel_left}
use Rattle.at_model.specs.World.{Posted, example_hosts, nth, put_nth}
use Rattle.deliverables.specs.Bases.{ExamplesAreNodeBases}
use Rattle.deliverables.proofs.PostHeads.{post_length}
use Rattle.deliveries.specs.ByteNets.{Carries, IsNoMessage, ServeAsNets, Serves}
use Rattle.deliveries.specs.DeliverableNets.{AreNodeHosts, IsPostedOf}
use Rattle.deliveries.specs.Deliveries.{IsCarried}
use Rattle.deliveries.specs.Letters.{Adds, AllAreCalled, AreCalled, AreLetters, CallsPost, posts_in}
use Rattle.at_base.specs.declared.outs.Post.{Post}
use Rattle.node_at.specs.Doings.{deeds_of}
use Rattle.node_at.specs.Endings.{TakesTurn}
use Rattle.node_at.specs.Meanings.{next_input}
use Rattle.node_at.specs.Moments.{sent_of}
use Rattle.node_at.specs.State.{seen}
use Rattle.node_at.specs.TurnText.{TurnStep}
use Rattle.node_at.specs.declared.node.Node.{Node}
use Rattle.node_at.specs.declared.role.Role.TheVariants.{All}
use Rattle.node_at.specs.declared.turn.Turned.{Turned}
use Rattle.node_at.specs.declared.turn.Turned.TheVariants as turneds
use Rattle.node_worlds.specs.Crashes.{CrashesAreMet}
use Rattle.node_worlds.specs.Machines.{IsLeft}
use Rattle.node_worlds.specs.Nets.{after, as_far, broken, posts_from, steps_in}
use Rattle.node_worlds.specs.SentPosts.{accepted_along, recorded}
use Rattle.site_memory.specs.Devices.{calls_in, opening_in}
use Rattle.site_memory.specs.Disk.{ChosenAreImages, chosen_files}
use Rattle.site_memory.specs.Sites.{told_of}
use Rattle.site_memory.specs.declared.arm.Choice.{Choice}
use Rattle.site_memory.specs.declared.machine.MemSite.{MemSite}
use Rattle.site_model.specs.Told.{Call, Made, sent_by, sent_if}
use Rattle.wire_posts.specs.Envelopes.{action_in}
use Rattle.world_laws.proofs.Nodes.{put_put}
use Rattle.memory_net.specs.Calls.{Connects, IsServing}
use Rattle.memory_net.specs.Closed.{HostsTellReceivers, StaysClosed, closed}
use Rattle.memory_net.specs.Hosts.{Fell, IsTurned, since}
use Rattle.memory_net.specs.Mails.{Mail, mails_in}
use Rattle.memory_net.specs.Stands.{AreMailsOf, Holds, MayBring, Stands}
use Rattle.memory_net.specs.declared.host.Host.{Host}
use Rattle.memory_net.proofs.MailLists.{mails-append}
use Rattle.memory_net.proofs.MailedPosts.{all_left, all_right, letters_are, mails_posts, no_mails}
use Rattle.memory_net.proofs.Standing.{alone_where, comes_on, goes_so, mail_found, mails_join, placed_at, placed_other, placed_this, restand, same_some, since_made, since_same}

-- the receiver of a letter to a node
is_received : (o : Option ℕ) (i : ℕ) → 1 ≤ i → unwrap_or o 0 ≡ i → o ≡ Some i
is_received None i least e = absurd (omega (arith, least, e))
is_received (Some k) i least e = ap (λ n. Some n) e

sent_append : (xs ys : List Made) → sent_by (xs ++ ys) ≡ sent_by xs ++ sent_by ys
sent_append [] ys = refl
sent_append (x ∷ xs) ys = ap (λ (cs : List Call). sent_if x.done x.call ++ cs) (sent_append xs ys) ∙ sym (append_assoc (sent_if x.done x.call) (sent_by xs) (sent_by ys))

-- what was sent since
pub sent_since : (before now made : List Made) (sent : List Call) → now ≡ before ++ made → sent_by now ≡ sent_by before ++ sent → sent_by made ≡ sent
sent_since before now made sent e f = append_cancel_left (sent_by before) (sent_by made) sent (sym (sent_append before made) ∙ ap sent_by (sym e) ∙ f)

module _ (tell : HostsTellReceivers) (bases : ExamplesAreNodeBases) (closes : StaysClosed told_of) (nets : ServeAsNets told_of) (crashes : CrashesAreMet told_of) (calls : CallsPost told_of)
    (images : ChosenAreImages) (count : ℕ) (few : count ≤ 8) where
  pub small : count < 2 ^ 64
  small = omega (arith, few)

  pub are : AreNodeHosts (example_hosts count)
  are i number = bases i (omega (arith, number.1, few))

  -- the letters of posts that are the last of a net's messages
  pub letters_last : (i : ℕ) (front : List Posted) (ps : List Post) (cs : List Call) → AreLetters ps (posts_in cs)
      → AllByRecursion (IsPostedOf closed (example_hosts count)) (front ++ posts_from (example_hosts count) i ps)
      → AreMailsOf (posts_from (example_hosts count) i ps) (mails_in i count cs)
  letters_last i front ps cs letters fit =
      subst (AreMailsOf (posts_from (example_hosts count) i ps)) (sym (mails_posts i count cs))
      (letters_are tell i count small ps (posts_in cs) letters (all_right (IsPostedOf closed (example_hosts count)) front (posts_from (example_hosts count) i ps) fit))

  -- what is left of a machine that was chosen
  pub is_left : (s t : MemSite) (choice : Choice) → Adds (told_of s) (told_of t)
      → IsLeft (told_of s) (told_of t) (calls_in t.device) (chosen_files choice (opening_in t.device) (calls_in t.device))
  is_left s t choice adds = record {
    between = (
      calls_in s.device,
      calls_in t.device,
      refl,
      refl,
      (adds.made, sym (same_some (calls_in t.device) (calls_in s.device ++ adds.made) adds.calls)),
      ([], append-nil (calls_in t.device)),
    );
    past = (([], append-nil (calls_in t.device)), images choice (opening_in t.device) (calls_in t.device));
  }

  module _ (hosts : List Host) (mails : List Mail) (st : Stands count hosts mails) (i : ℕ) (least : 1 ≤ i) (h g : Host) (n : Node) (here : nth i hosts ≡ Some h) (up : h.node ≡ Some n) where
    abbrev pub hold : Holds st.net st.sites i h
    hold = st.holds i h here

    pub is_up : hold.place.node ≡ Some (seen n)
    is_up = hold.node ∙ ap (option_map seen) up

    pub serving : IsServing n
    serving = subst (λ o. IfSome o IsServing) up hold.serving

    module _ (bytes : List ℕ) (short : length bytes < 2 ^ 64) (c : MemSite) (connects : Connects bytes h.site c) (may : MayBring mails i bytes) where
      abbrev pub sites : ℕ → MemSite
      sites = placed_at i c st.sites

      pub at_this : sites i ≡ c
      at_this = placed_this i c st.sites

      abbrev pub waits : Serves told_of (example_hosts count) st.net sites
      waits =
          Serves.waited st.sites st.serves
          (alone_where i h.site c st.sites hold.site (ap (λ (z : MemSite). opening_in z.device) connects.others) (ap (λ (z : MemSite). calls_in z.device) connects.others))

      from_here : calls_in (sites i).device ≡ calls_in h.site.device
      from_here = ap (λ (z : MemSite). calls_in z.device) at_this ∙ ap (λ (z : MemSite). calls_in z.device) connects.others

      carried : MayBring mails i bytes → IsCarried (example_hosts count) st.net i bytes ⊎ IsNoMessage All bytes
      carried (inr none) = inr none
      carried (inl (m, stands, to, is)) =
          let (p, is_in, of) = mail_found st.net.posted mails m st.letters stands in
          inl (record {
            posted = p;
            stands = is_in;
            received = is_received p.receiver i least (of.receiver ∙ to);
            text = of.text;
            of = of.of;
            held = omega (arith, short, ap length (sym is ∙ of.is), post_length of.to (action_in p.content.message) of.text);
            to = of.to;
            goes = of.goes;
            is = sym is ∙ of.is;
          })

      carries : Carries (example_hosts count) st.net i All (told_of (sites i))
      carries = record {
        input = bytes;
        tells = ap (λ (z : MemSite). next_input (told_of z).link) at_this ∙ ap (λ l. next_input (Some l)) connects.brings;
        carried = carried may;
      }

      turned_on : (r : Turned) (m : Node) (t : MemSite) → (turn : TakesTurn told_of r All m.shrunk (seen n) (seen m) (sites i) t) → (r ≡ turneds.Halted → ⊥) → IsServing m → g.node ≡ Some m → g.site ≡ t
          → Stands count (put_nth i g hosts) (mails ++ since i count h.site t)
      turned_on r m t turn runs goes_on node site =
          let (ps, sent, posts) = calls.turns r All m.shrunk (seen n) (seen m) (sites i) t turn runs in
          let steps = steps_in turn.first All (seen n) turn.node (told_of (sites i)) (told_of turn.behind) turn.steps in
          let w = after (example_hosts count) i st.net hold.place (seen m) (recorded steps) ps (accepted_along (example_hosts count) i (seen n).book steps) in
          let ws = placed_at i t sites in
          let serves : Serves told_of (example_hosts count) w ws =
          Serves.turned st.net sites i hold.place (seen n) (seen m) r All m.shrunk t ps waits hold.here is_up turn runs (λ _. carries) sent (goes_so i t sites) refl in
          let same : since i count h.site t ≡ mails_in i count (sent_by posts.made) = sym (since_same i count h.site (sites i) t from_here) ∙ since_made i count (sites i) t posts.made posts.calls in
          restand count hosts mails (mails ++ since i count h.site t) st i h g here w ws serves st.asks hold.place (record { node = Some (seen m); records = hold.place.records ++ recorded steps }) hold.here refl
          (sym (ap (option_map seen) node)) (subst (λ o. IfSome o IsServing) (sym node) goes_on) (placed_this i t sites ∙ sym site)
          (λ j f. placed_other i t sites j f ∙ placed_other i c st.sites j f)
          (mails_join st.net.posted (posts_from (example_hosts count) i ps) mails (since i count h.site t) st.letters
          (subst (AreMailsOf (posts_from (example_hosts count) i ps)) (sym same) (letters_last i st.net.posted ps (sent_by posts.made) posts.letters (closes count w ws small serves st.asks).posted)))

      fell_on : (r : Turned) (m : Node) (t : MemSite) → (turn : TakesTurn told_of r All m.shrunk (seen n) (seen m) (sites i) t) → Adds (told_of (sites i)) (told_of t) → g.node ≡ None → Fell t g.site
          → Stands count (put_nth i g hosts) (mails ++ since i count h.site t)
      fell_on r m t turn adds node (choice, leaves) =
          let l = calls_in t.device in
          let d = chosen_files choice (opening_in t.device) l in
          let left = is_left (sites i) t choice adds in
          let cut = crashes.turns (example_hosts count) st.net sites i hold.place (seen n) (seen m) r All m.shrunk t l d (nets (example_hosts count) st.net sites are waits).runs hold.here is_up turn left in
          let w = broken (example_hosts count) i st.net hold.place (seen n) cut.front cut.posts in
          let ws = placed_at i g.site sites in
          let serves : Serves told_of (example_hosts count) w ws =
          Serves.cut_off st.net sites i hold.place (seen n) (seen m) r All m.shrunk t g.site l d cut.front cut.rest cut.doings cut.posts waits hold.here is_up turn (λ _. carries)
          (record { left = left; on = comes_on choice t g.site leaves; goes = goes_so i g.site sites }) cut.of cut.sent cut.stands refl in
          let letters = calls.sent_letters cut.front cut.doings cut.posts
          (all_left (λ (x : TurnStep). AreCalled x.leaving) cut.front cut.rest (subst (λ x. AllAreCalled x) cut.of (calls.begun_called r All m.shrunk (seen n) (seen m) (sites i) t turn))) cut.sent in
          let sent : sent_by adds.made ≡ cut.said ++ sent_of (deeds_of cut.doings) =
          sent_since (calls_in (sites i).device) l adds.made (cut.said ++ sent_of (deeds_of cut.doings)) (same_some l (calls_in (sites i).device ++ adds.made) adds.calls)
          (cut.calls ∙ ap (λ (b : List Made). sent_by b ++ (cut.said ++ sent_of (deeds_of cut.doings))) (sym (same_some (calls_in (sites i).device) cut.before cut.was))) in
          let same : since i count h.site t ≡ mails_in i count (sent_of (deeds_of cut.doings)) =
          sym (since_same i count h.site (sites i) t from_here) ∙ since_made i count (sites i) t adds.made adds.calls ∙ ap (mails_in i count) sent
          ∙ mails-append i count cut.said (sent_of (deeds_of cut.doings))
          ∙ ap (λ (ms : List Mail). ms ++ mails_in i count (sent_of (deeds_of cut.doings))) (no_mails i count cut.said cut.no_posts) in
          restand count hosts mails (mails ++ since i count h.site t) st i h g here w ws serves st.asks hold.place (record { node = None; records = hold.place.records ++ recorded cut.front }) hold.here
          (put_put i st.net.places (record { node = Some (as_far (seen n) cut.front); records = hold.place.records ++ recorded cut.front }) (record { node = None; records = hold.place.records ++ recorded cut.front }))
          (sym (ap (option_map seen) node)) (subst (λ o. IfSome o IsServing) (sym node) tt) (placed_this i g.site sites)
          (λ j f. placed_other i g.site sites j f ∙ placed_other i c st.sites j f)
          (mails_join st.net.posted (posts_from (example_hosts count) i cut.posts) mails (since i count h.site t) st.letters
          (subst (AreMailsOf (posts_from (example_hosts count) i cut.posts)) (sym same)
          (letters_last i st.net.posted cut.posts (sent_of (deeds_of cut.doings)) letters (closes count w ws small serves st.asks).posted)))

      adds_so : (r : Turned) (m : Node) (t : MemSite) → (turn : TakesTurn told_of r All m.shrunk (seen n) (seen m) (sites i) t) → (n.halted ≡ true → (r ≡ turneds.Halted) × (t ≡ c)) → Adds (told_of (sites i)) (told_of t)
      adds_so r m t turn halted = by n.halted refl
        where
          by : (b : Bool) → n.halted ≡ b → Adds (told_of (sites i)) (told_of t)
          by false e = calls.turns_add r All m.shrunk (seen n) (seen m) (sites i) t (serving.node.sure ∙ e) turn
          by true e = record {
            made = [];
            calls = ap (λ (z : MemSite). Some (calls_in z.device)) ((halted e).1 ∙ sym at_this) ∙ ap (λ l. Some l) (sym (append-nil (calls_in (sites i).device)));
          }

    pub turned : (bytes : List ℕ) (more : List Mail) → length bytes < 2 ^ 64 → MayBring mails i bytes → IsTurned i count bytes n h.site g mails more → Stands count (put_nth i g hosts) more
    turned bytes more short may T = subst (Stands count (put_nth i g hosts)) (sym T.posted) (by T.behind)
      where
        turn : TakesTurn told_of T.result All T.node.shrunk (seen n) (seen T.node) (sites bytes short T.turns.connected T.turns.connects may i) T.site
        turn =
            subst (λ z. TakesTurn told_of T.result All T.node.shrunk (seen n) (seen T.node) z T.site) (sym (at_this bytes short T.turns.connected T.turns.connects may)) T.turns.turn

        by : ((g.node ≡ Some T.node) × (g.site ≡ T.site) × (T.may_go ≡ true)) ⊎ ((g.node ≡ None) × Fell T.site g.site) → Stands count (put_nth i g hosts) (mails ++ since i count h.site T.site)
        by (inl (node, site, may_go)) = turned_on bytes short T.turns.connected T.turns.connects may T.result T.node T.site turn (T.goes_on may_go) T.turns.serving node site
        by (inr (node, fell)) =
            fell_on bytes short T.turns.connected T.turns.connects may T.result T.node T.site turn
            (adds_so bytes short T.turns.connected T.turns.connects may T.result T.node T.site turn T.turns.halted) node fell
