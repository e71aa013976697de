-- A turn of a node in memory that is cut off, or halts: the host goes down, and the world with it.
use Rattle.std.specs.Prelude.{ℕ, List, ◌++◌, ◌≡◌, ◌≤◌, Some, None, take}
use Rattle.std.specs.List.{AllByRecursion}
use Rattle.std.proofs.Common.{refl, sym, ap, subst, ◌∙◌}
use Rattle.at_base.specs.declared.outs.Post.{Post}
use Rattle.at_base.specs.declared.record.Record.{Record}
use Rattle.at_model.specs.World.{World, WorldEvent, example_hosts, nth, put_nth, world_step}
use Rattle.deliveries.specs.ByteNets.{Carries, Serves}
use Rattle.deliveries.specs.Letters.{AllAreCalled, AreCalled, AreLetters, posts_in}
use Rattle.memory_net.specs.Mails.{Mail, mails_in}
use Rattle.memory_net.specs.declared.host.Host.{Host}
use Rattle.memory_net.proofs.MailLists.{mails-append}
use Rattle.memory_net.proofs.MailedPosts.{all_left, no_mails}
use Rattle.memory_net.proofs.Standing.{goes_so, placed_at}
use Rattle.mirrored_nets.specs.Mirrors.{Mirrors}
use Rattle.mirrored_nets.proofs.FallenHosts.{IsBefore, NetLaws, at_this, fallen, hold, is_up, left_at, sites, up_there, waits}
use Rattle.mirrored_nets.proofs.LeftFiles.{opening_kept}
use Rattle.mirrored_nets.proofs.MarkedFiles.{done_two, on_two}
use Rattle.node_at.specs.Doings.{Doing, deeds_of}
use Rattle.node_at.specs.Endings.{TakesTurn}
use Rattle.node_at.specs.Moments.{sent_of}
use Rattle.node_at.specs.State.{seen}
use Rattle.node_at.specs.TurnText.{TurnStep}
use Rattle.node_at.specs.declared.node.Node.{Node}
use Rattle.node_at.specs.declared.role.Role.TheVariants.{All}
use Rattle.node_at.specs.declared.turn.Turned.{Turned}
use Rattle.node_events.specs.NodeEvents.{Leads}
use Rattle.node_worlds.specs.Acts.{IsUp}
use Rattle.node_worlds.specs.Crashes.{IsNoPost}
use Rattle.node_worlds.specs.Machines.{Crashes, IsLeft, IsOn}
use Rattle.node_worlds.specs.Nets.{begun_in, broken}
use Rattle.node_worlds.specs.Restarts.{StandsFor}
use Rattle.node_worlds.specs.SentPosts.{AreSent, recorded}
use Rattle.node_worlds.proofs.LifeLaws.{turn_did}
use Rattle.site_memory.specs.Devices.{calls_in, opening_in}
use Rattle.site_memory.specs.Disk.{chosen_files}
use Rattle.site_memory.specs.Sites.{told_of}
use Rattle.site_memory.specs.declared.arm.Choice.{Choice}
use Rattle.site_memory.specs.declared.machine.MemSite.{MemSite}
use Rattle.site_model.specs.Told.{Call, Files, Made, sent_by}

-- What stands of a row of steps behind these calls, and what was sent of it; and the event leads to the net behind that.
pub record CutAt (rs : List Record) (begun : List TurnStep) (c : Files) (taken : List Made) (Leads : List TurnStep → List Post → Type 0) : Type 0 where
  pub front : List TurnStep
  pub rest : List TurnStep
  pub of : begun ≡ front ++ rest
  pub doings : List Doing
  pub posts : List Post
  pub sent : AreSent front doings posts
  pub stands : StandsFor (rs ++ recorded front) c
  pub said : List Call
  pub no_posts : AllByRecursion IsNoPost said
  pub calls : sent_by taken ≡ said ++ sent_of (deeds_of doings)
  pub leads : Leads front posts

-- what was said beside the posts is no letter
pub same_mails : (i count : ℕ) (mails : List Mail) (said sent : List Call) (taken : List Made) → AllByRecursion IsNoPost said → sent_by taken ≡ said ++ sent
    → mails ++ mails_in i count (sent_by taken) ≡ mails ++ mails_in i count sent
same_mails i count mails said sent taken none e =
    ap (λ ms. mails ++ ms)
    (ap (mails_in i count) e ∙ mails-append i count said sent ∙ ap (λ (ms : List Mail). ms ++ mails_in i count sent) (no_mails i count said none))

module _ (L : NetLaws) (count : ℕ) (few : count ≤ 8) (hosts : List Host) (clocks : List ℕ) (mails more : List Mail) (w : World) (M : Mirrors count hosts clocks mails w) (i : ℕ) (h g : Host) (n : Node)
    (here : nth i hosts ≡ Some h) (up : h.node ≡ Some n) (c : ℕ) (time : nth i clocks ≡ Some c) (s : MemSite) (before : IsBefore h s) (m : Node) (t : MemSite) (r : Turned) where
  abbrev pub at_sites : ℕ → MemSite
  at_sites = sites L count few hosts clocks mails more w M i h g n here up c time s before

  abbrev pub same_site : at_sites i ≡ s
  same_site = at_this L count few hosts clocks mails more w M i h g n here up c time s before

  abbrev pub place_records : List Record
  place_records = (hold L count few hosts clocks mails more w M i h g n here up c time s before).place.records

  up_now : IsUp place_records (seen n) (told_of (at_sites i))
  up_now = subst (λ z. IsUp place_records (seen n) (told_of z)) (sym same_site) (up_there L count few hosts clocks mails more w M i h g n here up c time s before)

  module _ (turn : TakesTurn told_of r All m.shrunk (seen n) (seen m) (at_sites i) t) where
    pub turn_opening : opening_in t.device ≡ opening_in s.device
    turn_opening =
        opening_kept (at_sites i) t _ (turn_did L.bodies L.grows told_of place_records r All m.shrunk (seen n) (seen m) (at_sites i) t up_now turn).time
        ∙ ap (λ (z : MemSite). opening_in z.device) same_site

    -- the event leads to the net behind these steps
    abbrev pub LeadsTo : ℕ → WorldEvent → List TurnStep → List Post → Type 0
    LeadsTo now e front posts =
        Leads (example_hosts count) i now w e (broken (example_hosts count) i M.stands.net (hold L count few hosts clocks mails more w M i h g n here up c time s before).place (seen n) front posts)

    pub turn_fallen : (made : List Made) (kept : ℕ) (choice : Choice) (now : ℕ) (e : WorldEvent) → calls_in t.device ≡ calls_in s.device ++ made
        → Carries (example_hosts count) M.stands.net i All (told_of (at_sites i))
        → IsOn (chosen_files choice (opening_in t.device) (calls_in s.device ++ take kept made)) (told_of g.site) → g.node ≡ None → more ≡ mails ++ mails_in i count (sent_by (take kept made))
        → CutAt place_records (begun_in turn.first All (seen n) turn.node (told_of (at_sites i)) (told_of turn.behind) turn.steps)
        (chosen_files choice (opening_in s.device) (calls_in s.device ++ take kept made)) (take kept made) (LeadsTo now e)
        → Mirrors count (put_nth i g hosts) (put_nth i now clocks) more (world_step w e)
    turn_fallen made kept choice now e adds carries on down posted cut =
        let l = calls_in s.device ++ take kept made in
        let d = chosen_files choice (opening_in s.device) l in
        let p = (hold L count few hosts clocks mails more w M i h g n here up c time s before).place in
        let left : IsLeft (told_of (at_sites i)) (told_of t) l d =
        subst (λ z. IsLeft (told_of z) (told_of t) l d) (sym same_site)
        (subst (λ o. IsLeft (told_of s) (told_of t) l (chosen_files choice o l)) turn_opening (left_at L.images s t choice made kept adds)) in
        let back : IsOn d (told_of g.site) = subst (λ o. IsOn (chosen_files choice o l) (told_of g.site)) turn_opening on in
        let crash : Crashes told_of i t g.site l d at_sites (placed_at i g.site at_sites) = record { left = left; on = back; goes = goes_so i g.site at_sites } in
        let serves : Serves told_of (example_hosts count) (broken (example_hosts count) i M.stands.net p (seen n) cut.front cut.posts) (placed_at i g.site at_sites) =
        Serves.cut_off M.stands.net at_sites i p (seen n) (seen m) r All m.shrunk t g.site l d cut.front cut.rest cut.doings cut.posts
        (waits L count few hosts clocks mails more w M i h g n here up c time s before)
        (hold L count few hosts clocks mails more w M i h g n here up c time s before).here
        (is_up L count few hosts clocks mails more w M i h g n here up c time s before) turn (λ _. carries) crash cut.of cut.sent cut.stands refl in
        let letters : AreLetters cut.posts (posts_in (sent_of (deeds_of cut.doings))) = L.calls.sent_letters cut.front cut.doings cut.posts
        (all_left (λ (x : TurnStep). AreCalled x.leaving) cut.front cut.rest
        (subst (λ x. AllAreCalled x) cut.of (L.calls.begun_called r All m.shrunk (seen n) (seen m) (at_sites i) t turn))) cut.sent in
        fallen L count few hosts clocks mails more w M i h g n here up c time s before cut.front cut.posts (sent_of (deeds_of cut.doings)) serves M.stands.asks letters
        (posted ∙ same_mails i count mails cut.said (sent_of (deeds_of cut.doings)) (take kept made) cut.no_posts cut.calls) now e cut.leads down
        (on_two (place_records ++ recorded cut.front) d g.site back
        (done_two (at_sites i) t l d left place_records (place_records ++ recorded cut.front) (seen n) _ up_now
        (turn_did L.bodies L.grows told_of place_records r All m.shrunk (seen n) (seen m) (at_sites i) t up_now turn).time))
