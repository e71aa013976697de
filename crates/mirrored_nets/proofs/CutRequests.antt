-- A request of a node in memory that is cut off, or at which it halts: the host goes down, and the world with it.
use Rattle.std.specs.Prelude.{ℕ, List, [], ◌∷◌, ◌++◌, ◌≡◌, ◌≤◌, None, Some, take}
use Rattle.std.specs.List.{AllByRecursion}
use Rattle.std.proofs.Common.{refl, sym, ap, subst, ◌∙◌, append-nil}
use Rattle.at_base.specs.declared.event.Event.TheVariants as events
use Rattle.at_base.specs.declared.event.Local.{Local}
use Rattle.at_base.specs.declared.outs.Post.{Post}
use Rattle.at_base.specs.declared.record.Record.{Record}
use Rattle.at_model.specs.Step.{step}
use Rattle.at_model.specs.World.{World, WorldEvent, example_hosts, nth, put_nth, world_step}
use Rattle.deliveries.specs.ByteNets.{Serves}
use Rattle.deliveries.proofs.CalledOuts.{leaving_called}
use Rattle.memory_net.specs.Closed.{AsksOf, ExamplesAskSo, IsExampleRequest, closed}
use Rattle.memory_net.specs.Mails.{Mail, mails_in}
use Rattle.memory_net.specs.declared.host.Host.{Host}
use Rattle.memory_net.proofs.Standing.{goes_so, placed_at}
use Rattle.mirrored_nets.specs.Mirrors.{AreOfTwo, Mirrors}
use Rattle.mirrored_nets.proofs.CutTurns.{CutAt, same_mails}
use Rattle.mirrored_nets.proofs.FallenHosts.{IsBefore, NetLaws, at_this, fallen, hold, is_up, left_at, sites, up_there, waits}
use Rattle.mirrored_nets.proofs.LeftFiles.{opening_kept}
use Rattle.mirrored_nets.proofs.MarkedFiles.{done_two, on_two}
use Rattle.mirrored_nets.proofs.UnbegunAsks.{broken_none}
use Rattle.node_at.specs.Doings.{Doing, deeds_of}
use Rattle.node_at.specs.Moments.{sent_of}
use Rattle.node_at.specs.State.{seen}
use Rattle.node_at.specs.TurnText.{IsStep, TurnStep}
use Rattle.node_at.specs.declared.local.Locally.{Locally}
use Rattle.node_at.specs.declared.node.Node.{Node}
use Rattle.node_events.specs.NodeEvents.{Leads}
use Rattle.node_worlds.specs.Acts.{IsUp}
use Rattle.node_worlds.specs.Crashes.{IsNoPost}
use Rattle.node_worlds.specs.Lives.{Requests}
use Rattle.node_worlds.specs.Machines.{Crashes, IsLeft, IsOn}
use Rattle.node_worlds.specs.Nets.{broken}
use Rattle.node_worlds.specs.Restarts.{StandsFor}
use Rattle.node_worlds.specs.SentPosts.{AreSent, Sent, recorded, records_by}
use Rattle.node_worlds.proofs.LifeLaws.{request_did}
use Rattle.site_memory.specs.Devices.{calls_in, opening_in}
use Rattle.site_memory.specs.Disk.{chosen_files}
use Rattle.site_memory.specs.Sites.{told_of}
use Rattle.site_memory.specs.declared.arm.Choice.{Choice}
use Rattle.site_memory.specs.declared.machine.MemSite.{MemSite}
use Rattle.site_model.specs.Told.{Made, sent_by}
use Rattle.node_at.specs.Steps.{if_landed}

heads : {A : Type 0} (x y : A) (xs ys : List A) → x ∷ xs ≡ y ∷ ys → x ≡ y
heads x y xs ys e = cc

module _ (L : NetLaws) (ask_so : ExamplesAskSo) (count : ℕ) (few : count ≤ 8) (hosts : List Host) (clocks : List ℕ) (mails more : List Mail) (w : World) (M : Mirrors count hosts clocks mails w)
    (i : ℕ) (h g : Host) (n : Node) (here : nth i hosts ≡ Some h) (up : h.node ≡ Some n) (c : ℕ) (time : nth i clocks ≡ Some c) (s : MemSite) (before : IsBefore h s) (m : Node) (t : MemSite)
    (answer : Locally) (request : Local) (named : IsExampleRequest request) where
  abbrev pub asked_sites : ℕ → MemSite
  asked_sites = sites L count few hosts clocks mails more w M i h g n here up c time s before

  abbrev pub same_site : asked_sites i ≡ s
  same_site = at_this L count few hosts clocks mails more w M i h g n here up c time s before

  abbrev pub asked_records : List Record
  asked_records = (hold L count few hosts clocks mails more w M i h g n here up c time s before).place.records

  up_now : IsUp asked_records (seen n) (told_of (asked_sites i))
  up_now = subst (λ z. IsUp asked_records (seen n) (told_of z)) (sym same_site) (up_there L count few hosts clocks mails more w M i h g n here up c time s before)

  abbrev pub AskLeadsTo : ℕ → WorldEvent → List TurnStep → List Post → Type 0
  AskLeadsTo now e front posts =
      Leads (example_hosts count) i now w e (broken (example_hosts count) i M.stands.net (hold L count few hosts clocks mails more w M i h g n here up c time s before).place (seen n) front posts)

  module _ (requests : Requests told_of answer (seen n) (seen m) request (asked_sites i) t) where
    pub ask_opening : opening_in t.device ≡ opening_in s.device
    ask_opening =
        opening_kept (asked_sites i) t _ (request_did L.bodies L.grows told_of asked_records answer (seen n) (seen m) request (asked_sites i) t up_now requests).time
        ∙ ap (λ (z : MemSite). opening_in z.device) same_site

    module _ (made : List Made) (kept : ℕ) (choice : Choice) (now : ℕ) (e : WorldEvent) (adds : calls_in t.device ≡ calls_in s.device ++ made)
        (on : IsOn (chosen_files choice (opening_in t.device) (calls_in s.device ++ take kept made)) (told_of g.site)) (down : g.node ≡ None)
        (posted : more ≡ mails ++ mails_in i count (sent_by (take kept made))) where
      crash : Crashes told_of i t g.site (calls_in s.device ++ take kept made) (chosen_files choice (opening_in s.device) (calls_in s.device ++ take kept made)) asked_sites (placed_at i g.site asked_sites)
      crash =
          let l = calls_in s.device ++ take kept made in
          let d = chosen_files choice (opening_in s.device) l in
          record {
            left = subst (λ z. IsLeft (told_of z) (told_of t) l d) (sym same_site)
                (subst (λ o. IsLeft (told_of s) (told_of t) l (chosen_files choice o l)) ask_opening (left_at L.images s t choice made kept adds));
            on = subst (λ o. IsOn (chosen_files choice o l) (told_of g.site)) ask_opening on;
            goes = goes_so i g.site asked_sites;
          }

      -- the files are of version 2
      of_two : (rs : List Record) → AreOfTwo (asked_records ++ rs) g.site
      of_two rs =
          on_two (asked_records ++ rs) _ g.site crash.on
          (done_two (asked_sites i) t _ _ crash.left asked_records (asked_records ++ rs) (seen n) _ up_now
          (request_did L.bodies L.grows told_of asked_records answer (seen n) (seen m) request (asked_sites i) t up_now requests).time)

      -- nothing of it was done
      pub undone_fallen : StandsFor asked_records (chosen_files choice (opening_in s.device) (calls_in s.device ++ take kept made)) → AllByRecursion IsNoPost (sent_by (take kept made)) → AskLeadsTo now e [] []
          → Mirrors count (put_nth i g hosts) (put_nth i now clocks) more (world_step w e)
      undone_fallen stands none leads =
          let p = (hold L count few hosts clocks mails more w M i h g n here up c time s before).place in
          let serves : Serves told_of (example_hosts count) (broken (example_hosts count) i M.stands.net p (seen n) [] []) (placed_at i g.site asked_sites) =
          Serves.asked_undone M.stands.net asked_sites i p (seen n) (seen m) answer request t g.site (calls_in s.device ++ take kept made)
          (chosen_files choice (opening_in s.device) (calls_in s.device ++ take kept made)) (waits L count few hosts clocks mails more w M i h g n here up c time s before)
          (hold L count few hosts clocks mails more w M i h g n here up c time s before).here (is_up L count few hosts clocks mails more w M i h g n here up c time s before) requests.asked crash stands
          (broken_none (example_hosts count) i M.stands.net p (seen n)) in
          fallen L count few hosts clocks mails more w M i h g n here up c time s before [] [] [] serves M.stands.asks tt
          (posted ∙ same_mails i count mails (sent_by (take kept made)) [] (take kept made) none (sym (append-nil (sent_by (take kept made))))) now e leads down (of_two [])

      -- its step was begun
      begun_fallen : (at : ℕ) (begun : TurnStep) → IsStep n.book (events.Local request) at begun → (doing : Doing) (posts : List Post) → Sent begun.leaving doing.made posts
          → StandsFor (asked_records ++ recorded (begun ∷ [])) (chosen_files choice (opening_in s.device) (calls_in s.device ++ take kept made))
          → mails ++ mails_in i count (sent_by (take kept made)) ≡ mails ++ mails_in i count (sent_by doing.made) → AskLeadsTo now e (begun ∷ []) posts
          → Mirrors count (put_nth i g hosts) (put_nth i now clocks) more (world_step w e)
      begun_fallen at begun is doing posts sent stands same leads =
          let p = (hold L count few hosts clocks mails more w M i h g n here up c time s before).place in
          let serves : Serves told_of (example_hosts count) (broken (example_hosts count) i M.stands.net p (seen n) (begun ∷ []) posts) (placed_at i g.site asked_sites) =
          Serves.asked_cut_off M.stands.net asked_sites i p (seen n) (seen m) answer request t g.site (calls_in s.device ++ take kept made)
          (chosen_files choice (opening_in s.device) (calls_in s.device ++ take kept made)) at begun doing posts (waits L count few hosts clocks mails more w M i h g n here up c time s before)
          (hold L count few hosts clocks mails more w M i h g n here up c time s before).here (is_up L count few hosts clocks mails more w M i h g n here up c time s before) (ask_so request named).0
          requests.asked crash is sent
          (subst (λ rs. StandsFor (asked_records ++ rs) (chosen_files choice (opening_in s.device) (calls_in s.device ++ take kept made))) (append-nil (records_by (if_landed begun.landed begun.entry))) stands) refl in
          let asks : AsksOf closed told_of (example_hosts count) (broken (example_hosts count) i M.stands.net p (seen n) (begun ∷ []) posts) (placed_at i g.site asked_sites) serves = ((ask_so request named).1, M.stands.asks) in
          fallen L count few hosts clocks mails more w M i h g n here up c time s before (begun ∷ []) posts (sent_by doing.made) serves asks
          (L.calls.one_letters begun.leaving doing.made posts (leaving_called (step n.book (events.Local request) at begun.landed).outs begun.leaving is.outcome.leaving) sent) (posted ∙ same) now e leads down (of_two (recorded (begun ∷ [])))

      pub ask_fallen : (at : ℕ) (begun : TurnStep) → IsStep n.book (events.Local request) at begun
          → CutAt asked_records (begun ∷ []) (chosen_files choice (opening_in s.device) (calls_in s.device ++ take kept made)) (take kept made) (AskLeadsTo now e)
          → Mirrors count (put_nth i g hosts) (put_nth i now clocks) more (world_step w e)
      ask_fallen at begun is cut = by cut.front cut.doings cut.posts cut.of cut.sent cut.stands cut.calls cut.leads
        where
          none_more : (x y z : TurnStep) (xs : List TurnStep) → x ∷ [] ≡ y ∷ (z ∷ xs) → ⊥
          none_more x y z xs f = cc

          by : (front : List TurnStep) (doings : List Doing) (posts : List Post) → begun ∷ [] ≡ front ++ cut.rest → AreSent front doings posts
              → StandsFor (asked_records ++ recorded front) (chosen_files choice (opening_in s.device) (calls_in s.device ++ take kept made))
              → sent_by (take kept made) ≡ cut.said ++ sent_of (deeds_of doings) → AskLeadsTo now e front posts → Mirrors count (put_nth i g hosts) (put_nth i now clocks) more (world_step w e)
          by [] [] posts of sent stands sends leads =
              undone_fallen (subst (λ rs. StandsFor rs (chosen_files choice (opening_in s.device) (calls_in s.device ++ take kept made))) (append-nil asked_records) stands)
              (subst (AllByRecursion IsNoPost) (sym (sends ∙ append-nil cut.said)) cut.no_posts) (subst (AskLeadsTo now e []) sent leads)
          by [] (d ∷ ds) posts of sent stands sends leads = absurd sent
          by (f ∷ fs) [] posts of sent stands sends leads = absurd sent
          by (f ∷ []) (d ∷ []) posts of (qs, rs, one, none, both) stands sends leads =
              let same : f ≡ begun = sym (heads begun f [] cut.rest of) in
              begun_fallen at begun is d posts
              (subst (λ (z : TurnStep). Sent z.leaving d.made posts) same (subst (Sent f.leaving d.made) (sym (both ∙ ap (λ z. qs ++ z) none ∙ append-nil qs)) one))
              (subst (λ (z : TurnStep). StandsFor (asked_records ++ recorded (z ∷ [])) (chosen_files choice (opening_in s.device) (calls_in s.device ++ take kept made))) same stands)
              (same_mails i count mails cut.said (sent_by d.made) (take kept made) cut.no_posts (sends ∙ ap (λ z. cut.said ++ z) (append-nil (sent_by d.made))))
              (subst (λ z. AskLeadsTo now e (z ∷ []) posts) same leads)
          by (f ∷ []) (d ∷ (d' ∷ ds)) posts of (qs, rs, one, none, both) stands sends leads = absurd none
          by (f ∷ (g' ∷ fs)) (d ∷ ds) posts of sent stands sends leads = absurd (none_more begun f g' (fs ++ cut.rest) of)
