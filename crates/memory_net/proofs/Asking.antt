-- A net in memory goes on behind a request of one of its nodes, a start, and what is done between calls.
use Rattle.std.specs.Prelude.{ℕ, List, [], ◌∷◌, ◌++◌, ◌≡◌, ◌⊎◌, ◌≤◌, ◌<◌, IfSome, Some, None, Bool, Result, Ok, Err, true, false, option_map}
use Rattle.std.proofs.Common.{refl, sym, ap, subst, ◌∙◌, inl, inr, append-nil}
use Rattle.at_base.specs.declared.event.Event.TheVariants as events
use Rattle.at_base.specs.declared.event.Local.{Local}
use Rattle.at_base.specs.Numbers.{Numbers}
use Rattle.at_model.specs.Recovery.{last_incarnation}
use Rattle.at_model.specs.Step.{plan, step}
use Rattle.at_model.specs.World.{example_base, example_hosts, nth, put_nth}
use Rattle.completion_at.specs.declared.requests.Refusal.{Refusal}
use Rattle.deliverables.specs.Bases.{ExamplesAreNodeBases}
use Rattle.deliveries.specs.ByteNets.{ServeAsNets, Serves}
use Rattle.deliveries.specs.Letters.{Adds, CallsPost}
use Rattle.deliveries.proofs.CalledOuts.{leaving_called}
use Rattle.node_at.specs.Locals.{Asked, cleared}
use Rattle.node_at.specs.StartedNodes.{Starts}
use Rattle.node_at.specs.Starts.{start_after}
use Rattle.node_at.specs.State.{State, seen}
use Rattle.node_at.specs.Steps.{if_landed}
use Rattle.node_at.specs.declared.fault.StartFault.{StartFault}
use Rattle.node_at.specs.declared.local.Locally.{Locally}
use Rattle.node_at.specs.declared.local.Locally.TheVariants as answers
use Rattle.node_at.specs.declared.node.Node.{Node}
use Rattle.node_at.specs.declared.role.Role.TheVariants.{All}
use Rattle.node_worlds.specs.Crashes.{CrashesAreMet, IsBegun as IsCut, IsUndone}
use Rattle.node_worlds.specs.Lives.{Requests}
use Rattle.node_worlds.specs.Machines.{Begins, Crashes, IsLeft}
use Rattle.node_worlds.specs.Restarts.{StandsFor}
use Rattle.node_worlds.specs.Nets.{Place, after, as_far, broken, posts_from, rested, with_start, with_started, without}
use Rattle.node_worlds.specs.SentPosts.{accepted_between, recorded, records_by}
use Rattle.node_worlds.proofs.Places.{nth_this}
use Rattle.site_memory.specs.Devices.{calls_in, opening_in}
use Rattle.site_memory.specs.Disk.{ChosenAreImages, chosen_files}
use Rattle.site_memory.specs.Sites.{told_of}
use Rattle.site_memory.specs.Tells.{reads}
use Rattle.site_memory.specs.declared.machine.MemSite.{MemSite}
use Rattle.site_model.specs.Told.{Call, Files, Made, sent_by}
use Rattle.world_laws.proofs.Nodes.{put_put, put_same}
use Rattle.memory_net.specs.Calls.{IsServing}
use Rattle.memory_net.specs.Closed.{AsksOf, ExamplesAskSo, HostsTellReceivers, IsExampleRequest, StaysClosed, closed}
use Rattle.memory_net.specs.Hosts.{Fell, IsAsked, IsBegun, IsSet, since}
use Rattle.memory_net.specs.Mails.{Mail, mails_in}
use Rattle.memory_net.specs.Stands.{AreMailsOf, Holds, Stands}
use Rattle.memory_net.specs.declared.host.Host.{Host}
use Rattle.memory_net.proofs.Going.{are, is_left, letters_last, sent_since, small}
use Rattle.memory_net.proofs.Standing.{alone_where, comes_on, goes_so, mails_join, placed_at, placed_other, placed_this, restand, same_some, since_made, since_same}

module _ (tell : HostsTellReceivers) (bases : ExamplesAreNodeBases) (closes : StaysClosed told_of) (nets : ServeAsNets told_of) (crashes : CrashesAreMet told_of) (calls : CallsPost told_of)
    (images : ChosenAreImages) (count : ℕ) (few : count ≤ 8) (hosts : List Host) (mails : List Mail) (st : Stands count hosts mails) (i : ℕ) (h g : Host) (here : nth i hosts ≡ Some h) where
  abbrev this : Holds st.net st.sites i h
  this = st.holds i h here

  -- a node that is down
  module _ (down : h.node ≡ None) where
    is_down : this.place.node ≡ None
    is_down = this.node ∙ ap (option_map seen) down

    abbrev files : Files
    files = reads (opening_in (st.sites i).device) (calls_in (st.sites i).device)

    began : (n : Node) (t : MemSite) → Starts (Ok n) (example_base i) All 4294967295 (told_of h.site) (told_of t) → g.node ≡ Some n → g.site ≡ t → IsServing n → Stands count (put_nth i g hosts) mails
    began n t starts node site goes_on =
        let q : Place = record { node = Some (seen n); records = this.place.records ++ start_after this.place.records ∷ [] } in
        let ws = placed_at i t st.sites in
        let w = with_started i st.net this.place (seen n) in
        let starts' : Starts (Ok n) (example_base i) All 4294967295 (told_of (st.sites i)) (told_of t) =
        subst (λ z. Starts (Ok n) (example_base i) All 4294967295 (told_of z) (told_of t)) (sym this.site) starts in
        let serves : Serves told_of (example_hosts count) w ws =
        Serves.started st.net st.sites i this.place (seen n) 4294967295 t files st.serves this.here is_down refl starts'.0 (goes_so i t st.sites) refl in
        restand count hosts mails mails st i h g here w ws serves st.asks this.place q this.here refl (sym (ap (option_map seen) node)) (subst (λ o. IfSome o IsServing) (sym node) goes_on)
        (placed_this i t st.sites ∙ sym site) (placed_other i t st.sites) st.letters

    begun_so : (r : Result Node StartFault) (t : MemSite) → Starts r (example_base i) All 4294967295 (told_of (st.sites i)) (told_of t) → Begins (example_base i) 4294967295 (told_of (st.sites i)) (told_of t)
    begun_so (Ok n) t starts = inl (seen n, starts.0)
    begun_so (Err e) t starts = inr (e, starts)

    failed : (t : MemSite) → Begins (example_base i) 4294967295 (told_of (st.sites i)) (told_of t) → g.node ≡ None → Fell t g.site → Stands count (put_nth i g hosts) mails
    failed t begins node (choice, leaves) =
        by (crashes.starts (example_hosts count) st.net st.sites i this.place 4294967295 t (calls_in t.device) d files
        (nets (example_hosts count) st.net st.sites (are tell bases closes nets crashes calls images count few) st.serves).runs this.here is_down refl begins left)
      where
        d : Files
        d = chosen_files choice (opening_in t.device) (calls_in t.device)

        left : IsLeft (told_of (st.sites i)) (told_of t) (calls_in t.device) (chosen_files choice (opening_in t.device) (calls_in t.device))
        left = is_left tell bases closes nets crashes calls images count few (st.sites i) t choice (calls.starts_add (example_base i) 4294967295 (st.sites i) t begins)

        crashed : Crashes told_of i t g.site (calls_in t.device) (chosen_files choice (opening_in t.device) (calls_in t.device)) st.sites (placed_at i g.site st.sites)
        crashed = record { left = left; on = comes_on choice t g.site leaves; goes = goes_so i g.site st.sites }

        none : IfSome g.node IsServing
        none = subst (λ o. IfSome o IsServing) (sym node) tt

        by : StandsFor this.place.records (chosen_files choice (opening_in t.device) (calls_in t.device))
            ⊎ ((last_incarnation this.place.records < 4294967295) × StandsFor (this.place.records ++ start_after this.place.records ∷ []) (chosen_files choice (opening_in t.device) (calls_in t.device)))
            → Stands count (put_nth i g hosts) mails
        by (inl stands) =
            restand count hosts mails mails st i h g here st.net (placed_at i g.site st.sites)
            (Serves.start_cut_off st.net st.sites i this.place 4294967295 t g.site (calls_in t.device) (chosen_files choice (opening_in t.device) (calls_in t.device)) files st.serves this.here is_down refl begins crashed stands refl)
            st.asks this.place this.place this.here (sym (put_same i st.net.places this.place this.here)) (is_down ∙ sym (ap (option_map seen) node)) none (placed_this i g.site st.sites)
            (placed_other i g.site st.sites) st.letters
        by (inr (small, stands)) =
            restand count hosts mails mails st i h g here (with_start i st.net this.place) (placed_at i g.site st.sites)
            (Serves.start_recorded st.net st.sites i this.place 4294967295 t g.site (calls_in t.device) (chosen_files choice (opening_in t.device) (calls_in t.device)) files st.serves this.here is_down refl begins crashed small stands refl)
            st.asks this.place (record { node = None; records = this.place.records ++ start_after this.place.records ∷ [] }) this.here refl (sym (ap (option_map seen) node)) none (placed_this i g.site st.sites)
            (placed_other i g.site st.sites) st.letters

    pub upped : IsBegun (example_base i) h.site g → Stands count (put_nth i g hosts) mails
    upped T = by T.behind
      where
        starts : Starts T.result (example_base i) All 4294967295 (told_of (st.sites i)) (told_of T.site)
        starts = subst (λ z. Starts T.result (example_base i) All 4294967295 (told_of z) (told_of T.site)) (sym this.site) T.begins

        by : ((n : Node) × (T.result ≡ Ok n) × (g.node ≡ Some n) × (g.site ≡ T.site) × IsServing n) ⊎ ((g.node ≡ None) × Fell T.site g.site) → Stands count (put_nth i g hosts) mails
        by (inl (n, is, node, site, goes_on)) = began n T.site (subst (λ r. Starts r (example_base i) All 4294967295 (told_of h.site) (told_of T.site)) is T.begins) node site goes_on
        by (inr (node, fell)) = failed T.site (begun_so T.result T.site starts) node fell

  -- between calls
  pub waited : IsSet h g → Stands count (put_nth i g hosts) mails
  waited T =
      restand count hosts mails mails st i h g here st.net (placed_at i g.site st.sites) (Serves.waited st.sites st.serves (alone_where i h.site g.site st.sites this.site T.opening T.calls)) st.asks
      this.place this.place this.here (sym (put_same i st.net.places this.place this.here)) (this.node ∙ ap (option_map seen) (sym T.node)) (subst (λ o. IfSome o IsServing) (sym T.node) this.serving)
      (placed_this i g.site st.sites) (placed_other i g.site st.sites) st.letters

  -- a node that is up
  module _ (least : 1 ≤ i) (n : Node) (up : h.node ≡ Some n) where
    is_up' : this.place.node ≡ Some (seen n)
    is_up' = this.node ∙ ap (option_map seen) up

    -- it goes down at rest
    pub downed : g.node ≡ None → Fell h.site g.site → Stands count (put_nth i g hosts) mails
    downed node (choice, leaves) =
        let w = without i st.net this.place (seen n) in
        let q : Place = record { node = None; records = this.place.records } in
        let d = chosen_files choice (opening_in h.site.device) (calls_in h.site.device) in
        let image : (told_of (st.sites i)).images d = subst (λ z. (told_of z).images d) (sym this.site) (images choice (opening_in h.site.device) (calls_in h.site.device)) in
        let ended : Serves told_of (example_hosts count) w st.sites = Serves.ended st.net i this.place (seen n) st.serves this.here is_up' refl in
        restand count hosts mails mails st i h g here w (placed_at i g.site st.sites)
        (Serves.crashed st.sites i g.site q d ended (nth_this st.net.places i this.place q this.here) refl image (comes_on choice h.site g.site leaves) (goes_so i g.site st.sites)) st.asks
        this.place q this.here refl (sym (ap (option_map seen) node)) (subst (λ o. IfSome o IsServing) (sym node) tt) (placed_this i g.site st.sites) (placed_other i g.site st.sites) st.letters

    module _ (ask_so : ExamplesAskSo) (request : Local) (named : IsExampleRequest request) where
      from_here : calls_in (st.sites i).device ≡ calls_in h.site.device
      from_here = ap (λ (z : MemSite). calls_in z.device) this.site

      -- it does it
      done_on : (id : Numbers) (m : Node) (t : MemSite) → Asked (answers.Done id) (seen n) (seen m) request (told_of (st.sites i)) (told_of t) → g.node ≡ Some m → g.site ≡ t → IsServing m
          → Stands count (put_nth i g hosts) (mails ++ since i count h.site t)
      done_on id m t done node site goes_on =
          let (ps, sent, posts) = calls.requests id (seen n) (seen m) request (st.sites i) t done in
          let rs = records_by (if_landed done.3.3.landed (plan n.book (events.Local request) done.3.0).entry) in
          let w = after (example_hosts count) i st.net this.place (seen m) rs ps (accepted_between (example_hosts count) i (seen n).book (seen m).book) in
          let ws = placed_at i t st.sites in
          let serves : Serves told_of (example_hosts count) w ws =
          Serves.asked st.net st.sites i this.place (seen n) (seen m) id request t ps st.serves this.here is_up' (ask_so request named).0 done sent (goes_so i t st.sites) refl in
          let asks : AsksOf closed told_of (example_hosts count) w ws serves = ((ask_so request named).1, st.asks) in
          let same : since i count h.site t ≡ mails_in i count (sent_by posts.made) = sym (since_same i count h.site (st.sites i) t from_here) ∙ since_made i count (st.sites i) t posts.made posts.calls in
          restand count hosts mails (mails ++ since i count h.site t) st i h g here w ws serves asks this.place (record { node = Some (seen m); records = this.place.records ++ rs }) this.here refl
          (sym (ap (option_map seen) node)) (subst (λ o. IfSome o IsServing) (sym node) goes_on) (placed_this i t st.sites ∙ sym site) (placed_other i t st.sites)
          (mails_join st.net.posted (posts_from (example_hosts count) i ps) mails (since i count h.site t) st.letters
          (subst (AreMailsOf (posts_from (example_hosts count) i ps)) (sym same)
          (letters_last tell bases closes nets crashes calls images count few i st.net.posted ps (sent_by posts.made) posts.letters
          (closes count w ws (small tell bases closes nets crashes calls images count few) serves asks).posted)))

      none_since : (t : MemSite) → calls_in t.device ≡ calls_in h.site.device → mails ≡ mails ++ since i count h.site t
      none_since t e =
          sym (ap (λ (ms : List Mail). mails ++ ms) (since_made i count h.site t [] (ap (λ (l : List Made). Some l) (e ∙ sym (append-nil (calls_in h.site.device))))) ∙ append-nil mails)

      -- it refuses
      refused_on : (m : Node) (t : MemSite) → seen m ≡ cleared (seen n) → t ≡ h.site → g.node ≡ Some m → g.site ≡ t → IsServing m → Stands count (put_nth i g hosts) (mails ++ since i count h.site t)
      refused_on m t same stays node site goes_on =
          restand count hosts mails (mails ++ since i count h.site t) st i h g here (rested i st.net this.place (seen n)) st.sites (Serves.idled st.net i this.place (seen n) st.serves this.here is_up' refl) st.asks
          this.place (record { node = Some (cleared (seen n)); records = this.place.records }) this.here refl (sym (ap (option_map seen) node ∙ ap (λ (z : State). Some z) same))
          (subst (λ o. IfSome o IsServing) (sym node) goes_on) (this.site ∙ sym stays ∙ sym site) (λ j f. refl)
          (subst (AreMailsOf st.net.posted) (none_since t (ap (λ (z : MemSite). calls_in z.device) stays)) st.letters)

      going_on : (a : Locally) (m : Node) (t : MemSite) → Asked a (seen n) (seen m) request (told_of (st.sites i)) (told_of t) → ((why : Refusal) → a ≡ answers.Refused why → t ≡ h.site)
          → (a ≡ answers.NoRoom → ⊥) → (a ≡ answers.Halted → ⊥) → g.node ≡ Some m → g.site ≡ t → IsServing m → Stands count (put_nth i g hosts) (mails ++ since i count h.site t)
      going_on (answers.Done id) m t asked nothing room runs node site goes_on = done_on id m t asked node site goes_on
      going_on (answers.Refused why) m t asked nothing room runs node site goes_on = refused_on m t asked.2 (nothing why refl) node site goes_on
      going_on answers.NoRoom m t asked nothing room runs node site goes_on = absurd (room refl)
      going_on answers.Halted m t asked nothing room runs node site goes_on = absurd (runs refl)

      asked_cut : (a : Locally) (m : Node) (t : MemSite) → Requests told_of a (seen n) (seen m) request (st.sites i) t → Adds (told_of (st.sites i)) (told_of t) → g.node ≡ None → Fell t g.site
          → Stands count (put_nth i g hosts) (mails ++ since i count h.site t)
      asked_cut a m t requests adds node (choice, leaves) =
          by (crashes.requests (example_hosts count) st.net st.sites i this.place (seen n) (seen m) a request t (calls_in t.device) (chosen_files choice (opening_in t.device) (calls_in t.device))
          (nets (example_hosts count) st.net st.sites (are tell bases closes nets crashes calls images count few) st.serves).runs this.here is_up' requests left)
        where
          left : IsLeft (told_of (st.sites i)) (told_of t) (calls_in t.device) (chosen_files choice (opening_in t.device) (calls_in t.device))
          left = is_left tell bases closes nets crashes calls images count few (st.sites i) t choice adds

          crashed : Crashes told_of i t g.site (calls_in t.device) (chosen_files choice (opening_in t.device) (calls_in t.device)) st.sites (placed_at i g.site st.sites)
          crashed = record { left = left; on = comes_on choice t g.site leaves; goes = goes_so i g.site st.sites }

          none : IfSome g.node IsServing
          none = subst (λ o. IfSome o IsServing) (sym node) tt

          sent_of_all : (before : List Made) (sent : List Call) → (told_of (st.sites i)).calls ≡ Some before → sent_by (calls_in t.device) ≡ sent_by before ++ sent
              → since i count h.site t ≡ mails_in i count sent
          sent_of_all before sent was is =
              sym (since_same i count h.site (st.sites i) t from_here) ∙ since_made i count (st.sites i) t adds.made adds.calls
              ∙ ap (mails_in i count)
              (sent_since (calls_in (st.sites i).device) (calls_in t.device) adds.made sent (same_some (calls_in t.device) (calls_in (st.sites i).device ++ adds.made) adds.calls)
              (is ∙ ap (λ (b : List Made). sent_by b ++ sent) (sym (same_some (calls_in (st.sites i).device) before was))))

          by : IsUndone this.place.records (told_of (st.sites i)) (calls_in t.device) (chosen_files choice (opening_in t.device) (calls_in t.device))
              ⊎ IsCut this.place.records n.book request (told_of (st.sites i)) (calls_in t.device) (chosen_files choice (opening_in t.device) (calls_in t.device))
              → Stands count (put_nth i g hosts) (mails ++ since i count h.site t)
          by (inl u) =
              restand count hosts mails (mails ++ since i count h.site t) st i h g here (without i st.net this.place (seen n)) (placed_at i g.site st.sites)
              (Serves.asked_undone st.net st.sites i this.place (seen n) (seen m) a request t g.site (calls_in t.device) (chosen_files choice (opening_in t.device) (calls_in t.device)) st.serves this.here is_up'
              requests.asked crashed u.stands refl) st.asks this.place (record { node = None; records = this.place.records }) this.here refl (sym (ap (option_map seen) node)) none (placed_this i g.site st.sites)
              (placed_other i g.site st.sites)
              (subst (AreMailsOf st.net.posted)
              (sym (ap (λ (ms : List Mail). mails ++ ms) (sent_of_all u.before [] u.was (u.calls ∙ sym (append-nil (sent_by u.before)))) ∙ append-nil mails)) st.letters)
          by (inr b) =
              let w = broken (example_hosts count) i st.net this.place (seen n) (b.step ∷ []) b.posts in
              let serves : Serves told_of (example_hosts count) w (placed_at i g.site st.sites) =
              Serves.asked_cut_off st.net st.sites i this.place (seen n) (seen m) a request t g.site (calls_in t.device) (chosen_files choice (opening_in t.device) (calls_in t.device)) b.now b.step b.doing b.posts
              st.serves this.here is_up' (ask_so request named).0 requests.asked crashed b.is b.sent b.stands refl in
              let asks : AsksOf closed told_of (example_hosts count) w (placed_at i g.site st.sites) serves = ((ask_so request named).1, st.asks) in
              let letters = calls.one_letters b.step.leaving b.doing.made b.posts (leaving_called (step n.book (events.Local request) b.now b.step.landed).outs b.step.leaving b.is.outcome.leaving) b.sent in
              restand count hosts mails (mails ++ since i count h.site t) st i h g here w (placed_at i g.site st.sites) serves asks this.place
              (record { node = None; records = this.place.records ++ recorded (b.step ∷ []) }) this.here
              (put_put i st.net.places (record { node = Some (as_far (seen n) (b.step ∷ [])); records = this.place.records ++ recorded (b.step ∷ []) })
              (record { node = None; records = this.place.records ++ recorded (b.step ∷ []) })) (sym (ap (option_map seen) node)) none (placed_this i g.site st.sites) (placed_other i g.site st.sites)
              (mails_join st.net.posted (posts_from (example_hosts count) i b.posts) mails (since i count h.site t) st.letters
              (subst (AreMailsOf (posts_from (example_hosts count) i b.posts)) (sym (sent_of_all b.before (sent_by b.doing.made) b.was b.calls))
              (letters_last tell bases closes nets crashes calls images count few i st.net.posted b.posts (sent_by b.doing.made) letters
              (closes count w (placed_at i g.site st.sites) (small tell bases closes nets crashes calls images count few) serves asks).posted)))

      pub asked : (more : List Mail) → IsAsked i count request n h.site g mails more → Stands count (put_nth i g hosts) more
      asked more T = subst (Stands count (put_nth i g hosts)) (sym T.posted) (by T.behind)
        where
          there : Asked T.answer (seen n) (seen T.node) request (told_of (st.sites i)) (told_of T.site)
          there = subst (λ z. Asked T.answer (seen n) (seen T.node) request (told_of z) (told_of T.site)) (sym this.site) T.requests.asked

          requests : Requests told_of T.answer (seen n) (seen T.node) request (st.sites i) T.site
          requests = record { asked = there; nothing = λ why e. T.requests.nothing why e ∙ sym this.site }

          adds : (b : Bool) → n.halted ≡ b → Adds (told_of (st.sites i)) (told_of T.site)
          adds false e = calls.requests_add T.answer (seen n) (seen T.node) request (st.sites i) T.site e requests
          adds true e = record {
            made = [];
            calls = ap (λ (z : MemSite). Some (calls_in z.device)) (T.requests.halted e ∙ sym this.site) ∙ ap (λ (l : List Made). Some l) (sym (append-nil (calls_in (st.sites i).device)));
          }

          by : ((g.node ≡ Some T.node) × (g.site ≡ T.site) × (T.may_go ≡ true)) ⊎ ((g.node ≡ None) × Fell T.site g.site) → Stands count (put_nth i g hosts) (mails ++ since i count h.site T.site)
          by (inl (node, site, may_go)) = going_on T.answer T.node T.site there T.requests.nothing T.room (T.goes_on may_go) node site T.requests.serving
          by (inr (node, fell)) = asked_cut T.answer T.node T.site requests (adds n.halted refl) node fell
