-- A turn that went through all its steps, whatever became of writing its journal anew: its node stays up, or goes down behind them.
use Rattle.std.specs.Prelude.{ℕ, List, [], ◌++◌, ◌-◌, ◌≡◌, ◌≤◌, IfSome, Bool, Option, Some, None, length, map, option_map, take}
use Rattle.std.proofs.Common.{refl, sym, ap, subst, arith, ◌∙◌}
use Rattle.std.proofs.lemmas.List.{append-nil, append_assoc}
use Rattle.at_base.specs.declared.outs.Effect.{Effect}
use Rattle.at_base.specs.declared.outs.Post.{Post}
use Rattle.at_model.specs.Book.{Book}
use Rattle.at_model.specs.World.{Crash, Hosts, Input, Turn, World, WorldEvent, example_hosts, happened_at, lost_in, nth, put_nth, world_step}
use Rattle.deliveries.specs.ByteNets.{Serves}
use Rattle.deliveries.specs.Letters.{AllAreCalled, AreLetters, posts_in}
use Rattle.fated_walks.specs.Fated.{IsBeyond, StartsWith, all_fates, all_posts}
use Rattle.memory_net.specs.Calls.{IsServing}
use Rattle.memory_net.specs.Mails.{Mail, mails_in}
use Rattle.memory_net.specs.Stands.{AreMailsOf}
use Rattle.memory_net.specs.declared.host.Host.{Host}
use Rattle.memory_net.proofs.Going.{letters_last, small}
use Rattle.memory_net.proofs.Standing.{goes_so, mails_join, placed_at, placed_other, placed_this, same_some}
use Rattle.node_at.specs.Doings.{Doing, book_behind, calls_of, came_of, deeds_of}
use Rattle.node_at.specs.Endings.{TakesTurn}
use Rattle.node_at.specs.Moments.{sent_of}
use Rattle.node_at.specs.State.{State, seen}
use Rattle.node_at.specs.TurnText.{TurnStep}
use Rattle.node_at.specs.declared.node.Node.{Node}
use Rattle.node_at.specs.declared.role.Role.TheVariants.{All}
use Rattle.node_at.specs.declared.turn.Turned.{Turned}
use Rattle.node_at.specs.declared.turn.Turned.TheVariants as turneds
use Rattle.node_events.specs.NodeEvents.{IsAt, Leads, MovesOne, StartsAreEvents}
use Rattle.node_worlds.specs.Acts.{IsUp}
use Rattle.node_worlds.specs.Machines.{Crashes, IsLeft, IsOn}
use Rattle.node_worlds.specs.Nets.{IsWorldOf, Net, Place, after, as_far, begun_in, broken, doings_in, posts_from, steps_in, without}
use Rattle.node_worlds.specs.Restarts.{StandsFor}
use Rattle.node_worlds.specs.SentPosts.{AreSent, accepted_along, recorded}
use Rattle.node_worlds.proofs.LifeLaws.{turn_did}
use Rattle.node_worlds.proofs.Places.{nth_this}
use Rattle.node_worlds.proofs.Rows.{sent_append}
use Rattle.site_memory.specs.Devices.{calls_in, opening_in}
use Rattle.site_memory.specs.Disk.{chosen_files}
use Rattle.site_memory.specs.Sites.{told_of}
use Rattle.site_memory.specs.declared.arm.Choice.{Choice}
use Rattle.site_memory.specs.declared.machine.MemSite.{MemSite}
use Rattle.site_model.specs.Told.{Call, Files, Made, sent_by}
use Rattle.world_laws.proofs.Nodes.{put_put}
use Rattle.mirrored_nets.specs.Mirrors.{Mirrors}
use Rattle.mirrored_nets.proofs.CallRows.{IsOnDisk}
use Rattle.mirrored_nets.proofs.CutCalls.{all_take, silent, take_behind}
use Rattle.mirrored_nets.proofs.CutTurns.{same_mails}
use Rattle.mirrored_nets.proofs.FallenHosts.{InWorld, IsBefore, NetLaws, at_this, fallen_to, in_world, is_up, left_at, sites, up_there, waits}
use Rattle.mirrored_nets.proofs.MarkedFiles.{done_two, on_two}
use Rattle.mirrored_nets.proofs.Remirrored.{remirror}
use Rattle.mirrored_nets.proofs.RewritingCalls.{renewed}
use Rattle.mirrored_nets.proofs.RewritingMoments.{ran_up, stands_anew}
use Rattle.mirrored_nets.proofs.StoppedTurns.{begun_whole}
use Rattle.mirrored_nets.proofs.TriedLines.{line_no_posts}
use Rattle.mirrored_nets.proofs.TurnsTaken.{HeardTurn}

-- one node moved, and then once more
moves_on : (i now later : ℕ) (w v z : World) → MovesOne i now w v → MovesOne i later v z → later ≡ now → MovesOne i now w z
moves_on i now later w v z a b same = record {
  node = b.node;
  this = b.this;
  clock = b.clock ∙ same;
  others = λ j other. b.others j other ∙ a.others j other;
  reach = λ to. b.reach to ∙ a.reach to;
}

-- the end of a node that did these steps
ended_so : (hosts : Hosts) (i : ℕ) (net : Net) (p : Place) (n m : State) (steps : List TurnStep) (posts : List Post) → m.book ≡ book_behind n.book steps → m.effects ≡ came_of steps
    → without i (after hosts i net p m (recorded steps) posts (accepted_along hosts i n.book steps))
    (record { node = Some m; records = p.records ++ recorded steps }) m ≡ broken hosts i net p n steps posts
ended_so hosts i net p n m steps posts book effects = λ j. net_by (places j) (effects j) (book j)
  where
    down : Place
    down = record { node = None; records = p.records ++ recorded steps }

    up_as : State → Place
    up_as k = record { node = Some k; records = p.records ++ recorded steps }

    places : put_nth i down (put_nth i (up_as m) net.places) ≡ put_nth i down (put_nth i (up_as (as_far n steps)) net.places)
    places = put_put i net.places (up_as m) down ∙ sym (put_put i net.places (up_as (as_far n steps)) down)

    net_by : List Place → List Effect → Book → Net
    net_by ps es b = record {
      places = ps;
      posted = net.posted ++ posts_from hosts i posts;
      accepted = net.accepted ++ accepted_along hosts i n.book steps;
      happened = (net.happened ++ map (happened_at i) es) ++ lost_in i b;
    }

module _ (L : NetLaws) (count : ℕ) (few : count ≤ 8) (hosts : List Host) (clocks : List ℕ) (mails more : List Mail) (w : World) (M : Mirrors count hosts clocks mails w) (i : ℕ) (h g : Host) (n : Node)
    (here : nth i hosts ≡ Some h) (up : h.node ≡ Some n) (c : ℕ) (time : nth i clocks ≡ Some c) (s : MemSite) (before : IsBefore h s) (m : Node) (t : MemSite) (r : Turned) where
  abbrev starts : ℕ → MemSite
  starts = sites L count few hosts clocks mails more w M i h g n here up c time s before

  abbrev there : InWorld L count few hosts clocks mails more w M i h g n here up c time s before
  there = in_world L count few hosts clocks mails more w M i h g n here up c time s before

  abbrev place : Place
  place = (M.stands.holds i h here).place

  same_site : starts i ≡ s
  same_site = at_this L count few hosts clocks mails more w M i h g n here up c time s before

  up_now : IsUp place.records (seen n) (told_of (starts i))
  up_now = subst (λ z. IsUp place.records (seen n) (told_of z)) (sym same_site) (up_there L count few hosts clocks mails more w M i h g n here up c time s before)

  module _ (turn : TakesTurn told_of r All m.shrunk (seen n) (seen m) (starts i) t) (input : Input) (lines : ℕ) (made : List Made)
      (H : HeardTurn count w M.stands.net i c place there.node n m (starts i) t r turn input lines made) (fates : List Bool) (until : Option ℕ)
      (starts_so : StartsWith (all_fates H.is_turn.fated) fates) (ends_so : IsBeyond until (length (all_fates H.is_turn.fated))) where
    abbrev steps : List TurnStep
    steps = H.did.whole.steps

    abbrev doings : List Doing
    doings = H.did.whole.doings

    abbrev posts : List Post
    posts = all_posts H.is_turn.fated

    -- what its posts sent
    abbrev sent : List Call
    sent = sent_of (deeds_of doings)

    abbrev event : WorldEvent
    event = Turn i input fates until

    begun_are : begun_in turn.first All (seen n) turn.node (told_of (starts i)) (told_of turn.behind) turn.steps ≡ steps
    begun_are = begun_whole turn.first (seen n) turn.node (starts i) turn.behind turn.steps H.ends ∙ H.did.steps_are

    called : AllAreCalled steps
    called = subst AllAreCalled begun_are (L.calls.begun_called r All m.shrunk (seen n) (seen m) (starts i) t turn)

    letters : AreLetters posts (posts_in sent)
    letters = L.calls.sent_letters steps doings posts called H.is_turn.sent

    -- the net behind the steps, whose node is up
    abbrev behind_it : Net
    behind_it = after (example_hosts count) i M.stands.net place (seen m) (recorded steps) posts (accepted_along (example_hosts count) i (seen n).book steps)

    leads : Leads (example_hosts count) i H.did.now w event behind_it
    leads = H.is_turn.leads fates until starts_so ends_so

    -- the calls of its line and its steps
    abbrev front : List Made
    front = H.did.line ++ calls_of doings

    front_sent : sent_by front ≡ sent_by H.did.line ++ sent
    front_sent = H.did.whole.ran.does.sent

    made_are : made ≡ front ++ H.anew.made
    made_are = H.made_are ∙ sym (append_assoc H.did.line (calls_of doings) H.anew.made)

    -- Some of those behind them are kept.
    module _ (kept : ℕ) (enough : length front ≤ kept) (posted : more ≡ mails ++ mails_in i count (sent_by (take kept made))) where
      taken : take kept made ≡ front ++ take (kept - length front) H.anew.made
      taken = ap (take kept) made_are ∙ take_behind (kept - length front) (length front) kept front H.anew.made refl (omega (arith, enough))

      taken_sent : sent_by (take kept made) ≡ sent_by H.did.line ++ sent
      taken_sent =
          ap sent_by taken
          ∙ sent_append front (take (kept - length front) H.anew.made)
          ∙ ap (λ z. sent_by front ++ z) (silent (take (kept - length front) H.anew.made) (all_take IsOnDisk (kept - length front) H.anew.made H.anew.on_disk))
          ∙ append-nil (sent_by front)
          ∙ front_sent

      mailed : more ≡ mails ++ mails_in i count sent
      mailed = posted ∙ same_mails i count mails (sent_by H.did.line) sent (take kept made) (line_no_posts lines H.did.line H.line_is) taken_sent

      -- where it stays up
      module _ (going : r ≡ turneds.Halted → ⊥) (node : g.node ≡ Some m) (site : g.site ≡ t) (serves_on : IsServing m) where
        sent_so : AreSent (steps_in turn.first All (seen n) turn.node (told_of (starts i)) (told_of turn.behind) turn.steps)
            (doings_in turn.first All (seen n) turn.node (told_of (starts i)) (told_of turn.behind) turn.steps) posts
        sent_so =
            subst (λ ss. AreSent ss (doings_in turn.first All (seen n) turn.node (told_of (starts i)) (told_of turn.behind) turn.steps) posts) (sym H.did.steps_are)
            (subst (λ ds. AreSent steps ds posts) (sym H.did.doings_are) H.is_turn.sent)

        abbrev serves : Serves told_of (example_hosts count) behind_it (placed_at i t starts)
        serves =
            Serves.turned M.stands.net starts i place (seen n) (seen m) r All m.shrunk t posts (waits L count few hosts clocks mails more w M i h g n here up c time s before) (M.stands.holds i h here).here
            (is_up L count few hosts clocks mails more w M i h g n here up c time s before) turn going (λ _. H.carries) sent_so (goes_so i t starts)
            (ap (λ ss. after (example_hosts count) i M.stands.net place (seen m) (recorded ss) posts (accepted_along (example_hosts count) i (seen n).book ss)) (sym H.did.steps_are))

        mails_are : AreMailsOf behind_it.posted more
        mails_are =
            subst (AreMailsOf behind_it.posted) (sym mailed)
            (mails_join M.stands.net.posted (posts_from (example_hosts count) i posts) mails (mails_in i count sent) M.stands.letters
            (letters_last L.tell L.bases L.closes L.nets L.crashes L.calls L.images count few i M.stands.net.posted posts sent letters
            (L.closes count behind_it (placed_at i t starts) (small L.tell L.bases L.closes L.nets L.crashes L.calls L.images count few) serves M.stands.asks).posted))

        limit_kept : (x : Node) → g.node ≡ Some x → x.journal.limit ≡ 4294967295
        limit_kept x e =
            let same : m ≡ x = same_some m x (sym node ∙ e) in
            ap (λ (z : Node). z.journal.limit) (sym same) ∙ H.anew.limit ∙ H.did.whole.ran.does.limit ∙ M.limits i h n here up

        still_up : g.node ≡ None → ⊥
        still_up down = let e : Some m ≡ None = sym node ∙ down in cc

        pub stays_anew : Mirrors count (put_nth i g hosts) (put_nth i H.did.now clocks) more (world_step w event)
        stays_anew =
            remirror count hosts clocks mails more w M i h g here c H.did.now time there.node there.known event behind_it (placed_at i t starts) serves M.stands.asks place
            (record { node = Some (seen m); records = place.records ++ recorded steps }) (M.stands.holds i h here).here refl (sym (ap (option_map seen) node))
            (subst (λ o. IfSome o IsServing) (sym node) serves_on) (placed_this i t starts ∙ sym site) (λ j f. placed_other i t starts j f ∙ placed_other i s M.stands.sites j f) mails_are limit_kept leads
            (λ down. absurd (still_up down))

      -- where it goes down, on what a crash leaves behind so many of its calls
      module _ (crash : StartsAreEvents) (adds : calls_in t.device ≡ calls_in s.device ++ made) (choice : Choice)
          (on : IsOn (chosen_files choice (opening_in t.device) (calls_in s.device ++ take kept made)) (told_of g.site)) (down : g.node ≡ None) where
        -- the world behind it
        abbrev v : World
        v = world_step w event

        abbrev up_place : Place
        up_place = record { node = Some (seen m); records = place.records ++ recorded steps }

        at_it : IsAt (example_hosts count) behind_it v i up_place leads.moves.node (seen m)
        at_it = record {
          world = leads.world;
          place = nth_this M.stands.net.places i place up_place (M.stands.holds i h here).here;
          node = leads.moves.this;
          up = refl;
          reach = λ to. leads.moves.reach to ∙ M.reach to;
        }

        ended : Leads (example_hosts count) i leads.moves.node.clock v (Crash i) (without i behind_it up_place (seen m))
        ended = crash.ended (example_hosts count) behind_it v i up_place leads.moves.node (seen m) at_it

        abbrev gone : Net
        gone = broken (example_hosts count) i M.stands.net place (seen n) steps posts

        ended_world : IsWorldOf (example_hosts count) gone (world_step v (Crash i))
        ended_world =
            subst (λ (net : Net). IsWorldOf (example_hosts count) net (world_step v (Crash i)))
            (ended_so (example_hosts count) i M.stands.net place (seen n) (seen m) steps posts (H.anew.book ∙ H.did.whole.ran.book) (H.anew.effects ∙ H.did.whole.ran.effects)) ended.world

        ended_moves : MovesOne i H.did.now w (world_step v (Crash i))
        ended_moves = moves_on i H.did.now leads.moves.node.clock w v (world_step v (Crash i)) leads.moves ended.moves leads.moves.clock

        -- what its files stand for
        abbrev l : List Made
        l = calls_in s.device ++ take kept made

        abbrev d : Files
        d = chosen_files choice (opening_in t.device) l

        behind_calls : calls_in turn.behind.device ≡ calls_in s.device ++ front
        behind_calls = same_some (calls_in turn.behind.device) (calls_in (starts i).device ++ front) H.did.whole.ran.does.calls ∙ ap (λ (z : MemSite). calls_in z.device ++ front) same_site

        anew_calls : calls_in t.device ≡ calls_in turn.behind.device ++ H.anew.made
        anew_calls = same_some (calls_in t.device) (calls_in turn.behind.device ++ H.anew.made) H.anew.calls

        l_is : l ≡ calls_in turn.behind.device ++ take (kept - length front) H.anew.made
        l_is =
            ap (λ z. calls_in s.device ++ z) taken
            ∙ sym (append_assoc (calls_in s.device) front (take (kept - length front) H.anew.made))
            ∙ ap (λ z. z ++ take (kept - length front) H.anew.made) (sym behind_calls)

        up_behind : IsUp (place.records ++ recorded steps) turn.node (told_of turn.behind)
        up_behind = ran_up L.bodies L.grows place.records (seen n) turn.node (starts i) turn.behind up_now H.did.line steps doings H.did.whole.ran

        stands : StandsFor (place.records ++ recorded steps) d
        stands =
            subst (λ z. StandsFor (place.records ++ recorded steps) (chosen_files choice (opening_in t.device) z)) (sym l_is)
            (stands_anew L.restarts L.images (place.records ++ recorded steps) turn.node (seen m) turn.behind t up_behind turn.first r m.shrunk
            (renewed turn.first r m.shrunk turn.node (seen m) turn.behind t H.ends turn.ends) H.anew.made anew_calls (kept - length front) choice)

        left : IsLeft (told_of (starts i)) (told_of t) l d
        left = subst (λ z. IsLeft (told_of z) (told_of t) l d) (sym same_site) (left_at L.images s t choice made kept adds)

        crashes : Crashes told_of i t g.site l d starts (placed_at i g.site starts)
        crashes = record { left = left; on = on; goes = goes_so i g.site starts }

        abbrev serves_down : Serves told_of (example_hosts count) gone (placed_at i g.site starts)
        serves_down =
            Serves.cut_off M.stands.net starts i place (seen n) (seen m) r All m.shrunk t g.site l d steps [] doings posts (waits L count few hosts clocks mails more w M i h g n here up c time s before)
            (M.stands.holds i h here).here (is_up L count few hosts clocks mails more w M i h g n here up c time s before) turn (λ _. H.carries) crashes (begun_are ∙ sym (append-nil steps)) H.is_turn.sent stands refl

        pub falls_anew : Mirrors count (put_nth i g hosts) (put_nth i H.did.now clocks) more (world_step v (Crash i))
        falls_anew =
            fallen_to L count few hosts clocks mails more w M i h g n here up c time s before steps posts sent serves_down M.stands.asks letters mailed H.did.now (world_step v (Crash i))
            ended_world ended_moves down
            (on_two (place.records ++ recorded steps) d g.site on
            (done_two (starts i) t l d left place.records (place.records ++ recorded steps) (seen n) _ up_now
            (turn_did L.bodies L.grows told_of place.records r All m.shrunk (seen n) (seen m) (starts i) t up_now turn).time))
