-- A turn behind which its node stays up leads to a net that mirrors the world behind the event.
use Rattle.std.specs.Prelude.{ℕ, List, [], ◌∷◌, ◌++◌, ◌+◌, ◌≡◌, ◌≤◌, IfSome, None, Option, Some, Bool, true, false, drop, length, option_map, take}
use Rattle.std.proofs.Common.{refl, sym, ap, subst, ◌∙◌}
use Rattle.std.proofs.lemmas.List.{append-nil, append_assoc}
use Rattle.at_base.specs.declared.outs.Post.{Post}
use Rattle.at_model.specs.World.{Input, Turn, World, example_hosts, nth, put_nth, world_step}
use Rattle.deliveries.specs.ByteNets.{Serves}
use Rattle.deliveries.specs.Letters.{AllAreCalled, AreLetters, posts_in}
use Rattle.fated_walks.specs.Fated.{IsBeyond, StartsWith, all_fates, all_posts}
use Rattle.memory_net.specs.Calls.{IsServing}
use Rattle.memory_net.specs.Mails.{Mail, mails_in}
use Rattle.memory_net.specs.Stands.{AreMailsOf}
use Rattle.memory_net.specs.declared.host.Host.{Host}
use Rattle.memory_net.proofs.Going.{letters_last, small}
use Rattle.memory_net.proofs.Standing.{goes_so, mails_join, placed_at, placed_other, placed_this, same_some}
use Rattle.node_at.specs.Doings.{calls_of, deeds_of}
use Rattle.node_at.specs.Endings.{TakesTurn}
use Rattle.node_at.specs.Moments.{sent_of}
use Rattle.node_at.specs.State.{seen}
use Rattle.node_at.specs.declared.node.Node.{Node}
use Rattle.node_at.specs.declared.role.Role.TheVariants.{All}
use Rattle.node_at.specs.declared.turn.Turned.{Turned}
use Rattle.node_at.specs.declared.turn.Turned.TheVariants as turneds
use Rattle.node_events.specs.NodeEvents.{Leads}
use Rattle.node_worlds.specs.Nets.{Net, Place, after, doings_in, posts_from, steps_in}
use Rattle.node_worlds.specs.SentPosts.{AreSent, accepted_along, recorded}
use Rattle.node_worlds.proofs.Rows.{sent_append}
use Rattle.site_memory.specs.Sites.{told_of}
use Rattle.site_memory.specs.declared.machine.MemSite.{MemSite}
use Rattle.site_model.specs.Told.{Call, Made, sent_by, sent_if}
use Rattle.mirrored_nets.specs.Fates.{AreAsked, fates_in, is_disk}
use Rattle.mirrored_nets.specs.Goings.{IsBrought, IsSet, ms_of}
use Rattle.mirrored_nets.specs.Mirrors.{Mirrors}
use Rattle.mirrored_nets.specs.Took.{ComesTo, EndsSo, IsWhole, LeftSo, TookTurn, kept_of}
use Rattle.mirrored_nets.specs.declared.came.Came.TheVariants as cames
use Rattle.mirrored_nets.proofs.CallRows.{AreOnDisk}
use Rattle.mirrored_nets.proofs.CutTurns.{same_mails}
use Rattle.mirrored_nets.proofs.FallenHosts.{InWorld, IsBefore, NetLaws, in_world, is_up, sites, waits}
use Rattle.mirrored_nets.proofs.HeardFates.{heard_fates}
use Rattle.mirrored_nets.proofs.Remirrored.{remirror}
use Rattle.mirrored_nets.proofs.StoppedTurns.{begun_whole}
use Rattle.mirrored_nets.proofs.TriedLines.{line_no_posts}
use Rattle.mirrored_nets.proofs.TurnsTaken.{HeardTurn, TurnLaws, before_turn, took_heard, turn_there}

-- calls of the disk send nothing
pub none_sent : (ms : List Made) → AreOnDisk ms → sent_by ms ≡ []
none_sent [] h = refl
none_sent (m ∷ ms) (h, more) = (λ i. by m.done m.call h i ++ none_sent ms more i)
  where
    by : (b : Bool) (c : Call) → is_disk c ≡ true → sent_if b c ≡ []
    by false c e = refl
    by true (Call.Write file at bytes) e = refl
    by true (Call.Sync file) e = refl
    by true (Call.Send bytes) e = absurd cc
    by true (Call.Post host port bytes) e = absurd cc

pub take_all : (ms : List Made) → take (length ms) ms ≡ ms
take_all [] = refl
take_all (m ∷ ms) = ap (λ z. m ∷ z) (take_all ms)

-- what was sent of a turn's calls
sent_parts : (made line calls anew : List Made) (sent : List Call) → made ≡ line ++ (calls ++ anew) → AreOnDisk anew → sent_by (line ++ calls) ≡ sent_by line ++ sent → sent_by made ≡ sent_by line ++ sent
sent_parts made line calls anew sent e disk f =
    ap sent_by (e ∙ sym (append_assoc line calls anew)) ∙ sent_append (line ++ calls) anew ∙ ap (λ z. sent_by (line ++ calls) ++ z) (none_sent anew disk) ∙ append-nil (sent_by (line ++ calls)) ∙ f

not_halted : (r : Turned) → IsWhole r → r ≡ turneds.Halted → ⊥
not_halted r whole e = subst IsWhole e whole

module _ (L : NetLaws) (count : ℕ) (few : count ≤ 8) (hosts : List Host) (clocks : List ℕ) (mails more : List Mail) (w : World) (M : Mirrors count hosts clocks mails w) (i : ℕ) (h g : Host) (n : Node)
    (here : nth i hosts ≡ Some h) (up : h.node ≡ Some n) (c : ℕ) (time : nth i clocks ≡ Some c) (s : MemSite) (before : IsBefore h s) (r : Turned) (m : Node) (t : MemSite) where
  abbrev starts : ℕ → MemSite
  starts = sites L count few hosts clocks mails more w M i h g n here up c time s before

  abbrev there : InWorld L count few hosts clocks mails more w M i h g n here up c time s before
  there = in_world L count few hosts clocks mails more w M i h g n here up c time s before

  abbrev old_place : Place
  old_place = (M.stands.holds i h here).place

  module _ (turn : TakesTurn told_of r All m.shrunk (seen n) (seen m) (starts i) t) (whole : IsWhole r) (input : Input) (lines : ℕ) (made : List Made)
      (H : HeardTurn count w M.stands.net i c old_place there.node n m (starts i) t r turn input lines made) (fates : List Bool) (until : Option ℕ) (asked : AreAsked lines made fates until)
      (node : g.node ≡ Some m) (site : g.site ≡ t) (serves_on : IsServing m) (posted : more ≡ mails ++ mails_in i count (sent_by made)) where
    abbrev posts : List Post
    posts = all_posts H.is_turn.fated

    abbrev behind_it : Net
    behind_it = after (example_hosts count) i M.stands.net old_place (seen m) (recorded H.did.whole.steps) posts (accepted_along (example_hosts count) i (seen n).book H.did.whole.steps)

    abbrev ends_at : ℕ → MemSite
    ends_at = placed_at i t starts

    steps_are : steps_in turn.first All (seen n) turn.node (told_of (starts i)) (told_of turn.behind) turn.steps ≡ H.did.whole.steps
    steps_are = H.did.steps_are

    sent_so : AreSent (steps_in turn.first All (seen n) turn.node (told_of (starts i)) (told_of turn.behind) turn.steps)
        (doings_in turn.first All (seen n) turn.node (told_of (starts i)) (told_of turn.behind) turn.steps) posts
    sent_so =
        subst (λ ss. AreSent ss (doings_in turn.first All (seen n) turn.node (told_of (starts i)) (told_of turn.behind) turn.steps) posts) (sym steps_are)
        (subst (λ ds. AreSent H.did.whole.steps ds posts) (sym H.did.doings_are) H.is_turn.sent)

    serves : Serves told_of (example_hosts count) behind_it ends_at
    serves =
        Serves.turned M.stands.net starts i old_place (seen n) (seen m) r All m.shrunk t posts (waits L count few hosts clocks mails more w M i h g n here up c time s before) (M.stands.holds i h here).here
        (is_up L count few hosts clocks mails more w M i h g n here up c time s before) turn (not_halted r whole) (λ _. H.carries) sent_so (goes_so i t starts)
        (ap (λ ss. after (example_hosts count) i M.stands.net old_place (seen m) (recorded ss) posts (accepted_along (example_hosts count) i (seen n).book ss)) (sym steps_are))

    called : AllAreCalled H.did.whole.steps
    called =
        subst AllAreCalled (begun_whole turn.first (seen n) turn.node (starts i) turn.behind turn.steps H.ends ∙ steps_are)
        (L.calls.begun_called r All m.shrunk (seen n) (seen m) (starts i) t turn)

    letters : AreLetters posts (posts_in (sent_of (deeds_of H.did.whole.doings)))
    letters = L.calls.sent_letters H.did.whole.steps H.did.whole.doings posts called H.is_turn.sent

    sent_is : sent_by made ≡ sent_by H.did.line ++ sent_of (deeds_of H.did.whole.doings)
    sent_is = sent_parts made H.did.line (calls_of H.did.whole.doings) H.anew.made (sent_of (deeds_of H.did.whole.doings)) H.made_are H.anew.on_disk H.did.whole.ran.does.sent

    mailed : more ≡ mails ++ mails_in i count (sent_of (deeds_of H.did.whole.doings))
    mailed =
        posted
        ∙ same_mails i count mails (sent_by H.did.line) (sent_of (deeds_of H.did.whole.doings)) made (line_no_posts lines H.did.line H.line_is) sent_is

    mails_are : AreMailsOf behind_it.posted more
    unfolding serves
    mails_are =
        subst (AreMailsOf behind_it.posted) (sym mailed)
        (mails_join M.stands.net.posted (posts_from (example_hosts count) i posts) mails (mails_in i count (sent_of (deeds_of H.did.whole.doings))) M.stands.letters
        (letters_last L.tell L.bases L.closes L.nets L.crashes L.calls L.images count few i M.stands.net.posted posts (sent_of (deeds_of H.did.whole.doings)) letters
        (L.closes count behind_it ends_at (small L.tell L.bases L.closes L.nets L.crashes L.calls L.images count few) serves M.stands.asks).posted))

    -- the fates that the event asks for are those that it had
    fates_are : fates_in (drop lines made) ≡ all_fates H.is_turn.fated
    fates_are = heard_fates count w M.stands.net i c old_place there.node n m (starts i) t r turn input lines made H fates until asked

    leads : Leads (example_hosts count) i H.did.now w (Turn i input fates until) behind_it
    leads =
        H.is_turn.leads fates until (subst (λ fs. StartsWith fs fates) fates_are asked.fates_are) (subst (λ fs. IsBeyond until (length fs)) fates_are asked.beyond)

    limit_kept : (x : Node) → g.node ≡ Some x → x.journal.limit ≡ 4294967295
    limit_kept x e =
        let same : m ≡ x = same_some m x (sym node ∙ e) in
        ap (λ (z : Node). z.journal.limit) (sym same) ∙ H.anew.limit ∙ H.did.whole.ran.does.limit ∙ M.limits i h n here up

    still_up : g.node ≡ None → ⊥
    still_up down = let e : Some m ≡ None = sym node ∙ down in cc

    pub stayed_turn : Mirrors count (put_nth i g hosts) (put_nth i (c + ms_of input) clocks) more (world_step w (Turn i input fates until))
    unfolding serves
    stayed_turn =
        subst (λ now. Mirrors count (put_nth i g hosts) (put_nth i now clocks) more (world_step w (Turn i input fates until))) H.now_is
        (remirror count hosts clocks mails more w M i h g here c H.did.now time there.node there.known (Turn i input fates until) behind_it ends_at serves M.stands.asks old_place
        (record { node = Some (seen m); records = old_place.records ++ recorded H.did.whole.steps }) (M.stands.holds i h here).here refl (sym (ap (option_map seen) node))
        (subst (λ o. IfSome o IsServing) (sym node) serves_on) (placed_this i t starts ∙ sym site)
        (λ j f. placed_other i t starts j f ∙ placed_other i s M.stands.sites j f) mails_are limit_kept leads (λ down. absurd (still_up down)))

-- so it is of one that was taken
pub turned_stays : (L : NetLaws) (K : TurnLaws) (count : ℕ) (hosts : List Host) (clocks : List ℕ) (mails more : List Mail) (w : World) (i c : ℕ) (h g : Host) (n : Node) (input : Input) (lines : ℕ) (bytes : List ℕ)
    (old : MemSite) (fates : List Bool) (until : Option ℕ) → count ≤ 8 → Mirrors count hosts clocks mails w → 1 ≤ i → nth i hosts ≡ Some h → h.node ≡ Some n → nth i clocks ≡ Some c
    → IsBrought mails i input lines bytes → IsSet (c + ms_of input) h.site old → (T : TookTurn i count lines bytes n old g mails more fates until) → T.came ≡ cames.Stays
    → Mirrors count (put_nth i g hosts) (put_nth i (c + ms_of input) clocks) more (world_step w (Turn i input fates until))
turned_stays L K count hosts clocks mails more w i c h g n input lines bytes old fates until few M least here up time brought set T stays =
    let whole : IsWhole T.result = subst (λ z. EndsSo z T.result) stays T.ends in
    let left : LeftSo cames.Stays T.node old T.site g = subst (λ z. LeftSo z T.node old T.site g) stays T.left in
    let before = before_turn L K count few hosts clocks mails more w M i least h g n here up c time input lines bytes old fates until brought set T in
    stayed_turn L count few hosts clocks mails more w M i h g n here up c time T.turns.connected before T.result T.node T.site
    (turn_there L K count few hosts clocks mails more w M i least h g n here up c time input lines bytes old fates until brought set T) whole input lines T.made
    (took_heard L K count few hosts clocks mails more w M i least h g n here up c time input lines bytes old fates until brought set T whole) fates until
    (subst (λ z. ComesTo z lines T.made fates until) stays T.comes) left.0 left.1 T.turns.serving
    (T.posted ∙ ap (λ ms. mails ++ mails_in i count (sent_by ms)) (ap (λ z. take (kept_of z T.made) T.made) stays ∙ take_all T.made))
