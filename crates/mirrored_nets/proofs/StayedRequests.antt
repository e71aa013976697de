-- A request behind which its node stays up leads to a net that mirrors the world behind the event, is refused where the world refuses it, and has
-- the effects of its event.
use Rattle.std.specs.Prelude.{ℕ, List, [], ◌++◌, ◌≡◌, ◌≤◌, IfSome, Option, Some, None, Bool, drop, length, option_and_then, option_map, take}
use Rattle.std.proofs.Common.{refl, sym, ap, subst, arith, ◌∙◌, inr}
use Rattle.std.proofs.Math.Seq.{drop-append_seam}
use Rattle.std.proofs.lemmas.List.{append-nil}
use Rattle.at_base.specs.Numbers.{Numbers}
use Rattle.at_base.specs.declared.event.Event.TheVariants as events
use Rattle.at_base.specs.declared.event.Local.{Local}
use Rattle.at_base.specs.declared.outs.Post.{Post}
use Rattle.at_base.specs.declared.record.Record.{Record}
use Rattle.at_model.specs.Book.{Book}
use Rattle.at_model.specs.Step.{plan, refuses, step}
use Rattle.at_model.specs.World.{Ask, World, example_base, example_hosts, nth, put_nth, world_step}
use Rattle.completion_at.specs.Names.{refusal_of}
use Rattle.completion_at.specs.declared.requests.Refusal.{Refusal}
use Rattle.deliveries.proofs.CalledOuts.{leaving_called}
use Rattle.deliveries.specs.ByteNets.{Serves}
use Rattle.deliveries.specs.Letters.{AreLetters, posts_in}
use Rattle.fated_walks.specs.Fated.{IsBeyond, StartsWith, fates_of, posts_of}
use Rattle.memory_net.specs.Calls.{IsServing}
use Rattle.memory_net.specs.Closed.{AsksOf, ExamplesAskSo, IsExampleRequest, closed}
use Rattle.memory_net.specs.Mails.{Mail, mails_in}
use Rattle.memory_net.specs.Stands.{AreMailsOf}
use Rattle.memory_net.specs.declared.host.Host.{Host}
use Rattle.memory_net.proofs.Going.{letters_last, small}
use Rattle.memory_net.proofs.Standing.{goes_so, mails_join, placed_at, placed_other, placed_this, same_some}
use Rattle.node_at.specs.Doings.{Doing}
use Rattle.node_at.specs.Locals.{Asked, cleared}
use Rattle.node_at.specs.State.{State, seen}
use Rattle.node_at.specs.Steps.{if_landed}
use Rattle.node_at.specs.TurnText.{IsStep, TurnStep}
use Rattle.node_at.specs.declared.local.Locally.{Locally}
use Rattle.node_at.specs.declared.local.Locally.TheVariants as answers
use Rattle.node_at.specs.declared.node.Node.{Node}
use Rattle.node_events.specs.CallEffects.{EffectsAgree}
use Rattle.node_events.specs.NodeEvents.{IsAsk, RequestsAreEvents}
use Rattle.node_events.proofs.WalkedSteps.{book_up}
use Rattle.node_worlds.specs.Nets.{Net, Place, after, posts_from, rested}
use Rattle.node_worlds.specs.SentPosts.{accepted_between, records_by}
use Rattle.node_worlds.proofs.Rows.{sent_append}
use Rattle.site_memory.specs.Devices.{calls_in}
use Rattle.site_memory.specs.Sites.{told_of}
use Rattle.site_memory.specs.declared.machine.MemSite.{MemSite}
use Rattle.site_model.specs.Told.{Made, sent_by}
use Rattle.world_laws.proofs.Nodes.{put_same}
use Rattle.world_laws.specs.Runs.{book_of, refused_at}
use Rattle.mirrored_nets.specs.Answered.{HasEffects, RefusesAlike}
use Rattle.mirrored_nets.specs.Fates.{AreAsked, fates_in}
use Rattle.mirrored_nets.specs.Goings.{IsSet}
use Rattle.mirrored_nets.specs.Mirrors.{Mirrors}
use Rattle.mirrored_nets.specs.Took.{Adds, AnswersSo, ComesTo, HasRoom, LeftSo, TookRequest, kept_of}
use Rattle.mirrored_nets.specs.declared.came.Came.TheVariants as cames
use Rattle.mirrored_nets.proofs.CalledFates.{local_called, planned_calls}
use Rattle.mirrored_nets.proofs.CallsRead.{Read, fates_read, record_on_disk}
use Rattle.mirrored_nets.proofs.FallenHosts.{InWorld, IsBefore, NetLaws, at_this, in_world, is_up, sites, up_there, waits}
use Rattle.mirrored_nets.proofs.Remirrored.{remirror}
use Rattle.mirrored_nets.proofs.StayedTurns.{none_sent, take_all}
use Rattle.mirrored_nets.proofs.ToldFares.{HaveCalls}
use Rattle.mirrored_nets.proofs.TurnsTaken.{TurnLaws, fits, keeps, owned}
use Rattle.mirrored_nets.proofs.RequestsRead.{doing_done, fate_landed, is_doing, is_step, request_read, step_done}

module _ (L : NetLaws) (K : TurnLaws) (requests : RequestsAreEvents) (ask_so : ExamplesAskSo) (count : ℕ) (few : count ≤ 8) (hosts : List Host) (clocks : List ℕ) (mails more : List Mail) (w : World)
    (M : Mirrors count hosts clocks mails w) (i : ℕ) (least : 1 ≤ i) (h g : Host) (n : Node) (here : nth i hosts ≡ Some h) (up : h.node ≡ Some n) (c : ℕ) (time : nth i clocks ≡ Some c) (s : MemSite)
    (before : IsBefore h s) (at_time : s.clock ≡ c) (request : Local) (named : IsExampleRequest request) (m : Node) (t : MemSite) (node : g.node ≡ Some m) (site : g.site ≡ t) (serves_on : IsServing m)
    (made : List Made) (adds : Adds made s t) (fates : List Bool) (until : Option ℕ) (asked : AreAsked 0 made fates until) (posted : more ≡ mails ++ mails_in i count (sent_by made)) where
  abbrev starts : ℕ → MemSite
  starts = sites L count few hosts clocks mails more w M i h g n here up c time s before

  from_is : starts i ≡ s
  from_is = at_this L count few hosts clocks mails more w M i h g n here up c time s before

  abbrev there : InWorld L count few hosts clocks mails more w M i h g n here up c time s before
  there = in_world L count few hosts clocks mails more w M i h g n here up c time s before

  abbrev old_place : Place
  old_place = (M.stands.holds i h here).place

  node_up : old_place.node ≡ Some (seen n)
  node_up = is_up L count few hosts clocks mails more w M i h g n here up c time s before

  serving_node : IfSome g.node IsServing
  serving_node = subst (λ o. IfSome o IsServing) (sym node) serves_on

  still_up : g.node ≡ None → ⊥
  still_up down = let e : Some m ≡ None = sym node ∙ down in cc

  -- time doesn't go on
  at_rest : Mirrors count (put_nth i g hosts) (put_nth i there.node.clock clocks) more (world_step w (Ask i request fates until))
      → Mirrors count (put_nth i g hosts) clocks more (world_step w (Ask i request fates until))
  at_rest h' =
      subst (λ cs. Mirrors count (put_nth i g hosts) cs more (world_step w (Ask i request fates until))) (ap (λ k. put_nth i k clocks) there.clock ∙ put_same i clocks c time) h'

  -- the world refuses it where the node does
  refused_there : refused_at w i request ≡ refuses n.book request
  refused_there =
      ap (λ o. option_and_then (λ (b : Book). refuses b request) (option_and_then book_of o)) there.known
      ∙ ap (option_and_then (λ (b : Book). refuses b request)) (book_up (example_hosts count) M.stands.net w i old_place there.node (seen n) there.is_at)

  abbrev pub IsStayed : Locally → Type 0
  IsStayed answer = Mirrors count (put_nth i g hosts) clocks more (world_step w (Ask i request fates until)) × RefusesAlike w i request answer × (EffectsAgree → HasEffects w (Ask i request fates until) m)

  -- it refuses
  module _ (why : Refusal) (says : refuses n.book request ≡ Some (refusal_of why)) (same : seen m ≡ cleared (seen n)) (stays : t ≡ s) where
    abbrev rests : Net
    rests = rested i M.stands.net old_place (seen n)

    none_made : made ≡ []
    none_made = adds.calls ∙ ap (λ (z : MemSite). drop (length (calls_in s.device)) (calls_in z.device)) stays ∙ ap (drop (length (calls_in s.device))) (sym (append-nil (calls_in s.device))) ∙ drop-append_seam (calls_in s.device) []

    not_before : until ≡ Some 0 → ⊥
    not_before e =
        let k : IsBeyond (Some 0) (length (fates_in (drop 0 []))) = subst (λ ms. IsBeyond (Some 0) (length (fates_in (drop 0 ms)))) none_made (subst (λ o. IsBeyond o (length (fates_in (drop 0 made)))) e asked.beyond) in
        omega (arith, k)

    refused_mirrors : Mirrors count (put_nth i g hosts) clocks more (world_step w (Ask i request fates until))
    refused_mirrors =
        at_rest
        (remirror count hosts clocks mails more w M i h g here c there.node.clock time there.node there.known (Ask i request fates until) rests starts
        (Serves.idled M.stands.net i old_place (seen n) (waits L count few hosts clocks mails more w M i h g n here up c time s before) (M.stands.holds i h here).here node_up refl) M.stands.asks old_place
        (record { node = Some (cleared (seen n)); records = old_place.records }) (M.stands.holds i h here).here refl (sym (ap (option_map seen) node ∙ ap (λ (z : State). Some z) same)) serving_node
        (from_is ∙ sym stays ∙ sym site) (λ j f. placed_other i s M.stands.sites j f)
        (subst (AreMailsOf M.stands.net.posted) (sym (posted ∙ ap (λ ms. mails ++ mails_in i count (sent_by ms)) none_made ∙ append-nil mails)) M.stands.letters)
        (λ x e. ap (λ (z : Node). z.journal.limit) (sym (same_some m x (sym node ∙ e))) ∙ ap (λ (z : State). z.journal.limit) same ∙ M.limits i h n here up)
        (requests.refused (example_hosts count) M.stands.net w i old_place there.node (seen n) request
        (refusal_of why) fates until there.is_at says there.order not_before) (λ down. absurd (still_up down)))

    refused_effects : EffectsAgree → HasEffects w (Ask i request fates until) m
    refused_effects agree =
        ap (λ (z : State). z.effects) same ∙ sym (agree.refused (example_hosts count) M.stands.net w i old_place there.node (seen n) request (refusal_of why) fates until there.is_at says not_before)

    pub refused_stays : IsStayed (answers.Refused why)
    refused_stays = (refused_mirrors, sym (refused_there ∙ says), refused_effects)

  -- it does it
  module _ (has : HasRoom s) (id : Numbers) (D : Asked (answers.Done id) (seen n) (seen m) request (told_of (starts i)) (told_of t)) where
    abbrev now : ℕ
    now = D.3.0

    now_is : now ≡ there.node.clock
    now_is = D.3.2 (starts i).clock refl ∙ ap (λ (z : MemSite). z.clock) from_is ∙ at_time ∙ sym there.clock

    abbrev its_step : TurnStep
    its_step = step_done (seen n) (seen m) request now D.3.1 (starts i) t D.3.3

    abbrev its_doing : Doing
    its_doing = doing_done (seen n) (seen m) request now D.3.1 (starts i) t D.3.3

    is_ask : IsAsk (example_hosts count) M.stands.net w i old_place there.node (seen n) (seen m) request its_step its_doing
    is_ask =
        requests.whole (example_hosts count) M.stands.net w i old_place there.node (seen n) (seen m) request its_step its_doing there.is_at
        (subst (λ k. IsStep n.book (events.Local request) k its_step) now_is (is_step (seen n) (seen m) request now D.3.1 (starts i) t D.3.3))
        (is_doing (seen n) (seen m) request now D.3.1 (starts i) t D.3.3)
        (fate_landed (plan n.book (events.Local request) now).entry D.3.3.landed n.journal D.3.3.went.first (told_of (starts i)) (told_of t) D.3.3.went.fate) D.3.3.went.book D.3.3.went.effects

    read : (R : Read n.journal [] made its_step [] its_doing []) × (R.anew ≡ [])
    read =
        request_read (seen n) (seen m) request now D.3.1 (starts i) t D.3.3 L.bodies s made (up_there L count few hosts clocks mails more w M i h g n here up c time s before).holds.bodies from_is has
        (keeps L K count few hosts clocks mails more w M i least h g n here up c time s before) (M.limits i h n here up) adds

    have : HaveCalls is_ask.fated
    have =
        planned_calls K.addressed K.reply K.pass K.place (example_base i) (owned L K count few hosts clocks mails more w M i least h g n here up c time) (plan n.book (events.Local request) there.node.clock) is_ask.fated
        (local_called K.addressed K.reply K.pass K.place (example_base i) (owned L K count few hosts clocks mails more w M i least h g n here up c time) n.book request there.node.clock
        (fits L K count few hosts clocks mails more w M i least h g n here up c time s before) (ask_so request named).0) is_ask.planned

    fates_are : fates_in (drop 0 made) ≡ fates_of is_ask.fated
    fates_are =
        fates_read n.journal [] made its_step [] its_doing [] read.0 is_ask.fated [] (is_ask.fared, tt) (have, tt) (inr read.1) asked.anew ∙ append-nil (fates_of is_ask.fated)

    abbrev posts : List Post
    posts = posts_of is_ask.fated.ways

    abbrev recorded_so : List Record
    recorded_so = records_by (if_landed D.3.3.landed (plan n.book (events.Local request) now).entry)

    abbrev behind_it : Net
    behind_it = after (example_hosts count) i M.stands.net old_place (seen m) recorded_so posts (accepted_between (example_hosts count) i (seen n).book (seen m).book)

    serves : Serves told_of (example_hosts count) behind_it (placed_at i t starts)
    serves =
        Serves.asked M.stands.net starts i old_place (seen n) (seen m) id request t posts (waits L count few hosts clocks mails more w M i h g n here up c time s before) (M.stands.holds i h here).here node_up
        (ask_so request named).0 D is_ask.sent (goes_so i t starts) refl

    asks : AsksOf closed told_of (example_hosts count) behind_it (placed_at i t starts) serves
    unfolding serves
    asks = ((ask_so request named).1, M.stands.asks)

    sent_is : sent_by made ≡ sent_by D.3.3.went.made
    sent_is =
        ap sent_by read.0.are ∙ sent_append D.3.3.went.first ((D.3.3.went.made ++ []) ++ read.0.anew)
        ∙ ap (λ z. z ++ sent_by ((D.3.3.went.made ++ []) ++ read.0.anew))
        (none_sent D.3.3.went.first (record_on_disk its_step.entry its_step.landed n.journal D.3.3.went.first its_doing.refused read.0.record_is))
        ∙ ap sent_by (ap (λ z. (D.3.3.went.made ++ []) ++ z) read.1 ∙ append-nil (D.3.3.went.made ++ []) ∙ append-nil D.3.3.went.made)

    letters : AreLetters posts (posts_in (sent_by D.3.3.went.made))
    letters =
        L.calls.one_letters D.3.3.leaving D.3.3.went.made posts (leaving_called (step n.book (events.Local request) now D.3.3.landed).outs D.3.3.leaving D.3.3.are) is_ask.sent

    mails_are : AreMailsOf behind_it.posted more
    mails_are =
        subst (AreMailsOf behind_it.posted) (sym (posted ∙ ap (λ cs. mails ++ mails_in i count cs) sent_is))
        (mails_join M.stands.net.posted (posts_from (example_hosts count) i posts) mails (mails_in i count (sent_by D.3.3.went.made)) M.stands.letters
        (letters_last L.tell L.bases L.closes L.nets L.crashes L.calls L.images count few i M.stands.net.posted posts (sent_by D.3.3.went.made) letters
        (L.closes count behind_it (placed_at i t starts) (small L.tell L.bases L.closes L.nets L.crashes L.calls L.images count few) serves asks).posted))

    starts_so : StartsWith (fates_of is_ask.fated) fates
    starts_so = subst (λ fs. StartsWith fs fates) fates_are asked.fates_are

    ends_so : IsBeyond until (length (fates_of is_ask.fated))
    ends_so = subst (λ fs. IsBeyond until (length fs)) fates_are asked.beyond

    done_mirrors : Mirrors count (put_nth i g hosts) clocks more (world_step w (Ask i request fates until))
    done_mirrors =
        at_rest
        (remirror count hosts clocks mails more w M i h g here c there.node.clock time there.node there.known (Ask i request fates until) behind_it (placed_at i t starts) serves asks old_place
        (record { node = Some (seen m); records = old_place.records ++ recorded_so }) (M.stands.holds i h here).here refl (sym (ap (option_map seen) node)) serving_node
        (placed_this i t starts ∙ sym site) (λ j f. placed_other i t starts j f ∙ placed_other i s M.stands.sites j f) mails_are
        (λ x e. ap (λ (z : Node). z.journal.limit) (sym (same_some m x (sym node ∙ e))) ∙ D.3.3.went.limit ∙ M.limits i h n here up)
        (is_ask.leads fates until starts_so ends_so) (λ down. absurd (still_up down)))

    done_effects : EffectsAgree → HasEffects w (Ask i request fates until) m
    done_effects agree =
        D.3.3.went.effects
        ∙ agree.asked (example_hosts count) M.stands.net w i old_place there.node (seen n) request its_step its_doing is_ask.fated there.is_at is_ask.planned is_ask.fared fates until starts_so ends_so

    pub done_stays : IsStayed (answers.Done id)
    done_stays = (done_mirrors, sym (refused_there ∙ D.1), done_effects)

-- so it is of one that was taken
pub asked_stays : (L : NetLaws) (K : TurnLaws) (requests : RequestsAreEvents) (ask_so : ExamplesAskSo) (count : ℕ) (hosts : List Host) (clocks : List ℕ) (mails more : List Mail) (w : World) (i c : ℕ) (h g : Host)
    (n : Node) (request : Local) (old : MemSite) (fates : List Bool) (until : Option ℕ) → count ≤ 8 → Mirrors count hosts clocks mails w → 1 ≤ i → nth i hosts ≡ Some h → h.node ≡ Some n → nth i clocks ≡ Some c
    → IsExampleRequest request → IsSet c h.site old → (T : TookRequest i count request n old g mails more fates until) → T.came ≡ cames.Stays
    → Mirrors count (put_nth i g hosts) clocks more (world_step w (Ask i request fates until)) × RefusesAlike w i request T.answer × (EffectsAgree → HasEffects w (Ask i request fates until) T.node)
asked_stays L K requests ask_so count hosts clocks mails more w i c h g n request old fates until few M least here up time named set T stays =
    by T.answer (subst (λ z. AnswersSo z T.answer) stays T.ends) T.requests.asked T.requests.nothing
  where
    before : IsBefore h old
    before = record { opening = set.opening; calls = set.calls }

    left : LeftSo cames.Stays T.node old T.site g
    left = subst (λ z. LeftSo z T.node old T.site g) stays T.left

    comes : AreAsked 0 T.made fates until
    comes = subst (λ z. ComesTo z 0 T.made fates until) stays T.comes

    posted : more ≡ mails ++ mails_in i count (sent_by T.made)
    posted = T.posted ∙ ap (λ ms. mails ++ mails_in i count (sent_by ms)) (ap (λ z. take (kept_of z T.made) T.made) stays ∙ take_all T.made)

    by : (a : Locally) → AnswersSo cames.Stays a → Asked a (seen n) (seen T.node) request (told_of old) (told_of T.site) → ((why : Refusal) → a ≡ answers.Refused why → T.site ≡ old)
        → Mirrors count (put_nth i g hosts) clocks more (world_step w (Ask i request fates until)) × RefusesAlike w i request a × (EffectsAgree → HasEffects w (Ask i request fates until) T.node)
    by (answers.Done id) so asked nothing =
        done_stays L K requests ask_so count few hosts clocks mails more w M i least h g n here up c time old before set.clock request named T.node T.site left.0 left.1 T.requests.serving T.made T.adds fates until comes
        posted T.room id
        (subst (λ z. Asked (answers.Done id) (seen n) (seen T.node) request (told_of z) (told_of T.site)) (sym (at_this L count few hosts clocks mails more w M i h g n here up c time old before)) asked)
    by (answers.Refused why) so asked nothing =
        refused_stays L K requests ask_so count few hosts clocks mails more w M i least h g n here up c time old before set.clock request named T.node T.site left.0 left.1 T.requests.serving T.made T.adds fates until
        comes posted why asked.1 asked.2 (nothing why refl)
    by answers.NoRoom so asked nothing = absurd so
    by answers.Halted so asked nothing = absurd so
