-- What a request did of a node in a net that mirrors a world, in which the node went down.
use Rattle.std.specs.Prelude.{ℕ, List, [], ◌∷◌, ◌+◌, ◌≡◌, ◌≤◌, ◌<◌, ◌⊎◌, Bool, Option, Some, true, length}
use Rattle.std.proofs.Common.{ap, inl, inr, refl, subst, sym, true≢false, ◌∙◌}
use Rattle.std.proofs.lemmas.List.{append-nil}
use Rattle.at_base.specs.Numbers.{Numbers}
use Rattle.at_base.specs.declared.event.Event.TheVariants as events
use Rattle.at_base.specs.declared.event.Local.{Local}
use Rattle.at_model.specs.Step.{plan, step}
use Rattle.at_model.specs.World.{World, WorldEvent, Ask, example_hosts, nth}
use Rattle.completion_at.specs.declared.requests.Refusal.{Refusal}
use Rattle.fated_walks.specs.Fated.{AllLeft, fates_of}
use Rattle.memory_net.specs.Closed.{ExamplesAskSo, IsExampleRequest}
use Rattle.memory_net.specs.Mails.{Mail}
use Rattle.memory_net.specs.declared.host.Host.{Host}
use Rattle.node_at.specs.Doings.{came_of}
use Rattle.node_at.specs.Locals.{Asked, IsTime, cleared}
use Rattle.node_at.specs.State.{seen}
use Rattle.node_at.specs.Steps.{IsStopped}
use Rattle.node_at.specs.TurnText.{IsStep, TurnStep}
use Rattle.node_at.specs.declared.local.Locally.{Locally}
use Rattle.node_at.specs.declared.local.Locally.TheVariants as answers
use Rattle.node_at.specs.declared.node.Node.{Node}
use Rattle.node_events.specs.NodeEvents.{RequestsAreEvents, front_by, struck}
use Rattle.site_memory.specs.Sites.{told_of}
use Rattle.site_memory.specs.declared.arm.Choice.{Choice}
use Rattle.site_memory.specs.declared.machine.MemSite.{MemSite}
use Rattle.told_stops.specs.ToldStops.{RequestsTell, Tells, TellsStruck}
use Rattle.torn_appends.specs.TornAppends.{AppendsTorn}
use Rattle.world_laws.specs.Moves.{ChangesByMoves}
use Rattle.mirrored_nets.specs.Goings.{IsSet}
use Rattle.mirrored_nets.specs.Mirrors.{Mirrors}
use Rattle.mirrored_nets.specs.Took.{AnswersSo, ComesTo, HaltsSo, StopsBefore, StopsInStep, TookRequest}
use Rattle.mirrored_nets.specs.declared.came.Came.TheVariants as cames
use Rattle.mirrored_nets.proofs.FallenHosts.{InWorld, NetLaws}
use Rattle.mirrored_nets.proofs.FallenRequests.{before as before_of, comes, ends, from as from_of, halt_comes, halted as halted_of, is_ask as is_ask_of, is_now as is_now_of, is_up_there, its_doing as its_doing_of, its_step as its_step_of, none_made, requests as requests_of, same_site as same_site_of, steps_read as steps_read_of, there as there_of}
use Rattle.mirrored_nets.proofs.StepsLeft.{fates_so, first_landed, left_so}
use Rattle.mirrored_nets.proofs.StoppedRequests.{no_stop}
use Rattle.mirrored_nets.proofs.StoppedFates.{is_fated}
use Rattle.mirrored_nets.proofs.TurnsTaken.{TurnLaws}
use Rattle.reading_laws.specs.GoneRequests.{AskedTell}
use Rattle.reading_laws.specs.GoneTurns.{TellsFallen, TellsHalted}
use Rattle.reading_laws.proofs.GoneTurns.{came_join}

-- the laws that this stands on
pub record AskedLaws : Type 0 where
  pub torn : AppendsTorn
  pub asks : RequestsAreEvents
  pub ask_so : ExamplesAskSo
  pub moves : ChangesByMoves
  pub tell : RequestsTell

module _ (w : World) (i : ℕ) (request : Local) (n : Node) (front : List TurnStep) where
  as_read : (given fates : List Bool) (stop until : Option ℕ) → fates ≡ given → until ≡ stop → Tells w (Ask i request given stop) (seen n) front given → Tells w (Ask i request fates until) (seen n) front fates
  as_read given fates stop until is at tells =
      subst (λ u. Tells w (Ask i request fates u) (seen n) front fates) (sym at) (subst (λ fs. Tells w (Ask i request fs stop) (seen n) front fs) (sym is) tells)

module _ (L : NetLaws) (K : TurnLaws) (G : AskedLaws) (count : ℕ) (hosts : List Host) (clocks : List ℕ) (mails more : List Mail) (w : World) (i c : ℕ) (h g : Host) (n : Node) (request : Local)
    (old : MemSite) (fates : List Bool) (until : Option ℕ) (few : count ≤ 8) (M : Mirrors count hosts clocks mails w) (least : 1 ≤ i) (here : nth i hosts ≡ Some h) (up : h.node ≡ Some n)
    (time : nth i clocks ≡ Some c) (named : IsExampleRequest request) (set : IsSet c h.site old) (T : TookRequest i count request n old g mails more fates until) where
  abbrev there : InWorld L count few hosts clocks mails more w M i h g n here up c time old (before_of L K G.torn G.asks G.ask_so count hosts clocks mails more w i c h g n request old fates until few M least here up time named set T)
  there = there_of L K G.torn G.asks G.ask_so count hosts clocks mails more w i c h g n request old fates until few M least here up time named set T

  abbrev from : MemSite
  from = from_of L K G.torn G.asks G.ask_so count hosts clocks mails more w i c h g n request old fates until few M least here up time named set T

  abbrev event : WorldEvent
  event = Ask i request fates until

  -- at a stop
  module _ (kept : ℕ) (choice : Choice) (came : T.came ≡ cames.Falls kept choice) (later : until ≡ Some 0 → ⊥) where
    its : ComesTo (cames.Falls kept choice) 0 T.made fates until
    its = comes L K G.torn G.asks G.ask_so count hosts clocks mails more w i c h g n request old fates until few M least here up time named set T G.moves kept choice came

    module _ (id : Numbers) (D : Asked (answers.Done id) (seen n) (seen T.node) request (told_of from) (told_of T.site)) (S : StopsInStep 0 T.made choice fates until kept) where
      left : AllLeft ((is_ask_of L K G.torn G.asks G.ask_so count hosts clocks mails more w i c h g n request old fates until few M least here up time named set T id D).fated ∷ [])
      left =
          left_so n.journal 0 [] T.made (its_step_of L K G.torn G.asks G.ask_so count hosts clocks mails more w i c h g n request old fates until few M least here up time named set T id D ∷ []) (its_doing_of L K G.torn G.asks G.ask_so count hosts clocks mails more w i c h g n request old fates until few M least here up time named set T id D ∷ []) ((is_ask_of L K G.torn G.asks G.ask_so count hosts clocks mails more w i c h g n request old fates until few M least here up time named set T id D).fated ∷ []) (steps_read_of L K G.torn G.asks G.ask_so count hosts clocks mails more w i c h g n request old fates until few M least here up time named set T id D) its.0 (inl (refl, refl))
          (first_landed n.journal 0 [] T.made (its_step_of L K G.torn G.asks G.ask_so count hosts clocks mails more w i c h g n request old fates until few M least here up time named set T id D ∷ []) (its_doing_of L K G.torn G.asks G.ask_so count hosts clocks mails more w i c h g n request old fates until few M least here up time named set T id D ∷ []) ((is_ask_of L K G.torn G.asks G.ask_so count hosts clocks mails more w i c h g n request old fates until few M least here up time named set T id D).fated ∷ []) (steps_read_of L K G.torn G.asks G.ask_so count hosts clocks mails more w i c h g n request old fates until few M least here up time named set T id D) its.0 (inl (refl, refl)) (is_ask_of L K G.torn G.asks G.ask_so count hosts clocks mails more w i c h g n request old fates until few M least here up time named set T id D).planned.sure, tt)

      less : S.before < length (fates_of (is_ask_of L K G.torn G.asks G.ask_so count hosts clocks mails more w i c h g n request old fates until few M least here up time named set T id D).fated)
      less =
          subst (λ k. S.before < k)
          (fates_so n.journal 0 [] T.made (its_step_of L K G.torn G.asks G.ask_so count hosts clocks mails more w i c h g n request old fates until few M least here up time named set T id D ∷ []) (its_doing_of L K G.torn G.asks G.ask_so count hosts clocks mails more w i c h g n request old fates until few M least here up time named set T id D ∷ []) ((is_ask_of L K G.torn G.asks G.ask_so count hosts clocks mails more w i c h g n request old fates until few M least here up time named set T id D).fated ∷ []) (steps_read_of L K G.torn G.asks G.ask_so count hosts clocks mails more w i c h g n request old fates until few M least here up time named set T id D) its.0 (inl (refl, refl))
          ∙ ap length (append-nil (fates_of (is_ask_of L K G.torn G.asks G.ask_so count hosts clocks mails more w i c h g n request old fates until few M least here up time named set T id D).fated)))
          (is_fated 0 T.made choice S.before S.last kept S.is_kept)

      told : TellsStruck (example_hosts count) M.stands.net w i (M.stands.holds i h here).place (seen n) (Ask i request (struck S.before S.last) (Some (S.before + 1))) there.node.clock S.before S.last
          (its_step_of L K G.torn G.asks G.ask_so count hosts clocks mails more w i c h g n request old fates until few M least here up time named set T id D ∷ []) (its_doing_of L K G.torn G.asks G.ask_so count hosts clocks mails more w i c h g n request old fates until few M least here up time named set T id D ∷ [])
      told =
          G.tell.stopped (example_hosts count) M.stands.net w i (M.stands.holds i h here).place there.node (seen n) request (its_step_of L K G.torn G.asks G.ask_so count hosts clocks mails more w i c h g n request old fates until few M least here up time named set T id D) (its_doing_of L K G.torn G.asks G.ask_so count hosts clocks mails more w i c h g n request old fates until few M least here up time named set T id D) (is_ask_of L K G.torn G.asks G.ask_so count hosts clocks mails more w i c h g n request old fates until few M least here up time named set T id D).fated there.is_at
          (is_now_of L K G.torn G.asks G.ask_so count hosts clocks mails more w i c h g n request old fates until few M least here up time named set T id D) (is_ask_of L K G.torn G.asks G.ask_so count hosts clocks mails more w i c h g n request old fates until few M least here up time named set T id D).planned (is_ask_of L K G.torn G.asks G.ask_so count hosts clocks mails more w i c h g n request old fates until few M least here up time named set T id D).fared left S.before S.last less

      in_step : TellsFallen w event n T.node fates
      in_step = record {
        front = told.is.front;
        rest = told.is.rest;
        gave = D.3.3.went.effects ∙ sym (append-nil _) ∙ ap came_of told.is.of ∙ came_join told.is.front told.is.rest;
        tells = as_read w i request n told.is.front (struck S.before S.last) fates (Some (S.before + 1)) until S.fates_are S.until_is told.tells;
      }

    falls_tell : TellsFallen w event n T.node fates
    falls_tell = by T.answer (ends L K G.torn G.asks G.ask_so count hosts clocks mails more w i c h g n request old fates until few M least here up time named set T G.moves kept choice came) (requests_of L K G.torn G.asks G.ask_so count hosts clocks mails more w i c h g n request old fates until few M least here up time named set T).asked T.requests.nothing its.1
      where
        by : (a : Locally) → AnswersSo (cames.Falls kept choice) a → Asked a (seen n) (seen T.node) request (told_of from) (told_of T.site) → ((why : Refusal) → a ≡ answers.Refused why → T.site ≡ old)
            → StopsInStep 0 T.made choice fates until kept ⊎ StopsBefore 0 fates until kept → TellsFallen w event n T.node fates
        by a so asked nothing (inr B) = absurd (later B.until_is)
        by (answers.Done id) so asked nothing (inl S) = in_step id asked S
        by (answers.Refused why) so asked nothing (inl S) =
            absurd (no_stop choice fates until kept (subst (λ ms. StopsInStep 0 ms choice fates until kept) (none_made L K G.torn G.asks G.ask_so count hosts clocks mails more w i c h g n request old fates until few M least here up time named set T G.moves kept choice came (nothing why refl)) S))
        by answers.NoRoom so asked nothing (inl S) = absurd so
        by answers.Halted so asked nothing (inl S) = absurd so

  -- where it halted
  module _ (came : T.came ≡ cames.Halts) where
    halts_so : HaltsSo 0 T.made fates until
    halts_so = halt_comes L K G.torn G.asks G.ask_so count hosts clocks mails more w i c h g n request old fates until few M least here up time named set T came

    module _ (now : ℕ) (at : IsTime now (told_of from)) (S : IsStopped (cleared (seen n)) (seen T.node) (events.Local request) now (told_of from) (told_of T.site)) where
      abbrev begun : TurnStep
      begun = record {
        entry = (plan n.book (events.Local request) now).entry;
        landed = true;
        leaving = S.leaving;
        behind = (step n.book (events.Local request) now true).book;
        came = (step n.book (events.Local request) now true).effects;
      }

      is_now : IsStep n.book (events.Local request) there.node.clock begun
      is_now =
          subst (λ k. IsStep n.book (events.Local request) k begun) (at from.clock refl ∙ ap (λ (z : MemSite). z.clock) (same_site_of L K G.torn G.asks G.ask_so count hosts clocks mails more w i c h g n request old fates until few M least here up time named set T) ∙ set.clock ∙ sym there.clock)
          (record { entry = refl; outcome = record { leaving = S.are; behind = refl; came = refl } })

      stopped_tell : TellsHalted w event n fates
      stopped_tell = record {
        step = begun;
        entry = S.entry;
        records = S.is;
        stands = halts_so.stands;
        tells = as_read w i request n (front_by halts_so.stands begun) (halts_so.stands ∷ []) fates (Some 1) until halts_so.fates_are halts_so.until_is
            (G.tell.halted (example_hosts count) M.stands.net w i (M.stands.holds i h here).place there.node (seen n) request begun S.entry halts_so.stands there.is_at is_now S.is refl);
      }

    halted_tell : TellsHalted w event n fates
    halted_tell = by (subst (λ a. Asked a (seen n) (seen T.node) request (told_of from) (told_of T.site)) (halted_of L K G.torn G.asks G.ask_so count hosts clocks mails more w i c h g n request old fates until few M least here up time named set T came) (requests_of L K G.torn G.asks G.ask_so count hosts clocks mails more w i c h g n request old fates until few M least here up time named set T).asked)
      where
        by : Asked answers.Halted (seen n) (seen T.node) request (told_of from) (told_of T.site) → TellsHalted w event n fates
        by (inl (off, same)) = absurd (true≢false (sym off ∙ (is_up_there L K G.torn G.asks G.ask_so count hosts clocks mails more w i c h g n request old fates until few M least here up time named set T).runs))
        by (inr (going, taken, (now, at, stopped))) = stopped_tell now at stopped

pub asked_tell : NetLaws → TurnLaws → AskedLaws → AskedTell
asked_tell L K G = record {
  fallen = λ count hosts clocks mails more w i c h g n request old fates until few M least here up time named set T kept choice came later.
      falls_tell L K G count hosts clocks mails more w i c h g n request old fates until few M least here up time named set T kept choice came later;
  halted = λ count hosts clocks mails more w i c h g n request old fates until few M least here up time named set T came.
      halted_tell L K G count hosts clocks mails more w i c h g n request old fates until few M least here up time named set T came;
}
