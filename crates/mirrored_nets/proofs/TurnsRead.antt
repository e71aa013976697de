-- What the calls of a whole turn of a node of a net say of its event.
use Rattle.std.specs.Prelude.{ℕ, List, [], ◌∷◌, ◌+◌, ◌-◌, ◌≡◌, ◌⊎◌, Some, None, Bool, true, false, if◌then◌else◌, drop, length, nat_eq}
use Rattle.std.specs.List.{AllByRecursion}
use Rattle.std.proofs.Common.{arith, refl, sym, ap, subst, ◌∙◌, inl}
use Rattle.addressed_posts.specs.AddressedPosts.{PostsAreAddressed}
use Rattle.at_base.specs.declared.event.Arrived.{Arrived}
use Rattle.at_base.specs.declared.outs.Post.{Post}
use Rattle.at_model.specs.Book.{Book}
use Rattle.at_model.specs.Step.{Plan}
use Rattle.at_model.specs.World.{Deliver, Hosts, Input, Node as Known, Posted, Raw, Tick, World, answer_plan, arrival_plan, decoded, is_receiver, nth}
use Rattle.deliverables.specs.Deliverables.{deliverable}
use Rattle.deliveries.proofs.HeardForms.{heard as is_arrived}
use Rattle.deliveries.proofs.TurnForms.{Fits}
use Rattle.deliveries.specs.DeliverableNets.{IsPostedOf}
use Rattle.endpoints.specs.Addresses.{PathsNameTargets}
use Rattle.fated_walks.specs.Fated.{Fated, all_fates}
use Rattle.journal_at.specs.StandingBodies.{Keeps}
use Rattle.journal_at.specs.declared.journal.Journal.{Journal}
use Rattle.memory_net.proofs.Standing.{same_some}
use Rattle.model_laws.specs.Laws.{StepsKeepPlace}
use Rattle.node_at.specs.Doings.{Doing, Ran, lost_of}
use Rattle.node_at.specs.Meanings.{Meaning}
use Rattle.node_at.specs.Replies.{StepsReply}
use Rattle.node_at.specs.Sends.{Counts}
use Rattle.node_at.specs.State.{State}
use Rattle.node_at.specs.TurnText.{Steppings, TurnStep}
use Rattle.node_at.specs.Turns.{calm, line_of, unsaid_in}
use Rattle.node_events.proofs.HeardInputs.{heard}
use Rattle.node_events.specs.Fares.{AreFared}
use Rattle.node_events.specs.NodeEvents.{Brings, IsInput, IsTurn, arrives, draws}
use Rattle.node_worlds.specs.Nets.{Net, Place}
use Rattle.provenance.specs.Forms.{HaveOwn, IsArrived}
use Rattle.provenance.specs.Provenance.{StepsPassOn}
use Rattle.record_bytes.specs.Versions.{AreBodies as RecordsAreBodies}
use Rattle.site_memory.specs.Sites.{told_of}
use Rattle.site_memory.specs.declared.machine.MemSite.{MemSite}
use Rattle.site_model.specs.Told.{Made}
use Rattle.world_laws.specs.Firsts.{delivery_plan, input_plan}
use Rattle.mirrored_nets.specs.Fates.{AllDone, anew_of, fates_in}
use Rattle.mirrored_nets.specs.Took.{Adds, HasRoom, IsTriedLine}
use Rattle.mirrored_nets.proofs.AnewCalls.{GoesAnew}
use Rattle.mirrored_nets.proofs.CalledFates.{IsAnswering, IsCalled, all_called, answer_answering, answer_called, arrived_answering, arrived_called, planned_answers, tick_answering, tick_called}
use Rattle.mirrored_nets.proofs.CallsRead.{Read, fates_read}
use Rattle.mirrored_nets.proofs.LeavingCalls.{AskedSteps, asked_steps}
use Rattle.mirrored_nets.proofs.ToldFares.{HaveCalls}
use Rattle.mirrored_nets.proofs.TriedLines.{line_sendings, line_unsaid}
use Rattle.mirrored_nets.proofs.WholeTurns.{whole_read}

-- Steps that answer, the calls that they made behind those of a line, and how they fared: each out has its call.
pub record StepsRead (j : Journal) (line made : List Made) (steps : List TurnStep) (doings : List Doing) (fated : List Fated) : Type 0 where
  pub s : TurnStep
  pub ss : List TurnStep
  pub d : Doing
  pub ds : List Doing
  pub f : Fated
  pub fs : List Fated
  pub steps_are : steps ≡ s ∷ ss
  pub doings_are : doings ≡ d ∷ ds
  pub fated_are : fated ≡ f ∷ fs
  pub fared : AreFared (s ∷ ss) (d ∷ ds) (f ∷ fs)
  pub read : Read j line made s ss d ds
  pub have : AllByRecursion HaveCalls (f ∷ fs)
  pub answered : (f.outcome.outs ≡ [] → ⊥) ⊎ (read.anew ≡ [])

-- their fates are those of the calls
pub steps_fates : (j : Journal) (line made : List Made) (steps : List TurnStep) (doings : List Doing) (fated : List Fated) (r : StepsRead j line made steps doings fated)
    → AllDone (anew_of (drop (length line) made)) → fates_in (drop (length line) made) ≡ all_fates fated
steps_fates j line made steps doings fated r none =
    fates_read j line made r.s r.ss r.d r.ds r.read r.f r.fs r.fared r.have r.answered none ∙ ap all_fates (sym r.fated_are)

posted_at : (P : Posted → Type 0) (k : ℕ) (ps : List Posted) (p : Posted) → AllByRecursion P ps → nth k ps ≡ Some p → P p
posted_at P k [] p h e = absurd cc
posted_at P k (q ∷ ps) p (h, more) e = by (λ f. posted_at P (k - 1) ps p more f) (nat_eq k 1) e
  where
    by : (nth (k - 1) ps ≡ Some p → P p) → (t : Bool) → (if t then Some q else nth (k - 1) ps) ≡ Some p → P p
    by later true f = subst P (same_some q p f) h
    by later false f = later f

module _ (addressed : PostsAreAddressed) (reply : StepsReply) (pass : StepsPassOn deliverable) (place : StepsKeepPlace) (paths : PathsNameTargets) (law : RecordsAreBodies) (root : List ℕ)
    (own : HaveOwn deliverable root) where
  -- the plan of what is heard
  record Begins (p : Plan) : Type 0 where
    called : IsCalled addressed reply pass place root own p
    answers : IsAnswering p

  arrival_begins : (b : Book) (now : ℕ) (base : List ℕ) (p : Post) (meaning : Meaning) → Fits deliverable root b → ((a : Arrived) → decoded base p ≡ Some a → IsArrived deliverable a)
      → Brings base p meaning → Begins (arrival_plan b now (decoded base p))
  arrival_begins b now base p _ fits fit (arrives a e) =
      subst (λ o. Begins (arrival_plan b now o)) (sym e)
      (record { called = arrived_called addressed reply pass place root own b a now fits (fit a e); answers = arrived_answering reply b a now })
  arrival_begins b now base p _ fits fit (draws text e) =
      subst (λ o. Begins (arrival_plan b now o)) (sym e)
      (record { called = answer_called addressed reply pass place root own b 500 fits refl; answers = answer_answering b 500 })

  received_plan : (b : Bool) (p q : Plan) → (if b then Some p else None) ≡ Some q → p ≡ q
  received_plan true p q e = same_some p q e
  received_plan false p q e = absurd cc

  begins : (hosts : Hosts) (w : World) (i : ℕ) (x : Known) (b : Book) (input : Input) (meaning : Meaning) (now : ℕ) (begun : Plan) → Fits deliverable root b
      → AllByRecursion (IsPostedOf deliverable hosts) w.posted → IsInput w i x input meaning now → input_plan i input w.posted x (Some b) ≡ Some begun → Begins begun
  begins hosts w i x b (Deliver k) meaning now begun fits fit (p, found, to, brings, same) e =
      subst Begins
      (received_plan (is_receiver i p.receiver) (arrival_plan b x.clock (decoded x.base p.content)) begun (sym (ap (λ o. delivery_plan i o x (Some b)) found) ∙ e))
      (arrival_begins b x.clock x.base p.content meaning fits
      (λ a f. is_arrived deliverable paths p.content x.base a (posted_at (IsPostedOf deliverable hosts) k w.posted p fit found).content f) brings)
  begins hosts w i x b (Tick ms) meaning now begun fits fit h e =
      subst Begins (same_some _ begun e)
      (record { called = tick_called addressed reply pass place root own b (x.clock + ms) fits; answers = tick_answering reply b (x.clock + ms) })
  begins hosts w i x b Raw meaning now begun fits fit h e =
      subst Begins (same_some (answer_plan b 400) begun e)
      (record { called = answer_called addressed reply pass place root own b 400 fits refl; answers = answer_answering b 400 })

  -- a whole turn
  module _ (hosts : Hosts) (net : Net) (w : World) (i : ℕ) (p : Place) (x : Known) (n node m : State) (input : Input) (meaning : Meaning) (now status : ℕ) (steps : List TurnStep) (doings : List Doing)
      (old c behind site : MemSite) (made line : List Made) (bodies : List (List ℕ)) (lines : ℕ) where
    pub turn_read : Fits deliverable root n.book → AllByRecursion (IsPostedOf deliverable hosts) w.posted → IsInput w i x input meaning now → (T : IsTurn hosts net w i p x n m input now steps doings)
        → Steppings now n.book [] meaning steps status → c ≡ record old { line = c.line } → HasRoom old → Keeps n.journal bodies (told_of c) → n.journal.limit ≡ 4294967295
        → Ran (line_of line) steps doings (calm n) node (told_of c) (told_of behind) → GoesAnew node m behind site → Adds made old site → IsTriedLine lines line
        → Counts (unsaid_in line + lost_of doings) (told_of c).counts.link (told_of behind).counts.link
        → StepsRead n.journal line made steps doings T.fated
    turn_read fits fit is T turns others has keeps limit ran anew adds tried counted =
        by doings refl (asked_steps now n.book meaning steps status (heard w i x n.book input meaning now is).told turns)
      where
        plan_begins : Begins T.are.begun
        plan_begins = begins hosts w i x n.book input meaning now T.are.begun fits fit is T.are.is

        by : (ds : List Doing) → doings ≡ ds → AskedSteps now n.book meaning steps status → StepsRead n.journal line made steps doings T.fated
        by [] e a = absurd (subst (λ z. AreFared z [] T.fated) a.all (subst (λ z. AreFared steps z T.fated) e T.fared))
        by (d ∷ ds) e a =
            let fared : AreFared (a.first ∷ a.rest) (d ∷ ds) (T.are.first ∷ T.are.rest) =
            subst (λ z. AreFared (a.first ∷ a.rest) (d ∷ ds) z) T.are.all (subst (λ z. AreFared z (d ∷ ds) T.fated) a.all (subst (λ z. AreFared steps z T.fated) e T.fared)) in
            let runs : Ran (line_of line) (a.first ∷ a.rest) (d ∷ ds) (calm n) node (told_of c) (told_of behind) =
            subst (λ z. Ran (line_of line) z (d ∷ ds) (calm n) node (told_of c) (told_of behind)) a.all (subst (λ z. Ran (line_of line) steps z (calm n) node (told_of c) (told_of behind)) e ran) in
            record {
              s = a.first;
              ss = a.rest;
              d = d;
              ds = ds;
              f = T.are.first;
              fs = T.are.rest;
              steps_are = a.all;
              doings_are = e;
              fated_are = T.are.all;
              fared = fared;
              read = whole_read law (calm n) node m old c behind site made line bodies a.first a.rest d ds others has keeps limit runs anew adds (line_sendings lines line tried)
                  (λ below. let k = counted below in let same = line_unsaid lines line tried in let all = ap lost_of e in omega (arith, k, same, all)) a.outs a.unrecorded;
              have = all_called addressed reply pass place root own now T.are.begun T.are.first T.are.rest plan_begins.called T.are.planned T.are.due;
              answered = inl (planned_answers T.are.begun T.are.first plan_begins.answers T.are.planned);
            }
