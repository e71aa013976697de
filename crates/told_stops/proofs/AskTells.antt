-- What a request did at one of whose calls its node stops.
use Rattle.std.specs.Prelude.{ℕ, List, [], ◌∷◌, ◌++◌, ◌+◌, ◌-◌, ◌<◌, ◌≡◌, Bool, true, false, Option, Some, None, if◌then◌else◌, length, map, nat_lt, take, zero, suc, refl, drop}
use Rattle.std.specs.List.{AllByRecursion}
use Rattle.std.proofs.Common.{sym, subst, ap, arith, inl, inr, true≢false, ◌∙◌}
use Rattle.std.proofs.lemmas.Bool.{lt-ltb}
use Rattle.std.proofs.lemmas.List.{append-nil, length-map}
use Rattle.at_base.specs.declared.event.Event.TheVariants as events
use Rattle.at_base.specs.declared.event.Local.{Local}
use Rattle.at_base.specs.declared.record.Record.{Record}
use Rattle.at_model.specs.Step.{Plan, plan}
use Rattle.at_model.specs.World.{Ask, Hosts, Node, World}
use Rattle.fated_walks.specs.Fated.{AllLeft, AreCut, Fated, HasLeft, IsPart, IsPlanned, StartsWith, Way, all_fates, fates_of, out_of, posts_of, stands_by, went_of}
use Rattle.fated_walks.specs.WalksByFates.{WalksByFates}
use Rattle.node_at.specs.Doings.{Doing}
use Rattle.node_at.specs.State.{State}
use Rattle.node_at.specs.Steps.{if_landed}
use Rattle.node_at.specs.Texts.{call_by}
use Rattle.node_at.specs.TurnText.{IsStep, TurnStep}
use Rattle.node_worlds.specs.Nets.{Net, Place}
use Rattle.node_worlds.specs.SentPosts.{Sent, recorded, records_by}
use Rattle.site_model.specs.Told.{done}
use Rattle.world_laws.specs.Moves.{ChangesByMoves, luck_of}
use Rattle.world_laws.specs.Walks.{begin, stepped}
use Rattle.node_events.specs.Fares.{IsFared, way_of}
use Rattle.node_events.specs.NodeEvents.{IsAt, front_by, one_if, records_if, struck}
use Rattle.node_events.proofs.LeavingOuts.{AllAlike, all_leave}
use Rattle.node_events.proofs.PlannedSteps.{comes_fated, outcome_by, step_of}
use Rattle.node_events.proofs.RequestCuts.{all_made, cut_at, cut_fates, cut_front, cut_sent, starts_itself, struck_length, struck_some}
use Rattle.node_events.proofs.RequestEvents.{cut_leads, moved, undone_leads}
use Rattle.node_events.proofs.WalkedSteps.{walked}
use Rattle.told_stops.specs.ToldStops.{RequestsTell, Tells, TellsStruck}
use Rattle.told_stops.proofs.CutTells.{gone_tells}

-- up to a stop, or at a record
module _ (walks : WalksByFates) (moves : ChangesByMoves) (hosts : Hosts) (net : Net) (w : World) (i : ℕ) (p : Place) (x : Node) (n : State) (l : Local) (at : IsAt hosts net w i p x n) where
  abbrev its_plan : Plan
  its_plan = plan n.book (events.Local l) x.clock

  ask_tells : (step : TurnStep) (f : Fated) (before : ℕ) (last : Bool) → IsPlanned its_plan f → f.landed ≡ true → IsPart f → fates_of f ≡ struck before last → f.outcome.book ≡ step.behind
      → f.outcome.effects ≡ step.came → stands_by f.entry f.landed ≡ records_by (if_landed step.landed step.entry)
      → Tells w (Ask i l (struck before last) (Some (before + 1))) n (step ∷ []) (struck before last)
  ask_tells step f before last planned landed part fates behind came records =
      gone_tells moves w (Ask i l (struck before last) (Some (before + 1))) x x n at.node (drop (length (all_fates (f ∷ []))) (struck before last)) (struck before last) (step ∷ []) (f ∷ [])
      (inr (is_cut, append-nil (fates_of f) ∙ fates))
      (moved walks moves hosts net w i p x n l at (struck before last) (Some (before + 1)) (walked n.book x (drop (length (all_fates (f ∷ []))) (struck before last)) (Some 0) (f ∷ [])) walk)
      (record { records = records; behind = behind; came = came }, tt)
    where
      is_cut : AreCut (f ∷ [])
      is_cut = (part, λ e. struck_some before last (sym fates ∙ e))

      starts : StartsWith (fates_of f) (struck before last)
      starts = subst (λ z. StartsWith z (struck before last)) (sym fates) (starts_itself (struck before last))

      not_both : (b : Bool) → b ≡ true → b ≡ false → ⊥
      not_both b e g = true≢false (sym e ∙ g)

      walk : stepped its_plan (begin n.book x.journal (luck_of (struck before last) (Some (before + 1)))) ≡ walked n.book x (drop (length (all_fates (f ∷ []))) (struck before last)) (Some 0) (f ∷ [])
      walk =
          ap (λ k. stepped its_plan (begin n.book x.journal (luck_of (struck before last) (Some k)))) (sym (ap length (append-nil (fates_of f) ∙ fates) ∙ struck_length before last))
          ∙ walks.cut_step its_plan n.book x.journal f (struck before last) planned is_cut starts (λ (none, absent, ways). not_both f.landed landed absent)

  undone_tells : (entry : Record) → its_plan.entry ≡ Some entry → Tells w (Ask i l (false ∷ []) (Some 1)) n [] (false ∷ [])
  undone_tells entry e =
      gone_tells moves w (Ask i l (false ∷ []) (Some 1)) x x n at.node [] (false ∷ []) [] [] (inl refl)
      (moved walks moves hosts net w i p x n l at (false ∷ []) (Some 1) (walked n.book x [] (Some 0) [])
      (walks.undone_step its_plan n.book x.journal entry (false ∷ []) e refl
      ∙ (λ j. record { book = n.book; journal = sym (append-nil x.journal) j; luck = luck_of [] (Some 0); taken = [] }))) tt

  halted_tells : (step : TurnStep) (entry : Record) (stood : Bool) → IsStep n.book (events.Local l) x.clock step → step.entry ≡ Some entry → step.landed ≡ true
      → Tells w (Ask i l (stood ∷ []) (Some 1)) n (front_by stood step) (stood ∷ [])
  halted_tells step entry false is e landed = undone_tells entry (sym is.entry ∙ e)
  halted_tells step entry true is e landed =
      ask_tells step (record { entry = Some entry; landed = true; outcome = its_plan.landed; ways = [] }) 0 true
      (record { entry = sym e ∙ is.entry; sure = λ k. refl; outcome = refl }) refl (record { rest = its_plan.landed.outs; all = refl }) refl
      (ap (λ c. (outcome_by its_plan c).book) (sym landed) ∙ sym is.outcome.behind) (ap (λ c. (outcome_by its_plan c).effects) (sym landed) ∙ sym is.outcome.came)
      (λ j. records_by (if_landed (sym landed j) (sym e j)))

one_entry : (o : Option Record) (landed : Bool) (rs : List Record) → landed ≡ true → stands_by o landed ≡ rs → stands_by o true ≡ rs
one_entry o landed rs e f = ap (stands_by o) (sym e) ∙ f

if_none : (b : Bool) (rs : List Record) → rs ≡ [] → rs ≡ records_if b rs
if_none true rs e = refl
if_none false rs e = e

module _ (walks : WalksByFates) (moves : ChangesByMoves) (hosts : Hosts) (net : Net) (w : World) (i : ℕ) (p : Place) (x : Node) (n : State) (l : Local) (at : IsAt hosts net w i p x n)
    (step : TurnStep) (doing : Doing) (f : Fated) (is : IsStep n.book (events.Local l) x.clock step) (planned : IsPlanned (plan n.book (events.Local l) x.clock) f) (fared : IsFared step doing f) (left : AllLeft (f ∷ [])) where
  abbrev begun : Plan
  begun = plan n.book (events.Local l) x.clock

  abbrev Struck : ℕ → Bool → Type 0
  Struck before last = TellsStruck hosts net w i p n (Ask i l (struck before last) (Some (before + 1))) x.clock before last (step ∷ []) (doing ∷ [])

  landed : f.landed ≡ true
  landed = left.0.0

  all_left : AllByRecursion HasLeft f.ways
  all_left = left.0.1

  -- each out left by its call, and all calls were done
  made : (doing.made ≡ map done (map call_by step.leaving)) × (length f.outcome.outs ≡ length step.leaving)
  made =
      let (e, g) = all_made fared.fares (subst (AllByRecursion HasLeft) fared.ways all_left) in (
        sym fared.made ∙ e ∙ ap (map done) fared.calls,
        ap length (sym fared.whole ∙ ap (map out_of) fared.ways) ∙ length-map (map way_of fared.fares) out_of ∙ length-map fared.fares way_of ∙ sym g ∙ ap length fared.calls
            ∙ length-map step.leaving call_by,
      )

  alike : AllAlike (map out_of f.ways) step.leaving
  alike =
      subst (λ os. AllAlike os step.leaving) (sym fared.whole)
      (all_leave (comes_fated begun step f (step_of n.book (events.Local l) x.clock step is) planned fared.records).leaves made.1)

  -- the step with these of its outs
  abbrev cut : Option Record → List Way → Fated
  cut entry ways = record { entry = entry; landed = true; outcome = f.outcome; ways = ways }

  cut_planned : (entry : Option Record) (ways : List Way) → f.entry ≡ entry → IsPlanned begun (cut entry ways)
  cut_planned entry ways e = record {
    entry = sym e ∙ planned.entry;
    sure = λ k. refl;
    outcome = planned.outcome ∙ ap (λ (c : Bool). if c then begun.landed else begun.absent) landed;
  }

  -- so much of it was done
  struck_step : (entry : Option Record) (ways : List Way) (before : ℕ) (last : Bool) (m : ℕ) → f.entry ≡ entry → IsPart (cut entry ways) → fates_of (cut entry ways) ≡ struck before last
      → recorded (step ∷ []) ≡ records_if (nat_lt 0 (before + one_if last)) (recorded (step ∷ [])) → m ≡ before + one_if last - length (recorded (step ∷ []))
      → Sent step.leaving (take m doing.made) (posts_of ways) → Struck before last
  struck_step entry ways before last m e part fates records count sent = record {
    is = record {
      front = step ∷ [];
      rest = [];
      of = refl;
      records = records;
      made = record doing { made = take m doing.made } ∷ [];
      kept = append-nil (take m doing.made) ∙ (λ j. take (count j) (sym (append-nil doing.made) j));
      posts = posts_of ways;
      sent = (posts_of ways, [], sent, refl, sym (append-nil (posts_of ways)));
      leads = cut_leads walks moves hosts net w i p x n l at step (cut entry ways) before last (cut_planned entry ways e) refl part fates fared.behind fared.came
          (one_entry entry f.landed (records_by (if_landed step.landed step.entry)) landed (ap (λ o. stands_by o f.landed) (sym e) ∙ fared.records));
    };
    tells = ask_tells walks moves hosts net w i p x n l at step (cut entry ways) before last (cut_planned entry ways e) refl part fates fared.behind fared.came
        (one_entry entry f.landed (records_by (if_landed step.landed step.entry)) landed (ap (λ o. stands_by o f.landed) (sym e) ∙ fared.records));
  }

  recorded_by : (entry : Option Record) → f.entry ≡ entry → recorded (step ∷ []) ≡ stands_by entry true
  recorded_by entry e = append-nil (records_by (if_landed step.landed step.entry)) ∙ sym fared.records ∙ (λ j. stands_by (e j) (landed j))

  -- where it stops at an out
  cut_part : (entry : Option Record) (k : ℕ) (last : Bool) → IsPart (cut entry (cut_at f.ways k last))
  cut_part entry k last = let (rest, e) = cut_front k last f.ways in record { rest = rest; all = e ∙ fared.whole }

  cut_step_sent : (k m : ℕ) (last : Bool) → m ≡ k + one_if last → Sent step.leaving (take m doing.made) (posts_of (cut_at f.ways k last))
  cut_step_sent k m last e = cut_sent k m last f.ways step.leaving doing.made alike all_left made.0 e

  by_record : (r : Record) (before : ℕ) (last : Bool) → f.entry ≡ Some r → before < suc (length f.ways) → Struck before last
  by_record r zero false e less =
      let one = ap length (recorded_by (Some r) e) in
      let none : 0 ≡ 0 - length (recorded (step ∷ [])) = omega (arith, one) in
      record {
        is = record {
          front = [];
          rest = step ∷ [];
          of = refl;
          records = refl;
          made = [];
          kept = ap (λ k. take k (doing.made ++ [])) none;
          posts = [];
          sent = refl;
          leads = undone_leads walks moves hosts net w i p x n l at r (sym planned.entry ∙ e);
        };
        tells = undone_tells walks moves hosts net w i p x n l at r (sym planned.entry ∙ e);
      }
  by_record r zero true e less =
      let one = ap length (recorded_by (Some r) e) in
      struck_step (Some r) [] 0 true 0 e (record { rest = f.outcome.outs; all = refl }) refl refl (omega (arith, one)) (record { went = []; some = tt; calls = refl; posts = refl })
  by_record r (suc k) last e less =
      let one = ap length (recorded_by (Some r) e) in
      struck_step (Some r) (cut_at f.ways k last) (suc k) last (k + one_if last) e (cut_part (Some r) k last) (ap (λ z. true ∷ z) (cut_fates k last f.ways all_left (omega (arith, less))))
      (ap (λ c. records_if c (recorded (step ∷ []))) (sym (lt-ltb 0 (suc k + one_if last) (omega arith)))) (omega (arith, one)) (cut_step_sent k (k + one_if last) last refl)

  by_entry : (entry : Option Record) (before : ℕ) (last : Bool) → f.entry ≡ entry → before < length (fates_of f) → Struck before last
  by_entry None before last e less =
      let none = recorded_by None e in
      let count = ap length none in
      let fewer : before < length f.ways = subst (λ k. before < k) (ap (λ o. length (fates_of (record f { entry = o }))) e ∙ length-map f.ways went_of) less in
      struck_step None (cut_at f.ways before last) before last (before + one_if last) e (cut_part None before last) (cut_fates before last f.ways all_left fewer)
      (if_none (nat_lt 0 (before + one_if last)) (recorded (step ∷ [])) none) (omega (arith, count)) (cut_step_sent before (before + one_if last) last refl)
  by_entry (Some r) before last e less =
      by_record r before last e (subst (λ k. before < k) (ap (λ o. length (fates_of (record f { entry = o }))) e ∙ ap suc (length-map f.ways went_of)) less)

  pub struck_asks : (before : ℕ) (last : Bool) → before < length (fates_of f) → Struck before last
  struck_asks before last less = by_entry f.entry before last refl less

pub requests_tell : WalksByFates → ChangesByMoves → RequestsTell
requests_tell walks moves = record {
  stopped = λ hosts net w i p x n l step doing f at is planned fared left before last less. struck_asks walks moves hosts net w i p x n l at step doing f is planned fared left before last less;
  halted = λ hosts net w i p x n l step entry stood at is e landed. halted_tells walks moves hosts net w i p x n l at step entry stood is e landed;
}
