-- What a turn did that is cut off at one of its calls, all of which were done before.
use Rattle.std.specs.Prelude.{ℕ, List, [], ◌∷◌, ◌++◌, ◌+◌, ◌-◌, ◌≡◌, ◌<◌, ◌≤◌, ◌⊎◌, Bool, true, false, Option, None, Some, length, nat_lt, replicate, take, zero, suc, refl}
use Rattle.std.proofs.Common.{inl, inr, ⊎_elim, sym, subst, ap, arith, ◌∙◌}
use Rattle.std.proofs.lemmas.List.{append-nil, append_assoc, length-append}
use Rattle.at_base.specs.declared.record.Record.{Record}
use Rattle.at_model.specs.Step.{Outcome, items_of}
use Rattle.at_model.specs.World.{Hosts, Input, Node, Turn, World}
use Rattle.fated_walks.specs.Fated.{AllLeft, AreFirstDue, AreUnrecorded, Fated, IsPlanned, all_fates, all_posts, fates_of, stands_by}
use Rattle.fated_walks.specs.WalksByFates.{WalksByFates}
use Rattle.interposition.specs.Due.{due_outcomes}
use Rattle.node_at.specs.Doings.{Doing}
use Rattle.node_at.specs.Meanings.{Meaning}
use Rattle.node_at.specs.State.{State}
use Rattle.node_at.specs.Steps.{if_landed}
use Rattle.node_at.specs.TurnText.{AreDue, DueSteps, IsFirst, Steppings, TurnStep}
use Rattle.node_at.specs.TurnText.Steppings.{asked, unasked}
use Rattle.node_events.specs.Fares.{AreFared, IsFared}
use Rattle.node_events.specs.NodeEvents.{AreStepsOf, IsAt, all_made, one_if, records_if, struck}
use Rattle.node_events.proofs.CutRows.{Struck, cut_first, cut_more, due_recorded, due_struck, takes_more, takes_within, yes_fates, yes_length}
use Rattle.node_events.proofs.CutSteps.{AreGone, gone_sent, sent_none, step_gone, struck_past}
use Rattle.node_events.proofs.HaltEvents.{cut_leads, halt_leads, none_due}
use Rattle.node_events.proofs.HeardInputs.{Heard, heard}
use Rattle.node_events.proofs.MovedWorlds.{same_some}
use Rattle.node_events.proofs.OwnFates.{OwnFates, all_records, comes_before, counted, no_own, one_own, stands_landed, struck_length}
use Rattle.node_events.proofs.PlannedSteps.{IsStepOf, comes_fated}
use Rattle.node_events.proofs.Rows.{within_or_past}
use Rattle.node_events.proofs.WalkedSteps.{fared_like}
use Rattle.node_worlds.specs.Nets.{Net, Place}
use Rattle.node_worlds.specs.SentPosts.{recorded, records_by}
use Rattle.world_laws.specs.Moves.{ChangesByMoves}
use Rattle.told_stops.specs.ToldStops.{StopsTell, TellsStruck}
use Rattle.told_stops.proofs.CutTells.{cut_tells, halt_tells}

module _ (walks : WalksByFates) (moves : ChangesByMoves) (hosts : Hosts) (net : Net) (w : World) (i : ℕ) (p : Place) (x : Node) (n : State) (at : IsAt hosts net w i p x n) (input : Input) (meaning : Meaning)
    (now : ℕ) (h : Heard w i x n.book input meaning now) (first : TurnStep) (rest : List TurnStep) (d : Doing) (ds : List Doing) (f : Fated) (fs : List Fated) (is : IsStepOf h.begun first)
    (planned : IsPlanned h.begun f) (fared : IsFared first d f) (gone : AreGone first.leaving f.ways d.made) (stands : f.landed ≡ true) (done : List Outcome)
    (due : AreDue done rest) (are : AreUnrecorded done fs) (others : AreFared rest ds fs) (left : AllLeft fs) (all : done ≡ due_outcomes now (items_of f.outcome.book) f.outcome.book) where
  abbrev StruckAt : ℕ → Bool → Type 0
  StruckAt before last = TellsStruck hosts net w i p n (Turn i input (struck before last) (Some (before + 1))) now before last (first ∷ rest) (d ∷ ds)

  abbrev own_records : List Record
  own_records = records_by (if_landed first.landed first.entry)

  record_count : (m : ℕ) → OwnFates first f m → length (recorded (first ∷ rest)) ≡ m
  record_count m own =
      let l = length-append own_records (recorded rest) in
      let c = own.count in
      let z = ap length (due_recorded done rest due) in
      omega (arith, l, c, z)

  same_front : (front : List TurnStep) → recorded front ≡ [] → recorded (first ∷ front) ≡ recorded (first ∷ rest)
  same_front front none = ap (λ z. own_records ++ z) (none ∙ sym (due_recorded done rest due))

  all_there : (m before e : ℕ) → OwnFates first f m → m ≤ before → recorded (first ∷ rest) ≡ records_if (nat_lt 0 (before + e)) (recorded (first ∷ rest))
  all_there m before e own within =
      all_records (recorded (first ∷ rest)) (nat_lt 0 (before + e)) (⊎_elim (λ z. inl (record_count m own ∙ z)) (λ b. inr b) (comes_before m (before + e) (omega (arith, within))))

  here_stops : (before m k : ℕ) (last : Bool) → OwnFates first f m → before ≡ m + k → k < length f.ways → StruckAt before last
  here_stops before m k last own e less =
      let c = cut_first first d f fared gone h.begun before m k last planned stands own.yes e less in
      record {
        is = record {
          front = first ∷ [];
          rest = rest;
          of = refl;
          records = same_front [] refl ∙ all_there m before (one_if last) own (omega (arith, e));
          made = record d { made = c.made } ∷ [];
          kept = ap (λ z. z ++ []) c.takes ∙ takes_within first d f fared gone k last (all_made ds) less
              ∙ ap (λ z. take z (d.made ++ all_made ds)) (counted m k (one_if last) before (length (recorded (first ∷ rest))) e (record_count m own));
          posts = all_posts (c.fated ∷ []);
          sent = (_, _, c.sent, refl, refl);
          leads = cut_leads walks moves hosts net w i p x n at input meaning now h c.fated [] (due_outcomes now (items_of c.fated.outcome.book) c.fated.outcome.book) (struck before last) (before + 1) (first ∷ [])
              c.planned (none_due now c.fated) c.is_cut (append-nil _ ∙ c.fates) (struck_length before last) c.landed (c.like, tt);
        };
        tells = cut_tells walks moves hosts net w i p x n at input meaning now h c.fated [] (due_outcomes now (items_of c.fated.outcome.book) c.fated.outcome.book) (struck before last) (before + 1) (first ∷ [])
            c.planned (none_due now c.fated) c.is_cut (append-nil _ ∙ c.fates) (struck_length before last) c.landed (c.like, tt);
      }

  past_stops : (before m k j : ℕ) (last : Bool) → OwnFates first f m → before ≡ m + k → k ≡ length f.ways + j → Struck done rest ds j last → StruckAt before last
  past_stops before m k j last own e g r = record {
    is = record {
      front = first ∷ r.front;
      rest = r.rest;
      of = ap (λ z. first ∷ z) r.of;
      records = same_front r.front r.none ∙ all_there m before (one_if last) own (omega (arith, e));
      made = d ∷ r.made;
      kept = ap (λ z. d.made ++ z) r.kept ∙ sym (takes_more first d f fared gone k (one_if last) j (all_made ds) g)
          ∙ ap (λ z. take z (d.made ++ all_made ds)) (counted m k (one_if last) before (length (recorded (first ∷ rest))) e (record_count m own));
      posts = all_posts (f ∷ r.cut);
      sent = (_, _, gone_sent first.leaving f.ways d.made gone, r.sent, refl);
      leads = cut_leads walks moves hosts net w i p x n at input meaning now h f r.cut r.left (struck before last) (before + 1) (first ∷ r.front) planned
          (record { done = r.begun; are = r.are; all = r.all ∙ all }) (cut_more f r.cut fared.whole r.is_cut) fates (struck_length before last) stands (fared_like first d f fared, r.like);
    };
    tells = cut_tells walks moves hosts net w i p x n at input meaning now h f r.cut r.left (struck before last) (before + 1) (first ∷ r.front) planned
        (record { done = r.begun; are = r.are; all = r.all ∙ all }) (cut_more f r.cut fared.whole r.is_cut) fates (struck_length before last) stands (fared_like first d f fared, r.like);
  }
    where
      fates : all_fates (f ∷ r.cut) ≡ struck before last
      fates =
          (λ a. yes_fates first d f fared gone m own.yes a ++ r.fates a) ∙ append_assoc (replicate m true) (replicate (length f.ways) true) (struck j last)
          ∙ ap (λ z. replicate m true ++ z) (struck_past (length f.ways) j last ∙ ap (λ a. struck a last) (sym g)) ∙ struck_past m k last ∙ ap (λ a. struck a last) (sym e)

  none_kept : (e : ℕ) → e ≤ 1 → OwnFates first f 1 → 0 ≡ 0 + e - length (recorded (first ∷ rest))
  none_kept e few own = let c = record_count 1 own in omega (arith, c, few)

  -- at the record itself
  own_stops : (r : Record) (last : Bool) → first.entry ≡ Some r → first.landed ≡ true → OwnFates first f 1 → StruckAt 0 last
  own_stops r true e landed own = record {
    is = record {
      front = first ∷ [];
      rest = rest;
      of = refl;
      records = same_front [] refl;
      made = record d { made = [] } ∷ [];
      kept = ap (λ z. take z (d.made ++ all_made ds)) (none_kept 1 (omega arith) own);
      posts = [];
      sent = ([], [], sent_none first.leaving, refl, refl);
      leads = halt_leads walks moves hosts net w i p x n at input meaning now h first r true is e landed;
    };
    tells = halt_tells walks moves hosts net w i p x n at input meaning now h first r true is e landed;
  }
  own_stops r false e landed own = record {
    is = record {
      front = [];
      rest = first ∷ rest;
      of = refl;
      records = refl;
      made = [];
      kept = ap (λ z. take z (d.made ++ all_made ds)) (none_kept 0 (omega arith) own);
      posts = [];
      sent = refl;
      leads = halt_leads walks moves hosts net w i p x n at input meaning now h first r false is e landed;
    };
    tells = halt_tells walks moves hosts net w i p x n at input meaning now h first r false is e landed;
  }

  placed_stops : (before m k : ℕ) (last : Bool) → OwnFates first f m → before ≡ m + k → before < length (all_fates (f ∷ fs)) → (k < length f.ways) ⊎ ((j : ℕ) × (k ≡ length f.ways + j)) → StruckAt before last
  placed_stops before m k last own e less (inl here) = here_stops before m k last own e here
  placed_stops before m k last own e less (inr (j, g)) =
      let l = length-append (fates_of f) (all_fates fs) in
      let y = yes_length first d f fared gone m own.yes in
      past_stops before m k j last own e g (due_struck last done rest ds fs due are others left j (omega (arith, less, l, y, e, g)))

  same_entry : f.entry ≡ first.entry
  same_entry = planned.entry ∙ sym is.entry

  first_landed : (r : Record) → first.entry ≡ Some r → first.landed ≡ true
  first_landed r e = stands_landed r first.landed ((λ j. stands_by (sym (same_entry ∙ e) j) (sym stands j)) ∙ fared.records ∙ ap (λ o. records_by (if_landed first.landed o)) e)

  pub stops_by : (o : Option Record) → first.entry ≡ o → (before : ℕ) (last : Bool) → before < length (all_fates (f ∷ fs)) → StruckAt before last
  stops_by None e before last less = placed_stops before 0 before last (no_own first f e same_entry) (omega arith) less (within_or_past (length f.ways) before)
  stops_by (Some r) e zero last less = own_stops r last e (first_landed r e) (one_own first f r e same_entry stands (first_landed r e))
  stops_by (Some r) e (suc k) last less = placed_stops (suc k) 1 k last (one_own first f r e same_entry stands (first_landed r e)) (omega arith) less (within_or_past (length f.ways) k)

module _ (walks : WalksByFates) (moves : ChangesByMoves) (hosts : Hosts) (net : Net) (w : World) (i : ℕ) (p : Place) (x : Node) (n : State) (at : IsAt hosts net w i p x n) (input : Input) (meaning : Meaning)
    (now : ℕ) (h : Heard w i x n.book input meaning now) where
  same_due : (f : Fated) (first : TurnStep) (rest : List TurnStep) (fs : List Fated) → f.outcome.book ≡ first.behind → (due : DueSteps now first.behind [] rest) (next : AreFirstDue now f.outcome.book [] fs)
      → next.done ≡ due.done
  same_due f first rest fs e due next = sym (append-nil next.done) ∙ next.all ∙ ap (λ z. due_outcomes now (items_of z) z) e ∙ sym due.all ∙ append-nil due.done

  asked_tell : (status : ℕ) (first : TurnStep) (rest : List TurnStep) (ds : List Doing) (f : Fated) (fs : List Fated) → IsFirst n.book now meaning first status → DueSteps now first.behind [] rest
      → IsPlanned h.begun f → AreFirstDue now f.outcome.book [] fs → AreFared (first ∷ rest) ds (f ∷ fs) → AllLeft (f ∷ fs) → (before : ℕ) (last : Bool) → before < length (all_fates (f ∷ fs))
      → TellsStruck hosts net w i p n (Turn i input (struck before last) (Some (before + 1))) now before last (first ∷ rest) ds
  asked_tell status first rest [] f fs is due planned next fared left before last less = absurd fared
  asked_tell status first rest (d ∷ ds) f fs is due planned next (fared, others) ((stands, gone), left) before last less =
      let step = h.first first status is in
      let same = same_due f first rest fs fared.behind due next in
      stops_by walks moves hosts net w i p x n at input meaning now h first rest d ds f fs step planned fared (step_gone first d f (comes_fated h.begun first f step planned fared.records) fared gone) stands due.done
      due.are (subst (λ z. AreUnrecorded z fs) same next.are) others left (sym (append-nil due.done) ∙ due.all ∙ ap (λ z. due_outcomes now (items_of z) z) (sym fared.behind)) first.entry refl before last less

stepped_tell : (walks : WalksByFates) (moves : ChangesByMoves) (hosts : Hosts) (net : Net) (w : World) (i : ℕ) (p : Place) (x : Node) (n : State) → IsAt hosts net w i p x n → (input : Input) (meaning : Meaning)
    (now : ℕ) → Heard w i x n.book input meaning now → (status : ℕ) (steps : List TurnStep) (ds : List Doing) (fated : List Fated) → Steppings now n.book [] meaning steps status
    → AreStepsOf w i x n.book input now fated → AreFared steps ds fated → AllLeft fated → (before : ℕ) (last : Bool) → before < length (all_fates fated)
    → TellsStruck hosts net w i p n (Turn i input (struck before last) (Some (before + 1))) now before last steps ds
stepped_tell walks moves hosts net w i p x n at input meaning now h status steps ds fated (unasked due) row fared left before last less = absurd (h.told refl)
stepped_tell walks moves hosts net w i p x n at input meaning now h status steps ds fated (asked first rest is due e) row fared left before last less =
    subst (λ ss. TellsStruck hosts net w i p n (Turn i input (struck before last) (Some (before + 1))) now before last ss ds) (sym e)
    (asked_tell walks moves hosts net w i p x n at input meaning now h status first rest ds row.first row.rest is due
    (subst (λ q. IsPlanned q row.first) (same_some row.begun h.begun (sym row.is ∙ h.is)) row.planned) row.due
    (subst (λ ss. AreFared ss ds (row.first ∷ row.rest)) e (subst (AreFared steps ds) row.all fared)) (subst AllLeft row.all left) before last (subst (λ z. before < length (all_fates z)) row.all less))

pub stops_tell : WalksByFates → ChangesByMoves → StopsTell
stops_tell walks moves hosts net w i p x n input meaning now status steps doings fated at is turns row fared left before last less =
    stepped_tell walks moves hosts net w i p x n at input meaning now (heard w i x n.book input meaning now is) status steps doings fated turns row fared left before last less
