-- What a turn of these steps did in which its node went down.
use Rattle.std.specs.Prelude.{ℕ, List, [], ◌∷◌, ◌++◌, ◌≡◌, ◌⊎◌, Bool, true, false, Some, drop, length, map}
use Rattle.std.proofs.Common.{ap, inl, inr, refl, subst, sym, ◌∙◌}
use Rattle.std.proofs.lemmas.List.{append-nil}
use Rattle.at_base.specs.declared.record.Record.{Record}
use Rattle.at_model.specs.Book.{Book}
use Rattle.at_model.specs.Step.{Outcome, items_of}
use Rattle.at_model.specs.World.{Hosts, Input, Node, Turn, World, WorldEvent, node_of, nth}
use Rattle.fated_walks.specs.Fated.{AreCut, AreFirstDue, Fated, IsPlanned, StartsWith, all_fates, book_of, fates_of, record_fates, taken_of}
use Rattle.fated_walks.specs.WalksByFates.{WalksByFates}
use Rattle.interposition.specs.Due.{due_outcomes}
use Rattle.node_at.specs.Doings.{book_behind}
use Rattle.node_at.specs.Meanings.{Meaning}
use Rattle.node_at.specs.State.{State}
use Rattle.node_at.specs.TurnText.{TurnStep}
use Rattle.node_events.specs.CallEffects.{effects_in}
use Rattle.node_events.specs.NodeEvents.{IsAt, front_by}
use Rattle.node_events.proofs.GivenSteps.{alike_effects}
use Rattle.node_events.proofs.HaltEvents.{none_due}
use Rattle.node_events.proofs.HeardInputs.{Heard, heard}
use Rattle.node_events.proofs.OwnFates.{not_absent, own_fate, stands_counted, starts_itself}
use Rattle.node_events.proofs.PlannedSteps.{ComesTo, IsStepOf, comes_planned, counts_as, fated_by, planned_by, same_records}
use Rattle.node_events.proofs.Rows.{none_there}
use Rattle.node_events.proofs.TurnEvents.{turn_moves}
use Rattle.node_events.proofs.WalkedSteps.{AreAlike, book_up, gone_down, walked}
use Rattle.node_worlds.specs.Nets.{Net, Place}
use Rattle.world_laws.specs.Moves.{ChangesByMoves, Move, ended, later_at, losses_of, lost_of, luck_of, move_of, moved_by, moved_in, numbered, seen, steps_of}
use Rattle.world_laws.specs.Walks.{begin, turned}
use Rattle.world_laws.specs.declared.step_outs.Moved.{Moved}
use Rattle.told_stops.specs.ToldStops.{HaltsTell, HaveCome, Tells, UnbegunTell}

alike_book : (b : Book) (ss : List TurnStep) (fs : List Fated) → AreAlike ss fs → book_of b fs ≡ book_behind b ss
alike_book b [] [] h = refl
alike_book b [] (f ∷ fs) h = absurd h
alike_book b (s ∷ ss) [] h = absurd h
alike_book b (s ∷ ss) (f ∷ fs) (h, more) = alike_book f.outcome.book ss fs more ∙ ap (λ z. book_behind z ss) h.behind

have_come : (ss : List TurnStep) (fs : List Fated) → AreAlike ss fs → HaveCome ss fs
have_come [] [] h = tt
have_come [] (f ∷ fs) h = absurd h
have_come (s ∷ ss) [] h = absurd h
have_come (s ∷ ss) (f ∷ fs) (h, more) = (h.came, have_come ss fs more)

moved_so : (w : World) (e : WorldEvent) (x : Node) → nth (node_of e) w.nodes ≡ Some x → (m : Move) → move_of e w.posted x ≡ m → moved_in (seen w) e ≡ m.moved
unfolding moved_in
moved_so w e x here m is = ap (moved_by e w.posted) here ∙ ap (λ (z : Move). z.moved) is

-- a node that walked through these steps, and went down
pub gone_tells : ChangesByMoves → (w : World) (e : WorldEvent) (x y : Node) (n : State) → nth (node_of e) w.nodes ≡ Some x → (left fates : List Bool) (ss : List TurnStep) (fs : List Fated)
    → (fs ≡ []) ⊎ (AreCut fs × (all_fates fs ≡ fates)) → move_of e w.posted x ≡ gone_down y (walked n.book x left (Some 0) fs) → AreAlike ss fs → Tells w e n ss fates
gone_tells moves w e x y n here left fates ss fs cut is like = record {
  fated = fs;
  cut = cut;
  came = have_come ss fs like;
  steps = gave;
  losses = lost;
  effects = (λ j. effects_in (gave j) ++ lost j) ∙ ap (λ z. z ++ lost_of (book_behind n.book ss)) (alike_effects (length w.posted) ss fs like);
}
  where
    moved : moved_in (seen w) e ≡ (gone_down y (walked n.book x left (Some 0) fs)).moved
    moved = moved_so w e x here (gone_down y (walked n.book x left (Some 0) fs)) is

    gave : steps_of w e ≡ numbered (length w.posted) (map taken_of fs)
    gave = moves.told w e ∙ ap (λ (z : Moved). numbered (length w.posted) z.taken) moved

    lost : losses_of w e ≡ lost_of (book_behind n.book ss)
    lost = ap (λ (z : Moved). z.lost) moved ∙ ap lost_of (alike_book n.book ss fs like)

module _ (walks : WalksByFates) (moves : ChangesByMoves) (hosts : Hosts) (net : Net) (w : World) (i : ℕ) (p : Place) (x : Node) (n : State) (at : IsAt hosts net w i p x n) (input : Input) (meaning : Meaning)
    (now : ℕ) (h : Heard w i x n.book input meaning now) where
  -- up to a stop
  pub cut_tells : (first : Fated) (rest : List Fated) (left : List Outcome) (all : List Bool) (k : ℕ) (ss : List TurnStep) → IsPlanned h.begun first → AreFirstDue now first.outcome.book left rest
      → AreCut (first ∷ rest) → all_fates (first ∷ rest) ≡ all → length all ≡ k → first.landed ≡ true → AreAlike ss (first ∷ rest) → Tells w (Turn i input all (Some k)) n ss all
  cut_tells first rest left all k ss planned due is_cut fates count landed like =
      gone_tells moves w (Turn i input all (Some k)) x (later_at now x) n at.node (drop (length (all_fates (first ∷ rest))) all) all ss (first ∷ rest) (inr (is_cut, fates))
      (turn_moves w i x n.book input meaning now h (book_up hosts net w i p x n at) all (Some k) ∙ ap (ended (later_at now x)) cut) like
    where
      begins : StartsWith (all_fates (first ∷ rest)) all
      begins = subst (StartsWith (all_fates (first ∷ rest))) fates (starts_itself (all_fates (first ∷ rest)))

      cut : turned now h.begun (begin n.book x.journal (luck_of all (Some k))) ≡ walked n.book x (drop (length (all_fates (first ∷ rest))) all) (Some 0) (first ∷ rest)
      cut =
          ap (λ m. turned now h.begun (begin n.book x.journal (luck_of all (Some m)))) (sym count ∙ ap length (sym fates))
          ∙ walks.cut now h.begun n.book x.journal first rest left all planned due is_cut begins (λ t. not_absent first.landed landed t.1)

  -- at the record of the first step
  pub halt_tells : (s : TurnStep) (entry : Record) (stands : Bool) → IsStepOf h.begun s → s.entry ≡ Some entry → s.landed ≡ true → Tells w (Turn i input (stands ∷ []) (Some 1)) n (front_by stands s) (stands ∷ [])
  halt_tells s entry true is e landed =
      cut_tells first [] (due_outcomes now (items_of first.outcome.book) first.outcome.book) (true ∷ []) 1 (s ∷ []) (planned_by h.begun s [] is) (none_due now first)
      (record { rest = first.outcome.outs; all = refl }, λ f. none_there true [] (sym fates ∙ f)) (append-nil (fates_of first) ∙ fates) refl (stands_counted s entry e landed)
      (record { records = same_records s.entry s.landed; behind = sym comes.behind; came = sym comes.came }, tt)
    where
      first : Fated
      first = fated_by s h.begun []

      comes : ComesTo first.outcome s
      comes = comes_planned h.begun s is

      fates : fates_of first ≡ true ∷ []
      fates = append-nil (record_fates s.entry (counts_as s.entry s.landed)) ∙ own_fate s entry e landed
  halt_tells s entry false is e landed =
      gone_tells moves w (Turn i input (false ∷ []) (Some 1)) x (later_at now x) n at.node [] (false ∷ []) [] [] (inl refl)
      (turn_moves w i x n.book input meaning now h (book_up hosts net w i p x n at) (false ∷ []) (Some 1) ∙ ap (ended (later_at now x)) undone) tt
    where
      undone : turned now h.begun (begin n.book x.journal (luck_of (false ∷ []) (Some 1))) ≡ walked n.book x [] (Some 0) []
      undone =
          walks.undone now h.begun n.book x.journal entry (false ∷ []) (sym is.entry ∙ e) refl
          ∙ (λ j. record { book = n.book; journal = sym (append-nil x.journal) j; luck = luck_of [] (Some 0); taken = [] })

  -- before the first step
  none_tells : Tells w (Turn i input [] (Some 0)) n [] []
  none_tells =
      gone_tells moves w (Turn i input [] (Some 0)) x (later_at now x) n at.node [] [] [] [] (inl refl)
      (turn_moves w i x n.book input meaning now h (book_up hosts net w i p x n at) [] (Some 0) ∙ ap (ended (later_at now x)) unbegun) tt
    where
      unbegun : turned now h.begun (begin n.book x.journal (luck_of [] (Some 0))) ≡ walked n.book x [] (Some 0) []
      unbegun = walks.unbegun now h.begun n.book x.journal [] ∙ (λ j. record { book = n.book; journal = sym (append-nil x.journal) j; luck = luck_of [] (Some 0); taken = [] })

pub halts_tell : WalksByFates → ChangesByMoves → HaltsTell
halts_tell walks moves hosts net w i p x n input meaning now status step entry stands at is first e landed =
    let h = heard w i x n.book input meaning now is in
    halt_tells walks moves hosts net w i p x n at input meaning now h step entry stands (h.first step status first) e landed

pub unbegun_tell : WalksByFates → ChangesByMoves → UnbegunTell
unbegun_tell walks moves hosts net w i p x n input meaning now at is = none_tells walks moves hosts net w i p x n at input meaning now (heard w i x n.book input meaning now is)
