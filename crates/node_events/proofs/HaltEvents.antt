-- A turn that is cut off, or that halts, is an event.
use Rattle.std.specs.Prelude.{ℕ, List, [], ◌∷◌, ◌≡◌, Bool, true, false, Some, drop, length, refl}
use Rattle.std.proofs.Common.{sym, subst, ap, ◌∙◌}
use Rattle.std.proofs.lemmas.List.{append-nil, length-map}
use Rattle.at_base.specs.declared.record.Record.{Record}
use Rattle.at_model.specs.Step.{Outcome, items_of}
use Rattle.at_model.specs.World.{Hosts, Input, Node, Turn, World}
use Rattle.fated_walks.specs.Fated.{AreCut, AreFirstDue, Fated, IsPlanned, StartsWith, all_fates, all_posts, fates_of, record_fates, taken_of}
use Rattle.fated_walks.specs.WalksByFates.{WalksByFates}
use Rattle.interposition.specs.Due.{due_outcomes}
use Rattle.node_at.specs.Meanings.{Meaning}
use Rattle.node_at.specs.State.{State}
use Rattle.node_at.specs.TurnText.{TurnStep}
use Rattle.node_events.specs.NodeEvents.{HaltsAreEvents, IsAt, Leads, UnbegunAreEvents, front_by}
use Rattle.node_events.proofs.Acceptances.{planned_first}
use Rattle.node_events.proofs.HeardInputs.{Heard, heard}
use Rattle.node_events.proofs.OwnFates.{not_absent, own_fate, stands_counted, starts_itself}
use Rattle.node_events.proofs.PlannedSteps.{ComesTo, IsStepOf, comes_planned, counts_as, fated_by, planned_by, same_records}
use Rattle.node_events.proofs.Rows.{none_there}
use Rattle.node_events.proofs.TurnEvents.{turn_moves, turn_row}
use Rattle.node_events.proofs.WalkedSteps.{AreAlike, book_up, stop_leads, walked}
use Rattle.node_worlds.specs.Nets.{Net, Place, broken}
use Rattle.world_laws.specs.Moves.{ChangesByMoves, luck_of}
use Rattle.world_laws.specs.Walks.{begin, turned}

pub none_due : (now : ℕ) (f : Fated) → AreFirstDue now f.outcome.book (due_outcomes now (items_of f.outcome.book) f.outcome.book) []
none_due now f = record { done = []; are = tt; all = refl }

module _ (walks : WalksByFates) (moves : ChangesByMoves) (hosts : Hosts) (net : Net) (w : World) (i : ℕ) (p : Place) (x : Node) (n : State) (at : IsAt hosts net w i p x n) (input : Input) (meaning : Meaning)
    (now : ℕ) (h : Heard w i x n.book input meaning now) where
  -- up to a stop
  pub cut_leads : (first : Fated) (rest : List Fated) (left : List Outcome) (all : List Bool) (k : ℕ) (ss : List TurnStep) → IsPlanned h.begun first → AreFirstDue now first.outcome.book left rest
      → AreCut (first ∷ rest) → all_fates (first ∷ rest) ≡ all → length all ≡ k → first.landed ≡ true → AreAlike ss (first ∷ rest)
      → Leads hosts i now w (Turn i input all (Some k)) (broken hosts i net p n ss (all_posts (first ∷ rest)))
  cut_leads first rest left all k ss planned due is_cut fates count landed like =
      stop_leads moves hosts net w (Turn i input all (Some k)) p x n now at (turned now h.begun (begin n.book x.journal (luck_of all (Some k)))) (drop (length (all_fates (first ∷ rest))) all) ss (first ∷ rest)
      (turn_moves w i x n.book input meaning now h (book_up hosts net w i p x n at) all (Some k))
      cut like
      (turn_row moves hosts net w i p x n at input meaning now h all (Some k) (first ∷ rest) (walked n.book x (drop (length (all_fates (first ∷ rest))) all) (Some 0) (first ∷ rest)) cut
      (length-map (first ∷ rest) taken_of) (planned_first h.begun first rest all planned begins, (left, due)))
    where
      begins : StartsWith (all_fates (first ∷ rest)) all
      begins = subst (StartsWith (all_fates (first ∷ rest))) fates (starts_itself (all_fates (first ∷ rest)))

      cut : turned now h.begun (begin n.book x.journal (luck_of all (Some k))) ≡ walked n.book x (drop (length (all_fates (first ∷ rest))) all) (Some 0) (first ∷ rest)
      cut =
          ap (λ m. turned now h.begun (begin n.book x.journal (luck_of all (Some m)))) (sym count ∙ ap length (sym fates))
          ∙ walks.cut now h.begun n.book x.journal first rest left all planned due is_cut begins (λ t. not_absent first.landed landed t.1)

  -- at the record of the first step
  pub halt_leads : (s : TurnStep) (entry : Record) (stands : Bool) → IsStepOf h.begun s → s.entry ≡ Some entry → s.landed ≡ true
      → Leads hosts i now w (Turn i input (stands ∷ []) (Some 1)) (broken hosts i net p n (front_by stands s) [])
  halt_leads s entry true is e landed =
      cut_leads first [] (due_outcomes now (items_of first.outcome.book) first.outcome.book) (true ∷ []) 1 (s ∷ []) (planned_by h.begun s [] is) (none_due now first)
      (record { rest = first.outcome.outs; all = refl }, λ f. none_there true [] (sym fates ∙ f)) (append-nil (fates_of first) ∙ fates) refl (stands_counted s entry e landed)
      (record { records = same_records s.entry s.landed; behind = sym comes.behind; came = sym comes.came }, tt)
    where
      first : Fated
      first = fated_by s h.begun []

      comes : ComesTo first.outcome s
      comes = comes_planned h.begun s is

      fates : fates_of first ≡ true ∷ []
      fates = append-nil (record_fates s.entry (counts_as s.entry s.landed)) ∙ own_fate s entry e landed
  halt_leads s entry false is e landed =
      stop_leads moves hosts net w (Turn i input (false ∷ []) (Some 1)) p x n now at (turned now h.begun (begin n.book x.journal (luck_of (false ∷ []) (Some 1)))) [] [] []
      (turn_moves w i x n.book input meaning now h (book_up hosts net w i p x n at) (false ∷ []) (Some 1))
      undone tt (turn_row moves hosts net w i p x n at input meaning now h (false ∷ []) (Some 1) [] (walked n.book x [] (Some 0) []) undone refl tt)
    where
      undone : turned now h.begun (begin n.book x.journal (luck_of (false ∷ []) (Some 1))) ≡ walked n.book x [] (Some 0) []
      undone =
          walks.undone now h.begun n.book x.journal entry (false ∷ []) (sym is.entry ∙ e) refl
          ∙ (λ j. record { book = n.book; journal = sym (append-nil x.journal) j; luck = luck_of [] (Some 0); taken = [] })

  -- before the first step
  pub unbegun_leads : Leads hosts i now w (Turn i input [] (Some 0)) (broken hosts i net p n [] [])
  unbegun_leads =
      stop_leads moves hosts net w (Turn i input [] (Some 0)) p x n now at (turned now h.begun (begin n.book x.journal (luck_of [] (Some 0)))) [] [] []
      (turn_moves w i x n.book input meaning now h (book_up hosts net w i p x n at) [] (Some 0))
      unbegun tt (turn_row moves hosts net w i p x n at input meaning now h [] (Some 0) [] (walked n.book x [] (Some 0) []) unbegun refl tt)
    where
      unbegun : turned now h.begun (begin n.book x.journal (luck_of [] (Some 0))) ≡ walked n.book x [] (Some 0) []
      unbegun = walks.unbegun now h.begun n.book x.journal [] ∙ (λ j. record { book = n.book; journal = sym (append-nil x.journal) j; luck = luck_of [] (Some 0); taken = [] })

pub halts_are_events : WalksByFates → ChangesByMoves → HaltsAreEvents
halts_are_events walks moves hosts net w i p x n input meaning now status step entry stands at is first e landed =
    let h = heard w i x n.book input meaning now is in
    halt_leads walks moves hosts net w i p x n at input meaning now h step entry stands (h.first step status first) e landed

pub unbegun_are_events : WalksByFates → ChangesByMoves → UnbegunAreEvents
unbegun_are_events walks moves hosts net w i p x n input meaning now at is = unbegun_leads walks moves hosts net w i p x n at input meaning now (heard w i x n.book input meaning now is)
