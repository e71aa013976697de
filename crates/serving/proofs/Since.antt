-- The lines and turns of a node that serves are calls in a row.
use Rattle.std.proofs.Common.{ℕ, List, Bool, Option, Some, None, true, false, [], ◌∷◌, ◌++◌, ◌≡◌, if◌then◌else◌, refl, sym, ◌∙◌, ap, subst}
use Rattle.node_at.specs.Endings.{Ends, TakesTurn}
use Rattle.node_at.specs.State.{State}
use Rattle.node_at.specs.Turns.{Turns}
use Rattle.node_at.specs.declared.local.Locally.TheVariants as locally
use Rattle.node_at.specs.declared.role.Role.{Role}
use Rattle.node_at.specs.declared.shrink.Shrunk.{Shrunk}
use Rattle.node_at.specs.declared.turn.Turned.{Turned}
use Rattle.node_at.specs.declared.turn.Turned.TheVariants as turneds
use Rattle.node_worlds.specs.Acts.{Act, acts_for, acts_in}
use Rattle.node_worlds.specs.Lives.{Lives, StepsArePrefixed}
use Rattle.site_model.specs.Told.{Told}
use Rattle.serving.specs.declared.answer.Answer.{Answer}
use Rattle.serving.specs.declared.answer.Answer.TheVariants as answers
use Rattle.serving.specs.declared.service_end.Ended.{Ended}
use Rattle.serving.specs.declared.service_end.Ended.TheVariants as endings
use Rattle.serving.specs.declared.request.Request.{Request}
use Rattle.serving.specs.declared.request.Request.TheVariants as requests
use Rattle.serving.specs.Notes.{Item, Notes, noted}
use Rattle.serving.specs.Requests.{ended_by, request_of}
use Rattle.serving.specs.Runs.{Attends, Comes, Does, Row, all_lines}
use Rattle.serving.specs.Since.{ServesStepByStep}

-- A node goes on behind its steps.
steps_run : (first : Turned) (role : Role) (n m : State) (old new : Told) → Turns first role n m old new → (first ≡ turneds.Halted → ⊥) → n.halted ≡ false → m.halted ≡ false
steps_run (turneds.Served status) role n m old new t runs up = t.serves.works.0.ran.runs ∙ up
steps_run turneds.Ticked role n m old new t runs up = t.serves.works.0.ran.runs ∙ up
steps_run turneds.NoRoom role n m old new t runs up = t.serves.works.ran.runs ∙ up
steps_run turneds.Halted role n m old new t runs up = absurd (runs refl)
steps_run turneds.Closed role n m old new t runs up = ap (λ (z : State). z.halted) t.1.same ∙ up
steps_run turneds.LinkDown role n m old new t runs up = ap (λ (z : State). z.halted) t.1.same ∙ up

by_answer : (halted : Bool) (result turned : Turned) → result ≡ (if halted then turneds.Halted else turned) → (result ≡ turneds.Halted → ⊥) → halted ≡ false
by_answer true result turned e runs = absurd (runs e)
by_answer false result turned e runs = refl

none_ended : (o : Option Ended) (e : Ended) → o ≡ None → o ≡ Some e → ⊥
none_ended o e is h = absurd cc

module _ {S : Type 0} (told : S → Told) where
  ends_run : (first result : Turned) (shrunk : Shrunk) (n m : State) (old new : S) → Ends told first result shrunk n m old new → (result ≡ turneds.Halted → ⊥) → n.halted ≡ false → m.halted ≡ false
  ends_run (turneds.Served status) result shrunk n m old new e runs up = by_answer m.halted result (turneds.Served status) e.answers runs
  ends_run turneds.Ticked result shrunk n m old new e runs up = by_answer m.halted result turneds.Ticked e.answers runs
  ends_run turneds.NoRoom result shrunk n m old new e runs up = ap (λ (z : State). z.halted) e.node ∙ up
  ends_run turneds.Halted result shrunk n m old new e runs up = absurd (runs e.answers)
  ends_run turneds.Closed result shrunk n m old new e runs up = ap (λ (z : State). z.halted) e.node ∙ up
  ends_run turneds.LinkDown result shrunk n m old new e runs up = ap (λ (z : State). z.halted) e.node ∙ up

  not_first : (first result : Turned) (shrunk : Shrunk) (n m : State) (old new : S) → Ends told first result shrunk n m old new → (result ≡ turneds.Halted → ⊥) → first ≡ turneds.Halted → ⊥
  not_first first result shrunk n m old new ends runs e =
      let rested : Ends told turneds.Halted result shrunk n m old new = subst (λ f. Ends told f result shrunk n m old new) e ends in
      runs rested.answers

  turn_runs : (turned : Turned) (role : Role) (shrunk : Shrunk) (n m : State) (s t : S) → TakesTurn told turned role shrunk n m s t → (turned ≡ turneds.Halted → ⊥) → n.halted ≡ false → m.halted ≡ false
  turn_runs turned role shrunk n m s t turn runs up =
      ends_run turn.first turned shrunk turn.node m turn.behind t turn.ends runs
      (steps_run turn.first role n turn.node (told s) (told turn.behind) turn.steps (not_first turn.first turned shrunk turn.node m turn.behind t turn.ends runs) up)

  -- behind a line that serving doesn't end by a halt
  line_runs : (role : Role) (r : Request) (met : Bool) (answer : Answer) (n m : State) (s t : S) → Does told role r answer n m s t → (ended_by met answer ≡ Some endings.Halted → ⊥) → n.halted ≡ false → m.halted ≡ false
  line_runs role (requests.Local l) met (answers.Local (locally.Done id)) n m s t does runs up = does.0.asked.3.3.went.runs
  line_runs role (requests.Local l) met (answers.Local (locally.Refused why)) n m s t does runs up = ap (λ (z : State). z.halted) does.0.asked.2 ∙ up
  line_runs role (requests.Local l) met (answers.Local locally.NoRoom) n m s t does runs up = ap (λ (z : State). z.halted) does.0.asked.2 ∙ up
  line_runs role (requests.Local l) met (answers.Local locally.Halted) n m s t does runs up = absurd (runs refl)
  line_runs role (requests.Local l) met answers.Stale n m s t does runs up = absurd does
  line_runs role (requests.Local l) met (answers.Turn turned) n m s t does runs up = absurd does
  line_runs role requests.Stale met (answers.Local answer) n m s t does runs up = absurd does
  line_runs role requests.Stale met answers.Stale n m s t does runs up = ap (λ (z : State). z.halted) does.0 ∙ up
  line_runs role requests.Stale met (answers.Turn turned) n m s t does runs up = absurd does
  line_runs role requests.Wait met (answers.Local answer) n m s t does runs up = absurd does
  line_runs role requests.Wait met answers.Stale n m s t does runs up = absurd does
  line_runs role requests.Wait met (answers.Turn turned) n m s t does runs up = turn_runs turned role does.2.0 n m does.0 t does.2.1 (λ e. runs (ap (λ z. ended_by met (answers.Turn z)) e)) up

  -- what calls in a row did
  abbrev Lived : State → S → State → S → Type 0
  Lived n s m t = (acts : List Act) × Lives told n s acts m t

  line_lives : (role : Role) (r : Request) (answer : Answer) (n k m : State) (s t u : S) → Lived n s k t → k.halted ≡ false → Does told role r answer k m t u → Lived n s m u
  line_lives role (requests.Local l) (answers.Local answer) n k m s t u lived runs does =
      (lived.0 ++ acts_for answer k m l (told t) (told u) does.0.asked, Lives.asked lived.0 k t answer l lived.1 runs does.0 refl)
  line_lives role (requests.Local l) answers.Stale n k m s t u lived runs does = absurd does
  line_lives role (requests.Local l) (answers.Turn turned) n k m s t u lived runs does = absurd does
  line_lives role requests.Stale (answers.Local answer) n k m s t u lived runs does = absurd does
  line_lives role requests.Stale answers.Stale n k m s t u lived runs does = subst (λ z. Lived n s m z) (sym does.1) (subst (λ z. Lived n s z t) (sym does.0) lived)
  line_lives role requests.Stale (answers.Turn turned) n k m s t u lived runs does = absurd does
  line_lives role requests.Wait (answers.Local answer) n k m s t u lived runs does = absurd does
  line_lives role requests.Wait answers.Stale n k m s t u lived runs does = absurd does
  line_lives role requests.Wait (answers.Turn turned) n k m s t u lived runs does =
      let turn = does.2.1 in (
        lived.0 ++ acts_in turn.first role k turn.node (told does.0) (told turn.behind) turn.steps,
        Lives.turned lived.0 k does.0 turned role does.2.0 (Lives.waits t lived.1 does.1.still) runs turn refl,
      )

  module _ (role : Role) (n : State) (s : S) (up : n.halted ≡ false) where
    row_lives : (all rest : List Item) (notes : Notes) (text : List ℕ) (m : State) (t : S) → Row told role all n s rest notes text m t → Lived n s m t × (m.halted ≡ false)
    row_lives all rest notes text m t Row.none = (([], Lives.begins refl refl refl), up)
    row_lives all rest notes text m t (Row.more {rest = those} {notes = before} {text = said} {m = k} {t = u} item answer node site row does is) =
        let (lived, runs) = row_lives all (item ∷ those) before said k u row in (
          line_lives role (request_of before item) answer n k node s u site lived runs does,
          line_runs role (request_of before item) (noted before item answer node.effects).met answer k node u site does
              (none_ended (ended_by (noted before item answer node.effects).met answer) endings.Halted is) runs,
        )

    attends_lives : (all : List Item) (new : S) (text : List ℕ) (ended : Option Ended) → Attends told role all n s new text ended
        → (m : State) × Lived n s m new × ((ended ≡ Some endings.Halted → ⊥) → m.halted ≡ false)
    attends_lives all new text ended (Attends.some {m = m} {notes = notes} {text = said} item rest row) =
        let (lived, runs) = row_lives all (item ∷ rest) notes said m new row in (m, lived, λ no_halt. runs)
    attends_lives all new text ended (Attends.whole {m = m} {notes = notes} {text = said} row) =
        let (lived, runs) = row_lives all [] notes said m new row in (m, lived, λ no_halt. runs)
    attends_lives all new text ended (Attends.last {m = m} {t = t} {notes = notes} {text = said} {ended = how} item rest answer k row does is) =
        let (lived, runs) = row_lives all (item ∷ rest) notes said m t row in (
          k,
          line_lives role (request_of notes item) answer n m k s t new lived runs does,
          λ no_halt. line_runs role (request_of notes item) (noted notes item answer k.effects).met answer m k t new does (λ h. no_halt (sym is ∙ h)) runs,
        )

  pub serves_step_by_step : StepsArePrefixed told → ServesStepByStep told
  serves_step_by_step prefixed v n old s new text ended up (Comes.comes {text = said} {ended = how} attends) =
      let (m, lived, runs) = attends_lives v.role n s up.starts.runs (all_lines v) new said how attends in
      record {
        acts = lived.0;
        node = m;
        lives = lived.1;
        did = prefixed v.base v.limit n m up.opened s new lived.0 up.starts lived.1;
        runs = runs;
      }
