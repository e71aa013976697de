-- A node that serves attaches nothing.
use Rattle.std.proofs.Common.{ℕ, List, [], ◌∷◌, Option, ◌≡◌, inl, inr, refl, ◌∙◌, ap, append-nil}
use Rattle.journal_at.specs.StandingBodies.{Counted}
use Rattle.node_at.specs.Endings.{Ends}
use Rattle.node_at.specs.State.{State}
use Rattle.node_at.specs.Turns.{Turns}
use Rattle.node_at.specs.declared.role.Role.{Role}
use Rattle.node_at.specs.declared.shrink.Shrunk.{Shrunk}
use Rattle.node_at.specs.declared.turn.Turned.{Turned}
use Rattle.node_at.specs.declared.turn.Turned.TheVariants as turneds
use Rattle.site_model.specs.Attachments.{Names}
use Rattle.site_model.specs.Site.{Counts}
use Rattle.site_model.specs.Told.{Told}
use Rattle.serving.specs.declared.answer.Answer.{Answer}
use Rattle.serving.specs.declared.answer.Answer.TheVariants as answers
use Rattle.serving.specs.declared.service_end.Ended.{Ended}
use Rattle.serving.specs.declared.request.Request.{Request}
use Rattle.serving.specs.declared.request.Request.TheVariants as requests
use Rattle.serving.specs.AttachedNames.{AttachesItsNames}
use Rattle.serving.specs.Notes.{Item, Notes}
use Rattle.serving.specs.Requests.{request_of}
use Rattle.serving.specs.Runs.{Attends, Comes, Course, Does, Row, all_lines}

abbrev attached : Told → List Names
attached told = told.counts.attached

counted_same : (old new : Told) → Counted old new → attached new ≡ attached old
counted_same old new h = ap (λ (z : Counts). z.attached) h.others

turn_same : (first : Turned) (role : Role) (n m : State) (old new : Told) → Turns first role n m old new → attached new ≡ attached old
turn_same (turneds.Served status) role n m old new t = t.serves.later.attached
turn_same turneds.Ticked role n m old new t = t.serves.later.attached
turn_same turneds.NoRoom role n m old new t = t.serves.later.attached
turn_same turneds.Halted role n m old new (inl (halted, rests)) = rests.attached
turn_same turneds.Halted role n m old new (inr (runs, opens)) = opens.serves.later.attached
turn_same turneds.Closed role n m old new t = t.1.attached
turn_same turneds.LinkDown role n m old new t = t.1.attached

module _ {S : Type 0} (told : S → Told) where
  abbrev attached_at : S → List Names
  attached_at s = attached (told s)

  ends_same : (first result : Turned) (shrunk : Shrunk) (n m : State) (old new : S) → Ends told first result shrunk n m old new → attached_at new ≡ attached_at old
  ends_same (turneds.Served status) result shrunk n m old new e = counted_same (told old) (told new) e.counted
  ends_same turneds.Ticked result shrunk n m old new e = counted_same (told old) (told new) e.counted
  ends_same turneds.NoRoom result shrunk n m old new e = ap attached_at e.site
  ends_same turneds.Halted result shrunk n m old new e = ap attached_at e.site
  ends_same turneds.Closed result shrunk n m old new e = ap attached_at e.site
  ends_same turneds.LinkDown result shrunk n m old new e = ap attached_at e.site

  does_same : (role : Role) (r : Request) (answer : Answer) (n m : State) (s t : S) → Does told role r answer n m s t → attached_at t ≡ attached_at s
  does_same role (requests.Local l) (answers.Local answer) n m s t does = ap (λ (z : Counts). z.attached) does.1.others
  does_same role (requests.Local l) answers.Stale n m s t does = absurd does
  does_same role (requests.Local l) (answers.Turn turned) n m s t does = absurd does
  does_same role requests.Stale (answers.Local answer) n m s t does = absurd does
  does_same role requests.Stale answers.Stale n m s t does = ap attached_at does.1
  does_same role requests.Stale (answers.Turn turned) n m s t does = absurd does
  does_same role requests.Wait (answers.Local answer) n m s t does = absurd does
  does_same role requests.Wait answers.Stale n m s t does = absurd does
  does_same role requests.Wait (answers.Turn turned) n m s t does =
      let turn = does.2.1 in
      ends_same turn.first turned does.2.0 turn.node m turn.behind t turn.ends ∙ turn_same turn.first role n turn.node (told does.0) (told turn.behind) turn.steps
      ∙ ap (λ (z : Counts). z.attached) does.1.counts

  module _ (role : Role) (n : State) (s : S) where
    row_same : (all rest : List Item) (notes : Notes) (text : List ℕ) (m : State) (t : S) → Row told role all n s rest notes text m t → attached_at t ≡ attached_at s
    row_same all rest notes text m t Row.none = refl
    row_same all rest notes text m t (Row.more {rest = those} {notes = before} {text = said} {m = k} {t = u} item answer node site row does is) =
        does_same role (request_of before item) answer k node u site does ∙ row_same all (item ∷ those) before said k u row

    attends_same : (all : List Item) (new : S) (text : List ℕ) (ended : Option Ended) → Attends told role all n s new text ended → attached_at new ≡ attached_at s
    attends_same all new text ended (Attends.some {m = m} {notes = notes} {text = said} item rest row) = row_same all (item ∷ rest) notes said m new row
    attends_same all new text ended (Attends.whole {m = m} {notes = notes} {text = said} row) = row_same all [] notes said m new row
    attends_same all new text ended (Attends.last {m = m} {t = t} {notes = notes} {text = said} {ended = how} item rest answer k row does is) =
        does_same role (request_of notes item) answer m k t new does ∙ row_same all (item ∷ rest) notes said m t row

    comes_same : (all : List Item) (new : S) (text : List ℕ) (ended : Option Ended) → Comes told role all n s new text ended → attached_at new ≡ attached_at s
    comes_same all new text ended (Comes.comes {text = said} {ended = how} attends) = attends_same all new said how attends

  pub attaches_its_names : AttachesItsNames told
  attaches_its_names v old new text ended (Course.unopened why h) = inl (why, refl, h.counts.names ∙ append-nil (attached_at old))
  attaches_its_names v old new text ended (Course.opened h) = inr h.counts.names
  attaches_its_names v old new text ended (Course.unstarted opened fault h c) = inr (counted_same (told opened) (told new) c.counted ∙ h.counts.names)
  attaches_its_names v old new text ended (Course.up {n = n} {s = s} {text = said} {ended = how} is_up coming) =
      inr (comes_same v.role n s (all_lines v) new said how coming ∙ counted_same (told is_up.opened) (told s) is_up.starts.counted ∙ is_up.attaches.counts.names)
