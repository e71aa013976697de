-- The items that are due, found one after another.
use Rattle.std.proofs.Common.{ℕ, List, [], ◌∷◌, ◌≡◌, ◌<◌, length, Option, Some, None, true, false, ap, sym, ◌∙◌, refl}
use Rattle.std.specs.Prelude.{if◌then◌else◌}
use Rattle.at_base.specs.declared.event.Item.{Item}
use Rattle.at_model.specs.Book.{Book}
use Rattle.model_laws.specs.Order.{IsRising}
use Rattle.at_model.specs.Step.{Outcome}
use Rattle.interposition.specs.Due.{FindsTheDue, WalksTheDue, due_outcome, due_outcomes, items_behind, next_item}
use Rattle.world_laws.specs.Walks.{Walk, asked, counted, counted_all, is_over}

-- the outcomes that are still to come
abbrev pub rest : ℕ → Book → Option Item → List Outcome
rest now b after = due_outcomes now (items_behind b after) b

-- behind the stop nothing counts
pub over_stays : (os : List Outcome) (w : Walk) → is_over w.luck ≡ true → counted_all os w ≡ w
over_stays [] w h = refl
over_stays (o ∷ os) w h = ap (λ b. counted_all os (if b then w else counted o w)) h ∙ over_stays os w h

-- What is known between two items.
pub record IsAsking (now : ℕ) (first w : Walk) (after : Option Item) : Type 0 where
  pub rising : IsRising w.book
  pub comes : counted_all (rest now w.book after) w ≡ asked now first

pub begins : FindsTheDue → (now : ℕ) (w : Walk) → IsRising w.book → IsAsking now w w None
begins finds now w h = record {
  rising = h;
  comes = ap (λ xs. counted_all (due_outcomes now xs w.book) w) (finds.all w.book);
}

pub goes_on : WalksTheDue → (now : ℕ) (first w : Walk) (after : Option Item) (item : Item) (v : Walk) → IsAsking now first w after
    → next_item w.book now after ≡ Some item → is_over w.luck ≡ false → v ≡ counted (due_outcome w.book now item) w
    → IsAsking now first v (Some item)
goes_on walks now first w after item v h found goes moved =
    let o : Outcome = due_outcome w.book now item in
    let next : rest now w.book after ≡ o ∷ rest now o.book (Some item) = walks.next w.book now after item h.rising found in
    rw moved (record {
      rising = walks.rising w.book now item h.rising;
      comes =
          ap (λ b. counted_all (rest now o.book (Some item)) (if b then w else counted o w)) (sym goes)
          ∙ ap (λ os. counted_all os w) (sym next)
          ∙ h.comes;
    })

pub asks_fewer : WalksTheDue → (now : ℕ) (w : Walk) (after : Option Item) (item : Item) (v : Walk) → IsRising w.book
    → next_item w.book now after ≡ Some item → v ≡ counted (due_outcome w.book now item) w
    → length (items_behind v.book (Some item)) < length (items_behind w.book after)
asks_fewer walks now w after item v h found moved = rw moved (walks.fewer w.book now after item h found)

pub over_ends : (now : ℕ) (first w : Walk) (after : Option Item) → IsAsking now first w after → is_over w.luck ≡ true → w ≡ asked now first
over_ends now first w after h over = sym (over_stays (rest now w.book after) w over) ∙ h.comes

pub none_ends : WalksTheDue → (now : ℕ) (first w : Walk) (after : Option Item) → IsAsking now first w after → next_item w.book now after ≡ None
    → w ≡ asked now first
none_ends walks now first w after h none =
    ap (λ os. counted_all os w) (sym (walks.over w.book now after h.rising none)) ∙ h.comes
