-- Why an activity posts what it posts.
use Rattle.std.specs.Prelude.{ℕ, List, Option, Some, None, ◌≡◌, ◌⊎◌, refl}
use Rattle.std.specs.List.{AllByRecursion}
use Rattle.std.proofs.Common.{inl, inr, sym, subst, ap, ◌∙◌}
use Rattle.at_base.specs.declared.fault.Fault.TheVariants.{InvalidState}
use Rattle.at_base.specs.declared.epr.Epr.{Epr}
use Rattle.at_base.specs.declared.notice.Notice.{Notice}
use Rattle.at_base.specs.declared.notice.Notice.TheVariants as notices
use Rattle.at_base.specs.declared.record.Record.{Record}
use Rattle.at_base.specs.declared.event.Event.{Event}
use Rattle.at_base.specs.declared.event.Moment.{Moment}
use Rattle.at_base.specs.declared.outs.Post.{Post}
use Rattle.at_model.specs.Book.{Activity}
use Rattle.at_model.specs.Posts.{fault_post, stored_or, to_each}
use Rattle.at_model.specs.Moves.{Change}
use Rattle.agreement.specs.ActivityDeeds.{Completes, ActivityIdles, rests, misled, created, interposed, registered, registers_again, asks_again, works, asks, ActivityDeed, idles, tells, ActivitySays, completing, tells_nothing}

abbrev Says : Moment → Activity → Change Activity → List Post → Type 0
Says m a c ps = AllByRecursion (ActivitySays m a c) ps

answers_fault : (m : Moment) (a : Activity) (c : Change Activity) (id : Option (List ℕ)) (to : Option Epr) → Says m a c (to_each to (λ x. fault_post (Some x) id InvalidState))
answers_fault m a c id (Some to) = (tells_nothing tt, tt)
answers_fault m a c id None = tt

pub which : {P Q : Type 0} (n : Notice) → ((n ≡ notices.Commit) × P) ⊎ ((n ≡ notices.Rollback) × Q) → Completes n
which n (inl h) = inl h.0
which n (inr h) = inr h.0

idle_says : (m : Moment) (e : Event) (a left : Activity) (c : Change Activity) → c.item ≡ Some left → ActivityIdles m e a left c.posts → Says m a c c.posts
idle_says m e a left c item (rests is p) = subst (Says m a c) (sym p) tt
idle_says m e a left c item (misled came s is p) = subst (Says m a c) (sym p) (answers_fault m a c came.arrived.id (stored_or a.coordinator came.arrived.from))
idle_says m e a left c item (created context came f s o is p) = subst (Says m a c) (sym p) (tells_nothing tt, tt)
idle_says m e a left c item (interposed context came f s o is p) = subst (Says m a c) (sym p) tt
idle_says m e a left c item (registered to came f s is p) = subst (Says m a c) (sym p) tt
idle_says m e a left c item (registers_again context came s x is p) = subst (Says m a c) (sym p) (tells_nothing tt, tt)
idle_says m e a left c item (asks_again n to came w s k is p) = subst (Says m a c) (sym p) (completing n to left w k refl item (ap (λ (x : Activity). x.progress) is ∙ s), tt)
idle_says m e a left c item (works url kind vote key value context came s x is p) = subst (Says m a c) (sym p) (tells_nothing tt, tt)
idle_says m e a left c item (asks n to came o s k is p) = subst (Says m a c) (sym p) (completing n to left (which n came) k refl item (ap (λ (x : Activity). x.progress) is), tt)

pub deed_says : (m : Moment) (e : Event) (a : Activity) (entry : Option Record) (c : Change Activity) → ActivityDeed m e a entry c → Says m a c c.posts
deed_says m e a entry c (idles left why f item effects) = idle_says m e a left c item why
deed_says m e a entry c (tells what why f item effects p) = subst (Says m a c) (sym p) tt
