-- Why a leaf posts what it posts.
use Rattle.std.specs.Prelude.{ℕ, List, [], ◌∷◌, Option, Some, None, ◌≡◌, refl}
use Rattle.std.specs.List.{AllByRecursion}
use Rattle.std.proofs.Common.{inl, inr, sym, subst, ap, ◌∙◌}
use Rattle.at_base.specs.declared.fault.Fault.TheVariants.{InvalidState}
use Rattle.at_base.specs.declared.epr.Epr.{Epr}
use Rattle.at_base.specs.declared.notice.Notice.TheVariants as notices
use Rattle.at_base.specs.declared.record.Record.{Record}
use Rattle.at_base.specs.declared.event.Event.{Event}
use Rattle.at_base.specs.declared.event.Moment.{Moment}
use Rattle.at_base.specs.declared.outs.Post.{Post}
use Rattle.at_base.specs.declared.outs.Ending.TheVariants as endings
use Rattle.at_model.specs.Book.{Leaf}
use Rattle.at_model.specs.Posts.{fault_post, stored_or, to_each}
use Rattle.at_model.specs.Moves.{Change}
use Rattle.at_model.specs.Leaves.{leaf_ended}
use Rattle.agreement.specs.LeafDeeds.{Notified, LeafIdles, rests, registered, registers_again, votes_again, LeafAborts, asked, misled, unprepared, refused, expired, gave_up, LeafDeed, idles, aborts, prepares, leaves, dropped, commits, rolls_back, LeafSays, prepared, read_only, committed, aborted, tells_nothing, leaf_notice_to}

abbrev Says : Moment → Event → Leaf → Change Leaf → List Post → Type 0
Says m e l c ps = AllByRecursion (LeafSays m e l c) ps

idle_says : (m : Moment) (e : Event) (l left : Leaf) (c : Change Leaf) → c.item ≡ Some left → LeafIdles m e l left c.posts → Says m e l c c.posts
idle_says m e l left c item (rests is p) = subst (Says m e l c) (sym p) tt
idle_says m e l left c item (registered to r came f s q is p) = subst (Says m e l c) (sym p) (tells_nothing tt, tt)
idle_says m e l left c item (registers_again r came s q is p) = subst (Says m e l c) (sym p) (tells_nothing tt, tt)
idle_says m e l left c item (votes_again to came s k is p) = subst (Says m e l c) (sym p) (prepared to left k refl item (ap (λ (x : Leaf). x.state) is ∙ s), tt)

answers_rollback : (m : Moment) (e : Event) (l : Leaf) (c : Change Leaf) (came : Notified e l notices.Rollback) (known from : Option Epr) → l.coordinator ≡ known → came.arrived.from ≡ from
    → c.item ≡ None → c.effects ≡ leaf_ended l endings.Aborted ∷ [] → Says m e l c (to_each (stored_or known from) (λ to. leaf_notice_to m l to notices.Aborted))
answers_rollback m e l c came (Some to) from k f item effects = (aborted to (inl k) refl item effects, tt)
answers_rollback m e l c came None (Some to) k f item effects = (aborted to (inr (came, f)) refl item effects, tt)
answers_rollback m e l c came None None k f item effects = tt

answers_fault : (m : Moment) (e : Event) (l : Leaf) (c : Change Leaf) (id : Option (List ℕ)) (to : Option Epr) → Says m e l c (to_each to (λ x. fault_post (Some x) id InvalidState))
answers_fault m e l c id (Some to) = (tells_nothing tt, tt)
answers_fault m e l c id None = tt

abort_says : (m : Moment) (e : Event) (l : Leaf) (c : Change Leaf) → c.item ≡ None → c.effects ≡ leaf_ended l endings.Aborted ∷ [] → LeafAborts m e l c.posts → Says m e l c c.posts
abort_says m e l c item effects (asked came p) = subst (Says m e l c) (sym p) (answers_rollback m e l c came l.coordinator came.arrived.from refl refl item effects)
abort_says m e l c item effects (misled came p) = subst (Says m e l c) (sym p) (answers_fault m e l c came.arrived.id (stored_or l.coordinator came.arrived.from))
abort_says m e l c item effects (unprepared to came s why k p) = subst (Says m e l c) (sym p) (aborted to (inl k) refl item effects, tt)
abort_says m e l c item effects (refused name r came f s q p) = subst (Says m e l c) (sym p) (tells_nothing tt, tt)
abort_says m e l c item effects (expired r came f s q p) = subst (Says m e l c) (sym p) (tells_nothing tt, tt)
abort_says m e l c item effects (gave_up to came f s k p) = subst (Says m e l c) (sym p) (aborted to (inl k) refl item effects, tt)

pub deed_says : (m : Moment) (e : Event) (l : Leaf) (entry : Option Record) (c : Change Leaf) → LeafDeed m e l entry c → Says m e l c c.posts
deed_says m e l entry c (idles left why f item effects) = idle_says m e l left c item why
deed_says m e l entry c (aborts s why f item effects) = abort_says m e l c item effects why
deed_says m e l entry c (prepares to came s v k f item effects p) = subst (Says m e l c) (sym p) (prepared to _ k refl item refl, tt)
deed_says m e l entry c (leaves to came s v k f item effects p) = subst (Says m e l c) (sym p) (read_only to k refl s item effects, tt)
deed_says m e l entry c (dropped came k f item effects p) = subst (Says m e l c) (sym p) tt
deed_says m e l entry c (commits to came s k f item effects p) = subst (Says m e l c) (sym p) (committed to k refl item effects, tt)
deed_says m e l entry c (rolls_back to came s k f item effects p) = subst (Says m e l c) (sym p) (aborted to (inl k) refl item effects, tt)
