-- A step without a record commits nobody; and no step of time has a record.
use Rattle.std.specs.Prelude.{ℕ, List, [], ◌∷◌, Option, Some, None, Bool, true, false, ◌≡◌, refl}
use Rattle.std.proofs.Common.{inl, inr, sym, subst, ap, ◌∙◌}
use Rattle.at_base.specs.Numbers.{Numbers}
use Rattle.at_base.specs.declared.event.Event.{Event}
use Rattle.at_base.specs.declared.event.Event.TheVariants as events
use Rattle.at_base.specs.declared.event.Moment.{Moment}
use Rattle.at_base.specs.declared.outs.Effect.{Effect}
use Rattle.at_base.specs.declared.outs.Effect.TheVariants as effects
use Rattle.at_base.specs.declared.outs.Ending.TheVariants as endings
use Rattle.at_base.specs.declared.outs.Told.{Told}
use Rattle.at_base.specs.declared.record.Record.{Record}
use Rattle.at_base.specs.declared.record.Record.TheVariants as records
use Rattle.at_model.specs.Book.{Activity, Book, Enlistment, Leaf, Transaction}
use Rattle.at_model.specs.Leaves.{leaf_ended}
use Rattle.at_model.specs.Moves.{Change}
use Rattle.at_model.specs.Seats.{ending}
use Rattle.at_model.specs.Step.{Outcome, moment_of, plan, step}
use Rattle.model_laws.specs.Agreement.{IsIn}
use Rattle.model_laws.proofs.Order.{ids_rise}
use Rattle.agreement.specs.ActivityDeeds.{ActivityDeed, idles as goes_on, tells}
use Rattle.agreement.specs.Deeds.{How, happens, recorded}
use Rattle.agreement.specs.StepDeeds.{standing}
use Rattle.agreement.specs.LeafDeeds.{LeafDeed, aborts, commits, dropped, for_durable, idles, leaves, prepares, rolls_back}
use Rattle.enlistments.specs.Moves.{IsReady, Moved, StepsMove, activity_did, activity_made, answered, leaf_did, leaf_made, registered, rested, transaction_did, transaction_made}
use Rattle.votes.proofs.Aborts.{ending_is, leaf_end_is, none_in, only_one}
use Rattle.votes.proofs.NewVotes.{IsEnd}
use Rattle.model_laws.proofs.EventSteps.{IsTimed}

none_some : (o : Option Record) (r : Record) → o ≡ None → o ≡ Some r → ⊥
none_some o r e f = let g : None ≡ Some r = sym e ∙ f in cc

abort_apart : (t : Transaction) (id : Numbers) (f : Effect) → IsIn f (ending t endings.Aborted ∷ []) → IsEnd id endings.Committed f → ⊥
abort_apart t id f i h =
    let e : endings.Aborted ≡ endings.Committed =
    (ending_is t.superior t.id id endings.Aborted endings.Committed (subst (IsEnd id endings.Committed) (only_one f (ending t endings.Aborted) i) h)).0 in
    cc

-- a deed that commits has a record
deed_apart : (how : How) (t : Transaction) (at : List Enlistment) (entry : Option Record) (id : Numbers) (f : Effect) → entry ≡ recorded how t at
    → entry ≡ None → IsIn f (happens how t)
    → IsEnd id endings.Committed f → ⊥
deed_apart How.Aborts t at entry id f is none i h = abort_apart t id f i h
deed_apart How.RollsBack t at entry id f is none i h = abort_apart t id f i h
deed_apart How.Decides t at entry id f is none i h = none_some entry _ none is
deed_apart How.DecidesAlone t at entry id f is none i h = none_some entry _ none is
deed_apart How.Commits t at entry id f is none i h = none_some entry _ none is
deed_apart other t at entry id f is none i h = absurd i

leaf_abort_apart : (l : Leaf) (id : Numbers) (f : Effect) (es : List Effect) → es ≡ leaf_ended l endings.Aborted ∷ [] → IsIn f es
    → IsEnd id endings.Committed f → ⊥
leaf_abort_apart l id f es is i h =
    let e : endings.Aborted ≡ endings.Committed =
    (leaf_end_is l id endings.Aborted endings.Committed (subst (IsEnd id endings.Committed) (only_one f (leaf_ended l endings.Aborted) (subst (IsIn f) is i)) h)).0 in
    cc

leaf_apart : (m : Moment) (e : Event) (l : Leaf) (entry : Option Record) (c : Change Leaf) → LeafDeed m e l entry c → entry ≡ None
    → (id : Numbers) (f : Effect) → IsIn f c.effects
    → IsEnd id endings.Committed f → ⊥
leaf_apart m e l entry c (idles left is unrecorded on none_happened) none id f i h = none_in f c.effects [] none_happened refl i
leaf_apart m e l entry c (aborts state why unrecorded gone happened) none id f i h = leaf_abort_apart l id f c.effects happened i h
leaf_apart m e l entry c (prepares to came state vote known is on none_happened posted) none id f i h = none_in f c.effects [] none_happened refl i
leaf_apart m e l entry c (leaves to came state vote known unrecorded gone none_happened posted) none id f i h = none_in f c.effects [] none_happened refl i
leaf_apart m e l entry c (dropped came kind unrecorded gone none_happened posted) none id f i h = none_in f c.effects [] none_happened refl i
leaf_apart m e l entry c (commits to came state known is gone happened posted) none id f i h =
    let (same, own, durable) =
    leaf_end_is l id endings.Committed endings.Committed (subst (IsEnd id endings.Committed) (only_one f (leaf_ended l endings.Committed) (subst (IsIn f) happened i)) h) in
    none_some entry (records.LeafCommitted l.id) none (is ∙ ap (λ k. for_durable k (records.LeafCommitted l.id)) durable)
leaf_apart m e l entry c (rolls_back to came state known is gone happened posted) none id f i h = leaf_abort_apart l id f c.effects happened i h

told_apart : (id i : Numbers) (t : Told) → IsEnd id endings.Committed (effects.Told i t) → ⊥
told_apart id i t (inl e) = cc
told_apart id i t (inr (inl e)) = cc
told_apart id i t (inr (inr e)) = cc

activity_apart : (m : Moment) (e : Event) (a : Activity) (entry : Option Record) (c : Change Activity) → ActivityDeed m e a entry c
    → (id : Numbers) (f : Effect) → IsIn f c.effects
    → IsEnd id endings.Committed f → ⊥
activity_apart m e a entry c (goes_on left is none on none_happened) id f i h = none_in f c.effects [] none_happened refl i
activity_apart m e a entry c (tells told why none gone happened posted) id f i h =
    told_apart id a.id told (subst (IsEnd id endings.Committed) (only_one f (effects.Told a.id told) (subst (IsIn f) happened i)) h)

unrecorded_apart : (b : Book) (e : Event) (now : ℕ) (entry : Option Record) (o : Outcome) → Moved b e now entry o → entry ≡ None → (id : Numbers) (f : Effect)
    → IsIn f o.effects
    → IsEnd id endings.Committed f → ⊥
unrecorded_apart b e now entry o (transaction_did d) none id f i h =
    deed_apart d.deed.how d.old d.deed.at entry id f d.deed.records none (subst (IsIn f) (d.effects_are ∙ d.deed.happened) i) h
unrecorded_apart b e now entry o (leaf_did d) none id f i h =
    leaf_apart (moment_of b now) e d.old entry d.change d.deed none id f (subst (IsIn f) d.effects_are i) h
unrecorded_apart b e now entry o (activity_did d) none id f i h =
    activity_apart (moment_of b now) e d.old entry d.change d.deed id f (subst (IsIn f) d.effects_are i) h
unrecorded_apart b e now entry o (registered d) none id f i h = none_in f o.effects [] (ap (λ (q : Outcome). q.effects) d.is) refl i
unrecorded_apart b e now entry o (transaction_made d) none id f i h = none_in f o.effects [] (ap (λ (q : Outcome). q.effects) d.is) refl i
unrecorded_apart b e now entry o (leaf_made d) none id f i h = none_in f o.effects [] (ap (λ (q : Outcome). q.effects) d.is) refl i
unrecorded_apart b e now entry o (activity_made d) none id f i h = none_in f o.effects [] (ap (λ (q : Outcome). q.effects) d.is) refl i
unrecorded_apart b e now entry o (answered d) none id f i h = none_in f o.effects [] (ap (λ (q : Outcome). q.effects) d.is) refl i
unrecorded_apart b e now entry o (rested d) none id f i h = none_in f o.effects [] d.effects_are refl i

time_unrecorded : (b : Book) (e : Event) (now : ℕ) → IsTimed e → (plan b e now).entry ≡ None
time_unrecorded b (events.Arrived a) now is = absurd is
time_unrecorded b (events.Local l) now is = absurd is
time_unrecorded b (events.Due item) now is = ids_rise.unrecorded b now item
time_unrecorded b events.Tick now is = refl

stands_none : (landed : Bool) (entry : Option Record) → entry ≡ None → standing landed entry ≡ None
stands_none true entry e = e
stands_none false entry e = refl

-- time commits nobody
pub timed_apart : StepsMove → (b : Book) (e : Event) (now : ℕ) (landed : Bool) → IsReady b → IsTimed e → (id : Numbers) (f : Effect)
    → IsIn f (step b e now landed).effects
    → IsEnd id endings.Committed f → ⊥
timed_apart moves b e now landed ready is id f i h =
    unrecorded_apart b e now (standing landed (plan b e now).entry) (step b e now landed) (moves.moved b e now landed ready)
    (stands_none landed (plan b e now).entry (time_unrecorded b e now is)) id f i h
