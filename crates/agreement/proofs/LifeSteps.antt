-- Each step of a book keeps what is said of its items.
use Rattle.std.specs.Prelude.{ℕ, List, [], ◌∷◌, ◌++◌, Option, Some, None, Bool, true, false, if◌then◌else◌, not, ◌&&◌, is_none, length, option_map, bytes_eq, nat_lt, ◌≡◌, ◌⊎◌, refl}
use Rattle.std.specs.List.{AllByRecursion}
use Rattle.std.proofs.Common.{inl, inr, sym, subst, ap, ◌∙◌}
use Rattle.std.proofs.lemmas.List.{append-nil}
use Rattle.at_base.specs.declared.limits.TheConstants.{MOST_ITEMS}
use Rattle.at_base.specs.Numbers.{Numbers}
use Rattle.at_base.specs.declared.epr.Epr.{Epr}
use Rattle.at_base.specs.declared.notice.Kind.{Kind}
use Rattle.at_base.specs.declared.notice.Kind.TheVariants as kinds
use Rattle.at_base.specs.declared.message.Create.{Create}
use Rattle.at_base.specs.declared.message.Context.{Context}
use Rattle.at_base.specs.declared.message.Register.{Register}
use Rattle.at_base.specs.declared.epr.Reply.{Reply}
use Rattle.at_base.specs.declared.epr.Reply.TheVariants as replies
use Rattle.at_base.specs.declared.message.Work.{Work}
use Rattle.at_base.specs.declared.record.Record.{Record}
use Rattle.at_base.specs.declared.record.Record.TheVariants as records
use Rattle.at_base.specs.declared.event.Arrived.{Arrived}
use Rattle.at_base.specs.declared.event.Event.{Event}
use Rattle.at_base.specs.declared.event.Event.TheVariants as events
use Rattle.at_base.specs.declared.event.Moment.{Moment}
use Rattle.at_base.specs.declared.outs.Effect.{Effect}
use Rattle.at_base.specs.declared.outs.Ending.{Ending}
use Rattle.at_base.specs.declared.outs.Ending.TheVariants as endings
use Rattle.at_base.specs.declared.outs.Out.{Out}
use Rattle.at_tables.specs.declared.cells.State.TheVariants as states
use Rattle.at_model.specs.Book.{Activity, Book, Leaf, Transaction, Enlistment, activity_id, find_by, is_id, leaf_id, transaction_id}
use Rattle.at_model.specs.Create.{Creation, create_in, create_under, on_create, refuse_create}
use Rattle.at_model.specs.Due.{may_expire}
use Rattle.at_model.specs.Leaves.{Employment, leaf_ended, on_work, refuse_work, work_for}
use Rattle.at_model.specs.Activities.{Refusal}
use Rattle.endpoints.specs.Addresses.{atomic}
use Rattle.at_model.specs.Moves.{Change}
use Rattle.at_model.specs.Posts.{accepted}
use Rattle.at_model.specs.Register.{Registration, accept, held_seat, may_register, on_register, protocol_named, register_again, register_new}
use Rattle.at_model.specs.Seats.{ending, ending_of, prepared}
use Rattle.at_model.specs.Step.{Outcome, Plan, activity_at, activity_plan, leaf_plan, local_plan, transaction_plan, at_time, branch, leaf_at, make_activity, make_leaf, make_transaction, moment_of, plain, plan, put_activity, put_leaf, put_transaction, refuses, still, transaction_at}
use Rattle.model_laws.specs.PhaseAnswers.{IsInPhase}
use Rattle.model_laws.specs.DrawnIds.{with_entry}
use Rattle.model_laws.specs.Laws.{IsDrawn}
use Rattle.model_laws.specs.Order.{IsInOrder}
use Rattle.model_laws.specs.Shapes.{Shape, nothing_moves, time_moves, time_passes, transaction_moves, leaf_moves, activity_moves, transaction_registers, transaction_made, leaf_made, activity_made}
use Rattle.model_laws.proofs.DecisionLaws.{IfThere, all_find, found_id}
use Rattle.model_laws.proofs.NextIds.{makes_under_the_next_id}
use Rattle.model_laws.proofs.RecoveryLaws.{same_id, self_id}
use Rattle.model_laws.proofs.StepShapes.{steps_touch_one}
use Rattle.agreement.specs.ActivityDeeds.{ActivitiesStand, ActivityDeed, ActivityStands, IsTaken, NeverUndone, tells, idles as activity_idles}
use Rattle.agreement.specs.Branches.{Became, happened, knowing, undone, recorded as written}
use Rattle.agreement.specs.Deeds.{Deed, How, IsSameIfLeft, happens, recorded, superior_at}
use Rattle.agreement.specs.FinishedTransactions.{AreFinished}
use Rattle.agreement.specs.LeafDeeds.{LeafDeed, LeafIdles, LeafStands, LeavesStand, LeafWaitsOn, aborts, commits, dropped, for_durable, idles, leaves, prepares, registered, registers_again, rests, rolls_back, votes_again}
use Rattle.agreement.specs.Lives.{Life, PromisesNothing, ends, is_undecided, works}
use Rattle.agreement.specs.TransactionSteps.{WaitsOn}
use Rattle.agreement.proofs.ActivityRules.{activities_do}
use Rattle.agreement.proofs.LeafLives.{LeafAlone, leaf_alone, leaf_by_deed, leaf_left_life}
use Rattle.agreement.proofs.LeafRules.{leaves_do}
use Rattle.agreement.proofs.OtherIds.{AboutOther, Same, ending_as, ends_one, find_other, find_this, id_of, joined_other, joined_this, other_same, same_all, still as keep}
use Rattle.agreement.proofs.TransactionLives.{Alone, TransactionLeft, TransactionLife, aborted, alone, by_how, committed, decided, left_life, undecided, voted}
use Rattle.agreement.proofs.TransactionSteps.{transactions_step}

abbrev pub AllLive : Book → List Record → List Effect → Type 0
AllLive b rs fx = (id : Numbers) → Life rs fx id (transaction_at b id) (leaf_at b id)

-- nothing is recorded or happened of it
abbrev pub IsFresh : Numbers → List Record → List Effect → Type 0
IsFresh id rs fx = PromisesNothing id rs × (ends id fx ≡ [])

-- what a step leaves
pub record StepsOn (b : Book) (rs : List Record) (fx : List Effect) (c : Book) (after : List Record) (new : List Effect) : Type 0 where
  pub lives : AllLive c after new
  pub others : (id : Numbers) → IsDrawn b id ⊎ Same id rs after fx new

abbrev pub StepOf : Book → List Record → List Effect → Bool → Plan → Type 0
StepOf b rs fx landed p = StepsOn b rs fx (branch p landed).book (with_entry p.entry landed rs) (fx ++ (branch p landed).effects)

as_given : (b : Book) (rs : List Record) (fx : List Effect) (c d : Book) (after more : List Record) (new gx : List Effect) → d ≡ c → more ≡ after → gx ≡ new → StepsOn b rs fx c after new
    → StepsOn b rs fx d more gx
as_given b rs fx c d after more new gx e f g h =
    subst (λ x. StepsOn b rs fx x more gx) (sym e) (subst (λ x. StepsOn b rs fx c x gx) (sym f) (subst (λ x. StepsOn b rs fx c after x) (sym g) h))

plain_on : (b : Book) (rs : List Record) (fx : List Effect) (landed : Bool) (c : Book) (os : List Out) → StepsOn b rs fx c rs fx → StepOf b rs fx landed (plain (still c os))
plain_on b rs fx true c os h = as_given b rs fx c c rs rs fx (fx ++ []) refl refl (append-nil fx) h
plain_on b rs fx false c os h = as_given b rs fx c c rs rs fx (fx ++ []) refl refl (append-nil fx) h

rests_on : (b : Book) (rs : List Record) (fx : List Effect) → AllLive b rs fx → StepsOn b rs fx b rs fx
rests_on b rs fx h = record { lives = h; others = λ id. inr (same_all id rs fx) }

moved_on : {A : Type 0} (P : Option Record → Change A → Type 0) (U : Record → Type 0) (b : Book) (put : Option A → Book) (answer : List Out) (p : Plan) (landed : Bool) (rs : List Record)
    (fx : List Effect) → Became P U b put answer p landed → AllLive b rs fx
    → ((entry : Option Record) (c : Change A) → P entry c → StepsOn b rs fx (knowing entry (put c.item)) (rs ++ written entry) (fx ++ c.effects)) → StepOf b rs fx landed p
moved_on P U b put answer p landed rs fx (happened entry c h journal book outs effects) l f =
    as_given b rs fx (knowing entry (put c.item)) (branch p landed).book (rs ++ written entry) (with_entry p.entry landed rs) (fx ++ c.effects) (fx ++ (branch p landed).effects)
    book (journal rs) (ap (λ es. fx ++ es) effects) (f entry c h)
moved_on P U b put answer p landed rs fx (undone r u e s is) l f =
    as_given b rs fx b (branch p landed).book rs (with_entry p.entry landed rs) fx (fx ++ (branch p landed).effects)
    (ap (λ (o : Outcome). o.book) is) (λ i. with_entry (e i) (s i) rs) (ap (λ (o : Outcome). fx ++ o.effects) is ∙ append-nil fx) (rests_on b rs fx l)

known_lives : (entry : Option Record) (c : Book) (rs : List Record) (fx : List Effect) → AllLive c rs fx → AllLive (knowing entry c) rs fx
known_lives None c rs fx h = h
known_lives (Some r) c rs fx h = h

-- what is of other ids where one item moves
by_id : (P : Numbers → Type 0) (id : Numbers) → P id → ((i : Numbers) → is_id id i ≡ false → P i) → (i : Numbers) → P i
by_id P id h f i = by_case (is_id id i) refl
  where
    by_case : (b : Bool) → is_id id i ≡ b → P i
    by_case true e = subst P (same_id id i e) h
    by_case false e = f i e

differ : (id i : Numbers) → is_id id i ≡ false → id ≡ i → ⊥
differ id i e f = let g : is_id id i ≡ true = ap (λ j. is_id id j) (sym f) ∙ self_id id in cc

about_vote : (id i : Numbers) (superior : Option Epr) (at : List Enlistment) → (id ≡ i → ⊥) → AboutOther i (option_map (λ to. records.Voted id to (prepared at)) superior)
about_vote id i None at n = tt
about_vote id i (Some to) at n = n

about_how : (how : How) (t : Transaction) (at : List Enlistment) (i : Numbers) → (t.id ≡ i → ⊥) → AboutOther i (recorded how t at)
about_how How.Idles t at i n = tt
about_how How.Aborts t at i n = tt
about_how How.Votes t at i n = about_vote t.id i (superior_at t.superior) at n
about_how How.Decides t at i n = n
about_how How.DecidesAlone t at i n = n
about_how How.Leaves t at i n = tt
about_how How.Commits t at i n = n
about_how How.RollsBack t at i n = n
about_how How.Ends t at i n = n
about_how How.Forgets t at i n = tt

end_of_other : (t : Transaction) (what : Ending) (i : Numbers) → is_id t.id i ≡ false → ends i (ending t what ∷ []) ≡ []
end_of_other t what i e = ends_one i (ending t what) false (ending_as t.id i t.superior what ∙ e)

happens_to_other : (how : How) (t : Transaction) (i : Numbers) → is_id t.id i ≡ false → ends i (happens how t) ≡ []
happens_to_other How.Idles t i e = refl
happens_to_other How.Aborts t i e = end_of_other t endings.Aborted i e
happens_to_other How.Votes t i e = refl
happens_to_other How.Decides t i e = end_of_other t endings.Committed i e
happens_to_other How.DecidesAlone t i e = end_of_other t endings.Committed i e
happens_to_other How.Leaves t i e = refl
happens_to_other How.Commits t i e = end_of_other t endings.Committed i e
happens_to_other How.RollsBack t i e = end_of_other t endings.Aborted i e
happens_to_other How.Ends t i e = refl
happens_to_other How.Forgets t i e = refl

-- one item is put
put_lives : (b : Book) (now : ℕ) (rs after : List Record) (fx new : List Effect) (t : Transaction) (left : Option Transaction) → IsInOrder b → AllLive b rs fx → transaction_at b t.id ≡ Some t
    → IfThere (λ x. x.id ≡ t.id) left → ((i : Numbers) → is_id t.id i ≡ false → Same i rs after fx new) → (TransactionLife rs fx t.id t → TransactionLeft after new t.id left)
    → StepsOn b rs fx (put_transaction t.id (at_time now b) left) after new
put_lives b now rs after fx new t left order l found own others own_life = record {
  lives = by_id (λ i. Life after new i (transaction_at (put_transaction t.id (at_time now b) left) i) (leaf_at b i)) t.id this
      (λ i e. subst (λ o. Life after new i o (leaf_at b i)) (sym (find_other transaction_id t.id i left b.transactions own e))
      (keep i rs after fx new (transaction_at b i) (leaf_at b i) (others i e) (l i)));
  others = by_id (λ i. IsDrawn b i ⊎ Same i rs after fx new) t.id (inl (all_find (λ x. IsDrawn b x.id) transaction_id t.id b.transactions t order.drawn.transactions found)) (λ i e. inr (others i e));
}
  where
    this : Life after new t.id (transaction_at (put_transaction t.id (at_time now b) left) t.id) (leaf_at b t.id)
    this =
        let a : Alone rs fx t.id t (leaf_at b t.id) = alone rs fx t.id t (leaf_at b t.id) (subst (λ o. Life rs fx t.id o (leaf_at b t.id)) found (l t.id)) in
        subst (λ o. Life after new t.id o (leaf_at b t.id)) (sym (find_this transaction_id t.id t left b.transactions order.rising.transactions found own))
        (left_life after new t.id left (leaf_at b t.id) (own_life a.life) a.leaf)

keeps_id : (t : Transaction) (left : Option Transaction) → IsSameIfLeft t left → IfThere (λ x. x.id ≡ t.id) left
keeps_id t None s = tt
keeps_id t (Some new) s = s.id

pub deed_on : (b : Book) (now : ℕ) (rs : List Record) (fx : List Effect) (e : Event) (t : Transaction) → IsInOrder b → AllLive b rs fx → transaction_at b t.id ≡ Some t → (entry : Option Record)
    (c : Change Transaction) → Deed e t entry c → StepsOn b rs fx (knowing entry (put_transaction t.id (at_time now b) c.item)) (rs ++ written entry) (fx ++ c.effects)
deed_on b now rs fx e t order l found entry c h =
    known entry (subst (λ o. StepsOn b rs fx (put_transaction t.id (at_time now b) c.item) (rs ++ written o) (fx ++ c.effects)) (sym h.records)
    (subst (λ es. StepsOn b rs fx (put_transaction t.id (at_time now b) c.item) (rs ++ written (recorded h.how t h.at)) (fx ++ es)) (sym h.happened)
    (put_lives b now rs (rs ++ written (recorded h.how t h.at)) fx (fx ++ happens h.how t) t c.item order l found (keeps_id t c.item h.same)
    (λ i n. other_same i rs (recorded h.how t h.at) fx (happens h.how t) (about_how h.how t h.at i (differ t.id i n)) (happens_to_other h.how t i n))
    (by_how h.how rs fx t h.at c.item h.stood h.behind h.becomes h.same))))
  where
    known : (o : Option Record) → StepsOn b rs fx (put_transaction t.id (at_time now b) c.item) (rs ++ written entry) (fx ++ c.effects)
        → StepsOn b rs fx (knowing o (put_transaction t.id (at_time now b) c.item)) (rs ++ written entry) (fx ++ c.effects)
    known o s = record { lives = known_lives o (put_transaction t.id (at_time now b) c.item) (rs ++ written entry) (fx ++ c.effects) s.lives; others = s.others }

-- leaves
leaf_deed_keeps : (m : Moment) (e : Event) (l : Leaf) (entry : Option Record) (c : Change Leaf) → LeafDeed m e l entry c → IfThere (λ x. x.id ≡ l.id) c.item
leaf_deed_keeps m e l entry c (idles left why none item effects) = subst (IfThere (λ x. x.id ≡ l.id)) (sym item) (idle_keeps why)
  where
    idle_keeps : LeafIdles m e l left c.posts → left.id ≡ l.id
    idle_keeps (rests same says) = ap (λ x. x.id) same
    idle_keeps (registered coordinator r came answers state request same says) = ap (λ x. x.id) same
    idle_keeps (registers_again r due state request same says) = ap (λ x. x.id) same
    idle_keeps (votes_again to why state knows same says) = ap (λ x. x.id) same
leaf_deed_keeps m e l entry c (aborts state why none item effects) = subst (IfThere (λ x. x.id ≡ l.id)) (sym item) tt
leaf_deed_keeps m e l entry c (prepares to came state vote knows is item effects says) = subst (IfThere (λ x. x.id ≡ l.id)) (sym item) refl
leaf_deed_keeps m e l entry c (leaves to came state vote knows none item effects says) = subst (IfThere (λ x. x.id ≡ l.id)) (sym item) tt
leaf_deed_keeps m e l entry c (dropped came kind none item effects says) = subst (IfThere (λ x. x.id ≡ l.id)) (sym item) tt
leaf_deed_keeps m e l entry c (commits to came state knows is item effects says) = subst (IfThere (λ x. x.id ≡ l.id)) (sym item) tt
leaf_deed_keeps m e l entry c (rolls_back to came state knows is item effects says) = subst (IfThere (λ x. x.id ≡ l.id)) (sym item) tt

about_durable : (k : Kind) (r : Record) (i : Numbers) → (id_of r ≡ i → ⊥) → AboutOther i (for_durable k r)
about_durable kinds.Durable r i n = n
about_durable kinds.Volatile r i n = tt

-- what a leaf's deed records and what happens are of the leaf alone
record OfLeaf (l : Leaf) (entry : Option Record) (gx : List Effect) : Type 0 where
  about : (i : Numbers) → (l.id ≡ i → ⊥) → AboutOther i entry
  ended : (i : Numbers) → is_id l.id i ≡ false → ends i gx ≡ []

of_leaf : (l : Leaf) (entry r : Option Record) (gx hx : List Effect) → entry ≡ r → gx ≡ hx → ((i : Numbers) → (l.id ≡ i → ⊥) → AboutOther i r)
    → ((i : Numbers) → is_id l.id i ≡ false → ends i hx ≡ []) → OfLeaf l entry gx
of_leaf l entry r gx hx e f a h = record { about = λ i n. subst (AboutOther i) (sym e) (a i n); ended = λ i n. ap (ends i) f ∙ h i n }

leaf_ended_other : (l : Leaf) (what : Ending) (i : Numbers) → is_id l.id i ≡ false → ends i (leaf_ended l what ∷ []) ≡ []
leaf_ended_other l what i e = ends_one i (leaf_ended l what) false e

leaf_deed_own : (m : Moment) (e : Event) (l : Leaf) (entry : Option Record) (c : Change Leaf) → LeafDeed m e l entry c → OfLeaf l entry c.effects
leaf_deed_own m e l entry c (idles left why none item effects) = of_leaf l entry None c.effects [] none effects (λ i n. tt) (λ i n. refl)
leaf_deed_own m e l entry c (aborts state why none item effects) =
    of_leaf l entry None c.effects (leaf_ended l endings.Aborted ∷ []) none effects (λ i n. tt) (leaf_ended_other l endings.Aborted)
leaf_deed_own m e l entry c (prepares to came state vote knows is item effects says) =
    of_leaf l entry (for_durable l.kind (records.LeafPrepared l.id to l.key l.value)) c.effects [] is effects
    (λ i n. about_durable l.kind (records.LeafPrepared l.id to l.key l.value) i n) (λ i n. refl)
leaf_deed_own m e l entry c (leaves to came state vote knows none item effects says) = of_leaf l entry None c.effects [] none effects (λ i n. tt) (λ i n. refl)
leaf_deed_own m e l entry c (dropped came kind none item effects says) = of_leaf l entry None c.effects [] none effects (λ i n. tt) (λ i n. refl)
leaf_deed_own m e l entry c (commits to came state knows is item effects says) =
    of_leaf l entry (for_durable l.kind (records.LeafCommitted l.id)) c.effects (leaf_ended l endings.Committed ∷ []) is effects
    (λ i n. about_durable l.kind (records.LeafCommitted l.id) i n) (leaf_ended_other l endings.Committed)
leaf_deed_own m e l entry c (rolls_back to came state knows is item effects says) =
    of_leaf l entry (for_durable l.kind (records.LeafAborted l.id)) c.effects (leaf_ended l endings.Aborted ∷ []) is effects
    (λ i n. about_durable l.kind (records.LeafAborted l.id) i n) (leaf_ended_other l endings.Aborted)

leaf_deed_on : (b : Book) (now : ℕ) (rs : List Record) (fx : List Effect) (m : Moment) (e : Event) (l : Leaf) → IsInOrder b → AllLive b rs fx → leaf_at b l.id ≡ Some l → (entry : Option Record)
    (c : Change Leaf) → LeafDeed m e l entry c → StepsOn b rs fx (knowing entry (put_leaf l.id (at_time now b) c.item)) (rs ++ written entry) (fx ++ c.effects)
leaf_deed_on b now rs fx m e l order lives found entry c h = record {
  lives = known_lives entry (put_leaf l.id (at_time now b) c.item) (rs ++ written entry) (fx ++ c.effects)
      (by_id (λ i. Life (rs ++ written entry) (fx ++ c.effects) i (transaction_at b i) (leaf_at (put_leaf l.id (at_time now b) c.item) i)) l.id this
      (λ i n. subst (λ o. Life (rs ++ written entry) (fx ++ c.effects) i (transaction_at b i) o) (sym (find_other leaf_id l.id i c.item b.leaves (leaf_deed_keeps m e l entry c h) n))
      (keep i rs (rs ++ written entry) fx (fx ++ c.effects) (transaction_at b i) (leaf_at b i) (others i n) (lives i))));
  others = by_id (λ i. IsDrawn b i ⊎ Same i rs (rs ++ written entry) fx (fx ++ c.effects)) l.id (inl (all_find (λ x. IsDrawn b x.id) leaf_id l.id b.leaves l order.drawn.leaves found))
      (λ i n. inr (others i n));
}
  where
    others : (i : Numbers) → is_id l.id i ≡ false → Same i rs (rs ++ written entry) fx (fx ++ c.effects)
    others i n = other_same i rs entry fx c.effects ((leaf_deed_own m e l entry c h).about i (differ l.id i n)) ((leaf_deed_own m e l entry c h).ended i n)

    this : Life (rs ++ written entry) (fx ++ c.effects) l.id (transaction_at b l.id) (leaf_at (put_leaf l.id (at_time now b) c.item) l.id)
    this =
        let a : LeafAlone rs fx l.id (transaction_at b l.id) l = leaf_alone rs fx l.id (transaction_at b l.id) l (subst (λ o. Life rs fx l.id (transaction_at b l.id) o) found (lives l.id)) in
        subst (λ o. Life (rs ++ written entry) (fx ++ c.effects) l.id (transaction_at b l.id) o)
        (sym (find_this leaf_id l.id l c.item b.leaves order.rising.leaves found (leaf_deed_keeps m e l entry c h)))
        (leaf_left_life (rs ++ written entry) (fx ++ c.effects) l.id (transaction_at b l.id) c.item (leaf_by_deed m e rs fx l entry c a.life h) a.transaction)

-- activities are neither recorded nor do they end so
told_on : (b : Book) (now : ℕ) (rs : List Record) (fx : List Effect) (m : Moment) (e : Event) (a : Activity) → AllLive b rs fx → (entry : Option Record) (c : Change Activity)
    → ActivityDeed m e a entry c → StepsOn b rs fx (knowing entry (put_activity a.id (at_time now b) c.item)) (rs ++ written entry) (fx ++ c.effects)
told_on b now rs fx m e a l entry c h = record {
  lives = known_lives entry (put_activity a.id (at_time now b) c.item) (rs ++ written entry) (fx ++ c.effects)
      (λ i. keep i rs (rs ++ written entry) fx (fx ++ c.effects) (transaction_at b i) (leaf_at b i) (all i h) (l i));
  others = λ i. inr (all i h);
}
  where
    all : (i : Numbers) → ActivityDeed m e a entry c → Same i rs (rs ++ written entry) fx (fx ++ c.effects)
    all i (activity_idles left why none item effects) = other_same i rs entry fx c.effects (subst (AboutOther i) (sym none) tt) (ap (ends i) effects)
    all i (tells what why none item effects posts) = other_same i rs entry fx c.effects (subst (AboutOther i) (sym none) tt) (ap (ends i) effects)

-- a registration changes neither phase nor superior
pub record Like (t new : Transaction) : Type 0 where
  pub id : new.id ≡ t.id
  pub phase : new.phase ≡ t.phase
  pub superior : new.superior ≡ t.superior

like_self : (t : Transaction) → Like t t
like_self t = record { id = refl; phase = refl; superior = refl }

accept_like : (m : Moment) (a : Arrived) (t : Transaction) (participant : Epr) (kind : Option Kind) → Like t (accept m a t participant kind).transaction
unfolding accept
accept_like m a t participant (Some kind) = record { id = refl; phase = refl; superior = refl }
accept_like m a t participant None = record { id = refl; phase = refl; superior = refl }

either_like : (t : Transaction) (b : Bool) (r s : Registration) → Like t r.transaction → Like t s.transaction → Like t (if b then r else s).transaction
either_like t true r s h k = h
either_like t false r s h k = k

register_new_like : (m : Moment) (a : Arrived) (r : Register) (t : Transaction) (kind : Option (Option Kind)) → Like t (register_new m a r t kind).transaction
unfolding register_new
register_new_like m a r t None = like_self t
register_new_like m a r t (Some kind) =
    either_like t (not a.postable) _ _ (like_self t) (either_like t (may_register t kind) _ _ (accept_like m a t r.participant kind) (like_self t))

register_again_like : (m : Moment) (a : Arrived) (r : Register) (t : Transaction) (kind : Option (Option Kind)) (held : Option Epr) → Like t (register_again m a r t kind held).transaction
unfolding register_again
register_again_like m a r t kind (Some coordinator) = like_self t
register_again_like m a r t kind None = register_new_like m a r t kind

register_like : (m : Moment) (a : Arrived) (r : Register) (t : Transaction) → Like t (on_register m a r t).transaction
unfolding on_register
register_like m a r t = register_again_like m a r t (protocol_named r.protocol) (held_seat m r t (protocol_named r.protocol))

life_like : (rs : List Record) (fx : List Effect) (id : Numbers) (t new : Transaction) → Like t new → TransactionLife rs fx id t → TransactionLife rs fx id new
life_like rs fx id t new s (undecided o nothing k) = undecided (ap may_expire s.phase ∙ o) nothing k
life_like rs fx id t new s (voted superior seats p u h out k) = voted superior seats (s.phase ∙ p) (ap (λ x. is_none x) s.superior ∙ u) h out k
life_like rs fx id t new s (decided seats p u h k) = decided seats (s.phase ∙ p) (s.superior ∙ u) h k
life_like rs fx id t new s (committed superior seats p u h i k) =
    committed superior seats (s.phase ∙ p) (ap (λ x. is_none x) s.superior ∙ u) h i k
life_like rs fx id t new s (aborted p dead k) =
    aborted (s.phase ∙ p) dead (k ∙ (λ i. ending_of (sym s.superior i) (sym s.id i) endings.Aborted ∷ []))

pub registers_on : (b : Book) (now : ℕ) (rs : List Record) (fx : List Effect) (t new : Transaction) → IsInOrder b → AllLive b rs fx → transaction_at b t.id ≡ Some t → Like t new
    → StepsOn b rs fx (put_transaction new.id (at_time now b) (Some new)) rs fx
registers_on b now rs fx t new order l found s =
    subst (λ i. StepsOn b rs fx (put_transaction i (at_time now b) (Some new)) rs fx) (sym s.id)
    (put_lives b now rs rs fx fx t (Some new) order l found s.id (λ i n. same_all i rs fx) (life_like rs fx t.id t new s))

-- what is made
abbrev MadeOpen : Numbers → Option Transaction → Type 0
MadeOpen id o = IfThere (λ t. (t.id ≡ id) × (may_expire t.phase ≡ true)) o

under_open : (m : Moment) (id : Numbers) (a : Arrived) (c : Create) (current : Context) (r : Reply) → MadeOpen id (create_under m id a c current r).transaction
unfolding create_under
under_open m id a c current (replies.At reply) = (refl, refl)
under_open m id a c current replies.Anonymous = tt
under_open m id a c current replies.Nobody = tt

in_open : (m : Moment) (id : Numbers) (a : Arrived) (c : Create) (current : Option Context) → MadeOpen id (create_in m id a c current).transaction
unfolding create_in
in_open m id a c None = (refl, refl)
in_open m id a c (Some current) = under_open m id a c current a.reply

either_open : (id : Numbers) (b : Bool) (x y : Creation) → MadeOpen id x.transaction → MadeOpen id y.transaction → MadeOpen id (if b then x else y).transaction
either_open id true x y h k = h
either_open id false x y h k = k

create_open : (m : Moment) (live : ℕ) (a : Arrived) (c : Create) (id : Numbers) → MadeOpen id (on_create m live a c (Some id)).transaction
unfolding on_create
create_open m live a c id = either_open id (bytes_eq c.coordination atomic && nat_lt live MOST_ITEMS) (create_in m id a c c.current) (refuse_create a) (in_open m id a c c.current) tt

abbrev MadeWorking : Numbers → Option Leaf → Type 0
MadeWorking id o = IfThere (λ l. (l.id ≡ id) × (l.state ≡ states.Registering)) o

employed_working : (m : Moment) (id : Numbers) (a : Arrived) (w : Work) (r : Reply) → MadeWorking id (work_for m id a w r).leaf
employed_working m id a w (replies.At reply) = (refl, refl)
employed_working m id a w replies.Anonymous = tt
employed_working m id a w replies.Nobody = tt

either_working : (id : Numbers) (b : Bool) (x y : Employment) → MadeWorking id x.leaf → MadeWorking id y.leaf → MadeWorking id (if b then x else y).leaf
either_working id true x y h k = h
either_working id false x y h k = k

work_working : (m : Moment) (live : ℕ) (a : Arrived) (w : Work) (id : Numbers) → MadeWorking id (on_work m live a w (Some id)).leaf
unfolding on_work
work_working m live a w id = either_working id (nat_lt live MOST_ITEMS) (work_for m id a w a.reply) (refuse_work a) (employed_working m id a w a.reply) tt

pub unfound : {A : Type 0} (key : A → Numbers) (b : Book) (id : Numbers) (xs : List A) → AllByRecursion (λ x. IsDrawn b (key x)) xs → (IsDrawn b id → ⊥) → find_by key id xs ≡ None
unfound {A = A} key b id xs h new = by_case (find_by key id xs) refl
  where
    by_case : (o : Option A) → find_by key id xs ≡ o → o ≡ None
    by_case None e = refl
    by_case (Some x) e = absurd (new (subst (IsDrawn b) (found_id key id xs x e) (all_find (λ y. IsDrawn b (key y)) key id xs x h e)))

transaction_made_on : (b : Book) (now : ℕ) (rs : List Record) (fx : List Effect) (t : Transaction) → IsInOrder b → AllLive b rs fx → (IsDrawn b t.id → ⊥) → IsFresh t.id rs fx
    → may_expire t.phase ≡ true → StepsOn b rs fx (make_transaction (at_time now b) t) rs fx
transaction_made_on b now rs fx t order l new fresh o = record {
  lives = by_id (λ i. Life rs fx i (transaction_at (make_transaction (at_time now b) t) i) (leaf_at b i)) t.id
      (is_undecided t (joined_this transaction_id t.id t b.transactions refl (unfound transaction_id b t.id b.transactions order.drawn.transactions new))
      (unfound leaf_id b t.id b.leaves order.drawn.leaves new) o fresh.0 fresh.1)
      (λ i e. subst (λ x. Life rs fx i x (leaf_at b i)) (sym (joined_other transaction_id i t b.transactions e)) (l i));
  others = λ i. inr (same_all i rs fx);
}

leaf_made_on : (b : Book) (now : ℕ) (rs : List Record) (fx : List Effect) (x : Leaf) → IsInOrder b → AllLive b rs fx → (IsDrawn b x.id → ⊥) → IsFresh x.id rs fx
    → x.state ≡ states.Registering → StepsOn b rs fx (make_leaf (at_time now b) x) rs fx
leaf_made_on b now rs fx x order l new fresh o = record {
  lives = by_id (λ i. Life rs fx i (transaction_at b i) (leaf_at (make_leaf (at_time now b) x) i)) x.id
      (works x (unfound transaction_id b x.id b.transactions order.drawn.transactions new)
      (joined_this leaf_id x.id x b.leaves refl (unfound leaf_id b x.id b.leaves order.drawn.leaves new)) (inl o) fresh.0 fresh.1)
      (λ i e. subst (λ y. Life rs fx i (transaction_at b i) y) (sym (joined_other leaf_id i x b.leaves e)) (l i));
  others = λ i. inr (same_all i rs fx);
}

-- what is said of a node that is up
pub record IsGood (b : Book) (rs : List Record) (fx : List Effect) : Type 0 where
  pub order : IsInOrder b
  pub phases : IsInPhase b
  pub finished : AreFinished b
  pub leaves : LeavesStand b
  pub activities : ActivitiesStand b
  pub fresh : (id : Numbers) → (IsDrawn b id → ⊥) → IsFresh id rs fx
  pub lives : AllLive b rs fx

some_made : {A : Type 0} (P : A → Type 0) (o : Option A) (x : A) → IfThere P o → o ≡ Some x → P x
some_made P o x h e = subst (IfThere P) e h

at_own : (b : Book) (id : Numbers) (t : Transaction) → transaction_at b id ≡ Some t → transaction_at b t.id ≡ Some t
at_own b id t found = subst (λ i. transaction_at b i ≡ Some t) (sym (found_id transaction_id id b.transactions t found)) found

leaf_at_own : (b : Book) (id : Numbers) (l : Leaf) → leaf_at b id ≡ Some l → leaf_at b l.id ≡ Some l
leaf_at_own b id l found = subst (λ i. leaf_at b i ≡ Some l) (sym (found_id leaf_id id b.leaves l found)) found

activity_at_own : (b : Book) (id : Numbers) (a : Activity) → activity_at b id ≡ Some a → activity_at b a.id ≡ Some a
activity_at_own b id a found = subst (λ i. activity_at b i ≡ Some a) (sym (found_id activity_id id b.activities a found)) found

shape_on : (b : Book) (e : Event) (now : ℕ) (landed : Bool) (rs : List Record) (fx : List Effect) (p : Plan) → IsGood b rs fx → IsTaken b e → Shape b e now p → StepOf b rs fx landed p
shape_on b e now landed rs fx p g taken (nothing_moves f) = subst (StepOf b rs fx landed) (sym f) (plain_on b rs fx landed b [] (rests_on b rs fx g.lives))
shape_on b e now landed rs fx p g taken (time_moves a os came why o f) =
    subst (StepOf b rs fx landed) (sym f) (plain_on b rs fx landed (at_time now b) os (record { lives = g.lives; others = λ id. inr (same_all id rs fx) }))
shape_on b e now landed rs fx p g taken (time_passes came f) =
    subst (StepOf b rs fx landed) (sym f) (plain_on b rs fx landed (at_time now b) accepted (record { lives = g.lives; others = λ id. inr (same_all id rs fx) }))
shape_on b e now landed rs fx p g taken (transaction_moves id t answer d stands how o f) =
    subst (StepOf b rs fx landed) (sym f)
    (moved_on (Deed e t) (WaitsOn t) b (put_transaction t.id (at_time now b)) answer (transaction_plan b now answer t d) landed rs fx
    (transactions_step.step b e now landed id t answer d g.phases g.finished stands how) g.lives (deed_on b now rs fx e t g.order g.lives (at_own b id t stands)))
shape_on b e now landed rs fx p g taken (leaf_moves id l answer d stands how o f) =
    subst (StepOf b rs fx landed) (sym f)
    (moved_on (LeafDeed (moment_of b now) e l) (LeafWaitsOn l) b (put_leaf l.id (at_time now b)) answer (leaf_plan b now answer l d) landed rs fx
    (leaves_do.step b e now landed l answer d (all_find LeafStands leaf_id id b.leaves l g.leaves stands) how) g.lives
    (leaf_deed_on b now rs fx (moment_of b now) e l g.order g.lives (leaf_at_own b id l stands)))
shape_on b e now landed rs fx p g taken (activity_moves id a answer d stands how o f) =
    subst (StepOf b rs fx landed) (sym f)
    (moved_on (ActivityDeed (moment_of b now) e a) NeverUndone b (put_activity a.id (at_time now b)) answer (activity_plan b now answer a d) landed rs fx
    (activities_do.step b e now landed a answer d (activity_at_own b id a stands) (all_find ActivityStands activity_id id b.activities a g.activities stands) taken how) g.lives
    (told_on b now rs fx (moment_of b now) e a g.lives))
shape_on b e now landed rs fx p g taken (transaction_registers id a r t stands came at says o f) =
    subst (StepOf b rs fx landed) (sym f)
    (plain_on b rs fx landed (put_transaction (on_register (moment_of b now) a r t).transaction.id (at_time now b) (Some (on_register (moment_of b now) a r t).transaction))
    (on_register (moment_of b now) a r t).outs
    (registers_on b now rs fx t (on_register (moment_of b now) a r t).transaction g.order g.lives (at_own b id t stands) (register_like (moment_of b now) a r t)))
shape_on b e now landed rs fx p g taken (transaction_made a c id t os came at says next made sent o f) =
    let (own, expires) = some_made (λ x. (x.id ≡ id) × (may_expire x.phase ≡ true)) _ t (create_open (moment_of b now) (length b.transactions) a c id) made in
    let new : IsDrawn b t.id → ⊥ = subst (λ i. IsDrawn b i → ⊥) (sym own) (makes_under_the_next_id.next b id next) in
    subst (StepOf b rs fx landed) (sym f)
    (plain_on b rs fx landed (make_transaction (at_time now b) t) os (transaction_made_on b now rs fx t g.order g.lives new (g.fresh t.id new) expires))
shape_on b e now landed rs fx p g taken (leaf_made a w id l os came at says next made sent o f) =
    let (own, registering) = some_made (λ x. (x.id ≡ id) × (x.state ≡ states.Registering)) _ l (work_working (moment_of b now) (length b.leaves) a w id) made in
    let new : IsDrawn b l.id → ⊥ = subst (λ i. IsDrawn b i → ⊥) (sym own) (makes_under_the_next_id.next b id next) in
    subst (StepOf b rs fx landed) (sym f)
    (plain_on b rs fx landed (make_leaf (at_time now b) l) os (leaf_made_on b now rs fx l g.order g.lives new (g.fresh l.id new) registering))
shape_on b e now landed rs fx p g taken (activity_made id a os next made o f) =
    subst (StepOf b rs fx landed) (sym f)
    (plain_on b rs fx landed (make_activity (at_time now b) a) os (record { lives = g.lives; others = λ i. inr (same_all i rs fx) }))

-- a request that is refused changes nothing
taken_or_still : (b : Book) (e : Event) (now : ℕ) → IsTaken b e ⊎ (plan b e now ≡ plain (still b []))
taken_or_still b (events.Arrived a) now = inl (λ l came. absurd cc)
taken_or_still b (events.Due item) now = inl (λ l came. absurd cc)
taken_or_still b events.Tick now = inl (λ l came. absurd cc)
taken_or_still b (events.Local x) now = by_case (refuses b x) refl
  where
    by_case : (o : Option Refusal) → refuses b x ≡ o → IsTaken b (events.Local x) ⊎ (plan b (events.Local x) now ≡ plain (still b []))
    by_case None e = inl (λ l came. let same : x ≡ l = cc in subst (λ y. refuses b y ≡ None) same e)
    by_case (Some refusal) e = inr (ap (local_plan b now x) e)

pub steps_on : (b : Book) (e : Event) (now : ℕ) (landed : Bool) (rs : List Record) (fx : List Effect) → IsGood b rs fx → StepOf b rs fx landed (plan b e now)
steps_on b e now landed rs fx g = by_case (taken_or_still b e now)
  where
    by_case : IsTaken b e ⊎ (plan b e now ≡ plain (still b [])) → StepOf b rs fx landed (plan b e now)
    by_case (inl taken) = shape_on b e now landed rs fx (plan b e now) g taken (steps_touch_one b e now)
    by_case (inr is) = subst (StepOf b rs fx landed) (sym is) (plain_on b rs fx landed b [] (rests_on b rs fx g.lives))
