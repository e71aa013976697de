-- What a step leaves of the leaves that wait.
use Rattle.std.specs.Prelude.{ℕ, List, [], ◌∷◌, ◌++◌, Option, Some, None, Bool, true, false, ◌||◌, if◌then◌else◌, map, ◌≡◌, ◌⊎◌, refl}
use Rattle.std.proofs.Common.{inl, inr, sym, subst, ap, ◌∙◌}
use Rattle.std.proofs.lemmas.List.{append-nil}
use Rattle.at_base.specs.Numbers.{Numbers}
use Rattle.at_base.specs.declared.epr.Epr.{Epr}
use Rattle.at_base.specs.declared.notice.Kind.{Kind}
use Rattle.at_base.specs.declared.notice.Kind.TheVariants as kinds
use Rattle.at_base.specs.declared.record.Record.{Record}
use Rattle.at_base.specs.declared.record.Record.TheVariants as records
use Rattle.at_base.specs.declared.event.Event.{Event}
use Rattle.at_base.specs.declared.event.Moment.{Moment}
use Rattle.at_base.specs.declared.outs.Out.{Out}
use Rattle.at_tables.specs.declared.cells.State.{State}
use Rattle.at_tables.specs.declared.cells.State.TheVariants as states
use Rattle.at_model.specs.Book.{find_by, Book, Leaf, is_id, leaf_id, put_by}
use Rattle.at_model.specs.Moves.{Change}
use Rattle.at_model.specs.Recovery.{kept, ends_leaf, is_before, is_promise, live}
use Rattle.at_model.specs.Step.{Outcome, Plan, at_time, branch, plain, put_leaf}
use Rattle.model_laws.specs.Agreement.{IsIn}
use Rattle.model_laws.specs.DrawnIds.{with_entry}
use Rattle.model_laws.specs.Order.{AreRising}
use Rattle.model_laws.proofs.DecisionLaws.{Both, in_branch, all_find}
use Rattle.model_laws.proofs.ItemIds.{IsOfTransaction}
use Rattle.model_laws.proofs.Order.{unmapped}
use Rattle.model_laws.proofs.RecoveryLaws.{same_id, self_id}
use Rattle.agreement.specs.LeafRecords.{Waiting}
use Rattle.agreement.specs.Branches.{Became, happened, recorded, undone}
use Rattle.agreement.specs.LeafDeeds.{for_durable, LeafIdles, rests, registered, registers_again, votes_again, LeafDeed, idles, aborts, prepares, leaves as gone, dropped, commits, rolls_back, LeafWaitsOn}
use Rattle.agreement.specs.Journals.{Confirms, drops}
use Rattle.agreement.proofs.Journals.{both_ways, journals_live}
use Rattle.agreement.proofs.Recoveries.{promise_kept}
use Rattle.agreement.proofs.LeafRecords.{is_other, in_ids, SameLeaves, no_record, knowing_leaves, all_in}

-- each live record of a leaf has its leaf
abbrev pub AllWait : Book → List Record → Type 0
AllWait b rs = (id : Numbers) (to : Epr) (key value : List ℕ) → IsIn (records.LeafPrepared id to key value) (live rs) → Waiting b id to key value

waiting_in : (b c : Book) (id : Numbers) (to : Epr) (key value : List ℕ) → ((l : Leaf) → IsIn l b.leaves → IsIn l c.leaves) → Waiting b id to key value → Waiting c id to key value
waiting_in b c id to key value f w = record {
  leaf = w.leaf;
  there = f w.leaf w.there;
  own = w.own;
  durable = w.durable;
  waits = w.waits;
  coordinator = w.coordinator;
  named = w.named;
  valued = w.valued;
}

own_promise : (id : Numbers) (to : Epr) (key value : List ℕ) → is_promise id (records.LeafPrepared id to key value) ≡ true
own_promise id to key value = yes (is_id id id) (self_id id)
  where
    yes : (b : Bool) → b ≡ true → (b || false) ≡ true
    yes true e = refl
    yes false e = absurd cc

-- a live one was live before, or is the one that was recorded
abbrev WasLive : List Record → Record → Record → Type 0
WasLive rs r x = (IsIn x (live rs) × (drops r x ≡ false)) ⊎ (x ≡ r)

was_live : (rs : List Record) (r : Record) (id : Numbers) (to : Epr) (key value : List ℕ) → IsIn (records.LeafPrepared id to key value) (live (rs ++ r ∷ []))
    → WasLive rs r (records.LeafPrepared id to key value)
was_live rs r id to key value h = sorted (journals_live.was rs r (records.LeafPrepared id to key value) h)
  where
    sorted : (IsIn (records.LeafPrepared id to key value) (live rs) × (drops r (records.LeafPrepared id to key value) ≡ false))
        ⊎ (IsIn (records.LeafPrepared id to key value) (kept r []) ⊎ Confirms rs r (records.LeafPrepared id to key value)) → WasLive rs r (records.LeafPrepared id to key value)
    sorted (inl k) = inl k
    sorted (inr (inl k)) = inr (promise_kept id (records.LeafPrepared id to key value) r [] k (own_promise id to key value)).0
    sorted (inr (inr k)) = let wrong : records.LeafPrepared id to key value ≡ records.SubCommitted k.id = k.same in absurd cc

abbrev NoLeafRecord : Record → Type 0
NoLeafRecord r = (id : Numbers) (to : Epr) (key value : List ℕ) → r ≡ records.LeafPrepared id to key value → ⊥

pub no_leaf_record : (i : Numbers) (r : Record) → IsOfTransaction i r → NoLeafRecord r
no_leaf_record i (records.Voted j s seats) h id to key value e = cc
no_leaf_record i (records.Decided j seats) h id to key value e = cc
no_leaf_record i (records.SubCommitted j) h id to key value e = cc
no_leaf_record i (records.Ended j) h id to key value e = cc
no_leaf_record i other h id to key value e = absurd h

-- a step that leaves the leaves there
more_wait : (b c : Book) (rs : List Record) (entry : Option Record) (landed : Bool) → ((l : Leaf) → IsIn l b.leaves → IsIn l c.leaves) → ((r : Record) → entry ≡ Some r → NoLeafRecord r)
    → AllWait b rs → AllWait c (with_entry entry landed rs)
more_wait b c rs None landed f g h id to key value k = waiting_in b c id to key value f (h id to key value k)
more_wait b c rs (Some r) false f g h id to key value k = waiting_in b c id to key value f (h id to key value k)
more_wait b c rs (Some r) true f g h id to key value k = sorted (was_live rs r id to key value k)
  where
    sorted : WasLive rs r (records.LeafPrepared id to key value) → Waiting c id to key value
    sorted (inl (i, e)) = waiting_in b c id to key value f (h id to key value i)
    sorted (inr e) = absurd (g r refl id to key value (sym e))

abbrev pub Waits : Book → List Record → Bool → Plan → Type 0
Waits b rs landed p = AllWait (branch p landed).book (with_entry p.entry landed rs)

pub same_wait : (b : Book) (rs : List Record) (landed : Bool) (p : Plan) → Both (SameLeaves b) p → ((r : Record) → p.entry ≡ Some r → NoLeafRecord r) → AllWait b rs → Waits b rs landed p
unfolding SameLeaves
same_wait b rs landed p same g h =
    more_wait b (branch p landed).book rs p.entry landed (λ l k. subst (IsIn l) (sym (in_branch (SameLeaves b) p landed same)) k) g h

pub plain_waits : (b : Book) (rs : List Record) (landed : Bool) (o : Outcome) → ((l : Leaf) → IsIn l b.leaves → IsIn l o.book.leaves) → AllWait b rs → Waits b rs landed (plain o)
plain_waits b rs true o f h = more_wait b o.book rs None true f (λ r e. no_record None r _ refl e) h
plain_waits b rs false o f h = more_wait b o.book rs None false f (λ r e. no_record None r _ refl e) h

-- a leaf that moves
in_put : (id : Numbers) (new : Option Leaf) (x : Leaf) (xs : List Leaf) → (x.id ≡ id → ⊥) → IsIn x xs → IsIn x (put_by leaf_id id new xs)
in_put id new x [] f h = absurd h
in_put id None x (y ∷ ys) f h = by_case (is_id y.id id) refl h (λ k. in_put id None x ys f k)
  where
    by_case : (b : Bool) → is_id y.id id ≡ b → IsIn x (y ∷ ys) → (IsIn x ys → IsIn x (put_by leaf_id id None ys)) → IsIn x (if b then ys else y ∷ put_by leaf_id id None ys)
    by_case true e (inl k) g = absurd (f (ap (λ (l : Leaf). l.id) k ∙ same_id y.id id e))
    by_case true e (inr k) g = k
    by_case false e (inl k) g = inl k
    by_case false e (inr k) g = inr (g k)
in_put id (Some z) x (y ∷ ys) f h = by_case (is_id y.id id) refl h (λ k. in_put id (Some z) x ys f k)
  where
    by_case : (b : Bool) → is_id y.id id ≡ b → IsIn x (y ∷ ys) → (IsIn x ys → IsIn x (put_by leaf_id id (Some z) ys)) → IsIn x (if b then z ∷ ys else y ∷ put_by leaf_id id (Some z) ys)
    by_case true e (inl k) g = absurd (f (ap (λ (l : Leaf). l.id) k ∙ same_id y.id id e))
    by_case true e (inr k) g = inr k
    by_case false e (inl k) g = inl k
    by_case false e (inr k) g = inr (g k)

put_there : (id : Numbers) (new x : Leaf) (xs : List Leaf) → x.id ≡ id → IsIn x xs → IsIn new (put_by leaf_id id (Some new) xs)
put_there id new x [] e h = absurd h
put_there id new x (y ∷ ys) e h = by_case (is_id y.id id) refl h (λ k. put_there id new x ys e k)
  where
    by_case : (b : Bool) → is_id y.id id ≡ b → IsIn x (y ∷ ys) → (IsIn x ys → IsIn new (put_by leaf_id id (Some new) ys)) → IsIn new (if b then new ∷ ys else y ∷ put_by leaf_id id (Some new) ys)
    by_case true f k g = inl refl
    by_case false f (inl k) g = absurd (both_ways (is_id y.id id) (subst (λ (l : Leaf). is_id l.id id ≡ true) k (subst (λ i. is_id x.id i ≡ true) e (self_id x.id))) f)
    by_case false f (inr k) g = inr (g k)

only_one : (x y : Leaf) (xs : List Leaf) → AreRising (map leaf_id xs) → IsIn x xs → IsIn y xs → x.id ≡ y.id → x ≡ y
only_one x y [] rise h k e = absurd h
only_one x y (z ∷ zs) (before, rise) (inl f) (inl g) e = f ∙ sym g
only_one x y (z ∷ zs) (before, rise) (inr h) (inr k) e = only_one x y zs rise h k e
only_one x y (z ∷ zs) (before, rise) (inl f) (inr k) e = absurd (is_other z.id y.id (in_ids (λ i. is_before z.id i ≡ true) leaf_id zs (unmapped (λ i. is_before z.id i ≡ true) leaf_id zs before) y.id (id_in zs k)) (ap (λ (l : Leaf). l.id) (sym f) ∙ e))
  where
    id_in : (ws : List Leaf) → IsIn y ws → IsIn y.id (map leaf_id ws)
    id_in [] i = absurd i
    id_in (w ∷ ws) (inl i) = inl (ap (λ (l : Leaf). l.id) i)
    id_in (w ∷ ws) (inr i) = inr (id_in ws i)
only_one x y (z ∷ zs) (before, rise) (inr h) (inl g) e = absurd (is_other z.id x.id (in_ids (λ i. is_before z.id i ≡ true) leaf_id zs (unmapped (λ i. is_before z.id i ≡ true) leaf_id zs before) x.id (id_in zs h)) (ap (λ (l : Leaf). l.id) (sym g) ∙ sym e))
  where
    id_in : (ws : List Leaf) → IsIn x ws → IsIn x.id (map leaf_id ws)
    id_in [] i = absurd i
    id_in (w ∷ ws) (inl i) = inl (ap (λ (l : Leaf). l.id) i)
    id_in (w ∷ ws) (inr i) = inr (id_in ws i)

-- what is left of one that waits, while its record is live
abbrev IsLeft : Leaf → Option Leaf → Type 0
IsLeft l o = (left : Leaf) × (o ≡ Some left) × (left.id ≡ l.id) × (left.kind ≡ l.kind) × (left.state ≡ states.PreparedSuccess) × (left.coordinator ≡ l.coordinator) × (left.key ≡ l.key) × (left.value ≡ l.value)

state_clash : (s : State) → s ≡ states.PreparedSuccess → (s ≡ states.Registering) ⊎ (s ≡ states.Active) → ⊥
state_clash s e (inl f) = let wrong : states.PreparedSuccess ≡ states.Registering = sym e ∙ f in cc
state_clash s e (inr f) = let wrong : states.PreparedSuccess ≡ states.Active = sym e ∙ f in cc

idle_left : (m : Moment) (e : Event) (l left : Leaf) (c : Change Leaf) → l.state ≡ states.PreparedSuccess → c.item ≡ Some left → LeafIdles m e l left c.posts → IsLeft l c.item
idle_left m e l left c w item (rests is p) = (l, item ∙ ap Some is, refl, refl, w, refl, refl, refl)
idle_left m e l left c w item (registered to r came f s q is p) = absurd (state_clash l.state w (inl s))
idle_left m e l left c w item (registers_again r came s q is p) = absurd (state_clash l.state w (inl s))
idle_left m e l left c w item (votes_again to came s k is p) = (record l { sent = Some m.now }, item ∙ ap Some is, refl, refl, w, refl, refl, refl)

-- the record doesn't end it
abbrev Spares : Numbers → Option Record → Type 0
Spares id None = Unit {0}
Spares id (Some r) = ends_leaf id r ≡ false

ended : (id : Numbers) (kind : Kind) (r : Record) → kind ≡ kinds.Durable → ends_leaf id r ≡ true → Spares id (for_durable kind r) → ⊥
ended id kinds.Durable r k e s = both_ways (ends_leaf id r) e s
ended id kinds.Volatile r k e s = let wrong : kinds.Volatile ≡ kinds.Durable = k in cc

self_ends : (id : Numbers) → (is_id id id || false) ≡ true
self_ends id = yes (is_id id id) (self_id id)
  where
    yes : (b : Bool) → b ≡ true → (b || false) ≡ true
    yes true e = refl
    yes false e = absurd cc

deed_left : (m : Moment) (e : Event) (l : Leaf) (entry : Option Record) (c : Change Leaf) → l.kind ≡ kinds.Durable → l.state ≡ states.PreparedSuccess → Spares l.id entry
    → LeafDeed m e l entry c → IsLeft l c.item
deed_left m e l entry c d w s (idles left why f item effects) = idle_left m e l left c w item why
deed_left m e l entry c d w s (aborts st why f item effects) = absurd (state_clash l.state w st)
deed_left m e l entry c d w s (prepares to came st v k f item effects p) = absurd (state_clash l.state w (inr st))
deed_left m e l entry c d w s (gone to came st v k f item effects p) = absurd (state_clash l.state w (inr st))
deed_left m e l entry c d w s (dropped came k f item effects p) = let wrong : kinds.Volatile ≡ kinds.Durable = sym k ∙ d in absurd cc
deed_left m e l entry c d w s (commits to came st k f item effects p) =
    absurd (ended l.id l.kind (records.LeafCommitted l.id) d (self_ends l.id) (subst (Spares l.id) f s))
deed_left m e l entry c d w s (rolls_back to came st k f item effects p) =
    absurd (ended l.id l.kind (records.LeafAborted l.id) d (self_ends l.id) (subst (Spares l.id) f s))

-- the leaf of a new record
new_kind : (kind : Kind) (r x : Record) → for_durable kind r ≡ Some x → (kind ≡ kinds.Durable) × (r ≡ x)
new_kind kinds.Durable r x e = (refl, some_record r x e)
  where
    some_record : (r x : Record) → Some r ≡ Some x → r ≡ x
    some_record r x e = cc
new_kind kinds.Volatile r x e = absurd cc

none_some : {A : Type 0} (o : Option A) (x : A) (P : Type 0) → o ≡ None → o ≡ Some x → P
none_some o x P e f = absurd cc

deed_new : (m : Moment) (e : Event) (l : Leaf) (entry : Option Record) (c : Change Leaf) (b : Book) (id : Numbers) (to : Epr) (key value : List ℕ) → IsIn l b.leaves
    → entry ≡ Some (records.LeafPrepared id to key value) → LeafDeed m e l entry c → Waiting (record b { leaves = put_by leaf_id l.id c.item b.leaves }) id to key value
deed_new m e l entry c b id to key value there is (idles left why f item effects) = none_some entry _ _ f is
deed_new m e l entry c b id to key value there is (aborts s why f item effects) = none_some entry _ _ f is
deed_new m e l entry c b id to key value there is (prepares own came s v k f item effects p) =
    let (d, same) = new_kind l.kind (records.LeafPrepared l.id own l.key l.value) (records.LeafPrepared id to key value) (sym f ∙ is) in
    let ids : l.id ≡ id = cc in
    let tos : own ≡ to = cc in
    let keys : l.key ≡ key = cc in
    let values : l.value ≡ value = cc in
    record {
      leaf = record l { state = states.PreparedSuccess; sent = Some m.now };
      there = subst (λ o. IsIn (record l { state = states.PreparedSuccess; sent = Some m.now }) (put_by leaf_id l.id o b.leaves)) (sym item)
          (put_there l.id (record l { state = states.PreparedSuccess; sent = Some m.now }) l b.leaves refl there);
      own = ids;
      durable = d;
      waits = refl;
      coordinator = k ∙ ap Some tos;
      named = keys;
      valued = values;
    }
deed_new m e l entry c b id to key value there is (gone own came s v k f item effects p) = none_some entry _ _ f is
deed_new m e l entry c b id to key value there is (dropped came k f item effects p) = none_some entry _ _ f is
deed_new m e l entry c b id to key value there is (commits own came s k f item effects p) =
    let (d, same) = new_kind l.kind (records.LeafCommitted l.id) (records.LeafPrepared id to key value) (sym f ∙ is) in absurd cc
deed_new m e l entry c b id to key value there is (rolls_back own came s k f item effects p) =
    let (d, same) = new_kind l.kind (records.LeafAborted l.id) (records.LeafPrepared id to key value) (sym f ∙ is) in absurd cc

-- one that waited still does
deed_old : (m : Moment) (e : Event) (l : Leaf) (entry : Option Record) (c : Change Leaf) (b : Book) (id : Numbers) (to : Epr) (key value : List ℕ) → IsIn l b.leaves
    → AreRising (map leaf_id b.leaves) → Spares id entry → LeafDeed m e l entry c → Waiting b id to key value → Waiting (record b { leaves = put_by leaf_id l.id c.item b.leaves }) id to key value
deed_old m e l entry c b id to key value there rise s deed w = by_case (is_id w.leaf.id l.id) refl
  where
    ours : w.leaf ≡ l → Waiting (record b { leaves = put_by leaf_id l.id c.item b.leaves }) id to key value
    ours same =
        let own : l.id ≡ id = ap (λ (x : Leaf). x.id) (sym same) ∙ w.own in
        let (left, item, ids, kinds, state, coordinator, keys, values) =
        deed_left m e l entry c (ap (λ (x : Leaf). x.kind) (sym same) ∙ w.durable) (ap (λ (x : Leaf). x.state) (sym same) ∙ w.waits) (subst (λ i. Spares i entry) (sym own) s) deed in
        record {
          leaf = left;
          there = subst (λ o. IsIn left (put_by leaf_id l.id o b.leaves)) (sym item) (put_there l.id left l b.leaves refl there);
          own = ids ∙ own;
          durable = kinds ∙ ap (λ (x : Leaf). x.kind) (sym same) ∙ w.durable;
          waits = state;
          coordinator = coordinator ∙ ap (λ (x : Leaf). x.coordinator) (sym same) ∙ w.coordinator;
          named = keys ∙ ap (λ (x : Leaf). x.key) (sym same) ∙ w.named;
          valued = values ∙ ap (λ (x : Leaf). x.value) (sym same) ∙ w.valued;
        }

    by_case : (q : Bool) → is_id w.leaf.id l.id ≡ q → Waiting (record b { leaves = put_by leaf_id l.id c.item b.leaves }) id to key value
    by_case true f = ours (only_one w.leaf l b.leaves rise w.there there (same_id w.leaf.id l.id f))
    by_case false f = record {
      leaf = w.leaf;
      there = in_put l.id c.item w.leaf b.leaves (λ g. both_ways (is_id w.leaf.id l.id) (subst (λ i. is_id w.leaf.id i ≡ true) g (self_id w.leaf.id)) f) w.there;
      own = w.own;
      durable = w.durable;
      waits = w.waits;
      coordinator = w.coordinator;
      named = w.named;
      valued = w.valued;
    }

deed_waits : (rs : List Record) (m : Moment) (e : Event) (l : Leaf) (entry : Option Record) (c : Change Leaf) (b : Book) → IsIn l b.leaves → AreRising (map leaf_id b.leaves)
    → LeafDeed m e l entry c → AllWait b rs → AllWait (record b { leaves = put_by leaf_id l.id c.item b.leaves }) (rs ++ recorded entry)
deed_waits rs m e l None c b there rise deed h id to key value k =
    deed_old m e l None c b id to key value there rise tt deed (h id to key value (subst (λ ys. IsIn (records.LeafPrepared id to key value) (live ys)) (append-nil rs) k))
deed_waits rs m e l (Some r) c b there rise deed h id to key value k = sorted (was_live rs r id to key value k)
  where
    sorted : WasLive rs r (records.LeafPrepared id to key value) → Waiting (record b { leaves = put_by leaf_id l.id c.item b.leaves }) id to key value
    sorted (inl (i, s)) = deed_old m e l (Some r) c b id to key value there rise s deed (h id to key value i)
    sorted (inr same) = deed_new m e l (Some r) c b id to key value there (ap Some (sym same)) deed

same_leaves : (b c : Book) (rs : List Record) → b.leaves ≡ c.leaves → AllWait b rs → AllWait c rs
same_leaves b c rs e h id to key value k = waiting_in b c id to key value (λ l i. subst (IsIn l) e i) (h id to key value k)

pub became_waits : (b : Book) (rs : List Record) (now : ℕ) (m : Moment) (e : Event) (l : Leaf) (answer : List Out) (p : Plan) (landed : Bool)
    → Became (LeafDeed m e l) (LeafWaitsOn l) b (put_leaf l.id (at_time now b)) answer p landed → IsIn l b.leaves → AreRising (map leaf_id b.leaves) → AllWait b rs → Waits b rs landed p
became_waits b rs now m e l answer p landed (happened entry c deed journal book outs effects) there rise h =
    subst (AllWait (branch p landed).book) (sym (journal rs))
    (same_leaves (record b { leaves = put_by leaf_id l.id c.item b.leaves }) (branch p landed).book (rs ++ recorded entry)
    (sym (ap (λ (x : Book). x.leaves) book ∙ knowing_leaves entry (put_leaf l.id (at_time now b) c.item))) (deed_waits rs m e l entry c b there rise deed h))
became_waits b rs now m e l answer p landed (undone r u entry failed is) there rise h =
    subst (AllWait (branch p landed).book) (sym (λ i. with_entry (entry i) (failed i) rs))
    (same_leaves b (branch p landed).book rs (sym (ap (λ (o : Outcome). o.book.leaves) is)) h)

pub found_in : {A : Type 0} (key : A → Numbers) (id : Numbers) (xs : List A) (x : A) → find_by key id xs ≡ Some x → IsIn x xs
found_in key id xs x e = all_find (λ y. IsIn y xs) key id xs x (all_in (λ y. IsIn y xs) xs (λ y h. h)) e
