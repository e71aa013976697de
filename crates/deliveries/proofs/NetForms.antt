-- What is asked of endpoints and texts holds of all that nodes come to that serve and post to one another.
use Rattle.std.specs.Prelude.{ℕ, List, [], ◌∷◌, ◌++◌, ◌+◌, ◌-◌, ◌≡◌, ◌≤◌, ◌⊎◌, Some, None, IfSome, Bool, true, false, nat_eq, if◌then◌else◌, map, zero, suc}
use Rattle.std.specs.List.{AllByRecursion}
use Rattle.std.proofs.Common.{inl, inr, refl, sym, subst, ap, arith, ◌∙◌}
use Rattle.std.proofs.lemmas.Bool.{cases_eq, eqb-true}
use Rattle.std.proofs.lemmas.List.{append-nil}
use Rattle.at_base.specs.declared.event.Event.{Event}
use Rattle.at_base.specs.declared.event.Event.TheVariants as events
use Rattle.at_base.specs.declared.event.Local.{Local}
use Rattle.at_base.specs.declared.outs.Post.{Post}
use Rattle.at_base.specs.declared.record.Record.{Record}
use Rattle.at_base.specs.declared.record.Record.TheVariants as records
use Rattle.at_model.specs.Book.{Book, last_counter}
use Rattle.at_model.specs.Recovery.{last_incarnation, recover}
use Rattle.at_model.specs.Step.{Outcome, items_of, plan, step}
use Rattle.at_model.specs.World.{Hosts, IsNumber, Posted, nth, put_nth}
use Rattle.decision_log.specs.KeptRecords.{Known, kept_of}
use Rattle.decision_log.specs.ShrunkJournals.{ShrinksTheSame}
use Rattle.deliverables.specs.Deliverables.{NodesOwnIsDeliverable, deliverable}
use Rattle.endpoints.specs.Addresses.{PathsNameTargets}
use Rattle.interposition.specs.Due.{WalksTheDue, due_outcomes}
use Rattle.journal_at.specs.declared.version.Version.{Version}
use Rattle.journal_at.specs.declared.version.Version.TheVariants.{Two}
use Rattle.model_laws.specs.Agreement.{IsIn}
use Rattle.model_laws.specs.Compactions.{RecoversTheCompacted}
use Rattle.model_laws.specs.Laws.{IncarnationsRise, StepsKeepPlace}
use Rattle.node_at.specs.Doings.{Doing, book_behind}
use Rattle.node_at.specs.Endings.{Ends}
use Rattle.node_at.specs.Locals.{cleared}
use Rattle.node_at.specs.Meanings.{Hears, IsFit, Meaning, next_input}
use Rattle.node_at.specs.Meanings.Meaning.{Steps}
use Rattle.node_at.specs.ShrunkJournals.{AreSame, Shrinks}
use Rattle.node_at.specs.StartedNodes.{IsStarted}
use Rattle.node_at.specs.Starts.{carried, start_after}
use Rattle.node_at.specs.State.{State}
use Rattle.node_at.specs.Steps.{IsDone, if_landed}
use Rattle.node_at.specs.TurnText.{Steppings, TurnStep}
use Rattle.node_at.specs.TurnText.Steppings.{asked}
use Rattle.node_at.specs.Turns.{Begun, Turns, Whole, busy, calm}
use Rattle.node_at.specs.Turns.Begun.{none, some}
use Rattle.node_at.specs.declared.role.Role.{Role}
use Rattle.node_at.specs.declared.shrink.Shrunk.{Shrunk}
use Rattle.node_at.specs.declared.shrink.Shrunk.TheVariants as shrunks
use Rattle.node_at.specs.declared.turn.Turned.{Turned}
use Rattle.node_at.specs.declared.turn.Turned.TheVariants as turneds
use Rattle.node_worlds.specs.Nets.{Brings, IsOpened, Net, Place, Runs, as_far, begun_in, doings_in, new_place, new_places, posts_from, steps_in}
use Rattle.node_worlds.specs.SentPosts.{AreSent, Sent, recorded, records_by}
use Rattle.node_worlds.proofs.NetWorlds.{carried_last, not_halted, same_last}
use Rattle.node_worlds.proofs.Places.{nth_other, nth_this}
use Rattle.provenance.specs.Forms.{Forms, HaveOwn, IsBook, IsEvent, IsLocal, IsPost, IsRecord}
use Rattle.provenance.specs.Provenance.{RecoveryPassesOn, StepsPassOn}
use Rattle.site_model.specs.Told.{Told}
use Rattle.deliveries.specs.DeliverableNets.{AsksOf, IsNetOf, IsPlaceOf, IsPostedOf, IsStateOf, NetsCanDeliver}
use Rattle.deliveries.proofs.HeardForms.{heard}
use Rattle.deliveries.proofs.TurnForms.{Fits, Gives, all_join, empty_gives, front_gives, given_as, none_given, one_gives, refused_gives, step_gives}

same_some : {A : Type 0} (x y : A) → Some x ≡ Some y → x ≡ y
same_some x y e = cc

-- the places of a net that nobody has started in
opens_at : (k i : ℕ) (p : Place) → nth i (new_places k) ≡ Some p → (p ≡ new_place) × (1 ≤ i) × (i ≤ k)
opens_at zero i p e = absurd cc
opens_at (suc k) i p e = by_number (λ f. opens_at k (i - 1) p f) (cases_eq i 1) e
  where
    by_number : (nth (i - 1) (new_places k) ≡ Some p → (p ≡ new_place) × (1 ≤ i - 1) × (i - 1 ≤ k)) → (i ≡ 1) ⊎ (i ≡ 1 → ⊥)
        → (if nat_eq i 1 then Some new_place else nth (i - 1) (new_places k)) ≡ Some p → (p ≡ new_place) × (1 ≤ i) × (i ≤ suc k)
    by_number rest (inl here) f =
        let same : Some new_place ≡ Some p = ap (λ j. if nat_eq j 1 then Some new_place else nth (i - 1) (new_places k)) (sym here) ∙ f in
        (sym (same_some new_place p same), omega (arith, here), omega (arith, here))
    by_number rest (inr other) f =
        let (is, least, most) = rest (ap (λ b. if b then Some new_place else nth (i - 1) (new_places k)) (sym (not_eq i other)) ∙ f) in
        (is, omega (arith, least), omega (arith, most, least))
      where
        not_eq : (n : ℕ) → (n ≡ 1 → ⊥) → nat_eq n 1 ≡ false
        not_eq n h = by (nat_eq n 1) refl
          where
            by : (b : Bool) → nat_eq n 1 ≡ b → nat_eq n 1 ≡ false
            by true e = absurd (h (eqb-true n 1 e))
            by false e = e

pub opens : (F : Forms) (hosts : Hosts) (i : ℕ) (p : Place) → nth i (new_places hosts.count) ≡ Some p → IsPlaceOf F hosts i p
opens F hosts i p e =
    let (is, least, most) = opens_at hosts.count i p e in
    subst (IsPlaceOf F hosts i) (sym is) (record { number = (least, most); records = tt; node = tt })

abbrev pub ArePlaces : Forms → Hosts → List Place → Type 0
ArePlaces F hosts places = (i : ℕ) (p : Place) → nth i places ≡ Some p → IsPlaceOf F hosts i p

-- one place changed
pub put_place : (F : Forms) (hosts : Hosts) (places : List Place) (i : ℕ) (p q : Place) → nth i places ≡ Some p → ArePlaces F hosts places → IsPlaceOf F hosts i q → ArePlaces F hosts (put_nth i q places)
put_place F hosts places i p q here all new j r e = by_number (cases_eq j i)
  where
    by_number : (j ≡ i) ⊎ (j ≡ i → ⊥) → IsPlaceOf F hosts j r
    by_number (inl f) =
        let place : q ≡ r = same_some q r (sym (nth_this places i p q here) ∙ ap (λ k. nth k (put_nth i q places)) (sym f) ∙ e) in
        subst (λ k. IsPlaceOf F hosts k r) (sym f) (subst (IsPlaceOf F hosts i) place new)
    by_number (inr f) = all j r (sym (nth_other places j i q f) ∙ e)

posts_given : (F : Forms) (hosts : Hosts) (i : ℕ) (ps : List Post) → AllByRecursion (IsPost F) ps → AllByRecursion (IsPostedOf F hosts) (posts_from hosts i ps)
posts_given F hosts i [] h = tt
posts_given F hosts i (p ∷ ps) (h, k) = (record { content = h; received = refl }, posts_given F hosts i ps k)

pub posted_in : (F : Forms) (hosts : Hosts) (all : List Posted) (p : Posted) → AllByRecursion (IsPostedOf F hosts) all → IsIn p all → IsPostedOf F hosts p
posted_in F hosts [] p h k = absurd k
posted_in F hosts (q ∷ qs) p (h, more) (inl e) = subst (IsPostedOf F hosts) (sym e) h
posted_in F hosts (q ∷ qs) p (h, more) (inr k) = posted_in F hosts qs p more k

-- the end of a turn keeps the book
shrink_book : (shrunk : Shrunk) (n m : State) (old new : Told) → Shrinks shrunk n m old new → m.book ≡ n.book
shrink_book shrunks.NotDue n m old new (inl (due, e)) = ap (λ (z : State). z.book) e
shrink_book shrunks.NotDue n m old new (inr (inl a)) = ap (λ (z : State). z.book) a.same
shrink_book shrunks.NotDue n m old new (inr (inr a)) = ap (λ (z : State). z.book) a.same
shrink_book shrunks.Done n m old new a = ap (λ (z : State). z.book) a.same
shrink_book shrunks.Kept n m old new a = ap (λ (z : State). z.book) a.same
shrink_book shrunks.NoMemory n m old new (due, e) = ap (λ (z : State). z.book) e

pub ends_book : {S : Type 0} (told : S → Told) (first result : Turned) (shrunk : Shrunk) (n m : State) (old new : S) → Ends told first result shrunk n m old new → m.book ≡ n.book
ends_book told (turneds.Served status) result shrunk n m old new e = shrink_book shrunk n m (told old) (told new) e.shrinks
ends_book told turneds.Ticked result shrunk n m old new e = shrink_book shrunk n m (told old) (told new) e.shrinks
ends_book told turneds.NoRoom result shrunk n m old new e = ap (λ (z : State). z.book) e.node
ends_book told turneds.Halted result shrunk n m old new e = ap (λ (z : State). z.book) e.node
ends_book told turneds.Closed result shrunk n m old new e = ap (λ (z : State). z.book) e.node
ends_book told turneds.LinkDown result shrunk n m old new e = ap (λ (z : State). z.book) e.node

same_book : RecoversTheCompacted → (base : List ℕ) (xs ys : List Record) → kept_of Two xs ≡ kept_of Two ys → recover base xs ≡ recover base ys
same_book law base xs ys e =
    sym (law.book base xs) ∙ ap (λ (k : Known). recover base (records.Start k.start ∷ (k.live ++ map records.Done k.done))) e ∙ law.book base ys

start_kept : ShrinksTheSame → (version : Version) (rs ps : List Record) → AreSame (carried version rs) ps
    → kept_of Two (ps ++ start_after ps ∷ []) ≡ kept_of Two (carried version rs ++ start_after rs ∷ [])
start_kept law version rs ps same =
    let last : last_incarnation ps ≡ last_incarnation rs = sym (same_last (carried version rs) ps same) ∙ carried_last law version rs in
    ap (λ k. kept_of Two (ps ++ records.Start (k + 1) ∷ [])) last ∙ sym (same (start_after rs ∷ []))

pub state_of : (F : Forms) (base : List ℕ) (p : Place) (n : State) → p.node ≡ Some n → IfSome p.node (IsStateOf F base) → IsStateOf F base n
state_of F base p n up h = subst (λ o. IfSome o (IsStateOf F base)) up h

module _ (F : Forms) (pass : StepsPassOn F) (again : RecoveryPassesOn F) (paths : PathsNameTargets) (place : StepsKeepPlace) (law : WalksTheDue)
    (compacts : RecoversTheCompacted) (shrinks : ShrinksTheSame) (rises : IncarnationsRise) (hosts : Hosts) (own : (i : ℕ) → IsNumber hosts i → HaveOwn F (hosts.base_of i)) where
  -- what a connection brings
  pub delivered : (net : Net) (i : ℕ) (role : Role) (s : Told) (meaning : Meaning) → AllByRecursion (IsPostedOf F hosts) net.posted → Brings hosts net i role s
      → Hears role (next_input s.link) meaning → IsFit meaning → (e : Event) → meaning ≡ Steps e → IsEvent F e
  delivered net i role s meaning posted brings hears fit (events.Arrived a) is =
      let (p, stands, received, decodes) = brings.posted a (subst (λ o. Hears role o (Steps (events.Arrived a))) brings.tells (subst (λ z. Hears role (next_input s.link) z) is hears)) in
      heard F paths p.content (hosts.base_of i) a (posted_in F hosts net.posted p posted stands).content decodes
  delivered net i role s meaning posted brings hears fit (events.Local l) is = absurd (subst IsFit is fit).1
  delivered net i role s meaning posted brings hears fit (events.Due item) is = absurd (subst IsFit is fit).1
  delivered net i role s meaning posted brings hears fit events.Tick is = tt

  module _ (i : ℕ) (number : IsNumber hosts i) where
    abbrev pub base : List ℕ
    base = hosts.base_of i

    -- of a turn for which memory ran out
    busy_gives : (b : Book) (ds : List Doing) (ps : List Post) → Fits F base b → AreSent (busy b []) ds ps → Gives F base b [] ps
    busy_gives b [] ps h sent = absurd sent
    busy_gives b (d ∷ []) ps h (qs, rs, one, others, e) = given_as F base b [] qs ps (sym (e ∙ ap (λ z. qs ++ z) others ∙ append-nil qs)) (refused_gives F base pass place law (own i number) b 503 None d qs h one)
    busy_gives b (d ∷ (f ∷ ds)) ps h (qs, rs, one, others, e) = absurd others

    begun_gives : (now status : ℕ) (meaning : Meaning) (b : Book) (left : List Outcome) (steps : List TurnStep) (ds : List Doing) (ps : List Post) → Fits F base b
        → ((e : Event) → meaning ≡ Steps e → IsEvent F e) → Steppings now b left meaning steps status → AreSent (steps ++ busy b steps) ds ps
        → Gives F base (book_behind b (steps ++ busy b steps)) (recorded (steps ++ busy b steps)) ps
    begun_gives now status meaning b left [] ds ps h event turns sent = busy_gives b ds ps h sent
    begun_gives now status meaning b left (s ∷ ss) ds ps h event turns sent =
        subst (λ z. Gives F base (book_behind b z) (recorded z) ps) (sym (append-nil (s ∷ ss)))
        (front_gives F base pass place law (own i number) b now left meaning (s ∷ ss) status turns (s ∷ ss) [] ds ps h event (sym (append-nil (s ∷ ss)))
        (subst (λ z. AreSent z ds ps) (append-nil (s ∷ ss)) sent))

    some_give : (now : ℕ) (meaning : Meaning) (b : Book) (steps : List TurnStep) (ds : List Doing) (ps : List Post) → Fits F base b → ((e : Event) → meaning ≡ Steps e → IsEvent F e)
        → Begun meaning now b steps → AreSent (steps ++ busy b steps) ds ps → Gives F base (book_behind b (steps ++ busy b steps)) (recorded (steps ++ busy b steps)) ps
    some_give now meaning b steps ds ps h event none sent = busy_gives b ds ps h sent
    some_give now meaning b steps ds ps h event (some status left turns more) sent = begun_gives now status meaning b left steps ds ps h event turns sent

    begun_front : (now : ℕ) (meaning : Meaning) (b : Book) (steps front rest : List TurnStep) (ds : List Doing) (ps : List Post) → Fits F base b
        → ((e : Event) → meaning ≡ Steps e → IsEvent F e) → Begun meaning now b steps → steps ≡ front ++ rest → AreSent front ds ps
        → Gives F base (book_behind b front) (recorded front) ps
    begun_front now meaning b steps front rest ds ps h event none e sent = empty_gives F base pass place law (own i number) b front rest ds ps h e sent
    begun_front now meaning b steps front rest ds ps h event (some status left turns more) e sent =
        front_gives F base pass place law (own i number) b now left meaning steps status turns front rest ds ps h event e sent

    whole_gives : (lines : List Doing) (meaning : Meaning) (now status : ℕ) (n m : State) (old new : Told) (ps : List Post) → Fits F base n.book
        → ((e : Event) → meaning ≡ Steps e → IsEvent F e) → (w : Whole lines meaning now status (calm n) m old new) → AreSent w.steps w.doings ps → Gives F base m.book (recorded w.steps) ps
    whole_gives lines meaning now status n m old new ps h event w sent =
        subst (λ b. Gives F base b (recorded w.steps) ps) (sym w.ran.book)
        (front_gives F base pass place law (own i number) n.book now [] meaning w.steps status w.turns w.steps [] w.doings ps h event (sym (append-nil w.steps)) sent)

    -- the steps of a turn
    abbrev pub Delivers : Turned → Role → Told → Type 0
    Delivers first role old = (meaning : Meaning) → IsOpened first → Hears role (next_input old.link) meaning → IsFit meaning → (e : Event) → meaning ≡ Steps e → IsEvent F e

    pub turn_gives : (first : Turned) (role : Role) (n m : State) (old new : Told) (ps : List Post) → Fits F base n.book → (t : Turns first role n m old new)
        → (first ≡ turneds.Halted → ⊥) → Delivers first role old
        → AreSent (steps_in first role n m old new t) (doings_in first role n m old new t) ps → Gives F base m.book (recorded (steps_in first role n m old new t)) ps
    turn_gives (turneds.Served status) role n m old new ps h t runs event sent =
        whole_gives _ t.serves.meaning t.serves.now status n m old new ps h (event t.serves.meaning tt t.serves.heard t.serves.fit) t.serves.works.0 sent
    turn_gives turneds.Ticked role n m old new ps h t runs event sent =
        whole_gives _ t.serves.meaning t.serves.now 202 n m old new ps h (event t.serves.meaning tt t.serves.heard t.serves.fit) t.serves.works.0 sent
    turn_gives turneds.NoRoom role n m old new ps h t runs event sent =
        let w = t.serves.works in
        subst (λ b. Gives F base b (recorded (w.steps ++ busy n.book w.steps)) ps) (sym w.ran.book)
        (some_give t.serves.now t.serves.meaning n.book w.steps w.doings ps h (event t.serves.meaning tt t.serves.heard t.serves.fit) w.begun sent)
    turn_gives turneds.Halted role n m old new ps h t runs event sent = absurd (runs refl)
    turn_gives turneds.Closed role n m old new ps h t runs event sent =
        subst (λ (z : State). Gives F base z.book [] ps) (sym t.1.same) (given_as F base n.book [] [] ps (sym sent) (none_given F base n.book h))
    turn_gives turneds.LinkDown role n m old new ps h t runs event sent =
        subst (λ (z : State). Gives F base z.book [] ps) (sym t.1.same) (given_as F base n.book [] [] ps (sym sent) (none_given F base n.book h))

    -- those of a turn that is cut off
    pub turn_front : (first : Turned) (role : Role) (n m : State) (old new : Told) (front rest : List TurnStep) (ds : List Doing) (ps : List Post) → Fits F base n.book
        → (t : Turns first role n m old new) → Delivers first role old → begun_in first role n m old new t ≡ front ++ rest → AreSent front ds ps
        → Gives F base (book_behind n.book front) (recorded front) ps
    turn_front (turneds.Served status) role n m old new front rest ds ps h t event e sent =
        front_gives F base pass place law (own i number) n.book t.serves.now [] t.serves.meaning t.serves.works.0.steps status t.serves.works.0.turns front rest ds ps h
        (event t.serves.meaning tt t.serves.heard t.serves.fit) e sent
    turn_front turneds.Ticked role n m old new front rest ds ps h t event e sent =
        front_gives F base pass place law (own i number) n.book t.serves.now [] t.serves.meaning t.serves.works.0.steps 202 t.serves.works.0.turns front rest ds ps h
        (event t.serves.meaning tt t.serves.heard t.serves.fit) e sent
    turn_front turneds.NoRoom role n m old new front rest ds ps h t event e sent =
        begun_front t.serves.now t.serves.meaning n.book t.serves.works.steps front rest ds ps h (event t.serves.meaning tt t.serves.heard t.serves.fit) t.serves.works.begun e sent
    turn_front turneds.Halted role n m old new front rest ds ps h (inl t) event e sent = empty_gives F base pass place law (own i number) n.book front rest ds ps h e sent
    turn_front turneds.Halted role n m old new front rest ds ps h (inr t) event e sent =
        let w = t.1.serves.works in
        let left = due_outcomes t.1.serves.now (items_of w.step.behind) w.step.behind in
        front_gives F base pass place law (own i number) n.book t.1.serves.now left t.1.serves.meaning (w.step ∷ []) w.status
        (asked w.step [] w.is_first (record { done = []; are = tt; all = refl }) refl) front rest ds ps h (event t.1.serves.meaning tt t.1.serves.heard t.1.serves.fit) e sent
    turn_front turneds.Closed role n m old new front rest ds ps h t event e sent = empty_gives F base pass place law (own i number) n.book front rest ds ps h e sent
    turn_front turneds.LinkDown role n m old new front rest ds ps h t event e sent = empty_gives F base pass place law (own i number) n.book front rest ds ps h e sent

    -- a request
    pub asked_gives : (n m : State) (l : Local) (now status : ℕ) (old new : Told) (ps : List Post) → Fits F base n.book → IsLocal F l
        → (done : IsDone status (cleared n) m (events.Local l) now old new) → Sent done.leaving done.went.made ps
        → Gives F base m.book (records_by (if_landed done.landed (plan n.book (events.Local l) now).entry)) ps
    asked_gives n m l now status old new ps h local done sent =
        subst (λ b. Gives F base b (records_by (if_landed done.landed (plan n.book (events.Local l) now).entry)) ps) (sym done.went.book)
        (step_gives F base pass place law (own i number) n.book (events.Local l) now s (record { landed = []; first = []; made = done.went.made; lost = 0; refused = 0 }) ps h local
        (record { entry = refl; outcome = record { leaving = done.are; behind = refl; came = refl } }) sent)
      where
        s : TurnStep
        s = record {
          entry = (plan n.book (events.Local l) now).entry;
          landed = done.landed;
          leaving = done.leaving;
          behind = (step n.book (events.Local l) now done.landed).book;
          came = (step n.book (events.Local l) now done.landed).effects;
        }

    with_start_records : (p : Place) → AllByRecursion (IsRecord F) p.records → AllByRecursion (IsRecord F) (p.records ++ start_after p.records ∷ [])
    with_start_records p h = all_join (IsRecord F) p.records (start_after p.records ∷ []) h (tt, tt)

    -- a start behind which it keeps what its records make
    pub started_fits : (p : Place) (n : State) (limit : ℕ) (old new : Told) → AllByRecursion (IsRecord F) p.records → (start : IsStarted base limit n old new)
        → kept_of Two (p.records ++ start_after p.records ∷ []) ≡ kept_of Two (carried start.version start.rs ++ start_after start.rs ∷ []) → IsStateOf F base n
    started_fits p n limit old new fit start kept = record {
      book = subst (IsBook F) book (again base (p.records ++ start_after p.records ∷ []) (all_join (IsRecord F) p.records (start_after p.records ∷ []) fit (tt, tt)) least most);
      base = ap (λ (b : Book). b.base) start.book;
    }
      where
        reached : last_incarnation (p.records ++ start_after p.records ∷ []) ≡ last_incarnation p.records + 1
        reached = (rises p.records).0

        found : last_incarnation (carried start.version start.rs ++ start_after start.rs ∷ []) ≡ last_incarnation start.rs + 1
        found =
            ap (λ k. last_incarnation (carried start.version start.rs ++ records.Start (k + 1) ∷ [])) (sym (carried_last shrinks start.version start.rs))
            ∙ (rises (carried start.version start.rs)).0
            ∙ ap (λ k. k + 1) (carried_last shrinks start.version start.rs)

        same : last_incarnation (p.records ++ start_after p.records ∷ []) ≡ last_incarnation start.rs + 1
        same = ap (λ (k : Known). k.start) kept ∙ found

        least : 1 ≤ last_incarnation (p.records ++ start_after p.records ∷ [])
        least = omega (arith, reached)

        most : last_incarnation (p.records ++ start_after p.records ∷ []) ≤ last_counter
        most = omega (arith, same, start.least)

        book : recover base (p.records ++ start_after p.records ∷ []) ≡ n.book
        book = same_book compacts base (p.records ++ start_after p.records ∷ []) (carried start.version start.rs ++ start_after start.rs ∷ []) kept ∙ sym start.book

    pub started_place : (p : Place) (n : State) (limit : ℕ) (old new : Told) → IsPlaceOf F hosts i p → (start : IsStarted base limit n old new)
        → kept_of Two (p.records ++ start_after p.records ∷ []) ≡ kept_of Two (carried start.version start.rs ++ start_after start.rs ∷ [])
        → IsPlaceOf F hosts i (record { node = Some n; records = p.records ++ start_after p.records ∷ [] })
    started_place p n limit old new this start kept = record {
      number = this.number;
      records = with_start_records p this.records;
      node = started_fits p n limit old new this.records start kept;
    }

    pub recorded_place : (p : Place) → IsPlaceOf F hosts i p → IsPlaceOf F hosts i (record { node = None; records = p.records ++ start_after p.records ∷ [] })
    recorded_place p this = record { number = this.number; records = with_start_records p this.records; node = tt }

  pub fits : (i : ℕ) (p : Place) (n : State) → IsPlaceOf F hosts i p → p.node ≡ Some n → Fits F (hosts.base_of i) n.book
  fits i p n h up = let s = state_of F (hosts.base_of i) p n up h.node in record { book = s.book; base = s.base }

  -- one node did this, and stands
  pub after_net : (u : Net) (i : ℕ) (p : Place) (m : State) (rs : List Record) (ps : List Post) → nth i u.places ≡ Some p → IsNetOf F hosts u → Gives F (hosts.base_of i) m.book rs ps
      → AllByRecursion (IsPostedOf F hosts) (u.posted ++ posts_from hosts i ps) × ArePlaces F hosts (put_nth i (record { node = Some m; records = p.records ++ rs }) u.places)
  after_net u i p m rs ps here h g = (
    all_join (IsPostedOf F hosts) u.posted (posts_from hosts i ps) h.posted (posts_given F hosts i ps g.posts),
    put_place F hosts u.places i p (record { node = Some m; records = p.records ++ rs }) here h.places (record {
      number = (h.places i p here).number;
      records = all_join (IsRecord F) p.records rs (h.places i p here).records g.records;
      node = record { book = g.book.book; base = g.book.base };
    }),
  )

  -- or is gone
  pub broken_net : (u : Net) (i : ℕ) (p q : Place) (rs : List Record) (ps : List Post) → nth i u.places ≡ Some p → IsNetOf F hosts u → AllByRecursion (IsRecord F) rs
      → AllByRecursion (IsPost F) ps
      → AllByRecursion (IsPostedOf F hosts) (u.posted ++ posts_from hosts i ps) × ArePlaces F hosts (put_nth i (record { node = None; records = p.records ++ rs }) (put_nth i q u.places))
  broken_net u i p q rs ps here h recorded posts = (
    all_join (IsPostedOf F hosts) u.posted (posts_from hosts i ps) h.posted (posts_given F hosts i ps posts),
    λ j r e. by_number j r e (cases_eq j i),
  )
    where
      last : Place
      last = record { node = None; records = p.records ++ rs }

      at_last : IsPlaceOf F hosts i last
      at_last = record { number = (h.places i p here).number; records = all_join (IsRecord F) p.records rs (h.places i p here).records recorded; node = tt }

      by_number : (j : ℕ) (r : Place) → nth j (put_nth i last (put_nth i q u.places)) ≡ Some r → (j ≡ i) ⊎ (j ≡ i → ⊥) → IsPlaceOf F hosts j r
      by_number j r e (inl f) =
          let place : last ≡ r = same_some last r (sym (nth_this (put_nth i q u.places) i q last (nth_this u.places i p q here)) ∙ ap (λ k. nth k (put_nth i last (put_nth i q u.places))) (sym f) ∙ e) in
          subst (λ k. IsPlaceOf F hosts k r) (sym f) (subst (IsPlaceOf F hosts i) place at_last)
      by_number j r e (inr f) = h.places j r (sym (nth_other u.places j i q f) ∙ sym (nth_other (put_nth i q u.places) j i last f) ∙ e)

  can_deliver : {S : Type 0} (told : S → Told) (net : Net) (run : Runs told hosts net) → AsksOf F told hosts net run → IsNetOf F hosts net
  can_deliver told net (Runs.opened is) asks = subst (IsNetOf F hosts) (sym is) (record { posted = tt; places = opens F hosts })
  can_deliver told net (Runs.started u i p n limit s t run here down start same is) asks =
      let h = can_deliver told u run asks in
      let this = h.places i p here in
      subst (IsNetOf F hosts) (sym is) (record {
        posted = h.posted;
        places = put_place F hosts u.places i p (record { node = Some n; records = p.records ++ start_after p.records ∷ [] }) here h.places
            (started_place i this.number p n limit (told s) (told t) this start (start_kept shrinks start.version start.rs p.records same));
      })
  can_deliver told net (Runs.start_recorded u i p run here down small is) asks =
      let h = can_deliver told u run asks in
      let this = h.places i p here in
      subst (IsNetOf F hosts) (sym is) (record {
        posted = h.posted;
        places = put_place F hosts u.places i p (record { node = None; records = p.records ++ start_after p.records ∷ [] }) here h.places (recorded_place i this.number p this);
      })
  can_deliver told net (Runs.turned u i p n m result role shrunk s t ps run here up turn runs brings sent is) asks =
      let h = can_deliver told u run asks in
      let this = h.places i p here in
      let steps = steps_in turn.first role n turn.node (told s) (told turn.behind) turn.steps in
      let g = turn_gives i this.number turn.first role n turn.node (told s) (told turn.behind) ps (fits i p n this up) turn.steps
      (not_halted told turn.first result shrunk turn.node m turn.behind t turn.ends runs)
      (λ meaning opened hears fit. delivered u i role (told s) meaning h.posted (brings opened) hears fit) sent in
      let (posted, places) = after_net u i p m (recorded steps) ps here h
      (subst (λ b. Gives F (hosts.base_of i) b (recorded steps) ps) (sym (ends_book told turn.first result shrunk turn.node m turn.behind t turn.ends)) g) in
      subst (IsNetOf F hosts) (sym is) (record { posted = posted; places = places })
  can_deliver told net (Runs.asked u i p n m id l s t ps run here up done sent is) (local, asks) =
      let h = can_deliver told u run asks in
      let this = h.places i p here in
      let g = asked_gives i this.number n m l done.3.0 done.3.1 (told s) (told t) ps (fits i p n this up) local done.3.3 sent in
      let (posted, places) = after_net u i p m (records_by (if_landed done.3.3.landed (plan n.book (events.Local l) done.3.0).entry)) ps here h g in
      subst (IsNetOf F hosts) (sym is) (record { posted = posted; places = places })
  can_deliver told net (Runs.cut_off u i p n m result role shrunk s t front rest ds ps run here up turn brings begun sent is) asks =
      let h = can_deliver told u run asks in
      let this = h.places i p here in
      let g = turn_front i this.number turn.first role n turn.node (told s) (told turn.behind) front rest ds ps (fits i p n this up) turn.steps
      (λ meaning opened hears fit. delivered u i role (told s) meaning h.posted (brings opened) hears fit) begun sent in
      let (posted, places) = broken_net u i p (record { node = Some (as_far n front); records = p.records ++ recorded front }) (recorded front) ps here h g.records g.posts in
      subst (IsNetOf F hosts) (sym is) (record { posted = posted; places = places })
  can_deliver told net (Runs.asked_cut_off u i p n l now step doing ps run here up does sent is) (local, asks) =
      let h = can_deliver told u run asks in
      let this = h.places i p here in
      let g = one_gives F (hosts.base_of i) pass place law (own i this.number) n.book step ps
      (step_gives F (hosts.base_of i) pass place law (own i this.number) n.book (events.Local l) now step doing ps (fits i p n this up) local does sent) in
      let (posted, places) = broken_net u i p (record { node = Some (as_far n (step ∷ [])); records = p.records ++ recorded (step ∷ []) }) (recorded (step ∷ [])) ps here h g.records g.posts in
      subst (IsNetOf F hosts) (sym is) (record { posted = posted; places = places })
  can_deliver told net (Runs.idled u i p n run here up is) asks =
      let h = can_deliver told u run asks in
      let this = h.places i p here in
      let s = state_of F (hosts.base_of i) p n up this.node in
      subst (IsNetOf F hosts) (sym is) (record {
        posted = h.posted;
        places = put_place F hosts u.places i p (record { node = Some (record n { effects = [] }); records = p.records }) here h.places (record {
          number = this.number;
          records = this.records;
          node = record { book = s.book; base = s.base };
        });
      })
  can_deliver told net (Runs.ended u i p n run here up is) asks =
      let h = can_deliver told u run asks in
      let this = h.places i p here in
      subst (IsNetOf F hosts) (sym is) (record {
        posted = h.posted;
        places = put_place F hosts u.places i p (record { node = None; records = p.records }) here h.places (record {
          number = this.number;
          records = this.records;
          node = tt;
        });
      })

pub nets_can_deliver : {S : Type 0} (told : S → Told) → NodesOwnIsDeliverable → StepsPassOn deliverable → RecoveryPassesOn deliverable → PathsNameTargets → StepsKeepPlace → WalksTheDue
    → RecoversTheCompacted → ShrinksTheSame → IncarnationsRise → NetsCanDeliver told
nets_can_deliver told own pass again paths place law compacts shrinks rises hosts net run are asks =
    can_deliver deliverable pass again paths place law compacts shrinks rises hosts (λ i number. own (hosts.base_of i) (are i number)) told net run asks
