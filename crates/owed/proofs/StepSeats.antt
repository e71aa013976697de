-- Seats on their way through a step: what is posted to them.
use Rattle.std.specs.Prelude.{ℕ, List, [], ◌∷◌, ◌++◌, Option, Some, Bool, true, false, not, ◌&&◌, ◌||◌, if◌then◌else◌, map, filter, ◌≡◌, ◌⊎◌, refl}
use Rattle.std.specs.List.{AllByRecursion}
use Rattle.std.proofs.Common.{inl, inr, ap, sym, subst, ◌∙◌}
use Rattle.at_base.specs.Numbers.{Numbers}
use Rattle.at_base.specs.declared.epr.Epr.{Epr}
use Rattle.at_base.specs.declared.notice.Kind.{Kind}
use Rattle.at_base.specs.declared.notice.Kind.TheVariants as kinds
use Rattle.at_base.specs.declared.notice.Notice.{Notice}
use Rattle.at_base.specs.declared.notice.Notice.TheVariants as notices
use Rattle.at_base.specs.declared.target.Target.TheVariants as targets
use Rattle.at_base.specs.declared.event.Event.{Event}
use Rattle.at_base.specs.declared.outs.Post.{Post}
use Rattle.at_tables.specs.declared.cells.State.{State}
use Rattle.at_tables.specs.declared.cells.State.TheVariants as states
use Rattle.at_tables.specs.Names.{is_state}
use Rattle.at_model.specs.Book.{Enlistment, Transaction}
use Rattle.at_model.specs.Posts.{notice_post}
use Rattle.at_model.specs.Seats.{is_open, move_if, moved, notices_to}
use Rattle.model_laws.specs.Agreement.{IsIn}
use Rattle.model_laws.specs.PhaseAnswers.{accepted_as}
use Rattle.model_laws.proofs.DecisionLaws.{in_front}
use Rattle.owed.specs.Seats.{seat_post, IsTold, IsKept, IsAsked, IsOwed, Pairs, SaysPrepared, Tells, TellsOutcome}
use Rattle.owed.proofs.Tables.{Are, at_seat, every_seat}

-- on the way to an abort it may also be open
abbrev pub IsOpened : Event → Transaction → List Post → Enlistment → Enlistment → Type 0
IsOpened e t ps old new =
    (accepted_as new ≡ accepted_as old) × (old.kind ≡ kinds.Durable → SaysPrepared e t old → (is_open new ≡ true) ⊎ IsTold ps old)

pub pairs_more : (R S : Enlistment → Enlistment → Type 0) (olds news : List Enlistment) → ((o n : Enlistment) → R o n → S o n) → Pairs R olds news → Pairs S olds news
pairs_more R S [] [] f h = tt
pairs_more R S [] (n ∷ ns) f h = absurd h
pairs_more R S (o ∷ os) [] f h = absurd h
pairs_more R S (o ∷ os) (n ∷ ns) f (h, k) = (f o n h, pairs_more R S os ns f k)

pub pairs_both : (R S T : Enlistment → Enlistment → Type 0) (olds news : List Enlistment) → ((o n : Enlistment) → R o n → S o n → T o n) → Pairs R olds news → Pairs S olds news → Pairs T olds news
pairs_both R S T [] [] f h i = tt
pairs_both R S T [] (n ∷ ns) f h i = absurd h
pairs_both R S T (o ∷ os) [] f h i = absurd h
pairs_both R S T (o ∷ os) (n ∷ ns) f (h, hs) (i, is) = (f o n h i, pairs_both R S T os ns f hs is)

-- where the new seats are of some kind as well
pub pairs_are : (R S : Enlistment → Enlistment → Type 0) (p : Kind → State → Bool) (olds news : List Enlistment) → ((o n : Enlistment) → R o n → p n.kind n.state ≡ true → S o n)
    → Pairs R olds news → Are p news → Pairs S olds news
pairs_are R S p [] [] f h i = tt
pairs_are R S p [] (n ∷ ns) f h i = absurd h
pairs_are R S p (o ∷ os) [] f h i = absurd h
pairs_are R S p (o ∷ os) (n ∷ ns) f (h, hs) (i, is) = (f o n h i, pairs_are R S p os ns f hs is)

pub pairs_first : (R : Enlistment → Enlistment → Type 0) (P : Enlistment → Type 0) (p : Kind → State → Bool) (olds news : List Enlistment)
    → ((o n : Enlistment) → R o n → p n.kind n.state ≡ true → P o) → Pairs R olds news → Are p news → AllByRecursion P olds
pairs_first R P p [] [] f h i = tt
pairs_first R P p [] (n ∷ ns) f h i = tt
pairs_first R P p (o ∷ os) [] f h i = absurd h
pairs_first R P p (o ∷ os) (n ∷ ns) f (h, hs) (i, is) = (f o n h i, pairs_first R P p os ns f hs is)

pairs_map : (R S : Enlistment → Enlistment → Type 0) (f : Enlistment → Enlistment) (all olds news : List Enlistment) → ((n : Enlistment) → IsIn n news → IsIn n all)
    → ((o n : Enlistment) → IsIn n all → R o n → S o (f n)) → Pairs R olds news → Pairs S olds (map f news)
pairs_map R S f all [] [] i g h = tt
pairs_map R S f all [] (n ∷ ns) i g h = absurd h
pairs_map R S f all (o ∷ os) [] i g h = absurd h
pairs_map R S f all (o ∷ os) (n ∷ ns) i g (h, hs) = (g o n (i n (inl refl)) h, pairs_map R S f all os ns (λ x j. i x (inr j)) g hs)

pub pairs_sent : (R S : Enlistment → Enlistment → Type 0) (f : Enlistment → Enlistment) (olds news : List Enlistment) → ((o n : Enlistment) → IsIn n news → R o n → S o (f n)) → Pairs R olds news
    → Pairs S olds (map f news)
pairs_sent R S f olds news g h = pairs_map R S f news olds news (λ n i. i) g h

-- more posts
pub in_back : {A : Type 0} (x : A) (xs ys : List A) → IsIn x ys → IsIn x (xs ++ ys)
in_back x [] ys h = h
in_back x (y ∷ xs) ys h = inr (in_back x xs ys h)

pub tells_on : (to : Option Epr) (n : Notice) (ps qs : List Post) → Tells to n ps → Tells to n (ps ++ qs)
tells_on to n ps qs (p, i, h, k) = (p, in_front p ps qs i, h, k)

pub told_on : (to : Option Epr) (ps qs : List Post) → TellsOutcome to ps → TellsOutcome to (ps ++ qs)
told_on to ps qs (inl h) = inl (tells_on to notices.Commit ps qs h)
told_on to ps qs (inr h) = inr (tells_on to notices.Rollback ps qs h)

kept_one : (e : Event) (t : Transaction) (ps qs : List Post) (o n : Enlistment) → IsKept e t ps o n → IsKept e t (ps ++ qs) o n
kept_one ev t ps qs o n (e, h) = (e, λ k s. either (h k s))
  where
    either : (n.state ≡ states.Prepared) ⊎ IsTold ps o → (n.state ≡ states.Prepared) ⊎ IsTold (ps ++ qs) o
    either (inl f) = inl f
    either (inr x) = inr (told_on (Some o.participant) ps qs x)

opened_one : (e : Event) (t : Transaction) (ps qs : List Post) (o n : Enlistment) → IsOpened e t ps o n → IsOpened e t (ps ++ qs) o n
opened_one ev t ps qs o n (e, h) = (e, λ k s. either (h k s))
  where
    either : (is_open n ≡ true) ⊎ IsTold ps o → (is_open n ≡ true) ⊎ IsTold (ps ++ qs) o
    either (inl f) = inl f
    either (inr x) = inr (told_on (Some o.participant) ps qs x)

asked_one : (base : List ℕ) (e : Event) (t : Transaction) (ps qs : List Post) (o n : Enlistment) → IsAsked base e t ps o n → IsAsked base e t (ps ++ qs) o n
asked_one base e t ps qs o n (h, k) = ((λ f. either _ _ (h f)), (λ f. either _ _ (k f)))
  where
    either : (A : Type 0) (p : Post) → A ⊎ IsIn p ps → A ⊎ IsIn p (ps ++ qs)
    either A p (inl a) = inl a
    either A p (inr i) = inr (in_front p ps qs i)

pub kept_on : (e : Event) (t : Transaction) (ps qs : List Post) (olds news : List Enlistment) → Pairs (IsKept e t ps) olds news → Pairs (IsKept e t (ps ++ qs)) olds news
kept_on e t ps qs olds news h = pairs_more (IsKept e t ps) (IsKept e t (ps ++ qs)) olds news (kept_one e t ps qs) h

pub opened_on : (e : Event) (t : Transaction) (ps qs : List Post) (olds news : List Enlistment) → Pairs (IsOpened e t ps) olds news → Pairs (IsOpened e t (ps ++ qs)) olds news
opened_on e t ps qs olds news h = pairs_more (IsOpened e t ps) (IsOpened e t (ps ++ qs)) olds news (opened_one e t ps qs) h

-- a Prepared seat is open
pub kept_opened : (e : Event) (t : Transaction) (ps : List Post) (olds news : List Enlistment) → Pairs (IsKept e t ps) olds news → Pairs (IsOpened e t ps) olds news
kept_opened ev t ps olds news h = pairs_more (IsKept ev t ps) (IsOpened ev t ps) olds news one h
  where
    open_so : (s : State) → s ≡ states.Prepared → (is_state s states.Active || is_state s states.Preparing || is_state s states.Prepared) ≡ true
    open_so s f = subst (λ x. (is_state x states.Active || is_state x states.Preparing || is_state x states.Prepared) ≡ true) (sym f) refl

    one : (o n : Enlistment) → IsKept ev t ps o n → IsOpened ev t ps o n
    one o n (e, k) = (e, λ d x. either (k d x))
      where
        either : (n.state ≡ states.Prepared) ⊎ IsTold ps o → (is_open n ≡ true) ⊎ IsTold ps o
        either (inl f) = inl (open_so n.state f)
        either (inr x) = inr x

pub asked_on : (base : List ℕ) (e : Event) (t : Transaction) (ps qs : List Post) (olds news : List Enlistment) → Pairs (IsAsked base e t ps) olds news → Pairs (IsAsked base e t (ps ++ qs)) olds news
asked_on base e t ps qs olds news h = pairs_more (IsAsked base e t ps) (IsAsked base e t (ps ++ qs)) olds news (asked_one base e t ps qs) h

-- what is sent to each seat that passes a test
sent_in : (base : List ℕ) (id : Numbers) (n : Notice) (seats : List Enlistment) (test : Enlistment → Bool) (s : Enlistment) → IsIn s seats → test s ≡ true
    → IsIn (seat_post base id s n) (notices_to base id n seats test)
sent_in base id n [] test s i f = absurd i
sent_in base id n (x ∷ xs) test s i f = by_test (λ j. sent_in base id n xs test s j f) (test x) refl i
  where
    by_test : (IsIn s xs → IsIn (seat_post base id s n) (notices_to base id n xs test)) → (b : Bool) → test x ≡ b → IsIn s (x ∷ xs)
        → IsIn (seat_post base id s n) (map (λ y. notice_post base (targets.Coordinator id (record { number = y.number; kind = y.kind })) y.participant n) (if b then x ∷ filter test xs else filter test xs))
    by_test rest true k (inl e) = inl (ap (λ y. seat_post base id y n) e)
    by_test rest true k (inr j) = inr (rest j)
    by_test rest false k (inl e) = let g : test x ≡ true = subst (λ y. test y ≡ true) e f in absurd cc
    by_test rest false k (inr j) = rest j

-- as the seat was before
as_before : (base : List ℕ) (id own : Numbers) (n : Notice) (o s : Enlistment) (ps : List Post) → accepted_as s ≡ accepted_as o → id ≡ own → IsIn (seat_post base id s n) ps
    → IsIn (seat_post base own o n) ps
as_before base id own n o s ps e f h =
    subst (λ p. IsIn p ps) (λ i. notice_post base (targets.Coordinator (f i) (record { number = (e i).number; kind = (e i).kind })) ((e i).participant) n) h

-- each seat that passes a test goes into another state, and its participant is sent a notification
not_prepared : (b : Bool) (test : Kind → State → Bool) (s : Enlistment) → every_seat (λ k x. not (test k x && is_state x states.Prepared)) ≡ true → test s.kind s.state ≡ b → s.state ≡ states.Prepared
    → b ≡ false
not_prepared false test s c f e = refl
not_prepared true test s c f e =
    let g : test s.kind states.Prepared ≡ true = subst (λ x. test s.kind x ≡ true) e f in
    let h : not (test s.kind states.Prepared && true) ≡ true = at_seat (λ k x. not (test k x && is_state x states.Prepared)) c s.kind states.Prepared in
    absurd (no_both (test s.kind states.Prepared) g h)
  where
    no_both : (a : Bool) → a ≡ true → not (a && true) ≡ true → ⊥
    no_both true i j = cc
    no_both false i j = cc

-- by a Prepare, which no Prepared seat gets
pub asked_kept : (ev : Event) (t : Transaction) (ps : List Post) (test : Kind → State → Bool) (olds news : List Enlistment) → every_seat (λ k x. not (test k x && is_state x states.Prepared)) ≡ true
    → Pairs (IsKept ev t ps) olds news → Pairs (IsKept ev t ps) olds (moved (λ s. test s.kind s.state) states.Preparing news)
asked_kept ev t ps test olds news c h = pairs_sent (IsKept ev t ps) (IsKept ev t ps) (move_if (λ s. test s.kind s.state) states.Preparing) olds news (λ o n i k. one o n (test n.kind n.state) refl k) h
  where
    one : (o n : Enlistment) (b : Bool) → test n.kind n.state ≡ b → IsKept ev t ps o n → IsKept ev t ps o (record n { state = if b then states.Preparing else n.state })
    one o n false f (e, k) = (e, k)
    one o n true f (e, k) = (e, λ i j. either (k i j))
      where
        either : (n.state ≡ states.Prepared) ⊎ IsTold ps o → (states.Preparing ≡ states.Prepared) ⊎ IsTold ps o
        either (inl p) = let none : true ≡ false = not_prepared true test n c f p in absurd cc
        either (inr x) = inr x

-- the participant of a seat is told what is sent to it
tells_it : (base : List ℕ) (id : Numbers) (note : Notice) (o n : Enlistment) (ps : List Post) → accepted_as n ≡ accepted_as o → IsIn (seat_post base id n note) ps → Tells (Some o.participant) note ps
tells_it base id note o n ps e i = (seat_post base id n note, i, ap (λ x. Some x.participant) e, refl)

-- by a Commit
pub commit_kept : (base : List ℕ) (id : Numbers) (ev : Event) (t : Transaction) (ps : List Post) (test : Enlistment → Bool) (olds news : List Enlistment) → Pairs (IsKept ev t ps) olds news
    → Pairs (IsKept ev t (ps ++ notices_to base id notices.Commit news test)) olds (moved test states.Committing news)
commit_kept base id ev t ps test olds news h =
    pairs_sent (IsKept ev t ps) (IsKept ev t (ps ++ notices_to base id notices.Commit news test)) (move_if test states.Committing) olds news (λ o n i k. one o n i (test n) refl k) h
  where
    one : (o n : Enlistment) → IsIn n news → (b : Bool) → test n ≡ b → IsKept ev t ps o n
        → IsKept ev t (ps ++ notices_to base id notices.Commit news test) o (record n { state = if b then states.Committing else n.state })
    one o n i false f k = kept_one ev t ps (notices_to base id notices.Commit news test) o n k
    one o n i true f (e, k) =
        (e, λ d p. inr (inl (tells_it base id notices.Commit o n _ e (in_back _ ps (notices_to base id notices.Commit news test) (sent_in base id notices.Commit news test n i f)))))

-- by a Rollback, which every open seat gets
pub rollback_kept : (base : List ℕ) (id : Numbers) (ev : Event) (t : Transaction) (ps : List Post) (olds news : List Enlistment) → Pairs (IsOpened ev t ps) olds news
    → Pairs (IsKept ev t (ps ++ notices_to base id notices.Rollback news is_open)) olds (moved is_open states.Aborting news)
rollback_kept base id ev t ps olds news h =
    pairs_sent (IsOpened ev t ps) (IsKept ev t (ps ++ notices_to base id notices.Rollback news is_open)) (move_if is_open states.Aborting) olds news (λ o n i k. one o n i (is_open n) refl k) h
  where
    one : (o n : Enlistment) → IsIn n news → (b : Bool) → is_open n ≡ b → IsOpened ev t ps o n
        → IsKept ev t (ps ++ notices_to base id notices.Rollback news is_open) o (record n { state = if b then states.Aborting else n.state })
    one o n i true f (e, k) =
        (e, λ d p. inr (inr (tells_it base id notices.Rollback o n _ e (in_back _ ps (notices_to base id notices.Rollback news is_open) (sent_in base id notices.Rollback news is_open n i f)))))
    one o n i false f (e, k) = (e, λ d p. either (k d p))
      where
        either : (is_open n ≡ true) ⊎ IsTold ps o → (n.state ≡ states.Prepared) ⊎ IsTold (ps ++ notices_to base id notices.Rollback news is_open) o
        either (inl g) = let none : true ≡ false = sym g ∙ f in absurd cc
        either (inr x) = inr (told_on (Some o.participant) ps (notices_to base id notices.Rollback news is_open) x)

pub asked_sent : (base : List ℕ) (id : Numbers) (ev : Event) (t : Transaction) (ps : List Post) (test : Enlistment → Bool) (olds news : List Enlistment) → id ≡ t.id
    → Pairs (IsKept ev t ps) olds news → Pairs (IsAsked base ev t ps) olds news
    → Pairs (IsAsked base ev t (ps ++ notices_to base id notices.Prepare news test)) olds (moved test states.Preparing news)
asked_sent base id ev t ps test olds news same h k =
    pairs_sent (IsOwed base ev t ps) (IsAsked base ev t (ps ++ notices_to base id notices.Prepare news test)) (move_if test states.Preparing) olds news (λ o n i j. one o n i (test n) refl j)
    (pairs_both (IsKept ev t ps) (IsAsked base ev t ps) (IsOwed base ev t ps) olds news (λ o n x y. (x, y)) h k)
  where
    one : (o n : Enlistment) → IsIn n news → (b : Bool) → test n ≡ b → IsOwed base ev t ps o n
        → IsAsked base ev t (ps ++ notices_to base id notices.Prepare news test) o (record n { state = if b then states.Preparing else n.state })
    one o n i false f (x, y) = asked_one base ev t ps (notices_to base id notices.Prepare news test) o n y
    one o n i true f ((e, x), y) = (
      (λ d. inr (as_before base id t.id notices.Prepare o n _ e same (in_back _ ps (notices_to base id notices.Prepare news test) (sent_in base id notices.Prepare news test n i f)))),
      (λ d. absurd cc),
    )

pub commit_sent : (base : List ℕ) (id : Numbers) (ev : Event) (t : Transaction) (ps : List Post) (test : Enlistment → Bool) (olds news : List Enlistment) → id ≡ t.id
    → Pairs (IsKept ev t ps) olds news → Pairs (IsAsked base ev t ps) olds news
    → Pairs (IsAsked base ev t (ps ++ notices_to base id notices.Commit news test)) olds (moved test states.Committing news)
commit_sent base id ev t ps test olds news same h k =
    pairs_sent (IsOwed base ev t ps) (IsAsked base ev t (ps ++ notices_to base id notices.Commit news test)) (move_if test states.Committing) olds news (λ o n i j. one o n i (test n) refl j)
    (pairs_both (IsKept ev t ps) (IsAsked base ev t ps) (IsOwed base ev t ps) olds news (λ o n x y. (x, y)) h k)
  where
    one : (o n : Enlistment) → IsIn n news → (b : Bool) → test n ≡ b → IsOwed base ev t ps o n
        → IsAsked base ev t (ps ++ notices_to base id notices.Commit news test) o (record n { state = if b then states.Committing else n.state })
    one o n i false f (x, y) = asked_one base ev t ps (notices_to base id notices.Commit news test) o n y
    one o n i true f ((e, x), y) = (
      (λ d. absurd cc),
      (λ d. inr (as_before base id t.id notices.Commit o n _ e same (in_back _ ps (notices_to base id notices.Commit news test) (sent_in base id notices.Commit news test n i f)))),
    )

pub owed_on : (base : List ℕ) (e : Event) (t : Transaction) (ps qs : List Post) (olds news : List Enlistment) → Pairs (IsOwed base e t ps) olds news → Pairs (IsOwed base e t (ps ++ qs)) olds news
owed_on base e t ps qs olds news h =
    pairs_more (IsOwed base e t ps) (IsOwed base e t (ps ++ qs)) olds news (λ o n x. (kept_one e t ps qs o n x.0, asked_one base e t ps qs o n x.1)) h
