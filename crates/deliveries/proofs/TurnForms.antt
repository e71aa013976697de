-- The steps of a turn pass on what is asked of endpoints and texts.
use Rattle.std.specs.Prelude.{ℕ, List, [], ◌∷◌, ◌++◌, ◌≡◌, Option, Some, None, IfSome, Bool, true, false, if◌then◌else◌}
use Rattle.std.specs.List.{AllByRecursion}
use Rattle.std.proofs.Common.{inl, inr, refl, sym, subst, ap, ◌∙◌}
use Rattle.std.proofs.lemmas.List.{append-nil, append_assoc}
use Rattle.at_base.specs.declared.event.Event.{Event}
use Rattle.at_base.specs.declared.event.Event.TheVariants as events
use Rattle.at_base.specs.declared.event.Item.{Item}
use Rattle.at_base.specs.declared.outs.Out.{Out}
use Rattle.at_base.specs.declared.outs.Out.TheVariants as outs
use Rattle.at_base.specs.declared.outs.Post.{Post}
use Rattle.at_base.specs.declared.record.Record.{Record}
use Rattle.at_model.specs.Book.{Book}
use Rattle.at_model.specs.Step.{Outcome, is_due, items_of, step}
use Rattle.interposition.specs.Due.{WalksTheDue, due_outcome, due_outcomes}
use Rattle.model_laws.specs.Laws.{StepsKeepPlace}
use Rattle.node_at.specs.Doings.{Doing, book_behind}
use Rattle.node_at.specs.Meanings.{Meaning}
use Rattle.node_at.specs.Meanings.Meaning.{Lost, Refused, Steps, Unread}
use Rattle.node_at.specs.Steps.{if_landed}
use Rattle.node_at.specs.Texts.{AreLeaving, Leaving}
use Rattle.node_at.specs.Texts.AreLeaving.{leaves, none, stays}
use Rattle.node_at.specs.TurnText.{AreDue, DueSteps, IsFirst, IsOutcome, IsStep, Steppings, TurnStep, answered, refusing}
use Rattle.node_at.specs.TurnText.Steppings.{asked, unasked}
use Rattle.node_worlds.specs.SentPosts.{AreSent, AreSome, Sent, also, posts_of, recorded, records_by}
use Rattle.provenance.specs.Forms.{AreOuts, Forms, HaveOwn, IsBook, IsEvent, IsOut, IsPost, IsRecord}
use Rattle.node_worlds.proofs.TurnLeads.{no_more, same_first, same_rest}
use Rattle.provenance.specs.Provenance.{StepsPassOn}

-- a book under its base
pub record Fits (F : Forms) (root : List ℕ) (b : Book) : Type 0 where
  pub book : IsBook F b
  pub base : b.base ≡ root

-- a book behind some steps, their records and their posts
pub record Gives (F : Forms) (root : List ℕ) (b : Book) (rs : List Record) (ps : List Post) : Type 0 where
  pub book : Fits F root b
  pub records : AllByRecursion (IsRecord F) rs
  pub posts : AllByRecursion (IsPost F) ps

pub all_join : {A : Type 0} (P : A → Type 0) (xs ys : List A) → AllByRecursion P xs → AllByRecursion P ys → AllByRecursion P (xs ++ ys)
all_join P [] ys h k = k
all_join P (x ∷ xs) ys (h, i) k = (h, all_join P xs ys i k)

all_front : {A : Type 0} (P : A → Type 0) (xs ys : List A) → AllByRecursion P (xs ++ ys) → AllByRecursion P xs × AllByRecursion P ys
all_front P [] ys h = (tt, h)
all_front P (x ∷ xs) ys (h, k) = let (a, b) = all_front P xs ys k in ((h, a), b)

-- of a row of them the first
due_cut : (done : List Outcome) (xs ys : List TurnStep) → AreDue done (xs ++ ys) → (os ps : List Outcome) × (done ≡ os ++ ps) × AreDue os xs
due_cut done [] ys are = ([], done, refl, tt)
due_cut [] (x ∷ xs) ys are = absurd are
due_cut (o ∷ done) (x ∷ xs) ys (e, f, g, h) =
    let (os, ps, k, more) = due_cut done xs ys h in
    (o ∷ os, ps, ap (λ z. o ∷ z) k, (e, f, g, more))

due_part : (now : ℕ) (b : Book) (left : List Outcome) (front rest : List TurnStep) → DueSteps now b left (front ++ rest) → (others : List Outcome) × DueSteps now b others front
due_part now b left front rest due =
    let (os, ps, k, more) = due_cut due.done front rest due.are in
    (ps ++ left, record { done = os; are = more; all = sym (append_assoc os ps left) ∙ ap (λ z. z ++ left) (sym k) ∙ due.all })

none_posted : (status : ℕ) (text : Option (List ℕ)) (went : List Leaving) → AreSome went (answered status text ∷ []) → posts_of went ≡ []
none_posted status text [] h = refl
none_posted status text (y ∷ []) (inl (e, h)) = ap (λ z. posts_of (z ∷ [])) e
none_posted status text (y ∷ (z ∷ ys)) (inl (e, h)) = absurd h
none_posted status text (y ∷ ys) (inr h) = absurd h

module _ (F : Forms) (root : List ℕ) where
  pub none_given : (b : Book) → Fits F root b → Gives F root b [] []
  none_given b h = record { book = h; records = tt; posts = tt }

  pub then_given : (b c : Book) (rs qs : List Record) (ps os : List Post) → Gives F root b rs ps → Gives F root c qs os → Gives F root c (rs ++ qs) (ps ++ os)
  then_given b c rs qs ps os g h = record {
    book = h.book;
    records = all_join (IsRecord F) rs qs g.records h.records;
    posts = all_join (IsPost F) ps os g.posts h.posts;
  }

  pub given_as : (b : Book) (rs : List Record) (ps os : List Post) → ps ≡ os → Gives F root b rs ps → Gives F root b rs os
  given_as b rs ps os e g = subst (Gives F root b rs) e g

  -- what was sent is of the outs
  abbrev AreFit : List Leaving → Type 0
  AreFit xs = AllByRecursion (λ (x : Leaving). IsOut F x.out) xs

  leaving_fit : (os : List Out) (xs : List Leaving) → AreLeaving os xs → AreOuts F os → AreFit xs
  leaving_fit os xs none h = tt
  leaving_fit os xs (leaves {os = front} {xs = before} x are call a m) h =
      let (first, last) = all_front (IsOut F) front (x.out ∷ []) (subst (AreOuts F) a h) in
      subst AreFit (sym m) (all_join (λ (y : Leaving). IsOut F y.out) before (x ∷ []) (leaving_fit front before are first) (last.0, tt))
  leaving_fit os xs (stays {os = front} o are call a) h = leaving_fit front xs are (all_front (IsOut F) front (o ∷ []) (subst (AreOuts F) a h)).0

  some_fit : (xs ys : List Leaving) → AreSome xs ys → AreFit ys → AreFit xs
  some_fit [] ys s h = tt
  some_fit (x ∷ xs) [] s h = absurd s
  some_fit (x ∷ xs) (y ∷ ys) (inl (e, s)) (h, k) = (subst (λ (z : Leaving). IsOut F z.out) (sym e) h, some_fit xs ys s k)
  some_fit (x ∷ xs) (y ∷ ys) (inr s) (h, k) = some_fit (x ∷ xs) ys s k

  also_fit : (o : Out) (ps : List Post) → IsOut F o → AllByRecursion (IsPost F) ps → AllByRecursion (IsPost F) (also o ps)
  also_fit (outs.Post p) ps h k = (h, k)
  also_fit (outs.Answer status reply) ps h k = k

  posts_fit : (xs : List Leaving) → AreFit xs → AllByRecursion (IsPost F) (posts_of xs)
  posts_fit [] h = tt
  posts_fit (x ∷ xs) (h, k) = also_fit x.out (posts_of xs) h (posts_fit xs k)

  landed_fit : (landed : Bool) (entry : Option Record) → IfSome entry (IsRecord F) → AllByRecursion (IsRecord F) (records_by (if_landed landed entry))
  landed_fit true None h = tt
  landed_fit true (Some r) h = (h, tt)
  landed_fit false entry h = tt

  module _ (pass : StepsPassOn F) (place : StepsKeepPlace) (law : WalksTheDue) (own : HaveOwn F root) where
    have_own : (b : Book) → Fits F root b → HaveOwn F b.base
    have_own b h = subst (HaveOwn F) (sym h.base) own

    pub step_gives : (b : Book) (e : Event) (now : ℕ) (s : TurnStep) (d : Doing) (ps : List Post) → Fits F root b → IsEvent F e → IsStep b e now s → Sent s.leaving d.made ps
        → Gives F root s.behind (records_by (if_landed s.landed s.entry)) ps
    step_gives b e now s d ps h event is sent = record {
      book = record {
        book = subst (IsBook F) (sym is.outcome.behind) (pass.book b e now s.landed (have_own b h) h.book event);
        base = ap (λ (z : Book). z.base) is.outcome.behind ∙ (place b e now s.landed).base ∙ h.base;
      };
      records = landed_fit s.landed s.entry (subst (λ o. IfSome o (IsRecord F)) (sym is.entry) (pass.entry b e now (have_own b h) h.book event));
      posts = subst (AllByRecursion (IsPost F)) (sym sent.posts)
          (posts_fit sent.went (some_fit sent.went s.leaving sent.some (leaving_fit (step b e now s.landed).outs s.leaving is.outcome.leaving (pass.posts b e now s.landed (have_own b h) h.book event))));
    }

    row_gives : (b : Book) (s : TurnStep) (ss : List TurnStep) (qs rs ps : List Post) → Gives F root s.behind (records_by (if_landed s.landed s.entry)) qs
        → Gives F root (book_behind s.behind ss) (recorded ss) rs → ps ≡ qs ++ rs → Gives F root (book_behind b (s ∷ ss)) (recorded (s ∷ ss)) ps
    row_gives b s ss qs rs ps g h e =
        given_as (book_behind s.behind ss) (recorded (s ∷ ss)) (qs ++ rs) ps (sym e)
        (then_given s.behind (book_behind s.behind ss) (records_by (if_landed s.landed s.entry)) (recorded ss) qs rs g h)

    pub none_sent : (b : Book) (ds : List Doing) (ps : List Post) → Fits F root b → AreSent [] ds ps → Gives F root (book_behind b []) (recorded []) ps
    none_sent b [] ps h e = given_as b [] [] ps (sym e) (none_given b h)
    none_sent b (d ∷ ds) ps h e = absurd e

    -- the items that are due
    abbrev DueGives : ℕ → List Item → Type 0
    DueGives now items =
        (b : Book) (done left : List Outcome) (ss : List TurnStep) (ds : List Doing) (ps : List Post) → Fits F root b → AreDue done ss → done ++ left ≡ due_outcomes now items b
        → AreSent ss ds ps → Gives F root (book_behind b ss) (recorded ss) ps

    due_is : (now : ℕ) (b : Book) (item : Item) (o : Outcome) (s : TurnStep) → o ≡ due_outcome b now item → s.entry ≡ None → s.landed ≡ true → IsOutcome o s → IsStep b (events.Due item) now s
    due_is now b item o s e f g h = record {
      entry = f ∙ sym (law.unrecorded b now item);
      outcome = subst (λ t. IsOutcome (step b (events.Due item) now t) s) (sym g) (subst (λ z. IsOutcome z s) e h);
    }

    due_gives : (now : ℕ) (item : Item) (rest : List Item) → DueGives now rest → (t : Bool) (b : Book) (done left : List Outcome) (ss : List TurnStep) (ds : List Doing) (ps : List Post) → Fits F root b
        → AreDue done ss → done ++ left ≡ (if t then due_outcome b now item ∷ due_outcomes now rest (due_outcome b now item).book else due_outcomes now rest b) → AreSent ss ds ps
        → Gives F root (book_behind b ss) (recorded ss) ps
    due_gives now item rest again false b done left ss ds ps h are all sent = again b done left ss ds ps h are all sent
    due_gives now item rest again true b [] left [] ds ps h are all sent = none_sent b ds ps h sent
    due_gives now item rest again true b [] left (s ∷ ss) ds ps h are all sent = absurd are
    due_gives now item rest again true b (o ∷ done) left [] ds ps h are all sent = absurd are
    due_gives now item rest again true b (o ∷ done) left (s ∷ ss) [] ps h are all sent = absurd sent
    due_gives now item rest again true b (o ∷ done) left (s ∷ ss) (d ∷ ds) ps h (entry, landed, is, more) all (qs, rs, one, others, e) =
        let first : o ≡ due_outcome b now item = same_first o (due_outcome b now item) (done ++ left) (due_outcomes now rest (due_outcome b now item).book) all in
        let g = step_gives b (events.Due item) now s d qs h tt (due_is now b item o s first entry landed is) one in
        let behind : (due_outcome b now item).book ≡ s.behind = ap (λ (z : Outcome). z.book) (sym first) ∙ sym is.behind in
        row_gives b s ss qs rs ps g
        (again s.behind done left ss ds rs g.book more
        (same_rest o (due_outcome b now item) (done ++ left) (due_outcomes now rest (due_outcome b now item).book) all ∙ ap (due_outcomes now rest) behind) others)
        e

    dues_give : (now : ℕ) (items : List Item) → DueGives now items
    dues_give now [] b [] left [] ds ps h are all sent = none_sent b ds ps h sent
    dues_give now [] b [] left (s ∷ ss) ds ps h are all sent = absurd are
    dues_give now [] b (o ∷ done) left ss ds ps h are all sent = absurd (no_more o (done ++ left) all)
    dues_give now (item ∷ rest) b done left ss ds ps h are all sent = due_gives now item rest (dues_give now rest) (is_due b now item) b done left ss ds ps h are all sent

    due_steps_give : (now : ℕ) (b : Book) (left : List Outcome) (ss : List TurnStep) (ds : List Doing) (ps : List Post) → Fits F root b → DueSteps now b left ss → AreSent ss ds ps
        → Gives F root (book_behind b ss) (recorded ss) ps
    due_steps_give now b left ss ds ps h due sent = dues_give now (items_of b) b due.done left ss ds ps h due.are due.all sent

    -- of what is asked
    pub refused_gives : (b : Book) (status : ℕ) (text : Option (List ℕ)) (d : Doing) (ps : List Post) → Fits F root b → Sent (refusing b status text).leaving d.made ps → Gives F root b [] ps
    refused_gives b status text d ps h sent = given_as b [] [] ps (sym (sent.posts ∙ none_posted status text sent.went sent.some)) (none_given b h)

    abbrev pub IsDelivered : Meaning → Type 0
    IsDelivered meaning = (e : Event) → meaning ≡ Steps e → IsEvent F e

    first_gives : (b : Book) (now status : ℕ) (meaning : Meaning) (s : TurnStep) (d : Doing) (ps : List Post) → Fits F root b → IsDelivered meaning → IsFirst b now meaning s status
        → Sent s.leaving d.made ps → Gives F root s.behind (records_by (if_landed s.landed s.entry)) ps
    first_gives b now status (Refused st text) s d ps h event (e, f) sent =
        subst (λ (z : TurnStep). Gives F root z.behind (records_by (if_landed z.landed z.entry)) ps) (sym e)
        (refused_gives b st text d ps h (subst (λ (z : TurnStep). Sent z.leaving d.made ps) e sent))
    first_gives b now status (Steps e) s d ps h event (is, f) sent = step_gives b e now s d ps h (event e refl) is sent
    first_gives b now status Lost s d ps h event is sent = absurd is
    first_gives b now status Unread s d ps h event is sent = absurd is

    asked_gives : (b : Book) (now : ℕ) (left : List Outcome) (meaning : Meaning) (status : ℕ) (first : TurnStep) (rest : List TurnStep) (ds : List Doing) (ps : List Post) → Fits F root b
        → IsDelivered meaning → IsFirst b now meaning first status → DueSteps now first.behind left rest → AreSent (first ∷ rest) ds ps
        → Gives F root (book_behind b (first ∷ rest)) (recorded (first ∷ rest)) ps
    asked_gives b now left meaning status first rest [] ps h event is due sent = absurd sent
    asked_gives b now left meaning status first rest (d ∷ ds) ps h event is due (qs, rs, one, others, e) =
        let g = first_gives b now status meaning first d qs h event is one in
        row_gives b first rest qs rs ps g (due_steps_give now first.behind left rest ds rs g.book due others) e

    asked_front : (b : Book) (now : ℕ) (left : List Outcome) (meaning : Meaning) (status : ℕ) (first : TurnStep) (more front rest : List TurnStep) (ds : List Doing) (ps : List Post) → Fits F root b
        → IsDelivered meaning → IsFirst b now meaning first status → DueSteps now first.behind left more → first ∷ more ≡ front ++ rest → AreSent front ds ps
        → Gives F root (book_behind b front) (recorded front) ps
    asked_front b now left meaning status first more [] rest ds ps h event is due e sent = none_sent b ds ps h sent
    asked_front b now left meaning status first more (f ∷ fs) rest ds ps h event is due e sent =
        let same : first ≡ f = same_first first f more (fs ++ rest) e in
        let (others, part) = due_part now f.behind left fs rest
        (subst (λ z. DueSteps now f.behind left z) (same_rest first f more (fs ++ rest) e) (subst (λ (z : TurnStep). DueSteps now z.behind left more) same due)) in
        asked_gives b now others meaning status f fs ds ps h event (subst (λ z. IsFirst b now meaning z status) same is) part sent

    -- the first of the steps of a turn, or all
    pub front_gives : (b : Book) (now : ℕ) (left : List Outcome) (meaning : Meaning) (steps : List TurnStep) (status : ℕ) → Steppings now b left meaning steps status
        → (front rest : List TurnStep) (ds : List Doing) (ps : List Post) → Fits F root b → IsDelivered meaning → steps ≡ front ++ rest → AreSent front ds ps
        → Gives F root (book_behind b front) (recorded front) ps
    front_gives b now left meaning steps status (unasked due) front rest ds ps h event e sent =
        let (others, part) = due_part now b left front rest (subst (DueSteps now b left) e due) in
        due_steps_give now b others front ds ps h part sent
    front_gives b now left meaning steps status (asked first more is due k) front rest ds ps h event e sent =
        asked_front b now left meaning status first more front rest ds ps h event is due (sym k ∙ e) sent

    pub empty_gives : (b : Book) (front rest : List TurnStep) (ds : List Doing) (ps : List Post) → Fits F root b → [] ≡ front ++ rest → AreSent front ds ps
        → Gives F root (book_behind b front) (recorded front) ps
    empty_gives b [] rest ds ps h e sent = none_sent b ds ps h sent
    empty_gives b (f ∷ fs) rest ds ps h e sent = absurd (no_more f (fs ++ rest) (sym e))

    pub one_gives : (b : Book) (s : TurnStep) (ps : List Post) → Gives F root s.behind (records_by (if_landed s.landed s.entry)) ps → Gives F root (book_behind b (s ∷ [])) (recorded (s ∷ [])) ps
    one_gives b s ps g = row_gives b s [] ps [] ps g (none_given s.behind g.book) (sym (append-nil ps))
