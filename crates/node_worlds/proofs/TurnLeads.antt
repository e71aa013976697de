-- The steps of a turn lead a world on.
use Rattle.std.specs.Prelude.{ℕ, List, [], ◌∷◌, ◌++◌, Option, None, Bool, true, false, if◌then◌else◌, ◌≡◌, refl}
use Rattle.std.proofs.Common.{inl, inr, sym, subst, ap, ◌∙◌}
use Rattle.std.proofs.lemmas.List.{append-nil, append_assoc}
use Rattle.at_base.specs.declared.event.Event.TheVariants as events
use Rattle.at_base.specs.declared.event.Item.{Item}
use Rattle.at_base.specs.declared.outs.Post.{Post}
use Rattle.at_model.specs.Book.{Book}
use Rattle.at_model.specs.Step.{Outcome, is_due, items_of, step}
use Rattle.at_model.specs.World.{Node, World, Hosts, new_nodes}
use Rattle.interposition.specs.Due.{WalksTheDue, due_outcome, due_outcomes}
use Rattle.model_laws.specs.Order.{IsInOrder}
use Rattle.model_laws.proofs.DecisionLaws.{IfThere}
use Rattle.model_laws.proofs.ReachedWorlds.{in_order}
use Rattle.model_laws.proofs.StepRegistrations.{none_new}
use Rattle.node_at.specs.Doings.{Doing, book_behind, came_of}
use Rattle.node_at.specs.Meanings.{Meaning}
use Rattle.node_at.specs.Meanings.Meaning.{Refused, Steps, Lost, Unread}
use Rattle.node_at.specs.Texts.{Leaving}
use Rattle.node_at.specs.Steps.{if_landed}
use Rattle.node_at.specs.TurnText.{AreDue, DueSteps, IsFirst, IsOutcome, IsStep, Steppings, TurnStep, answered, refusing}
use Rattle.node_at.specs.TurnText.Steppings.{asked, unasked}
use Rattle.node_worlds.specs.Leads.{IsHeard, IsUp, Leads, TurnsLead, moved}
use Rattle.node_worlds.specs.SentPosts.{AreSent, AreSome, Sent, accepted_along, accepted_between, posts_of, recorded, records_by}
use Rattle.node_worlds.proofs.StepLeads.{leads_as, leads_none, leads_then, steps_lead, then_up}

-- lists of one more
first_or : {A : Type 0} → A → List A → A
first_or o [] = o
first_or o (p ∷ ps) = p

rest_of : {A : Type 0} → List A → List A
rest_of [] = []
rest_of (p ∷ ps) = ps

pub same_first : {A : Type 0} (o p : A) (os ps : List A) → o ∷ os ≡ p ∷ ps → o ≡ p
unfolding first_or
same_first o p os ps e = ap (first_or o) e

pub same_rest : {A : Type 0} (o p : A) (os ps : List A) → o ∷ os ≡ p ∷ ps → os ≡ ps
unfolding rest_of
same_rest o p os ps e = ap rest_of e

pub no_more : {A : Type 0} (o : A) (os : List A) → o ∷ os ≡ [] → ⊥
no_more o os e = absurd cc

-- one step, and then a row of them
row_leads : (hosts : Hosts) (i : ℕ) (u : World) (x : Node) (b : Book) (s : TurnStep) (ss : List TurnStep) (qs rs ps : List Post) → IsUp hosts i u x b
    → (l : Leads hosts i u x s.behind (records_by (if_landed s.landed s.entry)) qs s.came (accepted_between hosts i b s.behind))
    → Leads hosts i l.world (moved x s.behind (records_by (if_landed s.landed s.entry))) (book_behind s.behind ss) (recorded ss) rs (came_of ss) (accepted_along hosts i s.behind ss)
    → ps ≡ qs ++ rs → Leads hosts i u x (book_behind b (s ∷ ss)) (recorded (s ∷ ss)) ps (came_of (s ∷ ss)) (accepted_along hosts i b (s ∷ ss))
row_leads hosts i u x b s ss qs rs ps up l k e =
    leads_as hosts i u x (book_behind s.behind ss) (book_behind s.behind ss) (recorded (s ∷ ss)) (recorded (s ∷ ss)) (qs ++ rs) ps (came_of (s ∷ ss)) (came_of (s ∷ ss))
    (accepted_along hosts i b (s ∷ ss)) (accepted_along hosts i b (s ∷ ss)) refl refl (sym e) refl refl
    (leads_then hosts i u x b s.behind (book_behind s.behind ss) (records_by (if_landed s.landed s.entry)) (recorded ss) qs rs s.came (came_of ss) (accepted_between hosts i b s.behind)
    (accepted_along hosts i s.behind ss) up l k)

-- no step
pub none_lead : (hosts : Hosts) (i : ℕ) (u : World) (x : Node) (b : Book) (ds : List Doing) (ps : List Post) → IsUp hosts i u x b → AreSent [] ds ps
    → Leads hosts i u x (book_behind b []) (recorded []) ps (came_of []) (accepted_along hosts i b [])
none_lead hosts i u x b [] ps up e = leads_as hosts i u x b b [] [] [] ps [] [] [] [] refl refl (sym e) refl refl (leads_none hosts i u x b up)
none_lead hosts i u x b (d ∷ ds) ps up e = absurd e

-- the items that are due
abbrev DueLead : Hosts → ℕ → ℕ → List Item → Type 0
DueLead hosts i now items =
    (u : World) (x : Node) (b : Book) (done left : List Outcome) (ss : List TurnStep) (ds : List Doing) (ps : List Post) → IsUp hosts i u x b → AreDue done ss
    → done ++ left ≡ due_outcomes now items b → AreSent ss ds ps → Leads hosts i u x (book_behind b ss) (recorded ss) ps (came_of ss) (accepted_along hosts i b ss)

module _ (law : WalksTheDue) (hosts : Hosts) (i now : ℕ) where
  due_is : (b : Book) (item : Item) (o : Outcome) (s : TurnStep) → o ≡ due_outcome b now item → s.entry ≡ None → s.landed ≡ true → IsOutcome o s → IsStep b (events.Due item) now s
  due_is b item o s e f g h = record {
    entry = f ∙ sym (law.unrecorded b now item);
    outcome = subst (λ t. IsOutcome (step b (events.Due item) now t) s) (sym g) (subst (λ z. IsOutcome z s) e h);
  }

  due_leads : (item : Item) (rest : List Item) → DueLead hosts i now rest → (t : Bool) (u : World) (x : Node) (b : Book) (done left : List Outcome) (ss : List TurnStep) (ds : List Doing) (ps : List Post)
      → IsUp hosts i u x b → AreDue done ss
      → done ++ left ≡ (if t then due_outcome b now item ∷ due_outcomes now rest (due_outcome b now item).book else due_outcomes now rest b) → AreSent ss ds ps
      → Leads hosts i u x (book_behind b ss) (recorded ss) ps (came_of ss) (accepted_along hosts i b ss)
  due_leads item rest again false u x b done left ss ds ps up are all sent = again u x b done left ss ds ps up are all sent
  due_leads item rest again true u x b [] left [] ds ps up are all sent = none_lead hosts i u x b ds ps up sent
  due_leads item rest again true u x b [] left (s ∷ ss) ds ps up are all sent = absurd are
  due_leads item rest again true u x b (o ∷ done) left [] ds ps up are all sent = absurd are
  due_leads item rest again true u x b (o ∷ done) left (s ∷ ss) [] ps up are all sent = absurd sent
  due_leads item rest again true u x b (o ∷ done) left (s ∷ ss) (d ∷ ds) ps up (entry, landed, is, more) all (qs, rs, one, others, e) =
      let first : o ≡ due_outcome b now item = same_first o (due_outcome b now item) (done ++ left) (due_outcomes now rest (due_outcome b now item).book) all in
      let l = steps_lead hosts i u x b (events.Due item) now s d qs up tt (due_is b item o s first entry landed is) one in
      let behind : (due_outcome b now item).book ≡ s.behind = ap (λ (z : Outcome). z.book) (sym first) ∙ sym is.behind in
      row_leads hosts i u x b s ss qs rs ps up l
      (again l.world (moved x s.behind (records_by (if_landed s.landed s.entry))) s.behind done left ss ds rs
      (then_up hosts i u x b s.behind (records_by (if_landed s.landed s.entry)) qs s.came (accepted_between hosts i b s.behind) up l) more
      (same_rest o (due_outcome b now item) (done ++ left) (due_outcomes now rest (due_outcome b now item).book) all ∙ ap (due_outcomes now rest) behind) others)
      e

  dues_lead : (items : List Item) → DueLead hosts i now items
  dues_lead [] u x b [] left [] ds ps up are all sent = none_lead hosts i u x b ds ps up sent
  dues_lead [] u x b [] left (s ∷ ss) ds ps up are all sent = absurd are
  dues_lead [] u x b (o ∷ done) left ss ds ps up are all sent = absurd (no_more o (done ++ left) all)
  dues_lead (item ∷ rest) u x b done left ss ds ps up are all sent = due_leads item rest (dues_lead rest) (is_due b now item) u x b done left ss ds ps up are all sent

  due_steps_lead : (u : World) (x : Node) (b : Book) (left : List Outcome) (ss : List TurnStep) (ds : List Doing) (ps : List Post) → IsUp hosts i u x b → DueSteps now b left ss
      → AreSent ss ds ps → Leads hosts i u x (book_behind b ss) (recorded ss) ps (came_of ss) (accepted_along hosts i b ss)
  due_steps_lead u x b left ss ds ps up due sent = dues_lead (items_of b) u x b due.done left ss ds ps up due.are due.all sent

-- of a row of them the first
due_cut : (done : List Outcome) (xs ys : List TurnStep) → AreDue done (xs ++ ys) → (os ps : List Outcome) × (done ≡ os ++ ps) × AreDue os xs
due_cut done [] ys are = ([], done, refl, tt)
due_cut [] (x ∷ xs) ys are = absurd are
due_cut (o ∷ done) (x ∷ xs) ys (e, f, g, h) =
    let (os, ps, k, more) = due_cut done xs ys h in
    (o ∷ os, ps, ap (λ z. o ∷ z) k, (e, f, g, more))

due_part : (now : ℕ) (b : Book) (left : List Outcome) (front rest : List TurnStep) → DueSteps now b left (front ++ rest) → (others : List Outcome) × DueSteps now b others front
due_part now b left front rest due =
    let (os, ps, k, more) = due_cut due.done front rest due.are in
    (ps ++ left, record { done = os; are = more; all = sym (append_assoc os ps left) ∙ ap (λ z. z ++ left) (sym k) ∙ due.all })

-- a request that is refused posts nothing
none_posted : (status : ℕ) (text : Option (List ℕ)) (went : List Leaving) → AreSome went (answered status text ∷ []) → posts_of went ≡ []
none_posted status text [] h = refl
none_posted status text (y ∷ []) (inl (e, h)) = ap (λ z. posts_of (z ∷ [])) e
none_posted status text (y ∷ (z ∷ ys)) (inl (e, h)) = absurd h
none_posted status text (y ∷ ys) (inr h) = absurd h

pub refused_leads : (hosts : Hosts) (i : ℕ) (u : World) (x : Node) (b : Book) (status : ℕ) (text : Option (List ℕ)) (d : Doing) (ps : List Post) → IsUp hosts i u x b
    → Sent (refusing b status text).leaving d.made ps → Leads hosts i u x b [] ps [] (accepted_between hosts i b b)
refused_leads hosts i u x b status text d ps up sent =
    leads_as hosts i u x b b [] [] [] ps [] [] [] (accepted_between hosts i b b) refl refl (sym (sent.posts ∙ none_posted status text sent.went sent.some)) refl
    (sym (none_new (new_nodes hosts.base_of hosts.count 1) b (subst (IfThere IsInOrder) up.up (in_order hosts u up.reached i x up.found)) i)) (leads_none hosts i u x b up)

-- the step of the request
first_leads : (hosts : Hosts) (i : ℕ) (u : World) (x : Node) (b : Book) (now status : ℕ) (meaning : Meaning) (s : TurnStep) (d : Doing) (ps : List Post) → IsUp hosts i u x b → IsHeard u i x meaning
    → IsFirst b now meaning s status → Sent s.leaving d.made ps → Leads hosts i u x s.behind (records_by (if_landed s.landed s.entry)) ps s.came (accepted_between hosts i b s.behind)
first_leads hosts i u x b now status (Refused st text) s d ps up heard (e, f) sent =
    subst (λ (z : TurnStep). Leads hosts i u x z.behind (records_by (if_landed z.landed z.entry)) ps z.came (accepted_between hosts i b z.behind)) (sym e)
    (refused_leads hosts i u x b st text d ps up (subst (λ (z : TurnStep). Sent z.leaving d.made ps) e sent))
first_leads hosts i u x b now status (Steps e) s d ps up heard (is, f) sent = steps_lead hosts i u x b e now s d ps up (heard e refl) is sent
first_leads hosts i u x b now status Lost s d ps up heard is sent = absurd is
first_leads hosts i u x b now status Unread s d ps up heard is sent = absurd is

module _ (law : WalksTheDue) (hosts : Hosts) (i now : ℕ) (u : World) (x : Node) (b : Book) (up : IsUp hosts i u x b) where
  asked_lead : (left : List Outcome) (meaning : Meaning) (status : ℕ) (first : TurnStep) (rest : List TurnStep) (ds : List Doing) (ps : List Post) → IsHeard u i x meaning
      → IsFirst b now meaning first status → DueSteps now first.behind left rest → AreSent (first ∷ rest) ds ps
      → Leads hosts i u x (book_behind b (first ∷ rest)) (recorded (first ∷ rest)) ps (came_of (first ∷ rest)) (accepted_along hosts i b (first ∷ rest))
  asked_lead left meaning status first rest [] ps heard is due sent = absurd sent
  asked_lead left meaning status first rest (d ∷ ds) ps heard is due (qs, rs, one, others, e) =
      let l = first_leads hosts i u x b now status meaning first d qs up heard is one in
      row_leads hosts i u x b first rest qs rs ps up l
      (due_steps_lead law hosts i now l.world (moved x first.behind (records_by (if_landed first.landed first.entry))) first.behind left rest ds rs
      (then_up hosts i u x b first.behind (records_by (if_landed first.landed first.entry)) qs first.came (accepted_between hosts i b first.behind) up l) due others)
      e

  steppings_lead : (left : List Outcome) (meaning : Meaning) (steps : List TurnStep) (status : ℕ) → Steppings now b left meaning steps status → (ds : List Doing) (ps : List Post)
      → IsHeard u i x meaning → AreSent steps ds ps → Leads hosts i u x (book_behind b steps) (recorded steps) ps (came_of steps) (accepted_along hosts i b steps)
  steppings_lead left meaning steps status (unasked due) ds ps heard sent = due_steps_lead law hosts i now u x b left steps ds ps up due sent
  steppings_lead left meaning steps status (asked first rest is due e) ds ps heard sent =
      subst (λ ss. Leads hosts i u x (book_behind b ss) (recorded ss) ps (came_of ss) (accepted_along hosts i b ss)) (sym e)
      (asked_lead left meaning status first rest ds ps heard is due (subst (λ ss. AreSent ss ds ps) e sent))

  asked_front : (left : List Outcome) (meaning : Meaning) (status : ℕ) (first : TurnStep) (more front rest : List TurnStep) (ds : List Doing) (ps : List Post) → IsHeard u i x meaning
      → IsFirst b now meaning first status → DueSteps now first.behind left more → first ∷ more ≡ front ++ rest → AreSent front ds ps
      → Leads hosts i u x (book_behind b front) (recorded front) ps (came_of front) (accepted_along hosts i b front)
  asked_front left meaning status first more [] rest ds ps heard is due e sent = none_lead hosts i u x b ds ps up sent
  asked_front left meaning status first more (f ∷ fs) rest ds ps heard is due e sent =
      let same : first ≡ f = same_first first f more (fs ++ rest) e in
      let (others, part) = due_part now f.behind left fs rest
      (subst (λ z. DueSteps now f.behind left z) (same_rest first f more (fs ++ rest) e) (subst (λ (z : TurnStep). DueSteps now z.behind left more) same due)) in
      asked_lead others meaning status f fs ds ps heard (subst (λ z. IsFirst b now meaning z status) same is) part sent

  -- the first of them
  pub front_leads : (left : List Outcome) (meaning : Meaning) (steps : List TurnStep) (status : ℕ) → Steppings now b left meaning steps status → (front rest : List TurnStep) (ds : List Doing)
      (ps : List Post) → IsHeard u i x meaning → steps ≡ front ++ rest → AreSent front ds ps → Leads hosts i u x (book_behind b front) (recorded front) ps
      (came_of front) (accepted_along hosts i b front)
  front_leads left meaning steps status (unasked due) front rest ds ps heard e sent =
      let (others, part) = due_part now b left front rest (subst (DueSteps now b left) e due) in
      due_steps_lead law hosts i now u x b others front ds ps up part sent
  front_leads left meaning steps status (asked first more is due k) front rest ds ps heard e sent =
      asked_front left meaning status first more front rest ds ps heard is due (sym k ∙ e) sent

pub empty_leads : (hosts : Hosts) (i : ℕ) (u : World) (x : Node) (b : Book) (front rest : List TurnStep) (ds : List Doing) (ps : List Post) → IsUp hosts i u x b → [] ≡ front ++ rest → AreSent front ds ps
    → Leads hosts i u x (book_behind b front) (recorded front) ps (came_of front) (accepted_along hosts i b front)
empty_leads hosts i u x b [] rest ds ps up e sent = none_lead hosts i u x b ds ps up sent
empty_leads hosts i u x b (f ∷ fs) rest ds ps up e sent = absurd (no_more f (fs ++ rest) (sym e))

pub one_row : (hosts : Hosts) (i : ℕ) (u : World) (x : Node) (b : Book) (s : TurnStep) (ps : List Post) → IsUp hosts i u x b
    → Leads hosts i u x s.behind (records_by (if_landed s.landed s.entry)) ps s.came (accepted_between hosts i b s.behind)
    → Leads hosts i u x (book_behind b (s ∷ [])) (recorded (s ∷ [])) ps (came_of (s ∷ [])) (accepted_along hosts i b (s ∷ []))
one_row hosts i u x b s ps up l =
    row_leads hosts i u x b s [] ps [] ps up l
    (leads_none hosts i l.world (moved x s.behind (records_by (if_landed s.landed s.entry))) s.behind
    (then_up hosts i u x b s.behind (records_by (if_landed s.landed s.entry)) ps s.came (accepted_between hosts i b s.behind) up l))
    (sym (append-nil ps))

pub turns_lead : WalksTheDue → TurnsLead
turns_lead law hosts i u x b now status left meaning steps ds ps up heard turns sent = steppings_lead law hosts i now u x b up left meaning steps status turns ds ps heard sent
