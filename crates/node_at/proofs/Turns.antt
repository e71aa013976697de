-- A turn, put together.
use Rattle.std.proofs.Common.{ℕ, List, [], ◌∷◌, ◌++◌, ◌+◌, ◌≡◌, ◌≤◌, inl, inr, ⊎_elim, Bool, true, false, Option, Some, None, option_map, Result, Ok, Err, refl, sym, ◌∙◌, ap, subst, true≢false, arith}
use Rattle.std.proofs.lemmas.List.{append-nil}
use Rattle.at_base.specs.declared.event.Event.{Event}
use Rattle.at_base.specs.declared.event.Event.TheVariants as events
use Rattle.at_model.specs.Book.{Book}
use Rattle.at_model.specs.Step.{Outcome, plan, step}
use Rattle.http_post.specs.Conversations.{Hears as Heard, IsSaid, IsUnsaid, said}
use Rattle.site_model.specs.Calls.{Closes, Reads, Takes, shut}
use Rattle.site_model.specs.Counts.{Rose}
use Rattle.site_model.specs.Site.{Counts as Numbers, Took}
use Rattle.site_model.specs.Told.{Link, Made, Still, Told}
use Rattle.site_model.specs.declared.site.Taken.{Taken}
use Rattle.site_model.specs.declared.site.Taken.TheVariants as takens
use Rattle.node_at.specs.declared.due.DueEnd.TheVariants as ends
use Rattle.node_at.specs.declared.role.Role.{Role}
use Rattle.node_at.specs.declared.step.Stepped.TheVariants as stepped
use Rattle.node_at.specs.declared.turn.Turned.{Turned}
use Rattle.node_at.specs.declared.turn.Turned.TheVariants as turneds
use Rattle.node_at.specs.Doings.{Does, Doing, NoLess, Ran}
use Rattle.node_at.specs.Dues.{DueRun, is_some_step}
use Rattle.node_at.specs.Meanings.{Hears, IsFit, Meaning, first_of, next_input, open_input}
use Rattle.node_at.specs.Meanings.Meaning.{Refused, Steps, Lost}
use Rattle.node_at.specs.Refusals.{RanOne, Refuses}
use Rattle.node_at.specs.Sends.{Counts}
use Rattle.node_at.specs.State.{IsNode, State}
use Rattle.node_at.specs.Steps.{Keeping, Steps as Stepping, status_in}
use Rattle.node_at.specs.Turns.{Cut, IsLine, Opens, Serves, Turns, Whole, Works, busy, calm, is_heard, line_of, lost_in, turned_by, unsaid_in}
use Rattle.node_at.specs.Turns.Begun.{none, some}
use Rattle.node_at.specs.TurnText.{DueSteps, IsFirst, TurnStep, refusing}
use Rattle.node_at.specs.TurnText.Steppings.{asked, unasked}
use Rattle.node_at.proofs.HaltedSteps.{halts_behind, halts_first, halts_last, halts_one}
use Rattle.node_at.proofs.Rows.{does_line, does_still, does_then, no_less_same, no_less_then, ran_first, ran_last, ran_none, ran_on, ran_one}

-- the step of a request
record FirstOne (meaning : Meaning) (now status : ℕ) (n k : State) (old mid : Told) : Type 0 where
  step : TurnStep
  is : IsFirst n.book now meaning step status
  one : RanOne step n k old mid
  book : k.book ≡ step.behind

first_refused : (now status : ℕ) (text : Option (List ℕ)) (n k : State) (old mid : Told) → Refuses true status text n k old mid → FirstOne (Refused status text) now status n k old mid
first_refused now status text n k old mid h = record { step = refusing n.book status text; is = (refl, refl); one = h.1; book = ap (λ (z : State). z.book) h.0 }

first_done : (event : Event) (now status : ℕ) (n k : State) (old mid : Told) → IsNode n → n.halted ≡ false → Stepping (stepped.Done status) n k event now old mid → Keeping old mid
    → FirstOne (Steps event) now status n k old mid
first_done event now status n k old mid node runs w keeping =
    let s : TurnStep = record {
      entry = (plan n.book event now).entry;
      landed = w.landed;
      leaving = w.leaving;
      behind = (step n.book event now w.landed).book;
      came = (step n.book event now w.landed).effects;
    } in
    record {
      step = s;
      is = (record { entry = refl; outcome = record { leaving = w.are; behind = refl; came = refl } }, w.answers);
      one = ran_one s n k old mid w.went keeping (node.sure ∙ runs) runs;
      book = w.went.book;
    }

whole_of : (meaning : Meaning) (now status : ℕ) (n k m : State) (old mid new : Told) → FirstOne meaning now status n k old mid → DueRun ends.All now k m mid new
    → Whole [] meaning now status n m old new
whole_of meaning now status n k m old mid new f d = record {
  steps = f.step ∷ d.steps;
  doings = f.one.doing ∷ d.doings;
  turns = asked f.step d.steps f.is (subst (λ z. DueSteps now z [] d.steps) f.book (subst (λ z. DueSteps now k.book z d.steps) d.ends d.due)) refl;
  ran = ran_on [] n k m old mid new (f.step ∷ []) d.steps (f.one.doing ∷ []) d.doings f.one.ran d.ran;
}

cut_of : (meaning : Meaning) (now status : ℕ) (came : Bool) (n k m : State) (old mid new : Told) → FirstOne meaning now status n k old mid → DueRun (ends.NoRoom came) now k m mid new
    → Cut [] meaning now n m old new
cut_of meaning now status came n k m old mid new f d = record {
  steps = f.step ∷ d.steps;
  doings = f.one.doing ∷ d.doings;
  begun = some status d.left (asked f.step d.steps f.is (subst (λ z. DueSteps now z d.left d.steps) f.book d.due) refl) d.ends.0;
  ran = subst (λ z. Ran [] z (f.one.doing ∷ d.doings) n m old new) (sym (append-nil (f.step ∷ d.steps)))
      (ran_on [] n k m old mid new (f.step ∷ []) d.steps (f.one.doing ∷ []) d.doings f.one.ran d.ran);
}

-- no step came
pub cut_first : (meaning : Meaning) (now : ℕ) (n m : State) (old new : Told) → Refuses true 503 None n m old new → Works turneds.NoRoom [] meaning now n m old new
cut_first meaning now n m old new h = record { steps = []; doings = h.1.doing ∷ []; begun = none; ran = h.1.ran }

-- a request that is refused
pub refused_whole : (now status : ℕ) (text : Option (List ℕ)) (n k m : State) (old mid new : Told) → Refuses true status text n k old mid → DueRun ends.All now k m mid new
    → Works (turneds.Served status) [] (Refused status text) now n m old new
refused_whole now status text n k m old mid new h d = (whole_of (Refused status text) now status n k m old mid new (first_refused now status text n k old mid h) d, refl)

pub refused_cut : (now status : ℕ) (text : Option (List ℕ)) (came : Bool) (n k m : State) (old mid new : Told) → Refuses true status text n k old mid → DueRun (ends.NoRoom came) now k m mid new
    → Works turneds.NoRoom [] (Refused status text) now n m old new
refused_cut now status text came n k m old mid new h d = cut_of (Refused status text) now status came n k m old mid new (first_refused now status text n k old mid h) d

-- an event
ticked : (b : Book) (now status : ℕ) (landed : Bool) → status ≡ status_in (step b events.Tick now landed).outs → status ≡ 202
ticked b now status true e = e
ticked b now status false e = e

works_event : (event : Event) (now status : ℕ) (n k m : State) (old mid new : Told) → FirstOne (Steps event) now status n k old mid → DueRun ends.All now k m mid new
    → Works (turned_by event status) [] (Steps event) now n m old new
works_event events.Tick now status n k m old mid new f d =
    (subst (λ z. Whole [] (Steps events.Tick) now z n m old new) (ticked n.book now status f.step.landed f.is.1) (whole_of (Steps events.Tick) now status n k m old mid new f d), refl)
works_event (events.Arrived a) now status n k m old mid new f d = (whole_of (Steps (events.Arrived a)) now status n k m old mid new f d, refl)
works_event (events.Local l) now status n k m old mid new f d = (whole_of (Steps (events.Local l)) now status n k m old mid new f d, refl)
works_event (events.Due item) now status n k m old mid new f d = (whole_of (Steps (events.Due item)) now status n k m old mid new f d, refl)

pub event_whole : (event : Event) (now status : ℕ) (n k m : State) (old mid new : Told) → IsNode n → n.halted ≡ false → Stepping (stepped.Done status) n k event now old mid → Keeping old mid
    → DueRun ends.All now k m mid new → Works (turned_by event status) [] (Steps event) now n m old new
event_whole event now status n k m old mid new node runs w keeping d = works_event event now status n k m old mid new (first_done event now status n k old mid node runs w keeping) d

pub event_cut : (event : Event) (now status : ℕ) (came : Bool) (n k m : State) (old mid new : Told) → IsNode n → n.halted ≡ false → Stepping (stepped.Done status) n k event now old mid → Keeping old mid
    → DueRun (ends.NoRoom came) now k m mid new → Works turneds.NoRoom [] (Steps event) now n m old new
event_cut event now status came n k m old mid new node runs w keeping d = cut_of (Steps event) now status came n k m old mid new (first_done event now status n k old mid node runs w keeping) d

pub event_halted : (event : Event) (now : ℕ) (n m : State) (old new : Told) → Stepping stepped.Halted n m event now old new → Keeping old new → Works turneds.Halted [] (Steps event) now n m old new
event_halted event now n m old new w keeping =
    let s : TurnStep = record {
      entry = Some w.entry;
      landed = true;
      leaving = w.leaving;
      behind = (step n.book event now true).book;
      came = (step n.book event now true).effects;
    } in
    halts_one (Steps event) now (status_in (step n.book event now true).outs) s w.entry n m old new
    (record { entry = sym w.is; outcome = record { leaving = w.are; behind = refl; came = refl } }, refl) refl refl w.stopped keeping

-- a connection that failed
pub lost_whole : (now : ℕ) (n m : State) (old new : Told) → DueRun ends.All now n m old new → Works (turneds.Served 0) [] Lost now n m old new
lost_whole now n m old new d =
    (record { steps = d.steps; doings = d.doings; turns = unasked (subst (λ z. DueSteps now n.book z d.steps) d.ends d.due); ran = d.ran }, refl)

lost_some : (now : ℕ) (n m : State) (old new : Told) (steps : List TurnStep) (doings : List Doing) (left : List Outcome) → true ≡ is_some_step steps → DueSteps now n.book left steps
    → (left ≡ [] → ⊥) → Ran [] steps doings n m old new → Cut [] Lost now n m old new
lost_some now n m old new [] doings left e due more ran = absurd (true≢false e)
lost_some now n m old new (s ∷ ss) doings left e due more ran = record {
  steps = s ∷ ss;
  doings = doings;
  begun = some 0 left (unasked due) more;
  ran = subst (λ z. Ran [] z doings n m old new) (sym (append-nil (s ∷ ss))) ran;
}

pub lost_cut : (now : ℕ) (came : Bool) (n m : State) (old new : Told) → came ≡ true → DueRun (ends.NoRoom came) now n m old new → Works turneds.NoRoom [] Lost now n m old new
lost_cut now came n m old new e d = lost_some now n m old new d.steps d.doings d.left (sym e ∙ d.ends.1) d.due d.ends.0 d.ran

lost_none : (now : ℕ) (n k m : State) (old mid new : Told) (steps : List TurnStep) (doings : List Doing) → false ≡ is_some_step steps → Ran [] steps doings n k old mid
    → RanOne (refusing k.book 503 None) k m mid new → Cut [] Lost now n m old new
lost_none now n k m old mid new (s ∷ ss) doings e ran busy = absurd (true≢false (sym e))
lost_none now n k m old mid new [] doings e ran busy = record {
  steps = [];
  doings = doings ++ busy.doing ∷ [];
  begun = none;
  ran = ran_on [] n k m old mid new [] (refusing n.book 503 None ∷ []) doings (busy.doing ∷ []) ran
      (subst (λ z. Ran [] (refusing z 503 None ∷ []) (busy.doing ∷ []) k m mid new) ran.book busy.ran);
}

pub lost_busy : (now : ℕ) (came : Bool) (n k m : State) (old mid new : Told) → came ≡ false → DueRun (ends.NoRoom came) now n k old mid → Refuses true 503 None k m mid new
    → Works turneds.NoRoom [] Lost now n m old new
lost_busy now came n k m old mid new e d h = lost_none now n k m old mid new d.steps d.doings (sym e ∙ d.ends.1) d.ran h.1

-- Behind the interim line.
pub works_behind : (result : Turned) (made : List Made) (meaning : Meaning) (now : ℕ) (n m : State) (old mid new : Told) → Does (line_of made) n.journal n.journal old mid → NoLess old.counts mid.counts
    → Works result [] meaning now n m mid new → Works result (line_of made) meaning now n m old new
works_behind result made meaning now n m old mid new does later w = by result w where
  line : Ran (line_of made) [] [] n n old mid
  line = ran_none (line_of made) n old mid refl does later

  whole : (status : ℕ) → Whole [] meaning now status n m mid new → Whole (line_of made) meaning now status n m old new
  whole status h = record { steps = h.steps; doings = h.doings; turns = h.turns; ran = ran_on (line_of made) n n m old mid new [] h.steps [] h.doings line h.ran }

  by : (r : Turned) → Works r [] meaning now n m mid new → Works r (line_of made) meaning now n m old new
  by (turneds.Served status) h = (whole status h.0, h.1)
  by turneds.Ticked h = (whole 202 h.0, h.1)
  by turneds.NoRoom h = record { steps = h.steps; doings = h.doings; begun = h.begun; ran = ran_on (line_of made) n n m old mid new [] (h.steps ++ busy n.book h.steps) [] h.doings line h.ran }
  by turneds.Halted h = halts_behind (line_of made) meaning now n m old mid new refl does later h
  by turneds.Closed h = absurd h
  by turneds.LinkDown h = absurd h

-- before a call that sends nothing and touches no file
pub works_last : (result : Turned) (ls : List Doing) (meaning : Meaning) (now : ℕ) (n m : State) (old mid new : Told) → Works result ls meaning now n m old mid → Still mid new → NoLess mid.counts new.counts
    → Works result ls meaning now n m old new
works_last (turneds.Served status) ls meaning now n m old mid new h s later =
    (record { steps = h.0.steps; doings = h.0.doings; turns = h.0.turns; ran = ran_last ls h.0.steps h.0.doings n m old mid new h.0.ran s later }, h.1)
works_last turneds.Ticked ls meaning now n m old mid new h s later =
    (record { steps = h.0.steps; doings = h.0.doings; turns = h.0.turns; ran = ran_last ls h.0.steps h.0.doings n m old mid new h.0.ran s later }, h.1)
works_last turneds.NoRoom ls meaning now n m old mid new h s later =
    record { steps = h.steps; doings = h.doings; begun = h.begun; ran = ran_last ls (h.steps ++ busy n.book h.steps) h.doings n m old mid new h.ran s later }
works_last turneds.Halted ls meaning now n m old mid new h s later = halts_last ls meaning now n m old mid new h s later
works_last turneds.Closed ls meaning now n m old mid new h s later = absurd h
works_last turneds.LinkDown ls meaning now n m old mid new h s later = absurd h

pub no_less_heard : (made : List Made) (old new : Told) → Heard made old new → old.counts.receive ≤ new.counts.receive → old.counts.link ≤ new.counts.link → NoLess old.counts new.counts
no_less_heard made old new h receive link = record {
  arming = ap (λ (z : Numbers). z.arming) h.counts;
  disk = omega (arith, ap (λ (z : Numbers). z.disk) h.counts);
  gate = omega (arith, ap (λ (z : Numbers). z.gate) h.counts);
  accept = omega (arith, ap (λ (z : Numbers). z.accept) h.counts);
  receive = receive;
  link = link;
  taken = omega (arith, ap (λ (z : Numbers). z.taken) h.counts);
  closings = omega (arith, ap (λ (z : Numbers). z.closings) h.counts);
  attached = ap (λ (z : Numbers). z.attached) h.counts;
}

pub works_first : (result : Turned) (ls : List Doing) (meaning : Meaning) (now : ℕ) (n m : State) (old mid new : Told) → Still old mid → NoLess old.counts mid.counts → Works result ls meaning now n m mid new
    → Works result ls meaning now n m old new
works_first (turneds.Served status) ls meaning now n m old mid new s later h =
    (record { steps = h.0.steps; doings = h.0.doings; turns = h.0.turns; ran = ran_first ls h.0.steps h.0.doings n m old mid new s later h.0.ran }, h.1)
works_first turneds.Ticked ls meaning now n m old mid new s later h =
    (record { steps = h.0.steps; doings = h.0.doings; turns = h.0.turns; ran = ran_first ls h.0.steps h.0.doings n m old mid new s later h.0.ran }, h.1)
works_first turneds.NoRoom ls meaning now n m old mid new s later h =
    record { steps = h.steps; doings = h.doings; begun = h.begun; ran = ran_first ls (h.steps ++ busy n.book h.steps) h.doings n m old mid new s later h.ran }
works_first turneds.Halted ls meaning now n m old mid new s later h = halts_first ls meaning now n m old mid new s later h
works_first turneds.Closed ls meaning now n m old mid new s later h = absurd h
works_first turneds.LinkDown ls meaning now n m old mid new s later h = absurd h

works_later : (result : Turned) (ls : List Doing) (meaning : Meaning) (now : ℕ) (n m : State) (old new : Told) → Works result ls meaning now n m old new → NoLess old.counts new.counts
works_later (turneds.Served status) ls meaning now n m old new h = h.0.ran.later
works_later turneds.Ticked ls meaning now n m old new h = h.0.ran.later
works_later turneds.NoRoom ls meaning now n m old new h = h.ran.later
works_later turneds.Halted ls meaning now n m old new h = h.later
works_later turneds.Closed ls meaning now n m old new h = absurd h
works_later turneds.LinkDown ls meaning now n m old new h = absurd h

-- a rise stays
still_rose : (a b c : ℕ) → Rose a b → b ≤ c → Rose a c
still_rose a b c h k = omega (arith, h, k)

-- what was said stays so
line_later : (input : Option (List ℕ)) (b : Bool) (old mid new : Told) (made : List Made) → IsLine input b old mid made → mid.counts.link ≤ new.counts.link → IsLine input b old new made
line_later input b old mid new made h later = record {
  once = h.once;
  asked = h.asked;
  exact = λ is bytes e. let (waits, (k, said)) = h.exact is bytes e in (waits, (k, ⊎_elim inl (λ u. inr (u.0, still_rose _ _ _ u.1 later)) said));
}

line_since : (input : Option (List ℕ)) (b : Bool) (old mid new : Told) (made : List Made) → IsLine input b mid new made → mid.counts.link ≡ old.counts.link → IsLine input b old new made
line_since input b old mid new made h same = record {
  once = h.once;
  asked = h.asked;
  exact = λ is bytes e. let (waits, (k, said)) = h.exact is bytes e in (waits, (k, subst (λ z. IsSaid waits z new.counts.link made) same said));
}

-- a line that wasn't said is counted
line_counted : (waits : Bool) (before now : ℕ) (made : List Made) → before ≤ now → IsSaid waits before now made → Counts (unsaid_in made) before now
line_counted waits before now made later h less = either h where
  none : (waits : Bool) → unsaid_in (said waits) ≡ 0
  none true = refl
  none false = refl

  one : (waits : Bool) → IsUnsaid waits made → unsaid_in made ≤ 1
  one true k = ⊎_elim (λ e. let u = ap unsaid_in e in omega (arith, u)) (λ e. let u = ap unsaid_in e in omega (arith, u)) k
  one false k = absurd k

  either : IsSaid waits before now made → before + unsaid_in made ≤ now
  either (inl e) = let u = ap unsaid_in e ∙ none waits in omega (arith, u, later)
  either (inr (k, rose)) = let u = one waits k in omega (arith, u, rose, less)

-- beside what is lost behind it
counted_then : (lost unsaid old heard timed done new : ℕ) → Counts unsaid old heard → heard ≤ timed → Counts lost timed done → timed ≤ done → done ≤ new → Counts (unsaid + lost) old new
counted_then lost unsaid old heard timed done new first a then b c less =
    let x = first (omega (arith, a, b, c, less)) in
    let y = then (omega (arith, c, less)) in
    omega (arith, a, x, y, c)

counted_behind : (result : Turned) (unsaid : ℕ) (made : List Made) (meaning : Meaning) (now : ℕ) (n m : State) (old heard timed done new : Told)
    (does : Does (line_of made) n.journal n.journal old timed) (begun : NoLess old.counts timed.counts) (works : Works result [] meaning now n m timed done) (still : Still done new) (closed : NoLess done.counts new.counts)
    → Counts unsaid old.counts.link heard.counts.link → heard.counts.link ≤ timed.counts.link
    → Counts (unsaid + lost_in result (line_of made) meaning now n m old new
    (works_last result (line_of made) meaning now n m old done new (works_behind result made meaning now n m old timed done does begun works) still closed)) old.counts.link new.counts.link
unfolding works_last works_behind
counted_behind (turneds.Served status) unsaid made meaning now n m old heard timed done new does begun works still closed first read =
    counted_then _ unsaid _ _ _ _ _ first read works.0.ran.lost works.0.ran.later.link closed.link
counted_behind turneds.Ticked unsaid made meaning now n m old heard timed done new does begun works still closed first read =
    counted_then _ unsaid _ _ _ _ _ first read works.0.ran.lost works.0.ran.later.link closed.link
counted_behind turneds.NoRoom unsaid made meaning now n m old heard timed done new does begun works still closed first read =
    counted_then _ unsaid _ _ _ _ _ first read works.ran.lost works.ran.later.link closed.link
counted_behind turneds.Halted unsaid made meaning now n m old heard timed done new does begun works still closed first read =
    counted_then 0 unsaid _ _ timed.counts.link done.counts.link _ first read (λ less. let k = works.later.link in omega (arith, k)) works.later.link closed.link
counted_behind turneds.Closed unsaid made meaning now n m old heard timed done new does begun works still closed first read = absurd works
counted_behind turneds.LinkDown unsaid made meaning now n m old heard timed done new does begun works still closed first read = absurd works

lost_first : (result : Turned) (ls : List Doing) (meaning : Meaning) (now : ℕ) (n m : State) (old mid new : Told) (still : Still old mid) (later : NoLess old.counts mid.counts) (works : Works result ls meaning now n m mid new)
    → lost_in result ls meaning now n m old new (works_first result ls meaning now n m old mid new still later works) ≡ lost_in result ls meaning now n m mid new works
unfolding works_first
lost_first (turneds.Served status) ls meaning now n m old mid new still later works = refl
lost_first turneds.Ticked ls meaning now n m old mid new still later works = refl
lost_first turneds.NoRoom ls meaning now n m old mid new still later works = refl
lost_first turneds.Halted ls meaning now n m old mid new still later works = refl
lost_first turneds.Closed ls meaning now n m old mid new still later works = absurd works
lost_first turneds.LinkDown ls meaning now n m old mid new still later works = absurd works

-- A connection that is open.
-- what is shut brings nothing
is_shut : (before after : Option Link) → after ≡ option_map shut before → (l : Link) → after ≡ Some l → l.open_bytes ≡ []
is_shut None after shuts l is = absurd (nothing (sym shuts ∙ is))
  where
    nothing : None ≡ Some l → ⊥
    nothing e = absurd cc
is_shut (Some k) after shuts l is = ap (λ (z : Link). z.open_bytes) (same (sym is ∙ shuts))
  where
    same : Some l ≡ Some (shut k) → l ≡ shut k
    same e = cc

pub serves_so : (result : Turned) (role : Role) (meaning : Meaning) (now : ℕ) (n m : State) (old heard timed done new : Told) → Hears role (open_input old.link) meaning → IsFit meaning
    → (meaning ≡ Lost → Rose old.counts.receive heard.counts.receive) → ((meaning ≡ Lost → ⊥) → heard.counts.receive ≡ old.counts.receive)
    → (made : List Made) × (Heard made old heard × IsLine (open_input old.link) (is_heard meaning) old heard made) → NoLess old.counts heard.counts → Reads now heard timed
    → Works result [] meaning now n m timed done → done.counts.receive ≡ timed.counts.receive → Closes done new → Serves result role (open_input old.link) n m old new
serves_so result role meaning now n m old heard timed done new h fit lost received (made, (says, line)) later reads works since closes =
    let read = no_less_same heard.counts timed.counts reads.counts in
    let begun = no_less_then old.counts heard.counts timed.counts later read in
    let closed = no_less_same done.counts new.counts closes.counts in
    let rest = no_less_then heard.counts timed.counts new.counts read (no_less_then timed.counts done.counts new.counts (works_later result [] meaning now n m timed done works) closed) in
    let line_said : Does (line_of made) n.journal n.journal old timed = does_then (line_of made) [] n.journal n.journal n.journal old heard timed (does_line n.journal made old heard says) (does_still n.journal heard timed reads.still) in
    record {
      meaning = meaning;
      heard = h;
      fit = fit;
      now = now;
      clock = λ t e. reads.is t (says.clock ∙ e);
      made = made;
      line = line_later (open_input old.link) (is_heard meaning) old heard new made line rest.link;
      lost = λ e. still_rose _ _ _ (lost e) rest.receive;
      received = λ e. ap (λ (z : Numbers). z.receive) closes.counts ∙ since ∙ ap (λ (z : Numbers). z.receive) reads.counts ∙ received e;
      works = works_last result (line_of made) meaning now n m old done new
          (works_behind result made meaning now n m old timed done line_said begun works) closes.still closed;
      counted = λ is bytes e.
          let (waits, (k, said)) = line.exact is bytes e in
          counted_behind result (unsaid_in made) made meaning now n m old heard timed done new line_said begun works closes.still closed (line_counted waits _ _ made later.link said) read.link;
      closed = is_shut done.link new.link closes.link;
      later = no_less_then old.counts heard.counts new.counts later rest;
    }

abbrev IsNone : Option Link → Type 0
IsNone None = Unit {0}
IsNone (Some l) = ⊥

abbrev IsOpened : Link → Link → Type 0
IsOpened before after = before.waiting ≡ after.open_bytes ∷ after.waiting

input_of : (before after : Option Link) → ((l : Link) → before ≡ Some l → (k : Link) × (after ≡ Some k) × IsOpened l k) → (before ≡ None → after ≡ None) → open_input after ≡ next_input before
input_of None after told untold = ap open_input (untold refl)
input_of (Some l) after told untold = let (k, is, opens) = told l refl in ap open_input is ∙ sym (ap first_of opens)

takes_later : {E : Type 0} (result : Result Taken E) (old new : Numbers) → Took old new result → NoLess old new
takes_later (Ok takens.Opened) old new h = record {
  arming = ap (λ (z : Numbers). z.arming) h.others;
  disk = omega (arith, ap (λ (z : Numbers). z.disk) h.others);
  gate = omega (arith, ap (λ (z : Numbers). z.gate) h.others);
  accept = h.cause.later;
  receive = omega (arith, ap (λ (z : Numbers). z.receive) h.others);
  link = omega (arith, ap (λ (z : Numbers). z.link) h.others);
  taken = let r = h.counted.0.at_least in omega (arith, r);
  closings = omega (arith, h.counted.1);
  attached = ap (λ (z : Numbers). z.attached) h.others;
}
takes_later (Ok takens.Closed) old new h = record {
  arming = ap (λ (z : Numbers). z.arming) h.others;
  disk = omega (arith, ap (λ (z : Numbers). z.disk) h.others);
  gate = omega (arith, ap (λ (z : Numbers). z.gate) h.others);
  accept = h.cause.later;
  receive = omega (arith, ap (λ (z : Numbers). z.receive) h.others);
  link = omega (arith, ap (λ (z : Numbers). z.link) h.others);
  taken = omega (arith, h.counted.1);
  closings = let r = h.counted.0.at_least in omega (arith, r);
  attached = ap (λ (z : Numbers). z.attached) h.others;
}
takes_later (Err e) old new h = record {
  arming = ap (λ (z : Numbers). z.arming) h.others;
  disk = omega (arith, ap (λ (z : Numbers). z.disk) h.others);
  gate = omega (arith, ap (λ (z : Numbers). z.gate) h.others);
  accept = h.cause.later;
  receive = omega (arith, ap (λ (z : Numbers). z.receive) h.others);
  link = omega (arith, ap (λ (z : Numbers). z.link) h.others);
  taken = omega (arith, h.counted.0);
  closings = omega (arith, h.counted.1);
  attached = ap (λ (z : Numbers). z.attached) h.others;
}

opens_so : (result : Turned) (role : Role) (n m : State) (old mid new : Told) {E : Type 0} → Takes {E = E} (Ok takens.Opened) old mid → Serves result role (open_input mid.link) (calm n) m mid new
    → Opens result role n m old new
opens_so result role n m old mid new takes h =
    let later = takes_later (Ok takens.Opened) old.counts mid.counts takes.counts in
    let input = input_of old.link mid.link takes.told takes.untold in
    let same : mid.counts.receive ≡ old.counts.receive = ap (λ (z : Numbers). z.receive) takes.counts.others in
    let kept : mid.counts.link ≡ old.counts.link = ap (λ (z : Numbers). z.link) takes.counts.others in
    record {
      serves = record {
        meaning = h.meaning;
        heard = subst (λ z. Hears role z h.meaning) input h.heard;
        fit = h.fit;
        now = h.now;
        clock = λ t e. h.clock t (takes.clock ∙ e);
        made = h.made;
        line = line_since (next_input old.link) (is_heard h.meaning) old mid new h.made (subst (λ z. IsLine z (is_heard h.meaning) mid new h.made) input h.line) kept;
        lost = λ e. subst (λ z. Rose z new.counts.receive) same (h.lost e);
        received = λ e. h.received e ∙ same;
        works = works_first result (line_of h.made) h.meaning h.now (calm n) m old mid new takes.still later h.works;
        counted = λ is bytes e.
            subst (λ z. Counts z old.counts.link new.counts.link) (ap (λ z. unsaid_in h.made + z) (sym (lost_first result (line_of h.made) h.meaning h.now (calm n) m old mid new takes.still later h.works)))
            (subst (λ z. Counts (unsaid_in h.made + lost_in result (line_of h.made) h.meaning h.now (calm n) m mid new h.works) z new.counts.link) kept (h.counted is bytes (input ∙ e)));
        later = no_less_then old.counts mid.counts new.counts later h.later;
        closed = h.closed;
      };
      taken = let a = takes.counts.counted.0.at_least in let b = h.later.taken in omega (arith, a, b);
    }

opened_turns : (result : Turned) (role : Role) (n m : State) (old mid new : Told) {E : Type 0} → n.halted ≡ false → Takes {E = E} (Ok takens.Opened) old mid → Serves result role (open_input mid.link) (calm n) m mid new
    → Turns result role n m old new
opened_turns (turneds.Served status) role n m old mid new runs takes h = opens_so (turneds.Served status) role n m old mid new takes h
opened_turns turneds.Ticked role n m old mid new runs takes h = opens_so turneds.Ticked role n m old mid new takes h
opened_turns turneds.NoRoom role n m old mid new runs takes h = opens_so turneds.NoRoom role n m old mid new takes h
opened_turns turneds.Halted role n m old mid new runs takes h = inr (runs, opens_so turneds.Halted role n m old mid new takes h)
opened_turns turneds.Closed role n m old mid new runs takes h = absurd h.works
opened_turns turneds.LinkDown role n m old mid new runs takes h = absurd h.works

pub turns_opened : (result : Turned) (role : Role) (n k m : State) (old mid new : Told) {E : Type 0} (taken : Result Taken E) → taken ≡ Ok takens.Opened → n.halted ≡ false → k ≡ calm n → Takes taken old mid
    → Serves result role (open_input mid.link) k m mid new → Turns result role n m old new
turns_opened result role n k m old mid new taken e runs same takes h =
    opened_turns result role n m old mid new runs (subst (λ z. Takes z old mid) e takes) (subst (λ z. Serves result role (open_input mid.link) z m mid new) same h)

pub turns_closed : (role : Role) (n m : State) (old new : Told) {E : Type 0} → n.halted ≡ false → m ≡ calm n → Takes {E = E} (Ok takens.Closed) old new → Turns turneds.Closed role n m old new
turns_closed role n m old new runs same takes = (runs, record { same = same; still = takes.still; attached = ap (λ (z : Numbers). z.attached) takes.counts.others }, takes.counts.counted.0.at_least, λ l is. (takes.told l is).2.0)

pub turns_down : {E : Type 0} (e : E) (role : Role) (n m : State) (old new : Told) → n.halted ≡ false → m ≡ calm n → Takes (Err e) old new → Turns turneds.LinkDown role n m old new
turns_down e role n m old new runs same takes = (runs, record { same = same; still = takes.still; attached = ap (λ (z : Numbers). z.attached) takes.counts.others }, takes.counts.cause.failed, ap (λ (z : Numbers). z.arming) takes.counts.others)

pub turns_halted : (role : Role) (n m : State) (old : Told) → n.halted ≡ true → m ≡ calm n → Turns turneds.Halted role n m old old
turns_halted role n m old halted same =
    inl (halted, record { same = same; still = record { files = refl; images = λ c now. now; calls = refl; time = record { adds = λ l c past. inl past; keeps = λ l c past. past } }; attached = refl })
