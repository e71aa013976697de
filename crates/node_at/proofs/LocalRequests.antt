-- A request, answered by one step.
use Rattle.std.proofs.Common.{ℕ, List, Bool, true, false, [], ◌++◌, ◌≡◌, inl, inr, ⊎_elim, Option, Some, None, option_map, refl, sym, ◌∙◌, ap, subst, arith}
use Rattle.at_base.specs.Numbers.{Numbers}
use Rattle.at_base.specs.declared.event.Event.{Event}
use Rattle.at_base.specs.declared.event.Event.TheVariants as events
use Rattle.at_base.specs.declared.event.Local.{Local}
use Rattle.at_base.specs.declared.event.Local.TheVariants as locals
use Rattle.at_base.specs.declared.outs.Effect.{Effect}
use Rattle.at_base.specs.declared.record.Record.{Record}
use Rattle.at_model.specs.Book.{Book, next_id}
use Rattle.at_model.specs.Step.{refuses}
use Rattle.journal_at.specs.declared.journal.Journal.{Journal}
use Rattle.journal_at.specs.StandingBodies.{Keeps}
use Rattle.site_model.specs.Calls.{Reads}
use Rattle.site_model.specs.Counts.{Rose}
use Rattle.site_model.specs.Site.{Counts as Numerals}
use Rattle.site_model.specs.Told.{Told, Made, Between}
use Rattle.node_at.specs.declared.step.Stepped.{Stepped}
use Rattle.node_at.specs.declared.step.Stepped.TheVariants as stepped
use Rattle.node_at.specs.Locals.{Asked, Untouched, answered_id, cleared, named_by}
use Rattle.node_at.specs.declared.local.Locally.TheVariants as answers
use Rattle.node_at.specs.Moments.{Deed, Moments}
use Rattle.node_at.specs.Sends.{Counts}
use Rattle.node_at.specs.State.{IsNode, State}
use Rattle.node_at.specs.Steps.{IsFate, Keeping, Steps, Stopped, Went}
use Rattle.node_at.specs.Texts.{Leaving}
use Rattle.node_at.proofs.StepRecords.{keeps_on}
use Rattle.node_at.proofs.IdFacts.{and_then, weaker}

-- the id that a request is answered with: the one that it names, or the next
pub named_id : (b : Book) (l : Local) (id : Numbers) → Some id ≡ named_by l → Some id ≡ answered_id b l
named_id b (locals.Begin coordinator ms) id n = absurd cc
named_id b (locals.Interpose activity coordinator) id n = absurd cc
named_id b (locals.Work activity service kind vote key value) id n = n
named_id b (locals.Commit activity) id n = n
named_id b (locals.Rollback activity) id n = n

pub next_is : (b : Book) (l : Local) → None ≡ named_by l → next_id b ≡ answered_id b l
next_is b (locals.Begin coordinator ms) n = refl
next_is b (locals.Interpose activity coordinator) n = refl
next_is b (locals.Work activity service kind vote key value) n = absurd cc
next_is b (locals.Commit activity) n = absurd cc
next_is b (locals.Rollback activity) n = absurd cc

-- a look at the clock changes nothing
pub untouched : (t : ℕ) (old mid : Told) → Reads t old mid → Untouched old mid
untouched t old mid r = record { still = r.still; apart = r.apart; counts = r.counts }

module _ (old mid new : Told) (u : Untouched old mid) where
  between_on : (l : List Made) → Between mid new l → Between old new l
  between_on l (before, after, was, is, p, q) = (before, after, sym u.still.calls ∙ was, is, p, q)

  keeps_at : (j : Journal) (bodies : List (List ℕ)) → Keeps j bodies old → Keeps j bodies mid
  keeps_at j bodies k = keeps_on j bodies old mid u.still.files u.still.images k

  moments_on : (live : ℕ) (bodies : List (List ℕ)) (ds : List Deed) → Moments live bodies ds mid new → Moments live bodies ds old new
  moments_on live bodies ds h =
      and_then old mid new _ (weaker old mid _ _ u.still.time (λ l c p. absurd p))
      (weaker mid new _ _ h (λ l c p. (between_on l p.0, (p.1.0, sym u.still.calls ∙ p.1.1, p.1.2))))

  fate_on : (landed : Bool) (entry : Option Record) (j : Journal) (first : List Made) → IsFate landed entry j first mid new → IsFate landed entry j first old new
  fate_on landed None j first h = h
  fate_on true (Some r) j first h = h
  fate_on false (Some r) j first h = ⊎_elim (λ x. inl (x.0, x.1, subst (λ z. Rose z new.counts.disk) (ap (λ (z : Numerals). z.disk) u.counts) x.2)) (λ x. inr x) h

  went_on : (entry : Option Record) (landed : Bool) (behind : Book) (came : List Effect) (leaving : List Leaving) (n m : State) → Went entry landed behind came leaving n m mid new → Went entry landed behind came leaving n m old new
  went_on entry landed behind came leaving n m h = record {
    book = h.book;
    effects = h.effects;
    kept = h.kept;
    formed = h.formed;
    first = h.first;
    fate = fate_on landed entry n.journal h.first h.fate;
    made = h.made;
    lost = h.lost;
    tried = h.tried;
    counted = subst (λ z. Counts h.lost z new.counts.link) (ap (λ (z : Numerals). z.link) u.counts) h.counted;
    calls = subst (λ z. new.calls ≡ option_map (λ l. l ++ (h.first ++ h.made)) z) u.still.calls h.calls;
    live = h.live;
    limit = h.limit;
    generation = h.generation;
    unshut = h.unshut;
    sure = h.sure;
    runs = h.runs;
    stands = λ bodies k. h.stands bodies (keeps_at n.journal bodies k);
    moments = λ bodies k. moments_on _ bodies _ (h.moments bodies (keeps_at n.journal bodies k));
  }

  stopped_on : (entry : Record) (leaving : List Leaving) (n m : State) → Stopped entry leaving n m mid new → Stopped entry leaving n m old new
  stopped_on entry leaving n m h = record {
    same = h.same;
    unsure = h.unsure;
    formed = h.formed;
    first = h.first;
    makes = h.makes;
    calls = subst (λ z. new.calls ≡ option_map (λ l. l ++ h.first) z) u.still.calls h.calls;
    rose = subst (λ z. Rose z new.counts.gate) (ap (λ (z : Numerals). z.gate) u.counts) h.rose;
    moments = λ bodies k. moments_on _ bodies _ (h.moments bodies (keeps_at n.journal bodies k));
  }

  pub steps_on : (r : Stepped) (n m : State) (e : Event) (now : ℕ) → Steps r n m e now mid new → Steps r n m e now old new
  steps_on (stepped.Done status) n m e now h = record { landed = h.landed; leaving = h.leaving; are = h.are; answers = h.answers; went = went_on _ h.landed _ _ h.leaving n m h.went }
  steps_on stepped.NoRoom n m e now h = h
  steps_on stepped.Halted n m e now h = record { entry = h.entry; is = h.is; leaving = h.leaving; are = h.are; stopped = stopped_on h.entry h.leaving n m h.stopped }

  pub keeping_on : Keeping mid new → Keeping old new
  keeping_on h = record {
    disk = let e = ap (λ (z : Numerals). z.disk) u.counts in let k = h.disk in omega (arith, e, k);
    gate = let e = ap (λ (z : Numerals). z.gate) u.counts in let k = h.gate in omega (arith, e, k);
    link = let e = ap (λ (z : Numerals). z.link) u.counts in let k = h.link in omega (arith, e, k);
    others = h.others ∙ ap (λ (z : Numerals). record z { disk = new.counts.disk; gate = new.counts.gate; link = new.counts.link }) u.counts;
    apart = record { link = h.apart.link ∙ u.apart.link; clock = h.apart.clock ∙ u.apart.clock };
  }

-- the request's answer
module _ (n k m : State) (l : Local) (now : ℕ) (old mid new : Told) (same : k ≡ n) (none : n.effects ≡ []) (runs : n.halted ≡ false) (taken_is : refuses n.book l ≡ None) (r : Reads now old mid) where
  begins : k ≡ cleared n
  begins = same ∙ (λ i. record n { effects = none i })

  pub asked_done : (id : Numbers) (status : ℕ) → answered_id n.book l ≡ Some id → Steps (stepped.Done status) k m (events.Local l) now mid new → Asked (answers.Done id) n m l old new
  asked_done id status is h = (
    runs,
    taken_is,
    is,
    (
      now,
      status,
      r.is,
      steps_on old mid new (untouched now old mid r) (stepped.Done status) (cleared n) m (events.Local l) now
          (subst (λ z. Steps (stepped.Done status) z m (events.Local l) now mid new) begins h),
    ),
  )

  pub asked_halted : Steps stepped.Halted k m (events.Local l) now mid new → Asked answers.Halted n m l old new
  asked_halted h =
      inr (
        runs,
        taken_is,
        (
          now,
          r.is,
          steps_on old mid new (untouched now old mid r) stepped.Halted (cleared n) m (events.Local l) now
              (subst (λ z. Steps stepped.Halted z m (events.Local l) now mid new) begins h),
        ),
      )

pub node_from : {k n : State} → k ≡ n → IsNode n → IsNode k
node_from {k} {n} e h = subst IsNode (sym e) h
