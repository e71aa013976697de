-- Whatever is asked is answered.
use Rattle.std.proofs.Common.{ℕ, List, [], ◌∷◌, ◌≡◌, ◌⊎◌, inl, inr, nat_eq, refl, sym, ◌∙◌, ap, subst, true≢false, if◌then◌else◌, Bool, true, false}
use Rattle.at_base.specs.declared.event.Event.TheVariants as events
use Rattle.at_base.specs.declared.outs.Out.{Out}
use Rattle.at_base.specs.declared.outs.Out.TheVariants as outs
use Rattle.at_model.specs.Book.{Book}
use Rattle.at_model.specs.Step.{Outcome}
use Rattle.http_post.specs.OutBytes.{has_reason}
use Rattle.at_base.specs.declared.record.Record.{Record}
use Rattle.decision_log.specs.KeptRecords.{kept_of}
use Rattle.journal_at.specs.StandingBodies.{Counted}
use Rattle.journal_at.specs.declared.version.Version.TheVariants.{Two}
use Rattle.site_model.specs.Counts.{Rose}
use Rattle.site_model.specs.Site.{Counts as Numbers}
use Rattle.site_model.specs.Told.{Told}
use Rattle.node_at.specs.declared.role.Role.{Role}
use Rattle.node_at.specs.declared.turn.Turned.{Turned}
use Rattle.node_at.specs.declared.turn.Turned.TheVariants as turneds
use Rattle.node_at.specs.declared.shrink.Shrunk.{Shrunk}
use Rattle.node_at.specs.declared.shrink.Shrunk.TheVariants.{NoMemory}
use Rattle.node_at.specs.Endings.{Ends, Renews}
use Rattle.node_at.specs.Meanings.{IsFit, Meaning}
use Rattle.node_at.specs.Meanings.Meaning.{Refused, Steps, Lost, Unread}
use Rattle.node_at.specs.Replies.{IsReply, StepsReply}
use Rattle.node_at.specs.ShrunkJournals.{IsDue, Shrinks, Stays}
use Rattle.node_at.specs.Starts.{IsOpen}
use Rattle.node_at.specs.State.{State}
use Rattle.node_at.specs.Steps.{status_in}
use Rattle.node_at.specs.Turns.{IsAnswer, Turns, is_tick}
use Rattle.node_at.specs.TurnText.{IsFirst, Steppings, TurnStep}
use Rattle.node_at.specs.TurnText.Steppings.{asked, unasked}

replied : (os : List Out) → IsReply os → status_in os ≡ 0 → ⊥
replied [] h z = h
replied (outs.Post post ∷ os) h z = h
replied (outs.Answer status reply ∷ os) (inl e, h) z = true≢false (ap (λ n. nat_eq n 0) (sym z ∙ e))
replied (outs.Answer status reply ∷ os) (inr (inl e), h) z = true≢false (ap (λ n. nat_eq n 0) (sym z ∙ e))
replied (outs.Answer status reply ∷ os) (inr (inr e), h) z = true≢false (ap (λ n. nat_eq n 0) (sym z ∙ e))

has_status : (reply : StepsReply) (b : Book) (now : ℕ) (meaning : Meaning) (s : TurnStep) (status : ℕ) → IsFit meaning → IsFirst b now meaning s status → status ≡ 0 → ⊥
has_status reply b now (Refused refusal text) s status fit (is, e) z = true≢false (sym fit ∙ ap has_reason (sym e ∙ z))
has_status reply b now (Steps (events.Arrived a)) s status fit (is, e) z = replied _ (reply.arrived b a now s.landed) (sym e ∙ z)
has_status reply b now (Steps events.Tick) s status fit (is, e) z = replied _ (reply.ticks b now s.landed) (sym e ∙ z)
has_status reply b now (Steps (events.Local l)) s status fit is z = fit.1
has_status reply b now (Steps (events.Due item)) s status fit is z = fit.1
has_status reply b now Lost s status fit is z = is
has_status reply b now Unread s status fit is z = is

is_lost : StepsReply → (b : Book) (now : ℕ) (left : List Outcome) (meaning : Meaning) (steps : List TurnStep) (status : ℕ) → IsFit meaning → Steppings now b left meaning steps status → status ≡ 0
    → meaning ≡ Lost
is_lost reply b now left meaning steps status fit (unasked due) z = refl
is_lost reply b now left meaning steps status fit (asked first rest is due all) z = absurd (has_status reply b now meaning first status fit is z)

-- no answer only where the connection failed
pub served_lost : (status : ℕ) (role : Role) (n m : State) (old new : Told) → StepsReply → Turns (turneds.Served status) role n m old new → status ≡ 0
    → Rose old.counts.receive new.counts.receive
served_lost status role n m old new reply h z =
    let s = h.serves in
    s.lost (is_lost reply n.book s.now [] s.meaning s.works.0.steps status s.fit s.works.0.turns z)

abbrev status_of : Turned → ℕ
status_of (turneds.Served status) = status
status_of other = 1

abbrev IsServed : Turned → Type 0
IsServed (turneds.Served status) = Unit {0}
IsServed other = ⊥

pub turned_lost : (result : Turned) (role : Role) (n m : State) (old new : Told) → StepsReply → Turns result role n m old new → result ≡ turneds.Served 0
    → Rose old.counts.receive new.counts.receive
turned_lost (turneds.Served status) role n m old new reply h e = served_lost status role n m old new reply h (ap status_of e)
turned_lost turneds.Ticked role n m old new reply h e = absurd (subst IsServed (sym e) tt)
turned_lost turneds.Closed role n m old new reply h e = absurd (subst IsServed (sym e) tt)
turned_lost turneds.NoRoom role n m old new reply h e = absurd (subst IsServed (sym e) tt)
turned_lost turneds.Halted role n m old new reply h e = absurd (subst IsServed (sym e) tt)
turned_lost turneds.LinkDown role n m old new reply h e = absurd (subst IsServed (sym e) tt)

-- and what is done behind the steps changes that no more
ended : {S : Type 0} (told : S → Told) (first result : Turned) (shrunk : Shrunk) (n m : State) (old new : S) → Ends told first result shrunk n m old new → result ≡ turneds.Served 0 → first ≡ turneds.Served 0
ended told (turneds.Served status) result shrunk n m old new h e = by m.halted (sym h.answers ∙ e) where
  by : (halted : Bool) → (if halted then turneds.Halted else turneds.Served status) ≡ turneds.Served 0 → turneds.Served status ≡ turneds.Served 0
  by true f = absurd (subst IsServed (sym f) tt)
  by false f = f
ended told turneds.Ticked result shrunk n m old new h e = by m.halted (sym h.answers ∙ e) where
  by : (halted : Bool) → (if halted then turneds.Halted else turneds.Ticked) ≡ turneds.Served 0 → turneds.Ticked ≡ turneds.Served 0
  by true f = absurd (subst IsServed (sym f) tt)
  by false f = f
ended told turneds.Closed result shrunk n m old new h e = sym h.answers ∙ e
ended told turneds.NoRoom result shrunk n m old new h e = sym h.answers ∙ e
ended told turneds.Halted result shrunk n m old new h e = sym h.answers ∙ e
ended told turneds.LinkDown result shrunk n m old new h e = sym h.answers ∙ e

pub turn_lost : {S : Type 0} (told : S → Told) (first result : Turned) (role : Role) (shrunk : Shrunk) (n k m : State) (old mid new : S) → StepsReply → Turns first role n k (told old) (told mid)
    → Ends told first result shrunk k m mid new → Counted (told mid) (told new) → result ≡ turneds.Served 0
    → Rose (told old).counts.receive (told new).counts.receive
turn_lost told first result role shrunk n k m old mid new reply steps ends counted e =
    let rose = turned_lost first role n k (told old) (told mid) reply steps (ended told first result shrunk k m mid new ends e) in
    subst (Rose (told old).counts.receive) (sym (ap (λ (z : Numbers). z.receive) counted.others)) rose

-- where the connection failed, no status is answered
no_status : (now : ℕ) (b : Book) (left : List Outcome) (steps : List TurnStep) (status : ℕ) → Steppings now b left Lost steps status → status ≡ 0
no_status now b left steps status (unasked due) = refl
no_status now b left steps status (asked first rest is due all) = absurd is

turned_received : (result : Turned) (role : Role) (n m : State) (old new : Told) → Turns result role n m old new → IsAnswer result → new.counts.receive ≡ old.counts.receive
turned_received (turneds.Served status) role n m old new h answered =
    let s = h.serves in
    s.received (λ e. answered (no_status s.now n.book [] s.works.0.steps status (subst (λ z. Steppings s.now n.book [] z s.works.0.steps status) e s.works.0.turns)))
turned_received turneds.Ticked role n m old new h answered =
    let s = h.serves in
    s.received (λ e. true≢false (sym s.works.1 ∙ ap is_tick e))
turned_received turneds.Closed role n m old new h answered = absurd answered
turned_received turneds.NoRoom role n m old new h answered = absurd answered
turned_received turneds.Halted role n m old new h answered = absurd answered
turned_received turneds.LinkDown role n m old new h answered = absurd answered

answered_first : {S : Type 0} (told : S → Told) (first result : Turned) (shrunk : Shrunk) (n m : State) (old new : S) → Ends told first result shrunk n m old new → IsAnswer result → IsAnswer first
answered_first told (turneds.Served status) result shrunk n m old new h a = by m.halted (subst IsAnswer h.answers a) where
  by : (halted : Bool) → IsAnswer (if halted then turneds.Halted else turneds.Served status) → status ≡ 0 → ⊥
  by true k = absurd k
  by false k = k
answered_first told turneds.Ticked result shrunk n m old new h a = tt
answered_first told turneds.Closed result shrunk n m old new h a = subst IsAnswer h.answers a
answered_first told turneds.NoRoom result shrunk n m old new h a = subst IsAnswer h.answers a
answered_first told turneds.Halted result shrunk n m old new h a = subst IsAnswer h.answers a
answered_first told turneds.LinkDown result shrunk n m old new h a = subst IsAnswer h.answers a

pub turn_received : {S : Type 0} (told : S → Told) (first result : Turned) (role : Role) (shrunk : Shrunk) (n k m : State) (old mid new : S) → Turns first role n k (told old) (told mid)
    → Ends told first result shrunk k m mid new → Counted (told mid) (told new) → IsAnswer result → (told new).counts.receive ≡ (told old).counts.receive
turn_received told first result role shrunk n k m old mid new steps ends counted answered =
    ap (λ (z : Numbers). z.receive) counted.others ∙ turned_received first role n k (told old) (told mid) steps (answered_first told first result shrunk k m mid new ends answered)

-- all steps were done, the journal was written anew or not, and the node runs
pub goes_on : {S : Type 0} (told : S → Told) (turned : Turned) (shrunk result : Shrunk) (n m : State) (old new : S) → ((status : ℕ) × (turned ≡ turneds.Served status)) ⊎ (turned ≡ turneds.Ticked)
    → m.halted ≡ false → shrunk ≡ result → Shrinks result n m (told old) (told new) → ((IsDue n → ⊥) → new ≡ old) → (result ≡ NoMemory → new ≡ old)
    → ((rs : List Record) → IsOpen Two rs n.journal (told old) → n.kept ≡ kept_of Two rs → Stays rs m (told old) (told new)) → Counted (told old) (told new) → Ends told turned turned shrunk n m old new
goes_on {S} told turned shrunk result n m old new whole runs is shrinks idle memory stays counted = by whole
  where
    renews : (x : Turned) → Renews told x x shrunk n m old new
    renews x = record {
      shrinks = subst (λ z. Shrinks z n m (told old) (told new)) (sym is) shrinks;
      idle = idle;
      memory = λ e. memory (sym is ∙ e);
      stays = stays;
      counted = counted;
      answers = sym (ap (λ b. if b then turneds.Halted else x) runs);
    }

    by : ((status : ℕ) × (turned ≡ turneds.Served status)) ⊎ (turned ≡ turneds.Ticked) → Ends told turned turned shrunk n m old new
    by (inl (status, e)) = subst (λ z. Ends told z z shrunk n m old new) (sym e) (renews (turneds.Served status))
    by (inr e) = subst (λ z. Ends told z z shrunk n m old new) (sym e) (renews turneds.Ticked)
