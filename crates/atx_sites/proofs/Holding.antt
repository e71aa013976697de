-- What holds of a machine, from call to call.
use Rattle.std.proofs.Common.{ℕ, List, Bool, Option, Result, Ok, Err, Some, None, true, false, [], ◌≡◌, ap, inl, inr, refl, subst, sym}
use Rattle.std.specs.Prelude.{All}
use Rattle.std.proofs.lemmas.List.Elements.{All-nil}
use Rattle.resend_delays.specs.declared.delays.Delays.{Delays}
use Rattle.system_calls.specs.Calls.{Calls, Number}
use Rattle.atx_sites.specs.Arrivals.{Bounded, ConnectionCame, HasCome, Keeps, KeepsOn, KeptOn, ServedCame}
use Rattle.atx_sites.specs.Departures.{Within}
use Rattle.atx_sites.specs.Departures.{IsTimed as LeavesInTime}
use Rattle.atx_sites.specs.LinkCalls.{Later, Sending, number_at}
use Rattle.atx_sites.specs.LinkCalls.Later.{none, more}
use Rattle.atx_sites.specs.LinkCalls.Sending.{none as unsent, took, failed}
use Rattle.atx_sites.specs.Machines.{Holds}
use Rattle.atx_sites.specs.Names.{AreAnswered, IsAnswered}
use Rattle.atx_sites.specs.Resends.{IfHeld}
use Rattle.atx_sites.specs.Waits.{Changes, IsTimed}
use Rattle.atx_sites.specs.declared.arriving.Arriving.{Arriving}
use Rattle.atx_sites.specs.declared.connection.Connection.{Connection}
use Rattle.atx_sites.specs.declared.connection.Served.{Served}
use Rattle.atx_sites.specs.declared.departures.Departures.{Departures}
use Rattle.atx_sites.specs.declared.resolved_names.ResolvedNames.{ResolvedNames}
use Rattle.atx_sites.specs.declared.waiting.Waiting.{Waiting}
use Rattle.atx_sites.proofs.Bounds.{bounded_none}
use Rattle.atx_sites.proofs.Changing.{all_timed_later, timed_changed}
use Rattle.atx_sites.proofs.Comings.{came_closed, came_none, have_still, none_came, still_came}
use Rattle.atx_sites.proofs.DepartureBounds.{within_none}
use Rattle.atx_sites.proofs.DepartureTimes.{all_timed_later as all_leave_later}
use Rattle.atx_sites.proofs.NamesKept.{still_kept}

sending_later : (stream : Number) (bytes : List ℕ) (old : Calls) (k : ℕ) (new : Calls) → Sending stream bytes old k new → Later old new
sending_later stream bytes old k new (unsent z e) = none e
sending_later stream bytes old k new (took m h i e) = more _ (sending_later stream bytes old _ _ h) e
sending_later stream bytes old k new (failed fault h e) = more _ (sending_later stream bytes old _ _ h) e

pub held_later : (held : Bool) (host : List ℕ) (port : ℕ) (bytes : List ℕ) (delays : Delays) (old new : Calls) → IfHeld held host port bytes delays old new → Later old new
held_later true host port bytes delays old new (time, e, early) = more _ (none refl) e
held_later false host port bytes delays old new (inl e) = none e
held_later false host port bytes delays old new (inr (got, e)) = more _ (none refl) e

names_kept : (calls : Calls) (old new : ResolvedNames) → new ≡ old → AreAnswered calls old.names.items → AreAnswered calls new.names.items
names_kept calls old new e h = subst (λ (n : ResolvedNames). AreAnswered calls n.names.items) (sym e) h

module _ {L C : Type 0} (number : C → Number) (listens : L → Number) where
  served_still : (listener : Number) (old new : Calls) (served : Option (Served C)) → Later old new → ServedCame number listener old served → ServedCame number listener new served
  served_still listener old new None l h = tt
  served_still listener old new (Some s) l h = still_came listener (number s.arriving.stream, s.arriving.peer) s.arriving.bytes.items old new h l

  keeps_later : {E : Type 0} (bytes : List ℕ) (result : Result (Unit {0}) E) (old new : Served C) (before now : Calls) → Keeps number bytes result old new before now
      → Later before now × (new.arriving ≡ old.arriving)
  keeps_later bytes (Ok done) old new before now (same, (k, sent, rest, first)) = (sending_later _ bytes before k now sent, same)
  keeps_later bytes (Err fault) old new before now (same, unsent', (k, sent)) = (sending_later _ bytes before k now sent, same)

  kept_later : {E : Type 0} (cut : Bool) (bytes : List ℕ) (result : Result (Unit {0}) E) (old new : Served C) (before now : Calls) → KeptOn cut number bytes result old new before now
      → Later before now × (new.arriving ≡ old.arriving)
  kept_later true bytes result old new before now (same, e) = (none e, ap (λ (s : Served C). s.arriving) same)
  kept_later false bytes result old new before now (keeps, cut) = keeps_later bytes result old new before now keeps

  -- behind a call that sent
  pub sent_later : {E : Type 0} (bytes : List ℕ) (result : Result (Unit {0}) E) (old new : Option (Served C)) (before now : Calls) → KeepsOn number bytes result old new before now → Later before now
  sent_later bytes result (Some a) (Some b) before now h = (kept_later a.is_cut bytes result a b before now h).0
  sent_later bytes result (Some a) None before now h = absurd h
  sent_later bytes result None new before now (shut, e) = none e

  pub sent_came : {E : Type 0} (listener : Number) (bytes : List ℕ) (result : Result (Unit {0}) E) (old new : Option (Served C)) (before now : Calls) → KeepsOn number bytes result old new before now
      → ServedCame number listener before old → ServedCame number listener now new
  sent_came listener bytes result (Some a) (Some b) before now h came =
      let k = kept_later a.is_cut bytes result a b before now h in
      subst (λ (x : Arriving C). HasCome number listener now x) (sym k.1) (still_came listener (number a.arriving.stream, a.arriving.peer) a.arriving.bytes.items before now came k.0)
  sent_came listener bytes result (Some a) None before now h came = absurd h
  sent_came listener bytes result None new before now (shut, e) came = subst (ServedCame number listener now) (sym shut) tt

  -- a new machine
  pub holds_new : (calls : Calls) (connection : Connection L C) (departures : Departures C) → (connection.listener ≡ None) × (connection.served ≡ None) → connection.waiting.arriving.items ≡ []
      → (departures.leaving.items ≡ []) × (departures.names.names.items ≡ []) → Holds number listens calls connection departures
  holds_new calls connection departures shut aside leaving = record {
    came = (subst (λ l. All (HasCome number (number_at listens connection.listener) calls) l) (sym aside) (none_came number (number_at listens connection.listener) calls), came_none number listens calls _ connection.served shut.1);
    bounded = subst Bounded (sym aside) bounded_none;
    timed = subst (λ l. All (IsTimed calls) l) (sym aside) (All-nil (IsTimed calls));
    within = subst Within (sym leaving.0) (within_none C);
    paced = subst (λ l. All (LeavesInTime calls) l) (sym leaving.0) (All-nil (LeavesInTime calls));
    answered = subst (λ l. AreAnswered calls l) (sym leaving.1) (All-nil (IsAnswered calls));
  }

  -- behind calls of the system that change none of it
  pub holds_later : (old new : Calls) (connection : Connection L C) (departures : Departures C) → Later old new → Holds number listens old connection departures → Holds number listens new connection departures
  holds_later old new connection departures l h = record {
    came = (have_still number (number_at listens connection.listener) old new connection.waiting.arriving.items h.came.0 l, served_still (number_at listens connection.listener) old new connection.served l h.came.1);
    bounded = h.bounded;
    timed = all_timed_later old new connection.waiting.arriving.items h.timed l;
    within = h.within;
    paced = all_leave_later old new departures.leaving.items h.paced l;
    answered = still_kept old new departures.names.names.items h.answered l;
  }

  -- behind a call that listens
  pub holds_listening : (old new : Calls) (before after : Connection L C) (leaving left : Departures C) → Later old new → ConnectionCame number listens new after → after.waiting.arriving.items ≡ []
      → (left.leaving.items ≡ leaving.leaving.items) × (left.lost ≡ leaving.lost) × (left.names ≡ leaving.names) → Holds number listens old before leaving → Holds number listens new after left
  holds_listening old new before after leaving left l came aside same h = record {
    came = came;
    bounded = subst Bounded (sym aside) bounded_none;
    timed = subst (λ k. All (IsTimed new) k) (sym aside) (All-nil (IsTimed new));
    within = subst Within (sym same.0) h.within;
    paced = subst (λ k. All (LeavesInTime new) k) (sym same.0) (all_leave_later old new leaving.leaving.items h.paced l);
    answered = names_kept new leaving.names left.names same.2 (still_kept old new leaving.names.names.items h.answered l);
  }

  -- behind one that makes room
  pub holds_begun : (calls : Calls) (before after : Connection L C) (leaving left : Departures C) → after.waiting.arriving.items ≡ []
      → (after.listener ≡ before.listener) × (after.served ≡ before.served)
      → (left.leaving.items ≡ leaving.leaving.items) × (left.lost ≡ leaving.lost) × (left.names ≡ leaving.names) → Holds number listens calls before leaving → Holds number listens calls after left
  holds_begun calls before after leaving left aside same gone h =
      let came : ConnectionCame number listens calls after = (
        subst (λ l. All (HasCome number (number_at listens after.listener) calls) l) (sym aside) (none_came number (number_at listens after.listener) calls),
        subst (λ k. ServedCame number (number_at listens k) calls after.served) (sym same.0)
            (subst (λ (s : Option (Served C)). ServedCame number (number_at listens before.listener) calls s) (sym same.1) h.came.1),
      ) in holds_listening calls calls before after leaving left (none refl) came aside gone h

  -- behind one that takes a connection
  pub holds_taken : (old new : Calls) (before after : Connection L C) (leaving left : Departures C) → Later old new → (ConnectionCame number listens old before → ConnectionCame number listens new after)
      → (Bounded before.waiting.arriving.items → Bounded after.waiting.arriving.items) → Changes before.waiting.arriving.items old after.waiting.arriving.items new
      → (Within leaving.leaving.items → Within left.leaving.items) → (All (LeavesInTime old) leaving.leaving.items → All (LeavesInTime new) left.leaving.items) → left.names ≡ leaving.names
      → Holds number listens old before leaving → Holds number listens new after left
  holds_taken old new before after leaving left l came bounded changes within paced names h = record {
    came = came h.came;
    bounded = bounded h.bounded;
    timed = timed_changed before.waiting.arriving.items old after.waiting.arriving.items new h.timed changes;
    within = within h.within;
    paced = paced h.paced;
    answered = names_kept new leaving.names left.names names (still_kept old new leaving.names.names.items h.answered l);
  }

  -- behind one that closes it
  pub holds_closed : (old new : Calls) (before after : Connection L C) (leaving left : Departures C) → Later old new → after.served ≡ None
      → (after.listener ≡ before.listener) × (after.waiting ≡ before.waiting) → (Within leaving.leaving.items → Within left.leaving.items)
      → (All (LeavesInTime old) leaving.leaving.items → All (LeavesInTime new) left.leaving.items) → left.names ≡ leaving.names → Holds number listens old before leaving → Holds number listens new after left
  holds_closed old new before after leaving left l shut same within paced names h = record {
    came = came_closed number listens old new before after shut same l h.came;
    bounded = subst (λ (v : Waiting C). Bounded v.arriving.items) (sym same.1) h.bounded;
    timed = subst (λ (v : Waiting C). All (IsTimed new) v.arriving.items) (sym same.1) (all_timed_later old new before.waiting.arriving.items h.timed l);
    within = within h.within;
    paced = paced h.paced;
    answered = names_kept new leaving.names left.names names (still_kept old new leaving.names.names.items h.answered l);
  }

  -- behind one that receives or sends on it
  pub holds_served : (old new : Calls) (before after : Connection L C) (departures : Departures C) → Later old new
      → ((listener : Number) → ServedCame number listener old before.served → ServedCame number listener new after.served)
      → (after.listener ≡ before.listener) × (after.waiting ≡ before.waiting) → Holds number listens old before departures → Holds number listens new after departures
  holds_served old new before after departures l came same h = record {
    came = (
      subst (λ (v : Waiting C). All (HasCome number (number_at listens after.listener) new) v.arriving.items) (sym same.1)
          (subst (λ k. All (HasCome number (number_at listens k) new) before.waiting.arriving.items) (sym same.0)
          (have_still number (number_at listens before.listener) old new before.waiting.arriving.items h.came.0 l)),
      came (number_at listens after.listener) (subst (λ k. ServedCame number (number_at listens k) old before.served) (sym same.0) h.came.1),
    );
    bounded = subst (λ (v : Waiting C). Bounded v.arriving.items) (sym same.1) h.bounded;
    timed = subst (λ (v : Waiting C). All (IsTimed new) v.arriving.items) (sym same.1) (all_timed_later old new before.waiting.arriving.items h.timed l);
    within = h.within;
    paced = all_leave_later old new departures.leaving.items h.paced l;
    answered = still_kept old new departures.names.names.items h.answered l;
  }

  -- behind a post
  pub holds_posted : (old mid new : Calls) (connection : Connection L C) (leaving left : Departures C) → Later old mid → Later mid new → (Within leaving.leaving.items → Within left.leaving.items)
      → (All (LeavesInTime mid) leaving.leaving.items → All (LeavesInTime new) left.leaving.items)
      → (AreAnswered mid leaving.names.names.items → AreAnswered new left.names.names.items) → Holds number listens old connection leaving → Holds number listens new connection left
  holds_posted old mid new connection leaving left first l within paced answered h =
      let g : Holds number listens mid connection leaving = holds_later old mid connection leaving first h in
      let k : Holds number listens new connection leaving = holds_later mid new connection leaving l g in record {
        came = k.came;
        bounded = k.bounded;
        timed = k.timed;
        within = within g.within;
        paced = paced g.paced;
        answered = answered g.answered;
      }
