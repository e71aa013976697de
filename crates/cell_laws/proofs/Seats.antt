-- A coordinator's seat behind a message of its participant.
use Rattle.std.proofs.Common.{◌≡◌, refl, sym, ap, subst, ◌∙◌, ℕ, List, [], ◌∷◌, Option, Some, None, Bool, true, false, cond, ◌&&◌, ◌||◌, nat_eq}
use Rattle.std.proofs.lemmas.Bool.{eq-eqb}
use Rattle.std.specs.Option.{option_map}
use Rattle.std.specs.List.{list_any}
use Rattle.at_base.specs.declared.event.Moment.{Moment}
use Rattle.at_base.specs.declared.notice.Kind.{Kind}
use Rattle.at_tables.specs.declared.cells.State.{State}
use Rattle.at_tables.specs.declared.cells.State.TheVariants as states
use Rattle.at_tables.specs.declared.cells.Act.{Act}
use Rattle.at_tables.specs.declared.cells.Act.TheVariants as acts
use Rattle.at_tables.specs.Names.{is_state}
use Rattle.at_base.specs.Names.{is_kind}
use Rattle.settling.proofs.Entries.{state_is}
use Rattle.at_model.specs.Book.{Transaction, Enlistment}
use Rattle.at_model.specs.Moves.{Change, Moving}
use Rattle.at_model.specs.Seats.{in_state, is_of, is_open, is_prepared_durable, move_if, moved, seat_in}
use Rattle.at_model.specs.Abort.{Alone, Reason, abort}
use Rattle.at_model.specs.Phases.{advance, committed, decided}
use Rattle.at_model.specs.Arrivals.{seat_act, seat_notice}
use Rattle.cell_laws.specs.NextStates.{Ends, SeatGoes, SeatsGoOn, aborts, commits, leaves, same, seat_of, seat_state, state_in}
use Rattle.cell_laws.proofs.Fitting.{coordinator_fits, coordinator_next, faults_open, open_in}
use Rattle.cell_laws.proofs.Advances.{Watch, advances, by_test}

-- seats that move keep their numbers
found_moved : (test : Enlistment → Bool) (st : State) (n : ℕ) (seats : List Enlistment) → seat_of n (moved test st seats) ≡ option_map (move_if test st) (seat_of n seats)
found_moved test st n [] = refl
found_moved test st n (s ∷ ss) = by_number (nat_eq s.number n) (found_moved test st n ss)
  where
    by_number : (b : Bool) → seat_of n (moved test st ss) ≡ option_map (move_if test st) (seat_of n ss)
        → cond b (Some (move_if test st s)) (seat_of n (moved test st ss)) ≡ option_map (move_if test st) (cond b (Some s) (seat_of n ss))
    by_number true h = refl
    by_number false h = h

unmoved : (test : Enlistment → Bool) (st x : State) (o : Option Enlistment) → ((s : Enlistment) → s.state ≡ x → test s ≡ false) → state_in o ≡ x
    → state_in (option_map (move_if test st) o) ≡ x
unmoved test st x None k e = e
unmoved test st x (Some s) k e = ap (λ b. cond b st s.state) (k s e) ∙ e

sent : (test : Enlistment → Bool) (st x : State) (o : Option Enlistment) → ((s : Enlistment) → s.state ≡ x → test s ≡ true) → (states.None ≡ x → ⊥) → state_in o ≡ x
    → state_in (option_map (move_if test st) o) ≡ st
sent test st x None k ne e = absurd (ne e)
sent test st x (Some s) k ne e = ap (λ b. cond b st s.state) (k s e)

-- what a seat is behind its own move, where its transaction goes on
data Rests : State → Type 0 where
  gone : Rests states.None
  voted : Rests states.Prepared

and_false : (b : Bool) → (b && false) ≡ false
and_false true = refl
and_false false = refl

not_active : (x : State) → Rests x → (k : Kind) (s : Enlistment) → s.state ≡ x → is_of k states.Active s ≡ false
not_active _ gone k s e = ap (λ y. is_kind s.kind k && is_state y states.Active) e ∙ and_false (is_kind s.kind k)
not_active _ voted k s e = ap (λ y. is_kind s.kind k && is_state y states.Active) e ∙ and_false (is_kind s.kind k)

no_seat : states.None ≡ states.Prepared → ⊥
no_seat e = absurd cc

module _ (n : ℕ) (x : State) where
  abbrev Good : Transaction → Type 0
  Good t = state_in (seat_of n t.seats) ≡ x

  abbrev Told : Option Transaction → Type 0
  Told i = SeatGoes x (seat_state n i)

  kept : (test : Enlistment → Bool) (st : State) (seats : List Enlistment) → ((s : Enlistment) → s.state ≡ x → test s ≡ false)
      → state_in (seat_of n seats) ≡ x → state_in (seat_of n (moved test st seats)) ≡ x
  kept test st seats k h = ap state_in (found_moved test st n seats) ∙ unmoved test st x (seat_of n seats) k h

  goes_to : (test : Enlistment → Bool) (st : State) (seats : List Enlistment) → ((s : Enlistment) → s.state ≡ x → test s ≡ true) → (states.None ≡ x → ⊥)
      → state_in (seat_of n seats) ≡ x → state_in (seat_of n (moved test st seats)) ≡ st
  goes_to test st seats k ne h = ap state_in (found_moved test st n seats) ∙ sent test st x (seat_of n seats) k ne h

  stays_told : (t : Transaction) → Good t → Told (Some t)
  stays_told t h = subst (SeatGoes x) (sym h) (same x)

none_told : (n : ℕ) (x : State) → Rests x → Told n x None
none_told n _ gone = same states.None
none_told n _ voted = leaves

abort_told : (n : ℕ) (x : State) → Rests x → (m : Moment) (reason : Reason) (g : Moving Transaction) → Good n x g.item → Told n x (abort m reason g).item
unfolding abort
abort_told n _ gone m reason g h =
    by_test (λ (c : Change Transaction). Told n states.None c.item) (list_any (in_state states.Aborting) (moved is_open states.Aborting g.item.seats)) _ _
    (subst (SeatGoes states.None) (sym (kept n states.None is_open states.Aborting g.item.seats (λ s e. ap open_in e) h)) (same states.None)) (same states.None)
abort_told n _ voted m reason g h =
    by_test (λ (c : Change Transaction). Told n states.Prepared c.item) (list_any (in_state states.Aborting) (moved is_open states.Aborting g.item.seats)) _ _
    (subst (SeatGoes states.Prepared) (sym (goes_to n states.Prepared is_open states.Aborting g.item.seats (λ s e. ap open_in e) no_seat h)) aborts) leaves

commit_told : (n : ℕ) (x : State) → Rests x → (m : Moment) (g : Moving Transaction) → Good n x g.item → Told n x (committed m g).item
unfolding committed decided
commit_told n _ gone m g h =
    by_test (λ (c : Change Transaction). Told n states.None c.item) (list_any is_prepared_durable g.item.seats) _ _
    (subst (SeatGoes states.None) (sym (kept n states.None (in_state states.Prepared) states.Committing g.item.seats (λ s e. ap (λ y. is_state y states.Prepared) e) h)) (same states.None))
    (same states.None)
commit_told n _ voted m g h =
    by_test (λ (c : Change Transaction). Told n states.Prepared c.item) (list_any is_prepared_durable g.item.seats) _ _
    (subst (SeatGoes states.Prepared) (sym (goes_to n states.Prepared (in_state states.Prepared) states.Committing g.item.seats (λ s e. ap (λ y. is_state y states.Prepared) e) no_seat h)) commits)
    leaves

watch : (n : ℕ) (x : State) → Rests x → Watch (Good n x) (Told n x)
watch n x r = record {
  stay = stays_told n x;
  gone = none_told n x r;
  asks = λ m k t h. kept n x (is_of k states.Active) states.Preparing t.seats (not_active x r k) h;
  goes = λ s p sent t h. h;
  aborts = abort_told n x r;
  commits = commit_told n x r;
}

-- an abort rolls an open seat back, and waits for it
or_true : (a b : Bool) → b ≡ true → (a || b) ≡ true
or_true true b h = refl
or_true false b h = h

left_true : (a b : Bool) → a ≡ true → (a || b) ≡ true
left_true true b h = refl
left_true false b h = absurd cc

same_seat : (a b : Enlistment) → Some a ≡ Some b → a ≡ b
same_seat a b e = cc

any_found : (p : Enlistment → Bool) (n : ℕ) (seats : List Enlistment) (y : Enlistment) → seat_of n seats ≡ Some y → p y ≡ true → list_any p seats ≡ true
any_found p n [] y e h = absurd cc
any_found p n (s ∷ ss) y e h = by_number (nat_eq s.number n) e (λ f. any_found p n ss y f h)
  where
    by_number : (b : Bool) → cond b (Some s) (seat_of n ss) ≡ Some y → (seat_of n ss ≡ Some y → list_any p ss ≡ true) → (p s || list_any p ss) ≡ true
    by_number true f k = left_true (p s) (list_any p ss) (ap p (same_seat s y f) ∙ h)
    by_number false f k = or_true (p s) (list_any p ss) (k f)

rolled_back : (m : Moment) (s : Enlistment) (g : Moving Transaction) → seat_of s.number g.item.seats ≡ Some s → open_in s.state ≡ true
    → SeatGoes states.Aborting (seat_state s.number (abort m Alone g).item)
unfolding abort
rolled_back m s g found o =
    let moves : seat_of s.number (moved is_open states.Aborting g.item.seats) ≡ Some (move_if is_open states.Aborting s) =
    found_moved is_open states.Aborting s.number g.item.seats ∙ ap (option_map (move_if is_open states.Aborting)) found in
    let now : (move_if is_open states.Aborting s).state ≡ states.Aborting = ap (λ b. cond b states.Aborting s.state) o in
    let waits = any_found (in_state states.Aborting) s.number (moved is_open states.Aborting g.item.seats) (move_if is_open states.Aborting s) moves (ap (λ y. is_state y states.Aborting) now) in
    by_true (λ (c : Change Transaction). SeatGoes states.Aborting (seat_state s.number c.item)) (list_any (in_state states.Aborting) (moved is_open states.Aborting g.item.seats)) _ _ waits
    (subst (SeatGoes states.Aborting) (sym (ap state_in moves ∙ now)) (same states.Aborting))
  where
    by_true : {A : Type 0} (P : A → Type 0) (b : Bool) (x y : A) → b ≡ true → P x → P (cond b x y)
    by_true P true x y e h = h
    by_true P false x y e h = absurd cc

own : (s : Enlistment) (st : State) (t : Transaction) → seat_of s.number t.seats ≡ Some s → Good s.number st (seat_in s.number st t)
own s st t found =
    ap state_in (found_moved (λ x. nat_eq x.number s.number) st s.number t.seats ∙ ap (option_map (move_if (λ x. nat_eq x.number s.number) st)) found)
    ∙ ap (λ b. cond b st s.state) (eq-eqb s.number s.number refl)

stands : (s : Enlistment) (t : Transaction) → seat_of s.number t.seats ≡ Some s → SeatGoes s.state (state_in (seat_of s.number t.seats))
stands s t found = subst (SeatGoes s.state) (sym (ap state_in found)) (same s.state)

by_act : (m : Moment) (id : Option (List ℕ)) (t : Transaction) (s : Enlistment) (act : Act) → seat_of s.number t.seats ≡ Some s
    → (act ≡ acts.FaultInvalidStateAndAbort → open_in s.state ≡ true) → Ends (λ i. SeatGoes (coordinator_next s.state act) (seat_state s.number i)) (seat_act m id t s act)
unfolding seat_act
by_act m id t s acts.Ignore found o = stands s t found
by_act m id t s acts.SendPrepared found o = stands s t found
by_act m id t s acts.SendCommit found o = stands s t found
by_act m id t s acts.SendRollback found o =
    by_test (Ends (λ i. SeatGoes s.state (seat_state s.number i))) (in_state states.None s) _ _ (stands s t found) (stands s t found)
by_act m id t s acts.SendCommitted found o = stands s t found
by_act m id t s acts.SendAborted found o = stands s t found
by_act m id t s acts.FaultUnknownTransaction found o = stands s t found
by_act m id t s acts.FaultInvalidState found o = stands s t found
by_act m id t s acts.FaultInvalidStateAndAbort found o = rolled_back m s _ found (o refl)
by_act m id t s acts.Leave found o =
    advances (Good s.number states.None) (Told s.number states.None) (watch s.number states.None gone) m _ (own s states.None t found)
by_act m id t s acts.LeaveAndAbort found o = abort_told s.number states.None gone m Alone _ (own s states.None t found)
by_act m id t s acts.Vote found o =
    advances (Good s.number states.Prepared) (Told s.number states.Prepared) (watch s.number states.Prepared voted) m _ (own s states.Prepared t found)
by_act m id t s acts.Gather found o = stands s t found
by_act m id t s acts.Commit found o = stands s t found
by_act m id t s acts.AbortAndSendAborted found o = stands s t found
by_act m id t s acts.RecordAndSendAborted found o = stands s t found
by_act m id t s acts.Complete found o = stands s t found
by_act m id t s acts.TellCommitted found o = stands s t found
by_act m id t s acts.TellAborted found o = stands s t found

pub seats_go_on : SeatsGoOn
unfolding seat_notice
seats_go_on m id t s n c found e =
    subst (λ next. Ends (λ i. SeatGoes next (seat_state s.number i)) (seat_act m id t s c.act))
    (sym (state_is c.next (coordinator_next s.state c.act) (coordinator_fits s.kind s.state n c e))) (by_act m id t s c.act found (faults_open s.kind s.state n c e))
