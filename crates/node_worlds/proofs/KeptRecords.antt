-- What a node of a net keeps is what its records make of it.
use Rattle.std.specs.Prelude.{ℕ, List, [], ◌∷◌, ◌++◌, ◌+◌, ◌-◌, ◌≡◌, ◌⊎◌, Option, Some, None, Bool, true, false, nat_eq, if◌then◌else◌, zero, suc, refl}
use Rattle.std.proofs.Common.{inl, inr, sym, subst, ap, ◌∙◌}
use Rattle.std.proofs.lemmas.Bool.{cases_eq}
use Rattle.std.proofs.lemmas.List.{append-nil, append_assoc}
use Rattle.at_base.specs.declared.record.Record.{Record}
use Rattle.at_base.specs.declared.record.Record.TheVariants as records
use Rattle.at_model.specs.Recovery.{last_incarnation}
use Rattle.at_model.specs.World.{nth, put_nth, Hosts}
use Rattle.decision_log.specs.KeptRecords.{GrowsByOne, kept_of}
use Rattle.decision_log.specs.ShrunkJournals.{ShrinksTheSame}
use Rattle.journal_at.specs.declared.version.Version.{Version}
use Rattle.journal_at.specs.declared.version.Version.TheVariants.{Two}
use Rattle.site_model.specs.Told.{Told}
use Rattle.node_at.specs.Doings.{kept_behind}
use Rattle.node_at.specs.Endings.{Ends}
use Rattle.node_at.specs.ShrunkJournals.{AreSame, Shrinks}
use Rattle.node_at.specs.Starts.{carried, start_after}
use Rattle.node_at.specs.State.{State}
use Rattle.node_at.specs.Steps.{if_landed, kept_by}
use Rattle.node_at.specs.TurnText.{TurnStep}
use Rattle.node_at.specs.Turns.{Turns}
use Rattle.node_at.specs.declared.role.Role.{Role}
use Rattle.node_at.specs.declared.shrink.Shrunk.{Shrunk}
use Rattle.node_at.specs.declared.shrink.Shrunk.TheVariants as shrunks
use Rattle.node_at.specs.declared.turn.Turned.{Turned}
use Rattle.node_at.specs.declared.turn.Turned.TheVariants as turneds
use Rattle.node_worlds.specs.KeptRecords.{NetsKeep}
use Rattle.node_worlds.specs.Nets.{Net, Place, Runs, new_place, new_places, steps_in}
use Rattle.node_worlds.specs.SentPosts.{recorded, records_by}
use Rattle.node_worlds.proofs.Places.{nth_other, nth_this}
use Rattle.node_worlds.proofs.NetWorlds.{carried_last, not_halted, same_last}

abbrev Kept : List Place → Type 0
Kept places = (i : ℕ) (p : Place) (n : State) → nth i places ≡ Some p → p.node ≡ Some n → n.kept ≡ kept_of Two p.records

none_kept : (k : ℕ) → Kept (new_places k)
none_kept zero i p n e up = absurd cc
none_kept (suc k) i p n e up = by_number (λ f. none_kept k (i - 1) p n f up) (nat_eq i 1) e
  where
    empty : new_place ≡ p → n.kept ≡ kept_of Two p.records
    empty f = let g : None ≡ Some n = ap (λ (q : Place). q.node) f ∙ up in absurd cc

    by_number : (nth (i - 1) (new_places k) ≡ Some p → n.kept ≡ kept_of Two p.records) → (c : Bool) → (if c then Some new_place else nth (i - 1) (new_places k)) ≡ Some p
        → n.kept ≡ kept_of Two p.records
    by_number rest true f = let same : new_place ≡ p = cc in empty same
    by_number rest false f = rest f

same_some : {A : Type 0} (x y : A) → Some x ≡ Some y → x ≡ y
same_some x y e = cc

-- one place changed
put_kept : (places : List Place) (i : ℕ) (p q : Place) → nth i places ≡ Some p → Kept places → ((n : State) → q.node ≡ Some n → n.kept ≡ kept_of Two q.records) → Kept (put_nth i q places)
put_kept places i p q here all new j r n e up = by_number (cases_eq j i)
  where
    by_number : (j ≡ i) ⊎ (j ≡ i → ⊥) → n.kept ≡ kept_of Two r.records
    by_number (inl f) =
        let place : q ≡ r = same_some q r (sym (nth_this places i p q here) ∙ ap (λ k. nth k (put_nth i q places)) (sym f) ∙ e) in
        new n (ap (λ (z : Place). z.node) place ∙ up) ∙ ap (λ (z : Place). kept_of Two z.records) place
    by_number (inr f) = all j r n (sym (nth_other places j i q f) ∙ e) up

gone : (p : Place) (n : State) → p.node ≡ None → p.node ≡ Some n → ⊥
gone p n e f = let g : None ≡ Some n = sym e ∙ f in cc

-- records, one behind the other
module _ (grows : GrowsByOne) where
  pub kept_one : (o : Option Record) (rs : List Record) → kept_by o (kept_of Two rs) ≡ kept_of Two (rs ++ records_by o)
  kept_one None rs = ap (kept_of Two) (sym (append-nil rs))
  kept_one (Some r) rs = grows rs r

  pub kept_row : (ss : List TurnStep) (rs : List Record) → kept_behind (kept_of Two rs) ss ≡ kept_of Two (rs ++ recorded ss)
  kept_row [] rs = ap (kept_of Two) (sym (append-nil rs))
  kept_row (s ∷ ss) rs =
      ap (λ k. kept_behind k ss) (kept_one (if_landed s.landed s.entry) rs)
      ∙ kept_row ss (rs ++ records_by (if_landed s.landed s.entry))
      ∙ ap (kept_of Two) (append_assoc rs (records_by (if_landed s.landed s.entry)) (recorded ss))

  -- the records of a turn
  turn_kept : (first : Turned) (role : Role) (n m : State) (old new : Told) (t : Turns first role n m old new) → (first ≡ turneds.Halted → ⊥) → m.kept ≡ kept_behind n.kept (steps_in first role n m old new t)
  turn_kept (turneds.Served status) role n m old new t runs = t.serves.works.0.ran.kept
  turn_kept turneds.Ticked role n m old new t runs = t.serves.works.0.ran.kept
  turn_kept turneds.NoRoom role n m old new t runs = t.serves.works.ran.kept
  turn_kept turneds.Halted role n m old new t runs = absurd (runs refl)
  turn_kept turneds.Closed role n m old new t runs = ap (λ (z : State). z.kept) t.1.same
  turn_kept turneds.LinkDown role n m old new t runs = ap (λ (z : State). z.kept) t.1.same

pub shrink_kept : (shrunk : Shrunk) (n m : State) (old new : Told) → Shrinks shrunk n m old new → m.kept ≡ n.kept
shrink_kept shrunks.NotDue n m old new (inl (due, e)) = ap (λ (z : State). z.kept) e
shrink_kept shrunks.NotDue n m old new (inr (inl a)) = ap (λ (z : State). z.kept) a.same
shrink_kept shrunks.NotDue n m old new (inr (inr a)) = ap (λ (z : State). z.kept) a.same
shrink_kept shrunks.Done n m old new a = ap (λ (z : State). z.kept) a.same
shrink_kept shrunks.Kept n m old new a = ap (λ (z : State). z.kept) a.same
shrink_kept shrunks.NoMemory n m old new (due, e) = ap (λ (z : State). z.kept) e

ends_kept : {S : Type 0} (told : S → Told) (first result : Turned) (shrunk : Shrunk) (n m : State) (old new : S) → Ends told first result shrunk n m old new → m.kept ≡ n.kept
ends_kept told (turneds.Served status) result shrunk n m old new e = shrink_kept shrunk n m (told old) (told new) e.shrinks
ends_kept told turneds.Ticked result shrunk n m old new e = shrink_kept shrunk n m (told old) (told new) e.shrinks
ends_kept told turneds.NoRoom result shrunk n m old new e = ap (λ (z : State). z.kept) e.node
ends_kept told turneds.Halted result shrunk n m old new e = ap (λ (z : State). z.kept) e.node
ends_kept told turneds.Closed result shrunk n m old new e = ap (λ (z : State). z.kept) e.node
ends_kept told turneds.LinkDown result shrunk n m old new e = ap (λ (z : State). z.kept) e.node

node_is : (m n : State) → Some m ≡ Some n → n.kept ≡ m.kept
node_is m n e = ap (λ (z : State). z.kept) (sym (same_some m n e))

start_kept : ShrinksTheSame → (version : Version) (rs ps : List Record) → AreSame (carried version rs) ps → kept_of Two (carried version rs ++ start_after rs ∷ []) ≡ kept_of Two (ps ++ start_after ps ∷ [])
start_kept law version rs ps same =
    let last : last_incarnation ps ≡ last_incarnation rs = sym (same_last (carried version rs) ps same) ∙ carried_last law version rs in
    same (start_after rs ∷ []) ∙ ap (λ k. kept_of Two (ps ++ records.Start (k + 1) ∷ [])) (sym last)

module _ (grows : GrowsByOne) (shrinks : ShrinksTheSame) where
  ended_kept : (places : List Place) (i : ℕ) (p : Place) (rs : List Record) → nth i places ≡ Some p → Kept places → Kept (put_nth i (record { node = None; records = rs }) places)
  ended_kept places i p rs here all = put_kept places i p (record { node = None; records = rs }) here all (λ n up. absurd (gone (record { node = None; records = rs }) n refl up))

  broken_kept : (places : List Place) (i : ℕ) (p q : Place) (rs : List Record) → nth i places ≡ Some p → Kept places → Kept (put_nth i (record { node = None; records = rs }) (put_nth i q places))
  broken_kept places i p q rs here all j r n e up = by_number (cases_eq j i)
    where
      last : Place
      last = record { node = None; records = rs }

      by_number : (j ≡ i) ⊎ (j ≡ i → ⊥) → n.kept ≡ kept_of Two r.records
      by_number (inl f) =
          let place : last ≡ r = same_some last r (sym (nth_this (put_nth i q places) i q last (nth_this places i p q here)) ∙ ap (λ k. nth k (put_nth i last (put_nth i q places))) (sym f) ∙ e) in
          absurd (gone last n refl (ap (λ (z : Place). z.node) place ∙ up))
      by_number (inr f) = all j r n (sym (nth_other places j i q f) ∙ sym (nth_other (put_nth i q places) j i last f) ∙ e) up

  keeps : {S : Type 0} (told : S → Told) (hosts : Hosts) (net : Net) → Runs told hosts net → Kept net.places
  keeps told hosts net (Runs.opened is) = subst (λ (z : Net). Kept z.places) (sym is) (none_kept hosts.count)
  keeps told hosts net (Runs.started u i p n limit s t run here down start same is) =
      let q : Place = record { node = Some n; records = p.records ++ start_after p.records ∷ [] } in
      subst (λ (z : Net). Kept z.places) (sym is)
      (put_kept u.places i p q here (keeps told hosts u run) (λ k e. node_is n k e ∙ start.kept ∙ start_kept shrinks start.version start.rs p.records same))
  keeps told hosts net (Runs.start_recorded u i p run here down small is) =
      subst (λ (z : Net). Kept z.places) (sym is) (ended_kept u.places i p (p.records ++ start_after p.records ∷ []) here (keeps told hosts u run))
  keeps told hosts net (Runs.turned u i p n m result role shrunk s t ps run here up turn runs brings sent is) =
      let steps = steps_in turn.first role n turn.node (told s) (told turn.behind) turn.steps in
      let q : Place = record { node = Some m; records = p.records ++ recorded steps } in
      subst (λ (z : Net). Kept z.places) (sym is)
      (put_kept u.places i p q here (keeps told hosts u run) (λ k e.
      node_is m k e ∙ ends_kept told turn.first result shrunk turn.node m turn.behind t turn.ends
      ∙ turn_kept grows turn.first role n turn.node (told s) (told turn.behind) turn.steps (not_halted told turn.first result shrunk turn.node m turn.behind t turn.ends runs)
      ∙ ap (λ z. kept_behind z steps) (keeps told hosts u run i p n here up)
      ∙ kept_row grows steps p.records))
  keeps told hosts net (Runs.asked u i p n m id l s t ps run here up done sent is) =
      subst (λ (z : Net). Kept z.places) (sym is)
      (put_kept u.places i p _ here (keeps told hosts u run) (λ k e.
      node_is m k e ∙ done.3.3.went.kept ∙ ap (kept_by (if_landed done.3.3.landed _)) (keeps told hosts u run i p n here up) ∙ kept_one grows (if_landed done.3.3.landed _) p.records))
  keeps told hosts net (Runs.cut_off u i p n m result role shrunk s t front rest ds ps run here up turn brings begun sent is) =
      subst (λ (z : Net). Kept z.places) (sym is) (broken_kept u.places i p _ _ here (keeps told hosts u run))
  keeps told hosts net (Runs.asked_cut_off u i p n l now step doing ps run here up does sent is) =
      subst (λ (z : Net). Kept z.places) (sym is) (broken_kept u.places i p _ _ here (keeps told hosts u run))
  keeps told hosts net (Runs.idled u i p n run here up is) =
      let q : Place = record { node = Some (record n { effects = [] }); records = p.records } in
      subst (λ (z : Net). Kept z.places) (sym is)
      (put_kept u.places i p q here (keeps told hosts u run) (λ k e. node_is (record n { effects = [] }) k e ∙ keeps told hosts u run i p n here up))
  keeps told hosts net (Runs.ended u i p n run here up is) =
      subst (λ (z : Net). Kept z.places) (sym is) (ended_kept u.places i p p.records here (keeps told hosts u run))

  pub nets_keep : {S : Type 0} (told : S → Told) → NetsKeep told
  nets_keep told hosts net run = keeps told hosts net run
