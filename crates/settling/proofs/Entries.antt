-- A test that is computed over all entries of a table holds at each; and which state is which.
use Rattle.std.specs.Prelude.{ℕ, Bool, true, false, ◌≡◌, ◌&&◌, nat_eq, if◌then◌else◌, refl}
use Rattle.std.proofs.Common.{sym, ap, ◌∙◌}
use Rattle.std.proofs.lemmas.Bool.{eqb-true}
use Rattle.at_base.specs.declared.notice.Kind.{Kind}
use Rattle.at_base.specs.declared.notice.Kind.TheVariants as kinds
use Rattle.at_base.specs.declared.notice.Notice.{Notice}
use Rattle.at_base.specs.declared.notice.Notice.TheVariants as notices
use Rattle.at_tables.specs.declared.cells.State.{State}
use Rattle.at_tables.specs.declared.cells.State.TheVariants as states
use Rattle.at_tables.specs.Names.{is_state, state_place}

both : (a b : Bool) → a && b ≡ true → (a ≡ true) × (b ≡ true)
both true b h = (refl, h)
both false b h = absurd cc

abbrev pub every_kind : (Kind → Bool) → Bool
every_kind p = p kinds.Volatile && (p kinds.Durable)

pub at_kind : (p : Kind → Bool) → every_kind p ≡ true → (x : Kind) → p x ≡ true
at_kind p h x =
    let h0 = both (p kinds.Volatile) (p kinds.Durable) h in
    elim x as (λ x. p x ≡ true) [
      | kinds.Volatile ↦ h0.0
      | kinds.Durable ↦ h0.1
    ]

abbrev pub every_state : (State → Bool) → Bool
every_state p = p states.None && (p states.Registering && (p states.Active && (p states.Preparing && (p states.Prepared && (p states.PreparedSuccess && (p states.Committing && (p states.Aborting && (p states.Completing && (p states.Done)))))))))

pub at_state : (p : State → Bool) → every_state p ≡ true → (x : State) → p x ≡ true
at_state p h x =
    let h0 = both (p states.None) (p states.Registering && (p states.Active && (p states.Preparing && (p states.Prepared && (p states.PreparedSuccess && (p states.Committing && (p states.Aborting && (p states.Completing && (p states.Done))))))))) h in
    let h1 = both (p states.Registering) (p states.Active && (p states.Preparing && (p states.Prepared && (p states.PreparedSuccess && (p states.Committing && (p states.Aborting && (p states.Completing && (p states.Done)))))))) h0.1 in
    let h2 = both (p states.Active) (p states.Preparing && (p states.Prepared && (p states.PreparedSuccess && (p states.Committing && (p states.Aborting && (p states.Completing && (p states.Done))))))) h1.1 in
    let h3 = both (p states.Preparing) (p states.Prepared && (p states.PreparedSuccess && (p states.Committing && (p states.Aborting && (p states.Completing && (p states.Done)))))) h2.1 in
    let h4 = both (p states.Prepared) (p states.PreparedSuccess && (p states.Committing && (p states.Aborting && (p states.Completing && (p states.Done))))) h3.1 in
    let h5 = both (p states.PreparedSuccess) (p states.Committing && (p states.Aborting && (p states.Completing && (p states.Done)))) h4.1 in
    let h6 = both (p states.Committing) (p states.Aborting && (p states.Completing && (p states.Done))) h5.1 in
    let h7 = both (p states.Aborting) (p states.Completing && (p states.Done)) h6.1 in
    let h8 = both (p states.Completing) (p states.Done) h7.1 in
    elim x as (λ x. p x ≡ true) [
      | states.None ↦ h0.0
      | states.Registering ↦ h1.0
      | states.Active ↦ h2.0
      | states.Preparing ↦ h3.0
      | states.Prepared ↦ h4.0
      | states.PreparedSuccess ↦ h5.0
      | states.Committing ↦ h6.0
      | states.Aborting ↦ h7.0
      | states.Completing ↦ h8.0
      | states.Done ↦ h8.1
    ]

abbrev pub every_notice : (Notice → Bool) → Bool
every_notice p = p notices.Prepare && (p notices.Commit && (p notices.Rollback && (p notices.Prepared && (p notices.ReadOnly && (p notices.Aborted && (p notices.Committed))))))

pub at_notice : (p : Notice → Bool) → every_notice p ≡ true → (x : Notice) → p x ≡ true
at_notice p h x =
    let h0 = both (p notices.Prepare) (p notices.Commit && (p notices.Rollback && (p notices.Prepared && (p notices.ReadOnly && (p notices.Aborted && (p notices.Committed)))))) h in
    let h1 = both (p notices.Commit) (p notices.Rollback && (p notices.Prepared && (p notices.ReadOnly && (p notices.Aborted && (p notices.Committed))))) h0.1 in
    let h2 = both (p notices.Rollback) (p notices.Prepared && (p notices.ReadOnly && (p notices.Aborted && (p notices.Committed)))) h1.1 in
    let h3 = both (p notices.Prepared) (p notices.ReadOnly && (p notices.Aborted && (p notices.Committed))) h2.1 in
    let h4 = both (p notices.ReadOnly) (p notices.Aborted && (p notices.Committed)) h3.1 in
    let h5 = both (p notices.Aborted) (p notices.Committed) h4.1 in
    elim x as (λ x. p x ≡ true) [
      | notices.Prepare ↦ h0.0
      | notices.Commit ↦ h1.0
      | notices.Rollback ↦ h2.0
      | notices.Prepared ↦ h3.0
      | notices.ReadOnly ↦ h4.0
      | notices.Aborted ↦ h5.0
      | notices.Committed ↦ h5.1
    ]

abbrev every_entry : (Kind → State → Notice → Bool) → Bool
every_entry p = every_kind (λ k. every_state (λ s. every_notice (p k s)))

pub at_entry : (p : Kind → State → Notice → Bool) → every_entry p ≡ true → (k : Kind) (s : State) (n : Notice) → p k s n ≡ true
at_entry p h k s n =
    at_notice (p k s) (at_state (λ s. every_notice (p k s)) (at_kind (λ k. every_state (λ s. every_notice (p k s))) h k) s) n

state_at : ℕ → State
state_at n =
    if nat_eq n 0 then states.None
    else if nat_eq n 1 then states.Registering
    else if nat_eq n 2 then states.Active
    else if nat_eq n 3 then states.Preparing
    else if nat_eq n 4 then states.Prepared
    else if nat_eq n 5 then states.PreparedSuccess
    else if nat_eq n 6 then states.Committing
    else if nat_eq n 7 then states.Aborting
    else if nat_eq n 8 then states.Completing
    else states.Done

at_place : (s : State) → state_at (state_place s) ≡ s
unfolding state_at
at_place states.None = refl
at_place states.Registering = refl
at_place states.Active = refl
at_place states.Preparing = refl
at_place states.Prepared = refl
at_place states.PreparedSuccess = refl
at_place states.Committing = refl
at_place states.Aborting = refl
at_place states.Completing = refl
at_place states.Done = refl

pub state_is : (x y : State) → is_state x y ≡ true → x ≡ y
state_is x y h = sym (at_place x) ∙ ap state_at (eqb-true (state_place x) (state_place y) h) ∙ at_place y
