-- What the calls of an append leave of the file that is live.
use Rattle.std.specs.Prelude.{ℕ, List, Bool, true, false, [], ◌∷◌, ◌++◌, ◌+◌, ◌-◌, ◌≡◌, length, take, drop, replicate, nat_eq}
use Rattle.std.proofs.Common.{refl, sym, ap, subst, ◌∙◌, arith}
use Rattle.std.proofs.lemmas.Bool.{eqb-true, eqb-false}
use Rattle.std.proofs.lemmas.List.{take_at}
use Rattle.site_model.specs.Told.{written}
use Rattle.site_memory.specs.Disk.{Disk, after_write, chosen, filled, opened}
use Rattle.site_memory.specs.declared.arm.Choice.{Choice}
use Rattle.site_memory.specs.declared.arm.Choice.TheVariants.{Drop, Fill, Keep}
use Rattle.site_memory.proofs.Images.{torn_written}
use Rattle.journal_at.specs.Format.{Closed, behind, frames}
use Rattle.journal_at.proofs.TornWrites.{Staged, closed_torn, closed_written, drop_front, long, one_longer, staged_closed}
use Rattle.torn_appends.specs.TornAppends.{gate_stands, with_body}
use Rattle.torn_appends.proofs.DiskRuns.{filled_on}

-- the gate before a body becomes that byte
pub gate_put : (bodies : List (List ℕ)) (body : List ℕ) (at : ℕ) (f : List ℕ) (byte : ℕ) → at ≡ length (frames bodies) → (s : Staged bodies body f) → written at (byte ∷ []) f ≡ frames bodies ++ (byte ∷ (behind body ++ (0 ∷ s.rest)))
gate_put bodies body at f byte e s =
    let p = frames bodies in
    let after = behind body ++ (0 ∷ s.rest) in
    let size : length f ≡ length p + 1 + length after = ap length s.is ∙ long p s.gate after in
    let none : at - length f ≡ 0 = omega (arith, e, size) in
    let front : take at f ≡ p = ap (take at) s.is ∙ take_at p (s.gate ∷ after) at (sym e) in
    let back : drop (at + 1) f ≡ after = ap (drop (at + 1)) s.is ∙ drop_front p s.gate after (at + 1) (omega (arith, e)) in
    λ i. front i ++ (replicate (none i) 0 ++ (byte ∷ back i))

-- a body with a shut gate behind it
abbrev pub framed : List ℕ → List ℕ
framed body = behind body ++ 0 ∷ []

module _ (bodies : List (List ℕ)) (body : List ℕ) (end : ℕ) (e : end ≡ length (frames bodies)) where
  abbrev pub raised_to : ℕ → List ℕ → List ℕ
  raised_to byte f = written end (byte ∷ []) f

  -- a body may be written behind a gate that is shut, or its range left as anything
  pub still_closed : (choice : Choice) (d : Disk) → ((c : Choice) → Closed bodies (chosen c d)) → (done : Bool) → Closed bodies (chosen choice (after_write (end + 1) (framed body) done d))
  still_closed Keep d all true = staged_closed bodies body _ (closed_written bodies body (end + 1) d.seen (ap (λ n. n + 1) e) (all Keep))
  still_closed Keep d all false = all Keep
  still_closed Drop d all done = all Drop
  still_closed (Fill b) d all done =
      subst (Closed bodies) (sym (filled_on b d.stable d.pending (record { at = end + 1; len = length (framed body) })))
      (closed_torn bodies (end + 1) _ _ _ (ap (λ n. n + 1) e) (all (Fill b)) (torn_written (end + 1) (replicate (length (framed body)) b) (filled b d.stable d.pending)))

  module _ (f : List ℕ) (staged : Staged bodies body f) where
    pub gate_raised : Closed (bodies ++ body ∷ []) (raised_to 1 f)
    gate_raised = one_longer bodies body staged.rest _ (gate_put bodies body end f 1 e staged)

    pub gate_filled : (byte : ℕ) → Closed (with_body (nat_eq byte 1) bodies body) (raised_to byte f)
    gate_filled byte = by_test (nat_eq byte 1) refl where
      by_test : (t : Bool) → nat_eq byte 1 ≡ t → Closed (with_body t bodies body) (raised_to byte f)
      by_test true is = subst (λ z. Closed (bodies ++ body ∷ []) (raised_to z f)) (sym (eqb-true byte 1 is)) gate_raised
      by_test false is = record { gate = byte; rest = behind body ++ (0 ∷ staged.rest); shut = eqb-false byte 1 is; is = gate_put bodies body end f byte e staged }

    -- a stop at the gate's write, and at its sync
    pub gate_torn : (choice : Choice) → Closed (with_body (gate_stands choice) bodies body) (chosen choice (after_write end (1 ∷ []) true (opened f)))
    gate_torn Keep = gate_raised
    gate_torn Drop = staged_closed bodies body f staged
    gate_torn (Fill byte) = gate_filled byte
