-- How a step with a record ends.
use Rattle.std.proofs.Common.{ℕ, List, ◌++◌, ◌≡◌, ◌≤◌, inl, inr, true, false, Some, None, Result, sym, ◌∙◌, ap, subst}
use Rattle.at_base.specs.declared.record.Record.{Record}
use Rattle.decision_log.specs.declared.keep.KeepFault.{KeepFault}
use Rattle.decision_log.specs.KeptRecords.{after}
use Rattle.decision_log.specs.AppendedRecords.{IsAppended, ending}
use Rattle.decision_log.specs.Tokens.{Token, token_of}
use Rattle.interposition.specs.declared.plan.Plan.{Plan}
use Rattle.interposition.specs.PlanResults.{done, sent}
use Rattle.journal_at.specs.declared.journal.Append.{Append}
use Rattle.journal_at.specs.declared.journal.Append.TheVariants as appends
use Rattle.journal_at.specs.declared.journal.Journal.{Journal}
use Rattle.journal_at.specs.StandingBodies.{Counted}
use Rattle.record_bytes.specs.Bytes.{bytes_of}
use Rattle.site_model.specs.Told.{Told}
use Rattle.std.specs.Prelude.{IfSome}
use Rattle.node_at.specs.declared.step.Stepped.TheVariants as ends
use Rattle.node_at.specs.Sends.{Sends, given}
use Rattle.node_at.specs.State.{State}
use Rattle.node_at.specs.Steps.{Acts, status_in}
use Rattle.node_at.specs.Texts.{Leaving}
use Rattle.node_at.proofs.StepRecords.{stopped, went_full, went_landed, went_refused}

-- how the append ended
pub ended : {T : Type 0} (result : Result T KeepFault) (a : Append) (q r : Record) (j k : Journal) (old mid : Told) → q ≡ r → ending result ≡ Some a
    → IfSome (ending result) (λ b. IsAppended b q (bytes_of q) j k old mid) → IsAppended a r (bytes_of r) j k old mid
ended result a q r j k old mid re e h =
    subst (λ z. IsAppended a z (bytes_of z) j k old mid) re (subst (λ o. IfSome o (λ b. IsAppended b q (bytes_of q) j k old mid)) e h)

-- a change of the book behind an append
abbrev pub moved : Plan → State → Journal → State
moved p n j = record n { journal = j; book = done p true n.book; effects = n.effects ++ (sent p true).effects }

abbrev pub unmoved : Plan → State → Journal → State
unmoved p n j = record n { journal = j; book = done p false n.book; effects = n.effects ++ (sent p false).effects }

module _ (r : Record) (p : Plan) (landed absent : List Leaving) (n m : State) (j : Journal) (old mid new : Told) (sure : n.journal.unsure ≡ false) (least : 1 ≤ n.journal.end) (runs : n.halted ≡ false) where
  pub landed_exit : (s : State) (t : Token) → IsAppended appends.Done r (bytes_of r) n.journal j old mid → Counted old mid → t ≡ token_of r
      → Sends (given (Some t) n.kept) n.kept.done landed mid new → s ≡ moved p n j → m ≡ record s { kept = after r s.kept }
      → (status : ℕ) → status ≡ status_in (sent p true).outs → Acts (ends.Done status) p r landed absent n m old new
  landed_exit s t h c te k e f status answers =
      inl (
        went_landed r n m (done p true n.book) (sent p true).effects landed old mid new
            (subst (λ z. IsAppended appends.Done r (bytes_of r) n.journal z old mid) (sym (ap (λ (z : State). z.journal) f ∙ ap (λ (z : State). z.journal) e)) h) c
            (subst (λ z. Sends (given (Some z) n.kept) n.kept.done landed mid new) te k) sure least
            (ap (λ (z : State). z.halted) f ∙ ap (λ (z : State). z.halted) e ∙ runs)
            (ap (λ (z : State). z.book) f ∙ ap (λ (z : State). z.book) e)
            (ap (λ (z : State). z.effects) f ∙ ap (λ (z : State). z.effects) e)
            (ap (λ (z : State). z.kept) f ∙ ap (λ (z : State). after r z.kept) e),
        answers,
      )

  pub refused_exit : IsAppended appends.Refused r (bytes_of r) n.journal j old mid → Counted old mid
      → Sends (given None n.kept) n.kept.done absent mid new → m ≡ unmoved p n j
      → (status : ℕ) → status ≡ status_in (sent p false).outs → Acts (ends.Done status) p r landed absent n m old new
  refused_exit h c k e status answers =
      inr (
        went_refused r n m (done p false n.book) (sent p false).effects absent old mid new c k sure least
            (ap (λ (z : State). z.halted) e ∙ runs) (ap (λ (z : State). z.book) e) (ap (λ (z : State). z.effects) e) (ap (λ (z : State). z.kept) e)
            (subst (λ z. IsAppended appends.Refused r (bytes_of r) n.journal z old mid) (sym (ap (λ (z : State). z.journal) e)) h),
        answers,
      )

  pub full_exit : IsAppended appends.Full r (bytes_of r) n.journal j old mid → Counted old mid
      → Sends (given None n.kept) n.kept.done absent mid new → m ≡ unmoved p n j
      → (status : ℕ) → status ≡ status_in (sent p false).outs → Acts (ends.Done status) p r landed absent n m old new
  full_exit h c k e status answers =
      inr (
        went_full r n m (done p false n.book) (sent p false).effects absent old mid new c k sure least
            (ap (λ (z : State). z.halted) e ∙ runs) (ap (λ (z : State). z.book) e) (ap (λ (z : State). z.effects) e) (ap (λ (z : State). z.kept) e)
            (subst (λ z. IsAppended appends.Full r (bytes_of r) n.journal z old mid) (sym (ap (λ (z : State). z.journal) e)) h),
        answers,
      )

  pub unsure_exit : IsAppended appends.Unsure r (bytes_of r) n.journal j old mid → m ≡ record n { journal = j; halted = true } → Acts ends.Halted p r landed absent n m old mid
  unsure_exit h e =
      stopped r n m landed old mid
      (subst (λ z. IsAppended appends.Unsure r (bytes_of r) n.journal z old mid) (sym (ap (λ (z : State). z.journal) e)) h) sure least
      (e ∙ (λ i. record n { journal = sym (ap (λ (z : State). z.journal) e) i; halted = true }))
