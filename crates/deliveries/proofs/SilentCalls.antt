-- A journal that is written anew posts nothing.
use Rattle.std.specs.Prelude.{Bool, true, false, [], ◌≡◌, ◌⊎◌}
use Rattle.std.proofs.Common.{inl, inr, refl, ap, subst, ◌∙◌}
use Rattle.journal_at.specs.declared.journal.Compact.{Compact}
use Rattle.journal_at.specs.declared.journal.Compact.TheVariants as compacts
use Rattle.node_at.specs.declared.shrink.Shrunk.{Shrunk}
use Rattle.node_at.specs.declared.shrink.Shrunk.TheVariants as shrunks
use Rattle.node_at.specs.ShrunkJournals.{Anew, IsDue, Shrinks}
use Rattle.node_at.specs.State.{State}
use Rattle.node_worlds.proofs.DiskCalls.{Silently, steps_silent}
use Rattle.node_worlds.proofs.Rows.{grown_same}
use Rattle.site_model.specs.Told.{Told}

pub none_made : (old new : Told) → new.calls ≡ old.calls → Silently old new
none_made old new e = record { made = []; silent = refl; calls = e ∙ grown_same old.calls }

-- a compaction that ends so was done of a journal of which it was sure what stands
abbrev IsSure : Compact → Type 0
IsSure compacts.Unsure = ⊥
IsSure other = Unit {0}

sure_by : (r : Compact) (unsure : Bool) → IsSure r → (unsure ≡ true → r ≡ compacts.Unsure) → unsure ≡ false
sure_by r true is stuck = absurd (subst IsSure (stuck refl) is)
sure_by r false is stuck = refl

module _ {S : Type 0} (told : S → Told) (n m : State) (old new : S) where
  anew_silent : (r : Compact) (halted : Bool) → n.journal.unsure ≡ false → Anew r halted n m (told old) (told new) → Silently (told old) (told new)
  anew_silent r halted sure a =
      let moves = a.compacted.moves sure in
      record { made = moves.made; silent = steps_silent r _ _ _ moves.made moves.are; calls = moves.grown }

  anew_sure : (r : Compact) (halted : Bool) → IsSure r → Anew r halted n m (told old) (told new) → Silently (told old) (told new)
  anew_sure r halted is a = anew_silent r halted (sure_by r n.journal.unsure is a.compacted.stuck) a

  -- a journal that is written anew, where the node doesn't halt by that, or was sure before
  pub shrinks_silent : (shrunk : Shrunk) → Shrinks shrunk n m (told old) (told new) → ((IsDue n → ⊥) → new ≡ old) → (shrunk ≡ shrunks.NoMemory → new ≡ old)
      → (m.halted ≡ true → ⊥) ⊎ (n.journal.unsure ≡ false) → Silently (told old) (told new)
  shrinks_silent shrunks.NotDue (inl h) idle memory fit = none_made (told old) (told new) (ap (λ z. (told z).calls) (idle h.0))
  shrinks_silent shrunks.NotDue (inr (inl a)) idle memory fit = anew_sure compacts.Full n.halted tt a
  shrinks_silent shrunks.NotDue (inr (inr a)) idle memory (inl runs) = absurd (runs (ap (λ (z : State). z.halted) a.same))
  shrinks_silent shrunks.NotDue (inr (inr a)) idle memory (inr sure) = anew_silent compacts.Unsure true sure a
  shrinks_silent shrunks.Done a idle memory fit = anew_sure compacts.Done n.halted tt a
  shrinks_silent shrunks.Kept a idle memory fit = anew_sure compacts.Kept n.halted tt a
  shrinks_silent shrunks.NoMemory h idle memory fit = none_made (told old) (told new) (ap (λ z. (told z).calls) (memory refl))
