-- What the step of a decision gives.
use Rattle.std.specs.Prelude.{List, Option, Some, None, Bool, true, false, refl}
use Rattle.std.proofs.Common.{sym}
use Rattle.std.proofs.lemmas.List.{append-nil}
use Rattle.at_base.specs.declared.outs.Out.{Out}
use Rattle.at_base.specs.declared.record.Record.{Record}
use Rattle.at_model.specs.Book.{Book}
use Rattle.at_model.specs.Moves.{Change, Decision, Goes, Records}
use Rattle.at_model.specs.Step.{plan_of}
use Rattle.agreement.specs.Branches.{InBranches, Became, happened, undone}

pub became : {A : Type 0} (P : Option Record → Change A → Type 0) (Undoes : Record → Type 0) (b : Book) (put : Option A → Book) (answer : List Out) (d : Decision A) (landed : Bool)
    → InBranches P Undoes d → Became P Undoes b put answer (plan_of b put answer d) landed
became P Undoes b put answer (Goes c) true h = happened None c h (λ rs. sym (append-nil rs)) refl refl refl
became P Undoes b put answer (Goes c) false h = happened None c h (λ rs. sym (append-nil rs)) refl refl refl
became P Undoes b put answer (Records r c None) true (h, u) = happened (Some r) c h (λ rs. refl) refl refl refl
became P Undoes b put answer (Records r c None) false (h, u) = undone r u refl refl refl
became P Undoes b put answer (Records r c (Some d)) true (h, k) = happened (Some r) c h (λ rs. refl) refl refl refl
became P Undoes b put answer (Records r c (Some d)) false (h, k) = happened None d k (λ rs. sym (append-nil rs)) refl refl refl
