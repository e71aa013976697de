-- A request that is refused is a step without a record.
use Rattle.std.proofs.Common.{ℕ, List, [], ◌∷◌, ◌≡◌, inl, true, false, Option, None, Result, refl, sym, ◌∙◌, subst}
use Rattle.std.proofs.lemmas.List.{append-nil}
use Rattle.http_post.specs.OutBytes.{answer_of}
use Rattle.site_model.specs.Calls.{Gave}
use Rattle.site_model.specs.Told.{Told, Call}
use Rattle.node_at.specs.Refusals.{RanOne, Refuses}
use Rattle.node_at.specs.Sends.{Sends, given}
use Rattle.node_at.specs.State.{State}
use Rattle.node_at.specs.Texts.{Leaving}
use Rattle.node_at.specs.TurnText.{answered, refusing}
use Rattle.node_at.proofs.StepRecords.{counted_none, keeping_both, went_plain}
use Rattle.node_at.proofs.Rows.{ran_one}
use Rattle.node_at.proofs.Sends.{sends_given}

refused_one : (n m : State) (status : ℕ) (text : Option (List ℕ)) (old new : Told) → m ≡ n → Sends (given None n.kept) n.kept.done (answered status text ∷ []) old new
    → n.halted ≡ false → n.journal.unsure ≡ false → RanOne (refusing n.book status text) n m old new
refused_one n m status text old new e sends runs sure =
    ran_one (refusing n.book status text) n m old new
    (went_plain n m n.book [] (answered status text ∷ []) old new sends sure runs (e ∙ (λ i. record n { effects = sym (append-nil n.effects) i })))
    (keeping_both (given None n.kept) n.kept.done (answered status text ∷ []) old old new (counted_none old) sends) sure runs

pub refuses_so : (n m : State) (status : ℕ) (text : Option (List ℕ)) (xs : List Leaving) (old new : Told) → m ≡ n → xs ≡ answered status text ∷ []
    → Sends (given None n.kept) n.kept.done xs old new → n.halted ≡ false → n.journal.unsure ≡ false → Refuses true status text n m old new
refuses_so n m status text xs old new e f sends runs sure =
    (e, refused_one n m status text old new e (subst (λ z. Sends (given None n.kept) n.kept.done z old new) f sends) runs sure)

pub busy_so : {T E : Type 0} (n m : State) (result : Result T E) (old new : Told) → m ≡ n → Gave (Call.Send (answer_of 503 None)) result old new
    → n.halted ≡ false → n.journal.unsure ≡ false → Refuses true 503 None n m old new
busy_so n m result old new e gave runs sure =
    (e, refused_one n m 503 None old new e (sends_given (given None n.kept) n.kept.done (answered 503 None) result old new (inl refl) gave) runs sure)
