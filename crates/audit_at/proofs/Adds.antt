-- What a record adds, by its kind.
use Rattle.std.proofs.Common.{ℕ, List, [], ◌∷◌, ◌++◌, ◌≡◌, ◌∙◌, true, false, Option, sym, ap}
use Rattle.std.specs.Prelude.{if◌then◌else◌}
use Rattle.std.specs.List.{list_any}
use Rattle.std.proofs.lemmas.List.{append-nil}
use Rattle.at_base.specs.Numbers.{Numbers}
use Rattle.at_base.specs.declared.epr.Epr.{Epr}
use Rattle.at_base.specs.declared.record.Record.{Record}
use Rattle.at_base.specs.declared.record.Record.TheVariants as records
use Rattle.at_base.specs.declared.record.Seated.{Seated}
use Rattle.at_model.specs.Recovery.{is_voted}
use Rattle.audit_at.specs.Outcomes.{leaf_outcomes, outcomes_at, vote_outcomes}
use Rattle.audit_at.specs.Superiors.{item_at, named, subordinate_at}
use Rattle.audit_at.specs.declared.item.Item.{Item}
use Rattle.audit_at.specs.declared.subordinate.Subordinate.{Subordinate}

-- a vote that isn't the last adds nobody
pub votes_again : (old : List Subordinate) (base : List ℕ) (entry : Record) (id : Numbers) (superior : Epr) (seats : List Seated) (rest : List Record) → entry ≡ records.Voted id superior seats
    → list_any (is_voted id) rest ≡ true → old ≡ old ++ subordinate_at base entry rest
votes_again old base entry id superior seats rest e f =
    sym (ap (λ r. old ++ subordinate_at base r rest) e
    ∙ (ap (λ c. old ++ (if c then [] else record { item = item_at base id; superior = named superior.address } ∷ [])) f ∙ append-nil old))

pub votes_last : (old : List Subordinate) (base : List ℕ) (entry : Record) (id : Numbers) (superior : Epr) (seats : List Seated) (rest : List Record) (up : Option Item) → entry ≡ records.Voted id superior seats
    → list_any (is_voted id) rest ≡ false → up ≡ named superior.address → old ++ record { item = item_at base id; superior = up } ∷ [] ≡ old ++ subordinate_at base entry rest
votes_last old base entry id superior seats rest up e f h =
    ap (λ u. old ++ record { item = item_at base id; superior = u } ∷ []) h
    ∙ sym (ap (λ r. old ++ subordinate_at base r rest) e ∙ ap (λ c. old ++ (if c then [] else record { item = item_at base id; superior = named superior.address } ∷ [])) f)

-- outcomes
pub leaf_adds : (subs : List Subordinate) (base : List ℕ) (entry : Record) (id : Numbers) (coordinator : Epr) (key value : List ℕ) (rest : List Record) (leaf : Item)
    → entry ≡ records.LeafPrepared id coordinator key value → leaf ≡ item_at base id → leaf_outcomes subs leaf coordinator rest ≡ outcomes_at subs base entry rest
leaf_adds subs base entry id coordinator key value rest leaf e f = ap (λ l. leaf_outcomes subs l coordinator rest) f ∙ sym (ap (λ r. outcomes_at subs base r rest) e)

pub vote_adds : (subs : List Subordinate) (base : List ℕ) (entry : Record) (id : Numbers) (superior : Epr) (seats : List Seated) (rest : List Record) (item : Item)
    → entry ≡ records.Voted id superior seats → item ≡ item_at base id → vote_outcomes subs item rest ≡ outcomes_at subs base entry rest
vote_adds subs base entry id superior seats rest item e f = ap (λ i. vote_outcomes subs i rest) f ∙ sym (ap (λ r. outcomes_at subs base r rest) e)
