-- What the journals of several nodes say of their transactions together: that all outcomes agree, or where not.
use Rattle.std.specs.Prelude.{ℕ, List, [], ◌∷◌, ◌≡◌, Bool, not, Option, Some, None, if◌then◌else◌, filter, length, map}
use Rattle.std.specs.List.{list_any}
use Rattle.std.specs.Cmp.Lexicographic.{slice_cmp}
use Rattle.std.specs.Ordering.{is_lt, nat_cmp, ordering_then}
use Rattle.std.specs.declared.cmp.Ordering.{Ordering}
use Rattle.model_laws.specs.Agreement.{IsIn}
use Rattle.audit_at.specs.declared.item.Item.{Item}
use Rattle.audit_at.specs.declared.outcome.Outcome.{Outcome}
use Rattle.audit_at.specs.declared.subordinate.Subordinate.{Subordinate}
use Rattle.audit_at.specs.declared.verdict.Verdict.{Verdict}
use Rattle.audit_at.specs.declared.verdict.Verdict.TheVariants as verdicts
use Rattle.audit_at.specs.Outcomes.{outcomes}
use Rattle.audit_at.specs.Superiors.{Log, comes_back, is_item, subordinates}

-- the order of items: by the bytes of their bases, then by their ids
abbrev pub rank : Item → Item → Ordering
rank a b =
    ordering_then (slice_cmp nat_cmp a.base b.base)
    (ordering_then (nat_cmp a.id.incarnation b.id.incarnation) (nat_cmp a.id.counter b.id.counter))

abbrev pub lesser : Option Item → Item → Item
lesser None x = x
lesser (Some least) x = if is_lt (rank x least) then x else least

abbrev pub least_from : Option Item → List Item → Option Item
least_from least [] = least
least_from least (x ∷ xs) = least_from (Some (lesser least x)) xs

abbrev pub least : List Item → Option Item
least items = least_from None items

-- the tops of the outcomes that committed, and of those that aborted
abbrev pub committed_tops : List Outcome → List Item
committed_tops os = map (λ o. o.top) (filter (λ o. o.committed) os)

abbrev pub aborted_tops : List Outcome → List Item
aborted_tops os = map (λ o. o.top) (filter (λ o. not o.committed) os)

abbrev pub is_among : List Item → Item → Bool
is_among items item = list_any (λ x. is_item x item) items

-- the items whose superiors come back to them
abbrev pub cycles : List Subordinate → List Item
cycles subs = filter (λ item. comes_back subs item) (map (λ s. s.item) subs)

-- the tops under which one outcome is committed and another aborted
abbrev pub splits : List Outcome → List Item
splits os = filter (λ top. is_among (aborted_tops os) top) (committed_tops os)

abbrev pub split_or_agreed : List Outcome → Option Item → Verdict
split_or_agreed os (Some top) = verdicts.Split top.base top.id
split_or_agreed os None = verdicts.Agreed (length (committed_tops os)) (length (aborted_tops os))

abbrev pub cycle_or : List Outcome → Option Item → Verdict
cycle_or os (Some item) = verdicts.Cycle item.base item.id
cycle_or os None = split_or_agreed os (least (splits os))

-- The least item whose superiors come back to it; else the least top under which outcomes differ; else they agree, so many
-- committed and so many aborted.
abbrev pub verdict_of : List Log → Verdict
verdict_of logs = cycle_or (outcomes logs) (least (cycles (subordinates logs)))

-- where outcomes agree, no two under one top differ
abbrev pub AgreedIsWhole : Type 0
AgreedIsWhole =
    (logs : List Log) (committed aborted : ℕ) (one other : Outcome) → verdict_of logs ≡ verdicts.Agreed committed aborted
    → IsIn one (outcomes logs) → IsIn other (outcomes logs) → one.top ≡ other.top → one.committed ≡ other.committed
