use Rattle.std.proofs.Common.{◌≡◌, codes, map}
use Rattle.std.specs.List.{list_any}
use Rattle.http_post.specs.Heads.{is_word}
use Rattle.http_post.specs.FieldMaps.{values_under}
use Rattle.http_post.proofs.framing.waits.Given as goal

abbrev pub invariant-loop-value : goal.invariant-loop-value
invariant-loop-value l =
    (goal.iterator-loop-value).can_next l.value-iterator
    × ((goal.iterator-loop-value).is_finite l.value-iterator
    × (list_any (is_word (codes "100-continue")) (map (λ v. v.bytes) l.value-iterator) ≡ list_any (is_word (codes "100-continue")) (values_under l.fields (codes "expect"))))
