use Rattle.std.proofs.Common.{◌≡◌, codes, map}
use Rattle.std.specs.List.{list_all}
use Rattle.http_post.specs.Heads.{is_word}
use Rattle.http_post.specs.FieldMaps.{values_under}
use Rattle.http_post.proofs.framing.are_chunked.Given as goal

abbrev pub invariant-loop-value : goal.invariant-loop-value
invariant-loop-value l =
    (goal.iterator-loop-value).can_next l.value-iterator
    × ((goal.iterator-loop-value).is_finite l.value-iterator
    × (list_all (is_word (codes "chunked")) (map (λ v. v.bytes) l.value-iterator) ≡ list_all (is_word (codes "chunked")) (values_under l.fields (codes "transfer-encoding"))))
