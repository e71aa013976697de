use Rattle.httparse.specs.declared.spans.HeaderSpan.{HeaderSpan}
use Rattle.http_post.proofs.FieldMaps.{kept_more}
use Rattle.http_post.proofs.fields.keep_all.Goals as goal

abbrev nowhere : HeaderSpan
nowhere = record { name = record { start = 0; end = 0 }; value = record { start = 0; end = 0 } }

-- src/fields.rt:21:5
pub loop-place-preserved : goal.loop-place-preserved
loop-place-preserved c =
    kept_more c.args.bytes.now c.args.places.now c.loop-place.place-index nowhere c.loop-place.fields c.keep_field.new.fields c.of.result.now c.of-in-loop-place.result.now
    c.loop-place-test.true c.loop-place.invariant c.of.ensures c.of-in-loop-place.ensures c.in_ok-keep_field.ensures
