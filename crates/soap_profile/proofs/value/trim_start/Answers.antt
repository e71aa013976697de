use Rattle.std.proofs.Common.{◌≡◌, Some, true}
use Rattle.std.specs.List.{slice_get}
use Rattle.soap_profile.specs.Values.{is_white}
use Rattle.soap_profile.proofs.TrimLaws.{white_boundary}
use Rattle.soap_profile.proofs.value.trim_start.Goals as goal

pub range_from-rest-requires : goal.range_from-rest-requires
range_from-rest-requires c =
    let first : slice_get c.loop-first.rest.now 0 ≡ Some c.in-Some.first.now = cc (c.in-Some.ensures.value) in
    let white : is_white c.in-Some.first.now ≡ true = cc in
    λ _. white_boundary c.loop-first.rest.now c.in-Some.first.now c.loop-first.invariant.0 first white
