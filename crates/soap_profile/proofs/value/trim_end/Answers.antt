use Rattle.std.proofs.Common.{◌≡◌, ◌-◌, Some, true, false, length, take, arith}
use Rattle.std.specs.List.{slice_get}
use Rattle.soap_profile.specs.Values.{is_white, trim_end}
use Rattle.soap_profile.proofs.TrimLaws.{white_last, word_last}
use Rattle.soap_profile.proofs.value.trim_end.Goals as goal

pub returns-then-not-is_white : goal.returns-then-not-is_white
returns-then-not-is_white c =
    let s = c.loop-last.rest.now in
    let last : slice_get s (length s - 1) ≡ Some c.in-Some.last.now = cc (c.in-Some.ensures.value) in
    let word : is_white c.in-Some.last.now ≡ false = cc in
    let kept : trim_end s ≡ s = word_last s c.in-Some.last.now last word in
    cc

pub loop-last-preserved : goal.loop-last-preserved
loop-last-preserved c =
    let s = c.loop-last.rest.now in
    let last : slice_get s (length s - 1) ≡ Some c.in-Some.last.now = cc (c.in-Some.ensures.value) in
    let white : is_white c.in-Some.last.now ≡ true = cc in
    let kept : trim_end (take (length s - 1) s) ≡ trim_end s = white_last s c.in-Some.last.now last white in
    let count : length s - 1 - 0 ≡ length s - 1 = omega arith in
    let cut : c.range-rest.result.now ≡ take (length s - 1 - 0) s = c.range-rest.ensures.value in
    (c.range-rest.utf8, cc)
