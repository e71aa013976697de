-- The calls of an append that halts its node.
use Rattle.std.specs.Prelude.{ℕ, List, [], ◌++◌, ◌≡◌, drop, length, map}
use Rattle.std.proofs.Common.{ap, refl, subst, sym, ◌∙◌}
use Rattle.std.proofs.Math.Seq.{drop-append_seam}
use Rattle.std.proofs.lemmas.List.{append-nil}
use Rattle.journal_at.specs.StandingBodies.{Makes, lay, raise}
use Rattle.journal_at.specs.declared.journal.Append.TheVariants as appends
use Rattle.site_model.specs.Told.{Made, done}
use Rattle.mirrored_nets.specs.Fates.{anew_of, behind_sent}
use Rattle.mirrored_nets.proofs.CallRows.{AreOnDisk, IsOnDisk, behind_first, disk_calls}
use Rattle.mirrored_nets.proofs.CutCalls.{all_both}

halting_on_disk : (live end : ℕ) (body : List ℕ) (made : List Made) → Makes appends.Unsure live end body made → AreOnDisk made
halting_on_disk live end body made (rest, is, breaks) =
    subst AreOnDisk (sym is) (all_both IsOnDisk (map done (lay live end body)) rest (refl, (refl, tt)) (disk_calls (raise live end) rest (refl, (refl, tt)) breaks))

-- Behind it no call wrote the journal anew.
pub halting_none_behind : (lines : ℕ) (line first made : List Made) (live end : ℕ) (body : List ℕ) → length line ≡ lines → made ≡ line ++ first → Makes appends.Unsure live end body first
    → anew_of (drop lines made) ≡ []
halting_none_behind lines line first made live end body long is makes =
    let behind : drop lines made ≡ first ++ [] = (λ i. drop (sym long i) (is i)) ∙ drop-append_seam line first ∙ sym (append-nil first) in
    ap anew_of behind ∙ ap behind_sent (behind_first first [] (halting_on_disk live end body first makes))
