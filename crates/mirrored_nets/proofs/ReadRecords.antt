-- Files that stand for records are read, but for want of memory.
use Rattle.std.specs.Prelude.{ℕ, List, [], ◌∷◌, ◌++◌, ◌≡◌, ◌≢◌, ◌≤◌, ◌<◌, ◌⊎◌, None, length, suc, zero}
use Rattle.std.proofs.Common.{refl, sym, ap, subst, arith, ◌∙◌, inl, inr}
use Rattle.std.proofs.lemmas.List.{append_assoc, drop-map}
use Rattle.at_base.specs.declared.record.Record.{Record}
use Rattle.decision_log.specs.Folds.{AreRecords, IsBadAt as IsBadRecord, placed_in}
use Rattle.journal_at.specs.Format.{AreBodies, AreInPlace, AreUnmarked, FileOf, behind, frames, head_of, mark_of}
use Rattle.journal_at.specs.Frames.{Begins, Framed, IsBadAt, IsStray, NoFrame, bodies_of, body_of}
use Rattle.journal_at.specs.Loads.{IsJudged}
use Rattle.journal_at.specs.Pairs.{AreNew, FilesOf, IsForeign, IsJournal, IsLive}
use Rattle.journal_at.specs.Scans.{records_in}
use Rattle.journal_at.specs.declared.read.Placed.{Placed}
use Rattle.journal_at.specs.declared.records.Records.{Records}
use Rattle.journal_at.specs.declared.version.Version.{Version}
use Rattle.journal_at.proofs.Bodies.{framed_of, tail_framed}
use Rattle.journal_at.proofs.Frames.{not_framed}
use Rattle.node_at.specs.Starts.{StandFor}
use Rattle.record_bytes.specs.Versions.{IsRecord}
use Rattle.site_model.specs.Told.{Files, file_of, other_than}
use Rattle.mirrored_nets.proofs.OneStanding.{bodies_one, file_one, texts_one}

-- what stands behind the first of its bodies
framed_behind : (front : List (List ℕ)) (rest : List ℕ) (bodies : List (List ℕ)) → AreBodies front → Framed bodies (frames front ++ rest) → (more : List (List ℕ)) × (bodies ≡ front ++ more) × Framed more rest
framed_behind [] rest bodies sized h = (bodies, refl, h)
framed_behind (b ∷ front) rest bodies (first, sized) h =
    let begins : Begins b (frames front ++ rest) (frames (b ∷ front) ++ rest) = record { sized = first; is = ap (λ z. 1 ∷ z) (append_assoc (behind b) (frames front) rest) } in
    let (then, e, m) = tail_framed b (frames front ++ rest) (frames (b ∷ front) ++ rest) bodies begins h in
    let (more, k, n) = framed_behind front rest then sized m in
    (more, e ∙ ap (λ z. b ∷ z) k, n)

unmarked_behind : (front : List (List ℕ)) (body : List ℕ) (more : List (List ℕ)) → AreUnmarked (front ++ body ∷ more) → mark_of body ≡ None
unmarked_behind [] body more h = h.0
unmarked_behind (b ∷ front) body more h = unmarked_behind front body more h.1

not_stray : (front : List (List ℕ)) (body : List ℕ) (more : List (List ℕ)) → front ≢ [] → mark_of body ≢ None → AreInPlace (front ++ body ∷ more) → ⊥
not_stray [] body more some mark h = some refl
not_stray (b ∷ front) body more some mark h = mark (unmarked_behind front body more h)

-- a file of bodies is bad nowhere
not_bad : (f : List ℕ) (bodies : List (List ℕ)) (place : ℕ) → FileOf f bodies → IsBadAt place f → ⊥
not_bad f bodies place h bad =
    let framed = subst (Framed bodies) bad.is (framed_of f bodies bad.long h) in
    let (more, is, rest) = framed_behind bad.front bad.rest bodies bad.sized framed in
    by more is rest bad.bad
  where
    by : (more : List (List ℕ)) → bodies ≡ bad.front ++ more → Framed more bad.rest → NoFrame bad.rest ⊎ IsStray bad.front bad.rest → ⊥
    by more is rest (inl none) = not_framed bad.rest none more rest
    by more is rest (inr stray) =
        let (then, e, m) = tail_framed stray.body stray.after bad.rest more stray.begins rest in
        not_stray bad.front stray.body then stray.behind stray.mark (subst AreInPlace (is ∙ ap (λ z. bad.front ++ z) e) h.listed.placed)

both_files : (f : Files) (live : ℕ) (bodies others : List (List ℕ)) → FileOf (file_of live f) bodies → FileOf (other_than live f) others
    → ((xs : List (List ℕ)) × FileOf f.first xs) × ((ys : List (List ℕ)) × FileOf f.second ys)
both_files f zero bodies others h k = ((bodies, h), (others, k))
both_files f (suc n) bodies others h k = ((others, k), (bodies, h))

-- neither is one of a pair that stands for records
pub not_judged : (f : Files) (version : Version) (texts : List (List ℕ)) (file place : ℕ) → FilesOf f version texts → IsJudged file place f → ⊥
not_judged f version texts zero place h bad = let (first, second) = both_files f h.live h.bodies h.others h.is h.other in not_bad f.first first.0 place first.1 bad
not_judged f version texts (suc n) place h bad = let (first, second) = both_files f h.live h.bodies h.others h.is h.other in not_bad f.second second.0 place second.1 bad.1

no_older : (xs ys zs : List (List ℕ)) → xs ≡ ys → (head_of zs).generation < (head_of xs).generation → (head_of ys).generation ≤ (head_of []).generation → ⊥
no_older xs ys zs e less none = omega (arith, less, none, ap (λ z. (head_of z).generation) e)

not_new : (f : Files) → AreNew f → (11 < length f.first) ⊎ (11 < length f.second) → ⊥
not_new f new (inl long) = let short = new.first in omega (arith, long, short)
not_new f new (inr long) = let short = new.second in omega (arith, long, short)

-- and it is a journal
pub not_foreign : (f : Files) (version : Version) (texts : List (List ℕ)) → FilesOf f version texts → IsForeign f → ⊥
not_foreign f version texts h k = by h.live h.is h.other h.newer
  where
    by : (live : ℕ) → FileOf (file_of live f) h.bodies → FileOf (other_than live f) h.others → IsLive live h.bodies h.others → ⊥
    by zero is other newer = not_new f (subst (λ z. IsJournal z f) (file_one f.first h.bodies [] is k.is) h.journal) k.long
    by (suc n) is other newer = no_older h.bodies k.others h.others (file_one f.second h.bodies k.others is k.other) newer k.newer

-- what was read are those records
pub records_read : (c : Files) (v w : Version) (rs : List Record) (xs : List (List ℕ)) → StandFor v rs c → FilesOf c w xs → AreRecords w rs xs
records_read c v w rs xs h k =
    subst (AreRecords w rs) (texts_one c v w h.texts xs h.is k)
    (subst (λ z. AreRecords z rs h.texts) (sym h.is.versions ∙ ap (λ z. (head_of z).version) (bodies_one c v w h.texts xs h.is k) ∙ k.versions) h.are)

record_at : (version : Version) (front : List Placed) (item : Placed) (rest : List Placed) (rs : List Record) → AreRecords version rs (bodies_of (front ++ item ∷ rest)) → (r : Record) × IsRecord version r (body_of item)
record_at version [] item rest [] h = absurd h
record_at version [] item rest (r ∷ rs) h = (r, h.0)
record_at version (p ∷ front) item rest [] h = absurd h
record_at version (p ∷ front) item rest (r ∷ rs) h = record_at version front item rest rs h.1

-- each body is one
pub not_misspelled : (found : Records) (rs : List Record) (place : ℕ) → AreRecords found.version rs (records_in found) → IsBadRecord found.version (placed_in found) place → ⊥
not_misspelled found rs place h bad =
    let bodies : records_in found ≡ bodies_of (bad.front ++ bad.item ∷ bad.rest) = drop-map body_of found.start found.items.items ∙ ap bodies_of bad.is in
    let (r, is) = record_at found.version bad.front bad.item bad.rest rs (subst (AreRecords found.version rs) bodies h) in
    bad.none r is
