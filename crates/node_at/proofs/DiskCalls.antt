-- Calls of the disk send nothing.
use Rattle.std.proofs.Common.{ℕ, List, Bool, true, false, [], ◌∷◌, ◌++◌, ◌≡◌, ⊎_elim, cond, map, nat_eq, refl, ◌∙◌, ap, subst}
use Rattle.at_base.specs.declared.record.Record.{Record}
use Rattle.journal_at.specs.Compactions.{prepare_calls}
use Rattle.journal_at.specs.declared.journal.Journal.{Journal}
use Rattle.journal_at.specs.declared.version.Version.{Version}
use Rattle.journal_at.specs.declared.version.Version.TheVariants.{One, Two}
use Rattle.journal_at.specs.Loads.{shuts_if, syncs}
use Rattle.site_model.specs.Told.{Call, Made, BreaksOff, done, failed, sent_by, sent_of}
use Rattle.node_at.specs.Starts.{anew_calls, append_calls, carried, carrying, first_mark, start_after, start_calls}
use Rattle.node_at.specs.Sizes.{end_of}
use Rattle.record_bytes.specs.Bytes.{bytes_of}

abbrev pub AreOnDisk : List Call → Type 0
AreOnDisk [] = Unit {0}
AreOnDisk (c ∷ cs) = (sent_of c ≡ []) × AreOnDisk cs

disk_append : (xs ys : List Call) → AreOnDisk xs → AreOnDisk ys → AreOnDisk (xs ++ ys)
disk_append [] ys h k = k
disk_append (x ∷ xs) ys h k = (h.0, disk_append xs ys h.1 k)

disk_front : (xs ys : List Call) → AreOnDisk (xs ++ ys) → AreOnDisk xs
disk_front [] ys h = tt
disk_front (x ∷ xs) ys h = (h.0, disk_front xs ys h.1)

pub disk_silent : (xs : List Call) → AreOnDisk xs → sent_by (map done xs) ≡ []
disk_silent [] h = refl
disk_silent (x ∷ xs) h = λ i. h.0 i ++ disk_silent xs h.1 i

disk_failed : (xs : List Call) (y : Call) → AreOnDisk xs → sent_by (map done xs ++ failed y ∷ []) ≡ []
disk_failed [] y h = refl
disk_failed (x ∷ xs) y h = λ i. h.0 i ++ disk_failed xs y h.1 i

pub disk_breaks : (calls : List Call) (made : List Made) → AreOnDisk calls → BreaksOff calls made → sent_by made ≡ []
disk_breaks calls made h b =
    let front = disk_front b.front (b.call ∷ b.rest) (subst AreOnDisk b.split h) in
    ⊎_elim (λ e. ap sent_by e ∙ disk_failed b.front b.call front) (λ e. ap sent_by e ∙ disk_silent b.front front) b.is

pub disk_some : (calls front rest : List Call) (made : List Made) → AreOnDisk calls → calls ≡ front ++ rest → made ≡ map done front → sent_by made ≡ []
disk_some calls front rest made h e f = ap sent_by f ∙ disk_silent front (disk_front front rest (subst AreOnDisk e h))

pub opening_disk : (bare : Bool) → AreOnDisk (syncs ++ shuts_if bare)
opening_disk true = (refl, (refl, (refl, (refl, tt))))
opening_disk false = (refl, (refl, tt))

prepare_disk : (unshut : Bool) (file : ℕ) (text : List ℕ) → AreOnDisk (prepare_calls unshut file text)
prepare_disk true file text = (refl, (refl, (refl, (refl, tt))))
prepare_disk false file text = (refl, (refl, (refl, tt)))

append_disk : (live end : ℕ) (b : List ℕ) → AreOnDisk (append_calls live end b)
append_disk live end b = (refl, (refl, (refl, (refl, tt))))

either_disk : (b : Bool) (xs ys : List Call) → AreOnDisk xs → AreOnDisk ys → AreOnDisk (cond b xs ys)
either_disk true xs ys h k = h
either_disk false xs ys h k = k

carrying_disk : (version : Version) (rs : List Record) (j : Journal) → AreOnDisk (carrying version rs j)
carrying_disk Two rs j = tt
carrying_disk One rs j =
    either_disk (nat_eq j.end 0) (append_calls j.live j.end first_mark) (anew_calls j (carried One rs)) (append_disk j.live j.end first_mark)
    (disk_append _ _ (prepare_disk j.unshut _ _) (refl, (refl, tt)))

pub start_disk : (bare : Bool) (version : Version) (rs : List Record) (j : Journal) (file : ℕ) → AreOnDisk (start_calls bare version rs j file)
start_disk bare version rs j file =
    disk_append (syncs ++ shuts_if bare) _ (opening_disk bare) (disk_append (carrying version rs j) _ (carrying_disk version rs j) (append_disk file (end_of (carried version rs)) (bytes_of (start_after rs))))
