-- How many calls of a kind come first, and what these are.
use Rattle.std.specs.Prelude.{ℕ, List, [], ◌∷◌, ◌≡◌, Bool, true, false, drop, take, if◌then◌else◌, suc}
use Rattle.std.proofs.Common.{refl, sym, ap, ◌∙◌}
use Rattle.site_memory.specs.Entries.{mades}
use Rattle.site_memory.specs.declared.entry.Entry.{Entry}
use Rattle.site_model.specs.Told.{Made}
use Rattle.mirrored_nets.specs.Fates.{behind_disk, behind_sent, disk_part, is_disk, sent_part}

-- so many calls of the disk come first
abbrev pub first_disk : List Made → ℕ
first_disk [] = 0
first_disk (m ∷ ms) = if is_disk m.call then suc (first_disk ms) else 0

-- so many answers and posts
abbrev pub first_sent : List Made → ℕ
first_sent [] = 0
first_sent (m ∷ ms) = if is_disk m.call then 0 else suc (first_sent ms)

disk_of_count : (ms : List Made) → disk_part ms ≡ take (first_disk ms) ms
disk_of_count [] = refl
disk_of_count (m ∷ ms) = by (is_disk m.call) (disk_of_count ms)
  where
    by : (b : Bool) → disk_part ms ≡ take (first_disk ms) ms → (if b then m ∷ disk_part ms else []) ≡ take (if b then suc (first_disk ms) else 0) (m ∷ ms)
    by true e = ap (λ (t : List Made). m ∷ t) e
    by false e = refl

behind_count : (ms : List Made) → behind_disk ms ≡ drop (first_disk ms) ms
behind_count [] = refl
behind_count (m ∷ ms) = by (is_disk m.call) (behind_count ms)
  where
    by : (b : Bool) → behind_disk ms ≡ drop (first_disk ms) ms → (if b then behind_disk ms else m ∷ ms) ≡ drop (if b then suc (first_disk ms) else 0) (m ∷ ms)
    by true e = e
    by false e = refl

sent_of_count : (ms : List Made) → sent_part ms ≡ take (first_sent ms) ms
sent_of_count [] = refl
sent_of_count (m ∷ ms) = by (is_disk m.call) (sent_of_count ms)
  where
    by : (b : Bool) → sent_part ms ≡ take (first_sent ms) ms → (if b then [] else m ∷ sent_part ms) ≡ take (if b then 0 else suc (first_sent ms)) (m ∷ ms)
    by false e = ap (λ (t : List Made). m ∷ t) e
    by true e = refl

behind_sent_count : (ms : List Made) → behind_sent ms ≡ drop (first_sent ms) ms
behind_sent_count [] = refl
behind_sent_count (m ∷ ms) = by (is_disk m.call) (behind_sent_count ms)
  where
    by : (b : Bool) → behind_sent ms ≡ drop (first_sent ms) ms → (if b then m ∷ ms else behind_sent ms) ≡ drop (if b then 0 else suc (first_sent ms)) (m ∷ ms)
    by false e = e
    by true e = refl

pub disk_of_first : (n : ℕ) (calls : List Entry) → n ≡ first_disk (mades calls) → disk_part (mades calls) ≡ take n (mades calls)
disk_of_first n calls e = disk_of_count (mades calls) ∙ ap (λ k. take k (mades calls)) (sym e)

pub behind_first_disk : (n : ℕ) (calls : List Entry) → n ≡ first_disk (mades calls) → behind_disk (mades calls) ≡ drop n (mades calls)
behind_first_disk n calls e = behind_count (mades calls) ∙ ap (λ k. drop k (mades calls)) (sym e)

pub sent_of_first : (n : ℕ) (calls : List Entry) → n ≡ first_sent (mades calls) → sent_part (mades calls) ≡ take n (mades calls)
sent_of_first n calls e = sent_of_count (mades calls) ∙ ap (λ k. take k (mades calls)) (sym e)

pub behind_first_sent : (n : ℕ) (calls : List Entry) → n ≡ first_sent (mades calls) → behind_sent (mades calls) ≡ drop n (mades calls)
behind_first_sent n calls e = behind_sent_count (mades calls) ∙ ap (λ k. drop k (mades calls)) (sym e)
