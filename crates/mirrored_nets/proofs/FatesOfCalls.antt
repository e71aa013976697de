-- Calls of which so many are of the disk, then so many answers and posts, and the rest those by which the journal is written anew.
use Rattle.std.specs.Prelude.{ℕ, List, ◌≡◌, ◌≤◌, drop, length, take}
use Rattle.std.proofs.Common.{sym, subst, ap, ◌∙◌}
use Rattle.std.proofs.lemmas.List.{drop-map}
use Rattle.site_memory.specs.Entries.{made_of, mades}
use Rattle.site_memory.specs.declared.entry.Entry.{Entry}
use Rattle.mirrored_nets.specs.Fates.{anew_of, behind_disk, behind_sent, disk_part, sent_part}

pub record AreFirst (calls : List Entry) (disk sent : ℕ) : Type 0 where
  pub disk_is : disk_part (mades calls) ≡ take disk (mades calls)
  pub behind_is : behind_disk (mades calls) ≡ drop disk (mades calls)
  pub within : disk ≤ length calls
  pub sent_is : sent_part (mades (drop disk calls)) ≡ take sent (mades (drop disk calls))
  pub behind_sent_is : behind_sent (mades (drop disk calls)) ≡ drop sent (mades (drop disk calls))
  pub sent_within : sent ≤ length (drop disk calls)

pub first_so : (calls step : List Entry) (disk sent : ℕ) → step ≡ drop disk calls → disk_part (mades calls) ≡ take disk (mades calls) → behind_disk (mades calls) ≡ drop disk (mades calls) → disk ≤ length calls
    → sent_part (mades step) ≡ take sent (mades step) → behind_sent (mades step) ≡ drop sent (mades step) → sent ≤ length step → AreFirst calls disk sent
first_so calls step disk sent is d b within s bs sent_within = record {
  disk_is = d;
  behind_is = b;
  within = within;
  sent_is = subst (λ (l : List Entry). sent_part (mades l) ≡ take sent (mades l)) is s;
  behind_sent_is = subst (λ (l : List Entry). behind_sent (mades l) ≡ drop sent (mades l)) is bs;
  sent_within = subst (λ (l : List Entry). sent ≤ length l) is sent_within;
}

-- those by which the journal is written anew
pub anew_are : (calls : List Entry) (disk sent : ℕ) → AreFirst calls disk sent → mades (drop sent (drop disk calls)) ≡ anew_of (mades calls)
anew_are calls disk sent h =
    sym (drop-map made_of sent (drop disk calls)) ∙ sym h.behind_sent_is ∙ ap behind_sent (sym (h.behind_is ∙ drop-map made_of disk calls))

-- those behind the first so many
pub behind_lines : (lines : ℕ) (calls step : List Entry) → step ≡ drop lines calls → drop lines (mades calls) ≡ mades step
behind_lines lines calls step is = drop-map made_of lines calls ∙ sym (ap mades is)

-- those of them by which the journal is written anew
pub anew_so : (lines : ℕ) (calls step anew : List Entry) → step ≡ drop lines calls → mades anew ≡ anew_of (mades step) → mades anew ≡ anew_of (drop lines (mades calls))
anew_so lines calls step anew is same = same ∙ ap anew_of (sym (behind_lines lines calls step is))
