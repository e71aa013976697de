-- One call more.
use Rattle.std.proofs.Common.{ℕ, List, Bool, true, false, [], ◌∷◌, ◌≡◌, ◌++◌, refl, sym, ap, ◌∙◌}
use Rattle.std.specs.Prelude.{cond}
use Rattle.site_model.specs.Told.{Call, Made, Files}
use Rattle.site_model.specs.Told.Call.{Write, Sync, Send, Post}
use Rattle.site_memory.specs.declared.arm.Arm.{Arm}
use Rattle.site_memory.specs.declared.entry.Noted.{Noted}
use Rattle.site_memory.specs.declared.entry.Noted.TheVariants.{Done, Failed, Not}
use Rattle.site_memory.specs.declared.range.Which.{Which}
use Rattle.site_memory.specs.Disk.{Disk, after_call, after_write, after_sync, disk, run, same, which_of}
use Rattle.site_memory.specs.Entries.{Notes}

pub run_push : (which : Which) (d : Disk) (log : List Made) (m : Made) → run which d (log ++ m ∷ []) ≡ after_call which (run which d log) m.call m.done
run_push which d [] m = refl
run_push which d (x ∷ log) m = run_push which (after_call which d x.call x.done) log m

pub disk_push : (which : Which) (opening : Files) (log later : List Made) (m : Made) → later ≡ log ++ m ∷ [] → disk which opening later ≡ after_call which (disk which opening log) m.call m.done
disk_push which opening log later m e = ap (disk which opening) e ∙ run_push which _ log m

-- what a call does to a file
abbrev pub effect : Which → Call → Noted → Disk → Disk
effect which call Done d = after_call which d call true
effect which call Failed d = after_call which d call false
effect which call Not d = d

pub after_notes : (which : Which) (o : Files) (call : Call) (noted : Noted) (a b : Arm) (v w : Bool) (old new : List Made) → Notes call noted a b v w old new → disk which o new ≡ effect which call noted (disk which o old)
after_notes which o call Done a b v w old new h = disk_push which o old new _ h.3
after_notes which o call Failed a b v w old new h = disk_push which o old new _ h.3
after_notes which o call Not a b v w old new h = ap (disk which o) h.1

-- the files went along with the calls
pub goes_along : (which : Which) (o o' : Files) (call : Call) (noted : Noted) (a b : Arm) (v w : Bool) (old new : List Made) (d d' : Disk) → Notes call noted a b v w old new → d ≡ disk which o old → o' ≡ o → d' ≡ effect which call noted d → d' ≡ disk which o' new
goes_along which o o' call noted a b v w old new d d' n h e s =
    s ∙ ap (effect which call noted) h ∙ sym (after_notes which o call noted a b v w old new n) ∙ sym (ap (λ z. disk which z new) e)

pub sent_nothing : (which : Which) (call : Call) (noted : Noted) (bytes : List ℕ) (d : Disk) → call ≡ Send bytes → d ≡ effect which call noted d
sent_nothing which call Done bytes d e = sym (ap (λ c. after_call which d c true) e)
sent_nothing which call Failed bytes d e = sym (ap (λ c. after_call which d c false) e)
sent_nothing which call Not bytes d e = refl

pub posted_nothing : (which : Which) (call : Call) (noted : Noted) (host : List ℕ) (port : ℕ) (bytes : List ℕ) (d : Disk) → call ≡ Post host port bytes → d ≡ effect which call noted d
posted_nothing which call Done host port bytes d e = sym (ap (λ c. after_call which d c true) e)
posted_nothing which call Failed host port bytes d e = sym (ap (λ c. after_call which d c false) e)
posted_nothing which call Not host port bytes d e = refl

-- a write whose fate is known
pub wrote_there : (which w : Which) (call : Call) (file at place : ℕ) (bytes : List ℕ) (b : Bool) (noted : Noted) (d dr d' : Disk) → call ≡ Write file at bytes → w ≡ which_of file → place ≡ at → dr ≡ d → d' ≡ cond (same which w) (after_write place bytes b dr) dr → ((c : Call) (z : Disk) → effect which c noted z ≡ after_call which z c b) → d' ≡ effect which call noted d
wrote_there which w call file at place bytes b noted d dr d' ce we pe de s f =
    s ∙ (λ i. cond (same which (we i)) (after_write (pe i) bytes b (de i)) (de i)) ∙ sym (f call d ∙ ap (λ c. after_call which d c b) ce)

pub is_done : (which : Which) (noted : Noted) → noted ≡ Done → (c : Call) (z : Disk) → effect which c noted z ≡ after_call which z c true
is_done which noted e c z = ap (λ n. effect which c n z) e

pub is_failed : (which : Which) (noted : Noted) → noted ≡ Failed → (c : Call) (z : Disk) → effect which c noted z ≡ after_call which z c false
is_failed which noted e c z = ap (λ n. effect which c n z) e

pub synced_there : (which w : Which) (file : ℕ) (noted : Noted) (d d' : Disk) → noted ≡ Done → w ≡ which_of file → d' ≡ cond (same which w) (after_sync true d) d → d' ≡ effect which (Sync file) noted d
synced_there which w file noted d d' e we s =
    s ∙ ap (λ z. cond (same which z) (after_sync true d) d) we ∙ sym (is_done which noted e (Sync file) d)

-- a sync that failed changes nothing
pub settled_nothing : (file : ℕ) (which : Which) (d : Disk) → d ≡ after_call which d (Sync file) false
settled_nothing file which d = by_case (same which (which_of file)) where
  by_case : (b : Bool) → d ≡ cond b (after_sync false d) d
  by_case true = refl
  by_case false = refl
