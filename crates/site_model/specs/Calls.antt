-- What each call of a node's machine changes of what it tells.
use Rattle.std.specs.Prelude.{ℕ, List, Result, Ok, Err, Some, None, ◌∷◌, [], ◌++◌, ◌≡◌, ◌≤◌, ◌<◌, length, take, drop, map, OnOk, OnErr, IfOk, option_map}
use Rattle.site_model.specs.Site.{OnDisk, OnGate, OnReceive, OnLink, Attached, Took}
use Rattle.site_model.specs.Told.{Told, Call, Made, Link, done, BreaksOff, with_file, written, Is, Within, TornFrom, Tears, Settled, Elapses, Between, Now, Still, Apart}
use Rattle.site_model.specs.Told.Call.{Write, Sync}
use Rattle.site_model.specs.declared.site.AttachFailed.{AttachFailed}
use Rattle.site_model.specs.declared.site.Taken.{Taken}
use Rattle.site_model.specs.declared.site.Taken.TheVariants.{Opened, Closed}

-- all of these calls were done, or one of them failed and ended it
abbrev pub Outcome : {T E : Type 0} → List Call → Result T E → List Made → Type 0
Outcome calls (Ok x) made = made ≡ map done calls
Outcome calls (Err e) made = BreaksOff calls made

pub record Runs {T E : Type 0} (calls : List Call) (result : Result T E) (old new : Told) : Type 0 where
  pub made : List Made
  pub outcome : Outcome calls result made
  pub grown : new.calls ≡ option_map (λ l. l ++ made) old.calls

-- size and read
pub record Looked {T E : Type 0} (result : Result T E) (old new : Told) : Type 0 where
  pub still : Still old new
  pub apart : Apart old new
  pub counts : OnDisk old.counts new.counts result

-- after a failed write the range may read as anything; a crash may leave it so after any write
pub record Wrote {T E : Type 0} (file at : ℕ) (bytes : List ℕ) (result : Result T E) (old new : Told) : Type 0 where
  pub calls : Runs (Write file at bytes ∷ []) result old new
  pub done : OnOk result (new.files ≡ option_map (with_file file (written at bytes)) old.files)
  pub failed : OnErr result (Tears file at (length bytes) (Is old.files) (Is new.files))
  pub images : Tears file at (length bytes) old.images new.images
  pub time : Elapses old new (Now new)
  pub apart : Apart old new
  pub counts : OnDisk old.counts new.counts result

-- after a sync a crash leaves of the file what reads give; a failed one settles nothing
pub record Synced {T E : Type 0} (file : ℕ) (result : Result T E) (old new : Told) : Type 0 where
  pub calls : Runs (Sync file ∷ []) result old new
  pub done : OnOk result (Settled file old.files new.images)
  pub files : new.files ≡ old.files
  pub images : Within old.images new.images
  pub time : Elapses old new (Now new)
  pub apart : Apart old new
  pub counts : OnDisk old.counts new.counts result

-- the byte 1 is written and synced
pub record Raised {T E : Type 0} (file at : ℕ) (result : Result T E) (old new : Told) : Type 0 where
  pub calls : Runs (Write file at (1 ∷ []) ∷ Sync file ∷ []) result old new
  pub done : OnOk result (new.files ≡ option_map (with_file file (written at (1 ∷ []))) old.files)
  pub settled : OnOk result (Settled file new.files new.images)
  pub failed : OnErr result (Tears file at 1 (Is old.files) (Is new.files))
  pub images : Tears file at 1 old.images new.images
  pub time : Elapses old new (λ l c. Between old new l × TornFrom file at 1 old.images c)
  pub apart : Apart old new
  pub counts : OnGate old.counts new.counts result

-- an answer or a post
pub record Gave {T E : Type 0} (call : Call) (result : Result T E) (old new : Told) : Type 0 where
  pub calls : Runs (call ∷ []) result old new
  pub files : new.files ≡ old.files
  pub images : Within old.images new.images
  pub time : Elapses old new (Now new)
  pub apart : Apart old new
  pub counts : OnLink old.counts new.counts result

-- by these names
pub record Attaches {T : Type 0} (journal listen : List ℕ) (result : Result T AttachFailed) (old new : Told) : Type 0 where
  pub still : Still old new
  pub apart : Apart old new
  pub counts : Attached journal listen old.counts new.counts result

-- the first of those that wait is open; none is where none came
abbrev pub OpensAs : Taken → Link → Link → Type 0
OpensAs Opened old new = old.waiting ≡ new.open_bytes ∷ new.waiting
OpensAs Closed old new = (old.waiting ≡ []) × (new ≡ record { open_bytes = []; waiting = [] })

abbrev pub Opens : {E : Type 0} → Result Taken E → Link → Link → Type 0
Opens (Ok taken) old new = OpensAs taken old new
Opens (Err e) old new = new ≡ record old { open_bytes = [] }

pub record Takes {E : Type 0} (result : Result Taken E) (old new : Told) : Type 0 where
  pub still : Still old new
  pub clock : new.clock ≡ old.clock
  pub told : (before : Link) → old.link ≡ Some before → (after : Link) × (new.link ≡ Some after) × Opens result before after
  pub untold : old.link ≡ None → new.link ≡ None
  pub counts : Took old.counts new.counts result

-- a beginning of the bytes that are to come was given, at least one where one is there and there is room; the rest are to come
pub record GivesFirst (n : ℕ) (buf : List ℕ) (old new : Link) : Type 0 where
  pub bytes : take n buf ≡ take n old.open_bytes
  pub within : n ≤ length old.open_bytes
  pub end : n ≡ 0 → 0 < length buf → old.open_bytes ≡ []
  pub rest : new ≡ record old { open_bytes = drop n old.open_bytes }

-- a failure loses none
abbrev pub Gives : {E : Type 0} → Result ℕ E → List ℕ → Link → Link → Type 0
Gives (Ok n) buf old new = GivesFirst n buf old new
Gives (Err e) buf old new = new ≡ old

pub record Received {E : Type 0} (result : Result ℕ E) (buf : List ℕ) (old new : Told) : Type 0 where
  pub bound : IfOk result (λ n. n ≤ length buf)
  pub still : Still old new
  pub clock : new.clock ≡ old.clock
  pub told : (before : Link) → old.link ≡ Some before → (after : Link) × (new.link ≡ Some after) × Gives result buf before after
  pub untold : old.link ≡ None → new.link ≡ None
  pub counts : OnReceive old.counts new.counts result

-- the connection brings nothing more
abbrev pub shut : Link → Link
shut link = record link { open_bytes = [] }

pub record Closes (old new : Told) : Type 0 where
  pub still : Still old new
  pub link : new.link ≡ option_map shut old.link
  pub clock : new.clock ≡ old.clock
  pub counts : new.counts ≡ old.counts

-- the clock's number
pub record Reads (result : ℕ) (old new : Told) : Type 0 where
  pub is : (t : ℕ) → old.clock ≡ Some t → result ≡ t
  pub still : Still old new
  pub apart : Apart old new
  pub counts : new.counts ≡ old.counts
