-- What a node's machine counts, and which counts a call may raise; and by which names it was attached.
use Rattle.std.specs.Prelude.{ℕ, List, ◌≡◌, ◌≤◌, ◌++◌, Option, Result, Ok, Err, OnOk}
use Rattle.site_model.specs.Attachments.{Names, attached_by}
use Rattle.site_model.specs.Counts.{HasCause, RisesBy, Rose}
use Rattle.site_model.specs.declared.site.AttachFailed.{AttachFailed}
use Rattle.site_model.specs.declared.site.AttachFailed.TheVariants.{Disk, Link}
use Rattle.site_model.specs.declared.site.Taken.{Taken}
use Rattle.site_model.specs.declared.site.Taken.TheVariants.{Opened, Closed}

-- What a machine for tests was told to fail: of its calls of disk and network, since it had made so many, the one of this number among all,
-- from 1, and no other; none where that is 0.
pub record Arming : Type 0 where
  pub since : ℕ
  pub fails : ℕ

-- No call changes what the machine was told, if it was told anything; and none but `attach` the names by which it was attached, in order.
pub record Counts : Type 0 where
  pub arming : Option Arming
  pub disk : ℕ
  pub gate : ℕ
  pub accept : ℕ
  pub receive : ℕ
  pub link : ℕ
  pub taken : ℕ
  pub closings : ℕ
  pub attached : List Names

-- a call on a file: a failure has its cause in the disk's count, and no other count changes
pub record OnDisk {T E : Type 0} (old new : Counts) (result : Result T E) : Type 0 where
  pub cause : HasCause old.disk new.disk result
  pub others : new ≡ record old { disk = new.disk }

pub record OnGate {T E : Type 0} (old new : Counts) (result : Result T E) : Type 0 where
  pub cause : HasCause old.gate new.gate result
  pub others : new ≡ record old { gate = new.gate }

-- reading of a connection: only a failure is counted
pub record OnReceive {T E : Type 0} (old new : Counts) (result : Result T E) : Type 0 where
  pub cause : HasCause old.receive new.receive result
  pub quiet : OnOk result (new.receive ≡ old.receive)
  pub others : new ≡ record old { receive = new.receive }

pub record OnLink {T E : Type 0} (old new : Counts) (result : Result T E) : Type 0 where
  pub cause : HasCause old.link new.link result
  pub others : new ≡ record old { link = new.link }

-- attaching fails on the disk or on the link, each only where its own count rose
abbrev pub AttachCause : {T : Type 0} → Counts → Counts → Result T AttachFailed → Type 0
AttachCause old new (Ok x) = Unit {0}
AttachCause old new (Err Disk) = Rose old.disk new.disk
AttachCause old new (Err Link) = Rose old.accept new.accept

-- and the names are those that it was given
pub record Attached {T : Type 0} (journal listen : List ℕ) (old new : Counts) (result : Result T AttachFailed) : Type 0 where
  pub disk : old.disk ≤ new.disk
  pub accept : old.accept ≤ new.accept
  pub cause : AttachCause old new result
  pub names : new.attached ≡ old.attached ++ attached_by journal listen result
  pub others : new ≡ record old { disk = new.disk; accept = new.accept; attached = new.attached }

-- each connection that is opened is counted, and each time that none came
abbrev pub Counted : {E : Type 0} → Counts → Counts → Result Taken E → Type 0
Counted old new (Ok Opened) = RisesBy 1 old.taken new.taken × (new.closings ≡ old.closings)
Counted old new (Ok Closed) = RisesBy 1 old.closings new.closings × (new.taken ≡ old.taken)
Counted old new (Err e) = (new.taken ≡ old.taken) × (new.closings ≡ old.closings)

pub record Took {E : Type 0} (old new : Counts) (result : Result Taken E) : Type 0 where
  pub cause : HasCause old.accept new.accept result
  pub counted : Counted old new result
  pub others : new ≡ record old { accept = new.accept; taken = new.taken; closings = new.closings }
