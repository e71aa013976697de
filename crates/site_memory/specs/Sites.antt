-- What a whole machine in memory tells, and how its calls go.
use Rattle.std.proofs.Common.{sym, ◌∙◌, ap, subst}
use Rattle.std.proofs.lemmas.List.{append-nil, length-append}
use Rattle.std.proofs.Common.{arith}
use Rattle.std.specs.Prelude.{ℕ, List, Bool, true, Option, Some, None, false, Result, Ok, Err, [], ◌∷◌, ◌≡◌, ◌≢◌, ◌⊎◌, ◌≤◌, ◌++◌, cond, length, drop, map, option_map}
use Rattle.site_model.specs.Told.{Told, Call, Made, Files, Link}
use Rattle.site_model.specs.Told.Call.{Write, Sync, Post}
use Rattle.site_model.specs.Attachments.{Names as Attachment}
use Rattle.site_model.specs.Site.{Counts}
use Rattle.site_memory.specs.Armings.{told_arming}
use Rattle.site_memory.specs.declared.arm.Arm.TheVariants.{Idle}
use Rattle.site_memory.specs.declared.arm.Arming.{Arming}
use Rattle.site_memory.specs.declared.bytes.Bytes.{Bytes}
use Rattle.site_memory.specs.declared.bytes.Posted.{Posted}
use Rattle.site_memory.specs.declared.device.Device.{Device}
use Rattle.site_memory.specs.declared.entry.Noted.{Noted}
use Rattle.site_memory.specs.declared.entry.Noted.TheVariants.{Done, Failed, Not}
use Rattle.site_memory.specs.declared.machine.MemSite.{MemSite}
use Rattle.site_model.specs.declared.site.AttachFailed.{AttachFailed}
use Rattle.site_model.specs.declared.site.AttachFailed.TheVariants.{Disk, Link as NoLink}
use Rattle.site_memory.specs.declared.line.Line.{Line}
use Rattle.site_memory.specs.declared.links.Links.{Links}
use Rattle.site_memory.specs.declared.links.Names.{Names}
use Rattle.site_memory.specs.declared.tally.Tally.{Tally}
use Rattle.site_memory.specs.Answers.{Says}
use Rattle.site_memory.specs.Devices.{Runs, calls_in, opening_in}
use Rattle.site_memory.specs.Disk.{Image}
use Rattle.site_memory.specs.Tells.{tells}

abbrev pub contents : Bytes → List ℕ
contents b = b.bytes.items

abbrev pub link_of : Line → Link
link_of line = record { open_bytes = drop line.at line.coming.items; waiting = map contents line.waiting.items }

-- It tells of an arming only where none of its links was told to fail.
abbrev pub counts_of : Option Arming → Links → Tally → List Attachment → Counts
counts_of arming links t names =
    record { arming = cond links.may_fail None (option_map told_arming arming); disk = t.disk; gate = t.gate; accept = links.accept; receive = links.receive; link = t.link; taken = t.taken; closings = t.closings; attached = names }

abbrev pub told_of : MemSite → Told
told_of s = tells (opening_in s.device) (calls_in s.device) (link_of s.line) s.clock (counts_of s.device.arming s.links s.tally s.attached.names)

pub now_counts : (s : MemSite) (l : List Made) (c : Files) → (told_of s).calls ≡ Some l → (told_of s).images c → (told_of s).past l c
now_counts s l c is now = (([], append-nil l ∙ sym (same is)), subst (λ z. Image (opening_in s.device) z c) (same is) now) where
  inside : Option (List Made) → List Made
  inside None = []
  inside (Some x) = x

  same : Some (calls_in s.device) ≡ Some l → calls_in s.device ≡ l
  same e = ap inside e

pub now_only : (s : MemSite) (l m : List Made) (c : Files) → (told_of s).calls ≡ Some m → length m ≤ length l → (told_of s).past l c → (l ≡ m) × (told_of s).images c
now_only s l m c is le (([], e), h) = ((sym (append-nil l) ∙ e) ∙ ap inside is, subst (λ z. Image (opening_in s.device) z c) (sym (append-nil l) ∙ e) h) where
  inside : Option (List Made) → List Made
  inside None = []
  inside (Some x) = x
now_only s l m c is le ((x ∷ rest, e), h) = absurd (omega (arith, le, sym (length-append l (x ∷ rest)) ∙ ap length e ∙ ap (λ o. length (inside o)) is)) where
  inside : Option (List Made) → List Made
  inside None = []
  inside (Some x) = x

-- a call with its answer: it went as it was armed, or it wanted memory
pub record Goes {T E : Type 0} (call : Call) (result : Result T E) (old new : MemSite) : Type 0 where
  pub noted : Noted
  pub says : Says noted result
  pub runs : Runs call noted old.device new.device

-- the gate's two calls; the second is left out where the first wasn't done
abbrev pub Then : Noted → ℕ → Noted → Device → Device → Type 0
Then Done file noted mid new = Runs (Sync file) noted mid new
Then Failed file noted mid new = (noted ≡ Failed) × (new ≡ mid)
Then Not file noted mid new = (noted ≡ Not) × (new ≡ mid)

pub record RunsTwice (file at : ℕ) (noted : Noted) (old new : Device) : Type 0 where
  pub mid : Device
  pub first : Noted
  pub wrote : Runs (Write file at (1 ∷ [])) first old mid
  pub synced : Then first file noted mid new

pub record GoesTwice {T E : Type 0} (file at : ℕ) (result : Result T E) (old new : MemSite) : Type 0 where
  pub noted : Noted
  pub says : Says noted result
  pub runs : RunsTwice file at noted old.device new.device

-- a machine as it is made
pub record IsNew (s : MemSite) : Type 0 where
  pub opening : opening_in s.device ≡ record { first = []; second = [] }
  pub calls : calls_in s.device ≡ []
  pub link : link_of s.line ≡ record { open_bytes = []; waiting = [] }
  pub sent : (s.answers.items ≡ []) × (s.posts.items ≡ [])
  pub links : (s.links.may_fail ≡ false) × (s.links.fail ≡ 0) × (s.links.names ≡ None)
  pub clock : s.clock ≡ 0
  pub counts : counts_of s.device.arming s.links s.tally s.attached.names ≡ record { arming = None; disk = 0; gate = 0; accept = 0; receive = 0; link = 0; taken = 0; closings = 0; attached = [] }
  pub armed : (s.device.arm ≡ Idle) × (s.device.wanted ≡ false) × (s.fail_read ≡ 0)

-- nothing but its arm changes
pub record Same (old new : MemSite) : Type 0 where
  pub opening : opening_in new.device ≡ opening_in old.device
  pub calls : calls_in new.device ≡ calls_in old.device
  pub wanted : new.device.wanted ≡ old.device.wanted
  pub others : record new { device = old.device } ≡ old

-- what was sent is kept
abbrev pub kept_where : {A : Type 0} → Noted → A → List A → List A
kept_where Done x xs = xs ++ x ∷ []
kept_where Failed x xs = xs
kept_where Not x xs = xs

abbrev pub post_of : Posted → Call
post_of posted = Post (contents posted.host) posted.port (contents posted.bytes)

-- a machine with names is attached by them alone, the journal's tried first; else where no fault falls
abbrev pub NamedSo : Names → Bool → List ℕ → List ℕ → Result (Unit {0}) AttachFailed → Type 0
NamedSo names falls journal listen (Ok x) = (journal ≡ contents names.journal) × (listen ≡ contents names.listen) × (falls ≡ false)
NamedSo names falls journal listen (Err Disk) = journal ≢ contents names.journal
NamedSo names falls journal listen (Err NoLink) = (journal ≡ contents names.journal) × ((listen ≢ contents names.listen) ⊎ (falls ≡ true))

abbrev pub Attached : Option Names → Bool → List ℕ → List ℕ → Result (Unit {0}) AttachFailed → Type 0
Attached (Some names) falls journal listen result = NamedSo names falls journal listen result
Attached None falls journal listen (Ok x) = falls ≡ false
Attached None falls journal listen (Err Disk) = ⊥
Attached None falls journal listen (Err NoLink) = falls ≡ true
