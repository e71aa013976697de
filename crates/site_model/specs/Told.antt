-- What a node's machine tells: its two files, what a crash might leave of them, its calls of disk and network with their
-- outcomes, its connections, its clock, and its counts. Each is optional but the counts. What is said of crash images is an
-- upper bound, so a machine that tells nothing has none.
use Rattle.std.specs.Prelude.{ℕ, List, Bool, [], ◌∷◌, refl, Option, Some, None, length, ◌≡◌, ◌≤◌, ◌+◌, ◌-◌, ◌++◌, ◌⊎◌, zero, suc, max, take, drop, replicate, map, true, false}
use Rattle.site_model.specs.Site.{Counts}

-- the calls that write, make last, answer and post
pub data Call : Type 0 where
  Write : (file at : ℕ) (bytes : List ℕ) → Call
  Sync : (file : ℕ) → Call
  Send : (bytes : List ℕ) → Call
  Post : (host : List ℕ) (port : ℕ) (bytes : List ℕ) → Call

-- a call with its outcome
pub record Made : Type 0 where
  pub call : Call
  pub done : Bool

abbrev pub done : Call → Made
done call = record { call = call; done = true }

abbrev pub failed : Call → Made
failed call = record { call = call; done = false }

-- what such a call sent
abbrev pub sent_of : Call → List Call
sent_of (Write file at bytes) = []
sent_of (Sync file) = []
sent_of (Send bytes) = Send bytes ∷ []
sent_of (Post host port bytes) = Post host port bytes ∷ []

abbrev pub sent_if : Bool → Call → List Call
sent_if true call = sent_of call
sent_if false call = []

-- the answers and posts that were sent, in order
abbrev pub sent_by : List Made → List Call
sent_by [] = []
sent_by (made ∷ rest) = sent_if made.done made.call ++ sent_by rest

pub record Files : Type 0 where
  pub first : List ℕ
  pub second : List ℕ

-- file 0 is the first
abbrev pub file_of : ℕ → Files → List ℕ
file_of zero files = files.first
file_of (suc n) files = files.second

abbrev pub other_than : ℕ → Files → List ℕ
other_than zero files = files.second
other_than (suc n) files = files.first

abbrev pub with_file : ℕ → (List ℕ → List ℕ) → Files → Files
with_file zero change files = record files { first = change files.first }
with_file (suc n) change files = record files { second = change files.second }

-- what is still to come on the connection that is open, nothing where none is, and all that those bring that wait, in order
pub record Link : Type 0 where
  pub open_bytes : List ℕ
  pub waiting : List (List ℕ)

pub record Told : Type 1 where
  -- what reads give
  pub files : Option Files
  -- what a crash now might leave
  pub images : Files → Type 0
  -- all calls so far
  pub calls : Option (List Made)
  -- what a crash might have left when these were the calls so far
  pub past : List Made → Files → Type 0
  pub link : Option Link
  -- in milliseconds
  pub clock : Option ℕ
  pub counts : Counts

-- a machine that tells its counts alone
abbrev pub silent : Counts → Told
silent counts =
    record { files = None; images = λ c. ⊥; calls = None; past = λ l c. ⊥; link = None; clock = None; counts = counts }

-- the bytes stand from that place on, after zeros where the file ended before it
abbrev pub written : ℕ → List ℕ → List ℕ → List ℕ
written at bytes old = take at old ++ (replicate (at - length old) 0 ++ (bytes ++ drop (at + length bytes) old))

-- n bytes were written from that place on, and any of them, and any past the old end, may be anything
pub record Torn (at n : ℕ) (old new : List ℕ) : Type 0 where
  pub before : (k : ℕ) → k ≤ at → k ≤ length old → take k new ≡ take k old
  pub after : drop (at + n) new ≡ drop (at + n) old
  pub no_shorter : length old ≤ length new
  pub no_longer : length new ≤ max (length old) (at + n)

-- in one of the files; the other stays
pub record TornIn (file at n : ℕ) (old new : Files) : Type 0 where
  pub torn : Torn at n (file_of file old) (file_of file new)
  pub kept : other_than file new ≡ other_than file old

abbrev pub Is : Option Files → Files → Type 0
Is told files = told ≡ Some files

abbrev pub Within : (Files → Type 0) → (Files → Type 0) → Type 0
Within old new = (c : Files) → new c → old c

abbrev pub TornFrom : ℕ → ℕ → ℕ → (Files → Type 0) → Files → Type 0
TornFrom file at n old c = (d : Files) × old d × TornIn file at n d c

-- each new one comes from an old one
abbrev pub Tears : ℕ → ℕ → ℕ → (Files → Type 0) → (Files → Type 0) → Type 0
Tears file at n old new = (c : Files) → new c → TornFrom file at n old c

-- of that file a crash leaves what reads give
abbrev pub Settled : ℕ → Option Files → (Files → Type 0) → Type 0
Settled file files images = (c : Files) → images c → (f : Files) × Is files f × (file_of file c ≡ file_of file f)

-- of these calls one failed: those before it were done, and none behind it was tried. It is there as failed, or wasn't
-- tried itself, for want of memory or on a machine that has stopped.
pub record BreaksOff (calls : List Call) (made : List Made) : Type 0 where
  pub front : List Call
  pub call : Call
  pub rest : List Call
  pub split : calls ≡ front ++ call ∷ rest
  pub is : (made ≡ map done front ++ failed call ∷ []) ⊎ (made ≡ map done front)

abbrev pub IsPrefix : {A : Type 0} → List A → List A → Type 0
IsPrefix {A} xs ys = (rest : List A) × (xs ++ rest ≡ ys)

-- the calls so far were those of the old machine, or some more of those that the new one has made
abbrev pub Between : Told → Told → List Made → Type 0
Between old new l =
    (before after : List Made) × (old.calls ≡ Some before) × (new.calls ≡ Some after) × IsPrefix before l × IsPrefix l after

-- time goes on, and for each number of calls that it adds P holds. What is past stays.
pub record Elapses (old new : Told) (P : List Made → Files → Type 0) : Type 0 where
  pub adds : (l : List Made) (c : Files) → new.past l c → old.past l c ⊎ P l c
  pub keeps : (l : List Made) (c : Files) → old.past l c → new.past l c

-- nothing but counts, listener, connections and clock changes
pub record Still (old new : Told) : Type 0 where
  pub files : new.files ≡ old.files
  pub images : Within old.images new.images
  pub calls : new.calls ≡ old.calls
  pub time : Elapses old new (λ l c. ⊥)

-- listener, connections and clock are as before
pub record Apart (old new : Told) : Type 0 where
  pub link : new.link ≡ old.link
  pub clock : new.clock ≡ old.clock

-- the calls so far are these, and a crash might leave that
abbrev pub Now : Told → List Made → Files → Type 0
Now told l c = (told.calls ≡ Some l) × told.images c

-- since there were that many calls: a crash might have left that when this had been sent
abbrev pub MayLeave : Told → ℕ → List Call → Files → Type 0
MayLeave told since sent c = (l : List Made) × (since ≤ length l) × (sent_by l ≡ sent) × told.past l c

pub a_gap_reads_as_zeros : written 2 (7 ∷ []) (1 ∷ []) ≡ 1 ∷ 0 ∷ 7 ∷ []
a_gap_reads_as_zeros = refl

pub a_range_is_replaced : written 1 (7 ∷ []) (1 ∷ 2 ∷ 3 ∷ []) ≡ 1 ∷ 7 ∷ 3 ∷ []
a_range_is_replaced = refl

pub a_failed_post_is_not_sent : sent_by (done (Send (1 ∷ [])) ∷ failed (Post [] 80 []) ∷ done (Sync 0) ∷ []) ≡ Send (1 ∷ []) ∷ []
a_failed_post_is_not_sent = refl
