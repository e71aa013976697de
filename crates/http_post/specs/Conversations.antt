-- What taking a request does to a node's machine, and what is said on the connection meanwhile.
use Rattle.std.specs.Prelude.{ℕ, List, [], ◌∷◌, ◌++◌, ◌≡◌, ◌⊎◌, ◌≤◌, Option, Some, Bool, true, false, Result, Ok, Err, ⊤, codes, drop, length, option_map, take}
use Rattle.std.specs.Io.KnownBytes.{Consumes}
use Rattle.httparse.specs.Grammar.{HasNoRequest, ReadsRequest, RequestHead, print_request}
use Rattle.site_model.specs.Counts.{Rose}
use Rattle.site_model.specs.Site.{Counts}
use Rattle.site_model.specs.Told.{Elapses, Link, Made, Told, Within, done, failed}
use Rattle.site_model.specs.Told.Call.{Send}
use Rattle.http_post.specs.Causes.{HasLinkCause}
use Rattle.http_post.specs.Connections.{Stays, left, waiting}
use Rattle.http_post.specs.Heads.{expects, framing_of}
use Rattle.http_post.specs.RawBytes.{IsRaw}
use Rattle.http_post.specs.Requests.{Asks, most_head, path_of}
use Rattle.http_post.specs.declared.framing.Framing.{Framing}
use Rattle.http_post.specs.declared.refusal.HttpRefusal.{HttpRefusal}
use Rattle.http_post.specs.declared.refusal.HttpRefusal.TheVariants as refusals

-- the interim line, and the empty line that ends it (RFC 9110, section 15.2.1)
unfoldable pub interim : List ℕ
interim = codes "HTTP/1.1 100 Continue\r\n\r\n"

-- whether a client that sends these bytes waits for the interim line: its head draws no refusal, and expects it
pub data Waits (input : List ℕ) : Bool → Type 0 where
  has_none : HasNoRequest (take most_head input) → Waits input false
  is_refused : {refusal : HttpRefusal} (h : RequestHead) (rest : List ℕ)
      → ReadsRequest (take most_head input) h rest → framing_of h ≡ Err refusal → Waits input false
  is_framed : (h : RequestHead) (rest : List ℕ) (framing : Framing)
      → ReadsRequest (take most_head input) h rest → framing_of h ≡ Ok framing → Waits input (expects h)

-- the calls that say it
abbrev pub said : Bool → List Made
said true = done (Send interim) ∷ []
said false = []

-- the call that failed to
abbrev pub unsaid : List Made
unsaid = failed (Send interim) ∷ []

-- the calls grew by these. Files, other connections and clock are as before, and what a crash may leave is no more.
pub record Hears (made : List Made) (old new : Told) : Type 0 where
  pub files : new.files ≡ old.files
  pub images : Within old.images new.images
  pub calls : new.calls ≡ option_map (λ l. l ++ made) old.calls
  pub time : Elapses old new (λ l c. (new.calls ≡ Some l) × old.images c)
  pub clock : new.clock ≡ old.clock
  pub waiting : waiting new ≡ waiting old
  pub counts : new.counts ≡ record old.counts { receive = new.counts.receive; link = new.counts.link }

-- a refusal that is no failure of the machine
abbrev pub IsOfRequest : HttpRefusal → Type 0
IsOfRequest refusals.Link = ⊥
IsOfRequest refusals.NoMemory = ⊥
IsOfRequest refusal = ⊤

-- a request, or such a refusal
abbrev pub IsAnswered : {T : Type 0} → Result T HttpRefusal → Type 0
IsAnswered (Ok x) = ⊤
IsAnswered (Err refusal) = IsOfRequest refusal

-- saying it failed, by a call or before one
abbrev pub IsUnsaid : Bool → List Made → Type 0
IsUnsaid false made = ⊥
IsUnsaid true made = (made ≡ []) ⊎ (made ≡ unsaid)

-- what saying it came to: it was said where the client waits for it, unless sending failed, which is counted
abbrev pub IsSaid : Bool → ℕ → ℕ → List Made → Type 0
IsSaid waits before now made = (made ≡ said waits) ⊎ (IsUnsaid waits made × Rose before now)

-- The interim line was said where the client waits for it, and not elsewhere, unless sending it failed. Where the machine
-- failed in reading the head, or had no memory, perhaps it wasn't tried.
pub record Says {T : Type 0} (result : Result T HttpRefusal) (old new : Told) (made : List Made) : Type 0 where
  pub once : (made ≡ []) ⊎ ((made ≡ said true) ⊎ (made ≡ unsaid))
  pub asked : (l : Link) → old.link ≡ Some l → (made ≡ []) ⊎ Waits l.open_bytes true
  pub exact : IsAnswered result → (l : Link) → old.link ≡ Some l → (waits : Bool) × (Waits l.open_bytes waits × IsSaid waits old.counts.link new.counts.link made)

-- the connection failed exactly where receiving did; the count of sends that failed doesn't fall
pub record HasCauses {T : Type 0} (old new : Counts) (result : Result T HttpRefusal) : Type 0 where
  pub receive : HasLinkCause old.receive new.receive result
  pub link : old.link ≤ new.link

-- no more was taken than a head may have
abbrev pub TookHead : Option (List ℕ) → Option (List ℕ) → Type 0
TookHead old now = (bytes : List ℕ) × (length bytes ≤ most_head × Consumes old now bytes)

-- what was said was said before anything more was read
pub record Speaks {S : Type 0} (told : S → Told) (old new : S) : Type 0 where
  pub after : S
  pub made : List Made
  pub line : Hears made (told old) (told after)
  pub same : left (told after) ≡ left (told old)
  pub body : Stays (told after) (told new)

-- at first the head was read, and no more than one may have
pub record InOrder {S : Type 0} (told : S → Told) (old new : S) : Type 0 where
  pub before : S
  pub head : Stays (told old) (told before)
  pub early : TookHead (left (told old)) (left (told before))
  pub speaks : Speaks told before new

-- a head was heard that draws no refusal, and these bytes with it
pub record IsHeard (input : List ℕ) (now : Option (List ℕ)) (path : List ℕ) (framing : Framing) (waits : Bool) (rest : List ℕ) : Type 0 where
  pub head : RequestHead
  pub more : List ℕ
  pub reads : ReadsRequest (take most_head input) head more
  pub framed : framing_of head ≡ Ok framing
  pub asked : path ≡ path_of head.target
  pub waiting : waits ≡ expects head
  pub raw : IsRaw now rest (drop (length (print_request head)) input)

-- the head draws that refusal
pub record IsRefused (input : List ℕ) (refusal : HttpRefusal) : Type 0 where
  pub asks : Asks input (Err refusal)
  pub waits : Waits input false
