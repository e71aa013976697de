-- One line or turn of a session, in the code's words.
use Rattle.std.specs.Prelude.{ℕ, List, ◌≡◌, ◌≤◌, ◌<◌, ◌⊎◌, ◌+◌, Bool, Option, Some, None, length, take}
use Rattle.std.specs.Io.KnownBytes.{Appends}
use Rattle.at_base.specs.Numbers.{Numbers}
use Rattle.node_at.specs.State.{State}
use Rattle.node_at.specs.declared.role.Role.{Role}
use Rattle.schedules.specs.declared.initiator_line.InitiatorLine.TheVariants as lines
use Rattle.site_model.specs.Told.{Told}
use Rattle.serving.specs.declared.answer.Answer.{Answer}
use Rattle.serving.specs.declared.service_end.Ended.{Ended}
use Rattle.serving.specs.declared.service_end.Ended.TheVariants as endings
use Rattle.serving.specs.declared.session.Session.{Session}
use Rattle.serving.specs.Notes.{Item, Notes, noted}
use Rattle.serving.specs.Requests.{ended_by, printed, request_of}
use Rattle.serving.specs.Runs.{Does}

-- what a session has noted
abbrev pub notes_of : Session → Notes
notes_of s = record { made = s.made.items; unmet = s.unmet.items; met = s.met; waited = s.waited }

-- there is room for what an item adds: behind these activities, of which so many fit, and behind those of which a work was refused
abbrev pub HasRoom : Item → List (Option Numbers) → ℕ → List ℕ → ℕ → Type 0
HasRoom (Some (lines.Begin coordinator ms)) made most unmet most_unmet = length made + 1 ≤ most
HasRoom (Some (lines.Interpose activity coordinator)) made most unmet most_unmet = length made + 1 ≤ most
HasRoom (Some (lines.Work activity service kind vote key value)) made most unmet most_unmet = length unmet + 1 ≤ most_unmet
HasRoom other made most unmet most_unmet = Unit {0}

-- a beginning of a text was printed
abbrev pub Cut : List ℕ → Option (List ℕ) → Option (List ℕ) → Type 0
Cut text before after = (count : ℕ) × ((count ≤ length text) × Appends before after (take count text))

-- less than all of it was
abbrev pub Short : List ℕ → Option (List ℕ) → Option (List ℕ) → Type 0
Short text before after = (count : ℕ) × ((count < length text) × Appends before after (take count text))

-- it was printed, and this is how it ends behind it
abbrev pub Whole : Bool → Answer → Option Ended → List ℕ → Option (List ℕ) → Option (List ℕ) → Type 0
Whole met answer ended text before after = (ended_by met answer ≡ ended) × Appends before after text

-- what became of what an answer prints
abbrev pub Finishes : Option Ended → Bool → Answer → List ℕ → Option (List ℕ) → Option (List ℕ) → Type 0
Finishes None met answer text before after = Whole met answer None text before after
Finishes (Some endings.NoMemory) met answer text before after = Whole met answer (Some endings.NoMemory) text before after ⊎ Short text before after
Finishes (Some endings.SinkFailed) met answer text before after = Cut text before after
Finishes (Some endings.Done) met answer text before after = Whole met answer (Some endings.Done) text before after
Finishes (Some endings.DiskFailed) met answer text before after = Whole met answer (Some endings.DiskFailed) text before after
Finishes (Some endings.Halted) met answer text before after = Whole met answer (Some endings.Halted) text before after
Finishes (Some endings.BadJournal) met answer text before after = Whole met answer (Some endings.BadJournal) text before after
Finishes (Some endings.NoJournal) met answer text before after = Whole met answer (Some endings.NoJournal) text before after
Finishes (Some endings.ListenerFailed) met answer text before after = Whole met answer (Some endings.ListenerFailed) text before after
Finishes (Some endings.Spent) met answer text before after = Whole met answer (Some endings.Spent) text before after
Finishes (Some endings.Full) met answer text before after = Whole met answer (Some endings.Full) text before after
Finishes (Some endings.Unmet) met answer text before after = Whole met answer (Some endings.Unmet) text before after

-- An item was done, and what it prints was.
pub record Goes {S : Type 0} (told : S → Told) (role : Role) (item : Item) (result : Option Ended) (notes later : Notes) (n m : State) (s t : S) (before after : Option (List ℕ)) : Type 0 where
  pub answer : Answer
  pub does : Does told role (request_of notes item) answer n m s t
  pub finishes : Finishes result (noted notes item answer m.effects).met answer (printed answer m.effects) before after
  pub grown : result ≡ None → later ≡ noted notes item answer m.effects

-- There was no memory for what it asks, and nothing was done.
pub record Idles {S : Type 0} (result : Option Ended) (n m : State) (s t : S) (before after : Option (List ℕ)) : Type 0 where
  pub ended : result ≡ Some endings.NoMemory
  pub node : m ≡ n
  pub site : t ≡ s
  pub sink : after ≡ before

abbrev pub Takes : {S : Type 0} → (S → Told) → Role → Item → Option Ended → Notes → Notes → State → State → S → S → Option (List ℕ) → Option (List ℕ) → Type 0
Takes told role item result notes later n m s t before after =
    Goes told role item result notes later n m s t before after ⊎ Idles result n m s t before after

-- a text was printed, and it ends so; or a beginning of it, not all where memory was wanted
abbrev pub Tells : List ℕ → Ended → Ended → Option (List ℕ) → Option (List ℕ) → Type 0
Tells text ended result before after = ((result ≡ ended) × Appends before after text) ⊎ (((result ≡ endings.NoMemory) × Short text before after) ⊎ ((result ≡ endings.SinkFailed) × Cut text before after))
