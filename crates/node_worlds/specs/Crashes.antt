-- What a crash in a call of a node leaves.
use Rattle.std.specs.Prelude.{ℕ, List, [], ◌∷◌, ◌++◌, ◌≡◌, ◌<◌, ◌⊎◌, Some, None}
use Rattle.std.specs.List.{AllByRecursion}
use Rattle.at_base.specs.declared.event.Event.TheVariants as events
use Rattle.at_base.specs.declared.event.Local.{Local}
use Rattle.at_base.specs.declared.outs.Post.{Post}
use Rattle.at_base.specs.declared.record.Record.{Record}
use Rattle.at_model.specs.Book.{Book}
use Rattle.at_model.specs.Recovery.{last_incarnation}
use Rattle.at_model.specs.World.{nth, Hosts}
use Rattle.site_model.specs.Told.{Told, Call, Files, Is, Made, sent_by}
use Rattle.node_at.specs.Doings.{Doing, deeds_of}
use Rattle.node_at.specs.Endings.{TakesTurn}
use Rattle.node_at.specs.Moments.{sent_of}
use Rattle.node_at.specs.Starts.{start_after}
use Rattle.node_at.specs.State.{State}
use Rattle.node_at.specs.Steps.{if_landed}
use Rattle.node_at.specs.TurnText.{IsStep, TurnStep}
use Rattle.node_at.specs.declared.local.Locally.{Locally}
use Rattle.node_at.specs.declared.role.Role.{Role}
use Rattle.node_at.specs.declared.shrink.Shrunk.{Shrunk}
use Rattle.node_at.specs.declared.turn.Turned.{Turned}
use Rattle.node_worlds.specs.Lives.{Requests}
use Rattle.node_worlds.specs.Machines.{Begins, IsLeft, RunsOn}
use Rattle.node_worlds.specs.Nets.{Net, Place, begun_in}
use Rattle.node_worlds.specs.Restarts.{StandsFor}
use Rattle.node_worlds.specs.SentPosts.{AreSent, Sent, recorded, records_by}

-- it posts nothing
abbrev pub IsNoPost : Call → Type 0
IsNoPost (Call.Post host port bytes) = ⊥
IsNoPost other = Unit {0}

-- Of the steps that a turn began the first were done: the files that are left stand for their records, and what was sent by then is,
-- beside answers, what they sent.
pub record IsCutOff (rs : List Record) (begun : List TurnStep) (old : Told) (l : List Made) (c : Files) : Type 0 where
  pub front : List TurnStep
  pub rest : List TurnStep
  pub doings : List Doing
  pub posts : List Post
  pub of : begun ≡ front ++ rest
  pub sent : AreSent front doings posts
  pub stands : StandsFor (rs ++ recorded front) c
  pub before : List Made
  pub was : old.calls ≡ Some before
  pub said : List Call
  pub no_posts : AllByRecursion IsNoPost said
  pub calls : sent_by l ≡ sent_by before ++ (said ++ sent_of (deeds_of doings))

-- Nothing of a request was done.
pub record IsUndone (rs : List Record) (old : Told) (l : List Made) (c : Files) : Type 0 where
  pub stands : StandsFor rs c
  pub before : List Made
  pub was : old.calls ≡ Some before
  pub calls : sent_by l ≡ sent_by before

-- Its step was begun: its record stands or doesn't, and some of its outs were sent.
pub record IsBegun (rs : List Record) (b : Book) (request : Local) (old : Told) (l : List Made) (c : Files) : Type 0 where
  pub now : ℕ
  pub step : TurnStep
  pub doing : Doing
  pub posts : List Post
  pub is : IsStep b (events.Local request) now step
  pub sent : Sent step.leaving doing.made posts
  pub stands : StandsFor (rs ++ records_by (if_landed step.landed step.entry)) c
  pub before : List Made
  pub was : old.calls ≡ Some before
  pub calls : sent_by l ≡ sent_by before ++ sent_by doing.made

-- Whatever a crash leaves at any moment of a call, or between calls, it stands for what a journal was told by steps that were begun in
-- order, and what was sent is theirs: so a net on machines goes on behind each crash.
pub record CrashesAreMet {S : Type 0} (told : S → Told) : Type 0 where
  pub starts : (hosts : Hosts) (u : Net) (ls : ℕ → S) (i : ℕ) (p : Place) (limit : ℕ) (t : S) (l : List Made) (c f : Files) → RunsOn told hosts u ls → nth i u.places ≡ Some p
      → p.node ≡ None → Is (told (ls i)).files f → Begins (hosts.base_of i) limit (told (ls i)) (told t) → IsLeft (told (ls i)) (told t) l c
      → StandsFor p.records c ⊎ ((last_incarnation p.records < 4294967295) × StandsFor (p.records ++ start_after p.records ∷ []) c)
  pub turns : (hosts : Hosts) (u : Net) (ls : ℕ → S) (i : ℕ) (p : Place) (n m : State) (result : Turned) (role : Role) (shrunk : Shrunk) (t : S) (l : List Made) (c : Files)
      → RunsOn told hosts u ls → nth i u.places ≡ Some p → p.node ≡ Some n → (turn : TakesTurn told result role shrunk n m (ls i) t) → IsLeft (told (ls i)) (told t) l c
      → IsCutOff p.records (begun_in turn.first role n turn.node (told (ls i)) (told turn.behind) turn.steps) (told (ls i)) l c
  pub requests : (hosts : Hosts) (u : Net) (ls : ℕ → S) (i : ℕ) (p : Place) (n m : State) (answer : Locally) (request : Local) (t : S) (l : List Made) (c : Files)
      → RunsOn told hosts u ls → nth i u.places ≡ Some p → p.node ≡ Some n → Requests told answer n m request (ls i) t → IsLeft (told (ls i)) (told t) l c
      → IsUndone p.records (told (ls i)) l c ⊎ IsBegun p.records n.book request (told (ls i)) l c
  pub between : (hosts : Hosts) (u : Net) (ls : ℕ → S) (i : ℕ) (p : Place) (c : Files) → RunsOn told hosts u ls → nth i u.places ≡ Some p → (told (ls i)).images c → StandsFor p.records c
