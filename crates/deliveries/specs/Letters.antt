-- The bytes by which the posts of a node's calls left.
use Rattle.std.specs.Prelude.{ℕ, List, [], ◌∷◌, ◌++◌, ◌≡◌, false, option_map, Some}
use Rattle.std.specs.List.{AllByRecursion}
use Rattle.addressing.specs.declared.post_to.PostTo.{PostTo}
use Rattle.at_base.specs.Numbers.{Numbers}
use Rattle.at_base.specs.declared.event.Local.{Local}
use Rattle.at_base.specs.declared.outs.Out.{Out}
use Rattle.at_base.specs.declared.outs.Out.TheVariants as outs
use Rattle.at_base.specs.declared.outs.Post.{Post}
use Rattle.node_at.specs.Doings.{Doing, deeds_of}
use Rattle.node_at.specs.Endings.{TakesTurn}
use Rattle.node_at.specs.Locals.{Asked}
use Rattle.node_at.specs.Moments.{sent_of}
use Rattle.node_at.specs.State.{State}
use Rattle.node_at.specs.Texts.{IsPosted, Leaving, goes_to}
use Rattle.node_at.specs.TurnText.{TurnStep}
use Rattle.node_at.specs.declared.local.Locally.{Locally}
use Rattle.node_at.specs.declared.local.Locally.TheVariants as answers
use Rattle.node_at.specs.declared.role.Role.{Role}
use Rattle.node_at.specs.declared.shrink.Shrunk.{Shrunk}
use Rattle.node_at.specs.declared.turn.Turned.{Turned}
use Rattle.node_at.specs.declared.turn.Turned.TheVariants as turneds
use Rattle.node_worlds.specs.Crashes.{IsNoPost}
use Rattle.node_worlds.specs.Lives.{Requests}
use Rattle.node_worlds.specs.Machines.{Begins}
use Rattle.node_worlds.specs.Nets.{begun_in, doings_in, steps_in}
use Rattle.node_worlds.specs.SentPosts.{AreSent, Sent}
use Rattle.site_model.specs.Told.{Call, Made, Told, sent_by}

-- those that are posts, in order
abbrev pub posts_in : List Call → List Call
posts_in [] = []
posts_in (Call.Post host port bytes ∷ rest) = Call.Post host port bytes ∷ posts_in rest
posts_in (Call.Write file at bytes ∷ rest) = posts_in rest
posts_in (Call.Sync file ∷ rest) = posts_in rest
posts_in (Call.Send bytes ∷ rest) = posts_in rest

-- a post left by this call, to where its endpoint leads
pub record IsLetter (p : Post) (c : Call) : Type 0 where
  pub to : PostTo
  pub goes : goes_to p.to ≡ Some to
  pub call : IsPosted to p c

-- one by one
abbrev pub AreLetters : List Post → List Call → Type 0
AreLetters [] [] = Unit {0}
AreLetters [] (c ∷ cs) = ⊥
AreLetters (p ∷ ps) [] = ⊥
AreLetters (p ∷ ps) (c ∷ cs) = IsLetter p c × AreLetters ps cs

-- a post's call is its letter, and that of an answer posts nothing
abbrev pub IsCalled : Out → Call → Type 0
IsCalled (outs.Post p) c = IsLetter p c
IsCalled (outs.Answer status reply) c = IsNoPost c

-- the call of each out is its own
abbrev pub AreCalled : List Leaving → Type 0
AreCalled xs = AllByRecursion (λ (x : Leaving). IsCalled x.out x.call) xs

abbrev pub AllAreCalled : List TurnStep → Type 0
AllAreCalled steps = AllByRecursion (λ (x : TurnStep). AreCalled x.leaving) steps

-- calls were added
pub record Adds (old new : Told) : Type 0 where
  pub made : List Made
  pub calls : new.calls ≡ option_map (λ l. l ++ made) old.calls

-- these were added, and by them these posts left
pub record Posts (ps : List Post) (old new : Told) : Type 0 where
  pub made : List Made
  pub calls : new.calls ≡ option_map (λ l. l ++ made) old.calls
  pub letters : AreLetters ps (posts_in (sent_by made))

-- What a call of a node adds to the calls of its machine, and the letters among them.
pub record CallsPost {S : Type 0} (told : S → Told) : Type 0 where
  -- a turn that doesn't halt
  pub turns : (result : Turned) (role : Role) (shrunk : Shrunk) (n m : State) (s t : S) (turn : TakesTurn told result role shrunk n m s t) → (result ≡ turneds.Halted → ⊥)
      → (ps : List Post)
      × AreSent (steps_in turn.first role n turn.node (told s) (told turn.behind) turn.steps) (doings_in turn.first role n turn.node (told s) (told turn.behind) turn.steps) ps
      × Posts ps (told s) (told t)
  -- a request that is done
  pub requests : (id : Numbers) (n m : State) (l : Local) (s t : S) (done : Asked (answers.Done id) n m l (told s) (told t))
      → (ps : List Post) × Sent done.3.3.leaving done.3.3.went.made ps × Posts ps (told s) (told t)
  -- Whatever they come to. Of the journal of a turn's node it must be sure what stands, as it is of a node that hasn't halted.
  pub turns_add : (result : Turned) (role : Role) (shrunk : Shrunk) (n m : State) (s t : S) → n.journal.unsure ≡ false → TakesTurn told result role shrunk n m s t → Adds (told s) (told t)
  pub requests_add : (answer : Locally) (n m : State) (l : Local) (s t : S) → n.halted ≡ false → Requests told answer n m l s t → Adds (told s) (told t)
  pub starts_add : (base : List ℕ) (limit : ℕ) (s t : S) → Begins base limit (told s) (told t) → Adds (told s) (told t)
  -- what of a turn's steps, or of a request's, was sent before it was cut off
  pub begun_called : (result : Turned) (role : Role) (shrunk : Shrunk) (n m : State) (s t : S) (turn : TakesTurn told result role shrunk n m s t)
      → AllAreCalled (begun_in turn.first role n turn.node (told s) (told turn.behind) turn.steps)
  pub sent_letters : (steps : List TurnStep) (doings : List Doing) (ps : List Post) → AllAreCalled steps → AreSent steps doings ps
      → AreLetters ps (posts_in (sent_of (deeds_of doings)))
  pub one_letters : (xs : List Leaving) (made : List Made) (ps : List Post) → AreCalled xs → Sent xs made ps → AreLetters ps (posts_in (sent_by made))
