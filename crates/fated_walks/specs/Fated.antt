-- Steps with the fates that their calls had, and what a walk through them comes to.
use Rattle.std.specs.Prelude.{ℕ, List, [], ◌∷◌, ◌++◌, ◌-◌, ◌<◌, Option, Some, None, Bool, true, false, ◌≡◌, if◌then◌else◌, map}
use Rattle.std.specs.List.{AllByRecursion}
use Rattle.at_base.specs.declared.outs.Out.{Out}
use Rattle.at_base.specs.declared.outs.Out.TheVariants as outs
use Rattle.at_base.specs.declared.outs.Post.{Post}
use Rattle.at_base.specs.declared.record.Record.{Record}
use Rattle.at_model.specs.Book.{Book}
use Rattle.at_model.specs.Step.{Outcome, Plan, items_of}
use Rattle.at_model.specs.World.{fate, fates_left}
use Rattle.interposition.specs.Due.{due_outcomes}
use Rattle.world_laws.specs.Walks.{first_answer}
use Rattle.world_laws.specs.declared.step_outs.Answer.{Answer}
use Rattle.world_laws.specs.declared.step_outs.Taken.{Taken}

-- an answer or a post, and whether it left
pub record Way : Type 0 where
  pub out : Out
  pub went : Bool

-- A step: its record, and whether that stands; what it came to; and how the first of its outs, or all, fared.
pub record Fated : Type 0 where
  pub entry : Option Record
  pub landed : Bool
  pub outcome : Outcome
  pub ways : List Way

abbrev pub out_of : Way → Out
out_of w = w.out

abbrev pub went_of : Way → Bool
went_of w = w.went

-- a record has one fate, and so has each answer and post
abbrev pub record_fates : Option Record → Bool → List Bool
record_fates None landed = []
record_fates (Some r) landed = landed ∷ []

abbrev pub fates_of : Fated → List Bool
fates_of f = record_fates f.entry f.landed ++ map went_of f.ways

abbrev pub all_fates : List Fated → List Bool
all_fates [] = []
all_fates (f ∷ fs) = fates_of f ++ all_fates fs

-- the record, where it stands
abbrev pub stands_by : Option Record → Bool → List Record
stands_by None landed = []
stands_by (Some r) landed = if landed then r ∷ [] else []

abbrev pub records_of : List Fated → List Record
records_of [] = []
records_of (f ∷ fs) = stands_by f.entry f.landed ++ records_of fs

-- the book behind these steps
abbrev pub book_of : Book → List Fated → Book
book_of b [] = b
book_of b (f ∷ fs) = book_of f.outcome.book fs

abbrev pub post_by : Bool → Out → List Post
post_by true (outs.Post p) = p ∷ []
post_by true (outs.Answer status reply) = []
post_by false out = []

-- those that left
abbrev pub posts_of : List Way → List Post
posts_of [] = []
posts_of (w ∷ ws) = post_by w.went w.out ++ posts_of ws

abbrev pub all_posts : List Fated → List Post
all_posts [] = []
all_posts (f ∷ fs) = posts_of f.ways ++ all_posts fs

abbrev pub answered_by : Option Answer → Out → Option Answer
answered_by first (outs.Post p) = first
answered_by first (outs.Answer status reply) = first_answer first (record { status = status; reply = reply })

-- the first answer, whether it left or not
abbrev pub answer_in : Option Answer → List Way → Option Answer
answer_in first [] = first
answer_in first (w ∷ ws) = answer_in (answered_by first w.out) ws

-- what it gives
abbrev pub taken_of : Fated → Taken
taken_of f = record { effects = f.outcome.effects; answer = answer_in None f.ways; posts = posts_of f.ways }

-- A list of fates, of which a missing one is yes, begins with these.
abbrev pub StartsWith : List Bool → List Bool → Type 0
StartsWith [] all = Unit {0}
StartsWith (f ∷ fs) all = (fate all ≡ f) × StartsWith fs (fates_left all)

-- a stop comes behind so many fates and at least one more, or there is none
abbrev pub IsBeyond : Option ℕ → ℕ → Type 0
IsBeyond None n = Unit {0}
IsBeyond (Some until) n = n < until

-- how many are left before it
abbrev pub left_before : Option ℕ → ℕ → Option ℕ
left_before None n = None
left_before (Some until) n = Some (until - n)

-- It is what is planned, where its record stands or doesn't; a step without a record counts as one whose record stands.
pub record IsPlanned (p : Plan) (f : Fated) : Type 0 where
  pub entry : f.entry ≡ p.entry
  pub sure : f.entry ≡ None → f.landed ≡ true
  pub outcome : f.outcome ≡ (if f.landed then p.landed else p.absent)

-- it came to that, and has no record
pub record IsUnrecorded (o : Outcome) (f : Fated) : Type 0 where
  pub entry : f.entry ≡ None
  pub landed : f.landed ≡ true
  pub outcome : f.outcome ≡ o

abbrev pub AreUnrecorded : List Outcome → List Fated → Type 0
AreUnrecorded [] [] = Unit {0}
AreUnrecorded [] (f ∷ fs) = ⊥
AreUnrecorded (o ∷ os) [] = ⊥
AreUnrecorded (o ∷ os) (f ∷ fs) = IsUnrecorded o f × AreUnrecorded os fs

-- These are the first of the steps of the items that are due, and what is left.
pub record AreFirstDue (now : ℕ) (b : Book) (left : List Outcome) (fs : List Fated) : Type 0 where
  pub done : List Outcome
  pub are : AreUnrecorded done fs
  pub all : done ++ left ≡ due_outcomes now (items_of b) b

-- all its outs fared so
abbrev pub IsWhole : Fated → Type 0
IsWhole f = map out_of f.ways ≡ f.outcome.outs

abbrev pub AreWhole : List Fated → Type 0
AreWhole [] = Unit {0}
AreWhole (f ∷ fs) = IsWhole f × AreWhole fs

-- the first of its outs did
pub record IsPart (f : Fated) : Type 0 where
  pub rest : List Out
  pub all : map out_of f.ways ++ rest ≡ f.outcome.outs

-- Steps the last of which is cut off: those before it are whole, and of it at least the record or one out had a fate.
abbrev pub AreCut : List Fated → Type 0
AreCut [] = ⊥
AreCut (f ∷ []) = IsPart f × (fates_of f ≡ [] → ⊥)
AreCut (f ∷ (g ∷ gs)) = IsWhole f × AreCut (g ∷ gs)

-- its record stands, and every answer and every post left
abbrev pub HasLeft : Way → Type 0
HasLeft way = way.went ≡ true

abbrev pub AllLeft : List Fated → Type 0
AllLeft fs = AllByRecursion (λ (f : Fated). (f.landed ≡ true) × AllByRecursion HasLeft f.ways) fs
