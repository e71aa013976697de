-- How the bytes of a file begin.
use Rattle.std.specs.Prelude.{ℕ, List, [], ◌∷◌, ◌++◌, ◌+◌, ◌≡◌, ◌≢◌, ◌≤◌, ◌<◌, ◌⊎◌, None, length, map}
use Rattle.journal_at.specs.declared.read.BodiesFault.{BodiesFault}
use Rattle.journal_at.specs.declared.read.BodiesFault.TheVariants.{NoMemory, Bad as BadAt}
use Rattle.journal_at.specs.declared.file_bodies.Bodies.{Bodies}
use Rattle.journal_at.specs.declared.read.Placed.{Placed}
use Rattle.journal_at.specs.declared.read.Frame.{Frame}
use Rattle.journal_at.specs.declared.read.Frame.TheVariants.{End, Bad, Body}
use Rattle.journal_at.specs.Format.{AreBodies, AreInPlace, Closed, IsBody, behind, frames, mark_of}

-- bodies of their sizes, up to a gate other than 1 that is there
pub record Framed (bodies : List (List ℕ)) (f : List ℕ) : Type 0 where
  pub sized : AreBodies bodies
  pub closed : Closed bodies f

pub record IsShut (f : List ℕ) : Type 0 where
  pub gate : ℕ
  pub rest : List ℕ
  pub shut : gate ≢ 1
  pub is : f ≡ gate ∷ rest

abbrev pub NotFramed : List ℕ → Type 0
NotFramed f = (bodies : List (List ℕ)) → Framed bodies f → ⊥

pub record Begins (body after f : List ℕ) : Type 0 where
  pub sized : IsBody body
  pub is : f ≡ 1 ∷ (behind body ++ after)

-- no gate that is shut, and no body with a gate behind it
pub record NoFrame (f : List ℕ) : Type 0 where
  pub unshut : IsShut f → ⊥
  pub none : (body after : List ℕ) → Begins body after f → 1 ≤ length after → ⊥

abbrev pub Says : Frame → List ℕ → Type 0
Says End f = IsShut f
Says Bad f = NoFrame f
Says (Body body after) f = Begins body.now after.now f

abbrev pub body_of : Placed → List ℕ
body_of placed = placed.body.items

abbrev pub bodies_of : List Placed → List (List ℕ)
bodies_of placed = map body_of placed

-- each gate stands at its place
abbrev pub ArePlaced : ℕ → List Placed → Type 0
ArePlaced at [] = Unit {0}
ArePlaced at (placed ∷ rest) = (placed.gate ≡ at) × ArePlaced (at + (5 + length (body_of placed))) rest

abbrev pub listed_in : Bodies → List (List ℕ)
listed_in bodies = bodies_of bodies.items.items

-- a mark begins there, behind other bodies
pub record IsStray (front : List (List ℕ)) (rest : List ℕ) : Type 0 where
  pub body : List ℕ
  pub after : List ℕ
  pub begins : Begins body after rest
  pub behind : front ≢ []
  pub mark : mark_of body ≢ None

-- bodies in their places, and then at that place neither a shut gate nor a body that may stand there
pub record IsBadAt (place : ℕ) (f : List ℕ) : Type 0 where
  pub front : List (List ℕ)
  pub rest : List ℕ
  pub long : 1 < length f
  pub sized : AreBodies front
  pub placed : AreInPlace front
  pub is : f ≡ frames front ++ rest
  pub at : place ≡ length (frames front)
  pub bad : NoFrame rest ⊎ IsStray front rest

-- why they weren't read
abbrev pub IsWhy : BodiesFault → List ℕ → Type 0
IsWhy NoMemory f = Unit {0}
IsWhy (BadAt place) f = IsBadAt place f

-- so far these bodies were read, and the rest holds what is left
pub record IsRead (whole : List ℕ) (so_far : List (List ℕ)) (rest : List ℕ) : Type 0 where
  pub sized : AreBodies so_far
  pub is : whole ≡ frames so_far ++ rest
  pub on : (bodies : List (List ℕ)) → Framed bodies whole → (more : List (List ℕ)) × (bodies ≡ so_far ++ more) × Framed more rest
  pub back : (more : List (List ℕ)) → Framed more rest → Framed (so_far ++ more) whole
  pub placed : AreInPlace so_far

-- a mark behind others
abbrev pub IsMisplaced : BodiesFault → ℕ → List (List ℕ) → List ℕ → Type 0
IsMisplaced NoMemory gate bodies body = Unit {0}
IsMisplaced (BadAt place) gate bodies body = (place ≡ gate) × (bodies ≢ []) × (mark_of body ≢ None)
