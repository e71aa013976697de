-- What a node's machine tells of the connection that is open, and what reading from it leaves alone.
use Rattle.std.specs.Prelude.{ℕ, List, Option, ◌≡◌, ◌<◌, IfSome, length, option_map}
use Rattle.site_model.specs.Told.{Link, Still, Told}

abbrev pub coming : Link → List ℕ
coming link = link.open_bytes

abbrev pub behind : Link → List (List ℕ)
behind link = link.waiting

-- what the connection still brings, where the machine tells that
unfoldable pub left : Told → Option (List ℕ)
left told = option_map coming told.link

abbrev pub waiting : Told → Option (List (List ℕ))
waiting told = option_map behind told.link

-- it was to bring something, where the machine tells what
abbrev pub HasCome : Option (List ℕ) → Type 0
HasCome left = IfSome left (λ input. 0 < length input)

-- reading takes of the connection's bytes, may raise the count of its failures, and changes nothing else
pub record Stays (old new : Told) : Type 0 where
  pub still : Still old new
  pub clock : new.clock ≡ old.clock
  pub waiting : waiting new ≡ waiting old
  pub counts : new.counts ≡ record old.counts { receive = new.counts.receive }

-- what has stayed since some machine stays
abbrev pub Leaves : {S : Type 0} → (S → Told) → S → S → Type 0
Leaves {S} told old new = (first : S) → Stays (told first) (told old) → Stays (told first) (told new)
