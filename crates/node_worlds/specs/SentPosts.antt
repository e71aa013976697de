-- What a row of steps recorded, posted and accepted.
use Rattle.std.specs.Prelude.{ℕ, List, [], ◌∷◌, ◌++◌, ◌≡◌, ◌⊎◌, Option, Some, None, map}
use Rattle.at_base.specs.declared.outs.Out.{Out}
use Rattle.at_base.specs.declared.outs.Out.TheVariants as outs
use Rattle.at_base.specs.declared.outs.Post.{Post}
use Rattle.at_base.specs.declared.record.Record.{Record}
use Rattle.at_model.specs.Book.{Book}
use Rattle.at_model.specs.World.{Accepted, Hosts, accepted_in, new_nodes}
use Rattle.site_model.specs.Told.{Made, sent_by}
use Rattle.node_at.specs.Doings.{Doing}
use Rattle.node_at.specs.Steps.{if_landed}
use Rattle.node_at.specs.Texts.{Leaving, call_by}
use Rattle.node_at.specs.TurnText.{TurnStep}

abbrev pub records_by : Option Record → List Record
records_by None = []
records_by (Some r) = r ∷ []

-- the records that stand
abbrev pub recorded : List TurnStep → List Record
recorded [] = []
recorded (s ∷ ss) = records_by (if_landed s.landed s.entry) ++ recorded ss

abbrev pub also : Out → List Post → List Post
also (outs.Post p) ps = p ∷ ps
also (outs.Answer status reply) ps = ps

abbrev pub posts_of : List Leaving → List Post
posts_of [] = []
posts_of (x ∷ xs) = also x.out (posts_of xs)

-- some of these, in their order
abbrev pub AreSome : List Leaving → List Leaving → Type 0
AreSome [] ys = Unit {0}
AreSome (x ∷ xs) [] = ⊥
AreSome (x ∷ xs) (y ∷ ys) = ((x ≡ y) × AreSome xs ys) ⊎ AreSome (x ∷ xs) ys

-- Of the outs of a step these posts were sent: the calls that were done are those of some of its outs, in their order, and
-- these are the posts among them.
pub record Sent (leaving : List Leaving) (made : List Made) (ps : List Post) : Type 0 where
  pub went : List Leaving
  pub some : AreSome went leaving
  pub calls : sent_by made ≡ map call_by went
  pub posts : ps ≡ posts_of went

-- the same of a row of steps
abbrev pub AreSent : List TurnStep → List Doing → List Post → Type 0
AreSent [] [] ps = ps ≡ []
AreSent [] (d ∷ ds) ps = ⊥
AreSent (s ∷ ss) [] ps = ⊥
AreSent (s ∷ ss) (d ∷ ds) ps = (qs rs : List Post) × Sent s.leaving d.made qs × AreSent ss ds rs × (ps ≡ qs ++ rs)

-- The registrations that a step of this node accepted: those that its book behind it has beyond its book before it. A participant is the
-- item of the node whose base its address has.
abbrev pub accepted_between : Hosts → ℕ → Book → Book → List Accepted
accepted_between hosts i before behind = accepted_in i (new_nodes hosts.base_of hosts.count 1) before behind.transactions

-- the same of a row of steps, each by the book before it and behind it
abbrev pub accepted_along : Hosts → ℕ → Book → List TurnStep → List Accepted
accepted_along hosts i b [] = []
accepted_along hosts i b (s ∷ ss) = accepted_between hosts i b s.behind ++ accepted_along hosts i s.behind ss
