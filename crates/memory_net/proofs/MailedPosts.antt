-- The letters by which posts left are those of the messages that they became.
use Rattle.std.specs.Prelude.{ℕ, List, [], ◌∷◌, ◌++◌, ◌≡◌, ◌<◌, ◌^◌, IfSome, Some, None, Option, unwrap_or}
use Rattle.std.specs.List.{AllByRecursion}
use Rattle.std.proofs.Common.{refl, sym, ap, subst}
use Rattle.addressing.specs.declared.post_to.PostTo.{PostTo}
use Rattle.at_base.specs.declared.epr.Epr.{Epr}
use Rattle.at_base.specs.declared.outs.Post.{Post}
use Rattle.at_model.specs.World.{example_base, example_hosts, new_nodes, receiver_of}
use Rattle.deliveries.specs.DeliverableNets.{IsPostedOf}
use Rattle.deliveries.specs.Letters.{AreLetters, posts_in}
use Rattle.node_at.specs.Texts.{goes_to}
use Rattle.node_worlds.specs.Crashes.{IsNoPost}
use Rattle.node_worlds.specs.Nets.{posts_from}
use Rattle.site_model.specs.Told.{Call}
use Rattle.memory_net.specs.Closed.{HostsTellReceivers, IsExample, closed}
use Rattle.memory_net.specs.Mails.{Mail, mails_in, number_at}
use Rattle.memory_net.specs.Stands.{AreMailsOf}

pub mails_posts : (s c : ℕ) (cs : List Call) → mails_in s c cs ≡ mails_in s c (posts_in cs)
mails_posts s c [] = refl
mails_posts s c (Call.Post host port bytes ∷ cs) = ap (λ (ms : List Mail). record { sender = s; receiver = number_at c host; bytes = bytes } ∷ ms) (mails_posts s c cs)
mails_posts s c (Call.Write file at bytes ∷ cs) = mails_posts s c cs
mails_posts s c (Call.Sync file ∷ cs) = mails_posts s c cs
mails_posts s c (Call.Send bytes ∷ cs) = mails_posts s c cs

pub no_mails : (s c : ℕ) (cs : List Call) → AllByRecursion IsNoPost cs → mails_in s c cs ≡ []
no_mails s c [] h = refl
no_mails s c (Call.Post host port bytes ∷ cs) (h, more) = absurd h
no_mails s c (Call.Write file at bytes ∷ cs) (h, more) = no_mails s c cs more
no_mails s c (Call.Sync file ∷ cs) (h, more) = no_mails s c cs more
no_mails s c (Call.Send bytes ∷ cs) (h, more) = no_mails s c cs more

pub all_left : {A : Type 0} (P : A → Type 0) (xs ys : List A) → AllByRecursion P (xs ++ ys) → AllByRecursion P xs
all_left P [] ys h = tt
all_left P (x ∷ xs) ys (h, more) = (h, all_left P xs ys more)

pub all_right : {A : Type 0} (P : A → Type 0) (xs ys : List A) → AllByRecursion P (xs ++ ys) → AllByRecursion P ys
all_right P [] ys h = h
all_right P (x ∷ xs) ys (h, more) = all_right P xs ys more

module _ (tell : HostsTellReceivers) (i count : ℕ) (few : count < 2 ^ 64) where
  received : (o : Option Epr) (to : PostTo) → goes_to o ≡ Some to → IfSome o IsExample → unwrap_or (receiver_of (new_nodes example_base count 1) o) 0 ≡ number_at count to.host
  received None to goes h = absurd cc
  received (Some endpoint) to goes h = tell count endpoint to few h goes

  pub letters_are : (ps : List Post) (cs : List Call) → AreLetters ps cs → AllByRecursion (IsPostedOf closed (example_hosts count)) (posts_from (example_hosts count) i ps)
      → AreMailsOf (posts_from (example_hosts count) i ps) (mails_in i count cs)
  letters_are [] [] h k = tt
  letters_are [] (c ∷ cs) h k = absurd h
  letters_are (p ∷ ps) [] h k = absurd h
  letters_are (p ∷ ps) (c ∷ cs) (l, more) (of, rest) =
      subst (λ d. AreMailsOf (posts_from (example_hosts count) i (p ∷ ps)) (mails_in i count (d ∷ cs))) (sym l.call.is)
      (record { sender = refl; receiver = received p.to l.to l.goes of.content.to; text = l.call.text; of = l.call.of; to = l.to; goes = l.goes; is = refl }, letters_are ps cs more rest)
