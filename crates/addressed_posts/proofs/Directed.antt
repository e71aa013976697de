-- Lists of posts, each of which goes to some endpoint.
use Rattle.std.specs.Prelude.{ℕ, List, [], ◌∷◌, ◌++◌, Option, Some, None, Bool, refl, if◌then◌else◌, map}
use Rattle.std.specs.List.{AllByRecursion}
use Rattle.at_base.specs.declared.epr.Epr.{Epr}
use Rattle.at_base.specs.declared.epr.Reply.{Reply}
use Rattle.at_base.specs.declared.epr.Reply.TheVariants as replies
use Rattle.at_base.specs.declared.fault.Fault.{Fault}
use Rattle.at_base.specs.declared.message.Message.{Message}
use Rattle.at_base.specs.declared.outs.Out.{Out}
use Rattle.at_base.specs.declared.outs.Out.TheVariants as outs
use Rattle.at_base.specs.declared.outs.Post.{Post}
use Rattle.at_model.specs.Moves.{Change, Decision}
use Rattle.at_model.specs.Posts.{faulted, replied, to_each}
use Rattle.model_laws.proofs.DecisionLaws.{DecisionSays, all_if, all_join, either_says}
use Rattle.model_laws.proofs.OtherEnds.{Anything}
use Rattle.addressed_posts.specs.AddressedPosts.{IsAddressed}

abbrev pub IsDirected : Post → Type 0
IsDirected p = IsAddressed (outs.Post p)

abbrev pub AreDirected : List Post → Type 0
AreDirected ps = AllByRecursion IsDirected ps

abbrev pub AreAddressed : List Out → Type 0
AreAddressed os = AllByRecursion IsAddressed os

-- what is posted where an item is changed, and in both branches of a decision
abbrev pub Directs : {A : Type 0} → Change A → Type 0
Directs c = AreDirected c.posts

abbrev pub Decides : {A : Type 0} → Decision A → Type 0
Decides d = DecisionSays Directs Anything d

pub either : {A : Type 0} (b : Bool) (d e : Decision A) → Decides d → Decides e → Decides (if b then d else e)
either b d e h k = either_says Directs Anything b d e (λ x. h) (λ x. k)

pub join : (ps qs : List Post) → AreDirected ps → AreDirected qs → AreDirected (ps ++ qs)
join ps qs h k = all_join IsDirected ps qs h k

pub choice : (b : Bool) (ps qs : List Post) → AreDirected ps → AreDirected qs → AreDirected (if b then ps else qs)
choice b ps qs h k = all_if IsDirected b ps qs h k

pub to_all : {A : Type 0} (f : A → Post) (xs : List A) → ((x : A) → IsDirected (f x)) → AreDirected (map f xs)
to_all f [] h = tt
to_all f (x ∷ xs) h = (h x, to_all f xs h)

pub to_one : (o : Option Epr) (f : Epr → Post) → ((to : Epr) → IsDirected (f to)) → AreDirected (to_each o f)
to_one None f h = tt
to_one (Some to) f h = (h to, tt)

-- answers to requests
pub replied_addressed : (r : Reply) (relates : Option (List ℕ)) (x : Message) → AreAddressed (replied r relates x)
replied_addressed replies.Anonymous relates x = (tt, tt)
replied_addressed replies.Nobody relates x = (tt, tt)
replied_addressed (replies.At to) relates x = (tt, ((to, refl), tt))

pub faulted_addressed : (r : Reply) (relates : Option (List ℕ)) (fault : Fault) → AreAddressed (faulted r relates fault)
faulted_addressed replies.Anonymous relates fault = (tt, tt)
faulted_addressed replies.Nobody relates fault = (tt, tt)
faulted_addressed (replies.At to) relates fault = (tt, ((to, refl), tt))
