-- A durable participant that has voted Prepared hasn't voted ReadOnly.
use Rattle.std.specs.Prelude.{List, [], Option, Some, None, Bool, true, false, ◌||◌, ◌≡◌, refl}
use Rattle.std.proofs.Common.{sym, subst, ◌∙◌}
use Rattle.at_base.specs.Numbers.{Numbers}
use Rattle.at_base.specs.declared.notice.Kind.TheVariants as kinds
use Rattle.at_base.specs.declared.notice.Notice.TheVariants as notices
use Rattle.at_base.specs.declared.outs.Effect.{Effect}
use Rattle.at_base.specs.declared.record.Record.{Record}
use Rattle.at_model.specs.Book.{Leaf, Transaction}
use Rattle.at_model.specs.Recovery.{is_decided, is_leaf_prepared, is_promise, is_voted}
use Rattle.at_model.specs.Step.{leaf_at, transaction_at}
use Rattle.at_model.specs.World.{Node, Who, World, nth, Hosts}
use Rattle.model_laws.specs.Agreement.{HasPosted, IsIn}
use Rattle.agreement.specs.Lives.{Life, book_of, ends, happened_on, has_aborted, has_committed, has_decided, has_voted, is_gone, is_undecided, waits, works}
use Rattle.votes.specs.DurableVotes.{HasVoted, LeftNoTrace, is_vote}
use Rattle.votes.proofs.Premises.{WorldPremises}

-- a vote is a promise
vote_promises : (a b c : Bool) → (a || b) ≡ true → (a || (b || c)) ≡ true
vote_promises true b c e = refl
vote_promises false true c e = refl
vote_promises false false c e = absurd cc

pub is_promised : (id : Numbers) (r : Record) → is_vote id r ≡ true → is_promise id r ≡ true
is_promised id r e = vote_promises (is_leaf_prepared id r) (is_voted id r) (is_decided id r) e

-- what is gone, and promised something, has ended
none_there : {A : Type 0} (x : A) (o : Option A) → o ≡ None → o ≡ Some x → ⊥
none_there x o e f = let g : None ≡ Some x = sym e ∙ f in cc

pub gone_ended : (rs : List Record) (fx : List Effect) (id : Numbers) (t : Option Transaction) (l : Option Leaf) → Life rs fx id t l → t ≡ None → l ≡ None → (r : Record) → IsIn r rs → is_promise id r ≡ true
    → ends id fx ≡ [] → ⊥
gone_ended rs fx id t l (is_gone e f dead over once) none no_leaf r i promise unended = over r i promise unended
gone_ended rs fx id t l (is_undecided x e f o nothing k) none no_leaf r i promise unended = none_there x t none e
gone_ended rs fx id t l (has_voted x superior seats e f o s h out k) none no_leaf r i promise unended = none_there x t none e
gone_ended rs fx id t l (has_decided x seats e f o s h k) none no_leaf r i promise unended = none_there x t none e
gone_ended rs fx id t l (has_committed x superior seats e f o s h c k) none no_leaf r i promise unended = none_there x t none e
gone_ended rs fx id t l (has_aborted x e f o dead k) none no_leaf r i promise unended = none_there x t none e
gone_ended rs fx id t l (works x e f s nothing k) none no_leaf r i promise unended = none_there x l no_leaf f
gone_ended rs fx id t l (waits x coordinator key value e f d s h k) none no_leaf r i promise unended = none_there x l no_leaf f

pub same_node : (x y : Node) (o : Option Node) → o ≡ Some x → o ≡ Some y → x ≡ y
same_node x y o e f = let g : Some x ≡ Some y = sym e ∙ f in cc

pub traces : (hosts : Hosts) (u : World) → WorldPremises hosts u → (x : Who) → HasVoted u x → LeftNoTrace u x → ⊥
traces hosts u w x (r, (y, found, i), vote) h =
    gone_ended h.node.journal (happened_on x.node u.happened) x.id (transaction_at (book_of h.node) x.id) (leaf_at (book_of h.node) x.id) (w.laws.lives x.node h.node h.found x.id) h.transaction h.leaf r
    (subst (λ (z : Node). IsIn r z.journal) (same_node y h.node (nth x.node u.nodes) found h.found) i) (is_promised x.id r vote) h.ended

pub not_both_votes : (hosts : Hosts) (u : World) → WorldPremises hosts u → (x : Who) → HasPosted u x kinds.Durable notices.Prepared → HasPosted u x kinds.Durable notices.ReadOnly → ⊥
not_both_votes hosts u w x p r = traces hosts u w x (w.prepared x p) (w.read_only x r)
