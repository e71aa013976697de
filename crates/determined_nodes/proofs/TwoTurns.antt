-- Two turns of nodes that are alike.
use Rattle.std.specs.Prelude.{ℕ, List, [], ◌∷◌, ◌++◌, ◌+◌, ◌≡◌, ◌⊎◌, Bool, true, false, if◌then◌else◌, length, map}
use Rattle.std.proofs.Common.{ap, inl, inr, refl, subst, sym, ◌∙◌}
use Rattle.http_post.specs.Conversations.{Waits, said, unsaid}
use Rattle.node_at.specs.Doings.{calls_of}
use Rattle.node_at.specs.Meanings.{Meaning, Means}
use Rattle.node_at.specs.State.{State}
use Rattle.node_at.specs.Turns.{calm, is_tick}
use Rattle.node_at.specs.declared.role.Role.TheVariants.{All}
use Rattle.node_at.specs.declared.turn.Turned.{Turned}
use Rattle.node_at.specs.declared.turn.Turned.TheVariants as turneds
use Rattle.site_memory.specs.ToldCalls.{AreArmed}
use Rattle.site_model.specs.Told.{Made}
use Rattle.determined_nodes.specs.Outs.{LeaveOneWay}
use Rattle.determined_nodes.specs.SameNodes.{IsSameBehind, IsSameJournal, IsSameNode}
use Rattle.determined_nodes.proofs.ArmedRows.{called, tried_one}
use Rattle.determined_nodes.proofs.OneStep.{PlansArePlain}
use Rattle.determined_nodes.proofs.StepsBehind.{LeftBy, behind_same}
use Rattle.mirrored_nets.proofs.ArmedRows.{parts_armed}
use Rattle.determined_nodes.proofs.TwoHalts.{HaltedAt, SameHalts, not_halted, same_halts, turned_back}
use Rattle.determined_nodes.proofs.TwoRewritings.{Ended, ended_one}
use Rattle.determined_nodes.proofs.TwoRuns.{DidSteps, StepsSame, entries, steps_same_two}

-- the calls that try the interim line
abbrev pub LineIs : Bool → List Made → Type 0
LineIs false line = line ≡ []
LineIs true line = (line ≡ said true) ⊎ (line ≡ unsaid)

line_calls : (waits : Bool) (line also : List Made) → LineIs waits line → LineIs waits also → map called line ≡ map called also
line_calls false line also h k = ap (map called) (h ∙ sym k)
line_calls true line also (inl h) (inl k) = ap (map called) (h ∙ sym k)
line_calls true line also (inl h) (inr k) = ap (map called) h ∙ sym (ap (map called) k)
line_calls true line also (inr h) (inl k) = ap (map called) h ∙ sym (ap (map called) k)
line_calls true line also (inr h) (inr k) = ap (map called) (h ∙ sym k)

-- what the turn answers whose steps were done
abbrev pub turned_of : Bool → ℕ → Turned
turned_of true status = turneds.Ticked
turned_of false status = turneds.Served status

-- What was heard, when, and how the line was tried.
pub record Hearing (bytes : List ℕ) : Type 0 where
  pub waits : Bool
  pub waits_so : Waits bytes waits
  pub meaning : Meaning
  pub means : Means All bytes meaning
  pub now : ℕ
  pub line : List Made
  pub line_is : LineIs waits line

-- a turn whose steps went to their end
pub record WentOn (since fails : ℕ) (bytes : List ℕ) (r : Turned) (n m : State) (made : List Made) (h : Hearing bytes) : Type 0 where
  pub steps : DidSteps true since fails h.now h.meaning (calm n) h.line made
  pub node : State
  pub left : LeftBy true since fails h.now h.meaning (calm n) node h.line made steps
  pub ended : (before : ℕ) → AreArmed before fails steps.anew → Ended before fails node m steps.anew
  pub answers : r ≡ (if m.halted then turneds.Halted else turned_of (is_tick h.meaning) steps.status)

-- either
pub data Went (since fails : ℕ) (bytes : List ℕ) (r : Turned) (n m : State) (made : List Made) (h : Hearing bytes) : Type 0 where
  on : WentOn since fails bytes r n m made h → Went since fails bytes r n m made h
  off : HaltedAt since fails h.now h.meaning (calm n) m h.line made → r ≡ turneds.Halted → Went since fails bytes r n m made h

pub record SameTurns (r s : Turned) (m q : State) (made also : List Made) : Type 0 where
  pub answer : r ≡ s
  pub calls : made ≡ also
  pub node : IsSameBehind m q

module _ (one : LeaveOneWay) (plain : PlansArePlain) (since fails : ℕ) (bytes : List ℕ) (means_one : (a b : Meaning) → Means All bytes a → Means All bytes b → a ≡ b)
    (waits_one : (a b : Bool) → Waits bytes a → Waits bytes b → a ≡ b) (r s : Turned) (n m p q : State) (made also : List Made) (same : IsSameNode n p) (runs : n.halted ≡ false)
    (h k : Hearing bytes) (times : h.now ≡ k.now) where
  j : IsSameJournal n.journal p.journal
  j = same.journal runs

  calmed : IsSameBehind (calm n) (calm p)
  calmed = record { same = record { book = same.book; kept = same.kept; halted = same.halted; journal = same.journal }; effects = refl }

  heard : h.meaning ≡ k.meaning
  heard = means_one h.meaning k.meaning h.means k.means

  lines : AreArmed since fails h.line → AreArmed since fails k.line → h.line ≡ k.line
  lines front back = tried_one since fails h.line k.line front back (line_calls h.waits h.line k.line h.line_is (subst (λ b. LineIs b k.line) (sym (waits_one h.waits k.waits h.waits_so k.waits_so)) k.line_is))

  front_armed : (line rest all : List Made) → all ≡ line ++ rest → AreArmed since fails all → AreArmed since fails line
  front_armed line rest all e armed = (parts_armed since fails line rest (subst (AreArmed since fails) e armed)).0

  module _ (X : WentOn since fails bytes r n m made h) (Y : WentOn since fails bytes s p q also k) where
    abbrev x : DidSteps true since fails h.now h.meaning (calm n) h.line made
    x = X.steps

    abbrev y : DidSteps true since fails k.now k.meaning (calm p) k.line also
    y = Y.steps

    tried_lines : h.line ≡ k.line
    tried_lines = lines (front_armed h.line (calls_of (x.d ∷ x.ds) ++ x.anew) made x.are x.armed) (front_armed k.line (calls_of (y.d ∷ y.ds) ++ y.anew) also y.are y.armed)

    S : StepsSame x.first y.first x.rest y.rest x.status y.status x.d y.d x.ds y.ds
    S = steps_same_two one plain true since fails h.now k.now h.meaning k.meaning (calm n) (calm p) h.line made k.line also x y same.book j tried_lines times heard

    left : IsSameBehind X.node Y.node
    left =
        behind_same true since fails h.now k.now h.meaning k.meaning (calm n) (calm p) X.node Y.node h.line made k.line also x y X.left Y.left calmed runs S
        (entries one plain true since fails h.now k.now h.meaning k.meaning (calm n) (calm p) h.line made k.line also x y same.book j tried_lines times heard)

    parted : (calls anew all line : List Made) → all ≡ line ++ (calls ++ anew) → AreArmed since fails all → AreArmed (since + length line + length calls) fails anew
    parted calls anew all line e armed = (parts_armed (since + length line) fails calls anew (parts_armed since fails line (calls ++ anew) (subst (AreArmed since fails) e armed)).1).1

    abbrev before : ℕ
    before = since + length h.line + length (calls_of (x.d ∷ x.ds))

    its_anew : AreArmed before fails y.anew
    its_anew =
        subst (λ z. AreArmed (since + length z + length (calls_of (x.d ∷ x.ds))) fails y.anew) (sym tried_lines)
        (subst (λ z. AreArmed (since + length k.line + length z) fails y.anew) (sym S.calls) (parted (calls_of (y.d ∷ y.ds)) y.anew also k.line y.are y.armed))

    ends : (x.anew ≡ y.anew) × IsSameBehind m q
    ends =
        ended_one before fails X.node m Y.node q x.anew y.anew left (X.left.runs ∙ runs) (X.ended before (parted (calls_of (x.d ∷ x.ds)) x.anew made h.line x.are x.armed)) (Y.ended before its_anew)

    both_on : SameTurns r s m q made also
    both_on = record {
      answer = X.answers ∙ (λ i. if ends.1.same.halted i then turneds.Halted else turned_of (is_tick (heard i)) (S.firsts.answers i)) ∙ sym Y.answers;
      calls = x.are ∙ (λ i. tried_lines i ++ (S.calls i ++ ends.0 i)) ∙ sym y.are;
      node = ends.1;
    }

  module _ (X : HaltedAt since fails h.now h.meaning (calm n) m h.line made) (Y : HaltedAt since fails k.now k.meaning (calm p) q k.line also) (x_off : r ≡ turneds.Halted) (y_off : s ≡ turneds.Halted) where
    halted_lines : h.line ≡ k.line
    halted_lines = lines (front_armed h.line X.first made X.are X.armed) (front_armed k.line Y.first also Y.are Y.armed)

    halts : SameHalts m q made also
    halts = same_halts since fails h.now k.now h.meaning k.meaning (calm n) (calm p) m q h.line k.line made also calmed j times heard halted_lines X Y

    both_off : SameTurns r s m q made also
    both_off = record { answer = x_off ∙ sym y_off; calls = halts.calls; node = halts.node }

  -- not one so and one so
  module _ (X : WentOn since fails bytes r n m made h) (Y : HaltedAt since fails k.now k.meaning (calm p) q k.line also) where
    mixed_lines : h.line ≡ k.line
    mixed_lines = lines (front_armed h.line (calls_of (X.steps.d ∷ X.steps.ds) ++ X.steps.anew) made X.steps.are X.steps.armed) (front_armed k.line Y.first also Y.are Y.armed)

    never : ⊥
    never = not_halted true since fails h.now k.now h.meaning k.meaning (calm n) (calm p) q h.line k.line made also same.book j times heard mixed_lines X.steps Y

pub same_turns : LeaveOneWay → PlansArePlain → (since fails : ℕ) (bytes : List ℕ) → ((a b : Meaning) → Means All bytes a → Means All bytes b → a ≡ b) → ((a b : Bool) → Waits bytes a → Waits bytes b → a ≡ b)
    → (r s : Turned) (n m p q : State) (made also : List Made) → IsSameNode n p → n.halted ≡ false → (h k : Hearing bytes) → h.now ≡ k.now → Went since fails bytes r n m made h → Went since fails bytes s p q also k
    → SameTurns r s m q made also
same_turns one plain since fails bytes mean wait r s n m p q made also same runs h k times (Went.on X) (Went.on Y) = both_on one plain since fails bytes mean wait r s n m p q made also same runs h k times X Y
same_turns one plain since fails bytes mean wait r s n m p q made also same runs h k times (Went.off X e) (Went.off Y f) = both_off one plain since fails bytes mean wait r s n m p q made also same runs h k times X Y e f
same_turns one plain since fails bytes mean wait r s n m p q made also same runs h k times (Went.on X) (Went.off Y f) = absurd (never one plain since fails bytes mean wait r s n m p q made also same runs h k times X Y)
same_turns one plain since fails bytes mean wait r s n m p q made also same runs h k times (Went.off X e) (Went.on Y) =
    absurd (never one plain since fails bytes mean wait s r p q n m also made (turned_back same) (sym same.halted ∙ runs) k h (sym times) Y X)
