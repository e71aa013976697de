-- Two calls of nodes that are alike, of which one halted as the record of its first step was appended: so did the other, at the same call.
use Rattle.std.specs.Prelude.{ℕ, List, ◌++◌, ◌+◌, ◌≡◌, ◌≤◌, Bool, true, Some, length}
use Rattle.std.proofs.Common.{ap, subst, sym, true≢false, ◌∙◌}
use Rattle.at_base.specs.declared.record.Record.{Record}
use Rattle.at_model.specs.Book.{Book}
use Rattle.journal_at.specs.StandingBodies.{Makes}
use Rattle.journal_at.specs.declared.journal.Append.TheVariants as appends
use Rattle.node_at.specs.Doings.{IsFateAt}
use Rattle.node_at.specs.Meanings.{Meaning}
use Rattle.node_at.specs.State.{State}
use Rattle.node_at.specs.TurnText.{IsFirst, TurnStep}
use Rattle.record_bytes.specs.Bytes.{bytes_of}
use Rattle.site_memory.specs.ToldCalls.{AreArmed}
use Rattle.site_model.specs.Told.{Made}
use Rattle.determined_nodes.specs.SameNodes.{IsSameBehind, IsSameJournal, IsSameNode}
use Rattle.mirrored_nets.specs.Fates.{refusals}
use Rattle.determined_nodes.proofs.OneStep.{first_entry}
use Rattle.determined_nodes.proofs.RecordCalls.{Fits, halts_only, unsure_is}
use Rattle.mirrored_nets.proofs.ArmedRows.{parts_armed}
use Rattle.determined_nodes.proofs.TwoRuns.{DidSteps, fate, first_armed, fits_here}

-- one that halted so
pub record HaltedAt (since fails now : ℕ) (meaning : Meaning) (n m : State) (line made : List Made) : Type 0 where
  pub step : TurnStep
  pub status : ℕ
  pub is_first : IsFirst n.book now meaning step status
  pub entry : Record
  pub records : step.entry ≡ Some entry
  pub fits : Fits (Some entry) n.journal.end n.journal.limit
  pub first : List Made
  pub makes : Makes appends.Unsure n.journal.live n.journal.end (bytes_of entry) first
  pub some : 1 ≤ refusals first
  pub are : made ≡ line ++ first
  pub armed : AreArmed since fails made
  pub same : m ≡ record n { journal = m.journal; halted = true }

pub record SameHalts (m q : State) (made also : List Made) : Type 0 where
  pub calls : made ≡ also
  pub node : IsSameBehind m q

pub turned_back : {n p : State} → IsSameNode n p → IsSameNode p n
turned_back e = record {
  book = sym e.book;
  kept = sym e.kept;
  halted = sym e.halted;
  journal = λ going. let j = e.journal (e.halted ∙ going) in record { live = sym j.live; end = sym j.end; limit = sym j.limit; generation = sym j.generation; unshut = sym j.unshut; unsure = sym j.unsure };
}

some_same : (r s : Record) → Some r ≡ Some s → r ≡ s
some_same r s e = cc

module _ (since fails : ℕ) where
  behind_armed : (line first made : List Made) → made ≡ line ++ first → AreArmed since fails made → AreArmed (since + length line) fails first
  behind_armed line first made e armed = (parts_armed since fails line first (subst (AreArmed since fails) e armed)).1

  first_so : (b c : Book) (now then : ℕ) (meaning heard : Meaning) (s : TurnStep) (status : ℕ) → b ≡ c → now ≡ then → meaning ≡ heard → IsFirst c then heard s status → IsFirst b now meaning s status
  first_so b c now then meaning heard s status e f g h =
      subst (λ t. IsFirst b t meaning s status) (sym f) (subst (λ z. IsFirst b then z s status) (sym g) (subst (λ z. IsFirst z then heard s status) (sym e) h))

  module _ (now then : ℕ) (meaning heard : Meaning) (n p m q : State) (line also_line made also : List Made) (same : IsSameBehind n p) (j : IsSameJournal n.journal p.journal) (times : now ≡ then) (means : meaning ≡ heard)
      (lines : line ≡ also_line) (X : HaltedAt since fails now meaning n m line made) (Y : HaltedAt since fails then heard p q also_line also) where
    entry_one : X.entry ≡ Y.entry
    entry_one =
        some_same X.entry Y.entry
        (sym X.records ∙ first_entry n.book now meaning X.step Y.step X.status Y.status X.is_first (first_so n.book p.book now then meaning heard Y.step Y.status same.same.book times means Y.is_first) ∙ Y.records)

    its_makes : Makes appends.Unsure n.journal.live n.journal.end (bytes_of X.entry) Y.first
    its_makes =
        subst (λ e. Makes appends.Unsure n.journal.live n.journal.end (bytes_of e) Y.first) (sym entry_one)
        (subst (λ z. Makes appends.Unsure z n.journal.end (bytes_of Y.entry) Y.first) (sym j.live) (subst (λ z. Makes appends.Unsure p.journal.live z (bytes_of Y.entry) Y.first) (sym j.end) Y.makes))

    its_armed : AreArmed (since + length line) fails Y.first
    its_armed = subst (λ z. AreArmed (since + length z) fails Y.first) (sym lines) (behind_armed also_line Y.first also Y.are Y.armed)

    firsts_one : X.first ≡ Y.first
    firsts_one =
        unsure_is (since + length line) fails n.journal.live n.journal.end (bytes_of X.entry) X.first (behind_armed line X.first made X.are X.armed) X.makes X.some
        ∙ sym (unsure_is (since + length line) fails n.journal.live n.journal.end (bytes_of X.entry) Y.first its_armed its_makes Y.some)

    off_halted : m.halted ≡ true
    off_halted = ap (λ (z : State). z.halted) X.same

    pub same_halts : SameHalts m q made also
    same_halts = record {
      calls = X.are ∙ (λ i. lines i ++ firsts_one i) ∙ sym Y.are;
      node = record {
        same = record {
          book = ap (λ (z : State). z.book) X.same ∙ same.same.book ∙ sym (ap (λ (z : State). z.book) Y.same);
          kept = ap (λ (z : State). z.kept) X.same ∙ same.same.kept ∙ sym (ap (λ (z : State). z.kept) Y.same);
          halted = off_halted ∙ sym (ap (λ (z : State). z.halted) Y.same);
          journal = λ going. absurd (true≢false (sym off_halted ∙ going));
        };
        effects = ap (λ (z : State). z.effects) X.same ∙ same.effects ∙ sym (ap (λ (z : State). z.effects) Y.same);
      };
    }

-- Where the steps of one were done, the other didn't halt.
module _ (goes : Bool) (since fails now then : ℕ) (meaning heard : Meaning) (n p q : State) (line also_line made also : List Made) (book : n.book ≡ p.book) (j : IsSameJournal n.journal p.journal) (times : now ≡ then)
    (means : meaning ≡ heard) (lines : line ≡ also_line) (X : DidSteps goes since fails now meaning n line made) (Y : HaltedAt since fails then heard p q also_line also) where
  entry_is : X.first.entry ≡ Some Y.entry
  entry_is = first_entry n.book now meaning X.first Y.step X.status Y.status X.is (first_so since fails n.book p.book now then meaning heard Y.step Y.status book times means Y.is_first) ∙ Y.records

  mixed_makes : Makes appends.Unsure n.journal.live n.journal.end (bytes_of Y.entry) Y.first
  mixed_makes = subst (λ z. Makes appends.Unsure z n.journal.end (bytes_of Y.entry) Y.first) (sym j.live) (subst (λ z. Makes appends.Unsure p.journal.live z (bytes_of Y.entry) Y.first) (sym j.end) Y.makes)

  pub not_halted : ⊥
  not_halted =
      halts_only (since + length line) fails n.journal.live n.journal.limit n.journal.end Y.entry X.first.landed X.d.first Y.first X.d.refused
      (subst (λ o. Fits o n.journal.end n.journal.limit) entry_is (fits_here goes since fails now meaning n line made X))
      (subst (λ o. IsFateAt X.first.landed o n.journal.live n.journal.limit n.journal.end X.d.first X.d.refused) entry_is (fate goes since fails now meaning n line made X)) mixed_makes X.refused Y.some
      (first_armed goes since fails now meaning n line made X)
      (subst (λ z. AreArmed (since + length z) fails Y.first) (sym lines) (behind_armed since fails also_line Y.first also Y.are Y.armed))
