-- The calls of steps that all stand, as they are read.
use Rattle.std.specs.Prelude.{ℕ, List, [], ◌∷◌, ◌++◌, ◌≡◌, Option, Some, None, IfSome, Bool, true, false}
use Rattle.std.specs.List.{AllByRecursion}
use Rattle.std.proofs.Common.{refl, sym, ap, subst, ◌∙◌, inl, inr}
use Rattle.at_base.specs.declared.record.Record.{Record}
use Rattle.fated_walks.specs.Fated.{Fated, stands_by}
use Rattle.journal_at.specs.declared.journal.Journal.{Journal}
use Rattle.journal_at.specs.declared.version.Version.TheVariants.{Two}
use Rattle.mirrored_nets.specs.Took.{IsTriedLine}
use Rattle.mirrored_nets.proofs.CallRows.{AreParts}
use Rattle.mirrored_nets.proofs.CallsRead.{IsRecordOf, Read}
use Rattle.mirrored_nets.proofs.CutCalls.{AreCallsOf, HasRecord}
use Rattle.mirrored_nets.proofs.ToldFares.{HasNone}
use Rattle.mirrored_nets.proofs.TriedLines.{line_long, line_no_posts, line_sendings}
use Rattle.node_at.specs.Doings.{Doing}
use Rattle.node_at.specs.Steps.{if_landed}
use Rattle.node_at.specs.TurnText.{TurnStep}
use Rattle.node_events.specs.Fares.{IsFared}
use Rattle.node_events.specs.NodeEvents.{all_made}
use Rattle.node_worlds.specs.SentPosts.{recorded, records_by}
use Rattle.record_bytes.specs.Bytes.{bytes_of}
use Rattle.record_bytes.specs.Versions.{IsRecord}
use Rattle.site_model.specs.Told.{Made}

no_record : (landed : Bool) → records_by (if_landed landed None) ≡ []
no_record true = refl
no_record false = refl

none_recorded : (ss : List TurnStep) → AllByRecursion HasNone ss → recorded ss ≡ []
none_recorded [] h = refl
none_recorded (s ∷ ss) (h, more) = λ i. (ap (λ o. records_by (if_landed s.landed o)) h ∙ no_record s.landed) i ++ none_recorded ss more i

module _ (j : Journal) (lines : ℕ) (line made : List Made) (s : TurnStep) (ss : List TurnStep) (d : Doing) (ds : List Doing) (R : Read j line made s ss d ds)
    (parts : AreParts d.first (all_made (d ∷ ds)) R.anew) (tried : IsTriedLine lines line) (formed : IfSome s.entry (λ r. IsRecord Two r (bytes_of r)))
    (f : Fated) (fared : IsFared s d f) (landed : f.landed ≡ true) where
  record_so : (o : Option Record) (b : Bool) → s.entry ≡ o → s.landed ≡ b → IsRecordOf o b j d.first d.refused → HasRecord j d.first (s ∷ ss)
  record_so None b e k (none, zero_refused) =
      inl (none, (λ i. (ap (λ z. records_by (if_landed s.landed z)) e ∙ no_record s.landed) i ++ none_recorded ss R.unrecorded i))
  record_so (Some r) true e k (is, zero_refused) =
      inr (r, subst (λ o. IfSome o (λ x. IsRecord Two x (bytes_of x))) e formed, is, (λ i. records_by (if_landed (k i) (e i)) ++ none_recorded ss R.unrecorded i))
  record_so (Some r) false e k refused =
      absurd (stands_absent (sym (λ i. stands_by ((fared.entry ∙ e) i) (landed i)) ∙ fared.records ∙ (λ i. records_by (if_landed (k i) (e i)))))
    where
      stands_absent : r ∷ [] ≡ [] → ⊥
      stands_absent same = cc

  pub standing_calls : AreCallsOf j lines made (s ∷ ss) (d ∷ ds)
  standing_calls = record {
    line = line;
    disk = d.first;
    anew = R.anew;
    are = R.are;
    long = line_long lines line tried;
    said = line_sendings lines line tried;
    no_posts = line_no_posts lines line tried;
    parts = parts;
    record_is = record_so s.entry s.landed refl refl R.record_is;
  }
