-- A journal that is written anew.
use Rattle.std.proofs.Common.{ℕ, List, Bool, true, false, true≢false, rules, [], ◌∷◌, ◌++◌, ◌+◌, ◌≡◌, ◌≤◌, inl, inr, ⊎_elim, refl, sym, ◌∙◌, ap, subst, arith}
use Rattle.std.proofs.lemmas.List.{length-append}
use Rattle.at_base.specs.declared.record.Record.{Record}
use Rattle.decision_log.specs.Folds.{AreRecords}
use Rattle.decision_log.specs.KeptRecords.{Known, kept_of}
use Rattle.decision_log.specs.ShrunkJournals.{IsCompacted, ShrinksTheSame, shrunk, texts_of}
use Rattle.journal_at.specs.declared.journal.Compact.{Compact}
use Rattle.journal_at.specs.declared.journal.Compact.TheVariants as compacts
use Rattle.journal_at.specs.declared.journal.Journal.{Journal}
use Rattle.journal_at.specs.declared.version.Version.TheVariants.{Two}
use Rattle.journal_at.specs.Format.{AreListed, behind, frames, mark_body}
use Rattle.journal_at.specs.StandingBodies.{Counted, Keeps}
use Rattle.record_bytes.specs.Versions.{AreBodies as RecordsAreBodies}
use Rattle.site_model.specs.Told.{Told, Files}
use Rattle.node_at.specs.declared.shrink.Shrunk.{Shrunk}
use Rattle.node_at.specs.ShrunkJournals.{Anew, AreSame, IsDue, Shrinks, StandForSame, Stays, halted_by, shrunk_by}
use Rattle.node_at.specs.Starts.{Either, IsOpen}
use Rattle.node_at.specs.State.{IsNode, State}
use Rattle.node_at.proofs.StartParts.{compact_goes, compact_holds, holds_stand, open_images}
use Rattle.node_at.proofs.BodyRecords.{frames_long, new_listed}
use Rattle.node_at.proofs.IdFacts.{weaker}

anew_by : (r : Compact) (halted : Bool) (n m : State) (j : Journal) (old new : Told) → n.journal.unsure ≡ false → IsDue n → IsCompacted r (texts_of (shrunk n.kept)) n.journal j old new
    → AreRecords Two (shrunk n.kept) (texts_of (shrunk n.kept)) → m ≡ record n { journal = j; halted = halted } → j.limit ≡ n.journal.limit → Anew r halted n m old new
anew_by r halted n m j old new sure due h are e limit =
    let journal : m.journal ≡ j = ap (λ (z : State). z.journal) e in
    let size = frames_long (shrunk n.kept) in
    record {
      due = due;
      full = (λ f. let g = (h.full.0 f).1 in omega (arith, g, size), λ less. h.full.1 (sure, omega (arith, less, size)));
      compacted = subst (λ z. IsCompacted r (texts_of (shrunk n.kept)) n.journal z old new) (sym journal) h;
      are = are;
      same = e ∙ (λ i. record n { journal = sym journal i; halted = halted });
      limit = ap (λ (z : Journal). z.limit) journal ∙ limit;
    }

pub shrinks_by : (r : Compact) (n m : State) (j : Journal) (old new : Told) → n.journal.unsure ≡ false → IsDue n → IsCompacted r (texts_of (shrunk n.kept)) n.journal j old new
    → AreRecords Two (shrunk n.kept) (texts_of (shrunk n.kept)) → m ≡ record n { journal = j; halted = halted_by r n.halted } → j.limit ≡ n.journal.limit → Shrinks (shrunk_by r) n m old new
shrinks_by compacts.Done n m j old new sure due h are e limit = anew_by compacts.Done n.halted n m j old new sure due h are e limit
shrinks_by compacts.Kept n m j old new sure due h are e limit = anew_by compacts.Kept n.halted n m j old new sure due h are e limit
shrinks_by compacts.Unsure n m j old new sure due h are e limit = inr (inr (anew_by compacts.Unsure true n m j old new sure due h are e limit))
shrinks_by compacts.Full n m j old new sure due h are e limit = inr (inl (anew_by compacts.Full n.halted n m j old new sure due h are e limit))

-- nothing was done
pub stays_still : (rs : List Record) (m : State) (s : Told) → IsOpen Two rs m.journal s → Stays rs m s s
stays_still rs m s o = record {
  images = λ c now. (rs, open_images Two rs m.journal s o c now, λ more. refl);
  time = record { adds = λ l c past. inl past; keeps = λ l c past. past };
  holds = λ runs. (rs, o, λ more. refl);
}

pub stays_memory : {S : Type 0} (tell : S → Told) (rs : List Record) (m : State) (j : Journal) (x y : S) → y ≡ x → m.journal ≡ j → IsOpen Two rs j (tell x) → Stays rs m (tell x) (tell y)
stays_memory tell rs m j x y e f o =
    subst (λ z. Stays rs m (tell x) (tell z)) (sym e) (stays_still rs m (tell x) (subst (λ z. IsOpen Two rs z (tell x)) (sym f) o))

stays_sure : (unsure : Bool) → (unsure ≡ true → ⊥) → unsure ≡ false
stays_sure false h = refl
stays_sure true h = absurd (h refl)

abbrev IsUnsure : Compact → Type 0
IsUnsure compacts.Unsure = Unit {0}
IsUnsure other = ⊥

-- the records before or those that are left of them
module _ (rs : List Record) (n m : State) (j : Journal) (old new : Told) (law : RecordsAreBodies) (same : ShrinksTheSame) (o : IsOpen Two rs n.journal old)
    (kept : n.kept ≡ kept_of Two rs) (are : AreRecords Two (shrunk n.kept) (texts_of (shrunk n.kept))) (counted : Counted old new) (least : 1 ≤ n.journal.end) where
  more_same : AreSame (shrunk n.kept) rs
  more_same z = ap (λ (k : Known). kept_of Two (shrunk k ++ z)) kept ∙ same.followed rs z

  either_same : (c : Files) → Either Two rs (shrunk n.kept) c → StandForSame rs c
  either_same c h = ⊎_elim (λ s. (rs, s, λ more. refl)) (λ s. (shrunk n.kept, s, more_same)) h

  listed : AreListed (mark_body (n.journal.generation + 1) ∷ texts_of (shrunk n.kept))
  listed = new_listed (n.journal.generation + 1) (shrunk n.kept) (texts_of (shrunk n.kept)) law are

  still_open : Keeps j o.bodies new → j.unsure ≡ false → m.journal ≡ j → IsOpen Two rs m.journal new
  still_open keeps sure e = subst (λ z. IsOpen Two rs z new) (sym e) (record { bodies = o.bodies; keeps = keeps; of = o.of; are = o.are; sure = sure })

  pub stays_by : (r : Compact) → IsCompacted r (texts_of (shrunk n.kept)) n.journal j old new → m ≡ record n { journal = j; halted = halted_by r n.halted } → Stays rs m old new
  stays_by compacts.Done h e =
      let done = h.compacted o.bodies o.sure o.keeps least in
      let goes = compact_goes Two rs (shrunk n.kept) o.bodies (texts_of (shrunk n.kept)) n.journal j old new o.keeps o.of o.are listed are o.sure counted compacts.Done (λ f. search (rules, f)) done (h.moves o.sure) h.ground in
      record {
        images = λ c now. either_same c (goes.images c now);
        time = weaker old new _ _ goes.time (λ l c p. (p.0, either_same c p.1));
        holds = λ runs. (
          shrunk n.kept,
          subst (λ z. IsOpen Two (shrunk n.kept) z new) (sym (ap (λ (z : State). z.journal) e))
              (compact_holds Two rs (shrunk n.kept) o.bodies (texts_of (shrunk n.kept)) n.journal j old new o.keeps o.of o.are listed are o.sure counted compacts.Done done h.unsure),
          more_same,
        );
      }
  stays_by compacts.Kept h e =
      let done = h.compacted o.bodies o.sure o.keeps least in
      let goes = compact_goes Two rs (shrunk n.kept) o.bodies (texts_of (shrunk n.kept)) n.journal j old new o.keeps o.of o.are listed are o.sure counted compacts.Kept (λ f. search (rules, f)) done (h.moves o.sure) h.ground in
      record {
        images = λ c now. either_same c (goes.images c now);
        time = weaker old new _ _ goes.time (λ l c p. (p.0, either_same c p.1));
        holds = λ runs. (rs, still_open done.leaves (stays_sure j.unsure (λ f. subst IsUnsure (sym (h.unsure.0 f)) tt)) (ap (λ (z : State). z.journal) e), λ more. refl);
      }
  stays_by compacts.Unsure h e =
      let done = h.compacted o.bodies o.sure o.keeps least in
      let goes = compact_goes Two rs (shrunk n.kept) o.bodies (texts_of (shrunk n.kept)) n.journal j old new o.keeps o.of o.are listed are o.sure counted compacts.Unsure (λ f. search (rules, f)) done (h.moves o.sure) h.ground in
      record {
        images = λ c now. either_same c (goes.images c now);
        time = weaker old new _ _ goes.time (λ l c p. (p.0, either_same c p.1));
        holds = λ runs. absurd (true≢false (sym (ap (λ (z : State). z.halted) e) ∙ runs));
      }
  stays_by compacts.Full h e =
      let done = h.compacted o.bodies o.sure o.keeps least in
      record {
        images = λ c now. (rs, holds_stand Two rs o.bodies j.live c o.keeps.stands.listed o.of o.are (done.leaves.stands.images c now), λ more. refl);
        time = weaker old new _ _ done.time (λ l c p. (p.0, (rs, holds_stand Two rs o.bodies n.journal.live c o.keeps.stands.listed o.of o.are p.1, λ more. refl)));
        holds = λ runs. (rs, still_open done.leaves (stays_sure j.unsure (λ f. subst IsUnsure (sym (h.unsure.0 f)) tt)) (ap (λ (z : State). z.journal) e), λ more. refl);
      }

pub shrinks_same : (x y : Shrunk) (n m : State) (old new : Told) → y ≡ x → Shrinks x n m old new → Shrinks y n m old new
shrinks_same x y n m old new e h = subst (λ z. Shrinks z n m old new) (sym e) h

-- what holds of the node
pub sure_at : (n : State) → IsNode n → n.halted ≡ false → n.journal.unsure ≡ false
sure_at n h runs = h.sure ∙ runs

pub node_by : (r : Compact) (n m : State) (j : Journal) (old new : Told) → IsNode n → n.halted ≡ false → IsCompacted r (texts_of (shrunk n.kept)) n.journal j old new
    → m ≡ record n { journal = j; halted = halted_by r n.halted } → IsNode m
node_by r n m j old new h runs c e = subst IsNode (sym e) (record { sound = h.sound; kept = h.kept; promises = h.promises; sure = sure r c; begun = begun r c }) where
  sure : (r : Compact) → IsCompacted r (texts_of (shrunk n.kept)) n.journal j old new → j.unsure ≡ halted_by r n.halted
  sure compacts.Done c = stays_sure j.unsure (λ f. subst IsUnsure (sym (c.unsure.0 f)) tt) ∙ sym runs
  sure compacts.Kept c = stays_sure j.unsure (λ f. subst IsUnsure (sym (c.unsure.0 f)) tt) ∙ sym runs
  sure compacts.Full c = stays_sure j.unsure (λ f. subst IsUnsure (sym (c.unsure.0 f)) tt) ∙ sym runs
  sure compacts.Unsure c = c.unsure.1 refl

  texts : List (List ℕ)
  texts = texts_of (shrunk n.kept)

  begun : (r : Compact) → IsCompacted r texts n.journal j old new → 1 ≤ j.end
  begun compacts.Done c =
      let e = (c.moves (sure_at n h runs)).end in
      let behind_mark = length-append (behind (mark_body (n.journal.generation + 1))) (frames texts ++ (0 ∷ [])) in
      let gate = length-append (frames texts) (0 ∷ []) in
      omega (arith, e, behind_mark, gate)
  begun compacts.Kept c = let e = (c.moves (sure_at n h runs)).end in omega (arith, e, h.begun)
  begun compacts.Unsure c = let e = (c.moves (sure_at n h runs)).end in omega (arith, e, h.begun)
  begun compacts.Full c = let e = (c.moves (sure_at n h runs)).end in omega (arith, e, h.begun)

pub node_memory : (n : State) (j : Journal) → j ≡ n.journal → IsNode n → IsNode (record n { journal = j })
node_memory n j e h = record { sound = h.sound; kept = h.kept; promises = h.promises; sure = ap (λ (z : Journal). z.unsure) e ∙ h.sure; begun = omega (arith, ap (λ (z : Journal). z.end) e, h.begun) }
