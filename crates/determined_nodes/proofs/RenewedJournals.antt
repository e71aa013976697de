-- The end of a turn at which there was memory: the journal was written anew, or that was tried, or it isn't due.
use Rattle.std.specs.Prelude.{ℕ, List, [], ◌∷◌, ◌++◌, ◌+◌, ◌-◌, ◌≡◌, ◌≤◌, ◌⊎◌, Bool, true, false, Some, length, map}
use Rattle.std.proofs.Common.{ap, append-nil, arith, inl, inr, refl, subst, sym, true≢false, ◌∙◌}
use Rattle.std.proofs.lemmas.List.{map-append}
use Rattle.decision_log.specs.ShrunkJournals.{shrunk, texts_of}
use Rattle.journal_at.specs.Compactions.{HasGround, Leaves, Steps, prepare_calls, text_of}
use Rattle.journal_at.specs.Format.{frames, mark_body}
use Rattle.journal_at.specs.StandingBodies.{Keeps, raise}
use Rattle.journal_at.specs.declared.journal.Compact.{Compact}
use Rattle.journal_at.specs.declared.journal.Compact.TheVariants as compacts
use Rattle.journal_at.specs.declared.journal.Journal.{Journal}
use Rattle.node_at.specs.ShrunkJournals.{Anew, IsDue, Shrinks, halted_by}
use Rattle.node_at.specs.State.{State}
use Rattle.node_at.specs.declared.shrink.Shrunk.{Shrunk}
use Rattle.node_at.specs.declared.shrink.Shrunk.TheVariants as shrunks
use Rattle.site_memory.specs.Devices.{calls_in, opening_in}
use Rattle.site_memory.specs.Sites.{told_of}
use Rattle.site_memory.specs.ToldCalls.{AreArmed}
use Rattle.site_memory.specs.declared.machine.MemSite.{MemSite}
use Rattle.site_model.specs.Counts.{Rose}
use Rattle.site_model.specs.Told.{Made, done}
use Rattle.mirrored_nets.specs.Fates.{AllDone, refusals}
use Rattle.mirrored_nets.proofs.AnewCalls.{each_done}
use Rattle.mirrored_nets.proofs.LeftFiles.{opening_kept}
use Rattle.mirrored_nets.proofs.CallRows.{AreOnDisk, all_refused_none, disk_calls}
use Rattle.determined_nodes.proofs.TwoRewritings.{Ended, EndsAt, anew_row, is_broken}

pub same_calls : (xs ys : List Made) → Some xs ≡ Some ys → xs ≡ ys
same_calls xs ys e = cc

each_on_disk : (unshut : Bool) (file : ℕ) (text : List ℕ) → AreOnDisk (map done (prepare_calls unshut file text))
each_on_disk true file text = (refl, (refl, (refl, (refl, tt))))
each_on_disk false file text = (refl, (refl, (refl, tt)))

all_join : (xs ys : List Made) → AreOnDisk xs → AreOnDisk ys → AreOnDisk (xs ++ ys)
all_join [] ys h k = k
all_join (x ∷ xs) ys (h, more) k = (h, all_join xs ys more k)

row_on_disk : (r : Compact) (unshut : Bool) (file : ℕ) (text : List ℕ) (made : List Made) → Steps r unshut file text made → AreOnDisk made
row_on_disk compacts.Done unshut file text made e = subst AreOnDisk (sym e) (all_join (map done (prepare_calls unshut file text)) (map done (raise file 0)) (each_on_disk unshut file text) (refl, (refl, tt)))
row_on_disk compacts.Kept unshut file text made b = disk_calls (prepare_calls unshut file text) made (each_on_disk unshut file text) b
row_on_disk compacts.Unsure unshut file text made (rest, e, b) =
    subst AreOnDisk (sym e) (all_join (map done (prepare_calls unshut file text)) rest (each_on_disk unshut file text) (disk_calls (raise file 0) rest (refl, (refl, tt)) b))
row_on_disk compacts.Full unshut file text made e = subst AreOnDisk (sym e) tt

-- a count of faults rose
abbrev pub RoseBetween : MemSite → MemSite → Type 0
RoseBetween old new = Rose (told_of old).counts.disk (told_of new).counts.disk ⊎ Rose (told_of old).counts.gate (told_of new).counts.gate

-- The calls of the end, and what it left. A call of it that failed was counted, and where one was counted that is there, it is determined.
pub record EndsSo (n m : State) (old new : MemSite) : Type 0 where
  pub anew : List Made
  pub grown : calls_in new.device ≡ calls_in old.device ++ anew
  pub on_disk : AreOnDisk anew
  pub opening : opening_in new.device ≡ opening_in old.device
  pub failed : 1 ≤ refusals anew → RoseBetween old new
  pub ended : (before fails : ℕ) → AreArmed before fails anew → (RoseBetween old new → 1 ≤ refusals anew) → Ended before fails n m anew

module _ (n m : State) (old new : MemSite) (sure : n.journal.unsure ≡ false) (bodies : List (List ℕ)) (keeps : Keeps n.journal bodies (told_of old)) (least : 1 ≤ n.journal.end) where
  idles : (IsDue n → ⊥) → m ≡ n → new ≡ old → EndsSo n m old new
  idles undue same e = record {
    anew = [];
    grown = ap (λ (s : MemSite). calls_in s.device) e ∙ sym (append-nil (calls_in old.device));
    on_disk = tt;
    opening = ap (λ (s : MemSite). opening_in s.device) e;
    failed = λ some. absurd (omega (arith, some));
    ended = λ before fails armed rises. Ended.idle undue same refl;
  }

  end_is : (r : Compact) (later : List (List ℕ)) (j : Journal) (texts : List (List ℕ)) → later ≡ mark_body (n.journal.generation + 1) ∷ texts → Leaves r n.journal.live bodies later j (told_of new)
      → EndsAt r n.journal.end j.end n.journal.generation texts
  end_is compacts.Done later j texts e h = h.end ∙ ap (λ z. length (frames z)) e
  end_is compacts.Kept later j texts e h = h.end ∙ sym keeps.end
  end_is compacts.Unsure later j texts e h = tt
  end_is compacts.Full later j texts e h = h.end ∙ sym keeps.end

  why_failed : (r : Compact) (unshut : Bool) (file : ℕ) (text : List ℕ) (made : List Made) → Steps r unshut file text made → HasGround r n.journal (told_of old) (told_of new) → 1 ≤ refusals made → RoseBetween old new
  why_failed compacts.Done unshut file text made e ground some =
      let all : made ≡ map done (anew_row unshut file text) = e ∙ sym (map-append done (prepare_calls unshut file text) (raise file 0)) in
      let none = all_refused_none made (subst AllDone (sym all) (each_done (anew_row unshut file text))) in
      absurd (omega (arith, none, some))
  why_failed compacts.Kept unshut file text made b ground some = inl ground
  why_failed compacts.Unsure unshut file text made are (inl unsure) some = absurd (true≢false (sym unsure ∙ sure))
  why_failed compacts.Unsure unshut file text made are (inr rose) some = inr rose
  why_failed compacts.Full unshut file text made e ground some = let none = ap refusals e in absurd (omega (arith, none, some))

  broken_rose : (r : Compact) → is_broken r ≡ true → HasGround r n.journal (told_of old) (told_of new) → RoseBetween old new
  broken_rose compacts.Done broken ground = absurd cc
  broken_rose compacts.Full broken ground = absurd cc
  broken_rose compacts.Kept broken ground = inl ground
  broken_rose compacts.Unsure broken (inl unsure) = absurd (true≢false (sym unsure ∙ sure))
  broken_rose compacts.Unsure broken (inr rose) = inr rose

  written : (r : Compact) (halted : Bool) → halted ≡ halted_by r n.halted → Anew r halted n m (told_of old) (told_of new) → EndsSo n m old new
  written r halted is a =
      let moves = a.compacted.moves sure in
      let all = a.compacted.compacted bodies sure keeps least in
      record {
        anew = moves.made;
        grown = same_calls (calls_in new.device) (calls_in old.device ++ moves.made) moves.grown;
        on_disk = row_on_disk r n.journal.unshut (1 - n.journal.live) (text_of (n.journal.generation + 1) (texts_of (shrunk n.kept))) moves.made moves.are;
        opening = opening_kept old new _ all.time;
        failed = why_failed r n.journal.unshut (1 - n.journal.live) (text_of (n.journal.generation + 1) (texts_of (shrunk n.kept))) moves.made moves.are a.compacted.ground;
        ended = λ before fails armed rises. Ended.wrote r (record {
          due = a.due;
          full = a.full;
          steps = moves.are;
          file = moves.file;
          unshut = moves.unshut;
          same = subst (λ b. m ≡ record n { journal = m.journal; halted = b }) is a.same;
          limit = a.limit;
          unsure = a.compacted.unsure;
          end = end_is r (mark_body (n.journal.generation + 1) ∷ texts_of (shrunk n.kept)) m.journal (texts_of (shrunk n.kept)) refl all.leaves;
          some = λ broken. rises (broken_rose r broken a.compacted.ground);
          armed = armed;
        });
      }

  pub ends_so : (shrunk : Shrunk) → (shrunk ≡ shrunks.NoMemory → ⊥) → Shrinks shrunk n m (told_of old) (told_of new) → ((IsDue n → ⊥) → new ≡ old) → EndsSo n m old new
  ends_so shrunks.NotDue memory (inl (undue, same)) idle = idles undue same (idle undue)
  ends_so shrunks.NotDue memory (inr (inl a)) idle = written compacts.Full n.halted refl a
  ends_so shrunks.NotDue memory (inr (inr a)) idle = written compacts.Unsure true refl a
  ends_so shrunks.Done memory a idle = written compacts.Done n.halted refl a
  ends_so shrunks.Kept memory a idle = written compacts.Kept n.halted refl a
  ends_so shrunks.NoMemory memory h idle = absurd (memory refl)
