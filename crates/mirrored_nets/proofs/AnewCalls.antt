-- The calls by which a journal is written anew.
use Rattle.std.specs.Prelude.{ℕ, List, [], ◌∷◌, ◌++◌, ◌≡◌, ◌≤◌, ◌⊎◌, Bool, true, false, if◌then◌else◌, map, option_map}
use Rattle.std.proofs.Common.{refl, sym, ap, subst, arith, ◌∙◌, inl, inr, true≢false}
use Rattle.journal_at.specs.Compactions.{HasGround, Steps, prepare_calls}
use Rattle.journal_at.specs.StandingBodies.{raise}
use Rattle.journal_at.specs.declared.journal.Compact.{Compact}
use Rattle.journal_at.specs.declared.journal.Compact.TheVariants as compacts
use Rattle.node_at.specs.Endings.{Ends}
use Rattle.node_at.specs.ShrunkJournals.{Anew, IsDue, Shrinks}
use Rattle.node_at.specs.State.{State}
use Rattle.node_at.specs.declared.shrink.Shrunk.{Shrunk}
use Rattle.node_at.specs.declared.shrink.Shrunk.TheVariants as shrunks
use Rattle.node_at.specs.declared.turn.Turned.{Turned}
use Rattle.node_at.specs.declared.turn.Turned.TheVariants as turneds
use Rattle.node_worlds.proofs.Rows.{grown_same}
use Rattle.site_memory.specs.Sites.{told_of}
use Rattle.site_memory.specs.declared.machine.MemSite.{MemSite}
use Rattle.site_model.specs.Counts.{Rose}
use Rattle.site_model.specs.Site.{Counts}
use Rattle.site_model.specs.Told.{Call, Made, Told, done}
use Rattle.mirrored_nets.specs.Fates.{AllDone, refusals}
use Rattle.mirrored_nets.specs.Took.{IsWhole}
use Rattle.mirrored_nets.proofs.CallRows.{AreOnDisk, all_refused_none, disk_calls}

all_join : (xs ys : List Made) → AreOnDisk xs → AreOnDisk ys → AreOnDisk (xs ++ ys)
all_join [] ys h k = k
all_join (x ∷ xs) ys (h, more) k = (h, all_join xs ys more k)

prepare_on_disk : (unshut : Bool) (file : ℕ) (text : List ℕ) → AreOnDisk (map done (prepare_calls unshut file text))
prepare_on_disk true file text = (refl, (refl, (refl, (refl, tt))))
prepare_on_disk false file text = (refl, (refl, (refl, tt)))

all_two : (xs ys : List Made) → AllDone xs → AllDone ys → AllDone (xs ++ ys)
all_two [] ys h k = k
all_two (x ∷ xs) ys (h, more) k = (h, all_two xs ys more k)

pub each_done : (cs : List Call) → AllDone (map done cs)
each_done [] = tt
each_done (c ∷ cs) = (refl, each_done cs)

anew_on_disk : (r : Compact) (unshut : Bool) (file : ℕ) (text : List ℕ) (made : List Made) → Steps r unshut file text made → AreOnDisk made
anew_on_disk compacts.Done unshut file text made e =
    subst AreOnDisk (sym e) (all_join (map done (prepare_calls unshut file text)) (map done (raise file 0)) (prepare_on_disk unshut file text) (refl, (refl, tt)))
anew_on_disk compacts.Kept unshut file text made b = disk_calls (prepare_calls unshut file text) made (prepare_on_disk unshut file text) b
anew_on_disk compacts.Unsure unshut file text made (rest, e, b) =
    subst AreOnDisk (sym e) (all_join (map done (prepare_calls unshut file text)) rest (prepare_on_disk unshut file text) (disk_calls (raise file 0) rest (refl, (refl, tt)) b))
anew_on_disk compacts.Full unshut file text made e = subst AreOnDisk (sym e) tt

-- Behind its steps a node made these calls; nothing of it but its journal changed.
pub record GoesAnew (n m : State) (old new : MemSite) : Type 0 where
  pub made : List Made
  pub on_disk : AreOnDisk made
  pub calls : (told_of new).calls ≡ option_map (λ l. l ++ made) (told_of old).calls
  pub book : m.book ≡ n.book
  pub effects : m.effects ≡ n.effects
  pub limit : m.journal.limit ≡ n.journal.limit
  pub disk : old.tally.disk ≤ new.tally.disk
  pub gate : old.tally.gate ≤ new.tally.gate
  pub link : new.tally.link ≡ old.tally.link
  -- one of them that failed is counted
  pub failed : 1 ≤ refusals made → Rose old.tally.disk new.tally.disk ⊎ Rose old.tally.gate new.tally.gate

module _ (n m : State) (old new : MemSite) (sure : n.journal.unsure ≡ false) (disk : old.tally.disk ≤ new.tally.disk) (gate : old.tally.gate ≤ new.tally.gate) (link : new.tally.link ≡ old.tally.link) where
  not_called : m ≡ n → new ≡ old → GoesAnew n m old new
  not_called same e = record {
    made = [];
    on_disk = tt;
    calls = subst (λ z. (told_of z).calls ≡ option_map (λ l. l ++ []) (told_of old).calls) (sym e) (grown_same (told_of old).calls);
    book = ap (λ (z : State). z.book) same;
    effects = ap (λ (z : State). z.effects) same;
    limit = ap (λ (z : State). z.journal.limit) same;
    disk = disk;
    gate = gate;
    link = link;
    failed = λ some. absurd (omega (arith, some));
  }

  -- why calls of it failed
  why_failed : (r : Compact) (unshut : Bool) (file : ℕ) (text : List ℕ) (made : List Made) → Steps r unshut file text made → HasGround r n.journal (told_of old) (told_of new) → 1 ≤ refusals made
      → Rose old.tally.disk new.tally.disk ⊎ Rose old.tally.gate new.tally.gate
  why_failed compacts.Done unshut file text made e ground some =
      let none = all_refused_none made (subst AllDone (sym e) (all_two (map done (prepare_calls unshut file text)) (map done (raise file 0)) (each_done (prepare_calls unshut file text)) (refl, (refl, tt)))) in
      absurd (omega (arith, none, some))
  why_failed compacts.Kept unshut file text made b ground some = inl ground
  why_failed compacts.Unsure unshut file text made are (inl unsure) some = absurd (true≢false (sym unsure ∙ sure))
  why_failed compacts.Unsure unshut file text made are (inr rose) some = inr rose
  why_failed compacts.Full unshut file text made e ground some = let none = ap refusals e in absurd (omega (arith, none, some))

  written : (r : Compact) (halted : Bool) → Anew r halted n m (told_of old) (told_of new) → GoesAnew n m old new
  written r halted a =
      let moves = a.compacted.moves sure in
      record {
        made = moves.made;
        on_disk = anew_on_disk r _ _ _ moves.made moves.are;
        calls = moves.grown;
        book = ap (λ (z : State). z.book) a.same;
        effects = ap (λ (z : State). z.effects) a.same;
        limit = a.limit;
        disk = disk;
        gate = gate;
        link = link;
        failed = why_failed r _ _ _ moves.made moves.are a.compacted.ground;
      }

  shrinks_so : (shrunk : Shrunk) → Shrinks shrunk n m (told_of old) (told_of new) → ((IsDue n → ⊥) → new ≡ old) → (shrunk ≡ shrunks.NoMemory → new ≡ old) → GoesAnew n m old new
  shrinks_so shrunks.NotDue (inl (undue, same)) idle memory = not_called same (idle undue)
  shrinks_so shrunks.NotDue (inr (inl a)) idle memory = written compacts.Full n.halted a
  shrinks_so shrunks.NotDue (inr (inr a)) idle memory = written compacts.Unsure true a
  shrinks_so shrunks.Done a idle memory = written compacts.Done n.halted a
  shrinks_so shrunks.Kept a idle memory = written compacts.Kept n.halted a
  shrinks_so shrunks.NoMemory (due, same) idle memory = not_called same (memory refl)

-- so a turn ended that went to its end
pub ends_anew : (first result : Turned) (shrunk : Shrunk) (n m : State) (old new : MemSite) → n.journal.unsure ≡ false → IsWhole first → Ends told_of first result shrunk n m old new → GoesAnew n m old new
ends_anew (turneds.Served status) result shrunk n m old new sure whole e =
    shrinks_so n m old new sure e.counted.disk e.counted.gate (ap (λ (z : Counts). z.link) e.counted.others) shrunk e.shrinks e.idle e.memory
ends_anew turneds.Ticked result shrunk n m old new sure whole e =
    shrinks_so n m old new sure e.counted.disk e.counted.gate (ap (λ (z : Counts). z.link) e.counted.others) shrunk e.shrinks e.idle e.memory
ends_anew turneds.NoRoom result shrunk n m old new sure whole e = absurd whole
ends_anew turneds.Halted result shrunk n m old new sure whole e = absurd whole
ends_anew turneds.Closed result shrunk n m old new sure whole e = absurd whole
ends_anew turneds.LinkDown result shrunk n m old new sure whole e = absurd whole

by_halted : (b : Bool) (result turned : Turned) → IsWhole result → result ≡ (if b then turneds.Halted else turned) → turned ≡ result
by_halted true result turned whole f = absurd (subst IsWhole f whole)
by_halted false result turned whole f = sym f

-- the steps came to what the turn did
pub first_whole : {S : Type 0} (told : S → Told) (first result : Turned) (shrunk : Shrunk) (n m : State) (old new : S) → IsWhole result → Ends told first result shrunk n m old new → first ≡ result
first_whole told (turneds.Served status) result shrunk n m old new whole e = by_halted m.halted result (turneds.Served status) whole e.answers
first_whole told turneds.Ticked result shrunk n m old new whole e = by_halted m.halted result turneds.Ticked whole e.answers
first_whole told turneds.NoRoom result shrunk n m old new whole e = sym e.answers
first_whole told turneds.Halted result shrunk n m old new whole e = sym e.answers
first_whole told turneds.Closed result shrunk n m old new whole e = sym e.answers
first_whole told turneds.LinkDown result shrunk n m old new whole e = sym e.answers
