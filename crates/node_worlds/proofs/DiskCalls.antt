-- Calls of the disk send nothing.
use Rattle.std.proofs.Common.{ℕ, List, Bool, Option, Some, None, true, false, [], ◌∷◌, ◌++◌, ◌≡◌, ⊎_elim, inl, inr, map, refl, sym, ◌∙◌, ap, subst, option_map}
use Rattle.at_base.specs.declared.record.Record.{Record}
use Rattle.journal_at.specs.Compactions.{Steps, prepare_calls}
use Rattle.journal_at.specs.declared.journal.Append.{Append}
use Rattle.journal_at.specs.declared.journal.Append.TheVariants as appends
use Rattle.journal_at.specs.declared.journal.Compact.{Compact}
use Rattle.journal_at.specs.declared.journal.Compact.TheVariants as compacts
use Rattle.journal_at.specs.declared.journal.Journal.{Journal}
use Rattle.journal_at.specs.StandingBodies.{Makes, lay, raise}
use Rattle.record_bytes.specs.Bytes.{bytes_of}
use Rattle.site_model.specs.Told.{Told, Call, Made, BreaksOff, done, failed, sent_by, sent_of}
use Rattle.node_at.specs.declared.shrink.Shrunk.{Shrunk}
use Rattle.node_at.specs.declared.shrink.Shrunk.TheVariants as shrunks
use Rattle.node_at.specs.ShrunkJournals.{Anew, IsDue, Shrinks}
use Rattle.node_at.specs.State.{State}
use Rattle.node_at.specs.Steps.{IsFate}
use Rattle.node_worlds.proofs.Rows.{grown_same, sent_append}

abbrev AreOnDisk : List Call → Type 0
AreOnDisk [] = Unit {0}
AreOnDisk (c ∷ cs) = (sent_of c ≡ []) × AreOnDisk cs

disk_front : (xs ys : List Call) → AreOnDisk (xs ++ ys) → AreOnDisk xs
disk_front [] ys h = tt
disk_front (x ∷ xs) ys h = (h.0, disk_front xs ys h.1)

disk_silent : (xs : List Call) → AreOnDisk xs → sent_by (map done xs) ≡ []
disk_silent [] h = refl
disk_silent (x ∷ xs) h = λ i. h.0 i ++ disk_silent xs h.1 i

disk_failed : (xs : List Call) (y : Call) → AreOnDisk xs → sent_by (map done xs ++ failed y ∷ []) ≡ []
disk_failed [] y h = refl
disk_failed (x ∷ xs) y h = λ i. h.0 i ++ disk_failed xs y h.1 i

disk_breaks : (calls : List Call) (made : List Made) → AreOnDisk calls → BreaksOff calls made → sent_by made ≡ []
disk_breaks calls made h b =
    let front = disk_front b.front (b.call ∷ b.rest) (subst AreOnDisk b.split h) in
    ⊎_elim (λ e. ap sent_by e ∙ disk_failed b.front b.call front) (λ e. ap sent_by e ∙ disk_silent b.front front) b.is

lay_disk : (file end : ℕ) (body : List ℕ) → AreOnDisk (lay file end body)
lay_disk file end body = (refl, (refl, tt))

raise_disk : (file end : ℕ) → AreOnDisk (raise file end)
raise_disk file end = (refl, (refl, tt))

prepare_disk : (unshut : Bool) (file : ℕ) (text : List ℕ) → AreOnDisk (prepare_calls unshut file text)
prepare_disk true file text = (refl, (refl, (refl, (refl, tt))))
prepare_disk false file text = (refl, (refl, (refl, tt)))

pub makes_silent : (a : Append) (file end : ℕ) (body : List ℕ) (made : List Made) → Makes a file end body made → sent_by made ≡ []
makes_silent appends.Done file end body made h = ap sent_by h
makes_silent appends.Refused file end body made h = disk_breaks (lay file end body) made (lay_disk file end body) h
makes_silent appends.Unsure file end body made (rest, e, b) =
    ap sent_by e ∙ sent_append (map done (lay file end body)) rest ∙ disk_breaks (raise file end) rest (raise_disk file end) b
makes_silent appends.Full file end body made h = ap sent_by h

-- an append
pub fate_silent : (landed : Bool) (entry : Option Record) (j : Journal) (first : List Made) (old new : Told) → IsFate landed entry j first old new → sent_by first ≡ []
fate_silent landed None j first old new h = ap sent_by h.0
fate_silent true (Some r) j first old new h = makes_silent appends.Done j.live j.end (bytes_of r) first h.0
fate_silent false (Some r) j first old new (inl h) = makes_silent appends.Refused j.live j.end (bytes_of r) first h.0
fate_silent false (Some r) j first old new (inr h) = makes_silent appends.Full j.live j.end (bytes_of r) first h.0

pub steps_silent : (r : Compact) (unshut : Bool) (file : ℕ) (text : List ℕ) (made : List Made) → Steps r unshut file text made → sent_by made ≡ []
steps_silent compacts.Done unshut file text made h =
    ap sent_by h ∙ sent_append (map done (prepare_calls unshut file text)) (map done (raise file 0))
    ∙ (λ i. disk_silent (prepare_calls unshut file text) (prepare_disk unshut file text) i ++ disk_silent (raise file 0) (raise_disk file 0) i)
steps_silent compacts.Kept unshut file text made h = disk_breaks (prepare_calls unshut file text) made (prepare_disk unshut file text) h
steps_silent compacts.Unsure unshut file text made (rest, e, b) =
    ap sent_by e ∙ sent_append (map done (prepare_calls unshut file text)) rest
    ∙ (λ i. disk_silent (prepare_calls unshut file text) (prepare_disk unshut file text) i ++ disk_breaks (raise file 0) rest (raise_disk file 0) b i)
steps_silent compacts.Full unshut file text made h = ap sent_by h

-- calls that sent nothing
pub record Silently (old new : Told) : Type 0 where
  pub made : List Made
  pub silent : sent_by made ≡ []
  pub calls : new.calls ≡ option_map (λ l. l ++ made) old.calls

module _ {S : Type 0} (told : S → Told) (n m : State) (old new : S) (sure : n.journal.unsure ≡ false) where
  not_called : new ≡ old → Silently (told old) (told new)
  not_called e = record { made = []; silent = refl; calls = subst (λ z. (told z).calls ≡ option_map (λ l. l ++ []) (told old).calls) (sym e) (grown_same (told old).calls) }

  anew_silent : (r : Compact) (halted : Bool) → Anew r halted n m (told old) (told new) → Silently (told old) (told new)
  anew_silent r halted a =
      let moves = a.compacted.moves sure in
      record { made = moves.made; silent = steps_silent r _ _ _ moves.made moves.are; calls = moves.grown }

  -- a journal that is written anew
  pub shrinks_silent : (shrunk : Shrunk) → Shrinks shrunk n m (told old) (told new) → ((IsDue n → ⊥) → new ≡ old) → (shrunk ≡ shrunks.NoMemory → new ≡ old) → Silently (told old) (told new)
  shrinks_silent shrunks.NotDue (inl h) idle memory = not_called (idle h.0)
  shrinks_silent shrunks.NotDue (inr (inl a)) idle memory = anew_silent compacts.Full n.halted a
  shrinks_silent shrunks.NotDue (inr (inr a)) idle memory = anew_silent compacts.Unsure true a
  shrinks_silent shrunks.Done a idle memory = anew_silent compacts.Done n.halted a
  shrinks_silent shrunks.Kept a idle memory = anew_silent compacts.Kept n.halted a
  shrinks_silent shrunks.NoMemory h idle memory = not_called (memory refl)
