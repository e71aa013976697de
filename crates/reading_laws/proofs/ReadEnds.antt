-- The calls by which a journal is written anew: all were done, or the last one failed.
use Rattle.std.specs.Prelude.{ℕ, List, [], ◌∷◌, ◌++◌, ◌≡◌, ◌⊎◌, Bool, map}
use Rattle.std.proofs.Common.{ap, inl, inr, refl, subst, sym, ◌∙◌}
use Rattle.std.proofs.lemmas.List.{append_assoc}
use Rattle.journal_at.specs.Compactions.{Steps, prepare_calls}
use Rattle.journal_at.specs.StandingBodies.{raise}
use Rattle.journal_at.specs.declared.journal.Compact.{Compact}
use Rattle.journal_at.specs.declared.journal.Compact.TheVariants as compacts
use Rattle.site_model.specs.Told.{BreaksOff, Call, Made, done, failed}
use Rattle.mirrored_nets.specs.Fates.{AllDone, IsDone}
use Rattle.mirrored_nets.proofs.AnewCalls.{each_done}
use Rattle.mirrored_nets.proofs.CutCalls.{all_both}
use Rattle.call_readings.specs.Reads.{FailsLast}

abbrev pub EndsAnew : List Made → Type 0
EndsAnew made = AllDone made ⊎ FailsLast made

-- a row that breaks off
pub breaks_end : (cs : List Call) (made : List Made) → BreaksOff cs made → EndsAnew made
breaks_end cs made b = by b.is
  where
    by : (made ≡ map done b.front ++ failed b.call ∷ []) ⊎ (made ≡ map done b.front) → EndsAnew made
    by (inl e) = inr (record { front = map done b.front; last = failed b.call; all = e; done = each_done b.front; fails = refl })
    by (inr e) = inl (subst AllDone (sym e) (each_done b.front))

-- such a row behind others that were done
behind_done : (xs ys : List Made) → AllDone xs → EndsAnew ys → EndsAnew (xs ++ ys)
behind_done xs ys all (inl rest) = inl (all_both IsDone xs ys all rest)
behind_done xs ys all (inr f) = inr (record {
  front = xs ++ f.front;
  last = f.last;
  all = ap (λ z. xs ++ z) f.all ∙ sym (append_assoc xs f.front (f.last ∷ []));
  done = all_both IsDone xs f.front all f.done;
  fails = f.fails;
})

pub steps_end : (r : Compact) (unshut : Bool) (file : ℕ) (text : List ℕ) (made : List Made) → Steps r unshut file text made → EndsAnew made
steps_end compacts.Done unshut file text made e =
    inl (subst AllDone (sym e) (all_both IsDone (map done (prepare_calls unshut file text)) (map done (raise file 0)) (each_done (prepare_calls unshut file text)) (each_done (raise file 0))))
steps_end compacts.Kept unshut file text made b = breaks_end (prepare_calls unshut file text) made b
steps_end compacts.Unsure unshut file text made (rest, e, b) =
    subst EndsAnew (sym e) (behind_done (map done (prepare_calls unshut file text)) rest (each_done (prepare_calls unshut file text)) (breaks_end (raise file 0) rest b))
steps_end compacts.Full unshut file text made e = inl (subst AllDone (sym e) tt)
