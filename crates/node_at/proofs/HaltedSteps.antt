-- A step whose record may stand or not, behind what was sent before it.
use Rattle.std.proofs.Common.{ℕ, List, [], ◌∷◌, ◌++◌, ◌≡◌, true, Some, refl, sym, ◌∙◌, ap, subst, map, arith}
use Rattle.std.proofs.lemmas.List.{append-nil}
use Rattle.at_base.specs.declared.record.Record.{Record}
use Rattle.journal_at.specs.declared.journal.Append.TheVariants as appends
use Rattle.journal_at.specs.StandingBodies.{Keeps, Makes}
use Rattle.record_bytes.specs.Bytes.{bytes_of}
use Rattle.site_model.specs.Told.{Told, Still}
use Rattle.node_at.specs.Doings.{Does, Doing, NoLess, calls_of, deeds_of}
use Rattle.node_at.specs.Meanings.{Meaning}
use Rattle.node_at.specs.Moments.{Deed, Moments, landed_of}
use Rattle.node_at.specs.State.{State}
use Rattle.node_at.specs.Steps.{Keeping, Stopped}
use Rattle.node_at.specs.Texts.{call_by}
use Rattle.node_at.specs.Turns.{Halts}
use Rattle.node_at.specs.TurnText.{IsFirst, TurnStep}
use Rattle.node_at.proofs.CallRows.{grown_then}
use Rattle.node_at.proofs.DeedRows.{moments_then}
use Rattle.node_at.proofs.Rows.{does_still, moments_still, no_less_keeping, no_less_then}

pub halts_one : (meaning : Meaning) (now status : ℕ) (s : TurnStep) (entry : Record) (n m : State) (old new : Told) → IsFirst n.book now meaning s status → s.entry ≡ Some entry → s.landed ≡ true
    → Stopped entry s.leaving n m old new → Keeping old new → Halts [] meaning now n m old new
halts_one meaning now status s entry n m old new first is landed h k = record {
  step = s;
  status = status;
  is_first = first;
  entry = entry;
  records = is;
  formed = h.formed;
  landed = landed;
  same = h.same;
  unsure = h.unsure;
  rose = h.rose;
  first = h.first;
  makes = λ bodies keeps. subst (λ e. Makes appends.Unsure n.journal.live e (bytes_of entry) h.first) keeps.end h.makes;
  calls = h.calls;
  later = no_less_keeping old new k;
  moments = h.moments;
}

pub halts_behind : (ls : List Doing) (meaning : Meaning) (now : ℕ) (n m : State) (old mid new : Told) → landed_of (deeds_of ls) ≡ [] → Does ls n.journal n.journal old mid → NoLess old.counts mid.counts
    → Halts [] meaning now n m mid new → Halts ls meaning now n m old new
halts_behind ls meaning now n m old mid new silent does later h = record {
  step = h.step;
  status = h.status;
  is_first = h.is_first;
  entry = h.entry;
  records = h.records;
  formed = h.formed;
  landed = h.landed;
  same = h.same;
  unsure = h.unsure;
  rose = let g = later.gate in let r = h.rose in omega (arith, g, r);
  first = h.first;
  makes = λ bodies keeps. h.makes bodies (stands bodies keeps);
  calls = grown_then old.calls mid.calls new.calls (calls_of ls) h.first does.calls h.calls;
  later = no_less_then old.counts mid.counts new.counts later h.later;
  moments = λ bodies keeps.
      moments_then old mid new n.journal.live bodies (deeds_of ls) (record { landed = bytes_of h.entry ∷ []; sent = map call_by h.step.leaving } ∷ []) (calls_of ls) h.first
      does.calls h.calls does.sent (does.moments bodies keeps)
      (subst (λ z. Moments n.journal.live z (record { landed = bytes_of h.entry ∷ []; sent = map call_by h.step.leaving } ∷ []) mid new) (sym (same bodies)) (h.moments bodies (stands bodies keeps)));
} where
  same : (bodies : List (List ℕ)) → bodies ++ landed_of (deeds_of ls) ≡ bodies
  same bodies = ap (λ z. bodies ++ z) silent ∙ append-nil bodies

  stands : (bodies : List (List ℕ)) → Keeps n.journal bodies old → Keeps n.journal bodies mid
  stands bodies keeps = subst (λ z. Keeps n.journal z mid) (same bodies) (does.stands bodies keeps)

pub halts_last : (ls : List Doing) (meaning : Meaning) (now : ℕ) (n m : State) (old mid new : Told) → Halts ls meaning now n m old mid → Still mid new → NoLess mid.counts new.counts
    → Halts ls meaning now n m old new
halts_last ls meaning now n m old mid new h s later = record {
  step = h.step;
  status = h.status;
  is_first = h.is_first;
  entry = h.entry;
  records = h.records;
  formed = h.formed;
  landed = h.landed;
  same = h.same;
  unsure = h.unsure;
  rose = let g = later.gate in let r = h.rose in omega (arith, g, r);
  first = h.first;
  makes = h.makes;
  calls = s.calls ∙ h.calls;
  later = no_less_then old.counts mid.counts new.counts h.later later;
  moments = λ bodies keeps. moments_still old mid new n.journal.live bodies _ (h.moments bodies keeps) s;
}

pub halts_first : (ls : List Doing) (meaning : Meaning) (now : ℕ) (n m : State) (old mid new : Told) → Still old mid → NoLess old.counts mid.counts → Halts ls meaning now n m mid new
    → Halts ls meaning now n m old new
halts_first ls meaning now n m old mid new s later h = record {
  step = h.step;
  status = h.status;
  is_first = h.is_first;
  entry = h.entry;
  records = h.records;
  formed = h.formed;
  landed = h.landed;
  same = h.same;
  unsure = h.unsure;
  rose = let g = later.gate in let r = h.rose in omega (arith, g, r);
  first = h.first;
  makes = λ bodies keeps. h.makes bodies (stands bodies keeps);
  calls = grown_then old.calls mid.calls new.calls [] (calls_of ls ++ h.first) (quiet.calls) h.calls;
  later = no_less_then old.counts mid.counts new.counts later h.later;
  moments = λ bodies keeps.
      let all : List Deed = deeds_of ls ++ record { landed = bytes_of h.entry ∷ []; sent = map call_by h.step.leaving } ∷ [] in
      moments_then old mid new n.journal.live bodies [] all [] (calls_of ls ++ h.first) quiet.calls h.calls refl (quiet.moments bodies keeps)
      (subst (λ z. Moments n.journal.live z all mid new) (sym (append-nil bodies)) (h.moments bodies (stands bodies keeps)));
} where
  quiet : Does [] n.journal n.journal old mid
  quiet = does_still n.journal old mid s

  stands : (bodies : List (List ℕ)) → Keeps n.journal bodies old → Keeps n.journal bodies mid
  stands bodies keeps = subst (λ z. Keeps n.journal z mid) (append-nil bodies) (quiet.stands bodies keeps)
