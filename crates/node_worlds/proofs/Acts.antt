-- Acts, one row of them after another.
use Rattle.std.proofs.Common.{ℕ, List, Some, [], ◌∷◌, ◌++◌, ◌+◌, ◌-◌, ◌≡◌, Bool, true, false, refl, sym, ◌∙◌, ap, subst, take, drop, length, zero, suc, arith}
use Rattle.std.proofs.lemmas.List.{append_assoc, append-nil, length-append, take-append-le, take-append-drop}
use Rattle.std.proofs.Math.Seq.{take-append-add}
use Rattle.at_base.specs.declared.record.Record.{Record}
use Rattle.decision_log.specs.KeptRecords.{kept_of}
use Rattle.journal_at.specs.declared.journal.Journal.{Journal}
use Rattle.journal_at.specs.declared.version.Version.TheVariants.{Two}
use Rattle.journal_at.specs.StandingBodies.{Keeps, Spare}
use Rattle.site_model.specs.Told.{Told, Files, Made, Call, IsPrefix, Still, sent_by}
use Rattle.node_at.specs.ShrunkJournals.{AreSame, StandForSame}
use Rattle.node_at.specs.State.{State}
use Rattle.node_worlds.specs.Acts.{Act, Did, IsSoFar, IsUp, records_in, sent_in}
use Rattle.node_worlds.proofs.Rows.{after_that, and_then, grown_same, grown_then, no_time, option_map_is, prefix_then, sent_append, through, weaker}

pub records_append : (t u : List Act) → records_in (t ++ u) ≡ records_in t ++ records_in u
records_append [] u = refl
records_append (a ∷ t) u = ap (λ z. a.records ++ z) (records_append t u) ∙ sym (append_assoc a.records (records_in t) (records_in u))

pub acts_sent_append : (t u : List Act) → sent_in (t ++ u) ≡ sent_in t ++ sent_in u
acts_sent_append [] u = refl
acts_sent_append (a ∷ t) u = ap (λ z. a.sent ++ z) (acts_sent_append t u) ∙ sym (append_assoc a.sent (sent_in t) (sent_in u))

-- fewer acts sent no more
fewer_sent : (s : List Call) (k : ℕ) (t : List Act) → IsPrefix (s ++ sent_in (take k t)) (s ++ sent_in t)
fewer_sent s k t = (
  sent_in (drop k t),
  append_assoc s (sent_in (take k t)) (sent_in (drop k t))
      ∙ ap (λ z. s ++ z) (sym (acts_sent_append (take k t) (drop k t)) ∙ ap sent_in (take-append-drop k t)),
)

-- records that make the same Kept
pub same_more : (qs rs x : List Record) → AreSame qs rs → AreSame (qs ++ x) (rs ++ x)
same_more qs rs x h more = ap (kept_of Two) (append_assoc qs x more) ∙ h (x ++ more) ∙ ap (kept_of Two) (sym (append_assoc rs x more))

pub stand_more : (qs rs : List Record) (c : Files) → AreSame qs rs → StandForSame qs c → StandForSame rs c
stand_more qs rs c h (ps, is, same) = (ps, is, λ more. same more ∙ h more)

module _ (rs : List Record) (s : List Call) (t u : List Act) (sent : List Call) (c : Files) where
  pub early : IsSoFar rs s t sent c → IsSoFar rs s (t ++ u) sent c
  early h = record {
    k = h.k;
    within = omega (arith, h.within, length-append t u);
    stands = subst (λ z. StandForSame (rs ++ records_in z) c) (sym (take-append-le h.k t u h.within)) h.stands;
    least = subst (λ z. IsPrefix (s ++ sent_in z) sent) (sym (take-append-le (h.k - 1) t u (omega (arith, h.within)))) h.least;
    most = subst (λ z. IsPrefix sent (s ++ sent_in z)) (sym (take-append-le h.k t u h.within)) h.most;
  }

  both_sent : (k : ℕ) → (s ++ sent_in t) ++ sent_in (take k u) ≡ s ++ sent_in (take (length t + k) (t ++ u))
  both_sent k =
      append_assoc s (sent_in t) (sent_in (take k u))
      ∙ ap (λ z. s ++ z) (sym (acts_sent_append t (take k u)) ∙ ap sent_in (sym (take-append-add t u k)))

  both_recorded : (k : ℕ) → (rs ++ records_in t) ++ records_in (take k u) ≡ rs ++ records_in (take (length t + k) (t ++ u))
  both_recorded k =
      append_assoc rs (records_in t) (records_in (take k u))
      ∙ ap (λ z. rs ++ z) (sym (records_append t (take k u)) ∙ ap records_in (sym (take-append-add t u k)))

  least_late : (k : ℕ) → IsPrefix ((s ++ sent_in t) ++ sent_in (take (k - 1) u)) sent → IsPrefix (s ++ sent_in (take (length t + k - 1) (t ++ u))) sent
  least_late zero h =
      let e : length t + 0 - 1 ≡ length t - 1 = omega arith in
      let f : take (length t + 0 - 1) (t ++ u) ≡ take (length t - 1) t = ap (λ i. take i (t ++ u)) e ∙ take-append-le (length t - 1) t u (omega arith) in
      subst (λ z. IsPrefix (s ++ sent_in z) sent) (sym f)
      (prefix_then _ _ _ (fewer_sent s (length t - 1) t) (prefix_then _ _ _ (sent_in (take 0 u), refl) h))
  least_late (suc k) h =
      let e : length t + suc k - 1 ≡ length t + k = omega arith in
      let f : suc k - 1 ≡ k = omega arith in
      subst (λ i. IsPrefix (s ++ sent_in (take i (t ++ u))) sent) (sym e)
      (subst (λ z. IsPrefix z sent) (both_sent k) (subst (λ i. IsPrefix ((s ++ sent_in t) ++ sent_in (take i u)) sent) f h))

  pub late : IsSoFar (rs ++ records_in t) (s ++ sent_in t) u sent c → IsSoFar rs s (t ++ u) sent c
  late h = record {
    k = length t + h.k;
    within = omega (arith, h.within, length-append t u);
    stands = subst (λ z. StandForSame z c) (both_recorded h.k) h.stands;
    least = least_late h.k h.least;
    most = subst (λ z. IsPrefix sent z) (both_sent h.k) h.most;
  }

-- a journal on files that nobody touched
spare_on : (unshut : Bool) (live : ℕ) (bodies : List (List ℕ)) (mid new : Told) → new.files ≡ mid.files → ((c : Files) → new.images c → mid.images c)
    → Spare unshut live bodies mid → Spare unshut live bodies new
spare_on true live bodies mid new e h k = (λ f is. k.0 f (sym e ∙ is), λ c now. k.1 c (h c now))
spare_on false live bodies mid new e h k = λ f is. k f (sym e ∙ is)

keeps_on : (journal : Journal) (bodies : List (List ℕ)) (mid new : Told) → new.files ≡ mid.files → ((c : Files) → new.images c → mid.images c)
    → Keeps journal bodies mid → Keeps journal bodies new
keeps_on journal bodies mid new e h k = record {
  stands = record { listed = k.stands.listed; files = λ f is. k.stands.files f (sym e ∙ is); images = λ c now. k.stands.images c (h c now) };
  spare = spare_on journal.unshut journal.live bodies mid new e h k.spare;
  end = k.end;
  generation = k.generation;
}

pub up_on : (rs : List Record) (n : State) (mid new : Told) → new.files ≡ mid.files → ((c : Files) → new.images c → mid.images c) → IsUp rs n mid → IsUp rs n new
up_on rs n mid new e h u = record {
  runs = u.runs;
  records = u.records;
  holds = record { bodies = u.holds.bodies; keeps = keeps_on n.journal u.holds.bodies mid new e h u.holds.keeps; of = u.holds.of; are = u.holds.are; sure = u.holds.sure };
  same = u.same;
  kept = u.kept;
}

pub up_none : (rs : List Record) (n : State) (s : Told) → IsUp rs n s → IsUp (rs ++ records_in []) n s
up_none rs n s u = subst (λ z. IsUp z n s) (sym (append-nil rs)) u

-- nothing was done
pub did_none : (rs : List Record) (n : State) (s : Told) → IsUp rs n s → Did rs [] n s s
did_none rs n s u = record { made = []; calls = grown_same s.calls; sent = λ runs. refl; time = no_time s _; up = λ runs. up_none rs n s u }

-- one row behind another
pub did_then : (rs : List Record) (acts bs : List Act) (k m : State) (old mid new : Told) → Did rs acts k old mid → k.halted ≡ false → Did (rs ++ records_in acts) bs m mid new → Did rs (acts ++ bs) m old new
did_then rs acts bs k m old mid new h runs g = record {
  made = h.made ++ g.made;
  calls = grown_then old.calls mid.calls new.calls h.made g.made h.calls g.calls;
  sent = λ r. sent_append h.made g.made ∙ (λ i. h.sent runs i ++ g.sent r i) ∙ sym (acts_sent_append acts bs);
  time = and_then old mid new _
      (weaker old mid _ _ h.time (λ l c p. (
        through old mid new g.made l g.calls p.0,
        (p.1.0, p.1.1, early rs (sent_by p.1.0) acts bs (sent_by l) c p.1.2),
      )))
      (weaker mid new _ _ g.time (λ l c p. (
        after_that old mid new h.made l h.calls p.0,
        behind l c p.1.0 p.1.1 p.1.2,
      )));
  up = λ r. subst (λ z. IsUp z m new) (append_assoc rs (records_in acts) (records_in bs) ∙ ap (λ z. rs ++ z) (sym (records_append acts bs))) (g.up r);
}
  where
    behind : (l : List Made) (c : Files) (mids : List Made) → mid.calls ≡ Some mids → IsSoFar (rs ++ records_in acts) (sent_by mids) bs (sent_by l) c
        → (before : List Made) × (old.calls ≡ Some before) × IsSoFar rs (sent_by before) (acts ++ bs) (sent_by l) c
    behind l c mids was m =
        let (before, then, is) = option_map_is (λ z. z ++ h.made) old.calls mids (sym h.calls ∙ was) in (
          before,
          then,
          late rs (sent_by before) acts bs (sent_by l) c
              (subst (λ z. IsSoFar (rs ++ records_in acts) z bs (sent_by l) c) (ap sent_by is ∙ sent_append before h.made ∙ ap (λ z. sent_by before ++ z) (h.sent runs)) m),
        )

-- the machine alone went on
pub did_still : (rs : List Record) (acts : List Act) (m : State) (old mid new : Told) → Did rs acts m old mid → Still mid new → Did rs acts m old new
did_still rs acts m old mid new h s = record {
  made = h.made;
  calls = s.calls ∙ h.calls;
  sent = h.sent;
  time = and_then old mid new _
      (weaker old mid _ _ h.time (λ l c p. (through old mid new [] l (s.calls ∙ grown_same mid.calls) p.0, p.1)))
      (weaker mid new _ _ s.time (λ l c p. absurd p));
  up = λ runs. up_on (rs ++ records_in acts) m mid new s.files s.images (h.up runs);
}
