-- The parts of a start, one after the other.
use Rattle.std.proofs.Common.{ℕ, List, Bool, Result, Ok, Err, Some, true, false, true≢false, [], ◌∷◌, ◌++◌, ◌+◌, ◌-◌, ◌≡◌, ◌⊎◌, ◌↔◌, inl, inr, ⊎_elim, OnOk, map, refl, sym, ◌∙◌, ap, subst, arith}
use Rattle.std.proofs.lemmas.List.{append_assoc, map-append}
use Rattle.at_base.specs.declared.record.Record.{Record}
use Rattle.decision_log.specs.Folds.{AreRecords}
use Rattle.journal_at.specs.Compactions.{Compacted, HasGround, Moves, prepare_calls, text_of}
use Rattle.journal_at.specs.declared.journal.Append.{Append}
use Rattle.journal_at.specs.declared.journal.Append.TheVariants as appends
use Rattle.journal_at.specs.declared.journal.Compact.{Compact}
use Rattle.journal_at.specs.declared.journal.Compact.TheVariants as compacts
use Rattle.journal_at.specs.declared.journal.Journal.{Journal}
use Rattle.journal_at.specs.declared.version.Version.{Version}
use Rattle.journal_at.specs.declared.version.Version.TheVariants.{Two}
use Rattle.journal_at.specs.Format.{AreListed, head_of, mark_body, records_of}
use Rattle.journal_at.specs.Pairs.{Holds}
use Rattle.journal_at.specs.StandingBodies.{Appended, Calls, Counted, HasReason, Keeps, lay, raise}
use Rattle.site_model.specs.Counts.{Rose}
use Rattle.site_model.specs.Site.{Counts as Numbers}
use Rattle.site_model.specs.Told.{Told, Files, Made, Call, BreaksOff, done}
use Rattle.node_at.specs.declared.fault.StartFault.{StartFault}
use Rattle.node_at.specs.declared.fault.StartFault.TheVariants.{NoMemory, Disk, Bad, NoJournal, Spent, Full}
use Rattle.node_at.specs.Starts.{Either, Goes, IsDue, IsOpen, Ran, StandFor, append_calls, append_ended, compact_ended}
use Rattle.node_at.proofs.CallRows.{after_that, grown_then, through}
use Rattle.node_at.proofs.IdFacts.{and_then, weaker}

-- what the live file holds, the files stand for
pub holds_stand : (version : Version) (rs : List Record) (bodies : List (List ℕ)) (live : ℕ) (c : Files) → AreListed bodies → (head_of bodies).version ≡ version
    → AreRecords version rs (records_of bodies) → Holds live bodies c → StandFor version rs c
holds_stand version rs bodies live c listed e are h = record {
  texts = records_of bodies;
  is = record {
    live = live;
    bodies = bodies;
    others = h.beside.others;
    is = record { listed = listed; is = inr h.closed };
    other = h.beside.is;
    newer = h.beside.newer;
    journal = h.journal;
    versions = e;
    all = refl;
  };
  are = are;
}

pub open_files : (version : Version) (rs : List Record) (j : Journal) (s : Told) → IsOpen version rs j s → (f : Files) → s.files ≡ Some f → StandFor version rs f
open_files version rs j s o f is = holds_stand version rs o.bodies j.live f o.keeps.stands.listed o.of o.are (o.keeps.stands.files f is)

pub open_images : (version : Version) (rs : List Record) (j : Journal) (s : Told) → IsOpen version rs j s → (c : Files) → s.images c → StandFor version rs c
open_images version rs j s o c now = holds_stand version rs o.bodies j.live c o.keeps.stands.listed o.of o.are (o.keeps.stands.images c now)

-- rows of calls that break off
pub breaks_in_front : (calls rest : List Call) (made : List Made) → BreaksOff calls made → BreaksOff (calls ++ rest) made
breaks_in_front calls rest made b = record {
  front = b.front;
  call = b.call;
  rest = b.rest ++ rest;
  split = ap (λ z. z ++ rest) b.split ∙ append_assoc b.front (b.call ∷ b.rest) rest;
  is = b.is;
}

pub breaks_behind : (first calls : List Call) (made : List Made) → BreaksOff calls made → BreaksOff (first ++ calls) (map done first ++ made)
breaks_behind first calls made b = record {
  front = first ++ b.front;
  call = b.call;
  rest = b.rest;
  split = ap (λ z. first ++ z) b.split ∙ sym (append_assoc first b.front (b.call ∷ b.rest));
  is = ⊎_elim
      (λ e. inl (ap (λ z. map done first ++ z) e ∙ sym (append_assoc (map done first) (map done b.front) (record { call = b.call; done = false } ∷ [])) ∙ ap (λ z. z ++ record { call = b.call; done = false } ∷ []) (sym (map-append done first b.front))))
      (λ e. inr (ap (λ z. map done first ++ z) e ∙ sym (map-append done first b.front))) b.is;
}

-- one part behind another
ran_then : {T : Type 0} (first calls : List Call) (made more : List Made) (result : Result T StartFault) → made ≡ map done first → Ran calls result more → Ran (first ++ calls) result (made ++ more)
ran_then first calls made more (Ok x) e r = (λ i. e i ++ r i) ∙ sym (map-append done first calls)
ran_then first calls made more (Err Disk) e r = subst (λ z. BreaksOff (first ++ calls) (z ++ more)) (sym e) (breaks_behind first calls more r)
ran_then first calls made more (Err NoMemory) e (front, rest, split, is) =
    (first ++ front, rest, ap (λ z. first ++ z) split ∙ sym (append_assoc first front rest), (λ i. e i ++ is i) ∙ sym (map-append done first front))
ran_then first calls made more (Err (Bad file place)) e r = absurd r
ran_then first calls made more (Err NoJournal) e r = absurd r
ran_then first calls made more (Err Spent) e r = absurd r
ran_then first calls made more (Err Full) e r = absurd r

pub due_then : {T : Type 0} (result : Result T StartFault) (old mid new : Told) → Counted old mid → IsDue result mid new → IsDue result old new
due_then (Ok x) old mid new h d = tt
due_then (Err NoMemory) old mid new h d = tt
due_then (Err (Bad file place)) old mid new h d = tt
due_then (Err NoJournal) old mid new h d = tt
due_then (Err Spent) old mid new h d = tt
due_then (Err Full) old mid new h d = tt
due_then (Err Disk) old mid new h d =
    ⊎_elim (λ r. inl (let k = h.disk in omega (arith, r, k))) (λ r. inr (let k = h.gate in omega (arith, r, k))) d

pub counted_then : (old mid new : Told) → Counted old mid → Counted mid new → Counted old new
counted_then old mid new h k = record {
  disk = let a = h.disk in let b = k.disk in omega (arith, a, b);
  gate = let a = h.gate in let b = k.gate in omega (arith, a, b);
  others = k.others ∙ ap (λ (z : Numbers). record z { disk = new.counts.disk; gate = new.counts.gate }) h.others;
  apart = record { link = k.apart.link ∙ h.apart.link; clock = k.apart.clock ∙ h.apart.clock };
}

pub goes_then : {T S : Type 0} (first calls : List Call) (P Q R : Files → Type 0) (x : S) (result : Result T StartFault) (old mid new : Told)
    → Goes first P (Ok x) old mid → Goes calls Q result mid new → ((c : Files) → P c → R c) → ((c : Files) → Q c → R c) → Goes (first ++ calls) R result old new
goes_then first calls P Q R x result old mid new h k p q = record {
  made = h.made ++ k.made;
  ran = ran_then first calls h.made k.made result h.ran k.ran;
  grown = grown_then old.calls mid.calls new.calls h.made k.made h.grown k.grown;
  images = λ c now. q c (k.images c now);
  time = and_then old mid new _
      (weaker old mid _ _ h.time (λ l c b. (through old mid new k.made l k.grown b.0, p c b.1)))
      (weaker mid new _ _ k.time (λ l c b. (after_that old mid new h.made l h.grown b.0, q c b.1)));
  cause = due_then result old mid new h.counted k.cause;
  counted = counted_then old mid new h.counted k.counted;
}

-- a part that ends a start
pub goes_no_further : (first calls : List Call) (P R : Files → Type 0) (e : StartFault) (old new : Told)
    → Goes {T = Unit {0}} first P (Err e) old new → ((c : Files) → P c → R c) → Goes {T = Unit {0}} (first ++ calls) R (Err e) old new
goes_no_further first calls P R e old new h p = record {
  made = h.made;
  ran = on e h.ran;
  grown = h.grown;
  images = λ c now. p c (h.images c now);
  time = weaker old new _ _ h.time (λ l c b. (b.0, p c b.1));
  cause = h.cause;
  counted = h.counted;
} where
  on : (e : StartFault) → Ran {T = Unit {0}} first (Err e) h.made → Ran {T = Unit {0}} (first ++ calls) (Err e) h.made
  on Disk r = breaks_in_front first calls h.made r
  on NoMemory (front, rest, split, is) = (front, rest ++ calls, ap (λ z. z ++ calls) split ∙ append_assoc front rest calls, is)
  on (Bad file place) r = absurd r
  on NoJournal r = absurd r
  on Spent r = absurd r
  on Full r = absurd r

abbrev IsUnsure : Append → Type 0
IsUnsure appends.Unsure = Unit {0}
IsUnsure other = ⊥

abbrev IsUnsureToo : Compact → Type 0
IsUnsureToo compacts.Unsure = Unit {0}
IsUnsureToo other = ⊥

stays_sure : (unsure : Bool) → (unsure ≡ true → ⊥) → unsure ≡ false
stays_sure false h = refl
stays_sure true h = absurd (h refl)

gate_rose : (unsure : Bool) (rose : Type 0) → unsure ≡ false → (unsure ≡ true) ⊎ rose → rose
gate_rose unsure rose e (inl f) = absurd (true≢false (sym f ∙ e))
gate_rose unsure rose e (inr h) = h

-- an append
module _ (version : Version) (rs more : List Record) (bodies : List (List ℕ)) (b : List ℕ) (j k : Journal) (old new : Told)
    (keeps : Keeps j bodies old) (of : (head_of bodies).version ≡ version) (are : AreRecords version rs (records_of bodies))
    (listed : AreListed (bodies ++ b ∷ [])) (of_more : (head_of (bodies ++ b ∷ [])).version ≡ Two) (are_more : AreRecords Two more (records_of (bodies ++ b ∷ [])))
    (sure : j.unsure ≡ false) (counted : Counted old new) where
  before : (live : ℕ) (c : Files) → Holds live bodies c → Either version rs more c
  before live c h = inl (holds_stand version rs bodies live c keeps.stands.listed of are h)

  behind_it : (live : ℕ) (c : Files) → Holds live (bodies ++ b ∷ []) c → Either version rs more c
  behind_it live c h = inr (holds_stand Two more (bodies ++ b ∷ []) live c listed of_more are_more h)

  pub append_goes : (a : Append) → (a ≡ appends.Full → ⊥) → Appended a bodies b k old new → Calls a j.live j.end b old new → HasReason a j old new
      → Goes (append_calls j.live j.end b) (Either version rs more) (append_ended a) old new
  append_goes appends.Done f h c r = record {
    made = c.made;
    ran = c.are ∙ sym (map-append done (lay j.live j.end b) (raise j.live j.end));
    grown = c.grown;
    images = λ x now. behind_it k.live x (h.after.stands.images x now);
    time = weaker old new _ _ h.time (λ l x p. (p.0, ⊎_elim (before k.live x) (behind_it k.live x) p.1));
    cause = tt;
    counted = counted;
  }
  append_goes appends.Refused f h c r = record {
    made = c.made;
    ran = breaks_in_front (lay j.live j.end b) (raise j.live j.end) c.made c.are;
    grown = c.grown;
    images = λ x now. before k.live x (h.after.stands.images x now);
    time = weaker old new _ _ h.time (λ l x p. (p.0, before k.live x p.1));
    cause = inl r;
    counted = counted;
  }
  append_goes appends.Unsure f h c r = record {
    made = c.made;
    ran = let (rest, e, off) = c.are in subst (BreaksOff (append_calls j.live j.end b)) (sym e) (breaks_behind (lay j.live j.end b) (raise j.live j.end) rest off);
    grown = c.grown;
    images = λ x now. ⊎_elim (before k.live x) (behind_it k.live x) (h.after x now);
    time = weaker old new _ _ h.time (λ l x p. (p.0, ⊎_elim (before k.live x) (behind_it k.live x) p.1));
    cause = inr (gate_rose j.unsure (Rose old.counts.gate new.counts.gate) sure r);
    counted = counted;
  }
  append_goes appends.Full f h c r = absurd (f refl)

  pub append_holds : (a : Append) → Appended a bodies b k old new → (k.unsure ≡ true) ↔ (a ≡ appends.Unsure) → OnOk (append_ended a) (IsOpen Two more k new)
  append_holds appends.Done h u = record {
    bodies = bodies ++ b ∷ [];
    keeps = h.after;
    of = of_more;
    are = are_more;
    sure = stays_sure k.unsure (λ e. subst IsUnsure (sym (u.0 e)) tt);
  }
  append_holds appends.Refused h u = tt
  append_holds appends.Unsure h u = tt
  append_holds appends.Full h u = tt

-- a compaction
module _ (version : Version) (rs more : List Record) (bodies texts : List (List ℕ)) (j k : Journal) (old new : Told)
    (keeps : Keeps j bodies old) (of : (head_of bodies).version ≡ version) (are : AreRecords version rs (records_of bodies))
    (listed : AreListed (mark_body (j.generation + 1) ∷ texts)) (are_more : AreRecords Two more texts)
    (sure : j.unsure ≡ false) (counted : Counted old new) where
  old_stands : (live : ℕ) (c : Files) → Holds live bodies c → Either version rs more c
  old_stands live c h = inl (holds_stand version rs bodies live c keeps.stands.listed of are h)

  anew_stands : (live : ℕ) (c : Files) → Holds live (mark_body (j.generation + 1) ∷ texts) c → Either version rs more c
  anew_stands live c h = inr (holds_stand Two more (mark_body (j.generation + 1) ∷ texts) live c listed refl are_more h)

  abbrev pub anew : List Call
  anew = prepare_calls j.unshut (1 - j.live) (text_of (j.generation + 1) texts) ++ raise (1 - j.live) 0

  pub compact_goes : (r : Compact) → (r ≡ compacts.Full → ⊥) → Compacted r j.live bodies (mark_body (j.generation + 1) ∷ texts) k old new
      → Moves r (text_of (j.generation + 1) texts) j k old new → HasGround r j old new
      → Goes anew (Either version rs more) (compact_ended r) old new
  compact_goes compacts.Done f h c r = record {
    made = c.made;
    ran = c.are ∙ sym (map-append done (prepare_calls j.unshut (1 - j.live) (text_of (j.generation + 1) texts)) (raise (1 - j.live) 0));
    grown = c.grown;
    images = λ x now. anew_stands k.live x (h.leaves.stands.images x now);
    time = weaker old new _ _ h.time (λ l x p. (p.0, ⊎_elim (old_stands j.live x) (anew_stands (1 - j.live) x) p.1));
    cause = tt;
    counted = counted;
  }
  compact_goes compacts.Kept f h c r = record {
    made = c.made;
    ran = breaks_in_front (prepare_calls j.unshut (1 - j.live) (text_of (j.generation + 1) texts)) (raise (1 - j.live) 0) c.made c.are;
    grown = c.grown;
    images = λ x now. old_stands k.live x (h.leaves.stands.images x now);
    time = weaker old new _ _ h.time (λ l x p. (p.0, old_stands j.live x p.1));
    cause = inl r;
    counted = counted;
  }
  compact_goes compacts.Unsure f h c r = record {
    made = c.made;
    ran = let (rest, e, off) = c.are in subst (BreaksOff anew) (sym e) (breaks_behind (prepare_calls j.unshut (1 - j.live) (text_of (j.generation + 1) texts)) (raise (1 - j.live) 0) rest off);
    grown = c.grown;
    images = λ x now. ⊎_elim (old_stands j.live x) (anew_stands (1 - j.live) x) (h.leaves x now);
    time = weaker old new _ _ h.time (λ l x p. (p.0, ⊎_elim (old_stands j.live x) (anew_stands (1 - j.live) x) p.1));
    cause = inr (gate_rose j.unsure (Rose old.counts.gate new.counts.gate) sure r);
    counted = counted;
  }
  compact_goes compacts.Full f h c r = absurd (f refl)

  pub compact_holds : (r : Compact) → Compacted r j.live bodies (mark_body (j.generation + 1) ∷ texts) k old new
      → (k.unsure ≡ true) ↔ (r ≡ compacts.Unsure) → OnOk (compact_ended r) (IsOpen Two more k new)
  compact_holds compacts.Done h u = record {
    bodies = mark_body (j.generation + 1) ∷ texts;
    keeps = h.leaves;
    of = refl;
    are = are_more;
    sure = stays_sure k.unsure (λ e. subst IsUnsureToo (sym (u.0 e)) tt);
  }
  compact_holds compacts.Kept h u = tt
  compact_holds compacts.Unsure h u = tt
  compact_holds compacts.Full h u = tt
