-- What a step does, by what became of its record.
use Rattle.std.proofs.Common.{ℕ, List, [], ◌∷◌, ◌++◌, ◌+◌, ◌≡◌, ◌≤◌, ◌<◌, ◌↔◌, ◌⊎◌, inl, inr, ⊎_elim, Bool, true, false, Some, None, refl, sym, ◌∙◌, ap, subst, map, length, true≢false, arith}
use Rattle.std.proofs.lemmas.Bool.{cases_lt}
use Rattle.std.proofs.lemmas.List.{append-nil, map-append}
use Rattle.at_base.specs.declared.outs.Effect.{Effect}
use Rattle.at_base.specs.declared.record.Record.{Record}
use Rattle.at_model.specs.Book.{Book}
use Rattle.decision_log.specs.KeptRecords.{after}
use Rattle.decision_log.specs.AppendedRecords.{IsAppended}
use Rattle.at_base.specs.Numbers.{Numbers as Id}
use Rattle.decision_log.specs.Tokens.{Token, token_of}
use Rattle.journal_at.specs.declared.journal.Append.{Append}
use Rattle.journal_at.specs.declared.journal.Append.TheVariants as appends
use Rattle.journal_at.specs.declared.journal.Journal.{Journal}
use Rattle.journal_at.specs.Pairs.{Holds}
use Rattle.journal_at.specs.StandingBodies.{Counted, EitherHolds, Keeps, Makes, Spare, lay, raise}
use Rattle.record_bytes.specs.Bytes.{bytes_of}
use Rattle.site_model.specs.Counts.{Rose}
use Rattle.site_model.specs.Site.{Counts as Numbers}
use Rattle.site_model.specs.Told.{Told, Files, Made, Call, BreaksOff, done, sent_by}
use Rattle.node_at.specs.Sends.{Counts, Sends, given}
use Rattle.node_at.specs.State.{State}
use Rattle.node_at.specs.Steps.{Keeping, Stopped, Went}
use Rattle.node_at.specs.Texts.{Leaving, call_by}
use Rattle.node_at.proofs.CallRows.{grown_same, grown_then}
use Rattle.node_at.proofs.StepMoments.{halted_moments, is_nil, sent_append, step_moments}
use Rattle.node_at.proofs.IdFacts.{weaker}

-- what stands stays while outs are sent
spare_on : (unshut : Bool) (live : ℕ) (bodies : List (List ℕ)) (mid new : Told) → new.files ≡ mid.files → ((c : Files) → new.images c → mid.images c)
    → Spare unshut live bodies mid → Spare unshut live bodies new
spare_on true live bodies mid new e h k = (λ f is. k.0 f (sym e ∙ is), λ c now. k.1 c (h c now))
spare_on false live bodies mid new e h k = λ f is. k f (sym e ∙ is)

pub keeps_on : (journal : Journal) (bodies : List (List ℕ)) (mid new : Told) → new.files ≡ mid.files → ((c : Files) → new.images c → mid.images c)
    → Keeps journal bodies mid → Keeps journal bodies new
keeps_on journal bodies mid new e h k = record {
  stands = record { listed = k.stands.listed; files = λ f is. k.stands.files f (sym e ∙ is); images = λ c now. k.stands.images c (h c now) };
  spare = spare_on journal.unshut journal.live bodies mid new e h k.spare;
  end = k.end;
  generation = k.generation;
}

-- calls of the disk send nothing, also where one of them failed
off_is_silent : (calls : List Call) (made : List Made) → sent_by (map done calls) ≡ [] → BreaksOff calls made → sent_by made ≡ []
off_is_silent calls made e b = either b.is where
  front_is : sent_by (map done b.front) ≡ []
  front_is = is_nil (sent_by (map done b.front)) (sent_by (map done (b.call ∷ b.rest)))
      (sym (sent_append (map done b.front) (map done (b.call ∷ b.rest))) ∙ ap sent_by (sym (map-append done b.front (b.call ∷ b.rest)) ∙ ap (map done) (sym b.split)) ∙ e)

  either : (made ≡ map done b.front ++ record { call = b.call; done = false } ∷ []) ⊎ (made ≡ map done b.front) → sent_by made ≡ []
  either (inl h) = ap sent_by h ∙ sent_append (map done b.front) (record { call = b.call; done = false } ∷ []) ∙ append-nil (sent_by (map done b.front)) ∙ front_is
  either (inr h) = ap sent_by h ∙ front_is

pub makes_silent : (a : Append) (file end : ℕ) (body : List ℕ) (made : List Made) → Makes a file end body made → sent_by made ≡ []
makes_silent appends.Done file end body made h = ap sent_by h
makes_silent appends.Refused file end body made h = off_is_silent (lay file end body) made refl h
makes_silent appends.Unsure file end body made (rest, e, b) =
    ap sent_by e ∙ sent_append (map done (lay file end body)) rest ∙ off_is_silent (raise file end) rest refl b
makes_silent appends.Full file end body made h = ap sent_by h

-- a journal that isn't unsure stays so but by an unsure append
stays_sure : (unsure : Bool) → (unsure ≡ true → ⊥) → unsure ≡ false
stays_sure false h = refl
stays_sure true h = absurd (h refl)

abbrev IsUnsure : Append → Type 0
IsUnsure appends.Unsure = Unit {0}
IsUnsure other = ⊥

link_on : (old mid : Told) → Counted old mid → mid.counts.link ≡ old.counts.link
link_on old mid c = ap (λ (z : Numbers). z.link) c.others

disk_on : (mid new : Told) → new.counts ≡ record mid.counts { link = new.counts.link } → new.counts.disk ≡ mid.counts.disk
disk_on mid new e = ap (λ (z : Numbers). z.disk) e

-- it doesn't pass the limit
abbrev IsOther : Append → Type 0
IsOther appends.Full = ⊥
IsOther other = Unit {0}

fits : (a : Append) (limit need : ℕ) (unsure : Bool) → IsOther a → (a ≡ appends.Full) ↔ ((unsure ≡ false) × (limit < need)) → unsure ≡ false → need ≤ limit
fits a limit need unsure o h sure = ⊎_elim (λ past. absurd (subst IsOther (h.1 (sure, past)) o)) (λ below. below) (cases_lt limit need)

pub went_landed : (r : Record) (n m : State) (b : Book) (fx : List Effect) (leaving : List Leaving) (old mid new : Told)
    → IsAppended appends.Done r (bytes_of r) n.journal m.journal old mid → Counted old mid
    → Sends (given (Some (token_of r)) n.kept) n.kept.done leaving mid new → n.journal.unsure ≡ false → 1 ≤ n.journal.end → m.halted ≡ false
    → m.book ≡ b → m.effects ≡ n.effects ++ fx → m.kept ≡ after r n.kept → Went (Some r) true b fx leaving n m old new
went_landed r n m b fx leaving old mid new h c k sure least runs book effects kept =
    let calls = h.calls sure in
    record {
      book = book;
      effects = effects;
      kept = kept;
      formed = h.is;
      first = calls.made;
      fate = (calls.are, fits appends.Done n.journal.limit (n.journal.end + 6 + length (bytes_of r)) n.journal.unsure tt h.full sure);
      made = k.made;
      lost = k.lost;
      tried = k.tried;
      counted = subst (λ z. Counts k.lost z new.counts.link) (link_on old mid c) k.counted;
      calls = grown_then old.calls mid.calls new.calls calls.made k.made calls.grown k.calls;
      live = h.same.live;
      limit = h.same.limit;
      generation = h.same.generation;
      unshut = h.same.unshut;
      sure = stays_sure m.journal.unsure (λ e. subst IsUnsure (sym (h.unsure.0 e)) tt);
      runs = runs;
      stands = λ bodies keeps. keeps_on m.journal (bodies ++ bytes_of r ∷ []) mid new k.files k.images (h.appended bodies sure keeps least).after;
      moments = λ bodies keeps.
          step_moments old mid new n.journal.live bodies (bytes_of r ∷ []) calls.made k.made calls.grown
          (makes_silent appends.Done n.journal.live n.journal.end (bytes_of r) calls.made calls.are) k.calls
          (weaker old mid _ _ (h.appended bodies sure keeps least).time (λ l d p. (p.0, subst (λ z. EitherHolds z bodies (bytes_of r) d) h.same.live p.1)))
          k.time
          (λ d now. subst (λ z. Holds z (bodies ++ bytes_of r ∷ []) d) h.same.live ((h.appended bodies sure keeps least).after.stands.images d now));
    }

-- the record is certainly absent
module _ (r : Record) (n m : State) (b : Book) (fx : List Effect) (leaving : List Leaving) (old mid new : Told) (c : Counted old mid)
    (k : Sends (given None n.kept) n.kept.done leaving mid new) (sure : n.journal.unsure ≡ false) (least : 1 ≤ n.journal.end) (runs : m.halted ≡ false)
    (book : m.book ≡ b) (effects : m.effects ≡ n.effects ++ fx) (kept : m.kept ≡ n.kept) where
  pub went_refused : IsAppended appends.Refused r (bytes_of r) n.journal m.journal old mid → Went (Some r) false b fx leaving n m old new
  went_refused h =
      let calls = h.calls sure in
      record {
        book = book;
        effects = effects;
        kept = kept;
        formed = h.is;
        first = calls.made;
        fate = inl (calls.are, fits appends.Refused n.journal.limit (n.journal.end + 6 + length (bytes_of r)) n.journal.unsure tt h.full sure, subst (Rose old.counts.disk) (sym (disk_on mid new k.others)) h.reason);
        made = k.made;
        lost = k.lost;
        tried = k.tried;
        counted = subst (λ z. Counts k.lost z new.counts.link) (link_on old mid c) k.counted;
        calls = grown_then old.calls mid.calls new.calls calls.made k.made calls.grown k.calls;
        live = h.same.live;
        limit = h.same.limit;
        generation = h.same.generation;
        unshut = h.same.unshut;
        sure = stays_sure m.journal.unsure (λ e. subst IsUnsure (sym (h.unsure.0 e)) tt);
        runs = runs;
        stands = λ bodies keeps. subst (λ z. Keeps m.journal z new) (sym (append-nil bodies)) (keeps_on m.journal bodies mid new k.files k.images (h.appended bodies sure keeps least).after);
        moments = λ bodies keeps.
            step_moments old mid new n.journal.live bodies [] calls.made k.made calls.grown
            (makes_silent appends.Refused n.journal.live n.journal.end (bytes_of r) calls.made calls.are) k.calls
            (weaker old mid _ _ (h.appended bodies sure keeps least).time (λ l d p. (p.0, inl (subst (λ z. Holds z bodies d) h.same.live p.1))))
            k.time
            (λ d now. subst (λ z. Holds n.journal.live z d) (sym (append-nil bodies)) (subst (λ z. Holds z bodies d) h.same.live ((h.appended bodies sure keeps least).after.stands.images d now)));
      }

  pub went_full : IsAppended appends.Full r (bytes_of r) n.journal m.journal old mid → Went (Some r) false b fx leaving n m old new
  went_full h =
      let calls = h.calls sure in
      record {
        book = book;
        effects = effects;
        kept = kept;
        formed = h.is;
        first = calls.made;
        fate = inr (calls.are, (h.full.0 refl).1);
        made = k.made;
        lost = k.lost;
        tried = k.tried;
        counted = subst (λ z. Counts k.lost z new.counts.link) (link_on old mid c) k.counted;
        calls = grown_then old.calls mid.calls new.calls calls.made k.made calls.grown k.calls;
        live = h.same.live;
        limit = h.same.limit;
        generation = h.same.generation;
        unshut = h.same.unshut;
        sure = stays_sure m.journal.unsure (λ e. subst IsUnsure (sym (h.unsure.0 e)) tt);
        runs = runs;
        stands = λ bodies keeps. subst (λ z. Keeps m.journal z new) (sym (append-nil bodies)) (keeps_on m.journal bodies mid new k.files k.images (h.appended bodies sure keeps least).after);
        moments = λ bodies keeps.
            step_moments old mid new n.journal.live bodies [] calls.made k.made calls.grown
            (makes_silent appends.Full n.journal.live n.journal.end (bytes_of r) calls.made calls.are) k.calls
            (weaker old mid _ _ (h.appended bodies sure keeps least).time (λ l d p. (p.0, inl (subst (λ z. Holds z bodies d) h.same.live p.1))))
            k.time
            (λ d now. subst (λ z. Holds n.journal.live z d) (sym (append-nil bodies)) (subst (λ z. Holds z bodies d) h.same.live ((h.appended bodies sure keeps least).after.stands.images d now)));
      }

-- there is no record
pub went_plain : (n m : State) (b : Book) (fx : List Effect) (leaving : List Leaving) (old new : Told)
    → Sends (given None n.kept) n.kept.done leaving old new → n.journal.unsure ≡ false → n.halted ≡ false
    → m ≡ record n { book = b; effects = n.effects ++ fx } → Went None true b fx leaving n m old new
went_plain n m b fx leaving old new k sure runs e =
    let journal : m.journal ≡ n.journal = ap (λ (z : State). z.journal) e in
    record {
      book = ap (λ (z : State). z.book) e;
      effects = ap (λ (z : State). z.effects) e;
      kept = ap (λ (z : State). z.kept) e;
      formed = tt;
      first = [];
      fate = (refl, refl);
      made = k.made;
      lost = k.lost;
      tried = k.tried;
      counted = k.counted;
      calls = k.calls;
      live = ap (λ (z : Journal). z.live) journal;
      limit = ap (λ (z : Journal). z.limit) journal;
      generation = ap (λ (z : Journal). z.generation) journal;
      unshut = ap (λ (z : Journal). z.unshut) journal;
      sure = ap (λ (z : Journal). z.unsure) journal ∙ sure;
      runs = ap (λ (z : State). z.halted) e ∙ runs;
      stands = λ bodies keeps. subst (λ z. Keeps z (bodies ++ []) new) (sym journal) (subst (λ z. Keeps n.journal z new) (sym (append-nil bodies)) (keeps_on n.journal bodies old new k.files k.images keeps));
      moments = λ bodies keeps.
          step_moments old old new n.journal.live bodies [] [] k.made (grown_same old.calls) refl k.calls
          (record { adds = λ l d past. inl past; keeps = λ l d past. past }) k.time
          (λ d now. subst (λ z. Holds n.journal.live z d) (sym (append-nil bodies)) (keeps.stands.images d now));
    }

-- the record may stand or not
gate_rose : (unsure : Bool) (rose : Type 0) → unsure ≡ false → (unsure ≡ true) ⊎ rose → rose
gate_rose unsure rose e (inl f) = absurd (true≢false (sym f ∙ e))
gate_rose unsure rose e (inr h) = h

pub stopped : (r : Record) (n m : State) (leaving : List Leaving) (old new : Told) → IsAppended appends.Unsure r (bytes_of r) n.journal m.journal old new
    → n.journal.unsure ≡ false → 1 ≤ n.journal.end → m ≡ record n { journal = m.journal; halted = true } → Stopped r leaving n m old new
stopped r n m leaving old new h sure least e =
    let calls = h.calls sure in
    record {
      same = e;
      unsure = h.unsure.1 refl;
      formed = h.is;
      first = calls.made;
      makes = calls.are;
      calls = calls.grown;
      rose = gate_rose n.journal.unsure (Rose old.counts.gate new.counts.gate) sure h.reason;
      moments = λ bodies keeps.
          halted_moments old new n.journal.live bodies (record { landed = bytes_of r ∷ []; sent = map call_by leaving }) calls.made calls.grown
          (makes_silent appends.Unsure n.journal.live n.journal.end (bytes_of r) calls.made calls.are)
          (weaker old new _ _ (h.appended bodies sure keeps least).time (λ l d p. (p.0, subst (λ z. EitherHolds z bodies (bytes_of r) d) h.same.live p.1)));
    }

-- The counts.
-- of both
with_both : (old mid new : Numbers) → mid ≡ record old { disk = mid.disk; gate = mid.gate } → new ≡ record mid { link = new.link }
    → new ≡ record old { disk = new.disk; gate = new.gate; link = new.link }
with_both old mid new e f =
    f ∙ (λ i. record (e i) { disk = mid.disk; gate = mid.gate; link = new.link })
    ∙ (λ i. record old { disk = sym (ap (λ (z : Numbers). z.disk) f) i; gate = sym (ap (λ (z : Numbers). z.gate) f) i; link = new.link })

pub keeping_both : (ts : List Token) (ids : List Id) (leaving : List Leaving) (old mid new : Told) → Counted old mid → Sends ts ids leaving mid new → Keeping old new
keeping_both ts ids leaving old mid new c k = record {
  disk = subst (λ z. old.counts.disk ≤ z) (sym (disk_on mid new k.others)) c.disk;
  gate = subst (λ z. old.counts.gate ≤ z) (sym (ap (λ (z : Numbers). z.gate) k.others)) c.gate;
  link = subst (λ z. z ≤ new.counts.link) (link_on old mid c) k.later;
  others = with_both old.counts mid.counts new.counts c.others k.others;
  apart = record { link = k.apart.link ∙ c.apart.link; clock = k.apart.clock ∙ c.apart.clock };
}

pub counted_none : (s : Told) → Counted s s
counted_none s = record { disk = omega arith; gate = omega arith; others = refl; apart = record { link = refl; clock = refl } }

pub keeping_none : (s : Told) → Keeping s s
keeping_none s = record { disk = omega arith; gate = omega arith; link = omega arith; others = refl; apart = record { link = refl; clock = refl } }

pub keeping_counted : (old new : Told) → Counted old new → Keeping old new
keeping_counted old new c = record {
  disk = c.disk;
  gate = c.gate;
  link = subst (λ z. old.counts.link ≤ z) (sym (link_on old new c)) (omega arith);
  others = c.others ∙ (λ i. record old.counts { disk = new.counts.disk; gate = new.counts.gate; link = sym (link_on old new c) i });
  apart = c.apart;
}
