-- Rows of steps, one behind the other.
use Rattle.std.proofs.Common.{ℕ, List, [], ◌∷◌, ◌++◌, ◌+◌, ◌≡◌, ◌≤◌, inl, inr, Bool, true, false, Option, Some, None, refl, sym, ◌∙◌, ap, subst, option_map, arith}
use Rattle.std.proofs.lemmas.List.{append_assoc, append-nil, map-append}
use Rattle.at_base.specs.declared.record.Record.{Record}
use Rattle.at_model.specs.Book.{Book}
use Rattle.decision_log.specs.KeptRecords.{Known}
use Rattle.http_post.specs.Conversations.{Hears}
use Rattle.journal_at.specs.declared.journal.Append.TheVariants as appends
use Rattle.journal_at.specs.declared.journal.Journal.{Journal}
use Rattle.journal_at.specs.Pairs.{Holds}
use Rattle.journal_at.specs.StandingBodies.{Keeps}
use Rattle.record_bytes.specs.Bytes.{bytes_of}
use Rattle.site_model.specs.Site.{Counts as Numbers}
use Rattle.site_model.specs.Told.{Told, Made, Still, sent_by}
use Rattle.node_at.specs.Doings.{AreDoings, AreFates, Does, Doing, IsFateAt, NoLess, Ran, book_behind, calls_of, came_of, deed_of, deeds_of, kept_behind, lost_of, refused_of}
use Rattle.node_at.specs.Moments.{Deed, Moments, landed_of, sent_of}
use Rattle.node_at.specs.Refusals.{RanOne}
use Rattle.node_at.specs.Sends.{Counts}
use Rattle.node_at.specs.State.{State}
use Rattle.node_at.specs.Steps.{IsFate, Keeping, Went, if_landed, kept_by, landed_by}
use Rattle.node_at.specs.Turns.{line_of}
use Rattle.node_at.specs.TurnText.{TurnStep}
use Rattle.node_at.proofs.CallRows.{grown_same, grown_then, is_last, through}
use Rattle.node_at.proofs.DeedRows.{deeds_sent_append, landed_append, moments_none, moments_then}
use Rattle.node_at.proofs.StepRecords.{keeps_on, makes_silent}
use Rattle.node_at.proofs.StepMoments.{sending_moment, sent_append}
use Rattle.node_at.proofs.IdFacts.{and_then, weaker}

calls_append : (ds es : List Doing) → calls_of (ds ++ es) ≡ calls_of ds ++ calls_of es
calls_append [] es = refl
calls_append (d ∷ ds) es = ap (λ z. (d.first ++ d.made) ++ z) (calls_append ds es) ∙ sym (append_assoc (d.first ++ d.made) (calls_of ds) (calls_of es))

lost_append : (ds es : List Doing) → lost_of (ds ++ es) ≡ lost_of ds + lost_of es
lost_append [] es = omega arith
lost_append (d ∷ ds) es = let e = lost_append ds es in omega (arith, e)

refused_append : (ds es : List Doing) → refused_of (ds ++ es) ≡ refused_of ds + refused_of es
refused_append [] es = omega arith
refused_append (d ∷ ds) es = let e = refused_append ds es in omega (arith, e)

behind_append : (b : Book) (xs ys : List TurnStep) → book_behind b (xs ++ ys) ≡ book_behind (book_behind b xs) ys
behind_append b [] ys = refl
behind_append b (x ∷ xs) ys = behind_append x.behind xs ys

kept_append : (k : Known) (xs ys : List TurnStep) → kept_behind k (xs ++ ys) ≡ kept_behind (kept_behind k xs) ys
kept_append k [] ys = refl
kept_append k (x ∷ xs) ys = kept_append (kept_by (if_landed x.landed x.entry) k) xs ys

came_append : (xs ys : List TurnStep) → came_of (xs ++ ys) ≡ came_of xs ++ came_of ys
came_append [] ys = refl
came_append (x ∷ xs) ys = ap (λ z. x.came ++ z) (came_append xs ys) ∙ sym (append_assoc x.came (came_of xs) (came_of ys))

are_append : (k : Known) (xs ys : List TurnStep) (ds es : List Doing) → AreDoings k xs ds → AreDoings (kept_behind k xs) ys es → AreDoings k (xs ++ ys) (ds ++ es)
are_append k [] ys [] es h g = g
are_append k [] ys (d ∷ ds) es h g = absurd h
are_append k (x ∷ xs) ys [] es h g = absurd h
are_append k (x ∷ xs) ys (d ∷ ds) es (f, h) g = (f, are_append (kept_by (if_landed x.landed x.entry) k) xs ys ds es h g)

fates_append : (live limit : ℕ) (bodies : List (List ℕ)) (xs ys : List TurnStep) (ds es : List Doing) → AreFates live limit bodies xs ds
    → AreFates live limit (bodies ++ landed_of (deeds_of ds)) ys es → AreFates live limit bodies (xs ++ ys) (ds ++ es)
fates_append live limit bodies [] ys [] es h g = subst (λ z. AreFates live limit z ys es) (append-nil bodies) g
fates_append live limit bodies [] ys (d ∷ ds) es h g = absurd h
fates_append live limit bodies (x ∷ xs) ys [] es h g = absurd h
fates_append live limit bodies (x ∷ xs) ys (d ∷ ds) es (f, h) g =
    (f, fates_append live limit (bodies ++ d.landed) xs ys ds es h (subst (λ z. AreFates live limit z ys es) (sym (append_assoc bodies d.landed (landed_of (deeds_of ds)))) g))

landed_both : (ds es : List Doing) → landed_of (deeds_of (ds ++ es)) ≡ landed_of (deeds_of ds) ++ landed_of (deeds_of es)
landed_both ds es = ap landed_of (map-append deed_of ds es) ∙ landed_append (deeds_of ds) (deeds_of es)

pub does_then : (ds es : List Doing) (j k l : Journal) (old mid new : Told) → Does ds j k old mid → Does es k l mid new → Does (ds ++ es) j l old new
does_then ds es j k l old mid new h g = record {
  calls = grown_then old.calls mid.calls new.calls (calls_of ds) (calls_of es) h.calls g.calls ∙ ap (λ z. option_map (λ l. l ++ z) old.calls) (sym (calls_append ds es));
  sent = ap sent_by (calls_append ds es) ∙ sent_append (calls_of ds) (calls_of es) ∙ (λ i. h.sent i ++ g.sent i)
      ∙ sym (deeds_sent_append (deeds_of ds) (deeds_of es)) ∙ ap sent_of (sym (map-append deed_of ds es));
  live = g.live ∙ h.live;
  limit = g.limit ∙ h.limit;
  generation = g.generation ∙ h.generation;
  unshut = g.unshut ∙ h.unshut;
  stands = λ bodies keeps.
      subst (λ z. Keeps l z new) (append_assoc bodies (landed_of (deeds_of ds)) (landed_of (deeds_of es)) ∙ ap (λ z. bodies ++ z) (sym (landed_both ds es)))
      (g.stands (bodies ++ landed_of (deeds_of ds)) (h.stands bodies keeps));
  moments = λ bodies keeps.
      subst (λ z. Moments j.live bodies z old new) (sym (map-append deed_of ds es))
      (moments_then old mid new j.live bodies (deeds_of ds) (deeds_of es) (calls_of ds) (calls_of es) h.calls g.calls h.sent (h.moments bodies keeps)
      (subst (λ z. Moments z (bodies ++ landed_of (deeds_of ds)) (deeds_of es) mid new) h.live (g.moments (bodies ++ landed_of (deeds_of ds)) (h.stands bodies keeps))));
}

-- no call of disk and network was made
pub does_still : (j : Journal) (old new : Told) → Still old new → Does [] j j old new
does_still j old new h = record {
  calls = h.calls ∙ grown_same old.calls;
  sent = refl;
  live = refl;
  limit = refl;
  generation = refl;
  unshut = refl;
  stands = λ bodies keeps. subst (λ z. Keeps j z new) (sym (append-nil bodies)) (keeps_on j bodies old new h.files h.images keeps);
  moments = λ bodies keeps. moments_none j.live bodies [] old new h.time;
}

-- the interim line was said, or nothing
pub does_line : (j : Journal) (made : List Made) (old new : Told) → Hears made old new → Does (line_of made) j j old new
does_line j made old new h = record {
  calls = h.calls ∙ ap (λ z. option_map (λ l. l ++ z) old.calls) (sym (append-nil made));
  sent = ap sent_by (append-nil made) ∙ sym (append-nil (sent_by made));
  live = refl;
  limit = refl;
  generation = refl;
  unshut = refl;
  stands = λ bodies keeps. subst (λ z. Keeps j z new) (sym (append-nil bodies)) (keeps_on j bodies old new h.files h.images keeps);
  moments = λ bodies keeps.
      weaker old new _ _ h.time
      (λ l c p.
      let between = is_last old new made l h.calls p.0 in (
        between,
        sending_moment old old new j.live bodies [] [] made l c (grown_same old.calls) refl h.calls between
            (subst (λ z. Holds j.live z c) (sym (append-nil bodies)) (keeps.stands.images c p.1)),
      ));
}

-- The fate of a record, at the place where it comes.
pub record Fated (landed : Bool) (entry : Option Record) (journal : Journal) (first : List Made) (old new : Told) : Type 0 where
  pub refused : ℕ
  pub at : IsFateAt landed entry journal.live journal.limit journal.end first refused
  pub silent : sent_by first ≡ []
  pub counted : Counts refused old.counts.disk new.counts.disk

fated : (landed : Bool) (entry : Option Record) (journal : Journal) (first : List Made) (old new : Told) → old.counts.disk ≤ new.counts.disk
    → IsFate landed entry journal first old new → Fated landed entry journal first old new
fated landed None journal first old new le e = record { refused = 0; at = (e.0, refl); silent = ap sent_by e.0; counted = λ below. omega (arith, le) }
fated true (Some r) journal first old new le (makes, room) = record {
  refused = 0;
  at = (makes, room, refl);
  silent = makes_silent appends.Done journal.live journal.end (bytes_of r) first makes;
  counted = λ below. omega (arith, le);
}
fated false (Some r) journal first old new le (inl (makes, room, rose)) = record {
  refused = 1;
  at = inl (makes, room, refl);
  silent = makes_silent appends.Refused journal.live journal.end (bytes_of r) first makes;
  counted = λ below. omega (arith, below, rose);
}
fated false (Some r) journal first old new le (inr (makes, past)) = record {
  refused = 0;
  at = inr (makes, past, refl);
  silent = makes_silent appends.Full journal.live journal.end (bytes_of r) first makes;
  counted = λ below. omega (arith, le);
}

-- Counts.
pub no_less_same : (old new : Numbers) → new ≡ old → NoLess old new
no_less_same old new e = subst (NoLess old) (sym e) (record {
  arming = refl;
  disk = omega arith;
  gate = omega arith;
  accept = omega arith;
  receive = omega arith;
  link = omega arith;
  taken = omega arith;
  closings = omega arith;
  attached = refl;
})

pub no_less_then : (old mid new : Numbers) → NoLess old mid → NoLess mid new → NoLess old new
no_less_then old mid new h g = record {
  arming = g.arming ∙ h.arming;
  disk = omega (arith, h.disk, g.disk);
  gate = omega (arith, h.gate, g.gate);
  accept = omega (arith, h.accept, g.accept);
  receive = omega (arith, h.receive, g.receive);
  link = omega (arith, h.link, g.link);
  taken = omega (arith, h.taken, g.taken);
  closings = omega (arith, h.closings, g.closings);
  attached = g.attached ∙ h.attached;
}

pub no_less_keeping : (old new : Told) → Keeping old new → NoLess old.counts new.counts
no_less_keeping old new h = record {
  arming = ap (λ (z : Numbers). z.arming) h.others;
  disk = h.disk;
  gate = h.gate;
  accept = omega (arith, ap (λ (z : Numbers). z.accept) h.others);
  receive = omega (arith, ap (λ (z : Numbers). z.receive) h.others);
  link = h.link;
  taken = omega (arith, ap (λ (z : Numbers). z.taken) h.others);
  closings = omega (arith, ap (λ (z : Numbers). z.closings) h.others);
  attached = ap (λ (z : Numbers). z.attached) h.others;
}

pub ran_one : (s : TurnStep) (n m : State) (old new : Told) → Went s.entry s.landed s.behind s.came s.leaving n m old new → Keeping old new
    → n.journal.unsure ≡ false → n.halted ≡ false → RanOne s n m old new
ran_one s n m old new w k sure runs =
    let f = fated s.landed s.entry n.journal w.first old new k.disk w.fate in
    let d : Doing = record { landed = landed_by s.landed s.entry; first = w.first; made = w.made; lost = w.lost; refused = f.refused } in
    record {
      doing = d;
      ran = record {
        silent = refl;
        does = record {
          calls = w.calls ∙ ap (λ z. option_map (λ l. l ++ z) old.calls) (sym (append-nil (w.first ++ w.made)));
          sent = ap sent_by (append-nil (w.first ++ w.made)) ∙ sent_append w.first w.made ∙ ap (λ z. z ++ sent_by w.made) f.silent ∙ sym (append-nil (sent_by w.made));
          live = w.live;
          limit = w.limit;
          generation = w.generation;
          unshut = w.unshut;
          stands = λ bodies keeps. subst (λ z. Keeps m.journal (bodies ++ z) new) (sym (append-nil (landed_by s.landed s.entry))) (w.stands bodies keeps);
          moments = w.moments;
        };
        are = (record { formed = w.formed; landed = refl; tried = w.tried }, tt);
        fates = λ bodies keeps. (subst (λ e. IsFateAt s.landed s.entry n.journal.live n.journal.limit e w.first f.refused) keeps.end f.at, tt);
        lost = λ below. omega (arith, w.counted below);
        refused = λ below. omega (arith, f.counted below);
        later = no_less_keeping old new k;
        book = w.book;
        effects = w.effects ∙ ap (λ z. n.effects ++ z) (sym (append-nil s.came));
        kept = w.kept;
        sure = w.sure ∙ sym sure;
        runs = w.runs ∙ sym runs;
      };
    }

module _ (ls : List Doing) (n k m : State) (old mid new : Told) where
  pub ran_on : (xs ys : List TurnStep) (ds es : List Doing) → Ran ls xs ds n k old mid → Ran [] ys es k m mid new → Ran ls (xs ++ ys) (ds ++ es) n m old new
  ran_on xs ys ds es h g =
      let all : landed_of (deeds_of (ls ++ ds)) ≡ landed_of (deeds_of ds) = landed_both ls ds ∙ ap (λ z. z ++ landed_of (deeds_of ds)) h.silent in
      record {
        silent = h.silent;
        does = subst (λ z. Does z n.journal m.journal old new) (append_assoc ls ds es) (does_then (ls ++ ds) es n.journal k.journal m.journal old mid new h.does g.does);
        are = are_append n.kept xs ys ds es h.are (subst (λ z. AreDoings z ys es) h.kept g.are);
        fates = λ bodies keeps.
            fates_append n.journal.live n.journal.limit bodies xs ys ds es (h.fates bodies keeps)
            (subst (λ z. AreFates n.journal.live n.journal.limit (bodies ++ z) ys es) all
            (subst (λ z. AreFates n.journal.live z (bodies ++ landed_of (deeds_of (ls ++ ds))) ys es) h.does.limit
            (subst (λ z. AreFates z k.journal.limit (bodies ++ landed_of (deeds_of (ls ++ ds))) ys es) h.does.live
            (g.fates (bodies ++ landed_of (deeds_of (ls ++ ds))) (h.does.stands bodies keeps)))));
        lost = λ below. let e = lost_append ds es in omega (arith, e, below, g.later.link, g.lost below, h.lost (omega (arith, below, g.later.link)));
        refused = λ below. let e = refused_append ds es in omega (arith, e, below, g.later.disk, g.refused below, h.refused (omega (arith, below, g.later.disk)));
        later = no_less_then old.counts mid.counts new.counts h.later g.later;
        book = g.book ∙ ap (λ z. book_behind z ys) h.book ∙ sym (behind_append n.book xs ys);
        effects = g.effects ∙ ap (λ z. z ++ came_of ys) h.effects ∙ append_assoc n.effects (came_of xs) (came_of ys) ∙ ap (λ z. n.effects ++ z) (sym (came_append xs ys));
        kept = g.kept ∙ ap (λ z. kept_behind z ys) h.kept ∙ sym (kept_append n.kept xs ys);
        sure = g.sure ∙ h.sure;
        runs = g.runs ∙ h.runs;
      }

-- no step
pub ran_none : (ls : List Doing) (n : State) (old new : Told) → landed_of (deeds_of ls) ≡ [] → Does ls n.journal n.journal old new → NoLess old.counts new.counts → Ran ls [] [] n n old new
ran_none ls n old new silent does later = record {
  silent = silent;
  does = subst (λ z. Does z n.journal n.journal old new) (sym (append-nil ls)) does;
  are = tt;
  fates = λ bodies keeps. tt;
  lost = λ below. omega (arith, later.link);
  refused = λ below. omega (arith, later.disk);
  later = later;
  book = refl;
  effects = sym (append-nil n.effects);
  kept = refl;
  sure = refl;
  runs = refl;
}

-- no step, and no call
pub ran_still : (n : State) (old new : Told) → Still old new → NoLess old.counts new.counts → Ran [] [] [] n n old new
ran_still n old new h later = ran_none [] n old new refl (does_still n.journal old new h) later

-- a call that sends nothing and touches no file, behind all steps
pub ran_last : (ls : List Doing) (xs : List TurnStep) (ds : List Doing) (n m : State) (old mid new : Told) → Ran ls xs ds n m old mid → Still mid new → NoLess mid.counts new.counts
    → Ran ls xs ds n m old new
ran_last ls xs ds n m old mid new h s later =
    subst (λ z. Ran ls xs z n m old new) (append-nil ds)
    (subst (λ z. Ran ls z (ds ++ []) n m old new) (append-nil xs) (ran_on ls n m m old mid new xs [] ds [] h (ran_still m mid new s later)))

-- or before them
pub moments_still : (old mid new : Told) (live : ℕ) (bodies : List (List ℕ)) (t : List Deed) → Moments live bodies t old mid → Still mid new → Moments live bodies t old new
moments_still old mid new live bodies t h s =
    and_then old mid new _
    (weaker old mid _ _ h (λ l c p. (through old mid new [] l (s.calls ∙ grown_same mid.calls) p.0, p.1)))
    (weaker mid new _ _ s.time (λ l c p. absurd p))

-- before all steps
pub ran_first : (ls : List Doing) (xs : List TurnStep) (ds : List Doing) (n m : State) (old mid new : Told) → Still old mid → NoLess old.counts mid.counts → Ran ls xs ds n m mid new
    → Ran ls xs ds n m old new
ran_first ls xs ds n m old mid new s later h =
    let quiet = does_still n.journal old mid s in
    record {
      silent = h.silent;
      does = does_then [] (ls ++ ds) n.journal n.journal m.journal old mid new quiet h.does;
      are = h.are;
      fates = λ bodies keeps. h.fates bodies (subst (λ z. Keeps n.journal z mid) (append-nil bodies) (quiet.stands bodies keeps));
      lost = λ below. omega (arith, h.lost below, later.link);
      refused = λ below. omega (arith, h.refused below, later.disk);
      later = no_less_then old.counts mid.counts new.counts later h.later;
      book = h.book;
      effects = h.effects;
      kept = h.kept;
      sure = h.sure;
      runs = h.runs;
    }
