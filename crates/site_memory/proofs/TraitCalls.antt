-- Each call of a machine in memory is one of the trait's.
use Rattle.std.proofs.Common.{ℕ, List, Bool, zero, suc, Some, None, Result, Ok, Err, [], ◌∷◌, length, ◌≡◌, ◌++◌, ◌+◌, ◌≤◌, ◌⊎◌, inl, inr, refl, sym, ◌∙◌, ap, subst, take, drop, arith, Option, option_map, OnOk, OnErr}
use Rattle.std.proofs.lemmas.List.{append-nil, append_assoc, length-append, take_at, take-append-le, take-append-drop}
use Rattle.site_model.specs.Told.{Told, Call, Made, Files, Link, TornIn, Tears, Within, Settled, Is, IsPrefix, Between, Elapses, Now, file_of, done, failed, written, with_file}
use Rattle.site_model.specs.Told.Call.{Write, Sync, Send, Post}
use Rattle.site_model.specs.Site.{Counts, OnDisk, OnGate, OnLink}
use Rattle.site_model.specs.Calls.{Runs, Wrote, Synced, Raised, Gave}
use Rattle.site_memory.specs.declared.arm.Arm.{Arm}
use Rattle.site_memory.specs.declared.entry.Noted.{Noted}
use Rattle.site_memory.specs.declared.entry.Noted.TheVariants.{Done, Failed, Not}
use Rattle.site_memory.specs.declared.range.Which.TheVariants.{First, Second}
use Rattle.site_memory.specs.Answers.{Says}
use Rattle.site_memory.specs.Disk.{Disk, MayBe, Image, disk}
use Rattle.site_memory.specs.Entries.{Notes}
use Rattle.site_memory.specs.Tells.{reads, tells}
use Rattle.site_memory.proofs.FurtherCalls.{effect, after_notes}
use Rattle.site_memory.proofs.Images.{tears, seen_image, torn_same, torn_written}
use Rattle.site_model.proofs.Past.{and_then, weaker}

abbrev pub inside : {A : Type 0} → A → Option A → A
inside a None = a
inside a (Some x) = x

pub same_inside : {A : Type 0} (a b : A) → Some a ≡ Some b → a ≡ b
same_inside a b e = ap (inside a) e

-- what is in front of one more
pub prefix_push : (l old : List Made) (m : Made) → IsPrefix l (old ++ m ∷ []) → IsPrefix l old ⊎ (l ≡ old ++ m ∷ [])
prefix_push l old m ([], e) = inr (sym (append-nil l) ∙ e)
prefix_push l old m (x ∷ rest, e) =
    let long : length l + length (x ∷ rest) ≡ length old + 1 = sym (length-append l (x ∷ rest)) ∙ ap length e ∙ length-append old (m ∷ []) in
    let short : length l ≤ length old = omega (arith, long) in
    let front : l ≡ take (length l) old =
    sym (take_at l (x ∷ rest) _ refl) ∙ ap (take (length l)) e ∙ take-append-le (length l) old (m ∷ []) short in
    inl (drop (length l) old, ap (λ z. z ++ drop (length l) old) front ∙ take-append-drop (length l) old)

pub prefix_more : (l old : List Made) (m : Made) → IsPrefix l old → IsPrefix l (old ++ m ∷ [])
prefix_more l old m (rest, e) = (rest ++ m ∷ [], sym (append_assoc l rest (m ∷ [])) ∙ ap (λ z. z ++ m ∷ []) e)

module _ (o : Files) (link : Link) (clock : ℕ) (k k' : Counts) where
  abbrev pub before : List Made → Told
  before old = tells o old link clock k

  abbrev pub behind : List Made → Told
  behind new = tells o new link clock k'

  pub grows : (old new : List Made) (m : Made) → new ≡ old ++ m ∷ [] → Elapses (before old) (behind new) (Now (behind new))
  grows old new m e =
      record {
        adds = λ l c h. adds l c (subst (IsPrefix l) e h.0) h.1;
        keeps = λ l c h. (subst (IsPrefix l) (sym e) (prefix_more l old m h.0), h.1);
      } where
        adds : (l : List Made) (c : Files) → IsPrefix l (old ++ m ∷ []) → Image o l c → (IsPrefix l old × Image o l c) ⊎ Now (behind new) l c
        adds l c p h = either (prefix_push l old m p) where
          either : IsPrefix l old ⊎ (l ≡ old ++ m ∷ []) → (IsPrefix l old × Image o l c) ⊎ Now (behind new) l c
          either (inl q) = inl (q, h)
          either (inr q) = inr (ap Some (e ∙ sym q), subst (λ z. Image o z c) (q ∙ sym e) h)

  pub stands : (old new : List Made) (P : List Made → Files → Type 0) → new ≡ old → Elapses (before old) (behind new) P
  stands old new P e = record { adds = λ l c h. inl (subst (IsPrefix l) e h.0, h.1); keeps = λ l c h. (subst (IsPrefix l) (sym e) h.0, h.1) }

  pub timed : (call : Call) (noted : Noted) (a b : Arm) (v w : Bool) (old new : List Made) → Notes call noted a b v w old new → Elapses (before old) (behind new) (Now (behind new))
  timed call Done a b v w old new h = grows old new (done call) h.3
  timed call Failed a b v w old new h = grows old new (failed call) h.3
  timed call Not a b v w old new h = stands old new _ h.1

  pub ran : {T E : Type 0} (call : Call) (noted : Noted) (r : Result T E) (a b : Arm) (v w : Bool) (old new : List Made) → Notes call noted a b v w old new → Says noted r → Runs (call ∷ []) r (before old) (behind new)
  ran call Done (Ok x) a b v w old new h s = record { made = done call ∷ []; outcome = refl; grown = ap Some h.3 }
  ran call Done (Err x) a b v w old new h s = absurd s
  ran call Failed (Ok x) a b v w old new h s = absurd s
  ran call Failed (Err x) a b v w old new h s = record { made = failed call ∷ []; outcome = record { front = []; call = call; rest = []; split = refl; is = inl refl }; grown = ap Some h.3 }
  ran call Not (Ok x) a b v w old new h s = absurd s
  ran call Not (Err x) a b v w old new h s = record { made = []; outcome = record { front = []; call = call; rest = []; split = refl; is = inr refl }; grown = ap Some (h.1 ∙ sym (append-nil old)) }

  abbrev pub both : List ℕ → List ℕ → Files
  both x y = record { first = x; second = y }

  -- what reads give
  abbrev pub reading : ℕ → ℕ → List ℕ → Noted → Files → Files
  reading file at bytes Done f = with_file file (written at bytes) f
  reading file at bytes Failed f = f
  reading file at bytes Not f = f

  pub effects_read : (file at : ℕ) (bytes : List ℕ) (noted : Noted) (d e : Disk) → both (effect First (Write file at bytes) noted d).seen (effect Second (Write file at bytes) noted e).seen ≡ reading file at bytes noted (both d.seen e.seen)
  effects_read zero at bytes Done d e = refl
  effects_read zero at bytes Failed d e = refl
  effects_read zero at bytes Not d e = refl
  effects_read (suc n) at bytes Done d e = refl
  effects_read (suc n) at bytes Failed d e = refl
  effects_read (suc n) at bytes Not d e = refl

  pub write_reads : (file at : ℕ) (bytes : List ℕ) (noted : Noted) (a b : Arm) (v w : Bool) (old new : List Made) → Notes (Write file at bytes) noted a b v w old new → reads o new ≡ reading file at bytes noted (reads o old)
  write_reads file at bytes noted a b v w old new h =
      (λ i. both (after_notes First o (Write file at bytes) noted a b v w old new h i).seen (after_notes Second o (Write file at bytes) noted a b v w old new h i).seen)
      ∙ effects_read file at bytes noted (disk First o old) (disk Second o old)

  pub write_images : (file at : ℕ) (bytes : List ℕ) (noted : Noted) (a b : Arm) (v w : Bool) (old new : List Made) → Notes (Write file at bytes) noted a b v w old new → Tears file at (length bytes) (Image o old) (Image o new)
  write_images file at bytes noted a b v w old new h c im =
      tears file at bytes noted _ _ c (subst (λ d. MayBe d c.first) (after_notes First o _ noted a b v w old new h) im.0) (subst (λ d. MayBe d c.second) (after_notes Second o _ noted a b v w old new h) im.1)

  -- a write that failed left what reads give
  pub as_it_was : (file at n : ℕ) (old new : List Made) → reads o new ≡ reads o old → Tears file at n (Is (Some (reads o old))) (Is (Some (reads o new)))
  as_it_was file at n old new e c is = (c, ap Some (sym e) ∙ is, still file) where
    still : (file : ℕ) → TornIn file at n c c
    still zero = record { torn = torn_same at n c.first; kept = refl }
    still (suc m) = record { torn = torn_same at n c.second; kept = refl }

  pub wrote : {E : Type 0} (file at : ℕ) (bytes : List ℕ) (noted : Noted) (r : Result (Unit {0}) E) (a b : Arm) (v w : Bool) (old new : List Made) → Notes (Write file at bytes) noted a b v w old new → Says noted r → OnDisk k k' r → Wrote file at bytes r (before old) (behind new)
  wrote file at bytes noted r a b v w old new h s d =
      record {
        calls = ran (Write file at bytes) noted r a b v w old new h s;
        done = on_ok noted r s (write_reads file at bytes noted a b v w old new h);
        failed = on_err noted r s (write_reads file at bytes noted a b v w old new h);
        images = write_images file at bytes noted a b v w old new h;
        time = timed (Write file at bytes) noted a b v w old new h;
        apart = record { link = refl; clock = refl };
        counts = d;
      } where
        on_ok : {T E : Type 0} (noted : Noted) (r : Result T E) → Says noted r → reads o new ≡ reading file at bytes noted (reads o old) → OnOk r ((behind new).files ≡ option_map (with_file file (written at bytes)) (before old).files)
        on_ok Done (Ok x) s e = ap Some e
        on_ok Failed (Ok x) s e = absurd s
        on_ok Not (Ok x) s e = absurd s
        on_ok noted (Err x) s e = tt

        on_err : {T E : Type 0} (noted : Noted) (r : Result T E) → Says noted r → reads o new ≡ reading file at bytes noted (reads o old) → OnErr r (Tears file at (length bytes) (Is (before old).files) (Is (behind new).files))
        on_err noted (Ok x) s e = tt
        on_err Done (Err x) s e = absurd s
        on_err Failed (Err x) s e = as_it_was file at (length bytes) old new e
        on_err Not (Err x) s e = as_it_was file at (length bytes) old new e

  -- a call that changes no file
  abbrev pub Keeps : Call → Type 0
  Keeps call = (noted : Noted) (d : Disk) → (effect First call noted d ≡ d) × (effect Second call noted d ≡ d)

  pub sent_keeps : (bytes : List ℕ) → Keeps (Send bytes)
  sent_keeps bytes Done d = (refl, refl)
  sent_keeps bytes Failed d = (refl, refl)
  sent_keeps bytes Not d = (refl, refl)

  pub posted_keeps : (host : List ℕ) (port : ℕ) (bytes : List ℕ) → Keeps (Post host port bytes)
  posted_keeps host port bytes Done d = (refl, refl)
  posted_keeps host port bytes Failed d = (refl, refl)
  posted_keeps host port bytes Not d = (refl, refl)

  pub gave : {T E : Type 0} (call : Call) (noted : Noted) (r : Result T E) (a b : Arm) (v w : Bool) (old new : List Made) → Keeps call → Notes call noted a b v w old new → Says noted r → OnLink k k' r → Gave call r (before old) (behind new)
  gave call noted r a b v w old new keeps h s d =
      let one : disk First o new ≡ disk First o old = after_notes First o call noted a b v w old new h ∙ (keeps noted _).0 in
      let two : disk Second o new ≡ disk Second o old = after_notes Second o call noted a b v w old new h ∙ (keeps noted _).1 in
      record {
        calls = ran call noted r a b v w old new h s;
        files = λ i. Some (both (one i).seen (two i).seen);
        images = λ c im. (subst (λ z. MayBe z c.first) one im.0, subst (λ z. MayBe z c.second) two im.1);
        time = timed call noted a b v w old new h;
        apart = record { link = refl; clock = refl };
        counts = d;
      }

  pub sync_reads : (file : ℕ) (noted : Noted) (d e : Disk) → both (effect First (Sync file) noted d).seen (effect Second (Sync file) noted e).seen ≡ both d.seen e.seen
  sync_reads zero Done d e = refl
  sync_reads zero Failed d e = refl
  sync_reads zero Not d e = refl
  sync_reads (suc n) Done d e = refl
  sync_reads (suc n) Failed d e = refl
  sync_reads (suc n) Not d e = refl

  pub sync_keeps : (file : ℕ) (noted : Noted) (d e : Disk) (x y : List ℕ) → MayBe d d.seen → MayBe e e.seen → MayBe (effect First (Sync file) noted d) x → MayBe (effect Second (Sync file) noted e) y → MayBe d x × MayBe e y
  sync_keeps zero Done d e x y s t h k = (subst (MayBe d) (sym h) s, k)
  sync_keeps zero Failed d e x y s t h k = (h, k)
  sync_keeps zero Not d e x y s t h k = (h, k)
  sync_keeps (suc n) Done d e x y s t h k = (h, subst (MayBe e) (sym k) t)
  sync_keeps (suc n) Failed d e x y s t h k = (h, k)
  sync_keeps (suc n) Not d e x y s t h k = (h, k)

  pub sync_settles : (file : ℕ) (d e : Disk) (c : Files) → MayBe (effect First (Sync file) Done d) c.first → MayBe (effect Second (Sync file) Done e) c.second → file_of file c ≡ file_of file (both d.seen e.seen)
  sync_settles zero d e c h k = h
  sync_settles (suc n) d e c h k = k

  pub sync_files : (file : ℕ) (noted : Noted) (a b : Arm) (v w : Bool) (old new : List Made) → Notes (Sync file) noted a b v w old new → reads o new ≡ reads o old
  sync_files file noted a b v w old new h =
      (λ i. both (after_notes First o (Sync file) noted a b v w old new h i).seen (after_notes Second o (Sync file) noted a b v w old new h i).seen)
      ∙ sync_reads file noted (disk First o old) (disk Second o old)

  pub sync_images : (file : ℕ) (noted : Noted) (a b : Arm) (v w : Bool) (old new : List Made) → Notes (Sync file) noted a b v w old new → Within (Image o old) (Image o new)
  sync_images file noted a b v w old new h c im =
      sync_keeps file noted _ _ c.first c.second (seen_image First o old) (seen_image Second o old) (subst (λ d. MayBe d c.first) (after_notes First o _ noted a b v w old new h) im.0) (subst (λ d. MayBe d c.second) (after_notes Second o _ noted a b v w old new h) im.1)

  pub sync_done : (file : ℕ) (a b : Arm) (v w : Bool) (old new : List Made) → Notes (Sync file) Done a b v w old new → Settled file (before old).files (Image o new)
  sync_done file a b v w old new h c im = (
    reads o old,
    refl,
    sync_settles file (disk First o old) (disk Second o old) c (subst (λ d. MayBe d c.first) (after_notes First o (Sync file) Done a b v w old new h) im.0) (subst (λ d. MayBe d c.second) (after_notes Second o (Sync file) Done a b v w old new h) im.1),
  )

  pub synced_so : {T E : Type 0} (file : ℕ) (noted : Noted) (r : Result T E) (a b : Arm) (v w : Bool) (old new : List Made) → Notes (Sync file) noted a b v w old new → Says noted r → OnDisk k k' r → Synced file r (before old) (behind new)
  synced_so file noted r a b v w old new h s d =
      record {
        calls = ran (Sync file) noted r a b v w old new h s;
        done = on_ok noted r s h;
        files = ap Some (sync_files file noted a b v w old new h);
        images = sync_images file noted a b v w old new h;
        time = timed (Sync file) noted a b v w old new h;
        apart = record { link = refl; clock = refl };
        counts = d;
      } where
        on_ok : {T E : Type 0} (noted : Noted) (r : Result T E) → Says noted r → Notes (Sync file) noted a b v w old new → OnOk r (Settled file (before old).files (Image o new))
        on_ok Done (Ok x) s h = sync_done file a b v w old new h
        on_ok Failed (Ok x) s h = absurd s
        on_ok Not (Ok x) s h = absurd s
        on_ok noted (Err x) s h = tt

  -- one call more is between
  pub now_between : (old mid new : List Made) (l : List Made) → IsPrefix old mid → IsPrefix mid new → Some mid ≡ Some l → Between (before old) (behind new) l
  now_between old mid new l p q e =
      let same : mid ≡ l = same_inside mid l e in
      (old, new, refl, refl, subst (IsPrefix old) same p, subst (λ z. IsPrefix z new) same q)

  pub noted_prefix : (call : Call) (noted : Noted) (a b : Arm) (v w : Bool) (old new : List Made) → Notes call noted a b v w old new → IsPrefix old new
  noted_prefix call Done a b v w old new h = (done call ∷ [], sym h.3)
  noted_prefix call Failed a b v w old new h = (failed call ∷ [], sym h.3)
  noted_prefix call Not a b v w old new h = ([], append-nil old ∙ sym h.1)

  abbrev pub IsLost : Noted → Type 0
  IsLost Done = ⊥
  IsLost Failed = Unit {0}
  IsLost Not = Unit {0}

  pub lost_ok : {T E : Type 0} (P : Type 0) (noted : Noted) (r : Result T E) → IsLost noted → Says noted r → OnOk r P
  lost_ok P Done r n s = absurd n
  lost_ok P Failed (Ok x) n s = absurd s
  lost_ok P Failed (Err x) n s = tt
  lost_ok P Not (Ok x) n s = absurd s
  lost_ok P Not (Err x) n s = tt

  pub lost_err : {T E : Type 0} {P : Type 0} (r : Result T E) → P → OnErr r P
  lost_err (Ok x) p = tt
  lost_err (Err x) p = p

  -- the gate's write wasn't done
  pub raised_early : {T E : Type 0} (file at : ℕ) (noted : Noted) (r : Result T E) (a b : Arm) (v w : Bool) (old new : List Made) → Notes (Write file at (1 ∷ [])) noted a b v w old new → IsLost noted → Says noted r → OnGate k k' r → Raised file at r (before old) (behind new)
  raised_early file at noted r a b v w old new h n s d =
      record {
        calls = runs noted r n s h;
        done = lost_ok _ noted r n s;
        settled = lost_ok _ noted r n s;
        failed = lost_err r (as_it_was file at 1 old new (as_before noted n (write_reads file at (1 ∷ []) noted a b v w old new h)));
        images = write_images file at (1 ∷ []) noted a b v w old new h;
        time = weaker (before old) (behind new) _ _ (timed (Write file at (1 ∷ [])) noted a b v w old new h) (λ l c is. (now_between old new new l (noted_prefix _ noted a b v w old new h) ([], append-nil new) is.0, write_images file at (1 ∷ []) noted a b v w old new h c is.1));
        apart = record { link = refl; clock = refl };
        counts = d;
      } where
        as_before : (noted : Noted) → IsLost noted → reads o new ≡ reading file at (1 ∷ []) noted (reads o old) → reads o new ≡ reads o old
        as_before Done n e = absurd n
        as_before Failed n e = e
        as_before Not n e = e

        runs : {T E : Type 0} (noted : Noted) (r : Result T E) → IsLost noted → Says noted r → Notes (Write file at (1 ∷ [])) noted a b v w old new → Runs (Write file at (1 ∷ []) ∷ Sync file ∷ []) r (before old) (behind new)
        runs Done r n s h = absurd n
        runs Failed (Ok x) n s h = absurd s
        runs Failed (Err x) n s h = record { made = failed (Write file at (1 ∷ [])) ∷ []; outcome = record { front = []; call = Write file at (1 ∷ []); rest = Sync file ∷ []; split = refl; is = inl refl }; grown = ap Some h.3 }
        runs Not (Ok x) n s h = absurd s
        runs Not (Err x) n s h = record { made = []; outcome = record { front = []; call = Write file at (1 ∷ []); rest = Sync file ∷ []; split = refl; is = inr refl }; grown = ap Some (h.1 ∙ sym (append-nil old)) }

  pub torn_in_file : (file at : ℕ) (bytes : List ℕ) (f : Files) → TornIn file at (length bytes) f (with_file file (written at bytes) f)
  torn_in_file zero at bytes f = record { torn = torn_written at bytes f.first; kept = refl }
  torn_in_file (suc n) at bytes f = record { torn = torn_written at bytes f.second; kept = refl }

-- the gate's write was done
pub raised_late : {T E : Type 0} (o : Files) (link : Link) (clock : ℕ) (k k' : Counts) (file at : ℕ) (noted : Noted) (r : Result T E) (a b b' : Arm) (v w w' : Bool) (old mid new : List Made) → Notes (Write file at (1 ∷ [])) Done a b v w old mid → Notes (Sync file) noted b b' w w' mid new → Says noted r → OnGate k k' r → Raised file at r (tells o old link clock k) (tells o new link clock k')
raised_late o link clock k k' file at noted r a b b' v w w' old mid new h g s d =
    record {
      calls = runs noted r s g;
      done = on_ok r (ap Some there);
      settled = settled noted r s g;
      failed = on_err r (λ f is. (reads o old, refl, subst (TornIn file at 1 (reads o old)) (sym there ∙ same_inside _ _ is) (torn_in_file o link clock k k' file at (1 ∷ []) (reads o old))));
      images = λ c im. torn c (sync_images o link clock k k' file noted b b' w w' mid new g c im);
      time = and_then (tells o old link clock k) (tells o mid link clock k') (tells o new link clock k') _
          (weaker (tells o old link clock k) (tells o mid link clock k') _ _ (timed o link clock k k' _ Done a b v w old mid h) (λ l c n. (now_between o link clock k k' old mid new l p q n.0, torn c n.1)))
          (weaker (tells o mid link clock k') (tells o new link clock k') _ _ (timed o link clock k' k' _ noted b b' w w' mid new g) (λ l c n. (now_between o link clock k k' old new new l (through p q) ([], append-nil new) n.0, torn c (sync_images o link clock k k' file noted b b' w w' mid new g c n.1))));
      apart = record { link = refl; clock = refl };
      counts = d;
    } where
      torn : Tears file at 1 (Image o old) (Image o mid)
      torn = write_images o link clock k k' file at (1 ∷ []) Done a b v w old mid h

      p : IsPrefix old mid
      p = noted_prefix o link clock k k' _ Done a b v w old mid h

      q : IsPrefix mid new
      q = noted_prefix o link clock k k' _ noted b b' w w' mid new g

      through : IsPrefix old mid → IsPrefix mid new → IsPrefix old new
      through (x, e) (y, f) = (x ++ y, sym (append_assoc old x y) ∙ ap (λ z. z ++ y) e ∙ f)

      there : reads o new ≡ with_file file (written at (1 ∷ [])) (reads o old)
      there = sync_files o link clock k k' file noted b b' w w' mid new g ∙ write_reads o link clock k k' file at (1 ∷ []) Done a b v w old mid h

      on_ok : {T E : Type 0} {P : Type 0} (r : Result T E) → P → OnOk r P
      on_ok (Ok x) y = y
      on_ok (Err x) y = tt

      on_err : {T E : Type 0} {P : Type 0} (r : Result T E) → P → OnErr r P
      on_err (Ok x) y = tt
      on_err (Err x) y = y

      settled : {T E : Type 0} (noted : Noted) (r : Result T E) → Says noted r → Notes (Sync file) noted b b' w w' mid new → OnOk r (Settled file (Some (reads o new)) (Image o new))
      settled Done (Ok x) s g = subst (λ f. Settled file (Some f) (Image o new)) (sym (sync_files o link clock k k' file Done b b' w w' mid new g)) (sync_done o link clock k k' file b b' w w' mid new g)
      settled Failed (Ok x) s g = absurd s
      settled Not (Ok x) s g = absurd s
      settled noted (Err x) s g = tt

      runs : {T E : Type 0} (noted : Noted) (r : Result T E) → Says noted r → Notes (Sync file) noted b b' w w' mid new → Runs (Write file at (1 ∷ []) ∷ Sync file ∷ []) r (tells o old link clock k) (tells o new link clock k')
      runs Done (Ok x) s g = record { made = done (Write file at (1 ∷ [])) ∷ done (Sync file) ∷ []; outcome = refl; grown = ap Some (g.3 ∙ ap (λ z. z ++ done (Sync file) ∷ []) h.3 ∙ append_assoc old _ _) }
      runs Done (Err x) s g = absurd s
      runs Failed (Ok x) s g = absurd s
      runs Failed (Err x) s g = record { made = done (Write file at (1 ∷ [])) ∷ failed (Sync file) ∷ []; outcome = record { front = Write file at (1 ∷ []) ∷ []; call = Sync file; rest = []; split = refl; is = inl refl }; grown = ap Some (g.3 ∙ ap (λ z. z ++ failed (Sync file) ∷ []) h.3 ∙ append_assoc old _ _) }
      runs Not (Ok x) s g = absurd s
      runs Not (Err x) s g = record { made = done (Write file at (1 ∷ [])) ∷ []; outcome = record { front = Write file at (1 ∷ []) ∷ []; call = Sync file; rest = []; split = refl; is = inr refl }; grown = ap Some (g.1 ∙ h.3) }
