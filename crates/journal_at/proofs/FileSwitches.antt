-- A text that is opened in the other file.
use Rattle.std.proofs.Common.{ℕ, List, Bool, Option, Some, Result, Ok, Err, true, false, zero, suc, [], ◌∷◌, length, ◌≡◌, ◌≢◌, ◌++◌, ◌+◌, ◌-◌, ◌<◌, ◌≤◌, ◌⊎◌, ◌↔◌, inl, inr, ⊎_elim, refl, sym, ◌∙◌, ap, subst, drop, replicate, get_or, option_map, OnOk, arith}
use Rattle.std.specs.Int.{from_be_bytes, to_be_bytes, w32}
use Rattle.std.proofs.lemmas.Bool.{cases_eq}
use Rattle.std.proofs.lemmas.List.{append_assoc, length-append}
use Rattle.std.proofs.lemmas.Nat.{from_be_bytes-to_be_bytes_4}
use Rattle.site_model.proofs.Past.{and_then, weaker}
use Rattle.site_model.specs.Calls.{Outcome, Raised}
use Rattle.site_model.specs.Told.{Told, Call, Files, Is, Between, Elapses, Settled, TornFrom, TornIn, file_of, other_than, with_file, written}
use Rattle.journal_at.specs.declared.journal.Journal.{Journal}
use Rattle.journal_at.specs.declared.journal.Compact.TheVariants.{Done, Kept, Unsure}
use Rattle.journal_at.specs.declared.version.Version.TheVariants.{Two}
use Rattle.journal_at.specs.Compactions.{Acts, Fills, Flips, IsEnd, IsFile, IsFilled, Moves, Prepares, Readies, Safe, prepare_calls, text_of}
use Rattle.journal_at.specs.Format.{AreBodies, AreListed, AreUnmarked, Closed, FileOf, IsBody, Mark, behind, frames, head_of, mark_body, mark_of, marked}
use Rattle.journal_at.specs.Pairs.{Holds, IsLive}
use Rattle.journal_at.specs.Scans.{IsGate}
use Rattle.journal_at.specs.StandingBodies.{Keeps, Spare, Stands, raise}
use Rattle.journal_at.proofs.Frames.{four}
use Rattle.journal_at.proofs.DeviceCalls.{after_that, all_ran, grown_then, option_map_is, through}
use Rattle.journal_at.proofs.SpareFiles.{changed_with, holds_shut, main_of, main_with, torn_of}
use Rattle.journal_at.proofs.OtherFiles.{first_torn, spare_of}

pub mark_of_four : (bs : List ℕ) → length bs ≡ 4 → mark_of (11 ∷ bs) ≡ Some (record { version = Two; generation = from_be_bytes w32 bs })
mark_of_four [] e = absurd (omega (arith, e))
mark_of_four (a ∷ []) e = absurd (omega (arith, e))
mark_of_four (a ∷ b ∷ []) e = absurd (omega (arith, e))
mark_of_four (a ∷ b ∷ c ∷ []) e = absurd (omega (arith, e))
mark_of_four (a ∷ b ∷ c ∷ d ∷ []) e = refl
mark_of_four (a ∷ b ∷ c ∷ d ∷ x ∷ bs) e = absurd (omega (arith, e))

abbrev pub second : ℕ → Option Mark
second n = Some (record { version = Two; generation = n })

pub mark_is : (g : ℕ) → g < 4294967296 → mark_of (mark_body g) ≡ second g
mark_is g l = mark_of_four (to_be_bytes w32 g) (four g) ∙ ap second (from_be_bytes-to_be_bytes_4 g l)

module _ (g : ℕ) (texts : List (List ℕ)) where
  abbrev pub later : List (List ℕ)
  later = mark_body g ∷ texts

  pub later_generation : g < 4294967296 → (head_of later).generation ≡ g
  later_generation l = ap (λ m. (marked m).generation) (mark_is g l)

  pub mark_sized : IsBody (mark_body g)
  mark_sized = let k = four g in record { least = omega (arith, k); most = omega (arith, k) }

  pub later_listed : AreBodies texts → AreUnmarked texts → AreListed later
  later_listed h k = record { sized = (mark_sized, h); placed = k }

  pub text_frames : (rest : List ℕ) → frames later ++ (0 ∷ rest) ≡ 1 ∷ (text_of g texts ++ rest)
  text_frames rest =
      let b = behind (mark_body g) in
      ap (λ z. 1 ∷ z) (append_assoc b (frames texts) (0 ∷ rest) ∙ sym (append_assoc b (frames texts ++ (0 ∷ [])) rest ∙ ap (λ z. b ++ z) (append_assoc (frames texts) (0 ∷ []) rest)))

  pub text_length : length (text_of g texts) ≡ length (frames later)
  text_length =
      let b = behind (mark_body g) in
      let h = length-append b (frames texts ++ (0 ∷ [])) in
      let k = length-append (frames texts) (0 ∷ []) in
      let n = length-append b (frames texts) in
      omega (arith, h, k, n)

  pub closed_later : (f rest : List ℕ) → f ≡ 1 ∷ (text_of g texts ++ rest) → Closed later f
  closed_later f rest e = record { gate = 0; rest = rest; shut = λ z. absurd (omega (arith, z)); is = e ∙ sym (text_frames rest) }

pub newer_live : (o : ℕ) (bodies more : List (List ℕ)) → (head_of bodies).generation < (head_of more).generation → IsLive o more bodies
newer_live zero bodies more h = omega (arith, h)
newer_live (suc n) bodies more h = h

pub gate_of : (u : Bool) (bodies : List (List ℕ)) (f : List ℕ) (end : ℕ) → end ≡ length (frames bodies) → (u ≡ true → 1 ≤ end) → (u ≡ false → end ≡ 0) → Closed bodies f → IsGate u f
gate_of true [] f end e more none h = absurd (omega (arith, e, more refl))
gate_of true (b ∷ bodies) f end e more none h = inr ((behind b ++ frames bodies) ++ (h.gate ∷ h.rest), h.is)
gate_of false [] f end e more none h = record { gate = h.gate; rest = h.rest; shut = h.shut; is = h.is }
gate_of false (b ∷ bodies) f end e more none h = absurd (omega (arith, e, none refl))

module _ (w o : ℕ) (flip : Flips w o) (bodies texts : List (List ℕ)) (g : ℕ) (text : List ℕ) (written_is : text ≡ text_of g texts) (listed : AreListed bodies) (newer : (head_of bodies).generation < (head_of (mark_body g ∷ texts)).generation) (some : bodies ≢ []) where
  abbrev pub more : List (List ℕ)
  more = mark_body g ∷ texts

  pub file_still : (d : Files) → Holds w bodies d → FileOf (file_of w d) bodies
  file_still d h = record { listed = listed; is = inr h.closed }

  pub holds_more : (d c : Files) → Holds w bodies d → file_of w c ≡ file_of w d → Closed more (other_than w c) → Holds o more c
  holds_more d c h e k =
      record {
        closed = subst (Closed more) (sym (flip.of c)) k;
        beside = record { others = bodies; is = subst (λ z. FileOf z bodies) (sym (flip.than c ∙ e)) (file_still d h); newer = newer_live o bodies more newer };
        journal = tt;
      }

  pub opened_text : (f rest : List ℕ) → f ≡ 1 ∷ (text ++ rest) → Closed more f
  opened_text f rest e = closed_later g texts f rest (e ∙ ap (λ z. 1 ∷ (z ++ rest)) written_is)

  pub raise_torn : (d c : Files) → IsFilled w bodies text d → TornIn o 0 1 d c → Holds w bodies c ⊎ Holds o more c
  raise_torn d c h t =
      let main = main_of w o flip bodies 0 1 d c t in
      let is : other_than w c ≡ get_or (other_than w c) 0 0 ∷ (text ++ h.rest) =
      first_torn (other_than w d) (other_than w c) (omega (arith, ap length h.is)) (torn_of w o flip bodies 0 1 d c t) ∙ ap (λ z. get_or (other_than w c) 0 0 ∷ drop 1 z) h.is in
      ⊎_elim
      (λ one. inr (holds_more d c h.holds main (opened_text _ h.rest (is ∙ ap (λ z. z ∷ (text ++ h.rest)) one))))
      (λ other. inl (holds_shut w o flip bodies d c some h.holds main (record { gate = get_or (other_than w c) 0 0; rest = text ++ h.rest; shut = other; is = is })))
      (cases_eq (get_or (other_than w c) 0 0) 1)

  pub raised_text : (d f : Files) → IsFilled w bodies text d → f ≡ with_file o (written 0 (1 ∷ [])) d → Closed more (other_than w f)
  raised_text d f h same =
      let none : 0 - length (other_than w d) ≡ 0 = omega arith in
      opened_text _ h.rest (ap (other_than w) same ∙ changed_with w o flip bodies (written 0 (1 ∷ [])) d ∙ (λ i. replicate (none i) 0 ++ (1 ∷ drop 1 (h.is i))))

  module _ (mid new : Told) (fills : Fills w bodies text mid) where
    pub raise_image : (c : Files) → TornFrom o 0 1 mid.images c → Holds w bodies c ⊎ Holds o more c
    raise_image c (d, was, t) = raise_torn d c (fills.images d was) t

    pub raise_past : {T E : Type 0} (r : Result T E) → Raised o 0 r mid new → Elapses mid new (λ l c. Between mid new l × (Holds w bodies c ⊎ Holds o more c))
    raise_past r h = weaker mid new _ _ h.time (λ l c n. (n.0, raise_image c n.1))

    module _ {T E : Type 0} (r : Result T E) (x : T) (e : r ≡ Ok x) (h : Raised o 0 r mid new) where
      pub opened_file : (f : Files) → Is new.files f → (g : Files) × Is mid.files g × Closed more (other_than w f) × (file_of w f ≡ file_of w g)
      opened_file f is =
          let now : new.files ≡ option_map (with_file o (written 0 (1 ∷ []))) mid.files = subst (λ z. OnOk z (new.files ≡ option_map (with_file o (written 0 (1 ∷ []))) mid.files)) e h.done in
          let (g, was, same) = option_map_is (with_file o (written 0 (1 ∷ []))) mid.files f (sym now ∙ is) in
          (g, was, raised_text g f (fills.files g was) same, ap (file_of w) same ∙ main_with w o flip bodies (written 0 (1 ∷ [])) g)

      pub opened_image : (c : Files) → new.images c → (d : Files) × mid.images d × Closed more (other_than w c) × (file_of w c ≡ file_of w d)
      opened_image c im =
          let (f, is, one) = subst (λ z. OnOk z (Settled o new.files new.images)) e h.settled c im in
          let (g, was, closed, main) = opened_file f is in
          let (d, past, t) = h.images c im in
          (d, past, subst (Closed more) (sym (sym (flip.of c) ∙ one ∙ flip.of f)) closed, main_of w o flip bodies 0 1 d c t)

      pub opened_stands : AreListed more → Stands o more new
      opened_stands k =
          record {
            listed = k;
            files = λ f is. let (g, was, closed, main) = opened_file f is in holds_more g f (fills.files g was).holds main closed;
            images = λ c im. let (d, was, closed, main) = opened_image c im in holds_more d c (fills.images d was).holds main closed;
          }

      pub opened_spare : (u : Bool) (end : ℕ) → end ≡ length (frames bodies) → (u ≡ true → 1 ≤ end) → (u ≡ false → end ≡ 0) → Spare u o more new
      opened_spare u end at some none = spare_of u o more bodies new (newer_live o bodies more newer) file image where
        old_one : (d c : Files) → Holds w bodies d → file_of w c ≡ file_of w d → FileOf (other_than o c) bodies × IsGate u (other_than o c)
        old_one d c k main =
            let same = sym (flip.than c ∙ main) in
            (subst (λ z. FileOf z bodies) same (file_still d k), subst (IsGate u) same (gate_of u bodies _ end at some none k.closed))

        file : (f : Files) → Is new.files f → FileOf (other_than o f) bodies × IsGate u (other_than o f)
        file f is = let (g, was, closed, main) = opened_file f is in old_one g f (fills.files g was).holds main

        image : (c : Files) → new.images c → FileOf (other_than o c) bodies × IsGate u (other_than o c)
        image c im = let (d, was, closed, main) = opened_image c im in old_one d c (fills.images d was).holds main

-- the whole call
pub safe_of : (journal : Journal) (bodies : List (List ℕ)) (s : Told) → Keeps journal bodies s → bodies ≢ [] → Safe journal.unshut journal.live bodies s
safe_of journal bodies s h some = record { stands = h.stands; some = some; spare = h.spare }

pub newer_of : (journal : Journal) (bodies texts : List (List ℕ)) (s : Told) → Keeps journal bodies s → journal.generation < 4294967295 → (head_of bodies).generation < (head_of (mark_body (journal.generation + 1) ∷ texts)).generation
newer_of journal bodies texts s h l = omega (arith, h.generation, later_generation (journal.generation + 1) texts (omega (arith, l)))

pub fills_of : {T E : Type 0} (r : Result T E) (x : T) (u : Bool) (w : ℕ) (bodies : List (List ℕ)) (text : List ℕ) (s : Told) → r ≡ Ok x → Prepares r u w bodies text s → Fills w bodies text s
fills_of r x u w bodies text s e h = (subst (λ z. Prepares z u w bodies text s) e h).0

pub saved_of : {T E : Type 0} (r : Result T E) (x : E) (u : Bool) (w : ℕ) (bodies : List (List ℕ)) (text : List ℕ) (s : Told) → r ≡ Err x → Prepares r u w bodies text s → Safe u w bodies s
saved_of r x u w bodies text s e h = subst (λ z. Prepares z u w bodies text s) e h

pub past_of : (old mid new : Told) (w o : ℕ) (bodies then : List (List ℕ)) {T E U F : Type 0} (r : Result T E) (q : Result U F) (calls : List Call) → Acts calls r old mid → Raised o 0 q mid new
    → Elapses old mid (λ l c. Between old mid l × Holds w bodies c) → Elapses mid new (λ l c. Between mid new l × (Holds w bodies c ⊎ Holds o then c)) → Elapses old new (λ l c. Between old new l × (Holds w bodies c ⊎ Holds o then c))
past_of old mid new w o bodies then r q calls a h s t =
    and_then old mid new _
    (weaker old mid _ _ s (λ l c n. (through old mid new h.calls.made l h.calls.grown n.0, inl n.1)))
    (weaker mid new _ _ t (λ l c n. (after_that old mid new a.runs.made l a.runs.grown n.0, n.1)))

-- the file that was live has an open gate where it has bodies
has_gate : (unshut : Bool) (end : ℕ) → (unshut ≡ true → 1 ≤ end) → (unshut ≡ false → end ≡ 0) → (unshut ≡ true) ↔ (1 ≤ end)
has_gate true end more none = (more, λ k. refl)
has_gate false end more none = (more, λ k. absurd (omega (arith, k, none refl)))

-- the calls, and the journal behind them
module _ (text : List ℕ) (before after : Journal) (old mid new : Told) where
  pub moves_unsure : {T U E F : Type 0} (r : Result T E) (x : T) (q : Result U F) (y : F) → r ≡ Ok x → q ≡ Err y → Acts (prepare_calls before.unshut (1 - before.live) text) r old mid → Raised (1 - before.live) 0 q mid new
      → IsFile Unsure before after → IsEnd Unsure text before after → after.unshut ≡ false → Moves Unsure text before after old new
  moves_unsure r x q y e f h k file end shut =
      let a = all_ran (prepare_calls before.unshut (1 - before.live) text) r x old mid e h.runs in
      record {
        made = a.made ++ k.calls.made;
        are = (k.calls.made, ap (λ z. z ++ k.calls.made) a.is, subst (λ z. Outcome (raise (1 - before.live) 0) z k.calls.made) f k.calls.outcome);
        file = file;
        end = end;
        unshut = shut;
        grown = grown_then old.calls mid.calls new.calls a.made k.calls.made a.grown k.calls.grown;
      }

  pub moves_done : {T U E F : Type 0} (r : Result T E) (x : T) (q : Result U F) (y : U) → r ≡ Ok x → q ≡ Ok y → Acts (prepare_calls before.unshut (1 - before.live) text) r old mid → Raised (1 - before.live) 0 q mid new
      → IsFile Done before after → IsEnd Done text before after → (after.unshut ≡ true → 1 ≤ before.end) → (after.unshut ≡ false → before.end ≡ 0) → Moves Done text before after old new
  moves_done r x q y e f h k file end more none =
      let a = all_ran (prepare_calls before.unshut (1 - before.live) text) r x old mid e h.runs in
      record {
        made = a.made ++ k.calls.made;
        are = (λ i. a.is i ++ subst (λ z. Outcome (raise (1 - before.live) 0) z k.calls.made) f k.calls.outcome i);
        file = file;
        end = end;
        unshut = has_gate after.unshut before.end more none;
        grown = grown_then old.calls mid.calls new.calls a.made k.calls.made a.grown k.calls.grown;
      }

pub moves_kept : {T E : Type 0} (text : List ℕ) (before after : Journal) (old new : Told) (r : Result T E) (x : E) → r ≡ Err x → Readies (prepare_calls before.unshut (1 - before.live) text) before.unshut after.unshut r old new
    → IsFile Kept before after → IsEnd Kept text before after → Moves Kept text before after old new
moves_kept text before after old new r x e h file end =
    record { made = h.acts.runs.made; are = subst (λ z. Outcome (prepare_calls before.unshut (1 - before.live) text) z h.acts.runs.made) e h.acts.runs.outcome; file = file; end = end; unshut = h.flag; grown = h.acts.runs.grown }
