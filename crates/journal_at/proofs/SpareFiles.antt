-- What the file that isn't live holds while it is made ready.
use Rattle.std.proofs.Common.{ℕ, List, Bool, Result, Ok, Err, true, false, zero, suc, [], ◌∷◌, length, ◌≡◌, ◌≢◌, ◌++◌, ◌+◌, ◌-◌, ◌≤◌, ⊎_elim, refl, sym, ◌∙◌, ap, subst, take, drop, replicate, option_map, OnOk, OnErr, arith}
use Rattle.std.proofs.lemmas.List.{take-append-drop}
use Rattle.site_model.proofs.Past.{weaker}
use Rattle.site_model.specs.Calls.{Synced, Wrote}
use Rattle.site_model.specs.Told.{Told, Files, Is, Between, Elapses, Tears, Torn, TornFrom, TornIn, file_of, other_than, with_file, written}
use Rattle.journal_at.specs.Compactions.{Flips, IsFilled, IsShutIn, Prepares, Safe, Saved}
use Rattle.journal_at.specs.Format.{Closed}
use Rattle.journal_at.specs.Pairs.{Beside, Holds}
use Rattle.journal_at.specs.Frames.{IsShut}
use Rattle.journal_at.specs.StandingBodies.{Laid, MayShut, Spare}
use Rattle.journal_at.proofs.Appends.{file_with, other_with}
use Rattle.journal_at.proofs.DeviceCalls.{is_last, option_map_is}
use Rattle.journal_at.proofs.NewJournals.{journal_some}
use Rattle.journal_at.proofs.OtherFiles.{beside_shut, may_torn}

pub flips : (w : ℕ) → w ≤ 1 → Flips w (1 - w)
flips zero h = record { of = λ f. refl; than = λ f. refl }
flips (suc zero) h = record { of = λ f. refl; than = λ f. refl }
flips (suc (suc n)) h = absurd (omega (arith, h))

pub shut_torn : (n : ℕ) (o x : List ℕ) → IsShut o → Torn 1 n o x → IsShut x
shut_torn n o x s t =
    let long : 1 ≤ length o = omega (arith, ap length s.is) in
    let front : take 1 x ≡ s.gate ∷ [] = t.before 1 (omega arith) long ∙ ap (take 1) s.is in
    record { gate = s.gate; rest = drop 1 x; shut = s.shut; is = sym (take-append-drop 1 x) ∙ ap (λ z. z ++ drop 1 x) front }

pub shut_written : (o : List ℕ) → IsShut (written 0 (0 ∷ []) o)
shut_written o =
    let none : 0 - length o ≡ 0 = omega arith in
    record { gate = 0; rest = drop 1 o; shut = λ z. absurd (omega (arith, z)); is = (λ i. replicate (none i) 0 ++ (0 ∷ drop 1 o)) }

module _ (w o : ℕ) (flip : Flips w o) (bodies : List (List ℕ)) where
  pub main_of : (at n : ℕ) (d c : Files) → TornIn o at n d c → file_of w c ≡ file_of w d
  main_of at n d c t = sym (flip.than c) ∙ t.kept ∙ flip.than d

  pub torn_of : (at n : ℕ) (d c : Files) → TornIn o at n d c → Torn at n (other_than w d) (other_than w c)
  torn_of at n d c t = subst (λ z. Torn at n z (other_than w c)) (flip.of d) (subst (λ z. Torn at n (file_of o d) z) (flip.of c) t.torn)

  pub main_with : (change : List ℕ → List ℕ) (f : Files) → file_of w (with_file o change f) ≡ file_of w f
  main_with change f = sym (flip.than (with_file o change f)) ∙ other_with o change f ∙ flip.than f

  pub changed_with : (change : List ℕ → List ℕ) (f : Files) → other_than w (with_file o change f) ≡ change (other_than w f)
  changed_with change f = sym (flip.of (with_file o change f)) ∙ file_with o change f ∙ ap change (flip.of f)

  pub holds_beside : (d c : Files) → bodies ≢ [] → Holds w bodies d → file_of w c ≡ file_of w d → Beside w bodies (other_than w c) → Holds w bodies c
  holds_beside d c some h e b = record { closed = subst (Closed bodies) (sym e) h.closed; beside = b; journal = journal_some bodies c some }

  pub holds_shut : (d c : Files) → bodies ≢ [] → Holds w bodies d → file_of w c ≡ file_of w d → IsShut (other_than w c) → Holds w bodies c
  holds_shut d c some h e s = holds_beside d c some h e (beside_shut w bodies _ _ h.beside s)

  pub holds_torn : (d c : Files) → bodies ≢ [] → Holds w bodies d → MayShut w bodies (other_than w d) → TornIn o 0 1 d c → Holds w bodies c
  holds_torn d c some h m t = holds_beside d c some h (main_of 0 1 d c t) (m.any _ (torn_of 0 1 d c t))

  pub may_still : (d c : Files) → MayShut w bodies (other_than w d) → TornIn o 0 1 d c → MayShut w bodies (other_than w c)
  may_still d c m t = may_torn w bodies _ _ m (torn_of 0 1 d c t)

  -- the first gate is written
  module _ (old new : Told) (safe : Safe true w bodies old) where
    pub gate_image : (c : Files) → TornFrom o 0 1 old.images c → Holds w bodies c × MayShut w bodies (other_than w c)
    gate_image c (d, was, t) = (holds_torn d c safe.some (safe.stands.images d was) (safe.spare.1 d was) t, may_still d c (safe.spare.1 d was) t)

    pub gate_file : (c : Files) → TornFrom o 0 1 (Is old.files) c → Holds w bodies c × MayShut w bodies (other_than w c)
    gate_file c (d, was, t) = (holds_torn d c safe.some (safe.stands.files d was) (safe.spare.0 d was) t, may_still d c (safe.spare.0 d was) t)

    pub gate_time : {T E : Type 0} (r : Result T E) → Wrote o 0 (0 ∷ []) r old new → Elapses old new (λ l c. Between old new l × Holds w bodies c)
    gate_time r h = weaker old new _ _ h.time (λ l c n. (is_last old new h.calls.made l h.calls.grown n.0, (gate_image c (h.images c n.1)).0))

    pub gate_failed : {T E : Type 0} (r : Result T E) (x : E) → r ≡ Err x → Wrote o 0 (0 ∷ []) r old new → Saved true w bodies old new
    gate_failed r x e h =
        record {
          safe = record {
            stands = record { listed = safe.stands.listed; files = λ f is. (gate_file f (torn f is)).0; images = λ c im. (gate_image c (h.images c im)).0 };
            some = safe.some;
            spare = ((λ f is. (gate_file f (torn f is)).1), (λ c im. (gate_image c (h.images c im)).1));
          };
          time = gate_time r h;
        } where
          torn : (f : Files) → Is new.files f → TornFrom o 0 1 (Is old.files) f
          torn = subst (λ z. OnErr z (Tears o 0 1 (Is old.files) (Is new.files))) e h.failed

    pub gate_done : {T E : Type 0} (r : Result T E) (x : T) → r ≡ Ok x → Wrote o 0 (0 ∷ []) r old new → Saved false w bodies old new
    gate_done r x e h =
        record {
          safe = record {
            stands = record { listed = safe.stands.listed; files = λ f is. (file f is).0; images = λ c im. (gate_image c (h.images c im)).0 };
            some = safe.some;
            spare = λ f is. (file f is).1;
          };
          time = gate_time r h;
        } where
          file : (f : Files) → Is new.files f → Holds w bodies f × IsShut (other_than w f)
          file f is =
              let now : new.files ≡ option_map (with_file o (written 0 (0 ∷ []))) old.files = subst (λ z. OnOk z (new.files ≡ option_map (with_file o (written 0 (0 ∷ []))) old.files)) e h.done in
              let (g, was, same) = option_map_is (with_file o (written 0 (0 ∷ []))) old.files f (sym now ∙ is) in
              let s : IsShut (other_than w f) = subst IsShut (sym (ap (other_than w) same ∙ changed_with (written 0 (0 ∷ [])) g)) (shut_written (other_than w g)) in
              (holds_shut g f safe.some (safe.stands.files g was) (ap (file_of w) same ∙ main_with (written 0 (0 ∷ [])) g) s, s)

  -- it is synced
  pub spare_within : (u : Bool) (old new : Told) → new.files ≡ old.files → ((c : Files) → new.images c → old.images c) → Spare u w bodies old → Spare u w bodies new
  spare_within true old new e k s = ((λ f is. s.0 f (sym e ∙ is)), (λ c im. s.1 c (k c im)))
  spare_within false old new e k s = λ f is. s f (sym e ∙ is)

  pub synced : {T E : Type 0} (u : Bool) (r : Result T E) (old new : Told) → Safe u w bodies old → Synced o r old new → Saved u w bodies old new
  synced u r old new safe h =
      record {
        safe = record {
          stands = record { listed = safe.stands.listed; files = λ f is. safe.stands.files f (sym h.files ∙ is); images = λ c im. safe.stands.images c (h.images c im) };
          some = safe.some;
          spare = spare_within u old new h.files h.images safe.spare;
        };
        time = weaker old new _ _ h.time (λ l c n. (is_last old new h.calls.made l h.calls.grown n.0, safe.stands.images c (h.images c n.1)));
      }

  pub shut_images : {T E : Type 0} (r : Result T E) (old new : Told) → Safe false w bodies old → Synced o r old new → OnOk r (IsShutIn w new)
  shut_images (Ok x) old new safe h = λ c im. let (f, is, same) = h.done c im in subst IsShut (sym (sym (flip.of c) ∙ same ∙ flip.of f)) (safe.spare f is)
  shut_images (Err x) old new safe h = tt

  -- a text is written behind it
  module _ (text : List ℕ) (old new : Told) (safe : Safe false w bodies old) (shut : IsShutIn w old) where
    pub text_image : (c : Files) → TornFrom o 1 (length text) old.images c → Holds w bodies c × IsShut (other_than w c)
    text_image c (d, was, t) =
        let s = shut_torn (length text) _ _ (shut d was) (torn_of 1 (length text) d c t) in
        (holds_shut d c safe.some (safe.stands.images d was) (main_of 1 (length text) d c t) s, s)

    pub text_torn : (c : Files) → TornFrom o 1 (length text) (Is old.files) c → Holds w bodies c × IsShut (other_than w c)
    text_torn c (d, was, t) =
        let s = shut_torn (length text) _ _ (safe.spare d was) (torn_of 1 (length text) d c t) in
        (holds_shut d c safe.some (safe.stands.files d was) (main_of 1 (length text) d c t) s, s)

    pub filled : (g f : Files) → Is old.files g → f ≡ with_file o (written 1 text) g → IsFilled w bodies text f
    filled g f was same =
        let s = safe.spare g was in
        let long : 1 ≤ length (other_than w g) = omega (arith, ap length s.is) in
        let none : 1 - length (other_than w g) ≡ 0 = omega (arith, long) in
        let back = drop (1 + length text) (other_than w g) in
        let is : other_than w f ≡ s.gate ∷ (text ++ back) =
        ap (other_than w) same ∙ changed_with (written 1 text) g ∙ (λ i. take 1 (s.is i) ++ (replicate (none i) 0 ++ (text ++ back))) in
        record {
          gate = s.gate;
          rest = back;
          shut = s.shut;
          is = is;
          holds = holds_shut g f safe.some (safe.stands.files g was) (ap (file_of w) same ∙ main_with (written 1 text) g) (record { gate = s.gate; rest = text ++ back; shut = s.shut; is = is });
        }

    pub filled_shut : (f : Files) → IsFilled w bodies text f → IsShut (other_than w f)
    filled_shut f k = record { gate = k.gate; rest = text ++ k.rest; shut = k.shut; is = k.is }

    pub text_time : {T E : Type 0} (r : Result T E) → Laid o 1 text r old new → Elapses old new (λ l c. Between old new l × Holds w bodies c)
    text_time r h = weaker old new _ _ h.time (λ l c n. (n.0, (text_image c n.1).0))

    pub prepared : {T E : Type 0} (r : Result T E) (u : Bool) → u ≡ false → Laid o 1 text r old new → Prepares r u w bodies text new
    prepared (Ok x) u e h = (record { files = file; images = image }, e) where
      file : (f : Files) → Is new.files f → IsFilled w bodies text f
      file f is = let (g, was, same) = option_map_is (with_file o (written 1 text)) old.files f (sym h.done ∙ is) in filled g f was same

      image : (c : Files) → new.images c → IsFilled w bodies text c
      image c im =
          let (f, is, one) = h.settled c im in
          let k = file f is in
          record { gate = k.gate; rest = k.rest; shut = k.shut; is = sym (flip.of c) ∙ one ∙ flip.of f ∙ k.is; holds = (text_image c (h.images c im)).0 }
    prepared (Err x) u e h = subst (λ z. Safe z w bodies new) (sym e) (record { stands = record { listed = safe.stands.listed; files = λ f is. (file f is).0; images = λ c im. (text_image c (h.images c im)).0 }; some = safe.some; spare = λ f is. (file f is).1 }) where
      file : (f : Files) → Is new.files f → Holds w bodies f × IsShut (other_than w f)
      file f is =
          ⊎_elim
          (λ k. let (g, was, same) = k in let b = filled g f was same in (b.holds, filled_shut f b))
          (λ t. text_torn f t)
          (h.failed f is)
