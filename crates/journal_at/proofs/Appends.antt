-- What stands of a pair of files during an append.
use Rattle.std.proofs.Common.{ℕ, List, Result, Ok, Err, zero, suc, [], ◌∷◌, length, ◌≡◌, ◌++◌, ◌+◌, ◌≤◌, ◌⊎◌, inl, inr, ⊎_elim, refl, sym, ◌∙◌, ap, subst, option_map, OnOk, OnErr, arith}
use Rattle.site_model.proofs.Past.{and_then, weaker}
use Rattle.site_model.specs.Calls.{Outcome, Raised}
use Rattle.site_model.specs.Told.{Told, Files, Is, Between, Elapses, Settled, TornFrom, TornIn, file_of, other_than, with_file, written}
use Rattle.journal_at.specs.Format.{Closed, behind, frames, head_of}
use Rattle.journal_at.specs.Pairs.{Beside, Holds, IsJournal, IsLive}
use Rattle.journal_at.specs.StandingBodies.{Calls, EitherHolds, Laid, MayFollow, Stands, lay, raise}
use Rattle.journal_at.specs.declared.journal.Append.TheVariants.{Unsure}
use Rattle.std.specs.Int.{to_be_bytes, w32}
use Rattle.std.proofs.lemmas.List.{append-nil, length-append}
use Rattle.std.proofs.Common.{rules}
use Rattle.journal_at.proofs.DeviceCalls.{after_that, all_ran, grown_then, option_map_is, through}
use Rattle.journal_at.proofs.NewJournals.{journal_more, journal_torn, journal_written, lays_short, raises_short}
use Rattle.journal_at.proofs.TornWrites.{Staged, frames_push, closed_torn, closed_written, staged_closed, staged_raised, staged_torn}

pub file_with : (w : ℕ) (h : List ℕ → List ℕ) (f : Files) → file_of w (with_file w h f) ≡ h (file_of w f)
file_with zero h f = refl
file_with (suc n) h f = refl

pub other_with : (w : ℕ) (h : List ℕ → List ℕ) (f : Files) → other_than w (with_file w h f) ≡ other_than w f
other_with zero h f = refl
other_with (suc n) h f = refl

pub live_more : (w : ℕ) (bodies more others : List (List ℕ)) → (head_of more).generation ≡ (head_of bodies).generation → IsLive w bodies others → IsLive w more others
live_more zero bodies more others e h = omega (arith, e, h)
live_more (suc n) bodies more others e h = omega (arith, e, h)

module _ (w : ℕ) (bodies : List (List ℕ)) (body : List ℕ) where
  abbrev pub framed : List ℕ
  framed = behind body ++ (0 ∷ [])

  abbrev pub later : List (List ℕ)
  later = bodies ++ body ∷ []

  -- the body stands behind a gate that is still shut
  pub record Set (c : Files) : Type 0 where
    pub staged : Staged bodies body (file_of w c)
    pub beside : Beside w bodies (other_than w c)
    pub journal : IsJournal bodies c

  pub beside_more : (o : List ℕ) → MayFollow bodies body → Beside w bodies o → Beside w later o
  beside_more o m b = record { others = b.others; is = b.is; newer = live_more w bodies later b.others m.generation b.newer }

  pub holds_torn : (at n : ℕ) (d c : Files) → at ≡ length (frames bodies) + 1 → (bodies ≡ [] → at + n ≤ 11) → Holds w bodies d → TornIn w at n d c → Holds w bodies c
  holds_torn at n d c e l h t = record { closed = closed_torn bodies at n _ _ e h.closed t.torn; beside = subst (Beside w bodies) (sym t.kept) h.beside; journal = journal_torn bodies w at n d c l t h.journal }

  pub set_holds : (c : Files) → Set c → Holds w bodies c
  set_holds c s = record { closed = staged_closed bodies body _ s.staged; beside = s.beside; journal = s.journal }

  pub holds_written : (at : ℕ) (g : Files) → at ≡ length (frames bodies) + 1 → (bodies ≡ [] → at + length framed ≤ 11) → Holds w bodies g → Set (with_file w (written at framed) g)
  holds_written at g e l h =
      record {
        staged = subst (Staged bodies body) (sym (file_with w (written at framed) g)) (closed_written bodies body at _ e h.closed);
        beside = subst (Beside w bodies) (sym (other_with w (written at framed) g)) h.beside;
        journal = journal_written bodies w at framed g l h.journal;
      }

  pub set_torn : (at : ℕ) (d c : Files) → at ≡ length (frames bodies) → MayFollow bodies body → Set d → TornIn w at 1 d c → EitherHolds w bodies body c
  set_torn at d c e m s t =
      let b : Beside w bodies (other_than w c) = subst (Beside w bodies) (sym t.kept) s.beside in
      ⊎_elim (λ k. inl (record { closed = k; beside = b; journal = journal_torn bodies w at 1 d c (raises_short bodies at e) t s.journal })) (λ k. inr (record { closed = k; beside = beside_more _ m b; journal = journal_more bodies body c })) (staged_torn bodies body at _ _ e s.staged t.torn)

  pub set_raised : (at : ℕ) (f : Files) → at ≡ length (frames bodies) → MayFollow bodies body → Set f → Holds w later (with_file w (written at (1 ∷ [])) f)
  set_raised at f e m s =
      record {
        closed = subst (Closed later) (sym (file_with w (written at (1 ∷ [])) f)) (staged_raised bodies body at _ e s.staged);
        beside = subst (Beside w later) (sym (other_with w (written at (1 ∷ [])) f)) (beside_more _ m s.beside);
        journal = journal_more bodies body _;
      }

  module _ (old mid : Told) (end : ℕ) (e : end ≡ length (frames bodies)) (stands : Stands w bodies old) (follows : MayFollow bodies body) where
    pub behind_it : end + 1 ≡ length (frames bodies) + 1
    behind_it = ap (λ n. n + 1) e

    pub fits : bodies ≡ [] → (end + 1) + length framed ≤ 11
    fits = lays_short bodies body end e follows.begins

    pub torn_holds : (c : Files) → TornFrom w (end + 1) (length framed) old.images c → Holds w bodies c
    torn_holds c (d, was, t) = holds_torn (end + 1) (length framed) d c behind_it fits (stands.images d was) t

    abbrev pub Cases : Type 0
    Cases = (f : Files) → Is mid.files f → ((g : Files) × Is old.files g × (f ≡ with_file w (written (end + 1) framed) g)) ⊎ TornFrom w (end + 1) (length framed) (Is old.files) f

    pub refused : {T E : Type 0} (r : Result T E) (x : E) → r ≡ Err x → Laid w (end + 1) framed r old mid → Stands w bodies mid
    refused r x rx h =
        record {
          listed = stands.listed;
          files = λ f is. ⊎_elim (done f) (torn f) (subst (λ z. OnErr z Cases) rx h.failed f is);
          images = λ c im. torn_holds c (h.images c im);
        } where
          done : (f : Files) → (g : Files) × Is old.files g × (f ≡ with_file w (written (end + 1) framed) g) → Holds w bodies f
          done f (g, was, is) = subst (Holds w bodies) (sym is) (set_holds _ (holds_written (end + 1) g behind_it fits (stands.files g was)))

          torn : (f : Files) → TornFrom w (end + 1) (length framed) (Is old.files) f → Holds w bodies f
          torn f (g, was, t) = holds_torn (end + 1) (length framed) g f behind_it fits (stands.files g was) t

    pub lay_time : {T E : Type 0} (r : Result T E) → Laid w (end + 1) framed r old mid → Elapses old mid (λ l c. Between old mid l × Holds w bodies c)
    lay_time r h = weaker old mid _ _ h.time (λ l c n. (n.0, torn_holds c n.1))

    module _ {T E : Type 0} (r : Result T E) (x : T) (rx : r ≡ Ok x) (laid : Laid w (end + 1) framed r old mid) where
      pub set_files : (f : Files) → Is mid.files f → Set f
      set_files f is =
          let now : mid.files ≡ option_map (with_file w (written (end + 1) framed)) old.files = subst (λ z. OnOk z (mid.files ≡ option_map (with_file w (written (end + 1) framed)) old.files)) rx laid.done in
          let (g, was, same) = option_map_is (with_file w (written (end + 1) framed)) old.files f (sym now ∙ is) in
          subst Set (sym same) (holds_written (end + 1) g behind_it fits (stands.files g was))

      pub set_images : (c : Files) → mid.images c → Set c
      set_images c im =
          let (m, is, same) = subst (λ z. OnOk z (Settled w mid.files mid.images)) rx laid.settled c im in
          record { staged = subst (Staged bodies body) (sym same) (set_files m is).staged; beside = (torn_holds c (laid.images c im)).beside; journal = (torn_holds c (laid.images c im)).journal }

      module _ (new : Told) where
        pub raise_torn : (c : Files) → TornFrom w end 1 mid.images c → EitherHolds w bodies body c
        raise_torn c (d, was, t) = set_torn end d c e follows (set_images d was) t

        pub raise_time : {U F : Type 0} (q : Result U F) → Raised w end q mid new → Elapses old new (λ l c. Between old new l × EitherHolds w bodies body c)
        raise_time q k =
            and_then old mid new _
            (weaker old mid _ _ (lay_time r laid) (λ l c n. (through old mid new k.calls.made l k.calls.grown n.0, inl n.1)))
            (weaker mid new _ _ k.time (λ l c n. (after_that old mid new laid.calls.made l laid.calls.grown n.0, raise_torn c n.1)))

        pub unsure : {U F : Type 0} (q : Result U F) → Raised w end q mid new → (c : Files) → new.images c → EitherHolds w bodies body c
        unsure q k c im = raise_torn c (k.images c im)

        pub raised : {U F : Type 0} (q : Result U F) (y : U) → q ≡ Ok y → Raised w end q mid new → Stands w later new
        raised q y qy k =
            record {
              listed = follows.listed;
              files = files;
              images = λ c im. image c im (subst (λ z. OnOk z (Settled w new.files new.images)) qy k.settled c im);
            } where
              files : (f : Files) → Is new.files f → Holds w later f
              files f is =
                  let now : new.files ≡ option_map (with_file w (written end (1 ∷ []))) mid.files = subst (λ z. OnOk z (new.files ≡ option_map (with_file w (written end (1 ∷ []))) mid.files)) qy k.done in
                  let (g, was, same) = option_map_is (with_file w (written end (1 ∷ []))) mid.files f (sym now ∙ is) in
                  subst (Holds w later) (sym same) (set_raised end g e follows (set_files g was))

              beside : (c : Files) → TornFrom w end 1 mid.images c → Beside w later (other_than w c)
              beside c (d, was, t) = subst (Beside w later) (sym t.kept) (beside_more _ follows (set_images d was).beside)

              image : (c : Files) → new.images c → (f : Files) × Is new.files f × (file_of w c ≡ file_of w f) → Holds w later c
              image c im (f, is, same) = record { closed = subst (Closed later) (sym same) (files f is).closed; beside = beside c (k.images c im); journal = journal_more bodies body c }

pub same_bytes : {T E : Type 0} {w at : ℕ} {b b' : List ℕ} {r : Result T E} {old mid : Told} → b ≡ b' → Laid w at b r old mid → Laid w at b' r old mid
same_bytes {w = w} {at = at} {r = r} {old = old} {mid = mid} e h = subst (λ z. Laid w at z r old mid) e h

pub makes_unsure : {T U E F : Type 0} (w end : ℕ) (body : List ℕ) (r : Result T E) (x : T) (q : Result U F) (f : F) (old mid new : Told) → r ≡ Ok x → Laid w (end + 1) (behind body ++ (0 ∷ [])) r old mid → q ≡ Err f → Raised w end q mid new → Calls Unsure w end body old new
makes_unsure w end body r x q f old mid new rx h qf k =
    let a = all_ran (lay w end body) r x old mid rx h.calls in
    record {
      made = a.made ++ k.calls.made;
      are = (k.calls.made, ap (λ z. z ++ k.calls.made) a.is, subst (λ z. Outcome (raise w end) z k.calls.made) qf k.calls.outcome);
      grown = grown_then old.calls mid.calls new.calls a.made k.calls.made a.grown k.calls.grown;
    }

pub end_more : (bodies : List (List ℕ)) (body : List ℕ) (end : ℕ) → end ≡ length (frames bodies) → end + (5 + length body) ≡ length (frames (bodies ++ body ∷ []))
end_more bodies body end e =
    let h = sym (ap length (append-nil (frames (bodies ++ body ∷ [])))) ∙ ap length (frames_push bodies body []) ∙ length-append (frames bodies) (1 ∷ (behind body ++ [])) in
    let k = ap length (append-nil (behind body)) ∙ length-append (to_be_bytes w32 (length body)) body in
    let four : length (to_be_bytes w32 (length body)) ≡ 4 = search rules in
    omega (arith, h, k, four, e)
