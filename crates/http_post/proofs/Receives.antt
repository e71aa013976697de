-- What a receive does to what a machine tells.
use Rattle.std.proofs.Common.{ℕ, List, Option, Some, None, ◌++◌, ◌≡◌, ◌⊎◌, inl, inr, Result, Ok, Err, take, drop, refl, sym, ap, subst, ◌∙◌}
use Rattle.std.specs.Prelude.{option_map}
use Rattle.std.specs.Io.KnownBytes.{ReadConsumes}
use Rattle.std.proofs.Math.Seq.{drop-nil}
use Rattle.std.proofs.lemmas.List.{take-append-drop}
use Rattle.site_model.specs.Site.{Counts}
use Rattle.site_model.specs.Calls.{Gives, Received}
use Rattle.site_model.specs.Told.{Files, Link, Made, Still, Told}
use Rattle.http_post.specs.Connections.{Stays, behind, coming, left, waiting}

gives : {E : Type 0} (r : Result ℕ E) (buf : List ℕ) (before after : Link) → Gives r buf before after → ReadConsumes (Some before.open_bytes) (Some after.open_bytes) r buf
gives (Ok n) buf before after h = (
  sym (ap (λ z. z ++ after.open_bytes) h.bytes ∙ ap (λ z. take n before.open_bytes ++ z) (ap coming h.rest) ∙ take-append-drop n before.open_bytes),
  (λ z lt. ap coming h.rest ∙ ap (drop n) (h.end z lt) ∙ drop-nil n),
)
gives (Err e) buf before after h = ap coming h

untold : {E : Type 0} (r : Result ℕ E) (buf : List ℕ) → ReadConsumes None None r buf
untold (Ok n) buf = (tt, (λ z lt. tt))
untold (Err e) buf = tt

gives_behind : {E : Type 0} (r : Result ℕ E) (buf : List ℕ) (before after : Link) → Gives r buf before after → after.waiting ≡ before.waiting
gives_behind (Ok n) buf before after h = ap behind h.rest
gives_behind (Err e) buf before after h = ap behind h

module _ {E : Type 0} (r : Result ℕ E) (buf : List ℕ) (old new : Told) (h : Received r buf old new) where
  pub consumes : ReadConsumes (left old) (left new) r buf
  unfolding left
  consumes = by_case old.link refl
    where
      by_case : (link : Option Link) → old.link ≡ link → ReadConsumes (option_map coming old.link) (option_map coming new.link) r buf
      by_case None e = subst (λ z. ReadConsumes (option_map coming z) (option_map coming new.link) r buf) (sym e)
          (subst (λ z. ReadConsumes None (option_map coming z) r buf) (sym (h.untold e)) (untold r buf))
      by_case (Some before) e =
          let told = h.told before e in
          subst (λ z. ReadConsumes (option_map coming z) (option_map coming new.link) r buf) (sym e)
          (subst (λ z. ReadConsumes (Some before.open_bytes) (option_map coming z) r buf) (sym told.1) (gives r buf before told.0 told.2))

  same_waiting : waiting new ≡ waiting old
  same_waiting = by_case old.link refl
    where
      by_case : (link : Option Link) → old.link ≡ link → waiting new ≡ waiting old
      by_case None e = ap (option_map behind) (h.untold e ∙ sym e)
      by_case (Some before) e =
          let told = h.told before e in
          ap (option_map behind) told.1 ∙ ap Some (gives_behind r buf before told.0 told.2) ∙ sym (ap (option_map behind) e)

  stays : Stays old new
  stays = record { still = h.still; clock = h.clock; waiting = same_waiting; counts = h.counts.others }

still_on : (a b c : Told) → Still a b → Still b c → Still a c
still_on a b c h k = record {
  files = k.files ∙ h.files;
  images = (λ f i. h.images f (k.images f i));
  calls = k.calls ∙ h.calls;
  time = record { adds = (λ l f p. adds l f (k.time.adds l f p)); keeps = (λ l f p. k.time.keeps l f (h.time.keeps l f p)) };
}
  where
    adds : (l : List Made) (f : Files) → b.past l f ⊎ ⊥ → a.past l f ⊎ ⊥
    adds l f (inl p) = h.time.adds l f p
    adds l f (inr none) = absurd none

pub stays_on : (a b c : Told) → Stays a b → Stays b c → Stays a c
stays_on a b c h k = record {
  still = still_on a b c h.still k.still;
  clock = k.clock ∙ h.clock;
  waiting = k.waiting ∙ h.waiting;
  counts = k.counts ∙ ap {A = Counts} (λ z. record z { receive = c.counts.receive }) h.counts;
}

pub received : {E : Type 0} (r : Result ℕ E) (buf : List ℕ) (first old new : Told) → Received r buf old new → Stays first old → Stays first new
received r buf first old new h k = stays_on first old new k (stays r buf old new h)
