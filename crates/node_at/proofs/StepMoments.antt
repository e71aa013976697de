-- What stands and what was sent at each moment of a step.
use Rattle.std.proofs.Common.{ℕ, List, [], ◌∷◌, ◌++◌, ◌≡◌, ◌⊎◌, ⊎_elim, Some, refl, sym, ◌∙◌, ap, subst, option_map, arith}
use Rattle.std.proofs.lemmas.List.{append_assoc, append-nil, append_cancel_left}
use Rattle.site_model.specs.Told.{Told, Files, Made, Call, Between, Elapses, IsPrefix, sent_by, sent_if}
use Rattle.journal_at.specs.Pairs.{Holds}
use Rattle.node_at.specs.Moments.{AtMoment, Deed, Moments}
use Rattle.node_at.proofs.CallRows.{after_that, inside, option_map_is, through}
use Rattle.node_at.proofs.IdFacts.{and_then, weaker}

pub sent_append : (l m : List Made) → sent_by (l ++ m) ≡ sent_by l ++ sent_by m
sent_append [] m = refl
sent_append (x ∷ l) m = ap (λ z. sent_if x.done x.call ++ z) (sent_append l m) ∙ sym (append_assoc (sent_if x.done x.call) (sent_by l) (sent_by m))

abbrev IsEmpty : {A : Type 0} → List A → Type 0
IsEmpty [] = Unit {0}
IsEmpty (x ∷ xs) = ⊥

pub is_nil : {A : Type 0} (l m : List A) → l ++ m ≡ [] → l ≡ []
is_nil [] m e = refl
is_nil (x ∷ l) m e = absurd (subst IsEmpty (sym e) tt)

-- what was made between, and what is left of it
pub record Parts (old : Told) (made l : List Made) : Type 0 where
  pub before : List Made
  pub was : old.calls ≡ Some before
  pub front : List Made
  pub rest : List Made
  pub split : front ++ rest ≡ made
  pub is : l ≡ before ++ front

pub parts : (old new : Told) (made l : List Made) → new.calls ≡ option_map (λ z. z ++ made) old.calls → Between old new l → Parts old made l
parts old new made l g (before, after, was, is, (front, p), (rest, q)) =
    let all : after ≡ before ++ made = ap (inside []) (sym is ∙ g ∙ ap (option_map (λ z. z ++ made)) was) in
    record {
      before = before;
      was = was;
      front = front;
      rest = rest;
      split = append_cancel_left before (front ++ rest) made (sym (append_assoc before front rest) ∙ ap (λ z. z ++ rest) p ∙ q ∙ all);
      is = sym p;
    }

pub at_zero : (live : ℕ) (bodies : List (List ℕ)) (start : List Call) (d : Deed) (sent : List Call) (c : Files) → Holds live bodies c → sent ≡ start
    → AtMoment live bodies start (d ∷ []) sent c
at_zero live bodies start d sent c h e = record {
  k = 0;
  within = omega arith;
  image = subst (λ z. Holds live z c) (sym (append-nil bodies)) h;
  least = ([], append-nil (start ++ []) ∙ append-nil start ∙ sym e);
  most = ([], append-nil sent ∙ e ∙ sym (append-nil start));
}

pub at_one : (live : ℕ) (bodies : List (List ℕ)) (start : List Call) (d : Deed) (sent : List Call) (c : Files) → Holds live (bodies ++ d.landed) c
    → IsPrefix start sent → IsPrefix sent (start ++ d.sent) → AtMoment live bodies start (d ∷ []) sent c
at_one live bodies start d sent c h least most = record {
  k = 1;
  within = omega arith;
  image = subst (λ z. Holds live (bodies ++ z) c) (sym (append-nil d.landed)) h;
  least = subst (λ z. IsPrefix z sent) (sym (append-nil start)) least;
  most = subst (λ z. IsPrefix sent (start ++ z)) (sym (append-nil d.sent)) most;
}

-- where nothing is sent yet
pub record Quiet (old : Told) (l : List Made) : Type 0 where
  pub before : List Made
  pub was : old.calls ≡ Some before
  pub is : sent_by l ≡ sent_by before

pub quiet : (old new : Told) (first l : List Made) → new.calls ≡ option_map (λ z. z ++ first) old.calls → sent_by first ≡ [] → Between old new l → Quiet old l
quiet old new first l g e between =
    let p = parts old new first l g between in
    let none = is_nil (sent_by p.front) (sent_by p.rest) (sym (sent_append p.front p.rest) ∙ ap sent_by p.split ∙ e) in
    record { before = p.before; was = p.was; is = ap sent_by p.is ∙ sent_append p.before p.front ∙ ap (λ z. sent_by p.before ++ z) none ∙ append-nil (sent_by p.before) }

-- in an append the files hold either
pub either_moment : (old new : Told) (live : ℕ) (bodies : List (List ℕ)) (d : Deed) (first l : List Made) (c : Files) → new.calls ≡ option_map (λ z. z ++ first) old.calls → sent_by first ≡ []
    → Between old new l → Holds live bodies c ⊎ Holds live (bodies ++ d.landed) c
    → (before : List Made) × (old.calls ≡ Some before) × AtMoment live bodies (sent_by before) (d ∷ []) (sent_by l) c
either_moment old new live bodies d first l c g e between h =
    let q = quiet old new first l g e between in (
      q.before,
      q.was,
      ⊎_elim
          (λ z. at_zero live bodies (sent_by q.before) d (sent_by l) c z q.is)
          (λ z. at_one live bodies (sent_by q.before) d (sent_by l) c z ([], append-nil (sent_by q.before) ∙ sym q.is) (d.sent, ap (λ y. y ++ d.sent) q.is)) h,
    )

-- and behind it, while the outs are sent, the one that landed
pub sending_moment : (old mid new : Told) (live : ℕ) (bodies : List (List ℕ)) (landed : List (List ℕ)) (first made l : List Made) (c : Files)
    → mid.calls ≡ option_map (λ z. z ++ first) old.calls → sent_by first ≡ [] → new.calls ≡ option_map (λ z. z ++ made) mid.calls
    → Between mid new l → Holds live (bodies ++ landed) c
    → (before : List Made) × (old.calls ≡ Some before) × AtMoment live bodies (sent_by before) (record { landed = landed; sent = sent_by made } ∷ []) (sent_by l) c
sending_moment old mid new live bodies landed first made l c g e k between h =
    let p = parts mid new made l k between in
    let (before, was, is) = option_map_is (λ z. z ++ first) old.calls p.before (sym g ∙ p.was) in
    let start : sent_by p.before ≡ sent_by before = ap sent_by is ∙ sent_append before first ∙ ap (λ z. sent_by before ++ z) e ∙ append-nil (sent_by before) in
    let sent : sent_by l ≡ sent_by before ++ sent_by p.front = ap sent_by p.is ∙ sent_append p.before p.front ∙ ap (λ z. z ++ sent_by p.front) start in (
      before,
      was,
      at_one live bodies (sent_by before) (record { landed = landed; sent = sent_by made }) (sent_by l) c h
          (sent_by p.front, sym sent)
          (sent_by p.rest, ap (λ z. z ++ sent_by p.rest) sent ∙ append_assoc (sent_by before) (sent_by p.front) (sent_by p.rest) ∙ ap (λ z. sent_by before ++ z) (sym (sent_append p.front p.rest) ∙ ap sent_by p.split)),
    )

pub step_moments : (old mid new : Told) (live : ℕ) (bodies : List (List ℕ)) (landed : List (List ℕ)) (first made : List Made)
    → mid.calls ≡ option_map (λ z. z ++ first) old.calls → sent_by first ≡ [] → new.calls ≡ option_map (λ z. z ++ made) mid.calls
    → Elapses old mid (λ l c. Between old mid l × (Holds live bodies c ⊎ Holds live (bodies ++ landed) c))
    → Elapses mid new (λ l c. Between mid new l × mid.images c) → ((c : Files) → mid.images c → Holds live (bodies ++ landed) c)
    → Moments live bodies (record { landed = landed; sent = sent_by made } ∷ []) old new
step_moments old mid new live bodies landed first made g e k s t h =
    let d : Deed = record { landed = landed; sent = sent_by made } in
    and_then old mid new _
    (weaker old mid _ _ s (λ l c p. (through old mid new made l k p.0, either_moment old mid live bodies d first l c g e p.0 p.1)))
    (weaker mid new _ _ t (λ l c p. (after_that old mid new first l g p.0, sending_moment old mid new live bodies landed first made l c g e k p.0 (h c p.1))))

pub halted_moments : (old new : Told) (live : ℕ) (bodies : List (List ℕ)) (d : Deed) (first : List Made)
    → new.calls ≡ option_map (λ z. z ++ first) old.calls → sent_by first ≡ []
    → Elapses old new (λ l c. Between old new l × (Holds live bodies c ⊎ Holds live (bodies ++ d.landed) c)) → Moments live bodies (d ∷ []) old new
halted_moments old new live bodies d first g e s = weaker old new _ _ s (λ l c p. (p.0, either_moment old new live bodies d first l c g e p.0 p.1))
