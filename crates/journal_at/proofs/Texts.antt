-- A text that is built body by body.
use Rattle.std.proofs.Common.{ℕ, List, zero, suc, [], ◌∷◌, length, ◌≡◌, ◌++◌, ◌+◌, ◌<◌, ◌≤◌, sym, ◌∙◌, ap, subst, take, get_or, arith}
use Rattle.std.proofs.lemmas.List.{append_assoc, append-nil, map-append, take_all, take_more}
use Rattle.journal_at.specs.declared.body.Body.{Body}
use Rattle.journal_at.specs.Compactions.{text_in, text_of, texts_in}
use Rattle.journal_at.specs.Format.{AreBodies, IsBody, behind, frames, mark_body}
use Rattle.journal_at.proofs.TornWrites.{frames_push}

pub sized_at : (bodies : List Body) (i : ℕ) (d : Body) → i < length bodies → AreBodies (texts_in bodies) → IsBody (text_in (get_or bodies i d))
sized_at [] i d l h = absurd (omega (arith, l))
sized_at (body ∷ bodies) zero d l h = h.0
sized_at (body ∷ bodies) (suc i) d l h = sized_at bodies i d (omega (arith, l)) h.1

pub body_sized : (bodies : List Body) (i : ℕ) (d : Body) (text : List ℕ) → i < length bodies → d ≡ get_or bodies i d → text ≡ text_in d → AreBodies (texts_in bodies) → IsBody text
body_sized bodies i d text l e t h = subst IsBody (sym (t ∙ ap text_in e)) (sized_at bodies i d l h)

-- the mark and these bodies
pub record IsBuilt (g : ℕ) (bodies : List Body) (text : List ℕ) : Type 0 where
  pub is : text ≡ behind (mark_body g) ++ frames (texts_in bodies)

pub built_more : (g : ℕ) (bodies : List Body) (i : ℕ) (d : Body) (old new text : List ℕ) → i < length bodies → d ≡ get_or bodies i d → text ≡ text_in d → new ≡ old ++ (1 ∷ behind text) → IsBuilt g (take i bodies) old → IsBuilt g (take (i + 1) bodies) new
built_more g bodies i d old new text l e t n h =
    let front = texts_in (take i bodies) in
    let m = behind (mark_body g) in
    let list : texts_in (take (i + 1) bodies) ≡ front ++ text ∷ [] =
    ap texts_in (take_more bodies i d l) ∙ map-append text_in (take i bodies) (get_or bodies i d ∷ []) ∙ ap (λ z. front ++ z ∷ []) (sym (t ∙ ap text_in e)) in
    let more : frames (front ++ text ∷ []) ≡ frames front ++ (1 ∷ behind text) =
    sym (append-nil (frames (front ++ text ∷ []))) ∙ frames_push front text [] ∙ ap (λ z. frames front ++ (1 ∷ z)) (append-nil (behind text)) in
    record { is = n ∙ ap (λ z. z ++ (1 ∷ behind text)) h.is ∙ append_assoc m (frames front) (1 ∷ behind text) ∙ ap (λ z. m ++ z) (sym more) ∙ ap (λ z. m ++ frames z) (sym list) }

pub built_all : (g : ℕ) (bodies : List Body) (i : ℕ) (old new : List ℕ) → length bodies ≤ i → new ≡ old ++ (0 ∷ []) → IsBuilt g (take i bodies) old → new ≡ text_of g (texts_in bodies)
built_all g bodies i old new e n h =
    let m = behind (mark_body g) in
    n ∙ ap (λ z. z ++ (0 ∷ [])) h.is ∙ append_assoc m (frames (texts_in (take i bodies))) (0 ∷ []) ∙ ap (λ z. m ++ (frames (texts_in z) ++ (0 ∷ []))) (take_all i bodies e)
