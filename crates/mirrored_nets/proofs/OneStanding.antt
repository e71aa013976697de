-- A pair of files stands for records of one version alone.
use Rattle.std.specs.Prelude.{ℕ, List, [], ◌∷◌, ◌++◌, ◌≡◌, ◌≤◌, ◌<◌, ◌⊎◌, length, zero, suc, refl}
use Rattle.std.proofs.Common.{inl, inr, sym, subst, ap, arith, ◌∙◌}
use Rattle.std.proofs.lemmas.Bool.{cases_lt}
use Rattle.std.proofs.lemmas.List.{append_assoc}
use Rattle.at_base.specs.declared.record.Record.{Record}
use Rattle.decision_log.specs.Folds.{AreRecords}
use Rattle.journal_at.specs.Format.{FileOf, behind, frames, head_of, records_of}
use Rattle.journal_at.specs.Frames.{Begins, Framed}
use Rattle.journal_at.specs.Pairs.{FilesOf, IsLive}
use Rattle.journal_at.specs.declared.version.Version.{Version}
use Rattle.journal_at.proofs.Bodies.{framed_of, tail_framed}
use Rattle.journal_at.proofs.Openings.{bare_none}
use Rattle.node_at.specs.Starts.{StandFor}
use Rattle.record_bytes.specs.Versions.{AreApart}
use Rattle.site_model.specs.Told.{Files, file_of, other_than}

-- what a file begins with, behind which its other bodies stand
pub first_body : (b : List ℕ) (bs : List (List ℕ)) (f : List ℕ) → (h : Framed (b ∷ bs) f) → Begins b (frames bs ++ (h.closed.gate ∷ h.closed.rest)) f
first_body b bs f h = record {
  sized = h.sized.0;
  is = h.closed.is ∙ ap (λ z. 1 ∷ z) (append_assoc (behind b) (frames bs) (h.closed.gate ∷ h.closed.rest));
}

none_more : (c : List ℕ) (cs : List (List ℕ)) → c ∷ cs ≡ [] → ⊥
none_more c cs e = cc

pub framed_one : (bs cs : List (List ℕ)) (f : List ℕ) → Framed bs f → Framed cs f → bs ≡ cs
framed_one [] [] f h k = refl
framed_one [] (c ∷ cs) f h k =
    let (more, e, m) = tail_framed c (frames cs ++ (k.closed.gate ∷ k.closed.rest)) f [] (first_body c cs f k) h in
    absurd (none_more c more (sym e))
framed_one (b ∷ bs) cs f h k =
    let after = frames bs ++ (h.closed.gate ∷ h.closed.rest) in
    let (more, e, m) = tail_framed b after f cs (first_body b bs f h) k in
    let rest : Framed bs after = record { sized = h.sized.1; closed = record { gate = h.closed.gate; rest = h.closed.rest; shut = h.closed.shut; is = refl } } in
    ap (λ z. b ∷ z) (framed_one bs more after rest m) ∙ sym e

pub file_one : (f : List ℕ) (bs cs : List (List ℕ)) → FileOf f bs → FileOf f cs → bs ≡ cs
file_one f bs cs h k = by_length (cases_lt 1 (length f))
  where
    by_length : (1 < length f) ⊎ (length f ≤ 1) → bs ≡ cs
    by_length (inl l) = framed_one bs cs f (framed_of f bs l h) (framed_of f cs l k)
    by_length (inr l) = bare_none f bs l h ∙ sym (bare_none f cs l k)

one_live : (bs cs ds es : List (List ℕ)) → bs ≡ es → ds ≡ cs → (head_of ds).generation ≤ (head_of bs).generation → (head_of es).generation < (head_of cs).generation → ⊥
one_live bs cs ds es e f l m = omega (arith, l, m, ap (λ z. (head_of z).generation) e, ap (λ z. (head_of z).generation) f)

-- the live bodies
live_one : (c : Files) (i j : ℕ) (bs cs ds es : List (List ℕ)) → FileOf (file_of i c) bs → FileOf (other_than i c) ds → IsLive i bs ds → FileOf (file_of j c) cs → FileOf (other_than j c) es
    → IsLive j cs es → bs ≡ cs
live_one c zero zero bs cs ds es h k l m n o = file_one c.first bs cs h m
live_one c zero (suc j) bs cs ds es h k l m n o = absurd (one_live bs cs ds es (file_one c.first bs es h n) (file_one c.second ds cs k m) l o)
live_one c (suc i) zero bs cs ds es h k l m n o = absurd (one_live cs bs es ds (file_one c.first cs ds m k) (file_one c.second es bs n h) o l)
live_one c (suc i) (suc j) bs cs ds es h k l m n o = file_one c.second bs cs h m

pub bodies_one : (c : Files) (v w : Version) (xs ys : List (List ℕ)) → (h : FilesOf c v xs) → (k : FilesOf c w ys) → h.bodies ≡ k.bodies
bodies_one c v w xs ys h k = live_one c h.live k.live h.bodies k.bodies h.others k.others h.is h.other h.newer k.is k.other k.newer

pub texts_one : (c : Files) (v w : Version) (xs ys : List (List ℕ)) → FilesOf c v xs → FilesOf c w ys → xs ≡ ys
texts_one c v w xs ys h k = sym h.all ∙ ap records_of (bodies_one c v w xs ys h k) ∙ k.all

records_one : AreApart → (v w : Version) (rs ss : List Record) (xs : List (List ℕ)) → AreRecords v rs xs → AreRecords w ss xs → rs ≡ ss
records_one apart v w [] [] [] h k = refl
records_one apart v w [] (s ∷ ss) [] h k = absurd k
records_one apart v w (r ∷ rs) ss [] h k = absurd h
records_one apart v w [] ss (x ∷ xs) h k = absurd h
records_one apart v w (r ∷ rs) [] (x ∷ xs) h k = absurd k
records_one apart v w (r ∷ rs) (s ∷ ss) (x ∷ xs) h k = λ i. apart v w r s x h.0 k.0 i ∷ records_one apart v w rs ss xs h.1 k.1 i

pub version_one : (c : Files) (v w : Version) (rs ss : List Record) → StandFor v rs c → StandFor w ss c → v ≡ w
version_one c v w rs ss h k = sym h.is.versions ∙ ap (λ z. (head_of z).version) (bodies_one c v w h.texts k.texts h.is k.is) ∙ k.is.versions

pub found_one : AreApart → (c : Files) (v w : Version) (rs ss : List Record) → StandFor v rs c → StandFor w ss c → rs ≡ ss
found_one apart c v w rs ss h k = records_one apart v w rs ss k.texts (subst (AreRecords v rs) (texts_one c v w h.texts k.texts h.is k.is) h.are) k.are
