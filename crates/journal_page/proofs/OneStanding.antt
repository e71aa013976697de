-- Two files stand for one list of bodies, and for none where they are bad.
use Rattle.std.specs.Prelude.{ℕ, List, [], ◌∷◌, ◌++◌, ◌≡◌, ◌≢◌, ◌≤◌, ◌<◌, ◌⊎◌, None, length, zero, suc, refl}
use Rattle.std.proofs.Common.{inl, inr, sym, subst, ap, arith, ◌∙◌}
use Rattle.std.proofs.lemmas.Bool.{cases_lt}
use Rattle.std.proofs.lemmas.List.{append_assoc}
use Rattle.at_base.specs.declared.record.Record.{Record}
use Rattle.decision_log.specs.Folds.{AreRecords}
use Rattle.journal_at.specs.Format.{AreBodies, AreInPlace, AreUnmarked, FileOf, behind, frames, head_of, mark_of}
use Rattle.journal_at.specs.Frames.{Begins, Framed, IsBadAt, IsStray, NoFrame}
use Rattle.journal_at.specs.Loads.{IsJudged}
use Rattle.journal_at.specs.Pairs.{AreNew, HasLive, IsForeign, IsJournal}
use Rattle.journal_at.specs.declared.version.Version.{Version}
use Rattle.journal_at.proofs.Bodies.{framed_of, tail_framed}
use Rattle.journal_at.proofs.Frames.{not_framed}
use Rattle.journal_at.proofs.Openings.{bare_none}
use Rattle.record_bytes.specs.Versions.{AreApart, IsRecord}
use Rattle.site_model.specs.Told.{Files}

first_body : (b : List ℕ) (bs : List (List ℕ)) (f : List ℕ) → (h : Framed (b ∷ bs) f) → Begins b (frames bs ++ (h.closed.gate ∷ h.closed.rest)) f
first_body b bs f h = record {
  sized = h.sized.0;
  is = h.closed.is ∙ ap (λ z. 1 ∷ z) (append_assoc (behind b) (frames bs) (h.closed.gate ∷ h.closed.rest));
}

none_more : (c : List ℕ) (cs : List (List ℕ)) → c ∷ cs ≡ [] → ⊥
none_more c cs e = cc

framed_one : (bs cs : List (List ℕ)) (f : List ℕ) → Framed bs f → Framed cs f → bs ≡ cs
framed_one [] [] f h k = refl
framed_one [] (c ∷ cs) f h k =
    let (more, e, m) = tail_framed c (frames cs ++ (k.closed.gate ∷ k.closed.rest)) f [] (first_body c cs f k) h in
    absurd (none_more c more (sym e))
framed_one (b ∷ bs) cs f h k =
    let after = frames bs ++ (h.closed.gate ∷ h.closed.rest) in
    let (more, e, m) = tail_framed b after f cs (first_body b bs f h) k in
    let rest : Framed bs after = record { sized = h.sized.1; closed = record { gate = h.closed.gate; rest = h.closed.rest; shut = h.closed.shut; is = refl } } in
    ap (λ z. b ∷ z) (framed_one bs more after rest m) ∙ sym e

file_one : (f : List ℕ) (bs cs : List (List ℕ)) → FileOf f bs → FileOf f cs → bs ≡ cs
file_one f bs cs h k = by_length (cases_lt 1 (length f))
  where
    by_length : (1 < length f) ⊎ (length f ≤ 1) → bs ≡ cs
    by_length (inl l) = framed_one bs cs f (framed_of f bs l h) (framed_of f cs l k)
    by_length (inr l) = bare_none f bs l h ∙ sym (bare_none f cs l k)

-- each is newer than the other
not_both : (bs cs ds es : List (List ℕ)) → bs ≡ es → ds ≡ cs → (head_of ds).generation ≤ (head_of bs).generation → (head_of es).generation < (head_of cs).generation → ⊥
not_both bs cs ds es e f l m = omega (arith, l, m, ap (λ z. (head_of z).generation) e, ap (λ z. (head_of z).generation) f)

-- the live bodies
pub bodies_one : (c : Files) (i j : ℕ) (bs cs : List (List ℕ)) → HasLive i bs c → HasLive j cs c → bs ≡ cs
bodies_one c zero zero bs cs h k = file_one c.first bs cs h.0 k.0
bodies_one c zero (suc j) bs cs h k =
    absurd (not_both bs cs h.1.others k.1.others (file_one c.first bs k.1.others h.0 k.1.is) (file_one c.second h.1.others cs h.1.is k.0) h.1.newer k.1.newer)
bodies_one c (suc i) zero bs cs h k =
    absurd (not_both cs bs k.1.others h.1.others (file_one c.first cs h.1.others k.0 h.1.is) (file_one c.second k.1.others bs k.1.is h.0) k.1.newer h.1.newer)
bodies_one c (suc i) (suc j) bs cs h k = file_one c.second bs cs h.0 k.0

pub records_one : AreApart → (v w : Version) (rs ss : List Record) (xs : List (List ℕ)) → AreRecords v rs xs → AreRecords w ss xs → rs ≡ ss
records_one apart v w [] [] [] h k = refl
records_one apart v w [] (s ∷ ss) [] h k = absurd k
records_one apart v w (r ∷ rs) ss [] h k = absurd h
records_one apart v w [] ss (x ∷ xs) h k = absurd h
records_one apart v w (r ∷ rs) [] (x ∷ xs) h k = absurd k
records_one apart v w (r ∷ rs) (s ∷ ss) (x ∷ xs) h k = λ i. apart v w r s x h.0 k.0 i ∷ records_one apart v w rs ss xs h.1 k.1 i

-- each of them is a record
pub is_one : (v : Version) (rs : List Record) (front : List (List ℕ)) (body : List ℕ) (rest : List (List ℕ)) → AreRecords v rs (front ++ body ∷ rest) → (r : Record) × IsRecord v r body
is_one v [] [] body rest h = absurd h
is_one v (r ∷ rs) [] body rest h = (r, h.0)
is_one v [] (x ∷ front) body rest h = absurd h
is_one v (r ∷ rs) (x ∷ front) body rest h = is_one v rs front body rest h.1

-- what the bodies of a file begin with
behind_front : (front : List (List ℕ)) (rest f : List ℕ) (bodies : List (List ℕ)) → AreBodies front → f ≡ frames front ++ rest → Framed bodies f → (more : List (List ℕ)) × (bodies ≡ front ++ more) × Framed more rest
behind_front [] rest f bodies sized is h = (bodies, refl, subst (Framed bodies) is h)
behind_front (b ∷ front) rest f bodies sized is h =
    let after = frames front ++ rest in
    let (more, e, m) = tail_framed b after f bodies (record { sized = sized.0; is = is ∙ ap (λ z. 1 ∷ z) (append_assoc (behind b) (frames front) rest) }) h in
    let (last, d, n) = behind_front front rest after more sized.1 refl m in
    (last, e ∙ ap (λ z. b ∷ z) d, n)

last_unmarked : (front : List (List ℕ)) (body : List ℕ) (more : List (List ℕ)) → AreUnmarked (front ++ body ∷ more) → mark_of body ≡ None
last_unmarked [] body more h = h.0
last_unmarked (x ∷ front) body more h = last_unmarked front body more h.1

unmarked : (front : List (List ℕ)) (body : List ℕ) (more : List (List ℕ)) → front ≢ [] → AreInPlace (front ++ body ∷ more) → mark_of body ≡ None
unmarked [] body more h k = absurd (h refl)
unmarked (x ∷ front) body more h k = last_unmarked front body more k

-- a file that is bad at a place has no bodies
bad_none : (place : ℕ) (f : List ℕ) (bodies : List (List ℕ)) → IsBadAt place f → FileOf f bodies → ⊥
bad_none place f bodies b h =
    let (more, e, m) = behind_front b.front b.rest f bodies b.sized b.is (framed_of f bodies b.long h) in
    by_case more e m b.bad
  where
    by_case : (more : List (List ℕ)) → bodies ≡ b.front ++ more → Framed more b.rest → NoFrame b.rest ⊎ IsStray b.front b.rest → ⊥
    by_case more e m (inl n) = not_framed b.rest n more m
    by_case more e m (inr s) =
        let (last, d, n) = tail_framed s.body s.after b.rest more s.begins m in
        s.mark (unmarked b.front s.body last s.behind (subst AreInPlace (e ∙ ap (λ z. b.front ++ z) d) h.listed.placed))

-- nor do files that are judged bad have a live one
pub judged_none : (files : Files) (file place live : ℕ) (bodies : List (List ℕ)) → IsJudged file place files → HasLive live bodies files → ⊥
judged_none files zero place zero bodies b h = bad_none place files.first bodies b h.0
judged_none files zero place (suc n) bodies b h = bad_none place files.first h.1.others b h.1.is
judged_none files (suc m) place zero bodies b h = bad_none place files.second h.1.others b.1 h.1.is
judged_none files (suc m) place (suc n) bodies b h = bad_none place files.second bodies b.1 h.0

no_older : (xs ys zs : List (List ℕ)) → xs ≡ ys → (head_of zs).generation < (head_of xs).generation → (head_of ys).generation ≤ (head_of []).generation → ⊥
no_older xs ys zs e less none = omega (arith, less, none, ap (λ z. (head_of z).generation) e)

not_new : (files : Files) → AreNew files → (11 < length files.first) ⊎ (11 < length files.second) → ⊥
not_new files new (inl long) = let short = new.first in omega (arith, long, short)
not_new files new (inr long) = let short = new.second in omega (arith, long, short)

-- nor do files that hold nothing of a journal
pub foreign_none : (files : Files) (live : ℕ) (bodies : List (List ℕ)) → IsForeign files → HasLive live bodies files → ⊥
foreign_none files zero bodies n (is, beside, ours) = not_new files (subst (λ z. IsJournal z files) (file_one files.first bodies [] is n.is) ours) n.long
foreign_none files (suc m) bodies n (is, beside, ours) = no_older bodies n.others beside.others (file_one files.second bodies n.others is n.other) beside.newer n.newer
