-- What the file that isn't live still allows.
use Rattle.std.proofs.Common.{ℕ, List, Bool, Result, Ok, Err, true, false, zero, suc, [], ◌∷◌, length, ◌≡◌, ◌≢◌, ◌≤◌, inl, inr, ⊎_elim, refl, sym, ◌∙◌, ap, subst, drop, get_or, option_map, arith}
use Rattle.std.proofs.lemmas.Bool.{cases_eq}
use Rattle.std.proofs.lemmas.List.{drop_more}
use Rattle.site_model.specs.Calls.{Raised}
use Rattle.site_model.specs.Told.{Told, Files, Is, Torn, TornFrom, other_than, with_file, written}
use Rattle.journal_at.specs.Format.{FileOf, head_of}
use Rattle.journal_at.specs.Pairs.{Beside, IsLive}
use Rattle.journal_at.specs.Frames.{IsShut}
use Rattle.journal_at.specs.Scans.{IsGate}
use Rattle.journal_at.specs.StandingBodies.{Laid, MayShut, Spare}
use Rattle.journal_at.proofs.Appends.{live_more, other_with}
use Rattle.journal_at.proofs.DeviceCalls.{option_map_is}

-- the other file is what it was
pub record Others (w : ℕ) (old new : Told) : Type 0 where
  pub files : (f : Files) → Is new.files f → (g : Files) × Is old.files g × (other_than w f ≡ other_than w g)
  pub images : (c : Files) → new.images c → (d : Files) × old.images d × (other_than w c ≡ other_than w d)

pub others_then : (w : ℕ) (old mid new : Told) → Others w old mid → Others w mid new → Others w old new
others_then w old mid new h k =
    record {
      files = λ f is. let (g, was, e) = k.files f is in let (d, first, n) = h.files g was in (d, first, e ∙ n);
      images = λ c im. let (g, was, e) = k.images c im in let (d, first, n) = h.images g was in (d, first, e ∙ n);
    }

pub others_done : (w : ℕ) (change : List ℕ → List ℕ) (old new : Told) → new.files ≡ option_map (with_file w change) old.files → (f : Files) → Is new.files f → (g : Files) × Is old.files g × (other_than w f ≡ other_than w g)
others_done w change old new now f is =
    let (g, was, same) = option_map_is (with_file w change) old.files f (sym now ∙ is) in
    (g, was, ap (other_than w) same ∙ other_with w change g)

pub others_torn : (w at n : ℕ) (old : Files → Type 0) (c : Files) → TornFrom w at n old c → (d : Files) × old d × (other_than w c ≡ other_than w d)
others_torn w at n old c (d, was, t) = (d, was, t.kept)

pub others_laid : {T E : Type 0} (w at : ℕ) (b : List ℕ) (r : Result T E) (old new : Told) → Laid w at b r old new → Others w old new
others_laid w at b (Ok x) old new h = record { files = others_done w (written at b) old new h.done; images = λ c im. others_torn w at (length b) old.images c (h.images c im) }
others_laid w at b (Err x) old new h =
    record {
      files = λ f is. ⊎_elim (λ k. let (g, was, same) = k in (g, was, ap (other_than w) same ∙ other_with w (written at b) g)) (λ t. others_torn w at (length b) (Is old.files) f t) (h.failed f is);
      images = λ c im. others_torn w at (length b) old.images c (h.images c im);
    }

pub others_raised : {T E : Type 0} (w at : ℕ) (r : Result T E) (old new : Told) → Raised w at r old new → Others w old new
others_raised w at (Ok x) old new h = record { files = others_done w (written at (1 ∷ [])) old new h.done; images = λ c im. others_torn w at 1 old.images c (h.images c im) }
others_raised w at (Err x) old new h = record { files = λ f is. others_torn w at 1 (Is old.files) f (h.failed f is); images = λ c im. others_torn w at 1 old.images c (h.images c im) }

pub spare_others : (u : Bool) (w : ℕ) (bodies : List (List ℕ)) (old new : Told) → Others w old new → Spare u w bodies old → Spare u w bodies new
spare_others true w bodies old new o s = (
  (λ f is. let (g, was, e) = o.files f is in subst (MayShut w bodies) (sym e) (s.0 g was)),
  (λ c im. let (d, was, e) = o.images c im in subst (MayShut w bodies) (sym e) (s.1 d was)),
)
spare_others false w bodies old new o s = λ f is. let (g, was, e) = o.files f is in subst IsShut (sym e) (s g was)

pub may_more : (w : ℕ) (bodies later : List (List ℕ)) (f : List ℕ) → (head_of later).generation ≡ (head_of bodies).generation → MayShut w bodies f → MayShut w later f
may_more w bodies later f e h = record { any = λ x t. let b = h.any x t in record { others = b.others; is = b.is; newer = live_more w bodies later b.others e b.newer } }

pub spare_more : (u : Bool) (w : ℕ) (bodies later : List (List ℕ)) (s : Told) → (head_of later).generation ≡ (head_of bodies).generation → Spare u w bodies s → Spare u w later s
spare_more true w bodies later s e h = ((λ f is. may_more w bodies later _ e (h.0 f is)), (λ c im. may_more w bodies later _ e (h.1 c im)))
spare_more false w bodies later s e h = h

-- a list without bodies is the oldest
pub none_older : (w : ℕ) (bodies others : List (List ℕ)) → IsLive w bodies others → IsLive w bodies []
none_older zero bodies others h = omega arith
none_older (suc n) bodies others h = omega (arith, h)

pub shut_file : (f : List ℕ) → IsShut f → FileOf f []
shut_file f s = record { listed = record { sized = tt; placed = tt }; is = inr (record { gate = s.gate; rest = s.rest; shut = s.shut; is = s.is }) }

pub beside_shut : (w : ℕ) (bodies : List (List ℕ)) (o f : List ℕ) → Beside w bodies o → IsShut f → Beside w bodies f
beside_shut w bodies o f b s = record { others = []; is = shut_file f s; newer = none_older w bodies b.others b.newer }

pub short_file : (f : List ℕ) → length f ≤ 1 → FileOf f []
short_file f l = record { listed = record { sized = tt; placed = tt }; is = inl (l, refl) }

pub first_torn : (f x : List ℕ) → 1 ≤ length f → Torn 0 1 f x → x ≡ get_or x 0 0 ∷ drop 1 f
first_torn f x l t = drop_more x 0 0 (omega (arith, l, t.no_shorter)) ∙ ap (λ z. get_or x 0 0 ∷ z) t.after

-- an open gate before bodies may be shut, and opened again
pub may_open : (w : ℕ) (bodies others : List (List ℕ)) (f rest : List ℕ) → FileOf f others → f ≡ 1 ∷ rest → IsLive w bodies others → (x : List ℕ) → Torn 0 1 f x → Beside w bodies x
may_open w bodies others f rest h e l x t = ⊎_elim same shut (cases_eq (get_or x 0 0) 1) where
  is : x ≡ get_or x 0 0 ∷ rest
  is = first_torn f x (omega (arith, ap length e)) t ∙ ap (λ z. get_or x 0 0 ∷ drop 1 z) e

  same : get_or x 0 0 ≡ 1 → Beside w bodies x
  same one = record { others = others; is = subst (λ z. FileOf z others) (e ∙ sym (is ∙ ap (λ z. z ∷ rest) one)) h; newer = l }

  shut : get_or x 0 0 ≢ 1 → Beside w bodies x
  shut other = record { others = []; is = shut_file x (record { gate = get_or x 0 0; rest = rest; shut = other; is = is }); newer = none_older w bodies others l }

pub may_shut : (w : ℕ) (bodies others : List (List ℕ)) (f : List ℕ) → FileOf f others → IsGate true f → IsLive w bodies others → MayShut w bodies f
may_shut w bodies others f h (inl e) l = record { any = λ x t. record { others = []; is = short_file x (omega (arith, ap length e, t.no_longer)); newer = none_older w bodies others l } }
may_shut w bodies others f h (inr k) l = record { any = may_open w bodies others f k.0 h k.1 l }

-- two such writes are one
pub torn_twice : (a b c : List ℕ) → Torn 0 1 a b → Torn 0 1 b c → Torn 0 1 a c
torn_twice a b c h k =
    record {
      before = λ n z l. k.before n z (omega (arith, z)) ∙ h.before n z l;
      after = k.after ∙ h.after;
      no_shorter = omega (arith, h.no_shorter, k.no_shorter);
      no_longer = omega (arith, h.no_longer, k.no_longer);
    }

pub may_torn : (w : ℕ) (bodies : List (List ℕ)) (f x : List ℕ) → MayShut w bodies f → Torn 0 1 f x → MayShut w bodies x
may_torn w bodies f x h t = record { any = λ y k. h.any y (torn_twice f x y t k) }

pub spare_of : (u : Bool) (w : ℕ) (bodies others : List (List ℕ)) (s : Told) → IsLive w bodies others → ((f : Files) → Is s.files f → FileOf (other_than w f) others × IsGate u (other_than w f)) → ((c : Files) → s.images c → FileOf (other_than w c) others × IsGate u (other_than w c)) → Spare u w bodies s
spare_of true w bodies others s l files images =
    ((λ f is. may_shut w bodies others _ (files f is).0 (files f is).1 l), (λ c im. may_shut w bodies others _ (images c im).0 (images c im).1 l))
spare_of false w bodies others s l files images = λ f is. (files f is).1
