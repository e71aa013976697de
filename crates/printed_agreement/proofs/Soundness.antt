-- Lines of a report, put together: what stands in one world stands in those that follow.
use Rattle.std.proofs.Common.{ℕ, List, [], ◌∷◌, ◌++◌, ◌≡◌, ◌-◌, Bool, true, false, Some, sym, ap, ◌∙◌}
use Rattle.std.specs.Prelude.{nat_eq, if◌then◌else◌}
use Rattle.std.specs.List.{AllByRecursion}
use Rattle.at_base.specs.declared.epr.Epr.{Epr}
use Rattle.at_base.specs.declared.message.Message.TheVariants as messages
use Rattle.at_model.specs.World.{Posted, World, WorldEvent, Turn, Ask, Crash, Up, Deliver, Tick, Raw, nth, Hosts}
use Rattle.printed_agreement.specs.RegisterAnswers.{Delivers, IsBrought, IsNoDelivery}
use Rattle.printed_agreement.specs.ReportLines.{Brings, Delivered, Entry, IsQuiet, Posts, Quiet, Sound, Stands}

nth_more : {A : Type 0} (n : ℕ) (xs ys : List A) (x : A) → nth n xs ≡ Some x → nth n (xs ++ ys) ≡ Some x
nth_more n [] ys x e = absurd cc
nth_more {A} n (z ∷ zs) ys x e = by_number (λ f. nth_more (n - 1) zs ys x f) (nat_eq n 1) e
  where
    by_number : (nth (n - 1) zs ≡ Some x → nth (n - 1) (zs ++ ys) ≡ Some x) → (b : Bool) → (if b then Some z else nth (n - 1) zs) ≡ Some x
        → (if b then Some z else nth (n - 1) (zs ++ ys)) ≡ Some x
    by_number rest true f = f
    by_number rest false f = rest f

-- what was posted is posted
pub still_found : (w v : World) (more : List Posted) → v.posted ≡ w.posted ++ more → (k : ℕ) (p : Posted) → nth k w.posted ≡ Some p → nth k v.posted ≡ Some p
still_found w v more e k p found = ap (nth k) e ∙ nth_more k w.posted more p found

stands_on : (w v : World) (more : List Posted) → v.posted ≡ w.posted ++ more → (x : Entry) → Stands w x → Stands v x
stands_on w v more e (Delivered k n status) h = h
stands_on w v more e (Posts k p) h = still_found w v more e k p h
stands_on w v more e (Quiet line) h = h

brings_on : (hosts : Hosts) (w v : World) (more : List Posted) → v.posted ≡ w.posted ++ more → (x : Entry) (xs : List Entry) → Brings hosts w x xs → Brings hosts v x xs
brings_on hosts w v more e (Delivered k n status) [] h = tt
brings_on hosts w v more e (Delivered k n status) (Delivered l m other ∷ xs) h = tt
brings_on hosts w v more e (Delivered k n status) (Quiet line ∷ xs) h = tt
brings_on hosts w v more e (Delivered k n status) (Posts j q ∷ xs) h = λ c says. let (p, found, a) = h c says in (p, still_found w v more e k p found, a)
brings_on hosts w v more e (Posts k p) xs h = tt
brings_on hosts w v more e (Quiet line) xs h = tt

pub sound_on : (hosts : Hosts) (w v : World) (more : List Posted) → v.posted ≡ w.posted ++ more → (xs : List Entry) → Sound hosts w xs → Sound hosts v xs
sound_on hosts w v more e [] h = tt
sound_on hosts w v more e (x ∷ xs) h = (stands_on w v more e x h.0, brings_on hosts w v more e x xs h.1, sound_on hosts w v more e xs h.2)

-- the first line is no answer to a Register
abbrev pub Opens : List Entry → Type 0
Opens (Posts j q ∷ xs) = (c : Epr) → q.content.message ≡ messages.RegisterResponse c → ⊥
Opens other = Unit {0}

brings_opening : (hosts : Hosts) (w : World) (x : Entry) (ys : List Entry) → Opens ys → Brings hosts w x ys
brings_opening hosts w (Posts k p) ys h = tt
brings_opening hosts w (Quiet line) ys h = tt
brings_opening hosts w (Delivered k n status) [] h = tt
brings_opening hosts w (Delivered k n status) (Delivered l m other ∷ ys) h = tt
brings_opening hosts w (Delivered k n status) (Quiet line ∷ ys) h = tt
brings_opening hosts w (Delivered k n status) (Posts j q ∷ ys) h = λ c says. absurd (h c says)

-- what a line brings about is told by the line behind it
pub brings_same : (hosts : Hosts) (w : World) (x y : Entry) (xs ys : List Entry) → Brings hosts w x (y ∷ xs) → Brings hosts w x (y ∷ ys)
brings_same hosts w (Posts k p) y xs ys h = tt
brings_same hosts w (Quiet line) y xs ys h = tt
brings_same hosts w (Delivered k n status) (Delivered l m other) xs ys h = tt
brings_same hosts w (Delivered k n status) (Quiet line) xs ys h = tt
brings_same hosts w (Delivered k n status) (Posts j q) xs ys h = h

pub sound_both : (hosts : Hosts) (w : World) (xs ys : List Entry) → Opens ys → Sound hosts w xs → Sound hosts w ys → Sound hosts w (xs ++ ys)
sound_both hosts w [] ys opens h k = k
sound_both hosts w (x ∷ []) ys opens h k = (h.0, brings_opening hosts w x ys opens, k)
sound_both hosts w (x ∷ (y ∷ xs)) ys opens h k = (h.0, brings_same hosts w x y xs (xs ++ ys) h.1, sound_both hosts w (y ∷ xs) ys opens h.2 k)

-- a line that is neither of a message nor of a delivery, put in anywhere
pub sound_quiet : (hosts : Hosts) (w : World) (x : Entry) (line : List ℕ) (xs : List Entry) → Stands w x → IsQuiet line → Sound hosts w xs → Sound hosts w (x ∷ (Quiet line ∷ xs))
sound_quiet hosts w (Delivered k n status) line xs s q h = (s, tt, (q, tt, h))
sound_quiet hosts w (Posts k p) line xs s q h = (s, tt, (q, tt, h))
sound_quiet hosts w (Quiet other) line xs s q h = (s, tt, (q, tt, h))

-- a line of the steps of an event: of a message that is posted so, or neither of a message nor of a delivery
abbrev pub IsStepLine : World → (Posted → Type 0) → Entry → Type 0
IsStepLine v F (Delivered k n status) = ⊥
IsStepLine v F (Posts j q) = (nth j v.posted ≡ Some q) × F q
IsStepLine v F (Quiet line) = IsQuiet line

pub steps_sound : (hosts : Hosts) (v : World) (F : Posted → Type 0) (xs : List Entry) → AllByRecursion (IsStepLine v F) xs → Sound hosts v xs
steps_sound hosts v F [] h = tt
steps_sound hosts v F (Delivered k n status ∷ xs) h = absurd h.0
steps_sound hosts v F (Posts j q ∷ xs) h = (h.0.0, tt, steps_sound hosts v F xs h.1)
steps_sound hosts v F (Quiet line ∷ xs) h = (h.0, tt, steps_sound hosts v F xs h.1)

one_delivery : (k l : ℕ) (e : WorldEvent) → Delivers k e → Delivers l e → l ≡ k
one_delivery k l (Turn n (Deliver m) fates until) h g = sym g ∙ h
one_delivery k l (Turn n (Tick ms) fates until) h g = absurd h
one_delivery k l (Turn n Raw fates until) h g = absurd h
one_delivery k l (Ask n r fates until) h g = absurd h
one_delivery k l (Crash n) h g = absurd h
one_delivery k l (Up n landed stop) h g = absurd h

-- the line of a delivery, and those of its steps
pub delivery_sound : (hosts : Hosts) (w v : World) (more : List Posted) → v.posted ≡ w.posted ++ more → (e : WorldEvent) (k n : ℕ) (status : List ℕ) (xs : List Entry) → Delivers k e
    → AllByRecursion (IsStepLine v (IsBrought hosts w e)) xs → Sound hosts v (Delivered k n status ∷ xs)
delivery_sound hosts w v more grows e k n status xs delivers h = (tt, first xs h, steps_sound hosts v (IsBrought hosts w e) xs h)
  where
    first : (ys : List Entry) → AllByRecursion (IsStepLine v (IsBrought hosts w e)) ys → Brings hosts v (Delivered k n status) ys
    first [] g = tt
    first (Delivered l m other ∷ ys) g = tt
    first (Quiet line ∷ ys) g = tt
    first (Posts j q ∷ ys) g = λ c says.
        let (l, is, p, found, a) = g.0.1 c says in
        (p, still_found w v more grows k p (ap (λ i. nth i w.posted) (sym (one_delivery k l e delivers is)) ∙ found), a)

none_delivers : (k : ℕ) (e : WorldEvent) → IsNoDelivery e → Delivers k e → ⊥
none_delivers k (Turn n (Deliver l) fates until) h d = h
none_delivers k (Turn n (Tick ms) fates until) h d = d
none_delivers k (Turn n Raw fates until) h d = d
none_delivers k (Ask n r fates until) h d = d
none_delivers k (Crash n) h d = d
none_delivers k (Up n landed stop) h d = d

-- the steps of any other event
pub steps_open : (hosts : Hosts) (w v : World) (e : WorldEvent) (xs : List Entry) → IsNoDelivery e → AllByRecursion (IsStepLine v (IsBrought hosts w e)) xs → Opens xs
steps_open hosts w v e [] h g = tt
steps_open hosts w v e (Delivered k n status ∷ xs) h g = tt
steps_open hosts w v e (Quiet line ∷ xs) h g = tt
steps_open hosts w v e (Posts j q ∷ xs) h g = λ c says. let (k, delivers, p, found, a) = g.0.1 c says in none_delivers k e h delivers
