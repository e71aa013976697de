-- Rows of calls of the disk, and of answers and posts.
use Rattle.std.specs.Prelude.{ℕ, List, [], ◌∷◌, ◌++◌, ◌+◌, ◌≡◌, ◌≤◌, ◌⊎◌, Bool, true, false, if◌then◌else◌, map}
use Rattle.std.specs.List.{AllByRecursion}
use Rattle.std.proofs.Common.{refl, sym, ap, subst, arith, ◌∙◌, inl, inr}
use Rattle.site_model.specs.Told.{BreaksOff, Call, Made, done}
use Rattle.mirrored_nets.specs.Fates.{AllDone, all_done, anew_of, behind_disk, behind_sent, disk_part, failures, fates_in, is_disk, is_done, record_fate, refusals, sent_of, sent_part}

abbrev pub IsOnDisk : Made → Type 0
IsOnDisk m = is_disk m.call ≡ true

-- an answer or a post
abbrev pub IsSending : Made → Type 0
IsSending m = is_disk m.call ≡ false

abbrev pub AreOnDisk : List Made → Type 0
AreOnDisk ms = AllByRecursion IsOnDisk ms

abbrev pub AreSendings : List Made → Type 0
AreSendings ms = AllByRecursion IsSending ms

pub disk_first : (ds ms : List Made) → AreOnDisk ds → disk_part (ds ++ ms) ≡ ds ++ disk_part ms
disk_first [] ms h = refl
disk_first (d ∷ ds) ms (h, more) = ap (λ t. if t then d ∷ disk_part (ds ++ ms) else []) h ∙ ap (λ z. d ∷ z) (disk_first ds ms more)

pub behind_first : (ds ms : List Made) → AreOnDisk ds → behind_disk (ds ++ ms) ≡ behind_disk ms
behind_first [] ms h = refl
behind_first (d ∷ ds) ms (h, more) = ap (λ t. if t then behind_disk (ds ++ ms) else d ∷ (ds ++ ms)) h ∙ behind_first ds ms more

-- no call of the disk comes first
pub none_first : (s : Made) (ms : List Made) → IsSending s → disk_part (s ∷ ms) ≡ []
none_first s ms h = ap (λ t. if t then s ∷ disk_part ms else []) h

pub none_behind : (s : Made) (ms : List Made) → IsSending s → behind_disk (s ∷ ms) ≡ s ∷ ms
none_behind s ms h = ap (λ t. if t then behind_disk ms else s ∷ ms) h

pub sent_first : (ss ms : List Made) → AreSendings ss → sent_part (ss ++ ms) ≡ ss ++ sent_part ms
sent_first [] ms h = refl
sent_first (s ∷ ss) ms (h, more) = ap (λ t. if t then [] else s ∷ sent_part (ss ++ ms)) h ∙ ap (λ z. s ∷ z) (sent_first ss ms more)

pub behind_sendings : (ss ms : List Made) → AreSendings ss → behind_sent (ss ++ ms) ≡ behind_sent ms
behind_sendings [] ms h = refl
behind_sendings (s ∷ ss) ms (h, more) = ap (λ t. if t then s ∷ (ss ++ ms) else behind_sent (ss ++ ms)) h ∙ behind_sendings ss ms more

pub none_sent : (ms : List Made) → AreOnDisk ms → sent_part ms ≡ []
none_sent [] h = refl
none_sent (m ∷ ms) (h, more) = ap (λ t. if t then [] else m ∷ sent_part ms) h

pub all_behind : (ms : List Made) → AreOnDisk ms → behind_sent ms ≡ ms
all_behind [] h = refl
all_behind (m ∷ ms) (h, more) = ap (λ t. if t then m ∷ ms else behind_sent ms) h

-- A record's calls, then answers and posts, then calls of the disk: where none was sent, none of those come.
pub record AreParts (disk sends anew : List Made) : Type 0 where
  pub disk_are : AreOnDisk disk
  pub sends_are : AreSendings sends
  pub anew_are : AreOnDisk anew
  pub none : sends ≡ [] → anew ≡ []

module _ (disk : List Made) where
  pub disk_is : (sends anew : List Made) → AreParts disk sends anew → disk_part (disk ++ (sends ++ anew)) ≡ disk
  disk_is sends anew h = disk_first disk (sends ++ anew) h.disk_are ∙ ap (λ z. disk ++ z) (by sends h.sends_are h.none) ∙ append_nil disk
    where
      append_nil : (xs : List Made) → xs ++ [] ≡ xs
      append_nil [] = refl
      append_nil (x ∷ xs) = ap (λ z. x ∷ z) (append_nil xs)

      by : (ss : List Made) → AreSendings ss → (ss ≡ [] → anew ≡ []) → disk_part (ss ++ anew) ≡ []
      by [] k none = ap disk_part (none refl)
      by (s ∷ ss) (k, more) none = none_first s (ss ++ anew) k

  pub behind_is : (sends anew : List Made) → AreParts disk sends anew → behind_disk (disk ++ (sends ++ anew)) ≡ sends ++ anew
  behind_is sends anew h = behind_first disk (sends ++ anew) h.disk_are ∙ by sends h.sends_are h.none
    where
      by : (ss : List Made) → AreSendings ss → (ss ≡ [] → anew ≡ []) → behind_disk (ss ++ anew) ≡ ss ++ anew
      by [] k none = ap behind_disk (none refl) ∙ sym (none refl)
      by (s ∷ ss) (k, more) none = none_behind s (ss ++ anew) k

  pub sent_is : (sends anew : List Made) → AreParts disk sends anew → sent_of (disk ++ (sends ++ anew)) ≡ sends
  sent_is sends anew h =
      ap sent_part (behind_is sends anew h) ∙ sent_first sends anew h.sends_are ∙ ap (λ z. sends ++ z) (none_sent anew h.anew_are) ∙ append_nil sends
    where
      append_nil : (xs : List Made) → xs ++ [] ≡ xs
      append_nil [] = refl
      append_nil (x ∷ xs) = ap (λ z. x ∷ z) (append_nil xs)

  pub anew_is : (sends anew : List Made) → AreParts disk sends anew → anew_of (disk ++ (sends ++ anew)) ≡ anew
  anew_is sends anew h = ap behind_sent (behind_is sends anew h) ∙ behind_sendings sends anew h.sends_are ∙ all_behind anew h.anew_are

  pub fates_are : (sends anew : List Made) → AreParts disk sends anew → fates_in (disk ++ (sends ++ anew)) ≡ record_fate disk ++ map is_done sends
  fates_are sends anew h = λ j. record_fate (disk_is sends anew h j) ++ map is_done (sent_is sends anew h j)

-- what failed of them
abbrev one_failed : Bool → Bool → ℕ
one_failed b t = if b then 0 else (if t then 0 else 1)

abbrev pub one_refused : Bool → Bool → ℕ
one_refused b t = if b then (if t then 0 else 1) else 0

pub failures_join : (xs ys : List Made) → failures (xs ++ ys) ≡ failures xs + failures ys
failures_join [] ys = omega arith
failures_join (x ∷ xs) ys = let e = failures_join xs ys in omega (arith, e)

pub refusals_join : (xs ys : List Made) → refusals (xs ++ ys) ≡ refusals xs + refusals ys
refusals_join [] ys = omega arith
refusals_join (x ∷ xs) ys = let e = refusals_join xs ys in omega (arith, e)

pub none_fails : (ms : List Made) → AreOnDisk ms → failures ms ≡ 0
none_fails [] h = refl
none_fails (m ∷ ms) (h, more) =
    let e : one_failed (is_disk m.call) m.done ≡ 0 = ap (λ t. one_failed t m.done) h in
    let k = none_fails ms more in
    omega (arith, e, k)

pub none_refused : (ms : List Made) → AreSendings ms → refusals ms ≡ 0
none_refused [] h = refl
none_refused (m ∷ ms) (h, more) =
    let e : one_refused (is_disk m.call) m.done ≡ 0 = ap (λ t. one_refused t m.done) h in
    let k = none_refused ms more in
    omega (arith, e, k)

pub count_none : (b t : Bool) → t ≡ true → one_refused b t ≡ 0
count_none true t h = ap (λ z. if z then 0 else 1) h
count_none false t h = refl

pub all_refused_none : (ms : List Made) → AllDone ms → refusals ms ≡ 0
all_refused_none [] h = refl
all_refused_none (m ∷ ms) (h, more) =
    let e = count_none (is_disk m.call) m.done h in
    let k = all_refused_none ms more in
    omega (arith, e, k)

-- of calls of which one failed not all were done
pub not_all_done : (ms : List Made) → 1 ≤ refusals ms → all_done ms ≡ false
not_all_done [] h = absurd (omega (arith, h))
not_all_done (m ∷ ms) h = by (λ k. not_all_done ms k) m.done refl
  where
    by : (1 ≤ refusals ms → all_done ms ≡ false) → (t : Bool) → m.done ≡ t → (if t then all_done ms else false) ≡ false
    by later false e = refl
    by later true e = let k = count_none (is_disk m.call) m.done e in later (omega (arith, h, k))

pub some_refused : (ms : List Made) → 1 ≤ refusals ms → ms ≡ [] → ⊥
some_refused [] h e = omega (arith, h)
some_refused (m ∷ ms) h e = absurd cc

-- calls of the disk of which one failed, or was not tried
pub disk_calls : (calls : List Call) (made : List Made) → AreOnDisk (map done calls) → BreaksOff calls made → AreOnDisk made
disk_calls calls made h b = by b.is
  where
    front_of : (xs : List Call) (ys : List Call) → AreOnDisk (map done (xs ++ ys)) → AreOnDisk (map done xs)
    front_of [] ys k = tt
    front_of (x ∷ xs) ys (k, more) = (k, front_of xs ys more)

    one_of : (xs : List Call) (y : Call) (ys : List Call) → AreOnDisk (map done (xs ++ y ∷ ys)) → AreOnDisk (map done xs ++ record { call = y; done = false } ∷ [])
    one_of [] y ys (k, more) = (k, tt)
    one_of (x ∷ xs) y ys (k, more) = (k, one_of xs y ys more)

    all : AreOnDisk (map done (b.front ++ b.call ∷ b.rest))
    all = subst (λ z. AreOnDisk (map done z)) b.split h

    by : (made ≡ map done b.front ++ record { call = b.call; done = false } ∷ []) ⊎ (made ≡ map done b.front) → AreOnDisk made
    by (inl e) = subst AreOnDisk (sym e) (one_of b.front b.call b.rest all)
    by (inr e) = subst AreOnDisk (sym e) (front_of b.front (b.call ∷ b.rest) all)
