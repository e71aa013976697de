-- What a crash may leave is what may be left byte by byte.
use Rattle.std.proofs.Common.{ℕ, List, [], ◌∷◌, length, ◌≡◌, ◌++◌, ◌+◌, ◌<◌, ◌≤◌, ◌-◌, ◌⊎◌, inl, inr, ⊎_elim, refl, sym, ◌∙◌, ap, subst, take, drop, get_or, arith}
use Rattle.std.specs.Prelude.{max, min}
use Rattle.std.proofs.lemmas.List.{append_assoc, length-append, length-take, length-drop, get_or-take, get_or-drop, get_or_append_left, get_or-append_right, ext_get_or, take-append-le, take-take, drop_all}
use Rattle.std.proofs.lemmas.Bool.{cases_lt}
use Rattle.std.proofs.Math.Seq.{drop-append_seam}
use Rattle.site_model.specs.Told.{Torn}
use Rattle.site_memory.specs.declared.range.Range.{Range}
use Rattle.site_memory.specs.declared.range.Which.TheVariants.{First, Second}
use Rattle.site_memory.specs.Disk.{Disk, MayBe, TornAt, disk, torn_by}
use Rattle.site_memory.specs.ByteImages.{ByIndex, ImagesAreBytewise, IsFree, reach}

pub reach_least : (rs : List Range) (n : ℕ) → n ≤ reach rs n
reach_least [] n = omega arith
reach_least (r ∷ rs) n = let h = reach_least rs (max n (r.at + r.len)) in omega (arith, h)

pub reach_rises : (rs : List Range) (n m : ℕ) → n ≤ m → reach rs n ≤ reach rs m
reach_rises [] n m h = h
reach_rises (r ∷ rs) n m h = reach_rises rs (max n (r.at + r.len)) (max m (r.at + r.len)) (omega (arith, h))

-- what is outside of a torn range stays
pub torn_stays : (at n : ℕ) (f g : List ℕ) (i : ℕ) → Torn at n f g → i < length f → (i < at) ⊎ (at + n ≤ i) → get_or g i 0 ≡ get_or f i 0
torn_stays at n f g i t l (inl h) =
    sym (get_or-take (i + 1) g i 0 (omega arith)) ∙ ap (λ z. get_or z i 0) (t.before (i + 1) (omega (arith, h)) (omega (arith, l))) ∙ get_or-take (i + 1) f i 0 (omega arith)
torn_stays at n f g i t l (inr h) =
    let e : (at + n) + (i - (at + n)) ≡ i = omega (arith, h) in
    ap (λ k. get_or g k 0) (sym e) ∙ sym (get_or-drop (at + n) g (i - (at + n)) 0) ∙ ap (λ z. get_or z (i - (at + n)) 0) t.after ∙ get_or-drop (at + n) f (i - (at + n)) 0 ∙ ap (λ k. get_or f k 0) e

pub to_bytes : (from : List ℕ → Type 0) (rs : List Range) (c : List ℕ) → torn_by from rs c → (f : List ℕ) × from f × ByIndex f rs c
to_bytes from [] c h = (c, h, record { no_shorter = omega arith; no_longer = omega arith; stays = λ i l free. refl })
to_bytes from (r ∷ rs) c h =
    let (g, (f, was, t), b) = to_bytes (TornAt r.at r.len from) rs c h in (
      f,
      was,
      record {
        no_shorter = omega (arith, t.no_shorter, b.no_shorter);
        no_longer = let k = reach_rises rs (length g) (max (length f) (r.at + r.len)) t.no_longer in omega (arith, k, b.no_longer);
        stays = λ i l free. b.stays i (omega (arith, l, t.no_shorter)) free.1 ∙ torn_stays r.at r.len f g i t l free.0;
      },
    )

-- the file after the first write alone
module _ (at n : ℕ) (f c : List ℕ) (short : length f ≤ length c) where
  abbrev pub low : ℕ
  low = min at (length f)

  abbrev pub high : ℕ
  high = min (at + n) (length c)

  abbrev pub middle : List ℕ
  middle = drop low (take high c)

  abbrev pub torn_file : List ℕ
  torn_file = take low f ++ (middle ++ drop (at + n) f)

  pub front_long : length (take low f) ≡ low
  front_long = length-take low f ∙ omega arith

  pub middle_long : low + length middle ≡ high
  middle_long = omega (arith, length-drop low (take high c), length-take high c, short)

  pub torn_long : length torn_file ≡ high + (length f - (at + n))
  torn_long =
      let a = length-append (take low f) (middle ++ drop (at + n) f) in
      let b = length-append middle (drop (at + n) f) in
      let d = length-drop (at + n) f in
      omega (arith, a, b, d, front_long, middle_long)

  pub torn_head : (k : ℕ) → k ≤ at → k ≤ length f → take k torn_file ≡ take k f
  torn_head k h l = take-append-le k (take low f) _ (omega (arith, front_long, h, l)) ∙ take-take k low f (omega (arith, h, l))

  pub is_torn : Torn at n f torn_file
  is_torn =
      record {
        before = torn_head;
        after = tail;
        no_shorter = omega (arith, torn_long, short);
        no_longer = omega (arith, torn_long, short);
      } where
        inside : at + n ≤ length f → drop (at + n) torn_file ≡ drop (at + n) f
        inside h =
            let e : length (take low f ++ middle) ≡ at + n = length-append (take low f) middle ∙ omega (arith, front_long, middle_long, h, short) in
            ap (drop (at + n)) (sym (append_assoc (take low f) middle (drop (at + n) f))) ∙ ap (λ k. drop k ((take low f ++ middle) ++ drop (at + n) f)) (sym e) ∙ drop-append_seam (take low f ++ middle) (drop (at + n) f)

        past : length f ≤ at + n → drop (at + n) torn_file ≡ drop (at + n) f
        past h = drop_all (at + n) torn_file (omega (arith, torn_long, h)) ∙ sym (drop_all (at + n) f h)

        tail : drop (at + n) torn_file ≡ drop (at + n) f
        tail = ⊎_elim (λ l. past (omega (arith, l))) inside (cases_lt (length f) (at + n))

  -- behind the range it is the old one's
  pub in_back : (i : ℕ) → at + n ≤ i → i < length f → get_or torn_file i 0 ≡ get_or f i 0
  in_back i h l = torn_stays at n f torn_file i is_torn l (inr h)

  -- in the range, and past the old end, it is the image's; elsewhere the old one's
  pub in_middle : (i : ℕ) → low ≤ i → i < high → get_or torn_file i 0 ≡ get_or c i 0
  in_middle i h l =
      let e : low + (i - low) ≡ i = omega (arith, h) in
      get_or-append_right (take low f) (middle ++ drop (at + n) f) low i 0 front_long h
      ∙ get_or_append_left middle (drop (at + n) f) 0 (i - low) (omega (arith, middle_long, h, l))
      ∙ get_or-drop low (take high c) (i - low) 0 ∙ ap (λ k. get_or (take high c) k 0) e ∙ get_or-take high c i 0 l

  pub in_front : (i : ℕ) → i < low → get_or torn_file i 0 ≡ get_or f i 0
  in_front i l = get_or_append_left (take low f) (middle ++ drop (at + n) f) 0 i (omega (arith, front_long, l)) ∙ get_or-take low f i 0 l

  pub rest_bytes : (rs : List Range) → length c ≤ reach rs (max (length f) (at + n)) → ((i : ℕ) → i < length f → ((i < at) ⊎ (at + n ≤ i)) × IsFree rs i → get_or c i 0 ≡ get_or f i 0) → ByIndex torn_file rs c
  rest_bytes rs long stays =
      record {
        no_shorter = omega (arith, torn_long, short);
        no_longer = ⊎_elim longer shorter (cases_lt (length c) (max (length f) (at + n)));
        stays = λ i l free. ⊎_elim (front i free) (λ h. ⊎_elim (in_it i h free) (behind i l free) (cases_lt i high)) (cases_lt i low);
      } where
        longer : length c < max (length f) (at + n) → length c ≤ reach rs (length torn_file)
        longer h = let k = reach_least rs (length torn_file) in omega (arith, k, h, torn_long, short)

        shorter : max (length f) (at + n) ≤ length c → length c ≤ reach rs (length torn_file)
        shorter h = subst (λ k. length c ≤ reach rs k) (omega (arith, torn_long, h, short)) long

        front : (i : ℕ) → IsFree rs i → i < low → get_or c i 0 ≡ get_or torn_file i 0
        front i free h = stays i (omega (arith, h)) (inl (omega (arith, h)), free) ∙ sym (in_front i h)

        in_it : (i : ℕ) → low ≤ i → IsFree rs i → i < high → get_or c i 0 ≡ get_or torn_file i 0
        in_it i h free l = sym (in_middle i h l)

        behind : (i : ℕ) → i < length torn_file → IsFree rs i → high ≤ i → get_or c i 0 ≡ get_or torn_file i 0
        behind i l free h =
            let past : at + n ≤ i = omega (arith, torn_long, l, h, short) in
            let there : i < length f = omega (arith, torn_long, l, h, short) in
            stays i there (inr past, free) ∙ sym (in_back i past there)

pub from_bytes : (from : List ℕ → Type 0) (rs : List Range) (c f : List ℕ) → from f → ByIndex f rs c → torn_by from rs c
from_bytes from [] c f was b = subst from (sym same) was where
  same : c ≡ f
  same = ext_get_or 0 c f (omega (arith, b.no_shorter, b.no_longer)) (λ i l. b.stays i (omega (arith, l, b.no_longer)) tt)
from_bytes from (r ∷ rs) c f was b =
    from_bytes (TornAt r.at r.len from) rs c (torn_file r.at r.len f c b.no_shorter) (f, was, is_torn r.at r.len f c b.no_shorter) (rest_bytes r.at r.len f c b.no_shorter rs b.no_longer b.stays)

pub bytewise_one : (d : Disk) (c : List ℕ) → MayBe d c → ByIndex d.stable d.pending c
bytewise_one d c h =
    let (f, e, b) = to_bytes (λ f. f ≡ d.stable) d.pending c h in
    subst (λ z. ByIndex z d.pending c) e b

pub images_are_bytewise : ImagesAreBytewise
images_are_bytewise opening log c = (
  (λ h. (bytewise_one (disk First opening log) c.first h.0, bytewise_one (disk Second opening log) c.second h.1)),
  (λ h. (from_bytes _ _ c.first _ refl h.0, from_bytes _ _ c.second _ refl h.1)),
)
