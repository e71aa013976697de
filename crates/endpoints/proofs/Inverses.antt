-- A path names the target that it was written for, and no other path does.
use Rattle.std.proofs.Common.{ℕ, List, [], ◌∷◌, ◌++◌, ◌≡◌, ◌⊎◌, inl, inr, ◌<◌, ◌^◌, length, take, drop, get_or, Bool, true, false, Option, Some, None, cond, sym, ap, subst, ◌∙◌, arith, refl, suc, zero}
use Rattle.std.specs.Prelude.{◌≢◌, bytes_eq, codes, decimal, option_map}
use Rattle.std.proofs.lemmas.List.{take-append-drop}
use Rattle.std.proofs.lemmas.Option.{option_and_then_some}
use Rattle.std.proofs.lemmas.Slice.Eq.{bytes_eq-Decides}
use Rattle.std.proofs.lemmas.Str.Parse.{digit_at}
use Rattle.std.proofs.lemmas.Fmt.{decimal_is_IsNumeral}
use Rattle.std.proofs.Math.Seq.{take-append_seam}
use Rattle.at_base.specs.Numbers.{Numbers}
use Rattle.at_base.specs.IdText.{IsId, SpellsId, id_text, hyphen}
use Rattle.at_base.specs.declared.notice.Kind.{Kind}
use Rattle.at_base.specs.declared.notice.Kind.TheVariants as kinds
use Rattle.at_base.specs.declared.target.Target.{Target}
use Rattle.at_base.specs.declared.target.Target.TheVariants as targets
use Rattle.endpoints.specs.Addresses.{IsWritten, PathsNameTargets, after_prefix, behind, id_of, number_of, or_else, path_of, seat_of, slash, split_at, target_of}
use Rattle.endpoints.specs.Paths.{item_of, participant_of, party_of}
use Rattle.endpoints.proofs.Numbers.{Spells, id_is, id_some, number_is, number_some}
use Rattle.endpoints.proofs.TextSplits.{Lacks, split_first, split_whole}

-- bytes below the digits
pub no_digit : (c n : ℕ) → c < 48 → n < 2 ^ 64 → Lacks c (decimal n)
no_digit c n low small = λ i within e.
    let here = digit_at (decimal n) i (decimal_is_IsNumeral n small).0.1 within in absurd (omega (arith, here, low, e))

lacks_more : (c b : ℕ) (bytes : List ℕ) → b ≢ c → Lacks c bytes → (i : ℕ) → i < length (b ∷ bytes) → get_or (b ∷ bytes) i 0 ≢ c
lacks_more c b bytes h k zero l = h
lacks_more c b bytes h k (suc i) l = k i (omega (arith, l))

lacks_join : (c : ℕ) (xs ys : List ℕ) → Lacks c xs → Lacks c ys → Lacks c (xs ++ ys)
lacks_join c [] ys h k = k
lacks_join c (x ∷ xs) ys h k = lacks_more c x (xs ++ ys) (h 0 (omega arith)) (lacks_join c xs ys (λ i l. h (suc i) (omega (arith, l))) k)

id_lacks : (id : Numbers) → IsId id → Lacks slash (id_text id)
id_lacks id h =
    lacks_join slash (decimal id.incarnation) (hyphen ∷ decimal id.counter) (no_digit slash id.incarnation (omega arith) (omega (arith, h.incarnation_most)))
    (lacks_more slash hyphen (decimal id.counter) other (no_digit slash id.counter (omega arith) (omega (arith, h.counter_most))))
  where
    other : hyphen ≢ slash
    other e = absurd (omega (arith, e))

id_back : (id : Numbers) → IsId id → id_of (id_text id) ≡ Some id
id_back id h = id_some (id_text id) id (record { numbers = h; text = refl })

seat_parts : (text front back : List ℕ) (id : Numbers) (n : ℕ) (kind : Kind) → split_at slash text ≡ Some (front, back) → id_of front ≡ Some id
    → number_of (2 ^ 16) back ≡ Some n → seat_of kind text ≡ Some (targets.Coordinator id (record { number = n; kind = kind }))
seat_parts text front back id n kind e f g = rw (e, f, g) refl

pub target_back : (T : Target) → IsWritten T → target_of (path_of T) ≡ Some T
target_back targets.Activation h = refl
target_back targets.Work h = refl
target_back (targets.Registration id) h = ap (λ o. or_else (option_map targets.Registration o) None) (id_back id h)
target_back (targets.Completion id) h = ap (λ o. or_else (option_map targets.Completion o) None) (id_back id h)
target_back (targets.Initiator id) h = ap (λ o. or_else (option_map targets.Initiator o) None) (id_back id h)
target_back (targets.Participant id kinds.Durable) h = ap (λ o. or_else (option_map (λ i. targets.Participant i kinds.Durable) o) None) (id_back id h)
target_back (targets.Participant id kinds.Volatile) h = ap (option_map (λ i. targets.Participant i kinds.Volatile)) (id_back id h)
target_back (targets.Coordinator id seat) (h, least, most) = by_kind seat.kind refl
  where
    at : (kind : Kind) → seat_of kind (id_text id ++ slash ∷ decimal seat.number) ≡ Some (targets.Coordinator id (record { number = seat.number; kind = kind }))
    at kind =
        seat_parts (id_text id ++ slash ∷ decimal seat.number) (id_text id) (decimal seat.number) id seat.number kind
        (split_first slash (id_text id) (decimal seat.number) (id_lacks id h)) (id_back id h)
        (number_some (2 ^ 16) seat.number (decimal seat.number) (omega (arith, most)) (record { least = least; most = most; text = refl }))

    by_kind : (kind : Kind) → kind ≡ seat.kind → target_of (path_of (targets.Coordinator id (record { number = seat.number; kind = kind }))) ≡ Some (targets.Coordinator id (record { number = seat.number; kind = kind }))
    by_kind kinds.Durable e = ap (λ o. or_else o None) (at kinds.Durable)
    by_kind kinds.Volatile e = ap (λ o. or_else o None) (at kinds.Volatile)

-- behind a prefix
pub behind_prefix : (prefix bytes rest : List ℕ) → after_prefix prefix bytes ≡ Some rest → bytes ≡ prefix ++ rest
behind_prefix prefix bytes rest e = by_case (bytes_eq (take (length prefix) bytes) prefix) refl e
  where
    joined : take (length prefix) bytes ≡ prefix → drop (length prefix) bytes ≡ rest → take (length prefix) bytes ++ drop (length prefix) bytes ≡ prefix ++ rest
    joined e f = λ i. e i ++ f i

    by_case : (b : Bool) → bytes_eq (take (length prefix) bytes) prefix ≡ b → cond b (Some (drop (length prefix) bytes)) None ≡ Some rest → bytes ≡ prefix ++ rest
    by_case true f e =
        let same : drop (length prefix) bytes ≡ rest = cc in
        sym (take-append-drop (length prefix) bytes) ∙ joined ((bytes_eq-Decides (take (length prefix) bytes) prefix).0 f) same
    by_case false f e = absurd cc

pub prefix_back : (prefix rest : List ℕ) → after_prefix prefix (prefix ++ rest) ≡ Some rest
prefix_back prefix rest =
    ap (λ b. cond b (Some (drop (length prefix) (prefix ++ rest))) None) ((bytes_eq-Decides (take (length prefix) (prefix ++ rest)) prefix).1 (take-append_seam prefix rest))
    ∙ ap Some (behind_all prefix rest)
  where
    behind_all : (xs ys : List ℕ) → drop (length xs) (xs ++ ys) ≡ ys
    behind_all [] ys = refl
    behind_all (x ∷ xs) ys = behind_all xs ys

-- The other way: what a path says of the target that it names.
abbrev Says : List ℕ → Target → Type 0
Says path T = IsWritten T × (path ≡ path_of T)

either : {A : Type 0} (o p : Option A) (x : A) → or_else o p ≡ Some x → (o ≡ Some x) ⊎ (p ≡ Some x)
either None p x e = inr e
either (Some y) p x e = inl e

-- an id behind a prefix
item_says : (prefix path : List ℕ) (make : Numbers → Target) (T : Target) → behind prefix (λ r. option_map make (id_of r)) path ≡ Some T
    → ((id : Numbers) → IsId id → Says (prefix ++ id_text id) (make id)) → Says path T
item_says prefix path make T e says =
    option_and_then_some _ (after_prefix prefix path) T e (λ rest found inner. by_id rest (id_of rest) refl (behind_prefix prefix path rest found) inner)
  where
    by_id : (rest : List ℕ) (o : Option Numbers) → id_of rest ≡ o → path ≡ prefix ++ rest → option_map make o ≡ Some T → Says path T
    by_id rest None f whole inner = absurd cc
    by_id rest (Some id) f whole inner =
        let s : SpellsId rest id = id_is rest id f in
        let same : make id ≡ T = cc in
        let (written, text) = says id s.numbers in
        subst (Says path) same (written, whole ∙ ap (λ r. prefix ++ r) s.text ∙ text)

-- a seat behind a prefix
seat_says : (prefix path : List ℕ) (kind : Kind) (T : Target) → behind prefix (seat_of kind) path ≡ Some T
    → ((id : Numbers) (n : ℕ) → prefix ++ (id_text id ++ slash ∷ decimal n) ≡ path_of (targets.Coordinator id (record { number = n; kind = kind }))) → Says path T
seat_says prefix path kind T e says =
    option_and_then_some _ (after_prefix prefix path) T e (λ rest found inner.
    option_and_then_some _ (split_at slash rest) T inner (λ p split named.
    option_and_then_some _ (id_of p.0) T named (λ id first numbered.
    by_number rest p id (behind_prefix prefix path rest found ∙ ap (λ r. prefix ++ r) (split_whole slash rest p split)) (id_is p.0 id first) (number_of (2 ^ 16) p.1) refl numbered)))
  where
    by_number : (rest : List ℕ) (p : List ℕ × List ℕ) (id : Numbers) → path ≡ prefix ++ (p.0 ++ slash ∷ p.1) → SpellsId p.0 id → (o : Option ℕ) → number_of (2 ^ 16) p.1 ≡ o
        → option_map (λ n. targets.Coordinator id (record { number = n; kind = kind })) o ≡ Some T → Says path T
    by_number rest p id whole s None f inner = absurd cc
    by_number rest p id whole s (Some n) f inner =
        let k : Spells (2 ^ 16) p.1 n = number_is (2 ^ 16) n p.1 f in
        let same : targets.Coordinator id (record { number = n; kind = kind }) ≡ T = cc in
        subst (Says path) same
        ((s.numbers, k.least, k.most), whole ∙ (λ i. prefix ++ (s.text i ++ slash ∷ k.text i)) ∙ says id n)

participant_says : (path : List ℕ) (T : Target) → participant_of path ≡ Some T → Says path T
participant_says path T e =
    elim (either (behind (codes "/p/d/") (λ r. option_map (λ id. targets.Participant id kinds.Durable) (id_of r)) path)
    (behind (codes "/p/v/") (λ r. option_map (λ id. targets.Participant id kinds.Volatile) (id_of r)) path) T e) [
      | inl h ↦ item_says (codes "/p/d/") path (λ id. targets.Participant id kinds.Durable) T h (λ id i. (i, refl))
      | inr h ↦ item_says (codes "/p/v/") path (λ id. targets.Participant id kinds.Volatile) T h (λ id i. (i, refl))
    ]

party_says : (path : List ℕ) (T : Target) → party_of path ≡ Some T → Says path T
party_says path T e =
    elim (either (behind (codes "/c/d/") (seat_of kinds.Durable) path) (or_else (behind (codes "/c/v/") (seat_of kinds.Volatile) path) (participant_of path)) T e) [
      | inl h ↦ seat_says (codes "/c/d/") path kinds.Durable T h (λ id n. refl)
      | inr k ↦
          elim (either (behind (codes "/c/v/") (seat_of kinds.Volatile) path) (participant_of path) T k) [
            | inl h ↦ seat_says (codes "/c/v/") path kinds.Volatile T h (λ id n. refl)
            | inr h ↦ participant_says path T h
          ]
    ]

item_says_so : (path : List ℕ) (T : Target) → item_of path ≡ Some T → Says path T
item_says_so path T e =
    elim (either (behind (codes "/registration/") (λ r. option_map targets.Registration (id_of r)) path) (or_else (behind (codes "/completion/") (λ r. option_map targets.Completion (id_of r)) path)
    (or_else (behind (codes "/i/") (λ r. option_map targets.Initiator (id_of r)) path) (party_of path))) T e) [
      | inl h ↦ item_says (codes "/registration/") path targets.Registration T h (λ id i. (i, refl))
      | inr k ↦
          elim (either (behind (codes "/completion/") (λ r. option_map targets.Completion (id_of r)) path) (or_else (behind (codes "/i/") (λ r. option_map targets.Initiator (id_of r)) path) (party_of path)) T k) [
            | inl h ↦ item_says (codes "/completion/") path targets.Completion T h (λ id i. (i, refl))
            | inr l ↦
                elim (either (behind (codes "/i/") (λ r. option_map targets.Initiator (id_of r)) path) (party_of path) T l) [
                  | inl h ↦ item_says (codes "/i/") path targets.Initiator T h (λ id i. (i, refl))
                  | inr h ↦ party_says path T h
                ]
          ]
    ]

target_says : (path : List ℕ) (T : Target) → target_of path ≡ Some T → Says path T
target_says path T e = by_whole (bytes_eq path (codes "/activation")) (bytes_eq path (codes "/work")) refl refl e
  where
    by_whole : (a w : Bool) → bytes_eq path (codes "/activation") ≡ a → bytes_eq path (codes "/work") ≡ w
        → cond a (Some targets.Activation) (cond w (Some targets.Work) (item_of path)) ≡ Some T → Says path T
    by_whole true w f g e =
        let same : targets.Activation ≡ T = cc in
        subst (Says path) same (tt, (bytes_eq-Decides path (codes "/activation")).0 f)
    by_whole false true f g e =
        let same : targets.Work ≡ T = cc in
        subst (Says path) same (tt, (bytes_eq-Decides path (codes "/work")).0 g)
    by_whole false false f g e = item_says_so path T e

pub paths_name_targets : PathsNameTargets
paths_name_targets = record { named = target_back; alone = target_says }
