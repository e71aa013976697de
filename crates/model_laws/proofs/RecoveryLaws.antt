-- Recovery depends on live records alone, and the incarnation rises.
use Rattle.std.specs.Prelude.{ℕ, List, [], ◌∷◌, ◌++◌, Bool, true, false, ◌||◌, ◌&&◌, nat_eq, if◌then◌else◌, ◌≡◌, refl, max, ◌+◌, ◌≤◌, ◌<◌}
use Rattle.std.specs.List.{list_any, AllByRecursion}
use Rattle.std.proofs.Common.{sym, ◌∙◌, ap, arith, subst, eq-eqb}
use Rattle.std.proofs.lemmas.Bool.{eqb-true}
use Rattle.at_base.specs.declared.epr.Epr.{Epr}
use Rattle.at_base.specs.declared.record.Seated.{Seated}
use Rattle.at_base.specs.Numbers.{Numbers}
use Rattle.at_base.specs.declared.record.Record.{Record}
use Rattle.at_base.specs.declared.record.Record.TheVariants as records
use Rattle.at_model.specs.Book.{transaction_id, leaf_id, is_id}
use Rattle.at_model.specs.Recovery.{live, kept, with_commit, last_incarnation, incarnation_of, ends_leaf, ends_transaction, is_sub_committed, transactions_of, leaves_of, in_order, no_seats}
use Rattle.model_laws.specs.Laws.{RecoversTheLive, IncarnationsRise}

at_most : (a b c : ℕ) → a ≤ c → b ≤ c → max a b ≤ c
at_most a b c h k = omega (arith, h, k)

left : (a b : ℕ) → a ≤ max a b
left a b = omega arith

right : (a b : ℕ) → b ≤ max a b
right a b = omega arith

next_is : (a n : ℕ) → a ≤ n → max a (n + 1) ≡ n + 1
next_is a n h = omega (arith, h)

last_of : (rs : List Record) (n : ℕ) → last_incarnation rs ≤ n → last_incarnation (rs ++ records.Start (n + 1) ∷ []) ≡ n + 1
last_of [] n h = omega arith
last_of (r ∷ rs) n h =
    let rest : last_incarnation rs ≤ n = omega (arith, h, right (incarnation_of r) (last_incarnation rs)) in
    let here : incarnation_of r ≤ n = omega (arith, h, left (incarnation_of r) (last_incarnation rs)) in
    ap (max (incarnation_of r)) (last_of rs n rest) ∙ next_is (incarnation_of r) n here

below : (rs : List Record) (n : ℕ) → last_incarnation rs ≤ n → AllByRecursion (λ r. incarnation_of r < n + 1) rs
below [] n h = tt
below (r ∷ rs) n h =
    (omega (arith, h, left (incarnation_of r) (last_incarnation rs)), below rs n (omega (arith, h, right (incarnation_of r) (last_incarnation rs))))

le_self : (n : ℕ) → n ≤ n
le_self n = omega arith

pub incarnations_rise : IncarnationsRise
incarnations_rise rs = (last_of rs (last_incarnation rs) (le_self (last_incarnation rs)), below rs (last_incarnation rs) (le_self (last_incarnation rs)))

-- Dead records may be left out.

pub or_false : (a b : Bool) → (a || b) ≡ false → (a ≡ false) × (b ≡ false)
or_false true b e = absurd cc
or_false false b e = (refl, e)

none_both : (a b : Bool) → a ≡ false → b ≡ false → (a || b) ≡ false
none_both true b e f = absurd cc
none_both false b e f = f

pub none_append : (p : Record → Bool) (xs ys : List Record) → list_any p xs ≡ false → list_any p ys ≡ false → list_any p (xs ++ ys) ≡ false
none_append p [] ys e f = f
none_append p (x ∷ xs) ys e f =
    let (here, rest) = or_false (p x) (list_any p xs) e in
    none_both (p x) (list_any p (xs ++ ys)) here (none_append p xs ys rest f)

both_true : (a b : Bool) → (a && b) ≡ true → (a ≡ true) × (b ≡ true)
both_true true b e = (refl, e)
both_true false b e = absurd cc

pub same_id : (a b : Numbers) → is_id a b ≡ true → a ≡ b
same_id a b e =
    let (i, c) = both_true (nat_eq a.incarnation b.incarnation) (nat_eq a.counter b.counter) e in
    let f : a.incarnation ≡ b.incarnation = eqb-true a.incarnation b.incarnation i in
    let g : a.counter ≡ b.counter = eqb-true a.counter b.counter c in
    λ k. record { incarnation = f k; counter = g k }

pub self_id : (a : Numbers) → is_id a a ≡ true
self_id a = grind (arith, eq-eqb a.incarnation a.incarnation refl, eq-eqb a.counter a.counter refl)

-- a SubCommitted that stands in the list passes no test that nothing in the list passes
sub_none_at : (p : Record → Bool) (id i : Numbers) (rest : List Record) → (b : Bool) → is_id i id ≡ b
    → (list_any (is_sub_committed id) rest ≡ true → p (records.SubCommitted id) ≡ false)
    → (b || list_any (is_sub_committed id) rest) ≡ true → p (records.SubCommitted i) ≡ false → p (records.SubCommitted id) ≡ false
sub_none_at p id i rest true e further found none = subst (λ x. p (records.SubCommitted x) ≡ false) (same_id i id e) none
sub_none_at p id i rest false e further found none = further found

sub_none : (p : Record → Bool) (id : Numbers) (rest : List Record)
    → list_any (is_sub_committed id) rest ≡ true → list_any p rest ≡ false → p (records.SubCommitted id) ≡ false
sub_none p id [] found none = absurd cc
sub_none p id (records.SubCommitted i ∷ rest) found none =
    let (here, behind) = or_false (p (records.SubCommitted i)) (list_any p rest) none in
    sub_none_at p id i rest (is_id i id) refl (λ f. sub_none p id rest f behind) found here
sub_none p id (records.Start n ∷ rest) found none = sub_none p id rest found (or_false (p (records.Start n)) (list_any p rest) none).1
sub_none p id (records.LeafPrepared i c k v ∷ rest) found none =
    sub_none p id rest found (or_false (p (records.LeafPrepared i c k v)) (list_any p rest) none).1
sub_none p id (records.LeafCommitted i ∷ rest) found none = sub_none p id rest found (or_false (p (records.LeafCommitted i)) (list_any p rest) none).1
sub_none p id (records.LeafAborted i ∷ rest) found none = sub_none p id rest found (or_false (p (records.LeafAborted i)) (list_any p rest) none).1
sub_none p id (records.Voted i s seats ∷ rest) found none = sub_none p id rest found (or_false (p (records.Voted i s seats)) (list_any p rest) none).1
sub_none p id (records.Decided i seats ∷ rest) found none = sub_none p id rest found (or_false (p (records.Decided i seats)) (list_any p rest) none).1
sub_none p id (records.Ended i ∷ rest) found none = sub_none p id rest found (or_false (p (records.Ended i)) (list_any p rest) none).1
sub_none p id (records.Done i ∷ rest) found none = sub_none p id rest found (or_false (p (records.Done i)) (list_any p rest) none).1

-- what a record keeps is itself, or nothing
none_if : (p : Record → Bool) (b : Bool) (r : Record) → p r ≡ false → list_any p (if b then [] else r ∷ []) ≡ false
none_if p true r e = refl
none_if p false r e = none_both (p r) false e refl

none_commit : (p : Record → Bool) (id : Numbers) (rest : List Record) (b : Bool) → list_any (is_sub_committed id) rest ≡ b
    → list_any p rest ≡ false → list_any p (if b then records.SubCommitted id ∷ [] else []) ≡ false
none_commit p id rest true e none = none_both (p (records.SubCommitted id)) false (sub_none p id rest e none) refl
none_commit p id rest false e none = refl

none_voted : (p : Record → Bool) (r : Record) (id : Numbers) (rest : List Record) (b : Bool) → p r ≡ false → list_any p rest ≡ false
    → list_any p (if b then [] else r ∷ with_commit id rest) ≡ false
none_voted p r id rest true e none = refl
none_voted p r id rest false e none =
    none_both (p r) (list_any p (with_commit id rest)) e (none_commit p id rest (list_any (is_sub_committed id) rest) refl none)

none_kept : (p : Record → Bool) (r : Record) (rest : List Record) → p r ≡ false → list_any p rest ≡ false → list_any p (kept r rest) ≡ false
none_kept p (records.LeafPrepared i c k v) rest e none = none_if p (list_any (ends_leaf i) rest) (records.LeafPrepared i c k v) e
none_kept p (records.Decided i seats) rest e none = none_if p (no_seats seats || list_any (ends_transaction i) rest) (records.Decided i seats) e
none_kept p (records.Voted i s seats) rest e none =
    none_voted p (records.Voted i s seats) i rest (list_any (ends_transaction i) rest) e none
none_kept p (records.Start n) rest e none = refl
none_kept p (records.LeafCommitted i) rest e none = refl
none_kept p (records.LeafAborted i) rest e none = refl
none_kept p (records.SubCommitted i) rest e none = refl
none_kept p (records.Ended i) rest e none = refl
none_kept p (records.Done i) rest e none = refl

pub none_live : (p : Record → Bool) (rs : List Record) → list_any p rs ≡ false → list_any p (live rs) ≡ false
none_live p [] e = refl
none_live p (r ∷ rest) e =
    let (here, behind) = or_false (p r) (list_any p rest) e in
    none_append p (kept r rest) (live rest) (none_kept p r rest here behind) (none_live p rest behind)

-- a record that is kept for itself
kept_again : (r : Record) (test : Record → Bool) (rest : List Record) (b : Bool)
    → ((xs : List Record) → live (r ∷ xs) ≡ ((if list_any test xs then [] else r ∷ []) ++ live xs))
    → list_any test rest ≡ b → live (live rest) ≡ live rest → live (live (r ∷ rest)) ≡ live (r ∷ rest)
kept_again r test rest true is e again =
    let first : live (r ∷ rest) ≡ live rest = is rest ∙ ap (λ b. (if b then [] else r ∷ []) ++ live rest) e in
    ap live first ∙ again ∙ sym first
kept_again r test rest false is e again =
    let first : live (r ∷ rest) ≡ r ∷ live rest = is rest ∙ ap (λ b. (if b then [] else r ∷ []) ++ live rest) e in
    let second : live (r ∷ live rest) ≡ r ∷ live (live rest) =
    is (live rest) ∙ ap (λ b. (if b then [] else r ∷ []) ++ live (live rest)) (none_live test rest e) in
    ap live first ∙ second ∙ ap (λ xs. r ∷ xs) again ∙ sym first

-- a vote that is kept, with or without its SubCommitted
commit_kept : (r : Record) (id : Numbers) (rest : List Record) (b : Bool)
    → ((xs : List Record) → list_any (ends_transaction id) xs ≡ false → live (r ∷ xs) ≡ (r ∷ with_commit id xs) ++ live xs)
    → list_any (ends_transaction id) rest ≡ false → list_any (is_sub_committed id) rest ≡ b → live (live rest) ≡ live rest
    → live (live (r ∷ rest)) ≡ live (r ∷ rest)
commit_kept r id rest true is e f again =
    let first : live (r ∷ rest) ≡ r ∷ records.SubCommitted id ∷ live rest =
    is rest e ∙ ap (λ b. (r ∷ (if b then records.SubCommitted id ∷ [] else [])) ++ live rest) f in
    let second : live (r ∷ records.SubCommitted id ∷ live rest) ≡ r ∷ records.SubCommitted id ∷ live (live rest) =
    is (records.SubCommitted id ∷ live rest) (none_live (ends_transaction id) rest e)
    ∙ ap (λ b. (r ∷ (if b || list_any (is_sub_committed id) (live rest) then records.SubCommitted id ∷ [] else [])) ++ live (live rest)) (self_id id) in
    ap live first ∙ second ∙ ap (λ xs. r ∷ records.SubCommitted id ∷ xs) again ∙ sym first
commit_kept r id rest false is e f again =
    let first : live (r ∷ rest) ≡ r ∷ live rest =
    is rest e ∙ ap (λ b. (r ∷ (if b then records.SubCommitted id ∷ [] else [])) ++ live rest) f in
    let second : live (r ∷ live rest) ≡ r ∷ live (live rest) =
    is (live rest) (none_live (ends_transaction id) rest e)
    ∙ ap (λ b. (r ∷ (if b then records.SubCommitted id ∷ [] else [])) ++ live (live rest)) (none_live (is_sub_committed id) rest f) in
    ap live first ∙ second ∙ ap (λ xs. r ∷ xs) again ∙ sym first

voted_again : (id : Numbers) (s : Epr) (seats : List Seated) (rest : List Record) (b : Bool)
    → list_any (ends_transaction id) rest ≡ b → live (live rest) ≡ live rest
    → live (live (records.Voted id s seats ∷ rest)) ≡ live (records.Voted id s seats ∷ rest)
voted_again id s seats rest true e again =
    let first : live (records.Voted id s seats ∷ rest) ≡ live rest =
    ap (λ b. (if b then [] else records.Voted id s seats ∷ with_commit id rest) ++ live rest) e in
    ap live first ∙ again ∙ sym first
voted_again id s seats rest false e again =
    commit_kept (records.Voted id s seats) id rest (list_any (is_sub_committed id) rest)
    (λ xs f. ap (λ b. (if b then [] else records.Voted id s seats ∷ with_commit id xs) ++ live xs) f) e refl again

live_again : (rs : List Record) → live (live rs) ≡ live rs
live_again [] = refl
live_again (records.LeafPrepared i c k v ∷ rest) =
    kept_again (records.LeafPrepared i c k v) (ends_leaf i) rest (list_any (ends_leaf i) rest) (λ xs. refl) refl (live_again rest)
live_again (records.Decided i [] ∷ rest) = live_again rest
live_again (records.Decided i (s ∷ seats) ∷ rest) =
    kept_again (records.Decided i (s ∷ seats)) (ends_transaction i) rest (list_any (ends_transaction i) rest) (λ xs. refl) refl (live_again rest)
live_again (records.Voted i s seats ∷ rest) = voted_again i s seats rest (list_any (ends_transaction i) rest) refl (live_again rest)
live_again (records.Start n ∷ rest) = live_again rest
live_again (records.LeafCommitted i ∷ rest) = live_again rest
live_again (records.LeafAborted i ∷ rest) = live_again rest
live_again (records.SubCommitted i ∷ rest) = live_again rest
live_again (records.Ended i ∷ rest) = live_again rest
live_again (records.Done i ∷ rest) = live_again rest

pub recovers_the_live : RecoversTheLive
recovers_the_live base rs =
    (ap (λ xs. in_order transaction_id (transactions_of base xs)) (live_again rs), ap (λ xs. in_order leaf_id (leaves_of xs)) (live_again rs))
