-- What one record more in a journal does to the live ones.
use Rattle.std.specs.Prelude.{ℕ, List, [], ◌∷◌, ◌++◌, Bool, true, false, not, ◌||◌, if◌then◌else◌, filter, ◌≡◌, ◌⊎◌, refl}
use Rattle.std.specs.List.{list_any}
use Rattle.std.proofs.Common.{inl, inr, sym, subst, ap, ◌∙◌}
use Rattle.std.proofs.lemmas.List.{append-nil, append_assoc}
use Rattle.std.proofs.lemmas.List.Elements.{filter-append}
use Rattle.at_base.specs.Numbers.{Numbers}
use Rattle.at_base.specs.declared.epr.Epr.{Epr}
use Rattle.at_base.specs.declared.record.Seated.{Seated}
use Rattle.at_base.specs.declared.record.Record.{Record}
use Rattle.at_base.specs.declared.record.Record.TheVariants as records
use Rattle.at_model.specs.Book.{is_id}
use Rattle.at_model.specs.Recovery.{ends_leaf, ends_transaction, in_order, insert_by, is_before, is_leaf_ended, is_leaf_prepared, is_promise, is_sub_committed, is_voted, kept, live, no_seats}
use Rattle.model_laws.specs.Agreement.{IsIn}
use Rattle.model_laws.proofs.DecisionLaws.{in_front}
use Rattle.model_laws.proofs.RecoveryLaws.{or_false, same_id, self_id}
use Rattle.model_laws.proofs.SeatRegistrations.{in_back}
use Rattle.agreement.specs.Journals.{drops, is_of_transaction, IsNoSubCommit, Confirms, JournalsLive}

-- tests of one more
pub or_nothing : (b : Bool) → (b || false) ≡ b
or_nothing true = refl
or_nothing false = refl

or_more : (a b c : Bool) → (a || (b || c)) ≡ ((a || b) || c)
or_more true b c = refl
or_more false b c = refl

any_more : (p : Record → Bool) (rs : List Record) (r : Record) → list_any p (rs ++ r ∷ []) ≡ (list_any p rs || p r)
any_more p [] r = or_nothing (p r)
any_more p (x ∷ rs) r = ap (λ b. p x || b) (any_more p rs r) ∙ or_more (p x) (list_any p rs) (p r)

-- what one record keeps alive
abbrev pub unless : Bool → Record → List Record
unless a x = if a then [] else x ∷ []

abbrev pub vote : Bool → Bool → Record → Record → List Record
vote a c v s = if a then [] else v ∷ (if c then s ∷ [] else [])

one_kept : (a b : Bool) (p : Record → Bool) (x : Record) → p x ≡ not b → unless (a || b) x ≡ filter p (unless a x)
one_kept true b p x e = refl
one_kept false true p x e = sym (ap (λ c. if c then x ∷ [] else []) e)
one_kept false false p x e = sym (ap (λ c. if c then x ∷ [] else []) e)

vote_kept : (a b c : Bool) (p : Record → Bool) (v s : Record) → p v ≡ not b → p s ≡ not b → vote (a || b) c v s ≡ filter p (vote a c v s)
vote_kept true b c p v s e f = refl
vote_kept false true true p v s e f = sym (ap (λ x. if x then v ∷ filter p (s ∷ []) else filter p (s ∷ [])) e ∙ ap (λ x. if x then s ∷ [] else []) f)
vote_kept false true false p v s e f = sym (ap (λ x. if x then v ∷ [] else []) e)
vote_kept false false true p v s e f = sym (ap (λ x. if x then v ∷ filter p (s ∷ []) else filter p (s ∷ [])) e ∙ ap (λ x. v ∷ (if x then s ∷ [] else [])) f)
vote_kept false false false p v s e f = sym (ap (λ x. if x then v ∷ [] else []) e)

no_commit : (id : Numbers) (r : Record) → IsNoSubCommit r → is_sub_committed id r ≡ false
no_commit id (records.SubCommitted i) h = absurd h
no_commit id other h = refl

same_commit : (id : Numbers) (rest : List Record) (r : Record) → IsNoSubCommit r → list_any (is_sub_committed id) (rest ++ r ∷ []) ≡ list_any (is_sub_committed id) rest
same_commit id rest r h = any_more (is_sub_committed id) rest r ∙ ap (λ b. list_any (is_sub_committed id) rest || b) (no_commit id r h) ∙ or_nothing (list_any (is_sub_committed id) rest)

kept_more : (x : Record) (rest : List Record) (r : Record) → IsNoSubCommit r → kept x (rest ++ r ∷ []) ≡ filter (λ y. not (drops r y)) (kept x rest)
kept_more (records.LeafPrepared id c key value) rest r h =
    ap (λ b. unless b (records.LeafPrepared id c key value)) (any_more (ends_leaf id) rest r)
    ∙ one_kept (list_any (ends_leaf id) rest) (ends_leaf id r) (λ y. not (drops r y)) (records.LeafPrepared id c key value) refl
kept_more (records.Decided id seats) rest r h =
    ap (λ b. unless (no_seats seats || b) (records.Decided id seats)) (any_more (ends_transaction id) rest r)
    ∙ ap (λ b. unless b (records.Decided id seats)) (or_more (no_seats seats) (list_any (ends_transaction id) rest) (ends_transaction id r))
    ∙ one_kept (no_seats seats || list_any (ends_transaction id) rest) (ends_transaction id r) (λ y. not (drops r y)) (records.Decided id seats) refl
kept_more (records.Voted id s seats) rest r h =
    ap (λ b. vote b (list_any (is_sub_committed id) (rest ++ r ∷ [])) (records.Voted id s seats) (records.SubCommitted id)) (any_more (ends_transaction id) rest r)
    ∙ ap (λ c. vote (list_any (ends_transaction id) rest || ends_transaction id r) c (records.Voted id s seats) (records.SubCommitted id)) (same_commit id rest r h)
    ∙ vote_kept (list_any (ends_transaction id) rest) (ends_transaction id r) (list_any (is_sub_committed id) rest) (λ y. not (drops r y)) (records.Voted id s seats) (records.SubCommitted id) refl refl
kept_more (records.Start i) rest r h = refl
kept_more (records.LeafCommitted id) rest r h = refl
kept_more (records.LeafAborted id) rest r h = refl
kept_more (records.SubCommitted id) rest r h = refl
kept_more (records.Ended id) rest r h = refl
kept_more (records.Done id) rest r h = refl

live_more : (rs : List Record) (r : Record) → IsNoSubCommit r → live (rs ++ r ∷ []) ≡ filter (λ x. not (drops r x)) (live rs) ++ kept r []
live_more [] r h = append-nil (kept r [])
live_more (x ∷ rest) r h =
    let p : Record → Bool = λ y. not (drops r y) in
    ap (λ xs. xs ++ live (rest ++ r ∷ [])) (kept_more x rest r h)
    ∙ ap (λ xs. filter p (kept x rest) ++ xs) (live_more rest r h)
    ∙ sym (append_assoc (filter p (kept x rest)) (filter p (live rest)) (kept r []))
    ∙ ap (λ xs. xs ++ kept r []) (sym (filter-append p (kept x rest) (live rest)))

-- nothing is dropped
all_pass : (p : Record → Bool) (xs : List Record) → ((x : Record) → IsIn x xs → p x ≡ true) → filter p xs ≡ xs
all_pass p [] h = refl
all_pass p (x ∷ xs) h = ap (λ b. if b then x ∷ filter p xs else filter p xs) (h x (inl refl)) ∙ ap (λ ys. x ∷ ys) (all_pass p xs (λ y k. h y (inr k)))

start_drops : (i : ℕ) (x : Record) → not (drops (records.Start i) x) ≡ true
start_drops i (records.LeafPrepared id c key value) = refl
start_drops i (records.Voted id s seats) = refl
start_drops i (records.Decided id seats) = refl
start_drops i (records.SubCommitted id) = refl
start_drops i other = refl

live_start : (rs : List Record) (i : ℕ) → live (rs ++ records.Start i ∷ []) ≡ live rs
live_start rs i =
    live_more rs (records.Start i) tt ∙ append-nil (filter (λ x. not (drops (records.Start i) x)) (live rs))
    ∙ all_pass (λ x. not (drops (records.Start i) x)) (live rs) (λ x h. start_drops i x)

-- membership
pub in_either : {A : Type 0} (x : A) (xs ys : List A) → IsIn x (xs ++ ys) → IsIn x xs ⊎ IsIn x ys
in_either x [] ys h = inr h
in_either x (y ∷ xs) ys (inl e) = inl (inl e)
in_either x (y ∷ xs) ys (inr h) = further (in_either x xs ys h)
  where
    further : IsIn x xs ⊎ IsIn x ys → IsIn x (y ∷ xs) ⊎ IsIn x ys
    further (inl k) = inl (inr k)
    further (inr k) = inr k

in_filter : (p : Record → Bool) (x : Record) (xs : List Record) → IsIn x xs → p x ≡ true → IsIn x (filter p xs)
in_filter p x [] h e = absurd h
in_filter p x (y ∷ ys) (inl f) e = subst (IsIn x) (sym (ap (λ b. if b then y ∷ filter p ys else filter p ys) (ap p (sym f) ∙ e))) (inl f)
in_filter p x (y ∷ ys) (inr h) e = by_case (p y) (in_filter p x ys h e)
  where
    by_case : (b : Bool) → IsIn x (filter p ys) → IsIn x (if b then y ∷ filter p ys else filter p ys)
    by_case true k = inr k
    by_case false k = k

filter_in : (p : Record → Bool) (x : Record) (xs : List Record) → IsIn x (filter p xs) → IsIn x xs × (p x ≡ true)
filter_in p x [] h = absurd h
filter_in p x (y ∷ ys) h = by_case (p y) refl (filter_in p x ys) h
  where
    by_case : (b : Bool) → p y ≡ b → (IsIn x (filter p ys) → IsIn x ys × (p x ≡ true)) → IsIn x (if b then y ∷ filter p ys else filter p ys) → IsIn x (y ∷ ys) × (p x ≡ true)
    by_case true e f (inl k) = (inl k, ap p k ∙ e)
    by_case true e f (inr k) = let (i, j) = f k in (inr i, j)
    by_case false e f k = let (i, j) = f k in (inr i, j)

not_true : (b : Bool) → not b ≡ true → b ≡ false
not_true true e = absurd cc
not_true false e = refl

plain_stays : (rs : List Record) (r x : Record) → IsNoSubCommit r → IsIn x (live rs) → drops r x ≡ false → IsIn x (live (rs ++ r ∷ []))
plain_stays rs r x n h e =
    subst (IsIn x) (sym (live_more rs r n))
    (in_front x (filter (λ y. not (drops r y)) (live rs)) (kept r []) (in_filter (λ y. not (drops r y)) x (live rs) h (ap not e)))

plain_was : (rs : List Record) (r x : Record) → IsNoSubCommit r → IsIn x (live (rs ++ r ∷ [])) → (IsIn x (live rs) × (drops r x ≡ false)) ⊎ (IsIn x (kept r []) ⊎ Confirms rs r x)
plain_was rs r x n h = sorted (in_either x (filter (λ y. not (drops r y)) (live rs)) (kept r []) (subst (IsIn x) (live_more rs r n) h))
  where
    sorted : IsIn x (filter (λ y. not (drops r y)) (live rs)) ⊎ IsIn x (kept r []) → (IsIn x (live rs) × (drops r x ≡ false)) ⊎ (IsIn x (kept r []) ⊎ Confirms rs r x)
    sorted (inl k) = let (i, j) = filter_in (λ y. not (drops r y)) x (live rs) k in inl (i, not_true (drops r x) j)
    sorted (inr k) = inr (inl k)

-- a subordinate's commit
any_same : (p : Record → Bool) (rs : List Record) (r : Record) → p r ≡ false → list_any p (rs ++ r ∷ []) ≡ list_any p rs
any_same p rs r e = any_more p rs r ∙ ap (λ b. list_any p rs || b) e ∙ or_nothing (list_any p rs)

-- what it makes of the records that one keeps
abbrev confirm : Bool → Bool → Bool → Record → Record → List Record
confirm a c b v s = vote a (c || b) v s

kept_confirmed : (id : Numbers) (i : Numbers) (s : Epr) (seats : List Seated) (rest : List Record)
    → kept (records.Voted i s seats) (rest ++ records.SubCommitted id ∷ [])
    ≡ confirm (list_any (ends_transaction i) rest) (list_any (is_sub_committed i) rest) (is_id id i) (records.Voted i s seats) (records.SubCommitted i)
kept_confirmed id i s seats rest =
    ap (λ b. vote b (list_any (is_sub_committed i) (rest ++ records.SubCommitted id ∷ [])) (records.Voted i s seats) (records.SubCommitted i))
    (any_same (ends_transaction i) rest (records.SubCommitted id) refl)
    ∙ ap (λ c. vote (list_any (ends_transaction i) rest) c (records.Voted i s seats) (records.SubCommitted i)) (any_more (is_sub_committed i) rest (records.SubCommitted id))

still_kept : (a b c : Bool) (v s x : Record) → IsIn x (vote a c v s) → IsIn x (confirm a c b v s)
still_kept true b c v s x h = h
still_kept false b true v s x h = h
still_kept false true false v s x (inl e) = inl e
still_kept false true false v s x (inr h) = absurd h
still_kept false false false v s x h = h

commit_stays : (id : Numbers) (x y : Record) (rest : List Record) → IsIn x (kept y rest) → IsIn x (kept y (rest ++ records.SubCommitted id ∷ []))
commit_stays id x (records.LeafPrepared i c key value) rest h =
    subst (λ b. IsIn x (unless b (records.LeafPrepared i c key value))) (sym (any_same (ends_leaf i) rest (records.SubCommitted id) refl)) h
commit_stays id x (records.Decided i seats) rest h =
    subst (λ b. IsIn x (unless (no_seats seats || b) (records.Decided i seats))) (sym (any_same (ends_transaction i) rest (records.SubCommitted id) refl)) h
commit_stays id x (records.Voted i s seats) rest h =
    subst (IsIn x) (sym (kept_confirmed id i s seats rest))
    (still_kept (list_any (ends_transaction i) rest) (is_id id i) (list_any (is_sub_committed i) rest) (records.Voted i s seats) (records.SubCommitted i) x h)
commit_stays id x other rest h = absurd h

live_stays : (id : Numbers) (x : Record) (rs : List Record) → IsIn x (live rs) → IsIn x (live (rs ++ records.SubCommitted id ∷ []))
live_stays id x [] h = absurd h
live_stays id x (y ∷ rest) h = sorted (in_either x (kept y rest) (live rest) h) (live_stays id x rest)
  where
    sorted : IsIn x (kept y rest) ⊎ IsIn x (live rest) → (IsIn x (live rest) → IsIn x (live (rest ++ records.SubCommitted id ∷ []))) → IsIn x (live ((y ∷ rest) ++ records.SubCommitted id ∷ []))
    sorted (inl k) f = in_front x (kept y (rest ++ records.SubCommitted id ∷ [])) (live (rest ++ records.SubCommitted id ∷ [])) (commit_stays id x y rest k)
    sorted (inr k) f = in_back x (kept y (rest ++ records.SubCommitted id ∷ [])) (live (rest ++ records.SubCommitted id ∷ [])) (f k)

no_drop : (id : Numbers) (x : Record) → drops (records.SubCommitted id) x ≡ false
no_drop id (records.LeafPrepared i c key value) = refl
no_drop id (records.Voted i s seats) = refl
no_drop id (records.Decided i seats) = refl
no_drop id (records.SubCommitted i) = refl
no_drop id other = refl

-- it is new only where the vote is live
abbrev IsNew : Numbers → Record → List Record → Type 0
IsNew id x xs = (x ≡ records.SubCommitted id) × (list_any (is_voted id) xs ≡ true)

was_kept : (id i : Numbers) (s : Epr) (seats : List Seated) (a b c : Bool) (x : Record) → is_id id i ≡ b → IsIn x (confirm a c b (records.Voted i s seats) (records.SubCommitted i))
    → IsIn x (vote a c (records.Voted i s seats) (records.SubCommitted i)) ⊎ IsNew id x (vote a c (records.Voted i s seats) (records.SubCommitted i))
was_kept id i s seats true b c x e h = inl h
was_kept id i s seats false b true x e h = inl h
was_kept id i s seats false false false x e h = inl h
was_kept id i s seats false true false x e (inl h) = inl (inl h)
was_kept id i s seats false true false x e (inr (inr h)) = absurd h
was_kept id i s seats false true false x e (inr (inl h)) =
    let same : id ≡ i = same_id id i e in
    inr (h ∙ ap records.SubCommitted (sym same), ap (λ b. b || false) (subst (λ k. is_id i k ≡ true) (sym same) (self_id i)))

commit_was : (id : Numbers) (x y : Record) (rest : List Record) → IsIn x (kept y (rest ++ records.SubCommitted id ∷ [])) → IsIn x (kept y rest) ⊎ IsNew id x (kept y rest)
commit_was id x (records.LeafPrepared i c key value) rest h =
    inl (subst (λ b. IsIn x (unless b (records.LeafPrepared i c key value))) (any_same (ends_leaf i) rest (records.SubCommitted id) refl) h)
commit_was id x (records.Decided i seats) rest h =
    inl (subst (λ b. IsIn x (unless (no_seats seats || b) (records.Decided i seats))) (any_same (ends_transaction i) rest (records.SubCommitted id) refl) h)
commit_was id x (records.Voted i s seats) rest h =
    was_kept id i s seats (list_any (ends_transaction i) rest) (is_id id i) (list_any (is_sub_committed i) rest) x refl (subst (IsIn x) (kept_confirmed id i s seats rest) h)
commit_was id x other rest h = absurd h

pub any_front : (p : Record → Bool) (xs ys : List Record) → list_any p xs ≡ true → list_any p (xs ++ ys) ≡ true
any_front p [] ys e = absurd cc
any_front p (x ∷ xs) ys e = by_case (p x) (any_front p xs ys) e
  where
    by_case : (b : Bool) → (list_any p xs ≡ true → list_any p (xs ++ ys) ≡ true) → (b || list_any p xs) ≡ true → (b || list_any p (xs ++ ys)) ≡ true
    by_case true f e = refl
    by_case false f e = f e

pub any_back : (p : Record → Bool) (xs ys : List Record) → list_any p ys ≡ true → list_any p (xs ++ ys) ≡ true
any_back p [] ys e = e
any_back p (x ∷ xs) ys e = by_case (p x) (any_back p xs ys e)
  where
    by_case : (b : Bool) → list_any p (xs ++ ys) ≡ true → (b || list_any p (xs ++ ys)) ≡ true
    by_case true f = refl
    by_case false f = f

live_was : (id : Numbers) (x : Record) (rs : List Record) → IsIn x (live (rs ++ records.SubCommitted id ∷ [])) → IsIn x (live rs) ⊎ IsNew id x (live rs)
live_was id x [] h = absurd h
live_was id x (y ∷ rest) h =
    sorted (in_either x (kept y (rest ++ records.SubCommitted id ∷ [])) (live (rest ++ records.SubCommitted id ∷ [])) h) (live_was id x rest)
  where
    here : IsIn x (kept y rest) ⊎ IsNew id x (kept y rest) → IsIn x (kept y rest ++ live rest) ⊎ IsNew id x (kept y rest ++ live rest)
    here (inl k) = inl (in_front x (kept y rest) (live rest) k)
    here (inr (e, f)) = inr (e, any_front (is_voted id) (kept y rest) (live rest) f)

    behind : IsIn x (live rest) ⊎ IsNew id x (live rest) → IsIn x (kept y rest ++ live rest) ⊎ IsNew id x (kept y rest ++ live rest)
    behind (inl k) = inl (in_back x (kept y rest) (live rest) k)
    behind (inr (e, f)) = inr (e, any_back (is_voted id) (kept y rest) (live rest) f)

    sorted : IsIn x (kept y (rest ++ records.SubCommitted id ∷ [])) ⊎ IsIn x (live (rest ++ records.SubCommitted id ∷ []))
        → (IsIn x (live (rest ++ records.SubCommitted id ∷ [])) → IsIn x (live rest) ⊎ IsNew id x (live rest)) → IsIn x (live (y ∷ rest)) ⊎ IsNew id x (live (y ∷ rest))
    sorted (inl k) f = here (commit_was id x y rest k)
    sorted (inr k) f = behind (f k)

stays : (rs : List Record) (r x : Record) → IsIn x (live rs) → drops r x ≡ false → IsIn x (live (rs ++ r ∷ []))
stays rs (records.SubCommitted id) x h e = live_stays id x rs h
stays rs other x h e = plain_stays rs other x tt h e

was : (rs : List Record) (r x : Record) → IsIn x (live (rs ++ r ∷ [])) → (IsIn x (live rs) × (drops r x ≡ false)) ⊎ (IsIn x (kept r []) ⊎ Confirms rs r x)
was rs (records.SubCommitted id) x h = sorted (live_was id x rs h)
  where
    sorted : IsIn x (live rs) ⊎ IsNew id x (live rs) → (IsIn x (live rs) × (drops (records.SubCommitted id) x ≡ false)) ⊎ (⊥ ⊎ Confirms rs (records.SubCommitted id) x)
    sorted (inl k) = inl (k, no_drop id x)
    sorted (inr (e, f)) = inr (inr (record { id = id; further = refl; same = e; voted = f }))
was rs other x h = plain_was rs other x tt h

confirmed_here : (id i : Numbers) (s : Epr) (seats : List Seated) (a b c : Bool) → is_id id i ≡ b → list_any (is_voted id) (vote a c (records.Voted i s seats) (records.SubCommitted i)) ≡ true
    → IsIn (records.SubCommitted id) (confirm a c b (records.Voted i s seats) (records.SubCommitted i))
confirmed_here id i s seats true b c e f = absurd cc
confirmed_here id i s seats false b true e f = inr (inl (ap records.SubCommitted (sym (same_id i id (sym (or_nothing (is_id i id)) ∙ f)))))
confirmed_here id i s seats false true false e f = inr (inl (ap records.SubCommitted (same_id id i e)))
confirmed_here id i s seats false false false e f = absurd (no_swap i id (sym (or_nothing (is_id i id)) ∙ f) e)
  where
    no_swap : (i id : Numbers) → is_id i id ≡ true → is_id id i ≡ false → ⊥
    no_swap i id f g = contradict (is_id id i) (subst (λ k. is_id id k ≡ true) (sym (same_id i id f)) (self_id id)) g
      where
        contradict : (b : Bool) → b ≡ true → b ≡ false → ⊥
        contradict b e f = cc

commit_confirmed : (id : Numbers) (y : Record) (rest : List Record) → list_any (is_voted id) (kept y rest) ≡ true → IsIn (records.SubCommitted id) (kept y (rest ++ records.SubCommitted id ∷ []))
commit_confirmed id (records.LeafPrepared i c key value) rest e = absurd (never (list_any (ends_leaf i) rest) e)
  where
    never : (b : Bool) → list_any (is_voted id) (unless b (records.LeafPrepared i c key value)) ≡ true → ⊥
    never true e = cc
    never false e = cc
commit_confirmed id (records.Decided i seats) rest e = absurd (never (no_seats seats || list_any (ends_transaction i) rest) e)
  where
    never : (b : Bool) → list_any (is_voted id) (unless b (records.Decided i seats)) ≡ true → ⊥
    never true e = cc
    never false e = cc
commit_confirmed id (records.Voted i s seats) rest e =
    subst (IsIn (records.SubCommitted id)) (sym (kept_confirmed id i s seats rest))
    (confirmed_here id i s seats (list_any (ends_transaction i) rest) (is_id id i) (list_any (is_sub_committed i) rest) refl e)
commit_confirmed id other rest e = absurd cc

any_either : (p : Record → Bool) (xs ys : List Record) → list_any p (xs ++ ys) ≡ true → (list_any p xs ≡ true) ⊎ (list_any p ys ≡ true)
any_either p [] ys e = inr e
any_either p (x ∷ xs) ys e = by_case (p x) (any_either p xs ys) e
  where
    by_case : (b : Bool) → (list_any p (xs ++ ys) ≡ true → (list_any p xs ≡ true) ⊎ (list_any p ys ≡ true)) → (b || list_any p (xs ++ ys)) ≡ true
        → ((b || list_any p xs) ≡ true) ⊎ (list_any p ys ≡ true)
    by_case true f e = inl refl
    by_case false f e = f e

confirmed : (rs : List Record) (id : Numbers) → list_any (is_voted id) (live rs) ≡ true → IsIn (records.SubCommitted id) (live (rs ++ records.SubCommitted id ∷ []))
confirmed [] id e = absurd cc
confirmed (y ∷ rest) id e = sorted (any_either (is_voted id) (kept y rest) (live rest) e) (confirmed rest id)
  where
    sorted : (list_any (is_voted id) (kept y rest) ≡ true) ⊎ (list_any (is_voted id) (live rest) ≡ true)
        → (list_any (is_voted id) (live rest) ≡ true → IsIn (records.SubCommitted id) (live (rest ++ records.SubCommitted id ∷ [])))
        → IsIn (records.SubCommitted id) (kept y (rest ++ records.SubCommitted id ∷ []) ++ live (rest ++ records.SubCommitted id ∷ []))
    sorted (inl f) g = in_front (records.SubCommitted id) (kept y (rest ++ records.SubCommitted id ∷ [])) (live (rest ++ records.SubCommitted id ∷ [])) (commit_confirmed id y rest f)
    sorted (inr f) g = in_back (records.SubCommitted id) (kept y (rest ++ records.SubCommitted id ∷ [])) (live (rest ++ records.SubCommitted id ∷ [])) (g f)

-- the first promise of an id
pub both_ways : (b : Bool) → b ≡ true → b ≡ false → ⊥
both_ways b e f = cc

apart : (i j id : Numbers) → is_id i id ≡ true → is_id j id ≡ false → is_id i j ≡ false
apart i j id e f = by_case (is_id i j) refl
  where
    by_case : (b : Bool) → is_id i j ≡ b → b ≡ false
    by_case true g = absurd (both_ways (is_id j id) (subst (λ k. is_id k id ≡ true) (same_id i j g) e) f)
    by_case false g = refl

foreign : (id j : Numbers) (r : Record) → is_promise id r ≡ true → is_id j id ≡ false → is_promise j r ≡ false
foreign id j (records.LeafPrepared i c key value) e f = or_nothing (is_id i j) ∙ apart i j id (sym (or_nothing (is_id i id)) ∙ e) f
foreign id j (records.Voted i s seats) e f = or_nothing (is_id i j) ∙ apart i j id (sym (or_nothing (is_id i id)) ∙ e) f
foreign id j (records.Decided i seats) e f = apart i j id e f
foreign id j other e f = absurd cc

not_over : (id j : Numbers) (r : Record) → is_promise id r ≡ true → is_promise j r ≡ false → (ends_leaf j r ≡ false) × (ends_transaction j r ≡ false)
not_over id j (records.LeafPrepared i c key value) e f = (f, f)
not_over id j (records.Voted i s seats) e f = (f, f)
not_over id j (records.Decided i seats) e f = (f, f)
not_over id j other e f = absurd cc

no_sub_commit : (id : Numbers) (r : Record) → is_promise id r ≡ true → IsNoSubCommit r
no_sub_commit id (records.SubCommitted i) e = absurd cc
no_sub_commit id other e = tt

first_kept : (id : Numbers) (x : Record) (rest : List Record) (r : Record) → is_promise id r ≡ true → is_promise id x ≡ false → kept x (rest ++ r ∷ []) ≡ kept x rest
first_kept id (records.LeafPrepared j c key value) rest r e f =
    ap (λ b. unless b (records.LeafPrepared j c key value))
    (any_same (ends_leaf j) rest r (not_over id j r e (foreign id j r e (sym (or_nothing (is_id j id)) ∙ f))).0)
first_kept id (records.Voted j s seats) rest r e f =
    ap (λ b. vote b (list_any (is_sub_committed j) (rest ++ r ∷ [])) (records.Voted j s seats) (records.SubCommitted j))
    (any_same (ends_transaction j) rest r (not_over id j r e (foreign id j r e (sym (or_nothing (is_id j id)) ∙ f))).1)
    ∙ ap (λ c. vote (list_any (ends_transaction j) rest) c (records.Voted j s seats) (records.SubCommitted j)) (same_commit j rest r (no_sub_commit id r e))
first_kept id (records.Decided j seats) rest r e f =
    ap (λ b. unless (no_seats seats || b) (records.Decided j seats)) (any_same (ends_transaction j) rest r (not_over id j r e (foreign id j r e f)).1)
first_kept id other rest r e f = refl

promised : (rs : List Record) (id : Numbers) (r : Record) → is_promise id r ≡ true → list_any (is_promise id) rs ≡ false → live (rs ++ r ∷ []) ≡ live rs ++ kept r []
promised [] id r e f = append-nil (kept r [])
promised (x ∷ rest) id r e f =
    let (here, behind) = or_false (is_promise id x) (list_any (is_promise id) rest) f in
    ap (λ xs. xs ++ live (rest ++ r ∷ [])) (first_kept id x rest r e here) ∙ ap (λ xs. kept x rest ++ xs) (promised rest id r e behind)
    ∙ sym (append_assoc (kept x rest) (live rest) (kept r []))

-- an end
together : (i j id : Numbers) → is_id i id ≡ true → is_id j id ≡ true → is_id i j ≡ true
together i j id e f = subst (λ k. is_id i k ≡ true) (sym (same_id j id f)) e

none_left : (p q : Record → Bool) (xs : List Record) → ((x : Record) → p x ≡ true → q x ≡ false) → list_any p (filter q xs) ≡ false
none_left p q [] h = refl
none_left p q (x ∷ xs) h = by_case (p x) (q x) refl refl (none_left p q xs h)
  where
    by_case : (a b : Bool) → p x ≡ a → q x ≡ b → list_any p (filter q xs) ≡ false → list_any p (if b then x ∷ filter q xs else filter q xs) ≡ false
    by_case a false e f k = k
    by_case true true e f k = absurd (both_ways (q x) f (h x e))
    by_case false true e f k = ap (λ c. c || list_any p (filter q xs)) e ∙ k

prepared_over : (id i : Numbers) (r : Record) → is_id i id ≡ true → ((j : Numbers) → is_id i j ≡ true → ends_leaf j r ≡ true) → (x : Record) → is_leaf_prepared id x ≡ true → not (drops r x) ≡ false
prepared_over id i r e h (records.LeafPrepared j c key value) f = ap not (h j (together i j id e f))
prepared_over id i r e h other f = absurd cc

leaf_over : (rs : List Record) (id : Numbers) (r : Record) → is_leaf_ended id r ≡ true → list_any (is_leaf_prepared id) (live (rs ++ r ∷ [])) ≡ false
leaf_over rs id (records.LeafCommitted i) e =
    subst (λ xs. list_any (is_leaf_prepared id) xs ≡ false) (sym (live_more rs (records.LeafCommitted i) tt ∙ append-nil (filter (λ x. not (drops (records.LeafCommitted i) x)) (live rs))))
    (none_left (is_leaf_prepared id) (λ x. not (drops (records.LeafCommitted i) x)) (live rs) (prepared_over id i (records.LeafCommitted i) e (λ j f. or_nothing (is_id i j) ∙ f)))
leaf_over rs id (records.LeafAborted i) e =
    subst (λ xs. list_any (is_leaf_prepared id) xs ≡ false) (sym (live_more rs (records.LeafAborted i) tt ∙ append-nil (filter (λ x. not (drops (records.LeafAborted i) x)) (live rs))))
    (none_left (is_leaf_prepared id) (λ x. not (drops (records.LeafAborted i) x)) (live rs) (prepared_over id i (records.LeafAborted i) e (λ j f. or_nothing (is_id i j) ∙ f)))
leaf_over rs id other e = absurd cc

ended_over : (id : Numbers) (x : Record) → is_of_transaction id x ≡ true → not (drops (records.Ended id) x) ≡ false
ended_over id (records.Voted j s seats) f = ap not (or_nothing (is_id id j) ∙ together id j id (self_id id) (sym (or_nothing (is_id j id)) ∙ f))
ended_over id (records.Decided j seats) f = ap not (or_nothing (is_id id j) ∙ together id j id (self_id id) (sym (or_nothing (is_id j id)) ∙ f))
ended_over id (records.SubCommitted j) f = ap not (or_nothing (is_id id j) ∙ together id j id (self_id id) f)
ended_over id other f = absurd cc

over : (rs : List Record) (id : Numbers) → list_any (is_of_transaction id) (live (rs ++ records.Ended id ∷ [])) ≡ false
over rs id =
    subst (λ xs. list_any (is_of_transaction id) xs ≡ false) (sym (live_more rs (records.Ended id) tt ∙ append-nil (filter (λ x. not (drops (records.Ended id) x)) (live rs))))
    (none_left (is_of_transaction id) (λ x. not (drops (records.Ended id) x)) (live rs) (ended_over id))

-- lists in the order of making
in_inserted : {A : Type 0} (key : A → Numbers) (x y : A) (ys : List A) → (x ≡ y) ⊎ IsIn x ys → IsIn x (insert_by key y ys)
in_inserted key x y [] (inl e) = inl e
in_inserted key x y [] (inr h) = absurd h
in_inserted key x y (z ∷ zs) h = by_case (is_before (key z) (key y)) h (λ k. in_inserted key x y zs k)
  where
    by_case : (b : Bool) → (x ≡ y) ⊎ IsIn x (z ∷ zs) → ((x ≡ y) ⊎ IsIn x zs → IsIn x (insert_by key y zs)) → IsIn x (if b then z ∷ insert_by key y zs else y ∷ (z ∷ zs))
    by_case true (inl e) f = inr (f (inl e))
    by_case true (inr (inl e)) f = inl e
    by_case true (inr (inr k)) f = inr (f (inr k))
    by_case false (inl e) f = inl e
    by_case false (inr k) f = inr k

inserted_in : {A : Type 0} (key : A → Numbers) (x y : A) (ys : List A) → IsIn x (insert_by key y ys) → (x ≡ y) ⊎ IsIn x ys
inserted_in key x y [] (inl e) = inl e
inserted_in key x y [] (inr h) = absurd h
inserted_in key x y (z ∷ zs) h = by_case (is_before (key z) (key y)) h (inserted_in key x y zs)
  where
    further : (x ≡ y) ⊎ IsIn x zs → (x ≡ y) ⊎ IsIn x (z ∷ zs)
    further (inl e) = inl e
    further (inr k) = inr (inr k)

    by_case : (b : Bool) → IsIn x (if b then z ∷ insert_by key y zs else y ∷ (z ∷ zs)) → (IsIn x (insert_by key y zs) → (x ≡ y) ⊎ IsIn x zs) → (x ≡ y) ⊎ IsIn x (z ∷ zs)
    by_case true (inl e) f = inr (inl e)
    by_case true (inr k) f = further (f k)
    by_case false (inl e) f = inl e
    by_case false (inr k) f = inr k

pub in_ordered : {A : Type 0} (key : A → Numbers) (x : A) (xs : List A) → IsIn x xs → IsIn x (in_order key xs)
in_ordered key x [] h = absurd h
in_ordered key x (y ∷ ys) (inl e) = in_inserted key x y (in_order key ys) (inl e)
in_ordered key x (y ∷ ys) (inr h) = in_inserted key x y (in_order key ys) (inr (in_ordered key x ys h))

pub ordered_in : {A : Type 0} (key : A → Numbers) (x : A) (xs : List A) → IsIn x (in_order key xs) → IsIn x xs
ordered_in key x [] h = absurd h
ordered_in key x (y ∷ ys) h = sorted (inserted_in key x y (in_order key ys) h) (ordered_in key x ys)
  where
    sorted : (x ≡ y) ⊎ IsIn x (in_order key ys) → (IsIn x (in_order key ys) → IsIn x ys) → IsIn x (y ∷ ys)
    sorted (inl e) f = inl e
    sorted (inr k) f = inr (f k)

pub journals_live : JournalsLive
journals_live = record {
  start = live_start;
  more = live_more;
  promised = promised;
  stays = stays;
  was = was;
  confirmed = confirmed;
  leaf_over = leaf_over;
  over = over;
}
