-- Tests over all kinds and states, and seats under them.
use Rattle.std.specs.Prelude.{List, [], ◌∷◌, Bool, true, false, not, ◌&&◌, ◌||◌, if◌then◌else◌, ◌≡◌, refl}
use Rattle.std.specs.List.{list_any, AllByRecursion}
use Rattle.at_base.specs.declared.notice.Kind.{Kind}
use Rattle.at_base.specs.declared.notice.Kind.TheVariants as kinds
use Rattle.at_tables.specs.declared.cells.State.{State}
use Rattle.at_tables.specs.declared.cells.State.TheVariants as states
use Rattle.at_model.specs.Book.{Enlistment}
use Rattle.at_model.specs.Seats.{moved}

pub both : (a b : Bool) → (a && b) ≡ true → (a ≡ true) × (b ≡ true)
both true b e = (refl, e)
both false b e = absurd cc

pub implied : (a b : Bool) → (not a || b) ≡ true → a ≡ true → b ≡ true
implied true b e f = e
implied false b e f = absurd cc

abbrev pub every_kind : (Kind → Bool) → Bool
every_kind p = p kinds.Volatile && p kinds.Durable

abbrev pub every_state : (State → Bool) → Bool
every_state p =
    p states.None && (p states.Registering && (p states.Active && (p states.Preparing && (p states.Prepared && (p states.PreparedSuccess
    && (p states.Committing && (p states.Aborting && (p states.Completing && p states.Done))))))))

pub at_kind : (p : Kind → Bool) → every_kind p ≡ true → (k : Kind) → p k ≡ true
at_kind p e kinds.Volatile = (both (p kinds.Volatile) (p kinds.Durable) e).0
at_kind p e kinds.Durable = (both (p kinds.Volatile) (p kinds.Durable) e).1

pub at_state : (p : State → Bool) → every_state p ≡ true → (s : State) → p s ≡ true
at_state p e s =
    let (none, e1) = both (p states.None) _ e in
    let (registering, e2) = both (p states.Registering) _ e1 in
    let (active, e3) = both (p states.Active) _ e2 in
    let (preparing, e4) = both (p states.Preparing) _ e3 in
    let (prepared, e5) = both (p states.Prepared) _ e4 in
    let (success, e6) = both (p states.PreparedSuccess) _ e5 in
    let (committing, e7) = both (p states.Committing) _ e6 in
    let (aborting, e8) = both (p states.Aborting) _ e7 in
    let (completing, done) = both (p states.Completing) _ e8 in
    by_state none registering active preparing prepared success committing aborting completing done s
  where
    by_state : p states.None ≡ true → p states.Registering ≡ true → p states.Active ≡ true → p states.Preparing ≡ true → p states.Prepared ≡ true → p states.PreparedSuccess ≡ true
        → p states.Committing ≡ true → p states.Aborting ≡ true → p states.Completing ≡ true → p states.Done ≡ true → (x : State) → p x ≡ true
    by_state a b c d f g h i j k states.None = a
    by_state a b c d f g h i j k states.Registering = b
    by_state a b c d f g h i j k states.Active = c
    by_state a b c d f g h i j k states.Preparing = d
    by_state a b c d f g h i j k states.Prepared = f
    by_state a b c d f g h i j k states.PreparedSuccess = g
    by_state a b c d f g h i j k states.Committing = h
    by_state a b c d f g h i j k states.Aborting = i
    by_state a b c d f g h i j k states.Completing = j
    by_state a b c d f g h i j k states.Done = k

-- what holds of a seat of every kind and in every state
abbrev pub every_seat : (Kind → State → Bool) → Bool
every_seat p = every_kind (λ k. every_state (λ s. p k s))

pub at_seat : (p : Kind → State → Bool) → every_seat p ≡ true → (k : Kind) (s : State) → p k s ≡ true
at_seat p e k s = at_state (λ x. p k x) (at_kind (λ j. every_state (λ x. p j x)) e k) s

abbrev pub Are : (Kind → State → Bool) → List Enlistment → Type 0
Are p seats = AllByRecursion (λ s. p s.kind s.state ≡ true) seats

-- seats of which some go into another state
pub are_moved : (p q test : Kind → State → Bool) (state : State) → every_seat (λ k s. not (p k s) || q k (if test k s then state else s)) ≡ true → (seats : List Enlistment) → Are p seats
    → Are q (moved (λ s. test s.kind s.state) state seats)
are_moved p q test state e [] h = tt
are_moved p q test state e (s ∷ ss) (h, k) = (
  implied (p s.kind s.state) (q s.kind (if test s.kind s.state then state else s.state)) (at_seat (λ j x. not (p j x) || q j (if test j x then state else x)) e s.kind s.state) h,
  are_moved p q test state e ss k,
)

pub are_more : (p q : Kind → State → Bool) → every_seat (λ k s. not (p k s) || q k s) ≡ true → (seats : List Enlistment) → Are p seats → Are q seats
are_more p q e [] h = tt
are_more p q e (s ∷ ss) (h, k) = (implied (p s.kind s.state) (q s.kind s.state) (at_seat (λ j x. not (p j x) || q j x) e s.kind s.state) h, are_more p q e ss k)

-- where no seat passes one test, each fails it
pub none_is : (test : Kind → State → Bool) (seats : List Enlistment) → list_any (λ s. test s.kind s.state) seats ≡ false → Are (λ k s. not (test k s)) seats
none_is test [] e = tt
none_is test (s ∷ ss) e = by_test (λ g. none_is test ss g) (test s.kind s.state) refl e
  where
    by_test : (list_any (λ x. test x.kind x.state) ss ≡ false → Are (λ k x. not (test k x)) ss) → (b : Bool) → test s.kind s.state ≡ b
        → (b || list_any (λ x. test x.kind x.state) ss) ≡ false → Are (λ k x. not (test k x)) (s ∷ ss)
    by_test rest true f g = absurd cc
    by_test rest false f g = (rw f refl, rest g)

pub are_both : (p q : Kind → State → Bool) (seats : List Enlistment) → Are p seats → Are q seats → Are (λ k s. p k s && q k s) seats
are_both p q [] h i = tt
are_both p q (s ∷ ss) (h, hs) (i, is) = (rw (h, i) refl, are_both p q ss hs is)

-- where some seat passes a test, and each that does passes another
pub some_more : (p test other : Kind → State → Bool) → every_seat (λ k s. not (p k s && test k s) || other k s) ≡ true → (seats : List Enlistment) → Are p seats
    → list_any (λ s. test s.kind s.state) seats ≡ true → list_any (λ s. other s.kind s.state) seats ≡ true
some_more p test other e [] h f = absurd cc
some_more p test other e (s ∷ ss) (h, hs) f = by_test (λ j. some_more p test other e ss hs j) (test s.kind s.state) refl f
  where
    there : (a b c : Bool) → a ≡ true → b ≡ true → (not (a && b) || c) ≡ true → c ≡ true
    there true true c i j k = k
    there true false c i j k = absurd cc
    there false b c i j k = absurd cc

    front : (a b : Bool) → a ≡ true → (a || b) ≡ true
    front true b i = refl
    front false b i = absurd cc

    behind : (a b : Bool) → b ≡ true → (a || b) ≡ true
    behind true b i = refl
    behind false b i = i

    by_test : (list_any (λ x. test x.kind x.state) ss ≡ true → list_any (λ x. other x.kind x.state) ss ≡ true) → (b : Bool) → test s.kind s.state ≡ b
        → (b || list_any (λ x. test x.kind x.state) ss) ≡ true → list_any (λ x. other x.kind x.state) (s ∷ ss) ≡ true
    by_test rest true i j =
        front (other s.kind s.state) _ (there (p s.kind s.state) (test s.kind s.state) (other s.kind s.state) h i (at_seat (λ k x. not (p k x && test k x) || other k x) e s.kind s.state))
    by_test rest false i j = behind (other s.kind s.state) _ (rest j)

-- and so behind a move
pub some_moved : (test goes other : Kind → State → Bool) (state : State) → every_seat (λ k s. not (test k s) || other k (if goes k s then state else s)) ≡ true → (seats : List Enlistment)
    → list_any (λ s. test s.kind s.state) seats ≡ true → list_any (λ s. other s.kind s.state) (moved (λ s. goes s.kind s.state) state seats) ≡ true
some_moved test goes other state e [] f = absurd cc
some_moved test goes other state e (s ∷ ss) f = by_test (λ j. some_moved test goes other state e ss j) (test s.kind s.state) refl f
  where
    front : (a b : Bool) → a ≡ true → (a || b) ≡ true
    front true b i = refl
    front false b i = absurd cc

    behind : (a b : Bool) → b ≡ true → (a || b) ≡ true
    behind true b i = refl
    behind false b i = i

    by_test : (list_any (λ x. test x.kind x.state) ss ≡ true → list_any (λ x. other x.kind x.state) (moved (λ x. goes x.kind x.state) state ss) ≡ true) → (b : Bool) → test s.kind s.state ≡ b
        → (b || list_any (λ x. test x.kind x.state) ss) ≡ true → list_any (λ x. other x.kind x.state) (moved (λ x. goes x.kind x.state) state (s ∷ ss)) ≡ true
    by_test rest true i j =
        front (other s.kind (if goes s.kind s.state then state else s.state)) _
        (implied (test s.kind s.state) _ (at_seat (λ k x. not (test k x) || other k (if goes k x then state else x)) e s.kind s.state) i)
    by_test rest false i j = behind (other s.kind (if goes s.kind s.state then state else s.state)) _ (rest j)
