-- Weights and loads of lists, and of an item on its way through a step.
use Rattle.std.specs.Prelude.{ℕ, List, [], ◌∷◌, ◌++◌, Option, Some, None, Bool, true, false, ◌+◌, ◌||◌, if◌then◌else◌, filter, map, ◌≡◌, ◌≤◌, ◌⊎◌, refl}
use Rattle.std.specs.List.{list_any, sum_by}
use Rattle.std.proofs.Common.{arith, sym, subst, ap, inl, inr}
use Rattle.std.proofs.lemmas.Bool.{leb-true}
use Rattle.std.proofs.lemmas.List.Sums.{sum_by-cons, sum_by-append}
use Rattle.at_base.specs.declared.limits.TheConstants.{RESEND_AFTER}
use Rattle.at_base.specs.Numbers.{Numbers}
use Rattle.at_base.specs.declared.event.Moment.{Moment}
use Rattle.at_base.specs.declared.notice.Notice.{Notice}
use Rattle.at_base.specs.declared.outs.Effect.{Effect}
use Rattle.at_base.specs.declared.outs.Post.{Post}
use Rattle.at_base.specs.declared.record.Record.{Record}
use Rattle.at_tables.specs.declared.cells.State.{State}
use Rattle.at_model.specs.Book.{Enlistment, Request, Superior, Transaction, find_by, is_id, put_by}
use Rattle.at_model.specs.Arrivals.{request_of}
use Rattle.at_model.specs.Due.{is_quiet}
use Rattle.at_model.specs.Moves.{Change, Decision, Moving, become, begin, effect, forgotten, post, posts, stays}
use Rattle.at_model.specs.Posts.{notice_post}
use Rattle.at_model.specs.Seats.{moved, notices_to, seat_target, send_each, sent_to}
use Rattle.model_laws.proofs.DecisionLaws.{DecisionSays, IfThere}
use Rattle.settling.specs.Load.{Prices, again, held, link_repeats, links_load, notice_weight, post_weight, seat_repeats, seat_load, seat_rest, seats_load, weights}

-- sums
pub weights_join : (P : Prices) (ps qs : List Post) → weights P (ps ++ qs) ≡ weights P ps + weights P qs
weights_join P ps qs = sum_by-append (post_weight P) ps qs

pub weights_one : (P : Prices) (p : Post) → weights P (p ∷ []) ≡ post_weight P p
weights_one P p = omega (arith, sum_by-cons (post_weight P) p [])

pub sum_put : {A : Type 0} (f : A → ℕ) (key : A → Numbers) (id : Numbers) (new : Option A) (value : ℕ) (xs : List A) (x : A) → find_by key id xs ≡ Some x
    → ((y : A) → new ≡ Some y → value ≡ f y) → (new ≡ None → value ≡ 0) → sum_by f (put_by key id new xs) + f x ≡ sum_by f xs + value
sum_put f key id new value [] x e some none = absurd cc
sum_put f key id None value (z ∷ zs) x e some none =
    by_test (is_id (key z) id) (λ k. sum_put f key id None value zs x k some none) e
  where
    by_test : (b : Bool) → (find_by key id zs ≡ Some x → sum_by f (put_by key id None zs) + f x ≡ sum_by f zs + value) → (if b then Some z else find_by key id zs) ≡ Some x
        → sum_by f (if b then zs else z ∷ put_by key id None zs) + f x ≡ sum_by f (z ∷ zs) + value
    by_test true rest k =
        let same : z ≡ x = cc in
        let nought : value ≡ 0 = none refl in
        let one : f z ≡ f x = ap f same in
        omega (arith, sum_by-cons f z zs)
    by_test false rest k =
        let behind : sum_by f (put_by key id None zs) + f x ≡ sum_by f zs + value = rest k in
        omega (arith, sum_by-cons f z zs, sum_by-cons f z (put_by key id None zs))
sum_put f key id (Some y) value (z ∷ zs) x e some none =
    by_test (is_id (key z) id) (λ k. sum_put f key id (Some y) value zs x k some none) e
  where
    by_test : (b : Bool) → (find_by key id zs ≡ Some x → sum_by f (put_by key id (Some y) zs) + f x ≡ sum_by f zs + value) → (if b then Some z else find_by key id zs) ≡ Some x
        → sum_by f (if b then y ∷ zs else z ∷ put_by key id (Some y) zs) + f x ≡ sum_by f (z ∷ zs) + value
    by_test true rest k =
        let same : z ≡ x = cc in
        let new_one : value ≡ f y = some y refl in
        let one : f z ≡ f x = ap f same in
        omega (arith, sum_by-cons f z zs, sum_by-cons f y zs)
    by_test false rest k =
        let behind : sum_by f (put_by key id (Some y) zs) + f x ≡ sum_by f zs + value = rest k in
        omega (arith, sum_by-cons f z zs, sum_by-cons f z (put_by key id (Some y) zs))

pub sum_filter : {A : Type 0} (f : A → ℕ) (test : A → Bool) (xs : List A) → sum_by f (filter test xs) ≤ sum_by f xs
sum_filter f test [] = omega arith
sum_filter f test (x ∷ xs) = by_test (test x) (sum_filter f test xs)
  where
    by_test : (b : Bool) → sum_by f (filter test xs) ≤ sum_by f xs → sum_by f (if b then x ∷ filter test xs else filter test xs) ≤ sum_by f (x ∷ xs)
    by_test true rest = omega (arith, sum_by-cons f x xs, sum_by-cons f x (filter test xs))
    by_test false rest = omega (arith, sum_by-cons f x xs)

pub sum_pointwise : {A : Type 0} (f g : A → ℕ) (xs : List A) → ((x : A) → f x ≤ g x) → sum_by f xs ≤ sum_by g xs
sum_pointwise f g [] h = omega arith
sum_pointwise f g (x ∷ xs) h = omega (arith, sum_by-cons f x xs, sum_by-cons g x xs, h x, sum_pointwise f g xs h)

-- what is sent again counts only where it is quiet
pub less_again : (q : Bool) (n : ℕ) → again false n ≤ again q n
less_again true n = omega arith
less_again false n = omega arith

pub not_quiet : (now : ℕ) → is_quiet now (Some now) ≡ false
not_quiet now = by_test (is_quiet now (Some now)) refl
  where
    by_test : (b : Bool) → is_quiet now (Some now) ≡ b → b ≡ false
    by_test true e = let late : now + RESEND_AFTER ≤ now = leb-true (now + RESEND_AFTER) now e in absurd (omega (arith, late))
    by_test false e = refl

pub none_again : (q : Bool) → again q 0 ≤ 0
none_again true = omega arith
none_again false = omega arith

-- where seats were sent to, none of the item is quiet
unfoldable pub SentNow : Bool → Bool → Bool → Type 0
SentNow after before any = (after ≡ false) ⊎ ((after ≡ before) × (any ≡ false))

quiet_sent : (now : ℕ) (sent : Option ℕ) (any : Bool) → SentNow (is_quiet now (if any then Some now else sent)) (is_quiet now sent) any
unfolding SentNow
quiet_sent now sent true = inl (not_quiet now)
quiet_sent now sent false = inr (refl, refl)

-- Each seat that passes the test is sent a notification and goes into a state: it pays for both.
unfoldable pub Affordable : Notice → State → (Enlistment → Bool) → Bool → Type 0
Affordable n state test q =
    (s : Enlistment) → test s ≡ true → notice_weight n + (seat_rest state + again false (seat_repeats state)) ≤ seat_rest s.state + again q (seat_repeats s.state)

seats_sent : (P : Prices) (base : List ℕ) (id : Numbers) (n : Notice) (state : State) (test : Enlistment → Bool) (q : Bool) → Affordable n state test q → (seats : List Enlistment)
    → weights P (notices_to base id n seats test) + seats_load P false (moved test state seats) ≤ seats_load P q seats
unfolding Affordable
seats_sent P base id n state test q h [] = omega arith
seats_sent P base id n state test q h (s ∷ ss) = by_test (test s) (h s) (seats_sent P base id n state test q h ss)
  where
    by_test : (b : Bool) → (b ≡ true → notice_weight n + (seat_rest state + again false (seat_repeats state)) ≤ seat_rest s.state + again q (seat_repeats s.state))
        → weights P (notices_to base id n ss test) + seats_load P false (moved test state ss) ≤ seats_load P q ss
        → weights P (map (λ x. notice_post base (seat_target id x) x.participant n) (if b then s ∷ filter test ss else filter test ss))
        + seats_load P false (record s { state = if b then state else s.state } ∷ moved test state ss) ≤ seats_load P q (s ∷ ss)
    by_test true here rest =
        let one : notice_weight n + (seat_rest state + again false (seat_repeats state)) ≤ seat_rest s.state + again q (seat_repeats s.state) = here refl in
        omega (
          arith,
          rest,
          sum_by-cons (post_weight P) (notice_post base (seat_target id s) s.participant n) (notices_to base id n ss test),
          sum_by-cons (seat_load P false) (record s { state = state }) (moved test state ss),
          sum_by-cons (seat_load P q) s ss,
        )
    by_test false here rest =
        omega (arith, rest, sum_by-cons (seat_load P false) s (moved test state ss), sum_by-cons (seat_load P q) s ss, less_again q (seat_repeats s.state))

seats_unsent : (P : Prices) (base : List ℕ) (id : Numbers) (n : Notice) (state : State) (test : Enlistment → Bool) (q : Bool) (seats : List Enlistment) → list_any test seats ≡ false
    → weights P (notices_to base id n seats test) + seats_load P q (moved test state seats) ≤ seats_load P q seats
seats_unsent P base id n state test q [] e = omega arith
seats_unsent P base id n state test q (s ∷ ss) e = by_test (test s) e (λ f. seats_unsent P base id n state test q ss f)
  where
    by_test : (b : Bool) → (b || list_any test ss) ≡ false
        → (list_any test ss ≡ false → weights P (notices_to base id n ss test) + seats_load P q (moved test state ss) ≤ seats_load P q ss)
        → weights P (map (λ x. notice_post base (seat_target id x) x.participant n) (if b then s ∷ filter test ss else filter test ss))
        + seats_load P q (record s { state = if b then state else s.state } ∷ moved test state ss) ≤ seats_load P q (s ∷ ss)
    by_test true f rest = absurd cc
    by_test false f rest = omega (arith, rest f, sum_by-cons (seat_load P q) s (moved test state ss), sum_by-cons (seat_load P q) s ss)

-- seats and links that are less quiet hold less
pub seats_less : (P : Prices) (q : Bool) (seats : List Enlistment) → seats_load P false seats ≤ seats_load P q seats
seats_less P q seats = sum_pointwise (seat_load P false) (seat_load P q) seats (λ s. omega (arith, less_again q (seat_repeats s.state)))

pub links_less : (P : Prices) (q : Bool) (s : Option Superior) → links_load P false s ≤ links_load P q s
links_less P q None = omega arith
links_less P q (Some s) = omega (arith, less_again q (link_repeats P s.volatile.state), less_again q (link_repeats P s.durable.state))

sent_held : (P : Prices) (base : List ℕ) (id : Numbers) (n : Notice) (state : State) (test : Enlistment → Bool) (after before : Bool) (seats : List Enlistment) (s : Option Superior)
    → Affordable n state test before → SentNow after before (list_any test seats)
    → weights P (notices_to base id n seats test) + (seats_load P after (moved test state seats) + links_load P after s) ≤ seats_load P before seats + links_load P before s
unfolding SentNow
sent_held P base id n state test after before seats s h (inl e) =
    subst (λ q. weights P (notices_to base id n seats test) + (seats_load P q (moved test state seats) + links_load P q s) ≤ seats_load P before seats + links_load P before s) (sym e)
    (omega (arith, seats_sent P base id n state test before h seats, links_less P before s))
sent_held P base id n state test after before seats s h (inr (e, f)) =
    subst (λ q. weights P (notices_to base id n seats test) + (seats_load P q (moved test state seats) + links_load P q s) ≤ seats_load P before seats + links_load P before s) (sym e)
    (omega (arith, seats_unsent P base id n state test before seats f))

-- What a transaction on its way has posted and holds.
unfoldable pub worth : Prices → ℕ → Moving Transaction → ℕ
worth P now g = weights P g.posts + held P now g.item

pub worth_begin : (P : Prices) (now : ℕ) (t : Transaction) → worth P now (begin t) ≡ held P now t
unfolding worth
worth_begin P now t = omega arith

pub worth_post : (P : Prices) (now : ℕ) (p : Post) (g : Moving Transaction) → worth P now (post p g) ≡ worth P now g + post_weight P p
unfolding worth
worth_post P now p g = omega (arith, weights_join P g.posts (p ∷ []), weights_one P p)

pub worth_posts : (P : Prices) (now : ℕ) (ps : List Post) (g : Moving Transaction) → worth P now (posts ps g) ≡ worth P now g + weights P ps
unfolding worth
worth_posts P now ps g = omega (arith, weights_join P g.posts ps)

pub worth_effect : (P : Prices) (now : ℕ) (e : Effect) (g : Moving Transaction) → worth P now (effect e g) ≡ worth P now g
unfolding worth
worth_effect P now e g = refl

pub worth_become : (P : Prices) (now : ℕ) (t : Transaction) (g : Moving Transaction) → worth P now (become t g) + held P now g.item ≡ worth P now g + held P now t
unfolding worth
worth_become P now t g = omega arith

pub worth_sent : (P : Prices) (m : Moment) (n : Notice) (state : State) (test : Enlistment → Bool) (g : Moving Transaction)
    → Affordable n state test (is_quiet m.now g.item.sent) → worth P m.now (send_each m n state test g) ≤ worth P m.now g
unfolding worth
worth_sent P m n state test g h =
    let sent : weights P (notices_to m.base g.item.id n g.item.seats test)
    + (seats_load P (is_quiet m.now (sent_to m.now g.item.sent g.item.seats test)) (moved test state g.item.seats)
    + links_load P (is_quiet m.now (sent_to m.now g.item.sent g.item.seats test)) g.item.superior)
    ≤ seats_load P (is_quiet m.now g.item.sent) g.item.seats + links_load P (is_quiet m.now g.item.sent) g.item.superior =
    sent_held P m.base g.item.id n state test (is_quiet m.now (sent_to m.now g.item.sent g.item.seats test)) (is_quiet m.now g.item.sent) g.item.seats g.item.superior h
    (quiet_sent m.now g.item.sent (list_any test g.item.seats)) in
    omega (arith, sent, weights_join P g.posts (notices_to m.base g.item.id n g.item.seats test))

-- What a step leaves of a transaction is within the limit, and its request stands as it did.
abbrev pub left_held : Prices → ℕ → Option Transaction → ℕ
left_held P now None = 0
left_held P now (Some t) = held P now t

abbrev pub Asks : Option Request → Transaction → Type 0
Asks r t = request_of t.superior ≡ r

pub record Affords (P : Prices) (now limit : ℕ) (r : Option Request) (c : Change Transaction) : Type 0 where
  pub paid : weights P c.posts + left_held P now c.item ≤ limit
  pub asks : IfThere (Asks r) c.item

abbrev pub AnyEntry : {A : Type 0} → Record → Change A → Type 0
AnyEntry r c = Unit {0}

abbrev pub Affordably : Prices → ℕ → ℕ → Option Request → Decision Transaction → Type 0
Affordably P now limit r d = DecisionSays (Affords P now limit r) AnyEntry d

pub stays_paid : (P : Prices) (now limit : ℕ) (r : Option Request) (g : Moving Transaction) → worth P now g ≤ limit → Asks r g.item → Affords P now limit r (stays g)
unfolding worth
stays_paid P now limit r g h k = record { paid = h; asks = k }

pub forgotten_paid : (P : Prices) (now limit : ℕ) (r : Option Request) (g : Moving Transaction) → worth P now g ≤ limit → Affords P now limit r (forgotten g)
unfolding worth
forgotten_paid P now limit r g h = record { paid = omega (arith, h); asks = tt }
