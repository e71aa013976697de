-- What holds of a decision: a property of what is left of the item, and one of what is recorded, with what is then left.
use Rattle.std.specs.Prelude.{List, [], ◌∷◌, ◌++◌, Option, Some, None, Bool, true, false, ◌&&◌, if◌then◌else◌, filter, map, ◌≡◌}
use Rattle.std.specs.List.{AllByRecursion}
use Rattle.std.proofs.Common.{refl, subst, inl, inr}
use Rattle.at_base.specs.Numbers.{Numbers}
use Rattle.at_base.specs.declared.notice.Kind.{Kind}
use Rattle.at_base.specs.declared.notice.Kind.TheVariants as kinds
use Rattle.at_base.specs.declared.record.Record.{Record}
use Rattle.at_base.specs.declared.event.Moment.{Moment}
use Rattle.at_base.specs.declared.outs.Out.{Out}
use Rattle.at_base.specs.declared.message.Message.TheVariants as messages
use Rattle.at_base.specs.Names.{is_kind}
use Rattle.at_model.specs.Book.{Book, Transaction, Superior, Request, Phase, find_by, put_by, is_id}
use Rattle.at_model.specs.Posts.{reply_post}
use Rattle.at_model.specs.Seats.{under}
use Rattle.at_model.specs.Arrivals.{is_registering, request_answered, context_of, request_stands, request_under, request_left, answer_request, request_of, with_answer}
use Rattle.at_model.specs.Moves.{Change, Decision, Goes, Records, in_both}
use Rattle.model_laws.specs.Agreement.{IsIn}
use Rattle.model_laws.proofs.RecoveryLaws.{same_id}
use Rattle.at_model.specs.Step.{Outcome, Plan, plain, still, outcome_of, plan_of, branch, noting}

-- a property that a kept outcome leaves as it is
abbrev pub StaysOn : (Outcome → Type 0) → Type 0
StaysOn P = (r : Record) (o : Outcome) → P o → P (noting r o)

-- one property of both branches of a plan
pub record Both (P : Outcome → Type 0) (p : Plan) : Type 0 where
  pub landed : P p.landed
  pub absent : P p.absent

pub in_branch : (P : Outcome → Type 0) (p : Plan) (landed : Bool) → Both P p → P (branch p landed)
in_branch P p true h = h.landed
in_branch P p false h = h.absent

pub plain_both : (P : Outcome → Type 0) (o : Outcome) → P o → Both P (plain o)
plain_both P o h = record { landed = h; absent = h }

pub decision_both : {A : Type 0} (P : Outcome → Type 0) (on : StaysOn P) (b : Book) (put : Option A → Book) (answer : List Out) (d : Decision A)
    → ((c : Change A) → P (outcome_of put answer c)) → P (still b answer) → Both P (plan_of b put answer d)
decision_both P on b put answer (Goes c) h k = plain_both P (outcome_of put answer c) (h c)
decision_both P on b put answer (Records r c None) h k = record { landed = on r (outcome_of put answer c) (h c); absent = k }
decision_both P on b put answer (Records r c (Some d)) h k = record { landed = on r (outcome_of put answer c) (h c); absent = h d }

-- where the record is absent
abbrev pub AbsentSays : {A : Type 0} → (Change A → Type 0) → Option (Change A) → Type 0
AbsentSays P None = Unit {0}
AbsentSays P (Some c) = P c

pub record RecordsSay {A : Type 0} (P : Change A → Type 0) (Q : Record → Change A → Type 0) (r : Record) (c : Change A) (absent : Option (Change A)) : Type 0 where
  pub entry : Q r c
  pub landed : P c
  pub otherwise : AbsentSays P absent

abbrev pub DecisionSays : {A : Type 0} → (Change A → Type 0) → (Record → Change A → Type 0) → Decision A → Type 0
DecisionSays P Q (Goes c) = P c
DecisionSays P Q (Records r c absent) = RecordsSay P Q r c absent

-- the same of the item alone
abbrev pub DecisionHas : {A : Type 0} → (Option A → Type 0) → (Record → Option A → Type 0) → Decision A → Type 0
DecisionHas P Q d = DecisionSays (λ c. P c.item) (λ r c. Q r c.item) d

-- a property of an item that is still there
abbrev pub IfThere : {A : Type 0} → (A → Type 0) → Option A → Type 0
IfThere P None = Unit {0}
IfThere P (Some a) = P a

pub decided_says : {A : Type 0} (P : Change A → Type 0) (Q : Record → Change A → Type 0) (R : Outcome → Type 0) (on : StaysOn R) (b : Book) (put : Option A → Book) (answer : List Out)
    (d : Decision A) → DecisionSays P Q d → ((c : Change A) → P c → R (outcome_of put answer c)) → R (still b answer) → Both R (plan_of b put answer d)
decided_says P Q R on b put answer (Goes c) h j k = plain_both R (outcome_of put answer c) (j c h)
decided_says P Q R on b put answer (Records r c None) h j k = record { landed = on r (outcome_of put answer c) (j c h.landed); absent = k }
decided_says P Q R on b put answer (Records r c (Some d)) h j k = record { landed = on r (outcome_of put answer c) (j c h.landed); absent = j d h.otherwise }

pub decided_both : {A : Type 0} (P : Option A → Type 0) (Q : Record → Option A → Type 0) (R : Outcome → Type 0) (on : StaysOn R) (b : Book) (put : Option A → Book) (answer : List Out)
    (d : Decision A) → DecisionHas P Q d → ((c : Change A) → P c.item → R (outcome_of put answer c)) → R (still b answer) → Both R (plan_of b put answer d)
decided_both P Q R on b put answer d h j k = decided_says (λ c. P c.item) (λ r c. Q r c.item) R on b put answer d h j k

no_entry : (o : Option Record) (r : Record) → o ≡ None → o ≡ Some r → ⊥
no_entry o r e f = cc

pub says_entry : {A : Type 0} (P : Change A → Type 0) (Q : Record → Change A → Type 0) (R : Record → Outcome → Type 0) (on : (s : Record) → StaysOn (R s)) (b : Book) (put : Option A → Book) (answer : List Out)
    (d : Decision A) (r : Record) → DecisionSays P Q d → ((s : Record) (c : Change A) → P c → Q s c → R s (outcome_of put answer c))
    → (plan_of b put answer d).entry ≡ Some r → R r (plan_of b put answer d).landed
says_entry P Q R on b put answer (Goes c) r h f e = absurd (no_entry None r refl e)
says_entry P Q R on b put answer (Records s c absent) r h f e =
    let same : s ≡ r = cc in
    subst (λ x. R x (noting s (outcome_of put answer c))) same (on s s (outcome_of put answer c) (f s c h.landed h.entry))

pub decided_entry : {A : Type 0} (P : Option A → Type 0) (Q : Record → Option A → Type 0) (R : Record → Outcome → Type 0) (on : (s : Record) → StaysOn (R s)) (b : Book) (put : Option A → Book) (answer : List Out)
    (d : Decision A) (r : Record) → DecisionHas P Q d → ((s : Record) (c : Change A) → P c.item → Q s c.item → R s (outcome_of put answer c))
    → (plan_of b put answer d).entry ≡ Some r → R r (plan_of b put answer d).landed
decided_entry P Q R on b put answer d r h f e = says_entry (λ c. P c.item) (λ s c. Q s c.item) R on b put answer d r h f e

-- the same, where both branches are changed alike
pub both_say : {A : Type 0} (P : Change A → Type 0) (Q : Record → Change A → Type 0) (f : Change A → Change A) → ((c : Change A) → P c → P (f c))
    → ((r : Record) (c : Change A) → Q r c → Q r (f c)) → (d : Decision A) → DecisionSays P Q d → DecisionSays P Q (in_both f d)
both_say P Q f h q (Goes c) k = h c k
both_say P Q f h q (Records r c None) k = record { entry = q r c k.entry; landed = h c k.landed; otherwise = tt }
both_say P Q f h q (Records r c (Some d)) k = record { entry = q r c k.entry; landed = h c k.landed; otherwise = h d k.otherwise }

-- both sides of a test
pub either_says : {A : Type 0} (P : Change A → Type 0) (Q : Record → Change A → Type 0) (b : Bool) (d e : Decision A)
    → (b ≡ true → DecisionSays P Q d) → (b ≡ false → DecisionSays P Q e) → DecisionSays P Q (if b then d else e)
either_says P Q true d e h k = h refl
either_says P Q false d e h k = k refl

pub either_has : {A : Type 0} (P : Option A → Type 0) (Q : Record → Option A → Type 0) (b : Bool) (d e : Decision A)
    → (b ≡ true → DecisionHas P Q d) → (b ≡ false → DecisionHas P Q e) → DecisionHas P Q (if b then d else e)
either_has P Q b d e h k = either_says (λ c. P c.item) (λ r c. Q r c.item) b d e h k

pub either_of : {A : Type 0} (P : A → Type 0) (b : Bool) (x y : A) → (b ≡ true → P x) → (b ≡ false → P y) → P (if b then x else y)
either_of P true x y h k = h refl
either_of P false x y h k = k refl

pub either_left : {A : Type 0} (P : Change A → Type 0) (b : Bool) (c d : Change A) → P c → P d → P (if b then c else d)
either_left P true c d h k = h
either_left P false c d h k = k

pub either_change : {A : Type 0} (P : Option A → Type 0) (b : Bool) (c d : Change A) → P c.item → P d.item → P (if b then c else d).item
either_change P b c d h k = either_left (λ x. P x.item) b c d h k

pub first_true : (a b : Bool) → (a && b) ≡ true → a ≡ true
first_true true b e = refl
first_true false b e = absurd cc

pub second_true : (a b : Bool) → (a && b) ≡ true → b ≡ true
second_true true b e = e
second_true false b e = absurd cc

-- lists by id
found_if : {A : Type 0} (P : A → Type 0) (b : Bool) (x y : A) (o : Option A) → P x → (o ≡ Some y → P y) → (if b then Some x else o) ≡ Some y → P y
found_if P true x y o h k e = let f : x ≡ y = cc in rw (← f) h
found_if P false x y o h k e = k e

pub all_find : {A : Type 0} (P : A → Type 0) (key : A → Numbers) (id : Numbers) (xs : List A) (x : A) → AllByRecursion P xs → find_by key id xs ≡ Some x → P x
all_find P key id [] x h e = absurd cc
all_find P key id (y ∷ ys) x (h, k) e = found_if P (is_id (key y) id) y x (find_by key id ys) h (all_find P key id ys x k) e

pub all_if : {A : Type 0} (P : A → Type 0) (b : Bool) (xs ys : List A) → AllByRecursion P xs → AllByRecursion P ys → AllByRecursion P (if b then xs else ys)
all_if P true xs ys h k = h
all_if P false xs ys h k = k

pub all_put : {A : Type 0} (P : A → Type 0) (key : A → Numbers) (id : Numbers) (new : Option A) (xs : List A) → IfThere P new → AllByRecursion P xs → AllByRecursion P (put_by key id new xs)
all_put P key id None [] n h = tt
all_put P key id (Some y) [] n h = tt
all_put P key id None (x ∷ xs) n (h, k) = all_if P (is_id (key x) id) xs (x ∷ put_by key id None xs) k (h, all_put P key id None xs n k)
all_put P key id (Some y) (x ∷ xs) n (h, k) =
    all_if P (is_id (key x) id) (y ∷ xs) (x ∷ put_by key id (Some y) xs) (n, k) (h, all_put P key id (Some y) xs n k)

pub all_filter : {A : Type 0} (P : A → Type 0) (p : A → Bool) (xs : List A) → AllByRecursion P xs → AllByRecursion P (filter p xs)
all_filter P p [] h = tt
all_filter P p (x ∷ xs) (h, k) = all_if P (p x) (x ∷ filter p xs) (filter p xs) (h, all_filter P p xs k) (all_filter P p xs k)

pub all_join : {A : Type 0} (P : A → Type 0) (xs ys : List A) → AllByRecursion P xs → AllByRecursion P ys → AllByRecursion P (xs ++ ys)
all_join P [] ys h k = k
all_join P (x ∷ xs) ys (h, i) k = (h, all_join P xs ys i k)

pub all_more : {A : Type 0} (P Q : A → Type 0) (xs : List A) → ((x : A) → P x → Q x) → AllByRecursion P xs → AllByRecursion Q xs
all_more P Q [] f h = tt
all_more P Q (x ∷ xs) f (h, k) = (f x h, all_more P Q xs f k)

pub all_both : {A : Type 0} (P Q R : A → Type 0) (xs : List A) → ((x : A) → P x → Q x → R x) → AllByRecursion P xs → AllByRecursion Q xs → AllByRecursion R xs
all_both P Q R [] f h k = tt
all_both P Q R (x ∷ xs) f (h, i) (k, j) = (f x h k, all_both P Q R xs f i j)

pub all_map : {A B : Type 0} (P : B → Type 0) (f : A → B) (xs : List A) → AllByRecursion (λ x. P (f x)) xs → AllByRecursion P (map f xs)
all_map P f [] h = tt
all_map P f (x ∷ xs) (h, k) = (h, all_map P f xs k)

-- what a subordinate's answer to its request leaves of it: the transaction, with or without the request
abbrev pub Unrequested : (Option Transaction → Type 0) → Type 0
Unrequested P = (s : Superior) (t : Transaction) → t.superior ≡ Some s → P (Some t) → P (Some (under (request_answered s) t))

stands_has : (P : Option Transaction → Type 0) → Unrequested P → (m : Moment) (r : Request) (t : Transaction) (s : Superior) (phase : Phase) (c : Change Transaction)
    → t.superior ≡ Some s → P (Some t) → P c.item → P (request_stands m r t s phase c).item
stands_has P f m r t s Phase.Aborting c e h k = f s t e h
stands_has P f m r t s other c e h k =
    either_change P (is_registering s) c
    (record {
      item = Some (under (request_answered s) t);
      posts = c.posts ++ reply_post (Some r.reply) r.id (messages.CreateResponse (context_of m.base t r.expires)) ∷ [];
      effects = c.effects;
    }) k (f s t e h)

under_has : (P : Option Transaction → Type 0) → Unrequested P → (m : Moment) (r : Request) (t : Transaction) (s : Option Superior) (c : Change Transaction)
    → t.superior ≡ s → P (Some t) → P c.item → P (request_under m r t s c).item
under_has P f m r t None c e h k = k
under_has P f m r t (Some s) c e h k = stands_has P f m r t s t.phase c e h k

left_has : (P : Option Transaction → Type 0) → Unrequested P → (m : Moment) (r : Request) (t : Option Transaction) (c : Change Transaction) → P t → P c.item
    → P (request_left m r t c).item
left_has P f m r None c h k = h
left_has P f m r (Some t) c h k = under_has P f m r t t.superior c refl h k

pub answer_has : (P : Option Transaction → Type 0) → Unrequested P → (m : Moment) (r : Option Request) (c : Change Transaction) → P c.item → P (answer_request m r c).item
answer_has P f m None c h = h
answer_has P f m (Some r) c h = left_has P f m r c.item c h h

pub with_answer_has : (P : Option Transaction → Type 0) (Q : Record → Option Transaction → Type 0) → Unrequested P → ((r : Record) → Unrequested (Q r))
    → (m : Moment) (t : Transaction) (d : Decision Transaction) → DecisionHas P Q d → DecisionHas P Q (with_answer m t d)
with_answer_has P Q f g m t d h =
    both_say (λ c. P c.item) (λ r c. Q r c.item) (answer_request m (request_of t.superior)) (λ c k. answer_has P f m (request_of t.superior) c k)
    (λ r c k. answer_has (Q r) (g r) m (request_of t.superior) c k) d h

-- and what happened stays as it was
stands_effects : (m : Moment) (r : Request) (t : Transaction) (s : Superior) (phase : Phase) (c : Change Transaction) → (request_stands m r t s phase c).effects ≡ c.effects
stands_effects m r t s Phase.Aborting c = refl
stands_effects m r t s other c =
    either_left (λ x. x.effects ≡ c.effects) (is_registering s) c
    (record {
      item = Some (under (request_answered s) t);
      posts = c.posts ++ reply_post (Some r.reply) r.id (messages.CreateResponse (context_of m.base t r.expires)) ∷ [];
      effects = c.effects;
    }) refl refl

under_effects : (m : Moment) (r : Request) (t : Transaction) (s : Option Superior) (c : Change Transaction) → (request_under m r t s c).effects ≡ c.effects
under_effects m r t None c = refl
under_effects m r t (Some s) c = stands_effects m r t s t.phase c

left_effects : (m : Moment) (r : Request) (t : Option Transaction) (c : Change Transaction) → (request_left m r t c).effects ≡ c.effects
left_effects m r None c = refl
left_effects m r (Some t) c = under_effects m r t t.superior c

pub answer_effects : (m : Moment) (r : Option Request) (c : Change Transaction) → (answer_request m r c).effects ≡ c.effects
answer_effects m None c = refl
answer_effects m (Some r) c = left_effects m r c.item c

-- what is found by an id has it
pub found_id : {A : Type 0} (key : A → Numbers) (id : Numbers) (xs : List A) (x : A) → find_by key id xs ≡ Some x → key x ≡ id
found_id key id [] x e = absurd cc
found_id key id (y ∷ ys) x e = by_id (λ f. found_id key id ys x f) (is_id (key y) id) refl e
  where
    by_id : (find_by key id ys ≡ Some x → key x ≡ id) → (b : Bool) → is_id (key y) id ≡ b → (if b then Some y else find_by key id ys) ≡ Some x → key x ≡ id
    by_id rest true f e = let same : y ≡ x = cc in subst (λ z. key z ≡ id) same (same_id (key y) id f)
    by_id rest false f e = rest e

pub same_kind : (k l : Kind) → is_kind k l ≡ true → k ≡ l
same_kind kinds.Durable kinds.Durable e = refl
same_kind kinds.Durable kinds.Volatile e = absurd cc
same_kind kinds.Volatile kinds.Durable e = absurd cc
same_kind kinds.Volatile kinds.Volatile e = refl

pub in_front : {A : Type 0} (x : A) (xs ys : List A) → IsIn x xs → IsIn x (xs ++ ys)
in_front x [] ys h = absurd h
in_front x (y ∷ xs) ys (inl e) = inl e
in_front x (y ∷ xs) ys (inr h) = inr (in_front x xs ys h)
