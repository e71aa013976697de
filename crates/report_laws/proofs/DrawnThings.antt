-- Bytes mean one thing to a node in all roles, and so they draw one thing.
use Rattle.std.proofs.Common.{◌≡◌, refl, ap, subst, ℕ, List, Option, None, Bool, true, false, Result, Ok, Err}
use Rattle.at_base.specs.declared.event.Event.TheVariants as events
use Rattle.arrivals.specs.BookArrivals.{reaches}
use Rattle.wire_msgs.specs.declared.refusal.Refusal.{Refusal}
use Rattle.wire_msgs.specs.declared.refusal.Refusal.TheVariants as faults
use Rattle.wire_posts.specs.Faults.{refusal_status, refusal_text}
use Rattle.envelope_cmd.specs.RequestMeanings.{IsTold, SayOneThing}
use Rattle.http_post.specs.Laws.{AskOneThing, WaitOrNot}
use Rattle.http_post.specs.Requests.{Asked}
use Rattle.node_at.specs.Meanings.{Meaning, Means, Says, is_answered, is_refused, is_request, request, says, says_elsewhere, says_nothing, status_of, ticks}
use Rattle.node_at.specs.Meanings.Meaning.{Refused, Steps}
use Rattle.node_at.specs.Roles.{serves}
use Rattle.node_at.specs.declared.role.Role.TheVariants.{All}
use Rattle.raw_requests.specs.declared.Drawn.TheVariants as drawns
use Rattle.report_laws.specs.Laws.{DrawOneThing}

told : (r : Refusal) → is_answered r ≡ true → IsTold (Err r)
told faults.TooLong e = (_, refl)
told (faults.NotUtf8 place) e = (_, refl)
told faults.NotSpelled e = (_, refl)
told faults.TooDeep e = (_, refl)
told faults.TooMany e = (_, refl)
told faults.VersionMismatch e = (_, refl)
told faults.NotEnvelope e = (_, refl)
told (faults.MustUnderstand name) e = (_, refl)
told (faults.MissingHeader name) e = (_, refl)
told (faults.InvalidHeader name) e = (_, refl)
told faults.NoTarget e = (_, refl)
told faults.Action e = (_, refl)
told (faults.Parameters name) e = (_, refl)
told faults.NoMemory e = absurd cc

same_refusal : {A E : Type 0} (x y : E) → ◌≡◌ {A = Result A E} (Err x) (Err y) → x ≡ y
same_refusal x y e = cc

same_answer : {A E : Type 0} (x y : A) → ◌≡◌ {A = Result A E} (Ok x) (Ok y) → x ≡ y
same_answer x y e = cc

no_both : {A E : Type 0} (x : A) (y : E) → ◌≡◌ {A = Result A E} (Ok x) (Err y) → ⊥
no_both x y e = absurd cc

apart : (b : Bool) → b ≡ true → b ≡ false → ⊥
apart b h k = absurd cc

one_says : SayOneThing → (path body : List ℕ) (m n : Meaning) → Says All path body m → Says All path body n → m ≡ n
one_says one path body _ _ (ticks e) (ticks f) = refl
one_says one path body _ _ (ticks e) (says_nothing r ne t h) = absurd (ne e)
one_says one path body _ _ (ticks e) (says_elsewhere a ne h s) = absurd (ne e)
one_says one path body _ _ (ticks e) (says a ne h s) = absurd (ne e)
one_says one path body _ _ (says_nothing r ne t h) (ticks e) = absurd (ne e)
one_says one path body _ _ (says_nothing r ne t h) (says_nothing q nor u k) =
    ap (λ x. Refused (refusal_status x) (refusal_text x)) (same_refusal r q (one body path (Err r) (Err q) h k (told r t) (told q u)))
one_says one path body _ _ (says_nothing r ne t h) (says_elsewhere a nor k s) = absurd (no_both a r (one body path (Ok a) (Err r) k h tt (told r t)))
one_says one path body _ _ (says_nothing r ne t h) (says a nor k s) = absurd (no_both a r (one body path (Ok a) (Err r) k h tt (told r t)))
one_says one path body _ _ (says_elsewhere a ne h s) (ticks e) = absurd (ne e)
one_says one path body _ _ (says_elsewhere a ne h s) (says_nothing r nor t k) = absurd (no_both a r (one body path (Ok a) (Err r) h k tt (told r t)))
one_says one path body _ _ (says_elsewhere a ne h s) (says_elsewhere b nor k t) = refl
one_says one path body _ _ (says_elsewhere a ne h s) (says b nor k t) =
    let same = same_answer a b (one body path (Ok a) (Ok b) h k tt tt) in
    absurd (apart (serves All b.target) t (subst (λ x. serves All x.target ≡ false) same s))
one_says one path body _ _ (says a ne h s) (ticks e) = absurd (ne e)
one_says one path body _ _ (says a ne h s) (says_nothing r nor t k) = absurd (no_both a r (one body path (Ok a) (Err r) h k tt (told r t)))
one_says one path body _ _ (says a ne h s) (says_elsewhere b nor k t) =
    let same = same_answer a b (one body path (Ok a) (Ok b) h k tt tt) in
    absurd (apart (serves All b.target) (subst (λ x. serves All x.target ≡ true) same s) t)
one_says one path body _ _ (says a ne h s) (says b nor k t) =
    ap (λ x. Steps (events.Arrived (reaches x))) (same_answer a b (one body path (Ok a) (Ok b) h k tt tt))

one_means : AskOneThing → SayOneThing → (input : List ℕ) (m n : Meaning) → Means All input m → Means All input n → m ≡ n
one_means ask one input _ _ (is_refused r h) (is_refused q k) =
    ap (λ x. Refused (status_of x) None) (same_refusal r q (ask input (Err r) (Err q) h k))
one_means ask one input _ _ (is_refused r h) (is_request path body k s) = absurd (no_both (record { path = path; body = body }) r (ask input (request path body) (Err r) k h))
one_means ask one input _ _ (is_request path body h s) (is_refused r k) = absurd (no_both (record { path = path; body = body }) r (ask input (request path body) (Err r) h k))
one_means ask one input m n (is_request path body h s) (is_request way content k t) =
    let same = same_answer {A = Asked} (record { path = path; body = body }) (record { path = way; body = content }) (ask input (request path body) (request way content) h k) in
    one_says one way content m n (subst (λ x. Says All x.path x.body m) same s) t

same_status : (a b : ℕ) (x y : Option (List ℕ)) → Refused a x ≡ Refused b y → a ≡ b
same_status a b x y e = cc

abbrev IsStep : Meaning → Type 0
IsStep (Steps event) = Unit {0}
IsStep other = ⊥

no_step : (a : ℕ) (x : Option (List ℕ)) (m : Meaning) → m ≡ Refused a x → IsStep m → ⊥
no_step a x m e h = subst IsStep e h

pub draw_one : AskOneThing → WaitOrNot → SayOneThing → DrawOneThing
draw_one ask wait one bytes drawns.Forged drawns.Forged h k = refl
draw_one ask wait one bytes drawns.Forged (drawns.Refused status waits) (event, h) ((text, k), w) =
    absurd (no_step status text (Steps event) (one_means ask one bytes (Steps event) (Refused status text) h k) tt)
draw_one ask wait one bytes (drawns.Refused status waits) drawns.Forged ((text, k), w) (event, h) =
    absurd (no_step status text (Steps event) (one_means ask one bytes (Steps event) (Refused status text) h k) tt)
draw_one ask wait one bytes (drawns.Refused a v) (drawns.Refused b w) ((x, h), p) ((y, k), q) =
    let s = same_status a b x y (one_means ask one bytes (Refused a x) (Refused b y) h k) in
    let t = wait bytes v w p q in
    λ i. drawns.Refused (s i) (t i)
