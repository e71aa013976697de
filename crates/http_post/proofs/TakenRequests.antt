-- What taking a request came to.
use Rattle.std.proofs.Common.{ℕ, List, Option, Some, [], ◌≡◌, ◌≤◌, ◌⊎◌, inl, inr, Bool, true, false, Result, Ok, Err, length, drop, refl, sym, ap, subst, ◌∙◌, arith}
use Rattle.std.specs.Prelude.{option_map}
use Rattle.httparse.specs.Grammar.{print_request}
use Rattle.site_model.specs.Site.{Counts}
use Rattle.site_model.specs.Told.{Link, Made, Told}
use Rattle.http_post.specs.Causes.{HasLinkCause}
use Rattle.http_post.specs.Connections.{Stays, coming, left}
use Rattle.http_post.specs.Conversations.{HasCauses, Hears, IsOfRequest, IsHeard, IsRefused, IsSaid, Says, Waits, said, unsaid, is_framed}
use Rattle.http_post.specs.RawBytes.{IsFault, IsRaw}
use Rattle.http_post.specs.Requests.{Asked, Asks, Body, asking, framed as asks_framed}
use Rattle.http_post.specs.declared.framing.Framing.{Framing}
use Rattle.http_post.specs.declared.refusal.HttpRefusal.{HttpRefusal}
use Rattle.http_post.specs.declared.refusal.HttpRefusal.TheVariants.{BadRequest, ContentTooLarge, LengthRequired, Link as NoLink, MethodNotAllowed, NoMemory, UnsupportedMediaType}
use Rattle.http_post.proofs.Conversations.{heard_between, stays_hears, stays_same}
use Rattle.http_post.proofs.RawBytes.{fault_on}

-- the body that was read is the one that was asked for
pub body_asked : (now after : Option (List ℕ)) (path same_path rest body : List ℕ) (framing : Framing) (waits : Bool) → same_path ≡ path → after ≡ now
    → ((raw : List ℕ) → IsRaw after rest raw → Body framing raw (Ok body))
    → (input : List ℕ) → IsHeard input now path framing waits rest → Asks input (Ok (record { path = same_path; body = body }))
body_asked now after path same_path rest body framing waits is same read input h =
    subst (λ z. Asks input (asking z (Ok body))) (sym (is ∙ h.asked))
    (asks_framed h.head h.more framing h.reads h.framed (read (drop (length (print_request h.head)) input) (subst (λ z. IsRaw z rest (drop (length (print_request h.head)) input)) (sym same) h.raw)))

pub body_refused : (now after : Option (List ℕ)) (path rest : List ℕ) (framing : Framing) (waits : Bool) (e : HttpRefusal) → after ≡ now
    → IsFault e (λ r. (raw : List ℕ) → IsRaw after rest raw → Body framing raw (Err r))
    → IsFault e (λ r. (input : List ℕ) → IsHeard input now path framing waits rest → Asks input (Err r))
body_refused now after path rest framing waits e same fault =
    fault_on e (λ r. (raw : List ℕ) → IsRaw after rest raw → Body framing raw (Err r)) (λ r. (input : List ℕ) → IsHeard input now path framing waits rest → Asks input (Err r)) fault
    (λ r read input h.
    asks_framed h.head h.more framing h.reads h.framed (read (drop (length (print_request h.head)) input) (subst (λ z. IsRaw z rest (drop (length (print_request h.head)) input)) (sym same) h.raw)))

link_stays : (a b : Told) → Stays a b → b.counts.link ≡ a.counts.link
link_stays a b h = ap {A = Counts} (λ z. z.link) h.counts

-- behind the body
pub body_hears : (waits : Bool) (a b c : Told) → (made : List Made) × (Hears made a b × IsSaid waits a.counts.link b.counts.link made) → Stays b c
    → (made : List Made) × (Hears made a c × IsSaid waits a.counts.link c.counts.link made)
body_hears waits a b c (made, (h, is)) k = (made, (heard_between made a a b c (stays_same a) h k, subst (λ n. IsSaid waits a.counts.link n made) (sym (link_stays b c k)) is))

-- the same refusal
refused_as : {T V : Type 0} (before now : ℕ) (e : HttpRefusal) → HasLinkCause {T = V} before now (Err e) → HasLinkCause {T = T} before now (Err e)
refused_as {T} {V} before now e cause = record { later = cause.later; failed = (λ is. cause.failed (ap {B = Result V HttpRefusal} again is)); quiet = tt; refused = cause.refused }
  where
    again : Result T HttpRefusal → Result V HttpRefusal
    again (Ok x) = Err e
    again (Err r) = Err r

taken_as : {T V : Type 0} (before now : ℕ) (x : T) (v : V) → HasLinkCause before now (Ok v) → HasLinkCause before now (Ok x)
taken_as {T} {V} before now x v cause = record { later = cause.later; failed = (λ is. absurd (subst IsTaken is tt)); quiet = cause.quiet; refused = tt }
  where
    IsTaken : Result T HttpRefusal → Type 0
    IsTaken (Ok x) = Unit {0}
    IsTaken (Err e) = ⊥

causes_since : {T : Type 0} (result : Result T HttpRefusal) (a b c : Told) → b.counts.receive ≡ a.counts.receive → a.counts.link ≤ b.counts.link → Stays b c
    → HasLinkCause b.counts.receive c.counts.receive result → HasCauses a.counts c.counts result
causes_since result a b c same link k cause = record {
  receive = subst (λ n. HasLinkCause n c.counts.receive result) same cause;
  link = omega (arith, link, link_stays b c k);
}

-- what failed while the body was read
pub body_causes : {T V : Type 0} (x : T) (v : V) (a b c : Told) → b.counts.receive ≡ a.counts.receive → a.counts.link ≤ b.counts.link → Stays b c
    → HasLinkCause b.counts.receive c.counts.receive (Ok v) → HasCauses a.counts c.counts (Ok x)
body_causes x v a b c same link k cause = causes_since (Ok x) a b c same link k (taken_as b.counts.receive c.counts.receive x v cause)

pub body_fails : {T V : Type 0} (e : HttpRefusal) (a b c : Told) → b.counts.receive ≡ a.counts.receive → a.counts.link ≤ b.counts.link → Stays b c
    → HasLinkCause {T = V} b.counts.receive c.counts.receive (Err e) → HasCauses {T = T} a.counts c.counts (Err e)
body_fails e a b c same link k cause = causes_since (Err e) a b c same link k (refused_as b.counts.receive c.counts.receive e cause)

told_left : (a : Told) (l : Link) → a.link ≡ Some l → left a ≡ Some l.open_bytes
unfolding left
told_left a l e = ap (option_map coming) e

-- a request, by what a machine tells of its link
pub asked_of : (a : Told) (now : Option (List ℕ)) (path rest : List ℕ) (framing : Framing) (waits : Bool) (out : Result Asked HttpRefusal)
    → ((input : List ℕ) → left a ≡ Some input → IsHeard input now path framing waits rest)
    → ((input : List ℕ) → IsHeard input now path framing waits rest → Asks input out)
    → (link : Link) → a.link ≡ Some link → Asks link.open_bytes out
asked_of a now path rest framing waits out heard asks link e = asks link.open_bytes (heard link.open_bytes (told_left a link e))

pub faulty_of : (a : Told) (now : Option (List ℕ)) (path rest : List ℕ) (framing : Framing) (waits : Bool) (e : HttpRefusal)
    → ((input : List ℕ) → left a ≡ Some input → IsHeard input now path framing waits rest)
    → IsFault e (λ r. (input : List ℕ) → IsHeard input now path framing waits rest → Asks input (Err r))
    → IsFault e (λ r. (link : Link) → a.link ≡ Some link → Asks link.open_bytes (Err r))
faulty_of a now path rest framing waits e heard fault =
    fault_on e (λ r. (input : List ℕ) → IsHeard input now path framing waits rest → Asks input (Err r)) (λ r. (link : Link) → a.link ≡ Some link → Asks link.open_bytes (Err r)) fault
    (λ r asks. asked_of a now path rest framing waits (Err r) heard asks)

pub refused_of : (a : Told) (e : HttpRefusal) → IsFault e (λ r. (input : List ℕ) → left a ≡ Some input → IsRefused input r)
    → IsFault e (λ r. (link : Link) → a.link ≡ Some link → Asks link.open_bytes (Err r))
refused_of a e fault =
    fault_on e (λ r. (input : List ℕ) → left a ≡ Some input → IsRefused input r) (λ r. (link : Link) → a.link ≡ Some link → Asks link.open_bytes (Err r)) fault
    (λ r h link is. (h link.open_bytes (told_left a link is)).asks)

-- a refusal that is answered isn't a failure of the machine
answered : (e : HttpRefusal) (P : HttpRefusal → Type 0) → IsOfRequest e → IsFault e P → P e
answered NoLink P h k = absurd h
answered NoMemory P h k = absurd h
answered BadRequest P h k = k
answered MethodNotAllowed P h k = k
answered LengthRequired P h k = k
answered ContentTooLarge P h k = k
answered UnsupportedMediaType P h k = k

pub head_refused : {T : Type 0} (a b : Told) (e : HttpRefusal) → Stays a b → IsFault e (λ r. (input : List ℕ) → left a ≡ Some input → IsRefused input r)
    → (made : List Made) × (Hears made a b × Says {T = T} (Err e) a b made)
head_refused a b e h fault = (
  [],
  (
    stays_hears a b h,
    record {
      once = inl refl;
      asked = (λ l is. inl refl);
      exact = (λ real l is. (false, ((answered e (λ r. (input : List ℕ) → left a ≡ Some input → IsRefused input r) real fault l.open_bytes (told_left a l is)).waits, inl refl)));
    },
  ),
)

pub head_causes : {T V : Type 0} (a b : Told) (e : HttpRefusal) → Stays a b → HasLinkCause {T = V} a.counts.receive b.counts.receive (Err e) → HasCauses {T = T} a.counts b.counts (Err e)
head_causes a b e h cause = record { receive = refused_as a.counts.receive b.counts.receive e cause; link = omega (arith, link_stays a b h) }

heard_waits : (input : List ℕ) (now : Option (List ℕ)) (path rest : List ℕ) (framing : Framing) (waits : Bool) → IsHeard input now path framing waits rest → Waits input waits
heard_waits input now path rest framing waits h = subst (Waits input) (sym h.waiting) (is_framed h.head h.more framing h.reads h.framed)

said_once : (waits : Bool) (before now : ℕ) (made : List Made) → IsSaid waits before now made → (made ≡ []) ⊎ ((made ≡ said true) ⊎ (made ≡ unsaid))
said_once true before now made (inl e) = inr (inl e)
said_once true before now made (inr (inl none, rose)) = inl none
said_once true before now made (inr (inr one, rose)) = inr (inr one)
said_once false before now made (inl e) = inl e
said_once false before now made (inr (none, rose)) = absurd none

said_asked : (waits : Bool) (before now : ℕ) (made : List Made) → IsSaid waits before now made → (made ≡ []) ⊎ (waits ≡ true)
said_asked true before now made h = inr refl
said_asked false before now made (inl e) = inl e
said_asked false before now made (inr (none, rose)) = absurd none

pub whole_hears : {T : Type 0} (result : Result T HttpRefusal) (a b c : Told) (path rest : List ℕ) (framing : Framing) (waits : Bool) → Stays a b
    → ((input : List ℕ) → left a ≡ Some input → IsHeard input (left b) path framing waits rest)
    → (made : List Made) × (Hears made b c × IsSaid waits b.counts.link c.counts.link made) → (made : List Made) × (Hears made a c × Says result a c made)
whole_hears result a b c path rest framing waits h heard (made, (k, so)) = (
  made,
  (
    heard_between made a b c c h k (stays_same c),
    record {
      once = said_once waits b.counts.link c.counts.link made so;
      asked = (λ l is. asked l is (said_asked waits b.counts.link c.counts.link made so));
      exact = (λ real l is. (waits, (waits_so l is, subst (λ n. IsSaid waits n c.counts.link made) (link_stays a b h) so)));
    },
  ),
)
  where
    waits_so : (l : Link) → a.link ≡ Some l → Waits l.open_bytes waits
    waits_so l is = heard_waits l.open_bytes (left b) path rest framing waits (heard l.open_bytes (told_left a l is))

    asked : (l : Link) → a.link ≡ Some l → (made ≡ []) ⊎ (waits ≡ true) → (made ≡ []) ⊎ Waits l.open_bytes true
    asked l is (inl none) = inl none
    asked l is (inr awaited) = inr (subst (Waits l.open_bytes) awaited (waits_so l is))

pub whole_causes : {T V : Type 0} (result : Result T HttpRefusal) (x : V) (a b c : Told) → Stays a b → HasLinkCause a.counts.receive b.counts.receive (Ok x)
    → HasCauses b.counts c.counts result → HasCauses a.counts c.counts result
whole_causes result x a b c h cause k = record {
  receive = subst (λ n. HasLinkCause n c.counts.receive result) cause.quiet k.receive;
  link = omega (arith, k.link, link_stays a b h);
}
