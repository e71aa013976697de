-- What a connection was heard to ask.
use Rattle.std.proofs.Common.{ℕ, List, [], ◌≡◌, ◌<◌, length, ◌⊎◌, Bool, true, false, Option, Some, None, Result, Ok, Err, refl, sym, ◌∙◌, ap, subst, true≢false, if◌then◌else◌, IsTrue}
use Rattle.std.specs.Prelude.{IfSome, option_map}
use Rattle.at_base.specs.declared.event.Event.TheVariants as events
use Rattle.arrivals.specs.BookArrivals.{reaches}
use Rattle.http_post.specs.Causes.{UnlessLink}
use Rattle.http_post.specs.Connections.{HasCome, coming, left}
use Rattle.http_post.specs.Conversations.{IsAnswered, IsSaid, Says as Speaks, Waits}
use Rattle.http_post.specs.RawBytes.{IsFault}
use Rattle.http_post.specs.Requests.{Asks}
use Rattle.http_post.specs.OutBytes.{has_reason}
use Rattle.http_post.specs.declared.refusal.HttpRefusal.{HttpRefusal}
use Rattle.http_post.specs.declared.refusal.HttpRefusal.TheVariants as refusals
use Rattle.model_laws.specs.BookBounds.{IsSoundEvent}
use Rattle.site_model.specs.Told.{Link, Made, Told}
use Rattle.wire_msgs.specs.Arrivals.{Arrives, IsRefused}
use Rattle.wire_msgs.specs.WholeMessages.{IsWhole}
use Rattle.wire_msgs.specs.declared.decode.Arrival.{Arrival}
use Rattle.wire_msgs.specs.declared.refusal.Refusal.{Refusal}
use Rattle.wire_msgs.specs.declared.refusal.Refusal.TheVariants as faults
use Rattle.wire_posts.specs.Faults.{refusal_status, refusal_text}
use Rattle.node_at.specs.ConnectionRequests.{at_target, meaning_at}
use Rattle.node_at.specs.Meanings.{Hears, IsFit, Meaning, Means, Says, is_answered, open_input, request, status_of, tick_path}
use Rattle.node_at.specs.Meanings.Meaning.{Refused, Steps, Lost, Unread}
use Rattle.node_at.specs.Meanings.Means.{is_refused, is_request}
use Rattle.node_at.specs.Meanings.Says.{says, says_elsewhere, says_nothing, ticks}
use Rattle.node_at.specs.Roles.{serves}
use Rattle.node_at.specs.Turns.{IsLine, is_heard}
use Rattle.node_at.specs.declared.role.Role.{Role}

pub ticks_so : (role : Role) (path body : List ℕ) → path ≡ tick_path → Says role path body (Steps events.Tick)
ticks_so role path body e = ticks e

taken : (b : Bool) (role : Role) (path body : List ℕ) (arrival : Arrival) → serves role arrival.target ≡ b → (path ≡ tick_path → ⊥) → Arrives body path arrival
    → Says role path body (if b then Steps (events.Arrived (reaches arrival)) else Refused 404 None)
taken true role path body arrival e other a = says arrival other a e
taken false role path body arrival e other a = says_elsewhere arrival other a e

pub says_so : (role : Role) (path body : List ℕ) (arrival : Arrival) (m : Meaning) → m ≡ at_target role arrival → (path ≡ tick_path → ⊥) → Arrives body path arrival → Says role path body m
says_so role path body arrival m e other a = subst (Says role path body) (sym e) (taken (serves role arrival.target) role path body arrival refl other a)

pub says_nothing_so : (role : Role) (path body : List ℕ) (refusal : Refusal) (m : Meaning) → m ≡ Refused (refusal_status refusal) (refusal_text refusal) → (path ≡ tick_path → ⊥)
    → is_answered refusal ≡ true → IsRefused body path refusal → Says role path body m
says_nothing_so role path body refusal m e other is a = subst (Says role path body) (sym e) (says_nothing refusal other is a)

fit_taken : (b : Bool) (arrival : Arrival) → IsSoundEvent (events.Arrived (reaches arrival)) → IsFit (if b then Steps (events.Arrived (reaches arrival)) else Refused 404 None)
fit_taken true arrival h = (h, tt)
fit_taken false arrival h = refl

pub fit_message : (role : Role) (arrival : Arrival) (m : Meaning) → m ≡ at_target role arrival → IsWhole arrival
    → ((a : Arrival) → IsWhole a → IsSoundEvent (events.Arrived (reaches a))) → IsFit m
fit_message role arrival m e h k = subst IsFit (sym e) (fit_taken (serves role arrival.target) arrival (k arrival h))

has_status : (refusal : Refusal) → IsTrue (has_reason (refusal_status refusal))
has_status faults.TooLong = refl
has_status (faults.NotUtf8 place) = refl
has_status faults.NotSpelled = refl
has_status faults.TooDeep = refl
has_status faults.TooMany = refl
has_status faults.VersionMismatch = refl
has_status faults.NotEnvelope = refl
has_status (faults.MustUnderstand name) = refl
has_status (faults.MissingHeader name) = refl
has_status (faults.InvalidHeader name) = refl
has_status faults.NoTarget = refl
has_status faults.Action = refl
has_status (faults.Parameters name) = refl
has_status faults.NoMemory = refl

pub fit_refusal : (refusal : Refusal) (m : Meaning) → m ≡ Refused (refusal_status refusal) (refusal_text refusal) → IsFit m
fit_refusal refusal m e = subst IsFit (sym e) (has_status refusal)

-- bytes that were read mean something
abbrev IsUnread : Meaning → Type 0
IsUnread Unread = ⊥
IsUnread other = Unit {0}

said_something : (role : Role) (path body : List ℕ) (m : Meaning) → Says role path body m → IsUnread m
said_something role path body m (ticks e) = tt
said_something role path body m (says_nothing refusal other is a) = tt
said_something role path body m (says_elsewhere arrival other a e) = tt
said_something role path body m (says arrival other a e) = tt

means_something : (role : Role) (input : List ℕ) (m : Meaning) → Means role input m → IsUnread m
means_something role input m (is_refused refusal a) = tt
means_something role input m (is_request path body a k) = said_something role path body m k

-- what its bytes are, where it tells them
heard : (role : Role) (input : Option (List ℕ)) (m : Meaning) → ((bytes : List ℕ) → input ≡ Some bytes → Means role bytes m) → Hears role input m
heard role None m h = tt
heard role (Some input) (Refused status text) h = h input refl
heard role (Some input) (Steps event) h = h input refl
heard role (Some input) Lost h = tt
heard role (Some input) Unread h = absurd (means_something role input Unread (h input refl))

lost_heard : (role : Role) (input : Option (List ℕ)) → Hears role input Lost
lost_heard role None = tt
lost_heard role (Some input) = tt

unread_heard : (role : Role) (input : Option (List ℕ)) → ((bytes : List ℕ) → input ≡ Some bytes → 0 < length bytes) → Hears role input Unread
unread_heard role None h = tt
unread_heard role (Some input) h = h input refl

abbrev the : List ℕ → Option (List ℕ) → List ℕ
the d None = d
the d (Some x) = x

abbrev IsNone : Option (List ℕ) → Type 0
IsNone None = Unit {0}
IsNone (Some x) = ⊥

opened : (link : Option Link) (bytes : List ℕ) (P : List ℕ → Type 0) → open_input link ≡ Some bytes → ((l : Link) → link ≡ Some l → P l.open_bytes) → P bytes
opened None bytes P e h = absurd (subst IsNone e tt)
opened (Some l) bytes P e h = subst P (ap (the []) e) (h l refl)

pub came_so : (told : Told) → HasCome (left told) → (bytes : List ℕ) → open_input told.link ≡ Some bytes → 0 < length bytes
unfolding left
came_so told h bytes e = by told.link h e where
  by : (link : Option Link) → IfSome (option_map coming link) (λ input. 0 < length input) → open_input link ≡ Some bytes → 0 < length bytes
  by None k f = absurd (subst IsNone f tt)
  by (Some l) k f = subst (λ z. 0 < length z) (ap (the []) f) k

-- there was no memory for what a request says
pub unread_so : (role : Role) (told : Told) (m : Meaning) → m ≡ Unread → HasCome (left told) → Hears role (open_input told.link) m
unread_so role told m e h = subst (Hears role (open_input told.link)) (sym e) (unread_heard role (open_input told.link) (came_so told h))

pub request_heard : (role : Role) (link : Option Link) (path body : List ℕ) (m : Meaning) → ((l : Link) → link ≡ Some l → Asks l.open_bytes (request path body)) → Says role path body m
    → Hears role (open_input link) m
request_heard role link path body m h k =
    heard role (open_input link) m (λ bytes e. is_request path body (opened link bytes (λ z. Asks z (request path body)) e h) k)

fault_means : (role : Role) (bytes : List ℕ) (refusal : HttpRefusal) → Asks bytes (Err refusal) → Means role bytes (Refused (status_of refusal) None)
fault_means role bytes refusal h = is_refused refusal h

pub fault_heard : (role : Role) (link : Option Link) (refusal : HttpRefusal) (m : Meaning) → m ≡ meaning_at refusal
    → IsFault refusal (λ r. (l : Link) → link ≡ Some l → Asks l.open_bytes (Err r)) → (refusal ≡ refusals.NoMemory → (bytes : List ℕ) → open_input link ≡ Some bytes → 0 < length bytes)
    → Hears role (open_input link) m
fault_heard role link refusal m e h came = subst (Hears role (open_input link)) (sym e) (by refusal h came) where
  one : (r : HttpRefusal) → ((l : Link) → link ≡ Some l → Asks l.open_bytes (Err r)) → Hears role (open_input link) (Refused (status_of r) None)
  one r k = heard role (open_input link) (Refused (status_of r) None) (λ bytes f. is_refused r (opened link bytes (λ z. Asks z (Err r)) f k))

  by : (r : HttpRefusal) → IsFault r (λ x. (l : Link) → link ≡ Some l → Asks l.open_bytes (Err x)) → (r ≡ refusals.NoMemory → (bytes : List ℕ) → open_input link ≡ Some bytes → 0 < length bytes)
      → Hears role (open_input link) (meaning_at r)
  by refusals.BadRequest k some = one refusals.BadRequest k
  by refusals.MethodNotAllowed k some = one refusals.MethodNotAllowed k
  by refusals.LengthRequired k some = one refusals.LengthRequired k
  by refusals.ContentTooLarge k some = one refusals.ContentTooLarge k
  by refusals.UnsupportedMediaType k some = one refusals.UnsupportedMediaType k
  by refusals.Link k some = lost_heard role (open_input link)
  by refusals.NoMemory k some = unread_heard role (open_input link) (some refl)

pub fit_fault : (refusal : HttpRefusal) (m : Meaning) → m ≡ meaning_at refusal → IsFit m
fit_fault refusal m e = subst IsFit (sym e) (by refusal) where
  by : (r : HttpRefusal) → IsFit (meaning_at r)
  by refusals.BadRequest = refl
  by refusals.MethodNotAllowed = refl
  by refusals.LengthRequired = refl
  by refusals.ContentTooLarge = refl
  by refusals.UnsupportedMediaType = refl
  by refusals.Link = tt
  by refusals.NoMemory = tt

-- only a connection that failed is lost
abbrev IsLost : Meaning → Type 0
IsLost Lost = Unit {0}
IsLost other = ⊥

said_lost : (role : Role) (path body : List ℕ) (m : Meaning) → Says role path body m → m ≡ Lost → ⊥
said_lost role path body m (ticks e) f = subst IsLost (sym f) tt
said_lost role path body m (says_nothing refusal other is a) f = subst IsLost (sym f) tt
said_lost role path body m (says_elsewhere arrival other a e) f = subst IsLost (sym f) tt
said_lost role path body m (says arrival other a e) f = subst IsLost (sym f) tt

pub not_lost : {P : Type 0} (role : Role) (path body : List ℕ) (m : Meaning) → Says role path body m → m ≡ Lost → P
not_lost role path body m h e = absurd (said_lost role path body m h e)

pub lost_by : {P : Type 0} {T : Type 0} (refusal : HttpRefusal) (result : Result T HttpRefusal) (m : Meaning) → result ≡ Err refusal → m ≡ meaning_at refusal → (result ≡ Err refusals.Link → P) → m ≡ Lost → P
lost_by {P} refusal result m e f k g = k (e ∙ ap Err (by refusal (sym f ∙ g))) where
  by : (r : HttpRefusal) → meaning_at r ≡ Lost → r ≡ refusals.Link
  by refusals.Link h = refl
  by refusals.BadRequest h = absurd (subst IsLost (sym h) tt)
  by refusals.MethodNotAllowed h = absurd (subst IsLost (sym h) tt)
  by refusals.LengthRequired h = absurd (subst IsLost (sym h) tt)
  by refusals.ContentTooLarge h = absurd (subst IsLost (sym h) tt)
  by refusals.UnsupportedMediaType h = absurd (subst IsLost (sym h) tt)
  by refusals.NoMemory h = absurd (subst IsLost (sym h) tt)

-- where no receive failed
pub received_by : {P : Type 0} (refusal : HttpRefusal) (m : Meaning) → m ≡ meaning_at refusal → UnlessLink refusal P → (m ≡ Lost → ⊥) → P
received_by {P} refusal m e h not_so = by refusal e h where
  by : (r : HttpRefusal) → m ≡ meaning_at r → UnlessLink r P → P
  by refusals.Link f k = absurd (not_so f)
  by refusals.BadRequest f k = k
  by refusals.MethodNotAllowed f k = k
  by refusals.LengthRequired f k = k
  by refusals.ContentTooLarge f k = k
  by refusals.UnsupportedMediaType f k = k
  by refusals.NoMemory f k = k

-- the interim line
line_so : {T : Type 0} (result : Result T HttpRefusal) (old new : Told) (made : List Made) (b : Bool) → (b ≡ true → IsAnswered result) → Speaks result old new made → IsLine (open_input old.link) b old new made
line_so result old new made b answered h = record {
  once = h.once;
  asked = λ bytes e. opened old.link bytes (λ z. (made ≡ []) ⊎ Waits z true) e h.asked;
  exact = λ is bytes e. opened old.link bytes (λ z. (waits : Bool) × (Waits z waits × IsSaid waits old.counts.link new.counts.link made)) e (h.exact (answered is));
}

pub line_request : {T : Type 0} (result : Result T HttpRefusal) (x : T) (old new : Told) (made : List Made) (b : Bool) → result ≡ Ok x → Speaks result old new made → IsLine (open_input old.link) b old new made
line_request result x old new made b e h = line_so result old new made b (λ is. subst IsAnswered (sym e) tt) h

pub line_fault : {T : Type 0} (result : Result T HttpRefusal) (refusal : HttpRefusal) (old new : Told) (made : List Made) (m : Meaning) → result ≡ Err refusal → m ≡ meaning_at refusal
    → Speaks result old new made → IsLine (open_input old.link) (is_heard m) old new made
line_fault result refusal old new made m e f h = line_so result old new made (is_heard m) (λ is. subst IsAnswered (sym e) (by refusal (ap is_heard (sym f) ∙ is))) h where
  by : (r : HttpRefusal) → is_heard (meaning_at r) ≡ true → IsAnswered {T = Unit {0}} (Err r)
  by refusals.BadRequest k = tt
  by refusals.MethodNotAllowed k = tt
  by refusals.LengthRequired k = tt
  by refusals.ContentTooLarge k = tt
  by refusals.UnsupportedMediaType k = tt
  by refusals.Link k = absurd (true≢false (sym k))
  by refusals.NoMemory k = absurd (true≢false (sym k))
