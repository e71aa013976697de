-- Bytes that are refused, or that ask for what is due, are no message.
use Rattle.std.specs.Prelude.{ℕ, List, ◌≡◌, Bool, true, false, Result, Ok, Err}
use Rattle.std.proofs.Common.{refl, subst}
use Rattle.at_base.specs.declared.event.Arrived.{Arrived}
use Rattle.at_base.specs.declared.event.Event.TheVariants as events
use Rattle.deliveries.specs.ByteNets.{IsNoMessage}
use Rattle.envelope_cmd.specs.RequestMeanings.{IsTold, SayOneThing}
use Rattle.http_post.specs.Laws.{AskOneThing}
use Rattle.http_post.specs.Requests.{Asked, Asks}
use Rattle.node_at.specs.Meanings.{Meaning, Means, Says, is_answered, is_refused, is_request, request, says, says_elsewhere, says_nothing, tick_path, ticks}
use Rattle.node_at.specs.Meanings.Meaning.{Refused, Steps}
use Rattle.node_at.specs.Roles.{serves}
use Rattle.node_at.specs.declared.role.Role.TheVariants.{All}
use Rattle.wire_msgs.specs.Arrivals.{Arrives}
use Rattle.wire_msgs.specs.declared.decode.Arrival.{Arrival}
use Rattle.wire_msgs.specs.declared.refusal.Refusal.{Refusal}
use Rattle.wire_msgs.specs.declared.refusal.Refusal.TheVariants as faults
use Rattle.memory_net.specs.NoMessages.{AreNoMessages}

told : (r : Refusal) → is_answered r ≡ true → IsTold (Err r)
told faults.TooLong e = (_, refl)
told (faults.NotUtf8 place) e = (_, refl)
told faults.NotSpelled e = (_, refl)
told faults.TooDeep e = (_, refl)
told faults.TooMany e = (_, refl)
told faults.VersionMismatch e = (_, refl)
told faults.NotEnvelope e = (_, refl)
told (faults.MustUnderstand name) e = (_, refl)
told (faults.MissingHeader name) e = (_, refl)
told (faults.InvalidHeader name) e = (_, refl)
told faults.NoTarget e = (_, refl)
told faults.Action e = (_, refl)
told (faults.Parameters name) e = (_, refl)
told faults.NoMemory e = absurd cc

no_both : {A E : Type 0} (x : A) (y : E) → ◌≡◌ {A = Result A E} (Ok x) (Err y) → ⊥
no_both x y e = absurd cc

same_answer : {A E : Type 0} (x y : A) → ◌≡◌ {A = Result A E} (Ok x) (Ok y) → x ≡ y
same_answer x y e = cc

served : (b : Bool) → b ≡ true → b ≡ false → ⊥
served b h k = absurd cc

-- what bytes that are a message bring
record Brought (bytes : List ℕ) : Type 0 where
  path : List ℕ
  body : List ℕ
  asks : Asks bytes (request path body)
  other : path ≡ tick_path → ⊥
  arrival : Arrival
  arrives : Arrives body path arrival

said_at : (bytes path body : List ℕ) (m : Meaning) (a : Arrived) → Asks bytes (request path body) → Says All path body m → m ≡ Steps (events.Arrived a) → Brought bytes
said_at bytes path body _ a asks (ticks e) f = absurd cc
said_at bytes path body _ a asks (says_nothing r ne t h) f = absurd cc
said_at bytes path body _ a asks (says_elsewhere x ne h s) f = absurd cc
said_at bytes path body _ a asks (says x ne h s) f = record { path = path; body = body; asks = asks; other = ne; arrival = x; arrives = h }

brought : (bytes : List ℕ) (m : Meaning) (a : Arrived) → Means All bytes m → m ≡ Steps (events.Arrived a) → Brought bytes
brought bytes _ a (is_refused r h) f = absurd cc
brought bytes m a (is_request path body h s) f = said_at bytes path body m a h s f

abbrev IsQuiet : Meaning → Type 0
IsQuiet (Refused status text) = Unit {0}
IsQuiet (Steps events.Tick) = Unit {0}
IsQuiet other = ⊥

module _ (ask : AskOneThing) (one : SayOneThing) where
  not_said : (path body : List ℕ) (m : Meaning) → Says All path body m → IsQuiet m → (path ≡ tick_path → ⊥) → (arrival : Arrival) → Arrives body path arrival → ⊥
  not_said path body _ (ticks e) quiet other arrival arrives = other e
  not_said path body _ (says_nothing r ne t h) quiet other arrival arrives = no_both arrival r (one body path (Ok arrival) (Err r) arrives h tt (told r t))
  not_said path body _ (says_elsewhere x ne h s) quiet other arrival arrives = served (serves All x.target) refl s
  not_said path body _ (says x ne h s) quiet other arrival arrives = absurd quiet

  not_meant : (bytes : List ℕ) (m : Meaning) → Means All bytes m → IsQuiet m → Brought bytes → ⊥
  not_meant bytes _ (is_refused r h) quiet b = no_both (record { path = b.path; body = b.body }) r (ask bytes (request b.path b.body) (Err r) b.asks h)
  not_meant bytes m (is_request path body h s) quiet b =
      let same = same_answer {A = Asked} (record { path = path; body = body }) (record { path = b.path; body = b.body }) (ask bytes (request path body) (request b.path b.body) h b.asks) in
      not_said b.path b.body m (subst (λ x. Says All x.path x.body m) same s) quiet b.other b.arrival b.arrives

  quiet : (bytes : List ℕ) (m : Meaning) → Means All bytes m → IsQuiet m → IsNoMessage All bytes
  quiet bytes m means is a other = not_meant bytes m means is (brought bytes (Steps (events.Arrived a)) a other refl)

  pub are_no_messages : AreNoMessages
  are_no_messages = record {
    refused = λ bytes status text means. quiet bytes (Refused status text) means tt;
    ticks = λ bytes means. quiet bytes (Steps events.Tick) means tt;
  }
