-- Bytes mean one thing to a node.
use Rattle.std.specs.Prelude.{ℕ, List, ◌≡◌, ◌⊎◌, None, Bool, true, Result, Ok, Err, if◌then◌else◌}
use Rattle.std.proofs.Common.{refl, sym, ap, subst, ◌∙◌, inl, inr}
use Rattle.arrivals.specs.BookArrivals.{reaches}
use Rattle.at_base.specs.declared.event.Event.TheVariants as events
use Rattle.envelope_cmd.specs.RequestMeanings.{IsTold, SayOneThing}
use Rattle.envelope_cmd.specs.RequestMeanings.{Says as SaysAt}
use Rattle.http_post.specs.Laws.{AskOneThing}
use Rattle.http_post.specs.Requests.{Asked, Asks}
use Rattle.http_post.specs.declared.refusal.HttpRefusal.{HttpRefusal}
use Rattle.node_at.specs.Meanings.{Meaning, Means, Says, is_answered, is_refused, is_request, request, says, says_elsewhere, says_nothing, status_of, tick_path, ticks}
use Rattle.node_at.specs.Meanings.Meaning.{Refused, Steps}
use Rattle.node_at.specs.Roles.{serves}
use Rattle.node_at.specs.declared.role.Role.{Role}
use Rattle.wire_msgs.specs.declared.decode.Arrival.{Arrival}
use Rattle.wire_msgs.specs.declared.refusal.Refusal.{Refusal}
use Rattle.wire_msgs.specs.declared.refusal.Refusal.TheVariants as faults
use Rattle.wire_posts.specs.Faults.{refusal_status, refusal_text}
use Rattle.carried_meanings.specs.CarriedMeanings.{MeanOneThing}

told : (r : Refusal) → is_answered r ≡ true → IsTold (Err r)
told faults.TooLong e = (_, refl)
told (faults.NotUtf8 place) e = (_, refl)
told faults.NotSpelled e = (_, refl)
told faults.TooDeep e = (_, refl)
told faults.TooMany e = (_, refl)
told faults.VersionMismatch e = (_, refl)
told faults.NotEnvelope e = (_, refl)
told (faults.MustUnderstand name) e = (_, refl)
told (faults.MissingHeader name) e = (_, refl)
told (faults.InvalidHeader name) e = (_, refl)
told faults.NoTarget e = (_, refl)
told faults.Action e = (_, refl)
told (faults.Parameters name) e = (_, refl)
told faults.NoMemory e = absurd cc

-- what a body says at a path is a meaning to a node of a role

abbrev taken : Bool → Arrival → Meaning
taken served a = if served then Steps (events.Arrived (reaches a)) else Refused 404 None

abbrev pub meaning_of : Role → Result Arrival Refusal → Meaning
meaning_of role (Ok a) = taken (serves role a.target) a
meaning_of role (Err r) = Refused (refusal_status r) (refusal_text r)

pub record Tells (role : Role) (path body : List ℕ) (m : Meaning) : Type 0 where
  pub said : Result Arrival Refusal
  pub says : SaysAt body path said
  pub told : IsTold said
  pub is : m ≡ meaning_of role said

pub tells : (role : Role) (path body : List ℕ) (m : Meaning) → Says role path body m → (path ≡ tick_path → ⊥) → Tells role path body m
tells role path body _ (ticks e) other = absurd (other e)
tells role path body _ (says_nothing r ne t h) other = record { said = Err r; says = h; told = told r t; is = refl }
tells role path body _ (says_elsewhere a ne h s) other = record { said = Ok a; says = h; told = tt; is = ap (λ b. taken b a) (sym s) }
tells role path body _ (says a ne h s) other = record { said = Ok a; says = h; told = tt; is = ap (λ b. taken b a) (sym s) }

only_tick : (role : Role) (path body : List ℕ) (m : Meaning) → Says role path body m → path ≡ tick_path → m ≡ Steps events.Tick
only_tick role path body _ (ticks e) at = refl
only_tick role path body _ (says_nothing r ne t h) at = absurd (ne at)
only_tick role path body _ (says_elsewhere a ne h s) at = absurd (ne at)
only_tick role path body _ (says a ne h s) at = absurd (ne at)

place : (role : Role) (path body : List ℕ) (m : Meaning) → Says role path body m → (path ≡ tick_path) ⊎ (path ≡ tick_path → ⊥)
place role path body _ (ticks e) = inl e
place role path body _ (says_nothing r ne t h) = inr ne
place role path body _ (says_elsewhere a ne h s) = inr ne
place role path body _ (says a ne h s) = inr ne

module _ (one : SayOneThing) (role : Role) where
  one_told : (path body : List ℕ) (m n : Meaning) → Tells role path body m → Tells role path body n → m ≡ n
  one_told path body m n h k = h.is ∙ ap (meaning_of role) (one body path h.said k.said h.says k.says h.told k.told) ∙ sym k.is

  one_said : (path body : List ℕ) (m n : Meaning) → Says role path body m → Says role path body n → m ≡ n
  one_said path body m n h k =
      elim (place role path body m h) [
        | inl at ↦ only_tick role path body m h at ∙ sym (only_tick role path body n k at)
        | inr other ↦ one_told path body m n (tells role path body m h other) (tells role path body n k other)
      ]

-- what bytes ask means something

abbrev pub MeantBy : Role → Result Asked HttpRefusal → Meaning → Type 0
MeantBy role (Ok x) m = Says role x.path x.body m
MeantBy role (Err r) m = m ≡ Refused (status_of r) None

record Meant (role : Role) (input : List ℕ) (m : Meaning) : Type 0 where
  asked : Result Asked HttpRefusal
  asks : Asks input asked
  is : MeantBy role asked m

meant : (role : Role) (input : List ℕ) (m : Meaning) → Means role input m → Meant role input m
meant role input _ (is_refused r h) = record { asked = Err r; asks = h; is = refl }
meant role input m (is_request path body h s) = record { asked = request path body; asks = h; is = s }

pub meant_by : AskOneThing → (role : Role) (input : List ℕ) (m : Meaning) → Means role input m → (asked : Result Asked HttpRefusal) → Asks input asked → MeantBy role asked m
meant_by ask role input m h asked asks =
    let k = meant role input m h in
    subst (λ x. MeantBy role x m) (ask input k.asked asked k.asks asks) k.is

one_meant : SayOneThing → (role : Role) (asked : Result Asked HttpRefusal) (m n : Meaning) → MeantBy role asked m → MeantBy role asked n → m ≡ n
one_meant one role (Ok x) m n h k = one_said one role x.path x.body m n h k
one_meant one role (Err r) m n h k = h ∙ sym k

pub bytes_mean_one_thing : AskOneThing → SayOneThing → MeanOneThing
bytes_mean_one_thing ask one role input m n h k =
    let a = meant role input m h in
    one_meant one role a.asked m n a.is (meant_by ask role input n k a.asked a.asks)
