-- What a node of a net that mirrors a world hears is the input of the world's event.
use Rattle.std.specs.Prelude.{ℕ, List, [], ◌∷◌, ◌++◌, ◌+◌, ◌-◌, ◌≡◌, ◌≤◌, ◌⊎◌, Bool, true, false, Option, Some, None, if◌then◌else◌, length, nat_eq, take, unwrap_or}
use Rattle.std.proofs.Common.{refl, sym, ap, subst, arith, ◌∙◌, inl, inr}
use Rattle.at_base.specs.declared.event.Event.TheVariants as events
use Rattle.at_base.specs.declared.outs.Post.{Post}
use Rattle.at_model.specs.Book.{Book}
use Rattle.at_model.specs.World.{Deliver, Input, Node as Known, Posted, Raw, Tick, World, example_base, example_hosts, nth}
use Rattle.carried_meanings.specs.CarriedMeanings.{MeanOneThing, PostsDontWait, PostsSay, Takes, TicksAsk}
use Rattle.carried_meanings.specs.CarriedMeanings.Takes.{arrives, draws, is_past}
use Rattle.deliverables.proofs.PostHeads.{post_length}
use Rattle.deliverables.specs.Bases.{ExamplesAreNodeBases}
use Rattle.deliveries.proofs.NetForms.{posted_in}
use Rattle.deliveries.specs.ByteNets.{ServeAsNets}
use Rattle.deliveries.specs.DeliverableNets.{AreNodeHosts, IsDeliverableNet}
use Rattle.deliveries.specs.Deliveries.{IsCarried}
use Rattle.http_post.specs.Conversations.{IsSaid, Waits}
use Rattle.http_post.specs.Laws.{WaitOrNot}
use Rattle.memory_net.specs.Closed.{StaysClosed, closed}
use Rattle.memory_net.specs.Mails.{Mail}
use Rattle.memory_net.specs.Stands.{AreMailsOf, IsMailOf}
use Rattle.memory_net.specs.declared.host.Host.{Host}
use Rattle.memory_net.proofs.Standing.{same_some}
use Rattle.model_laws.specs.Agreement.{IsIn}
use Rattle.node_at.specs.Doings.{Doing}
use Rattle.node_at.specs.Meanings.{Hears, Meaning, Means}
use Rattle.node_at.specs.Meanings.Meaning.{Lost, Refused, Steps, Unread}
use Rattle.node_at.specs.State.{State}
use Rattle.node_at.specs.TurnText.{IsFirst, Steppings, TurnStep}
use Rattle.node_at.specs.TurnText.Steppings.{asked, unasked}
use Rattle.node_at.specs.Turns.{IsLine, Works, is_heard, is_tick}
use Rattle.node_at.specs.declared.role.Role.TheVariants.{All}
use Rattle.node_at.specs.declared.turn.Turned.{Turned}
use Rattle.node_at.specs.declared.turn.Turned.TheVariants as turneds
use Rattle.node_events.specs.NodeEvents.{Brings, IsInput, one_if}
use Rattle.node_events.specs.NodeEvents.Brings.{arrives as comes, draws as is_drawn}
use Rattle.site_memory.specs.Sites.{told_of}
use Rattle.site_model.specs.Told.{Made, Told}
use Rattle.small_envelopes.specs.SmallEnvelopes.{BareAreInLimits}
use Rattle.wire_posts.specs.Envelopes.{action_in}
use Rattle.wire_posts.specs.Returns.{IsInLimits}
use Rattle.mirrored_nets.specs.Goings.{IsBrought, ms_of}
use Rattle.mirrored_nets.specs.Mirrors.{Mirrors}
use Rattle.mirrored_nets.specs.Took.{IsTriedLine, IsWhole}
use Rattle.mirrored_nets.proofs.BarePosts.{bare_post}
use Rattle.mirrored_nets.proofs.InterimLines.{IsNoLine, line_is}

-- A turn that went to its end, or that halted, heard a request.

first_heard : (m : Meaning) (s : TurnStep) (b : Book) (now status : ℕ) → IsFirst b now m s status → is_heard m ≡ true
first_heard (Refused answer text) s b now status h = refl
first_heard (Steps e) s b now status h = refl
first_heard Lost s b now status h = absurd h
first_heard Unread s b now status h = absurd h

steppings_heard : (m : Meaning) (b : Book) (now status : ℕ) (steps : List TurnStep) → (status ≡ 0 → ⊥) → Steppings now b [] m steps status → is_heard m ≡ true
steppings_heard _ b now _ steps some (unasked due) = absurd (some refl)
steppings_heard m b now status steps some (asked first rest is due e) = first_heard m first b now status is

ticks_heard : (m : Meaning) → is_tick m ≡ true → is_heard m ≡ true
ticks_heard (Refused answer text) e = refl
ticks_heard (Steps event) e = refl
ticks_heard Lost e = absurd cc
ticks_heard Unread e = absurd cc

pub works_heard : (r : Turned) (lines : List Doing) (m : Meaning) (now : ℕ) (a b : State) (old new : Told) → IsWhole r ⊎ (r ≡ turneds.Halted) → Works r lines m now a b old new → is_heard m ≡ true
works_heard (turneds.Served status) lines m now a b old new (inl some) (whole, h) = steppings_heard m a.book now status whole.steps some whole.turns
works_heard (turneds.Served status) lines m now a b old new (inr e) h = absurd cc
works_heard turneds.Ticked lines m now a b old new h (whole, tick) = ticks_heard m tick
works_heard turneds.Halted lines m now a b old new h halts = first_heard m halts.step a.book now halts.status halts.is_first
works_heard turneds.NoRoom lines m now a b old new (inl h) k = absurd h
works_heard turneds.NoRoom lines m now a b old new (inr e) k = absurd cc
works_heard turneds.Closed lines m now a b old new h k = absurd k
works_heard turneds.LinkDown lines m now a b old new h k = absurd k

pub means_so : (bytes : List ℕ) (m : Meaning) → is_heard m ≡ true → Hears All (Some bytes) m → Means All bytes m
means_so bytes (Refused answer text) e h = h
means_so bytes (Steps event) e h = h
means_so bytes Lost e h = absurd cc
means_so bytes Unread e h = absurd cc

-- the message of a letter

is_received : (o : Option ℕ) (i : ℕ) → 1 ≤ i → unwrap_or o 0 ≡ i → o ≡ Some i
is_received None i least e = absurd (omega (arith, least, e))
is_received (Some k) i least e = ap (λ n. Some n) e

pub record IsLetterAt (k : ℕ) (ps : List Posted) (m : Mail) : Type 0 where
  pub posted : Posted
  pub found : nth k ps ≡ Some posted
  pub among : IsIn posted ps
  pub mail : IsMailOf posted m

letter_at : (k : ℕ) (ps : List Posted) (ms : List Mail) (m : Mail) → AreMailsOf ps ms → nth k ms ≡ Some m → IsLetterAt k ps m
letter_at k [] [] m h e = absurd cc
letter_at k [] (n ∷ ms) m h e = absurd h
letter_at k (p ∷ ps) [] m h e = absurd h
letter_at k (p ∷ ps) (n ∷ ms) m (is, more) e = by (λ f. letter_at (k - 1) ps ms m more f) (nat_eq k 1) refl e
  where
    by : (nth (k - 1) ms ≡ Some m → IsLetterAt (k - 1) ps m) → (b : Bool) → nat_eq k 1 ≡ b → (if b then Some n else nth (k - 1) ms) ≡ Some m → IsLetterAt k (p ∷ ps) m
    by later true same f = record {
      posted = p;
      found = ap (λ t. if t then Some p else nth (k - 1) ps) same;
      among = inl refl;
      mail = subst (IsMailOf p) (same_some n m f) is;
    }
    by later false same f =
        let l : IsLetterAt (k - 1) ps m = later f in
        record {
          posted = l.posted;
          found = ap (λ t. if t then Some p else nth (k - 1) ps) same ∙ l.found;
          among = inr l.among;
          mail = l.mail;
        }

brings_so : (base : List ℕ) (p : Post) (meaning : Meaning) → IsInLimits p → Takes base p meaning → Brings base p meaning
brings_so base p _ within (arrives a e limits) = comes a e
brings_so base p _ within (draws text e) = is_drawn text e
brings_so base p _ within (is_past text past) = absurd (past within)

-- the client waits for that many
pub record WaitsFor (lines : ℕ) (bytes : List ℕ) : Type 0 where
  pub waits : Bool
  pub so : Waits bytes waits
  pub lines_are : lines ≡ one_if waits

module _ (says : PostsSay) (quiet : PostsDontWait) (ticks : TicksAsk) (one : MeanOneThing) (wait_or_not : WaitOrNot) (small : BareAreInLimits) (bases : ExamplesAreNodeBases)
    (nets : ServeAsNets told_of) (closes : StaysClosed told_of) (count : ℕ) (few : count ≤ 8) (hosts : List Host) (clocks : List ℕ) (mails : List Mail) (w : World)
    (M : Mirrors count hosts clocks mails w) (i : ℕ) (least : 1 ≤ i) where
  are : AreNodeHosts (example_hosts count)
  are k number = bases k (omega (arith, number.1, few))

  deliverable : IsDeliverableNet (example_hosts count) M.stands.net
  deliverable = (nets (example_hosts count) M.stands.net M.stands.sites are M.stands.serves).deliverable

  in_limits : (p : Posted) → IsIn p M.stands.net.posted → IsInLimits p.content
  in_limits p among =
      small p.content
      (bare_post p.content
      (posted_in closed (example_hosts count) M.stands.net.posted p (closes count M.stands.net M.stands.sites (omega (arith, few)) M.stands.serves M.stands.asks).posted among).content)

  text_length : (m : Mail) (bytes : List ℕ) (k : ℕ) → m.bytes ≡ bytes → length bytes ≤ 65536 → (l : IsLetterAt k M.stands.net.posted m) → length l.mail.text ≤ 65536
  text_length m bytes k is short l =
      omega (arith, short, ap length (sym is ∙ l.mail.is), post_length l.mail.to (action_in l.posted.content.message) l.mail.text)

  abbrev carried : (m : Mail) (bytes : List ℕ) (k : ℕ) → m.receiver ≡ i → m.bytes ≡ bytes → length bytes ≤ 65536 → IsLetterAt k M.stands.net.posted m → IsCarried (example_hosts count) M.stands.net i bytes
  carried m bytes k to is short l = record {
    posted = l.posted;
    stands = l.among;
    received = is_received l.posted.receiver i least (l.mail.receiver ∙ to);
    text = l.mail.text;
    of = l.mail.of;
    held = let h = text_length m bytes k is short l in omega (arith, h);
    to = l.mail.to;
    goes = l.mail.goes;
    is = sym is ∙ l.mail.is;
  }

  pub waits_so : (input : Input) (lines : ℕ) (bytes : List ℕ) → IsBrought mails i input lines bytes → WaitsFor lines bytes
  waits_so (Deliver k) lines bytes (m, found, to, is, short, none) =
      let l = letter_at k M.stands.net.posted mails m M.stands.letters found in
      record { waits = false; so = quiet (example_hosts count) M.stands.net i bytes are deliverable (carried m bytes k to is short l) (text_length m bytes k is short l); lines_are = none }
  waits_so (Tick ms) lines bytes (tick, none) =
      record { waits = false; so = subst (λ z. Waits z false) (sym tick.are) (ticks.waits tick.to tick.host tick.port tick.path); lines_are = none }
  waits_so Raw lines bytes (status, waits, drawn, held, lines_are) = record { waits = waits; so = drawn.1; lines_are = lines_are }

  line_so : (input : Input) (lines : ℕ) (bytes : List ℕ) (old new : Told) (line : List Made) → IsBrought mails i input lines bytes → IsLine (Some bytes) true old new line
      → IsTriedLine lines line ⊎ ((lines ≡ 1) × (line ≡ []))
  line_so input lines bytes old new line brought is_line =
      let for = waits_so input lines bytes brought in
      let (waits, (so, is)) = is_line.exact refl bytes refl in
      by for.waits for.lines_are (subst (λ b. IsSaid b old.counts.link new.counts.link line) (wait_or_not bytes waits for.waits so for.so) is)
    where
      by : (waits : Bool) → lines ≡ one_if waits → IsSaid waits old.counts.link new.counts.link line → IsTriedLine lines line ⊎ ((lines ≡ 1) × (line ≡ []))
      by false e (inl is) = inl (inl (e, is))
      by false e (inr (h, rose)) = absurd h
      by true e (inl is) = inl (inr (e, inl is))
      by true e (inr (inl none, rose)) = inr (e, none)
      by true e (inr (inr is, rose)) = inl (inr (e, inr is))

  -- the calls before the first step, where the first calls tried the line
  pub line_told : (input : Input) (lines : ℕ) (bytes : List ℕ) (old new : Told) (line rest made : List Made) → IsBrought mails i input lines bytes → IsLine (Some bytes) true old new line
      → made ≡ line ++ rest → IsTriedLine lines (take lines made) → (line ≡ [] → IsNoLine rest) → IsTriedLine lines line
  line_told input lines bytes old new line rest made brought is_line all first none =
      line_is lines line rest (line_so input lines bytes old new line brought is_line) none (subst (λ z. IsTriedLine lines (take lines z)) all first)

  module _ (c : ℕ) (x : Known) (time : nth i clocks ≡ Some c) (node : nth i w.nodes ≡ Some x) (base : x.base ≡ example_base i) where
    clock : x.clock ≡ c
    clock = M.clocks_are i c x time node

    pub input_heard : (input : Input) (lines : ℕ) (bytes : List ℕ) (meaning : Meaning) (now : ℕ) → IsBrought mails i input lines bytes → Means All bytes meaning → now ≡ c + ms_of input
        → IsInput w i x input meaning now
    input_heard (Deliver k) lines bytes meaning now (m, found, to, is, short, none) means same =
        let l = letter_at k M.stands.net.posted mails m M.stands.letters found in
        let takes = says (example_hosts count) M.stands.net i bytes meaning are deliverable (carried m bytes k to is short l) (text_length m bytes k is short l) means in (
          l.posted,
          ap (nth k) M.world.posted ∙ l.found,
          is_received l.posted.receiver i least (l.mail.receiver ∙ to),
          subst (λ z. Brings z l.posted.content meaning) (sym base) (brings_so (example_base i) l.posted.content meaning (in_limits l.posted l.among) takes),
          omega (arith, same, clock),
        )
    input_heard (Tick ms) lines bytes meaning now (tick, none) means same = (
      one All bytes meaning (Steps events.Tick) means (subst (λ z. Means All z (Steps events.Tick)) (sym tick.are) (ticks.means tick.to tick.host tick.port tick.path)),
      omega (arith, same, clock),
    )
    input_heard Raw lines bytes meaning now (status, waits, drawn, held, lines_are) means same = (
      status,
      drawn.0.0,
      one All bytes meaning (Refused status drawn.0.0) means drawn.0.1,
      omega (arith, same, clock),
    )
