-- A turn that was taken at a host, on the machine of its place: what it heard is the event's input, and its calls are read.
use Rattle.std.specs.Prelude.{ℕ, List, [], ◌∷◌, ◌++◌, ◌+◌, ◌-◌, ◌≡◌, ◌≤◌, IfSome, Option, Some, None, Bool, true, false, if◌then◌else◌, length, nat_eq, take, unwrap_or}
use Rattle.std.specs.List.{AllByRecursion}
use Rattle.std.proofs.Common.{refl, sym, ap, subst, arith, ◌∙◌, inl, inr}
use Rattle.addressed_posts.specs.AddressedPosts.{PostsAreAddressed}
use Rattle.at_base.specs.declared.event.Event.TheVariants as events
use Rattle.at_model.specs.World.{Deliver, Input, Node as Known, Raw, Tick, World, example_base, example_hosts, nth}
use Rattle.carried_meanings.specs.CarriedMeanings.{MeanOneThing, PostsDontWait, PostsSay, TicksAsk}
use Rattle.deliverables.proofs.PostHeads.{post_length}
use Rattle.deliverables.specs.Deliverables.{NodesOwnIsDeliverable, deliverable}
use Rattle.deliveries.proofs.TurnForms.{Fits}
use Rattle.deliveries.specs.ByteNets.{Carries}
use Rattle.deliveries.specs.DeliverableNets.{AreNodeHosts, IsDeliverableNet, IsPostedOf, IsStateOf}
use Rattle.endpoints.specs.Addresses.{PathsNameTargets}
use Rattle.http_post.specs.Laws.{WaitOrNot}
use Rattle.journal_at.specs.StandingBodies.{Keeps}
use Rattle.memory_net.specs.Mails.{Mail}
use Rattle.memory_net.specs.NoMessages.{AreNoMessages}
use Rattle.memory_net.specs.declared.host.Host.{Host}
use Rattle.memory_net.proofs.Going.{are}
use Rattle.memory_net.proofs.Standing.{mail_found, same_some}
use Rattle.model_laws.specs.Agreement.{IsIn}
use Rattle.model_laws.specs.Laws.{StepsKeepPlace}
use Rattle.node_at.specs.Doings.{calls_of}
use Rattle.node_at.specs.Endings.{TakesTurn}
use Rattle.node_at.specs.Meanings.{Hears, Means, next_input}
use Rattle.node_at.specs.Meanings.Meaning.{Steps}
use Rattle.node_at.specs.Replies.{StepsReply}
use Rattle.node_at.specs.State.{State, seen}
use Rattle.node_at.specs.Turns.{IsLine, calm, is_heard, line_of}
use Rattle.node_at.specs.declared.node.Node.{Node}
use Rattle.node_at.specs.declared.role.Role.TheVariants.{All}
use Rattle.node_at.specs.declared.turn.Turned.{Turned}
use Rattle.node_events.specs.NodeEvents.{IsInput, IsTurn, TurnsAreEvents}
use Rattle.provenance.specs.Forms.{HaveOwn}
use Rattle.provenance.specs.Provenance.{StepsPassOn}
use Rattle.node_worlds.specs.Nets.{Net, Place}
use Rattle.site_memory.specs.Devices.{calls_in, opening_in}
use Rattle.site_memory.specs.Sites.{link_of, told_of}
use Rattle.site_memory.specs.declared.machine.MemSite.{MemSite}
use Rattle.site_model.specs.Told.{Made}
use Rattle.small_envelopes.specs.SmallEnvelopes.{BareAreInLimits}
use Rattle.wire_posts.specs.Envelopes.{action_in}
use Rattle.mirrored_nets.specs.Goings.{IsBrought, IsSet, ms_of}
use Rattle.mirrored_nets.specs.Mirrors.{Mirrors}
use Rattle.mirrored_nets.specs.Took.{Adds, HasRoom, IsTriedLine, IsWhole, TookTurn}
use Rattle.mirrored_nets.proofs.AnewCalls.{GoesAnew, ends_anew, first_whole}
use Rattle.mirrored_nets.proofs.FallenHosts.{InWorld, IsBefore, NetLaws, at_this, in_world, is_up, sites, up_there}
use Rattle.mirrored_nets.proofs.InputsHeard.{input_heard, line_told, means_so, works_heard}
use Rattle.mirrored_nets.proofs.InterimLines.{disk_no_line, whole_no_line}
use Rattle.mirrored_nets.proofs.TurnsRead.{StepsRead, turn_read}
use Rattle.mirrored_nets.proofs.WholeTurns.{DidWhole, did_whole, made_are}

-- the laws of steps and of what is heard that this stands on
pub record TurnLaws : Type 0 where
  pub addressed : PostsAreAddressed
  pub reply : StepsReply
  pub pass : StepsPassOn deliverable
  pub place : StepsKeepPlace
  pub paths : PathsNameTargets
  pub own : NodesOwnIsDeliverable
  pub turns : TurnsAreEvents
  pub says : PostsSay
  pub quiet : PostsDontWait
  pub ticks : TicksAsk
  pub one : MeanOneThing
  pub wait_or_not : WaitOrNot
  pub small : BareAreInLimits
  pub no_messages : AreNoMessages

-- What a turn of a node of the net heard whose steps went to their end was the event's input, and its calls are read.
pub record HeardTurn (count : ℕ) (w : World) (net : Net) (i c : ℕ) (p : Place) (x : Known) (n m : Node) (from t : MemSite) (r : Turned) (turn : TakesTurn told_of r All m.shrunk (seen n) (seen m) from t)
    (input : Input) (lines : ℕ) (made : List Made) : Type 0 where
  pub ends : IsWhole turn.first
  pub did : DidWhole turn.first (seen n) turn.node from turn.behind turn.steps
  pub anew : GoesAnew turn.node (seen m) turn.behind t
  pub now_is : did.now ≡ c + ms_of input
  pub carries : Carries (example_hosts count) net i All (told_of from)
  pub heard : IsInput w i x input did.meaning did.now
  pub made_are : made ≡ did.line ++ (calls_of did.whole.doings ++ anew.made)
  pub line_is : IsTriedLine lines did.line
  pub is_turn : IsTurn (example_hosts count) net w i p x (seen n) (seen m) input did.now did.whole.steps did.whole.doings
  pub read : StepsRead n.journal did.line made did.whole.steps did.whole.doings is_turn.fated

is_received : (o : Option ℕ) (i : ℕ) → 1 ≤ i → unwrap_or o 0 ≡ i → o ≡ Some i
is_received None i least e = absurd (omega (arith, least, e))
is_received (Some k) i least e = ap (λ n. Some n) e

nth_in : (k : ℕ) (ms : List Mail) (m : Mail) → nth k ms ≡ Some m → IsIn m ms
nth_in k [] m e = absurd cc
nth_in k (n ∷ ms) m e = by (λ f. nth_in (k - 1) ms m f) (nat_eq k 1) e
  where
    by : (nth (k - 1) ms ≡ Some m → IsIn m ms) → (b : Bool) → (if b then Some n else nth (k - 1) ms) ≡ Some m → IsIn m (n ∷ ms)
    by later true f = inl (sym (same_some n m f))
    by later false f = inr (later f)

-- the steps of a turn that went to its end did
pub ends_first : (r : Turned) (m : Node) (t from : MemSite) {n : State} (turn : TakesTurn told_of r All m.shrunk n (seen m) from t) → IsWhole r → IsWhole turn.first
ends_first r m t from turn whole = subst IsWhole (sym (first_whole told_of turn.first r m.shrunk turn.node (seen m) turn.behind t whole turn.ends)) whole

module _ (L : NetLaws) (K : TurnLaws) (count : ℕ) (few : count ≤ 8) (hosts : List Host) (clocks : List ℕ) (mails more : List Mail) (w : World) (M : Mirrors count hosts clocks mails w) (i : ℕ) (least : 1 ≤ i)
    (h g : Host) (n : Node) (here : nth i hosts ≡ Some h) (up : h.node ≡ Some n) (c : ℕ) (time : nth i clocks ≡ Some c) where
  nodes_are : AreNodeHosts (example_hosts count)
  nodes_are = are L.tell L.bases L.closes L.nets L.crashes L.calls L.images count few

  pub delivers : IsDeliverableNet (example_hosts count) M.stands.net
  delivers = (L.nets (example_hosts count) M.stands.net M.stands.sites nodes_are M.stands.serves).deliverable

  -- and so can all that is its own
  pub owned : HaveOwn deliverable (example_base i)
  owned = K.own (example_base i) (nodes_are i (delivers.places i (M.stands.holds i h here).place (M.stands.holds i h here).here).number)

  module _ (s : MemSite) (before : IsBefore h s) where
    abbrev pub from : MemSite
    from = sites L count few hosts clocks mails more w M i h g n here up c time s before i

    pub from_is : from ≡ s
    from_is = at_this L count few hosts clocks mails more w M i h g n here up c time s before

    abbrev there : InWorld L count few hosts clocks mails more w M i h g n here up c time s before
    there = in_world L count few hosts clocks mails more w M i h g n here up c time s before

    node_up : (M.stands.holds i h here).place.node ≡ Some (seen n)
    node_up = is_up L count few hosts clocks mails more w M i h g n here up c time s before

    -- the node's book can be delivered
    pub fits : Fits deliverable (example_base i) n.book
    fits =
        let state : IsStateOf deliverable (example_base i) (seen n) =
        subst (λ o. IfSome o (IsStateOf deliverable (example_base i))) node_up (delivers.places i (M.stands.holds i h here).place (M.stands.holds i h here).here).node in
        record { book = state.book; base = state.base }

    pub posted_fit : AllByRecursion (IsPostedOf deliverable (example_hosts count)) w.posted
    posted_fit = subst (λ ps. AllByRecursion (IsPostedOf deliverable (example_hosts count)) ps) (sym M.world.posted) delivers.posted

    base_is : there.node.base ≡ example_base i
    base_is =
        let (x, known, stands) = M.world.nodes i (M.stands.holds i h here).place (M.stands.holds i h here).here in
        ap (λ (z : Known). z.base) (same_some there.node x (sym there.known ∙ known)) ∙ stands.base

    pub keeps : Keeps n.journal (up_there L count few hosts clocks mails more w M i h g n here up c time s before).holds.bodies (told_of from)
    keeps =
        subst (λ z. Keeps n.journal (up_there L count few hosts clocks mails more w M i h g n here up c time s before).holds.bodies (told_of z)) (sym from_is)
        (up_there L count few hosts clocks mails more w M i h g n here up c time s before).holds.keeps

    -- what the connection brings
    module _ (bytes : List ℕ) (brings : link_of s.line ≡ record { open_bytes = []; waiting = bytes ∷ [] }) (input : Input) (lines : ℕ) (brought : IsBrought mails i input lines bytes) where
      pub tells : next_input (told_of from).link ≡ Some bytes
      tells = ap (λ (z : MemSite). next_input (told_of z).link) from_is ∙ ap (λ l. next_input (Some l)) brings

      pub carries : Carries (example_hosts count) M.stands.net i All (told_of from)
      carries = by input brought
        where
          by : (x : Input) → IsBrought mails i x lines bytes → Carries (example_hosts count) M.stands.net i All (told_of from)
          by (Deliver k) (m, found, to, is, short, none) =
              let (p, is_in, of) = mail_found M.stands.net.posted mails m M.stands.letters (nth_in k mails m found) in
              record {
                input = bytes;
                tells = tells;
                carried = inl (record {
                  posted = p;
                  stands = is_in;
                  received = is_received p.receiver i least (of.receiver ∙ to);
                  text = of.text;
                  of = of.of;
                  held = let a = ap length (sym is ∙ of.is) in let b = post_length of.to (action_in p.content.message) of.text in omega (arith, short, a, b);
                  to = of.to;
                  goes = of.goes;
                  is = sym is ∙ of.is;
                });
              }
          by (Tick ms) (tick, none) = record {
            input = bytes;
            tells = tells;
            carried = inr (K.no_messages.ticks bytes (subst (λ z. Means All z (Steps events.Tick)) (sym tick.are) (K.ticks.means tick.to tick.host tick.port tick.path)));
          }
          by Raw (status, waiting, drawn, held, lines_are) = record { input = bytes; tells = tells; carried = inr (K.no_messages.refused bytes status drawn.0.0 drawn.0.1) }

      -- a turn whose steps went to their end
      module _ (old : MemSite) (set : IsSet (c + ms_of input) h.site old) (others : s ≡ record old { line = s.line }) (has : HasRoom old) (r : Turned) (m : Node) (t : MemSite)
          (turn : TakesTurn told_of r All m.shrunk (seen n) (seen m) from t) (first_ends : IsWhole turn.first) (made : List Made) (adds : Adds made old t)
          (tried : IsTriedLine lines (take lines made)) where
        from_others : from ≡ record old { line = from.line }
        from_others = from_is ∙ others ∙ ap (λ (z : MemSite). record old { line = z.line }) (sym from_is)

        did : DidWhole turn.first (seen n) turn.node from turn.behind turn.steps
        did = did_whole turn.first (seen n) turn.node from turn.behind turn.steps first_ends

        node_sure : turn.node.journal.unsure ≡ false
        node_sure = did.whole.ran.sure ∙ (up_there L count few hosts clocks mails more w M i h g n here up c time s before).holds.sure

        anew : GoesAnew turn.node (seen m) turn.behind t
        anew = ends_anew turn.first r m.shrunk turn.node (seen m) turn.behind t node_sure first_ends turn.ends

        now_is : did.now ≡ c + ms_of input
        now_is = did.clock from.clock refl ∙ ap (λ (z : MemSite). z.clock) from_others ∙ set.clock

        is_heard_so : is_heard did.meaning ≡ true
        is_heard_so = works_heard turn.first _ did.meaning did.now _ turn.node (told_of from) (told_of turn.behind) (inl first_ends) did.works

        means : Means All bytes did.meaning
        means = means_so bytes did.meaning is_heard_so (subst (λ o. Hears All o did.meaning) tells did.heard)

        heard : IsInput w i there.node input did.meaning did.now
        heard =
            input_heard K.says K.quiet K.ticks K.one K.wait_or_not K.small L.bases L.nets L.closes count few hosts clocks mails w M i least c there.node time there.known base_is input lines bytes did.meaning did.now
            brought means now_is

        line_heard : IsLine (Some bytes) true (told_of from) (told_of turn.behind) did.line
        line_heard = subst (λ b. IsLine (Some bytes) b (told_of from) (told_of turn.behind) did.line) is_heard_so (subst (λ o. IsLine o (is_heard did.meaning) (told_of from) (told_of turn.behind) did.line) tells did.is_line)

        all_made_are : made ≡ did.line ++ (calls_of did.whole.doings ++ anew.made)
        all_made_are = made_are (calm (seen n)) turn.node (seen m) old from turn.behind t made did.line did.whole.steps did.whole.doings from_others did.whole.ran anew adds

        line_is : IsTriedLine lines did.line
        line_is =
            line_told K.says K.quiet K.ticks K.one K.wait_or_not K.small L.bases L.nets L.closes count few hosts clocks mails w M i least input lines bytes (told_of from) (told_of turn.behind) did.line
            (calls_of did.whole.doings ++ anew.made) made brought line_heard all_made_are tried
            (λ none. whole_no_line (line_of did.line) anew.made did.meaning did.now did.status (calm (seen n)) turn.node (told_of from) (told_of turn.behind)
            (up_there L count few hosts clocks mails more w M i h g n here up c time s before).holds.bodies did.whole keeps (disk_no_line anew.made anew.on_disk))

        is_turn : IsTurn (example_hosts count) M.stands.net w i (M.stands.holds i h here).place there.node (seen n) (seen m) input did.now did.whole.steps did.whole.doings
        is_turn =
            K.turns (example_hosts count) M.stands.net w i (M.stands.holds i h here).place there.node (seen n) (seen m) input did.meaning did.now did.status did.whole.steps did.whole.doings there.is_at heard
            did.whole.turns did.whole.ran.are (anew.book ∙ did.whole.ran.book) (anew.effects ∙ did.whole.ran.effects)

        read : StepsRead n.journal did.line made did.whole.steps did.whole.doings is_turn.fated
        read =
            turn_read K.addressed K.reply K.pass K.place K.paths L.bodies (example_base i)
            owned (example_hosts count) M.stands.net w i (M.stands.holds i h here).place there.node (seen n) turn.node (seen m) input did.meaning did.now did.status did.whole.steps did.whole.doings old from turn.behind t
            made did.line (up_there L count few hosts clocks mails more w M i h g n here up c time s before).holds.bodies lines fits posted_fit heard is_turn did.whole.turns from_others has keeps
            (M.limits i h n here up) did.whole.ran anew adds line_is (did.counted is_heard_so bytes tells)

        pub heard_turn : HeardTurn count w M.stands.net i c (M.stands.holds i h here).place there.node n m from t r turn input lines made
        heard_turn = record {
          ends = first_ends;
          did = did;
          anew = anew;
          now_is = now_is;
          carries = carries;
          heard = heard;
          made_are = all_made_are;
          line_is = line_is;
          is_turn = is_turn;
          read = read;
        }

  -- so it is of one that was taken
  module _ (input : Input) (lines : ℕ) (bytes : List ℕ) (old : MemSite) (fates : List Bool) (until : Option ℕ) (brought : IsBrought mails i input lines bytes) (set : IsSet (c + ms_of input) h.site old)
      (T : TookTurn i count lines bytes n old g mails more fates until) where
    pub before_turn : IsBefore h T.turns.connected
    before_turn = record {
      opening = ap (λ (z : MemSite). opening_in z.device) T.turns.connects.others ∙ set.opening;
      calls = ap (λ (z : MemSite). calls_in z.device) T.turns.connects.others ∙ set.calls;
    }

    pub turn_there : TakesTurn told_of T.result All T.node.shrunk (seen n) (seen T.node) (from T.turns.connected before_turn) T.site
    turn_there = subst (λ z. TakesTurn told_of T.result All T.node.shrunk (seen n) (seen T.node) z T.site) (sym (from_is T.turns.connected before_turn)) T.turns.turn

    pub took_heard : IsWhole T.result
        → HeardTurn count w M.stands.net i c (M.stands.holds i h here).place (in_world L count few hosts clocks mails more w M i h g n here up c time T.turns.connected before_turn).node n T.node
        (from T.turns.connected before_turn) T.site T.result turn_there input lines T.made
    took_heard whole =
        heard_turn T.turns.connected before_turn bytes T.turns.connects.brings input lines brought old set T.turns.connects.others T.room T.result T.node T.site turn_there
        (ends_first T.result T.node T.site (from T.turns.connected before_turn) turn_there whole) T.made T.adds T.tried
