-- What was done to the hosts of a net, as what was read of them.
use Rattle.std.specs.Prelude.{ℕ, List, ◌+◌, ◌≡◌, ◌≤◌, Bool, Err, IsErrAnd, None, Ok, Option, Result, Some, false, is_some, length, map, not, true}
use Rattle.std.proofs.Common.{ap, inr, refl, subst, sym, ◌∙◌}
use Rattle.at_base.specs.declared.event.Local.{Local}
use Rattle.at_model.specs.World.{Input, World, WorldEvent, Turn, Ask, Crash, Up, example_base, node_of, nth, put_nth}
use Rattle.memory_net.specs.Closed.{IsExampleRequest}
use Rattle.memory_net.specs.Mails.{mail_of}
use Rattle.memory_net.specs.declared.host.Host.{Host}
use Rattle.memory_net.specs.declared.letter.Letter.{Letter}
use Rattle.node_at.specs.declared.node.Node.{Node}
use Rattle.site_memory.specs.declared.machine.MemSite.{MemSite}
use Rattle.mirrored_nets.specs.Goings.{IsBrought, IsNothing, IsSet, WentDown, ms_of}
use Rattle.mirrored_nets.specs.NetSteps.{IsGiven}
use Rattle.mirrored_nets.specs.Seen.{Seen}
use Rattle.mirrored_nets.specs.ToldMachines.{IsToldOf}
use Rattle.mirrored_nets.specs.Took.{HasRoom}
use Rattle.mirrored_nets.specs.declared.armed.Armed.{Armed}
use Rattle.mirrored_nets.proofs.NetEvents.{numbered}
use Rattle.reading_laws.specs.RequestsAreRead.{IsRequestHere}
use Rattle.reading_laws.specs.TurnsAreRead.{IsTurnHere}
use Rattle.asked_nets.specs.DidRequest.{ReadRequest}
use Rattle.asked_nets.specs.DidStart.{ReadStart}
use Rattle.asked_nets.specs.DidTurn.{ReadTurn}
use Rattle.asked_nets.specs.Happened.{MirrorsAt}
use Rattle.asked_nets.specs.ReadSteps.{IsTold, MovesRead, NetStepRead}
use Rattle.asked_nets.specs.Rests.{RestsBy, rests_at}
use Rattle.asked_nets.specs.declared.fault.Undone.{Undone}
use Rattle.asked_nets.specs.declared.fault.Undone.TheVariants.{Apart}
use Rattle.asked_nets.specs.Unmet.{IsntApart}

-- a fault that is handed on
pub still_isnt : {A : Type 0} (e : Undone) (r : Result A Undone) → IsErrAnd r (λ x. x ≡ e) → (e ≡ Apart → ⊥) → IsntApart r
still_isnt e (Ok x) same isnt = tt
still_isnt e (Err f) same isnt = λ apart. isnt (sym same ∙ apart)

abbrev pub net_of : List Host → List ℕ → List Letter → Seen
net_of hosts clocks letters = record { hosts = hosts; clocks = clocks; letters = letters }

-- a net as its callers see it is one of these parts
pub seen_by : (armed : Armed) (down : Bool) (e : WorldEvent) (raw : List ℕ) (calls : ℕ) (net next inside : Seen) → inside ≡ net → MovesRead armed down e raw calls inside next → MovesRead armed down e raw calls net next
seen_by armed down e raw calls net next inside is step = subst (λ (s : Seen). MovesRead armed down e raw calls s next) is step

none_up : (o : Option Node) → not (is_some o) ≡ true → o ≡ None
none_up None e = refl
none_up (Some n) e = absurd cc

some_down : (o : Option Node) → not (is_some o) ≡ false → is_some o ≡ true
some_down None e = absurd cc
some_down (Some n) e = refl

none_down : (o : Option Node) → is_some o ≡ false → o ≡ None
none_down None e = refl
none_down (Some n) e = absurd cc

some_up : (o : Option Node) → is_some o ≡ true → (n : Node) × (o ≡ Some n)
some_up None e = absurd cc
some_up (Some n) e = (n, refl)

-- where nothing is done
pub is_nothing : (e : WorldEvent) (o : Option Node) (rests : Bool) → RestsBy e (is_some o) rests → rests ≡ true → IsNothing e o
is_nothing (Turn i input fates until) o rests is held = subst (IsNothing (Turn i input fates until)) (sym (none_up o (sym is ∙ held))) tt
is_nothing (Ask i request fates until) o rests is held = subst (IsNothing (Ask i request fates until)) (sym (none_up o (sym is ∙ held))) tt
is_nothing (Crash i) o rests is held = subst (IsNothing (Crash i)) (sym (none_up o (sym is ∙ held))) tt
is_nothing (Up i landed stop) o rests is held = let n = some_up o (sym is ∙ held) in subst (IsNothing (Up i landed stop)) (sym n.1) tt

same_some : {A : Type 0} (x y : A) → Some x ≡ Some y → x ≡ y
same_some x y e = cc

-- whether the node of that number rests
abbrev pub RestsAt : WorldEvent → List Host → Bool → Type 0
RestsAt e hosts rests = (h : Host) × (nth (node_of e) hosts ≡ Some h) × RestsBy e (is_some h.node) rests

-- as it is up
pub rests_by : (e : WorldEvent) (n : ℕ) (slice hosts : List Host) (up rests : Bool) → n ≡ node_of e → slice ≡ hosts → (h : Host) × (nth n slice ≡ Some h) × (up ≡ is_some h.node) → rests ≡ rests_at e up
    → RestsAt e hosts rests
rests_by e n slice hosts up rests at same (h, here, is) r = (h, ap (nth (node_of e)) (sym same) ∙ ap (λ k. nth k slice) (sym at) ∙ here, r ∙ ap (rests_at e) is)

abbrev pub IsUpAt : ℕ → List Host → Type 0
IsUpAt i hosts = (h : Host) → nth i hosts ≡ Some h → is_some h.node ≡ true

pub turn_up : (i : ℕ) (input : Input) (fates : List Bool) (until : Option ℕ) (hosts : List Host) (rests : Bool) → RestsAt (Turn i input fates until) hosts rests → rests ≡ false → IsUpAt i hosts
turn_up i input fates until hosts rests (h, here, is) not_held g there = subst (λ (z : Host). is_some z.node ≡ true) (same_some h g (sym here ∙ there)) (some_down h.node (sym is ∙ not_held))

pub ask_up : (i : ℕ) (request : Local) (fates : List Bool) (until : Option ℕ) (hosts : List Host) (rests : Bool) → RestsAt (Ask i request fates until) hosts rests → rests ≡ false → IsUpAt i hosts
ask_up i request fates until hosts rests (h, here, is) not_held g there = subst (λ (z : Host). is_some z.node ≡ true) (same_some h g (sym here ∙ there)) (some_down h.node (sym is ∙ not_held))

pub crash_up : (i : ℕ) (hosts : List Host) (rests : Bool) → RestsAt (Crash i) hosts rests → rests ≡ false → IsUpAt i hosts
crash_up i hosts rests (h, here, is) not_held g there = subst (λ (z : Host). is_some z.node ≡ true) (same_some h g (sym here ∙ there)) (some_down h.node (sym is ∙ not_held))

pub start_down : (i : ℕ) (landed stop : Bool) (hosts : List Host) (rests : Bool) → RestsAt (Up i landed stop) hosts rests → rests ≡ false → (h : Host) → nth i hosts ≡ Some h → h.node ≡ None
start_down i landed stop hosts rests (h, here, is) not_held g there = subst (λ (z : Host). z.node ≡ None) (same_some h g (sym here ∙ there)) (none_down h.node (sym is ∙ not_held))

pub rests_read : (armed : Armed) (e : WorldEvent) (raw : List ℕ) (net : Seen) (rests : Bool) → RestsAt e net.hosts rests → rests ≡ true → NetStepRead armed e e false raw 0 net net
rests_read armed e raw net rests (h, here, is) held = inr (record {
  rests = record { host = h; here = here; nothing = is_nothing e h.node rests is held; same = refl };
  same = refl;
  stays = refl;
  none = refl;
})

-- A host of a net that mirrors a world.
module _ (inside net : Seen) (same : inside ≡ net) (count : ℕ) (w : World) (few : count ≤ 8) (mirrors : MirrorsAt count net w) where
  pub mirrors_inside : MirrorsAt count inside w
  mirrors_inside = subst (λ (s : Seen). MirrorsAt count s w) (sym same) mirrors

  module _ (many : ℕ) (all : many ≡ length inside.hosts) where
    count_is : count ≡ many
    count_is = sym mirrors_inside.many ∙ sym all

    few_many : many ≤ 8
    few_many = subst (λ k. k ≤ 8) count_is few

    mirrors_many : MirrorsAt many inside w
    mirrors_many = subst (λ k. MirrorsAt k inside w) count_is mirrors_inside

    pub turn_here : (i c now lines : ℕ) (input : Input) (bytes : List ℕ) (armed : Armed) (h : Host) (n : Node) (site machine : MemSite) → nth i inside.hosts ≡ Some h → h.node ≡ Some n → site ≡ h.site
        → nth i inside.clocks ≡ Some c → IsBrought (map mail_of inside.letters) i input lines bytes → now ≡ c + ms_of input → IsSet now site machine → IsToldOf armed machine
        → IsTurnHere i many lines bytes n machine armed
    turn_here i c now lines input bytes armed h n site machine here up is time brought later set told = record {
      few = few_many;
      hosts = inside.hosts;
      clocks = inside.clocks;
      mails = map mail_of inside.letters;
      world = w;
      mirrors = mirrors_many;
      least = numbered i inside.hosts h here;
      host = h;
      here = here;
      up = up;
      clock = c;
      time = time;
      input = input;
      brought = brought;
      set = subst (λ (s : MemSite). IsSet (c + ms_of input) s machine) is (subst (λ k. IsSet k site machine) later set);
      told = told;
    }

    pub request_here : (i c : ℕ) (request : Local) (armed : Armed) (h : Host) (n : Node) (site machine : MemSite) → nth i inside.hosts ≡ Some h → h.node ≡ Some n → site ≡ h.site → nth i inside.clocks ≡ Some c
        → IsExampleRequest request → IsSet c site machine → IsToldOf armed machine → IsRequestHere i many request n machine armed
    request_here i c request armed h n site machine here up is time named set told = record {
      few = few_many;
      hosts = inside.hosts;
      clocks = inside.clocks;
      mails = map mail_of inside.letters;
      world = w;
      mirrors = mirrors_many;
      least = numbered i inside.hosts h here;
      host = h;
      here = here;
      up = up;
      clock = c;
      time = time;
      named = named;
      set = subst (λ (s : MemSite). IsSet c s machine) is set;
      told = told;
    }

module _ (i : ℕ) (hosts new : List Host) (clocks : List ℕ) (letters : List Letter) (h g : Host) (here : nth i hosts ≡ Some h) (puts : new ≡ put_nth i g hosts) where
  put : net_of new clocks letters ≡ net_of (put_nth i g hosts) clocks letters
  put = ap (λ (l : List Host). net_of l clocks letters) puts

  pub crashes : (armed : Armed) (raw : List ℕ) (site : MemSite) → is_some h.node ≡ true → site ≡ h.site → WentDown site g → MovesRead armed false (Crash i) raw 0 (net_of hosts clocks letters) (net_of new clocks letters)
  crashes armed raw site up same down =
      let n = some_up h.node up in (
        refl,
        refl,
        record { host = h; here = here; node = n.0; up = n.1; behind = g; went = subst (λ (s : MemSite). WentDown s g) same down; are = put },
      )

  pub starts : (armed struck : Armed) (raw : List ℕ) (landed stop : Bool) (c calls : ℕ) (site machine : MemSite) (base : List ℕ) → h.node ≡ None → HasRoom h.site → nth i clocks ≡ Some c → base ≡ example_base i → site ≡ h.site
      → IsSet c site machine → IsTold armed site struck → IsToldOf struck machine → ReadStart struck base machine g landed stop calls
      → MovesRead armed false (Up i landed stop) raw calls (net_of hosts clocks letters) (net_of new clocks letters)
  starts armed struck raw landed stop c calls site machine base down room clock named same set told_by told took = (
    refl,
    record {
      host = h;
      here = here;
      down = down;
      room = room;
      clock = c;
      time = clock;
      machine = machine;
      set = subst (λ (s : MemSite). IsSet c s machine) same set;
      struck = struck;
      struck_is = subst (λ (s : MemSite). IsTold armed s struck) same told_by;
      told = told;
      behind = g;
      took = subst (λ b. ReadStart struck b machine g landed stop calls) named took;
      are = put;
    },
  )

  pub asks : (armed : Armed) (raw : List ℕ) (n : Node) (c many calls : ℕ) (request : Local) (site machine : MemSite) (more : List Letter) (fates : List Bool) (until : Option ℕ) → h.node ≡ Some n → nth i clocks ≡ Some c
      → many ≡ length hosts → IsExampleRequest request → site ≡ h.site → IsSet c site machine → IsToldOf armed machine
      → ReadRequest armed i many request n machine g (map mail_of letters) (map mail_of more) fates until calls
      → MovesRead armed false (Ask i request fates until) raw calls (net_of hosts clocks letters) (net_of new clocks more)
  asks armed raw n c many calls request site machine more fates until up clock all named same set told took = (
    refl,
    record {
      host = h;
      here = here;
      node = n;
      up = up;
      clock = c;
      time = clock;
      named = named;
      machine = machine;
      set = subst (λ (s : MemSite). IsSet c s machine) same set;
      told = told;
      behind = g;
      took = subst (λ k. ReadRequest armed i k request n machine g (map mail_of letters) (map mail_of more) fates until calls) all took;
      hosts = puts;
      clocks = refl;
    },
  )

  pub turns : (armed : Armed) (down : Bool) (n : Node) (c many now lines calls : ℕ) (input : Input) (bytes raw : List ℕ) (site machine : MemSite) (times : List ℕ) (more : List Letter) (fates : List Bool) (until : Option ℕ)
      → h.node ≡ Some n → nth i clocks ≡ Some c → many ≡ length hosts → IsBrought (map mail_of letters) i input lines bytes → IsGiven input raw bytes → now ≡ c + ms_of input → site ≡ h.site → IsSet now site machine
      → IsToldOf armed machine → ReadTurn armed i many lines bytes n machine g (map mail_of letters) (map mail_of more) fates until down calls → times ≡ put_nth i now clocks
      → MovesRead armed down (Turn i input fates until) raw calls (net_of hosts clocks letters) (net_of new times more)
  turns armed down n c many now lines calls input bytes raw site machine times more fates until up clock all brought given later same set told took ticks = record {
    host = h;
    here = here;
    node = n;
    up = up;
    clock = c;
    time = clock;
    lines = lines;
    bytes = bytes;
    brought = brought;
    given = given;
    machine = machine;
    set = subst (λ (s : MemSite). IsSet (c + ms_of input) s machine) same (subst (λ k. IsSet k site machine) later set);
    told = told;
    behind = g;
    took = subst (λ k. ReadTurn armed i k lines bytes n machine g (map mail_of letters) (map mail_of more) fates until down calls) all took;
    hosts = puts;
    clocks = ticks ∙ ap (λ k. put_nth i k clocks) later;
  }
