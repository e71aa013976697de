-- A turn behind which its node stays up was answered as its event says, and has its effects.
use Rattle.std.specs.Prelude.{ℕ, List, ◌+◌, ◌≡◌, ◌≤◌, Bool, true, Option, Some, drop, length}
use Rattle.std.proofs.Common.{ap, sym, subst, ◌∙◌}
use Rattle.at_model.specs.World.{Deliver, Input, Node as Known, Raw, Tick, Turn, World, example_hosts, nth}
use Rattle.carried_meanings.specs.CarriedMeanings.{MeanOneThing}
use Rattle.fated_walks.specs.Fated.{IsBeyond, StartsWith, all_fates}
use Rattle.memory_net.specs.Mails.{Mail}
use Rattle.memory_net.specs.declared.host.Host.{Host}
use Rattle.node_at.specs.Endings.{TakesTurn}
use Rattle.node_at.specs.Meanings.{Hears, Meaning, Means, next_input}
use Rattle.node_at.specs.Meanings.Meaning.{Refused}
use Rattle.node_at.specs.State.{seen}
use Rattle.node_at.specs.Turns.{is_heard}
use Rattle.node_at.specs.declared.node.Node.{Node}
use Rattle.node_at.specs.declared.role.Role.TheVariants.{All}
use Rattle.node_at.specs.declared.turn.Turned.{Turned}
use Rattle.node_events.specs.AnsweredTurns.{SaysStatus, TurnsAnswerSo}
use Rattle.node_events.specs.CallEffects.{EffectsAgree}
use Rattle.node_events.specs.NodeEvents.{IsAt}
use Rattle.node_worlds.specs.Nets.{Net, Place}
use Rattle.site_memory.specs.Sites.{told_of}
use Rattle.site_memory.specs.declared.machine.MemSite.{MemSite}
use Rattle.site_model.specs.Told.{Made}
use Rattle.mirrored_nets.specs.Answered.{AnswersWith, HasEffects, IsAnswered}
use Rattle.mirrored_nets.specs.Fates.{AreAsked, fates_in}
use Rattle.mirrored_nets.specs.Goings.{IsBrought, IsSet, ms_of}
use Rattle.mirrored_nets.specs.Mirrors.{Mirrors}
use Rattle.mirrored_nets.specs.Took.{ComesTo, EndsSo, IsWhole, TookTurn}
use Rattle.mirrored_nets.specs.declared.came.Came.TheVariants as cames
use Rattle.mirrored_nets.proofs.AnewCalls.{first_whole}
use Rattle.mirrored_nets.proofs.FallenHosts.{NetLaws, in_world}
use Rattle.mirrored_nets.proofs.HeardFates.{heard_fates}
use Rattle.mirrored_nets.proofs.InputsHeard.{means_so}
use Rattle.mirrored_nets.proofs.TurnsTaken.{HeardTurn, TurnLaws, before_turn, from, tells, took_heard, turn_there}

refused_heard : (m : Meaning) (status : ℕ) (text : Option (List ℕ)) → m ≡ Refused status text → is_heard m ≡ true
refused_heard m status text e = ap is_heard e

same_status : (a b : ℕ) (s t : Option (List ℕ)) → Refused a s ≡ Refused b t → a ≡ b
same_status a b s t e = cc

module _ (count : ℕ) (w : World) (net : Net) (i c : ℕ) (p : Place) (x : Known) (n m : Node) (begun t : MemSite) (r : Turned)
    (turn : TakesTurn told_of r All m.shrunk (seen n) (seen m) begun t) (lines : ℕ) (made : List Made) (fates : List Bool) (until : Option ℕ) (at : IsAt (example_hosts count) net w i p x (seen n))
    (asked : AreAsked lines made fates until) (input : Input) (H : HeardTurn count w net i c p x n m begun t r turn input lines made) where
  -- its fates are those that the event asks for
  same_fates : fates_in (drop lines made) ≡ all_fates H.is_turn.fated
  same_fates = heard_fates count w net i c p x n m begun t r turn input lines made H fates until asked

  starts_so : StartsWith (all_fates H.is_turn.fated) fates
  starts_so = subst (λ fs. StartsWith fs fates) same_fates asked.fates_are

  ends_so : IsBeyond until (length (all_fates H.is_turn.fated))
  ends_so = subst (λ fs. IsBeyond until (length fs)) same_fates asked.beyond

  -- the event says the status
  says : TurnsAnswerSo → SaysStatus w (Turn i input fates until) input H.did.meaning H.did.status
  says answer =
      answer (example_hosts count) net w i p x (seen n) input H.did.meaning H.did.now H.did.status H.did.whole.steps H.did.whole.doings H.is_turn.fated at H.heard H.did.whole.turns H.is_turn.are H.is_turn.fared fates until
      starts_so ends_so

  -- and has the effects
  heard_effects : EffectsAgree → HasEffects w (Turn i input fates until) m
  heard_effects agree =
      H.anew.effects ∙ H.did.whole.ran.effects
      ∙ agree.turned (example_hosts count) net w i p x (seen n) input H.did.meaning H.did.now H.did.whole.steps H.did.whole.doings H.is_turn.fated at H.heard H.is_turn.are H.is_turn.fared fates until starts_so ends_so

module _ (one : MeanOneThing) (answer : TurnsAnswerSo) (count : ℕ) (w : World) (net : Net) (i c : ℕ) (p : Place) (x : Known) (n m : Node) (begun t : MemSite) (r : Turned)
    (turn : TakesTurn told_of r All m.shrunk (seen n) (seen m) begun t) (lines : ℕ) (made : List Made) (bytes : List ℕ) (fates : List Bool) (until : Option ℕ) (at : IsAt (example_hosts count) net w i p x (seen n))
    (whole : IsWhole r) (asked : AreAsked lines made fates until) (brings : next_input (told_of begun).link ≡ Some bytes) where
  event_says : (input : Input) (H : HeardTurn count w net i c p x n m begun t r turn input lines made) → SaysStatus w (Turn i input fates until) input H.did.meaning H.did.status
  event_says input H = says count w net i c p x n m begun t r turn lines made fates until at asked input H answer

  -- with which it was answered
  answers : (input : Input) (H : HeardTurn count w net i c p x n m begun t r turn input lines made) → AnswersWith r H.did.status
  answers input H = subst (λ z. AnswersWith z H.did.status) (first_whole told_of turn.first r m.shrunk turn.node (seen m) turn.behind t whole turn.ends) H.did.answers

  drawn : (H : HeardTurn count w net i c p x n m begun t r turn Raw lines made) (status : ℕ) (text : Option (List ℕ)) → Means All bytes (Refused status text) → H.did.status ≡ status
  drawn H status text draws =
      let (refusal, is) = event_says Raw H in
      let heard : Hears All (Some bytes) H.did.meaning = subst (λ o. Hears All o H.did.meaning) brings H.did.heard in
      let means : Means All bytes H.did.meaning = means_so bytes H.did.meaning (refused_heard H.did.meaning H.did.status refusal is) heard in
      same_status H.did.status status refusal text (sym is ∙ one All bytes H.did.meaning (Refused status text) means draws)

  pub heard_answers : (input : Input) → HeardTurn count w net i c p x n m begun t r turn input lines made → IsAnswered w (Turn i input fates until) input bytes r
  heard_answers (Deliver k) H = subst (AnswersWith r) (sym (event_says (Deliver k) H)) (answers (Deliver k) H)
  heard_answers (Tick ms) H = subst (AnswersWith r) (sym (event_says (Tick ms) H)) (answers (Tick ms) H)
  heard_answers Raw H = λ status waits draws. subst (AnswersWith r) (drawn H status draws.0.0 draws.0.1) (answers Raw H)

-- so it is of one that was taken
pub answered : (L : NetLaws) (K : TurnLaws) → TurnsAnswerSo → (count : ℕ) (hosts : List Host) (clocks : List ℕ) (mails more : List Mail) (w : World) (i c : ℕ) (h g : Host) (n : Node) (input : Input) (lines : ℕ)
    (bytes : List ℕ) (old : MemSite) (fates : List Bool) (until : Option ℕ) → count ≤ 8 → Mirrors count hosts clocks mails w → 1 ≤ i → nth i hosts ≡ Some h → h.node ≡ Some n → nth i clocks ≡ Some c
    → IsBrought mails i input lines bytes → IsSet (c + ms_of input) h.site old → (T : TookTurn i count lines bytes n old g mails more fates until) → T.came ≡ cames.Stays
    → IsAnswered w (Turn i input fates until) input bytes T.result
answered L K answer count hosts clocks mails more w i c h g n input lines bytes old fates until few M least here up time brought set T stays =
    let whole : IsWhole T.result = subst (λ z. EndsSo z T.result) stays T.ends in
    let before = before_turn L K count few hosts clocks mails more w M i least h g n here up c time input lines bytes old fates until brought set T in
    let there = in_world L count few hosts clocks mails more w M i h g n here up c time T.turns.connected before in
    heard_answers K.one answer count w M.stands.net i c (M.stands.holds i h here).place there.node n T.node
    (from L K count few hosts clocks mails more w M i least h g n here up c time T.turns.connected before) T.site T.result
    (turn_there L K count few hosts clocks mails more w M i least h g n here up c time input lines bytes old fates until brought set T) lines T.made bytes fates until there.is_at whole
    (subst (λ z. ComesTo z lines T.made fates until) stays T.comes)
    (tells L K count few hosts clocks mails more w M i least h g n here up c time T.turns.connected before bytes T.turns.connects.brings input lines brought) input
    (took_heard L K count few hosts clocks mails more w M i least h g n here up c time input lines bytes old fates until brought set T whole)

pub turned_effects : (L : NetLaws) (K : TurnLaws) → EffectsAgree → (count : ℕ) (hosts : List Host) (clocks : List ℕ) (mails more : List Mail) (w : World) (i c : ℕ) (h g : Host) (n : Node) (input : Input) (lines : ℕ)
    (bytes : List ℕ) (old : MemSite) (fates : List Bool) (until : Option ℕ) → count ≤ 8 → Mirrors count hosts clocks mails w → 1 ≤ i → nth i hosts ≡ Some h → h.node ≡ Some n → nth i clocks ≡ Some c
    → IsBrought mails i input lines bytes → IsSet (c + ms_of input) h.site old → (T : TookTurn i count lines bytes n old g mails more fates until) → T.came ≡ cames.Stays
    → HasEffects w (Turn i input fates until) T.node
turned_effects L K agree count hosts clocks mails more w i c h g n input lines bytes old fates until few M least here up time brought set T stays =
    let before = before_turn L K count few hosts clocks mails more w M i least h g n here up c time input lines bytes old fates until brought set T in
    let there = in_world L count few hosts clocks mails more w M i h g n here up c time T.turns.connected before in
    heard_effects count w M.stands.net i c (M.stands.holds i h here).place there.node n T.node (from L K count few hosts clocks mails more w M i least h g n here up c time T.turns.connected before) T.site T.result
    (turn_there L K count few hosts clocks mails more w M i least h g n here up c time input lines bytes old fates until brought set T) lines T.made fates until there.is_at
    (subst (λ z. ComesTo z lines T.made fates until) stays T.comes) input
    (took_heard L K count few hosts clocks mails more w M i least h g n here up c time input lines bytes old fates until brought set T (subst (λ z. EndsSo z T.result) stays T.ends)) agree
