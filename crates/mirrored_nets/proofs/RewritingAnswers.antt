-- A turn that went to its end was answered as its event says, and has its effects, whatever became of writing its journal anew.
use Rattle.std.specs.Prelude.{ℕ, List, ◌≡◌, Bool, true, Option, Some, length}
use Rattle.std.proofs.Common.{ap, sym, subst, ◌∙◌}
use Rattle.at_model.specs.World.{Deliver, Input, Node as Known, Raw, Tick, Turn, World, example_hosts}
use Rattle.carried_meanings.specs.CarriedMeanings.{MeanOneThing}
use Rattle.fated_walks.specs.Fated.{IsBeyond, StartsWith, all_fates}
use Rattle.node_at.specs.Endings.{TakesTurn}
use Rattle.node_at.specs.Meanings.{Hears, Meaning, Means, next_input}
use Rattle.node_at.specs.Meanings.Meaning.{Refused}
use Rattle.node_at.specs.State.{seen}
use Rattle.node_at.specs.Turns.{is_heard}
use Rattle.node_at.specs.declared.node.Node.{Node}
use Rattle.node_at.specs.declared.role.Role.TheVariants.{All}
use Rattle.node_at.specs.declared.turn.Turned.{Turned}
use Rattle.node_events.specs.AnsweredTurns.{SaysStatus, TurnsAnswerSo}
use Rattle.node_events.specs.CallEffects.{EffectsAgree}
use Rattle.node_events.specs.NodeEvents.{IsAt}
use Rattle.node_worlds.specs.Nets.{Net, Place}
use Rattle.site_memory.specs.Sites.{told_of}
use Rattle.site_memory.specs.declared.machine.MemSite.{MemSite}
use Rattle.site_model.specs.Told.{Made}
use Rattle.mirrored_nets.specs.Answered.{AnswersWith, HasEffects, IsAnswered}
use Rattle.mirrored_nets.specs.Took.{IsWhole}
use Rattle.mirrored_nets.proofs.AnewCalls.{first_whole}
use Rattle.mirrored_nets.proofs.InputsHeard.{means_so}
use Rattle.mirrored_nets.proofs.TurnsTaken.{HeardTurn}

refused_heard : (m : Meaning) (status : ℕ) (text : Option (List ℕ)) → m ≡ Refused status text → is_heard m ≡ true
refused_heard m status text e = ap is_heard e

same_status : (a b : ℕ) (s t : Option (List ℕ)) → Refused a s ≡ Refused b t → a ≡ b
same_status a b s t e = cc

module _ (count : ℕ) (w : World) (net : Net) (i c : ℕ) (p : Place) (x : Known) (n m : Node) (begun t : MemSite) (r : Turned)
    (turn : TakesTurn told_of r All m.shrunk (seen n) (seen m) begun t) (lines : ℕ) (made : List Made) (fates : List Bool) (until : Option ℕ) (at : IsAt (example_hosts count) net w i p x (seen n)) where
  -- the fates of its steps are those that the event asks for
  abbrev IsAskedSo : (input : Input) → HeardTurn count w net i c p x n m begun t r turn input lines made → Type 0
  IsAskedSo input H = StartsWith (all_fates H.is_turn.fated) fates × IsBeyond until (length (all_fates H.is_turn.fated))

  -- it has the effects
  pub effects_anew : EffectsAgree → (input : Input) (H : HeardTurn count w net i c p x n m begun t r turn input lines made) → IsAskedSo input H → HasEffects w (Turn i input fates until) m
  effects_anew agree input H (starts, ends) =
      H.anew.effects ∙ H.did.whole.ran.effects
      ∙ agree.turned (example_hosts count) net w i p x (seen n) input H.did.meaning H.did.now H.did.whole.steps H.did.whole.doings H.is_turn.fated at H.heard H.is_turn.are H.is_turn.fared fates until starts ends

  module _ (one : MeanOneThing) (answer : TurnsAnswerSo) (bytes : List ℕ) (whole : IsWhole r) (brings : next_input (told_of begun).link ≡ Some bytes) where
    -- the event says the status
    event_says : (input : Input) (H : HeardTurn count w net i c p x n m begun t r turn input lines made) → IsAskedSo input H → SaysStatus w (Turn i input fates until) input H.did.meaning H.did.status
    event_says input H (starts, ends) =
        answer (example_hosts count) net w i p x (seen n) input H.did.meaning H.did.now H.did.status H.did.whole.steps H.did.whole.doings H.is_turn.fated at H.heard H.did.whole.turns H.is_turn.are H.is_turn.fared
        fates until starts ends

    -- with which it was answered
    answers : (input : Input) (H : HeardTurn count w net i c p x n m begun t r turn input lines made) → AnswersWith r H.did.status
    answers input H = subst (λ z. AnswersWith z H.did.status) (first_whole told_of turn.first r m.shrunk turn.node (seen m) turn.behind t whole turn.ends) H.did.answers

    drawn : (H : HeardTurn count w net i c p x n m begun t r turn Raw lines made) → IsAskedSo Raw H → (status : ℕ) (text : Option (List ℕ)) → Means All bytes (Refused status text) → H.did.status ≡ status
    drawn H asked status text draws =
        let (refusal, is) = event_says Raw H asked in
        let heard : Hears All (Some bytes) H.did.meaning = subst (λ o. Hears All o H.did.meaning) brings H.did.heard in
        let means : Means All bytes H.did.meaning = means_so bytes H.did.meaning (refused_heard H.did.meaning H.did.status refusal is) heard in
        same_status H.did.status status refusal text (sym is ∙ one All bytes H.did.meaning (Refused status text) means draws)

    pub answers_anew : (input : Input) (H : HeardTurn count w net i c p x n m begun t r turn input lines made) → IsAskedSo input H → IsAnswered w (Turn i input fates until) input bytes r
    answers_anew (Deliver k) H asked = subst (AnswersWith r) (sym (event_says (Deliver k) H asked)) (answers (Deliver k) H)
    answers_anew (Tick ms) H asked = subst (AnswersWith r) (sym (event_says (Tick ms) H asked)) (answers (Tick ms) H)
    answers_anew Raw H asked = λ status waits draws. subst (AnswersWith r) (drawn H asked status draws.0.0 draws.0.1) (answers Raw H)
