-- What is asked for, with any fates and any stop.
use Rattle.std.specs.Prelude.{ℕ, List, [], Bool, false, None, Option, true}
use Rattle.std.proofs.Common.{refl}
use Rattle.at_base.specs.declared.event.Local.{Local}
use Rattle.at_model.specs.World.{Input, World, WorldEvent, Turn, Ask, Crash, Up}
use Rattle.mirrored_nets.specs.Seen.{Seen}
use Rattle.call_readings.specs.AskedEvents.{IsOf}
use Rattle.asked_nets.specs.Happened.{MayAsk}

pub of_turn : (n : ℕ) (input : Input) (fates : List Bool) (until : Option ℕ) (e : WorldEvent) → IsOf (Turn n input [] None) e → IsOf (Turn n input fates until) e
of_turn n input fates until (Turn i given gave stop) is = is
of_turn n input fates until (Ask i request gave stop) is = absurd is
of_turn n input fates until (Crash i) is = absurd is
of_turn n input fates until (Up i landed stop) is = absurd is

pub of_ask : (n : ℕ) (request : Local) (fates : List Bool) (until : Option ℕ) (e : WorldEvent) → IsOf (Ask n request [] None) e → IsOf (Ask n request fates until) e
of_ask n request fates until (Turn i given gave stop) is = absurd is
of_ask n request fates until (Ask i asked gave stop) is = is
of_ask n request fates until (Crash i) is = absurd is
of_ask n request fates until (Up i landed stop) is = absurd is

pub of_up : (n : ℕ) (landed stop : Bool) (e : WorldEvent) → IsOf (Up n true false) e → IsOf (Up n landed stop) e
of_up n landed stop (Turn i given gave until) is = absurd is
of_up n landed stop (Ask i asked gave until) is = absurd is
of_up n landed stop (Crash i) is = absurd is
of_up n landed stop (Up i l s) is = is

-- it is of itself
pub of_same : (e : WorldEvent) → IsOf e e
of_same (Turn i input fates until) = (refl, refl)
of_same (Ask i request fates until) = (refl, refl)
of_same (Crash i) = refl
of_same (Up i landed stop) = refl

module _ (count : ℕ) (w : World) (raw : List ℕ) (net : Seen) where
  pub may_turn : (n : ℕ) (input : Input) (fates : List Bool) (until : Option ℕ) → MayAsk count w (Turn n input fates until) raw net → MayAsk count w (Turn n input [] None) raw net
  may_turn n input fates until m = record { least = m.least; within = m.within; may = m.may }

  pub may_ask : (n : ℕ) (request : Local) (fates : List Bool) (until : Option ℕ) → MayAsk count w (Ask n request fates until) raw net → MayAsk count w (Ask n request [] None) raw net
  may_ask n request fates until m = record { least = m.least; within = m.within; may = m.may }

  pub may_up : (n : ℕ) (landed stop : Bool) → MayAsk count w (Up n landed stop) raw net → MayAsk count w (Up n true false) raw net
  may_up n landed stop m = record { least = m.least; within = m.within; may = m.may }
