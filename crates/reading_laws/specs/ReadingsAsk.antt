-- What is read of the calls of an event is what the event asks for.
use Rattle.std.specs.Prelude.{ℕ, List, Bool, Option, drop}
use Rattle.site_model.specs.Told.{Made}
use Rattle.mirrored_nets.specs.Fates.{AllDone, AreAsked, anew_of}
use Rattle.mirrored_nets.specs.NetSteps.{IsCutBy}
use Rattle.mirrored_nets.specs.Took.{ComesTo}
use Rattle.mirrored_nets.specs.AnewCalls.{IsAskedWhole}
use Rattle.mirrored_nets.specs.declared.came.Came.TheVariants as cames
use Rattle.mirrored_nets.specs.declared.armed.Armed.{Armed}
use Rattle.call_readings.specs.Reads.{Reads}
use Rattle.call_readings.specs.declared.became.Became.{Became}
use Rattle.call_readings.specs.declared.became.Became.TheVariants.{Stays, Falls, Halts, FallsAnew, HaltsAnew}

-- An event with these fates and this stop is what came: also of the calls by which the journal is written anew, where all were done; and else to all
-- its steps.
abbrev pub IsWhatCame : Armed → (lines : ℕ) → List Made → Became → List Bool → Option ℕ → Type 0
IsWhatCame armed lines made Stays fates until = IsAskedWhole lines made fates until × (AllDone (anew_of (drop lines made)) → AreAsked lines made fates until)
IsWhatCame armed lines made (Falls kept choice) fates until = ComesTo (cames.Falls kept choice) lines made fates until × IsCutBy armed made (cames.Falls kept choice)
IsWhatCame armed lines made Halts fates until = ComesTo cames.Halts lines made fates until × IsCutBy armed made cames.Halts
IsWhatCame armed lines made (FallsAnew kept choice) fates until = IsAskedWhole lines made fates until × IsCutBy armed made (cames.Falls kept choice)
IsWhatCame armed lines made HaltsAnew fates until = IsAskedWhole lines made fates until × IsCutBy armed made cames.Halts

abbrev pub ReadingsAsk : Type 0
ReadingsAsk = (armed : Armed) (lines : ℕ) (made : List Made) (became : Became) (fates : List Bool) (until : Option ℕ) → Reads armed lines made became fates until → IsWhatCame armed lines made became fates until
