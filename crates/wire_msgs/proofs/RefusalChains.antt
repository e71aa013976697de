-- A chain refuses what its first step refuses.
use Rattle.std.proofs.Common.{◌≡◌, Bool, true, false, cond, Result, Err, ap, subst, sym}
use Rattle.context.specs.declared.parameter.ContextFault.{ContextFault}
use Rattle.context.specs.declared.parameter.ContextFault.TheVariants as contexts
use Rattle.context.specs.Bodies.{Answers as ContextAnswers}
use Rattle.soap_profile.specs.declared.envelope.SoapRefusal.{SoapRefusal}
use Rattle.soap_profile.specs.declared.envelope.SoapRefusal.TheVariants as soaps
use Rattle.soap_profile.specs.declared.fault.FaultRefusal.{FaultRefusal}
use Rattle.soap_profile.specs.declared.fault.FaultRefusal.TheVariants as faults
use Rattle.soap_profile.specs.Envelopes.{Answers as SoapAnswers}
use Rattle.soap_profile.specs.Faults.{Answers as FaultAnswers}
use Rattle.addressing.specs.declared.headers.AddressingRefusal.{AddressingRefusal}
use Rattle.addressing.specs.declared.headers.AddressingRefusal.TheVariants as headers
use Rattle.addressing.specs.Headers.{Answers as HeaderAnswers}
use Rattle.wire_msgs.specs.declared.refusal.Refusal.{Refusal}
use Rattle.wire_msgs.specs.declared.refusal.Refusal.TheVariants.{TooLong, NotUtf8, NotSpelled, TooDeep, TooMany, VersionMismatch, NotEnvelope, MustUnderstand, MissingHeader, InvalidHeader, NoTarget, Action, Parameters, NoMemory}
use Rattle.wire_msgs.specs.Refusals.{Answers, Refuses, addressing, coordination, fault, of_addressing, of_coordination, of_fault, of_soap, soap, ◌>>=◌}

pub refused_first : {A B : Type 0} (first : Result A Refusal) (next : A → Result B Refusal) (r : Refusal) → Refuses first r
    → Refuses (first >>= next) r
refused_first first next NoMemory h = tt
refused_first first next TooLong h = h
refused_first first next (NotUtf8 place) h = h
refused_first first next NotSpelled h = h
refused_first first next TooDeep h = h
refused_first first next TooMany h = h
refused_first first next VersionMismatch h = ap (λ e. e >>= next) h
refused_first first next NotEnvelope h = ap (λ e. e >>= next) h
refused_first first next (MustUnderstand name) h = ap (λ e. e >>= next) h
refused_first first next (MissingHeader name) h = ap (λ e. e >>= next) h
refused_first first next (InvalidHeader name) h = ap (λ e. e >>= next) h
refused_first first next NoTarget h = ap (λ e. e >>= next) h
refused_first first next Action h = ap (λ e. e >>= next) h
refused_first first next (Parameters name) h = ap (λ e. e >>= next) h

by_fault : {A : Type 0} (first : Result A ContextFault) (f : ContextFault) → ContextAnswers first (Err f)
    → Refuses (coordination first) (of_coordination f)
by_fault first (contexts.Parameters name) h = ap coordination h
by_fault first contexts.NoMemory h = tt

pub coordination_refused : {A B : Type 0} (first : Result A ContextFault) (next : A → Result B Refusal) (f : ContextFault) (r : Refusal)
    → ContextAnswers first (Err f) → r ≡ of_coordination f → Refuses (coordination first >>= next) r
coordination_refused first next f r h e =
    subst (Refuses (coordination first >>= next)) (sym e)
    (refused_first (coordination first) next (of_coordination f) (by_fault first f h))

by_refusal : {A : Type 0} (first : Result A FaultRefusal) (f : FaultRefusal) → FaultAnswers first (Err f) → Refuses (fault first) (of_fault f)
by_refusal first (faults.Unreadable part) h = ap fault h
by_refusal first faults.NoMemory h = tt

pub fault_refused : {A B : Type 0} (first : Result A FaultRefusal) (next : A → Result B Refusal) (f : FaultRefusal) (r : Refusal)
    → FaultAnswers first (Err f) → r ≡ of_fault f → Refuses (fault first >>= next) r
fault_refused first next f r h e =
    subst (Refuses (fault first >>= next)) (sym e) (refused_first (fault first) next (of_fault f) (by_refusal first f h))

by_soap : {A : Type 0} (first : Result A SoapRefusal) (f : SoapRefusal) → SoapAnswers first (Err f) → Refuses (soap first) (of_soap f)
by_soap first soaps.VersionMismatch h = ap soap h
by_soap first soaps.NotEnvelope h = ap soap h
by_soap first (soaps.MustUnderstand name) h = ap soap h
by_soap first soaps.NoMemory h = tt

pub soap_refused : {A B : Type 0} (first : Result A SoapRefusal) (next : A → Result B Refusal) (f : SoapRefusal) (r : Refusal)
    → SoapAnswers first (Err f) → r ≡ of_soap f → Refuses (soap first >>= next) r
soap_refused first next f r h e =
    subst (Refuses (soap first >>= next)) (sym e) (refused_first (soap first) next (of_soap f) (by_soap first f h))

by_addressing : {A : Type 0} (first : Result A AddressingRefusal) (f : AddressingRefusal) → HeaderAnswers first (Err f)
    → Refuses (addressing first) (of_addressing f)
by_addressing first (headers.MissingHeader name) h = ap addressing h
by_addressing first (headers.InvalidHeader name) h = ap addressing h
by_addressing first headers.NoMemory h = tt

pub addressing_refused : {A B : Type 0} (first : Result A AddressingRefusal) (next : A → Result B Refusal) (f : AddressingRefusal) (r : Refusal)
    → HeaderAnswers first (Err f) → r ≡ of_addressing f → Refuses (addressing first >>= next) r
addressing_refused first next f r h e =
    subst (Refuses (addressing first >>= next)) (sym e)
    (refused_first (addressing first) next (of_addressing f) (by_addressing first f h))

pub then_answers : {A : Type 0} (b : Bool) (x y : Result A Refusal) (r : Result A Refusal) → b ≡ true → Answers x r → Answers (cond b x y) r
then_answers true x y r e h = h
then_answers false x y r e h = absurd cc

pub else_answers : {A : Type 0} (b : Bool) (x y : Result A Refusal) (r : Result A Refusal) → b ≡ false → Answers y r → Answers (cond b x y) r
else_answers true x y r e h = absurd cc
else_answers false x y r e h = h
