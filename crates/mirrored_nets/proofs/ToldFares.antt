-- Outs each of which has its call, which the machine tells.
use Rattle.std.specs.Prelude.{ℕ, List, [], ◌∷◌, ◌++◌, ◌+◌, ◌≡◌, ◌≤◌, Bool, true, false, None, if◌then◌else◌, map}
use Rattle.std.specs.List.{AllByRecursion}
use Rattle.std.proofs.Common.{refl, sym, ap, subst, arith, ◌∙◌}
use Rattle.std.proofs.lemmas.List.{map-append}
use Rattle.at_base.specs.declared.outs.Out.{Out}
use Rattle.fated_walks.specs.Fated.{Fated, all_fates, out_of, record_fates, went_of}
use Rattle.node_at.specs.Doings.{Doing, lost_of}
use Rattle.node_at.specs.Texts.{IsCallOf, Leaving, call_by}
use Rattle.node_at.specs.TurnText.{TurnStep}
use Rattle.node_events.specs.Fares.{AreFared, Fare, IsFared, IsRightly, calls_of, losses_of, mades_of, way_of}
use Rattle.node_events.specs.NodeEvents.{all_made}
use Rattle.site_model.specs.Told.{Call}
use Rattle.mirrored_nets.specs.Fates.{failures, is_disk, is_done}
use Rattle.mirrored_nets.proofs.CallRows.{AreSendings, IsSending, failures_join}

abbrev pub IsOut : Call → Type 0
IsOut c = is_disk c ≡ false

-- each call of these is an answer or a post
abbrev pub AreOuts : List Leaving → Type 0
AreOuts xs = AllByRecursion (λ (x : Leaving). IsOut x.call) xs

abbrev pub AllAreOuts : List TurnStep → Type 0
AllAreOuts ss = AllByRecursion (λ (s : TurnStep). AreOuts s.leaving) ss

-- it has a call
abbrev pub HasCall : Out → Type 0
HasCall o = IsCallOf o None → ⊥

abbrev pub HaveCalls : Fated → Type 0
HaveCalls f = AllByRecursion HasCall f.outcome.outs

abbrev pub IsTold : Fare → Type 0
IsTold (Fare.Went out call) = Unit {0}
IsTold (Fare.Failed out call) = Unit {0}
IsTold (Fare.Untold out call) = ⊥
IsTold (Fare.Stays out) = ⊥

abbrev pub AreTold : List Fare → Type 0
AreTold fs = AllByRecursion IsTold fs

-- how many failed untold
abbrev untold_of : List Fare → ℕ
untold_of [] = 0
untold_of (Fare.Went out call ∷ fs) = untold_of fs
untold_of (Fare.Failed out call ∷ fs) = untold_of fs
untold_of (Fare.Untold out call ∷ fs) = untold_of fs + 1
untold_of (Fare.Stays out ∷ fs) = untold_of fs

abbrev one_left : Bool → ℕ
one_left b = if b then 0 else 1

one_more : (c : Call) → IsOut c → one_left (is_disk c) ≡ 1
one_more c h = ap one_left h

none_more : (b : Bool) → (if b then 0 else 0) ≡ (let n : ℕ = 0 in n)
none_more true = refl
none_more false = refl

-- what is lost is told or not
lost_are : (fs : List Fare) → AllByRecursion IsOut (calls_of fs) → losses_of fs ≡ failures (mades_of fs) + untold_of fs
lost_are [] h = omega arith
lost_are (Fare.Went out call ∷ fs) (h, more) =
    let e = lost_are fs more in
    let k = none_more (is_disk call) in
    omega (arith, e, k)
lost_are (Fare.Failed out call ∷ fs) (h, more) =
    let e = lost_are fs more in
    let k = one_more call h in
    omega (arith, e, k)
lost_are (Fare.Untold out call ∷ fs) (h, more) = let e = lost_are fs more in omega (arith, e)
lost_are (Fare.Stays out ∷ fs) h = lost_are fs h

made_sendings : (fs : List Fare) → AllByRecursion IsOut (calls_of fs) → AreSendings (mades_of fs)
made_sendings [] h = tt
made_sendings (Fare.Went out call ∷ fs) (h, more) = (h, made_sendings fs more)
made_sendings (Fare.Failed out call ∷ fs) (h, more) = (h, made_sendings fs more)
made_sendings (Fare.Untold out call ∷ fs) (h, more) = made_sendings fs more
made_sendings (Fare.Stays out ∷ fs) h = made_sendings fs h

-- so all are told
are_told : (fs : List Fare) → untold_of fs ≡ 0 → AllByRecursion IsRightly fs → AllByRecursion HasCall (map out_of (map way_of fs)) → AreTold fs
are_told [] e h k = tt
are_told (Fare.Went out call ∷ fs) e (h, more) (k, rest) = (tt, are_told fs e more rest)
are_told (Fare.Failed out call ∷ fs) e (h, more) (k, rest) = (tt, are_told fs e more rest)
are_told (Fare.Untold out call ∷ fs) e (h, more) (k, rest) = absurd (omega (arith, e))
are_told (Fare.Stays out ∷ fs) e (h, more) (k, rest) = absurd (k h)

-- and their fates are those of their calls
told_fates : (fs : List Fare) → AreTold fs → map is_done (mades_of fs) ≡ map went_of (map way_of fs)
told_fates [] h = refl
told_fates (Fare.Went out call ∷ fs) (h, more) = ap (λ z. true ∷ z) (told_fates fs more)
told_fates (Fare.Failed out call ∷ fs) (h, more) = ap (λ z. false ∷ z) (told_fates fs more)
told_fates (Fare.Untold out call ∷ fs) (h, more) = absurd h
told_fates (Fare.Stays out ∷ fs) (h, more) = absurd h

told_some : (fs : List Fare) → AreTold fs → mades_of fs ≡ [] → map out_of (map way_of fs) ≡ []
told_some [] h e = refl
told_some (Fare.Went out call ∷ fs) h e = absurd cc
told_some (Fare.Failed out call ∷ fs) h e = absurd cc
told_some (Fare.Untold out call ∷ fs) (h, more) e = absurd h
told_some (Fare.Stays out ∷ fs) (h, more) e = absurd h

calls_out : (xs : List Leaving) → AreOuts xs → AllByRecursion IsOut (map call_by xs)
calls_out [] h = tt
calls_out (x ∷ xs) (h, more) = (h, calls_out xs more)

-- one step
module _ (s : TurnStep) (d : Doing) (f : Fated) (h : IsFared s d f) (out : AreOuts s.leaving) where
  outs_are : AllByRecursion IsOut (calls_of h.fares)
  outs_are = subst (λ z. AllByRecursion IsOut z) (sym h.calls) (calls_out s.leaving out)

  pub step_sendings : AreSendings d.made
  step_sendings = subst AreSendings h.made (made_sendings h.fares outs_are)

  step_lost : d.lost ≡ failures d.made + untold_of h.fares
  step_lost = sym h.lost ∙ lost_are h.fares outs_are ∙ ap (λ z. failures z + untold_of h.fares) h.made

  pub no_less_lost : failures d.made ≤ d.lost
  no_less_lost = let e = step_lost in omega (arith, e)

  pub all_told : HaveCalls f → d.lost ≤ failures d.made → AreTold h.fares
  all_told have few =
      let e = step_lost in
      are_told h.fares (omega (arith, e, few)) h.rightly
      (subst (λ z. AllByRecursion HasCall z) (sym (ap (map out_of) (sym h.ways) ∙ h.whole)) have)

-- the fates of a step's outs
pub ways_are : (s : TurnStep) (d : Doing) (f : Fated) (h : IsFared s d f) → AreTold h.fares → map went_of f.ways ≡ map is_done d.made
ways_are s d f h told = ap (map went_of) h.ways ∙ sym (told_fates h.fares told) ∙ ap (map is_done) h.made

-- where none was made, there are no outs
pub none_made : (s : TurnStep) (d : Doing) (f : Fated) (h : IsFared s d f) → AreTold h.fares → d.made ≡ [] → f.outcome.outs ≡ []
none_made s d f h told e = sym h.whole ∙ ap (map out_of) h.ways ∙ told_some h.fares told (h.made ∙ e)

all_join : {A : Type 0} (P : A → Type 0) (xs ys : List A) → AllByRecursion P xs → AllByRecursion P ys → AllByRecursion P (xs ++ ys)
all_join P [] ys h k = k
all_join P (x ∷ xs) ys (h, more) k = (h, all_join P xs ys more k)

-- of all steps
pub all_sendings : (ss : List TurnStep) (ds : List Doing) (fs : List Fated) → AreFared ss ds fs → AllAreOuts ss → AreSendings (all_made ds)
all_sendings [] [] [] h k = tt
all_sendings (s ∷ ss) (d ∷ ds) (f ∷ fs) (h, more) (k, rest) = all_join IsSending d.made (all_made ds) (step_sendings s d f h k) (all_sendings ss ds fs more rest)
all_sendings [] [] (f ∷ fs) h k = absurd h
all_sendings [] (d ∷ ds) fs h k = absurd h
all_sendings (s ∷ ss) [] fs h k = absurd h
all_sendings (s ∷ ss) (d ∷ ds) [] h k = absurd h

pub all_no_less : (ss : List TurnStep) (ds : List Doing) (fs : List Fated) → AreFared ss ds fs → AllAreOuts ss → failures (all_made ds) ≤ lost_of ds
all_no_less [] [] [] h k = omega arith
all_no_less (s ∷ ss) (d ∷ ds) (f ∷ fs) (h, more) (k, rest) =
    let e = failures_join d.made (all_made ds) in
    let a = no_less_lost s d f h k in
    let b = all_no_less ss ds fs more rest in
    omega (arith, e, a, b)
all_no_less [] [] (f ∷ fs) h k = absurd h
all_no_less [] (d ∷ ds) fs h k = absurd h
all_no_less (s ∷ ss) [] fs h k = absurd h
all_no_less (s ∷ ss) (d ∷ ds) [] h k = absurd h

-- all fares of all steps are told
abbrev pub AllTold : (ss : List TurnStep) (ds : List Doing) (fs : List Fated) → AreFared ss ds fs → Type 0
AllTold [] [] [] h = Unit {0}
AllTold (s ∷ ss) (d ∷ ds) (f ∷ fs) (h, more) = AreTold h.fares × AllTold ss ds fs more
AllTold [] [] (f ∷ fs) h = ⊥
AllTold [] (d ∷ ds) fs h = ⊥
AllTold (s ∷ ss) [] fs h = ⊥
AllTold (s ∷ ss) (d ∷ ds) [] h = ⊥

pub all_are_told : (ss : List TurnStep) (ds : List Doing) (fs : List Fated) (h : AreFared ss ds fs) → AllAreOuts ss → AllByRecursion HaveCalls fs → lost_of ds ≤ failures (all_made ds)
    → AllTold ss ds fs h
all_are_told [] [] [] h k c few = tt
all_are_told (s ∷ ss) (d ∷ ds) (f ∷ fs) (h, more) (k, rest) (c, others) few =
    let e = failures_join d.made (all_made ds) in
    let a = no_less_lost s d f h k in
    let b = all_no_less ss ds fs more rest in
    (all_told s d f h k c (omega (arith, e, a, b, few)), all_are_told ss ds fs more rest others (omega (arith, e, a, b, few)))
all_are_told [] [] (f ∷ fs) h k c few = absurd h
all_are_told [] (d ∷ ds) fs h k c few = absurd h
all_are_told (s ∷ ss) [] fs h k c few = absurd h
all_are_told (s ∷ ss) (d ∷ ds) [] h k c few = absurd h

-- the fates of steps without a record
abbrev pub HasNone : TurnStep → Type 0
HasNone s = s.entry ≡ None

pub due_fates : (ss : List TurnStep) (ds : List Doing) (fs : List Fated) (h : AreFared ss ds fs) → AllTold ss ds fs h → AllByRecursion HasNone ss → all_fates fs ≡ map is_done (all_made ds)
due_fates [] [] [] h t n = refl
due_fates (s ∷ ss) (d ∷ ds) (f ∷ fs) (h, more) (t, rest) (n, others) =
    (λ j. (record_fates ((h.entry ∙ n) j) f.landed ++ ways_are s d f h t j) ++ due_fates ss ds fs more rest others j) ∙ sym (map-append is_done d.made (all_made ds))
due_fates [] [] (f ∷ fs) h t n = absurd h
due_fates [] (d ∷ ds) fs h t n = absurd h
due_fates (s ∷ ss) [] fs h t n = absurd h
due_fates (s ∷ ss) (d ∷ ds) [] h t n = absurd h
