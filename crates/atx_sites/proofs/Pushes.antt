-- What a push left, by its answer.
use Rattle.std.proofs.Common.{ℕ, Bool, List, Result, Ok, Err, true, false, [], ◌∷◌, ◌++◌, ◌≡◌, ◌+◌, ◌∙◌, ap, length, not, subst, sym}
use Rattle.std.specs.Prelude.{if◌then◌else◌, is_err, is_ok}
use Rattle.site_model.specs.Counts.{capped}
use Rattle.system_calls.specs.Calls.{Calls}
use Rattle.atx_sites.specs.Departures.{Closes, IfOut}
use Rattle.atx_sites.specs.Disks.{Tallied}
use Rattle.atx_sites.specs.LinkCalls.{ReadsClock}
use Rattle.atx_sites.specs.Names.{AreAnswered, IsAnswered}
use Rattle.atx_sites.specs.Waits.{Changes, HasTen}
use Rattle.atx_sites.specs.Waits.Changes.{came}
use Rattle.atx_sites.specs.declared.arriving.Arriving.{Arriving}
use Rattle.std.specs.declared.time.Duration.{Duration}
use Rattle.atx_sites.specs.declared.resolved_names.Name.{Name}
use Rattle.atx_sites.proofs.NamesKept.{kept_pushed}

pub pushed : {E X : Type 0} (r : Result (Unit {0}) E) (new more old : X) → is_err r ≡ false → new ≡ (if is_ok r then more else old) → new ≡ more
pushed (Ok x) new more old h e = e
pushed (Err x) new more old h e = cc

pub not_pushed : {E X : Type 0} (r : Result (Unit {0}) E) (new more old : X) → is_err r ≡ true → new ≡ (if is_ok r then more else old) → new ≡ old
not_pushed (Ok x) new more old h e = cc
not_pushed (Err x) new more old h e = e

-- what becomes of one that is closed
pub closed : {T E : Type 0} (r : Result T E) (out : Bool) (all taken : ℕ) → is_err r ≡ not out → IfOut out all taken → Closes r all taken
closed r true all taken e h = subst (λ b. IfOut (not b) all taken) (sym e) h
closed r false all taken e h = subst (λ b. IfOut (not b) all taken) (sym e) h

-- a failure is counted once
pub tallied_err : {T E : Type 0} (r : Result T E) (before mid now : ℕ) → is_err r ≡ true → mid ≡ before → now ≡ capped (mid + 1) → Tallied before now r
tallied_err (Ok x) before mid now e same h = cc
tallied_err (Err x) before mid now e same h = h ∙ ap (λ n. capped (n + 1)) same

pub tallied_ok : {T E : Type 0} (r : Result T E) (before now : ℕ) → is_err r ≡ false → now ≡ before → Tallied before now r
tallied_ok (Ok x) before now e same = same
tallied_ok (Err x) before now e same = cc

pub closed_of : {T E : Type 0} (r : Result T E) (out : Bool) (bytes items : List ℕ) (taken : ℕ) → bytes ≡ items → is_err r ≡ not out → IfOut out (length bytes) taken
    → Closes r (length items) taken
closed_of r out bytes items taken same e h = closed r out (length items) taken e (subst (λ (l : List ℕ). IfOut out (length l) taken) same h)

-- a name that is kept
pub kept_push : {E : Type 0} (r : Result (Unit {0}) E) (calls : Calls) (old new : List Name) (name : Name) → new ≡ (if is_ok r then old ++ name ∷ [] else old) → AreAnswered calls old
    → IsAnswered calls name → AreAnswered calls new
kept_push (Ok x) calls old new name e h k = subst (AreAnswered calls) (sym e) (kept_pushed calls old name h k)
kept_push (Err x) calls old new name e h k = subst (AreAnswered calls) (sym e) h

-- a connection that is kept, or isn't
module _ {C E : Type 0} (first : List (Arriving C)) (start : Calls) where
  pub maybe_came : (result : Result (Unit {0}) E) (mid items : List (Arriving C)) (calls : Calls) (now : Duration) (a : Arriving C) → ReadsClock now start calls → HasTen now a
      → items ≡ (if is_ok result then mid ++ a ∷ [] else mid) → Changes first start mid calls → Changes first start items calls
  maybe_came (Ok x) mid items calls now a clock ten e h = came now a h clock ten e
  maybe_came (Err x) mid items calls now a clock ten e h = subst (λ l. Changes first start l calls) (sym e) h
