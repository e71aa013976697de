-- What is said of a connection that is served stands also where a failure is counted.
use Rattle.std.proofs.Common.{ℕ, List, Bool, Option, Result, Ok, Err, None, Some, ◌≡◌, true, false, refl, sym, subst, IfOk}
use Rattle.site_model.specs.declared.source.Failed.{Failed}
use Rattle.system_calls.specs.Calls.{Answer, Calls, Number}
use Rattle.atx_sites.specs.Arrivals.{Gives, KeepsOn, KeptOn}
use Rattle.atx_sites.specs.Departures.{Posts}
use Rattle.atx_sites.specs.Disks.{Tallied}
use Rattle.atx_sites.specs.Waits.{IfAllOnTime, IfInTime}
use Rattle.atx_sites.specs.declared.arriving.Arriving.{Arriving}
use Rattle.atx_sites.specs.declared.connection.Served.{Served}
use Rattle.atx_sites.specs.declared.outgoing.Outgoing.{Outgoing}
use Rattle.atx_sites.specs.declared.resolved_names.Name.{Name}

module _ {C : Type 0} where
  pub gives_counted : (buf : List ℕ) (answer : Answer ℕ) (result : Result ℕ Failed) (old new : Option (Served C)) → ((x : ℕ) → answer ≡ Ok x → result ≡ Ok x)
      → IfOk result (λ x. answer ≡ Ok x) → Gives buf answer old new → Gives buf result old new
  gives_counted buf (Ok n) result old new was ok h = subst (λ r. Gives buf r old new) (sym (was n refl)) h
  gives_counted buf (Err e) (Ok x) old new was ok h = cc
  gives_counted buf (Err e) (Err f) (Some a) (Some b) was ok h = h
  gives_counted buf (Err e) (Err f) (Some a) None was ok h = h
  gives_counted buf (Err e) (Err f) None new was ok h = h

  kept_failed : {E F : Type 0} (number : C → Number) (bytes : List ℕ) (cut : Bool) (e : E) (f : F) (old new : Served C) (before now : Calls)
      → KeptOn cut number bytes (Err e) old new before now → KeptOn cut number bytes (Err f) old new before now
  kept_failed number bytes true e f old new before now h = h
  kept_failed number bytes false e f old new before now h = h

  kept_done : (E F : Type 0) (number : C → Number) (bytes : List ℕ) (cut : Bool) (d : Unit {0}) (old new : Served C) (before now : Calls)
      → KeptOn {E = E} cut number bytes (Ok d) old new before now → KeptOn {E = F} cut number bytes (Ok d) old new before now
  kept_done E F number bytes true d old new before now h = h
  kept_done E F number bytes false d old new before now h = h

  pub kept_counted : (number : C → Number) (bytes : List ℕ) (answer : Answer (Unit {0})) (result : Result (Unit {0}) Failed) (old new : Option (Served C)) (before now : Calls)
      → ((x : Unit {0}) → answer ≡ Ok x → result ≡ Ok x) → IfOk result (λ x. answer ≡ Ok x) → KeepsOn number bytes answer old new before now
      → KeepsOn number bytes result old new before now
  kept_counted number bytes (Ok d) result (Some a) (Some b) before now was ok h =
      subst (λ r. KeepsOn number bytes r (Some a) (Some b) before now) (sym (was d refl)) (kept_done _ _ number bytes a.is_cut d a b before now h)
  kept_counted number bytes (Ok d) result (Some a) None before now was ok h = absurd h
  kept_counted number bytes (Ok d) result None new before now was ok h = h
  kept_counted number bytes (Err e) (Ok x) old new before now was ok h = cc
  kept_counted number bytes (Err e) (Err f) (Some a) (Some b) before now was ok h = kept_failed number bytes a.is_cut e f a b before now h
  kept_counted number bytes (Err e) (Err f) (Some a) None before now was ok h = h
  kept_counted number bytes (Err e) (Err f) None new before now was ok h = h

-- of a post as well
pub tallied_counted : {T E F : Type 0} (before now : ℕ) (answer : Result T E) (result : Result T F) → ((x : T) → answer ≡ Ok x → result ≡ Ok x) → IfOk result (λ x. answer ≡ Ok x)
    → Tallied before now answer → Tallied before now result
tallied_counted before now (Ok x) result was ok h = subst (λ r. Tallied before now r) (sym (was x refl)) h
tallied_counted before now (Err e) (Ok x) was ok h = cc
tallied_counted before now (Err e) (Err f) was ok h = h

posts_done : {C : Type 0} (E F : Type 0) (number : C → Number) (names : List Name) (host : List ℕ) (port : ℕ) (bytes : List ℕ) (before : List (Outgoing C)) (old : Calls) (d : Unit {0}) (after : List (Outgoing C)) (new : Calls)
    → Posts {E = E} number names host port bytes before old (Ok d) after new → Posts {E = F} number names host port bytes before old (Ok d) after new
posts_done E F number names host port bytes before old d after new h = h

posts_failed : {C E F : Type 0} (number : C → Number) (names : List Name) (host : List ℕ) (port : ℕ) (bytes : List ℕ) (before : List (Outgoing C)) (old : Calls) (e : E) (f : F) (after : List (Outgoing C)) (new : Calls)
    → Posts number names host port bytes before old (Err e) after new → Posts number names host port bytes before old (Err f) after new
posts_failed number names host port bytes before old e f after new h = h

pub posts_counted : {C E F : Type 0} (number : C → Number) (names : List Name) (host : List ℕ) (port : ℕ) (bytes : List ℕ) (before : List (Outgoing C)) (old : Calls) (answer : Result (Unit {0}) E) (result : Result (Unit {0}) F)
    (after : List (Outgoing C)) (new : Calls) → ((x : Unit {0}) → answer ≡ Ok x → result ≡ Ok x) → IfOk result (λ x. answer ≡ Ok x)
    → Posts number names host port bytes before old answer after new → Posts number names host port bytes before old result after new
posts_counted {E = E} {F = F} number names host port bytes before old (Ok d) result after new was ok h =
    subst (λ r. Posts number names host port bytes before old r after new) (sym (was d refl)) (posts_done E F number names host port bytes before old d after new h)
posts_counted number names host port bytes before old (Err e) (Ok x) after new was ok h = cc
posts_counted number names host port bytes before old (Err e) (Err f) after new was ok h = posts_failed number names host port bytes before old e f after new h

-- of one that was taken
pub in_time_counted : {T C : Type 0} (E : Type 0) (done : Unit {0}) (x : T) (answer : Answer (Unit {0})) (served : Option (Served C)) (others : List (Arriving C)) (old new : Calls) → answer ≡ Ok done
    → IfInTime answer served others old new → IfInTime {E = E} (Ok x) served others old new
in_time_counted E done x (Ok d) (Some s) others old new is h = h
in_time_counted E done x (Ok d) None others old new is h = tt
in_time_counted E done x (Err e) served others old new is h = cc

pub on_time_counted : {T C : Type 0} (E : Type 0) (done : Unit {0}) (x : T) (answer : Answer (Unit {0})) (served : Option (Served C)) (leaving : List (Outgoing C)) (old new : Calls) → answer ≡ Ok done
    → IfAllOnTime answer served leaving old new → IfAllOnTime {E = E} (Ok x) served leaving old new
on_time_counted E done x (Ok d) (Some s) leaving old new is h = h
on_time_counted E done x (Ok d) None leaving old new is h = tt
on_time_counted E done x (Err e) served leaving old new is h = cc
