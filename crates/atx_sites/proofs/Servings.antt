-- The connection that is served.
use Rattle.std.proofs.Common.{ℕ, List, Result, Ok, Err, OnOk, OnErr, inl, ◌≡◌, ◌++◌, refl}
use Rattle.system_calls.specs.Calls.{Calls, Number}
use Rattle.atx_sites.specs.Arrivals.{Keeps}
use Rattle.atx_sites.specs.LinkCalls.Sending.{none as no_piece}
use Rattle.atx_sites.specs.declared.connection.Served.{Served}

pub kept_behind : {C E : Type 0} (number : C → Number) (bytes : List ℕ) (result : Result (Unit {0}) E) (old new : Served C) (calls : Calls)
    → OnOk result (new.unsent.items ≡ old.unsent.items ++ bytes) → OnErr result (new.unsent.items ≡ old.unsent.items)
    → new.arriving ≡ old.arriving → Keeps number bytes result old new calls calls
kept_behind number bytes (Ok done) old new calls ok err same = (same, (0, no_piece refl refl, ok, inl refl))
kept_behind number bytes (Err fault) old new calls ok err same = (same, err, (0, no_piece refl refl))
