-- What is done to files are calls later.
use Rattle.std.proofs.Common.{ℕ, List, Result, Ok, Err, inl, inr, refl, subst, sym, ◌≡◌}
use Rattle.system_calls.specs.Calls.{Calls, Number}
use Rattle.atx_sites.specs.FileCalls.{Raises, Reads, Sized, Syncs, Tries, Writes, Writing}
use Rattle.atx_sites.specs.FileCalls.Tries.{none as untried, again}
use Rattle.atx_sites.specs.FileCalls.Writing.{none as unwritten, took, failed}
use Rattle.atx_sites.specs.LinkCalls.{Later}
use Rattle.atx_sites.specs.LinkCalls.Later.{none, more}

pub sized_later : {E : Type 0} (file : Number) (result : Result ℕ E) (old new : Calls) → Sized file result old new → Later old new
sized_later file (Ok n) old new (stat, is, e) = more _ (none refl) e
sized_later file (Err fault) old new (inl e) = none e
sized_later file (Err fault) old new (inr (why, e)) = more _ (none refl) e

tries_later : (file : Number) (at : ℕ) (old new : Calls) → Tries file at old new → Later old new
tries_later file at old new (untried e) = none e
tries_later file at old new (again {mid = mid} fault h e) = more _ (tries_later file at old mid h) e

pub reads_later : {E : Type 0} (file : Number) (at : ℕ) (buf : List ℕ) (result : Result ℕ E) (old new : Calls) → Reads file at buf result old new → Later old new
reads_later file at buf (Ok n) old new (mid, h, e) = more _ (tries_later file at old mid h) e
reads_later file at buf (Err fault) old new h = tries_later file at old new h

writing_later : (file : Number) (at : ℕ) (bytes : List ℕ) (old : Calls) (k : ℕ) (new : Calls) → Writing file at bytes old k new → Later old new
writing_later file at bytes old k new (unwritten z e) = none e
writing_later file at bytes old k new (took m h i e) = more _ (writing_later file at bytes old _ _ h) e
writing_later file at bytes old k new (failed fault h e) = more _ (writing_later file at bytes old _ _ h) e

pub writes_later : {E : Type 0} (file : Number) (at : ℕ) (bytes : List ℕ) (result : Result (Unit {0}) E) (old new : Calls) → Writes file at bytes result old new → Later old new
writes_later file at bytes (Ok done) old new h = writing_later file at bytes old _ new h
writes_later file at bytes (Err fault) old new (k, h) = writing_later file at bytes old k new h

pub syncs_later : {E : Type 0} (file : Number) (result : Result (Unit {0}) E) (old new : Calls) → Syncs file result old new → Later old new
syncs_later file (Ok done) old new e = more _ (none refl) e
syncs_later file (Err fault) old new (inl e) = none e
syncs_later file (Err fault) old new (inr (why, e)) = more _ (none refl) e

pub raises_later : {E : Type 0} (file : Number) (at : ℕ) (result : Result (Unit {0}) E) (old new : Calls) → Raises file at result old new → Later old new
raises_later file at (Ok done) old new (mid, h, e) = more _ (writing_later file at _ old _ mid h) e
raises_later file at (Err fault) old new (k, mid, h, inl e) = more_none old mid new (writing_later file at _ old k mid h) e
  where
    more_none : (old mid new : Calls) → Later old mid → new ≡ mid → Later old new
    more_none old mid new l e = subst (Later old) (sym e) l
raises_later file at (Err fault) old new (k, mid, h, inr (why, e)) = more _ (writing_later file at _ old k mid h) e
