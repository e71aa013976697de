-- The calls of one connection that leaves, one after another.
use Rattle.std.proofs.Common.{ℕ, List, Some, Ok, Err, ◌≡◌, ◌+◌, ◌-◌, ◌<◌, ◌≤◌, ◌∙◌, refl, sym, ap, subst, take, drop, length, slice_index_or, arith}
use Rattle.std.proofs.lemmas.List.{take_all, length-drop}
use Rattle.std.specs.declared.io.Error.{Error}
use Rattle.std.specs.declared.net.SocketAddr.{SocketAddr}
use Rattle.system_calls.specs.Calls.{Calls, Number, Answer, then, answer}
use Rattle.system_calls.specs.Calls.Call.{Connect, Read, ShutDown, Write}
use Rattle.atx_sites.specs.Departures.{Leaves, Goes, Begins, Unreached}
use Rattle.atx_sites.specs.Departures.Unreached.{none as none_tried, again}
use Rattle.atx_sites.specs.Departures.Leaves.{took, failed, connects, unreached, shuts, reads}

module _ (addresses : List SocketAddr) (bytes : List ℕ) where
  pub stays : (s : Number) (k : ℕ) (old : Calls) → Goes addresses bytes s k old s k old
  stays s k old = λ _ _ _ h. h

  pub goes_then : (from : Number) (sent : ℕ) (old : Calls) (s t : Number) (k j : ℕ) (mid new : Calls) → Goes addresses bytes from sent old s k mid
      → Goes addresses bytes s k mid t j new → Goes addresses bytes from sent old t j new
  goes_then from sent old s t k j mid new g h = λ stream n first l. h stream n first (g stream n first l)

  -- the bytes, as the code has them
  pub rest_of : (s : Number) (k : ℕ) (got : Answer ℕ) (mid new : Calls)
      → new ≡ then (Write s (take (length bytes - k) (drop k bytes)) got) mid → new ≡ then (Write s (drop k bytes) got) mid
  rest_of s k got mid new e =
      e ∙ ap (λ (l : List ℕ). then (Write s l got) mid) (take_all (length bytes - k) (drop k bytes) (omega (arith, length-drop k bytes)))

  pub goes_took : (from : Number) (sent : ℕ) (old : Calls) (s : Number) (k m j : ℕ) (mid new : Calls) (got : Answer ℕ) → Goes addresses bytes from sent old s k mid
      → new ≡ then (Write s (take (length bytes - k) (drop k bytes)) got) mid → got ≡ Ok m → j ≡ k + m → Goes addresses bytes from sent old s j new
  goes_took from sent old s k m j mid new got g e r i = λ stream n first h.
      took m (g stream n first h) i (rest_of s k got mid new e ∙ ap (λ x. then (Write s (drop k bytes) x) mid) r)

  pub goes_failed : (from : Number) (sent : ℕ) (old : Calls) (s : Number) (k j : ℕ) (mid new : Calls) (got : Answer ℕ) (fault : Error) → Goes addresses bytes from sent old s k mid
      → new ≡ then (Write s (take (length bytes - k) (drop k bytes)) got) mid → got ≡ Err fault → j ≡ k → Goes addresses bytes from sent old s j new
  goes_failed from sent old s k j mid new got fault g e r i = λ stream n first h.
      subst (λ x. Leaves addresses bytes stream n first s x new) (sym i) (failed fault (g stream n first h) (rest_of s k got mid new e ∙ ap (λ x. then (Write s (drop k bytes) x) mid) r))

  pub goes_unreached : (from : Number) (sent : ℕ) (old : Calls) (s : Number) (k : ℕ) (mid new : Calls) → Goes addresses bytes from sent old s k mid → k ≡ 0
      → Unreached addresses mid new → Goes addresses bytes from sent old s k new
  goes_unreached from sent old s k mid new g z (none_tried e) = subst (Goes addresses bytes from sent old s k) (sym e) g
  goes_unreached from sent old s k mid new g z (again address fault u c e) = λ stream n first h.
      unreached address fault (goes_unreached from sent old s k mid _ g z u stream n first h) z c e

  -- another connection, where nothing was taken
  pub goes_begun : {C : Type 0} (number : C → Number) (next : C) (from : Number) (sent : ℕ) (old : Calls) (s : Number) (k : ℕ) (mid new : Calls) → Goes addresses bytes from sent old s k mid
      → k ≡ 0 → Begins number addresses (Some next) mid new → Goes addresses bytes from sent old (number next) k new
  goes_begun number next from sent old s k mid new g z (past, u, reached) = λ stream n first h.
      connects reached.0 (goes_unreached from sent old s k mid past g z u stream n first h) z reached.1 reached.2

  pub goes_shut : (s : Number) (k : ℕ) (got : Answer (Unit {0})) (mid new : Calls) → length bytes ≤ k → new ≡ then (ShutDown s got) mid → Goes addresses bytes s k mid s k new
  goes_shut s k got mid new out e = λ stream n first h. shuts got h out e

  pub goes_read : (from : Number) (sent : ℕ) (old : Calls) (s : Number) (k : ℕ) (got : Answer (List ℕ)) (mid new : Calls) → Goes addresses bytes from sent old s k mid
      → length bytes ≤ k → new ≡ then (Read s got) mid → Goes addresses bytes from sent old s k new
  goes_read from sent old s k got mid new g out e = λ stream n first h. reads got (g stream n first h) out e

module _ (addresses : List SocketAddr) where
  pub untried : (old : Calls) → Unreached addresses old old
  untried old = none_tried refl

  pub tried : (old mid new : Calls) {C : Type 0} (number : C → Number) (at : ℕ) (address : SocketAddr) (got : Answer C) (fault : Error) → Unreached addresses old mid
      → at < length addresses → address ≡ slice_index_or addresses at address → new ≡ then (Connect address (answer number got)) mid → got ≡ Err fault → Unreached addresses old new
  tried old mid new number at address got fault u i h e r =
      again address fault u (at, i, sym h) (e ∙ ap (λ x. then (Connect address (answer number x)) mid) r)

  pub begins : (old mid new : Calls) {C : Type 0} (number : C → Number) (stream : C) (at : ℕ) (address : SocketAddr) (got : Answer C) → Unreached addresses old mid
      → at < length addresses → address ≡ slice_index_or addresses at address → new ≡ then (Connect address (answer number got)) mid → got ≡ Ok stream
      → Begins number addresses (Some stream) old new
  begins old mid new number stream at address got u i h e r =
      (mid, u, (address, (at, i, sym h), e ∙ ap (λ x. then (Connect address (answer number x)) mid) r))
