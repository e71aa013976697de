-- Names that are kept, with their addresses.
use Rattle.std.proofs.Common.{append_assoc, append-nil, ℕ, List, Result, Vec, Global, Ok, Err, zero, suc, [], ◌∷◌, ◌++◌, ◌≡◌, ◌+◌, ◌<◌, ◌≤◌, ◌∙◌, refl, sym, ap, subst, inl, inr, length, take, drop, slice_index_or, arith}
use Rattle.std.specs.Prelude.{IfOk, string_bytes}
use Rattle.std.specs.List.{remove}
use Rattle.std.specs.Duration.{as_nanos}
use Rattle.std.specs.Net.ToAddrs.{HostAddrs, host_addrs}
use Rattle.std.specs.Array.Iter.{array_into_iter_items}
use Rattle.std.specs.Iterator.Adapters.{take_count, take_source}
use Rattle.std.proofs.lemmas.List.Elements.{All-append, All-drop, All-push, All-take, All-weaker}
use Rattle.std.specs.declared.net.SocketAddr.{SocketAddr}
use Rattle.std.specs.declared.time.Duration.{Duration}
use Rattle.system_calls.specs.Calls.{Calls, then}
use Rattle.system_calls.specs.Calls.Call.{Monotonic, Resolve}
use Rattle.atx_sites.specs.Departures.{Looks}
use Rattle.atx_sites.specs.Departures.Looks.{none as no_look, clock, resolves}
use Rattle.atx_sites.specs.LinkCalls.{Later}
use Rattle.atx_sites.specs.LinkCalls.Later.{none, more}
use Rattle.atx_sites.specs.Names.{Answered, AreAnswered, IsAnswered, IsFor, LookedUp, MayReach}
use Rattle.atx_sites.specs.Names.Answered.{read, beside}
use Rattle.atx_sites.proofs.Comings.{later_still}
use Rattle.atx_sites.specs.declared.resolved_names.Name.{Name}

-- one address comes, and the others
pub one_more : (s t : HostAddrs) (a : SocketAddr) (front : List SocketAddr) → array_into_iter_items (take_source s) ≡ a ∷ array_into_iter_items (take_source t) → take_count t + 1 ≡ take_count s
    → (front ++ a ∷ []) ++ host_addrs t ≡ front ++ host_addrs s
one_more s t a front items count =
    let n : take_count s ≡ suc (take_count t) = omega (arith, count) in
    let e : host_addrs s ≡ a ∷ host_addrs t = ap (λ n. take n (array_into_iter_items (take_source s))) n ∙ ap (take (suc (take_count t))) items in
    append_assoc front (a ∷ []) (host_addrs t) ∙ ap (λ l. front ++ l) (sym e)

none_left : (n : ℕ) (xs : List SocketAddr) → (0 < n → length xs ≡ 0) → take n xs ≡ []
none_left zero xs h = refl
none_left (suc n) [] h = refl
none_left (suc n) (x ∷ xs) h = let e : suc (length xs) ≡ 0 = h (omega arith) in cc

-- none comes any more
pub no_rest : (s : HostAddrs) (front : List SocketAddr) → (0 < take_count s → length (array_into_iter_items (take_source s)) ≡ 0) → front ≡ front ++ host_addrs s
no_rest s front h = sym (ap (λ l. front ++ l) (none_left (take_count s) (array_into_iter_items (take_source s)) h) ∙ append-nil front)

still_answered : (host : List ℕ) (port : ℕ) (addresses : List SocketAddr) (at : Duration) (old new : Calls) → Answered host port addresses at old → Later old new → Answered host port addresses at new
still_answered host port addresses at old new h (none e) = subst (Answered host port addresses at) (sym e) h
still_answered host port addresses at old new h (more call l e) = beside call (still_answered host port addresses at old _ h l) e

name_still : (old new : Calls) (name : Name) → Later old new → IsAnswered old name → IsAnswered new name
name_still old new name l (inl e) = inl e
name_still old new name l (inr (at, h, ends)) = inr (at, still_answered _ _ _ at old new h l, ends)

pub still_kept : (old new : Calls) (names : List Name) → AreAnswered old names → Later old new → AreAnswered new names
still_kept old new names h l = All-weaker (IsAnswered old) (IsAnswered new) (λ name. name_still old new name l) names h

pub resolving_later : (host : List ℕ) (port : ℕ) (old new : Calls) → Looks host port old new → Later old new
resolving_later host port old new (no_look e) = none e
resolving_later host port old new (clock got h e) = more (Monotonic got) (resolving_later host port old _ h) e
resolving_later host port old new (resolves got h e) = more (Resolve host port got) (resolving_later host port old _ h) e

pub kept_removed : (calls : Calls) (names : List Name) (i : ℕ) → AreAnswered calls names → AreAnswered calls (remove names i)
kept_removed calls names i h =
    All-append (IsAnswered calls) (take i names) (drop (suc i) names) (All-take (IsAnswered calls) i names h) (All-drop (IsAnswered calls) (suc i) names h)

pub kept_pushed : (calls : Calls) (names : List Name) (name : Name) → AreAnswered calls names → IsAnswered calls name → AreAnswered calls (names ++ name ∷ [])
kept_pushed calls names name h k = All-push (IsAnswered calls) names name h k

-- one that was looked up
pub name_looked_up : (host : List ℕ) (port : ℕ) (addresses : List SocketAddr) (old mid new : Calls) (at : Duration) (name : Name) → LookedUp host port addresses old mid
    → new ≡ then (Monotonic (Ok at)) mid → name.addresses.items ≡ addresses → string_bytes name.host ≡ host → name.port ≡ port → as_nanos name.ends ≤ as_nanos at + 60_000_000_000 → IsAnswered new name
name_looked_up host port addresses old mid new at name (inl e) told same bytes number ends = inl (same ∙ e)
name_looked_up host port addresses old mid new at name (inr e) told same bytes number ends =
    inr (
      at,
      subst (λ h. Answered h name.port name.addresses.items at new) (sym bytes)
          (subst (λ p. Answered host p name.addresses.items at new) (sym number) (subst (λ l. Answered host port l at new) (sym same) (read old e told))),
      ends,
    )

pub reaches_looked_up : (host : List ℕ) (port : ℕ) (addresses : List SocketAddr) (old mid new : Calls) (at : Duration) → LookedUp host port addresses old mid → new ≡ then (Monotonic (Ok at)) mid
    → MayReach host port addresses old new
reaches_looked_up host port addresses old mid new at (inl e) told = inl e
reaches_looked_up host port addresses old mid new at (inr e) told =
    inr (inr (at, at, read old e told, (mid, new, more (Resolve host port (Ok addresses)) (none refl) e, told, none refl), omega arith))

-- one that is kept
pub reaches_kept : (host : List ℕ) (port : ℕ) (addresses : List SocketAddr) (old new : Calls) (now : Duration) (names : List Name) (i : ℕ) (name : Name) → AreAnswered old names
    → i < length names → name ≡ slice_index_or names i name → addresses ≡ name.addresses.items → IsFor host port now name → new ≡ then (Monotonic (Ok now)) old → MayReach host port addresses old new
reaches_kept host port addresses old new now names i name h in' at same (bytes, number, early) told =
    let answered : IsAnswered new name = name_still old new name (more (Monotonic (Ok now)) (none refl) told) (subst (IsAnswered old) (sym at) (h i name in')) in
    elim answered [
      | inl e ↦ inl (same ∙ e)
      | inr k ↦ inr (inr (
        k.0,
        now,
        subst (λ x. Answered x port addresses k.0 new) bytes
            (subst (λ p. Answered (string_bytes name.host) p addresses k.0 new) number (subst (λ l. Answered (string_bytes name.host) name.port l k.0 new) (sym same) k.1)),
        (old, new, none refl, told, none refl),
        omega (arith, early, k.2),
      ))
    ]

-- what was so since a later call was so since an earlier one
pub reaches_from : (host : List ℕ) (port : ℕ) (addresses : List SocketAddr) (old mid new : Calls) → Later old mid → MayReach host port addresses mid new → MayReach host port addresses old new
reaches_from host port addresses old mid new l (inl e) = inl e
reaches_from host port addresses old mid new l (inr (inl own)) = inr (inl own)
reaches_from host port addresses old mid new l (inr (inr (at, now, answered, (before, next, since, told, behind), early))) =
    inr (inr (at, now, answered, (before, next, later_still old mid before l since, told, behind), early))

-- and it stays so behind others
pub reaches_behind : (host : List ℕ) (port : ℕ) (addresses : List SocketAddr) (old mid new : Calls) → MayReach host port addresses old mid → Later mid new → MayReach host port addresses old new
reaches_behind host port addresses old mid new (inl e) l = inl e
reaches_behind host port addresses old mid new (inr (inl own)) l = inr (inl own)
reaches_behind host port addresses old mid new (inr (inr (at, now, answered, (before, next, since, told, behind), early))) l =
    inr (inr (at, now, still_answered host port addresses at mid new answered l, (before, next, since, told, later_still next mid new behind l), early))

pub reaches_since : {E : Type 0} (host : List ℕ) (port : ℕ) (old mid new : Calls) (result : Result (Vec SocketAddr Global) E) → Later old mid → IfOk result (λ v. MayReach host port v.items mid new)
    → IfOk result (λ v. MayReach host port v.items old new)
reaches_since host port old mid new (Err fault) l h = tt
reaches_since host port old mid new (Ok v) l h = reaches_from host port v.items old mid new l h
