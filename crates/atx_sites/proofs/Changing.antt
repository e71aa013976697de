-- What becomes of connections that wait, step by step.
use Rattle.std.proofs.Common.{ℕ, suc, List, Bool, true, false, Ok, [], ◌∷◌, ◌++◌, ◌≡◌, ◌≤◌, ◌<◌, ◌+◌, ◌*◌, ◌∙◌, not, refl, sym, ap, subst, take, drop, length, slice_index_or, arith, min}
use Rattle.std.specs.Prelude.{All, filter}
use Rattle.std.specs.List.{remove, sum_by}
use lib.ListN.{set}
use Rattle.std.specs.Duration.{as_nanos, max_nanos}
use Rattle.std.specs.declared.time.Duration.{Duration}
use Rattle.std.proofs.lemmas.List.Elements.{All-append, All-drop, All-filter, All-push, All-set, All-take, All-weaker, filter_passes}
use Rattle.system_calls.specs.Calls.{Answer, Calls, Number, then}
use Rattle.system_calls.specs.Calls.Call.{Monotonic}
use Rattle.atx_sites.specs.Arrivals.{Bounded, HasCome, HaveCome, Stays, is_coming, is_ready, is_silent, size_of}
use Rattle.atx_sites.specs.LinkCalls.{HasRead, Later, ReadsClock}
use Rattle.atx_sites.specs.LinkCalls.Later.{none as no_more}
use Rattle.atx_sites.specs.Waits.{Changes, HasTen, IsInTime, IsTimed}
use Rattle.atx_sites.specs.Waits.Changes.{none, later, read, silent, turn, crowded, heavy, came}
use Rattle.atx_sites.specs.declared.arriving.Arriving.{Arriving}
use Rattle.atx_sites.proofs.Comings.{later_still}
use Rattle.atx_sites.proofs.DepartureBounds.{len_kept, sum_kept}

-- the clock, as it was read

pub read_clock : (now : Duration) (got : Answer Duration) (old new : Calls) → new ≡ then (Monotonic got) old → got ≡ Ok now → ReadsClock now old new
read_clock now got old new e r = (old, new, no_more refl, e ∙ ap (λ g. then (Monotonic g) old) r, no_more refl)

pub read_behind : (now : Duration) (old mid new : Calls) → ReadsClock now old mid → Later mid new → ReadsClock now old new
read_behind now old mid new (before, next, since, told, behind) l = (before, next, since, told, later_still next mid new behind l)

pub read_from : (now : Duration) (old mid new : Calls) → Later old mid → ReadsClock now mid new → ReadsClock now old new
read_from now old mid new l (before, next, since, told, behind) = (before, next, later_still old mid before l since, told, behind)

pub was_read : (now : Duration) (old new : Calls) → ReadsClock now old new → HasRead now new
was_read now old new (before, next, since, told, behind) = (before, next, told, behind)

pub still_read : (now : Duration) (old new : Calls) → HasRead now old → Later old new → HasRead now new
still_read now old new (before, next, told, behind) l = (before, next, told, later_still next old new behind l)

pub not_true : (b : Bool) → not b ≡ true → b ≡ false
not_true true e = cc
not_true false e = refl

module _ {C : Type 0} where
  pub unchanged : (items : List (Arriving C)) (calls : Calls) → Changes items calls items calls
  unchanged items calls = none refl refl

  module _ (first : List (Arriving C)) (start : Calls) where
    pub changes_later : (items : List (Arriving C)) (mid new : Calls) → Changes first start items mid → Later mid new → Changes first start items new
    changes_later items mid new h l = later h l

    pub changed_as : (items others : List (Arriving C)) (mid new : Calls) → Changes first start items mid → new ≡ mid → others ≡ items → Changes first start others new
    changed_as items others mid new h e f = subst (λ l. Changes first start l new) (sym f) (subst (λ z. Changes first start items z) (sym e) h)

    pub changed_since : (items : List (Arriving C)) (new : Calls) → Changes first start items new → Later start new
    changed_since items new (none i e) = no_more e
    changed_since items new (later h l) = later_still start _ new (changed_since _ _ h) l
    changed_since items new (read i before after h inside at stays e) = changed_since _ new h
    changed_since items new (silent now h clock e) = changed_since _ new h
    changed_since items new (turn now i a h clock at is e) = changed_since _ new h
    changed_since items new (crowded now i a h clock full at is e) = changed_since _ new h
    changed_since items new (heavy i a h full at is e) = changed_since _ new h
    changed_since items new (came now a h clock ten e) = changed_since _ new h

    pub silent_closed : (mid items : List (Arriving C)) (calls : Calls) (now : Duration) → ReadsClock now start calls → items ≡ filter (λ a. not (is_silent now a)) mid
        → Changes first start mid calls → Changes first start items calls
    silent_closed mid items calls now clock e h = silent now h clock e

    pub turned : (mid items : List (Arriving C)) (calls : Calls) (now : Duration) (i : ℕ) (a : Arriving C) → ReadsClock now start calls → a ≡ slice_index_or mid i a → is_ready now a ≡ true
        → items ≡ remove mid i → Changes first start mid calls → Changes first start items calls
    turned mid items calls now i a clock at is e h = turn now i a h clock at is e

    pub made_room : (mid items : List (Arriving C)) (calls : Calls) (now : Duration) (i : ℕ) (a : Arriving C) → ReadsClock now start calls → 1_024 ≤ length mid → a ≡ slice_index_or mid i a
        → is_ready now a ≡ false → items ≡ remove mid i → Changes first start mid calls → Changes first start items calls
    made_room mid items calls now i a clock full at is e h = crowded now i a h clock full at is e

    pub read_on_at : (mid items : List (Arriving C)) (calls : Calls) (i : ℕ) (before after : Arriving C) → i < length mid → before ≡ slice_index_or mid i before → Stays before after → items ≡ set mid i after
        → Changes first start mid calls → Changes first start items calls
    read_on_at mid items calls i before after inside at stays e h = read i before after h inside at stays e

    pub weighed_out : (mid items : List (Arriving C)) (calls : Calls) (i : ℕ) (a : Arriving C) → 67_108_864 ≤ sum_by size_of mid → a ≡ slice_index_or mid i a → is_coming a ≡ true
        → items ≡ remove mid i → Changes first start mid calls → Changes first start items calls
    weighed_out mid items calls i a full at is e h = heavy i a h full at is e

    pub one_came : (mid items : List (Arriving C)) (calls : Calls) (now : Duration) (a : Arriving C) → ReadsClock now start calls → HasTen now a → items ≡ mid ++ a ∷ []
        → Changes first start mid calls → Changes first start items calls
    one_came mid items calls now a clock ten e h = came now a h clock ten e

    pub changed_items : (items others : List (Arriving C)) (new : Calls) → others ≡ items → Changes first start items new → Changes first start others new
    changed_items items others new e h = subst (λ l. Changes first start l new) (sym e) h

  pub in_time_from : (taken : Arriving C) (others : List (Arriving C)) (old mid new : Calls) → Later old mid → IsInTime taken others mid new → IsInTime taken others old new
  in_time_from taken others old mid new l (now, clock, ready, quiet) = (now, read_from now old mid new l clock, ready, quiet)

  pub in_time_of : (taken served : Arriving C) (others : List (Arriving C)) (old new : Calls) → served ≡ taken → IsInTime taken others old new → IsInTime served others old new
  in_time_of taken served others old new e h = subst (λ (a : Arriving C). IsInTime a others old new) (sym e) h

  -- none is left whose time is over without a byte
  pub none_silent : (now : Duration) (items : List (Arriving C)) → All (λ a. is_silent now a ≡ false) (filter (λ a. not (is_silent now a)) items)
  none_silent now items =
      All-weaker (λ a. not (is_silent now a) ≡ true) (λ a. is_silent now a ≡ false) (λ a e. not_true (is_silent now a) e) (filter (λ a. not (is_silent now a)) items)
      (filter_passes (λ a. not (is_silent now a)) items)

  pub all_removed : (P : Arriving C → Type 0) (items : List (Arriving C)) (i : ℕ) → All P items → All P (remove items i)
  all_removed P items i h = All-append P (take i items) (drop (suc i) items) (All-take P i items h) (All-drop P (suc i) items h)

  -- what holds of each of them holds of those that are kept
  pub have_kept : (number : C → Number) (listener : Number) (calls : Calls) (keeps : Arriving C → Bool) (items : List (Arriving C)) → HaveCome number listener calls items
      → HaveCome number listener calls (filter keeps items)
  have_kept number listener calls keeps items h = All-filter keeps (HasCome number listener calls) items h

  pub bounded_kept : (keeps : Arriving C → Bool) (items : List (Arriving C)) → Bounded items → Bounded (filter keeps items)
  bounded_kept keeps items (count, bytes, each) = (
    omega (arith, count, len_kept keeps items),
    omega (arith, bytes, sum_kept size_of keeps items),
    All-filter keeps (λ a. size_of a ≤ 131_072) items each,
  )

  -- a new one has 10 seconds
  pub has_ten : (now given ends : Duration) (a : Arriving C) → as_nanos ends ≡ min (as_nanos now + as_nanos given) max_nanos → as_nanos given ≡ 10 * 1_000_000_000 → a.ends ≡ ends → HasTen now a
  has_ten now given ends a sum ten is = ap as_nanos is ∙ sum ∙ ap (λ n. min (as_nanos now + n) max_nanos) ten

  timed_later : (old new : Calls) (a : Arriving C) → Later old new → IsTimed old a → IsTimed new a
  timed_later old new a l (at, clock, ten) = (at, still_read at old new clock l, ten)

  pub all_timed_later : (old new : Calls) (items : List (Arriving C)) → All (IsTimed old) items → Later old new → All (IsTimed new) items
  all_timed_later old new items h l = All-weaker (IsTimed old) (IsTimed new) (λ a. timed_later old new a l) items h

  module _ (first : List (Arriving C)) (start : Calls) where
    -- each has 10 seconds by a clock that was read, also behind that
    pub timed_changed : (items : List (Arriving C)) (new : Calls) → All (IsTimed start) first → Changes first start items new → All (IsTimed new) items
    timed_changed items new h (none i e) = subst (λ l. All (IsTimed new) l) (sym i) (subst (λ z. All (IsTimed z) first) (sym e) h)
    timed_changed items new h (later {mid = mid} k l) = all_timed_later mid new items (timed_changed items mid h k) l
    timed_changed items new h (read {mid = mid} i before after k inside at stays e) =
        let timed : All (IsTimed new) mid = timed_changed mid new h k in
        let one : IsTimed new before = subst (IsTimed new) (sym at) (timed i before inside) in
        let other : IsTimed new after = (one.0, one.1, ap as_nanos stays.1 ∙ one.2) in
        subst (λ l. All (IsTimed new) l) (sym e) (All-set (IsTimed new) mid i after other timed)
    timed_changed items new h (silent {mid = mid} now k clock e) =
        subst (λ l. All (IsTimed new) l) (sym e) (All-filter (λ a. not (is_silent now a)) (IsTimed new) mid (timed_changed mid new h k))
    timed_changed items new h (turn {mid = mid} now i a k clock at is e) = subst (λ l. All (IsTimed new) l) (sym e) (all_removed (IsTimed new) mid i (timed_changed mid new h k))
    timed_changed items new h (crowded {mid = mid} now i a k clock full at is e) =
        subst (λ l. All (IsTimed new) l) (sym e) (all_removed (IsTimed new) mid i (timed_changed mid new h k))
    timed_changed items new h (heavy {mid = mid} i a k full at is e) = subst (λ l. All (IsTimed new) l) (sym e) (all_removed (IsTimed new) mid i (timed_changed mid new h k))
    timed_changed items new h (came {mid = mid} now a k clock ten e) =
        subst (λ l. All (IsTimed new) l) (sym e) (All-push (IsTimed new) mid a (timed_changed mid new h k) (now, was_read now start new clock, ten))
