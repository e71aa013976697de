-- Until when connections leave.
use Rattle.std.proofs.Common.{ℕ, suc, List, Result, Some, Vec, true, false, ◌≡◌, ◌≤◌, ◌+◌, ◌∙◌, not, refl, sym, subst, inl, inr, take, drop, arith}
use Rattle.std.specs.Prelude.{All, filter}
use Rattle.std.specs.Duration.{as_nanos}
use Rattle.std.specs.declared.alloc.Global.{Global}
use Rattle.std.specs.declared.io.Error.{Error}
use Rattle.std.specs.declared.net.SocketAddr.{SocketAddr}
use Rattle.std.specs.declared.time.Duration.{Duration}
use Rattle.std.proofs.lemmas.List.Elements.{All-append, All-drop, All-filter, All-nil, All-pop, All-push, All-take, All-weaker, filter_passes}
use Rattle.system_calls.specs.Calls.{Calls, Number}
use Rattle.atx_sites.specs.Departures.{Advances, Answers, HasFive, IsOnTime, IsPart, IsTimed, Posts, PostsTo, Starts, StaysInTime, is_over, rank}
use Rattle.atx_sites.specs.Departures.Advances.{none as nothing, next as behind}
use Rattle.atx_sites.specs.Departures.IsPart.{none as all_there, less}
use Rattle.atx_sites.specs.LinkCalls.{HasRead, Later, ReadsClock}
use Rattle.atx_sites.specs.LinkCalls.Later.{none as no_more, more}
use Rattle.atx_sites.specs.declared.outgoing.Outgoing.{Outgoing}
use Rattle.atx_sites.specs.declared.resolved_names.Name.{Name}
use Rattle.atx_sites.proofs.Afterwards.{advances_later, begins_later, leaves_later, posts_to_later}
use Rattle.atx_sites.proofs.Changing.{not_true, read_behind, read_from, still_read, was_read}
use Rattle.atx_sites.proofs.NamesKept.{resolving_later}

module _ {C : Type 0} where
  -- at a later stage, or the same
  pub stays_in_time : (now : Duration) (a : Outgoing C) → StaysInTime now a a
  stays_in_time now a = inl refl

  pub time_then : (now : Duration) (a b c : Outgoing C) → StaysInTime now a b → (c.ends ≡ b.ends) × (rank b.stage ≤ rank c.stage) → StaysInTime now a c
  time_then now a b c (inl e) (f, h) = inl (f ∙ e)
  time_then now a b c (inr (higher, five)) (f, h) = inr (omega (arith, higher, h), subst (λ (t : Duration). as_nanos t ≤ as_nanos now + 5_000_000_000) (sym f) five)

  goes_timed : (now : Duration) (before after : Outgoing C) (old new : Calls) → IsTimed old before → HasRead now old → Later old new → StaysInTime now before after → IsTimed new after
  goes_timed now before after old new (at, clock, five) read l (inl e) = (at, still_read at old new clock l, subst (λ (t : Duration). as_nanos t ≤ as_nanos at + 5_000_000_000) (sym e) five)
  goes_timed now before after old new timed read l (inr (higher, five)) = (now, still_read now old new read l, five)

  timed_later : (old new : Calls) (o : Outgoing C) → Later old new → IsTimed old o → IsTimed new o
  timed_later old new o l (at, clock, five) = (at, still_read at old new clock l, five)

  pub all_timed_later : (old new : Calls) (items : List (Outgoing C)) → All (IsTimed old) items → Later old new → All (IsTimed new) items
  all_timed_later old new items h l = All-weaker (IsTimed old) (IsTimed new) (λ o. timed_later old new o l) items h

  pub all_on_time_later : (start old new : Calls) (items : List (Outgoing C)) → All (IsOnTime start old) items → Later old new → All (IsOnTime start new) items
  all_on_time_later start old new items h l =
      All-weaker (IsOnTime start old) (IsOnTime start new) (λ o t. (t.0, read_behind t.0 start old new t.1 l, t.2)) items h

  pub all_on_time_from : (start first new : Calls) (items : List (Outgoing C)) → Later start first → All (IsOnTime first new) items → All (IsOnTime start new) items
  all_on_time_from start first new items l h =
      All-weaker (IsOnTime first new) (IsOnTime start new) (λ o t. (t.0, read_from t.0 start first new l t.1, t.2)) items h

  pub all_part : (P : Outgoing C → Type 0) (all part : List (Outgoing C)) → IsPart all part → All P all → All P part
  all_part P all part (all_there e) h = subst (λ l. All P l) (sym e) h
  all_part P all part (less {mid = mid} i k e) h =
      let m : All P mid = all_part P all mid k h in
      subst (λ l. All P l) (sym e) (All-append P (take i mid) (drop (suc i) mid) (All-take P i mid m) (All-drop P (suc i) mid m))

  module _ (number : C → Number) (now : Duration) (old : Calls) where
    pub timed_advanced : (xs ys : List (Outgoing C)) (new : Calls) → Advances number now old xs ys new → HasRead now old → All (IsTimed old) xs → All (IsTimed new) ys
    timed_advanced xs ys new (nothing e f s) read h = subst (λ l. All (IsTimed new) l) (sym f) (All-nil (IsTimed new))
    timed_advanced xs ys new (behind {front = front} {went = went} {mid = mid} before after past on e f) read h =
        let both = All-pop (IsTimed old) xs front (Some before) e h in
        let so_far : All (IsTimed mid) went = timed_advanced front went mid past read both.0 in
        let first : Later old mid = advances_later number now old front went mid past in
        let l : Later mid new = leaves_later _ _ _ _ mid _ _ new on.0 in
        let last : IsTimed new after = goes_timed now before after mid new (timed_later old mid before first both.1) (still_read now old mid read first) l on.3.0 in
        subst (λ l. All (IsTimed new) l) (sym f) (All-push (IsTimed new) went after (all_timed_later mid new went so_far l) last)

    pub timed_kept : (xs went ys : List (Outgoing C)) (new : Calls) → Advances number now old xs went new → ys ≡ filter (λ o. not (is_over o)) went → HasRead now old → All (IsTimed old) xs
        → All (IsTimed new) ys
    timed_kept xs went ys new h e read timed =
        subst (λ l. All (IsTimed new) l) (sym e) (All-filter (λ o. not (is_over o)) (IsTimed new) went (timed_advanced xs went new h read timed))

    abbrev IfOpen : Calls → Calls → Outgoing C → Type 0
    IfOpen start new o = is_over o ≡ false → IsOnTime start new o

    open_later : (start mid new : Calls) (o : Outgoing C) → Later mid new → IfOpen start mid o → IfOpen start new o
    open_later start mid new o l t = λ is. let k = t is in (k.0, read_behind k.0 start mid new k.1 l, k.2)

    if_open : (start : Calls) (xs ys : List (Outgoing C)) (new : Calls) → Advances number now old xs ys new → ReadsClock now start old → All (IfOpen start new) ys
    if_open start xs ys new (nothing e f s) read = subst (λ l. All (IfOpen start new) l) (sym f) (All-nil (IfOpen start new))
    if_open start xs ys new (behind {front = front} {went = went} {mid = mid} before after past on e f) read =
        let so_far : All (IfOpen start mid) went = if_open start front went mid past read in
        let first : Later old mid = advances_later number now old front went mid past in
        let l : Later mid new = leaves_later _ _ _ _ mid _ _ new on.0 in
        let so : All (IfOpen start new) went = All-weaker (IfOpen start mid) (IfOpen start new) (λ o. open_later start mid new o l) went so_far in
        subst (λ l. All (IfOpen start new) l) (sym f)
        (All-push (IfOpen start new) went after so (λ is. (now, read_behind now start mid new (read_behind now start old mid read first) l, on.3.1 is)))

    pub on_time_advanced : (start : Calls) (xs went ys : List (Outgoing C)) (new : Calls) → Advances number now old xs went new → ReadsClock now start old → ys ≡ filter (λ o. not (is_over o)) went
        → All (IsOnTime start new) ys
    on_time_advanced start xs went ys new h read e =
        let still : All (IfOpen start new) ys = subst (λ l. All (IfOpen start new) l) (sym e) (All-filter (λ o. not (is_over o)) (IfOpen start new) went (if_open start xs went new h read)) in
        let kept : All (λ (o : Outgoing C). not (is_over o) ≡ true) ys = subst (λ l. All (λ (o : Outgoing C). not (is_over o) ≡ true) l) (sym e) (filter_passes (λ o. not (is_over o)) went) in
        λ k d lt. still k d lt (not_true _ (kept k d lt))

    -- one more that began
    pub timed_started : {E : Type 0} (begun : Outgoing C) (result : Result (Unit {0}) E) (others all : List (Outgoing C)) (new : Calls) → Starts number now begun old result others all new → HasRead now old
        → HasFive now begun → All (IsTimed old) others → All (IsTimed new) all
    timed_started begun result others all new (after, on, inl (ok, is, e)) read five h =
        let l : Later old new = leaves_later _ _ _ _ old _ _ new on.0 in
        subst (λ l. All (IsTimed new) l) (sym e)
        (All-push (IsTimed new) others after (all_timed_later old new others h l) (goes_timed now begun after old new (now, read, five) read l on.3.0))
    timed_started begun result others all new (after, on, inr (e, closed)) read five h =
        subst (λ l. All (IsTimed new) l) (sym e) (all_timed_later old new others h (leaves_later _ _ _ _ old _ _ new on.0))

    pub on_time_started : {E : Type 0} (start : Calls) (begun : Outgoing C) (result : Result (Unit {0}) E) (others all : List (Outgoing C)) (new : Calls) → Starts number now begun old result others all new
        → ReadsClock now start old → All (IsOnTime start old) others → All (IsOnTime start new) all
    on_time_started start begun result others all new (after, on, inl (ok, is, e)) read h =
        let l : Later old new = leaves_later _ _ _ _ old _ _ new on.0 in
        subst (λ l. All (IsOnTime start new) l) (sym e)
        (All-push (IsOnTime start new) others after (all_on_time_later start old new others h l) (now, read_behind now start old new read l, on.3.1 is))
    on_time_started start begun result others all new (after, on, inr (e, closed)) read h =
        subst (λ l. All (IsOnTime start new) l) (sym e) (all_on_time_later start old new others h (leaves_later _ _ _ _ old _ _ new on.0))

  module _ (number : C → Number) where
    pub timed_answered : (stream : C) (bytes : Vec ℕ Global) (sent : ℕ) (before : List (Outgoing C)) (old : Calls) (result : Result (Unit {0}) Error) (after : List (Outgoing C)) (new : Calls)
        → Answers number stream bytes sent before old result after new → All (IsTimed old) before → All (IsTimed new) after
    timed_answered stream bytes sent before old result after new (others, part, mid, (got, e), inl (same, s, closes)) h =
        subst (λ l. All (IsTimed new) l) (sym same)
        (all_timed_later old new others (all_part (IsTimed old) before others part h) (more _ (no_more refl) (s ∙ e)))
    timed_answered stream bytes sent before old result after new (others, part, mid, (got, e), inr (now, clock, begun, s, b, d, five, starts)) h =
        timed_started number now mid begun result others after new starts (was_read now old mid clock) five
        (all_timed_later old mid others (all_part (IsTimed old) before others part h) (more _ (no_more refl) e))

    pub on_time_answered : (start : Calls) (stream : C) (bytes : Vec ℕ Global) (sent : ℕ) (before : List (Outgoing C)) (old : Calls) (result : Result (Unit {0}) Error) (after : List (Outgoing C)) (new : Calls)
        → Answers number stream bytes sent before old result after new → Later start old → All (IsOnTime start old) before → All (IsOnTime start new) after
    on_time_answered start stream bytes sent before old result after new (others, part, mid, (got, e), inl (same, s, closes)) l h =
        subst (λ l. All (IsOnTime start new) l) (sym same)
        (all_on_time_later start old new others (all_part (IsOnTime start old) before others part h) (more _ (no_more refl) (s ∙ e)))
    on_time_answered start stream bytes sent before old result after new (others, part, mid, (got, e), inr (now, clock, begun, s, b, d, five, starts)) l h =
        on_time_started number now mid start begun result others after new starts (read_from now start old mid l clock)
        (all_on_time_later start old mid others (all_part (IsOnTime start old) before others part h) (more _ (no_more refl) e))

    pub timed_posted : {E : Type 0} (addresses : List SocketAddr) (bytes : List ℕ) (before : List (Outgoing C)) (old : Calls) (result : Result (Unit {0}) E) (after : List (Outgoing C)) (new : Calls)
        → PostsTo number addresses bytes before old result after new → All (IsTimed old) before → All (IsTimed new) after
    timed_posted addresses bytes before old result after new (others, part, inl (err, same, h)) timed =
        subst (λ l. All (IsTimed new) l) (sym same)
        (all_timed_later old new others (all_part (IsTimed old) before others part timed)
        (posts_to_later number addresses bytes before old result after new (others, part, inl (err, same, h))))
    timed_posted addresses bytes before old result after new (others, part, inr (now, clock, begun, mid, (begins, a, b, d, five), starts)) timed =
        let l : Later old mid = begins_later number addresses begun.stream old mid begins in
        timed_started number now mid begun result others after new starts (still_read now old mid clock l) five
        (all_timed_later old mid others (all_part (IsTimed old) before others part timed) l)

    pub timed_posts : {E : Type 0} (names : List Name) (host : List ℕ) (port : ℕ) (bytes : List ℕ) (before : List (Outgoing C)) (old : Calls) (result : Result (Unit {0}) E) (after : List (Outgoing C)) (new : Calls)
        → Posts number names host port bytes before old result after new → All (IsTimed old) before → All (IsTimed new) after
    timed_posts names host port bytes before old result after new (bare, is, addresses, looked, looks, may, posts) timed =
        timed_posted addresses bytes before looked result after new posts (all_timed_later old looked before timed (resolving_later bare port old looked looks))
