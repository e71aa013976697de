-- Connections that came, and what was read of them.
use Rattle.std.proofs.Common.{append_assoc, append-nil, ℕ, List, Option, None, Some, Ok, [], ◌∷◌, suc, ◌≡◌, ◌<◌, ◌++◌, ◌∙◌, refl, sym, ap, subst, take, drop, length, slice_index_or}
use Rattle.std.specs.Prelude.{IfSome}
use Rattle.std.specs.List.{remove}
use lib.ListN.{set}
use Rattle.std.proofs.lemmas.List.Elements.{All-append, All-drop, All-nil, All-push, All-set, All-take, All-weaker}
use Rattle.std.specs.declared.io.Error.{Error}
use Rattle.std.specs.declared.net.SocketAddr.{SocketAddr}
use Rattle.system_calls.specs.Calls.{Call, Calls, Number, Answer, answer, came, given, then}
use Rattle.system_calls.specs.Calls.Call.{Accept, Read}
use Rattle.atx_sites.specs.Arrivals.{ConnectionCame, Grows, HasCome, HaveCome, IfCame, ServedCame}
use Rattle.atx_sites.specs.LinkCalls.{Came, Later, number_at}
use Rattle.atx_sites.specs.LinkCalls.Later.{none, more}
use Rattle.atx_sites.specs.LinkCalls.Came.{accepted, read, beside}
use Rattle.atx_sites.specs.declared.arriving.Arriving.{Arriving}
use Rattle.atx_sites.specs.declared.connection.Connection.{Connection}
use Rattle.atx_sites.specs.declared.connection.Served.{Served}
use Rattle.atx_sites.specs.declared.waiting.Waiting.{Waiting}

pub if_some : {A : Type 0} (P : A → Type 0) (o : Option A) (x : A) → IfSome o P → o ≡ Some x → P x
if_some P (Some y) x h e = let same : y ≡ x = cc in subst P same h
if_some P None x h e = cc

pub as_late : (old : Calls) → Later old old
as_late old = none refl

pub later_by : (old mid new : Calls) (call : Call) → Later old mid → new ≡ then call mid → Later old new
later_by old mid new call l e = more call l e

pub late_by : (old new : Calls) (call : Call) → new ≡ then call old → Later old new
late_by old new call e = more call (none refl) e

pub later_still : (old mid new : Calls) → Later old mid → Later mid new → Later old new
later_still old mid new l (none e) = subst (Later old) (sym e) l
later_still old mid new l (more call m e) = more call (later_still old mid _ l m) e

pub still_came : (listener : Number) (stream : Number × SocketAddr) (bytes : List ℕ) (old new : Calls) → Came listener stream bytes old → Later old new → Came listener stream bytes new
still_came listener stream bytes old new c (none e) = subst (Came listener stream bytes) (sym e) c
still_came listener stream bytes old new c (more call l e) = beside call (still_came listener stream bytes old _ c l) e

-- a read that gave bytes, which were added
pub came_read : (listener : Number) (stream : Number × SocketAddr) (front bytes buf : List ℕ) (n : ℕ) (mid new : Calls) (got : Answer ℕ) → Came listener stream front mid
    → new ≡ then (Read stream.0 (given buf got)) mid → got ≡ Ok n → bytes ≡ front ++ take n buf → Came listener stream bytes new
came_read listener stream front bytes buf n mid new got c e r added =
    read (take n buf) c added (e ∙ ap (λ (g : Answer ℕ). then (Read stream.0 (given buf g)) mid) r)

pub came_by : (listener : Number) (stream : Number × SocketAddr) (bytes : List ℕ) (mid new : Calls) (call : Call) → Came listener stream bytes mid → new ≡ then call mid → Came listener stream bytes new
came_by listener stream bytes mid new call c e = beside call c e

pub came_same : (listener : Number) (stream : Number × SocketAddr) (front bytes : List ℕ) (mid new : Calls) (call : Call) → Came listener stream front mid → new ≡ then call mid → bytes ≡ front
    → Came listener stream bytes new
came_same listener stream front bytes mid new call c e s = beside call (subst (λ l. Came listener stream l mid) (sym s) c) e

module _ {C : Type 0} (number : C → Number) (listener : Number) where
  pub none_came : (calls : Calls) → HaveCome number listener calls []
  none_came calls = All-nil (HasCome number listener calls)

  pub have_still : (old new : Calls) (items : List (Arriving C)) → HaveCome number listener old items → Later old new → HaveCome number listener new items
  have_still old new items h l =
      All-weaker (HasCome number listener old) (HasCome number listener new)
      (λ a c. still_came listener (number a.stream, a.peer) a.bytes.items old new c l) items h

  pub have_as : (old new : Calls) (items others : List (Arriving C)) → HaveCome number listener old items → new ≡ old → others ≡ items → HaveCome number listener new others
  have_as old new items others h e f = subst (HaveCome number listener new) (sym f) (subst (λ l. HaveCome number listener l items) (sym e) h)

  pub have_removed : (calls : Calls) (items : List (Arriving C)) (i : ℕ) → HaveCome number listener calls items → HaveCome number listener calls (remove items i)
  have_removed calls items i h =
      All-append (HasCome number listener calls) (take i items) (drop (suc i) items)
      (All-take (HasCome number listener calls) i items h) (All-drop (HasCome number listener calls) (suc i) items h)

  pub has_taken : (calls : Calls) (items : List (Arriving C)) (i : ℕ) (a : Arriving C) → HaveCome number listener calls items → i < length items
      → a ≡ slice_index_or items i a → HasCome number listener calls a
  has_taken calls items i a h in' e = subst (HasCome number listener calls) (sym e) (h i a in')

  pub have_pushed : (calls : Calls) (items : List (Arriving C)) (a : Arriving C) → HaveCome number listener calls items → HasCome number listener calls a
      → HaveCome number listener calls (items ++ a ∷ [])
  have_pushed calls items a h c = All-push (HasCome number listener calls) items a h c

  pub have_set : (calls : Calls) (items : List (Arriving C)) (i : ℕ) (a : Arriving C) → HaveCome number listener calls items → HasCome number listener calls a
      → HaveCome number listener calls (set items i a)
  have_set calls items i a h c = All-set (HasCome number listener calls) items i a c h

module _ {L C : Type 0} (number : C → Number) (listens : L → Number) where
  pub came_none : (calls : Calls) (listener : Number) (served : Option (Served C)) → served ≡ None → ServedCame number listener calls served
  came_none calls listener served shut = subst (ServedCame number listener calls) (sym shut) tt

  -- the one that was served is closed, and the others wait as before
  pub served_still : (old new : Calls) (listener : Number) (served : Option (Served C)) → ServedCame number listener old served → Later old new → ServedCame number listener new served
  served_still old new listener (Some s) h l = still_came listener (number s.arriving.stream, s.arriving.peer) s.arriving.bytes.items old new h l
  served_still old new listener None h l = tt

  pub came_closed : (old new : Calls) (before after : Connection L C) → after.served ≡ None → (after.listener ≡ before.listener) × (after.waiting ≡ before.waiting) → Later old new
      → ConnectionCame number listens old before → ConnectionCame number listens new after
  came_closed old new before after shut same l h = (
    subst (λ (w : Waiting C). HaveCome number (number_at listens after.listener) new w.arriving.items) (sym same.1)
        (subst (λ k. HaveCome number (number_at listens k) new before.waiting.arriving.items) (sym same.0)
        (have_still number (number_at listens before.listener) old new before.waiting.arriving.items h.0 l)),
    came_none new (number_at listens after.listener) after.served shut,
  )

  -- those that wait behind a wait
  pub came_waited : (mid new : Calls) (closed : Connection L C) (waiting : Waiting C) (listener : L) → closed.listener ≡ Some listener
      → (HaveCome number (listens listener) mid closed.waiting.arriving.items → HaveCome number (listens listener) new waiting.arriving.items)
      → ConnectionCame number listens mid closed → HaveCome number (number_at listens closed.listener) new waiting.arriving.items
  came_waited mid new closed waiting listener is came h =
      subst (λ k. HaveCome number (number_at listens k) new waiting.arriving.items) (sym is)
      (came (subst (λ k. HaveCome number (number_at listens k) mid closed.waiting.arriving.items) is h.0))

  -- and the one whose turn comes
  pub came_taken : (mid new : Calls) (closed : Connection L C) (taken : Arriving C) (listener : L) → closed.listener ≡ Some listener
      → (HaveCome number (listens listener) mid closed.waiting.arriving.items → HasCome number (listens listener) new taken)
      → ConnectionCame number listens mid closed → HasCome number (number_at listens closed.listener) new taken
  came_taken mid new closed taken listener is came h =
      subst (λ k. HasCome number (number_at listens k) new taken) (sym is)
      (came (subst (λ k. HaveCome number (number_at listens k) mid closed.waiting.arriving.items) is h.0))

  -- of one that is served it is so as of the one that was taken
  pub came_as : (calls : Calls) (listener : Number) (taken served : Arriving C) → served ≡ taken → HasCome number listener calls taken → HasCome number listener calls served
  came_as calls listener taken served e h = subst (λ (a : Arriving C). HasCome number listener calls a) (sym e) h

-- a connection that was accepted
pub came_first : (listener : Number) (stream : Number × SocketAddr) (mid new : Calls) → new ≡ then (Accept listener (Ok stream)) mid → Came listener stream [] new
came_first listener stream mid new e = accepted mid refl e

pub came_accepted : {C : Type 0} (number : C → Number) (listener : Number) (mid new : Calls) (got : Answer (C × SocketAddr)) (stream : C × SocketAddr)
    → new ≡ then (Accept listener (answer (came number) got)) mid → got ≡ Ok stream → Came listener (came number stream) [] new
came_accepted number listener mid new got stream e r = accepted mid refl (e ∙ ap (λ a. then (Accept listener (answer (came number) a)) mid) r)

pub no_more : (bytes : List ℕ) → Grows bytes bytes
no_more bytes = ([], sym (append-nil bytes))

pub grown : (old new added : List ℕ) → new ≡ old ++ added → Grows old new
grown old new added e = (added, e)

pub grown_more : (old mid new : List ℕ) → Grows old mid → Grows mid new → Grows old new
grown_more old mid new (one, e) (two, f) = (one ++ two, f ∙ ap (λ l. l ++ two) e ∙ append_assoc old one two)

module _ {C : Type 0} (number : C → Number) where
  pub came_if : (listener : Number) (calls : Calls) (got : Option (C × SocketAddr)) (stream : C) (peer : SocketAddr) → IfCame {C = C} {E = Error} number listener calls (Ok got)
      → got ≡ Some (stream, peer) → Came listener (number stream, peer) [] calls
  came_if listener calls got stream peer c e = subst (λ o. IfCame {C = C} {E = Error} number listener calls (Ok o)) e c

module _ {C : Type 0} (number : C → Number) (listener : Number) where
  pub came_new : (calls : Calls) (stream : C) (peer : SocketAddr) (a : Arriving C) → Came listener (number stream, peer) [] calls → (a.stream ≡ stream) × (a.peer ≡ peer) → a.bytes.items ≡ []
      → HasCome number listener calls a
  came_new calls stream peer a c e f =
      subst (λ (p : SocketAddr). Came listener (number a.stream, p) a.bytes.items calls) (sym e.1)
      (subst (λ (s : C). Came listener (number s, peer) a.bytes.items calls) (sym e.0) (subst (λ (l : List ℕ). Came listener (number stream, peer) l calls) (sym f) c))
