-- The calls of the system, each with its arguments and its answer.
use Rattle.std.specs.Prelude.{ℕ, ℤ, List, Option, Result, Ok, Err, ◌∷◌, take, option_map}
use Rattle.std.specs.declared.net.SocketAddr.{SocketAddr}
use Rattle.std.specs.declared.time.Duration.{Duration}
use Rattle.libc.specs.declared.types.pollfd.{pollfd}
use Rattle.std.specs.declared.io.Error.{Error}
use Rattle.system_calls.specs.declared.system.Stat.{Stat}

-- the number of a file, a listener or a connection, where it tells one
abbrev pub Number : Type 0
Number = Option ℤ

abbrev pub Answer : Type 0 → Type 0
Answer T = Result T Error

-- what is told of an answer
abbrev pub answer : {A B : Type 0} → (A → B) → Answer A → Answer B
answer f (Ok x) = Ok (f x)
answer f (Err e) = Err e

-- what is told of a connection that came from an address
abbrev pub came : {C : Type 0} → (C → Number) → C × SocketAddr → Number × SocketAddr
came number accepted = (number accepted.0, accepted.1)

-- the bytes that a read put at the start of a buffer
abbrev pub given : List ℕ → Answer ℕ → Answer (List ℕ)
given buf (Ok n) = Ok (take n buf)
given buf (Err e) = Err e

pub data Call : Type 0 where
  -- a file, made where it isn't there; and a folder
  Open : (name : List ℕ) (got : Answer Number) → Call
  OpenFolder : (name : List ℕ) (got : Answer Number) → Call
  -- another number of an open file
  Duplicate : (file : Number) (got : Answer Number) → Call
  Examine : (file : Number) (got : Answer Stat) → Call
  Lock : (file : Number) (got : Answer (Unit {0})) → Call
  ReadAt : (file : Number) (at : ℕ) (got : Answer (List ℕ)) → Call
  WriteAt : (file : Number) (at : ℕ) (bytes : List ℕ) (got : Answer ℕ) → Call
  Sync : (file : Number) (got : Answer (Unit {0})) → Call
  -- what the system holds of the file in memory is dropped
  Forget : (file : Number) (got : Answer (Unit {0})) → Call
  -- accepting there never waits
  Listen : (address : List ℕ) (got : Answer Number) → Call
  -- with the address that it comes from; reading and writing on it never wait
  Accept : (listener : Number) (got : Answer (Number × SocketAddr)) → Call
  Resolve : (host : List ℕ) (port : ℕ) (got : Answer (List SocketAddr)) → Call
  -- it begins to connect; what became of it is told by the next write, once it can be written
  Connect : (address : SocketAddr) (got : Answer Number) → Call
  -- what is asked of which numbers, and what was found
  Poll : (asked : List pollfd) (millis : ℤ) (found : List pollfd) (count : ℤ) → Call
  Read : (stream : Number) (got : Answer (List ℕ)) → Call
  Write : (stream : Number) (bytes : List ℕ) (got : Answer ℕ) → Call
  -- nothing more is sent
  ShutDown : (stream : Number) (got : Answer (Unit {0})) → Call
  -- the clock that never goes back
  Monotonic : (got : Answer Duration) → Call

-- all calls so far, where they are told. The latest is the first of the list
abbrev pub Calls : Type 0
Calls = Option (List Call)

-- one call more
abbrev pub then : Call → Calls → Calls
then call calls = option_map (λ l. call ∷ l) calls
