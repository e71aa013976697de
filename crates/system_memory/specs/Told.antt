-- What a system in memory tells of a call.
use Rattle.std.specs.Prelude.{ℕ, List, ◌∷◌, Some}
use Rattle.std.specs.Net.ToAddrs.{host_addrs}
use Rattle.libc.specs.declared.types.pollfd.{pollfd}
use Rattle.system_calls.specs.Calls.{Call, Number, answer, came, given}
use Rattle.system_calls.specs.Calls.Call.{Open, OpenFolder, Duplicate, Examine, Lock, ReadAt, WriteAt, Sync, Forget, Listen, Accept, Resolve, Connect, Poll, Read, Write, ShutDown, Monotonic}
use Rattle.system_memory.specs.declared.handle.Handle.{Handle}
use Rattle.system_memory.specs.declared.made.Made.{Made}
use Rattle.system_memory.specs.declared.made.Made.TheVariants as made

abbrev pub number : Handle → Number
number h = Some h.number

-- one call more, the latest the first
abbrev pub calls_with : Made → List pollfd → List Call → List Call
calls_with (made.Open name got) asked calls = Open name.now (answer number got.now) ∷ calls
calls_with (made.OpenFolder name got) asked calls = OpenFolder name.now (answer number got.now) ∷ calls
calls_with (made.Duplicate file got) asked calls = Duplicate (number file.now) (answer number got.now) ∷ calls
calls_with (made.Examine file got) asked calls = Examine (number file.now) got.now ∷ calls
calls_with (made.Lock file got) asked calls = Lock (number file.now) got.now ∷ calls
calls_with (made.ReadAt file at buf got) asked calls = ReadAt (number file.now) at (given buf.now got.now) ∷ calls
calls_with (made.WriteAt file at bytes got) asked calls = WriteAt (number file.now) at bytes.now got.now ∷ calls
calls_with (made.Sync file got) asked calls = Sync (number file.now) got.now ∷ calls
calls_with (made.Forget file got) asked calls = Forget (number file.now) got.now ∷ calls
calls_with (made.Listen address got) asked calls = Listen address.now (answer number got.now) ∷ calls
calls_with (made.Accept listener got) asked calls = Accept (number listener.now) (answer (came number) got.now) ∷ calls
calls_with (made.Resolve host port got) asked calls = Resolve host.now port (answer host_addrs got.now) ∷ calls
calls_with (made.Connect address got) asked calls = Connect address.now (answer number got.now) ∷ calls
calls_with (made.Asks asks) asked calls = calls
calls_with (made.Poll millis found count) asked calls = Poll asked millis found.now count ∷ calls
calls_with (made.Read stream buf got) asked calls = Read (number stream.now) (given buf.now got.now) ∷ calls
calls_with (made.Write stream bytes got) asked calls = Write (number stream.now) bytes.now got.now ∷ calls
calls_with (made.ShutDown stream got) asked calls = ShutDown (number stream.now) got.now ∷ calls
calls_with (made.Monotonic got) asked calls = Monotonic got.now ∷ calls

-- what poll was asked last
abbrev pub asked_with : Made → List pollfd → List pollfd
asked_with (made.Asks asks) asked = asks.now
asked_with other asked = asked
