-- What a node did on its machine, and as what its calls are read.
use Rattle.std.specs.Prelude.{ℕ, List, [], ◌∷◌, ◌++◌, ◌≡◌, Bool, false, Option, length, suc, take}
use Rattle.std.proofs.Common.{ap, refl, subst, sym, ◌∙◌}
use Rattle.at_base.specs.declared.event.Local.{Local}
use Rattle.memory_net.specs.Calls.{Requests, Turns}
use Rattle.memory_net.specs.Mails.{Mail, mails_in}
use Rattle.memory_net.specs.declared.host.Host.{Host}
use Rattle.node_at.specs.declared.local.Locally.{Locally}
use Rattle.node_at.specs.declared.local.Locally.TheVariants as answers
use Rattle.node_at.specs.declared.node.Node.{Node}
use Rattle.node_at.specs.declared.shrink.Shrunk.TheVariants.{NoMemory}
use Rattle.node_at.specs.declared.turn.Turned.{Turned}
use Rattle.node_at.specs.declared.turn.Turned.TheVariants as turneds
use Rattle.site_memory.specs.Devices.{calls_in}
use Rattle.site_memory.specs.Entries.{mades}
use Rattle.site_memory.specs.declared.arm.Choice.{Choice}
use Rattle.site_memory.specs.declared.entry.Entry.{Entry}
use Rattle.site_memory.specs.declared.machine.MemSite.{MemSite}
use Rattle.site_model.specs.Told.{Made, sent_by}
use Rattle.mirrored_nets.specs.Took.{Adds, AnswersSo, EndsSo, HasRoom, IsTriedLine, IsWhole, LeftSo, kept_of}
use Rattle.mirrored_nets.specs.declared.came.Came.{Came}
use Rattle.mirrored_nets.specs.declared.came.Came.TheVariants as cames
use Rattle.mirrored_nets.specs.declared.armed.Armed.{Armed}
use Rattle.call_readings.specs.Reads.{IsOfSteps, Reads, ReadsRequest, ReadsTurn, came_to, is_halted}
use Rattle.call_readings.specs.declared.became.Became.{Became}
use Rattle.call_readings.specs.declared.became.Became.TheVariants as becomes
use Rattle.read_calls.specs.IsRead.{IsRead, fates_of}
use Rattle.read_calls.specs.declared.reading.Reading.{Reading}
use Rattle.asked_nets.specs.Behind.{goes_anew}
use Rattle.asked_nets.specs.DidRequest.{DidRequest}
use Rattle.asked_nets.specs.DidTurn.{DidTurn}
use Rattle.asked_nets.specs.Halts.{halts, halts_locally}

-- It halted exactly where it is read so.
goes : (r : Turned) → IsWhole r → false ≡ halts r
goes (turneds.Served status) h = refl
goes turneds.Ticked h = refl
goes turneds.NoRoom h = absurd h
goes turneds.Halted h = absurd h
goes turneds.Closed h = absurd h
goes turneds.LinkDown h = absurd h

turn_halts : (b : Became) (r : Turned) → EndsSo (came_to b) r → is_halted b ≡ halts r
turn_halts becomes.Stays r h = goes r h
turn_halts (becomes.Falls kept choice) r h = goes r h
turn_halts becomes.Halts r h = ap halts (sym h)
turn_halts (becomes.FallsAnew kept choice) r h = goes r h
turn_halts becomes.HaltsAnew r h = ap halts (sym h)

asks_on : (answer : Locally) → AnswersSo cames.Stays answer → false ≡ halts_locally answer
asks_on (answers.Done id) h = refl
asks_on (answers.Refused why) h = refl
asks_on answers.NoRoom h = absurd h
asks_on answers.Halted h = absurd h

falls_on : (kept : ℕ) (choice : Choice) (answer : Locally) → AnswersSo (cames.Falls kept choice) answer → false ≡ halts_locally answer
falls_on kept choice (answers.Done id) h = refl
falls_on kept choice (answers.Refused why) h = refl
falls_on kept choice answers.NoRoom h = absurd h
falls_on kept choice answers.Halted h = absurd h

request_halts : (b : Became) (answer : Locally) → AnswersSo (came_to b) answer → is_halted b ≡ halts_locally answer
request_halts becomes.Stays answer h = asks_on answer h
request_halts (becomes.Falls kept choice) answer h = falls_on kept choice answer h
request_halts becomes.Halts answer h = ap halts_locally (sym h)
request_halts (becomes.FallsAnew kept choice) answer h = falls_on kept choice answer h
request_halts becomes.HaltsAnew answer h = ap halts_locally (sym h)

-- what is read of it is that reading
abbrev pub ReadBy : (armed : Armed) (lines : ℕ) (made : List Made) (halted : Bool) (x : Reading) → Type 0
ReadBy armed lines made halted x = (b : Became) (fates : List Bool) (until : Option ℕ) → Reads armed lines made b fates until → is_halted b ≡ halted → IsRead x b fates until

read_as : (armed : Armed) (lines : ℕ) (made : List Made) (x : Reading) (b : Became) (fates : List Bool) (until : Option ℕ) → Reads armed lines made b fates until → IsRead x b fates until
    → Reads armed lines made x.became (fates_of x.fates) x.until
read_as armed lines made x b fates until r is =
    subst (λ z. Reads armed lines made z (fates_of x.fates) x.until) (sym is.became_is)
    (subst (λ z. Reads armed lines made b z x.until) (sym is.fates_are) (subst (λ z. Reads armed lines made b fates z) (sym is.until_is) r))

module _ (armed : Armed) (lines : ℕ) (made : List Made) (r : Turned) (x : Reading) (read : ReadBy armed lines made (halts r) x) (R : ReadsTurn armed lines made r) where
  turn_is : IsRead x R.became R.fates R.until
  turn_is = read R.became R.fates R.until R.reads (turn_halts R.became r R.ends)

  pub turn_reads : Reads armed lines made x.became (fates_of x.fates) x.until
  turn_reads = read_as armed lines made x R.became R.fates R.until R.reads turn_is

  pub turn_ends : (came : Came) → came ≡ came_to x.became → EndsSo came r
  turn_ends came is = subst (λ z. EndsSo z r) (sym (is ∙ ap came_to turn_is.became_is)) R.ends

module _ (armed : Armed) (made : List Made) (answer : Locally) (x : Reading) (read : ReadBy armed 0 made (halts_locally answer) x) (R : ReadsRequest armed made answer) where
  request_is : IsRead x R.became R.fates R.until
  request_is = read R.became R.fates R.until R.reads (request_halts R.became answer R.ends)

  pub request_reads : Reads armed 0 made x.became (fates_of x.fates) x.until
  request_reads = read_as armed 0 made x R.became R.fates R.until R.reads request_is

  pub request_ends : (came : Came) → came ≡ came_to x.became → AnswersSo came answer
  request_ends came is = subst (λ z. AnswersSo z answer) (sym (is ∙ ap came_to request_is.became_is)) R.ends

  pub request_steps : IsOfSteps x.became
  request_steps = subst IsOfSteps (sym request_is.became_is) R.of_steps

pub long : (entries : List Entry) → length entries ≡ length (mades entries)
long [] = refl
long (x ∷ xs) = ap suc (long xs)

abbrev pub Posts : (i count : ℕ) → Came → List Entry → List Entry → List Mail → List Mail → Type 0
Posts i count came calls kept mails more = (mades kept ≡ take (kept_of came (mades calls)) (mades calls)) × (more ≡ mails ++ mails_in i count (sent_by (mades kept)))

pub posted_so : (i count : ℕ) (came : Came) (b : Became) (calls kept : List Entry) (mails more : List Mail) → came ≡ came_to b → Posts i count came calls kept mails more
    → more ≡ mails ++ mails_in i count (sent_by (take (kept_of (came_to b) (mades calls)) (mades calls)))
posted_so i count came b calls kept mails more is (e, h) = h ∙ ap (λ ms. mails ++ mails_in i count (sent_by ms)) (e ∙ ap (λ z. take (kept_of z (mades calls)) (mades calls)) is)

abbrev pub did_turn : (i count lines before many : ℕ) (bytes : List ℕ) (n m : Node) (old site : MemSite) (new : Host) (mails more : List Mail) (r : Turned) (came : Came) (b : Became) (calls kept : List Entry)
    → HasRoom old → Turns bytes r n m old site → before ≡ length (calls_in old.device) → Adds (mades calls) old site → EndsSo came r → came ≡ came_to b
    → ((z : MemSite) → before ≡ length (calls_in z.device) → LeftSo came m z site new) → Posts i count came calls kept mails more
    → IsTriedLine lines (take lines (mades calls)) → (m.shrunk ≡ NoMemory → ⊥) → many ≡ length calls → DidTurn i count lines bytes n old new mails more (goes_anew b) many
did_turn i count lines before many bytes n m old site new mails more r came b calls kept room turns since adds ends is left posts tried remembers counts = record {
  room = room;
  result = r;
  node = m;
  site = site;
  turns = turns;
  made = mades calls;
  adds = adds;
  tried = tried;
  remembers = remembers;
  became = b;
  ends = subst (λ z. EndsSo z r) is ends;
  left = subst (λ z. LeftSo z m old site new) is (left old since);
  posted = posted_so i count came b calls kept mails more is posts;
  down_is = refl;
  calls_are = counts ∙ long calls;
}

abbrev pub did_request : (i count before many : ℕ) (request : Local) (n m : Node) (old site : MemSite) (new : Host) (mails more : List Mail) (answer : Locally) (came : Came) (b : Became) (calls kept : List Entry)
    → HasRoom old → Requests request answer n m old site → before ≡ length (calls_in old.device) → Adds (mades calls) old site → AnswersSo came answer → came ≡ came_to b
    → ((z : MemSite) → before ≡ length (calls_in z.device) → LeftSo came m z site new) → Posts i count came calls kept mails more → many ≡ length calls
    → DidRequest i count request n old new mails more many
did_request i count before many request n m old site new mails more answer came b calls kept room requests since adds ends is left posts counts = record {
  room = room;
  answer = answer;
  node = m;
  site = site;
  requests = requests;
  made = mades calls;
  adds = adds;
  became = b;
  ends = subst (λ z. AnswersSo z answer) is ends;
  left = subst (λ z. LeftSo z m old site new) is (left old since);
  posted = posted_so i count came b calls kept mails more is posts;
  calls_are = counts ∙ long calls;
}
