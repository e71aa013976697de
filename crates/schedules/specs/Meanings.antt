-- The meaning of a line, given the number of nodes: its causes in their order, numbers before ids before keywords.
use Rattle.std.specs.Prelude.{ℕ, List, [], ◌∷◌, ◌||◌, Result, Ok, Err, if◌then◌else◌, bytes_eq, codes}
use Rattle.schedules.specs.declared.line.Cause.{Cause}
use Rattle.schedules.specs.declared.line.Cause.TheVariants.{UnknownWord, WordCount, Keyword}
use Rattle.schedules.specs.declared.line.Leaves.TheVariants as leaves
use Rattle.schedules.specs.declared.line.Line.{Line}
use Rattle.schedules.specs.declared.line.Line.TheVariants as lines
use Rattle.schedules.specs.Values.{number_in, node_in, call_in, id_in, kind_in, vote_in, leaves_in, hex_in, largest}

infixl 10 ◌>>=◌
abbrev pub ◌>>=◌ : {A B E : Type 0} → Result A E → (A → Result B E) → Result B E
Ok x >>= next = next x
Err e >>= next = Err e

-- how many nodes there are, behind `nodes`
abbrev pub count_of : List (List ℕ) → Result ℕ Cause
count_of (n ∷ []) = number_in 1 8 n
count_of _ = Err WordCount

abbrev pub begin_line : ℕ → List (List ℕ) → Result Line Cause
begin_line nodes (i ∷ c ∷ ms ∷ []) = do
  node ← node_in nodes i
  coordinator ← node_in nodes c
  ms ← number_in 0 largest ms
  Ok (lines.Begin node coordinator ms)
begin_line nodes _ = Err WordCount

abbrev pub interpose_line : ℕ → List (List ℕ) → Result Line Cause
interpose_line nodes (i ∷ a ∷ c ∷ []) = do
  node ← node_in nodes i
  coordinator ← node_in nodes c
  activity ← id_in a
  Ok (lines.Interpose node activity coordinator)
interpose_line nodes _ = Err WordCount

abbrev pub task : ℕ → ℕ → List ℕ → List ℕ → List ℕ → Result Line Cause
task node service a k v = do
  activity ← id_in a
  kind ← kind_in k
  vote ← vote_in v
  Ok (lines.Work node activity service kind vote)

abbrev pub work_line : ℕ → List (List ℕ) → Result Line Cause
work_line nodes (i ∷ a ∷ p ∷ k ∷ v ∷ []) = do
  node ← node_in nodes i
  service ← node_in nodes p
  task node service a k v
work_line nodes _ = Err WordCount

abbrev pub commit_line : ℕ → List (List ℕ) → Result Line Cause
commit_line nodes (i ∷ a ∷ []) = do
  node ← node_in nodes i
  activity ← id_in a
  Ok (lines.Commit node activity)
commit_line nodes _ = Err WordCount

abbrev pub rollback_line : ℕ → List (List ℕ) → Result Line Cause
rollback_line nodes (i ∷ a ∷ []) = do
  node ← node_in nodes i
  activity ← id_in a
  Ok (lines.Rollback node activity)
rollback_line nodes _ = Err WordCount

abbrev pub deliver_line : List (List ℕ) → Result Line Cause
deliver_line (k ∷ []) = do
  message ← number_in 1 1000000 k
  Ok (lines.Deliver message)
deliver_line _ = Err WordCount

abbrev pub flush_line : List (List ℕ) → Result Line Cause
flush_line (m ∷ []) = do
  most ← number_in 0 10000 m
  Ok (lines.Flush most)
flush_line _ = Err WordCount

abbrev pub tick_line : ℕ → List (List ℕ) → Result Line Cause
tick_line nodes (n ∷ ms ∷ []) = do
  node ← node_in nodes n
  ms ← number_in 0 largest ms
  Ok (lines.Tick node ms)
tick_line nodes _ = Err WordCount

abbrev pub crash_line : ℕ → List (List ℕ) → Result Line Cause
crash_line nodes (n ∷ []) = do
  node ← node_in nodes n
  Ok (lines.Crash node)
crash_line nodes _ = Err WordCount

abbrev pub up_line : ℕ → List (List ℕ) → Result Line Cause
up_line nodes (n ∷ []) = do
  node ← node_in nodes n
  Ok (lines.Up node)
up_line nodes _ = Err WordCount

-- what is left is said by one word, which isn't `fill`
abbrev pub stop_so : ℕ → List ℕ → List ℕ → List ℕ → Result Line Cause
stop_so nodes n k w =
    if bytes_eq w (codes "fill") then Err WordCount
    else do
      node ← node_in nodes n
      call ← call_in k
      left ← leaves_in w
      Ok (lines.Stop node call left)

-- or by `fill` and a byte
abbrev pub filled : ℕ → ℕ → List ℕ → Result Line Cause
filled node call b = do
  byte ← number_in 0 255 b
  Ok (lines.Stop node call (leaves.Fill byte))

abbrev pub stop_filled : ℕ → List ℕ → List ℕ → List ℕ → List ℕ → Result Line Cause
stop_filled nodes n k w b =
    if bytes_eq w (codes "keep") || bytes_eq w (codes "drop") then Err WordCount
    else do
      node ← node_in nodes n
      call ← call_in k
      if bytes_eq w (codes "fill") then filled node call b else Err Keyword

abbrev pub stop_line : ℕ → List (List ℕ) → Result Line Cause
stop_line nodes (n ∷ k ∷ w ∷ []) = stop_so nodes n k w
stop_line nodes (n ∷ k ∷ w ∷ b ∷ []) = stop_filled nodes n k w b
stop_line nodes _ = Err WordCount

abbrev pub fail_line : ℕ → List (List ℕ) → Result Line Cause
fail_line nodes (n ∷ k ∷ []) = do
  node ← node_in nodes n
  call ← call_in k
  Ok (lines.Fail node call)
fail_line nodes _ = Err WordCount

abbrev pub inject_line : ℕ → List (List ℕ) → Result Line Cause
inject_line nodes (n ∷ h ∷ []) = do
  node ← node_in nodes n
  digits ← hex_in h
  Ok (lines.Inject node digits)
inject_line nodes _ = Err WordCount

-- `nodes` stands on the first line alone, and so isn't among these
abbrev pub plain_meaning : ℕ → List ℕ → List (List ℕ) → Result Line Cause
plain_meaning nodes word rest =
    if bytes_eq word (codes "begin") then begin_line nodes rest
    else if bytes_eq word (codes "interpose") then interpose_line nodes rest
    else if bytes_eq word (codes "work") then work_line nodes rest
    else if bytes_eq word (codes "commit") then commit_line nodes rest
    else if bytes_eq word (codes "rollback") then rollback_line nodes rest
    else if bytes_eq word (codes "deliver") then deliver_line rest
    else if bytes_eq word (codes "flush") then flush_line rest
    else if bytes_eq word (codes "tick") then tick_line nodes rest
    else if bytes_eq word (codes "crash") then crash_line nodes rest
    else if bytes_eq word (codes "up") then up_line nodes rest
    else if bytes_eq word (codes "stop") then stop_line nodes rest
    else if bytes_eq word (codes "fail") then fail_line nodes rest
    else Err UnknownWord

-- a line may also bring bytes
abbrev pub meaning : ℕ → List ℕ → List (List ℕ) → Result Line Cause
meaning nodes word rest =
    if bytes_eq word (codes "inject") then inject_line nodes rest else plain_meaning nodes word rest
