-- Worked schedules: what is read of them, and the first bad line.
use Rattle.std.specs.Prelude.{ℕ, List, [], ◌∷◌, ◌++◌, ◌≡◌, Ok, Err, codes, refl}
use Rattle.std.specs.Fmt.{digits}
use Rattle.hex.specs.Hex.{decode_pairs}
use Rattle.at_base.specs.declared.notice.Kind.TheVariants as kinds
use Rattle.at_base.specs.declared.notice.Vote.TheVariants as votes
use Rattle.schedules.specs.declared.line.Cause.TheVariants as causes
use Rattle.schedules.specs.declared.line.Leaves.TheVariants as leaves
use Rattle.schedules.specs.declared.line.Line.TheVariants as lines
use Rattle.schedules.specs.Generator.{drawn, made, next}
use Rattle.schedules.specs.Schedules.{schedule_of}

abbrev pub one_activity : List ℕ
one_activity =
    codes "nodes 3\nbegin 1 2 60000\nflush 99\nwork 1 1-1 3 d prepared\nflush 99\ncommit 1 1-1\ntick 2 0"

pub activity_read : schedule_of one_activity ≡ Ok (
    lines.Nodes 3
    ∷ lines.Begin 1 2 60000
    ∷ lines.Flush 99
    ∷ lines.Work 1 (record { incarnation = 1; counter = 1 }) 3 kinds.Durable votes.Prepared
    ∷ lines.Flush 99
    ∷ lines.Commit 1 (record { incarnation = 1; counter = 1 })
    ∷ lines.Tick 2 0
    ∷ [])
unfolding digits
activity_read = refl

-- the last line may have its line feed
pub ends_in_line_feed : schedule_of (one_activity ++ 10 ∷ []) ≡ schedule_of one_activity
unfolding digits
ends_in_line_feed = refl

pub one_node : schedule_of (codes "nodes 1") ≡ Ok (lines.Nodes 1 ∷ [])
unfolding digits
one_node = refl

pub empty_text : schedule_of [] ≡ Err (record { line = 1; cause = causes.Nodes })
unfolding digits
empty_text = refl

pub faults_read : schedule_of (codes "nodes 2\nstop 2 3 fill 1\nstop 1 1 keep\nfail 2 4") ≡ Ok (
    lines.Nodes 2
    ∷ lines.Stop 2 3 (leaves.Fill 1)
    ∷ lines.Stop 1 1 leaves.Keep
    ∷ lines.Fail 2 4
    ∷ [])
unfolding digits
faults_read = refl

-- bytes in either case, and none
pub bytes_read : schedule_of (codes "nodes 1\ninject 1 0aF0\ninject 1 ") ≡ Ok (
    lines.Nodes 1
    ∷ lines.Inject 1 (codes "0aF0")
    ∷ lines.Inject 1 []
    ∷ [])
unfolding digits decode_pairs
bytes_read = refl

-- two digits for each byte
pub half_a_byte : schedule_of (codes "nodes 1\ninject 1 123") ≡ Err (record { line = 2; cause = causes.Hexadecimal })
unfolding digits
half_a_byte = refl

-- a byte stands behind `fill`, and behind nothing else
pub no_byte : schedule_of (codes "nodes 1\nstop 1 1 fill") ≡ Err (record { line = 2; cause = causes.WordCount })
unfolding digits
no_byte = refl

pub unknown_word : schedule_of (codes "nodes 1\nflush 1\nfoo") ≡ Err (record { line = 3; cause = causes.UnknownWord })
unfolding digits
unknown_word = refl

-- a number out of its bounds goes before a bad id and a bad keyword
pub number_first : schedule_of (codes "nodes 3\nwork 1 1 4 x y") ≡ Err (record { line = 2; cause = causes.Number })
unfolding digits
number_first = refl

pub id_next : schedule_of (codes "nodes 3\nwork 1 1-0 3 x y") ≡ Err (record { line = 2; cause = causes.Identifier })
unfolding digits
id_next = refl

pub leading_zero : schedule_of (codes "nodes 3\nflush 07") ≡ Err (record { line = 2; cause = causes.Number })
unfolding digits
leading_zero = refl

-- two spaces have an empty word between them
pub empty_word : schedule_of (codes "nodes 3\nflush  7") ≡ Err (record { line = 2; cause = causes.WordCount })
unfolding digits
empty_word = refl

-- the first draw of the seed 1, and the schedules of no line and of one
pub first_state : next 1 ≡ 7806831264735756412
first_state = refl

pub first_draw : drawn 7806831264735756412 ≡ 908834774
first_draw = refl

pub no_line : made 1 0 ≡ lines.Nodes 4 ∷ []
no_line = refl

pub one_line : made 1 1 ≡ lines.Nodes 4 ∷ lines.Flush 8 ∷ []
one_line = refl
