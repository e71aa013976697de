-- The names of kinds, notifications, votes and faults, and which of them one is.
use Rattle.std.specs.Prelude.{ℕ, List, Option, Some, None, Bool, nat_eq, if◌then◌else◌, codes}
use Rattle.std.specs.Str.{bytes_eq}
use Rattle.at_base.specs.declared.fault.Fault.{Fault}
use Rattle.at_base.specs.declared.fault.Fault.TheVariants as faults
use Rattle.at_base.specs.declared.notice.Kind.{Kind}
use Rattle.at_base.specs.declared.notice.Kind.TheVariants as kinds
use Rattle.at_base.specs.declared.notice.Notice.{Notice}
use Rattle.at_base.specs.declared.notice.Notice.TheVariants as notices
use Rattle.at_base.specs.declared.notice.Vote.{Vote}
use Rattle.at_base.specs.declared.notice.Vote.TheVariants as votes

-- Kinds and notifications are told apart by their places in the order of their declaration.
abbrev pub kind_place : Kind → ℕ
kind_place kinds.Volatile = 0
kind_place kinds.Durable = 1

abbrev pub is_kind : Kind → Kind → Bool
is_kind a b = nat_eq (kind_place a) (kind_place b)

abbrev pub notice_place : Notice → ℕ
notice_place notices.Prepare = 0
notice_place notices.Commit = 1
notice_place notices.Rollback = 2
notice_place notices.Prepared = 3
notice_place notices.ReadOnly = 4
notice_place notices.Aborted = 5
notice_place notices.Committed = 6

abbrev pub is_notice : Notice → Notice → Bool
is_notice a b = nat_eq (notice_place a) (notice_place b)

-- a kind in an address, in a schedule and in a report
abbrev pub kind_letter : Kind → List ℕ
kind_letter kinds.Durable = codes "d"
kind_letter kinds.Volatile = codes "v"

abbrev pub kind_lettered : List ℕ → Option Kind
kind_lettered word =
    if bytes_eq word (codes "d") then Some kinds.Durable
    else if bytes_eq word (codes "v") then Some kinds.Volatile
    else None

-- a kind in a message
abbrev pub kind_name : Kind → List ℕ
kind_name kinds.Durable = codes "durable"
kind_name kinds.Volatile = codes "volatile"

abbrev pub kind_named : List ℕ → Option Kind
kind_named name =
    if bytes_eq name (codes "durable") then Some kinds.Durable
    else if bytes_eq name (codes "volatile") then Some kinds.Volatile
    else None

abbrev pub vote_name : Vote → List ℕ
vote_name votes.Prepared = codes "prepared"
vote_name votes.ReadOnly = codes "readonly"
vote_name votes.Aborted = codes "aborted"

abbrev pub vote_named : List ℕ → Option Vote
vote_named name =
    if bytes_eq name (codes "prepared") then Some votes.Prepared
    else if bytes_eq name (codes "readonly") then Some votes.ReadOnly
    else if bytes_eq name (codes "aborted") then Some votes.Aborted
    else None

-- the local name of a notification's element
abbrev pub notice_name : Notice → List ℕ
notice_name notices.Prepare = codes "Prepare"
notice_name notices.Commit = codes "Commit"
notice_name notices.Rollback = codes "Rollback"
notice_name notices.Prepared = codes "Prepared"
notice_name notices.ReadOnly = codes "ReadOnly"
notice_name notices.Aborted = codes "Aborted"
notice_name notices.Committed = codes "Committed"

-- the local name of a fault's code
abbrev pub fault_name : Fault → List ℕ
fault_name faults.InvalidState = codes "InvalidState"
fault_name faults.InvalidProtocol = codes "InvalidProtocol"
fault_name faults.InvalidParameters = codes "InvalidParameters"
fault_name faults.CannotCreateContext = codes "CannotCreateContext"
fault_name faults.CannotRegisterParticipant = codes "CannotRegisterParticipant"
fault_name faults.UnknownTransaction = codes "UnknownTransaction"

-- the fault of a name, where a protocol has it
abbrev pub fault_named : List ℕ → Option Fault
fault_named name =
    if bytes_eq name (codes "InvalidState") then Some faults.InvalidState
    else if bytes_eq name (codes "InvalidProtocol") then Some faults.InvalidProtocol
    else if bytes_eq name (codes "InvalidParameters") then Some faults.InvalidParameters
    else if bytes_eq name (codes "CannotCreateContext") then Some faults.CannotCreateContext
    else if bytes_eq name (codes "CannotRegisterParticipant") then Some faults.CannotRegisterParticipant
    else if bytes_eq name (codes "UnknownTransaction") then Some faults.UnknownTransaction
    else None
