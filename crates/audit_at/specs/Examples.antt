-- Worked journals, and what is said of them.
use Rattle.std.specs.Prelude.{ℕ, List, [], ◌∷◌, ◌≡◌, Some, None, codes, refl}
use Rattle.std.specs.Fmt.{digits}
use Rattle.at_base.specs.Numbers.{Numbers}
use Rattle.at_base.specs.declared.epr.Epr.{Epr}
use Rattle.at_base.specs.declared.record.Record.TheVariants as records
use Rattle.audit_at.specs.declared.verdict.Verdict.TheVariants as verdicts
use Rattle.audit_at.specs.Superiors.{Log, item_at, named}
use Rattle.audit_at.specs.Verdicts.{verdict_of}

abbrev pub one : Numbers
one = record { incarnation = 1; counter = 1 }

abbrev pub at : List ℕ → Epr
at address = record { address = address; params = [] }

abbrev pub n2 : List ℕ
n2 = codes "http://n2.example"

abbrev pub n3 : List ℕ
n3 = codes "http://n3.example"

pub names_a_seat : named (codes "http://n2.example/c/d/1-1/1") ≡ Some (item_at n2 one)
unfolding digits
names_a_seat = refl

-- a volatile seat is none that a durable participant has
pub names_none : named (codes "http://n2.example/c/v/1-1/1") ≡ None
unfolding digits
names_none = refl

-- a node that only started
abbrev pub started : Log
started = record { base = n2; records = records.Start 1 ∷ [] }

pub nothing_recorded : verdict_of (started ∷ []) ≡ verdicts.Agreed 0 0
unfolding digits
nothing_recorded = refl

-- a root that committed with one durable participant
abbrev pub coordinator : Log
coordinator = record {
  base = n2;
  records = records.Start 1 ∷ records.Decided one (record { number = 1; endpoint = at (codes "http://n3.example/p/d/1-1") } ∷ []) ∷ records.Ended one ∷ [];
}

pub root_alone : verdict_of (coordinator ∷ []) ≡ verdicts.Agreed 1 0
unfolding digits
root_alone = refl

-- the participant aborted
abbrev pub participant : Log
participant = record {
  base = n3;
  records = records.LeafPrepared one (at (codes "http://n2.example/c/d/1-1/1")) (codes "k") (codes "v") ∷ records.LeafAborted one ∷ [];
}

pub outcomes_differ : verdict_of (coordinator ∷ participant ∷ []) ≡ verdicts.Split n2 one
unfolding digits
outcomes_differ = refl

-- two that voted to each other
abbrev pub voted : List ℕ → List ℕ → Log
voted base superior = record { base = base; records = records.Voted one (at superior) [] ∷ [] }

pub superiors_come_back :
    verdict_of (voted (codes "http://b.example") (codes "http://a.example/c/d/1-1/1") ∷ voted (codes "http://a.example") (codes "http://b.example/c/d/1-1/1") ∷ [])
    ≡ verdicts.Cycle (codes "http://a.example") one
unfolding digits
superiors_come_back = refl
