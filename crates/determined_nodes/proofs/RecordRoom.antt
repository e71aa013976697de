-- A record has room, where its machine has.
use Rattle.std.specs.Prelude.{ℕ, List, ◌≡◌, IfSome, Option, length}
use Rattle.std.proofs.Common.{arith, subst}
use Rattle.at_base.specs.declared.record.Record.{Record}
use Rattle.journal_at.specs.Format.{frames}
use Rattle.journal_at.specs.StandingBodies.{Keeps}
use Rattle.journal_at.specs.declared.journal.Journal.{Journal}
use Rattle.journal_at.specs.declared.version.Version.TheVariants.{Two}
use Rattle.record_bytes.specs.Bytes.{bytes_of}
use Rattle.record_bytes.specs.Versions.{IsRecord}
use Rattle.record_bytes.specs.Versions.{AreBodies as RecordsAreBodies}
use Rattle.site_memory.specs.Sites.{told_of}
use Rattle.site_memory.specs.declared.machine.MemSite.{MemSite}
use Rattle.mirrored_nets.specs.Took.{HasRoom}
use Rattle.mirrored_nets.proofs.WholeTurns.{room}
use Rattle.determined_nodes.proofs.RecordCalls.{Fits}

pub record_fits : RecordsAreBodies → (j : Journal) (bodies : List (List ℕ)) (s : MemSite) → HasRoom s → Keeps j bodies (told_of s) → j.limit ≡ 4294967295 → (entry : Option Record)
    → IfSome entry (λ r. IsRecord Two r (bytes_of r)) → Fits entry (length (frames bodies)) j.limit
record_fits law j bodies s has keeps limit entry formed r e =
    let a = room j bodies s has keeps in
    let b = (law Two r (bytes_of r) (subst (λ o. IfSome o (λ x. IsRecord Two x (bytes_of x))) e formed)).0.most in
    omega (arith, a, b, limit)
