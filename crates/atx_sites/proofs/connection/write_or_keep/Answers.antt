use Rattle.atx_sites.proofs.Servings.{kept_behind}
use Rattle.atx_sites.proofs.connection.write_or_keep.Goals as goal

pub returns-then-not-is_empty : goal.returns-then-not-is_empty
returns-then-not-is_empty g c = record { kept = kept_behind _ _ c.keep.result _ _ _ c.keep.ensures.ok c.keep.ensures.err c.keep.ensures.same }
