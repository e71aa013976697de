-- The getters of clap's matches read the rows.
pub use Rattle.clap.proofs.WalkLemmas.{first_value-rows as text_rows}
