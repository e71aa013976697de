use Rattle.fated_walks.proofs.FatedWalks.{walks_by_fates}
use Rattle.fated_walks.proofs.laws.walks_by_fates.Goals as goal

pub returns : goal.returns
returns c = walks_by_fates
