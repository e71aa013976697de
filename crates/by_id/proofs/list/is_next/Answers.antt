use Rattle.std.proofs.Common.{rules}
use Rattle.by_id.specs.Places.{id_at}
use Rattle.by_id.specs.declared.place.Place.TheVariants as places
use Rattle.by_id.proofs.Rising.{rising_pushed}
use Rattle.by_id.proofs.list.is_next.Goals as goal

pub returns-in-Some : goal.returns-in-Some
returns-in-Some g c before = rising_pushed (id_at g.T.Identified.id_of) c.args.places.now (places.Live c.args.item.now) (λ d. search rules)
