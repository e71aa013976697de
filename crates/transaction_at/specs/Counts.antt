-- How many seats of a list are in each of the groups that a message at one seat asks for.
use Rattle.std.specs.Prelude.{ℕ, List, Bool, ◌+◌, ◌-◌, ◌<◌, ◌^◌, if◌then◌else◌, count_by}
use Rattle.at_base.specs.declared.notice.Kind.{Kind}
use Rattle.at_base.specs.declared.notice.Kind.TheVariants as kinds
use Rattle.at_tables.specs.declared.cells.State.{State}
use Rattle.at_tables.specs.declared.cells.State.TheVariants as states
use Rattle.at_model.specs.Book.{Enlistment}
use Rattle.transaction_at.specs.Groups.{belongs, stands}
use Rattle.transaction_at.specs.declared.counts.Counts.{Counts}
use Rattle.transaction_at.specs.declared.seats.Group.TheVariants as groups

abbrev pub one : Bool → ℕ
one holds = if holds then 1 else 0

-- the counts of a list
abbrev pub counted : List Enlistment → Counts
counted seats = record {
  volatile = count_by (belongs (groups.Unanswered kinds.Volatile)) seats;
  durable = count_by (belongs (groups.Unanswered kinds.Durable)) seats;
  staying = count_by (belongs groups.DurableStaying) seats;
  aborting = count_by (belongs (groups.In states.Aborting)) seats;
  asked = count_by (belongs groups.Asked) seats;
}

-- the counts of one seat
abbrev pub marks : Kind → State → Counts
marks kind state = record {
  volatile = one (stands (groups.Unanswered kinds.Volatile) kind state);
  durable = one (stands (groups.Unanswered kinds.Durable) kind state);
  staying = one (stands groups.DurableStaying kind state);
  aborting = one (stands (groups.In states.Aborting) kind state);
  asked = one (stands groups.Asked kind state);
}

abbrev pub more : Counts → Counts → Counts
more a b = record {
  volatile = a.volatile + b.volatile;
  durable = a.durable + b.durable;
  staying = a.staying + b.staying;
  aborting = a.aborting + b.aborting;
  asked = a.asked + b.asked;
}

abbrev pub less : Counts → Counts → Counts
less a b = record {
  volatile = a.volatile - b.volatile;
  durable = a.durable - b.durable;
  staying = a.staying - b.staying;
  aborting = a.aborting - b.aborting;
  asked = a.asked - b.asked;
}

-- sums of two such counts are numbers of 64 bits
unfoldable pub IsSmall : Counts → Type 0
IsSmall c = (c.volatile < 2 ^ 63) × (c.durable < 2 ^ 63) × (c.staying < 2 ^ 63) × (c.aborting < 2 ^ 63) × (c.asked < 2 ^ 63)

abbrev pub unanswered_of : Kind → Counts → ℕ
unanswered_of kinds.Volatile c = c.volatile
unanswered_of kinds.Durable c = c.durable
