-- The limits of a node, as numbers. Definitions and code cite them by name.
use Rattle.std.specs.Prelude.{◌≡◌}
use Rattle.at_base.specs.declared.limits.TheConstants.{ABORTING_FOR, MOST_ACTIVITIES, MOST_BASE, MOST_ENDPOINT, MOST_FIELD, MOST_IDENTIFIER, MOST_ITEMS, MOST_OUTCOMES, MOST_SEATS, RESEND_AFTER}

pub record LimitsAreStated : Type 0 where
  -- live transactions, and live leaves
  pub items : MOST_ITEMS ≡ 1024
  pub activities : MOST_ACTIVITIES ≡ 256
  -- participants of a transaction
  pub seats : MOST_SEATS ≡ 512
  -- decided transactions whose outcome is kept
  pub outcomes : MOST_OUTCOMES ≡ 1024
  -- bytes of an endpoint with its reference parameters, of a context's Identifier, of a key or a value, and of a node's base
  pub endpoint : MOST_ENDPOINT ≡ 2048
  pub identifier : MOST_IDENTIFIER ≡ 2048
  pub field : MOST_FIELD ≡ 256
  pub base : MOST_BASE ≡ 1024
  -- milliseconds until an item sends again, and in which a transaction is Aborting
  pub resends : RESEND_AFTER ≡ 5000
  pub aborts : ABORTING_FOR ≡ 60000
