-- The pages of a node.
use Rattle.std.specs.Prelude.{ℕ, List, codes}
use Rattle.node_at.specs.State.{State}
use Rattle.node_at.specs.declared.role.Role.{Role}
use Rattle.serde_json.specs.Written.{compact_text}
use Rattle.shown_pages.specs.declared.page.Counts.{Counts}
use Rattle.shown_pages.specs.declared.page.Page.{Page}
use Rattle.shown_pages.specs.declared.page.Page.TheVariants as pages
use Rattle.status_pages.specs.Json.{node_data}
use Rattle.status_pages.specs.Overview.{overview}

abbrev pub page_of : Role → State → Counts → Page → List ℕ
page_of role n c pages.Overview = overview role n c
page_of role n c pages.Status = compact_text (node_data role n c)
page_of role n c pages.Health = codes "serving\n"
