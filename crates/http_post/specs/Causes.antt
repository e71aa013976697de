-- The connection failed exactly where receiving did: that was counted, and else the count is as before.
use Rattle.std.specs.Prelude.{ℕ, ◌≡◌, ◌≤◌, Result, Err, IfErr, OnOk}
use Rattle.site_model.specs.Counts.{Rose}
use Rattle.http_post.specs.declared.head.HeadFault.{HeadFault}
use Rattle.http_post.specs.declared.head.HeadFault.TheVariants.{Failed}
use Rattle.http_post.specs.declared.refusal.HttpRefusal.{HttpRefusal}
use Rattle.http_post.specs.declared.refusal.HttpRefusal.TheVariants.{Link}

abbrev pub UnlessLink : HttpRefusal → Type 0 → Type 0
UnlessLink Link P = Unit {0}
UnlessLink other P = P

abbrev pub UnlessFailed : HeadFault → Type 0 → Type 0
UnlessFailed Failed P = Unit {0}
UnlessFailed other P = P

pub record HasLinkCause {T : Type 0} (before now : ℕ) (result : Result T HttpRefusal) : Type 0 where
  pub later : before ≤ now
  pub failed : result ≡ Err Link → Rose before now
  pub quiet : OnOk result (now ≡ before)
  pub refused : IfErr result (λ e. UnlessLink e (now ≡ before))
