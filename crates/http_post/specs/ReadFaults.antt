-- What a fault of reading says.
use Rattle.http_post.specs.declared.head.HeadFault.{HeadFault}
use Rattle.http_post.specs.declared.head.HeadFault.TheVariants.{NoHead}

-- P, where there is no head
abbrev pub IfNoHead : HeadFault → Type 0 → Type 0
IfNoHead NoHead P = P
IfNoHead other P = Unit {0}
