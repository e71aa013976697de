-- What the command writes.
use Rattle.std.proofs.Common.{ℕ, List, ◌≡◌, ◌≤◌, Option, length, take, subst}
use Rattle.std.specs.Io.KnownBytes.{Appends}
use Rattle.journal_page.specs.Contents.{Contents, StandFor}
use Rattle.journal_page.specs.HexLines.{hex_line}
use Rattle.journal_page.specs.Pages.{IsPageOf, Printed, whole_page}
use Rattle.site_model.specs.Told.{Files}
use Rattle.journal_cmd.specs.Folders.{Held}
use Rattle.journal_cmd.specs.Pairs.{PairOf}
use Rattle.journal_cmd.specs.Shown.{IsLineInPart, IsLineOf, IsLineOfInPart, IsPrinted, IsPrintedInPart, IsShown, IsShownInPart, status_if}

pub is_printed : (files : Files) (p : Printed) (old new : Option (List ℕ)) (status : ℕ) → IsPageOf files p → ((c : Contents) → StandFor files c → p ≡ whole_page c)
    → Appends old new p.text → status ≡ status_if p.is_bad → IsPrinted files old new status
is_printed files p old new status is only shown ended = record { page = p; is = record { is = is; only = only }; printed = shown; ended = ended }

pub is_printed_in_part : (files : Files) (p : Printed) (old new : Option (List ℕ)) → IsPageOf files p → ((c : Contents) → StandFor files c → p ≡ whole_page c)
    → (part : (n : ℕ) × ((n ≤ length p.text) × Appends old new (take n p.text))) → IsPrintedInPart files old new
is_printed_in_part files p old new is only part = record { page = p; is = record { is = is; only = only }; count = part.0; within = part.1.0; printed = part.1.1 }

pub is_line_in_part : (base : List ℕ) (files : Files) (line : List ℕ) (old new : Option (List ℕ)) → line ≡ hex_line base files
    → (part : (n : ℕ) × ((n ≤ length line) × Appends old new (take n line))) → IsLineInPart base files old new
is_line_in_part base files line old new e part =
    let at = subst (λ z. (n : ℕ) × ((n ≤ length z) × Appends old new (take n z))) e part in
    record { count = at.0; within = at.1.0; printed = at.1.1 }

pub is_shown : (held : Held) (name : List ℕ) (files : Files) (old new : Option (List ℕ)) (status : ℕ) → PairOf held name files → IsPrinted files old new status → IsShown held name old new status
is_shown held name files old new status are k = record { files = files; are = are; printed = k }

pub is_shown_in_part : (held : Held) (name : List ℕ) (files : Files) (old new : Option (List ℕ)) → PairOf held name files → IsPrintedInPart files old new → IsShownInPart held name old new
is_shown_in_part held name files old new are k = record { files = files; are = are; printed = k }

pub is_line : (base : List ℕ) (held : Held) (name : List ℕ) (files : Files) (old new : Option (List ℕ)) → PairOf held name files → Appends old new (hex_line base files) → IsLineOf base held name old new
is_line base held name files old new are k = record { files = files; are = are; printed = k }

pub is_line_of_in_part : (base : List ℕ) (held : Held) (name : List ℕ) (files : Files) (old new : Option (List ℕ)) → PairOf held name files → IsLineInPart base files old new → IsLineOfInPart base held name old new
is_line_of_in_part base held name files old new are k = record { files = files; are = are; printed = k }
