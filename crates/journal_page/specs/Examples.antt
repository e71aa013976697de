-- Worked pages.
use Rattle.std.specs.Prelude.{ℕ, List, [], ◌∷◌, ◌≡◌, codes, refl}
use Rattle.std.specs.Fmt.{digits}
use Rattle.at_base.specs.Numbers.{Numbers}
use Rattle.at_base.specs.declared.epr.Epr.{Epr}
use Rattle.at_base.specs.declared.record.Record.TheVariants as records
use Rattle.at_base.specs.declared.record.Seated.{Seated}
use Rattle.journal_at.specs.declared.version.Version.TheVariants.{Two}
use Rattle.journal_page.specs.Pages.{head_lines, page_text}
use Rattle.journal_page.specs.OpenLines.{decision_line, doubt_line}
use Rattle.journal_page.specs.Words.{endpoint_part, endpoint_word, item, number_line, seat_part, seats_part}

abbrev at : List ℕ → Epr
at address = record { address = address; params = [] }

abbrev id : ℕ → Numbers
id counter = record { incarnation = 1; counter = counter }

abbrev seats : List Seated
seats = record { number = 1; endpoint = at (codes "http://p.example/p/d/1-1") } ∷ []

-- a root that decided and waits, a subordinate that was told to commit, and a participant in doubt
pub a_page :
    page_text (record {
      version = Two;
      generation = 3;
      records = records.Start 1 ∷ records.Decided (id 2) seats ∷ records.Voted (id 3) (at (codes "http://s.example/c/d/1-1/1")) seats ∷ records.SubCommitted (id 3)
          ∷ records.LeafPrepared (id 1) (at (codes "http://c.example/c/d/1-4/2")) [] [] ∷ [];
    })
    ≡ codes "version 2\ngeneration 3\nincarnation 1\nstart 1\ndecided 1-2 seats 1 http://p.example/p/d/1-1\nvoted 1-3 under http://s.example/c/d/1-1/1 seats 1 http://p.example/p/d/1-1\ncommitting 1-3\nprepared 1-1 under http://c.example/c/d/1-4/2\nin doubt 1-1 asks http://c.example/c/d/1-4/2\ndecision 1-2 waits for 1 http://p.example/p/d/1-1\ndecision 1-3 waits for 1 http://p.example/p/d/1-1\n"
unfolding digits head_lines number_line item endpoint_part endpoint_word seat_part seats_part decision_line doubt_line
a_page = refl
