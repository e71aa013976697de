-- What a node is and holds, as a page for a person (HTML, without scripts).
use Rattle.std.specs.Prelude.{ℕ, List, [], ◌∷◌, ◌++◌, ◌-◌, ◌/◌, Bool, true, false, Option, Some, None, codes, decimal, length, min}
use Rattle.std.specs.List.{flat_map}
use Rattle.at_base.specs.IdText.{id_text}
use Rattle.at_base.specs.Names.{kind_name, vote_name}
use Rattle.at_base.specs.declared.epr.Epr.{Epr}
use Rattle.at_base.specs.declared.notice.Kind.{Kind}
use Rattle.at_base.specs.declared.notice.Kind.TheVariants as kinds
use Rattle.at_model.specs.Book.{Activity, Book, Completion, Enlistment, Leaf, Link, Superior, Transaction}
use Rattle.at_tables.specs.Texts.{state_name}
use Rattle.at_tables.specs.declared.cells.State.{State}
use Rattle.node_at.specs.State.{State as Seen}
use Rattle.node_at.specs.declared.role.Role.{Role}
use Rattle.shown_pages.specs.declared.page.Counts.{Counts}
use Rattle.status_pages.specs.Json.{is_awaited}
use Rattle.status_pages.specs.Words.{phase_word, progress_word, role_word}
use Rattle.xml_profile.specs.CanonicalText.{value_byte}

-- a text as it stands
unfoldable pub said : List ℕ → List ℕ
said text = text

unfoldable pub page_start : List ℕ
page_start = codes "<!DOCTYPE html>\n<html lang=\"en\"><head><meta charset=\"utf-8\"><title>atx: "

unfoldable pub page_end : List ℕ
page_end = codes "</body></html>\n"

unfoldable pub page_style : List ℕ
page_style = codes "</title><style>body{font:16px sans-serif;margin:2em;max-width:80em}table{border-collapse:collapse;width:100%}td,th{border-bottom:1px solid #bbb;padding:.3em .6em;text-align:left;vertical-align:top}ul{margin:0;padding-left:1em}.awaited{color:#a40}</style></head><body>\n<h1>"

unfoldable pub transactions_heading : List ℕ
transactions_heading = codes "<h2>Transactions</h2>\n<table><tr><th>id</th><th>state</th><th>expires in</th><th>sent ago</th><th>who takes part; who is waited for stands out</th></tr>\n"

unfoldable pub leaves_heading : List ℕ
leaves_heading = codes "<h2>Participants of its own</h2>\n<table><tr><th>id</th><th>kind</th><th>state</th><th>vote</th><th>expires in</th><th>sent ago</th><th>coordinator</th></tr>\n"

unfoldable pub activities_heading : List ℕ
activities_heading = codes "<h2>Activities</h2>\n<table><tr><th>id</th><th>root</th><th>state</th><th>works</th><th>expires in</th><th>sent ago</th><th>coordinator</th></tr>\n"

-- a text, escaped as in an attribute's value
abbrev pub escaped : List ℕ → List ℕ
escaped = flat_map value_byte

unfoldable pub seconds : ℕ → List ℕ
seconds ms = decimal (ms / 1000) ++ said (codes " s")

-- how long it is until then, or how long ago it was
unfoldable pub left : ℕ → Option ℕ → List ℕ
left now None = said (codes "never")
left now (Some at) = seconds (min (at - now) 18446744073709551615)

unfoldable pub ago : ℕ → Option ℕ → List ℕ
ago now None = said (codes "-")
ago now (Some at) = seconds (now - at)

unfoldable pub place : Option Epr → List ℕ
place None = said (codes "-")
place (Some e) = escaped e.address

-- who is waited for stands out
unfoldable pub item_tag : Bool → List ℕ
item_tag true = codes "<li class=\"awaited\">"
item_tag false = codes "<li>"

-- the state of who takes part, at the end of its item
unfoldable pub standing : State → List ℕ
standing s = said (codes ": ") ++ (said (state_name s) ++ said (codes "</li>"))

unfoldable pub seat_item : Enlistment → List ℕ
seat_item s =
    said (item_tag (is_awaited s.state)) ++ (decimal s.number ++ (said (codes " ") ++ (said (kind_name s.kind) ++ (said (codes " ") ++ (escaped s.participant.address ++ standing s.state)))))

abbrev pub seat_items : List Enlistment → List ℕ
seat_items [] = []
seat_items (s ∷ ss) = seat_item s ++ seat_items ss

unfoldable pub initiator_item : Option Completion → List ℕ
initiator_item None = []
initiator_item (Some c) = said (codes "<li>initiator ") ++ (escaped c.initiator.address ++ standing c.state)

unfoldable pub link_head : Kind → List ℕ
link_head kind = said (codes "<li>superior ") ++ (said (kind_name kind) ++ said (codes " "))

unfoldable pub link_item : Kind → Link → List ℕ
link_item kind l = link_head kind ++ (place l.coordinator ++ standing l.state)

unfoldable pub superior_items : Option Superior → List ℕ
superior_items None = []
superior_items (Some s) = link_item kinds.Durable s.durable ++ link_item kinds.Volatile s.volatile

unfoldable pub cell : List ℕ → List ℕ
cell text = said (codes "<td>") ++ (text ++ said (codes "</td>"))

unfoldable pub transaction_row : ℕ → Transaction → List ℕ
transaction_row now t =
    said (codes "<tr>") ++ (cell (said (id_text t.id)) ++ (cell (said (phase_word t.phase)) ++ (cell (left now t.deadline) ++ (cell (ago now t.sent)
    ++ (said (codes "<td><ul>") ++ (superior_items t.superior ++ (initiator_item t.completion ++ (seat_items t.seats ++ said (codes "</ul></td></tr>\n")))))))))

abbrev pub transaction_rows : ℕ → List Transaction → List ℕ
transaction_rows now [] = []
transaction_rows now (t ∷ ts) = transaction_row now t ++ transaction_rows now ts

unfoldable pub leaf_row : ℕ → Leaf → List ℕ
leaf_row now l =
    said (codes "<tr>") ++ (cell (said (id_text l.id)) ++ (cell (said (kind_name l.kind)) ++ (cell (said (state_name l.state)) ++ (cell (said (vote_name l.vote)) ++ (cell (left now l.deadline)
    ++ (cell (ago now l.sent) ++ (cell (place l.coordinator) ++ said (codes "</tr>\n"))))))))

abbrev pub leaf_rows : ℕ → List Leaf → List ℕ
leaf_rows now [] = []
leaf_rows now (l ∷ ls) = leaf_row now l ++ leaf_rows now ls

unfoldable pub activity_row : ℕ → Activity → List ℕ
activity_row now a =
    said (codes "<tr>") ++ (cell (said (id_text a.id)) ++ (cell (said (id_text a.root)) ++ (cell (said (progress_word a.progress)) ++ (cell (decimal a.works) ++ (cell (left now a.deadline)
    ++ (cell (ago now a.sent) ++ (cell (place a.coordinator) ++ said (codes "</tr>\n"))))))))

abbrev pub activity_rows : ℕ → List Activity → List ℕ
activity_rows now [] = []
activity_rows now (a ∷ xs) = activity_row now a ++ activity_rows now xs

unfoldable pub head : Role → Seen → List ℕ
head role n =
    said page_start
    ++ (said (role_word role) ++ (said (codes " ") ++ (escaped n.book.base
    ++ (said page_style
    ++ (said (role_word role) ++ (said (codes " ") ++ (escaped n.book.base ++ said (codes "</h1>\n"))))))))

-- a number behind a text
unfoldable pub fact : List ℕ → ℕ → List ℕ
fact text n = said text ++ decimal n

unfoldable pub connection_facts : Counts → List ℕ
connection_facts c = fact (codes ". Turns: ") c.taken ++ (fact (codes ", unread: ") c.unread ++ (fact (codes ", web pages refused: ") c.foreign ++ fact (codes ", lost: ") c.lost))

unfoldable pub size_facts : Seen → List ℕ
size_facts n = fact (codes ". Journal: ") n.journal.end ++ fact (codes " bytes, ") (length n.kept.live)

unfoldable pub generation_text : List ℕ
generation_text = codes " records, generation "

unfoldable pub facts_end : List ℕ
facts_end = codes ".</p>\n"

unfoldable pub generation_facts : Seen → List ℕ
generation_facts n = fact generation_text n.journal.generation ++ said facts_end

unfoldable pub age_facts : Seen → Counts → List ℕ
age_facts n c = said (codes "<p>Up for ") ++ (seconds c.up ++ fact (codes ", in incarnation ") n.book.incarnation)

-- what was counted, and the journal
unfoldable pub facts : Seen → Counts → List ℕ
facts n c = age_facts n c ++ (connection_facts c ++ (size_facts n ++ generation_facts n))

unfoldable pub transactions_part : ℕ → List Transaction → List ℕ
transactions_part now ts =
    said transactions_heading
    ++ (transaction_rows now ts ++ said (codes "</table>\n"))

unfoldable pub leaves_part : ℕ → List Leaf → List ℕ
leaves_part now ls =
    said leaves_heading
    ++ (leaf_rows now ls ++ said (codes "</table>\n"))

unfoldable pub activities_part : ℕ → List Activity → List ℕ
activities_part now xs =
    said activities_heading
    ++ (activity_rows now xs ++ said (codes "</table>\n"))

-- what a node holds
unfoldable pub items_part : ℕ → Book → List ℕ
items_part now b = transactions_part now b.transactions ++ (leaves_part now b.leaves ++ activities_part now b.activities)

unfoldable pub overview : Role → Seen → Counts → List ℕ
overview role n c = head role n ++ (facts n c ++ (items_part c.clock n.book ++ said page_end))
