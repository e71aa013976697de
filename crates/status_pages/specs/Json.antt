-- What a node is and holds, as JSON (RFC 8259). Times are in milliseconds, of the clock of its machine.
use Rattle.std.specs.Prelude.{ℕ, List, [], ◌∷◌, ◌-◌, ◌^◌, Bool, true, false, Option, Some, None, codes, length, map, min}
use Rattle.at_base.specs.IdText.{id_text}
use Rattle.at_base.specs.Names.{kind_name, vote_name}
use Rattle.at_base.specs.declared.epr.Epr.{Epr}
use Rattle.at_model.specs.Book.{Activity, Book, Completion, Enlistment, Leaf, Link, Superior, Transaction}
use Rattle.at_tables.specs.Texts.{state_name}
use Rattle.at_tables.specs.declared.cells.State.{State}
use Rattle.at_tables.specs.declared.cells.State.TheVariants as states
use Rattle.node_at.specs.State.{State as Seen}
use Rattle.node_at.specs.declared.role.Role.{Role}
use Rattle.serde_json.specs.Data.{Data, Items, Members, array, boolean, item, member, no_items, no_members, null, number, object, string, unsigned}
use Rattle.serde_json.specs.View.{items_of}
use Rattle.shown_pages.specs.declared.page.Counts.{Counts}
use Rattle.status_pages.specs.Words.{phase_word, progress_word, role_word}

abbrev pub count : ℕ → Data
count n = number (unsigned n)

-- how long it is until then, at most as a number of 64 bits
abbrev pub time_until : ℕ → Option ℕ → Data
time_until now None = null
time_until now (Some at) = count (min (at - now) (2 ^ 64 - 1))

-- how long ago it was
abbrev pub time_since : ℕ → Option ℕ → Data
time_since now None = null
time_since now (Some at) = count (now - at)

abbrev pub address_of : Option Epr → Data
address_of None = null
address_of (Some e) = string e.address

-- the node waits for who was asked and hasn't answered
abbrev pub is_awaited : State → Bool
is_awaited states.Preparing = true
is_awaited states.Committing = true
is_awaited states.Aborting = true
is_awaited other = false

unfoldable pub participant_data : Enlistment → Data
participant_data s =
    object (member (codes "address") (string s.participant.address)
    (member (codes "awaited") (boolean (is_awaited s.state))
    (member (codes "kind") (string (kind_name s.kind))
    (member (codes "number") (count s.number)
    (member (codes "state") (string (state_name s.state)) no_members)))))

unfoldable pub initiator_data : Option Completion → Data
initiator_data None = null
initiator_data (Some c) = object (member (codes "address") (string c.initiator.address) (member (codes "state") (string (state_name c.state)) no_members))

unfoldable pub link_data : Link → Data
link_data l = object (member (codes "address") (address_of l.coordinator) (member (codes "state") (string (state_name l.state)) no_members))

-- where a subordinate is registered
unfoldable pub superior_data : Option Superior → Data
superior_data None = null
superior_data (Some s) = object (member (codes "durable") (link_data s.durable) (member (codes "volatile") (link_data s.volatile) no_members))

unfoldable pub transaction_data : ℕ → Transaction → Data
transaction_data now t =
    object (member (codes "aborted_ago") (time_since now t.aborted)
    (member (codes "expires_in") (time_until now t.deadline)
    (member (codes "id") (string (id_text t.id))
    (member (codes "identifier") (string t.identifier)
    (member (codes "initiator") (initiator_data t.completion)
    (member (codes "participants") (array (items_of (map participant_data t.seats)))
    (member (codes "sent_ago") (time_since now t.sent)
    (member (codes "state") (string (phase_word t.phase))
    (member (codes "superior") (superior_data t.superior) no_members)))))))))

unfoldable pub leaf_data : ℕ → Leaf → Data
leaf_data now l =
    object (member (codes "coordinator") (address_of l.coordinator)
    (member (codes "expires_in") (time_until now l.deadline)
    (member (codes "id") (string (id_text l.id))
    (member (codes "kind") (string (kind_name l.kind))
    (member (codes "sent_ago") (time_since now l.sent)
    (member (codes "state") (string (state_name l.state))
    (member (codes "vote") (string (vote_name l.vote)) no_members)))))))

unfoldable pub activity_data : ℕ → Activity → Data
activity_data now a =
    object (member (codes "coordinator") (address_of a.coordinator)
    (member (codes "expires_in") (time_until now a.deadline)
    (member (codes "id") (string (id_text a.id))
    (member (codes "root") (string (id_text a.root))
    (member (codes "sent_ago") (time_since now a.sent)
    (member (codes "state") (string (progress_word a.progress))
    (member (codes "works") (count a.works) no_members)))))))

unfoldable pub counts_data : Counts → Data
counts_data c =
    object (member (codes "answers_and_posts_lost") (count c.lost)
    (member (codes "connections") (count c.taken)
    (member (codes "requests_of_web_pages") (count c.foreign)
    (member (codes "unread") (count c.unread) no_members))))

-- the file of the journal that is appended to: its bytes, how often the journal was written anew, and how many records are live
unfoldable pub journal_data : Seen → Data
journal_data n =
    object (member (codes "bytes") (count n.journal.end)
    (member (codes "generation") (count n.journal.generation)
    (member (codes "records") (count (length n.kept.live)) no_members)))

unfoldable pub node_data : Role → Seen → Counts → Data
node_data role n c =
    object (member (codes "activities") (array (items_of (map (activity_data c.clock) n.book.activities)))
    (member (codes "base") (string n.book.base)
    (member (codes "counts") (counts_data c)
    (member (codes "incarnation") (count n.book.incarnation)
    (member (codes "journal") (journal_data n)
    (member (codes "leaves") (array (items_of (map (leaf_data c.clock) n.book.leaves)))
    (member (codes "role") (string (role_word role))
    (member (codes "transactions") (array (items_of (map (transaction_data c.clock) n.book.transactions)))
    (member (codes "up") (count c.up) no_members)))))))))
