-- The namespaces that the profile knows, and their prefixes.
use Rattle.std.specs.Prelude.{ℕ, List, Option, Some, None, if◌then◌else◌, codes}
use Rattle.std.specs.Str.{bytes_eq}

-- SOAP 1.1, section 4
abbrev pub soap : List ℕ
soap = codes "http://schemas.xmlsoap.org/soap/envelope/"

-- WS-Addressing 1.0 Core, section 1.2
abbrev pub addressing : List ℕ
addressing = codes "http://www.w3.org/2005/08/addressing"

-- WS-Coordination 1.2, section 1.3
abbrev pub coordination : List ℕ
coordination = codes "http://docs.oasis-open.org/ws-tx/wscoor/2006/06"

-- WS-AtomicTransaction 1.2, section 1.3
abbrev pub transaction : List ℕ
transaction = codes "http://docs.oasis-open.org/ws-tx/wsat/2006/06"

-- the work of this project's participants
abbrev pub work : List ℕ
work = codes "http://example.org/atx/work/1"

-- Namespaces in XML 1.0, section 3
abbrev pub xml : List ℕ
xml = codes "http://www.w3.org/XML/1998/namespace"

-- of the prefix xmlns, which no declaration binds (Namespaces in XML 1.0, section 3)
abbrev pub xmlns : List ℕ
xmlns = codes "http://www.w3.org/2000/xmlns/"

-- the prefix of a namespace that the profile knows
abbrev pub fixed_prefix : List ℕ → Option (List ℕ)
fixed_prefix space =
    if bytes_eq space soap then Some (codes "s")
    else if bytes_eq space addressing then Some (codes "wsa")
    else if bytes_eq space coordination then Some (codes "wscoor")
    else if bytes_eq space transaction then Some (codes "wsat")
    else if bytes_eq space work then Some (codes "work")
    else if bytes_eq space xml then Some (codes "xml")
    else None
