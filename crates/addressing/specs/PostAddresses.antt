-- Where a post to an address goes: the host, the port and the path of its URL (RFC 9110, section 4.2.1).
use Rattle.std.specs.Prelude.{ℕ, List, [], ◌++◌, Option, Some, None, Ok, Err, if◌then◌else◌, codes}
use Rattle.std.specs.Option.{option_map, unwrap_or}
use Rattle.std.specs.Str.{bytes_eq}
use Rattle.url.specs.Parts.{Parts, nonempty_host}
use Rattle.url.specs.Host.{host_text}
use Rattle.url.specs.Parser.{parse_url, Parsed}
use Rattle.addressing.specs.declared.post_to.PostTo.{PostTo}

abbrev pub with_query : List ℕ → Option (List ℕ) → List ℕ
with_query path None = path
with_query path (Some query) = path ++ codes "?" ++ query

-- the path of a URL, without its query
abbrev pub path_in : Parsed Parts → Option (List ℕ)
path_in (Ok url) = Some url.path
path_in (Err fault) = None

-- only an http URL can be posted to
abbrev pub postable : Parts → Option PostTo
postable url =
    if bytes_eq url.scheme (codes "http")
    then Some (record {
      host = unwrap_or (option_map host_text (nonempty_host url)) [];
      port = unwrap_or url.port 80;
      path = with_query url.path url.query;
    })
    else None

abbrev pub of_parsed : Parsed Parts → Option PostTo
of_parsed (Ok url) = postable url
of_parsed (Err fault) = None

abbrev pub post_to_of : List ℕ → Option PostTo
post_to_of address = of_parsed (parse_url None address)
