-- A head of n fields has 3n bytes at least.
use Rattle.std.proofs.Common.{ℕ, List, [], ◌∷◌, ◌++◌, ◌≡◌, ◌≤◌, ◌+◌, ◌*◌, length, ap, arith}
use Rattle.std.specs.Prelude.{All}
use Rattle.std.specs.List.{flat_map}
use Rattle.std.proofs.lemmas.List.{length-append}
use Rattle.std.proofs.lemmas.List.Elements.{All-tail, All-head}
use Rattle.httparse.specs.Grammar.{Field, IsField, LineEnd, crlf, lf, RequestHead, print_blank, print_version, print_end, print_field, print_section, print_request}
use Rattle.httparse.specs.Spans.{RequestOverflows}
use Rattle.httparse.proofs.GrammarLemmas.{print_request-append}
use Rattle.http_post.specs.PartialHeads.{NeverHasHead}

end_long : (e : LineEnd) → 1 ≤ length (print_end e)
end_long crlf = omega arith
end_long lf = omega arith

field_long : (f : Field) → IsField f → 3 ≤ length (print_field f)
field_long f h =
    let a : length (print_field f) ≡ length (f.name ++ (58 ∷ f.raw)) + length (print_end f.end) = length-append (f.name ++ (58 ∷ f.raw)) (print_end f.end) in
    let b : length (f.name ++ (58 ∷ f.raw)) ≡ length f.name + length (58 ∷ f.raw) = length-append f.name (58 ∷ f.raw) in
    let one : 1 ≤ length f.name = h.name.0 in
    let e : 1 ≤ length (print_end f.end) = end_long f.end in
    omega (arith, a, b, one, e)

fields_long : (fs : List Field) → All IsField fs → 3 * length fs ≤ length (flat_map print_field fs)
fields_long [] h = omega arith
fields_long (f ∷ fs) h =
    omega (arith, length-append (print_field f) (flat_map print_field fs), field_long f (All-head IsField f fs h), fields_long fs (All-tail IsField f fs h))

behind : (a b : List ℕ) → length b ≤ length (a ++ b)
behind a b = omega (arith, length-append a b)

in_front : (a b : List ℕ) → length a ≤ length (a ++ b)
in_front a b = omega (arith, length-append a b)

-- the fields stand in the head
head_long : (h : RequestHead) (rest : List ℕ) → length (flat_map print_field h.fields) ≤ length (print_request h ++ rest)
head_long h rest =
    let fields = flat_map print_field h.fields in
    let section = print_section h.fields h.last in
    let e = ap length (print_request-append h rest) in
    let s1 = in_front fields (print_end h.last) in
    let s2 = in_front section rest in
    let s3 = behind (print_end h.line_end) (section ++ rest) in
    let s4 = behind (print_version h.minor) (print_end h.line_end ++ (section ++ rest)) in
    let s5 = behind h.target (32 ∷ (print_version h.minor ++ (print_end h.line_end ++ (section ++ rest)))) in
    let s6 = behind h.method (32 ∷ (h.target ++ 32 ∷ (print_version h.minor ++ (print_end h.line_end ++ (section ++ rest))))) in
    let s7 = behind (print_blank h.blank) (h.method ++ 32 ∷ (h.target ++ 32 ∷ (print_version h.minor ++ (print_end h.line_end ++ (section ++ rest))))) in
    omega (arith, e, s1, s2, s3, s4, s5, s6, s7)

pub too_long : (bytes : List ℕ) → RequestOverflows 2731 bytes → NeverHasHead bytes
too_long bytes over more fits h rest reads =
    let many = over more h rest reads in
    let long = fields_long h.fields reads.0.fields in
    let all = head_long h rest in
    omega (arith, many, long, all, ap length reads.1, fits)
