-- The bytes of a connection ask one thing.
use Rattle.std.proofs.Common.{ℕ, List, [], ◌∷◌, ◌++◌, ◌≡◌, ◌≤◌, ◌<◌, ◌+◌, ◌⊎◌, inl, inr, zero, suc, Bool, true, false, Result, Ok, Err, length, take, drop, get_or, refl, sym, ap, subst, ◌∙◌, arith, append-nil}
use Rattle.std.proofs.lemmas.List.{drop_at, length-append, take_at}
use Rattle.std.proofs.lemmas.Bool.{true≢false}
use Rattle.httparse.specs.Grammar.{ChunkLine, HasNoChunkLine, HasNoRequest, NeverHasChunkLine, ReadsChunkLine, ReadsRequest, RequestHead, chunk_size, print_chunk_line, print_request}
use Rattle.httparse.proofs.ChunkLemmas.{chunk_line_unique}
use Rattle.httparse.proofs.GrammarLemmas.{request_unique}
use Rattle.http_post.specs.Chunks.{Chunks, IsCutShort, IsUnended, before_feed, before_return, chunk, cut_at_end, ends_trailers, in_chunk, in_data, in_line, in_trailers, last, no_feed, no_line, no_return, prefixed, too_large, unended}
use Rattle.http_post.specs.Conversations.{Waits, has_none, is_framed, is_refused}
use Rattle.http_post.specs.Heads.{expects, framing_of}
use Rattle.http_post.specs.Laws.{AskOneThing, WaitOrNot}
use Rattle.http_post.specs.Requests.{Asked, Asks, Body, all_there, asking, chunked, cut_off, framed, no_head, path_of, refused}
use Rattle.http_post.specs.declared.framing.Framing.{Framing}
use Rattle.http_post.specs.declared.framing.Framing.TheVariants.{Chunked, Sized}
use Rattle.http_post.specs.declared.refusal.HttpRefusal.{HttpRefusal}
use Rattle.http_post.specs.declared.refusal.HttpRefusal.TheVariants.{BadRequest, ContentTooLarge}

same_split : (xs ys us vs : List ℕ) → xs ++ us ≡ ys ++ vs → length xs ≡ length ys → (xs ≡ ys) × (us ≡ vs)
same_split xs ys us vs e n = (
  sym (take_at xs us (length ys) n) ∙ ap (take (length ys)) e ∙ take_at ys vs (length ys) refl,
  sym (drop_at xs us (length ys) n) ∙ ap (drop (length ys)) e ∙ drop_at ys vs (length ys) refl,
)

-- the data of a chunk are whole, break off, or are followed by another byte
short_length : (size : ℕ) (rest : List ℕ) → IsCutShort size rest → length rest ≤ size + 1
short_length size rest (in_data part lt) = omega (arith, lt)
short_length size rest (before_return content e) = omega (arith, e)
short_length size rest (before_feed content e) = omega (arith, e, length-append content (13 ∷ []))

unended_length : (xs : List ℕ) → IsUnended xs → 0 < length xs
unended_length xs (no_return b after ne) = omega arith
unended_length xs (no_feed b after ne) = omega arith

unended_not : (xs after : List ℕ) → IsUnended xs → xs ≡ 13 ∷ 10 ∷ after → ⊥
unended_not xs after (no_return b more ne) e = ne (ap (λ z. get_or z 0 0) e)
unended_not xs after (no_feed b more ne) e = ne (ap (λ z. get_or z 1 0) e)

unended_feed : (xs : List ℕ) → IsUnended xs → xs ≡ 13 ∷ [] → ⊥
unended_feed xs (no_return b more ne) e = ne (ap (λ z. get_or z 0 0) e)
unended_feed xs (no_feed b more ne) e = omega (arith, ap length e)

short_not_bad : (size : ℕ) (rest content after : List ℕ) → IsCutShort size rest → rest ≡ content ++ after → length content ≡ size → IsUnended after → ⊥
short_not_bad size rest content after (in_data part lt) e n bad = omega (arith, lt, ap length e, length-append content after, n)
short_not_bad size rest content after (before_return part m) e n bad = omega (arith, m, ap length e, length-append content after, n, unended_length after bad)
short_not_bad size rest content after (before_feed part m) e n bad = unended_feed after bad (sym (same_split part content (13 ∷ []) after e (m ∙ sym n)).1)

data Content (cut : HttpRefusal) (sum size : ℕ) (rest : List ℕ) (out : Result (List ℕ) HttpRefusal) : Type 0 where
  whole : (content after : List ℕ) (inner : Result (List ℕ) HttpRefusal) → rest ≡ content ++ 13 ∷ 10 ∷ after → length content ≡ size
      → Chunks cut (sum + size) after inner → out ≡ prefixed content inner → Content cut sum size rest out
  short : IsCutShort size rest → out ≡ Err cut → Content cut sum size rest out
  other : (content after : List ℕ) → rest ≡ content ++ after → length content ≡ size → IsUnended after → out ≡ Err BadRequest → Content cut sum size rest out

abbrev end_of : HttpRefusal → Bool → Result (List ℕ) HttpRefusal
end_of cut true = Ok []
end_of cut false = Err cut

-- what stands behind a chunk line
data Behind (cut : HttpRefusal) (sum size : ℕ) (rest : List ℕ) (out : Result (List ℕ) HttpRefusal) : Type 0 where
  at_end : size ≡ 0 → out ≡ end_of cut (ends_trailers rest) → Behind cut sum size rest out
  has_content : 0 < size → sum + size ≤ 65536 → Content cut sum size rest out → Behind cut sum size rest out
  large : 65536 < sum + size → out ≡ Err ContentTooLarge → Behind cut sum size rest out

-- no line stands there
data Lineless (cut : HttpRefusal) (seen : List ℕ) (out : Result (List ℕ) HttpRefusal) : Type 0 where
  never : NeverHasChunkLine seen → out ≡ Err BadRequest → Lineless cut seen out
  not_yet : HasNoChunkLine seen → ¬ (NeverHasChunkLine seen) → out ≡ Err cut → Lineless cut seen out

abbrev Lined : HttpRefusal → ℕ → List ℕ → Result (List ℕ) HttpRefusal → Type 0
Lined cut sum seen out = (l : ChunkLine) × (rest : List ℕ) × ReadsChunkLine seen l rest × Behind cut sum (chunk_size l) rest out

view : (cut : HttpRefusal) (sum : ℕ) (seen : List ℕ) (out : Result (List ℕ) HttpRefusal) → Chunks cut sum seen out → Lined cut sum seen out ⊎ Lineless cut seen out
view cut sum seen out (chunk {out = inner} l content rest reads n some fits more) =
    inl (l, content ++ 13 ∷ 10 ∷ rest, reads, has_content some fits (whole content rest inner refl n more refl))
view cut sum seen out (last l rest reads none ends) = inl (l, rest, reads, at_end none (ap (end_of cut) (sym ends)))
view cut sum seen out (in_trailers l rest reads none ends) = inl (l, rest, reads, at_end none (ap (end_of cut) (sym ends)))
view cut sum seen out (in_chunk l rest reads some fits off) = inl (l, rest, reads, has_content some fits (short off refl))
view cut sum seen out (in_line none may) = inr (not_yet none may refl)
view cut sum seen out (no_line none) = inr (never none refl)
view cut sum seen out (unended l content after reads n some fits bad) = inl (l, content ++ after, reads, has_content some fits (other content after refl n bad refl))
view cut sum seen out (too_large l rest reads lt) = inl (l, rest, reads, large lt refl)

module _ (cut : HttpRefusal) (sum size : ℕ) (rest : List ℕ)
    (go : (after : List ℕ) (a b : Result (List ℕ) HttpRefusal) → length after < length rest → Chunks cut (sum + size) after a → Chunks cut (sum + size) after b → a ≡ b) where
  whole_length : (content after : List ℕ) → rest ≡ content ++ 13 ∷ 10 ∷ after → length content ≡ size → (size + 1 < length rest) × (length after < length rest)
  whole_length content after e n = (
    omega (arith, n, ap length e, length-append content (13 ∷ 10 ∷ after)),
    omega (arith, n, ap length e, length-append content (13 ∷ 10 ∷ after)),
  )

  same_content : (a b : Result (List ℕ) HttpRefusal) → Content cut sum size rest a → Content cut sum size rest b → a ≡ b
  same_content a b (whole content after inner e n more is) (whole content' after' inner' e' n' more' is') =
      let same = same_split content content' (13 ∷ 10 ∷ after) (13 ∷ 10 ∷ after') (sym e ∙ e') (n ∙ sym n') in
      let behind : after ≡ after' = ap (drop 2) same.1 in
      let inside : inner ≡ inner' = go after inner inner' (whole_length content after e n).1 more (subst (λ z. Chunks cut (sum + size) z inner') (sym behind) more') in
      is ∙ ap (λ z. prefixed z inner) same.0 ∙ ap (prefixed content') inside ∙ sym is'
  same_content a b (whole content after inner e n more is) (short off is') = absurd (omega (arith, short_length size rest off, (whole_length content after e n).0))
  same_content a b (whole content after inner e n more is) (other content' after' e' n' bad is') =
      let same = same_split content' content after' (13 ∷ 10 ∷ after) (sym e' ∙ e) (n' ∙ sym n) in
      absurd (unended_not after' after bad same.1)
  same_content a b (short off is) (whole content after inner e n more is') = absurd (omega (arith, short_length size rest off, (whole_length content after e n).0))
  same_content a b (short off is) (short off' is') = is ∙ sym is'
  same_content a b (short off is) (other content after e n bad is') = absurd (short_not_bad size rest content after off e n bad)
  same_content a b (other content' after' e' n' bad is') (whole content after inner e n more is) =
      let same = same_split content' content after' (13 ∷ 10 ∷ after) (sym e' ∙ e) (n' ∙ sym n) in
      absurd (unended_not after' after bad same.1)
  same_content a b (other content after e n bad is') (short off is) = absurd (short_not_bad size rest content after off e n bad)
  same_content a b (other content after e n bad is) (other content' after' e' n' bad' is') = is ∙ sym is'

module _ (cut : HttpRefusal) (sum size : ℕ) (rest : List ℕ)
    (go : (after : List ℕ) (a b : Result (List ℕ) HttpRefusal) → sum + size ≤ 65536 → length after < length rest → Chunks cut (sum + size) after a → Chunks cut (sum + size) after b → a ≡ b) where
  same_behind : (a b : Result (List ℕ) HttpRefusal) → sum ≤ 65536 → Behind cut sum size rest a → Behind cut sum size rest b → a ≡ b
  same_behind a b le (at_end none is) (at_end none' is') = is ∙ sym is'
  same_behind a b le (at_end none is) (has_content some fits c) = absurd (omega (arith, none, some))
  same_behind a b le (at_end none is) (large lt is') = absurd (omega (arith, none, le, lt))
  same_behind a b le (has_content some fits c) (at_end none is) = absurd (omega (arith, none, some))
  same_behind a b le (has_content some fits c) (has_content some' fits' c') = same_content cut sum size rest (λ after c d. go after c d fits) a b c c'
  same_behind a b le (has_content some fits c) (large lt is') = absurd (omega (arith, fits, lt))
  same_behind a b le (large lt is) (at_end none is') = absurd (omega (arith, none, le, lt))
  same_behind a b le (large lt is) (has_content some fits c) = absurd (omega (arith, fits, lt))
  same_behind a b le (large lt is) (large lt' is') = is ∙ sym is'

has_none_now : (seen : List ℕ) → NeverHasChunkLine seen → HasNoChunkLine seen
has_none_now seen h l rest reads = h [] l rest (subst (λ z. ReadsChunkLine z l rest) (sym (append-nil seen)) reads)

lacks : (cut : HttpRefusal) (seen : List ℕ) (out : Result (List ℕ) HttpRefusal) → Lineless cut seen out → HasNoChunkLine seen
lacks cut seen out (never h is) = has_none_now seen h
lacks cut seen out (not_yet h may is) = h

same_lineless : (cut : HttpRefusal) (seen : List ℕ) (a b : Result (List ℕ) HttpRefusal) → Lineless cut seen a → Lineless cut seen b → a ≡ b
same_lineless cut seen a b (never h is) (never h' is') = is ∙ sym is'
same_lineless cut seen a b (never h is) (not_yet h' may is') = absurd (may h)
same_lineless cut seen a b (not_yet h may is) (never h' is') = absurd (may h')
same_lineless cut seen a b (not_yet h may is) (not_yet h' may' is') = is ∙ sym is'

same_lined : (cut : HttpRefusal) (sum : ℕ) (seen : List ℕ) (a b : Result (List ℕ) HttpRefusal)
    → ((size : ℕ) (after : List ℕ) (c d : Result (List ℕ) HttpRefusal) → length after < length seen → sum + size ≤ 65536 → Chunks cut (sum + size) after c → Chunks cut (sum + size) after d → c ≡ d)
    → sum ≤ 65536 → Lined cut sum seen a → Lined cut sum seen b → a ≡ b
same_lined cut sum seen a b go le (l, rest, reads, h) (l', rest', reads', h') =
    let u = chunk_line_unique seen l l' rest rest' reads reads' in
    let same : Behind cut sum (chunk_size l) rest b =
    subst (λ z. Behind cut sum (chunk_size z) rest b) (sym u.0) (subst (λ z. Behind cut sum (chunk_size l') z b) (sym u.1) h') in
    same_behind cut sum (chunk_size l) rest (λ after c d fits lt. go (chunk_size l) after c d (omega (arith, lt, ap length reads.1, length-append (print_chunk_line l) rest)) fits) a b le h same

same_view : (cut : HttpRefusal) (sum : ℕ) (seen : List ℕ) (a b : Result (List ℕ) HttpRefusal)
    → ((size : ℕ) (after : List ℕ) (c d : Result (List ℕ) HttpRefusal) → length after < length seen → sum + size ≤ 65536 → Chunks cut (sum + size) after c → Chunks cut (sum + size) after d → c ≡ d)
    → sum ≤ 65536 → Lined cut sum seen a ⊎ Lineless cut seen a → Lined cut sum seen b ⊎ Lineless cut seen b → a ≡ b
same_view cut sum seen a b go le (inl x) (inl y) = same_lined cut sum seen a b go le x y
same_view cut sum seen a b go le (inl (l, rest, reads, h)) (inr y) = absurd (lacks cut seen b y l rest reads)
same_view cut sum seen a b go le (inr x) (inl (l, rest, reads, h)) = absurd (lacks cut seen a x l rest reads)
same_view cut sum seen a b go le (inr x) (inr y) = same_lineless cut seen a b x y

-- with as much as there are bytes
same_chunks : (n : ℕ) (cut : HttpRefusal) (sum : ℕ) (seen : List ℕ) (a b : Result (List ℕ) HttpRefusal) → length seen ≤ n → sum ≤ 65536
    → Chunks cut sum seen a → Chunks cut sum seen b → a ≡ b
same_chunks zero cut sum seen a b le fits x y =
    same_view cut sum seen a b (λ size after c d lt more h k. absurd (omega (arith, lt, le))) fits (view cut sum seen a x) (view cut sum seen b y)
same_chunks (suc n) cut sum seen a b le fits x y =
    same_view cut sum seen a b (λ size after c d lt more h k. same_chunks n cut (sum + size) after c d (omega (arith, lt, le)) more h k) fits (view cut sum seen a x) (view cut sum seen b y)

-- by how the body is framed
abbrev Framed : Framing → List ℕ → Result (List ℕ) HttpRefusal → Type 0
Framed (Sized count) rest out = ((count ≤ length rest) × (out ≡ Ok (take count rest))) ⊎ ((length rest < count) × (out ≡ Err BadRequest))
Framed Chunked rest out = Chunks (cut_at_end rest) 0 (take 131072 rest) out

framed_so : (framing : Framing) (rest : List ℕ) (out : Result (List ℕ) HttpRefusal) → Body framing rest out → Framed framing rest out
framed_so framing rest out (all_there count bytes le) = inl (le, refl)
framed_so framing rest out (cut_off count bytes lt) = inr (lt, refl)
framed_so framing rest out (chunked bytes chunks) = chunks

same_framed : (framing : Framing) (rest : List ℕ) (a b : Result (List ℕ) HttpRefusal) → Framed framing rest a → Framed framing rest b → a ≡ b
same_framed (Sized count) rest a b (inl x) (inl y) = x.1 ∙ sym y.1
same_framed (Sized count) rest a b (inl x) (inr y) = absurd (omega (arith, x.0, y.0))
same_framed (Sized count) rest a b (inr x) (inl y) = absurd (omega (arith, x.0, y.0))
same_framed (Sized count) rest a b (inr x) (inr y) = x.1 ∙ sym y.1
same_framed Chunked rest a b x y = same_chunks (length (take 131072 rest)) (cut_at_end rest) 0 (take 131072 rest) a b (omega arith) (omega arith) x y

-- what bytes ask, by their head
data Meant (input : List ℕ) (out : Result Asked HttpRefusal) : Type 0 where
  headless : HasNoRequest (take 8192 input) → out ≡ Err BadRequest → Meant input out
  barred : (refusal : HttpRefusal) (h : RequestHead) (rest : List ℕ) → ReadsRequest (take 8192 input) h rest → framing_of h ≡ Err refusal → out ≡ Err refusal → Meant input out
  admitted : (body : Result (List ℕ) HttpRefusal) (h : RequestHead) (rest : List ℕ) (framing : Framing) → ReadsRequest (take 8192 input) h rest → framing_of h ≡ Ok framing
      → Body framing (drop (length (print_request h)) input) body → out ≡ asking (path_of h.target) body → Meant input out

meant : (input : List ℕ) (out : Result Asked HttpRefusal) → Asks input out → Meant input out
meant input out (no_head none) = headless none refl
meant input out (refused {refusal = r} h rest reads is) = barred r h rest reads is refl
meant input out (framed {out = body} h rest framing reads is inside) = admitted body h rest framing reads is inside refl

abbrev framing_or : Framing → Result Framing HttpRefusal → Framing
framing_or fallback (Ok f) = f
framing_or fallback (Err r) = fallback

abbrev refusal_or : HttpRefusal → Result Framing HttpRefusal → HttpRefusal
refusal_or fallback (Ok f) = fallback
refusal_or fallback (Err r) = r

abbrev is_ok : Result Framing HttpRefusal → Bool
is_ok (Ok f) = true
is_ok (Err r) = false

module _ (input : List ℕ) (h k : RequestHead) (rest more : List ℕ) (x : ReadsRequest (take 8192 input) h rest) (y : ReadsRequest (take 8192 input) k more) where
  one_head : h ≡ k
  one_head = (request_unique (take 8192 input) h k rest more x y).0

  one_framing : framing_of h ≡ framing_of k
  one_framing = ap framing_of one_head

  not_both : (f : Framing) (r : HttpRefusal) → framing_of h ≡ Ok f → framing_of k ≡ Err r → ⊥
  not_both f r e n = true≢false (ap is_ok (sym e ∙ one_framing ∙ n))

same_meant : (input : List ℕ) (a b : Result Asked HttpRefusal) → Meant input a → Meant input b → a ≡ b
same_meant input a b (headless none is) (headless none' is') = is ∙ sym is'
same_meant input a b (headless none is) (barred r h rest reads denies is') = absurd (none h rest reads)
same_meant input a b (headless none is) (admitted body h rest f reads so inside is') = absurd (none h rest reads)
same_meant input a b (barred r h rest reads denies is) (headless none is') = absurd (none h rest reads)
same_meant input a b (barred r h rest reads denies is) (barred s k more reads' denies' is') =
    is ∙ ap Err (ap (refusal_or r) (sym denies ∙ one_framing input h k rest more reads reads' ∙ denies')) ∙ sym is'
same_meant input a b (barred r h rest reads denies is) (admitted body k more f reads' so inside is') = absurd (not_both input k h more rest reads' reads f r so denies)
same_meant input a b (admitted body h rest f reads so inside is) (headless none is') = absurd (none h rest reads)
same_meant input a b (admitted body h rest f reads so inside is) (barred r k more reads' denies is') = absurd (not_both input h k rest more reads reads' f r so denies)
same_meant input a b (admitted body h rest f reads so inside is) (admitted body' k more f' reads' so' inside' is') =
    let heads : h ≡ k = one_head input h k rest more reads reads' in
    let framings : f ≡ f' = ap (framing_or f) (sym so ∙ one_framing input h k rest more reads reads' ∙ so') in
    let other : Body f (drop (length (print_request h)) input) body' =
    subst (λ z. Body z (drop (length (print_request h)) input) body') (sym framings) (subst (λ z. Body f' (drop (length (print_request z)) input) body') (sym heads) inside') in
    let bodies : body ≡ body' = same_framed f (drop (length (print_request h)) input) body body' (framed_so f (drop (length (print_request h)) input) body inside) (framed_so f (drop (length (print_request h)) input) body' other) in
    is ∙ ap (λ z. asking (path_of z.target) body) heads ∙ ap (asking (path_of k.target)) bodies ∙ sym is'

pub ask_one_thing : AskOneThing
ask_one_thing input a b x y = same_meant input a b (meant input a x) (meant input b y)

-- whether the client waits, by the head
data Awaited (input : List ℕ) (waits : Bool) : Type 0 where
  nothing : HasNoRequest (take 8192 input) → waits ≡ false → Awaited input waits
  denied : (refusal : HttpRefusal) (h : RequestHead) (rest : List ℕ) → ReadsRequest (take 8192 input) h rest → framing_of h ≡ Err refusal → waits ≡ false → Awaited input waits
  granted : (h : RequestHead) (rest : List ℕ) (framing : Framing) → ReadsRequest (take 8192 input) h rest → framing_of h ≡ Ok framing → waits ≡ expects h → Awaited input waits

awaited : (input : List ℕ) (waits : Bool) → Waits input waits → Awaited input waits
awaited input waits (has_none none) = nothing none refl
awaited input waits (is_refused {refusal = r} h rest reads is) = denied r h rest reads is refl
awaited input waits (is_framed h rest framing reads is) = granted h rest framing reads is refl

same_awaited : (input : List ℕ) (a b : Bool) → Awaited input a → Awaited input b → a ≡ b
same_awaited input a b (nothing none is) (nothing none' is') = is ∙ sym is'
same_awaited input a b (nothing none is) (denied r h rest reads denies is') = is ∙ sym is'
same_awaited input a b (nothing none is) (granted h rest f reads so is') = absurd (none h rest reads)
same_awaited input a b (denied r h rest reads denies is) (nothing none is') = is ∙ sym is'
same_awaited input a b (denied r h rest reads denies is) (denied s k more reads' denies' is') = is ∙ sym is'
same_awaited input a b (denied r h rest reads denies is) (granted k more f reads' so is') = absurd (not_both input k h more rest reads' reads f r so denies)
same_awaited input a b (granted h rest f reads so is) (nothing none is') = absurd (none h rest reads)
same_awaited input a b (granted h rest f reads so is) (denied r k more reads' denies is') = absurd (not_both input h k rest more reads reads' f r so denies)
same_awaited input a b (granted h rest f reads so is) (granted k more f' reads' so' is') = is ∙ ap expects (one_head input h k rest more reads reads') ∙ sym is'

pub wait_or_not : WaitOrNot
wait_or_not input a b x y = same_awaited input a b (awaited input a x) (awaited input b y)
