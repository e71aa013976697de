-- Taking a request: what was heard and said.
use Rattle.std.proofs.Common.{ℕ, List, Option, Some, None, [], ◌∷◌, ◌++◌, ◌≡◌, ◌≢◌, ◌≤◌, ◌⊎◌, inl, inr, Bool, true, false, Result, Ok, Err, length, map, take, drop, refl, sym, ap, subst, ◌∙◌, arith, append-nil, if◌then◌else◌}
use Rattle.std.specs.Prelude.{OnErr, ◌&&◌, codes, nat_le, not, option_map}
use Rattle.std.specs.Io.KnownBytes.{Consumes}
use Rattle.std.specs.List.{list_all}
use Rattle.std.specs.Str.Parse.{digits_value}
use Rattle.std.proofs.Common.{bytes_eq, IfSome}
use Rattle.std.proofs.lemmas.List.{drop-append-le}
use Rattle.std.proofs.lemmas.List.{length-append}
use Rattle.httparse.specs.Grammar.{HasNoRequest, ReadsRequest, print_request}
use Rattle.httparse.specs.declared.spans.HeaderSpan.{HeaderSpan}
use Rattle.httparse.specs.declared.spans.RequestSpans.{RequestSpans}
use Rattle.site_model.specs.Calls.{Gave, Outcome}
use Rattle.site_model.specs.Counts.{Rose}
use Rattle.site_model.specs.Site.{Counts}
use Rattle.site_model.specs.Told.{BreaksOff, Call, Files, Made, Told, done, failed}
use Rattle.site_model.specs.Told.Call.{Send}
use Rattle.http_post.specs.Connections.{Stays, behind, coming, left}
use Rattle.http_post.specs.Conversations.{Hears, IsHeard, IsRefused, IsSaid, interim, said, unsaid, has_none, is_refused}
use Rattle.http_post.specs.Heads.{agrees, framed, framed_by, framing_in, framing_of, is_none, is_word, lacks_host, most_content, sized, values_in}
use Rattle.http_post.specs.FieldMaps.{Draws, SaysOf}
use Rattle.http_post.specs.PartialHeads.{HasNoHead, HoldsHead, IsRead}
use Rattle.http_post.specs.RawBytes.{IsFault, IsRaw}
use Rattle.http_post.specs.Requests.{no_head as asks_no_head, refused as asks_refused}
use Rattle.http_post.specs.declared.framing.Framing.{Framing}
use Rattle.http_post.specs.declared.framing.Framing.TheVariants.{Chunked, Sized}
use Rattle.http_post.specs.declared.refusal.HttpRefusal.{HttpRefusal}
use Rattle.http_post.specs.declared.refusal.HttpRefusal.TheVariants.{BadRequest, ContentTooLarge, LengthRequired, Link as NoLink, MethodNotAllowed, NoMemory, UnsupportedMediaType}

-- no head draws a failure of the machine
abbrev no_link : {T : Type 0} → Result T HttpRefusal → Type 0
no_link (Err NoLink) = ⊥
no_link other = Unit {0}

either : {T : Type 0} (b : Bool) (x y : Result T HttpRefusal) → no_link x → no_link y → no_link (if b then x else y)
either true x y h k = h
either false x y h k = k

sized_so : (n : ℕ) → no_link (sized n)
sized_so n = either (nat_le n most_content) (Ok (Sized n)) (Err ContentTooLarge) tt tt

framed_by_so : (lengths : List (List ℕ)) → no_link (framed_by lengths)
framed_by_so [] = tt
framed_by_so (v ∷ vs) = either (list_all (agrees v) (v ∷ vs)) (sized (digits_value 10 v)) (Err BadRequest) (sized_so (digits_value 10 v)) tt

framed_so : (transfers lengths : List (List ℕ)) → no_link (framed transfers lengths)
framed_so transfers lengths =
    let within : Bool = is_none lengths && list_all (is_word (codes "chunked")) transfers in
    either (is_none transfers) (framed_by lengths) (if within then Ok Chunked else Err BadRequest) (framed_by_so lengths)
    (either within (Ok Chunked) (Err BadRequest) tt tt)

framing_so : (minor : ℕ) (method : List ℕ) (values : List ℕ → List (List ℕ)) → no_link (framing_in minor method values)
framing_so minor method values =
    let plain : Bool = not (list_all (is_word (codes "identity")) (values (codes "content-encoding"))) in
    let last : Result Framing HttpRefusal = framed (values (codes "transfer-encoding")) (values (codes "content-length")) in
    let third : Result Framing HttpRefusal = if plain then Err UnsupportedMediaType else last in
    let post : Bool = not (bytes_eq method (codes "POST")) in
    let second : Result Framing HttpRefusal = if post then Err MethodNotAllowed else third in
    either (lacks_host minor (values (codes "host"))) (Err BadRequest) second tt
    (either post (Err MethodNotAllowed) third tt (either plain (Err UnsupportedMediaType) last tt (framed_so (values (codes "transfer-encoding")) (values (codes "content-length")))))

pub never_link : (bytes : List ℕ) (places : List HeaderSpan) (spans : RequestSpans) (e : HttpRefusal) → IsRead bytes places spans → Draws bytes places spans e → e ≢ NoLink
never_link bytes places spans e read draws is =
    subst {A = Result Framing HttpRefusal} no_link (drawn (subst (Draws bytes places spans) is draws)) (framing_so read.head.minor read.head.method (λ name. values_in name read.head.fields))
  where
    drawn : Draws bytes places spans NoLink → framing_of read.head ≡ Err NoLink
    drawn h = h read.head read.at

-- what was heard, of all bytes of the connection
module _ (first now : Option (List ℕ)) (bytes : List ℕ) (places : List HeaderSpan) (spans : RequestSpans) (holds : HoldsHead first bytes places spans) where
  begins : (input : List ℕ) → first ≡ Some input → (rest : List ℕ) × ReadsRequest (take 8192 input) holds.head rest
  begins input e = at_some first e holds.begins
    where
      at_some : (o : Option (List ℕ)) → o ≡ Some input → IfSome o (λ bytes. (rest : List ℕ) × ReadsRequest (take 8192 bytes) holds.head rest) → (rest : List ℕ) × ReadsRequest (take 8192 input) holds.head rest
      at_some o e h = subst (λ z. IfSome z (λ bytes. (rest : List ℕ) × ReadsRequest (take 8192 bytes) holds.head rest)) e h

  pub heard : (path : List ℕ) (framing : Framing) (waits : Bool) (rest : List ℕ) → Consumes first now bytes
      → SaysOf bytes places spans path framing waits → rest ≡ drop spans.len bytes
      → (input : List ℕ) → first ≡ Some input → IsHeard input now path framing waits rest
  heard path framing waits rest taken says is input e =
      let b = begins input e in
      record {
        head = holds.head;
        more = b.0;
        reads = b.1;
        framed = says.framed holds.head holds.at;
        asked = says.asked holds.head holds.at;
        waiting = says.waiting holds.head holds.at;
        raw = raw_so now (subst (λ z. Consumes z now bytes) e taken);
      }
    where
      within : spans.len ≤ length bytes
      within = holds.within.section.len_fits

      raw_so : (o : Option (List ℕ)) → Consumes (Some input) o bytes → IsRaw o rest (drop (length (print_request holds.head)) input)
      raw_so None h = absurd h
      raw_so (Some more) h = ap (λ k. drop k input) (sym holds.at.len) ∙ ap (drop spans.len) h ∙ drop-append-le spans.len bytes more within ∙ ap (λ z. z ++ more) (sym is)

  refusing : (r : HttpRefusal) (input : List ℕ) → first ≡ Some input → framing_of holds.head ≡ Err r → IsRefused input r
  refusing r input e is =
      let b = begins input e in
      record { asks = asks_refused holds.head b.0 b.1 is; waits = is_refused holds.head b.0 b.1 is }

  pub drawn : (e : HttpRefusal) → Draws bytes places spans e → IsFault e (λ r. (input : List ℕ) → first ≡ Some input → IsRefused input r)
  drawn NoMemory d = tt
  drawn NoLink d = tt
  drawn BadRequest d = λ input e. refusing BadRequest input e (d holds.head holds.at)
  drawn MethodNotAllowed d = λ input e. refusing MethodNotAllowed input e (d holds.head holds.at)
  drawn LengthRequired d = λ input e. refusing LengthRequired input e (d holds.head holds.at)
  drawn ContentTooLarge d = λ input e. refusing ContentTooLarge input e (d holds.head holds.at)
  drawn UnsupportedMediaType d = λ input e. refusing UnsupportedMediaType input e (d holds.head holds.at)

pub nothing_heard : (first : Option (List ℕ)) → HasNoHead first → (input : List ℕ) → first ≡ Some input → IsRefused input BadRequest
nothing_heard first none input e =
    let h : HasNoRequest (take 8192 input) = subst HasNoHead e none in
    record { asks = asks_no_head h; waits = has_none h }

-- nothing was said
pub stays_same : (a : Told) → Stays a a
stays_same a = record {
  still = record { files = refl; images = (λ c i. i); calls = refl; time = record { adds = (λ l c p. inl p); keeps = (λ l c p. p) } };
  clock = refl;
  waiting = refl;
  counts = refl;
}

none_more : (calls : Option (List Made)) → calls ≡ option_map (λ l. l ++ []) calls
none_more None = refl
none_more (Some l) = ap Some (sym (append-nil l))

pub stays_hears : (a b : Told) → Stays a b → Hears [] a b
stays_hears a b h = record {
  files = h.still.files;
  images = h.still.images;
  calls = h.still.calls ∙ none_more a.calls;
  time = record { adds = (λ l c p. adds l c (h.still.time.adds l c p)); keeps = h.still.time.keeps };
  clock = h.clock;
  waiting = h.waiting;
  counts = h.counts ∙ ap {A = ℕ} (λ n. record a.counts { receive = b.counts.receive; link = n }) (sym (ap {A = Counts} (λ z. z.link) h.counts));
}
  where
    adds : (l : List Made) (c : Files) → a.past l c ⊎ ⊥ → a.past l c ⊎ ((b.calls ≡ Some l) × a.images c)
    adds l c (inl p) = inl p
    adds l c (inr none) = absurd none

pub silence : (waits : Bool) (a : Told) → waits ≡ false → (made : List Made) × (Hears made a a × IsSaid waits a.counts.link a.counts.link made)
silence waits a is = ([], (stays_hears a a (stays_same a), inl (ap said (sym is))))

-- the line was said, or sending it failed
gave_hears : {T E : Type 0} (bytes : List ℕ) (result : Result T E) (a b : Told) (h : Gave (Send bytes) result a b) → Hears h.calls.made a b
gave_hears bytes result a b h = record {
  files = h.files;
  images = h.images;
  calls = h.calls.grown;
  time = record { adds = (λ l c p. adds l c (h.time.adds l c p)); keeps = h.time.keeps };
  clock = h.apart.clock;
  waiting = ap (option_map behind) h.apart.link;
  counts = h.counts.others ∙ ap {A = ℕ} (λ n. record a.counts { receive = n; link = b.counts.link }) (sym (ap {A = Counts} (λ z. z.receive) h.counts.others));
}
  where
    adds : (l : List Made) (c : Files) → a.past l c ⊎ ((b.calls ≡ Some l) × b.images c) → a.past l c ⊎ ((b.calls ≡ Some l) × a.images c)
    adds l c (inl p) = inl p
    adds l c (inr p) = inr (p.0, h.images c p.1)

broken : (call : Call) (made : List Made) → BreaksOff (call ∷ []) made → (made ≡ []) ⊎ (made ≡ failed call ∷ [])
broken call made b = at_front b.front b.split b.is
  where
    at_front : (front : List Call) → call ∷ [] ≡ front ++ b.call ∷ b.rest → (made ≡ map done front ++ failed b.call ∷ []) ⊎ (made ≡ map done front) → (made ≡ []) ⊎ (made ≡ failed call ∷ [])
    at_front [] e (inl is) = inr (is ∙ ap (λ z. failed z ∷ []) (first (sym e)))
      where
        head_or : List Call → Call
        head_or [] = call
        head_or (x ∷ xs) = x

        first : b.call ∷ b.rest ≡ call ∷ [] → b.call ≡ call
        first e = ap head_or e
    at_front [] e (inr is) = inl is
    at_front (x ∷ xs) e is = absurd (omega (arith, ap length e, length-append xs (b.call ∷ b.rest)))

pub spoken : {T E : Type 0} (line : List ℕ) (waits : Bool) (result : Result T E) (a b : Told) → line ≡ interim → waits ≡ true → Gave (Send line) result a b
    → (made : List Made) × (Hears made a b × IsSaid waits a.counts.link b.counts.link made)
spoken line waits result a b is waiting h = (h.calls.made, (gave_hears line result a b h, so))
  where
    outcome : {T E : Type 0} (r : Result T E) (made : List Made) → Outcome (Send line ∷ []) r made → OnErr r (Rose a.counts.link b.counts.link) → IsSaid true a.counts.link b.counts.link made
    outcome (Ok x) made h rose = inl (h ∙ ap (λ z. done (Send z) ∷ []) is)
    outcome (Err e) made h rose = inr (on_broken (broken (Send line) made h), rose)
      where
        on_broken : (made ≡ []) ⊎ (made ≡ failed (Send line) ∷ []) → (made ≡ []) ⊎ (made ≡ unsaid)
        on_broken (inl none) = inl none
        on_broken (inr one) = inr (one ∙ ap (λ z. failed (Send z) ∷ []) is)

    so : IsSaid waits a.counts.link b.counts.link h.calls.made
    so = subst (λ w. IsSaid w a.counts.link b.counts.link h.calls.made) (sym waiting) (outcome result h.calls.made h.calls.outcome h.counts.cause.failed)

pub same_left : {T E : Type 0} (line : List ℕ) (result : Result T E) (a b : Told) → Gave (Send line) result a b → left b ≡ left a
unfolding left
same_left line result a b h = ap (option_map coming) h.apart.link

-- reading, then saying, then reading
pub heard_between : (made : List Made) (a b c d : Told) → Stays a b → Hears made b c → Stays c d → Hears made a d
heard_between made a b c d h k j = record {
  files = j.still.files ∙ k.files ∙ h.still.files;
  images = (λ f i. h.still.images f (k.images f (j.still.images f i)));
  calls = j.still.calls ∙ k.calls ∙ ap (option_map (λ l. l ++ made)) h.still.calls;
  time = record { adds = (λ l f p. late l f (j.still.time.adds l f p)); keeps = (λ l f p. j.still.time.keeps l f (k.time.keeps l f (h.still.time.keeps l f p))) };
  clock = j.clock ∙ k.clock ∙ h.clock;
  waiting = j.waiting ∙ k.waiting ∙ h.waiting;
  counts = j.counts ∙ ap {A = Counts} (λ z. record z { receive = d.counts.receive }) k.counts ∙ ap {A = Counts} (λ z. record z { receive = d.counts.receive; link = c.counts.link }) h.counts
      ∙ ap {A = ℕ} (λ n. record a.counts { receive = d.counts.receive; link = n }) (sym (ap {A = Counts} (λ z. z.link) j.counts));
}
  where
    early : (l : List Made) (f : Files) → a.past l f ⊎ ⊥ → a.past l f ⊎ ((d.calls ≡ Some l) × a.images f)
    early l f (inl p) = inl p
    early l f (inr none) = absurd none

    middle : (l : List Made) (f : Files) → b.past l f ⊎ ((c.calls ≡ Some l) × b.images f) → a.past l f ⊎ ((d.calls ≡ Some l) × a.images f)
    middle l f (inl p) = early l f (h.still.time.adds l f p)
    middle l f (inr p) = inr (j.still.calls ∙ p.0, h.still.images f p.1)

    late : (l : List Made) (f : Files) → c.past l f ⊎ ⊥ → a.past l f ⊎ ((d.calls ≡ Some l) × a.images f)
    late l f (inl p) = middle l f (k.time.adds l f p)
    late l f (inr none) = absurd none
