-- How far a call came, by what a crash left.
use Rattle.std.specs.Prelude.{ℕ, List, [], ◌∷◌, ◌++◌, ◌-◌, ◌≡◌, ◌≤◌, Option, Some, None, Bool, true, false, length, map, take, zero, suc, refl}
use Rattle.std.specs.List.{AllByRecursion}
use Rattle.std.proofs.Common.{inl, inr, ⊎_elim, sym, subst, ap, ◌∙◌, arith}
use Rattle.std.proofs.lemmas.List.{append_assoc, append-nil, length-append}
use Rattle.at_base.specs.declared.outs.Post.{Post}
use Rattle.at_base.specs.declared.record.Record.{Record}
use Rattle.at_model.specs.Book.{Book}
use Rattle.decision_log.specs.KeptRecords.{Known}
use Rattle.at_base.specs.Numbers.{Numbers}
use Rattle.decision_log.specs.Tokens.{Token}
use Rattle.journal_at.specs.declared.version.Version.TheVariants.{Two}
use Rattle.journal_at.specs.Format.{records_of}
use Rattle.site_model.specs.Told.{Told, Call, Files, IsPrefix, Made, done, sent_by, sent_if}
use Rattle.node_at.specs.Doings.{AreDoings, Doing, deeds_of}
use Rattle.node_at.specs.Moments.{sent_of}
use Rattle.node_at.specs.Sends.{Tried, none, went, was_lost}
use Rattle.node_at.specs.ShrunkJournals.{StandForSame}
use Rattle.node_at.specs.State.{State}
use Rattle.node_at.specs.Steps.{if_landed, kept_by}
use Rattle.node_at.specs.Texts.{Leaving, call_by}
use Rattle.node_at.specs.TurnText.{TurnStep, refusing}
use Rattle.node_at.specs.Turns.{IsLine, busy}
use Rattle.node_worlds.specs.Acts.{Act, IsSoFar, IsUp, acted, acts_of, records_in, sent_in, spoken}
use Rattle.node_worlds.specs.Crashes.{IsCutOff, IsNoPost}
use Rattle.node_worlds.specs.Restarts.{StandsFor}
use Rattle.node_worlds.specs.SentPosts.{AreSent, AreSome, Sent, posts_of, recorded, records_by}
use Rattle.node_worlds.proofs.Rows.{sent_append}

-- prefixes
no_more : {A : Type 0} (x : A) (xs : List A) → x ∷ xs ≡ [] → ⊥
no_more x xs e = let l = ap length e in omega (arith, l)

pub left_of_none : {A : Type 0} (xs : List A) → IsPrefix xs [] → xs ≡ []
left_of_none [] h = refl
left_of_none (x ∷ xs) (r, e) = absurd (no_more x (xs ++ r) e)

head_of_list : {A : Type 0} → A → List A → A
head_of_list d [] = d
head_of_list d (x ∷ xs) = x

rest_of_list : {A : Type 0} → List A → List A
rest_of_list [] = []
rest_of_list (x ∷ xs) = xs

same_head : {A : Type 0} (x y : A) (xs ys : List A) → x ∷ xs ≡ y ∷ ys → x ≡ y
unfolding head_of_list
same_head x y xs ys e = ap (head_of_list x) e

same_tail : {A : Type 0} (x y : A) (xs ys : List A) → x ∷ xs ≡ y ∷ ys → xs ≡ ys
unfolding rest_of_list
same_tail x y xs ys e = ap rest_of_list e

cancel : {A : Type 0} (xs ys zs : List A) → xs ++ ys ≡ xs ++ zs → ys ≡ zs
cancel [] ys zs e = e
cancel (x ∷ xs) ys zs e = cancel xs ys zs (same_tail x x (xs ++ ys) (xs ++ zs) e)

pub cancel_prefix : {A : Type 0} (xs ys zs : List A) → IsPrefix (xs ++ ys) (xs ++ zs) → IsPrefix ys zs
cancel_prefix xs ys zs (r, e) = (r, cancel xs (ys ++ r) zs (sym (append_assoc xs ys r) ∙ e))

-- a beginning of what was sent was sent by a beginning of the calls
record Cut (made : List Made) (part : List Call) : Type 0 where
  front : List Made
  is : sent_by front ≡ part

cut_calls : (made : List Made) (part : List Call) → IsPrefix part (sent_by made) → Cut made part
cut_calls [] part h = record { front = []; is = sym (left_of_none part h) }
cut_calls (m ∷ rest) part h = by (λ p k. cut_calls rest p k) (sent_if m.done m.call) refl part h where
  by : ((part : List Call) → IsPrefix part (sent_by rest) → Cut rest part) → (xs : List Call) → sent_if m.done m.call ≡ xs → (part : List Call) → IsPrefix part (sent_if m.done m.call ++ sent_by rest) → Cut (m ∷ rest) part
  by further xs e [] p = record { front = []; is = refl }
  by further [] e (y ∷ ys) p =
      let g = further (y ∷ ys) (subst (λ z. IsPrefix (y ∷ ys) (z ++ sent_by rest)) e p) in
      record { front = g.front; is = g.is }
  by further (x ∷ []) e (y ∷ ys) p =
      let (r, f) : IsPrefix (y ∷ ys) (x ∷ sent_by rest) = subst (λ z. IsPrefix (y ∷ ys) (z ++ sent_by rest)) e p in
      let g = further ys (r, same_tail y x (ys ++ r) (sent_by rest) f) in
      record { front = m ∷ g.front; is = (λ i. e i ++ g.is i) ∙ ap (λ z. z ∷ ys) (sym (same_head y x (ys ++ r) (sent_by rest) f)) }
  by further (x ∷ (z ∷ zs)) e part p = absurd (at_most m.done m.call x z zs e) where
    none_more : (x z : Call) (zs : List Call) → [] ≡ x ∷ (z ∷ zs) → ⊥
    none_more x z zs f = no_more x (z ∷ zs) (sym f)

    one_more : (w x z : Call) (zs : List Call) → w ∷ [] ≡ x ∷ (z ∷ zs) → ⊥
    one_more w x z zs f = no_more z zs (sym (same_tail w x [] (z ∷ zs) f))

    at_most : (b : Bool) (call x z : Call) (zs : List Call) → sent_if b call ≡ x ∷ (z ∷ zs) → ⊥
    at_most false call x z zs f = none_more x z zs f
    at_most true (Call.Write file at bytes) x z zs f = none_more x z zs f
    at_most true (Call.Sync file) x z zs f = none_more x z zs f
    at_most true (Call.Send bytes) x z zs f = one_more (Call.Send bytes) x z zs f
    at_most true (Call.Post host port bytes) x z zs f = one_more (Call.Post host port bytes) x z zs f

-- the outs of a step that left
some_join : (xs ys : List Leaving) (y : Leaving) → AreSome xs ys → AreSome (xs ++ y ∷ []) (ys ++ y ∷ [])
some_join [] [] y h = inl (refl, tt)
some_join [] (z ∷ ys) y h = inr (some_join [] ys y tt)
some_join (x ∷ xs) [] y h = absurd h
some_join (x ∷ xs) (z ∷ ys) y (inl (e, h)) = inl (e, some_join xs ys y h)
some_join (x ∷ xs) (z ∷ ys) y (inr h) = inr (some_join (x ∷ xs) ys y h)

some_fewer : (xs ys : List Leaving) (y : Leaving) → AreSome xs ys → AreSome xs (ys ++ y ∷ [])
some_fewer [] ys y h = tt
some_fewer (x ∷ xs) [] y h = absurd h
some_fewer (x ∷ xs) (z ∷ ys) y (inl (e, h)) = inl (e, some_fewer xs ys y h)
some_fewer (x ∷ xs) (z ∷ ys) y (inr h) = inr (some_fewer (x ∷ xs) ys y h)

some_front : (k : ℕ) (xs ys : List Leaving) → AreSome xs ys → AreSome (take k xs) ys
some_front zero xs ys h = tt
some_front (suc k) [] ys h = tt
some_front (suc k) (x ∷ xs) [] h = absurd h
some_front (suc k) (x ∷ xs) (y ∷ ys) (inl (e, h)) = inl (e, some_front k xs ys h)
some_front (suc k) (x ∷ xs) (y ∷ ys) (inr h) = inr (some_front (suc k) (x ∷ xs) ys h)

pub record Left (leaving : List Leaving) (made : List Made) : Type 0 where
  pub outs : List Leaving
  pub some : AreSome outs leaving
  pub calls : sent_by made ≡ map call_by outs

map_join : (xs : List Leaving) (x : Leaving) → map call_by (xs ++ x ∷ []) ≡ map call_by xs ++ x.call ∷ []
map_join [] x = refl
map_join (y ∷ xs) x = ap (λ z. y.call ∷ z) (map_join xs x)

left_more : (xs : List Leaving) (made : List Made) (x : Leaving) → Left xs made → Left (xs ++ x ∷ []) (made ++ done x.call ∷ [])
left_more xs made x h = by x.call refl where
  leaves_it : x.call ∷ [] ≡ sent_by (done x.call ∷ []) → Left (xs ++ x ∷ []) (made ++ done x.call ∷ [])
  leaves_it e = record {
    outs = h.outs ++ x ∷ [];
    some = some_join h.outs xs x h.some;
    calls = sent_append made (done x.call ∷ []) ∙ (λ i. h.calls i ++ sym e i) ∙ sym (map_join h.outs x);
  }

  calls_it : [] ≡ sent_by (done x.call ∷ []) → Left (xs ++ x ∷ []) (made ++ done x.call ∷ [])
  calls_it e = record {
    outs = h.outs;
    some = some_fewer h.outs xs x h.some;
    calls = sent_append made (done x.call ∷ []) ∙ (λ i. h.calls i ++ sym e i) ∙ append-nil (map call_by h.outs);
  }

  by : (call : Call) → x.call ≡ call → Left (xs ++ x ∷ []) (made ++ done x.call ∷ [])
  by (Call.Write file at bytes) e = calls_it (sym (ap (λ z. sent_by (done z ∷ [])) e))
  by (Call.Sync file) e = calls_it (sym (ap (λ z. sent_by (done z ∷ [])) e))
  by (Call.Send bytes) e = leaves_it ((λ i. e i ∷ []) ∙ sym (ap (λ z. sent_by (done z ∷ [])) e))
  by (Call.Post host port bytes) e = leaves_it ((λ i. e i ∷ []) ∙ sym (ap (λ z. sent_by (done z ∷ [])) e))

left_less : (xs : List Leaving) (made more : List Made) (x : Leaving) → Left xs made → sent_by more ≡ sent_by made → Left (xs ++ x ∷ []) more
left_less xs made more x h e = record { outs = h.outs; some = some_fewer h.outs xs x h.some; calls = e ∙ h.calls }

pub tried_left : {ts : List Token} {ids : List Numbers} {xs : List Leaving} {made : List Made} {lost : ℕ} → Tried ts ids xs made lost → Left xs made
tried_left none = record { outs = []; some = tt; calls = refl }
tried_left (went {xs = xs} {made = made} {more = more} x t may e f) =
    subst (λ z. Left z more) (sym e) (subst (Left (xs ++ x ∷ [])) (sym f) (left_more xs made x (tried_left t)))
tried_left (was_lost {xs = xs} {made = made} {more = more} x t may e f g) =
    subst (λ z. Left z more) (sym e)
    (left_less xs made more x (tried_left t) (⊎_elim (λ k. ap sent_by k ∙ sent_append made _ ∙ append-nil (sent_by made)) (λ k. ap sent_by k) f))

-- what was sent of it so far
map_take : (k : ℕ) (xs : List Leaving) → map call_by (take k xs) ≡ take k (map call_by xs)
map_take zero xs = refl
map_take (suc k) [] = refl
map_take (suc k) (x ∷ xs) = ap (λ z. x.call ∷ z) (map_take k xs)

take_front : {A : Type 0} (xs ys : List A) → IsPrefix xs ys → take (length xs) ys ≡ xs
take_front [] ys h = refl
take_front (x ∷ xs) [] (r, e) = absurd (no_more x (xs ++ r) e)
take_front (x ∷ xs) (y ∷ ys) (r, e) = λ i. same_head y x ys (xs ++ r) (sym e) i ∷ take_front xs ys (r, same_tail x y (xs ++ r) ys e) i

pub record Partly (leaving : List Leaving) (part : List Call) : Type 0 where
  pub doing : Doing
  pub posts : List Post
  pub sent : Sent leaving doing.made posts
  pub is : sent_by doing.made ≡ part

pub partly : (leaving : List Leaving) (made : List Made) (part : List Call) → Left leaving made → IsPrefix part (sent_by made) → Partly leaving part
partly leaving made part h p =
    let cut = cut_calls made part p in
    let outs = take (length part) h.outs in
    record {
      doing = record { landed = []; first = []; made = cut.front; lost = 0; refused = 0 };
      posts = posts_of outs;
      sent = record {
        went = outs;
        some = some_front (length part) h.outs leaving h.some;
        calls = cut.is ∙ sym (map_take (length part) h.outs ∙ ap (take (length part)) (sym h.calls) ∙ take_front part (sent_by made) p);
        posts = refl;
      };
      is = cut.is;
    }

-- A row of steps of which the first k were done.
record Front (steps : List TurnStep) (k : ℕ) (acts : List Act) (part : List Call) : Type 0 where
  front : List TurnStep
  rest : List TurnStep
  doings : List Doing
  posts : List Post
  of : steps ≡ front ++ rest
  sent : AreSent front doings posts
  records : records_in (take k acts) ≡ recorded front
  calls : sent_of (deeds_of doings) ≡ part

no_front : (steps : List TurnStep) (k : ℕ) (acts : List Act) (part : List Call) → records_in (take k acts) ≡ [] → part ≡ [] → Front steps k acts part
no_front steps k acts part e f = record { front = []; rest = steps; doings = []; posts = []; of = refl; sent = refl; records = e; calls = sym f }

front_of : (kept : Known) (steps : List TurnStep) (ds : List Doing) → AreDoings kept steps ds → (j : ℕ) (part : List Call) → IsPrefix (sent_in (take j (acts_of steps ds))) part
    → IsPrefix part (sent_in (take (suc j) (acts_of steps ds))) → Front steps (suc j) (acts_of steps ds) part
front_of kept [] [] are j part p q = no_front [] (suc j) [] part refl (left_of_none part q)
front_of kept [] (d ∷ ds) are j part p q = absurd are
front_of kept (s ∷ ss) [] are j part p q = absurd are
front_of kept (s ∷ ss) (d ∷ ds) are zero part p q =
    let one = partly s.leaving d.made part (tried_left are.0.tried) (subst (IsPrefix part) (append-nil (sent_by d.made)) q) in
    record {
      front = s ∷ [];
      rest = ss;
      doings = one.doing ∷ [];
      posts = one.posts;
      of = refl;
      sent = (one.posts, [], one.sent, refl, sym (append-nil one.posts));
      records = refl;
      calls = append-nil (sent_by one.doing.made) ∙ one.is;
    }
front_of kept (s ∷ ss) (d ∷ ds) are (suc j) part (r, e) q =
    let all = tried_left are.0.tried in
    let behind : List Call = sent_in (take j (acts_of ss ds)) ++ r in
    let split : sent_by d.made ++ behind ≡ part = sym (append_assoc (sent_by d.made) (sent_in (take j (acts_of ss ds))) r) ∙ e in
    let more = front_of (kept_by (if_landed s.landed s.entry) kept) ss ds are.1 j behind (r, refl)
    (cancel_prefix (sent_by d.made) behind (sent_in (take (suc j) (acts_of ss ds))) (subst (λ z. IsPrefix z (sent_by d.made ++ sent_in (take (suc j) (acts_of ss ds)))) (sym split) q)) in
    record {
      front = s ∷ more.front;
      rest = more.rest;
      doings = d ∷ more.doings;
      posts = posts_of all.outs ++ more.posts;
      of = ap (λ z. s ∷ z) more.of;
      sent = (posts_of all.outs, more.posts, record { went = all.outs; some = all.some; calls = all.calls; posts = refl }, more.sent, refl);
      records = ap (λ z. records_by (if_landed s.landed s.entry) ++ z) more.records;
      calls = ap (λ z. sent_by d.made ++ z) more.calls ∙ split;
    }

-- that what is said beside steps posts nothing
no_post_front : (xs ys : List Call) → IsPrefix xs ys → AllByRecursion IsNoPost ys → AllByRecursion IsNoPost xs
no_post_front [] ys h k = tt
no_post_front (x ∷ xs) [] (r, e) k = absurd (no_more x (xs ++ r) e)
no_post_front (x ∷ xs) (y ∷ ys) (r, e) (k, ks) =
    (subst IsNoPost (sym (same_head x y (xs ++ r) ys e)) k, no_post_front xs ys (r, same_tail x y (xs ++ r) ys e) ks)

-- How far a row came behind what was said: the first of its steps, and what was sent.
pub record Came (rs : List Record) (steps : List TurnStep) (start sent : List Call) (c : Files) : Type 0 where
  pub front : List TurnStep
  pub rest : List TurnStep
  pub doings : List Doing
  pub posts : List Post
  pub of : steps ≡ front ++ rest
  pub posted : AreSent front doings posts
  pub stands : StandForSame (rs ++ recorded front) c
  pub said : List Call
  pub no_posts : AllByRecursion IsNoPost said
  pub calls : sent ≡ start ++ (said ++ sent_of (deeds_of doings))

module _ (rs : List Record) (steps : List TurnStep) (ds : List Doing) (kept : Known) (are : AreDoings kept steps ds) (made : List Made) (line : AllByRecursion IsNoPost (sent_by made)) (start sent : List Call) (c : Files) where
  abbrev acts : List Act
  acts = spoken made ∷ acts_of steps ds

  came_by : (k : ℕ) → StandForSame (rs ++ records_in (take k acts)) c → IsPrefix (start ++ sent_in (take (k - 1) acts)) sent → IsPrefix sent (start ++ sent_in (take k acts)) → Came rs steps start sent c
  came_by zero h (r, p) q =
      let part : start ++ r ≡ sent = ap (λ z. z ++ r) (sym (append-nil start)) ∙ p in
      let none : r ≡ [] = left_of_none r (cancel_prefix start r [] (subst (λ z. IsPrefix z (start ++ [])) (sym part) q)) in
      record {
        front = [];
        rest = steps;
        doings = [];
        posts = [];
        of = refl;
        posted = refl;
        stands = h;
        said = [];
        no_posts = tt;
        calls = sym part ∙ ap (λ z. start ++ z) none;
      }
  came_by (suc zero) h (r, p) q =
      let part : start ++ r ≡ sent = ap (λ z. z ++ r) (sym (append-nil start)) ∙ p in
      let first : IsPrefix r (sent_by made) = subst (IsPrefix r) (append-nil (sent_by made)) (cancel_prefix start r (sent_by made ++ []) (subst (λ z. IsPrefix z (start ++ (sent_by made ++ []))) (sym part) q)) in
      record {
        front = [];
        rest = steps;
        doings = [];
        posts = [];
        of = refl;
        posted = refl;
        stands = h;
        said = r;
        no_posts = no_post_front r (sent_by made) first line;
        calls = sym part ∙ ap (λ z. start ++ z) (sym (append-nil r));
      }
  came_by (suc (suc j)) h (r, p) q =
      let less : suc (suc j) - 1 ≡ suc j = omega arith in
      let behind : List Call = sent_in (take j (acts_of steps ds)) ++ r in
      let all : start ++ (sent_by made ++ behind) ≡ sent =
      ap (λ z. start ++ z) (sym (append_assoc (sent_by made) (sent_in (take j (acts_of steps ds))) r)) ∙ sym (append_assoc start (sent_by made ++ sent_in (take j (acts_of steps ds))) r)
      ∙ ap (λ k. (start ++ sent_in (take k acts)) ++ r) (sym less) ∙ p in
      let most : IsPrefix behind (sent_in (take (suc j) (acts_of steps ds))) =
      cancel_prefix (sent_by made) behind (sent_in (take (suc j) (acts_of steps ds)))
      (cancel_prefix start (sent_by made ++ behind) (sent_by made ++ sent_in (take (suc j) (acts_of steps ds)))
      (subst (λ z. IsPrefix z (start ++ (sent_by made ++ sent_in (take (suc j) (acts_of steps ds))))) (sym all) q)) in
      let f = front_of kept steps ds are j behind (r, refl) most in
      record {
        front = f.front;
        rest = f.rest;
        doings = f.doings;
        posts = f.posts;
        of = f.of;
        posted = f.sent;
        stands = subst (λ z. StandForSame (rs ++ z) c) f.records h;
        said = sent_by made;
        no_posts = line;
        calls = sym all ∙ ap (λ z. start ++ (sent_by made ++ z)) (sym f.calls);
      }

  pub came_so_far : IsSoFar rs start (spoken made ∷ acts_of steps ds) sent c → Came rs steps start sent c
  came_so_far h = came_by h.k h.stands h.least h.most

-- files that stand for records
pub stands_for : (rs : List Record) (c : Files) → StandForSame rs c → StandsFor rs c
stands_for rs c (qs, is, same) = record { version = Two; found = qs; stands = is; same = same }

-- at that moment
abbrev pub OnlyNow : {S : Type 0} → (S → Told) → Type 0
OnlyNow {S} told = (s : S) (l m : List Made) (c : Files) → (told s).calls ≡ Some m → length m ≤ length l → (told s).past l c → (l ≡ m) × (told s).images c

pub longer : {A : Type 0} (xs ys : List A) → IsPrefix xs ys → length xs ≤ length ys
longer xs ys (r, e) = let l = length-append xs r in let f = ap length e in omega (arith, l, f)

-- whatever a crash leaves while a node is up
pub up_same : (rs : List Record) (n : State) (s : Told) (c : Files) → IsUp rs n s → s.images c → StandForSame rs c
up_same rs n s c u im =
    let bodies = u.holds.bodies in
    let h = u.holds.keeps.stands.images c im in (
      u.records,
      record {
        texts = records_of bodies;
        is = record {
          live = n.journal.live;
          bodies = bodies;
          others = h.beside.others;
          is = record { listed = u.holds.keeps.stands.listed; is = inr h.closed };
          other = h.beside.is;
          newer = h.beside.newer;
          journal = h.journal;
          versions = u.holds.of;
          all = refl;
        };
        are = u.holds.are;
      },
      u.same,
    )

-- a call at one moment
pub record Moment (rs : List Record) (acts : List Act) (old : Told) (l : List Made) (c : Files) : Type 0 where
  pub before : List Made
  pub was : old.calls ≡ Some before
  pub so_far : IsSoFar rs (sent_by before) acts (sent_by l) c

pub came_cut : (rs : List Record) (steps : List TurnStep) (old : Told) (l : List Made) (c : Files) (before : List Made) → old.calls ≡ Some before → Came rs steps (sent_by before) (sent_by l) c
    → IsCutOff rs steps old l c
came_cut rs steps old l c before was h = record {
  front = h.front;
  rest = h.rest;
  doings = h.doings;
  posts = h.posts;
  of = h.of;
  sent = h.posted;
  stands = stands_for (rs ++ recorded h.front) c h.stands;
  before = before;
  was = was;
  said = h.said;
  no_posts = h.no_posts;
  calls = h.calls;
}

-- nothing was done
pub none_taken : (k : ℕ) → take {A = Act} k [] ≡ []
none_taken zero = refl
none_taken (suc k) = refl

pub none_came : (rs : List Record) (steps : List TurnStep) (start sent : List Call) (c : Files) → IsSoFar rs start [] sent c → Came rs steps start sent c
none_came rs steps start sent c h = by h.least where
  by : IsPrefix (start ++ sent_in (take (h.k - 1) [])) sent → Came rs steps start sent c
  by (r, p) =
      let part : start ++ r ≡ sent = ap (λ z. z ++ r) (sym (append-nil start) ∙ ap (λ z. start ++ sent_in z) (sym (none_taken (h.k - 1)))) ∙ p in
      let none : r ≡ [] =
      left_of_none r (cancel_prefix start r [] (subst (λ z. IsPrefix z (start ++ [])) (sym part) (subst (λ z. IsPrefix sent (start ++ sent_in z)) (none_taken h.k) h.most))) in
      record {
        front = [];
        rest = steps;
        doings = [];
        posts = [];
        of = refl;
        posted = refl;
        stands = subst (λ z. StandForSame (rs ++ records_in z) c) (none_taken h.k) h.stands;
        said = [];
        no_posts = tt;
        calls = sym part ∙ ap (λ z. start ++ z) none;
      }

-- the line that is said, and the answer of a node that is busy
pub line_answers : (input : Option (List ℕ)) (heard : Bool) (old new : Told) (made : List Made) → IsLine input heard old new made → AllByRecursion IsNoPost (sent_by made)
line_answers input heard old new made h =
    ⊎_elim (λ e. subst (λ z. AllByRecursion IsNoPost (sent_by z)) (sym e) tt)
    (λ k. ⊎_elim (λ e. subst (λ z. AllByRecursion IsNoPost (sent_by z)) (sym e) (tt, tt)) (λ e. subst (λ z. AllByRecursion IsNoPost (sent_by z)) (sym e) tt) k) h.once

all_both : (xs ys : List Call) → AllByRecursion IsNoPost xs → AllByRecursion IsNoPost ys → AllByRecursion IsNoPost (xs ++ ys)
all_both [] ys h k = k
all_both (x ∷ xs) ys (h, i) k = (h, all_both xs ys i k)

refusal_answers : (b : Book) (made : List Made) (ps : List Post) → Sent (refusing b 503 None).leaving made ps → AllByRecursion IsNoPost (sent_by made)
refusal_answers b made ps h = subst (AllByRecursion IsNoPost) (sym h.calls) (by h.went h.some) where
  by : (xs : List Leaving) → AreSome xs (refusing b 503 None).leaving → AllByRecursion IsNoPost (map call_by xs)
  by [] k = tt
  by (x ∷ []) (inl (e, k)) = (subst (λ z. IsNoPost (call_by z)) (sym e) tt, tt)
  by (x ∷ (y ∷ ys)) (inl (e, k)) = absurd k
  by (x ∷ xs) (inr k) = absurd k

pub unbusy : (rs : List Record) (b : Book) (begun : List TurnStep) (old : Told) (l : List Made) (c : Files) → IsCutOff rs (begun ++ busy b begun) old l c → IsCutOff rs begun old l c
unbusy rs b (s ∷ ss) old l c h = subst (λ z. IsCutOff rs z old l c) (append-nil (s ∷ ss)) h
unbusy rs b [] old l c h = by h.front h.doings h.of h.sent h.stands h.calls where
  by : (front : List TurnStep) (doings : List Doing) → refusing b 503 None ∷ [] ≡ front ++ h.rest → AreSent front doings h.posts → StandsFor (rs ++ recorded front) c
      → sent_by l ≡ sent_by h.before ++ (h.said ++ sent_of (deeds_of doings)) → IsCutOff rs [] old l c
  by [] [] e sent stands calls = record {
    front = [];
    rest = [];
    doings = [];
    posts = [];
    of = refl;
    sent = refl;
    stands = stands;
    before = h.before;
    was = h.was;
    said = h.said;
    no_posts = h.no_posts;
    calls = calls;
  }
  by [] (d ∷ ds) e sent stands calls = absurd sent
  by (f ∷ fs) [] e sent stands calls = absurd sent
  by (f ∷ (g ∷ fs)) (d ∷ ds) e sent stands calls = absurd (no_more g (fs ++ h.rest) (sym (same_tail (refusing b 503 None) f [] (g ∷ (fs ++ h.rest)) e)))
  by (f ∷ []) (d ∷ (x ∷ ds)) e (qs, ps, one, others, k) stands calls = absurd others
  by (f ∷ []) (d ∷ []) e (qs, ps, one, others, k) stands calls =
      let same : f ≡ refusing b 503 None = sym (same_head (refusing b 503 None) f [] h.rest e) in
      record {
        front = [];
        rest = [];
        doings = [];
        posts = [];
        of = refl;
        sent = refl;
        stands = subst (λ (z : TurnStep). StandsFor (rs ++ (records_by (if_landed z.landed z.entry) ++ [])) c) same stands;
        before = h.before;
        was = h.was;
        said = h.said ++ sent_by d.made;
        no_posts = all_both h.said (sent_by d.made) h.no_posts (refusal_answers b d.made qs (subst (λ (z : TurnStep). Sent z.leaving d.made qs) same one));
        calls = calls ∙ ap (λ z. sent_by h.before ++ (h.said ++ z)) (append-nil (sent_by d.made)) ∙ ap (λ z. sent_by h.before ++ z) (sym (append-nil (h.said ++ sent_by d.made)));
      }

-- a step in which the node halted, of which nothing was sent
module _ (rs : List Record) (made : List Made) (line : AllByRecursion IsNoPost (sent_by made)) (s : TurnStep) (sends : List Call) (start sent : List Call) (c : Files)
    (from : IsPrefix start sent) (most : IsPrefix sent (start ++ sent_by made)) where
  pub halted_by : (k : ℕ) → StandForSame (rs ++ records_in (take k (spoken made ∷ acted s sends ∷ []))) c → Came rs (s ∷ []) start sent c
  halted_by k h = by from k h where
    quiet : (r : List Call) → start ++ r ≡ sent → IsPrefix r (sent_by made)
    quiet r e = cancel_prefix start r (sent_by made) (subst (λ z. IsPrefix z (start ++ sent_by made)) (sym e) most)

    not_begun : (r : List Call) → start ++ r ≡ sent → StandForSame (rs ++ []) c → Came rs (s ∷ []) start sent c
    not_begun r e h = record {
      front = [];
      rest = s ∷ [];
      doings = [];
      posts = [];
      of = refl;
      posted = refl;
      stands = h;
      said = r;
      no_posts = no_post_front r (sent_by made) (quiet r e) line;
      calls = sym e ∙ ap (λ z. start ++ z) (sym (append-nil r));
    }

    begun : (r : List Call) → start ++ r ≡ sent → StandForSame (rs ++ recorded (s ∷ [])) c → Came rs (s ∷ []) start sent c
    begun r e h = record {
      front = s ∷ [];
      rest = [];
      doings = record { landed = []; first = []; made = []; lost = 0; refused = 0 } ∷ [];
      posts = [];
      of = refl;
      posted = ([], [], record { went = []; some = tt; calls = refl; posts = refl }, refl, refl);
      stands = h;
      said = r;
      no_posts = no_post_front r (sent_by made) (quiet r e) line;
      calls = sym e ∙ ap (λ z. start ++ z) (sym (append-nil r));
    }

    by : IsPrefix start sent → (k : ℕ) → StandForSame (rs ++ records_in (take k (spoken made ∷ acted s sends ∷ []))) c → Came rs (s ∷ []) start sent c
    by (r, e) zero h = not_begun r e h
    by (r, e) (suc zero) h = not_begun r e h
    by (r, e) (suc (suc k)) h = begun r e (subst (λ z. StandForSame (rs ++ (records_by (if_landed s.landed s.entry) ++ records_in z)) c) (none_taken k) h)
