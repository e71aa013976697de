-- What is kept through a round of settling.
use Rattle.std.specs.Prelude.{ℕ, List, Option, Some, Bool, true, false, is_none, ◌+◌, ◌≡◌, ◌≤◌, ◌<◌, ◌⊎◌, refl}
use Rattle.std.proofs.Common.{inl, inr, arith, sym, subst, ap, ◌∙◌}
use Rattle.std.proofs.lemmas.Bool.{leb-true, leb-false}
use Rattle.std.specs.Prelude.{nat_le}
use Rattle.at_base.specs.Numbers.{Numbers}
use Rattle.at_base.specs.declared.event.Arrived.{Arrived}
use Rattle.at_base.specs.declared.notice.Kind.{Kind}
use Rattle.at_model.specs.Book.{Book}
use Rattle.at_model.specs.World.{Node, Posted, Who, World, nth, put_nth, Hosts}
use Rattle.model_laws.specs.Agreement.{IsIn}
use Rattle.model_laws.specs.ReachedWorlds.{Reached}
use Rattle.model_laws.proofs.NodeLives.{put_other, put_this}
use Rattle.settled.specs.DurablePrepares.{PreparesAreBehind}
use Rattle.settled.specs.SettlingInvariants.{Invariant, IsLost}
use Rattle.settled.specs.CalmSteps.{Goes}
use Rattle.settled.specs.OwedMessages.{Comes, CommitsAreOwed, Holds, OutcomesAreOwed, OwesCommitted, OwesOutcome, OwesRegistered, OwesVote, RegistrationsAreOwed, VotesAreOwed}
use Rattle.settled.specs.EndedRegistrations.{NoneRouted}
use Rattle.settled.proofs.Commits.{commits_kept}
use Rattle.settled.proofs.CalmSteps.{holds_after, node_after, nodes_after, or_elsewhere}
use Rattle.settled.proofs.Outcomes.{outcomes_kept}
use Rattle.settled.proofs.Registers.{none_routed_kept, registrations_kept}
use Rattle.settled.proofs.KeptVotes.{NoneRegisters, votes_kept}

-- every node is up
abbrev pub AreUp : World → Type 0
AreUp w = (n : ℕ) (x : Node) → nth n w.nodes ≡ Some x → is_none x.book ≡ false

same_node : (o : Option Node) (x y : Node) → o ≡ Some x → o ≡ Some y → x ≡ y
same_node o x y e f = cc

pub up_on : (hosts : Hosts) (u v : World) (before after : List Posted) → Goes hosts u v before after → AreUp u → AreUp v
up_on hosts u v before after g h n x found = by_place (or_elsewhere n g.number)
  where
    by_place : (n ≡ g.number) ⊎ (n ≡ g.number → ⊥) → is_none x.book ≡ false
    by_place (inl here) =
        let k : Holds v g.number _ = holds_after hosts u v before after g in
        let same : x ≡ k.node = same_node (nth g.number v.nodes) x k.node (subst (λ m. nth m v.nodes ≡ Some x) here found) k.found in
        ap (λ (y : Node). is_none y.book) same ∙ ap is_none k.up
    by_place (inr other) = h n x (sym (ap (nth n) (nodes_after hosts u v before after g) ∙ put_other u.nodes n g.number (node_after g) other) ∙ found)

pub up_waits : (u : World) (n : ℕ) (x : Node) (clock : ℕ) → nth n u.nodes ≡ Some x → AreUp u → AreUp (record u { nodes = put_nth n (record x { clock = clock }) u.nodes })
up_waits u n x clock found h m y f = by_place (or_elsewhere m n)
  where
    by_place : (m ≡ n) ⊎ (m ≡ n → ⊥) → is_none y.book ≡ false
    by_place (inl here) =
        let same : y ≡ record x { clock = clock } =
        same_node (nth n (put_nth n (record x { clock = clock }) u.nodes)) y (record x { clock = clock }) (subst (λ k. nth k (put_nth n (record x { clock = clock }) u.nodes) ≡ Some y) here f)
        (put_this u.nodes n x (record x { clock = clock }) found) in
        ap (λ (z : Node). is_none z.book) same ∙ h n x found
    by_place (inr other) = h m y (sym (put_other u.nodes m n (record x { clock = clock }) other) ∙ f)

-- where no book changes, and no message that somebody gets is lost
pub record SameBooks (u v : World) : Type 0 where
  pub back : (n : ℕ) (b : Book) → Holds v n b → Holds u n b
  pub forth : (n : ℕ) (b : Book) → Holds u n b → Holds v n b

pub same_books : (w : World) → SameBooks w w
same_books w = record { back = λ n b h. h; forth = λ n b h. h }

pub waits_same : (u : World) (n : ℕ) (x : Node) (clock : ℕ) → nth n u.nodes ≡ Some x → SameBooks u (record u { nodes = put_nth n (record x { clock = clock }) u.nodes })
waits_same u n x clock found = record { back = λ m b h. back m b h (or_elsewhere m n); forth = λ m b h. forth m b h (or_elsewhere m n) }
  where
    v : World
    v = record u { nodes = put_nth n (record x { clock = clock }) u.nodes }

    back : (m : ℕ) (b : Book) → Holds v m b → (m ≡ n) ⊎ (m ≡ n → ⊥) → Holds u m b
    back m b h (inl here) =
        let same : h.node ≡ record x { clock = clock } =
        same_node (nth n v.nodes) h.node (record x { clock = clock }) (subst (λ k. nth k v.nodes ≡ Some h.node) here h.found) (put_this u.nodes n x (record x { clock = clock }) found) in
        record { node = x; found = ap (λ k. nth k u.nodes) here ∙ found; up = sym (ap (λ (z : Node). z.book) same) ∙ h.up }
    back m b h (inr other) = record { node = h.node; found = sym (put_other u.nodes m n (record x { clock = clock }) other) ∙ h.found; up = h.up }

    forth : (m : ℕ) (b : Book) → Holds u m b → (m ≡ n) ⊎ (m ≡ n → ⊥) → Holds v m b
    forth m b h (inl here) =
        let same : h.node ≡ x = same_node (nth n u.nodes) h.node x (subst (λ k. nth k u.nodes ≡ Some h.node) here h.found) found in
        record {
          node = record x { clock = clock };
          found = ap (λ k. nth k v.nodes) here ∙ put_this u.nodes n x (record x { clock = clock }) found;
          up = sym (ap (λ (z : Node). z.book) same) ∙ h.up;
        }
    forth m b h (inr other) = record { node = h.node; found = put_other u.nodes m n (record x { clock = clock }) other ∙ h.found; up = h.up }

abbrev Stay : Hosts → List Posted → List Posted → Type 0
Stay hosts before after = (q : Posted) → IsIn q before → IsIn q after ⊎ IsLost hosts q

comes_on : (hosts : Hosts) (before after : List Posted) (n : ℕ) (P : Arrived → Type 0) → Stay hosts before after → Comes hosts before n P → Comes hosts after n P
comes_on hosts before after n P stays c = by_place (stays c.posted c.waits)
  where
    by_place : IsIn c.posted after ⊎ IsLost hosts c.posted → Comes hosts after n P
    by_place (inl i) = record { posted = c.posted; waits = i; receiver = c.receiver; arrived = c.arrived; decodes = c.decodes; says = c.says }
    by_place (inr lost) = absurd (lost n c.arrived c.receiver c.decodes)

vote_moves : (hosts : Hosts) (u v : World) (before after : List Posted) (t : Who) (number : ℕ) (kind : Kind) (x : Who) → SameBooks u v → Stay hosts before after → OwesVote hosts u before t number kind x → OwesVote hosts v after t number kind x
vote_moves hosts u v before after t number kind x s k (inl c) = inl (comes_on hosts before after x.node _ k c)
vote_moves hosts u v before after t number kind x s k (inr (inl (m, answers, c))) = inr (inl (m, answers, comes_on hosts before after t.node _ k c))
vote_moves hosts u v before after t number kind x s k (inr (inr b)) =
    inr (inr (record { book = b.book; holds = s.forth x.node b.book b.holds; transaction = b.transaction; found = b.found; busy = b.busy }))

committed_moves : (hosts : Hosts) (u v : World) (before after : List Posted) (t : Who) (number : ℕ) (x : Who) → SameBooks u v → Stay hosts before after → OwesCommitted hosts u before t number x → OwesCommitted hosts v after t number x
committed_moves hosts u v before after t number x s k (inl c) = inl (comes_on hosts before after x.node _ k c)
committed_moves hosts u v before after t number x s k (inr (inl c)) = inr (inl (comes_on hosts before after t.node _ k c))
committed_moves hosts u v before after t number x s k (inr (inr b)) =
    inr (inr (record { book = b.book; holds = s.forth x.node b.book b.holds; transaction = b.transaction; found = b.found; commits = b.commits }))

outcome_moves : (hosts : Hosts) (u v : World) (before after : List Posted) (x t : Who) (number : ℕ) → SameBooks u v → Stay hosts before after → OwesOutcome hosts u before x t number → OwesOutcome hosts v after x t number
outcome_moves hosts u v before after x t number s k (inl c) = inl (comes_on hosts before after t.node _ k c)
outcome_moves hosts u v before after x t number s k (inr (inl (inl c))) = inr (inl (inl (comes_on hosts before after x.node _ k c)))
outcome_moves hosts u v before after x t number s k (inr (inl (inr c))) = inr (inl (inr (comes_on hosts before after x.node _ k c)))
outcome_moves hosts u v before after x t number s k (inr (inr b)) =
    inr (inr (record {
      book = b.book;
      holds = s.forth t.node b.book b.holds;
      transaction = b.transaction;
      found = b.found;
      seat = b.seat;
      among = b.among;
      number_is = b.number_is;
      kind_is = b.kind_is;
      state_is = b.state_is;
    }))

registered_moves : (hosts : Hosts) (before after : List Posted) (x : Who) (kind : Kind) (m : ℕ) (id : Numbers) → Stay hosts before after → OwesRegistered hosts before x kind m id → OwesRegistered hosts after x kind m id
registered_moves hosts before after x kind m id k (inl c) = inl (comes_on hosts before after m _ k c)
registered_moves hosts before after x kind m id k (inr c) = inr (comes_on hosts before after x.node _ k c)

pub votes_move : (hosts : Hosts) (Asked : ℕ → Type 0) (u v : World) (before after : List Posted) → SameBooks u v → Stay hosts before after → VotesAreOwed hosts Asked u before → VotesAreOwed hosts Asked v after
votes_move hosts Asked u v before after s k h = record {
  seats = λ n b t q x asked holds found i state place is.
      vote_moves hosts u v before after (record { node = n; id = t.id }) q.number q.kind x s k (h.seats n b t q x asked (s.back n b holds) found i state place is);
}

pub commits_move : (hosts : Hosts) (Asked : ℕ → Type 0) (u v : World) (before after : List Posted) → SameBooks u v → Stay hosts before after → CommitsAreOwed hosts Asked u before → CommitsAreOwed hosts Asked v after
commits_move hosts Asked u v before after s k h = record {
  seats = λ n b t q x asked holds found i durable state place is.
      committed_moves hosts u v before after (record { node = n; id = t.id }) q.number x s k (h.seats n b t q x asked (s.back n b holds) found i durable state place is);
}

pub outcomes_move : (hosts : Hosts) (Asked : ℕ → Type 0) (u v : World) (before after : List Posted) → SameBooks u v → Stay hosts before after → OutcomesAreOwed hosts Asked u before → OutcomesAreOwed hosts Asked v after
outcomes_move hosts Asked u v before after s k h = record {
  links = λ n b t q z number asked holds found under state place knows.
      outcome_moves hosts u v before after (record { node = n; id = t.id }) z number s k (h.links n b t q z number asked (s.back n b holds) found under state place knows);
  leaves = λ n b l z number asked holds found durable state place knows.
      outcome_moves hosts u v before after (record { node = n; id = l.id }) z number s k (h.leaves n b l z number asked (s.back n b holds) found durable state place knows);
}

pub registrations_move : (hosts : Hosts) (Asked : ℕ → Type 0) (u v : World) (before after : List Posted) → SameBooks u v → Stay hosts before after → RegistrationsAreOwed hosts Asked u before
    → RegistrationsAreOwed hosts Asked v after
registrations_move hosts Asked u v before after s k h = record {
  links = λ n b t q kind r m id asked holds found under state request leads.
      registered_moves hosts before after (record { node = n; id = t.id }) kind m id k (h.links n b t q kind r m id asked (s.back n b holds) found under state request leads);
  leaves = λ n b l r m id asked holds found state request leads.
      registered_moves hosts before after (record { node = n; id = l.id }) l.kind m id k (h.leaves n b l r m id asked (s.back n b holds) found state request leads);
}

pub none_routed_moves : (hosts : Hosts) (u v : World) → SameBooks u v → NoneRouted hosts u → NoneRouted hosts v
none_routed_moves hosts u v s h = record {
  links = λ n b t q kind r m id holds. h.links n b t q kind r m id (s.back n b holds);
  leaves = λ n b l r m id holds. h.leaves n b l r m id (s.back n b holds);
}

-- The first round: who registers is owed an answer.
unfoldable pub registering : (hosts : Hosts) (Asked : ℕ → Type 0) → Invariant hosts
registering hosts Asked = record {
  Of = λ w queue. AreUp w × RegistrationsAreOwed hosts Asked w queue;
  on = λ u v before after g (up, h). (up_on hosts u v before after g up, registrations_kept hosts Asked u v before after g h);
  drops = λ w before after k (up, h). (up, registrations_move hosts Asked w w before after (same_books w) k h);
  waits = λ u n x clock queue found (up, h). (
    up_waits u n x clock found up,
    registrations_move hosts Asked u (record u { nodes = put_nth n (record x { clock = clock }) u.nodes }) queue queue (waits_same u n x clock found) (λ q i. inl i) h,
  );
}

-- what is known of every world
pub record Known (hosts : Hosts) : Type 0 where
  pub behind : (w : World) → Reached hosts w → PreparesAreBehind hosts w
  pub registered : (w : World) → Reached hosts w → NoneRouted hosts w → NoneRegisters w

-- Each later round: nobody registers any more, and votes, commits and outcomes are owed.
pub record IsOwed (hosts : Hosts) (Asked : ℕ → Type 0) (w : World) (queue : List Posted) : Type 0 where
  pub up : AreUp w
  pub routed : NoneRouted hosts w
  pub votes : VotesAreOwed hosts Asked w queue
  pub commits : CommitsAreOwed hosts Asked w queue
  pub outcomes : OutcomesAreOwed hosts Asked w queue

unfoldable pub owing : (hosts : Hosts) (Asked : ℕ → Type 0) → Known hosts → Invariant hosts
owing hosts Asked k = record {
  Of = IsOwed hosts Asked;
  on = λ u v before after g h. record {
    up = up_on hosts u v before after g h.up;
    routed = none_routed_kept hosts u v before after g h.routed;
    votes = votes_kept hosts Asked u v before after g (k.behind u g.reached) (k.registered u g.reached h.routed) h.votes;
    commits = commits_kept hosts Asked u v before after g h.commits;
    outcomes = outcomes_kept hosts Asked u v before after g h.outcomes;
  };
  drops = λ w before after stays h. record {
    up = h.up;
    routed = h.routed;
    votes = votes_move hosts Asked w w before after (same_books w) stays h.votes;
    commits = commits_move hosts Asked w w before after (same_books w) stays h.commits;
    outcomes = outcomes_move hosts Asked w w before after (same_books w) stays h.outcomes;
  };
  waits = λ u n x clock queue found h.
      let v : World = record u { nodes = put_nth n (record x { clock = clock }) u.nodes } in
      let s : SameBooks u v = waits_same u n x clock found in
      record {
        up = up_waits u n x clock found h.up;
        routed = none_routed_moves hosts u v s h.routed;
        votes = votes_move hosts Asked u v queue queue s (λ q i. inl i) h.votes;
        commits = commits_move hosts Asked u v queue queue s (λ q i. inl i) h.commits;
        outcomes = outcomes_move hosts Asked u v queue queue s (λ q i. inl i) h.outcomes;
      };
}

-- nodes by which something is owed
pub votes_of : (hosts : Hosts) (A B : ℕ → Type 0) (w : World) (queue : List Posted) → ((n : ℕ) (b : Book) → Holds w n b → B n → A n) → VotesAreOwed hosts A w queue → VotesAreOwed hosts B w queue
votes_of hosts A B w queue f h = record { seats = λ n b t s x asked holds. h.seats n b t s x (f n b holds asked) holds }

pub commits_of : (hosts : Hosts) (A B : ℕ → Type 0) (w : World) (queue : List Posted) → ((n : ℕ) (b : Book) → Holds w n b → B n → A n) → CommitsAreOwed hosts A w queue → CommitsAreOwed hosts B w queue
commits_of hosts A B w queue f h = record { seats = λ n b t s x asked holds. h.seats n b t s x (f n b holds asked) holds }

pub outcomes_of : (hosts : Hosts) (A B : ℕ → Type 0) (w : World) (queue : List Posted) → ((n : ℕ) (b : Book) → Holds w n b → B n → A n) → OutcomesAreOwed hosts A w queue → OutcomesAreOwed hosts B w queue
outcomes_of hosts A B w queue f h = record {
  links = λ n b t s z number asked holds. h.links n b t s z number (f n b holds asked) holds;
  leaves = λ n b l z number asked holds. h.leaves n b l z number (f n b holds asked) holds;
}

pub registrations_of : (hosts : Hosts) (A B : ℕ → Type 0) (w : World) (queue : List Posted) → ((n : ℕ) (b : Book) → Holds w n b → B n → A n) → RegistrationsAreOwed hosts A w queue
    → RegistrationsAreOwed hosts B w queue
registrations_of hosts A B w queue f h = record {
  links = λ n b t s kind r m id asked holds. h.links n b t s kind r m id (f n b holds asked) holds;
  leaves = λ n b l r m id asked holds. h.leaves n b l r m id (f n b holds asked) holds;
}

pub votes_both : (hosts : Hosts) (A B C : ℕ → Type 0) (w : World) (queue : List Posted) → ((n : ℕ) → C n → A n ⊎ B n) → VotesAreOwed hosts A w queue → VotesAreOwed hosts B w queue
    → VotesAreOwed hosts C w queue
votes_both hosts A B C w queue f h k = record {
  seats = λ n b t s x asked holds found i state place is.
      by_side (f n asked) (λ a. h.seats n b t s x a holds found i state place is) (λ a. k.seats n b t s x a holds found i state place is);
}
  where
    by_side : {P Q R : Type 0} → P ⊎ Q → (P → R) → (Q → R) → R
    by_side (inl a) g j = g a
    by_side (inr a) g j = j a

pub commits_both : (hosts : Hosts) (A B C : ℕ → Type 0) (w : World) (queue : List Posted) → ((n : ℕ) → C n → A n ⊎ B n) → CommitsAreOwed hosts A w queue → CommitsAreOwed hosts B w queue
    → CommitsAreOwed hosts C w queue
commits_both hosts A B C w queue f h k = record {
  seats = λ n b t s x asked holds found i durable state place is.
      by_side (f n asked) (λ a. h.seats n b t s x a holds found i durable state place is) (λ a. k.seats n b t s x a holds found i durable state place is);
}
  where
    by_side : {P Q R : Type 0} → P ⊎ Q → (P → R) → (Q → R) → R
    by_side (inl a) g j = g a
    by_side (inr a) g j = j a

pub outcomes_both : (hosts : Hosts) (A B C : ℕ → Type 0) (w : World) (queue : List Posted) → ((n : ℕ) → C n → A n ⊎ B n) → OutcomesAreOwed hosts A w queue → OutcomesAreOwed hosts B w queue
    → OutcomesAreOwed hosts C w queue
outcomes_both hosts A B C w queue f h k = record {
  links = λ n b t s z number asked holds found under state place knows.
      by_side (f n asked) (λ a. h.links n b t s z number a holds found under state place knows) (λ a. k.links n b t s z number a holds found under state place knows);
  leaves = λ n b l z number asked holds found durable state place knows.
      by_side (f n asked) (λ a. h.leaves n b l z number a holds found durable state place knows) (λ a. k.leaves n b l z number a holds found durable state place knows);
}
  where
    by_side : {P Q R : Type 0} → P ⊎ Q → (P → R) → (Q → R) → R
    by_side (inl a) g j = g a
    by_side (inr a) g j = j a

pub registrations_both : (hosts : Hosts) (A B C : ℕ → Type 0) (w : World) (queue : List Posted) → ((n : ℕ) → C n → A n ⊎ B n) → RegistrationsAreOwed hosts A w queue
    → RegistrationsAreOwed hosts B w queue → RegistrationsAreOwed hosts C w queue
registrations_both hosts A B C w queue f h k = record {
  links = λ n b t s kind r m id asked holds found under state request leads.
      by_side (f n asked) (λ a. h.links n b t s kind r m id a holds found under state request leads) (λ a. k.links n b t s kind r m id a holds found under state request leads);
  leaves = λ n b l r m id asked holds found state request leads.
      by_side (f n asked) (λ a. h.leaves n b l r m id a holds found state request leads) (λ a. k.leaves n b l r m id a holds found state request leads);
}
  where
    by_side : {P Q R : Type 0} → P ⊎ Q → (P → R) → (Q → R) → R
    by_side (inl a) g j = g a
    by_side (inr a) g j = j a

-- one node further
pub up_to : (u n : ℕ) → n ≤ u + 1 → (n ≤ u) ⊎ (n ≡ u + 1)
up_to u n h = by_number (nat_le n u) refl
  where
    by_number : (c : Bool) → nat_le n u ≡ c → (n ≤ u) ⊎ (n ≡ u + 1)
    by_number true e = inl (leb-true n u e)
    by_number false e = let over : u < n = leb-false n u e in inr (omega (arith, h, over))
