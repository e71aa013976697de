-- A law of the items of books and of records, of which each holds for good: what a step leaves, makes and records has it,
-- and what a start recovers.
use Rattle.std.specs.Prelude.{ℕ, List, [], ◌∷◌, ◌++◌, Option, Some, None, Bool, true, false, ◌+◌, ◌≡◌, refl}
use Rattle.std.specs.List.{list_any, AllByRecursion}
use Rattle.std.proofs.Common.{sym, subst, ap, ◌∙◌}
use Rattle.at_base.specs.Numbers.{Numbers}
use Rattle.at_base.specs.declared.epr.Epr.{Epr}
use Rattle.at_base.specs.declared.event.Event.{Event}
use Rattle.at_base.specs.declared.record.Record.{Record}
use Rattle.at_base.specs.declared.record.Record.TheVariants as records
use Rattle.at_base.specs.declared.record.Seated.{Seated}
use Rattle.at_model.specs.Book.{Activity, Book, Leaf, Transaction, activity_id, leaf_id, transaction_id}
use Rattle.at_model.specs.Recovery.{is_sub_committed, last_incarnation, leaves_of, live, recover, recovered_decided, recovered_leaf, recovered_voted, transactions_of}
use Rattle.at_model.specs.Step.{plan, step}
use Rattle.at_model.specs.World.{Node, World, lost_in, nth, opening, put_book, put_nth, started, up_after, with_post, Hosts, HaveOwnAddresses}
use Rattle.model_laws.specs.DrawnIds.{restarted, with_entry}
use Rattle.model_laws.specs.Growth.{Grows}
use Rattle.model_laws.specs.ReachedWorlds.{Reached, counts}
use Rattle.model_laws.proofs.DecisionLaws.{IfThere, all_find, all_join, all_more}
use Rattle.model_laws.proofs.WorldInvariants.{Law, holds}
use Rattle.model_laws.proofs.Growth.{grows_counts, grows_falls, grows_posts, grows_rises, grows_waits}
use Rattle.model_laws.proofs.DrawnIds.{all_in_order, all_live}
use Rattle.model_laws.proofs.Nodes.{each_put}
use Rattle.model_laws.proofs.NodeLives.{opening_node}
use Rattle.agreement.specs.StepDeeds.{standing}
use Rattle.enlistments.specs.Moves.{ActivityDid, ActivityMade, LeafDid, LeafMade, Moved, Registered, TransactionDid, TransactionMade}
use Rattle.enlistments.proofs.StepItems.{activities_after, entry_of, leaves_after, records_after, transactions_after}
use Rattle.enlistments.proofs.Arrivals.{Stepping, out_unit, step_ready}
use Rattle.enlistments.proofs.StepMoves.{step_moves}

pub record NodesLaw (hosts : Hosts) : Type 1 where
  pub OfTransaction : World → ℕ → Transaction → Type 0
  pub OfLeaf : World → ℕ → Leaf → Type 0
  pub OfActivity : World → ℕ → Activity → Type 0
  pub OfRecord : World → ℕ → Record → Type 0
  -- it holds for good
  pub transaction_on : (u w : World) → Grows u w → (n : ℕ) (t : Transaction) → OfTransaction u n t → OfTransaction w n t
  pub leaf_on : (u w : World) → Grows u w → (n : ℕ) (l : Leaf) → OfLeaf u n l → OfLeaf w n l
  pub activity_on : (u w : World) → Grows u w → (n : ℕ) (a : Activity) → OfActivity u n a → OfActivity w n a
  pub record_on : (u w : World) → Grows u w → (n : ℕ) (r : Record) → OfRecord u n r → OfRecord w n r
  -- a step
  pub did : (u : World) (n : ℕ) (x : Node) (b : Book) (e : Event) (now : ℕ) (landed : Bool) → Stepping hosts u n x b e now landed
      → (d : TransactionDid b e now (standing landed (plan b e now).entry) (step b e now landed)) → OfTransaction u n d.old
      → IfThere (OfTransaction (counts u n x b e now landed) n) d.change.item × IfThere (OfRecord (counts u n x b e now landed) n) (standing landed (plan b e now).entry)
  pub leaf_does : (u : World) (n : ℕ) (x : Node) (b : Book) (e : Event) (now : ℕ) (landed : Bool) → Stepping hosts u n x b e now landed
      → (d : LeafDid b e now (standing landed (plan b e now).entry) (step b e now landed)) → OfLeaf u n d.old
      → IfThere (OfLeaf (counts u n x b e now landed) n) d.change.item × IfThere (OfRecord (counts u n x b e now landed) n) (standing landed (plan b e now).entry)
  pub activity_does : (u : World) (n : ℕ) (x : Node) (b : Book) (e : Event) (now : ℕ) (landed : Bool) → Stepping hosts u n x b e now landed
      → (d : ActivityDid b e now (standing landed (plan b e now).entry) (step b e now landed)) → OfActivity u n d.old
      → IfThere (OfActivity (counts u n x b e now landed) n) d.change.item
  pub enrolls : (u : World) (n : ℕ) (x : Node) (b : Book) (e : Event) (now : ℕ) (landed : Bool) → Stepping hosts u n x b e now landed
      → (d : Registered b e now (standing landed (plan b e now).entry) (step b e now landed)) → OfTransaction u n d.old
      → OfTransaction (counts u n x b e now landed) n d.gives.transaction
  pub makes : (u : World) (n : ℕ) (x : Node) (b : Book) (e : Event) (now : ℕ) (landed : Bool) → Stepping hosts u n x b e now landed
      → (d : TransactionMade b e now (standing landed (plan b e now).entry) (step b e now landed)) → OfTransaction (counts u n x b e now landed) n d.new
  pub makes_leaf : (u : World) (n : ℕ) (x : Node) (b : Book) (e : Event) (now : ℕ) (landed : Bool) → Stepping hosts u n x b e now landed
      → (d : LeafMade b e now (standing landed (plan b e now).entry) (step b e now landed)) → OfLeaf (counts u n x b e now landed) n d.new
  pub makes_activity : (u : World) (n : ℕ) (x : Node) (b : Book) (e : Event) (now : ℕ) (landed : Bool) → Stepping hosts u n x b e now landed
      → (d : ActivityMade b e now (standing landed (plan b e now).entry) (step b e now landed)) → OfActivity (counts u n x b e now landed) n d.new
  -- a start
  pub starts : (w : World) (n i : ℕ) → OfRecord w n (records.Start i)
  pub commits : (w : World) (n : ℕ) (id : Numbers) (superior : Epr) (seats : List Seated) → OfRecord w n (records.Voted id superior seats) → OfRecord w n (records.SubCommitted id)
  pub voted : (w : World) (n : ℕ) (id : Numbers) (superior : Epr) (seats : List Seated) (committed : Bool) → OfRecord w n (records.Voted id superior seats)
      → OfTransaction w n (recovered_voted id superior seats committed)
  pub decided : (w : World) (n : ℕ) (base : List ℕ) (id : Numbers) (seats : List Seated) → OfRecord w n (records.Decided id seats) → OfTransaction w n (recovered_decided base id seats)
  pub prepared : (w : World) (n : ℕ) (id : Numbers) (coordinator : Epr) (key value : List ℕ) → OfRecord w n (records.LeafPrepared id coordinator key value)
      → OfLeaf w n (recovered_leaf id coordinator key value)

pub record BookHas (hosts : Hosts) (l : NodesLaw hosts) (w : World) (n : ℕ) (b : Book) : Type 0 where
  pub transactions : AllByRecursion (l.OfTransaction w n) b.transactions
  pub leaves : AllByRecursion (l.OfLeaf w n) b.leaves
  pub activities : AllByRecursion (l.OfActivity w n) b.activities

pub record NodeHas (hosts : Hosts) (l : NodesLaw hosts) (w : World) (n : ℕ) (rs : List Record) (o : Option Book) : Type 0 where
  pub journal : AllByRecursion (l.OfRecord w n) rs
  pub book : IfThere (BookHas hosts l w n) o

abbrev AllHave : (hosts : Hosts) → NodesLaw hosts → World → Type 0
AllHave hosts l w = (n : ℕ) (x : Node) → nth n w.nodes ≡ Some x → NodeHas hosts l w n x.journal x.book

-- it holds for good
book_on : (hosts : Hosts) (l : NodesLaw hosts) (u w : World) → Grows u w → (n : ℕ) (b : Book) → BookHas hosts l u n b → BookHas hosts l w n b
book_on hosts l u w g n b h = record {
  transactions = all_more (l.OfTransaction u n) (l.OfTransaction w n) b.transactions (l.transaction_on u w g n) h.transactions;
  leaves = all_more (l.OfLeaf u n) (l.OfLeaf w n) b.leaves (l.leaf_on u w g n) h.leaves;
  activities = all_more (l.OfActivity u n) (l.OfActivity w n) b.activities (l.activity_on u w g n) h.activities;
}

if_on : (hosts : Hosts) (l : NodesLaw hosts) (u w : World) → Grows u w → (n : ℕ) (o : Option Book) → IfThere (BookHas hosts l u n) o → IfThere (BookHas hosts l w n) o
if_on hosts l u w g n None h = tt
if_on hosts l u w g n (Some b) h = book_on hosts l u w g n b h

node_on : (hosts : Hosts) (l : NodesLaw hosts) (u w : World) → Grows u w → (n : ℕ) (rs : List Record) (o : Option Book) → NodeHas hosts l u n rs o → NodeHas hosts l w n rs o
node_on hosts l u w g n rs o h = record {
  journal = all_more (l.OfRecord u n) (l.OfRecord w n) rs (l.record_on u w g n) h.journal;
  book = if_on hosts l u w g n o h.book;
}

-- a step
step_has : (hosts : Hosts) (l : NodesLaw hosts) (u : World) (n : ℕ) (x : Node) (b : Book) (e : Event) (now : ℕ) (landed : Bool) → Stepping hosts u n x b e now landed
    → AllByRecursion (l.OfRecord u n) x.journal → BookHas hosts l u n b
    → NodeHas hosts l (counts u n x b e now landed) n (with_entry (plan b e now).entry landed x.journal) (Some (step b e now landed).book)
step_has hosts l u n x b e now landed s j h =
    let w : World = counts u n x b e now landed in
    let g : Grows u w = grows_counts u n x b e now landed s.found in
    let m : Moved b e now (standing landed (plan b e now).entry) (step b e now landed) = step_moves b e now landed (step_ready hosts u n x b e now landed s) in
    let k : BookHas hosts l w n b = book_on hosts l u w g n b h in
    let t : (d : TransactionDid b e now (standing landed (plan b e now).entry) (step b e now landed)) → IfThere (l.OfTransaction w n) d.change.item × IfThere (l.OfRecord w n) (standing landed (plan b e now).entry) =
    λ d. l.did u n x b e now landed s d (all_find (l.OfTransaction u n) transaction_id d.old.id b.transactions d.old h.transactions d.found) in
    let f : (d : LeafDid b e now (standing landed (plan b e now).entry) (step b e now landed)) → IfThere (l.OfLeaf w n) d.change.item × IfThere (l.OfRecord w n) (standing landed (plan b e now).entry) =
    λ d. l.leaf_does u n x b e now landed s d (all_find (l.OfLeaf u n) leaf_id d.old.id b.leaves d.old h.leaves d.found) in
    record {
      journal = records_after (l.OfRecord w n) (plan b e now).entry landed x.journal (all_more (l.OfRecord u n) (l.OfRecord w n) x.journal (l.record_on u w g n) j)
          (entry_of (l.OfRecord w n) b e now (standing landed (plan b e now).entry) (step b e now landed) m (λ d. (t d).1) (λ d. (f d).1));
      book = record {
        transactions = transactions_after (l.OfTransaction w n) b e now (standing landed (plan b e now).entry) (step b e now landed) m k.transactions (λ d. (t d).0)
            (λ d. l.enrolls u n x b e now landed s d (all_find (l.OfTransaction u n) transaction_id d.old.id b.transactions d.old h.transactions d.found)) (l.makes u n x b e now landed s);
        leaves = leaves_after (l.OfLeaf w n) b e now (standing landed (plan b e now).entry) (step b e now landed) m k.leaves (λ d. (f d).0) (l.makes_leaf u n x b e now landed s);
        activities = activities_after (l.OfActivity w n) b e now (standing landed (plan b e now).entry) (step b e now landed) m k.activities
            (λ d. l.activity_does u n x b e now landed s d (all_find (l.OfActivity u n) activity_id d.old.id b.activities d.old h.activities d.found)) (l.makes_activity u n x b e now landed s);
      };
    }

-- a start
transactions_recovered : (hosts : Hosts) (l : NodesLaw hosts) (w : World) (n : ℕ) (base : List ℕ) (rs : List Record) → AllByRecursion (l.OfRecord w n) rs
    → AllByRecursion (l.OfTransaction w n) (transactions_of base rs)
transactions_recovered hosts l w n base [] h = tt
transactions_recovered hosts l w n base (records.Voted id superior seats ∷ rest) (h, k) =
    (l.voted w n id superior seats (list_any (is_sub_committed id) rest) h, transactions_recovered hosts l w n base rest k)
transactions_recovered hosts l w n base (records.Decided id seats ∷ rest) (h, k) = (l.decided w n base id seats h, transactions_recovered hosts l w n base rest k)
transactions_recovered hosts l w n base (records.Start i ∷ rest) (h, k) = transactions_recovered hosts l w n base rest k
transactions_recovered hosts l w n base (records.LeafPrepared id c key value ∷ rest) (h, k) = transactions_recovered hosts l w n base rest k
transactions_recovered hosts l w n base (records.LeafCommitted id ∷ rest) (h, k) = transactions_recovered hosts l w n base rest k
transactions_recovered hosts l w n base (records.LeafAborted id ∷ rest) (h, k) = transactions_recovered hosts l w n base rest k
transactions_recovered hosts l w n base (records.SubCommitted id ∷ rest) (h, k) = transactions_recovered hosts l w n base rest k
transactions_recovered hosts l w n base (records.Ended id ∷ rest) (h, k) = transactions_recovered hosts l w n base rest k
transactions_recovered hosts l w n base (records.Done id ∷ rest) (h, k) = transactions_recovered hosts l w n base rest k

leaves_recovered : (hosts : Hosts) (l : NodesLaw hosts) (w : World) (n : ℕ) (rs : List Record) → AllByRecursion (l.OfRecord w n) rs → AllByRecursion (l.OfLeaf w n) (leaves_of rs)
leaves_recovered hosts l w n [] h = tt
leaves_recovered hosts l w n (records.LeafPrepared id c key value ∷ rest) (h, k) = (l.prepared w n id c key value h, leaves_recovered hosts l w n rest k)
leaves_recovered hosts l w n (records.Voted id superior seats ∷ rest) (h, k) = leaves_recovered hosts l w n rest k
leaves_recovered hosts l w n (records.Decided id seats ∷ rest) (h, k) = leaves_recovered hosts l w n rest k
leaves_recovered hosts l w n (records.Start i ∷ rest) (h, k) = leaves_recovered hosts l w n rest k
leaves_recovered hosts l w n (records.LeafCommitted id ∷ rest) (h, k) = leaves_recovered hosts l w n rest k
leaves_recovered hosts l w n (records.LeafAborted id ∷ rest) (h, k) = leaves_recovered hosts l w n rest k
leaves_recovered hosts l w n (records.SubCommitted id ∷ rest) (h, k) = leaves_recovered hosts l w n rest k
leaves_recovered hosts l w n (records.Ended id ∷ rest) (h, k) = leaves_recovered hosts l w n rest k
leaves_recovered hosts l w n (records.Done id ∷ rest) (h, k) = leaves_recovered hosts l w n rest k

recovered : (hosts : Hosts) (l : NodesLaw hosts) (w : World) (n : ℕ) (base : List ℕ) (rs : List Record) → AllByRecursion (l.OfRecord w n) rs → BookHas hosts l w n (recover base rs)
recovered hosts l w n base rs h =
    let alive : AllByRecursion (l.OfRecord w n) (live rs) = all_live (l.OfRecord w n) rs (l.commits w n) h in
    record {
      transactions = all_in_order (l.OfTransaction w n) transaction_id (transactions_of base (live rs)) (transactions_recovered hosts l w n base (live rs) alive);
      leaves = all_in_order (l.OfLeaf w n) leaf_id (leaves_of (live rs)) (leaves_recovered hosts l w n (live rs) alive);
      activities = tt;
    }

risen : (hosts : Hosts) (l : NodesLaw hosts) (w : World) (n : ℕ) (x : Node) (stop : Bool) → AllByRecursion (l.OfRecord w n) x.journal
    → NodeHas hosts l w n (restarted x.journal) (up_after (started (last_incarnation x.journal + 1) x) stop).book
risen hosts l w n x stop h = record { journal = more; book = by_stop stop }
  where
    more : AllByRecursion (l.OfRecord w n) (restarted x.journal)
    more = all_join (l.OfRecord w n) x.journal (records.Start (last_incarnation x.journal + 1) ∷ []) h (l.starts w n (last_incarnation x.journal + 1), tt)

    by_stop : (s : Bool) → IfThere (BookHas hosts l w n) (up_after (started (last_incarnation x.journal + 1) x) s).book
    by_stop true = tt
    by_stop false = recovered hosts l w n x.base (restarted x.journal) more

-- a node is put, and the others stay
put_has : (hosts : Hosts) (l : NodesLaw hosts) (u w : World) (n : ℕ) (x y : Node) → nth n u.nodes ≡ Some x → w.nodes ≡ put_nth n y u.nodes → Grows u w → NodeHas hosts l w n y.journal y.book
    → AllHave hosts l u → AllHave hosts l w
put_has hosts l u w n x y found nodes g k h m z f =
    each_put (λ i v. NodeHas hosts l w i v.journal v.book) u.nodes n x y found k (λ i v other r. node_on hosts l u w g i v.journal v.book (h i v r)) m z (sym (ap (nth m) nodes) ∙ f)

nodes_law : (hosts : Hosts) → HaveOwnAddresses hosts → NodesLaw hosts → Law hosts
nodes_law hosts distinct l = record {
  Good = AllHave hosts l;
  Fine = λ w g n p. Unit {0};
  opens = λ n x found. subst (λ (y : Node). NodeHas hosts l (opening hosts) n y.journal y.book) (sym (opening_node hosts n x found)) (record { journal = tt; book = tt });
  steps = λ u n x b e now landed reached found up heard h. (
    put_has hosts l u (counts u n x b e now landed) n x (record x { book = Some (step b e now landed).book; journal = with_entry (plan b e now).entry landed x.journal }) found refl
        (grows_counts u n x b e now landed found)
        (step_has hosts l u n x b e now landed (record { distinct = distinct; reached = reached; found = found; up = up; heard = heard }) (h n x found).journal
        (subst (IfThere (BookHas hosts l u n)) up (h n x found).book)) h,
    out_unit (step b e now landed).outs,
  );
  posts = λ w h n p f m z g. node_on hosts l w (with_post n p w) (grows_posts n (p ∷ []) w) m z.journal z.book (h m z g);
  still_fine = λ w g n p q f h. tt;
  falls = λ u n x b reached found up h.
      subst (AllHave hosts l) (sym (ap (put_book n None (record u { happened = u.happened ++ lost_in n b })) found))
      (put_has hosts l u (record u { nodes = put_nth n (record x { book = None }) u.nodes; happened = u.happened ++ lost_in n b }) n x (record x { book = None }) found refl
      (subst (Grows u) (ap (put_book n None (record u { happened = u.happened ++ lost_in n b })) found) (grows_falls u n x b found))
      (record {
        journal = all_more (l.OfRecord u n) (l.OfRecord (record u { nodes = put_nth n (record x { book = None }) u.nodes; happened = u.happened ++ lost_in n b }) n) x.journal
            (l.record_on u (record u { nodes = put_nth n (record x { book = None }) u.nodes; happened = u.happened ++ lost_in n b })
            (subst (Grows u) (ap (put_book n None (record u { happened = u.happened ++ lost_in n b })) found) (grows_falls u n x b found)) n) (h n x found).journal;
        book = tt;
      }) h);
  rises = λ u n x stop reached found down little h.
      let w : World = record u { nodes = put_nth n (up_after (started (last_incarnation x.journal + 1) x) stop) u.nodes } in
      put_has hosts l u w n x (up_after (started (last_incarnation x.journal + 1) x) stop) found refl (grows_rises u n x stop found)
      (risen hosts l w n x stop (all_more (l.OfRecord u n) (l.OfRecord w n) x.journal (l.record_on u w (grows_rises u n x stop found) n) (h n x found).journal)) h;
  waits = λ u n x clock reached found h.
      let w : World = record u { nodes = put_nth n (record x { clock = clock }) u.nodes } in
      put_has hosts l u w n x (record x { clock = clock }) found refl (grows_waits u n x clock found)
      (node_on hosts l u w (grows_waits u n x clock found) n x.journal x.book (h n x found)) h;
}

pub nodes_have : (hosts : Hosts) → HaveOwnAddresses hosts → (l : NodesLaw hosts) (w : World) → Reached hosts w → (n : ℕ) (x : Node) → nth n w.nodes ≡ Some x → NodeHas hosts l w n x.journal x.book
unfolding nodes_law
nodes_have hosts distinct l w reached = holds hosts (nodes_law hosts distinct l) w reached

pub books_have : (hosts : Hosts) → HaveOwnAddresses hosts → (l : NodesLaw hosts) (w : World) → Reached hosts w → (n : ℕ) (x : Node) (b : Book) → nth n w.nodes ≡ Some x → x.book ≡ Some b
    → BookHas hosts l w n b
books_have hosts distinct l w reached n x b found up = subst (IfThere (BookHas hosts l w n)) up (nodes_have hosts distinct l w reached n x found).book
