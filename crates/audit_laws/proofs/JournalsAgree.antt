-- The journals of a run agree.
use Rattle.std.specs.Prelude.{ℕ, List, [], ◌∷◌, Some, Bool, true, false, not, ◌||◌, ◌+◌, ◌-◌, nat_eq, if◌then◌else◌, filter, length, map, ◌≡◌, ◌≤◌, refl}
use Rattle.std.proofs.Common.{arith, inl, inr, sym, subst, ap, ◌∙◌}
use Rattle.at_model.specs.World.{Hosts, Node, World, nth, run_of}
use Rattle.model_laws.specs.Agreement.{IsIn, IsOf}
use Rattle.model_laws.proofs.ReachedWorlds.{run_reached}
use Rattle.outcomes.proofs.Agreement.{bound}
use Rattle.outcomes.proofs.Depth.{whole}
use Rattle.recorded_runs.proofs.VoteOrder.{votes_ranked}
use Rattle.audit_at.specs.Outcomes.{outcomes}
use Rattle.audit_at.specs.Superiors.{Log, comes_back, is_item, subordinates}
use Rattle.audit_at.specs.Verdicts.{aborted_tops, committed_tops, cycle_or, cycles, is_among, least, split_or_agreed, splits, verdict_of}
use Rattle.audit_at.specs.declared.item.Item.{Item}
use Rattle.audit_at.specs.declared.outcome.Outcome.{Outcome}
use Rattle.audit_at.specs.declared.subordinate.Subordinate.{Subordinate}
use Rattle.audit_laws.specs.JournalsOfRuns.{AreJournalsOf, JournalsAgree, SaysAgreed, log_of, logs_of}
use Rattle.audit_laws.proofs.JournalItems.{Audits, IsItemOf, never_back, same_item, who_is}
use Rattle.audit_laws.proofs.JournalOutcomes.{Ended, HasOutcome, has_outcome}

-- lists
none_pass : {A : Type 0} (p : A → Bool) (xs : List A) → ((x : A) → IsIn x xs → p x ≡ true → ⊥) → filter p xs ≡ []
none_pass p [] h = refl
none_pass {A = A} p (x ∷ xs) h = by_test (p x) refl (none_pass p xs (λ y i. h y (inr i)))
  where
    by_test : (c : Bool) → p x ≡ c → filter p xs ≡ [] → (if c then x ∷ filter p xs else filter p xs) ≡ []
    by_test true e f = absurd (h x (inl refl) e)
    by_test false e f = f

passed : {A : Type 0} (p : A → Bool) (x : A) (xs : List A) → IsIn x (filter p xs) → IsIn x xs × (p x ≡ true)
passed p x [] i = absurd i
passed {A = A} p x (y ∷ xs) i = by_test (passed p x xs) (p y) refl i
  where
    by_test : (IsIn x (filter p xs) → IsIn x xs × (p x ≡ true)) → (c : Bool) → p y ≡ c → IsIn x (if c then y ∷ filter p xs else filter p xs) → IsIn x (y ∷ xs) × (p x ≡ true)
    by_test rest true e (inl f) = (inl f, ap p f ∙ e)
    by_test rest true e (inr k) = let (j, g) = rest k in (inr j, g)
    by_test rest false e k = let (j, g) = rest k in (inr j, g)

mapped : {A B : Type 0} (f : A → B) (y : B) (xs : List A) → IsIn y (map f xs) → (x : A) × IsIn x xs × (y ≡ f x)
mapped f y [] i = absurd i
mapped f y (x ∷ xs) (inl e) = (x, inl refl, e)
mapped f y (x ∷ xs) (inr i) = let (z, k, e) = mapped f y xs i in (z, inr k, e)

among : (items : List Item) (top : Item) → is_among items top ≡ true → (x : Item) × IsIn x items × (is_item x top ≡ true)
among [] top e = absurd cc
among (x ∷ items) top e = by_test (among items top) (is_item x top) refl e
  where
    by_test : (is_among items top ≡ true → (y : Item) × IsIn y items × (is_item y top ≡ true)) → (c : Bool) → is_item x top ≡ c → (c || is_among items top) ≡ true → (y : Item) × IsIn y (x ∷ items) × (is_item y top ≡ true)
    by_test rest true f g = (x, inl refl, f)
    by_test rest false f g = let (y, i, k) = rest g in (y, inr i, k)

-- the tops of outcomes
record TopOf (os : List Outcome) (top : Item) (committed : Bool) : Type 0 where
  of : Outcome
  among : IsIn of os
  is : of.top ≡ top
  so : of.committed ≡ committed

committed_top : (os : List Outcome) (top : Item) → IsIn top (committed_tops os) → TopOf os top true
committed_top os top i =
    let (o, k, e) = mapped (λ (p : Outcome). p.top) top (filter (λ (p : Outcome). p.committed) os) i in
    let (j, so) = passed (λ (p : Outcome). p.committed) o os k in
    record { of = o; among = j; is = sym e; so = so }

denied : (b : Bool) → not b ≡ true → b ≡ false
denied true e = absurd cc
denied false e = refl

aborted_top : (os : List Outcome) (top : Item) → IsIn top (aborted_tops os) → TopOf os top false
aborted_top os top i =
    let (o, k, e) = mapped (λ (p : Outcome). p.top) top (filter (λ (p : Outcome). not p.committed) os) i in
    let (j, so) = passed (λ (p : Outcome). not p.committed) o os k in
    record { of = o; among = j; is = sym e; so = denied o.committed so }

-- nothing is split
unsplit : (hosts : Hosts) (w : World) (logs : List Log) (one other : Outcome) → Audits hosts w logs → IsIn one (outcomes logs) → IsIn other (outcomes logs) → one.top ≡ other.top → one.committed ≡ true
    → other.committed ≡ false → ⊥
unsplit hosts w logs one other a i j same c d =
    let h : HasOutcome hosts w one = has_outcome hosts w logs one a i in
    let k : HasOutcome hosts w other = has_outcome hosts w logs other a j in
    let root : k.top.root ≡ h.top.root = who_is hosts a.distinct other.top k.top.root h.top.root k.top.is (subst (λ it. IsItemOf hosts it h.top.root) same h.top.is) in
    whole w (bound hosts w a.distinct a.reached) (record {
      root = h.top.root;
      one = h.who;
      other = k.who;
      one_of = h.top.of;
      other_of = subst (IsOf w k.who) root k.top.of;
      committed = subst (Ended w h.who) c h.so;
      aborted = subst (Ended w k.who) d k.so;
    })

none_split : (hosts : Hosts) (w : World) (logs : List Log) → Audits hosts w logs → splits (outcomes logs) ≡ []
none_split hosts w logs a = none_pass (λ top. is_among (aborted_tops (outcomes logs)) top) (committed_tops (outcomes logs)) apart
  where
    apart : (top : Item) → IsIn top (committed_tops (outcomes logs)) → is_among (aborted_tops (outcomes logs)) top ≡ true → ⊥
    apart top i e =
        let (x, k, is) = among (aborted_tops (outcomes logs)) top e in
        let one : TopOf (outcomes logs) top true = committed_top (outcomes logs) top i in
        let other : TopOf (outcomes logs) x false = aborted_top (outcomes logs) x k in
        unsplit hosts w logs one.of other.of a one.among other.among (one.is ∙ sym (same_item x top is) ∙ sym other.is) one.so other.so

none_back : (hosts : Hosts) (w : World) (logs : List Log) → Audits hosts w logs → cycles (subordinates logs) ≡ []
none_back hosts w logs a = none_pass (λ item. comes_back (subordinates logs) item) (map (λ (s : Subordinate). s.item) (subordinates logs)) apart
  where
    apart : (item : Item) → IsIn item (map (λ (s : Subordinate). s.item) (subordinates logs)) → comes_back (subordinates logs) item ≡ true → ⊥
    apart item i e =
        let (s, k, is) = mapped (λ (t : Subordinate). t.item) item (subordinates logs) i in
        never_back hosts w logs a (votes_ranked hosts w a.distinct a.reached) s k (length (subordinates logs)) (subst (λ it. comes_back (subordinates logs) it ≡ true) is e)

agreed : (hosts : Hosts) (w : World) (logs : List Log) → Audits hosts w logs → SaysAgreed (verdict_of logs)
agreed hosts w logs a =
    subst (λ items. SaysAgreed (cycle_or (outcomes logs) (least items))) (sym (none_back hosts w logs a))
    (subst (λ items. SaysAgreed (split_or_agreed (outcomes logs) (least items))) (sym (none_split hosts w logs a)) tt)

-- all nodes of a world
numbered : (log : Log) (xs : List Node) → IsIn log (map log_of xs) → (n : ℕ) × (x : Node) × (1 ≤ n) × (nth n xs ≡ Some x) × (log ≡ log_of x)
numbered log [] i = absurd i
numbered log (x ∷ xs) (inl e) = (1, x, omega arith, refl, e)
numbered log (x ∷ xs) (inr i) =
    let (n, y, least, found, e) = numbered log xs i in
    (n + 1, y, omega (arith, least), further n y least found, e)
  where
    further : (n : ℕ) (y : Node) → 1 ≤ n → nth n xs ≡ Some y → (if nat_eq (n + 1) 1 then Some x else nth (n + 1 - 1) xs) ≡ Some y
    further n y least found =
        let other : nat_eq (n + 1) 1 ≡ false = grind (arith, least) in
        let back : n + 1 - 1 ≡ n = omega arith in
        ap (λ c. if c then Some x else nth (n + 1 - 1) xs) other ∙ ap (λ k. nth k xs) back ∙ found

all_logs : (w : World) → AreJournalsOf w (logs_of w)
all_logs w log i = let (n, x, least, found, e) = numbered log w.nodes i in (n, x, found, e)

pub journals_agree : JournalsAgree
journals_agree = record {
  all = λ hosts es distinct. agreed hosts (run_of hosts es) (logs_of (run_of hosts es)) (record { distinct = distinct; reached = run_reached hosts es; journals = all_logs (run_of hosts es) });
  each = λ hosts es logs distinct journals. agreed hosts (run_of hosts es) logs (record { distinct = distinct; reached = run_reached hosts es; journals = journals });
}
