-- The worlds on the way to rest are worlds of runs.
use Rattle.std.specs.Prelude.{ℕ, List, [], ◌∷◌, ◌++◌, Option, Some, None, ◌+◌, ◌-◌, zero, suc, length, ◌≡◌, ◌≤◌, refl}
use Rattle.std.specs.List.{AllByRecursion}
use Rattle.std.proofs.Common.{arith, sym, subst, ap, ◌∙◌}
use Rattle.at_model.specs.Book.{Book}
use Rattle.at_model.specs.World.{Node, World, WorldEvent, lost_in, nth, opening, put_book, run_of, run_on, world_step, Hosts}
use Rattle.model_laws.specs.ReachedWorlds.{Reached, counts, fell, opened, rose, stepped, waited}
use Rattle.model_laws.specs.Settlement.{Settling, all_also, also}
use Rattle.model_laws.proofs.DecisionLaws.{IfThere}
use Rattle.model_laws.proofs.ReachedWorlds.{run_reached}
use Rattle.agreement.proofs.Sorts.{new_length}
use Rattle.settling.specs.Payments.{IsSteady}
use Rattle.settling.proofs.Deliveries.{AreSteady, IsSteadyNode}
use Rattle.settling.proofs.BookPayments.{steady_books}
use Rattle.settling.proofs.Places.{length_put, nth_behind}
use Rattle.settling.proofs.TurnCosts.{posts_nodes}

-- it is the world of a run
pub record IsOfRun (hosts : Hosts) (w : World) : Type 0 where
  pub events : List WorldEvent
  pub is : w ≡ run_of hosts events

one_further : (w : World) (es : List WorldEvent) (e : WorldEvent) → run_on w (es ++ e ∷ []) ≡ world_step (run_on w es) e
one_further w [] e = refl
one_further w (x ∷ es) e = one_further (world_step w x) es e

pub further_run : (hosts : Hosts) (w : World) (e : WorldEvent) → IsOfRun hosts w → IsOfRun hosts (world_step w e)
further_run hosts w e h = record { events = h.events ++ e ∷ []; is = ap (λ v. world_step v e) h.is ∙ sym (one_further (opening hosts) h.events e) }

pub all_further : (hosts : Hosts) (es : List WorldEvent) (s : Settling) → IsOfRun hosts s.world → IsOfRun hosts (all_also es s).world
all_further hosts [] s h = h
all_further hosts (e ∷ es) s h = all_further hosts es (also e s) (further_run hosts s.world e h)

pub run_is : (hosts : Hosts) (w : World) → IsOfRun hosts w → Reached hosts w
run_is hosts w h = subst (Reached hosts) (sym h.is) (run_reached hosts h.events)

-- how many nodes it has
pub reached_length : (hosts : Hosts) (w : World) → Reached hosts w → length w.nodes ≡ hosts.count
reached_length hosts w (opened is) = ap (λ (v : World). length v.nodes) is ∙ new_length hosts.base_of hosts.count 1
reached_length hosts w (stepped u n x b e now landed ps reached found up heard those is) =
    ap (λ (v : World). length v.nodes) is ∙ ap length (posts_nodes n ps (counts u n x b e now landed)) ∙ length_put n _ u.nodes ∙ reached_length hosts u reached
reached_length hosts w (fell u n x b reached found up is) =
    ap (λ (v : World). length v.nodes) (is ∙ ap (put_book n None (record u { happened = u.happened ++ lost_in n b })) found) ∙ length_put n _ u.nodes ∙ reached_length hosts u reached
reached_length hosts w (rose u n x stop reached found down small is) = ap (λ (v : World). length v.nodes) is ∙ length_put n _ u.nodes ∙ reached_length hosts u reached
reached_length hosts w (waited u n x clock reached found is) = ap (λ (v : World). length v.nodes) is ∙ length_put n _ u.nodes ∙ reached_length hosts u reached

pub run_length : (hosts : Hosts) (w : World) → IsOfRun hosts w → length w.nodes ≡ hosts.count
run_length hosts w h = reached_length hosts w (run_is hosts w h)

-- what holds of each node by its number holds of all
nth_zero : {A : Type 0} (xs : List A) → nth 0 xs ≡ None
nth_zero [] = refl
nth_zero (x ∷ xs) = nth_zero xs

none_there : {A : Type 0} (o : Option A) (x : A) → o ≡ None → o ≡ Some x → ⊥
none_there o x e f = cc

pub nth_least : {A : Type 0} (n : ℕ) (xs : List A) (x : A) → nth n xs ≡ Some x → 1 ≤ n
nth_least zero xs x e = absurd (none_there (nth 0 xs) x (nth_zero xs) e)
nth_least (suc n) xs x e = omega arith

pub all_from_nth : {A : Type 0} (P : A → Type 0) (xs : List A) → ((n : ℕ) (x : A) → nth n xs ≡ Some x → P x) → AllByRecursion P xs
all_from_nth P [] h = tt
all_from_nth {A = A} P (x ∷ xs) h = (h 1 x refl, all_from_nth P xs behind)
  where
    behind : (n : ℕ) (y : A) → nth n xs ≡ Some y → P y
    behind zero y e = absurd (none_there (nth 0 xs) y (nth_zero xs) e)
    behind (suc n) y e =
        let less : suc n + 1 - 1 ≡ suc n = omega arith in
        h (suc n + 1) y (nth_behind (suc n + 1) x xs (omega arith) ∙ ap (λ k. nth k xs) less ∙ e)

pub run_steady : (hosts : Hosts) (w : World) → IsOfRun hosts w → AreSteady w
run_steady hosts w h = all_from_nth IsSteadyNode w.nodes (λ n x found. by_book n x found x.book refl)
  where
    by_book : (n : ℕ) (x : Node) → nth n w.nodes ≡ Some x → (o : Option Book) → x.book ≡ o → IfThere IsSteady o
    by_book n x found None up = tt
    by_book n x found (Some b) up = steady_books hosts w (run_is hosts w h) n x b found up
