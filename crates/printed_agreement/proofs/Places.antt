-- Where the endpoints of nodes of the examples lead, and what is shown of them.
use Rattle.std.proofs.Common.{ℕ, List, [], ◌∷◌, ◌++◌, ◌≡◌, ◌==◌, ◌<◌, ◌≤◌, ◌+◌, ◌^◌, drop, Option, Some, None, sym, ap, subst, ◌∙◌, arith, refl}
use Rattle.std.specs.Prelude.{codes, decimal, option_and_then, option_map}
use Rattle.std.specs.List.{list_any}
use Rattle.std.proofs.lemmas.List.{append_assoc}
use Rattle.at_base.specs.IdText.{IsId, id_text}
use Rattle.at_base.specs.Names.{kind_letter}
use Rattle.at_base.specs.Numbers.{Numbers}
use Rattle.at_base.specs.declared.epr.Epr.{Epr}
use Rattle.at_base.specs.declared.notice.Kind.{Kind}
use Rattle.at_base.specs.declared.notice.Kind.TheVariants as kinds
use Rattle.at_base.specs.declared.target.Seat.{Seat}
use Rattle.at_base.specs.declared.target.Target.{Target}
use Rattle.at_base.specs.declared.target.Target.TheVariants as targets
use Rattle.at_model.specs.Views.{behind_slash, path_in}
use Rattle.at_model.specs.World.{example_base, new_nodes, place_of, receiver_of}
use Rattle.endpoints.specs.Addresses.{IsWritten, after_prefix, endpoint_of, path_of, slash, target_at, target_of}
use Rattle.endpoints.proofs.Inverses.{behind_prefix, target_back}
use Rattle.model_laws.proofs.Addresses.{place_is}
use Rattle.printed_agreement.specs.PlainPosts.{IsOfNode}
use Rattle.printed_agreement.specs.RegisterAnswers.{IsSeatOf}
use Rattle.printed_agreement.proofs.Texts.{Lacks, apart, below_digits, both_false, decimal_lacks, id_alone, id_lacks, number_alone, parted}

-- the bases of examples are told apart
pub same_base : (m n : ℕ) (a b : List ℕ) → m < 2 ^ 64 → example_base n ++ b ≡ example_base m ++ a → (n ≡ m) × (b ≡ a)
same_base m n a b small e =
    let cut : decimal n ++ (codes ".example" ++ b) ≡ decimal m ++ (codes ".example" ++ a) =
    sym (append_assoc (decimal n) (codes ".example") b) ∙ ap (drop 8) e ∙ append_assoc (decimal m) (codes ".example") a in
    let (first, rest) =
    parted 46 (decimal n) (decimal m) (codes "example" ++ b) (codes "example" ++ a) (decimal_lacks 46 n (below_digits 46 (omega arith))) (decimal_lacks 46 m (below_digits 46 (omega arith))) cut in
    (number_alone m n small first, ap (drop 7) rest)

pub at_node : (m n : ℕ) (T S : Target) → n < 2 ^ 64 → IsWritten T → target_at (example_base m) (endpoint_of (example_base n) T).address ≡ Some S → (m ≡ n) × (S ≡ T)
at_node m n T S small written e = by_prefix (after_prefix (example_base m) (example_base n ++ path_of T)) refl e
  where
    one : Some S ≡ Some T → S ≡ T
    one f = cc

    by_prefix : (o : Option (List ℕ)) → after_prefix (example_base m) (example_base n ++ path_of T) ≡ o → option_and_then target_of o ≡ Some S → (m ≡ n) × (S ≡ T)
    by_prefix None f g = absurd cc
    by_prefix (Some rest) f g =
        let (here, path) = same_base n m (path_of T) rest small (sym (behind_prefix (example_base m) (example_base n ++ path_of T) rest f)) in
        (here, one (sym g ∙ ap target_of path ∙ target_back T written))

-- Who receives it is the node that wrote the endpoint.
pub record Received (count m : ℕ) (e : Epr) (T : Target) : Type 0 where
  pub least : 1 ≤ m
  pub most : m ≤ count
  pub leads : place_of 1 (new_nodes example_base count 1) e.address ≡ Some (m, T)

pub received_at : (count m : ℕ) (e : Epr) (h : IsOfNode e) → receiver_of (new_nodes example_base count 1) (Some e) ≡ Some m → Received count m e h.target × (h.number ≡ m)
received_at count m e h r = by_place (place_of 1 (new_nodes example_base count 1) e.address) refl r
  where
    by_place : (o : Option (ℕ × Target)) → place_of 1 (new_nodes example_base count 1) e.address ≡ o → option_map (λ p. p.0) o ≡ Some m → Received count m e h.target × (h.number ≡ m)
    by_place None f g = absurd cc
    by_place (Some p) f g =
        let at = place_is example_base count 1 e.address p f in
        let here : p.0 ≡ m = cc in
        let (number, target) = at_node p.0 h.number h.target p.1 h.small h.written (subst (λ (x : Epr). target_at (example_base p.0) x.address ≡ Some p.1) h.same at.target) in
        (record { least = omega (arith, at.least, here); most = omega (arith, at.most, here); leads = f ∙ (λ i. Some (here i, target i)) }, sym number ∙ here)

-- what is shown of an address is its path

slash_on : (xs ys : List ℕ) → Lacks slash xs → behind_slash (xs ++ ys) ≡ behind_slash ys
slash_on [] ys h = refl
slash_on (x ∷ xs) ys h = let p = both_false (x == slash) (list_any (λ c. c == slash) xs) h in rw p.0 (slash_on xs ys p.1)

slash_here : (T : Target) → behind_slash (path_of T) ≡ path_of T
slash_here targets.Activation = refl
slash_here (targets.Registration id) = refl
slash_here (targets.Completion id) = refl
slash_here (targets.Coordinator id seat) = refl
slash_here (targets.Participant id kind) = refl
slash_here (targets.Initiator id) = refl
slash_here targets.Work = refl

pub path_shown : (e : Epr) (h : IsOfNode e) → path_in (Some e) ≡ path_of h.target
path_shown e h =
    ap (λ x. path_in (Some x)) h.same
    ∙ ap behind_slash (append_assoc (decimal h.number) (codes ".example") (path_of h.target))
    ∙ slash_on (decimal h.number) (codes ".example" ++ path_of h.target) (decimal_lacks slash h.number (below_digits slash (omega arith)))
    ∙ slash_here h.target

-- paths are told apart

pub registration_is : (T : Target) (id : Numbers) → IsWritten T → path_of T ≡ codes "/registration/" ++ id_text id → T ≡ targets.Registration id
registration_is targets.Activation id h e = absurd (apart 1 _ _ e refl)
registration_is (targets.Registration i) id h e = ap targets.Registration (sym (id_alone i id h (sym (ap (drop 14) e))))
registration_is (targets.Completion i) id h e = absurd (apart 1 _ _ e refl)
registration_is (targets.Coordinator i seat) id h e = absurd (apart 1 _ _ e refl)
registration_is (targets.Participant i kind) id h e = absurd (apart 1 _ _ e refl)
registration_is (targets.Initiator i) id h e = absurd (apart 1 _ _ e refl)
registration_is targets.Work id h e = absurd (apart 1 _ _ e refl)

participant_by : (kind : Kind) (i id : Numbers) → IsId i → path_of (targets.Participant i kind) ≡ codes "/p/d/" ++ id_text id → targets.Participant i kind ≡ targets.Participant id kinds.Durable
participant_by kinds.Durable i id h e = ap (λ x. targets.Participant x kinds.Durable) (sym (id_alone i id h (sym (ap (drop 5) e))))
participant_by kinds.Volatile i id h e = absurd (apart 3 _ _ e refl)

pub participant_is : (T : Target) (id : Numbers) → IsWritten T → path_of T ≡ codes "/p/d/" ++ id_text id → T ≡ targets.Participant id kinds.Durable
participant_is targets.Activation id h e = absurd (apart 1 _ _ e refl)
participant_is (targets.Registration i) id h e = absurd (apart 1 _ _ e refl)
participant_is (targets.Completion i) id h e = absurd (apart 1 _ _ e refl)
participant_is (targets.Coordinator i seat) id h e = absurd (apart 1 _ _ e refl)
participant_is (targets.Participant i kind) id h e = participant_by kind i id h e
participant_is (targets.Initiator i) id h e = absurd (apart 1 _ _ e refl)
participant_is targets.Work id h e = absurd (apart 1 _ _ e refl)

seat_by : (one other : Kind) (i id : Numbers) (a b : ℕ) → IsId i
    → codes "/c/" ++ (kind_letter one ++ (codes "/" ++ (id_text i ++ (codes "/" ++ decimal a)))) ≡ codes "/c/" ++ (kind_letter other ++ (codes "/" ++ (id_text id ++ (codes "/" ++ decimal b)))) → i ≡ id
seat_by one other i id a b h e = by_kinds one other e
  where
    there : id_text i ++ (codes "/" ++ decimal a) ≡ id_text id ++ (codes "/" ++ decimal b) → i ≡ id
    there f = sym (id_alone i id h (sym (parted slash (id_text i) (id_text id) (decimal a) (decimal b)
        (id_lacks slash i (below_digits slash (omega arith)) refl) (id_lacks slash id (below_digits slash (omega arith)) refl) f).0))

    by_kinds : (k d : Kind)
        → codes "/c/" ++ (kind_letter k ++ (codes "/" ++ (id_text i ++ (codes "/" ++ decimal a)))) ≡ codes "/c/" ++ (kind_letter d ++ (codes "/" ++ (id_text id ++ (codes "/" ++ decimal b)))) → i ≡ id
    by_kinds kinds.Durable kinds.Durable f = there (ap (drop 5) f)
    by_kinds kinds.Durable kinds.Volatile f = absurd (apart 3 _ _ f refl)
    by_kinds kinds.Volatile kinds.Durable f = absurd (apart 3 _ _ f refl)
    by_kinds kinds.Volatile kinds.Volatile f = there (ap (drop 5) f)

pub seat_is : (T : Target) (i id : Numbers) (s : Seat) → IsSeatOf id T → IsId i → path_of (targets.Coordinator i s) ≡ path_of T → i ≡ id
seat_is targets.Activation i id s h k e = absurd h
seat_is (targets.Registration j) i id s h k e = absurd h
seat_is (targets.Completion j) i id s h k e = absurd (apart 2 _ _ e refl)
seat_is (targets.Coordinator j seat) i id s h k e = seat_by s.kind seat.kind i j s.number seat.number k e ∙ h
seat_is (targets.Participant j kind) i id s h k e = absurd h
seat_is (targets.Initiator j) i id s h k e = absurd h
seat_is targets.Work i id s h k e = absurd h
