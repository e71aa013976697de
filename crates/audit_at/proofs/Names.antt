-- An address, read slash by slash.
use Rattle.std.proofs.Common.{ℕ, List, [], ◌∷◌, ◌++◌, ◌≡◌, ◌<◌, ◌∙◌, length, arith, Bool, true, false, Option, Some, None, sym, ap, subst, refl, nat_eq, cond}
use Rattle.std.proofs.lemmas.Bool.{eqb-true}
use Rattle.std.specs.Prelude.{is_some, option_map}
use Rattle.std.proofs.lemmas.List.{append_assoc, append-nil}
use Rattle.endpoints.specs.Addresses.{or_else, slash, split_at}
use Rattle.audit_at.specs.declared.item.Item.{Item}
use Rattle.audit_at.specs.Superiors.{named_at, named_from}

-- what is tried at the first slash, and behind it
abbrev tried : List ℕ → List ℕ → List ℕ × List ℕ → Option Item
tried address base p = or_else (named_at address (base ++ p.0)) (named_from address ((base ++ p.0) ++ slash ∷ []) p.1)

tried_by : (address base bytes : List ℕ) (b : ℕ) (t : Bool) (o : Option (List ℕ × List ℕ)) (p : List ℕ × List ℕ) → nat_eq b slash ≡ t
    → ((q : List ℕ × List ℕ) → o ≡ Some q → named_from address (base ++ b ∷ []) bytes ≡ tried address (base ++ b ∷ []) q)
    → cond t (Some ([], bytes)) (option_map (λ q. (b ∷ q.0, q.1)) o) ≡ Some p
    → or_else (cond t (named_at address base) None) (named_from address (base ++ b ∷ []) bytes) ≡ tried address base p
tried_by address base bytes b true o p e h f =
    let q : List ℕ × List ℕ = ([], bytes) in
    let same : q ≡ p = cc in
    subst (λ (r : List ℕ × List ℕ). or_else (named_at address base) (named_from address (base ++ b ∷ []) bytes) ≡ tried address base r) same
    (λ i. or_else (named_at address (sym (append-nil base) i)) (named_from address (sym (append-nil base) i ++ eqb-true b slash e i ∷ []) bytes))
tried_by address base bytes b false None p e h f = absurd cc
tried_by address base bytes b false (Some q) p e h f =
    let r : List ℕ × List ℕ = (b ∷ q.0, q.1) in
    let same : r ≡ p = cc in
    subst (λ (s : List ℕ × List ℕ). named_from address (base ++ b ∷ []) bytes ≡ tried address base s) same
    (h q refl ∙ ap (λ front. or_else (named_at address front) (named_from address (front ++ slash ∷ []) q.1)) (append_assoc base (b ∷ []) q.0))

passed : (address base bytes : List ℕ) (p : List ℕ × List ℕ) → split_at slash bytes ≡ Some p → named_from address base bytes ≡ tried address base p
passed address base [] p e = absurd cc
passed address base (b ∷ bytes) p e =
    tried_by address base bytes b (nat_eq b slash) (split_at slash bytes) p refl (passed address (base ++ b ∷ []) bytes) e

first_tried : (address base bytes one front behind : List ℕ) (whole : Option Item) → Some (front, behind) ≡ split_at slash bytes → one ≡ base ++ front
    → named_from address base bytes ≡ whole → or_else (named_at address one) (named_from address (one ++ slash ∷ []) behind) ≡ whole
first_tried address base bytes one front behind whole e f h =
    ap (λ x. or_else (named_at address x) (named_from address (x ++ slash ∷ []) behind)) f ∙ (sym (passed address base bytes (front, behind) (sym e)) ∙ h)

found : (address base bytes one front behind : List ℕ) (item : Item) (whole : Option Item) → Some (front, behind) ≡ split_at slash bytes → one ≡ base ++ front
    → Some item ≡ named_at address one → named_from address base bytes ≡ whole → Some item ≡ whole
found address base bytes one front behind item whole e f g h =
    ap (λ o. or_else o (named_from address (one ++ slash ∷ []) behind)) g ∙ first_tried address base bytes one front behind whole e f h

further : (address base bytes one two front behind : List ℕ) (whole : Option Item) → Some (front, behind) ≡ split_at slash bytes → one ≡ base ++ front
    → None ≡ named_at address one → two ≡ one ++ slash ∷ [] → named_from address base bytes ≡ whole → named_from address two behind ≡ whole
further address base bytes one two front behind whole e f g k h =
    ap (λ x. named_from address x behind) k
    ∙ (ap (λ o. or_else o (named_from address (one ++ slash ∷ []) behind)) g ∙ first_tried address base bytes one front behind whole e f h)

no_slash_by : (address base bytes : List ℕ) (b : ℕ) (t : Bool) (o : Option (List ℕ × List ℕ))
    → (None ≡ o → named_from address (base ++ b ∷ []) bytes ≡ None)
    → ◌≡◌ {A = Option (List ℕ × List ℕ)} None (cond t (Some ([], bytes)) (option_map (λ q. (b ∷ q.0, q.1)) o))
    → or_else (cond t (named_at address base) None) (named_from address (base ++ b ∷ []) bytes) ≡ None
no_slash_by address base bytes b true o h e = absurd cc
no_slash_by address base bytes b false None h e = h refl
no_slash_by address base bytes b false (Some q) h e = absurd cc

no_slash : (address base bytes : List ℕ) → None ≡ split_at slash bytes → named_from address base bytes ≡ None
no_slash address base [] e = refl
no_slash address base (b ∷ bytes) e =
    no_slash_by address base bytes b (nat_eq b slash) (split_at slash bytes) (no_slash address (base ++ b ∷ []) bytes) e

-- the parts at the first slash, one by one
both_parts : (bytes front behind : List ℕ) → is_some (split_at slash bytes) ≡ true → ((parts : List ℕ × List ℕ) → split_at slash bytes ≡ Some parts → front ≡ parts.0)
    → ((parts : List ℕ × List ℕ) → split_at slash bytes ≡ Some parts → behind ≡ parts.1) → Some (front, behind) ≡ split_at slash bytes
both_parts bytes front behind e f g = by_parts (split_at slash bytes) e f g
  where
    by_parts : (o : Option (List ℕ × List ℕ)) → is_some o ≡ true → ((parts : List ℕ × List ℕ) → o ≡ Some parts → front ≡ parts.0) → ((parts : List ℕ × List ℕ) → o ≡ Some parts → behind ≡ parts.1)
        → Some (front, behind) ≡ o
    by_parts None e f g = absurd cc
    by_parts (Some p) e f g = λ i. Some (f p refl i, g p refl i)

pub found_there : (address base bytes one front : List ℕ) (item : Item) (whole : Option Item) → is_some (split_at slash bytes) ≡ true
    → ((parts : List ℕ × List ℕ) → split_at slash bytes ≡ Some parts → front ≡ parts.0) → one ≡ base ++ front
    → Some item ≡ named_at address one → named_from address base bytes ≡ whole → Some item ≡ whole
found_there address base bytes one front item whole e f g h k = by_parts (split_at slash bytes) refl e
  where
    by_parts : (o : Option (List ℕ × List ℕ)) → split_at slash bytes ≡ o → is_some o ≡ true → Some item ≡ whole
    by_parts None p q = absurd cc
    by_parts (Some parts) p q = found address base bytes one parts.0 parts.1 item whole (sym p) (g ∙ ap (λ x. base ++ x) (f parts p)) h k

pub goes_further : (address base bytes one two front behind : List ℕ) (whole : Option Item) → is_some (split_at slash bytes) ≡ true
    → ((parts : List ℕ × List ℕ) → split_at slash bytes ≡ Some parts → front ≡ parts.0) → ((parts : List ℕ × List ℕ) → split_at slash bytes ≡ Some parts → behind ≡ parts.1) → one ≡ base ++ front
    → None ≡ named_at address one → two ≡ one ++ slash ∷ [] → named_from address base bytes ≡ whole → named_from address two behind ≡ whole
goes_further address base bytes one two front behind whole e f b g h k m = further address base bytes one two front behind whole (both_parts bytes front behind e f b) g h k m

pub all_passed : (address base bytes : List ℕ) (whole : Option Item) → is_some (split_at slash bytes) ≡ false → named_from address base bytes ≡ whole → None ≡ whole
all_passed address base bytes whole e h = by_parts (split_at slash bytes) refl e
  where
    by_parts : (o : Option (List ℕ × List ℕ)) → split_at slash bytes ≡ o → is_some o ≡ false → None ≡ whole
    by_parts None p q = sym (no_slash address base bytes (sym p)) ∙ h
    by_parts (Some parts) p q = absurd cc

shorter_by : (bytes : List ℕ) (b : ℕ) (c : Bool) (o : Option (List ℕ × List ℕ)) (p : List ℕ × List ℕ) → ((q : List ℕ × List ℕ) → o ≡ Some q → length q.1 < length bytes)
    → cond c (Some ([], bytes)) (option_map (λ q. (b ∷ q.0, q.1)) o) ≡ Some p → length p.1 < length (b ∷ bytes)
shorter_by bytes b true o p h e =
    let q : List ℕ × List ℕ = ([], bytes) in
    let same : q ≡ p = cc in
    subst (λ (r : List ℕ × List ℕ). length r.1 < length (b ∷ bytes)) same (omega arith)
shorter_by bytes b false None p h e = absurd cc
shorter_by bytes b false (Some q) p h e =
    let r : List ℕ × List ℕ = (b ∷ q.0, q.1) in
    let same : r ≡ p = cc in
    let less : length q.1 < length bytes = h q refl in
    subst (λ (s : List ℕ × List ℕ). length s.1 < length (b ∷ bytes)) same (omega (arith, less))

shorter_parts : (bytes : List ℕ) (p : List ℕ × List ℕ) → split_at slash bytes ≡ Some p → length p.1 < length bytes
shorter_parts [] p e = absurd cc
shorter_parts (b ∷ bytes) p e = shorter_by bytes b (nat_eq b slash) (split_at slash bytes) p (λ q f. shorter_parts bytes q f) e

pub shorter : (bytes behind : List ℕ) → is_some (split_at slash bytes) ≡ true → ((parts : List ℕ × List ℕ) → split_at slash bytes ≡ Some parts → behind ≡ parts.1) → length behind < length bytes
shorter bytes behind e f = by_parts (split_at slash bytes) refl e
  where
    by_parts : (o : Option (List ℕ × List ℕ)) → split_at slash bytes ≡ o → is_some o ≡ true → length behind < length bytes
    by_parts None p q = absurd cc
    by_parts (Some parts) p q =
        let less : length parts.1 < length bytes = shorter_parts bytes parts p in
        let same : length behind ≡ length parts.1 = ap length (f parts p) in
        omega (arith, less, same)

-- a part, where there are some
pub first_part : (o : Option (List ℕ × List ℕ)) (front behind : List ℕ) (parts : List ℕ × List ℕ) → Some (front, behind) ≡ o → o ≡ Some parts → front ≡ parts.0
first_part o front behind parts e f = let g : Some (front, behind) ≡ Some parts = e ∙ f in let same : (front, behind) ≡ parts = cc in ap (λ p. p.0) same

pub second_part : (o : Option (List ℕ × List ℕ)) (front behind : List ℕ) (parts : List ℕ × List ℕ) → Some (front, behind) ≡ o → o ≡ Some parts → behind ≡ parts.1
second_part o front behind parts e f = let g : Some (front, behind) ≡ Some parts = e ∙ f in let same : (front, behind) ≡ parts = cc in ap (λ p. p.1) same

pub no_part : {A : Type 0} (o : Option (List ℕ × List ℕ)) (parts : List ℕ × List ℕ) → None ≡ o → o ≡ Some parts → A
no_part o parts e f = let g : ◌≡◌ {A = Option (List ℕ × List ℕ)} None (Some parts) = e ∙ f in absurd cc

pub is_parted : {A : Type 0} (f : A → List ℕ × List ℕ) (o : Option A) (p : Option (List ℕ × List ℕ)) → option_map f o ≡ p → is_some o ≡ is_some p
is_parted f None p e = ap is_some e
is_parted f (Some x) p e = ap is_some e
