-- Calls that tried the interim line.
use Rattle.std.specs.Prelude.{ℕ, List, [], ◌∷◌, ◌≡◌, true, false, drop, length, take}
use Rattle.std.specs.List.{AllByRecursion}
use Rattle.std.proofs.Common.{refl, sym, ap, subst, arith, ◌∙◌, inl, inr}
use Rattle.std.proofs.lemmas.List.{take-append-drop}
use Rattle.http_post.specs.Conversations.{interim, said, unsaid}
use Rattle.mirrored_nets.specs.Fates.{AllDone, failures, is_disk, refusals}
use Rattle.mirrored_nets.specs.Took.{IsTriedLine}
use Rattle.mirrored_nets.proofs.CallRows.{AreSendings, all_refused_none, none_refused, refusals_join}
use Rattle.node_at.specs.Turns.{unsaid_in}
use Rattle.node_worlds.specs.Crashes.{IsNoPost}
use Rattle.site_model.specs.Told.{Call, Made, done, failed, sent_by}

-- one or none
tried_so : (P : List Made → Type 0) → P [] → P (said true) → P unsaid → (lines : ℕ) (line : List Made) → IsTriedLine lines line → P line
tried_so P none was left lines line (inl (e, f)) = subst P (sym f) none
tried_so P none was left lines line (inr (e, inl f)) = subst P (sym f) was
tried_so P none was left lines line (inr (e, inr f)) = subst P (sym f) left

pub line_long : (lines : ℕ) (line : List Made) → IsTriedLine lines line → length line ≡ lines
line_long lines line (inl (e, f)) = ap length f ∙ sym e
line_long lines line (inr (e, inl f)) = ap length f ∙ sym e
line_long lines line (inr (e, inr f)) = ap length f ∙ sym e

pub line_sendings : (lines : ℕ) (line : List Made) → IsTriedLine lines line → AreSendings line
line_sendings = tried_so AreSendings tt (refl, tt) (refl, tt)

pub line_no_posts : (lines : ℕ) (line : List Made) → IsTriedLine lines line → AllByRecursion IsNoPost (sent_by line)
line_no_posts = tried_so (λ line. AllByRecursion IsNoPost (sent_by line)) tt (tt, tt) tt

-- what failed of them
pub line_unsaid : (lines : ℕ) (line : List Made) → IsTriedLine lines line → unsaid_in line ≡ failures line
line_unsaid = tried_so (λ line. unsaid_in line ≡ failures line) refl refl refl

-- A call of the disk isn't one of them.
pub disk_untried : (m : Made) (ms : List Made) (lines : ℕ) → is_disk m.call ≡ true → lines ≡ 1 → IsTriedLine lines (take lines (m ∷ ms)) → ⊥
disk_untried m ms lines disk one tried = by (subst (λ k. IsTriedLine k (take k (m ∷ ms))) one tried)
  where
    other : (n : Made) → n.call ≡ Call.Send interim → m ∷ [] ≡ n ∷ [] → ⊥
    other n line e = let same : m ≡ n = cc in let f : true ≡ false = sym disk ∙ ap (λ (x : Made). is_disk x.call) same ∙ ap is_disk line in cc

    by : IsTriedLine 1 (m ∷ []) → ⊥
    by (inl (e, f)) = cc
    by (inr (e, inl f)) = other (done (Call.Send interim)) refl f
    by (inr (e, inr f)) = other (failed (Call.Send interim)) refl f

-- Where all calls behind them were done, none of the disk failed.
pub none_behind_failed : (lines : ℕ) (made : List Made) → IsTriedLine lines (take lines made) → AllDone (drop lines made) → refusals made ≡ 0
none_behind_failed lines made tried all =
    let whole = ap refusals (take-append-drop lines made) in
    let parts = refusals_join (take lines made) (drop lines made) in
    let line = none_refused (take lines made) (line_sendings lines (take lines made) tried) in
    let rest = all_refused_none (drop lines made) all in
    omega (arith, whole, parts, line, rest)
