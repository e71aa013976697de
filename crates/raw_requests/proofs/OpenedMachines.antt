-- A new machine with one connection.
use Rattle.std.proofs.Common.{ℕ, List, [], ◌∷◌, ◌++◌, ◌≡◌, refl, sym, ap, ◌∙◌}
use Rattle.std.specs.Prelude.{Some, Ok}
use Rattle.site_memory.specs.Devices.{calls_in}
use Rattle.site_memory.specs.Sites.{IsNew, link_of, told_of}
use Rattle.site_memory.specs.declared.machine.MemSite.{MemSite}
use Rattle.site_model.specs.Calls.{Takes}
use Rattle.site_model.specs.declared.site.Taken.TheVariants.{Opened}
use Rattle.node_at.specs.Meanings.{open_input}
use Rattle.raw_requests.specs.Connections.{Listens}

first_or_none : List (List ℕ) → List ℕ
first_or_none [] = []
first_or_none (x ∷ xs) = x

same_first : (x : List ℕ) (xs : List (List ℕ)) (y : List ℕ) (ys : List (List ℕ)) → x ∷ xs ≡ y ∷ ys → x ≡ y
unfolding first_or_none
same_first x xs y ys e = ap first_or_none e

pub listens_so :
    {E : Type 0} (bytes : List ℕ) (fresh joined taken : MemSite) → IsNew fresh
    → link_of joined.line ≡ record (link_of fresh.line) { waiting = (link_of fresh.line).waiting ++ bytes ∷ [] }
    → joined ≡ record fresh { line = joined.line } → Takes {E = E} (Ok Opened) (told_of joined) (told_of taken)
    → Listens bytes (told_of taken)
listens_so bytes fresh joined taken n e others t =
    let opened = t.told (link_of joined.line) refl in
    let waiting : (link_of joined.line).waiting ≡ bytes ∷ [] = ap (λ l. l.waiting) e ∙ ap (λ l. l.waiting ++ bytes ∷ []) n.link in
    record {
      calls = t.still.calls ∙ ap (λ s. Some (calls_in s.device)) others ∙ ap Some n.calls;
      brings =
          ap open_input opened.1
          ∙ ap Some (sym (same_first bytes [] opened.0.open_bytes opened.0.waiting (sym waiting ∙ opened.2)));
      link = ap (λ c. c.link) t.counts.others ∙ ap (λ s. s.tally.link) others ∙ ap (λ c. c.link) n.counts;
    }
