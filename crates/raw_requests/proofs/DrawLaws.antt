-- What was heard on a connection, and said on it, is what its bytes draw.
use Rattle.std.proofs.Common.{ℕ, List, ◌++◌, ◌≡◌, inl, inr, Bool, true, false, refl, sym, ap, subst, ◌∙◌, arith}
use Rattle.std.specs.Prelude.{Option, Some, length, nat_lt, option_map}
use Rattle.at_base.specs.declared.event.Event.{Event}
use Rattle.http_post.specs.Conversations.{Hears as Heard, IsSaid, Waits, said}
use Rattle.site_model.specs.Counts.{Rose}
use Rattle.site_model.specs.Told.{Made, Told}
use Rattle.node_at.specs.Meanings.{Hears, Meaning, Means, open_input}
use Rattle.node_at.specs.Meanings.Meaning.{Refused, Steps}
use Rattle.node_at.specs.Turns.{IsLine, is_heard}
use Rattle.node_at.specs.declared.role.Role.TheVariants.{All}
use Rattle.raw_requests.specs.Draws.{Draws}
use Rattle.raw_requests.specs.Connections.{HasSaid, Listens}
use Rattle.raw_requests.specs.declared.Drawn.TheVariants as drawns

no_rise : Rose 0 0 → ⊥
no_rise h = omega (arith, h)

said_so : (w : Bool) (before now : ℕ) (made : List Made) → before ≡ 0 → now ≡ 0 → IsSaid w before now made → made ≡ said w
said_so w before now made e f (inl is) = is
said_so w before now made e f (inr (unsaid, rose)) = absurd (no_rise (subst (λ n. Rose n 0) e (subst (Rose before) f rose)))

length_said : (w : Bool) → nat_lt 0 (length (said w)) ≡ w
length_said true = refl
length_said false = refl

counted : (w : Bool) (calls : Option (List Made)) (link : ℕ) (made : List Made) → HasSaid w calls link → calls ≡ Some made → (w ≡ nat_lt 0 (length made)) × (link ≡ 0)
counted w calls link made h e = subst (λ c. HasSaid w c link) e h

waited :
    (bytes : List ℕ) (before now : ℕ) (made : List Made) (said_so_far : Bool) → before ≡ 0 → now ≡ 0 → said_so_far ≡ nat_lt 0 (length made)
    → ((w : Bool) × (Waits bytes w × IsSaid w before now made)) → Waits bytes said_so_far
waited bytes before now made heard e f is (w, (waits, speaks)) =
    subst (Waits bytes) (sym (is ∙ ap (λ l. nat_lt 0 (length l)) (said_so w before now made e f speaks) ∙ length_said w)) waits

pub refused_so :
    (bytes : List ℕ) (old new : Told) (status : ℕ) (text : Option (List ℕ)) (waits : Bool) (m : Meaning)
    → Listens bytes old → HasSaid waits new.calls new.counts.link → m ≡ Refused status text → Hears All (open_input old.link) m
    → ((made : List Made) × (Heard made old new × IsLine (open_input old.link) (is_heard m) old new made))
    → Draws bytes (drawns.Refused status waits)
refused_so bytes old new status text waits m listens says is hears (made, (heard, line)) =
    let means : Means All bytes (Refused status text) =
    subst (λ o. Hears All o (Refused status text)) listens.brings (subst (λ x. Hears All (open_input old.link) x) is hears) in
    let calls : new.calls ≡ Some made = heard.calls ∙ ap (option_map (λ l. l ++ made)) listens.calls in
    let known = counted waits new.calls new.counts.link made says calls in (
      (text, means),
      waited bytes old.counts.link new.counts.link made waits listens.link known.1 known.0 (line.exact (ap is_heard is) bytes listens.brings),
    )

pub forged_so :
    (bytes : List ℕ) (old : Told) (e : Event) (m : Meaning) → Listens bytes old → m ≡ Steps e → Hears All (open_input old.link) m
    → Draws bytes drawns.Forged
forged_so bytes old e m listens is hears =
    (e, subst (λ o. Hears All o (Steps e)) listens.brings (subst (λ x. Hears All (open_input old.link) x) is hears))
