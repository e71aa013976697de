-- What a step sends in a world is what it sends on its way.
use Rattle.std.proofs.Common.{ℕ, List, [], ◌∷◌, ◌++◌, ◌≡◌, Bool, true, false, ap, sym, ◌∙◌, refl}
use Rattle.std.specs.Prelude.{map, if◌then◌else◌}
use Rattle.std.proofs.lemmas.List.{append_assoc, map-append}
use Rattle.at_base.specs.declared.outs.Out.{Out}
use Rattle.at_base.specs.declared.outs.Out.TheVariants as outs
use Rattle.at_base.specs.declared.outs.Outs.{Outs}
use Rattle.at_model.specs.Book.{Book}
use Rattle.at_model.specs.World.{Node, Posted, Accepted, Happened, Traced, Turning, send_all, sent, fate, after_fate}
use Rattle.world_laws.specs.Moves.{posted_at}
use Rattle.world_laws.specs.Walks.{Luck, Sending, is_over, sending, sends, sent_each, sent_one, used, with_fate}

-- a world in which a node sends, with what was posted before
pub record Amid : Type 0 where
  pub nodes : List Node
  pub posted : List Posted
  pub accepted : List Accepted
  pub happened : List Happened
  pub book : Book
  pub trace : List Traced

abbrev pub amid : ℕ → Amid → Sending → Turning
amid n a s = record {
  world = record {
    nodes = a.nodes;
    posted = a.posted ++ map (posted_at n a.nodes) s.taken.posts;
    accepted = a.accepted;
    happened = a.happened;
  };
  book = a.book;
  fates = s.luck.fates;
  until = s.luck.until;
  trace = a.trace;
}

-- behind the stop nothing is sent
over_sends : (os : List Out) (s : Sending) → is_over s.luck ≡ true → sent_each os s ≡ s
over_sends [] s h = refl
over_sends (out ∷ rest) s h =
    ap (λ b. sent_each rest (if b then s else record { luck = used s.luck; taken = with_fate (fate s.luck.fates) out s.taken })) h
    ∙ over_sends rest s h

-- one out, by its fate
one_sent : (n : ℕ) (a : Amid) (f : Bool) (out : Out) (s : Sending)
    → record (after_fate (amid n a s)) { world = sent n f out (amid n a s).world }
    ≡ amid n a (record { luck = used s.luck; taken = with_fate f out s.taken })
one_sent n a false (outs.Post p) s = refl
one_sent n a false (outs.Answer status reply) s = refl
one_sent n a true (outs.Answer status reply) s = refl
one_sent n a true (outs.Post p) s =
    ap (λ ps. record {
      world = record { nodes = a.nodes; posted = ps; accepted = a.accepted; happened = a.happened };
      book = a.book;
      fates = (used s.luck).fates;
      until = (used s.luck).until;
      trace = a.trace;
    })
    (append_assoc a.posted (map (posted_at n a.nodes) s.taken.posts) (posted_at n a.nodes p ∷ [])
    ∙ ap (λ ps. a.posted ++ ps) (sym (map-append (posted_at n a.nodes) s.taken.posts (p ∷ []))))

pub all_sent : (n : ℕ) (a : Amid) (os : List Out) (s : Sending) → send_all n os (amid n a s) ≡ amid n a (sent_each os s)
all_sent n a [] s = refl
all_sent n a (out ∷ rest) s = at (λ t. all_sent n a rest t) (is_over s.luck) refl
  where
    at : ((t : Sending) → send_all n rest (amid n a t) ≡ amid n a (sent_each rest t)) → (b : Bool) → is_over s.luck ≡ b
        → (if b then amid n a s else send_all n rest (record (after_fate (amid n a s)) { world = sent n (fate s.luck.fates) out (amid n a s).world }))
        ≡ amid n a (sent_each rest (if b then s else record { luck = used s.luck; taken = with_fate (fate s.luck.fates) out s.taken }))
    at again true e = ap (amid n a) (sym (over_sends rest s e))
    at again false e =
        ap (send_all n rest) (one_sent n a (fate s.luck.fates) out s)
        ∙ again (record { luck = used s.luck; taken = with_fate (fate s.luck.fates) out s.taken })

-- what is sent changes no effect
one_effects : (out : Out) (s : Sending) → (sent_one out s).taken.effects ≡ s.taken.effects
one_effects out s = at (is_over s.luck)
  where
    by_fate : (f : Bool) (out : Out) → (with_fate f out s.taken).effects ≡ s.taken.effects
    by_fate false (outs.Post p) = refl
    by_fate false (outs.Answer status reply) = refl
    by_fate true (outs.Post p) = refl
    by_fate true (outs.Answer status reply) = refl

    at : (b : Bool) → (if b then s else record { luck = used s.luck; taken = with_fate (fate s.luck.fates) out s.taken }).taken.effects ≡ s.taken.effects
    at true = refl
    at false = by_fate (fate s.luck.fates) out

each_effects : (os : List Out) (s : Sending) → (sent_each os s).taken.effects ≡ s.taken.effects
each_effects [] s = refl
each_effects (out ∷ rest) s = each_effects rest (sent_one out s) ∙ one_effects out s

pub sent_effects : (o : Outs) (l : Luck) → (sends o l).taken.effects ≡ o.effects
unfolding sends
sent_effects o l = each_effects o.outs (sending o l)

pub whole_sent : (n : ℕ) (a : Amid) (o : Outs) (l : Luck) → send_all n o.outs (amid n a (sending o l)) ≡ amid n a (sends o l)
unfolding sends
whole_sent n a o l = all_sent n a o.outs (sending o l)
