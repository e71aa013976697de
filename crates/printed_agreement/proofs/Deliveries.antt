-- What an event posts: an answer to a Register only where that Register is delivered.
use Rattle.std.proofs.Common.{ℕ, List, [], ◌∷◌, ◌++◌, ◌≡◌, inl, inr, Bool, Option, Some, None, map, sym, ap, subst, ◌∙◌, refl}
use Rattle.std.specs.List.{AllByRecursion}
use Rattle.std.proofs.lemmas.List.{append_assoc, append-nil}
use Rattle.at_model.specs.World.{Node, Posted, World, WorldEvent, Turn, Ask, Crash, Up, Deliver, Tick, Raw, node_of, nth, put_nth, world_step, Hosts, HaveOwnAddresses}
use Rattle.model_laws.specs.Agreement.{IsIn}
use Rattle.model_laws.specs.ReachedWorlds.{Reached}
use Rattle.world_laws.specs.Moves.{ChangesByMoves, Scene, after, delivery_move, luck_of, moved_by, moved_in, nodes_by, posted_at, seen, with_all, with_nodes, with_taken}
use Rattle.world_laws.specs.declared.step_outs.Taken.{Taken}
use Rattle.printed_agreement.specs.RegisterAnswers.{EventsBring, IsBrought, IsNoDelivery}
use Rattle.printed_agreement.proofs.Entries.{nth_most}
use Rattle.printed_agreement.proofs.Answers.{AnswersOneOf, event_answers, lone}

-- what steps posted, one after another
posts_in : ℕ → List Node → List Taken → List Posted
posts_in n nodes [] = []
posts_in n nodes (t ∷ ts) = map (posted_at n nodes) t.posts ++ posts_in n nodes ts

all_posts : (n : ℕ) (ts : List Taken) (s : Scene) → (with_all n ts s).posted ≡ s.posted ++ posts_in n s.nodes ts
unfolding posts_in
all_posts n [] s = sym (append-nil s.posted)
all_posts n (t ∷ ts) s = all_posts n ts (with_taken n t s) ∙ append_assoc s.posted (map (posted_at n s.nodes) t.posts) (posts_in n s.nodes ts)

given : List Posted → WorldEvent → List Node → Option Node → List Posted
given posted e nodes o = posts_in (node_of e) (nodes_by e posted nodes o) (moved_by e posted o).taken

cancel : (xs ys zs : List Posted) → xs ++ ys ≡ xs ++ zs → ys ≡ zs
cancel [] ys zs e = e
cancel (x ∷ xs) ys zs e = cancel xs ys zs (tail (xs ++ ys) (xs ++ zs) e)
  where
    tail : (us vs : List Posted) → x ∷ us ≡ x ∷ vs → us ≡ vs
    tail us vs f = cc

-- a message alone
abbrev alone : Option Posted → List Posted
alone None = []
alone (Some p) = p ∷ []

alone_first : (o : Option Posted) → nth 1 (alone o) ≡ o
alone_first None = refl
alone_first (Some p) = refl

given_alone : (only posted : List Posted) (n k : ℕ) (fates : List Bool) (until : Option ℕ) (nodes : List Node) (o : Option Node) → nth 1 only ≡ nth k posted
    → given only (Turn n (Deliver 1) fates until) nodes o ≡ given posted (Turn n (Deliver k) fates until) nodes o
unfolding given
given_alone only posted n k fates until nodes None e = refl
given_alone only posted n k fates until nodes (Some x) e =
    ap (λ r. posts_in n (put_nth n (delivery_move n r (luck_of fates until) x x.book).node nodes) (delivery_move n r (luck_of fates until) x x.book).moved.taken) e

-- no other event reads what was posted

given_unread : (posted : List Posted) (e : WorldEvent) (nodes : List Node) (o : Option Node) → IsNoDelivery e → given [] e nodes o ≡ given posted e nodes o
unfolding given
given_unread posted (Turn n (Deliver k) fates until) nodes o h = absurd h
given_unread posted (Turn n (Tick ms) fates until) nodes None h = refl
given_unread posted (Turn n (Tick ms) fates until) nodes (Some x) h = refl
given_unread posted (Turn n Raw fates until) nodes None h = refl
given_unread posted (Turn n Raw fates until) nodes (Some x) h = refl
given_unread posted (Ask n l fates until) nodes None h = refl
given_unread posted (Ask n l fates until) nodes (Some x) h = refl
given_unread posted (Crash n) nodes None h = refl
given_unread posted (Crash n) nodes (Some x) h = refl
given_unread posted (Up n landed stop) nodes None h = refl
given_unread posted (Up n landed stop) nodes (Some x) h = refl

module _ (moves : ChangesByMoves) (hosts : Hosts) (distinct : HaveOwnAddresses hosts) (w : World) (reached : Reached hosts w) where
  step_posts : (v : World) (e : WorldEvent) → (world_step v e).posted ≡ v.posted ++ given v.posted e v.nodes (nth (node_of e) v.nodes)
  unfolding after moved_in given
  step_posts v e = ap (λ (s : Scene). s.posted) (moves.moved v e) ∙ all_posts (node_of e) (moved_in (seen v) e).taken (with_nodes (seen v) e)

  -- in a world to which only these were posted
  lone_posts : (only : List Posted) (within : (p : Posted) → IsIn p only → IsIn p w.posted) (e : WorldEvent)
      → AllByRecursion (AnswersOneOf hosts only) (given only e w.nodes (nth (node_of e) w.nodes))
  lone_posts only within e =
      let (more, posted, all) = event_answers hosts distinct w reached only within e in
      subst (AllByRecursion (AnswersOneOf hosts only))
      (cancel only more (given only e w.nodes (nth (node_of e) w.nodes)) (sym posted ∙ step_posts (lone hosts distinct w reached only within) e)) all

  none_in : (p : Posted) → IsIn p [] → IsIn p w.posted
  none_in p i = absurd i

  nth_in : (k : ℕ) (xs : List Posted) (o : Option Posted) → nth k xs ≡ o → (p : Posted) → IsIn p (alone o) → IsIn p xs × (o ≡ Some p)
  nth_in k xs None e p i = absurd i
  nth_in k xs (Some q) e p (inr i) = absurd i
  nth_in k xs (Some q) e p (inl f) = (subst (λ y. IsIn y xs) (sym f) (nth_most k xs q e).1, ap Some (sym f))

  weakened : (F G : Posted → Type 0) → ((q : Posted) → F q → G q) → (qs : List Posted) → AllByRecursion F qs → AllByRecursion G qs
  weakened F G f [] h = tt
  weakened F G f (q ∷ qs) h = (f q h.0, weakened F G f qs h.1)

  unread_brings : (e : WorldEvent) → IsNoDelivery e → AllByRecursion (IsBrought hosts w e) (given w.posted e w.nodes (nth (node_of e) w.nodes))
  unread_brings e h =
      subst (AllByRecursion (IsBrought hosts w e)) (given_unread w.posted e w.nodes (nth (node_of e) w.nodes) h)
      (weakened (AnswersOneOf hosts []) (IsBrought hosts w e) (λ q a c says. absurd ((a c says).1)) _ (lone_posts [] none_in e))

  event_brings : (e : WorldEvent) → AllByRecursion (IsBrought hosts w e) (given w.posted e w.nodes (nth (node_of e) w.nodes))
  event_brings (Turn n (Deliver k) fates until) =
      subst (AllByRecursion (IsBrought hosts w (Turn n (Deliver k) fates until)))
      (given_alone (alone (nth k w.posted)) w.posted n k fates until w.nodes (nth n w.nodes) (alone_first (nth k w.posted)))
      (weakened (AnswersOneOf hosts (alone (nth k w.posted))) (IsBrought hosts w (Turn n (Deliver k) fates until))
      (λ q a c says. let (p, i, answers) = a c says in (k, refl, p, (nth_in k w.posted (nth k w.posted) refl p i).1, answers)) _
      (lone_posts (alone (nth k w.posted)) (λ p i. (nth_in k w.posted (nth k w.posted) refl p i).0) (Turn n (Deliver 1) fates until)))
  event_brings (Turn n (Tick ms) fates until) = unread_brings (Turn n (Tick ms) fates until) tt
  event_brings (Turn n Raw fates until) = unread_brings (Turn n Raw fates until) tt
  event_brings (Ask n l fates until) = unread_brings (Ask n l fates until) tt
  event_brings (Crash n) = unread_brings (Crash n) tt
  event_brings (Up n landed stop) = unread_brings (Up n landed stop) tt

  -- all that an event posts
  pub event_posts : (e : WorldEvent) → (more : List Posted) × ((world_step w e).posted ≡ w.posted ++ more) × AllByRecursion (IsBrought hosts w e) more
  event_posts e = (given w.posted e w.nodes (nth (node_of e) w.nodes), step_posts w e, event_brings e)

pub events_bring : ChangesByMoves → EventsBring
events_bring moves hosts w e distinct reached = event_posts moves hosts distinct w reached e
