-- One step of a node leads its world on.
use Rattle.std.specs.Prelude.{ℕ, List, [], ◌∷◌, ◌++◌, ◌⊎◌, Option, Some, None, Bool, true, false, map, ◌+◌, ◌≡◌, refl}
use Rattle.std.specs.List.{AllByRecursion}
use Rattle.std.proofs.Common.{inl, inr, sym, subst, ap, ◌∙◌}
use Rattle.std.proofs.lemmas.List.{append-nil, append_assoc, map-append}
use Rattle.at_base.specs.declared.event.Event.{Event}
use Rattle.at_base.specs.declared.outs.Effect.{Effect}
use Rattle.at_base.specs.declared.outs.Out.{Out}
use Rattle.at_base.specs.declared.outs.Out.TheVariants as outs
use Rattle.at_base.specs.declared.outs.Post.{Post}
use Rattle.at_base.specs.declared.record.Record.{Record}
use Rattle.at_model.specs.Book.{Book}
use Rattle.at_model.specs.Recovery.{last_incarnation}
use Rattle.at_model.specs.Step.{plan, step}
use Rattle.at_model.specs.World.{Accepted, Node, World, lost_in, new_nodes, nth, put_book, put_nth, started, up_after, with_post, happened_at, Hosts}
use Rattle.model_laws.specs.Agreement.{IsIn}
use Rattle.model_laws.specs.DrawnIds.{with_entry}
use Rattle.model_laws.specs.ReachedWorlds.{Heard, Reached, counts, fell, opened, post_all, rose, stepped, waited}
use Rattle.model_laws.proofs.Addresses.{HaveBases}
use Rattle.model_laws.proofs.Nodes.{accepted_same, bases_put, put_put, put_same, receiver_same, same_bases}
use Rattle.model_laws.proofs.NodeLives.{put_this}
use Rattle.node_at.specs.Doings.{Doing}
use Rattle.node_at.specs.Steps.{if_landed}
use Rattle.node_at.specs.Texts.{AreLeaving, Leaving}
use Rattle.node_at.specs.Texts.AreLeaving.{leaves, none, stays}
use Rattle.node_worlds.specs.Leads.{IsUp, Leads, StepsLead, moved, posted_at}
use Rattle.node_worlds.specs.SentPosts.{AreSome, Sent, accepted_between, also, posts_of, records_by}

-- posts, one behind the other
posts_nodes : (i : ℕ) (ps : List Post) (w : World) → (post_all i ps w).nodes ≡ w.nodes
posts_nodes i [] w = refl
posts_nodes i (p ∷ ps) w = posts_nodes i ps (with_post i p w)

posts_happened : (i : ℕ) (ps : List Post) (w : World) → (post_all i ps w).happened ≡ w.happened
posts_happened i [] w = refl
posts_happened i (p ∷ ps) w = posts_happened i ps (with_post i p w)

posts_accepted : (i : ℕ) (ps : List Post) (w : World) → (post_all i ps w).accepted ≡ w.accepted
posts_accepted i [] w = refl
posts_accepted i (p ∷ ps) w = posts_accepted i ps (with_post i p w)

posts_posted : (i : ℕ) (ps : List Post) (w : World) → (post_all i ps w).posted ≡ w.posted ++ map (posted_at i w.nodes) ps
posts_posted i [] w = sym (append-nil w.posted)
posts_posted i (p ∷ ps) w = posts_posted i ps (with_post i p w) ∙ append_assoc w.posted (posted_at i w.nodes p ∷ []) (map (posted_at i w.nodes) ps)

-- a node that stays under its base receives what it did
pub posted_put : (i : ℕ) (x z : Node) (xs : List Node) (ps : List Post) → nth i xs ≡ Some x → z.base ≡ x.base → map (posted_at i (put_nth i z xs)) ps ≡ map (posted_at i xs) ps
posted_put i x z xs [] f b = refl
posted_put i x z xs (p ∷ ps) f b = λ j. record {
  sender = i;
  receiver = receiver_same (put_nth i z xs) xs p.to (bases_put xs xs i x z f b (same_bases xs)) j;
  content = p;
} ∷ posted_put i x z xs ps f b j

-- in every world that is reached the nodes have their bases
pub reached_bases : (hosts : Hosts) (w : World) → Reached hosts w → HaveBases w.nodes (new_nodes hosts.base_of hosts.count 1)
reached_bases hosts w (opened is) =
    subst (λ (v : World). HaveBases v.nodes (new_nodes hosts.base_of hosts.count 1)) (sym is) (same_bases (new_nodes hosts.base_of hosts.count 1))
reached_bases hosts w (stepped u n x b e now landed ps reached found up heard posts is) =
    subst (λ xs. HaveBases xs (new_nodes hosts.base_of hosts.count 1)) (sym (ap (λ (v : World). v.nodes) is ∙ posts_nodes n ps (counts u n x b e now landed)))
    (bases_put u.nodes (new_nodes hosts.base_of hosts.count 1) n x (record x {
      book = Some (step b e now landed).book;
      journal = with_entry
          (plan b e now).entry landed x.journal;
    }) found refl
    (reached_bases hosts u reached))
reached_bases hosts w (fell u n x b reached found up is) =
    subst (λ xs. HaveBases xs (new_nodes hosts.base_of hosts.count 1))
    (sym (ap (λ (v : World). v.nodes) (is ∙ ap (put_book n None (record u { happened = u.happened ++ lost_in n b })) found)))
    (bases_put u.nodes (new_nodes hosts.base_of hosts.count 1) n x (record x { book = None }) found refl (reached_bases hosts u reached))
reached_bases hosts w (rose u n x stop reached found down small is) =
    subst (λ (v : World). HaveBases v.nodes (new_nodes hosts.base_of hosts.count 1)) (sym is)
    (bases_put u.nodes (new_nodes hosts.base_of hosts.count 1) n x (up_after (started (last_incarnation x.journal + 1) x) stop) found refl (reached_bases hosts u reached))
reached_bases hosts w (waited u n x clock reached found is) =
    subst (λ (v : World). HaveBases v.nodes (new_nodes hosts.base_of hosts.count 1)) (sym is)
    (bases_put u.nodes (new_nodes hosts.base_of hosts.count 1) n x (record x { clock = clock }) found refl (reached_bases hosts u reached))

-- the journal with a step's record
entry_is : (o : Option Record) (landed : Bool) (rs : List Record) → with_entry o landed rs ≡ rs ++ records_by (if_landed landed o)
entry_is None true rs = sym (append-nil rs)
entry_is None false rs = sym (append-nil rs)
entry_is (Some r) true rs = refl
entry_is (Some r) false rs = sym (append-nil rs)

one_leads : (hosts : Hosts) (i : ℕ) (u : World) (x : Node) (b : Book) (e : Event) (now : ℕ) (landed : Bool) (ps : List Post) → IsUp hosts i u x b → Heard u i x e
    → AllByRecursion (λ p. IsIn (outs.Post p) (step b e now landed).outs) ps
    → Leads hosts i u x (step b e now landed).book (records_by (if_landed landed (plan b e now).entry)) ps (step b e now landed).effects
    (accepted_between hosts i b (step b e now landed).book)
one_leads hosts i u x b e now landed ps up heard those = record {
  world = post_all i ps counted;
  reached = stepped u i x b e now landed ps up.reached up.found up.up heard those refl;
  nodes = posts_nodes i ps counted ∙ ap (λ rs. put_nth i (record x { book = Some (step b e now landed).book; journal = rs }) u.nodes) (entry_is (plan b e now).entry landed x.journal);
  posted = posts_posted i ps counted ∙ ap (λ qs. u.posted ++ qs) (posted_put i x node u.nodes ps up.found refl);
  happened = posts_happened i ps counted;
  accepted = posts_accepted i ps counted
      ∙ ap (λ js. u.accepted ++ js) (accepted_same i u.nodes (new_nodes hosts.base_of hosts.count 1) b (step b e now landed).book.transactions (reached_bases hosts u up.reached));
}
  where
    counted : World
    counted = counts u i x b e now landed

    node : Node
    node = record x { book = Some (step b e now landed).book; journal = with_entry (plan b e now).entry landed x.journal }

-- none, and one behind the other
pub leads_none : (hosts : Hosts) (i : ℕ) (u : World) (x : Node) (b : Book) → IsUp hosts i u x b → Leads hosts i u x b [] [] [] []
leads_none hosts i u x b up = record {
  world = u;
  reached = up.reached;
  nodes = sym (put_same i x u.nodes up.found) ∙ (λ j. put_nth i (record x { book = up.up j; journal = sym (append-nil x.journal) j }) u.nodes);
  posted = sym (append-nil u.posted);
  happened = sym (append-nil u.happened);
  accepted = sym (append-nil u.accepted);
}

pub then_up : (hosts : Hosts) (i : ℕ) (u : World) (x : Node) (b c : Book) (rs : List Record) (ps : List Post) (es : List Effect) (js : List Accepted) → IsUp hosts i u x b
    → (l : Leads hosts i u x c rs ps es js) → IsUp hosts i l.world (moved x c rs) c
then_up hosts i u x b c rs ps es js up l = record {
  reached = l.reached;
  found = ap (nth i) l.nodes ∙ put_this u.nodes i x (moved x c rs) up.found;
  up = refl;
}

pub leads_then : (hosts : Hosts) (i : ℕ) (u : World) (x : Node) (b c d : Book) (rs qs : List Record) (ps os : List Post) (es fs : List Effect)
    (js ks : List Accepted) → IsUp hosts i u x b
    → (l : Leads hosts i u x c rs ps es js) → Leads hosts i l.world (moved x c rs) d qs os fs ks → Leads hosts i u x d (rs ++ qs) (ps ++ os) (es ++ fs) (js ++ ks)
leads_then hosts i u x b c d rs qs ps os es fs js ks up l k = record {
  world = k.world;
  reached = k.reached;
  nodes = k.nodes ∙ ap (put_nth i (moved (moved x c rs) d qs)) l.nodes ∙ put_put i (moved x c rs) (moved (moved x c rs) d qs) u.nodes
      ∙ ap (λ ts. put_nth i (record x { book = Some d; journal = ts }) u.nodes) (append_assoc x.journal rs qs);
  posted = k.posted ∙ (λ j. l.posted j ++ sent j) ∙ append_assoc u.posted (map (posted_at i u.nodes) ps) (map (posted_at i u.nodes) os)
      ∙ ap (λ ts. u.posted ++ ts) (sym (map-append (posted_at i u.nodes) ps os));
  happened = k.happened ∙ ap (λ ts. ts ++ map (happened_at i) fs) l.happened ∙ append_assoc u.happened (map (happened_at i) es) (map (happened_at i) fs)
      ∙ ap (λ ts. u.happened ++ ts) (sym (map-append (happened_at i) es fs));
  accepted = k.accepted ∙ ap (λ ts. ts ++ ks) l.accepted ∙ append_assoc u.accepted js ks;
}
  where
    sent : map (posted_at i l.world.nodes) os ≡ map (posted_at i u.nodes) os
    sent = ap (λ xs. map (posted_at i xs) os) l.nodes ∙ posted_put i x (moved x c rs) u.nodes os up.found refl

pub leads_as : (hosts : Hosts) (i : ℕ) (u : World) (x : Node) (b c : Book) (rs qs : List Record) (ps os : List Post) (es fs : List Effect) (js ks : List Accepted)
    → b ≡ c → rs ≡ qs → ps ≡ os
    → es ≡ fs → js ≡ ks → Leads hosts i u x b rs ps es js → Leads hosts i u x c qs os fs ks
leads_as hosts i u x b c rs qs ps os es fs js ks e f g h k l = record {
  world = l.world;
  reached = l.reached;
  nodes = l.nodes ∙ (λ j. put_nth i (moved x (e j) (f j)) u.nodes);
  posted = l.posted ∙ ap (λ ts. u.posted ++ map (posted_at i u.nodes) ts) g;
  happened = l.happened ∙ ap (λ ts. u.happened ++ map (happened_at i) ts) h;
  accepted = l.accepted ∙ ap (λ ts. u.accepted ++ ts) k;
}

-- what was sent is among the outs
in_front : {A : Type 0} (x : A) (xs ys : List A) → IsIn x xs → IsIn x (xs ++ ys)
in_front x [] ys i = absurd i
in_front x (y ∷ xs) ys (inl e) = inl e
in_front x (y ∷ xs) ys (inr i) = inr (in_front x xs ys i)

in_last : {A : Type 0} (x y : A) (xs : List A) → x ≡ y → IsIn x (xs ++ y ∷ [])
in_last x y [] e = inl e
in_last x y (z ∷ xs) e = inr (in_last x y xs e)

in_either : {A : Type 0} (x y : A) (xs : List A) → IsIn x (xs ++ y ∷ []) → IsIn x xs ⊎ (x ≡ y)
in_either x y [] (inl e) = inr e
in_either x y [] (inr i) = absurd i
in_either x y (z ∷ xs) (inl e) = inl (inl e)
in_either x y (z ∷ xs) (inr i) = by_case (in_either x y xs i)
  where
    by_case : IsIn x xs ⊎ (x ≡ y) → IsIn x (z ∷ xs) ⊎ (x ≡ y)
    by_case (inl k) = inl (inr k)
    by_case (inr e) = inr e

out_in : (os : List Out) (xs : List Leaving) → AreLeaving os xs → (y : Leaving) → IsIn y xs → IsIn y.out os
out_in os xs none y i = absurd i
out_in os xs (leaves {os = front} {xs = before} x h call a m) y i = by_case (out_in front before h y) (in_either y x before (subst (IsIn y) m i))
  where
    by_case : (IsIn y before → IsIn y.out front) → IsIn y before ⊎ (y ≡ x) → IsIn y.out os
    by_case again (inl k) = subst (IsIn y.out) (sym a) (in_front y.out front (x.out ∷ []) (again k))
    by_case again (inr e) = subst (IsIn y.out) (sym a) (in_last y.out x.out front (ap (λ (z : Leaving). z.out) e))
out_in os xs (stays {os = front} o h call a) y i = subst (IsIn y.out) (sym a) (in_front y.out front (o ∷ []) (out_in front xs h y i))

some_in : (xs ys : List Leaving) → AreSome xs ys → (z : Leaving) → IsIn z xs → IsIn z ys
some_in [] ys h z i = absurd i
some_in (x ∷ xs) [] h z i = absurd h
some_in (x ∷ xs) (y ∷ ys) (inl (e, h)) z (inl f) = inl (f ∙ e)
some_in (x ∷ xs) (y ∷ ys) (inl (e, h)) z (inr i) = inr (some_in xs ys h z i)
some_in (x ∷ xs) (y ∷ ys) (inr h) z i = inr (some_in (x ∷ xs) ys h z i)

posts_in : (os : List Out) (xs : List Leaving) → ((y : Leaving) → IsIn y xs → IsIn y.out os) → AllByRecursion (λ p. IsIn (outs.Post p) os) (posts_of xs)
posts_in os [] h = tt
posts_in os (x ∷ xs) h = by_out x.out (h x (inl refl)) (posts_in os xs (λ y i. h y (inr i)))
  where
    by_out : (o : Out) → IsIn o os → AllByRecursion (λ p. IsIn (outs.Post p) os) (posts_of xs) → AllByRecursion (λ p. IsIn (outs.Post p) os) (also o (posts_of xs))
    by_out (outs.Post p) i rest = (i, rest)
    by_out (outs.Answer status reply) i rest = rest

pub sent_in : (os : List Out) (xs : List Leaving) (d : Doing) (ps : List Post) → AreLeaving os xs → Sent xs d.made ps → AllByRecursion (λ p. IsIn (outs.Post p) os) ps
sent_in os xs d ps are s =
    subst (AllByRecursion (λ p. IsIn (outs.Post p) os)) (sym s.posts) (posts_in os s.went (λ y i. out_in os xs are y (some_in s.went xs s.some y i)))

-- a step that was done
pub steps_lead : StepsLead
steps_lead hosts i u x b e now s d ps up heard is sent =
    leads_as hosts i u x (step b e now s.landed).book s.behind (records_by (if_landed s.landed (plan b e now).entry)) (records_by (if_landed s.landed s.entry)) ps ps
    (step b e now s.landed).effects s.came (accepted_between hosts i b (step b e now s.landed).book) (accepted_between hosts i b s.behind) (sym is.outcome.behind)
    (ap (λ o. records_by (if_landed s.landed o)) (sym is.entry)) refl (sym is.outcome.came) (ap (accepted_between hosts i b) (sym is.outcome.behind))
    (one_leads hosts i u x b e now s.landed ps up heard (sent_in (step b e now s.landed).outs s.leaving d ps is.outcome.leaving sent))
