-- What stands in a world stays there, over each step, fall and start, and so over every run.
use Rattle.std.specs.Prelude.{ℕ, List, [], ◌∷◌, ◌++◌, Option, Some, None, Bool, true, false, nat_eq, ◌+◌, map, ◌≡◌, refl}
use Rattle.std.proofs.Common.{inl, inr, sym, subst, ap, ◌∙◌}
use Rattle.std.proofs.lemmas.Bool.{eqb-true, eqb-false}
use Rattle.std.proofs.lemmas.List.{append-nil, append_assoc}
use Rattle.at_base.specs.declared.record.Record.{Record}
use Rattle.at_base.specs.declared.record.Record.TheVariants as records
use Rattle.at_base.specs.declared.event.Event.{Event}
use Rattle.at_base.specs.declared.outs.Ending.{Ending}
use Rattle.at_base.specs.declared.outs.Post.{Post}
use Rattle.at_model.specs.Book.{Book}
use Rattle.at_model.specs.Recovery.{last_incarnation}
use Rattle.at_model.specs.Step.{plan, step}
use Rattle.at_model.specs.World.{Node, Who, Happened, World, WorldEvent, nth, put_nth, opening, with_post, accepted_in, happened_at, put_book, goes_down, lost_in, started, up_after, world_step, run_on, run_of, Hosts}
use Rattle.model_laws.specs.Agreement.{IsIn, HasEnded, Stands}
use Rattle.model_laws.specs.DrawnIds.{with_entry}
use Rattle.model_laws.specs.Growth.{HasGrown, Grows, TakesNothingBack}
use Rattle.model_laws.specs.ReachedWorlds.{post_all, counts, Reached, stepped, fell, rose, waited}
use Rattle.model_laws.proofs.DecisionLaws.{in_front}
use Rattle.model_laws.proofs.ReachedWorlds.{Closed, all_reached, run_reached}
use Rattle.model_laws.proofs.NodeLives.{put_this, put_other}

same_node : (w : World) (n : ℕ) (x : Node) → nth n w.nodes ≡ Some x → HasGrown w n x
same_node w n x found = record { node = x; found = found; base = refl; more = []; journal = sym (append-nil x.journal) }

pub grows_same : (w : World) → Grows w w
grows_same w = record {
  posts = [];
  posted = sym (append-nil w.posted);
  registrations = [];
  accepted = sym (append-nil w.accepted);
  effects = [];
  happened = sym (append-nil w.happened);
  nodes = λ n x found. same_node w n x found;
}

further : {A : Type 0} (xs ys zs more those : List A) → ys ≡ xs ++ more → zs ≡ ys ++ those → zs ≡ xs ++ (more ++ those)
further xs ys zs more those e f = f ∙ ap (λ l. l ++ those) e ∙ append_assoc xs more those

pub grows_then : (u v w : World) → Grows u v → Grows v w → Grows u w
grows_then u v w h k = record {
  posts = h.posts ++ k.posts;
  posted = further u.posted v.posted w.posted h.posts k.posts h.posted k.posted;
  registrations = h.registrations ++ k.registrations;
  accepted = further u.accepted v.accepted w.accepted h.registrations k.registrations h.accepted k.accepted;
  effects = h.effects ++ k.effects;
  happened = further u.happened v.happened w.happened h.effects k.effects h.happened k.happened;
  nodes = λ n x found. both n x (h.nodes n x found);
}
  where
    both : (n : ℕ) (x : Node) → HasGrown v n x → HasGrown w n x
    both n x g =
        let i : HasGrown w n g.node = k.nodes n g.node g.found in
        record {
          node = i.node;
          found = i.found;
          base = i.base ∙ g.base;
          more = g.more ++ i.more;
          journal = further x.journal g.node.journal i.node.journal g.more i.more g.journal i.journal;
        }

-- a node is put
put_grown : (xs : List Node) (w : World) (n : ℕ) (x z : Node) (more : List Record) → nth n xs ≡ Some x → w.nodes ≡ put_nth n z xs → z.base ≡ x.base → z.journal ≡ x.journal ++ more
    → (m : ℕ) (y : Node) → nth m xs ≡ Some y → HasGrown w m y
put_grown xs w n x z more found is base journal m y f = by_number (nat_eq m n) refl
  where
    same : (o : Option Node) → o ≡ Some x → o ≡ Some y → x ≡ y
    same o e g = cc

    by_number : (t : Bool) → nat_eq m n ≡ t → HasGrown w m y
    by_number true t =
        let here : m ≡ n = eqb-true m n t in
        subst (HasGrown w m) (same (nth n xs) found (ap (λ k. nth k xs) (sym here) ∙ f))
        (record { node = z; found = ap (nth m) is ∙ ap (λ k. nth k (put_nth n z xs)) here ∙ put_this xs n x z found; base = base; more = more; journal = journal })
    by_number false t = same_node w m y (ap (nth m) is ∙ put_other xs m n z (eqb-false m n t) ∙ f)

pub grows_posts : (n : ℕ) (ps : List Post) (w : World) → Grows w (post_all n ps w)
grows_posts n [] w = grows_same w
grows_posts n (p ∷ ps) w = grows_then w (with_post n p w) (post_all n ps (with_post n p w)) one (grows_posts n ps (with_post n p w))
  where
    one : Grows w (with_post n p w)
    one = record {
      posts = _;
      posted = refl;
      registrations = [];
      accepted = sym (append-nil w.accepted);
      effects = [];
      happened = sym (append-nil w.happened);
      nodes = λ m x found. same_node (with_post n p w) m x found;
    }

entered : (entry : Option Record) (landed : Bool) (rs : List Record) → (more : List Record) × (with_entry entry landed rs ≡ rs ++ more)
entered None landed rs = ([], sym (append-nil rs))
entered (Some r) true rs = (r ∷ [], refl)
entered (Some r) false rs = ([], sym (append-nil rs))

pub grows_counts : (u : World) (n : ℕ) (x : Node) (b : Book) (e : Event) (now : ℕ) (landed : Bool) → nth n u.nodes ≡ Some x → Grows u (counts u n x b e now landed)
grows_counts u n x b e now landed found =
    let (more, journal) = entered (plan b e now).entry landed x.journal in
    record {
      posts = [];
      posted = sym (append-nil u.posted);
      registrations = accepted_in n u.nodes b (step b e now landed).book.transactions;
      accepted = refl;
      effects = map (happened_at n) (step b e now landed).effects;
      happened = refl;
      nodes = put_grown u.nodes (counts u n x b e now landed) n x
          (record x { book = Some (step b e now landed).book; journal = with_entry (plan b e now).entry landed x.journal }) more found refl refl journal;
    }

pub grows_falls : (u : World) (n : ℕ) (x : Node) (b : Book) → nth n u.nodes ≡ Some x → Grows u (goes_down n b u)
grows_falls u n x b found =
    subst (Grows u) (sym (ap (put_book n None (record u { happened = u.happened ++ lost_in n b })) found)) (record {
      posts = [];
      posted = sym (append-nil u.posted);
      registrations = [];
      accepted = sym (append-nil u.accepted);
      effects = lost_in n b;
      happened = refl;
      nodes = put_grown u.nodes (record u { nodes = put_nth n (record x { book = None }) u.nodes; happened = u.happened ++ lost_in n b }) n x (record x { book = None }) [] found refl refl
          (sym (append-nil x.journal));
    })

put_grows : (u : World) (n : ℕ) (x z : Node) (more : List Record) → nth n u.nodes ≡ Some x → z.base ≡ x.base → z.journal ≡ x.journal ++ more → Grows u (record u { nodes = put_nth n z u.nodes })
put_grows u n x z more found base journal = record {
  posts = [];
  posted = sym (append-nil u.posted);
  registrations = [];
  accepted = sym (append-nil u.accepted);
  effects = [];
  happened = sym (append-nil u.happened);
  nodes = put_grown u.nodes (record u { nodes = put_nth n z u.nodes }) n x z more found refl base journal;
}

pub grows_rises : (u : World) (n : ℕ) (x : Node) (stop : Bool) → nth n u.nodes ≡ Some x
    → Grows u (record u { nodes = put_nth n (up_after (started (last_incarnation x.journal + 1) x) stop) u.nodes })
grows_rises u n x stop found =
    put_grows u n x (up_after (started (last_incarnation x.journal + 1) x) stop) (records.Start (last_incarnation x.journal + 1) ∷ []) found refl refl

pub grows_waits : (u : World) (n : ℕ) (x : Node) (clock : ℕ) → nth n u.nodes ≡ Some x → Grows u (record u { nodes = put_nth n (record x { clock = clock }) u.nodes })
grows_waits u n x clock found = put_grows u n x (record x { clock = clock }) [] found refl (sym (append-nil x.journal))

-- the worlds that a reached one goes on to
record Follows (hosts : Hosts) (start w : World) : Type 0 where
  reached : Reached hosts w
  grows : Grows start w

abbrev following : Hosts → World → Closed
following hosts start = record {
  hosts = hosts;
  Holds = Follows hosts start;
  reached = λ w h. h.reached;
  steps = λ u n x b e now landed ps h found up heard those. record {
    reached = stepped u n x b e now landed ps h.reached found up heard those refl;
    grows = grows_then start u (post_all n ps (counts u n x b e now landed)) h.grows
        (grows_then u (counts u n x b e now landed) (post_all n ps (counts u n x b e now landed)) (grows_counts u n x b e now landed found)
        (grows_posts n ps (counts u n x b e now landed)));
  };
  falls = λ u n x b h found up. record {
    reached = fell u n x b h.reached found up refl;
    grows = grows_then start u (goes_down n b u) h.grows (grows_falls u n x b found);
  };
  rises = λ u n x stop h found down small. record {
    reached = rose u n x stop h.reached found down small refl;
    grows = grows_then start u (record u { nodes = put_nth n (up_after (started (last_incarnation x.journal + 1) x) stop) u.nodes }) h.grows (grows_rises u n x stop found);
  };
  waits = λ u n x clock h found. record {
    reached = waited u n x clock h.reached found refl;
    grows = grows_then start u (record u { nodes = put_nth n (record x { clock = clock }) u.nodes }) h.grows (grows_waits u n x clock found);
  };
}

run_further : (es more : List WorldEvent) (w : World) → run_on w (es ++ more) ≡ run_on (run_on w es) more
run_further [] more w = refl
run_further (e ∷ es) more w = run_further es more (world_step w e)

run_grows : (hosts : Hosts) (es more : List WorldEvent) → Grows (run_of hosts es) (run_of hosts (es ++ more))
run_grows hosts es more =
    let there : Follows hosts (run_of hosts es) (run_on (run_of hosts es) more) =
    all_reached (following hosts (run_of hosts es)) more (run_of hosts es) (record { reached = run_reached hosts es; grows = grows_same (run_of hosts es) }) in
    subst (Grows (run_of hosts es)) (sym (run_further es more (opening hosts))) there.grows

-- what stands for good
in_longer : {A : Type 0} (x : A) (xs ys more : List A) → ys ≡ xs ++ more → IsIn x xs → IsIn x ys
in_longer x xs ys more e h = subst (IsIn x) (sym e) (in_front x xs more h)

happened_on : (u w : World) → Grows u w → (h : Happened) → IsIn h u.happened → IsIn h w.happened
happened_on u w g h i = in_longer h u.happened w.happened g.effects g.happened i

ended_on : (u w : World) → Grows u w → (x : Who) (what : Ending) → HasEnded u x what → HasEnded w x what
ended_on u w g x what (inl h) = inl (happened_on u w g _ h)
ended_on u w g x what (inr (inl h)) = inr (inl (happened_on u w g _ h))
ended_on u w g x what (inr (inr h)) = inr (inr (happened_on u w g _ h))

stands_on : (u w : World) → Grows u w → (n : ℕ) (r : Record) → Stands u n r → Stands w n r
stands_on u w g n r (x, found, h) =
    let k : HasGrown w n x = g.nodes n x found in
    (k.node, k.found, in_longer r x.journal k.node.journal k.more k.journal h)

pub takes_nothing_back : TakesNothingBack
takes_nothing_back = record {
  grows = run_grows;
  ended = ended_on;
  accepted = λ u w g t seat x h. in_longer _ u.accepted w.accepted g.registrations g.accepted h;
  posted = λ u w g x kind n h. (h.0, in_longer h.0 u.posted w.posted g.posts g.posted h.1, h.2, h.3, h.4);
  stands = stands_on;
}
