-- An answer to a Register is posted where that Register is delivered, and names a seat of the transaction that it asked.
use Rattle.std.specs.Prelude.{ℕ, List, [], ◌∷◌, ◌++◌, Option, Some, None, Bool, true, false, nat_eq, if◌then◌else◌, option_map, unwrap_or, ◌+◌, ◌-◌, ◌≡◌, refl}
use Rattle.std.specs.List.{AllByRecursion}
use Rattle.std.proofs.Common.{sym, subst, ap, ◌∙◌}
use Rattle.std.proofs.lemmas.List.{append_assoc, append-nil}
use Rattle.at_base.specs.declared.epr.Epr.{Epr}
use Rattle.at_base.specs.declared.event.Arrived.{Arrived}
use Rattle.at_base.specs.declared.event.Event.{Event}
use Rattle.at_base.specs.declared.event.Event.TheVariants as events
use Rattle.at_base.specs.declared.message.Message.TheVariants as messages
use Rattle.at_base.specs.declared.outs.Post.{Post}
use Rattle.at_base.specs.declared.outs.Out.TheVariants as outs
use Rattle.at_base.specs.declared.target.Target.TheVariants as targets
use Rattle.at_model.specs.Book.{Book}
use Rattle.at_model.specs.Recovery.{last_incarnation}
use Rattle.at_model.specs.Seats.{seat_target}
use Rattle.at_model.specs.Step.{plan, step}
use Rattle.at_model.specs.World.{Node, Posted, World, WorldEvent, decoded, goes_down, lost_in, new_nodes, nth, put_book, put_nth, receiver_of, started, up_after, with_post, world_step, Hosts, HaveOwnAddresses}
use Rattle.endpoints.specs.Addresses.{endpoint_of}
use Rattle.model_laws.specs.Agreement.{IsIn}
use Rattle.model_laws.specs.DrawnIds.{with_entry}
use Rattle.model_laws.specs.ReachedWorlds.{Heard, Reached, counts, fell, post_all, rose, stepped, waited}
use Rattle.model_laws.proofs.Addresses.{HaveBases}
use Rattle.model_laws.proofs.NodeLives.{opening_node}
use Rattle.model_laws.proofs.DecisionLaws.{all_join}
use Rattle.model_laws.proofs.EventSteps.{Begins, IsTimed, Lasting, event_lasts, timed_heard}
use Rattle.model_laws.proofs.ReachedWorlds.{in_order}
use Rattle.agreement.specs.StepDeeds.{standing}
use Rattle.enlistments.specs.NoticeOrigins.{Responds, names_completion, names_seat}
use Rattle.enlistments.proofs.Arrivals.{up_known, world_bases}
use Rattle.enlistments.proofs.StepMoves.{book_ready}
use Rattle.enlistments.proofs.StepNotices.{steps_tell}
use Rattle.printed_agreement.specs.RegisterAnswers.{Answers, AsksAt}

none_timed : (e : Event) (a : Arrived) → IsTimed e → e ≡ events.Arrived a → ⊥
none_timed (events.Arrived b) a t e = t
none_timed (events.Local l) a t e = cc
none_timed (events.Due item) a t e = cc
none_timed events.Tick a t e = cc

-- The Register that is answered.
record Asked (base : List ℕ) (e : Event) (c : Epr) : Type 0 where
  arrived : Arrived
  came : e ≡ events.Arrived arrived
  asks : AsksAt base arrived c

asked_by : (base : List ℕ) (b : Book) (e : Event) (now : ℕ) (landed : Bool) (c : Epr) (p : Post) → b.base ≡ base
    → Responds b e now (standing landed (plan b e now).entry) (step b e now landed) c p → Asked base e c
asked_by base b e now landed c p same (names_seat d kind s protocol sits k who is reply) = record {
  arrived = d.arrived;
  came = d.came;
  asks = record { id = d.old.id; target = d.target; seat = seat_target d.old.id s; of = refl; is = is ∙ ap (λ r. endpoint_of r (seat_target d.old.id s)) same };
}
asked_by base b e now landed c p same (names_completion d y protocol there who is reply) = record {
  arrived = d.arrived;
  came = d.came;
  asks = record { id = d.old.id; target = d.target; seat = targets.Completion d.old.id; of = refl; is = is ∙ ap (λ r. endpoint_of r (targets.Completion d.old.id)) same };
}

-- a node has the base of its number
base_at : (xs ys : List Node) (n : ℕ) (x : Node) → HaveBases xs ys → nth n xs ≡ Some x → (y : Node) × (nth n ys ≡ Some y) × (x.base ≡ y.base)
base_at [] ys n x h e = absurd cc
base_at (u ∷ us) [] n x h e = absurd h
base_at (u ∷ us) (v ∷ vs) n x h e = by_number (λ f. base_at us vs (n - 1) x h.1 f) (nat_eq n 1) e
  where
    by_number : (nth (n - 1) us ≡ Some x → (y : Node) × (nth (n - 1) vs ≡ Some y) × (x.base ≡ y.base)) → (b : Bool) → (if b then Some u else nth (n - 1) us) ≡ Some x
        → (y : Node) × ((if b then Some v else nth (n - 1) vs) ≡ Some y) × (x.base ≡ y.base)
    by_number rest true f = (v, refl, sym (ap (λ o. unwrap_or (option_map (λ (z : Node). z.base) o) []) f) ∙ h.0)
    by_number rest false f = rest f

base_is : (hosts : Hosts) (w : World) → HaveOwnAddresses hosts → Reached hosts w → (n : ℕ) (x : Node) → nth n w.nodes ≡ Some x → x.base ≡ hosts.base_of n
base_is hosts w distinct reached n x found =
    let (y, there, same) = base_at w.nodes (new_nodes hosts.base_of hosts.count 1) n x (world_bases hosts w distinct reached) found in
    same ∙ ap (λ (z : Node). z.base) (opening_node hosts n y there)

-- what is posted in answer to one of these
abbrev pub AnswersOneOf : Hosts → List Posted → Posted → Type 0
AnswersOneOf hosts only q = (c : Epr) → q.content.message ≡ messages.RegisterResponse c → (p : Posted) × IsIn p only × Answers hosts p c

module _ (hosts : Hosts) (distinct : HaveOwnAddresses hosts) (start : World) (reached : Reached hosts start) (only : List Posted) (within : (p : Posted) → IsIn p only → IsIn p start.posted) where
  -- the same nodes, to which only these messages were posted
  abbrev pub lone : World
  lone = record start { posted = only }

  -- In the midst of an event: a world that is reached has the same nodes.
  record Midst (v : World) : Type 0 where
    ghost : World
    there : Reached hosts ghost
    nodes : ghost.nodes ≡ v.nodes
    more : List Posted
    posted : v.posted ≡ only ++ more
    all : AllByRecursion (AnswersOneOf hosts only) more

  on_ghost : (v : World) (m : Midst v) (n : ℕ) (x : Node) → nth n v.nodes ≡ Some x → nth n m.ghost.nodes ≡ Some x
  on_ghost v m n x found = ap (nth n) m.nodes ∙ found

  -- posts
  posts_midst : (n : ℕ) (ps : List Post) (v : World) → AllByRecursion (λ p. (r : Option ℕ) → AnswersOneOf hosts only (record { sender = n; receiver = r; content = p })) ps → Midst v → Midst (post_all n ps v)
  posts_midst n [] v h m = m
  posts_midst n (p ∷ ps) v h m = posts_midst n ps (with_post n p v) h.1 (record {
    ghost = m.ghost;
    there = m.there;
    nodes = m.nodes;
    more = m.more ++ record { sender = n; receiver = receiver_of v.nodes p.to; content = p } ∷ [];
    posted = ap (λ qs. qs ++ record { sender = n; receiver = receiver_of v.nodes p.to; content = p } ∷ []) m.posted ∙ append_assoc only m.more (record { sender = n; receiver = receiver_of v.nodes p.to; content = p } ∷ []);
    all = all_join (AnswersOneOf hosts only) m.more (record { sender = n; receiver = receiver_of v.nodes p.to; content = p } ∷ []) m.all (h.0 (receiver_of v.nodes p.to), tt);
  })

  -- a step, whose event was heard of in the world that is reached
  step_midst : (u : World) (n : ℕ) (x : Node) (b : Book) (e : Event) (now : ℕ) (landed : Bool) (ps : List Post) (m : Midst u) → nth n u.nodes ≡ Some x → x.book ≡ Some b
      → Heard m.ghost n x e → ((c : Epr) → Asked (hosts.base_of n) e c → (p : Posted) × IsIn p only × Answers hosts p c)
      → AllByRecursion (λ p. IsIn (outs.Post p) (step b e now landed).outs) ps → Midst (post_all n ps (counts u n x b e now landed))
  step_midst u n x b e now landed ps m found up heard answers those = posts_midst n ps (counts u n x b e now landed) (fine ps those) (record {
    ghost = counts m.ghost n x b e now landed;
    there = stepped m.ghost n x b e now landed [] m.there (on_ghost u m n x found) up heard tt refl;
    nodes = ap (λ xs. put_nth n (record x { book = Some (step b e now landed).book; journal = with_entry (plan b e now).entry landed x.journal }) xs) m.nodes;
    more = m.more;
    posted = m.posted;
    all = m.all;
  })
    where
      fine : (qs : List Post) → AllByRecursion (λ p. IsIn (outs.Post p) (step b e now landed).outs) qs
          → AllByRecursion (λ p. (r : Option ℕ) → AnswersOneOf hosts only (record { sender = n; receiver = r; content = p })) qs
      fine [] h = tt
      fine (q ∷ qs) h = (
        λ r c says. answers c (asked_by (hosts.base_of n) b e now landed c q
            (up_known hosts m.ghost distinct m.there n x b (on_ghost u m n x found) up).says.base_is
            (steps_tell.responds b e now landed (book_ready hosts m.ghost m.there n x b (on_ghost u m n x found) up) q c h.0 says)),
        fine qs h.1,
      )

  -- what comes to a node
  came_midst : (n : ℕ) (x : Node) (b : Book) (e : Event) → nth n start.nodes ≡ Some x → Heard lone n x e → Heard start n x e × ((c : Epr) → Asked (hosts.base_of n) e c → (p : Posted) × IsIn p only × Answers hosts p c)
  came_midst n x b (events.Arrived a) found h =
      let (p, i, received, read) = h in (
        (p, within p i, received, read),
        λ c k. (
          p,
          i,
          record {
            number = n;
            received = received;
            arrived = a;
            read = subst (λ base. decoded base p.content ≡ Some a) (base_is hosts start distinct reached n x found) read;
            asks = subst (λ z. AsksAt (hosts.base_of n) z c) (same a k.arrived k.came) k.asks;
          },
        ),
      )
    where
      same : (y z : Arrived) → events.Arrived y ≡ events.Arrived z → z ≡ y
      same y z f = cc
  came_midst n x b (events.Local l) found h = (tt, λ c k. absurd (other l k.arrived k.came))
    where
      other : (y : _) (z : Arrived) → events.Local y ≡ events.Arrived z → ⊥
      other y z f = cc
  came_midst n x b (events.Due item) found h = (tt, λ c k. absurd (none_timed (events.Due item) k.arrived tt k.came))
  came_midst n x b events.Tick found h = (tt, λ c k. absurd (none_timed events.Tick k.arrived tt k.came))

  first : Midst lone
  first = record { ghost = start; there = reached; nodes = refl; more = []; posted = sym (append-nil only); all = tt }

  midst : Lasting
  midst = record {
    Holds = Midst;
    order = λ w m n x found. in_order hosts m.ghost m.there n x (on_ghost w m n x found);
    timed = λ u n x b e now landed ps m found up timed those.
        step_midst u n x b e now landed ps m found up (timed_heard m.ghost n x e timed) (λ c k. absurd (none_timed e k.arrived timed k.came)) those;
    falls = λ u n x b m found up. record {
      ghost = goes_down n b m.ghost;
      there = fell m.ghost n x b m.there (on_ghost u m n x found) up refl;
      nodes = ap (λ o. (put_book n None (record m.ghost { happened = m.ghost.happened ++ lost_in n b }) o).nodes) (on_ghost u m n x found)
          ∙ (ap (λ xs. put_nth n (record x { book = None }) xs) m.nodes
          ∙ sym (ap (λ o. (put_book n None (record u { happened = u.happened ++ lost_in n b }) o).nodes) found));
      more = m.more;
      posted = ap (λ o. (put_book n None (record u { happened = u.happened ++ lost_in n b }) o).posted) found ∙ m.posted;
      all = m.all;
    };
    waits = λ u n x clock m found. record {
      ghost = record m.ghost { nodes = put_nth n (record x { clock = clock }) m.ghost.nodes };
      there = waited m.ghost n x clock m.there (on_ghost u m n x found) refl;
      nodes = ap (λ xs. put_nth n (record x { clock = clock }) xs) m.nodes;
      more = m.more;
      posted = m.posted;
      all = m.all;
    };
  }

  begins : Begins midst lone
  unfolding midst first
  begins = record {
    rests = first;
    steps = λ n x b e now landed ps found up heard those.
        step_midst lone n x b e now landed ps first found up (came_midst n x b e found heard).0 (came_midst n x b e found heard).1 those;
    rises = λ n x stop found down small. record {
      ghost = record start { nodes = put_nth n (up_after (started (last_incarnation x.journal + 1) x) stop) start.nodes };
      there = rose start n x stop reached found down small refl;
      nodes = refl;
      more = [];
      posted = sym (append-nil only);
      all = tt;
    };
  }

  event_midst : (e : WorldEvent) → Midst (world_step lone e)
  unfolding midst
  event_midst e = event_lasts midst lone e begins

  pub event_answers : (e : WorldEvent) → (more : List Posted) × ((world_step lone e).posted ≡ only ++ more) × AllByRecursion (AnswersOneOf hosts only) more
  event_answers e = let m = event_midst e in (m.more, m.posted, m.all)
