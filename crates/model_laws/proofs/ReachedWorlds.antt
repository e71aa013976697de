-- Every run leads to a world that is reached step by step.
use Rattle.std.specs.Prelude.{ℕ, List, [], ◌∷◌, ◌++◌, Option, Some, None, Bool, true, false, ◌+◌, ◌≡◌, ◌<◌, refl}
use Rattle.std.specs.List.{AllByRecursion}
use Rattle.std.proofs.Common.{sym, subst, ap, ◌∙◌}
use Rattle.at_base.specs.declared.record.Record.{Record}
use Rattle.at_base.specs.declared.event.Event.{Event}
use Rattle.at_base.specs.declared.outs.Post.{Post}
use Rattle.at_base.specs.declared.outs.Out.TheVariants as outs
use Rattle.at_model.specs.Book.{Book, last_counter}
use Rattle.at_model.specs.Recovery.{recover, last_incarnation}
use Rattle.at_model.specs.Step.{plan, step}
use Rattle.at_model.specs.World.{Node, World, WorldEvent, nth, put_nth, opening, with_post, put_book, goes_down, lost_in, started, up_after, world_step, run_on, Hosts}
use Rattle.model_laws.specs.Agreement.{IsIn}
use Rattle.model_laws.specs.PhaseAnswers.{IsInPhase}
use Rattle.model_laws.specs.DrawnIds.{restarted, with_entry}
use Rattle.model_laws.specs.Order.{IsInOrder}
use Rattle.model_laws.specs.ReachedWorlds.{Heard, post_all, counts, Reached, opened, stepped, fell, rose, waited, RunsAreReached}
use Rattle.model_laws.proofs.DecisionLaws.{IfThere}
use Rattle.model_laws.proofs.EventSteps.{Begins, Lasting, event_lasts, timed_heard}
use Rattle.model_laws.proofs.Nodes.{each_put}
use Rattle.model_laws.proofs.Order.{ids_rise}
use Rattle.model_laws.proofs.NodeLives.{opening_node}
use Rattle.model_laws.proofs.PhaseAnswers.{decides_behind_every_answer}

posted_nodes : (n : ℕ) (ps : List Post) (w : World) → (post_all n ps w).nodes ≡ w.nodes
posted_nodes n [] w = refl
posted_nodes n (p ∷ ps) w = posted_nodes n ps (with_post n p w)

-- what holds of a node's records and its book, while it is up: an empty journal, a step, a fall, and a start
pub record NodeLaw : Type 1 where
  pub Good : List Record → Option Book → Type 0
  pub opens : Good [] None
  pub steps : (rs : List Record) (b : Book) (e : Event) (now : ℕ) (landed : Bool) → Good rs (Some b) → Good (with_entry (plan b e now).entry landed rs) (Some (step b e now landed).book)
  pub falls : (rs : List Record) (b : Book) → Good rs (Some b) → Good rs None
  pub rises : (base : List ℕ) (rs : List Record) → last_incarnation rs < last_counter → Good rs None → Good (restarted rs) (Some (recover base (restarted rs)))

pub nodes_hold : (l : NodeLaw) (hosts : Hosts) (w : World) → Reached hosts w → (n : ℕ) (x : Node) → nth n w.nodes ≡ Some x → l.Good x.journal x.book
nodes_hold l hosts w (opened is) n x found =
    subst (λ (y : Node). l.Good y.journal y.book) (sym (opening_node hosts n x (ap (λ (v : World). nth n v.nodes) (sym is) ∙ found))) l.opens
nodes_hold l hosts w (stepped u n x b e now landed ps reached found up heard posts is) m y f =
    each_put (λ k z. l.Good z.journal z.book) u.nodes n x
    (record x { book = Some (step b e now landed).book; journal = with_entry (plan b e now).entry landed x.journal }) found
    (l.steps x.journal b e now landed (subst (l.Good x.journal) up (nodes_hold l hosts u reached n x found))) (λ k z i r. nodes_hold l hosts u reached k z r) m y
    (sym (ap (nth m) (ap (λ (v : World). v.nodes) is ∙ posted_nodes n ps (counts u n x b e now landed))) ∙ f)
nodes_hold l hosts w (fell u n x b reached found up is) m y f =
    each_put (λ k z. l.Good z.journal z.book) u.nodes n x (record x { book = None }) found
    (l.falls x.journal b (subst (l.Good x.journal) up (nodes_hold l hosts u reached n x found))) (λ k z i r. nodes_hold l hosts u reached k z r) m y
    (sym (ap (λ (v : World). nth m v.nodes) (is ∙ ap (put_book n None (record u { happened = u.happened ++ lost_in n b })) found)) ∙ f)
nodes_hold l hosts w (rose u n x stop reached found down small is) m y f =
    each_put (λ k z. l.Good z.journal z.book) u.nodes n x (up_after (started (last_incarnation x.journal + 1) x) stop) found
    (by_stop stop (risen x.book refl down (nodes_hold l hosts u reached n x found))) (λ k z i r. nodes_hold l hosts u reached k z r) m y
    (sym (ap (λ (v : World). nth m v.nodes) is) ∙ f)
  where
    risen : (o : Option Book) → x.book ≡ o → o ≡ None → l.Good x.journal o → l.Good (restarted x.journal) (Some (recover x.base (restarted x.journal)))
    risen o e d h = l.rises x.base x.journal small (subst (l.Good x.journal) d h)

    by_stop : (s : Bool) → l.Good (restarted x.journal) (Some (recover x.base (restarted x.journal))) → l.Good (restarted x.journal) (up_after (started (last_incarnation x.journal + 1) x) s).book
    by_stop true h = l.falls (restarted x.journal) (recover x.base (restarted x.journal)) h
    by_stop false h = h
nodes_hold l hosts w (waited u n x clock reached found is) m y f =
    each_put (λ k z. l.Good z.journal z.book) u.nodes n x (record x { clock = clock }) found (nodes_hold l hosts u reached n x found)
    (λ k z i r. nodes_hold l hosts u reached k z r) m y
    (sym (ap (λ (v : World). nth m v.nodes) is) ∙ f)

-- what a start gives and each step keeps holds of each book
book_law : (P : Book → Type 0) → ((base : List ℕ) (rs : List Record) → P (recover base (restarted rs))) → ((b : Book) (e : Event) (now : ℕ) (landed : Bool) → P b → P (step b e now landed).book)
    → NodeLaw
book_law P starts stays = record {
  Good = λ rs o. IfThere P o;
  opens = tt;
  steps = λ rs b e now landed h. stays b e now landed h;
  falls = λ rs b h. tt;
  rises = λ base rs small h. starts base rs;
}

-- the lists of each book are in order
pub in_order : (hosts : Hosts) (w : World) → Reached hosts w → (n : ℕ) (x : Node) → nth n w.nodes ≡ Some x → IfThere IsInOrder x.book
unfolding book_law
in_order hosts w reached n x found = nodes_hold (book_law IsInOrder ids_rise.started ids_rise.stays) hosts w reached n x found

-- each book stands behind the answers of its phases
pub in_phase : (hosts : Hosts) (w : World) → Reached hosts w → (n : ℕ) (x : Node) → nth n w.nodes ≡ Some x → IfThere IsInPhase x.book
unfolding book_law
in_phase hosts w reached n x found =
    nodes_hold (book_law IsInPhase (λ base rs. decides_behind_every_answer.recovered base (restarted rs)) decides_behind_every_answer.book) hosts w reached n x found

-- what holds of reached worlds and is kept by each way in which they go on
pub record Closed : Type 1 where
  pub hosts : Hosts
  pub Holds : World → Type 0
  pub reached : (w : World) → Holds w → Reached hosts w
  pub steps : (u : World) (n : ℕ) (x : Node) (b : Book) (e : Event) (now : ℕ) (landed : Bool) (ps : List Post) → Holds u → nth n u.nodes ≡ Some x → x.book ≡ Some b → Heard u n x e
      → AllByRecursion (λ p. IsIn (outs.Post p) (step b e now landed).outs) ps → Holds (post_all n ps (counts u n x b e now landed))
  pub falls : (u : World) (n : ℕ) (x : Node) (b : Book) → Holds u → nth n u.nodes ≡ Some x → x.book ≡ Some b → Holds (goes_down n b u)
  pub rises : (u : World) (n : ℕ) (x : Node) (stop : Bool) → Holds u → nth n u.nodes ≡ Some x → x.book ≡ None → last_incarnation x.journal < last_counter
      → Holds (record u { nodes = put_nth n (up_after (started (last_incarnation x.journal + 1) x) stop) u.nodes })
  pub waits : (u : World) (n : ℕ) (x : Node) (clock : ℕ) → Holds u → nth n u.nodes ≡ Some x → Holds (record u { nodes = put_nth n (record x { clock = clock }) u.nodes })

-- in the midst of an event they are kept likewise
lasting : Closed → Lasting
lasting c = record {
  Holds = c.Holds;
  order = λ w h n x found. in_order c.hosts w (c.reached w h) n x found;
  timed = λ u n x b e now landed ps h found up timed those. c.steps u n x b e now landed ps h found up (timed_heard u n x e timed) those;
  falls = c.falls;
  waits = c.waits;
}

event_begins : (c : Closed) (w : World) → c.Holds w → Begins (lasting c) w
unfolding lasting
event_begins c w h = record {
  rests = h;
  steps = λ n x b e now landed ps found up heard those. c.steps w n x b e now landed ps h found up heard those;
  rises = λ n x stop found down least. c.rises w n x stop h found down least;
}

step_reached : (c : Closed) (w : World) (e : WorldEvent) → c.Holds w → c.Holds (world_step w e)
unfolding lasting
step_reached c w e h = event_lasts (lasting c) w e (event_begins c w h)

pub all_reached : (c : Closed) (es : List WorldEvent) (w : World) → c.Holds w → c.Holds (run_on w es)
all_reached c [] w h = h
all_reached c (e ∷ es) w h = all_reached c es (world_step w e) (step_reached c w e h)

-- the worlds that are reached themselves
abbrev reached_worlds : Hosts → Closed
reached_worlds hosts = record {
  hosts = hosts;
  Holds = Reached hosts;
  reached = λ w h. h;
  steps = λ u n x b e now landed ps h found up heard those. stepped u n x b e now landed ps h found up heard those refl;
  falls = λ u n x b h found up. fell u n x b h found up refl;
  rises = λ u n x stop h found down small. rose u n x stop h found down small refl;
  waits = λ u n x clock h found. waited u n x clock h found refl;
}

pub run_reached : RunsAreReached
run_reached hosts es = all_reached (reached_worlds hosts) es (opening hosts) (opened refl)
