-- The law that seats are registrations, over every world that is reached.
use Rattle.std.specs.Prelude.{ℕ, List, [], ◌∷◌, ◌++◌, Option, Some, None, Bool, true, false, map, ◌+◌, ◌≡◌, ◌≤◌, ◌⊎◌, refl}
use Rattle.std.specs.List.{AllByRecursion}
use Rattle.std.proofs.Common.{inl, inr, sym, subst, ap, arith, ◌∙◌}
use Rattle.at_base.specs.Numbers.{Numbers}
use Rattle.at_base.specs.declared.event.Event.{Event}
use Rattle.at_base.specs.declared.record.Record.{Record}
use Rattle.at_base.specs.declared.record.Record.TheVariants as records
use Rattle.at_base.specs.declared.record.Seated.{Seated}
use Rattle.at_base.specs.declared.outs.Out.{Out}
use Rattle.at_base.specs.declared.outs.Out.TheVariants as outs
use Rattle.at_model.specs.Book.{Book, Transaction, transaction_id}
use Rattle.at_model.specs.Due.{may_expire}
use Rattle.at_model.specs.Recovery.{last_incarnation, recover}
use Rattle.at_model.specs.Step.{plan, step, transaction_at}
use Rattle.at_model.specs.World.{Accepted, Node, Who, World, accepted_completion, accepted_in, accepted_seat, goes_down, lost_in, nth, opening, put_book, put_nth, run_of, started, up_after, Hosts, HaveOwnAddresses}
use Rattle.model_laws.specs.Agreement.{IsIn}
use Rattle.model_laws.specs.PhaseAnswers.{accepted_as}
use Rattle.model_laws.specs.DrawnIds.{restarted, with_entry}
use Rattle.model_laws.specs.Registrations.{IsEnlisted}
use Rattle.model_laws.specs.Laws.{IsDrawn}
use Rattle.model_laws.specs.ReachedWorlds.{Reached, counts}
use Rattle.model_laws.proofs.EventLaws.{step_gives}
use Rattle.model_laws.proofs.DecisionLaws.{IfThere, all_map, all_more, in_front}
use Rattle.model_laws.proofs.Registrations.{IsKnown, IsUp, WorldGood, nodes_of, world_good}
use Rattle.model_laws.proofs.WorldInvariants.{Law, OutFine, holds}
use Rattle.model_laws.proofs.DrawnIds.{ids_stay_drawn}
use Rattle.model_laws.proofs.Addresses.{HaveBases}
use Rattle.model_laws.proofs.Nodes.{accepted_same, completion_same, each_put, seats_same, who_same}
use Rattle.model_laws.proofs.Order.{ids_rise}
use Rattle.model_laws.proofs.ReachedWorlds.{run_reached}
use Rattle.model_laws.proofs.RecoveryLaws.{incarnations_rise}
use Rattle.model_laws.proofs.NodeLives.{opening_node}
use Rattle.agreement.specs.Registers.{HasDrawn}
use Rattle.agreement.specs.SeatRegistrations.{IsSeated, NamesAccepted, SeatsEach, SeatsAreRegistered, accepted_named}
use Rattle.agreement.proofs.FinishedTransactions.{finishes_all}
use Rattle.agreement.proofs.SeatedBooks.{IsSoundBook, book_sound, finds_each, step_came}
use Rattle.agreement.proofs.SeatedEntries.{IsNew, all_mapped, are_entries, entries, entry, in_either, is_new, of_transaction, one_of}
use Rattle.agreement.proofs.SeatedNames.{IsEntered, IsNamed, IsRecovered, all_named_on, book_recovered, entered_on, journal_named, named_as, restart_named}
use Rattle.agreement.proofs.SeatedSteps.{HasAll, HasOneEach, IsHeld, Steps, step_begun, step_complete, step_entered, step_one_each, with_new}

abbrev IsHeldBook : Hosts → List Accepted → ℕ → Book → Type 0
IsHeldBook hosts all n b = AllByRecursion (IsHeld hosts all n) b.transactions

record IsHeldNode (hosts : Hosts) (all : List Accepted) (n : ℕ) (x : Node) : Type 0 where
  book : IfThere (IsHeldBook hosts all n) x.book
  journal : AllByRecursion (IsNamed hosts all n) x.journal
  drawn : (a : Accepted) → IsIn a all → a.transaction.node ≡ n → HasDrawn x.journal x.book a.transaction.id

record AreHeld (hosts : Hosts) (nodes : List Node) (all : List Accepted) : Type 0 where
  one_each : HasOneEach all
  nodes_held : (n : ℕ) (x : Node) → nth n nodes ≡ Some x → IsHeldNode hosts all n x

-- at another node nothing is accepted
other_node : (hosts : Hosts) (m n : ℕ) (all : List Accepted) (b : Book) (new : List Transaction) (y : Node) → (m ≡ n → ⊥) → IsHeldNode hosts all m y → IsHeldNode hosts (with_new hosts n all b new) m y
other_node hosts m n all b new y other h = record {
  book = book_on y.book h.book;
  journal = all_named_on hosts all now m y.journal (λ a i. in_front a all (accepted_in n (nodes_of hosts) b new) i) h.journal;
  drawn = λ a i e. h.drawn a (old_one a m e (in_either a all (accepted_in n (nodes_of hosts) b new) i) other) e;
}
  where
    now : List Accepted
    now = with_new hosts n all b new

    old_one : (a : Accepted) (k : ℕ) → a.transaction.node ≡ k → IsIn a all ⊎ IsIn a (accepted_in n (nodes_of hosts) b new) → (k ≡ n → ⊥) → IsIn a all
    old_one a k e (inl i) f = i
    old_one a k e (inr i) f =
        let x : IsNew n (nodes_of hosts) b new a = is_new n (nodes_of hosts) b new a i in
        absurd (f (sym e ∙ ap (λ (w : Who). w.node) (of_transaction n (nodes_of hosts) (transaction_at b x.by.id) x.by a x.there)))

    held_on : (t : Transaction) → IsHeld hosts all m t → IsHeld hosts now m t
    held_on t (k, (l, begun)) = (
      entered_on hosts all now m t.id (map accepted_as t.seats) (λ a i. in_front a all (accepted_in n (nodes_of hosts) b new) i) k,
      (
        λ undecided a s i f g. l undecided a s (old_one a m (ap (λ (w : Who). w.node) f) (in_either a all (accepted_in n (nodes_of hosts) b new) i) other) f g,
        all_more (λ a. IsIn a all) (λ a. IsIn a now) (accepted_completion m (nodes_of hosts) t.id None t.completion)
            (λ a i. in_front a all (accepted_in n (nodes_of hosts) b new) i) begun,
      ),
    )

    book_on : (o : Option Book) → IfThere (IsHeldBook hosts all m) o → IfThere (IsHeldBook hosts now m) o
    book_on None k = tt
    book_on (Some c) k = all_more (IsHeld hosts all m) (IsHeld hosts now m) c.transactions held_on k

-- the node of a step
same_found : {A : Type 0} (o : Option A) (x y : A) → o ≡ Some x → o ≡ Some y → x ≡ y
same_found o x y e f = cc

record Premises (hosts : Hosts) (u : World) (n : ℕ) (x : Node) (b : Book) (e : Event) (now : ℕ) (landed : Bool) : Type 0 where
  sound : IsSoundBook x.journal b
  steps : Steps hosts n u.accepted b (step b e now landed).book.transactions
  bases : HaveBases u.nodes (nodes_of hosts)

premises : (hosts : Hosts) (u : World) (n : ℕ) (x : Node) (b : Book) (e : Event) (now : ℕ) (landed : Bool) → HaveOwnAddresses hosts → Reached hosts u → nth n u.nodes ≡ Some x → x.book ≡ Some b
    → AreHeld hosts u.nodes u.accepted → Premises hosts u n x b e now landed
premises hosts u n x b e now landed distinct reached found up h = record {
  sound = sound;
  steps = record {
    order = sound.order;
    same = λ s t i j f. same_found (transaction_at after s.id) s t (one_of Found after.transactions s each i) (ap (transaction_at after) f ∙ one_of Found after.transactions t each j);
    came = step_came b e now landed sound.phases sound.finished sound.order;
    grown = (step_gives (hosts.base_of n) (good.choices n) b e now landed known.says).grown;
    finished = finishes_all.book b e now landed sound.phases sound.finished;
    held = subst (IfThere (IsHeldBook hosts u.accepted n)) up (h.nodes_held n x found).book;
    drawn = λ a i f. subst (λ o. HasDrawn x.journal o a.transaction.id) up ((h.nodes_held n x found).drawn a i f);
  };
  bases = good.world.bases;
}
  where
    sound : IsSoundBook x.journal b
    sound = book_sound hosts u reached n x b found up

    after : Book
    after = (step b e now landed).book

    Found : Transaction → Type 0
    Found t = transaction_at after t.id ≡ Some t

    each : AllByRecursion Found after.transactions
    each = finds_each transaction_id after.transactions (ids_rise.stays b e now landed sound.order).rising.transactions

    good : WorldGood hosts u
    good = world_good hosts u distinct reached

    known : IsUp (hosts.base_of n) (good.choices n) x.journal b
    known = subst (IsKnown (hosts.base_of n) (good.choices n) x.journal) up (good.nodes n x found)

this_node : (hosts : Hosts) (u : World) (n : ℕ) (x : Node) (b : Book) (e : Event) (now : ℕ) (landed : Bool) → Premises hosts u n x b e now landed → IsHeldNode hosts u.accepted n x
    → IsHeldNode hosts (with_new hosts n u.accepted b (step b e now landed).book.transactions) n
    (record x { book = Some (step b e now landed).book; journal = with_entry (plan b e now).entry landed x.journal })
this_node hosts u n x b e now landed p h = record {
  book = all_held new (λ t i. (step_entered hosts n u.accepted b new t p.steps i, (step_complete hosts n u.accepted b new t p.steps i, step_begun hosts n u.accepted b new t p.steps i)));
  journal = journal_named hosts all n b e now landed x.journal p.sound.phases
      (all_more (IsHeld hosts u.accepted n) (IsEntered hosts all n) b.transactions
      (λ t k. entered_on hosts u.accepted all n t.id (map accepted_as t.seats) (λ a i. in_front a u.accepted more i) k.0) p.steps.held)
      (all_named_on hosts u.accepted all n x.journal (λ a i. in_front a u.accepted more i) h.journal);
  drawn = λ a i f. drawn_one a (in_either a u.accepted more i) f;
}
  where
    new : List Transaction
    new = (step b e now landed).book.transactions

    more : List Accepted
    more = accepted_in n (nodes_of hosts) b new

    all : List Accepted
    all = with_new hosts n u.accepted b new

    all_held : (ts : List Transaction) → ((t : Transaction) → IsIn t ts → IsHeld hosts all n t) → AllByRecursion (IsHeld hosts all n) ts
    all_held [] f = tt
    all_held (t ∷ ts) f = (f t (inl refl), all_held ts (λ s i. f s (inr i)))

    drawn_one : (a : Accepted) → IsIn a u.accepted ⊎ IsIn a more → a.transaction.node ≡ n → IsDrawn (step b e now landed).book a.transaction.id
    drawn_one a (inl i) f = ids_stay_drawn.stays b e now landed a.transaction.id (p.steps.drawn a i f)
    drawn_one a (inr i) f =
        let y : IsNew n (nodes_of hosts) b new a = is_new n (nodes_of hosts) b new a i in
        subst (IsDrawn (step b e now landed).book) (sym (ap (λ (w : Who). w.id) (of_transaction n (nodes_of hosts) (transaction_at b y.by.id) y.by a y.there)))
        (one_of (λ (t : Transaction). IsDrawn (step b e now landed).book t.id) new y.by (ids_rise.stays b e now landed p.sound.order).drawn.transactions y.among)

steps_held : (hosts : Hosts) (u : World) (n : ℕ) (x : Node) (b : Book) (e : Event) (now : ℕ) (landed : Bool) → nth n u.nodes ≡ Some x → Premises hosts u n x b e now landed
    → AreHeld hosts u.nodes u.accepted → AreHeld hosts (counts u n x b e now landed).nodes (counts u n x b e now landed).accepted
steps_held hosts u n x b e now landed found p h =
    subst (λ more. AreHeld hosts (counts u n x b e now landed).nodes (u.accepted ++ more)) (sym (accepted_same n u.nodes (nodes_of hosts) b new p.bases))
    (record {
      one_each = step_one_each hosts n u.accepted b new p.steps h.one_each;
      nodes_held = each_put (λ k z. IsHeldNode hosts (with_new hosts n u.accepted b new) k z) u.nodes n x y found (this_node hosts u n x b e now landed p (h.nodes_held n x found))
          (λ k z i r. other_node hosts k n u.accepted b new z i (h.nodes_held k z r));
    })
  where
    new : List Transaction
    new = (step b e now landed).book.transactions

    y : Node
    y = record x { book = Some (step b e now landed).book; journal = with_entry (plan b e now).entry landed x.journal }

-- a node changes, and nothing is accepted
put_held : (hosts : Hosts) (n : ℕ) (nodes : List Node) (all : List Accepted) (x y : Node) → nth n nodes ≡ Some x → AreHeld hosts nodes all → IsHeldNode hosts all n y → AreHeld hosts (put_nth n y nodes) all
put_held hosts n nodes all x y found h k = record {
  one_each = h.one_each;
  nodes_held = each_put (λ m z. IsHeldNode hosts all m z) nodes n x y found k (λ m z i r. h.nodes_held m z r);
}

falls_held : (hosts : Hosts) (u : World) (n : ℕ) (x : Node) (b : Book) → Reached hosts u → nth n u.nodes ≡ Some x → x.book ≡ Some b → AreHeld hosts u.nodes u.accepted
    → AreHeld hosts (goes_down n b u).nodes (goes_down n b u).accepted
falls_held hosts u n x b reached found up h =
    subst (λ (w : World). AreHeld hosts w.nodes w.accepted) (sym (ap (put_book n None (record u { happened = u.happened ++ lost_in n b })) found))
    (put_held hosts n u.nodes u.accepted x (record x { book = None }) found h
    (record { book = tt; journal = (h.nodes_held n x found).journal; drawn = λ a i f. down a.transaction.id (subst (λ o. HasDrawn x.journal o a.transaction.id) up ((h.nodes_held n x found).drawn a i f)) }))
  where
    sound : IsSoundBook x.journal b
    sound = book_sound hosts u reached n x b found up

    down : (id : Numbers) → IsDrawn b id → id.incarnation ≤ last_incarnation x.journal
    down id (inl i) = omega (arith, i, sound.known)
    down id (inr (e, i)) = omega (arith, e, sound.known)

rises_held : (hosts : Hosts) (u : World) (n : ℕ) (x : Node) (stop : Bool) → nth n u.nodes ≡ Some x → x.book ≡ None → AreHeld hosts u.nodes u.accepted
    → AreHeld hosts (put_nth n (up_after (started (last_incarnation x.journal + 1) x) stop) u.nodes) u.accepted
rises_held hosts u n x stop found down h =
    put_held hosts n u.nodes u.accepted x (up_after (started (last_incarnation x.journal + 1) x) stop) found h
    (record { book = by_stop stop; journal = restart_named hosts u.accepted n x.journal (h.nodes_held n x found).journal; drawn = λ a i f. drawn_after stop a.transaction.id (was a i f) })
  where
    was : (a : Accepted) → IsIn a u.accepted → a.transaction.node ≡ n → a.transaction.id.incarnation ≤ last_incarnation x.journal
    was a i f = subst (λ o. HasDrawn x.journal o a.transaction.id) down ((h.nodes_held n x found).drawn a i f)

    both : (b : Bool) → b ≡ true → b ≡ false → ⊥
    both b e f = cc

    decided : (t : Transaction) → IsRecovered hosts u.accepted n t → IsHeld hosts u.accepted n t
    decided t (k, (closed, none)) = (
      k,
      (
        λ undecided. absurd (both (may_expire t.phase) undecided closed),
        subst (λ c. AllByRecursion (λ a. IsIn a u.accepted) (accepted_completion n (nodes_of hosts) t.id None c)) (sym none) tt,
      ),
    )

    by_stop : (s : Bool) → IfThere (IsHeldBook hosts u.accepted n) (up_after (started (last_incarnation x.journal + 1) x) s).book
    by_stop true = tt
    by_stop false =
        all_more (IsRecovered hosts u.accepted n) (IsHeld hosts u.accepted n) (recover x.base (restarted x.journal)).transactions decided
        (book_recovered hosts u.accepted n x.base (restarted x.journal) (restart_named hosts u.accepted n x.journal (h.nodes_held n x found).journal))

    drawn_after : (s : Bool) (id : Numbers) → id.incarnation ≤ last_incarnation x.journal
        → HasDrawn (restarted x.journal) (up_after (started (last_incarnation x.journal + 1) x) s).book id
    drawn_after true id i = omega (arith, i, (incarnations_rise x.journal).0)
    drawn_after false id i = inl (omega (arith, i, (incarnations_rise x.journal).0))

-- the law
held_law : (hosts : Hosts) → HaveOwnAddresses hosts → Law hosts
held_law hosts distinct = record {
  Good = λ w. AreHeld hosts w.nodes w.accepted;
  Fine = λ w g n p. Unit {0};
  opens = record { one_each = λ a c s r i. absurd i; nodes_held = λ n x found. newborn n x found };
  steps = λ u n x b e now landed reached found up heard h.
      (steps_held hosts u n x b e now landed found (premises hosts u n x b e now landed distinct reached found up h) h, nothing_asked (step b e now landed).outs);
  posts = λ w h n p f. h;
  still_fine = λ w g n p q f k. tt;
  falls = λ u n x b reached found up h. falls_held hosts u n x b reached found up h;
  rises = λ u n x stop reached found down little h. rises_held hosts u n x stop found down h;
  waits = λ u n x clock reached found h.
      put_held hosts n u.nodes u.accepted x (record x { clock = clock }) found h
      (record { book = (h.nodes_held n x found).book; journal = (h.nodes_held n x found).journal; drawn = (h.nodes_held n x found).drawn });
}
  where
    nothing_asked : (os : List Out) → AllByRecursion (OutFine (λ p. Unit {0})) os
    nothing_asked [] = tt
    nothing_asked (outs.Post p ∷ os) = (tt, nothing_asked os)
    nothing_asked (outs.Answer status reply ∷ os) = (tt, nothing_asked os)

    newborn : (n : ℕ) (x : Node) → nth n (opening hosts).nodes ≡ Some x → IsHeldNode hosts [] n x
    newborn n x found = subst (IsHeldNode hosts [] n) (sym (opening_node hosts n x found)) (record { book = tt; journal = tt; drawn = λ a i. absurd i })

world_held : (hosts : Hosts) (w : World) → HaveOwnAddresses hosts → Reached hosts w → AreHeld hosts w.nodes w.accepted
unfolding held_law
world_held hosts w distinct reached = holds hosts (held_law hosts distinct) w reached

-- as the nodes of the world say it
as_entries : (hosts : Hosts) (n : ℕ) (w : World) (id : Numbers) (t : Transaction) → HaveBases w.nodes (nodes_of hosts) → map (accepted_seat n w.nodes id) t.seats ≡ entries hosts n id t.seats
as_entries hosts n w id t bases = seats_same n w.nodes (nodes_of hosts) id t.seats bases ∙ are_entries hosts n id t.seats

held_complete : (hosts : Hosts) (n : ℕ) (w : World) (t : Transaction) → HaveBases w.nodes (nodes_of hosts) → HasAll hosts w.accepted n t → SeatsEach w n t
held_complete hosts n w t bases h a s i f g = subst (IsIn a) (sym (as_entries hosts n w t.id t bases)) (h a s i f g)

held_enlisted : (hosts : Hosts) (n : ℕ) (w : World) (t : Transaction) → HaveBases w.nodes (nodes_of hosts) → IsHeld hosts w.accepted n t → IsEnlisted w n t
held_enlisted hosts n w t bases (h, (k, begun)) = (
  all_mapped (λ a. IsIn a w.accepted) (accepted_seat n w.nodes t.id) t.seats
      (subst (AllByRecursion (λ a. IsIn a w.accepted)) (sym (as_entries hosts n w t.id t bases)) (all_map (λ a. IsIn a w.accepted) (entry hosts n t.id) (map accepted_as t.seats) h)),
  subst (AllByRecursion (λ a. IsIn a w.accepted)) (sym (completion_same n w.nodes (nodes_of hosts) t.id None t.completion bases)) begun,
)

held_names : (hosts : Hosts) (n : ℕ) (w : World) (id : Numbers) (seats : List Seated) → HaveBases w.nodes (nodes_of hosts) → AllByRecursion (λ a. IsIn (entry hosts n id a) w.accepted) (map named_as seats)
    → AllByRecursion (λ s. IsIn (accepted_named n w.nodes id s) w.accepted) seats
held_names hosts n w id seats bases h =
    all_more (λ s. IsIn (entry hosts n id (named_as s)) w.accepted) (λ s. IsIn (accepted_named n w.nodes id s) w.accepted) seats
    (λ s i. subst (λ who. IsIn (record { transaction = record { node = n; id = id }; seat = (accepted_named n w.nodes id s).seat; participant = who }) w.accepted)
    (sym (who_same w.nodes (nodes_of hosts) s.endpoint bases)) i) (all_mapped (λ a. IsIn (entry hosts n id a) w.accepted) named_as seats h)

held_record : (hosts : Hosts) (n : ℕ) (w : World) → HaveBases w.nodes (nodes_of hosts) → (r : Record) → IsNamed hosts w.accepted n r → NamesAccepted w n r
held_record hosts n w bases (records.Voted id superior seats) h = held_names hosts n w id seats bases h
held_record hosts n w bases (records.Decided id seats) h = held_names hosts n w id seats bases h
held_record hosts n w bases (records.Start i) h = tt
held_record hosts n w bases (records.LeafPrepared id c key value) h = tt
held_record hosts n w bases (records.LeafCommitted id) h = tt
held_record hosts n w bases (records.LeafAborted id) h = tt
held_record hosts n w bases (records.SubCommitted id) h = tt
held_record hosts n w bases (records.Ended id) h = tt
held_record hosts n w bases (records.Done id) h = tt

pub world_seated : (hosts : Hosts) (w : World) → HaveOwnAddresses hosts → Reached hosts w → IsSeated w
world_seated hosts w distinct reached = record {
  one_each = held.one_each;
  complete = λ n x b t found up i undecided. held_complete hosts n w t bases ((one_of (IsHeld hosts w.accepted n) b.transactions t (book n x b found up) i).1.0 undecided);
  enlisted = λ n x b found up. all_more (IsHeld hosts w.accepted n) (IsEnlisted w n) b.transactions (λ t h. held_enlisted hosts n w t bases h) (book n x b found up);
  named = λ n x found. all_more (IsNamed hosts w.accepted n) (NamesAccepted w n) x.journal (held_record hosts n w bases) (held.nodes_held n x found).journal;
  drawn = λ a x i found. (held.nodes_held a.transaction.node x found).drawn a i refl;
}
  where
    held : AreHeld hosts w.nodes w.accepted
    held = world_held hosts w distinct reached

    bases : HaveBases w.nodes (nodes_of hosts)
    bases = (world_good hosts w distinct reached).world.bases

    book : (n : ℕ) (x : Node) (b : Book) → nth n w.nodes ≡ Some x → x.book ≡ Some b → IsHeldBook hosts w.accepted n b
    book n x b found up = subst (IfThere (IsHeldBook hosts w.accepted n)) up (held.nodes_held n x found).book

pub seats_are_registered : SeatsAreRegistered
seats_are_registered = record { reached = world_seated; runs = λ hosts es small. world_seated hosts (run_of hosts es) small (run_reached hosts es) }
