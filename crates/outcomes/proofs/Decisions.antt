-- A decision that is recorded, or kept, has been committed.
use Rattle.std.specs.Prelude.{ℕ, List, [], ◌∷◌, Option, Some, None, Bool, true, option_map, ◌≡◌, refl}
use Rattle.std.proofs.Common.{inl, sym, subst, ◌∙◌}
use Rattle.at_base.specs.Numbers.{Numbers}
use Rattle.at_base.specs.declared.epr.Epr.{Epr}
use Rattle.at_base.specs.declared.event.Event.{Event}
use Rattle.at_base.specs.declared.event.Moment.{Moment}
use Rattle.at_base.specs.declared.notice.Kind.{Kind}
use Rattle.at_base.specs.declared.notice.Kind.TheVariants as kinds
use Rattle.at_base.specs.declared.outs.Ending.TheVariants as endings
use Rattle.at_base.specs.declared.outs.Effect.TheVariants as effects
use Rattle.at_base.specs.declared.record.Record.{Record}
use Rattle.at_base.specs.declared.record.Record.TheVariants as records
use Rattle.at_base.specs.declared.record.Seated.{Seated}
use Rattle.at_model.specs.Book.{Book, Enlistment, Leaf, Transaction}
use Rattle.at_model.specs.Moves.{Change}
use Rattle.at_model.specs.Outcomes.{is_kept}
use Rattle.at_model.specs.Seats.{ending, ending_of, prepared}
use Rattle.at_model.specs.Step.{moment_of, plan, step}
use Rattle.at_model.specs.World.{Node, World, happened_at, nth, Hosts, HaveOwnAddresses}
use Rattle.model_laws.specs.Agreement.{IsIn}
use Rattle.model_laws.specs.Growth.{Grows}
use Rattle.model_laws.specs.ReachedWorlds.{Reached, counts}
use Rattle.model_laws.proofs.DecisionLaws.{IfThere, in_front}
use Rattle.agreement.specs.Deeds.{How, StoodFor, happens, recorded, superior_at}
use Rattle.agreement.specs.StepDeeds.{standing}
use Rattle.agreement.specs.LeafDeeds.{LeafDeed, aborts, commits, dropped, for_durable, idles, leaves, prepares, rolls_back}
use Rattle.agreement.proofs.SeatedEntries.{one_of}
use Rattle.enlistments.proofs.Nodes.{NodesLaw, nodes_have}
use Rattle.votes.proofs.StepItems.{effect_there}
use Rattle.outcomes.proofs.KeptOutcomes.{Adds, IsAdded, kept_added}

-- the root of a decision has committed
abbrev pub IsCommittedRoot : World → ℕ → Numbers → Type 0
IsCommittedRoot w n id = IsIn (happened_at n (effects.Root id endings.Committed)) w.happened

abbrev pub IsCarriedOut : World → ℕ → Record → Type 0
IsCarriedOut w n (records.Decided id seats) = IsCommittedRoot w n id
IsCarriedOut w n (records.Done id) = IsCommittedRoot w n id
IsCarriedOut w n other = Unit {0}

committed_on : (u w : World) → Grows u w → (n : ℕ) (id : Numbers) → IsCommittedRoot u n id → IsCommittedRoot w n id
committed_on u w g n id i = subst (IsIn (happened_at n (effects.Root id endings.Committed))) (sym g.happened) (in_front _ u.happened g.effects i)

carried_on : (u w : World) → Grows u w → (n : ℕ) (r : Record) → IsCarriedOut u n r → IsCarriedOut w n r
carried_on u w g n (records.Decided id seats) h = committed_on u w g n id h
carried_on u w g n (records.Done id) h = committed_on u w g n id h
carried_on u w g n (records.Start incarnation) h = tt
carried_on u w g n (records.LeafPrepared id coordinator key value) h = tt
carried_on u w g n (records.LeafCommitted id) h = tt
carried_on u w g n (records.LeafAborted id) h = tt
carried_on u w g n (records.Voted id superior seats) h = tt
carried_on u w g n (records.SubCommitted id) h = tt
carried_on u w g n (records.Ended id) h = tt

-- a root's deeds
pub root_effect : (u : World) (n : ℕ) (x : Node) (b : Book) (e : Event) (now : ℕ) (landed : Bool) (t : Transaction) → t.superior ≡ None → (step b e now landed).effects ≡ ending t endings.Committed ∷ []
    → IsCommittedRoot (counts u n x b e now landed) n t.id
root_effect u n x b e now landed t root is =
    effect_there u n x b e now landed (effects.Root t.id endings.Committed)
    (subst (IsIn (effects.Root t.id endings.Committed)) (sym (is ∙ (λ i. ending_of (root i) t.id endings.Committed ∷ []))) (inl refl))

vote_carried : (w : World) (n : ℕ) (id : Numbers) (named : List Seated) (o : Option Epr) → IfThere (IsCarriedOut w n) (option_map (λ superior. records.Voted id superior named) o)
vote_carried w n id named None = tt
vote_carried w n id named (Some superior) = tt

deed_carried : (u : World) (n : ℕ) (x : Node) (b : Book) (e : Event) (now : ℕ) (landed : Bool) (t : Transaction) (how : How) (at : List Enlistment) → StoodFor how t
    → (step b e now landed).effects ≡ happens how t → IfThere (IsCarriedOut (counts u n x b e now landed) n) (recorded how t at)
deed_carried u n x b e now landed t How.Votes at stood is = vote_carried (counts u n x b e now landed) n t.id (prepared at) (superior_at t.superior)
deed_carried u n x b e now landed t How.Decides at stood is = root_effect u n x b e now landed t stood.1 is
deed_carried u n x b e now landed t How.DecidesAlone at stood is = root_effect u n x b e now landed t stood.1 is
deed_carried u n x b e now landed t How.Commits at stood is = tt
deed_carried u n x b e now landed t How.RollsBack at stood is = tt
deed_carried u n x b e now landed t How.Ends at stood is = tt
deed_carried u n x b e now landed t How.Idles at stood is = tt
deed_carried u n x b e now landed t How.Aborts at stood is = tt
deed_carried u n x b e now landed t How.Leaves at stood is = tt
deed_carried u n x b e now landed t How.Forgets at stood is = tt

durable_carried : (w : World) (n : ℕ) (kind : Kind) (r : Record) → IsCarriedOut w n r → IfThere (IsCarriedOut w n) (for_durable kind r)
durable_carried w n kinds.Durable r h = h
durable_carried w n kinds.Volatile r h = tt

leaf_carried : (w : World) (n : ℕ) (m : Moment) (e : Event) (l : Leaf) (entry : Option Record) (c : Change Leaf) → LeafDeed m e l entry c → IfThere (IsCarriedOut w n) entry
leaf_carried w n m e l entry c (idles left is none on none_happened) = subst (IfThere (IsCarriedOut w n)) (sym none) tt
leaf_carried w n m e l entry c (aborts state why none gone happened) = subst (IfThere (IsCarriedOut w n)) (sym none) tt
leaf_carried w n m e l entry c (prepares to came state vote known is on none_happened posted) =
    subst (IfThere (IsCarriedOut w n)) (sym is) (durable_carried w n l.kind (records.LeafPrepared l.id to l.key l.value) tt)
leaf_carried w n m e l entry c (leaves to came state vote known none gone none_happened posted) = subst (IfThere (IsCarriedOut w n)) (sym none) tt
leaf_carried w n m e l entry c (dropped came kind none gone none_happened posted) = subst (IfThere (IsCarriedOut w n)) (sym none) tt
leaf_carried w n m e l entry c (commits to came state known is gone happened posted) =
    subst (IfThere (IsCarriedOut w n)) (sym is) (durable_carried w n l.kind (records.LeafCommitted l.id) tt)
leaf_carried w n m e l entry c (rolls_back to came state known is gone happened posted) =
    subst (IfThere (IsCarriedOut w n)) (sym is) (durable_carried w n l.kind (records.LeafAborted l.id) tt)

anything : {A : Type 0} (o : Option A) → IfThere (λ (a : A). Unit {0}) o
anything None = tt
anything (Some a) = tt

carrying : (hosts : Hosts) → NodesLaw hosts
carrying hosts = record {
  OfTransaction = λ w n t. Unit {0};
  OfLeaf = λ w n l. Unit {0};
  OfActivity = λ w n a. Unit {0};
  OfRecord = IsCarriedOut;
  transaction_on = λ u w g n t h. tt;
  leaf_on = λ u w g n l h. tt;
  activity_on = λ u w g n a h. tt;
  record_on = carried_on;
  did = λ u n x b e now landed s d h. (
    anything d.change.item,
    subst (IfThere (IsCarriedOut (counts u n x b e now landed) n)) (sym d.deed.records)
        (deed_carried u n x b e now landed d.old d.deed.how d.deed.at d.deed.stood (d.effects_are ∙ d.deed.happened)),
  );
  leaf_does = λ u n x b e now landed s d h. (anything d.change.item, leaf_carried (counts u n x b e now landed) n (moment_of b now) e d.old (standing landed (plan b e now).entry) d.change d.deed);
  activity_does = λ u n x b e now landed s d h. anything d.change.item;
  enrolls = λ u n x b e now landed s d h. tt;
  makes = λ u n x b e now landed s d. tt;
  makes_leaf = λ u n x b e now landed s d. tt;
  makes_activity = λ u n x b e now landed s d. tt;
  starts = λ w n i. tt;
  commits = λ w n id superior seats h. tt;
  voted = λ w n id superior seats committed h. tt;
  decided = λ w n base id seats h. tt;
  prepared = λ w n id coordinator key value h. tt;
}

pub carried_out : (hosts : Hosts) (w : World) → HaveOwnAddresses hosts → Reached hosts w → (n : ℕ) (x : Node) → nth n w.nodes ≡ Some x → (r : Record) → IsIn r x.journal → IsCarriedOut w n r
unfolding carrying
carried_out hosts w distinct reached n x found r i = one_of (IsCarriedOut w n) x.journal r (nodes_have hosts distinct (carrying hosts) w reached n x found).journal i

-- what a root is known to have done, as its initiator asks
added_root : (w : World) (n : ℕ) (id : Numbers) (r : Record) → Adds r id → IsCarriedOut w n r → IsCommittedRoot w n id
added_root w n id (records.Decided i seats) e h = subst (IsCommittedRoot w n) e h
added_root w n id (records.Done i) e h = subst (IsCommittedRoot w n) e h
added_root w n id other e h = absurd e

pub kept_root : (hosts : Hosts) (w : World) → HaveOwnAddresses hosts → Reached hosts w → (n : ℕ) (x : Node) (b : Book) → nth n w.nodes ≡ Some x → x.book ≡ Some b → (id : Numbers) → is_kept id b.outcomes ≡ true
    → IsCommittedRoot w n id
kept_root hosts w distinct reached n x b found up id kept =
    let a : IsAdded x.journal id = kept_added hosts w reached n x b found up id kept in
    added_root w n id a.by a.adds (carried_out hosts w distinct reached n x found a.by a.stands)
