-- So it stays, over each step, fall and start: behind its vote Prepared a participant aborts only under a transaction that has aborted.
use Rattle.std.specs.Prelude.{ℕ, List, [], ◌∷◌, Option, Some, None, true, ◌≡◌, refl}
use Rattle.std.proofs.Common.{inl, inr, sym, subst, ap, ◌∙◌}
use Rattle.at_base.specs.Numbers.{Numbers}
use Rattle.at_base.specs.declared.event.Event.{Event}
use Rattle.at_base.specs.declared.event.Moment.{Moment}
use Rattle.at_base.specs.declared.notice.Kind.{Kind}
use Rattle.at_base.specs.declared.notice.Kind.TheVariants as kinds
use Rattle.at_base.specs.declared.outs.Effect.{Effect}
use Rattle.at_base.specs.declared.outs.Effect.TheVariants as effects
use Rattle.at_base.specs.declared.outs.Ending.{Ending}
use Rattle.at_base.specs.declared.outs.Told.{Told}
use Rattle.at_base.specs.declared.record.Record.{Record}
use Rattle.at_base.specs.declared.record.Record.TheVariants as records
use Rattle.at_model.specs.Book.{Activity, Book, Leaf}
use Rattle.at_model.specs.Moves.{Change}
use Rattle.at_model.specs.Step.{Outcome, leaf_at, moment_of}
use Rattle.at_model.specs.World.{Node, World, Hosts}
use Rattle.model_laws.specs.Agreement.{IsIn}
use Rattle.agreement.specs.ActivityDeeds.{ActivityDeed, idles as goes_on, tells}
use Rattle.agreement.specs.Deeds.{StoodFor, happens}
use Rattle.agreement.specs.LeafDeeds.{LeafDeed, aborts, commits, dropped, for_durable, idles, leaves, prepares, rolls_back}
use Rattle.agreement.specs.Lives.{ends, happened_on}
use Rattle.agreement.proofs.OtherIds.{promise_id}
use Rattle.enlistments.specs.Moves.{Moved, TransactionDid, activity_did, activity_made, answered, leaf_did, leaf_made, registered, rested, transaction_did, transaction_made}
use Rattle.votes.specs.ToldOutcomes.{IsUnderAborted}
use Rattle.votes.specs.VotesAndOutcomes.{IsOutcome}
use Rattle.votes.specs.DurableVotes.{HasVoted, is_vote}
use Rattle.votes.proofs.Aborts.{AbortsBy, IsBad, VotesBy, aborts_by, leaf_aborts, leaf_stands, leaf_unended, no_record, no_vote, none_in, transaction_aborts, votes_by}
use Rattle.votes.proofs.ItemEnds.{is_open}
use Rattle.votes.proofs.SingleVotes.{is_promised}
use Rattle.votes.proofs.StepItems.{stands_as}
use Rattle.votes.proofs.NewVotes.{IsEnd}
use Rattle.votes.proofs.Premises.{StepPremises}

-- what aborts in a step, behind its vote
no_told : (id i : Numbers) (what : Ending) (t : Told) → IsEnd i what (effects.Told id t) → ⊥
no_told id i what t (inl e) = cc
no_told id i what t (inr (inl e)) = cc
no_told id i what t (inr (inr e)) = cc

no_activity : (m : Moment) (e : Event) (a : Activity) (entry : Option Record) (c : Change Activity) → ActivityDeed m e a entry c → (f : Effect) (id : Numbers) (what : Ending) → IsIn f c.effects → IsEnd id what f → ⊥
no_activity m e a entry c (goes_on left is none on none_happened) f id what i its = none_in f c.effects [] none_happened refl i
no_activity m e a entry c (tells told why none gone happened posted) f id what i its = by_place (subst (IsIn f) happened i)
  where
    by_place : IsIn f (effects.Told a.id told ∷ []) → ⊥
    by_place (inl g) = no_told a.id id what told (subst (IsEnd id what) g its)
    by_place (inr k) = k

pub abort_now : (hosts : Hosts) (u : World) (n : ℕ) (x : Node) (b : Book) (e : Event) (now : ℕ) (entry : Option Record) (o : Outcome) → StepPremises hosts u n x b e → IsOutcome hosts u → Moved b e now entry o
    → (id : Numbers) (what : Ending) (f : Effect) → IsBad what → IsIn f o.effects → IsEnd id what f → HasVoted u (record { node = n; id = id }) → IsUnderAborted u (record { node = n; id = id })
abort_now hosts u n x b e now entry o p j (transaction_did d) id what f bad i its votes =
    let h : AbortsBy d.deed.how d.old id = aborts_by d.deed.how d.old id what f bad (subst (IsIn f) (d.effects_are ∙ d.deed.happened) i) its in
    subst (λ k. IsUnderAborted u (record { node = n; id = k })) h.own
    (transaction_aborts hosts u n x b e p j d.old d.deed.how d.found d.deed.stood d.deed.heard h.by (subst (λ k. HasVoted u (record { node = n; id = k })) (sym h.own) votes))
abort_now hosts u n x b e now entry o p j (leaf_did d) id what f bad i its votes =
    leaf_aborts hosts u n x b e p j (moment_of b now) d.old entry d.change d.found d.deed what f id bad (subst (IsIn f) d.effects_are i) its votes
abort_now hosts u n x b e now entry o p j (activity_did d) id what f bad i its votes =
    absurd (no_activity (moment_of b now) e d.old entry d.change d.deed f id what (subst (IsIn f) d.effects_are i) its)
abort_now hosts u n x b e now entry o p j (registered d) id what f bad i its votes = absurd (none_in f o.effects [] (ap (λ (q : Outcome). q.effects) d.is) refl i)
abort_now hosts u n x b e now entry o p j (transaction_made d) id what f bad i its votes = absurd (none_in f o.effects [] (ap (λ (q : Outcome). q.effects) d.is) refl i)
abort_now hosts u n x b e now entry o p j (leaf_made d) id what f bad i its votes = absurd (none_in f o.effects [] (ap (λ (q : Outcome). q.effects) d.is) refl i)
abort_now hosts u n x b e now entry o p j (activity_made d) id what f bad i its votes = absurd (none_in f o.effects [] (ap (λ (q : Outcome). q.effects) d.is) refl i)
abort_now hosts u n x b e now entry o p j (answered d) id what f bad i its votes = absurd (none_in f o.effects [] (ap (λ (q : Outcome). q.effects) d.is) refl i)
abort_now hosts u n x b e now entry o p j (rested d) id what f bad i its votes = absurd (none_in f o.effects [] d.effects_are refl i)

-- what votes in a step hasn't ended, and doesn't end in it
pub record Unended (u : World) (n : ℕ) (es : List Effect) (id : Numbers) : Type 0 where
  pub before : ends id (happened_on n u.happened) ≡ []
  pub now : (what : Ending) (f : Effect) → IsBad what → IsIn f es → IsEnd id what f → ⊥

transaction_votes : (hosts : Hosts) (u : World) (n : ℕ) (x : Node) (b : Book) (e : Event) (now : ℕ) (entry : Option Record) (o : Outcome) → StepPremises hosts u n x b e → (d : TransactionDid b e now entry o)
    → (id : Numbers) (r : Record) → entry ≡ Some r → is_vote id r ≡ true → Unended u n o.effects id
transaction_votes hosts u n x b e now entry o p d id r entered vote = record {
  before = subst (λ k. ends k (happened_on n u.happened) ≡ []) h.own
      (is_open x.journal (happened_on n u.happened) d.old.id d.old (stands_as hosts u n x b e p d.old d.found) (subst (λ how. StoodFor how d.old) h.by d.deed.stood).0).unended;
  now = λ what f bad i its. none_in f o.effects (happens d.deed.how d.old) (d.effects_are ∙ d.deed.happened) (ap (λ how. happens how d.old) h.by) i;
}
  where
    h : VotesBy d.deed.how d.old id
    h = votes_by d.deed.how d.old d.deed.at r id (sym d.deed.records ∙ entered) vote

for_one : (kind : Kind) (s r : Record) → for_durable kind s ≡ Some r → s ≡ r
for_one kinds.Durable s r e = cc
for_one kinds.Volatile s r e = absurd cc

leaf_votes : (hosts : Hosts) (u : World) (n : ℕ) (x : Node) (b : Book) (e : Event) → StepPremises hosts u n x b e → (m : Moment) (l : Leaf) (entry : Option Record) (c : Change Leaf) → leaf_at b l.id ≡ Some l
    → LeafDeed m e l entry c → (id : Numbers) (r : Record) → entry ≡ Some r → is_vote id r ≡ true → Unended u n c.effects id
leaf_votes hosts u n x b e p m l entry c found (idles left is none on none_happened) id r entered vote = absurd (no_record r (sym none ∙ entered))
leaf_votes hosts u n x b e p m l entry c found (aborts state why none gone happened) id r entered vote = absurd (no_record r (sym none ∙ entered))
leaf_votes hosts u n x b e p m l entry c found (prepares to came state how known records_it on none_happened posted) id r entered vote =
    let same : records.LeafPrepared l.id to l.key l.value ≡ r = for_one l.kind (records.LeafPrepared l.id to l.key l.value) r (sym records_it ∙ entered) in
    let its : is_vote id (records.LeafPrepared l.id to l.key l.value) ≡ true = ap (is_vote id) same ∙ vote in
    let own : l.id ≡ id = promise_id id (records.LeafPrepared l.id to l.key l.value) (is_promised id (records.LeafPrepared l.id to l.key l.value) its) in
    record {
      before = subst (λ k. ends k (happened_on n u.happened) ≡ []) own (leaf_unended x.journal (happened_on n u.happened) l.id l (leaf_stands hosts u n x b e p l found));
      now = λ what f bad i ending. none_in f c.effects [] none_happened refl i;
    }
leaf_votes hosts u n x b e p m l entry c found (leaves to came state how known none gone none_happened posted) id r entered vote = absurd (no_record r (sym none ∙ entered))
leaf_votes hosts u n x b e p m l entry c found (dropped came kind none gone none_happened posted) id r entered vote = absurd (no_record r (sym none ∙ entered))
leaf_votes hosts u n x b e p m l entry c found (commits to came state known records_it gone happened posted) id r entered vote =
    let same : records.LeafCommitted l.id ≡ r = for_one l.kind (records.LeafCommitted l.id) r (sym records_it ∙ entered) in absurd (no_vote r (records.LeafCommitted l.id) id (ap (λ q. Some q) same) refl vote)
leaf_votes hosts u n x b e p m l entry c found (rolls_back to came state known records_it gone happened posted) id r entered vote =
    let same : records.LeafAborted l.id ≡ r = for_one l.kind (records.LeafAborted l.id) r (sym records_it ∙ entered) in absurd (no_vote r (records.LeafAborted l.id) id (ap (λ q. Some q) same) refl vote)

activity_enters : (m : Moment) (e : Event) (a : Activity) (entry : Option Record) (c : Change Activity) → ActivityDeed m e a entry c → entry ≡ None
activity_enters m e a entry c (goes_on left is none on none_happened) = none
activity_enters m e a entry c (tells told why none gone happened posted) = none

pub vote_now : (hosts : Hosts) (u : World) (n : ℕ) (x : Node) (b : Book) (e : Event) (now : ℕ) (entry : Option Record) (o : Outcome) → StepPremises hosts u n x b e → Moved b e now entry o
    → (id : Numbers) (r : Record) → entry ≡ Some r → is_vote id r ≡ true → Unended u n o.effects id
vote_now hosts u n x b e now entry o p (transaction_did d) id r entered vote = transaction_votes hosts u n x b e now entry o p d id r entered vote
vote_now hosts u n x b e now entry o p (leaf_did d) id r entered vote =
    subst (λ es. Unended u n es id) (sym d.effects_are) (leaf_votes hosts u n x b e p (moment_of b now) d.old entry d.change d.found d.deed id r entered vote)
vote_now hosts u n x b e now entry o p (activity_did d) id r entered vote = absurd (no_record r (sym (activity_enters (moment_of b now) e d.old entry d.change d.deed) ∙ entered))
vote_now hosts u n x b e now entry o p (registered d) id r entered vote = absurd (no_record r (sym d.unrecorded ∙ entered))
vote_now hosts u n x b e now entry o p (transaction_made d) id r entered vote = absurd (no_record r (sym d.unrecorded ∙ entered))
vote_now hosts u n x b e now entry o p (leaf_made d) id r entered vote = absurd (no_record r (sym d.unrecorded ∙ entered))
vote_now hosts u n x b e now entry o p (activity_made d) id r entered vote = absurd (no_record r (sym d.unrecorded ∙ entered))
vote_now hosts u n x b e now entry o p (answered d) id r entered vote = absurd (no_record r (sym d.unrecorded ∙ entered))
vote_now hosts u n x b e now entry o p (rested d) id r entered vote = absurd (no_record r (sym d.unrecorded ∙ entered))
