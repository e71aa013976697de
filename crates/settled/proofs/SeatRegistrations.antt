-- Whoever has a seat registers at its transaction; so where nobody registers at a transaction, nobody with a seat registers.
use Rattle.std.specs.Prelude.{ℕ, Option, Some, None, false, is_none, ◌≡◌, refl}
use Rattle.std.proofs.Common.{sym, subst, ap, ◌∙◌}
use Rattle.at_base.specs.Numbers.{Numbers}
use Rattle.at_base.specs.declared.epr.Epr.{Epr}
use Rattle.at_base.specs.declared.notice.Kind.{Kind}
use Rattle.at_base.specs.declared.notice.Kind.TheVariants as kinds
use Rattle.at_base.specs.declared.target.Target.TheVariants as targets
use Rattle.at_tables.specs.declared.cells.State.{State}
use Rattle.at_tables.specs.declared.cells.State.TheVariants as states
use Rattle.at_model.specs.Arrivals.{request_of}
use Rattle.at_model.specs.Book.{Book, Leaf, Request, Superior, Transaction, WorkRequest, leaf_id, transaction_id}
use Rattle.at_model.specs.Seats.{link_of}
use Rattle.at_model.specs.Step.{leaf_at, transaction_at}
use Rattle.at_model.specs.World.{Who, World, Hosts, HaveOwnAddresses}
use Rattle.model_laws.specs.ReachedWorlds.{Reached}
use Rattle.model_laws.proofs.DecisionLaws.{all_find, found_id}
use Rattle.model_laws.proofs.StepRegistrations.{Meets, by_request, by_work, leaf_standing, meets_at, same_at, transaction_standing}
use Rattle.model_laws.proofs.Registrations.{IsChosenAt, chosen_at, world_good}
use Rattle.model_laws.proofs.MovePosts.{At, Standing}
use Rattle.agreement.specs.LeafDeeds.{LeafStands, registers, waits, works}
use Rattle.enlistments.specs.Leads.{LeadsTo}
use Rattle.enlistments.proofs.Arrivals.{up_known}
use Rattle.enlistments.proofs.StepMoves.{book_ready}
use Rattle.owed.specs.Shape.{LinkKnows, StandsUnder}
use Rattle.votes.specs.NamedParticipants.{HasSeat}
use Rattle.settled.specs.OwedMessages.{Holds}
use Rattle.settled.specs.EndedRegistrations.{NoneRouted}
use Rattle.settled.proofs.Partners.{found_own, leaf_own, shape_at}
use Rattle.settled.proofs.KeptVotes.{NoneRegisters}

-- where it registers
there : (hosts : Hosts) (w : World) (distinct : HaveOwnAddresses hosts) (reached : Reached hosts w) (z x : Who) (number : ℕ) (kind : Kind) (e : Epr) → HasSeat w z number kind x
    → (world_good hosts w distinct reached).choices x.node x.id ≡ At e → LeadsTo hosts e z.node (targets.Registration z.id)
there hosts w distinct reached z x number kind e seat is =
    let c : IsChosenAt hosts (world_good hosts w distinct reached).choices z x = chosen_at hosts w distinct reached z x _ seat in
    subst (λ y. LeadsTo hosts y z.node (targets.Registration z.id)) (same_at c.endpoint e (sym c.chosen ∙ is)) c.place

link_there : (hosts : Hosts) (w : World) (distinct : HaveOwnAddresses hosts) (reached : Reached hosts w) (x : Who) (b : Book) (t : Transaction) (s : Superior) (r : Request) → Holds w x.node b
    → transaction_at b x.id ≡ Some t → t.superior ≡ Some s → s.request ≡ Some r → (world_good hosts w distinct reached).choices x.node x.id ≡ At r.registration
link_there hosts w distinct reached x b t s r h found under asks =
    let choices : Numbers → Standing = (world_good hosts w distinct reached).choices x.node in
    subst (λ i. choices i ≡ At r.registration) (found_id transaction_id x.id b.transactions t found)
    (meets_at (choices t.id) (transaction_standing t) r.registration
    (all_find (λ y. Meets (choices y.id) (transaction_standing y)) transaction_id x.id b.transactions t (up_known hosts w distinct reached x.node h.node b h.found h.up).says.fits.transactions found)
    (ap (λ o. by_request (request_of o)) under ∙ ap by_request asks))

leaf_there : (hosts : Hosts) (w : World) (distinct : HaveOwnAddresses hosts) (reached : Reached hosts w) (x : Who) (b : Book) (l : Leaf) (r : WorkRequest) → Holds w x.node b
    → leaf_at b x.id ≡ Some l → l.request ≡ Some r → (world_good hosts w distinct reached).choices x.node x.id ≡ At r.registration
leaf_there hosts w distinct reached x b l r h found asks =
    let choices : Numbers → Standing = (world_good hosts w distinct reached).choices x.node in
    subst (λ i. choices i ≡ At r.registration) (found_id leaf_id x.id b.leaves l found)
    (meets_at (choices l.id) (leaf_standing l) r.registration
    (all_find (λ y. Meets (choices y.id) (leaf_standing y)) leaf_id x.id b.leaves l (up_known hosts w distinct reached x.node h.node b h.found h.up).says.fits.leaves found) (ap by_work asks))

if_some : {A : Type 0} (o : Option A) → is_none o ≡ false → (a : A) × (o ≡ Some a)
if_some None e = absurd cc
if_some (Some a) e = (a, refl)

link_knows : (kind : Kind) (s : Superior) → LinkKnows s.request s.volatile.state s.volatile.coordinator × LinkKnows s.request s.durable.state s.durable.coordinator
    → LinkKnows s.request (link_of kind s).state (link_of kind s).coordinator
link_knows kinds.Volatile s h = h.0
link_knows kinds.Durable s h = h.1

pub none_registers : (hosts : Hosts) (w : World) → HaveOwnAddresses hosts → Reached hosts w → NoneRouted hosts w → NoneRegisters w
none_registers hosts w distinct reached h z x kind number seat = record {
  link = λ b t s holds found under state.
      let (r, asks) =
      if_some s.request
      (subst (λ d. LinkKnows s.request d (link_of kind s).coordinator) state
      (link_knows kind s (subst (λ o. StandsUnder t.phase o t.completion) under (shape_at hosts w reached x.node b holds x.id t found).1.1))).1 in
      h.links x.node b t s kind r z.node z.id holds (found_own b x.id t found) under state asks
      (there hosts w distinct reached z x number kind r.registration seat (link_there hosts w distinct reached x b t s r holds found under asks));
  leaf = λ b l holds found state.
      by_stand b l holds found state (all_find LeafStands leaf_id x.id b.leaves l (book_ready hosts w reached x.node holds.node b holds.found holds.up).leaves found);
}
  where
    other : (l : Leaf) (d : State) → l.state ≡ states.Registering → l.state ≡ d → (states.Registering ≡ d → ⊥) → ⊥
    other l d e f differ = differ (sym e ∙ f)

    not_active : states.Registering ≡ states.Active → ⊥
    not_active e = cc

    not_waiting : states.Registering ≡ states.PreparedSuccess → ⊥
    not_waiting e = cc

    by_stand : (b : Book) (l : Leaf) → Holds w x.node b → leaf_at b x.id ≡ Some l → l.state ≡ states.Registering → LeafStands l → ⊥
    by_stand b l holds found state (registers r is none asks) =
        h.leaves x.node b l r z.node z.id holds (leaf_own b x.id l found) state asks
        (there hosts w distinct reached z x number kind r.registration seat (leaf_there hosts w distinct reached x b l r holds found asks))
    by_stand b l holds found state (works c is knows none) = other l states.Active state is not_active
    by_stand b l holds found state (waits c is knows none vote) = other l states.PreparedSuccess state is not_waiting
