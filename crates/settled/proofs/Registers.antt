-- Who registers at a transaction of a node is owed an answer, over each step; and nobody begins to.
use Rattle.std.specs.Prelude.{ℕ, List, Option, Some, None, true, false, is_none, ◌≡◌, ◌⊎◌, refl}
use Rattle.std.proofs.Common.{inl, inr, sym, subst, ap, ◌∙◌}
use Rattle.std.proofs.lemmas.Slice.Eq.{bytes_eq-Decides}
use Rattle.at_base.specs.Numbers.{Numbers}
use Rattle.at_base.specs.declared.notice.Kind.{Kind}
use Rattle.at_base.specs.declared.message.Message.{Message}
use Rattle.at_base.specs.declared.message.Message.TheVariants as messages
use Rattle.at_base.specs.declared.event.Arrived.{Arrived}
use Rattle.at_base.specs.declared.event.Event.TheVariants as events
use Rattle.at_base.specs.declared.target.Target.TheVariants as targets
use Rattle.at_tables.specs.declared.cells.State.TheVariants as states
use Rattle.endpoints.specs.Addresses.{register_id}
use Rattle.at_model.specs.Arrivals.{relates_to}
use Rattle.at_model.specs.Book.{Book, Leaf, Request, Superior, Transaction, WorkRequest, leaf_id, transaction_id}
use Rattle.at_model.specs.Leaves.{leaf_target}
use Rattle.at_model.specs.Seats.{link_of}
use Rattle.at_model.specs.Step.{leaf_at, step, transaction_at}
use Rattle.at_model.specs.World.{Posted, Who, World, Hosts}
use Rattle.endpoints.specs.Forms.{takes}
use Rattle.model_laws.proofs.DecisionLaws.{found_id}
use Rattle.enlistments.specs.Leads.{LeadsTo}
use Rattle.owed.specs.LinkRegistrations.{IsAnsweredOn, JoinsStill}
use Rattle.owed.specs.Leaves.{AnswersRegister, IsRegistered, RegistersStill}
use Rattle.owed.specs.Registers.{TellsRegistered}
use Rattle.owed.specs.Seats.{posts_of}
use Rattle.owed.specs.Links.{superior_left}
use Rattle.owed.proofs.LinkRegistrationBooks.{links_join}
use Rattle.owed.proofs.RegisterAnswers.{registers_are_answered, steps_owe_leaves}
use Rattle.paired.specs.Partners.{IsPlace, participant_of}
use Rattle.paired.proofs.Partners.{partners_are_paired}
use Rattle.settled.specs.CalmSteps.{Goes}
use Rattle.settled.specs.OwedMessages.{Comes, Holds, IsRegisterOf, IsRegisteredBy, OwesRegistered, RegistrationsAreOwed}
use Rattle.settled.specs.EndedRegistrations.{NoneRouted}
use Rattle.settled.proofs.CalmSteps.{base_is, book_after, comes_as, held_elsewhere, holds_after, holds_before, leads_participant, new_comes, or_arrives, or_elsewhere, ready, same_book, shaped}
use Rattle.settled.proofs.Partners.{found_own, leaf_own}
use Rattle.settled.proofs.Outcomes.{leaf_placed, transaction_placed}
use Rattle.settled.proofs.EarlierItems.{LeafStood, TransactionStood, leaf_stood, transaction_stood}

takes_registered : (m : Message) (id : Numbers) (kind : Kind) → AnswersRegister m → takes (targets.Participant id kind) m ≡ true
takes_registered (messages.RegisterResponse c) id kind h = refl
takes_registered (messages.Fault name) id kind h = refl
takes_registered other id kind h = absurd h

relates_itself : (o : Option (List ℕ)) (id : List ℕ) → o ≡ Some id → relates_to o id ≡ true
relates_itself o id e = ap (λ y. relates_to y id) e ∙ (bytes_eq-Decides id id).1 refl

-- the Register is answered where it arrives
answer_comes : (hosts : Hosts) (u v : World) (before after : List Posted) → (g : Goes hosts u v before after) → (x : Who) (kind : Kind) (m : ℕ) (id : Numbers) (a : Arrived) → IsPlace hosts x
    → g.event ≡ events.Arrived a → IsRegisterOf hosts x kind id a → Comes hosts after x.node (IsRegisteredBy hosts x kind)
answer_comes hosts u v before after g x kind m id a place came r =
    let (p, i, goes, relates, answers) =
    subst (λ d. TellsRegistered (participant_of hosts x kind) a.id (posts_of (step g.book d g.now true).outs)) (sym came)
    (registers_are_answered.answered g.book a g.now id r.register (participant_of hosts x kind) r.target r.says r.reply r.fault) in
    comes_as hosts after x.node
    (λ b e. record {
      target = ap (λ (y : Arrived). y.target) e;
      relates = relates_itself b.relates (register_id (hosts.base_of x.node) (targets.Participant x.id kind)) (ap (λ (y : Arrived). y.relates) e ∙ relates ∙ r.named);
      answers = subst AnswersRegister (sym (ap (λ (y : Arrived). y.message) e)) answers;
    })
    (new_comes hosts u v before after g x.node p (participant_of hosts x kind) (targets.Participant x.id kind) i goes (leads_participant hosts x kind (participant_of hosts x kind) g.distinct place refl)
    (takes_registered p.message x.id kind answers))

registered_on : (hosts : Hosts) (u v : World) (before after : List Posted) → (g : Goes hosts u v before after) → (x : Who) (kind : Kind) (m : ℕ) (id : Numbers) → IsPlace hosts x
    → (x.node ≡ g.number → (a : Arrived) → g.event ≡ events.Arrived a → IsRegisteredBy hosts x kind a → ⊥) → OwesRegistered hosts before x kind m id → OwesRegistered hosts after x kind m id
registered_on hosts u v before after g x kind m id place unanswered owed = by_owed owed
  where
    by_register : (c : Comes hosts before m (IsRegisterOf hosts x kind id)) → Comes hosts after m (IsRegisterOf hosts x kind id) ⊎ ((m ≡ g.number) × (g.event ≡ events.Arrived c.arrived)) → OwesRegistered hosts after x kind m id
    by_register c (inl stays) = inl stays
    by_register c (inr (here, came)) = inr (answer_comes hosts u v before after g x kind m id c.arrived place came c.says)

    by_answer : (c : Comes hosts before x.node (IsRegisteredBy hosts x kind)) → Comes hosts after x.node (IsRegisteredBy hosts x kind) ⊎ ((x.node ≡ g.number) × (g.event ≡ events.Arrived c.arrived))
        → OwesRegistered hosts after x kind m id
    by_answer c (inl stays) = inr stays
    by_answer c (inr (here, came)) = absurd (unanswered here c.arrived came c.says)

    by_owed : OwesRegistered hosts before x kind m id → OwesRegistered hosts after x kind m id
    by_owed (inl c) = by_register c (or_arrives hosts u v before after g m _ c)
    by_owed (inr c) = by_answer c (or_arrives hosts u v before after g x.node _ c)

-- A link that registers behind the step registered before, under the same request, and isn't answered.
pub record LinkJoined (hosts : Hosts) (u v : World) (before after : List Posted) (g : Goes hosts u v before after) (t : Transaction) (s : Superior) (kind : Kind) : Type 0 where
  pub old : Transaction
  pub superior : Superior
  pub found : transaction_at g.book old.id ≡ Some old
  pub id_is : old.id ≡ t.id
  pub under : old.superior ≡ Some superior
  pub state : (link_of kind superior).state ≡ states.Registering
  pub request : s.request ≡ superior.request
  pub unanswered : IsAnsweredOn g.book.base g.event old kind → ⊥

pub link_joined : (hosts : Hosts) (u v : World) (before after : List Posted) → (g : Goes hosts u v before after) → (t : Transaction) (s : Superior) (kind : Kind)
    → transaction_at (book_after g) t.id ≡ Some t → t.superior ≡ Some s → (link_of kind s).state ≡ states.Registering → LinkJoined hosts u v before after g t s kind
link_joined hosts u v before after g t s kind found under state = by_superior o.old.superior refl
  where
    o : TransactionStood g.book t
    o = transaction_stood hosts u v before after g t found

    id_is : o.old.id ≡ t.id
    id_is = found_id transaction_id t.id g.book.transactions o.old o.found

    own : transaction_at g.book o.old.id ≡ Some o.old
    own = found_own g.book t.id o.old o.found

    never : t.superior ≡ Some s → o.old.superior ≡ None → ⊥
    never e f = let k : false ≡ true = sym (ap is_none e) ∙ o.root ∙ ap is_none f in cc

    by_superior : (y : Option Superior) → o.old.superior ≡ y → LinkJoined hosts u v before after g t s kind
    by_superior None root = absurd (never under root)
    by_superior (Some y) was =
        let (same, unanswered) =
        subst (λ q. JoinsStill g.book.base g.event o.old y q) (ap superior_left (ap (transaction_at (book_after g)) id_is ∙ found) ∙ under)
        (links_join.joins g.book g.event g.now (ready hosts u v before after g) (shaped hosts u v before after g) o.old y own was) kind state in
        record { old = o.old; superior = y; found = own; id_is = id_is; under = was; state = same.0; request = same.1; unanswered = unanswered }

pub record LeafJoined (hosts : Hosts) (u v : World) (before after : List Posted) (g : Goes hosts u v before after) (l : Leaf) : Type 0 where
  pub old : Leaf
  pub found : leaf_at g.book old.id ≡ Some old
  pub id_is : old.id ≡ l.id
  pub kind_is : l.kind ≡ old.kind
  pub state : old.state ≡ states.Registering
  pub request : l.request ≡ old.request
  pub unanswered : IsRegistered g.book.base g.event old → ⊥

pub leaf_joined : (hosts : Hosts) (u v : World) (before after : List Posted) → (g : Goes hosts u v before after) → (l : Leaf) → leaf_at (book_after g) l.id ≡ Some l → l.state ≡ states.Registering
    → LeafJoined hosts u v before after g l
leaf_joined hosts u v before after g l found state =
    let o : LeafStood g.book l = leaf_stood hosts u v before after g l found in
    let held : Holds u g.number g.book = holds_before hosts u v before after g in
    let id_is : o.old.id ≡ l.id = found_id leaf_id l.id g.book.leaves o.old o.found in
    let own : leaf_at g.book o.old.id ≡ Some o.old = leaf_own g.book l.id o.old o.found in
    let (same, unanswered) =
    subst (λ q. RegistersStill g.book.base g.event o.old q) (ap (leaf_at (book_after g)) id_is ∙ found)
    (steps_owe_leaves.leaves g.book g.event g.now (ready hosts u v before after g) o.old own
    ((partners_are_paired.votes hosts u g.distinct g.reached g.number held.node g.book held.found held.up).alone o.old own)).1.1.1 state in
    record { old = o.old; found = own; id_is = id_is; kind_is = o.kind; state = same.0; request = same.1; unanswered = unanswered }

pub registrations_kept : (hosts : Hosts) (Asked : ℕ → Type 0) (u v : World) (before after : List Posted) → (g : Goes hosts u v before after) → RegistrationsAreOwed hosts Asked u before
    → RegistrationsAreOwed hosts Asked v after
registrations_kept hosts Asked u v before after g h = record {
  links = λ n b t s kind r m id asked holds found under state request leads. links_at n b t s kind r m id asked holds found under state request leads (or_elsewhere n g.number);
  leaves = λ n b l r m id asked holds found state request leads. leaves_at n b l r m id asked holds found state request leads (or_elsewhere n g.number);
}
  where
    links_at : (n : ℕ) (b : Book) (t : Transaction) (s : Superior) (kind : Kind) (r : Request) (m : ℕ) (id : Numbers) → Asked n → Holds v n b → transaction_at b t.id ≡ Some t
        → t.superior ≡ Some s → (link_of kind s).state ≡ states.Registering → s.request ≡ Some r → LeadsTo hosts r.registration m (targets.Registration id)
        → (n ≡ g.number) ⊎ (n ≡ g.number → ⊥) → OwesRegistered hosts after (record { node = n; id = t.id }) kind m id
    links_at n b t s kind r m id asked holds found under state request leads (inl here) =
        let same : b ≡ book_after g = same_book v g.number b (book_after g) (subst (λ i. Holds v i b) here holds) (holds_after hosts u v before after g) in
        let held : Holds u g.number g.book = holds_before hosts u v before after g in
        let j : LinkJoined hosts u v before after g t s kind = link_joined hosts u v before after g t s kind (subst (λ c. transaction_at c t.id ≡ Some t) same found) under state in
        subst (λ i. OwesRegistered hosts after (record { node = i; id = t.id }) kind m id) (sym here)
        (subst (λ i. OwesRegistered hosts after (record { node = g.number; id = i }) kind m id) j.id_is
        (registered_on hosts u v before after g (record { node = g.number; id = j.old.id }) kind m id (transaction_placed hosts u g.distinct g.reached g.number g.book held j.old.id j.old j.found)
        (λ at a came k. j.unanswered (record {
          message = a;
          came = came;
          target = k.target;
          relates = subst (λ base. relates_to a.relates (register_id base (targets.Participant j.old.id kind)) ≡ true) (sym (base_is hosts u v before after g)) k.relates;
          answers = k.answers;
        }))
        (h.links g.number g.book j.old j.superior kind r m id (subst Asked here asked) held j.found j.under j.state (sym j.request ∙ request) leads)))
    links_at n b t s kind r m id asked holds found under state request leads (inr other) =
        let held : Holds u n b = held_elsewhere hosts u v before after g n b other holds in
        registered_on hosts u v before after g (record { node = n; id = t.id }) kind m id (transaction_placed hosts u g.distinct g.reached n b held t.id t found)
        (λ at a came k. absurd (other at)) (h.links n b t s kind r m id asked held found under state request leads)

    leaves_at : (n : ℕ) (b : Book) (l : Leaf) (r : WorkRequest) (m : ℕ) (id : Numbers) → Asked n → Holds v n b → leaf_at b l.id ≡ Some l → l.state ≡ states.Registering → l.request ≡ Some r
        → LeadsTo hosts r.registration m (targets.Registration id) → (n ≡ g.number) ⊎ (n ≡ g.number → ⊥) → OwesRegistered hosts after (record { node = n; id = l.id }) l.kind m id
    leaves_at n b l r m id asked holds found state request leads (inl here) =
        let same : b ≡ book_after g = same_book v g.number b (book_after g) (subst (λ i. Holds v i b) here holds) (holds_after hosts u v before after g) in
        let held : Holds u g.number g.book = holds_before hosts u v before after g in
        let j : LeafJoined hosts u v before after g l = leaf_joined hosts u v before after g l (subst (λ c. leaf_at c l.id ≡ Some l) same found) state in
        subst (λ i. OwesRegistered hosts after (record { node = i; id = l.id }) l.kind m id) (sym here)
        (subst (λ k. OwesRegistered hosts after (record { node = g.number; id = l.id }) k m id) (sym j.kind_is)
        (subst (λ i. OwesRegistered hosts after (record { node = g.number; id = i }) j.old.kind m id) j.id_is
        (registered_on hosts u v before after g (record { node = g.number; id = j.old.id }) j.old.kind m id (leaf_placed hosts u g.distinct g.reached g.number g.book held j.old.id j.old j.found)
        (λ at a came k. j.unanswered (record {
          message = a;
          came = came;
          target = k.target;
          relates = subst (λ base. relates_to a.relates (register_id base (leaf_target j.old)) ≡ true) (sym (base_is hosts u v before after g)) k.relates;
          answers = k.answers;
        }))
        (h.leaves g.number g.book j.old r m id (subst Asked here asked) held j.found j.state (sym j.request ∙ request) leads))))
    leaves_at n b l r m id asked holds found state request leads (inr other) =
        let held : Holds u n b = held_elsewhere hosts u v before after g n b other holds in
        registered_on hosts u v before after g (record { node = n; id = l.id }) l.kind m id (leaf_placed hosts u g.distinct g.reached n b held l.id l found)
        (λ at a came k. absurd (other at)) (h.leaves n b l r m id asked held found state request leads)

-- nobody begins to register
pub none_routed_kept : (hosts : Hosts) (u v : World) (before after : List Posted) → (g : Goes hosts u v before after) → NoneRouted hosts u → NoneRouted hosts v
none_routed_kept hosts u v before after g h = record {
  links = λ n b t s kind r m id holds found under state request leads. links_at n b t s kind r m id holds found under state request leads (or_elsewhere n g.number);
  leaves = λ n b l r m id holds found state request leads. leaves_at n b l r m id holds found state request leads (or_elsewhere n g.number);
}
  where
    links_at : (n : ℕ) (b : Book) (t : Transaction) (s : Superior) (kind : Kind) (r : Request) (m : ℕ) (id : Numbers) → Holds v n b → transaction_at b t.id ≡ Some t → t.superior ≡ Some s
        → (link_of kind s).state ≡ states.Registering → s.request ≡ Some r → LeadsTo hosts r.registration m (targets.Registration id) → (n ≡ g.number) ⊎ (n ≡ g.number → ⊥) → ⊥
    links_at n b t s kind r m id holds found under state request leads (inl here) =
        let same : b ≡ book_after g = same_book v g.number b (book_after g) (subst (λ i. Holds v i b) here holds) (holds_after hosts u v before after g) in
        let j : LinkJoined hosts u v before after g t s kind = link_joined hosts u v before after g t s kind (subst (λ c. transaction_at c t.id ≡ Some t) same found) under state in
        h.links g.number g.book j.old j.superior kind r m id (holds_before hosts u v before after g) j.found j.under j.state (sym j.request ∙ request) leads
    links_at n b t s kind r m id holds found under state request leads (inr other) =
        h.links n b t s kind r m id (held_elsewhere hosts u v before after g n b other holds) found under state request leads

    leaves_at : (n : ℕ) (b : Book) (l : Leaf) (r : WorkRequest) (m : ℕ) (id : Numbers) → Holds v n b → leaf_at b l.id ≡ Some l → l.state ≡ states.Registering → l.request ≡ Some r
        → LeadsTo hosts r.registration m (targets.Registration id) → (n ≡ g.number) ⊎ (n ≡ g.number → ⊥) → ⊥
    leaves_at n b l r m id holds found state request leads (inl here) =
        let same : b ≡ book_after g = same_book v g.number b (book_after g) (subst (λ i. Holds v i b) here holds) (holds_after hosts u v before after g) in
        let j : LeafJoined hosts u v before after g l = leaf_joined hosts u v before after g l (subst (λ c. leaf_at c l.id ≡ Some l) same found) state in
        h.leaves g.number g.book j.old r m id (holds_before hosts u v before after g) j.found j.state (sym j.request ∙ request) leads
    leaves_at n b l r m id holds found state request leads (inr other) = h.leaves n b l r m id (held_elsewhere hosts u v before after g n b other holds) found state request leads
