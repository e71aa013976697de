-- What nodes of the examples hold as their own, and what they are asked for.
use Rattle.std.specs.Prelude.{ℕ, List, [], ◌∷◌, ◌++◌, ◌≡◌, ◌≤◌, ◌<◌, ◌^◌, Bool, true, false, codes, decimal, if◌then◌else◌, length, nat_eq, None, Some}
use Rattle.std.proofs.Common.{refl, sym, ap, subst, arith, length-append, ◌∙◌}
use Rattle.std.proofs.lemmas.Fmt.{length-decimal-le}
use Rattle.uuid.proofs.TextLemmas.{by_index_length}
use Rattle.uuid.specs.Text.{digit_place, hex_digit, hyphen as uuid_hyphen, is_hyphen_place, lower, nibble}
use Rattle.uuid.specs.Uuid.{namespace_url}
use Rattle.at_base.specs.IdText.{IsId, id_text}
use Rattle.at_base.specs.MessageId.{message_id_of, version_5}
use Rattle.at_base.specs.Numbers.{Numbers}
use Rattle.at_base.specs.declared.event.Local.TheVariants as locals
use Rattle.at_base.specs.declared.notice.Kind.{Kind}
use Rattle.at_base.specs.declared.notice.Kind.TheVariants as kinds
use Rattle.at_base.specs.declared.target.Target.{Target}
use Rattle.at_base.specs.declared.target.Target.TheVariants as targets
use Rattle.at_model.specs.Activities.{asked_expires, service}
use Rattle.at_model.specs.Create.{identifier_of}
use Rattle.at_model.specs.World.{IsNumber, example_base, example_hosts}
use Rattle.context.specs.BodyTrees.{IsNarrow}
use Rattle.decision_log.specs.ShrunkJournals.{ShrinksTheSame}
use Rattle.deliverables.specs.Bases.{ExamplesAreNodeBases}
use Rattle.deliverables.specs.Deliverables.{NodesOwnIsDeliverable, deliverable}
use Rattle.deliverables.proofs.OwnPaths.{id_short}
use Rattle.deliveries.specs.ByteNets.{ServeAsNets}
use Rattle.deliveries.specs.Deliveries.{PostsBring}
use Rattle.endpoints.specs.Addresses.{IsWritten, PathsNameTargets, endpoint_of, path_of, protocol_of, slash, without_slash}
use Rattle.interposition.specs.Due.{WalksTheDue}
use Rattle.model_laws.specs.Compactions.{RecoversTheCompacted}
use Rattle.model_laws.specs.Laws.{IncarnationsRise, StepsKeepPlace}
use Rattle.node_worlds.specs.KeptRecords.{NetsKeep}
use Rattle.node_worlds.specs.Machines.{RunsOnMachines}
use Rattle.provenance.specs.Forms.{HaveOwn}
use Rattle.provenance.proofs.Recoveries.{recovery_passes_on}
use Rattle.provenance.proofs.Steps.{steps_pass_on}
use Rattle.site_model.specs.Told.{Told}
use Rattle.small_envelopes.specs.ShortEnvelopes.{IsBrief}
use Rattle.memory_net.specs.Closed.{ExamplesAskSo, IsExample, IsExampleBase, StaysClosed, closed}
use Rattle.memory_net.proofs.ClosedNets.{of_forms}

-- what is of a node's own is brief

pub base_brief : (n : ℕ) → n < 2 ^ 64 → length (example_base n) ≤ 36
base_brief n small = omega (arith, length-append (decimal n) (codes ".example"), length-decimal-le 20 n (omega arith) (omega (arith, small)) small)

identifier_brief : (n : ℕ) (id : Numbers) → n < 2 ^ 64 → IsId id → IsBrief (identifier_of (example_base n) id)
identifier_brief n id small written = omega (arith, length-append (example_base n) (codes "/t/" ++ id_text id), base_brief n small, id_short id written)

message_id_brief : (name : List ℕ) → IsBrief (message_id_of name)
message_id_brief name =
    omega (arith, by_index_length 36 (λ k. if is_hyphen_place k then uuid_hyphen else hex_digit lower (nibble (version_5 namespace_url name) (digit_place k))))

protocol_brief : (kind : Kind) → IsBrief (protocol_of kind)
protocol_brief kinds.Volatile = omega arith
protocol_brief kinds.Durable = omega arith

-- a node's own
owns : (count i : ℕ) → count < 2 ^ 64 → IsNumber (example_hosts count) i → HaveOwn closed (example_base i)
owns count i few (least, most) = record {
  endpoints = own;
  contexts = λ identifier expires id clean narrow written. record { identifier = clean; expires = narrow; coordination = omega arith; registration = own (targets.Registration id) written };
  parts = λ c h. (h.identifier, h.expires, h.registration);
  identifiers = λ id written. identifier_brief i id (omega (arith, most, few)) written;
  no_span = tt;
  creates = λ target. message_id_brief (example_base i ++ (path_of target ++ codes "#create"));
  registers = λ target. message_id_brief (example_base i ++ (path_of target ++ codes "#register"));
  works = λ target n. message_id_brief (example_base i ++ (path_of target ++ (codes "#work-" ++ decimal n)));
  atomic_type = omega arith;
  protocols = protocol_brief;
  completion = omega arith;
}
  where
    own : (target : Target) → IsWritten target → IsExample (endpoint_of (example_base i) target)
    own target written = record { number = i; least = least; small = omega (arith, most, few); target = target; written = written; same = refl }

-- a base has no slash at its end
without_end : (front : List ℕ) (b : ℕ) → nat_eq b slash ≡ false → without_slash (front ++ b ∷ []) ≡ front ++ b ∷ []
without_end [] b e = ap (λ c. if c then [] else b ∷ []) e
without_end (x ∷ []) b e = ap (λ (bytes : List ℕ). x ∷ bytes) (without_end [] b e)
without_end (x ∷ (y ∷ front)) b e = ap (λ (bytes : List ℕ). x ∷ bytes) (without_end (y ∷ front) b e)

split : (n : ℕ) → example_base n ≡ (codes "http://n" ++ (decimal n ++ codes ".exampl")) ++ 101 ∷ []
split n = ap (λ (bytes : List ℕ). codes "http://n" ++ bytes) (last (decimal n))
  where
    last : (digits : List ℕ) → digits ++ codes ".example" ≡ (digits ++ codes ".exampl") ++ 101 ∷ []
    last [] = refl
    last (d ∷ digits) = ap (λ (bytes : List ℕ). d ∷ bytes) (last digits)

bare : (n : ℕ) → without_slash (example_base n) ≡ example_base n
bare n = ap without_slash (split n) ∙ without_end (codes "http://n" ++ (decimal n ++ codes ".exampl")) 101 refl ∙ sym (split n)

at_service : (url : List ℕ) (target : Target) → (h : IsExampleBase url) → service url (path_of target) ≡ endpoint_of (example_base h.number) target
at_service url target h = ap (λ (base : List ℕ). record { address = without_slash base ++ path_of target; params = [] }) h.same ∙ ap (λ (base : List ℕ). record { address = base ++ path_of target; params = [] }) (bare h.number)

asked : (url : List ℕ) (target : Target) → IsWritten target → IsExampleBase url → IsExample (service url (path_of target))
asked url target written h = record { number = h.number; least = h.least; small = h.small; target = target; written = written; same = at_service url target h }

narrow : (ms : ℕ) → ms < 2 ^ 32 → IsNarrow (asked_expires ms)
narrow ms h = by (nat_eq ms 0)
  where
    by : (b : Bool) → IsNarrow (if b then None else Some ms)
    by true = tt
    by false = h

module _ (bases : ExamplesAreNodeBases) (own : NodesOwnIsDeliverable) where
  reached : (url : List ℕ) (target : Target) → IsWritten target → IsExampleBase url → deliverable.endpoint (service url (path_of target))
  reached url target written h = subst deliverable.endpoint (sym (at_service url target h)) ((own (example_base h.number) (bases h.number h.small)).endpoints target written)

  pub ask_so : ExamplesAskSo
  ask_so (locals.Begin coordinator ms) (h, few) = ((reached coordinator targets.Activation tt h, narrow ms few), (asked coordinator targets.Activation tt h, narrow ms few))
  ask_so (locals.Interpose activity coordinator) h = (reached coordinator targets.Activation tt h, asked coordinator targets.Activation tt h)
  ask_so (locals.Work activity url kind vote key value) (h, k, v) = ((reached url targets.Work tt h, k, v), (asked url targets.Work tt h, k.short, v.short))
  ask_so (locals.Commit activity) h = (tt, tt)
  ask_so (locals.Rollback activity) h = (tt, tt)

pub stays_closed : {S : Type 0} (told : S → Told) → ExamplesAreNodeBases → PathsNameTargets → StepsKeepPlace → WalksTheDue → RecoversTheCompacted → ShrinksTheSame → IncarnationsRise → PostsBring
    → RunsOnMachines told → NetsKeep told → ServeAsNets told → StaysClosed told
stays_closed told bases paths place law compacts shrinks rises bring machines keep nets count net ms few serves asks =
    of_forms closed (steps_pass_on closed) (recovery_passes_on closed) paths place law compacts shrinks rises bring (example_hosts count)
    (λ i number. bases i (omega (arith, number.1, few))) (λ i number. owns count i few number) told machines keep nets net ms serves asks
