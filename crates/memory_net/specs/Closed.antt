-- Nets whose nodes know no endpoints but those of nodes of the examples, and no texts but brief ones.
use Rattle.std.specs.Prelude.{ℕ, List, ◌≡◌, ◌≤◌, ◌<◌, ◌^◌, Some, unwrap_or}
use Rattle.addressing.specs.PostAddresses.{post_to_of}
use Rattle.addressing.specs.declared.post_to.PostTo.{PostTo}
use Rattle.at_base.specs.declared.epr.Epr.{Epr}
use Rattle.at_base.specs.declared.event.Local.{Local}
use Rattle.at_base.specs.declared.event.Local.TheVariants as locals
use Rattle.at_base.specs.declared.message.Context.{Context}
use Rattle.at_base.specs.declared.target.Target.{Target}
use Rattle.at_model.specs.World.{Hosts, example_base, example_hosts, new_nodes, receiver_of}
use Rattle.context.specs.BodyTrees.{IsNarrow}
use Rattle.deliverables.specs.Deliverables.{IsDeliverableField, deliverable}
use Rattle.deliveries.specs.ByteNets.{Serves}
use Rattle.deliveries.specs.DeliverableNets.{IsNetOf}
use Rattle.endpoints.specs.Addresses.{IsWritten, endpoint_of}
use Rattle.node_worlds.specs.Nets.{Net}
use Rattle.provenance.specs.Forms.{Forms, IsLocal}
use Rattle.site_model.specs.Told.{Told}
use Rattle.small_envelopes.specs.ShortEnvelopes.{IsBrief}
use Rattle.memory_net.specs.Mails.{number_at}

-- an endpoint of a node of the examples
pub record IsExample (endpoint : Epr) : Type 0 where
  pub number : ℕ
  pub least : 1 ≤ number
  pub small : number < 2 ^ 64
  pub target : Target
  pub written : IsWritten target
  pub same : endpoint ≡ endpoint_of (example_base number) target

-- a context of brief texts, under which one registers there
pub record IsExampleContext (context : Context) : Type 0 where
  pub identifier : IsBrief context.identifier
  pub expires : IsNarrow context.expires
  pub coordination : IsBrief context.coordination
  pub registration : IsExample context.registration

-- all texts are brief, and all endpoints are of such nodes
abbrev pub closed : Forms
closed = record {
  endpoint = IsExample;
  context = IsExampleContext;
  identifier = IsBrief;
  span = IsNarrow;
  id = IsBrief;
  uri = IsBrief;
  field = IsBrief;
}

-- the base of one
pub record IsExampleBase (base : List ℕ) : Type 0 where
  pub number : ℕ
  pub least : 1 ≤ number
  pub small : number < 2 ^ 64
  pub same : base ≡ example_base number

-- A request that names such nodes alone, with a time, a key and a value that can be written.
abbrev pub IsExampleRequest : Local → Type 0
IsExampleRequest (locals.Begin coordinator ms) = IsExampleBase coordinator × (ms < 2 ^ 32)
IsExampleRequest (locals.Interpose activity coordinator) = IsExampleBase coordinator
IsExampleRequest (locals.Work activity url kind vote key value) = IsExampleBase url × IsDeliverableField key × IsDeliverableField value
IsExampleRequest (locals.Commit activity) = Unit {0}
IsExampleRequest (locals.Rollback activity) = Unit {0}

-- so it asks for nothing else
abbrev pub ExamplesAskSo : Type 0
ExamplesAskSo = (l : Local) → IsExampleRequest l → IsLocal deliverable l × IsLocal closed l

-- what the programs of a net's nodes request has what is asked of endpoints and texts
abbrev pub AsksOf : {S : Type 0} (F : Forms) (told : S → Told) (hosts : Hosts) (net : Net) (ms : ℕ → S) → Serves told hosts net ms → Type 0
AsksOf F told hosts net ms (Serves.opened is on) = Unit {0}
AsksOf F told hosts net ms (Serves.waited ls serves left) = AsksOf F told hosts net ls serves
AsksOf F told hosts net ms (Serves.started u ls i p n limit t f serves here down files start goes is) = AsksOf F told hosts u ls serves
AsksOf F told hosts net ms (Serves.start_cut_off u ls i p limit t s l c f serves here down files begins crashes stands is) = AsksOf F told hosts u ls serves
AsksOf F told hosts net ms (Serves.start_recorded u ls i p limit t s l c f serves here down files begins crashes small stands is) = AsksOf F told hosts u ls serves
AsksOf F told hosts net ms (Serves.turned u ls i p n m result role shrunk t ps serves here up turn runs carries sent goes is) = AsksOf F told hosts u ls serves
AsksOf F told hosts net ms (Serves.asked u ls i p n m id l t ps serves here up local done sent goes is) = IsLocal F l × AsksOf F told hosts u ls serves
AsksOf F told hosts net ms (Serves.cut_off u ls i p n m result role shrunk t s l c front rest ds ps serves here up turn carries crashes begun sent stands is) = AsksOf F told hosts u ls serves
AsksOf F told hosts net ms (Serves.asked_cut_off u ls i p n m answer l t s made c now step doing ps serves here up local asks crashes does sent stands is) = IsLocal F l × AsksOf F told hosts u ls serves
AsksOf F told hosts net ms (Serves.asked_undone u ls i p n m answer l t s made c serves here up asks crashes stands is) = AsksOf F told hosts u ls serves
AsksOf F told hosts net ms (Serves.idled u i p n serves here up is) = AsksOf F told hosts u ms serves
AsksOf F told hosts net ms (Serves.ended u i p n serves here up is) = AsksOf F told hosts u ms serves
AsksOf F told hosts net ms (Serves.crashed ls i s p c serves here down image on goes) = AsksOf F told hosts net ls serves

-- Where they ask for endpoints of examples and brief texts alone, such are all that are held, recorded and posted.
abbrev pub StaysClosed : {S : Type 0} → (S → Told) → Type 0
StaysClosed {S} told =
    (count : ℕ) (net : Net) (ms : ℕ → S) → count < 2 ^ 64 → (serves : Serves told (example_hosts count) net ms) → AsksOf closed told (example_hosts count) net ms serves
    → IsNetOf closed (example_hosts count) net

-- The host to which a post to such an endpoint goes says which node receives it.
abbrev pub HostsTellReceivers : Type 0
HostsTellReceivers =
    (count : ℕ) (endpoint : Epr) (to : PostTo) → count < 2 ^ 64 → IsExample endpoint → post_to_of endpoint.address ≡ Some to
    → unwrap_or (receiver_of (new_nodes example_base count 1) (Some endpoint)) 0 ≡ number_at count to.host
