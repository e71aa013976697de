-- Nodes of a net that mirrors a world are such as these laws speak of.
use Rattle.std.specs.Prelude.{ℕ, [], ◌≡◌, Bool, true}
use Rattle.std.proofs.Common.{ap, arith, inl, inr, refl, subst, sym, ◌∙◌}
use Rattle.carried_meanings.specs.CarriedMeanings.{MeanOneThing, PostsDontWait, PostsSay, TicksAsk}
use Rattle.deliverables.specs.Bases.{ExamplesAreNodeBases}
use Rattle.deliveries.specs.ByteNets.{ServeAsNets}
use Rattle.http_post.specs.Laws.{WaitOrNot}
use Rattle.journal_at.specs.Format.{FileOf}
use Rattle.memory_net.specs.Closed.{StaysClosed}
use Rattle.mirrored_nets.proofs.FallenHosts.{IsBefore, NetLaws, up_there}
use Rattle.mirrored_nets.proofs.InputsHeard.{WaitsFor, waits_so}
use Rattle.mirrored_nets.proofs.StoodStarts.{read_in}
use Rattle.node_events.specs.NodeEvents.{one_if}
use Rattle.site_memory.specs.Devices.{calls_in, opening_in}
use Rattle.site_memory.specs.Disk.{ChosenAreImages}
use Rattle.site_memory.specs.Sites.{told_of}
use Rattle.site_memory.specs.Tells.{reads}
use Rattle.site_memory.specs.declared.arm.Choice.TheVariants.{Keep}
use Rattle.site_model.specs.Told.{Files}
use Rattle.small_envelopes.specs.SmallEnvelopes.{BareAreInLimits}
use Rattle.determined_nodes.specs.NetNodes.{NetNodes}
use Rattle.determined_nodes.specs.StartsAreDetermined.{StartsFrom}

one_waits : (waits : Bool) (lines : ℕ) → true ≡ waits → lines ≡ one_if waits → lines ≡ 1
one_waits waits lines e f = f ∙ ap one_if (sym e)

empty_from : (since fails : ℕ) (f : Files) → f ≡ record { first = []; second = [] } → StartsFrom since fails f
empty_from since fails f e = subst (StartsFrom since fails) (sym e) (inr ((none, none, record { first = omega arith; second = omega arith }), inl (omega arith)))
  where
    none : FileOf [] []
    none = record { listed = record { sized = tt; placed = tt }; is = inl (omega arith, refl) }

pub net_nodes : NetLaws → PostsSay → PostsDontWait → TicksAsk → MeanOneThing → WaitOrNot → BareAreInLimits → ExamplesAreNodeBases → ServeAsNets told_of → StaysClosed told_of → ChosenAreImages → NetNodes
net_nodes L says quiet ticks one wait_or_not small bases nets closes images = record {
  goes = λ count hosts clocks mails w i c h n old fails few M here up time opening calls room told.
      let before : IsBefore h old = record { opening = opening; calls = calls } in
      let is_up = up_there L count few hosts clocks mails mails w M i h h n here up c time old before in
      record { runs = is_up.runs; limit = M.limits i h n here up; records = is_up.records; open_is = is_up.holds; room = room; told = told };
  waits = λ count hosts clocks mails w i input lines bytes few M least brought waits.
      let for : WaitsFor lines bytes = waits_so says quiet ticks one wait_or_not small bases nets closes count few hosts clocks mails w M i least input lines bytes brought in
      one_waits for.waits lines (wait_or_not bytes true for.waits waits for.so) for.lines_are;
  marked = λ last since fails old marked.
      let (rs, stands, is) = marked.stands (read_in old) (images Keep (opening_in old.device) (calls_in old.device)) in
      inl (rs, stands);
  fresh = λ since fails old new.
      empty_from since fails (read_in old) (λ i. reads (new.opening i) (new.calls i));
}
