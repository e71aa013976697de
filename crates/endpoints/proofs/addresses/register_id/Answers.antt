use Rattle.std.proofs.Common.{◌∙◌}
use Rattle.endpoints.proofs.MessageIds.{renamed}
use Rattle.endpoints.proofs.addresses.register_id.Goals as goal

pub returns : goal.returns
returns c =
    renamed c.message_id.result _ _ (c.as_bytes.ensures.value ∙ (c.as_str.ensures ∙ c.in_ok-name.ensures)) c.message_id.ensures
